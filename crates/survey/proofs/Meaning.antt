-- What Survey means. Assumes nothing.
use Prim.Native.Nat.{ℕ}
use mathlib.Core.Path.{◌≡◌, refl, sym, ◌∙◌}
use mathlib.Core.Bool.{true, false≢true, true≢false}
use mathlib.Core.Logic.{inl, inr}
use mathlib.Core.List.{List, ◌++◌}
use native.Mathlib.Omega.{arith}
use lib.Dec.{eqb, leb}
use lib.ListN.{length, get_or-append}
use borrow.Author.Tests.{eqb-true, eqb-false, eq-eqb, leb-true, le-leb}
use Rattle.folds.proofs.Tests.{which}
use Rattle.circuit.specs.Tools.{over}
use Rattle.circuit.specs.Survey.{survey, front_size, interest_size}
use Rattle.circuit.proofs.Survey.{none_sized, survey_is}
use Rattle.map.specs.Map.{gate_count, circuit}
use Rattle.map.specs.Check.{first_failed, map_tests}
use Rattle.map.proofs.Laws.{past, no_test, none_failed, passed_before}
use Rattle.map.proofs.Facts.{facts, well_formed}
use Rattle.map.proofs.Answers.{behind_accepted}
use Rattle.map.proofs.Described.{tested, map_number}
use Rattle.circuit.proofs.Over.{over_rest, over_long}
use Rattle.state.proofs.Meaning.{behind}
use Rattle.survey.specs.Survey.{start_tests, survey_tests, survey_by, survey_effect, SurveyDoes, SurveyAccepts, SurveyNumber, SurveyRefuses}
use Rattle.survey.proofs.Starts.{behind_start, start_of, of_start, start_number}

module _ (m s out : List ℕ) where
  abbrev number : ℕ
  number = first_failed (map_tests m ++ survey_tests m s out)

  pub none : (survey_effect m s out).accepted ≡ true → number ≡ 0
  unfolding survey_effect survey_by
  none e = elim (which (eqb number 0)) [
    | inl q ↦ eqb-true number 0 q
    | inr q ↦ absurd (false≢true (rw q at e))
  ]

  number_is : (survey_effect m s out).number ≡ number
  unfolding survey_effect survey_by
  number_is = elim (which (eqb number 0)) [
    | inl q ↦ rw q (sym (eqb-true number 0 q))
    | inr q ↦ rw q refl
  ]

  accepted : number ≡ 0 → (survey_effect m s out).accepted ≡ true
  unfolding survey_effect survey_by
  accepted e = rw (eq-eqb number 0 e)

  -- the two parts of a call's tests behind the map's
  room : first_failed (survey_tests m s out) ≡ 0 → (first_failed (start_tests m s) ≡ 0) × (leb (gate_count m) (length out) ≡ true)
  unfolding survey_tests
  room e = (let k = passed_before (start_tests m s) _ e in (k, (none_failed 13 _ _ (sym (behind_start m s _ k) ∙ e)).0))

  of_room : first_failed (start_tests m s) ≡ 0 → leb (gate_count m) (length out) ≡ true → first_failed (survey_tests m s out) ≡ 0
  unfolding survey_tests
  of_room k l = behind_start m s _ k ∙ past _ _ _ l ∙ no_test

  pub written : number ≡ 0 → survey_effect m s out ≡ record { accepted = true; number = 0; front = front_size (circuit m) s; interest = interest_size (circuit m) s; out = over (survey (circuit m) s) out }
  unfolding survey_effect survey_by
  written e = rw (eq-eqb number 0 e)

pub survey_does : SurveyDoes
survey_does m s out e =
    let n = none m s out e in
    let (v, t) = behind m (survey_tests m s out) n in
    let (k, r) = room m s out t in
    let f = survey_is (circuit m) (well_formed m (facts m v)) s in
    let l : length (survey (circuit m) s) ≡ gate_count m = f.long in
    let long = over_long (survey (circuit m) s) out (gate_count m) l (leb-true (gate_count m) (length out) r) in
    rw (written m s out n) (record {
      number = refl;
      start = record { accepted = v; keeps = start_of m s k };
      room = omega (arith, long, leb-true (gate_count m) (length out) r);
      bytes = λ g h. record {
        cone = _;
        front = _;
        interest = _;
        is = get_or-append (survey (circuit m) s) _ 0 g (omega arith) ∙ f.bytes g h;
        cone_is = f.cone_is g h;
        front_is = f.front_is g h;
        interest_is = f.interesting_is g h;
      };
      surplus = over_rest (survey (circuit m) s) out (gate_count m) l;
      long = long;
      size_of_front = f.size_of_front;
      size_of_interest = f.size_of_interest;
      no_interest = (
        λ z. (none_sized _ _ f.size_of_front).1 (f.no_interest.0 z),
        λ z. f.no_interest.1 ((none_sized _ _ f.size_of_front).0 z),
      );
    })

pub survey_accepts : SurveyAccepts
survey_accepts m s out = (
  λ e. (let (v, t) = behind m (survey_tests m s out) (none m s out e) in let (k, r) = room m s out t in (record { accepted = v; keeps = start_of m s k }, leb-true (gate_count m) (length out) r)),
  λ a. accepted m s out (behind_accepted m _ a.0.accepted ∙ of_room m s out (of_start m s a.0.keeps) (le-leb (gate_count m) (length out) a.1)),
)

pub survey_number : SurveyNumber
unfolding survey_tests
survey_number m s out =
    let n = (survey_effect m s out).number in
    map_number m _ n _ (number_is m s out) λ v e.
    start_number m s _ n _ (facts m v) e λ e11.
    tested 14 _ _ n _ _ e11 (leb-true _ _) (le-leb _ _) λ q14 e14.
    e14 ∙ no_test

pub survey_refuses : SurveyRefuses
unfolding survey_effect survey_by
survey_refuses m s out e = elim (which (eqb (number m s out) 0)) [
  | inl q ↦ absurd (true≢false (rw q at e))
  | inr q ↦ rw q (record { numbered = eqb-false (number m s out) 0 q; zeros = (refl, refl); untouched = refl })
]

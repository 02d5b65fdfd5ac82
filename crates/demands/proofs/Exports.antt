-- What Export means, from what the text of a circuit says; which calls it accepts, and what a refused one gives. Assumes nothing.
use Prim.Native.Nat.{ℕ}
use mathlib.Core.Path.{◌≡◌, refl, sym, ◌∙◌}
use mathlib.Core.Logic.{inl, inr}
use mathlib.Core.Bool.{true, true≢false, false≢true}
use mathlib.Core.List.{List, ◌++◌}
use native.Mathlib.Omega.{arith}
use lib.ListN.{length}
use lib.Dec.{eqb}
use borrow.Author.Tests.{eqb-true, eqb-false, eq-eqb, le-leb, leb-true}
use Rattle.folds.proofs.Tests.{which, same_test}
use Rattle.circuit.specs.Tools.{over}
use Rattle.circuit.specs.Circuit.{Configuration}
use Rattle.circuit.specs.Evaluate.{mark}
use Rattle.circuit.proofs.Over.{over_first, over_rest, over_long}
use Rattle.circuit.proofs.Evaluate.{mark_is}
use Rattle.map.specs.Map.{circuit}
use Rattle.map.specs.Check.{first_failed, map_tests, verdict}
use Rattle.map.proofs.Laws.{past, no_test, none_failed}
use Rattle.map.proofs.Facts.{facts, well_formed}
use Rattle.map.proofs.Answers.{behind_accepted}
use Rattle.map.proofs.Described.{tested, map_number}
use Rattle.state.specs.State.{mark_effect}
use Rattle.state.proofs.Meaning.{behind, mark_does}
use Rattle.dimacs.specs.Export.{configuration_of}
use Rattle.dimacs.proofs.Export.{export_says, is_configuration}
use Rattle.export.specs.Export.{text_of, text_tests, export_by, export_effect, ExportMeans, ExportDoes, HasTextRoom, ExportAccepts, ExportNumber, ExportRefuses}

module _ (m out : List ℕ) where
  abbrev number : ℕ
  number = first_failed (map_tests m ++ text_tests m out)

  none : (export_effect m out).accepted ≡ true → number ≡ 0
  unfolding export_effect export_by
  none e = elim (which (eqb number 0)) [
    | inl q ↦ eqb-true number 0 q
    | inr q ↦ absurd (false≢true (rw q at e))
  ]

  written : number ≡ 0 → export_effect m out ≡ record { accepted = true; number = 0; size = length (text_of m); out = over (text_of m) out }
  unfolding export_effect export_by
  written e = rw (eq-eqb number 0 e)

  number_is : (export_effect m out).number ≡ number
  unfolding export_effect export_by
  number_is = elim (which (eqb number 0)) [
    | inl q ↦ rw q (sym (eqb-true number 0 q))
    | inr q ↦ rw q refl
  ]

  exportable : number ≡ 0 → (verdict m ≡ 0) × HasTextRoom m out
  unfolding text_tests
  exportable e = (let (v, t) = behind m (text_tests m out) e in (v, leb-true _ _ (none_failed 15 _ _ t).0))

  of_exportable : verdict m ≡ 0 → HasTextRoom m out → number ≡ 0
  unfolding text_tests
  of_exportable v h = behind_accepted m (text_tests m out) v ∙ past _ _ _ (le-leb _ _ h) ∙ no_test

pub export_accepts : ExportAccepts
export_accepts m out = (λ e. exportable m out (none m out e), λ a. rw (written m out (of_exportable m out a.0 a.1)) refl)

pub export_number : ExportNumber
unfolding text_tests
export_number m out =
    let n = (export_effect m out).number in
    map_number m _ n _ (number_is m out) λ v e.
    tested 16 _ _ n _ _ e (leb-true _ _) (le-leb _ _) λ q16 e16.
    e16 ∙ no_test

pub export_refuses : ExportRefuses
unfolding export_effect export_by
export_refuses m out e = elim (which (eqb (number m out) 0)) [
  | inl q ↦ absurd (true≢false (rw q at e))
  | inr q ↦ rw q (record { numbered = eqb-false (number m out) 0 q; no_size = refl; untouched = refl })
]

-- Mark, the call, says what `mark` does
mark_call : (m s : List ℕ) → verdict m ≡ 0 → Configuration (circuit m) s → mark (circuit m) s ≡ (mark_effect m s).yes
mark_call m s v k = same_test _ _
    (λ e. (mark_does m s).1 (v, (mark_is (circuit m) s k).0 e))
    (λ e. (mark_is (circuit m) s k).1 ((mark_does m s).0 e).1)

module _ (m out : List ℕ) (v : verdict m ≡ 0) (h : HasTextRoom m out) where
  means : ExportMeans m out (record { accepted = true; number = 0; size = length (text_of m); out = over (text_of m) out })
  means =
      let k = facts m v in
      let (cnf, e, says) = export_says (circuit m) (well_formed m k) k.sound.placed.shaped.few in
      record {
        number = refl;
        cnf = cnf;
        reads = rw (over_first (text_of m) out (length (text_of m)) refl) e;
        text = over_first (text_of m) out (length (text_of m)) refl;
        variables = says.variables;
        count = says.count;
        range = λ d i l j. (let (o, h) = says.range d i l j in (o, omega (arith, h, says.variables)));
        marked = λ s c. says.satisfied s ∙ mark_call m s v c;
        solved = λ α. says.solved α ∙ mark_call m (configuration_of (circuit m) α) v (is_configuration (circuit m) α);
        satisfiable = (
          λ f. (let (a, s) = says.satisfiable.0 f in (a, (mark_does m a).1 (v, s))),
          λ f. (let (a, y) = f in says.satisfiable.1 (a, ((mark_does m a).0 y).1)),
        );
        surplus = over_rest (text_of m) out (length (text_of m)) refl;
        long = over_long (text_of m) out (length (text_of m)) refl h;
      }

pub export_does : ExportDoes
export_does m out e =
    let n = none m out e in
    let (v, h) = exportable m out n in
    rw (written m out n) (means m out v h)

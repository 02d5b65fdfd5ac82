-- What Move means. Assumes nothing.
use Prim.Native.Nat.{ℕ, ◌+◌, ◌*◌, ◌/◌, ◌≤◌}
use mathlib.Core.Path.{◌≡◌, refl, sym, ◌∙◌}
use mathlib.Core.Bool.{true, not, false≢true, true≢false}
use mathlib.Core.Logic.{inl, inr}
use mathlib.Core.List.{List, ◌++◌}
use native.Mathlib.Omega.{arith}
use lib.Dec.{eqb, leb}
use lib.ListN.{length, get_or}
use borrow.Author.Tests.{eqb-true, eqb-false, eq-eqb, leb-true, le-leb, not-true}
use Rattle.folds.proofs.Tests.{which}
use Rattle.folds.proofs.Loops.{all_at, all_of}
use Rattle.circuit.specs.Tools.{is_empty, over}
use Rattle.circuit.specs.Survey.{front, survey}
use Rattle.circuit.specs.Run.{move}
use Rattle.circuit.specs.Source001.{NoFront}
use Rattle.circuit.proofs.Survey.{survey_is}
use Rattle.circuit.proofs.Moves.{no_front, some_front, entry_does}
use Rattle.map.specs.Map.{gate_count, circuit}
use Rattle.map.specs.Check.{first_failed, map_tests}
use Rattle.map.specs.Inner.{IsMap}
use Rattle.map.proofs.Laws.{past, no_test, none_failed}
use Rattle.map.proofs.Facts.{facts, well_formed}
use Rattle.map.proofs.Answers.{behind_accepted}
use Rattle.map.proofs.Described.{tested, map_number}
use Rattle.circuit.proofs.Over.{over_first, over_rest, over_long}
use Rattle.state.proofs.Meaning.{behind}
use Rattle.survey.proofs.Starts.{behind_start, of_start, start_number}
use Rattle.tape.specs.Tape.{entry_at, entry_kinds_test}
use Rattle.search.specs.Move.{front_test, entry_tests, move_tests, move_by, move_effect, MoveDoes, Movable, MoveAccepts, MoveNumber, MoveRefuses}
use Rattle.search.proofs.Passed.{move_passed, early_none, early_passes}
use Rattle.demands.proofs.Tapes.{entry_read}

-- test 15
module _ (m s : List ℕ) (k : IsMap m) where
  front_of : not (is_empty (front (circuit m) s)) ≡ true → ¬ NoFront (circuit m) s
  front_of e = some_front (circuit m) (well_formed m k) s (not-true _ e)

  of_front : ¬ NoFront (circuit m) s → not (is_empty (front (circuit m) s)) ≡ true
  of_front h = elim (which (is_empty (front (circuit m) s))) [
    | inl q ↦ absurd (h (no_front (circuit m) (well_formed m k) s q))
    | inr q ↦ rw q
  ]

module _ (m s entry work : List ℕ) where
  abbrev number : ℕ
  number = first_failed (map_tests m ++ move_tests m s entry work)

  pub none : (move_effect m s entry work).accepted ≡ true → number ≡ 0
  unfolding move_effect move_by
  none e = elim (which (eqb number 0)) [
    | inl q ↦ eqb-true number 0 q
    | inr q ↦ absurd (false≢true (rw q at e))
  ]

  number_is : (move_effect m s entry work).number ≡ number
  unfolding move_effect move_by
  number_is = elim (which (eqb number 0)) [
    | inl q ↦ rw q (sym (eqb-true number 0 q))
    | inr q ↦ rw q refl
  ]

  accepted : number ≡ 0 → (move_effect m s entry work).accepted ≡ true
  unfolding move_effect move_by
  accepted e = rw (eq-eqb number 0 e)

  -- a kind, as the test of a tape of one entry sees it
  kind_of : length entry ≡ 4 → entry_kinds_test entry ≡ true → get_or entry 2 0 ≤ 2
  unfolding entry_kinds_test
  kind_of l e = leb-true _ _ (all_at (λ i. leb (get_or entry (4 * i + 2) 0) 2) (length entry / 4) 0 e (omega arith))

  of_kind : length entry ≡ 4 → get_or entry 2 0 ≤ 2 → entry_kinds_test entry ≡ true
  unfolding entry_kinds_test
  of_kind l h = all_of (λ i. leb (get_or entry (4 * i + 2) 0) 2) (length entry / 4) (λ i b. (let z : i ≡ 0 = omega arith in rw z (le-leb _ _ h)))

  -- what each test says
  pub movable : number ≡ 0 → Movable m s entry work
  unfolding front_test
  movable n =
      let (v, t) = behind m (move_tests m s entry work) n in
      let e = early_none m s entry work t in
      let p = move_passed m s entry work e in
      let t15 = (none_failed 14 _ _ (sym (early_passes m s entry work e) ∙ t)).0 in
      record { start = record { accepted = v; keeps = p.keeps }; four_bytes = p.four; kind = kind_of p.four p.kinds; room = p.room; some_front = front_of m s (facts m v) t15 }

  of_movable : Movable m s entry work → number ≡ 0
  unfolding move_tests entry_tests front_test
  of_movable a =
      behind_accepted m _ a.start.accepted
      ∙ behind_start m s _ (of_start m s a.start.keeps)
      ∙ past _ _ _ (eq-eqb _ _ a.four_bytes)
      ∙ past _ _ _ (of_kind a.four_bytes a.kind)
      ∙ past _ _ _ (le-leb _ _ a.room)
      ∙ past _ _ _ (of_front m s (facts m a.start.accepted) a.some_front)
      ∙ no_test

  pub written : number ≡ 0 → move_effect m s entry work ≡ record {
    accepted = true;
    number = 0;
    gate = (move (circuit m) s (entry_at entry 0)).gate;
    turned = (move (circuit m) s (entry_at entry 0)).flips;
    configuration = (move (circuit m) s (entry_at entry 0)).next;
    work = over (survey (circuit m) (move (circuit m) s (entry_at entry 0)).next) work;
  }
  unfolding move_effect move_by
  written e = rw (eq-eqb number 0 e)

pub move_does : MoveDoes
move_does m s entry work e =
    let n = none m s entry work e in
    let a = movable m s entry work n in
    let k = facts m a.start.accepted in
    let ok = well_formed m k in
    let d = entry_does (circuit m) ok s (not-true _ (of_front m s k a.some_front)) (entry_at entry 0) a.start.keeps in
    let l : length (survey (circuit m) (move (circuit m) s (entry_at entry 0)).next) ≡ gate_count m = (survey_is (circuit m) ok (move (circuit m) s (entry_at entry 0)).next).long in
    rw (written m s entry work n) (record {
      start = a.start;
      read = entry_read entry 0 a.kind;
      does = d;
      number = refl;
      gate = (refl, d.is_in_front);
      turns = d.turns;
      count = (sym d.differs, d.few);
      none = d.none;
      undone = d.undone;
      keeps = d.keeps;
      surveyed = over_first (survey (circuit m) (move (circuit m) s (entry_at entry 0)).next) work (gate_count m) l;
      surplus = over_rest (survey (circuit m) (move (circuit m) s (entry_at entry 0)).next) work (gate_count m) l;
      long = over_long (survey (circuit m) (move (circuit m) s (entry_at entry 0)).next) work (gate_count m) l a.room;
    })

pub move_accepts : MoveAccepts
move_accepts m s entry work = (λ e. movable m s entry work (none m s entry work e), λ a. accepted m s entry work (of_movable m s entry work a))

pub move_number : MoveNumber
unfolding move_tests entry_tests front_test
move_number m s entry work =
    let n = (move_effect m s entry work).number in
    map_number m _ n _ (number_is m s entry work) λ v e.
    start_number m s _ n _ (facts m v) e λ e11.
    tested 12 _ _ n _ _ e11 (eqb-true _ _) (eq-eqb _ _) λ q12 e12.
    tested 13 _ _ n _ _ e12 (kind_of m s entry work (eqb-true _ _ q12)) (of_kind m s entry work (eqb-true _ _ q12)) λ q13 e13.
    tested 14 _ _ n _ _ e13 (leb-true _ _) (le-leb _ _) λ q14 e14.
    tested 15 _ _ n _ _ e14 (front_of m s (facts m v)) (of_front m s (facts m v)) λ q15 e15.
    e15 ∙ no_test

pub move_refuses : MoveRefuses
unfolding move_effect move_by
move_refuses m s entry work e = elim (which (eqb (number m s entry work) 0)) [
  | inl q ↦ absurd (true≢false (rw q at e))
  | inr q ↦ rw q (record { numbered = eqb-false (number m s entry work) 0 q; zeros = (refl, refl); untouched = (refl, refl) })
]

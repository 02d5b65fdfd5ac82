-- The pass for the interest set: the marks at each gate, from the last down to gate 0. Assumes nothing.
use Prim.Native.Nat.{ℕ, zero, suc, ◌+◌, ◌-◌, ◌*◌, ◌<◌, ◌≤◌}
use mathlib.Core.Path.{◌≡◌, refl, sym, ◌∙◌}
use mathlib.Core.Logic.{inl, inr}
use mathlib.Core.Bool.{Bool, true, false, not, false≢true}
use mathlib.Core.List.{List}
use native.Mathlib.Omega.{arith}
use lib.ListN.{get_or, set}
use lib.Dec.{leb, ltb}
use borrow.Author.Tests.{le-ltb}
use Rattle.folds.specs.Folds.{◌and◌}
use Rattle.folds.proofs.Tests.{which, and_past, and_first_false}
use Rattle.circuit.specs.Tools.{byte}
use Rattle.circuit.specs.Gate.{carries_weight}
use Rattle.circuit.specs.Circuit.{Circuit, WellFormed}
use Rattle.circuit.specs.Survey.{cone, in_front, interesting, survey, interest_set, interest_size}
use Rattle.circuit.proofs.Spread.{spread_start}
use Rattle.circuit.proofs.Cone.{front_cone}
use Rattle.marks.specs.Marks.{cone_marks, paint, mark_below, mark_itself, interest_turn, weight_at, InterestTurned, SurveyMarks}
use Rattle.marks.proofs.Tables.{same_tables, count_from, count_none, count_more, count_all}
use Rattle.marks.proofs.Pass.{From, begins, ends, mark_is, passes, turns}

-- ---- a mark, by what it says: in the cone, in the front, interesting

abbrev mark : Bool → Bool → Bool → ℕ
mark k f t = byte k + 2 * byte f + 4 * byte t

-- a mark before its gate's turn: in the front the 4 is still to come
abbrev early : Bool → Bool → Bool → ℕ
early k f t = mark k f (t and not f)

-- a gate of the front is in the cone
no_mark : {A : Type 0} → (true ≡ true → false ≡ true) → A
no_mark h = absurd (false≢true (h refl))

early_below : (k f t : Bool) → (f ≡ true → k ≡ true) → mark_below (early k f t) ≡ early k f true
unfolding mark_below ◌and◌
early_below false true true h = no_mark h
early_below false true false h = no_mark h
early_below true true true h = refl
early_below true true false h = refl
early_below true false true h = refl
early_below true false false h = refl
early_below false false true h = refl
early_below false false false h = refl

early_itself : (k f : Bool) → (f ≡ true → k ≡ true) → mark_itself (early k f true) ≡ mark k f true
unfolding mark_itself ◌and◌
early_itself false true h = no_mark h
early_itself true true h = refl
early_itself true false h = refl
early_itself false false h = refl

-- from 2 on are the marks of gates that are interesting
early_high : (k f t : Bool) → (f ≡ true → k ≡ true) → (f ≡ true → t ≡ true) → leb 2 (early k f t) ≡ t
unfolding ◌and◌
early_high true true false h i = no_mark i
early_high false true true h i = no_mark h
early_high false true false h i = no_mark h
early_high true true true h i = refl
early_high true false true h i = refl
early_high true false false h i = refl
early_high false false true h i = refl
early_high false false false h i = refl

-- to begin with, the gates of the front are those that are reached
early_start : (k f : Bool) → byte k + 2 * byte f ≡ early k f f
unfolding ◌and◌
early_start true true = refl
early_start true false = refl
early_start false true = refl
early_start false false = refl

early_none : (k f : Bool) → mark k f false ≡ early k f false
unfolding ◌and◌
early_none k f = refl

below_twice : (b : ℕ) → mark_below (mark_below b) ≡ mark_below b
unfolding mark_below
below_twice b = elim (which (ltb b 2)) [
  | inl q ↦ rw (q, le-ltb (b + 4) 2 (omega arith))
  | inr q ↦ rw (q, q)
]

-- ---- the pass

module _ (c : Circuit) (s : List ℕ) where
  abbrev late_mark : ℕ → ℕ
  late_mark x = mark (cone c s x) (in_front c s x) (interesting c s x)

  abbrev early_mark : ℕ → Bool → ℕ
  early_mark x t = early (cone c s x) (in_front c s x) t

  abbrev InterestFrom : ℕ → List ℕ → Type 0
  InterestFrom = From c.gates c.kids (in_front c s) late_mark early_mark

  front_interest : (g : ℕ) → in_front c s g ≡ true → interesting c s g ≡ true
  unfolding interesting
  front_interest g e = spread_start c.kids c.gates (in_front c s) g e

  module _ (ok : WellFormed c) (g : ℕ) (h : g < c.gates) (w : List ℕ) (k : InterestFrom (suc g) w) where
    marked : get_or w g 0 ≡ early_mark g (interesting c s g)
    unfolding interesting
    marked = mark_is c.gates c.kids (in_front c s) late_mark early_mark ok.below g h w k

    high : leb 2 (get_or w g 0) ≡ interesting c s g
    high = rw marked (early_high (cone c s g) (in_front c s g) (interesting c s g) (front_cone c s g) (front_interest g))

    turned : interesting c s g ≡ true → InterestFrom g (paint mark_below (c.kids g) (set w g (late_mark g)))
    unfolding interesting
    turned q = turns c.gates c.kids (in_front c s) late_mark early_mark ok.below g h w k mark_below below_twice
        (λ x b. early_below (cone c s x) (in_front c s x) b (front_cone c s x)) q

    late_in : interesting c s g ≡ true → mark_itself (get_or w g 0) ≡ late_mark g
    late_in q = rw (marked, q) (early_itself (cone c s g) (in_front c s g) (front_cone c s g))

    turn_in : interesting c s g ≡ true → InterestFrom g (paint mark_below (c.kids g) (set w g (mark_itself (get_or w g 0))))
    turn_in q = rw (late_in q) (turned q)

    turn_out : interesting c s g ≡ false → InterestFrom g w
    unfolding interesting
    turn_out q = passes c.gates c.kids (in_front c s) late_mark early_mark ok.below g h w k q
        (rw q (early_none (cone c s g) (in_front c s g)))

    interest_turn_lem : InterestFrom g (interest_turn c g w)
    unfolding interest_turn
    interest_turn_lem = rw high (elim (which (interesting c s g)) [
      | inl q ↦ rw q (turn_in q)
      | inr q ↦ rw q (turn_out q)
    ])

    -- what the turn counts
    weight_at_lem : weight_at c g w ≡ byte (interest_set c s g)
    unfolding weight_at interest_set
    weight_at_lem = rw high (elim (which (interesting c s g)) [
      | inl q ↦ rw (q, and_past true (carries_weight (c.kind g)) refl)
      | inr q ↦ rw (q, and_first_false false (carries_weight (c.kind g)) refl)
    ])

-- ---- the loop: the gates from g on have had their turn

pub record InterestSoFar (c : Circuit) (s : List ℕ) (g : ℕ) (marks : List ℕ) (size : ℕ) : Type 0 where
  pub from : InterestFrom c s g marks
  pub counted : size ≡ count_from (interest_set c s) c.gates g

module _ (c : Circuit) (s : List ℕ) where
  pub interest_begins : (w : List ℕ) → w ≡ cone_marks c s → InterestSoFar c s c.gates w 0
  unfolding cone_marks
  interest_begins w e = record {
    from = begins _ _ _ _ _ w (e ∙ same_tables _ _ c.gates (λ x l. early_start (cone c s x) (in_front c s x)));
    counted = sym (count_none (interest_set c s) c.gates);
  }

  pub interest_step : WellFormed c → (n : ℕ) → 0 < n → n ≤ c.gates → (w v : List ℕ) (size r : ℕ) → InterestSoFar c s n w size → InterestTurned c (n - 1) w v r
      → InterestSoFar c s (n - 1) v (size + r)
  interest_step ok zero z l w v size r k t = absurd (omega arith)
  interest_step ok (suc g) z l w v size r k t =
      let e : suc g - 1 ≡ g = omega arith in
      let h : g < c.gates = omega arith in
      rw e (record {
        from = rw (rw e at t.marks) (interest_turn_lem c s ok g h w k.from);
        counted = rw (k.counted, rw e at t.weight, weight_at_lem c s ok g h w k.from) (sym (count_more (interest_set c s) c.gates g h));
      })

  pub interest_ends : (w : List ℕ) (size : ℕ) → InterestSoFar c s 0 w size → SurveyMarks c s w size
  unfolding survey interest_size
  interest_ends w size k = record { are = ends _ _ _ _ _ w k.from; interest_is = k.counted ∙ count_all (interest_set c s) c.gates }

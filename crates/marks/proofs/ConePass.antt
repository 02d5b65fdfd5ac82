-- The pass for cone and front. Assumes nothing.
use Prim.Native.Nat.{ℕ, zero, suc, ◌+◌, ◌-◌, ◌*◌, ◌<◌, ◌≤◌}
use mathlib.Core.Path.{◌≡◌, refl, sym, ◌∙◌}
use mathlib.Core.Logic.{inl, inr}
use mathlib.Core.Bool.{Bool, true, false, not, cond, true≢false}
use mathlib.Core.List.{List, [], Memᴰ as In}
use native.Mathlib.Omega.{arith}
use lib.ListN.{length, get_or, set}
use lib.Dec.{eqb}
use lib.Seq.{set-get_or}
use borrow.Author.Tests.{eqb-true, eqb-false, eq-eqb, ne_eqb}
use Rattle.folds.proofs.Tests.{which, and_past, and_first_false}
use Rattle.circuit.specs.Tools.{byte}
use Rattle.circuit.specs.Gate.{is_input, relevant}
use Rattle.circuit.specs.Circuit.{Circuit, WellFormed, coded, on, justified}
use Rattle.circuit.specs.Survey.{reasons, cone, in_front, front, front_size}
use Rattle.circuit.proofs.Lists.{select_none}
use Rattle.circuit.proofs.Gate.{no_part}
use Rattle.circuit.proofs.Evaluate.{justify}
use Rattle.circuit.proofs.Cone.{reasons_kids}
use Rattle.marks.specs.Marks.{cone_marks, MarksOf, ConeTurned, paint, to_one, cone_turn, front_at}
use Rattle.marks.proofs.Tables.{table_of, count_from, count_none, count_more, count_all}
use Rattle.marks.proofs.Pass.{From, begins, ends, mark_is, passes, turns}

-- ---- a gate's turn, as the code takes it

module _ (c : Circuit) (s : List ℕ) (g : ℕ) (w : List ℕ) where
  -- outside the cone
  pub turn_skips : get_or w g 0 ≡ 0 → ConeTurned c s g w w 0
  unfolding cone_turn front_at
  turn_skips z = let q = eq-eqb (get_or w g 0) 0 z in record { marks = rw q; front = rw q; small = omega arith }

  -- in the front, and in the cone and justified
  module _ (in-it : get_or w g 0 ≡ 0 → ⊥) where
    pub turn_fronts : justified c s g ≡ false → ConeTurned c s g w (set w g 3) 1
    unfolding cone_turn front_at
    turn_fronts j = let q = ne_eqb (get_or w g 0) 0 in-it in record { marks = rw (q, j); front = rw (q, j); small = omega arith }

    pub turn_brings : justified c s g ≡ true → (v : List ℕ) → v ≡ paint to_one (reasons c s g) w → ConeTurned c s g w v 0
    unfolding cone_turn front_at
    turn_brings j v e = let q = ne_eqb (get_or w g 0) 0 in-it in record { marks = rw (q, j) e; front = rw (q, j); small = omega arith }

  -- an input is justified and brings nothing
  module _ (i : is_input (c.kind g) ≡ true) where
    input_justified : justified c s g ≡ true
    input_justified = justify c s g (λ o. absurd (true≢false (sym i ∙ o)))

    brings_nothing : reasons c s g ≡ []
    unfolding reasons
    brings_nothing = rw input_justified (select_none _ (c.kids g) (λ x m. elim (which (relevant (c.kind g) (on s g) (on s x))) [
      | inl q ↦ absurd (no_part (c.kind g) (on s g) (on s x) i q)
      | inr q ↦ q
    ]))

    pub turn_of_input : ConeTurned c s g w w 0
    unfolding paint
    turn_of_input = elim (which (eqb (get_or w g 0) 0)) [
      | inl q ↦ turn_skips (eqb-true (get_or w g 0) 0 q)
      | inr q ↦ turn_brings (eqb-false (get_or w g 0) 0 q) input_justified w (rw brings_nothing)
    ]

-- ---- the pass

module _ (c : Circuit) (s : List ℕ) where
  -- a gate's mark after its turn; before it, it says only whether the gate is in the cone
  abbrev cone_mark : ℕ → ℕ
  cone_mark x = byte (cone c s x) + 2 * byte (in_front c s x)

  abbrev reach_mark : ℕ → Bool → ℕ
  reach_mark x b = byte b

  abbrev pub ConeFrom : ℕ → List ℕ → Type 0
  ConeFrom = From c.gates (reasons c s) (coded c) cone_mark reach_mark

  front_out : (g : ℕ) → cone c s g ≡ false → in_front c s g ≡ false
  unfolding in_front
  front_out g e = and_first_false _ _ e

  front_in : (g : ℕ) → cone c s g ≡ true → in_front c s g ≡ not (justified c s g)
  unfolding in_front
  front_in g e = and_past _ _ e

  module _ (ok : WellFormed c) (g : ℕ) (h : g < c.gates) (w : List ℕ) (k : ConeFrom (suc g) w) where
    brings_below : (x : ℕ) → x < c.gates → (y : ℕ) → In y (reasons c s x) → y < x
    brings_below x l y m = ok.below x l y (reasons_kids c ok s x y m)

    marked : get_or w g 0 ≡ byte (cone c s g)
    unfolding cone
    marked = mark_is c.gates (reasons c s) (coded c) cone_mark reach_mark brings_below g h w k

    late_in : cone c s g ≡ true → cone_mark g ≡ 1 + 2 * byte (not (justified c s g))
    late_in q = rw (front_in g q, q)

    late_out : cone c s g ≡ false → cone_mark g ≡ 0
    late_out q = rw (front_out g q, q)

    turned : cone c s g ≡ true → ConeFrom g (paint to_one (reasons c s g) (set w g (cone_mark g)))
    unfolding cone
    turned q = turns c.gates (reasons c s) (coded c) cone_mark reach_mark brings_below g h w k to_one (λ b. refl) (λ x b. refl) q

    -- a justified gate's mark stays, and an unjustified one brings nothing
    brings_all : cone c s g ≡ true → justified c s g ≡ true → set w g (cone_mark g) ≡ w
    brings_all q j = let e : cone_mark g ≡ get_or w g 0 = late_in q ∙ rw (j, marked, q) in rw e (set-get_or w g 0)

    brings_none : justified c s g ≡ false → (v : List ℕ) → paint to_one (reasons c s g) v ≡ v
    unfolding reasons paint
    brings_none j v = rw j

    turn_in : cone c s g ≡ true → ConeFrom g (cond (justified c s g) (paint to_one (reasons c s g) w) (set w g 3))
    turn_in q = elim (which (justified c s g)) [
      | inl j ↦ rw j (rw (brings_all q j) at (turned q))
      | inr j ↦ rw j (rw (brings_none j, late_in q, j) at (turned q))
    ]

    turn_out : cone c s g ≡ false → ConeFrom g w
    unfolding cone
    turn_out q = passes c.gates (reasons c s) (coded c) cone_mark reach_mark brings_below g h w k q (late_out q)

    cone_turn_lem : ConeFrom g (cone_turn c s g w)
    unfolding cone_turn
    cone_turn_lem = rw marked (elim (which (cone c s g)) [
      | inl q ↦ rw q (turn_in q)
      | inr q ↦ rw q (turn_out q)
    ])

    -- what the turn counts
    front_at_lem : front_at c s g w ≡ byte (in_front c s g)
    unfolding front_at
    front_at_lem = rw marked (elim (which (cone c s g)) [
      | inl q ↦ rw (q, front_in g q)
      | inr q ↦ rw (q, front_out g q)
    ])

-- ---- the loop: the gates from g on have had their turn

pub record ConeSoFar (c : Circuit) (s : List ℕ) (g : ℕ) (marks : List ℕ) (size : ℕ) : Type 0 where
  pub from : ConeFrom c s g marks
  pub counted : size ≡ count_from (in_front c s) c.gates g
  pub few : size + g ≤ c.gates

module _ (c : Circuit) (s : List ℕ) where
  pub cone_begins : (w : List ℕ) → length w ≡ c.gates → ((g : ℕ) → get_or w g 0 ≡ byte (coded c g)) → ConeSoFar c s c.gates w 0
  cone_begins w e h = record {
    from = begins _ _ _ _ _ w (table_of w (λ x. byte (coded c x)) c.gates e (λ x l. h x));
    counted = sym (count_none (in_front c s) c.gates);
    few = omega arith;
  }

  pub cone_step : WellFormed c → (n : ℕ) → 0 < n → (w v : List ℕ) (size r : ℕ) → ConeSoFar c s n w size → ConeTurned c s (n - 1) w v r → ConeSoFar c s (n - 1) v (size + r)
  cone_step ok zero z w v size r k t = absurd (omega arith)
  cone_step ok (suc g) z w v size r k t =
      let e : suc g - 1 ≡ g = omega arith in
      let h : g < c.gates = omega (arith, k.few) in
      let f = rw e at t.front in
      rw e (record {
        from = rw (rw e at t.marks) (cone_turn_lem c s ok g h w k.from);
        counted = rw (k.counted, f, front_at_lem c s ok g h w k.from) (sym (count_more (in_front c s) c.gates g h));
        few = omega (arith, k.few, t.small);
      })

  pub cone_ends : (w : List ℕ) (size : ℕ) → ConeSoFar c s 0 w size → MarksOf c s w size
  unfolding cone_marks front_size front
  cone_ends w size k = record { are = ends _ _ _ _ _ w k.from; front_is = k.counted ∙ count_all (in_front c s) c.gates }

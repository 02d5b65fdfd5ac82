-- The text of a map, piece by piece, is that of its circuit. Assumes nothing.
use Prim.Native.Nat.{ℕ, zero, suc, ◌+◌, ◌≤◌, ◌<◌}
use mathlib.Core.Path.{◌≡◌, refl, sym, ap, ◌∙◌}
use mathlib.Core.Logic.{inl, inr}
use mathlib.Core.Bool.{Bool, true, false, not}
use Rattle.std.proofs.Math.Option.{some}
use mathlib.Core.List.{List, [], ◌∷◌, ◌++◌, map, append-nil, append_assoc, map-append}
use native.Mathlib.Omega.{arith}
use native.Mathlib.Numerals.{add-one}
use lib.ListN.{length, length-append}
use lib.Dec.{eqb}
use borrow.Author.Tests.{eqb-true, eqb-false, eq-eqb, ne_eqb}
use Rattle.folds.proofs.Tests.{which, and_right}
use Rattle.circuit.specs.declared.Kind.TheVariants.{Input, Not, And, Or, Xor, Voter}
use Rattle.circuit.specs.Tools.{up_to}
use Rattle.circuit.specs.Gate.{kind_of, fan_in_fits}
use Rattle.kinds.specs.Kinds.{kind_fits}
use Rattle.map.specs.Map.{gate_count, code_count, kind_byte, fan_in, child_at, code_gate, code_value, code_among, kids_of, circuit}
use Rattle.map.specs.Check.{kind_test}
use Rattle.map.specs.Inner.{IsMap}
use Rattle.map.proofs.Facts.{steps}
use Rattle.map.proofs.Codes.{code_none}
use Rattle.dimacs.specs.declared.Literal.{Literal}
use Rattle.dimacs.specs.Cnf.{Clause}
use Rattle.dimacs.specs.Clauses.{at_1, at_0, each, wide, each_pair, unit, gather, gate_clauses, unit_clauses, clauses}
use Rattle.dimacs.specs.Dimacs.{print_item, print_clause, print_clauses, print_head, print}
use Rattle.dimacs.specs.Export.{export_text}
use Rattle.export.specs.Inner.{literal, items, clause_end, kids_up_to, each_text, kids_text, wide_text, pairs_text, not_text, and_text, or_text, xor_text, voter_text, gate_text, gates_text, unit_text, units_text}

-- ---- lists of clauses printed

pub print_append : (cs ds : List Clause) → print_clauses (cs ++ ds) ≡ print_clauses cs ++ print_clauses ds
unfolding print_clauses
print_append [] ds = refl
print_append (c ∷ cs) ds = rw (print_append cs ds, append_assoc) refl

pub print_one : (c : Clause) → print_clauses (c ∷ []) ≡ print_clause c
unfolding print_clauses
print_one c = append-nil (print_clause c)

print_three : (a b c : Clause) → (print_clause a ++ print_clause b) ++ print_clause c ≡ print_clauses (a ∷ b ∷ c ∷ [])
unfolding print_clauses
print_three a b c = rw (append-nil (print_clause c)) (append_assoc (print_clause a) (print_clause b) (print_clause c))

print_four : (a b c d : Clause) → (print_clause a ++ print_clause b) ++ (print_clause c ++ print_clause d) ≡ print_clauses (a ∷ b ∷ c ∷ d ∷ [])
unfolding print_clauses
print_four a b c d = rw (append-nil (print_clause d)) (append_assoc (print_clause a) (print_clause b) (print_clause c ++ print_clause d))

print_gather : (f : ℕ → List Clause) (n : ℕ) → print_clauses (gather f n) ≡ gather (λ g. print_clauses (f g)) n
unfolding gather print_clauses
print_gather f zero = refl
print_gather f (suc n) = print_append (gather f n) (f n) ∙ rw (print_gather f n) refl

pub gather_none : {A : Type 0} (f : ℕ → List A) → gather f 0 ≡ []
unfolding gather
gather_none f = refl

pub gather_more : {A : Type 0} (f : ℕ → List A) (n : ℕ) → gather f (n + 1) ≡ gather f n ++ f n
unfolding gather
gather_more f n = rw (add-one n) refl

module _ {A : Type 0} where
  gather_same : (f h : ℕ → List A) (n : ℕ) → ((g : ℕ) → g < n → f g ≡ h g) → gather f n ≡ gather h n
  unfolding gather
  gather_same f h zero e = refl
  gather_same f h (suc n) e = rw (gather_same f h n (λ g l. e g (omega arith)), e n (omega arith)) refl

  gather_empty : (f : ℕ → List A) (n : ℕ) → ((g : ℕ) → f g ≡ []) → gather f n ≡ []
  unfolding gather
  gather_empty f zero e = refl
  gather_empty f (suc n) e = rw (gather_empty f n e, e n) refl

  -- one piece more, behind which there is none
  gather_insert : (f h : ℕ → List A) (new : List A) (x n : ℕ) → x < n → ((g : ℕ) → ¬ (g ≡ x) → h g ≡ f g) → h x ≡ new → ((g : ℕ) → x ≤ g → f g ≡ [])
      → gather h n ≡ gather f n ++ new
  unfolding gather
  gather_insert f h new x zero l e q z = absurd (omega arith)
  gather_insert f h new x (suc n) l e q z = elim (which (eqb x n)) [
    | inl i ↦ (let w : x ≡ n = eqb-true x n i in
        let a : gather h n ≡ gather f n = gather_same h f n (λ g k. e g (λ y. omega arith)) in
        let b : h n ≡ new = ap h (sym w) ∙ q in
        let d : f n ≡ [] = z n (omega arith) in
        rw (a, b, d, append-nil) refl)
    | inr i ↦ (let k : x < n = omega (arith, eqb-false x n i) in
        let b : h n ≡ f n = e n (λ y. omega arith) in
        let d : f n ≡ [] = z n (omega arith) in
        rw (gather_insert f h new x n k e q z, b, d, append-nil, append-nil) refl)
  ]

-- ---- the children of a gate, one more at a time

module _ (m : List ℕ) (g : ℕ) where
  pub kids_more : (n : ℕ) → kids_up_to m g (n + 1) ≡ kids_up_to m g n ++ (child_at m g n ∷ [])
  kids_more n = rw (add-one n) (map-append (λ j. child_at m g j) (up_to n) (n ∷ []))

  each_append : (l : Literal) (f : ℕ → Literal) (xs ys : List ℕ) → each l f (xs ++ ys) ≡ each l f xs ++ each l f ys
  each_append l f [] ys = refl
  each_append l f (x ∷ xs) ys = ap (λ (r : List Clause). (l ∷ f x ∷ []) ∷ r) (each_append l f xs ys)

  items_append : (xs ys : Clause) → items (xs ++ ys) ≡ items xs ++ items ys
  items_append [] ys = refl
  items_append (x ∷ xs) ys = rw (items_append xs ys) (sym (append_assoc (print_item x) (items xs) (items ys)))

  pub each_none : (negated : Bool) → each_text m g negated 0 ≡ []
  unfolding each_text print_clauses
  each_none negated = refl

  pub each_more : (negated : Bool) (n : ℕ)
      → each_text m g negated (n + 1) ≡ each_text m g negated n ++ print_clause (literal negated g ∷ literal (not negated) (child_at m g n) ∷ [])
  unfolding each_text
  each_more negated n =
      rw (kids_more n, each_append (literal negated g) (literal (not negated)) (kids_up_to m g n) (child_at m g n ∷ []), print_append (each (literal negated g) (literal (not negated)) (kids_up_to m g n)) _, print_one (literal negated g ∷ literal (not negated) (child_at m g n) ∷ [])) refl

  pub kids_none : (negated : Bool) → kids_text m g negated 0 ≡ []
  unfolding kids_text
  kids_none negated = refl

  pub kids_next : (negated : Bool) (n : ℕ) → kids_text m g negated (n + 1) ≡ kids_text m g negated n ++ print_item (literal (not negated) (child_at m g n))
  unfolding kids_text
  kids_next negated n =
      rw (kids_more n, map-append (literal (not negated)) (kids_up_to m g n) (child_at m g n ∷ []), items_append (map (literal (not negated)) (kids_up_to m g n)) _, append-nil) refl

items_end : (ls : Clause) → print_clause ls ≡ items ls ++ clause_end
items_end [] = refl
items_end (l ∷ ls) = rw (items_end ls) (sym (append_assoc (print_item l) (items ls) clause_end))

module _ (m : List ℕ) (g : ℕ) where
  -- one clause of all children
  pub wide_is : (negated : Bool) → print_item (literal negated g) ++ (kids_text m g negated (fan_in m g) ++ clause_end) ≡ wide_text m g negated
  unfolding kids_of kids_text wide_text
  wide_is negated = ap (λ (t : List ℕ). print_item (literal negated g) ++ t) (sym (items_end (map (literal (not negated)) (kids_up_to m g (fan_in m g)))))

  -- so many children, one by one
  kids_one : fan_in m g ≡ 1 → kids_of m g ≡ child_at m g 0 ∷ []
  unfolding kids_of
  kids_one e = rw e refl

  kids_two : fan_in m g ≡ 2 → kids_of m g ≡ child_at m g 0 ∷ child_at m g 1 ∷ []
  unfolding kids_of
  kids_two e = rw e refl

  kids_three : fan_in m g ≡ 3 → kids_of m g ≡ child_at m g 0 ∷ child_at m g 1 ∷ child_at m g 2 ∷ []
  unfolding kids_of
  kids_three e = rw e refl

  -- the text of a gate, by its kind
  pub input_is : kind_of (kind_byte m g) ≡ Input → [] ≡ gate_text m g
  unfolding gate_text print_clauses
  input_is e = rw e refl

  pub and_is : kind_of (kind_byte m g) ≡ And → and_text m g ≡ gate_text m g
  unfolding gate_text each_text wide_text kids_of
  and_is e = rw e (sym (print_append (each (at_0 g) at_1 (kids_of m g)) (wide (at_1 g) at_0 (kids_of m g) ∷ []) ∙ rw (print_one (wide (at_1 g) at_0 (kids_of m g))) refl))

  pub or_is : kind_of (kind_byte m g) ≡ Or → or_text m g ≡ gate_text m g
  unfolding gate_text each_text wide_text kids_of
  or_is e = rw e (sym (print_append (wide (at_0 g) at_1 (kids_of m g) ∷ []) (each (at_1 g) at_0 (kids_of m g)) ∙ rw (print_one (wide (at_0 g) at_1 (kids_of m g))) refl))

-- of kinds that allow one fan-in
module _ (m : List ℕ) (k : IsMap m) (g : ℕ) (h : g < gate_count m) where
  pub gate_fits : fan_in_fits (kind_of (kind_byte m g)) (fan_in m g) ≡ true
  unfolding kind_test kind_fits
  gate_fits = and_right _ _ (k.kinds g h)

  pub one_kid : kind_of (kind_byte m g) ≡ Not → fan_in m g ≡ 1
  one_kid e = eqb-true (fan_in m g) 1 (rw e at gate_fits)

  pub two_kids : kind_of (kind_byte m g) ≡ Xor → fan_in m g ≡ 2
  two_kids e = eqb-true (fan_in m g) 2 (rw e at gate_fits)

  pub three_kids : kind_of (kind_byte m g) ≡ Voter → fan_in m g ≡ 3
  three_kids e = eqb-true (fan_in m g) 3 (rw e at gate_fits)

  pub not_is : kind_of (kind_byte m g) ≡ Not → not_text m g ≡ gate_text m g
  unfolding gate_text print_clauses
  not_is e = rw (e, kids_one m g (one_kid e), append-nil) refl

  pub xor_is : kind_of (kind_byte m g) ≡ Xor → xor_text m g ≡ gate_text m g
  unfolding gate_text print_clauses
  xor_is e =
      let a = child_at m g 0 in
      let b = child_at m g 1 in
      rw (e, kids_two m g (two_kids e)) (print_four (at_0 g ∷ at_1 a ∷ at_1 b ∷ []) (at_0 g ∷ at_0 a ∷ at_0 b ∷ []) (at_1 g ∷ at_1 a ∷ at_0 b ∷ []) (at_1 g ∷ at_0 a ∷ at_1 b ∷ []))

  -- the clauses of a voter's pairs
  pairs_are : (negated : Bool) → fan_in m g ≡ 3 → pairs_text m g negated ≡ print_clauses (each_pair (literal negated g) (literal (not negated)) (kids_of m g))
  pairs_are negated e =
      let first = literal negated g in
      let kid : ℕ → Literal = λ j. literal (not negated) (child_at m g j) in
      rw (kids_three m g e) (print_three (first ∷ kid 0 ∷ kid 1 ∷ []) (first ∷ kid 0 ∷ kid 2 ∷ []) (first ∷ kid 1 ∷ kid 2 ∷ []))

  pub voter_is : kind_of (kind_byte m g) ≡ Voter → voter_text m g ≡ gate_text m g
  unfolding gate_text
  voter_is e =
      let f = three_kids e in
      let up = each_pair (at_0 g) at_1 (kids_of m g) in
      let down = each_pair (at_1 g) at_0 (kids_of m g) in
      rw e
      (ap (λ (x : List ℕ). x ++ pairs_text m g false) (pairs_are true f) ∙ ap (λ (x : List ℕ). print_clauses up ++ x) (pairs_are false f) ∙ sym (print_append up down))

-- ---- gates, one more at a time

module _ (m : List ℕ) where
  pub gates_none : gates_text m 0 ≡ []
  unfolding gates_text gather print_clauses
  gates_none = refl

  pub gates_more : (n : ℕ) → gates_text m (n + 1) ≡ gates_text m n ++ gate_text m n
  unfolding gates_text gate_text
  gates_more n = rw (gather_more (gate_clauses (circuit m)) n) (print_append (gather (gate_clauses (circuit m)) n) (gate_clauses (circuit m) n))

-- ---- unit clauses, by gates and by records

unit_of : List ℕ → ℕ → List Clause
unit_of m r = (literal (not (eqb (code_value m r) 1)) (code_gate m r) ∷ []) ∷ []

unit_literal : (v : Bool) (g : ℕ) → unit (some v) g ≡ (literal (not v) g ∷ []) ∷ []
unit_literal true g = refl
unit_literal false g = refl

module _ (m : List ℕ) where
  pub units_none : units_text m 0 ≡ []
  unfolding units_text
  units_none = gather_none (unit_text m)

  pub units_more : (n : ℕ) → units_text m (n + 1) ≡ units_text m n ++ unit_text m n
  unfolding units_text
  units_more n = gather_more (unit_text m) n

module _ (m : List ℕ) (k : IsMap m) where
  units_are : (n : ℕ) → n ≤ code_count m → gather (λ g. unit (code_among m n g) g) (gate_count m) ≡ gather (unit_of m) n
  unfolding code_among gather unit_of
  units_are zero h = gather_empty (λ g. unit (code_among m 0 g) g) (gate_count m) (λ g. refl)
  units_are (suc n) h =
      gather_insert (λ g. unit (code_among m n g) g) (λ g. unit (code_among m (suc n) g) g) (unit_of m n) (code_gate m n) (gate_count m) (k.sound.coded_gate n (omega arith))
      (λ g z. rw (ne_eqb (code_gate m n) g (λ e. z (sym e))) refl)
      (rw (eq-eqb (code_gate m n) (code_gate m n) refl) (unit_literal (eqb (code_value m n) 1) (code_gate m n)))
      (λ g l. rw (code_none m n g (λ r i. (let s = steps (λ j. code_gate m j) (code_count m) r n k.codes_ascend i (omega arith) in λ e. omega arith))) refl)
      ∙ rw (units_are n (omega arith)) refl

  units_length : (n : ℕ) → length (gather (unit_of m) n) ≡ n
  unfolding gather unit_of
  units_length zero = refl
  units_length (suc n) = simp length-append (omega (arith, units_length n))

  units_printed : print_clauses (gather (unit_clauses (circuit m)) (gate_count m)) ≡ units_text m (code_count m)
  unfolding units_text unit_of
  units_printed =
      ap print_clauses (units_are (code_count m) (omega arith)) ∙ print_gather (unit_of m) (code_count m)
      ∙ gather_same (λ r. print_clauses (unit_of m r)) (unit_text m) (code_count m) (λ r l. print_one _)

  -- the whole text
  pub text_is : (count : ℕ) → count ≡ length (gather (gate_clauses (circuit m)) (gate_count m))
      → print_head (gate_count m) (count + code_count m) ++ (gates_text m (gate_count m) ++ units_text m (code_count m)) ≡ export_text (circuit m)
  unfolding export_text print clauses gates_text
  text_is count e =
      let n : length (clauses (circuit m)) ≡ count + code_count m
      = length-append (gather (gate_clauses (circuit m)) (gate_count m)) (gather (unit_clauses (circuit m)) (gate_count m))
      ∙ cc (e, ap length (units_are (code_count m) (omega arith)) ∙ units_length (code_count m)) in
      let t : print_clauses (clauses (circuit m)) ≡ gates_text m (gate_count m) ++ units_text m (code_count m)
      = print_append (gather (gate_clauses (circuit m)) (gate_count m)) (gather (unit_clauses (circuit m)) (gate_count m))
      ∙ ap (λ (x : List ℕ). gates_text m (gate_count m) ++ x) units_printed in
      sym (ap (λ (i : ℕ). print_head (gate_count m) i ++ print_clauses (clauses (circuit m))) n ∙ ap (λ (x : List ℕ). print_head (gate_count m) (count + code_count m) ++ x) t)

  -- the same as it is written: by the map's counts, the head and the gates before the codes
  pub text_parts : (v count codes : ℕ) → v ≡ gate_count m → count ≡ length (gather (gate_clauses (circuit m)) (gate_count m)) → codes ≡ code_count m
      → (print_head v (count + codes) ++ gates_text m (gate_count m)) ++ units_text m (code_count m) ≡ export_text (circuit m)
  text_parts v count codes p q r =
      rw (p, r) (append_assoc (print_head (gate_count m) (count + code_count m)) (gates_text m (gate_count m)) (units_text m (code_count m)) ∙ text_is count q)

-- The longest text. Assumes nothing.
use Prim.Native.Nat.{ℕ, zero, suc, ◌+◌, ◌*◌, ◌-◌, ◌/◌, ◌≤◌, ◌<◌}
use mathlib.Core.Path.{◌≡◌, refl}
use mathlib.Core.Logic.{inl, inr}
use mathlib.Core.Bool.{Bool, true, false, cond}
use Rattle.std.proofs.Math.Option.{Option, none, some}
use mathlib.Core.List.{List, [], ◌∷◌}
use mathlib.Core.List.Memᴰ.{head as here}
use mathlib.Core.List.Memᴰ.{tail as there}
use mathlib.Core.List.{Memᴰ as In}
use native.Mathlib.Omega.{arith}
use native.Mathlib.Nat.{le_trans}
use lib.ListN.{length, length-append}
use lib.Dec.{leb, ltb}
use borrow.Author.Tests.{eqb-true, leb-true, leb-false, le-leb, lt-ltb, ltb-true}
use Rattle.folds.proofs.Tests.{which}
use Rattle.circuit.specs.declared.Kind.{Kind}
use Rattle.circuit.specs.declared.Kind.TheVariants.{Input, Not, And, Or, Xor, Voter}
use Rattle.circuit.specs.Tools.{Rising}
use Rattle.circuit.specs.Gate.{fan_in_fits}
use Rattle.circuit.specs.Circuit.{Circuit, WellFormed}
use Rattle.circuit.proofs.Gate.{narrow}
use Rattle.map.specs.Map.{circuit}
use Rattle.map.proofs.Facts.{facts, well_formed}
use Rattle.text.specs.Text.{decimal_in, in_decimal}
use Rattle.dimacs.specs.Cnf.{Clause}
use Rattle.dimacs.specs.Clauses.{variable, tseitin, unit, gather, gate_clauses, unit_clauses, clauses}
use Rattle.dimacs.specs.Dimacs.{print_clauses, print_head, print}
use Rattle.dimacs.specs.Export.{export_text}
use Rattle.dimacs.proofs.Export.{clauses_few}
use Rattle.export.specs.Export.{TextFits}
use Rattle.export.specs.Inner.{item_size, kids_size}
use Rattle.export.proofs.Lengths.{size_by, both_length, none_length, one_unit, kids_size_none, kids_length_more}

-- ---- a larger number is no shorter

decimal_grows : (k m n : ℕ) → m ≤ n → length (decimal_in k m) ≤ length (decimal_in k n)
unfolding decimal_in
decimal_grows zero m n h = omega arith
decimal_grows (suc k) m n h = elim (which (ltb n 10)) [
  | inl q ↦ (let l : m < 10 = omega (arith, ltb-true n 10 q) in rw (q, lt-ltb m 10 l) (omega arith))
  | inr q ↦ elim (which (ltb m 10)) [
    | inl p ↦ rw (q, p) (simp length-append (omega arith))
    | inr p ↦ rw (q, p) (simp length-append (omega (arith, decimal_grows k (m / 10) (n / 10) (omega arith))))
  ]
]

item_grows : (x y : ℕ) → x ≤ y → item_size x ≤ item_size y
item_grows x y h = omega (arith, decimal_grows 10 (variable x) (variable y) (omega arith))

-- ---- the children of gate g at their longest: the n gates below it

window : ℕ → ℕ → ℕ
window g zero = 0
window g (suc n) = item_size (g - suc n) + window g n

-- n ascending numbers below g: the first leaves room for the others
first_low : (g x : ℕ) (xs : List ℕ) → Rising (x ∷ xs) → ((y : ℕ) → In y (x ∷ xs) → y < g) → x + suc (length xs) ≤ g
first_low g x [] r b = omega (arith, b x (here refl))
first_low g x (y ∷ xs) r b = omega (arith, first_low g y xs r.1 (λ z m. b z (there m)), r.0 y (here refl))

kids_window : (g : ℕ) (xs : List ℕ) → Rising xs → ((y : ℕ) → In y xs → y < g) → (length xs ≤ g) × (kids_size xs ≤ window g (length xs))
unfolding window
kids_window g [] r b = (omega arith, omega (arith, kids_size_none))
kids_window g (x ∷ xs) r b =
    let low = first_low g x xs r b in
    let (l, w) = kids_window g xs r.1 (λ y m. b y (there m)) in
    (omega arith, omega (arith, kids_length_more x xs, w, item_grows x (g - suc (length xs)) (omega (arith, low))))

-- ---- the clauses of gate g at their longest

larger : ℕ → ℕ → ℕ
larger a b = cond (leb a b) b a

larger_first : (a b : ℕ) → a ≤ larger a b
unfolding larger
larger_first a b = elim (which (leb a b)) [ inl q ↦ rw q (leb-true a b q) | inr q ↦ rw q (omega arith) ]

larger_second : (a b : ℕ) → b ≤ larger a b
unfolding larger
larger_second a b = elim (which (leb a b)) [ inl q ↦ rw q (omega arith) | inr q ↦ rw q (omega (arith, leb-false a b q)) ]

-- f where the gate has n gates below it
allowed : ℕ → ℕ → ℕ → ℕ
allowed g n f = cond (leb n g) f 0

allowed_le : (g n f : ℕ) → n ≤ g → f ≤ allowed g n f
unfolding allowed
allowed_le g n f h = rw (le-leb n g h) (omega arith)

-- of an AND of n, which are no shorter than those of an OR of n; those of a NOT are as long as an AND's of 1
abbrev and_most : ℕ → ℕ → ℕ
and_most g n = (n + 1) * (item_size g + 2) + 2 * window g n + 2 * n

ands_most : ℕ → ℕ → ℕ
ands_most g zero = 0
ands_most g (suc n) = larger (allowed g (suc n) (and_most g (suc n))) (ands_most g n)

abbrev xor_most : ℕ → ℕ
xor_most g = 4 * (item_size g + 2) + 4 * window g 2 + 6

abbrev voter_most : ℕ → ℕ
voter_most g = 6 * (item_size g + 2) + 4 * window g 3 + 9

most : ℕ → ℕ
most g = larger (ands_most g 8) (larger (allowed g 2 (xor_most g)) (allowed g 3 (voter_most g)))

ands_hold : (g k n : ℕ) → 1 ≤ n → n ≤ k → n ≤ g → and_most g n ≤ ands_most g k
unfolding ands_most
ands_hold g zero n o h l = absurd (omega arith)
ands_hold g (suc k) n o h l = elim (which (leb n k)) [
  | inl q ↦ le_trans (ands_hold g k n o (leb-true n k q) l) (larger_second (allowed g (suc k) (and_most g (suc k))) (ands_most g k))
  | inr q ↦ (let e : n ≡ suc k = omega (arith, leb-false n k q) in
      rw e (le_trans (allowed_le g (suc k) (and_most g (suc k)) (rw e at l)) (larger_first (allowed g (suc k) (and_most g (suc k))) (ands_most g k))))
]

ands_in : (g n : ℕ) → 1 ≤ n → n ≤ 8 → n ≤ g → and_most g n ≤ most g
unfolding most
ands_in g n o h l = le_trans (ands_hold g 8 n o h l) (larger_first (ands_most g 8) _)

xor_in : (g : ℕ) → 2 ≤ g → xor_most g ≤ most g
unfolding most
xor_in g h = le_trans (allowed_le g 2 (xor_most g) h) (le_trans (larger_first (allowed g 2 (xor_most g)) (allowed g 3 (voter_most g))) (larger_second (ands_most g 8) _))

voter_in : (g : ℕ) → 3 ≤ g → voter_most g ≤ most g
unfolding most
voter_in g h = le_trans (allowed_le g 3 (voter_most g) h) (le_trans (larger_second (allowed g 2 (xor_most g)) (allowed g 3 (voter_most g))) (larger_second (ands_most g 8) _))

gate_short : (k : Kind) (g : ℕ) (xs : List ℕ) → fan_in_fits k (length xs) ≡ true → Rising xs → ((y : ℕ) → In y xs → y < g) → length (print_clauses (tseitin k g xs)) ≤ most g
gate_short Input g xs f r b = omega (arith, none_length)
gate_short Not g xs f r b =
    let e : length xs ≡ 1 = eqb-true (length xs) 1 f in
    let (l, w) = kids_window g xs r b in
    let w1 : kids_size xs ≤ window g 1 = rw e at w in
    omega (arith, size_by g Not xs f, w1, ands_in g 1 (omega arith) (omega arith) (omega (arith, l, e)))
gate_short And g xs f r b =
    let few = narrow And refl (length xs) f in
    let (l, w) = kids_window g xs r b in
    omega (arith, size_by g And xs f, w, ands_in g (length xs) (omega (arith, few.0)) few.1 l)
gate_short Or g xs f r b =
    let few = narrow Or refl (length xs) f in
    let (l, w) = kids_window g xs r b in
    omega (arith, size_by g Or xs f, w, few.0, ands_in g (length xs) (omega (arith, few.0)) few.1 l)
gate_short Xor g xs f r b =
    let e : length xs ≡ 2 = eqb-true (length xs) 2 f in
    let (l, w) = kids_window g xs r b in
    let w2 : kids_size xs ≤ window g 2 = rw e at w in
    omega (arith, size_by g Xor xs f, w2, xor_in g (omega (arith, l, e)))
gate_short Voter g xs f r b =
    let e : length xs ≡ 3 = eqb-true (length xs) 3 f in
    let (l, w) = kids_window g xs r b in
    let w3 : kids_size xs ≤ window g 3 = rw e at w in
    omega (arith, size_by g Voter xs f, w3, voter_in g (omega (arith, l, e)))

unit_short : (o : Option Bool) (g : ℕ) → length (print_clauses (unit o g)) ≤ item_size g + 3
unit_short none g = omega (arith, none_length)
unit_short (some true) g = omega (arith, one_unit false g)
unit_short (some false) g = omega (arith, one_unit true g)

-- ---- sums over the gates

sum : (ℕ → ℕ) → ℕ → ℕ
sum b zero = 0
sum b (suc n) = sum b n + b n

sum_grows : (b : ℕ → ℕ) (n d : ℕ) → sum b n ≤ sum b (n + d)
unfolding sum
sum_grows b n zero = let e : n + 0 ≡ n = omega arith in rw e (omega arith)
sum_grows b n (suc d) = let e : n + suc d ≡ suc (n + d) = omega arith in rw e (omega (arith, sum_grows b n d))

gathered_short : (f : ℕ → List Clause) (b : ℕ → ℕ) (n : ℕ) → ((g : ℕ) → g < n → length (print_clauses (f g)) ≤ b g) → length (print_clauses (gather f n)) ≤ sum b n
unfolding gather sum
gathered_short f b zero h = omega (arith, none_length)
gathered_short f b (suc n) h = omega (arith, both_length (gather f n) (f n), gathered_short f b n (λ g l. h g (omega arith)), h n (omega arith))

-- at most 1,024 gates, each with its code
gates_sum : sum most 1024 ≡ 134614
unfolding decimal_in window larger allowed ands_most most sum
gates_sum = refl

units_sum : sum (λ g. item_size g + 3) 1024 ≡ 7085
unfolding decimal_in sum
units_sum = refl

-- ---- the text

head_short : (v n : ℕ) → v ≤ 1024 → n ≤ 10240 → length (print_head v n) ≤ 17
unfolding decimal_in
head_short v n h l =
    let a : length (in_decimal v) ≤ 4 = decimal_grows 10 v 1024 h in
    let b : length (in_decimal n) ≤ 5 = decimal_grows 10 n 10240 l in
    simp length-append (omega (arith, a, b))

module _ (c : Circuit) (ok : WellFormed c) (few : c.gates ≤ 1024) where
  gates_short : length (print_clauses (gather (gate_clauses c) c.gates)) ≤ 134614
  gates_short =
      let e : c.gates + (1024 - c.gates) ≡ 1024 = omega arith in
      let g : sum most c.gates ≤ sum most 1024 = rw e at (sum_grows most c.gates (1024 - c.gates)) in
      omega (arith, gathered_short (gate_clauses c) most c.gates (λ g h. gate_short (c.kind g) g (c.kids g) (ok.fits g h) (ok.rising g h) (ok.below g h)), g, gates_sum)

  units_short : length (print_clauses (gather (unit_clauses c) c.gates)) ≤ 7085
  units_short =
      let b : ℕ → ℕ = λ g. item_size g + 3 in
      let e : c.gates + (1024 - c.gates) ≡ 1024 = omega arith in
      let g : sum b c.gates ≤ sum b 1024 = rw e at (sum_grows b c.gates (1024 - c.gates)) in
      omega (arith, gathered_short (unit_clauses c) b c.gates (λ g h. unit_short (c.code g) g), g, units_sum)

  text_short : length (export_text c) ≤ 141716
  unfolding export_text print clauses
  text_short =
      omega (
        arith,
        length-append (print_head c.gates (length (clauses c))) (print_clauses (clauses c)),
        head_short c.gates (length (clauses c)) few (omega (arith, clauses_few c ok)),
        both_length (gather (gate_clauses c) c.gates) (gather (unit_clauses c) c.gates),
        gates_short,
        units_short,
      )

pub text_fits : TextFits
text_fits m v = let k = facts m v in text_short (circuit m) (well_formed m k) k.sound.placed.shaped.few

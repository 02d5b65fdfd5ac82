-- How many clauses there are and how long their text is, by how many digits the numbers have. Assumes nothing.
use Prim.Native.Nat.{ℕ, ◌+◌, ◌*◌, ◌≤◌, ◌<◌}
use mathlib.Core.Path.{◌≡◌, refl, sym, ap, ◌∙◌}
use mathlib.Core.Bool.{Bool, true, false, not}
use mathlib.Core.List.{List, [], ◌∷◌, ◌++◌, map}
use native.Mathlib.Omega.{arith}
use lib.ListN.{length, length-append}
use lib.Dec.{eqb}
use borrow.Author.Tests.{eqb-true}
use Rattle.std.proofs.lemmas.Nat.{mul-le}
use Rattle.circuit.specs.declared.Kind.{Kind}
use Rattle.circuit.specs.declared.Kind.TheVariants.{Input, Not, And, Or, Xor, Voter}
use Rattle.circuit.specs.Tools.{byte}
use Rattle.circuit.specs.Gate.{kind_of, fan_in_fits}
use Rattle.circuit.proofs.Values.{byte_bit}
use Rattle.circuit.proofs.Gate.{narrow}
use Rattle.map.specs.Map.{gate_count, code_count, kind_byte, fan_in, child_at, code_gate, code_value, kids_of, circuit}
use Rattle.map.specs.Inner.{IsMap}
use Rattle.map.proofs.Facts.{kids_length}
use Rattle.text.proofs.Decimal.{decimal_length}
use Rattle.dimacs.specs.declared.Literal.{Literal}
use Rattle.dimacs.specs.Cnf.{Clause}
use Rattle.dimacs.specs.Clauses.{variable, at_1, at_0, each, wide, each_pair, tseitin, gather, gate_clauses}
use Rattle.dimacs.specs.Dimacs.{print_item, print_clause, print_clauses, print_head}
use Rattle.dimacs.specs.Export.{export_text}
use Rattle.dimacs.proofs.Export.{each_length as each_count}
use Rattle.export.specs.declared.sizes.Shape.{Shape}
use Rattle.export.specs.Inner.{literal, kids_up_to, gate_text, gates_text, unit_text, units_text, item_size, kids_size, shape_of, GateMeasured, Measured}
use Rattle.export.proofs.Texts.{print_append, gate_fits, gates_none, gates_more, gather_none, gather_more, kids_more, units_none, units_more, text_parts}

-- ---- literals and children

item_length : (negated : Bool) (g : ℕ) → length (print_item (literal negated g)) ≡ item_size g + byte negated
item_length true g = simp length-append (omega arith)
item_length false g = simp length-append (omega arith)

pub item_few : (g : ℕ) → item_size g ≤ 11
item_few g = omega (arith, decimal_length 10 (variable g))

pub kids_size_none : kids_size [] ≡ 0
unfolding kids_size
kids_size_none = refl

size_append : (xs ys : List ℕ) → kids_size (xs ++ ys) ≡ kids_size xs + kids_size ys
unfolding kids_size
size_append [] ys = omega arith
size_append (x ∷ xs) ys = omega (arith, size_append xs ys)

one_size : (x : ℕ) → kids_size (x ∷ []) ≡ item_size x
unfolding kids_size
one_size x = omega arith

pub kids_size_more : (m : List ℕ) (g n : ℕ) → kids_size (kids_up_to m g (n + 1)) ≡ kids_size (kids_up_to m g n) + item_size (child_at m g n)
kids_size_more m g n = ap kids_size (kids_more m g n) ∙ size_append (kids_up_to m g n) (child_at m g n ∷ []) ∙ ap (λ (x : ℕ). kids_size (kids_up_to m g n) + x) (one_size (child_at m g n))

-- ---- clauses

clause_length : (l : Literal) (ls : Clause) → length (print_clause (l ∷ ls)) ≡ length (print_item l) + length (print_clause ls)
clause_length l ls = length-append (print_item l) (print_clause ls)

pub none_length : length (print_clauses []) ≡ 0
unfolding print_clauses
none_length = refl

clauses_length : (c : Clause) (cs : List Clause) → length (print_clauses (c ∷ cs)) ≡ length (print_clause c) + length (print_clauses cs)
unfolding print_clauses
clauses_length c cs = length-append (print_clause c) (print_clauses cs)

pub kids_length_more : (x : ℕ) (xs : List ℕ) → kids_size (x ∷ xs) ≡ item_size x + kids_size xs
unfolding kids_size
kids_length_more x xs = refl

-- literals that are all negated, or all plain
module _ (negated : Bool) where
  items_length : (xs : List ℕ) → length (print_clause (map (literal negated) xs)) ≡ kids_size xs + byte negated * length xs + 2
  items_length [] = omega (arith, kids_size_none)
  items_length (x ∷ xs) = omega (arith, clause_length (literal negated x) (map (literal negated) xs), item_length negated x, items_length xs, kids_length_more x xs)

  wide_length : (own : Bool) (g : ℕ) (xs : List ℕ)
      → length (print_clause (wide (literal own g) (literal negated) xs)) ≡ item_size g + byte own + kids_size xs + byte negated * length xs + 2
  wide_length own g xs = omega (arith, clause_length (literal own g) (map (literal negated) xs), item_length own g, items_length xs)

  each_length : (own : Bool) (g : ℕ) (xs : List ℕ)
      → length (print_clauses (each (literal own g) (literal negated) xs)) ≡ length xs * (item_size g + byte own + 2) + kids_size xs + byte negated * length xs
  each_length own g [] = omega (arith, none_length, kids_size_none)
  each_length own g (x ∷ xs) =
      let one : length (print_clause (literal own g ∷ literal negated x ∷ [])) ≡ item_size g + byte own + item_size x + byte negated + 2
      = omega (arith, clause_length (literal own g) (literal negated x ∷ []), clause_length (literal negated x) [], item_length own g, item_length negated x) in
      let product : length (x ∷ xs) * (item_size g + byte own + 2) ≡ (item_size g + byte own + 2) + length xs * (item_size g + byte own + 2) = omega arith in
      omega (arith, product, clauses_length (literal own g ∷ literal negated x ∷ []) (each (literal own g) (literal negated) xs), one, each_length own g xs, kids_length_more x xs)

three_length : (own a b : Bool) (g x y : ℕ)
    → length (print_clause (literal own g ∷ literal a x ∷ literal b y ∷ [])) ≡ item_size g + item_size x + item_size y + byte own + byte a + byte b + 2
three_length own a b g x y =
    omega (arith, clause_length (literal own g) (literal a x ∷ literal b y ∷ []), clause_length (literal a x) (literal b y ∷ []), clause_length (literal b y) [], item_length own g, item_length a x, item_length b y)

-- ---- gates

-- what a shape says
abbrev pub sized : Kind → ℕ → List ℕ → ℕ
sized k g xs =
    let s = shape_of k (length xs) in
    s.clauses * (item_size g + 2) + s.times * kids_size xs + s.negated

pub both_length : (cs ds : List Clause) → length (print_clauses (cs ++ ds)) ≡ length (print_clauses cs) + length (print_clauses ds)
both_length cs ds = ap length (print_append cs ds) ∙ length-append (print_clauses cs) (print_clauses ds)

one_length : (c : Clause) → length (print_clauses (c ∷ [])) ≡ length (print_clause c)
one_length c = omega (arith, clauses_length c [], none_length)

module _ (g : ℕ) where
  not_length : (xs : List ℕ) → length xs ≡ 1 → length (print_clauses (tseitin Not g xs)) ≡ sized Not g xs
  not_length xs e =
      let a : length (print_clause (wide (at_0 g) at_0 xs)) ≡ item_size g + 1 + kids_size xs + 1 * length xs + 2 = wide_length true true g xs in
      let b : length (print_clause (wide (at_1 g) at_1 xs)) ≡ item_size g + 0 + kids_size xs + 0 * length xs + 2 = wide_length false false g xs in
      omega (arith, e, a, b, clauses_length (wide (at_0 g) at_0 xs) (wide (at_1 g) at_1 xs ∷ []), one_length (wide (at_1 g) at_1 xs))

  and_length : (xs : List ℕ) → length (print_clauses (tseitin And g xs)) ≡ sized And g xs
  and_length xs =
      let a : length (print_clauses (each (at_0 g) at_1 xs)) ≡ length xs * (item_size g + 1 + 2) + kids_size xs + 0 * length xs = each_length false true g xs in
      let b : length (print_clause (wide (at_1 g) at_0 xs)) ≡ item_size g + 0 + kids_size xs + 1 * length xs + 2 = wide_length true false g xs in
      omega (arith, a, b, both_length (each (at_0 g) at_1 xs) (wide (at_1 g) at_0 xs ∷ []), one_length (wide (at_1 g) at_0 xs))

  or_length : (xs : List ℕ) → length (print_clauses (tseitin Or g xs)) ≡ sized Or g xs
  or_length xs =
      let a : length (print_clauses (each (at_1 g) at_0 xs)) ≡ length xs * (item_size g + 0 + 2) + kids_size xs + 1 * length xs = each_length true false g xs in
      let b : length (print_clause (wide (at_0 g) at_1 xs)) ≡ item_size g + 1 + kids_size xs + 0 * length xs + 2 = wide_length false true g xs in
      omega (arith, a, b, clauses_length (wide (at_0 g) at_1 xs) (each (at_1 g) at_0 xs))

  -- the clauses of three literals that are so long each
  four_length : (p q r t : Clause) → length (print_clauses (p ∷ q ∷ r ∷ t ∷ [])) ≡ length (print_clause p) + length (print_clause q) + length (print_clause r) + length (print_clause t)
  four_length p q r t = omega (arith, clauses_length p (q ∷ r ∷ t ∷ []), clauses_length q (r ∷ t ∷ []), clauses_length r (t ∷ []), one_length t)

  three_clauses_length : (p q r : Clause) → length (print_clauses (p ∷ q ∷ r ∷ [])) ≡ length (print_clause p) + length (print_clause q) + length (print_clause r)
  three_clauses_length p q r = omega (arith, clauses_length p (q ∷ r ∷ []), clauses_length q (r ∷ []), one_length r)

  xor_length : (xs : List ℕ) → length xs ≡ 2 → length (print_clauses (tseitin Xor g xs)) ≡ sized Xor g xs
  unfolding kids_size
  xor_length [] e = absurd (omega arith)
  xor_length (x ∷ []) e = absurd (omega arith)
  xor_length (x ∷ y ∷ []) e =
      omega (
        arith,
        four_length (at_0 g ∷ at_1 x ∷ at_1 y ∷ []) (at_0 g ∷ at_0 x ∷ at_0 y ∷ []) (at_1 g ∷ at_1 x ∷ at_0 y ∷ []) (at_1 g ∷ at_0 x ∷ at_1 y ∷ []),
        three_length true false false g x y,
        three_length true true true g x y,
        three_length false false true g x y,
        three_length false true false g x y,
      )
  xor_length (x ∷ y ∷ z ∷ xs) e = absurd (omega arith)

  pairs_length : (own : Bool) (x y z : ℕ)
      → length (print_clauses (each_pair (literal own g) (literal (not own)) (x ∷ y ∷ z ∷ []))) ≡ 3 * (item_size g + 2) + 2 * (item_size x + item_size y + item_size z) + 3 * byte own + 6 * byte (not own)
  pairs_length own x y z =
      let p = literal own g in
      let f = literal (not own) in
      omega (arith, three_clauses_length (p ∷ f x ∷ f y ∷ []) (p ∷ f x ∷ f z ∷ []) (p ∷ f y ∷ f z ∷ []), three_length own (not own) (not own) g x y, three_length own (not own) (not own) g x z, three_length own (not own) (not own) g y z)

  voter_length : (xs : List ℕ) → length xs ≡ 3 → length (print_clauses (tseitin Voter g xs)) ≡ sized Voter g xs
  unfolding kids_size
  voter_length [] e = absurd (omega arith)
  voter_length (x ∷ []) e = absurd (omega arith)
  voter_length (x ∷ y ∷ []) e = absurd (omega arith)
  voter_length (x ∷ y ∷ z ∷ []) e =
      let a : length (print_clauses (each_pair (at_0 g) at_1 (x ∷ y ∷ z ∷ []))) ≡ 3 * (item_size g + 2) + 2 * (item_size x + item_size y + item_size z) + 3 * 1 + 6 * 0 = pairs_length true x y z in
      let b : length (print_clauses (each_pair (at_1 g) at_0 (x ∷ y ∷ z ∷ []))) ≡ 3 * (item_size g + 2) + 2 * (item_size x + item_size y + item_size z) + 3 * 0 + 6 * 1 = pairs_length false x y z in
      omega (arith, a, b, both_length (each_pair (at_0 g) at_1 (x ∷ y ∷ z ∷ [])) (each_pair (at_1 g) at_0 (x ∷ y ∷ z ∷ [])))
  voter_length (x ∷ y ∷ z ∷ w ∷ xs) e = absurd (omega arith)

  pub size_by : (k : Kind) (xs : List ℕ) → fan_in_fits k (length xs) ≡ true → length (print_clauses (tseitin k g xs)) ≡ sized k g xs
  size_by Input xs f = omega (arith, none_length)
  size_by Not xs f = not_length xs (eqb-true (length xs) 1 f)
  size_by And xs f = and_length xs
  size_by Or xs f = or_length xs
  size_by Xor xs f = xor_length xs (eqb-true (length xs) 2 f)
  size_by Voter xs f = voter_length xs (eqb-true (length xs) 3 f)

-- how many clauses there are
voter_count : (g : ℕ) (xs : List ℕ) → length xs ≡ 3 → length (tseitin Voter g xs) ≡ 6
voter_count g [] l = absurd (omega arith)
voter_count g (x ∷ []) l = absurd (omega arith)
voter_count g (x ∷ y ∷ []) l = absurd (omega arith)
voter_count g (x ∷ y ∷ z ∷ []) l = refl
voter_count g (x ∷ y ∷ z ∷ w ∷ xs) l = absurd (omega arith)

count_by : (k : Kind) (g : ℕ) (xs : List ℕ) → fan_in_fits k (length xs) ≡ true → length (tseitin k g xs) ≡ (shape_of k (length xs)).clauses
count_by Input g xs f = refl
count_by Not g xs f = refl
count_by And g xs f = omega (arith, length-append (each (at_0 g) at_1 xs) (wide (at_1 g) at_0 xs ∷ []), each_count (at_0 g) at_1 xs)
count_by Or g xs f = omega (arith, each_count (at_1 g) at_0 xs)
count_by Xor g xs f = refl
count_by Voter g xs f = voter_count g xs (eqb-true (length xs) 3 f)

-- ---- bounds, so that no sum passes a word

pub fan_few : (k : Kind) (n : ℕ) → fan_in_fits k n ≡ true → n ≤ 8
fan_few Input n e = omega (arith, eqb-true n 0 e)
fan_few Not n e = (narrow Not refl n e).1
fan_few And n e = (narrow And refl n e).1
fan_few Or n e = (narrow Or refl n e).1
fan_few Xor n e = (narrow Xor refl n e).1
fan_few Voter n e = (narrow Voter refl n e).1

clauses_few : (k : Kind) (n : ℕ) → n ≤ 8 → (shape_of k n).clauses ≤ 9
clauses_few Input n h = omega arith
clauses_few Not n h = omega arith
clauses_few And n h = omega arith
clauses_few Or n h = omega arith
clauses_few Xor n h = omega arith
clauses_few Voter n h = omega arith

-- a product of at most 9 and at most 13
product_few : (a b : ℕ) → a ≤ 9 → b ≤ 13 → a * b ≤ 117
product_few a b h l = omega (arith, mul-le a b 9 13 h l)

short : (k : Kind) (n i s : ℕ) → n ≤ 8 → i ≤ 11 → s ≤ 11 * n → (shape_of k n).clauses * (i + 2) + (shape_of k n).times * s + (shape_of k n).negated ≤ 500
short Input n i s h a b = omega arith
short Not n i s h a b = omega arith
short And n i s h a b = omega (arith, product_few (n + 1) (i + 2) (omega arith) (omega arith))
short Or n i s h a b = omega (arith, product_few (n + 1) (i + 2) (omega arith) (omega arith))
short Xor n i s h a b = omega arith
short Voter n i s h a b = omega arith

-- ---- what is measured

module _ (m : List ℕ) (k : IsMap m) (g : ℕ) (h : g < gate_count m) where
  pub fan_eight : fan_in m g ≤ 8
  fan_eight = fan_few (kind_of (kind_byte m g)) (fan_in m g) (gate_fits m k g h)

  pub gate_measured : (kind : Kind) (shape : Shape) (fan item kids : ℕ) → kind ≡ kind_of (kind_byte m g) → fan ≡ fan_in m g → shape ≡ shape_of kind fan
      → (item ≡ item_size g) × (item ≤ 11) → (kids ≡ kids_size (kids_of m g)) × (kids ≤ 11 * fan)
      → GateMeasured m g shape.clauses (shape.clauses * (item + 2) + shape.times * kids + shape.negated)
  unfolding gate_text
  gate_measured kind shape fan item kids q f e i s =
      let l = kids_length m k g in
      let fits = gate_fits m k g h in
      rw (e, q, f) (record {
        count = rw (← l) (sym (count_by (kind_of (kind_byte m g)) g (kids_of m g) (rw l fits)));
        size = rw (i.0, s.0, ← l) (sym (size_by g (kind_of (kind_byte m g)) (kids_of m g) (rw l fits)));
        few = clauses_few (kind_of (kind_byte m g)) (fan_in m g) fan_eight;
        short = short (kind_of (kind_byte m g)) (fan_in m g) item kids fan_eight i.1 (omega (arith, s.1));
      })

pub kids_begin : (m : List ℕ) (g : ℕ) → (0 ≡ kids_size (kids_up_to m g 0)) × (0 ≤ 11 * 0)
kids_begin m g = (sym kids_size_none, omega arith)

pub kids_go_on : (m : List ℕ) (g j size x item : ℕ) → (size ≡ kids_size (kids_up_to m g j)) × (size ≤ 11 * j) → x ≡ child_at m g j → (item ≡ item_size x) × (item ≤ 11)
    → (size + item ≡ kids_size (kids_up_to m g (j + 1))) × (size + item ≤ 11 * (j + 1))
kids_go_on m g j size x item h e i = (rw (kids_size_more m g j, h.0, i.0, e) refl, omega (arith, h.1, i.1))

pub measured_none : (m : List ℕ) → Measured m 0 0 0
measured_none m = record { count = rw (gather_none (gate_clauses (circuit m))) refl; size = rw (gates_none m) refl; few = omega arith; short = omega arith }

pub measured_more : (m : List ℕ) (g clauses bytes c b : ℕ) → Measured m g clauses bytes → GateMeasured m g c b → Measured m (g + 1) (clauses + c) (bytes + b)
measured_more m g clauses bytes c b h q = record {
  count = rw (gather_more (gate_clauses (circuit m)) g, length-append, h.count, q.count) refl;
  size = rw (gates_more m g, length-append, h.size, q.size) refl;
  few = omega (arith, h.few, q.few);
  short = omega (arith, h.short, q.short);
}

-- ---- unit clauses

pub one_unit : (negated : Bool) (g : ℕ) → length (print_clauses ((literal negated g ∷ []) ∷ [])) ≡ item_size g + byte negated + 2
one_unit negated g = omega (arith, one_length (literal negated g ∷ []), clause_length (literal negated g) [], item_length negated g)

unit_length : (m : List ℕ) (r : ℕ) → length (unit_text m r) ≡ item_size (code_gate m r) + byte (not (eqb (code_value m r) 1)) + 2
unit_length m r = omega (arith, clause_length (literal (not (eqb (code_value m r) 1)) (code_gate m r)) [], item_length (not (eqb (code_value m r) 1)) (code_gate m r))

pub units_begin : (m : List ℕ) → (0 ≡ length (units_text m 0)) × (0 ≤ 14 * 0)
units_begin m = (rw (units_none m) refl, omega arith)

pub units_go_on : (m : List ℕ) (r size item n x : ℕ) → (size ≡ length (units_text m r)) × (size ≤ 14 * r) → x ≡ code_gate m r → (item ≡ item_size x) × (item ≤ 11)
    → n ≡ byte (not (eqb (code_value m r) 1)) → (size + (item + 2 + n) ≡ length (units_text m (r + 1))) × (size + (item + 2 + n) ≤ 14 * (r + 1))
units_go_on m r size item n x h e i q =
    (rw (units_more m r, length-append, unit_length m r, h.0, i.0, e, q) (omega arith), omega (arith, h.1, i.1, q, byte_bit (not (eqb (code_value m r) 1))))

-- ---- the whole text

pub text_length : (m : List ℕ) → IsMap m → (v count codes head gates units : ℕ) → v ≡ gate_count m → count ≡ length (gather (gate_clauses (circuit m)) (gate_count m)) → codes ≡ code_count m
    → head ≡ length (print_head v (count + codes)) → gates ≡ length (gates_text m (gate_count m)) → units ≡ length (units_text m (code_count m))
    → head + gates + units ≡ length (export_text (circuit m))
text_length m k v count codes head gates units p q r h g u =
    rw (← text_parts m k v count codes p q r, length-append, length-append, h, g, u) refl

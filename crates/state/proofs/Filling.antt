-- The turn of the loop that writes values, and the tests. Assumes nothing.
use Rattle.std.proofs.Common.{ℕ, zero, suc, max, take, subst, ◌+◌, ◌<◌, ◌≤◌, ◌≡◌, Bool, true, false, cond, List, [], ◌∷◌, ◌++◌, length, get_or, set, drop, eqb, leb, ltb, refl, sym, ap, eq-eqb, ne_eqb, ◌∙◌, inl, inr, arith}
use Rattle.std.proofs.Math.ListN.{length-set}
use mathlib.Core.List.{append_assoc, append-nil}
use native.Mathlib.Numerals.{add-one}
use lib.ListN.{get_or-append, get_or-eq_default}
use Rattle.std.specs.List.{fold}
use Rattle.std.proofs.lemmas.List.Sums.{fold_more}
use lib.Seq.{drop-cons, drop-length, set_at, take-length}
use borrow.Author.Tests.{leb-true, ltb-true, ltb-false}
use Rattle.folds.proofs.Tests.{which, bools}
use Rattle.folds.specs.Folds.{all_below}
use Rattle.folds.proofs.Loops.{all_at}
use Rattle.circuit.specs.Tools.{byte}
use Rattle.circuit.specs.Gate.{kind_of, is_input, gives}
use Rattle.circuit.specs.Circuit.{Circuit, WellFormed, on, given}
use Rattle.circuit.specs.Evaluate.{inputs_before, values}
use Rattle.circuit.proofs.Values.{byte_bit}
use Rattle.circuit.proofs.Lists.{map_same, place_below}
use Rattle.circuit.proofs.Evaluate.{values_length}
use Rattle.map.specs.Map.{gate_count, kind_byte, circuit}
use Rattle.map.specs.Inner.{IsMap}
use Rattle.map.proofs.Laws.{inputs_none, inputs_more}
use Rattle.map.proofs.Facts.{well_formed}
use Rattle.state.specs.State.{bits_test, Bits}
use Rattle.state.specs.Inner.{RowTested, ValuesBy}

-- ---- test 10

most_of_first : (s : List ℕ) (n : ℕ) → n ≤ length s → leb (fold max 0 (take n s)) 1 ≡ all_below n (λ j. leb (get_or s j 0) 1)
unfolding all_below
most_of_first s zero l = refl
most_of_first s (suc n) l =
    let most : fold max 0 (take (n + 1) s) ≡ max (fold max 0 (take n s)) (get_or s n 0) = fold_more max 0 s n 0 (omega (arith, l)) in
    grind (arith, bools, most, most_of_first s n (omega (arith, l)), add-one n)

-- the largest byte is at most 1 exactly if each is
pub most_at_1 : (s : List ℕ) → leb (fold max 0 s) 1 ≡ bits_test s
unfolding bits_test
most_at_1 s = subst (λ xs. leb (fold max 0 xs) 1 ≡ bits_test s) (take-length s) (most_of_first s (length s) (omega arith))

pub bits_of : (s : List ℕ) → bits_test s ≡ true → Bits s
unfolding bits_test
bits_of s e i = elim (which (ltb i (length s))) [
  | inl q ↦ leb-true _ _ (all_at (λ j. leb (get_or s j 0) 1) (length s) i e (ltb-true i (length s) q))
  | inr q ↦ rw (get_or-eq_default s 0 {n = i} (ltb-false i (length s) q)) (omega arith)
]

-- ---- values by `at`, and the memory that they are written to

-- only the inputs below n count
values_same : (c : Circuit) (at bt : ℕ → Bool) (n : ℕ) → ((x : ℕ) → x < n → is_input (c.kind x) ≡ true → at x ≡ bt x) → values c at n ≡ values c bt n
unfolding values
values_same c at bt zero e = refl
values_same c at bt (suc n) e =
    let below : values c at n ≡ values c bt n = values_same c at bt n (λ x h i. e x (omega arith) i) in
    elim (which (is_input (c.kind n))) [
      | inl i ↦ rw (below, i, e n (omega arith) i) refl
      | inr i ↦ rw (below, i) refl
    ]

-- the loop's memory: the values of the gates below g, where an input's is as `at` has it, and then what was there
unfoldable pub filled : Circuit → (ℕ → Bool) → List ℕ → ℕ → List ℕ
filled c at out g = values c at g ++ drop g out

filled_none : (c : Circuit) (at : ℕ → Bool) (out : List ℕ) → out ≡ filled c at out 0
unfolding filled values
filled_none c at out = refl

store : (vs out : List ℕ) (n v : ℕ) → length vs ≡ n → n < length out → set (vs ++ drop n out) n v ≡ (vs ++ (v ∷ [])) ++ drop (suc n) out
store vs out n v e l = rw (drop-cons out n 0 l, set_at vs (get_or out n 0) (drop (suc n) out) v n e, append_assoc)

-- a gate's children stand before it, so that what lies beyond counts for nothing
given_before : (c : Circuit) → WellFormed c → (vs rest : List ℕ) (g : ℕ) → g < c.gates → length vs ≡ g → given c (vs ++ rest) g ≡ given c vs g
given_before c ok vs rest g h e = ap (gives (c.kind g)) (map_same (on (vs ++ rest)) (on vs) (c.kids g)
    (λ x m. ap (λ (n : ℕ). eqb n 1) (get_or-append vs rest 0 x (omega (arith, ok.below g h x m)))))

filled_more : (c : Circuit) → WellFormed c → (at : ℕ → Bool) (out : List ℕ) (g v : ℕ) → g < c.gates → g < length out
    → v ≡ byte (cond (is_input (c.kind g)) (at g) (given c (filled c at out g) g)) → set (filled c at out g) g v ≡ filled c at out (g + 1)
unfolding filled values
filled_more c ok at out g v h l e =
    let n = values_length c at g in
    rw (add-one g, e, given_before c ok (values c at g) (drop g out) g h n) (store (values c at g) out g _ n l)

filled_same : (c : Circuit) (at bt : ℕ → Bool) (out : List ℕ) (g : ℕ) → ((x : ℕ) → x < g → is_input (c.kind x) ≡ true → at x ≡ bt x)
    → filled c at out g ≡ filled c bt out g
unfolding filled
filled_same c at bt out g e = ap (λ (vs : List ℕ). vs ++ drop g out) (values_same c at bt g e)

-- of a memory that is just long enough
filled_whole : (c : Circuit) (at : ℕ → Bool) (out : List ℕ) (g : ℕ) → g ≡ c.gates → length out ≡ c.gates → filled c at out g ≡ values c at c.gates
unfolding filled
filled_whole c at out g e l = rw (e, ← l, drop-length out) (append-nil _)

-- ---- the loop, where what is given for an input is known as it is asked for

-- `at`, with v at g
abbrev with_at : (ℕ → Bool) → ℕ → Bool → ℕ → Bool
with_at at g v x = cond (eqb x g) v (at x)

with_other : (at : ℕ → Bool) (g : ℕ) (v : Bool) (x : ℕ) → x < g → with_at at g v x ≡ at x
with_other at g v x h = rw (ne_eqb x g (λ e. omega (arith, e, h))) refl

with_own : (at : ℕ → Bool) (g : ℕ) (v : Bool) → with_at at g v g ≡ v
with_own at g v = rw (eq-eqb g g refl) refl

module _ (post : ℕ → ℕ → Bool → Type 0) (m out : List ℕ) where
  -- `at` has what was given for each input below n
  abbrev pub GivenBelow : (ℕ → Bool) → ℕ → Type 0
  GivenBelow at n = (x : ℕ) → x < n → is_input (kind_of (kind_byte m x)) ≡ true → post x (inputs_before (circuit m) x) (at x)

  -- at the turn of gate g, `place` inputs are behind it, and w is the memory that was `out`
  pub record FilledTo (w : List ℕ) (g place : ℕ) : Type 0 where
    pub passed : place ≡ inputs_before (circuit m) g
    pub few : place ≤ g
    pub at : ℕ → Bool
    pub given : GivenBelow at g
    pub holds : w ≡ filled (circuit m) at out g
    pub long : length w ≡ length out

  pub fill_none : FilledTo out 0 0
  fill_none = record { passed = inputs_none m; few = omega arith; at = λ x. false; given = λ x h i. absurd (omega arith); holds = filled_none _ _ out; long = refl }

  given_more : (at : ℕ → Bool) (g : ℕ) (v : Bool) → GivenBelow at g → (is_input (kind_of (kind_byte m g)) ≡ true → post g (inputs_before (circuit m) g) v)
      → GivenBelow (with_at at g v) (g + 1)
  given_more at g v f e x h i = elim (which (ltb x g)) [
    | inl q ↦ rw (with_other at g v x (ltb-true x g q)) (f x (ltb-true x g q) i)
    | inr q ↦ let same : x ≡ g = omega (arith, ltb-false x g q, h) in rw (same, with_own at g v) (e (rw same at i))
  ]

  -- what is written for gate g is its value
  own_value : (at : ℕ → Bool) (w : List ℕ) (g : ℕ) (v : Bool) → w ≡ filled (circuit m) (with_at at g v) out g
      → (is_input (kind_of (kind_byte m g)) ≡ false → v ≡ given (circuit m) w g)
      → byte v ≡ byte (cond (is_input (kind_of (kind_byte m g))) (with_at at g v g) (given (circuit m) (filled (circuit m) (with_at at g v) out g) g))
  own_value at w g v e o = elim (which (is_input (kind_of (kind_byte m g)))) [
    | inl i ↦ rw (i, with_own at g v) refl
    | inr i ↦ rw (i, ← e) (ap byte (o i))
  ]

  pub fill_more : (w : List ℕ) (g place b behind : ℕ) (v : Bool) → IsMap m → FilledTo w g place → g < gate_count m → g < length out
      → (is_input (kind_of (kind_byte m g)) ≡ true → post g place v) → (is_input (kind_of (kind_byte m g)) ≡ false → v ≡ given (circuit m) w g)
      → b ≡ byte v → behind ≡ place + byte (is_input (kind_of (kind_byte m g))) → FilledTo (set w g b) (g + 1) behind
  fill_more w g place b behind v k f h l e o r q =
      let again : w ≡ filled (circuit m) (with_at f.at g v) out g = f.holds ∙ filled_same (circuit m) f.at (with_at f.at g v) out g (λ x b i. sym (with_other f.at g v x b)) in
      record {
        passed = rw (inputs_more m g, ← f.passed) q;
        few = omega (arith, f.few, q, byte_bit (is_input (kind_of (kind_byte m g))));
        at = with_at f.at g v;
        given = given_more f.at g v f.given (rw f.passed at e);
        holds = ap (λ (u : List ℕ). set u g b) again
            ∙ filled_more (circuit m) (well_formed m k) (with_at f.at g v) out g b h l (r ∙ own_value f.at w g v again o);
        long = simp length-set f.long;
      }

  pub fill_all : (w : List ℕ) (g place : ℕ) → FilledTo w g place → g ≡ gate_count m → length out ≡ gate_count m → ValuesBy post m w
  fill_all w g place f e l = record {
    at = f.at;
    given = λ x h i. f.given x (omega (arith, e, h)) i;
    are = f.holds ∙ filled_whole (circuit m) f.at out g e l;
  }

-- what is given for each input is the value that `at` has: so these are the values by `at`
pub values_as : (post : ℕ → ℕ → Bool → Type 0) (m w : List ℕ) (at : ℕ → Bool) → ValuesBy post m w
    → ((g : ℕ) (v : Bool) → g < gate_count m → is_input (kind_of (kind_byte m g)) ≡ true → post g (inputs_before (circuit m) g) v → v ≡ at g)
    → w ≡ values (circuit m) at (gate_count m)
values_as post m w at b e = b.are ∙ values_same (circuit m) b.at at (gate_count m) (λ g h i. e g (b.at g) h i (b.given g h i))

-- an input's byte is in the row
pub row_has : (m row : List ℕ) (g : ℕ) → RowTested m row → g < gate_count m → is_input (kind_of (kind_byte m g)) ≡ true → inputs_before (circuit m) g < length row
unfolding inputs_before
row_has m row g r h i = omega (arith, place_below (λ x. is_input ((circuit m).kind x)) (gate_count m) g h i, r.long)

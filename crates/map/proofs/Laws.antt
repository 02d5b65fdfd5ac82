-- Laws of the definitions of specs/. Assumes nothing.
use Prim.Native.Nat.{ℕ, zero, suc, ◌+◌, ◌<◌, ◌≤◌}
use mathlib.Core.Path.{◌≡◌, refl, sym, ◌∙◌}
use mathlib.Core.Bool.{Bool, true, false}
use mathlib.Core.Logic.{inl, inr}
use mathlib.Core.List.{List, [], ◌∷◌, ◌++◌}
use native.Mathlib.Nat.{le_of_suc-le-suc, eq-or-lt_of_le}
use native.Mathlib.Numerals.{add-one}
use native.Mathlib.Omega.{arith}
use lib.Dec.{eqb, leb}
use lib.ListN.{length, get_or, set, replicate}
use lib.Seq.{get_or-set_same, get_or-set_other}
use borrow.Author.Tests.{eqb-true, eqb-false, ltb-true, leb-true}
use Rattle.folds.specs.Folds.{◌and◌, all_below}
use Rattle.folds.proofs.Tests.{which, and_left, and_right}
use Rattle.folds.proofs.Loops.{all_at}
use Rattle.circuit.specs.Tools.{byte}
use Rattle.circuit.specs.Gate.{is_input, kind_of}
use Rattle.circuit.specs.Circuit.{coded}
use Rattle.circuit.specs.Evaluate.{inputs_before}
use Rattle.circuit.proofs.Lists.{place_more}
use Rattle.map.specs.Map.{most_gates, gate_count, child_count, code_count, kind_byte, fan_in, first_child, fan_ins_before, code_gate, code_among, circuit}
use Rattle.map.specs.Check.{offsets_test, position_test, positions_test, child_test, children_test, code_test, first_failed, contents_tests}
use Rattle.map.specs.Inner.{Shaped, PlacesChildren, Placed, Sound, CodeMarks}

-- ---- the sum of the fan-ins

pub fans_more : (m : List ℕ) (g : ℕ) → fan_ins_before m (g + 1) ≡ fan_ins_before m g + fan_in m g
unfolding fan_ins_before
fans_more m g = rw add-one

-- a gate's stretch of children ends by the sum of the fan-ins
fans_within : (m : List ℕ) (n g : ℕ) → g < n → fan_ins_before m g + fan_in m g ≤ fan_ins_before m n
unfolding fan_ins_before
fans_within m zero g l = absurd (omega arith)
fans_within m (suc n) g l = elim (eq-or-lt_of_le (le_of_suc-le-suc l)) [
  | inl e ↦ rw e (omega arith)
  | inr s ↦ omega (arith, fans_within m n g s)
]

-- ---- the records that the tests give

pub shaped_of : (m : List ℕ) → gate_count m ≤ most_gates → offsets_test m ≡ true → Shaped m
unfolding offsets_test
shaped_of m l t = record { few = l; long = eqb-true _ _ (and_right _ _ t) }

pub places_children : (m : List ℕ) → positions_test m ≡ true → PlacesChildren m
unfolding positions_test position_test
places_children m t g l =
    omega (
      arith,
      fans_within m (gate_count m) g l,
      eqb-true (first_child m g) (fan_ins_before m g) (all_at (position_test m) (gate_count m) g (and_left _ _ t) l),
      eqb-true (fan_ins_before m (gate_count m)) (child_count m) (and_right _ _ t),
    )

pub placed_of : (m : List ℕ) → Shaped m → positions_test m ≡ true → Placed m
placed_of m s t = record { shaped = s; within = places_children m t }

-- ---- lists of tests

-- a test that passed, and one that failed
pub past : (k : ℕ) (b : Bool) (ts : List (ℕ × Bool)) → b ≡ true → first_failed ((k, b) ∷ ts) ≡ first_failed ts
unfolding first_failed
past k b ts h = rw h

pub stop : (k : ℕ) (b : Bool) (ts : List (ℕ × Bool)) → b ≡ false → first_failed ((k, b) ∷ ts) ≡ k
unfolding first_failed
stop k b ts h = rw h

pub no_test : first_failed [] ≡ 0
unfolding first_failed
no_test = refl

pub ruleset tests_by = (past, stop, no_test)

-- a list of tests none of which fails
pub none_failed : (k : ℕ) (b : Bool) (ts : List (ℕ × Bool)) → first_failed ((suc k, b) ∷ ts) ≡ 0 → (b ≡ true) × (first_failed ts ≡ 0)
unfolding first_failed
none_failed k true ts e = (refl, e)
none_failed k false ts e = absurd (omega arith)

-- ---- the inputs

pub inputs_none : (m : List ℕ) → 0 ≡ inputs_before (circuit m) 0
unfolding inputs_before
inputs_none m = refl

pub inputs_more : (m : List ℕ) (g : ℕ) → inputs_before (circuit m) (g + 1) ≡ inputs_before (circuit m) g + byte (is_input (kind_of (kind_byte m g)))
unfolding inputs_before
inputs_more m g = rw (add-one g) (place_more (λ x. is_input (kind_of (kind_byte m x))) g)

-- ---- the codes

pub marks_none : (m : List ℕ) (n : ℕ) → CodeMarks m 0 (replicate n 0)
unfolding code_among
marks_none m zero g = refl
marks_none m (suc n) zero = refl
marks_none m (suc n) (suc g) = marks_none m n g

-- one code more
pub marks_more : (m : List ℕ) (r : ℕ) (marks : List ℕ) (x : ℕ) → x ≡ code_gate m r → x < length marks → CodeMarks m r marks → CodeMarks m (r + 1) (set marks x 1)
unfolding code_among
marks_more m r marks x e l k g = rw (add-one r) (elim (which (eqb (code_gate m r) g)) [
  | inl q ↦ rw (q, ← eqb-true (code_gate m r) g q, ← e) (get_or-set_same marks x 1 0 l)
  | inr q ↦ rw q (get_or-set_other marks x g 1 0 (λ z. eqb-false (code_gate m r) g q (sym e ∙ sym z)) ∙ k g)
])

-- a gate is coded where it is marked
pub mark_none : (m marks : List ℕ) (x : ℕ) → CodeMarks m (code_count m) marks → get_or marks x 0 ≡ 0 → coded (circuit m) x ≡ false
mark_none m marks x k e = unmarked (coded (circuit m) x) (sym (k x) ∙ e)
  where
    unmarked : (b : Bool) → byte b ≡ 0 → b ≡ false
    unmarked true q = absurd (omega arith)
    unmarked false q = refl

pub mark_some : (m marks : List ℕ) (x : ℕ) → CodeMarks m (code_count m) marks → (get_or marks x 0 ≡ 0 → ⊥) → coded (circuit m) x ≡ true
mark_some m marks x k h = marked (coded (circuit m) x) (λ q. h (k x ∙ q))
  where
    marked : (b : Bool) → (byte b ≡ 0 → ⊥) → b ≡ true
    marked true q = refl
    marked false q = absurd (q refl)

-- ---- all tests

pub sound_of : (m : List ℕ) → Placed m → all_below (gate_count m) (children_test m) ≡ true → all_below (code_count m) (code_test m) ≡ true → Sound m
unfolding children_test child_test code_test
sound_of m p a b = record {
  placed = p;
  below = λ g j l h. ltb-true _ _ (and_left _ _ (all_at (child_test m g) (fan_in m g) j (all_at (children_test m) (gate_count m) g a l) h));
  coded_gate = λ r l. ltb-true _ _ (and_left _ _ (and_left _ _ (and_left _ _ (all_at (code_test m) (code_count m) r b l))));
}

-- the tests on the contents, one by one, where none fails
pub contents_tests_lem : (m : List ℕ) → first_failed (contents_tests m) ≡ 0
    → (leb 12 (length m) ≡ true) × (leb 1 (gate_count m) and leb (gate_count m) most_gates ≡ true) × (offsets_test m ≡ true)
unfolding contents_tests
contents_tests_lem m e =
    let t1 = none_failed 0 _ _ e in
    let t2 = none_failed 1 _ _ t1.1 in
    (t1.0, t2.0, (none_failed 2 _ _ t2.1).0)

-- and what they say
pub contents_passed : (m : List ℕ) → first_failed (contents_tests m) ≡ 0 → (12 ≤ length m) × Shaped m
contents_passed m e = (let (t1, t2, t3) = contents_tests_lem m e in (leb-true _ _ t1, shaped_of m (leb-true _ _ (and_right _ _ t2)) t3))

fails_first : (a b : List (ℕ × Bool)) (k : ℕ) → first_failed a ≡ suc k → first_failed (a ++ b) ≡ suc k
unfolding first_failed
fails_first [] b k e = absurd (omega arith)
fails_first ((n, true) ∷ a) b k e = fails_first a b k e
fails_first ((n, false) ∷ a) b k e = e

-- tests put behind others: the number is the first ones', unless they all pass
pub fails_before : (a b : List (ℕ × Bool)) → (first_failed a ≡ 0 → ⊥) → first_failed (a ++ b) ≡ first_failed a
fails_before a b h = go (first_failed a) refl
  where
    go : (n : ℕ) → first_failed a ≡ n → first_failed (a ++ b) ≡ first_failed a
    go zero e = absurd (h e)
    go (suc k) e = fails_first a b k e ∙ sym e

-- no test has the number 0
abbrev pub Numbered : List (ℕ × Bool) → Type 0
Numbered [] = Unit {0}
Numbered (t ∷ ts) = (1 ≤ t.0) × Numbered ts

pub passes_before : (a b : List (ℕ × Bool)) → Numbered a → first_failed a ≡ 0 → first_failed (a ++ b) ≡ first_failed b
unfolding first_failed
passes_before [] b n e = refl
passes_before ((k, true) ∷ a) b n e = passes_before a b n.1 e
passes_before ((k, false) ∷ a) b n e = absurd (let h = n.0 in omega arith)

pub contents_numbered : (m : List ℕ) → Numbered (contents_tests m)
unfolding contents_tests
contents_numbered m = (omega arith, (omega arith, (omega arith, tt)))

pub passed_before : (a b : List (ℕ × Bool)) → first_failed (a ++ b) ≡ 0 → first_failed a ≡ 0
passed_before a b q = elim (which (eqb (first_failed a) 0)) [
  | inl z ↦ eqb-true (first_failed a) 0 z
  | inr z ↦ sym (fails_before a b (eqb-false (first_failed a) 0 z)) ∙ q
]

pub contents_some : (m : List ℕ) → first_failed (contents_tests m) ≡ 0 → 1 ≤ gate_count m
contents_some m e = leb-true _ _ (and_left _ _ (contents_tests_lem m e).1)

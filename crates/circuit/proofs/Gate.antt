-- The laws of each kind of gate. All that the proofs know of a kind is here: a new kind is a new clause of `fans`, `laws` and `no_part`.
-- Assumes nothing.
use Prim.Native.Nat.{ℕ, suc, ◌+◌, ◌≤◌}
use mathlib.Core.Path.{◌≡◌, refl, sym, ap, ◌∙◌}
use mathlib.Core.Logic.{◌⊎◌, inl, inr, ◌↔◌}
use mathlib.Core.Bool.{Bool, true, false, cond, not, true≢false, false≢true, not-not}
use mathlib.Core.List.{List, [], ◌∷◌, map}
use mathlib.Core.List.Memᴰ.{cases_cons as cases}
use mathlib.Core.List.Memᴰ.{head as here}
use mathlib.Core.List.Memᴰ.{not-nil as nowhere}
use mathlib.Core.List.Memᴰ.{tail as there}
use mathlib.Core.List.{Memᴰ as In}
use native.Mathlib.Nat.{zero-add}
use native.Mathlib.Omega.{arith}
use lib.ListN.{length, length-map}
use lib.Dec.{eqb, leb, ltb, eqb-suc-suc}
use borrow.Author.Tests.{eqb-true, eqb-false, eq-eqb, ne_eqb, leb-true, leb-false, le-leb, lt-leb, ltb-true, ltb-false, lt-ltb, le-ltb}
use Rattle.folds.specs.Folds.{◌and◌, ◌or◌}
use Rattle.folds.proofs.Tests.{which, and_left, and_right, and_both, or_cases, or_first, or_second}
use Rattle.circuit.specs.Tools.{same, Rising}
use Rattle.circuit.specs.declared.Kind.{Kind}
use Rattle.circuit.specs.declared.Kind.TheVariants.{Input, Not, And, Or, Xor, Voter}
use Rattle.circuit.specs.Gate.{is_input, fan_in_fits, all_on, some_on, odd_on, count_on, gives, relevant, carries_weight, singly, order}
use Rattle.circuit.specs.Source001.{AtLeastTwo, Functions}
use Rattle.circuit.proofs.Values.{agree, unequal, same_refl, same_not}
use Rattle.circuit.proofs.Lists.{select_in, select_length, select_one, singles_in, singles_out}
use Rattle.circuit.proofs.Justification.{flip, flip_self, flip_other, having}
use Rattle.circuit.proofs.Shapes.{Laws, Fans, suits_few, apart, enough_laws, each_laws}

-- ---- AND, OR and voters: by how many children are at 1

count_most : (vs : List Bool) → count_on vs ≤ length vs
count_most [] = omega arith
count_most (true ∷ vs) = omega (arith, count_most vs)
count_most (false ∷ vs) = omega (arith, count_most vs)

pub count_all : (vs : List Bool) → eqb (count_on vs) (length vs) ≡ all_on vs
unfolding ◌and◌
count_all [] = refl
count_all (true ∷ vs) = let e : 1 + count_on vs ≡ suc (count_on vs) = omega arith in rw e (eqb-suc-suc (count_on vs) (length vs) ∙ count_all vs)
count_all (false ∷ vs) = ne_eqb (0 + count_on vs) (suc (length vs)) (λ e. omega (arith, count_most vs))

pub count_some : (vs : List Bool) → ltb 0 (count_on vs) ≡ some_on vs
unfolding ◌or◌
count_some [] = refl
count_some (true ∷ vs) = lt-ltb 0 (1 + count_on vs) (omega arith)
count_some (false ∷ vs) = rw (zero-add (count_on vs)) (count_some vs)

module _ (τ : ℕ → Bool) where
  at_1 : (xs : List ℕ) → length (having true τ xs) ≡ count_on (map τ xs)
  at_1 [] = refl
  at_1 (x ∷ xs) = elim (which (τ x)) [
    | inl q ↦ rw q (omega (arith, at_1 xs))
    | inr q ↦ rw q (omega (arith, at_1 xs))
  ]

  at_0 : (xs : List ℕ) → length (having false τ xs) + count_on (map τ xs) ≡ length xs
  at_0 [] = omega arith
  at_0 (x ∷ xs) = elim (which (τ x)) [
    | inl q ↦ rw q (omega (arith, at_0 xs))
    | inr q ↦ rw q (omega (arith, at_0 xs))
  ]

  module _ (xs : List ℕ) where
    abbrev vs : List Bool
    vs = map τ xs

    and_at_1 : (all_on vs ≡ true) ↔ (length xs ≤ length (having true τ xs))
    and_at_1 = (
      λ e. omega (arith, at_1 xs, length-map xs τ, eqb-true _ _ (count_all vs ∙ e)),
      λ l. sym (count_all vs) ∙ eq-eqb _ _ (omega (arith, at_1 xs, length-map xs τ, count_most vs)),
    )

    and_at_0 : (all_on vs ≡ false) ↔ (1 ≤ length (having false τ xs))
    and_at_0 = (
      λ e. omega (arith, at_0 xs, length-map xs τ, count_most vs, eqb-false _ _ (count_all vs ∙ e)),
      λ l. sym (count_all vs) ∙ ne_eqb _ _ (λ q. omega (arith, at_0 xs, length-map xs τ)),
    )

    or_at_1 : (some_on vs ≡ true) ↔ (1 ≤ length (having true τ xs))
    or_at_1 = (λ e. omega (arith, at_1 xs, ltb-true _ _ (count_some vs ∙ e)), λ l. sym (count_some vs) ∙ lt-ltb _ _ (omega (arith, at_1 xs)))

    or_at_0 : (some_on vs ≡ false) ↔ (length xs ≤ length (having false τ xs))
    or_at_0 = (λ e. omega (arith, at_0 xs, ltb-false _ _ (count_some vs ∙ e)), λ l. sym (count_some vs) ∙ le-ltb _ _ (omega (arith, at_0 xs)))

    voter_at_1 : (leb 2 (count_on vs) ≡ true) ↔ (2 ≤ length (having true τ xs))
    voter_at_1 = (λ e. omega (arith, at_1 xs, leb-true _ _ e), λ l. le-leb _ _ (omega (arith, at_1 xs)))

    -- of three
    voter_at_0 : length xs ≡ 3 → (leb 2 (count_on vs) ≡ false) ↔ (2 ≤ length (having false τ xs))
    voter_at_0 t = (λ e. omega (arith, at_0 xs, leb-false _ _ e), λ l. lt-leb _ _ (omega (arith, at_0 xs)))

-- ---- NOT and XOR: the value is the parity of the children's, turned or not

-- is the length odd
abbrev odds : List ℕ → Bool
odds [] = false
odds (x ∷ xs) = not (odds xs)

lone : (o : List ℕ) → odds o ≡ true → length o ≤ 2 → (x : ℕ) × (o ≡ x ∷ [])
lone [] e h = absurd (false≢true e)
lone (x ∷ []) e h = (x, refl)
lone (x ∷ y ∷ []) e h = absurd (false≢true e)
lone (x ∷ y ∷ z ∷ o) e h = absurd (omega arith)

same_turned : (b q : Bool) → same b (not q) ≡ not (same b q)
same_turned true q = refl
same_turned false q = refl

turned_same : (b q : Bool) → same (not b) q ≡ not (same b q)
turned_same true q = refl
turned_same false q = sym (not-not q)

-- `not (same p q)` is the sum of two parities, and this its law of exchange
exchange : (b p q : Bool) → not (same b (not (same p q))) ≡ not (same p (not (same b q)))
exchange true p q = ap not (sym (same_turned p q))
exchange false p q = rw (not-not q) (not-not (not (same p q)))

odd_apart : (τ at : ℕ → Bool) (xs : List ℕ) → odd_on (map τ xs) ≡ not (same (odds (apart τ at xs)) (odd_on (map at xs)))
odd_apart τ at [] = refl
odd_apart τ at (y ∷ ys) = elim (agree (at y) (τ y)) [
  | inl q ↦ rw (q, same_refl (at y), odd_apart τ at ys) (exchange (at y) (odds (apart τ at ys)) (odd_on (map at ys)))
  | inr q ↦ rw (q, same_not (at y), odd_apart τ at ys) (
      ap not (turned_same (at y) (not (same (odds (apart τ at ys)) (odd_on (map at ys)))))
      ∙ ap not (exchange (at y) (odds (apart τ at ys)) (odd_on (map at ys)))
      ∙ sym (ap not (turned_same (odds (apart τ at ys)) (not (same (at y) (odd_on (map at ys)))))))
]

flip_apart : (τ : ℕ → Bool) (xs : List ℕ) (x : ℕ) → Rising xs → In x xs → apart (flip x τ) τ xs ≡ x ∷ []
flip_apart τ xs x r m = select_one _ xs x r m (rw (flip_self τ x, same_not (τ x))) (λ y i n. rw (flip_other τ x y n, same_refl (τ y)))

module _ (k : Kind) (v turned : Bool) (fans : Fans k v)
    (is : (vs : List Bool) → gives k vs ≡ same turned (odd_on vs))
    (counts : (b : Bool) → relevant k v b ≡ true)
    (alone : order k v ≡ singly)
    (small : (n : ℕ) → fan_in_fits k n ≡ true → n ≤ 2) where
  gives_apart : (τ at : ℕ → Bool) (xs : List ℕ) (b : Bool) → odds (apart τ at xs) ≡ b → gives k (map τ xs) ≡ cond b (not (gives k (map at xs))) (gives k (map at xs))
  gives_apart τ at xs true q = is (map τ xs) ∙ rw (odd_apart τ at xs, q, is (map at xs)) (same_turned turned (odd_on (map at xs)))
  gives_apart τ at xs false q = is (map τ xs) ∙ rw (odd_apart τ at xs, q, is (map at xs), not-not (odd_on (map at xs)))

  gives_flip : (τ : ℕ → Bool) (xs : List ℕ) (x : ℕ) → Rising xs → In x xs → gives k (map (flip x τ) xs) ≡ not (gives k (map τ xs))
  gives_flip τ xs x r m = gives_apart (flip x τ) τ xs true (rw (flip_apart τ xs x r m))

  one_apart : (τ at : ℕ → Bool) (xs : List ℕ) → length xs ≤ 2 → gives k (map at xs) ≡ not v → gives k (map τ xs) ≡ v → (x : ℕ) × (apart τ at xs ≡ x ∷ [])
  one_apart τ at xs l e d = elim (which (odds (apart τ at xs))) [
    | inl q ↦ lone (apart τ at xs) q (omega (arith, select_length (λ x. not (same (τ x) (at x))) xs))
    | inr q ↦ absurd (unequal v v refl (sym e ∙ sym (gives_apart τ at xs false q) ∙ d))
  ]

  parity : Laws k v
  parity = each_laws k v fans
      (λ τ xs x r m e d. unequal (gives k (map τ xs)) v e (sym (gives_flip τ xs x r m) ∙ d))
      counts
      alone
      (λ at xs e o. (
        λ m. (let (x, i, q) = singles_out o xs m in
            (flip x at, gives_flip at xs x e.rising i ∙ ap not e.gave ∙ not-not v, q ∙ sym (flip_apart at xs x e.rising i))),
        λ t. rw t.2 (let (x, q) = one_apart t.0 at xs (small (length xs) e.fits) e.gave t.1 in
            rw q (singles_in x xs (select_in (λ y. not (same (t.0 y) (at y))) x xs (rw q (here refl))).0)),
      ))

-- ---- the kinds

two_to_eight : (n : ℕ) → leb 2 n and leb n 8 ≡ true → (1 ≤ n) × (n ≤ 8)
two_to_eight n e = omega (arith, leb-true 2 n (and_left (leb 2 n) (leb n 8) e), leb-true n 8 (and_right (leb 2 n) (leb n 8) e))

pub fans : (k : Kind) (v : Bool) → is_input k ≡ false → Fans k v
fans Input v i = absurd (true≢false i)
fans Not v i = λ n e. omega (arith, eqb-true n 1 e)
fans And true i = two_to_eight
fans And false i = two_to_eight
fans Or true i = two_to_eight
fans Or false i = two_to_eight
fans Xor v i = λ n e. omega (arith, eqb-true n 2 e)
fans Voter v i = λ n e. eqb-true n 3 e

-- they are 1 to 8
pub narrow : (k : Kind) → is_input k ≡ false → (n : ℕ) → fan_in_fits k n ≡ true → (1 ≤ n) × (n ≤ 8)
narrow k i n e = suits_few (order k true) n (fans k true i n e)

pub laws : (k : Kind) (v : Bool) → is_input k ≡ false → Laws k v
laws Input v i = absurd (true≢false i)
laws Not v i = parity Not v false (fans Not v i) (λ vs. refl) (λ b. refl) refl (λ n e. omega (arith, eqb-true n 1 e))
laws And true i = enough_laws And true two_to_eight (λ xs f τ. and_at_1 τ xs) (λ b. refl)
laws And false i = enough_laws And false two_to_eight (λ xs f τ. and_at_0 τ xs) (λ b. refl)
laws Or true i = enough_laws Or true two_to_eight (λ xs f τ. or_at_1 τ xs) (λ b. refl)
laws Or false i = enough_laws Or false two_to_eight (λ xs f τ. or_at_0 τ xs) (λ b. refl)
laws Xor v i = parity Xor v true (fans Xor v i) (λ vs. refl) (λ b. refl) refl (λ n e. omega (arith, eqb-true n 2 e))
laws Voter true i = enough_laws Voter true (fans Voter true i) (λ xs f τ. voter_at_1 τ xs) (λ b. refl)
laws Voter false i = enough_laws Voter false (fans Voter false i) (λ xs f τ. voter_at_0 τ xs (eqb-true _ _ f)) (λ b. refl)

-- an input has no relevant child
pub no_part : (k : Kind) (v b : Bool) → is_input k ≡ true → relevant k v b ≡ true → ⊥
no_part Input v b i e = false≢true e
no_part Not v b i e = false≢true i
no_part And v b i e = false≢true i
no_part Or v b i e = false≢true i
no_part Xor v b i e = false≢true i
no_part Voter v b i e = false≢true i

-- all but NOT gates carry weight, and those have a child
weighs : (k : Kind) → ¬ (k ≡ Not) → carries_weight k ≡ true
weighs Input n = refl
weighs Not n = absurd (n refl)
weighs And n = refl
weighs Or n = refl
weighs Xor n = refl
weighs Voter n = refl

pub weight_is : (k : Kind) → (carries_weight k ≡ true) ↔ ¬ (k ≡ Not)
weight_is k = (λ e z. false≢true (rw z at e), weighs k)

pub weightless_child : (k : Kind) (n : ℕ) → carries_weight k ≡ false → fan_in_fits k n ≡ true → 1 ≤ n
weightless_child Input n w f = absurd (true≢false w)
weightless_child Not n w f = omega (arith, eqb-true n 1 f)
weightless_child And n w f = absurd (true≢false w)
weightless_child Or n w f = absurd (true≢false w)
weightless_child Xor n w f = absurd (true≢false w)
weightless_child Voter n w f = absurd (true≢false w)

-- ---- 001's functions

not_to : (b : Bool) → (gives Not (b ∷ []) ≡ true) ↔ (b ≡ false)
not_to true = (λ e. absurd (false≢true e), λ e. absurd (true≢false e))
not_to false = (λ e. refl, λ e. refl)

xor_to : (a b : Bool) → (gives Xor (a ∷ b ∷ []) ≡ true) ↔ (((a ≡ true) × (b ≡ false)) ⊎ ((a ≡ false) × (b ≡ true)))
xor_to true true = (λ e. absurd (false≢true e), elim [ inl p ↦ absurd (true≢false p.1) | inr p ↦ absurd (true≢false p.0) ])
xor_to true false = (λ e. inl (refl, refl), λ p. refl)
xor_to false true = (λ e. inr (refl, refl), λ p. refl)
xor_to false false = (λ e. absurd (false≢true e), elim [ inl p ↦ absurd (false≢true p.0) | inr p ↦ absurd (false≢true p.1) ])

or_to : (vs : List Bool) → (gives Or vs ≡ true) ↔ In true vs
or_to [] = (λ e. absurd (false≢true e), λ m. absurd (nowhere m))
or_to (w ∷ ws) = (
  λ e. elim (or_cases w (some_on ws) e) [ inl q ↦ here (sym q) | inr q ↦ there ((or_to ws).0 q) ],
  λ m. elim (cases m) [ inl e ↦ or_first w (some_on ws) (sym e) | inr n ↦ or_second w (some_on ws) ((or_to ws).1 n) ],
)

and_to : (vs : List Bool) → (gives And vs ≡ true) ↔ ((b : Bool) → In b vs → b ≡ true)
and_to [] = (λ e b m. absurd (nowhere m), λ f. refl)
and_to (w ∷ ws) = (
  λ e b m. elim (cases m) [ inl q ↦ q ∙ and_left w (all_on ws) e | inr n ↦ (and_to ws).0 (and_right w (all_on ws) e) b n ],
  λ f. and_both w (all_on ws) (f w (here refl)) ((and_to ws).1 (λ b n. f b (there n))),
)

voter_to : (a b c : Bool) → (gives Voter (a ∷ b ∷ c ∷ []) ≡ true) ↔ AtLeastTwo (a ≡ true) (b ≡ true) (c ≡ true)
voter_to true true true = (λ e. inl (refl, refl), λ p. refl)
voter_to true true false = (λ e. inl (refl, refl), λ p. refl)
voter_to true false true = (λ e. inr (inl (refl, refl)), λ p. refl)
voter_to false true true = (λ e. inr (inr (refl, refl)), λ p. refl)
voter_to true false false = (λ e. absurd (false≢true e), elim [ inl p ↦ absurd (false≢true p.1) | inr q ↦ elim q [ inl p ↦ absurd (false≢true p.1) | inr p ↦ absurd (false≢true p.0) ] ])
voter_to false true false = (λ e. absurd (false≢true e), elim [ inl p ↦ absurd (false≢true p.0) | inr q ↦ elim q [ inl p ↦ absurd (false≢true p.0) | inr p ↦ absurd (false≢true p.1) ] ])
voter_to false false c = (λ e. absurd (few c e), elim [ inl p ↦ absurd (false≢true p.0) | inr q ↦ elim q [ inl p ↦ absurd (false≢true p.0) | inr p ↦ absurd (false≢true p.0) ] ])
  where
    few : (c : Bool) → gives Voter (false ∷ false ∷ c ∷ []) ≡ true → ⊥
    few true e = false≢true e
    few false e = false≢true e

pub functions : Functions
functions = record { not_is = not_to; or_is = or_to; and_is = and_to; xor_is = xor_to; voter_is = voter_to }

-- 001's example of justifications. Assumes nothing.
use Prim.Native.Nat.{ℕ}
use mathlib.Core.Path.{◌≡◌, refl, sym, ap, ◌∙◌}
use mathlib.Core.Logic.{◌⊎◌, inl, inr}
use mathlib.Core.Bool.{Bool, true, false, cond, true≢false}
use mathlib.Core.Option.{Option, none, some}
use mathlib.Core.List.Memᴰ.{cases_cons as cases}
use mathlib.Core.List.Memᴰ.{head as here}
use mathlib.Core.List.Memᴰ.{not-nil as nowhere}
use mathlib.Core.List.Memᴰ.{tail as there}
use mathlib.Core.List.{Memᴰ as In}
use native.Mathlib.Omega.{arith}
use lib.Dec.{eqb}
use borrow.Author.Tests.{eqb-true, eq-eqb}
use Rattle.folds.specs.Folds.{◌and◌}
use Rattle.folds.proofs.Tests.{which, and_first_false, and_second_false}
use Rattle.circuit.specs.declared.Kind.TheVariants.{And}
use Rattle.circuit.specs.Gate.{gives}
use Rattle.circuit.specs.Source001.{Partial, Has, Justification, Minimal, justifications_of_t1, minimal_of_t1, children_of_t1, ExampleIs001}
use Rattle.circuit.proofs.Justification.{never, some_is, has_or_not}

abbrev Children : Partial → Type 0
Children σ = (x : ℕ) (b : Bool) → Has σ x b → In x children_of_t1

abbrev Justifies : Partial → Type 0
Justifies σ = Justification (gives And) children_of_t1 false σ

abbrev Off : Option Bool → Type 0
Off o = o ≡ some false

-- one gate alone has a value
abbrev just : ℕ → Bool → Partial
just x v y = cond (eqb y x) (some v) none

just_at : (x : ℕ) (v : Bool) → Has (just x v) x v
just_at x v = rw (eq-eqb x x refl)

just_has : (x : ℕ) (v : Bool) (y : ℕ) (b : Bool) → Has (just x v) y b → (y ≡ x) × (v ≡ b)
just_has x v y b e = elim (which (eqb y x)) [
  | inl q ↦ (eqb-true y x q, some_is (rw q at e))
  | inr q ↦ absurd (never (rw q at e))
]

-- ---- the two lists

off_or_not : (o : Option Bool) → Off o ⊎ ((b : Bool) → o ≡ some b → b ≡ true)
off_or_not none = inr (λ b e. absurd (never e))
off_or_not (some true) = inr (λ b e. some_is (sym e))
off_or_not (some false) = inl refl

listed : (a b : Option Bool) → Off a ⊎ Off b → In (a, b) justifications_of_t1
listed (some false) none o = here refl
listed (some false) (some true) o = there (here refl)
listed (some false) (some false) o = there (there (here refl))
listed none (some false) o = there (there (there (here refl)))
listed (some true) (some false) o = there (there (there (there (here refl))))
listed none none o = absurd (elim o [ inl e ↦ never e | inr e ↦ never e ])
listed none (some true) o = absurd (elim o [ inl e ↦ never e | inr e ↦ true≢false (some_is e) ])
listed (some true) none o = absurd (elim o [ inl e ↦ true≢false (some_is e) | inr e ↦ never e ])
listed (some true) (some true) o = absurd (elim o [ inl e ↦ true≢false (some_is e) | inr e ↦ true≢false (some_is e) ])

first : {a b c d : Option Bool} → ◌≡◌ {A = Option Bool × Option Bool} (a, b) (c, d) → a ≡ c
first e = ap (λ (p : Option Bool × Option Bool). p.0) e

second : {a b c d : Option Bool} → ◌≡◌ {A = Option Bool × Option Bool} (a, b) (c, d) → b ≡ d
second e = ap (λ (p : Option Bool × Option Bool). p.1) e

unlisted : (a b : Option Bool) → In (a, b) justifications_of_t1 → Off a ⊎ Off b
unlisted a b m = elim (cases m) [
  | inl e ↦ inl (first e)
  | inr m ↦ elim (cases m) [
    | inl e ↦ inl (first e)
    | inr m ↦ elim (cases m) [
      | inl e ↦ inl (first e)
      | inr m ↦ elim (cases m) [
        | inl e ↦ inr (second e)
        | inr m ↦ elim (cases m) [ inl e ↦ inr (second e) | inr m ↦ absurd (nowhere m) ]
      ]
    ]
  ]
]

-- ---- a child at 0 is enough, and there has to be one

enough : (σ : Partial) → Children σ → Off (σ 3) ⊎ Off (σ 2) → Justifies σ
enough σ k o = record {
  children = k;
  forces = λ τ e. elim o [
    | inl q ↦ and_second_false _ _ (and_first_false _ _ (e 3 false q))
    | inr q ↦ and_first_false _ _ (e 2 false q)
  ];
}

needed : (σ : Partial) → Justifies σ → Off (σ 3) ⊎ Off (σ 2)
unfolding ◌and◌
needed σ j = elim (off_or_not (σ 3)) [
  | inl o ↦ inl o
  | inr f ↦ elim (off_or_not (σ 2)) [
    | inl o ↦ inr o
    | inr g ↦ absurd (true≢false (j.forces (λ x. true) (λ x b h. elim (cases (j.children x b h)) [
      | inl e ↦ sym (g b (rw e at h))
      | inr m ↦ elim (cases m) [ inl e ↦ sym (f b (rw e at h)) | inr m ↦ absurd (nowhere m) ]
    ])))
  ]
]

-- ---- a minimal one has no other child

abbrev MinimalForT1 : Partial → Type 0
MinimalForT1 σ = Minimal (gives And) children_of_t1 false σ

only : (σ : Partial) → MinimalForT1 σ → (x y : ℕ) → Justifies (just x false) → Off (σ x) → ¬ (y ≡ x) → σ y ≡ none
only σ m x y j o n = elim (has_or_not (σ y)) [
  | inl e ↦ e
  | inr (b, e) ↦ absurd (n (just_has x false y b (m.no_smaller (just x false) j (λ z c h. smaller z c (just_has x false z c h)) y b e)).0)
]
  where
    smaller : (z : ℕ) (c : Bool) → (z ≡ x) × (false ≡ c) → Has σ z c
    smaller z c (p, q) = rw (p, ← q) o

alone : (σ : Partial) → Children σ → (x y : ℕ) → ((z : ℕ) → In z children_of_t1 → (z ≡ x) ⊎ (z ≡ y)) → ((ρ : Partial) → Justifies ρ → Off (ρ x) ⊎ Off (ρ y))
    → Justifies σ → Off (σ x) → σ y ≡ none → MinimalForT1 σ
alone σ k x y all off j o n = record {
  justifies = j;
  no_smaller = λ ρ r sub z b h. elim (all z (k z b h)) [
    | inl e ↦ elim (off ρ r) [
      | inl q ↦ rw e (q ∙ sym o ∙ (rw e at h))
      | inr q ↦ absurd (never (sym n ∙ sub y false q))
    ]
    | inr e ↦ absurd (never (sym n ∙ (rw e at h)))
  ];
}

three_or_two : (z : ℕ) → In z children_of_t1 → (z ≡ 3) ⊎ (z ≡ 2)
three_or_two z m = elim (cases m) [ inl e ↦ inr e | inr m ↦ elim (cases m) [ inl e ↦ inl e | inr m ↦ absurd (nowhere m) ] ]

just_child : (x : ℕ) → In x children_of_t1 → Children (just x false)
just_child x m z b h = rw (just_has x false z b h).0 m

swap : {P Q : Type 0} → P ⊎ Q → Q ⊎ P
swap (inl p) = inr p
swap (inr q) = inl q

is_minimal : (σ : Partial) → Children σ → In (σ 3, σ 2) minimal_of_t1 → MinimalForT1 σ
is_minimal σ k m = elim (cases m) [
  | inl e ↦ alone σ k 3 2 three_or_two needed (enough σ k (inl (first e))) (first e) (second e)
  | inr m ↦ elim (cases m) [
    | inl e ↦ alone σ k 2 3 (λ z i. swap (three_or_two z i)) (λ ρ j. swap (needed ρ j)) (enough σ k (inr (second e))) (second e) (first e)
    | inr m ↦ absurd (nowhere m)
  ]
]

minimal_is : (σ : Partial) → MinimalForT1 σ → In (σ 3, σ 2) minimal_of_t1
minimal_is σ m = elim (needed σ m.justifies) [
  | inl q ↦ rw (q, only σ m 3 2 (enough (just 3 false) (just_child 3 (there (here refl))) (inl (just_at 3 false))) q (λ e. absurd (omega arith))) (here refl)
  | inr q ↦ rw (q, only σ m 2 3 (enough (just 2 false) (just_child 2 (here refl)) (inr (just_at 2 false))) q (λ e. absurd (omega arith))) (there (here refl))
]

pub example_is : ExampleIs001
example_is σ k = record {
  justifications = (λ j. listed (σ 3) (σ 2) (needed σ j), λ m. enough σ k (unlisted (σ 3) (σ 2) m));
  minimal = (minimal_is σ, is_minimal σ k);
}

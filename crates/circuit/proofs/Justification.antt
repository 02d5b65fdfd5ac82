-- 001's justifications, for any Boolean function: what partial assignments do, and the subset minimal justifications of two shapes of function.
--     Enough    n children with the value are enough, and there have to be so many: AND, OR, voters. A minimal justification is n children at that value.
--     Each      every child counts, so that turning one alone takes the value away: NOT, XOR. It is all children.
-- Assumes nothing.
use Prim.Native.Nat.{ℕ, ◌≤◌}
use mathlib.Core.Path.{◌≡◌, refl, sym, ap, ◌∙◌}
use mathlib.Core.Logic.{◌⊎◌, inl, inr, ◌↔◌}
use mathlib.Core.Bool.{Bool, true, cond, not, true≢false}
use mathlib.Core.Option.{Option, none, some}
use mathlib.Core.List.{List, map}
use mathlib.Core.List.{Memᴰ as In}
use mathlib.Core.List.Sublistᴰ.{trans as sub_trans}
use mathlib.Core.List.{Sublistᴰ as Sub}
use native.Mathlib.Omega.{arith}
use lib.ListN.{length}
use lib.Dec.{eqb}
use borrow.Author.Tests.{eq-eqb, ne_eqb}
use Rattle.folds.specs.Folds.{◌and◌}
use Rattle.folds.proofs.Tests.{which, and_past, and_first_false}
use Rattle.circuit.specs.Tools.{same, member, Rising, select, is_empty}
use Rattle.circuit.specs.Gate.{wrong}
use Rattle.circuit.specs.Source001.{Partial, Has, Extends, restrict, Justification, Minimal, contrary, changed, MoveOf}
use Rattle.circuit.proofs.Values.{unequal, same_true, same_refl, same_swap}
use Rattle.circuit.proofs.Lists.{map_same, select_in, in_select, select_sub, select_same, select_within, select_both, sub_length, sub_same, sub_in, some_of, is_empty_none, some_length, member_in, in_member, members}

-- ---- partial assignments

pub some_is : {a b : Bool} → some a ≡ some b → a ≡ b
some_is e = cc

pub never : {b : Bool} → ◌≡◌ {A = Option Bool} none (some b) → ⊥
never e = let z : ◌≡◌ {A = ℕ} 0 1 = cc in omega arith

pub has_or_not : (o : Option Bool) → (o ≡ none) ⊎ ((b : Bool) × (o ≡ some b))
has_or_not none = inl refl
has_or_not (some b) = inr (b, refl)

-- σ, and τ where σ has no value
abbrev value_or : Option Bool → Bool → Bool
value_or none b = b
value_or (some a) b = a

abbrev pub fill : Partial → (ℕ → Bool) → ℕ → Bool
fill σ τ x = value_or (σ x) (τ x)

pub fill_extends : (σ : Partial) (τ : ℕ → Bool) → Extends (fill σ τ) σ
fill_extends σ τ x b e = rw e

module _ (τ : ℕ → Bool) (xs : List ℕ) where
  pub restrict_at : (x : ℕ) → In x xs → Has (restrict τ xs) x (τ x)
  restrict_at x m = rw (in_member x xs m)

  pub restrict_has : (x : ℕ) (b : Bool) → Has (restrict τ xs) x b → In x xs × (τ x ≡ b)
  restrict_has x b e = elim (which (member x xs)) [
    | inl q ↦ (member_in x xs q, some_is (rw q at e))
    | inr q ↦ absurd (never (rw q at e))
  ]

-- these gates have the value v
abbrev pub all_at : Bool → List ℕ → Partial
all_at v ys = restrict (λ x. v) ys

pub all_is : (v : Bool) (ys : List ℕ) (x : ℕ) → In x ys → Has (all_at v ys) x v
all_is v ys x m = restrict_at (λ y. v) ys x m

pub all_has : (v : Bool) (ys : List ℕ) (x : ℕ) (b : Bool) → Has (all_at v ys) x b → In x ys × (v ≡ b)
all_has v ys x b e = restrict_has (λ y. v) ys x b e

-- τ with the value of x turned
abbrev pub flip : ℕ → (ℕ → Bool) → ℕ → Bool
flip x τ y = cond (eqb y x) (not (τ y)) (τ y)

pub flip_self : (τ : ℕ → Bool) (x : ℕ) → flip x τ x ≡ not (τ x)
flip_self τ x = rw (eq-eqb x x refl)

pub flip_other : (τ : ℕ → Bool) (x y : ℕ) → (y ≡ x → ⊥) → flip x τ y ≡ τ y
flip_other τ x y n = rw (ne_eqb y x n)

-- ---- justifications

-- the children to which τ gives v
abbrev pub having : Bool → (ℕ → Bool) → List ℕ → List ℕ
having v τ xs = select (λ x. same (τ x) v) xs

abbrev pub Enough : (List Bool → Bool) → Bool → List ℕ → ℕ → Type 0
Enough f v xs n = (τ : ℕ → Bool) → (f (map τ xs) ≡ v) ↔ (n ≤ length (having v τ xs))

abbrev pub Each : (List Bool → Bool) → Bool → Type 0
Each f v = (τ : ℕ → Bool) (xs : List ℕ) (x : ℕ) → Rising xs → In x xs → f (map τ xs) ≡ v → f (map (flip x τ) xs) ≡ v → ⊥

module _ (f : List Bool → Bool) (v : Bool) (xs : List ℕ) where
  pub restrict_justifies : (τ : ℕ → Bool) → f (map τ xs) ≡ v → Justification f xs v (restrict τ xs)
  restrict_justifies τ e = record {
    children = λ x b h. (restrict_has τ xs x b h).0;
    forces = λ ρ g. ap f (map_same ρ τ xs (λ x m. g x (τ x) (restrict_at τ xs x m))) ∙ e;
  }

  -- the move of a justification changed some children, where the children do not give the value yet
  pub move_sound : (at : ℕ → Bool) → f (map at xs) ≡ not v → (o : List ℕ) → MoveOf f xs v at o → Sub o xs × (1 ≤ length o)
  move_sound at e o t = rw t.is (
    select_sub differs xs,
    elim (which (is_empty (changed t.by at xs))) [
      | inl q ↦ absurd (unequal v v refl (sym e ∙ t.minimal.justifies.forces at (agreeing q)))
      | inr q ↦ some_length (changed t.by at xs) q
    ],
  )
    where
      differs : ℕ → Bool
      differs x = contrary (t.by x) (at x)

      agreeing : is_empty (changed t.by at xs) ≡ true → Extends at t.by
      agreeing q x b h = elim (which (same b (at x))) [
        | inl w ↦ sym (same_true b (at x) w)
        | inr w ↦ absurd (is_empty_none x (changed t.by at xs) q (in_select (λ y. contrary (t.by y) (at y)) x xs (t.minimal.justifies.children x b h) (rw (h, w))))
      ]

  module _ (n : ℕ) (h : Enough f v xs n) (r : Rising xs) where
    -- n children at v are enough, whatever the others are
    pub enough : (ys : List ℕ) → Sub ys xs → length ys ≡ n → (τ : ℕ → Bool) → ((y : ℕ) → In y ys → τ y ≡ v) → f (map τ xs) ≡ v
    enough ys u e τ g =
        let w = sub_length _ _ (select_within (λ x. member x ys) (λ x. same (τ x) v) xs (λ x m q. rw (g x (member_in x ys q)) (same_refl v))) in
        (h τ).1 (omega (arith, e, w, ap length (members ys xs r u)))

    -- every justification has n at v
    pub meets : (σ : Partial) → Justification f xs v σ → (ys : List ℕ) × Sub ys xs × (length ys ≡ n) × ((y : ℕ) → In y ys → Has σ y v)
    meets σ j =
        let τ = fill σ (λ y. not v) in
        let (ys, u, e) = some_of n (having v τ xs) ((h τ).0 (j.forces τ (fill_extends σ (λ y. not v)))) in (
          ys,
          sub_trans u (select_sub (λ x. same (τ x) v) xs),
          e,
          λ y m. (
              let q : τ y ≡ v = same_true (τ y) v (select_in (λ x. same (τ x) v) y xs (sub_in y ys _ u m)).1 in
              elim (has_or_not (σ y)) [ inl w ↦ absurd (unequal v v refl (rw w at q)) | inr w ↦ w.1 ∙ ap some (rw w.1 at q) ]),
        )

    all_justify : (ys : List ℕ) → Sub ys xs → length ys ≡ n → Justification f xs v (all_at v ys)
    all_justify ys u e = record {
      children = λ x b w. sub_in x ys xs u (all_has v ys x b w).0;
      forces = λ τ g. enough ys u e τ (λ y m. g y v (all_is v ys y m));
    }

    pub all_minimal : (ys : List ℕ) → Sub ys xs → length ys ≡ n → Minimal f xs v (all_at v ys)
    all_minimal ys u e = record {
      justifies = all_justify ys u e;
      no_smaller = λ ρ j k x b w. (
          let (zs, t, q, g) = meets ρ j in
          let (m, d) = all_has v ys x b w in
          let within = select_within (λ y. member y zs) (λ y. member y ys) xs (λ y i p. in_member y ys (all_has v ys y v (k y v (g y (member_in y zs p)))).0) in
          let z : zs ≡ ys = sub_same zs ys (rw (members zs xs r t, members ys xs r u) at within) (q ∙ sym e) in
          g x (rw (sym z) at m) ∙ ap some d);
    }

    -- and a minimal one has nothing else
    pub minimal_all : (σ : Partial) → Minimal f xs v σ
        → (ys : List ℕ) × Sub ys xs × (length ys ≡ n) × ((y : ℕ) → In y ys → Has σ y v) × ((x : ℕ) (b : Bool) → Has σ x b → In x ys × (v ≡ b))
    minimal_all σ j =
        let (ys, u, e, g) = meets σ j.justifies in
        (ys, u, e, g, λ x b w. all_has v ys x b (j.no_smaller (all_at v ys) (all_justify ys u e) (λ y d q. (let (m, c) = all_has v ys y d q in g y m ∙ ap some c)) x b w))

    -- the children that it changes are those of the n that have not the value
    pub changed_wrong : (at : ℕ → Bool) (σ : Partial) (ys : List ℕ) → Sub ys xs → ((y : ℕ) → In y ys → Has σ y v) → ((x : ℕ) (b : Bool) → Has σ x b → In x ys × (v ≡ b))
        → changed σ at xs ≡ wrong v at ys
    changed_wrong at σ ys u g o =
        select_same _ _ xs each_child ∙ sym (select_both (λ x. member x ys) (λ x. not (same (at x) v)) xs) ∙ ap (wrong v at) (members ys xs r u)
      where
        each_child : (x : ℕ) → In x xs → contrary (σ x) (at x) ≡ (member x ys and not (same (at x) v))
        each_child x m = elim (which (member x ys)) [
          | inl q ↦ rw (g x (member_in x ys q), same_swap v (at x)) (sym (and_past _ _ q))
          | inr q ↦ elim (has_or_not (σ x)) [
            | inl w ↦ rw w (sym (and_first_false _ _ q))
            | inr w ↦ absurd (true≢false (sym (in_member x ys (o x w.0 w.1).0) ∙ q))
          ]
        ]

  module _ (h : Each f v) (r : Rising xs) where
    pub total : (σ : Partial) → Justification f xs v σ → (x : ℕ) → In x xs → (b : Bool) × Has σ x b
    total σ j x m = elim (has_or_not (σ x)) [
      | inl n ↦ absurd (h τ xs x r m (j.forces τ (fill_extends σ (λ y. true))) (j.forces (flip x τ) (turned n)))
      | inr w ↦ w
    ]
      where
        τ : ℕ → Bool
        τ = fill σ (λ y. true)

        turned : σ x ≡ none → Extends (flip x τ) σ
        turned n y b e = flip_other τ x y (λ q. never (sym n ∙ ap σ (sym q) ∙ e)) ∙ fill_extends σ (λ z. true) y b e

    pub each_minimal : (τ : ℕ → Bool) → f (map τ xs) ≡ v → Minimal f xs v (restrict τ xs)
    each_minimal τ e = record {
      justifies = restrict_justifies τ e;
      no_smaller = λ ρ j u x b q. (let (d, w) = total ρ j x (restrict_has τ xs x b q).0 in w ∙ sym (u x d w) ∙ q);
    }

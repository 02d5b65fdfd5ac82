-- What the proofs about surveys, moves and runs know of a gate, and that it follows from either shape of Justification.antt. No kind is named here.
-- Assumes nothing.
use Prim.Native.Nat.{ℕ, zero, suc, ◌≤◌, ◌<◌}
use mathlib.Core.Path.{◌≡◌, refl, sym, ap, ◌∙◌}
use mathlib.Core.Logic.{◌⊎◌, inl, inr, ◌↔◌}
use mathlib.Core.Bool.{Bool, true, false, not}
use mathlib.Core.List.{List, [], ◌∷◌, map}
use mathlib.Core.List.Memᴰ.{cases_cons as cases}
use mathlib.Core.List.Memᴰ.{head as here}
use mathlib.Core.List.Memᴰ.{not-nil as nowhere}
use mathlib.Core.List.Memᴰ.{tail as there}
use mathlib.Core.List.Memᴰ.{map as map-in, of_map}
use mathlib.Core.List.{Memᴰ as In}
use mathlib.Core.List.Sublistᴰ.{refl as sub_refl, trans as sub_trans}
use mathlib.Core.List.{Sublistᴰ as Sub}
use native.Mathlib.Omega.{arith}
use lib.ListN.{length}
use lib.Dec.{ltb}
use borrow.Author.Tests.{not-true, ltb-true, ltb-false}
use Rattle.folds.proofs.Tests.{which}
use Rattle.circuit.specs.Tools.{same, Rising, Distinct, singles, pairs, select}
use Rattle.circuit.specs.declared.Kind.{Kind}
use Rattle.circuit.specs.Gate.{is_input, fan_in_fits, gives, relevant, wrong, Order, together, singly, in_pairs, ordered, order, options}
use Rattle.circuit.specs.Source001.{restrict, TakesPart, MoveOf, StandIn}
use Rattle.circuit.proofs.Values.{agree, opposite, unequal, same_true, same_false, same_refl, same_not}
use Rattle.circuit.proofs.Lists.{map_same, select_in, in_select, select_same, select_sub, select_length, select_within, select_zero, sub_length, sub_same, sub_in, sub_one, some_of, some_with, two_long, singles_in, singles_out, singles_length, singles_map, singles_distinct, pairs_in, pairs_out}
use Rattle.circuit.proofs.Justification.{fill, fill_extends, restrict_at, restrict_has, all_at, all_is, all_has, having, Enough, Each, move_sound, all_minimal, minimal_all, changed_wrong, total, each_minimal}

-- A gate that is no input, by its kind, its children xs and their values: the fan-in is allowed, the children ascend, and `was` is the value that
-- they give. `WellFormed` has `fits` and `rising` for every gate.
pub record Seen (k : Kind) (at : ℕ → Bool) (xs : List ℕ) (was : Bool) : Type 0 where
  pub gate : is_input k ≡ false
  pub fits : fan_in_fits k (length xs) ≡ true
  pub rising : Rising xs
  pub gave : gives k (map at xs) ≡ was

-- The laws of a kind of gate at a value v.
--     force     the relevant children's values force the gate's value
--     toward    where another assignment gives the gate its value and this one does not, an option turns only children at which the two differ
--     sound     every option of an unjustified gate is a non-empty sublist of its children
--     few       there are 1 to 8 options, so a byte can name each
-- and that the tables are 001's:
--     part      the relevant children are those of the subset minimal justifications that agree
--     move      the options are the moves of the subset minimal justifications,
--     once      each once
pub record Laws (k : Kind) (v : Bool) : Type 0 where
  pub force : (at τ : ℕ → Bool) (xs : List ℕ) → Seen k at xs v → ((x : ℕ) → In x xs → relevant k v (at x) ≡ true → τ x ≡ at x) → gives k (map τ xs) ≡ v
  pub toward : (at τ : ℕ → Bool) (xs : List ℕ) → Seen k at xs (not v) → gives k (map τ xs) ≡ v
      → (o : List ℕ) × In o (options k v at xs) × ((x : ℕ) → In x o → τ x ≡ not (at x))
  pub sound : (at : ℕ → Bool) (xs : List ℕ) → Seen k at xs (not v) → (o : List ℕ) → In o (options k v at xs) → Sub o xs × (1 ≤ length o)
  pub few : (at : ℕ → Bool) (xs : List ℕ) → Seen k at xs (not v) → (1 ≤ length (options k v at xs)) × (length (options k v at xs) ≤ 8)
  pub part : (at : ℕ → Bool) (xs : List ℕ) → Seen k at xs v → (x : ℕ) → (In x xs × (relevant k v (at x) ≡ true)) ↔ TakesPart (gives k) xs v at x
  pub move : (at : ℕ → Bool) (xs : List ℕ) → Seen k at xs (not v) → (o : List ℕ) → In o (options k v at xs) ↔ MoveOf (gives k) xs v at o
  pub once : (at : ℕ → Bool) (xs : List ℕ) → Seen k at xs (not v) → Distinct (options k v at xs)

-- how many children an order of options is for
abbrev pub Suits : Order → ℕ → Type 0
Suits together n = (1 ≤ n) × (n ≤ 8)
Suits singly n = (1 ≤ n) × (n ≤ 8)
Suits in_pairs n = n ≡ 3

-- the fan-ins that a kind allows
abbrev pub Fans : Kind → Bool → Type 0
Fans k v = (n : ℕ) → fan_in_fits k n ≡ true → Suits (order k v) n

pub suits_few : (o : Order) (n : ℕ) → Suits o n → (1 ≤ n) × (n ≤ 8)
suits_few together n h = h
suits_few singly n h = h
suits_few in_pairs n h = omega arith

three : (xs : List ℕ) → length xs ≡ 3 → (x y z : ℕ) × (xs ≡ x ∷ y ∷ z ∷ [])
three [] e = absurd (omega arith)
three (x ∷ []) e = absurd (omega arith)
three (x ∷ y ∷ []) e = absurd (omega arith)
three (x ∷ y ∷ z ∷ []) e = (x, y, z, refl)
three (x ∷ y ∷ z ∷ w ∷ xs) e = absurd (omega arith)

pairs_of_three : (v : Bool) (at : ℕ → Bool) (xs : List ℕ) (x y z : ℕ) → xs ≡ x ∷ y ∷ z ∷ []
    → map (wrong v at) (pairs xs) ≡ wrong v at (x ∷ y ∷ []) ∷ wrong v at (x ∷ z ∷ []) ∷ wrong v at (y ∷ z ∷ []) ∷ []
pairs_of_three v at xs x y z e = ap (λ (l : List ℕ). map (wrong v at) (pairs l)) e

-- the options stand as the documents say
pub stands_in : (o : Order) (v : Bool) (at : ℕ → Bool) (xs : List ℕ) → Suits o (length xs) → StandIn o v at xs (ordered o v at xs)
stands_in together v at xs h = refl
stands_in singly v at xs h = singles_map xs
stands_in in_pairs v at xs h = (let (x, y, z, e) = three xs h in (x, y, z, e, pairs_of_three v at xs x y z e))

ordered_few : (o : Order) (v : Bool) (at : ℕ → Bool) (xs : List ℕ) → Suits o (length xs) → (1 ≤ length (ordered o v at xs)) × (length (ordered o v at xs) ≤ 8)
ordered_few together v at xs h = omega arith
ordered_few singly v at xs h = omega (arith, singles_length xs, h)
ordered_few in_pairs v at xs h = (let (x, y, z, e) = three xs h in rw e (omega arith))

-- the children at which two assignments differ
abbrev pub apart : (ℕ → Bool) → (ℕ → Bool) → List ℕ → List ℕ
apart τ at xs = select (λ x. not (same (τ x) (at x))) xs

-- ---- n children are enough: the relevant ones are those with the gate's value, and an option turns the wrong ones of each n

-- how many are enough where the options stand in an order, and the lists of so many
abbrev pub need : Order → List ℕ → ℕ
need together xs = length xs
need singly xs = 1
need in_pairs xs = 2

abbrev groups : Order → List ℕ → List (List ℕ)
groups together xs = xs ∷ []
groups singly xs = singles xs
groups in_pairs xs = pairs xs

some_needed : (o : Order) (xs : List ℕ) → Suits o (length xs) → 1 ≤ need o xs
some_needed together xs h = h.0
some_needed singly xs h = omega arith
some_needed in_pairs xs h = omega arith

in_groups : (o : Order) (xs ys : List ℕ) → Sub ys xs → length ys ≡ need o xs → In ys (groups o xs)
in_groups together xs ys u e = here (sub_same ys xs u e)
in_groups singly xs [] u e = absurd (omega arith)
in_groups singly xs (y ∷ []) u e = singles_in y xs (sub_in y (y ∷ []) xs u (here refl))
in_groups singly xs (y ∷ z ∷ ys) u e = absurd (omega arith)
in_groups in_pairs xs ys u e = pairs_in ys xs u e

groups_are : (o : Order) (xs ys : List ℕ) → In ys (groups o xs) → Sub ys xs × (length ys ≡ need o xs)
groups_are together xs ys m = elim (cases m) [ inl e ↦ rw e (sub_refl xs, refl) | inr z ↦ absurd (nowhere z) ]
groups_are singly xs ys m = (let (x, i, e) = singles_out ys xs m in rw e (sub_one x xs i, refl))
groups_are in_pairs xs ys m = pairs_out ys xs m

-- the values r of children that are relevant
abbrev pub Counts : Order → Bool → (Bool → Bool) → Type 0
Counts together v r = (b : Bool) → r b ≡ true
Counts singly v r = (b : Bool) → r b ≡ same b v
Counts in_pairs v r = (b : Bool) → r b ≡ same b v

one_more : (n : ℕ) → 1 ≤ n → (m : ℕ) × (n ≡ suc m)
one_more zero h = absurd (omega arith)
one_more (suc m) h = (m, refl)

module _ (v : Bool) (at : ℕ → Bool) (xs : List ℕ) where
  all_have : length xs ≤ length (having v at xs) → (x : ℕ) → In x xs → at x ≡ v
  all_have l x m =
      let e : having v at xs ≡ xs = sub_same (having v at xs) xs (select_sub _ xs) (omega (arith, select_length (λ y. same (at y) v) xs)) in
      same_true (at x) v (select_in (λ y. same (at y) v) x xs (rw e m)).1

  -- of a gate that has its value by its children
  counted : (o : Order) (r : Bool → Bool) → Counts o v r → need o xs ≤ length (having v at xs) → (x : ℕ) → In x xs → (r (at x) ≡ true) ↔ (at x ≡ v)
  counted together r c l x m = (λ e. all_have l x m, λ e. c (at x))
  counted singly r c l x m = (λ e. same_true (at x) v (sym (c (at x)) ∙ e), λ e. c (at x) ∙ rw e (same_refl v))
  counted in_pairs r c l x m = (λ e. same_true (at x) v (sym (c (at x)) ∙ e), λ e. c (at x) ∙ rw e (same_refl v))

  -- of two children, where fewer than two have v, one has not
  one_wrong : (x y : ℕ) → In x xs → In y xs → (x ≡ y → ⊥) → length (having v at xs) < 2 → (at x ≡ not v) ⊎ (at y ≡ not v)
  one_wrong x y m n d l = elim (agree v (at x)) [
    | inr q ↦ inl q
    | inl q ↦ elim (agree v (at y)) [
      | inr w ↦ inr w
      | inl w ↦ absurd (omega (arith, two_long x y (having v at xs) (in_select (λ z. same (at z) v) x xs m (rw q (same_refl v))) (in_select (λ z. same (at z) v) y xs n (rw w (same_refl v))) d))
    ]
  ]

-- the wrong ones of two lists, each of which has one that the other has not
unlike : (v : Bool) (at : ℕ → Bool) (ys zs : List ℕ) (x y : ℕ) → In x ys → (In x zs → ⊥) → In y zs → (In y ys → ⊥) → (at x ≡ not v) ⊎ (at y ≡ not v)
    → wrong v at ys ≡ wrong v at zs → ⊥
unlike v at ys zs x y i n j k o e = elim o [
  | inl q ↦ n (select_in is_wrong x zs (rw (sym e) (in_select is_wrong x ys i (rw (q, same_not v))))).0
  | inr q ↦ k (select_in is_wrong y ys (rw e (in_select is_wrong y zs j (rw (q, same_not v))))).0
]
  where
    is_wrong : ℕ → Bool
    is_wrong z = not (same (at z) v)

neither : {A : Type 0} {x y z : A} → (x ≡ y → ⊥) → (x ≡ z → ⊥) → In x (y ∷ z ∷ []) → ⊥
neither d e m = elim (cases m) [ inl q ↦ d q | inr n ↦ elim (cases n) [ inl q ↦ e q | inr o ↦ nowhere o ] ]

back : {x y : ℕ} → (x ≡ y → ⊥) → y ≡ x → ⊥
back n e = n (sym e)

-- Where fewer than two of three children have v, the three options of a voter differ: of the two children that one of two options has alone, one is wrong.
module _ (v : Bool) (at : ℕ → Bool) (x y z : ℕ) (r : Rising (x ∷ y ∷ z ∷ [])) (l : length (having v at (x ∷ y ∷ z ∷ [])) < 2) where
  xy : x ≡ y → ⊥
  xy e = omega (arith, r.0 y (here refl))

  xz : x ≡ z → ⊥
  xz e = omega (arith, r.0 z (there (here refl)))

  yz : y ≡ z → ⊥
  yz e = omega (arith, r.1.0 z (here refl))

  first_second : wrong v at (x ∷ y ∷ []) ≡ wrong v at (x ∷ z ∷ []) → ⊥
  first_second = unlike v at (x ∷ y ∷ []) (x ∷ z ∷ []) y z (there (here refl)) (neither (back xy) yz) (there (here refl)) (neither (back xz) (back yz))
      (one_wrong v at (x ∷ y ∷ z ∷ []) y z (there (here refl)) (there (there (here refl))) yz l)

  first_third : wrong v at (x ∷ y ∷ []) ≡ wrong v at (y ∷ z ∷ []) → ⊥
  first_third = unlike v at (x ∷ y ∷ []) (y ∷ z ∷ []) x z (here refl) (neither xy xz) (there (here refl)) (neither (back xz) (back yz))
      (one_wrong v at (x ∷ y ∷ z ∷ []) x z (here refl) (there (there (here refl))) xz l)

  second_third : wrong v at (x ∷ z ∷ []) ≡ wrong v at (y ∷ z ∷ []) → ⊥
  second_third = unlike v at (x ∷ z ∷ []) (y ∷ z ∷ []) x y (here refl) (neither xy xz) (here refl) (neither (back xy) yz)
      (one_wrong v at (x ∷ y ∷ z ∷ []) x y (here refl) (there (here refl)) xy l)

  pairs_once : Distinct (map (wrong v at) (pairs (x ∷ y ∷ z ∷ [])))
  pairs_once = (neither first_second first_third, (λ m. elim (cases m) [ inl e ↦ second_third e | inr n ↦ nowhere n ], (nowhere, tt)))

-- where too few children have v, no two options are the same
ordered_once : (o : Order) (v : Bool) (at : ℕ → Bool) (xs : List ℕ) → Rising xs → Suits o (length xs) → length (having v at xs) < need o xs → Distinct (ordered o v at xs)
ordered_once together v at xs r h l = (nowhere, tt)
ordered_once singly v at xs r h l = singles_distinct xs r
ordered_once in_pairs v at xs r h l = (let (x, y, z, e) = three xs h in once x y z e)
  where
    once : (x y z : ℕ) → xs ≡ x ∷ y ∷ z ∷ [] → Distinct (map (wrong v at) (pairs xs))
    once x y z e = rw e (pairs_once v at x y z (rw e at r) (rw e at l))

-- where too few children have v, an option turns the wrong ones of a group
ordered_groups : (o : Order) (v : Bool) (at : ℕ → Bool) (xs : List ℕ) → length (having v at xs) < need o xs → ordered o v at xs ≡ map (wrong v at) (groups o xs)
ordered_groups together v at xs l = refl
ordered_groups in_pairs v at xs l = refl
ordered_groups singly v at xs l = all_wrong xs (λ x m. select_zero (λ y. same (at y) v) xs (omega arith) x m)
  where
    all_wrong : (ys : List ℕ) → ((y : ℕ) → In y ys → same (at y) v ≡ false) → singles ys ≡ map (wrong v at) (singles ys)
    all_wrong [] f = refl
    all_wrong (y ∷ ys) f = rw (f y (here refl), ← all_wrong ys (λ z m. f z (there m)))

module _ (k : Kind) (v : Bool) (fans : Fans k v)
    (h : (xs : List ℕ) → fan_in_fits k (length xs) ≡ true → Enough (gives k) v xs (need (order k v) xs))
    (counts : Counts (order k v) v (relevant k v)) where
  abbrev o : Order
  o = order k v

  module _ (at : ℕ → Bool) (xs : List ℕ) where
    has_few : Seen k at xs (not v) → length (having v at xs) < need o xs
    has_few e = elim (which (ltb (length (having v at xs)) (need o xs))) [
      | inl q ↦ ltb-true _ _ q
      | inr q ↦ absurd (unequal v v refl (sym e.gave ∙ (h xs e.fits at).1 (ltb-false _ _ q)))
    ]

    enough_move : Seen k at xs (not v) → (p : List ℕ) → In p (options k v at xs) ↔ MoveOf (gives k) xs v at p
    enough_move e p = (
      λ m. (let (ys, i, q) = of_map (wrong v at) (groups o xs) (rw (ordered_groups o v at xs (has_few e)) at m) in
          let (u, l) = groups_are o xs ys i in record {
            by = all_at v ys;
            minimal = all_minimal (gives k) v xs (need o xs) (h xs e.fits) e.rising ys u l;
            is = sym q ∙ sym (changed_wrong (gives k) v xs (need o xs) (h xs e.fits) e.rising at (all_at v ys) ys u (all_is v ys) (all_has v ys));
          }),
      λ t. (let (ys, u, l, g, f) = minimal_all (gives k) v xs (need o xs) (h xs e.fits) e.rising t.by t.minimal in
          rw (ordered_groups o v at xs (has_few e), t.is, changed_wrong (gives k) v xs (need o xs) (h xs e.fits) e.rising at t.by ys u g f)
          (map-in (wrong v at) (in_groups o xs ys u l))),
    )

    -- a child with the gate's value is in some group with this value
    enough_part : Seen k at xs v → (x : ℕ) → (In x xs × (relevant k v (at x) ≡ true)) ↔ TakesPart (gives k) xs v at x
    enough_part e x =
        let l = (h xs e.fits at).0 e.gave in (
          λ p. (
              let i = in_select (λ y. same (at y) v) x xs p.0 (rw ((counted v at xs o (relevant k v) counts l x p.0).0 p.1) (same_refl v)) in
              let (n, q) = one_more (need o xs) (some_needed o xs (fans (length xs) e.fits)) in
              let (ys, u, w, j) = some_with x n (having v at xs) i (omega arith) in record {
                by = all_at v ys;
                minimal = all_minimal (gives k) v xs (need o xs) (h xs e.fits) e.rising ys (sub_trans u (select_sub _ xs)) (w ∙ sym q);
                agrees = λ y b d. (let (c, z) = all_has v ys y b d in same_true (at y) v (select_in (λ y. same (at y) v) y xs (sub_in y ys _ u c)).1 ∙ z);
                value = v;
                has = all_is v ys x j;
              }),
          λ t. (let (ys, u, w, g, f) = minimal_all (gives k) v xs (need o xs) (h xs e.fits) e.rising t.by t.minimal in
              let (i, z) = f x t.value t.has in
              let m = sub_in x ys xs u i in
              (m, (counted v at xs o (relevant k v) counts l x m).1 (t.agrees x t.value t.has ∙ sym z))),
        )

  pub enough_laws : Laws k v
  enough_laws = record {
    force = λ at τ xs e f. (
        let l = (h xs e.fits at).0 e.gave in
        let u = select_within (λ x. same (at x) v) (λ x. same (τ x) v) xs (λ x m q. (
        let d = same_true (at x) v q in rw (f x m ((counted v at xs o (relevant k v) counts l x m).1 d), d) (same_refl v))) in
        (h xs e.fits τ).1 (omega (arith, l, sub_length _ _ u)));
    toward = λ at τ xs e d. (
        let (ys, u, l) = some_of (need o xs) (having v τ xs) ((h xs e.fits τ).0 d) in (
          wrong v at ys,
          rw (ordered_groups o v at xs (has_few at xs e)) (map-in (wrong v at) (in_groups o xs ys (sub_trans u (select_sub _ xs)) l)),
          λ x m. (let (i, q) = select_in (λ y. not (same (at y) v)) x ys m in
              same_true (τ x) v (select_in (λ y. same (τ y) v) x xs (sub_in x ys _ u i)).1 ∙ same_false (at x) v (not-true _ q)),
        ));
    sound = λ at xs e p m. move_sound (gives k) v xs at e.gave p ((enough_move at xs e p).0 m);
    few = λ at xs e. ordered_few o v at xs (fans (length xs) e.fits);
    part = enough_part;
    move = enough_move;
    once = λ at xs e. ordered_once o v at xs e.rising (fans (length xs) e.fits) (has_few at xs e);
  }

-- ---- every child counts: all are relevant, and the options are the ways to the value

-- o turns the children at which an assignment with the gate's value differs
abbrev pub Way : Kind → Bool → (ℕ → Bool) → List ℕ → List ℕ → Type 0
Way k v at xs o = (τ : ℕ → Bool) × (gives k (map τ xs) ≡ v) × (o ≡ apart τ at xs)

module _ (k : Kind) (v : Bool) (fans : Fans k v) (h : Each (gives k) v)
    (counts : (b : Bool) → relevant k v b ≡ true)
    (alone : order k v ≡ singly)
    (ways : (at : ℕ → Bool) (xs : List ℕ) → Seen k at xs (not v) → (o : List ℕ) → In o (singles xs) ↔ Way k v at xs o) where
  each_move : (at : ℕ → Bool) (xs : List ℕ) → Seen k at xs (not v) → (o : List ℕ) → In o (options k v at xs) ↔ MoveOf (gives k) xs v at o
  each_move at xs e o = (
    λ m. (let (τ, d, q) = (ways at xs e o).0 (rw alone at m) in record {
      by = restrict τ xs;
      minimal = each_minimal (gives k) v xs h e.rising τ d;
      is = q ∙ sym (select_same _ _ xs (λ x j. rw (restrict_at τ xs x j)));
    }),
    λ t. rw alone ((ways at xs e o).1 (
      fill t.by at,
      t.minimal.justifies.forces _ (fill_extends t.by at),
      t.is ∙ select_same _ _ xs (λ x j. (let (b, w) = total (gives k) v xs h e.rising t.by t.minimal.justifies x j in rw w)),
    )),
  )

  pub each_laws : Laws k v
  each_laws = record {
    force = λ at τ xs e f. rw (map_same τ at xs (λ x m. f x m (counts (at x)))) e.gave;
    toward = λ at τ xs e d. (
      apart τ at xs,
      rw alone ((ways at xs e (apart τ at xs)).1 (τ, d, refl)),
      λ x m. opposite (at x) (τ x) (same_false (τ x) (at x) (not-true (same (τ x) (at x)) (select_in (λ y. not (same (τ y) (at y))) x xs m).1)),
    );
    sound = λ at xs e o m. move_sound (gives k) v xs at e.gave o ((each_move at xs e o).0 m);
    few = λ at xs e. ordered_few (order k v) v at xs (fans (length xs) e.fits);
    part = λ at xs e x. (
      λ p. record {
        by = restrict at xs;
        minimal = each_minimal (gives k) v xs h e.rising at e.gave;
        agrees = λ y b q. (restrict_has at xs y b q).1;
        value = at x;
        has = restrict_at at xs x p.0;
      },
      λ t. (t.minimal.justifies.children x t.value t.has, counts (at x)),
    );
    move = each_move;
    once = λ at xs e. rw alone (singles_distinct xs e.rising);
  }

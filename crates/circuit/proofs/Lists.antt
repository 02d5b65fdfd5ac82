-- Facts on the list functions of specs/Tools.antt. Assumes nothing.
use Prim.Native.Nat.{ℕ, zero, suc, ◌+◌, ◌≤◌, ◌<◌, ◌%◌}
use mathlib.Core.Path.{◌≡◌, refl, sym, ap, ◌∙◌}
use mathlib.Core.Logic.{inl, inr}
use mathlib.Core.Bool.{Bool, true, false, true≢false, false≢true}
use mathlib.Core.List.{List, [], ◌∷◌, ◌++◌, map, append-nil, map-append}
use mathlib.Core.List.Memᴰ.{append_cases}
use mathlib.Core.List.Memᴰ.{append_left}
use mathlib.Core.List.Memᴰ.{append_right}
use mathlib.Core.List.Memᴰ.{cases_cons as cases}
use mathlib.Core.List.Memᴰ.{head as here}
use mathlib.Core.List.Memᴰ.{not-nil as nowhere}
use mathlib.Core.List.Memᴰ.{tail as there}
use mathlib.Core.List.Memᴰ.{map as map-in, of_map}
use mathlib.Core.List.{Memᴰ as In}
use mathlib.Core.List.Sublistᴰ.{cons as skip}
use mathlib.Core.List.Sublistᴰ.{nil-sublist}
use mathlib.Core.List.Sublistᴰ.{cons-cons as with}
use mathlib.Core.List.Sublistᴰ.{slnil as done}
use mathlib.Core.List.{Sublistᴰ as Sub}
use native.Mathlib.Omega.{arith}
use native.Mathlib.Nat.{mod-lt, mod-eq_of_lt, add-zero}
use native.Mathlib.Numerals.{add-one}
use lib.ListN.{length, get_or, take, length-append, length-map, get_or-append}
use lib.Seq.{get_or_at, take-suc}
use lib.Dec.{eqb, leb}
use borrow.Author.Tests.{eqb-true, eqb-false, eq-eqb, ne_eqb, leb-true, leb-false}
use Rattle.folds.specs.Folds.{◌and◌}
use Rattle.folds.proofs.Tests.{which, and_left, and_right, and_both, and_past, or_cases, or_first, or_second, or_past}
use Rattle.circuit.specs.Tools.{byte, up_to, member, Rising, Distinct, singles, pairs, select, holds_of_all, is_empty, pick}

module _ {A : Type 0} (p : A → Bool) where
  -- what `select` keeps
  pub select_in : (x : A) (xs : List A) → In x (select p xs) → In x xs × (p x ≡ true)
  select_in x [] m = absurd (nowhere m)
  select_in x (y ∷ ys) m = elim (which (p y)) [
    | inl q ↦ elim (cases (rw q at m)) [
      | inl e ↦ (here e, rw e q)
      | inr n ↦ (there (select_in x ys n).0, (select_in x ys n).1)
    ]
    | inr q ↦ (there (select_in x ys (rw q at m)).0, (select_in x ys (rw q at m)).1)
  ]

  pub in_select : (x : A) (xs : List A) → In x xs → p x ≡ true → In x (select p xs)
  in_select x [] m q = absurd (nowhere m)
  in_select x (y ∷ ys) m q = elim (which (p y)) [
    | inl r ↦ rw r (elim (cases m) [ inl e ↦ here e | inr n ↦ there (in_select x ys n q) ])
    | inr r ↦ rw r (elim (cases m) [ inl e ↦ absurd (true≢false (sym q ∙ ap p e ∙ r)) | inr n ↦ in_select x ys n q ])
  ]

  pub select_none : (xs : List A) → ((x : A) → In x xs → p x ≡ false) → select p xs ≡ []
  select_none [] f = refl
  select_none (x ∷ xs) f = rw (f x (here refl)) (select_none xs (λ y m. f y (there m)))

  pub select_sub : (xs : List A) → Sub (select p xs) xs
  select_sub [] = done
  select_sub (x ∷ xs) = elim (which (p x)) [
    | inl q ↦ rw q (with refl (select_sub xs))
    | inr q ↦ rw q (skip (select_sub xs))
  ]

  pub select_length : (xs : List A) → length (select p xs) ≤ length xs
  select_length [] = omega arith
  select_length (x ∷ xs) = elim (which (p x)) [
    | inl q ↦ rw q (omega (arith, select_length xs))
    | inr q ↦ rw q (omega (arith, select_length xs))
  ]

  pub select_same : (q : A → Bool) (xs : List A) → ((x : A) → In x xs → p x ≡ q x) → select p xs ≡ select q xs
  select_same q [] f = refl
  select_same q (x ∷ xs) f = rw (f x (here refl), select_same q xs (λ y m. f y (there m)))

  pub select_within : (q : A → Bool) (xs : List A) → ((x : A) → In x xs → p x ≡ true → q x ≡ true) → Sub (select p xs) (select q xs)
  select_within q [] f = done
  select_within q (x ∷ xs) f =
      let u = select_within q xs (λ y m. f y (there m)) in
      elim (which (p x)) [
        | inl a ↦ rw (a, f x (here refl) a) (with refl u)
        | inr a ↦ elim (which (q x)) [ inl b ↦ rw (a, b) (skip u) | inr b ↦ rw (a, b) u ]
      ]

  pub select_both : (q : A → Bool) (xs : List A) → select q (select p xs) ≡ select (λ x. p x and q x) xs
  unfolding ◌and◌
  select_both q [] = refl
  select_both q (x ∷ xs) = elim (which (p x)) [
    | inl a ↦ elim (which (q x)) [
      | inl b ↦ rw (a, b) (ap (λ (l : List A). x ∷ l) (select_both q xs))
      | inr b ↦ rw (a, b) (select_both q xs)
    ]
    | inr a ↦ rw a (select_both q xs)
  ]

  pub all_in : (xs : List A) → holds_of_all p xs ≡ true → (x : A) → In x xs → p x ≡ true
  all_in [] e x m = absurd (nowhere m)
  all_in (y ∷ ys) e x m = elim (cases m) [
    | inl q ↦ ap p q ∙ and_left (p y) (holds_of_all p ys) e
    | inr n ↦ all_in ys (and_right (p y) (holds_of_all p ys) e) x n
  ]

  pub in_all : (xs : List A) → ((x : A) → In x xs → p x ≡ true) → holds_of_all p xs ≡ true
  in_all [] f = refl
  in_all (y ∷ ys) f = and_both (p y) (holds_of_all p ys) (f y (here refl)) (in_all ys (λ x m. f x (there m)))

-- a test that doesn't hold of all fails at one of them
pub some_fails : {A : Type 0} (p : A → Bool) (xs : List A) → holds_of_all p xs ≡ false → (x : A) × In x xs × (p x ≡ false)
some_fails p [] e = absurd (true≢false e)
some_fails p (x ∷ xs) e = elim (which (p x)) [
  | inl q ↦ (let (y, i, f) = some_fails p xs (sym (and_past _ _ q) ∙ e) in (y, there i, f))
  | inr q ↦ (x, here refl, q)
]

-- one of the elements with the smallest number
pub least : {A : Type 0} (f : A → ℕ) (x : A) (xs : List A) → (o : A) × In o (x ∷ xs) × ((p : A) → In p (x ∷ xs) → f o ≤ f p)
least f x [] = (x, here refl, λ p m. elim (cases m) [ inl e ↦ rw e (omega arith) | inr n ↦ absurd (nowhere n) ])
least f x (y ∷ ys) =
    let (o, i, h) = least f y ys in
    elim (which (leb (f x) (f o))) [
      | inl q ↦ (x, here refl, λ p m. elim (cases m) [ inl e ↦ rw e (omega arith) | inr n ↦ omega (arith, leb-true (f x) (f o) q, h p n) ])
      | inr q ↦ (o, there i, λ p m. elim (cases m) [ inl e ↦ rw e (omega (arith, leb-false (f x) (f o) q)) | inr n ↦ h p n ])
    ]

module _ {A : Type 0} where
  pub in_length : (x : A) (xs : List A) → In x xs → 1 ≤ length xs
  in_length x [] m = absurd (nowhere m)
  in_length x (y ∷ ys) m = omega arith

  pub is_empty_none : (x : A) (xs : List A) → is_empty xs ≡ true → In x xs → ⊥
  is_empty_none x [] e m = nowhere m
  is_empty_none x (y ∷ ys) e m = false≢true e

  pub some_length : (xs : List A) → is_empty xs ≡ false → 1 ≤ length xs
  some_length [] e = absurd (true≢false e)
  some_length (x ∷ xs) e = omega arith

  pub some_is_empty : (xs : List A) → 1 ≤ length xs → is_empty xs ≡ false
  some_is_empty [] h = absurd (omega arith)
  some_is_empty (x ∷ xs) h = refl

  pub sub_length : (o xs : List A) → Sub o xs → length o ≤ length xs
  sub_length o xs done = omega arith
  sub_length o (y ∷ ys) (skip u) = omega (arith, sub_length o ys u)
  sub_length (z ∷ o) (y ∷ ys) (with e u) = omega (arith, sub_length o ys u)

  pub sub_same : (o xs : List A) → Sub o xs → length o ≡ length xs → o ≡ xs
  sub_same o xs done e = refl
  sub_same o (y ∷ ys) (skip u) e = absurd (omega (arith, sub_length o ys u))
  sub_same (z ∷ o) (y ∷ ys) (with q u) e = cc (q, sub_same o ys u (omega arith))

  pub at_place : (d : A) (xs : List A) (i : ℕ) → i < length xs → In (get_or xs i d) xs
  at_place d [] i h = absurd (omega arith)
  at_place d (x ∷ xs) zero h = here refl
  at_place d (x ∷ xs) (suc i) h = there (at_place d xs i (omega arith))

  pub pick_in : (xs : List A) (i : ℕ) (d : A) → is_empty xs ≡ false → In (pick xs i d) xs
  pick_in [] i d e = absurd (true≢false e)
  pick_in (x ∷ xs) i d e = at_place d (x ∷ xs) (i % length (x ∷ xs)) (mod-lt i (omega arith))

  -- a place below the length is picked by its own number
  pub pick_at : (xs : List A) (i : ℕ) (d : A) → i < length xs → pick xs i d ≡ get_or xs i d
  pick_at xs i d h = rw (mod-eq_of_lt h)

  pub sub_in : (x : A) (o xs : List A) → Sub o xs → In x o → In x xs
  sub_in x o xs done m = m
  sub_in x o (y ∷ ys) (skip u) m = there (sub_in x o ys u m)
  sub_in x (z ∷ o) (y ∷ ys) (with e u) m = elim (cases m) [ inl q ↦ here (q ∙ e) | inr n ↦ there (sub_in x o ys u n) ]

  pub sub_one : (x : A) (xs : List A) → In x xs → Sub (x ∷ []) xs
  sub_one x [] m = absurd (nowhere m)
  sub_one x (y ∷ ys) m = elim (cases m) [ inl e ↦ with e (nil-sublist ys) | inr n ↦ skip (sub_one x ys n) ]

  -- n elements of a list
  pub some_of : (n : ℕ) (xs : List A) → n ≤ length xs → (ys : List A) × Sub ys xs × (length ys ≡ n)
  some_of zero xs l = ([], nil-sublist xs, refl)
  some_of (suc n) [] l = absurd (omega arith)
  some_of (suc n) (x ∷ xs) l = (let (ys, u, e) = some_of n xs (omega arith) in (x ∷ ys, with refl u, ap suc e))

  -- the same with x among them
  pub some_with : (x : A) (n : ℕ) (xs : List A) → In x xs → n < length xs → (ys : List A) × Sub ys xs × (length ys ≡ suc n) × In x ys
  some_with x zero xs m l = (x ∷ [], sub_one x xs m, refl, here refl)
  some_with x (suc n) [] m l = absurd (nowhere m)
  some_with x (suc n) (y ∷ ys) m l = elim (cases m) [
    | inl e ↦ (let (zs, u, q) = some_of (suc n) ys (omega arith) in (y ∷ zs, with refl u, ap suc q, here e))
    | inr i ↦ (let (zs, u, q, j) = some_with x n ys i (omega arith) in (y ∷ zs, with refl u, ap suc q, there j))
  ]

  pub two_long : (x y : A) (xs : List A) → In x xs → In y xs → (x ≡ y → ⊥) → 2 ≤ length xs
  two_long x y [] m n d = absurd (nowhere m)
  two_long x y (z ∷ []) m n d = elim (cases m) [
    | inl e ↦ elim (cases n) [ inl w ↦ absurd (d (e ∙ sym w)) | inr i ↦ absurd (nowhere i) ]
    | inr i ↦ absurd (nowhere i)
  ]
  two_long x y (z ∷ w ∷ xs) m n d = omega arith

  -- an element stands at a place
  pub place : (d x : A) (xs : List A) → In x xs → (i : ℕ) × (i < length xs) × (get_or xs i d ≡ x)
  place d x [] m = absurd (nowhere m)
  place d x (y ∷ ys) m = elim (cases m) [
    | inl e ↦ (0, omega arith, sym e)
    | inr n ↦ (suc (place d x ys n).0, omega (arith, (place d x ys n).1), (place d x ys n).2)
  ]

  pub map_same : {B : Type 0} (f g : A → B) (xs : List A) → ((x : A) → In x xs → f x ≡ g x) → map f xs ≡ map g xs
  map_same f g [] e = refl
  map_same f g (x ∷ xs) e = cc (e x (here refl), map_same f g xs (λ y m. e y (there m)))

pub sub_rising : (o xs : List ℕ) → Sub o xs → Rising xs → Rising o
sub_rising o xs done r = tt
sub_rising o (y ∷ ys) (skip u) r = sub_rising o ys u r.1
sub_rising (z ∷ o) (y ∷ ys) (with e u) r = (λ w m. rw e (r.0 w (sub_in w o ys u m)), sub_rising o ys u r.1)

pub singles_in : (x : ℕ) (xs : List ℕ) → In x xs → In (x ∷ []) (singles xs)
singles_in x [] m = absurd (nowhere m)
singles_in x (y ∷ ys) m = elim (cases m) [ inl e ↦ here (ap (λ z. z ∷ []) e) | inr n ↦ there (singles_in x ys n) ]

pub singles_out : (o xs : List ℕ) → In o (singles xs) → (x : ℕ) × In x xs × (o ≡ x ∷ [])
singles_out o [] m = absurd (nowhere m)
singles_out o (x ∷ xs) m = elim (cases m) [
  | inl e ↦ (x, here refl, e)
  | inr n ↦ (let (y, i, q) = singles_out o xs n in (y, there i, q))
]

pub singles_length : (xs : List ℕ) → length (singles xs) ≡ length xs
singles_length [] = refl
singles_length (x ∷ xs) = ap suc (singles_length xs)

pub singles_map : (xs : List ℕ) → singles xs ≡ map (λ x. x ∷ []) xs
singles_map [] = refl
singles_map (x ∷ xs) = ap (λ (l : List (List ℕ)). (x ∷ []) ∷ l) (singles_map xs)

pub singles_distinct : (xs : List ℕ) → Rising xs → Distinct (singles xs)
singles_distinct [] r = tt
singles_distinct (x ∷ xs) r = (λ m. (let (y, i, q) = singles_out (x ∷ []) xs m in let e : x ≡ y = cc in omega (arith, r.0 y i)), singles_distinct xs r.1)

pub pairs_in : (o xs : List ℕ) → Sub o xs → length o ≡ 2 → In o (pairs xs)
pairs_in o xs done e = absurd (omega arith)
pairs_in o (x ∷ xs) (skip u) e = append_right _ (pairs_in o xs u e)
pairs_in (y ∷ []) (x ∷ xs) (with q u) e = absurd (omega arith)
pairs_in (y ∷ z ∷ []) (x ∷ xs) (with q u) e = rw q (append_left _ (map-in (λ w. x ∷ w ∷ []) (sub_in z (z ∷ []) xs u (here refl))))
pairs_in (y ∷ z ∷ w ∷ o) (x ∷ xs) (with q u) e = absurd (omega arith)

pub pairs_out : (o xs : List ℕ) → In o (pairs xs) → Sub o xs × (length o ≡ 2)
pairs_out o [] m = absurd (nowhere m)
pairs_out o (x ∷ xs) m = elim (append_cases (map (λ y. x ∷ y ∷ []) xs) m) [
  | inl a ↦ (let (y, i, e) = of_map (λ y. x ∷ y ∷ []) xs a in rw (← e) (with refl (sub_one y xs i), refl))
  | inr b ↦ (skip (pairs_out o xs b).0, (pairs_out o xs b).1)
]

-- a rising list has an element once
pub select_one : (p : ℕ → Bool) (xs : List ℕ) (x : ℕ) → Rising xs → In x xs → p x ≡ true → ((y : ℕ) → In y xs → (y ≡ x → ⊥) → p y ≡ false) → select p xs ≡ x ∷ []
select_one p [] x r m q f = absurd (nowhere m)
select_one p (y ∷ ys) x r m q f = elim (cases m) [
  | inl e ↦ rw (sym e, q) (ap (λ (l : List ℕ). x ∷ l) (select_none p ys (λ z n. f z (there n) (λ w. omega (arith, r.0 z n)))))
  | inr n ↦ rw (f y (here refl) (λ w. omega (arith, r.0 x n))) (select_one p ys x r.1 n q (λ z i. f z (there i)))
]

-- a test that fails at one element more selects one element less
pub select_less : (p q : ℕ → Bool) (x : ℕ) (xs : List ℕ) → Rising xs → In x xs → p x ≡ true → q x ≡ false
    → ((y : ℕ) → In y xs → (y ≡ x → ⊥) → p y ≡ q y) → length (select p xs) ≡ suc (length (select q xs))
select_less p q x [] r m a b f = absurd (nowhere m)
select_less p q x (y ∷ ys) r m a b f = elim (cases m) [
  | inl e ↦ rw (sym e, a, b) (ap (λ (l : List ℕ). suc (length l)) (select_same p q ys (λ z i. f z (there i) (λ w. omega (arith, r.0 z i)))))
  | inr n ↦ (let ih = select_less p q x ys r.1 n a b (λ z i. f z (there i)) in elim (which (q y)) [
    | inl w ↦ rw (f y (here refl) (λ z. omega (arith, r.0 x n)), w) (ap suc ih)
    | inr w ↦ rw (f y (here refl) (λ z. omega (arith, r.0 x n)), w) ih
  ])
]

pub select_zero : (p : ℕ → Bool) (xs : List ℕ) → length (select p xs) ≡ 0 → (x : ℕ) → In x xs → p x ≡ false
select_zero p xs e x m = elim (which (p x)) [ inl q ↦ absurd (omega (arith, in_length x (select p xs) (in_select p x xs m q))) | inr q ↦ q ]

pub member_in : (x : ℕ) (xs : List ℕ) → member x xs ≡ true → In x xs
member_in x [] e = absurd (false≢true e)
member_in x (y ∷ ys) e = elim (or_cases (eqb x y) (member x ys) e) [
  | inl q ↦ here (eqb-true x y q)
  | inr q ↦ there (member_in x ys q)
]

pub in_member : (x : ℕ) (xs : List ℕ) → In x xs → member x xs ≡ true
in_member x [] m = absurd (nowhere m)
in_member x (y ∷ ys) m = elim (cases m) [
  | inl e ↦ or_first (eqb x y) (member x ys) (eq-eqb x y e)
  | inr n ↦ or_second (eqb x y) (member x ys) (in_member x ys n)
]

pub out : (x : ℕ) (xs : List ℕ) → (In x xs → ⊥) → member x xs ≡ false
out x xs n = elim (which (member x xs)) [ inl q ↦ absurd (n (member_in x xs q)) | inr q ↦ q ]

-- a rising list's sublist is its elements that are in it
pub members : (o xs : List ℕ) → Rising xs → Sub o xs → select (λ x. member x o) xs ≡ o
members o xs r done = refl
members o (x ∷ xs) r (skip u) = rw (out x o (λ m. (let l = r.0 x (sub_in x o xs u m) in omega arith))) (members o xs r.1 u)
members (y ∷ o) (x ∷ xs) r (with e u) =
    let behind = select_same _ _ xs (λ z m. or_past (eqb z y) (member z o) (ne_eqb z y (λ q. (let l = r.0 z m in omega arith)))) ∙ members o xs r.1 u in
    rw (or_first (eqb x y) (member x o) (eq-eqb x y (sym e))) (cc (sym e, behind))

pub in_up_to : (x n : ℕ) → In x (up_to n) → x < n
in_up_to x zero m = absurd (nowhere m)
in_up_to x (suc n) m = elim (append_cases (up_to n) m) [
  | inl a ↦ omega (arith, in_up_to x n a)
  | inr b ↦ elim (cases b) [ inl e ↦ omega arith | inr c ↦ absurd (nowhere c) ]
]

pub up_to_in : (x n : ℕ) → x < n → In x (up_to n)
up_to_in x zero h = absurd (omega arith)
up_to_in x (suc n) h = elim (which (eqb x n)) [
  | inl q ↦ append_right (up_to n) (here (eqb-true x n q))
  | inr q ↦ append_left (n ∷ []) (up_to_in x n (omega (arith, eqb-false x n q)))
]

pub length_up_to : (n : ℕ) → length (up_to n) ≡ n
length_up_to zero = refl
length_up_to (suc n) = simp length-append (omega (arith, length_up_to n))

pub rising_end : (xs : List ℕ) (n : ℕ) → Rising xs → ((x : ℕ) → In x xs → x < n) → Rising (xs ++ (n ∷ []))
rising_end [] n r f = (λ y m. absurd (nowhere m), tt)
rising_end (x ∷ xs) n r f = (
  λ y m. elim (append_cases xs m) [ inl i ↦ r.0 y i | inr i ↦ elim (cases i) [ inl e ↦ rw e (f x (here refl)) | inr z ↦ absurd (nowhere z) ] ],
  rising_end xs n r.1 (λ y m. f y (there m)),
)

pub rising_up_to : (n : ℕ) → Rising (up_to n)
rising_up_to zero = tt
rising_up_to (suc n) = rising_end (up_to n) n (rising_up_to n) (λ x m. in_up_to x n m)

-- a table's entry
pub map_at : {A : Type 0} (f : ℕ → A) (n i : ℕ) (d : A) → i < n → get_or (map f (up_to n)) i d ≡ f i
map_at f zero i d h = absurd (omega arith)
map_at f (suc n) i d h = rw (map-append f (up_to n) (n ∷ [])) (elim (which (eqb i n)) [
  | inl q ↦ rw (eqb-true i n q) (get_or_at (map f (up_to n)) (f n) [] d n (length-map (up_to n) f ∙ length_up_to n))
  | inr q ↦ (let l : i < n = omega (arith, eqb-false i n q) in
      get_or-append (map f (up_to n)) (f n ∷ []) d i (rw (length-map, length_up_to) l) ∙ map_at f n i d l)
])

-- ---- the numbers below n of which p holds, and the place of each among them

pub select_append : {A : Type 0} (p : A → Bool) (xs ys : List A) → select p (xs ++ ys) ≡ select p xs ++ select p ys
select_append p [] ys = refl
select_append p (x ∷ xs) ys = elim (which (p x)) [
  | inl q ↦ rw q (ap (λ (l : List _). x ∷ l) (select_append p xs ys))
  | inr q ↦ rw q (select_append p xs ys)
]

pub select_images : {A B : Type 0} (f : A → B) (p : B → Bool) (xs : List A) → select p (map f xs) ≡ map f (select (λ x. p (f x)) xs)
select_images f p [] = refl
select_images f p (x ∷ xs) = elim (which (p (f x))) [
  | inl q ↦ rw q (ap (λ (l : List _). f x ∷ l) (select_images f p xs))
  | inr q ↦ rw q (select_images f p xs)
]

module _ (p : ℕ → Bool) where
  abbrev pub place_of : ℕ → ℕ
  place_of g = length (select p (up_to g))

  select_more : (n : ℕ) → p n ≡ true → select p (up_to (suc n)) ≡ select p (up_to n) ++ (n ∷ [])
  select_more n q = select_append p (up_to n) (n ∷ []) ∙ rw q

  select_past : (n : ℕ) → p n ≡ false → select p (up_to (suc n)) ≡ select p (up_to n)
  select_past n q = select_append p (up_to n) (n ∷ []) ∙ rw (q, append-nil)

  pub place_more : (n : ℕ) → place_of (suc n) ≡ place_of n + byte (p n)
  place_more n = elim (which (p n)) [
    | inl q ↦ ap length (select_more n q) ∙ length-append (select p (up_to n)) (n ∷ []) ∙ rw q
    | inr q ↦ ap length (select_past n q) ∙ rw q (omega arith)
  ]

  pub place_below : (n g : ℕ) → g < n → p g ≡ true → place_of g < place_of n
  place_below zero g h q = absurd (omega arith)
  place_below (suc n) g h q = elim (which (eqb g n)) [
    | inl e ↦ rw (← eqb-true g n e) (let m : place_of (suc g) ≡ place_of g + 1 = place_more g ∙ rw q in omega arith)
    | inr e ↦ (let m = place_more n in omega (arith, place_below n g (omega (arith, eqb-false g n e)) q))
  ]

  -- the table of f at these numbers
  module _ (f : ℕ → ℕ) where
    abbrev table : ℕ → List ℕ
    table n = map f (select p (up_to n))

    table_more : (n : ℕ) → p n ≡ true → table (suc n) ≡ table n ++ (f n ∷ [])
    table_more n q = ap (map f) (select_more n q) ∙ map-append f (select p (up_to n)) (n ∷ [])

    table_past : (n : ℕ) → p n ≡ false → table (suc n) ≡ table n
    table_past n q = ap (map f) (select_past n q)

    table_length : (n : ℕ) → length (table n) ≡ place_of n
    table_length n = length-map (select p (up_to n)) f

    -- it has f g at the place of g
    pub table_at : (n g : ℕ) → g < n → p g ≡ true → get_or (table n) (place_of g) 0 ≡ f g
    table_at zero g h q = absurd (omega arith)
    table_at (suc n) g h q = elim (which (eqb g n)) [
      | inl e ↦ rw (← eqb-true g n e, table_more g q) (get_or_at (table g) (f g) [] 0 (place_of g) (table_length g))
      | inr e ↦ (let l : g < n = omega (arith, eqb-false g n e) in elim (which (p n)) [
        | inl r ↦ rw (table_more n r) (get_or-append (table n) (f n ∷ []) 0 (place_of g) (rw (table_length n) (place_below n g l q)) ∙ table_at n g l q)
        | inr r ↦ rw (table_past n r) (table_at n g l q)
      ])
    ]

    -- and no other list as long does
    pub table_is : (row : List ℕ) (n : ℕ) → place_of n ≤ length row → ((g : ℕ) → g < n → p g ≡ true → get_or row (place_of g) 0 ≡ f g)
        → table n ≡ take (place_of n) row
    table_is row zero h e = refl
    table_is row (suc n) h e = elim (which (p n)) [
      | inl q ↦ rw (table_more n q, table_is row n (omega (arith, place_more n)) (λ g l. e g (omega arith)), ← e n (omega arith) q)
          (sym (rw (place_more n, q, add-one (place_of n)) (take-suc row (place_of n) 0 (let m : place_of (suc n) ≡ place_of n + 1 = place_more n ∙ rw q in omega arith))))
      | inr q ↦ rw (table_past n q, place_more n, q, add-zero (place_of n)) (table_is row n (omega (arith, place_more n)) (λ g l. e g (omega arith)))
    ]

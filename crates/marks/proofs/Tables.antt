-- Marks as a table over the gates: what painting makes of it, and how many of its gates stand from a place on. Assumes nothing.
use Prim.Native.Nat.{ℕ, zero, suc, ◌+◌, ◌<◌, ◌≤◌}
use mathlib.Core.Path.{◌≡◌, refl, sym, ap, ◌∙◌}
use mathlib.Core.Logic.{inl, inr}
use mathlib.Core.Bool.{Bool, true, false, cond}
use mathlib.Core.List.Memᴰ.{head as here}
use mathlib.Core.List.Memᴰ.{tail as there}
use mathlib.Core.List.{List, [], ◌∷◌, ◌++◌, map, map-append, Memᴰ as In}
use native.Mathlib.Nat.{le_of_suc-le-suc, eq-or-lt_of_le}
use native.Mathlib.Numerals.{add-one}
use native.Mathlib.Omega.{arith}
use lib.ListN.{length, get_or, set, length-map, length-set}
use lib.Seq.{ext_get_or, set-get_or, get_or-set_same, get_or-set_other}
use lib.Dec.{eqb, leb}
use borrow.Author.Tests.{eqb-true, eqb-false, le-leb, lt-leb}
use Rattle.folds.specs.Folds.{◌and◌, ◌or◌}
use Rattle.folds.proofs.Tests.{which, and_past, and_first_false, or_first, or_past}
use Rattle.circuit.specs.Tools.{byte, up_to, member, select}
use Rattle.circuit.proofs.Lists.{map_at, map_same, in_up_to, length_up_to, select_append, select_same, place_more}
use Rattle.marks.specs.Marks.{paint, to_one}

pub length_table : (f : ℕ → ℕ) (n : ℕ) → length (map f (up_to n)) ≡ n
length_table f n = length-map (up_to n) f ∙ length_up_to n

-- bytes that are known, one by one
pub table_of : (w : List ℕ) (f : ℕ → ℕ) (n : ℕ) → length w ≡ n → ((x : ℕ) → x < n → get_or w x 0 ≡ f x) → w ≡ map f (up_to n)
table_of w f n e h = ext_get_or 0 w (map f (up_to n)) (e ∙ sym (length_table f n)) (λ i l. h i (omega arith) ∙ sym (map_at f n i 0 (omega arith)))

pub same_tables : (f g : ℕ → ℕ) (n : ℕ) → ((x : ℕ) → x < n → f x ≡ g x) → map f (up_to n) ≡ map g (up_to n)
same_tables f g n h = map_same f g (up_to n) (λ x m. h x (in_up_to x n m))

-- ---- painting

-- a mark written anew is painted or stays
pub paint_one : (b : Bool) (x : ℕ) (w : List ℕ) → set w x (cond b 1 (get_or w x 0)) ≡ paint to_one (cond b (x ∷ []) []) w
unfolding paint
paint_one true x w = refl
paint_one false x w = set-get_or w x 0

paint_append : (f : ℕ → ℕ) (xs ys w : List ℕ) → paint f (xs ++ ys) w ≡ paint f ys (paint f xs w)
unfolding paint
paint_append f [] ys w = refl
paint_append f (x ∷ xs) ys w = paint_append f xs ys (set w x (f (get_or w x 0)))

-- a turn of a loop over a gate's children, child j being `child j`: of all, and of those that p selects
pub paint_next : (f child : ℕ → ℕ) (j : ℕ) (w : List ℕ) → paint f (map child (up_to (j + 1))) w ≡ paint f (child j ∷ []) (paint f (map child (up_to j)) w)
paint_next f child j w = rw (add-one j, map-append child (up_to j) (j ∷ [])) (paint_append f (map child (up_to j)) (child j ∷ []) w)

pub paint_select : (f child : ℕ → ℕ) (p : ℕ → Bool) (j : ℕ) (w : List ℕ)
    → paint f (select p (map child (up_to (j + 1)))) w ≡ paint f (select p (child j ∷ [])) (paint f (select p (map child (up_to j))) w)
paint_select f child p j w = rw (add-one j, map-append child (up_to j) (j ∷ []), select_append p (map child (up_to j)) (child j ∷ []))
    (paint_append f (select p (map child (up_to j))) (select p (child j ∷ [])) w)

set_table : (f : ℕ → ℕ) (n g v : ℕ) → set (map f (up_to n)) g v ≡ map (λ x. cond (eqb x g) v (f x)) (up_to n)
set_table f n g v = table_of (set (map f (up_to n)) g v) (λ x. cond (eqb x g) v (f x)) n (simp length-set (length_table f n)) (λ x l. elim (which (eqb x g)) [
  | inl q ↦ rw (q, eqb-true x g q) (get_or-set_same (map f (up_to n)) g v 0 (rw (length_table f n, ← eqb-true x g q) l))
  | inr q ↦ rw q (get_or-set_other (map f (up_to n)) g x v 0 (eqb-false x g q) ∙ map_at f n x 0 l)
])

-- f need not care how often it is painted
pub paint_table : (h : ℕ → ℕ) → ((b : ℕ) → h (h b) ≡ h b) → (xs : List ℕ) (f : ℕ → ℕ) (n : ℕ) → ((x : ℕ) → In x xs → x < n)
    → paint h xs (map f (up_to n)) ≡ map (λ x. cond (member x xs) (h (f x)) (f x)) (up_to n)
unfolding paint
paint_table h twice [] f n l = refl
paint_table h twice (y ∷ ys) f n l =
    ap (λ (v : ℕ). paint h ys (set (map f (up_to n)) y (h v))) (map_at f n y 0 (l y (here refl)))
    ∙ ap (paint h ys) (set_table f n y (h (f y)))
    ∙ paint_table h twice ys (λ x. cond (eqb x y) (h (f y)) (f x)) n (λ x m. l x (there m))
    ∙ same_tables _ _ n (λ x k. point x)
  where
    point : (x : ℕ) → cond (member x ys) (h (cond (eqb x y) (h (f y)) (f x))) (cond (eqb x y) (h (f y)) (f x)) ≡ cond (eqb x y or member x ys) (h (f x)) (f x)
    point x = elim (which (eqb x y)) [
      | inl q ↦ rw (or_first (eqb x y) (member x ys) q, q, ← eqb-true x y q) (painted (member x ys))
      | inr q ↦ rw (or_past (eqb x y) (member x ys) q, q)
    ]
      where
        painted : (b : Bool) → cond b (h (h (f x))) (h (f x)) ≡ h (f x)
        painted true = twice (f x)
        painted false = refl

pub paint_set : (h : ℕ → ℕ) → ((b : ℕ) → h (h b) ≡ h b) → (xs : List ℕ) (f : ℕ → ℕ) (n g v : ℕ) → ((x : ℕ) → In x xs → x < n)
    → paint h xs (set (map f (up_to n)) g v)
    ≡ map (λ x. cond (member x xs) (h (cond (eqb x g) v (f x))) (cond (eqb x g) v (f x))) (up_to n)
paint_set h twice xs f n g v l = ap (paint h xs) (set_table f n g v) ∙ paint_table h twice xs (λ x. cond (eqb x g) v (f x)) n l

-- ---- how many gates from g on are in p

module _ (p : ℕ → Bool) where
  unfoldable pub count_from : ℕ → ℕ → ℕ
  count_from n g = length (select (λ x. leb g x and p x) (up_to n))

  none_before : (n g : ℕ) → n ≤ g → count_from n g ≡ 0
  unfolding count_from
  none_before zero g l = refl
  none_before (suc n) g l = place_more (λ x. leb g x and p x) n ∙ rw (lt-leb g n l) (rw (and_first_false false (p n) refl) (omega (arith, none_before n g (omega arith))))

  pub count_none : (n : ℕ) → count_from n n ≡ 0
  count_none n = none_before n n (omega arith)

  pub count_more : (n g : ℕ) → g < n → count_from n g ≡ count_from n (suc g) + byte (p g)
  unfolding count_from
  count_more zero g l = absurd (omega arith)
  count_more (suc n) g l = rw (place_more (λ x. leb g x and p x) n, place_more (λ x. leb (suc g) x and p x) n) (elim (eq-or-lt_of_le (le_of_suc-le-suc l)) [
    | inl e ↦ rw (le-leb g n (omega arith), lt-leb (suc g) n (omega arith), and_past true (p n) refl, and_first_false false (p n) refl)
        (rw e (let a = none_before n n (omega arith) in let b = none_before n (suc n) (omega arith) in omega arith))
    | inr h ↦ (let i = count_more n g h in
        rw (le-leb g n (omega arith), le-leb (suc g) n (omega arith), and_past true (p n) refl) (omega arith))
  ])

  pub count_all : (n : ℕ) → count_from n 0 ≡ length (select p (up_to n))
  unfolding count_from
  count_all n = ap length (select_same (λ x. leb 0 x and p x) p (up_to n) (λ x m. and_past (leb 0 x) (p x) (le-leb 0 x (omega arith))))

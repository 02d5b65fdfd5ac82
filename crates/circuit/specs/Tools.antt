-- The few functions on values and lists that the definitions of documents 01 and 02 are written with. Assumes nothing.
use Rattle.std.specs.Prelude.{ℕ, zero, suc, ◌<◌, ◌%◌, Bool, true, false, cond, not, length, get_or, drop, eqb}
use mathlib.Core.List.{List, [], ◌∷◌, ◌++◌, map, Memᴰ as In}
use Rattle.folds.specs.Folds.{◌and◌, ◌or◌}

-- 1 for true and 0 for false
abbrev pub byte : Bool → ℕ
byte true = 1
byte false = 0

abbrev pub same : Bool → Bool → Bool
same true b = b
same false b = not b

-- 0, 1, .., n - 1
abbrev pub up_to : ℕ → List ℕ
up_to zero = []
up_to (suc n) = up_to n ++ (n ∷ [])

abbrev pub member : ℕ → List ℕ → Bool
member x [] = false
member x (y ∷ ys) = eqb x y or member x ys

-- strictly ascending
abbrev pub Rising : List ℕ → Type 0
Rising [] = Unit {0}
Rising (x ∷ xs) = ((y : ℕ) → In y xs → x < y) × Rising xs

-- no element stands twice
abbrev pub Distinct : List (List ℕ) → Type 0
Distinct [] = Unit {0}
Distinct (o ∷ os) = (¬ In o os) × Distinct os

-- each element as a list of its own
abbrev pub singles : List ℕ → List (List ℕ)
singles [] = []
singles (x ∷ xs) = (x ∷ []) ∷ singles xs

-- each two elements as a list: the first with each behind it, then the second with each behind it, and so on
abbrev pub pairs : List ℕ → List (List ℕ)
pairs [] = []
pairs (x ∷ xs) = map (λ y. x ∷ y ∷ []) xs ++ pairs xs

-- the lent memory w with x written over its first bytes. "Lent output, work and answer memory may be longer than needed; the surplus is never touched."
abbrev pub over : List ℕ → List ℕ → List ℕ
over x w = x ++ drop (length x) w

module _ {A : Type 0} where
  -- the elements of which p holds, in order
  abbrev pub select : (A → Bool) → List A → List A
  select p [] = []
  select p (x ∷ xs) = cond (p x) (x ∷ select p xs) (select p xs)

  abbrev pub holds_of_all : (A → Bool) → List A → Bool
  holds_of_all p [] = true
  holds_of_all p (x ∷ xs) = p x and holds_of_all p xs

  abbrev pub is_empty : List A → Bool
  is_empty [] = true
  is_empty (x ∷ xs) = false

  -- the element at place i modulo the length, counted from 0; d where the list is empty
  abbrev pub pick : List A → ℕ → A → A
  pick xs i d = get_or xs (i % length xs) d

-- For inner functions: the places of an item, the front by its marks, and the best of some weights. Assumes nothing.
use Rattle.std.specs.Prelude.{ℕ, ◌<◌, ◌≤◌, ◌≡◌, Bool, List, length, get_or, eqb, leb}
use Rattle.circuit.specs.Tools.{up_to, select, holds_of_all, pick}

-- the places of those items that equal this one (also the default of the reads, as the type may have no 0; none is past the end)
unfoldable pub places_of : {A : Type 0} → (A → A → Bool) → List A → A → List ℕ
places_of eq items item = select (λ i. eq (get_or items i item) item) (up_to (length items))

-- the gates that marks of cone and front show in the front, by rising number
unfoldable pub front_by : List ℕ → List ℕ
front_by w = select (λ g. eqb (get_or w g 0) 3) (up_to (length w))

-- the places below n with the smallest weight, and the one at i modulo their number
abbrev pub bests : List ℕ → ℕ → List ℕ
bests w n = select (λ j. holds_of_all (λ k. leb (get_or w j 0) (get_or w k 0)) (up_to n)) (up_to n)

unfoldable pub best_at : List ℕ → ℕ → ℕ → ℕ
best_at w n i = pick (bests w n) i 0

-- the places below n whose weight is v
unfoldable pub equal_to : List ℕ → ℕ → ℕ → List ℕ
equal_to w n v = select (λ j. eqb (get_or w j 0) v) (up_to n)

-- v is the smallest of the first n weights
pub record Least (w : List ℕ) (n v : ℕ) : Type 0 where
  pub lowest : (k : ℕ) → k < n → v ≤ get_or w k 0
  pub stands : (j : ℕ) × (j < n) × (get_or w j 0 ≡ v)

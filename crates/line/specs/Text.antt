-- The words of the line, as bytes. Assumes nothing.
use Rattle.std.specs.Prelude.{ℕ, cond, List, [], ◌∷◌, eqb}

-- "FOUND ", "SPENT ", "STUCK " and "REFUSED "
abbrev pub found_word : List ℕ
found_word = 70 ∷ 79 ∷ 85 ∷ 78 ∷ 68 ∷ 32 ∷ []

abbrev pub spent_word : List ℕ
spent_word = 83 ∷ 80 ∷ 69 ∷ 78 ∷ 84 ∷ 32 ∷ []

abbrev pub stuck_word : List ℕ
stuck_word = 83 ∷ 84 ∷ 85 ∷ 67 ∷ 75 ∷ 32 ∷ []

abbrev pub refused_word : List ℕ
refused_word = 82 ∷ 69 ∷ 70 ∷ 85 ∷ 83 ∷ 69 ∷ 68 ∷ 32 ∷ []

-- the digit of a value 0 or 1
abbrev pub digit : ℕ → ℕ
digit b = cond (eqb b 1) 49 48

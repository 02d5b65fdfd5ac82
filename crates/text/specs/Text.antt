-- Text as bytes: blanks, line ends and numbers in decimal. Assumes nothing.
use Rattle.std.specs.Prelude.{ℕ, zero, suc, ◌+◌, ◌-◌, ◌*◌, ◌/◌, ◌%◌, ◌≤◌, ◌<◌, ◌≡◌, cond, get_or, ltb}
use mathlib.Core.List.{List, [], ◌∷◌, ◌++◌, Memᴰ as In}

-- each is a byte
abbrev pub AreBytes : List ℕ → Type 0
AreBytes bs = (b : ℕ) → In b bs → b < 256

abbrev pub blank : List ℕ
blank = 32 ∷ []

abbrev pub line_end : List ℕ
line_end = 10 ∷ []

-- a number in decimal, without leading zeros, in at most this many places (a longer one loses its first digits)
unfoldable pub decimal_in : ℕ → ℕ → List ℕ
decimal_in zero n = []
decimal_in (suc k) n = cond (ltb n 10) ((48 + n) ∷ []) (decimal_in k (n / 10) ++ ((48 + n % 10) ∷ []))

-- ten places hold every u32
abbrev pub in_decimal : ℕ → List ℕ
in_decimal n = decimal_in 10 n

-- the number that digits say, from the left: ten times the number so far, n at first, plus the digit
unfoldable pub read_on : ℕ → List ℕ → ℕ
read_on n [] = n
read_on n (b ∷ bs) = read_on (10 * n + (b - 48)) bs

abbrev pub read_decimal : List ℕ → ℕ
read_decimal bs = read_on 0 bs

-- A number of at most ten places in decimal:
--     reads             it reads back,
--     digits            each byte is one of the digits 0 to 9,
--     no_leading_zero   and the first is not 0;
--     zero_is           0 itself is that one digit
pub record DecimalIs (n : ℕ) : Type 0 where
  pub reads : read_decimal (in_decimal n) ≡ n
  pub digits : (b : ℕ) → In b (in_decimal n) → (48 ≤ b) × (b ≤ 57)
  pub no_leading_zero : 1 ≤ n → ¬ (get_or (in_decimal n) 0 0 ≡ 48)
  pub zero_is : n ≡ 0 → in_decimal n ≡ 48 ∷ []

abbrev pub DecimalReads : Type 0
DecimalReads = (n : ℕ) → n < 10000000000 → DecimalIs n

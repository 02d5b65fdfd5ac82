-- Numbers in decimal: they read back, how long they are, and what is printed of them. Assumes nothing.
use Prim.Native.Nat.{ℕ, zero, suc, ◌+◌, ◌-◌, ◌*◌, ◌/◌, ◌%◌, ◌^◌, ◌≤◌, ◌<◌}
use mathlib.Core.Path.{◌≡◌, refl, sym, ◌∙◌}
use mathlib.Core.Logic.{inl, inr}
use mathlib.Core.List.{List, [], ◌∷◌, ◌++◌}
use mathlib.Core.List.Memᴰ.{append_cases}
use mathlib.Core.List.Memᴰ.{cases_cons as cases}
use mathlib.Core.List.Memᴰ.{not-nil as nowhere}
use mathlib.Core.List.{Memᴰ as In}
use native.Mathlib.Omega.{arith}
use native.Mathlib.Nat.{pow-suc}
use lib.ListN.{length, get_or, length-append, get_or-append}
use lib.Dec.{ltb}
use borrow.Author.Tests.{lt-ltb, le-ltb, ltb-true, ltb-false}
use Rattle.std.specs.Fmt.{decimal as printed}
use Rattle.std.proofs.lemmas.Fmt.{AppendsLastDigit, decimal_from_appends, length-decimal-le}
use Rattle.folds.proofs.Tests.{which}
use Rattle.text.specs.Text.{decimal_in, in_decimal, read_on, read_decimal, DecimalReads}

-- ---- it reads back, by induction on its places

pub read_append : (n b : ℕ) (bs : List ℕ) → read_on n (bs ++ (b ∷ [])) ≡ 10 * read_on n bs + (b - 48)
unfolding read_on
read_append n b [] = refl
read_append n b (c ∷ bs) = read_append (10 * n + (c - 48)) b bs

pub reads_back : (k n : ℕ) → n < 10 ^ k → read_decimal (decimal_in k n) ≡ n
unfolding decimal_in read_on
reads_back zero n h = omega arith
reads_back (suc k) n h = elim (which (ltb n 10)) [
  | inl q ↦ rw q (omega arith)
  | inr q ↦ (let l : n / 10 < 10 ^ k = omega (arith, pow-suc 10 k) in
      let e : 10 * (n / 10) + ((48 + n % 10) - 48) ≡ n = omega arith in
      rw q (read_append 0 (48 + n % 10) (decimal_in k (n / 10)) ∙ rw (reads_back k (n / 10) l) e))
]

all_digits : (k n b : ℕ) → In b (decimal_in k n) → (48 ≤ b) × (b ≤ 57)
unfolding decimal_in
all_digits zero n b i = absurd (nowhere i)
all_digits (suc k) n b i = elim (which (ltb n 10)) [
  | inl q ↦ elim (cases (rw q at i)) [
    | inl e ↦ (omega (arith, ltb-true n 10 q), omega (arith, ltb-true n 10 q))
    | inr j ↦ absurd (nowhere j)
  ]
  | inr q ↦ elim (append_cases (decimal_in k (n / 10)) (rw q at i)) [
    | inl j ↦ all_digits k (n / 10) b j
    | inr j ↦ elim (cases j) [ inl e ↦ (omega arith, omega arith) | inr l ↦ absurd (nowhere l) ]
  ]
]

-- a number that fits in its places and is not 0 has a first digit, which is not 0
first_digit : (k n : ℕ) → n < 10 ^ k → 1 ≤ n → (1 ≤ length (decimal_in k n)) × (¬ (get_or (decimal_in k n) 0 0 ≡ 48))
unfolding decimal_in
first_digit zero n h p = absurd (omega arith)
first_digit (suc k) n h p = elim (which (ltb n 10)) [
  | inl q ↦ rw q (omega arith, λ e. omega arith)
  | inr q ↦ (let l : n / 10 < 10 ^ k = omega (arith, pow-suc 10 k) in
      let o : 1 ≤ n / 10 = omega (arith, ltb-false n 10 q) in
      let (s, f) = first_digit k (n / 10) l o in
      rw q (simp length-append (omega arith), rw (get_or-append (decimal_in k (n / 10)) ((48 + n % 10) ∷ []) 0 0 s) f))
]

pub zero_digit : in_decimal 0 ≡ 48 ∷ []
unfolding decimal_in
zero_digit = refl

pub decimal_reads : DecimalReads
decimal_reads n h = record {
  reads = reads_back 10 n h;
  digits = all_digits 10 n;
  no_leading_zero = λ p. (first_digit 10 n h p).1;
  zero_is = λ e. rw e zero_digit;
}

-- ---- how long it is

pub decimal_length : (k n : ℕ) → length (decimal_in k n) ≤ k
unfolding decimal_in
decimal_length zero n = omega arith
decimal_length (suc k) n = elim (which (ltb n 10)) [
  | inl q ↦ rw q (omega arith)
  | inr q ↦ rw q (simp length-append (omega (arith, decimal_length k (n / 10))))
]

pub decimal_some : (n : ℕ) → 1 ≤ length (in_decimal n)
unfolding decimal_in
decimal_some n = elim (which (ltb n 10)) [ inl q ↦ rw q (omega arith) | inr q ↦ rw q (simp length-append (omega arith)) ]

-- by its power of ten
size_in : (k p n : ℕ) → p < k → 10 ^ p ≤ n → n < 10 * 10 ^ p → length (decimal_in k n) ≡ p + 1
unfolding decimal_in
size_in zero p n l a b = absurd (omega arith)
size_in (suc k) zero n l a b = rw (lt-ltb n 10 (omega arith)) refl
size_in (suc k) (suc p) n l a b =
    let h : 10 ≤ n = omega (arith, pow-suc 10 p) in
    rw (le-ltb n 10 h) (simp length-append (omega (arith, size_in k p (n / 10) (omega arith) (omega (arith, pow-suc 10 p)) (omega (arith, pow-suc 10 p)))))

pub decimal_size : (p n : ℕ) → p < 10 → 10 ^ p ≤ n → n < 10 * 10 ^ p → p + 1 ≡ length (in_decimal n)
decimal_size p n l a b = sym (size_in 10 p n l a b)

-- and by comparisons
pub one_digit : (n : ℕ) → n < 10 → 1 ≡ length (in_decimal n)
unfolding decimal_in
one_digit n b = rw (lt-ltb n 10 b) refl

pub two_digits : (n : ℕ) → 10 ≤ n → n < 100 → 2 ≡ length (in_decimal n)
two_digits n a b = decimal_size 1 n (omega arith) a b

pub three_digits : (n : ℕ) → 100 ≤ n → n < 1000 → 3 ≡ length (in_decimal n)
three_digits n a b = decimal_size 2 n (omega arith) a b

pub four_digits : (n : ℕ) → 1000 ≤ n → n < 10000 → 4 ≡ length (in_decimal n)
four_digits n a b = decimal_size 3 n (omega arith) a b

-- ---- what is printed of a number of 32 bits

appends : AppendsLastDigit decimal_in
unfolding decimal_in
appends = record { one = λ k n h. rw (lt-ltb n 10 h); more = λ k n h. rw (le-ltb n 10 h) }

pub decimal_printed : (n : ℕ) → n < 2 ^ 32 → printed n ≡ in_decimal n
decimal_printed n h = sym (decimal_from_appends decimal_in appends 10 n (omega arith) (length-decimal-le 10 n (omega arith) (omega arith) (omega arith)))

-- What is printed reads back. Assumes nothing.
use Prim.Native.Nat.{ℕ, ◌≤◌, ◌<◌}
use mathlib.Core.Path.{◌≡◌, refl, ap, ◌∙◌}
use mathlib.Core.Logic.{inl, inr}
use mathlib.Core.Bool.{false}
use Rattle.std.proofs.Math.Option.{some}
use mathlib.Core.List.{List, [], ◌∷◌, ◌++◌, map, append_assoc}
use mathlib.Core.List.Memᴰ.{append_cases}
use mathlib.Core.List.Memᴰ.{cases_cons as cases}
use mathlib.Core.List.Memᴰ.{head as here}
use mathlib.Core.List.Memᴰ.{not-nil as nowhere}
use mathlib.Core.List.Memᴰ.{tail as there}
use mathlib.Core.List.{Memᴰ as In}
use native.Mathlib.Omega.{arith}
use lib.ListN.{length, get_or}
use borrow.Author.Tests.{eq-eqb, ne_eqb, le-leb}
use Rattle.folds.specs.Folds.{◌and◌}
use Rattle.folds.proofs.Tests.{and_both, and_first_false}
use Rattle.circuit.proofs.Lists.{in_all}
use Rattle.text.specs.Text.{line_end, in_decimal, read_decimal}
use Rattle.text.proofs.Decimal.{decimal_reads, decimal_some}
use Rattle.dimacs.specs.declared.Literal.{Literal}
use Rattle.dimacs.specs.declared.Literal.TheVariants.{Plain, Negated}
use Rattle.dimacs.specs.Cnf.{variable_of, Clause}
use Rattle.dimacs.specs.Dimacs.{word_p, word_cnf, word_zero, print_literal, print_clause, print_clauses, print_head, print, split, is_decimal_digit, read_number, as_plain, as_negated, read_literal, same_word, read_clause, read_lines, read_head, read_text, read, Printable, ReadsBack}

-- ---- pieces

-- the byte b stands nowhere in w
abbrev Without : ℕ → List ℕ → Type 0
Without b w = (x : ℕ) → In x w → ¬ (x ≡ b)

module _ (b : ℕ) where
  split_at : (w rest : List ℕ) → Without b w → split b (w ++ (b ∷ rest)) ≡ w ∷ split b rest
  unfolding split
  split_at [] rest f = rw (eq-eqb b b refl) refl
  split_at (x ∷ w) rest f = rw (ne_eqb x b (f x (here refl)), split_at w rest (λ y m. f y (there m))) refl

  split_last : (w : List ℕ) → Without b w → split b w ≡ w ∷ []
  unfolding split
  split_last [] f = refl
  split_last (x ∷ w) f = rw (ne_eqb x b (f x (here refl)), split_last w (λ y m. f y (there m))) refl

-- the bytes of w are n or more
abbrev From : ℕ → List ℕ → Type 0
From n w = (b : ℕ) → In b w → n ≤ b

from_none : (n : ℕ) → From n []
from_none n b m = absurd (nowhere m)

from_first : (n x : ℕ) (w : List ℕ) → n ≤ x → From n w → From n (x ∷ w)
from_first n x w h f b m = elim (cases m) [ inl e ↦ omega arith | inr o ↦ f b o ]

from_both : (n : ℕ) (v w : List ℕ) → From n v → From n w → From n (v ++ w)
from_both n v w f h b m = elim (append_cases v m) [ inl o ↦ f b o | inr o ↦ h b o ]

-- such bytes are no blank and no line end
without : (n b : ℕ) (w : List ℕ) → b < n → From n w → Without b w
without n b w l f x m e = omega (arith, f x m)

-- ---- numbers

digits_from : (n : ℕ) → Printable n → From 48 (in_decimal n)
digits_from n h b m = ((decimal_reads n h).digits b m).0

read_digits : (w : List ℕ) → 1 ≤ length w → ((b : ℕ) → In b w → (48 ≤ b) × (b ≤ 57)) → read_number w ≡ some (read_decimal w)
unfolding read_number
read_digits [] l f = absurd (omega arith)
read_digits (b ∷ w) l f = rw (in_all is_decimal_digit (b ∷ w) (λ x m. and_both _ _ (le-leb 48 x (f x m).0) (le-leb x 57 (f x m).1))) refl

number_reads : (n : ℕ) → Printable n → read_number (in_decimal n) ≡ some n
number_reads n h = let d = decimal_reads n h in read_digits (in_decimal n) (decimal_some n) d.digits ∙ ap some d.reads

-- ---- literals

reads_plain : (w : List ℕ) → 1 ≤ length w → From 48 w → read_literal w ≡ as_plain (read_number w)
unfolding read_literal
reads_plain [] l f = absurd (omega arith)
reads_plain (b ∷ w) l f = rw (ne_eqb b 45 (λ e. omega (arith, f b (here refl)))) refl

reads_negated : (w : List ℕ) → read_literal (45 ∷ w) ≡ as_negated (read_number w)
unfolding read_literal
reads_negated w = refl

literal_reads : (l : Literal) → Printable (variable_of l) → read_literal (print_literal l) ≡ some l
literal_reads (Plain v) h = reads_plain (in_decimal v) (decimal_some v) (digits_from v h) ∙ ap as_plain (number_reads v h)
literal_reads (Negated v) h = reads_negated (in_decimal v) ∙ ap as_negated (number_reads v h)

-- no literal is the 0 that ends a clause
first_not_zero : (w : List ℕ) → ¬ (get_or w 0 0 ≡ 48) → same_word w word_zero ≡ false
first_not_zero [] f = refl
first_not_zero (b ∷ w) f = and_first_false _ _ (ne_eqb b 48 f)

not_zero : (l : Literal) → 1 ≤ variable_of l → Printable (variable_of l) → same_word (print_literal l) word_zero ≡ false
not_zero (Plain v) o h = first_not_zero (in_decimal v) ((decimal_reads v h).no_leading_zero o)
not_zero (Negated v) o h = first_not_zero (45 ∷ in_decimal v) (λ e. omega arith)

literal_from : (l : Literal) → Printable (variable_of l) → From 33 (print_literal l)
literal_from (Plain v) h = λ b m. omega (arith, digits_from v h b m)
literal_from (Negated v) h = from_first 33 45 (in_decimal v) (omega arith) (λ b m. omega (arith, digits_from v h b m))

-- ---- clauses

-- a clause's line without its end
clause_line : Clause → List ℕ
clause_line [] = word_zero
clause_line (l ∷ ls) = print_literal l ++ (32 ∷ clause_line ls)

line_of_clause : (ls : Clause) → print_clause ls ≡ clause_line ls ++ line_end
unfolding clause_line
line_of_clause [] = refl
line_of_clause (l ∷ ls) = rw (line_of_clause ls) (simp append_assoc)

abbrev Fine : Clause → Type 0
Fine ls = (l : Literal) → In l ls → (1 ≤ variable_of l) × Printable (variable_of l)

clause_from : (ls : Clause) → Fine ls → From 32 (clause_line ls)
unfolding clause_line
clause_from [] f = from_first 32 48 [] (omega arith) (from_none 32)
clause_from (l ∷ ls) f =
    from_both 32 (print_literal l) (32 ∷ clause_line ls) (λ b m. omega (arith, literal_from l (f l (here refl)).1 b m))
    (from_first 32 32 (clause_line ls) (omega arith) (clause_from ls (λ x i. f x (there i))))

clause_reads : (ls : Clause) → Fine ls → read_clause (split 32 (clause_line ls)) ≡ some ls
unfolding clause_line read_clause ◌and◌
clause_reads [] f = rw (split_last 32 word_zero (without 33 32 word_zero (omega arith) (from_first 33 48 [] (omega arith) (from_none 33)))) refl
clause_reads (l ∷ ls) f =
    let (o, h) = f l (here refl) in
    rw (split_at 32 (print_literal l) (clause_line ls) (without 33 32 _ (omega arith) (literal_from l h)), not_zero l o h, literal_reads l h, clause_reads ls (λ x i. f x (there i))) refl

lines_split : (cs : List Clause) → ((c : Clause) → In c cs → Fine c) → split 10 (print_clauses cs) ≡ map clause_line cs ++ ([] ∷ [])
unfolding print_clauses split
lines_split [] f = refl
lines_split (c ∷ cs) f =
    rw (line_of_clause c, append_assoc)
    (split_at 10 (clause_line c) (print_clauses cs) (without 32 10 _ (omega arith) (clause_from c (f c (here refl))))
    ∙ ap (λ (r : List (List ℕ)). clause_line c ∷ r) (lines_split cs (λ d i. f d (there i))))

lines_read : (cs : List Clause) → ((c : Clause) → In c cs → Fine c) → read_lines (map clause_line cs ++ ([] ∷ [])) ≡ some cs
unfolding read_lines
lines_read [] f = refl
lines_read (c ∷ []) f = rw (clause_reads c (f c (here refl))) refl
lines_read (c ∷ d ∷ cs) f = rw (clause_reads c (f c (here refl)), lines_read (d ∷ cs) (λ x i. f x (there i))) refl

-- ---- the whole text

head_line : ℕ → ℕ → List ℕ
head_line v n = word_p ++ (32 ∷ (word_cnf ++ (32 ∷ (in_decimal v ++ (32 ∷ in_decimal n)))))

module _ (v n : ℕ) (hv : Printable v) (hn : Printable n) where
  digits_33 : (k : ℕ) → Printable k → From 33 (in_decimal k)
  digits_33 k h b m = omega (arith, digits_from k h b m)

  line_of_head : print_head v n ≡ head_line v n ++ line_end
  unfolding head_line
  line_of_head = simp append_assoc

  head_from : From 32 (head_line v n)
  unfolding head_line
  head_from =
      from_first 32 112 _ (omega arith) (from_first 32 32 _ (omega arith) (from_first 32 99 _ (omega arith) (from_first 32 110 _ (omega arith) (from_first 32 102 _ (omega arith)
      (from_first 32 32 _ (omega arith) (from_both 32 (in_decimal v) (32 ∷ in_decimal n) (λ b m. omega (arith, digits_33 v hv b m))
      (from_first 32 32 _ (omega arith) (λ b m. omega (arith, digits_33 n hn b m)))))))))

  head_words : split 32 (head_line v n) ≡ word_p ∷ word_cnf ∷ in_decimal v ∷ in_decimal n ∷ []
  unfolding head_line split
  head_words =
      rw (split_at 32 (in_decimal v) (in_decimal n) (without 33 32 _ (omega arith) (digits_33 v hv)), split_last 32 (in_decimal n) (without 33 32 _ (omega arith) (digits_33 n hn))) refl

  head_reads : (cs : List Clause) → read_head (split 32 (head_line v n)) (some cs) ≡ some (record { variables = v; count = n; clauses = cs })
  unfolding read_head ◌and◌
  head_reads cs = rw (head_words, number_reads v hv, number_reads n hn) refl

print_lines : (v : ℕ) (cs : List Clause) → Printable v → Printable (length cs) → print v cs ≡ head_line v (length cs) ++ (10 ∷ print_clauses cs)
unfolding print
print_lines v cs hv hn = ap (λ (l : List ℕ). l ++ print_clauses cs) (line_of_head v (length cs) hv hn) ∙ append_assoc (head_line v (length cs)) line_end (print_clauses cs)

pub reads_back : ReadsBack
unfolding read read_text
reads_back v cs hv hn f =
    rw (print_lines v cs hv hn, split_at 10 (head_line v (length cs)) (print_clauses cs) (without 32 10 _ (omega arith) (head_from v (length cs) hv hn)), lines_split cs f, lines_read cs f)
    (head_reads v (length cs) hv hn cs)

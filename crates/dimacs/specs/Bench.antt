-- What wrong definitions are tried on (must-fail/): a fact or two for each, computed by antt. Assumes nothing.
use Rattle.std.specs.Prelude.{ℕ, ◌≡◌, true, List, [], ◌∷◌, ◌++◌}
use Rattle.std.proofs.Math.Option.{none, some}
use Rattle.circuit.specs.declared.Kind.TheVariants.{Not, And, Or, Xor, Voter}
use Rattle.circuit.specs.Bench.{pair, one, circuit_p9, circuit_p10}
use Rattle.dimacs.specs.declared.Literal.{Literal}
use Rattle.dimacs.specs.declared.Literal.TheVariants.{Plain, Negated}
use Rattle.dimacs.specs.Cnf.{Clause}
use Rattle.dimacs.specs.Clauses.{tseitin, unit}
use Rattle.dimacs.specs.Dimacs.{read}
use Rattle.dimacs.specs.Export.{export_text}

-- a clause of two literals, and of three
abbrev pub two : Literal → Literal → Clause
two l k = l ∷ k ∷ []

abbrev pub three : Literal → Literal → Literal → Clause
three l k j = l ∷ k ∷ j ∷ []

-- "p cnf "
abbrev pub head : List ℕ
head = 112 ∷ 32 ∷ 99 ∷ 110 ∷ 102 ∷ 32 ∷ []

-- The text of P9's map, whose gates are an input, NOT(0) and AND(0,1), with code 2 = 1, line by line:
abbrev pub p9_lines : List ℕ
p9_lines =
    -- `3 6`
    (51 ∷ 32 ∷ 54 ∷ 10 ∷ [])
    -- `-2 -1 0`, `2 1 0`
    ++ ((45 ∷ 50 ∷ 32 ∷ 45 ∷ 49 ∷ 32 ∷ 48 ∷ 10 ∷ [])
    ++ ((50 ∷ 32 ∷ 49 ∷ 32 ∷ 48 ∷ 10 ∷ [])
    -- `-3 1 0`, `-3 2 0`, `3 -1 -2 0`
    ++ ((45 ∷ 51 ∷ 32 ∷ 49 ∷ 32 ∷ 48 ∷ 10 ∷ [])
    ++ ((45 ∷ 51 ∷ 32 ∷ 50 ∷ 32 ∷ 48 ∷ 10 ∷ [])
    ++ ((51 ∷ 32 ∷ 45 ∷ 49 ∷ 32 ∷ 45 ∷ 50 ∷ 32 ∷ 48 ∷ 10 ∷ [])
    -- `3 0`
    ++ (51 ∷ 32 ∷ 48 ∷ 10 ∷ []))))))

-- the line `1 0`
abbrev pub p10_lines : List ℕ
p10_lines = 49 ∷ 32 ∷ 48 ∷ 10 ∷ []

pub record Examples : Type 0 where
  pub p9_text : export_text circuit_p9 ≡ head ++ p9_lines
  -- P10's map, one input without a code: `p cnf 1 0`
  pub p10_text : export_text circuit_p10 ≡ head ++ p10_lines
  -- the clauses of gate 3 of each kind, in their order
  pub not_order : tseitin Not 3 (one 0) ≡ two (Negated 4) (Negated 1) ∷ two (Plain 4) (Plain 1) ∷ []
  pub and_order : tseitin And 3 (pair 0 1) ≡ two (Negated 4) (Plain 1) ∷ two (Negated 4) (Plain 2) ∷ three (Plain 4) (Negated 1) (Negated 2) ∷ []
  pub or_order : tseitin Or 3 (pair 0 1) ≡ three (Negated 4) (Plain 1) (Plain 2) ∷ two (Plain 4) (Negated 1) ∷ two (Plain 4) (Negated 2) ∷ []
  pub xor_order : tseitin Xor 3 (pair 0 1)
      ≡ three (Negated 4) (Plain 1) (Plain 2) ∷ three (Negated 4) (Negated 1) (Negated 2) ∷ three (Plain 4) (Plain 1) (Negated 2) ∷ three (Plain 4) (Negated 1) (Plain 2) ∷ []
  pub voter_order : tseitin Voter 3 (0 ∷ pair 1 2)
      ≡ three (Negated 4) (Plain 1) (Plain 2) ∷ three (Negated 4) (Plain 1) (Plain 3) ∷ three (Negated 4) (Plain 2) (Plain 3)
      ∷ three (Plain 4) (Negated 1) (Negated 2) ∷ three (Plain 4) (Negated 1) (Negated 3) ∷ three (Plain 4) (Negated 2) (Negated 3) ∷ []
  pub unit_sign : unit (some true) 3 ≡ (Plain 4 ∷ []) ∷ []
  -- texts that are none: no line end, a clause without 0, no head, another word in it, two blanks, a byte behind the last line end, an item behind 0, a letter in a number
  pub cut_off : read (head ++ (49 ∷ 32 ∷ 48 ∷ [])) ≡ none
  pub no_zero : read (head ++ (49 ∷ 32 ∷ 49 ∷ 10 ∷ 49 ∷ 10 ∷ [])) ≡ none
  pub no_head : read p10_lines ≡ none
  pub two_blanks : read (head ++ (49 ∷ 32 ∷ 49 ∷ 10 ∷ 49 ∷ 32 ∷ 32 ∷ 48 ∷ 10 ∷ [])) ≡ none
  pub other_word : read (112 ∷ 32 ∷ 99 ∷ 110 ∷ 110 ∷ 32 ∷ 49 ∷ 32 ∷ 48 ∷ 10 ∷ []) ≡ none
  pub behind_last : read (head ++ (49 ∷ 32 ∷ 48 ∷ 10 ∷ 49 ∷ [])) ≡ none
  pub behind_zero : read (head ++ (49 ∷ 32 ∷ 49 ∷ 10 ∷ 49 ∷ 32 ∷ 48 ∷ 32 ∷ 49 ∷ 10 ∷ [])) ≡ none
  pub no_digit : read (head ++ (49 ∷ 32 ∷ 49 ∷ 10 ∷ 49 ∷ 97 ∷ 32 ∷ 48 ∷ 10 ∷ [])) ≡ none

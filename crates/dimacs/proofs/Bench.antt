-- The examples, computed. Assumes nothing.
use Prim.Native.Nat.{ℕ}
use mathlib.Core.Path.{refl}
use Rattle.folds.specs.Folds.{◌and◌, ◌or◌}
use Rattle.circuit.specs.Bench.{circuit_p9, circuit_p10}
use Rattle.text.specs.Text.{decimal_in, read_on}
use Rattle.dimacs.specs.Clauses.{gather, clauses}
use Rattle.dimacs.specs.Dimacs.{print_clauses, print, split, read_number, read_literal, read_clause, read_lines, read_head, read_text, read}
use Rattle.dimacs.specs.Export.{export_text}
use Rattle.dimacs.specs.Bench.{Examples}

-- every definition that the examples compute with, under one name
opened : ℕ
unfolding ◌and◌ ◌or◌ circuit_p9 circuit_p10 decimal_in read_on gather clauses print_clauses print split read_number read_literal read_clause read_lines read_head read_text read export_text
opened = 0

pub examples : Examples
unfolding opened
examples = record {
  p9_text = refl;
  p10_text = refl;
  not_order = refl;
  and_order = refl;
  or_order = refl;
  xor_order = refl;
  voter_order = refl;
  unit_sign = refl;
  cut_off = refl;
  no_zero = refl;
  no_head = refl;
  two_blanks = refl;
  other_word = refl;
  behind_last = refl;
  behind_zero = refl;
  no_digit = refl;
}

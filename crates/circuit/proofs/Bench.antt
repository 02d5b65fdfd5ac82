-- The examples, computed. Assumes nothing.
use Prim.Native.Nat.{ℕ}
use mathlib.Core.Path.{refl}
use Rattle.folds.specs.Folds.{◌and◌, ◌or◌, all_below, descend}
use Rattle.circuit.specs.Circuit.{justified}
use Rattle.circuit.specs.Evaluate.{inputs_before, values, evaluate, mark, differ}
use Rattle.circuit.specs.Survey.{spread, reasons, cone, in_front, front, interesting, survey, front_size, interest_set, interest_size}
use Rattle.circuit.specs.Run.{drawn, down_options, options_left, greedy_options, chosen, entry_chosen, entry_turns, run, answer}
use Rattle.circuit.specs.Bench.{adder, circuit_p9, circuit_p11, circuit_f5, nand, gap, nots, clash, choice, inner, all, vote, Examples}

-- every definition that the examples compute with, under one name
opened : ℕ
unfolding ◌and◌ ◌or◌ all_below descend justified inputs_before values evaluate mark differ spread reasons cone in_front front interesting survey front_size interest_set interest_size drawn down_options options_left greedy_options chosen entry_chosen entry_turns run answer adder circuit_p9 circuit_p11 circuit_f5 nand gap nots clash choice inner all vote
opened = 0

pub examples : Examples
unfolding opened
examples = record {
  by_input_order = refl;
  marked_code = refl;
  differing = refl;
  front_and_below = refl;
  and_at_zero = refl;
  not_below = refl;
  nots_left_out = refl;
  others_counted = refl;
  voter_counted = refl;
  and_wrong_alone = refl;
  xor_options = refl;
  voter_by_two = refl;
  voter_by_one = refl;
  voter_at_one = refl;
  voter_pairs = refl;
  voter_turns_one = refl;
  turns_all_wrong = refl;
  drawn_turns = refl;
  up_on_coded = refl;
  up_on_uncoded = refl;
  greedy_turns = refl;
  greedy_ties = refl;
  greedy_by_weight = refl;
  found_without_entry = refl;
  found_at_once = refl;
  two_moves = refl;
  first_left = refl;
  modulo_left = refl;
  greedy_left = refl;
  out_whole = refl;
  stuck_at_once = refl;
  spent_before = refl;
  answer_is_evaluated = refl;
  answer_outside_cone = refl;
}

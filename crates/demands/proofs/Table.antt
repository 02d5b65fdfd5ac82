-- Document 01's examples P1 to P12 and F-5's, computed. Assumes nothing.
use Prim.Native.Nat.{ℕ}
use mathlib.Core.Path.{refl}
use Rattle.folds.specs.Folds.{◌and◌, ◌or◌, all_below, descend}
use Rattle.circuit.specs.Circuit.{justified}
use Rattle.circuit.specs.Evaluate.{inputs_before, row_of, values, mark}
use Rattle.circuit.specs.Survey.{spread, reasons, cone, in_front, front, interesting, survey, front_size, interest_set, interest_size}
use Rattle.circuit.specs.Run.{drawn, down_options, options_left, greedy_options, chosen, entry_chosen, entry_turns, run, answer}
use Rattle.circuit.specs.Promise.{run_with, size_with_nots, entry_with_nots}
use Rattle.circuit.specs.Bench.{adder, circuit_p9, circuit_p10, circuit_p11, circuit_f5}
use Rattle.kinds.specs.Kinds.{kind_fits}
use Rattle.map.specs.Map.{u16_at, fan_ins_before, code_among, kids_of}
use Rattle.map.specs.Check.{offsets_test, kind_test, position_test, positions_test, child_test, children_test, code_test, first_failed, contents_tests, bodies_tests, map_tests}
use Rattle.state.specs.State.{bits_test, configuration_tests, mark_by, mark_effect}
use Rattle.survey.specs.Survey.{codes_shown_test, start_tests, survey_tests, survey_by, survey_effect}
use Rattle.tape.specs.Tape.{entry_at, entries_from, entries, tape_length_test, entry_kinds_test}
use Rattle.search.specs.Move.{front_test, entry_tests, move_tests, move_by, move_effect}
use Rattle.search.specs.Run.{tape_tests, run_tests, run_answer, run_ended, run_by, run_effect}
use Rattle.text.specs.Text.{decimal_in}
use Rattle.line.specs.Line.{input_test, lent, line_of}
use Rattle.demands.specs.Table.{adder_bytes, map_p9, map_p10, map_p11, map_f5, P1ToP12, ExampleF5}

-- the definitions that the examples compute with, under one name for each part
on_circuits : ℕ
unfolding ◌and◌ ◌or◌ all_below descend justified inputs_before row_of values mark spread reasons cone in_front front interesting survey front_size interest_set interest_size drawn down_options options_left greedy_options chosen entry_chosen entry_turns run answer adder circuit_p9 circuit_p10 circuit_p11 circuit_f5 size_with_nots entry_with_nots run_with
on_circuits = 0

on_maps : ℕ
unfolding kind_fits u16_at fan_ins_before code_among kids_of offsets_test kind_test position_test positions_test child_test children_test code_test first_failed contents_tests bodies_tests map_tests adder_bytes map_p9 map_p10 map_p11 map_f5
on_maps = 0

in_calls : ℕ
unfolding bits_test configuration_tests mark_by mark_effect codes_shown_test start_tests survey_tests survey_by survey_effect entry_at entries_from entries tape_length_test entry_kinds_test front_test entry_tests move_tests move_by move_effect tape_tests run_tests run_answer run_ended run_by run_effect decimal_in input_test lent line_of
in_calls = 0

pub p1_to_p12 : P1ToP12
unfolding on_circuits on_maps in_calls
p1_to_p12 = record {
  adder_is = record { gates = refl; kinds = refl; kids = refl; codes = refl };
  adder_length = refl;
  a_is = refl;
  P1 = refl;
  b_is = refl;
  P2 = refl;
  P3 = refl;
  p3_bytes = refl;
  p3_line = refl;
  p3_word = refl;
  p3_row = refl;
  P4 = refl;
  p4_option = refl;
  p4_row = refl;
  P5 = refl;
  c_is = refl;
  P6 = refl;
  p6_drawn = refl;
  p6_interest = (refl, refl);
  P7 = refl;
  p7_drawn = refl;
  P8 = refl;
  p9_is = record { gates = refl; kinds = refl; kids = refl; codes = refl };
  p9_then = refl;
  P9 = refl;
  p9_line = refl;
  p9_word = refl;
  p10_is = record { gates = refl; kinds = refl; kids = refl; codes = refl };
  P10 = refl;
  p11_is = record { gates = refl; kinds = refl; kids = refl; codes = refl };
  P11 = refl;
  p11_row = refl;
  P12 = refl;
}

pub example_f5 : ExampleF5
unfolding on_circuits on_maps in_calls
example_f5 = record {
  map_is = record { gates = refl; kinds = refl; kids = refl; codes = refl };
  d_is = refl;
  options = refl;
  sizes = (refl, refl);
  sizes_before = (refl, refl);
  moved = refl;
  moved_before = refl;
  ran = refl;
  ran_before = refl;
  surveyed = refl;
  surveyed_before = refl;
}

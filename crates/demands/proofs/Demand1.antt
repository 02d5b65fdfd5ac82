-- Demand 1, on bytes: it puts together what is proved of each call. Assumes nothing.
use Rattle.map.proofs.Described.{check_number, check_accepts, check_does, check_refuses}
use Rattle.map.proofs.Parts.{children_does}
use Rattle.state.proofs.Meaning.{evaluate_does, evaluate_accepts, evaluate_number, evaluate_refuses, mark_does, mark_accepts, mark_number, mark_refuses}
use Rattle.survey.proofs.Meaning.{survey_accepts, survey_number, survey_refuses}
use Rattle.line.proofs.Lines.{cut_input}
use Rattle.demands.specs.Demands.{Demand1}
use Rattle.demands.proofs.Moves.{move_accepts, move_number, move_refuses}
use Rattle.demands.proofs.Runs.{run_accepts, run_number, run_refuses}
use Rattle.demands.proofs.Lines.{every_input}
use Rattle.demands.proofs.Exports.{export_does, export_accepts, export_number, export_refuses}

pub demand1 : Demand1
demand1 = record {
  check_number = check_number;
  check_accepts = check_accepts;
  check_refuses = check_refuses;
  check_does = check_does;
  children = children_does;
  evaluate_accepts = evaluate_accepts;
  evaluate_number = evaluate_number;
  evaluate_refuses = evaluate_refuses;
  evaluate_does = evaluate_does;
  mark_accepts = mark_accepts;
  mark_number = mark_number;
  mark_refuses = mark_refuses;
  mark_does = mark_does;
  export_accepts = export_accepts;
  export_number = export_number;
  export_refuses = export_refuses;
  export_does = export_does;
  survey_accepts = survey_accepts;
  survey_number = survey_number;
  survey_refuses = survey_refuses;
  move_accepts = move_accepts;
  move_number = move_number;
  move_refuses = move_refuses;
  run_accepts = run_accepts;
  run_number = run_number;
  run_refuses = run_refuses;
  program = every_input;
  program_reads = cut_input;
}

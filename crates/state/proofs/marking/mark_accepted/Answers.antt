use Rattle.std.proofs.Common.{sym, ◌∙◌}
use Rattle.folds.proofs.Tests.{and_ends_first, and_goes_on}
use Rattle.state.proofs.Marks.{mark_is_tests}
use Rattle.state.proofs.marking.mark_accepted.Goals as goal

pub returns-then-gates_right : goal.returns-then-gates_right
returns-then-gates_right c =
    mark_is_tests c.in_ok-s.s _ _ _ c.in_ok-s.ensures.handed_on c.in_ok-s.ensures.number (and_goes_on _ _ _ (sym c.if-gates_right.ensures) c.codes_shown.ensures)

pub returns-else-gates_right : goal.returns-else-gates_right
returns-else-gates_right c =
    mark_is_tests c.in_ok-s.s _ _ _ c.in_ok-s.ensures.handed_on c.in_ok-s.ensures.number (c.if-gates_right.false ∙ and_ends_first _ _ (sym c.if-gates_right.ensures))

use Rattle.std.proofs.Common.{◌∙◌, sym, arith}
use Rattle.progress.proofs.Advancing.{few_turned, goes_advances}
use Rattle.progress.proofs.advance.Goals as goal

pub overflow_add-result-2 : goal.overflow_add-result-2
overflow_add-result-2 c =
    omega (arith, c.requires.stands.stands.going, few_turned _ _ _ _ c.args.coded.map.is c.requires.stands (omega arith) _ _ (sym c.read.ensures ∙ c.in-Some.is) _ _ c.entry-report.ensures)

pub returns : goal.returns
returns c =
    goes_advances _ _ _ _ c.args.coded.map.is c.requires.stands (omega arith) _ _ (sym c.read.ensures ∙ c.in-Some.is) _ _ c.entry-report.ensures (omega arith) _ _ c.settle.ensures

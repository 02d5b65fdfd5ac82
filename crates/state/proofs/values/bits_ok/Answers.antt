use Rattle.std.proofs.Common.{rules, ◌∙◌, ap, max, leb}
use Rattle.std.proofs.lemmas.Iterator.{YieldsList-from_slice}
use Rattle.std.proofs.lemmas.Iterator.Consumers.{fold_from_yields_List}
use Rattle.state.proofs.Filling.{most_at_1}
use Rattle.state.proofs.values.bits_ok.Goals as goal

pub returns : goal.returns
returns c = ap (λ most. leb most 1) (fold_from_yields_List _ max 0 c.fold.result c.fold.ensures.ran (YieldsList-from_slice c.args.s.now (search rules)) (λ a x b q k. search rules))
    ∙ most_at_1 c.args.s.now

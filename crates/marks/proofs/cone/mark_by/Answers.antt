use Rattle.std.proofs.Common.{sym, ◌∙◌}
use Rattle.marks.proofs.ConePass.{turn_fronts, turn_brings}
use Rattle.marks.proofs.cone.mark_by.Goals as goal

pub returns-then-not-justified_by : goal.returns-then-not-justified_by
returns-then-not-justified_by c = turn_fronts _ _ _ _ c.requires.in_cone (sym c.justified_by.ensures ∙ c.if-not-justified_by.true)

pub returns-then-is_on : goal.returns-then-is_on
returns-then-is_on c = turn_brings _ _ _ _ c.requires.in_cone (sym c.justified_by.ensures ∙ c.if-not-justified_by.false) _ c.mark_kids.ensures

pub returns-else-is_on : goal.returns-else-is_on
returns-else-is_on c = turn_brings _ _ _ _ c.requires.in_cone (sym c.justified_by.ensures ∙ c.if-not-justified_by.false) _ c.mark_kids-else-is_on.ensures

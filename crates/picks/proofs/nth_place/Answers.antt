use Rattle.std.proofs.Common.{◌≡◌, ◌∙◌, length, get_or, arith, ap}
use Rattle.std.proofs.lemmas.List.{get_or_default}
use mir.Val.{bool_byte}
use Rattle.picks.specs.Picks.{places_of}
use Rattle.picks.proofs.Places.{found_at, none_left_lem}
use Rattle.picks.proofs.nth_place.Goals as goal

pub returns-then-left-hit : goal.returns-then-left-hit
unfolding places_of
returns-then-left-hit g c =
    let read = c.index-items-i.is ∙ get_or_default c.args.items.now c.loop-i.i c.index-items-i.result c.args.item c.loop-i-test.true in
    let hit = c.from-hit.ensures ∙ ap bool_byte (c.eq.ensures ∙ ap (λ x. g.T.PartialEq.eq x c.args.item) read) in
    record {
      place = found_at _ (length c.args.items.now) c.loop-i.i _ c.loop-i.left _ c.loop-i.invariant hit c.if-left-hit.true c.loop-i-test.true;
      within = c.loop-i-test.true;
    }

pub unreachable-requires : goal.unreachable-requires
unfolding places_of
unreachable-requires g c =
    let e : c.loop-i.i ≡ length c.args.items.now = omega arith in
    none_left_lem (λ i. g.T.PartialEq.eq (get_or c.args.items.now i c.args.item) c.args.item) (length c.args.items.now) _ _ (rw e at c.loop-i.invariant) c.requires

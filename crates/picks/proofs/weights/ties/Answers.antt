use Rattle.std.proofs.Common.{◌≡◌, ◌∙◌, eqb, rules}
use Rattle.std.specs.List.{count_by}
use Rattle.picks.specs.Picks.{equal_to}
use Rattle.picks.proofs.Places.{count_is}
use Rattle.picks.proofs.weights.ties.Goals as goal

pub returns : goal.returns
unfolding equal_to
returns c =
    let e : c.count.result ≡ count_by (λ x. eqb x c.args.w) c.args.weights.now = search rules in
    e ∙ count_is (λ x. eqb x c.args.w) c.args.weights.now

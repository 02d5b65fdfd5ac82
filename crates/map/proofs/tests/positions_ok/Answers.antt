use Rattle.std.proofs.Common.{rules, refl, ◌≡◌, ◌≤◌, true}
use Rattle.folds.specs.Folds as Folds
use Rattle.folds.specs.Folds.{all_below}
use Rattle.folds.proofs.Chains.{kept_over}
use Rattle.folds.proofs.Loops.{all_none, all_more, all_fails}
use Rattle.map.specs.Map.{fan_ins_before}
use Rattle.map.specs.Check.{position_test, positions_test}
use Rattle.map.proofs.tests.positions_ok.Goals as goal

-- each call is given the sum of the fan-ins before its gate
pub try_fold-requires-clause-callable : goal.try_fold-requires-clause-callable
unfolding fan_ins_before
try_fold-requires-clause-callable c = record {
  at = λ xs t q x u y s e.
      let h = kept_over _ xs y s refl (λ g total. total ≡ fan_ins_before c.args.map.bytes.now g) refl (λ g total q l j r. search rules) in
      search rules;
}

-- the gates before t.start passed; t.start is the gate that failed, or past the last
pub returns : goal.returns
unfolding fan_ins_before positions_test Folds.◌and◌
returns c =
    let m = c.args.map.bytes.now in
    let (xs, o, f, a, (t, y, k), s, e) = c.try_fold.ensures.ran in
    let h = kept_over _ xs y s refl (λ g total. (g ≤ c.args.map.gates) × (all_below g (position_test m) ≡ true) × (total ≡ fan_ins_before m g)) (search (rules, all_none)) (λ g total q l j r. search (rules, all_more)) in
    let stops = all_fails (position_test m) c.args.map.gates t.start in
    search rules

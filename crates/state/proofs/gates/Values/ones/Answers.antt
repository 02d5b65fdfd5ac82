use Rattle.std.proofs.Common.{ℕ, rules, refl, ◌^◌, Bool}
use native.Mathlib.Numerals.{add-one}
use Rattle.folds.proofs.Chains.{count_fits, count_by_chain}
use Rattle.circuit.specs.Circuit.{on}
use Rattle.circuit.proofs.Values.{byte_bit}
use Rattle.circuit.proofs.Lists.{place_of, place_more}
use Rattle.map.specs.Map.{child_at, fan_in}
use Rattle.state.proofs.gates.Values.ones.Goals as goal

pub sum-requires-clause-fits : goal.sum-requires-clause-fits
sum-requires-clause-fits c =
    let p : ℕ → Bool = λ j. on c.args.self.bytes.now (child_at c.args.self.map.bytes.now c.args.g j) in
    count_fits _ (place_of p) (λ j. byte_bit (p j)) refl (λ j. rw (add-one j) (place_more p j)) (fan_in c.args.self.map.bytes.now c.args.g)
    c.map.ensures.source c.map.ensures.closure (search rules) (λ x r q k. search rules) (2 ^ 64) (search rules)

pub returns : goal.returns
returns c =
    let p : ℕ → Bool = λ j. on c.args.self.bytes.now (child_at c.args.self.map.bytes.now c.args.g j) in
    count_by_chain _ (place_of p) (λ j. byte_bit (p j)) refl (λ j. rw (add-one j) (place_more p j)) (fan_in c.args.self.map.bytes.now c.args.g)
    c.map.ensures.source c.map.ensures.closure (search rules) (λ x r q k. search rules) c.sum.ensures.ran

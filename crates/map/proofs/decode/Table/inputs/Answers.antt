use Rattle.std.proofs.Common.{rules, arith, refl, ◌^◌}
use Rattle.folds.proofs.Chains.{count_fits, count_by_chain}
use Rattle.circuit.specs.Gate.{is_input, kind_of}
use Rattle.circuit.specs.Evaluate.{inputs_before}
use Rattle.circuit.proofs.Values.{byte_bit}
use Rattle.map.specs.Map.{kind_byte, circuit}
use Rattle.map.proofs.Laws.{inputs_none, inputs_more}
use Rattle.map.proofs.decode.Table.inputs.Goals as goal

pub sum-requires-clause-fits : goal.sum-requires-clause-fits
sum-requires-clause-fits c =
    let m = c.args.self.bytes.now in
    count_fits _ (inputs_before (circuit m)) (λ g. byte_bit (is_input (kind_of (kind_byte m g)))) (inputs_none m) (inputs_more m)
    c.args.self.gates c.map.ensures.source c.map.ensures.closure refl (λ x r q k. search rules) (2 ^ 64) (omega arith)

pub returns : goal.returns
returns c =
    let m = c.args.self.bytes.now in
    let r = count_by_chain _ (inputs_before (circuit m)) (λ g. byte_bit (is_input (kind_of (kind_byte m g)))) (inputs_none m) (inputs_more m)
    c.args.self.gates c.map.ensures.source c.map.ensures.closure refl (λ x r q k. search rules) c.sum.ensures.ran in
    search rules

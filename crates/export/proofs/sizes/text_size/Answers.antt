use Rattle.export.proofs.Lengths.{text_length}
use Rattle.export.proofs.sizes.text_size.Goals as goal

pub returns : goal.returns
returns c =
    text_length c.args.map.bytes.now c.args.map.is _ _ _ _ _ _ c.args.map.contents.gates_is c.requires.count c.args.map.contents.codes_is c.head_size-head.ensures.0 c.requires.size c.units_size.ensures.0

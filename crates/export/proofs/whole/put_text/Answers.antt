use Rattle.std.proofs.Common.{◌++◌, ◌+◌}
use Rattle.map.specs.Map.{gate_count, code_count}
use Rattle.text.proofs.Written.{wrote_next, fits_as, fits_first, fits_next}
use Rattle.dimacs.specs.Dimacs.{print_head}
use Rattle.export.specs.Inner.{gates_text, units_text}
use Rattle.export.proofs.Texts.{text_parts}
use Rattle.export.proofs.whole.put_text.Goals as goal

pub put_head-at-requires : goal.put_head-at-requires
put_head-at-requires c =
    let m = c.args.map.bytes.now in
    let head = print_head c.args.map.gates (c.args.gates.clauses + c.args.map.codes) in
    let e = text_parts m c.args.map.is _ _ _ c.args.map.contents.gates_is c.requires.measured.count c.args.map.contents.codes_is in
    fits_first head (gates_text m (gate_count m)) c.args.out.now
    (fits_first (head ++ gates_text m (gate_count m)) (units_text m (code_count m)) c.args.out.now (fits_as _ _ _ e c.requires.room))

pub put_gates-at-requires : goal.put_gates-at-requires
put_gates-at-requires c =
    let m = c.args.map.bytes.now in
    let head = print_head c.args.map.gates (c.args.gates.clauses + c.args.map.codes) in
    let e = text_parts m c.args.map.is _ _ _ c.args.map.contents.gates_is c.requires.measured.count c.args.map.contents.codes_is in
    fits_next head (gates_text m (gate_count m)) _ _ _
    (fits_first (head ++ gates_text m (gate_count m)) (units_text m (code_count m)) c.args.out.now (fits_as _ _ _ e c.requires.room)) c.put_head-at.ensures

pub put_units-requires : goal.put_units-requires
put_units-requires c =
    let m = c.args.map.bytes.now in
    let head = print_head c.args.map.gates (c.args.gates.clauses + c.args.map.codes) in
    let e = text_parts m c.args.map.is _ _ _ c.args.map.contents.gates_is c.requires.measured.count c.args.map.contents.codes_is in
    fits_next (head ++ gates_text m (gate_count m)) (units_text m (code_count m)) _ _ _ (fits_as _ _ _ e c.requires.room)
    (wrote_next head (gates_text m (gate_count m)) _ _ _ _ _ c.put_head-at.ensures c.put_gates-at.ensures)

pub returns : goal.returns
returns c =
    rw (← text_parts c.args.map.bytes.now c.args.map.is _ _ _ c.args.map.contents.gates_is c.requires.measured.count c.args.map.contents.codes_is)
    (wrote_next _ _ _ _ _ _ _ (wrote_next _ _ _ _ _ _ _ c.put_head-at.ensures c.put_gates-at.ensures) c.put_units.ensures)

use Rattle.std.proofs.Common.{sym, ◌∙◌}
use Rattle.text.proofs.Written.{wrote_none, fits_as}
use Rattle.export.proofs.Texts.{one_kid, two_kids, three_kids, input_is, not_is, and_is, or_is, xor_is, voter_is}
use Rattle.export.proofs.gates.put_gate.Goals as goal

pub returns-in-Input : goal.returns-in-Input
returns-in-Input c = rw (← input_is c.args.gate.map.bytes.now c.args.gate.number (sym c.args.gate.read.kind_is ∙ c.in-Input.is)) (wrote_none _)

pub put_not-requires-clause-one : goal.put_not-requires-clause-one
put_not-requires-clause-one c = one_kid _ c.args.gate.map.is _ c.args.gate.read.known (sym c.args.gate.read.kind_is ∙ c.in-Not.is)

pub put_not-requires-clause-room : goal.put_not-requires-clause-room
put_not-requires-clause-room c = fits_as _ _ _ (not_is _ c.args.gate.map.is _ c.args.gate.read.known (sym c.args.gate.read.kind_is ∙ c.in-Not.is)) c.requires

pub returns-in-Not : goal.returns-in-Not
returns-in-Not c = rw (← not_is _ c.args.gate.map.is _ c.args.gate.read.known (sym c.args.gate.read.kind_is ∙ c.in-Not.is)) c.put_not.ensures

pub put_and-requires : goal.put_and-requires
put_and-requires c = fits_as _ _ _ (and_is c.args.gate.map.bytes.now c.args.gate.number (sym c.args.gate.read.kind_is ∙ c.in-And.is)) c.requires

pub returns-in-And : goal.returns-in-And
returns-in-And c = rw (← and_is c.args.gate.map.bytes.now c.args.gate.number (sym c.args.gate.read.kind_is ∙ c.in-And.is)) c.put_and.ensures

pub put_or-requires : goal.put_or-requires
put_or-requires c = fits_as _ _ _ (or_is c.args.gate.map.bytes.now c.args.gate.number (sym c.args.gate.read.kind_is ∙ c.in-Or.is)) c.requires

pub returns-in-Or : goal.returns-in-Or
returns-in-Or c = rw (← or_is c.args.gate.map.bytes.now c.args.gate.number (sym c.args.gate.read.kind_is ∙ c.in-Or.is)) c.put_or.ensures

pub put_xor-requires-clause-two : goal.put_xor-requires-clause-two
put_xor-requires-clause-two c = two_kids _ c.args.gate.map.is _ c.args.gate.read.known (sym c.args.gate.read.kind_is ∙ c.in-Xor.is)

pub put_xor-requires-clause-room : goal.put_xor-requires-clause-room
put_xor-requires-clause-room c = fits_as _ _ _ (xor_is _ c.args.gate.map.is _ c.args.gate.read.known (sym c.args.gate.read.kind_is ∙ c.in-Xor.is)) c.requires

pub returns-in-Xor : goal.returns-in-Xor
returns-in-Xor c = rw (← xor_is _ c.args.gate.map.is _ c.args.gate.read.known (sym c.args.gate.read.kind_is ∙ c.in-Xor.is)) c.put_xor.ensures

pub put_voter-requires-clause-three : goal.put_voter-requires-clause-three
put_voter-requires-clause-three c = three_kids _ c.args.gate.map.is _ c.args.gate.read.known (sym c.args.gate.read.kind_is ∙ c.in-Voter.is)

pub put_voter-requires-clause-room : goal.put_voter-requires-clause-room
put_voter-requires-clause-room c = fits_as _ _ _ (voter_is _ c.args.gate.map.is _ c.args.gate.read.known (sym c.args.gate.read.kind_is ∙ c.in-Voter.is)) c.requires

pub returns-in-Voter : goal.returns-in-Voter
returns-in-Voter c = rw (← voter_is _ c.args.gate.map.is _ c.args.gate.read.known (sym c.args.gate.read.kind_is ∙ c.in-Voter.is)) c.put_voter.ensures

use Rattle.lnbd_rehearsal.proofs.StageLemmas.{staged_first}
use Rattle.lnbd_rehearsal.proofs.stage.Stage.new.Goals as goal

pub invariant_of-result : goal.invariant_of-result
invariant_of-result c = staged_first c.args.seed c.args.size c.args.source c.args.destination c.in_ok-exports.exports.items _ c.in_ok-wires.wires c.requires.from c.requires.generated c.requires.to c.requires.noise c.in_ok-exports.ensures.items c.in_ok-wires.ensures.state c.came.ensures

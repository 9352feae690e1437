use Rattle.std.proofs.Common.{◌<◌, arith}
use Rattle.lnbd_export.proofs.EdgeLaws.{still_rise, told_now}
use Rattle.lnbd_export.proofs.edges.Edges.tell.Goals as goal

pub invariant_of-self : goal.invariant_of-self
invariant_of-self c =
    let some : 0 < c.args.length = omega arith in
    still_rise c.turn.result c.args.start c.args.length c.args.zero c.self.inside.places.items c.turn.new.places.items c.turn.ensures.ok c.turn.ensures.err some c.self.invariant

pub returns-clause-told : goal.returns-clause-told
returns-clause-told c =
    let some : 0 < c.args.length = omega arith in
    rw (← c.self.view_is) (told_now c.turn.result c.args.start c.args.length c.args.zero c.self.inside.places.items c.turn.new.places.items c.turn.ensures.ok some c.self.invariant)

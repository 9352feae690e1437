use Rattle.lnbd_export.proofs.EdgeLaws.{reached}
use Rattle.lnbd_export.proofs.edges.Edges.reach.Goals as goal

pub returns : goal.returns
returns c =
    rw (← c.self.view_is) (reached c.self.inside.places.items c.deref-2.result.now c.deref.result.now c.args.at c.args.end c.below.result c.edge_at.result c.self.invariant c.requires.some
    c.below.ensures c.deref-2.ensures.value c.edge_at.ensures c.deref.ensures.value)

use Rattle.std.proofs.Common.{sym, ◌∙◌}
use Rattle.lnbd_extents.proofs.CutLaws.{covered_stays}
use Rattle.lnbd_extents.proofs.ranges.Ranges.hold.Goals as goal

pub returns-then-covers-clause-held : goal.returns-then-covers-clause-held
returns-then-covers-clause-held c = covered_stays c.args.self.now c.args.start c.args.length (sym c.covers.ensures ∙ c.if-covers.true)

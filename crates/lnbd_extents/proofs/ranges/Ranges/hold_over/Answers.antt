use Rattle.std.proofs.Common.{rules, ◌≡◌, true, ◌<◌, ◌^◌, ap}
use Rattle.lnbd_extents.specs.Positions.{holds, any_at}
use Rattle.lnbd_extents.specs.Pages.{ranges_of}
use Rattle.lnbd_extents.proofs.CutLaws.{again_ranges, again_holds, any_some}
use Rattle.lnbd_extents.proofs.ranges.Ranges.hold_over.Goals as goal

pub invariant_of-self : goal.invariant_of-self
invariant_of-self c =
    let met : any_at (holds c.args.self.now) c.args.start c.args.length ≡ true = search rules in
    let some : 0 < c.args.length = any_some (holds c.args.self.now) c.args.start c.args.length met in
    let k = again_ranges (2 ^ 63) c.args.start c.args.length (ranges_of c.self.inside.pages.items) (ranges_of c.deref.result.now) (ranges_of c.in_ok-self-inside.field-0.items)
    (ap ranges_of c.deref.ensures.value) c.in_ok-self-inside.ensures.ranges some c.requires c.self.invariant.0 c.self.invariant.1 in
    (k.0, k.1, c.in_ok-self-inside.ensures.filled, tt)

pub returns-clause-held : goal.returns-clause-held
returns-clause-held c =
    rw (← c.self.view_is) (again_holds c.args.start c.args.length (ranges_of c.self.inside.pages.items) (ranges_of c.deref.result.now) (ranges_of c.in_ok-self-inside.field-0.items)
    (ap ranges_of c.deref.ensures.value) c.in_ok-self-inside.ensures.ranges)

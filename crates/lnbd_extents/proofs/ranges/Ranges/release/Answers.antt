use Rattle.std.proofs.Common.{rules, ◌≡◌, true, false, ◌<◌, ◌^◌, ap}
use Rattle.lnbd_extents.specs.Positions.{holds, any_at}
use Rattle.lnbd_extents.specs.Pages.{ranges_of}
use Rattle.lnbd_extents.proofs.CutLaws.{left_ranges, left_holds, absent_stays, any_some}
use Rattle.lnbd_extents.proofs.ranges.Ranges.release.Goals as goal

pub returns-then-not-meets-clause-held : goal.returns-then-not-meets-clause-held
returns-then-not-meets-clause-held c = let none : any_at (holds c.args.self.now) c.args.start c.args.length ≡ false = search rules in absent_stays c.args.self.now c.args.start c.args.length none

pub invariant_of-self : goal.invariant_of-self
invariant_of-self c =
    let met : any_at (holds c.args.self.now) c.args.start c.args.length ≡ true = search rules in
    let some : 0 < c.args.length = any_some (holds c.args.self.now) c.args.start c.args.length met in
    let k = left_ranges (2 ^ 63) c.args.start c.args.length (ranges_of c.self.inside.pages.items) (ranges_of c.deref.result.now) (ranges_of c.in_ok-self-inside.field-0.items)
    (ap ranges_of c.deref.ensures.value) c.in_ok-self-inside.ensures.ranges some c.self.invariant.0 c.self.invariant.1 in
    (k.0, k.1, c.in_ok-self-inside.ensures.filled, tt)

pub returns-clause-held : goal.returns-clause-held
returns-clause-held c =
    rw (← c.self.view_is) (left_holds c.args.start c.args.length (ranges_of c.self.inside.pages.items) (ranges_of c.deref.result.now) (ranges_of c.in_ok-self-inside.field-0.items)
    (ap ranges_of c.deref.ensures.value) c.in_ok-self-inside.ensures.ranges)

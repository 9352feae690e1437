use Rattle.std.proofs.Common.{ℕ, ◌^◌, ◌<◌, List, length, ap, subst, sym, arith}
use Rattle.lnbd_extents.specs.Pages.{ranges_of}
use Rattle.lnbd_extents.proofs.RangeLaws.{walk_before, walk_behind, walk_within}
use Rattle.lnbd_extents.proofs.CountLaws.{count_bound}
use Rattle.lnbd_extents.proofs.ranges.Ranges.place.Goals as goal

pub returns-clause-before : goal.returns-clause-before
returns-clause-before c = rw (← c.self.view_is) (walk_before c.args.position c.place_in.result (ranges_of c.self.inside.pages.items) (ranges_of c.deref.result.now) (ap ranges_of c.deref.ensures.value) c.place_in.ensures c.self.invariant.0)

pub returns-clause-behind : goal.returns-clause-behind
returns-clause-behind c = rw (← c.self.view_is) (walk_behind c.args.position c.place_in.result (ranges_of c.self.inside.pages.items) (ranges_of c.deref.result.now) (ap ranges_of c.deref.ensures.value) c.place_in.ensures c.self.invariant.0)

pub place_in-requires-clause-room : goal.place_in-requires-clause-room
place_in-requires-clause-room c =
    let k = count_bound (2 ^ 63) (ranges_of c.self.inside.pages.items) c.self.invariant.0 c.self.invariant.1 in
    subst (λ (ps : List (List (ℕ × ℕ))). length (ranges_of ps) < 2 ^ 64) (sym c.deref.ensures.value) (omega arith)

pub returns-clause-within : goal.returns-clause-within
returns-clause-within c = rw (← c.self.view_is) (walk_within c.args.position c.place_in.result (ranges_of c.self.inside.pages.items) (ranges_of c.deref.result.now) (ap ranges_of c.deref.ensures.value) c.place_in.ensures)

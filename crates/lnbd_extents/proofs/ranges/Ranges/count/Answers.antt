use Rattle.std.proofs.Common.{ℕ, ◌^◌, ◌<◌, List, length, subst, sym, arith}
use Rattle.lnbd_extents.specs.Pages.{ranges_of}
use Rattle.lnbd_extents.proofs.CountLaws.{count_bound}
use Rattle.lnbd_extents.proofs.ranges.Ranges.count.Goals as goal

pub count_before-requires-clause-room : goal.count_before-requires-clause-room
count_before-requires-clause-room c =
    let k = count_bound (2 ^ 63) (ranges_of c.self.inside.pages.items) c.self.invariant.0 c.self.invariant.1 in
    subst (λ (ps : List (List (ℕ × ℕ))). length (ranges_of ps) < 2 ^ 64) (sym c.deref.ensures.value) (omega arith)

use Rattle.std.proofs.Common.{◌≤◌, length, arith}
use Rattle.lnbd_link.proofs.TiedLemmas.{tied_shut, tied_past}
use Rattle.lnbd_link.proofs.book.Book.shut.Goals as goal

pub invariant_of-self : goal.invariant_of-self
invariant_of-self c = record {
  tied = rw c.shut.ensures (tied_shut _ _ _ c.args.link c.self.invariant.tied);
  few = c.self.invariant.few;
}

pub invariant_of-self-else-at-len : goal.invariant_of-self-else-at-len
invariant_of-self-else-at-len c =
    let past : length c.self.inside.opened.items ≤ c.args.link = omega arith in
    record { tied = rw c.shut.ensures (tied_past _ _ _ c.args.link past c.self.invariant.tied); few = c.self.invariant.few }

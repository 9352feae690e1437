use Rattle.std.proofs.Common.{◌<◌, length, arith}
use Rattle.lnbd_link.proofs.TiedLemmas.{tied_unmade, tied_made}
use Rattle.lnbd_link.proofs.book.Book.connect.Goals as goal

pub invariant_of-self : goal.invariant_of-self
invariant_of-self c = record {
  tied = rw c.connect.ensures (tied_unmade c.self.inside.next c.self.inside.next _ _ _ (omega arith) (omega (arith, c.self.invariant.tied.counted)) c.self.invariant.tied);
  few = c.self.invariant.few;
}

pub invariant_of-self-then-fails : goal.invariant_of-self-then-fails
invariant_of-self-then-fails c = record {
  tied = rw c.connect-then-fails.ensures (tied_unmade c.self.inside.next _ _ _ _ (omega arith) (omega (arith, c.self.invariant.tied.counted)) c.self.invariant.tied);
  few = c.self.invariant.few;
}

pub invariant_of-self-2 : goal.invariant_of-self-2
invariant_of-self-2 c =
    let within : c.self.inside.next < length c.self.inside.opened.items = omega arith in
    record { tied = rw c.connect-2.ensures (tied_made c.self.inside.next _ _ _ within c.self.invariant.tied); few = c.self.invariant.few }

use Rattle.std.proofs.Common.{refl}
use Rattle.lnbd_link.proofs.TiedLemmas.{tied_plain}
use Rattle.lnbd_link.proofs.book.Book.write.Goals as goal

pub invariant_of-self : goal.invariant_of-self
invariant_of-self c = record {
  tied = rw c.write.ensures (tied_plain _ _ _ _ refl (λ n. refl) (λ n was. refl) c.self.invariant.tied);
  few = c.self.invariant.few;
}

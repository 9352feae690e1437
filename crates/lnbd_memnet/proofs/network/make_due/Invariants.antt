use Rattle.std.proofs.Common.{◌≡◌, drop}
use Rattle.lnbd_memnet.specs.Plays.{all_due}
use Rattle.lnbd_memnet.proofs.network.make_due.Given as goal

abbrev pub invariant-loop-want : goal.invariant-loop-want
invariant-loop-want l = all_due l.wants l.fn.links.items ≡ all_due (drop l.want-index l.wants) l.links.items

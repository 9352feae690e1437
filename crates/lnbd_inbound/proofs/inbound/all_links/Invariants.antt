use Rattle.std.proofs.Common.{◌≡◌, ◌+◌, ◌∷◌, map, length, vec_len}
use Rattle.lnbd_link.specs.Left.{link_of}
use Rattle.lnbd_inbound.specs.Inbound.{listener_left, inbound_of}
use Rattle.lnbd_inbound.proofs.inbound.all_links.Given as goal

abbrev pub invariant-loop-link : goal.invariant-loop-link
invariant-loop-link l = (map link_of l.all.items ≡ listener_left ∷ map inbound_of l.yielded) × (vec_len l.all ≡ 1 + length l.yielded)

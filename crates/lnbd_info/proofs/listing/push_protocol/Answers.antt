use Rattle.std.proofs.Common.{◌≡◌, ◌++◌, List, ℕ, string_bytes, subst}
use Rattle.std.specs.Prelude.{OnOk, codes}
use Rattle.lnbd_info.proofs.listing.push_protocol.Goals as goal

pub returns : goal.returns
returns c =
    subst (λ (t : List ℕ). OnOk c.write.result (string_bytes c.write.new.self ≡ string_bytes c.args.text.now ++ (codes "protocol: newstyle-fixed without TLS, using " ++ (t ++ codes " packets\n")))) c.packets_of-packets.ensures c.write.ensures.bytes

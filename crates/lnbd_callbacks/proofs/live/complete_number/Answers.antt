use Rattle.std.proofs.Common.{◌∙◌, true, sym}
use Rattle.lnbd_keyed.proofs.KeyedLemmas.{with_value_none}
use Rattle.lnbd_callbacks.proofs.LiveLemmas.{set_value-with_value, lookup-value_at}
use Rattle.lnbd_callbacks.proofs.live.complete_number.Goals as goal

pub returns-in-Some : goal.returns-in-Some
returns-in-Some c = (c.get_mut.follows.holds true).0 ∙ set_value-with_value c.args.number true c.args.live.now.entries

pub returns-in_default : goal.returns-in_default
returns-in_default c = rw c.get_mut.follows.holds-at-none (sym (with_value_none c.args.number true c.args.live.now.entries (sym (lookup-value_at c.args.number c.args.live.now.entries) ∙ sym c.in_default.ensures.value)))

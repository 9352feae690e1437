-- The connections of both sides together are fewer than may be held, by options within their limits.
use Rattle.std.proofs.Common.{◌≡◌, ◌<◌, ◌≤◌, ◌+◌, max, ℕ, Bool, true, false, List, Option, ap, sym, subst, arith, if◌then◌else◌}
use Rattle.lnbd_link.specs.Call as wire
use Rattle.lnbd_model.specs.declared.export.ExportInfo.{ExportInfo}
use Rattle.lnbd_plan.specs.declared.options.CopyOptions.{CopyOptions}
use Rattle.lnbd_poll.specs.Held.{max_held}
use Rattle.lnbd_records.specs.Numbers.{has_bit}
use Rattle.lnbd_conduct.specs.Limits.{AreLimited}
use Rattle.lnbd_conduct.specs.Terms.{connections, flag_can_multi_conn}
use Rattle.lnbd_conduct.specs.declared.sides.Sides.{Sides}
use Rattle.lnbd_conduct.specs.declared.terms.Terms.{Terms}
use Rattle.lnbd_copy.specs.Copier.{HasMet, Seen}

connections_few : (options : CopyOptions) (info : ExportInfo) → options.connections ≤ 16 → connections options info ≤ 16
connections_few options info most = go (has_bit flag_can_multi_conn info.flags)
  where
    go : (many : Bool) → (if many then max options.connections 1 else 1) ≤ 16
    go true = omega (arith, most)
    go false = omega arith

sum_few : (a b : ℕ) → a ≤ 16 → b ≤ 16 → a + b < max_held
sum_few a b one two = omega (arith, one, two)

pub sides_few : (copy copy' : Seen) (start told : Option (List wire.Call)) (terms : Terms) → copy' ≡ record copy { held = copy'.held; board = copy'.board } → AreLimited copy.options → HasMet copy' start told terms → terms.sides.source + terms.sides.destination < max_held
sides_few copy copy' start told terms kept limits met =
    let most : copy'.options.connections ≤ 16 = subst (λ (o : CopyOptions). o.connections ≤ 16) (sym (ap (λ (s : Seen). s.options) kept)) limits.connections in
    let one = connections_few copy'.options met.settled.source most in
    let two = connections_few copy'.options met.settled.destination most in
    subst (λ (s : Sides). s.source + s.destination < max_held) (sym met.settled.settled.sides) (sum_few (connections copy'.options met.settled.source) (connections copy'.options met.settled.destination) one two)

-- What an end, a fault, a refusal and a close leave as it was.
use Rattle.std.proofs.Common.{◌≡◌, ℕ, zero, suc, refl}
use Rattle.lnbd_model.specs.declared.state.Cause.{Cause}
use Rattle.lnbd_model.specs.declared.state.Cause.TheVariants as cause
use Rattle.lnbd_records.specs.Options.{opt_go}
use Rattle.lnbd_stream.specs.Stream.{Held}
use Rattle.lnbd_history.specs.declared.kinds.Phase.{Phase}
use Rattle.lnbd_history.specs.declared.kinds.Phase.TheVariants.{Greeting, Asked, AskedByName, OptMode, Ready, Refused}
use Rattle.lnbd_history.specs.declared.kinds.Stage.{Stage}
use Rattle.lnbd_history.specs.declared.kinds.Stage.TheVariants.{Created, Open, Disconnecting, Aborting, Closed, Dead}
use Rattle.lnbd_history.specs.Entries.{Item, Lost, Dropped}
use Rattle.lnbd_history.specs.Events.{History}
use Rattle.lnbd_history.specs.History.{Known, asked, if_refused, die, cookies, flying, ended_at, failed_at, ended_closing, closed, file_all}
use Rattle.lnbd_asked.proofs.Match.{all_still}

module _ {K : Type 0} where
  -- the turns and the parts stay
  pub record Keeps (known later : Known K) : Type 0 where
    pub turns : later.turns ≡ known.turns
    pub parts : later.parts ≡ known.parts

  nothing : (known : Known K) → Keeps known known
  nothing known = record { turns = refl; parts = refl }

  all_keep : (before : History K) (item : Item) (stage : Stage) (known : Known K) → Keeps known (file_all before item (cookies (asked before).issued) (record known { stage = stage }))
  all_keep before item stage known = let s = all_still before item (cookies (asked before).issued) (record known { stage = stage }) in record { turns = s.turns; parts = s.parts }

  pub dies_keep : (before : History K) (why : Cause) (known : Known K) → Keeps known (die before why known)
  dies_keep before why known = all_keep before Lost (Dead why) known

  pub closed_keep : (before : History K) (known : Known K) → Keeps known (closed before known)
  closed_keep before known = all_keep before Dropped Closed known

  pub refused_keep : (before : History K) (p : Phase) (known : Known K) → Keeps known (if_refused p before known)
  refused_keep before Greeting known = nothing known
  refused_keep before (Asked option) known = nothing known
  refused_keep before AskedByName known = nothing known
  refused_keep before OptMode known = nothing known
  refused_keep before Ready known = nothing known
  refused_keep before (Refused code) known = dies_keep before (cause.Refused opt_go code) known

  closing_keep : (before : History K) (n : ℕ) (known : Known K) → Keeps known (ended_closing n before known)
  closing_keep before zero known = record { turns = refl; parts = refl }
  closing_keep before (suc n) known = dies_keep before cause.Ended known

  pub ended_keep : (before : History K) (stage : Stage) (held : Held (Known K)) → Keeps held.known (ended_at stage before held).known
  ended_keep before Created held = nothing held.known
  ended_keep before Open held = dies_keep before cause.Ended held.known
  ended_keep before Disconnecting held = closing_keep before (flying before held.known.entries (asked before).issued) held.known
  ended_keep before Aborting held = closing_keep before (flying before held.known.entries (asked before).issued) held.known
  ended_keep before Closed held = nothing held.known
  ended_keep before (Dead why) held = nothing held.known

  pub failed_keep : (before : History K) (stage : Stage) (held : Held (Known K)) → Keeps held.known (failed_at stage before held).known
  failed_keep before Created held = nothing held.known
  failed_keep before Open held = dies_keep before cause.LinkFailed held.known
  failed_keep before Disconnecting held = dies_keep before cause.LinkFailed held.known
  failed_keep before Aborting held = dies_keep before cause.LinkFailed held.known
  failed_keep before Closed held = nothing held.known
  failed_keep before (Dead why) held = nothing held.known

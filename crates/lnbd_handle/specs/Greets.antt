-- What the turns of negotiation do to the machine's state.
use Rattle.std.specs.Prelude.{◌≡◌, ℕ, Bool, true, false, Option, Some, Result, Ok, Err}
use Rattle.lnbd_model.specs.declared.breach.Breach.TheVariants.{NotFixed}
use Rattle.lnbd_model.specs.declared.state.Cause.TheVariants.{Broke, Refused, Ended, LinkFailed}
use Rattle.lnbd_records.specs.Flags.{flag_fixed_newstyle}
use Rattle.lnbd_records.specs.Options.{opt_go}
use Rattle.lnbd_records.specs.Told.{Told}
use Rattle.lnbd_history.specs.declared.kinds.Phase.{Phase}
use Rattle.lnbd_history.specs.declared.kinds.Phase.TheVariants as phase
use Rattle.lnbd_history.specs.Agreement.{Replied}
use Rattle.lnbd_history.specs.Arrivals.{Shown, OptionReply, Broken, has_bit}
use Rattle.lnbd_machine.specs.Machine.{State, greeted, turned}
use Rattle.lnbd_negotiate.specs.declared.kinds.TalkFault.{TalkFault}
use Rattle.lnbd_negotiate.specs.declared.kinds.TalkFault.TheVariants.{NoMemory, Cause}

-- GO was not refused
abbrev pub goes_on : Phase → Bool
goes_on (phase.Refused code) = false
goes_on other = true

module _ {K : Type 0} where
  -- The hello is taken, or is a breach, which the caller of this enters, or memory ran out.
  abbrev pub Greets : State K → ℕ → Result (Unit {0}) TalkFault → State K → Type 0
  Greets old flags (Ok done) new = (has_bit flag_fixed_newstyle flags ≡ true) × (new ≡ greeted flags old)
  Greets old flags (Err NoMemory) new = new ≡ old
  Greets old flags (Err (Cause (Broke breach))) new = (has_bit flag_fixed_newstyle flags ≡ false) × (breach ≡ NotFixed) × (new ≡ old)
  Greets old flags (Err (Cause (Refused option code))) new = ⊥
  Greets old flags (Err (Cause Ended)) new = ⊥
  Greets old flags (Err (Cause LinkFailed)) new = ⊥

  -- An option reply is taken, or is a breach, or the server refuses, which the caller of this enters, or memory ran out.
  abbrev pub Replies : State K → Option Shown → Result (Unit {0}) TalkFault → State K → Type 0
  Replies old verdict (Ok done) new = (told : Told) × (verdict ≡ Some (OptionReply told)) × (new ≡ turned (Replied told) old) × (goes_on new.talk.phase ≡ true)
  Replies old verdict (Err NoMemory) new = new ≡ old
  Replies old verdict (Err (Cause (Broke breach))) new = (verdict ≡ Some (Broken breach)) × (new ≡ old)
  Replies old verdict (Err (Cause (Refused option code))) new =
      (told : Told) × (verdict ≡ Some (OptionReply told)) × (new ≡ turned (Replied told) old) × (new.talk.phase ≡ phase.Refused code) × (option ≡ opt_go)
  Replies old verdict (Err (Cause Ended)) new = ⊥
  Replies old verdict (Err (Cause LinkFailed)) new = ⊥

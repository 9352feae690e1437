-- What a caller may set and ask in negotiation, and why something is refused.
use Rattle.std.specs.Prelude.{◌≡◌, ◌≢◌, ◌<◌, ℕ, Bool, true, false, not, ◌&&◌, ◌==◌, length}
use Rattle.lnbd_model.specs.declared.state.State.TheVariants as state
use Rattle.lnbd_records.specs.Limits.{max_contexts}
use Rattle.lnbd_records.specs.Options.{opt_set_meta_context}
use Rattle.lnbd_history.specs.declared.kinds.Stage.TheVariants.{Created}
use Rattle.lnbd_history.specs.Laws.{may_name}
use Rattle.lnbd_machine.specs.Machine.{State}
use Rattle.lnbd_machine.specs.Now.{state_now}
use Rattle.lnbd_handle.specs.declared.kinds.OptFault.{OptFault}
use Rattle.lnbd_handle.specs.declared.kinds.OptFault.TheVariants as opt
use Rattle.lnbd_handle.specs.declared.kinds.SetFault.{SetFault}
use Rattle.lnbd_handle.specs.declared.kinds.SetFault.TheVariants as set

module _ {K : Type 0} where
  -- A meta context may be added where a name may be set, up to sixteen.
  abbrev pub MayAdd : State K → Type 0
  MayAdd old = (may_name (state_now old) ≡ true) × (length old.talk.wanted < max_contexts)

  -- One is refused exactly in the other states; else where sixteen are there; else memory may run out.
  abbrev pub RefusesContext : State K → SetFault → Type 0
  RefusesContext old set.NoMemory = MayAdd old
  RefusesContext old (set.State now) = (may_name (state_now old) ≡ false) × (now ≡ state_now old)
  RefusesContext old (set.TooMany most) = (may_name (state_now old) ≡ true) × (length old.talk.wanted ≡ max_contexts) × (most ≡ max_contexts)

  -- What may be set before the start is refused exactly in the other states, and then nothing has changed.
  abbrev pub RefusesStarted : State K → SetFault → Type 0
  RefusesStarted old fault = (old.stage ≢ Created) × (fault ≡ set.State (state_now old))

  -- SET_META_CONTEXT needs structured replies, and they are off.
  abbrev pub lacks_structured : ℕ → State K → Bool
  lacks_structured option old = (option == opt_set_meta_context) && not old.talk.structured

  -- An option may be asked in opt mode.
  abbrev pub MayAsk : ℕ → State K → Type 0
  MayAsk option old = (state_now old ≡ state.OptMode) × (lacks_structured option old ≡ false)

  -- One is refused exactly in the other states; else where it needs structured replies that are off; else memory may run out.
  abbrev pub RefusesOption : ℕ → State K → OptFault → Type 0
  RefusesOption option old opt.NoMemory = MayAsk option old
  RefusesOption option old (opt.State now) = (state_now old ≢ state.OptMode) × (now ≡ state_now old)
  RefusesOption option old opt.NotStructured = (state_now old ≡ state.OptMode) × (lacks_structured option old ≡ true)

-- When a call answers which code. Want of memory may be answered where a line has NoMemory, and says nothing more.
use Rattle.std.specs.Prelude.{◌≡◌, ◌≢◌, ◌≤◌, ◌<◌, ℕ, Bool, true, false, not, ◌==◌, List, length}
use Rattle.lnbd_model.specs.declared.state.State.TheVariants as state
use Rattle.lnbd_model.specs.Text.{IsText}
use Rattle.lnbd_records.specs.Limits.{max_contexts}
use Rattle.lnbd_history.specs.declared.kinds.Stage.TheVariants.{Created}
use Rattle.lnbd_history.specs.Commands.{Command}
use Rattle.lnbd_history.specs.Laws.{may_name}
use Rattle.lnbd_history.specs.Strict.{unknown_bits}
use Rattle.lnbd_machine.specs.Machine.{State}
use Rattle.lnbd_machine.specs.Now.{direction_now, out_now, refusal_now, state_now}
use Rattle.lnbd_handle.specs.Histories.{max_unretired}
use Rattle.lnbd_handle.specs.Settings.{MayAdd, MayAsk, lacks_structured}
use Rattle.lnbd_session.specs.declared.code.Code.{Code}
use Rattle.lnbd_session.specs.declared.code.Code.TheVariants.{Ok, NoMemory, BadState, TooMany, Unsupported, BadRequest, Full}
use Rattle.lnbd_session.specs.Codes.{code_of_refusal}

-- so many of so many bytes that were lent
abbrev pub Within : ℕ → ℕ → Code → Type 0
Within n lent Ok = n ≤ lent
Within n lent TooMany = lent < n
Within n lent other = ⊥

-- the bits of strict mode, in any state
abbrev pub TakesBits : ℕ → Code → Type 0
TakesBits bits Ok = unknown_bits bits ≡ 0
TakesBits bits BadRequest = unknown_bits bits ≢ 0
TakesBits bits other = ⊥

module _ {K : Type 0} where
  -- what may be done before the start alone
  abbrev pub BeforeStart : State K → Code → Type 0
  BeforeStart known Ok = known.stage ≡ Created
  BeforeStart known BadState = known.stage ≢ Created
  BeforeStart known other = ⊥

  -- the name of an export, before the start and in opt mode
  abbrev pub TakesName : List ℕ → State K → Code → Type 0
  TakesName name known Ok = IsText name × (may_name (state_now known) ≡ true)
  TakesName name known NoMemory = Unit {0}
  TakesName name known BadRequest = ¬ IsText name
  TakesName name known BadState = IsText name × (may_name (state_now known) ≡ false)
  TakesName name known other = ⊥

  -- the name of a meta context, of which there are sixteen at most
  abbrev pub TakesContext : List ℕ → State K → Code → Type 0
  TakesContext name known Ok = IsText name × MayAdd known
  TakesContext name known NoMemory = Unit {0}
  TakesContext name known BadRequest = ¬ IsText name
  TakesContext name known BadState = IsText name × (may_name (state_now known) ≡ false)
  TakesContext name known Full = IsText name × (may_name (state_now known) ≡ true) × (length known.talk.wanted ≡ max_contexts)
  TakesContext name known other = ⊥

  -- an option, in opt mode; SET_META_CONTEXT needs structured replies
  abbrev pub TakesOption : ℕ → State K → Code → Type 0
  TakesOption option known Ok = MayAsk option known
  TakesOption option known NoMemory = Unit {0}
  TakesOption option known BadState = state_now known ≢ state.OptMode
  TakesOption option known Unsupported = (state_now known ≡ state.OptMode) × (lacks_structured option known ≡ true)
  TakesOption option known other = ⊥

  -- the end of negotiation, in opt mode
  abbrev pub TakesAbort : State K → Code → Type 0
  TakesAbort known Ok = state_now known ≡ state.OptMode
  TakesAbort known BadState = state_now known ≢ state.OptMode
  TakesAbort known other = ⊥

  -- whether bytes may come: the connection is open
  abbrev pub may_come : State K → Bool
  may_come known = not (direction_now known == 0)

  -- bytes that came
  abbrev pub TakesBytes : State K → Code → Type 0
  TakesBytes known Ok = may_come known ≡ true
  TakesBytes known NoMemory = may_come known ≡ true
  TakesBytes known BadState = may_come known ≡ false
  TakesBytes known other = ⊥

  -- how a command is judged
  abbrev pub judged : State K → Command K → Code
  judged known command = code_of_refusal (refusal_now max_unretired known command)

-- Why a command or a setting was refused.
use Rattle.std.specs.Prelude.{ℕ, List, ◌++◌, codes, decimal}
use Rattle.lnbd_model.specs.declared.refusal.Lack.{Lack}
use Rattle.lnbd_model.specs.declared.refusal.Lack.TheVariants.{ReadOnly, Flush, Trim, Zero, Cache, Context}
use Rattle.lnbd_model.specs.declared.refusal.Why.{Why}
use Rattle.lnbd_model.specs.declared.refusal.Why.TheVariants.{NotReady, Dead, Closing, TooMany, Unsupported, BadFlags, ZeroSize, TooBig, Bounds, Align}
use Rattle.lnbd_model.specs.declared.state.State.{State}
use Rattle.lnbd_texts.specs.States.{cause_text, state_text}

abbrev pub lack_text : Lack → List ℕ
lack_text ReadOnly = codes "read-only"
lack_text Flush = codes "flush"
lack_text Trim = codes "trim"
lack_text Zero = codes "zero"
lack_text Cache = codes "cache"
lack_text Context = codes "context"

abbrev pub why_text : Why → List ℕ
why_text (NotReady state) = codes "not-ready " ++ state_text state
why_text (Dead cause) = codes "dead " ++ cause_text cause
why_text Closing = codes "closing"
why_text (TooMany limit) = codes "too-many " ++ decimal limit
why_text (Unsupported lack) = codes "unsupported " ++ lack_text lack
why_text (BadFlags bits) = codes "bad-flags " ++ decimal bits
why_text ZeroSize = codes "zero-size"
why_text (TooBig limit) = codes "too-big " ++ decimal limit
why_text (Bounds size) = codes "bounds " ++ decimal size
why_text (Align minimum) = codes "align " ++ decimal minimum

-- of a command
abbrev pub refusal_text : Why → List ℕ
refusal_text why = codes "refused " ++ why_text why

-- of a setting
abbrev pub refused_state_text : State → List ℕ
refused_state_text state = codes "refused state " ++ state_text state

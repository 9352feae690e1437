-- The states of a handle, and why it died.
use Rattle.std.specs.Prelude.{ℕ, List, [], ◌∷◌, ◌++◌, codes}
use Rattle.lnbd_model.specs.Breach.{name_of}
use Rattle.lnbd_model.specs.declared.state.Cause.{Cause}
use Rattle.lnbd_model.specs.declared.state.Cause.TheVariants.{Broke, Refused, Ended, LinkFailed}
use Rattle.lnbd_model.specs.declared.state.State.{State}
use Rattle.lnbd_model.specs.declared.state.State.TheVariants.{Created, Negotiating, OptMode, Ready, Closing, Closed, Dead}
use Rattle.lnbd_texts.specs.Words.{numbers}

abbrev pub cause_text : Cause → List ℕ
cause_text (Broke breach) = codes "broke " ++ name_of breach
cause_text (Refused option code) = codes "refused " ++ numbers (option ∷ code ∷ [])
cause_text Ended = codes "ended"
cause_text LinkFailed = codes "link-failed"

abbrev pub state_text : State → List ℕ
state_text Created = codes "created"
state_text Negotiating = codes "negotiating"
state_text OptMode = codes "opt-mode"
state_text Ready = codes "ready"
state_text Closing = codes "closing"
state_text Closed = codes "closed"
state_text (Dead cause) = codes "dead " ++ cause_text cause

-- What a command came to is taken.
use Rattle.std.specs.Prelude.{◌≡◌, ℕ, List, ◌∷◌}
use Rattle.lnbd_model.specs.declared.state.State.{State}
use Rattle.lnbd_model.specs.declared.state.State.TheVariants as state
use Rattle.lnbd_history.specs.declared.kinds.Completed.TheVariants as completed
use Rattle.lnbd_history.specs.Answers.{completed_after}
use Rattle.lnbd_history.specs.Events.{History, Retire}
use Rattle.lnbd_dump.specs.declared.reader.Reader.{Reader}
use Rattle.lnbd_dump.specs.declared.stop.Stop.{Stop}
use Rattle.lnbd_dump.specs.declared.stop.Stop.TheVariants as stop

-- the handle is told to be dead of the cause, or the command's error is told
abbrev pub Stands : (at : State) → (error : ℕ) → Stop → Type 0
Stands at error (stop.Died cause) = at ≡ state.Dead cause
Stands at error (stop.Failed number) = number ≡ error
Stands at error (stop.Halted why) = ⊥
Stands at error (stop.Broke breach) = ⊥
Stands at error stop.Output = ⊥
Stands at error (stop.Range size) = ⊥
Stands at error (stop.Uneven size block) = ⊥

-- The command of this cookie is done with these bytes, and is retired.
pub record TakesResult (cookie : ℕ) (bytes : List ℕ) (before after : History Reader) : Type 0 where
  pub is : after ≡ Retire cookie ∷ before
  pub done : completed_after before cookie ≡ completed.Done bytes

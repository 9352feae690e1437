-- Commands that a handle took, as they are to its link.
use Rattle.std.specs.Prelude.{◌≡◌, ℕ, ◌+◌, ◌<◌, ◌^◌, false, [], ◌∷◌, if◌then◌else◌}
use Rattle.lnbd_model.specs.Kind.{has_range}
use Rattle.lnbd_history.specs.Commands.{Command, is_write}
use Rattle.lnbd_history.specs.Events.{History, Issue}
use Rattle.lnbd_history.specs.History.{asked}
use Rattle.lnbd_machine.specs.Machine.{Machine}
use Rattle.lnbd_standing.specs.Standing.{StandsFor}
use Rattle.lnbd_asked.specs.Driven.{Spells}

module _ {K : Type 0} where
  -- the command, less the buffer that a read is to fill
  abbrev pub without_buffer : Command K → Command K
  without_buffer command = record command { payload = if is_write command.kind then command.payload else [] }

  -- Its numbers have room under this cookie, and where it has no range its offset and its length are 0.
  pub record HaveRoom (cookie : ℕ) (command : Command K) : Type 0 where
    pub cookie_ : cookie < 2 ^ 64
    pub offset : command.offset < 2 ^ 64
    pub ranged : has_range command.kind ≡ false → (command.offset ≡ 0) × (command.length ≡ 0)

-- What a buffer held that is read into goes nowhere: a handle that was asked for a read stands for the history in which it was asked without one.
abbrev pub BuffersAreNoMatter : Type 0 → Type 0
BuffersAreNoMatter K = (limit : ℕ) (history : History K) (command : Command K) (handle : Machine K) → StandsFor limit (Issue command ∷ history) handle → StandsFor limit (Issue (without_buffer command) ∷ history) handle

-- A command that was taken, and whose numbers have room, fits its request.
abbrev pub TakenAreSpelled : Type 0 → Type 0
TakenAreSpelled K = (limit : ℕ) (history : History K) (command : Command K) (handle : Machine K) → StandsFor limit (Issue command ∷ history) handle → HaveRoom ((asked history).issued + 1) command → Spells history (Issue (without_buffer command))

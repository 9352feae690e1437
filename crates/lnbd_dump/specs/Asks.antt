-- What is asked of a handle, as an event.
use Rattle.std.specs.Prelude.{◌≡◌, ℕ, ◌+◌, [], ◌∷◌, None}
use Rattle.lnbd_model.specs.declared.kind.Kind.TheVariants.{Read}
use Rattle.lnbd_handle.specs.Issues.{block_status_of}
use Rattle.lnbd_history.specs.Commands.{Command}
use Rattle.lnbd_history.specs.Events.{History, Issue}
use Rattle.lnbd_history.specs.History.{asked}
use Rattle.lnbd_dump.specs.declared.reader.Reader.{Reader}

-- a READ, without the buffer that it is to fill
abbrev pub reading_of : (offset size : ℕ) → Command Reader
reading_of offset size = record { kind = Read; flags = 0; offset = offset; length = size; payload = []; first = None; done = record {} }

abbrev pub status_of : (offset size : ℕ) → Command Reader
status_of offset size = block_status_of size offset (record {}) (record {}) 0

-- A command was asked, under this cookie.
pub record AsksOne (command : Command Reader) (cookie : ℕ) (before after : History Reader) : Type 0 where
  pub is : after ≡ Issue command ∷ before
  pub number : cookie ≡ (asked before).issued + 1

abbrev pub AsksRead : (cookie offset size : ℕ) → History Reader → History Reader → Type 0
AsksRead cookie offset size before after = AsksOne (reading_of offset size) cookie before after

abbrev pub AsksStatus : (cookie offset size : ℕ) → History Reader → History Reader → Type 0
AsksStatus cookie offset size before after = AsksOne (status_of offset size) cookie before after

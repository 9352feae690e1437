-- How much a handle writes on its link: its part of the handshake, and what it was asked.
use Rattle.std.specs.Prelude.{◌≡◌, ℕ, ◌+◌, ◌≤◌, false, List, [], ◌∷◌, length}
use Rattle.lnbd_asked.specs.Driven.{AllSpell, Drives}
use Rattle.lnbd_history.specs.Agreement.{opt_mode}
use Rattle.lnbd_history.specs.Commands.{Command}
use Rattle.lnbd_history.specs.Events.{History, Issue}
use Rattle.lnbd_history.specs.History.{reading}
use Rattle.lnbd_history.specs.Laws.{Lawful}
use Rattle.lnbd_link.specs.Call.{Call}
use Rattle.lnbd_link.specs.Traffic.{bytes_written}

-- the bytes of a request's head at most: those of the extended one (proto.md, "Extended request message")
abbrev pub longest_head : ℕ
longest_head = 32

-- More than all that is not the request of a command: the flags, one request each of the options that a handle asks for outside opt mode, with a name and 16 contexts of
-- 4,096 bytes each, and the request for the end.
abbrev pub longest_handshake : ℕ
longest_handshake = 131072

module _ {K : Type 0} where
  -- the bytes of a command's request at most: its head, and what it writes
  abbrev pub request_bytes : Command K → ℕ
  request_bytes command = longest_head + length command.payload

  -- the bytes of all requests that a handle was asked to make at most
  abbrev pub asked_bytes : History K → ℕ
  asked_bytes [] = 0
  asked_bytes (Issue command ∷ before) = request_bytes command + asked_bytes before
  asked_bytes (event ∷ before) = asked_bytes before

-- A handle that isn't in opt mode writes no more on its link than a handshake has and what it was asked.
abbrev pub DrivenWriteLittle : Type 0 → Type 0
DrivenWriteLittle K = (limit link : ℕ) (calls : List Call) (history : History K) (unread : List ℕ) → Lawful limit history → AllSpell history → opt_mode (reading history).known.turns ≡ false → Drives link calls history unread →
    length (bytes_written link calls) ≤ longest_handshake + asked_bytes history

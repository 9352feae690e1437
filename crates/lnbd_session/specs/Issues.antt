-- The commands that a session issues, and what issuing one does.
use Rattle.std.specs.Prelude.{◌≡◌, ◌≢◌, ℕ, List, replicate, IfSome, Result, Ok, Err}
use Rattle.lnbd_history.specs.Commands.{Command}
use Rattle.lnbd_history.specs.Events.{ClearLog, Issue, Refuse}
use Rattle.lnbd_machine.specs.Machine.{Machine, step}
use Rattle.lnbd_machine.specs.Now.{refusal_now}
use Rattle.lnbd_handle.specs.Histories.{max_unretired}
use Rattle.lnbd_handle.specs.declared.issue.IssueFault.{IssueFault}
use Rattle.lnbd_handle.specs.declared.issue.IssueFault.TheVariants.{NoMemory, Refused}
use Rattle.lnbd_handle.specs.Issues as asked
use Rattle.lnbd_session.specs.declared.code.Code.{Code}
use Rattle.lnbd_session.specs.declared.code.Code.TheVariants as code
use Rattle.lnbd_session.specs.declared.keeping.Keeping.{Keeping}
use Rattle.lnbd_session.specs.declared.session.Session.{Session}
use Rattle.lnbd_session.specs.Codes.{InMemory, code_of_why}
use Rattle.lnbd_session.specs.When.{judged}

-- the callback of the command that is issued next
abbrev pub keeper : Session → Keeping
keeper session = record { cookie = session.next }

-- Each command's callback keeps the command's cookie.

abbrev pub read : ℕ → (offset flags : ℕ) → Session → Command Keeping
read count offset flags session = asked.read_of (replicate count 0) offset (keeper session) flags

abbrev pub read_into : List ℕ → (offset flags : ℕ) → Session → Command Keeping
read_into bytes offset flags session = asked.read_of bytes offset (keeper session) flags

abbrev pub structured_read : ℕ → (offset flags : ℕ) → Session → Command Keeping
structured_read count offset flags session = asked.structured_read_of (replicate count 0) offset (keeper session) (keeper session) flags

abbrev pub write : List ℕ → (offset flags : ℕ) → Session → Command Keeping
write bytes offset flags session = asked.write_of bytes offset (keeper session) flags

abbrev pub flush : (flags : ℕ) → Session → Command Keeping
flush flags session = asked.flush_of (keeper session) flags

abbrev pub trim : (count offset flags : ℕ) → Session → Command Keeping
trim count offset flags session = asked.trim_of count offset (keeper session) flags

abbrev pub zero : (count offset flags : ℕ) → Session → Command Keeping
zero count offset flags session = asked.zero_of count offset (keeper session) flags

abbrev pub cache : (count offset flags : ℕ) → Session → Command Keeping
cache count offset flags session = asked.cache_of count offset (keeper session) flags

abbrev pub block_status : (count offset flags : ℕ) → Session → Command Keeping
block_status count offset flags session = asked.block_status_of count offset (keeper session) (keeper session) flags

-- What issuing a command does, where this code and this cookie are answered.
pub record Issuing (command : Command Keeping) (answer : Code) (cookie : ℕ) (before after : Machine Keeping) : Type 0 where
  -- the code is that of the rule by which the command is refused, or Ok, unless memory runs out
  pub judges : InMemory answer (judged before.known command)
  -- it is issued, and the cookie is its own
  pub ok : answer ≡ code.Ok → after ≡ step before (Issue command)
  pub cookie_is : answer ≡ code.Ok → cookie ≡ after.known.issued
  pub short : answer ≡ code.NoMemory → after ≡ before
  -- it is refused, which sends nothing, and of which no notes are kept
  pub refused : answer ≢ code.Ok → answer ≢ code.NoMemory → IfSome (refusal_now max_unretired before.known command) (λ why. after ≡ step (step before (Refuse command why)) ClearLog)

-- the code of what issuing came to
abbrev pub code_of_issue : Result ℕ (IssueFault Keeping) → Code
code_of_issue (Ok cookie) = code.Ok
code_of_issue (Err (NoMemory buf first done)) = code.NoMemory
code_of_issue (Err (Refused why buf)) = code_of_why why

-- memory ran out
abbrev pub IsShort : Result ℕ (IssueFault Keeping) → Type 0
IsShort (Ok cookie) = ⊥
IsShort (Err (NoMemory buf first done)) = Unit {0}
IsShort (Err (Refused why buf)) = ⊥

-- the command was refused
abbrev pub IsRefused : Result ℕ (IssueFault Keeping) → Type 0
IsRefused (Ok cookie) = ⊥
IsRefused (Err (NoMemory buf first done)) = ⊥
IsRefused (Err (Refused why buf)) = Unit {0}

-- the buffer of a command that was not issued, or what stands in its place
abbrev pub handed_back : Result ℕ (IssueFault Keeping) → List ℕ → List ℕ
handed_back (Ok cookie) left = left
handed_back (Err (NoMemory buf first done)) left = buf
handed_back (Err (Refused why buf)) left = buf

-- What the exports over buffers answer and leave: a slot holds a buffer or nothing.
use Rattle.std.specs.Prelude.{◌≡◌, ◌≢◌, ℕ, ◌≤◌, ◌<◌, ℤ, List, length, replicate, Option, Some, None, IsSomeAnd}
use Rattle.lnbd_records.specs.Limits.{max_data}
use Rattle.lnbd_history.specs.declared.kinds.Completed.{Completed}
use Rattle.lnbd_history.specs.declared.kinds.Completed.TheVariants.{Done, Failed, NotYet, NoSuchCookie}
use Rattle.lnbd_history.specs.Commands.{Command}
use Rattle.lnbd_history.specs.Events.{ClearLog}
use Rattle.lnbd_machine.specs.Machine.{step}
use Rattle.lnbd_machine.specs.Now.{completed_now}
use Rattle.lnbd_handle.specs.Completing.{completing}
use Rattle.lnbd_session.specs.declared.buffer.Buffer.{Buffer}
use Rattle.lnbd_session.specs.declared.code.Code.{Code}
use Rattle.lnbd_session.specs.declared.code.Code.TheVariants as answer
use Rattle.lnbd_session.specs.declared.keeping.Keeping.{Keeping}
use Rattle.lnbd_session.specs.declared.session.Session.{Session}
use Rattle.lnbd_session.specs.Codes.{code_at, number_of}
use Rattle.lnbd_c.specs.Answers.{Issues}

-- The slot holds a buffer of these bytes.
abbrev pub Holds : Option Buffer → List ℕ → Type 0
Holds held bytes = IsSomeAnd held (λ buffer. buffer.bytes ≡ bytes)

-- A buffer of so many zeroes is made in an empty slot, of 32 MiB at most.
abbrev pub Made : ℕ → Code → Option Buffer → Type 0
Made count answer.Ok after = (count ≤ max_data) × Holds after (replicate count 0)
Made count answer.NoMemory after = (count ≤ max_data) × (after ≡ None)
Made count answer.BadRequest after = (max_data < count) × (after ≡ None)
Made count other after = ⊥

-- HELD where there is a buffer, which stays.
abbrev pub CreatesBuffer : ℕ → ℤ → (before after : Option Buffer) → Type 0
CreatesBuffer count result None after = IsSomeAnd (code_at result) (λ code. Made count code after)
CreatesBuffer count result (Some old) after = (result ≡ number_of answer.Held) × (after ≡ Some old)

-- Its bytes are lent, of which C is told the length.
abbrev pub LendsBuffer : ℤ → ℕ → (before after : Option Buffer) → Type 0
LendsBuffer result len None after = (result ≡ number_of answer.Empty) × (after ≡ None)
LendsBuffer result len (Some old) after = (result ≡ number_of answer.Ok) × (len ≡ length old.bytes) × (after ≡ Some old)

-- With both there a command is issued over the bytes and takes the buffer, or it isn't, and the buffer stays; EMPTY where one lacks, and all is as before.
pub record IssuesOver (command : Command Keeping) (bytes : List ℕ) (code : Code) (cookie : ℕ) (old new : Session) (after : Option Buffer) : Type 0 where
  pub issues : Issues command code cookie old new
  pub taken : code ≡ answer.Ok → after ≡ None
  pub kept : code ≢ answer.Ok → Holds after bytes

abbrev pub IssuesBuffer : (List ℕ → Session → Command Keeping) → ℤ → ℕ → (before after : Option Session) → (buffer left : Option Buffer) → Type 0
IssuesBuffer command result cookie None after buffer left = (result ≡ number_of answer.Empty) × (after ≡ None) × (left ≡ buffer)
IssuesBuffer command result cookie (Some old) after None left = (result ≡ number_of answer.Empty) × (after ≡ Some old) × (left ≡ None)
IssuesBuffer command result cookie (Some old) after (Some buffer) left =
    IsSomeAnd after (λ new. IsSomeAnd (code_at result) (λ code. IssuesOver (command buffer.bytes old) buffer.bytes code cookie old new left))

-- The result of a command is told as the handle tells it, and its bytes stand in the buffer.
abbrev pub Told : Completed → Code → (error : ℕ) → Option Buffer → Type 0
Told (Done bytes) code error after = (code ≡ answer.Ok) × (error ≡ 0) × Holds after bytes
Told (Failed number bytes) code error after = (code ≡ answer.Ok) × (error ≡ number) × Holds after bytes
Told NotYet code error after = (code ≡ answer.NotYet) × (after ≡ None)
Told NoSuchCookie code error after = (code ≡ answer.NoCookie) × (after ≡ None)

-- Where memory ran out nothing has changed, and the result waits.
pub record CompletesOver (completed : Completed) (cookie : ℕ) (code : Code) (error : ℕ) (old new : Session) (after : Option Buffer) : Type 0 where
  pub short : code ≡ answer.NoMemory → (new ≡ old) × (after ≡ None)
  pub told : code ≢ answer.NoMemory → Told completed code error after
  pub machine : code ≢ answer.NoMemory → new.handle.machine ≡ step (completing completed cookie old.handle.machine) ClearLog
  pub kept : (new.told ≡ old.told) × (new.taken ≡ old.taken)

-- HELD where the buffer's slot is not empty, EMPTY where there is no handle; then all is as before.
abbrev pub CompletesInto : ℕ → ℤ → ℕ → (before after : Option Session) → (buffer left : Option Buffer) → Type 0
CompletesInto cookie result error before after (Some buffer) left = (result ≡ number_of answer.Held) × (after ≡ before) × (left ≡ Some buffer)
CompletesInto cookie result error None after None left = (result ≡ number_of answer.Empty) × (after ≡ None) × (left ≡ None)
CompletesInto cookie result error (Some old) after None left =
    IsSomeAnd after (λ new. IsSomeAnd (code_at result) (λ code. CompletesOver (completed_now old.handle.machine.known cookie) cookie code error old new left))

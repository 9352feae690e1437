-- What the exports answer and leave, over a slot that holds a session or nothing.
use Rattle.std.specs.Prelude.{◌≡◌, ◌≢◌, ℕ, ◌≤◌, ◌<◌, ℤ, List, length, take, Option, Some, None, IsSomeAnd, Result, Ok, Err}
use Rattle.lnbd_model.specs.declared.export.Blocks.{Blocks}
use Rattle.lnbd_model.specs.declared.export.Context.{Context}
use Rattle.lnbd_model.specs.declared.export.Extent.{Extent}
use Rattle.lnbd_model.specs.declared.export.Listed.{Listed}
use Rattle.lnbd_model.specs.declared.failure.Failure.{Failure}
use Rattle.lnbd_callbacks.specs.Steps.{OneByOne}
use Rattle.lnbd_records.specs.Limits.{max_data}
use Rattle.lnbd_history.specs.declared.kinds.Completed.{Completed}
use Rattle.lnbd_history.specs.declared.kinds.Completed.TheVariants.{Done, Failed, NotYet, NoSuchCookie}
use Rattle.lnbd_history.specs.Commands.{Command}
use Rattle.lnbd_history.specs.Events.{Answer, Arrived, ClearLog, Event}
use Rattle.lnbd_machine.specs.Machine.{State, created, step}
use Rattle.lnbd_handle.specs.Completing.{completing}
use Rattle.lnbd_handle.specs.Runs.{Answered}
use Rattle.lnbd_session.specs.declared.code.Code.{Code}
use Rattle.lnbd_session.specs.declared.code.Code.TheVariants as answer
use Rattle.lnbd_session.specs.declared.keeping.Keeping.{Keeping}
use Rattle.lnbd_session.specs.declared.keeping.ToldChunk.{ToldChunk}
use Rattle.lnbd_session.specs.declared.keeping.ToldExtents.{ToldExtents}
use Rattle.lnbd_session.specs.declared.session.Session.{Session}
use Rattle.lnbd_session.specs.declared.telling.Agreed.{Agreed}
use Rattle.lnbd_session.specs.declared.telling.Death.{Death}
use Rattle.lnbd_session.specs.declared.telling.Refusal.{Refusal}
use Rattle.lnbd_session.specs.Codes.{code_at, number_of}
use Rattle.lnbd_session.specs.Issues.{Issuing}
use Rattle.lnbd_session.specs.Keeps.{Keeps}
use Rattle.lnbd_session.specs.Tells.{origin_number}
use Rattle.lnbd_session.specs.When.{TakesBytes}

-- what the handle knows
abbrev pub known : Session → State Keeping
known session = session.handle.machine.known

-- Where the slot holds nothing the answer is EMPTY, and it holds nothing then; else it holds a session then too, and this is said of the code that is answered.
abbrev pub Answers : ℤ → (before after : Option Session) → (Code → (old new : Session) → Type 0) → Type 0
Answers result None after says = (result ≡ number_of answer.Empty) × (after ≡ None)
Answers result (Some old) after says = IsSomeAnd after (λ new. IsSomeAnd (code_at result) (λ code. says code old new))

-- The same of a call that answers a number of its own, and leaves the session as it is.
abbrev pub Numbers : ℤ → Option Session → (Session → ℤ) → Type 0
Numbers result None number = result ≡ number_of answer.Empty
Numbers result (Some session) number = result ≡ number session

-- A session is made in an empty slot: HELD where there is one, which stays.
abbrev pub Created : Code → Option Session → Type 0
Created answer.Ok after = IsSomeAnd after (λ new. new.handle.machine ≡ created)
Created answer.NoMemory after = after ≡ None
Created other after = ⊥

abbrev pub Creates : ℤ → (before after : Option Session) → Type 0
Creates result None after = IsSomeAnd (code_at result) (λ code. Created code after)
Creates result (Some old) after = (result ≡ number_of answer.Held) × (after ≡ Some old)

-- A call that is an event: the code is answered when it may be, the machine takes the event where it is OK, and else it stays as it is. What commands were told and the
-- bytes of the result that was taken last stay in each case.
pub record Steps (when : Type 0) (event : Event Keeping) (code : Code) (old new : Session) : Type 0 where
  pub answered : when
  pub ok : code ≡ answer.Ok → new.handle.machine ≡ step old.handle.machine event
  pub refused : code ≢ answer.Ok → new.handle.machine ≡ old.handle.machine
  pub told : new.told ≡ old.told
  pub taken : new.taken ≡ old.taken

-- An event in which callbacks may be called, as they keep what they are told; the bytes of the result that was taken last stay.
abbrev pub Ends : (List Answer → Event Keeping) → (old new : Session) → Type 0
Ends event old new = Answered (OneByOne Keeps) event old.handle.machine new.handle.machine old.told new.told × (new.taken ≡ old.taken)

-- Bytes came, and so many of them were taken: all where the answer is OK. Else, where none may come, nothing has changed.
pub record Arrives (bytes : List ℕ) (taken : ℕ) (code : Code) (old new : Session) : Type 0 where
  pub answered : TakesBytes (known old) code
  pub all : code ≡ answer.Ok → taken ≡ length bytes
  pub within : taken ≤ length bytes
  pub arrived : code ≢ answer.BadState → Ends (Arrived (take taken bytes)) old new
  pub refused : code ≡ answer.BadState → new ≡ old

-- What is told in a place of C's: with OK this value, else this code.
abbrev pub Outs : {A : Type 0} → Result A Code → Code → A → Type 0
Outs (Ok value) code told = (code ≡ answer.Ok) × (told ≡ value)
Outs (Err fault) code told = code ≡ fault

-- The same in several places.
abbrev pub OutsOf : {A : Type 0} → Result A Code → Code → (A → Type 0) → Type 0
OutsOf (Ok value) code tells = (code ≡ answer.Ok) × tells value
OutsOf (Err fault) code tells = code ≡ fault

-- And the session stays as it is.
abbrev pub Gets : {A : Type 0} → (old new : Session) → Result A Code → Code → (A → Type 0) → Type 0
Gets old new value code tells = (new ≡ old) × OutsOf value code tells

-- Bytes are lent, of which C is told the length.
abbrev pub Lends : Result (List ℕ) Code → Code → ℕ → Type 0
Lends (Ok bytes) code len = (code ≡ answer.Ok) × (len ≡ length bytes)
Lends (Err fault) code len = code ≡ fault

-- A command is issued, or not, and the bytes of the result that was taken last stay.
abbrev pub Issues : Command Keeping → Code → ℕ → (old new : Session) → Type 0
Issues command code cookie old new = Issuing command code cookie old.handle.machine new.handle.machine × (new.taken ≡ old.taken)

-- The same of a read; more than 32 MiB are refused whatever the state.
pub record IssuesRead (count : ℕ) (command : Command Keeping) (code : Code) (cookie : ℕ) (old new : Session) : Type 0 where
  pub too_big : max_data < count → (code ≡ answer.BadRequest) × (new.handle.machine ≡ old.handle.machine)
  pub issues : count ≤ max_data → Issues command code cookie old new

-- The result of a command is told as the handle tells it: its error, and its bytes, which then stand in the session.
abbrev pub Told : Completed → Code → (error len : ℕ) → (old new : List ℕ) → Type 0
Told (Done bytes) code error len old new = (code ≡ answer.Ok) × (error ≡ 0) × (len ≡ length bytes) × (new ≡ bytes)
Told (Failed number bytes) code error len old new = (code ≡ answer.Ok) × (error ≡ number) × (len ≡ length bytes) × (new ≡ bytes)
Told NotYet code error len old new = (code ≡ answer.NotYet) × (new ≡ old)
Told NoSuchCookie code error len old new = (code ≡ answer.NoCookie) × (new ≡ old)

pub record Completes (completed : Completed) (cookie : ℕ) (code : Code) (error len : ℕ) (old new : Session) : Type 0 where
  pub told : Told completed code error len old.taken new.taken
  pub machine : new.handle.machine ≡ step (completing completed cookie old.handle.machine) ClearLog
  pub kept : new.told ≡ old.told

-- What is told is dropped in part, and nothing else is changed.
abbrev pub Clears : (old new : Session) → Type 0
Clears old new = (new.handle ≡ old.handle) × (new.taken ≡ old.taken)

-- Of what is told in several places, each part in its own.

abbrev pub TellsDeath : (kind detail : ℕ) → Death → Type 0
TellsDeath kind detail death = (kind ≡ death.kind) × (detail ≡ death.detail)

abbrev pub TellsBlocks : (minimum preferred maximum : ℕ) → Blocks → Type 0
TellsBlocks minimum preferred maximum blocks = (minimum ≡ blocks.minimum) × (preferred ≡ blocks.preferred) × (maximum ≡ blocks.maximum)

abbrev pub TellsAgreed : (structured extended : ℕ) → Agreed → Type 0
TellsAgreed structured extended agreed = (structured ≡ agreed.structured) × (extended ≡ agreed.extended)

abbrev pub TellsContext : (id len : ℕ) → Context → Type 0
TellsContext id len context = (id ≡ context.id) × (len ≡ length context.name)

abbrev pub TellsListed : (name_len description_len : ℕ) → Listed → Type 0
TellsListed name_len description_len listed = (name_len ≡ length listed.name) × (description_len ≡ length listed.description)

abbrev pub TellsRefusal : (option code : ℕ) → Refusal → Type 0
TellsRefusal option code refusal = (option ≡ refusal.option) × (code ≡ refusal.code)

abbrev pub TellsFailure : (error origin : ℕ) → Failure → Type 0
TellsFailure error origin failure = (error ≡ failure.error) × (origin ≡ origin_number failure.origin)

abbrev pub TellsExtents : (cookie n offset error count : ℕ) → ToldExtents → Type 0
TellsExtents cookie n offset error count told =
    (cookie ≡ told.cookie) × (n ≡ length told.context) × (offset ≡ told.offset) × (error ≡ told.error) × (count ≡ length told.extents)

abbrev pub TellsExtent : (size flags : ℕ) → Extent → Type 0
TellsExtent size flags extent = (size ≡ extent.length) × (flags ≡ extent.flags)

abbrev pub TellsChunk : (cookie offset size status error : ℕ) → ToldChunk → Type 0
TellsChunk cookie offset size status error told =
    (cookie ≡ told.cookie) × (offset ≡ told.offset) × (size ≡ told.length) × (status ≡ told.status) × (error ≡ told.error)

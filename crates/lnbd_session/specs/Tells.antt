-- What a session tells, as functions of what the handle knows.
use Rattle.std.specs.Prelude.{◌≡◌, ℕ, Bool, ℤ, pos, List, Option, Some, None, Result, Ok, Err, slice_get, if◌then◌else◌, ◌==◌}
use Rattle.lnbd_model.specs.Breach.{number_of}
use Rattle.lnbd_model.specs.declared.export.Blocks.{Blocks}
use Rattle.lnbd_model.specs.declared.export.Context.{Context}
use Rattle.lnbd_model.specs.declared.export.ExportInfo.{ExportInfo}
use Rattle.lnbd_model.specs.declared.export.Extent.{Extent}
use Rattle.lnbd_model.specs.declared.export.Listed.{Listed}
use Rattle.lnbd_model.specs.declared.failure.Failure.{Failure}
use Rattle.lnbd_model.specs.declared.failure.Origin.{Origin}
use Rattle.lnbd_model.specs.declared.failure.Origin.TheVariants as origin
use Rattle.lnbd_model.specs.declared.state.Cause.TheVariants as cause
use Rattle.lnbd_model.specs.declared.state.State.{State}
use Rattle.lnbd_model.specs.declared.state.State.TheVariants as state
use Rattle.lnbd_history.specs.declared.kinds.Completed.{Completed}
use Rattle.lnbd_history.specs.declared.kinds.Completed.TheVariants as completed
use Rattle.lnbd_history.specs.declared.kinds.OptAnswer.{OptAnswer}
use Rattle.lnbd_history.specs.declared.kinds.OptAnswer.TheVariants as answer
use Rattle.lnbd_history.specs.declared.kinds.Peeked.{Peeked}
use Rattle.lnbd_history.specs.declared.kinds.Peeked.TheVariants as peeked
use Rattle.lnbd_session.specs.declared.code.Code.{Code}
use Rattle.lnbd_session.specs.declared.code.Code.TheVariants.{BadState, NoCookie, NotYet, TooMany, Unsupported}
use Rattle.lnbd_session.specs.declared.keeping.Told.{Told}
use Rattle.lnbd_session.specs.declared.keeping.ToldChunk.{ToldChunk}
use Rattle.lnbd_session.specs.declared.keeping.ToldExtents.{ToldExtents}
use Rattle.lnbd_session.specs.declared.telling.Agreed.{Agreed}
use Rattle.lnbd_session.specs.declared.telling.Death.{Death}
use Rattle.lnbd_session.specs.declared.telling.Refusal.{Refusal}

-- a state's number
abbrev pub state_number : State → ℤ
state_number state.Created = pos 0
state_number state.Negotiating = pos 1
state_number state.OptMode = pos 2
state_number state.Ready = pos 3
state_number state.Closing = pos 4
state_number state.Closed = pos 5
state_number (state.Dead cause) = pos 6

-- a direction's number: 0 for nothing, 1 for reading, 3 for both
abbrev pub direction_number : ℕ → ℤ
direction_number n = if n == 0 then pos 0 else if n == 3 then pos 3 else pos 1

-- why a connection in this state is gone
abbrev pub death_told : State → Result Death Code
death_told (state.Dead (cause.Broke breach)) = Ok (record { kind = 0; detail = number_of breach })
death_told (state.Dead (cause.Refused option code)) = Ok (record { kind = 1; detail = code })
death_told (state.Dead cause.Ended) = Ok (record { kind = 2; detail = 0 })
death_told (state.Dead cause.LinkFailed) = Ok (record { kind = 3; detail = 0 })
death_told other = Err BadState

-- Of an export: nothing is told in other states, and a server may leave some of it out.

abbrev pub size_told : Option ExportInfo → Result ℕ Code
size_told None = Err BadState
size_told (Some info) = Ok info.size

abbrev pub flags_told : Option ExportInfo → Result ℕ Code
flags_told None = Err BadState
flags_told (Some info) = Ok info.flags

abbrev pub offered : {A : Type 0} → Option A → Result A Code
offered None = Err Unsupported
offered (Some value) = Ok value

abbrev pub blocks_told : Option ExportInfo → Result Blocks Code
blocks_told None = Err BadState
blocks_told (Some info) = offered info.blocks

abbrev pub one_if : Bool → ℕ
one_if on = if on then 1 else 0

abbrev pub agreed_told : Option ExportInfo → Result Agreed Code
agreed_told None = Err BadState
agreed_told (Some info) = Ok (record { structured = one_if info.structured; extended = one_if info.extended })

abbrev pub name_told : Option ExportInfo → Result (List ℕ) Code
name_told None = Err BadState
name_told (Some info) = offered info.name

abbrev pub description_told : Option ExportInfo → Result (List ℕ) Code
description_told None = Err BadState
description_told (Some info) = offered info.description

-- what stands at an index of a list
abbrev pub within : {A : Type 0} → Option A → Result A Code
within None = Err TooMany
within (Some value) = Ok value

abbrev pub context_told : ℕ → Option ExportInfo → Result Context Code
context_told index None = Err BadState
context_told index (Some info) = within (slice_get info.contexts index)

abbrev pub listed_told : ℕ → List Listed → Result Listed Code
listed_told index all = within (slice_get all index)

-- the last answer to an option
abbrev pub answer_told : Option OptAnswer → Result Refusal Code
answer_told None = Err NotYet
answer_told (Some answer.Ok) = Ok (record { option = 0; code = 0 })
answer_told (Some (answer.Refused option code)) = Ok (record { option = option; code = code })

-- the command that completed first
abbrev pub next_done : Peeked → Result ℕ Code
next_done (peeked.Cookie cookie) = Ok cookie
next_done peeked.NoneDone = Err NotYet
next_done peeked.NoneLeft = Err NoCookie

-- why a completed command failed
abbrev pub failure_told : Option Failure → Result Failure Code
failure_told None = Err NoCookie
failure_told (Some failure) = Ok failure

-- A result is told with its error, and its bytes are then those that were taken last; else these stay.
abbrev pub Takes : Completed → Result ℕ Code → (before after : List ℕ) → Type 0
Takes (completed.Done bytes) told before after = (told ≡ Ok 0) × (after ≡ bytes)
Takes (completed.Failed error bytes) told before after = (told ≡ Ok error) × (after ≡ bytes)
Takes completed.NotYet told before after = (told ≡ Err NotYet) × (after ≡ before)
Takes completed.NoSuchCookie told before after = (told ≡ Err NoCookie) × (after ≡ before)

-- Of what was kept.

abbrev pub extents_told : ℕ → Told → Result ToldExtents Code
extents_told index told = within (slice_get told.extents.items index)

abbrev pub extent_within : Option ToldExtents → ℕ → Result Extent Code
extent_within None place = Err TooMany
extent_within (Some told) place = within (slice_get told.extents place)

abbrev pub extent_told : (index place : ℕ) → Told → Result Extent Code
extent_told index place told = extent_within (slice_get told.extents.items index) place

abbrev pub chunk_told : ℕ → Told → Result ToldChunk Code
chunk_told index told = within (slice_get told.chunks.items index)

-- where an error came from
abbrev pub origin_number : Origin → ℕ
origin_number origin.Told = 1
origin_number origin.Content = 2
origin_number origin.Callback = 3
origin_number origin.Lost = 4

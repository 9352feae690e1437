-- Words on the code's own steps towards a map.
use Rattle.std.specs.Prelude.{◌≡◌, ◌<◌, ◌≤◌, ◌*◌, ◌⊎◌, ℕ, Bool, true, List, [], ◌∷◌, ◌++◌, Option, Some, None, Result, Ok, Err}
use Rattle.lnbd_model.specs.declared.export.ExportInfo.{ExportInfo}
use Rattle.lnbd_model.specs.declared.export.Extent.{Extent}
use Rattle.lnbd_model.specs.declared.refusal.Why.{Why}
use Rattle.lnbd_model.specs.declared.state.State.{State}
use Rattle.lnbd_model.specs.declared.state.State.TheVariants as state
use Rattle.lnbd_extents.specs.Lists.{with_extent}
use Rattle.lnbd_history.specs.Answers.{state_after}
use Rattle.lnbd_info.specs.Map.{IsMapOf, size_end}
use Rattle.lnbd_link.specs.Call as wire
use Rattle.lnbd_link.specs.Part.{Grows}
use Rattle.lnbd_poll.specs.Seen.{Seen}
use Rattle.lnbd_poll.specs.Turns.{Blames}
use Rattle.lnbd_ask.specs.declared.asking.Plan.{Plan}
use Rattle.lnbd_waits.specs.declared.waiting.Halt.{Halt}
use Rattle.lnbd_ask.specs.declared.fault.InfoFault.{InfoFault}
use Rattle.lnbd_ask.specs.declared.stops.Stop.{Stop}
use Rattle.lnbd_ask.specs.declared.stops.Stop.TheVariants as stop
use Rattle.lnbd_ask.specs.declared.survey.Surveyor.{Surveyor}
use Rattle.lnbd_ask.specs.Asks.{IsGoing, begins}
use Rattle.lnbd_ask.specs.Maps.{Answers, AreAsked, Asked, Discusses, Inquires, IsMapTold, Learned, Learns, Lesson, Maps, Stopped, Stops, TellsMap, block_of, is_no_context, length_at, max_asked, refused, stop_of, told_by, whole_of}
use Rattle.lnbd_link.specs.Call.{Connect}
use Rattle.lnbd_model.specs.declared.target.Place.{Place}

-- these extents and then those, each of which is joined to the one before where that has its flags
abbrev pub with_all : List Extent → List Extent → List Extent
with_all map [] = map
with_all map (extent ∷ extents) = with_all (with_extent map extent) extents

-- what is to be asked of an export
abbrev pub plan_of : ExportInfo → Plan
plan_of info = record { block = block_of info; whole = whole_of (block_of info) info.size; size = info.size }

abbrev pub planned : Result ExportInfo Stop → Result Plan Stop
planned (Ok info) = Ok (plan_of info)
planned (Err why) = Err why

-- a plan of some whole blocks, which may be asked for at once
pub record IsFit (plan : Plan) : Type 0 where
  pub some : 0 < plan.block
  pub few : plan.block ≤ max_asked
  pub blocks : (n : ℕ) × (plan.whole ≡ n * plan.block)
  pub part : plan.whole ≤ plan.size
  pub small : plan.size < size_end

-- a request that was not issued: memory ran out, or it was refused
abbrev pub IsNotIssued : (offset length : ℕ) → (before after : Seen Surveyor) → Type 0
IsNotIssued offset length before after = (after ≡ before) ⊎ ((reason : Why) × (after ≡ refused offset length reason before))

-- One range is asked for: it is answered and told this, or the asking stops.
abbrev pub Asks : (context : List ℕ) → (offset length : ℕ) → (told : List Extent) → Result (Unit {0}) Stop → Seen Surveyor → List wire.Call → Seen Surveyor → Type 0
Asks context offset length told (Ok done) before calls after =
    (error : ℕ) × Answers context (record { offset = offset; length = length; told = told }) error before calls after × (stop_of (state_after after.history) error ≡ None)
Asks context offset length told (Err why) before calls after = (whole : ℕ) → offset < whole → length ≡ length_at whole offset → Stops context whole offset why before calls after

-- So it went, and a call that failed raised the count of faults.
pub record AsksOne (context : List ℕ) (offset length : ℕ) (told : List Extent) (faults faults' : ℕ) (end : Result (Unit {0}) Stop) (before : Seen Surveyor) (calls : List wire.Call) (after : Seen Surveyor) : Type 0 where
  pub asks : Asks context offset length told end before calls after
  pub blames : Blames calls faults faults'

-- all ranges are asked for, and this is the map so far
pub record AsksAll (context : List ℕ) (block whole : ℕ) (map : List Extent) (before : Seen Surveyor) (calls : List wire.Call) (after : Seen Surveyor) : Type 0 where
  pub all : List Asked
  pub inquires : Inquires context all before calls after
  pub asked : AreAsked block whole 0 all whole
  pub counts : IsMapOf (told_by block all) map

-- some ranges are asked for, and then the asking stops
pub record AsksSome (context : List ℕ) (block whole : ℕ) (why : Stop) (before : Seen Surveyor) (calls : List wire.Call) (after : Seen Surveyor) : Type 0 where
  pub all : List Asked
  pub to : ℕ
  pub own : List wire.Call
  pub last : Seen Surveyor
  pub more : List wire.Call
  pub inquires : Inquires context all before own last
  pub asked : AreAsked block whole 0 all to
  pub stops : Stops context whole to why last more after
  pub calls_are : calls ≡ own ++ more

abbrev pub AsksOn : (context : List ℕ) → (block whole : ℕ) → (map : List Extent) → Result (Unit {0}) Stop → Seen Surveyor → List wire.Call → Seen Surveyor → Type 0
AsksOn context block whole map (Ok done) before calls after = AsksAll context block whole map before calls after
AsksOn context block whole map (Err why) before calls after = AsksSome context block whole why before calls after

pub record Inquired (context : List ℕ) (block whole : ℕ) (map : List Extent) (faults faults' : ℕ) (end : Result (Unit {0}) Stop) (before : Seen Surveyor) (calls : List wire.Call) (after : Seen Surveyor) : Type 0 where
  pub asks : AsksOn context block whole map end before calls after
  pub blames : Blames calls faults faults'

-- what came of the asking, as the code has it
abbrev pub IsLesson : Lesson → Result (Unit {0}) Stop → (map : List Extent) → Type 0
IsLesson (Learned info all) (Ok done) map = IsMapTold (block_of info) info.size all map
IsLesson (Learned info all) (Err why) map = ⊥
IsLesson (Stopped why) (Ok done) map = ⊥
IsLesson (Stopped why) (Err told) map = why ≡ told

pub record Taught (context : List ℕ) (map : List Extent) (faults faults' : ℕ) (end : Result (Unit {0}) Stop) (before : Seen Surveyor) (calls : List wire.Call) (after : Seen Surveyor) : Type 0 where
  pub lesson : Lesson
  pub learns : Learns context before calls after lesson
  pub is : IsLesson lesson end map
  pub blames : Blames calls faults faults'

pub record Discussed (context : List ℕ) (map : List Extent) (faults faults' : ℕ) (end : Result (Unit {0}) Stop) (before : Seen Surveyor) (calls : List wire.Call) (after : Seen Surveyor) : Type 0 where
  pub lesson : Lesson
  pub discusses : Discusses context before calls after lesson
  pub is : IsLesson lesson end map
  pub blames : Blames calls faults faults'

-- whether the end is asked for, and what comes of it, as the code has it
abbrev pub is_end_parting : Result (Unit {0}) Stop → Bool
is_end_parting (Ok done) = true
is_end_parting (Err why) = is_no_context why

abbrev pub end_at : State → Result (Unit {0}) Stop
end_at (state.Dead cause) = Err (stop.Died cause)
end_at state.Created = Ok tt
end_at state.Negotiating = Ok tt
end_at state.OptMode = Ok tt
end_at state.Ready = Ok tt
end_at state.Closing = Ok tt
end_at state.Closed = Ok tt

abbrev pub end_of : Result (Unit {0}) Stop → Result (Unit {0}) Halt → State → Result (Unit {0}) Stop
end_of (Err why) written state = Err why
end_of (Ok done) (Err why) state = Err (stop.Halted why)
end_of (Ok done) (Ok written) state = end_at state

-- The conversation on a link that was had, and what is told of it.
pub record Talked_over (link : ℕ) (place : Place) (context : List ℕ) (told told' : Option (List wire.Call)) (answer : Result (List Extent) InfoFault) : Type 0 where
  pub calls : List wire.Call
  pub after : Seen Surveyor
  pub lesson : Lesson
  pub grown : Grows told told' calls
  pub discusses : Discusses context (begins link place.name context) calls after lesson
  pub going : IsGoing after.history
  pub tells : TellsMap lesson answer

-- what follows the connect that gave this link
pub record MappedOn (link : ℕ) (place : Place) (context : List ℕ) (told told' : Option (List wire.Call)) (answer : Result (List Extent) InfoFault) : Type 0 where
  pub calls : List wire.Call
  pub grown : Grows told told' calls
  pub maps : Maps place context (Connect place.to (Some link) ∷ calls) answer

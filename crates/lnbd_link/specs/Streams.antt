-- A source and a sink in memory: what they hold, what they answer, and what they hold afterwards.
use Rattle.std.specs.Prelude.{ℕ, ◌-◌, ◌==◌, if◌then◌else◌, List, ◌++◌, length, take, drop, min, Option}
use Rattle.lnbd_link.specs.declared.sink.SinkTook.{SinkTook}
use Rattle.lnbd_link.specs.declared.sink.SinkTook.TheVariants as sink
use Rattle.lnbd_link.specs.declared.source.SourceGot.{SourceGot}
use Rattle.lnbd_link.specs.declared.source.SourceGot.TheVariants as source
use Rattle.lnbd_link.specs.Count.{raised_by}
use Rattle.lnbd_link.specs.FailAt.{is_call}

-- the bytes taken, the room for more, the number of the call that fails, if any, and how many calls and faults there were
pub record SinkState : Type 0 where
  pub taken : List ℕ
  pub room : ℕ
  pub fail_at : Option ℕ
  pub calls : ℕ
  pub faults : ℕ

-- how many of so many bytes the sink takes: as many as fit, and none in the call that fails
abbrev pub sink_count : SinkState → ℕ → ℕ
sink_count s offered = if is_call s.fail_at s.calls then 0 else min offered s.room

-- a sink that takes nothing fails
abbrev pub sink_answer : SinkState → ℕ → SinkTook
sink_answer s offered = if sink_count s offered == 0 then sink.Failed else sink.Bytes (sink_count s offered)

-- after a write of these bytes
abbrev pub sink_after : SinkState → List ℕ → SinkState
sink_after s from = record {
  taken = s.taken ++ take (sink_count s (length from)) from;
  room = s.room - sink_count s (length from);
  fail_at = s.fail_at;
  calls = raised_by 1 s.calls;
  faults = if sink_count s (length from) == 0 then raised_by 1 s.faults else s.faults;
}

-- the bytes left, the number of the call that fails, if any, and how many calls and faults there were
pub record SourceState : Type 0 where
  pub left : List ℕ
  pub fail_at : Option ℕ
  pub calls : ℕ
  pub faults : ℕ

-- how many bytes a read of so many at most gives: as many as are left and fit, and none in the call that fails
abbrev pub source_count : SourceState → ℕ → ℕ
source_count s room = if is_call s.fail_at s.calls then 0 else min (length s.left) room

-- Failed in the call that fails; else the bytes, and where none is left End
abbrev pub source_answer : SourceState → ℕ → SourceGot
source_answer s room = if is_call s.fail_at s.calls then source.Failed else if source_count s room == 0 then source.End else source.Bytes (source_count s room)

-- after a read of so many bytes at most
abbrev pub source_after : SourceState → ℕ → SourceState
source_after s room = record {
  left = drop (source_count s room) s.left;
  fail_at = s.fail_at;
  calls = raised_by 1 s.calls;
  faults = if is_call s.fail_at s.calls then raised_by 1 s.faults else s.faults;
}

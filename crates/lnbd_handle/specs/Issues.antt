-- What a command that is issued or refused does, and by what it is judged.
use Rattle.std.specs.Prelude.{◌≡◌, ℕ, ◌==◌, not, List, [], length, Option, Some, None, if◌then◌else◌, nat_le}
use Rattle.lnbd_model.specs.declared.kind.Kind.{Kind}
use Rattle.lnbd_model.specs.declared.kind.Kind.TheVariants.{Read, Write, Flush, Trim, Cache, Zero, BlockStatus}
use Rattle.lnbd_model.specs.declared.refusal.Why.{Why}
use Rattle.lnbd_model.specs.declared.refusal.Why.TheVariants as why
use Rattle.lnbd_model.specs.Kind.{has_range}
use Rattle.lnbd_callbacks.specs.Calls.{Call}
use Rattle.lnbd_history.specs.Commands.{Command}
use Rattle.lnbd_history.specs.Events.{History, Refuse}
use Rattle.lnbd_history.specs.Refusals.{Terms, refuse, bad_flags, by_range, lack_now, unsupported}
use Rattle.lnbd_machine.specs.Machine.{Machine}
use Rattle.lnbd_machine.specs.Does.{Does}
use Rattle.lnbd_machine.specs.Now.{refusal_now}
use Rattle.lnbd_handle.specs.declared.issue.IssueFault.{IssueFault}
use Rattle.lnbd_handle.specs.declared.issue.IssueFault.TheVariants.{NoMemory, Refused}
use Rattle.lnbd_handle.specs.declared.refusals.Terms.{Terms as Judged}
use Rattle.lnbd_handle.specs.Histories.{AddsFault, max_unretired}

-- the terms by which a command is judged
abbrev pub seen_terms : Judged → Terms
seen_terms terms = record {
  state = terms.state;
  held = terms.held;
  size = terms.size;
  flags = terms.flags;
  blocks = terms.blocks;
  has_context = terms.has_context;
  structured = terms.structured;
  extended = terms.extended;
  strict = terms.strict;
}

-- the rules from that on the flags on
abbrev pub by_flags : Terms → Kind → (flags offset length : ℕ) → Option Why
by_flags terms kind flags offset length =
    refuse (not (bad_flags terms kind flags == 0)) (why.BadFlags (bad_flags terms kind flags)) (if has_range kind then by_range terms kind offset length else None)

-- all rules but those on the state
abbrev pub by_rules : Terms → Kind → (flags offset length : ℕ) → Option Why
by_rules terms kind flags offset length =
    refuse (nat_le max_unretired terms.held) (why.TooMany max_unretired) (unsupported (lack_now terms kind) (by_flags terms kind flags offset length))

module _ {K : Type 0} where
  -- a read into so many bytes, or a write of them
  abbrev pub with_bytes : Kind → List ℕ → (offset : ℕ) → Option K → K → (flags : ℕ) → Command K
  with_bytes kind bytes offset first done flags =
      record { kind = kind; flags = flags; offset = offset; length = length bytes; payload = bytes; first = first; done = done }

  -- a read
  abbrev pub read_of : List ℕ → (offset : ℕ) → K → (flags : ℕ) → Command K
  read_of bytes offset done flags = with_bytes Read bytes offset None done flags

  -- a read with a chunk callback
  abbrev pub structured_read_of : List ℕ → (offset : ℕ) → (chunk done : K) → (flags : ℕ) → Command K
  structured_read_of bytes offset chunk done flags = with_bytes Read bytes offset (Some chunk) done flags

  -- a write
  abbrev pub write_of : List ℕ → (offset : ℕ) → K → (flags : ℕ) → Command K
  write_of bytes offset done flags = with_bytes Write bytes offset None done flags

  -- a command over a range, without bytes
  abbrev pub range_of : Kind → (length offset : ℕ) → Option K → K → (flags : ℕ) → Command K
  range_of kind length offset first done flags =
      record { kind = kind; flags = flags; offset = offset; length = length; payload = []; first = first; done = done }

  -- a flush, which has no range
  abbrev pub flush_of : K → (flags : ℕ) → Command K
  flush_of done flags = range_of Flush 0 0 None done flags

  -- a trim, the writing of zeroes, and the reading ahead of a range
  abbrev pub trim_of : (length offset : ℕ) → K → (flags : ℕ) → Command K
  trim_of length offset done flags = range_of Trim length offset None done flags

  abbrev pub zero_of : (length offset : ℕ) → K → (flags : ℕ) → Command K
  zero_of length offset done flags = range_of Zero length offset None done flags

  abbrev pub cache_of : (length offset : ℕ) → K → (flags : ℕ) → Command K
  cache_of length offset done flags = range_of Cache length offset None done flags

  -- a block status, with its extents callback
  abbrev pub block_status_of : (length offset : ℕ) → (extents done : K) → (flags : ℕ) → Command K
  block_status_of length offset extents done flags = range_of BlockStatus length offset (Some extents) done flags

  -- What stands after a fault: all is handed back and nothing has changed; or the command was refused, its callbacks were
  -- admitted and freed, and its buffer is handed back.
  abbrev pub Faults : {World : Type 0} → (World → List (Call K) → World → Type 0) → Command K → IssueFault K → (old new : Machine K) → (before after : World) → Type 0
  Faults steps command (NoMemory buf first done) old new before after = (buf ≡ command.payload) × (first ≡ command.first) × (done ≡ command.done) × (new ≡ old) × (after ≡ before)
  Faults steps command (Refused why buf) old new before after = (refusal_now max_unretired old.known command ≡ Some why) × (buf ≡ command.payload) × Does steps (Refuse command why) old new before after

  -- A read of so many bytes that has no buffer yet.
  module _ {World : Type 0} (steps : World → List (Call K) → World → Type 0) where
    -- whatever the bytes would have been, it is refused for this reason
    abbrev pub RefusesUnread : (count offset : ℕ) → Option K → K → (flags : ℕ) → Why → (old new : Machine K) → (before after : World) → Type 0
    RefusesUnread count offset first done flags why old new before after =
        (bytes : List ℕ) → length bytes ≡ count →
        (refusal_now max_unretired old.known (with_bytes Read bytes offset first done flags) ≡ Some why) ×
        Does steps (Refuse (with_bytes Read bytes offset first done flags) why) old new before after

    -- What stands after its fault: the same as after that of a read with a buffer, but that none comes back.
    abbrev pub FaultsUnread : (count offset : ℕ) → Option K → K → (flags : ℕ) → IssueFault K → (old new : Machine K) → (before after : World) → Type 0
    FaultsUnread count offset first done flags (NoMemory buf first_back done_back) old new before after =
        (buf ≡ []) × (first_back ≡ first) × (done_back ≡ done) × (new ≡ old) × (after ≡ before)
    FaultsUnread count offset first done flags (Refused why buf) old new before after =
        (buf ≡ []) × RefusesUnread count offset first done flags why old new before after

    -- So a history has a read more that was refused, or nothing has happened.
    abbrev pub AddsUnread : (count offset : ℕ) → Option K → K → (flags : ℕ) → IssueFault K → (new : Machine K) → (before after : World) → History K → Type 0
    AddsUnread count offset first done flags fault new before after history =
        (bytes : List ℕ) → length bytes ≡ count → AddsFault steps (with_bytes Read bytes offset first done flags) fault new before after history

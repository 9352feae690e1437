-- What a request asks of an export, the error with which it is refused, what it does, and what its reply tells: the protocol's
-- "Request types" and "Error values".
use Rattle.std.specs.Prelude.{ℕ, ◌+◌, ◌-◌, Bool, true, false, not, ◌&&◌, ◌||◌, List, take, drop, Option, Some, None, if◌then◌else◌, ◌==◌, nat_lt, bit_and}
use Rattle.lnbd_model.specs.Kind.{has_range}
use Rattle.lnbd_model.specs.declared.export.Extent.{Extent}
use Rattle.lnbd_model.specs.declared.kind.Kind.{Kind}
use Rattle.lnbd_model.specs.declared.kind.Kind.TheVariants.{Read, Write, Flush, Trim, Cache, Zero, BlockStatus}
use Rattle.lnbd_model.specs.declared.errors.TheConstants.{EPERM, EINVAL, ENOSPC}
use Rattle.lnbd_records.specs.Flags.{cmd_flag_fua, cmd_flag_no_hole, cmd_flag_df, cmd_flag_req_one, cmd_flag_payload_len}
use Rattle.lnbd_records.specs.Limits.{max_data, max_descriptors}
use Rattle.lnbd_records.specs.Numbers.{has_bit}
use Rattle.lnbd_export.specs.declared.request.Replies.{Replies}
use Rattle.lnbd_export.specs.declared.request.Replies.TheVariants.{Simple, Structured, Extended}
use Rattle.lnbd_export.specs.declared.request.Agreed.{Agreed}
use Rattle.lnbd_export.specs.declared.request.Request.{Request}
use Rattle.lnbd_export.specs.Export.{Export, size, written, zeroed}
use Rattle.lnbd_export.specs.Statuses.{statuses}

-- Which flags a command may have: those that the server offers, and what the protocol says of the command.

abbrev pub is_structured : Replies → Bool
is_structured Simple = false
is_structured Structured = true
is_structured Extended = true

abbrev pub is_extended : Replies → Bool
is_extended Simple = false
is_extended Structured = false
is_extended Extended = true

abbrev pub flag_if : Bool → ℕ → ℕ
flag_if on flag = if on then flag else 0

-- DF for a read under structured replies; FUA for what changes the export; NO_HOLE for WRITE_ZEROES; REQ_ONE for a block status; with
-- extended headers a write's flags say that its data follows.
abbrev pub allowed : Replies → Kind → ℕ
allowed replies Read = flag_if (is_structured replies) cmd_flag_df
allowed replies Write = cmd_flag_fua + flag_if (is_extended replies) cmd_flag_payload_len
allowed replies Flush = 0
allowed replies Trim = cmd_flag_fua
allowed replies Cache = 0
allowed replies Zero = cmd_flag_fua + cmd_flag_no_hole
allowed replies BlockStatus = cmd_flag_req_one

-- a flag outside those
abbrev pub has_other_flags : Replies → Kind → ℕ → Bool
has_other_flags replies kind flags = not (flags - bit_and flags (allowed replies kind) == 0)

-- a read of more than may be asked at once, and a block status of nothing or without an agreed meta context
abbrev pub is_unfit : Agreed → Kind → (length : ℕ) → Bool
is_unfit agreed Read n = nat_lt max_data n
is_unfit agreed Write n = false
is_unfit agreed Flush n = false
is_unfit agreed Trim n = false
is_unfit agreed Cache n = false
is_unfit agreed Zero n = false
is_unfit agreed BlockStatus n = (n == 0) || not agreed.allocation

abbrev pub is_change : Kind → Bool
is_change Read = false
is_change Write = true
is_change Flush = false
is_change Trim = true
is_change Cache = false
is_change Zero = true
is_change BlockStatus = false

-- the error of a range that isn't in the export: ENOSPC where bytes would be put there
abbrev pub range_error : Kind → ℕ
range_error Read = EINVAL
range_error Write = ENOSPC
range_error Flush = EINVAL
range_error Trim = EINVAL
range_error Cache = EINVAL
range_error Zero = ENOSPC
range_error BlockStatus = EINVAL

abbrev pub is_outside : Export → (offset length : ℕ) → Bool
is_outside export offset n = nat_lt (size export) (offset + n)

-- The error with which a request is refused: the first of these.
abbrev pub refusal_of : Agreed → Export → Request → Kind → Option ℕ
refusal_of agreed export request kind =
    if has_other_flags agreed.replies kind request.flags || is_unfit agreed kind request.length then Some EINVAL
    else if is_change kind && export.read_only then Some EPERM
    else if has_range kind && is_outside export request.offset request.length then Some (range_error kind)
    else None

abbrev pub refusal_at : Agreed → Export → Request → Option Kind → Option ℕ
refusal_at agreed export request None = Some EINVAL
refusal_at agreed export request (Some kind) = refusal_of agreed export request kind

abbrev pub refusal : Agreed → Export → Request → Option ℕ
refusal agreed export request = refusal_at agreed export request request.kind

-- What a request does to the export, with a write's data.

abbrev pub done : Option Kind → Request → List ℕ → Export → Export
done None request payload export = export
done (Some Read) request payload export = export
done (Some Write) request payload export = written request.offset payload export
done (Some Flush) request payload export = export
done (Some Trim) request payload export = zeroed request.offset request.length export
done (Some Cache) request payload export = export
done (Some Zero) request payload export = zeroed request.offset request.length export
done (Some BlockStatus) request payload export = export

abbrev pub unless : {A : Type 0} → Option ℕ → A → A → A
unless None done stays = done
unless (Some error) done stays = stays

-- A request that is refused changes nothing.
abbrev pub effect : Agreed → Request → List ℕ → Export → Export
effect agreed request payload export = unless (refusal agreed export request) (done request.kind request payload export) export

-- What its reply tells, where it is made over this export.

pub data Reply : Type 0 where
  Refused : (error : ℕ) → Reply
  Done : Reply
  Content : (bytes : List ℕ) → Reply
  Status : (descriptors : List Extent) → Reply

-- how many descriptors are told at most
abbrev pub most : (flags : ℕ) → ℕ
most flags = if has_bit cmd_flag_req_one flags then 1 else max_descriptors

abbrev pub told : Option Kind → Request → Export → Reply
told None request export = Done
told (Some Read) request export = Content (take request.length (drop request.offset export.bytes))
told (Some Write) request export = Done
told (Some Flush) request export = Done
told (Some Trim) request export = Done
told (Some Cache) request export = Done
told (Some Zero) request export = Done
told (Some BlockStatus) request export = Status (take (most request.flags) (statuses (take request.length (drop request.offset export.zeros))))

abbrev pub refused_or : Option ℕ → Reply → Reply
refused_or None reply = reply
refused_or (Some error) reply = Refused error

abbrev pub reply : Agreed → Export → Request → Reply
reply agreed export request = refused_or (refusal agreed export request) (told request.kind request export)

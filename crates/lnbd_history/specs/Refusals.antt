-- Why a command is refused: by the first rule that holds.
use Rattle.std.specs.Prelude.{ℕ, ◌+◌, ◌-◌, ◌%◌, Bool, not, ◌&&◌, List, Option, Some, None, if◌then◌else◌, ◌==◌, nat_lt, nat_le, bit_and}
use Rattle.lnbd_model.specs.declared.export.Blocks.{Blocks}
use Rattle.lnbd_model.specs.declared.export.Context.{Context}
use Rattle.lnbd_model.specs.declared.kind.Kind.{Kind}
use Rattle.lnbd_model.specs.declared.kind.Kind.TheVariants.{Read, Write, Flush, Trim, Cache, Zero, BlockStatus}
use Rattle.lnbd_model.specs.declared.refusal.Lack.{Lack}
use Rattle.lnbd_model.specs.declared.refusal.Lack.TheVariants as lack
use Rattle.lnbd_model.specs.declared.refusal.Why.{Why}
use Rattle.lnbd_model.specs.declared.refusal.Why.TheVariants as why
use Rattle.lnbd_model.specs.declared.state.State.{State}
use Rattle.lnbd_model.specs.declared.state.State.TheVariants as state
use Rattle.lnbd_model.specs.Kind.{has_range}
use Rattle.lnbd_records.specs.Limits.{max_data, max_range, max_extended_range}
use Rattle.lnbd_records.specs.Numbers.{has_bit}
use Rattle.lnbd_records.specs.Flags.{cmd_flag_df, cmd_flag_fast_zero, cmd_flag_fua, cmd_flag_no_hole, cmd_flag_req_one, flag_read_only, flag_send_cache, flag_send_df, flag_send_fast_zero, flag_send_flush, flag_send_fua, flag_send_trim, flag_send_write_zeroes}
use Rattle.lnbd_history.specs.Strict.{strict_commands, strict_flags, strict_bounds, strict_zero_size, strict_align}
use Rattle.lnbd_history.specs.Agreement.{Export, is_empty, steps, export, contexts, structured, extended}
use Rattle.lnbd_history.specs.Commands.{Command}
use Rattle.lnbd_history.specs.Events.{History}
use Rattle.lnbd_history.specs.History.{reading, strict_mode}
use Rattle.lnbd_history.specs.Answers.{state_after, held_after}

-- All by which a command is judged.
pub record Terms : Type 0 where
  pub state : State
  -- how many commands are not retired
  pub held : ℕ
  -- what was told of the export
  pub size : ℕ
  pub flags : ℕ
  pub blocks : Option Blocks
  -- whether a meta context is agreed
  pub has_context : Bool
  pub structured : Bool
  pub extended : Bool
  -- the bits of strict mode
  pub strict : ℕ

-- refused so where the test holds, and else by what follows
abbrev pub refuse : Bool → Why → Option Why → Option Why
refuse test why later = if test then Some why else later

-- DISC may be asked exactly where no rule on the state refuses.
abbrev pub by_state : State → Option Why → Option Why
by_state state.Created later = Some (why.NotReady state.Created)
by_state state.Negotiating later = Some (why.NotReady state.Negotiating)
by_state state.OptMode later = Some (why.NotReady state.OptMode)
by_state (state.Dead cause) later = Some (why.Dead cause)
by_state state.Closing later = Some why.Closing
by_state state.Closed later = Some why.Closing
by_state state.Ready later = later

-- The transmission flags: READ_ONLY 2, SEND_FLUSH 4, SEND_FUA 8, SEND_TRIM 32, SEND_WRITE_ZEROES 64, SEND_DF 128,
-- SEND_CACHE 1024, SEND_FAST_ZERO 2048.
abbrev pub lack_of : Terms → Kind → Option Lack
lack_of terms Read = None
lack_of terms Write = if has_bit flag_read_only terms.flags then Some lack.ReadOnly else None
lack_of terms Flush = if has_bit flag_send_flush terms.flags then None else Some lack.Flush
lack_of terms Trim = if has_bit flag_read_only terms.flags then Some lack.ReadOnly else if has_bit flag_send_trim terms.flags then None else Some lack.Trim
lack_of terms Cache = if has_bit flag_send_cache terms.flags then None else Some lack.Cache
lack_of terms Zero = if has_bit flag_read_only terms.flags then Some lack.ReadOnly else if has_bit flag_send_write_zeroes terms.flags then None else Some lack.Zero
lack_of terms BlockStatus = if terms.has_context then None else Some lack.Context

-- What the export lacks counts where the client is strict on it.
abbrev pub lack_now : Terms → Kind → Option Lack
lack_now terms kind = if has_bit strict_commands terms.strict then lack_of terms kind else None

abbrev pub unsupported : Option Lack → Option Why → Option Why
unsupported None later = later
unsupported (Some lack) later = Some (why.Unsupported lack)

abbrev pub flag_if : Bool → ℕ → ℕ
flag_if test flag = if test then flag else 0

-- The command flags that are allowed: FUA 1, NO_HOLE 2, DF 4, REQ_ONE 8, FAST_ZERO 16.
abbrev pub allowed : Terms → Kind → ℕ
allowed terms Read = flag_if (has_bit flag_send_df terms.flags && terms.structured) cmd_flag_df
allowed terms Write = flag_if (has_bit flag_send_fua terms.flags) cmd_flag_fua
allowed terms Flush = 0
allowed terms Trim = flag_if (has_bit flag_send_fua terms.flags) cmd_flag_fua
allowed terms Cache = 0
allowed terms Zero = flag_if (has_bit flag_send_fua terms.flags) cmd_flag_fua + cmd_flag_no_hole + flag_if (has_bit flag_send_fast_zero terms.flags) cmd_flag_fast_zero
allowed terms BlockStatus = cmd_flag_req_one

-- all flags but PAYLOAD_LEN (32), which is the client's own
abbrev pub sendable_flags : ℕ
sendable_flags = 0xffdf

abbrev pub allowed_now : Terms → Kind → ℕ
allowed_now terms kind = if has_bit strict_flags terms.strict then allowed terms kind else sendable_flags

-- the flags outside those
abbrev pub bad_flags : Terms → Kind → ℕ → ℕ
bad_flags terms kind flags = flags - bit_and flags (allowed_now terms kind)

abbrev pub minimum : Option Blocks → ℕ
minimum None = 1
minimum (Some blocks) = blocks.minimum

abbrev pub smaller : ℕ → ℕ → ℕ
smaller a b = if nat_le a b then a else b

-- the most bytes of a read or write
abbrev pub payload_limit : Option Blocks → ℕ
payload_limit None = max_data
payload_limit (Some blocks) = smaller max_data blocks.maximum

-- the longest range of another command
abbrev pub range_limit : (extended : Bool) → ℕ
range_limit extended = if extended then max_extended_range else max_range

abbrev pub length_limit : Terms → Kind → ℕ
length_limit terms Read = payload_limit terms.blocks
length_limit terms Write = payload_limit terms.blocks
length_limit terms Flush = range_limit terms.extended
length_limit terms Trim = range_limit terms.extended
length_limit terms Cache = range_limit terms.extended
length_limit terms Zero = range_limit terms.extended
length_limit terms BlockStatus = range_limit terms.extended

abbrev pub is_aligned : ℕ → (offset length : ℕ) → Bool
is_aligned minimum offset length = (offset % minimum == 0) && (length % minimum == 0)

-- No command may be longer than its limit; the other rules on the range hold where the client is strict on them.
abbrev pub by_range : Terms → Kind → (offset length : ℕ) → Option Why
by_range terms kind offset length =
    refuse (has_bit strict_zero_size terms.strict && (length == 0)) why.ZeroSize
    (refuse (nat_lt (length_limit terms kind) length) (why.TooBig (length_limit terms kind))
    (refuse (has_bit strict_bounds terms.strict && nat_lt terms.size (offset + length)) (why.Bounds terms.size)
    (refuse (has_bit strict_align terms.strict && not (is_aligned (minimum terms.blocks) offset length)) (why.Align (minimum terms.blocks))
    None)))

-- A command of this kind, with these flags and this range, where at most `limit` may be unretired.
abbrev pub refusal : ℕ → Terms → Kind → (flags offset length : ℕ) → Option Why
refusal limit terms kind flags offset length =
    by_state terms.state
    (refuse (nat_le limit terms.held) (why.TooMany limit)
    (unsupported (lack_now terms kind)
    (refuse (not (bad_flags terms kind flags == 0)) (why.BadFlags (bad_flags terms kind flags))
    (if has_range kind then by_range terms kind offset length else None))))

abbrev pub size_in : Option Export → ℕ
size_in None = 0
size_in (Some export) = export.size

abbrev pub flags_in : Option Export → ℕ
flags_in None = 0
flags_in (Some export) = export.flags

abbrev pub blocks_in : Option Export → Option Blocks
blocks_in None = None
blocks_in (Some export) = export.blocks

abbrev pub terms_of : State → ℕ → Option Export → List Context → (structured extended : Bool) → (strict : ℕ) → Terms
terms_of state held export contexts structured extended strict = record {
  state = state;
  held = held;
  size = size_in export;
  flags = flags_in export;
  blocks = blocks_in export;
  has_context = not (is_empty contexts);
  structured = structured;
  extended = extended;
  strict = strict;
}

module _ {K : Type 0} where
  abbrev pub terms_after : History K → Terms
  terms_after history =
      let all = steps (reading history).known.turns in
      terms_of (state_after history) (held_after history) (export all) (contexts all) (structured all) (extended all) (strict_mode history)

  abbrev pub refusal_after : ℕ → History K → Command K → Option Why
  refusal_after limit history command = refusal limit (terms_after history) command.kind command.flags command.offset command.length

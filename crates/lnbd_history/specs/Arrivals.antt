-- What the bytes since the last thing shown show: mostly nothing yet. Each fault is shown at the byte that shows it, and of
-- two at one byte the one with the lower number, which stands first.
use Rattle.std.specs.Prelude.{ℕ, ◌+◌, ◌^◌, Bool, true, false, not, ◌&&◌, ◌||◌, List, [], ◌∷◌, length, take, drop, Option, Some, None, is_none, if◌then◌else◌, ◌==◌, nat_lt, nat_le}
use Rattle.lnbd_model.specs.declared.breach.Breach.{Breach}
use Rattle.lnbd_model.specs.declared.breach.Breach.TheVariants.{BadHello, OldStyle, NotFixed, BadOptionMagic, WrongOption, BadOptionLength, UnexpectedReply, TooManyReplies, BadText, NoExportInfo, SizeTooBig}
pub use Rattle.lnbd_records.specs.Content.{Content, Data, Hole, Status, Error, ErrorAt, Nothing, Bare}
use Rattle.lnbd_records.specs.Limits.{max_option_reply, max_listed, max_replies, max_passed}
use Rattle.lnbd_records.specs.Numbers.{number_at}
pub use Rattle.lnbd_records.specs.Numbers.{has_bit}
use Rattle.lnbd_records.specs.Handshake.{init_magic, option_magic, oldstyle_magic, option_reply_magic}
use Rattle.lnbd_records.specs.Told.{Told, Size, Body}
use Rattle.lnbd_records.specs.Told as told
use Rattle.lnbd_records.specs.Replies.{body_of}
use Rattle.lnbd_records.specs.Flags.{flag_fixed_newstyle}
use Rattle.lnbd_records.specs.Options.{first_rep_error, opt_list, opt_set_meta_context, rep_ack, rep_info, rep_meta_context, rep_server}
use Rattle.lnbd_stream.specs.Grammar.{once, wants}
pub use Rattle.lnbd_chunks.specs.Chunk.{Waiting}
use Rattle.lnbd_chunks.specs.Reply.{shows_reply}
use Rattle.lnbd_history.specs.declared.kinds.Phase.{Phase}
use Rattle.lnbd_history.specs.declared.kinds.Phase.TheVariants.{Greeting, Asked, AskedByName, OptMode, Ready, Refused}
use Rattle.lnbd_history.specs.declared.kinds.Stage.{Stage}
use Rattle.lnbd_history.specs.declared.kinds.Stage.TheVariants as stage
use Rattle.lnbd_history.specs.Agreement.{is_info}

-- What is shown.

-- what a reply tells the command of this cookie, and whether it is that command's last
pub record Frame : Type 0 where
  pub cookie : ℕ
  pub content : Content
  pub last : Bool

pub data Shown : Type 0 where
  Hello : (flags : ℕ) → Shown
  OptionReply : Told → Shown
  ExportReply : (size flags : ℕ) → Shown
  Reply : Frame → Shown
  Broken : Breach → Shown
  -- a byte after an abort
  Passed : Shown
  -- a byte when nothing counts
  Ignored : Shown

-- By what it is judged.

-- All by which bytes are judged, but for the commands.
pub record Sight : Type 0 where
  pub stage : Stage
  pub phase : Phase
  -- of the answer that isn't ended: how many replies, and the size that they told
  pub count : ℕ
  pub size : Option Size
  -- whether the reply to EXPORT_NAME ends without 124 zeroes
  pub no_zeroes : Bool
  pub structured : Bool
  pub extended : Bool
  -- how many bytes were passed over
  pub passed : ℕ

-- The hello.

unfoldable pub shows_hello : List ℕ → Option Shown
shows_hello bytes =
    once 8 bytes (wants (number_at 0 8 bytes == init_magic) (Broken BadHello)
    (once 16 bytes (wants (not (number_at 8 8 bytes == oldstyle_magic)) (Broken OldStyle)
    (wants (number_at 8 8 bytes == option_magic) (Broken BadHello)
    (once 18 bytes (wants (has_bit flag_fixed_newstyle (number_at 16 2 bytes)) (Broken NotFixed)
    (Some (Hello (number_at 16 2 bytes)))))))))

-- Option replies.

-- the option that is unanswered is this one
abbrev pub is_asked : ℕ → Phase → Bool
is_asked option (Asked asked) = option == asked
is_asked option Greeting = false
is_asked option AskedByName = false
is_asked option OptMode = false
is_asked option Ready = false
is_asked option (Refused code) = false

-- The types of replies that an option has: errors, ACK (1), SERVER (2) to LIST, INFO (3) to INFO and GO, META_CONTEXT (4) to SET_META_CONTEXT.
abbrev pub is_named : ℕ → ℕ → Bool
is_named option type =
    nat_le first_rep_error type || (type == rep_ack) || ((type == rep_server) && (option == opt_list)) || ((type == rep_info) && is_info option) || ((type == rep_meta_context) && (option == opt_set_meta_context))

-- how many replies that neither acknowledge nor refuse an option may have
abbrev pub limit : ℕ → ℕ
limit option = if option == opt_list then max_listed else max_replies

abbrev pub counts : ℕ → Bool
counts type = not (nat_le first_rep_error type || (type == rep_ack))

abbrev pub is_too_big : Told → Bool
is_too_big (told.Export size) = nat_le (2 ^ 63) size.size
is_too_big told.Ack = false
is_too_big (told.Error code) = false
is_too_big (told.Server listed) = false
is_too_big (told.Name name) = false
is_too_big (told.Description text) = false
is_too_big (told.Blocks blocks) = false
is_too_big told.Passed = false
is_too_big (told.Context context) = false

abbrev pub is_ack : Told → Bool
is_ack told.Ack = true
is_ack (told.Error code) = false
is_ack (told.Server listed) = false
is_ack (told.Export size) = false
is_ack (told.Name name) = false
is_ack (told.Description text) = false
is_ack (told.Blocks blocks) = false
is_ack told.Passed = false
is_ack (told.Context context) = false

-- a whole reply of this type to this option, whose body fits the type's form or doesn't
abbrev pub shows_whole : Sight → ℕ → ℕ → Option Body → Option Shown
shows_whole sight option type None = Some (Broken BadOptionLength)
shows_whole sight option type (Some body) =
    wants (not (counts type && nat_le (limit option) sight.count)) (Broken TooManyReplies)
    (wants body.texts (Broken BadText)
    (wants (not (is_ack body.told && is_info option && is_none sight.size)) (Broken NoExportInfo)
    (wants (not (is_too_big body.told)) (Broken SizeTooBig)
    (Some (OptionReply body.told)))))

-- the verdict on a reply: its option, its type, the length of its body, its body
unfoldable pub reply_verdict : Sight → ℕ → ℕ → ℕ → List ℕ → Option Shown
reply_verdict sight option type length body =
    wants (is_asked option sight.phase) (Broken WrongOption)
    (wants (nat_le length max_option_reply) (Broken BadOptionLength)
    (wants (is_named option type) (Broken UnexpectedReply)
    (shows_whole sight option type (body_of type body))))

-- magic (64 bits), option (32), type (32), length (32), and that many bytes
unfoldable pub shows_option : Sight → List ℕ → Option Shown
shows_option sight bytes =
    once 8 bytes (wants (number_at 0 8 bytes == option_reply_magic) (Broken BadOptionMagic)
    (once 20 bytes (wants (is_asked (number_at 8 4 bytes) sight.phase) (Broken WrongOption)
    (wants (nat_le (number_at 16 4 bytes) max_option_reply) (Broken BadOptionLength)
    (wants (is_named (number_at 8 4 bytes) (number_at 12 4 bytes)) (Broken UnexpectedReply)
    (once (20 + number_at 16 4 bytes) bytes
    (shows_whole sight (number_at 8 4 bytes) (number_at 12 4 bytes) (body_of (number_at 12 4 bytes) (take (number_at 16 4 bytes) (drop 20 bytes))))))))))

-- the reply to EXPORT_NAME: size (64 bits), flags (16), and 124 bytes more unless NO_ZEROES is agreed
unfoldable pub shows_by_name : Bool → List ℕ → Option Shown
shows_by_name no_zeroes bytes =
    once (if no_zeroes then 10 else 134) bytes
    (wants (nat_lt (number_at 0 8 bytes) (2 ^ 63)) (Broken SizeTooBig)
    (Some (ExportReply (number_at 0 8 bytes) (number_at 8 2 bytes))))

-- Replies to commands.

abbrev pub reply : ℕ → Content → Bool → Shown
reply cookie content last = Reply (record { cookie = cookie; content = content; last = last })

unfoldable pub shows_frame : (structured extended : Bool) → (ℕ → Option Waiting) → List ℕ → Option Shown
shows_frame structured extended waited bytes = shows_reply Broken reply structured extended waited bytes

-- What counts where.

-- After an abort so many bytes are passed over.
abbrev pub shows_passed : ℕ → List ℕ → Option Shown
shows_passed passed [] = None
shows_passed passed (byte ∷ bytes) = if nat_lt passed max_passed then Some Passed else Some (Broken TooManyReplies)

abbrev pub shows_ignored : List ℕ → Option Shown
shows_ignored [] = None
shows_ignored (byte ∷ bytes) = Some Ignored

-- In opt mode no option is unanswered, so any reply is for the wrong one.
abbrev pub shows_in : Phase → Sight → (ℕ → Option Waiting) → List ℕ → Option Shown
shows_in Greeting sight waited bytes = shows_hello bytes
shows_in (Asked option) sight waited bytes = shows_option sight bytes
shows_in OptMode sight waited bytes = shows_option sight bytes
shows_in AskedByName sight waited bytes = shows_by_name sight.no_zeroes bytes
shows_in Ready sight waited bytes = shows_frame sight.structured sight.extended waited bytes
shows_in (Refused code) sight waited bytes = shows_ignored bytes

abbrev pub shows_at : Stage → Sight → (ℕ → Option Waiting) → List ℕ → Option Shown
shows_at stage.Created sight waited bytes = shows_ignored bytes
shows_at stage.Open sight waited bytes = shows_in sight.phase sight waited bytes
shows_at stage.Disconnecting sight waited bytes = shows_in sight.phase sight waited bytes
shows_at stage.Aborting sight waited bytes = shows_passed sight.passed bytes
shows_at stage.Closed sight waited bytes = shows_ignored bytes
shows_at (stage.Dead cause) sight waited bytes = shows_ignored bytes

-- What an option reply at the front of some bytes shows, and what its data tells.
use Rattle.std.specs.Prelude.{◌^◌, nat_lt, if◌then◌else◌, ◌≡◌, ◌==◌, ℕ, ◌+◌, ◌≤◌, Bool, ◌&&◌, List, length, take, drop, Option, Some, None, nat_le}
use Rattle.lnbd_model.specs.declared.breach.Breach.{Breach}
use Rattle.lnbd_model.specs.declared.breach.Breach.TheVariants.{BadHello, BadOptionLength, BadOptionMagic, NotFixed, OldStyle, SizeTooBig, UnexpectedReply, WrongOption}
use Rattle.lnbd_records.specs.Flags.{flag_fixed_newstyle}
use Rattle.lnbd_records.specs.Limits.{max_option_reply}
use Rattle.lnbd_records.specs.Numbers.{number_at}
use Rattle.lnbd_records.specs.Handshake.{hello_size, oldstyle_magic, option_reply_head_size, option_reply_magic}
use Rattle.lnbd_wire.specs.declared.hello.HelloRead.{HelloRead}
use Rattle.lnbd_wire.specs.declared.hello.HelloRead.TheVariants as read
use Rattle.lnbd_options.specs.declared.head.OptionHead.{OptionHead}
use Rattle.lnbd_options.specs.declared.head.Read64.{Read64}
use Rattle.lnbd_options.specs.declared.head.Read64.TheVariants.{Value, NeedMore, BadMagic}
use Rattle.lnbd_stream.specs.Grammar.{wants}
use Rattle.lnbd_history.specs.declared.kinds.Phase.{Phase}
use Rattle.lnbd_history.specs.Arrivals.{Shown, Hello, ExportReply, shows_hello, shows_by_name, has_bit, OptionReply, Broken, Sight, shows_option, reply_verdict, is_asked, is_named, counts, limit}
use Rattle.lnbd_negotiate.specs.declared.front.Seen.{Seen}
use Rattle.lnbd_negotiate.specs.declared.front.Seen.TheVariants as seen
use Rattle.lnbd_negotiate.specs.declared.greeting.Greeted.{Greeted}
use Rattle.lnbd_negotiate.specs.declared.greeting.Greeted.TheVariants as greeted
use Rattle.lnbd_negotiate.specs.declared.judge.Ruling.{Ruling}
use Rattle.lnbd_negotiate.specs.declared.judge.Ruling.TheVariants as ruling
use Rattle.lnbd_negotiate.specs.Told.{told_of}

-- a whole head of an option reply, by the numbers that stand in the bytes
pub record IsHeaded (bytes : List ℕ) (head : OptionHead) : Type 0 where
  pub there : option_reply_head_size ≤ length bytes
  pub magic : number_at 0 8 bytes ≡ option_reply_magic
  pub option : head.option ≡ number_at 8 4 bytes
  pub kind : head.kind ≡ number_at 12 4 bytes
  pub size : head.length ≡ number_at 16 4 bytes

-- What was read of it is what the bytes show; of a whole head the option, the type and the length are still to be judged.
abbrev pub IsHeadRead : List ℕ → Read64 OptionHead → Type 0
IsHeadRead bytes (Value head) = IsHeaded bytes head
IsHeadRead bytes NeedMore = (sight : Sight) → shows_option sight bytes ≡ None
IsHeadRead bytes (BadMagic other) = (sight : Sight) → shows_option sight bytes ≡ Some (Broken BadOptionMagic)

-- what the head of a reply alone breaks, if anything: its option is the one that is unanswered, its data are no more than may come, and its type is one that
-- the option has
unfoldable pub broken_by : Phase → OptionHead → Option Breach
broken_by phase head =
    wants (is_asked head.option phase) WrongOption
    (wants (nat_le head.length max_option_reply) BadOptionLength
    (wants (is_named head.option head.kind) UnexpectedReply
    None))

-- What was seen is what the bytes show; of a whole reply, whose head breaks nothing, the data is still to be read.
abbrev pub SeenAs : Sight → List ℕ → Seen → Type 0
SeenAs sight bytes seen.Nothing = shows_option sight bytes ≡ None
SeenAs sight bytes (seen.Broken breach) = shows_option sight bytes ≡ Some (Broken breach)
SeenAs sight bytes (seen.Whole head) =
    (head.length ≡ number_at 16 4 bytes)
    × (option_reply_head_size + head.length ≤ length bytes)
    × (shows_option sight bytes ≡ reply_verdict sight head.option head.kind head.length (take head.length (drop option_reply_head_size bytes)))
    × (broken_by sight.phase head ≡ None)

-- more replies of this type to this option don't count
abbrev pub is_over : ℕ → ℕ → ℕ → Bool
is_over option type count = counts type && nat_le (limit option) count

-- What a whole reply tells, or does wrong.
abbrev pub JudgedAs : Option Shown → Ruling → Type 0
JudgedAs verdict ruling.NoMemory = Unit {0}
JudgedAs verdict (ruling.Broken breach) = verdict ≡ Some (Broken breach)
JudgedAs verdict (ruling.Told told) = verdict ≡ Some (OptionReply (told_of told))

-- What was seen is what the bytes show of the server's hello; of a whole one the flags are still to be judged.
abbrev pub GreetedAs : List ℕ → Greeted → Type 0
GreetedAs bytes greeted.Nothing = shows_hello bytes ≡ None
GreetedAs bytes (greeted.Broken breach) = shows_hello bytes ≡ Some (Broken breach)
GreetedAs bytes (greeted.Whole flags) =
    (hello_size ≤ length bytes) × (shows_hello bytes ≡ wants (has_bit flag_fixed_newstyle flags) (Broken NotFixed) (Some (Hello flags)))

-- the breach of a second number that is not IHAVEOPT
abbrev pub second_breach : (second : ℕ) → Breach
second_breach second = if second == oldstyle_magic then OldStyle else BadHello

-- What was read of it is what the bytes show; of a whole hello the flags are still to be judged, and of another second number which breach it is.
abbrev pub IsHelloShown : List ℕ → HelloRead → Type 0
IsHelloShown bytes (read.Value flags) =
    (hello_size ≤ length bytes) × (shows_hello bytes ≡ wants (has_bit flag_fixed_newstyle flags) (Broken NotFixed) (Some (Hello flags)))
IsHelloShown bytes read.NeedMore = shows_hello bytes ≡ None
IsHelloShown bytes (read.BadFirst other) = shows_hello bytes ≡ Some (Broken BadHello)
IsHelloShown bytes (read.BadSecond other) = shows_hello bytes ≡ Some (Broken (second_breach other))

-- What was seen is what the bytes show of the reply to EXPORT_NAME, whose size is still to be judged.
abbrev pub NamedAs : Bool → List ℕ → Option (ℕ × ℕ) → Type 0
NamedAs no_zeroes bytes None = shows_by_name no_zeroes bytes ≡ None
NamedAs no_zeroes bytes (Some told) =
    ((if no_zeroes then 10 else 134) ≤ length bytes)
    × (shows_by_name no_zeroes bytes ≡ wants (nat_lt told.0 (2 ^ 63)) (Broken SizeTooBig) (Some (ExportReply told.0 told.1)))

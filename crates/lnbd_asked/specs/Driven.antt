-- How a handle drives a link: its history beside the calls on the link.
use Rattle.std.specs.Prelude.{◌≡◌, ℕ, ◌+◌, ◌≤◌, ◌<◌, ◌^◌, Bool, true, false, List, [], ◌∷◌, ◌++◌, length, take, None, nat_le, if◌then◌else◌}
use Rattle.std.specs.Option.{option_map}
use Rattle.lnbd_model.specs.Kind.{has_range}
use Rattle.lnbd_records.specs.Flags.{cmd_flag_payload_len}
use Rattle.lnbd_records.specs.Limits.{max_text}
use Rattle.lnbd_records.specs.Numbers.{has_bit}
use Rattle.lnbd_outcome.specs.Outcome.{Outcome}
use Rattle.lnbd_link.specs.Call.{Call, Read, Write, Moved, Unready, Ended, ReadFault, Sent, Full, WriteFault}
use Rattle.lnbd_history.specs.Events.{Name, Context, Answer, Event, History, Set, Issue, Wrote, Arrived, End, LinkFailed}
use Rattle.lnbd_history.specs.Agreement.{phase, steps, export, opt_mode}
use Rattle.lnbd_history.specs.Answers.{is_living, out_after}
use Rattle.lnbd_history.specs.Commands.{Command, is_write}
use Rattle.lnbd_history.specs.Entries.{own}
use Rattle.lnbd_history.specs.History.{asked, request, reading, is_extended}
use Rattle.lnbd_history.specs.Laws.{Lawful, is_closed}
use Rattle.lnbd_history.specs.Outgoing.{whole, total}
use Rattle.lnbd_asked.specs.Client.{length_size}
use Rattle.lnbd_asked.specs.Link.{Link}
use Rattle.lnbd_asked.specs.Transcript.{on_link, bare, asked_on, answered, outcome_of, size_at, size_told, told_zero, zero_told}
use Rattle.lnbd_asked.specs.Laws.{is_on}

module _ {K : Type 0} where
  -- an event that moves no bytes
  abbrev pub is_inward : Event K → Bool
  is_inward (Wrote n) = false
  is_inward (Arrived bytes answers) = false
  is_inward (End answers) = false
  is_inward (LinkFailed answers) = false
  is_inward event = true

  -- The two sides speak, or the end was asked for.
  abbrev pub IsLiving : History K → Type 0
  IsLiving history = is_living (reading history).known.stage ≡ true

-- After these calls on the link the handle has this history, and these bytes were read that haven't arrived at it. What was read arrives before
-- more is written; the end and a fault of the link are told to a handle that is living.
pub data Drives {K : Type 0} (link : ℕ) : List Call → History K → List ℕ → Type 0 where
  Begins : Drives link [] [] []
  -- what the caller does with the handle
  Does : (calls : List Call) (before : History K) (left : List ℕ) (event : Event K) → Drives link calls before left → is_inward event ≡ true → Drives link calls (event ∷ before) left
  -- calls on other links
  Passes : (calls : List Call) (history : History K) (left : List ℕ) (call : Call) (after : List Call)
      → Drives link calls history left → is_on link call ≡ false → after ≡ calls ++ call ∷ [] → Drives link after history left
  -- a write takes a front of what is offered
  Writes : (calls : List Call) (before : History K) (offered : ℕ) (bytes : List ℕ) (after : List Call)
      → Drives link calls before [] → bytes ≡ take (length bytes) (out_after before) → after ≡ calls ++ Write link offered (Sent bytes) ∷ [] → Drives link after (Wrote (length bytes) ∷ before) []
  Writes_none : (calls : List Call) (history : History K) (left : List ℕ) (offered : ℕ) (after : List Call)
      → Drives link calls history left → after ≡ calls ++ Write link offered Full ∷ [] → Drives link after history left
  Reads : (calls : List Call) (history : History K) (left : List ℕ) (room : ℕ) (bytes : List ℕ) (after : List Call) (more : List ℕ)
      → Drives link calls history left → after ≡ calls ++ Read link room (Moved bytes) ∷ [] → more ≡ left ++ bytes → Drives link after history more
  Reads_none : (calls : List Call) (history : History K) (left : List ℕ) (room : ℕ) (after : List Call)
      → Drives link calls history left → after ≡ calls ++ Read link room Unready ∷ [] → Drives link after history left
  -- a front of what was read arrives
  Arrives : (calls : List Call) (before : History K) (all : List ℕ) (bytes left : List ℕ) (answers : List Answer)
      → Drives link calls before all → all ≡ bytes ++ left → Drives link calls (Arrived bytes answers ∷ before) left
  Ends : (calls : List Call) (before : History K) (room : ℕ) (answers : List Answer) (after : List Call)
      → Drives link calls before [] → IsLiving before → after ≡ calls ++ Read link room Ended ∷ [] → Drives link after (End answers ∷ before) []
  Fails_to_read : (calls : List Call) (before : History K) (room : ℕ) (answers : List Answer) (after : List Call)
      → Drives link calls before [] → IsLiving before → after ≡ calls ++ Read link room ReadFault ∷ [] → Drives link after (LinkFailed answers ∷ before) []
  Fails_to_write : (calls : List Call) (before : History K) (offered : ℕ) (answers : List Answer) (after : List Call)
      → Drives link calls before [] → IsLiving before → after ≡ calls ++ Write link offered WriteFault ∷ [] → Drives link after (LinkFailed answers ∷ before) []

module _ {K : Type 0} where
  -- what a command comes to where no callback has a say
  abbrev pub outcome_after : History K → ℕ → Outcome
  outcome_after history cookie = outcome_of (request history cookie) (own cookie (reading history).known.entries)

  -- whether a position was told as zero in what came for a command
  abbrev pub zero_after : History K → (cookie p : ℕ) → Bool
  zero_after history cookie p = zero_told (request history cookie) (own cookie (reading history).known.entries) p

  -- how many commands were wholly written
  abbrev pub written : History K → ℕ
  written history = whole (reading history).known.parts (asked history).wrote

  -- A link says what the history says that drives it: the requests wholly written, what each of them comes to, which positions it
  -- told as zero, and the size that was told, once nothing waits.
  pub record DrivenSays (history : History K) (link : Link) : Type 0 where
    pub requests : (cookie : ℕ) → asked_on link cookie ≡ (if nat_le cookie (written history) then option_map bare (request history cookie) else None)
    pub outcomes : (cookie : ℕ) → nat_le cookie (written history) ≡ true → answered link cookie ≡ outcome_after history cookie
    pub size : (asked history).wrote ≡ total (reading history).known.parts → size_told link ≡ size_at (phase (reading history).known.turns) (export (steps (reading history).known.turns))
    pub zero : (cookie p : ℕ) → nat_le cookie (written history) ≡ true → told_zero link cookie p ≡ zero_after history cookie p

  -- The numbers of a command fit the request that it makes under this cookie: its length has 32 bits, with extended headers 64; PAYLOAD_LEN is the handle's own
  -- flag; only a write has data, and a flush has no range.
  pub record Spelled (extended : Bool) (cookie : ℕ) (command : Command K) : Type 0 where
    pub cookie_ : cookie < 2 ^ 64
    pub flags : command.flags < 2 ^ 16
    pub own : has_bit cmd_flag_payload_len command.flags ≡ false
    pub offset : command.offset < 2 ^ 64
    pub length_ : command.length < 256 ^ length_size extended
    pub data_ : length command.payload ≡ (if is_write command.kind then command.length else 0)
    pub ranged : has_range command.kind ≡ false → (command.offset ≡ 0) × (command.length ≡ 0)

  abbrev pub Spells : History K → Event K → Type 0
  Spells before (Set (Name name)) = length name ≤ max_text
  Spells before (Set (Context name)) = length name ≤ max_text
  Spells before (Issue command) = Spelled (is_extended (reading before).known) ((asked before).issued + 1) command
  Spells before event = Unit {0}

  abbrev pub AllSpell : History K → Type 0
  AllSpell [] = Unit {0}
  AllSpell (event ∷ before) = Spells before event × AllSpell before

-- A handle that isn't in opt mode nor closed, all of whose bytes that were read have arrived: the link says what its history says.
abbrev pub DrivenSaySo : Type 0 → Type 0
DrivenSaySo K = (limit link : ℕ) (calls : List Call) (history : History K) → Lawful limit history → AllSpell history → is_closed history ≡ false → opt_mode (reading history).known.turns ≡ false →
    Drives link calls history [] → DrivenSays history (on_link link calls)

-- What is known of a link from the bytes that went and came over it. What came is judged as the history of a handle judges it, by the options
-- and requests that were wholly written when it came. What comes while no option is unanswered waits for the next option: a server that
-- answers before it is asked is read so, too.
use Rattle.std.specs.Prelude.{ℕ, ◌+◌, ◌-◌, Bool, true, false, ◌&&◌, List, [], ◌∷◌, Option, Some, None, if◌then◌else◌, ◌==◌}
use Rattle.lnbd_model.specs.Kind.{is_write}
use Rattle.lnbd_model.specs.declared.kind.Kind.{Kind}
use Rattle.lnbd_model.specs.declared.kind.Kind.TheVariants.{Read, Write, Flush, Trim, Cache, Zero, BlockStatus}
use Rattle.lnbd_records.specs.Flags.{cmd_flag_payload_len}
use Rattle.lnbd_records.specs.Options.{opt_export_name}
use Rattle.lnbd_stream.specs.Stream.{Rules, Held, fresh, feed}
use Rattle.lnbd_history.specs.declared.kinds.Phase.{Phase}
use Rattle.lnbd_history.specs.declared.kinds.Phase.TheVariants as phase
use Rattle.lnbd_history.specs.declared.kinds.Stage.TheVariants.{Open}
use Rattle.lnbd_history.specs.Agreement.{Turn, Opted, phase, steps, extended}
use Rattle.lnbd_history.specs.Agreement as turn
use Rattle.lnbd_history.specs.Arrivals.{Shown, Waiting, shows_at}
use Rattle.lnbd_history.specs.Commands.{Command}
use Rattle.lnbd_history.specs.Entries.{own, is_ended}
use Rattle.lnbd_history.specs.Events.{History, Issue, OptMode}
use Rattle.lnbd_history.specs.History.{Known, asked, request, entered, sight, waiting_of, ended_at, failed_at}
use Rattle.lnbd_asked.specs.Client.{Said, Flags, Wishes, Orders, Stray, Wish, Order, says, type_write}

-- in place of callbacks: none that answers
abbrev pub Nobody : Type 0
Nobody = Unit {0}

pub record Link : Type 0 where
  -- the client's flags have come
  pub greeted : Bool
  -- bytes came that are no client's
  pub strayed : Bool
  -- the options that were asked, the latest first
  pub wishes : List Wish
  -- the requests, as the events that they are to a handle
  pub requests : History Nobody
  -- what was heard of the server
  pub heard : Known Nobody

-- Before any byte. Which option is asked when, the client's bytes say.
abbrev pub nothing : Link
nothing = record {
  greeted = false;
  strayed = false;
  wishes = [];
  requests = [];
  heard = record { stage = Open; flags = 0; turns = turn.Set (OptMode true) ∷ []; passed = 0; parts = []; entries = []; answers = [] };
}

-- What the client says.

-- EXTENDED_HEADERS was acknowledged.
abbrev pub is_extended : Link → Bool
is_extended link = extended (steps link.heard.turns)

-- The kind of a type of requests. DISC (2) has none: it is not answered.
abbrev pub kind_of : ℕ → Option Kind
kind_of type =
    if type == 0 then Some Read
    else if type == type_write then Some Write
    else if type == 3 then Some Flush
    else if type == 4 then Some Trim
    else if type == 5 then Some Cache
    else if type == 6 then Some Zero
    else if type == 7 then Some BlockStatus
    else None

-- PAYLOAD_LEN only says of a WRITE that its data follows.
abbrev pub flags_asked : (extended : Bool) → Kind → ℕ → ℕ
flags_asked extended kind flags = if extended && is_write kind then flags - cmd_flag_payload_len else flags

abbrev pub command_of : (extended : Bool) → Kind → Order → Command Nobody
command_of extended kind order =
    record { kind = kind; flags = flags_asked extended kind order.flags; offset = order.offset; length = order.length; payload = order.payload; first = None; done = tt }

-- the cookie of the next request
abbrev pub next : Link → ℕ
next link = (asked link.requests).issued + 1

abbrev pub issued : Kind → Order → Link → Link
issued kind order link = record link { requests = Issue (command_of (is_extended link) kind order) ∷ link.requests }

-- A handle's cookies are 1, 2, 3 in order of its requests. Under another one no handle asks, and nothing counts after it.
abbrev pub ordered : Option Kind → Order → Link → Link
ordered None order link = link
ordered (Some kind) order link = if order.cookie == next link then issued kind order link else record link { strayed = true }

-- EXPORT_NAME has an answer of its own form.
abbrev pub turns_with : ℕ → List Turn → List Turn
turns_with option turns = if option == opt_export_name then turns else Opted option ∷ turns

abbrev pub wished : Wish → Link → Link
wished wish link = record link {
  wishes = wish ∷ link.wishes;
  heard = record link.heard { turns = turns_with wish.option link.heard.turns };
}

abbrev pub said : Said → Link → Link
said (Flags flags) link = record link { greeted = true }
said (Wishes wish) link = wished wish link
said (Orders order) link = ordered (kind_of order.type) order link
said Stray link = record link { strayed = true }

abbrev pub client : Rules Link Said
client = record { shows = λ link. says link.strayed link.greeted (is_extended link); enter = said }

-- What the server says.

-- no option is unanswered
abbrev pub is_free : Phase → Bool
is_free phase.Greeting = false
is_free (phase.Asked option) = false
is_free phase.AskedByName = false
is_free phase.OptMode = true
is_free phase.Ready = false
is_free (phase.Refused code) = false

-- the option last asked is EXPORT_NAME
abbrev pub is_by_name : List Wish → Bool
is_by_name [] = false
is_by_name (wish ∷ earlier) = wish.option == opt_export_name

-- the command of this cookie, where it is in flight: each request here was wholly written
abbrev pub waited : Link → ℕ → Option Waiting
waited link cookie = waiting_of true (is_ended (own cookie link.heard.entries)) (own cookie link.heard.entries) (request link.requests cookie)

abbrev pub shows_by_name : Link → List ℕ → Option Shown
shows_by_name link bytes = shows_at link.heard.stage (record (sight link.heard) { phase = phase.AskedByName }) (waited link) bytes

abbrev pub shows : Link → List ℕ → Option Shown
shows link bytes =
    if is_free (phase link.heard.turns) then if is_by_name link.wishes then shows_by_name link bytes else None
    else shows_at link.heard.stage (sight link.heard) (waited link) bytes

abbrev pub server : Rules Link Shown
server = record { shows = shows; enter = λ shown link. record link { heard = entered link.requests shown link.heard } }

-- What goes and comes.

-- what is known, and the bytes of either side that say nothing yet
pub record Both : Type 0 where
  pub link : Link
  pub written : List ℕ
  pub read : List ℕ

abbrev pub with_read : Both → Held Link → Both
with_read both held = record { link = held.known; written = both.written; read = held.pending }

abbrev pub with_written : Both → Held Link → Both
with_written both held = record { link = held.known; written = held.pending; read = both.read }

-- What waited is read again.
abbrev pub again : Both → Both
again both = with_read both (feed server (fresh both.link) both.read)

abbrev pub after_write : List ℕ → Both → Both
after_write bytes both = again (with_written both (feed client (record { known = both.link; pending = both.written }) bytes))

abbrev pub after_read : List ℕ → Both → Both
after_read bytes both = with_read both (feed server (record { known = both.link; pending = both.read }) bytes)

-- the server's end, and a fault of the link, as they are to a handle
abbrev pub with_heard : Both → Held (Known Nobody) → Both
with_heard both held = record both { link = record both.link { heard = held.known }; read = held.pending }

abbrev pub after_end : Both → Both
after_end both = with_heard both (ended_at both.link.heard.stage both.link.requests (record { known = both.link.heard; pending = both.read }))

abbrev pub after_fault : Both → Both
after_fault both = with_heard both (failed_at both.link.heard.stage both.link.requests (record { known = both.link.heard; pending = both.read }))

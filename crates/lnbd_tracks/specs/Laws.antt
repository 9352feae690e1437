-- Laws of what the handles of a copy were asked.
use Rattle.std.specs.Prelude.{◌≡◌, ℕ, ◌+◌, Bool, true, false, List, [], ◌∷◌, ◌++◌, Some, None}
use Rattle.lnbd_callbacks.specs.Calls.{Call}
use Rattle.lnbd_callbacks.specs.Steps.{OneByOne}
use Rattle.lnbd_model.specs.declared.kind.Kind.{Kind}
use Rattle.lnbd_model.specs.declared.kind.Kind.TheVariants as kind
use Rattle.lnbd_outcome.specs.Outcome.{Outcome, Done}
use Rattle.lnbd_history.specs.Commands as commands
use Rattle.lnbd_history.specs.Entries.{Filing, error_in, bytes_in}
use Rattle.lnbd_history.specs.Events.{Event, History, Issue, Arrived, End, LinkFailed}
use Rattle.lnbd_history.specs.History.{asked, request}
use Rattle.lnbd_asked.specs.Driven.{outcome_after}
use Rattle.lnbd_asked.specs.Link.{Nobody}
use Rattle.lnbd_asked.specs.Transcript.{bare}
use Rattle.lnbd_plan.specs.declared.grid.Slice.{Slice}
use Rattle.lnbd_board.specs.declared.how.How.{How}
use Rattle.lnbd_board.specs.declared.ticket.Ticket.{Ticket}
use Rattle.lnbd_board.specs.Asks.{Keeps}
use Rattle.lnbd_board.specs.Files.{Seen, Files}
use Rattle.lnbd_board.specs.Requests.{Request, Each, Suits, asking}
use Rattle.lnbd_board.specs.Rows.{Stands}
use Rattle.lnbd_tracks.specs.Tracks.{OnlyWritesHaveBytes, Histories, AllTrack, Happens, on_links, AreApart, is_issue, Adds}

-- Nothing was asked of handles on which nothing happened.
abbrev pub NothingTracks : Type 0
NothingTracks = AllTrack (λ link. []) []

-- A handle that begins on a link of its own changes nothing.
abbrev pub OpeningTracks : Type 0
OpeningTracks = (handles : List (ℕ × History Ticket)) (link : ℕ) (asked : List Request) → AllTrack (on_links handles) asked → AllTrack (on_links (handles ++ (link, []) ∷ [])) asked

-- What happens on one of some handles, where none before it has its link, happens on that link alone.
abbrev pub OneHappens : Type 0
OneHappens = (front back : List (ℕ × History Ticket)) (link : ℕ) (history : History Ticket) (event : Event Ticket) → AreApart link front →
    Happens link event (on_links (front ++ (link, history) ∷ back)) (on_links (front ++ (link, event ∷ history) ∷ back))

-- what is asked by a command, without its callbacks
abbrev pub asked_by : {K : Type 0} → commands.Command K → commands.Command Nobody
asked_by command = record { kind = command.kind; flags = command.flags; offset = command.offset; length = command.length; payload = command.payload; first = None; done = tt }

-- A command that is asked is one request more, under the next cookie, which waits.
abbrev pub IssueTracks : Type 0
IssueTracks = (link : ℕ) (command : commands.Command Ticket) (histories histories2 : Histories) (requests : List Request) →
    AllTrack histories requests → OnlyWritesHaveBytes command → Happens link (Issue command) histories histories2 →
    AllTrack histories2 (asking link ((asked (histories link)).issued + 1) command.done (asked_by command) requests)

-- bytes come, or the end of the connection
abbrev pub is_coming : {K : Type 0} → Event K → Bool
is_coming (Arrived bytes answers) = true
is_coming (End answers) = true
is_coming (LinkFailed answers) = true
is_coming event = false

-- What else happens changes no request.
abbrev pub OthersTrack : Type 0
OthersTrack = (link : ℕ) (event : Event Ticket) (histories histories2 : Histories) (requests : List Request) →
    AllTrack histories requests → is_issue event ≡ false → is_coming event ≡ false → Happens link event histories histories2 → AllTrack histories2 requests

-- A command without an error has its bytes back: a read as many as were asked for, and any other those that it was asked with.
abbrev pub BytesComeBack : Type 0 → Type 0
BytesComeBack K = (asks : commands.Request K) (own : List (Filing K)) → OnlyWritesHaveBytes (bare asks) → error_in asks own ≡ 0 → Suits (bare asks) (bytes_in asks own)

-- There are lists that the handles of both sides then track, and over which the invariant that held still holds, if no error was told; then none was before.
pub record Keeping (how : How) (before : Seen) (source destination : List Request) (after : Seen) (sources destinations : Histories) : Type 0 where
  pub source2 : List Request
  pub destination2 : List Request
  pub reads : AllTrack sources source2
  pub changes : AllTrack destinations destination2
  pub earlier : after.error ≡ None → before.error ≡ None
  pub keeps : after.error ≡ None → Keeps how before.rows source destination after.rows source2 destination2

-- So it is with whatever happens on a handle of the source, but that it is asked, where its calls lead from one board to the other;
abbrev pub SourceKeeps : Type 0
SourceKeeps = (how : How) (link : ℕ) (event : Event Ticket) (sources sources2 destinations : Histories) (added : List (Call Ticket)) (before after : Seen) (source destination : List Request) →
    AllTrack sources source → AllTrack destinations destination → is_issue event ≡ false → Happens link event sources sources2 →
    Adds event (sources link) added → OneByOne Files before added after → Keeping how before source destination after sources2 destinations

-- and with whatever happens so on a handle of the destination.
abbrev pub DestinationKeeps : Type 0
DestinationKeeps = (how : How) (link : ℕ) (event : Event Ticket) (sources destinations destinations2 : Histories) (added : List (Call Ticket)) (before after : Seen) (source destination : List Request) →
    AllTrack sources source → AllTrack destinations destination → is_issue event ≡ false → Happens link event destinations destinations2 →
    Adds event (destinations link) added → OneByOne Files before added after → Keeping how before source destination after sources destinations2

-- READ, WRITE and WRITE_ZEROES
abbrev pub moves_bytes : Kind → Bool
moves_bytes kind.Read = true
moves_bytes kind.Write = true
moves_bytes kind.Flush = false
moves_bytes kind.Trim = false
moves_bytes kind.Cache = false
moves_bytes kind.Zero = true
moves_bytes kind.BlockStatus = false

pub record IsDone (outcome : Outcome) : Type 0 where
  pub bytes : List ℕ
  pub is : outcome ≡ Done bytes

-- Where no slice is begun and not over, each request that moves bytes is done,
abbrev pub FinishedAreDone : Type 0
FinishedAreDone = (how : How) (slices : List Slice) (source destination : List Request) → Stands how slices [] source destination →
    Each (λ r. moves_bytes r.said.command.kind ≡ true → IsDone r.said.outcome) source × Each (λ r. moves_bytes r.said.command.kind ≡ true → IsDone r.said.outcome) destination

-- each command of these handles that moves bytes is done
abbrev pub AllAreDone : Histories → Type 0
AllAreDone histories = (link cookie : ℕ) (asks : commands.Request Ticket) → request (histories link) cookie ≡ Some asks → moves_bytes asks.kind ≡ true → IsDone (outcome_after (histories link) cookie)

-- and so is each command of the handles.
abbrev pub FinishedTracks : Type 0
FinishedTracks = (how : How) (slices : List Slice) (sources destinations : Histories) (source destination : List Request) → Stands how slices [] source destination →
    AllTrack sources source → AllTrack destinations destination → AllAreDone sources × AllAreDone destinations

-- What is asked of a side that is no export is answered at once.
use Rattle.std.proofs.Common.{◌≡◌, ℕ, List, [], ◌∷◌, ◌++◌, None, refl, length, inl, inr}
use Rattle.lnbd_callbacks.specs.Calls.{Complete}
use Rattle.lnbd_callbacks.specs.declared.caller.Verdict.TheVariants.{Retire}
use Rattle.lnbd_history.specs.Commands.{Command}
use Rattle.lnbd_asked.specs.Link.{Nobody}
use Rattle.lnbd_board.specs.declared.ask.Change.{Change}
use Rattle.lnbd_board.specs.declared.ask.Change.TheVariants as change
use Rattle.lnbd_board.specs.declared.how.How.{How}
use Rattle.lnbd_board.specs.declared.ticket.Ticket.TheVariants as ticket
use Rattle.lnbd_board.specs.Asks.{Keeps, change_of, read_at}
use Rattle.lnbd_board.specs.Files.{Seen}
use Rattle.lnbd_board.specs.Requests.{Request, Answers, Suits, asking, request, waiting}
use Rattle.lnbd_board.proofs.Turning.{calls_kept}
use Rattle.lnbd_onesided.specs.Desk.{done_more, no_link, ChangesAreMade, Completes, ReadsAreMade}

answered : (cookie n : ℕ) (command : Command Nobody) (bytes : List ℕ) (asked : List Request) → Suits command bytes
    → Answers (ticket.Slice n) bytes (asked ++ request no_link cookie (ticket.Slice n) (waiting command) ∷ []) (done_more cookie n command bytes asked)
answered cookie n command bytes asked suits = record { link = 0; cookie = cookie; command = command; front = asked; back = []; waited = refl; now = refl; suits = suits }

pub change_suits : (one : Change) → Suits (change_of one) (change_of one).payload
change_suits (change.Write offset bytes) = record { read = λ e. absurd (cc); change = λ e. refl }
change_suits (change.Zero offset size flags) = record { read = λ e. absurd (cc); change = λ e. refl }

-- What came of the request that was asked last: of the destination, and of the source.

pub change_comes : (how : How) (n cookie : ℕ) (command : Command Nobody) (bytes : List ℕ) (next after : Seen) (source destination : List Request) → Suits command bytes → Completes n bytes next after →
    after.error ≡ None →
    Keeps how next.rows source (asking no_link cookie (ticket.Slice n) command destination) after.rows source (done_more cookie n command bytes destination)
change_comes how n cookie command bytes next after source destination suits completes none =
    let asked = asking no_link cookie (ticket.Slice n) command destination in
    let done = done_more cookie n command bytes destination in
    calls_kept how (Complete (ticket.Slice n) 0 bytes Retire ∷ []) next after source asked source done completes none
    (source, (done, ((λ e. inr (refl, answered cookie n command bytes destination suits)), (refl, refl))))

pub read_comes : (how : How) (n cookie : ℕ) (command : Command Nobody) (bytes : List ℕ) (next after : Seen) (source destination : List Request) → Suits command bytes → Completes n bytes next after →
    after.error ≡ None →
    Keeps how next.rows (asking no_link cookie (ticket.Slice n) command source) destination after.rows (done_more cookie n command bytes source) destination
read_comes how n cookie command bytes next after source destination suits completes none =
    let asked = asking no_link cookie (ticket.Slice n) command source in
    let done = done_more cookie n command bytes source in
    calls_kept how (Complete (ticket.Slice n) 0 bytes Retire ∷ []) next after asked destination done destination completes none
    (done, (destination, ((λ e. inl (answered cookie n command bytes source suits, refl)), (refl, refl))))

pub changes_are_made : ChangesAreMade
changes_are_made how n cookie one rows next after source destination goes completes none =
    let then = change_comes how n cookie (change_of one) (change_of one).payload next after source destination (change_suits one) completes none in
    record { on = λ slices stands. then.on slices ((goes.on source destination no_link cookie).on slices stands) }

pub read_suits : (offset : ℕ) (buf bytes : List ℕ) → length bytes ≡ length buf → Suits (read_at offset (length buf)) bytes
read_suits offset buf bytes size = record { read = λ e. size; change = λ e. absurd (cc) }

pub reads_are_made : ReadsAreMade
reads_are_made how slice offset buf bytes n cookie rows next after slices source destination begins count stands size completes none =
    (read_comes how n cookie (read_at offset (length buf)) bytes next after source destination (read_suits offset buf bytes size) completes none).on (slices ++ slice ∷ [])
    (begins.on slices source destination no_link cookie count stands)

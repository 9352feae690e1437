-- What small histories track, worked out.
use Rattle.std.proofs.Common.{◌≡◌, ℕ, [], ◌∷◌, None, refl}
use Rattle.lnbd_model.specs.declared.failure.Origin.TheVariants as from
use Rattle.lnbd_model.specs.declared.kind.Kind.TheVariants.{Read}
use Rattle.lnbd_outcome.specs.Outcome.{Failed}
use Rattle.lnbd_history.specs.Commands.{Command}
use Rattle.lnbd_history.specs.Events.{History, Start, Issue, End, Close}
use Rattle.lnbd_board.specs.declared.ticket.Ticket.{Ticket}
use Rattle.lnbd_board.specs.declared.ticket.Ticket.TheVariants.{Slice}
use Rattle.lnbd_board.specs.Requests.{request, waiting}
use Rattle.lnbd_tracks.specs.Tracks.{told_by, on_links}
use Rattle.lnbd_tracks.specs.Laws.{asked_by}

-- two bytes are read for the slice of this number
read : ℕ → Command Ticket
read n = record { kind = Read; flags = 0; offset = 512; length = 2; payload = []; first = None; done = Slice n }

link : ℕ
link = 3

issued : History Ticket
issued = Issue (read 8) ∷ Issue (read 7) ∷ Start ∷ []

first_waits : told_by link 1 issued ≡ request link 1 (Slice 7) (waiting (asked_by (read 7))) ∷ []
unfolding issued read link
first_waits = refl

second_waits : told_by link 2 issued ≡ request link 2 (Slice 8) (waiting (asked_by (read 8))) ∷ []
unfolding issued read link
second_waits = refl

no_third : told_by link 3 issued ≡ []
unfolding issued read link
no_third = refl

-- at the server's end both fail; where the handle is closed they wait for ever
lost : told_by link 1 (End [] ∷ issued) ≡ request link 1 (Slice 7) (record { command = asked_by (read 7); outcome = Failed (record { origin = from.Lost; error = 107 }) (0 ∷ 0 ∷ []) }) ∷ []
unfolding issued read link
lost = refl

closed : told_by link 1 (Close ∷ issued) ≡ request link 1 (Slice 7) (waiting (asked_by (read 7))) ∷ []
unfolding issued read link
closed = refl

-- a link without a handle
nothing_there : told_by 4 1 (on_links ((link, issued) ∷ []) 4) ≡ []
unfolding issued read link
nothing_there = refl

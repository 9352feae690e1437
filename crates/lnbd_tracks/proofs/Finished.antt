-- Where no slice is begun and not over, each request that moves bytes is done.
use Rattle.std.proofs.Common.{◌≡◌, ℕ, ◌+◌, ◌<◌, Bool, true, false, List, [], ◌∷◌, length, cond, refl, ap, sym, subst, ◌∙◌}
use Rattle.std.proofs.lemmas.Bool.{eq-eqb, false≢true}
use Rattle.lnbd_outcome.specs.Outcome.{Done}
use Rattle.lnbd_asked.specs.Driven.{outcome_after}
use Rattle.lnbd_asked.specs.Transcript.{bare}
use Rattle.lnbd_plan.specs.declared.grid.Slice.{Slice}
use Rattle.lnbd_board.specs.declared.how.How.{How}
use Rattle.lnbd_board.specs.declared.ticket.Ticket.{Ticket}
use Rattle.lnbd_board.specs.declared.ticket.Ticket.TheVariants as ticket
use Rattle.lnbd_board.specs.Pieces.{Piece, spell1, ask_of, is_passed, wrote}
use Rattle.lnbd_board.specs.Requests.{Said, Request, Each, own, is_of, request}
use Rattle.lnbd_board.specs.Rows.{KnownBy, IsOver, AsksOfSource, AsksOfDestination, slice_at}
use Rattle.lnbd_board.proofs.Lists.{Each-back}
use Rattle.lnbd_tracks.specs.Tracks.{Histories, AllTrack, request_of}
use Rattle.lnbd_tracks.specs.Laws.{moves_bytes, IsDone, FinishedAreDone, AllAreDone, FinishedTracks}
use Rattle.lnbd_tracks.proofs.Under.{found}

-- What was said for a slice that is over is done.

abbrev AreDone : List Said → Type 0
AreDone said = Each (λ (x : Said). IsDone x.outcome) said

read_done : (zero : Bool) (s : Slice) (bytes : List ℕ) (read : List Said) → KnownBy zero s bytes read → AreDone read
read_done true s bytes read k = subst AreDone (sym k.1) tt
read_done false s bytes read k = subst AreDone (sym k.one) (record { bytes = bytes; is = refl }, tt)

wrote_done : (how : How) (at : ℕ) (pieces : List Piece) → AreDone (wrote how at pieces)
wrote_done how at [] = tt
wrote_done how at (piece ∷ pieces) =
    let more = wrote_done how (at + length (spell1 piece)) pieces in
    elim (is_passed how piece) as (λ b. AreDone (cond b (wrote how (at + length (spell1 piece)) pieces) (record { command = ask_of how at piece; outcome = Done (ask_of how at piece).payload } ∷ wrote how (at + length (spell1 piece)) pieces)))
    [ true ↦ more | false ↦ (record { bytes = (ask_of how at piece).payload; is = refl }, more) ]

-- of requests, what holds of all that was said for a slice
own_each : (P : Said → Type 0) (n : ℕ) (xs : List Request) → Each P (own n xs) → Each (λ (r : Request). is_of n r.ticket ≡ true → P r.said) xs
own_each P n [] h = tt
own_each P n (x ∷ xs) h =
    elim (is_of n x.ticket) as (λ b. Each P (cond b (x.said ∷ own n xs) (own n xs)) → (b ≡ true → P x.said) × Each (λ (r : Request). is_of n r.ticket ≡ true → P r.said) xs) [
      | true ↦ λ k. ((λ e. k.0), own_each P n xs k.1)
      | false ↦ λ k. ((λ e. absurd (false≢true e)), own_each P n xs k)
    ] h

-- what holds for each number holds of each
each_all : (limit : ℕ) (P : ℕ → Request → Type 0) (xs : List Request) → ((n : ℕ) → n < limit → Each (P n) xs) → Each (λ r. (n : ℕ) → n < limit → P n r) xs
each_all limit P [] f = tt
each_all limit P (x ∷ xs) f = ((λ n l. (f n l).0), each_all limit P xs (λ n l. (f n l).1))

each_with : (P Q R : Request → Type 0) → ((r : Request) → P r → Q r → R r) → (xs : List Request) → Each P xs → Each Q xs → Each R xs
each_with P Q R f [] p q = tt
each_with P Q R f (x ∷ xs) p q = (f x p.0 q.0, each_with P Q R f xs p.1 q.1)

abbrev IsDoneIn : List Slice → Request → Type 0
IsDoneIn slices r = (n : ℕ) → n < length slices → is_of n r.ticket ≡ true → IsDone r.said.outcome

abbrev IsDoneIf : Request → Type 0
IsDoneIf r = moves_bytes r.said.command.kind ≡ true → IsDone r.said.outcome

source_one : (slices : List Slice) (by : Ticket) (said : Said) → AsksOfSource slices by said.command → ((n : ℕ) → n < length slices → is_of n by ≡ true → IsDone said.outcome) → moves_bytes said.command.kind ≡ true → IsDone said.outcome
source_one slices (ticket.Slice n) said asks done moves = done n asks.1.begun (eq-eqb n n refl)
source_one slices ticket.Extents said asks done moves = absurd (false≢true (sym (ap moves_bytes asks.0) ∙ moves))
source_one slices ticket.Flush said asks done moves = absurd asks

destination_one : (how : How) (slices : List Slice) (by : Ticket) (said : Said) → AsksOfDestination how slices by said.command → ((n : ℕ) → n < length slices → is_of n by ≡ true → IsDone said.outcome) → moves_bytes said.command.kind ≡ true → IsDone said.outcome
destination_one how slices (ticket.Slice n) said asks done moves = done n asks.1.begun (eq-eqb n n refl)
destination_one how slices ticket.Extents said asks done moves = absurd asks
destination_one how slices ticket.Flush said asks done moves = absurd (false≢true (sym (ap moves_bytes asks.0) ∙ moves))

pub finished_are_done : FinishedAreDone
finished_are_done how slices source destination stands = (
  each_with (λ (r : Request). AsksOfSource slices r.ticket r.said.command) (IsDoneIn slices) IsDoneIf (λ r asks done. source_one slices r.ticket r.said asks done) source stands.reads
      (each_all (length slices) (λ n r. is_of n r.ticket ≡ true → IsDone r.said.outcome) source (λ n l. own_each (λ (x : Said). IsDone x.outcome) n source (reads n l))),
  each_with (λ (r : Request). AsksOfDestination how slices r.ticket r.said.command) (IsDoneIn slices) IsDoneIf (λ r asks done. destination_one how slices r.ticket r.said asks done) destination stands.changes
      (each_all (length slices) (λ n r. is_of n r.ticket ≡ true → IsDone r.said.outcome) destination (λ n l. own_each (λ (x : Said). IsDone x.outcome) n destination (changes n l))),
)
  where
    reads : (n : ℕ) → n < length slices → AreDone (own n source)
    reads n l = let over : IsOver how (slice_at slices n) (own n source) (own n destination) = stands.each n l in read_done (slice_at slices n).zero (slice_at slices n) over.bytes (own n source) over.known.by

    changes : (n : ℕ) → n < length slices → AreDone (own n destination)
    changes n l = let over : IsOver how (slice_at slices n) (own n source) (own n destination) = stands.each n l in subst AreDone (sym over.asked) (wrote_done how (slice_at slices n).start over.did)

-- and so is each command
all_done : (histories : Histories) (requests : List Request) → AllTrack histories requests → Each IsDoneIf requests → AllAreDone histories
all_done histories requests all done link cookie asks is moves =
    let r : Request = request link cookie asks.flight.done.callback (record { command = bare asks; outcome = outcome_after (histories link) cookie }) in
    let there = found link cookie r requests ((all link).each cookie ∙ ap (λ a. request_of link cookie a (outcome_after (histories link) cookie)) is) in
    (Each-back IsDoneIf there.front (r ∷ there.back) (subst (λ l. Each IsDoneIf l) there.is done)).0 moves

pub finished_tracks : FinishedTracks
finished_tracks how slices sources destinations source destination stands reads changes =
    let done = finished_are_done how slices source destination stands in
    (all_done sources source reads done.0, all_done destinations destination changes done.1)

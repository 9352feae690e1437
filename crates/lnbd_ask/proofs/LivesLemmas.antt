-- A handle of which something is awaited lives, so that a pause for it waits for something.
use Rattle.std.proofs.Common.{◌≡◌, ◌≢◌, ◌==◌, ◌||◌, ◌&&◌, ℕ, zero, suc, ◌+◌, Bool, true, false, not, List, [], ◌∷◌, map, Option, Some, None, is_some, if◌then◌else◌, refl, ap, sym, ◌∙◌, arith}
use Rattle.std.proofs.lemmas.Bool.{eqb-true, false≢true}
use Rattle.lnbd_history.specs.declared.kinds.Phase.{Phase}
use Rattle.lnbd_history.specs.declared.kinds.Stage.{Stage}
use Rattle.lnbd_history.specs.declared.kinds.Stage.TheVariants.{Created, Open, Disconnecting, Aborting, Closed, Dead}
use Rattle.lnbd_history.specs.Agreement.{phase}
use Rattle.lnbd_history.specs.Answers.{direction_after, direction_of, in_flight_after, is_living, out_after, state_after, state_at}
use Rattle.lnbd_history.specs.Commands.{Request, query_of}
use Rattle.lnbd_history.specs.Entries.{Entry, Filing, Framed, Lost, Dropped, Item, completes, ends, is_ended, own, pieces}
use Rattle.lnbd_history.specs.Events.{History}
use Rattle.lnbd_history.specs.History.{asked, flying, in_flight, reading, request}
use Rattle.lnbd_handle.specs.Histories.{max_unretired}
use Rattle.lnbd_outcome.specs.Outcome.{Unfinished, bytes, failure, verdict}
use Rattle.lnbd_outcome.specs.Pieces.{is_completed}
use Rattle.lnbd_asked.specs.Transcript.{outcome_of, silent}
use Rattle.lnbd_poll.specs.States.{is_negotiating}
use Rattle.lnbd_tracks.proofs.Living.{waiting_lives}
use Rattle.lnbd_waits.specs.declared.waiting.Awaited.{Awaited}
use Rattle.lnbd_waits.specs.declared.waiting.Awaited.TheVariants as awaited
use Rattle.lnbd_waits.specs.Waits.{is_awaited, is_closing}
use Rattle.lnbd_ask.specs.Asks.{IsGoing}

-- In a state in which it negotiates or closes.

negotiating_lives : (s : Stage) (p : Phase) → is_negotiating (state_at s p) ≡ true → is_living s ≡ true
negotiating_lives Open p e = refl
negotiating_lives Disconnecting p e = refl
negotiating_lives Aborting p e = refl
negotiating_lives Created p e = absurd (false≢true e)
negotiating_lives Closed p e = absurd (false≢true e)
negotiating_lives (Dead cause) p e = absurd (false≢true e)

closing_lives : (s : Stage) (p : Phase) → is_closing (state_at s p) ≡ true → is_living s ≡ true
closing_lives Open p e = refl
closing_lives Disconnecting p e = refl
closing_lives Aborting p e = refl
closing_lives Created p e = absurd (false≢true e)
closing_lives Closed p e = absurd (false≢true e)
closing_lives (Dead cause) p e = absurd (false≢true e)

living_some : (living : Bool) (out : List ℕ) → living ≡ true → direction_of living out ≢ 0
living_some true [] e none = cc
living_some true (byte ∷ bytes) e none = cc
living_some false out e none = false≢true e

-- With a command in flight.

unfinished : {K : Type 0} (asks : Request K) (filings : List (Filing K)) → is_ended filings ≡ false → is_completed (pieces (map silent filings)) ≡ false
unfinished asks [] going = refl
unfinished {K} asks (filing ∷ earlier) going = go filing.item (unfinished asks earlier) going
  where
    go : (item : Item) → (is_ended earlier ≡ false → is_completed (pieces (map silent earlier)) ≡ false) → (ends item || is_ended earlier) ≡ false
        → (completes item || is_completed (pieces (map silent earlier))) ≡ false
    go (Framed content true) rest going = absurd (false≢true (sym going))
    go (Framed content false) rest going = rest going
    go Lost rest going = absurd (false≢true (sym going))
    go Dropped rest going = absurd (false≢true (sym going))

ended : {K : Type 0} (asks : Request K) (filings : List (Filing K)) → is_ended filings ≡ false → outcome_of (Some asks) filings ≡ Unfinished
ended asks filings going = ap (λ (b : Bool). if b then verdict (failure (query_of asks) (pieces (map silent filings))) (bytes (query_of asks) (pieces (map silent filings))) else Unfinished)
    (unfinished asks filings going)

module _ {K : Type 0} where
  one_flies : (history : History K) (entries : List (Entry K)) (n : ℕ) → not (flying history entries n == 0) ≡ true → (cookie : ℕ) × (in_flight history entries cookie ≡ true)
  one_flies history entries zero some = absurd (false≢true some)
  one_flies history entries (suc n) some = go (in_flight history entries (suc n)) refl (one_flies history entries n) some
    where
      go : (b : Bool) → in_flight history entries (suc n) ≡ b → (not (flying history entries n == 0) ≡ true → (cookie : ℕ) × (in_flight history entries cookie ≡ true))
          → not ((flying history entries n + (if b then 1 else 0)) == 0) ≡ true
          → (cookie : ℕ) × (in_flight history entries cookie ≡ true)
      go true e rest some = (suc n, e)
      go false e rest some = rest (ap (λ (m : ℕ). not (m == 0)) (omega arith) ∙ some)

  flying_lives : (history : History K) → IsGoing history → not (in_flight_after history == 0) ≡ true → is_living (reading history).known.stage ≡ true
  flying_lives history going some = go (request history one.0) refl (is_ended (own one.0 (reading history).known.entries)) refl one.1
    where
      one : (cookie : ℕ) × (in_flight history (reading history).known.entries cookie ≡ true)
      one = one_flies history (reading history).known.entries (asked history).issued some

      go : (o : Option (Request K)) → request history one.0 ≡ o → (b : Bool) → is_ended (own one.0 (reading history).known.entries) ≡ b → (is_some o && not b) ≡ true
          → is_living (reading history).known.stage ≡ true
      go None is b e flies = absurd (false≢true flies)
      go (Some asks) is true e flies = absurd (false≢true flies)
      go (Some asks) is false e flies = waiting_lives max_unretired history one.0 asks going.0 going.1 is
          (ap (λ (o : Option (Request K)). outcome_of o (own one.0 (reading history).known.entries)) is ∙ ended asks (own one.0 (reading history).known.entries) e)

  pub awaited_some : (which : Awaited) (history : History K) → IsGoing history → is_awaited which history ≡ true → direction_after history ≢ 0
  awaited_some awaited.Answers history going is = living_some (is_living (reading history).known.stage) (out_after history) (go (is_negotiating (state_after history)) refl is)
    where
      go : (b : Bool) → is_negotiating (state_after history) ≡ b → (b || not (in_flight_after history == 0)) ≡ true → is_living (reading history).known.stage ≡ true
      go true e any = negotiating_lives (reading history).known.stage (phase (reading history).known.turns) e
      go false e some = flying_lives history going some
  awaited_some awaited.Written history going is = λ none. (let three = eqb-true (direction_after history) 3 is in omega (arith, none, three))
  awaited_some awaited.End history going is = living_some (is_living (reading history).known.stage) (out_after history)
      (closing_lives (reading history).known.stage (phase (reading history).known.turns) is)

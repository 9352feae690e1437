-- A command that landed completes: what is live then, and the table after it.
use Rattle.std.proofs.Common.{◌≡◌, ℕ, List, [], ◌∷◌, ◌++◌, Bool, Option, Some, None, IsSome, refl, ap, sym, subst, ◌∙◌}
use Rattle.lnbd_keyed.specs.Keyed.{value_at, with_value, without}
use Rattle.lnbd_keyed.proofs.KeyedLemmas.{value_at_with}
use Rattle.lnbd_callbacks.specs.Calls.{is_keep}
use Rattle.lnbd_callbacks.specs.Desk.{Log}
use Rattle.lnbd_callbacks.specs.Slot.{Slot}
use Rattle.lnbd_callbacks.specs.declared.caller.Verdict.{Verdict}
use Rattle.lnbd_callbacks.specs.declared.caller.Verdict.TheVariants.{Keep, Retire}
use Rattle.lnbd_history.specs.Commands.{Flight}
use Rattle.lnbd_machine.specs.Machine.{Row}
use Rattle.lnbd_model.specs.declared.failure.Failure.{Failure}
use Rattle.lnbd_inflight.specs.Table.{Table}
use Rattle.lnbd_inflight.specs.Done.{forgetting}
use Rattle.lnbd_commands.specs.Completes.{answered, settled}
use Rattle.lnbd_commands.specs.Flights.{IsLiveFlight}
use Rattle.lnbd_commands.specs.Lands.{IsLiveRow}
use Rattle.lnbd_commands.specs.Rows.{changed, ended, flight_of_row, keeping, landed, unanswered}
use Rattle.lnbd_commands.proofs.ToldLemmas.{changed_at, changed_twice}

module _ {K : Type 0} where
  -- a note ends no callback
  live_kept : (first : Option (Slot K)) (done : Slot K) (before after : Log) → after.live ≡ before.live → IsLiveFlight (record { first = first; done = done }) before → IsLiveFlight (record { first = first; done = done }) after
  live_kept None done before after same live = record { first = tt; done = rw same live.done; fresh = live.fresh }
  live_kept (Some slot) done before after same live = record { first = rw same live.first; done = rw same live.done; fresh = live.fresh }

  pub live_flight : (row : Option (Flight K)) (flight : Flight K) (before after : Log) → row ≡ Some flight → after.live ≡ before.live → IsLiveRow row before → IsLiveFlight flight after
  live_flight row flight before after flies same live =
      live_kept flight.first flight.done before after same (subst (λ (o : Option (Flight K)). IsLiveRow o before) flies live)

  -- its row, where the callback's answer is in it
  module _ (cookie : ℕ) (verdict : Verdict) (failure : Option Failure) (row old new : Row K) (rows : List (ℕ × Row K)) (at : value_at cookie rows ≡ Some row)
      (lands : old ≡ landed failure (unanswered failure) row) (answers : new ≡ answered verdict old) where
    pub completed_held : IsSome (value_at cookie (with_value cookie new rows))
    completed_held = rw (value_at_with cookie row new rows at) refl

    is_row : new ≡ answered verdict (landed failure (unanswered failure) row)
    is_row = answers ∙ ap (answered verdict) lands

    pub completed_empty : flight_of_row (value_at cookie (with_value cookie new rows)) ≡ None
    completed_empty = ap flight_of_row (value_at_with cookie row new rows at) ∙ ap (λ (r : Row K). r.flight) is_row ∙ empty verdict
      where
        empty : (verdict : Verdict) → (answered verdict (landed failure (unanswered failure) row)).flight ≡ None
        empty (Keep error bytes) = refl
        empty Retire = refl

    -- it is kept or retired
    pub completed_table : (kept : Bool) (done : List ℕ) (after : Table (Row K)) → kept ≡ is_keep verdict → after ≡ settled kept cookie (record { rows = with_value cookie new rows; done = done }) →
        after ≡ ended verdict cookie (record { rows = changed (landed failure (unanswered failure)) cookie rows; done = done })
    completed_table kept done after keeps settles =
        settles
        ∙ ap (λ (b : Bool). settled b cookie (record { rows = with_value cookie new rows; done = done })) keeps
        ∙ ap (λ (r : Row K). settled (is_keep verdict) cookie (record { rows = with_value cookie r rows; done = done })) is_row
        ∙ settled_ended verdict
      where
        settled_ended : (verdict : Verdict) →
            settled (is_keep verdict) cookie (record { rows = with_value cookie (answered verdict (landed failure (unanswered failure) row)) rows; done = done })
            ≡ ended verdict cookie (record { rows = changed (landed failure (unanswered failure)) cookie rows; done = done })
        settled_ended (Keep error bytes) =
            sym (ap (λ (all : List (ℕ × Row K)). record { rows = all; done = done ++ cookie ∷ [] }) (changed_twice cookie (landed failure (unanswered failure)) (keeping (record { error = error; bytes = bytes })) row rows at))
        settled_ended Retire =
            sym (ap (λ (all : List (ℕ × Row K)). record { rows = without cookie all; done = forgetting cookie done }) (changed_at cookie (landed failure (unanswered failure)) row rows at))

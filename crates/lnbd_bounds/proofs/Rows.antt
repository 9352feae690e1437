-- Commands in flight.
use Rattle.std.proofs.Common.{◌≡◌, ℕ, ◌≤◌, ◌<◌, Bool, true, false, List, [], Option, Some, None, is_some, refl, ap, arith, nat_le, if◌then◌else◌}
use Rattle.lnbd_model.specs.declared.export.Context.{Context as MetaContext}
use Rattle.lnbd_callbacks.specs.declared.caller.Heard.{Heard}
use Rattle.lnbd_keyed.specs.Keyed.{value_at, with_value}
use Rattle.lnbd_history.specs.Arrivals.{Content, Waiting}
use Rattle.lnbd_history.specs.Commands.{Flight}
use Rattle.lnbd_history.specs.Entries.{Framed, heard_error}
use Rattle.lnbd_outcome.specs.Facts.{facts_with}
use Rattle.lnbd_machine.specs.Machine.{Row, State, query_in, hearing, filed, waiting_row, waited_of, waited}
use Rattle.lnbd_bounds.specs.Owed.{owed}
use Rattle.lnbd_bounds.specs.Budget.{total_of, asked_of, owed_of}
use Rattle.lnbd_bounds.proofs.Owed.{MayFollow, waiting_for, follows_less, owes_one}
use Rattle.lnbd_bounds.proofs.Sums.{total_with, total_without}

module _ {K : Type 0} where
  -- a command in flight, with what is waited for
  pub record Flying (cookie : ℕ) (command : Waiting) (rows : List (ℕ × Row K)) : Type 0 where
    pub row : Row K
    pub there : value_at cookie rows ≡ Some row
    pub flight : Flight K
    pub flies : row.flight ≡ Some flight
    pub same : waiting_for (query_in row) row.facts ≡ command

  pub waited_flies : (cookie : ℕ) (command : Waiting) (state : State K) → waited state cookie ≡ Some command → Flying cookie command state.rows
  waited_flies cookie command state e = go (nat_le cookie state.written) (value_at cookie state.rows) refl e
    where
      in_row : (row : Row K) → value_at cookie state.rows ≡ Some row → (flight : Option (Flight K)) → row.flight ≡ flight → waiting_row flight row ≡ Some command → Flying cookie command state.rows
      in_row row there None flies e = cc
      in_row row there (Some flight) flies e = record { row = row; there = there; flight = flight; flies = flies; same = cc }

      go : (b : Bool) (r : Option (Row K)) → value_at cookie state.rows ≡ r → waited_of b r ≡ Some command → Flying cookie command state.rows
      go false r v e = cc
      go true None v e = cc
      go true (Some row) v e = in_row row v row.flight refl e

  -- fewer replies may come, and no more is asked
  pub record Fewer (contexts : List MetaContext) (old new : List (ℕ × Row K)) : Type 0 where
    pub fewer : total_of (owed_of contexts) new < total_of (owed_of contexts) old
    pub shorter : total_of asked_of new ≤ total_of asked_of old

  module _ (contexts : List MetaContext) (cookie : ℕ) (row : Row K) (flight : Flight K) (flies : row.flight ≡ Some flight) (rows : List (ℕ × Row K)) (there : value_at cookie rows ≡ Some row) where
    owes : owed_of contexts row ≡ owed (query_in row) contexts row.facts
    owes = ap (λ (fl : Option (Flight K)). if is_some fl then owed (query_in row) contexts row.facts else 0) flies

    asks : asked_of row ≡ row.length
    asks = ap (λ (fl : Option (Flight K)). if is_some fl then row.length else 0) flies

    -- a command that ended
    pub ended_fewer : (gone : Bool) (new : Row K) → new.flight ≡ None → Fewer contexts rows (filed gone cookie new rows)
    ended_fewer true new ended = record {
      fewer = omega (arith, owes, owes_one (query_in row) contexts row.facts, total_without (owed_of contexts) cookie row rows there);
      shorter = omega (arith, total_without asked_of cookie row rows there);
    }
    ended_fewer false new ended =
        let none : owed_of contexts new ≡ 0 = ap (λ (fl : Option (Flight K)). if is_some fl then owed (query_in new) contexts new.facts else 0) ended in
        let asked : asked_of new ≡ 0 = ap (λ (fl : Option (Flight K)). if is_some fl then new.length else 0) ended in
        record {
          fewer = omega (arith, owes, none, owes_one (query_in row) contexts row.facts, total_with (owed_of contexts) cookie row new rows there);
          shorter = omega (arith, asked, total_with asked_of cookie row new rows there);
        }

    -- a reply that isn't the last
    pub told_fewer : (content : Content) (heard : Option Heard) → MayFollow (waiting_for (query_in row) row.facts) content → Fewer contexts rows (with_value cookie (hearing row contexts (Framed content false) heard) rows)
    told_fewer content heard follows =
        let new = hearing row contexts (Framed content false) heard in
        let facts = facts_with (query_in row) contexts (Framed content false) (heard_error heard) row.facts in
        let more : owed_of contexts new ≡ owed (query_in row) contexts facts = ap (λ (fl : Option (Flight K)). if is_some fl then owed (query_in row) contexts facts else 0) flies in
        let asked : asked_of new ≡ row.length = ap (λ (fl : Option (Flight K)). if is_some fl then row.length else 0) flies in
        record {
          fewer = omega (arith, owes, more, follows_less (query_in row) contexts row.facts (heard_error heard) content follows, total_with (owed_of contexts) cookie row new rows there);
          shorter = omega (arith, asks, asked, total_with asked_of cookie row new rows there);
        }

    pub row_long : row.length ≤ total_of asked_of rows
    row_long = omega (arith, asks, total_without asked_of cookie row rows there)

  pub flying_long : (cookie : ℕ) (command : Waiting) (rows : List (ℕ × Row K)) → Flying cookie command rows → command.length ≤ total_of asked_of rows
  flying_long cookie command rows f = omega (arith, row_long [] cookie f.row f.flight f.flies rows f.there, ap (λ (w : Waiting). w.length) f.same)

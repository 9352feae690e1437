-- The end was asked for.
use Rattle.std.proofs.Common.{◌≡◌, Bool, true, false, List, [], ◌∷◌, Some, None, Result, Ok, Err, sym, ◌∙◌, ap}
use Rattle.std.specs.Prelude.{IfErr, OnOk, slice_get}
use Rattle.std.specs.Option.{option_map}
use Rattle.lnbd_model.specs.declared.refusal.Why.{Why}
use Rattle.lnbd_model.specs.declared.state.State.{State}
use Rattle.lnbd_model.specs.declared.state.State.TheVariants as state
use Rattle.lnbd_history.specs.Answers.{state_after}
use Rattle.lnbd_history.specs.Events.{Disconnect, History}
use Rattle.lnbd_history.specs.Refusals.{by_state}
use Rattle.lnbd_machine.specs.Machine.{Machine}
use Rattle.lnbd_machine.specs.Now.{state_now}
use Rattle.lnbd_standing.specs.Standing.{StandsFor}
use Rattle.lnbd_standing.proofs.Standing.{stands_right}
use Rattle.lnbd_handle.specs.Histories.{AddsOnOk, ForEach}
use Rattle.lnbd_poll.specs.Held.{Held}
use Rattle.lnbd_poll.specs.Lends.{with_handle}
use Rattle.lnbd_poll.specs.Seen.{Seen}
use Rattle.lnbd_waits.specs.Begun.{disconnecting, is_ready, parting}
use Rattle.lnbd_waits.specs.Waits.{Holds}
use Rattle.lnbd_waits.proofs.WaitLemmas.{at_handle}

module _ {K : Type 0} where
  parted_history : (b : Bool) (result : Result (Unit {0}) Why) (s : State) (history : History K) (handle' : Machine K) → is_ready s ≡ b → OnOk result (s ≡ state.Ready) → IfErr result (λ why. by_state s None ≡ Some why) → AddsOnOk result Disconnect handle' history
      → StandsFor 1024 (disconnecting b history) handle'
  parted_history true (Ok done) s history handle' is allowed refused adds = adds
  parted_history false (Ok done) s history handle' is allowed refused adds = absurd (cc (sym is ∙ ap is_ready allowed))
  parted_history false (Err why) s history handle' is allowed refused adds = adds
  parted_history true (Err why) state.Ready history handle' is allowed refused adds = absurd (cc refused)
  parted_history true (Err why) state.Created history handle' is allowed refused adds = absurd (cc is)
  parted_history true (Err why) state.Negotiating history handle' is allowed refused adds = absurd (cc is)
  parted_history true (Err why) state.OptMode history handle' is allowed refused adds = absurd (cc is)
  parted_history true (Err why) state.Closing history handle' is allowed refused adds = absurd (cc is)
  parted_history true (Err why) state.Closed history handle' is allowed refused adds = absurd (cc is)
  parted_history true (Err why) (state.Dead cause) history handle' is allowed refused adds = absurd (cc is)

  -- The end was asked for, where commands may be issued.
  pub parted : (all : List (Held K)) (handle handle' : Machine K) (result : Result (Unit {0}) Why) (seen : Seen K) → option_map (λ held. held.handle) (slice_get all 0) ≡ Some handle → Holds all seen
      → OnOk result (state_now handle.known ≡ state.Ready) → IfErr result (λ why. by_state (state_now handle.known) None ≡ Some why) → ForEach handle (AddsOnOk result Disconnect handle') → Holds (with_handle all 0 handle') (parting seen)
  parted [] handle handle' result seen is at allowed refused adds = absurd at
  parted (held ∷ others) handle handle' result seen is at allowed refused adds =
      let stands = at_handle (held ∷ others) handle seen is at in
      let same : state_now handle.known ≡ state_after seen.history = (stands_right 1024 seen.history handle stands).state in
      let stands' = parted_history (is_ready (state_after seen.history)) result (state_now handle.known) seen.history handle' (ap is_ready same) allowed refused (adds seen.history stands) in
      (record { link = at.0.link; stands = stands'; unread = at.0.unread }, at.1)

-- A handle has parted, by what it answers.
use Rattle.std.proofs.Common.{◌≡◌, ◌≢◌, ◌==◌, inl, inr, ℕ, Bool, true, false, not, List, Some, slice_get, sym, ◌∙◌}
use Rattle.std.proofs.lemmas.Bool.{eq-eqb, false≢true}
use Rattle.std.specs.Option.{option_map}
use Rattle.lnbd_model.specs.declared.state.State.{State}
use Rattle.lnbd_model.specs.declared.state.State.TheVariants as state
use Rattle.lnbd_history.specs.Answers.{direction_after, state_after}
use Rattle.lnbd_machine.specs.Machine.{Machine}
use Rattle.lnbd_handle.specs.Histories.{ForEach}
use Rattle.lnbd_poll.specs.Held.{Held}
use Rattle.lnbd_board.specs.declared.ticket.Ticket.{Ticket}
use Rattle.lnbd_conduct.specs.Driven.{HasParted}
use Rattle.lnbd_copy.specs.Grounds.{Happens}
use Rattle.lnbd_copy.proofs.GroundLemmas.{happens}

module _ (handle : Machine Ticket) (now : State) (told : ForEach handle (λ history. now ≡ state_after history)) (index : ℕ) (held : List (Held Ticket)) (there : option_map (λ (one : Held Ticket). one.handle) (slice_get held index) ≡ Some handle) where
  pub has_ended : now ≡ state.Closed → Happens HasParted index held
  has_ended is = happens handle HasParted (λ history stands. inl (sym (told history stands) ∙ is)) index held there

  pub has_written : now ≡ state.Closing → (waits : Bool) → ForEach handle (λ history. waits ≡ (direction_after history == 3)) → not waits ≡ true → Happens HasParted index held
  has_written is waits waiting none =
      happens handle HasParted (λ history stands. inr (sym (told history stands) ∙ is, other (direction_after history) waits (waiting history stands) none)) index held there
    where
      other : (n : ℕ) (waits : Bool) → waits ≡ (n == 3) → not waits ≡ true → n ≢ 3
      other n true same none = absurd (false≢true none)
      other n false same none = λ e. false≢true (same ∙ eq-eqb n 3 e)

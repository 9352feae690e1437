-- Options that the caller asks, and settings.
use Rattle.std.proofs.Common.{◌≡◌, ℕ, Bool, true, false, not, ◌&&◌, ◌||◌, ◌==◌, List, [], ◌++◌, map, Option, refl, ap, sym, ◌∙◌}
use Rattle.std.proofs.lemmas.Bool.{false≢true, eqb-true}
use Rattle.lnbd_model.specs.declared.export.Listed.{Listed}
use Rattle.lnbd_model.specs.declared.state.State.TheVariants as state
use Rattle.lnbd_history.specs.declared.kinds.Phase.{Phase}
use Rattle.lnbd_history.specs.declared.kinds.Phase.TheVariants as phase
use Rattle.lnbd_history.specs.declared.kinds.Stage.{Stage}
use Rattle.lnbd_history.specs.declared.kinds.Stage.TheVariants.{Created, Open, Disconnecting, Aborting, Closed, Dead}
use Rattle.lnbd_history.specs.Agreement.{Opted, settles_replies}
use Rattle.lnbd_history.specs.declared.kinds.OptAnswer.{OptAnswer}
use Rattle.lnbd_history.specs.Answers.{state_at, listed_after, opt_answer_after}
use Rattle.lnbd_history.specs.Laws.{is_call}
use Rattle.lnbd_history.specs.Outgoing.{plain}
use Rattle.lnbd_history.specs.Talk.{Talk, taking, sent}
use Rattle.lnbd_machine.specs.Machine.{Machine, turned}
use Rattle.lnbd_negotiate.specs.Means.{Takes}
use Rattle.lnbd_standing.proofs.Standing.{stands_right}
use Rattle.lnbd_outgoing.specs.Queue.{Queue, waits}
use Rattle.lnbd_handle.specs.declared.connection.Connection.{Connection}
use Rattle.lnbd_handle.specs.Histories.{ForEach}
use Rattle.lnbd_handle.specs.Seen.{state_of, waits_in, writes_in}
use Rattle.lnbd_handle.proofs.GreetLemmas.{Queues}

-- Opt mode is a phase of an open connection.
pub opt_open : (s : Stage) (p : Phase) → state_at s p ≡ state.OptMode → (s ≡ Open) × (p ≡ phase.OptMode)
opt_open Created p e = cc
opt_open Open phase.Greeting e = cc
opt_open Open (phase.Asked option) e = cc
opt_open Open phase.AskedByName e = cc
opt_open Open phase.OptMode e = (refl, refl)
opt_open Open phase.Ready e = cc
opt_open Open (phase.Refused code) e = cc
opt_open Disconnecting p e = cc
opt_open Aborting p e = cc
opt_open Closed p e = cc
opt_open (Dead cause) p e = cc

-- No option of the caller settles how the server replies.
pub call_settles : (option : ℕ) → is_call option ≡ true → settles_replies option ≡ false
call_settles option e = go (option == 3) refl (option == 6) refl (option == 7) refl (option == 10) refl e
  where
    go : (a : Bool) → (option == 3) ≡ a → (b : Bool) → (option == 6) ≡ b → (d : Bool) → (option == 7) ≡ d → (f : Bool) → (option == 10) ≡ f → (a || b || d || f) ≡ true → settles_replies option ≡ false
    go true is b _ d _ f _ e = ap settles_replies (eqb-true option 3 is)
    go false _ true is d _ f _ e = ap settles_replies (eqb-true option 6 is)
    go false _ false _ true is f _ e = ap settles_replies (eqb-true option 7 is)
    go false _ false _ false _ true is e = ap settles_replies (eqb-true option 10 is)
    go false _ false _ false _ false _ e = absurd (false≢true e)

-- Where it lacks nothing SET_META_CONTEXT has structured replies.
pub has_structured : (option : ℕ) (structured : Bool) → ((option == 10) && not structured) ≡ false → option ≡ 10 → structured ≡ true
has_structured option structured none is = go structured (sym (ap (λ (o : ℕ). (o == 10) && not structured) is) ∙ none)
  where
    go : (on : Bool) → not on ≡ false → on ≡ true
    go true e = refl
    go false e = absurd (false≢true (sym e))

module _ {K : Type 0} where
  pub opted_state : (old : Connection K) (talk : Talk) (queue : Queue) (option : ℕ) (request : List ℕ) → Takes (Opted option) old.talk talk [] request → Queues request (waits_in old) (waits (writes_in old.commands) queue) →
      state_of (record old { talk = talk; queue = queue }) ≡ turned (Opted option) (state_of old)
  opted_state old talk queue option request takes queues =
      let t = taking (Opted option) old.talk in
      let all : waits (writes_in old.commands) queue ≡ waits_in old ++ map plain (sent (Opted option) old.talk) = queues t.phase t.name t.wanted takes.sends in
      ap (λ t. state_of (record old { talk = t; queue = queue })) takes.talk ∙ ap (λ w. record (state_of (record old { talk = t })) { waits = w }) all

  -- What the machine answers the history says.
  module _ (now : Machine K) where
    pub opt_answer_told : (answer : Option OptAnswer) → answer ≡ now.known.talk.answer → ForEach now (λ history. answer ≡ opt_answer_after history)
    opt_answer_told answer is history stands = is ∙ (stands_right 1024 history now stands).opt_answer

    pub listed_told : (listing : List Listed) → listing ≡ now.known.talk.listing → ForEach now (λ history. listing ≡ listed_after history)
    listed_told listing is history stands = is ∙ (stands_right 1024 history now stands).listed

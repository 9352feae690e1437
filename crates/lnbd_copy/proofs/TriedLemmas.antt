-- From pause to pause each link that was wanted is tried.
use Rattle.std.proofs.Common.{◌≡◌, ◌⊎◌, inl, inr, ℕ, zero, suc, List, [], ◌∷◌, ◌++◌, Option, Some, None, slice_get, refl, ap, sym, subst, ◌∙◌, append_assoc}
use Rattle.lnbd_history.specs.Answers.{direction_after, state_after}
use Rattle.lnbd_model.specs.declared.state.State.{State}
use Rattle.lnbd_model.specs.declared.state.State.TheVariants as state
use Rattle.lnbd_drives.specs.Driving.{AllPlain}
use Rattle.lnbd_link.specs.Call as wire
use Rattle.lnbd_link.specs.Call.{Pause}
use Rattle.lnbd_link.specs.Part.{Adds}
use Rattle.lnbd_link.specs.declared.wires.Want.{Want}
use Rattle.lnbd_poll.specs.declared.noticed.Turn.{Turn}
use Rattle.lnbd_poll.specs.declared.noticed.Turn.TheVariants as turn
use Rattle.lnbd_poll.specs.Held.{Held, AreAt, wants_now}
use Rattle.lnbd_poll.specs.Seen.{Seen}
use Rattle.lnbd_poll.specs.Seen as poll
use Rattle.lnbd_poll.specs.Turned.{TurnsWhole}
use Rattle.lnbd_poll.specs.Turns.{Whole}
use Rattle.lnbd_board.specs.declared.ticket.Ticket.{Ticket}
use Rattle.lnbd_board.specs.Files as board
use Rattle.lnbd_copy.specs.Agreed.{AreQuiet}
use Rattle.lnbd_copy.specs.Copier.{IsOnItsWay}
use Rattle.lnbd_copy.specs.Copier as copier
use Rattle.lnbd_copy.specs.Pauses.{Unpaused}
use Rattle.lnbd_conduct.specs.Pauses.{TriedBefore, WereTried}
use Rattle.lnbd_usage.specs.Pauses.{AtEachPause}
use Rattle.lnbd_copy.specs.Tried.{AnyLeft, AreHeardOut, IsLeft, IsLeftEarly, NoneLeft, RestsEarly, TriedBut, Tries, TriesAll}
use Rattle.lnbd_copy.specs.Way.{Stand}
use Rattle.lnbd_conduct.specs.Told.{Told}
use Rattle.lnbd_copy.proofs.CopierLemmas.{told_as}
use Rattle.lnbd_copy.proofs.FullLemmas.{steps, still_none, turns_unpaused}
use Rattle.lnbd_copy.proofs.PauseLemmas.{no_pause_then}
use Rattle.lnbd_copy.proofs.TriedCalls.{tried_none, tried_on, tried_rests, tried_stays}
use Rattle.lnbd_copy.proofs.TriedTurns.{all_were_tried, held_heard, turns_busy, turns_heard, turns_try}
use Rattle.lnbd_copy.proofs.TurnLemmas.{since_on, told_begins}

-- A turn, where it is told.

heard_plain : (held : List (Held Ticket)) (seens : List (Seen Ticket)) → AreAt held seens → AllPlain seens → AreHeardOut held
heard_plain [] [] at plain = tt
heard_plain [] (s ∷ ss) at plain = absurd at
heard_plain (x ∷ xs) [] at plain = absurd at
heard_plain (x ∷ xs) (s ∷ ss) at plain = ((λ alone. sym at.0.unread ∙ plain.0.arrived), heard_plain xs ss at.1 plain.1)

module _ (a b : Option (List wire.Call)) (f g : ℕ) (told : Turn) (now now' : board.Seen) (held held' : List (Held Ticket))
    (goes : poll.Goes a b (λ seens. AreAt held seens) (λ seens. AreAt held' seens) (λ before calls after. TurnsWhole steps f g told before now calls after now')) where
  tries_at : (seens : List (Seen Ticket)) → AreAt held seens → ((before : List wire.Call) → a ≡ Some before → AreHeardOut held) → TriesAll held a b
  tries_at seens at heard = record {
    on = λ all is.
        let went = goes seens at in
        let grown = went.grown all is in
        let busy = turns_busy steps seens now went.calls went.after now' (Whole went.leads.moved) went.leads.turns in
        let tries = turns_try steps seens now went.calls went.after now' (Whole went.leads.moved) went.leads.turns went.leads.all went.leads.moved refl in
        record {
          before = grown.0;
          more = went.calls;
          was = grown.1;
          now = grown.2;
          are = (turns_unpaused steps seens now went.calls went.after now' (Whole went.leads.moved) went.leads.turns, all_were_tried went.calls busy held seens at tries (heard grown.0 grown.1));
        };
  }

  -- Where nothing happened in it all that was read has arrived.
  pub turned_heard : told ≡ turn.Still → Stand held → AreHeardOut held'
  turned_heard still s =
      let went = goes s.seens s.at in
      held_heard held' went.after went.at (turns_heard steps s.seens now went.calls went.after now' (Whole went.leads.moved) went.leads.turns (ap Whole (still_none went.leads.moved told went.leads.tells still)))

-- One of a copy on its way.
pub way_tries : (copy : copier.Seen) (start a b : Option (List wire.Call)) (f g : ℕ) (told : Turn) (now' : board.Seen) (held' : List (Held Ticket))
    → poll.Goes a b (λ seens. AreAt copy.held seens) (λ seens. AreAt held' seens) (λ before calls after. TurnsWhole steps f g told before copy.board calls after now') → IsOnItsWay start a copy → TriesAll copy.held a b
way_tries copy start a b f g told now' held' goes way =
    tries_at a b f g told copy.board now' copy.held held' goes way.stand.seens way.stand.at
    (λ before was. let on = (way.on.since before was).is in heard_plain copy.held on.seens on.at on.stands.between.course.drive.plain)

-- Calls without a pause behind it.
pub tries_behind : (held : List (Held Ticket)) (a b c : Option (List wire.Call)) → Unpaused b c → TriesAll held a b → TriesAll held a c
tries_behind held a b c unpaused tries = record {
  on = λ all is.
      let late = unpaused.on all is in
      let early = tries.on late.before late.was in
      record {
        before = early.before;
        more = early.more ++ late.more;
        was = early.was;
        now = late.now ∙ ap (λ (l : List wire.Call). l ++ late.more) early.now ∙ append_assoc early.before early.more late.more;
        are = (no_pause_then early.more late.more early.are.0 late.are, tried_stays (wants_now held) early.more late.more early.are.1);
      };
}

-- What is left to be tried, since some start.

pub left_begins : (start : Option (List wire.Call)) → Told start start (TriedBut NoneLeft)
left_begins start = told_begins start tried_none

pub left_stays : (start a b : Option (List wire.Call)) → Unpaused a b → Told start a (TriedBut NoneLeft) → Told start b (TriedBut NoneLeft)
left_stays start a b unpaused told = record {
  since = λ all is.
      let made = unpaused.on all is in
      let since = told.since made.before made.was in
      since_on start made.before all made.more made.now since (tried_on since.calls made.more made.are (λ wanted rest left. absurd left) since.is);
}

pub left_any : {AreLeft : List Want → List wire.Call → Type 0} (start a b : Option (List wire.Call)) → Unpaused a b → Told start a (TriedBut AreLeft) → Told start b (TriedBut AnyLeft)
left_any start a b unpaused told = record {
  since = λ all is.
      let made = unpaused.on all is in
      let since = told.since made.before made.was in
      since_on start made.before all made.more made.now since (tried_on since.calls made.more made.are (λ wanted rest left. inr tt) since.is);
}

-- A turn for the handles for which was waited leaves none.
pub left_turned : {AreLeft : List Want → List wire.Call → Type 0} (held : List (Held Ticket)) (start a b : Option (List wire.Call)) → ((wanted : List Want) (since : List wire.Call) → AreLeft wanted since → IsLeft held wanted since) → TriesAll held a b → Told start a (TriedBut AreLeft) → Told start b (TriedBut NoneLeft)
left_turned {AreLeft} held start a b is_left tries told = record {
  since = λ all is.
      let made = tries.on all is in
      let since = told.since made.before made.was in
      since_on start made.before all made.more made.now since (tried_on since.calls made.more made.are.0 (λ wanted rest left. inl (tried wanted rest made.more (is_left wanted rest left) made.are.1)) since.is);
}
  where
    tried : (wanted : List Want) (rest more : List wire.Call) → IsLeft held wanted rest → WereTried (wants_now held) more → WereTried wanted (rest ++ more)
    tried wanted rest more left were = subst (λ (l : List wire.Call). WereTried wanted (l ++ more)) (sym left.none) (subst (λ (w : List Want). WereTried w more) (sym left.wants) were)

pub left_rests : {AreLeft : List Want → List wire.Call → Type 0} (start a b : Option (List wire.Call)) (wants : List Want) → AreLeft wants [] → Adds a b (Pause wants) → Told start a (TriedBut NoneLeft) → Told start b (TriedBut AreLeft)
left_rests start a b wants left adds told = record {
  since = λ all is.
      let added = adds all is in
      let since = told.since added.0 added.1 in
      since_on start added.0 all (Pause wants ∷ []) added.2 since (tried_rests since.calls wants left since.is);
}

-- none of it, where nothing may be left
pub left_none : {AreLeft AreLeft' : List Want → List wire.Call → Type 0} (start a : Option (List wire.Call)) → ((wanted : List Want) (since : List wire.Call) → AreLeft wanted since → AreLeft' wanted since) → Told start a (TriedBut AreLeft) → Told start a (TriedBut AreLeft')
left_none {AreLeft} {AreLeft'} start a leads told = told_as start a (λ calls tried. record { each = tried.each; now = λ earlier since wanted e. go wanted since (tried.now earlier since wanted e) }) told
  where
    go : (wanted : List Want) (since : List wire.Call) → WereTried wanted since ⊎ AreLeft wanted since → WereTried wanted since ⊎ AreLeft' wanted since
    go wanted since (inl was) = inl was
    go wanted since (inr left) = inr (leads wanted since left)

pub left_tried : {AreLeft : List Want → List wire.Call → Type 0} (start a : Option (List wire.Call)) → Told start a (TriedBut AreLeft) → Told start a (AtEachPause TriedBefore)
left_tried start a told = told_as start a (λ calls tried. tried.each) told

-- Steps, from wherever it was so.

pub tries_none : (a : Option (List wire.Call)) → Tries NoneLeft a a
tries_none a = record { on = λ start told. told }

pub tries_unpaused : (a b : Option (List wire.Call)) → Unpaused a b → Tries NoneLeft a b
tries_unpaused a b unpaused = record { on = λ start told. left_stays start a b unpaused told }

pub tries_then : {AreLeft : List Want → List wire.Call → Type 0} (a b c : Option (List wire.Call)) → Tries NoneLeft a b → Tries AreLeft b c → Tries AreLeft a c
tries_then a b c one two = record { on = λ start told. two.on start (one.on start told) }

pub tries_any : {AreLeft : List Want → List wire.Call → Type 0} (a b c : Option (List wire.Call)) → Tries AreLeft a b → Unpaused b c → Tries AnyLeft a c
tries_any a b c one unpaused = record { on = λ start told. left_any start b c unpaused (one.on start told) }

pub tries_anyhow : {AreLeft : List Want → List wire.Call → Type 0} (a b : Option (List wire.Call)) → Tries AreLeft a b → Tries AnyLeft a b
tries_anyhow a b one = record { on = λ start told. left_none start b (λ wanted since left. tt) (one.on start told) }

pub tries_begin : {AreLeft : List Want → List wire.Call → Type 0} (a b : Option (List wire.Call)) → Tries AreLeft a b → Told a b (TriedBut AreLeft)
tries_begin a b tries = tries.on a (left_begins a)

-- While connections negotiate.

pub early_none : (held : List (Held Ticket)) (a : Option (List wire.Call)) → Tries (IsLeftEarly held) a a
early_none held a = record { on = λ start told. left_none start a (λ wanted since left. absurd left) told }

-- a turn of theirs
module _ (a b c : Option (List wire.Call)) (f g : ℕ) (told : Turn) (now now' : board.Seen) (held held' : List (Held Ticket))
    (goes : poll.Goes b c (λ seens. AreAt held seens) (λ seens. AreAt held' seens) (λ before calls after. TurnsWhole steps f g told before now calls after now')) where
  -- each is tried where nothing is left, or where all has arrived
  early_part : (s : Stand held) (start : Option (List wire.Call)) → Told start b (TriedBut (IsLeftEarly held)) → Told start c (TriedBut NoneLeft)
  early_part s start left = record {
    since = λ all is.
        let went = goes s.seens s.at in
        let grown = went.grown all is in
        let none = turns_unpaused steps s.seens now went.calls went.after now' (Whole went.leads.moved) went.leads.turns in
        let since = left.since grown.0 grown.1 in
        let busy = turns_busy steps s.seens now went.calls went.after now' (Whole went.leads.moved) went.leads.turns in
        let tries = turns_try steps s.seens now went.calls went.after now' (Whole went.leads.moved) went.leads.turns went.leads.all went.leads.moved refl in
        since_on start grown.0 all went.calls grown.2 since
        (tried_on since.calls went.calls none (λ wanted rest early. inl (tried wanted rest went.calls early.left (all_were_tried went.calls busy held s.seens s.at tries early.heard))) since.is);
  }
    where
      tried : (wanted : List Want) (rest more : List wire.Call) → IsLeft held wanted rest → WereTried (wants_now held) more → WereTried wanted (rest ++ more)
      tried wanted rest more left were = subst (λ (l : List wire.Call). WereTried wanted (l ++ more)) (sym left.none) (subst (λ (w : List Want). WereTried w more) (sym left.wants) were)

  pub early_turned : Stand held → Tries (IsLeftEarly held) a b → Tries NoneLeft a c
  early_turned s tries = record { on = λ start told. early_part s start (tries.on start told) }

-- and then a pause, or nothing
pub early_rests : (held held' : List (Held Ticket)) (still : Type 0) (a b c : Option (List wire.Call)) → held' ≡ held → (still → AreHeardOut held) → RestsEarly held still b c → Tries NoneLeft a b → Tries (IsLeftEarly held') a c
early_rests held held' still a b c same heard rests tries = subst (λ (h : List (Held Ticket)). Tries (IsLeftEarly h) a c) (sym same) (go rests)
  where
    go : RestsEarly held still b c → Tries (IsLeftEarly held) a c
    go (inl none) = record { on = λ start told. subst (λ (t : Option (List wire.Call)). Told start t (TriedBut (IsLeftEarly held))) (sym none) (left_none start b (λ wanted since left. absurd left) (tries.on start told)) }
    go (inr paused) = record {
      on = λ start told. left_rests start b c (wants_now held)
          (record { left = record { none = refl; wants = refl }; heard = heard paused.0; loud = paused.1 }) paused.2 (tries.on start told);
    }

-- Where all are ready and have nothing to write none is left.

loud_quiet : {A : Type 0} (index : ℕ) (held : List (Held Ticket)) (seens : List (Seen Ticket)) (seen : Seen Ticket) → AreAt held seens → AreQuiet held → slice_get seens index ≡ Some seen → (state_after seen.history ≡ state.Negotiating) ⊎ (direction_after seen.history ≡ 3) → A
loud_quiet index held [] seen at quiet there loud = absurd (no seen there)
  where
    no : (s : Seen Ticket) → None ≡ Some s → ⊥
    no s e = cc
loud_quiet index [] (s ∷ ss) seen at quiet there loud = absurd at
loud_quiet {A} zero (x ∷ xs) (s ∷ ss) seen at quiet there loud = go loud
  where
    same : (one other : Seen Ticket) → Some one ≡ Some other → one ≡ other
    same one other e = cc

    ready_not : (st : State) → st ≡ state.Ready → st ≡ state.Negotiating → ⊥
    ready_not st one other = cc

    one_not : (n : ℕ) → n ≡ 1 → n ≡ 3 → ⊥
    one_not n one other = cc

    go : (state_after seen.history ≡ state.Negotiating) ⊎ (direction_after seen.history ≡ 3) → A
    go (inl negotiates) =
        absurd (ready_not (state_after s.history) ((quiet 0 x refl).ready s.history at.0.stands) (subst (λ (o : Seen Ticket). state_after o.history ≡ state.Negotiating) (sym (same s seen there)) negotiates))
    go (inr writes) =
        absurd (one_not (direction_after s.history) ((quiet 0 x refl).quiet s.history at.0.stands) (subst (λ (o : Seen Ticket). direction_after o.history ≡ 3) (sym (same s seen there)) writes))
loud_quiet (suc index) (x ∷ xs) (s ∷ ss) seen at quiet there loud = loud_quiet index xs ss seen at.1 (λ i one here. quiet (suc i) one here) there loud

pub early_ends : (held : List (Held Ticket)) (a b : Option (List wire.Call)) → Stand held → AreQuiet held → Tries (IsLeftEarly held) a b → Tries NoneLeft a b
early_ends held a b s quiet tries = record { on = λ start told. left_none start b (λ wanted since left. none left) (tries.on start told) }
  where
    none : {wanted : List Want} {since : List wire.Call} → IsLeftEarly held wanted since → ⊥
    none left = let is = left.loud.loud.on s.seens s.at in loud_quiet left.loud.index held s.seens is.seen s.at quiet is.there is.is

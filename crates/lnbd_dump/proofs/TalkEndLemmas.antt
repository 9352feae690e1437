-- The end is asked for and awaited, and what comes of the whole conversation.
use Rattle.std.proofs.Common.{◌≡◌, ◌⊎◌, inl, inr, ℕ, ◌+◌, ◌≤◌, Bool, true, false, not, List, [], ◌∷◌, ◌++◌, length, Option, None, Result, Ok, Err, append-nil, refl, sym, ◌∙◌, ap, subst, arith}
use Rattle.std.specs.List.{list_any}
use Rattle.std.proofs.lemmas.Bool.{false≢true}
use Rattle.lnbd_hexdump.specs.Dump.{dump}
use Rattle.lnbd_hexdump.specs.Said.{IsFront}
use Rattle.lnbd_model.specs.declared.state.Cause.TheVariants as cause
use Rattle.lnbd_model.specs.declared.target.Place.{Place}
use Rattle.lnbd_model.specs.declared.state.State.{State}
use Rattle.lnbd_model.specs.declared.state.State.TheVariants as state
use Rattle.lnbd_history.specs.Answers.{state_after}
use Rattle.lnbd_history.specs.Events.{History, Disconnect}
use Rattle.lnbd_history.specs.Agreement.{phase}
use Rattle.lnbd_history.specs.History.{reading}
use Rattle.lnbd_link.specs.Call as wire
use Rattle.lnbd_link.specs.Count.{Rises, patience}
use Rattle.lnbd_link.specs.Listed.{has_failed}
use Rattle.lnbd_link.proofs.Parts.{grows_on}
use Rattle.lnbd_poll.specs.Held.{Held}
use Rattle.lnbd_poll.specs.Seen.{Goes, Seen, Went}
use Rattle.lnbd_poll.specs.Turns.{Blames}
use Rattle.lnbd_poll.proofs.TurnLemmas.{blames_on}
use Rattle.lnbd_ask.proofs.LostLemmas.{has_lost, lost_stage}
use Rattle.lnbd_waits.specs.Begun.{base_allocation, begins, begun, disconnecting, is_ready, parting}
use Rattle.lnbd_waits.specs.declared.waiting.Awaited.TheVariants as awaited
use Rattle.lnbd_waits.specs.declared.waiting.Halt.{Halt}
use Rattle.lnbd_waits.specs.declared.waiting.Halt.TheVariants as halt
use Rattle.lnbd_waits.specs.Waits.{Holds, Waited}
use Rattle.lnbd_dump.specs.declared.fault.DumpFault.{DumpFault}
use Rattle.lnbd_dump.specs.declared.fault.DumpFault.TheVariants as fault
use Rattle.lnbd_dump.specs.declared.reader.Latest.{Latest}
use Rattle.lnbd_dump.specs.declared.reader.Reader.{Reader}
use Rattle.lnbd_dump.specs.declared.stop.Stop.{Stop}
use Rattle.lnbd_dump.specs.declared.stop.Stop.TheVariants as stop
use Rattle.lnbd_reel.specs.Said.{Shown, ShownPart}
use Rattle.lnbd_dump.specs.Conduct.{Asked, Conduct, IfLink, IfSilent, IsWhole, Unasked}
use Rattle.lnbd_dump.specs.Ends.{Conversed}
use Rattle.lnbd_dump.specs.Heard.{Hears, kept}
use Rattle.lnbd_dump.specs.Leads.{Comes, Grown, Leads, Quiet, Tells}
use Rattle.lnbd_dump.specs.Stops.{IsEnd, IsToldAs, is_failed}
use Rattle.lnbd_dump.specs.Talks.{EndsAs, IsShown, Reads, is_parting}
use Rattle.lnbd_dump.proofs.CourseLemmas.{known_later}
use Rattle.lnbd_dump.proofs.EndLemmas.{end_cause, shown_told}
use Rattle.lnbd_dump.proofs.LaterLemmas.{quiet_event, quiet_none, quiet_on, tells_later}
use Rattle.lnbd_dump.proofs.LeadLemmas.{going_of, leads_less, leads_on, waits_lead, waits_quiet}
use Rattle.lnbd_dump.proofs.TalkLemmas.{parts_lead}

-- ---- What was shown stays so.

whole_later : (before after : History Reader) (offset : ℕ) (given : Option ℕ) (count : ℕ) → Grown before after → IsWhole offset given before count → IsWhole offset given after count
whole_later before after offset given count g w = record { info = w.info; known = known_later before after g w.info w.known; fits = w.fits; even = w.even; is = w.is }

part_later : (before after : History Reader) (offset count : ℕ) (taken taken' : Option (List ℕ)) → Grown before after → ShownPart (Tells before) offset count taken taken' → ShownPart (Tells after) offset count taken taken'
part_later before after offset count taken taken' g s = record { bytes = s.bytes; told_are = λ i lt. tells_later before after g (offset + i) _ (s.told_are i lt); few = s.few; text = s.text; takes = s.takes; front = s.front }

none_more : (xs : List ℕ) → length xs ≡ 0 → xs ≡ []
none_more [] e = refl
none_more (x ∷ xs) e = absurd (omega (arith, e))

-- all of it is a part
part_of : (told : ℕ → ℕ → Type 0) (offset count : ℕ) (taken taken' : Option (List ℕ)) → Shown told offset count taken taken' → ShownPart told offset count taken taken'
part_of told offset count taken taken' s = record {
  bytes = s.bytes;
  told_are = s.told_are;
  few = (let n = s.count_is in omega (arith, n));
  text = dump offset s.bytes;
  takes = s.takes;
  front = λ more fits. (
      let n = s.count_is in
      let none : more ≡ [] = none_more more (omega (arith, n, fits)) in
      subst (λ (m : List ℕ). IsFront (dump offset s.bytes) (dump offset (s.bytes ++ m))) (sym none)
      (subst (λ (b : List ℕ). IsFront (dump offset s.bytes) (dump offset b)) (sym (append-nil s.bytes)) (record { rest = []; is = sym (append-nil (dump offset s.bytes)) })));
}

conduct_later : (before after : History Reader) → Quiet before after → Conduct before → Conduct after
conduct_later before after q (Unasked none) = Unasked (q.unasked none)
conduct_later before after q (Asked info known well) = Asked info (known_later before after q.later.grown info known) (q.well info well)

-- ---- The end.

module _ (offset : ℕ) (given : Option ℕ) (taken taken' : Option (List ℕ)) (middle after ended : History Reader) (q : Quiet middle after) (g : Grown middle ended) where
  left_later : (taken' ≡ taken) ⊎ ((count : ℕ) × IsWhole offset given middle count × ShownPart (Tells middle) offset count taken taken') → (taken' ≡ taken) ⊎ ((count : ℕ) × IsWhole offset given ended count × ShownPart (Tells ended) offset count taken taken')
  left_later (inl same) = inl same
  left_later (inr s) = inr (s.0, whole_later middle ended offset given s.0 g s.1, part_later middle ended offset s.0 taken taken' g s.2)

  all_left : (count : ℕ) → IsShown (Ok count) offset given taken taken' middle middle → (taken' ≡ taken) ⊎ ((n : ℕ) × IsWhole offset given ended n × ShownPart (Tells ended) offset n taken taken')
  all_left count s = inr (count, whole_later middle ended offset given count g s.1, part_later middle ended offset count taken taken' g (part_of (Tells middle) offset count taken taken' s.2))

  all_later : (count : ℕ) → IsShown (Ok count) offset given taken taken' middle middle → IsShown (Ok count) offset given taken taken' after ended
  all_later count s = (whole_later middle after offset given count q.later.grown s.0, whole_later middle ended offset given count g s.1, shown_told (Tells middle) (Tells ended) offset count taken taken' (tells_later middle ended g) s.2)

  all_ends : (count : ℕ) (written : Result (Unit {0}) Halt) (at : State) (end : Result ℕ Stop) → at ≡ state_after after → EndsAs (Ok count) written at end → IsShown (Ok count) offset given taken taken' middle middle → IsShown end offset given taken taken' after ended
  all_ends count (Err why) at end is ends s = subst (λ (r : Result ℕ Stop). IsShown r offset given taken taken' after ended) (sym ends) (tt, all_left count s)
  all_ends count (Ok done) (state.Dead why) end is ends s = subst (λ (r : Result ℕ Stop). IsShown r offset given taken taken' after ended) (sym ends) (sym is, all_left count s)
  all_ends count (Ok done) state.Created end is ends s = subst (λ (r : Result ℕ Stop). IsShown r offset given taken taken' after ended) (sym ends) (all_later count s)
  all_ends count (Ok done) state.Negotiating end is ends s = subst (λ (r : Result ℕ Stop). IsShown r offset given taken taken' after ended) (sym ends) (all_later count s)
  all_ends count (Ok done) state.OptMode end is ends s = subst (λ (r : Result ℕ Stop). IsShown r offset given taken taken' after ended) (sym ends) (all_later count s)
  all_ends count (Ok done) state.Ready end is ends s = subst (λ (r : Result ℕ Stop). IsShown r offset given taken taken' after ended) (sym ends) (all_later count s)
  all_ends count (Ok done) state.Closing end is ends s = subst (λ (r : Result ℕ Stop). IsShown r offset given taken taken' after ended) (sym ends) (all_later count s)
  all_ends count (Ok done) state.Closed end is ends s = subst (λ (r : Result ℕ Stop). IsShown r offset given taken taken' after ended) (sym ends) (all_later count s)

  shown_ends : (r : Result ℕ Stop) (written : Result (Unit {0}) Halt) (at : State) (end : Result ℕ Stop) → is_parting r ≡ true → at ≡ state_after after → EndsAs r written at end → IsShown r offset given taken taken' middle middle → IsShown end offset given taken taken' after ended
  shown_ends (Ok count) written at end parts is ends s = all_ends count written at end is ends s
  shown_ends (Err (stop.Range size)) written at end parts is ends s =
      let out = s.0 in
      subst (λ (r : Result ℕ Stop). IsShown r offset given taken taken' after ended) (sym ends) (record { info = out.info; known = known_later middle after q.later.grown out.info out.known; is = out.is; outside = out.outside }, left_later s.1)
  shown_ends (Err (stop.Uneven size block)) written at end parts is ends s =
      let out = s.0 in
      subst (λ (r : Result ℕ Stop). IsShown r offset given taken taken' after ended) (sym ends)
      (record { info = out.info; known = known_later middle after q.later.grown out.info out.known; size_is = out.size_is; block_is = out.block_is; fits = out.fits; ragged = out.ragged }, left_later s.1)
  shown_ends (Err (stop.Halted why)) written at end parts is ends s = absurd (false≢true parts)
  shown_ends (Err (stop.Died why)) written at end parts is ends s = absurd (false≢true parts)
  shown_ends (Err (stop.Broke why)) written at end parts is ends s = absurd (false≢true parts)
  shown_ends (Err (stop.Failed error)) written at end parts is ends s = absurd (false≢true parts)
  shown_ends (Err stop.Output) written at end parts is ends s = absurd (false≢true parts)

-- asking for the end asks nothing else
parts_quiet : (history : History Reader) → Quiet history (disconnecting (is_ready (state_after history)) history)
parts_quiet history = go (is_ready (state_after history))
  where
    go : (b : Bool) → Quiet history (disconnecting b history)
    go true = quiet_event Disconnect history refl refl (λ info w. w) (λ u. u) (λ k. k)
    go false = quiet_none history

module _ (offset : ℕ) (given : Option ℕ) (world : Latest) (taken taken' : Option (List ℕ)) where
  abbrev Does : Result ℕ Stop → Seen Reader → Seen Reader → Seen Reader → Type 0
  Does result s t e = Reads result offset given world taken taken' s.history t.history e.history

  -- the end is not asked for
  pub talk_stops : (r : Result ℕ Stop) → is_parting r ≡ false → (a b : Option (List wire.Call)) (f g : ℕ) (old new : List (Held Reader)) → Comes (not (is_parting r)) a b f g old new (Does r) → Comes true a b f g old new (Does r)
  talk_stops r parts a b f g old new comes = subst (λ (b' : Bool). Comes (not b') a b f g old new (Does r)) parts comes

  -- it is asked for and awaited
  pub talk_ends : (r end : Result ℕ Stop) (written : Result (Unit {0}) Halt) (at : State) (w w' : Latest) → is_parting r ≡ true → (a b c : Option (List wire.Call)) (f g h : ℕ) (old mid parted new : List (Held Reader)) → f ≤ g → g ≤ h → Comes (not (is_parting r)) a b f g old mid (Does r)
      → ((seen : Seen Reader) → Holds mid seen → Holds parted (parting seen)) → Goes b c (Holds parted) (Holds new) (λ before calls after. Waited Hears awaited.Written g h written before w calls after w') → ((seen : Seen Reader) → Holds new seen → at ≡ state_after seen.history) → EndsAs r written at end
      → Comes true a c f h old new (Does end)
  talk_ends r end written at w w' parts a b c f g h old mid parted new up up2 comes goes_on waits state_is ends seen held =
      let went = subst (λ (b' : Bool). Comes (not b') a b f g old mid (Does r)) parts comes seen held in
      let middle : Seen Reader = went.after in
      let same : went.leads.0 ≡ middle = went.leads.1.same refl in
      let read : Does r seen middle middle = subst (λ (e : Seen Reader). Does r seen middle e) same went.leads.3 in
      let first : Leads false seen went.calls middle middle = subst (λ (e : Seen Reader). Leads false seen went.calls middle e) same went.leads.1 in
      let more = waits (parting middle) (goes_on middle went.at) in
      let lead = waits_lead awaited.Written (parting middle) w more.calls more.after w' written more.leads.waits in
      let quiet = waits_quiet awaited.Written (parting middle) w more.calls more.after w' written more.leads.waits in
      let second : Leads true (parting middle) more.calls more.after lead.0 = weaken (is_failed written) (parting middle) more.after lead.0 more.calls lead.1 in
      let both : Leads true middle more.calls more.after lead.0 = leads_on true middle (parting middle) (parting middle) more.after lead.0 [] more.calls (parts_lead middle) second in
      let all_quiet : Quiet middle.history more.after.history = quiet_on middle.history (parting middle).history more.after.history (parts_quiet middle.history) quiet.quiet in
      record {
        calls = went.calls ++ more.calls;
        after = more.after;
        grown = grows_on a b c went.calls more.calls went.grown more.grown;
        leads = (
          lead.0,
          leads_on true seen middle middle more.after lead.0 went.calls more.calls first both,
          blames_on went.calls more.calls f g h went.leads.2 more.leads.blames up up2,
          λ none keeps tied. (
              let was = read none keeps tied in
              (conduct_later middle.history more.after.history all_quiet was.0, shown_ends offset given taken taken' middle.history more.after.history lead.0.history all_quiet both.grown r written at end parts (state_is more.after more.at) ends was.1)),
        );
        at = more.at;
      }
    where
      weaken : (short : Bool) (s t e : Seen Reader) (p : List wire.Call) → Leads short s p t e → Leads true s p t e
      weaken true s t e p l = l
      weaken false s t e p l = leads_less true s t e p l

-- ---- What is told of it.

module _ (link : ℕ) (place : Place) (offset : ℕ) (given : Option ℕ) (world : Latest) (taken taken' : Option (List ℕ)) (none : kept world ≡ None) (a b : Option (List wire.Call)) (f g : ℕ) (old new : List (Held Reader)) (at : Holds old (begins link place.name base_allocation)) where
  abbrev pub Ends_so : Result ℕ Stop → Type 0
  Ends_so r = Comes true a b f g old new (λ s t e. Reads r offset given world taken taken' s.history t.history e.history)

  pub conversed_ok : (count : ℕ) → Ends_so (Ok count) → Conversed link place offset given a b taken taken' (Ok count)
  conversed_ok count comes =
      let went = comes (begins link place.name base_allocation) at in
      let was = went.leads.3 tt tt (λ full. none) in
      record {
        calls = went.calls;
        grown = went.grown;
        after = went.after;
        ended = went.leads.0;
        leads = went.leads.1;
        going = going_of new went.after went.at;
        conduct = was.0;
        answer_is = was.1.0;
        left = (was.1.1, was.1.2);
      }

  pub conversed_err : (why : Stop) (told : DumpFault) → IsToldAs offset given why told → Ends_so (Err why) → Conversed link place offset given a b taken taken' (Err told)
  conversed_err why told told_is comes =
      let went = comes (begins link place.name base_allocation) at in
      let was = went.leads.3 tt tt (λ full. none) in
      record {
        calls = went.calls;
        grown = went.grown;
        after = went.after;
        ended = went.leads.0;
        leads = went.leads.1;
        going = going_of new went.after went.at;
        conduct = was.0;
        answer_is = end_cause offset given went.after.history why told was.1.0 told_is;
        left = was.1.1;
      }

  -- a link that failed raised the count of faults
  pub link_rose : (why : Stop) → Ends_so (Err why) → why ≡ stop.Died cause.LinkFailed → Rises 1 f g
  link_rose why comes lost = go (list_any has_failed went.calls) refl
    where
      went : Went a b (Holds new) (λ part after. (ended : Seen Reader) × Leads true (begins link place.name base_allocation) part after ended × Blames part f g × Reads (Err why) offset given world taken taken' (begun place.name base_allocation) after.history ended.history)
      went = comes (begins link place.name base_allocation) at

      dead : state_after went.after.history ≡ state.Dead cause.LinkFailed
      dead = subst (IsEnd offset given went.after.history) lost (went.leads.3 tt tt (λ full. none)).1.0

      go : (b : Bool) → list_any has_failed went.calls ≡ b → Rises 1 f g
      go true e = went.leads.2 e
      go false e =
          let kept_is : has_lost (reading went.after.history).known.stage ≡ false = went.leads.1.kept e refl in
          let is_lost : has_lost (reading went.after.history).known.stage ≡ true = lost_stage (reading went.after.history).known.stage (phase (reading went.after.history).known.turns) dead in
          absurd (false≢true (sym kept_is ∙ is_lost))

-- so it is told
pub link_told : (told : DumpFault) (why : Stop) (start now f g : ℕ) → (why ≡ stop.Died cause.LinkFailed → Rises 1 f g) → start ≤ f → now ≡ g → IfLink told (λ before after. (why ≡ stop.Died cause.LinkFailed) × (before ≡ start) × (after ≡ now))
    → IfLink told (λ before after. (before ≡ start) × Rises 1 before after × (after ≤ g))
link_told (fault.Link before after) why start now f g rose later same tells =
    let up : Rises 1 f g = rose tells.0 in
    (tells.1, omega (arith, tells.1, tells.2, same, later, up), omega (arith, tells.2, same))
link_told fault.NoMemory why start now f g rose later same tells = tt
link_told (fault.Broke broken) why start now f g rose later same tells = tt
link_told (fault.Peer option code) why start now f g rose later same tells = tt
link_told (fault.Silent idles) why start now f g rose later same tells = tt
link_told fault.Output why start now f g rose later same tells = tt
link_told (fault.Range at length_ size) why start now f g rose later same tells = tt
link_told (fault.Uneven size block) why start now f g rose later same tells = tt

pub silent_told : (told : DumpFault) (why : Stop) (start now : ℕ) → (why ≡ stop.Halted halt.Silent → Rises patience start now) → IfSilent told (λ idles. (why ≡ stop.Halted halt.Silent) × (idles ≡ now)) → (last : ℕ) → now ≡ last → IfSilent told (λ idles. Rises patience start idles × (idles ≤ last))
silent_told (fault.Silent idles) why start now rose tells last same =
    let up : Rises patience start now = rose tells.0 in
    (subst (λ (n : ℕ). Rises patience start n) (sym tells.1) up, omega (arith, tells.1, same))
silent_told fault.NoMemory why start now rose tells last same = tt
silent_told (fault.Broke broken) why start now rose tells last same = tt
silent_told (fault.Peer option code) why start now rose tells last same = tt
silent_told (fault.Link before after) why start now rose tells last same = tt
silent_told fault.Output why start now rose tells last same = tt
silent_told (fault.Range at length_ size) why start now rose tells last same = tt
silent_told (fault.Uneven size block) why start now rose tells last same = tt

-- where it is so of the reading, and of the wait for the end
pub end_silent : (r : Result ℕ Stop) (written : Result (Unit {0}) Halt) (at : State) (end : Result ℕ Stop) (P : Type 0) → EndsAs r written at end → (r ≡ Err (stop.Halted halt.Silent) → P) → (written ≡ Err halt.Silent → P) → end ≡ Err (stop.Halted halt.Silent) → P
end_silent (Err why) written at end P ends first second is = first (sym ends ∙ is)
end_silent (Ok count) (Err why) at end P ends first second is = let same : why ≡ halt.Silent = cc (sym ends ∙ is) in second (ap (λ (h : Halt). Err h) same)
end_silent (Ok count) (Ok done) (state.Dead why) end P ends first second is = absurd (cc (sym ends ∙ is))
end_silent (Ok count) (Ok done) state.Created end P ends first second is = absurd (cc (sym ends ∙ is))
end_silent (Ok count) (Ok done) state.Negotiating end P ends first second is = absurd (cc (sym ends ∙ is))
end_silent (Ok count) (Ok done) state.OptMode end P ends first second is = absurd (cc (sym ends ∙ is))
end_silent (Ok count) (Ok done) state.Ready end P ends first second is = absurd (cc (sym ends ∙ is))
end_silent (Ok count) (Ok done) state.Closing end P ends first second is = absurd (cc (sym ends ∙ is))
end_silent (Ok count) (Ok done) state.Closed end P ends first second is = absurd (cc (sym ends ∙ is))

pub end_output : (r : Result ℕ Stop) (written : Result (Unit {0}) Halt) (at : State) (end : Result ℕ Stop) (P : Type 0) → EndsAs r written at end → (r ≡ Err stop.Output → P) → end ≡ Err stop.Output → P
end_output (Err why) written at end P ends first is = first (sym ends ∙ is)
end_output (Ok count) (Err why) at end P ends first is = absurd (cc (sym ends ∙ is))
end_output (Ok count) (Ok done) (state.Dead why) end P ends first is = absurd (cc (sym ends ∙ is))
end_output (Ok count) (Ok done) state.Created end P ends first is = absurd (cc (sym ends ∙ is))
end_output (Ok count) (Ok done) state.Negotiating end P ends first is = absurd (cc (sym ends ∙ is))
end_output (Ok count) (Ok done) state.OptMode end P ends first is = absurd (cc (sym ends ∙ is))
end_output (Ok count) (Ok done) state.Ready end P ends first is = absurd (cc (sym ends ∙ is))
end_output (Ok count) (Ok done) state.Closing end P ends first is = absurd (cc (sym ends ∙ is))
end_output (Ok count) (Ok done) state.Closed end P ends first is = absurd (cc (sym ends ∙ is))

pub rises_more : (n old new more : ℕ) → Rises n old new → new ≤ more → Rises n old more
rises_more n old new more rises up = omega (arith, rises, up)

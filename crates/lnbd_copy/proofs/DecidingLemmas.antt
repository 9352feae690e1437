-- A step of a copy ends by the first event for which the copy ends.
use Rattle.std.proofs.Common.{◌≡◌, ◌≢◌, ◌⊎◌, inl, inr, ℕ, ◌+◌, ◌<◌, ◌≤◌, zero, suc, Bool, true, false, List, [], ◌∷◌, ◌++◌, length, Option, Some, None, slice_get, refl, ap, sym, subst, ◌∙◌, arith}
use Rattle.std.proofs.lemmas.Bool.{cases_eq, cases_lt, false≢true}
use Rattle.std.proofs.lemmas.List.{append-nil, append_assoc, append_cancel_left}
use Rattle.std.specs.List.{list_any}
use Rattle.std.specs.Option.{option_map}
use Rattle.lnbd_model.specs.declared.errors.TheConstants.{EPROTO}
use Rattle.lnbd_model.specs.declared.failure.Failure.{Failure}
use Rattle.lnbd_model.specs.declared.failure.Origin.TheVariants as origin
use Rattle.lnbd_model.specs.declared.state.Cause.{Cause}
use Rattle.lnbd_model.specs.declared.state.Cause.TheVariants as cause
use Rattle.lnbd_model.specs.declared.state.State.{State}
use Rattle.lnbd_model.specs.declared.state.State.TheVariants as state
use Rattle.lnbd_model.specs.declared.target.Place.{Place}
use Rattle.lnbd_model.specs.declared.target.Target.{Target}
use Rattle.lnbd_callbacks.specs.Calls.{Call}
use Rattle.lnbd_callbacks.specs.Steps.{OneByOne}
use Rattle.lnbd_handle.specs.Histories.{ForEach, max_unretired}
use Rattle.lnbd_history.specs.Answers.{state_after}
use Rattle.lnbd_link.specs.Call as wire
use Rattle.lnbd_link.specs.Count.{Rises}
use Rattle.lnbd_link.specs.Listed.{has_failed}
use Rattle.lnbd_link.specs.Part.{Adds}
use Rattle.lnbd_link.proofs.Parts.{rises_earlier}
use Rattle.lnbd_machine.specs.Machine.{Machine}
use Rattle.lnbd_standing.specs.Standing.{StandsFor}
use Rattle.lnbd_plan.specs.declared.fault.CopyFault.{CopyFault}
use Rattle.lnbd_plan.specs.declared.options.CopyOptions.{CopyOptions}
use Rattle.lnbd_plan.specs.declared.fault.CopyFault.TheVariants as fault
use Rattle.lnbd_poll.specs.declared.noticed.Turn.{Turn}
use Rattle.lnbd_poll.specs.Held.{Held, AreAt}
use Rattle.lnbd_poll.specs.Seen.{Seen}
use Rattle.lnbd_poll.specs.Seen as poll
use Rattle.lnbd_poll.specs.Steps.{TookEnough}
use Rattle.lnbd_poll.specs.Turned.{TakesPart}
use Rattle.lnbd_poll.specs.Turns.{Blames, Turns, Whole}
use Rattle.lnbd_board.specs.declared.ticket.Ticket.{Ticket}
use Rattle.lnbd_board.specs.Files as board
use Rattle.lnbd_conduct.specs.declared.sides.Sides.{Sides}
use Rattle.lnbd_conduct.specs.Links.{AllConnected}
use Rattle.lnbd_course.specs.Failed.{SideFails}
use Rattle.lnbd_course.specs.Unfailed.{NothingFails}
use Rattle.lnbd_copy.specs.Copier.{IsOnItsWay}
use Rattle.lnbd_copy.specs.Copier as copier
use Rattle.lnbd_copy.specs.Job as work
use Rattle.lnbd_copy.specs.Decided.{IsDecidedTo}
use Rattle.lnbd_conduct.specs.Decided.{AreAliveToEnd, IsDecided, IsDecidedBy, IsOneEvent, IsUntroubled, OnlyShut, Show, is_of_answer, is_of_content, is_of_link, is_of_memory}
use Rattle.lnbd_copy.specs.Deciding.{AreAlive, DecidesOn, GoesShut, Fits, IsAliveAt, IsCalm, IsSteady, Reveals, WasUntroubled, WasUntroubledAs}
use Rattle.lnbd_copy.specs.Grounds.{Answers, FindsDead, IsOfError, fault_by, fault_of}
use Rattle.lnbd_conduct.specs.Grounds.{needs_no_ground}
use Rattle.lnbd_copy.specs.ToldAlike.{FindsUnfit, IsUnfit}
use Rattle.lnbd_copy.specs.Way.{Goes, IsUnderWay, Way}
use Rattle.lnbd_conduct.specs.Told.{Told}
use Rattle.lnbd_copy.proofs.AliveLemmas.{alive_to_end}
use Rattle.lnbd_copy.proofs.ConnectedLemmas.{goes_connected}
use Rattle.lnbd_drives.proofs.Exports.{turns_give_none}
use Rattle.lnbd_copy.proofs.CopierLemmas.{told_as}
use Rattle.lnbd_copy.proofs.DecidedLemmas.{calm_untroubled, show_free, show_revealed, way_as, way_fits, way_told}
use Rattle.lnbd_copy.proofs.DrivenAsLemmas.{wanted_longer}
use Rattle.lnbd_copy.proofs.EndLemmas.{with_all}
use Rattle.lnbd_copy.proofs.EventLemmas.{on_one_link}
use Rattle.lnbd_copy.proofs.FailLemmas.{turn_fails, turn_tells_content}
use Rattle.lnbd_copy.proofs.RefusalLemmas.{connected_more, turns_connected}
use Rattle.lnbd_copy.proofs.SettledLemmas.{told_both}
use Rattle.lnbd_copy.proofs.ToldAlikeLemmas.{fits_later, fits_more}
use Rattle.lnbd_copy.proofs.TurnLemmas.{since_on, some_same, told_on, turned}

abbrev steps : board.Seen → List (Call Ticket) → board.Seen → Type 0
steps = OneByOne board.Files

-- Handles that are not dead.

machine_same : (one other : Machine Ticket) → Some one ≡ Some other → one ≡ other
machine_same one other e = cc

-- One whose state is not that.
pub alive_at : (index : ℕ) (held : List (Held Ticket)) (handle : Machine Ticket) (now : State) → option_map (λ (one : Held Ticket). one.handle) (slice_get held index) ≡ Some handle → ForEach handle (λ history. now ≡ state_after history) → ((why : Cause) → now ≢ state.Dead why) → IsAliveAt index held
alive_at index held handle now is told alive = record {
  each = λ one there.
      let same : one.handle ≡ handle = machine_same one.handle handle (sym (ap (λ (o : Option (Held Ticket)). option_map (λ (h : Held Ticket). h.handle) o) there) ∙ is) in
      λ history stands why dead. alive why (told history (subst (λ (m : Machine Ticket). StandsFor max_unretired history m) same stands) ∙ dead);
}

pub record AliveBelow (n : ℕ) (held : List (Held Ticket)) : Type 0 where
  pub on : (index : ℕ) → index < n → IsAliveAt index held

pub none_below : (held : List (Held Ticket)) → AliveBelow 0 held
none_below held = record { on = λ index l. absurd (omega (arith, l)) }

pub below_more : (n : ℕ) (held : List (Held Ticket)) → AliveBelow n held → IsAliveAt n held → AliveBelow (n + 1) held
below_more n held below one = record {
  on = λ index l. elim (cases_lt index n) [
    | inl k ↦ below.on index k
    | inr k ↦ (let same : n ≡ index = omega (arith, l, k) in subst (λ (m : ℕ). IsAliveAt m held) same one)
  ];
}

none_some : {A : Type 0} (one : A) → None ≡ Some one → ⊥
none_some one e = cc

held_below : (held : List (Held Ticket)) (index : ℕ) (one : Held Ticket) → slice_get held index ≡ Some one → index < length held
held_below [] index one there = absurd (none_some one there)
held_below (first ∷ others) zero one there = omega arith
held_below (first ∷ others) (suc index) one there = let more = held_below others index one there in omega (arith, more)

pub all_below : (n : ℕ) (held : List (Held Ticket)) → AliveBelow n held → length held ≤ n → AreAlive held
all_below n held below all = record { at = λ index. record { each = λ one there. (let l = held_below held index one there in (below.on index (omega (arith, l, all))).each one there) } }

-- The others are as they were, and this one is not dead either.
pub alive_more : (index : ℕ) (held held' : List (Held Ticket)) → AreAlive held → ((other : ℕ) → other ≢ index → slice_get held' other ≡ slice_get held other) → IsAliveAt index held' → AreAlive held'
alive_more index held held' alive others here = record {
  at = λ other. elim (cases_eq other index) [
    | inl same ↦ subst (λ (n : ℕ). IsAliveAt n held') (sym same) here
    | inr differ ↦ record { each = λ one there. (alive.at other).each one (sym (others other differ) ∙ there) }
  ];
}

-- What a look at a handle and the board finds.

not_both : {A : Type 0} (b : Bool) → b ≡ false → b ≡ true → A
not_both b off is = absurd (false≢true (sym off ∙ is))

free_unanswered : (why : CopyFault) → needs_no_ground why ≡ true → is_of_answer why ≡ false
free_unanswered fault.NoMemory free = refl
free_unanswered (fault.Link before after) free = refl
free_unanswered (fault.Broke one) free = refl
free_unanswered (fault.Peer option code) free = absurd (false≢true free)
free_unanswered (fault.Rule rule) free = refl
free_unanswered (fault.Silent idles) free = refl

link_free : (why : CopyFault) → is_of_link why ≡ true → needs_no_ground why ≡ true
link_free fault.NoMemory link = refl
link_free (fault.Link before after) link = refl
link_free (fault.Broke one) link = absurd (false≢true link)
link_free (fault.Peer option code) link = absurd (false≢true link)
link_free (fault.Rule rule) link = absurd (false≢true link)
link_free (fault.Silent idles) link = refl

-- the death of a connection is no error of a command
pub death_other : (death : Cause) → is_of_answer (fault_of death) ≡ false
death_other (cause.Broke breach) = refl
death_other (cause.Refused option code) = refl
death_other cause.Ended = refl
death_other cause.LinkFailed = refl

-- no error of a command is told where nothing is to be shown of the fault,
pub reveals_free : (sides : Option Sides) (index : ℕ) (now : board.Seen) (held : List (Held Ticket)) (why : CopyFault) → needs_no_ground why ≡ true → Reveals sides index now held why
reveals_free sides index now held why free = record { on = inl free; alive = λ answer. not_both (is_of_answer why) (free_unanswered why free) answer; whole = λ ground sound. not_both (needs_no_ground why) ground free }

-- or a connection died,
pub reveals_dead : (sides : Option Sides) (index : ℕ) (now : board.Seen) (held : List (Held Ticket)) (why : CopyFault) → FindsDead why held → is_of_answer why ≡ false → now.error ≢ Some EPROTO → Reveals sides index now held why
reveals_dead sides index now held why dead other whole = record { on = inr (inl dead); alive = λ answer. not_both (is_of_answer why) other answer; whole = λ ground sound. whole }

lifted : (sides : Option Sides) (now : board.Seen) (held : List (Held Ticket)) (why : CopyFault) → Answers now why → (needs_no_ground why ≡ true) ⊎ (FindsDead why held ⊎ (IsOfError now why ⊎ IsUnfit sides held why))
lifted sides now held why answers = elim answers.on [ inl free ↦ inl free | inr of ↦ inr (inr (inl of)) ]

-- what a board's error is told as is faulty content where the error is
answers_whole : (now : board.Seen) (why : CopyFault) → Answers now why → needs_no_ground why ≡ false → is_of_content why ≡ false → now.error ≢ Some EPROTO
answers_whole now why answers ground sound faulty = elim answers.on [
  | inl free ↦ not_both (needs_no_ground why) ground free
  | inr of ↦ not_both (is_of_content why) sound (ap is_of_content of.is ∙ ap (λ (n : ℕ). is_of_content (fault_by n)) (some_same of.error EPROTO (sym of.told ∙ faulty)))
]

-- or content was faulty;
pub reveals_content : (sides : Option Sides) (index : ℕ) (now : board.Seen) (held : List (Held Ticket)) (why : CopyFault) → Answers now why → is_of_answer why ≡ false → Reveals sides index now held why
reveals_content sides index now held why answers other = record { on = lifted sides now held why answers; alive = λ answer. not_both (is_of_answer why) other answer; whole = answers_whole now why answers }

-- or what a connection was told does not fit;
pub reveals_unfit : (sides : Option Sides) (index : ℕ) (now : board.Seen) (held : List (Held Ticket)) (why : CopyFault) → FindsUnfit sides held why → is_of_answer why ≡ false → now.error ≢ Some EPROTO → Reveals sides index now held why
reveals_unfit sides index now held why finds other whole = record {
  on = elim finds.on [ inl free ↦ inl free | inr unfit ↦ inr (inr (inr unfit)) ];
  alive = λ answer. not_both (is_of_answer why) other answer;
  whole = λ ground sound. whole;
}

-- and where it is told the connection is not dead.
pub reveals_answer : (sides : Option Sides) (index : ℕ) (now : board.Seen) (held : List (Held Ticket)) (why : CopyFault) → Answers now why → IsAliveAt index held → Reveals sides index now held why
reveals_answer sides index now held why answers alive = record { on = lifted sides now held why answers; alive = λ answer. alive; whole = answers_whole now why answers }

-- content at fault
abbrev faulty_content : Failure
faulty_content = record { origin = origin.Content; error = EPROTO }

pub steady_memory : (before now : ℕ) (why : CopyFault) → is_of_memory why ≡ true → IsSteady before now why
steady_memory before now why short = record { on = λ other. not_both (is_of_memory why) other short }

pub steady_link : (before now : ℕ) (why : CopyFault) → is_of_link why ≡ true → IsSteady before now why
steady_link before now why link = record { on = λ other none. not_both (is_of_link why) none link }

pub steady_still : (before now : ℕ) (why : CopyFault) → ¬ Rises 1 before now → IsSteady before now why
steady_still before now why still = record { on = λ other none. still }

-- A part of a turn.

-- The handles so far took their parts, and the turn is broken off.
abbrev pub BreaksOff : (f g : ℕ) (now : board.Seen) (before : List (Seen Ticket)) → List wire.Call → List (Seen Ticket) → (now' : board.Seen) → Type 0
BreaksOff f g now before calls after now' = (n : ℕ) × Turns steps before now calls after now' (Whole (Some n)) × Blames calls f g

-- A turn so far, the part of one handle behind it, and the turn with that part.
module _ (sides : Option Sides) (a b c : Option (List wire.Call)) (f0 f g h : ℕ) (part : Turn) (i : ℕ) (now half now' : board.Seen) (held held2 held3 : List (Held Ticket))
    (first : poll.Goes a b (λ seens. AreAt held seens) (λ seens. AreAt held2 seens) (λ before calls after. BreaksOff f g now before calls after half))
    (goes : poll.Goes b c (λ seens. AreAt held2 seens) (λ seens. AreAt held3 seens) (λ before calls after. TakesPart (TookEnough steps g h part) i before half calls after now'))
    (both : poll.Goes a c (λ seens. AreAt held seens) (λ seens. AreAt held3 seens) (λ before calls after. BreaksOff f h now before calls after now'))
    (well : now.error ≡ None) (calm : IsCalm sides half held2) (why : CopyFault) (reveals : Reveals sides i now' held3 why) (steady : IsSteady f0 h why) (earlier : f0 ≤ g)
    (others : (other : ℕ) → other ≢ i → slice_get held3 other ≡ slice_get held2 other) where
  -- no call of that part failed, unless a link did
  part_steady : (calls : List wire.Call) → Blames calls g h → is_of_memory why ≡ false → is_of_link why ≡ false → list_any has_failed calls ≡ false
  part_steady calls blames other none = go (list_any has_failed calls) refl
    where
      go : (b : Bool) → list_any has_failed calls ≡ b → list_any has_failed calls ≡ false
      go true is = absurd (steady.on other none (rises_earlier 1 f0 g h earlier (blames is)))
      go false is = is

  -- Before that part nothing came for which a copy ends, and with it the calls show the fault.
  part_decided : is_of_memory why ≡ false → (parting : Bool) (way : Way) (calls one other all : List wire.Call) (after after' : List (Seen Ticket)) (seen here : Seen Ticket) (n m : ℕ) → (on : IsUnderWay parting way now calls held) → AllConnected calls → Fits sides parting way calls →
      Turns steps on.seens now one after half (Whole (Some n)) → AreAt held2 after → TookEnough steps g h part seen half other here now' → Turns steps on.seens now all after' now' (Whole (Some m)) → AreAt held3 after' → all ≡ one ++ other →
      IsDecidedBy way.extents way.how.skip way.flush way.from way.to why (calls ++ (one ++ other))
  part_decided memory parting way calls one other all after after' seen here n m on connected fits turns at took turns' at' are = record {
    before = calls ++ one;
    event = other;
    after = [];
    are = sym (append_assoc calls one other) ∙ sym (append-nil ((calls ++ one) ++ other));
    untroubled = calm_untroubled sides parting way half (calls ++ one) held2 (turned parting way now half calls one held held2 after (Some n) on turns at) calm (connected_more calls one connected (turns_connected steps on.seens now one after half (Whole (Some n)) turns))
        (fits_more sides parting way calls one (λ link. turns_give_none steps link one on.seens after now half (Whole (Some n)) turns) fits);
    one = inl (on_one_link took.0 seen here half now' other took.2.moved took.2.turns);
    shut = tt;
    shows = subst (λ (l : List wire.Call). Show way.extents way.from way.to why l) (ap (λ (l : List wire.Call). calls ++ l) are ∙ sym (append_assoc calls one other))
        (show_revealed sides parting way now' (calls ++ all) held3 why i (turned parting way now now' calls all held held3 after' (Some m) on turns' at')
        (connected_more calls all connected (turns_connected steps on.seens now all after' now' (Whole (Some m)) turns'))
        (fits_more sides parting way calls all (λ link. turns_give_none steps link all on.seens after' now now' (Whole (Some m)) turns') fits) reveals
        (λ error told there. turn_fails parting way now now' calls all held held3 after' (Some m) error on well turns' at' told there));
    failed = part_steady other took.2.blames memory;
    answered = λ answer. subst (λ (l : List wire.Call). AreAliveToEnd way.extents way.how.skip way.flush way.from way.to l) (ap (λ (l : List wire.Call). calls ++ l) are ∙ sym (append_assoc calls one other))
        (alive_to_end parting way now' (calls ++ all) held3 (turned parting way now now' calls all held held3 after' (Some m) on turns' at') (alive_more i held2 held3 calm.alive others (reveals.alive answer)));
    whole = λ ground sound fails. reveals.whole ground sound (turn_tells_content parting way now now' calls all held held3 after' (Some m) on well turns' at'
        (subst (λ (l : List wire.Call). SideFails way.from way.to faulty_content l) (append_assoc calls one other ∙ sym (ap (λ (l : List wire.Call). calls ++ l) are)) fails));
  }

  pub part_decides : (parting : Bool) → DecidesOn sides parting now held a c why
  part_decides parting = record {
    on = λ way start s connected told fit. record {
      on = λ e. record {
        since = λ all is.
            let start_at = (both s.seens s.at).grown all is in
            let since = (told_both start a (told_both start a told connected) fit).since start_at.0 start_at.1 in
            let w2 = both since.is.0.0.seens since.is.0.0.at in
            let g2 = w2.grown all is in
            let w1 = first since.is.0.0.seens since.is.0.0.at in
            let wp = goes w1.after w1.at in
            let gp = wp.grown all is in
            let g1 = w1.grown gp.0 gp.1 in
            let same2 : g2.0 ≡ start_at.0 = some_same g2.0 start_at.0 (sym g2.1 ∙ start_at.1) in
            let same1 : g1.0 ≡ start_at.0 = some_same g1.0 start_at.0 (sym g1.1 ∙ start_at.1) in
            let split : all ≡ start_at.0 ++ (w1.calls ++ wp.calls) = gp.2 ∙ ap (λ (l : List wire.Call). l ++ wp.calls) (g1.2 ∙ ap (λ (l : List wire.Call). l ++ w1.calls) same1) ∙ append_assoc start_at.0 w1.calls wp.calls in
            let whole : all ≡ start_at.0 ++ w2.calls = g2.2 ∙ ap (λ (l : List wire.Call). l ++ w2.calls) same2 in
            since_on start start_at.0 all (w1.calls ++ wp.calls) split since
            (part_decided e parting way since.calls w1.calls wp.calls w2.calls w1.after w2.after wp.leads.seen wp.leads.here w1.leads.0 w2.leads.0 since.is.0.0 since.is.0.1 since.is.1 w1.leads.1 w1.at wp.leads.part w2.leads.1 w2.at
            (append_cancel_left start_at.0 w2.calls (w1.calls ++ wp.calls) (sym whole ∙ split)));
      };
    };
  }

-- Nothing came for which a copy ends.

pub was_calm : (sides : Option Sides) (parting : Bool) (way : Way) (now : board.Seen) (held : List (Held Ticket)) (start told : Option (List wire.Call)) → IsCalm sides now held → Told start told AllConnected → Told start told (λ calls. IsUnderWay parting way now calls held) → Told start told (Fits sides parting way) → Told start told (WasUntroubled way.extents way.how.skip way.flush way.from way.to)
was_calm sides parting way now held start told calm connected on fits =
    told_as start told (λ calls is. record { before = calls; after = []; are = sym (append-nil calls); untroubled = calm_untroubled sides parting way now calls held is.0.0 calm is.0.1 is.1; shut = tt }) (told_both start told (told_both start told on connected) fits)

nothing_comes : IsOneEvent []
nothing_comes = inl (record { link = 0; writes = []; last = []; are = refl; written = tt; one = tt })

-- what is found then
module _ (extents blank flush : Bool) (from to : Place) (why : CopyFault) where
  -- with no event it is so still
  still_alive : (calls : List wire.Call) → AreAliveToEnd extents blank flush from to calls → AreAliveToEnd extents blank flush from to (calls ++ [])
  still_alive calls alive = subst (λ (l : List wire.Call). AreAliveToEnd extents blank flush from to l) (sym (append-nil calls)) alive

  still_whole : (calls : List wire.Call) → NothingFails from to calls → SideFails from to faulty_content (calls ++ []) → ⊥
  still_whole calls well fails = well faulty_content (subst (λ (l : List wire.Call). SideFails from to faulty_content l) (append-nil calls) fails)

  pub found_then : (calls : List wire.Call) → IsUntroubled extents blank flush from to calls → Show extents from to why calls → IsDecidedBy extents blank flush from to why calls
  found_then calls untroubled shows = record {
    before = calls;
    event = [];
    after = [];
    are = sym (append-nil calls) ∙ sym (append-nil (calls ++ []));
    untroubled = untroubled;
    one = nothing_comes;
    shut = tt;
    shows = subst (λ (l : List wire.Call). Show extents from to why l) (sym (append-nil calls)) shows;
    failed = λ none. refl;
    answered = λ answer. still_alive calls untroubled.alive;
    whole = λ ground sound. still_whole calls untroubled.well;
  }

  was_then : needs_no_ground why ≡ true → (calls : List wire.Call) → WasUntroubled extents blank flush from to calls → IsDecidedBy extents blank flush from to why calls
  was_then free calls was = record {
    before = was.before;
    event = [];
    after = was.after;
    are = was.are ∙ ap (λ (l : List wire.Call). l ++ was.after) (sym (append-nil was.before));
    untroubled = was.untroubled;
    one = nothing_comes;
    shut = was.shut;
    shows = show_free extents from to (was.before ++ []) why free;
    failed = λ none. refl;
    answered = λ answer. still_alive was.before was.untroubled.alive;
    whole = λ ground sound. still_whole was.before was.untroubled.well;
  }

  -- or in what the wires counted
  calm_decided : (start told : Option (List wire.Call)) → needs_no_ground why ≡ true → Told start told (WasUntroubled extents blank flush from to) → IsDecidedTo start told extents blank flush from to why
  calm_decided start told free was = record { on = λ other. told_as start told (was_then free) was }

  -- No memory was had.
  pub no_memory : (start told : Option (List wire.Call)) → is_of_memory why ≡ true → IsDecidedTo start told extents blank flush from to why
  no_memory start told short = record { on = λ other. absurd (false≢true (sym other ∙ short)) }

-- So it is of a copy with these options.
module _ (options : CopyOptions) (from to : Place) (why : CopyFault) where
  pub memory_decided : (start told : Option (List wire.Call)) → is_of_memory why ≡ true → IsDecided start told options from to why
  memory_decided start told short = record { on = λ other. absurd (false≢true (sym other ∙ short)) }

  pub was_decided : (start told : Option (List wire.Call)) → needs_no_ground why ≡ true → Told start told (WasUntroubledAs options from to) → IsDecided start told options from to why
  was_decided start told free was = record { on = λ other. told_as start told (λ calls so. record { flush = so.flush; wanted = so.wanted; by = was_then options.extents options.destination_is_zero so.flush from to why free calls so.was }) was }

  -- A flush is wanted unless what both sides told settles that none is.
  pub first_decided : (start told : Option (List wire.Call)) → IsDecidedTo start told options.extents options.destination_is_zero true from to why → IsDecided start told options from to why
  first_decided start told d = record { on = λ other. told_as start told (λ calls by. record { flush = true; wanted = inl refl; by = by }) (d.on other) }

-- Links are shut.

both_shut : (one other : List wire.Call) → OnlyShut one → OnlyShut other → OnlyShut (one ++ other)
both_shut [] other a b = b
both_shut (call ∷ one) other a b = (a.0, both_shut one other a.1 b)

pub shut_none : (told : Option (List wire.Call)) → GoesShut told told
shut_none told = record { on = λ all is. record { before = all; more = []; was = is; now = sym (append-nil all); are = tt } }

pub shut_one : (a b : Option (List wire.Call)) (link : ℕ) → Adds a b (wire.Shut link) → GoesShut a b
shut_one a b link adds = record { on = λ all is. (let grown = adds all is in record { before = grown.0; more = wire.Shut link ∷ []; was = grown.1; now = grown.2; are = (refl, tt) }) }

pub shut_then : (a b c : Option (List wire.Call)) → GoesShut a b → GoesShut b c → GoesShut a c
shut_then a b c one two = record {
  on = λ all is.
      let late = two.on all is in
      let early = one.on late.before late.was in
      record {
        before = early.before;
        more = early.more ++ late.more;
        was = early.was;
        now = late.now ∙ ap (λ (l : List wire.Call). l ++ late.more) early.now ∙ append_assoc early.before early.more late.more;
        are = both_shut early.more late.more early.are late.are;
      };
}

-- what is so of calls is so of them with links shut behind them
told_shut : {Is Is' : List wire.Call → Type 0} (start a b : Option (List wire.Call)) → ((calls more : List wire.Call) → OnlyShut more → Is calls → Is' (calls ++ more)) → GoesShut a b → Told start a Is → Told start b Is'
told_shut start a b leads goes told = record {
  since = λ all is.
      let shut = goes.on all is in
      let since = told.since shut.before shut.was in
      since_on start shut.before all shut.more shut.now since (leads since.calls shut.more shut.are since.is);
}

module _ (extents blank flush : Bool) (from to : Place) where
  untroubled_shut : (calls more : List wire.Call) → OnlyShut more → WasUntroubled extents blank flush from to calls → WasUntroubled extents blank flush from to (calls ++ more)
  untroubled_shut calls more shut w = record { before = w.before; after = w.after ++ more; are = ap (λ (l : List wire.Call). l ++ more) w.are ∙ append_assoc w.before w.after more; untroubled = w.untroubled; shut = both_shut w.after more w.shut shut }

  by_shut : (why : CopyFault) (calls more : List wire.Call) → OnlyShut more → IsDecidedBy extents blank flush from to why calls → IsDecidedBy extents blank flush from to why (calls ++ more)
  by_shut why calls more shut d = record {
    before = d.before;
    event = d.event;
    after = d.after ++ more;
    are = ap (λ (l : List wire.Call). l ++ more) d.are ∙ append_assoc (d.before ++ d.event) d.after more;
    untroubled = d.untroubled;
    one = d.one;
    shut = both_shut d.after more d.shut shut;
    shows = d.shows;
    failed = d.failed;
    answered = d.answered;
    whole = d.whole;
  }

module _ (options : CopyOptions) (from to : Place) (start a b : Option (List wire.Call)) (goes : GoesShut a b) where
  pub was_shut : Told start a (WasUntroubledAs options from to) → Told start b (WasUntroubledAs options from to)
  was_shut was = told_shut start a b
      (λ calls more shut so. record { flush = so.flush; wanted = wanted_longer options from to so.flush calls more so.wanted; was = untroubled_shut options.extents options.destination_is_zero so.flush from to calls more shut so.was }) goes was

  pub decided_shut : (why : CopyFault) → IsDecided start a options from to why → IsDecided start b options from to why
  decided_shut why d = record {
    on = λ other. told_shut start a b
        (λ calls more shut so. record { flush = so.flush; wanted = wanted_longer options from to so.flush calls more so.wanted; by = by_shut options.extents options.destination_is_zero so.flush from to why calls more shut so.by }) goes (d.on other);
  }

-- Steps.

module _ (sides : Option Sides) (parting : Bool) where
  pub decides_memory : (now : board.Seen) (held : List (Held Ticket)) (a b : Option (List wire.Call)) (why : CopyFault) → is_of_memory why ≡ true → DecidesOn sides parting now held a b why
  decides_memory now held a b why short = record { on = λ way start s connected told fits. no_memory way.extents way.how.skip way.flush way.from way.to why start b short }

  pub decides_calm : (now : board.Seen) (held : List (Held Ticket)) (told : Option (List wire.Call)) (why : CopyFault) → IsCalm sides now held → needs_no_ground why ≡ true → DecidesOn sides parting now held told told why
  decides_calm now held told why calm free = record { on = λ way start s connected is fits. calm_decided way.extents way.how.skip way.flush way.from way.to why start told free (was_calm sides parting way now held start told calm connected is fits) }

  pub decides_rests : (now : board.Seen) (held : List (Held Ticket)) (a b : Option (List wire.Call)) (why : CopyFault) → IsCalm sides now held → b ≡ a → needs_no_ground why ≡ true → DecidesOn sides parting now held a b why
  decides_rests now held a b why calm same free = subst (λ (told : Option (List wire.Call)). DecidesOn sides parting now held a told why) (sym same) (decides_calm now held a why calm free)

  -- behind a step that keeps a copy on its way
  pub decides_then : (now now' : board.Seen) (held held' : List (Held Ticket)) (a b c : Option (List wire.Call)) (why : CopyFault) → Goes now held a now' held' b → DecidesOn sides parting now' held' b c why → DecidesOn sides parting now held a c why
  decides_then now now' held held' a b c why goes d = record { on = λ way start s connected on fits. d.on way start (goes.stand s) ((goes_connected now now' held held' a b goes s).on start connected) (goes.on parting way start s on) (fits_later sides parting way start a b (goes.gives s) fits) }

  -- A connect gave no link.
  pub decides_refused : (now : board.Seen) (held : List (Held Ticket)) (a b : Option (List wire.Call)) (to : Target) (why : CopyFault) → IsCalm sides now held → is_of_link why ≡ true → Adds a b (wire.Connect to None) → DecidesOn sides parting now held a b why
  decides_refused now held a b to why calm link adds = record {
    on = λ way start s connected is fits. record {
      on = λ other. told_on start a b (wire.Connect to None) adds
          (λ calls on. record {
            before = calls;
            event = wire.Connect to None ∷ [];
            after = [];
            are = sym (append-nil (calls ++ wire.Connect to None ∷ []));
            untroubled = calm_untroubled sides parting way now calls held on.0.0 calm on.0.1 on.1;
            one = inr (record { to = to; are = refl });
            shut = tt;
            shows = show_free way.extents way.from way.to (calls ++ wire.Connect to None ∷ []) why (link_free why link);
            failed = λ none. not_both (is_of_link why) none link;
            answered = λ answer. not_both (is_of_answer why) (free_unanswered why (link_free why link)) answer;
            whole = λ ground sound. not_both (needs_no_ground why) ground (link_free why link);
          }) (told_both start a (told_both start a is connected) fits);
    };
  }

-- A copy on its way.

-- In a turn that goes on nothing came for which it ends.
pub way_calm : (copy : copier.Seen) (start a b : Option (List wire.Call)) (now : board.Seen) (held : List (Held Ticket)) → Goes copy.board copy.held a now held b → IsCalm None now held → IsOnItsWay start a copy → Told start b (WasUntroubledAs copy.options copy.from copy.to)
way_calm copy start a b now held goes calm on =
    told_as start b (λ calls all. record { flush = on.way.flush; wanted = all.0; was = all.1 })
    (way_told copy start a b on (goes.lasts on.stand)
    (way_as copy start a b on (λ extents blank from to. Told start b (WasUntroubled extents blank on.way.flush from to))
    (was_calm None (work.is_parting on.job.phase) on.way now held start b calm ((goes_connected copy.board now copy.held held a b goes on.stand).on start on.connected) (goes.on (work.is_parting on.job.phase) on.way start on.stand on.on)
    (fits_later None (work.is_parting on.job.phase) on.way start a b (goes.gives on.stand) (way_fits copy start a on)))))

-- the exports and the options are the same
pub decided_all : (copy now : copier.Seen) (start told : Option (List wire.Call)) (why : CopyFault) → now ≡ with_all copy now → IsDecided start told now.options now.from now.to why → IsDecided start told copy.options copy.from copy.to why
decided_all copy now start told why kept d = subst (λ (s : copier.Seen). IsDecided start told s.options s.from s.to why) kept d

-- It would not wait any longer.
pub rests_decided : (options : CopyOptions) (from to : Place) (why : CopyFault) (start a b : Option (List wire.Call)) → needs_no_ground why ≡ true → b ≡ a → Told start a (WasUntroubledAs options from to) → IsDecided start b options from to why
rests_decided options from to why start a b free same was = subst (λ (told : Option (List wire.Call)). IsDecided start told options from to why) (sym same) (was_decided options from to why start a free was)

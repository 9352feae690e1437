-- Before its first turn a copy asks nothing.
use Rattle.std.proofs.Common.{◌≡◌, ◌⊎◌, inl, inr, ℕ, length, Bool, true, false, List, [], ◌∷◌, ◌++◌, Option, Some, None, refl, ap, sym, subst, ◌∙◌}
use Rattle.lnbd_model.specs.declared.target.Place.{Place}
use Rattle.lnbd_callbacks.specs.Calls.{Call}
use Rattle.lnbd_callbacks.specs.Steps.{OneByOne}
use Rattle.lnbd_link.specs.Call as wire
use Rattle.lnbd_link.specs.Part.{Adds}
use Rattle.lnbd_handle.specs.Histories.{max_unretired}
use Rattle.lnbd_history.specs.History.{asked}
use Rattle.lnbd_history.specs.Commands.{Command}
use Rattle.lnbd_asked.specs.Link.{Nobody}
use Rattle.lnbd_asked.specs.Transcript.{asked_on, dealt_with, is_of, on_link, only_if}
use Rattle.lnbd_machine.specs.Machine.{Machine}
use Rattle.lnbd_standing.specs.Standing.{StandsFor}
use Rattle.lnbd_standing.proofs.Standing.{stands_right}
use Rattle.lnbd_poll.specs.Held.{Held, AreAt}
use Rattle.lnbd_poll.specs.Seen.{Seen}
use Rattle.lnbd_poll.specs.Seen as poll
use Rattle.lnbd_poll.specs.declared.noticed.Turn.{Turn}
use Rattle.lnbd_poll.specs.Turned.{TurnsCut, TurnsWhole}
use Rattle.lnbd_poll.specs.Turns.{Whole}
use Rattle.lnbd_plan.specs.declared.options.CopyOptions.{CopyOptions}
use Rattle.lnbd_board.specs.declared.how.How.{How}
use Rattle.lnbd_board.specs.declared.ticket.Ticket.{Ticket}
use Rattle.lnbd_board.specs.Files as board
use Rattle.lnbd_course.specs.Parts.{NothingWasAsked}
use Rattle.lnbd_course.proofs.Once as once
use Rattle.lnbd_course.proofs.Parts as part
use Rattle.lnbd_course.proofs.Parts.{AllUnissued}
use Rattle.lnbd_course.proofs.Quiet.{connects_own, links_stay, nothing_stays}
use Rattle.lnbd_conduct.specs.declared.sides.Sides.{Sides}
use Rattle.lnbd_conduct.specs.declared.terms.Terms.{Terms}
use Rattle.lnbd_conduct.specs.Begun.{opened}
use Rattle.lnbd_copy.specs.Copier.{GoesFurther, HasMet, HasNotBegun, beginning}
use Rattle.lnbd_copy.specs.Copier as copier
use Rattle.lnbd_copy.specs.Faults.{AreUnissued, AsksNone, AsksNothing, GoesIdly, IsFresh, StaysFresh, StaysUnasked}
use Rattle.lnbd_conduct.specs.Changes.{Behaves}
use Rattle.lnbd_copy.specs.Lasting.{Lasts}
use Rattle.lnbd_copy.specs.Opening.{Dials}
use Rattle.lnbd_copy.specs.Way.{Goes, IsOn, Stand, Way}
use Rattle.lnbd_conduct.specs.Told.{Told}
use Rattle.lnbd_copy.proofs.AlwaysLemmas.{always_nothing}
use Rattle.lnbd_copy.proofs.CopierLemmas.{begins_on, first_on, no_handles, second_on, told_as, with_held}
use Rattle.lnbd_copy.proofs.EndLemmas.{all_taken}
use Rattle.lnbd_copy.proofs.FailLemmas.{all_stand}
use Rattle.lnbd_copy.proofs.FaultLemmas.{IsTurn, told_both}
use Rattle.lnbd_copy.proofs.GroundLemmas.{dials_second, goes_first}
use Rattle.lnbd_copy.proofs.IdleLemmas.{StaysIdly, told_idly}
use Rattle.lnbd_copy.proofs.TurnLemmas.{since_on, some_same, told_begins, turned_goes}

-- What the handles took.

seens_unissued : (held : List (Held Ticket)) (seens : List (Seen Ticket)) → AreAt held seens → AreUnissued held → AllUnissued seens
seens_unissued [] [] at none = tt
seens_unissued [] (seen ∷ all) at none = absurd at
seens_unissued (one ∷ others) [] at none = absurd at
seens_unissued (one ∷ others) (seen ∷ all) at none = (sym (stands_right max_unretired seen.history one.handle at.0.stands).issued ∙ none.0, seens_unissued others all at.1 none.1)

held_unissued : (held : List (Held Ticket)) (seens : List (Seen Ticket)) → AreAt held seens → AllUnissued seens → AreUnissued held
held_unissued [] [] at none = tt
held_unissued [] (seen ∷ all) at none = absurd at
held_unissued (one ∷ others) [] at none = absurd at
held_unissued (one ∷ others) (seen ∷ all) at none = ((stands_right max_unretired seen.history one.handle at.0.stands).issued ∙ none.0, held_unissued others all at.1 none.1)

-- one handle more, which was just opened
pub unissued_more : (held held' : List (Held Ticket)) (name : List ℕ) (extents : Bool) (number : ℕ) (handle : Machine Ticket) → StandsFor max_unretired (opened name extents) handle → held' ≡ held ++ record { link = number; handle = handle; inbox = [] } ∷ [] → AreUnissued held → AreUnissued held'
unissued_more held held' name extents number handle stands are none = subst AreUnissued (sym are) (go held none)
  where
    began : (extents : Bool) → StandsFor max_unretired (opened name extents) handle → handle.known.issued ≡ 0
    began true stands = (stands_right max_unretired (opened name true) handle stands).issued
    began false stands = (stands_right max_unretired (opened name false) handle stands).issued

    go : (all : List (Held Ticket)) → AreUnissued all → AreUnissued (all ++ record { link = number; handle = handle; inbox = [] } ∷ [])
    go [] none = (began extents stands, tt)
    go (one ∷ others) none = (none.0, go others none.1)

pub unissued_as : (held held' : List (Held Ticket)) → held' ≡ held → AreUnissued held → AreUnissued held'
unissued_as held held' same none = subst AreUnissued (sym same) none

-- What their calls asked.

pub on_unasked : (way : Way) (now : board.Seen) (held : List (Held Ticket)) (calls : List wire.Call) → IsFresh way now held calls → AsksNothing way.from way.to calls
on_unasked way now held calls fresh =
    let on = fresh.on in
    record {
      links = once.own_links way.from way.to way.size way.how on.has way.slices now calls (all_taken way.from way.to way.size way.how on.has way.slices now calls held on.seens on.at on.stands.between);
      none = part.nothing_yet way.from way.to way.size way.how on.has way.slices now calls on.seens on.stands.between (all_stand held on.seens on.at) on.all (seens_unissued held on.seens on.at fresh.unissued);
    }

-- In a turn, whole or short, they ask nothing.
module _ (way : Way) (now now' : board.Seen) (calls more : List wire.Call) (held held' : List (Held Ticket)) (after : List (Seen Ticket)) (fresh : IsFresh way now held calls) (at : AreAt held' after) (turn : IsTurn fresh.on.seens now more after now') where
  unissued : (link : ℕ) → (asked (fresh.on.stands.between.course.histories link)).issued ≡ 0
  unissued = part.links_unissued way.from way.to way.size way.how fresh.on.has way.slices now calls fresh.on.seens fresh.on.stands.between (all_stand held fresh.on.seens fresh.on.at) fresh.on.all (seens_unissued held fresh.on.seens fresh.on.at fresh.unissued)

  turned_unasked : AsksNothing way.from way.to (calls ++ more)
  turned_unasked = record {
    links = part.own_links way.from way.to way.size way.how fresh.on.has way.slices now now' calls more fresh.on.seens after turn.ending fresh.on.stands.between turn.turns (all_stand held' after at);
    none = part.nothing_asked way.from way.to way.size way.how fresh.on.has way.slices now now' calls more fresh.on.seens after turn.ending fresh.on.stands.between turn.turns (all_stand held' after at) unissued;
  }

  turned_unissued : AreUnissued held'
  turned_unissued = held_unissued held' after at (part.still_unissued way.from way.to way.size way.how fresh.on.has way.slices now now' calls more fresh.on.seens after turn.ending fresh.on.stands.between turn.turns (all_stand held' after at) unissued)

module _ (now now' : board.Seen) (held held' : List (Held Ticket)) (a b : Option (List wire.Call)) (Leads : List (Seen Ticket) → List wire.Call → List (Seen Ticket) → Type 0)
    (turns : (before : List (Seen Ticket)) (calls : List wire.Call) (after : List (Seen Ticket)) → Leads before calls after → IsTurn before now calls after now')
    (goes : poll.Goes a b (λ seens. AreAt held seens) (λ seens. AreAt held' seens) Leads) where
  fresh_then : (way : Way) (start : Option (List wire.Call)) (Is : List wire.Call → Type 0) →
      ((calls more : List wire.Call) (after : List (Seen Ticket)) → (fresh : IsFresh way now held calls) → AreAt held' after → IsTurn fresh.on.seens now more after now' → Is (calls ++ more)) → Stand held → Told start a (IsFresh way now held) → Told start b Is
  fresh_then way start Is leads stand told = record {
    since = λ all is.
        let first = (goes stand.seens stand.at).grown all is in
        let since = told.since first.0 first.1 in
        let went = goes since.is.on.seens since.is.on.at in
        let grown = went.grown all is in
        let same : grown.0 ≡ first.0 = some_same grown.0 first.0 (sym grown.1 ∙ first.1) in
        since_on start first.0 all went.calls (grown.2 ∙ ap (λ (l : List wire.Call). l ++ went.calls) same) since
        (leads since.calls went.calls went.after since.is went.at (turns since.is.on.seens went.calls went.after went.leads));
  }

  pub turn_unasked : AsksNone now held a b
  turn_unasked = record {
    on = λ way start stand told. fresh_then way start (AsksNothing way.from way.to) (λ calls more after fresh at turn. turned_unasked way now now' calls more held held' after fresh at turn) stand told;
  }

  pub turn_fresh : Goes now held a now' held' b → StaysFresh now held a now' held' b
  turn_fresh kept = record {
    on = λ way start stand told.
        told_as start b (λ calls both. record { on = both.0; unissued = both.1 })
        (told_both start b
        (kept.on false way start stand (told_as start a (λ calls fresh. fresh.on) told))
        (fresh_then way start (λ calls. AreUnissued held') (λ calls more after fresh at turn. turned_unissued way now now' calls more held held' after fresh at turn) stand told));
  }

abbrev steps : board.Seen → List (Call Ticket) → board.Seen → Type 0
steps = OneByOne board.Files

pub whole_fresh : (a b : Option (List wire.Call)) (f g : ℕ) (turn : Turn) (now now' : board.Seen) (held held' : List (Held Ticket)) →
    poll.Goes a b (λ seens. AreAt held seens) (λ seens. AreAt held' seens) (λ before calls after. TurnsWhole steps f g turn before now calls after now') → StaysFresh now held a now' held' b
whole_fresh a b f g turn now now' held held' goes =
    turn_fresh now now' held held' a b (λ before calls after. TurnsWhole steps f g turn before now calls after now') (λ before calls after leads. record { ending = Whole leads.moved; turns = leads.turns }) goes
    (turned_goes a b f g turn now now' held held' goes)

pub cut_unasked : (a b : Option (List wire.Call)) (f g : ℕ) (now now' : board.Seen) (held held' : List (Held Ticket)) →
    poll.Goes a b (λ seens. AreAt held seens) (λ seens. AreAt held' seens) (λ before calls after. TurnsCut steps f g before now calls after now') → AsksNone now held a b
cut_unasked a b f g now now' held held' goes =
    turn_unasked now now' held held' a b (λ before calls after. TurnsCut steps f g before now calls after now') (λ before calls after leads. record { ending = leads.ending; turns = leads.turns }) goes

-- Steps follow one another.

pub fresh_none : (now : board.Seen) (held : List (Held Ticket)) (told : Option (List wire.Call)) → StaysFresh now held told now held told
fresh_none now held told = record { on = λ way start stand is. is }

pub fresh_on : (now now2 now3 : board.Seen) (held held2 held3 : List (Held Ticket)) (a b c : Option (List wire.Call)) → (Stand held → Stand held2) → StaysFresh now held a now2 held2 b → StaysFresh now2 held2 b now3 held3 c → StaysFresh now held a now3 held3 c
fresh_on now now2 now3 held held2 held3 a b c stand one two = record { on = λ way start s is. two.on way start (stand s) (one.on way start s is) }

pub none_then : (now now2 : board.Seen) (held held2 : List (Held Ticket)) (a b c : Option (List wire.Call)) → (Stand held → Stand held2) → StaysFresh now held a now2 held2 b → AsksNone now2 held2 b c → AsksNone now held a c
none_then now now2 held held2 a b c stand one two = record { on = λ way start s is. two.on way start (stand s) (one.on way start s is) }

pub fresh_asks_none : (now now2 : board.Seen) (held held2 : List (Held Ticket)) (a b : Option (List wire.Call)) → StaysFresh now held a now2 held2 b → AsksNone now held a b
fresh_asks_none now now2 held held2 a b fresh = record { on = λ way start s is. told_as start b (λ calls f. on_unasked way now2 held2 calls f) (fresh.on way start s is) }

unasked_idly : (from to : Place) → StaysIdly (AsksNothing from to)
unasked_idly from to calls more quiet none unasked = record { links = links_stay calls more quiet none from to unasked.links; none = nothing_stays calls more quiet unasked.none }

pub told_unasked : (from to : Place) (start a b : Option (List wire.Call)) → GoesIdly a b → Told start a (AsksNothing from to) → Told start b (AsksNothing from to)
told_unasked from to start a b idly told = told_idly (AsksNothing from to) start a b (unasked_idly from to) idly told

pub none_idly : (now : board.Seen) (held : List (Held Ticket)) (a b c : Option (List wire.Call)) → AsksNone now held a b → GoesIdly b c → AsksNone now held a c
none_idly now held a b c none idly = record { on = λ way start s is. told_unasked way.from way.to start b c idly (none.on way start s is) }

-- a pause
pub fresh_rests : (now : board.Seen) (held held' : List (Held Ticket)) (a b : Option (List wire.Call)) → held' ≡ held → Goes now held a now held' b → StaysFresh now held a now held' b
fresh_rests now held held' a b same goes = record {
  on = λ way start stand told.
      let is : Told start b (λ calls. IsOn way now calls held') = goes.on false way start stand (told_as start a (λ calls fresh. fresh.on) told) in
      told_as start b (λ calls both. record { on = both.0; unissued = both.1 }) (told_both start b is (unissued_told start a b told goes stand));
}
  where
    unissued_told : {way : Way} (start a b : Option (List wire.Call)) → Told start a (IsFresh way now held) → Goes now held a now held' b → Stand held → Told start b (λ calls. AreUnissued held')
    unissued_told {way} start a b told goes stand = record {
      since = λ all is.
          let front = (goes.lasts stand).on all is in
          let since = told.since front.before front.is in
          since_on start front.before all front.after front.are since (subst AreUnissued (sym same) since.is.unissued);
    }

-- Connections.

pub unasked_none : (from to : Place) (told : Option (List wire.Call)) → StaysUnasked from to told told
unasked_none from to told = record { on = λ start is. is }

pub unasked_then : (from to : Place) (a b c : Option (List wire.Call)) → StaysUnasked from to a b → StaysUnasked from to b c → StaysUnasked from to a c
unasked_then from to a b c one two = record { on = λ start is. two.on start (one.on start is) }

pub unasked_idle : (from to : Place) (a b : Option (List wire.Call)) → GoesIdly a b → StaysUnasked from to a b
unasked_idle from to a b idly = record { on = λ start is. told_unasked from to start a b idly is }

pub unasked_connects : (from to place : Place) (given : Option ℕ) (a b : Option (List wire.Call)) → (place ≡ from) ⊎ (place ≡ to) → Adds a b (wire.Connect place.to given) → StaysUnasked from to a b
unasked_connects from to place given a b there adds = record {
  on = λ start told. record {
    since = λ all is.
        let grown = adds all is in
        let since = told.since grown.0 grown.1 in
        since_on start grown.0 all (wire.Connect place.to given ∷ []) grown.2 since (record {
          links = connects_own from to place.to (address there) since.calls since.is.links given;
          none = nothing_stays since.calls (wire.Connect place.to given ∷ []) (λ link. refl) since.is.none;
        });
  };
}
  where
    address : (place ≡ from) ⊎ (place ≡ to) → (place.to ≡ from.to) ⊎ (place.to ≡ to.to)
    address (inl is) = inl (ap (λ (x : Place). x.to) is)
    address (inr is) = inr (ap (λ (x : Place). x.to) is)

-- Where nothing was asked, all that is to hold of a copy's calls holds.

only_none : {A : Type 0} (test : Bool) (one : Option A) → one ≡ None → only_if test one ≡ None
only_none true one none = none
only_none false one none = refl

none_some : {A : Type 0} (one : A) → None ≡ Some one → ⊥
none_some one e = cc

none_dealt : (place : Place) (calls : List wire.Call) (link cookie : ℕ) (command : Command Nobody) → NothingWasAsked calls → (dealt_with place calls).asked link cookie ≡ Some command → ⊥
none_dealt place calls link cookie command none is = none_some command (sym (only_none (is_of place calls link) (asked_on (on_link link calls) cookie) (none link cookie)) ∙ is)

pub nothing_behaves : (options : CopyOptions) (from to : Place) (calls : List wire.Call) → AsksNothing from to calls → Behaves options from to calls
nothing_behaves options from to calls unasked = record {
  asks = record { links = unasked.links; asked = inl unasked.none };
  answered = record { each = λ link cookie command is p reads. absurd (none_dealt from calls link cookie command unasked.none is) };
  dense = inl unasked.none;
  flushes = λ link cookie link' cookie' one other is is' here too. absurd (none_dealt to calls link cookie one unasked.none is);
  unflushed = λ unwanted link cookie command is. absurd (none_dealt to calls link cookie command unasked.none is);
  untouched = inl unasked.none;
  passed = inl unasked.none;
  shared = always_nothing options from to calls unasked.none;
  cut = inl unasked.none;
  first = λ link cookie command is flushes. absurd (none_dealt to calls link cookie command unasked.none is);
  runs = inl unasked.none;
}

pub told_behaves : (options : CopyOptions) (from to : Place) (start told : Option (List wire.Call)) → Told start told (AsksNothing from to) → Told start told (Behaves options from to)
told_behaves options from to start told unasked = told_as start told (λ calls is. nothing_behaves options from to calls is) unasked

-- The first connections.

-- of a copy that has not begun, however it is to be made
begins_fresh : (copy : copier.Seen) (how : How) (sides : Sides) (t : Option (List wire.Call)) → HasNotBegun copy → Told t t (IsFresh (beginning copy None how sides) copy.board copy.held)
begins_fresh copy how sides t none = told_begins t (record { on = begins_on copy how sides none; unissued = subst AreUnissued (sym none.held) tt })

pub begins_unasked : (copy : copier.Seen) (t : Option (List wire.Call)) → HasNotBegun copy → Told t t (AsksNothing copy.from copy.to)
begins_unasked copy t none =
    let way = beginning copy None copy.board.how (record { source = 0; destination = 0 }) in
    told_as t t (λ calls fresh. on_unasked way copy.board copy.held calls fresh) (begins_fresh copy copy.board.how (record { source = 0; destination = 0 }) t none)

pub any_sides : Sides
any_sides = record { source = 0; destination = 0 }

-- What no call changes is so after more calls.
pub told_fact : {A B : Type 0} (start a b : Option (List wire.Call)) → Lasts a b → (A → B) → Told start a (λ calls. A) → Told start b (λ calls. B)
told_fact start a b lasts leads told = record {
  since = λ all is.
      let front = lasts.on all is in
      let since = told.since front.before front.is in
      since_on start front.before all front.after front.are since (leads since.is);
}

pub fresh_both : (way : Way) (now : board.Seen) (held : List (Held Ticket)) (start told : Option (List wire.Call)) → Told start told (λ calls. IsOn way now calls held) → Told start told (λ calls. AreUnissued held) → Told start told (IsFresh way now held)
fresh_both way now held start told on none = told_as start told (λ calls both. record { on = both.0; unissued = both.1 }) (told_both start told on none)

unissued_told : (way : Way) (now : board.Seen) (held : List (Held Ticket)) (start told : Option (List wire.Call)) → Told start told (IsFresh way now held) → Told start told (λ calls. AreUnissued held)
unissued_told way now held start told fresh = told_as start told (λ calls f. f.unissued) fresh

pub unasked_as : (start told : Option (List wire.Call)) (from from' to to' : Place) → from ≡ from' → to ≡ to' → Told start told (AsksNothing from to) → Told start told (AsksNothing from' to')
unasked_as start told from from' to to' one two is = subst (λ (p : Place). Told start told (AsksNothing from' p)) two (subst (λ (p : Place). Told start told (AsksNothing p to)) one is)

pub stays_kept : (copy now : copier.Seen) (a b : Option (List wire.Call)) → now ≡ with_held copy now → StaysUnasked now.from now.to a b → StaysUnasked copy.from copy.to a b
stays_kept copy now a b kept stays = subst (λ (s : copier.Seen). StaysUnasked s.from s.to a b) kept stays

module _ (s0 s1 : copier.Seen) (t u : Option (List wire.Call)) (same : s1.board ≡ s0.board) (first : Dials s0.from s0.options.extents s0.board s0.held t s1.held u) (none : HasNotBegun s0) (unissued1 : AreUnissued s0.held → AreUnissued s1.held) where
  abbrev way : Way
  way = beginning s0 None s0.board.how any_sides

  pub first_fresh : Told t u (IsFresh way s1.board s1.held)
  first_fresh =
      fresh_both way s1.board s1.held t u (subst (λ (b : board.Seen). Told t u (λ calls. IsOn way b calls s1.held)) (sym same) (first_on s0 s1.held t u s0.board.how any_sides none first))
      (told_fact t t u first.lasts unissued1 (unissued_told way s0.board s0.held t t (begins_fresh s0 s0.board.how any_sides t none)))

  pub first_stand : Stand s1.held
  first_stand = first.stand (no_handles s0 none)

  pub source_unasked : (c : Option (List wire.Call)) → AsksNone s1.board s1.held u c → Told t c (AsksNothing s0.from s0.to)
  source_unasked c asks = asks.on way t first_stand first_fresh

  -- and behind the source's first connection that of the destination
  module _ (s2 s3 : copier.Seen) (v w : Option (List wire.Call)) (k1 : s1 ≡ with_held s0 s1) (k2 : s2 ≡ with_held s1 s2) (b3 : s3.board ≡ s2.board) (one : Goes s1.board s1.held u s2.board s2.held v) (fresh1 : StaysFresh s1.board s1.held u s2.board s2.held v)
      (second : Dials s2.to false s2.board s2.held v s3.held w) (unissued3 : AreUnissued s2.held → AreUnissued s3.held) where
    pub both_on : Stand s3.held × Told t w (λ calls. IsOn way s2.board calls s3.held)
    both_on = second_on s0 s2.board s1.held s2.held s3.held t u v w s0.board.how any_sides none first (goes_first s0 s1 s2 u v same one) (dials_second s0 s1 s2 s3 v w k1 k2 second)

    pub both_fresh : Told t w (IsFresh way s3.board s3.held)
    both_fresh =
        fresh_both way s3.board s3.held t w (subst (λ (b : board.Seen). Told t w (λ calls. IsOn way b calls s3.held)) (sym b3) both_on.1)
        (told_fact t v w second.lasts unissued3 (unissued_told way s2.board s2.held t v (fresh1.on way t first_stand first_fresh)))

    pub both_unasked : (c : Option (List wire.Call)) → AsksNone s3.board s3.held w c → Told t c (AsksNothing s0.from s0.to)
    both_unasked c asks = asks.on way t both_on.0 both_fresh

    pub both_unissued : (now : board.Seen) (held : List (Held Ticket)) (x : Option (List wire.Call)) → StaysFresh s3.board s3.held w now held x → Told t x (λ calls. AreUnissued held)
    both_unissued now held x fresh = unissued_told way now held t x (fresh.on way t both_on.0 both_fresh)

-- Further connections.

pub met_unasked : (copy : copier.Seen) (start told : Option (List wire.Call)) (terms : Terms) → HasMet copy start told terms → Told start told (λ calls. AreUnissued copy.held) → Told start told (AsksNothing copy.from copy.to)
met_unasked copy start told terms met none =
    let way = beginning copy (Some terms.size) terms.how terms.sides in
    told_as start told (λ calls fresh. on_unasked way copy.board copy.held calls fresh) (fresh_both way copy.board copy.held start told met.on none)

pub further_unasked : (copy mid : copier.Seen) (sides : Sides) (start a b c : Option (List wire.Call)) → GoesFurther copy sides 2 copy.board copy.held a mid.board mid.held b → AsksNone mid.board mid.held b c → (AreUnissued copy.held → AreUnissued mid.held) → (terms : Terms) → HasMet copy start a terms →
    sides ≡ terms.sides → Told start a (λ calls. AreUnissued copy.held) → length copy.held ≡ 2 → Told start c (AsksNothing copy.from copy.to)
further_unasked copy mid sides start a b c further asks unissued_ terms met same none two =
    let way = beginning copy (Some terms.size) terms.how sides in
    asks.on way start (further.stand met.stand)
    (fresh_both way mid.board mid.held start b
    (further.on (Some terms.size) terms.how start met.stand two (subst (λ (x : Sides). Told start a (λ calls. IsOn (beginning copy (Some terms.size) terms.how x) copy.board calls copy.held)) (sym same) met.on))
    (told_fact start a b (further.lasts met.stand) unissued_ none))

-- At each pause of a copy that wants no link for writing a connection negotiates still, or as much is under way as may be.
use Rattle.std.proofs.Common.{◌≡◌, ◌≢◌, ◌⊎◌, inl, inr, ℕ, zero, suc, Bool, true, false, List, [], ◌∷◌, length, Option, Some, None, slice_get, ap, sym, subst}
use Rattle.lnbd_callbacks.specs.Calls.{Call}
use Rattle.lnbd_callbacks.specs.Steps.{OneByOne}
use Rattle.lnbd_model.specs.declared.state.State.TheVariants as state
use Rattle.lnbd_model.specs.declared.target.Place.{Place}
use Rattle.lnbd_model.specs.declared.target.Target.{Target}
use Rattle.lnbd_history.specs.Answers.{direction_after, state_after}
use Rattle.lnbd_machine.specs.Machine.{Machine}
use Rattle.lnbd_handle.specs.Histories.{ForEach}
use Rattle.std.specs.Option.{option_map}
use Rattle.lnbd_link.specs.Call as wire
use Rattle.lnbd_link.specs.Numbers.{is_open}
use Rattle.lnbd_link.specs.Part.{Adds}
use Rattle.lnbd_link.specs.declared.wires.Want.{Want}
use Rattle.lnbd_plan.specs.declared.options.CopyOptions.{CopyOptions}
use Rattle.lnbd_poll.specs.declared.noticed.Turn.{Turn}
use Rattle.lnbd_poll.specs.Held.{Held, AreAt, wants_now}
use Rattle.lnbd_poll.specs.Seen.{Seen}
use Rattle.lnbd_poll.specs.Seen as poll
use Rattle.lnbd_poll.specs.Turned.{TurnsWhole}
use Rattle.lnbd_poll.specs.Turns.{Whole}
use Rattle.lnbd_board.specs.declared.how.How.{How}
use Rattle.lnbd_board.specs.declared.ticket.Ticket.{Ticket}
use Rattle.lnbd_board.specs.Files as board
use Rattle.lnbd_course.specs.Asks.{GrewBy}
use Rattle.lnbd_course.specs.UnderWay.{NoneWrites}
use Rattle.lnbd_conduct.specs.declared.sides.Sides.{Sides}
use Rattle.lnbd_conduct.specs.declared.terms.Terms.{Terms}
use Rattle.lnbd_copy.specs.Copier.{GoesFurther, HasMet, HasNotBegun, IsOnItsWay, beginning}
use Rattle.lnbd_copy.specs.Copier as copier
use Rattle.lnbd_conduct.specs.Slices.{HasAllUnderWay}
use Rattle.lnbd_conduct.specs.Waiting.{WantsAll, IsFullPause, PausesAreFull, NoneForWriting, IsNegotiating, WaitsWell}
use Rattle.lnbd_copy.specs.Links.{LinksGo, LinksStand}
use Rattle.lnbd_copy.specs.Opening.{Dials}
use Rattle.lnbd_copy.specs.Pauses.{Unpaused}
use Rattle.lnbd_usage.specs.Pauses.{AtEachPause}
use Rattle.lnbd_copy.specs.Unanswered.{HasAllAsked}
use Rattle.lnbd_copy.specs.Unready.{IsEarlyPause, IsLoud, IsOpeningPause, StaysUnready}
use Rattle.lnbd_copy.specs.Waits.{AreUnparted}
use Rattle.lnbd_copy.specs.Way.{Goes, IsOn, Stand, Way}
use Rattle.lnbd_conduct.specs.Told.{Told}
use Rattle.lnbd_copy.proofs.CopierLemmas.{first_on, kept_then, no_handles, second_on, told_as, with_held}
use Rattle.lnbd_copy.proofs.EndLemmas.{told_part}
use Rattle.lnbd_copy.proofs.FullLemmas.{turns_unpaused}
use Rattle.lnbd_copy.proofs.GroundLemmas.{drove_on, happens}
use Rattle.lnbd_copy.proofs.LeftOutLemmas.{wants_all, way_wants}
use Rattle.lnbd_copy.proofs.LinkLemmas.{held_open, links_begin}
use Rattle.lnbd_copy.proofs.PauseLemmas.{no_pauses, one_more, pauses_stay}
use Rattle.lnbd_copy.proofs.SettledLemmas.{same_since, told_both}
use Rattle.lnbd_copy.proofs.TurnLemmas.{since_on, told_begins}
use Rattle.lnbd_copy.proofs.UnansweredLemmas.{none_writes}
use Rattle.lnbd_copy.proofs.WaitLemmas.{waits_well, way_waits}

abbrev steps : board.Seen → List (Call Ticket) → board.Seen → Type 0
steps = OneByOne board.Files

-- A connection that negotiates still.

pub is_loud : (handle : Machine Ticket) (index : ℕ) (held : List (Held Ticket)) → ForEach handle (λ history. (state_after history ≡ state.Negotiating) ⊎ (direction_after history ≡ 3)) → option_map (λ (one : Held Ticket). one.handle) (slice_get held index) ≡ Some handle → IsLoud held
is_loud handle index held loud is = record { index = index; loud = happens handle (λ history. (state_after history ≡ state.Negotiating) ⊎ (direction_after history ≡ 3)) loud index held is }

no_seen : (seen : Seen Ticket) → None ≡ Some seen → ⊥
no_seen seen e = cc

seen_same : (one other : Seen Ticket) → Some one ≡ Some other → one ≡ other
seen_same one other e = cc

writes_none : (seens : List (Seen Ticket)) (index : ℕ) (seen : Seen Ticket) → NoneWrites seens → slice_get seens index ≡ Some seen → direction_after seen.history ≢ 3
writes_none [] index seen none is = absurd (no_seen seen is)
writes_none (first ∷ others) zero seen none is = subst (λ (s : Seen Ticket). direction_after s.history ≢ 3) (seen_same first seen is) none.0
writes_none (first ∷ others) (suc index) seen none is = writes_none others index seen none.1 is

unready_at : (way : Way) (now : board.Seen) (calls : List wire.Call) (held : List (Held Ticket)) → IsLoud held → NoneForWriting (wants_now held) → IsOn way now calls held → LinksStand held calls → IsNegotiating way.extents way.from way.to calls
unready_at way now calls held loud none on links =
    let h = loud.loud.on on.seens on.at in
    let still : state_after h.seen.history ≡ state.Negotiating = elim h.is [
      | inl negotiates ↦ negotiates
      | inr writes ↦ absurd (writes_none on.seens loud.index h.seen (none_writes held on.seens on.at none) h.there writes)
    ] in
    let drove = drove_on false way now calls held on (λ history. state_after history ≡ state.Negotiating) loud.index (record { seen = h.seen; there = h.there; is = still }) (λ link. is_open link calls ≡ true) (held_open held on.seens calls loud.index h.seen on.at h.there links) in
    record { source = on.has h.seen.link; drove = drove.0; opened = drove.1 }

-- Steps while connections negotiate.

pub told_stays : {Is : (before : List wire.Call) → List Want → Type 0} (start a b : Option (List wire.Call)) → Unpaused a b → Told start a (AtEachPause Is) → Told start b (AtEachPause Is)
told_stays {Is} start a b unpaused told = record {
  since = λ all is.
      let made = unpaused.on all is in
      let since = told.since made.before made.was in
      since_on start made.before all made.more made.now since (pauses_stay Is since.calls made.more made.are since.is);
}

pub told_rests : {Is : (before : List wire.Call) → List Want → Type 0} (start a b : Option (List wire.Call)) (wants : List Want) → Adds a b (wire.Pause wants) → Told start a (λ calls. Is calls wants) → Told start a (AtEachPause Is) → Told start b (AtEachPause Is)
told_rests {Is} start a b wants adds so told = record {
  since = λ all is.
      let added = adds all is in
      let since = told.since added.0 added.1 in
      let now = so.since added.0 added.1 in
      since_on start added.0 all (wire.Pause wants ∷ []) added.2 since (one_more Is since.calls wants (subst (λ (l : List wire.Call). Is l wants) (same_since start added.0 now since) now.is) since.is);
}

pub unready_none : (now : board.Seen) (held : List (Held Ticket)) (told : Option (List wire.Call)) → StaysUnready now held told told
unready_none now held told = record { on = λ way start s on links pauses. pauses }

-- One without a pause does, whatever came of it.
pub unready_unpaused : (now : board.Seen) (held : List (Held Ticket)) (a b : Option (List wire.Call)) → (Stand held → Unpaused a b) → StaysUnready now held a b
unready_unpaused now held a b unpaused = record { on = λ way start s on links pauses. told_stays start a b (unpaused s) pauses }

pub unready_rests : (now : board.Seen) (held : List (Held Ticket)) (a b : Option (List wire.Call)) → IsLoud held → AreUnparted held → Adds a b (wire.Pause (wants_now held)) → StaysUnready now held a b
unready_rests now held a b loud unparted adds = record {
  on = λ way start s on links pauses. told_rests start a b (wants_now held) adds
      (told_as start a (λ calls both. ((λ none. unready_at way now calls held loud none both.0 both.1), waits_well false way now calls held unparted both.0, wants_all false way now calls held both.0 both.1)) (told_both start a on links)) pauses;
}

pub unready_turn : (a b : Option (List wire.Call)) (f g : ℕ) (turn : Turn) (now now' : board.Seen) (held held' : List (Held Ticket))
    → poll.Goes a b (λ seens. AreAt held seens) (λ seens. AreAt held' seens) (λ before calls after. TurnsWhole steps f g turn before now calls after now') → StaysUnready now held a b
unready_turn a b f g turn now now' held held' goes = record {
  on = λ way start s on links pauses. record {
    since = λ all is.
        let went = goes s.seens s.at in
        let grown = went.grown all is in
        let was = pauses.since grown.0 grown.1 in
        since_on start grown.0 all went.calls grown.2 was
        (pauses_stay (IsEarlyPause way.extents way.from way.to) was.calls went.calls (turns_unpaused steps s.seens now went.calls went.after now' (Whole went.leads.moved) went.leads.turns) was.is);
  };
}

pub unready_then : (now now2 : board.Seen) (held held2 : List (Held Ticket)) (a b c : Option (List wire.Call)) → Goes now held a now2 held2 b → (Stand held → LinksGo [] held a held2 b) → StaysUnready now held a b → StaysUnready now2 held2 b c → StaysUnready now held a c
unready_then now now2 held held2 a b c goes keeps one two = record {
  on = λ way start s on links pauses. two.on way start (goes.stand s) (goes.on false way start s on) ((keeps s).on start links) (one.on way start s on links pauses);
}

-- While the first connections are made, and further ones.

-- the first one is dialled
pub source_dialled : (extents : Bool) (from to : Place) (t u : Option (List wire.Call)) → Unpaused t u → Told t u (AtEachPause (IsEarlyPause extents from to))
source_dialled extents from to t u dials = told_stays t t u dials (told_begins t (no_pauses (IsEarlyPause extents from to)))

-- and negotiates
pub source_unready : (s0 s1 : copier.Seen) (t u v : Option (List wire.Call)) → s1.board ≡ s0.board → Dials s0.from s0.options.extents s0.board s0.held t s1.held u → HasNotBegun s0 → LinksGo (s0.from.to ∷ []) s0.held t s1.held u → Unpaused t u → StaysUnready s1.board s1.held u v →
    Told t v (AtEachPause (IsEarlyPause s0.options.extents s0.from s0.to))
source_unready s0 s1 t u v b1 first none connects dials settles =
    let sides : Sides = record { source = 1; destination = 1 } in
    let settles' : StaysUnready s0.board s1.held u v = subst (λ (b : board.Seen). StaysUnready b s1.held u v) b1 settles in
    settles'.on (beginning s0 None s0.board.how sides) t (first.stand (no_handles s0 none)) (first_on s0 s1.held t u s0.board.how sides none first)
    (connects.on t (links_begin s0.held t none.held)) (source_dialled s0.options.extents s0.from s0.to t u dials)

-- the other one, too
pub meet_unready : (s0 s1 s2 s3 : copier.Seen) (t u v w x : Option (List wire.Call)) → s1 ≡ with_held s0 s1 → s2 ≡ with_held s1 s2 → s1.board ≡ s0.board → s3.board ≡ s2.board →
    Dials s0.from s0.options.extents s0.board s0.held t s1.held u → Goes s1.board s1.held u s2.board s2.held v → Dials s2.to false s2.board s2.held v s3.held w → HasNotBegun s0 →
    LinksGo (s0.from.to ∷ []) s0.held t s1.held u → (Stand s1.held → LinksGo [] s1.held u s2.held v) → LinksGo (s2.to.to ∷ []) s2.held v s3.held w →
    Unpaused t u → StaysUnready s1.board s1.held u v → Unpaused v w → StaysUnready s3.board s3.held w x → Told t x (AtEachPause (IsEarlyPause s0.options.extents s0.from s0.to))
meet_unready s0 s1 s2 s3 t u v w x k1 k2 b1 b3 first one second none connects keeps connects2 dials settles dials2 settles2 =
    let k02 = kept_then s0 s1 s2 k1 k2 in
    let how : How = s0.board.how in
    let sides : Sides = record { source = 1; destination = 1 } in
    let one' : Goes s0.board s1.held u s2.board s2.held v = subst (λ (b : board.Seen). Goes b s1.held u s2.board s2.held v) b1 one in
    let second' : Dials s0.to false s2.board s2.held v s3.held w = subst (λ (p : Place). Dials p false s2.board s2.held v s3.held w) (ap (λ (s : copier.Seen). s.to) k02) second in
    let settles2' : StaysUnready s2.board s3.held w x = subst (λ (b : board.Seen). StaysUnready b s3.held w x) b3 settles2 in
    let met = source_unready s0 s1 t u v b1 first none connects dials settles in
    let links = connects2.on t ((keeps (first.stand (no_handles s0 none))).on t (connects.on t (links_begin s0.held t none.held))) in
    let both = second_on s0 s2.board s1.held s2.held s3.held t u v w how sides none first one' second' in
    settles2'.on (beginning s0 None how sides) t both.0 both.1 links (told_stays t v w dials2 met)

pub further_unready : (copy : copier.Seen) (sides : Sides) (to : List Target) (now : board.Seen) (held : List (Held Ticket)) (start a b c d : Option (List wire.Call)) (terms : Terms) → GoesFurther copy sides 2 copy.board copy.held a now held c → LinksGo to copy.held a held c → Unpaused a b → Unpaused b c → StaysUnready now held c d →
    HasMet copy start a terms → sides ≡ terms.sides → length copy.held ≡ 2 → Told start a (LinksStand copy.held) → Told start a (AtEachPause (IsEarlyPause copy.options.extents copy.from copy.to)) → Told start d (AtEachPause (IsEarlyPause copy.options.extents copy.from copy.to))
further_unready copy sides to now held start a b c d terms further connects one two settles met same count links pauses =
    let on : Told start a (λ calls. IsOn (beginning copy (Some terms.size) terms.how sides) copy.board calls copy.held) = subst (λ (s : Sides). Told start a (λ calls. IsOn (beginning copy (Some terms.size) terms.how s) copy.board calls copy.held)) (sym same) met.on in
    settles.on (beginning copy (Some terms.size) terms.how sides) start (further.stand met.stand) (further.on (Some terms.size) terms.how start met.stand count on) (connects.on start links)
    (told_stays start b c two (told_stays start a b one pauses))

-- A copy that keeps its places keeps it so.

abbrev StaysEarly : copier.Seen → (a b : Option (List wire.Call)) → Type 0
StaysEarly copy a b = Told a b (AtEachPause (IsEarlyPause copy.options.extents copy.from copy.to))

pub early_kept : (copy mid : copier.Seen) (a b : Option (List wire.Call)) → mid ≡ record copy { held = mid.held; board = mid.board } → StaysEarly copy a b → StaysEarly mid a b
early_kept copy mid a b kept early = subst (λ (s : copier.Seen). StaysEarly s a b) (sym kept) early

pub early_back : (copy mid : copier.Seen) (a b : Option (List wire.Call)) → mid ≡ record copy { held = mid.held; board = mid.board } → StaysEarly mid a b → StaysEarly copy a b
early_back copy mid a b kept early = subst (λ (s : copier.Seen). StaysEarly s a b) kept early

pub opening_as : (one other : copier.Seen) (a b : Option (List wire.Call)) → one ≡ other → Told a b (AtEachPause (IsOpeningPause one.options.extents one.from one.to)) → Told a b (AtEachPause (IsOpeningPause other.options.extents other.from other.to))
opening_as one other a b same told = subst (λ (s : copier.Seen). Told a b (AtEachPause (IsOpeningPause s.options.extents s.from s.to))) same told

-- At each pause while they do both are so.

pub early_opening : (extents : Bool) (from to : Place) (start told : Option (List wire.Call)) → Told start told (AtEachPause (IsEarlyPause extents from to)) → Told start told (AtEachPause (IsOpeningPause extents from to))
early_opening extents from to start told early = told_as start told (λ calls each before after wants are. (each before after wants are).0) early

pub early_waits : (extents : Bool) (from to : Place) (start told : Option (List wire.Call)) → Told start told (AtEachPause (IsEarlyPause extents from to)) → Told start told (AtEachPause WaitsWell)
early_waits extents from to start told early = told_as start told (λ calls each before after wants are. (each before after wants are).1) early

-- From pause to pause.

module _ (options : CopyOptions) (from to : Place) where
  pub pauses_open : (start told : Option (List wire.Call)) → Told start told (AtEachPause (IsOpeningPause options.extents from to)) → Told start told (PausesAreFull options from to)
  pauses_open start told opening = told_as start told (λ calls each before after wants are none. inl (each before after wants are none)) opening

  pub pauses_turn : (start a b : Option (List wire.Call)) → Unpaused a b → Told start a (PausesAreFull options from to) → Told start b (PausesAreFull options from to)
  pauses_turn start a b unpaused told = told_stays start a b unpaused told

  pub pauses_rest : (start a b : Option (List wire.Call)) (wants : List Want) → Adds a b (wire.Pause wants) → (NoneForWriting wants → Told start a (HasAllUnderWay options from to)) → Told start a (PausesAreFull options from to) → Told start b (PausesAreFull options from to)
  pauses_rest start a b wants adds asked told = record {
    since = λ all is.
        let added = adds all is in
        let since = told.since added.0 added.1 in
        since_on start added.0 all (wire.Pause wants ∷ []) added.2 since
        (one_more (IsFullPause options from to) since.calls wants
        (λ none. let now = (asked none).since added.0 added.1 in inr (subst (HasAllUnderWay options from to) (same_since start added.0 now since) now.is)) since.is);
  }

-- A copy of which it is so, if it is from one place to another.
abbrev pub IsFine : copier.Seen → (start told : Option (List wire.Call)) → Type 0
IsFine copy start told = copy.from ≢ copy.to → Told start told (PausesAreFull copy.options copy.from copy.to)

pub fine_open : (old new : copier.Seen) (start told : Option (List wire.Call)) → new ≡ record old { start = new.start; held = new.held; board = new.board; job = new.job } → Told start told (AtEachPause (IsOpeningPause old.options.extents old.from old.to)) → IsFine new start told
fine_open old new start told kept opening = subst (λ (s : copier.Seen). IsFine s start told) (sym kept) (λ two. pauses_open old.options old.from old.to start told opening)

pub fine_turn : (old new : copier.Seen) (start a b : Option (List wire.Call)) → new ≡ record old { held = new.held; board = new.board; job = new.job } → Unpaused a b → IsFine old start a → IsFine new start b
fine_turn old new start a b kept unpaused fine =
    subst (λ (s : copier.Seen). IsFine s start b) (sym kept) (λ two. pauses_turn old.options old.from old.to start a b unpaused (fine two))

pub fine_rest : (old new : copier.Seen) (start a b : Option (List wire.Call)) → new ≡ record old { held = new.held } → Adds a b (wire.Pause (wants_now old.held)) → (old.from ≢ old.to → HasAllAsked start a old) → IsFine old start a → IsFine new start b
fine_rest old new start a b kept adds asked fine =
    subst (λ (s : copier.Seen). IsFine s start b) (sym kept) (λ two. pauses_rest old.options old.from old.to start a b (wants_now old.held) adds (asked two).on (fine two))

pub fine_held : (old new : copier.Seen) (start a b : Option (List wire.Call)) → new ≡ record old { held = new.held } → b ≡ a → IsFine old start a → IsFine new start b
fine_held old new start a b kept same fine = subst (λ (s : copier.Seen). IsFine s start b) (sym kept) (subst (λ (t : Option (List wire.Call)). IsFine old start t) (sym same) fine)

pub fine_unpaused : (copy : copier.Seen) (start a b : Option (List wire.Call)) → Unpaused a b → IsFine copy start a → IsFine copy start b
fine_unpaused copy start a b unpaused fine two = pauses_turn copy.options copy.from copy.to start a b unpaused (fine two)

-- The part that the transcript grew by is so.
pub done_pauses : (copy new : copier.Seen) (a b c : Option (List wire.Call)) → new ≡ record copy { start = new.start; held = new.held; board = new.board; job = new.job } → Unpaused b c → copy.from ≢ copy.to → IsFine new a b → GrewBy (PausesAreFull copy.options copy.from copy.to) a c
done_pauses copy new a b c kept unpaused two fine =
    let fine' : IsFine copy a b = subst (λ (s : copier.Seen). IsFine s a b) kept fine in
    told_part a c (fine_unpaused copy a b c unpaused fine' two)

-- A pause of a copy on its way.
pub waits_rest : (copy : copier.Seen) (start a b : Option (List wire.Call)) → AreUnparted copy.held → Adds a b (wire.Pause (wants_now copy.held)) → IsOnItsWay start a copy → Told start a (AtEachPause WaitsWell) → Told start b (AtEachPause WaitsWell)
waits_rest copy start a b unparted adds on told = told_rests start a b (wants_now copy.held) adds (way_waits copy start a unparted on) told

pub wants_rest : (copy now : copier.Seen) (start a b : Option (List wire.Call)) → now.options.extents ≡ copy.options.extents → now.from ≡ copy.from → now.to ≡ copy.to → Adds a b (wire.Pause (wants_now now.held)) → IsOnItsWay start a now → Told start a (LinksStand now.held) →
    Told start a (AtEachPause (WantsAll copy.options.extents copy.from copy.to)) → Told start b (AtEachPause (WantsAll copy.options.extents copy.from copy.to))
wants_rest copy now start a b extents from to adds on links told =
    let wants = wants_now now.held in
    told_rests start a b wants adds
    (told_as start a
    (λ calls is. subst (λ (e : Bool). WantsAll e copy.from copy.to calls wants) extents (subst (λ (t : Place). WantsAll now.options.extents copy.from t calls wants) to (subst (λ (f : Place). WantsAll now.options.extents f now.to calls wants) from is)))
    (way_wants now start a on links)) told

-- Turns and pauses keep a copy on its way.
use Rattle.std.proofs.Common.{◌≡◌, ℕ, zero, suc, Bool, true, false, List, [], ◌∷◌, ◌++◌, length, Option, Some, None, slice_get, refl, ap, sym, subst, ◌∙◌, append_assoc}
use Rattle.std.proofs.lemmas.List.{append-nil}
use Rattle.lnbd_callbacks.specs.Calls.{Call}
use Rattle.lnbd_callbacks.specs.Steps.{OneByOne}
use Rattle.lnbd_history.specs.Commands.{Command}
use Rattle.lnbd_history.specs.Events.{Event, History, Arrived, End, Issue, LinkFailed}
use Rattle.lnbd_link.specs.declared.wires.Want.{Want}
use Rattle.lnbd_model.specs.declared.target.Place.{Place}
use Rattle.lnbd_link.specs.Call as wire
use Rattle.lnbd_link.specs.Call.{ReadTold, Moved, Unready, Ended, ReadFault}
use Rattle.lnbd_link.specs.Numbers.{is_given}
use Rattle.lnbd_link.specs.Part.{Adds}
use Rattle.lnbd_poll.specs.declared.noticed.Noticed.{Noticed}
use Rattle.lnbd_poll.specs.declared.noticed.Noticed.TheVariants as noticed
use Rattle.lnbd_poll.specs.declared.noticed.Turn.{Turn}
use Rattle.lnbd_poll.specs.Alone.{AreApart, calls_on}
use Rattle.lnbd_poll.specs.Held.{Held, AreAt}
use Rattle.lnbd_poll.specs.Notices.{Arrives, Hears, ReadsIf, ReadsOn, is_reading}
use Rattle.lnbd_poll.specs.Seen.{Follows, Seen}
use Rattle.lnbd_poll.specs.Seen as poll
use Rattle.lnbd_poll.specs.Turned.{TurnsWhole}
use Rattle.lnbd_poll.specs.Turns.{All_took, Ending, Goes_on, Runs_short, Breaks_off, Stops, Takes, Turns, TurnsOne, Whole, WritesAll, is_lost}
use Rattle.lnbd_poll.specs.Turns as turns
use Rattle.lnbd_drives.specs.Driving.{with_event}
use Rattle.lnbd_drives.proofs.Exports.{turns_give_none}
use Rattle.lnbd_drives.proofs.Turning.{turns_pass_others}
use Rattle.lnbd_plan.specs.declared.grid.Slice.{Slice}
use Rattle.lnbd_board.specs.declared.how.How.{How}
use Rattle.lnbd_board.specs.declared.ticket.Ticket.{Ticket}
use Rattle.lnbd_board.specs.Files.{Files}
use Rattle.lnbd_board.specs.Files as board
use Rattle.lnbd_course.specs.Taken.{without_buffer}
use Rattle.lnbd_copy.specs.Asked.{IsAsked}
use Rattle.lnbd_conduct.specs.declared.sides.Sides.{Sides}
use Rattle.lnbd_copy.specs.Way.{ArePlaced, Filed, Goes, HasRested, IsOn, IsUnderWay, Keeps, Stand, Way, with_slices}
use Rattle.lnbd_conduct.specs.Told.{Since, Told}
use Rattle.lnbd_conduct.specs.Sides.{is_source}
use Rattle.lnbd_copy.specs.Statuses.{first_held}
use Rattle.lnbd_conduct.specs.Answered.{first_given, or_later}
use Rattle.lnbd_copy.proofs.FiledLemmas.{filed_none, filed_then, plays_filed}
use Rattle.lnbd_copy.proofs.LastLemmas.{lasts_adds, lasts_none, lasts_then}
use Rattle.lnbd_copy.proofs.HeldLemmas.{held_on}
use Rattle.lnbd_conduct.specs.Begun.{BeganAs}
use Rattle.lnbd_copy.proofs.BegunLemmas.{FirstGoes, first_stays, went_event, went_same, went_then, writes_went}
use Rattle.lnbd_copy.proofs.FirstLemmas.{AllGo, adds_none, all_stay, gives_none, gives_then, goes_knowing}
use Rattle.lnbd_copy.specs.Driven.{beginning_on}
use Rattle.lnbd_copy.proofs.DrivenLemmas.{drive_later}
use Rattle.lnbd_copy.proofs.OrderLemmas.{ordered_called, ordered_turned}
use Rattle.lnbd_copy.proofs.FlushedLemmas.{second_called, second_turned}
use Rattle.lnbd_copy.proofs.QueriedLemmas.{queried_turned}
use Rattle.lnbd_copy.proofs.RefusalLemmas.{turns_connected}
use Rattle.lnbd_copy.proofs.UnendedLemmas.{ended_called, ended_turned}
use Rattle.lnbd_copy.proofs.DrivenTurns.{brought_apart, brought_on, turns_brought}
use Rattle.lnbd_copy.proofs.HeardLemmas.{hears_later, no_more_given}
use Rattle.lnbd_copy.proofs.BindingLemmas.{Was, turn_stays_bound}
use Rattle.lnbd_copy.proofs.StepLemmas.{calls_stand, turns_stand}

abbrev steps : board.Seen → List (Call Ticket) → board.Seen → Type 0
steps = OneByOne Files

-- Links stay in their places.

abbrev pub SameLinks : (before after : List (Seen Ticket)) → Type 0
SameLinks [] [] = Unit {0}
SameLinks [] (here ∷ there) = ⊥
SameLinks (seen ∷ others) [] = ⊥
SameLinks (seen ∷ others) (here ∷ there) = (here.link ≡ seen.link) × SameLinks others there

pub links_stay : (seens : List (Seen Ticket)) → SameLinks seens seens
links_stay [] = tt
links_stay (seen ∷ others) = (refl, links_stay others)

-- apart from those of one list, apart from those of the other
apart_same : (before after : List (Seen Ticket)) → SameLinks before after → (link : ℕ) → AreApart link after → AreApart link before
apart_same [] [] same link apart = tt
apart_same [] (here ∷ there) same link apart = absurd same
apart_same (seen ∷ others) [] same link apart = absurd same
apart_same (seen ∷ others) (here ∷ there) same link apart = ((λ e. apart.0 (same.0 ∙ e)), apart_same others there same.1 link apart.1)

pub links_count : (before after : List (Seen Ticket)) → SameLinks before after → length after ≡ length before
links_count [] [] same = refl
links_count [] (here ∷ there) same = absurd same
links_count (seen ∷ others) [] same = absurd same
links_count (seen ∷ others) (here ∷ there) same = ap suc (links_count others there same.1)

pub none_some : {A : Type 0} (one : A) → None ≡ Some one → ⊥
none_some one e = cc

pub some_same : {A : Type 0} (one other : A) → Some one ≡ Some other → one ≡ other
some_same one other e = cc

was : (before after : List (Seen Ticket)) (index : ℕ) (here : Seen Ticket) → SameLinks before after → slice_get after index ≡ Some here → Was before index here
was [] [] index here same is = absurd (none_some here is)
was [] (first ∷ there) index here same is = absurd same
was (seen ∷ others) [] index here same is = absurd same
was (seen ∷ others) (first ∷ there) zero here same is = record { seen = seen; there = refl; link = ap (λ (s : Seen Ticket). s.link) (sym (some_same first here is)) ∙ same.0 }
was (seen ∷ others) (first ∷ there) (suc index) here same is = let w = was others there index here same.1 is in record { seen = w.seen; there = w.there; link = w.link }

pub placed_same : (parting : Bool) (sides : Sides) (has : ℕ → Bool) (before after : List (Seen Ticket)) → SameLinks before after → ArePlaced parting sides has before → ArePlaced parting sides has after
placed_same false sides has before after same placed = λ index here is.
    let w = was before after index here same is in
    ap has w.link ∙ placed index w.seen w.there
placed_same true sides has before after same placed = tt

pub at_count : (held : List (Held Ticket)) (seens : List (Seen Ticket)) → AreAt held seens → length held ≡ length seens
at_count [] [] at = refl
at_count [] (seen ∷ all) at = absurd at
at_count (one ∷ others) [] at = absurd at
at_count (one ∷ others) (seen ∷ all) at = ap suc (at_count others all at.1)

-- What a turn leaves.

tells_filed : (lost : Bool) (old new : History Ticket) (now now' : board.Seen) → turns.Told steps lost old now new now' → Filed now now'
tells_filed true old new now now' told = plays_filed (LinkFailed told.0) old now now' told.2
tells_filed false old new now now' told = subst (Filed now) (sym told.1) (filed_none now)

writes_filed : (link : ℕ) (old : History Ticket) (now : board.Seen) (calls : List wire.Call) (new : History Ticket) (now' : board.Seen) (moved : Option ℕ) → WritesAll steps link old now calls new now' moved → Filed now now'
writes_filed link old now calls new now' moved (Stops _ _ _ _ _ _ notice w none is) = tells_filed (is_lost notice) w.middle new now now' w.told
writes_filed link old now calls new now' moved (Goes_on _ _ _ _ _ _ notice own middle half other rest w some more are is) =
    filed_then now half now' (tells_filed (is_lost notice) w.middle middle now half w.told) (writes_filed link middle half other new now' rest more)

record Led (seen here : Seen Ticket) (now now' : board.Seen) : Type 0 where
  link : here.link ≡ seen.link
  went : BeganAs seen.history here.history
  filed : Filed now now'

follows : (seen here : Seen Ticket) (event : Event Ticket) (left : List ℕ) (now now' : board.Seen) → Follows steps event left seen here now now' → Led seen here now now'
follows seen here event left now now' f = record { link = ap (λ (s : Seen Ticket). s.link) f.is; went = went_event event seen.history here.history (ap (λ (s : Seen Ticket). s.history) f.is); filed = plays_filed event seen.history now now' f.plays }

stays : (seen here : Seen Ticket) (now now' : board.Seen) → here ≡ seen → now' ≡ now → Led seen here now now'
stays seen here now now' same still = record { link = ap (λ (s : Seen Ticket). s.link) same; went = went_same seen.history here.history (ap (λ (s : Seen Ticket). s.history) same); filed = subst (Filed now) (sym still) (filed_none now) }

arrives : (bytes : List ℕ) (notice : Noticed) (seen here : Seen Ticket) (now now' : board.Seen) → Arrives steps bytes notice seen here now now' → Led seen here now now'
arrives bytes (noticed.Moved n) seen here now now' h = follows seen here (Arrived bytes h.1.0) [] now now' h.1.1
arrives bytes noticed.NoMemory seen here now now' h = follows seen here _ _ now now' h.2.1
arrives bytes noticed.NotReady seen here now now' h = absurd h
arrives bytes noticed.Idle seen here now now' h = absurd h
arrives bytes noticed.Ended seen here now now' h = absurd h
arrives bytes noticed.LinkFailed seen here now now' h = absurd h

hears : (told : ReadTold) (notice : Noticed) (seen here : Seen Ticket) (now now' : board.Seen) → Hears steps told notice seen here now now' → Led seen here now now'
hears (Moved bytes) notice seen here now now' h = arrives bytes notice seen here now now' h.1
hears Unready notice seen here now now' h = stays seen here now now' h.1.0 h.1.1
hears Ended notice seen here now now' h = follows seen here (End h.1.0) [] now now' h.1.1
hears ReadFault notice seen here now now' h = follows seen here (LinkFailed h.1.0) [] now now' h.1.1

reads_on : (unread : List ℕ) (notice : Noticed) (seen here : Seen Ticket) (calls : List wire.Call) (now now' : board.Seen) → ReadsOn steps unread notice seen now calls here now' → Led seen here now now'
reads_on [] notice seen here calls now now' h = hears h.0 notice seen here now now' h.2
reads_on (byte ∷ bytes) notice seen here calls now now' h = arrives (byte ∷ bytes) notice seen here now now' h.1

reads_if : (reads : Bool) (notice : Noticed) (seen here : Seen Ticket) (calls : List wire.Call) (now now' : board.Seen) → ReadsIf steps reads notice seen now calls here now' → Led seen here now now'
reads_if true notice seen here calls now now' h = reads_on seen.unread notice seen here calls now now' h
reads_if false notice seen here calls now now' h = stays seen here now now' h.2.0 h.2.1

one_led : (notice : Noticed) (seen here : Seen Ticket) (calls : List wire.Call) (now now' : board.Seen) (moved : Option ℕ) → TurnsOne steps notice seen now calls here now' moved → Led seen here now now'
one_led notice seen here calls now now' moved t =
    let half : Seen Ticket = record { link = seen.link; history = t.middle; unread = seen.unread } in
    let r = reads_if (is_reading t.middle) notice half here t.read t.half now' t.reads in
    record { link = r.link; went = went_then seen.history t.middle here.history (writes_went steps seen.link seen.history now t.written t.middle t.half t.sent t.writes) r.went; filed = filed_then now t.half now' (writes_filed seen.link seen.history now t.written t.middle t.half t.sent t.writes) r.filed }

pub record AllLed (before after : List (Seen Ticket)) (now now' : board.Seen) : Type 0 where
  pub links : SameLinks before after
  pub first : FirstGoes before after
  pub filed : Filed now now'
  pub all : AllGo before after

pub turns_led : (before : List (Seen Ticket)) (now : board.Seen) (part : List wire.Call) (after : List (Seen Ticket)) (now' : board.Seen) (ending : Ending) → Turns steps before now part after now' ending → AllLed before after now now'
turns_led before now part after now' ending (All_took _ _ _ _ _ _ is none after_is world_is end) = record {
  links = subst (λ (l : List (Seen Ticket)). SameLinks before l) (is ∙ sym after_is) (links_stay before);
  first = subst (λ (l : List (Seen Ticket)). FirstGoes before l) (is ∙ sym after_is) (first_stays before);
  filed = subst (Filed now) (sym world_is) (filed_none now);
  all = subst (λ (l : List (Seen Ticket)). AllGo before l) (is ∙ sym after_is) (all_stay before);
}
turns_led before now part after now' ending (Takes _ _ _ _ _ _ seen others notice own here half moved other there rest is one enough more calls_are after_is end) =
    let led = one_led notice seen here own now half moved one in
    let all = turns_led others half other there now' rest more in
    record {
      links = subst (λ (l : List (Seen Ticket)). SameLinks l after) (sym is) (subst (λ (l : List (Seen Ticket)). SameLinks (seen ∷ others) l) (sym after_is) (led.link, all.links));
      first = subst (λ (l : List (Seen Ticket)). FirstGoes l after) (sym is) (subst (λ (l : List (Seen Ticket)). FirstGoes (seen ∷ others) l) (sym after_is) (led.link, led.went));
      filed = filed_then now half now' led.filed all.filed;
      all = subst (λ (l : List (Seen Ticket)). AllGo l after) (sym is) (subst (λ (l : List (Seen Ticket)). AllGo (seen ∷ others) l) (sym after_is) (led.went, all.all));
    }
turns_led before now part after now' ending (Runs_short _ _ _ _ _ _ seen others here moved is one after_is end) =
    let led = one_led noticed.NoMemory seen here part now now' moved one in
    record {
      links = subst (λ (l : List (Seen Ticket)). SameLinks l after) (sym is) (subst (λ (l : List (Seen Ticket)). SameLinks (seen ∷ others) l) (sym after_is) (led.link, links_stay others));
      first = subst (λ (l : List (Seen Ticket)). FirstGoes l after) (sym is) (subst (λ (l : List (Seen Ticket)). FirstGoes (seen ∷ others) l) (sym after_is) (led.link, led.went));
      filed = led.filed;
      all = subst (λ (l : List (Seen Ticket)). AllGo l after) (sym is) (subst (λ (l : List (Seen Ticket)). AllGo (seen ∷ others) l) (sym after_is) (led.went, all_stay others));
    }
turns_led before now part after now' ending (Breaks_off _ _ _ _ _ _ none after_is world_is end) = record {
  links = subst (λ (l : List (Seen Ticket)). SameLinks before l) (sym after_is) (links_stay before);
  first = subst (λ (l : List (Seen Ticket)). FirstGoes before l) (sym after_is) (first_stays before);
  filed = subst (Filed now) (sym world_is) (filed_none now);
  all = subst (λ (l : List (Seen Ticket)). AllGo before l) (sym after_is) (all_stay before);
}

-- Calls that come later leave a copy at rest.
pub rested_on : (from to : Place) (size : Option ℕ) (rested : Option board.Seen) (calls more : List wire.Call) → HasRested from to size rested calls → HasRested from to size rested (calls ++ more)
rested_on from to size None calls more rest = tt
rested_on from to size (Some was) calls more rest = λ bytes is room well two.
    let r = rest bytes is room well two in
    record { before = r.before; after = r.after ++ more; parts = ap (λ (l : List wire.Call). l ++ more) r.parts ∙ append_assoc r.before r.after more; sums = r.sums; done = r.done; unflushed = r.unflushed }

-- The first handle stays the first one.

no_seen : (seen : Seen Ticket) (others : List (Seen Ticket)) → [] ≡ seen ∷ others → ⊥
no_seen seen others e = cc

-- no handles make no calls
no_turns : (before after : List (Seen Ticket)) (now now' : board.Seen) (part : List wire.Call) (ending : Ending) → Turns steps before now part after now' ending → before ≡ [] → part ≡ []
no_turns before after now now' part ending (All_took _ _ _ _ _ _ is none after_is world_is end) empty = none
no_turns before after now now' part ending (Takes _ _ _ _ _ _ seen others notice own here half moved other there rest is one enough more calls_are after_is end) empty = absurd (no_seen seen others (sym empty ∙ is))
no_turns before after now now' part ending (Runs_short _ _ _ _ _ _ seen others here moved is one after_is end) empty = absurd (no_seen seen others (sym empty ∙ is))
no_turns before after now now' part ending (Breaks_off _ _ _ _ _ _ none after_is world_is end) empty = none

turned_first : (before after : List (Seen Ticket)) (now now' : board.Seen) (part : List wire.Call) (ending : Ending) → Turns steps before now part after now' ending → or_later (first_held before) (first_given part) ≡ first_held before
turned_first [] after now now' part ending turns = ap first_given (no_turns [] after now now' part ending turns refl)
turned_first (seen ∷ others) after now now' part ending turns = refl

-- A turn.

pub turned : (parting : Bool) (way : Way) (now now' : board.Seen) (calls part : List wire.Call) (held held' : List (Held Ticket)) (after : List (Seen Ticket)) (moved : Option ℕ)
    → (on : IsUnderWay parting way now calls held) → Turns steps on.seens now part after now' (Whole moved) → AreAt held' after → IsUnderWay parting way now' (calls ++ part) held'
turned parting way now now' calls part held held' after moved on turns at =
    let led = turns_led on.seens now part after now' (Whole moved) turns in
    let brought = turns_brought on.seens now part after now' (Whole moved) turns in
    record {
      has = on.has;
      seens = after;
      at = at;
      sided = placed_same parting way.sides on.has on.seens after led.links on.sided;
      begun = on.begun ∙ sym led.filed.begun;
      stands = turns_stand way on.has now now' calls part on.seens after moved on.stands turns;
      rest = rested_on way.from way.to way.size way.rested calls part on.rest;
      all = held_on parting calls part on.seens after (apart_same on.seens after led.links) (λ link. turns_give_none steps link part on.seens after now now' (Whole moved) turns) on.all;
      hears = hears_later parting way.extents way.from way.to way.heard now.error now'.error led.filed.error calls on.seens after led.first on.hears part (turned_first on.seens after now now' part (Whole moved) turns);
      bound = turn_stays_bound parting way.sides now now' part on.seens after (Whole moved) on.stands.between.course.histories turns on.stands.between.course.drive.own on.stands.between.course.held
          (λ index here is. was on.seens after index here led.links is) led.filed.error on.bound;
      drives = drive_later way.extents way.from way.to on.has calls part on.seens after (λ link. turns_give_none steps link part on.seens after now now' (Whole moved) turns) (λ link. brought_apart link on.seens after brought)
          (λ link apart. turns_pass_others steps link part on.seens after now now' (Whole moved) apart turns) (brought_on (beginning_on way.extents way.from way.to on.has calls) on.seens after brought) on.drives;
      ends = ended_turned way.extents way.how.skip way.flush way.from way.to calls part (λ link. turns_give_none steps link part on.seens after now now' (Whole moved) turns) way.ended parting on.seens after (λ link apart. turns_pass_others steps link part on.seens after now now' (Whole moved) apart turns) brought on.ends;
      order = ordered_turned (is_source way.sides) on.has calls part parting on.seens after brought (λ link. turns_give_none steps link part on.seens after now now' (Whole moved) turns) on.order;
      queried = queried_turned way.queries on.seens after brought on.queried;
      flushes = second_turned calls part on.seens after brought (λ link. turns_give_none steps link part on.seens after now now' (Whole moved) turns) on.flushes;
    }

-- The calls since the start go on.
pub since_on : {Is Is' : List wire.Call → Type 0} (start : Option (List wire.Call)) (all all' part : List wire.Call) → all' ≡ all ++ part → (since : Since start all Is) → Is' (since.calls ++ part) → Since start all' Is'
since_on start all all' part are since is =
    record { before = since.before; calls = since.calls ++ part; was = since.was; now = are ∙ ap (λ (l : List wire.Call). l ++ part) since.now ∙ append_assoc since.before since.calls part; is = is }

pub turned_goes : (a b : Option (List wire.Call)) (f g : ℕ) (turn : Turn) (now now' : board.Seen) (held held' : List (Held Ticket))
    → poll.Goes a b (λ seens. AreAt held seens) (λ seens. AreAt held' seens) (λ before calls after. TurnsWhole steps f g turn before now calls after now') → Goes now held a now' held' b
turned_goes a b f g turn now now' held held' goes = record {
  stand = λ s. let went = goes s.seens s.at in record { seens = went.after; at = went.at };
  many = λ s.
      let went = goes s.seens s.at in
      let led = turns_led s.seens now went.calls went.after now' (Whole went.leads.moved) went.leads.turns in
      at_count held' went.after went.at ∙ links_count s.seens went.after led.links ∙ sym (at_count held s.seens s.at);
  filed = λ s. let went = goes s.seens s.at in (turns_led s.seens now went.calls went.after now' (Whole went.leads.moved) went.leads.turns).filed;
  on = λ parting way start s told. record {
    since = λ all is.
        let first = (goes s.seens s.at).grown all is in
        let since = told.since first.0 first.1 in
        let went = goes since.is.seens since.is.at in
        let grown = went.grown all is in
        let same : grown.0 ≡ first.0 = some_same grown.0 first.0 (sym grown.1 ∙ first.1) in
        since_on start first.0 all went.calls (grown.2 ∙ ap (λ (l : List wire.Call). l ++ went.calls) same) since
        (turned parting way now now' since.calls went.calls held held' went.after went.leads.moved since.is went.leads.turns went.at);
  };
  lasts = λ s. record {
    on = λ all is.
        let went = goes s.seens s.at in
        let grown = went.grown all is in
        record { before = grown.0; after = went.calls; are = grown.2; is = grown.1 };
  };
  know = λ source destination both.
      let went = goes both.seens both.at in
      let all = (turns_led both.seens now went.calls went.after now' (Whole went.leads.moved) went.leads.turns).all in
      record { seens = went.after; at = went.at; first = goes_knowing 0 source both.seens went.after held' all went.at both.first; second = goes_knowing 1 destination both.seens went.after held' all went.at both.second };
  gives = λ s. record {
    on = λ all is.
        let went = goes s.seens s.at in
        let grown = went.grown all is in
        record {
          before = grown.0;
          more = went.calls;
          was = grown.1;
          are = grown.2;
          none = λ link. turns_give_none steps link went.calls s.seens went.after now now' (Whole went.leads.moved) went.leads.turns;
          connected = turns_connected steps s.seens now went.calls went.after now' (Whole went.leads.moved) went.leads.turns;
        };
  };
}

-- Calls that read and write no link.

pub called : (parting : Bool) (way : Way) (now : board.Seen) (calls more : List wire.Call) (held : List (Held Ticket)) → ((link : ℕ) → calls_on link more ≡ []) → ((link : ℕ) → is_given link more ≡ false) → IsUnderWay parting way now calls held → IsUnderWay parting way now (calls ++ more) held
called parting way now calls more held none given on = record {
  has = on.has;
  seens = on.seens;
  at = on.at;
  sided = on.sided;
  begun = on.begun;
  stands = calls_stand way on.has now calls more on.seens on.stands none given;
  rest = rested_on way.from way.to way.size way.rested calls more on.rest;
  all = held_on parting calls more on.seens on.seens (λ link apart. apart) given on.all;
  hears = hears_later parting way.extents way.from way.to way.heard now.error now.error (λ well. well) calls on.seens on.seens (first_stays on.seens) on.hears more (no_more_given more on.seens given);
  bound = on.bound;
  drives = drive_later way.extents way.from way.to on.has calls more on.seens on.seens given (λ link apart. apart) (λ link apart. none link) (λ went. went) on.drives;
  ends = ended_called way.extents way.how.skip way.flush way.from way.to calls more given way.ended parting on.seens none on.ends;
  order = ordered_called (is_source way.sides) on.has calls parting more on.seens given on.order;
  queried = on.queried;
  flushes = second_called calls more on.seens given on.flushes;
}

-- Where the transcript is told, what a call leads from leads on.
pub told_on : {Is Is' : List wire.Call → Type 0} (start a b : Option (List wire.Call)) (call : wire.Call) → Adds a b call → ((calls : List wire.Call) → Is calls → Is' (calls ++ call ∷ [])) → Told start a Is → Told start b Is'
told_on start a b call adds leads told = record {
  since = λ all is.
      let grown = adds all is in
      let since = told.since grown.0 grown.1 in
      since_on start grown.0 all (call ∷ []) grown.2 since (leads since.calls since.is);
}

pub paused_goes : (a b : Option (List wire.Call)) (wants : List Want) (now : board.Seen) (held held' : List (Held Ticket)) → held' ≡ held → Adds a b (wire.Pause wants) → Goes now held a now held' b
paused_goes a b wants now held held' same adds = subst (λ (l : List (Held Ticket)). Goes now held a now l b) (sym same) (record {
  stand = λ s. s;
  many = λ s. refl;
  filed = λ s. filed_none now;
  on = λ parting way start s told. told_on start a b (wire.Pause wants) adds (λ calls on. called parting way now calls (wire.Pause wants ∷ []) held (λ link. refl) (λ link. refl) on) told;
  lasts = λ s. lasts_adds a b (wire.Pause wants) adds;
  know = λ source destination both. both;
  gives = λ s. adds_none a b (wire.Pause wants) (λ link. refl) refl adds;
})

-- Steps follow one another.

pub goes_none : (now : board.Seen) (held : List (Held Ticket)) (told : Option (List wire.Call)) → Goes now held told now held told
goes_none now held told = record { stand = λ s. s; many = λ s. refl; filed = λ s. filed_none now; on = λ parting way start s told. told; lasts = λ s. lasts_none told; know = λ source destination both. both; gives = λ s. gives_none told }

pub goes_on : (now now2 now3 : board.Seen) (held held2 held3 : List (Held Ticket)) (a b c : Option (List wire.Call)) → Goes now held a now2 held2 b → Goes now2 held2 b now3 held3 c → Goes now held a now3 held3 c
goes_on now now2 now3 held held2 held3 a b c one two = record {
  stand = λ s. two.stand (one.stand s);
  many = λ s. two.many (one.stand s) ∙ one.many s;
  filed = λ s. filed_then now now2 now3 (one.filed s) (two.filed (one.stand s));
  on = λ parting way start s told. two.on parting way start (one.stand s) (one.on parting way start s told);
  lasts = λ s. lasts_then a b c (one.lasts s) (two.lasts (one.stand s));
  know = λ source destination both. two.know source destination (one.know source destination both);
  gives = λ s. gives_then a b c (one.gives s) (two.gives (one.stand s));
}

-- What is so of the calls is so where the transcript is told.
pub told_map : {Is Is' : List wire.Call → Type 0} (start told : Option (List wire.Call)) → ((calls : List wire.Call) → Is calls → Is' calls) → Told start told Is → Told start told Is'
told_map start told leads is = record {
  since = λ all told_all. let since = is.since all told_all in record { before = since.before; calls = since.calls; was = since.was; now = since.now; is = leads since.calls since.is };
}

-- A step without a call keeps a copy on its way where the transcript is told.
pub keeps_told : (how : How) (sides : Sides) (more : List Slice) (now now' : board.Seen) (held held' : List (Held Ticket)) (way : Way) (start told : Option (List wire.Call)) → Keeps how sides more now now' held held' → way.how ≡ how → way.sides ≡ sides
    → Told start told (λ calls. IsOn way now calls held) → Told start told (λ calls. IsOn (with_slices more way) now' calls held')
keeps_told how sides more now now' held held' way start told keeps is_how is_sides is = told_map start told (λ calls on. keeps.on way calls is_how is_sides on) is

-- Handles of which one was asked a command stand for histories still.
pub asked_stand : (index : ℕ) (command : Command Ticket) (held held' : List (Held Ticket)) → IsAsked index command held held' → Stand held → Stand held'
asked_stand index command held held' asked s = record { seens = with_event index (Issue (without_buffer command)) s.seens; at = (asked.on s.seens s.at).at }

-- The beginning.

pub none_stand : Stand []
none_stand = record { seens = []; at = tt }

pub told_begins : {Is : List wire.Call → Type 0} (start : Option (List wire.Call)) → Is [] → Told start start Is
told_begins start is = record { since = λ all told. record { before = all; calls = []; was = told; now = sym (append-nil all); is = is } }

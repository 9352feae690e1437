-- What keeps each request of a slice on the connection that the slice is bound to, beside what keeps a copy of which one side is a file on its way.
use Rattle.std.proofs.Common.{
  ◌≡◌,
  ◌≤◌,
  ◌⊎◌,
  inl,
  inr,
  ℕ,
  zero,
  suc,
  ◌+◌,
  Bool,
  true,
  false,
  List,
  [],
  ◌∷◌,
  ◌++◌,
  length,
  Option,
  Some,
  None,
  Result,
  Ok,
  Err,
  IfOk,
  OnOk,
  slice_get,
  refl,
  ap,
  sym,
  subst,
  ◌∙◌,
  length-append,
  arith,
}
use Rattle.std.proofs.lemmas.Bool.{false≢true}
use Rattle.lnbd_callbacks.specs.Steps.{OneByOne}
use Rattle.lnbd_handle.specs.Histories.{max_unretired}
use Rattle.lnbd_history.specs.Commands.{Command}
use Rattle.lnbd_history.specs.Events.{Event, History, Issue}
use Rattle.lnbd_history.specs.History.{request}
use Rattle.lnbd_keyed.specs.Keyed.{IsRising}
use Rattle.lnbd_asked.specs.Exports.{is_naming, name_set}
use Rattle.lnbd_link.specs.Call as wire
use Rattle.lnbd_link.specs.Numbers.{is_given}
use Rattle.lnbd_link.specs.Part.{Adds}
use Rattle.lnbd_link.specs.declared.wires.Want.{Want}
use Rattle.lnbd_machine.specs.Machine.{Machine}
use Rattle.lnbd_model.specs.declared.export.ExportInfo.{ExportInfo}
use Rattle.lnbd_model.specs.declared.target.Place.{Place}
use Rattle.lnbd_poll.specs.Alone.{AreApart, calls_on}
use Rattle.lnbd_poll.specs.Held.{Held, AreAt}
use Rattle.lnbd_poll.specs.Seen.{Seen}
use Rattle.lnbd_poll.specs.Seen as poll
use Rattle.lnbd_poll.specs.declared.noticed.Turn.{Turn}
use Rattle.lnbd_poll.specs.Turned.{TurnsWhole}
use Rattle.lnbd_poll.specs.Turns.{Turns, Whole}
use Rattle.lnbd_records.specs.Limits.{max_text}
use Rattle.lnbd_standing.specs.Standing.{StandsFor}
use Rattle.lnbd_drives.specs.Driving.{with_event}
use Rattle.lnbd_drives.proofs.Exports.{turns_give_none}
use Rattle.lnbd_drives.proofs.Turning.{turns_pass_others}
use Rattle.lnbd_plan.specs.declared.fault.CopyFault.{CopyFault}
use Rattle.lnbd_plan.specs.declared.grid.Slice.{Slice}
use Rattle.lnbd_board.specs.declared.how.How.{How}
use Rattle.lnbd_board.specs.declared.ticket.Ticket.{Ticket}
use Rattle.lnbd_board.specs.Files as board
use Rattle.lnbd_board.specs.Requests.{Request}
use Rattle.lnbd_tracks.specs.Heeding.{ListensTo, holds_told, holds_whole}
use Rattle.lnbd_tracks.specs.Mapping.{HoldsZero, ToldAlike, asks_extents}
use Rattle.lnbd_course.specs.Between.{IsSetting}
use Rattle.lnbd_course.specs.Counted.{HasNotCounted}
use Rattle.lnbd_course.specs.Far.{Far, ToFile, AsksNear}
use Rattle.lnbd_course.specs.FarCourse.{FarCourse, every}
use Rattle.lnbd_course.specs.Laws.{AsksSource}
use Rattle.lnbd_course.specs.Taken.{without_buffer}
use Rattle.lnbd_course.specs.Told.{Known}
use Rattle.lnbd_course.specs.UnderWay.{AllHeld}
use Rattle.lnbd_course.proofs.FarKeeping as keeping
use Rattle.lnbd_course.proofs.Holding.{one_has}
use Rattle.lnbd_course.proofs.Turning.{steps}
use Rattle.lnbd_conduct.specs.Begun.{opened}
use Rattle.lnbd_conduct.specs.Driven.{WentOn}
use Rattle.lnbd_conduct.specs.Grounds.{Drove, IsShown}
use Rattle.lnbd_conduct.specs.Told.{Told}
use Rattle.lnbd_copy.specs.Agreed.{Tells}
use Rattle.lnbd_copy.specs.Asked.{WasAsked}
use Rattle.lnbd_copy.specs.Driven.{beginning_on}
use Rattle.lnbd_copy.specs.Grounds.{Happened, Happens}
use Rattle.lnbd_copy.specs.Way.{Stand}
use Rattle.lnbd_copy.proofs.BindingLemmas.{Binds as BindsRow, SameBindings, Was}
use Rattle.lnbd_copy.proofs.DialLemmas.{last_at, last_free, opened_name, opened_set}
use Rattle.lnbd_copy.proofs.DrivenLemmas.{asks_first, drive_later, went_there}
use Rattle.lnbd_copy.proofs.DrivenTurns.{AllBrought, brought_apart, brought_on, turns_brought}
use Rattle.lnbd_copy.proofs.GroundLemmas.{driven_at, given_at}
use Rattle.lnbd_copy.proofs.HeardLemmas.{none_given}
use Rattle.lnbd_copy.proofs.HeldLemmas.{held_event, held_more, held_on}
use Rattle.lnbd_copy.proofs.PartLemmas as parting
use Rattle.lnbd_copy.proofs.TurnLemmas.{since_on, some_same, told_on, turns_led}
use Rattle.lnbd_connections.specs.Bound.{Binds, BindsMore, DrivesFirst, IsBound, IsDriving, KeepsFirst}
use Rattle.lnbd_connections.specs.Way.{IsUnderWay, Way, with_slices}
use Rattle.lnbd_connections.proofs.BoundLemmas.{asks_on, on_event, on_none, on_turned, rows_on}
use Rattle.lnbd_connections.proofs.FirstLemmas.{first_called, first_dialed, first_none, first_turned}

none_some : {A : Type 0} (one : A) → None ≡ Some one → ⊥
none_some one e = cc

one_same : {A : Type 0} (one other : A) → Some one ≡ Some other → one ≡ other
one_same one other e = cc

-- Handles have the links that they had.
was : (before after : List (Seen Ticket)) (index : ℕ) (here : Seen Ticket) → AllBrought before after → slice_get after index ≡ Some here → Was before index here
was [] [] index here brought is = absurd (none_some here is)
was [] (first ∷ there) index here brought is = absurd brought
was (seen ∷ others) [] index here brought is = absurd brought
was (seen ∷ others) (first ∷ there) zero here brought is = record { seen = seen; there = refl; link = ap (λ (s : Seen Ticket). s.link) (sym (one_same first here is)) ∙ brought.0.link }
was (seen ∷ others) (first ∷ there) (suc index) here brought is = let w = was others there index here brought.1 is in record { seen = w.seen; there = w.there; link = w.link }

-- this is one of some handles, or the last
last_or : (seens : List (Seen Ticket)) (last : Seen Ticket) (index : ℕ) (seen : Seen Ticket) → slice_get (seens ++ last ∷ []) index ≡ Some seen → (slice_get seens index ≡ Some seen) ⊎ (seen ≡ last)
last_or [] last zero seen is = inr (sym (one_same last seen is))
last_or [] last (suc index) seen is = absurd (none_some seen is)
last_or (first ∷ others) last zero seen is = inl is
last_or (first ∷ others) last (suc index) seen is = last_or others last index seen is

opened_asks : (name : List ℕ) (extents : Bool) (cookie : ℕ) → request (opened name extents) cookie ≡ None
opened_asks name true cookie = refl
opened_asks name false cookie = refl

-- A copy that is on its way by no calls is so.
pub bound_began : (source : Bool) (far : Far) (way : Way) (now : board.Seen) (held : List (Held Ticket)) → now.rows ≡ [] → IsUnderWay far way now [] held → IsBound source far way now [] held
bound_began source far way now held empty on = record { seens = on.seens; at = on.at; begun = on.begun; stands = on.stands; all = λ link apart. refl; bound = on_none source now on.seens empty }

-- It is on its way.
pub bound_way : (source : Bool) (far : Far) (way : Way) (now : board.Seen) (calls : List wire.Call) (held : List (Held Ticket)) → IsBound source far way now calls held →
    IsUnderWay far way now calls held
bound_way source far way now calls held on = record { seens = on.seens; at = on.at; begun = on.begun; stands = on.stands }

module _ (source : Bool) (far : Far) (way : Way) (now : board.Seen) (calls : List wire.Call) (held : List (Held Ticket)) (on : IsBound source far way now calls held) where
  -- The board's rows go on,
  pub bound_moved : (now' : board.Seen) (far' : Far) → now'.begun ≡ now.begun → (now'.error ≡ None → now.error ≡ None) → (IsRising now.rows → SameBindings now.rows now'.rows) →
      FarCourse far' way.at way.size way.how way.slices now' calls on.seens way.asked way.known → IsBound source far' way now' calls held
  bound_moved now' far' begun earlier same stands = record {
    seens = on.seens;
    at = on.at;
    begun = on.begun ∙ sym begun;
    stands = stands;
    all = on.all;
    bound = rows_on source far way.at way.size way.how way.slices now calls on.seens way.asked way.known on.stands now' earlier same on.bound;
  }

  -- a handle took a command, but for extents, whose slice is bound to it, and with it these slices are begun;
  pub bound_asked : (more : List Slice) (now' : board.Seen) (held' : List (Held Ticket)) (index : ℕ) (command : Command Ticket) → WasAsked index command on.seens held' →
      AsksNear far way.how (without_buffer command) way.slices (way.slices ++ more) now now' → asks_extents (Issue (without_buffer command)) ≡ false → ToldAlike now now' →
      now'.begun ≡ now.begun + length more → (now'.error ≡ None → now.error ≡ None) → BindsRow source index (without_buffer command).done now now' →
      IsBound source far (with_slices more way) now' calls held'
  bound_asked more now' held' index command was_ asks other alike begun earlier binds = record {
    seens = with_event index (Issue (without_buffer command)) on.seens;
    at = was_.at;
    begun = length-append way.slices more ∙ ap (λ n. n + length more) on.begun ∙ sym begun;
    stands = keeping.asking_keeps_far far way.at way.size way.how way.slices (way.slices ++ more) now now' calls on.seens way.asked way.known index was_.seen (without_buffer command)
        on.stands was_.there was_.spells asks other alike;
    all = held_event calls index (Issue (without_buffer command)) on.seens on.all;
    bound = asks_on source far way.at way.size way.how way.slices now calls on.seens way.asked way.known on.stands now' on.begun earlier on.bound index (without_buffer command) binds;
  }

  -- what was waited for of extents is heard,
  pub bound_heard : (range : ℕ × ℕ) (known : Known) → way.asked ≡ Some range → now.mapped ≡ true → now.short ≡ false →
      ((p : ℕ) → known.zero p ≡ true → (way.known.zero p ≡ true) ⊎ HoldsZero range now p) → ((block p : ℕ) → way.known.whole block p ≡ true → known.whole block p ≡ true) →
      ((block p : ℕ) → holds_whole range now block p ≡ true → known.whole block p ≡ true) → ((p : ℕ) → way.known.reach p ≡ true → known.reach p ≡ true) →
      ((p : ℕ) → holds_told range now p ≡ true → known.reach p ≡ true) → IsBound source far (record way { asked = None; known = known }) now calls held
  bound_heard range known asked mapped short knows more holds further reaches = record {
    seens = on.seens;
    at = on.at;
    begun = on.begun;
    stands = keeping.hearing_keeps_far far way.at way.size way.how way.slices now calls on.seens range way.known known
        (subst (λ (o : Option (ℕ × ℕ)). FarCourse far way.at way.size way.how way.slices now calls on.seens o way.known) asked on.stands) mapped short knows more holds further reaches;
    all = on.all;
    bound = on.bound;
  }

  -- or less is known as zero, and more at all;
  pub bound_unheard : (known : Known) → ((p : ℕ) → known.zero p ≡ true → way.known.zero p ≡ true) → ((block p : ℕ) → way.known.whole block p ≡ true → known.whole block p ≡ true) →
      ((p : ℕ) → way.known.reach p ≡ true → known.reach p ≡ true) → IsBound source far (record way { known = known }) now calls held
  bound_unheard known fewer more further = record {
    seens = on.seens;
    at = on.at;
    begun = on.begun;
    stands = keeping.fewer_keep_far far way.at way.size way.how way.slices now calls on.seens way.asked way.known known on.stands fewer more further;
    all = on.all;
    bound = on.bound;
  }

  -- another board takes the place of one that is empty;
  pub bound_settled : (how : How) (now' : board.Seen) → way.slices ≡ [] → way.asked ≡ None → now.rows ≡ [] → now.error ≡ None → now.flushing ≡ false → now'.rows ≡ [] → now'.begun ≡ 0 →
      HasNotCounted now' → IsBound source far (record way { how = how }) now' calls held
  bound_settled how now' none unasked empty well unflushed empty' new uncounted = record {
    seens = on.seens;
    at = on.at;
    begun = ap length none ∙ sym new;
    stands = subst (λ (l : List Slice). FarCourse far way.at way.size how l now' calls on.seens way.asked way.known) (sym none)
        (subst (λ (o : Option (ℕ × ℕ)). FarCourse far way.at way.size how [] now' calls on.seens o way.known) (sym unasked)
        (keeping.settling_keeps_far far way.at way.size way.how how now now' calls on.seens way.known
        (subst (λ (o : Option (ℕ × ℕ)). FarCourse far way.at way.size way.how [] now calls on.seens o way.known) unasked
        (subst (λ (l : List Slice). FarCourse far way.at way.size way.how l now calls on.seens way.asked way.known) none on.stands)) empty well unflushed empty' uncounted));
    all = on.all;
    bound = on_none source now' on.seens empty';
  }

  -- the export's size is settled, as this handle tells it;
  pub bound_agreed : (index size : ℕ) → way.size ≡ None → Tells index size held → IsBound source far (record way { size = Some size }) now calls held
  bound_agreed index size unsettled tells =
      let told = tells.on on.seens on.at in
      record {
        seens = on.seens;
        at = on.at;
        begun = on.begun;
        stands = keeping.agreeing_settles_far far way.at way.how way.slices now calls on.seens way.asked way.known index told.seen size
            (subst (λ (o : Option ℕ). FarCourse far way.at o way.how way.slices now calls on.seens way.asked way.known) unsettled on.stands) told.there told.told;
        all = on.all;
        bound = on.bound;
      }

  -- each handle takes its part of a turn;
  pub bound_turned : (now' : board.Seen) (part : List wire.Call) (held' : List (Held Ticket)) (after : List (Seen Ticket)) (moved : Option ℕ) →
      Turns (OneByOne board.Files) on.seens now part after now' (Whole moved) → AreAt held' after → IsBound source far way now' (calls ++ part) held'
  bound_turned now' part held' after moved turns at =
      let led = turns_led on.seens now part after now' (Whole moved) turns in
      let brought = turns_brought on.seens now part after now' (Whole moved) turns in
      record {
        seens = after;
        at = at;
        begun = on.begun ∙ sym led.filed.begun;
        stands = keeping.turns_keep_far far way.at way.size way.how way.slices now now' calls part on.seens after way.asked way.known moved on.stands turns;
        all = held_on false calls part on.seens after (λ link. brought_apart link on.seens after brought) (λ link. turns_give_none steps link part on.seens after now now' (Whole moved) turns)
            on.all;
        bound = on_turned source now now' part on.seens after (Whole moved) on.stands.course.histories turns on.stands.course.drive.own on.stands.course.held
            (λ index here is. was on.seens after index here brought is) led.filed.error on.bound;
      }

  -- the wires are called, but no link is read, written or made, as where they wait;
  pub bound_called : (more : List wire.Call) → ((link : ℕ) → calls_on link more ≡ []) → ((link : ℕ) → is_given link more ≡ false) → IsBound source far way now (calls ++ more) held
  bound_called more quiet none = record {
    seens = on.seens;
    at = on.at;
    begun = on.begun;
    stands = keeping.calls_keep_far far way.at way.size way.how way.slices now calls more on.seens way.asked way.known on.stands quiet none;
    all = held_on false calls more on.seens on.seens (λ link apart. apart) none on.all;
    bound = on.bound;
  }

  -- one handle more is held, on a link that was just made to the export;
  pub bound_dialed : (link : ℕ) (extents : Bool) (handle : Machine Ticket) → is_given link calls ≡ false → length way.at.name ≤ max_text →
      StandsFor max_unretired (opened way.at.name extents) handle →
      IsBound source far way now (calls ++ wire.Connect way.at.to (Some link) ∷ []) (held ++ record { link = link; handle = handle; inbox = [] } ∷ [])
  bound_dialed link extents handle new short stands =
      let last : Seen Ticket = record { link = link; history = opened way.at.name extents; unread = [] } in
      record {
        seens = on.seens ++ last ∷ [];
        at = last_at held on.seens link handle (opened way.at.name extents) on.at stands;
        begun = on.begun;
        stands = keeping.opens_far far way.at way.size way.how way.slices now calls on.seens way.asked way.known link (opened way.at.name extents) on.stands new (opened_set way.at.name extents
            short)
            (opened_name way.at.name extents);
        all = held_more calls way.at.to link on.seens last refl on.all;
        bound = record {
          each = λ well index seen there cookie n asks row is by row_is. elim (last_or on.seens last index seen there) [
            | inl before ↦ on.bound.each well index seen before cookie n asks row is by row_is
            | inr here ↦ absurd (none_some asks (sym (opened_asks way.at.name extents cookie) ∙ ap (λ (s : Seen Ticket). request s.history cookie) (sym here) ∙ is))
          ];
        };
      }

  -- something else happens on a handle that its caller does.
  pub bound_did : (held' : List (Held Ticket)) (index : ℕ) (event : Event Ticket) → (did : parting.Happened index event on.seens held') → IsSetting did.seen.history event → is_naming event ≡ false →
      IsBound source far way now calls held'
  bound_did held' index event did sets unnamed = record {
    seens = with_event index event on.seens;
    at = did.at;
    begun = on.begun;
    stands = keeping.others_keep_far far way.at way.size way.how way.slices now calls on.seens way.asked way.known index did.seen event on.stands did.there sets unnamed;
    all = held_event calls index event on.seens on.all;
    bound = on_event source now index event on.seens sets.unasked on.bound;
  }

-- A handle that asks the source for the extents of a range, where none are waited for.
pub bound_listened : (done : List Request) (way : Way) (now : board.Seen) (calls : List wire.Call) (held : List (Held Ticket)) (on : IsBound true (ToFile done) way now calls held) (now' :
    board.Seen)
    (held' : List (Held Ticket)) (range : ℕ × ℕ) (index : ℕ) (command : Command Ticket) → way.asked ≡ None → WasAsked index command on.seens held' →
    AsksSource way.how (without_buffer command) way.slices way.slices now now' → ListensTo range (without_buffer command) → now'.told ≡ [] → now'.mapped ≡ false → now'.begun ≡ now.begun →
    (now'.error ≡ None → now.error ≡ None) → BindsRow true index (without_buffer command).done now now' → IsBound true (ToFile done) (record way { asked = Some range }) now' calls held'
bound_listened done way now calls held on now' held' range index command unasked was_ asks wants forgotten unmapped begun earlier binds = record {
  seens = with_event index (Issue (without_buffer command)) on.seens;
  at = was_.at;
  begun = on.begun ∙ sym begun;
  stands = keeping.extents_keep_far done way.at way.size way.how way.slices way.slices now now' calls on.seens range way.known index was_.seen (without_buffer command)
      (subst (λ (o : Option (ℕ × ℕ)). FarCourse (ToFile done) way.at way.size way.how way.slices now calls on.seens o way.known) unasked on.stands) was_.there was_.spells asks wants
      forgotten unmapped;
  all = held_event calls index (Issue (without_buffer command)) on.seens on.all;
  bound = asks_on true (ToFile done) way.at way.size way.how way.slices now calls on.seens way.asked way.known on.stands now' on.begun earlier on.bound index (without_buffer command) binds;
}

-- How handles drive their links.

module _ (extents : Bool) (far : Far) (way : Way) (now : board.Seen) (calls : List wire.Call) (held : List (Held Ticket)) (on : IsDriving extents far way now calls held) where
  driving_turned : (now' : board.Seen) (part : List wire.Call) (held' : List (Held Ticket)) (after : List (Seen Ticket)) (moved : Option ℕ) →
      Turns (OneByOne board.Files) on.seens now part after now' (Whole moved) → AreAt held' after → IsDriving extents far way now' (calls ++ part) held'
  driving_turned now' part held' after moved turns at =
      let brought = turns_brought on.seens now part after now' (Whole moved) turns in
      record {
        seens = after;
        at = at;
        stands = keeping.turns_keep_far far way.at way.size way.how way.slices now now' calls part on.seens after way.asked way.known moved on.stands turns;
        drives = drive_later extents way.at way.at every calls part on.seens after (λ link. turns_give_none steps link part on.seens after now now' (Whole moved) turns)
            (λ link. brought_apart link on.seens after brought)
            (λ link apart. turns_pass_others steps link part on.seens after now now' (Whole moved) apart turns) (brought_on (beginning_on extents way.at way.at every calls) on.seens after
            brought) on.drives;
      }

  driving_called : (more : List wire.Call) → ((link : ℕ) → calls_on link more ≡ []) → ((link : ℕ) → is_given link more ≡ false) → IsDriving extents far way now (calls ++ more) held
  driving_called more quiet none = record {
    seens = on.seens;
    at = on.at;
    stands = keeping.calls_keep_far far way.at way.size way.how way.slices now calls more on.seens way.asked way.known on.stands quiet none;
    drives = drive_later extents way.at way.at every calls more on.seens on.seens none (λ link apart. apart) (λ link apart. quiet link) (λ went. went) on.drives;
  }

  not_one : (link index : ℕ) (seen : Seen Ticket) (seens : List (Seen Ticket)) → slice_get seens index ≡ Some seen → AreApart link seens → seen.link ≡ link → ⊥
  not_one link index seen [] there apart e = none_some seen there
  not_one link zero seen (first ∷ others) there apart e = apart.0 (ap (λ (s : Seen Ticket). s.link) (one_same first seen there) ∙ e)
  not_one link (suc index) seen (first ∷ others) there apart e = not_one link index seen others there apart.1 e

  -- One that was told of an export drove its link to it.
  pub driving_shown : (info : ExportInfo) (index : ℕ) → Happens (IsShown info) index held → Drove extents way.at (IsShown info) calls
  driving_shown info index happens =
      let h : Happened (IsShown info) index on.seens = happens.on on.seens on.at in
      let course = on.stands.course in
      let given : is_given h.seen.link calls ≡ true = given_at calls h.seen.link (is_given h.seen.link calls) refl (λ none. not_one h.seen.link index h.seen on.seens h.there (course.unused
      h.seen.link none).apart refl) in
      record {
        link = h.seen.link;
        history = h.seen.history;
        drives = driven_at calls index h.seen held on.seens h.there on.at course.drive.drive course.drive.plain;
        address = on.stands.placed.address h.seen.link given;
        name = ap (λ (history : History Ticket). name_set history) (sym (one_has index h.seen course.histories on.seens h.there course.held)) ∙ on.stands.placed.name h.seen.link given;
        is = h.is;
        began = went_there (beginning_on extents way.at way.at every calls) on.seens index h.seen h.there on.drives.went;
      }

-- The first handle drives the first link so.
driving_first : (source : Bool) (far : Far) (way : Way) (now : board.Seen) (calls : List wire.Call) (link : ℕ) (extents : Bool) (handle : Machine Ticket) → IsBound source far way now calls [] →
    is_given link calls ≡ false →
    length way.at.name ≤ max_text → StandsFor max_unretired (opened way.at.name extents) handle →
    IsDriving extents far way now (calls ++ wire.Connect way.at.to (Some link) ∷ []) (record { link = link; handle = handle; inbox = [] } ∷ [])
driving_first source far way now calls link extents handle on new short stands = go on.seens on.at on.stands on.all
  where
    go : (seens : List (Seen Ticket)) → AreAt [] seens → FarCourse far way.at way.size way.how way.slices now calls seens way.asked way.known → AllHeld calls seens →
        IsDriving extents far way now (calls ++ wire.Connect way.at.to (Some link) ∷ []) (record { link = link; handle = handle; inbox = [] } ∷ [])
    go [] at stood all = record {
      seens = record { link = link; history = opened way.at.name extents; unread = [] } ∷ [];
      at = last_at [] [] link handle (opened way.at.name extents) tt stands;
      stands = keeping.opens_far far way.at way.size way.how way.slices now calls [] way.asked way.known link (opened way.at.name extents) stood new (opened_set way.at.name extents short)
          (opened_name way.at.name extents);
      drives = record {
        went = (
          subst (λ (b : Bool). WentOn (opened way.at.name b) (opened way.at.name extents))
              (sym (asks_first link extents extents calls [] way.at.to tt (none_given calls (λ n. all n tt)) (λ none. refl) (λ asks. refl))) (record { since = []; are = refl; come = tt }),
          tt,
        );
        left = λ n apart given. absurd (false≢true (sym (held_more calls way.at.to link [] (record { link = link; history = opened way.at.name extents; unread = [] }) refl all n apart) ∙ given));
        first = λ n is. refl;
      };
    }
    go (seen ∷ others) at stood all = absurd at

-- Steps.

pub binds_same : (now : board.Seen) (held : List (Held Ticket)) (told : Option (List wire.Call)) → Binds now held told now held told
binds_same now held told =
    record { on = λ source far way start s told. told; drives = λ extents far way start s told. told; first = λ extents far way start s told. told }

pub binds_then : (now now2 now3 : board.Seen) (held held2 held3 : List (Held Ticket)) (a b c : Option (List wire.Call)) → (Stand held → Stand held2) → Binds now held a now2 held2 b →
    Binds now2 held2 b now3 held3 c →
    Binds now held a now3 held3 c
binds_then now now2 now3 held held2 held3 a b c stand one two = record {
  on = λ source far way start s told. two.on source far way start (stand s) (one.on source far way start s told);
  drives = λ extents far way start s told. two.drives extents far way start (stand s) (one.drives extents far way start s told);
  first = λ extents far way start s told. two.first extents far way start (stand s) (one.first extents far way start s told);
}

module _ (a b : Option (List wire.Call)) (f g : ℕ) (turn : Turn) (now now' : board.Seen) (held held' : List (Held Ticket))
    (goes : poll.Goes a b (λ seens. AreAt held seens) (λ seens. AreAt held' seens) (λ before calls after. TurnsWhole (OneByOne board.Files) f g turn before now calls after now')) where
  -- what each turn of the handles brings about, the turn does
  told_turned : {Is Is' : List wire.Call → Type 0} (seens : (calls : List wire.Call) → Is calls → List (Seen Ticket)) (at : (calls : List wire.Call) (is : Is calls) → AreAt held (seens calls is)) →
      ((calls : List wire.Call) (is : Is calls) (part : List wire.Call) (after : List (Seen Ticket)) (moved : Option ℕ) →
      Turns (OneByOne board.Files) (seens calls is) now part after now' (Whole moved) → AreAt held' after → Is' (calls ++ part)) → (start : Option (List wire.Call)) → Stand held →
      Told start a Is → Told start b Is'
  told_turned seens at leads start s told = record {
    since = λ all is.
        let first = (goes s.seens s.at).grown all is in
        let since = told.since first.0 first.1 in
        let went = goes (seens since.calls since.is) (at since.calls since.is) in
        let grown = went.grown all is in
        let same : grown.0 ≡ first.0 = some_same grown.0 first.0 (sym grown.1 ∙ first.1) in
        since_on start first.0 all went.calls (grown.2 ∙ ap (λ (l : List wire.Call). l ++ went.calls) same) since
        (leads since.calls since.is went.calls went.after went.leads.moved went.leads.turns went.at);
  }

  pub turned_binds : Binds now held a now' held' b
  turned_binds = record {
    on = λ source far way. told_turned (λ calls is. is.seens) (λ calls is. is.at)
        (λ calls is part after moved turns at. bound_turned source far way now calls held is now' part held' after moved turns at);
    drives = λ extents far way. told_turned (λ calls is. is.seens) (λ calls is. is.at)
        (λ calls is part after moved turns at. driving_turned extents far way now calls held is now' part held' after moved turns at);
    first = λ extents far way. told_turned (λ calls is. is.seens) (λ calls is. is.at)
        (λ calls is part after moved turns at. first_turned extents far way now calls held is now' part held' after moved turns at);
  }

pub turned_binds_ok : (a b : Option (List wire.Call)) (f g : ℕ) (r : Result Turn CopyFault) (now now' : board.Seen) (held held' : List (Held Ticket)) →
    IfOk r (λ turn. poll.Goes a b (λ seens. AreAt held seens) (λ seens. AreAt held' seens) (λ before calls after. TurnsWhole (OneByOne board.Files) f g turn before now calls after now')) →
    OnOk r (Binds now held a now' held' b)
turned_binds_ok a b f g (Ok turn) now now' held held' goes = turned_binds a b f g turn now now' held held' goes
turned_binds_ok a b f g (Err why) now now' held held' goes = tt

pub paused_binds : (a b : Option (List wire.Call)) (wants : List Want) (now : board.Seen) (held held' : List (Held Ticket)) → held' ≡ held → Adds a b (wire.Pause wants) →
    Binds now held a now held' b
paused_binds a b wants now held held' same adds = subst (λ (l : List (Held Ticket)). Binds now held a now l b) (sym same) (record {
  on = λ source far way start s told. told_on start a b (wire.Pause wants) adds (λ calls on. bound_called source far way now calls held on (wire.Pause wants ∷ []) (λ link. refl) (λ link. refl))
      told;
  drives = λ extents far way start s told. told_on start a b (wire.Pause wants) adds (λ calls on. driving_called extents far way now calls held on (wire.Pause wants ∷ []) (λ link. refl) (λ link.
      refl)) told;
  first = λ extents far way start s told. told_on start a b (wire.Pause wants) adds (λ calls on. first_called extents far way now calls held on (wire.Pause wants ∷ []) (λ link. refl) (λ link.
      refl)) told;
})

-- One connection more.
module _ (a b c : Option (List wire.Call)) (place : Place) (now : board.Seen) (held held' : List (Held Ticket)) (link : ℕ) (extents : Bool) (handle : Machine Ticket)
    (adds : Adds a b (wire.Connect place.to (Some link))) (fresh : (calls : List wire.Call) → a ≡ Some calls → is_given link calls ≡ false) (told_is : c ≡ b) (short : length place.name ≤ max_text)
    (stands : StandsFor max_unretired (opened place.name extents) handle) (held_is : held' ≡ held ++ record { link = link; handle = handle; inbox = [] } ∷ []) where
  -- what stands with the call stands behind it
  told_dialed : {Is Is' : List wire.Call → Type 0} (start : Option (List wire.Call)) →
      ((calls : List wire.Call) → Is calls → is_given link calls ≡ false → Is' (calls ++ wire.Connect place.to (Some link) ∷ [])) → Told start a Is → Told start b Is'
  told_dialed start leads told = record {
    since = λ all told_all.
        let grown = adds all told_all in
        let since = told.since grown.0 grown.1 in
        let free = last_free link since.before since.calls (subst (λ (l : List wire.Call). is_given link l ≡ false) since.now (fresh grown.0 grown.1)) in
        since_on start grown.0 all (wire.Connect place.to (Some link) ∷ []) grown.2 since (leads since.calls since.is free);
  }

  bound_at : (source : Bool) (far : Far) (way : Way) (calls : List wire.Call) → way.at ≡ place → IsBound source far way now calls held → is_given link calls ≡ false →
      IsBound source far way now (calls ++ wire.Connect place.to (Some link) ∷ []) (held ++ record { link = link; handle = handle; inbox = [] } ∷ [])
  bound_at source far way calls is on free =
      subst (λ (p : Place). IsBound source far way now (calls ++ wire.Connect p.to (Some link) ∷ []) (held ++ record { link = link; handle = handle; inbox = [] } ∷ [])) is
      (bound_dialed source far way now calls held on link extents handle free (subst (λ (p : Place). length p.name ≤ max_text) (sym is) short)
      (subst (λ (p : Place). StandsFor max_unretired (opened p.name extents) handle) (sym is) stands))

  keeps_at : (asked : Bool) (far : Far) (way : Way) (calls : List wire.Call) → way.at ≡ place → KeepsFirst asked far way now calls held → (length held ≡ 0 → extents ≡ asked) →
      is_given link calls ≡ false → KeepsFirst asked far way now (calls ++ wire.Connect place.to (Some link) ∷ []) (held ++ record { link = link; handle = handle; inbox = [] } ∷ [])
  keeps_at asked far way calls is on only free =
      subst (λ (p : Place). KeepsFirst asked far way now (calls ++ wire.Connect p.to (Some link) ∷ []) (held ++ record { link = link; handle = handle; inbox = [] } ∷ [])) is
      (first_dialed asked far way now calls held on link extents handle free (subst (λ (p : Place). length p.name ≤ max_text) (sym is) short)
      (subst (λ (p : Place). StandsFor max_unretired (opened p.name extents) handle) (sym is) stands) only)

  pub dialed_binds : BindsMore place now held a held' c
  dialed_binds = subst (λ (t : Option (List wire.Call)). BindsMore place now held a held' t) (sym told_is) (subst (λ (l : List (Held Ticket)). BindsMore place now held a l b) (sym held_is) (record {
    on = λ source far way start is. told_dialed start (λ calls on free. bound_at source far way calls is on free);
    more = simp length-append (omega arith);
    first = λ asked far way start is some. told_dialed start (λ calls on free. keeps_at asked far way calls is on (λ none. absurd (omega (arith, some, none))) free);
  }))

  first_at : (source : Bool) (far : Far) (way : Way) (calls : List wire.Call) → way.at ≡ place → IsBound source far way now calls [] → is_given link calls ≡ false →
      IsDriving extents far way now (calls ++ wire.Connect place.to (Some link) ∷ []) (record { link = link; handle = handle; inbox = [] } ∷ [])
  first_at source far way calls is on free =
      subst (λ (p : Place). IsDriving extents far way now (calls ++ wire.Connect p.to (Some link) ∷ []) (record { link = link; handle = handle; inbox = [] } ∷ [])) is
      (driving_first source far way now calls link extents handle on free (subst (λ (p : Place). length p.name ≤ max_text) (sym is) short)
      (subst (λ (p : Place). StandsFor max_unretired (opened p.name extents) handle) (sym is) stands))

  pub dialed_drives : DrivesFirst place extents now held a held' c
  dialed_drives = subst (λ (t : Option (List wire.Call)). DrivesFirst place extents now held a held' t) (sym told_is) (record {
    on = λ source far way start is none told.
        subst (λ (l : List (Held Ticket)). Told start b (λ calls. IsDriving extents far way now calls l))
        (sym (held_is ∙ ap (λ (l : List (Held Ticket)). l ++ record { link = link; handle = handle; inbox = [] } ∷ []) none))
        (told_dialed start (λ calls on free. first_at source far way calls is (subst (λ (l : List (Held Ticket)). IsBound source far way now calls l) none on) free) told);
    first = λ source far way start is none told.
        subst (λ (l : List (Held Ticket)). Told start b (λ calls. KeepsFirst extents far way now calls l)) (sym held_is)
        (told_dialed start
        (λ calls on free. keeps_at extents far way calls is
        (subst (λ (l : List (Held Ticket)). KeepsFirst extents far way now calls l) (sym none)
        (first_none source extents far way now calls (subst (λ (l : List (Held Ticket)). IsBound source far way now calls l) none on))) (λ e. refl) free) told);
  })

pub more_none : (place : Place) (now : board.Seen) (held : List (Held Ticket)) (told : Option (List wire.Call)) → BindsMore place now held told held told
more_none place now held told = record { on = λ source far way start is told. told; more = omega arith; first = λ extents far way start is some told. told }

pub more_then : (place : Place) (now now2 : board.Seen) (held held2 held3 : List (Held Ticket)) (a b c : Option (List wire.Call)) → now2 ≡ now → BindsMore place now held a held2 b →
    BindsMore place now2 held2 b held3 c →
    BindsMore place now held a held3 c
more_then place now now2 held held2 held3 a b c same one last =
    let two = subst (λ (s : board.Seen). BindsMore place s held2 b held3 c) same last in
    let longer = one.more in
    record {
      on = λ source far way start is told. two.on source far way start is (one.on source far way start is told);
      more = (let last = two.more in omega (arith, longer, last));
      first = λ extents far way start is some told. two.first extents far way start is (omega (arith, longer, some)) (one.first extents far way start is some told);
    }

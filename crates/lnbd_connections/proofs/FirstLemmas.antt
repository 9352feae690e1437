-- The first handle of a copy of which one side is a file stays the first one, and on the first link that the calls gave, while no handle is taken out.
use Rattle.std.proofs.Common.{◌≡◌, ◌≤◌, ℕ, Bool, true, false, List, [], ◌∷◌, ◌++◌, length, Option, Some, None, refl, ap, sym, subst, ◌∙◌, append-nil}
use Rattle.lnbd_callbacks.specs.Steps.{OneByOne}
use Rattle.lnbd_handle.specs.Histories.{max_unretired}
use Rattle.lnbd_history.specs.Events.{History}
use Rattle.lnbd_asked.specs.Exports.{name_set}
use Rattle.lnbd_link.specs.Call as wire
use Rattle.lnbd_link.specs.Numbers.{is_given}
use Rattle.lnbd_machine.specs.Machine.{Machine}
use Rattle.lnbd_model.specs.declared.target.Target.{Target}
use Rattle.lnbd_poll.specs.Alone.{calls_on}
use Rattle.lnbd_poll.specs.Held.{Held, AreAt}
use Rattle.lnbd_poll.specs.Seen.{Seen}
use Rattle.lnbd_poll.specs.Turns.{Turns, Whole}
use Rattle.lnbd_records.specs.Limits.{max_text}
use Rattle.lnbd_standing.specs.Standing.{StandsFor}
use Rattle.lnbd_drives.proofs.Exports.{turns_give_none}
use Rattle.lnbd_board.specs.declared.ticket.Ticket.{Ticket}
use Rattle.lnbd_board.specs.Files as board
use Rattle.lnbd_course.specs.Far.{Far}
use Rattle.lnbd_course.specs.FarCourse.{FarCourse}
use Rattle.lnbd_course.specs.UnderWay.{AllHeld}
use Rattle.lnbd_course.proofs.Asking.{not_one}
use Rattle.lnbd_course.proofs.FarKeeping as keeping
use Rattle.lnbd_course.proofs.Holding.{one_has}
use Rattle.lnbd_course.proofs.Turning.{steps}
use Rattle.lnbd_conduct.specs.Answered.{FirstAgreedNone, HasNoContext, or_later}
use Rattle.lnbd_conduct.specs.Begun.{BeganAs, opened}
use Rattle.lnbd_copy.specs.Agreed.{Tells}
use Rattle.lnbd_copy.specs.Grounds.{Happened, Happens}
use Rattle.lnbd_copy.specs.Statuses.{IsFirst, first_held}
use Rattle.lnbd_copy.proofs.BegunLemmas.{began_stays, first_began, last_began, link_stays, went_none}
use Rattle.lnbd_copy.proofs.DialLemmas.{last_at, opened_name, opened_set}
use Rattle.lnbd_copy.proofs.GroundLemmas.{driven_at, given_at}
use Rattle.lnbd_copy.proofs.HeardLemmas.{first_later, first_there, given_then, no_more_given, none_given}
use Rattle.lnbd_copy.proofs.TurnLemmas.{at_count, turns_led}
use Rattle.lnbd_connections.specs.Bound.{IsBound, KeepsFirst}
use Rattle.lnbd_connections.specs.Way.{Way}

-- a handle more is the first one where there was none
last_first : (seens : List (Seen Ticket)) (last : Seen Ticket) → or_later (first_held seens) (Some last.link) ≡ first_held (seens ++ last ∷ [])
last_first [] last = refl
last_first (first ∷ others) last = refl

link_more : (calls : List wire.Call) (to : Target) (seens : List (Seen Ticket)) (last : Seen Ticket) → IsFirst false calls seens →
    IsFirst false (calls ++ wire.Connect to (Some last.link) ∷ []) (seens ++ last ∷ [])
link_more calls to seens last first =
    given_then calls (wire.Connect to (Some last.link) ∷ []) ∙ ap (λ (o : Option ℕ). or_later o (Some last.link)) first ∙ last_first seens last

module _ (extents : Bool) (far : Far) (way : Way) (now : board.Seen) (calls : List wire.Call) (held : List (Held Ticket)) (on : KeepsFirst extents far way now calls held) where
  pub first_turned : (now' : board.Seen) (part : List wire.Call) (held' : List (Held Ticket)) (after : List (Seen Ticket)) (moved : Option ℕ) →
      Turns (OneByOne board.Files) on.seens now part after now' (Whole moved) → AreAt held' after → KeepsFirst extents far way now' (calls ++ part) held'
  first_turned now' part held' after moved turns at =
      let led = turns_led on.seens now part after now' (Whole moved) turns in
      record {
        seens = after;
        at = at;
        stands = keeping.turns_keep_far far way.at way.size way.how way.slices now now' calls part on.seens after way.asked way.known moved on.stands turns;
        first = first_later false calls part on.seens after (link_stays on.seens after led.first)
            (no_more_given part on.seens (λ link. turns_give_none steps link part on.seens after now now' (Whole moved) turns)) on.first;
        began = began_stays false (opened way.at.name extents) on.seens after led.first on.began;
      }

  pub first_called : (more : List wire.Call) → ((link : ℕ) → calls_on link more ≡ []) → ((link : ℕ) → is_given link more ≡ false) → KeepsFirst extents far way now (calls ++ more) held
  first_called more quiet none = record {
    seens = on.seens;
    at = on.at;
    stands = keeping.calls_keep_far far way.at way.size way.how way.slices now calls more on.seens way.asked way.known on.stands quiet none;
    first = first_later false calls more on.seens on.seens refl (no_more_given more on.seens none) on.first;
    began = on.began;
  }

  -- One handle more is held, which is the first one only if there was none.
  pub first_dialed : (link : ℕ) (asks : Bool) (handle : Machine Ticket) → is_given link calls ≡ false → length way.at.name ≤ max_text → StandsFor max_unretired (opened way.at.name asks) handle →
      (length held ≡ 0 → asks ≡ extents) →
      KeepsFirst extents far way now (calls ++ wire.Connect way.at.to (Some link) ∷ []) (held ++ record { link = link; handle = handle; inbox = [] } ∷ [])
  first_dialed link asks handle new short stands only =
      let last : Seen Ticket = record { link = link; history = opened way.at.name asks; unread = [] } in
      record {
        seens = on.seens ++ last ∷ [];
        at = last_at held on.seens link handle (opened way.at.name asks) on.at stands;
        stands = keeping.opens_far far way.at way.size way.how way.slices now calls on.seens way.asked way.known link (opened way.at.name asks) on.stands new
            (opened_set way.at.name asks short) (opened_name way.at.name asks);
        first = link_more calls way.at.to on.seens last on.first;
        began = last_began (opened way.at.name extents) on.seens last on.began
            (λ none. subst (λ (b : Bool). BeganAs (opened way.at.name b) (opened way.at.name asks)) (only (at_count held on.seens on.at ∙ none)) (went_none (opened way.at.name asks)));
      }

  pub first_agreed : (index size : ℕ) → way.size ≡ None → Tells index size held → KeepsFirst extents far (record way { size = Some size }) now calls held
  first_agreed index size unsettled tells =
      let told = tells.on on.seens on.at in
      record {
        seens = on.seens;
        at = on.at;
        stands = keeping.agreeing_settles_far far way.at way.how way.slices now calls on.seens way.asked way.known index told.seen size
            (subst (λ (o : Option ℕ). FarCourse far way.at o way.how way.slices now calls on.seens way.asked way.known) unsettled on.stands) told.there told.told;
        first = on.first;
        began = on.began;
      }

  -- The calls show that it agreed no meta context.
  pub first_agreed_none : Happens HasNoContext 0 held → FirstAgreedNone extents way.at calls
  first_agreed_none happens =
      let h : Happened HasNoContext 0 on.seens = happens.on on.seens on.at in
      let course = on.stands.course in
      let given : is_given h.seen.link calls ≡ true = given_at calls h.seen.link (is_given h.seen.link calls) refl
      (λ none. not_one h.seen.link 0 h.seen on.seens h.there (course.unused h.seen.link none).apart refl) in
      record {
        before = calls;
        after = [];
        are = sym (append-nil calls);
        link = h.seen.link;
        history = h.seen.history;
        first = on.first ∙ first_there on.seens h.seen h.there;
        drives = driven_at calls 0 h.seen held on.seens h.there on.at course.drive.drive course.drive.plain;
        address = on.stands.placed.address h.seen.link given;
        name = ap (λ (history : History Ticket). name_set history) (sym (one_has 0 h.seen course.histories on.seens h.there course.held)) ∙ on.stands.placed.name h.seen.link given;
        begun = first_began (opened way.at.name extents) on.seens h.seen h.there on.began;
        none = h.is;
      }

-- Where no link was given there is no first handle.
pub first_none : (source extents : Bool) (far : Far) (way : Way) (now : board.Seen) (calls : List wire.Call) → IsBound source far way now calls [] → KeepsFirst extents far way now calls []
first_none source extents far way now calls on = go on.seens on.at on.stands on.all
  where
    go : (seens : List (Seen Ticket)) → AreAt [] seens → FarCourse far way.at way.size way.how way.slices now calls seens way.asked way.known → AllHeld calls seens →
        KeepsFirst extents far way now calls []
    go [] at stands all = record { seens = []; at = tt; stands = stands; first = none_given calls (λ n. all n tt); began = tt }
    go (seen ∷ others) at stands all = absurd at

-- What keeps a copy of which one side is a file on its way. What stands between two steps is made anew here alone.
use Rattle.std.proofs.Common.{◌≡◌, ◌⊎◌, ◌≤◌, ℕ, ◌+◌, Bool, true, false, List, [], ◌∷◌, ◌++◌, length, Option, Some, None, ap, sym, subst, ◌∙◌, length-append, take, drop}
use Rattle.lnbd_callbacks.specs.Steps.{OneByOne}
use Rattle.lnbd_handle.specs.Histories.{ForEach, max_unretired}
use Rattle.lnbd_history.specs.Commands.{Command}
use Rattle.lnbd_history.specs.Events.{Event, Issue}
use Rattle.lnbd_asked.specs.Exports.{is_naming}
use Rattle.lnbd_link.specs.Call as wire
use Rattle.lnbd_link.specs.Numbers.{is_given}
use Rattle.lnbd_machine.specs.Machine.{Machine}
use Rattle.lnbd_poll.specs.Alone.{calls_on}
use Rattle.lnbd_poll.specs.Held.{Held, AreAt}
use Rattle.lnbd_poll.specs.Seen.{Seen}
use Rattle.lnbd_poll.specs.Turns.{Turns, Whole}
use Rattle.lnbd_records.specs.Limits.{max_text}
use Rattle.lnbd_standing.specs.Standing.{StandsFor}
use Rattle.lnbd_drives.specs.Driving.{with_event}
use Rattle.lnbd_plan.specs.declared.grid.Slice.{Slice}
use Rattle.lnbd_board.specs.declared.how.How.{How}
use Rattle.lnbd_board.specs.declared.row.Row.{Row}
use Rattle.lnbd_board.specs.declared.ticket.Ticket.{Ticket}
use Rattle.lnbd_board.specs.Asks.{Keeps}
use Rattle.lnbd_board.specs.Files as board
use Rattle.lnbd_board.specs.Requests.{Request}
use Rattle.lnbd_board.specs.Rows as rows
use Rattle.lnbd_tracks.specs.Heeding.{ListensTo, holds_told, holds_whole}
use Rattle.lnbd_tracks.specs.Mapping.{HoldsZero, ToldAlike, asks_extents}
use Rattle.lnbd_course.specs.Between.{IsSetting}
use Rattle.lnbd_course.specs.Counted.{CountsSame, HasNotCounted}
use Rattle.lnbd_course.specs.Far.{Far, ToFile, AsksNear, done_by}
use Rattle.lnbd_course.specs.FarCourse.{FarCourse}
use Rattle.lnbd_course.specs.Laws.{AsksSource}
use Rattle.lnbd_course.specs.Taken.{without_buffer}
use Rattle.lnbd_course.specs.Told.{Known}
use Rattle.lnbd_course.proofs.FarKeeping as keeping
use Rattle.lnbd_conduct.specs.Begun.{opened}
use Rattle.lnbd_copy.specs.Agreed.{Tells}
use Rattle.lnbd_copy.specs.Asked.{WasAsked}
use Rattle.lnbd_copy.specs.Way.{Filed}
use Rattle.lnbd_copy.proofs.DialLemmas.{last_at, opened_name, opened_set}
use Rattle.lnbd_copy.proofs.PartLemmas.{Happened, stood, without_at}
use Rattle.lnbd_copy.proofs.TurnLemmas.{turns_led}
use Rattle.lnbd_connections.specs.Way.{IsUnderWay, Way, with_slices}
use Rattle.std.specs.Option.{option_map}
use Rattle.std.proofs.Common.{slice_get}

-- Before any call, where nothing was asked of the file, a copy without handles, whose board is empty, is on its way.
pub way_began : (far : Far) (way : Way) (now : board.Seen) → done_by far ≡ [] → way.size ≡ None → way.slices ≡ [] → way.asked ≡ None → ((p : ℕ) → way.known.zero p ≡ false) →
    now.rows ≡ [] → now.begun ≡ 0 → HasNotCounted now → IsUnderWay far way now [] []
way_began far way now undone unsettled none unasked unknown empty new uncounted = record {
  seens = [];
  at = tt;
  begun = ap length none ∙ sym new;
  stands = subst (λ (o : Option ℕ). FarCourse far way.at o way.how way.slices now [] [] way.asked way.known) (sym unsettled)
      (subst (λ (l : List Slice). FarCourse far way.at None way.how l now [] [] way.asked way.known) (sym none)
      (subst (λ (o : Option (ℕ × ℕ)). FarCourse far way.at None way.how [] now [] [] o way.known) (sym unasked) (keeping.nothing_is_far far way.at way.how now way.known undone empty
      uncounted unknown)));
}

module _ (far : Far) (way : Way) (now : board.Seen) (calls : List wire.Call) (held : List (Held Ticket)) (on : IsUnderWay far way now calls held) where
  -- The board goes on and nothing is asked,
  pub way_moved : (now' : board.Seen) → now'.begun ≡ now.begun → (now'.error ≡ None → now.error ≡ None) → CountsSame now now' →
      ((source destination : List Request) → Keeps way.how now.rows source destination now'.rows source destination) → ToldAlike now now' → IsUnderWay far way now' calls held
  way_moved now' begun earlier same keeps alike = record {
    seens = on.seens;
    at = on.at;
    begun = on.begun ∙ sym begun;
    stands = keeping.board_moves_keep_far far way.at way.size way.how way.slices now now' calls on.seens way.asked way.known on.stands earlier same keeps alike;
  }

  -- a handle took a command, but for extents, and with it these slices are begun;
  pub way_asked : (more : List Slice) (now' : board.Seen) (held' : List (Held Ticket)) (index : ℕ) (command : Command Ticket) → WasAsked index command on.seens held' →
      AsksNear far way.how (without_buffer command) way.slices (way.slices ++ more) now now' → asks_extents (Issue (without_buffer command)) ≡ false → ToldAlike now now' →
      now'.begun ≡ now.begun + length more → IsUnderWay far (with_slices more way) now' calls held'
  way_asked more now' held' index command was asks other alike begun = record {
    seens = with_event index (Issue (without_buffer command)) on.seens;
    at = was.at;
    begun = length-append way.slices more ∙ ap (λ n. n + length more) on.begun ∙ sym begun;
    stands = keeping.asking_keeps_far far way.at way.size way.how way.slices (way.slices ++ more) now now' calls on.seens way.asked way.known index was.seen (without_buffer command)
        on.stands was.there was.spells
        asks other alike;
  }

  -- what was waited for of extents is heard,
  pub way_heard : (range : ℕ × ℕ) (known : Known) → way.asked ≡ Some range → now.mapped ≡ true → now.short ≡ false →
      ((p : ℕ) → known.zero p ≡ true → (way.known.zero p ≡ true) ⊎ HoldsZero range now p) → ((block p : ℕ) → way.known.whole block p ≡ true → known.whole block p ≡ true) →
      ((block p : ℕ) → holds_whole range now block p ≡ true → known.whole block p ≡ true) → ((p : ℕ) → way.known.reach p ≡ true → known.reach p ≡ true) →
      ((p : ℕ) → holds_told range now p ≡ true → known.reach p ≡ true) → IsUnderWay far (record way { asked = None; known = known }) now calls held
  way_heard range known asked mapped short knows more holds further reaches = record {
    seens = on.seens;
    at = on.at;
    begun = on.begun;
    stands = keeping.hearing_keeps_far far way.at way.size way.how way.slices now calls on.seens range way.known known
        (subst (λ (o : Option (ℕ × ℕ)). FarCourse far way.at way.size way.how way.slices now calls on.seens o way.known) asked on.stands) mapped short knows more holds further reaches;
  }

  -- or less is known as zero, and more at all;
  pub way_unheard : (known : Known) → ((p : ℕ) → known.zero p ≡ true → way.known.zero p ≡ true) → ((block p : ℕ) → way.known.whole block p ≡ true → known.whole block p ≡ true) →
      ((p : ℕ) → way.known.reach p ≡ true → known.reach p ≡ true) → IsUnderWay far (record way { known = known }) now calls held
  way_unheard known fewer more further = record {
    seens = on.seens;
    at = on.at;
    begun = on.begun;
    stands = keeping.fewer_keep_far far way.at way.size way.how way.slices now calls on.seens way.asked way.known known on.stands fewer more further;
  }

  -- another board, of a copy that writes otherwise, takes the place of one that is empty;
  pub way_settled : (how : How) (now' : board.Seen) → way.slices ≡ [] → way.asked ≡ None → now.rows ≡ [] → now.error ≡ None → now.flushing ≡ false → now'.rows ≡ [] → now'.begun ≡ 0 →
      HasNotCounted now' → IsUnderWay far (record way { how = how }) now' calls held
  way_settled how now' none unasked empty well unflushed empty' new uncounted = record {
    seens = on.seens;
    at = on.at;
    begun = ap length none ∙ sym new;
    stands = subst (λ (l : List Slice). FarCourse far way.at way.size how l now' calls on.seens way.asked way.known) (sym none)
        (subst (λ (o : Option (ℕ × ℕ)). FarCourse far way.at way.size how [] now' calls on.seens o way.known) (sym unasked)
        (keeping.settling_keeps_far far way.at way.size way.how how now now' calls on.seens way.known
        (subst (λ (o : Option (ℕ × ℕ)). FarCourse far way.at way.size way.how [] now calls on.seens o way.known) unasked
        (subst (λ (l : List Slice). FarCourse far way.at way.size way.how l now calls on.seens way.asked way.known) none on.stands)) empty well unflushed empty' uncounted));
  }

  -- the export's size is settled, as this handle tells it;
  pub way_agreed : (index size : ℕ) → way.size ≡ None → Tells index size held → IsUnderWay far (record way { size = Some size }) now calls held
  way_agreed index size unsettled tells =
      let told = tells.on on.seens on.at in
      record {
        seens = on.seens;
        at = on.at;
        begun = on.begun;
        stands = keeping.agreeing_settles_far far way.at way.how way.slices now calls on.seens way.asked way.known index told.seen size
            (subst (λ (o : Option ℕ). FarCourse far way.at o way.how way.slices now calls on.seens way.asked way.known) unsettled on.stands) told.there told.told;
      }

  -- each handle takes its part of a turn;
  pub way_turned : (now' : board.Seen) (part : List wire.Call) (held' : List (Held Ticket)) (after : List (Seen Ticket)) (moved : Option ℕ) →
      Turns (OneByOne board.Files) on.seens now part after now' (Whole moved) → AreAt held' after → IsUnderWay far way now' (calls ++ part) held'
  way_turned now' part held' after moved turns at = record {
    seens = after;
    at = at;
    begun = on.begun ∙ sym (turns_led on.seens now part after now' (Whole moved) turns).filed.begun;
    stands = keeping.turns_keep_far far way.at way.size way.how way.slices now now' calls part on.seens after way.asked way.known moved on.stands turns;
  }

  -- the wires are called, but no link is read, written or made, as where they wait;
  pub way_called : (more : List wire.Call) → ((link : ℕ) → calls_on link more ≡ []) → ((link : ℕ) → is_given link more ≡ false) → IsUnderWay far way now (calls ++ more) held
  way_called more quiet none = record {
    seens = on.seens;
    at = on.at;
    begun = on.begun;
    stands = keeping.calls_keep_far far way.at way.size way.how way.slices now calls more on.seens way.asked way.known on.stands quiet none;
  }

  -- one handle more is held, on a link that was just made to the export;
  pub way_dialed : (link : ℕ) (extents : Bool) (handle : Machine Ticket) → is_given link calls ≡ false → length way.at.name ≤ max_text →
      StandsFor max_unretired (opened way.at.name extents) handle →
      IsUnderWay far way now (calls ++ wire.Connect way.at.to (Some link) ∷ []) (held ++ record { link = link; handle = handle; inbox = [] } ∷ [])
  way_dialed link extents handle new short stands = record {
    seens = on.seens ++ record { link = link; history = opened way.at.name extents; unread = [] } ∷ [];
    at = last_at held on.seens link handle (opened way.at.name extents) on.at stands;
    begun = on.begun;
    stands = keeping.opens_far far way.at way.size way.how way.slices now calls on.seens way.asked way.known link (opened way.at.name extents) on.stands new (opened_set way.at.name extents short)
        (opened_name way.at.name extents);
  }

  -- something else happens on a handle that its caller does;
  pub way_did : (held' : List (Held Ticket)) (index : ℕ) (event : Event Ticket) → (did : Happened index event on.seens held') → IsSetting did.seen.history event → is_naming event ≡ false →
      IsUnderWay far way now calls held'
  way_did held' index event did sets unnamed = record {
    seens = with_event index event on.seens;
    at = did.at;
    begun = on.begun;
    stands = keeping.others_keep_far far way.at way.size way.how way.slices now calls on.seens way.asked way.known index did.seen event on.stands did.there sets unnamed;
  }

  -- and one is taken out and closed, where no slice is under way and no extents are waited for.
  pub way_left : (now' : board.Seen) (index : ℕ) (taken : ℕ × Machine Ticket) →
      option_map {U = ℕ × Machine Ticket} (λ held. (held.link, held.handle)) (slice_get held index) ≡ Some taken → way.asked ≡ None → Filed now now' →
      ForEach taken.1 (λ history. now'.flushed ≡ now.flushed) → now.rows ≡ [] → IsUnderWay far way now' calls (take index held ++ drop (index + 1) held)
  way_left now' index taken is unasked filed unanswered none =
      let one = stood index held on.seens taken is on.at in
      let left : List (Seen Ticket) = take index on.seens ++ drop (index + 1) on.seens in
      let same : now'.rows ≡ now.rows = filed.none none ∙ sym none in
      record {
        seens = left;
        at = without_at index held on.seens on.at;
        begun = on.begun ∙ sym filed.begun;
        stands = subst (λ (o : Option (ℕ × ℕ)). FarCourse far way.at way.size way.how way.slices now' calls left o way.known) (sym unasked)
            (keeping.unasked_moves_keep_far far way.at way.size way.how way.slices now now' calls left way.known
            (subst (λ (o : Option (ℕ × ℕ)). FarCourse far way.at way.size way.how way.slices now calls left o way.known) unasked
            (keeping.taking_keeps_far far way.at way.size way.how way.slices now calls on.seens way.asked way.known index one.seen max_unretired taken.1 on.stands one.there one.stands))
            filed.error
            (record { read = filed.read; written = filed.written; zeroed = filed.zeroed; flushing = filed.flushing; flushed = unanswered one.seen.history one.stands }) (λ source
            destination. record {
              on = λ all kept. subst (λ (r : List (ℕ × Row)). rows.Stands way.how all r source destination) (sym same) kept;
            }));
      }

-- A handle that asks the source for the extents of a range, where none are waited for: then those are.
pub way_listened : (done : List Request) (way : Way) (now : board.Seen) (calls : List wire.Call) (held : List (Held Ticket)) (on : IsUnderWay (ToFile done) way now calls held) (now' : board.Seen)
    (held' : List (Held Ticket)) (range : ℕ × ℕ) (index : ℕ) (command : Command Ticket) → way.asked ≡ None → WasAsked index command on.seens held' →
    AsksSource way.how (without_buffer command) way.slices way.slices now now' → ListensTo range (without_buffer command) → now'.told ≡ [] → now'.mapped ≡ false → now'.begun ≡ now.begun →
    IsUnderWay (ToFile done) (record way { asked = Some range }) now' calls held'
way_listened done way now calls held on now' held' range index command unasked was asks wants forgotten unmapped begun = record {
  seens = with_event index (Issue (without_buffer command)) on.seens;
  at = was.at;
  begun = on.begun ∙ sym begun;
  stands = keeping.extents_keep_far done way.at way.size way.how way.slices way.slices now now' calls on.seens range way.known index was.seen (without_buffer command)
      (subst (λ (o : Option (ℕ × ℕ)). FarCourse (ToFile done) way.at way.size way.how way.slices now calls on.seens o way.known) unasked on.stands) was.there was.spells asks wants
      forgotten unmapped;
}

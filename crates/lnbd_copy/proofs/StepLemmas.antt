-- Each step of a copy keeps what its handles did: both what stands between two turns, and what was told as zero.
use Rattle.std.proofs.Common.{◌≡◌, ◌⊎◌, ℕ, ◌+◌, Bool, true, false, List, [], ◌++◌, Option, Some, None, slice_get, take, drop, sym, subst}
use Rattle.lnbd_callbacks.specs.Steps.{OneByOne}
use Rattle.lnbd_link.specs.Call as wire
use Rattle.lnbd_link.specs.Numbers.{is_given}
use Rattle.lnbd_history.specs.Commands.{Command}
use Rattle.lnbd_history.specs.Events.{Event, Issue}
use Rattle.lnbd_machine.specs.Machine.{Machine}
use Rattle.lnbd_standing.specs.Standing.{StandsFor}
use Rattle.lnbd_asked.specs.Driven.{Spells}
use Rattle.lnbd_asked.specs.Exports.{is_naming}
use Rattle.lnbd_poll.specs.Alone.{calls_on}
use Rattle.lnbd_poll.specs.Seen.{Seen}
use Rattle.lnbd_poll.specs.Turns.{Turns, Whole}
use Rattle.lnbd_drives.specs.Driving.{with_event}
use Rattle.lnbd_plan.specs.declared.grid.Slice.{Slice}
use Rattle.lnbd_board.specs.declared.how.How.{How}
use Rattle.lnbd_board.specs.declared.ticket.Ticket.{Ticket}
use Rattle.lnbd_board.specs.Asks.{Keeps}
use Rattle.lnbd_board.specs.Files as board
use Rattle.lnbd_board.specs.Requests.{Request}
use Rattle.lnbd_tracks.specs.Mapping.{HoldsZero, ToldAlike, asks_extents}
use Rattle.lnbd_tracks.specs.Heeding.{ListensTo, holds_told, holds_whole}
use Rattle.lnbd_course.specs.Between.{Between, IsSetting}
use Rattle.lnbd_course.specs.Counted.{CountsSame, HasNotCounted}
use Rattle.lnbd_course.specs.Told as course
use Rattle.lnbd_course.specs.Laws.{AsksDestination, AsksSource}
use Rattle.lnbd_course.proofs.Placing.{board_moves_keep_between, calls_keep_between, destination_asks_keep_between, nothing_is_between, others_keep_between, settling_keeps_between, source_asks_keep_between, taking_keeps_between, turns_keep_between}
use Rattle.lnbd_course.proofs.Telling.{board_moves_tell, calls_tell, destination_asks_tell, extents_ask_tell, fewer_tell, hearing_tells, nothing_is_told, others_tell, settling_tells, source_asks_tell, taking_tells, turns_tell, unasked_moves_tell}
use Rattle.lnbd_copy.specs.Way.{Stands, Way, known_of}

module _ (way : Way) (has : ℕ → Bool) where
  pub nothing_stands : (now : board.Seen) → way.size ≡ None → way.slices ≡ [] → way.asked ≡ None → ((p : ℕ) → way.zero p ≡ false) → now.rows ≡ [] → HasNotCounted now → Stands way has now [] []
  nothing_stands now unsettled none unasked unknown empty uncounted = record {
    between = subst (λ (o : Option ℕ). Between way.from way.to o way.how has way.slices now [] []) (sym unsettled) (subst (λ (l : List Slice). Between way.from way.to None way.how has l now [] []) (sym none) (nothing_is_between way.from way.to way.how has now empty uncounted));
    told = subst (λ (o : Option (ℕ × ℕ)). course.ToldCourse way.how has way.slices now [] [] o (known_of way)) (sym unasked) (subst (λ (l : List Slice). course.ToldCourse way.how has l now [] [] None (known_of way)) (sym none) (nothing_is_told way.how has now (known_of way) empty uncounted unknown));
  }

  pub settling_stands : (how : How) (now now' : board.Seen) (calls : List wire.Call) (seens : List (Seen Ticket)) → way.slices ≡ [] → way.asked ≡ None → Stands way has now calls seens → now.rows ≡ [] → now.error ≡ None → now.flushing ≡ false → now'.rows ≡ [] → HasNotCounted now' →
      Stands (record way { how = how }) has now' calls seens
  settling_stands how now now' calls seens none unasked s empty well unflushed empty' uncounted = record {
    between = subst (λ (l : List Slice). Between way.from way.to way.size how has l now' calls seens) (sym none)
        (settling_keeps_between way.from way.to way.size way.how how has now now' calls seens (subst (λ (l : List Slice). Between way.from way.to way.size way.how has l now calls seens) none s.between) empty well unflushed empty' uncounted);
    told = subst (λ (o : Option (ℕ × ℕ)). course.ToldCourse how has way.slices now' calls seens o (known_of way)) (sym unasked) (subst (λ (l : List Slice). course.ToldCourse how has l now' calls seens None (known_of way)) (sym none)
        (settling_tells way.how how has now now' calls seens (known_of way)
        (subst (λ (o : Option (ℕ × ℕ)). course.ToldCourse way.how has [] now calls seens o (known_of way)) unasked (subst (λ (l : List Slice). course.ToldCourse way.how has l now calls seens way.asked (known_of way)) none s.told)) empty well unflushed empty' uncounted));
  }

  pub turns_stand : (now now' : board.Seen) (calls part : List wire.Call) (before after : List (Seen Ticket)) (moved : Option ℕ) → Stands way has now calls before → Turns (OneByOne board.Files) before now part after now' (Whole moved) →
      Stands way has now' (calls ++ part) after
  turns_stand now now' calls part before after moved s turns = record {
    between = turns_keep_between way.from way.to way.size way.how has way.slices now now' calls part before after moved s.between turns;
    told = turns_tell way.how has way.slices now now' calls part before after way.asked (known_of way) moved s.told turns;
  }

  pub calls_stand : (now : board.Seen) (calls more : List wire.Call) (seens : List (Seen Ticket)) → Stands way has now calls seens → ((link : ℕ) → calls_on link more ≡ []) → ((link : ℕ) → is_given link more ≡ false) → Stands way has now (calls ++ more) seens
  calls_stand now calls more seens s none given = record {
    between = calls_keep_between way.from way.to way.size way.how has way.slices now calls more seens s.between none given;
    told = calls_tell way.how has way.slices now calls more seens way.asked (known_of way) s.told none;
  }

  pub source_asks_stand : (slices' : List Slice) (now now' : board.Seen) (calls : List wire.Call) (seens : List (Seen Ticket)) (index : ℕ) (seen : Seen Ticket) (command : Command Ticket) →
      Stands way has now calls seens → slice_get seens index ≡ Some seen → has seen.link ≡ true → Spells seen.history (Issue command) → AsksSource way.how command way.slices slices' now now' →
      asks_extents (Issue command) ≡ false → ToldAlike now now' → Stands (record way { slices = slices' }) has now' calls (with_event index (Issue command) seens)
  source_asks_stand slices' now now' calls seens index seen command s there side spells asks other alike = record {
    between = source_asks_keep_between way.from way.to way.size way.how has way.slices slices' now now' calls seens index seen command s.between there side spells asks;
    told = source_asks_tell way.how has way.slices slices' now now' calls seens way.asked (known_of way) index seen command s.told there side spells asks other alike;
  }

  pub destination_asks_stand : (slices' : List Slice) (now now' : board.Seen) (calls : List wire.Call) (seens : List (Seen Ticket)) (index : ℕ) (seen : Seen Ticket) (command : Command Ticket) →
      Stands way has now calls seens → slice_get seens index ≡ Some seen → has seen.link ≡ false → Spells seen.history (Issue command) → AsksDestination way.how command way.slices slices' now now' →
      asks_extents (Issue command) ≡ false → ToldAlike now now' → Stands (record way { slices = slices' }) has now' calls (with_event index (Issue command) seens)
  destination_asks_stand slices' now now' calls seens index seen command s there side spells asks other alike = record {
    between = destination_asks_keep_between way.from way.to way.size way.how has way.slices slices' now now' calls seens index seen command s.between there side spells asks;
    told = destination_asks_tell way.how has way.slices slices' now now' calls seens way.asked (known_of way) index seen command s.told there side spells asks other alike;
  }

  pub extents_ask_stand : (now now' : board.Seen) (calls : List wire.Call) (seens : List (Seen Ticket)) (range : ℕ × ℕ) (index : ℕ) (seen : Seen Ticket) (command : Command Ticket) → way.asked ≡ None →
      Stands way has now calls seens → slice_get seens index ≡ Some seen → has seen.link ≡ true → Spells seen.history (Issue command) → AsksSource way.how command way.slices way.slices now now' →
      ListensTo range command → now'.told ≡ [] → now'.mapped ≡ false → Stands (record way { asked = Some range }) has now' calls (with_event index (Issue command) seens)
  extents_ask_stand now now' calls seens range index seen command none s there side spells asks asked blank unmapped = record {
    between = source_asks_keep_between way.from way.to way.size way.how has way.slices way.slices now now' calls seens index seen command s.between there side spells asks;
    told = extents_ask_tell way.how has way.slices way.slices now now' calls seens range (known_of way) index seen command (subst (λ (o : Option (ℕ × ℕ)). course.ToldCourse way.how has way.slices now calls seens o (known_of way)) none s.told) there side spells asks asked blank unmapped;
  }

  pub board_moves_stand : (now now' : board.Seen) (calls : List wire.Call) (seens : List (Seen Ticket)) → Stands way has now calls seens → (now'.error ≡ None → now.error ≡ None) → CountsSame now now' →
      ((source destination : List Request) → Keeps way.how now.rows source destination now'.rows source destination) → ToldAlike now now' → Stands way has now' calls seens
  board_moves_stand now now' calls seens s earlier same keeps alike = record {
    between = board_moves_keep_between way.from way.to way.size way.how has way.slices now now' calls seens s.between earlier same keeps;
    told = board_moves_tell way.how has way.slices now now' calls seens way.asked (known_of way) s.told earlier same keeps alike;
  }

  -- Where no extents are waited for, it does not matter what the board was told of them.
  pub unasked_moves_stand : (now now' : board.Seen) (calls : List wire.Call) (seens : List (Seen Ticket)) → way.asked ≡ None → Stands way has now calls seens → (now'.error ≡ None → now.error ≡ None) → CountsSame now now' →
      ((source destination : List Request) → Keeps way.how now.rows source destination now'.rows source destination) → Stands way has now' calls seens
  unasked_moves_stand now now' calls seens none s earlier same keeps = record {
    between = board_moves_keep_between way.from way.to way.size way.how has way.slices now now' calls seens s.between earlier same keeps;
    told = subst (λ (o : Option (ℕ × ℕ)). course.ToldCourse way.how has way.slices now' calls seens o (known_of way)) (sym none) (unasked_moves_tell way.how has way.slices now now' calls seens (known_of way) (subst (λ (o : Option (ℕ × ℕ)). course.ToldCourse way.how has way.slices now calls seens o (known_of way)) none s.told) earlier same keeps);
  }

  pub others_stand : (now : board.Seen) (calls : List wire.Call) (seens : List (Seen Ticket)) (index : ℕ) (seen : Seen Ticket) (event : Event Ticket) → Stands way has now calls seens → slice_get seens index ≡ Some seen →
      IsSetting seen.history event → is_naming event ≡ false → Stands way has now calls (with_event index event seens)
  others_stand now calls seens index seen event s there sets unnamed = record {
    between = others_keep_between way.from way.to way.size way.how has way.slices now calls seens index seen event s.between there sets unnamed;
    told = others_tell way.how has way.slices now calls seens way.asked (known_of way) index seen event s.told there sets.inward sets.unasked sets.still sets.spelled sets.mode;
  }

  pub hearing_stands : (now : board.Seen) (calls : List wire.Call) (seens : List (Seen Ticket)) (range : ℕ × ℕ) (known : ℕ → Bool) (whole : (block p : ℕ) → Bool) (reach : ℕ → Bool) → way.asked ≡ Some range → Stands way has now calls seens → now.mapped ≡ true → now.short ≡ false →
      ((p : ℕ) → known p ≡ true → (way.zero p ≡ true) ⊎ HoldsZero range now p) → ((block p : ℕ) → way.whole block p ≡ true → whole block p ≡ true) → ((block p : ℕ) → holds_whole range now block p ≡ true → whole block p ≡ true) →
      ((p : ℕ) → way.reach p ≡ true → reach p ≡ true) → ((p : ℕ) → holds_told range now p ≡ true → reach p ≡ true) → Stands (record way { asked = None; zero = known; whole = whole; reach = reach }) has now calls seens
  hearing_stands now calls seens range known whole reach asked s mapped short knows more holds further reaches = record {
    between = s.between;
    told = hearing_tells way.how has way.slices now calls seens range (known_of way) (record { zero = known; whole = whole; reach = reach }) (subst (λ (o : Option (ℕ × ℕ)). course.ToldCourse way.how has way.slices now calls seens o (known_of way)) asked s.told) mapped short knows more holds further reaches;
  }

  -- Where no extents are waited for, fewer positions may be known.
  pub unheard_stands : (now : board.Seen) (calls : List wire.Call) (seens : List (Seen Ticket)) (known : ℕ → Bool) (whole : (block p : ℕ) → Bool) (reach : ℕ → Bool) → way.asked ≡ None → Stands way has now calls seens → ((p : ℕ) → known p ≡ true → way.zero p ≡ true) → ((block p : ℕ) → way.whole block p ≡ true → whole block p ≡ true) →
      ((p : ℕ) → way.reach p ≡ true → reach p ≡ true) → Stands (record way { zero = known; whole = whole; asked = None; reach = reach }) has now calls seens
  unheard_stands now calls seens known whole reach none s fewer more further = record {
    between = s.between;
    told = fewer_tell way.how has way.slices now calls seens None (known_of way) (record { zero = known; whole = whole; reach = reach }) (subst (λ (o : Option (ℕ × ℕ)). course.ToldCourse way.how has way.slices now calls seens o (known_of way)) none s.told) fewer more further;
  }

  pub taking_stands : (now : board.Seen) (calls : List wire.Call) (seens : List (Seen Ticket)) (index : ℕ) (seen : Seen Ticket) (limit : ℕ) (handle : Machine Ticket) → Stands way has now calls seens → slice_get seens index ≡ Some seen →
      StandsFor limit seen.history handle → Stands way has now calls (take index seens ++ drop (index + 1) seens)
  taking_stands now calls seens index seen limit handle s there stands = record {
    between = taking_keeps_between way.from way.to way.size way.how has way.slices now calls seens index seen limit handle s.between there stands;
    told = taking_tells way.how has way.slices now calls seens way.asked (known_of way) index seen limit handle s.told there stands;
  }

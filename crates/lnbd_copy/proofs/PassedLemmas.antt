-- What was heard of extents was passed by asking, as it was told or lies in the first block of what was asked for.
use Rattle.std.proofs.Common.{◌≡◌, ◌≢◌, ◌≤◌, ◌+◌, ◌||◌, inl, inr, ℕ, Bool, true, List, [], ◌++◌, Option, Some, None, nat_le, nat_lt, refl, sym, subst, ◌∙◌, arith, leb-true, ltb-true}
use Rattle.std.proofs.lemmas.Bool.{false≢true}
use Rattle.std.proofs.lemmas.List.{append-nil}
use Rattle.lnbd_model.specs.declared.export.Extent.{Extent}
use Rattle.lnbd_link.specs.Call as wire
use Rattle.lnbd_extents.specs.Positions.{within}
use Rattle.lnbd_model.specs.declared.target.Place.{Place}
use Rattle.lnbd_asked.specs.Transcript.{dealt_with}
use Rattle.lnbd_poll.specs.Held.{Held}
use Rattle.lnbd_plan.specs.Laws.{IsPlannedOnce}
use Rattle.lnbd_board.specs.declared.ticket.Ticket.{Ticket}
use Rattle.lnbd_board.specs.Files as board
use Rattle.lnbd_tracks.specs.Saying.{is_told, said_in}
use Rattle.lnbd_board.specs.Carried.{IsUnread}
use Rattle.lnbd_course.specs.Between.{Between}
use Rattle.lnbd_course.specs.Passed.{WasFirst}
use Rattle.lnbd_course.specs.Reached.{WasTold}
use Rattle.lnbd_course.specs.Told as course
use Rattle.lnbd_course.proofs.Passed.{heard_were_first, heard_were_told}
use Rattle.lnbd_course.proofs.Placed.{links_are_of_sides}
use Rattle.lnbd_course.proofs.Telling.{sides_are_of_source}
use Rattle.lnbd_copy.specs.Heard.{has_position, passed_heard}
use Rattle.lnbd_conduct.specs.Answered.{WasPassed, WasSoFirst}
use Rattle.lnbd_copy.specs.Way.{IsOn, Stands, Way, known_of}
use Rattle.lnbd_copy.specs.Windows as windows
use Rattle.lnbd_copy.proofs.AnswerLemmas.{none_held, unread_behind, wanted_starts}
use Rattle.lnbd_copy.proofs.FailLemmas.{all_stand}
use Rattle.lnbd_copy.proofs.WindowLemmas.{and_left, and_right, both_true, or_cases}

-- What is passed is a position of the range.
pub passed_has : (grain : ℕ) (range : Option (ℕ × ℕ)) (told : List Extent) (p : ℕ) → passed_heard grain range told p ≡ true → has_position range p ≡ true
passed_has grain None told p none = none
passed_has grain (Some range) told p e = and_left (within range p) _ e

-- what is so by all of the calls is so by a front of them
so_now : (from : Place) (p : ℕ) (Is : List wire.Call → Type 0) (calls : List wire.Call) → Is calls → IsUnread (dealt_with from calls) p → WasSoFirst from p Is calls
so_now from p Is calls is unread = record { before = calls; after = []; are = sym (append-nil calls); so = is; unread = unread }

-- The extents that were asked for were answered.
pub range_was_passed : (way : Way) (size : ℕ) (planned : windows.Seen) (told : ℕ → Bool) (now : board.Seen) (calls : List wire.Call) (held : List (Held Ticket)) → way.size ≡ Some size → way.asked ≡ windows.wanted planned → planned.plan.end ≤ planned.at →
    ((p : ℕ) → IsPlannedOnce planned.plan.cells told 0 planned.plan.end p (way.slices ++ planned.plan.slices)) → now.mapped ≡ true → IsOn way now calls held → now.error ≡ None → way.from ≢ way.to →
    (grain p : ℕ) → passed_heard grain way.asked now.told p ≡ true → WasPassed way.extents grain way.from p calls
range_was_passed way size planned told now calls held settled asked ahead once mapped on well two grain p passed = go way.asked refl passed
  where
    alone : Stands way on.has now calls []
    alone = none_held way on.has now calls held on.seens on.at on.stands

    sized : Between way.from way.to (Some size) way.how on.has way.slices now calls []
    sized = subst (λ (o : Option ℕ). Between way.from way.to o way.how on.has way.slices now calls []) settled alone.between

    go : (o : Option (ℕ × ℕ)) → way.asked ≡ o → passed_heard grain o now.told p ≡ true → WasPassed way.extents grain way.from p calls
    go None is none = absurd (false≢true none)
    go (Some range) is here =
        let sides = (links_are_of_sides way.from way.to size way.how on.has way.slices now calls sized two).0 in
        let source = sides_are_of_source way.from way.to way.how on.has way.slices now calls sized.course sides in
        let inside = and_left (within range p) (said_in is_told range.0 now.told p || nat_lt p (range.0 + grain)) here in
        let starts : range.0 ≡ planned.at = wanted_starts planned range (sym asked ∙ is) in
        let low : range.0 ≤ p = leb-true range.0 p (and_left (nat_le range.0 p) _ inside) in
        let unread = unread_behind way size on.has now calls settled alone well two planned.plan.slices planned.plan.cells told planned.plan.end once p (omega (arith, starts, low, ahead)) in
        elim (or_cases (said_in is_told range.0 now.told p) (nat_lt p (range.0 + grain)) (and_right (within range p) (said_in is_told range.0 now.told p || nat_lt p (range.0 + grain)) here)) [
          | inl reaches ↦
              let stood = subst (λ (o : Option (ℕ × ℕ)). course.ToldCourse way.how on.has way.slices now calls on.seens o (known_of way)) is on.stands.told in
              inl (inl (so_now way.from p (WasTold way.from p) calls
              (heard_were_told way.from way.how on.has way.slices now calls on.seens range (known_of way) stood well mapped (all_stand held on.seens on.at) on.all sides.source source p
              (both_true (within range p) (said_in is_told range.0 now.told p) inside reaches)) unread))
          | inr near ↦
              let stood = subst (λ (o : Option (ℕ × ℕ)). course.ToldCourse way.how on.has way.slices now calls [] o (known_of way)) is alone.told in
              inl (inr (so_now way.from p (WasFirst grain way.from p) calls (heard_were_first way.from way.how on.has way.slices now calls range (known_of way) stood mapped source grain p inside (ltb-true p (range.0 + grain) near)) unread))
        ]

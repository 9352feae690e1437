-- What was heard of extents may be read, and in the end each read was so.
use Rattle.std.proofs.Common.{◌≡◌, ◌≢◌, ◌<◌, ◌≤◌, ◌-◌, inl, inr, ℕ, Bool, true, false, List, [], ◌∷◌, ◌++◌, Option, Some, None, nat_le, nat_lt, if◌then◌else◌, refl, ap, sym, subst, ◌∙◌, arith, leb-true}
use Rattle.std.proofs.lemmas.Bool.{cases_lt, false≢true}
use Rattle.std.proofs.lemmas.List.{append-nil}
use Rattle.lnbd_link.specs.Call as wire
use Rattle.lnbd_extents.specs.Positions.{within}
use Rattle.lnbd_handle.specs.Histories.{max_unretired}
use Rattle.lnbd_asked.specs.Transcript.{dealt_with}
use Rattle.lnbd_poll.specs.Held.{Held, AreAt}
use Rattle.lnbd_poll.specs.Seen as poll
use Rattle.lnbd_plan.specs.declared.cells.Cells.{Cells}
use Rattle.lnbd_plan.specs.declared.grid.Slice.{Slice}
use Rattle.lnbd_plan.specs.Laws.{IsPlannedOnce}
use Rattle.lnbd_board.specs.declared.ticket.Ticket.{Ticket}
use Rattle.lnbd_board.specs.Files as board
use Rattle.lnbd_board.specs.Carried.{IsUnread}
use Rattle.lnbd_course.specs.Answered.{WasAnsweredFirst}
use Rattle.lnbd_course.specs.Between.{Between}
use Rattle.lnbd_course.specs.Told as course
use Rattle.lnbd_course.proofs.Answering.{nothing_is_read_behind, ranges_were_answered}
use Rattle.lnbd_course.proofs.Holding.{take_drop}
use Rattle.lnbd_course.proofs.Placed.{links_are_of_sides}
use Rattle.lnbd_course.proofs.Telling.{sides_are_of_source}
use Rattle.lnbd_copy.specs.Heard.{IsHeardTo, has_position}
use Rattle.lnbd_conduct.specs.Answered.{MayBeRead, ReadsAreAnswered}
use Rattle.lnbd_copy.specs.Way.{IsOn, Stands, Way, known_of}
use Rattle.lnbd_copy.specs.Windows as windows
use Rattle.lnbd_copy.proofs.StepLemmas.{taking_stands}
use Rattle.lnbd_copy.proofs.WindowLemmas.{and_left}

-- With all handles taken out, what they did stands.
pub none_held : (way : Way) (has : ℕ → Bool) (now : board.Seen) (calls : List wire.Call) (held : List (Held Ticket)) (seens : List (poll.Seen Ticket)) → AreAt held seens → Stands way has now calls seens → Stands way has now calls []
none_held way has now calls held [] at s = s
none_held way has now calls [] (seen ∷ others) at s = absurd at
none_held way has now calls (one ∷ more) (seen ∷ others) at s =
    none_held way has now calls more others at.1
    (subst (λ (l : List (poll.Seen Ticket)). Stands way has now calls l) (sym (take_drop 0 (seen ∷ others))) (taking_stands way has now calls (seen ∷ others) 0 seen max_unretired one.handle s refl at.0.stands))

-- With no handle held.
module _ (way : Way) (size : ℕ) (has : ℕ → Bool) (now : board.Seen) (calls : List wire.Call) (settled : way.size ≡ Some size) (s : Stands way has now calls []) (well : now.error ≡ None) (two : way.from ≢ way.to) where
  sized : Between way.from way.to (Some size) way.how has way.slices now calls []
  sized = subst (λ (o : Option ℕ). Between way.from way.to o way.how has way.slices now calls []) settled s.between

  -- what is not planned yet is not read
  pub unread_behind : (rest : List Slice) (cells : Cells) (told : ℕ → Bool) (end : ℕ) → ((p : ℕ) → IsPlannedOnce cells told 0 end p (way.slices ++ rest)) → (p : ℕ) → end ≤ p → IsUnread (dealt_with way.from calls) p
  unread_behind rest cells told end planned p behind =
      nothing_is_read_behind way.from way.how has way.slices rest now calls cells told end sized.course well (links_are_of_sides way.from way.to size way.how has way.slices now calls sized two).0.source planned p behind

  -- and the range that was waited for was answered before it is read
  answered_first : (range : ℕ × ℕ) → way.asked ≡ Some range → now.mapped ≡ true → (p : ℕ) → within range p ≡ true → IsUnread (dealt_with way.from calls) p → WasAnsweredFirst way.from p calls
  answered_first range asked mapped p inside unread =
      let sides = (links_are_of_sides way.from way.to size way.how has way.slices now calls sized two).0 in
      let source = sides_are_of_source way.from way.to way.how has way.slices now calls sized.course sides in
      let told = subst (λ (o : Option (ℕ × ℕ)). course.ToldCourse way.how has way.slices now calls [] o (known_of way)) asked s.told in
      record {
        before = calls;
        after = [];
        are = sym (append-nil calls);
        answered = ranges_were_answered way.from way.how has way.slices now calls range (known_of way) told mapped source p inside;
        unread = unread;
      }

  -- Where what is planned was heard, and may be read, each read was so.
  pub reads_are_answered : (rest : List Slice) (cells : Cells) (told : ℕ → Bool) (end : ℕ) → ((p : ℕ) → IsPlannedOnce cells told 0 end p (way.slices ++ rest)) → ((p : ℕ) → p < end → MayBeRead way.extents way.from p calls) → ReadsAreAnswered way.extents way.from calls
  reads_are_answered rest cells told end planned may = record {
    each = λ link cookie command is p reads. elim (cases_lt p end) [
      | inl low ↦ may p low
      | inr high ↦ absurd (false≢true (sym (unread_behind rest cells told end planned p high link cookie command is) ∙ reads))
    ];
  }

-- asking begins where it is to go on
pub wanted_starts : (planned : windows.Seen) (range : ℕ × ℕ) → windows.wanted planned ≡ Some range → range.0 ≡ planned.at
wanted_starts planned range = elim (nat_lt planned.at (windows.window_end planned)) as (λ b. (if b then Some (planned.at, windows.window_end planned - planned.at) else None) ≡ Some range → range.0 ≡ planned.at) [
  | true ↦ λ e. sym (ap (λ (r : ℕ × ℕ). r.0) (some_same (planned.at, windows.window_end planned - planned.at) range e))
  | false ↦ λ e. absurd (none_some range e)
]
  where
    some_same : (one other : ℕ × ℕ) → Some one ≡ Some other → one ≡ other
    some_same one other e = cc

    none_some : (other : ℕ × ℕ) → None ≡ Some other → ⊥
    none_some other e = cc

-- The extents that were asked for were answered: their range may be read.
pub range_may_be_read : (way : Way) (size : ℕ) (planned : windows.Seen) (told : ℕ → Bool) (now : board.Seen) (calls : List wire.Call) (held : List (Held Ticket)) → way.size ≡ Some size → way.asked ≡ windows.wanted planned → IsHeardTo planned (way.heard planned.grain) →
    ((p : ℕ) → IsPlannedOnce planned.plan.cells told 0 planned.plan.end p (way.slices ++ planned.plan.slices)) → now.mapped ≡ true → (on : IsOn way now calls held) → now.error ≡ None → way.from ≢ way.to →
    (p : ℕ) → has_position way.asked p ≡ true → MayBeRead way.extents way.from p calls
range_may_be_read way size planned told now calls held settled asked heard once mapped on well two p inside = go way.asked refl inside
  where
    s : Stands way on.has now calls []
    s = none_held way on.has now calls held on.seens on.at on.stands

    go : (o : Option (ℕ × ℕ)) → way.asked ≡ o → has_position o p ≡ true → MayBeRead way.extents way.from p calls
    go None is none = absurd (false≢true none)
    go (Some range) is here =
        let starts : range.0 ≡ planned.at = wanted_starts planned range (sym asked ∙ is) in
        let low : range.0 ≤ p = leb-true range.0 p (and_left (nat_le range.0 p) _ here) in
        let end = heard.planned in
        inl (answered_first way size on.has now calls settled s well two range is mapped p here
        (unread_behind way size on.has now calls settled s well two planned.plan.slices planned.plan.cells told planned.plan.end once p (omega (arith, starts, low, end))))

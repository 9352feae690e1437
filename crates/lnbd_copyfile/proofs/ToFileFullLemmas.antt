-- Where a copy from an export to a file has nothing to do and nothing to write, as much is under way by its calls as may be.
use Rattle.std.proofs.Common.{◌≡◌, ◌⊎◌, inl, inr, ltb-true, ◌+◌, ◌-◌, ◌<◌, ◌≤◌, ℕ, Bool, true, false, nat_lt, List, [], ◌∷◌, ◌++◌, length, min}
use Rattle.std.proofs.Common.{Option, Some, None, is_some, if◌then◌else◌, refl, ap, sym, subst, ◌∙◌, arith}
use Rattle.std.proofs.lemmas.Bool.{cases_lt, false≢true}
use Rattle.lnbd_model.specs.declared.target.Place.{Place}
use Rattle.lnbd_link.specs.Call as wire
use Rattle.lnbd_handle.specs.Histories.{max_unretired}
use Rattle.lnbd_asked.specs.Transcript.{dealt_with}
use Rattle.lnbd_poll.specs.Held.{AreAt, Held, wants_now}
use Rattle.lnbd_poll.specs.Seen.{Seen}
use Rattle.lnbd_plan.specs.declared.cells.Cells.{Cells}
use Rattle.lnbd_plan.specs.declared.grid.Slice.{Slice}
use Rattle.lnbd_plan.specs.Laws.{windows_slices}
use Rattle.lnbd_board.specs.declared.how.How.{How}
use Rattle.lnbd_board.specs.declared.ticket.Ticket.{Ticket}
use Rattle.lnbd_board.specs.Files as board
use Rattle.lnbd_board.specs.Requests.{Request}
use Rattle.lnbd_tracks.specs.Laws.{moves_bytes}
use Rattle.lnbd_tracks.specs.Unanswered.{AreUnanswered}
use Rattle.lnbd_course.specs.Far.{Far, ToFile}
use Rattle.lnbd_course.specs.FarCourse.{FarCourse}
use Rattle.lnbd_course.specs.Reached.{WasTold}
use Rattle.lnbd_course.specs.Slices.{AsksExtentsOf}
use Rattle.lnbd_course.specs.Told.{Known}
use Rattle.lnbd_course.specs.UnderWay.{AllHeld}
use Rattle.lnbd_course.proofs.FarEnding.{known_was_told_far}
use Rattle.lnbd_course.proofs.FarKeeping.{taking_keeps_far}
use Rattle.lnbd_course.proofs.FarShowing.{quiet_counts_far}
use Rattle.lnbd_course.proofs.Holding.{take_drop}
use Rattle.lnbd_conduct.specs.Slices.{AreFullWindows, AsksForNone, IsUntold, cells_of, window}
use Rattle.lnbd_conduct.specs.Waiting.{NoneForWriting}
use Rattle.lnbd_copy.specs.Windows as windows
use Rattle.lnbd_copy.proofs.FailLemmas.{all_stand}
use Rattle.lnbd_copy.proofs.UnansweredLemmas.{none_writes}
use Rattle.lnbd_connections.specs.Way.{IsUnderWay, Way}
use Rattle.lnbd_copyfile.specs.Jobs as work
use Rattle.lnbd_copyfile.specs.ToFileFull.{ArePlannedSo, AsksForRest, IsFullTo}
use Rattle.lnbd_copyfile.specs.ToFileJob.{HasNothingToDo, IsJob, IsOver}
use Rattle.lnbd_copyfile.proofs.FarFullLemmas.{asks_range_far, ended_taken, none_asked_far, none_moves_far, quiet_taken, told_known_far}

-- With all handles taken out.
pub none_held : (far : Far) (at : Place) (size : Option ℕ) (how : How) (slices : List Slice) (now : board.Seen) (calls : List wire.Call) (held : List (Held Ticket)) (seens : List (Seen Ticket))
    (wanted : Option (ℕ × ℕ)) (known : Known) → AreAt held seens → FarCourse far at size how slices now calls seens wanted known → FarCourse far at size how slices now calls [] wanted known
none_held far at size how slices now calls held [] wanted known places b = b
none_held far at size how slices now calls [] (seen ∷ others) wanted known places b = absurd places
none_held far at size how slices now calls (one ∷ more) (seen ∷ others) wanted known places b =
    none_held far at size how slices now calls more others wanted known places.1
    (subst (λ (l : List (Seen Ticket)). FarCourse far at size how slices now calls l wanted known) (sym (take_drop 0 (seen ∷ others)))
    (taking_keeps_far far at size how slices now calls (seen ∷ others) wanted known 0 seen max_unretired one.handle b refl places.0.stands))

-- A range that is wanted.

wanted_is : (planned : windows.Seen) → is_some (windows.wanted planned) ≡ true → windows.wanted planned ≡ Some (planned.at, windows.window_end planned - planned.at)
wanted_is planned = elim (nat_lt planned.at (windows.window_end planned)) as (λ b. let range : Option (ℕ × ℕ) = if b then Some (planned.at, windows.window_end planned - planned.at) else None in
    is_some range ≡ true → range ≡ Some (planned.at, windows.window_end planned - planned.at)) [
      | true ↦ λ some. refl
      | false ↦ λ none. absurd (false≢true none)
    ]

wanted_below : (planned : windows.Seen) → is_some (windows.wanted planned) ≡ true → planned.at < windows.window_end planned
wanted_below planned some = ltb-true planned.at (windows.window_end planned) (is_less (nat_lt planned.at (windows.window_end planned)) some)
  where
    is_less : (b : Bool) → is_some {T = ℕ × ℕ} (if b then Some (planned.at, windows.window_end planned - planned.at) else None) ≡ true → b ≡ true
    is_less true some = refl
    is_less false some = absurd (false≢true some)

-- no more than the limit, and none left where it is fewer
pub least_of : (begun left limit : ℕ) → begun ≤ limit → (begun < limit → left ≡ 0) → begun ≡ min limit (begun + left)
least_of begun left limit most none = elim (cases_lt begun limit) [
  | inl less ↦ (let all = none less in omega (arith, less, all))
  | inr more ↦ omega (arith, more, most)
]

module _ (job : work.Seen) (way : Way) (now : board.Seen) (calls : List wire.Call) (held : List (Held Ticket)) (made : List Request) (is : IsJob job way now)
    (on : IsUnderWay (ToFile made) way now calls held) (well : now.error ≡ None) where
  alone : FarCourse (ToFile made) way.at (Some job.terms.size) way.how way.slices now calls [] way.asked way.known
  alone = subst (λ (o : Option ℕ). FarCourse (ToFile made) way.at o way.how way.slices now calls [] way.asked way.known) is.size
      (none_held (ToFile made) way.at way.size way.how way.slices now calls held on.seens way.asked way.known on.at on.stands)

  planned_so : ArePlannedSo job.windows.plan.end way.at job.terms.size (cells_of job.terms) (way.slices ++ job.windows.plan.slices) calls
  planned_so = record {
    parts = is.planned.parts;
    are = subst (λ (c : Cells). way.slices ++ job.windows.plan.slices ≡ windows_slices c 0 is.planned.parts) is.cells is.planned.are;
    ends = is.planned.end;
    within = let within = is.planned.within in let ends = is.ends in omega (arith, within, ends);
    whole = subst (λ (n : ℕ). AreFullWindows n 0 is.planned.parts) is.ends is.planned.whole;
    told = λ p zero. known_was_told_far (ToFile made) way.at (Some job.terms.size) way.how way.slices now calls way.asked way.known alone p (is.planned.told p zero);
  }

  -- Where no extents are waited for none are asked for.
  asks_none : way.asked ≡ None → AsksForNone way.at calls
  asks_none none = none_asked_far made way.at way.size way.how way.slices now calls on.seens way.asked way.known on.stands well (all_stand held on.seens on.at) none

  -- Once all slices are over nothing is under way, and nothing is left.
  pub full_over : IsOver job now → IsFullTo job.terms way.at calls
  full_over over =
      let none : length job.windows.plan.slices ≡ 0 = ap (λ (l : List Slice). length l) over.handed in
      let all = over.planned in
      let stands = all_stand held on.seens on.at in
      record {
        begun = way.slices;
        left = job.windows.plan.slices;
        end = job.windows.plan.end;
        planned = planned_so;
        unfinished = 0;
        are = ended_taken made way.at way.size way.how way.slices now calls on.seens way.asked way.known on.stands well stands over.rows;
        begins = omega (arith, none);
        requests = subst (λ (n : ℕ). AreUnanswered moves_bytes (dealt_with way.at calls) n) (omega (arith, none))
            (none_moves_far made way.at way.size way.how way.slices now calls on.seens way.asked way.known on.stands well stands over.rows);
        extents = λ less left. absurd (omega (arith, left, all));
        untold = λ left. absurd (omega (arith, left, all));
        asks = inr (asks_none (is.asked ∙ ap (λ (b : Bool). if b then windows.wanted job.windows else None) over.heard));
      }

  -- While slices are copied.
  module _ (nothing : HasNothingToDo job now) (most : length now.rows ≤ job.terms.limit) (quiet : NoneForWriting (wants_now held)) (all : AllHeld calls on.seens) where
    -- what is asked for was not told yet
    asked_untold : is_some way.asked ≡ true → now.mapped ≡ false
    asked_untold some = go job.asked refl
      where
        go : (b : Bool) → job.asked ≡ b → now.mapped ≡ false
        go true asked = nothing.untold asked
        go false none = absurd (false≢true (sym (ap (λ (o : Option (ℕ × ℕ)). is_some o) (is.asked ∙ ap (λ (b : Bool). if b then windows.wanted job.windows else None) none)) ∙ some))

    -- each position that was told of is known so
    told_reached : (p : ℕ) → WasTold way.at p calls → way.known.reach p ≡ true
    told_reached p told = told_known_far made way.at way.size way.how way.slices now calls on.seens way.asked way.known on.stands well (all_stand held on.seens on.at) all asked_untold p told

    window_untold : job.windows.plan.end < job.terms.size → IsUntold way.at (min (job.windows.plan.end + window) job.terms.size - 1) calls
    window_untold left told =
        let ends = is.ends in
        let p : ℕ = min (job.windows.plan.end + window) job.terms.size - 1 in
        let behind : job.windows.plan.end ≤ p = omega (arith, left) in
        let more : p + 1 < windows.window_end job.windows = is.reached.inside p (told_reached p told) behind in
        let same : windows.window_end job.windows ≡ min (job.windows.plan.end + window) job.terms.size = ap (λ (s : ℕ). min (job.windows.plan.end + window) s) ends in
        omega (arith, more, same, left)

    rest_untold : (p : ℕ) → job.windows.at + job.terms.grain ≤ p → IsUntold way.at p calls
    rest_untold p far told =
        let ahead = is.heard.planned in
        let grain = is.grain in
        let low = is.reached.near p (told_reached p told) (omega (arith, far, ahead)) in
        omega (arith, far, low, grain)

    -- extents are asked for of what is left of the window under way
    asks_rest : is_some (windows.wanted job.windows) ≡ true → job.asked ≡ true → AsksForRest job.windows.plan.end way.at job.terms.size job.terms.grain calls
    asks_rest some asked =
        let ends = is.ends in
        let range : ℕ × ℕ = (job.windows.at, windows.window_end job.windows - job.windows.at) in
        let wanted : way.asked ≡ Some range = is.asked ∙ ap (λ (b : Bool). if b then windows.wanted job.windows else None) asked ∙ wanted_is job.windows some in
        record {
          at = job.windows.at;
          ahead = is.heard.planned;
          inside = subst (λ (size : ℕ). job.windows.at < min (job.windows.plan.end + window) size) ends (wanted_below job.windows some);
          asks = subst (λ (size : ℕ). AsksExtentsOf (job.windows.at, min (job.windows.plan.end + window) size - job.windows.at) way.at calls) ends
              (asks_range_far made way.at way.size way.how way.slices now calls on.seens way.asked way.known on.stands well (all_stand held on.seens on.at)
              (none_writes held on.seens on.at quiet) all range wanted
              (nothing.untold asked));
          untold = rest_untold;
        }

    window_left : is_some (windows.wanted job.windows) ≡ true → job.windows.plan.end < job.terms.size
    window_left some =
        let ends = is.ends in
        let ahead = is.heard.planned in
        let below = wanted_below job.windows some in
        omega (arith, ends, ahead, below)

    -- where fewer slices are planned than may be under way, and windows are left, extents are asked for
    asked_so : length now.rows + length job.windows.plan.slices < job.terms.limit → is_some (windows.wanted job.windows) ≡ true → (b : Bool) → job.asked ≡ b → job.asked ≡ true
    asked_so less some true asked = asked
    asked_so less some false none = absurd (nothing.asked (record { unasked = none; wanted = some; few = inr less }))

    asks_one : (b w : Bool) → job.asked ≡ b → is_some (windows.wanted job.windows) ≡ w →
        ((job.windows.plan.end < job.terms.size) × AsksForRest job.windows.plan.end way.at job.terms.size job.terms.grain calls) ⊎ AsksForNone way.at calls
    asks_one false w none wanted = inr (asks_none (is.asked ∙ ap (λ (b : Bool). if b then windows.wanted job.windows else None) none))
    asks_one true true asked some = inl (window_left some, asks_rest some asked)
    asks_one true false asked none = inr (asks_none (is.asked ∙ ap (λ (b : Bool). if b then windows.wanted job.windows else None) asked ∙ unwanted (windows.wanted job.windows) none))
      where
        unwanted : (o : Option (ℕ × ℕ)) → is_some o ≡ false → o ≡ None
        unwanted None e = refl
        unwanted (Some range) e = absurd (false≢true (sym e))

    begins : length now.rows ≡ min job.terms.limit (length now.rows + length job.windows.plan.slices)
    begins = least_of (length now.rows) (length job.windows.plan.slices) job.terms.limit most nothing.begun

    pub full_copying : IsFullTo job.terms way.at calls
    full_copying =
        let stands = all_stand held on.seens on.at in
        let unwritten = none_writes held on.seens on.at quiet in
        record {
          begun = way.slices;
          left = job.windows.plan.slices;
          end = job.windows.plan.end;
          planned = planned_so;
          unfinished = length now.rows;
          are = quiet_taken made way.at way.size way.how way.slices now calls on.seens way.asked way.known on.stands well stands unwritten all nothing.requests;
          begins = begins;
          requests = subst (λ (n : ℕ). AreUnanswered moves_bytes (dealt_with way.at calls) n) (nothing.requests ∙ begins)
              (quiet_counts_far (ToFile made) way.at way.size way.how way.slices now calls on.seens way.asked way.known on.stands well stands unwritten all);
          extents = λ less left.
              let ends = is.ends in
              let some = nothing.wanted (omega (arith, left, ends)) in
              asks_rest some (asked_so less some job.asked refl);
          untold = window_untold;
          asks = asks_one job.asked (is_some (windows.wanted job.windows)) refl refl;
        }

-- An error that a board has after a turn is that of a command which the calls show.
use Rattle.std.proofs.Common.{◌≡◌, ◌≢◌, ◌⊎◌, inl, inr, ℕ, suc, Bool, true, false, not, List, [], ◌∷◌, ◌++◌, Option, Some, None, slice_get, refl, ap, sym, subst, ◌∙◌, ◌==◌, nat_le, if◌then◌else◌}
use Rattle.std.proofs.lemmas.Bool.{cases_eq, ne_eqb}
use Rattle.std.specs.Option.{option_map}
use Rattle.lnbd_model.specs.declared.errors.TheConstants.{EPROTO, ENOTCONN}
use Rattle.lnbd_model.specs.declared.failure.Failure.{Failure}
use Rattle.lnbd_model.specs.declared.failure.Origin.TheVariants as from_
use Rattle.lnbd_model.specs.declared.target.Place.{Place}
use Rattle.lnbd_outcome.specs.Outcome.{Unfinished, failure_of}
use Rattle.lnbd_handle.specs.Histories.{Plays}
use Rattle.lnbd_link.specs.Call as wire
use Rattle.lnbd_history.specs.Commands.{Request}
use Rattle.lnbd_history.specs.Events.{Event, History}
use Rattle.lnbd_history.specs.History.{request}
use Rattle.lnbd_asked.specs.Driven.{DrivenSays, outcome_after, written}
use Rattle.lnbd_asked.specs.Exports.{DrivenIsOf}
use Rattle.lnbd_asked.specs.Transcript.{answered, asked_on, bare, is_of, on_link, only_if}
use Rattle.lnbd_poll.specs.Alone.{AreApart}
use Rattle.lnbd_poll.specs.Seen.{Seen}
use Rattle.lnbd_poll.specs.Turns.{Whole}
use Rattle.lnbd_drives.proofs.Exports.{handles_are_of}
use Rattle.lnbd_drives.proofs.Saying.{driven_said}
use Rattle.lnbd_plan.specs.declared.grid.Slice.{Slice}
use Rattle.lnbd_board.specs.declared.how.How.{How}
use Rattle.lnbd_board.specs.declared.ticket.Ticket.{Ticket}
use Rattle.lnbd_board.specs.Files as board
use Rattle.lnbd_tracks.specs.Failing.{CameTo, ToldBy, failure_by}
use Rattle.lnbd_tracks.specs.Laws.{is_coming}
use Rattle.lnbd_tracks.specs.Tracks.{Adds, Happens, Histories, is_issue}
use Rattle.lnbd_tracks.proofs.Failing.{destination_fails, failures_stay, source_fails}
use Rattle.lnbd_tracks.proofs.Written.{answered_is_written}
use Rattle.lnbd_course.specs.Between.{AreSettled, Between, BetweenOf, place_of}
use Rattle.lnbd_course.specs.Course.{CourseOf, Stood, beside, on_side}
use Rattle.lnbd_course.specs.Failed.{AllStand, Fails, HasHandle, SideFails, TurnsFail}
use Rattle.lnbd_course.proofs.Holding.{one_has, turned_keeps}
use Rattle.lnbd_course.proofs.Placed.{is_of_its_side, one_written, was_given}
use Rattle.lnbd_course.proofs.Placing.{step_keeps, step_on, turned_between}
use Rattle.lnbd_course.proofs.Standing.{event_stood, on_here, quiet_stood, side_happens}
use Rattle.lnbd_course.proofs.Turning.{steps, turns_all}

none_some : {A : Type 0} (one : A) → None ≡ Some one → ⊥
none_some one e = cc

-- One event.

-- what a command of one side came to, one of all came to
on_all : (has : ℕ → Bool) (histories : Histories) (why : Failure) → CameTo why (on_side has histories) → CameTo why histories
on_all has histories why c = go (has c.link) refl
  where
    unasked : (h : History Ticket) → h ≡ [] → request h c.cookie ≡ Some c.asks → ⊥
    unasked h none e = none_some c.asks (sym (ap (λ (x : History Ticket). request x c.cookie) none) ∙ e)

    go : (b : Bool) → has c.link ≡ b → CameTo why histories
    go true is = record {
      link = c.link;
      cookie = c.cookie;
      asks = c.asks;
      asked = sym (ap (λ (h : History Ticket). request h c.cookie) (on_here has histories c.link is)) ∙ c.asked;
      came = sym (ap (λ (h : History Ticket). failure_of (outcome_after h c.cookie)) (on_here has histories c.link is)) ∙ c.came;
    }
    go false is = absurd (unasked (on_side has histories c.link) (ap (λ (b : Bool). let none : History Ticket = [] in if b then histories c.link else none) is) c.asked)

-- of facts of the board and of all histories, and what an error of the board is
pub record Blamed (Facts : board.Seen → Histories → Type 0) (now : board.Seen) (histories : Histories) : Type 0 where
  pub stood : Facts now histories
  pub fails : (error : ℕ) → now.error ≡ Some error → CameTo (failure_by error) histories

module _ (Facts : board.Seen → Histories → Type 0) (link : ℕ) (event : Event Ticket) (before after : Histories) (happens : Happens link event before after) where
  -- It stands after an event with which the facts do, and an error that the board then has is one that a command came to.
  pub blamed_after : (now now' : board.Seen) → Blamed Facts now before → ToldBy after now now' → Facts now' after → Blamed Facts now' after
  blamed_after now now' b told stood = record { stood = stood; fails = fails }
    where
      fails : (error : ℕ) → now'.error ≡ Some error → CameTo (failure_by error) after
      fails error e = elim (told error e) [
        | inl was ↦ failures_stay (failure_by error) link event before after happens (b.fails error was)
        | inr came ↦ came
      ]

  pub blamed_quiet : (now : board.Seen) → Blamed Facts now before → Facts now after → Blamed Facts now after
  blamed_quiet now b stood = record { stood = stood; fails = λ error e. failures_stay (failure_by error) link event before after happens (b.fails error e) }

module _ (how : How) (has : ℕ → Bool) (slices : List Slice) where
  module _ (link : ℕ) (event : Event Ticket) (before after : Histories) (happens : Happens link event before after) where
    event_told : (now now' : board.Seen) → Stood how has slices now before → is_issue event ≡ false → Plays steps event (before link) now now' → ToldBy after now now'
    event_told now now' s other plays error e = go (has link) refl
      where
        lifted : (side : ℕ → Bool) → (now.error ≡ Some error) ⊎ CameTo (failure_by error) (on_side side after) → (now.error ≡ Some error) ⊎ CameTo (failure_by error) after
        lifted side (inl was) = inl was
        lifted side (inr came) = inr (on_all side after (failure_by error) came)

        go : (b : Bool) → has link ≡ b → (now.error ≡ Some error) ⊎ CameTo (failure_by error) after
        go true is =
            lifted has (source_fails how slices link event (on_side has before) (on_side has after) (on_side (beside has) before) plays.calls now now' s.source s.destination s.reads s.changes s.stands other
            (side_happens link event before after happens has is) (subst (λ h. Adds event h plays.calls) (sym (on_here has before link is)) plays.told) plays.world error e)
        go false is =
            lifted (beside has) (destination_fails how slices link event (on_side has before) (on_side (beside has) before) (on_side (beside has) after) plays.calls now now' s.source s.destination s.reads s.changes s.stands other
            (side_happens link event before after happens (beside has) (ap not is)) (subst (λ h. Adds event h plays.calls) (sym (on_here (beside has) before link (ap not is))) plays.told) plays.world error e)

    event_blamed : (now now' : board.Seen) → Blamed (Stood how has slices) now before → is_issue event ≡ false → Plays steps event (before link) now now' → Blamed (Stood how has slices) now' after
    event_blamed now now' b other plays =
        blamed_after (Stood how has slices) link event before after happens now now' b (event_told now now' b.stood other plays)
        (event_stood how has slices link event before after happens now now' b.stood other plays)

    quiet_blamed : (now : board.Seen) → Blamed (Stood how has slices) now before → is_issue event ≡ false → is_coming event ≡ false → Blamed (Stood how has slices) now after
    quiet_blamed now b other none = blamed_quiet (Stood how has slices) link event before after happens now b (quiet_stood how has slices link event before after happens now b.stood other none)

-- What a link says.

-- a handle with this link is among them
pub record IsThere (link : ℕ) (seens : List (Seen Ticket)) : Type 0 where
  pub index : ℕ
  pub seen : Seen Ticket
  pub there : slice_get seens index ≡ Some seen
  pub same : seen.link ≡ link
  pub stands : HasHandle seen.history

pub there_or_apart : (link : ℕ) (seens : List (Seen Ticket)) → AllStand seens → IsThere link seens ⊎ AreApart link seens
there_or_apart link [] stands = inr tt
there_or_apart link (seen ∷ others) stands = go (cases_eq seen.link link) (there_or_apart link others stands.1)
  where
    go : (seen.link ≡ link) ⊎ (seen.link ≡ link → ⊥) → IsThere link others ⊎ AreApart link others → IsThere link (seen ∷ others) ⊎ AreApart link (seen ∷ others)
    go (inl same) rest = inl (record { index = 0; seen = seen; there = refl; same = same; stands = stands.0 })
    go (inr differ) (inl t) = inl (record { index = suc t.index; seen = t.seen; there = t.there; same = t.same; stands = t.stands })
    go (inr differ) (inr apart) = inr (differ, apart)

-- Each link says what its handle's history says, or that of the handle that it had.
pub course_says : (Facts : board.Seen → Histories → Type 0) (now : board.Seen) (calls : List wire.Call) (seens : List (Seen Ticket)) (course : CourseOf Facts now calls seens) → AllStand seens →
    (link : ℕ) → DrivenSays (course.histories link) (on_link link calls)
course_says Facts now calls seens course stands link = elim (there_or_apart link seens stands) [
  | inl t ↦
      subst (λ (n : ℕ). DrivenSays (course.histories n) (on_link n calls)) t.same
      (subst (λ (h : History Ticket). DrivenSays h (on_link t.seen.link calls)) (sym (one_has t.index t.seen course.histories seens t.there course.held))
      (driven_said t.stands.limit calls seens t.index t.seen t.stands.handle course.drive t.there t.stands.stands))
  | inr apart ↦ course.parted link apart
]

module _ (Facts : board.Seen → Histories → Type 0) (Sizes : List wire.Call → Histories → Type 0) (from to : Place) (has : ℕ → Bool) (now : board.Seen) (calls : List wire.Call)
    (seens : List (Seen Ticket)) (b : BetweenOf Facts Sizes from to has now calls seens) (stands : AllStand seens) where
  abbrev histories : Histories
  histories = b.course.histories

  pub each_says : (link : ℕ) → DrivenSays (histories link) (on_link link calls)
  each_says = course_says Facts now calls seens b.course stands

  -- and tells whose export it is.
  pub each_is_of : (link : ℕ) → DrivenIsOf (histories link) (on_link link calls)
  each_is_of link = elim (there_or_apart link seens stands) [
    | inl t ↦
        subst (λ (n : ℕ). DrivenIsOf (histories n) (on_link n calls)) t.same
        (subst (λ (h : History Ticket). DrivenIsOf h (on_link t.seen.link calls)) (sym (one_has t.index t.seen histories seens t.there b.course.held))
        (handles_are_of t.stands.limit calls seens t.index t.seen t.stands.handle b.course.drive t.there t.stands.stands))
    | inr apart ↦ b.parted link apart
  ]

  -- A link on which a command was wholly written is of its side's export.
  pub written_here : (link cookie : ℕ) (asks : Request Ticket) → request (histories link) cookie ≡ Some asks → nat_le cookie (written (histories link)) ≡ true →
      is_of (place_of from to (has link)) calls link ≡ true
  written_here link cookie asks is gone =
      is_of_its_side Facts Sizes from to has now calls seens b link (was_given Facts Sizes from to has now calls seens b link cookie asks is)
      ((each_is_of link).asked (one_written (histories link) cookie asks is gone)).0

  -- What a command came to, but that its connection was lost, the calls show.
  pub link_fails : (why : Failure) → why.origin ≢ from_.Lost → (c : CameTo why histories) → Fails (place_of from to (has c.link)) why calls
  link_fails why answered_ c = record { link = c.link; cookie = c.cookie; command = bare c.asks; asked = asked; came = came }
    where
      out : nat_le c.cookie (written (histories c.link)) ≡ true
      out = answered_is_written (histories c.link) c.cookie why c.came answered_

      here : is_of (place_of from to (has c.link)) calls c.link ≡ true
      here = written_here c.link c.cookie c.asks c.asked out

      asked : only_if (is_of (place_of from to (has c.link)) calls c.link) (asked_on (on_link c.link calls) c.cookie) ≡ Some (bare c.asks)
      asked =
          ap (λ (t : Bool). only_if t (asked_on (on_link c.link calls) c.cookie)) here
          ∙ (each_says c.link).requests c.cookie
          ∙ ap (λ (t : Bool). if t then option_map bare (request (histories c.link) c.cookie) else None) out
          ∙ ap (λ (a : Option (Request Ticket)). option_map bare a) c.asked

      came : failure_of (if is_of (place_of from to (has c.link)) calls c.link then answered (on_link c.link calls) c.cookie else Unfinished) ≡ Some why
      came = ap (λ (t : Bool). failure_of (if t then answered (on_link c.link calls) c.cookie else Unfinished)) here ∙ ap failure_of ((each_says c.link).outcomes c.cookie out) ∙ c.came

-- So it is of two exports.
module _ (from to : Place) (size : Option ℕ) (how : How) (has : ℕ → Bool) (slices : List Slice) (now : board.Seen) (calls : List wire.Call) (seens : List (Seen Ticket))
    (b : Between from to size how has slices now calls seens) (stands : AllStand seens) where
  pub says : (link : ℕ) → DrivenSays (b.course.histories link) (on_link link calls)
  says = course_says (Stood how has slices) now calls seens b.course stands

  pub of : (link : ℕ) → DrivenIsOf (b.course.histories link) (on_link link calls)
  of = each_is_of (Stood how has slices) (λ calls histories. AreSettled size calls has histories) from to has now calls seens b stands

  side_fails : (why : Failure) → why.origin ≢ from_.Lost → CameTo why b.course.histories → SideFails from to why calls
  side_fails why answered_ c = record {
    source = has c.link;
    fails = link_fails (Stood how has slices)
        (λ calls histories. AreSettled size calls has histories) from to has now calls seens b stands why answered_ c;
  }

-- Turns.

pub not_lost : (error : ℕ) → error ≢ ENOTCONN → (failure_by error).origin ≢ from_.Lost
not_lost error other = go (error == EPROTO)
  where
    go : (b : Bool) → (if b then from_.Content else if error == ENOTCONN then from_.Lost else from_.Told) ≢ from_.Lost
    go true e = absurd (cc)
    go false e = let told : from_.Told ≡ from_.Lost = sym (ap (λ (b : Bool). if b then from_.Lost else from_.Told) (ne_eqb error ENOTCONN other)) ∙ e in absurd (cc)

pub turns_fail : TurnsFail
unfolding turned_between step_keeps step_on turned_keeps
turns_fail from to size how has slices now now' calls part before after moved error b well turns stands e other =
    let S : board.Seen → Histories → Type 0 = Blamed (Stood how has slices) in
    let u = turns_all S (event_blamed how has slices) (quiet_blamed how has slices) before now part after now' (Whole moved) b.course.histories turns b.course.drive.own b.course.held
    (record { stood = b.course.stood; fails = λ code is. absurd (none_some code (sym well ∙ is)) }) in
    side_fails from to size how has slices now' (calls ++ part) after (turned_between from to size how has slices now now' calls part before after moved b turns S u (λ histories s. s.stood)) stands
    (failure_by error) (not_lost error other) (u.stood.fails error e)

-- What the calls show of a command that failed, its handle's history says; and where the board was told of no error, none does. Faulty content it was told.
use Rattle.std.proofs.Common.{◌≡◌, ℕ, Bool, true, false, List, ◌++◌, Option, Some, None, refl, ap, sym, ◌∙◌, nat_le, if◌then◌else◌}
use Rattle.std.specs.Option.{option_map}
use Rattle.lnbd_model.specs.declared.errors.TheConstants.{EPROTO}
use Rattle.lnbd_model.specs.declared.failure.Failure.{Failure}
use Rattle.lnbd_model.specs.declared.target.Place.{Place}
use Rattle.lnbd_outcome.specs.Outcome.{Unfinished, failure_of}
use Rattle.lnbd_handle.specs.Histories.{Plays}
use Rattle.lnbd_link.specs.Call as wire
use Rattle.lnbd_history.specs.Commands.{Request}
use Rattle.lnbd_history.specs.Events.{Event}
use Rattle.lnbd_history.specs.History.{reading, request}
use Rattle.lnbd_asked.specs.Driven.{DrivenSays, written}
use Rattle.lnbd_asked.specs.Transcript.{answered, asked_on, bare, is_of, on_link, only_if}
use Rattle.lnbd_poll.specs.Seen.{Seen}
use Rattle.lnbd_poll.specs.Turns.{Whole}
use Rattle.lnbd_plan.specs.declared.grid.Slice.{Slice}
use Rattle.lnbd_board.specs.declared.how.How.{How}
use Rattle.lnbd_board.specs.declared.ticket.Ticket.{Ticket}
use Rattle.lnbd_board.specs.Files as board
use Rattle.lnbd_tracks.specs.Failing.{CameTo, failure_by}
use Rattle.lnbd_tracks.specs.Laws.{is_coming}
use Rattle.lnbd_tracks.specs.Tracks.{NoneFails, Happens, Histories, is_issue}
use Rattle.lnbd_tracks.specs.Unfailed.{TellsContent}
use Rattle.lnbd_tracks.proofs.Content.{coming_tells_content, others_tell_content}
use Rattle.lnbd_course.specs.Between.{place_of}
use Rattle.lnbd_course.specs.Course.{CourseOf, Stood}
use Rattle.lnbd_course.specs.Failed.{AllStand, Fails}
use Rattle.lnbd_course.specs.Unfailed.{TurnsTellContent, UnfailedShows}
use Rattle.lnbd_course.proofs.Failing.{course_says}
use Rattle.lnbd_course.proofs.Holding.{turned_keeps}
use Rattle.lnbd_course.proofs.Standing.{event_stood, quiet_stood}
use Rattle.lnbd_course.proofs.Telling.{none_fails}
use Rattle.lnbd_course.proofs.Turning.{steps, turns_all}

none_some : {A : Type 0} (one : A) → None ≡ Some one → ⊥
none_some one e = cc

module _ (Facts : board.Seen → Histories → Type 0) (now : board.Seen) (calls : List wire.Call) (seens : List (Seen Ticket)) (course : CourseOf Facts now calls seens) (stands : AllStand seens) where
  says : (link : ℕ) → DrivenSays (course.histories link) (on_link link calls)
  says = course_says Facts now calls seens course stands

  -- What the calls show of a command that failed, its handle's history says.
  pub came_to : (place : Place) (why : Failure) → Fails place why calls → CameTo why course.histories
  came_to place why f = on (is_of place calls f.link) f.asked f.came
    where
      asked_by : nat_le f.cookie (written (course.histories f.link)) ≡ true → failure_of (answered (on_link f.link calls) f.cookie) ≡ Some why →
          (o : Option (Request Ticket)) → request (course.histories f.link) f.cookie ≡ o → option_map bare o ≡ Some f.command → CameTo why course.histories
      asked_by out came None is e = absurd (none_some f.command e)
      asked_by out came (Some asks) is e = record { link = f.link; cookie = f.cookie; asks = asks; asked = is; came = ap failure_of (sym ((says f.link).outcomes f.cookie out)) ∙ came }

      whole : failure_of (answered (on_link f.link calls) f.cookie) ≡ Some why → (gone : Bool) → nat_le f.cookie (written (course.histories f.link)) ≡ gone →
          (if gone then option_map bare (request (course.histories f.link) f.cookie) else None) ≡ Some f.command → CameTo why course.histories
      whole came true gone e = asked_by gone came (request (course.histories f.link) f.cookie) refl e
      whole came false gone e = absurd (none_some f.command e)

      on : (ours : Bool) → only_if ours (asked_on (on_link f.link calls) f.cookie) ≡ Some f.command → failure_of (if ours then answered (on_link f.link calls) f.cookie else Unfinished) ≡ Some why → CameTo why course.histories
      on true asked came = whole came (nat_le f.cookie (written (course.histories f.link))) refl (sym ((says f.link).requests f.cookie) ∙ asked)
      on false asked came = absurd (none_some f.command asked)

pub unfailed_shows : UnfailedShows
unfailed_shows from to how has slices now calls seens wanted known t stands none why fails =
    t.unfailed.on none why (came_to (Stood how has slices) now calls seens t.course stands (place_of from to fails.source) why fails.fails)

-- A turn.

-- Facts of the board and of all histories, and that the board tells of faulty content.
pub record Telling (Facts : board.Seen → Histories → Type 0) (now : board.Seen) (histories : Histories) : Type 0 where
  pub stood : Facts now histories
  pub content : TellsContent histories now

module _ (Facts : board.Seen → Histories → Type 0) (link : ℕ) (event : Event Ticket) (before after : Histories) (happens : Happens link event before after) where
  pub telling_after : (now now' : board.Seen) → Telling Facts now before → NoneFails (reading (before link)).known.entries → is_issue event ≡ false → Plays steps event (before link) now now' →
      Facts now' after → Telling Facts now' after
  telling_after now now' t well other plays stood = record {
    stood = stood;
    content = coming_tells_content link event before after plays.calls now now' t.content well other happens plays.told
        plays.world;
  }

  pub telling_quiet : (now : board.Seen) → Telling Facts now before → is_coming event ≡ false → Facts now after → Telling Facts now after
  telling_quiet now t none stood = record { stood = stood; content = others_tell_content link event before after now now t.content none happens (λ e. e) }

module _ (how : How) (has : ℕ → Bool) (slices : List Slice) (link : ℕ) (event : Event Ticket) (before after : Histories) (happens : Happens link event before after) where
  event_telling : (now now' : board.Seen) → Telling (Stood how has slices) now before → is_issue event ≡ false → Plays steps event (before link) now now' → Telling (Stood how has slices) now' after
  event_telling now now' t other plays =
      telling_after (Stood how has slices) link event before after happens now now' t (none_fails how has slices now before link t.stood) other plays
      (event_stood how has slices link event before after happens now now' t.stood other plays)

  quiet_telling : (now : board.Seen) → Telling (Stood how has slices) now before → is_issue event ≡ false → is_coming event ≡ false → Telling (Stood how has slices) now after
  quiet_telling now t other none = telling_quiet (Stood how has slices) link event before after happens now t none (quiet_stood how has slices link event before after happens now t.stood other none)

pub turns_tell_content : TurnsTellContent
unfolding turned_keeps
turns_tell_content from to how has slices now now' calls part before after wanted known moved t well turns stands fails =
    let S : board.Seen → Histories → Type 0 = Telling (Stood how has slices) in
    let u = turns_all S (event_telling how has slices) (quiet_telling how has slices) before now part after now' (Whole moved) t.course.histories turns t.course.drive.own t.course.held
    (record { stood = t.course.stood; content = record { on = λ came. absurd (t.unfailed.on well (failure_by EPROTO) came) } }) in
    u.stood.content.on
    (came_to (Stood how has slices) now' (calls ++ part) after (turned_keeps how has slices now now' calls part before after moved t.course turns S u (λ histories s. s.stood)) stands
    (place_of from to fails.source) (failure_by EPROTO) fails.fails)

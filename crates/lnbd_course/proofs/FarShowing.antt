-- What the calls of a copy to a file, or from one, show of the commands of its handles.
use Rattle.std.proofs.Common.{◌≡◌, ℕ, false, List, ◌++◌, Option, Some, None, sym, subst, ◌∙◌, arith}
use Rattle.lnbd_handle.specs.Histories.{Plays}
use Rattle.lnbd_history.specs.Events.{Event}
use Rattle.lnbd_asked.specs.Transcript.{dealt_with}
use Rattle.lnbd_poll.specs.Turns.{Whole}
use Rattle.lnbd_plan.specs.declared.grid.Slice.{Slice}
use Rattle.lnbd_board.specs.declared.how.How.{How}
use Rattle.lnbd_board.specs.declared.ticket.Ticket.{Ticket}
use Rattle.lnbd_board.specs.Files as board
use Rattle.lnbd_board.specs.Requests.{Request, unanswered}
use Rattle.lnbd_board.specs.Rows.{AsksOfDestination, AsksOfSource, Stands, busy}
use Rattle.lnbd_board.specs.Requests as sides
use Rattle.lnbd_model.specs.declared.errors.TheConstants.{EPROTO}
use Rattle.lnbd_tracks.specs.Failing.{ToldBy, failure_by}
use Rattle.lnbd_tracks.specs.Laws.{is_coming, moves_bytes}
use Rattle.lnbd_tracks.specs.Tracks.{Happens, Histories, is_issue}
use Rattle.lnbd_tracks.proofs.Failing.{destination_alone_fails, source_alone_fails}
use Rattle.lnbd_tracks.specs.Unanswered.{AreUnanswered, AreWaitingOn, unanswered_of}
use Rattle.lnbd_tracks.proofs.Unanswered.{tracked_are_unanswered}
use Rattle.lnbd_course.specs.Far.{Far, FarStood, FromFile, ToFile, AreNumbered, destination_of, done_by, source_of}
use Rattle.lnbd_course.specs.FarCourse.{IsSettled, every}
use Rattle.lnbd_course.specs.FarShows.{QuietCountsFar, TurnsFailFar, TurnsTellContentFar, UnfailedShowsFar}
use Rattle.lnbd_course.specs.Told.{Known, Knows}
use Rattle.lnbd_course.proofs.Failing.{Blamed, blamed_after, blamed_quiet, course_says, link_fails, not_lost, written_here}
use Rattle.lnbd_course.proofs.FarKeeping.{Facts, facts_coming, facts_quiet, turned_far}
use Rattle.lnbd_course.proofs.FarStanding.{far_none_fails, numbered_answered}
use Rattle.lnbd_course.proofs.Placing.{step_on}
use Rattle.lnbd_course.proofs.Turning.{steps, turns_all}
use Rattle.lnbd_course.proofs.UnderWay.{destination_moves, each_so, same_count, source_moves, waiting_out}
use Rattle.lnbd_course.proofs.Unfailed.{Telling, came_to, telling_after, telling_quiet}

none_some : {A : Type 0} (one : A) → None ≡ Some one → ⊥
none_some one e = cc

pub unfailed_shows_far : UnfailedShowsFar
unfailed_shows_far far at size how slices now calls seens wanted known b stands none why fails =
    b.course.stood.unfailed.on none why (came_to (Knows (FarStood far how slices) every wanted known) now calls seens b.course stands at why fails)

-- all that waits is the export's
waiting_count : (far : Far) (how : How) (slices : List Slice) (now : board.Seen) (asked : List Request) → AreNumbered 0 (done_by far)
    → Stands how slices now.rows (source_of far asked) (destination_of far asked) →
    unanswered_of moves_bytes asked ≡ busy now.rows
waiting_count (FromFile done) how slices now asked numbered stands =
    let none = numbered_answered 0 done numbered in
    let same = same_count asked (each_so (λ (r : Request). AsksOfDestination how slices r.ticket r.said.command) (λ (r : Request). moves_bytes r.said.command.kind ≡ sides.is_slice r.ticket)
    (λ r asks. destination_moves how slices r.ticket r.said.command asks) asked stands.changes) in
    let all = stands.counted in
    omega (arith, none, same, all)
waiting_count (ToFile done) how slices now asked numbered stands =
    let none = numbered_answered 0 done numbered in
    let same = same_count asked (each_so (λ (r : Request). AsksOfSource slices r.ticket r.said.command) (λ (r : Request). moves_bytes r.said.command.kind ≡ sides.is_slice r.ticket)
    (λ r asks. source_moves slices r.ticket r.said.command asks) asked stands.reads) in
    let all = stands.counted in
    omega (arith, none, same, all)

pub quiet_counts_far : QuietCountsFar
quiet_counts_far far at size how slices now calls seens wanted known b well stands none all =
    let F : board.Seen → Histories → Type 0 = Knows (FarStood far how slices) every wanted known in
    let s = b.course.stood.stood in
    let on : AreWaitingOn at calls b.course.histories = record {
      says = λ link here. course_says F now calls seens b.course stands link;
      asked = written_here F (IsSettled size) at at every now calls seens b stands;
      out = waiting_out F (IsSettled size) at at every now calls seens b stands none all;
    } in
    subst (λ (n : ℕ). AreUnanswered moves_bytes (dealt_with at calls) n) (waiting_count far how slices now s.asked s.numbered (s.stands well))
    (tracked_are_unanswered moves_bytes at calls b.course.histories s.asked s.tracked on)

-- Turns.

far_told : (far : Far) (how : How) (slices : List Slice) (link : ℕ) (event : Event Ticket) (before after : Histories) → Happens link event before after → (now now' : board.Seen) →
    FarStood far how slices now before → is_issue event ≡ false → Plays steps event (before link) now now' → ToldBy after now now'
far_told (FromFile done) how slices link event before after happens now now' s other plays =
    destination_alone_fails how slices link event before after plays.calls now now' done s.asked s.tracked s.stands other happens plays.told plays.world
far_told (ToFile done) how slices link event before after happens now now' s other plays =
    source_alone_fails how slices link event before after plays.calls now now' s.asked done s.tracked s.stands other happens plays.told plays.world

module _ (far : Far) (how : How) (slices : List Slice) (wanted : Option (ℕ × ℕ)) (known : Known) (link : ℕ) (event : Event Ticket) (before after : Histories)
    (happens : Happens link event before after) where
  abbrev F : board.Seen → Histories → Type 0
  F = Facts far how slices wanted known

  event_blamed : (now now' : board.Seen) → Blamed F now before → is_issue event ≡ false → Plays steps event (before link) now now' → Blamed F now' after
  event_blamed now now' b other plays =
      blamed_after F link event before after happens now now' b (far_told far how slices link event before after happens now now' b.stood.stood other plays)
      (facts_coming far how slices wanted known link event before after happens now now' b.stood other plays)

  quiet_blamed : (now : board.Seen) → Blamed F now before → is_issue event ≡ false → is_coming event ≡ false → Blamed F now after
  quiet_blamed now b other none = blamed_quiet F link event before after happens now b (facts_quiet far how slices wanted known link event before after happens now b.stood other none)

  event_telling : (now now' : board.Seen) → Telling F now before → is_issue event ≡ false → Plays steps event (before link) now now' → Telling F now' after
  event_telling now now' t other plays =
      telling_after F link event before after happens now now' t (far_none_fails far how slices now before link t.stood.stood) other plays
      (facts_coming far how slices wanted known link event before after happens now now' t.stood other plays)

  quiet_telling : (now : board.Seen) → Telling F now before → is_issue event ≡ false → is_coming event ≡ false → Telling F now after
  quiet_telling now t other none = telling_quiet F link event before after happens now t none (facts_quiet far how slices wanted known link event before after happens now t.stood other none)

pub turns_fail_far : TurnsFailFar
unfolding turned_far step_on
turns_fail_far far at size how slices now now' calls part before after wanted known moved error b well turns stands e other =
    let S : board.Seen → Histories → Type 0 = Blamed (Facts far how slices wanted known) in
    let u = turns_all S (event_blamed far how slices wanted known) (quiet_blamed far how slices wanted known) before now part after now' (Whole moved) b.course.histories turns b.course.drive.own
    b.course.held (record { stood = b.course.stood; fails = λ code is. absurd (none_some code (sym well ∙ is)) }) in
    link_fails (Facts far how slices wanted known) (IsSettled size) at at every now' (calls ++ part) after
    (turned_far far at size how slices now now' calls part before after wanted known moved b turns S u (λ histories s. s.stood)) stands (failure_by error) (not_lost error other)
    (u.stood.fails error e)

pub turns_tell_content_far : TurnsTellContentFar
unfolding turned_far step_on
turns_tell_content_far far at size how slices now now' calls part before after wanted known moved b well turns stands fails =
    let S : board.Seen → Histories → Type 0 = Telling (Facts far how slices wanted known) in
    let u = turns_all S (event_telling far how slices wanted known) (quiet_telling far how slices wanted known) before now part after now' (Whole moved) b.course.histories turns b.course.drive.own
    b.course.held (record { stood = b.course.stood; content = record { on = λ came. absurd (b.course.stood.unfailed.on well (failure_by EPROTO) came) } }) in
    u.stood.content.on
    (came_to (Facts far how slices wanted known) now' (calls ++ part) after
    (turned_far far at size how slices now now' calls part before after wanted known moved b turns S u (λ histories s. s.stood)).course stands at (failure_by EPROTO) fails)

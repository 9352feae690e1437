-- What stands between two turns of a copy of which one side is a file is kept by each step of it.
use Rattle.std.proofs.Common.{◌≡◌, ℕ, Bool, true, false, List, [], ◌∷◌, ◌++◌, length, Option, Some, None, slice_get, refl, ap, sym, subst, ◌∙◌}
use Rattle.lnbd_handle.specs.Histories.{Plays}
use Rattle.lnbd_model.specs.declared.target.Place.{Place}
use Rattle.lnbd_link.specs.Call as wire
use Rattle.lnbd_history.specs.Commands.{Command}
use Rattle.lnbd_history.specs.Commands as commands
use Rattle.lnbd_history.specs.Events.{Event, Issue}
use Rattle.lnbd_asked.specs.Driven.{Spells, is_inward}
use Rattle.lnbd_asked.specs.Exports.{is_naming}
use Rattle.lnbd_asked.specs.Link.{Nobody}
use Rattle.lnbd_poll.specs.Seen.{Seen}
use Rattle.lnbd_poll.specs.Turns.{Turns, Whole}
use Rattle.lnbd_drives.specs.Driving.{sets_opt_mode, with_event}
use Rattle.lnbd_drives.proofs.Exports.{turns_give_none}
use Rattle.lnbd_drives.proofs.Passing.{said_stays}
use Rattle.lnbd_plan.specs.declared.grid.Slice.{Slice}
use Rattle.lnbd_board.specs.declared.ask.Ask.TheVariants as ask
use Rattle.lnbd_board.specs.declared.ask.Change.{Change}
use Rattle.lnbd_board.specs.declared.ask.Change.TheVariants as change
use Rattle.lnbd_board.specs.declared.how.How.{How}
use Rattle.lnbd_board.specs.declared.ticket.Ticket.{Ticket}
use Rattle.lnbd_board.specs.declared.ticket.Ticket.TheVariants as ticket
use Rattle.lnbd_board.specs.Asks.{change_of, read_at}
use Rattle.lnbd_board.specs.Files as board
use Rattle.lnbd_board.specs.Requests.{Suits}
use Rattle.lnbd_handle.specs.Issues.{read_of}
use Rattle.lnbd_onesided.proofs.DeskLemmas.{change_suits, read_suits}
use Rattle.lnbd_tracks.specs.Laws.{asked_by, is_coming}
use Rattle.lnbd_tracks.specs.Mapping.{ToldAlike}
use Rattle.lnbd_tracks.specs.Tracks.{Histories, Happens, is_issue}
use Rattle.lnbd_tracks.proofs.Mapped.{not_issued}
use Rattle.lnbd_course.specs.Between.{ArePlaced, BetweenOf, place_of, with_history_on}
use Rattle.lnbd_course.specs.Course.{with_link}
use Rattle.lnbd_course.specs.Far.{Far, FarStood, FromFile, ToFile, AsksFar, with_done}
use Rattle.lnbd_course.specs.FarCourse.{FarCourse, IsSettled, every}
use Rattle.lnbd_course.specs.FarLaws.{NothingIsFar, OpensFar, SettlingKeepsFar, AgreeingSettlesFar, TurnsKeepFar, CallsKeepFar, AskingKeepsFar, ExtentsKeepFar, OthersKeepFar, TakingKeepsFar}
use Rattle.lnbd_course.specs.FarLaws.{BoardMovesKeepFar, UnaskedMovesKeepFar, ComesAtOnce, ChangesKeepFar, FirstChangesKeepFar, ReadsKeepFar, HearingKeepsFar, FewerKeepFar}
use Rattle.lnbd_course.specs.Orders.{command_of}
use Rattle.lnbd_course.specs.Taken.{without_buffer}
use Rattle.lnbd_course.specs.Told.{Known, Knows}
use Rattle.lnbd_course.proofs.Asking.{goes_on, moves_on, then}
use Rattle.lnbd_course.proofs.FarStanding.{completed_alike, completed_earlier, far_begins, far_done, far_event, far_moves, far_none_fails, far_quiet, far_settles, near_asked, near_earlier}
use Rattle.lnbd_course.proofs.Holding.{begins_course, calls_pass, no_history, opens_course, turned_on}
use Rattle.lnbd_course.proofs.Later.{IsLater, later_on, later_same}
use Rattle.lnbd_course.proofs.Opening.{Opened, open_all, opens_parted, opens_placed, opens_told}
use Rattle.lnbd_course.proofs.Orders.{beginning_asks, going_asks}
use Rattle.lnbd_course.proofs.Placing.{Goes, event_rests, goes_more, goes_same, nothing_is_of, nothing_placed, side_later, side_told, step_on, taken_between, turn_rests}
use Rattle.lnbd_course.proofs.Standing.{with_happens}
use Rattle.lnbd_course.proofs.Telling.{knows_after, knows_alike, knows_asking, knows_coming, knows_fewer, knows_hearing, knows_nothing, knows_unasked}
use Rattle.lnbd_course.proofs.Turning.{Turned, steps, turns_all}

abbrev pub Facts : Far → How → List Slice → Option (ℕ × ℕ) → Known → board.Seen → Histories → Type 0
Facts far how slices wanted known = Knows (FarStood far how slices) every wanted known

module _ (far : Far) (how : How) (slices : List Slice) (wanted : Option (ℕ × ℕ)) (known : Known) (link : ℕ) (event : Event Ticket) (before after : Histories)
    (happens : Happens link event before after) where
  pub facts_coming : (now now' : board.Seen) → Facts far how slices wanted known now before → is_issue event ≡ false → Plays steps event (before link) now now' →
      Facts far how slices wanted known now' after
  facts_coming now now' k other plays =
      knows_coming (FarStood far how slices) every wanted known link event before after happens now now' k (far_none_fails far how slices now before link k.stood) other plays
      (far_event how slices link event before after happens far now now' k.stood other plays)

  pub facts_quiet : (now : board.Seen) → Facts far how slices wanted known now before → is_issue event ≡ false → is_coming event ≡ false → Facts far how slices wanted known now after
  facts_quiet now k other none =
      knows_after (FarStood far how slices) every wanted known link event before after happens (FarStood far how slices) now now k (not_issued event other) none
      (record { told = refl; mapped = refl; short = refl }) (λ e. e)
      (far_quiet how slices link event before after happens far now k.stood other none)

pub settled_later : (size : Option ℕ) (calls calls' : List wire.Call) (before after : Histories) → Goes calls calls' → ((n : ℕ) → IsLater (before n) (after n)) → IsSettled size calls before →
    IsSettled size calls' after
settled_later None calls calls' before after goes later t = tt
settled_later (Some size) calls calls' before after goes later t = side_later calls calls' every before after goes later true size t

-- An event of a caller, and another board.
module _ (Facts1 Facts2 : board.Seen → Histories → Type 0) (at : Place) (size : Option ℕ) (now now' : board.Seen) (calls : List wire.Call) (seens : List (Seen Ticket))
    (b : BetweenOf Facts1 (IsSettled size) at at every now calls seens) where
  event_on : (index : ℕ) (seen : Seen Ticket) (event : Event Ticket) → slice_get seens index ≡ Some seen → is_inward event ≡ true → Spells seen.history event → sets_opt_mode event ≡ false →
      is_naming event ≡ false → Facts2 now' ((then) event b.course.histories seen.link) →
      BetweenOf Facts2 (IsSettled size) at at every now' calls (with_event index event seens)
  unfolding goes_on
  event_on index seen event there inward spells off unnamed stood =
      step_on at at every (IsSettled size) Facts1 Facts2 now now' calls calls seens (with_event index event seens) b
      (goes_on Facts1 Facts2 now now' calls seens index seen event b.course there inward spells off stood)
      (goes_same calls) (later_on seen.link event b.course.histories unnamed) (event_rests calls seens index seen there event b.course.histories)
      (settled_later size calls calls b.course.histories ((then) event b.course.histories seen.link) (goes_same calls) (later_on seen.link event b.course.histories unnamed) b.told)

  board_on : Facts2 now' b.course.histories → BetweenOf Facts2 (IsSettled size) at at every now' calls seens
  board_on stood = record { course = moves_on Facts1 Facts2 now now' calls seens b.course stood; placed = b.placed; parted = b.parted; told = b.told }

-- The beginning.

pub nothing_is_far : NothingIsFar
nothing_is_far far at how now known unasked none uncounted unknown = record {
  course = begins_course (Facts far how [] None known) now (knows_nothing (FarStood far how []) every known now unknown (far_begins far how now unasked none uncounted));
  placed = nothing_placed at at every no_history;
  parted = λ n apart. nothing_is_of n;
  told = tt;
}

-- a link that was just made is of the export as the others are
all_placed : (at : Place) (calls : List wire.Call) (has : ℕ → Bool) (histories : Histories) → ArePlaced at at calls has histories → ArePlaced at at calls every histories
all_placed at calls has histories p = record {
  address = λ n g. p.address n g ∙ ap (λ (place : Place). Some place.to) (one (has n));
  name = λ n g. p.name n g ∙ ap (λ (place : Place). place.name) (one (has n));
}
  where
    one : (b : Bool) → place_of at at b ≡ at
    one true = refl
    one false = refl

pub opens_far : OpensFar
opens_far far at size how slices now calls seens wanted known link history b new settings named =
    let F : board.Seen → Histories → Type 0 = Facts far how slices wanted known in
    let more : List wire.Call = calls ++ wire.Connect at.to (Some link) ∷ [] in
    let opened : Opened F now more (seens ++ with_history_on link [] ∷ []) link [] b.course.histories = record {
      course = opens_course F F now calls seens at.to link b.course new b.course.stood;
      here = (b.course.unused link new).blank;
      others = λ n differ. refl;
    } in
    let o = open_all F (facts_quiet far how slices wanted known) now more seens link b.course.histories history settings opened in
    record {
      course = o.course;
      placed = all_placed at more (with_link link true every) o.course.histories (opens_placed at at every calls link true history b.course.histories o.course.histories new o.here o.others named
          b.placed);
      parted = opens_parted calls seens at.to link history b.course.histories o.course.histories o.others b.parted;
      told = settled size o.course.histories o.here o.others b.told;
    }
  where
    settled : (size : Option ℕ) (after : Histories) → after link ≡ history → ((n : ℕ) → (link ≡ n → ⊥) → after n ≡ b.course.histories n) → IsSettled size calls b.course.histories →
        IsSettled size (calls ++ wire.Connect at.to (Some link) ∷ []) after
    settled None after here others t = tt
    settled (Some told) after here others t =
        let s = opens_told at at every calls link true history b.course.histories after new here others true told t in
        record { link = s.link; given = s.given; side = refl; told = s.told }

pub settling_keeps_far : SettlingKeepsFar
settling_keeps_far far at size how how' now now' calls seens known b none well unflushed none' uncounted =
    board_on (Facts far how [] None known) (Facts far how' [] None known) at size now now' calls seens b
    (knows_unasked (FarStood far how []) (FarStood far how' []) every known now now' b.course.histories (λ e. well)
    (far_settles far how how' now now' b.course.histories none well unflushed none' uncounted b.course.stood.stood) b.course.stood)

pub agreeing_settles_far : AgreeingSettlesFar
agreeing_settles_far far at how slices now calls seens wanted known index seen size b there told =
    record { course = b.course; placed = b.placed; parted = b.parted; told = side_told (Facts far how slices wanted known) every now calls seens index seen true size b.course there refl told }

-- Turns and calls.

-- after a turn that keeps something in which the facts stand
unfoldable pub turned_far : (far : Far) (at : Place) (size : Option ℕ) (how : How) (slices : List Slice) (now now' : board.Seen) (calls part : List wire.Call) (before after : List (Seen Ticket))
    (wanted : Option (ℕ × ℕ)) (known : Known) (moved : Option ℕ) (b : FarCourse far at size how slices now calls before wanted known) → Turns steps before now part after now' (Whole moved) →
    (S : board.Seen → Histories → Type 0) → Turned S before after now' b.course.histories → ((histories : Histories) → S now' histories → Facts far how slices wanted known now' histories) →
    FarCourse far at size how slices now' (calls ++ part) after wanted known
unfolding step_on
turned_far far at size how slices now now' calls part before after wanted known moved b turns S t stood =
    let F : board.Seen → Histories → Type 0 = Facts far how slices wanted known in
    let goes = goes_more calls part (λ n. turns_give_none steps n part before after now now' (Whole moved) turns) in
    step_on at at every (IsSettled size) F F now now' calls (calls ++ part) before after b (turned_on F F now now' calls part before after moved b.course turns S t stood)
    goes t.later (turn_rests now now' calls part before after moved b.course.histories turns S t) (settled_later size calls (calls ++ part) b.course.histories t.histories goes t.later b.told)

pub turns_keep_far : TurnsKeepFar
turns_keep_far far at size how slices now now' calls part before after wanted known moved b turns =
    let F : board.Seen → Histories → Type 0 = Facts far how slices wanted known in
    let t = turns_all F (facts_coming far how slices wanted known) (facts_quiet far how slices wanted known) before now part after now' (Whole moved) b.course.histories turns b.course.drive.own
    b.course.held b.course.stood in
    turned_far far at size how slices now now' calls part before after wanted known moved b turns F t (λ histories s. s)

pub calls_keep_far : CallsKeepFar
calls_keep_far far at size how slices now calls more seens wanted known b quiet none =
    let F : board.Seen → Histories → Type 0 = Facts far how slices wanted known in
    step_on at at every (IsSettled size) F F now now calls (calls ++ more) seens seens b (calls_pass F now calls more seens b.course quiet) (goes_more calls more none)
    (λ n. later_same (b.course.histories n) (b.course.histories n) refl)
    (λ n apart. (apart, record { history = refl; said = said_stays n calls more (quiet n) }))
    (settled_later size calls (calls ++ more) b.course.histories b.course.histories (goes_more calls more none) (λ n. later_same (b.course.histories n) (b.course.histories n) refl) b.told)

-- Handles.

pub asking_keeps_far : AskingKeepsFar
asking_keeps_far far at size how slices slices' now now' calls seens wanted known index seen command b there spells asks none alike =
    let before = b.course.histories in
    let after = (then) (Issue command) before seen.link in
    let happens = with_happens seen.link (Issue command) before in
    event_on (Facts far how slices wanted known) (Facts far how slices' wanted known) at size now now' calls seens b index seen (Issue command) there refl spells refl refl
    (knows_after (FarStood far how slices) every wanted known seen.link (Issue command) before after happens (FarStood far how slices') now now' b.course.stood none refl alike
    (near_earlier far how command slices slices' now now' asks)
    (near_asked how slices slices' seen.link command before after happens now now' far asks b.course.stood.stood))

pub extents_keep_far : ExtentsKeepFar
extents_keep_far done at size how slices slices' now now' calls seens range known index seen command b there spells asks wants forgotten unmapped =
    let far = ToFile done in
    let before = b.course.histories in
    let after = (then) (Issue command) before seen.link in
    let happens = with_happens seen.link (Issue command) before in
    event_on (Facts far how slices None known) (Facts far how slices' (Some range) known) at size now now' calls seens b index seen (Issue command) there refl spells refl refl
    (knows_asking (FarStood far how slices) (FarStood far how slices') every range known seen.link command before after happens now now' b.course.stood refl wants forgotten unmapped asks.earlier
    (near_asked how slices slices' seen.link command before after happens now now' far asks b.course.stood.stood))

pub others_keep_far : OthersKeepFar
others_keep_far far at size how slices now calls seens wanted known index seen event b there s unnamed =
    event_on (Facts far how slices wanted known) (Facts far how slices wanted known) at size now now calls seens b index seen event there s.inward s.spelled s.mode unnamed
    (facts_quiet far how slices wanted known seen.link event b.course.histories ((then) event b.course.histories seen.link)
    (with_happens seen.link event b.course.histories) now b.course.stood s.unasked s.still)

pub taking_keeps_far : TakingKeepsFar
taking_keeps_far far at size how slices now calls seens wanted known index seen limit handle b there stands =
    taken_between (Facts far how slices wanted known) (IsSettled size) at at every now calls seens index seen limit handle b there stands

-- The board.

pub board_moves_keep_far : BoardMovesKeepFar
board_moves_keep_far far at size how slices now now' calls seens wanted known b earlier same keeps alike =
    board_on (Facts far how slices wanted known) (Facts far how slices wanted known) at size now now' calls seens b
    (knows_alike (FarStood far how slices) (FarStood far how slices) every known now now' b.course.histories earlier
    (far_moves far how slices now now' b.course.histories earlier same keeps b.course.stood.stood) wanted b.course.stood alike)

pub unasked_moves_keep_far : UnaskedMovesKeepFar
unasked_moves_keep_far far at size how slices now now' calls seens known b earlier same keeps =
    board_on (Facts far how slices None known) (Facts far how slices None known) at size now now' calls seens b
    (knows_unasked (FarStood far how slices) (FarStood far how slices) every known now now' b.course.histories earlier
    (far_moves far how slices now now' b.course.histories earlier same keeps b.course.stood.stood) b.course.stood)

-- The file.

module _ (far : Far) (at : Place) (size : Option ℕ) (how : How) (slices slices' : List Slice) (now next after : board.Seen) (calls : List wire.Call) (seens : List (Seen Ticket))
    (wanted : Option (ℕ × ℕ)) (known : Known) (n : ℕ) (bytes : List ℕ)
    (b : FarCourse far at size how slices now calls seens wanted known) (comes : ComesAtOnce n bytes now next after) where
  comes_alike : ToldAlike now after
  comes_alike = let then = completed_alike n bytes next after comes.completes in record {
    told = then.told ∙ comes.alike.told;
    mapped = then.mapped ∙ comes.alike.mapped;
    short =
        then.short ∙ comes.alike.short;
  }

  does_on : (far' : Far) → FarStood far' how slices' after b.course.histories → FarCourse far' at size how slices' after calls seens wanted known
  does_on far' stood =
      board_on (Facts far how slices wanted known) (Facts far' how slices' wanted known) at size now after calls seens b
      (knows_alike (FarStood far how slices) (FarStood far' how slices') every known now after b.course.histories
      (λ none. comes.earlier (completed_earlier n bytes next after comes.completes none)) stood wanted b.course.stood comes_alike)

  -- it does this command, which is that of a slice
  does : (command : commands.Command Ticket) → command.done ≡ ticket.Slice n → (asked : Command Nobody) → asked_by command ≡ asked → Suits asked bytes →
      AsksFar far how command slices slices' now next → FarCourse (with_done n asked bytes far) at size how slices' after calls seens wanted known
  does command by asked is suits asks =
      does_on (with_done n asked bytes far)
      (subst (λ (c : Command Nobody). FarStood (with_done n c bytes far) how slices' after b.course.histories) is
      (far_done how slices slices' now next after b.course.histories command n bytes by (subst (λ (c : Command Nobody). Suits c bytes) (sym is) suits) comes.completes far asks b.course.stood.stood))

change_by : (n : ℕ) (one : Change) → (without_buffer (command_of n one)).done ≡ ticket.Slice n
change_by n (change.Write offset bytes) = refl
change_by n (change.Zero offset size flags) = refl

change_is : (n : ℕ) (one : Change) → asked_by (without_buffer (command_of n one)) ≡ change_of one
change_is n (change.Write offset bytes) = refl
change_is n (change.Zero offset size flags) = refl

pub changes_keep_far : ChangesKeepFar
changes_keep_far done at size how slices now next after calls seens wanted known n one b goes counts comes =
    does (ToFile done) at size how slices slices now next after calls seens wanted known n (change_of one).payload b comes (without_buffer (command_of n one)) (change_by n one) (change_of one)
    (change_is n one) (change_suits one)
    (going_asks how n one slices now next comes.earlier counts goes)

pub first_changes_keep_far : FirstChangesKeepFar
first_changes_keep_far done at size how slices now next after calls seens wanted known slice n one b count begins counts comes =
    does (ToFile done) at size how slices (slices ++ slice ∷ []) now next after calls seens wanted known n (change_of one).payload b comes (without_buffer (command_of n one)) (change_by n one)
    (change_of one) (change_is n one) (change_suits one)
    (beginning_asks how slice n (ask.Change one) slices now next count comes.earlier counts begins)

pub reads_keep_far : ReadsKeepFar
reads_keep_far done at size how slices now next after calls seens wanted known slice n offset buf bytes b count begins counts long comes =
    does (FromFile done) at size how slices (slices ++ slice ∷ []) now next after calls seens wanted known n bytes b comes (without_buffer (read_of buf offset (ticket.Slice n) 0)) refl
    (read_at offset (length buf)) refl (read_suits offset buf bytes long)
    (beginning_asks how slice n (ask.Read offset buf) slices now next count comes.earlier counts begins buf refl)

-- Hearing.

pub hearing_keeps_far : HearingKeepsFar
hearing_keeps_far far at size how slices now calls seens range known known' b answered short more whole holds further reaches =
    board_on (Facts far how slices (Some range) known) (Facts far how slices None known') at size now now calls seens b
    (knows_hearing (FarStood far how slices) every range known known' now b.course.histories b.course.stood
    (λ link. far_none_fails far how slices now b.course.histories link b.course.stood.stood) answered short more whole holds further reaches)

pub fewer_keep_far : FewerKeepFar
fewer_keep_far far at size how slices now calls seens wanted known known' b fewer more further =
    board_on (Facts far how slices wanted known) (Facts far how slices wanted known') at size now now calls seens b
    (knows_fewer (FarStood far how slices) every wanted known known' now b.course.histories b.course.stood fewer more further)

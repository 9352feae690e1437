-- What was told as zero stays known beside the course of a copy, and in the end is what was dealt with the source.
use Rattle.std.proofs.Common.{◌≡◌, ◌⊎◌, inl, inr, ℕ, ◌+◌, Bool, true, false, not, ◌&&◌, List, [], ◌∷◌, ◌++◌, Option, Some, None, slice_get, refl, ap, sym, subst, ◌∙◌, nat_le, nat_lt, if◌then◌else◌}
use Rattle.std.proofs.lemmas.Bool.{cases_eq, false≢true, ne_eqb}
use Rattle.std.specs.Option.{option_map}
use Rattle.lnbd_model.specs.declared.export.Extent.{Extent}
use Rattle.lnbd_model.specs.declared.target.Place.{Place}
use Rattle.lnbd_outcome.specs.Outcome.{Unfinished}
use Rattle.lnbd_handle.specs.Histories.{Plays}
use Rattle.lnbd_link.specs.Call as wire
use Rattle.lnbd_machine.specs.Machine.{Machine}
use Rattle.lnbd_standing.specs.Standing.{StandsFor}
use Rattle.lnbd_history.specs.Commands.{Command, Request}
use Rattle.lnbd_history.specs.Events.{Event, History, Issue}
use Rattle.lnbd_history.specs.History.{request, reading}
use Rattle.lnbd_asked.specs.Driven.{DrivenSays, written}
use Rattle.lnbd_asked.specs.Transcript.{bare, is_of, on_link, asked_on, answered, told_zero, only_if, dealt_with}
use Rattle.lnbd_poll.specs.Seen.{Seen}
use Rattle.lnbd_poll.specs.Turns.{Whole}
use Rattle.lnbd_drives.specs.Driving.{with_event}
use Rattle.lnbd_plan.specs.declared.grid.Slice.{Slice}
use Rattle.lnbd_plan.specs.Laws.{told_by}
use Rattle.lnbd_board.specs.declared.how.How.{How}
use Rattle.lnbd_board.specs.Asks.{Keeps}
use Rattle.lnbd_board.specs.Requests as sides
use Rattle.lnbd_board.specs.declared.ticket.Ticket.{Ticket}
use Rattle.lnbd_board.specs.Files as board
use Rattle.lnbd_board.specs.Holds.{WasToldZero}
use Rattle.lnbd_tracks.specs.Awaiting.{Awaits}
use Rattle.lnbd_tracks.specs.Laws.{is_coming}
use Rattle.lnbd_tracks.specs.Mapping.{HoldsZero, IsWanted, Maps, IsToldZero, ToldAlike, asks_extents, is_extents}
use Rattle.lnbd_tracks.specs.Tracks.{NoneFails, Histories, Happens, is_issue}
use Rattle.lnbd_tracks.specs.Heeding.{Heeds, ListensTo, holds_told, holds_whole}
use Rattle.lnbd_tracks.specs.Saying.{said_in}
use Rattle.lnbd_tracks.proofs.Awaiting.{asking_awaits, coming_awaits, others_await}
use Rattle.lnbd_tracks.proofs.Heeding.{asking_heeds, coming_heeds, hearing_heeds, heeds_more, nothing_heeds, others_heed}
use Rattle.lnbd_tracks.proofs.Mapped.{nothing_maps, not_issued, coming_maps, others_map, asking_maps, hearing_maps, zeroes_stay}
use Rattle.lnbd_tracks.proofs.Unfailed.{coming_unfailed, none_unfailed, others_unfailed}
use Rattle.lnbd_tracks.proofs.Written.{done_is_written}
use Rattle.lnbd_course.specs.Counted.{CountsSame}
use Rattle.lnbd_course.specs.Course.{Course, Stood, beside, with_link}
use Rattle.lnbd_course.specs.Told.{Known, Knows, ToldCourse, AreOfSource, NothingIsTold, OpeningTells, SettlingTells, TurnsTell, CallsTell, SourceAsksTell, DestinationAsksTell, ExtentsAskTell}
use Rattle.lnbd_course.specs.Told.{BoardMovesTell, OthersTell, HearingTells, FewerTell, WindowsTell, TakingTells, KnownWasTold, SidesAreOfSource}
use Rattle.lnbd_course.proofs.Asking.{goes_on, source_asks_keep, destination_asks_keep, others_keep, board_moves_keep, then}
use Rattle.lnbd_course.proofs.Holding.{no_history, nothing_is_on_course, opens_on_course, settling_keeps, calls_keep, turned_keeps, removed, removed_keeps, take_drop}
use Rattle.lnbd_course.proofs.Standing.{on_here, event_stood, quiet_stood, with_happens}
use Rattle.lnbd_course.proofs.Turning.{steps, turns_all}

-- Sides.

module _ (sources sources2 : ℕ → Bool) (histories : Histories) (same : (link cookie : ℕ) (asks : Request Ticket) → request (histories link) cookie ≡ Some asks → sources link ≡ true → sources2 link ≡ true) where
  -- A link on which something was asked stays on its side.
  sides_asked : (range : ℕ × ℕ) (now : board.Seen) → IsWanted sources histories range now → IsWanted sources2 histories range now
  sides_asked range now m = record {
    link = m.link;
    cookie = m.cookie;
    asks = m.asks;
    source = same m.link m.cookie m.asks m.asked m.source;
    asked = m.asked;
    kind = m.kind;
    offset = m.offset;
    length_ = m.length_;
    others = m.others;
    said = m.said;
    answered = m.answered;
  }

  sides_maps : (wanted : Option (ℕ × ℕ)) (now : board.Seen) → Maps sources histories wanted now → Maps sources2 histories wanted now
  sides_maps None now m = m
  sides_maps (Some range) now m = sides_asked range now m

  sides_zero : (p : ℕ) → IsToldZero sources histories p → IsToldZero sources2 histories p
  sides_zero p z = record {
    link = z.link;
    cookie = z.cookie;
    asks = z.asks;
    source = same z.link z.cookie z.asks z.asked z.source;
    asked = z.asked;
    kind = z.kind;
    has = z.has;
    done = z.done;
    zero = z.zero;
  }

  sides_awaits : (wanted : Option (ℕ × ℕ)) (now : board.Seen) → Awaits sources histories wanted now → Awaits sources2 histories wanted now
  sides_awaits wanted now a = record {
    on = λ some none unmapped.
        let m = a.on some none unmapped in
        record { link = m.link; cookie = m.cookie; asks = m.asks; source = same m.link m.cookie m.asks m.asked m.source; asked = m.asked; kind = m.kind; ends = m.ends; waits = m.waits };
  }

-- No extents are waited for.
none_awaits : (sources : ℕ → Bool) (histories : Histories) (now : board.Seen) → Awaits sources histories None now
none_awaits sources histories now = record { on = λ some none unmapped. absurd (false≢true some) }

-- Of two exports no callback answered an error.
pub none_fails : (how : How) (has : ℕ → Bool) (slices : List Slice) (now : board.Seen) (histories : Histories) (link : ℕ) → Stood how has slices now histories →
    NoneFails (reading (histories link)).known.entries
none_fails how has slices now histories link s = go (has link) refl
  where
    go : (b : Bool) → has link ≡ b → NoneFails (reading (histories link)).known.entries
    go true is = subst (λ (h : History Ticket). NoneFails (reading h).known.entries) (on_here has histories link is) (s.reads link).well
    go false is = subst (λ (h : History Ticket). NoneFails (reading h).known.entries) (on_here (beside has) histories link (ap not is)) (s.changes link).well

-- One event.

module _ (Facts : board.Seen → Histories → Type 0) (has : ℕ → Bool) (wanted : Option (ℕ × ℕ)) (known : Known) (link : ℕ) (event : Event Ticket) (before after : Histories)
    (happens : Happens link event before after) where
  -- The facts stand after what comes to a handle,
  pub knows_coming : (now now' : board.Seen) → (k : Knows Facts has wanted known now before) → NoneFails (reading (before link)).known.entries → is_issue event ≡ false →
      (plays : Plays steps event (before link) now now') → Facts now' after →
      Knows Facts has wanted known now' after
  knows_coming now now' k well other plays stood = record {
    stood = stood;
    maps = coming_maps has link event before after wanted plays.calls now now' k.maps well other happens plays.told plays.world;
    knows = λ p z. zeroes_stay has link event before after p happens (k.knows p z);
    heeds = coming_heeds link event before after wanted known.whole known.reach plays.calls now now' k.heeds other happens plays.told plays.world;
    awaits = coming_awaits has link event before after wanted plays.calls now now' k.awaits other happens plays.told plays.world;
    unfailed = coming_unfailed link event before after plays.calls now now' k.unfailed well other happens plays.told plays.world;
  }

  -- and after what else happens on one, but that it is asked for extents, where the board was told no more of them.
  pub knows_after : (Facts' : board.Seen → Histories → Type 0) (now now' : board.Seen) → Knows Facts has wanted known now before → asks_extents event ≡ false → is_coming event ≡ false →
      ToldAlike now now' → (now'.error ≡ None → now.error ≡ None) → Facts' now' after →
      Knows Facts' has wanted known now' after
  knows_after Facts' now now' k unasked none alike earlier stood = record {
    stood = stood;
    maps = others_map has link event before after wanted now now' k.maps unasked happens alike;
    knows = λ p z. zeroes_stay has link event before after p happens (k.knows p z);
    heeds = others_heed link event before after wanted known.whole known.reach now now' k.heeds unasked none happens alike;
    awaits = others_await has link event before after wanted now now' k.awaits none happens (record { error = earlier; mapped = λ e. sym alike.mapped ∙ e });
    unfailed = others_unfailed link event before after now now' k.unfailed none happens earlier;
  }

-- A handle is asked for the extents of a range, and none were waited for.
pub knows_asking : (Facts Facts' : board.Seen → Histories → Type 0) (has : ℕ → Bool) (range : ℕ × ℕ) (known : Known) (link : ℕ) (command : Command Ticket) (before after : Histories) →
    Happens link (Issue command) before after → (now now' : board.Seen) → Knows Facts has None known now before →
    has link ≡ true → ListensTo range command → now'.told ≡ [] → now'.mapped ≡ false → (now'.error ≡ None → now.error ≡ None) → Facts' now' after → Knows Facts' has (Some range) known now' after
knows_asking Facts Facts' has range known link command before after happens now now' k is wants forgotten unmapped earlier stood = record {
  stood = stood;
  maps = asking_maps has link command range before after now now' k.maps is wants.asks happens forgotten unmapped;
  knows = λ p z. zeroes_stay has link (Issue command) before after p happens (k.knows p z);
  heeds = asking_heeds link command range before after known.whole known.reach now now' k.heeds wants happens;
  awaits = asking_awaits has link command (Some range) before after now' is wants.asks.kind (ap (λ (by : Ticket). is_extents by) wants.done) happens;
  unfailed = others_unfailed link (Issue command) before after now now' k.unfailed refl happens earlier;
}

-- Another board was told the same of extents.

alike_maps : (has : ℕ → Bool) (histories : Histories) (wanted : Option (ℕ × ℕ)) (now now' : board.Seen) → ToldAlike now now' → Maps has histories wanted now → Maps has histories wanted now'
alike_maps has histories None now now' alike m = m
alike_maps has histories (Some range) now now' alike m = record {
  link = m.link;
  cookie = m.cookie;
  asks = m.asks;
  source = m.source;
  asked = m.asked;
  kind = m.kind;
  offset = m.offset;
  length_ = m.length_;
  others = m.others;
  said = λ test blank p z. m.said test blank p (ap (λ (l : List Extent). said_in test range.0 l p) (sym alike.told) ∙ z);
  answered = λ e. m.answered (sym alike.mapped ∙ e);
}

alike_heeds : (histories : Histories) (wanted : Option (ℕ × ℕ)) (known : (block p : ℕ) → Bool) (reach : ℕ → Bool) (now now' : board.Seen) → ToldAlike now now' →
    Heeds histories wanted known reach now → Heeds histories wanted known reach now'
alike_heeds histories None known reach now now' alike m = m
alike_heeds histories (Some range) known reach now now' alike m = record {
  link = m.link;
  cookie = m.cookie;
  asks = m.asks;
  asked = m.asked;
  first = m.first;
  offset = m.offset;
  length_ = m.length_;
  others = m.others;
  held = λ short none test blank p z. ap (λ (l : List Extent). said_in test range.0 l p) alike.told ∙ m.held (sym alike.short ∙ short) none test blank p z;
}

module _ (Facts Facts' : board.Seen → Histories → Type 0) (has : ℕ → Bool) (known : Known) (now now' : board.Seen) (histories : Histories) (earlier : now'.error ≡ None → now.error ≡ None)
    (stood : Facts' now' histories) where
  pub knows_alike : (wanted : Option (ℕ × ℕ)) → Knows Facts has wanted known now histories → ToldAlike now now' → Knows Facts' has wanted known now' histories
  knows_alike wanted k alike = record {
    stood = stood;
    maps = alike_maps has histories wanted now now' alike k.maps;
    knows = k.knows;
    heeds = alike_heeds histories wanted known.whole known.reach now now' alike k.heeds;
    awaits = record { on = λ some none unmapped. k.awaits.on some (earlier none) (sym alike.mapped ∙ unmapped) };
    unfailed = record { on = λ none. k.unfailed.on (earlier none) };
  }

  -- Where no extents are waited for, it does not matter what it was told of them.
  pub knows_unasked : Knows Facts has None known now histories → Knows Facts' has None known now' histories
  knows_unasked k = record { stood = stood; maps = k.maps; knows = k.knows; heeds = k.heeds; awaits = none_awaits has histories now'; unfailed = record { on = λ none. k.unfailed.on (earlier none) } }

-- Where the range that was waited for was answered, it is heard.
pub knows_hearing : (Facts : board.Seen → Histories → Type 0) (has : ℕ → Bool) (range : ℕ × ℕ) (known known' : Known) (now : board.Seen) (histories : Histories) →
    Knows Facts has (Some range) known now histories → ((link : ℕ) → NoneFails (reading (histories link)).known.entries) →
    now.mapped ≡ true → now.short ≡ false → ((p : ℕ) → known'.zero p ≡ true → (known.zero p ≡ true) ⊎ HoldsZero range now p) →
    ((block p : ℕ) → known.whole block p ≡ true → known'.whole block p ≡ true) → ((block p : ℕ) → holds_whole range now block p ≡ true → known'.whole block p ≡ true) →
    ((p : ℕ) → known.reach p ≡ true → known'.reach p ≡ true) → ((p : ℕ) → holds_told range now p ≡ true → known'.reach p ≡ true) → Knows Facts has None known' now histories
knows_hearing Facts has range known known' now histories k well answered short more whole holds further reaches =
    let h = hearing_maps has histories range now k.maps answered in
    record {
      stood = k.stood;
      maps = h.0;
      knows = λ p z. elim (more p z) [ inl was ↦ k.knows p was | inr here ↦ h.1 p here ];
      heeds = hearing_heeds has histories range known.whole known'.whole known.reach known'.reach now k.heeds k.maps well answered short whole holds further reaches;
      awaits = none_awaits has histories now;
      unfailed = k.unfailed;
    }

pub knows_fewer : (Facts : board.Seen → Histories → Type 0) (has : ℕ → Bool) (wanted : Option (ℕ × ℕ)) (known known' : Known) (now : board.Seen) (histories : Histories) →
    Knows Facts has wanted known now histories →
    ((p : ℕ) → known'.zero p ≡ true → known.zero p ≡ true) → ((block p : ℕ) → known.whole block p ≡ true → known'.whole block p ≡ true) → ((p : ℕ) → known.reach p ≡ true → known'.reach p ≡ true) →
    Knows Facts has wanted known' now histories
knows_fewer Facts has wanted known known' now histories k fewer more further =
    record {
      stood = k.stood;
      maps = k.maps;
      knows = λ p z. k.knows p (fewer p z);
      heeds = heeds_more histories wanted known.whole known'.whole known.reach known'.reach now more further k.heeds;
      awaits = k.awaits;
      unfailed = k.unfailed;
    }

-- before anything happened
pub knows_nothing : (Facts : board.Seen → Histories → Type 0) (has : ℕ → Bool) (known : Known) (now : board.Seen) → ((p : ℕ) → known.zero p ≡ false) → Facts now no_history →
    Knows Facts has None known now no_history
knows_nothing Facts has known now unknown stood = record {
  stood = stood;
  maps = nothing_maps has now;
  knows = λ p k. absurd (false≢true (sym (unknown p) ∙ k));
  heeds = nothing_heeds known.whole known.reach now;
  awaits = none_awaits has no_history now;
  unfailed = none_unfailed now;
}

-- Two exports.

module _ (how : How) (has : ℕ → Bool) (slices : List Slice) (wanted : Option (ℕ × ℕ)) (known : Known) where
  -- what is known beside the course
  abbrev Both : board.Seen → Histories → Type 0
  Both = Knows (Stood how has slices) has wanted known

  both_of : (now : board.Seen) (calls : List wire.Call) (seens : List (Seen Ticket)) (t : ToldCourse how has slices now calls seens wanted known) → Both now t.course.histories
  both_of now calls seens t = record { stood = t.course.stood; maps = t.maps; knows = t.knows; heeds = t.heeds; awaits = t.awaits; unfailed = t.unfailed }

  told_of : (now : board.Seen) (calls : List wire.Call) (seens : List (Seen Ticket)) (c : Course how has slices now calls seens) → Both now c.histories →
      ToldCourse how has slices now calls seens wanted known
  told_of now calls seens c b = record { course = c; maps = b.maps; knows = b.knows; heeds = b.heeds; awaits = b.awaits; unfailed = b.unfailed }

  module _ (link : ℕ) (event : Event Ticket) (before after : Histories) (happens : Happens link event before after) where
    event_both : (now now' : board.Seen) → Both now before → is_issue event ≡ false → Plays steps event (before link) now now' → Both now' after
    event_both now now' b other plays =
        knows_coming (Stood how has slices) has wanted known link event before after happens now now' b (none_fails how has slices now before link b.stood) other plays
        (event_stood how has slices link event before after happens now now' b.stood other plays)

    quiet_both : (now : board.Seen) → Both now before → is_issue event ≡ false → is_coming event ≡ false → Both now after
    quiet_both now b other none =
        knows_after (Stood how has slices) has wanted known link event before after happens (Stood how has slices) now now b (not_issued event other) none
        (record { told = refl; mapped = refl; short = refl }) (λ e. e)
        (quiet_stood how has slices link event before after happens now b.stood other none)

-- The beginning.

pub nothing_is_told : NothingIsTold
unfolding nothing_is_on_course
nothing_is_told how has now known none uncounted unknown =
    let c = nothing_is_on_course how has now none uncounted in
    told_of how has [] None known now [] [] c (knows_nothing (Stood how has []) has known now unknown c.stood)

pub opening_tells : OpeningTells
unfolding opens_on_course calls_keep
opening_tells how has slices now calls seens wanted known to link source t new = record {
  course = opens_on_course how has slices now calls seens to link source t.course new;
  maps = sides_maps has (with_link link source has) t.course.histories same wanted now t.maps;
  knows = λ p k. sides_zero has (with_link link source has) t.course.histories same p (t.knows p k);
  heeds = t.heeds;
  awaits = sides_awaits has (with_link link source has) t.course.histories same wanted now t.awaits;
  unfailed = t.unfailed;
}
  where
    none_some : (asks : Request Ticket) → None ≡ Some asks → ⊥
    none_some asks e = cc

    same : (other cookie : ℕ) (asks : Request Ticket) → request (t.course.histories other) cookie ≡ Some asks → has other ≡ true → with_link link source has other ≡ true
    same other cookie asks is e = go (cases_eq link other)
      where
        go : (link ≡ other) ⊎ (link ≡ other → ⊥) → with_link link source has other ≡ true
        go (inl here) = absurd (none_some asks (sym (ap (λ (h : History Ticket). request h cookie) (ap t.course.histories (sym here) ∙ (t.course.unused link new).blank)) ∙ is))
        go (inr differ) = ap (λ (b : Bool). if b then source else has other) (ne_eqb link other differ) ∙ e

pub settling_tells : SettlingTells
unfolding settling_keeps
settling_tells how how' has now now' calls seens known t none well unflushed none' uncounted =
    record { course = settling_keeps how how' has now now' calls seens t.course none well unflushed none' uncounted; maps = t.maps; knows = t.knows; heeds = t.heeds; awaits = none_awaits has t.course.histories now'; unfailed = record { on = λ none. t.unfailed.on well } }

-- Turns.

pub turns_tell : TurnsTell
unfolding turned_keeps
turns_tell how has slices now now' calls part before after wanted known moved t turns =
    let S : board.Seen → Histories → Type 0 = Both how has slices wanted known in
    let u = turns_all S (event_both how has slices wanted known) (quiet_both how has slices wanted known) before now part after now'
    (Whole moved) t.course.histories turns t.course.drive.own t.course.held (both_of how has slices wanted known now calls before t) in
    told_of how has slices wanted known now' (calls ++ part) after (turned_keeps how has slices now now' calls part before after moved t.course turns S u (λ histories b. b.stood)) u.stood

pub calls_tell : CallsTell
unfolding calls_keep
calls_tell how has slices now calls more seens wanted known t none = record { course = calls_keep how has slices now calls more seens t.course none; maps = t.maps; knows = t.knows; heeds = t.heeds; awaits = t.awaits; unfailed = t.unfailed }

-- Asking.

pub source_asks_tell : SourceAsksTell
unfolding source_asks_keep goes_on
source_asks_tell how has slices slices' now now' calls seens wanted known index seen command t there is spells asks none alike =
    let c = source_asks_keep how has slices slices' now now' calls seens index seen command t.course there is spells asks in
    told_of how has slices' wanted known now' calls (with_event index (Issue command) seens) c
    (knows_after (Stood how has slices) has wanted known seen.link (Issue command) t.course.histories ((then) (Issue command) t.course.histories seen.link)
    (with_happens seen.link (Issue command) t.course.histories) (Stood how has slices') now now'
    (both_of how has slices wanted known now calls seens t) none refl alike asks.earlier c.stood)

pub destination_asks_tell : DestinationAsksTell
unfolding destination_asks_keep goes_on
destination_asks_tell how has slices slices' now now' calls seens wanted known index seen command t there is spells asks none alike =
    let c = destination_asks_keep how has slices slices' now now' calls seens index seen command t.course there is spells asks in
    told_of how has slices' wanted known now' calls (with_event index (Issue command) seens) c
    (knows_after (Stood how has slices) has wanted known seen.link (Issue command) t.course.histories ((then) (Issue command) t.course.histories seen.link)
    (with_happens seen.link (Issue command) t.course.histories) (Stood how has slices') now now'
    (both_of how has slices wanted known now calls seens t) none refl alike asks.earlier c.stood)

pub extents_ask_tell : ExtentsAskTell
unfolding source_asks_keep goes_on
extents_ask_tell how has slices slices' now now' calls seens range known index seen command t there is spells asks wants forgotten unmapped =
    let c = source_asks_keep how has slices slices' now now' calls seens index seen command t.course there is spells asks in
    told_of how has slices' (Some range) known now' calls (with_event index (Issue command) seens) c
    (knows_asking (Stood how has slices) (Stood how has slices') has range known seen.link command t.course.histories ((then) (Issue command) t.course.histories seen.link)
    (with_happens seen.link (Issue command) t.course.histories) now now'
    (both_of how has slices None known now calls seens t) is wants forgotten unmapped asks.earlier c.stood)

pub board_moves_tell : BoardMovesTell
unfolding board_moves_keep
board_moves_tell how has slices now now' calls seens wanted known t earlier same keeps alike =
    let c = board_moves_keep how has slices now now' calls seens t.course earlier same keeps in
    told_of how has slices wanted known now' calls seens c
    (knows_alike (Stood how has slices) (Stood how has slices) has known now now' t.course.histories earlier c.stood wanted (both_of how has slices wanted known now calls seens t) alike)

-- Where no extents are waited for, it does not matter what the board was told of them.
pub unasked_moves_tell : (how : How) (has : ℕ → Bool) (slices : List Slice) (now now' : board.Seen) (calls : List wire.Call) (seens : List (Seen Ticket)) (known : Known) → ToldCourse how has slices now calls seens None known → (now'.error ≡ None → now.error ≡ None) → CountsSame now now' →
    ((source destination : List sides.Request) → Keeps how now.rows source destination now'.rows source destination) → ToldCourse how has slices now' calls seens None known
unfolding board_moves_keep
unasked_moves_tell how has slices now now' calls seens known t earlier same keeps =
    let c = board_moves_keep how has slices now now' calls seens t.course earlier same keeps in
    told_of how has slices None known now' calls seens c
    (knows_unasked (Stood how has slices) (Stood how has slices) has known now now' t.course.histories earlier c.stood (both_of how has slices None known now calls seens t))

pub others_tell : OthersTell
unfolding others_keep goes_on
others_tell how has slices now calls seens wanted known index seen event t there inward other none spells off =
    let c = others_keep how has slices now calls seens index seen event t.course there inward other none spells off in
    told_of how has slices wanted known now calls (with_event index event seens) c
    (knows_after (Stood how has slices) has wanted known seen.link event t.course.histories ((then) event t.course.histories seen.link) (with_happens seen.link event t.course.histories)
    (Stood how has slices) now now
    (both_of how has slices wanted known now calls seens t) (not_issued event other) none (record { told = refl; mapped = refl; short = refl }) (λ e. e) c.stood)

-- Hearing.

pub hearing_tells : HearingTells
hearing_tells how has slices now calls seens range known known' t answered short more whole holds further reaches =
    told_of how has slices None known' now calls seens t.course
    (knows_hearing (Stood how has slices) has range known known' now t.course.histories (both_of how has slices (Some range) known now calls seens t)
    (λ link. none_fails how has slices now t.course.histories link t.course.stood)
    answered short more whole holds further reaches)

pub fewer_tell : FewerTell
fewer_tell how has slices now calls seens wanted known known' t fewer more further =
    told_of how has slices wanted known' now calls seens t.course (knows_fewer (Stood how has slices) has wanted known known' now t.course.histories
    (both_of how has slices wanted known now calls seens t) fewer more further)

pub windows_tell : WindowsTell
windows_tell start [] window p e = go (nat_lt p (start + window.count)) e
  where
    go : (b : Bool) → (if b then window.told p else false) ≡ true → (told_by start [] p ≡ true) ⊎ (window.told p ≡ true)
    go true k = inr k
    go false k = absurd (false≢true k)
windows_tell start (first ∷ windows) window p e = go (nat_lt p (start + first.count)) refl (windows_tell (start + first.count) windows window p) e
  where
    lasts : (b : Bool) → nat_lt p (start + first.count) ≡ b → (if b then first.told p else told_by (start + first.count) windows p) ≡ true → told_by start (first ∷ windows) p ≡ true
    lasts b is k = ap (λ (c : Bool). if c then first.told p else told_by (start + first.count) windows p) is ∙ k

    rest : nat_lt p (start + first.count) ≡ false → (told_by (start + first.count) windows p ≡ true) ⊎ (window.told p ≡ true) → (told_by start (first ∷ windows) p ≡ true) ⊎ (window.told p ≡ true)
    rest is (inl k) = inl (lasts false is k)
    rest is (inr k) = inr k

    go : (b : Bool) → nat_lt p (start + first.count) ≡ b → (told_by (start + first.count) (windows ++ window ∷ []) p ≡ true → (told_by (start + first.count) windows p ≡ true) ⊎ (window.told p ≡ true)) →
        (if b then first.told p else told_by (start + first.count) (windows ++ window ∷ []) p) ≡ true → (told_by start (first ∷ windows) p ≡ true) ⊎ (window.told p ≡ true)
    go true is more k = inl (lasts true is k)
    go false is more k = rest is (more k)

-- The end.

removed_tells : (how : How) (has : ℕ → Bool) (slices : List Slice) (now : board.Seen) (calls : List wire.Call) (seens : List (Seen Ticket)) (wanted : Option (ℕ × ℕ)) (known : Known) (index : ℕ) (seen : Seen Ticket) (limit : ℕ) (handle : Machine Ticket) →
    ToldCourse how has slices now calls seens wanted known → slice_get seens index ≡ Some seen → StandsFor limit seen.history handle → ToldCourse how has slices now calls (removed index seens) wanted known
unfolding removed_keeps
removed_tells how has slices now calls seens wanted known index seen limit handle t there stands =
    record {
      course = removed_keeps (Stood how has slices) now calls seens index seen limit handle t.course there stands;
      maps = t.maps;
      knows = t.knows;
      heeds = t.heeds;
      awaits = t.awaits;
      unfailed =
          t.unfailed;
    }

pub taking_tells : TakingTells
taking_tells how has slices now calls seens wanted known index seen limit handle t there stands =
    subst (λ (l : List (Seen Ticket)). ToldCourse how has slices now calls l wanted known) (take_drop index seens) (removed_tells how has slices now calls seens wanted known index seen limit handle t there stands)

module _ (from : Place) (has : ℕ → Bool) (calls : List wire.Call) (histories : Histories) (says : (link : ℕ) → DrivenSays (histories link) (on_link link calls)) (of : AreOfSource from calls has) (p : ℕ) (z : IsToldZero has histories p) where
  -- the block status was wholly written, and so it was asked of the export
  out : nat_le z.cookie (written (histories z.link)) ≡ true
  out = done_is_written (histories z.link) z.cookie z.done.bytes z.done.is

  asked_so : asked_on (on_link z.link calls) z.cookie ≡ Some (bare z.asks)
  asked_so =
      (says z.link).requests z.cookie
      ∙ ap (λ (b : Bool). if b then option_map bare (request (histories z.link) z.cookie) else None) out
      ∙ ap (λ (a : Option (Request Ticket)). option_map bare a) z.asked

  here : is_of from calls z.link ≡ true
  here = of z.link z.cookie (bare z.asks) z.source asked_so

  pub was_told : WasToldZero (dealt_with from calls) p
  was_told = record {
    link = z.link;
    cookie = z.cookie;
    command = bare z.asks;
    bytes = z.done.bytes;
    asked = ap (λ (b : Bool). only_if b (asked_on (on_link z.link calls) z.cookie)) here ∙ asked_so;
    kind = z.kind;
    done = ap (λ (b : Bool). if b then answered (on_link z.link calls) z.cookie else Unfinished) here ∙ (says z.link).outcomes z.cookie out ∙ z.done.is;
    has = z.has;
    zero = ap (λ (b : Bool). b && told_zero (on_link z.link calls) z.cookie p) here ∙ (says z.link).zero z.cookie p out ∙ z.zero;
  }

pub known_was_told : KnownWasTold
known_was_told from how has slices now calls wanted known t of p k = was_told from has calls t.course.histories (λ link. t.course.parted link tt) of p (t.knows p k)

-- A link is of an export where each command on it is that was wholly written.
pub are_of_source : (from : Place) (calls : List wire.Call) (has : ℕ → Bool) (histories : Histories) → ((link : ℕ) → DrivenSays (histories link) (on_link link calls)) →
    ((link cookie : ℕ) (asks : Request Ticket) → has link ≡ true → request (histories link) cookie ≡ Some asks → nat_le cookie (written (histories link)) ≡ true → is_of from calls link ≡ true) →
    AreOfSource from calls has
are_of_source from calls has histories says of link cookie command is e = go (nat_le cookie (written (histories link))) refl
  where
    none_some : None ≡ Some command → ⊥
    none_some k = cc

    requested : nat_le cookie (written (histories link)) ≡ true → option_map bare (request (histories link) cookie) ≡ Some command → is_of from calls link ≡ true
    requested out k = asked (request (histories link) cookie) refl k
      where
        asked : (a : Option (Request Ticket)) → request (histories link) cookie ≡ a → option_map bare a ≡ Some command → is_of from calls link ≡ true
        asked None there none = absurd (none_some none)
        asked (Some q) there same = of link cookie q is there out

    go : (b : Bool) → nat_le cookie (written (histories link)) ≡ b → is_of from calls link ≡ true
    go true out = requested out (sym (ap (λ (b : Bool). if b then option_map bare (request (histories link) cookie) else None) out) ∙ sym ((says link).requests cookie) ∙ e)
    go false out = absurd (none_some (sym (ap (λ (b : Bool). if b then option_map bare (request (histories link) cookie) else None) out) ∙ sym ((says link).requests cookie) ∙ e))

pub sides_are_of_source : SidesAreOfSource
sides_are_of_source from to how has slices now calls c sides =
    are_of_source from calls has c.histories (λ link. c.parted link tt) (λ link cookie q is there out. subst (λ (b : Bool). is_of (if b then from else to) calls link ≡ true) is
    (sides.asked link cookie q there out))

-- What happens on one link keeps what stands of both sides.
use Rattle.std.proofs.Common.{◌≡◌, ◌≢◌, ◌⊎◌, inl, inr, ℕ, ◌+◌, Bool, true, false, not, List, [], ◌∷◌, refl, ap, sym, subst, ◌∙◌, ◌==◌, if◌then◌else◌}
use Rattle.std.proofs.lemmas.Bool.{cases_eq, eq-eqb, ne_eqb}
use Rattle.lnbd_callbacks.specs.Steps.{OneByOne}
use Rattle.lnbd_handle.specs.Histories.{Plays}
use Rattle.lnbd_history.specs.Commands as commands
use Rattle.lnbd_history.specs.Events.{Event, History, Issue}
use Rattle.lnbd_history.specs.History.{asked}
use Rattle.lnbd_plan.specs.declared.grid.Slice.{Slice}
use Rattle.lnbd_board.specs.declared.how.How.{How}
use Rattle.lnbd_board.specs.declared.ticket.Ticket.{Ticket}
use Rattle.lnbd_board.specs.Files as board
use Rattle.lnbd_board.specs.Requests.{Request, asking}
use Rattle.lnbd_tracks.specs.Laws.{asked_by, is_coming}
use Rattle.lnbd_tracks.specs.Tracks.{Histories, AllTrack, Tracks, Happens, Adds, is_issue}
use Rattle.lnbd_tracks.proofs.Sides.{issues_track, others_track, source_keeps, destination_keeps}
use Rattle.lnbd_course.specs.Course.{Stood, on_side, beside}
use Rattle.lnbd_course.specs.Laws.{AsksSource, AsksDestination}
use Rattle.lnbd_course.proofs.Counting.{all_alike, calls_same, counted_alike, event_alike}
use Rattle.lnbd_course.proofs.Flushed.{destination_flushes, flush_asking, source_flushes}

-- Sides.

-- the same histories, link by link
abbrev pub Same : (one other : Histories) → Type 0
Same one other = (link : ℕ) → one link ≡ other link

pub same_track : (one other : Histories) (asked : List Request) → Same one other → AllTrack other asked → AllTrack one asked
same_track one other requests same all link = subst (λ h. Tracks link h requests) (sym (same link)) (all link)

pub on_here : (has : ℕ → Bool) (histories : Histories) (link : ℕ) → has link ≡ true → on_side has histories link ≡ histories link
on_here has histories link is = ap (λ (b : Bool). let none : History Ticket = [] in if b then histories link else none) is

off_here : (has : ℕ → Bool) (histories : Histories) (link : ℕ) → has link ≡ false → on_side has histories link ≡ []
off_here has histories link is = ap (λ (b : Bool). let none : History Ticket = [] in if b then histories link else none) is

pub alike : (has : ℕ → Bool) (one other : Histories) (link : ℕ) → one link ≡ other link → on_side has one link ≡ on_side has other link
alike has one other link same = ap (λ (h : History Ticket). let none : History Ticket = [] in if has link then h else none) same

module _ (link : ℕ) (event : Event Ticket) (before after : Histories) (happens : Happens link event before after) where
  -- on the side of the link
  pub side_happens : (has : ℕ → Bool) → has link ≡ true → Happens link event (on_side has before) (on_side has after)
  side_happens has is = record {
    here = on_here has after link is ∙ happens.here ∙ sym (ap (λ h. event ∷ h) (on_here has before link is));
    others = λ other differ. alike has after before other (happens.others other differ);
  }

  -- on the other side
  pub side_stays : (has : ℕ → Bool) → has link ≡ false → Same (on_side has after) (on_side has before)
  side_stays has is other = go (cases_eq link other)
    where
      go : (link ≡ other) ⊎ (link ≡ other → ⊥) → on_side has after other ≡ on_side has before other
      go (inl same) = subst (λ (n : ℕ). on_side has after n ≡ on_side has before n) same (off_here has after link is ∙ sym (off_here has before link is))
      go (inr differ) = alike has after before other (happens.others other (λ e. differ (sym e)))

-- What stands.

module _ (how : How) (has : ℕ → Bool) (slices : List Slice) (link : ℕ) (event : Event Ticket) (before after : Histories) (happens : Happens link event before after) where
  source_event : (now now' : board.Seen) → has link ≡ true → Stood how has slices now before → is_issue event ≡ false → Plays (OneByOne board.Files) event (before link) now now' → Stood how has slices now' after
  source_event now now' is s other plays =
      let k = source_keeps how link event (on_side has before) (on_side has after) (on_side (beside has) before) plays.calls now now' s.source s.destination s.reads s.changes other
      (side_happens link event before after happens has is) (subst (λ h. Adds event h plays.calls) (sym (on_here has before link is)) plays.told) plays.world in
      record {
        source = k.source2;
        destination = k.destination2;
        reads = k.reads;
        changes = same_track (on_side (beside has) after) (on_side (beside has) before) k.destination2 (side_stays link event before after happens (beside has) (ap not is)) k.changes;
        stands = λ none. (k.keeps none).on slices (s.stands (k.earlier none));
        counted = counted_alike now now' s.source s.destination k.source2 k.destination2 (calls_same plays.calls now now' plays.world)
            (event_alike link event (on_side has before) (on_side has after) s.source k.source2 (side_happens link event before after happens has is) other s.reads k.reads)
            (all_alike (on_side (beside has) before) s.destination k.destination2 s.changes k.changes) s.counted;
        flushed = source_flushes how slices link event (on_side has before) plays.calls now now' s.source s.destination k.destination2 s.reads
            (λ n c. (k.changes n).each c ∙ sym ((s.changes n).each c)) s.stands other
            (subst (λ h. Adds event h plays.calls) (sym (on_here has before link is)) plays.told) plays.world s.flushed;
      }

  destination_event : (now now' : board.Seen) → has link ≡ false → Stood how has slices now before → is_issue event ≡ false → Plays (OneByOne board.Files) event (before link) now now' → Stood how has slices now' after
  destination_event now now' is s other plays =
      let k = destination_keeps how link event (on_side has before) (on_side (beside has) before) (on_side (beside has) after) plays.calls now now' s.source s.destination s.reads s.changes other
      (side_happens link event before after happens (beside has) (ap not is)) (subst (λ h. Adds event h plays.calls) (sym (on_here (beside has) before link (ap not is))) plays.told) plays.world in
      record {
        source = k.source2;
        destination = k.destination2;
        reads = same_track (on_side has after) (on_side has before) k.source2 (side_stays link event before after happens has is) k.reads;
        changes = k.changes;
        stands = λ none. (k.keeps none).on slices (s.stands (k.earlier none));
        counted = counted_alike now now' s.source s.destination k.source2 k.destination2 (calls_same plays.calls now now' plays.world)
            (all_alike (on_side has before) s.source k.source2 s.reads k.reads)
            (event_alike link event (on_side (beside has) before) (on_side (beside has) after) s.destination k.destination2 (side_happens link event before after happens (beside has) (ap not is)) other s.changes k.changes) s.counted;
        flushed = destination_flushes how slices link event (on_side (beside has) before) (on_side (beside has) after) plays.calls now now' s.source s.destination k.destination2 s.changes k.changes s.stands other
            (side_happens link event before after happens (beside has) (ap not is)) (subst (λ h. Adds event h plays.calls) (sym (on_here (beside has) before link (ap not is))) plays.told) plays.world s.flushed;
      }

  -- whatever happens, but that the handle is asked
  pub event_stood : (now now' : board.Seen) → Stood how has slices now before → is_issue event ≡ false → Plays (OneByOne board.Files) event (before link) now now' → Stood how has slices now' after
  event_stood now now' s other plays = go (has link) refl
    where
      go : (b : Bool) → has link ≡ b → Stood how has slices now' after
      go true is = source_event now now' is s other plays
      go false is = destination_event now now' is s other plays

  -- what brings neither a command nor bytes nor an end
  pub quiet_stood : (now : board.Seen) → Stood how has slices now before → is_issue event ≡ false → is_coming event ≡ false → Stood how has slices now after
  quiet_stood now s other none = go (has link) refl
    where
      go : (b : Bool) → has link ≡ b → Stood how has slices now after
      go true is = record {
        source = s.source;
        destination = s.destination;
        reads = others_track link event (on_side has before) (on_side has after) s.source s.reads other none (side_happens link event before after happens has is);
        changes = same_track (on_side (beside has) after) (on_side (beside has) before) s.destination (side_stays link event before after happens (beside has) (ap not is)) s.changes;
        stands = s.stands;
        counted = s.counted;
        flushed = s.flushed;
      }
      go false is = record {
        source = s.source;
        destination = s.destination;
        reads = same_track (on_side has after) (on_side has before) s.source (side_stays link event before after happens has is) s.reads;
        changes = others_track link event (on_side (beside has) before) (on_side (beside has) after) s.destination s.changes other none (side_happens link event before after happens (beside has) (ap not is));
        stands = s.stands;
        counted = s.counted;
        flushed = s.flushed;
      }

-- a command that is asked of a side
module _ (how : How) (has : ℕ → Bool) (slices slices' : List Slice) (link : ℕ) (command : commands.Command Ticket) (before after : Histories) (happens : Happens link (Issue command) before after) (now now' : board.Seen) where
  abbrev next : (ℕ → Bool) → ℕ
  next side = (asked (on_side side before link)).issued + 1

  pub source_asked : has link ≡ true → AsksSource how command slices slices' now now' → Stood how has slices now before → Stood how has slices' now' after
  source_asked is asks s = record {
    source = asking link (next has) command.done (asked_by command) s.source;
    destination = s.destination;
    reads = issues_track link command (on_side has before) (on_side has after) s.source s.reads asks.bytes (side_happens link (Issue command) before after happens has is);
    changes = same_track (on_side (beside has) after) (on_side (beside has) before) s.destination (side_stays link (Issue command) before after happens (beside has) (ap not is)) s.changes;
    stands = λ none. asks.on s.source s.destination link (next has) (s.stands (asks.earlier none));
    counted = asks.counts s.source s.destination link (next has) s.counted;
    flushed = λ none told. s.flushed (asks.earlier none) (sym asks.flushed ∙ told);
  }

  pub destination_asked : has link ≡ false → AsksDestination how command slices slices' now now' → Stood how has slices now before → Stood how has slices' now' after
  destination_asked is asks s = record {
    source = s.source;
    destination = asking link (next (beside has)) command.done (asked_by command) s.destination;
    reads = same_track (on_side has after) (on_side has before) s.source (side_stays link (Issue command) before after happens has is) s.reads;
    changes = issues_track link command (on_side (beside has) before) (on_side (beside has) after) s.destination s.changes asks.bytes (side_happens link (Issue command) before after happens (beside has) (ap not is));
    stands = λ none. asks.on s.source s.destination link (next (beside has)) (s.stands (asks.earlier none));
    counted = asks.counts s.source s.destination link (next (beside has)) s.counted;
    flushed = λ none told. flush_asking link (next (beside has)) command.done (asked_by command) s.destination (s.flushed (asks.earlier none) (sym asks.flushed ∙ told));
  }

-- One link's history is another.

abbrev pub with_history : ℕ → History Ticket → Histories → Histories
with_history link history histories other = if link == other then history else histories other

pub with_here : (link : ℕ) (history : History Ticket) (histories : Histories) → with_history link history histories link ≡ history
with_here link history histories = ap (λ (b : Bool). if b then history else histories link) (eq-eqb link link refl)

pub with_others : (link : ℕ) (history : History Ticket) (histories : Histories) (other : ℕ) → other ≢ link → with_history link history histories other ≡ histories other
with_others link history histories other differ = ap (λ (b : Bool). if b then history else histories other) (ne_eqb link other (λ e. differ (sym e)))

pub with_happens : (link : ℕ) (event : Event Ticket) (histories : Histories) → Happens link event histories (with_history link (event ∷ histories link) histories)
with_happens link event histories = record { here = with_here link (event ∷ histories link) histories; others = with_others link (event ∷ histories link) histories }

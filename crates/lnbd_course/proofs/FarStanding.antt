-- What happens on one link, and what is asked of the file, keeps what stands of a copy of which one side is a file.
use Rattle.std.proofs.Common.{◌≡◌, ℕ, ◌+◌, ◌<◌, Bool, true, false, not, ◌&&◌, ◌==◌, List, [], ◌∷◌, ◌++◌, cond, length, Some, None, refl, ap, sym, subst, ◌∙◌, arith, if◌then◌else◌}
use Rattle.std.proofs.lemmas.Bool.{false≢true, ne_eqb}
use Rattle.lnbd_callbacks.specs.Calls.{Complete}
use Rattle.lnbd_callbacks.specs.Steps.{OneByOne}
use Rattle.lnbd_callbacks.specs.declared.caller.Verdict.TheVariants.{Retire}
use Rattle.lnbd_outcome.specs.Outcome.{Outcome, is_finished}
use Rattle.lnbd_handle.specs.Histories.{Plays}
use Rattle.lnbd_history.specs.Commands.{Command}
use Rattle.lnbd_history.specs.Commands as commands
use Rattle.lnbd_history.specs.Events.{Event, Issue}
use Rattle.lnbd_history.specs.History.{asked, reading}
use Rattle.lnbd_keyed.specs.Keyed.{value_at}
use Rattle.lnbd_asked.specs.Link.{Nobody}
use Rattle.lnbd_plan.specs.declared.grid.Slice.{Slice}
use Rattle.lnbd_board.specs.declared.how.How.{How}
use Rattle.lnbd_board.specs.declared.row.Row.{Row}
use Rattle.lnbd_board.specs.declared.ticket.Ticket.{Ticket}
use Rattle.lnbd_board.specs.declared.ticket.Ticket.TheVariants as ticket
use Rattle.lnbd_board.specs.Asks.{Keeps}
use Rattle.lnbd_board.specs.Files as board
use Rattle.lnbd_board.specs.Files.{came_with, is_unfit, or_error, rows_with}
use Rattle.lnbd_board.specs.Requests.{Request, Suits, asking, done_with, is_slice, is_waiting, request, unanswered}
use Rattle.lnbd_board.specs.Rows.{Stands}
use Rattle.lnbd_onesided.specs.Dealt.{AreApart, found}
use Rattle.lnbd_onesided.specs.Desk.{Completes, done_more, no_link}
use Rattle.lnbd_onesided.proofs.AloneLemmas.{source_alone_keeps, destination_alone_keeps}
use Rattle.lnbd_onesided.proofs.DeskLemmas.{change_comes, read_comes}
use Rattle.lnbd_tracks.specs.Laws.{IsDone, asked_by, is_coming}
use Rattle.lnbd_tracks.specs.Mapping.{ToldAlike}
use Rattle.lnbd_tracks.specs.Tracks.{Histories, Happens, NoneFails, is_issue}
use Rattle.lnbd_tracks.proofs.Calling.{none_earlier}
use Rattle.lnbd_tracks.proofs.Sides.{issues_track, nothing_tracks, others_track}
use Rattle.lnbd_course.specs.Counted.{CountsSame, HasNotCounted, IsCounted, flushes_of, total}
use Rattle.lnbd_course.specs.Far.{Far, FarStood, FromFile, ToFile, AreNumbered, AsksFar, AsksNear, destination_of, done_by, source_of, with_done}
use Rattle.lnbd_course.specs.Laws.{AsksSource, AsksDestination}
use Rattle.lnbd_course.proofs.Counting.{calls_same, counted_alike, counted_same, counted_totals, event_alike, nothing_counted}
use Rattle.lnbd_course.proofs.Flushed.{destination_flushes, flush_asking, flush_more, source_flushes}
use Rattle.lnbd_course.proofs.Holding.{no_history, stands_so}
use Rattle.lnbd_board.proofs.Turning.{nothing_stands}

-- The file's requests.

-- One more takes the next cookie.
numbered_more : (first cookie : ℕ) (xs : List Request) (r : Request) → r.link ≡ no_link → r.cookie ≡ cookie → IsDone r.said.outcome → cookie ≡ first + length xs → AreNumbered first xs →
    AreNumbered first (xs ++ r ∷ [])
numbered_more first cookie [] r on by over is numbered = ((on, let e = by in let f = is in omega (arith, e, f), over), tt)
numbered_more first cookie (x ∷ xs) r on by over is numbered = (numbered.0, numbered_more (first + 1) cookie xs r on by over (let e = is in omega (arith, e)) numbered.1)

and_false : (a b : Bool) → b ≡ false → (a && b) ≡ false
and_false true b e = e
and_false false b e = refl

none_below : (first link cookie : ℕ) (xs : List Request) → AreNumbered first xs → cookie < first → found xs link cookie ≡ None
none_below first link cookie [] numbered l = refl
none_below first link cookie (x ∷ xs) numbered l =
    let by : x.cookie ≡ first = numbered.0.1 in
    let not : ((x.link == link) && (x.cookie == cookie)) ≡ false = and_false (x.link == link) (x.cookie == cookie) (ne_eqb x.cookie cookie (λ e. let f = e in omega (arith, by, f, l))) in
    ap (λ (b : Bool). cond b (Some x) (found xs link cookie)) not ∙ none_below (first + 1) link cookie xs numbered.1 (let m = l in omega (arith, m))

-- So they are apart.
pub numbered_apart : (first : ℕ) (xs : List Request) → AreNumbered first xs → AreApart xs
numbered_apart first [] numbered = tt
numbered_apart first (x ∷ xs) numbered = (none_below (first + 1) x.link x.cookie xs numbered.1 (let by = numbered.0.1 in omega (arith, by)), numbered_apart (first + 1) xs numbered.1)

-- None of them waits.
pub numbered_answered : (first : ℕ) (xs : List Request) → AreNumbered first xs → unanswered xs ≡ 0
numbered_answered first [] numbered = refl
numbered_answered first (x ∷ xs) numbered =
    let rest = numbered_answered (first + 1) xs numbered.1 in
    let waits : (is_slice x.ticket && is_waiting x.said) ≡ false = ap (λ (o : Outcome). is_slice x.ticket && not (is_finished o)) numbered.0.2.is ∙ and_false (is_slice x.ticket) false refl in
    let none : cond {A = ℕ} (is_slice x.ticket && is_waiting x.said) 1 0 ≡ 0 = ap (λ (b : Bool). cond {A = ℕ} b 1 0) waits in
    omega (arith, rest, none)

-- What is done counts as what was asked.
done_totals : (weight : Command Nobody → ℕ) (link cookie : ℕ) (by : Ticket) (command : Command Nobody) (bytes : List ℕ) (xs : List Request) →
    total weight (asking link cookie by command xs) ≡ total weight (xs ++ request link cookie by (done_with command bytes) ∷ [])
done_totals weight link cookie by command bytes [] = refl
done_totals weight link cookie by command bytes (x ∷ xs) = ap (λ (n : ℕ). weight x.said.command + n) (done_totals weight link cookie by command bytes xs)

-- What a board is after a completion of a slice: it has an error, or its rows changed.
completed : (n : ℕ) (bytes : List ℕ) (next after : board.Seen) → Completes n bytes next after → (P : board.Seen → Type 0) → P (record next { error = or_error next.error 71 }) →
    P (record next { rows = rows_with (value_at n next.rows) n bytes next.rows; came = came_with (value_at n next.rows) n next.came }) → P after
completed n bytes next after c P failed came = subst P (sym (c.1.1 ∙ c.1.0.1)) (go (is_unfit (value_at n next.rows) bytes))
  where
    go : (b : Bool) → P (if b then record next { error = or_error next.error 71 } else record next {
      rows = rows_with (value_at n next.rows) n bytes next.rows;
      came =
          came_with (value_at n next.rows) n next.came;
    })
    go true = failed
    go false = came

pub completed_alike : (n : ℕ) (bytes : List ℕ) (next after : board.Seen) → Completes n bytes next after → ToldAlike next after
completed_alike n bytes next after c = completed n bytes next after c (ToldAlike next) (record { told = refl; mapped = refl; short = refl }) (record { told = refl; mapped = refl; short = refl })

completed_flushed : (n : ℕ) (bytes : List ℕ) (next after : board.Seen) → Completes n bytes next after → after.flushed ≡ next.flushed
completed_flushed n bytes next after c = completed n bytes next after c (λ s. s.flushed ≡ next.flushed) refl refl

pub completed_earlier : (n : ℕ) (bytes : List ℕ) (next after : board.Seen) → Completes n bytes next after → after.error ≡ None → next.error ≡ None
completed_earlier n bytes next after c none = none_earlier (Complete (ticket.Slice n) 0 bytes Retire ∷ []) next after c none

-- A request that the file is asked is done at once.

module _ (how : How) (slices slices' : List Slice) (now next after : board.Seen) (histories : Histories) (command : commands.Command Ticket) (n : ℕ) (bytes : List ℕ)
    (by : command.done ≡ ticket.Slice n) (suits : Suits (asked_by command) bytes) (completes : Completes n bytes next after) where
  abbrev by_slice : (asked : List Request) → List Request
  by_slice asked = asking no_link (length asked) (ticket.Slice n) (asked_by command) asked

  abbrev more : (asked : List Request) → List Request
  more asked = done_more (length asked) n (asked_by command) bytes asked

  more_numbered : (asked : List Request) → AreNumbered 0 asked → AreNumbered 0 (more asked)
  more_numbered asked numbered =
      numbered_more 0 (length asked) asked (request no_link (length asked) (ticket.Slice n) (done_with (asked_by command) bytes)) refl refl (record { bytes = bytes; is = refl }) (omega arith) numbered

  to_file_done : (done : List Request) → AsksDestination how command slices slices' now next → FarStood (ToFile done) how slices now histories →
      FarStood (ToFile (more done)) how slices' after histories
  to_file_done done asks s = record {
    asked = s.asked;
    tracked = s.tracked;
    numbered = more_numbered done s.numbered;
    stands = λ none.
        let well = completed_earlier n bytes next after completes none in
        (change_comes how n (length done) (asked_by command) bytes next after s.asked done suits completes none).on slices'
        (subst (λ (t : Ticket). Stands how slices' next.rows s.asked (asking no_link (length done) t (asked_by command) done)) by
        (asks.on s.asked done no_link (length done) (s.stands (asks.earlier well))));
    counted = counted_totals next after s.asked (by_slice done) s.asked (more done) (calls_same (Complete (ticket.Slice n) 0 bytes Retire ∷ []) next after completes) (λ weight. refl)
        (λ weight. done_totals weight no_link (length done) (ticket.Slice n) (asked_by command) bytes done)
        (subst (λ (t : Ticket). IsCounted next s.asked (asking no_link (length done) t (asked_by command) done)) by (asks.counts s.asked done no_link (length done) s.counted));
    flushed = λ none told.
        flush_more (request no_link (length done) (ticket.Slice n) (done_with (asked_by command) bytes)) done
        (s.flushed (asks.earlier (completed_earlier n bytes next after completes none)) (sym asks.flushed ∙ sym (completed_flushed n bytes next after completes) ∙ told));
  }

  from_file_done : (done : List Request) → AsksSource how command slices slices' now next → FarStood (FromFile done) how slices now histories →
      FarStood (FromFile (more done)) how slices' after histories
  from_file_done done asks s = record {
    asked = s.asked;
    tracked = s.tracked;
    numbered = more_numbered done s.numbered;
    stands = λ none.
        let well = completed_earlier n bytes next after completes none in
        (read_comes how n (length done) (asked_by command) bytes next after done s.asked suits completes none).on slices'
        (subst (λ (t : Ticket). Stands how slices' next.rows (asking no_link (length done) t (asked_by command) done) s.asked) by
        (asks.on done s.asked no_link (length done) (s.stands (asks.earlier well))));
    counted = counted_totals next after (by_slice done) s.asked (more done) s.asked (calls_same (Complete (ticket.Slice n) 0 bytes Retire ∷ []) next after completes)
        (λ weight. done_totals weight no_link (length done) (ticket.Slice n) (asked_by command) bytes done) (λ weight. refl)
        (subst (λ (t : Ticket). IsCounted next (asking no_link (length done) t (asked_by command) done) s.asked) by (asks.counts done s.asked no_link (length done) s.counted));
    flushed = λ none told. s.flushed (asks.earlier (completed_earlier n bytes next after completes none)) (sym asks.flushed ∙ sym (completed_flushed n bytes next after completes) ∙ told);
  }

  pub far_done : (far : Far) → AsksFar far how command slices slices' now next → FarStood far how slices now histories → FarStood (with_done n (asked_by command) bytes far) how slices' after histories
  far_done (FromFile done) asks s = from_file_done done asks s
  far_done (ToFile done) asks s = to_file_done done asks s

-- What happens on a handle, but that it is asked, where its calls lead from one board to the other.

module _ (how : How) (slices : List Slice) (link : ℕ) (event : Event Ticket) (before after : Histories) (happens : Happens link event before after) where
  to_file_event : (now now' : board.Seen) (done : List Request) → FarStood (ToFile done) how slices now before → is_issue event ≡ false → Plays (OneByOne board.Files) event (before link) now now' →
      FarStood (ToFile done) how slices now' after
  to_file_event now now' done s other plays =
      let k = source_alone_keeps how link event before after plays.calls now now' s.asked done s.tracked other happens plays.told plays.world in
      record {
        asked = k.source2;
        tracked = k.reads;
        numbered = s.numbered;
        stands = λ none. (k.keeps none).on slices (s.stands (k.earlier none));
        counted = counted_alike now now' s.asked done k.source2 done (calls_same plays.calls now now' plays.world)
            (event_alike link event before after s.asked k.source2 happens other s.tracked k.reads) (λ n cookie. refl) s.counted;
        flushed = source_flushes how slices link event before plays.calls now now' s.asked done done s.tracked (λ n cookie. refl) s.stands other plays.told plays.world s.flushed;
      }

  from_file_event : (now now' : board.Seen) (done : List Request) → FarStood (FromFile done) how slices now before → is_issue event ≡ false →
      Plays (OneByOne board.Files) event (before link) now now' → FarStood (FromFile done) how slices now' after
  from_file_event now now' done s other plays =
      let k = destination_alone_keeps how link event before after plays.calls now now' done s.asked s.tracked other happens plays.told plays.world in
      record {
        asked = k.destination2;
        tracked = k.changes;
        numbered = s.numbered;
        stands = λ none. (k.keeps none).on slices (s.stands (k.earlier none));
        counted = counted_alike now now' done s.asked done k.destination2 (calls_same plays.calls now now' plays.world) (λ n cookie. refl)
            (event_alike link event before after s.asked k.destination2 happens other s.tracked k.changes) s.counted;
        flushed = destination_flushes how slices link event before after plays.calls now now' done s.asked k.destination2 s.tracked k.changes s.stands other happens plays.told plays.world s.flushed;
      }

  pub far_event : (far : Far) (now now' : board.Seen) → FarStood far how slices now before → is_issue event ≡ false → Plays (OneByOne board.Files) event (before link) now now' →
      FarStood far how slices now' after
  far_event (FromFile done) now now' s other plays = from_file_event now now' done s other plays
  far_event (ToFile done) now now' s other plays = to_file_event now now' done s other plays

  -- what brings neither a command nor bytes nor an end
  pub far_quiet : (far : Far) (now : board.Seen) → FarStood far how slices now before → is_issue event ≡ false → is_coming event ≡ false → FarStood far how slices now after
  far_quiet far now s other none = record {
    asked = s.asked;
    tracked = others_track link event before after s.asked s.tracked other none happens;
    numbered = s.numbered;
    stands = s.stands;
    counted =
        s.counted;
    flushed = s.flushed;
  }

-- a command that the export is asked
module _ (how : How) (slices slices' : List Slice) (link : ℕ) (command : commands.Command Ticket) (before after : Histories) (happens : Happens link (Issue command) before after)
    (now now' : board.Seen) where
  abbrev next : ℕ
  next = (asked (before link)).issued + 1

  pub near_asked : (far : Far) → AsksNear far how command slices slices' now now' → FarStood far how slices now before → FarStood far how slices' now' after
  near_asked (FromFile done) asks s = record {
    asked = asking link next command.done (asked_by command) s.asked;
    tracked = issues_track link command before after s.asked s.tracked asks.bytes happens;
    numbered = s.numbered;
    stands = λ none. asks.on done s.asked link next (s.stands (asks.earlier none));
    counted = asks.counts done s.asked link next s.counted;
    flushed = λ none told. flush_asking link next command.done (asked_by command) s.asked (s.flushed (asks.earlier none) (sym asks.flushed ∙ told));
  }
  near_asked (ToFile done) asks s = record {
    asked = asking link next command.done (asked_by command) s.asked;
    tracked = issues_track link command before after s.asked s.tracked asks.bytes happens;
    numbered = s.numbered;
    stands = λ none. asks.on s.asked done link next (s.stands (asks.earlier none));
    counted = asks.counts s.asked done link next s.counted;
    flushed = λ none told. s.flushed (asks.earlier none) (sym asks.flushed ∙ told);
  }

pub near_earlier : (far : Far) (how : How) (command : commands.Command Ticket) (slices slices' : List Slice) (now now' : board.Seen) → AsksNear far how command slices slices' now now' →
    now'.error ≡ None → now.error ≡ None
near_earlier (FromFile done) how command slices slices' now now' asks = asks.earlier
near_earlier (ToFile done) how command slices slices' now now' asks = asks.earlier

-- Boards.

-- one that goes on and asks nothing
pub far_moves : (far : Far) (how : How) (slices : List Slice) (now now' : board.Seen) (histories : Histories) → (now'.error ≡ None → now.error ≡ None) → CountsSame now now' →
    ((source destination : List Request) → Keeps how now.rows source destination now'.rows source destination) →
    FarStood far how slices now histories → FarStood far how slices now' histories
far_moves far how slices now now' histories earlier same keeps s = record {
  asked = s.asked;
  tracked = s.tracked;
  numbered = s.numbered;
  stands = λ none. (keeps (source_of far s.asked) (destination_of far s.asked)).on slices (s.stands (earlier none));
  counted = counted_same now now' (source_of far s.asked) (destination_of far s.asked) same s.counted;
  flushed = λ none told. s.flushed (earlier none) (sym same.flushed ∙ told);
}

-- another, of a copy that writes otherwise, before any slice is begun
pub far_settles : (far : Far) (how how' : How) (now now' : board.Seen) (histories : Histories) → now.rows ≡ [] → now.error ≡ None → now.flushing ≡ false → now'.rows ≡ [] → HasNotCounted now' →
    FarStood far how [] now histories → FarStood far how' [] now' histories
far_settles far how how' now now' histories none well unflushed none' uncounted s = record {
  asked = s.asked;
  tracked = s.tracked;
  numbered = s.numbered;
  stands = λ e. subst (λ (rows : List (ℕ × Row)). Stands how' [] rows (source_of far s.asked) (destination_of far s.asked)) (sym none')
      (stands_so how how' (source_of far s.asked) (destination_of far s.asked) (subst (λ (rows : List (ℕ × Row)). Stands how [] rows (source_of far s.asked) (destination_of far s.asked)) none
      (s.stands well)));
  counted = nothing_counted how now.rows now' (source_of far s.asked) (destination_of far s.asked) (s.stands well) (s.counted.flushes ∙ ap (λ (b : Bool). cond b 1 0) unflushed) uncounted;
  flushed = λ none told. absurd (false≢true (sym uncounted.flushed ∙ told));
}

-- and the first
pub far_begins : (far : Far) (how : How) (now : board.Seen) → done_by far ≡ [] → now.rows ≡ [] → HasNotCounted now → FarStood far how [] now no_history
far_begins far how now unasked none uncounted = record {
  asked = [];
  tracked = nothing_tracks;
  numbered = subst (AreNumbered 0) (sym unasked) tt;
  stands = λ e. stands;
  counted = nothing_counted how now.rows now (source_of far []) (destination_of far []) stands (ap flushes_of both.1) uncounted;
  flushed = λ none told. absurd (false≢true (sym uncounted.flushed ∙ told));
}
  where
    sides : (f : Far) → done_by f ≡ [] → (source_of f [] ≡ []) × (destination_of f [] ≡ [])
    sides (FromFile done) e = (e, refl)
    sides (ToFile done) e = (refl, e)

    both : (source_of far [] ≡ []) × (destination_of far [] ≡ [])
    both = sides far unasked

    stands : Stands how [] now.rows (source_of far []) (destination_of far [])
    stands =
        subst (λ (xs : List Request). Stands how [] now.rows xs (destination_of far [])) (sym both.0)
        (subst (λ (xs : List Request). Stands how [] now.rows [] xs) (sym both.1) (subst (λ (rows : List (ℕ × Row)). Stands how [] rows [] []) (sym none) (nothing_stands how)))

-- No callback answered an error.
pub far_none_fails : (far : Far) (how : How) (slices : List Slice) (now : board.Seen) (histories : Histories) (link : ℕ) → FarStood far how slices now histories →
    NoneFails (reading (histories link)).known.entries
far_none_fails far how slices now histories link s = (s.tracked link).well

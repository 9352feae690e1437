-- What a job does keeps a copy from an export to a file on its way: its slices go on and begin, extents are asked for and heard, and in the end all connections part.
use Rattle.std.proofs.Common.{◌≡◌, ◌⊎◌, ◌≤◌, ◌+◌, ◌-◌, ◌||◌, inl, inr, ℕ, Bool, true, false, List, [], ◌∷◌, ◌++◌}
use Rattle.std.proofs.Common.{length, cond, Option, Some, None, if◌then◌else◌, refl, ap, sym, subst, ◌∙◌, arith, nat_lt, append_assoc, append-nil, length-append}
use Rattle.std.proofs.lemmas.Bool.{false≢true}
use Rattle.lnbd_link.specs.Call as wire
use Rattle.lnbd_model.specs.Kind.{is_read}
use Rattle.lnbd_model.specs.declared.export.Extent.{Extent}
use Rattle.lnbd_handle.specs.Issues.{block_status_of, read_of}
use Rattle.lnbd_history.specs.Events.{Issue}
use Rattle.lnbd_extents.specs.Positions.{within}
use Rattle.lnbd_asked.specs.Honest.{changes}
use Rattle.lnbd_asked.specs.Transcript.{zero_in}
use Rattle.lnbd_poll.specs.Held.{Held}
use Rattle.lnbd_drives.specs.Driving.{with_event}
use Rattle.lnbd_plan.specs.declared.grid.Slice.{Slice}
use Rattle.lnbd_board.specs.declared.ask.Ask.TheVariants as ask
use Rattle.lnbd_board.specs.declared.how.How.{How}
use Rattle.lnbd_board.specs.declared.ticket.Ticket.{Ticket}
use Rattle.lnbd_board.specs.declared.ticket.Ticket.TheVariants as ticket
use Rattle.lnbd_board.specs.Asks.{change_of}
use Rattle.lnbd_board.specs.Board.{first_row}
use Rattle.lnbd_board.specs.Files as board
use Rattle.lnbd_board.specs.Files.{came_with, is_unfit, or_error, rows_with}
use Rattle.lnbd_board.specs.Requests.{Request, asking}
use Rattle.lnbd_board.specs.Rows as rows
use Rattle.lnbd_board.proofs.Turning.{extents_kept}
use Rattle.lnbd_keyed.specs.Keyed.{value_at}
use Rattle.lnbd_onesided.specs.Desk.{Completes, done_more}
use Rattle.lnbd_tracks.specs.Laws.{asked_by}
use Rattle.lnbd_tracks.specs.Mapping.{HoldsZero}
use Rattle.lnbd_course.specs.Counted.{bytes_of, up_to_end}
use Rattle.lnbd_course.specs.Far.{Far, ToFile}
use Rattle.lnbd_course.specs.FarCourse.{FarCourse}
use Rattle.lnbd_course.specs.Laws.{AsksSource}
use Rattle.lnbd_course.specs.Taken.{without_buffer}
use Rattle.lnbd_course.specs.Told.{Known}
use Rattle.lnbd_course.proofs.Counting.{bytes_beside}
use Rattle.lnbd_course.proofs.FarStanding.{completed_earlier}
use Rattle.lnbd_course.proofs.Orders.{beginning_asks}
use Rattle.lnbd_conduct.specs.Slices.{cells_of}
use Rattle.lnbd_copy.specs.Asked.{IsAsked}
use Rattle.lnbd_copy.specs.Heard.{IsHeardTo, passed_heard}
use Rattle.lnbd_copy.specs.Reached.{IsToldTo, told_heard}
use Rattle.lnbd_copy.specs.Spared.{IsSpared, whole_heard}
use Rattle.lnbd_copy.specs.Windows as windows
use Rattle.lnbd_copy.proofs.BindingLemmas.{Binds as BindsRow, binds_first, binds_none}
use Rattle.lnbd_copy.proofs.SparedLemmas.{spared_none}
use Rattle.lnbd_copy.proofs.ToldLemmas.{told_handed}
use Rattle.lnbd_copy.proofs.WindowLemmas.{and_left, and_right, or_cases, or_first, or_second}
use Rattle.lnbd_store.specs.Shelf.{Shelf}
use Rattle.lnbd_touched.specs.Grown.{RoseBy}
use Rattle.lnbd_touched.proofs.GrownLemmas.{rose_none, rose_then}
use Rattle.lnbd_touched.proofs.TouchLemmas.{touches_none, touches_then}
use Rattle.lnbd_connections.specs.Bound.{BindsStill, IsBound}
use Rattle.lnbd_connections.specs.Steps.{Parts}
use Rattle.lnbd_connections.specs.Way.{IsUnderWay, Way, with_slices}
use Rattle.lnbd_connections.proofs.BoundLemmas.{on_dealt}
use Rattle.lnbd_connections.proofs.BoundWay.{bound_asked, bound_heard, bound_listened, bound_moved, bound_unheard}
use Rattle.lnbd_connections.proofs.WayLemmas.{way_asked, way_heard, way_listened, way_unheard}
use Rattle.lnbd_copyfile.specs.declared.desk.First.{First}
use Rattle.lnbd_copyfile.specs.declared.desk.First.TheVariants as first
use Rattle.lnbd_copyfile.specs.Jobs.{AreOfOne, Seen}
use Rattle.lnbd_copyfile.specs.Making.{Changed, Ended, HasBegun, HasMadeFirst, IsBegun, MadeMore, MakesChanges, Rested, WentOn}
use Rattle.lnbd_copyfile.specs.ToFileJob.{Acts, Begins, IsFurther, IsJob, IsOver, anywhere, with_asked, with_heard}
use Rattle.lnbd_copyfile.proofs.BoundRows.{binds_made, went_earlier, went_same}
use Rattle.lnbd_copyfile.proofs.FarLemmas.{beginning_keeps, first_counts, going_keeps}
use Rattle.lnbd_copyfile.proofs.MadeLemmas.{bytes_joined, made_none, made_then}

-- One step after another.

one_same : (way : Way) → AreOfOne way way
one_same way = record { at = refl; size = refl; how = refl }

one_then : (a b c : Way) → AreOfOne a b → AreOfOne b c → AreOfOne a c
one_then a b c first second = record { at = second.at ∙ first.at; size = second.size ∙ first.size; how = second.how ∙ first.how }

module _ (file : ℕ) where
  -- a step that does nothing of the file
  further_near : (made : List Request) (way way' : Way) (job' : Seen) (now now' : board.Seen) (held held' : List (Held Ticket)) (shelf : Option Shelf) (taken : ℕ) → AreOfOne way way'
      → IsJob job' way' now'
      → ((calls : List wire.Call) → IsUnderWay (ToFile made) way now calls held → IsUnderWay (ToFile made) way' now' calls held')
      → (job'.is_parting ≡ false → (calls : List wire.Call) → IsBound true (ToFile made) way now calls held → IsBound true (ToFile made) way' now' calls held')
      → IsFurther file made way job' now now' held held' shelf shelf taken taken
  further_near made way way' job' now now' held held' shelf taken one has on bound = record {
    way' = way';
    more = [];
    one = one;
    job = has;
    on = λ calls was. subst (λ (xs : List Request). IsUnderWay (ToFile xs) way' now' calls held') (sym (append-nil made)) (on calls was);
    bound = λ copying calls was. subst (λ (xs : List Request). IsBound true (ToFile xs) way' now' calls held') (sym (append-nil made)) (bound copying calls was);
    touched = touches_none file (MadeMore made []) shelf (λ x. made_none made x);
    took = rose_none taken;
  }

  pub acts_none : (job : Seen) (now : board.Seen) (held : List (Held Ticket)) (shelf : Option Shelf) (taken : ℕ) → Acts file job job now now held held shelf shelf taken taken
  acts_none job now held shelf taken = record {
    stand = λ s. s;
    on = λ made way had. further_near made way way job now now held held shelf taken (one_same way) had (λ calls was. was) (λ copying
        calls was. was);
    parts = λ parts. parts;
  }

  -- what does not part in the end did not before
  not_parted : (b c : Bool) → (b ≡ true → c ≡ true) → c ≡ false → b ≡ false
  not_parted true c parts e = absurd (false≢true (sym e ∙ parts refl))
  not_parted false c parts e = refl

  pub acts_then : (a b c : Seen) (m n o : board.Seen) (h k l : List (Held Ticket)) (x y z : Option Shelf) (t u v : ℕ) → Acts file a b m n h k x y t u → Acts file b c n o k l y z u v
      → Acts file a c m o h l x z t v
  acts_then a b c m n o h k l x y z t u v first second = record {
    stand = λ s. second.stand (first.stand s);
    on = λ made way had.
        let one = first.on made way had in
        let two = second.on (made ++ one.more) one.way' one.job in
        let all : (made ++ one.more) ++ two.more ≡ made ++ (one.more ++ two.more) = append_assoc made one.more two.more in
        record {
          way' = two.way';
          more = one.more ++ two.more;
          one = one_then way one.way' two.way' one.one two.one;
          job = two.job;
          on = λ calls was. subst (λ (xs : List Request). IsUnderWay (ToFile xs) two.way' o calls l) all (two.on calls (one.on calls was));
          bound = λ copying calls was. subst (λ (xs : List Request). IsBound true (ToFile xs) two.way' o calls l) all
              (two.bound copying calls (one.bound (not_parted b.is_parting c.is_parting second.parts copying) calls was));
          touched = touches_then file (MadeMore made one.more) (MadeMore (made ++ one.more) two.more) (MadeMore made (one.more ++ two.more)) x y z
              (λ p q r f g. made_then made one.more two.more p q r f g) one.touched two.touched;
          took = subst (λ (n : ℕ). RoseBy n t v) (sym (bytes_joined changes one.more two.more)) (rose_then (bytes_of changes one.more) (bytes_of changes two.more) t u v one.took two.took);
        };
    parts = λ parts. second.parts (first.parts parts);
  }

  -- a job as it is, with slices bound otherwise
  bound_job : (job : Seen) (bound : List ℕ) (way : Way) (now : board.Seen) → IsJob job way now → IsJob (record job { bound = bound }) way now
  bound_job job bound way now had = record {
    size = had.size;
    how = had.how;
    writes = had.writes;
    ends = had.ends;
    cells = had.cells;
    planned = had.planned;
    grain = had.grain;
    spared = had.spared;
    asked = had.asked;
    heard = had.heard;
    reached = had.reached;
    over = λ parts. (let over = had.over parts in record { planned = over.planned; handed = over.handed; heard = over.heard; rows = over.rows });
  }

  pub acts_bound : (a b c : Seen) (m n : board.Seen) (h k : List (Held Ticket)) (x y : Option Shelf) (t u : ℕ) → c ≡ record b { bound = c.bound } → Acts file a b m n h k x y t u
      → Acts file a c m n h k x y t u
  acts_bound a b c m n h k x y t u is acts = subst (λ (j : Seen). Acts file a j m n h k x y t u) (sym is) (record {
    stand = acts.stand;
    on = λ made way had.
        let one = acts.on made way had in
        record {
          way' = one.way';
          more = one.more;
          one = one.one;
          job = bound_job b c.bound one.way' n one.job;
          on = one.on;
          bound = one.bound;
          touched = one.touched;
          took = one.took;
        };
    parts = acts.parts;
  })

  pub acts_forgotten : (a b : Seen) (m n : board.Seen) (h k l : List (Held Ticket)) (x y : Option Shelf) (t u : ℕ) → Acts file a b m n h k x y t u → Parts n k l → BindsStill n k l
      → Acts file a b m n h l x y t u
  acts_forgotten a b m n h k l x y t u acts forgets still = record {
    stand = λ s. forgets.stand (acts.stand s);
    on = λ made way had.
        let one = acts.on made way had in
        record {
          way' = one.way';
          more = one.more;
          one = one.one;
          job = one.job;
          on = λ calls was. forgets.on (ToFile (made ++ one.more)) one.way' calls (one.on calls was);
          bound = λ copying calls was. still.on true (ToFile (made ++ one.more)) one.way' calls (one.bound copying calls was);
          touched = one.touched;
          took = one.took;
        };
    parts = acts.parts;
  }

-- Slices go on.

completed_begun : (n : ℕ) (bytes : List ℕ) (next after : board.Seen) → Completes n bytes next after → after.begun ≡ next.begun
completed_begun n bytes next after c = ap (λ (s : board.Seen). s.begun) (c.1.1 ∙ c.1.0.1) ∙ go (is_unfit (value_at n next.rows) bytes)
  where
    go : (b : Bool) → (if b then record next { error = or_error next.error 71 } else record next {
      rows = rows_with (value_at n next.rows) n bytes next.rows;
      came = came_with (value_at n next.rows) n next.came;
    }).begun ≡ next.begun
    go true = refl
    go false = refl

went_begun : (how : How) (now now2 : board.Seen) (made made2 : List Request) → WentOn how now made now2 made2 → now2.begun ≡ now.begun
went_begun how now now2 made made2 (Rested _ _ _ _ same none) = ap (λ (s : board.Seen). s.begun) same
went_begun how now now2 made made2 (Ended _ mid _ _ _ n source destination ends more) = went_begun how mid now2 made made2 more ∙ ap (λ (s : board.Seen). s.begun) ends.now
went_begun how now now2 made made2 (Changed _ mid back _ _ _ n destination one asks came more) =
    went_begun how back now2 (done_more (length made) n (change_of one) (change_of one).payload made) made2 more ∙ completed_begun n (change_of one).payload mid back came
    ∙ ap (λ (s : board.Seen). s.begun) asks.now

went_on_way : (how : How) (way : Way) (now now2 : board.Seen) (made made2 : List Request) (calls : List wire.Call) (held : List (Held Ticket)) → way.how ≡ how → WentOn how now made now2 made2
    → IsUnderWay (ToFile made) way now calls held → IsUnderWay (ToFile made2) way now2 calls held
went_on_way how way now now2 made made2 calls held same went on = record {
  seens = on.seens;
  at = on.at;
  begun = on.begun ∙ sym (went_begun how now now2 made made2 went);
  stands = going_keeps way.how way.at way.size way.slices calls on.seens way.asked way.known now now2 made made2 (subst (λ (h : How). WentOn h now made now2 made2) (sym same) went) on.stands;
}

went_on_bound : (how : How) (way : Way) (now now2 : board.Seen) (made made2 : List Request) (calls : List wire.Call) (held : List (Held Ticket)) → way.how ≡ how → WentOn how now made now2 made2
    → IsBound true (ToFile made) way now calls held → IsBound true (ToFile made2) way now2 calls held
went_on_bound how way now now2 made made2 calls held same went on =
    bound_moved true (ToFile made) way now calls held on now2 (ToFile made2) (went_begun how now now2 made made2 went) (went_earlier how now now2 made made2 went) (went_same how now now2 made
    made2 went)
    (going_keeps way.how way.at way.size way.slices calls on.seens way.asked way.known now now2 made made2 (subst (λ (h : How). WentOn h now made now2 made2) (sym same) went) on.stands)

-- a job that goes on has its board go on
job_on : (job : Seen) (way : Way) (now now' : board.Seen) → job.is_parting ≡ false → now'.how ≡ now.how → IsJob job way now → IsJob job way now'
job_on job way now now' copying writes had = record {
  size = had.size;
  how = had.how;
  writes = writes ∙ had.writes;
  ends = had.ends;
  cells = had.cells;
  planned = had.planned;
  grain = had.grain;
  spared = had.spared;
  asked = had.asked;
  heard = had.heard;
  reached = had.reached;
  over = λ parts. absurd (false≢true (sym copying ∙ parts));
}

pub acts_made : (file : ℕ) (job : Seen) (now now' : board.Seen) (held : List (Held Ticket)) (old new : Option Shelf) (taken taken' : ℕ) → now.how ≡ job.terms.how → job.is_parting ≡ false
    → now'.how ≡ now.how
    → MakesChanges now.how file now now' old new taken taken' → Acts file job job now now' held held old new taken taken'
acts_made file job now now' held old new taken taken' how copying writes makes = record {
  stand = λ s. s;
  on = λ made way had.
      let one = makes.on made in
      record {
        way' = way;
        more = one.more;
        one = one_same way;
        job = job_on job way now now' copying writes had;
        on = λ calls was. went_on_way now.how way now now' made (made ++ one.more) calls held (had.how ∙ sym how) one.went was;
        bound = λ copying calls was. went_on_bound now.how way now now' made (made ++ one.more) calls held (had.how ∙ sym how) one.went was;
        touched = one.touched;
        took = one.took;
      };
  parts = λ parts. parts;
}

-- and then some are bound no more
pub acts_went : (file : ℕ) (first job job' : Seen) (start now now' : board.Seen) (held : List (Held Ticket)) (was old new : Option Shelf) (before taken taken' : ℕ) → now.how ≡ job.terms.how
    → job.is_parting ≡ false
    → now'.how ≡ now.how → job' ≡ record job { bound = job'.bound } → Acts file first job start now held held was old before taken → MakesChanges now.how file now now' old new taken taken'
    → Acts file first job' start now' held held was new before taken'
acts_went file first job job' start now now' held was old new before taken taken' how copying writes is acts makes =
    acts_bound file first job job' start now' held held was new before taken' is
    (acts_then file first job job start now now' held held held was old new before taken taken' acts (acts_made file job now now' held old new taken taken' how copying writes makes))

-- Extents are heard.

heard_in : (known : Known) (range : ℕ × ℕ) (now : board.Seen) (p : ℕ) → (known.zero p || windows.zero_within range now.told p) ≡ true → (known.zero p ≡ true) ⊎ HoldsZero range now p
heard_in known range now p e = elim (or_cases (known.zero p) (windows.zero_within range now.told p) e) [
  | inl was ↦ inl was
  | inr here ↦ inr (record { has = and_left (within range p) (zero_in range.0 now.told p) here; zero = and_right (within range p) (zero_in range.0 now.told p) here })
]

-- what is known with what the board holds of a range as told
abbrev known_with : Option (ℕ × ℕ) → List Extent → Known → Known
known_with asked told known = record {
  zero = λ p. known.zero p || windows.zero_heard asked told p;
  whole = λ block p. known.whole block p || whole_heard block asked told p;
  reach = λ p. known.reach p || told_heard asked told p;
}

heard_of : (far : Far) (way : Way) (asked : Option (ℕ × ℕ)) (now : board.Seen) (calls : List wire.Call) (held : List (Held Ticket)) → way.asked ≡ asked → now.mapped ≡ true → now.short ≡ false
    → IsUnderWay far way now calls held → IsUnderWay far (record way { known = known_with asked now.told way.known; asked = None }) now calls held
heard_of far way None now calls held none mapped short on =
    let known = known_with None now.told way.known in
    let unheard : IsUnderWay far (record way { known = known }) now calls held = way_unheard far way now calls held on known
    (λ p e. elim (or_cases (way.known.zero p) false e) [ inl was ↦ was | inr e ↦ absurd (false≢true e) ]) (λ block p e. or_first (way.known.whole block p) false e)
    (λ p e. or_first (way.known.reach p) false e) in
    subst (λ (o : Option (ℕ × ℕ)). IsUnderWay far (record way { known = known; asked = o }) now calls held) none unheard
heard_of far way (Some range) now calls held some mapped short on =
    way_heard far way now calls held on range (known_with (Some range) now.told way.known) some mapped short (heard_in way.known range now)
    (λ block p e. or_first (way.known.whole block p) _ e) (λ block p e. or_second (way.known.whole block p) _ e) (λ p e. or_first (way.known.reach p) _ e) (λ p e. or_second (way.known.reach p) _ e)

heard_on : (far : Far) (way : Way) (now : board.Seen) (calls : List wire.Call) (held : List (Held Ticket)) → now.mapped ≡ true → now.short ≡ false → IsUnderWay far way now calls held
    → IsUnderWay far (with_heard now.told way) now calls held
heard_on far way now calls held mapped short on = heard_of far way way.asked now calls held refl mapped short on

-- so each request is where it was
heard_bound : (made : List Request) (way : Way) (asked : Option (ℕ × ℕ)) (now : board.Seen) (calls : List wire.Call) (held : List (Held Ticket)) → way.asked ≡ asked → now.mapped ≡ true →
    now.short ≡ false
    → IsBound true (ToFile made) way now calls held → IsBound true (ToFile made) (record way { known = known_with asked now.told way.known; asked = None }) now calls held
heard_bound made way None now calls held none mapped short on =
    let known = known_with None now.told way.known in
    let unheard : IsBound true (ToFile made) (record way { known = known }) now calls held = bound_unheard true (ToFile made) way now calls held on known
    (λ p e. elim (or_cases (way.known.zero p) false e) [ inl was ↦ was | inr e ↦ absurd (false≢true e) ]) (λ block p e. or_first (way.known.whole block p) false e)
    (λ p e. or_first (way.known.reach p) false e) in
    subst (λ (o : Option (ℕ × ℕ)). IsBound true (ToFile made) (record way { known = known; asked = o }) now calls held) none unheard
heard_bound made way (Some range) now calls held some mapped short on =
    bound_heard true (ToFile made) way now calls held on range (known_with (Some range) now.told way.known) some mapped short (heard_in way.known range now)
    (λ block p e. or_first (way.known.whole block p) _ e) (λ block p e. or_second (way.known.whole block p) _ e) (λ p e. or_first (way.known.reach p) _ e) (λ p e. or_second (way.known.reach p) _ e)

pub acts_heard : (file : ℕ) (job job' : Seen) (windows' : windows.Seen) (now : board.Seen) (held : List (Held Ticket)) (shelf : Option Shelf) (taken : ℕ) → job.is_parting ≡ false → job.asked ≡ true
    → now.mapped ≡ true → now.short ≡ false → job' ≡ record job { windows = windows'; asked = false } → windows'.plan.cells ≡ job.windows.plan.cells → windows'.size ≡ job.windows.size
    → windows'.grain ≡ job.windows.grain
    → ((whole : ℕ → Bool) (slices : List Slice) → IsSpared job.windows whole slices → IsSpared windows' (λ p. whole p || whole_heard job.windows.grain (windows.wanted job.windows) now.told p)
    slices)
    → ((blank : ℕ → Bool) (slices : List Slice) → windows.IsPlanned job.windows blank slices → windows.IsPlanned windows'
    (λ p. blank p || windows.zero_heard (windows.wanted job.windows) now.told p) slices)
    → ((heard : ℕ → Bool) → IsHeardTo job.windows heard → IsHeardTo windows' (λ p. heard p || passed_heard job.windows.grain (windows.wanted job.windows) now.told p))
    → ((reach : ℕ → Bool) → IsToldTo job.windows reach → IsToldTo windows' (λ p. reach p || told_heard (windows.wanted job.windows) now.told p))
    → Acts file job job' now now held held shelf shelf taken taken
acts_heard file job job' windows' now held shelf taken copying asked mapped short is cells size grain spares hears goes reaches =
    subst (λ (j : Seen). Acts file job j now now held held shelf shelf taken taken) (sym is) (record {
      stand = λ s. s;
      on = λ made way had.
          let range : way.asked ≡ windows.wanted job.windows = had.asked ∙ ap (λ (b : Bool). if b then windows.wanted job.windows else None) asked in
          further_near file made way (with_heard now.told way) (record job { windows = windows'; asked = false }) now now held held shelf taken (record { at = refl; size = refl; how = refl })
          (record {
            size = had.size;
            how = had.how;
            writes = had.writes;
            ends = size ∙ had.ends;
            cells = cells ∙ had.cells;
            planned = subst (λ (r : Option (ℕ × ℕ)). windows.IsPlanned windows' (λ p. way.known.zero p || windows.zero_heard r now.told p) way.slices) (sym range)
                (hears way.known.zero way.slices had.planned);
            grain = grain ∙ had.grain;
            spared = subst (λ (g : ℕ). IsSpared windows' (λ p. way.known.whole g p || whole_heard g way.asked now.told p) way.slices) (sym grain)
                (subst (λ (r : Option (ℕ × ℕ)). IsSpared windows' (λ p. way.known.whole job.windows.grain p || whole_heard job.windows.grain r now.told p) way.slices) (sym range)
                (spares (way.known.whole job.windows.grain) way.slices had.spared));
            asked = refl;
            heard = goes anywhere had.heard;
            reached = subst (λ (r : Option (ℕ × ℕ)). IsToldTo windows' (λ p. way.known.reach p || told_heard r now.told p)) (sym range) (reaches way.known.reach had.reached);
            over = λ parts. absurd (false≢true (sym copying ∙ parts));
          })
          (λ calls was. heard_on (ToFile made) way now calls held mapped short was) (λ copying calls was. heard_bound made way way.asked now calls held refl mapped short was);
      parts = λ parts. parts;
    })

-- Extents are asked for.

-- With a block status that the source was asked the invariant of the slices stands.
extents_ask : (how : How) (now now' : board.Seen) (offset size : ℕ) (slices : List Slice) → now' ≡ record now { told = []; mapped = false } → size ≤ rows.max_extents →
    AsksSource how (without_buffer (block_status_of size offset ticket.Extents ticket.Extents 0)) slices slices now now'
extents_ask how now now' offset size slices is few =
    let command = without_buffer (block_status_of size offset ticket.Extents ticket.Extents 0) in
    record {
      bytes = λ _. refl;
      earlier = λ none. sym (ap (λ (b : board.Seen). b.error) is) ∙ none;
      on = λ source destination link cookie stands.
          subst (λ (b : board.Seen). rows.Stands how slices b.rows (asking link cookie ticket.Extents (asked_by command) source) destination) (sym is)
          ((extents_kept how now.rows source destination link cookie (asked_by command) refl refl few).on slices stands);
      counts = λ source destination link cookie k. record {
        read = ap (λ (b : board.Seen). b.read) is ∙ k.read ∙ ap up_to_end (sym (bytes_beside is_read link cookie ticket.Extents (asked_by command) source refl));
        written = ap (λ (b : board.Seen). b.written) is ∙ k.written;
        zeroed = ap (λ (b : board.Seen). b.zeroed) is ∙ k.zeroed;
        flushes = k.flushes ∙ ap (λ (b : board.Seen). cond b.flushing 1 0) (sym is);
      };
      flushed = ap (λ (b : board.Seen). b.flushed) is;
    }

listened_on : (made : List Request) (way : Way) (now now' : board.Seen) (calls : List wire.Call) (held held' : List (Held Ticket)) (offset size : ℕ) → size ≤ rows.max_extents → way.asked ≡ None
    → now' ≡ record now { told = []; mapped = false } → IsAsked 0 (block_status_of size offset ticket.Extents ticket.Extents 0) held held' → IsUnderWay (ToFile made) way now calls held
    → IsUnderWay (ToFile made) (with_asked (offset, size) way) now' calls held'
listened_on made way now now' calls held held' offset size few none is asked on =
    way_listened made way now calls held on now' held' (offset, size) 0 (block_status_of size offset ticket.Extents ticket.Extents 0) none (asked.on on.seens on.at)
    (extents_ask way.how now now' offset size way.slices is few) (record { asks = record { kind = refl; offset = refl; length_ = refl }; first = refl; done = refl })
    (ap (λ (b : board.Seen). b.told) is) (ap (λ (b : board.Seen). b.mapped) is) (ap (λ (b : board.Seen). b.begun) is)

no_slice : (n : ℕ) → ticket.Extents ≡ ticket.Slice n → ⊥
no_slice n e = cc

listened_bound : (made : List Request) (way : Way) (now now' : board.Seen) (calls : List wire.Call) (held held' : List (Held Ticket)) (offset size : ℕ) → size ≤ rows.max_extents → way.asked ≡ None
    → now' ≡ record now { told = []; mapped = false } → IsAsked 0 (block_status_of size offset ticket.Extents ticket.Extents 0) held held' → IsBound true (ToFile made) way now calls held
    → IsBound true (ToFile made) (with_asked (offset, size) way) now' calls held'
listened_bound made way now now' calls held held' offset size few none is asked on =
    bound_listened made way now calls held on now' held' (offset, size) 0 (block_status_of size offset ticket.Extents ticket.Extents 0) none (asked.on on.seens on.at)
    (extents_ask way.how now now' offset size way.slices is few) (record { asks = record { kind = refl; offset = refl; length_ = refl }; first = refl; done = refl })
    (ap (λ (b : board.Seen). b.told) is) (ap (λ (b : board.Seen). b.mapped) is) (ap (λ (b : board.Seen). b.begun) is) (λ well. sym (ap (λ (b : board.Seen). b.error) is) ∙ well)
    (binds_none true 0 ticket.Extents now now' no_slice (ap (λ (b : board.Seen). b.rows) is))

-- No more extents are asked for at once than those of a window.
length_of : Option (ℕ × ℕ) → ℕ
length_of None = 0
length_of (Some range) = range.1

few_of : (w : windows.Seen) (offset size : ℕ) → w.plan.end ≤ w.at → (here : ℕ × ℕ) → here.1 ≡ windows.window_end w - w.at → (b : Bool) → (if b then Some here else None) ≡ Some (offset, size)
    → size ≤ rows.max_extents
unfolding length_of
few_of w offset size low here is true e = let same : here.1 ≡ size = ap length_of e in omega (arith, same, is, low)
few_of w offset size low here is false e = absurd (cc)

few_wanted : (w : windows.Seen) (offset size : ℕ) → w.plan.end ≤ w.at → windows.wanted w ≡ Some (offset, size) → size ≤ rows.max_extents
few_wanted w offset size low range = few_of w offset size low (w.at, windows.window_end w - w.at) refl (nat_lt w.at (windows.window_end w)) range

pub acts_asked : (file : ℕ) (job job' : Seen) (now now' : board.Seen) (held held' : List (Held Ticket)) (shelf : Option Shelf) (taken offset size : ℕ) → job.is_parting ≡ false → job.asked ≡ false
    → windows.wanted job.windows ≡ Some (offset, size) → job' ≡ record job { asked = true } → now' ≡ record now { told = []; mapped = false }
    → IsAsked 0 (block_status_of size offset ticket.Extents ticket.Extents 0) held held' → Acts file job job' now now' held held' shelf shelf taken taken
acts_asked file job job' now now' held held' shelf taken offset size copying none range is forgets asked =
    subst (λ (j : Seen). Acts file job j now now' held held' shelf shelf taken taken) (sym is) (record {
      stand = λ s. record { seens = with_event 0 (Issue (without_buffer (block_status_of size offset ticket.Extents ticket.Extents 0))) s.seens; at = (asked.on s.seens s.at).at };
      on = λ made way had.
          let blank : way.asked ≡ None = had.asked ∙ ap (λ (b : Bool). if b then windows.wanted job.windows else None) none in
          further_near file made way (with_asked (offset, size) way) (record job { asked = true }) now now' held held' shelf taken (record { at = refl; size = refl; how = refl })
          (record {
            size = had.size;
            how = had.how;
            writes = ap (λ (b : board.Seen). b.how) forgets ∙ had.writes;
            ends = had.ends;
            cells = had.cells;
            planned = had.planned;
            grain = had.grain;
            spared = had.spared;
            asked = sym range;
            heard = had.heard;
            reached = had.reached;
            over = λ parts. absurd (false≢true (sym copying ∙ parts));
          })
          (λ calls was. listened_on made way now now' calls held held' offset size (few_wanted job.windows offset size had.heard.planned range) blank forgets asked was)
          (λ copying calls was. listened_bound made way now now' calls held held' offset size (few_wanted job.windows offset size had.heard.planned range) blank forgets asked was);
      parts = λ parts. parts;
    })

-- Slices begin.

begun_bound : (file : ℕ) (slice : Slice) (source : ℕ) (made : List Request) (way : Way) (now now' : board.Seen) (calls : List wire.Call) (held : List (Held Ticket)) (old new : Option Shelf)
    (taken taken' : ℕ)
    (made_ : HasMadeFirst file slice source 0 made now now' old new taken taken') → way.how ≡ now.how → IsBound true (ToFile made) way now calls held
    → IsBound true (ToFile (made ++ made_.more)) (with_slices (slice ∷ []) way) now' calls held
begun_bound file slice source made way now now' calls held old new taken taken' made_ how on = record {
  seens = on.seens;
  at = on.at;
  begun = length-append way.slices (slice ∷ []) ∙ ap (λ (n : ℕ). n + 1) on.begun ∙ sym (ap (λ (s : board.Seen). s.begun) made_.begun.row)
      ∙ sym (completed_begun now.begun (change_of made_.one).payload made_.mid now' made_.came);
  stands = subst (λ (h : How). FarCourse (ToFile (made ++ made_.more)) way.at way.size h (way.slices ++ slice ∷ []) now' calls on.seens way.asked way.known) (sym how)
      (beginning_keeps file slice source 0 made way.at way.size way.slices now now' calls on.seens way.asked way.known old new taken taken' made_ on.begun
      (subst (λ (h : How). FarCourse (ToFile made) way.at way.size h way.slices now calls on.seens way.asked way.known) how on.stands));
  all = on.all;
  bound = on_dealt true (ToFile made) way.at way.size way.how way.slices now calls on.seens way.asked way.known on.stands now' on.begun
      (λ well. sym (ap (λ (s : board.Seen). s.error) made_.begun.row) ∙ completed_earlier now.begun (change_of made_.one).payload made_.mid now' made_.came well) on.bound source ticket.Flush
      (binds_made true slice source 0 (ask.Change made_.one) now made_.mid now' now.begun (change_of made_.one).payload made_.begun made_.came);
}

pub begins_made : (file : ℕ) (slice : Slice) (source : ℕ) (now now' : board.Seen) (held : List (Held Ticket)) (old new : Option Shelf) (taken taken' : ℕ) (one : First) → one ≡ first.Made
    → HasBegun one file slice source 0 now now' old new taken taken' → Begins file slice now now' held held old new taken taken'
begins_made file slice source now now' held old new taken taken' one is begun =
    let makes : (made : List Request) → HasMadeFirst file slice source 0 made now now' old new taken taken' = subst
    (λ (f : First). HasBegun f file slice source 0 now now' old new taken taken') is begun in
    record {
      stand = λ s. s;
      on = λ made way how.
          let made_ = makes made in
          record {
            more = made_.more;
            on = λ calls on. record {
              seens = on.seens;
              at = on.at;
              begun = length-append way.slices (slice ∷ []) ∙ ap (λ (n : ℕ). n + 1) on.begun ∙ sym (ap (λ (s : board.Seen). s.begun) made_.begun.row)
                  ∙ sym (completed_begun now.begun (change_of made_.one).payload made_.mid now' made_.came);
              stands = subst (λ (h : How). FarCourse (ToFile (made ++ made_.more)) way.at way.size h (way.slices ++ slice ∷ []) now' calls on.seens way.asked way.known) (sym how)
                  (beginning_keeps file slice source 0 made way.at way.size way.slices now now' calls on.seens way.asked way.known old new taken taken' made_ on.begun
                  (subst (λ (h : How). FarCourse (ToFile made) way.at way.size h way.slices now calls on.seens way.asked way.known) how on.stands));
            };
            bound = λ calls on. begun_bound file slice source made way now now' calls held old new taken taken' made_ how on;
            touched = made_.touched;
            took = made_.took;
          };
    }

read_on : (made : List Request) (way : Way) (slice : Slice) (source offset number : ℕ) (buf bytes : List ℕ) (now now' : board.Seen) (calls : List wire.Call) (held held' : List (Held Ticket))
    → way.how ≡ now.how
    → number ≡ now.begun → IsBegun slice source 0 (ask.Read offset buf) now now' → length bytes ≡ length buf → IsAsked source (read_of bytes offset (ticket.Slice number) 0) held held'
    → IsUnderWay (ToFile made) way now calls held
    → IsUnderWay (ToFile made) (with_slices (slice ∷ []) way) now' calls held'
read_on made way slice source offset number buf bytes now now' calls held held' how count begun size asked on =
    way_asked (ToFile made) way now calls held on (slice ∷ []) now' held' source (read_of bytes offset (ticket.Slice number) 0) (asked.on on.seens on.at)
    (subst (λ (h : How). AsksSource h (without_buffer (read_of bytes offset (ticket.Slice number) 0)) way.slices (way.slices ++ slice ∷ []) now now') (sym how)
    (subst (λ (n : ℕ). AsksSource now.how (without_buffer (read_of bytes offset (ticket.Slice n) 0)) way.slices (way.slices ++ slice ∷ []) now now') (sym count)
    (beginning_asks now.how slice now.begun (ask.Read offset buf) way.slices now now' on.begun (λ none. sym (ap (λ (s : board.Seen). s.error) begun.row) ∙ none)
    (first_counts slice source 0 (ask.Read offset buf) now now' begun) begun.begins bytes size)))
    refl (record { told = ap (λ (s : board.Seen). s.told) begun.row; mapped = ap (λ (s : board.Seen). s.mapped) begun.row; short = ap (λ (s : board.Seen). s.short) begun.row })
    (ap (λ (s : board.Seen). s.begun) begun.row)

read_bound : (made : List Request) (way : Way) (slice : Slice) (source offset number : ℕ) (buf bytes : List ℕ) (now now' : board.Seen) (calls : List wire.Call) (held held' : List (Held Ticket))
    → way.how ≡ now.how
    → number ≡ now.begun → IsBegun slice source 0 (ask.Read offset buf) now now' → length bytes ≡ length buf → IsAsked source (read_of bytes offset (ticket.Slice number) 0) held held'
    → IsBound true (ToFile made) way now calls held
    → IsBound true (ToFile made) (with_slices (slice ∷ []) way) now' calls held'
read_bound made way slice source offset number buf bytes now now' calls held held' how count begun size asked on =
    bound_asked true (ToFile made) way now calls held on (slice ∷ []) now' held' source (read_of bytes offset (ticket.Slice number) 0) (asked.on on.seens on.at)
    (subst (λ (h : How). AsksSource h (without_buffer (read_of bytes offset (ticket.Slice number) 0)) way.slices (way.slices ++ slice ∷ []) now now') (sym how)
    (subst (λ (n : ℕ). AsksSource now.how (without_buffer (read_of bytes offset (ticket.Slice n) 0)) way.slices (way.slices ++ slice ∷ []) now now') (sym count)
    (beginning_asks now.how slice now.begun (ask.Read offset buf) way.slices now now' on.begun (λ none. sym (ap (λ (s : board.Seen). s.error) begun.row) ∙ none)
    (first_counts slice source 0 (ask.Read offset buf) now now' begun) begun.begins bytes size)))
    refl (record { told = ap (λ (s : board.Seen). s.told) begun.row; mapped = ap (λ (s : board.Seen). s.mapped) begun.row; short = ap (λ (s : board.Seen). s.short) begun.row })
    (ap (λ (s : board.Seen). s.begun) begun.row) (λ well. sym (ap (λ (s : board.Seen). s.error) begun.row) ∙ well)
    (subst (λ (n : ℕ). BindsRow true source (ticket.Slice n) now now') (sym count) (binds_first true (first_row slice source 0) now now' (ap (λ (s : board.Seen). s.rows) begun.row)))

pub begins_read : (file : ℕ) (slice : Slice) (source offset number : ℕ) (buf bytes : List ℕ) (now mid now' : board.Seen) (held held' : List (Held Ticket)) (old new : Option Shelf)
    (taken taken' : ℕ) (one : First)
    → one ≡ first.Reads offset buf → HasBegun one file slice source 0 now mid old new taken taken' → number ≡ now.begun → now' ≡ mid → length bytes ≡ length buf
    → IsAsked source (read_of bytes offset (ticket.Slice number) 0) held held' → Begins file slice now now' held held' old new taken taken'
begins_read file slice source offset number buf bytes now mid now' held held' old new taken taken' one is begun count same size asked =
    let reads = subst (λ (f : First). HasBegun f file slice source 0 now mid old new taken taken') is begun in
    subst (λ (s : board.Seen). Begins file slice now s held held' old new taken taken') (sym same)
    (subst (λ (shelf : Option Shelf). Begins file slice now mid held held' old shelf taken taken') (sym reads.1)
    (subst (λ (t : ℕ). Begins file slice now mid held held' old old taken t) (sym reads.2) (record {
      stand = λ s. record { seens = with_event source (Issue (without_buffer (read_of bytes offset (ticket.Slice number) 0))) s.seens; at = (asked.on s.seens s.at).at };
      on = λ made way how. record {
        more = [];
        on = λ calls on. subst (λ (xs : List Request). IsUnderWay (ToFile xs) (with_slices (slice ∷ []) way) mid calls held') (sym (append-nil made))
            (read_on made way slice source offset number buf bytes now mid calls held held' how count reads.0 size asked on);
        bound = λ calls on. subst (λ (xs : List Request). IsBound true (ToFile xs) (with_slices (slice ∷ []) way) mid calls held') (sym (append-nil made))
            (read_bound made way slice source offset number buf bytes now mid calls held held' how count reads.0 size asked on);
        touched = touches_none file (MadeMore made []) old (λ x. made_none made x);
        took = rose_none taken;
      };
    })))

abbrev with_left : windows.Seen → List Slice → windows.Seen
with_left plan slices = record plan { plan = record plan.plan { slices = slices } }

handed_planned : (plan plan' : windows.Seen) (blank : ℕ → Bool) (slices more : List Slice) → plan.plan.slices ≡ more ++ plan'.plan.slices → plan' ≡ with_left plan plan'.plan.slices
    → windows.IsPlanned plan blank slices
    → windows.IsPlanned plan' blank (slices ++ more)
handed_planned plan plan' blank slices more handed others planned = subst (λ (w : windows.Seen). windows.IsPlanned w blank (slices ++ more)) (sym others) (record {
  parts = planned.parts;
  are = append_assoc slices more plan'.plan.slices ∙ ap (λ (l : List Slice). slices ++ l) (sym handed) ∙ planned.are;
  end = planned.end;
  within = planned.within;
  told = planned.told;
  under_way = planned.under_way;
  whole = planned.whole;
})

handed_spared : (plan plan' : windows.Seen) (whole : (block p : ℕ) → Bool) (slices more : List Slice) → plan.plan.slices ≡ more ++ plan'.plan.slices → plan' ≡ with_left plan plan'.plan.slices
    → IsSpared plan (whole plan.grain) slices → IsSpared plan' (whole plan'.grain) (slices ++ more)
handed_spared plan plan' whole slices more handed others spared = subst (λ (w : windows.Seen). IsSpared w (whole w.grain) (slices ++ more)) (sym others) (record {
  parts = spared.parts;
  are = append_assoc slices more plan'.plan.slices ∙ ap (λ (l : List Slice). slices ++ l) (sym handed) ∙ spared.are;
  end = spared.end;
  planned = spared.planned;
  under_way = spared.under_way;
  inside = spared.inside;
})

handed_heard : (plan plan' : windows.Seen) (heard : ℕ → Bool) → plan' ≡ with_left plan plan'.plan.slices → IsHeardTo plan heard → IsHeardTo plan' heard
handed_heard plan plan' heard others was = subst (λ (w : windows.Seen). IsHeardTo w heard) (sym others) (record {
  planned = was.planned;
  before = was.before;
  blocks = was.blocks;
  steps =
      was.steps;
})

pub acts_begun : (file : ℕ) (job job' : Seen) (windows' : windows.Seen) (bound : List ℕ) (slice : Slice) (now now' : board.Seen) (held held' : List (Held Ticket)) (old new : Option Shelf)
    (taken taken' : ℕ)
    → job.is_parting ≡ false → now.how ≡ job.terms.how → now'.how ≡ now.how → job' ≡ record job { windows = windows'; bound = bound } → job.windows.plan.slices ≡ slice ∷ windows'.plan.slices
    → windows' ≡ with_left job.windows windows'.plan.slices → Begins file slice now now' held held' old new taken taken' → Acts file job job' now now' held held' old new taken taken'
acts_begun file job job' windows' bound slice now now' held held' old new taken taken' copying how writes is handed others begins =
    subst (λ (j : Seen). Acts file job j now now' held held' old new taken taken') (sym is) (record {
      stand = begins.stand;
      on = λ made way had.
          let one = begins.on made way (had.how ∙ sym how) in
          record {
            way' = with_slices (slice ∷ []) way;
            more = one.more;
            one = record { at = refl; size = refl; how = refl };
            job = record {
              size = had.size;
              how = had.how;
              writes = writes ∙ had.writes;
              ends = ap (λ (w : windows.Seen). w.size) others ∙ had.ends;
              cells = ap (λ (w : windows.Seen). w.plan.cells) others ∙ had.cells;
              planned = handed_planned job.windows windows' way.known.zero way.slices (slice ∷ []) handed others had.planned;
              grain = ap (λ (w : windows.Seen). w.grain) others ∙ had.grain;
              spared = handed_spared job.windows windows' way.known.whole way.slices (slice ∷ []) handed others had.spared;
              asked = had.asked ∙ ap (λ (w : windows.Seen). if job.asked then windows.wanted w else None) (sym others);
              heard = handed_heard job.windows windows' anywhere others had.heard;
              reached = told_handed job.windows windows' way.known.reach others had.reached;
              over = λ parts. absurd (false≢true (sym copying ∙ parts));
            };
            on = one.on;
            bound = λ copying. one.bound;
            touched = one.touched;
            took = one.took;
          };
      parts = λ parts. parts;
    })

-- The beginning and the end.

pub job_begins : (job : Seen) (way : Way) (now : board.Seen) → job.asked ≡ false → job.is_parting ≡ false → job.windows.plan.cells ≡ cells_of job.terms → job.windows.size ≡ job.terms.size
    → job.windows.grain ≡ job.terms.grain
    → ((blank : ℕ → Bool) → windows.IsPlanned job.windows blank []) → way.size ≡ Some job.terms.size → way.how ≡ job.terms.how → now.how ≡ job.terms.how → way.slices ≡ [] → way.asked ≡ None
    → ((block p : ℕ) → way.known.whole block p ≡ false) → IsHeardTo job.windows anywhere → IsToldTo job.windows way.known.reach → IsJob job way now
job_begins job way now none copying cells ends grain planned size how writes blank asked unknown heard reached = record {
  size = size;
  how = how;
  writes = writes;
  ends = ends;
  cells = cells;
  planned = subst (λ (l : List Slice). windows.IsPlanned job.windows way.known.zero l) (sym blank) (planned way.known.zero);
  grain = grain;
  spared = subst (λ (l : List Slice). IsSpared job.windows (way.known.whole job.windows.grain) l) (sym blank)
      (spared_none job.windows way.known.zero (way.known.whole job.windows.grain) [] (unknown job.windows.grain) (planned way.known.zero));
  asked = asked ∙ ap (λ (b : Bool). if b then windows.wanted job.windows else None) (sym none);
  heard = heard;
  reached = reached;
  over = λ parts. absurd (false≢true (sym copying ∙ parts));
}

pub acts_left : (file : ℕ) (job job' : Seen) (now : board.Seen) (held held' : List (Held Ticket)) (shelf : Option Shelf) (taken : ℕ) → job' ≡ record job { is_parting = true } → IsOver job now
    → Parts now held held'
    → Acts file job job' now now held held' shelf shelf taken taken
acts_left file job job' now held held' shelf taken is over parts = subst (λ (j : Seen). Acts file job j now now held held' shelf shelf taken taken) (sym is) (record {
  stand = parts.stand;
  on = λ made way had.
      further_near file made way way (record job { is_parting = true }) now now held held' shelf taken (one_same way)
      (record {
        size = had.size;
        how = had.how;
        writes = had.writes;
        ends = had.ends;
        cells = had.cells;
        planned = had.planned;
        grain = had.grain;
        spared = had.spared;
        asked = had.asked;
        heard = had.heard;
        reached = had.reached;
        over = λ _. record { planned = over.planned; handed = over.handed; heard = over.heard; rows = over.rows };
      })
      (λ calls was. parts.on (ToFile made) way calls was) (λ copying calls was. absurd (false≢true (sym copying)));
  parts = λ _. refl;
})

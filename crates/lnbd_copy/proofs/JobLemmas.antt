-- What a job does keeps a copy on its way: its slices go on and begin, extents are asked for and heard, and in the end all connections part.
use Rattle.std.proofs.Common.{◌≡◌, ◌≢◌, ◌⊎◌, ◌<◌, ◌≤◌, ◌-◌, is_some, inl, inr, ◌&&◌, ◌||◌, ℕ, Bool, true, false, List, [], ◌++◌, cond, Option, Some, None, if◌then◌else◌, refl, ap, sym, subst, ◌∙◌, arith, nat_lt}
use Rattle.std.proofs.lemmas.Bool.{false≢true}
use Rattle.std.proofs.lemmas.List.{append-nil, append_assoc}
use Rattle.lnbd_link.specs.Call as wire
use Rattle.lnbd_handle.specs.Issues.{flush_of, block_status_of}
use Rattle.lnbd_history.specs.Commands.{Command}
use Rattle.lnbd_history.specs.Events.{Issue}
use Rattle.lnbd_extents.specs.Positions.{within}
use Rattle.lnbd_asked.specs.Transcript.{zero_in}
use Rattle.lnbd_poll.specs.Held.{Held}
use Rattle.lnbd_poll.specs.Seen as poll
use Rattle.lnbd_drives.specs.Driving.{with_event}
use Rattle.lnbd_model.specs.Kind.{is_read, is_write}
use Rattle.lnbd_plan.specs.declared.grid.Slice.{Slice}
use Rattle.lnbd_plan.specs.Laws.{told_by}
use Rattle.lnbd_board.specs.declared.how.How.{How}
use Rattle.lnbd_board.specs.declared.ticket.Ticket.{Ticket}
use Rattle.lnbd_board.specs.declared.ticket.Ticket.TheVariants as ticket
use Rattle.lnbd_board.specs.Files as board
use Rattle.lnbd_board.specs.Requests.{asking}
use Rattle.lnbd_board.specs.Rows as rows
use Rattle.lnbd_board.proofs.Turning.{extents_kept, flush_kept}
use Rattle.lnbd_course.specs.Counted.{is_zero, up_to_end}
use Rattle.lnbd_course.specs.Laws.{AsksSource, AsksDestination}
use Rattle.lnbd_course.proofs.Counting.{bytes_beside, flushes_first}
use Rattle.lnbd_course.specs.Taken.{without_buffer}
use Rattle.lnbd_tracks.specs.Laws.{asked_by}
use Rattle.lnbd_tracks.specs.Mapping.{HoldsZero}
use Rattle.lnbd_copy.specs.declared.job.Phase.{Phase}
use Rattle.lnbd_copy.specs.declared.job.Phase.TheVariants.{Copying, Flushing, Parting}
use Rattle.lnbd_conduct.specs.declared.sides.Sides.{Sides}
use Rattle.lnbd_copy.specs.Asked.{IsAsked}
use Rattle.lnbd_copy.specs.Dealing.{Begins}
use Rattle.lnbd_copy.specs.Deciding.{AreAlive}
use Rattle.lnbd_copy.specs.Heard.{IsHeardTo, has_position, passed_heard}
use Rattle.lnbd_copy.specs.Reached.{IsToldTo, told_heard, told_within}
use Rattle.lnbd_copy.specs.Job.{Acts, AreOfOne, IsJob, IsOver, Seen, with_asked, with_heard, is_parting}
use Rattle.lnbd_conduct.specs.Slices.{cells_of}
use Rattle.lnbd_copy.specs.Way.{IsOn, Keeps, Stand, Stands, Way, with_slices}
use Rattle.lnbd_conduct.specs.Sides.{connection_of, is_source}
use Rattle.lnbd_copy.specs.Leaving.{Parts}
use Rattle.lnbd_copy.specs.Spared.{IsSpared, whole_heard, whole_within}
use Rattle.lnbd_conduct.specs.Answered.{MayBeRead, WasPassed}
use Rattle.lnbd_copy.specs.Windows as windows
use Rattle.lnbd_copy.proofs.AnswerLemmas.{range_may_be_read}
use Rattle.lnbd_copy.proofs.PassedLemmas.{passed_has, range_was_passed}
use Rattle.lnbd_copy.proofs.EndLemmas.{planned_once}
use Rattle.lnbd_copy.proofs.BegunLemmas.{event_first}
use Rattle.lnbd_copy.proofs.DoneLemmas.{all_is_done, at_end, flush_is_done}
use Rattle.lnbd_copy.proofs.DrivenLemmas.{drive_event}
use Rattle.lnbd_copy.proofs.OrderLemmas.{ordered_event}
use Rattle.lnbd_copy.proofs.FlushedLemmas.{other_flushes_none, second_event}
use Rattle.lnbd_copy.proofs.QueriedLemmas.{onward_asked, onward_begins, onward_begun, onward_heard, queried_asked}
use Rattle.lnbd_copy.proofs.UnendedLemmas.{ended_event}
use Rattle.lnbd_copy.proofs.HeardLemmas.{hears_on}
use Rattle.lnbd_copy.proofs.SparedLemmas.{spared_none}
use Rattle.lnbd_copy.proofs.ToldLemmas.{told_handed}
use Rattle.lnbd_copy.proofs.WindowLemmas.{or_first, or_second}
use Rattle.lnbd_copy.proofs.HeldLemmas.{held_event}
use Rattle.lnbd_copy.proofs.StepLemmas.{extents_ask_stand, hearing_stands, unheard_stands}
use Rattle.lnbd_copy.proofs.RestLemmas.{at_rest, came_to_rest}
use Rattle.lnbd_copy.proofs.WayLemmas.{destination_keeps, sided_after}
use Rattle.lnbd_copy.proofs.BindingLemmas.{asks_bound, binds_none}

-- One step after another.

one_same : (way : Way) → AreOfOne way way
one_same way = record { from = refl; to = refl; how = refl; sides = refl; extents = refl }

one_then : (a b c : Way) → AreOfOne a b → AreOfOne b c → AreOfOne a c
one_then a b c first second = record { from = second.from ∙ first.from; to = second.to ∙ first.to; how = second.how ∙ first.how; sides = second.sides ∙ first.sides; extents = second.extents ∙ first.extents }

pub acts_none : (job : Seen) (now : board.Seen) (held : List (Held Ticket)) → Acts job job now now held held
acts_none job now held = record { stand = λ s. s; on = λ way had. record { way' = way; one = one_same way; job' = had; on = λ calls on. on } }

pub acts_then : (a b c : Seen) (m n o : board.Seen) (h k l : List (Held Ticket)) → Acts a b m n h k → Acts b c n o k l → Acts a c m o h l
acts_then a b c m n o h k l first second = record {
  stand = λ s. second.stand (first.stand s);
  on = λ way had.
      let one = first.on way had in
      let two = second.on one.way' one.job' in
      record { way' = two.way'; one = one_then way one.way' two.way' one.one two.one; job' = two.job'; on = λ calls on. two.on calls (one.on calls on) };
}

-- What stands on the way.

-- Extents that were asked for are heard.
or_heard : (a b : Bool) → (a || b) ≡ true → (a ≡ true) ⊎ (b ≡ true)
or_heard true b e = inl refl
or_heard false b e = inr e

both : (a b : Bool) → (a && b) ≡ true → (a ≡ true) × (b ≡ true)
both true b e = (refl, e)
both false b e = absurd (false≢true e)

heard_in : (way : Way) (range : ℕ × ℕ) (now : board.Seen) (p : ℕ) → (way.zero p || windows.zero_within range now.told p) ≡ true → (way.zero p ≡ true) ⊎ HoldsZero range now p
heard_in way range now p e = elim (or_heard (way.zero p) (windows.zero_within range now.told p) e) [ inl was ↦ inl was | inr here ↦ let h = both (within range p) (zero_in range.0 now.told p) here in inr (record { has = h.0; zero = h.1 }) ]

heard_stands : (way : Way) (asked : Option (ℕ × ℕ)) → way.asked ≡ asked → (has : ℕ → Bool) (now : board.Seen) (calls : List wire.Call) (seens : List (poll.Seen Ticket)) → now.mapped ≡ true → now.short ≡ false → Stands way has now calls seens →
    Stands (record way { zero = λ p. way.zero p || windows.zero_heard asked now.told p; whole = λ block p. way.whole block p || whole_heard block asked now.told p; asked = None; reach = λ p. way.reach p || told_heard asked now.told p }) has now calls seens
heard_stands way None none has now calls seens mapped short s = unheard_stands way has now calls seens (λ p. way.zero p || false) (λ block p. way.whole block p || false) (λ p. way.reach p || false) none s (λ p e. elim (or_heard (way.zero p) false e) [ inl was ↦ was | inr e ↦ absurd (false≢true e) ]) (λ block p e. or_first (way.whole block p) false e) (λ p e. or_first (way.reach p) false e)
heard_stands way (Some range) some has now calls seens mapped short s =
    hearing_stands way has now calls seens range (λ p. way.zero p || windows.zero_within range now.told p) (λ block p. way.whole block p || whole_within block range now.told p) (λ p. way.reach p || told_within range now.told p) some s mapped short (heard_in way range now)
    (λ block p e. or_first (way.whole block p) _ e) (λ block p e. or_second (way.whole block p) _ e) (λ p e. or_first (way.reach p) _ e) (λ p e. or_second (way.reach p) _ e)

heard_on : (way : Way) (now : board.Seen) (calls : List wire.Call) (held : List (Held Ticket)) → now.mapped ≡ true → now.short ≡ false → (now.error ≡ None → way.from ≢ way.to → (p : ℕ) → has_position way.asked p ≡ true → MayBeRead way.extents way.from p calls) →
    (now.error ≡ None → way.from ≢ way.to → (grain p : ℕ) → passed_heard grain way.asked now.told p ≡ true → WasPassed way.extents grain way.from p calls) → IsOn way now calls held → IsOn (with_heard now.told way) now calls held
heard_on way now calls held mapped short may passes on = record {
  has = on.has;
  seens = on.seens;
  at = on.at;
  sided = on.sided;
  begun = on.begun;
  stands = (let s = heard_stands way way.asked refl on.has now calls on.seens mapped short on.stands in record { between = s.between; told = s.told });
  rest = on.rest;
  all = on.all;
  hears = record {
    answered = λ well two grain p h. elim (or_heard (way.heard grain p) (passed_heard grain way.asked now.told p) h) [ inl was ↦ on.hears.answered well two grain p was | inr here ↦ may well two p (passed_has grain way.asked now.told p here) ];
    first = on.hears.first;
    begun = on.hears.begun;
    passed = λ well two grain p h. elim (or_heard (way.heard grain p) (passed_heard grain way.asked now.told p) h) [ inl was ↦ on.hears.passed well two grain p was | inr here ↦ passes well two grain p here ];
  };
  bound = on.bound;
  drives = on.drives;
  ends = on.ends;
  order = on.order;
  queried = on.queried;
  flushes = on.flushes;
}

-- no slice more was begun
none_on : (how : How) (sides : Sides) (now now' : board.Seen) (held held' : List (Held Ticket)) → Keeps how sides [] now now' held held' → (way : Way) (calls : List wire.Call) → way.how ≡ how → way.sides ≡ sides →
    IsOn way now calls held → IsOn way now' calls held'
none_on how sides now now' held held' keeps way calls h s on = subst (λ (slices : List Slice). IsOn (record way { slices = slices }) now' calls held') (append-nil way.slices) (keeps.on way calls h s on)

-- With a block status that the source was asked the invariant of the slices stands.
extents_ask : (how : How) (now now' : board.Seen) (offset size : ℕ) (slices : List Slice) → now' ≡ record now { told = []; mapped = false } → size ≤ rows.max_extents →
    AsksSource how (without_buffer (block_status_of size offset ticket.Extents ticket.Extents 0)) slices slices now now'
extents_ask how now now' offset size slices is few =
    let command = without_buffer (block_status_of size offset ticket.Extents ticket.Extents 0) in
    record {
      bytes = λ _. refl;
      earlier = λ none. sym (ap (λ (b : board.Seen). b.error) is) ∙ none;
      on = λ source destination link cookie stands.
          subst (λ (b : board.Seen). rows.Stands how slices b.rows (asking link cookie ticket.Extents (asked_by command) source) destination) (sym is)
          ((extents_kept how now.rows source destination link cookie (asked_by command) refl refl few).on slices stands);
      counts = λ source destination link cookie k. record {
        read = ap (λ (b : board.Seen). b.read) is ∙ k.read ∙ ap up_to_end (sym (bytes_beside is_read link cookie ticket.Extents (asked_by command) source refl));
        written = ap (λ (b : board.Seen). b.written) is ∙ k.written;
        zeroed = ap (λ (b : board.Seen). b.zeroed) is ∙ k.zeroed;
        flushes = k.flushes ∙ ap (λ (b : board.Seen). cond b.flushing 1 0) (sym is);
      };
      flushed = ap (λ (b : board.Seen). b.flushed) is;
    }

-- what is asked beside slices is of none
extents_differ : (n : ℕ) → ticket.Extents ≡ ticket.Slice n → ⊥
extents_differ n e = cc

flush_differs : (n : ℕ) → ticket.Flush ≡ ticket.Slice n → ⊥
flush_differs n e = cc

-- Extents of a range are asked for, of the source's first connection, while none are.
asked_on : (way : Way) (now now' : board.Seen) (calls : List wire.Call) (held held' : List (Held Ticket)) (offset size : ℕ) → size ≤ rows.max_extents → way.asked ≡ None → now' ≡ record now { told = []; mapped = false } →
    IsAsked 0 (block_status_of size offset ticket.Extents ticket.Extents 0) held held' → IsOn way now calls held → IsOn (with_asked (Some (offset, size)) way) now' calls held'
asked_on way now now' calls held held' offset size few none is asked on =
    let command = without_buffer (block_status_of size offset ticket.Extents ticket.Extents 0) in
    let was = asked.on on.seens on.at in
    record {
      has = on.has;
      seens = with_event 0 (Issue command) on.seens;
      at = was.at;
      sided = sided_after way.sides on.has 0 (Issue command) on.seens on.sided;
      begun = on.begun ∙ ap (λ (b : board.Seen). b.begun) (sym is);
      stands = (let s = extents_ask_stand way on.has now now' calls on.seens (offset, size) 0 was.seen command none on.stands was.there (on.sided 0 was.seen was.there) was.spells (extents_ask way.how now now' offset size way.slices is few)
          (record { asks = record { kind = refl; offset = refl; length_ = refl }; first = refl; done = refl }) (ap (λ (b : board.Seen). b.told) is) (ap (λ (b : board.Seen). b.mapped) is) in record { between = s.between; told = s.told });
      rest = on.rest;
      all = held_event calls 0 (Issue command) on.seens on.all;
      hears = hears_on false way.extents way.from way.to way.heard now.error now'.error (λ none. sym (ap (λ (b : board.Seen). b.error) is) ∙ none) calls on.seens (with_event 0 (Issue command) on.seens) (event_first 0 (Issue command) on.seens) on.hears;
      bound = asks_bound way on.has now calls on.seens on.stands now' on.begun (λ none. sym (ap (λ (b : board.Seen). b.error) is) ∙ none) on.bound true 0 0 command refl refl
          (binds_none true 0 ticket.Extents now now' extents_differ (ap (λ (b : board.Seen). b.rows) is));
      drives = drive_event way.extents way.from way.to on.has calls 0 (Issue command) on.seens refl on.drives;
      ends = ended_event way.extents way.how.skip way.flush way.from way.to calls way.ended 0 (Issue command) on.seens refl refl on.ends;
      order = ordered_event (is_source way.sides) on.has calls false 0 (Issue command) on.seens on.order;
      queried = queried_asked way.queries 0 command on.seens on.queried;
      flushes = second_event calls 0 (Issue command) on.seens (other_flushes_none command refl) on.flushes;
    }

-- Slices go on.

phases_differ : Flushing ≡ Copying → ⊥
phases_differ e = cc

still_copying : (phase : Phase) → phase ≡ Copying → phase ≡ Parting → ⊥
still_copying phase copying parting = let e = sym copying ∙ parting in absurd (cc e)

pub acts_keeps : (job : Seen) (how : How) (sides : Sides) (now now' : board.Seen) (held held' : List (Held Ticket)) → how ≡ job.terms.how → sides ≡ job.terms.sides → job.phase ≡ Copying → now'.how ≡ now.how → now'.flushing ≡ now.flushing → Keeps how sides [] now now' held held' →
    Acts job job now now' held held'
acts_keeps job how sides now now' held held' h s copying writes unflushed keeps = record {
  stand = keeps.stand;
  on = λ way had. record {
    way' = way;
    one = one_same way;
    job' = record { size = had.size; how = had.how; writes = writes ∙ had.writes; sides = had.sides; ends = had.ends; cells = had.cells; planned = had.planned; grain = had.grain; spared = had.spared; asked = had.asked; over = λ other. absurd (other copying); unwanted = λ no. unflushed ∙ had.unwanted no; unflushed = λ c. unflushed ∙ had.unflushed c; rests = λ other. absurd (other copying); flushed = λ parts. absurd (still_copying job.phase copying parts); heard = had.heard; reached = had.reached; parts = had.parts; wants = had.wants; onward = had.onward };
    on = λ calls on. none_on how sides now now' held held' keeps way calls (had.how ∙ sym h) (had.sides ∙ sym s) on;
  };
}

-- Extents are heard, and asked for.

pub acts_heard : (job job' : Seen) (windows' : windows.Seen) (now : board.Seen) (held : List (Held Ticket)) → job.phase ≡ Copying → job.asked ≡ true → now.mapped ≡ true → now.short ≡ false → job' ≡ record job { windows = windows'; asked = false } →
    windows'.plan.cells ≡ job.windows.plan.cells → windows'.size ≡ job.windows.size → windows'.grain ≡ job.windows.grain →
    ((whole : ℕ → Bool) (slices : List Slice) → IsSpared job.windows whole slices → IsSpared windows' (λ p. whole p || whole_heard job.windows.grain (windows.wanted job.windows) now.told p) slices) →
    ((blank : ℕ → Bool) (slices : List Slice) → windows.IsPlanned job.windows blank slices → windows.IsPlanned windows' (λ p. blank p || windows.zero_heard (windows.wanted job.windows) now.told p) slices) →
    ((heard : ℕ → Bool) → IsHeardTo job.windows heard → IsHeardTo windows' (λ p. heard p || passed_heard job.windows.grain (windows.wanted job.windows) now.told p)) →
    ((reach : ℕ → Bool) → IsToldTo job.windows reach → IsToldTo windows' (λ p. reach p || told_heard (windows.wanted job.windows) now.told p)) →
    (is_some (windows.wanted job.windows) ≡ true → job.windows.at < windows'.at) → windows'.at ≤ windows'.size → Acts job job' now now held held
acts_heard job job' windows' now held copying asked mapped short is cells size grain spares hears reaches tells goes inside = subst (λ (j : Seen). Acts job j now now held held) (sym is) (record {
  stand = λ s. s;
  on = λ way had.
      let range : way.asked ≡ windows.wanted job.windows = had.asked ∙ ap (λ (b : Bool). if b then windows.wanted job.windows else None) asked in
      record {
        way' = with_heard now.told way;
        one = record { from = refl; to = refl; how = refl; sides = refl; extents = refl };
        job' = record {
          size = had.size;
          how = had.how;
          writes = had.writes;
          sides = had.sides;
          ends = size ∙ had.ends;
          cells = cells ∙ had.cells;
          planned = subst (λ (r : Option (ℕ × ℕ)). windows.IsPlanned windows' (λ p. way.zero p || windows.zero_heard r now.told p) way.slices) (sym range) (hears way.zero way.slices had.planned);
          grain = grain ∙ had.grain;
          spared = subst (λ (g : ℕ). IsSpared windows' (λ p. way.whole g p || whole_heard g way.asked now.told p) way.slices) (sym grain)
              (subst (λ (r : Option (ℕ × ℕ)). IsSpared windows' (λ p. way.whole job.windows.grain p || whole_heard job.windows.grain r now.told p) way.slices) (sym range) (spares (way.whole job.windows.grain) way.slices had.spared));
          asked = refl;
          over = λ other. absurd (other copying);
          unwanted = had.unwanted;
          unflushed = had.unflushed;
          rests = λ other. absurd (other copying);
          flushed = λ parts. absurd (still_copying job.phase copying parts);
          heard = subst (λ (g : ℕ). IsHeardTo windows' (λ p. way.heard g p || passed_heard g way.asked now.told p)) (sym grain)
              (subst (λ (r : Option (ℕ × ℕ)). IsHeardTo windows' (λ p. way.heard job.windows.grain p || passed_heard job.windows.grain r now.told p)) (sym range) (reaches (way.heard job.windows.grain) had.heard));
          reached = subst (λ (r : Option (ℕ × ℕ)). IsToldTo windows' (λ p. way.reach p || told_heard r now.told p)) (sym range) (tells way.reach had.reached);
          parts = had.parts;
          wants = had.wants;
          onward = onward_heard job windows' way.queries asked goes inside had.onward;
        };
        on = λ calls on. heard_on way now calls held mapped short (range_may_be_read way job.terms.size job.windows (told_by 0 had.planned.parts) now calls held had.size range had.heard (planned_once job way now had) mapped on) (range_was_passed way job.terms.size job.windows (told_by 0 had.planned.parts) now calls held had.size range had.heard.planned (planned_once job way now had) mapped on) on;
      };
})

stand_asked : (index : ℕ) (command : Command Ticket) (held held' : List (Held Ticket)) → IsAsked index command held held' → Stand held → Stand held'
stand_asked index command held held' asked s = record { seens = with_event index (Issue (without_buffer command)) s.seens; at = (asked.on s.seens s.at).at }

-- No more extents are asked for at once than those of a window.
length_of : Option (ℕ × ℕ) → ℕ
length_of None = 0
length_of (Some range) = range.1

few_of : (w : windows.Seen) (offset size : ℕ) → w.plan.end ≤ w.at → (here : ℕ × ℕ) → here.1 ≡ windows.window_end w - w.at → (b : Bool) → (if b then Some here else None) ≡ Some (offset, size) → size ≤ rows.max_extents
unfolding length_of
few_of w offset size low here is true e = let same : here.1 ≡ size = ap length_of e in omega (arith, same, is, low)
few_of w offset size low here is false e = absurd (cc)

few_wanted : (w : windows.Seen) (offset size : ℕ) → w.plan.end ≤ w.at → windows.wanted w ≡ Some (offset, size) → size ≤ rows.max_extents
few_wanted w offset size low range = few_of w offset size low (w.at, windows.window_end w - w.at) refl (nat_lt w.at (windows.window_end w)) range

pub acts_asked : (job job' : Seen) (now now' : board.Seen) (held held' : List (Held Ticket)) (offset size : ℕ) → job.phase ≡ Copying → job.asked ≡ false → windows.wanted job.windows ≡ Some (offset, size) →
    job' ≡ record job { asked = true } → now' ≡ record now { told = []; mapped = false } → IsAsked 0 (block_status_of size offset ticket.Extents ticket.Extents 0) held held' → Acts job job' now now' held held'
acts_asked job job' now now' held held' offset size copying none range is forgets asked = subst (λ (j : Seen). Acts job j now now' held held') (sym is) (record {
  stand = stand_asked 0 (block_status_of size offset ticket.Extents ticket.Extents 0) held held' asked;
  on = λ way had.
      let blank : way.asked ≡ None = had.asked ∙ ap (λ (b : Bool). if b then windows.wanted job.windows else None) none in
      record {
        way' = with_asked (Some (offset, size)) way;
        one = record { from = refl; to = refl; how = refl; sides = refl; extents = refl };
        job' = record { size = had.size; how = had.how; writes = ap (λ (b : board.Seen). b.how) forgets ∙ had.writes; sides = had.sides; ends = had.ends; cells = had.cells; planned = had.planned; grain = had.grain; spared = had.spared; asked = sym range; over = λ other. absurd (other copying); unwanted = λ no. ap (λ (b : board.Seen). b.flushing) forgets ∙ had.unwanted no; unflushed = λ c. ap (λ (b : board.Seen). b.flushing) forgets ∙ had.unflushed c; rests = λ other. absurd (other copying); flushed = λ parts. absurd (still_copying job.phase copying parts); heard = had.heard; reached = had.reached; parts = had.parts; wants = had.wants; onward = onward_asked job way.queries (offset, size) none range had.onward };
        on = λ calls on. asked_on way now now' calls held held' offset size (few_wanted job.windows offset size had.heard.planned range) blank forgets asked on;
      };
})

-- Slices begin.

abbrev with_left : windows.Seen → List Slice → windows.Seen
with_left plan slices = record plan { plan = record plan.plan { slices = slices } }

handed_planned : (plan plan' : windows.Seen) (blank : ℕ → Bool) (slices more : List Slice) → plan.plan.slices ≡ more ++ plan'.plan.slices → plan' ≡ with_left plan plan'.plan.slices → windows.IsPlanned plan blank slices →
    windows.IsPlanned plan' blank (slices ++ more)
handed_planned plan plan' blank slices more handed others planned = subst (λ (w : windows.Seen). windows.IsPlanned w blank (slices ++ more)) (sym others) (record {
  parts = planned.parts;
  are = append_assoc slices more plan'.plan.slices ∙ ap (λ (l : List Slice). slices ++ l) (sym handed) ∙ planned.are;
  end = planned.end;
  within = planned.within;
  told = planned.told;
  under_way = planned.under_way;
  whole = planned.whole;
})

handed_spared : (plan plan' : windows.Seen) (whole : (block p : ℕ) → Bool) (slices more : List Slice) → plan.plan.slices ≡ more ++ plan'.plan.slices → plan' ≡ with_left plan plan'.plan.slices → IsSpared plan (whole plan.grain) slices →
    IsSpared plan' (whole plan'.grain) (slices ++ more)
handed_spared plan plan' whole slices more handed others spared = subst (λ (w : windows.Seen). IsSpared w (whole w.grain) (slices ++ more)) (sym others) (record {
  parts = spared.parts;
  are = append_assoc slices more plan'.plan.slices ∙ ap (λ (l : List Slice). slices ++ l) (sym handed) ∙ spared.are;
  end = spared.end;
  planned = spared.planned;
  under_way = spared.under_way;
  inside = spared.inside;
})

handed_heard : (plan plan' : windows.Seen) (heard : ℕ → Bool) → plan' ≡ with_left plan plan'.plan.slices → IsHeardTo plan heard → IsHeardTo plan' heard
handed_heard plan plan' heard others was = subst (λ (w : windows.Seen). IsHeardTo w heard) (sym others) (record { planned = was.planned; before = was.before; blocks = was.blocks; steps = was.steps })

pub acts_begun : (job job' : Seen) (windows' : windows.Seen) (how : How) (sides : Sides) (now now' : board.Seen) (held held' : List (Held Ticket)) → job.phase ≡ Copying → how ≡ job.terms.how → sides ≡ job.terms.sides → job' ≡ record job { windows = windows' } →
    Begins how sides job.windows windows' now now' held held' → Acts job job' now now' held held'
acts_begun job job' windows' how sides now now' held held' copying h s is begins = subst (λ (j : Seen). Acts job j now now' held held') (sym is) (record {
  stand = begins.keeps.stand;
  on = λ way had. record {
    way' = with_slices begins.more way;
    one = record { from = refl; to = refl; how = refl; sides = refl; extents = refl };
    job' = record {
      size = had.size;
      how = had.how;
      writes = ap (λ (b : board.Seen). b.how) begins.begun ∙ had.writes;
      sides = had.sides;
      ends = ap (λ (w : windows.Seen). w.size) begins.others ∙ had.ends;
      cells = ap (λ (w : windows.Seen). w.plan.cells) begins.others ∙ had.cells;
      planned = handed_planned job.windows windows' way.zero way.slices begins.more begins.handed begins.others had.planned;
      grain = ap (λ (w : windows.Seen). w.grain) begins.others ∙ had.grain;
      spared = handed_spared job.windows windows' way.whole way.slices begins.more begins.handed begins.others had.spared;
      asked = had.asked ∙ ap (λ (w : windows.Seen). if job.asked then windows.wanted w else None) (sym begins.others);
      over = λ other. absurd (other copying);
      unwanted = λ no. ap (λ (b : board.Seen). b.flushing) begins.begun ∙ had.unwanted no;
      unflushed = λ c. ap (λ (b : board.Seen). b.flushing) begins.begun ∙ had.unflushed c;
      rests = λ other. absurd (other copying);
      flushed = λ parts. absurd (still_copying job.phase copying parts);
      heard = subst (λ (g : ℕ). IsHeardTo windows' (way.heard g)) (sym (ap (λ (w : windows.Seen). w.grain) begins.others)) (handed_heard job.windows windows' (way.heard job.windows.grain) begins.others had.heard);
      reached = told_handed job.windows windows' way.reach begins.others had.reached;
      parts = had.parts;
      wants = had.wants;
      onward = onward_begun job windows' way.queries windows'.plan.slices begins.others had.onward;
    };
    on = λ calls on. begins.keeps.on way calls (had.how ∙ sym h) (had.sides ∙ sym s) on;
  };
})

-- The end.

-- All is asked and done: the copy comes to rest.
acts_concludes : (job job' : Seen) (phase' : Phase) (now now' : board.Seen) (held held' : List (Held Ticket)) → job' ≡ record job { phase = phase' } → (phase' ≡ Copying → ⊥) → job.phase ≡ Copying → IsOver job now → now' ≡ record now { flushing = now'.flushing } → ((job.terms.flush ≡ false → now.flushing ≡ false) → job.terms.flush ≡ false → now'.flushing ≡ false) → (phase' ≡ Parting → job.terms.flush ≡ true → now'.flushed ≡ true) →
    (Stand held → Stand held') → ((way : Way) (calls : List wire.Call) → IsJob job way now → IsOn way now calls held → IsOn (record way { ended = is_parting phase' }) now' calls held') → Acts job job' now now' held held'
acts_concludes job job' phase' now now' held held' is past copying over same unwanted flushed stand goes = subst (λ (j : Seen). Acts job j now now' held held') (sym is) (record {
  stand = stand;
  on = λ way had. record {
    way' = record way { rested = Some now; ended = is_parting phase' };
    one = record { from = refl; to = refl; how = refl; sides = refl; extents = refl };
    job' = record {
      size = had.size;
      how = had.how;
      writes = ap (λ (b : board.Seen). b.how) same ∙ had.writes;
      sides = had.sides;
      ends = had.ends;
      cells = had.cells;
      planned = had.planned;
      grain = had.grain;
      spared = had.spared;
      asked = had.asked;
      over = λ other. record { planned = over.planned; handed = over.handed; heard = over.heard; rows = ap (λ (b : board.Seen). b.rows) same ∙ over.rows };
      unwanted = unwanted had.unwanted;
      unflushed = λ c. absurd (past c);
      rests = λ other. record {
        was = now;
        is = refl;
        error = λ none. sym (ap (λ (b : board.Seen). b.error) same) ∙ none;
        read = ap (λ (b : board.Seen). b.read) same;
        written = ap (λ (b : board.Seen). b.written) same;
        zeroed = ap (λ (b : board.Seen). b.zeroed) same;
      };
      flushed = flushed;
      heard = had.heard;
      reached = had.reached;
      parts = refl;
      wants = had.wants;
      onward = record { few = had.onward.few; some = had.onward.some; inside = had.onward.inside };
    };
    on = λ calls on. at_rest (record way { ended = is_parting phase' }) now now' calls held' (goes way calls had on) (came_to_rest job way now calls held copying over had on);
  };
})

parting_past : Parting ≡ Copying → ⊥
parting_past e = cc

-- All connections are asked to part, where no flush is wanted.
pub acts_parting : (job job' : Seen) (now : board.Seen) (held held' : List (Held Ticket)) → job.terms.flush ≡ false → job' ≡ record job { phase = Parting } → job.phase ≡ Copying → IsOver job now → now.error ≡ None → AreAlive held → Parts now held held' →
    Acts job job' now now held held'
acts_parting job job' now held held' unwanted is copying over well alive parts =
    acts_concludes job job' Parting now now held held' is parting_past copying over refl (λ none. none) (λ parts wanted. absurd (false≢true (sym unwanted ∙ wanted))) parts.stand
    (λ way calls had on.
    parts.on (record way { ended = true }) calls refl (at_end way now calls held (had.parts ∙ ap is_parting copying) (λ two. all_is_done job way now calls held had over well (λ flushing. absurd (false≢true (sym (had.unwanted unwanted) ∙ flushing))) on two)
    (λ wanted two. absurd (false≢true (sym unwanted ∙ sym had.wants ∙ wanted))) alive on))

-- So they are where the flush was answered.
pub acts_flushed : (job job' : Seen) (now : board.Seen) (held held' : List (Held Ticket)) → now.flushed ≡ true → job' ≡ record job { phase = Parting } → job.phase ≡ Flushing → now.error ≡ None → AreAlive held → Parts now held held' → Acts job job' now now held held'
acts_flushed job job' now held held' answered is flushing well alive parts =
    let past : job.phase ≡ Copying → ⊥ = λ e. phases_differ (sym flushing ∙ e) in
    subst (λ (j : Seen). Acts job j now now held held') (sym is) (record {
      stand = parts.stand;
      on = λ way had. record {
        way' = record way { ended = true };
        one = record { from = refl; to = refl; how = refl; sides = refl; extents = refl };
        job' = record {
          size = had.size;
          how = had.how;
          writes = had.writes;
          sides = had.sides;
          ends = had.ends;
          cells = had.cells;
          planned = had.planned;
          grain = had.grain;
          spared = had.spared;
          asked = had.asked;
          over = λ other. let was = had.over past in record { planned = was.planned; handed = was.handed; heard = was.heard; rows = was.rows };
          unwanted = had.unwanted;
          unflushed = λ c. absurd (parting_past c);
          rests = λ other. had.rests past;
          flushed = λ parts wanted. answered;
          heard = had.heard;
          reached = had.reached;
          parts = refl;
          wants = had.wants;
          onward = record { few = had.onward.few; some = had.onward.some; inside = had.onward.inside };
        };
        on = λ calls on.
            parts.on (record way { ended = true }) calls refl (at_end way now calls held (had.parts ∙ ap is_parting flushing) (λ two. all_is_done job way now calls held had (had.over past) well (λ flushing. answered) on two) (λ wanted two. flush_is_done job way now calls held had well answered on two) alive on);
      };
    })

flushing_differs : Flushing ≡ Parting → ⊥
flushing_differs e = cc

-- The destination's first connection is asked to flush.
flush_asks : (how : How) (now now' : board.Seen) (slices : List Slice) → now' ≡ record now { flushing = true } → now.flushing ≡ false → AsksDestination how (without_buffer (flush_of ticket.Flush 0)) slices (slices ++ []) now now'
flush_asks how now now' slices is unflushed =
    let command = without_buffer (flush_of ticket.Flush 0) in
    record {
      bytes = λ _. refl;
      earlier = λ none. sym (ap (λ (b : board.Seen). b.error) is) ∙ none;
      on = λ source destination link cookie stands.
          subst (λ (more : List Slice). rows.Stands how more now'.rows source (asking link cookie ticket.Flush (asked_by command) destination)) (sym (append-nil slices))
          (subst (λ (b : board.Seen). rows.Stands how slices b.rows source (asking link cookie ticket.Flush (asked_by command) destination)) (sym is)
          ((flush_kept how now.rows source destination link cookie (asked_by command) refl refl).on slices stands));
      counts = λ source destination link cookie k. record {
        read = ap (λ (b : board.Seen). b.read) is ∙ k.read;
        written = ap (λ (b : board.Seen). b.written) is ∙ k.written ∙ ap up_to_end (sym (bytes_beside is_write link cookie ticket.Flush (asked_by command) destination refl));
        zeroed = ap (λ (b : board.Seen). b.zeroed) is ∙ k.zeroed ∙ ap up_to_end (sym (bytes_beside is_zero link cookie ticket.Flush (asked_by command) destination refl));
        flushes = flushes_first now now' link cookie ticket.Flush (asked_by command) destination refl unflushed (ap (λ (b : board.Seen). b.flushing) is) k.flushes;
      };
      flushed = ap (λ (b : board.Seen). b.flushed) is;
    }

pub acts_flushing : (job job' : Seen) (now now' : board.Seen) (held held' : List (Held Ticket)) → job.terms.flush ≡ true → job' ≡ record job { phase = Flushing } → job.phase ≡ Copying → IsOver job now → now' ≡ record now { flushing = true } → IsAsked 1 (flush_of ticket.Flush 0) held held' →
    Acts job job' now now' held held'
acts_flushing job job' now now' held held' wanted is copying over asks asked =
    let begun : now'.begun ≡ now.begun = ap (λ (b : board.Seen). b.begun) asks in
    acts_concludes job job' Flushing now now' held held' is phases_differ copying over (asks ∙ ap (λ (b : board.Seen). record now { flushing = b.flushing }) (sym asks)) (λ none no. absurd (false≢true (sym no ∙ wanted))) (λ parts. absurd (flushing_differs parts)) (stand_asked 1 (flush_of ticket.Flush 0) held held' asked)
    (λ way calls had on. subst (λ (e : Bool). IsOn (record way { ended = e }) now' calls held') (had.parts ∙ ap is_parting copying)
    (none_on job.terms.how job.terms.sides now now' held held' (destination_keeps job.terms.how job.terms.sides [] (flush_of ticket.Flush 0) now now' held held' (omega (arith, begun)) refl refl (record { told = ap (λ (b : board.Seen). b.told) asks; mapped = ap (λ (b : board.Seen). b.mapped) asks; short = ap (λ (b : board.Seen). b.short) asks })
    (λ slices count. flush_asks job.terms.how now now' slices asks (had.unflushed copying))
    (connection_of job.terms.sides 1) (binds_none false (connection_of job.terms.sides 1) ticket.Flush now now' flush_differs (ap (λ (b : board.Seen). b.rows) asks))
    (record { index = 1; side = refl; here = refl; asked = asked }) (λ flushes. refl)) way calls had.how had.sides on))

-- A job begins.
pub job_begins : (job : Seen) (way : Way) (now : board.Seen) → job.asked ≡ false → job.phase ≡ Copying → job.windows.plan.cells ≡ cells_of job.terms → job.windows.size ≡ job.terms.size → job.windows.grain ≡ job.terms.grain → ((blank : ℕ → Bool) → windows.IsPlanned job.windows blank []) →
    way.size ≡ Some job.terms.size → now.how ≡ job.terms.how → way.how ≡ job.terms.how → way.sides ≡ job.terms.sides → way.slices ≡ [] → way.asked ≡ None → ((block p : ℕ) → way.whole block p ≡ false) → now.flushing ≡ false → IsHeardTo job.windows (way.heard job.windows.grain) → IsToldTo job.windows way.reach → job.windows.at ≤ job.windows.size → way.ended ≡ false → way.flush ≡ job.terms.flush → way.queries ≡ 0 → IsJob job way now
job_begins job way now none copying cells ends grain planned z w h s blank asked unknown unflushed heard reached inside unended wants unqueried = record {
  size = z;
  how = h;
  writes = w;
  sides = s;
  ends = ends;
  cells = cells;
  planned = subst (λ (l : List Slice). windows.IsPlanned job.windows way.zero l) (sym blank) (planned way.zero);
  grain = grain;
  spared = subst (λ (l : List Slice). IsSpared job.windows (way.whole job.windows.grain) l) (sym blank) (spared_none job.windows way.zero (way.whole job.windows.grain) [] (unknown job.windows.grain) (planned way.zero));
  asked = asked ∙ ap (λ (b : Bool). if b then windows.wanted job.windows else None) (sym none);
  over = λ other. absurd (other copying);
  unwanted = λ no. unflushed;
  unflushed = λ c. unflushed;
  rests = λ other. absurd (other copying);
  flushed = λ parts. absurd (still_copying job.phase copying parts);
  heard = heard;
  reached = reached;
  parts = unended ∙ sym (ap is_parting copying);
  wants = wants;
  onward = onward_begins job way.queries unqueried none inside;
}

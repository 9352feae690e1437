-- How far a dump has come stays so, and it goes on.
use Rattle.std.proofs.Common.{◌≡◌, ◌⊎◌, inl, inr, ℕ, ◌+◌, ◌<◌, ◌≤◌, Bool, true, false, List, [], ◌∷◌, ◌++◌, Option, Some, None, append_assoc, refl, sym, ◌∙◌, ap, subst, arith}
use Rattle.std.specs.Prelude.{slice_get, is_some, ◌&&◌, nat_le, nat_lt}
use Rattle.std.proofs.lemmas.Bool.{cases_eq, false≢true, leb-true, ltb-true, le-leb, lt-ltb}
use Rattle.lnbd_model.specs.declared.export.ExportInfo.{ExportInfo}
use Rattle.lnbd_model.specs.declared.kind.Kind.TheVariants.{Read, BlockStatus}
use Rattle.lnbd_extents.specs.Positions.{within}
use Rattle.lnbd_history.specs.Commands.{Request, request_of}
use Rattle.lnbd_history.specs.Events.{History, Issue}
use Rattle.lnbd_history.specs.History.{asked, reading, request}
use Rattle.lnbd_tracks.proofs.Staying.{next_beside, next_here}
use Rattle.lnbd_dump.specs.declared.asking.Plan.{Plan}
use Rattle.lnbd_dump.specs.declared.reader.Latest.{Latest}
use Rattle.lnbd_dump.specs.declared.reader.Reader.{Reader}
use Rattle.lnbd_reel.specs.declared.reel.Part.{Part}
use Rattle.lnbd_reel.specs.declared.reel.Run.{Run}
use Rattle.lnbd_dump.specs.Asks.{AsksRead, reading_of}
use Rattle.lnbd_ask.specs.Maps.{block_of}
use Rattle.lnbd_dump.specs.Conduct.{IsFreshRead, WasAnswered, WasKnown, WasToldWhole, piece_of}
use Rattle.lnbd_dump.specs.Course.{Course, IsStatus, IsUnderWay}
use Rattle.lnbd_dump.specs.Filling.{BeginsPart, IsBegunBy}
use Rattle.lnbd_dump.specs.Leads.{Grown, IsRead, IsTied, Quiet, TellsZero}
use Rattle.lnbd_reel.specs.Reel.{AreRuns, AreSpared, IsBegun}
use Rattle.lnbd_history.specs.Entries.{own}
use Rattle.lnbd_asked.specs.Driven.{zero_after}
use Rattle.lnbd_asked.specs.Transcript.{zero_told}
use Rattle.lnbd_dump.proofs.DoneLemmas.{StaysDone, stays_done}
use Rattle.lnbd_dump.proofs.LaterLemmas.{grown_event, zero_later}
use Rattle.lnbd_reel.proofs.LaidLemmas.{first_run, first_spared, laid_keeps, laid_more, runs_keep, spared_keep}

-- ---- Positions.

and_first : (a b : Bool) → (a && b) ≡ true → a ≡ true
and_first true b e = refl
and_first false b e = absurd (false≢true e)

and_second : (a b : Bool) → (a && b) ≡ true → b ≡ true
and_second true b e = e
and_second false b e = absurd (false≢true e)

pub within_bounds : (at size p : ℕ) → within (at, size) p ≡ true → (at ≤ p) × (p < at + size)
within_bounds at size p e = (leb-true at p (and_first (nat_le at p) (nat_lt p (at + size)) e), ltb-true p (at + size) (and_second (nat_le at p) (nat_lt p (at + size)) e))

pub within_both : (at size p : ℕ) → at ≤ p → p < at + size → within (at, size) p ≡ true
within_both at size p low high = ap (λ (b : Bool). b && nat_lt p (at + size)) (le-leb at p low) ∙ lt-ltb p (at + size) high

pub within_none : (at size p : ℕ) → at + size ≤ p → within (at, size) p ≡ false
within_none at size p past = go (within (at, size) p) refl
  where
    go : (b : Bool) → within (at, size) p ≡ b → within (at, size) p ≡ false
    go true e = let w = within_bounds at size p e in absurd (omega (arith, w.1, past))
    go false e = e

-- ---- What stays.

pub read_later : (before after : History Reader) → Grown before after → (cookie offset size : ℕ) → IsRead before cookie offset size → IsRead after cookie offset size
read_later before after later cookie offset size r = record { asks = r.asks; there = later.asked cookie r.asks r.there; kind = r.kind; offset = r.offset; length_ = r.length_; payload = r.payload }

pub known_later : (before after : History Reader) → Grown before after → (info : ExportInfo) → WasKnown before info → WasKnown after info
known_later before after later info k = record {
  earlier = k.earlier;
  since = later.since ++ k.since;
  is = later.is ∙ ap (λ (h : History Reader). later.since ++ h) k.is ∙ sym (append_assoc later.since k.since k.earlier);
  ready = k.ready;
  quiet = k.quiet;
  told = k.told;
}

pub answered_later : (before after : History Reader) → Grown before after → (p : ℕ) → WasAnswered before p → WasAnswered after p
answered_later before after later p a = record {
  cookie = a.cookie;
  asks = a.asks;
  bytes = a.bytes;
  asked = later.asked a.cookie a.asks a.asked;
  kind = a.kind;
  done = later.done a.cookie a.asks a.bytes a.asked a.done;
  has = a.has;
}

status_later : (before after : History Reader) → Grown before after → (known known' cookie : ℕ) (asks : Request Reader) → known ≤ known' → request before cookie ≡ Some asks → IsStatus before known cookie asks → IsStatus after known' cookie asks
status_later before after later known known' cookie asks up is s = record { kind = s.kind; before = (let b = s.before in omega (arith, b, up)); bytes = s.bytes; done = later.done cookie asks s.bytes is s.done }

-- What one that was done then told as zero, it had told so before.
pub spared_back : (info : ExportInfo) (at known : ℕ) (runs : List Run) (world : Latest) (before after : History Reader) → Course info at known runs world before → Grown before after → (block p : ℕ) → (w : WasToldWhole block after p) → request before w.cookie ≡ Some w.asks → WasToldWhole block before p
spared_back info at known runs world before after c g block p w there = record {
  cookie = w.cookie;
  asks = w.asks;
  bytes = s.bytes;
  asked = there;
  kind = w.kind;
  done = s.done;
  whole = λ q same. (let h = w.whole q same in (h.0, zero_same q ∙ h.1));
}
  where
    s : IsStatus before known w.cookie w.asks
    s = c.statuses w.cookie w.asks there (c.listens w.cookie w.asks there w.kind)

    stays : StaysDone before after w.cookie w.asks s.bytes
    stays = subst (λ (h : History Reader). StaysDone before h w.cookie w.asks s.bytes) (sym g.is) (stays_done g.since before w.cookie w.asks s.bytes there s.done)

    zero_same : (q : ℕ) → zero_after before w.cookie q ≡ zero_after after w.cookie q
    zero_same q = ap (λ (a : Option (Request Reader)). zero_told a (own w.cookie (reading before).known.entries) q) (there ∙ sym w.asked) ∙ ap (λ l. zero_told (request after w.cookie) l q) (sym stays.own_same)

pub course_quiet : (info : ExportInfo) (at known : ℕ) (runs : List Run) (world world' : Latest) (before after : History Reader) → Quiet before after → (IsTied world before → IsTied world' after) → Course info at known runs world before → Course info at known runs world' after
course_quiet info at known runs world world' before after q tied c = record {
  knows = known_later before after q.later.grown info c.knows;
  well = q.well info c.well;
  keeps = q.later.keeps c.keeps;
  tied = tied c.tied;
  unread = λ k asks is read. c.unread k asks (sym (q.same k) ∙ is) read;
  statuses = λ k asks is some. status_later before after q.later.grown known known k asks (omega arith) (sym (q.same k) ∙ is) (c.statuses k asks (sym (q.same k) ∙ is) some);
  answered = λ agreed p low high. answered_later before after q.later.grown p (c.answered agreed p low high);
  runs_are = runs_keep (TellsZero before) (TellsZero after) (zero_later before after q.later.grown) at runs known c.runs_are;
  listens = λ k asks is kind. c.listens k asks (sym (q.same k) ∙ is) kind;
  spared = spared_keep (TellsZero before) (WasToldWhole (block_of info) before) (WasToldWhole (block_of info) after) 0 (λ p low w. back p w) at runs known (omega arith) c.runs_are c.spared;
  beyond = λ p low w. c.beyond p low (back p w);
}
  where
    back : (p : ℕ) → WasToldWhole (block_of info) after p → WasToldWhole (block_of info) before p
    back p w = spared_back info at known runs world before after c q.later.grown (block_of info) p w (sym (q.same w.cookie) ∙ w.asked)

pub under_quiet : (info : ExportInfo) (from : ℕ) (plan : Plan) (runs : List Run) (reel : List Part) (world world' : Latest) (before after : History Reader) → Quiet before after → (IsTied world before → IsTied world' after) → IsUnderWay info from plan runs reel world before → IsUnderWay info from plan runs reel world' after
under_quiet info from plan runs reel world world' before after q tied u = record {
  fits = u.fits;
  course = course_quiet info plan.at plan.known runs world world' before after q tied u.course;
  laid = laid_keeps (TellsZero before) (TellsZero after) (IsRead before) (IsRead after) (zero_later before after q.later.grown) (read_later before after q.later.grown) from reel plan.at u.laid;
}

-- ---- A read is asked.

module _ (info : ExportInfo) (at known : ℕ) (runs : List Run) (world : Latest) (before : History Reader) (size : ℕ) (c : Course info at known runs world before) where
  abbrev asked_now : History Reader
  asked_now = Issue (reading_of at size) ∷ before

  abbrev one : Request Reader
  one = request_of (asked before).admitted (reading_of at size)

  later : Grown before asked_now
  later = grown_event (Issue (reading_of at size)) before refl

  some_same : (a b : Request Reader) → Some a ≡ Some b → a ≡ b
  some_same a b e = cc

  -- each request is the one that is asked now, or one before
  which : (k : ℕ) (asks : Request Reader) → request asked_now k ≡ Some asks → (one ≡ asks) ⊎ (request before k ≡ Some asks)
  which k asks is = go (cases_eq ((asked before).issued + 1) k)
    where
      go : ((asked before).issued + 1 ≡ k) ⊎ ((asked before).issued + 1 ≡ k → ⊥) → (one ≡ asks) ⊎ (request before k ≡ Some asks)
      go (inl same) = inl (some_same one asks (sym (next_here before (reading_of at size) k same) ∙ is))
      go (inr differ) = inr (sym (next_beside before (reading_of at size) k differ) ∙ is)

  fresh : size ≤ piece_of info → at + size ≤ known → ((p : ℕ) → at ≤ p → p < at + size → WasToldWhole (block_of info) before p → ⊥) → IsFreshRead info before (reading_of at size)
  fresh small within_known free = record {
    small = small;
    unread = λ p inside k asks is read. (
        let w = within_bounds at size p inside in
        let past = c.unread k asks is read in
        within_none asks.offset asks.length p (omega (arith, past, w.0)));
    answered = λ agreed p inside. (let w = within_bounds at size p inside in c.answered agreed p w.0 (omega (arith, w.1, within_known)));
    spared = λ p inside told. (let w = within_bounds at size p inside in free p w.0 w.1 told);
  }

  pub course_read : size ≤ piece_of info → at + size ≤ known → ((p : ℕ) → at ≤ p → p < at + size → WasToldWhole (block_of info) before p → ⊥) → (at' : ℕ) → at' ≡ at + size → (runs' : List Run) → AreRuns (TellsZero asked_now) at' runs' known
      → AreSpared (WasToldWhole (block_of info) before) at' runs' known → Course info at' known runs' world asked_now
  course_read small within_known free at' at_is runs' runs_are spared = record {
    knows = known_later before asked_now later info c.knows;
    well = (fresh small within_known free, c.well);
    keeps = c.keeps;
    tied = c.tied;
    unread = λ k asks is read. go_unread k asks read (which k asks is);
    statuses = λ k asks is some. go_status k asks some (which k asks is);
    answered = λ agreed p low high. answered_later before asked_now later p (c.answered agreed p (omega (arith, at_is, low)) high);
    runs_are = runs_are;
    listens = λ k asks is kind. go_listens k asks kind (which k asks is);
    spared = spared_keep (TellsZero asked_now) (WasToldWhole (block_of info) before) (WasToldWhole (block_of info) asked_now) 0 (λ p low w. back p w) at' runs' known (omega arith) runs_are spared;
    beyond = λ p low w. c.beyond p low (back p w);
  }
    where
      not_status : Read ≡ BlockStatus → ⊥
      not_status e = cc

      go_listens : (k : ℕ) (asks : Request Reader) → asks.kind ≡ BlockStatus → (one ≡ asks) ⊎ (request before k ≡ Some asks) → is_some asks.flight.first ≡ true
      go_listens k asks kind (inl same) = absurd (not_status (ap (λ (r : Request Reader). r.kind) same ∙ kind))
      go_listens k asks kind (inr there) = c.listens k asks there kind

      was_there : (k : ℕ) (asks : Request Reader) → asks.kind ≡ BlockStatus → (one ≡ asks) ⊎ (request before k ≡ Some asks) → request before k ≡ Some asks
      was_there k asks kind (inl same) = absurd (not_status (ap (λ (r : Request Reader). r.kind) same ∙ kind))
      was_there k asks kind (inr there) = there

      back : (p : ℕ) → WasToldWhole (block_of info) asked_now p → WasToldWhole (block_of info) before p
      back p w = spared_back info at known runs world before asked_now c later (block_of info) p w (was_there w.cookie w.asks w.kind (which w.cookie w.asks w.asked))

      go_unread : (k : ℕ) (asks : Request Reader) → asks.kind ≡ Read → (one ≡ asks) ⊎ (request before k ≡ Some asks) → asks.offset + asks.length ≤ at'
      go_unread k asks read (inl same) = subst (λ (r : Request Reader). r.offset + r.length ≤ at') same (omega (arith, at_is))
      go_unread k asks read (inr there) = let old = c.unread k asks there read in omega (arith, at_is, old)

      go_status : (k : ℕ) (asks : Request Reader) → is_some asks.flight.first ≡ true → (one ≡ asks) ⊎ (request before k ≡ Some asks) → IsStatus asked_now known k asks
      go_status k asks some (inl same) = absurd (false≢true (ap (λ (r : Request Reader). is_some r.flight.first) same ∙ some))
      go_status k asks some (inr there) = status_later before asked_now later known known k asks (omega arith) there (c.statuses k asks there some)

-- A part is begun.

begin_zero : (info : ExportInfo) (from : ℕ) (plan plan' : Plan) (run : Run) (runs runs' : List Run) (reel : List Part) (part : Part) (world : Latest) (before after : History Reader) → slice_get runs 0 ≡ Some run → plan' ≡ record plan { at = plan.at + part.length } → part.start ≡ plan.at
    → 0 < part.length → plan.at + part.length ≤ run.end → part.cookie ≡ None → run.zero ≡ true → after ≡ before → AreRuns (TellsZero before) (plan.at + part.length) runs' plan.known
    → AreSpared (WasToldWhole (block_of info) before) (plan.at + part.length) runs' plan.known → IsUnderWay info from plan runs reel world before → IsUnderWay info from plan' runs' (reel ++ part ∷ []) world after
begin_zero info from plan plan' run runs runs' reel part world before after first plan_is start some fits none zero same rest spared u =
    subst (λ (h : History Reader). IsUnderWay info from plan' runs' (reel ++ part ∷ []) world h) (sym same) (subst (λ (q : Plan). IsUnderWay info from q runs' (reel ++ part ∷ []) world before) (sym plan_is) (record {
      fits = record { block = u.fits.block; piece = u.fits.piece; agreed = u.fits.agreed };
      course = record {
        knows = u.course.knows;
        well = u.course.well;
        keeps = u.course.keeps;
        tied = u.course.tied;
        unread = λ k asks is read. (let old = u.course.unread k asks is read in omega (arith, old));
        statuses = u.course.statuses;
        answered = λ agreed p low high. u.course.answered agreed p (omega (arith, low)) high;
        runs_are = rest;
        listens = u.course.listens;
        spared = spared;
        beyond = u.course.beyond;
      };
      laid = laid_more (TellsZero before) (IsRead before) from reel plan.at part u.laid start some begun (plan.at + part.length) refl;
    }))
  where
    here : (plan.at < run.end) × (run.end ≤ plan.known) × (run.zero ≡ true → (p : ℕ) → plan.at ≤ p → p < run.end → TellsZero before p)
    here = first_run (TellsZero before) plan.at runs plan.known run first u.course.runs_are

    begun : IsBegun (TellsZero before) (IsRead before) part.start part.length part.cookie
    begun = subst (λ (k : Option ℕ). IsBegun (TellsZero before) (IsRead before) part.start part.length k) (sym none) (λ p low high. here.2 zero p (omega (arith, start, low)) (omega (arith, start, high, fits)))

begin_read : (info : ExportInfo) (from : ℕ) (plan plan' : Plan) (run : Run) (runs runs' : List Run) (reel : List Part) (part : Part) (world : Latest) (before after : History Reader) (cookie : ℕ) → slice_get runs 0 ≡ Some run → plan' ≡ record plan { at = plan.at + part.length } → part.start ≡ plan.at
    → 0 < part.length → plan.at + part.length ≤ run.end → part.cookie ≡ Some cookie → run.zero ≡ false → part.length ≤ plan.piece → AsksRead cookie plan.at part.length before after → AreRuns (TellsZero before) (plan.at + part.length) runs' plan.known
    → AreSpared (WasToldWhole (block_of info) before) (plan.at + part.length) runs' plan.known → IsUnderWay info from plan runs reel world before → IsUnderWay info from plan' runs' (reel ++ part ∷ []) world after
begin_read info from plan plan' run runs runs' reel part world before after cookie first plan_is start some fits mine read small asks rest spared u =
    subst (λ (h : History Reader). IsUnderWay info from plan' runs' (reel ++ part ∷ []) world h) (sym asks.is) (subst (λ (q : Plan). IsUnderWay info from q runs' (reel ++ part ∷ []) world next) (sym plan_is) (record {
      fits = record { block = u.fits.block; piece = u.fits.piece; agreed = u.fits.agreed };
      course = course_read info plan.at plan.known runs world before part.length u.course (let e = u.fits.piece in omega (arith, e, small)) (omega (arith, here.1, fits))
          (λ p low high told. first_spared (WasToldWhole (block_of info) before) plan.at runs plan.known run first u.course.spared read p low (omega (arith, high, fits)) told) (plan.at + part.length) refl runs'
          (runs_keep (TellsZero before) (TellsZero next) (zero_later before next later) (plan.at + part.length) runs' plan.known rest) spared;
      laid = laid_more (TellsZero next) (IsRead next) from reel plan.at part
          (laid_keeps (TellsZero before) (TellsZero next) (IsRead before) (IsRead next) (zero_later before next later) (read_later before next later) from reel plan.at u.laid) start some begun (plan.at + part.length) refl;
    }))
  where
    next : History Reader
    next = Issue (reading_of plan.at part.length) ∷ before

    later : Grown before next
    later = grown_event (Issue (reading_of plan.at part.length)) before refl

    here : (plan.at < run.end) × (run.end ≤ plan.known) × (run.zero ≡ true → (p : ℕ) → plan.at ≤ p → p < run.end → TellsZero before p)
    here = first_run (TellsZero before) plan.at runs plan.known run first u.course.runs_are

    begun : IsBegun (TellsZero next) (IsRead next) part.start part.length part.cookie
    begun = subst (λ (k : Option ℕ). IsBegun (TellsZero next) (IsRead next) part.start part.length k) (sym mine) (record {
      asks = request_of (asked before).admitted (reading_of plan.at part.length);
      there = next_here before (reading_of plan.at part.length) cookie (sym asks.number);
      kind = refl;
      offset = sym start;
      length_ = refl;
      payload = refl;
    })

pub begins : (info : ExportInfo) (from : ℕ) (plan plan' : Plan) (run : Run) (runs runs' : List Run) (reel : List Part) (part : Part) (world : Latest) (before after : History Reader) → slice_get runs 0 ≡ Some run → plan' ≡ record plan { at = plan.at + part.length }
    → 0 < part.length → plan.at + part.length ≤ run.end → BeginsPart plan run part before after → AreRuns (TellsZero before) (plan.at + part.length) runs' plan.known
    → AreSpared (WasToldWhole (block_of info) before) (plan.at + part.length) runs' plan.known → IsUnderWay info from plan runs reel world before → IsUnderWay info from plan' runs' (reel ++ part ∷ []) world after
begins info from plan plan' run runs runs' reel part world before after first plan_is some fits b rest spared u = go part.cookie refl b.begun
  where
    go : (cookie : Option ℕ) → part.cookie ≡ cookie → IsBegunBy plan run cookie part.length before after → IsUnderWay info from plan' runs' (reel ++ part ∷ []) world after
    go None mine h = begin_zero info from plan plan' run runs runs' reel part world before after first plan_is b.start some fits mine h.0 h.2 rest spared u
    go (Some cookie) mine h = begin_read info from plan plan' run runs runs' reel part world before after cookie first plan_is b.start some fits mine h.0 (let e = h.1 in omega (arith, e)) h.2 rest spared u

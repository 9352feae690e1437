-- The status of blocks was asked and told.
use Rattle.std.proofs.Common.{◌≡◌, ◌⊎◌, inl, inr, ℕ, ◌+◌, ◌<◌, ◌≤◌, true, false, List, [], ◌∷◌, ◌++◌, Option, Some, None, refl, sym, ◌∙◌, ap, subst, arith}
use Rattle.std.specs.Prelude.{is_some}
use Rattle.std.proofs.lemmas.Bool.{cases_eq}
use Rattle.lnbd_history.specs.declared.kinds.Phase.TheVariants.{Ready}
use Rattle.lnbd_history.specs.Agreement.{phase}
use Rattle.lnbd_history.specs.Laws.{Lawful}
use Rattle.lnbd_asked.proofs.Doing.{state_of}
use Rattle.lnbd_asked.proofs.Staying.{turns_stay}
use Rattle.lnbd_model.specs.declared.export.ExportInfo.{ExportInfo}
use Rattle.lnbd_model.specs.declared.kind.Kind.TheVariants.{Read, BlockStatus}
use Rattle.lnbd_extents.specs.Positions.{within}
use Rattle.lnbd_outcome.specs.Outcome.{Done}
use Rattle.lnbd_history.specs.Commands.{Request, request_of}
use Rattle.lnbd_history.specs.Entries.{calls, is_ended, own}
use Rattle.lnbd_history.specs.Events.{History, Issue, Retire}
use Rattle.lnbd_history.specs.History.{asked, reading, request}
use Rattle.lnbd_asked.specs.Driven.{outcome_after, zero_after}
use Rattle.lnbd_asked.specs.Transcript.{zero_told}
use Rattle.lnbd_kept.specs.Kept.{AllKeep}
use Rattle.lnbd_poll.specs.Seen.{Seen}
use Rattle.lnbd_tracks.proofs.Staying.{done_over, next_beside, next_here}
use Rattle.lnbd_tracks.proofs.Unfiled.{request_stays}
use Rattle.lnbd_dump.specs.declared.reader.Latest.{Latest}
use Rattle.lnbd_dump.specs.declared.reader.Reader.{Reader}
use Rattle.lnbd_reel.specs.declared.reel.Run.{Run}
use Rattle.lnbd_dump.specs.declared.asking.Plan.{Plan}
use Rattle.lnbd_reel.specs.declared.reel.Part.{Part}
use Rattle.lnbd_dump.specs.Asks.{AsksStatus, status_of}
use Rattle.lnbd_ask.specs.Maps.{block_of, max_asked}
use Rattle.lnbd_dump.specs.Conduct.{AreWell, IsFreshStatus, WasKnown, WasToldWhole}
use Rattle.lnbd_dump.specs.Course.{Course, IsStatus, IsUnderWay}
use Rattle.lnbd_dump.specs.Heard.{IsZeroAmong, IsZeroIn, Laid, kept, told_by}
use Rattle.lnbd_dump.specs.Leads.{GoesQuietly, Grown, IsGoing, IsRead, IsTied, Later, Quiet, TellsZero}
use Rattle.lnbd_reel.specs.Reel.{AreRuns, AreSpared, IsInWhole}
use Rattle.lnbd_dump.specs.Takes.{TakesResult}
use Rattle.lnbd_dump.proofs.AskLemmas.{silent_done}
use Rattle.lnbd_dump.proofs.CourseLemmas.{known_later, read_later, spared_back, within_both, within_bounds, within_none}
use Rattle.lnbd_dump.proofs.HeedLemmas.{status_heard}
use Rattle.lnbd_reel.proofs.LaidLemmas.{laid_keeps, spared_keep}
use Rattle.lnbd_dump.proofs.HeardLemmas.{CameFor, told_came}
use Rattle.lnbd_dump.proofs.LaterLemmas.{grown_event, grown_on, later_event, later_on, zero_later}
use Rattle.lnbd_reel.proofs.ReelLemmas.{runs_up}

runs_keep_within : (zero zero' : ℕ → Type 0) (low high : ℕ) → ((p : ℕ) → low ≤ p → p < high → zero p → zero' p) → (from : ℕ) (runs : List Run) (to : ℕ) → low ≤ from → to ≤ high → AreRuns zero from runs to → AreRuns zero' from runs to
runs_keep_within zero zero' low high k from [] to l h r = r
runs_keep_within zero zero' low high k from (run ∷ runs) to l h r =
    let up = runs_up zero run.end runs to r.2 in
    (r.0, (λ is p a b. k p (omega (arith, l, a)) (omega (arith, b, up, h)) (r.1 is p a b)), runs_keep_within zero zero' low high k run.end runs to (let o = r.0 in omega (arith, o, l)) h r.2)

-- A status is asked of what was not read.
pub fresh_status : (info : ExportInfo) (at known : ℕ) (runs : List Run) (world : Latest) (before : History Reader) (size : ℕ) → Course info at known runs world before → size ≤ max_asked → IsFreshStatus before (status_of at size)
fresh_status info at known runs world before size c few = record {
  few = few;
  unread = λ p inside k asks is read. (
      let w = within_bounds at size p inside in
      let past = c.unread k asks is read in
      within_none asks.offset asks.length p (omega (arith, past, w.0)));
}

lawful_front : (limit : ℕ) (since earlier : History Reader) → Lawful limit (since ++ earlier) → Lawful limit earlier
lawful_front limit [] earlier lawful = lawful
lawful_front limit (event ∷ since) earlier lawful = lawful_front limit since earlier lawful.0

-- Requests can be made still of an export that was known.
known_ready : (limit : ℕ) (history : History Reader) (info : ExportInfo) → WasKnown history info → Lawful limit history → phase (reading history).known.turns ≡ Ready
known_ready limit history info k lawful =
    let ready = (state_of (reading k.earlier).known.stage (phase (reading k.earlier).known.turns) k.ready).1 in
    ap (λ (h : History Reader). phase (reading h).known.turns) k.is ∙ ap phase (turns_stay limit k.since k.earlier (subst (Lawful limit) k.is lawful) ready) ∙ ready

module _ (info : ExportInfo) (at known : ℕ) (world world' : Latest) (before h2 after : History Reader) (cookie size to : ℕ) (bytes : List ℕ) (runs : List Run) (c : Course info at known [] world before) (same_place : at ≡ known) (few : size ≤ max_asked) (q : Quiet (Issue (status_of at size) ∷ before) h2)
    (number : cookie ≡ (asked before).issued + 1) (tied : IsTied world (Issue (status_of at size) ∷ before) → IsTied world' h2) (full : world'.short ≡ false) (takes : TakesResult cookie bytes h2 after) (below : at < to) (above : to ≤ at + size) (told : AreRuns (IsZeroIn (kept world') at) at runs to)
    (lawful : Lawful 1024 after) (spared : AreSpared (IsInWhole (block_of info) (IsZeroAmong (kept world') at size)) at runs to) (beyond : (p : ℕ) → to ≤ p → IsInWhole (block_of info) (IsZeroAmong (kept world') at size) p → ⊥) where
  abbrev h1 : History Reader
  h1 = Issue (status_of at size) ∷ before

  abbrev last : History Reader
  last = Retire cookie ∷ h2

  abbrev one : Request Reader
  one = request_of (asked before).admitted (status_of at size)

  later_h2 : Later before h2
  later_h2 = later_on before h1 h2 (later_event (Issue (status_of at size)) before refl (λ k. k)) q.later

  later : Later before last
  later = later_on before h2 last later_h2 (later_event (Retire cookie) h2 refl (λ k. k))

  keeps_h2 : AllKeep (calls (reading h2).known.entries)
  keeps_h2 = q.later.keeps c.keeps

  there : request h2 cookie ≡ Some one
  there = q.same cookie ∙ next_here before (status_of at size) cookie (sym number)

  done : outcome_after h2 cookie ≡ Done bytes
  done = silent_done h2 cookie one bytes there keeps_h2 takes.done

  there_last : request last cookie ≡ Some one
  there_last = request_stays h2 (Retire cookie) cookie refl ∙ there

  done_last : outcome_after last cookie ≡ Done bytes
  done_last = (grown_event (Retire cookie) h2 refl).done cookie one bytes there done

  some_same : (a b : Request Reader) → Some a ≡ Some b → a ≡ b
  some_same a b e = cc

  -- each request is this one, or one before
  which : (k : ℕ) (asks : Request Reader) → request h2 k ≡ Some asks → ((k ≡ cookie) × (one ≡ asks)) ⊎ (request before k ≡ Some asks)
  which k asks is = go (cases_eq ((asked before).issued + 1) k)
    where
      go : ((asked before).issued + 1 ≡ k) ⊎ ((asked before).issued + 1 ≡ k → ⊥) → ((k ≡ cookie) × (one ≡ asks)) ⊎ (request before k ≡ Some asks)
      go (inl same) = inl (sym (number ∙ same), some_same one asks (sym (next_here before (status_of at size) k same) ∙ sym (q.same k) ∙ is))
      go (inr differ) = inr (sym (next_beside before (status_of at size) k differ) ∙ sym (q.same k) ∙ is)

  at_last : (k : ℕ) (asks : Request Reader) → request last k ≡ Some asks → request h2 k ≡ Some asks
  at_last k asks is = sym (request_stays h2 (Retire cookie) k refl) ∙ is

  not_read : BlockStatus ≡ Read → ⊥
  not_read e = cc

  -- what was told as zero last was told so by this one
  zero_of : (found : Option Laid) → kept world' ≡ found → (p : ℕ) → at ≤ p → p < to → IsZeroIn found at p → TellsZero last p
  zero_of None is p low high z = absurd z
  zero_of (Some laid) is p low high z = go (which came.cookie came.one came.there)
    where
      came : CameFor (request h2) (reading h2).known.entries laid
      came = told_came h2 laid (sym (tied c.tied full) ∙ is)

      here : laid.at ≡ came.one.offset
      here = came.at

      go : ((came.cookie ≡ cookie) × (one ≡ came.one)) ⊎ (request before came.cookie ≡ Some came.one) → TellsZero last p
      go (inl this) = record {
        cookie = cookie;
        asks = one;
        bytes = bytes;
        there = there_last;
        kind = refl;
        done = done_last;
        has_it = within_both at size p low (omega (arith, high, above));
        zero = (grown_event (Retire cookie) h2 refl).zero cookie p one there
            (ap (λ a. zero_told a (own cookie (reading h2).known.entries) p) there
            ∙ ap (λ (r : Request Reader). zero_told (Some r) (own cookie (reading h2).known.entries) p) this.1
            ∙ ap (λ (k : ℕ). zero_told (Some came.one) (own k (reading h2).known.entries) p) (sym this.0)
            ∙ came.zero p z.1);
      }
      go (inr old) = let s = (c.statuses came.cookie came.one old came.first).before in let e = z.0 in absurd (omega (arith, s, e, here, same_place))

  -- What this one told as zero, the extents that are kept do:
  heard_lawful : Lawful 1024 h2
  heard_lawful = (subst (Lawful 1024) takes.is lawful).0

  zero_heard : (p : ℕ) → zero_after h2 cookie p ≡ true → IsZeroIn (kept world') at p
  zero_heard p z =
      subst (λ (o : Option Laid). IsZeroIn o at p) (sym (tied c.tied full))
      (subst (λ (h : History Reader). IsZeroIn (told_by None (calls (reading h).known.entries)) at p) (sym q.later.grown.is)
      (status_heard 1024 q.later.grown.since before at size bytes (subst (Lawful 1024) q.later.grown.is heard_lawful)
      (known_ready 1024 before info c.knows (lawful_front 1024 q.later.grown.since h1 (subst (Lawful 1024) q.later.grown.is heard_lawful)).0)
      (here (λ h k. request h k ≡ Some one) there) (here (λ h k. outcome_after h k ≡ Done bytes) done)
      (λ k asks is differ some. others k asks differ some (which k asks (subst (λ (h : History Reader). request h k ≡ Some asks) (sym q.later.grown.is) is))) p
      (here (λ h k. zero_after h k p ≡ true) z)))
    where
      here : (P : History Reader → ℕ → Type 0) → P h2 cookie → P (q.later.grown.since ++ h1) ((asked before).issued + 1)
      here P x = subst (λ (h : History Reader). P h ((asked before).issued + 1)) q.later.grown.is (subst (P h2) number x)

      others : (k : ℕ) (asks : Request Reader) → (k ≡ (asked before).issued + 1 → ⊥) → is_some asks.flight.first ≡ true → ((k ≡ cookie) × (one ≡ asks)) ⊎ (request before k ≡ Some asks) → is_ended (own k (reading before).known.entries) ≡ true
      others k asks differ some (inl this) = absurd (differ (this.0 ∙ number))
      others k asks differ some (inr old) =
          let s = c.statuses k asks old some in
          done_over before k asks old (record { bytes = s.bytes; is = s.done })

  -- so a block that is told as zero is so by these extents, or was before.
  told_whole : (p : ℕ) → at ≤ p → WasToldWhole (block_of info) last p → IsInWhole (block_of info) (IsZeroAmong (kept world') at size) p
  told_whole p low w = go (which w.cookie w.asks (at_last w.cookie w.asks w.asked))
    where
      go : ((w.cookie ≡ cookie) × (one ≡ w.asks)) ⊎ (request before w.cookie ≡ Some w.asks) → IsInWhole (block_of info) (IsZeroAmong (kept world') at size) p
      go (inl this) = λ r same.
          let h = w.whole r same in
          let inside = within_bounds at size r (ap (λ (asks : Request Reader). within (asks.offset, asks.length) r) this.1 ∙ h.0) in
          let z : zero_after last cookie r ≡ true = ap (λ (k : ℕ). zero_after last k r) (sym this.0) ∙ h.1 in
          (inside.1, zero_heard r (ap (λ (a : Option (Request Reader)). zero_told a (own cookie (reading h2).known.entries) r) (sym (request_stays h2 (Retire cookie) cookie refl)) ∙ z))
      go (inr old) = absurd (c.beyond p (omega (arith, same_place, low)) (spared_back info at known [] world before last c later.grown (block_of info) p w old))

  course_more : Course info at to runs world' last
  course_more = record {
    knows = known_later before last later.grown info c.knows;
    well = q.well info (fresh_status info at known [] world before size c few, c.well);
    keeps = keeps_h2;
    tied = tied c.tied;
    unread = λ k asks is read. go_unread k asks read (which k asks (at_last k asks is));
    statuses = λ k asks is some. go_status k asks some (which k asks (at_last k asks is));
    answered = λ agreed p low high. record { cookie = cookie; asks = one; bytes = bytes; asked = there_last; kind = refl; done = done_last; has = within_both at size p low (omega (arith, high, above)) };
    runs_are = laid_now;
    listens = λ k asks is kind. go_listens k asks kind (which k asks (at_last k asks is));
    spared = spared_keep (TellsZero last) (IsInWhole (block_of info) (IsZeroAmong (kept world') at size)) (WasToldWhole (block_of info) last) at told_whole at runs to (omega arith) laid_now spared;
    beyond = λ p low w. beyond p low (told_whole p (omega (arith, below, low)) w);
  }
    where
      laid_now : AreRuns (TellsZero last) at runs to
      laid_now = runs_keep_within (IsZeroIn (kept world') at) (TellsZero last) at to (zero_of (kept world') refl) at runs to (omega arith) (omega arith) told

      go_listens : (k : ℕ) (asks : Request Reader) → asks.kind ≡ BlockStatus → ((k ≡ cookie) × (one ≡ asks)) ⊎ (request before k ≡ Some asks) → is_some asks.flight.first ≡ true
      go_listens k asks kind (inl this) = subst (λ (r : Request Reader). is_some r.flight.first ≡ true) this.1 refl
      go_listens k asks kind (inr old) = c.listens k asks old kind

      go_unread : (k : ℕ) (asks : Request Reader) → asks.kind ≡ Read → ((k ≡ cookie) × (one ≡ asks)) ⊎ (request before k ≡ Some asks) → asks.offset + asks.length ≤ at
      go_unread k asks read (inl this) = absurd (not_read (ap (λ (r : Request Reader). r.kind) this.1 ∙ read))
      go_unread k asks read (inr old) = c.unread k asks old read

      go_status : (k : ℕ) (asks : Request Reader) → is_some asks.flight.first ≡ true → ((k ≡ cookie) × (one ≡ asks)) ⊎ (request before k ≡ Some asks) → IsStatus last to k asks
      go_status k asks some (inl this) =
          subst (λ (n : ℕ). IsStatus last to n asks) (sym this.0) (subst (λ (r : Request Reader). IsStatus last to cookie r) this.1 (record { kind = refl; before = below; bytes = bytes; done = done_last }))
      go_status k asks some (inr old) =
          let s = c.statuses k asks old some in
          record { kind = s.kind; before = (let b = s.before in omega (arith, b, same_place, below)); bytes = s.bytes; done = later.grown.done k asks s.bytes old s.done }

  pub learns : Course info at to runs world' after
  learns = subst (λ (h : History Reader). Course info at to runs world' h) (sym takes.is) course_more

-- ---- What comes of asking for more.

-- the status was asked, and what came was awaited
abbrev pub IsAwaited : (cookie at size : ℕ) → (world world' : Latest) → Seen Reader → Seen Reader → Type 0
IsAwaited cookie at size world world' s t = (middle : Seen Reader) × AsksStatus cookie at size s.history middle.history × GoesQuietly world world' middle t

pub awaited_well : (cookie at size : ℕ) (world world' : Latest) (s t : Seen Reader) → IsFreshStatus s.history (status_of at size) → IsAwaited cookie at size world world' s t → (info : ExportInfo) → AreWell info s.history → AreWell info t.history
awaited_well cookie at size world world' s t fresh w info well = w.2.quiet.well info (subst (AreWell info) (sym w.1.is) (fresh, well))

pub under_more : (info : ExportInfo) (from : ℕ) (plan plan' : Plan) (runs : List Run) (reel : List Part) (world world' : Latest) (s t u : Seen Reader) (cookie size to : ℕ) (bytes : List ℕ) → plan.at ≡ plan.known → size ≤ max_asked → IsAwaited cookie plan.at size world world' s t → world'.short ≡ false
    → TakesResult cookie bytes t.history u.history → plan' ≡ record plan { known = to } → plan.at < to → to ≤ plan.at + size → AreRuns (IsZeroIn (kept world') plan.at) plan.at runs to
    → IsGoing u.history → AreSpared (IsInWhole plan.block (IsZeroAmong (kept world') plan.at size)) plan.at runs to → ((p : ℕ) → to ≤ p → IsInWhole plan.block (IsZeroAmong (kept world') plan.at size) p → ⊥)
    → IsUnderWay info from plan [] reel world s.history → IsUnderWay info from plan' runs reel world' u.history
under_more info from plan plan' runs reel world world' s t u cookie size to bytes same few w full takes plan_is below above told going spared beyond under =
    subst (λ (q : Plan). IsUnderWay info from q runs reel world' u.history) (sym plan_is) (record {
      fits = record { block = under.fits.block; piece = under.fits.piece; agreed = under.fits.agreed };
      course = course;
      laid = laid_keeps (TellsZero s.history) (TellsZero u.history) (IsRead s.history) (IsRead u.history) (zero_later s.history u.history grown) (read_later s.history u.history grown) from reel plan.at under.laid;
    })
  where
    h1 : History Reader
    h1 = Issue (status_of plan.at size) ∷ s.history

    quiet : Quiet h1 t.history
    quiet = subst (λ (h : History Reader). Quiet h t.history) w.1.is w.2.quiet

    tied : IsTied world h1 → IsTied world' t.history
    tied = subst (λ (h : History Reader). IsTied world h → IsTied world' t.history) w.1.is w.2.tied

    course : Course info plan.at to runs world' u.history
    course = learns info plan.at plan.known world world' s.history t.history u.history cookie size to bytes runs under.course same few quiet w.1.number tied full takes below above told going.0
        (subst (λ (n : ℕ). AreSpared (IsInWhole n (IsZeroAmong (kept world') plan.at size)) plan.at runs to) under.fits.block spared)
        (subst (λ (n : ℕ). (p : ℕ) → to ≤ p → IsInWhole n (IsZeroAmong (kept world') plan.at size) p → ⊥) under.fits.block beyond)

    grown : Grown s.history u.history
    grown = grown_on s.history t.history u.history (grown_on s.history h1 t.history (grown_event (Issue (status_of plan.at size)) s.history refl) quiet.later.grown)
        (subst (λ (h : History Reader). Grown t.history h) (sym takes.is) (grown_event (Retire cookie) t.history refl))

-- a result that was taken asks nothing
pub taken_well : (cookie : ℕ) (bytes : List ℕ) (t u : History Reader) → TakesResult cookie bytes t u → (info : ExportInfo) → AreWell info t → AreWell info u
taken_well cookie bytes t u takes info well = subst (AreWell info) (sym takes.is) well

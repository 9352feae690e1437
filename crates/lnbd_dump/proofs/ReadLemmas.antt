-- What comes of a conversation, step by step.
use Rattle.std.proofs.Common.{◌≡◌, inl, inr, ℕ, ◌+◌, ◌<◌, ◌≤◌, Bool, true, false, not, List, [], ◌++◌, Option, Some, Result, Ok, Err, refl, sym, ◌∙◌, ap, subst, arith}
use Rattle.std.specs.Prelude.{IfOk, OnErr, if◌then◌else◌}
use Rattle.std.proofs.lemmas.Bool.{false≢true}
use Rattle.lnbd_hexdump.specs.Dump.{dump}
use Rattle.lnbd_model.specs.declared.export.ExportInfo.{ExportInfo}
use Rattle.lnbd_model.specs.declared.state.State.TheVariants as state
use Rattle.lnbd_history.specs.Answers.{direction_after, info_after, state_after}
use Rattle.lnbd_history.specs.Events.{History}
use Rattle.lnbd_link.specs.Call as wire
use Rattle.lnbd_link.proofs.Parts.{grows_none, grows_on, takes_none}
use Rattle.lnbd_poll.specs.Held.{Held}
use Rattle.lnbd_poll.specs.Seen.{Seen}
use Rattle.lnbd_poll.proofs.TurnLemmas.{blames_on}
use Rattle.lnbd_waits.specs.Waits.{Holds}
use Rattle.lnbd_dump.specs.declared.asking.Plan.{Plan}
use Rattle.lnbd_dump.specs.declared.reader.Latest.{Latest}
use Rattle.lnbd_dump.specs.declared.reader.Reader.{Reader}
use Rattle.lnbd_dump.specs.declared.stop.Stop.{Stop}
use Rattle.lnbd_dump.specs.declared.stop.Stop.TheVariants as stop
use Rattle.lnbd_dump.specs.declared.terms.Terms.{Terms}
use Rattle.lnbd_reel.specs.declared.ranges.Span.{Span}
use Rattle.lnbd_reel.specs.declared.reel.Run.{Run}
use Rattle.lnbd_reel.specs.Ranges.{IsUneven, length_given, length_shown}
use Rattle.lnbd_reel.specs.Said.{Shown, ShownPart}
use Rattle.lnbd_dump.specs.Conduct.{Asked, IsWhole, Unasked, WasKnown}
use Rattle.lnbd_dump.specs.Filling.{AreInOrder}
use Rattle.lnbd_dump.specs.Leads.{Comes, GoesQuietly, GoesTo, Grown, Tells}
use Rattle.lnbd_dump.specs.Showing.{Shows}
use Rattle.lnbd_dump.specs.Stops.{HasStop, IsEnd, IsStop, is_failed}
use Rattle.lnbd_dump.specs.Talks.{IsShown, Reads, ShowsSpan, is_parting}
use Rattle.lnbd_dump.specs.Terms.{AreTerms, BeginsWith, FitsIn, IsKnown, IsSpan}
use Rattle.lnbd_dump.proofs.CourseLemmas.{known_later}
use Rattle.lnbd_dump.proofs.LaterLemmas.{quiet_on}
use Rattle.lnbd_dump.proofs.LeadLemmas.{goes_on, leads_less, leads_none, leads_on}
use Rattle.lnbd_dump.proofs.TalkLemmas.{begun_under, stop_end, unasked_well}

-- ---- Ways from one place to another.

pub comes_none : (short : Bool) (a : Option (List wire.Call)) (f : ℕ) (all : List (Held Reader)) (Is : Seen Reader → Seen Reader → Seen Reader → Type 0) → ((seen : Seen Reader) → Holds all seen → Is seen seen seen) → Comes short a a f f all all Is
comes_none short a f all Is is seen at = record { calls = []; after = seen; grown = grows_none a; leads = (seen, leads_none short seen, (λ never. absurd (false≢true never)), is seen at); at = at }

pub comes_map : (Is Less : Seen Reader → Seen Reader → Seen Reader → Type 0) → ((s t e : Seen Reader) → Is s t e → Less s t e) → (short : Bool) (a b : Option (List wire.Call)) (f g : ℕ) (old new : List (Held Reader)) → Comes short a b f g old new Is → Comes short a b f g old new Less
comes_map Is Less less short a b f g old new comes seen at =
    let went = comes seen at in
    record { calls = went.calls; after = went.after; grown = went.grown; leads = (went.leads.0, went.leads.1, went.leads.2, less seen went.after went.leads.0 went.leads.3); at = went.at }

-- first quietly, and then so
pub comes_on : (One : Seen Reader → Seen Reader → Type 0) (Is Both : Seen Reader → Seen Reader → Seen Reader → Type 0) → ((x y z e : Seen Reader) → One x y → Grown y.history z.history → Grown y.history e.history → Is y z e → Both x z e)
    → (short : Bool) (a b c : Option (List wire.Call)) (f g h : ℕ) (old mid new : List (Held Reader)) → f ≤ g → g ≤ h → GoesTo false a b f g old mid One → Comes short b c g h mid new Is → Comes short a c f h old new Both
comes_on One Is Both both short a b c f g h old mid new up up2 one two seen at =
    let went = one seen at in
    let more = two went.after went.at in
    record {
      calls = went.calls ++ more.calls;
      after = more.after;
      grown = grows_on a b c went.calls more.calls went.grown more.grown;
      leads = (
        more.leads.0,
        leads_on short seen went.after went.leads.0 more.after more.leads.0 went.calls more.calls went.leads.1 more.leads.1,
        blames_on went.calls more.calls f g h went.leads.2 more.leads.2 up up2,
        both seen went.after more.after more.leads.0 went.leads.3 more.leads.1.later.grown more.leads.1.grown more.leads.3,
      );
      at = more.at;
    }

-- Where it is stopped on the way, no more is asked only if the range is none.
pub parting_comes : (r : Result ℕ Stop) (P : Seen Reader → Seen Reader → Seen Reader → Type 0) (a b : Option (List wire.Call)) (f g : ℕ) (old new : List (Held Reader)) → Comes (is_failed r) a b f g old new (λ s t e. HasStop r t.history × P s t e) → Comes (not (is_parting r)) a b f g old new P
parting_comes (Ok n) P a b f g old new comes = comes_map (λ s t e. Unit {0} × P s t e) P (λ s t e is. is.1) false a b f g old new comes
parting_comes (Err (stop.Halted why)) P a b f g old new comes = comes_map (λ s t e. Unit {0} × P s t e) P (λ s t e is. is.1) true a b f g old new comes
parting_comes (Err (stop.Died cause)) P a b f g old new comes = comes_map (λ s t e. IsStop t.history (stop.Died cause) × P s t e) P (λ s t e is. is.1) true a b f g old new comes
parting_comes (Err (stop.Broke broke)) P a b f g old new comes = comes_map (λ s t e. IsStop t.history (stop.Broke broke) × P s t e) P (λ s t e is. is.1) true a b f g old new comes
parting_comes (Err (stop.Failed error)) P a b f g old new comes = comes_map (λ s t e. IsStop t.history (stop.Failed error) × P s t e) P (λ s t e is. is.1) true a b f g old new comes
parting_comes (Err stop.Output) P a b f g old new comes = comes_map (λ s t e. Unit {0} × P s t e) P (λ s t e is. is.1) true a b f g old new comes
parting_comes (Err (stop.Range size)) P a b f g old new comes = λ seen at. absurd (comes seen at).leads.3.0
parting_comes (Err (stop.Uneven size block)) P a b f g old new comes = λ seen at. absurd (comes seen at).leads.3.0

-- ---- Before anything is asked.

pub quietly_on : (u v w : Latest) (a b c : Seen Reader) → GoesQuietly u v a b → GoesQuietly v w b c → GoesQuietly u w a c
quietly_on u v w a b c one two = record { quiet = quiet_on a.history b.history c.history one.quiet two.quiet; tied = λ t. two.tied (one.tied t) }

-- two waits, one after the other
pub waits_on : (result : Result (Unit {0}) Stop) (a b c : Option (List wire.Call)) (f g h : ℕ) (old mid new : List (Held Reader)) (u v w : Latest) → f ≤ g → g ≤ h → GoesTo false a b f g old mid (λ s t. Unit {0} × GoesQuietly u v s t)
    → GoesTo (is_failed result) b c g h mid new (λ s t. HasStop result t.history × GoesQuietly v w s t) → GoesTo (is_failed result) a c f h old new (λ s t. HasStop result t.history × GoesQuietly u w s t)
waits_on result a b c f g h old mid new u v w up up2 one two =
    goes_on (λ s t. Unit {0} × GoesQuietly u v s t) (λ s t. HasStop result t.history × GoesQuietly v w s t) (λ s t. HasStop result t.history × GoesQuietly u w s t) (λ x y z is next. (next.0, quietly_on u v w x y z is.1 next.1)) (is_failed result) a b c f g h old mid new up up2 one two

module _ (offset : ℕ) (given : Option ℕ) (world world' : Latest) (taken : Option (List ℕ)) where
  abbrev pub Read : Result ℕ Stop → Option (List ℕ) → Seen Reader → Seen Reader → Seen Reader → Type 0
  Read result taken' s t e = Reads result offset given world taken taken' s.history t.history e.history

  -- it is stopped before
  pub read_waits : (why : Stop) (a b : Option (List wire.Call)) (f g : ℕ) (old new : List (Held Reader)) → GoesTo true a b f g old new (λ s t. IsStop t.history why × GoesQuietly world world' s t) → Comes (not (is_parting (Err why))) a b f g old new (Read (Err why) taken)
  read_waits why a b f g old new goes =
      parting_comes (Err why) (Read (Err why) taken) a b f g old new
      (comes_map (λ s t e. IsStop t.history why × GoesQuietly world world' s t) (λ s t e. IsStop t.history why × Read (Err why) taken s t e) (λ s t e is. (is.0, λ none keeps tied. (Unasked (is.1.quiet.unasked none), (stop_end offset given t.history why is.0, inl refl)))) true a b f g old new goes)

  -- what is known there
  known_at : (history : History Reader) (info : ExportInfo) → state_after history ≡ state.Ready → direction_after history ≡ 1 → info_after history ≡ Some info → WasKnown history info
  known_at history info ready quiet told = record { earlier = history; since = []; is = refl; ready = ready; quiet = quiet; told = told }

  known_stop : (why : Stop) (history : History Reader) → IsKnown (Err why) history → IsStop history why
  known_stop (stop.Died cause) history k = k
  known_stop (stop.Broke broke) history (inl k) = inl (k.1, k.0, k.2)
  known_stop (stop.Broke broke) history (inr k) = inr (k.2, known_at history k.2 k.0 k.1 k.3, k.4, k.5)
  known_stop (stop.Halted why) history k = tt
  known_stop (stop.Failed error) history k = absurd k
  known_stop stop.Output history k = absurd k
  known_stop (stop.Range size) history k = absurd k
  known_stop (stop.Uneven size block) history k = absurd k

  module _ (a b : Option (List wire.Call)) (f g : ℕ) (old new : List (Held Reader)) (goes : GoesTo false a b f g old new (λ s t. Unit {0} × GoesQuietly world world' s t)) where
    -- no export is known
    pub read_unknown : (why : Stop) → ((seen : Seen Reader) → Holds new seen → IsKnown (Err why) seen.history) → Comes (not (is_parting (Err why))) a b f g old new (Read (Err why) taken)
    read_unknown why known = read_waits why a b f g old new stopped
      where
        stopped : GoesTo true a b f g old new (λ s t. IsStop t.history why × GoesQuietly world world' s t)
        stopped seen at =
            let went = goes seen at in
            record {
              calls = went.calls;
              after = went.after;
              grown = went.grown;
              leads = (went.leads.0, leads_less true seen went.after went.leads.0 went.calls went.leads.1, went.leads.2, (known_stop why went.after.history (known went.after went.at), went.leads.3.1));
              at = went.at;
            }

    module _ (terms : Terms) (known : (seen : Seen Reader) → Holds new seen → IsKnown (Ok terms) seen.history) where
      abbrev Ready : Seen Reader → Seen Reader → Type 0
      Ready s t = GoesQuietly world world' s t × IsKnown (Ok terms) t.history

      ready : GoesTo false a b f g old new Ready
      ready seen at =
          let went = goes seen at in
          record { calls = went.calls; after = went.after; grown = went.grown; leads = (went.leads.0, went.leads.1, went.leads.2, (went.leads.3.1, known went.after went.at)); at = went.at }

      -- the export has no such range
      misfits : (why : Stop) (info : ExportInfo) (history : History Reader) → WasKnown history info → AreTerms info terms → IsSpan terms offset given (Err why) → IsEnd offset given history why
      misfits (stop.Range size) info history known_is are s = record { info = info; known = known_is; is = s.0 ∙ are.size; outside = subst (λ (n : ℕ). n < offset + length_given given) are.size s.1 }
      misfits (stop.Uneven size block) info history known_is are s = record {
        info = info;
        known = known_is;
        size_is = s.0 ∙ are.size;
        block_is = s.1 ∙ are.block;
        fits = subst (λ (n : ℕ). offset + length_given given ≤ n) are.size s.2;
        ragged = subst (λ (n : ℕ). IsUneven offset (length_shown offset given n) n block) are.size (subst (λ (n : ℕ). IsUneven offset (length_shown offset given terms.size) terms.size n) (sym s.1) s.3);
      }
      misfits (stop.Died cause) info history known_is are s = absurd s
      misfits (stop.Broke broke) info history known_is are s = absurd s
      misfits (stop.Halted why) info history known_is are s = absurd s
      misfits (stop.Failed error) info history known_is are s = absurd s
      misfits stop.Output info history known_is are s = absurd s

      misfit : (why : Stop) → IsSpan terms offset given (Err why) → GoesTo false a b f g old new (λ s t. (e : Seen Reader) → Read (Err why) taken s t e)
      misfit why span seen at =
          let went = ready seen at in
          let k = went.leads.3.1 in
          record {
            calls = went.calls;
            after = went.after;
            grown = went.grown;
            leads = (
              went.leads.0,
              went.leads.1,
              went.leads.2,
              λ e none keeps tied. (Unasked (went.leads.3.0.quiet.unasked none), (misfits why k.2 went.after.history (known_at went.after.history k.2 k.0 k.1 k.3) k.5 span, inl refl)),
            );
            at = went.at;
          }

      pub read_misfit : (why : Stop) → IsSpan terms offset given (Err why) → Comes (not (is_parting (Err why))) a b f g old new (Read (Err why) taken)
      read_misfit (stop.Range size) span = comes_map (λ s t e. (d : Seen Reader) → Read (Err (stop.Range size)) taken s t d) (Read (Err (stop.Range size)) taken) (λ s t e is. is e) false a b f g old new (misfit (stop.Range size) span)
      read_misfit (stop.Uneven size block) span = comes_map (λ s t e. (d : Seen Reader) → Read (Err (stop.Uneven size block)) taken s t d) (Read (Err (stop.Uneven size block)) taken) (λ s t e is. is e) false a b f g old new (misfit (stop.Uneven size block) span)
      read_misfit (stop.Died cause) span = absurd span
      read_misfit (stop.Broke broke) span = absurd span
      read_misfit (stop.Halted why) span = absurd span
      read_misfit (stop.Failed error) span = absurd span
      read_misfit stop.Output span = absurd span

      -- and it is shown
      module _ (span : Span) (fits : FitsIn terms offset given span) where
        whole_of : (info : ExportInfo) (history : History Reader) → WasKnown history info → AreTerms info terms → IsWhole offset given history span.count
        whole_of info history known_is are = record {
          info = info;
          known = known_is;
          fits = subst (λ (n : ℕ). offset + length_given given ≤ n) are.size fits.fits;
          even = λ u. fits.even (subst (λ (n : ℕ). IsUneven offset span.count n terms.block) (sym are.size) (subst (λ (n : ℕ). IsUneven offset span.count info.size n) (sym are.block) u));
          is = fits.count ∙ ap (λ (n : ℕ). length_shown offset given n) are.size;
        }

        shown_of : (result : Result ℕ Stop) (taken' : Option (List ℕ)) (info : ExportInfo) (y z e : History Reader) → IfOk result (λ n. n ≡ span.count) → HasStop result z → WasKnown y info → AreTerms info terms → Grown y z → Grown y e → IfOk result (λ n. Shown (Tells e) offset span.count taken taken')
            → OnErr result (ShownPart (Tells e) offset span.count taken taken') → IsShown result offset given taken taken' z e
        shown_of (Ok n) taken' info y z e same stop known_is are zg eg shown part =
            subst (λ (k : ℕ). IsShown (Ok k) offset given taken taken' z e) (sym same) (whole_of info z (known_later y z zg info known_is) are, whole_of info e (known_later y e eg info known_is) are, shown)
        shown_of (Err why) taken' info y z e same stop known_is are zg eg shown part = (stop_end offset given z why stop, inr (span.count, whole_of info e (known_later y e eg info known_is) are, part))

        pub read_span : (result : Result ℕ Stop) (taken' : Option (List ℕ)) (c : Option (List wire.Call)) (h : ℕ) (last : List (Held Reader)) → f ≤ g → g ≤ h → IfOk result (λ n. n ≡ span.count)
            → Comes (is_failed result) b c g h new last (λ s t e. HasStop result t.history × ShowsSpan result terms world' offset span.count taken taken' s.history t.history e.history) → Comes (not (is_parting result)) a c f h old last (Read result taken')
        read_span result taken' c h last up up2 same comes =
            parting_comes result (Read result taken') a c f h old last
            (comes_on Ready (λ s t e. HasStop result t.history × ShowsSpan result terms world' offset span.count taken taken' s.history t.history e.history) (λ s t e. HasStop result t.history × Read result taken' s t e)
            (λ x y z e is zg eg next. (
              next.0,
              λ none keeps tied. (
                  let k = is.1 in
                  let known_is = known_at y.history k.2 k.0 k.1 k.3 in
                  let s = next.1 k.2 k.5 (record { knows = known_is; none = is.0.quiet.unasked none; keeps = is.0.quiet.later.keeps keeps; tied = is.0.tied tied }) in
                  (Asked k.2 (known_later y.history z.history zg k.2 known_is) s.0, shown_of result taken' k.2 y.history z.history e.history same next.0 known_is k.5 zg eg s.1 s.2)),
            ))
            (is_failed result) a b c f g h old new last up up2 ready comes)

-- ---- The blocks are shown.

-- nothing is to be shown
pub span_none : (terms : Terms) (world : Latest) (offset count : ℕ) (taken : Option (List ℕ)) (history : History Reader) → count ≡ 0 → ShowsSpan (Ok 0) terms world offset count taken taken history history history
unfolding dump
span_none terms world offset count taken history none info are fresh = (
  unasked_well info history fresh.none,
  record { bytes = []; told_are = λ i lt. absurd (omega (arith, lt)); count_is = sym none; takes = takes_none taken },
  tt,
)

-- nothing is shown yet
pub span_stops : (why : Stop) (terms : Terms) (world : Latest) (offset count : ℕ) (taken : Option (List ℕ)) (history : History Reader) → ShowsSpan (Err why) terms world offset count taken taken history history history
span_stops why terms world offset count taken history info are fresh = (
  unasked_well info history fresh.none,
  tt,
  record {
    bytes = [];
    told_are = λ i lt. absurd (omega (arith, lt));
    few = omega arith;
    text = [];
    takes = takes_none taken;
    front = λ more fits. record { rest = dump offset more; is = refl };
  },
)

module _ (terms : Terms) (span : Span) (plan : Plan) (runs : List Run) (world : Latest) (offset : ℕ) (taken taken' : Option (List ℕ)) where
  pub span_shown : (done : Unit {0}) → plan ≡ record { at = span.first; known = (if terms.agreed then span.first else span.last); end = span.last; block = terms.block; piece = terms.piece; agreed = terms.agreed } → BeginsWith plan runs
      → (short : Bool) (a b : Option (List wire.Call)) (f g : ℕ) (old new : List (Held Reader)) → Comes short a b f g old new (λ s t e. Unit {0} × Shows (Ok done) plan runs world offset span.count taken taken' s.history t.history e.history)
      → Comes short a b f g old new (λ s t e. Unit {0} × ShowsSpan (Ok span.count) terms world offset span.count taken taken' s.history t.history e.history)
  span_shown done plan_is begins short a b f g old new comes =
      comes_map (λ s t e. Unit {0} × Shows (Ok done) plan runs world offset span.count taken taken' s.history t.history e.history) (λ s t e. Unit {0} × ShowsSpan (Ok span.count) terms world offset span.count taken taken' s.history t.history e.history)
      (λ s t e is. (tt, λ info are fresh. is.1 info (begun_under info plan runs world s.history terms span are fresh plan_is begins))) short a b f g old new comes

  pub span_broken : (why : Stop) → plan ≡ record { at = span.first; known = (if terms.agreed then span.first else span.last); end = span.last; block = terms.block; piece = terms.piece; agreed = terms.agreed } → BeginsWith plan runs
      → (short : Bool) (a b : Option (List wire.Call)) (f g : ℕ) (old new : List (Held Reader)) → Comes short a b f g old new (λ s t e. IsStop t.history why × Shows {A = Unit {0}} (Err why) plan runs world offset span.count taken taken' s.history t.history e.history)
      → Comes short a b f g old new (λ s t e. IsStop t.history why × ShowsSpan (Err why) terms world offset span.count taken taken' s.history t.history e.history)
  span_broken why plan_is begins short a b f g old new comes =
      comes_map (λ s t e. IsStop t.history why × Shows {A = Unit {0}} (Err why) plan runs world offset span.count taken taken' s.history t.history e.history) (λ s t e. IsStop t.history why × ShowsSpan (Err why) terms world offset span.count taken taken' s.history t.history e.history)
      (λ s t e is. (is.0, λ info are fresh. is.1 info (begun_under info plan runs world s.history terms span are fresh plan_is begins))) short a b f g old new comes

-- ---- What is asked of the blocks.

-- what a plan has of them
pub record IsPlanOf (terms : Terms) (span : Span) (plan : Plan) : Type 0 where
  pub at : plan.at ≡ span.first
  pub end : plan.end ≡ span.last
  pub block : plan.block ≡ terms.block
  pub piece : plan.piece ≡ terms.piece
  pub low : plan.at ≤ plan.known
  pub high : plan.known ≤ plan.end

pub is_plan_of : (terms : Terms) (span : Span) (plan : Plan) → plan ≡ record { at = span.first; known = (if terms.agreed then span.first else span.last); end = span.last; block = terms.block; piece = terms.piece; agreed = terms.agreed } → span.first ≤ span.last → IsPlanOf terms span plan
is_plan_of terms span plan is order = record {
  at = at;
  end = end;
  block = ap (λ (p : Plan). p.block) is;
  piece = ap (λ (p : Plan). p.piece) is;
  low = (let b = bounds terms.agreed in omega (arith, at, known, b.0));
  high = (let b = bounds terms.agreed in omega (arith, end, known, b.1));
}
  where
    at : plan.at ≡ span.first
    at = ap (λ (p : Plan). p.at) is

    end : plan.end ≡ span.last
    end = ap (λ (p : Plan). p.end) is

    known : plan.known ≡ (if terms.agreed then span.first else span.last)
    known = ap (λ (p : Plan). p.known) is

    bounds : (b : Bool) → (span.first ≤ (if b then span.first else span.last)) × ((if b then span.first else span.last) ≤ span.last)
    bounds true = (omega arith, order)
    bounds false = (order, omega arith)

pub begins_order : (plan : Plan) (runs : List Run) → BeginsWith plan runs → AreInOrder plan.at runs plan.known
begins_order plan runs (inl none) = subst (λ (l : List Run). AreInOrder plan.at l plan.known) (sym none.1) none.0
begins_order plan runs (inr one) = subst (λ (l : List Run). AreInOrder plan.at l plan.known) (sym one.1) (one.0, (λ z p low high. tt), refl)

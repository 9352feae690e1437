-- No READ covers a block that was told as zero whole.
use Rattle.std.proofs.Common.{◌≡◌, ◌⊎◌, inl, inr, ℕ, ◌<◌, ◌≤◌, Bool, true, false, not, ◌&&◌, ◌||◌, List, [], ◌∷◌, ◌++◌, length, Option, Some, None, refl, ap, sym, subst, ◌∙◌, arith, if◌then◌else◌}
use Rattle.std.proofs.lemmas.Bool.{cases_lt, false≢true}
use Rattle.lnbd_model.specs.declared.kind.Kind.TheVariants.{BlockStatus, Read}
use Rattle.lnbd_model.specs.declared.target.Place.{Place}
use Rattle.lnbd_keyed.specs.Keyed.{value_at}
use Rattle.lnbd_outcome.specs.Outcome.{Done, Unfinished}
use Rattle.lnbd_link.specs.Call as wire
use Rattle.lnbd_history.specs.Commands as commands
use Rattle.lnbd_history.specs.Commands.{Command}
use Rattle.lnbd_history.specs.History.{request}
use Rattle.lnbd_asked.specs.Driven.{DrivenSays, outcome_after, zero_after}
use Rattle.lnbd_asked.specs.Honest.{has}
use Rattle.lnbd_asked.specs.Link.{Nobody}
use Rattle.lnbd_asked.specs.Transcript.{answered, bare, dealt_with, is_of, on_link, told_zero}
use Rattle.lnbd_plan.specs.declared.cells.Cells.{Cells}
use Rattle.lnbd_plan.specs.declared.grid.Slice.{Slice}
use Rattle.lnbd_plan.specs.Laws.{IsPlannedOnce, slices_at}
use Rattle.lnbd_plan.proofs.OnceLaws.{at_both}
use Rattle.lnbd_board.specs.declared.how.How.{How}
use Rattle.lnbd_board.specs.declared.row.Row.{Row}
use Rattle.lnbd_board.specs.declared.row.Stage.{Stage}
use Rattle.lnbd_board.specs.declared.row.Stage.TheVariants.{Reading, Last, Came, Writing, Holding, Finished}
use Rattle.lnbd_board.specs.declared.ticket.Ticket.{Ticket}
use Rattle.lnbd_board.specs.declared.ticket.Ticket.TheVariants as ticket
use Rattle.lnbd_board.specs.Files as board
use Rattle.lnbd_board.specs.Requests.{Each, Request, Said, own, reads_over, reads_over_said}
use Rattle.lnbd_board.specs.Rows.{AsksOfSource, KnownBy, Stands, StandsAs, StandsAt, slice_at}
use Rattle.lnbd_board.proofs.Inside.{reads_nowhere, reads_slice}
use Rattle.lnbd_board.proofs.Lists.{Each-back}
use Rattle.lnbd_board.proofs.Spelling.{found}
use Rattle.lnbd_tracks.specs.Heeding.{AllHeard, is_whole}
use Rattle.lnbd_tracks.specs.Mapping.{first_tells, is_extents}
use Rattle.lnbd_tracks.specs.Tracks.{Histories}
use Rattle.lnbd_course.specs.Course.{Course}
use Rattle.lnbd_course.specs.Spares.{EndedSpares, WasToldWhole}
use Rattle.lnbd_course.specs.Told.{Known}
use Rattle.lnbd_course.proofs.Listing.{asked_on_it, listed, none_end, none_read, one_of}

-- For a slice that is zero nothing is read.

known_none : (z : Bool) (s : Slice) (bytes : List ℕ) (read : List Said) → z ≡ true → KnownBy z s bytes read → read ≡ []
known_none true s bytes read e k = k.1
known_none false s bytes read e k = absurd (false≢true e)

at_none : (how : How) (s : Slice) (stage : Stage) (read changed : List Said) → s.zero ≡ true → StandsAt how s stage read changed → read ≡ []
at_none how s Reading read changed e h = absurd (false≢true (sym h.data_ ∙ e))
at_none how s Last read changed e h = known_none s.zero s h.bytes read e h.known.by
at_none how s (Came bytes) read changed e h = known_none s.zero s bytes read e h.known.by
at_none how s (Writing bytes left) read changed e h = known_none s.zero s bytes read e h.known.by
at_none how s (Holding bytes left) read changed e h = known_none s.zero s bytes read e h.known.by
at_none how s (Finished bytes) read changed e h = known_none s.zero s h.bytes read e h.known.by

as_none : (how : How) (s : Slice) (row : Option Row) (read changed : List Said) → s.zero ≡ true → StandsAs how s row read changed → read ≡ []
as_none how s None read changed e h = known_none s.zero s h.bytes read e h.known.by
as_none how s (Some row) read changed e h = at_none how s row.stage read changed e h.1

first_same : (s slice : Slice) (more rest : List Slice) → (s ∷ more) ++ rest ≡ slice ∷ [] → (s ≡ slice) × (more ≡ [])
first_same s slice [] rest e = (cc, refl)
first_same s slice (t ∷ more) rest e = absurd (cc)

-- Nothing is read at a position that was planned as zero.
module _ (how : How) (cells : Cells) (told : ℕ → Bool) (end p : ℕ) (slices rest : List Slice) (rows : List (ℕ × Row)) (source destination : List Request) (stands : Stands how slices rows source destination)
    (planned : IsPlannedOnce cells told 0 end p (slices ++ rest)) (zeroed : told p ≡ true) where
  here : (s : Slice) (more : List Slice) → slices_at p slices ≡ s ∷ more → reads_over p source ≡ []
  here s more e = go (cases_lt p end)
    where
      all : slices_at p (slices ++ rest) ≡ (s ∷ more) ++ slices_at p rest
      all = at_both p slices rest ∙ ap (λ (l : List Slice). l ++ slices_at p rest) e

      one : (slice : Slice) → slices_at p (slices ++ rest) ≡ slice ∷ [] → slice.zero ≡ told p → reads_over p source ≡ []
      one slice is alike =
          let f = found p s slices more e in
          let same = first_same s slice more (slices_at p rest) (sym all ∙ is) in
          let zero_here : (slice_at slices f.number).zero ≡ true = ap (λ (x : Slice). x.zero) (f.is ∙ same.0) ∙ alike ∙ zeroed in
          let few : length (slices_at p slices) ≤ 1 = subst (λ (l : List Slice). length l ≤ 1) (sym (e ∙ ap (λ (l : List Slice). s ∷ l) same.1)) (omega arith) in
          reads_slice p f.number slices source few f.held f.has stands.reads
          ∙ ap (reads_over_said p) (as_none how (slice_at slices f.number) (value_at f.number rows) (own f.number source) (own f.number destination) zero_here (stands.each f.number f.held))

      go : (p < end) ⊎ (end ≤ p) → reads_over p source ≡ []
      go (inl low) = elim (cells.zeros || not (told p)) as (λ b. (cells.zeros || not (told p)) ≡ b → reads_over p source ≡ []) [
        | true ↦ λ is. (let o = planned.one (omega arith) low is in one o.slice o.one o.alike)
        | false ↦ λ is. absurd (none_end s (more ++ slices_at p rest) (sym all ∙ planned.none (omega arith) low is))
      ] refl
      go (inr high) = absurd (none_end s (more ++ slices_at p rest) (sym all ∙ planned.outside (inr high)))

  pub unread : reads_over p source ≡ []
  unread = elim (slices_at p slices) as (λ l. slices_at p slices ≡ l → reads_over p source ≡ []) [
    | [] ↦ λ e. reads_nowhere p slices source e stands.reads
    | s ∷ more ↦ λ e. here s more e
  ] refl

pub extents_by : (slices : List Slice) (by : Ticket) (command : Command Nobody) → AsksOfSource slices by command → command.kind ≡ BlockStatus → is_extents by ≡ true
extents_by slices (ticket.Slice n) command h is = absurd (differ (sym h.0 ∙ is))
  where
    differ : Read ≡ BlockStatus → ⊥
    differ e = cc
extents_by slices ticket.Extents command h is = refl
extents_by slices ticket.Flush command h is = absurd h

pub either_true : (a b : Bool) → b ≡ true → (a || b) ≡ true
either_true true b e = refl
either_true false b e = e

-- A block that was told as zero whole is known, where each command is one that a copy asks of its source.
pub told_known : (from : Place) (calls : List wire.Call) (histories : Histories) (slices : List Slice) (known : Known) → AllHeard histories known.whole known.reach →
    ((link : ℕ) → DrivenSays (histories link) (on_link link calls)) →
    ((link cookie : ℕ) (asks : commands.Request Ticket) → is_of from calls link ≡ true → request (histories link) cookie ≡ Some asks → AsksOfSource slices asks.flight.done.callback (bare asks)) →
    (block p : ℕ) → WasToldWhole block (dealt_with from calls) p → known.whole block p ≡ true
told_known from calls histories slices known heeds says mine block p w =
    let a = asked_on_it from calls histories says w.link w.cookie w.command w.asked in
    let it = says w.link in
    let extents = extents_by slices a.1.asks.flight.done.callback (bare a.1.asks) (mine w.link w.cookie a.1.asks a.0 a.1.is) (ap (λ (c : Command Nobody). c.kind) a.1.same ∙ w.kind) in
    let heard = heeds w.link w.cookie a.1.asks a.1.is (either_true (first_tells a.1.asks.flight.first) (is_extents a.1.asks.flight.done.callback) extents) in
    let done : outcome_after (histories w.link) w.cookie ≡ Done w.bytes =
    sym (it.outcomes w.cookie a.1.out) ∙ sym (ap (λ (b : Bool). if b then answered (on_link w.link calls) w.cookie else Unfinished) a.0) ∙ w.done in
    heard.whole (record { bytes = w.bytes; is = done }) block p
    (ap (λ (f : ℕ → Bool). is_whole block f p) (λ i q. (ap (λ (c : Command Nobody). has c q && zero_after (histories w.link) w.cookie q) a.1.same
    ∙ ap (λ (b : Bool). has w.command q && b) (sym (it.zero w.cookie q a.1.out)) ∙ sym (ap (λ (b : Bool). has w.command q && (b && told_zero (on_link w.link calls) w.cookie q)) a.0)) i) ∙ w.whole)

-- Of two exports each command on a link of the source is.
asks_of_source : (from : Place) (how : How) (sides : ℕ → Bool) (slices : List Slice) (now : board.Seen) (calls : List wire.Call) (course : Course how sides slices now calls []) → now.error ≡ None →
    ((link : ℕ) → is_of from calls link ≡ true → sides link ≡ true) →
    (link cookie : ℕ) (asks : commands.Request Ticket) → is_of from calls link ≡ true → request (course.histories link) cookie ≡ Some asks → AsksOfSource slices asks.flight.done.callback (bare asks)
asks_of_source from how sides slices now calls course well of link cookie asks here is =
    let in_list = listed from how sides slices now calls course of link cookie asks here is in
    (Each-back (λ (r : Request). AsksOfSource slices r.ticket r.said.command) in_list.front (one_of from how sides slices now calls course of link cookie asks ∷ in_list.back)
    (subst (λ (l : List Request). Each (λ r. AsksOfSource slices r.ticket r.said.command) l) in_list.is (course.stood.stands well).reads)).0

pub ended_spares : EndedSpares
ended_spares from how sides slices rest now calls known cells told end block t well of planned zeros p w =
    none_read from how sides slices now calls t.course of p
    (unread how cells told end p slices rest now.rows t.course.stood.source t.course.stood.destination (t.course.stood.stands well) (planned p)
    (zeros p (told_known from calls t.course.histories slices known t.heeds (λ link. t.course.parted link tt) (asks_of_source from how sides slices now calls t.course well of) block p w)))

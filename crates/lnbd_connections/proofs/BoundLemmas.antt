-- Each command of a slice is on the connection that the slice is bound to, where one side of a copy is a file: so it stays as boards go on, handles turn, and commands are asked.
use Rattle.std.proofs.Common.{
  ◌≡◌,
  ◌<◌,
  ◌⊎◌,
  inl,
  inr,
  ℕ,
  zero,
  suc,
  ◌+◌,
  Bool,
  true,
  false,
  ◌==◌,
  List,
  [],
  ◌∷◌,
  length,
  Option,
  Some,
  None,
  slice_get,
  refl,
  ap,
  sym,
  subst,
  ◌∙◌,
  arith,
  if◌then◌else◌,
}
use Rattle.std.proofs.lemmas.Bool.{cases_eq, eq-eqb}
use Rattle.lnbd_keyed.specs.Keyed.{IsBelow, IsRising, value_at, with_value}
use Rattle.lnbd_model.specs.declared.export.Extent.{Extent}
use Rattle.lnbd_model.specs.declared.target.Place.{Place}
use Rattle.lnbd_callbacks.specs.Calls.{Call, Chunk, Extents, Complete, Free}
use Rattle.lnbd_callbacks.specs.Steps.{OneByOne}
use Rattle.lnbd_link.specs.Call as wire
use Rattle.lnbd_history.specs.Commands.{Command, Request, flight_of, request_of}
use Rattle.lnbd_history.specs.Events.{Event, History, Issue}
use Rattle.lnbd_history.specs.History.{asked, request}
use Rattle.lnbd_handle.specs.Histories.{Plays}
use Rattle.lnbd_asked.specs.Driven.{outcome_after}
use Rattle.lnbd_asked.specs.Link.{Nobody}
use Rattle.lnbd_asked.specs.Transcript.{bare}
use Rattle.lnbd_poll.specs.Alone.{HaveOwnLinks}
use Rattle.lnbd_poll.specs.Seen.{Seen}
use Rattle.lnbd_poll.specs.Turns.{Ending, Turns}
use Rattle.lnbd_drives.specs.Driving.{happened, with_event}
use Rattle.lnbd_plan.specs.declared.grid.Slice.{Slice}
use Rattle.lnbd_board.specs.declared.how.How.{How}
use Rattle.lnbd_board.specs.declared.row.Row.{Row}
use Rattle.lnbd_board.specs.declared.ticket.Ticket.{Ticket}
use Rattle.lnbd_board.specs.declared.ticket.Ticket.TheVariants as ticket
use Rattle.lnbd_board.specs.Files.{Files, Hears, came_with, filed_done, is_map, is_unfit, or_error, content_first, received, rows_with}
use Rattle.lnbd_board.specs.Files as board
use Rattle.lnbd_board.specs.Requests as sides_of
use Rattle.lnbd_board.specs.Rows.{AsksOfDestination, AsksOfSource, is_busy}
use Rattle.lnbd_board.proofs.Lists.{in_each}
use Rattle.lnbd_tracks.specs.Laws.{is_coming}
use Rattle.lnbd_tracks.specs.Tracks.{AllTrack, Happens, Histories, is_issue, request_of as requests_of, told_by}
use Rattle.lnbd_tracks.proofs.Dealt.{in_middle}
use Rattle.lnbd_tracks.proofs.Under.{found}
use Rattle.lnbd_tracks.proofs.Unfiled.{request_stays}
use Rattle.lnbd_course.specs.Course.{AllHave}
use Rattle.lnbd_course.specs.Far.{Far, FarStood, FromFile, ToFile}
use Rattle.lnbd_course.specs.FarCourse.{FarCourse}
use Rattle.lnbd_course.specs.Told.{Known}
use Rattle.lnbd_course.proofs.Holding.{one_has}
use Rattle.lnbd_course.proofs.Turning.{steps, turns_all}
use Rattle.lnbd_copy.specs.Way.{connection_on}
use Rattle.lnbd_copy.proofs.BindingLemmas.{Before, Binds, SameBindings, Was, WasSame, same_none, same_with}
use Rattle.lnbd_connections.specs.Bound.{AreOn}

none_some : {A : Type 0} (one : A) → None ≡ Some one → ⊥
none_some one e = cc

some_same : {A : Type 0} (one other : A) → Some one ≡ Some other → one ≡ other
some_same one other e = cc

-- What callbacks do.

same_then : (a b c : List (ℕ × Row)) → SameBindings a b → SameBindings b c → SameBindings a c
same_then a b c one two = record {
  each = λ n row is.
      let m = two.each n row is in
      let k = one.each n m.was m.held in
      record { was = k.was; held = k.held; source = m.source ∙ k.source; destination = m.destination ∙ k.destination };
}

received_same : (o : Option Row) (n : ℕ) (buf : List ℕ) (rows : List (ℕ × Row)) → value_at n rows ≡ o → SameBindings rows (rows_with o n buf rows)
received_same None n buf rows is = same_none rows
received_same (Some row) n buf rows is = go (is_busy row.stage)
  where
    go : (b : Bool) → SameBindings rows (if b then with_value n (record row { stage = received row.stage buf }) rows else rows)
    go true = same_with n row (received row.stage buf) rows is
    go false = same_none rows

slice_same : (unfit : Bool) (n : ℕ) (buf : List ℕ) (old : board.Seen)
    → SameBindings old.rows (if unfit then record old { error = or_error old.error 71 } else record old {
      rows = rows_with (value_at n old.rows) n buf old.rows;
      came = came_with (value_at n
          old.rows) n old.came;
    }).rows
slice_same true n buf old = same_none old.rows
slice_same false n buf old = received_same (value_at n old.rows) n buf old.rows refl

done_same : (by : Ticket) (buf : List ℕ) (old : board.Seen) → SameBindings old.rows (filed_done by buf old).rows
done_same (ticket.Slice n) buf old = slice_same (is_unfit (value_at n old.rows) buf) n buf old
done_same ticket.Extents buf old = same_none old.rows
done_same ticket.Flush buf old = same_none old.rows

completed_same : (well : Bool) (by : Ticket) (error : ℕ) (buf : List ℕ) (old : board.Seen) → SameBindings old.rows (if well then filed_done by buf old else record old {
  error = content_first
      old.error error;
}).rows
completed_same true by error buf old = done_same by buf old
completed_same false by error buf old = same_none old.rows

rows_same : (old new : board.Seen) → new.rows ≡ old.rows → SameBindings old.rows new.rows
rows_same old new is = subst (λ (rows : List (ℕ × Row)). SameBindings old.rows rows) (sym is) (same_none old.rows)

hears_same : (is : Bool) (entries : List Extent) (old new : board.Seen) → Hears is entries old new → new.rows ≡ old.rows
hears_same true entries old new (inl e) = ap (λ (b : board.Seen). b.rows) e.1
hears_same true entries old new (inr e) = ap (λ (b : board.Seen). b.rows) e
hears_same false entries old new e = ap (λ (b : board.Seen). b.rows) e

call_same : (old new : board.Seen) (call : Call Ticket) → Files old call new → SameBindings old.rows new.rows
call_same old new (Chunk by bytes offset status error heard) f = rows_same old new (ap (λ (b : board.Seen). b.rows) f.1)
call_same old new (Extents by context offset entries error heard) f = rows_same old new (hears_same (is_map by context) entries old new f.1)
call_same old new (Complete by error buf verdict) f = subst (λ (b : board.Seen). SameBindings old.rows b.rows) (sym f.1) (completed_same (error == 0) by error buf old)
call_same old new (Free by) f = rows_same old new (ap (λ (b : board.Seen). b.rows) f)

pub calls_same : (calls : List (Call Ticket)) (old new : board.Seen) → OneByOne Files old calls new → SameBindings old.rows new.rows
calls_same [] old new done = rows_same old new (ap (λ (b : board.Seen). b.rows) done)
calls_same (call ∷ calls) old new done = same_then old.rows done.0.rows new.rows (call_same old done.0 call done.1.0) (calls_same calls done.0 new done.1.1)

-- This happened on the handle in a place.
record HasHappened (index at : ℕ) (event : Event Ticket) (seens : List (Seen Ticket)) (now : Seen Ticket) : Type 0 where
  place : at ≡ index
  seen : Seen Ticket
  there : slice_get seens at ≡ Some seen
  is : now ≡ happened event seen

event_or : (index at : ℕ) (event : Event Ticket) (seens : List (Seen Ticket)) (now : Seen Ticket) → slice_get (with_event index event seens) at ≡ Some now →
    (slice_get seens at ≡ Some now) ⊎ HasHappened index at event seens now
event_or index at event [] now there = inl there
event_or zero zero event (seen ∷ others) now there = inr (record { place = refl; seen = seen; there = refl; is = sym (some_same (happened event seen) now there) })
event_or zero (suc at) event (seen ∷ others) now there = inl there
event_or (suc index) zero event (seen ∷ others) now there = inl there
event_or (suc index) (suc at) event (seen ∷ others) now there = go (event_or index at event others now there)
  where
    go : (slice_get others at ≡ Some now) ⊎ HasHappened index at event others now → (slice_get others at ≡ Some now) ⊎ HasHappened (suc index) (suc at) event (seen ∷ others) now
    go (inl is) = inl is
    go (inr h) = inr (record { place = ap suc h.place; seen = h.seen; there = h.there; is = h.is })

-- Since a board and these histories rows have the connections that they had, and nothing was asked.
record Since (start : board.Seen) (old : Histories) (now : board.Seen) (histories : Histories) : Type 0 where
  rows : SameBindings start.rows now.rows
  asked : (link cookie : ℕ) → request (histories link) cookie ≡ request (old link) cookie

asked_still : (link : ℕ) (event : Event Ticket) (before after : Histories) → Happens link event before after → is_issue event ≡ false → (other cookie : ℕ) →
    request (after other) cookie ≡ request (before other) cookie
asked_still link event before after happens unissued other cookie = go (cases_eq link other)
  where
    go : (link ≡ other) ⊎ (link ≡ other → ⊥) → request (after other) cookie ≡ request (before other) cookie
    go (inl same) = subst (λ (n : ℕ). request (after n) cookie ≡ request (before n) cookie) same (ap (λ (h : History Ticket). request h cookie) happens.here ∙ request_stays (before link) event
        cookie unissued)
    go (inr differ) = ap (λ (h : History Ticket). request h cookie) (happens.others other (λ e. differ (sym e)))

module _ (start : board.Seen) (old : Histories) (link : ℕ) (event : Event Ticket) (before after : Histories) (happens : Happens link event before after) where
  event_since : (now now' : board.Seen) → Since start old now before → is_issue event ≡ false → Plays steps event (before link) now now' → Since start old now' after
  event_since now now' since unissued plays = record {
    rows = same_then start.rows now.rows now'.rows since.rows (calls_same plays.calls now now' plays.world);
    asked = λ other cookie. asked_still link event before after happens unissued other cookie ∙ since.asked other cookie;
  }

  quiet_since : (now : board.Seen) → Since start old now before → is_issue event ≡ false → is_coming event ≡ false → Since start old now after
  quiet_since now since unissued still = record { rows = since.rows; asked = λ other cookie. asked_still link event before after happens unissued other cookie ∙ since.asked other cookie }

-- A board goes on.

module _ (source : Bool) where
  on_same : (index : ℕ) (row was : Row) → row.source ≡ was.source → row.destination ≡ was.destination → (connection_on source was == index) ≡ true → (connection_on source row == index) ≡ true
  on_same index row was reads writes is = ap (λ (c : ℕ). c == index) (go source) ∙ is
    where
      go : (s : Bool) → connection_on s row ≡ connection_on s was
      go true = reads
      go false = writes

  pub on_moved : (now now' : board.Seen) (seens : List (Seen Ticket)) → (now'.error ≡ None → now.error ≡ None) → (now.error ≡ None → SameBindings now.rows now'.rows) → AreOn source now seens →
      AreOn source now' seens
  on_moved now now' seens earlier same bound = record {
    each = λ well index seen there cookie n asks row is by held.
        let k = (same (earlier well)).each n row held in
        on_same index row k.was k.source k.destination (bound.each (earlier well) index seen there cookie n asks k.was is by k.held);
  }

  -- without rows
  pub on_none : (now : board.Seen) (seens : List (Seen Ticket)) → now.rows ≡ [] → AreOn source now seens
  on_none now seens none = record { each = λ well index seen there cookie n asks row is by held. absurd (none_some row (sym (ap (value_at n) none) ∙ held)) }

  -- Handles go on, and were asked what they were.
  on_on : (now : board.Seen) (before after : List (Seen Ticket)) → ((index : ℕ) (here : Seen Ticket) → slice_get after index ≡ Some here → WasSame before index here) → AreOn source now before →
      AreOn source now after
  on_on now before after same bound = record {
    each = λ well index here there cookie n asks row is by held.
        let w = same index here there in
        bound.each well index w.seen w.there cookie n asks row (sym (w.same cookie) ∙ is) by held;
  }

  -- an event that asks nothing
  pub on_event : (now : board.Seen) (index : ℕ) (event : Event Ticket) (seens : List (Seen Ticket)) → is_issue event ≡ false → AreOn source now seens →
      AreOn source now (with_event index event seens)
  on_event now index event seens unissued bound = on_on now seens (with_event index event seens) (λ at here there. go at here (event_or index at event seens here there)) bound
    where
      go : (at : ℕ) (here : Seen Ticket) → (slice_get seens at ≡ Some here) ⊎ HasHappened index at event seens here → WasSame seens at here
      go at here (inl there) = record { seen = here; there = there; same = λ cookie. refl }
      go at here (inr h) = record { seen = h.seen; there = h.there; same = λ cookie. ap (λ (s : Seen Ticket). request s.history cookie) h.is ∙ request_stays h.seen.history event cookie unissued }

  -- A turn.
  pub on_turned : (now now' : board.Seen) (part : List wire.Call) (before after : List (Seen Ticket)) (ending : Ending) (old : Histories) → Turns steps before now part after now' ending →
      HaveOwnLinks before → AllHave old before →
      ((index : ℕ) (here : Seen Ticket) → slice_get after index ≡ Some here → Was before index here) → (now'.error ≡ None → now.error ≡ None) → AreOn source now before → AreOn source now' after
  on_turned now now' part before after ending old turns own have links earlier bound =
      let t = turns_all (Since now old) (event_since now old) (quiet_since now old) before now part after now' ending old turns own have (record {
        rows = same_none now.rows;
        asked = λ link
            cookie. refl;
      }) in
      on_on now' before after
      (λ index here there.
      let w = links index here there in
      record {
        seen = w.seen;
        there = w.there;
        same = λ cookie.
            ap (λ (h : History Ticket). request h cookie) (sym (one_has index here t.histories after there t.held))
            ∙ t.stood.asked here.link cookie
            ∙ ap (λ (n : ℕ). request (old n) cookie) w.link
            ∙ ap (λ (h : History Ticket). request h cookie) (one_has index w.seen old before w.there have);
      })
      (on_moved now now' before earlier (λ well. t.stood.rows) bound)

-- A command of a slice is that of one that was begun.

source_begun : (slices : List Slice) (by : Ticket) (n : ℕ) (command : Command Nobody) → by ≡ ticket.Slice n → AsksOfSource slices by command → n < length slices
source_begun slices by n command of asks = (subst (λ (t : Ticket). AsksOfSource slices t command) of asks).1.begun

destination_begun : (how : How) (slices : List Slice) (by : Ticket) (n : ℕ) (command : Command Nobody) → by ≡ ticket.Slice n → AsksOfDestination how slices by command → n < length slices
destination_begun how slices by n command of asks = (subst (λ (t : Ticket). AsksOfDestination how slices t command) of asks).1.begun

module _ (source : Bool) (far : Far) (at : Place) (size : Option ℕ) (how : How) (slices : List Slice) (now : board.Seen) (calls : List wire.Call) (seens : List (Seen Ticket)) (wanted : Option (ℕ
    × ℕ)) (known : Known)
    (stands : FarCourse far at size how slices now calls seens wanted known) where
  abbrev histories : Histories
  histories = stands.course.histories

  rising_by : (f : Far) → FarStood f how slices now histories → now.error ≡ None → IsRising now.rows
  rising_by (ToFile done) s well = (s.stands well).rising
  rising_by (FromFile done) s well = (s.stands well).rising

  below_by : (f : Far) → FarStood f how slices now histories → now.error ≡ None → IsBelow now.rows (length slices)
  below_by (ToFile done) s well = (s.stands well).below
  below_by (FromFile done) s well = (s.stands well).below

  -- it is among those that are tracked
  tracked : (link cookie : ℕ) (q : Request Ticket) (requests : List sides_of.Request) → request (histories link) cookie ≡ Some q → AllTrack histories requests →
      sides_of.IsIn (sides_of.request link cookie q.flight.done.callback (record { command = bare q; outcome = outcome_after (histories link) cookie })) requests
  tracked link cookie q requests is tracks =
      let r : sides_of.Request = sides_of.request link cookie q.flight.done.callback (record { command = bare q; outcome = outcome_after (histories link) cookie }) in
      let told : told_by link cookie (histories link) ≡ r ∷ [] = ap (λ (o : Option (Request Ticket)). requests_of link cookie o (outcome_after (histories link) cookie)) is in
      let there = found link cookie r requests ((tracks link).each cookie ∙ told) in
      subst (λ (l : List sides_of.Request). sides_of.IsIn r l) (sym there.is) (in_middle r there.front there.back)

  begun_by : (f : Far) → FarStood f how slices now histories → now.error ≡ None → (link cookie : ℕ) (q : Request Ticket) (n : ℕ) → request (histories link) cookie ≡ Some q →
      q.flight.done.callback ≡ ticket.Slice n → n < length slices
  begun_by (ToFile done) s well link cookie q n is of =
      source_begun slices q.flight.done.callback n (bare q) of
      (in_each (λ (r : sides_of.Request). AsksOfSource slices r.ticket r.said.command) _ s.asked (tracked link cookie q s.asked is s.tracked) (s.stands well).reads)
  begun_by (FromFile done) s well link cookie q n is of =
      destination_begun how slices q.flight.done.callback n (bare q) of
      (in_each (λ (r : sides_of.Request). AsksOfDestination how slices r.ticket r.said.command) _ s.asked (tracked link cookie q s.asked is s.tracked) (s.stands well).changes)

  begun_before : now.error ≡ None → (link cookie : ℕ) (q : Request Ticket) (n : ℕ) → request (histories link) cookie ≡ Some q → q.flight.done.callback ≡ ticket.Slice n → n < length slices
  begun_before well link cookie q n is of = begun_by far stands.course.stood.stood well link cookie q n is of

  pub rows_on : (now' : board.Seen) → (now'.error ≡ None → now.error ≡ None) → (IsRising now.rows → SameBindings now.rows now'.rows) → AreOn source now seens → AreOn source now' seens
  rows_on now' earlier same bound = on_moved source now now' seens earlier (λ well. same (rising_by far stands.course.stood.stood well)) bound

  module _ (now' : board.Seen) (begun : length slices ≡ now.begun) (earlier : now'.error ≡ None → now.error ≡ None) (bound : AreOn source now seens) where
    -- What was asked before stays where it is.
    pub on_dealt : (connection : ℕ) (by : Ticket) → Binds source connection by now now' → AreOn source now' seens
    on_dealt connection by binds = record { each = λ well index seen there cookie n asks row is of held. go (earlier well) index seen there cookie n asks row is of (binds.earlier n row held) }
      where
        go : (well : now.error ≡ None) (index : ℕ) (seen : Seen Ticket) → slice_get seens index ≡ Some seen → (cookie n : ℕ) (asks : Request Ticket) (row : Row) →
            request seen.history cookie ≡ Some asks → asks.flight.done.callback ≡ ticket.Slice n →
            Before now.rows n row ⊎ (n ≡ now.begun) → (connection_on source row == index) ≡ true
        go well index seen there cookie n asks row is of (inl k) = on_same source index row k.was k.source k.destination (bound.each well index seen there cookie n asks k.was is of k.held)
        go well index seen there cookie n asks row is of (inr new) =
            let less = begun_before well seen.link cookie asks n (ap (λ (h : History Ticket). request h cookie) (one_has index seen histories seens there stands.course.held) ∙ is) of in
            absurd (omega (arith, less, new, begun))

    -- the callback of a command
    done_of : (admitted : ℕ) (first : Option Ticket) (by : Ticket) → (flight_of admitted first by).done.callback ≡ by
    done_of admitted None by = refl
    done_of admitted (Some one) by = refl

    pub asks_on : (index : ℕ) (command : Command Ticket) → Binds source index command.done now now' → AreOn source now' (with_event index (Issue command) seens)
    asks_on index command binds = record {
      each = λ well at seen there cookie n asks row is of held. go well at seen cookie n asks row is of held (event_or index at (Issue command) seens seen there);
    }
      where
        dealt : AreOn source now' seens
        dealt = on_dealt index command.done binds

        first : now.error ≡ None → (n : ℕ) (row : Row) → command.done ≡ ticket.Slice n → value_at n now'.rows ≡ Some row → (connection_on source row == index) ≡ true
        first well n row of held =
            let below : IsBelow now.rows now.begun = subst (λ (m : ℕ). IsBelow now.rows m) begun (below_by far stands.course.stood.stood well) in
            eq-eqb (connection_on source row) index (binds.here below n row of held)

        choose : now'.error ≡ None → (at : ℕ) (seen : Seen Ticket) → slice_get seens at ≡ Some seen → (cookie n : ℕ) (asks : Request Ticket) (row : Row) →
            asks.flight.done.callback ≡ ticket.Slice n → value_at n now'.rows ≡ Some row → at ≡ index →
            (b : Bool) → (if b then Some (request_of (asked seen.history).admitted command) else request seen.history cookie) ≡ Some asks → (connection_on source row == at) ≡ true
        choose well at seen there cookie n asks row of held place true is =
            let one : request_of (asked seen.history).admitted command ≡ asks = some_same (request_of (asked seen.history).admitted command) asks is in
            let done : command.done ≡ ticket.Slice n = sym (done_of (asked seen.history).admitted command.first command.done) ∙ ap (λ (q : Request Ticket). q.flight.done.callback) one ∙ of in
            subst (λ (i : ℕ). (connection_on source row == i) ≡ true) (sym place) (first (earlier well) n row done held)
        choose well at seen there cookie n asks row of held place false is = dealt.each well at seen there cookie n asks row is of held

        go : now'.error ≡ None → (at : ℕ) (seen : Seen Ticket) (cookie n : ℕ) (asks : Request Ticket) (row : Row) → request seen.history cookie ≡ Some asks →
            asks.flight.done.callback ≡ ticket.Slice n → value_at n now'.rows ≡ Some row →
            (slice_get seens at ≡ Some seen) ⊎ HasHappened index at (Issue command) seens seen → (connection_on source row == at) ≡ true
        go well at seen cookie n asks row is of held (inl there) = dealt.each well at seen there cookie n asks row is of held
        go well at seen cookie n asks row is of held (inr h) =
            choose well at h.seen h.there cookie n asks row of held h.place ((asked h.seen.history).issued + 1 == cookie) (ap (λ (s : Seen Ticket). request s.history cookie) (sym h.is) ∙ is)

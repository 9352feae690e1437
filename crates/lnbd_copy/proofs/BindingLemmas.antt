-- Each command of a slice is on the connection that the slice is bound to: so it stays as boards go on, handles turn, and commands are asked.
use Rattle.std.proofs.Common.{◌≡◌, ◌<◌, ◌⊎◌, inl, inr, ℕ, zero, suc, ◌+◌, Bool, true, false, not, ◌==◌, List, [], ◌∷◌, ◌++◌, length, Option, Some, None, slice_get, refl, ap, sym, subst, ◌∙◌, arith, if◌then◌else◌}
use Rattle.std.proofs.lemmas.Bool.{cases_eq, eq-eqb}
use Rattle.lnbd_keyed.specs.Keyed.{IsBelow, IsRising, value_at, with_value, without}
use Rattle.lnbd_keyed.proofs.KeyedLemmas.{value_at_last, value_at_last_other, value_at_with, value_at_with_other, value_at_without, value_at_without_other}
use Rattle.lnbd_model.specs.declared.export.Extent.{Extent}
use Rattle.lnbd_callbacks.specs.Calls.{Call, Chunk, Extents, Complete, Free}
use Rattle.lnbd_callbacks.specs.Steps.{OneByOne}
use Rattle.lnbd_link.specs.Call as wire
use Rattle.lnbd_history.specs.Commands.{Command, Request, flight_of, request_of}
use Rattle.lnbd_history.specs.Events.{Event, History, Issue}
use Rattle.lnbd_history.specs.History.{asked, request}
use Rattle.lnbd_handle.specs.Histories.{Plays}
use Rattle.lnbd_asked.specs.Driven.{outcome_after}
use Rattle.lnbd_asked.specs.Link.{Nobody}
use Rattle.lnbd_asked.specs.Transcript.{bare}
use Rattle.lnbd_poll.specs.Alone.{HaveOwnLinks}
use Rattle.lnbd_poll.specs.Seen.{Seen}
use Rattle.lnbd_poll.specs.Turns.{Ending, Turns}
use Rattle.lnbd_drives.specs.Driving.{happened, with_event}
use Rattle.lnbd_plan.specs.declared.grid.Slice.{Slice}
use Rattle.lnbd_board.specs.declared.how.How.{How}
use Rattle.lnbd_board.specs.declared.row.Row.{Row}
use Rattle.lnbd_board.specs.declared.row.Stage.{Stage}
use Rattle.lnbd_board.specs.declared.ticket.Ticket.{Ticket}
use Rattle.lnbd_board.specs.declared.ticket.Ticket.TheVariants as ticket
use Rattle.lnbd_board.specs.Files.{Files, Hears, came_with, filed_done, is_map, is_unfit, or_error, content_first, received, rows_with}
use Rattle.lnbd_board.specs.Files as board
use Rattle.lnbd_board.specs.Requests as sides_of
use Rattle.lnbd_board.specs.Rows.{AsksOfDestination, AsksOfSource, is_busy}
use Rattle.lnbd_board.proofs.Lists.{in_each}
use Rattle.lnbd_tracks.specs.Laws.{is_coming}
use Rattle.lnbd_tracks.specs.Tracks.{AllTrack, Happens, Histories, is_issue, request_of as requests_of, told_by}
use Rattle.lnbd_tracks.proofs.Dealt.{in_middle}
use Rattle.lnbd_tracks.proofs.Under.{found}
use Rattle.lnbd_tracks.proofs.Unfiled.{request_stays}
use Rattle.lnbd_course.specs.Course.{AllHave, Course, beside, on_side}
use Rattle.lnbd_course.proofs.Holding.{one_has}
use Rattle.lnbd_course.proofs.Standing.{on_here}
use Rattle.lnbd_course.proofs.Turning.{steps, turns_all}
use Rattle.lnbd_conduct.specs.declared.sides.Sides.{Sides}
use Rattle.lnbd_copy.specs.Way.{AreBound, StayBound, Stands, Way, connection_on, is_bound}
use Rattle.lnbd_conduct.specs.Sides.{connection_of, is_source}

none_some : {A : Type 0} (one : A) → None ≡ Some one → ⊥
none_some one e = cc

some_same : {A : Type 0} (one other : A) → Some one ≡ Some other → one ≡ other
some_same one other e = cc

-- Rows.

-- A row was bound to the same connections before.
pub record Before (old : List (ℕ × Row)) (n : ℕ) (row : Row) : Type 0 where
  pub was : Row
  pub held : value_at n old ≡ Some was
  pub source : row.source ≡ was.source
  pub destination : row.destination ≡ was.destination

-- So was each of them.
pub record SameBindings (old new : List (ℕ × Row)) : Type 0 where
  pub each : (n : ℕ) (row : Row) → value_at n new ≡ Some row → Before old n row

pub same_none : (rows : List (ℕ × Row)) → SameBindings rows rows
same_none rows = record { each = λ n row is. record { was = row; held = is; source = refl; destination = refl } }

same_then : (a b c : List (ℕ × Row)) → SameBindings a b → SameBindings b c → SameBindings a c
same_then a b c one two = record {
  each = λ n row is.
      let m = two.each n row is in
      let k = one.each n m.was m.held in
      record { was = k.was; held = k.held; source = m.source ∙ k.source; destination = m.destination ∙ k.destination };
}

-- a row takes another stage
pub same_with : (n : ℕ) (row : Row) (stage : Stage) (rows : List (ℕ × Row)) → value_at n rows ≡ Some row → SameBindings rows (with_value n (record row { stage = stage }) rows)
same_with n row stage rows held = record { each = λ m one is. go m one is (cases_eq m n) }
  where
    here : (one : Row) → value_at n (with_value n (record row { stage = stage }) rows) ≡ Some one → Before rows n one
    here one is =
        let same : one ≡ record row { stage = stage } = sym (some_same (record row { stage = stage }) one (sym (value_at_with n row (record row { stage = stage }) rows held) ∙ is)) in
        record { was = row; held = held; source = ap (λ (r : Row). r.source) same; destination = ap (λ (r : Row). r.destination) same }

    go : (m : ℕ) (one : Row) → value_at m (with_value n (record row { stage = stage }) rows) ≡ Some one → (m ≡ n) ⊎ (m ≡ n → ⊥) → Before rows m one
    go m one is (inl e) = subst (λ (k : ℕ). Before rows k one) (sym e) (here one (ap (λ (k : ℕ). value_at k (with_value n (record row { stage = stage }) rows)) (sym e) ∙ is))
    go m one is (inr differ) = record { was = one; held = sym (value_at_with_other m n (record row { stage = stage }) rows differ) ∙ is; source = refl; destination = refl }

-- a row is over
pub same_without : (n : ℕ) (rows : List (ℕ × Row)) → IsRising rows → SameBindings rows (without n rows)
same_without n rows rising = record { each = λ m one is. go m one is (cases_eq m n) }
  where
    go : (m : ℕ) (one : Row) → value_at m (without n rows) ≡ Some one → (m ≡ n) ⊎ (m ≡ n → ⊥) → Before rows m one
    go m one is (inl e) = absurd (none_some one (sym (value_at_without n rows rising) ∙ ap (λ (k : ℕ). value_at k (without n rows)) (sym e) ∙ is))
    go m one is (inr differ) = record { was = one; held = sym (value_at_without_other m n rows differ) ∙ is; source = refl; destination = refl }

-- What callbacks do.

received_same : (o : Option Row) (n : ℕ) (buf : List ℕ) (rows : List (ℕ × Row)) → value_at n rows ≡ o → SameBindings rows (rows_with o n buf rows)
received_same None n buf rows is = same_none rows
received_same (Some row) n buf rows is = go (is_busy row.stage)
  where
    go : (b : Bool) → SameBindings rows (if b then with_value n (record row { stage = received row.stage buf }) rows else rows)
    go true = same_with n row (received row.stage buf) rows is
    go false = same_none rows

slice_same : (unfit : Bool) (n : ℕ) (buf : List ℕ) (old : board.Seen)
    → SameBindings old.rows (if unfit then record old { error = or_error old.error 71 } else record old { rows = rows_with (value_at n old.rows) n buf old.rows; came = came_with (value_at n old.rows) n old.came }).rows
slice_same true n buf old = same_none old.rows
slice_same false n buf old = received_same (value_at n old.rows) n buf old.rows refl

done_same : (by : Ticket) (buf : List ℕ) (old : board.Seen) → SameBindings old.rows (filed_done by buf old).rows
done_same (ticket.Slice n) buf old = slice_same (is_unfit (value_at n old.rows) buf) n buf old
done_same ticket.Extents buf old = same_none old.rows
done_same ticket.Flush buf old = same_none old.rows

completed_same : (well : Bool) (by : Ticket) (error : ℕ) (buf : List ℕ) (old : board.Seen) → SameBindings old.rows (if well then filed_done by buf old else record old { error = content_first old.error error }).rows
completed_same true by error buf old = done_same by buf old
completed_same false by error buf old = same_none old.rows

rows_same : (old new : board.Seen) → new.rows ≡ old.rows → SameBindings old.rows new.rows
rows_same old new is = subst (λ (rows : List (ℕ × Row)). SameBindings old.rows rows) (sym is) (same_none old.rows)

hears_same : (is : Bool) (entries : List Extent) (old new : board.Seen) → Hears is entries old new → new.rows ≡ old.rows
hears_same true entries old new (inl e) = ap (λ (b : board.Seen). b.rows) e.1
hears_same true entries old new (inr e) = ap (λ (b : board.Seen). b.rows) e
hears_same false entries old new e = ap (λ (b : board.Seen). b.rows) e

call_same : (old new : board.Seen) (call : Call Ticket) → Files old call new → SameBindings old.rows new.rows
call_same old new (Chunk by bytes offset status error heard) f = rows_same old new (ap (λ (b : board.Seen). b.rows) f.1)
call_same old new (Extents by context offset entries error heard) f = rows_same old new (hears_same (is_map by context) entries old new f.1)
call_same old new (Complete by error buf verdict) f = subst (λ (b : board.Seen). SameBindings old.rows b.rows) (sym f.1) (completed_same (error == 0) by error buf old)
call_same old new (Free by) f = rows_same old new (ap (λ (b : board.Seen). b.rows) f)

calls_same : (calls : List (Call Ticket)) (old new : board.Seen) → OneByOne Files old calls new → SameBindings old.rows new.rows
calls_same [] old new done = rows_same old new (ap (λ (b : board.Seen). b.rows) done)
calls_same (call ∷ calls) old new done = same_then old.rows done.0.rows new.rows (call_same old done.0 call done.1.0) (calls_same calls done.0 new done.1.1)

-- A board goes on.

bound_same : (sides : Sides) (index : ℕ) (row was : Row) → row.source ≡ was.source → row.destination ≡ was.destination → is_bound sides index was ≡ true → is_bound sides index row ≡ true
bound_same sides index row was source destination is = ap (λ (c : ℕ). c == connection_of sides index) (go (is_source sides index)) ∙ is
  where
    go : (s : Bool) → connection_on s row ≡ connection_on s was
    go true = source
    go false = destination

pub bound_moved : (sides : Sides) (now now' : board.Seen) (seens : List (Seen Ticket)) → (now'.error ≡ None → now.error ≡ None) → (now.error ≡ None → SameBindings now.rows now'.rows) → AreBound sides now seens → AreBound sides now' seens
bound_moved sides now now' seens earlier same bound = record {
  each = λ well index seen there cookie n asks row is by held.
      let k = (same (earlier well)).each n row held in
      bound_same sides index row k.was k.source k.destination (bound.each (earlier well) index seen there cookie n asks k.was is by k.held);
}

-- without rows
pub bound_none : (sides : Sides) (now : board.Seen) (seens : List (Seen Ticket)) → now.rows ≡ [] → AreBound sides now seens
bound_none sides now seens none = record { each = λ well index seen there cookie n asks row is by held. absurd (none_some row (sym (ap (value_at n) none) ∙ held)) }

-- Handles go on.

-- The handle in this place was asked before what it was asked by now.
pub record WasSame (before : List (Seen Ticket)) (index : ℕ) (here : Seen Ticket) : Type 0 where
  pub seen : Seen Ticket
  pub there : slice_get before index ≡ Some seen
  pub same : (cookie : ℕ) → request here.history cookie ≡ request seen.history cookie

bound_on : (sides : Sides) (now : board.Seen) (before after : List (Seen Ticket)) → ((index : ℕ) (here : Seen Ticket) → slice_get after index ≡ Some here → WasSame before index here) → AreBound sides now before → AreBound sides now after
bound_on sides now before after same bound = record {
  each = λ well index here there cookie n asks row is by held.
      let w = same index here there in
      bound.each well index w.seen w.there cookie n asks row (sym (w.same cookie) ∙ is) by held;
}

-- This happened on the handle in a place.
record HasHappened (index at : ℕ) (event : Event Ticket) (seens : List (Seen Ticket)) (now : Seen Ticket) : Type 0 where
  place : at ≡ index
  seen : Seen Ticket
  there : slice_get seens at ≡ Some seen
  is : now ≡ happened event seen

event_or : (index at : ℕ) (event : Event Ticket) (seens : List (Seen Ticket)) (now : Seen Ticket) → slice_get (with_event index event seens) at ≡ Some now → (slice_get seens at ≡ Some now) ⊎ HasHappened index at event seens now
event_or index at event [] now there = inl there
event_or zero zero event (seen ∷ others) now there = inr (record { place = refl; seen = seen; there = refl; is = sym (some_same (happened event seen) now there) })
event_or zero (suc at) event (seen ∷ others) now there = inl there
event_or (suc index) zero event (seen ∷ others) now there = inl there
event_or (suc index) (suc at) event (seen ∷ others) now there = go (event_or index at event others now there)
  where
    go : (slice_get others at ≡ Some now) ⊎ HasHappened index at event others now → (slice_get others at ≡ Some now) ⊎ HasHappened (suc index) (suc at) event (seen ∷ others) now
    go (inl is) = inl is
    go (inr h) = inr (record { place = ap suc h.place; seen = h.seen; there = h.there; is = h.is })

-- an event that asks nothing
pub bound_event : (sides : Sides) (now : board.Seen) (index : ℕ) (event : Event Ticket) (seens : List (Seen Ticket)) → is_issue event ≡ false → AreBound sides now seens → AreBound sides now (with_event index event seens)
bound_event sides now index event seens unissued bound = bound_on sides now seens (with_event index event seens) (λ at here there. go at here (event_or index at event seens here there)) bound
  where
    go : (at : ℕ) (here : Seen Ticket) → (slice_get seens at ≡ Some here) ⊎ HasHappened index at event seens here → WasSame seens at here
    go at here (inl there) = record { seen = here; there = there; same = λ cookie. refl }
    go at here (inr h) = record { seen = h.seen; there = h.there; same = λ cookie. ap (λ (s : Seen Ticket). request s.history cookie) h.is ∙ request_stays h.seen.history event cookie unissued }

-- a handle more that was asked nothing
pub bound_more : (sides : Sides) (now : board.Seen) (seens : List (Seen Ticket)) (last : Seen Ticket) → ((cookie : ℕ) → request last.history cookie ≡ None) →
    ((index : ℕ) (seen : Seen Ticket) → slice_get (seens ++ last ∷ []) index ≡ Some seen → (slice_get seens index ≡ Some seen) ⊎ ((index ≡ length seens) × (seen ≡ last))) → AreBound sides now seens → AreBound sides now (seens ++ last ∷ [])
bound_more sides now seens last blank last_or bound = record {
  each = λ well index seen there cookie n asks row is by held. elim (last_or index seen there) [
    | inl before ↦ bound.each well index seen before cookie n asks row is by held
    | inr here ↦ absurd (none_some asks (sym (blank cookie) ∙ ap (λ (s : Seen Ticket). request s.history cookie) (sym here.1) ∙ is))
  ];
}

-- A turn.

-- Since a board and these histories rows have the connections that they had, and nothing was asked.
record Since (start : board.Seen) (old : Histories) (now : board.Seen) (histories : Histories) : Type 0 where
  rows : SameBindings start.rows now.rows
  asked : (link cookie : ℕ) → request (histories link) cookie ≡ request (old link) cookie

asked_still : (link : ℕ) (event : Event Ticket) (before after : Histories) → Happens link event before after → is_issue event ≡ false → (other cookie : ℕ) → request (after other) cookie ≡ request (before other) cookie
asked_still link event before after happens unissued other cookie = go (cases_eq link other)
  where
    go : (link ≡ other) ⊎ (link ≡ other → ⊥) → request (after other) cookie ≡ request (before other) cookie
    go (inl same) = subst (λ (n : ℕ). request (after n) cookie ≡ request (before n) cookie) same (ap (λ (h : History Ticket). request h cookie) happens.here ∙ request_stays (before link) event cookie unissued)
    go (inr differ) = ap (λ (h : History Ticket). request h cookie) (happens.others other (λ e. differ (sym e)))

module _ (start : board.Seen) (old : Histories) (link : ℕ) (event : Event Ticket) (before after : Histories) (happens : Happens link event before after) where
  event_since : (now now' : board.Seen) → Since start old now before → is_issue event ≡ false → Plays steps event (before link) now now' → Since start old now' after
  event_since now now' since unissued plays = record {
    rows = same_then start.rows now.rows now'.rows since.rows (calls_same plays.calls now now' plays.world);
    asked = λ other cookie. asked_still link event before after happens unissued other cookie ∙ since.asked other cookie;
  }

  quiet_since : (now : board.Seen) → Since start old now before → is_issue event ≡ false → is_coming event ≡ false → Since start old now after
  quiet_since now since unissued still = record { rows = since.rows; asked = λ other cookie. asked_still link event before after happens unissued other cookie ∙ since.asked other cookie }

-- one of them had this link, in this place
pub record Was (before : List (Seen Ticket)) (index : ℕ) (here : Seen Ticket) : Type 0 where
  pub seen : Seen Ticket
  pub there : slice_get before index ≡ Some seen
  pub link : here.link ≡ seen.link

turned_bound : (sides : Sides) (now now' : board.Seen) (part : List wire.Call) (before after : List (Seen Ticket)) (ending : Ending) (old : Histories) → Turns steps before now part after now' ending → HaveOwnLinks before → AllHave old before →
    ((index : ℕ) (here : Seen Ticket) → slice_get after index ≡ Some here → Was before index here) → (now'.error ≡ None → now.error ≡ None) → AreBound sides now before → AreBound sides now' after
turned_bound sides now now' part before after ending old turns own have links earlier bound =
    let t = turns_all (Since now old) (event_since now old) (quiet_since now old) before now part after now' ending old turns own have (record { rows = same_none now.rows; asked = λ link cookie. refl }) in
    bound_on sides now' before after
    (λ index here there.
    let w = links index here there in
    record {
      seen = w.seen;
      there = w.there;
      same = λ cookie.
          ap (λ (h : History Ticket). request h cookie) (sym (one_has index here t.histories after there t.held))
          ∙ t.stood.asked here.link cookie
          ∙ ap (λ (n : ℕ). request (old n) cookie) w.link
          ∙ ap (λ (h : History Ticket). request h cookie) (one_has index w.seen old before w.there have);
    })
    (bound_moved sides now now' before earlier (λ well. t.stood.rows) bound)

pub turn_stays_bound : (parting : Bool) (sides : Sides) (now now' : board.Seen) (part : List wire.Call) (before after : List (Seen Ticket)) (ending : Ending) (old : Histories) → Turns steps before now part after now' ending → HaveOwnLinks before → AllHave old before →
    ((index : ℕ) (here : Seen Ticket) → slice_get after index ≡ Some here → Was before index here) → (now'.error ≡ None → now.error ≡ None) → StayBound parting sides now before → StayBound parting sides now' after
turn_stays_bound false sides now now' part before after ending old turns own have links earlier bound = turned_bound sides now now' part before after ending old turns own have links earlier bound
turn_stays_bound true sides now now' part before after ending old turns own have links earlier bound = tt

-- A command is asked.

-- Each row was bound as it is, but that of the slice which begins; and the slice of this ticket is bound to this connection.
pub record Binds (source : Bool) (connection : ℕ) (by : Ticket) (old new : board.Seen) : Type 0 where
  pub earlier : (n : ℕ) (row : Row) → value_at n new.rows ≡ Some row → Before old.rows n row ⊎ (n ≡ old.begun)
  pub here : IsBelow old.rows old.begun → (n : ℕ) (row : Row) → by ≡ ticket.Slice n → value_at n new.rows ≡ Some row → connection_on source row ≡ connection

-- no slice's command
pub binds_none : (source : Bool) (connection : ℕ) (by : Ticket) (old new : board.Seen) → ((n : ℕ) → by ≡ ticket.Slice n → ⊥) → new.rows ≡ old.rows → Binds source connection by old new
binds_none source connection by old new none same = record {
  earlier = λ n row is. inl ((rows_same old new same).each n row is);
  here = λ below n row of held. absurd (none n of);
}

same_slice : (n m : ℕ) → ticket.Slice n ≡ ticket.Slice m → n ≡ m
same_slice n m e = cc

-- the slice of a row goes on
pub binds_on : (n : ℕ) (row : Row) (stage : Stage) (old new : board.Seen) → value_at n old.rows ≡ Some row → new.rows ≡ with_value n (record row { stage = stage }) old.rows → Binds false row.destination (ticket.Slice n) old new
binds_on n row stage old new held is = record { earlier = λ m one there. inl (before m one there); here = λ below m one of there. here m one (same_slice n m of) there }
  where
    before : (m : ℕ) (one : Row) → value_at m new.rows ≡ Some one → Before old.rows m one
    before m one there = (same_with n row stage old.rows held).each m one (sym (ap (value_at m) is) ∙ there)

    here : (m : ℕ) (one : Row) → n ≡ m → value_at m new.rows ≡ Some one → one.destination ≡ row.destination
    here m one same there =
        let b = before m one there in
        b.destination ∙ ap (λ (r : Row). r.destination) (some_same b.was row (sym b.held ∙ ap (λ (k : ℕ). value_at k old.rows) (sym same) ∙ held))

-- a slice begins
pub binds_first : (source : Bool) (row : Row) (old new : board.Seen) → new.rows ≡ old.rows ++ (old.begun, row) ∷ [] → Binds source (connection_on source row) (ticket.Slice old.begun) old new
binds_first source row old new is = record { earlier = λ m one there. before m one (sym (ap (value_at m) is) ∙ there) (cases_eq m old.begun); here = λ below m one of there. here below m one (same_slice old.begun m of) (sym (ap (value_at m) is) ∙ there) }
  where
    before : (m : ℕ) (one : Row) → value_at m (old.rows ++ (old.begun, row) ∷ []) ≡ Some one → (m ≡ old.begun) ⊎ (m ≡ old.begun → ⊥) → Before old.rows m one ⊎ (m ≡ old.begun)
    before m one there (inl e) = inr e
    before m one there (inr differ) = inl (record { was = one; held = sym (value_at_last_other m old.begun row old.rows differ) ∙ there; source = refl; destination = refl })

    here : IsBelow old.rows old.begun → (m : ℕ) (one : Row) → old.begun ≡ m → value_at m (old.rows ++ (old.begun, row) ∷ []) ≡ Some one → connection_on source one ≡ connection_on source row
    here below m one same there =
        ap (connection_on source) (some_same one row (sym there ∙ ap (λ (k : ℕ). value_at k (old.rows ++ (old.begun, row) ∷ [])) (sym same) ∙ value_at_last old.begun row old.rows below))

-- A command of a slice is that of one that was begun.

source_begun : (slices : List Slice) (by : Ticket) (n : ℕ) (command : Command Nobody) → by ≡ ticket.Slice n → AsksOfSource slices by command → n < length slices
source_begun slices by n command of asks = (subst (λ (t : Ticket). AsksOfSource slices t command) of asks).1.begun

destination_begun : (how : How) (slices : List Slice) (by : Ticket) (n : ℕ) (command : Command Nobody) → by ≡ ticket.Slice n → AsksOfDestination how slices by command → n < length slices
destination_begun how slices by n command of asks = (subst (λ (t : Ticket). AsksOfDestination how slices t command) of asks).1.begun

module _ (way : Way) (has : ℕ → Bool) (now : board.Seen) (calls : List wire.Call) (seens : List (Seen Ticket)) (stands : Stands way has now calls seens) where
  abbrev course : Course way.how has way.slices now calls seens
  course = stands.between.course

  rising : now.error ≡ None → IsRising now.rows
  rising well = (course.stood.stands well).rising

  -- it is among those that its side tracks
  tracked : (link cookie : ℕ) (q : Request Ticket) (side : ℕ → Bool) (requests : List sides_of.Request) → side link ≡ true → request (course.histories link) cookie ≡ Some q → AllTrack (on_side side course.histories) requests →
      sides_of.IsIn (sides_of.request link cookie q.flight.done.callback (record { command = bare q; outcome = outcome_after (course.histories link) cookie })) requests
  tracked link cookie q side requests mine is tracks =
      let r : sides_of.Request = sides_of.request link cookie q.flight.done.callback (record { command = bare q; outcome = outcome_after (course.histories link) cookie }) in
      let told : told_by link cookie (course.histories link) ≡ r ∷ [] = ap (λ (o : Option (Request Ticket)). requests_of link cookie o (outcome_after (course.histories link) cookie)) is in
      let there = found link cookie r requests ((tracks link).each cookie ∙ ap (λ (h : History Ticket). told_by link cookie h) (on_here side course.histories link mine) ∙ told) in
      subst (λ (l : List sides_of.Request). sides_of.IsIn r l) (sym there.is) (in_middle r there.front there.back)

  begun_before : (well : now.error ≡ None) (link cookie : ℕ) (q : Request Ticket) (n : ℕ) → request (course.histories link) cookie ≡ Some q → q.flight.done.callback ≡ ticket.Slice n → n < length way.slices
  begun_before well link cookie q n is of = go (has link) refl
    where
      go : (b : Bool) → has link ≡ b → n < length way.slices
      go true mine =
          source_begun way.slices q.flight.done.callback n (bare q) of
          (in_each (λ (r : sides_of.Request). AsksOfSource way.slices r.ticket r.said.command) _ course.stood.source (tracked link cookie q has course.stood.source mine is course.stood.reads) (course.stood.stands well).reads)
      go false mine =
          destination_begun way.how way.slices q.flight.done.callback n (bare q) of
          (in_each (λ (r : sides_of.Request). AsksOfDestination way.how way.slices r.ticket r.said.command) _ course.stood.destination (tracked link cookie q (beside has) course.stood.destination (ap not mine) is course.stood.changes) (course.stood.stands well).changes)

  module _ (now' : board.Seen) (begun : length way.slices ≡ now.begun) (earlier : now'.error ≡ None → now.error ≡ None) (bound : AreBound way.sides now seens) where
    -- What was asked before stays where it is.
    bound_dealt : (source : Bool) (connection : ℕ) (by : Ticket) → Binds source connection by now now' → AreBound way.sides now' seens
    bound_dealt source connection by binds = record { each = λ well index seen there cookie n asks row is of held. go (earlier well) index seen there cookie n asks row is of (binds.earlier n row held) }
      where
        go : (well : now.error ≡ None) (index : ℕ) (seen : Seen Ticket) → slice_get seens index ≡ Some seen → (cookie n : ℕ) (asks : Request Ticket) (row : Row) → request seen.history cookie ≡ Some asks → asks.flight.done.callback ≡ ticket.Slice n →
            Before now.rows n row ⊎ (n ≡ now.begun) → is_bound way.sides index row ≡ true
        go well index seen there cookie n asks row is of (inl k) = bound_same way.sides index row k.was k.source k.destination (bound.each well index seen there cookie n asks k.was is of k.held)
        go well index seen there cookie n asks row is of (inr new) =
            let less = begun_before well seen.link cookie asks n (ap (λ (h : History Ticket). request h cookie) (one_has index seen course.histories seens there course.held) ∙ is) of in
            absurd (omega (arith, less, new, begun))

    -- the callback of a command
    done_of : (admitted : ℕ) (first : Option Ticket) (by : Ticket) → (flight_of admitted first by).done.callback ≡ by
    done_of admitted None by = refl
    done_of admitted (Some one) by = refl

    pub asks_bound : (source : Bool) (connection index : ℕ) (command : Command Ticket) → is_source way.sides index ≡ source → connection_of way.sides index ≡ connection → Binds source connection command.done now now' →
        AreBound way.sides now' (with_event index (Issue command) seens)
    asks_bound source connection index command side here binds = record {
      each = λ well at seen there cookie n asks row is of held. go well at seen cookie n asks row is of held (event_or index at (Issue command) seens seen there);
    }
      where
        dealt : AreBound way.sides now' seens
        dealt = bound_dealt source connection command.done binds

        first : now.error ≡ None → (n : ℕ) (row : Row) → command.done ≡ ticket.Slice n → value_at n now'.rows ≡ Some row → is_bound way.sides index row ≡ true
        first well n row of held =
            let below : IsBelow now.rows now.begun = subst (λ (m : ℕ). IsBelow now.rows m) begun (course.stood.stands well).below in
            eq-eqb (connection_on (is_source way.sides index) row) (connection_of way.sides index) (ap (λ (s : Bool). connection_on s row) side ∙ binds.here below n row of held ∙ sym here)

        choose : now'.error ≡ None → (at : ℕ) (seen : Seen Ticket) → slice_get seens at ≡ Some seen → (cookie n : ℕ) (asks : Request Ticket) (row : Row) → asks.flight.done.callback ≡ ticket.Slice n → value_at n now'.rows ≡ Some row → at ≡ index →
            (b : Bool) → (if b then Some (request_of (asked seen.history).admitted command) else request seen.history cookie) ≡ Some asks → is_bound way.sides at row ≡ true
        choose well at seen there cookie n asks row of held place true is =
            let one : request_of (asked seen.history).admitted command ≡ asks = some_same (request_of (asked seen.history).admitted command) asks is in
            let done : command.done ≡ ticket.Slice n = sym (done_of (asked seen.history).admitted command.first command.done) ∙ ap (λ (q : Request Ticket). q.flight.done.callback) one ∙ of in
            subst (λ (i : ℕ). is_bound way.sides i row ≡ true) (sym place) (first (earlier well) n row done held)
        choose well at seen there cookie n asks row of held place false is = dealt.each well at seen there cookie n asks row is of held

        go : now'.error ≡ None → (at : ℕ) (seen : Seen Ticket) (cookie n : ℕ) (asks : Request Ticket) (row : Row) → request seen.history cookie ≡ Some asks → asks.flight.done.callback ≡ ticket.Slice n → value_at n now'.rows ≡ Some row →
            (slice_get seens at ≡ Some seen) ⊎ HasHappened index at (Issue command) seens seen → is_bound way.sides at row ≡ true
        go well at seen cookie n asks row is of held (inl there) = dealt.each well at seen there cookie n asks row is of held
        go well at seen cookie n asks row is of held (inr h) =
            choose well at h.seen h.there cookie n asks row of held h.place ((asked h.seen.history).issued + 1 == cookie) (ap (λ (s : Seen Ticket). request s.history cookie) (sym h.is) ∙ is)

  pub rows_bound : (now' : board.Seen) → (now'.error ≡ None → now.error ≡ None) → (IsRising now.rows → SameBindings now.rows now'.rows) → AreBound way.sides now seens → AreBound way.sides now' seens
  rows_bound now' earlier same bound = bound_moved way.sides now now' seens earlier (λ well. same (rising well)) bound

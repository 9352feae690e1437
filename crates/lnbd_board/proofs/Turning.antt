-- What is answered keeps the invariant, and what is asked beside the slices.
use Rattle.std.proofs.Common.{◌≡◌, ℕ, ◌<◌, List, [], ◌∷◌, Bool, true, false, cond, refl, ap, sym, subst, ◌∙◌, arith, length, Option, Some, None, inl, inr, ◌==◌}
use Rattle.std.proofs.lemmas.Bool.{cases_lt}
use Rattle.lnbd_keyed.specs.Keyed.{value_at, with_value}
use Rattle.lnbd_model.specs.declared.export.Extent.{Extent}
use Rattle.lnbd_callbacks.specs.Calls.{Call, Chunk, Extents, Complete, Free}
use Rattle.lnbd_callbacks.specs.Steps.{OneByOne}
use Rattle.lnbd_plan.specs.declared.grid.Slice.{Slice}
use Rattle.lnbd_board.specs.declared.how.How.{How}
use Rattle.lnbd_board.specs.declared.row.Row.{Row}
use Rattle.lnbd_board.specs.declared.row.Stage.{Stage}
use Rattle.lnbd_board.specs.declared.row.Stage.TheVariants.{Reading, Last, Came, Writing, Holding, Finished}
use Rattle.lnbd_board.specs.declared.ticket.Ticket.{Ticket}
use Rattle.lnbd_board.specs.declared.ticket.Ticket.TheVariants as ticket
use Rattle.lnbd_board.specs.Requests.{Said, Request, own, unanswered, said_unanswered, is_slice, Answers, Each, asking}
use Rattle.lnbd_board.specs.Files.{Seen, Files, Hears, received, rows_with, came_with, filed, filed_done, or_error, content_first, is_map, is_unfit}
use Rattle.lnbd_board.specs.Rows.{is_busy, IsOver, StandsAt, StandsAs, Stands, slice_at, AsksOfSource, AsksOfDestination}
use Rattle.lnbd_board.specs.Asks.{Keeps}
use Rattle.lnbd_board.specs.Turns.{IsAnswered, Tells, CallsAreKept, NothingStands, ExtentsAreKept, FlushIsKept}
use Rattle.lnbd_board.proofs.Lists.{eq_true, answers_wait, Each-append, each_answers, own_answers_none, own_asking_none, unanswered_answers_none, unanswered_asking_none}
use Rattle.lnbd_board.proofs.Spelling.{wrote_idle}
use Rattle.lnbd_board.proofs.Steps.{row_stands, known_idle, own_source, own_destination, read_came, last_came, write_came}

-- What waits for a slice, by its row.

over_read : (how : How) (s : Slice) (read changed : List Said) → IsOver how s read changed → said_unanswered read ≡ 0
over_read how s read changed h = known_idle s.zero s h.bytes read h.known.by

over_changed : (how : How) (s : Slice) (read changed : List Said) → IsOver how s read changed → said_unanswered changed ≡ 0
over_changed how s read changed h = rw h.asked (wrote_idle how s.start h.did)

begun_source : (how : How) (slices : List Slice) (n : ℕ) (rows : List (ℕ × Row)) (source destination : List Request) → Stands how slices rows source destination → 0 < said_unanswered (own n source) → n < length slices
begun_source how slices n rows source destination stands w = elim (cases_lt n (length slices)) [ inl l ↦ l | inr l ↦ absurd (let e = own_source slices n source l stands.reads in let z : said_unanswered (own n source) ≡ 0 = rw e refl in omega (arith, w, z)) ]

begun_destination : (how : How) (slices : List Slice) (n : ℕ) (rows : List (ℕ × Row)) (source destination : List Request) → Stands how slices rows source destination → 0 < said_unanswered (own n destination) → n < length slices
begun_destination how slices n rows source destination stands w = elim (cases_lt n (length slices)) [ inl l ↦ l | inr l ↦ absurd (let e = own_destination how slices n destination l stands.changes in let z : said_unanswered (own n destination) ≡ 0 = rw e refl in omega (arith, w, z)) ]

-- A read comes to its row.
read_stage : (how : How) (slices : List Slice) (n : ℕ) (row : Row) (buf : List ℕ) (rows : List (ℕ × Row)) (source source2 destination : List Request) → Stands how slices rows source destination → value_at n rows ≡ Some row → Answers (ticket.Slice n) buf source source2 →
    (stage : Stage) → row.stage ≡ stage → Stands how slices (cond (is_busy stage) (with_value n (record row { stage = received stage buf }) rows) rows) source2 destination
read_stage how slices n row buf rows source source2 destination stands held a Reading e = read_came how slices n row buf rows source source2 destination stands held e a
read_stage how slices n row buf rows source source2 destination stands held a Last e = absurd (
    let r = row_stands how slices n row rows source destination stands held in
    let k : StandsAt how (slice_at slices n) Last (own n source) (own n destination) = rw e at r.2 in
    let z = known_idle _ _ _ _ k.known.by in let w = answers_wait n buf source source2 a in omega (arith, w, z))
read_stage how slices n row buf rows source source2 destination stands held a (Came bytes) e = absurd (
    let r = row_stands how slices n row rows source destination stands held in
    let k : StandsAt how (slice_at slices n) (Came bytes) (own n source) (own n destination) = rw e at r.2 in
    let z = known_idle _ _ _ _ k.known.by in let w = answers_wait n buf source source2 a in omega (arith, w, z))
read_stage how slices n row buf rows source source2 destination stands held a (Writing bytes left) e = absurd (
    let r = row_stands how slices n row rows source destination stands held in
    let k : StandsAt how (slice_at slices n) (Writing bytes left) (own n source) (own n destination) = rw e at r.2 in
    let z = known_idle _ _ _ _ k.known.by in let w = answers_wait n buf source source2 a in omega (arith, w, z))
read_stage how slices n row buf rows source source2 destination stands held a (Holding bytes left) e = absurd (
    let r = row_stands how slices n row rows source destination stands held in
    let k : StandsAt how (slice_at slices n) (Holding bytes left) (own n source) (own n destination) = rw e at r.2 in
    let z = known_idle _ _ _ _ k.known.by in let w = answers_wait n buf source source2 a in omega (arith, w, z))
read_stage how slices n row buf rows source source2 destination stands held a (Finished bytes) e = absurd (
    let r = row_stands how slices n row rows source destination stands held in
    let k : StandsAt how (slice_at slices n) (Finished bytes) (own n source) (own n destination) = rw e at r.2 in
    let z = known_idle _ _ _ _ k.known.by in let w = answers_wait n buf source source2 a in omega (arith, w, z))

read_row : (how : How) (slices : List Slice) (n : ℕ) (o : Option Row) (buf : List ℕ) (rows : List (ℕ × Row)) (source source2 destination : List Request) → Stands how slices rows source destination → value_at n rows ≡ o → Answers (ticket.Slice n) buf source source2 →
    Stands how slices (rows_with o n buf rows) source2 destination
read_row how slices n None buf rows source source2 destination stands held a = absurd (
    let w = answers_wait n buf source source2 a in
    let h : StandsAs how (slice_at slices n) (value_at n rows) (own n source) (own n destination) = stands.each n (begun_source how slices n rows source destination stands w) in
    let z = over_read how (slice_at slices n) (own n source) (own n destination) (rw held at h) in
    omega (arith, w, z))
read_row how slices n (Some row) buf rows source source2 destination stands held a = read_stage how slices n row buf rows source source2 destination stands held a row.stage refl

-- A change comes to its row.
change_stage : (how : How) (slices : List Slice) (n : ℕ) (row : Row) (buf : List ℕ) (rows : List (ℕ × Row)) (source destination destination2 : List Request) → Stands how slices rows source destination → value_at n rows ≡ Some row → Answers (ticket.Slice n) buf destination destination2 →
    (stage : Stage) → row.stage ≡ stage → Stands how slices (cond (is_busy stage) (with_value n (record row { stage = received stage buf }) rows) rows) source destination2
change_stage how slices n row buf rows source destination destination2 stands held a Reading e = absurd (
    let r = row_stands how slices n row rows source destination stands held in
    let k : StandsAt how (slice_at slices n) Reading (own n source) (own n destination) = rw e at r.2 in
    let z : said_unanswered (own n destination) ≡ 0 = rw k.unchanged refl in let w = answers_wait n buf destination destination2 a in omega (arith, w, z))
change_stage how slices n row buf rows source destination destination2 stands held a Last e = last_came how slices n row buf rows source destination destination2 stands held e a
change_stage how slices n row buf rows source destination destination2 stands held a (Came bytes) e = absurd (
    let r = row_stands how slices n row rows source destination stands held in
    let k : StandsAt how (slice_at slices n) (Came bytes) (own n source) (own n destination) = rw e at r.2 in
    let z : said_unanswered (own n destination) ≡ 0 = rw k.unchanged refl in let w = answers_wait n buf destination destination2 a in omega (arith, w, z))
change_stage how slices n row buf rows source destination destination2 stands held a (Writing bytes left) e = write_came how slices n row buf bytes left rows source destination destination2 stands held e a
change_stage how slices n row buf rows source destination destination2 stands held a (Holding bytes left) e = absurd (
    let r = row_stands how slices n row rows source destination stands held in
    let k : StandsAt how (slice_at slices n) (Holding bytes left) (own n source) (own n destination) = rw e at r.2 in
    let z : said_unanswered (own n destination) ≡ 0 = rw k.asked (wrote_idle how _ k.did) in let w = answers_wait n buf destination destination2 a in omega (arith, w, z))
change_stage how slices n row buf rows source destination destination2 stands held a (Finished bytes) e = absurd (
    let r = row_stands how slices n row rows source destination stands held in
    let k : StandsAt how (slice_at slices n) (Finished bytes) (own n source) (own n destination) = rw e at r.2 in
    let z : said_unanswered (own n destination) ≡ 0 = rw k.asked (wrote_idle how _ k.did) in let w = answers_wait n buf destination destination2 a in omega (arith, w, z))

change_row : (how : How) (slices : List Slice) (n : ℕ) (o : Option Row) (buf : List ℕ) (rows : List (ℕ × Row)) (source destination destination2 : List Request) → Stands how slices rows source destination → value_at n rows ≡ o → Answers (ticket.Slice n) buf destination destination2 →
    Stands how slices (rows_with o n buf rows) source destination2
change_row how slices n None buf rows source destination destination2 stands held a = absurd (
    let w = answers_wait n buf destination destination2 a in
    let h : StandsAs how (slice_at slices n) (value_at n rows) (own n source) (own n destination) = stands.each n (begun_destination how slices n rows source destination stands w) in
    let z = over_changed how (slice_at slices n) (own n source) (own n destination) (rw held at h) in
    omega (arith, w, z))
change_row how slices n (Some row) buf rows source destination destination2 stands held a = change_stage how slices n row buf rows source destination destination2 stands held a row.stage refl

-- A request of a slice is answered.
answered : (how : How) (n : ℕ) (buf : List ℕ) (rows : List (ℕ × Row)) (source destination source2 destination2 : List Request) → IsAnswered (ticket.Slice n) buf source destination source2 destination2 →
    Keeps how rows source destination (rows_with (value_at n rows) n buf rows) source2 destination2
answered how n buf rows source destination source2 destination2 (inl h) = record { on = λ slices stands. rw h.1 (read_row how slices n (value_at n rows) buf rows source source2 destination stands refl h.0) }
answered how n buf rows source destination source2 destination2 (inr h) = record { on = λ slices stands. rw h.0 (change_row how slices n (value_at n rows) buf rows source destination destination2 stands refl h.1) }

-- Requests of no slice don't count in the invariant, whatever is asked and answered of them.
beside : (how : How) (slices : List Slice) (rows : List (ℕ × Row)) (source destination source2 destination2 : List Request) →
    ((n : ℕ) → own n source2 ≡ own n source) → ((n : ℕ) → own n destination2 ≡ own n destination) → unanswered source2 ≡ unanswered source → unanswered destination2 ≡ unanswered destination →
    Each (λ r. AsksOfSource slices r.ticket r.said.command) source2 → Each (λ r. AsksOfDestination how slices r.ticket r.said.command) destination2 →
    Stands how slices rows source destination → Stands how slices rows source2 destination2
beside how slices rows source destination source2 destination2 f g u v reads changes stands = record {
  each = λ i l. rw (f i, g i) (stands.each i l);
  reads = reads;
  changes = changes;
  rising = stands.rising;
  below = stands.below;
  counted = rw (u, v) stands.counted;
}

other_answered : (how : How) (by : Ticket) (buf : List ℕ) (rows : List (ℕ × Row)) (source destination source2 destination2 : List Request) → is_slice by ≡ false → IsAnswered by buf source destination source2 destination2 →
    Keeps how rows source destination rows source2 destination2
other_answered how by buf rows source destination source2 destination2 none (inl h) = record {
  on = λ slices stands. rw h.1 (beside how slices rows source destination source2 destination
      (λ n. own_answers_none n by buf source source2 none h.0) (λ n. refl) (unanswered_answers_none by buf source source2 none h.0) refl
      (each_answers (AsksOfSource slices) by buf source source2 h.0 stands.reads) stands.changes stands);
}
other_answered how by buf rows source destination source2 destination2 none (inr h) = record {
  on = λ slices stands. rw h.0 (beside how slices rows source destination source destination2
      (λ n. refl) (λ n. own_answers_none n by buf destination destination2 none h.1) refl (unanswered_answers_none by buf destination destination2 none h.1)
      stands.reads (each_answers (AsksOfDestination how slices) by buf destination destination2 h.1 stands.changes) stands);
}

-- One call keeps the invariant, where no error is told.

same_keeps : (how : How) (rows : List (ℕ × Row)) (source destination source2 destination2 : List Request) → source2 ≡ source → destination2 ≡ destination → Keeps how rows source destination rows source2 destination2
same_keeps how rows source destination source2 destination2 e f = record { on = λ slices stands. rw (e, f) stands }

or_error_some : (o : Option ℕ) (error : ℕ) → or_error o error ≡ None → ⊥
or_error_some None error h = absurd (cc)
or_error_some (Some first) error h = absurd (cc)

content_first_some : (o : Option ℕ) (error : ℕ) → content_first o error ≡ None → ⊥
content_first_some None error h = absurd (cc)
content_first_some (Some first) error h = go (error == 71) h
  where
    go : (b : Bool) → cond b (Some error) (Some first) ≡ None → ⊥
    go true h = absurd (cc)
    go false h = absurd (cc)

-- a board after a read that doesn't fit, and after any other completion of a slice
abbrev unfit : ℕ → List ℕ → Seen → Seen
unfit n buf board = record board { error = or_error board.error 71 }

abbrev fit : ℕ → List ℕ → Seen → Seen
fit n buf board = record board { rows = rows_with (value_at n board.rows) n buf board.rows; came = came_with (value_at n board.rows) n board.came }

filed_keeps : (how : How) (by : Ticket) (buf : List ℕ) (board : Seen) (source destination source2 destination2 : List Request) → (filed_done by buf board).error ≡ None → IsAnswered by buf source destination source2 destination2 →
    Keeps how board.rows source destination (filed_done by buf board).rows source2 destination2
filed_keeps how (ticket.Slice n) buf board source destination source2 destination2 e h =
    elim (is_unfit (value_at n board.rows) buf) as (λ b. (cond b (unfit n buf board) (fit n buf board)).error ≡ None → Keeps how board.rows source destination (cond b (unfit n buf board) (fit n buf board)).rows source2 destination2) [
      | true ↦ λ e. absurd (or_error_some board.error 71 e)
      | false ↦ λ e. answered how n buf board.rows source destination source2 destination2 h
    ] e
filed_keeps how ticket.Extents buf board source destination source2 destination2 e h = other_answered how ticket.Extents buf board.rows source destination source2 destination2 refl h
filed_keeps how ticket.Flush buf board source destination source2 destination2 e h = other_answered how ticket.Flush buf board.rows source destination source2 destination2 refl h

heard_rows : (is : Bool) (entries : List Extent) (board board2 : Seen) → Hears is entries board board2 → board2.rows ≡ board.rows
heard_rows true entries board board2 (inl h) = ap (λ (b : Seen). b.rows) h.1
heard_rows true entries board board2 (inr h) = ap (λ (b : Seen). b.rows) h
heard_rows false entries board board2 h = ap (λ (b : Seen). b.rows) h

-- An error that was told stays.

heard_error : (is : Bool) (entries : List Extent) (board board2 : Seen) → Hears is entries board board2 → board2.error ≡ board.error
heard_error true entries board board2 (inl h) = ap (λ (b : Seen). b.error) h.1
heard_error true entries board board2 (inr h) = ap (λ (b : Seen). b.error) h
heard_error false entries board board2 h = ap (λ (b : Seen). b.error) h

done_none : (by : Ticket) (buf : List ℕ) (board : Seen) → (filed_done by buf board).error ≡ None → board.error ≡ None
done_none (ticket.Slice n) buf board e =
    elim (is_unfit (value_at n board.rows) buf) as (λ b. (cond b (unfit n buf board) (fit n buf board)).error ≡ None → board.error ≡ None) [
      | true ↦ λ e. absurd (or_error_some board.error 71 e)
      | false ↦ λ e. e
    ] e
done_none ticket.Extents buf board e = e
done_none ticket.Flush buf board e = e

-- where a completion leaves no error, it told none, and there was none before
pub record ToldNone (board : Seen) (error : ℕ) : Type 0 where
  pub none : error ≡ 0
  pub before : board.error ≡ None

filed_none : (by : Ticket) (error : ℕ) (buf : List ℕ) (board : Seen) → (filed by error buf board).error ≡ None → ToldNone board error
filed_none by error buf board h =
    elim (error == 0) as (λ b. (error == 0) ≡ b → (cond b (filed_done by buf board) (record board { error = content_first board.error error })).error ≡ None → ToldNone board error) [
      | true ↦ λ e k. record { none = eq_true 0 error e; before = done_none by buf board k }
      | false ↦ λ e k. absurd (content_first_some board.error error k)
    ] refl h

call_error : (call : Call Ticket) (board board2 : Seen) → Files board call board2 → board2.error ≡ None → board.error ≡ None
call_error (Chunk by bytes offset status error heard) board board2 h e = sym (ap (λ (b : Seen). b.error) h.1) ∙ e
call_error (Extents by context offset entries error heard) board board2 h e = sym (heard_error (is_map by context) entries board board2 h.1) ∙ e
call_error (Complete by error buf verdict) board board2 h e = (filed_none by error buf board (sym (ap (λ (b : Seen). b.error) h.1) ∙ e)).before
call_error (Free by) board board2 h e = sym (ap (λ (b : Seen). b.error) h) ∙ e

calls_error : (calls : List (Call Ticket)) (board board2 : Seen) → OneByOne Files board calls board2 → board2.error ≡ None → board.error ≡ None
calls_error [] board board2 h e = sym (ap (λ (b : Seen). b.error) h) ∙ e
calls_error (call ∷ calls) board board2 h e = call_error call board h.0 h.1.0 (calls_error calls h.0 board2 h.1.1 e)

call_kept : (how : How) (call : Call Ticket) (board board2 : Seen) (source destination source2 destination2 : List Request) → Files board call board2 → board2.error ≡ None →
    Tells call source destination source2 destination2 → Keeps how board.rows source destination board2.rows source2 destination2
call_kept how (Chunk by bytes offset status error heard) board board2 source destination source2 destination2 h e t = rw h.1 (same_keeps how board.rows source destination source2 destination2 t.0 t.1)
call_kept how (Extents by context offset entries error heard) board board2 source destination source2 destination2 h e t =
    rw (heard_rows (is_map by context) entries board board2 h.1) (same_keeps how board.rows source destination source2 destination2 t.0 t.1)
call_kept how (Complete by error buf verdict) board board2 source destination source2 destination2 h e t =
    let left : (filed by error buf board).error ≡ None = sym (ap (λ (b : Seen). b.error) h.1) ∙ e in
    let none : error ≡ 0 = (filed_none by error buf board left).none in
    let is : filed by error buf board ≡ filed_done by buf board = ap (λ (n : ℕ). filed by n buf board) none in
    let k = filed_keeps how by buf board source destination source2 destination2 (sym (ap (λ (b : Seen). b.error) is) ∙ left) (t none) in
    subst (λ (b : Seen). Keeps how board.rows source destination b.rows source2 destination2) (sym (h.1 ∙ is)) k
call_kept how (Free by) board board2 source destination source2 destination2 h e t = rw h (same_keeps how board.rows source destination source2 destination2 t.0 t.1)

keeps_then : (how : How) (r1 r2 r3 : List (ℕ × Row)) (s1 s2 s3 d1 d2 d3 : List Request) → Keeps how r1 s1 d1 r2 s2 d2 → Keeps how r2 s2 d2 r3 s3 d3 → Keeps how r1 s1 d1 r3 s3 d3
keeps_then how r1 r2 r3 s1 s2 s3 d1 d2 d3 f g = record { on = λ slices stands. g.on slices (f.on slices stands) }

pub calls_kept : CallsAreKept
calls_kept how [] board board2 source destination source2 destination2 calls e h = rw calls (same_keeps how board.rows source destination source2 destination2 h.0 h.1)
calls_kept how (call ∷ more) board board2 source destination source2 destination2 calls e h =
    keeps_then how board.rows calls.0.rows board2.rows source h.0 source2 destination h.1.0 destination2
    (call_kept how call board calls.0 source destination h.0 h.1.0 calls.1.0 (calls_error more calls.0 board2 calls.1.1 e) h.1.1.0)
    (calls_kept how more calls.0 board2 h.0 h.1.0 source2 destination2 calls.1.1 e h.1.1.1)

-- What else is asked.

pub nothing_stands : NothingStands
nothing_stands how = record { each = λ i l. absurd (omega (arith, l)); reads = tt; changes = tt; rising = tt; below = tt; counted = refl }

pub extents_kept : ExtentsAreKept
extents_kept how rows source destination link cookie command is plain few = record {
  on = λ slices stands.
      beside how slices rows source destination (asking link cookie ticket.Extents command source) destination
      (λ n. own_asking_none n link cookie ticket.Extents command source refl) (λ n. refl) (unanswered_asking_none link cookie ticket.Extents command source refl) refl
      (Each-append (λ (r : Request). AsksOfSource slices r.ticket r.said.command) source _ stands.reads ((is, plain, few), tt)) stands.changes stands;
}

pub flush_kept : FlushIsKept
flush_kept how rows source destination link cookie command is plain = record {
  on = λ slices stands.
      beside how slices rows source destination source (asking link cookie ticket.Flush command destination)
      (λ n. refl) (λ n. own_asking_none n link cookie ticket.Flush command destination refl) refl (unanswered_asking_none link cookie ticket.Flush command destination refl)
      stands.reads (Each-append (λ (r : Request). AsksOfDestination how slices r.ticket r.said.command) destination _ stands.changes ((is, plain), tt)) stands;
}

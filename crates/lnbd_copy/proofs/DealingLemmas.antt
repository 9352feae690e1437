-- Slices that go on and begin keep a copy on its way.
use Rattle.std.proofs.Common.{◌≡◌, ℕ, ◌+◌, Bool, true, false, List, [], ◌∷◌, ◌++◌, length, Option, Some, None, not, refl, ap, sym, subst, ◌∙◌, arith, Result, Ok, Err, OnOk, option_to_list}
use Rattle.std.proofs.lemmas.Bool.{false≢true}
use Rattle.std.proofs.lemmas.List.{append-nil, append_assoc}
use Rattle.std.proofs.lemmas.Result.{on_ok_weaker}
use Rattle.lnbd_model.specs.Kind.{is_status}
use Rattle.lnbd_handle.specs.Issues.{read_of}
use Rattle.lnbd_history.specs.Events.{Issue}
use Rattle.lnbd_plan.specs.declared.grid.Slice.{Slice}
use Rattle.lnbd_poll.specs.Held.{Held}
use Rattle.lnbd_board.specs.declared.ask.Ask.{Ask}
use Rattle.lnbd_board.specs.declared.ask.Ask.TheVariants as ask
use Rattle.lnbd_board.specs.declared.ask.Change.{Change}
use Rattle.lnbd_board.specs.declared.ask.Change.TheVariants as change
use Rattle.lnbd_board.specs.declared.how.How.{How}
use Rattle.lnbd_board.specs.declared.next.Next.{Next}
use Rattle.lnbd_board.specs.declared.next.Next.TheVariants as next
use Rattle.lnbd_board.specs.declared.row.Row.{Row}
use Rattle.lnbd_board.specs.declared.ticket.Ticket.{Ticket}
use Rattle.lnbd_board.specs.declared.ticket.Ticket.TheVariants as ticket
use Rattle.lnbd_board.specs.Asks as asks
use Rattle.lnbd_board.specs.Board.{AsksOn, EndsRow, IsNext, begun_with, looked_at}
use Rattle.lnbd_board.specs.Files as board
use Rattle.lnbd_tracks.specs.Mapping.{ToldAlike, asks_extents}
use Rattle.lnbd_course.specs.Counted.{CountsFirst, is_flush}
use Rattle.lnbd_course.specs.Laws.{AsksDestination}
use Rattle.lnbd_course.specs.Orders.{command_of}
use Rattle.lnbd_course.specs.Taken.{without_buffer}
use Rattle.lnbd_course.proofs.Orders.{beginning_asks, going_asks, over_asks_nothing}
use Rattle.lnbd_conduct.specs.declared.sides.Sides.{Sides}
use Rattle.lnbd_copy.specs.Asked.{IsAsked}
use Rattle.lnbd_copy.specs.Dealing.{Begins, HasBegun, HasGoneOn, IsAskedFirst, IsAskedOf, IsAskedToRead}
use Rattle.lnbd_copy.specs.Way.{Keeps}
use Rattle.lnbd_conduct.specs.Sides.{connection_of, is_source}
use Rattle.lnbd_copy.specs.Windows as windows
use Rattle.lnbd_copy.proofs.BindingLemmas.{Binds, SameBindings, binds_first, binds_on, same_without}
use Rattle.lnbd_copy.proofs.WayLemmas.{board_keeps, destination_keeps, keeps_none, keeps_then, source_keeps}

-- two facts on success
pub on_ok_both : {X Y A B C : Type 0} (r : Result X Y) → (A → B → C) → OnOk r A → OnOk r B → OnOk r C
on_ok_both (Ok value) f a b = f a b
on_ok_both (Err fault) f a b = tt

-- What was asked on success, of a side.
module _ {X Y : Type 0} (r : Result X Y) (sides : Sides) (index : ℕ) (old new : List (Held Ticket)) where
  pub asked_to_read : (bytes buf : List ℕ) (connection offset n : ℕ) → is_source sides index ≡ true → connection_of sides index ≡ connection → length bytes ≡ length buf → OnOk r (IsAsked index (read_of bytes offset (ticket.Slice n) 0) old new) →
      OnOk r (IsAskedToRead sides connection n offset (length buf) old new)
  asked_to_read bytes buf connection offset n side here count asked =
      let of : IsAsked index (read_of bytes offset (ticket.Slice n) 0) old new → IsAskedToRead sides connection n offset (length buf) old new = λ a. record { bytes = bytes; many = count; asked = record { index = index; side = side; here = here; asked = a } } in
      on_ok_weaker r of asked

-- told no more of extents
alike_of : (old new : board.Seen) → new.told ≡ old.told → new.mapped ≡ old.mapped → new.short ≡ old.short → ToldAlike old new
alike_of old new told mapped short = record { told = told; mapped = mapped; short = short }

-- a change of a slice tells no extents
change_tells_none : (n : ℕ) (one : Change) → asks_extents (Issue (without_buffer (command_of n one))) ≡ false
change_tells_none n (change.Write offset bytes) = refl
change_tells_none n (change.Zero offset size flags) = refl

-- nor does it ask for any
change_asks_none : (n : ℕ) (one : Change) → is_status (without_buffer (command_of n one)).kind ≡ false
change_asks_none n (change.Write offset bytes) = refl
change_asks_none n (change.Zero offset size flags) = refl

-- nor is it a flush
change_flushes_none : (n : ℕ) (one : Change) → is_flush (without_buffer (command_of n one)).kind ≡ false
change_flushes_none n (change.Write offset bytes) = refl
change_flushes_none n (change.Zero offset size flags) = refl

-- its callback is that of the slice
change_of : (n : ℕ) (one : Change) → (without_buffer (command_of n one)).done ≡ ticket.Slice n
change_of n (change.Write offset bytes) = refl
change_of n (change.Zero offset size flags) = refl

no_more : (m n : ℕ) → n ≡ m → n ≡ m + 0
no_more m n e = omega (arith, e)

-- Slices go on.

pub gone_same : (a : board.Seen) → HasGoneOn a a
gone_same a = refl

pub gone_looked : (old new : board.Seen) (rows : List (ℕ × Row)) (came : List ℕ) (w z : ℕ) → new ≡ looked_at old rows came w z → HasGoneOn old new
gone_looked old new rows came w z e = e ∙ ap (λ (s : board.Seen). looked_at old s.rows s.came s.written s.zeroed) (sym e)

pub gone_then : (a b c : board.Seen) → HasGoneOn a b → HasGoneOn b c → HasGoneOn a c
gone_then a b c first second = second ∙ ap (λ (s : board.Seen). looked_at s c.rows c.came c.written c.zeroed) first

module _ (how : How) (sides : Sides) where
  pub on_nothing : (old new : board.Seen) (held : List (Held Ticket)) → new ≡ old → Keeps how sides [] old new held held
  on_nothing old new held e = subst (λ (s : board.Seen). Keeps how sides [] old s held held) (sym e) (keeps_none how sides old held)

  pub on_over : (n source destination : ℕ) (old new : board.Seen) (held : List (Held Ticket)) → EndsRow how n source destination old new → Keeps how sides [] old new held held
  on_over n source destination old new held over =
      board_keeps how sides old new held (ap (λ (s : board.Seen). s.begun) over.now) (ap (λ (s : board.Seen). s.error) over.now)
      (record { read = ap (λ (s : board.Seen). s.read) over.now; written = ap (λ (s : board.Seen). s.written) over.now; zeroed = ap (λ (s : board.Seen). s.zeroed) over.now; flushing = ap (λ (s : board.Seen). s.flushing) over.now; flushed = ap (λ (s : board.Seen). s.flushed) over.now }) (alike_of old new (ap (λ (s : board.Seen). s.told) over.now) (ap (λ (s : board.Seen). s.mapped) over.now) (ap (λ (s : board.Seen). s.short) over.now)) (over_asks_nothing how n old new over.goes)
      (λ rising. subst (λ (rows : List (ℕ × Row)). SameBindings old.rows rows) (sym (ap (λ (s : board.Seen). s.rows) over.now)) (same_without n old.rows rising))

  pub on_asks : (n destination : ℕ) (one : Change) (old new : board.Seen) (held held' : List (Held Ticket)) → AsksOn how n destination one old new → IsAskedOf sides false destination (command_of n one) held held' → Keeps how sides [] old new held held'
  on_asks n destination one old new held held' goes asked =
      destination_keeps how sides [] (command_of n one) old new held held' (no_more old.begun new.begun (ap (λ (s : board.Seen). s.begun) goes.now)) (change_tells_none n one) (change_asks_none n one) (alike_of old new (ap (λ (s : board.Seen). s.told) goes.now) (ap (λ (s : board.Seen). s.mapped) goes.now) (ap (λ (s : board.Seen). s.short) goes.now))
      (λ slices count. subst (λ (more : List Slice). AsksDestination how (without_buffer (command_of n one)) slices more old new) (sym (append-nil slices))
      (going_asks how n one slices old new (λ none. sym (ap (λ (s : board.Seen). s.error) goes.now) ∙ none)
      (record { read = ap (λ (s : board.Seen). s.read) goes.now; written = ap (λ (s : board.Seen). s.written) goes.now; zeroed = ap (λ (s : board.Seen). s.zeroed) goes.now; flushing = ap (λ (s : board.Seen). s.flushing) goes.now; flushed = ap (λ (s : board.Seen). s.flushed) goes.now }) goes.goes))
      destination
      (subst (λ (c : ℕ). Binds false c (without_buffer (command_of n one)).done old new) (sym goes.writes)
      (subst (λ (t : Ticket). Binds false goes.row.destination t old new) (sym (change_of n one)) (binds_on n goes.row goes.stage old new goes.held (ap (λ (s : board.Seen). s.rows) goes.now))))
      asked (λ flushes. absurd (false≢true (sym (change_flushes_none n one) ∙ flushes)))

  pub first_keeps : (slice : Slice) (row : Row) (one : Ask) (old new : board.Seen) (held held' : List (Held Ticket)) → new.begun ≡ old.begun + 1 → new.error ≡ old.error → CountsFirst one old new → ToldAlike old new →
      asks.Begins how slice old.begun one old.rows new.rows → new.rows ≡ old.rows ++ (old.begun, row) ∷ [] → IsAskedFirst sides row.source row.destination old.begun one held held' → Keeps how sides (slice ∷ []) old new held held'
  first_keeps slice row (ask.Read offset buf) old new held held' begun error counts alike begins rows asked =
      source_keeps how sides (slice ∷ []) (read_of asked.bytes offset (ticket.Slice old.begun) 0) old new held held' begun refl refl alike
      (λ slices count. beginning_asks how slice old.begun (ask.Read offset buf) slices old new count (λ none. sym error ∙ none) counts begins asked.bytes asked.many) row.source (binds_first true row old new rows) asked.asked (λ flushes. absurd (false≢true flushes))
  first_keeps slice row (ask.Change one) old new held held' begun error counts alike begins rows asked =
      destination_keeps how sides (slice ∷ []) (command_of old.begun one) old new held held' begun (change_tells_none old.begun one) (change_asks_none old.begun one) alike
      (λ slices count. beginning_asks how slice old.begun (ask.Change one) slices old new count (λ none. sym error ∙ none) counts begins)
      row.destination (subst (λ (t : Ticket). Binds false row.destination t old new) (sym (change_of old.begun one)) (binds_first false row old new rows)) asked (λ flushes. absurd (false≢true (sym (change_flushes_none old.begun one) ∙ flushes)))

-- the same with what the calls answered
pub asks_keeps : (how : How) (sides sides' : Sides) (n destination : ℕ) (one : Change) (told : Next) (old mid new : board.Seen) (held held' : List (Held Ticket)) → sides' ≡ sides → told ≡ next.Asks n destination one →
    IsNext how told old mid → new ≡ mid → IsAskedOf sides' false destination (command_of n one) held held' → Keeps how sides [] old new held held'
asks_keeps how sides sides' n destination one told old mid new held held' both is goes same asked =
    let goes' : AsksOn how n destination one old mid = subst (λ (x : Next). IsNext how x old mid) is goes in
    let asked' : IsAskedOf sides false destination (command_of n one) held held' = subst (λ (x : Sides). IsAskedOf x false destination (command_of n one) held held') both asked in
    subst (λ (s : board.Seen). Keeps how sides [] old s held held') (sym same) (on_asks how sides n destination one old mid held held' goes' asked')

pub over_keeps : (how : How) (sides : Sides) (n source destination : ℕ) (told : Next) (old new : board.Seen) (held : List (Held Ticket)) → told ≡ next.Over n source destination → IsNext how told old new → Keeps how sides [] old new held held
over_keeps how sides n source destination told old new held is ends =
    let ends' : EndsRow how n source destination old new = subst (λ (x : Next). IsNext how x old new) is ends in
    on_over how sides n source destination old new held ends'

pub begun_keeps : (how : How) (sides sides' : Sides) (slice : Slice) (n : ℕ) (row : Row) (one : Ask) (old mid new : board.Seen) (held held' : List (Held Ticket)) → sides' ≡ sides → n ≡ old.begun →
    mid ≡ begun_with old row one → asks.Begins how slice old.begun one old.rows mid.rows → new ≡ mid → IsAskedFirst sides' row.source row.destination n one held held' → Keeps how sides (slice ∷ []) old new held held'
begun_keeps how sides sides' slice n row one old mid new held held' both number is begins same asked =
    let asked' : IsAskedFirst sides row.source row.destination old.begun one held held' = subst (λ (m : ℕ). IsAskedFirst sides row.source row.destination m one held held') number (subst (λ (x : Sides). IsAskedFirst x row.source row.destination n one held held') both asked) in
    subst (λ (s : board.Seen). Keeps how sides (slice ∷ []) old s held held') (sym same)
    (first_keeps how sides slice row one old mid held held' (ap (λ (s : board.Seen). s.begun) is) (ap (λ (s : board.Seen). s.error) is)
    (record { read = ap (λ (s : board.Seen). s.read) is; written = ap (λ (s : board.Seen). s.written) is; zeroed = ap (λ (s : board.Seen). s.zeroed) is; flushing = ap (λ (s : board.Seen). s.flushing) is; flushed = ap (λ (s : board.Seen). s.flushed) is }) (alike_of old mid (ap (λ (s : board.Seen). s.told) is) (ap (λ (s : board.Seen). s.mapped) is) (ap (λ (s : board.Seen). s.short) is)) begins (ap (λ (s : board.Seen). s.rows) is) asked')

-- one after another, as the board says how and the bindings how many
pub keeps_on : (sides sides' : Sides) (a b c : board.Seen) (i j k : List (Held Ticket)) → sides' ≡ sides → HasGoneOn a b → Keeps a.how sides [] a b i j → Keeps b.how sides' [] b c j k → Keeps a.how sides [] a c i k
keeps_on sides sides' a b c i j k same gone first second =
    keeps_then a.how sides [] [] a b c i j k first (subst (λ (s : Sides). Keeps a.how s [] b c j k) same (subst (λ (w : How). Keeps w sides' [] b c j k) (ap (λ (s : board.Seen). s.how) gone) second))

-- Slices begin.

-- the board as it was, with the slices of another one
abbrev with_begun : (old new : board.Seen) → board.Seen
with_begun old new = record old { begun = new.begun; rows = new.rows; read = new.read; written = new.written; zeroed = new.zeroed }

pub begun_row : (old new : board.Seen) (row : Row) (one : Ask) → new ≡ begun_with old row one → HasBegun old new
begun_row old new row one e = e ∙ ap (with_begun old) (sym e)

begun_then : (a b c : board.Seen) → HasBegun a b → HasBegun b c → HasBegun a c
begun_then a b c first second = second ∙ ap (λ (s : board.Seen). with_begun s c) first

-- the plan, with other slices to come
abbrev with_left : windows.Seen → List Slice → windows.Seen
with_left plan slices = record plan { plan = record plan.plan { slices = slices } }

pub left_then : (p q r : windows.Seen) → q ≡ with_left p q.plan.slices → r ≡ with_left q r.plan.slices → r ≡ with_left p r.plan.slices
left_then p q r first second = second ∙ ap (λ (s : windows.Seen). with_left s r.plan.slices) first

-- a slice was taken off the plan, or none was left
pub taken_some : (told : Option Slice) (slice : Slice) (old new : List Slice) → told ≡ Some slice → old ≡ option_to_list told ++ new → old ≡ slice ∷ new
taken_some told slice old new is taken = taken ∙ ap (λ (o : Option Slice). option_to_list o ++ new) is

pub taken_none : (told : Option Slice) (old new : List Slice) → told ≡ None → old ≡ option_to_list told ++ new → old ≡ new
taken_none told old new is taken = taken ∙ ap (λ (o : Option Slice). option_to_list o ++ new) is

-- zeros are planned only where they are copied
pub copied_where : (zeros skip : Bool) → zeros ≡ not skip → zeros ≡ true → skip ≡ false
copied_where zeros true e z = absurd (false≢true (sym e ∙ z))
copied_where zeros false e z = refl

module _ (how : How) (sides : Sides) where
  pub begins_none : (plan plan' : windows.Seen) (now : board.Seen) (held : List (Held Ticket)) → plan.plan.slices ≡ plan'.plan.slices → plan' ≡ with_left plan plan'.plan.slices → Begins how sides plan plan' now now held held
  begins_none plan plan' now held handed others = record { more = []; handed = handed; others = others; begun = refl; keeps = keeps_none how sides now held }

  pub begins_one : (slice : Slice) (plan plan' : windows.Seen) (now now' : board.Seen) (held held' : List (Held Ticket)) → plan.plan.slices ≡ slice ∷ plan'.plan.slices → plan' ≡ with_left plan plan'.plan.slices →
      HasBegun now now' → Keeps how sides (slice ∷ []) now now' held held' → Begins how sides plan plan' now now' held held'
  begins_one slice plan plan' now now' held held' handed others begun keeps = record { more = slice ∷ []; handed = handed; others = others; begun = begun; keeps = keeps }

  -- Zeros are still left out where they were.
  pub zeros_stay : (p q : windows.Seen) (a b : board.Seen) (i j : List (Held Ticket)) → p.plan.cells.zeros ≡ not a.how.skip → Begins how sides p q a b i j → q.plan.cells.zeros ≡ not b.how.skip
  zeros_stay p q a b i j zeros begins = ap (λ (s : windows.Seen). s.plan.cells.zeros) begins.others ∙ zeros ∙ sym (ap (λ (s : board.Seen). not s.how.skip) begins.begun)

-- one after another
pub begins_on : (sides sides' : Sides) (p q r : windows.Seen) (a b c : board.Seen) (i j k : List (Held Ticket)) → sides' ≡ sides → Begins a.how sides p q a b i j → Begins b.how sides' q r b c j k → Begins a.how sides p r a c i k
begins_on sides sides' p q r a b c i j k same first second = record {
  more = first.more ++ second.more;
  handed = first.handed ∙ ap (λ (s : List Slice). first.more ++ s) second.handed ∙ sym (append_assoc first.more second.more r.plan.slices);
  others = left_then p q r first.others second.others;
  begun = begun_then a b c first.begun second.begun;
  keeps = keeps_then a.how sides first.more second.more a b c i j k first.keeps
      (subst (λ (s : Sides). Keeps a.how s second.more b c j k) same (subst (λ (w : How). Keeps w sides' second.more b c j k) (ap (λ (s : board.Seen). s.how) first.begun) second.keeps));
}

-- Slices of a copy from a file begin and go on, one step after another.
use Rattle.std.proofs.Common.{◌≡◌, ℕ, ◌+◌, Bool, true, false, List, [], ◌∷◌, ◌++◌, length, length-append, not}
use Rattle.std.proofs.Common.{Option, Some, None, if◌then◌else◌, refl, ap, sym, subst, ◌∙◌, arith, append_assoc, append-nil, option_to_list}
use Rattle.lnbd_keyed.specs.Keyed.{value_at}
use Rattle.lnbd_link.specs.Call as wire
use Rattle.lnbd_history.specs.Events.{Issue}
use Rattle.lnbd_plan.specs.declared.grid.Slice.{Slice}
use Rattle.lnbd_poll.specs.Held.{Held}
use Rattle.lnbd_board.specs.declared.ask.Ask.TheVariants as ask
use Rattle.lnbd_board.specs.declared.ask.Change.{Change}
use Rattle.lnbd_board.specs.declared.ask.Change.TheVariants as change
use Rattle.lnbd_board.specs.declared.how.How.{How}
use Rattle.lnbd_board.specs.declared.next.Next.{Next}
use Rattle.lnbd_board.specs.declared.next.Next.TheVariants as next
use Rattle.lnbd_board.specs.declared.row.Row.{Row}
use Rattle.lnbd_board.specs.declared.ticket.Ticket.{Ticket}
use Rattle.lnbd_board.specs.declared.ticket.Ticket.TheVariants as ticket
use Rattle.lnbd_board.specs.Asks.{Keeps}
use Rattle.lnbd_board.specs.Board.{AsksOn, EndsRow, IsNext, first_row}
use Rattle.lnbd_board.specs.Files as board
use Rattle.lnbd_board.specs.Files.{came_with, is_unfit, or_error, rows_with}
use Rattle.lnbd_board.specs.Requests.{Each, Request}
use Rattle.lnbd_onesided.specs.Desk.{Completes}
use Rattle.lnbd_onesided.specs.Honest.{IsRead}
use Rattle.lnbd_tracks.specs.Mapping.{ToldAlike, asks_extents}
use Rattle.lnbd_course.specs.Far.{FromFile}
use Rattle.lnbd_course.specs.FarCourse.{FarCourse}
use Rattle.lnbd_course.specs.Laws.{AsksDestination}
use Rattle.lnbd_course.specs.Orders.{command_of}
use Rattle.lnbd_course.specs.Taken.{without_buffer}
use Rattle.lnbd_course.proofs.FarKeeping as keeping
use Rattle.lnbd_course.proofs.FarStanding.{completed_earlier}
use Rattle.lnbd_course.proofs.Orders.{beginning_asks, going_asks}
use Rattle.lnbd_copy.specs.Asked.{IsAsked}
use Rattle.lnbd_copy.specs.Way.{Stand}
use Rattle.lnbd_copy.specs.Windows as windows
use Rattle.lnbd_copy.proofs.BindingLemmas.{Binds as BindsRow, SameBindings, binds_first, binds_on, same_without}
use Rattle.lnbd_copy.proofs.TurnLemmas.{asked_stand}
use Rattle.lnbd_copy.proofs.DealingLemmas.{left_then, taken_none, taken_some}
use Rattle.lnbd_store.specs.Shelf.{Shelf}
use Rattle.lnbd_touched.specs.Parts.{IsShort}
use Rattle.lnbd_touched.specs.Touches.{Touches}
use Rattle.lnbd_touched.proofs.GrownLemmas.{rose_none, rose_then}
use Rattle.lnbd_touched.proofs.TouchLemmas.{touches_none, touches_then}
use Rattle.lnbd_connections.specs.Way.{IsUnderWay, Way, with_slices}
use Rattle.lnbd_connections.specs.Bound.{IsBound}
use Rattle.lnbd_connections.proofs.BoundLemmas.{on_dealt}
use Rattle.lnbd_connections.proofs.BoundWay.{bound_asked, bound_moved}
use Rattle.lnbd_connections.proofs.WayLemmas.{way_asked, way_moved}
use Rattle.lnbd_copyfile.specs.Loading.{BeginsSlice, HasAsked, HasLoaded, Loads, ToldMore, Was_asked, Was_read}
use Rattle.lnbd_copyfile.specs.Sending.{BeginsOne, PassesOn, Sends}
use Rattle.lnbd_copyfile.proofs.BoundRows.{binds_made}
use Rattle.lnbd_copyfile.proofs.FarLemmas.{change_counts, first_counts, loaded_with, loading_reads, loading_stands, row_alike, row_counts}

-- What a file told.

pub told_none : (read : List Request) (file : List ℕ) → ToldMore read read file file
told_none read file = record { same = refl; on = λ each. each }

pub told_same : (read : List Request) (old new : List ℕ) → new ≡ old → ToldMore read read old new
told_same read old new same = record { same = same; on = λ each. subst (λ (file : List ℕ). Each (IsRead file) read) (sym same) each }

pub told_then : (read read2 read3 : List Request) (x y z : List ℕ) → ToldMore read read2 x y → ToldMore read2 read3 y z → ToldMore read read3 x z
told_then read read2 read3 x y z one two = record { same = two.same ∙ one.same; on = λ each. two.on (one.on each) }

-- One step after another.

-- with no slices more
no_more : (far : List Request) (way : Way) (now : board.Seen) (calls : List wire.Call) (held : List (Held Ticket)) → IsUnderWay (FromFile far) way now calls held →
    IsUnderWay (FromFile far) (with_slices [] way) now calls held
no_more far way now calls held on = subst (λ (slices : List Slice). IsUnderWay (FromFile far) (record way { slices = slices }) now calls held) (sym (append-nil way.slices)) on

no_more_bound : (far : List Request) (way : Way) (now : board.Seen) (calls : List wire.Call) (held : List (Held Ticket)) → IsBound false (FromFile far) way now calls held →
    IsBound false (FromFile far) (with_slices [] way) now calls held
no_more_bound far way now calls held on = subst (λ (slices : List Slice). IsBound false (FromFile far) (record way { slices = slices }) now calls held) (sym (append-nil way.slices)) on

pub passes_none : (now : board.Seen) (held : List (Held Ticket)) → PassesOn now now held held
passes_none now held = record {
  on = λ file planned shelf given. record {
    more = [];
    handed = refl;
    others = refl;
    how = refl;
    flushing = refl;
    stand = λ s. s;
    on = λ read. record {
      read' = read;
      on = λ way calls h on. no_more read way now calls held on;
      bound = λ way calls h on. no_more_bound read way now calls held on;
      touched = touches_none file (ToldMore read read) shelf (told_none read);
      count = 0;
      bytes = omega arith;
      gave = rose_none given;
    };
  };
}

pub sends_then : (file : ℕ) (p q r : windows.Seen) (now now2 now3 : board.Seen) (held held2 held3 : List (Held Ticket)) (a b c : Option Shelf) (given given2 given3 : ℕ) →
    Sends file p q now now2 held held2 a b given given2 → Sends file q r now2 now3 held2 held3 b c given2 given3 → Sends file p r now now3 held held3 a c given given3
sends_then file p q r now now2 now3 held held2 held3 a b c given given2 given3 first second = record {
  more = first.more ++ second.more;
  handed = first.handed ∙ ap (λ (s : List Slice). first.more ++ s) second.handed ∙ sym (append_assoc first.more second.more r.plan.slices);
  others = left_then p q r first.others second.others;
  how = second.how ∙ first.how;
  flushing = second.flushing ∙ first.flushing;
  stand = λ s. second.stand (first.stand s);
  on = λ read.
      let one = first.on read in
      let two = second.on one.read' in
      record {
        read' = two.read';
        on = λ way calls h on.
            subst (λ (slices : List Slice). IsUnderWay (FromFile two.read') (record way { slices = slices }) now3 calls held3) (append_assoc way.slices first.more second.more)
            (two.on (with_slices first.more way) calls (h ∙ sym first.how) (one.on way calls h on));
        bound = λ way calls h on.
            subst (λ (slices : List Slice). IsBound false (FromFile two.read') (record way { slices = slices }) now3 calls held3) (append_assoc way.slices first.more second.more)
            (two.bound (with_slices first.more way) calls (h ∙ sym first.how) (one.bound way calls h on));
        touched = touches_then file (ToldMore read one.read') (ToldMore one.read' two.read') (ToldMore read two.read') a b c
            (λ x y z f g. told_then read one.read' two.read' x y z f g) one.touched two.touched;
        count = one.count + two.count;
        bytes = (let f = one.bytes in let g = two.bytes in omega (arith, f, g));
        gave = rose_then one.count two.count given given2 given3 one.gave two.gave;
      };
}

pub passes_then : (now now2 now3 : board.Seen) (held held2 held3 : List (Held Ticket)) → PassesOn now now2 held held2 → PassesOn now2 now3 held2 held3 → PassesOn now now3 held held3
passes_then now now2 now3 held held2 held3 first second = record {
  on = λ file planned shelf given. sends_then file planned planned planned now now2 now3 held held2 held3 shelf shelf shelf given given given
      (first.on file planned shelf given) (second.on file planned shelf given);
}

-- Slices go on.

-- a change of a slice tells no extents
change_tells_none : (n : ℕ) (one : Change) → asks_extents (Issue (without_buffer (command_of n one))) ≡ false
change_tells_none n (change.Write offset bytes) = refl
change_tells_none n (change.Zero offset size flags) = refl

-- its callback is that of the slice
change_of_slice : (n : ℕ) (one : Change) → (without_buffer (command_of n one)).done ≡ ticket.Slice n
change_of_slice n (change.Write offset bytes) = refl
change_of_slice n (change.Zero offset size flags) = refl

-- it is on the connection that its slice is bound to
change_bound : {how : How} (n destination : ℕ) (one : Change) (now mid : board.Seen) → AsksOn how n destination one now mid →
    BindsRow false destination (without_buffer (command_of n one)).done now mid
change_bound n destination one now mid asks =
    subst (λ (t : Ticket). BindsRow false destination t now mid) (sym (change_of_slice n one))
    (subst (λ (c : ℕ). BindsRow false c (ticket.Slice n) now mid) (sym asks.writes) (binds_on n asks.row asks.stage now mid asks.held (ap (λ (s : board.Seen). s.rows) asks.now)))

-- a step of the board, after which the copy stays on its way
module _ (now now' : board.Seen) (held held' : List (Held Ticket)) where
  passes_so : now'.how ≡ now.how → now'.flushing ≡ now.flushing → (Stand held → Stand held') →
      ((read : List Request) (way : Way) (calls : List wire.Call) → way.how ≡ now.how → IsUnderWay (FromFile read) way now calls held → IsUnderWay (FromFile read) (with_slices [] way) now'
      calls held') →
      ((read : List Request) (way : Way) (calls : List wire.Call) → way.how ≡ now.how → IsBound false (FromFile read) way now calls held → IsBound false (FromFile read) (with_slices [] way) now'
      calls held') →
      PassesOn now now' held held'
  passes_so how flushing stand on bound = record {
    on = λ file planned shelf given. record {
      more = [];
      handed = refl;
      others = refl;
      how = how;
      flushing = flushing;
      stand = stand;
      on = λ read. record {
        read' = read;
        on = on read;
        bound = bound read;
        touched = touches_none file (ToldMore read read) shelf (told_none read);
        count = 0;
        bytes = omega arith;
        gave = rose_none given;
      };
    };
  }

pub passes_nothing : (told : Next) (now now' : board.Seen) (held : List (Held Ticket)) → told ≡ next.Nothing → IsNext now.how told now now' → PassesOn now now' held held
passes_nothing told now now' held is none =
    let same : (now.came ≡ []) × (now' ≡ now) = subst (λ (x : Next). IsNext now.how x now now') is none in
    subst (λ (s : board.Seen). PassesOn now s held held) (sym same.1) (passes_none now held)

pub passes_over : (told : Next) (n source destination : ℕ) (now now' : board.Seen) (held : List (Held Ticket)) → told ≡ next.Over n source destination → IsNext now.how told now now' →
    PassesOn now now' held held
passes_over told n source destination now now' held is ends =
    let over : EndsRow now.how n source destination now now' = subst (λ (x : Next). IsNext now.how x now now') is ends in
    passes_so now now' held held (ap (λ (s : board.Seen). s.how) over.now) (ap (λ (s : board.Seen). s.flushing) over.now) (λ s. s)
    (λ read way calls h on. no_more read way now' calls held
    (way_moved (FromFile read) way now calls held on now' (ap (λ (s : board.Seen). s.begun) over.now) (λ none. sym (ap (λ (s : board.Seen). s.error) over.now) ∙ none)
    (row_counts now.how n source destination now now' over)
    (λ reads changed. subst (λ (w : How). Keeps w now.rows reads changed now'.rows reads changed) (sym h) (over.goes.on reads changed 0 0)) (row_alike now.how n source destination now now' over)))
    (λ read way calls h on. no_more_bound read way now' calls held
    (bound_moved false (FromFile read) way now calls held on now' (FromFile read) (ap (λ (s : board.Seen). s.begun) over.now) (λ none. sym (ap (λ (s : board.Seen). s.error) over.now) ∙ none)
    (λ rising. subst (λ (rows : List (ℕ × Row)). SameBindings now.rows rows) (sym (ap (λ (s : board.Seen). s.rows) over.now)) (same_without n now.rows rising))
    (keeping.board_moves_keep_far (FromFile read) way.at way.size way.how way.slices now now' calls on.seens way.asked way.known on.stands (λ none. sym (ap (λ (s : board.Seen). s.error) over.now)
    ∙ none)
    (row_counts now.how n source destination now now' over)
    (λ reads changed. subst (λ (w : How). Keeps w now.rows reads changed now'.rows reads changed) (sym h) (over.goes.on reads changed 0 0)) (row_alike now.how n source destination now now' over))))

pub passes_asks : (told : Next) (n destination : ℕ) (one : Change) (now mid now' : board.Seen) (held held' : List (Held Ticket)) → told ≡ next.Asks n destination one → IsNext now.how told now mid →
    now' ≡ mid → IsAsked destination (command_of n one) held held' → PassesOn now now' held held'
passes_asks told n destination one now mid now' held held' is goes same asked =
    let asks : AsksOn now.how n destination one now mid = subst (λ (x : Next). IsNext now.how x now mid) is goes in
    subst (λ (s : board.Seen). PassesOn now s held held') (sym same)
    (passes_so now mid held held' (ap (λ (s : board.Seen). s.how) asks.now) (ap (λ (s : board.Seen). s.flushing) asks.now) (asked_stand destination (command_of n one) held held' asked)
    (λ read way calls h on. way_asked (FromFile read) way now calls held on [] mid held' destination (command_of n one) (asked.on on.seens on.at)
    (subst (λ (more : List Slice). AsksDestination way.how (without_buffer (command_of n one)) way.slices more now mid) (sym (append-nil way.slices))
    (subst (λ (w : How). AsksDestination w (without_buffer (command_of n one)) way.slices way.slices now mid) (sym h)
    (going_asks now.how n one way.slices now mid (λ none. sym (ap (λ (s : board.Seen). s.error) asks.now) ∙ none) (change_counts now.how n destination one now mid asks) asks.goes)))
    (change_tells_none n one)
    (record { told = ap (λ (s : board.Seen). s.told) asks.now; mapped = ap (λ (s : board.Seen). s.mapped) asks.now; short = ap (λ (s : board.Seen). s.short) asks.now })
    (let begun = ap (λ (s : board.Seen). s.begun) asks.now in omega (arith, begun)))
    (λ read way calls h on. bound_asked false (FromFile read) way now calls held on [] mid held' destination (command_of n one) (asked.on on.seens on.at)
    (subst (λ (more : List Slice). AsksDestination way.how (without_buffer (command_of n one)) way.slices more now mid) (sym (append-nil way.slices))
    (subst (λ (w : How). AsksDestination w (without_buffer (command_of n one)) way.slices way.slices now mid) (sym h)
    (going_asks now.how n one way.slices now mid (λ none. sym (ap (λ (s : board.Seen). s.error) asks.now) ∙ none) (change_counts now.how n destination one now mid asks) asks.goes)))
    (change_tells_none n one)
    (record { told = ap (λ (s : board.Seen). s.told) asks.now; mapped = ap (λ (s : board.Seen). s.mapped) asks.now; short = ap (λ (s : board.Seen). s.short) asks.now })
    (let begun = ap (λ (s : board.Seen). s.begun) asks.now in omega (arith, begun)) (λ none. sym (ap (λ (s : board.Seen). s.error) asks.now) ∙ none)
    (change_bound n destination one now mid asks)))

-- Slices begin.

-- what a board is after a completion of a slice: it has an error, or its rows changed
completed : (n : ℕ) (bytes : List ℕ) (before after : board.Seen) → Completes n bytes before after → (P : board.Seen → Type 0) → P (record before { error = or_error before.error 71 }) →
    P (record before { rows = rows_with (value_at n before.rows) n bytes before.rows; came = came_with (value_at n before.rows) n before.came }) → P after
completed n bytes before after c P failed came = subst P (sym (c.1.1 ∙ c.1.0.1)) (go (is_unfit (value_at n before.rows) bytes))
  where
    go : (b : Bool) → P (if b then record before { error = or_error before.error 71 } else record before {
      rows = rows_with (value_at n before.rows) n bytes before.rows;
      came = came_with (value_at n before.rows) n before.came;
    })
    go true = failed
    go false = came

-- what is known of the board where a slice was read
module _ (file : ℕ) (slice : Slice) (destination : ℕ) (read : List Request) (now now' : board.Seen) (a b : Option Shelf) (given given' : ℕ)
    (loaded : HasLoaded file slice 0 destination read now now' a b given given') where
  board_so : (A : Type 0) (field : board.Seen → A) (value : A) → field loaded.next ≡ value → ((s : board.Seen) (error : Option ℕ) → field (record s { error = error }) ≡ field s) →
      ((s : board.Seen) (rows : List (ℕ × Row)) (came : List ℕ) → field (record s { rows = rows; came = came }) ≡ field s) → field now' ≡ value
  board_so A field value is one other = completed now.begun loaded.bytes loaded.next now' loaded.came (λ s. field s ≡ value) (one loaded.next _ ∙ is) (other loaded.next _ _ ∙ is)

  loaded_how : now'.how ≡ now.how
  loaded_how = board_so How (λ s. s.how) now.how (ap (λ (s : board.Seen). s.how) loaded.begun) (λ s error. refl) (λ s rows came. refl)

  loaded_flushing : now'.flushing ≡ now.flushing
  loaded_flushing = board_so Bool (λ s. s.flushing) now.flushing (ap (λ (s : board.Seen). s.flushing) loaded.begun) (λ s error. refl) (λ s rows came. refl)

  loaded_begun : now'.begun ≡ now.begun + 1
  loaded_begun = board_so ℕ (λ s. s.begun) (now.begun + 1) (ap (λ (s : board.Seen). s.begun) loaded.begun) (λ s error. refl) (λ s rows came. refl)

  loaded_on : (way : Way) (calls : List wire.Call) (held : List (Held Ticket)) → way.how ≡ now.how → IsUnderWay (FromFile read) way now calls held →
      IsUnderWay (FromFile (loaded_with file slice 0 destination read now now' a b given given' loaded)) (with_slices (slice ∷ []) way) now' calls held
  loaded_on way calls held h on = record {
    seens = on.seens;
    at = on.at;
    begun = length-append way.slices (slice ∷ []) ∙ ap (λ (n : ℕ). n + 1) on.begun ∙ sym loaded_begun;
    stands =
        subst (λ (w : How). FarCourse (FromFile (loaded_with file slice 0 destination read now now' a b given given' loaded)) way.at way.size w (way.slices ++ slice ∷ []) now' calls on.seens way.asked
        way.known) (sym h)
        (loading_stands file slice 0 destination read now now' a b given given' loaded way.at way.size way.slices calls on.seens way.asked way.known on.begun
        (subst (λ (w : How). FarCourse (FromFile read) way.at way.size w way.slices now calls on.seens way.asked way.known) h on.stands));
  }

  loaded_bound : (way : Way) (calls : List wire.Call) (held : List (Held Ticket)) → way.how ≡ now.how → IsBound false (FromFile read) way now calls held →
      IsBound false (FromFile (loaded_with file slice 0 destination read now now' a b given given' loaded)) (with_slices (slice ∷ []) way) now' calls held
  loaded_bound way calls held h on = record {
    seens = on.seens;
    at = on.at;
    begun = length-append way.slices (slice ∷ []) ∙ ap (λ (n : ℕ). n + 1) on.begun ∙ sym loaded_begun;
    stands =
        subst (λ (w : How). FarCourse (FromFile (loaded_with file slice 0 destination read now now' a b given given' loaded)) way.at way.size w (way.slices ++ slice ∷ []) now' calls on.seens way.asked
        way.known) (sym h)
        (loading_stands file slice 0 destination read now now' a b given given' loaded way.at way.size way.slices calls on.seens way.asked way.known on.begun
        (subst (λ (w : How). FarCourse (FromFile read) way.at way.size w way.slices now calls on.seens way.asked way.known) h on.stands));
    all = on.all;
    bound = on_dealt false (FromFile read) way.at way.size way.how way.slices now calls on.seens way.asked way.known on.stands now' on.begun
        (λ well. sym (ap (λ (s : board.Seen). s.error) loaded.begun) ∙ completed_earlier now.begun loaded.bytes loaded.next now' loaded.came well) on.bound destination ticket.Flush
        (binds_made false slice 0 destination (ask.Read loaded.offset loaded.buf) now loaded.next now' now.begun loaded.bytes (record { begins = loaded.begins; row = loaded.begun }) loaded.came);
  }

-- what is known where the export was asked to change
module _ (slice : Slice) (destination : ℕ) (now now' : board.Seen) (held held' : List (Held Ticket)) (has : HasAsked slice 0 destination now now' held held') where
  asks_first : (way : Way) → way.how ≡ now.how → length way.slices ≡ now.begun →
      AsksDestination way.how (without_buffer (command_of now.begun has.one)) way.slices (way.slices ++ slice ∷ []) now now'
  asks_first way h count = subst (λ (w : How). AsksDestination w (without_buffer (command_of now.begun has.one)) way.slices (way.slices ++ slice ∷ []) now now') (sym h)
      (beginning_asks now.how slice now.begun (ask.Change has.one) way.slices now now' count (λ none. sym (ap (λ (s : board.Seen). s.error) has.begun.row) ∙ none)
      (first_counts slice 0 destination (ask.Change has.one) now now' has.begun) has.begun.begins)

  asked_alike : ToldAlike now now'
  asked_alike = record {
    told = ap (λ (s : board.Seen). s.told) has.begun.row;
    mapped = ap (λ (s : board.Seen). s.mapped) has.begun.row;
    short = ap (λ (s : board.Seen). s.short) has.begun.row;
  }

  one_begun : now'.begun ≡ now.begun + length (slice ∷ [])
  one_begun = let begun = ap (λ (s : board.Seen). s.begun) has.begun.row in omega (arith, begun)

  asked_on : (read : List Request) (way : Way) (calls : List wire.Call) → way.how ≡ now.how → IsUnderWay (FromFile read) way now calls held →
      IsUnderWay (FromFile read) (with_slices (slice ∷ []) way) now' calls held'
  asked_on read way calls h on = way_asked (FromFile read) way now calls held on (slice ∷ []) now' held' destination (command_of now.begun has.one) (has.asked.on on.seens on.at)
      (asks_first way h on.begun) (change_tells_none now.begun has.one) asked_alike one_begun

  asked_bound : (read : List Request) (way : Way) (calls : List wire.Call) → way.how ≡ now.how → IsBound false (FromFile read) way now calls held →
      IsBound false (FromFile read) (with_slices (slice ∷ []) way) now' calls held'
  asked_bound read way calls h on = bound_asked false (FromFile read) way now calls held on (slice ∷ []) now' held' destination (command_of now.begun has.one) (has.asked.on on.seens on.at)
      (asks_first way h on.begun) (change_tells_none now.begun has.one) asked_alike one_begun (λ none. sym (ap (λ (s : board.Seen). s.error) has.begun.row) ∙ none)
      (subst (λ (t : Ticket). BindsRow false destination t now now') (sym (change_of_slice now.begun has.one))
      (binds_first false (first_row slice 0 destination) now now' (ap (λ (s : board.Seen). s.rows) has.begun.row)))

module _ (file : ℕ) (slice : Slice) (told : Option Slice) (p q : windows.Seen) (now now' : board.Seen) (is : told ≡ Some slice)
    (taken : p.plan.slices ≡ option_to_list told ++ q.plan.slices) (others : q ≡ record p { plan = record p.plan { slices = q.plan.slices } }) (destination : ℕ) where
  read_sends : (held : List (Held Ticket)) (a b : Option Shelf) (given given' : ℕ) → Loads file slice 0 destination now now' a b given given' → Sends file p q now now' held held a b given given'
  read_sends held a b given given' loads = record {
    more = slice ∷ [];
    handed = taken_some told slice p.plan.slices q.plan.slices is taken;
    others = others;
    how = loaded_how file slice destination [] now now' a b given given' (loads.on []);
    flushing = loaded_flushing file slice destination [] now now' a b given given' (loads.on []);
    stand = λ s. s;
    on = λ read. let loaded = loads.on read in record {
      read' = loaded_with file slice 0 destination read now now' a b given given' loaded;
      on = λ way calls h on. loaded_on file slice destination read now now' a b given given' loaded way calls held h on;
      bound = λ way calls h on. loaded_bound file slice destination read now now' a b given given' loaded way calls held h on;
      touched = loaded.touched;
      count = length loaded.bytes;
      bytes = loading_reads file slice 0 destination read now now' a b given given' loaded;
      gave = loaded.gave;
    };
  }

  asked_sends : (held held' : List (Held Ticket)) (a : Option Shelf) (given : ℕ) → HasAsked slice 0 destination now now' held held' → Sends file p q now now' held held' a a given given
  asked_sends held held' a given has = record {
    more = slice ∷ [];
    handed = taken_some told slice p.plan.slices q.plan.slices is taken;
    others = others;
    how = ap (λ (s : board.Seen). s.how) has.begun.row;
    flushing = ap (λ (s : board.Seen). s.flushing) has.begun.row;
    stand = asked_stand destination (command_of now.begun has.one) held held' has.asked;
    on = λ read. record {
      read' = read;
      on = λ way calls h on. asked_on slice destination now now' held held' has read way calls h on;
      bound = λ way calls h on. asked_bound slice destination now now' held held' has read way calls h on;
      touched = touches_none file (ToldMore read read) a (told_none read);
      count = 0;
      bytes = omega arith;
      gave = rose_none given;
    };
  }

  slice_sends : (held held' : List (Held Ticket)) (a b : Option Shelf) (given given' : ℕ) → BeginsSlice file slice 0 destination now now' held held' a b given given' →
      Sends file p q now now' held held' a b given given'
  slice_sends held held' a b given given' (Was_read loads same) =
      subst (λ (h : List (Held Ticket)). Sends file p q now now' held h a b given given') (sym same) (read_sends held a b given given' loads)
  slice_sends held held' a b given given' (Was_asked has shelf gave) =
      subst (λ (s : Option Shelf). Sends file p q now now' held held' a s given given') (sym shelf)
      (subst (λ (n : ℕ). Sends file p q now now' held held' a a given n) (sym gave) (asked_sends held held' a given has))

pub one_sends : (file : ℕ) (slice : Slice) (told : Option Slice) (p q : windows.Seen) (now now' : board.Seen) (held held' : List (Held Ticket)) (a b : Option Shelf) (given given' : ℕ) →
    told ≡ Some slice → p.plan.slices ≡ option_to_list told ++ q.plan.slices → q ≡ record p { plan = record p.plan { slices = q.plan.slices } } →
    BeginsOne file slice now now' held held' a b given given' → Sends file p q now now' held held' a b given given'
one_sends file slice told p q now now' held held' a b given given' is taken others one =
    slice_sends file slice told p q now now' is taken others one.destination held held' a b given given' one.begins

-- no slice is left
pub none_sends : (file : ℕ) (told : Option Slice) (p q : windows.Seen) (now : board.Seen) (held : List (Held Ticket)) (a : Option Shelf) (given : ℕ) → told ≡ None →
    p.plan.slices ≡ option_to_list told ++ q.plan.slices → q ≡ record p { plan = record p.plan { slices = q.plan.slices } } → Sends file p q now now held held a a given given
unfolding passes_none
none_sends file told p q now held a given is taken others = let none = (passes_none now held).on file p a given in record {
  more = [];
  handed = taken_none told p.plan.slices q.plan.slices is taken;
  others = others;
  how = refl;
  flushing = refl;
  stand = λ s. s;
  on = none.on;
}

pub sends_none : (file : ℕ) (p : windows.Seen) (now : board.Seen) (held : List (Held Ticket)) (a : Option Shelf) (given : ℕ) → Sends file p p now now held held a a given given
sends_none file p now held a given = (passes_none now held).on file p a given

-- Zeros are still left out where they were.
pub zeros_stay : (file : ℕ) (p q : windows.Seen) (now now' : board.Seen) (held held' : List (Held Ticket)) (a b : Option Shelf) (given given' : ℕ) → p.plan.cells.zeros ≡ not now.how.skip →
    Sends file p q now now' held held' a b given given' → q.plan.cells.zeros ≡ not now'.how.skip
zeros_stay file p q now now' held held' a b given given' zeros sends =
    ap (λ (s : windows.Seen). s.plan.cells.zeros) sends.others ∙ zeros ∙ sym (ap (λ (w : How). not w.skip) sends.how)

-- Slices go on, begin, and go on.
pub passes_sent : (file : ℕ) (p q : windows.Seen) (now now2 now3 now4 : board.Seen) (held held2 held3 held4 : List (Held Ticket)) (a b : Option Shelf) (given given' : ℕ) →
    PassesOn now now2 held held2 → Sends file p q now2 now3 held2 held3 a b given given' → PassesOn now3 now4 held3 held4 → Sends file p q now now4 held held4 a b given given'
passes_sent file p q now now2 now3 now4 held held2 held3 held4 a b given given' first begins last =
    sends_then file p p q now now2 now4 held held2 held4 a a b given given given' (first.on file p a given)
    (sends_then file p q q now2 now3 now4 held2 held3 held4 a b b given given' given' begins (last.on file q b given'))

-- How a copy writes stays.
pub passes_how : (now now' : board.Seen) (held held' : List (Held Ticket)) (planned : windows.Seen) → PassesOn now now' held held' → now'.how ≡ now.how
passes_how now now' held held' planned passes = (passes.on 0 planned None 0).how

-- A read that finds the file shorter than it told, behind others.
pub told_short : (file size : ℕ) (read read' : List Request) (a b c : Option Shelf) → Touches file (ToldMore read read') a b → Touches file (IsShort size) b c → Touches file (IsShort size) a c
told_short file size read read' a b c told short =
    touches_then file (ToldMore read read') (IsShort size) (λ x z. IsShort size x z) a b c
    (λ x y z told ends. record { short = let same = ap (λ (xs : List ℕ). length xs) told.same in let l = ends.short in omega (arith, same, l) }) told short

pub sends_short : (file size : ℕ) (p q : windows.Seen) (now now' : board.Seen) (held held' : List (Held Ticket)) (a b c : Option Shelf) (given given' : ℕ) →
    Sends file p q now now' held held' a b given given' → Touches file (IsShort size) b c → Touches file (IsShort size) a c
sends_short file size p q now now' held held' a b c given given' sends short = let sent = sends.on [] in told_short file size [] sent.read' a b c sent.touched short

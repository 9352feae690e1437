-- In the end what a board counted is a summary of the calls of its copy.
use Rattle.std.proofs.Common.{◌≡◌, ◌++◌, inl, inr, ℕ, ◌+◌, ◌-◌, ◌≤◌, Bool, true, false, ◌&&◌, ◌==◌, List, [], ◌∷◌, cond, length, min, Option, Some, None, refl, ap, sym, subst, ◌∙◌, arith}
use Rattle.std.proofs.lemmas.Bool.{false≢true}
use Rattle.lnbd_model.specs.Kind.{is_read, is_write}
use Rattle.lnbd_model.specs.declared.kind.Kind.{Kind}
use Rattle.lnbd_model.specs.declared.kind.Kind.TheVariants.{Flush, Write, Zero, Read, Trim, Cache, BlockStatus}
use Rattle.lnbd_outcome.specs.Outcome.{Outcome}
use Rattle.lnbd_history.specs.Commands.{Command}
use Rattle.lnbd_history.specs.Commands as commands
use Rattle.lnbd_history.specs.History as history_of
use Rattle.lnbd_asked.specs.Driven.{outcome_after}
use Rattle.lnbd_asked.specs.Honest.{changes, covers}
use Rattle.lnbd_asked.specs.Link.{Nobody}
use Rattle.lnbd_plan.specs.Laws.{IsPlannedOnce}
use Rattle.lnbd_plan.specs.declared.cells.Cells.{Cells}
use Rattle.lnbd_plan.specs.declared.grid.Slice.{Slice}
use Rattle.lnbd_board.specs.declared.how.How.{How}
use Rattle.lnbd_board.specs.declared.row.Row.{Row}
use Rattle.lnbd_board.specs.declared.ticket.Ticket.{Ticket}
use Rattle.lnbd_board.specs.declared.ticket.Ticket.TheVariants as ticket
use Rattle.lnbd_board.specs.Files as board
use Rattle.lnbd_board.specs.Requests.{Each, IsIn, Request, Said, over, reads, reads_over}
use Rattle.lnbd_board.specs.Rows.{AsksOfDestination, IsChange, Stands}
use Rattle.lnbd_board.proofs.Once.{once}
use Rattle.lnbd_tracks.specs.Laws.{IsDone, moves_bytes}
use Rattle.lnbd_tracks.specs.Tracks.{AllTrack, Histories, request_of, under}
use Rattle.lnbd_tracks.proofs.Finished.{finished_are_done}
use Rattle.lnbd_course.specs.Counted.{bytes_of, is_zero, up_to_end}
use Rattle.lnbd_course.specs.Counts.{EndedSums, uncovered}
use Rattle.lnbd_course.specs.Course.{beside, on_side}
use Rattle.lnbd_course.proofs.Ending.{destination_dealt, done_out, gone_out, is_out, out_stands, source_dealt}
use Rattle.lnbd_course.proofs.Placed.{links_are_of_sides}
use Rattle.lnbd_course.proofs.Tallying.{bytes_fit, bytes_rest, touching}

-- What went out has all bytes.

read_moves : (kind : Kind) → is_read kind ≡ true → moves_bytes kind ≡ true
read_moves Read e = refl
read_moves Write e = absurd (false≢true e)
read_moves Flush e = absurd (false≢true e)
read_moves Trim e = absurd (false≢true e)
read_moves Cache e = absurd (false≢true e)
read_moves Zero e = refl
read_moves BlockStatus e = absurd (false≢true e)

write_moves : (kind : Kind) → is_write kind ≡ true → moves_bytes kind ≡ true
write_moves Read e = refl
write_moves Write e = refl
write_moves Flush e = absurd (false≢true e)
write_moves Trim e = absurd (false≢true e)
write_moves Cache e = absurd (false≢true e)
write_moves Zero e = refl
write_moves BlockStatus e = absurd (false≢true e)

zero_moves : (kind : Kind) → is_zero kind ≡ true → moves_bytes kind ≡ true
zero_moves Read e = refl
zero_moves Write e = refl
zero_moves Flush e = absurd (false≢true e)
zero_moves Trim e = absurd (false≢true e)
zero_moves Cache e = absurd (false≢true e)
zero_moves Zero e = refl
zero_moves BlockStatus e = absurd (false≢true e)

-- each request that moves bytes is done
abbrev AllDone : List Request → Type 0
AllDone xs = Each (λ r. moves_bytes r.said.command.kind ≡ true → IsDone r.said.outcome) xs

module _ (histories : Histories) where
  out_bytes : (counts : Kind → Bool) → ((kind : Kind) → counts kind ≡ true → moves_bytes kind ≡ true) → (all xs : List Request) → AllTrack histories all → ((r : Request) → IsIn r xs → IsIn r all) → AllDone xs → bytes_of counts (gone_out histories xs) ≡ bytes_of counts xs
  out_bytes counts moves all [] track within done = refl
  out_bytes counts moves all (x ∷ xs) track within done = go (is_out histories x) refl (out_bytes counts moves all xs track (λ r there. within r (inr there)) done.1)
    where
      none : (b : Bool) → is_out histories x ≡ false → counts x.said.command.kind ≡ b → cond b x.said.command.length 0 ≡ 0
      none true not is = absurd (false≢true (sym not ∙ done_out histories all x track (within x (inl refl)) (done.0 (moves x.said.command.kind is))))
      none false not is = refl

      go : (b : Bool) → is_out histories x ≡ b → bytes_of counts (gone_out histories xs) ≡ bytes_of counts xs → bytes_of counts (cond b (x ∷ gone_out histories xs) (gone_out histories xs)) ≡ bytes_of counts (x ∷ xs)
      go true is rest = ap (λ (n : ℕ). cond (counts x.said.command.kind) x.said.command.length 0 + n) rest
      go false is rest = let e = none (counts x.said.command.kind) is refl in omega (arith, rest, e)

  -- under each link and cookie no more went out than was asked
  under_out : (link cookie : ℕ) (xs : List Request) → length (under link cookie (gone_out histories xs)) ≤ length (under link cookie xs)
  under_out link cookie [] = omega arith
  under_out link cookie (x ∷ xs) =
      let rest = under_out link cookie xs in
      elim (is_out histories x) as (λ b. length (under link cookie (cond b (x ∷ gone_out histories xs) (gone_out histories xs))) ≤ length (under link cookie (x ∷ xs))) [
        | true ↦ elim ((x.link == link) && (x.cookie == cookie)) as (λ b. length (cond b (x ∷ under link cookie (gone_out histories xs)) (under link cookie (gone_out histories xs))) ≤ length (cond b (x ∷ under link cookie xs) (under link cookie xs))) [ true ↦ omega (arith, rest) | false ↦ rest ]
        | false ↦ elim ((x.link == link) && (x.cookie == cookie)) as (λ b. length (under link cookie (gone_out histories xs)) ≤ length (cond b (x ∷ under link cookie xs) (under link cookie xs))) [ true ↦ omega (arith, rest) | false ↦ rest ]
      ]

  told_few : (link cookie : ℕ) (asks : Option (commands.Request Ticket)) (outcome : Outcome) → length (request_of link cookie asks outcome) ≤ 1
  told_few link cookie None outcome = omega arith
  told_few link cookie (Some asks) outcome = omega arith

  pub out_once : (xs : List Request) → AllTrack histories xs → (link cookie : ℕ) → length (under link cookie (gone_out histories xs)) ≤ 1
  out_once xs track link cookie =
      let few = subst (λ (l : List Request). length l ≤ 1) (sym ((track link).each cookie)) (told_few link cookie (history_of.request (histories link) cookie) (outcome_after (histories link) cookie)) in
      let out = under_out link cookie xs in
      omega (arith, few, out)

-- The same lists as the board's.

pub reads_same : (p : ℕ) (xs : List Request) → touching is_read p xs ≡ reads_over p xs
reads_same p [] = refl
reads_same p (x ∷ xs) = ap (λ (l : List Said). cond (reads x.said.command p) (x.said ∷ l) l) (reads_same p xs)

pub over_same : (p : ℕ) (xs : List Request) → touching changes p xs ≡ over p xs
over_same p [] = refl
over_same p (x ∷ xs) = ap (λ (l : List Said). cond (covers x.said.command p) (x.said ∷ l) l) (over_same p xs)

pub at_most : (n : ℕ) (said other : List Said) → other ≡ said → length said ≤ n → length other ≤ n
at_most n said other same few = subst (λ (l : List Said). length l ≤ n) (sym same) few

pub is_none : (said : List Said) → said ≡ [] → length said ≤ 0
is_none said none = subst (λ (l : List Said). length l ≤ 0) (sym none) (omega arith)

-- What a destination is asked to change is written or zeroed.

store_weight : (how : How) (slices : List Slice) (by : Ticket) (command : Command Nobody) → AsksOfDestination how slices by command → cond (changes command.kind) command.length 0 ≡ cond (is_write command.kind) command.length 0 + cond (is_zero command.kind) command.length 0
store_weight how slices (ticket.Slice n) command asks = change_weight asks.0
  where
    change_weight : IsChange how command → cond (changes command.kind) command.length 0 ≡ cond (is_write command.kind) command.length 0 + cond (is_zero command.kind) command.length 0
    change_weight (inl is) = subst (λ (kind : Kind). cond (changes kind) command.length 0 ≡ cond (is_write kind) command.length 0 + cond (is_zero kind) command.length 0) (sym is.0) (omega arith)
    change_weight (inr is) = subst (λ (kind : Kind). cond (changes kind) command.length 0 ≡ cond (is_write kind) command.length 0 + cond (is_zero kind) command.length 0) (sym is.0) (omega arith)
store_weight how slices ticket.Extents command asks = absurd asks
store_weight how slices ticket.Flush command asks = subst (λ (kind : Kind). cond (changes kind) command.length 0 ≡ cond (is_write kind) command.length 0 + cond (is_zero kind) command.length 0) (sym asks.0) (omega arith)

pub both_bytes : (how : How) (slices : List Slice) (xs : List Request) → Each (λ r. AsksOfDestination how slices r.ticket r.said.command) xs → bytes_of changes xs ≡ bytes_of is_write xs + bytes_of is_zero xs
both_bytes how slices [] each = omega arith
both_bytes how slices (x ∷ xs) each =
    let rest = both_bytes how slices xs each.1 in
    let one = store_weight how slices x.ticket x.said.command each.0 in
    omega (arith, rest, one)

-- The counts.

exact : (end count all bytes size : ℕ) → count ≡ min all end → bytes ≡ all → bytes ≤ size → size ≤ end → count ≡ bytes
exact end count all bytes size e f l m = omega (arith, e, f, l, m)

fits_in : (a end size : ℕ) → a ≤ end → end ≤ size → a ≤ size
fits_in a end size l m = omega (arith, l, m)

left : (size one other w z u both : ℕ) → one ≡ w → other ≡ z → both ≡ w + z → both + u ≡ size → size - one - other ≡ u
left size one other w z u both e f g h = omega (arith, e, f, g, h)

written_fits : (both w z u size : ℕ) → both ≡ w + z → both + u ≡ size → w ≤ size
written_fits both w z u size e f = omega (arith, e, f)

zeroed_fits : (both w z u size : ℕ) → both ≡ w + z → both + u ≡ size → z ≤ size
zeroed_fits both w z u size e f = omega (arith, e, f)

past : (end size p : ℕ) → end ≤ size → size ≤ p → end ≤ p
past end size p l m = omega (arith, l, m)

-- what the sums of a copy are, by the requests of both sides
pub record Sums (source destination : List Request) (size : ℕ) (now : board.Seen) : Type 0 where
  pub read : now.read ≡ bytes_of is_read source
  pub written : now.written ≡ bytes_of is_write destination
  pub zeroed : now.zeroed ≡ bytes_of is_zero destination
  pub skipped : size - now.written - now.zeroed ≡ uncovered destination size

-- Of requests that plan no position twice and are over no count has come to its end.
pub sums_of : (how : How) (slices rest : List Slice) (source destination : List Request) (now : board.Seen) (cells : Cells) (told : ℕ → Bool) (end size : ℕ) → Stands how slices [] source destination →
    ((p : ℕ) → IsPlannedOnce cells told 0 end p (slices ++ rest)) → end ≤ size → size ≤ 18446744073709551615 →
    now.read ≡ up_to_end (bytes_of is_read source) → now.written ≡ up_to_end (bytes_of is_write destination) → now.zeroed ≡ up_to_end (bytes_of is_zero destination) → Sums source destination size now
sums_of how slices rest source destination now cells told end size stands planned fits room counted_read counted_written counted_zeroed =
    let asked_once = once how cells told end slices rest [] source destination stands planned in
    let few = λ (p : ℕ). at_most 1 (over p destination) (touching changes p destination) (over_same p destination) (asked_once.0.changes p) in
    let none = λ (p : ℕ) (l : size ≤ p). at_most 0 (over p destination) (touching changes p destination) (over_same p destination)
    (is_none (over p destination) (asked_once.1.changes p (past end size p fits l))) in
    let whole : bytes_of changes destination + uncovered destination size ≡ size = bytes_rest size destination few none in
    let both : bytes_of changes destination ≡ bytes_of is_write destination + bytes_of is_zero destination = both_bytes how slices destination stands.changes in
    let read_fits : bytes_of is_read source ≤ end = bytes_fit is_read end source
    (λ p. at_most 1 (reads_over p source) (touching is_read p source) (reads_same p source) (asked_once.0.reads p))
    (λ p l. at_most 0 (reads_over p source) (touching is_read p source) (reads_same p source) (is_none (reads_over p source) (asked_once.1.reads p l))) in
    let written : now.written ≡ bytes_of is_write destination = exact 18446744073709551615 now.written (bytes_of is_write destination) (bytes_of is_write destination) size counted_written refl
    (written_fits (bytes_of changes destination) (bytes_of is_write destination) (bytes_of is_zero destination) (uncovered destination size) size both whole) room in
    let zeroed : now.zeroed ≡ bytes_of is_zero destination = exact 18446744073709551615 now.zeroed (bytes_of is_zero destination) (bytes_of is_zero destination) size counted_zeroed refl
    (zeroed_fits (bytes_of changes destination) (bytes_of is_write destination) (bytes_of is_zero destination) (uncovered destination size) size both whole) room in
    record {
      read = exact 18446744073709551615 now.read (bytes_of is_read source) (bytes_of is_read source) size counted_read refl (fits_in (bytes_of is_read source) end size read_fits fits) room;
      written = written;
      zeroed = zeroed;
      skipped = left size now.written now.zeroed (bytes_of is_write destination) (bytes_of is_zero destination) (uncovered destination size) (bytes_of changes destination) written zeroed both whole;
    }

-- The counts of what was asked are those of what went out, where it is done.
module _ (histories : Histories) (asked : List Request) (track : AllTrack histories asked) (done : AllDone asked) where
  pub out_read : bytes_of is_read asked ≡ bytes_of is_read (gone_out histories asked)
  out_read = sym (out_bytes histories is_read read_moves asked asked track (λ r there. there) done)

  pub out_written : bytes_of is_write asked ≡ bytes_of is_write (gone_out histories asked)
  out_written = sym (out_bytes histories is_write write_moves asked asked track (λ r there. there) done)

  pub out_zeroed : bytes_of is_zero asked ≡ bytes_of is_zero (gone_out histories asked)
  out_zeroed = sym (out_bytes histories is_zero zero_moves asked asked track (λ r there. there) done)

pub ended_sums : EndedSums
ended_sums from to size how has slices rest now calls cells told end b ended well planned fits room two =
    let law = links_are_of_sides from to size how has slices now calls b two in
    let source = b.course.stood.source in
    let destination = b.course.stood.destination in
    let sources : Histories = on_side has b.course.histories in
    let destinations : Histories = on_side (beside has) b.course.histories in
    let stands = subst (λ (rows : List (ℕ × Row)). Stands how slices rows source destination) ended (b.course.stood.stands well) in
    let done = finished_are_done how slices source destination stands in
    let counted = b.course.stood.counted in
    let sums = sums_of how slices rest (gone_out sources source) (gone_out destinations destination) now cells told end size
    (out_stands how slices sources destinations source destination stands b.course.stood.reads b.course.stood.changes) planned fits room
    (counted.read ∙ ap up_to_end (out_read sources source b.course.stood.reads done.0)) (counted.written ∙ ap up_to_end (out_written destinations destination b.course.stood.changes done.1))
    (counted.zeroed ∙ ap up_to_end (out_zeroed destinations destination b.course.stood.changes done.1)) in
    record {
      source = gone_out sources source;
      destination = gone_out destinations destination;
      reads = record { are = source_dealt from to how has slices now calls b.course law.0; once = out_once sources source b.course.stood.reads };
      changes = record { are = destination_dealt from to how has slices now calls b.course law.0; once = out_once destinations destination b.course.stood.changes };
      size = size;
      told = law.1.source;
      read = sums.read;
      written = sums.written;
      zeroed = sums.zeroed;
      skipped = sums.skipped;
    }

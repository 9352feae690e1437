-- What the board asks keeps the invariant, as commands of its handles.
use Rattle.std.proofs.Common.{◌≡◌, ℕ, ◌+◌, Bool, List, [], ◌∷◌, ◌++◌, cond, length, min, refl, ap, sym, subst, ◌∙◌, arith, if◌then◌else◌}
use Rattle.lnbd_model.specs.Kind.{is_read, is_write}
use Rattle.lnbd_history.specs.Commands.{Command}
use Rattle.lnbd_board.specs.declared.ask.Ask.TheVariants as ask
use Rattle.lnbd_board.specs.declared.ask.Change.TheVariants as change
use Rattle.lnbd_board.specs.declared.ticket.Ticket.{Ticket}
use Rattle.lnbd_board.specs.declared.ticket.Ticket.TheVariants as ticket
use Rattle.lnbd_board.specs.Asks.{change_of, read_at}
use Rattle.lnbd_board.specs.Board.{risen}
use Rattle.lnbd_board.specs.Files as board
use Rattle.lnbd_board.specs.Pieces.{write_at}
use Rattle.lnbd_board.specs.Requests.{Request, asking}
use Rattle.lnbd_board.specs.Rows.{Stands}
use Rattle.lnbd_tracks.specs.Tracks.{OnlyWritesHaveBytes}
use Rattle.lnbd_course.specs.Counted.{CountsFirst, IsCounted, bytes_of, is_zero}
use Rattle.lnbd_course.specs.Orders.{BeginningAsks, GoingAsks, OverAsksNothing, command_of}
use Rattle.lnbd_course.specs.Taken.{without_buffer}
use Rattle.lnbd_course.proofs.Counting.{bytes_asking, bytes_beside, count_more, count_none, flushes_beside}

no_buffer : (command : Command Ticket) → OnlyWritesHaveBytes (without_buffer command)
no_buffer command w = ap (λ (b : Bool). if b then command.payload else []) w

-- What is asked is counted.

no_rise : (end old a : ℕ) → old ≡ min a end → min (old + 0) end ≡ old
no_rise end old a e = omega (arith, e)

no_read : (now : board.Seen) (source destination : List Request) → IsCounted now source destination → risen now.read 0 ≡ now.read
no_read now source destination k = no_rise 18446744073709551615 now.read (bytes_of is_read source) k.read

read_counts : (n offset : ℕ) (bytes buf : List ℕ) (now now' : board.Seen) (source destination : List Request) (link cookie : ℕ) → length bytes ≡ length buf → CountsFirst (ask.Read offset buf) now now' → IsCounted now source destination →
    IsCounted now' (asking link cookie (ticket.Slice n) (read_at offset (length bytes)) source) destination
read_counts n offset bytes buf now now' source destination link cookie size counts k = record {
  read = count_more now.read (length bytes) (bytes_of is_read source) (bytes_of is_read (asking link cookie (ticket.Slice n) (read_at offset (length bytes)) source)) now'.read
      (counts.read ∙ ap (risen now.read) (sym size)) k.read (bytes_asking is_read link cookie (ticket.Slice n) (read_at offset (length bytes)) source);
  written = count_none now.written (bytes_of is_write destination) (bytes_of is_write destination) now'.written counts.written k.written refl;
  zeroed = count_none now.zeroed (bytes_of is_zero destination) (bytes_of is_zero destination) now'.zeroed counts.zeroed k.zeroed refl;
  flushes = k.flushes ∙ ap (λ (b : Bool). cond b 1 0) (sym counts.flushing);
}

write_counts : (n offset : ℕ) (bytes : List ℕ) (now now' : board.Seen) (source destination : List Request) (link cookie : ℕ) → now'.read ≡ now.read → now'.written ≡ risen now.written (length bytes) → now'.zeroed ≡ risen now.zeroed 0 → now'.flushing ≡ now.flushing → IsCounted now source destination →
    IsCounted now' source (asking link cookie (ticket.Slice n) (write_at offset bytes) destination)
write_counts n offset bytes now now' source destination link cookie read written zeroed flushing k = record {
  read = read ∙ k.read;
  written = count_more now.written (length bytes) (bytes_of is_write destination) (bytes_of is_write (asking link cookie (ticket.Slice n) (write_at offset bytes) destination)) now'.written written k.written (bytes_asking is_write link cookie (ticket.Slice n) (write_at offset bytes) destination);
  zeroed = count_none now.zeroed (bytes_of is_zero destination) (bytes_of is_zero (asking link cookie (ticket.Slice n) (write_at offset bytes) destination)) now'.zeroed zeroed k.zeroed (bytes_beside is_zero link cookie (ticket.Slice n) (write_at offset bytes) destination refl);
  flushes = flushes_beside now now' link cookie (ticket.Slice n) (write_at offset bytes) destination refl flushing k.flushes;
}

zero_counts : (n offset size flags : ℕ) (now now' : board.Seen) (source destination : List Request) (link cookie : ℕ) → now'.read ≡ now.read → now'.written ≡ risen now.written 0 → now'.zeroed ≡ risen now.zeroed size → now'.flushing ≡ now.flushing → IsCounted now source destination →
    IsCounted now' source (asking link cookie (ticket.Slice n) (change_of (change.Zero offset size flags)) destination)
zero_counts n offset size flags now now' source destination link cookie read written zeroed flushing k = record {
  read = read ∙ k.read;
  written = count_none now.written (bytes_of is_write destination) (bytes_of is_write (asking link cookie (ticket.Slice n) (change_of (change.Zero offset size flags)) destination)) now'.written written k.written (bytes_beside is_write link cookie (ticket.Slice n) (change_of (change.Zero offset size flags)) destination refl);
  zeroed = count_more now.zeroed size (bytes_of is_zero destination) (bytes_of is_zero (asking link cookie (ticket.Slice n) (change_of (change.Zero offset size flags)) destination)) now'.zeroed zeroed k.zeroed (bytes_asking is_zero link cookie (ticket.Slice n) (change_of (change.Zero offset size flags)) destination);
  flushes = flushes_beside now now' link cookie (ticket.Slice n) (change_of (change.Zero offset size flags)) destination refl flushing k.flushes;
}

pub beginning_asks : BeginningAsks
beginning_asks how slice n (ask.Read offset buf) slices now now' count earlier counts b = λ bytes size. record {
  bytes = λ w. refl;
  earlier = earlier;
  on = λ source destination link cookie stands.
      subst (λ (m : ℕ). Stands how (slices ++ slice ∷ []) now'.rows (asking link cookie (ticket.Slice n) (read_at offset m) source) destination) (sym size)
      (b.on slices source destination link cookie count stands);
  counts = λ source destination link cookie k. read_counts n offset bytes buf now now' source destination link cookie size counts k;
  flushed = counts.flushed;
}
beginning_asks how slice n (ask.Change (change.Write offset bytes)) slices now now' count earlier counts b = record {
  bytes = no_buffer (command_of n (change.Write offset bytes));
  earlier = earlier;
  on = λ source destination link cookie stands. b.on slices source destination link cookie count stands;
  counts = λ source destination link cookie k. write_counts n offset bytes now now' source destination link cookie (counts.read ∙ no_read now source destination k) counts.written counts.zeroed counts.flushing k;
  flushed = counts.flushed;
}
beginning_asks how slice n (ask.Change (change.Zero offset size flags)) slices now now' count earlier counts b = record {
  bytes = no_buffer (command_of n (change.Zero offset size flags));
  earlier = earlier;
  on = λ source destination link cookie stands. b.on slices source destination link cookie count stands;
  counts = λ source destination link cookie k. zero_counts n offset size flags now now' source destination link cookie (counts.read ∙ no_read now source destination k) counts.written counts.zeroed counts.flushing k;
  flushed = counts.flushed;
}

pub going_asks : GoingAsks
going_asks how n (change.Write offset bytes) slices now now' earlier counts g = record {
  bytes = no_buffer (command_of n (change.Write offset bytes));
  earlier = earlier;
  on = λ source destination link cookie stands. (g.on source destination link cookie).on slices stands;
  counts = λ source destination link cookie k. write_counts n offset bytes now now' source destination link cookie counts.read counts.written counts.zeroed counts.flushing k;
  flushed = counts.flushed;
}
going_asks how n (change.Zero offset size flags) slices now now' earlier counts g = record {
  bytes = no_buffer (command_of n (change.Zero offset size flags));
  earlier = earlier;
  on = λ source destination link cookie stands. (g.on source destination link cookie).on slices stands;
  counts = λ source destination link cookie k. zero_counts n offset size flags now now' source destination link cookie counts.read counts.written counts.zeroed counts.flushing k;
  flushed = counts.flushed;
}

pub over_asks_nothing : OverAsksNothing
over_asks_nothing how n now now' g source destination = g.on source destination 0 0

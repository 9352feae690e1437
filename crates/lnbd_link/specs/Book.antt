-- What holds of a book.
use Rattle.std.specs.Prelude.{◌<◌, ◌^◌, vec_len}
use Rattle.lnbd_link.specs.declared.book.Book.TheInside.{Inside}
use Rattle.lnbd_link.specs.Tied.{Tied}

-- its numbers are tied to its calls, and each is a u32
pub record IsBooked (a : Inside) : Type 0 where
  pub tied : Tied a.next a.opened.items a.log.0
  pub few : vec_len a.opened < 2 ^ 32

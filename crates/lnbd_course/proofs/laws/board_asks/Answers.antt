use Rattle.lnbd_course.proofs.Orders.{beginning_asks, going_asks, over_asks_nothing}
use Rattle.lnbd_course.proofs.laws.board_asks.Goals as goal

pub returns : goal.returns
returns c = record { begins = beginning_asks; goes = going_asks; over = over_asks_nothing }

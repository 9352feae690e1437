use Rattle.std.proofs.Common.{◌≡◌, ◌++◌, map, take}
use Rattle.lnbd_serve.specs.Halls.{want_of}
use Rattle.lnbd_serve.proofs.serving.push_wants.Given as goal

abbrev pub invariant-guests : goal.invariant-guests
invariant-guests l = l.wants.items ≡ l.fn.wants.items ++ map want_of (take l.i l.all.items)

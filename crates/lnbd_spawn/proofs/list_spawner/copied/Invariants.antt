use Rattle.std.proofs.Common.{◌≡◌, take}
use Rattle.lnbd_spawn.proofs.list_spawner.copied.Given as goal

abbrev pub invariant-texts : goal.invariant-texts
invariant-texts l = l.copy ≡ take l.text-index l.texts

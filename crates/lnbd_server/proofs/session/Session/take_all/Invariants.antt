use Rattle.std.proofs.Common.{◌≡◌, ◌-◌, ◌≤◌, length, take}
use Rattle.lnbd_stream.specs.Stream.{feed}
use Rattle.lnbd_server.specs.Session.{rules, with_export}
use Rattle.lnbd_server.proofs.session.Session.take_all.Given as goal

abbrev pub invariant-loop-taken : goal.invariant-loop-taken
invariant-loop-taken l = record {
  within : l.taken ≤ length l.bytes;
  fed : feed (rules l.fn.self.offers) (with_export l.fn.self.dialogue l.fn.export) (take l.taken l.bytes) ≡ with_export l.self-inside.dialogue l.export;
  same : l.self-inside.offers ≡ l.fn.self.offers;
  count : l.self-inside.came ≡ l.fn.self.came;
}

abbrev pub decreases-loop-taken : goal.decreases-loop-taken
decreases-loop-taken l = length l.bytes - l.taken

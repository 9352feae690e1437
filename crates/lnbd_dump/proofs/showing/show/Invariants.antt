use Rattle.std.proofs.Common.{◌≡◌, ◌≤◌, ◌-◌, ◌+◌, []}
use Rattle.lnbd_hexdump.specs.Said.{reach}
use Rattle.lnbd_link.specs.Contents.{Keeps}
use Rattle.lnbd_poll.specs.Seen.{Seen}
use Rattle.lnbd_waits.specs.Waits.{Holds}
use Rattle.lnbd_dump.specs.declared.reader.Reader.{Reader}
use Rattle.lnbd_dump.specs.Filling.{AreInOrder, FollowEach}
use Rattle.lnbd_reel.specs.Said.{shown_to}
use Rattle.lnbd_dump.proofs.ShowLemmas.{IsShown}
use Rattle.lnbd_dump.proofs.showing.show.Given as goal

-- all up to `at` is shown, and the parts that are under way lie behind it
abbrev pub invariant-parts : goal.invariant-parts
invariant-parts g l = record {
  shown : (before : Seen Reader) → Holds l.fn.handles before → IsShown l.fn.plan l.fn.runs l.fn.world l.offset l.count (g.O.Sink.taken l.fn.out) before (g.W.Wires.told l.fn.wires) (g.W.Wires.faults l.fn.wires)
      (g.W.Wires.told l.wires) (g.W.Wires.faults l.wires) l.handles l.at l.plan l.runs l.reel l.world l.dumper (g.O.Sink.taken l.out);
  order : AreInOrder l.plan.at l.runs l.plan.known;
  follow : FollowEach l.at l.reel l.plan.at;
  within : (l.plan.at ≤ l.plan.end) × (l.plan.known ≤ l.plan.end);
  same : l.plan ≡ record l.fn.plan { at = l.plan.at; known = l.plan.known };
  empty : l.text.items ≡ [];
  reach : reach l.dumper ≤ l.offset + shown_to l.offset (l.offset + l.count) l.at;
  contents : Keeps (g.W.Wires.contents l.fn.wires) (g.W.Wires.contents l.wires);
  faults_later : g.W.Wires.faults l.fn.wires ≤ g.W.Wires.faults l.wires;
  idles_later : g.W.Wires.idles l.fn.wires ≤ g.W.Wires.idles l.wires;
  still : g.O.Sink.faults l.out ≡ g.O.Sink.faults l.fn.out;
}

abbrev pub decreases-parts : goal.decreases-parts
decreases-parts g l = l.fn.plan.end - l.at

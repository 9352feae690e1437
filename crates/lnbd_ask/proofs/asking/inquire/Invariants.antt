use Rattle.std.proofs.Common.{◌≡◌, ◌≤◌, ◌*◌, ◌-◌, ℕ}
use Rattle.lnbd_extents.specs.Lists.{span}
use Rattle.lnbd_link.specs.Contents.{Keeps}
use Rattle.lnbd_poll.specs.Seen.{Seen}
use Rattle.lnbd_ask.specs.declared.survey.Surveyor.{Surveyor}
use Rattle.lnbd_waits.specs.Waits.{Holds}
use Rattle.lnbd_ask.proofs.InquireLemmas.{Inquiring}
use Rattle.lnbd_ask.proofs.asking.inquire.Given as goal

abbrev pub invariant-rounds : goal.invariant-rounds
invariant-rounds g l = record {
  inquiring : (seen : Seen Surveyor) → Holds l.fn.handles seen → Inquiring l.fn.world.context l.plan.block l.plan.whole (g.W.Wires.told l.fn.wires) (g.W.Wires.told l.wires) (g.W.Wires.faults l.fn.wires) (g.W.Wires.faults l.wires) l.handles seen l.at l.map.items;
  context : l.world.context ≡ l.fn.world.context;
  contents : Keeps (g.W.Wires.contents l.fn.wires) (g.W.Wires.contents l.wires);
  faults_later : g.W.Wires.faults l.fn.wires ≤ g.W.Wires.faults l.wires;
  idles_later : g.W.Wires.idles l.fn.wires ≤ g.W.Wires.idles l.wires;
  blocks : (j : ℕ) × (l.at ≡ j * l.plan.block);
  within : l.at ≤ l.plan.whole;
  spans : span l.map.items ≡ l.at;
}

abbrev pub decreases-rounds : goal.decreases-rounds
decreases-rounds g l = l.plan.whole - l.at

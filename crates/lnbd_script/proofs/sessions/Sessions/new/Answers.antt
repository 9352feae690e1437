use Rattle.std.proofs.Common.{refl, sym, ap, subst, arith, List, length, replicate}
use Rattle.lnbd_script.specs.declared.place.Place.{Place}
use Rattle.lnbd_script.specs.Scenes.{unused}
use Rattle.lnbd_script.specs.Steps.{AreHeld}
use Rattle.lnbd_script.proofs.SceneLemmas.{are_unused}
use Rattle.lnbd_script.proofs.sessions.Sessions.new.Goals as goal

pub returns-clause-stands : goal.returns-clause-stands
returns-clause-stands c =
    let long = ap length c.in_ok-places.ensures in
    record {
      held = subst (λ (ps : List Place). AreHeld (replicate 16 unused) ps) (sym c.in_ok-places.ensures) (are_unused 16);
      count = omega (arith, long, c.in_ok-places.places.ok.0);
      current = refl;
      inside = omega arith;
      first = refl;
      started = omega arith;
      rises = omega arith;
      few = omega arith;
      small = omega arith;
      room = omega (arith, c.in_ok-wants.ensures.capacity);
    }

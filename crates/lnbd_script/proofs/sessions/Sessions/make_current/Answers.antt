use Rattle.std.proofs.Common.{arith}
use Rattle.lnbd_script.proofs.SceneLemmas.{at_same}
use Rattle.lnbd_script.proofs.sessions.Sessions.make_current.Goals as goal

pub returns-clause-stands : goal.returns-clause-stands
returns-clause-stands c scene idles s = record {
  held = at_same scene.handles c.args.self.now.places.items c.args.self.now.current _ _ s.held (omega (arith, c.requires.inside, c.args.self.now.places.ok.0)) c.index_mut-place.ensures.value c.make.ensures.same;
  count = s.count;
  current = s.current;
  inside = s.inside;
  first = s.first;
  started = s.started;
  rises = s.rises;
  few = s.few;
  small = s.small;
  room = s.room;
}

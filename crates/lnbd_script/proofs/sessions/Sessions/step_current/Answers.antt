use Rattle.std.proofs.Common.{arith, refl}
use Rattle.lnbd_script.proofs.SceneLemmas.{acted, acted_whole}
use Rattle.lnbd_script.proofs.TurnLemmas.{blames_of}
use Rattle.lnbd_script.proofs.sessions.Sessions.step_current.Goals as goal

pub returns-clause-acts : goal.returns-clause-acts
returns-clause-acts g c scene s = acted c.args.line.now scene c.args.self.now _ c.index_mut-place.result.now c.step.new.self _ _ _ _ c.step.result s refl refl refl refl refl (omega (arith, c.requires.inside, c.args.self.now.places.ok.0)) c.index_mut-place.ensures.value c.step.ensures.counts.idles_later c.step.ensures.told

pub returns-clause-counts : goal.returns-clause-counts
returns-clause-counts g c = blames_of _ _ _ _ _ _ c.step.ensures.counts

pub returns-clause-unread : goal.returns-clause-unread
returns-clause-unread g c = acted_whole c.requires.reached.0 c.args.self.now c.index_mut-place.result.now _ c.step.result _ c.requires.reached.1 (omega (arith, c.requires.inside, c.args.self.now.places.ok.0)) c.index_mut-place.ensures.value c.step.ensures.unread

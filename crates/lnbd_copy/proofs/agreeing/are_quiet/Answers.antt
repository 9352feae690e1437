use Rattle.std.proofs.Common.{refl, arith}
use Rattle.lnbd_copy.proofs.AgreeLemmas.{all_quiet, quiet_more}
use Rattle.lnbd_copy.proofs.agreeing.are_quiet.Goals as goal

pub handles-preserved : goal.handles-preserved
handles-preserved c = quiet_more c.handles.index c.args.handles.now c.get.result.now.machine c.handles.invariant c.get.ensures (record { ready = c.if-not-is_quiet.ensures.ready refl; quiet = c.if-not-is_quiet.ensures.quiet refl })

pub returns : goal.returns
returns c e = all_quiet c.handles.index c.args.handles.now c.handles.invariant (omega (arith, c.handles-test.false, c.len-index-end.ensures))

use Rattle.lnbd_memnet.proofs.Hosting.{hosted_more, truly_pushed}
use Rattle.lnbd_memnet.proofs.network.all_hosted.Goals as goal

pub loop-served-preserved : goal.loop-served-preserved
loop-served-preserved c = record {
  each = hosted_more c.loop-served.hosted.items c.push.new.self.items c.loop-served.yielded c.in-Some.served c.in_ok-new.field-0 c.loop-served.invariant.each c.in_ok-new.ensures.is c.in_ok-push.ensures.items;
  truly = truly_pushed c.loop-served.hosted.items c.push.new.self.items c.in_ok-new.field-0 c.loop-served.invariant.truly c.in_ok-new.ensures.truly c.in_ok-push.ensures.items;
}

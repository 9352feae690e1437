use Rattle.std.proofs.Common.{◌∙◌}
use Rattle.lnbd_history.specs.Answers.{listed_after}
use Rattle.lnbd_ask.proofs.ActLemmas.{short, told_of}
use Rattle.lnbd_ask.proofs.acts.tell_listing.Goals as goal

pub returns-in-Ok : goal.returns-in-Ok
returns-in-Ok g c = told_of (λ seen. listed_after seen.history) c.in-Ok.listing c.args.handles.now c.get.result.now.machine c.get.ensures (λ seen stands. c.in-Ok.ensures ∙ c.listed.ensures.told seen.history stands)

pub returns-in-Err : goal.returns-in-Err
returns-in-Err g c = short (λ seen. seen) (λ seen. listed_after seen.history) c.args.handles.now

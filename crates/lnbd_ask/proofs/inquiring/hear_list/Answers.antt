use Rattle.std.proofs.Common.{arith, refl}
use Rattle.lnbd_history.specs.Answers.{listed_after}
use Rattle.lnbd_ask.specs.Parts.{Acts}
use Rattle.lnbd_waits.specs.Waits.{Waits}
use Rattle.lnbd_waits.specs.declared.waiting.Awaited.TheVariants as awaited
use Rattle.lnbd_ask.proofs.ActLemmas.{not_silent}
use Rattle.lnbd_ask.proofs.PartLemmas.{acts, follows, stops, waits}
use Rattle.lnbd_waits.proofs.TurnLemmas.{held_one}
use Rattle.lnbd_ask.proofs.inquiring.hear_list.Goals as goal

pub returns-in-Err-clause-hears : goal.returns-in-Err-clause-hears
returns-in-Err-clause-hears g c =
    stops (Waits g.K.Caller.steps awaited.Answers) (λ answered. Acts (λ seen. seen) (λ seen. listed_after seen.history)) _ _ _ _ _ _ _ _ c.settle.result _ c.in-Err.halt c.in-Err.is refl
    (waits g.K.Caller.steps awaited.Answers _ _ _ _ _ _ _ _ _ c.settle.ensures.waits)

pub tell_listing-requires : goal.tell_listing-requires
tell_listing-requires g c = let went = c.settle.ensures.waits c.requires.reached.0 c.requires.reached.1 in held_one _ went.after went.at

pub returns-clause-hears : goal.returns-clause-hears
returns-clause-hears g c =
    follows (Waits g.K.Caller.steps awaited.Answers) (λ answered. Acts (λ seen. seen) (λ seen. listed_after seen.history)) _ _ _ _ _ _ _ _ _ _ _ _ c.settle.result _ c.tell_listing.result c.in_default.is c.settle.ensures.faults (omega arith)
    (waits g.K.Caller.steps awaited.Answers _ _ _ _ _ _ _ _ _ c.settle.ensures.waits) (acts (λ seen. seen) (λ seen. listed_after seen.history) _ _ _ _ _ _ c.tell_listing.ensures)

pub returns-clause-silent : goal.returns-clause-silent
returns-clause-silent g c is =
    let went = c.settle.ensures.waits c.requires.reached.0 c.requires.reached.1 in
    absurd (not_silent (λ seen. seen) (λ seen. listed_after seen.history) c.tell_listing.result _ _ went.after c.tell_listing.ensures went.at is)

use Rattle.lnbd_ask.specs.Asks.{base_allocation, begins}
use Rattle.lnbd_ask.specs.Quiet.{Passes}
use Rattle.lnbd_ask.proofs.EndLemmas.{held_going, link_rose}
use Rattle.lnbd_ask.proofs.LostLemmas.{lost_from_start}
use Rattle.lnbd_waits.proofs.TurnLemmas.{held_one}
use Rattle.lnbd_ask.proofs.collecting.converse.Goals as goal

pub tell-requires : goal.tell-requires
tell-requires g c = let went = c.talk-talked.ensures.talks _ c.requires.begins.1 in held_one _ went.after went.at

pub returns-clause-converses : goal.returns-clause-converses
returns-clause-converses g c link at =
    let went = c.talk-talked.ensures.talks (begins link c.args.place.now.name base_allocation) at in
    record { world = _; calls = went.calls; after = went.after; world' = _; end = c.talk-talked.result; grown = went.grown; talks = went.leads.talks; going = held_going _ went.after went.at; tells = c.tell.ensures.told went.after went.at }

pub returns-clause-link : goal.returns-clause-link
returns-clause-link g c =
    let went = c.talk-talked.ensures.talks (begins c.requires.begins.0 c.args.place.now.name base_allocation) c.requires.begins.1 in
    link_rose c.tell.result c.args.start.faults _ _ _ _ went.calls (lost_from_start Passes c.requires.begins.0 c.args.place.now.name base_allocation _ went.calls went.after _ c.talk-talked.result went.leads.talks) went.leads.blames c.requires.counted c.faults.ensures.count
    (c.tell.ensures.link went.after went.at)

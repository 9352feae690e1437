use Rattle.lnbd_ask.specs.Asks.{begins}
use Rattle.lnbd_ask.proofs.DiscussLemmas.{lost_by_call}
use Rattle.lnbd_ask.proofs.EndLemmas.{held_going}
use Rattle.lnbd_ask.proofs.MapEndLemmas.{lesson_filled, lesson_in, lesson_room, lesson_stopped, stop_rose, tells_fault, tells_map}
use Rattle.lnbd_ask.proofs.mapping.converse.Goals as goal
use Rattle.std.proofs.Common.{◌∙◌, Ok, ap}
use Rattle.lnbd_ask.specs.Maps.{Stopped}
use Rattle.lnbd_ask.specs.declared.stops.Stop.{Stop}

pub returns-in-Ok-clause-converses : goal.returns-in-Ok-clause-converses
returns-in-Ok-clause-converses g c link at =
    let went = c.in-Ok.ensures.discusses (begins link c.args.place.now.name c.args.world.now.context) at in
    record { calls = went.calls; after = went.after; lesson = went.leads.lesson; grown = went.grown; discusses = went.leads.discusses; going = held_going _ went.after went.at; tells = tells_map went.leads.lesson c.from_vec.result (lesson_in went.leads.lesson (Ok tt) _ c.from_vec.result c.from_vec.ensures went.leads.is) }

pub returns-in-Ok-clause-room : goal.returns-in-Ok-clause-room
returns-in-Ok-clause-room g c =
    let went = c.in-Ok.ensures.discusses (begins c.requires.begins.0 c.args.place.now.name c.args.world.now.context) c.requires.begins.1 in
    lesson_room went.leads.lesson c.from_vec.result (lesson_in went.leads.lesson (Ok tt) _ c.from_vec.result c.from_vec.ensures went.leads.is)

pub returns-in-Ok-clause-filled : goal.returns-in-Ok-clause-filled
returns-in-Ok-clause-filled g c =
    let went = c.in-Ok.ensures.discusses (begins c.requires.begins.0 c.args.place.now.name c.args.world.now.context) c.requires.begins.1 in
    lesson_filled went.leads.lesson c.from_vec.result (lesson_in went.leads.lesson (Ok tt) _ c.from_vec.result c.from_vec.ensures went.leads.is)

pub returns-in-Err-clause-converses : goal.returns-in-Err-clause-converses
returns-in-Err-clause-converses g c link at =
    let went = c.in-Err.ensures.discusses (begins link c.args.place.now.name c.args.world.now.context) at in
    record { calls = went.calls; after = went.after; lesson = went.leads.lesson; grown = went.grown; discusses = went.leads.discusses; going = held_going _ went.after went.at; tells = tells_fault went.leads.lesson _ c.in-Err.stop c.of_stop.result went.leads.is c.of_stop.ensures.told }

pub returns-in-Err-clause-link : goal.returns-in-Err-clause-link
returns-in-Err-clause-link g c =
    let went = c.in-Err.ensures.discusses (begins c.requires.begins.0 c.args.place.now.name c.args.world.now.context) c.requires.begins.1 in
    stop_rose c.of_stop.result c.in-Err.stop c.args.start.faults _ _ _ went.calls
    (λ lost. lost_by_call c.args.world.now.context c.requires.begins.0 c.args.place.now.name went.calls went.after went.leads.lesson went.leads.discusses (lesson_stopped went.leads.lesson _ c.in-Err.stop went.leads.is ∙ ap (λ (s : Stop). Stopped s) lost))
    went.leads.blames c.requires.counted c.faults.ensures.count c.of_stop.ensures.link

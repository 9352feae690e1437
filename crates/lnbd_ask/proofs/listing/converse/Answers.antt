use Rattle.lnbd_ask.specs.Lists.{begins_listing}
use Rattle.lnbd_ask.specs.Quiet.{Passes}
use Rattle.lnbd_ask.proofs.EndLemmas.{held_going}
use Rattle.lnbd_ask.proofs.ListLemmas.{failure_rose, inquiry_lost}
use Rattle.lnbd_waits.proofs.TurnLemmas.{held_one}
use Rattle.lnbd_ask.proofs.listing.converse.Goals as goal

pub tell_entries-requires : goal.tell_entries-requires
tell_entries-requires g c = let went = c.inquire-inquired.ensures.inquires _ c.requires.begins.1 in held_one _ went.after went.at

pub returns-clause-converses : goal.returns-clause-converses
returns-clause-converses g c link at =
    let went = c.inquire-inquired.ensures.inquires (begins_listing link) at in
    record { world = _; calls = went.calls; after = went.after; world' = _; end = c.inquire-inquired.result; grown = went.grown; inquires = went.leads.does; going = held_going _ went.after went.at; tells = c.tell_entries.ensures.told went.after went.at }

pub returns-clause-link : goal.returns-clause-link
returns-clause-link g c =
    let went = c.inquire-inquired.ensures.inquires (begins_listing c.requires.begins.0) c.requires.begins.1 in
    failure_rose c.tell_entries.result c.args.start.faults _ _ _ _ went.calls (inquiry_lost Passes c.requires.begins.0 _ went.calls went.after _ c.inquire-inquired.result went.leads.does) went.leads.blames c.requires.counted c.faults.ensures.count
    (c.tell_entries.ensures.link went.after went.at)

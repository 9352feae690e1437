use Rattle.std.proofs.Common.{true, false, ◌∙◌, sym, arith}
use Rattle.lnbd_handle.proofs.PlaceLemmas.{brings_asked, brings_front, place_fits, place_none, place_some}
use Rattle.lnbd_handle.proofs.placing.place_size.Goals as goal

pub has_fault-requires : goal.has_fault-requires
has_fault-requires g c =
    let p = c.args.pending.now in
    brings_asked c.args.connection.now p.head.items c.in-Some.announced (brings_front c.args.connection.now p c.requires.partial c.requires.places c.in-Some.announced c.in-Some.is)

pub returns-in-None-clause-size : goal.returns-in-None-clause-size
returns-in-None-clause-size g c = sym (place_none c.args.connection.now c.args.pending.now c.requires.partial c.requires.places c.in-None.is)

pub returns-in-None-clause-fits : goal.returns-in-None-clause-fits
returns-in-None-clause-fits g c = omega (arith, c.requires.places.kept.within)

pub returns-then-has_fault-clause-size : goal.returns-then-has_fault-clause-size
returns-then-has_fault-clause-size g c =
    sym (place_some c.args.connection.now c.args.pending.now c.requires.partial c.requires.places c.in-Some.announced c.in-Some.is true (sym c.has_fault.ensures ∙ c.if-has_fault.true))

pub returns-else-has_fault-clause-size : goal.returns-else-has_fault-clause-size
returns-else-has_fault-clause-size g c =
    c.left_of.ensures ∙ sym (place_some c.args.connection.now c.args.pending.now c.requires.partial c.requires.places c.in-Some.announced c.in-Some.is false (sym c.has_fault.ensures ∙ c.if-has_fault.false))

pub returns-else-has_fault-clause-fits : goal.returns-else-has_fault-clause-fits
returns-else-has_fault-clause-fits g c =
    let size = returns-else-has_fault-clause-size g c in
    let fits = place_fits c.args.connection.now c.args.pending.now c.requires.partial c.requires.places in
    omega (arith, size, fits)

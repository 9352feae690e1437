use Rattle.std.proofs.Common.{ℕ, List, refl, subst, arith}
use Rattle.lnbd_machine.specs.Laws.{IsPartial}
use Rattle.lnbd_handle.specs.Announcing.{replies_in}
use Rattle.lnbd_handle.specs.Held.{held_in}
use Rattle.lnbd_handle.specs.Seen.{machine_of, state_of}
use Rattle.lnbd_handle.specs.declared.pending.Pending.{Pending}
use Rattle.lnbd_handle.proofs.AnnouncedLemmas.{no_data, simply_short}
use Rattle.lnbd_handle.proofs.HoldLemmas.{held_as, most_front, said_held}
use Rattle.lnbd_handle.proofs.pieces.hold_record.Goals as goal

pub hold_front-requires-clause-partial : goal.hold_front-requires-clause-partial
hold_front-requires-clause-partial g c =
    let p = c.args.pending.now in
    subst (λ (h : List ℕ). IsPartial (machine_of c.args.connection.now h)) (no_data p (c.requires.places.said.none c.requires.unannounced)) c.requires.partial

pub returns-clause-means : goal.returns-clause-means
returns-clause-means g c =
    let p = c.args.pending.now in
    let none = c.requires.places.said.none c.requires.unannounced in
    let q : Pending = record p { head = c.hold_front.new.head; announced = c.hold_front.new.announced } in
    held_as g.K.Caller.steps c.args.connection.now c.hold_front.new.connection p.head.items (held_in p) c.hold_front.new.head.items (held_in q) c.args.front.now c.args.world.now c.hold_front.new.world c.hold_front.result (no_data p none) (no_data q none) c.hold_front.ensures.means

pub returns-clause-said : goal.returns-clause-said
returns-clause-said g c =
    let p = c.args.pending.now in
    let q : Pending = record p { head = c.hold_front.new.head; announced = c.hold_front.new.announced } in
    let e = c.hold_front.ensures in
    let capacity = e.capacity in
    let room = c.requires.places.kept.room in
    said_held g.K.Caller.steps c.args.connection.now c.hold_front.new.connection p q c.args.front.now c.args.world.now c.hold_front.new.world c.hold_front.result e.means e.still e.joined e.told e.untold refl
    (record { within = c.requires.places.kept.within; room = omega (arith, room, capacity) }) c.requires.within c.requires.unannounced c.requires.places.said

pub returns-clause-memory : goal.returns-clause-memory
returns-clause-memory g c quiet =
    let p = c.args.pending.now in
    let state = state_of c.args.connection.now in
    let less = simply_short state p quiet.0 c.requires.places.said c.requires.unannounced c.requires.partial in
    let within = c.requires.within quiet.0.ready less in
    let most = most_front (replies_in state) in
    let room = c.requires.places.kept.room in
    c.hold_front.ensures.memory (λ speaking. quiet) (omega (arith, within, most, room, p.head.ok.0))

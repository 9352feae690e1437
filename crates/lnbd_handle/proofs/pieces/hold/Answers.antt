use Rattle.std.proofs.Common.{Option, length, subst}
use Rattle.lnbd_arrivals.specs.Frames.{front_size}
use Rattle.lnbd_arrivals.specs.declared.announced.Announced.{Announced}
use Rattle.lnbd_handle.specs.Announcing.{replies_in}
use Rattle.lnbd_handle.specs.Room.{AreWithin}
use Rattle.lnbd_handle.specs.Seen.{state_of}
use Rattle.lnbd_handle.proofs.PlaceLemmas.{brings_front}
use Rattle.lnbd_handle.proofs.pieces.hold.Goals as goal

pub hold_content-requires-clause-fits : goal.hold_content-requires-clause-fits
hold_content-requires-clause-fits g c =
    let p = c.args.pending.now in
    let brings = brings_front c.args.connection.now p c.requires.partial c.requires.places c.in-Some.announced c.in-Some.is in
    subst (λ (o : Option Announced). AreWithin (front_size (replies_in (state_of c.args.connection.now))) o p (length c.args.front.now)) c.in-Some.is (c.requires.within brings.ready)

pub hold_record-requires-clause-within : goal.hold_record-requires-clause-within
hold_record-requires-clause-within g c ready =
    subst (λ (o : Option Announced). AreWithin (front_size (replies_in (state_of c.args.connection.now))) o c.args.pending.now (length c.args.front.now)) c.in-None.is (c.requires.within ready)

pub returns-in-Some-clause-memory : goal.returns-in-Some-clause-memory
returns-in-Some-clause-memory g c quiet = c.hold_content.ensures.memory (λ speaking. quiet)

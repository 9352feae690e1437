use Rattle.std.proofs.Common.{[], false, ap, subst, ◌∙◌, sym}
use Rattle.lnbd_connections.specs.Uses.{Uses}
use Rattle.lnbd_connections.proofs.AskLemmas.{idly_lasts}
use Rattle.lnbd_copyfile.specs.FromFile.{GoesFurther, Seen}
use Rattle.lnbd_copyfile.proofs.FromFileLemmas.{further_left}
use Rattle.lnbd_copyfile.proofs.from_file.FromFile.part.Goals as goal
use Rattle.lnbd_copyfile.proofs.ShareFromLemmas.{sharing_leaves}
use Rattle.lnbd_copyfile.specs.SharingFrom.{IsSharing}

pub returns-clause-on : goal.returns-clause-on
returns-clause-on g c = λ file shelf given.
    let was : Seen = record { options = c.self.inside.options; start = c.self.inside.start; held = c.self.inside.handles; board = c.self.inside.board } in
    let new : Seen = record { options = c.self.inside.options; start = c.self.inside.start; held = c.shut_parted.new.handles; board = c.shut_parted.new.board } in
    subst (λ (s : Seen). GoesFurther file c.args.job.now c.args.job.now (g.W.Wires.told c.args.wires.now) (g.W.Wires.told c.shut_parted.new.wires) s new shelf shelf given given) c.self.view_is
    (further_left file c.args.job.now _ _ was new shelf given (c.is_parting.ensures c.if-not-is_parting.false) c.shut_parted.ensures.leaves
    (idly_lasts _ _ c.shut_parted.ensures.idly))

pub returns-clause-sharing : goal.returns-clause-sharing
returns-clause-sharing g c = λ terms from s.
    let was : Seen = record { options = c.self.inside.options; start = c.self.inside.start; held = c.self.inside.handles; board = c.self.inside.board } in
    let new : Seen = record { options = c.self.inside.options; start = c.self.inside.start; held = c.shut_parted.new.handles; board = c.shut_parted.new.board } in
    sharing_leaves terms from _ _ c.args.job.now was new (c.is_parting.ensures c.if-not-is_parting.false) c.shut_parted.ensures.leaves
    (subst (λ (o : Seen). IsSharing terms from (g.W.Wires.told c.args.wires.now) c.args.job.now o) (sym c.self.view_is) s)

pub returns-clause-uses : goal.returns-clause-uses
returns-clause-uses g c first =
    subst (λ (s : Seen). Uses false first [] s.held (g.W.Wires.told c.args.wires.now) (g.W.Wires.idles c.args.wires.now) c.shut_parted.new.handles (g.W.Wires.told c.shut_parted.new.wires)
    (g.W.Wires.idles c.shut_parted.new.wires)) c.self.view_is (c.shut_parted.ensures.uses first)

pub returns-clause-parted : goal.returns-clause-parted
returns-clause-parted g c none = let still = c.shut_parted.ensures.still none in (still.0 ∙ ap (λ (s : Seen). s.held) c.self.view_is, still.1)

pub returns-clause-stays : goal.returns-clause-stays
returns-clause-stays g c none = absurd (none (c.is_parting.ensures c.if-not-is_parting.false))

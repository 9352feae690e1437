use Rattle.std.proofs.Common.{[], false, sym, subst, ◌≡◌, ◌∙◌}
use Rattle.std.proofs.lemmas.Bool.{false≢true}
use Rattle.lnbd_copy.specs.Way.{Stand}
use Rattle.lnbd_connections.specs.Uses.{Uses}
use Rattle.lnbd_connections.proofs.UseLemmas.{uses_then}
use Rattle.lnbd_copyfile.proofs.LinkClauses.{acted_uses}
use Rattle.lnbd_copyfile.specs.FromFile.{GoesFurther, Seen}
use Rattle.lnbd_copyfile.proofs.FromFileLemmas.{further_round}
use Rattle.lnbd_copyfile.proofs.from_file.FromFile.turn.Goals as goal
use Rattle.lnbd_copyfile.proofs.from_file.FromFile.turn.Goals.{else-acted, then-acted}
use Rattle.lnbd_copyfile.specs.Given.{AsksFurther}
use Rattle.lnbd_copyfile.proofs.GivenLemmas.{asks_further, asks_later}
use Rattle.lnbd_copyfile.proofs.ShareFromLemmas.{round_few, sharing_round, turned_shares}
use Rattle.lnbd_copyfile.specs.SharingFrom.{IsSharing}
use Rattle.lnbd_copyfile.proofs.FromFilePauseLemmas.{full_turned_from, rests_turned_from}
use Rattle.lnbd_copyfile.specs.FromFilePauses.{GoesFull, RestsFull}
use Rattle.lnbd_copy.proofs.PauseLemmas.{unpaused_then}

pub returns-in-Ok-Some-clause-on : goal.returns-in-Ok-Some-clause-on
returns-in-Ok-Some-clause-on g c =
    let was : Seen = record { options = c.self.inside.options; start = c.self.inside.start; held = c.self.inside.handles; board = c.self.inside.board } in
    let mid : Seen = record { options = c.self.inside.options; start = c.self.inside.start; held = c.take_turn.new.handles; board = c.take_turn.new.board } in
    let acted : Seen = record { options = c.self.inside.options; start = c.self.inside.start; held = c.act.new.handles; board = c.act.new.board } in
    subst (λ (s : Seen). GoesFurther c.args.file c.args.job.now c.act.new.self (g.W.Wires.told c.args.wires.now) (g.W.Wires.told c.part-parted.new.wires) s c.part-parted.new.self
    (g.S.Store.shelf c.args.store.now) (g.S.Store.shelf c.act.new.store) (g.S.Store.given c.args.store.now) (g.S.Store.given c.act.new.store)) c.self.view_is
    (further_round c.args.file c.args.job.now c.act.new.self _ _ _ was mid acted c.part-parted.new.self _ _ _ _ c.in-Ok.ensures.goes c.take_turn.ensures.asks.lasts c.in-Ok-act.ensures.acts
    (c.part-parted.ensures.on c.args.file _ _))

pub returns-after-acted-clause-on : goal.returns-after-acted-clause-on
returns-after-acted-clause-on g c =
    let was : Seen = record { options = c.self.inside.options; start = c.self.inside.start; held = c.self.inside.handles; board = c.self.inside.board } in
    let mid : Seen = record { options = c.self.inside.options; start = c.self.inside.start; held = c.take_turn.new.handles; board = c.take_turn.new.board } in
    let acted : Seen = record { options = c.self.inside.options; start = c.self.inside.start; held = c.act.new.handles; board = c.act.new.board } in
    subst (λ (s : Seen). GoesFurther c.args.file c.args.job.now c.act.new.self (g.W.Wires.told c.args.wires.now) (g.W.Wires.told c.part-parted.new.wires) s c.part-parted.new.self
    (g.S.Store.shelf c.args.store.now) (g.S.Store.shelf c.act.new.store) (g.S.Store.given c.args.store.now) (g.S.Store.given c.act.new.store)) c.self.view_is
    (further_round c.args.file c.args.job.now c.act.new.self _ _ _ was mid acted c.part-parted.new.self _ _ _ _ c.in-Ok.ensures.goes c.take_turn.ensures.asks.lasts c.in-Ok-act.ensures.acts
    (c.part-parted.ensures.on c.args.file _ _))

pub returns-after-acted-clause-ends : goal.returns-after-acted-clause-ends
returns-after-acted-clause-ends g c = c.progress_of.ensures.so c.act.new.self c.part-parted.new.self

pub returns-after-acted-clause-untroubled : goal.returns-after-acted-clause-untroubled
returns-after-acted-clause-untroubled g c = c.progress_of.ensures.well _ _ _

pub returns-in-Err-clause-shares : goal.returns-in-Err-clause-shares
returns-in-Err-clause-shares g c = λ terms from s.
    let was : Seen = record { options = c.self.inside.options; start = c.self.inside.start; held = c.self.inside.handles; board = c.self.inside.board } in
    turned_shares terms from _ _ c.args.job.now was c.take_turn.ensures.few
    (subst (λ (o : Seen). IsSharing terms from (g.W.Wires.told c.args.wires.now) c.args.job.now o) (sym c.self.view_is) s)

pub returns-in-Err-act-clause-shares : goal.returns-in-Err-act-clause-shares
returns-in-Err-act-clause-shares g c = λ terms from s.
    let was : Seen = record { options = c.self.inside.options; start = c.self.inside.start; held = c.self.inside.handles; board = c.self.inside.board } in
    turned_shares terms from _ _ c.args.job.now was c.take_turn.ensures.few
    (subst (λ (o : Seen). IsSharing terms from (g.W.Wires.told c.args.wires.now) c.args.job.now o) (sym c.self.view_is) s)

pub returns-in-Ok-Some-clause-shares : goal.returns-in-Ok-Some-clause-shares
returns-in-Ok-Some-clause-shares g c = λ terms from s.
    let was : Seen = record { options = c.self.inside.options; start = c.self.inside.start; held = c.self.inside.handles; board = c.self.inside.board } in
    round_few terms from _ _ _ c.args.job.now was c.take_turn.ensures.few c.part-parted.ensures.idly
    (subst (λ (o : Seen). IsSharing terms from (g.W.Wires.told c.args.wires.now) c.args.job.now o) (sym c.self.view_is) s)

pub returns-in-Ok-Some-clause-sharing : goal.returns-in-Ok-Some-clause-sharing
returns-in-Ok-Some-clause-sharing g c = λ terms from s.
    let was : Seen = record { options = c.self.inside.options; start = c.self.inside.start; held = c.self.inside.handles; board = c.self.inside.board } in
    let mid : Seen = record { options = c.self.inside.options; start = c.self.inside.start; held = c.take_turn.new.handles; board = c.take_turn.new.board } in
    let acted : Seen = record { options = c.self.inside.options; start = c.self.inside.start; held = c.act.new.handles; board = c.act.new.board } in
    sharing_round terms c.args.file from _ _ _ c.args.job.now c.act.new.self was mid acted c.part-parted.new.self c.in-Ok.ensures.goes c.in-Ok.ensures.binds c.in-Ok-act.ensures.acts
    c.in-Ok-act.ensures.spread c.act.ensures.terms (c.part-parted.ensures.sharing terms from)
    (subst (λ (o : Seen). IsSharing terms from (g.W.Wires.told c.args.wires.now) c.args.job.now o) (sym c.self.view_is) s)

pub returns-after-acted-clause-shares : goal.returns-after-acted-clause-shares
returns-after-acted-clause-shares g c = λ terms from s.
    let was : Seen = record { options = c.self.inside.options; start = c.self.inside.start; held = c.self.inside.handles; board = c.self.inside.board } in
    round_few terms from _ _ _ c.args.job.now was c.take_turn.ensures.few c.part-parted.ensures.idly
    (subst (λ (o : Seen). IsSharing terms from (g.W.Wires.told c.args.wires.now) c.args.job.now o) (sym c.self.view_is) s)

pub returns-after-acted-clause-sharing : goal.returns-after-acted-clause-sharing
returns-after-acted-clause-sharing g c = λ terms from s.
    let was : Seen = record { options = c.self.inside.options; start = c.self.inside.start; held = c.self.inside.handles; board = c.self.inside.board } in
    let mid : Seen = record { options = c.self.inside.options; start = c.self.inside.start; held = c.take_turn.new.handles; board = c.take_turn.new.board } in
    let acted : Seen = record { options = c.self.inside.options; start = c.self.inside.start; held = c.act.new.handles; board = c.act.new.board } in
    sharing_round terms c.args.file from _ _ _ c.args.job.now c.act.new.self was mid acted c.part-parted.new.self c.in-Ok.ensures.goes c.in-Ok.ensures.binds c.in-Ok-act.ensures.acts
    c.in-Ok-act.ensures.spread c.act.ensures.terms (c.part-parted.ensures.sharing terms from)
    (subst (λ (o : Seen). IsSharing terms from (g.W.Wires.told c.args.wires.now) c.args.job.now o) (sym c.self.view_is) s)

pub returns-in-Err-look-clause-shares : goal.returns-in-Err-look-clause-shares
returns-in-Err-look-clause-shares g c = λ terms from s.
    let was : Seen = record { options = c.self.inside.options; start = c.self.inside.start; held = c.self.inside.handles; board = c.self.inside.board } in
    round_few terms from _ _ _ c.args.job.now was c.take_turn.ensures.few c.part-parted.ensures.idly
    (subst (λ (o : Seen). IsSharing terms from (g.W.Wires.told c.args.wires.now) c.args.job.now o) (sym c.self.view_is) s)

pub returns-in-Err-clause-asks : goal.returns-in-Err-clause-asks
returns-in-Err-clause-asks g c =
    let was : Seen = record { options = c.self.inside.options; start = c.self.inside.start; held = c.self.inside.handles; board = c.self.inside.board } in
    subst (λ (s : Seen). AsksFurther c.args.file c.args.job.now (g.W.Wires.told c.args.wires.now) (g.W.Wires.told c.take_turn.new.wires) s (g.S.Store.shelf c.args.store.now) (g.S.Store.given c.args.store.now))
    c.self.view_is
    (asks_further c.args.file c.args.job.now _ _ was _ _ c.take_turn.ensures.asks)

pub returns-in-Err-act-clause-asks : goal.returns-in-Err-act-clause-asks
returns-in-Err-act-clause-asks g c =
    let was : Seen = record { options = c.self.inside.options; start = c.self.inside.start; held = c.self.inside.handles; board = c.self.inside.board } in
    subst (λ (s : Seen). AsksFurther c.args.file c.args.job.now (g.W.Wires.told c.args.wires.now) (g.W.Wires.told c.take_turn.new.wires) s (g.S.Store.shelf c.args.store.now) (g.S.Store.given c.args.store.now))
    c.self.view_is
    (asks_further c.args.file c.args.job.now _ _ was _ _ c.take_turn.ensures.asks)

pub returns-in-Ok-Some-clause-asks : goal.returns-in-Ok-Some-clause-asks
returns-in-Ok-Some-clause-asks g c =
    let was : Seen = record { options = c.self.inside.options; start = c.self.inside.start; held = c.self.inside.handles; board = c.self.inside.board } in
    subst (λ (s : Seen). AsksFurther c.args.file c.args.job.now (g.W.Wires.told c.args.wires.now) (g.W.Wires.told c.part-parted.new.wires) s (g.S.Store.shelf c.args.store.now) (g.S.Store.given c.args.store.now))
    c.self.view_is
    (asks_later c.args.file c.args.job.now _ _ _ was _ _ (asks_further c.args.file c.args.job.now _ _ was _ _ c.take_turn.ensures.asks) c.part-parted.ensures.idly)

pub returns-after-acted-clause-asks : goal.returns-after-acted-clause-asks
returns-after-acted-clause-asks g c =
    let was : Seen = record { options = c.self.inside.options; start = c.self.inside.start; held = c.self.inside.handles; board = c.self.inside.board } in
    subst (λ (s : Seen). AsksFurther c.args.file c.args.job.now (g.W.Wires.told c.args.wires.now) (g.W.Wires.told c.part-parted.new.wires) s (g.S.Store.shelf c.args.store.now) (g.S.Store.given c.args.store.now))
    c.self.view_is
    (asks_later c.args.file c.args.job.now _ _ _ was _ _ (asks_further c.args.file c.args.job.now _ _ was _ _ c.take_turn.ensures.asks) c.part-parted.ensures.idly)

pub returns-in-Err-look-clause-asks : goal.returns-in-Err-look-clause-asks
returns-in-Err-look-clause-asks g c =
    let was : Seen = record { options = c.self.inside.options; start = c.self.inside.start; held = c.self.inside.handles; board = c.self.inside.board } in
    subst (λ (s : Seen). AsksFurther c.args.file c.args.job.now (g.W.Wires.told c.args.wires.now) (g.W.Wires.told c.part-parted.new.wires) s (g.S.Store.shelf c.args.store.now) (g.S.Store.given c.args.store.now))
    c.self.view_is
    (asks_later c.args.file c.args.job.now _ _ _ was _ _ (asks_further c.args.file c.args.job.now _ _ was _ _ c.take_turn.ensures.asks) c.part-parted.ensures.idly)

pub returns-in-Err-clause-uses : goal.returns-in-Err-clause-uses
returns-in-Err-clause-uses g c =
    subst (λ (s : Seen). Uses false s.start.idles [] s.held (g.W.Wires.told c.args.wires.now) (g.W.Wires.idles c.args.wires.now) c.take_turn.new.handles (g.W.Wires.told c.take_turn.new.wires)
    (g.W.Wires.idles c.take_turn.new.wires)) c.self.view_is
    (c.take_turn.ensures.uses (subst (λ (s : Seen). Stand s.held) (sym c.self.view_is) c.requires.runs.stand))

pub returns-in-Err-act-clause-uses : goal.returns-in-Err-act-clause-uses
returns-in-Err-act-clause-uses g c =
    subst (λ (s : Seen). Uses false s.start.idles [] s.held (g.W.Wires.told c.args.wires.now) (g.W.Wires.idles c.args.wires.now) c.act.new.handles (g.W.Wires.told c.take_turn.new.wires)
    (g.W.Wires.idles c.take_turn.new.wires)) c.self.view_is
    (acted_uses false _ _ _ _ _ _ _ _ (c.take_turn.ensures.uses (subst (λ (s : Seen). Stand s.held) (sym c.self.view_is) c.requires.runs.stand)) c.act.ensures.links)

pub returns-in-Ok-Some-clause-uses : goal.returns-in-Ok-Some-clause-uses
returns-in-Ok-Some-clause-uses g c =
    subst (λ (s : Seen). Uses false s.start.idles [] s.held (g.W.Wires.told c.args.wires.now) (g.W.Wires.idles c.args.wires.now) c.part-parted.new.self.held (g.W.Wires.told
    c.part-parted.new.wires) (g.W.Wires.idles c.part-parted.new.wires)) c.self.view_is
    (uses_then _ _ _ _ _ _ _ _ _ _ _ (acted_uses false _ _ _ _ _ _ _ _ (c.take_turn.ensures.uses (subst (λ (s : Seen). Stand s.held) (sym c.self.view_is) c.requires.runs.stand))
    c.act.ensures.links) (c.part-parted.ensures.uses _))

pub returns-after-acted-clause-uses : goal.returns-after-acted-clause-uses
returns-after-acted-clause-uses g c =
    subst (λ (s : Seen). Uses false s.start.idles [] s.held (g.W.Wires.told c.args.wires.now) (g.W.Wires.idles c.args.wires.now) c.part-parted.new.self.held (g.W.Wires.told
    c.part-parted.new.wires) (g.W.Wires.idles c.part-parted.new.wires)) c.self.view_is
    (uses_then _ _ _ _ _ _ _ _ _ _ _ (acted_uses false _ _ _ _ _ _ _ _ (c.take_turn.ensures.uses (subst (λ (s : Seen). Stand s.held) (sym c.self.view_is) c.requires.runs.stand))
    c.act.ensures.links) (c.part-parted.ensures.uses _))

pub returns-in-Err-look-clause-uses : goal.returns-in-Err-look-clause-uses
returns-in-Err-look-clause-uses g c =
    subst (λ (s : Seen). Uses false s.start.idles [] s.held (g.W.Wires.told c.args.wires.now) (g.W.Wires.idles c.args.wires.now) c.part-parted.new.self.held (g.W.Wires.told
    c.part-parted.new.wires) (g.W.Wires.idles c.part-parted.new.wires)) c.self.view_is
    (uses_then _ _ _ _ _ _ _ _ _ _ _ (acted_uses false _ _ _ _ _ _ _ _ (c.take_turn.ensures.uses (subst (λ (s : Seen). Stand s.held) (sym c.self.view_is) c.requires.runs.stand))
    c.act.ensures.links) (c.part-parted.ensures.uses _))

pub returns-in-Ok-Some-clause-full : goal.returns-in-Ok-Some-clause-full
returns-in-Ok-Some-clause-full g c =
    let was : Seen = record { options = c.self.inside.options; start = c.self.inside.start; held = c.self.inside.handles; board = c.self.inside.board } in
    let mid : Seen = record { options = c.self.inside.options; start = c.self.inside.start; held = c.take_turn.new.handles; board = c.take_turn.new.board } in
    let acted : Seen = record { options = c.self.inside.options; start = c.self.inside.start; held = c.act.new.handles; board = c.act.new.board } in
    subst (λ (s : Seen). GoesFull c.args.file c.args.job.now c.act.new.self (g.W.Wires.told c.args.wires.now) (g.W.Wires.told c.part-parted.new.wires) s c.part-parted.new.self
    (g.S.Store.shelf c.args.store.now) (g.S.Store.shelf c.act.new.store) (g.S.Store.given c.args.store.now) (g.S.Store.given c.act.new.store)) c.self.view_is
    (full_turned_from c.args.file c.args.job.now c.act.new.self was mid acted c.part-parted.new.self _ _ _ _ _ _ _ c.in-Ok.ensures.goes (λ stand. (c.take_turn.ensures.uses stand).links)
    c.take_turn.ensures.unpaused c.act.ensures.links c.in-Ok-act.ensures.acts.parts c.act.ensures.terms c.act.ensures.ends c.in-Ok-act.ensures.most c.part-parted.ensures.stays
    (c.part-parted.ensures.uses 0).links c.part-parted.ensures.unpaused
    (further_round c.args.file c.args.job.now c.act.new.self _ _ _ was mid acted c.part-parted.new.self _ _ _ _ c.in-Ok.ensures.goes c.take_turn.ensures.asks.lasts c.in-Ok-act.ensures.acts
    (c.part-parted.ensures.on c.args.file _ _)))

pub returns-after-acted-clause-full : goal.returns-after-acted-clause-full
returns-after-acted-clause-full g c =
    let was : Seen = record { options = c.self.inside.options; start = c.self.inside.start; held = c.self.inside.handles; board = c.self.inside.board } in
    let mid : Seen = record { options = c.self.inside.options; start = c.self.inside.start; held = c.take_turn.new.handles; board = c.take_turn.new.board } in
    let acted : Seen = record { options = c.self.inside.options; start = c.self.inside.start; held = c.act.new.handles; board = c.act.new.board } in
    subst (λ (s : Seen). GoesFull c.args.file c.args.job.now c.act.new.self (g.W.Wires.told c.args.wires.now) (g.W.Wires.told c.part-parted.new.wires) s c.part-parted.new.self
    (g.S.Store.shelf c.args.store.now) (g.S.Store.shelf c.act.new.store) (g.S.Store.given c.args.store.now) (g.S.Store.given c.act.new.store)) c.self.view_is
    (full_turned_from c.args.file c.args.job.now c.act.new.self was mid acted c.part-parted.new.self _ _ _ _ _ _ _ c.in-Ok.ensures.goes (λ stand. (c.take_turn.ensures.uses stand).links)
    c.take_turn.ensures.unpaused c.act.ensures.links c.in-Ok-act.ensures.acts.parts c.act.ensures.terms c.act.ensures.ends c.in-Ok-act.ensures.most c.part-parted.ensures.stays
    (c.part-parted.ensures.uses 0).links c.part-parted.ensures.unpaused
    (further_round c.args.file c.args.job.now c.act.new.self _ _ _ was mid acted c.part-parted.new.self _ _ _ _ c.in-Ok.ensures.goes c.take_turn.ensures.asks.lasts c.in-Ok-act.ensures.acts
    (c.part-parted.ensures.on c.args.file _ _)))

pub returns-in-Err-clause-unpaused : goal.returns-in-Err-clause-unpaused
returns-in-Err-clause-unpaused g c = c.take_turn.ensures.unpaused (subst (λ (s : Seen). Stand s.held) (sym c.self.view_is) c.requires.runs.stand)

pub returns-in-Err-act-clause-unpaused : goal.returns-in-Err-act-clause-unpaused
returns-in-Err-act-clause-unpaused g c = c.take_turn.ensures.unpaused (subst (λ (s : Seen). Stand s.held) (sym c.self.view_is) c.requires.runs.stand)

pub returns-in-Ok-Some-clause-unpaused : goal.returns-in-Ok-Some-clause-unpaused
returns-in-Ok-Some-clause-unpaused g c =
    unpaused_then _ _ _ (c.take_turn.ensures.unpaused (subst (λ (s : Seen). Stand s.held) (sym c.self.view_is) c.requires.runs.stand)) c.part-parted.ensures.unpaused

pub returns-after-acted-clause-unpaused : goal.returns-after-acted-clause-unpaused
returns-after-acted-clause-unpaused g c =
    unpaused_then _ _ _ (c.take_turn.ensures.unpaused (subst (λ (s : Seen). Stand s.held) (sym c.self.view_is) c.requires.runs.stand)) c.part-parted.ensures.unpaused

pub returns-in-Err-look-clause-unpaused : goal.returns-in-Err-look-clause-unpaused
returns-in-Err-look-clause-unpaused g c =
    unpaused_then _ _ _ (c.take_turn.ensures.unpaused (subst (λ (s : Seen). Stand s.held) (sym c.self.view_is) c.requires.runs.stand)) c.part-parted.ensures.unpaused

pub returns-after-acted-clause-rests : goal.returns-after-acted-clause-rests
returns-after-acted-clause-rests g c = λ still.
    let none = (c.progress_of.ensures.still still).1 in
    let nothing : c.in-Ok-act.acted ≡ false = elim c.if-acted.branch [
      | then-acted w ↦ absurd (false≢true (sym none ∙ w.progress_of-is ∙ w.if-acted.true))
      | else-acted w ↦ w.if-acted.false
    ] in
    let was : Seen = record { options = c.self.inside.options; start = c.self.inside.start; held = c.self.inside.handles; board = c.self.inside.board } in
    let mid : Seen = record { options = c.self.inside.options; start = c.self.inside.start; held = c.take_turn.new.handles; board = c.take_turn.new.board } in
    let acted : Seen = record { options = c.self.inside.options; start = c.self.inside.start; held = c.act.new.handles; board = c.act.new.board } in
    subst (λ (s : Seen). RestsFull c.args.file c.args.job.now (g.W.Wires.told c.args.wires.now) (g.W.Wires.told c.part-parted.new.wires) s c.part-parted.new.self
    (g.S.Store.shelf c.args.store.now) (g.S.Store.given c.args.store.now)) c.self.view_is
    (rests_turned_from c.args.file c.args.job.now c.act.new.self was mid acted c.part-parted.new.self _ _ _ _ _ _ _ c.in-Ok.ensures.goes (λ stand. (c.take_turn.ensures.uses stand).links)
    c.take_turn.ensures.unpaused c.act.ensures.links c.in-Ok-act.ensures.acts.parts c.act.ensures.terms c.act.ensures.ends c.in-Ok-act.ensures.most c.part-parted.ensures.stays
    (c.part-parted.ensures.uses 0).links c.part-parted.ensures.unpaused
    (further_round c.args.file c.args.job.now c.act.new.self _ _ _ was mid acted c.part-parted.new.self _ _ _ _ c.in-Ok.ensures.goes c.take_turn.ensures.asks.lasts c.in-Ok-act.ensures.acts
    (c.part-parted.ensures.on c.args.file _ _))
    c.in-Ok-None.ensures.well (c.in-Ok-act.ensures.waits nothing))

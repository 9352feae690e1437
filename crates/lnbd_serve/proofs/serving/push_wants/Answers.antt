use Rattle.std.proofs.Common.{◌++◌, ap, arith, map, sym, append-nil, ◌∙◌}
use Rattle.std.proofs.lemmas.List.{take_all}
use Rattle.lnbd_serve.specs.declared.guest.Guest.{Guest}
use Rattle.std.proofs.Common.{List}
use Rattle.lnbd_serve.specs.Halls.{want_of}
use Rattle.lnbd_serve.proofs.ServeLemmas.{wants_more}
use Rattle.lnbd_serve.proofs.serving.push_wants.Goals as goal

pub guests-init : goal.guests-init
guests-init c = sym (append-nil c.args.wants.now.items)

pub guests-preserved : goal.guests-preserved
guests-preserved c =
    wants_more c.args.all.now.items c.guests.i c.index.result.now c.want.result c.args.wants.now.items c.guests.wants.items _ (omega (arith, c.guests-test.true, c.args.all.now.ok.0)) c.index.ensures c.want.ensures c.guests.invariant c.in_ok-push.ensures.items

pub returns : goal.returns
returns c = c.guests.invariant ∙ ap (λ (gs : List Guest). c.args.wants.now.items ++ map want_of gs) (take_all c.guests.i c.args.all.now.items (omega (arith, c.guests-test.false, c.args.all.now.ok.0)))

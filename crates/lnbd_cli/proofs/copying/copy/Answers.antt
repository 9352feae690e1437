use Rattle.std.proofs.Common.{refl}
use Rattle.lnbd_conduct.specs.Conduct.{Conducts}
use Rattle.lnbd_cli.specs.Copies.{Copied, Failed, CameToEnd, WasMade}
use Rattle.lnbd_cli.proofs.CopyLemmas.{between_words, by_words, copied_by, decided_by, grounded_by, told_link, told_silent}
use Rattle.lnbd_cli.proofs.copying.copy.Goals as goal

pub returns-in-Ok-clause-ends : goal.returns-in-Ok-clause-ends
returns-in-Ok-clause-ends g c = Copied refl (record {
  copied = copied_by c.new.result c.args.what.from c.args.what.to c.args.what.options (g.W.Wires.told c.args.wires.now) (g.W.Wires.told c.run.new.wires) c.new.ensures.what c.in-Ok.ensures.copies;
  made = between_words WasMade c.new.result c.args.what.from c.args.what.to c.args.what.options (g.W.Wires.told c.args.wires.now) (g.W.Wires.told c.run.new.wires) c.new.ensures.what
      (λ apart all part is grows. (_, c.in-Ok.ensures.made apart all part is grows));
  conduct = by_words Conducts c.new.result c.args.what.from c.args.what.to c.args.what.options (g.W.Wires.told c.args.wires.now)
      (g.W.Wires.told c.run.new.wires) c.new.ensures.what c.run.ensures.conducts;
  parted = by_words CameToEnd c.new.result c.args.what.from c.args.what.to c.args.what.options (g.W.Wires.told c.args.wires.now) (g.W.Wires.told c.run.new.wires) c.new.ensures.what
      (λ all part is grows. record {
        connects = c.in-Ok.ensures.connects all part is grows;
        connected = c.in-Ok.ensures.connected all part is grows;
        driven = c.in-Ok.ensures.driven all
            part is grows;
        left = c.in-Ok.ensures.left all part is grows;
      });
})

pub returns-in-Err-clause-ends : goal.returns-in-Err-clause-ends
returns-in-Err-clause-ends g c = Failed c.in-Err.fault c.told.result refl c.told.ensures.told (record {
  grounds = grounded_by c.new.result c.args.what.from c.args.what.to c.args.what.options (g.W.Wires.told c.args.wires.now)
      (g.W.Wires.told c.run.new.wires) _ c.new.ensures.what c.in-Err.ensures.grounds;
  conduct = by_words Conducts c.new.result c.args.what.from c.args.what.to c.args.what.options (g.W.Wires.told c.args.wires.now)
      (g.W.Wires.told c.run.new.wires) c.new.ensures.what c.run.ensures.conducts;
  decided = decided_by c.new.result c.args.what.from c.args.what.to c.args.what.options (g.W.Wires.told c.args.wires.now)
      (g.W.Wires.told c.run.new.wires) _ c.new.ensures.what c.in-Err.ensures.decides;
})

pub returns-in-Err-clause-link : goal.returns-in-Err-clause-link
returns-in-Err-clause-link g c = told_link c.in-Err.fault c.told.result _ _ _ c.told.ensures.told c.in-Err.ensures.causes

pub returns-in-Err-clause-silent : goal.returns-in-Err-clause-silent
returns-in-Err-clause-silent g c = told_silent c.in-Err.fault c.told.result _ _ _ c.told.ensures.told c.in-Err.ensures.causes

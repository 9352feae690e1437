use Rattle.std.proofs.Common.{◌≡◌, ℕ, List, refl, sym, subst, arith, length, take}
use Rattle.lnbd_link.specs.Call.{Read, Moved}
use Rattle.lnbd_link.specs.Part.{Adds}
use Rattle.lnbd_serve.proofs.TurnLemmas.{read_some, read_part, read_none, read_end, read_failed}
use Rattle.lnbd_serve.proofs.guest.Guest.read.Goals as goal

pub returns-in-Ok-clause-ok : goal.returns-in-Ok-clause-ok
returns-in-Ok-clause-ok g c =
    let front : c.split_at.result.0.now ≡ take c.in-Bytes.n c.read.new.into = c.split_at.ensures.front in
    let size : length c.split_at.result.0.now ≡ c.in-Bytes.n = c.split_at.ensures.front_len in
    read_some _ _ c.args.self.now _ c.args.export.now _ (length c.args.buffer.now) c.split_at.result.0.now c.requires.may (omega (arith, size, c.in-Bytes.ensures.count.0))
    (subst (λ (bytes : List ℕ). Adds (g.W.Wires.told c.args.wires.now) (g.W.Wires.told c.read.new.self) (Read c.args.self.now.link (length c.args.buffer.now) (Moved bytes))) (sym front) c.in-Bytes.ensures.told) c.in-Ok.ensures.ok c.in-Ok.ensures.same

pub returns-in-Err-clause-err : goal.returns-in-Err-clause-err
returns-in-Err-clause-err g c =
    let front : c.split_at.result.0.now ≡ take c.in-Bytes.n c.read.new.into = c.split_at.ensures.front in
    read_part _ _ c.args.self.now _ c.args.export.now _ (length c.args.buffer.now) c.split_at.result.0.now c.in-Err.why c.requires.may
    (subst (λ (bytes : List ℕ). Adds (g.W.Wires.told c.args.wires.now) (g.W.Wires.told c.read.new.self) (Read c.args.self.now.link (length c.args.buffer.now) (Moved bytes))) (sym front) c.in-Bytes.ensures.told) c.in-Err.ensures.err c.in-Err.ensures.same

pub returns-in-NotReady-clause-ok : goal.returns-in-NotReady-clause-ok
returns-in-NotReady-clause-ok g c = read_none _ _ c.args.self.now c.args.export.now _ c.requires.may c.in-NotReady.ensures.told

pub returns-in-End-clause-ok : goal.returns-in-End-clause-ok
returns-in-End-clause-ok g c = read_end _ _ c.args.self.now _ c.args.export.now _ c.requires.may c.in-End.ensures.told refl

pub returns-in-Failed-clause-err : goal.returns-in-Failed-clause-err
returns-in-Failed-clause-err g c = read_failed _ _ c.args.self.now c.args.export.now _ c.requires.may c.in-Failed.ensures.told

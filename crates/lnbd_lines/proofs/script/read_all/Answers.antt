use Rattle.std.proofs.Common.{◌≡◌, ◌+◌, Err, ap, arith, option_copied, Some, subst, sym}
use Rattle.lnbd_lines.proofs.ScriptLemmas.{Progress, all_read, cut_at, left_at, line_read, line_refused, nothing_read}
use Rattle.lnbd_lines.specs.Grammar.{IsLawful}
use Rattle.lnbd_lines.specs.Scripts.{IsFault}
use Rattle.lnbd_lines.proofs.script.read_all.Goals as goal

pub loop-rest-init : goal.loop-rest-init
loop-rest-init c = subst (λ script. Progress c.args.bytes.now (Some c.args.bytes.now) script 0) (sym c.new.ensures.items) (nothing_read c.args.bytes.now)

pub overflow_add-number : goal.overflow_add-number
overflow_add-number c =
    let bound = c.loop-rest.invariant.bound in
    let fewer = left_at c.loop-rest.rest c.first_line.result.1 c.in-Some.text c.in-Some.is c.first_line.ensures.shorter in
    omega arith

pub loop-rest-smaller : goal.loop-rest-smaller
loop-rest-smaller c =
    let fewer = left_at c.loop-rest.rest c.first_line.result.1 c.in-Some.text c.in-Some.is c.first_line.ensures.shorter in
    omega arith

pub loop-rest-preserved : goal.loop-rest-preserved
loop-rest-preserved c =
    line_read c.args.bytes.now c.first_line.result.0.now (option_copied c.loop-rest.rest) (option_copied c.first_line.result.1)
    c.loop-rest.script c.add.new.self c.loop-rest.number c.in-Ok.ensures.ok.0
    (cut_at c.loop-rest.rest c.first_line.result.1 c.in-Some.text c.first_line.result.0.now c.in-Some.is c.first_line.ensures.cut)
    (left_at c.loop-rest.rest c.first_line.result.1 c.in-Some.text c.in-Some.is c.first_line.ensures.shorter)
    c.in-Ok.ensures.ok.1 c.in-Ok.ensures.ok.2 c.loop-rest.invariant

pub returns-in-Err-Outside-clause-fault : goal.returns-in-Err-Outside-clause-fault
returns-in-Err-Outside-clause-fault c n e =
    let outside : IsLawful c.first_line.result.0.now → ⊥ = c.in-Err-Outside.ensures.outside (ap Err c.in-Err-Outside.field-0-is) in
    let here : IsFault c.args.bytes.now (c.loop-rest.number + 1) = line_refused c.args.bytes.now c.first_line.result.0.now (option_copied c.loop-rest.rest) (option_copied c.first_line.result.1)
    c.loop-rest.script c.loop-rest.number
    (cut_at c.loop-rest.rest c.first_line.result.1 c.in-Some.text c.first_line.result.0.now c.in-Some.is c.first_line.ensures.cut)
    c.requires outside c.loop-rest.invariant in
    let same : c.loop-rest.number + 1 ≡ n = cc in
    subst (IsFault c.args.bytes.now) same here

pub returns-clause-script : goal.returns-clause-script
returns-clause-script c =
    all_read c.args.bytes.now c.loop-rest.script c.loop-rest.number c.requires
    (subst (λ r. Progress c.args.bytes.now (option_copied r) c.loop-rest.script c.loop-rest.number) c.in_default.is c.loop-rest.invariant)

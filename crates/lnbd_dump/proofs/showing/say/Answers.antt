use Rattle.std.proofs.Common.{ap, ◌-◌, ◌∙◌, take, drop, ℕ, List, false}
use Rattle.lnbd_dump.proofs.LeadLemmas.{leads_none}
use Rattle.lnbd_dump.proofs.ShowLemmas.{says_none, says_taken}
use Rattle.lnbd_dump.proofs.showing.say.Goals as goal

pub returns-in-None-clause-says : goal.returns-in-None-clause-says
returns-in-None-clause-says c seen at = (
  seen,
  at,
  leads_none false seen,
  (
    c.say_zeros.ensures.stops seen.history,
    says_none c.say_zeros.result seen.history c.args.offset c.args.end c.cut-from.result.0 c.cut-from.result.1 c.args.part c.args.dumper.now c.say_zeros.new.dumper c.args.text.now.items c.say_zeros.new.text.items
        c.requires.empty c.cut-from.ensures.shown c.cut-from.ensures.order c.cut-from.ensures.place c.cut-from.ensures.within c.in-None.is c.say_zeros.ensures.fed,
  ),
)

pub returns-in-Ok-clause-says : goal.returns-in-Ok-clause-says
returns-in-Ok-clause-says c seen at =
    let a = c.in-Ok.ensures.takes seen at in (
      a.0,
      a.1,
      a.2,
      (
        c.say_bytes.ensures.stops a.0.history,
        says_taken c.say_bytes.result seen.history a.0.history c.args.offset c.args.end c.cut-from.result.0 c.cut-from.result.1 c.in-Some.cookie c.args.part c.args.dumper.now c.say_bytes.new.dumper c.in-Ok.bytes c.middle.result.now c.args.text.now.items c.say_bytes.new.text.items
            c.requires.empty c.cut-from.ensures.shown c.cut-from.ensures.order c.cut-from.ensures.place c.cut-from.ensures.within c.in-Some.is a.3.2
            (c.middle.ensures.bytes ∙ ap (λ (t : List ℕ). take (c.cut-from.result.1 - c.cut-from.result.0) (drop c.cut-from.result.0 t)) c.as_slice.ensures) c.say_bytes.ensures.fed,
      ),
    )

pub returns-in-Err-clause-says : goal.returns-in-Err-clause-says
returns-in-Err-clause-says c seen at = let a = c.in-Err.ensures.takes seen at in (a.0, a.1, a.2, (a.3.0, (a.3.1, tt)))

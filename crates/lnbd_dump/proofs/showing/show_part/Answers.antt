use Rattle.std.proofs.Common.{ℕ, List, Ok, refl, subst}
use Rattle.lnbd_link.specs.Part.{Takes, TakesFront}
use Rattle.lnbd_dump.proofs.LaterLemmas.{tells_later}
use Rattle.lnbd_dump.proofs.ShowLemmas.{part_broken, part_shown, part_unsaid}
use Rattle.lnbd_dump.proofs.showing.show_part.Goals as goal

pub returns-in-Err-clause-shows : goal.returns-in-Err-clause-shows
returns-in-Err-clause-shows g c seen at =
    let a = c.in-Err.ensures.says seen at in
    (a.0, a.1, a.2, (a.3.0, (a.3.1.0, tt, λ taken. part_unsaid c.args.offset c.args.count c.args.part c.args.dumper.now (g.O.Sink.taken c.args.out.now) seen.history a.0.history (tells_later seen.history a.0.history a.2.later.grown))))

pub returns-in-Ok-put-clause-shows : goal.returns-in-Ok-put-clause-shows
returns-in-Ok-put-clause-shows g c seen at =
    let a = c.in-Ok.ensures.says seen at in
    let text = c.say.new.text.items in
    let all : Takes (g.O.Sink.taken c.args.out.now) (g.O.Sink.taken c.put.new.out) text = subst (λ (t : List ℕ). Takes (g.O.Sink.taken c.args.out.now) (g.O.Sink.taken c.put.new.out) t) c.as_slice.ensures.value c.in-Ok-put.ensures.all in
    let p = part_shown c.args.offset c.args.count c.args.part c.args.dumper.now c.say.new.dumper text (g.O.Sink.taken c.args.out.now) (g.O.Sink.taken c.put.new.out) seen.history a.0.history tt (Ok tt) refl a.3.1 all in
    (a.0, a.1, a.2, (tt, (p.0, (p.1, p.2), tt)))

pub returns-in-Err-put-clause-shows : goal.returns-in-Err-put-clause-shows
returns-in-Err-put-clause-shows g c seen at =
    let a = c.in-Ok.ensures.says seen at in
    let text = c.say.new.text.items in
    let cut : TakesFront (g.O.Sink.taken c.args.out.now) (g.O.Sink.taken c.put.new.out) text = subst (λ (t : List ℕ). TakesFront (g.O.Sink.taken c.args.out.now) (g.O.Sink.taken c.put.new.out) t) c.as_slice.ensures.value c.in-Err-put.ensures.front in
    let p = part_broken c.args.offset c.args.count c.args.part c.args.dumper.now c.say.new.dumper text (g.O.Sink.taken c.args.out.now) (g.O.Sink.taken c.put.new.out) seen.history a.0.history tt (Ok tt) refl a.3.1 cut in
    (a.0, a.1, a.2, (tt, (p.0, tt, p.1)))

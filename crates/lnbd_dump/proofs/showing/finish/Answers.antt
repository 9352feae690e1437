use Rattle.std.proofs.Common.{List, ℕ, inl, inr, refl, subst}
use Rattle.lnbd_hexdump.specs.Said.{Ends}
use Rattle.lnbd_link.specs.Part.{Takes, TakesFront}
use Rattle.lnbd_dump.proofs.showing.finish.Goals as goal

pub returns-in-Err-clause-ends : goal.returns-in-Err-clause-ends
returns-in-Err-clause-ends g c = (tt, inl refl)

pub returns-in-Ok-put-clause-ends : goal.returns-in-Ok-put-clause-ends
returns-in-Ok-put-clause-ends g c =
    let text = c.end.new.text.items in
    let old = g.O.Sink.taken c.args.out.now in
    let new = g.O.Sink.taken c.put.new.out in
    ((text, subst (λ (t : List ℕ). Takes old new t) c.as_slice.ensures.value c.in-Ok-put.ensures.all, subst (λ (t : List ℕ). Ends c.args.dumper.now t text) c.requires c.in-Ok.ensures), tt)

pub returns-in-Err-put-clause-ends : goal.returns-in-Err-put-clause-ends
returns-in-Err-put-clause-ends g c =
    let text = c.end.new.text.items in
    let old = g.O.Sink.taken c.args.out.now in
    let new = g.O.Sink.taken c.put.new.out in
    (tt, inr (text, subst (λ (t : List ℕ). TakesFront old new t) c.as_slice.ensures.value c.in-Err-put.ensures.front, subst (λ (t : List ℕ). Ends c.args.dumper.now t text) c.requires c.in-Ok.ensures))

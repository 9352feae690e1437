use Rattle.std.proofs.Common.{◌≡◌, ◌+◌, ◌++◌, take, drop, arith, sym, ◌∙◌, ap, subst, List, ℕ, take-append-drop, length, length-drop}
use Rattle.std.proofs.Math.Seq.{take-add}
use Rattle.std.proofs.lemmas.List.{append-nil}
use Rattle.lnbd_link.specs.Part.{Takes}
use Rattle.lnbd_link.proofs.Parts.{takes_on}
use Rattle.lnbd_link.proofs.whole.put.Goals as goal

pub writing-preserved : goal.writing-preserved
writing-preserved g c =
    let more = takes_on _ _ _ _ _ c.writing.invariant.taken c.in-Bytes.ensures.taken in
    let same : take c.writing.at c.args.bytes.now ++ take c.in-Bytes.n c.after.result.now ≡ take (c.writing.at + c.in-Bytes.n) c.args.bytes.now
    = ap (λ (l : List ℕ). take c.writing.at c.args.bytes.now ++ take c.in-Bytes.n l) c.after.ensures ∙ sym (take-add c.writing.at c.in-Bytes.n c.args.bytes.now) in
    let size = ap (λ (l : List ℕ). length l) c.after.ensures in
    record {
      within = omega (arith, c.in-Bytes.ensures.count, size, length-drop c.writing.at c.args.bytes.now);
      taken = subst (λ (p : List ℕ). Takes (g.O.Sink.taken c.args.out.now) (g.O.Sink.taken c.write.new.self) p) same more;
      still = c.in-Bytes.ensures.still ∙ c.writing.invariant.still;
    }

pub returns-in-Failed-clause-front : goal.returns-in-Failed-clause-front
returns-in-Failed-clause-front g c = record {
  front = take c.writing.at c.args.bytes.now;
  rest = drop c.writing.at c.args.bytes.now;
  split = sym (take-append-drop c.writing.at c.args.bytes.now);
  takes = subst (λ (p : List ℕ). Takes (g.O.Sink.taken c.args.out.now) (g.O.Sink.taken c.write.new.self) p) (append-nil _) (takes_on _ _ _ _ _ c.writing.invariant.taken c.in-Failed.ensures.taken);
}

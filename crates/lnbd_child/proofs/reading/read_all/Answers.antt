use Rattle.std.proofs.Common.{arith, ◌≡◌, ◌-◌, ◌+◌, ◌<◌, ◌≤◌, [], ℕ, length, take, drop, refl, sym, subst, ◌∙◌}
use Rattle.lnbd_link.specs.Part.{Adds}
use Rattle.lnbd_store.specs.Call.{ReadAt, Gave, Ended, ReadFault}
use Rattle.lnbd_store.specs.Effects.{IsAt}
use Rattle.lnbd_child.specs.declared.reading.Unread.TheVariants as unread
use Rattle.lnbd_child.specs.Grown.{Grew}
use Rattle.lnbd_child.specs.Reading.{No_part, Parts, Stops}
use Rattle.lnbd_child.specs.Steps.{IsFront, IsShort, Tells}
use Rattle.lnbd_child.proofs.CallLemmas.{parts_more, parts_fail, parts_end}
use Rattle.lnbd_child.proofs.FileLemmas.{front_more, front_nothing, short_then, tells_once}
use Rattle.lnbd_child.proofs.GrownLemmas.{grew_last, grew_none}
use Rattle.lnbd_child.proofs.TouchLemmas.{touches_none, touches_read, touches_then}
use Rattle.lnbd_child.proofs.reading.read_all.Goals as goal

pub parts-init : goal.parts-init
parts-init g c = record {
  same = refl;
  at = omega arith;
  front = touches_none c.args.file (IsFront []) _ (λ x. front_nothing x);
  parts = grew_none _ (Parts c.args.file (length c.args.bytes.now) []) (No_part [] [] refl refl);
  later = omega arith;
}

pub parts-preserved : goal.parts-preserved
parts-preserved g c =
    let file = c.args.file in
    let at = c.parts.at in
    let n = c.in-Bytes.n in
    let was = c.parts.bytes in
    let bytes = c.read_more.new.bytes in
    let size = length c.args.bytes.now in
    let inv = c.parts.invariant in
    let call = c.in-Bytes.ensures in
    let same : length was ≡ size = inv.same in
    let some : 0 < n = call.count.0 in
    let fits : at + n ≤ length bytes = omega (arith, call.count.1, call.same) in
    let more : at < size = omega (arith, c.parts-test.true, same) in
    let told : Adds (g.S.Store.told c.parts.store) (g.S.Store.told c.read_more.new.store) (ReadAt file at (size - at) (Gave (take n (drop at bytes)))) =
    subst (λ (k : ℕ). Adds (g.S.Store.told c.parts.store) (g.S.Store.told c.read_more.new.store) (ReadAt file at (k - at) (Gave (take n (drop at bytes))))) same call.told in
    record {
      same = call.same ∙ same;
      at = fits;
      front = touches_then file (IsFront (take at was)) (Tells at (take n (drop at bytes))) (IsFront (take (at + n) bytes)) _ _ _ (λ x y z f h. front_more at n was bytes x y z fits call.front f h) inv.front
          (touches_read file (Tells at (take n (drop at bytes))) (IsAt at n (drop at bytes)) _ _ (λ x is. tells_once at n bytes x fits is) call.shelf);
      parts = grew_last _ _ _ (ReadAt file at (size - at) (Gave (take n (drop at bytes)))) (Parts file size (take at was)) (Parts file size (take (at + n) bytes)) (λ calls p. parts_more file size at more n was bytes calls some fits call.front p) inv.parts told;
      later = omega (arith, inv.later, call.later);
    }

pub returns-in-End-clause-stops : goal.returns-in-End-clause-stops
returns-in-End-clause-stops g c =
    let at = c.parts.at in
    let size = length c.args.bytes.now in
    let inv = c.parts.invariant in
    let more : at < size = omega (arith, c.parts-test.true, inv.same) in
    let told : Adds (g.S.Store.told c.parts.store) (g.S.Store.told c.read_more.new.store) (ReadAt c.args.file at (size - at) Ended) =
    subst (λ (k : ℕ). Adds (g.S.Store.told c.parts.store) (g.S.Store.told c.read_more.new.store) (ReadAt c.args.file at (k - at) Ended)) inv.same c.in-End.ensures.told in
    subst (λ (k : ℕ). Grew (g.S.Store.told c.args.store.now) (g.S.Store.told c.read_more.new.store) (Stops c.args.file size (unread.Changed k at))) (sym (c.in-End.ensures.same ∙ inv.same))
    (grew_last _ _ _ (ReadAt c.args.file at (size - at) Ended) (Parts c.args.file size (take at c.parts.bytes)) (Stops c.args.file size (unread.Changed size at)) (λ calls p. parts_end c.args.file size at more c.parts.bytes calls inv.at p) inv.parts told)

pub returns-in-End-clause-short : goal.returns-in-End-clause-short
returns-in-End-clause-short g c =
    let at = c.parts.at in
    let size = length c.args.bytes.now in
    let more : at < size = omega (arith, c.parts-test.true, c.parts.invariant.same) in
    λ _. touches_then c.args.file (IsFront (take at c.parts.bytes)) (λ x y. (y ≡ x) × (length x ≤ at)) (IsShort size) _ _ _ (λ x y z f h. short_then at size (take at c.parts.bytes) x y z more f h) c.parts.invariant.front
    (touches_read c.args.file (λ x y. (y ≡ x) × (length x ≤ at)) (λ x. length x ≤ at) _ _ (λ x few. (refl, few)) c.in-End.ensures.shelf)

pub returns-in-Failed-clause-stops : goal.returns-in-Failed-clause-stops
returns-in-Failed-clause-stops g c =
    let at = c.parts.at in
    let size = length c.args.bytes.now in
    let inv = c.parts.invariant in
    let more : at < size = omega (arith, c.parts-test.true, inv.same) in
    let told : Adds (g.S.Store.told c.parts.store) (g.S.Store.told c.read_more.new.store) (ReadAt c.args.file at (size - at) ReadFault) =
    subst (λ (k : ℕ). Adds (g.S.Store.told c.parts.store) (g.S.Store.told c.read_more.new.store) (ReadAt c.args.file at (k - at) ReadFault)) inv.same c.in-Failed.ensures.told in
    grew_last _ _ _ (ReadAt c.args.file at (size - at) ReadFault) (Parts c.args.file size (take at c.parts.bytes)) (Stops c.args.file size unread.Failed) (λ calls p. parts_fail c.args.file size at more c.parts.bytes calls inv.at p) inv.parts told

use Rattle.std.proofs.Common.{arith, ◌≡◌, ◌-◌, ◌+◌, ◌<◌, ◌≤◌, [], ℕ, List, length, take, drop, refl, ap, subst, ◌∙◌, length-drop}
use Rattle.std.proofs.lemmas.List.{take_rest}
use Rattle.lnbd_link.specs.Part.{Adds}
use Rattle.lnbd_store.specs.Bytes.{put_at}
use Rattle.lnbd_store.specs.Call.{WriteAt, Took, WriteFault}
use Rattle.lnbd_store.specs.Shelf.{Changes, Goes}
use Rattle.lnbd_child.specs.Writing.{Breaks, None_written, Wrote}
use Rattle.lnbd_child.specs.Steps.{Puts}
use Rattle.lnbd_child.proofs.CallLemmas.{wrote_more, breaks_there}
use Rattle.lnbd_child.proofs.FileLemmas.{puts_nothing, puts_then}
use Rattle.lnbd_child.proofs.GrownLemmas.{grew_last, grew_none}
use Rattle.lnbd_child.proofs.TouchLemmas.{touches_changed, touches_none, touches_then}
use Rattle.lnbd_child.proofs.writing.write_all.Goals as goal

pub parts-init : goal.parts-init
parts-init g c = record {
  at = omega arith;
  puts = touches_none c.args.file (Puts []) _ (λ x. puts_nothing x);
  wrote = grew_none _ (Wrote c.args.file c.args.bytes.now 0) (None_written 0 [] refl refl);
  later = omega arith;
}

pub parts-preserved : goal.parts-preserved
parts-preserved g c =
    let file = c.args.file in
    let bytes = c.args.bytes.now in
    let at = c.parts.at in
    let n = c.in-Bytes.n in
    let inv = c.parts.invariant in
    let call = c.in-Bytes.ensures in
    let rest = take_rest bytes at in
    let size : length (drop at bytes) ≡ length bytes - at = length-drop at bytes in
    let some : 0 < n = call.count.0 in
    let fits : at + n ≤ length bytes = let m = ap (λ (xs : List ℕ). length xs) rest in let d = c.parts-test.true in omega (arith, call.count.1, m, size, d) in
    let goes : Goes (g.S.Store.shelf c.parts.store) (g.S.Store.shelf c.write_at.new.self) (Changes file (put_at at (take n (drop at bytes)))) =
    subst (λ (f : List ℕ). Goes (g.S.Store.shelf c.parts.store) (g.S.Store.shelf c.write_at.new.self) (Changes file (put_at at (take n f)))) rest call.shelf in
    let told : Adds (g.S.Store.told c.parts.store) (g.S.Store.told c.write_at.new.self) (WriteAt file at (length bytes - at) (Took (take n (drop at bytes)))) =
    subst (λ (k : ℕ). Adds (g.S.Store.told c.parts.store) (g.S.Store.told c.write_at.new.self) (WriteAt file at k (Took (take n (drop at bytes))))) size
    (subst (λ (f : List ℕ). Adds (g.S.Store.told c.parts.store) (g.S.Store.told c.write_at.new.self) (WriteAt file at (length f) (Took (take n f)))) rest call.told) in
    record {
      at = fits;
      puts = touches_then file (Puts (take at bytes)) (λ x y. y ≡ put_at at (take n (drop at bytes)) x) (Puts (take (at + n) bytes)) _ _ _ (λ x y z f h. puts_then at n bytes x y z inv.at f h) inv.puts
          (touches_changed file (λ x y. y ≡ put_at at (take n (drop at bytes)) x) (put_at at (take n (drop at bytes))) _ _ (λ x. refl) goes);
      wrote = grew_last _ _ _ (WriteAt file at (length bytes - at) (Took (take n (drop at bytes)))) (Wrote file bytes at) (Wrote file bytes (at + n)) (λ calls w. wrote_more file at bytes n calls some fits w) inv.wrote told;
      later = omega (arith, inv.later, call.faults);
    }

pub returns-in-Failed-clause-breaks : goal.returns-in-Failed-clause-breaks
returns-in-Failed-clause-breaks g c =
    let file = c.args.file in
    let bytes = c.args.bytes.now in
    let at = c.parts.at in
    let inv = c.parts.invariant in
    let rest = take_rest bytes at in
    let told : Adds (g.S.Store.told c.parts.store) (g.S.Store.told c.write_at.new.self) (WriteAt file at (length bytes - at) WriteFault) =
    subst (λ (k : ℕ). Adds (g.S.Store.told c.parts.store) (g.S.Store.told c.write_at.new.self) (WriteAt file at k WriteFault)) (ap (λ (xs : List ℕ). length xs) rest ∙ length-drop at bytes) c.in-Failed.ensures.told in
    grew_last _ _ _ (WriteAt file at (length bytes - at) WriteFault) (Wrote file bytes at) (Breaks file bytes) (λ calls w. breaks_there file at bytes calls c.parts-test.true w) inv.wrote told

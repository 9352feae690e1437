use Rattle.std.proofs.Common.{arith, ◌≡◌, ◌-◌, ◌+◌, ◌≤◌, [], ℕ, List, length, take, drop, refl, ap, sym, subst, ◌∙◌, length-drop}
use Rattle.std.proofs.lemmas.List.{take_rest}
use Rattle.lnbd_store.specs.Bytes.{put_at}
use Rattle.lnbd_store.specs.Shelf.{Changes, Goes}
use Rattle.lnbd_touched.specs.Grown.{RoseBy}
use Rattle.lnbd_touched.specs.Parts.{Puts}
use Rattle.lnbd_touched.proofs.GrownLemmas.{grew_last, grew_none, rose_none, rose_once, rose_then}
use Rattle.lnbd_touched.proofs.PartLemmas.{puts_more, puts_once}
use Rattle.lnbd_touched.proofs.TouchLemmas.{touches_changed, touches_none, touches_then}
use Rattle.lnbd_copyfile.specs.declared.fault.Stop.TheVariants as stop
use Rattle.lnbd_copyfile.specs.Calls.{Breaks, Moves, Write_fails}
use Rattle.lnbd_copyfile.specs.OneFile.{BreaksWriting, Write_breaks, Writes}
use Rattle.lnbd_copyfile.proofs.CallLemmas.{moves_last}
use Rattle.lnbd_copyfile.proofs.OneFileLemmas.{writes_last}
use Rattle.lnbd_copyfile.proofs.FillLemmas.{puts_nothing}
use Rattle.lnbd_copyfile.proofs.PieceLemmas.{rest_few}
use Rattle.lnbd_copyfile.proofs.writing.write_all.Goals as goal

pub parts-init : goal.parts-init
parts-init g c = record {
  at = omega arith;
  puts = touches_none c.args.file (Puts c.args.offset []) _ (λ x. puts_nothing c.args.offset x);
  moves = λ cell size from few. grew_none _ (Moves cell size from c.args.file) tt;
  writes = grew_none _ (Writes c.args.file) tt;
  later = omega arith;
  given = refl;
  taken = rose_none _;
}

pub parts-preserved : goal.parts-preserved
parts-preserved g c =
    let file = c.args.file in
    let offset = c.args.offset in
    let bytes = c.args.bytes.now in
    let at = c.parts.at in
    let n = c.in-Bytes.n in
    let inv = c.parts.invariant in
    let call = c.in-Bytes.ensures in
    let part = take n (drop at bytes) in
    let rest = take_rest bytes at in
    let size : length (drop at bytes) ≡ length bytes - at = length-drop at bytes in
    let fits : at + n ≤ length bytes = let l = call.count.1 in let m = ap (λ (xs : List ℕ). length xs) rest in let d = c.parts-test.true in omega (arith, l, m, size, d) in
    let goes : Goes (g.S.Store.shelf c.parts.store) (g.S.Store.shelf c.write_at.new.self) (Changes file (put_at (offset + at) part)) =
    subst (λ (f : List ℕ). Goes (g.S.Store.shelf c.parts.store) (g.S.Store.shelf c.write_at.new.self) (Changes file (put_at (offset + at) (take n f)))) rest call.shelf in
    record {
      at = fits;
      puts = touches_then file (Puts offset (take at bytes)) (Puts (offset + at) part) (Puts offset (take (at + n) bytes)) _ _ _ (λ x y z f h. puts_more offset at n bytes x y z inv.at f h) inv.puts
          (touches_changed file (Puts (offset + at) part) (put_at (offset + at) part) _ _ (λ x. puts_once (offset + at) part x) goes);
      moves = λ cell most from few.
          let offered = subst (λ (f : List ℕ). length f ≤ cell) (sym rest) (rest_few at cell bytes few) in
          grew_last _ _ _ _ (Moves cell most from file) (Moves cell most from file) (λ calls m. moves_last cell most from file _ calls (refl, offered, tt) m)
          (inv.moves cell most from few) call.told;
      writes = grew_last _ _ _ _ (Writes file) (Writes file) (λ calls m. writes_last file _ calls (refl, tt) m) inv.writes call.told;
      later = let a = inv.later in let b = call.faults in omega (arith, a, b);
      given = call.given ∙ inv.given;
      taken = rose_then at n _ _ _ inv.taken (rose_once n _ _ call.taken);
    }

pub returns-in-Failed-clause-breaks : goal.returns-in-Failed-clause-breaks
returns-in-Failed-clause-breaks g c = λ cell size from few.
    let at = c.parts.at in
    let offered = subst (λ (f : List ℕ). length f ≤ cell) (sym (take_rest c.args.bytes.now at)) (rest_few at cell c.args.bytes.now few) in
    grew_last _ _ _ _ (Moves cell size from c.args.file) (Breaks cell size from c.args.file stop.Failed) (λ calls m. Write_fails calls (c.args.offset + at) _ m offered refl refl)
    (c.parts.invariant.moves cell size from few) c.in-Failed.ensures.told

pub returns-in-Failed-clause-breaks_writing : goal.returns-in-Failed-clause-breaks_writing
returns-in-Failed-clause-breaks_writing g c =
    grew_last _ _ _ _ (Writes c.args.file) (BreaksWriting c.args.file stop.Failed) (λ calls m. Write_breaks calls (c.args.offset + c.parts.at) _ m refl refl)
    c.parts.invariant.writes c.in-Failed.ensures.told

pub returns-clause-taken : goal.returns-clause-taken
returns-clause-taken g c =
    let all : c.parts.at ≡ length c.args.bytes.now = let i = c.parts.invariant.at in let t = c.parts-test.false in omega (arith, i, t) in
    subst (λ (k : ℕ). RoseBy k (g.S.Store.taken c.args.store.now) (g.S.Store.taken c.parts.store)) all c.parts.invariant.taken

use Rattle.std.proofs.Common.{arith, [], ◌≡◌, ◌+◌, ◌≤◌, ℕ, length, take, replicate, refl, subst, ◌∙◌}
use Rattle.lnbd_touched.specs.Grown.{RoseBy}
use Rattle.lnbd_touched.specs.Parts.{Puts}
use Rattle.lnbd_touched.specs.Touches.{Touches}
use Rattle.lnbd_touched.proofs.GrownLemmas.{grew_both, grew_none, rose_none, rose_then}
use Rattle.lnbd_touched.proofs.PartLemmas.{size_of}
use Rattle.lnbd_touched.proofs.TouchLemmas.{touches_none, touches_then}
use Rattle.lnbd_copyfile.proofs.ChangeLemmas.{zeros_then}
use Rattle.lnbd_copyfile.proofs.FillLemmas.{puts_nothing}
use Rattle.lnbd_copyfile.proofs.making.put_zeros.Goals as goal
use Rattle.lnbd_copyfile.specs.declared.fault.Stop.TheVariants as stop
use Rattle.lnbd_copyfile.specs.OneFile.{BreaksWriting, Writes}
use Rattle.lnbd_copyfile.proofs.OneFileLemmas.{breaks_writing_behind, writes_on}

pub parts-init : goal.parts-init
parts-init g c = record {
  at = omega arith;
  puts = touches_none c.args.file (Puts c.args.offset []) _ (λ x. puts_nothing c.args.offset x);
  writes = grew_none _ (Writes c.args.file) tt;
  later = omega arith;
  given = refl;
  taken = rose_none _;
}

pub parts-preserved : goal.parts-preserved
parts-preserved g c =
    let file = c.args.file in
    let offset = c.args.offset in
    let block = c.args.block.now in
    let at = c.parts.at in
    let count = c.min-count.result in
    let least = c.min-count.ensures in
    let inv = c.parts.invariant in
    let call = c.in-Ok.ensures in
    let more = c.parts-test.true in
    let few : count ≤ length block = omega (arith, least) in
    let part = size_of count block few in
    record {
      at = omega (arith, least, more);
      puts = touches_then file (Puts offset (replicate at 0)) (Puts (offset + at) (take count block)) (Puts offset (replicate (at + count) 0)) _ _ _
          (λ x y z f h. zeros_then offset at count block x y z c.requires.zeros few f h) inv.puts call.puts;
      writes = grew_both _ _ _ (Writes file) (Writes file) (Writes file) (λ xs ys p q. writes_on file xs ys p q) inv.writes call.writes;
      later = let a = inv.later in let b = call.later in omega (arith, a, b);
      given = call.given ∙ inv.given;
      taken = rose_then at count _ _ _ inv.taken (subst (λ (n : ℕ). RoseBy n (g.S.Store.taken c.parts.store) (g.S.Store.taken c.write_all.new.store)) part call.taken);
    }

pub returns-clause-puts : goal.returns-clause-puts
returns-clause-puts g c =
    let all : c.parts.at ≡ c.args.size = let i = c.parts.invariant.at in let t = c.parts-test.false in omega (arith, i, t) in
    subst (λ (n : ℕ). Touches c.args.file (Puts c.args.offset (replicate n 0)) (g.S.Store.shelf c.args.store.now) (g.S.Store.shelf c.parts.store)) all c.parts.invariant.puts

pub returns-clause-taken : goal.returns-clause-taken
returns-clause-taken g c =
    let all : c.parts.at ≡ c.args.size = let i = c.parts.invariant.at in let t = c.parts-test.false in omega (arith, i, t) in
    subst (λ (n : ℕ). RoseBy n (g.S.Store.taken c.args.store.now) (g.S.Store.taken c.parts.store)) all c.parts.invariant.taken

pub returns-in-Err-clause-failed : goal.returns-in-Err-clause-failed
returns-in-Err-clause-failed g c = let r = c.in-Err.ensures.failed in let l = c.parts.invariant.later in omega (arith, r, l)

pub returns-in-Err-clause-breaks : goal.returns-in-Err-clause-breaks
returns-in-Err-clause-breaks g c =
    grew_both _ _ _ (Writes c.args.file) (BreaksWriting c.args.file stop.Failed) (BreaksWriting c.args.file stop.Failed)
    (λ calls more m b. breaks_writing_behind c.args.file stop.Failed calls more m b) c.parts.invariant.writes c.in-Err.ensures.breaks_writing

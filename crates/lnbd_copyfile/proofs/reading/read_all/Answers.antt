use Rattle.std.proofs.Common.{arith, ◌≡◌, ◌+◌, ◌<◌, ◌≤◌, [], ◌∷◌, ◌++◌, ℕ, ap, length, take, drop, refl, subst, ◌∙◌}
use Rattle.lnbd_store.specs.Call.{Ended, ReadAt, ReadFault}
use Rattle.lnbd_store.specs.Effects.{IsAt}
use Rattle.lnbd_touched.specs.Grown.{RoseBy}
use Rattle.lnbd_touched.specs.Parts.{Ends, IsShort, Tells}
use Rattle.lnbd_touched.proofs.GrownLemmas.{grew_last, grew_none, rose_none, rose_once, rose_then}
use Rattle.lnbd_touched.proofs.PartLemmas.{ends_once, short_then, tells_more, tells_once}
use Rattle.lnbd_touched.proofs.TouchLemmas.{touches_none, touches_read, touches_then}
use Rattle.lnbd_copyfile.specs.declared.fault.Stop.TheVariants as stop
use Rattle.lnbd_copyfile.specs.Calls.{Breaks, Moves, Read_ends, Read_fails}
use Rattle.lnbd_copyfile.specs.OneFile.{BreaksReading, Read_breaks, Read_falls_short, Reads}
use Rattle.lnbd_copyfile.proofs.CallLemmas.{moves_last}
use Rattle.lnbd_copyfile.proofs.OneFileLemmas.{reads_last}
use Rattle.lnbd_copyfile.proofs.CountLemmas.{asks_more}
use Rattle.lnbd_copyfile.proofs.FillLemmas.{drop_room, tells_nothing}
use Rattle.lnbd_copyfile.proofs.reading.read_all.Goals as goal

pub parts-init : goal.parts-init
parts-init g c = record {
  same = refl;
  at = omega arith;
  tells = touches_none c.args.file (Tells c.args.offset []) _ (λ x. tells_nothing c.args.offset x);
  moves = λ cell to slice. grew_none _ (Moves cell c.args.size c.args.file to) tt;
  reads = grew_none _ (Reads c.args.file) tt;
  later = omega arith;
  given = rose_none _;
  taken = refl;
}

pub parts-preserved : goal.parts-preserved
parts-preserved g c =
    let file = c.args.file in
    let offset = c.args.offset in
    let at = c.parts.at in
    let n = c.in-Bytes.n in
    let was = c.parts.bytes in
    let bytes = c.read_more.new.bytes in
    let inv = c.parts.invariant in
    let call = c.in-Bytes.ensures in
    let size = call.same in
    let fits : at + n ≤ length bytes = let l = call.count.1 in omega (arith, l, size) in
    let room : n ≤ length (drop at bytes) = drop_room at n bytes fits in
    record {
      same = call.same ∙ inv.same;
      at = fits;
      tells =
          touches_then file (Tells offset (take at was)) (Tells (offset + at) (take n (drop at bytes))) (Tells offset (take (at + n) bytes)) _ _ _
          (λ x y z f h. tells_more offset at n was bytes x y z (omega (arith, fits)) call.front f h) inv.tells
          (touches_read file (Tells (offset + at) (take n (drop at bytes))) (IsAt (offset + at) n (drop at bytes)) _ _ (λ x is. tells_once (offset + at) n (drop at bytes) x room is) call.shelf);
      moves = λ cell to slice.
          let rest = asks_more cell c.args.size offset (length c.args.bytes.now) at (length was) slice inv.same c.parts-test.true in
          grew_last _ _ _ _ (Moves cell c.args.size file to) (Moves cell c.args.size file to) (λ calls m. moves_last cell c.args.size file to _ calls (refl, rest, tt) m)
          (inv.moves cell to slice) call.told;
      reads = grew_last _ _ _ _ (Reads file) (Reads file) (λ calls m. reads_last file _ calls (refl, tt) m) inv.reads call.told;
      later = let a = inv.later in let b = call.later in omega (arith, a, b);
      given = rose_then at n _ _ _ inv.given (rose_once n _ _ call.given);
      taken = call.taken ∙ inv.taken;
    }

pub returns-in-End-clause-breaks : goal.returns-in-End-clause-breaks
returns-in-End-clause-breaks g c =
    let at = c.parts.at in
    let more : c.args.offset + at < c.args.size = let t = c.parts-test.true in let s = c.parts.invariant.same in let f = c.requires in omega (arith, t, s, f) in
    λ cell to slice.
    let size = c.args.size in
    let rest = asks_more cell size c.args.offset (length c.args.bytes.now) at (length c.parts.bytes) slice c.parts.invariant.same c.parts-test.true in
    grew_last _ _ _ _ (Moves cell size c.args.file to) (Breaks cell size c.args.file to (stop.Changed size (c.args.offset + at)))
    (λ calls m. Read_ends calls (c.args.offset + at) m more (ap (λ (k : ℕ). calls ++ ReadAt c.args.file (c.args.offset + at) k Ended ∷ []) rest) refl)
    (c.parts.invariant.moves cell to slice) c.in-End.ensures.told

pub returns-in-End-clause-breaks_reading : goal.returns-in-End-clause-breaks_reading
returns-in-End-clause-breaks_reading g c =
    let place = c.args.offset + c.parts.at in
    let more : place < c.args.size = let t = c.parts-test.true in let s = c.parts.invariant.same in let f = c.requires in omega (arith, t, s, f) in
    grew_last _ _ _ _ (Reads c.args.file) (BreaksReading c.args.file c.args.size (stop.Changed c.args.size place)) (λ calls m. Read_falls_short calls place _ m more refl refl)
    c.parts.invariant.reads c.in-End.ensures.told

pub returns-in-End-clause-short : goal.returns-in-End-clause-short
returns-in-End-clause-short g c =
    let file = c.args.file in
    let place = c.args.offset + c.parts.at in
    let more : place < c.args.size = let t = c.parts-test.true in let s = c.parts.invariant.same in let f = c.requires in omega (arith, t, s, f) in
    λ _. touches_then file (Tells c.args.offset (take c.parts.at c.parts.bytes)) (Ends place) (IsShort c.args.size) _ _ _
    (λ x y z f h. short_then c.args.offset place c.args.size _ x y z more f h) c.parts.invariant.tells
    (touches_read file (Ends place) (λ x. length x ≤ place) _ _ (λ x few. ends_once place x few) c.in-End.ensures.shelf)

pub returns-in-Failed-clause-breaks : goal.returns-in-Failed-clause-breaks
returns-in-Failed-clause-breaks g c = λ cell to slice.
    let size = c.args.size in
    let place = c.args.offset + c.parts.at in
    let rest = asks_more cell size c.args.offset (length c.args.bytes.now) c.parts.at (length c.parts.bytes) slice c.parts.invariant.same c.parts-test.true in
    grew_last _ _ _ _ (Moves cell size c.args.file to) (Breaks cell size c.args.file to stop.Failed)
    (λ calls m. Read_fails calls place m (ap (λ (k : ℕ). calls ++ ReadAt c.args.file place k ReadFault ∷ []) rest) refl) (c.parts.invariant.moves cell to slice) c.in-Failed.ensures.told

pub returns-in-Failed-clause-breaks_reading : goal.returns-in-Failed-clause-breaks_reading
returns-in-Failed-clause-breaks_reading g c =
    grew_last _ _ _ _ (Reads c.args.file) (BreaksReading c.args.file c.args.size stop.Failed) (λ calls m. Read_breaks calls (c.args.offset + c.parts.at) _ m refl refl)
    c.parts.invariant.reads c.in-Failed.ensures.told

pub returns-clause-given : goal.returns-clause-given
returns-clause-given g c =
    let all : c.parts.at ≡ length c.args.bytes.now = let i = c.parts.invariant.at in let s = c.parts.invariant.same in let t = c.parts-test.false in omega (arith, i, s, t) in
    subst (λ (k : ℕ). RoseBy k (g.S.Store.given c.args.store.now) (g.S.Store.given c.parts.store)) all c.parts.invariant.given

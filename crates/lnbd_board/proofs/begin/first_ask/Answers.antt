use Rattle.std.proofs.Common.{◌≡◌, Bool, true, false, not, ◌&&◌, ◌||◌, ◌==◌, refl, ap, ◌∙◌, inl, inr, arith, length, List, ℕ}
use Rattle.std.proofs.Math.ListN.{length-replicate}
use Rattle.lnbd_model.specs.declared.kind.Kind.TheVariants.{Write, Zero}
use Rattle.lnbd_board.specs.Pieces.{Bytes, Zeros}
use Rattle.lnbd_board.proofs.begin.first_ask.Goals as goal

not_false : (b : Bool) → not b ≡ false → b ≡ true
not_false true h = refl
not_false false h = absurd (cc)

zeroing : Zero ≡ Write → ⊥
zeroing w = absurd (cc)

-- where zeroes are neither taken nor passed over, none are looked for
blind : (seen zeroes skip : Bool) → zeroes ≡ false → skip ≡ false → seen && (zeroes || skip) ≡ true → ⊥
blind true true skip z s h = absurd (cc)
blind true false true z s h = absurd (cc)
blind true false false z s h = absurd (cc)
blind false zeroes skip z s h = absurd (cc)

pub returns-then-how-clause-first : goal.returns-then-how-clause-first
returns-then-how-clause-first c =
    let z = not_false c.args.slice.zero c.if-not-slice.false in (
      z,
      record {
        piece = Zeros c.args.slice.length;
        is = rw c.zero_flags-flags.ensures refl;
        spelt = refl;
        kept = c.requires.copied z;
        change = inr (refl, refl, c.requires.copied z);
        dense = λ looks w. absurd (zeroing w);
        zeroed = rw c.if-how.true refl;
      },
    )

pub returns-clause-first : goal.returns-clause-first
returns-clause-first c =
    let z = not_false c.args.slice.zero c.if-not-slice.false in (
      z,
      record {
        piece = Bytes c.in_ok-bytes.bytes;
        is = refl;
        spelt = c.in_ok-bytes.ensures;
        kept = refl;
        change = inl (refl, refl);
        dense = λ looks w. absurd (blind (not (c.args.how.block == 0)) c.args.how.zeroes c.args.how.skip c.if-how.false (c.requires.copied z) looks);
        zeroed = rw c.if-how.false refl;
      },
    )

pub returns-then-how-clause-inside : goal.returns-then-how-clause-inside
returns-then-how-clause-inside c = (record { some = λ some. some; after = omega arith; before = omega arith }, c.zero_flags-flags.ensures, c.if-how.true)

pub returns-clause-inside : goal.returns-clause-inside
returns-clause-inside c =
    let many : length c.in_ok-bytes.bytes ≡ c.args.slice.length = ap (λ (l : List ℕ). length l) c.in_ok-bytes.ensures ∙ length-replicate c.args.slice.length 0 in
    (record { some = λ some. omega (arith, many, some); after = omega arith; before = omega (arith, many) }, λ zero. c.if-how.false)

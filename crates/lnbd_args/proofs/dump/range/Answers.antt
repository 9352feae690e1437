use Rattle.std.proofs.Common.{Option, codes, refl, sym, subst}
use Rattle.lnbd_args.specs.Tools.{IsLength, IsNumberOr}
use Rattle.lnbd_args.specs.Words.{Word}
use Rattle.lnbd_args.proofs.dump.range.Goals as goal

pub returns-in_err-offset : goal.returns-in_err-offset
returns-in_err-offset c =
    rw c.from_residual.ensures (λ parts t offset length h.
    c.in_err-offset.ensures offset (subst (λ (g : Option Word). IsNumberOr 0 g offset) (sym (t.value (codes "offset") _ refl refl)) h.offset_is))

pub returns-in_err-length : goal.returns-in_err-length
returns-in_err-length c =
    rw c.from_residual-in_err-length.ensures (λ parts t offset length h.
    c.in_err-length.ensures length (subst (λ (g : Option Word). IsLength g length) (sym (t.value (codes "length") _ refl refl)) h.length_is))

pub returns : goal.returns
returns c parts t = record {
  offset_is = subst (λ (g : Option Word). IsNumberOr 0 g c.in_ok-offset.offset) (t.value (codes "offset") _ refl refl) c.in_ok-offset.ensures;
  length_is = subst (λ (g : Option Word). IsLength g c.in_ok-length.length) (t.value (codes "length") _ refl refl) c.in_ok-length.ensures;
}

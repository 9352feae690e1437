use Rattle.std.proofs.Common.{ℕ, [], ◌∷◌, arith, subst, sym, ◌∙◌, inr}
use Rattle.lnbd_records.specs.Numbers.{number, Begins, IsRow}
use Rattle.lnbd_records.proofs.NumberLaws.{number_begins}
use Rattle.lnbd_wire.proofs.read.judge.Goals as goal

pub returns-then-found-magic : goal.returns-then-found-magic
returns-then-found-magic c =
    let P : ℕ → Type 0 = λ x. Begins (IsRow (number 4 x ∷ [])) c.args.bytes.now in
    (c.if-found-magic.true, subst P (sym c.u32_at-found.ensures) (number_begins 4 c.args.bytes.now (λ i. omega (arith, c.type_inv.bytes i)) c.if-bytes-lt4.false))

pub returns-then-bytes-size : goal.returns-then-bytes-size
returns-then-bytes-size c =
    let P : ℕ → Type 0 = λ x. Begins (IsRow (number 4 x ∷ [])) c.args.bytes.now in
    inr (subst P (sym c.u32_at-found.ensures ∙ c.if-found-magic.false) (number_begins 4 c.args.bytes.now (λ i. omega (arith, c.type_inv.bytes i)) c.if-bytes-lt4.false), c.if-bytes-size.true)

pub returns : goal.returns
returns c =
    let P : ℕ → Type 0 = λ x. Begins (IsRow (number 4 x ∷ [])) c.args.bytes.now in
    (c.if-bytes-size.false, subst P (sym c.u32_at-found.ensures ∙ c.if-found-magic.false) (number_begins 4 c.args.bytes.now (λ i. omega (arith, c.type_inv.bytes i)) c.if-bytes-lt4.false))

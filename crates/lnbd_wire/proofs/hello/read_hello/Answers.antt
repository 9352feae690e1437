use Rattle.std.proofs.Common.{ℕ, [], ◌∷◌, arith, inl, inr, subst, sym, ◌∙◌}
use Rattle.lnbd_records.specs.Numbers.{number, Begins, IsRow}
use Rattle.lnbd_records.specs.Handshake.{init_magic, option_magic}
use Rattle.lnbd_records.proofs.NumberLaws.{number_begins}
use Rattle.lnbd_wire.proofs.HelloLemmas.{exactly, two_there, hello_there}
use Rattle.lnbd_wire.proofs.hello.read_hello.Goals as goal

pub returns-then-bytes-lt8 : goal.returns-then-bytes-lt8
returns-then-bytes-lt8 c = exactly c.args.bytes.now _ (inl (c.if-bytes-lt8.true))

pub returns-then-first-ne-INIT_MAGIC : goal.returns-then-first-ne-INIT_MAGIC
returns-then-first-ne-INIT_MAGIC c =
    let P : ℕ → Type 0 = λ x. Begins (IsRow (number 8 x ∷ [])) c.args.bytes.now in
    exactly c.args.bytes.now _ (c.if-first-ne-INIT_MAGIC.true, subst P (sym c.u64_at-first.ensures) (number_begins 8 c.args.bytes.now (λ i. omega (arith, c.type_inv.bytes i)) c.if-bytes-lt8.false))

pub returns-then-bytes-lt16 : goal.returns-then-bytes-lt16
returns-then-bytes-lt16 c =
    let P : ℕ → Type 0 = λ x. Begins (IsRow (number 8 x ∷ [])) c.args.bytes.now in
    let first = subst P (sym c.u64_at-first.ensures ∙ c.if-first-ne-INIT_MAGIC.false) (number_begins 8 c.args.bytes.now (λ i. omega (arith, c.type_inv.bytes i)) c.if-bytes-lt8.false) in
    exactly c.args.bytes.now _ (inr (inl (first, c.if-bytes-lt16.true)))

pub returns-then-second-ne-OPTION_MAGIC : goal.returns-then-second-ne-OPTION_MAGIC
returns-then-second-ne-OPTION_MAGIC c =
    exactly c.args.bytes.now _ (c.if-second-ne-OPTION_MAGIC.true, two_there init_magic c.u64_at-second.result c.args.bytes.now (λ i. omega (arith, c.type_inv.bytes i)) c.if-bytes-lt16.false (sym c.u64_at-first.ensures ∙ c.if-first-ne-INIT_MAGIC.false) (sym c.u64_at-second.ensures))

pub returns-then-bytes-lt-HELLO_SIZE : goal.returns-then-bytes-lt-HELLO_SIZE
returns-then-bytes-lt-HELLO_SIZE c =
    exactly c.args.bytes.now _ (inr (inr (two_there init_magic option_magic c.args.bytes.now (λ i. omega (arith, c.type_inv.bytes i)) c.if-bytes-lt16.false (sym c.u64_at-first.ensures ∙ c.if-first-ne-INIT_MAGIC.false) (sym c.u64_at-second.ensures ∙ c.if-second-ne-OPTION_MAGIC.false), c.if-bytes-lt-HELLO_SIZE.true)))

pub returns : goal.returns
returns c =
    exactly c.args.bytes.now _ (hello_there c.u16_at-flags.result c.args.bytes.now (λ i. omega (arith, c.type_inv.bytes i)) c.if-bytes-lt-HELLO_SIZE.false (sym c.u64_at-first.ensures ∙ c.if-first-ne-INIT_MAGIC.false) (sym c.u64_at-second.ensures ∙ c.if-second-ne-OPTION_MAGIC.false) (sym c.u16_at-flags.ensures))

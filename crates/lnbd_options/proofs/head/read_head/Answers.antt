use Rattle.std.proofs.Common.{◌≡◌, ℕ, List, [], ◌∷◌, arith, inl, inr, subst, sym, ◌∙◌}
use Rattle.lnbd_records.specs.Numbers.{Field, number, Begins, IsRow, fields_at}
use Rattle.lnbd_records.proofs.NumberLaws.{number_begins, read_begins}
use Rattle.lnbd_options.specs.Heads.{reply_fields}
use Rattle.lnbd_options.proofs.HeadLemmas.{exactly}
use Rattle.lnbd_options.proofs.head.read_head.Goals as goal

pub returns-then-bytes-lt8 : goal.returns-then-bytes-lt8
returns-then-bytes-lt8 c = exactly c.args.bytes.now _ (inl (c.if-bytes-lt8.true))

pub returns-then-found-ne-OPTION_REPLY_MAGIC : goal.returns-then-found-ne-OPTION_REPLY_MAGIC
returns-then-found-ne-OPTION_REPLY_MAGIC c =
    let P : ℕ → Type 0 = λ x. Begins (IsRow (number 8 x ∷ [])) c.args.bytes.now in
    exactly c.args.bytes.now _ (c.if-found-ne-OPTION_REPLY_MAGIC.true, subst P (sym c.u64_at-found.ensures) (number_begins 8 c.args.bytes.now (λ i. omega (arith, c.type_inv.bytes i)) c.if-bytes-lt8.false))

pub returns-then-bytes-lt-OPTION_REPLY_HEAD_SIZE : goal.returns-then-bytes-lt-OPTION_REPLY_HEAD_SIZE
returns-then-bytes-lt-OPTION_REPLY_HEAD_SIZE c =
    let P : ℕ → Type 0 = λ x. Begins (IsRow (number 8 x ∷ [])) c.args.bytes.now in
    exactly c.args.bytes.now _ (inr (subst P (sym c.u64_at-found.ensures ∙ c.if-found-ne-OPTION_REPLY_MAGIC.false) (number_begins 8 c.args.bytes.now (λ i. omega (arith, c.type_inv.bytes i)) c.if-bytes-lt8.false), c.if-bytes-lt-OPTION_REPLY_HEAD_SIZE.true))

pub returns : goal.returns
returns c =
    let P : List Field → Type 0 = λ fs. Begins (IsRow fs) c.args.bytes.now in
    let there = read_begins (8 ∷ 4 ∷ 4 ∷ 4 ∷ []) c.args.bytes.now (λ i. omega (arith, c.type_inv.bytes i)) c.if-bytes-lt-OPTION_REPLY_HEAD_SIZE.false in
    let e = c.u64_at-found.ensures in
    let magic = c.if-found-ne-OPTION_REPLY_MAGIC.false in
    let fields : fields_at 0 (8 ∷ 4 ∷ 4 ∷ 4 ∷ []) c.args.bytes.now ≡ reply_fields (record { option = c.u32_at-option.result; kind = c.u32_at-kind.result; length = c.u32_at-length.result }) = cc in
    exactly c.args.bytes.now _ (subst P fields there)

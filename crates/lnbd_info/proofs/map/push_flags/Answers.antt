use Rattle.std.proofs.Common.{◌≡◌, ◌∙◌, ◌++◌, List, ℕ, ap, append-nil, codes, string_bytes, sym}
use Rattle.std.specs.Fmt.{decimal, styled_decimal}
use Rattle.lnbd_texts.proofs.TextLemmas.{pushed_behind}
use Rattle.lnbd_info.specs.Map.{right}
use Rattle.lnbd_info.proofs.ColumnLemmas.{in_column}
use Rattle.lnbd_info.proofs.map.push_flags.Goals as goal

pub returns-then-allocation : goal.returns-then-allocation
returns-then-allocation c =
    let shown : styled_decimal c.laid_out.result c.args.flags ≡ right 3 (decimal c.args.flags) = rw c.laid_out.ensures (in_column 3 (decimal c.args.flags)) in
    let written = c.in_ok-write.ensures.bytes ∙ ap (λ (t : List ℕ). string_bytes c.args.text.now ++ t) shown in
    rw (c.if-allocation.true, ← c.allocation_words-words.ensures)
    (pushed_behind c.write-then-allocation.result _ _ _ (right 3 (decimal c.args.flags)) (codes "  " ++ c.allocation_words-words.result.now) written c.write-then-allocation.ensures.bytes)

pub returns : goal.returns
returns c =
    let shown : styled_decimal c.laid_out.result c.args.flags ≡ right 3 (decimal c.args.flags) = rw c.laid_out.ensures (in_column 3 (decimal c.args.flags)) in
    let old = string_bytes c.args.text.now in
    rw c.if-allocation.false (c.in_ok-write.ensures.bytes ∙ ap (λ (t : List ℕ). old ++ t) (shown ∙ sym (append-nil (right 3 (decimal c.args.flags)))))

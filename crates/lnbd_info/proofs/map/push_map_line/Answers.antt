use Rattle.std.proofs.Common.{◌≡◌, ◌∙◌, ◌++◌, List, ℕ, ap, append_assoc, codes, string_bytes, subst}
use Rattle.std.specs.Prelude.{OnOk}
use Rattle.std.specs.Fmt.{decimal, styled_decimal}
use Rattle.lnbd_info.specs.Map.{flags_text, map_line, right}
use Rattle.lnbd_info.proofs.ColumnLemmas.{in_column}
use Rattle.lnbd_info.proofs.PushLemmas.{behind, pushed_last}
use Rattle.lnbd_info.proofs.map.push_map_line.Goals as goal

pub returns : goal.returns
returns c =
    let old = string_bytes c.args.text.now in
    let gap : List ℕ = codes "  " in
    let offset : List ℕ = right 10 (decimal c.args.offset) in
    let size : List ℕ = right 10 (decimal c.args.extent.length) in
    let flags : List ℕ = flags_text c.args.allocation c.args.extent.flags in
    let first : styled_decimal c.laid_out.result c.args.offset ≡ offset = rw c.laid_out.ensures (in_column 10 (decimal c.args.offset)) in
    let second : styled_decimal c.laid_out-2.result c.args.extent.length ≡ size = rw c.laid_out-2.ensures (in_column 10 (decimal c.args.extent.length)) in
    let head = c.in_ok-write.ensures.bytes ∙ ap (λ (t : List ℕ). old ++ (t ++ (gap ++ (styled_decimal c.laid_out-2.result c.args.extent.length ++ gap)))) first ∙ ap (λ (t : List ℕ). old ++ (offset ++ (gap ++ (t ++ gap)))) second in
    let whole = pushed_last c.push_str.result old _ _ ((offset ++ (gap ++ (size ++ gap))) ++ flags) (codes "\n") (behind old _ _ (offset ++ (gap ++ (size ++ gap))) flags head c.in_ok-push_flags.ensures) c.push_str.ensures.bytes in
    let same : ((offset ++ (gap ++ (size ++ gap))) ++ flags) ++ codes "\n" ≡ map_line c.args.allocation c.args.offset c.args.extent = simp append_assoc in
    subst (λ (t : List ℕ). OnOk c.push_str.result (string_bytes c.push_str.new.self ≡ old ++ t)) same whole

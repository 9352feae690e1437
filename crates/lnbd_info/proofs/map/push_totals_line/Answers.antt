use Rattle.std.proofs.Common.{◌≡◌, ◌∙◌, ◌++◌, List, ℕ, ap, append_assoc, codes, string_bytes, subst}
use Rattle.std.specs.Prelude.{OnOk}
use Rattle.std.specs.Fmt.{decimal, styled_decimal}
use Rattle.lnbd_info.specs.Map.{flags_text, right, tenths, tenths_text, totals_line}
use Rattle.lnbd_info.proofs.ColumnLemmas.{in_column}
use Rattle.lnbd_info.proofs.PushLemmas.{behind, pushed_last}
use Rattle.lnbd_info.proofs.map.push_totals_line.Goals as goal

pub returns : goal.returns
returns c =
    let old = string_bytes c.args.text.now in
    let gap : List ℕ = codes "  " in
    let sum : List ℕ = right 10 (decimal c.args.total.length) in
    let percent : List ℕ = right 5 (tenths_text (tenths c.args.total.length c.args.whole)) in
    let flags : List ℕ = flags_text c.args.allocation c.args.total.flags in
    let shown : styled_decimal c.laid_out.result c.args.total.length ≡ sum = rw c.laid_out.ensures (in_column 10 (decimal c.args.total.length)) in
    let head = c.in_ok-write.ensures.bytes ∙ ap (λ (t : List ℕ). old ++ (t ++ gap)) shown in
    let part = c.in_ok-push_percentage.ensures ∙ ap (λ (n : ℕ). string_bytes c.write.new.self ++ right 5 (tenths_text n)) c.tenths_of.ensures in
    let two = behind old _ _ (sum ++ gap) percent head part in
    let three = behind old _ _ ((sum ++ gap) ++ percent) (codes "%  ") two c.in_ok-push_str.ensures.bytes in
    let four = behind old _ _ (((sum ++ gap) ++ percent) ++ codes "%  ") flags three c.in_ok-push_flags.ensures in
    let whole = pushed_last c.push_str-2.result old _ _ ((((sum ++ gap) ++ percent) ++ codes "%  ") ++ flags) (codes "\n") four c.push_str-2.ensures.bytes in
    let same : ((((sum ++ gap) ++ percent) ++ codes "%  ") ++ flags) ++ codes "\n" ≡ totals_line c.args.allocation c.args.whole c.args.total = simp append_assoc in
    subst (λ (t : List ℕ). OnOk c.push_str-2.result (string_bytes c.push_str-2.new.self ≡ old ++ t)) same whole

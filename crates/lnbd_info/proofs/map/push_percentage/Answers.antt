use Rattle.std.proofs.Common.{◌≡◌, ◌∙◌, ◌++◌, ◌<◌, ◌/◌, ◌%◌, List, ℕ, ap, arith, string_bytes, subst}
use Rattle.std.specs.Prelude.{OnOk, codes}
use Rattle.std.specs.Fmt.{decimal, styled_decimal}
use Rattle.lnbd_info.specs.Map.{right, tenths_text}
use Rattle.lnbd_info.proofs.ColumnLemmas.{in_column, with_tenth}
use Rattle.lnbd_info.proofs.map.push_percentage.Goals as goal

pub returns : goal.returns
returns c =
    let n = c.args.tenths in
    let small : n % 10 < 10 = omega arith in
    let shown : styled_decimal c.laid_out.result (n / 10) ++ (codes "." ++ decimal (n % 10)) ≡ right 5 (tenths_text n) = rw c.laid_out.ensures (ap (λ (t : List ℕ). t ++ (codes "." ++ decimal (n % 10))) (in_column 3 (decimal (n / 10))) ∙ with_tenth (n / 10) (n % 10) small) in
    subst (λ (t : List ℕ). OnOk c.write.result (string_bytes c.write.new.self ≡ string_bytes c.args.text.now ++ t)) shown c.write.ensures.bytes

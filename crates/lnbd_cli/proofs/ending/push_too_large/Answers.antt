use Rattle.std.proofs.Common.{◌≡◌, ◌++◌, ℕ, List, refl, sym, subst, OnOk, codes, decimal, string_bytes, append_assoc}
use Rattle.lnbd_cli.specs.Limits.{most_tested}
use Rattle.lnbd_cli.proofs.ending.push_too_large.Goals as goal

pub returns : goal.returns
returns c =
    let size = decimal c.args.size in
    let told : List ℕ → Type 0 = λ text. OnOk c.write.result (string_bytes c.write.new.self ≡ string_bytes c.args.text.now ++ (codes "selftest-size " ++ text)) in
    let is : 16777216 ≡ most_tested = refl in
    subst (λ (n : ℕ). told (size ++ codes " " ++ decimal n)) is (subst told ((sym (append_assoc size (codes " ") (decimal 16777216)))) c.write.ensures.bytes)

use Rattle.std.proofs.Common.{◌∙◌, ◌++◌, List, ℕ, codes, string_bytes, sym}
use Rattle.lnbd_texts.specs.Quoted.{quoted_text}
use Rattle.lnbd_info.proofs.ListingLemmas.{description_filled}
use Rattle.lnbd_info.proofs.PushLemmas.{behind, pushed_last}
use Rattle.lnbd_info.proofs.listing.push_description.Goals as goal

pub returns : goal.returns
returns c =
    let old = string_bytes c.args.text.now in
    let front : List ℕ = codes "\tdescription: " in
    let shown : List ℕ = quoted_text c.args.description.now in
    let both = behind old _ _ front shown c.in_ok-push_str.ensures.bytes c.in_ok-push_quoted.ensures in
    rw (description_filled c.args.description.now (sym c.is_empty.ensures ∙ c.if-is_empty.false))
    (pushed_last c.push_str-2.result old _ _ (front ++ shown) (codes "\n") both c.push_str-2.ensures.bytes)

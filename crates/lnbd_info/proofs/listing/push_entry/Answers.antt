use Rattle.std.proofs.Common.{◌∙◌, ◌++◌, List, ℕ, ap, codes, string_bytes}
use Rattle.lnbd_texts.specs.Quoted.{quoted_text}
use Rattle.lnbd_info.specs.Listing.{outcome_lines}
use Rattle.lnbd_info.proofs.PushLemmas.{pushed_then}
use Rattle.lnbd_info.proofs.listing.push_entry.Goals as goal

pub returns : goal.returns
returns c =
    let entry = c.args.entry.now in
    let named = c.in_ok-push_quoted.ensures ∙ ap (λ (t : List ℕ). string_bytes c.push_str.new.self ++ quoted_text t) c.as_str.ensures.value in
    let third = pushed_then c.push_outcome.result _ _ _ (codes ":\n") (outcome_lines c.args.contexts entry.listed entry.told) c.in_ok-push_str-2.ensures.bytes c.push_outcome.ensures in
    let second = pushed_then c.push_outcome.result _ _ _ (quoted_text entry.listed.name) _ named third in
    pushed_then c.push_outcome.result _ _ _ (codes "export=") _ c.in_ok-push_str.ensures.bytes second

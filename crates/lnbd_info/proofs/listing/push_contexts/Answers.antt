use Rattle.std.proofs.Common.{◌∙◌, codes, string_bytes, sym}
use Rattle.std.specs.Prelude.{flat_map}
use Rattle.lnbd_info.specs.Listing.{context_line}
use Rattle.lnbd_info.proofs.ListingLemmas.{contexts_filled}
use Rattle.lnbd_info.proofs.PushLemmas.{pushed_then}
use Rattle.lnbd_info.proofs.listing.push_contexts.Goals as goal

pub returns : goal.returns
returns c =
    rw (contexts_filled c.args.contexts.now (sym c.is_empty.ensures ∙ c.if-is_empty.false))
    (pushed_then c.push_names.result (string_bytes c.args.text.now) _ _ (codes "\tcontexts:\n") (flat_map context_line c.args.contexts.now) c.in_ok-push_str.ensures.bytes c.push_names.ensures)

use Rattle.serde_json.specs.View.{view}
use Rattle.lnbd_info.specs.ListingJson.{listing_data}
use Rattle.lnbd_info.proofs.JsonLemmas.{text_of}
use Rattle.lnbd_info.proofs.ListingLemmas.{listing_plain}
use Rattle.lnbd_info.proofs.json.listing_text.Goals as goal

pub returns : goal.returns
returns c =
    text_of c.to_string.result (view c.in_ok-value.value) (listing_data c.args.contexts c.args.entries.now) c.in_ok-value.ensures (listing_plain c.args.contexts c.args.entries.now) c.to_string.ensures.text

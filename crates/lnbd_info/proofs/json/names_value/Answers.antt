use Rattle.std.proofs.Common.{◌∙◌, ap}
use Rattle.serde_json.specs.Data.{string}
use Rattle.lnbd_info.specs.ListingJson.{context_data}
use Rattle.lnbd_info.proofs.ListingLemmas.{values_more}
use Rattle.lnbd_info.proofs.json.names_value.Goals as goal

pub contexts-preserved : goal.contexts-preserved
contexts-preserved c =
    values_more context_data c.args.contexts.now c.contexts.context-index c.context-item.result c.contexts.values.items c.push.new.list.items c.in_ok-value.value c.contexts-test.true c.contexts.invariant c.in_ok-push.ensures.ok (c.in_ok-value.ensures ∙ ap string c.as_str.ensures.value ∙ ap context_data c.context-item.is)

use Rattle.std.proofs.Common.{◌∙◌, ap}
use Rattle.lnbd_info.specs.ListingJson.{entry_data}
use Rattle.lnbd_info.proofs.ListingLemmas.{values_more}
use Rattle.lnbd_info.proofs.json.entries_value.Goals as goal

pub entries-preserved : goal.entries-preserved
entries-preserved c =
    values_more (entry_data c.args.contexts) c.args.entries.now c.entries.entry-index c.entry-item.result c.entries.values.items c.push.new.list.items c.in_ok-value.value c.entries-test.true c.entries.invariant c.in_ok-push.ensures.ok (c.in_ok-value.ensures ∙ ap (entry_data c.args.contexts) c.entry-item.is)

use Rattle.std.proofs.Common.{◌≡◌, drop}
use Rattle.lnbd_cli.specs.Heard.{end_of_entries}
use Rattle.lnbd_cli.proofs.hearing.end_of_entries.Given as goal

abbrev pub invariant-entries : goal.invariant-entries
invariant-entries l = end_of_entries (drop l.entry-index l.entries) ≡ end_of_entries l.entries

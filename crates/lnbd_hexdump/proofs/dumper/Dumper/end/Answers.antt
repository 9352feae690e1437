use Rattle.std.proofs.Common.{rules, ◌≡◌, ◌<◌, ◌++◌, List, ℕ, length, subst}
use Rattle.std.specs.Prelude.{OnOk}
use Rattle.lnbd_hexdump.specs.Dump.{group_line}
use Rattle.lnbd_hexdump.specs.Said.{Kept}
use Rattle.lnbd_hexdump.proofs.EndLemmas.{ends_empty, ends_pushed}
use Rattle.lnbd_hexdump.proofs.dumper.Dumper.end.Goals as goal

pub returns-then-is_empty : goal.returns-then-is_empty
returns-then-is_empty c =
    let none : length c.self.inside.pending.items ≡ 0 = search rules in
    ends_empty c.args.self.now c.args.text.now.items (rw (← c.self.view_is) none)

pub returns : goal.returns
returns c =
    let some : 0 < length c.self.inside.pending.items = search rules in
    let old = c.args.text.now.items in
    let now = c.push_line.new.text.items in
    let shown : OnOk c.push_line.result (now ≡ old ++ group_line c.self.inside.at c.self.inside.pending.items) =
    subst (λ (t : List ℕ). OnOk c.push_line.result (now ≡ old ++ group_line c.self.inside.at t)) c.deref.ensures.value c.push_line.ensures in
    let kept : Kept = record { at = c.self.inside.at; pending = c.self.inside.pending.items; before = c.self.inside.before.items; repeated = c.self.inside.repeated } in
    rw (← c.self.view_is) (ends_pushed c.push_line.result kept old now some shown)

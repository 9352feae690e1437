use Rattle.std.proofs.Common.{◌≡◌, ◌≤◌, ◌∙◌, sym, length}
use Rattle.std.proofs.lemmas.Result.{on_ok_weaker, IfOk-weaker}
use Rattle.lnbd_chunks.specs.Chunk.{form_of, is_done}
use Rattle.lnbd_chunks.specs.declared.form.Form.TheVariants.{Data, Hole, Status, ExtendedStatus}
use Rattle.lnbd_structured.specs.Assembly.{head_of, waiting_of}
use Rattle.lnbd_structured.proofs.BreachLemmas.{data_lies, hole_lies}
use Rattle.lnbd_structured.proofs.assembly.Assembly.take.Goals as goal

pub take_data-requires-clause-read : goal.take_data-requires-clause-read
take_data-requires-clause-read c =
    let is : form_of c.args.self.now.extended c.args.head.now.kind ≡ Data = rw (← c.self.view_is) (sym c.form_of.ensures ∙ c.in-Data.is) in
    let whole : 8 ≤ length c.args.fixed.now = rw is at c.requires.whole in
    (data_lies c.args.self.now.extended (waiting_of c.args.self.now) (head_of c.args.head.now) c.args.fixed.now is c.requires.lawful whole).0

pub take_data-requires-clause-within : goal.take_data-requires-clause-within
take_data-requires-clause-within c =
    let is : form_of c.args.self.now.extended c.args.head.now.kind ≡ Data = rw (← c.self.view_is) (sym c.form_of.ensures ∙ c.in-Data.is) in
    let whole : 8 ≤ length c.args.fixed.now = rw is at c.requires.whole in
    rw (c.u64_at.ensures, c.saturating_sub.ensures) (data_lies c.args.self.now.extended (waiting_of c.args.self.now) (head_of c.args.head.now) c.args.fixed.now is c.requires.lawful whole).1

pub take_hole-requires-clause-read : goal.take_hole-requires-clause-read
take_hole-requires-clause-read c =
    let is : form_of c.args.self.now.extended c.args.head.now.kind ≡ Hole = rw (← c.self.view_is) (sym c.form_of.ensures ∙ c.in-Hole.is) in
    let whole : 12 ≤ length c.args.fixed.now = rw is at c.requires.whole in
    (hole_lies c.args.self.now.extended (waiting_of c.args.self.now) (head_of c.args.head.now) c.args.fixed.now is c.requires.lawful whole).0

pub take_hole-requires-clause-within : goal.take_hole-requires-clause-within
take_hole-requires-clause-within c =
    let is : form_of c.args.self.now.extended c.args.head.now.kind ≡ Hole = rw (← c.self.view_is) (sym c.form_of.ensures ∙ c.in-Hole.is) in
    let whole : 12 ≤ length c.args.fixed.now = rw is at c.requires.whole in
    rw (c.u64_at-in-Hole.ensures, c.from.ensures, c.u32_at.ensures) (hole_lies c.args.self.now.extended (waiting_of c.args.self.now) (head_of c.args.head.now) c.args.fixed.now is c.requires.lawful whole).1

pub returns-in-Data-clause-ok : goal.returns-in-Data-clause-ok
returns-in-Data-clause-ok c =
    let is : form_of c.args.self.now.extended c.args.head.now.kind ≡ Data = rw (← c.self.view_is) (sym c.form_of.ensures ∙ c.in-Data.is) in
    on_ok_weaker c.take_data.result (λ told bytes e. rw (is, ← c.u64_at.ensures) (told bytes c.args.contexts.now (is_done (head_of c.args.head.now)) (e ∙ sym c.saturating_sub.ensures))) c.take_data.ensures.ok

pub returns-in-Data-clause-effect : goal.returns-in-Data-clause-effect
returns-in-Data-clause-effect c =
    let is : form_of c.args.self.now.extended c.args.head.now.kind ≡ Data = rw (← c.self.view_is) (sym c.form_of.ensures ∙ c.in-Data.is) in
    IfOk-weaker c.take_data.result _ _ (λ effect told bytes e. rw (is, ← c.u64_at.ensures) (told bytes c.args.contexts.now (e ∙ sym c.saturating_sub.ensures))) c.take_data.ensures.effect

pub returns-in-Hole-clause-ok : goal.returns-in-Hole-clause-ok
returns-in-Hole-clause-ok c =
    let is : form_of c.args.self.now.extended c.args.head.now.kind ≡ Hole = rw (← c.self.view_is) (sym c.form_of.ensures ∙ c.in-Hole.is) in
    on_ok_weaker c.take_hole.result (λ told bytes e. rw (is, ← c.u64_at-in-Hole.ensures, ← c.u32_at.ensures, ← c.from.ensures) (told c.args.contexts.now (is_done (head_of c.args.head.now)))) c.take_hole.ensures.ok

pub returns-in-Hole-clause-effect : goal.returns-in-Hole-clause-effect
returns-in-Hole-clause-effect c =
    let is : form_of c.args.self.now.extended c.args.head.now.kind ≡ Hole = rw (← c.self.view_is) (sym c.form_of.ensures ∙ c.in-Hole.is) in
    IfOk-weaker c.take_hole.result _ _ (λ effect told bytes e. rw (is, ← c.u64_at-in-Hole.ensures, ← c.u32_at.ensures, ← c.from.ensures) (told c.args.contexts.now)) c.take_hole.ensures.effect

pub returns-in-Status-clause-ok : goal.returns-in-Status-clause-ok
returns-in-Status-clause-ok c =
    let is : form_of c.args.self.now.extended c.args.head.now.kind ≡ Status = rw (← c.self.view_is) (sym c.form_of.ensures ∙ c.in-Status.is) in
    on_ok_weaker c.take_status.result (λ told bytes e. rw (is, ← c.u32_at-in-Status.ensures) (told (is_done (head_of c.args.head.now)))) c.take_status.ensures.ok

pub returns-in-ExtendedStatus-clause-ok : goal.returns-in-ExtendedStatus-clause-ok
returns-in-ExtendedStatus-clause-ok c =
    let is : form_of c.args.self.now.extended c.args.head.now.kind ≡ ExtendedStatus = rw (← c.self.view_is) (sym c.form_of.ensures ∙ c.in-ExtendedStatus.is) in
    on_ok_weaker c.take_status-in-ExtendedStatus.result (λ told bytes e. rw (is, ← c.u32_at-in-ExtendedStatus.ensures) (told (is_done (head_of c.args.head.now)))) c.take_status-in-ExtendedStatus.ensures.ok

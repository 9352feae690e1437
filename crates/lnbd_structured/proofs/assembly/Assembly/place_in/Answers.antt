use Rattle.std.proofs.Common.{◌≡◌, ◌∙◌, sym}
use Rattle.lnbd_chunks.specs.Chunk.{form_of}
use Rattle.lnbd_chunks.specs.declared.form.Form.TheVariants.{Data}
use Rattle.lnbd_structured.specs.Assembly.{head_of, waiting_of}
use Rattle.lnbd_structured.proofs.BreachLemmas.{data_lies, is_data_form}
use Rattle.lnbd_structured.proofs.assembly.Assembly.place_in.Goals as goal

pub clashes-requires-clause-read : goal.clashes-requires-clause-read
clashes-requires-clause-read c =
    let is : form_of c.args.self.now.extended c.args.head.now.kind ≡ Data = rw (← c.self.view_is) (sym c.form_of.ensures ∙ is_data_form c.form_of.result (sym c.is_data.ensures ∙ c.if-not-is_data.false)) in
    (data_lies c.args.self.now.extended (waiting_of c.args.self.now) (head_of c.args.head.now) c.args.fixed.now is c.requires c.if-fixed-lt8.false).0

pub clashes-requires-clause-within : goal.clashes-requires-clause-within
clashes-requires-clause-within c =
    let is : form_of c.args.self.now.extended c.args.head.now.kind ≡ Data = rw (← c.self.view_is) (sym c.form_of.ensures ∙ is_data_form c.form_of.result (sym c.is_data.ensures ∙ c.if-not-is_data.false)) in
    rw (c.u64_at-offset.ensures, c.saturating_sub-length.ensures) (data_lies c.args.self.now.extended (waiting_of c.args.self.now) (head_of c.args.head.now) c.args.fixed.now is c.requires c.if-fixed-lt8.false).1

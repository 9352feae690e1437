use Rattle.std.proofs.Common.{◌≡◌, Option, Err, sym, subst}
use Rattle.std.specs.Prelude.{IfOk}
use Rattle.lnbd_records.specs.Requests.{asked_of}
use Rattle.lnbd_options.specs.Answers.{AskedAs}
use Rattle.lnbd_options.specs.declared.asked.Request.{Request}
use Rattle.lnbd_options.specs.declared.fault.OptionFault.{OptionFault}
use Rattle.lnbd_server.specs.Options.{answer_of}
use Rattle.lnbd_server.specs.Views.{answer_as}
use Rattle.lnbd_server.proofs.Answering.{wish_is, wish_none, wish_untold}
use Rattle.lnbd_server.proofs.options.answer_option.Goals as goal

pub returns-in-Ok : goal.returns-in-Ok
returns-in-Ok c =
    let h = c.in-Ok.ensures in
    subst (λ (w : Option Request). IfOk c.answer_request.result (λ a. answer_as a ≡ answer_of c.args.offers c.args.export.now c.args.no_zeroes c.args.agreed c.args.option w))
    (sym (wish_is c.args.option c.args.body.now h.0 c.in-Ok.request h.1 h.2 h.3)) c.answer_request.ensures

pub returns-in-BadOptionLength : goal.returns-in-BadOptionLength
returns-in-BadOptionLength c =
    let h = subst (λ (f : OptionFault). AskedAs (asked_of c.args.option c.args.body.now) (Err f)) c.in-BadOptionLength.is c.in-Err.ensures in
    subst (λ (w : Option Request). IfOk c.invalid.result (λ a. answer_as a ≡ answer_of c.args.offers c.args.export.now c.args.no_zeroes c.args.agreed c.args.option w))
    (sym (wish_none c.args.option c.args.body.now h)) c.invalid.ensures

pub returns-in-BadText : goal.returns-in-BadText
returns-in-BadText c =
    let h = subst (λ (f : OptionFault). AskedAs (asked_of c.args.option c.args.body.now) (Err f)) c.in-BadText.is c.in-Err.ensures in
    subst (λ (w : Option Request). IfOk c.invalid-in-BadText.result (λ a. answer_as a ≡ answer_of c.args.offers c.args.export.now c.args.no_zeroes c.args.agreed c.args.option w))
    (sym (wish_untold c.args.option c.args.body.now h.0 h.1 h.2)) c.invalid-in-BadText.ensures

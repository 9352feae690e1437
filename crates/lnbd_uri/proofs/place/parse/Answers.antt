use Rattle.std.proofs.Common.{◌≢◌, IfErr, IfOk}
use Rattle.std.proofs.lemmas.Result.{IfErr-weaker, IfOk-weaker}
use Rattle.lnbd_uri.proofs.AnswerLemmas.{answers_fault, answers_place, answers_written}
use Rattle.lnbd_uri.specs.Address.{IsAddress}
use Rattle.lnbd_uri.specs.Fault.{HasFault}
use Rattle.lnbd_uri.specs.Written.{reading_of}
use Rattle.lnbd_uri.specs.declared.fault.UriFault.TheVariants.{NoMemory}
use Rattle.lnbd_uri.proofs.place.parse.Goals as goal

pub returns : goal.returns
returns c =
    let place : IfOk c.place_of.result (IsAddress c.args.text.now) =
    IfOk-weaker c.place_of.result _ _ (λ place means. record { reading = reading_of c.read-address.result; reads = c.read-address.ensures; means = means }) c.place_of.ensures.place in
    let fault : IfErr c.place_of.result (λ fault. fault ≢ NoMemory → HasFault c.args.text.now fault) =
    IfErr-weaker c.place_of.result _ _ (λ fault lowest other. record { reading = reading_of c.read-address.result; reads = c.read-address.ensures; is_lowest = lowest other }) c.place_of.ensures.fault in
    record {
      place = place;
      fault = fault;
      accepts = answers_place c.args.text.now c.place_of.result place fault;
      written = answers_written c.args.text.now c.place_of.result (reading_of c.read-address.result) c.read-address.ensures c.place_of.ensures.memory place fault;
      refuses = answers_fault c.args.text.now c.place_of.result place fault;
    }

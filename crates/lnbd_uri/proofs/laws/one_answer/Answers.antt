use Rattle.lnbd_uri.proofs.AnswerLemmas.{address_has_no_fault, fault_once}
use Rattle.lnbd_uri.proofs.ReadingLemmas.{place_once}
use Rattle.lnbd_uri.proofs.laws.one_answer.Goals as goal

pub returns : goal.returns
returns c = record { place = place_once; fault = fault_once; apart = address_has_no_fault }

use Rattle.std.proofs.Common.{decimal, ◌∙◌, ap}
use Rattle.lnbd_texts.specs.Information.{info_text}
use Rattle.lnbd_texts.specs.Notes.{log_text}
use Rattle.lnbd_texts.specs.Options.{answer_text, listing_text}
use Rattle.lnbd_texts.specs.Results.{peeked_text}
use Rattle.lnbd_texts.specs.States.{state_text}
use Rattle.lnbd_script.specs.declared.told.Told.TheVariants as told
use Rattle.lnbd_script.proofs.TextLemmas.{answer_told}
use Rattle.lnbd_script.proofs.TurnLemmas.{answers_at}
use Rattle.lnbd_script.proofs.texts.push_answer.Goals as goal

pub returns-in-Log : goal.returns-in-Log
returns-in-Log c = answer_told _ _ told.Log c.args.session.now _ _ _ c.in-Log.is c.push_log.ensures (λ seen at. ap log_text (c.log.ensures.value ∙ (answers_at seen _ at).log))

pub returns-in-Peek : goal.returns-in-Peek
returns-in-Peek c = answer_told _ _ told.Peek c.args.session.now _ _ _ c.in-Peek.is c.push_peeked.ensures (λ seen at. ap peeked_text (c.peek.ensures.value ∙ (answers_at seen _ at).peeked))

pub returns-in-InFlight : goal.returns-in-InFlight
returns-in-InFlight c = answer_told _ _ told.InFlight c.args.session.now _ _ _ c.in-InFlight.is c.write.ensures.bytes (λ seen at. ap decimal (c.in_flight-count.ensures.value ∙ (answers_at seen _ at).in_flight))

pub returns-in-Direction : goal.returns-in-Direction
returns-in-Direction c = answer_told _ _ told.Direction c.args.session.now _ _ _ c.in-Direction.is c.write-in-Direction.ensures.bytes (λ seen at. ap decimal (c.direction-direction.ensures.value ∙ (answers_at seen _ at).direction))

pub returns-in-State : goal.returns-in-State
returns-in-State c = answer_told _ _ told.State c.args.session.now _ _ _ c.in-State.is c.push_state.ensures (λ seen at. ap state_text (c.state.ensures.value ∙ (answers_at seen _ at).state))

pub returns-in-Answer : goal.returns-in-Answer
returns-in-Answer c = answer_told _ _ told.Answer c.args.session.now _ _ _ c.in-Answer.is c.push_opt_answer.ensures (λ seen at. ap answer_text (c.opt_answer.ensures.value ∙ (answers_at seen _ at).opt_answer))

pub returns-in-Listing : goal.returns-in-Listing
returns-in-Listing c = answer_told _ _ told.Listing c.args.session.now _ _ _ c.in-Listing.is c.push_listing.ensures (λ seen at. ap listing_text (c.as_slice.ensures ∙ c.listed.ensures.value ∙ (answers_at seen _ at).listed))

pub returns-in-Info : goal.returns-in-Info
returns-in-Info c = answer_told _ _ told.Info c.args.session.now _ _ _ c.in-Info.is c.push_info.ensures (λ seen at. ap info_text (c.info.ensures.value ∙ (answers_at seen _ at).info))

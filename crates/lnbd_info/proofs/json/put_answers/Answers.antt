use Rattle.serde_json.specs.View.{members_view}
use Rattle.lnbd_info.proofs.ListingLemmas.{answers_more}
use Rattle.lnbd_info.proofs.json.put_answers.Goals as goal

pub questions-preserved : goal.questions-preserved
questions-preserved c =
    answers_more c.args.info.now c.args.questions.now c.questions.question-index _ (members_view c.args.members.now.entries) (members_view c.questions.members.entries) (members_view c.put_answer.new.members.entries) c.questions-test.true c.questions.invariant c.in_ok-put_answer.ensures

use Rattle.std.proofs.Common.{◌≡◌, map, take}
use Rattle.serde_json.specs.View.{members_view}
use Rattle.lnbd_info.specs.Json.{with_members}
use Rattle.lnbd_info.specs.ListingJson.{answer_member}
use Rattle.lnbd_info.proofs.json.put_answers.Given as goal

abbrev pub invariant-questions : goal.invariant-questions
invariant-questions l = members_view l.members.entries ≡ with_members (map (answer_member l.info) (take l.question-index l.questions)) (members_view l.fn.members.entries)

-- What the code's values stand for.
use Rattle.lnbd_server.specs.declared.options.Answer.{Answer}
use Rattle.lnbd_server.specs.Options.{Answer as Answered}

abbrev pub answer_as : Answer → Answered
answer_as answer = record { bytes = answer.bytes.items; agreed = answer.agreed; stage = answer.stage }

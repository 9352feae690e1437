use Rattle.std.proofs.Common.{map, string_bytes}
use Rattle.lnbd_args.proofs.OneReading.{Comes, accepts, misplaced, refuses}
use Rattle.lnbd_args.proofs.words.read_words.Goals as goal

pub returns : goal.returns
returns c =
    let words = map string_bytes c.args.words.now in
    let comes : Comes words c.asked.result = record { asked = c.asked.ensures.asked; usage = c.asked.ensures.usage; address = c.asked.ensures.address } in
    record {
      asked = c.asked.ensures.asked;
      usage = c.asked.ensures.usage;
      address = c.asked.ensures.address;
      accepts = accepts words c.asked.result comes;
      refuses = refuses words c.asked.result comes;
      misplaced = misplaced words c.asked.result comes;
    }

use Rattle.lnbd_args.proofs.OneReading.{asks_once, asks_or_misplaced, misplaced_once, reads_once}
use Rattle.lnbd_args.proofs.RunLemmas.{split_once}
use Rattle.lnbd_args.proofs.laws.one_reading.Goals as goal

pub returns : goal.returns
returns c = record { reads = reads_once; asks = asks_once; misplaced = misplaced_once; split = split_once; apart = asks_or_misplaced }

use Rattle.lnbd_uri.proofs.SpellingLemmas.{IsAddress-tcp, IsAddress-unix}
use Rattle.lnbd_uri.proofs.laws.every_place_is_spelled.Goals as goal

pub returns : goal.returns
returns c = record { tcp = IsAddress-tcp; unix = IsAddress-unix }

use Rattle.std.proofs.Common.{◌≡◌, take}
use Rattle.lnbd_child.proofs.child.words_of.Given as goal

abbrev pub invariant-words : goal.invariant-words
invariant-words l = l.all ≡ take l.word-index l.words

use Rattle.std.proofs.Common.{◌≡◌, map, string_bytes, take}
use Rattle.lnbd_args.specs.Tools.{AreShort}
use Rattle.lnbd_args.proofs.text.texts.Given as goal

-- the words so far are kept
abbrev pub invariant-loop-word : goal.invariant-loop-word
invariant-loop-word l = (l.texts ≡ map string_bytes (take l.word-index l.words)) × AreShort (map string_bytes (take l.word-index l.words))

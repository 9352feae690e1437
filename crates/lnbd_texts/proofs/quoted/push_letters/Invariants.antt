use Rattle.std.proofs.Common.{◌≡◌, ◌++◌, IsUtf8, string_bytes}
use Rattle.std.specs.Str.Iter.{chars_rest}
use Rattle.lnbd_texts.specs.Quoted.{quoted_bytes}
use Rattle.lnbd_texts.proofs.quoted.push_letters.Given as goal

-- what is pushed and what the rest will add are the whole text
abbrev pub invariant-letters : goal.invariant-letters
invariant-letters l = IsUtf8 (chars_rest l.letter-iterator) × (string_bytes l.text ++ quoted_bytes (chars_rest l.letter-iterator) ≡ string_bytes l.fn.text ++ quoted_bytes l.letters)

-- One walk over the words, as a function: the parts that they spell.
use Rattle.std.proofs.Common.{ℕ, Bool, true, false, List, [], ◌∷◌, map, Option, Some, None, option_map}
use Rattle.std.specs.Prelude.{if◌then◌else◌, nat_lt}
use Rattle.std.specs.Str.{bytes_eq}
use Rattle.clap.specs.Lexer.{long_of, short_of}
use Rattle.clap.specs.Walk.{attached_value}
use Rattle.lnbd_args.specs.Words.{Rule, Word, Part, flag, value, place, rule_named, rule_lettered}

-- what a word is: `--`, an option with no value, one with its value or with none yet, no option, or none that the rules have
pub data Class : Type 0 where
  stop : Class
  flagged : Word → Class
  valued : Word → Word → Class
  opens : Word → Class
  plain : Class
  bad : Class

abbrev pub by_rule : Rule → Option Word → Class
by_rule r (Some v) = if r.has_value then valued r.name v else bad
by_rule r None = if r.has_value then opens r.name else flagged r.name

abbrev pub by_found : Option Rule → Option Word → Class
by_found None v = bad
by_found (Some r) v = by_rule r v

abbrev pub by_letter : List Rule → List ℕ → Class
by_letter rules [] = bad
by_letter rules (b ∷ rest) = by_found (rule_lettered rules b) (attached_value rest)

abbrev pub by_short : List Rule → Option (List ℕ) → Class
by_short rules None = plain
by_short rules (Some flags) = by_letter rules flags

abbrev pub by_long : List Rule → Option (Word × Option Word) → Word → Class
by_long rules (Some p) word = by_found (rule_named rules p.0) p.1
by_long rules None word = by_short rules (short_of word)

abbrev pub class_of : List Rule → Word → Class
class_of rules word = if bytes_eq word (45 ∷ 45 ∷ []) then stop else by_long rules (long_of word) word

abbrev pub cons : Part → Option (List Part) → Option (List Part)
cons part = option_map (λ parts. part ∷ parts)

abbrev pub stepped : Class → Word → List Word → (Option Word → Option (List Part)) → Option Word → Option (List Part)
stepped stop w ws next None = Some (map place ws)
stepped (flagged n) w ws next None = cons (flag n) (next None)
stepped (valued n v) w ws next None = cons (value n v) (next None)
stepped (opens n) w ws next None = next (Some n)
stepped plain w ws next None = cons (place w) (next None)
stepped bad w ws next None = None
stepped plain w ws next (Some id) = cons (value id w) (next None)
stepped _ w ws next (Some id) = None

abbrev pub at_end : Option Word → Option (List Part)
at_end None = Some []
at_end (Some id) = None

-- the parts that the words spell, where an option may wait for its value
abbrev pub scan : List Rule → List Word → Option Word → Option (List Part)
scan rules [] waiting = at_end waiting
scan rules (w ∷ ws) waiting = stepped (class_of rules w) w ws (scan rules ws) waiting

-- no `-` is followed by a character beyond ASCII
abbrev pub is_ascii_flags : Option (List ℕ) → Bool
is_ascii_flags None = true
is_ascii_flags (Some []) = false
is_ascii_flags (Some (b ∷ rest)) = nat_lt b 128

-- A small grammar, computed: a word is its length and so many bytes, no more than three; after a longer one all is passed over.
use Rattle.std.proofs.Common.{◌≡◌, ℕ, ◌+◌, Bool, true, false, List, [], ◌∷◌, ◌++◌, take, drop, get_or, Option, Some, refl, nat_le}
use Rattle.lnbd_stream.specs.Stream.{Rules, Held, fresh, feed, trace}
use Rattle.lnbd_stream.specs.Grammar.{once, wants, each_byte, rules_by_place}

data Shown : Type 0 where
  Word : List ℕ → Shown
  TooLong : Shown
  Ignored : Shown

record Known : Type 0 where
  words : List (List ℕ)
  over : Bool

abbrev grammar : Bool → Known → List ℕ → Option Shown
grammar true known bytes = each_byte Ignored bytes
grammar false known bytes = once 1 bytes (wants (nat_le (get_or bytes 0 0) 3) TooLong (once (1 + get_or bytes 0 0) bytes (Some (Word (take (get_or bytes 0 0) (drop 1 bytes))))))

abbrev enter : Shown → Known → Known
enter (Word word) known = record { words = known.words ++ word ∷ []; over = known.over }
enter TooLong known = record { words = known.words; over = true }
enter Ignored known = known

abbrev rules : Rules Known Shown
rules = rules_by_place (λ (known : Known). known.over) grammar enter

abbrev start : Held Known
start = fresh (record { words = []; over = false })

-- two words, and the first byte of a third
two_words : feed rules start (2 ∷ 7 ∷ 8 ∷ 0 ∷ 1 ∷ []) ≡ record { known = record { words = (7 ∷ 8 ∷ []) ∷ [] ∷ []; over = false }; pending = 1 ∷ [] }
unfolding once wants each_byte
two_words = refl

-- the same in two pieces
in_pieces : feed rules (feed rules start (2 ∷ 7 ∷ [])) (8 ∷ 0 ∷ 1 ∷ []) ≡ feed rules start (2 ∷ 7 ∷ 8 ∷ 0 ∷ 1 ∷ [])
unfolding once wants each_byte
in_pieces = refl

-- a fault is shown at its byte, and what follows is passed over byte by byte
one_fault : trace rules start (1 ∷ 7 ∷ 4 ∷ 1 ∷ 7 ∷ []) ≡ (1 ∷ 7 ∷ [], Word (7 ∷ [])) ∷ (4 ∷ [], TooLong) ∷ (1 ∷ [], Ignored) ∷ (7 ∷ [], Ignored) ∷ []
unfolding once wants each_byte
one_fault = refl

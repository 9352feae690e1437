-- The numbers that a session hears fit the bytes in which they stand, and only the flags are said first.
use Rattle.std.proofs.Common.{◌≡◌, ℕ, ◌+◌, ◌^◌, ◌<◌, Bool, true, false, List, [], ◌∷◌, take, drop, Option, Some, refl, subst, ◌==◌, if◌then◌else◌, inl, inr}
use Rattle.byteorder.specs.Numbers.{big_from-lt}
use Rattle.lnbd_records.specs.Numbers.{number_at, IsBytes}
use Rattle.lnbd_records.proofs.NumberLaws.{bytes_of_drop}
use Rattle.lnbd_stream.specs.Grammar.{once, wants, each_byte}
use Rattle.lnbd_stream.proofs.Grammar.{once_some, wants_is}
use Rattle.lnbd_asked.specs.Client as client
use Rattle.lnbd_asked.specs.Client.{length_size}
use Rattle.lnbd_server.specs.declared.stage.Stage.{Stage}
use Rattle.lnbd_server.specs.declared.stage.Stage.TheVariants.{Greeting, Haggling, Serving, Ended, Strayed}
use Rattle.lnbd_server.specs.Client.{Said, Flags, OptionRequest, Asks, Disconnect, Stray, Ignored, Heard, heard, stray, says, says_flags, says_option, says_asked, says_request, says_extended, kind_of, asks_of, data_size}

number_below : (i w : ℕ) (bytes : List ℕ) → IsBytes bytes → number_at i w bytes < 256 ^ w
unfolding number_at
number_below i w bytes are = big_from-lt 0 w (drop i bytes) (bytes_of_drop i bytes are)

abbrev pub FitsHeard : Bool → Said → Type 0
FitsHeard extended (Flags flags) = Unit {0}
FitsHeard extended (OptionRequest option body) = option < 256 ^ 4
FitsHeard extended (Asks request payload) = (request.cookie < 256 ^ 8) × (request.offset < 256 ^ 8) × (request.length < 256 ^ length_size extended)
FitsHeard extended Disconnect = Unit {0}
FitsHeard extended Stray = Unit {0}
FitsHeard extended Ignored = Unit {0}

abbrev AllFit : Bool → Option Heard → Type 0
AllFit extended shown = (found : Heard) → shown ≡ Some found → FitsHeard extended found.said

fit_some : (e : Bool) (size : ℕ) (one : Said) → FitsHeard e one → AllFit e (heard size one)
fit_some e size one fits found is = let same : record { size = size; said = one } ≡ found = cc in subst (λ (f : Heard). FitsHeard e f.said) same fits

fit_once : (e : Bool) (n : ℕ) (bytes : List ℕ) (shown : Option Heard) → AllFit e shown → AllFit e (once n bytes shown)
fit_once e n bytes shown h found is = h found (once_some n bytes shown found is).1

fit_wants : (e test : Bool) (shown : Option Heard) → AllFit e shown → AllFit e (wants test stray shown)
fit_wants e test shown h found is = elim (wants_is test stray shown (Some found) is) [
  | inl w ↦ h found w.1
  | inr w ↦ fit_some e 0 Stray tt found w.1
]

fit_asks : (e : Bool) (type flags cookie offset n : ℕ) (payload : List ℕ) → cookie < 256 ^ 8 → offset < 256 ^ 8 → n < 256 ^ length_size e → FitsHeard e (asks_of type flags cookie offset n payload)
fit_asks e type flags cookie offset n payload c o l = go (type == 2)
  where
    go : (b : Bool) → FitsHeard e (if b then Disconnect else Asks (record { kind = kind_of type; flags = flags; cookie = cookie; offset = offset; length = n }) payload)
    go true = tt
    go false = (c, o, l)

fit_asked : (e : Bool) (size type flags cookie offset n : ℕ) (bytes : List ℕ) → cookie < 256 ^ 8 → offset < 256 ^ 8 → n < 256 ^ length_size e → AllFit e (says_asked e size type flags cookie offset n bytes)
unfolding says_asked
fit_asked e size type flags cookie offset n bytes c o l = fit_wants e _ _ (fit_once e _ bytes _ (fit_some e (size + data_size e type flags n) _ (fit_asks e type flags cookie offset n (take (data_size e type flags n) (drop size bytes)) c o l)))

pub heard_small : (stage : Stage) (extended : Bool) (bytes : List ℕ) → IsBytes bytes → AllFit extended (says stage extended bytes)
unfolding says_flags says_option says_request says_extended each_byte
heard_small Greeting extended bytes are = fit_once extended 4 bytes _ (fit_wants extended _ _ (fit_some extended 4 (Flags (number_at 0 4 bytes)) tt))
heard_small Haggling extended bytes are = fit_once extended 8 bytes _ (fit_wants extended _ _ (fit_once extended 16 bytes _ (fit_wants extended _ _ (fit_once extended _ bytes _
    (fit_some extended (16 + number_at 12 4 bytes) (OptionRequest (number_at 8 4 bytes) (take (number_at 12 4 bytes) (drop 16 bytes))) (number_below 8 4 bytes are))))))
heard_small Serving true bytes are = fit_once true 4 bytes _ (fit_wants true _ _ (fit_once true 32 bytes _ (fit_asked true 32 _ _ _ _ _ bytes (number_below 8 8 bytes are) (number_below 16 8 bytes are) (number_below 24 8 bytes are))))
heard_small Serving false bytes are = fit_once false 4 bytes _ (fit_wants false _ _ (fit_once false 28 bytes _ (fit_asked false 28 _ _ _ _ _ bytes (number_below 8 8 bytes are) (number_below 16 8 bytes are) (number_below 24 4 bytes are))))
heard_small Ended extended [] are = λ found is. cc
heard_small Ended extended (byte ∷ bytes) are = fit_some extended 1 Ignored tt
heard_small Strayed extended [] are = λ found is. cc
heard_small Strayed extended (byte ∷ bytes) are = fit_some extended 1 Ignored tt

-- what is said after the flags
abbrev pub After : client.Said → Bool → Type 0
After (client.Flags flags) greeted = Unit {0}
After (client.Wishes wish) greeted = greeted ≡ true
After (client.Orders order) greeted = greeted ≡ true
After client.Stray greeted = Unit {0}

pub read_after : (greeted extended : Bool) (bytes : List ℕ) (one : client.Said) → client.says false greeted extended bytes ≡ Some one → After one greeted
unfolding client.says_flags
read_after false extended bytes one e = let s = once_some 4 bytes _ one e in let same : client.Flags (number_at 0 4 bytes) ≡ one = (let w = s.1 in cc) in subst (λ (x : client.Said). After x false) same tt
read_after true extended bytes one e = go one
  where
    go : (x : client.Said) → After x true
    go (client.Flags flags) = tt
    go (client.Wishes wish) = refl
    go (client.Orders order) = refl
    go client.Stray = tt

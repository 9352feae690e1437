-- A write that a session hears has as much data as it says.
use Rattle.std.proofs.Common.{◌≡◌, ℕ, ◌≤◌, Bool, true, false, not, ◌&&◌, List, [], ◌∷◌, length, take, drop, Option, Some, None, refl, ap, subst, arith, ◌==◌, if◌then◌else◌, inl, inr, length-take, length-drop}
use Rattle.lnbd_stream.specs.Grammar.{once, wants, each_byte}
use Rattle.lnbd_stream.proofs.Grammar.{once_some, wants_is}
use Rattle.lnbd_model.specs.declared.kind.Kind.TheVariants as kind
use Rattle.lnbd_records.specs.Flags.{cmd_flag_payload_len}
use Rattle.lnbd_records.specs.Numbers.{has_bit}
use Rattle.lnbd_records.specs.Transmission.{type_write}
use Rattle.lnbd_server.specs.declared.stage.Stage.{Stage}
use Rattle.lnbd_server.specs.declared.stage.Stage.TheVariants.{Greeting, Haggling, Serving, Ended, Strayed}
use Rattle.lnbd_server.specs.Client.{Said, Flags, OptionRequest, Asks, Disconnect, Stray, Ignored, Heard, heard, stray, says, says_flags, says_option, says_asked, says_request, says_extended, kind_of, asks_of, data_size, lacks_data}

-- A write's data has its length.

abbrev pub IsSized : Said → Type 0
IsSized (Flags flags) = Unit {0}
IsSized (OptionRequest option body) = Unit {0}
IsSized (Asks request payload) = request.kind ≡ Some kind.Write → length payload ≡ request.length
IsSized Disconnect = Unit {0}
IsSized Stray = Unit {0}
IsSized Ignored = Unit {0}

abbrev AreSized : Option Heard → Type 0
AreSized shown = (found : Heard) → shown ≡ Some found → IsSized found.said

abbrev said_in : Said → Option Heard → Said
said_in other None = other
said_in other (Some found) = found.said

sized_some : (size : ℕ) (said : Said) → IsSized said → AreSized (heard size said)
sized_some size said is found e = subst IsSized (ap (said_in said) e) is

sized_once : (n : ℕ) (bytes : List ℕ) (shown : Option Heard) → (n ≤ length bytes → AreSized shown) → AreSized (once n bytes shown)
sized_once n bytes shown h found e = let s = once_some n bytes shown found e in h s.0 found s.1

sized_wants : (test : Bool) (shown : Option Heard) → (test ≡ true → AreSized shown) → AreSized (wants test stray shown)
sized_wants test shown h found e = elim (wants_is test stray shown (Some found) e) [
  | inl w ↦ h w.0 found w.1
  | inr w ↦ sized_some 0 Stray tt found w.1
]

write_type : (type : ℕ) → kind_of type ≡ Some kind.Write → (type == type_write) ≡ true
write_type type e = go (type == 0) (type == type_write) (type == 3) (type == 4) (type == 5) (type == 6) (type == 7) e
  where
    go : (b0 b1 b3 b4 b5 b6 b7 : Bool) → (if b0 then Some kind.Read else if b1 then Some kind.Write else if b3 then Some kind.Flush else if b4 then Some kind.Trim
        else if b5 then Some kind.Cache else if b6 then Some kind.Zero else if b7 then Some kind.BlockStatus else None) ≡ Some kind.Write → b1 ≡ true
    go true b1 b3 b4 b5 b6 b7 e = cc
    go false true b3 b4 b5 b6 b7 e = refl
    go false false true b4 b5 b6 b7 e = cc
    go false false false true b5 b6 b7 e = cc
    go false false false false true b6 b7 e = cc
    go false false false false false true b7 e = cc
    go false false false false false false true e = cc
    go false false false false false false false e = cc

has_data : (extended : Bool) (type flags n : ℕ) → (type == type_write) ≡ true → lacks_data extended type flags ≡ false → data_size extended type flags n ≡ n
has_data false type flags n writes lacks = ap (λ (b : Bool). if b then n else 0) writes
has_data true type flags n writes lacks = ap (λ (b : Bool). if b then n else 0) (go (type == type_write) (has_bit cmd_flag_payload_len flags) writes lacks)
  where
    go : (w b : Bool) → w ≡ true → w && not b ≡ false → b ≡ true
    go true true w e = refl
    go true false w e = cc
    go false b w e = cc

both_left : (a b : Bool) → not a && b ≡ true → a ≡ false
both_left true b e = cc
both_left false b e = refl

sized_asks : (type flags cookie offset n : ℕ) (payload : List ℕ) → (kind_of type ≡ Some kind.Write → length payload ≡ n) → IsSized (asks_of type flags cookie offset n payload)
sized_asks type flags cookie offset n payload is = go (type == 2)
  where
    go : (b : Bool) → IsSized (if b then Disconnect else Asks (record { kind = kind_of type; flags = flags; cookie = cookie; offset = offset; length = n }) payload)
    go true = tt
    go false = is

sized_asked : (extended : Bool) (size type flags cookie offset n : ℕ) (bytes : List ℕ) → AreSized (says_asked extended size type flags cookie offset n bytes)
unfolding says_asked
sized_asked extended size type flags cookie offset n bytes = sized_wants _ _ (λ fits. sized_once _ bytes _ (λ there. sized_some _ _ (sized_asks type flags cookie offset n (take (data_size extended type flags n) (drop size bytes)) (λ writes.
    let sized : data_size extended type flags n ≡ n = has_data extended type flags n (write_type type writes) (both_left (lacks_data extended type flags) _ fits) in
    omega (arith, sized, there, length-take (data_size extended type flags n) (drop size bytes), length-drop size bytes)))))

pub says_sized : (stage : Stage) (extended : Bool) (bytes : List ℕ) → AreSized (says stage extended bytes)
unfolding says_flags says_option says_request says_extended each_byte
says_sized Greeting extended bytes = sized_once 4 bytes _ (λ there. sized_wants _ _ (λ fits. sized_some _ _ tt))
says_sized Haggling extended bytes = sized_once 8 bytes _ (λ there. sized_wants _ _ (λ fits. sized_once 16 bytes _ (λ head. sized_wants _ _ (λ few. sized_once _ bytes _ (λ whole. sized_some _ _ tt)))))
says_sized Serving true bytes = sized_once 4 bytes _ (λ there. sized_wants _ _ (λ fits. sized_once 32 bytes _ (λ head. sized_asked true 32 _ _ _ _ _ bytes)))
says_sized Serving false bytes = sized_once 4 bytes _ (λ there. sized_wants _ _ (λ fits. sized_once 28 bytes _ (λ head. sized_asked false 28 _ _ _ _ _ bytes)))
says_sized Ended extended [] = λ found e. absurd cc
says_sized Ended extended (byte ∷ bytes) = sized_some 1 Ignored tt
says_sized Strayed extended [] = λ found e. absurd cc
says_sized Strayed extended (byte ∷ bytes) = sized_some 1 Ignored tt

-- Worked examples: what a client's bytes say, and what they do to a session and its export.
use Rattle.std.proofs.Common.{◌≡◌, ℕ, true, false, List, [], ◌∷◌, ◌++◌, Some, None, refl}
use Rattle.lnbd_model.specs.declared.kind.Kind.TheVariants.{Read, Write}
use Rattle.lnbd_records.specs.Numbers.{number_at}
use Rattle.lnbd_stream.specs.Stream.{fresh, feed}
use Rattle.lnbd_stream.specs.Grammar.{once, wants, each_byte}
use Rattle.lnbd_export.specs.Export.{Export}
use Rattle.lnbd_export.specs.declared.request.Replies.TheVariants.{Simple}
use Rattle.lnbd_export.specs.declared.request.Request.{Request}
use Rattle.lnbd_server.specs.declared.stage.Offers.{Offers}
use Rattle.lnbd_server.specs.declared.stage.Stage.{Stage}
use Rattle.lnbd_server.specs.declared.stage.Stage.TheVariants.{Serving, Ended}
use Rattle.lnbd_server.specs.Client.{Flags, OptionRequest, Asks, heard, stray, says_flags, says_option, says_request, says_asked}
use Rattle.lnbd_server.specs.Session.{State, rules}

two_flags : says_flags (0 ∷ 0 ∷ 0 ∷ 3 ∷ []) ≡ heard 4 (Flags 3)
unfolding says_flags once wants number_at
two_flags = refl

another_flag : says_flags (0 ∷ 0 ∷ 0 ∷ 4 ∷ []) ≡ Some stray
unfolding says_flags once wants number_at
another_flag = refl

-- GO for the export without a name, asking for nothing
go : says_option (0x49 ∷ 0x48 ∷ 0x41 ∷ 0x56 ∷ 0x45 ∷ 0x4f ∷ 0x50 ∷ 0x54 ∷ 0 ∷ 0 ∷ 0 ∷ 7 ∷ 0 ∷ 0 ∷ 0 ∷ 6 ∷ 0 ∷ 0 ∷ 0 ∷ 0 ∷ 0 ∷ 0 ∷ []) ≡ heard 22 (OptionRequest 7 (0 ∷ 0 ∷ 0 ∷ 0 ∷ 0 ∷ 0 ∷ []))
unfolding says_option once wants number_at
go = refl

-- a request of a type, with cookie 7, at 1, of 2 bytes, up to its data
abbrev head_of : ℕ → List ℕ
head_of type = 0x25 ∷ 0x60 ∷ 0x95 ∷ 0x13 ∷ 0 ∷ 0 ∷ 0 ∷ type ∷ 0 ∷ 0 ∷ 0 ∷ 0 ∷ 0 ∷ 0 ∷ 0 ∷ 7 ∷ 0 ∷ 0 ∷ 0 ∷ 0 ∷ 0 ∷ 0 ∷ 0 ∷ 1 ∷ 0 ∷ 0 ∷ 0 ∷ 2 ∷ []

abbrev asked : Request
asked = record { kind = Some Read; flags = 0; cookie = 7; offset = 1; length = 2 }

a_read : says_request (head_of 0) ≡ heard 28 (Asks asked [])
unfolding says_request says_asked once wants number_at
a_read = refl

a_write : says_request (head_of 1 ++ 8 ∷ 9 ∷ []) ≡ heard 30 (Asks (record asked { kind = Some Write }) (8 ∷ 9 ∷ []))
unfolding says_request says_asked once wants number_at
a_write = refl

half_a_write : says_request (head_of 1 ++ 8 ∷ []) ≡ None
unfolding says_request says_asked once wants number_at
half_a_write = refl

another_magic : says_request (0x21 ∷ 0xe4 ∷ 0x1c ∷ 0x71 ∷ []) ≡ Some stray
unfolding says_request says_asked once wants number_at
another_magic = refl

-- A write has its effect when it is whole, and its reply is pending; after DISC bytes count for nothing.

abbrev disk : List ℕ → Export
disk bytes = record { name = []; description = []; bytes = bytes; zeros = false ∷ false ∷ false ∷ false ∷ []; read_only = false }

abbrev serving : Stage → List Request → List ℕ → State
serving stage waiting bytes = record { stage = stage; no_zeroes = true; agreed = record { replies = Simple; allocation = false }; waiting = waiting; out = []; export = disk bytes }

abbrev offers : Offers
offers = record { structured = true; extended = true }

a_session : feed (rules offers) (fresh (serving Serving [] (1 ∷ 2 ∷ 3 ∷ 4 ∷ []))) (head_of 1 ++ 8 ∷ 9 ∷ []) ≡ fresh (serving Serving (record asked { kind = Some Write } ∷ []) (1 ∷ 8 ∷ 9 ∷ 4 ∷ []))
unfolding says_request says_asked once wants number_at
a_session = refl

its_end : feed (rules offers) (fresh (serving Serving [] (1 ∷ 2 ∷ 3 ∷ 4 ∷ []))) (head_of 2 ++ head_of 1 ++ 8 ∷ 9 ∷ []) ≡ fresh (serving Ended [] (1 ∷ 2 ∷ 3 ∷ 4 ∷ []))
unfolding says_request says_asked once wants each_byte number_at
its_end = refl

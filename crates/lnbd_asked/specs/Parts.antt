-- What a client says, as the parts that a handle sends.
use Rattle.std.specs.Prelude.{◌≡◌, ℕ, ◌+◌, ◌<◌, Bool, true, false, List, [], ◌∷◌, ◌++◌, length, is_some}
use Rattle.std.specs.List.{flat_map}
use Rattle.lnbd_records.specs.Numbers.{row}
use Rattle.lnbd_history.specs.Outgoing.{Part, plain, whole, one_if}
use Rattle.lnbd_stream.specs.Laws.{after_all}
use Rattle.lnbd_history.specs.History.{asked}
use Rattle.lnbd_asked.specs.Client.{Said, Flags, Wishes, Orders, Stray, order_head, spell}
use Rattle.lnbd_asked.specs.Link.{Link, client, is_extended, next, kind_of}
use Rattle.lnbd_asked.specs.Laws.{AreSaid}

-- a request's head, and its data behind it, if it has any; a command ends with them, or not
abbrev pub request_parts : (ends : Bool) → (head payload : List ℕ) → List Part
request_parts ends head [] = record { bytes = head; ends = ends } ∷ []
request_parts ends head (byte ∷ bytes) = plain head ∷ record { bytes = byte ∷ bytes; ends = ends } ∷ []

abbrev pub parts_of : (extended : Bool) → Said → List Part
parts_of extended (Flags flags) = plain (spell extended (Flags flags)) ∷ []
parts_of extended (Wishes wish) = plain (spell extended (Wishes wish)) ∷ []
parts_of extended (Orders order) = request_parts (is_some (kind_of order.type)) (row (order_head extended order)) order.payload
parts_of extended Stray = []

abbrev pub requests_in : Said → ℕ
requests_in (Flags flags) = 0
requests_in (Wishes wish) = 0
requests_in (Orders order) = one_if (is_some (kind_of order.type))
requests_in Stray = 0

-- how many of these are requests that are answered
abbrev pub count : List Said → ℕ
count [] = 0
count (one ∷ more) = requests_in one + count more

-- fewer bytes than the first of these has, and none where there is none
abbrev pub IsLess : (extended : Bool) → ℕ → List Said → Type 0
IsLess extended k [] = k ≡ 0
IsLess extended k (one ∷ more) = k < length (spell extended one)

-- The commands that are wholly written are the requests among the things that are wholly written.
abbrev pub WholeAreRequests : Type 0
WholeAreRequests = (extended : Bool) (front rest : List Said) (k : ℕ) → IsLess extended k rest →
    whole (flat_map (parts_of extended) (front ++ rest)) (length (flat_map (spell extended) front) + k) ≡ count front

-- So many requests more the link then knows.
abbrev pub ReadAreCounted : Type 0
ReadAreCounted = (extended : Bool) (link : Link) (all : List Said) → link.strayed ≡ false → link.greeted ≡ true → is_extended link ≡ extended → AreSaid extended (next link) all →
    (asked (after_all client (λ one. one) all link).requests).issued ≡ (asked link.requests).issued + count all

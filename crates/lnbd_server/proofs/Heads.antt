-- What the head at the front of a client's bytes says.
use Rattle.std.proofs.Common.{◌≡◌, ℕ, ◌≤◌, ◌<◌, List, [], ◌∷◌, length, Some, None, arith, false, true, inl, inr}
use Rattle.lnbd_records.specs.Numbers.{Begins, IsRow, number}
use Rattle.lnbd_records.specs.Fronts.{IsShort, HasOther}
use Rattle.lnbd_records.specs.Transmission.{request_magic, extended_request_magic, extended_head_size}
use Rattle.lnbd_records.proofs.NumberLaws.{begins_read, first_of}
use Rattle.lnbd_stream.specs.Grammar.{once, wants}
use Rattle.lnbd_wire.specs.declared.request.RequestHead.{RequestHead}
use Rattle.lnbd_wire.specs.declared.extended_request.ExtRequest.{ExtRequest}
use Rattle.lnbd_wire.specs.Heads.{request_fields, extended_request_fields}
use Rattle.lnbd_server.specs.Client.{says_request, says_extended, says_asked, request_head_size, stray}

pub request_said : (head : RequestHead) (bytes : List ℕ) → Begins (IsRow (request_fields head)) bytes →
    (says_request bytes ≡ says_asked false request_head_size head.kind head.flags head.cookie head.offset head.length bytes) × (request_head_size ≤ length bytes)
unfolding says_request once wants
request_said head bytes begins =
    let r = begins_read (request_fields head) bytes begins in
    let long = r.long in
    let fields = r.fields in
    (grind (arith, long, fields), omega (arith, long))

pub extended_said : (head : ExtRequest) (bytes : List ℕ) → Begins (IsRow (extended_request_fields head)) bytes →
    (says_extended bytes ≡ says_asked true extended_head_size head.kind head.flags head.cookie head.offset head.length bytes) × (extended_head_size ≤ length bytes)
unfolding says_extended once wants
extended_said head bytes begins =
    let r = begins_read (extended_request_fields head) bytes begins in
    let long = r.long in
    let fields = r.fields in
    (grind (arith, long, fields), omega (arith, long))

pub other_request : (other : ℕ) (bytes : List ℕ) → HasOther 4 request_magic other bytes → says_request bytes ≡ Some stray
unfolding says_request once wants
other_request other bytes h =
    let first = first_of 4 other [] bytes h.1 in
    let is = first.1 in
    let there = first.0 in
    let not = h.0 in
    grind (arith, is, there, not)

pub other_extended : (other : ℕ) (bytes : List ℕ) → HasOther 4 extended_request_magic other bytes → says_extended bytes ≡ Some stray
unfolding says_extended once wants
other_extended other bytes h =
    let first = first_of 4 other [] bytes h.1 in
    let is = first.1 in
    let there = first.0 in
    let not = h.0 in
    grind (arith, is, there, not)

pub short_request : (bytes : List ℕ) → IsShort 4 request_magic 28 bytes → says_request bytes ≡ None
unfolding says_request once wants
short_request bytes short = elim short [ inl few ↦ grind (arith, few) | inr part ↦ is_there part ] where
  is_there : Begins (IsRow (number 4 request_magic ∷ [])) bytes × (length bytes < 28) → says_request bytes ≡ None
  is_there part =
      let first = first_of 4 request_magic [] bytes part.0 in
      let is = first.1 in
      let there = first.0 in
      let few = part.1 in
      grind (arith, is, there, few)

pub short_extended : (bytes : List ℕ) → IsShort 4 extended_request_magic 32 bytes → says_extended bytes ≡ None
unfolding says_extended once wants
short_extended bytes short = elim short [ inl few ↦ grind (arith, few) | inr part ↦ is_there part ] where
  is_there : Begins (IsRow (number 4 extended_request_magic ∷ [])) bytes × (length bytes < 32) → says_extended bytes ≡ None
  is_there part =
      let first = first_of 4 extended_request_magic [] bytes part.0 in
      let is = first.1 in
      let there = first.0 in
      let few = part.1 in
      grind (arith, is, there, few)

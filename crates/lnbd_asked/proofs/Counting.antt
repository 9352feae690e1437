-- What is wholly written, counted.
use Rattle.std.proofs.Common.{◌≡◌, ℕ, ◌+◌, ◌-◌, ◌≤◌, ◌<◌, Bool, true, false, List, [], ◌∷◌, ◌++◌, length, is_some, refl, ap, sym, subst, ◌∙◌, arith, ◌==◌, nat_lt, if◌then◌else◌, length-append}
use Rattle.std.specs.List.{flat_map}
use Rattle.std.proofs.lemmas.Bool.{false≢true, ne_eqb, lt-ltb, le-ltb}
use Rattle.std.proofs.lemmas.Bool.Decides.{nat_tests}
use Rattle.lnbd_records.specs.Numbers.{row}
use Rattle.lnbd_records.specs.Handshake.{client_flags, option_head}
use Rattle.lnbd_records.specs.Transmission.{request, extended_request}
use Rattle.lnbd_records.proofs.NumberLaws.{length-row}
use Rattle.lnbd_history.specs.Outgoing.{Part, plain, whole, one_if}
use Rattle.lnbd_history.specs.History.{asked, Known}
use Rattle.lnbd_history.specs.Agreement.{steps}
use Rattle.lnbd_history.specs.Agreement.{extended as is_on}
use Rattle.lnbd_asked.specs.Client.{Said, Flags, Wishes, Orders, Stray, Order, head_size, order_head, spell}
use Rattle.lnbd_asked.specs.Link.{Nobody, client, kind_of}
use Rattle.lnbd_asked.specs.Parts.{request_parts, parts_of, requests_in, count, WholeAreRequests, ReadAreCounted}
use Rattle.lnbd_asked.specs.Laws.{AreSaid}
use Rattle.lnbd_asked.proofs.Sides.{after_order, still_extended}

pub zero_plus : (m : ℕ) → 0 + m ≡ m
zero_plus m = omega arith

-- One part.

none_of : (p : Part) (ps : List Part) (k : ℕ) → k < length p.bytes → whole (p ∷ ps) k ≡ 0
none_of p ps k less = go (k == 0)
  where
    inner : (b : Bool) → nat_lt k (length p.bytes) ≡ b → (if b then 0 else one_if p.ends + whole ps (k - length p.bytes)) ≡ 0
    inner true e = refl
    inner false e = absurd (false≢true (sym e ∙ lt-ltb k (length p.bytes) less))

    go : (b : Bool) → (if b then 0 else if nat_lt k (length p.bytes) then 0 else one_if p.ends + whole ps (k - length p.bytes)) ≡ 0
    go true = refl
    go false = inner (nat_lt k (length p.bytes)) refl

past_one : (p : Part) (ps : List Part) (n j : ℕ) → 0 < length p.bytes → n ≡ length p.bytes + j → whole (p ∷ ps) n ≡ one_if p.ends + whole ps j
past_one p ps n j some e =
    ap (λ (b : Bool). if b then 0 else if nat_lt n (length p.bytes) then 0 else one_if p.ends + whole ps (n - length p.bytes)) (ne_eqb n 0 (λ z. absurd (omega (arith, z, e, some))))
    ∙ ap (λ (b : Bool). if b then 0 else one_if p.ends + whole ps (n - length p.bytes)) (le-ltb n (length p.bytes) (omega (arith, e)))
    ∙ ap (λ m. one_if p.ends + whole ps m) (omega (arith, e))

-- One thing.

-- the bytes of a head
pub head_long : (extended : Bool) (order : Order) → length (row (order_head extended order)) ≡ head_size extended
head_long true order = length-row (extended_request order.flags order.type order.cookie order.offset order.length)
head_long false order = length-row (request order.flags order.type order.cookie order.offset order.length)

record Counts (parts : List Part) (size requests : ℕ) : Type 0 where
  none : (ps : List Part) (k : ℕ) → k < size → whole (parts ++ ps) k ≡ 0
  past : (ps : List Part) (n j : ℕ) → n ≡ size + j → whole (parts ++ ps) n ≡ requests + whole ps j

one_counts : (part : Part) → 0 < length part.bytes → Counts (part ∷ []) (length part.bytes) (one_if part.ends)
one_counts part some = record {
  none = λ ps k less. none_of part ps k less;
  past = λ ps n j e. past_one part ps n j some e;
}

request_counts : (ends : Bool) (head payload : List ℕ) → 0 < length head → Counts (request_parts ends head payload) (length (head ++ payload)) (one_if ends)
request_counts ends head [] some =
    let size = length-append head [] in
    record {
      none = λ ps k less. none_of (record { bytes = head; ends = ends }) ps k (omega (arith, less, size));
      past = λ ps n j e. past_one (record { bytes = head; ends = ends }) ps n j some (omega (arith, e, size));
    }
request_counts ends head (byte ∷ bytes) some =
    let size = length-append head (byte ∷ bytes) in
    record {
      none = λ ps k less. before ps k less (nat_lt k (length head)) refl;
      past = λ ps n j e.
          past_one (plain head) (record { bytes = byte ∷ bytes; ends = ends } ∷ ps) n (length (byte ∷ bytes) + j) some (omega (arith, e, size))
          ∙ zero_plus _ ∙ past_one (record { bytes = byte ∷ bytes; ends = ends }) ps (length (byte ∷ bytes) + j) j (omega arith) refl;
    }
  where
    before : (ps : List Part) (k : ℕ) → k < length (head ++ byte ∷ bytes) → (b : Bool) → nat_lt k (length head) ≡ b → whole (plain head ∷ record { bytes = byte ∷ bytes; ends = ends } ∷ ps) k ≡ 0
    before ps k less true e = let small : k < length head = grind (arith, nat_tests) in none_of (plain head) (record { bytes = byte ∷ bytes; ends = ends } ∷ ps) k small
    before ps k less false e =
        let large : length head ≤ k = grind (arith, nat_tests) in
        let size = length-append head (byte ∷ bytes) in
        past_one (plain head) (record { bytes = byte ∷ bytes; ends = ends } ∷ ps) k (k - length head) some (omega (arith, large))
        ∙ zero_plus _ ∙ none_of (record { bytes = byte ∷ bytes; ends = ends }) ps (k - length head) (omega (arith, less, large, size))

counts_of : (extended : Bool) (one : Said) → Counts (parts_of extended one) (length (spell extended one)) (requests_in one)
counts_of extended (Flags flags) = one_counts (plain (spell extended (Flags flags))) (omega (arith, length-row (client_flags flags)))
counts_of extended (Wishes wish) =
    one_counts (plain (spell extended (Wishes wish))) (omega (arith, length-append (row (option_head wish.option (length wish.body))) wish.body, length-row (option_head wish.option (length wish.body))))
counts_of extended (Orders order) = request_counts (is_some (kind_of order.type)) (row (order_head extended order)) order.payload (omega (arith, head_long extended order))
counts_of extended Stray = record { none = λ ps k less. absurd (omega (arith, less)); past = λ ps n j e. ap (whole ps) (e ∙ zero_plus j) ∙ sym (zero_plus (whole ps j)) }

pub whole_are_requests : WholeAreRequests
whole_are_requests extended [] [] k less = refl
whole_are_requests extended [] (one ∷ more) k less = ap (whole (flat_map (parts_of extended) (one ∷ more))) (zero_plus k) ∙ (counts_of extended one).none (flat_map (parts_of extended) more) k less
whole_are_requests extended (one ∷ front) rest k less =
    (counts_of extended one).past (flat_map (parts_of extended) (front ++ rest)) (length (flat_map (spell extended) (one ∷ front)) + k) (length (flat_map (spell extended) front) + k)
    (omega (arith, length-append (spell extended one) (flat_map (spell extended) front)))
    ∙ ap (λ m. requests_in one + m) (whole_are_requests extended front rest k less)

ordered_count : (some : Bool) (before after more : ℕ) → after + 1 ≡ (if some then before + 1 + 1 else before + 1) → after + more ≡ before + (one_if some + more)
ordered_count false before after more e = omega (arith, e)
ordered_count true before after more e = omega (arith, e)

pub read_are_counted : ReadAreCounted
read_are_counted extended link [] fresh greeted on are = omega arith
read_are_counted extended link (Flags flags ∷ more) fresh greeted on are = absurd are
read_are_counted extended link (Stray ∷ more) fresh greeted on are = absurd are
read_are_counted extended link (Wishes wish ∷ more) fresh greeted on are =
    read_are_counted extended (client.enter (Wishes wish) link) more fresh greeted (still_extended wish link ∙ on) are.1 ∙ ap (λ m. (asked link.requests).issued + m) (sym (zero_plus (count more)))
read_are_counted extended link (Orders order ∷ more) fresh greeted on are =
    let o = after_order (kind_of order.type) order link fresh greeted are.1 in
    read_are_counted extended (client.enter (Orders order) link) more o.fresh o.greeted (ap (λ (h : Known Nobody). is_on (steps h.turns)) o.heard ∙ on) (subst (λ n. AreSaid extended n more) (sym o.next) are.2)
    ∙ ordered_count (is_some (kind_of order.type)) (asked link.requests).issued (asked (client.enter (Orders order) link).requests).issued (count more) o.next

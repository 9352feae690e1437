-- What was said and is still to be said, beside the parts of a handle and the bytes that went out.
use Rattle.std.proofs.Common.{◌≡◌, ℕ, ◌+◌, ◌-◌, ◌≤◌, ◌<◌, Bool, true, false, List, [], ◌∷◌, ◌++◌, length, take, drop, is_some, refl, ap, sym, ◌∙◌, arith, ◌==◌, nat_lt, if◌then◌else◌, append_assoc, append-nil, length-append}
use Rattle.std.specs.List.{flat_map}
use Rattle.std.proofs.lemmas.Bool.{false≢true, ne_eqb, eqb-true, ltb-true, ltb-false, lt-ltb, le-ltb}
use Rattle.std.proofs.lemmas.List.{length-drop, drop-append-le, take-append-drop}
use Rattle.std.proofs.Math.Seq.{drop-nil, drop-append-add}
use Rattle.lnbd_stream.proofs.Fronts.{cuts_meet}
use Rattle.lnbd_records.specs.Numbers.{row}
use Rattle.lnbd_records.specs.Handshake.{client_flags, option_head}
use Rattle.lnbd_records.proofs.NumberLaws.{length-row}
use Rattle.lnbd_stream.specs.Laws.{IsPart}
use Rattle.lnbd_history.specs.Outgoing.{Part, plain, waiting, whole, total, out}
use Rattle.lnbd_asked.specs.Client.{Said, Flags, Wishes, Orders, Stray, Wish, Order, order_head, spell}
use Rattle.lnbd_asked.specs.Link.{kind_of}
use Rattle.lnbd_asked.specs.Parts.{parts_of, request_parts, count, IsLess}
use Rattle.lnbd_asked.proofs.Counting.{zero_plus, head_long, whole_are_requests}

-- The parts are those of what was said and of the rest, and so many bytes of them went out: all of what was said, and these of the rest.
pub record Sends (extended : Bool) (parts : List Part) (wrote : ℕ) (front rest : List Said) (written : List ℕ) : Type 0 where
  pub parts_ : parts ≡ flat_map (parts_of extended) (front ++ rest)
  pub wrote_ : wrote ≡ length (flat_map (spell extended) front) + length written
  pub tail : List ℕ
  pub coming : written ++ tail ≡ flat_map (spell extended) rest
  pub part : IsPart (spell extended) written rest

less_of : (extended : Bool) (written : List ℕ) (rest : List Said) → IsPart (spell extended) written rest → IsLess extended (length written) rest
less_of extended written [] p = ap length p
less_of extended written (one ∷ more) p = p

-- So many commands are wholly written.
pub sends_whole : (extended : Bool) (parts : List Part) (wrote : ℕ) (front rest : List Said) (written : List ℕ) → Sends extended parts wrote front rest written → whole parts wrote ≡ count front
sends_whole extended parts wrote front rest written s =
    ap (λ ps. whole ps wrote) s.parts_ ∙ ap (whole (flat_map (parts_of extended) (front ++ rest))) s.wrote_
    ∙ whole_are_requests extended front rest (length written) (less_of extended written rest s.part)

flat_append : {X A : Type 0} (f : X → List A) (xs ys : List X) → flat_map f (xs ++ ys) ≡ flat_map f xs ++ flat_map f ys
flat_append f [] ys = refl
flat_append f (x ∷ xs) ys = ap (λ zs. f x ++ zs) (flat_append f xs ys) ∙ sym (append_assoc (f x) (flat_map f xs) (flat_map f ys))

flat_one : {X A : Type 0} (f : X → List A) (xs : List X) (x : X) → flat_map f (xs ++ x ∷ []) ≡ flat_map f xs ++ f x
flat_one f xs x = flat_append f xs (x ∷ []) ∙ ap (λ zs. flat_map f xs ++ zs) (append-nil (f x))

part_more : (extended : Bool) (written : List ℕ) (rest : List Said) (new : Said) → 0 < length (spell extended new) → IsPart (spell extended) written rest → IsPart (spell extended) written (rest ++ new ∷ [])
part_more extended written [] new some p = let n = ap length p in omega (arith, n, some)
part_more extended written (one ∷ more) new some p = p

-- One thing more is to be said.
pub sends_more : (extended : Bool) (parts : List Part) (wrote : ℕ) (front rest : List Said) (written : List ℕ) (new : Said) → 0 < length (spell extended new) →
    Sends extended parts wrote front rest written → Sends extended (parts ++ parts_of extended new) wrote front (rest ++ new ∷ []) written
sends_more extended parts wrote front rest written new some s = record {
  parts_ = ap (λ ps. ps ++ parts_of extended new) s.parts_ ∙ sym (flat_one (parts_of extended) (front ++ rest) new) ∙ ap (flat_map (parts_of extended)) (append_assoc front rest (new ∷ []));
  wrote_ = s.wrote_;
  tail = s.tail ++ spell extended new;
  coming = sym (append_assoc written s.tail (spell extended new)) ∙ ap (λ bs. bs ++ spell extended new) s.coming ∙ sym (flat_one (spell extended) rest new);
  part = part_more extended written rest new some s.part;
}

pub flags_some : (extended : Bool) (flags : ℕ) → 0 < length (spell extended (Flags flags))
flags_some extended flags = omega (arith, length-row (client_flags flags))

pub wish_some : (extended : Bool) (wish : Wish) → 0 < length (spell extended (Wishes wish))
wish_some extended wish = omega (arith, length-append (row (option_head wish.option (length wish.body))) wish.body, length-row (option_head wish.option (length wish.body)))

pub order_some : (extended : Bool) (order : Order) → 0 < length (spell extended (Orders order))
order_some extended order = omega (arith, length-append (row (order_head extended order)) order.payload, head_long extended order)

-- What is offered.

abbrev bytes_of : List Part → List ℕ
bytes_of parts = flat_map (λ part. part.bytes) parts

drop_zero : {A : Type 0} (xs : List A) → drop 0 xs ≡ xs
drop_zero [] = refl
drop_zero (x ∷ xs) = refl

split : (n m : ℕ) → m ≤ n → n ≡ m + (n - m)
split n m e = omega (arith, e)

-- What waits are the bytes that are not out.
bytes_wait : (parts : List Part) (n : ℕ) → bytes_of (waiting parts n) ≡ drop n (bytes_of parts)
bytes_wait [] n = sym (drop-nil n)
bytes_wait (part ∷ parts) n = go (bytes_wait parts (n - length part.bytes)) (n == 0) refl (nat_lt n (length part.bytes)) refl
  where
    go : bytes_of (waiting parts (n - length part.bytes)) ≡ drop (n - length part.bytes) (bytes_of parts) →
        (a : Bool) → (n == 0) ≡ a → (b : Bool) → nat_lt n (length part.bytes) ≡ b → bytes_of (waiting (part ∷ parts) n) ≡ drop n (bytes_of (part ∷ parts))
    go rest true e b f =
        let z = eqb-true n 0 e in
        ap (λ (c : Bool). bytes_of (if c then part ∷ parts else if nat_lt n (length part.bytes) then record { bytes = drop n part.bytes; ends = part.ends } ∷ parts else waiting parts (n - length part.bytes))) e
        ∙ sym (ap (λ m. drop m (bytes_of (part ∷ parts))) z ∙ drop_zero (bytes_of (part ∷ parts)))
    go rest false e true f =
        let less = ltb-true n (length part.bytes) f in
        ap (λ (c : Bool). bytes_of (if c then part ∷ parts else if nat_lt n (length part.bytes) then record { bytes = drop n part.bytes; ends = part.ends } ∷ parts else waiting parts (n - length part.bytes))) e
        ∙ ap (λ (c : Bool). bytes_of (if c then record { bytes = drop n part.bytes; ends = part.ends } ∷ parts else waiting parts (n - length part.bytes))) f
        ∙ sym (drop-append-le n part.bytes (bytes_of parts) (omega (arith, less)))
    go rest false e false f =
        let more = ltb-false n (length part.bytes) f in
        ap (λ (c : Bool). bytes_of (if c then part ∷ parts else if nat_lt n (length part.bytes) then record { bytes = drop n part.bytes; ends = part.ends } ∷ parts else waiting parts (n - length part.bytes))) e
        ∙ ap (λ (c : Bool). bytes_of (if c then record { bytes = drop n part.bytes; ends = part.ends } ∷ parts else waiting parts (n - length part.bytes))) f
        ∙ rest ∙ sym (ap (λ m. drop m (bytes_of (part ∷ parts))) (split n (length part.bytes) more) ∙ drop-append-add part.bytes (bytes_of parts) (n - length part.bytes))

-- Of a thing no more is offered than is left of it.
record Offers (parts : List Part) (size : ℕ) : Type 0 where
  most : (ps : List Part) (k : ℕ) → k < size → length (out (waiting (parts ++ ps) k)) ≤ size - k
  past : (ps : List Part) (n j : ℕ) → n ≡ size + j → waiting (parts ++ ps) n ≡ waiting ps j

most_of : (part : Part) (ps : List Part) (k : ℕ) → k < length part.bytes → length (out (waiting (part ∷ ps) k)) ≤ length part.bytes - k
most_of part ps k less = go (k == 0) refl
  where
    inner : (b : Bool) → nat_lt k (length part.bytes) ≡ b → length (out (if b then record { bytes = drop k part.bytes; ends = part.ends } ∷ ps else waiting ps (k - length part.bytes))) ≤ length part.bytes - k
    inner true e = let n = length-drop k part.bytes in omega (arith, n)
    inner false e = absurd (false≢true (sym e ∙ lt-ltb k (length part.bytes) less))

    go : (b : Bool) → (k == 0) ≡ b → length (out (if b then part ∷ ps else if nat_lt k (length part.bytes) then record { bytes = drop k part.bytes; ends = part.ends } ∷ ps else waiting ps (k - length part.bytes))) ≤ length part.bytes - k
    go true e = let z = eqb-true k 0 e in omega (arith, z)
    go false e = inner (nat_lt k (length part.bytes)) refl

past_of : (part : Part) (ps : List Part) (n j : ℕ) → 0 < length part.bytes → n ≡ length part.bytes + j → waiting (part ∷ ps) n ≡ waiting ps j
past_of part ps n j some e =
    ap (λ (b : Bool). if b then part ∷ ps else if nat_lt n (length part.bytes) then record { bytes = drop n part.bytes; ends = part.ends } ∷ ps else waiting ps (n - length part.bytes)) (ne_eqb n 0 (λ z. absurd (omega (arith, z, e, some))))
    ∙ ap (λ (b : Bool). if b then record { bytes = drop n part.bytes; ends = part.ends } ∷ ps else waiting ps (n - length part.bytes)) (le-ltb n (length part.bytes) (omega (arith, e)))
    ∙ ap (waiting ps) (omega (arith, e))

one_offers : (part : Part) → 0 < length part.bytes → Offers (part ∷ []) (length part.bytes)
one_offers part some = record { most = λ ps k less. most_of part ps k less; past = λ ps n j e. past_of part ps n j some e }

request_offers : (ends : Bool) (head payload : List ℕ) → 0 < length head → Offers (request_parts ends head payload) (length (head ++ payload))
request_offers ends head [] some =
    let size = length-append head [] in
    record {
      most = λ ps k less. let m = most_of (record { bytes = head; ends = ends }) ps k (omega (arith, less, size)) in omega (arith, m, size);
      past = λ ps n j e. past_of (record { bytes = head; ends = ends }) ps n j some (omega (arith, e, size));
    }
request_offers ends head (byte ∷ bytes) some =
    let size = length-append head (byte ∷ bytes) in
    record {
      most = λ ps k less. before ps k less (nat_lt k (length head)) refl;
      past = λ ps n j e.
          past_of (plain head) (record { bytes = byte ∷ bytes; ends = ends } ∷ ps) n (length (byte ∷ bytes) + j) some (omega (arith, e, size))
          ∙ past_of (record { bytes = byte ∷ bytes; ends = ends }) ps (length (byte ∷ bytes) + j) j (omega arith) refl;
    }
  where
    before : (ps : List Part) (k : ℕ) → k < length (head ++ byte ∷ bytes) → (b : Bool) → nat_lt k (length head) ≡ b →
        length (out (waiting (plain head ∷ record { bytes = byte ∷ bytes; ends = ends } ∷ ps) k)) ≤ length (head ++ byte ∷ bytes) - k
    before ps k less true e =
        let small = ltb-true k (length head) e in
        let size = length-append head (byte ∷ bytes) in
        let m = most_of (plain head) (record { bytes = byte ∷ bytes; ends = ends } ∷ ps) k small in omega (arith, m, size)
    before ps k less false e =
        let large = ltb-false k (length head) e in
        let size = length-append head (byte ∷ bytes) in
        let p = past_of (plain head) (record { bytes = byte ∷ bytes; ends = ends } ∷ ps) k (k - length head) some (omega (arith, large)) in
        let m = most_of (record { bytes = byte ∷ bytes; ends = ends }) ps (k - length head) (omega (arith, less, large, size)) in
        let same = ap (λ (w : List Part). length (out w)) p in
        omega (arith, m, same, size, large)

offers_of : (extended : Bool) (one : Said) → Offers (parts_of extended one) (length (spell extended one))
offers_of extended (Flags flags) = one_offers (plain (spell extended (Flags flags))) (flags_some extended flags)
offers_of extended (Wishes wish) = one_offers (plain (spell extended (Wishes wish))) (wish_some extended wish)
offers_of extended (Orders order) = request_offers (is_some (kind_of order.type)) (row (order_head extended order)) order.payload (omega (arith, head_long extended order))
offers_of extended Stray = record { most = λ ps k less. absurd (omega (arith, less)); past = λ ps n j e. ap (waiting ps) (e ∙ zero_plus j) }

past_all : (extended : Bool) (front rest : List Said) (k : ℕ) →
    waiting (flat_map (parts_of extended) (front ++ rest)) (length (flat_map (spell extended) front) + k) ≡ waiting (flat_map (parts_of extended) rest) k
past_all extended [] rest k = ap (waiting (flat_map (parts_of extended) rest)) (zero_plus k)
past_all extended (one ∷ front) rest k =
    (offers_of extended one).past (flat_map (parts_of extended) (front ++ rest)) (length (flat_map (spell extended) (one ∷ front)) + k) (length (flat_map (spell extended) front) + k)
    (let n = length-append (spell extended one) (flat_map (spell extended) front) in omega (arith, n))
    ∙ past_all extended front rest k

request_bytes : (ends : Bool) (head payload : List ℕ) → bytes_of (request_parts ends head payload) ≡ head ++ payload
request_bytes ends head [] = refl
request_bytes ends head (byte ∷ bytes) = ap (λ bs. head ++ bs) (append-nil (byte ∷ bytes))

spelled_parts : (extended : Bool) (one : Said) → bytes_of (parts_of extended one) ≡ spell extended one
spelled_parts extended (Flags flags) = append-nil (spell extended (Flags flags))
spelled_parts extended (Wishes wish) = append-nil (spell extended (Wishes wish))
spelled_parts extended (Orders order) = request_bytes (is_some (kind_of order.type)) (row (order_head extended order)) order.payload
spelled_parts extended Stray = refl

spelled_all : (extended : Bool) (all : List Said) → bytes_of (flat_map (parts_of extended) all) ≡ flat_map (spell extended) all
spelled_all extended [] = refl
spelled_all extended (one ∷ more) =
    flat_append (λ (part : Part). part.bytes) (parts_of extended one) (flat_map (parts_of extended) more)
    ∙ ap (λ bs. bs ++ bytes_of (flat_map (parts_of extended) more)) (spelled_parts extended one) ∙ ap (λ bs. spell extended one ++ bs) (spelled_all extended more)

-- what is offered comes first of what waits
out_first : (parts : List Part) → (more : List ℕ) × (bytes_of parts ≡ out parts ++ more)
out_first [] = ([], refl)
out_first (part ∷ parts) = (bytes_of parts, refl)

drop_front : (a b : List ℕ) → drop (length a) (a ++ b) ≡ b
drop_front [] b = drop_zero b
drop_front (x ∷ a) b = drop_front a b

-- What is still to come is what waits.
tail_waits : (extended : Bool) (rest : List Said) (written tail : List ℕ) → written ++ tail ≡ flat_map (spell extended) rest → bytes_of (waiting (flat_map (parts_of extended) rest) (length written)) ≡ tail
tail_waits extended rest written tail e =
    bytes_wait (flat_map (parts_of extended) rest) (length written) ∙ ap (drop (length written)) (spelled_all extended rest ∙ sym e) ∙ drop_front written tail

-- A write of a front of what is offered goes on with the first thing that is to be said, and stays in it.
pub record Written (extended : Bool) (one : Said) (written bytes tail : List ℕ) : Type 0 where
  pub after : List ℕ
  pub first : spell extended one ≡ (written ++ bytes) ++ after
  pub later : List ℕ
  pub behind : tail ≡ bytes ++ later

pub offered : (extended : Bool) (parts : List Part) (wrote : ℕ) (front rest : List Said) (written : List ℕ) → Sends extended parts wrote front rest written → out (waiting parts wrote) ≡ out (waiting (flat_map (parts_of extended) rest) (length written))
offered extended parts wrote front rest written s = ap (λ ps. out (waiting ps wrote)) s.parts_ ∙ ap (λ n. out (waiting (flat_map (parts_of extended) (front ++ rest)) n)) s.wrote_ ∙ ap out (past_all extended front rest (length written))

pub none_offered : (extended : Bool) (parts : List Part) (wrote : ℕ) (front : List Said) (written : List ℕ) → Sends extended parts wrote front [] written → out (waiting parts wrote) ≡ []
none_offered extended parts wrote front written s = offered extended parts wrote front [] written s

pub is_written : (extended : Bool) (parts : List Part) (wrote : ℕ) (front more : List Said) (one : Said) (written bytes : List ℕ) → (s : Sends extended parts wrote front (one ∷ more) written) →
    bytes ≡ take (length bytes) (out (waiting parts wrote)) → Written extended one written bytes s.tail
is_written extended parts wrote front more one written bytes s e =
    let given = offered extended parts wrote front (one ∷ more) written s in
    let now = out (waiting (flat_map (parts_of extended) (one ∷ more)) (length written)) in
    let first = out_first (waiting (flat_map (parts_of extended) (one ∷ more)) (length written)) in
    let tail_is : s.tail ≡ now ++ first.0 = sym (tail_waits extended (one ∷ more) written s.tail s.coming) ∙ first.1 in
    let front_is : bytes ≡ take (length bytes) now = e ∙ ap (take (length bytes)) given in
    let now_is : now ≡ bytes ++ drop (length bytes) now = sym (take-append-drop (length bytes) now) ∙ ap (λ bs. bs ++ drop (length bytes) now) (sym front_is) in
    let behind : s.tail ≡ bytes ++ (drop (length bytes) now ++ first.0) = tail_is ∙ ap (λ bs. bs ++ first.0) now_is ∙ append_assoc bytes (drop (length bytes) now) first.0 in
    let joined : (written ++ bytes) ++ (drop (length bytes) now ++ first.0) ≡ spell extended one ++ flat_map (spell extended) more = append_assoc written bytes (drop (length bytes) now ++ first.0) ∙ ap (λ bs. written ++ bs) (sym behind) ∙ s.coming in
    let limit = (offers_of extended one).most (flat_map (parts_of extended) more) (length written) s.part in
    let small = ap length now_is ∙ length-append bytes (drop (length bytes) now) in
    let size = length-append written bytes in
    let part : length written < length (spell extended one) = s.part in
    let met = cuts_meet (written ++ bytes) (drop (length bytes) now ++ first.0) (spell extended one) (flat_map (spell extended) more) joined (omega (arith, limit, small, size, part)) in
    record { after = met.0; first = met.1; later = drop (length bytes) now ++ first.0; behind = behind }

-- One thing more is said.
pub sends_said : (extended : Bool) (parts : List Part) (wrote : ℕ) (front more : List Said) (one : Said) (written bytes : List ℕ) → ((other : Said) → IsPart (spell extended) [] more) → Sends extended parts wrote front (one ∷ more) written →
    spell extended one ≡ written ++ bytes → Sends extended parts (wrote + length bytes) (front ++ one ∷ []) more []
sends_said extended parts wrote front more one written bytes none s e =
    let n = length-append written bytes in
    let size = ap length e in
    let all = ap length (flat_one (spell extended) front one) ∙ length-append (flat_map (spell extended) front) (spell extended one) in
    let was = s.wrote_ in
    record {
      parts_ = s.parts_ ∙ sym (ap (flat_map (parts_of extended)) (append_assoc front (one ∷ []) more));
      wrote_ = omega (arith, n, size, all, was);
      tail = flat_map (spell extended) more;
      coming = refl;
      part = none one;
    }

-- Less than that is written.
pub sends_part : (extended : Bool) (parts : List Part) (wrote : ℕ) (front more : List Said) (one : Said) (written bytes : List ℕ) (s : Sends extended parts wrote front (one ∷ more) written) → (later : List ℕ) → s.tail ≡ bytes ++ later →
    length (written ++ bytes) < length (spell extended one) → Sends extended parts (wrote + length bytes) front (one ∷ more) (written ++ bytes)
sends_part extended parts wrote front more one written bytes s later behind less =
    let n = length-append written bytes in
    let was = s.wrote_ in
    record {
      parts_ = s.parts_;
      wrote_ = omega (arith, n, was);
      tail = later;
      coming = append_assoc written bytes later ∙ ap (λ bs. written ++ bs) (sym behind) ∙ s.coming;
      part = less;
    }

total_bytes : (parts : List Part) → total parts ≡ length (bytes_of parts)
total_bytes [] = refl
total_bytes (part ∷ parts) = ap (λ n. length part.bytes + n) (total_bytes parts) ∙ sym (length-append part.bytes (bytes_of parts))

-- Where something is still to be said not all is written.
pub sends_left : (extended : Bool) (parts : List Part) (wrote : ℕ) (front more : List Said) (one : Said) (written : List ℕ) → Sends extended parts wrote front (one ∷ more) written → total parts ≤ wrote → ⊥
sends_left extended parts wrote front more one written s e =
    let all = ap total s.parts_ ∙ total_bytes (flat_map (parts_of extended) (front ++ one ∷ more)) ∙ ap length (spelled_all extended (front ++ one ∷ more) ∙ flat_append (spell extended) front (one ∷ more)) in
    let size = length-append (flat_map (spell extended) front) (flat_map (spell extended) (one ∷ more)) in
    let first = length-append (spell extended one) (flat_map (spell extended) more) in
    let was = s.wrote_ in
    let part : length written < length (spell extended one) = s.part in
    omega (arith, all, size, first, was, part, e)

-- Where nothing is still to be said all is written.
pub sends_all : (extended : Bool) (parts : List Part) (wrote : ℕ) (front : List Said) (written : List ℕ) → Sends extended parts wrote front [] written → wrote ≡ total parts
sends_all extended parts wrote front written s =
    let all = ap total s.parts_ ∙ total_bytes (flat_map (parts_of extended) (front ++ [])) ∙ ap length (spelled_all extended (front ++ []) ∙ flat_append (spell extended) front []) in
    let size = length-append (flat_map (spell extended) front) [] in
    let was = s.wrote_ in
    let part = ap length s.part in
    omega (arith, all, size, was, part)

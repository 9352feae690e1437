-- What the front of some bytes announces, found where the bytes are judged.
use Rattle.std.proofs.Common.{◌≡◌, ℕ, ◌+◌, ◌-◌, ◌<◌, ◌≤◌, Bool, true, false, not, ◌==◌, ◌&&◌, List, ◌++◌, length, take, drop, Option, Some, None, refl, ap, sym, ◌∙◌, subst, arith, if◌then◌else◌, inl, inr}
use Rattle.std.specs.Prelude.{is_some}
use Rattle.std.proofs.lemmas.Bool.{and_parts, eqb-true, eq-eqb, false≢true, true≢false}
use Rattle.std.proofs.lemmas.List.{take-append-drop, length-take-le, length-take, length-drop}
use Rattle.lnbd_model.specs.Kind.{is_read}
use Rattle.lnbd_model.specs.declared.breach.Breach.{Breach}
use Rattle.lnbd_records.specs.Numbers.{number_at}
use Rattle.lnbd_records.specs.Transmission.{simple_head_size, simple_reply_magic, reply_type_offset_data}
use Rattle.lnbd_chunks.specs.Chunk.{Head, Waiting, is_done}
use Rattle.lnbd_chunks.specs.Laws.{breach_of}
use Rattle.lnbd_chunks.specs.Reply.{content_size}
use Rattle.lnbd_chunks.proofs.Steady.{at_more}
use Rattle.lnbd_structured.specs.Assembly.{head_of}
use Rattle.lnbd_wire.specs.declared.extended_chunk.ExtHead.{ExtHead}
use Rattle.lnbd_arrivals.specs.Frames.{Announces, IsBegun, IsDataFront, IsFront, announced_by, announced_in, announced_to, front_size, is_data_front, is_extended, is_front, is_structured, shows_by}
use Rattle.lnbd_arrivals.specs.Heads.{IsCut, IsHead, head_in, head_size, magic_of}
use Rattle.lnbd_arrivals.specs.declared.announced.Announced.{Announced}
use Rattle.lnbd_arrivals.specs.declared.announced.Carrier.TheVariants as carrier
use Rattle.lnbd_arrivals.specs.declared.replies.Replies.{Replies}
use Rattle.lnbd_arrivals.specs.declared.replies.Replies.TheVariants.{Simple, Structured, Extended}
use Rattle.lnbd_arrivals.proofs.Frames.{chunk_front, data_front, data_says, fair_front, front_announces, headed, payload_is, waits_front}

pub least_front : (replies : Replies) → simple_head_size ≤ front_size replies
least_front Simple = omega arith
least_front Structured = omega arith
least_front Extended = omega arith

-- A front that is one by its tests, and the other way round.

no_breach : (found : Option Breach) → not (is_some found) ≡ true → found ≡ None
no_breach None e = refl
no_breach (Some breach) e = absurd (false≢true e)

data_is : (extended : Bool) (command : Waiting) (front : List ℕ) → is_data_front extended command front ≡ true → IsDataFront extended command front
data_is extended command front e =
    let a = and_parts (length front == head_size extended + 8) _ e in
    let b = and_parts (number_at 0 4 front == magic_of extended) _ a.1 in
    let d = and_parts ((head_in extended front).type == reply_type_offset_data) _ b.1 in
    record { sized = eqb-true _ _ a.0; magic = eqb-true _ _ b.0; type = eqb-true _ _ d.0; lawful = no_breach _ d.1 }

is_data : (extended : Bool) (command : Waiting) (front : List ℕ) → IsDataFront extended command front → is_data_front extended command front ≡ true
is_data extended command front is = rw (eq-eqb _ _ is.sized, eq-eqb _ _ is.magic, eq-eqb _ _ is.type, is.lawful) refl

pub front_is : (replies : Replies) (command : Waiting) (front : List ℕ) → is_front replies command front ≡ true → IsFront replies command front
front_is Simple command front e =
    let a = and_parts (is_read command.kind) _ e in
    let b = and_parts (length front == simple_head_size) _ a.1 in
    let d = and_parts (number_at 0 4 front == simple_reply_magic) _ b.1 in
    (a.0, record { sized = eqb-true _ _ b.0; magic = eqb-true _ _ d.0; error = eqb-true _ _ d.1 })
front_is Structured command front e = data_is false command front e
front_is Extended command front e = data_is true command front e

is_one : (replies : Replies) (command : Waiting) (front : List ℕ) → IsFront replies command front → is_front replies command front ≡ true
is_one Simple command front is = rw (is.0, eq-eqb _ _ is.1.sized, eq-eqb _ _ is.1.magic, eq-eqb _ _ is.1.error) refl
is_one Structured command front is = is_data false command front is
is_one Extended command front is = is_data true command front is

pub front_long : (replies : Replies) (command : Waiting) (front : List ℕ) → IsFront replies command front → length front ≡ front_size replies
front_long Simple command front is = is.1.sized
front_long Structured command front is = is.sized
front_long Extended command front is = is.sized

pub one_says : (replies : Replies) (command : Waiting) (front : List ℕ) → IsFront replies command front → announced_to replies (Some command) front ≡ Some (announced_by replies command front)
one_says replies command front is = ap (λ (b : Bool). if b then Some (announced_by replies command front) else None) (is_one replies command front is)

pub not_says : (replies : Replies) (command : Waiting) (front : List ℕ) → (IsFront replies command front → ⊥) → announced_to replies (Some command) front ≡ None
not_says replies command front not_one = go (is_front replies command front) refl
  where
    go : (b : Bool) → is_front replies command front ≡ b → announced_to replies (Some command) front ≡ None
    go false e = ap (λ (b : Bool). if b then Some (announced_by replies command front) else None) e
    go true e = absurd (not_one (front_is replies command front e))

no_one : (found : Announced) → None ≡ Some found → ⊥
no_one found e = cc

same_one : (one other : Announced) → Some one ≡ Some other → one ≡ other
same_one one other e = cc

-- What is said of the data is so.
pub announces_of : (replies : Replies) (waited : ℕ → Option Waiting) (front : List ℕ) (announced : Announced) → announced_in replies waited front ≡ Some announced → Announces replies waited front announced
announces_of replies waited front announced says = to (waited (number_at 8 8 front)) refl says
  where
    to : (w : Option Waiting) → waited (number_at 8 8 front) ≡ w → announced_to replies w front ≡ Some announced → Announces replies waited front announced
    to None is found = absurd (no_one announced found)
    to (Some command) is found = over (is_front replies command front) refl
      where
        over : (b : Bool) → is_front replies command front ≡ b → Announces replies waited front announced
        over true one =
            let said = front_is replies command front one in
            subst (λ (a : Announced). Announces replies waited front a) (same_one (announced_by replies command front) announced (sym (one_says replies command front said) ∙ found)) (front_announces replies waited command front is said)
        over false none = absurd (no_one announced (sym (ap (λ (b : Bool). if b then Some (announced_by replies command front) else None) none) ∙ found))

pub begun : (replies : Replies) (waited : ℕ → Option Waiting) (bytes : List ℕ) (announced : Announced) → shows_by replies waited bytes ≡ None → announced_in replies waited (take (front_size replies) bytes) ≡ Some announced → IsBegun replies waited bytes announced
begun replies waited bytes announced nothing says = record { nothing = nothing; says = says; announces = announces_of replies waited (take (front_size replies) bytes) announced says }

-- Fewer bytes than stand before the data announce nothing.
pub short_says : (replies : Replies) (waits : Option Waiting) (front : List ℕ) → length front < front_size replies → announced_to replies waits front ≡ None
short_says replies None front short = refl
short_says replies (Some command) front short = not_says replies command front (λ is. let long = front_long replies command front is in omega (arith, long, short))

pub cut_says : (replies : Replies) (waited : ℕ → Option Waiting) (magic size : ℕ) (bytes : List ℕ) → 4 ≤ size → size ≤ front_size replies → IsCut magic size bytes → announced_in replies waited (take (front_size replies) bytes) ≡ None
cut_says replies waited magic size bytes least most cut = short_says replies _ (take (front_size replies) bytes) (elim cut [
  | inl short ↦ omega (arith, least, most, short, length-take (front_size replies) bytes)
  | inr begun ↦ omega (arith, most, begun.2, length-take (front_size replies) bytes)
])

-- The head of a simple reply whose data are not all there.

-- of a reply that brings data to its command
pub sized : (command : Waiting) (error size : ℕ) → content_size command error ≡ size → 0 < size → (error ≡ 0) × (is_read command.kind ≡ true) × (command.length ≡ size)
sized command error size e some = go (error == 0) (is_read command.kind) refl refl e
  where
    go : (a b : Bool) → (error == 0) ≡ a → is_read command.kind ≡ b → (if a then if b then command.length else 0 else 0) ≡ size → (error ≡ 0) × (is_read command.kind ≡ true) × (command.length ≡ size)
    go true true x y e = (eqb-true error 0 x, y, e)
    go true false x y e = absurd (omega (arith, some, e))
    go false b x y e = absurd (omega (arith, some, e))

simple_alone : (replies : Replies) (read : Bool) → is_extended replies ≡ false → read ≡ true → (is_structured replies && read) ≡ false → replies ≡ Simple
simple_alone Simple read compact is lawful = refl
simple_alone Structured read compact is lawful = absurd (true≢false (sym is ∙ lawful))
simple_alone Extended read compact is lawful = absurd (true≢false compact)

module _ (waited : ℕ → Option Waiting) (bytes : List ℕ) (there : 16 ≤ length bytes) (magic : number_at 0 4 bytes ≡ simple_reply_magic) (command : Waiting) (waits : waited (number_at 8 8 bytes) ≡ Some command) where
  abbrev head : List ℕ
  head = take simple_head_size bytes

  long : length head ≡ 16
  long = length-take-le simple_head_size bytes there

  same : (place width : ℕ) → place + width ≤ 16 → number_at place width head ≡ number_at place width bytes
  same place width fits = sym (ap (number_at place width) (sym (take-append-drop simple_head_size bytes)) ∙ at_more place width head (drop simple_head_size bytes) (omega (arith, fits, long)))

  alone_says : (cookie size : ℕ) → cookie ≡ number_at 8 8 bytes → (number_at 4 4 bytes ≡ 0) × (is_read command.kind ≡ true) × (command.length ≡ size) →
      announced_in Simple waited (take (front_size Simple) bytes) ≡ Some (record { cookie = cookie; offset = command.offset; size = size; carrier = carrier.Reply })
  alone_says cookie size is brings =
      ap (λ (w : Option Waiting). announced_to Simple w head) (ap waited (same 8 8 (omega arith)) ∙ waits)
      ∙ one_says Simple command head (brings.1, record { sized = long; magic = same 0 4 (omega arith) ∙ magic; error = same 4 4 (omega arith) ∙ brings.0 })
      ∙ ap (λ (c : ℕ). Some (record { cookie = c; offset = command.offset; size = command.length; carrier = carrier.Reply })) (same 8 8 (omega arith) ∙ sym is)
      ∙ ap (λ (n : ℕ). Some (record { cookie = cookie; offset = command.offset; size = n; carrier = carrier.Reply })) brings.2

  pub simple_says : (replies : Replies) (cookie error size : ℕ) → is_extended replies ≡ false → (is_structured replies && is_read command.kind) ≡ false → cookie ≡ number_at 8 8 bytes → error ≡ number_at 4 4 bytes → size ≡ content_size command error →
      length bytes - 16 < size → announced_in replies waited (take (front_size replies) bytes) ≡ Some (record { cookie = cookie; offset = command.offset; size = size; carrier = carrier.Reply })
  simple_says replies cookie error size compact lawful is told counts short =
      let brings = sized command error size (sym counts) (omega (arith, short)) in
      subst (λ (r : Replies). announced_in r waited (take (front_size r) bytes) ≡ Some (record { cookie = cookie; offset = command.offset; size = size; carrier = carrier.Reply })) (sym (simple_alone replies (is_read command.kind) compact brings.1 lawful))
      (alone_says cookie size is (sym told ∙ brings.0, brings.1, brings.2))

-- The head of a chunk whose payload is not all there.

module _ (replies : Replies) (waited : ℕ → Option Waiting) (bytes : List ℕ) (head : ExtHead) (agreed : is_structured replies ≡ true) (h : IsHead (is_extended replies) bytes head) (command : Waiting) (waits : waited (number_at 8 8 bytes) ≡ Some command)
    (fair : breach_of (is_extended replies) command (head_of head) (drop (head_size (is_extended replies)) bytes) ≡ None) where
  abbrev front : List ℕ
  front = take (front_size replies) bytes

  abbrev more : List ℕ
  more = drop (front_size replies) bytes

  all : bytes ≡ front ++ more
  all = sym (take-append-drop (front_size replies) bytes)

  size_is : front_size replies ≡ head_size (is_extended replies) + 8
  size_is = chunk_front replies agreed

  head_there : head_size (is_extended replies) ≤ length front
  head_there = omega (arith, length-take (front_size replies) bytes, h.there, size_is)

  headed_front : IsHead (is_extended replies) front head
  headed_front = headed replies waited bytes head agreed h command waits fair front more all head_there

  to_command : announced_in replies waited front ≡ announced_to replies (Some command) front
  to_command = ap (λ (w : Option Waiting). announced_to replies w front) (waits_front replies waited bytes head agreed h command waits fair front more all head_there)

  chunk_begun : head.kind ≡ 1 → 8 ≤ length (drop (head_size (is_extended replies)) bytes) →
      announced_in replies waited front ≡ Some (record { cookie = head.cookie; offset = number_at 0 8 (drop (head_size (is_extended replies)) bytes); size = head.length - 8; carrier = carrier.Chunk (is_done (head_of head)) })
  chunk_begun is_data there =
      let place = drop (head_size (is_extended replies)) front in
      let long : length front ≡ front_size replies = length-take-le (front_size replies) bytes (omega (arith, size_is, there, length-drop (head_size (is_extended replies)) bytes, h.there)) in
      let fair_place = fair_front replies waited bytes head agreed h command waits fair front more all head_there in
      let said = data_says command front head is_data place replies agreed headed_front long refl fair_place in
      let same : number_at 0 8 (drop (head_size (is_extended replies)) bytes) ≡ number_at 0 8 place =
      ap (number_at 0 8) (payload_is replies waited bytes head agreed h command waits fair front more all head_there) ∙ at_more 0 8 place more (omega (arith, long, size_is, length-drop (head_size (is_extended replies)) front)) in
      to_command ∙ one_says replies command front said.0 ∙ ap Some (sym said.1)
      ∙ ap (λ (n : ℕ). Some (record { cookie = head.cookie; offset = n; size = head.length - 8; carrier = carrier.Chunk (is_done (head_of head)) })) (sym same)

  chunk_unbegun : (head.kind ≡ 1 → length (drop (head_size (is_extended replies)) bytes) < 8) → announced_in replies waited front ≡ None
  chunk_unbegun none = to_command ∙ not_says replies command front (λ is.
      let whole = data_front replies command front agreed is in
      let few = none (ap (λ (s : Head). s.type) headed_front.says ∙ whole.type) in
      omega (arith, few, whole.sized, length-take (front_size replies) bytes, length-drop (head_size (is_extended replies)) bytes, h.there))

  pub chunk_tells : (payload : List ℕ) (found : Announced) → payload ≡ drop (head_size (is_extended replies)) bytes →
      (head.kind ≡ 1) × (8 ≤ length payload) × (found ≡ record { cookie = head.cookie; offset = number_at 0 8 payload; size = head.length - 8; carrier = carrier.Chunk (is_done (head_of head)) }) →
      announced_in replies waited front ≡ Some found
  chunk_tells payload found is told =
      chunk_begun told.0 (subst (λ (p : List ℕ). 8 ≤ length p) is told.1)
      ∙ ap (λ (p : List ℕ). Some (record { cookie = head.cookie; offset = number_at 0 8 p; size = head.length - 8; carrier = carrier.Chunk (is_done (head_of head)) })) (sym is) ∙ ap Some (sym told.2)

  pub chunk_waits : (payload : List ℕ) → payload ≡ drop (head_size (is_extended replies)) bytes → (head.kind ≡ 1 → length payload < 8) → announced_in replies waited front ≡ None
  chunk_waits payload is none = chunk_unbegun (λ kind. subst (λ (p : List ℕ). length p < 8) is (none kind))

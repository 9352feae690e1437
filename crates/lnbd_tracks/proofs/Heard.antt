-- What the calls of one filing tell a board of extents.
use Rattle.std.proofs.Common.{◌≡◌, ℕ, Bool, true, false, ◌&&◌, List, [], ◌∷◌, ◌++◌, map, Option, Some, None, refl, ap, sym, subst, ◌∙◌, arith, nat_le, bytes_eq, codes, ◌==◌, if◌then◌else◌, inl, inr}
use Rattle.std.proofs.lemmas.Bool.{false≢true, or_parts}
use Rattle.std.proofs.lemmas.Bool.Decides.{nat_tests}
use Rattle.std.proofs.lemmas.Grind.{common_steps}
use Rattle.lnbd_keyed.specs.Keyed.{value_at}
use Rattle.lnbd_model.specs.declared.export.Context.{Context as MetaContext}
use Rattle.lnbd_model.specs.declared.export.Extent.{Extent}
use Rattle.lnbd_records.specs.Content.{Content, Data, Hole, Status, Error, ErrorAt, Nothing, Bare}
use Rattle.lnbd_callbacks.specs.Calls.{Call, Chunk, Extents, Complete, Free}
use Rattle.lnbd_callbacks.specs.Slot.{Slot}
use Rattle.lnbd_callbacks.specs.Steps.{OneByOne}
use Rattle.lnbd_callbacks.specs.declared.caller.Heard.{Heard}
use Rattle.lnbd_callbacks.specs.declared.caller.Verdict.{Verdict}
use Rattle.lnbd_outcome.specs.Faults.{context_of, has_fault}
use Rattle.lnbd_outcome.specs.Hearing.{Hearing, read_data, read_hole, read_error, extents_heard, content_heard, hearing}
use Rattle.lnbd_outcome.specs.Hearing as hearing_of
use Rattle.lnbd_outcome.specs.Pieces.{Query, Piece, content_of, bytes_of}
use Rattle.lnbd_model.specs.Kind.{is_read}
use Rattle.lnbd_model.specs.Errors.{error_of}
use Rattle.lnbd_outcome.specs.Outcome.{error_number, failure}
use Rattle.lnbd_history.specs.Commands.{Flight}
use Rattle.lnbd_history.specs.Entries.{Act, Item, Framed, Lost, Dropped, completes, call_of, act_of, first_acts, first_free_acts, free_acts, completion_acts, end_acts, filing_acts}
use Rattle.lnbd_history.specs.Entries as act
use Rattle.lnbd_history.specs.Events.{Answer}
use Rattle.lnbd_history.specs.History.{next_verdict}
use Rattle.lnbd_asked.specs.Transcript.{is_allocation, extents_in}
use Rattle.lnbd_board.specs.declared.ticket.Ticket.{Ticket}
use Rattle.lnbd_board.specs.declared.ticket.Ticket.TheVariants as ticket
use Rattle.lnbd_board.specs.Files.{Seen, filed, filed_done, is_unfit, rows_with, came_with, or_error, content_first, is_map, Files}
use Rattle.lnbd_board.specs.Files as board
use Rattle.lnbd_board.specs.Requests.{Each}
use Rattle.lnbd_tracks.specs.Mapping.{is_extents, first_tells, tells_extents}
use Rattle.lnbd_tracks.specs.Saying.{said_in}

and_second : (a b : Bool) → (a && b) ≡ true → b ≡ true
and_second true b e = e
and_second false b e = absurd (false≢true e)

-- no extents tell nothing
pub none_said : (test : Option ℕ → Bool) → test None ≡ false → (start p : ℕ) → said_in test start [] p ≡ true → ⊥
none_said test blank start p e = false≢true (sym blank ∙ and_second (nat_le start p) (test None) e)

-- the context whose extents are told
abbrev pub IsAllocation : List ℕ → Type 0
IsAllocation name = bytes_eq name (codes "base:allocation") ≡ true

pub map_context : (by : Ticket) (context : List ℕ) → is_map by context ≡ true → IsAllocation context
map_context (ticket.Slice n) context e = absurd (false≢true e)
map_context ticket.Extents context e = e
map_context ticket.Flush context e = absurd (false≢true e)

no_map : (by : Ticket) (context : List ℕ) → is_extents by ≡ false → is_map by context ≡ true → ⊥
no_map (ticket.Slice n) context e m = false≢true m
no_map ticket.Extents context e m = false≢true (sym e)
no_map ticket.Flush context e m = false≢true m

-- A board that holds extents told from a place on holds this of what they say, and this where it was told of the answer.
module _ (start : ℕ) (Z : (test : Option ℕ → Bool) → ℕ → Type 0) (M : Type 0) where
  pub record Knows (now : Seen) : Type 0 where
    pub said : (test : Option ℕ → Bool) → test None ≡ false → (p : ℕ) → said_in test start now.told p ≡ true → Z test p
    pub answered : now.mapped ≡ true → M

  -- a call tells no other
  abbrev pub Suits : Call Ticket → Type 0
  Suits (Chunk by bytes offset status error heard) = Unit {0}
  Suits (Extents by context offset entries error heard) = is_map by context ≡ true → (test : Option ℕ → Bool) → test None ≡ false → (p : ℕ) → said_in test start entries p ≡ true → Z test p
  Suits (Complete by error buf verdict) = is_extents by ≡ true → error ≡ 0 → M
  Suits (Free by) = Unit {0}

  hears_known : (b : Bool) (entries : List Extent) (before after : Seen) → (b ≡ true → (test : Option ℕ → Bool) → test None ≡ false → (p : ℕ) → said_in test start entries p ≡ true → Z test p) → board.Hears b entries before after → Knows before → Knows after
  hears_known true entries before after s (inl e) k = subst Knows (sym e.1) (record { said = s refl; answered = k.answered })
  hears_known true entries before after s (inr e) k = subst Knows (sym e) (record { said = λ test blank p z. absurd (none_said test blank start p z); answered = k.answered })
  hears_known false entries before after s e k = subst Knows (sym e) k

  either_known : (b : Bool) (one other : Seen) → (b ≡ true → Knows one) → (b ≡ false → Knows other) → Knows (if b then one else other)
  either_known true one other f g = f refl
  either_known false one other f g = g refl

  done_known : (by : Ticket) (buf : List ℕ) (before : Seen) → (is_extents by ≡ true → M) → Knows before → Knows (filed_done by buf before)
  done_known (ticket.Slice n) buf before m k =
      either_known (is_unfit (value_at n before.rows) buf) (record before { error = or_error before.error 71 }) (record before { rows = rows_with (value_at n before.rows) n buf before.rows; came = came_with (value_at n before.rows) n before.came })
      (λ e. record { said = k.said; answered = k.answered }) (λ e. record { said = k.said; answered = k.answered })
  done_known ticket.Extents buf before m k = record { said = k.said; answered = λ e. m refl }
  done_known ticket.Flush buf before m k = record { said = k.said; answered = k.answered }

  zero_number : (error : ℕ) → (error == 0) ≡ true → error ≡ 0
  zero_number error e = grind (arith, nat_tests, common_steps)

  one_known : (call : Call Ticket) (before after : Seen) → Files before call after → Suits call → Knows before → Knows after
  one_known (Chunk by bytes offset status error heard) before after f s k = subst Knows (sym f.1) k
  one_known (Extents by context offset entries error heard) before after f s k = hears_known (is_map by context) entries before after s f.1 k
  one_known (Complete by error buf verdict) before after f s k =
      subst Knows (sym f.1) (either_known (error == 0) (filed_done by buf before) (record before { error = content_first before.error error })
      (λ e. done_known by buf before (λ t. s t (zero_number error e)) k) (λ e. record { said = k.said; answered = k.answered }))
  one_known (Free by) before after f s k = subst Knows (sym f) k

  pub all_known : (calls : List (Call Ticket)) (before after : Seen) → OneByOne Files before calls after → Each Suits calls → Knows before → Knows after
  all_known [] before after f s k = subst Knows (sym f) k
  all_known (call ∷ calls) before after f s k = all_known calls f.0 after f.1.1 s.1 (one_known call before f.0 f.1.0 s.0 k)

  -- The calls of a filing.
  module _ (flight : Flight Ticket) where
    join : (xs ys : List (Act Ticket)) → Each Suits (map call_of xs) → Each Suits (map call_of ys) → Each Suits (map call_of (xs ++ ys))
    join [] ys a b = b
    join (x ∷ xs) ys a b = (a.0, join xs ys a.1 b)

    first_frees : (first : Option (Slot Ticket)) → Each Suits (map call_of (first_free_acts first))
    first_frees None = tt
    first_frees (Some slot) = (tt, tt)

    pub frees_suit : Each Suits (map call_of (free_acts flight))
    frees_suit = join (first_free_acts flight.first) (act.Free flight.done ∷ []) (first_frees flight.first) (tt, tt)

    -- what is told to the callback where that is one of extents
    abbrev pub FirstSuits : Option Hearing → Type 0
    FirstSuits told = (slot : Slot Ticket) (context : MetaContext) (offset : ℕ) (entries : List Extent) (error : ℕ) → flight.first ≡ Some slot → told ≡ Some (hearing_of.Extents context offset entries error) → is_map slot.callback context.name ≡ true →
        (test : Option ℕ → Bool) → test None ≡ false → (p : ℕ) → said_in test start entries p ≡ true → Z test p

    first_suits : (first : Option (Slot Ticket)) (told : Option Hearing) (heard : Option Heard) → flight.first ≡ first → FirstSuits told → Each Suits (map call_of (first_acts first told heard))
    first_suits (Some slot) (Some (hearing_of.Chunk bytes offset status error)) (Some heard) e s = (tt, tt)
    first_suits (Some slot) (Some (hearing_of.Extents context offset entries error)) (Some heard) e s = (s slot context offset entries error e refl, tt)
    first_suits (Some slot) (Some told) None e s = tt
    first_suits (Some slot) None heard e s = tt
    first_suits None told heard e s = tt

    done_suits : (error : ℕ) (bytes : List ℕ) (v : Verdict) → (is_extents flight.done.callback ≡ true → error ≡ 0 → M) → Each Suits (map call_of (completion_acts flight error bytes v))
    done_suits error bytes v m = join (first_free_acts flight.first) (act.Complete flight.done error bytes v ∷ act.Free flight.done ∷ []) (first_frees flight.first) (m, (tt, tt))

    ends_suit : (item : Item) (verdict : Option Verdict) (error : ℕ) (bytes : List ℕ) → (is_extents flight.done.callback ≡ true → error ≡ 0 → completes item ≡ true → M) → (completes item ≡ false → verdict ≡ None) →
        Each Suits (map call_of (end_acts flight item verdict error bytes))
    ends_suit (Framed content true) (Some v) error bytes m n = done_suits error bytes v (λ t z. m t z refl)
    ends_suit (Framed content false) (Some v) error bytes m n = absurd (some_none (n refl))
      where
        some_none : Some v ≡ None → ⊥
        some_none e = cc
    ends_suit (Framed content last) None error bytes m n = tt
    ends_suit Lost (Some v) error bytes m n = done_suits error bytes v (λ t z. m t z refl)
    ends_suit Lost None error bytes m n = tt
    ends_suit Dropped verdict error bytes m n = frees_suit

    no_verdict : (b : Bool) (answers : List Answer) → b ≡ false → next_verdict b answers ≡ None
    no_verdict true answers e = absurd (false≢true (sym e))
    no_verdict false answers e = refl

    pub filing_suits : (told : Option Hearing) (item : Item) (heard : Option Heard) (answers : List Answer) (error : ℕ) (bytes : List ℕ) → FirstSuits told → (is_extents flight.done.callback ≡ true → error ≡ 0 → completes item ≡ true → M) →
        Each Suits (map call_of (filing_acts flight told item heard (next_verdict (completes item) answers) error bytes))
    filing_suits told item heard answers error bytes s m =
        join (first_acts flight.first told heard) (end_acts flight item (next_verdict (completes item) answers) error bytes) (first_suits flight.first told heard refl s)
        (ends_suit item (next_verdict (completes item) answers) error bytes m (no_verdict (completes item) answers))

    -- where none of the callbacks is that of extents
    pub deaf_suits : (told : Option Hearing) (item : Item) (heard : Option Heard) (answers : List Answer) (error : ℕ) (bytes : List ℕ) → tells_extents flight ≡ false →
        Each Suits (map call_of (filing_acts flight told item heard (next_verdict (completes item) answers) error bytes))
    deaf_suits told item heard answers error bytes deaf =
        let parts = or_parts (first_tells flight.first) (is_extents flight.done.callback) deaf in
        filing_suits told item heard answers error bytes
        (λ slot context offset entries number first is m. absurd (no_map slot.callback context.name (sym (ap first_tells first) ∙ parts.0) m))
        (λ t z c. absurd (false≢true (sym parts.1 ∙ t)))

-- it knows what more is known
pub knows_more : (start : ℕ) (Z Z2 : (test : Option ℕ → Bool) → ℕ → Type 0) (M M2 : Type 0) (now : Seen) → ((test : Option ℕ → Bool) (p : ℕ) → Z test p → Z2 test p) → (M → M2) → Knows start Z M now → Knows start Z2 M2 now
knows_more start Z Z2 M M2 now z m k = record { said = λ test blank p e. z test p (k.said test blank p e); answered = λ e. m (k.answered e) }

-- What a callback is told of extents are those of the reply.

-- a callback that is told these extents of base:allocation is told those of the content
abbrev pub IsToldBy : List MetaContext → Content → Option Hearing → Type 0
IsToldBy contexts content told = (context : MetaContext) (offset : ℕ) (entries : List Extent) (error : ℕ) → told ≡ Some (hearing_of.Extents context offset entries error) → IsAllocation context.name → extents_in contexts content ≡ entries

none_told : (contexts : List MetaContext) (content : Content) → IsToldBy contexts content None
none_told contexts content context offset entries error e a = absurd (none_some e)
  where
    none_some : None ≡ Some (hearing_of.Extents context offset entries error) → ⊥
    none_some k = cc

chunk_told : (contexts : List MetaContext) (content : Content) (bytes : List ℕ) (offset status error : ℕ) → IsToldBy contexts content (Some (hearing_of.Chunk bytes offset status error))
chunk_told contexts content bytes offset status error context offset2 entries error2 e a = absurd (differ e)
  where
    differ : Some (hearing_of.Chunk bytes offset status error) ≡ Some (hearing_of.Extents context offset2 entries error2) → ⊥
    differ k = cc

status_told : (contexts : List MetaContext) (id offset error : ℕ) (descriptors : List Extent) → IsToldBy contexts (Status id descriptors) (extents_heard (context_of id contexts) offset descriptors error)
status_told contexts id offset error descriptors context offset2 entries error2 e a = go (context_of id contexts) refl e
  where
    none_some : None ≡ Some (hearing_of.Extents context offset2 entries error2) → ⊥
    none_some k = cc

    same_context : (one : MetaContext) → Some (hearing_of.Extents one offset descriptors error) ≡ Some (hearing_of.Extents context offset2 entries error2) → one ≡ context
    same_context one k = cc

    same_entries : (one : MetaContext) → Some (hearing_of.Extents one offset descriptors error) ≡ Some (hearing_of.Extents context offset2 entries error2) → descriptors ≡ entries
    same_entries one k = cc

    go : (found : Option MetaContext) → context_of id contexts ≡ found → extents_heard found offset descriptors error ≡ Some (hearing_of.Extents context offset2 entries error2) → extents_in contexts (Status id descriptors) ≡ entries
    go None is k = absurd (none_some k)
    go (Some one) is k =
        ap (λ (o : Option MetaContext). if is_allocation o then descriptors else []) is
        ∙ ap (λ (b : Bool). if b then descriptors else []) (ap (λ (c : MetaContext). bytes_eq c.name (codes "base:allocation")) (same_context one k) ∙ a)
        ∙ same_entries one k

either_told : (contexts : List MetaContext) (content : Content) (b : Bool) (one other : Option Hearing) → IsToldBy contexts content one → IsToldBy contexts content other → IsToldBy contexts content (if b then one else other)
either_told contexts content true one other f g = f
either_told contexts content false one other f g = g

content_told : (query : Query) (contexts : List MetaContext) (error : ℕ) (content : Content) → IsToldBy contexts content (content_heard query contexts error content)
content_told query contexts error (Data offset bytes) = chunk_told contexts (Data offset bytes) bytes offset read_data error
content_told query contexts error (Hole offset size) = chunk_told contexts (Hole offset size) (bytes_of (Hole offset size)) offset read_hole error
content_told query contexts error (Status id descriptors) = status_told contexts id query.offset error descriptors
content_told query contexts error (Error number) = none_told contexts (Error number)
content_told query contexts error (ErrorAt number offset) =
    either_told contexts (ErrorAt number offset) (is_read query.kind) (Some (hearing_of.Chunk [] offset read_error (error_of number))) None (chunk_told contexts (ErrorAt number offset) [] offset read_error (error_of number)) (none_told contexts (ErrorAt number offset))
content_told query contexts error Nothing = none_told contexts Nothing
content_told query contexts error Bare = none_told contexts Bare

pub item_told : (query : Query) (earlier : List Piece) (contexts : List MetaContext) (item : Item) → IsToldBy contexts (content_of item) (hearing query earlier contexts item)
item_told query earlier contexts (Framed content last) =
    either_told contexts content (has_fault query earlier contexts content) None (content_heard query contexts (error_number (failure query earlier)) content) (none_told contexts content)
    (content_told query contexts (error_number (failure query earlier)) content)
item_told query earlier contexts Lost = none_told contexts Nothing
item_told query earlier contexts Dropped = none_told contexts Nothing

-- The extents that were told last came for one command, and say of each position no more than its answer did.
use Rattle.std.proofs.Common.{◌≡◌, ◌⊎◌, inl, inr, ℕ, Bool, true, false, List, [], ◌∷◌, ◌++◌, map, Option, Some, None, refl, sym, ◌∙◌, ap, subst, bytes_eq}
use Rattle.std.specs.Prelude.{◌==◌, if◌then◌else◌, is_some}
use Rattle.lnbd_model.specs.declared.export.Context.{Context as MetaContext}
use Rattle.lnbd_model.specs.declared.export.Extent.{Extent}
use Rattle.lnbd_model.specs.Kind.{is_read}
use Rattle.lnbd_model.specs.Errors.{error_of}
use Rattle.lnbd_records.specs.Content.{Content, Data, Hole, Status, Error, ErrorAt, Nothing, Bare}
use Rattle.lnbd_callbacks.specs.Calls.{Call}
use Rattle.lnbd_callbacks.specs.Slot.{Slot}
use Rattle.lnbd_callbacks.specs.declared.caller.Heard.{Heard}
use Rattle.lnbd_callbacks.specs.declared.caller.Verdict.{Verdict}
use Rattle.lnbd_outcome.specs.Faults.{context_of, has_fault}
use Rattle.lnbd_outcome.specs.Hearing.{Hearing, content_heard, extents_heard, hearing, read_error}
use Rattle.lnbd_outcome.specs.Hearing as hearing_of
use Rattle.lnbd_outcome.specs.Outcome.{error_number, failure}
use Rattle.lnbd_outcome.specs.Pieces.{Piece, Query, content_of}
use Rattle.lnbd_history.specs.Commands.{Flight, Request, query_of}
use Rattle.lnbd_history.specs.Entries.{Act, Cleared, Entry, Filed, Filing, Freed, Framed, Dropped, Item, Lost, acts_of, call_of, calls, completion_acts, end_acts, first_acts, first_free_acts, free_acts, hearing_in, own, pieces, error_in, bytes_in}
use Rattle.lnbd_history.specs.Entries as act
use Rattle.lnbd_history.specs.Events.{History}
use Rattle.lnbd_history.specs.History.{reading, request}
use Rattle.lnbd_asked.specs.Transcript.{extents_in, zero_by, zero_in, zero_told}
use Rattle.lnbd_kept.specs.Kept.{AreFiled}
use Rattle.lnbd_kept.proofs.FiledLemmas.{entries_are_filed}
use Rattle.lnbd_tracks.proofs.Heard.{item_told}
use Rattle.lnbd_tracks.proofs.Staying.{or_left, or_right}
use Rattle.lnbd_tracks.proofs.Unfiled.{own_same}
use Rattle.lnbd_waits.specs.Begun.{base_allocation}
use Rattle.lnbd_dump.specs.declared.reader.Reader.{Reader}
use Rattle.lnbd_dump.specs.Heard.{Laid, told_by}
use Rattle.lnbd_dump.specs.HeardLaws.{told_on}

-- ---- Which calls tell extents.

pub parted : (xs ys : List (Act Reader)) → map call_of (xs ++ ys) ≡ map call_of xs ++ map call_of ys
parted [] ys = refl
parted (x ∷ xs) ys = ap (λ (l : List (Call Reader)). call_of x ∷ l) (parted xs ys)

pub frees_tell_none : (told : Option Laid) (first : Option (Slot Reader)) (rest : List (Act Reader)) → told_by told (map call_of (first_free_acts first ++ rest)) ≡ told_by told (map call_of rest)
frees_tell_none told None rest = refl
frees_tell_none told (Some slot) rest = refl

pub ends_tell_none : (told : Option Laid) (flight : Flight Reader) (item : Item) (verdict : Option Verdict) (error : ℕ) (bytes : List ℕ) → told_by told (map call_of (end_acts flight item verdict error bytes)) ≡ told
ends_tell_none told flight Dropped verdict error bytes = frees_tell_none told flight.first (act.Free flight.done ∷ [])
ends_tell_none told flight (Framed content last) (Some verdict) error bytes = frees_tell_none told flight.first (act.Complete flight.done error bytes verdict ∷ act.Free flight.done ∷ [])
ends_tell_none told flight (Framed content last) None error bytes = refl
ends_tell_none told flight Lost (Some verdict) error bytes = frees_tell_none told flight.first (act.Complete flight.done error bytes verdict ∷ act.Free flight.done ∷ [])
ends_tell_none told flight Lost None error bytes = refl

-- the callback of extents was told these
record HeardNow (first : Option (Slot Reader)) (told : Option Hearing) (laid : Laid) : Type 0 where
  slot : Slot Reader
  context : MetaContext
  error : ℕ
  first_is : first ≡ Some slot
  told_is : told ≡ Some (hearing_of.Extents context laid.at laid.extents error)
  name : bytes_eq context.name base_allocation ≡ true

some_laid : (a b : Laid) → Some a ≡ Some b → a ≡ b
some_laid a b e = cc

none_laid : (a : Laid) → None ≡ Some a → ⊥
none_laid a e = cc

named_now : (slot : Slot Reader) (context : MetaContext) (offset : ℕ) (entries : List Extent) (error : ℕ) (told : Option Laid) (laid : Laid) (b : Bool) → bytes_eq context.name base_allocation ≡ b
    → (if b then Some (record { at = offset; extents = entries }) else told) ≡ Some laid → (told ≡ Some laid) ⊎ HeardNow (Some slot) (Some (hearing_of.Extents context offset entries error)) laid
named_now slot context offset entries error told laid true is e =
    let same : record { at = offset; extents = entries } ≡ laid = some_laid (record { at = offset; extents = entries }) laid e in
    inr (subst (λ (l : Laid). HeardNow (Some slot) (Some (hearing_of.Extents context offset entries error)) l) same (record { slot = slot; context = context; error = error; first_is = refl; told_is = refl; name = is }))
named_now slot context offset entries error told laid false is e = inl e

first_tells : (told : Option Laid) (first : Option (Slot Reader)) (heard : Option Hearing) (answer : Option Heard) (laid : Laid) → told_by told (map call_of (first_acts first heard answer)) ≡ Some laid → (told ≡ Some laid) ⊎ HeardNow first heard laid
first_tells told None heard answer laid e = inl e
first_tells told (Some slot) None answer laid e = inl e
first_tells told (Some slot) (Some heard) None laid e = inl e
first_tells told (Some slot) (Some (hearing_of.Chunk bytes offset status error)) (Some answer) laid e = inl e
first_tells told (Some slot) (Some (hearing_of.Extents context offset entries error)) (Some answer) laid e = named_now slot context offset entries error told laid (bytes_eq context.name base_allocation) refl e

filing_tells : (told : Option Laid) (filing : Filing Reader) (earlier : List (Filing Reader)) (laid : Laid) → told_by told (map call_of (acts_of filing earlier)) ≡ Some laid → (told ≡ Some laid) ⊎ HeardNow filing.request.flight.first (hearing_in filing.request earlier filing.contexts filing.item) laid
filing_tells told filing earlier laid e =
    let heard = hearing_in filing.request earlier filing.contexts filing.item in
    let first : List (Act Reader) = first_acts filing.request.flight.first heard filing.heard in
    let end : List (Act Reader) = end_acts filing.request.flight filing.item filing.verdict (error_in filing.request (filing ∷ earlier)) (bytes_in filing.request (filing ∷ earlier)) in
    first_tells told filing.request.flight.first heard filing.heard laid
    (sym (ap (told_by told) (parted first end) ∙ told_on told (map call_of first) (map call_of end)
    ∙ ends_tell_none (told_by told (map call_of first)) filing.request.flight filing.item filing.verdict (error_in filing.request (filing ∷ earlier)) (bytes_in filing.request (filing ∷ earlier))) ∙ e)

-- ---- Extents are told from the command's offset on.

none_extents : (context : MetaContext) (offset : ℕ) (entries : List Extent) (error : ℕ) → None ≡ Some (hearing_of.Extents context offset entries error) → ⊥
none_extents context offset entries error e = cc

chunk_extents : (bytes : List ℕ) (from status code : ℕ) (context : MetaContext) (offset : ℕ) (entries : List Extent) (error : ℕ) → Some (hearing_of.Chunk bytes from status code) ≡ Some (hearing_of.Extents context offset entries error) → ⊥
chunk_extents bytes from status code context offset entries error e = cc

status_offset : (found : Option MetaContext) (at : ℕ) (descriptors : List Extent) (code : ℕ) (context : MetaContext) (offset : ℕ) (entries : List Extent) (error : ℕ) → extents_heard found at descriptors code ≡ Some (hearing_of.Extents context offset entries error) → offset ≡ at
status_offset None at descriptors code context offset entries error e = absurd (none_extents context offset entries error e)
status_offset (Some one) at descriptors code context offset entries error e = cc

either_offset : (b : Bool) (bytes : List ℕ) (from status code : ℕ) (context : MetaContext) (offset : ℕ) (entries : List Extent) (error : ℕ) → (if b then Some (hearing_of.Chunk bytes from status code) else None) ≡ Some (hearing_of.Extents context offset entries error) → ⊥
either_offset true bytes from status code context offset entries error e = chunk_extents bytes from status code context offset entries error e
either_offset false bytes from status code context offset entries error e = none_extents context offset entries error e

content_offset : (query : Query) (contexts : List MetaContext) (code : ℕ) (content : Content) (context : MetaContext) (offset : ℕ) (entries : List Extent) (error : ℕ) → content_heard query contexts code content ≡ Some (hearing_of.Extents context offset entries error) → offset ≡ query.offset
content_offset query contexts code (Data from bytes) context offset entries error e = absurd (chunk_extents _ _ _ _ context offset entries error e)
content_offset query contexts code (Hole from size) context offset entries error e = absurd (chunk_extents _ _ _ _ context offset entries error e)
content_offset query contexts code (Status id descriptors) context offset entries error e = status_offset (context_of id contexts) query.offset descriptors code context offset entries error e
content_offset query contexts code (Error number) context offset entries error e = absurd (none_extents context offset entries error e)
content_offset query contexts code (ErrorAt number from) context offset entries error e = absurd (either_offset (is_read query.kind) [] from read_error (error_of number) context offset entries error e)
content_offset query contexts code Nothing context offset entries error e = absurd (none_extents context offset entries error e)
content_offset query contexts code Bare context offset entries error e = absurd (none_extents context offset entries error e)

heard_offset : (query : Query) (earlier : List Piece) (contexts : List MetaContext) (item : Item) (context : MetaContext) (offset : ℕ) (entries : List Extent) (error : ℕ) → hearing query earlier contexts item ≡ Some (hearing_of.Extents context offset entries error) → offset ≡ query.offset
heard_offset query earlier contexts (Framed content last) context offset entries error e = go (has_fault query earlier contexts content) e
  where
    go : (b : Bool) → (if b then None else content_heard query contexts (error_number (failure query earlier)) content) ≡ Some (hearing_of.Extents context offset entries error) → offset ≡ query.offset
    go true d = absurd (none_extents context offset entries error d)
    go false d = content_offset query contexts (error_number (failure query earlier)) content context offset entries error d
heard_offset query earlier contexts Lost context offset entries error e = absurd (none_extents context offset entries error e)
heard_offset query earlier contexts Dropped context offset entries error e = absurd (none_extents context offset entries error e)

-- ---- The law.

-- They came for this command, which has a callback for them, from its offset on, and its answer told as zero whatever they do.
pub record CameFor (asks : ℕ → Option (Request Reader)) (entries : List (Entry Reader)) (laid : Laid) : Type 0 where
  pub cookie : ℕ
  pub one : Request Reader
  pub there : asks cookie ≡ Some one
  pub first : is_some one.flight.first ≡ true
  pub at : laid.at ≡ one.offset
  pub zero : (p : ℕ) → zero_in laid.at laid.extents p ≡ true → zero_told (Some one) (own cookie entries) p ≡ true

came_more : (asks : ℕ → Option (Request Reader)) (filing : Filing Reader) (entries : List (Entry Reader)) (laid : Laid) → CameFor asks entries laid → CameFor asks (Filed filing ∷ entries) laid
came_more asks filing entries laid c = record {
  cookie = c.cookie;
  one = c.one;
  there = c.there;
  first = c.first;
  at = c.at;
  zero = λ p z. elim (filing.cookie == c.cookie) as (λ b. zero_by c.one.offset (pieces (if b then filing ∷ own c.cookie entries else own c.cookie entries)) p ≡ true)
      [ true ↦ or_right (zero_in c.one.offset (extents_in filing.contexts (content_of filing.item)) p) (zero_by c.one.offset (pieces (own c.cookie entries)) p) (c.zero p z) | false ↦ c.zero p z ];
}

came_now : (asks : ℕ → Option (Request Reader)) (filing : Filing Reader) (entries : List (Entry Reader)) (laid : Laid) → asks filing.cookie ≡ Some filing.request
    → HeardNow filing.request.flight.first (hearing_in filing.request (own filing.cookie entries) filing.contexts filing.item) laid → CameFor asks (Filed filing ∷ entries) laid
came_now asks filing entries laid there h =
    let query : Query = query_of filing.request in
    let earlier : List Piece = pieces (own filing.cookie entries) in
    let at : laid.at ≡ filing.request.offset = heard_offset query earlier filing.contexts filing.item h.context laid.at laid.extents h.error h.told_is in
    let are : extents_in filing.contexts (content_of filing.item) ≡ laid.extents = item_told query earlier filing.contexts filing.item h.context laid.at laid.extents h.error h.told_is h.name in
    record {
      cookie = filing.cookie;
      one = filing.request;
      there = there;
      first = ap is_some h.first_is;
      at = at;
      zero = λ p z.
          ap (λ (l : List (Filing Reader)). zero_by filing.request.offset (pieces l) p) (own_same filing entries)
          ∙ or_left (zero_in filing.request.offset (extents_in filing.contexts (content_of filing.item)) p) (zero_by filing.request.offset earlier p)
          (ap (λ (l : List Extent). zero_in filing.request.offset l p) are ∙ ap (λ (n : ℕ). zero_in n laid.extents p) (sym at) ∙ z);
    }

pub all_came : (asks : ℕ → Option (Request Reader)) (entries : List (Entry Reader)) → AreFiled asks entries → (laid : Laid) → told_by None (calls entries) ≡ Some laid → CameFor asks entries laid
all_came asks [] filed laid e = absurd (none_laid laid e)
all_came asks (Filed filing ∷ entries) filed laid e =
    go (λ before. all_came asks entries filed.3 laid before) (filing_tells (told_by None (calls entries)) filing (own filing.cookie entries) laid (sym (told_on None (calls entries) (map call_of (acts_of filing (own filing.cookie entries)))) ∙ e))
  where
    go : (told_by None (calls entries) ≡ Some laid → CameFor asks entries laid) → (told_by None (calls entries) ≡ Some laid) ⊎ HeardNow filing.request.flight.first (hearing_in filing.request (own filing.cookie entries) filing.contexts filing.item) laid → CameFor asks (Filed filing ∷ entries) laid
    go rest (inl before) = came_more asks filing entries laid (rest before)
    go rest (inr now) = came_now asks filing entries laid filed.0 now
all_came asks (Freed flight ∷ entries) filed laid e =
    let c = all_came asks entries filed laid (sym (told_on None (calls entries) (map call_of (free_acts flight)) ∙ frees_tell_none (told_by None (calls entries)) flight.first (act.Free flight.done ∷ [])) ∙ e) in
    record { cookie = c.cookie; one = c.one; there = c.there; first = c.first; at = c.at; zero = c.zero }
all_came asks (Cleared ∷ entries) filed laid e =
    let c = all_came asks entries filed laid e in
    record { cookie = c.cookie; one = c.one; there = c.there; first = c.first; at = c.at; zero = c.zero }

-- So it is with every history.
pub told_came : (history : History Reader) (laid : Laid) → told_by None (calls (reading history).known.entries) ≡ Some laid → CameFor (request history) (reading history).known.entries laid
told_came history laid e = all_came (request history) (reading history).known.entries (entries_are_filed history) laid e

-- What a BLOCK_STATUS that is done told as zero, the extents that were told last tell as zero: the converse of `told_came`.
use Rattle.std.proofs.Common.{◌≡◌, ◌⊎◌, inl, inr, ℕ, ◌+◌, ◌&&◌, ◌||◌, not, Bool, true, false, List, [], ◌∷◌, ◌++◌, map, length, Option, Some, None, refl, sym, ◌∙◌, ap, subst, arith, bytes_eq, if◌then◌else◌}
use Rattle.std.specs.Prelude.{is_some, nat_le}
use Rattle.std.proofs.lemmas.Bool.{cases_eq, eq-eqb, false≢true}
use Rattle.lnbd_model.specs.Errors.{error_of}
use Rattle.lnbd_model.specs.Kind.{is_read}
use Rattle.lnbd_model.specs.declared.errors.TheConstants.{EPROTO}
use Rattle.lnbd_model.specs.declared.export.Context.{Context as MetaContext}
use Rattle.lnbd_model.specs.declared.export.Extent.{Extent}
use Rattle.lnbd_model.specs.declared.failure.Failure.{Failure}
use Rattle.lnbd_model.specs.declared.failure.Origin.TheVariants as from
use Rattle.lnbd_records.specs.Content.{Content, Data, Hole, Status, Error, ErrorAt, Nothing, Bare}
use Rattle.lnbd_callbacks.specs.Slot.{Slot}
use Rattle.lnbd_callbacks.specs.declared.caller.Heard.{Heard}
use Rattle.lnbd_extents.specs.Positions.{any_at}
use Rattle.lnbd_outcome.specs.Faults.{any_empty, content_fault, context_of, context_told, fault_by, has_fault, status_fault, tells_context, told}
use Rattle.lnbd_outcome.specs.Hearing.{Hearing, content_heard, extents_heard, hearing, read_error}
use Rattle.lnbd_outcome.specs.Hearing as hearing_of
use Rattle.lnbd_outcome.specs.Outcome.{Done, Unfinished, error_number, failing, failure, item_failure, lack_failure, or_else, verdict}
use Rattle.lnbd_outcome.specs.Pieces.{Piece, Query, came, content_of, has_place, is_completed, is_content, is_single, is_whole, number_of}
use Rattle.lnbd_history.specs.Agreement.{contexts, phase, steps}
use Rattle.lnbd_history.specs.Commands.{Request, query_of, request_of}
use Rattle.lnbd_history.specs.declared.kinds.Phase.TheVariants.{Ready}
use Rattle.lnbd_history.specs.Entries.{Act, Cleared, Dropped, Entry, Filed, Filing, Framed, Freed, Item, Lost, acts_of, bytes_in, call_of, calls, end_acts, error_in, first_acts, free_acts, hearing_in, hears, is_ended, own, pieces}
use Rattle.lnbd_history.specs.Entries as act
use Rattle.lnbd_history.specs.Events.{Answer, Decides, Hears, History, Issue}
use Rattle.lnbd_history.specs.History.{asked, filing_of, next_heard, reading, request}
use Rattle.lnbd_history.specs.Laws.{Lawful}
use Rattle.lnbd_history.proofs.Cookies.{request_past}
use Rattle.lnbd_asked.specs.Driven.{outcome_after, zero_after}
use Rattle.lnbd_asked.specs.InStep.{silent_pieces}
use Rattle.lnbd_asked.specs.Transcript.{extents_in, is_allocation, outcome_of, zero_by, zero_in, zero_told}
use Rattle.lnbd_kept.specs.Kept.{AreFiled}
use Rattle.lnbd_kept.proofs.FiledLemmas.{entries_are_filed}
use Rattle.lnbd_tracks.proofs.Coming.{event_keeps}
use Rattle.lnbd_tracks.proofs.Staying.{ended_more, or_right}
use Rattle.lnbd_tracks.proofs.Unfiled.{own_other, own_same, unfiled}
use Rattle.lnbd_waits.specs.Begun.{base_allocation}
use Rattle.lnbd_dump.specs.declared.reader.Reader.{Reader}
use Rattle.lnbd_dump.specs.Asks.{status_of}
use Rattle.lnbd_dump.specs.Heard.{IsZeroIn, Laid, now_heard, told_by}
use Rattle.lnbd_dump.specs.HeardLaws.{told_on}
use Rattle.lnbd_dump.proofs.ContextLemmas.{HaveThem, IsAlone, agreed_alone, has_base, since_agree}
use Rattle.lnbd_dump.proofs.HeardLemmas.{ends_tell_none, frees_tell_none, parted}

-- ---- What one reply tells of base:allocation.

-- its extents, if it tells any
abbrev base_in : List MetaContext → Content → Option (List Extent)
base_in agreed (Status id descriptors) = if has_base agreed id then Some descriptors else None
base_in agreed (Data offset bytes) = None
base_in agreed (Hole offset size) = None
base_in agreed (Error number) = None
base_in agreed (ErrorAt number offset) = None
base_in agreed Nothing = None
base_in agreed Bare = None

abbrev or_nothing : Option (List Extent) → List Extent
or_nothing None = []
or_nothing (Some descriptors) = descriptors

extents_are : (agreed : List MetaContext) (content : Content) → extents_in agreed content ≡ or_nothing (base_in agreed content)
extents_are agreed (Status id descriptors) = go (has_base agreed id)
  where
    go : (b : Bool) → (if b then descriptors else []) ≡ or_nothing (if b then Some descriptors else None)
    go true = refl
    go false = refl
extents_are agreed (Data offset bytes) = refl
extents_are agreed (Hole offset size) = refl
extents_are agreed (Error number) = refl
extents_are agreed (ErrorAt number offset) = refl
extents_are agreed Nothing = refl
extents_are agreed Bare = refl

-- these take the place of what was told, or that stays
abbrev laid_by : ℕ → Option (List Extent) → Option Laid → Option Laid
laid_by at None told = told
laid_by at (Some descriptors) told = Some (record { at = at; extents = descriptors })

abbrev heard_laid : Option Hearing → Option Laid → Option Laid
heard_laid None told = told
heard_laid (Some (hearing_of.Chunk bytes offset status error)) told = told
heard_laid (Some (hearing_of.Extents context offset entries error)) told = now_heard context.name offset entries told

acts_laid : (slot : Slot Reader) (heard : Option Hearing) (answer : Option Heard) (told : Option Laid) → (is_some heard ≡ true → is_some answer ≡ true) → told_by told (map call_of (first_acts (Some slot) heard answer)) ≡ heard_laid heard told
acts_laid slot None answer told some = refl
acts_laid slot (Some (hearing_of.Chunk bytes offset status error)) (Some answer) told some = refl
acts_laid slot (Some (hearing_of.Extents context offset entries error)) (Some answer) told some = refl
acts_laid slot (Some (hearing_of.Chunk bytes offset status error)) None told some = absurd (false≢true (some refl))
acts_laid slot (Some (hearing_of.Extents context offset entries error)) None told some = absurd (false≢true (some refl))

status_laid : (found : Option MetaContext) (at : ℕ) (descriptors : List Extent) (error : ℕ) (told : Option Laid) → heard_laid (extents_heard found at descriptors error) told ≡ laid_by at (if is_allocation found then Some descriptors else None) told
status_laid None at descriptors error told = refl
status_laid (Some context) at descriptors error told = go (bytes_eq context.name base_allocation)
  where
    go : (b : Bool) → (if b then Some (record { at = at; extents = descriptors }) else told) ≡ laid_by at (if b then Some descriptors else None) told
    go true = refl
    go false = refl

content_laid : (query : Query) (agreed : List MetaContext) (error : ℕ) (content : Content) (told : Option Laid) → heard_laid (content_heard query agreed error content) told ≡ laid_by query.offset (base_in agreed content) told
content_laid query agreed error (Status id descriptors) told = status_laid (context_of id agreed) query.offset descriptors error told
content_laid query agreed error (Data offset bytes) told = refl
content_laid query agreed error (Hole offset size) told = refl
content_laid query agreed error (Error number) told = refl
content_laid query agreed error (ErrorAt number offset) told = go (is_read query.kind)
  where
    go : (b : Bool) → heard_laid (if b then Some (hearing_of.Chunk [] offset read_error (error_of number)) else None) told ≡ told
    go true = refl
    go false = refl
content_laid query agreed error Nothing told = refl
content_laid query agreed error Bare told = refl

-- ---- Nothing that came for a command that is done has a fault.

abbrev fault_of : Query → List Piece → List MetaContext → Item → Bool
fault_of query earlier agreed (Framed content last) = has_fault query earlier agreed content
fault_of query earlier agreed Lost = false
fault_of query earlier agreed Dropped = false

item_laid : (query : Query) (earlier : List Piece) (agreed : List MetaContext) (item : Item) (told : Option Laid) → fault_of query earlier agreed item ≡ false → heard_laid (hearing query earlier agreed item) told ≡ laid_by query.offset (base_in agreed (content_of item)) told
item_laid query earlier agreed (Framed content last) told sound =
    ap (λ (b : Bool). heard_laid (if b then None else content_heard query agreed (error_number (failure query earlier)) content) told) sound ∙ content_laid query agreed (error_number (failure query earlier)) content told
item_laid query earlier agreed Lost told sound = refl
item_laid query earlier agreed Dropped told sound = refl

-- Whether there is one is not for a callback to say.
came_same : (filings : List (Filing Reader)) → came (silent_pieces filings) ≡ came (pieces filings)
came_same [] = refl
came_same (f ∷ earlier) = ap (λ (b : Bool). is_content (content_of f.item) || b) (came_same earlier)

told_same : (query : Query) (filings : List (Filing Reader)) → told query (silent_pieces filings) ≡ told query (pieces filings)
told_same query [] = refl
told_same query (f ∷ earlier) = λ i p. (has_place (content_of f.item) p && not (content_fault (is_whole query) (came_same earlier i) (any_at (told_same query earlier i)) (content_of f.item))) || told_same query earlier i p

context_same : (query : Query) (filings : List (Filing Reader)) → context_told query (silent_pieces filings) ≡ context_told query (pieces filings)
context_same query [] = refl
context_same query (f ∷ earlier) = λ i id. tells_context (is_single query) f.contexts (context_same query earlier i) (content_of f.item) id || context_same query earlier i id

fault_same : (query : Query) (filings : List (Filing Reader)) (agreed : List MetaContext) (item : Item) → fault_of query (silent_pieces filings) agreed item ≡ fault_of query (pieces filings) agreed item
fault_same query filings agreed (Framed content last) = λ i. fault_by query agreed (came_same filings i) (any_at (told_same query filings i)) (context_same query filings i) content
fault_same query filings agreed Lost = refl
fault_same query filings agreed Dropped = refl

abbrev pub AreSound : Query → List (Filing Reader) → Type 0
AreSound query [] = Unit {0}
AreSound query (f ∷ earlier) = (fault_of query (silent_pieces earlier) f.contexts f.item ≡ false) × AreSound query earlier

or_none : (a b : Option Failure) → or_else a b ≡ None → (a ≡ None) × (b ≡ None)
or_none None b e = (refl, e)
or_none (Some f) b e = absurd (cc e)

item_sound : (query : Query) (earlier : List Piece) (agreed : List MetaContext) (item : Item) → item_failure query earlier agreed item ≡ None → fault_of query earlier agreed item ≡ false
item_sound query earlier agreed (Framed content last) e = go (has_fault query earlier agreed content) e
  where
    go : (b : Bool) → (if b then failing from.Content EPROTO else failing from.Told (error_of (number_of content))) ≡ None → b ≡ false
    go true k = absurd (cc k)
    go false k = refl
item_sound query earlier agreed Lost e = refl
item_sound query earlier agreed Dropped e = refl

all_sound : (query : Query) (filings : List (Filing Reader)) → failure query (silent_pieces filings) ≡ None → AreSound query filings
all_sound query [] none = tt
all_sound query (f ∷ earlier) none =
    let before : Option Failure = failure query (silent_pieces earlier) in
    let item : Option Failure = item_failure query (silent_pieces earlier) f.contexts f.item in
    let whole = or_none (or_else (or_else before item) (failing from.Callback 0)) (lack_failure query (silent_pieces earlier) (record { item = f.item; contexts = f.contexts; heard = 0 })) none in
    let both = or_none before item (or_none (or_else before item) (failing from.Callback 0) whole.0).0 in
    (item_sound query (silent_pieces earlier) f.contexts f.item both.1, all_sound query earlier both.0)

done_sound : (asks : Request Reader) (filings : List (Filing Reader)) (bytes : List ℕ) → outcome_of (Some asks) filings ≡ Done bytes → AreSound (query_of asks) filings
done_sound asks filings bytes e = all_sound (query_of asks) filings (go (is_completed (silent_pieces filings)) (failure (query_of asks) (silent_pieces filings)) _ e)
  where
    go : (b : Bool) (o : Option Failure) (all : List ℕ) → (if b then verdict o all else Unfinished) ≡ Done bytes → o ≡ None
    go true None all k = refl
    go true (Some one) all k = absurd (cc k)
    go false o all k = absurd (cc k)

-- ---- Only one reply to a command tells of base:allocation.

or_second : (a b c d : Bool) → b ≡ true → (a || b || c || d) ≡ true
or_second true b c d e = refl
or_second false true c d e = refl
or_second false false c d e = absurd (false≢true e)

none_some : (descriptors : List Extent) → None ≡ Some descriptors → ⊥
none_some descriptors e = cc

-- what tells of it, and what its context is
record TellsBase (agreed : List MetaContext) (content : Content) : Type 0 where
  id : ℕ
  descriptors : List Extent
  is : content ≡ Status id descriptors
  has : has_base agreed id ≡ true

tells_base : (agreed : List MetaContext) (content : Content) (descriptors : List Extent) → base_in agreed content ≡ Some descriptors → TellsBase agreed content
tells_base agreed (Status id all) descriptors e = record { id = id; descriptors = all; is = refl; has = go (has_base agreed id) e }
  where
    go : (b : Bool) → (if b then Some all else None) ≡ Some descriptors → b ≡ true
    go true k = refl
    go false k = absurd (none_some descriptors k)
tells_base agreed (Data offset bytes) descriptors e = absurd (none_some descriptors e)
tells_base agreed (Hole offset size) descriptors e = absurd (none_some descriptors e)
tells_base agreed (Error number) descriptors e = absurd (none_some descriptors e)
tells_base agreed (ErrorAt number offset) descriptors e = absurd (none_some descriptors e)
tells_base agreed Nothing descriptors e = absurd (none_some descriptors e)
tells_base agreed Bare descriptors e = absurd (none_some descriptors e)

-- what tells of it without a fault tells its context
tells_now : (single : Bool) (agreed : List MetaContext) (before : ℕ → Bool) (id other : ℕ) (descriptors : List Extent) → id ≡ other → status_fault single agreed before id descriptors ≡ false → tells_context single agreed before (Status id descriptors) other ≡ true
tells_now single agreed before id other descriptors same sound = ap (λ (b : Bool). b && not (status_fault single agreed before id descriptors)) (eq-eqb id other same) ∙ ap not sound

or_cases : (a b : Bool) → (a || b) ≡ true → (a ≡ true) ⊎ (b ≡ true)
or_cases true b e = inl refl
or_cases false b e = inr e

none_zero : (start p : ℕ) → zero_in start [] p ≡ true → ⊥
none_zero start p z = go (nat_le start p) z
  where
    go : (b : Bool) → (b && false) ≡ true → ⊥
    go true e = false≢true e
    go false e = false≢true e

module _ (query : Query) (agreed : List MetaContext) (alone : IsAlone agreed) where
  -- where a position was told as zero, its context was told
  base_told : (filings : List (Filing Reader)) → HaveThem agreed filings → AreSound query filings → (id : ℕ) → has_base agreed id ≡ true → (start p : ℕ) → zero_by start (pieces filings) p ≡ true → context_told query (silent_pieces filings) id ≡ true
  base_told [] have sound id has start p z = absurd (false≢true z)
  base_told (f ∷ earlier) have sound id has start p z = go (base_in f.contexts (content_of f.item)) refl (λ e. base_told earlier have.1 sound.1 id has start p e)
    where
      here : TellsBase f.contexts (content_of f.item) → (item : Item) → f.item ≡ item → fault_of query (silent_pieces earlier) f.contexts item ≡ false → tells_context (is_single query) f.contexts (context_told query (silent_pieces earlier)) (content_of f.item) id ≡ true
      here t (Framed content last) is whole =
          let same : t.id ≡ id = alone t.id id (ap (λ (l : List MetaContext). has_base l t.id) (sym have.0) ∙ t.has) has in
          let content_is : content ≡ Status t.id t.descriptors = ap content_of (sym is) ∙ t.is in
          ap (λ (c : Content). tells_context (is_single query) f.contexts (context_told query (silent_pieces earlier)) c id) t.is
          ∙ tells_now (is_single query) f.contexts (context_told query (silent_pieces earlier)) t.id id t.descriptors same (ap (has_fault query (silent_pieces earlier) f.contexts) (sym content_is) ∙ whole)
      here t Lost is whole = absurd (not_nothing t.id t.descriptors (ap content_of (sym is) ∙ t.is))
        where
          not_nothing : (n : ℕ) (l : List Extent) → Nothing ≡ Status n l → ⊥
          not_nothing n l e = cc
      here t Dropped is whole = absurd (not_nothing t.id t.descriptors (ap content_of (sym is) ∙ t.is))
        where
          not_nothing : (n : ℕ) (l : List Extent) → Nothing ≡ Status n l → ⊥
          not_nothing n l e = cc

      go : (b : Option (List Extent)) → base_in f.contexts (content_of f.item) ≡ b → (zero_by start (pieces earlier) p ≡ true → context_told query (silent_pieces earlier) id ≡ true) → context_told query (silent_pieces (f ∷ earlier)) id ≡ true
      go None none rest = elim (or_cases (zero_in start (extents_in f.contexts (content_of f.item)) p) (zero_by start (pieces earlier) p) z) [
        | inl e ↦ absurd (none_zero start p (ap (λ (l : List Extent). zero_in start l p) (sym (extents_are f.contexts (content_of f.item) ∙ ap or_nothing none)) ∙ e))
        | inr e ↦ or_right (tells_context (is_single query) f.contexts (context_told query (silent_pieces earlier)) (content_of f.item) id) (context_told query (silent_pieces earlier) id) (rest e)
      ]
      go (Some descriptors) some rest =
          ap (λ (b : Bool). b || context_told query (silent_pieces earlier) id) (here (tells_base f.contexts (content_of f.item) descriptors some) f.item refl sound.0)

  -- so none told one before a reply that tells of it
  first_base : (f : Filing Reader) (earlier : List (Filing Reader)) → HaveThem agreed (f ∷ earlier) → AreSound query (f ∷ earlier) → (descriptors : List Extent) → base_in f.contexts (content_of f.item) ≡ Some descriptors → (start p : ℕ) → zero_by start (pieces earlier) p ≡ true → ⊥
  first_base f earlier have sound descriptors some start p z = go f.item refl sound.0
    where
      t : TellsBase f.contexts (content_of f.item)
      t = tells_base f.contexts (content_of f.item) descriptors some

      before : context_told query (silent_pieces earlier) t.id ≡ true
      before = base_told earlier have.1 sound.1 t.id (ap (λ (l : List MetaContext). has_base l t.id) (sym have.0) ∙ t.has) start p z

      not_nothing : (n : ℕ) (l : List Extent) → Nothing ≡ Status n l → ⊥
      not_nothing n l e = cc

      go : (item : Item) → f.item ≡ item → fault_of query (silent_pieces earlier) f.contexts item ≡ false → ⊥
      go (Framed content last) is whole =
          let content_is : content ≡ Status t.id t.descriptors = ap content_of (sym is) ∙ t.is in
          let faulty : status_fault (is_single query) f.contexts (context_told query (silent_pieces earlier)) t.id t.descriptors ≡ true = or_second (not (is_some (context_of t.id f.contexts))) (context_told query (silent_pieces earlier) t.id) (any_empty t.descriptors) (is_single query && nat_le 2 (length t.descriptors)) before in
          false≢true (sym (ap (has_fault query (silent_pieces earlier) f.contexts) (sym content_is) ∙ whole) ∙ faulty)
      go Lost is whole = not_nothing t.id t.descriptors (ap content_of (sym is) ∙ t.is)
      go Dropped is whole = not_nothing t.id t.descriptors (ap content_of (sym is) ∙ t.is)

-- ---- Each callback that is to be told something is.

next_some : (b : Bool) (answers : List Answer) → b ≡ true → is_some (next_heard b answers) ≡ true
next_some false answers e = e
next_some true [] e = refl
next_some true (Hears heard ∷ answers) e = refl
next_some true (Decides verdict ∷ answers) e = refl

and_true : (a b : Bool) → a ≡ true → b ≡ true → (a && b) ≡ true
and_true true b e k = k
and_true false b e k = absurd (false≢true e)

abbrev HaveHeard : List (Entry Reader) → Type 0
HaveHeard [] = Unit {0}
HaveHeard (Filed f ∷ earlier) = (is_some (hearing_in f.request (own f.cookie earlier) f.contexts f.item) ≡ true → is_some f.request.flight.first ≡ true → is_some f.heard ≡ true) × HaveHeard earlier
HaveHeard (Freed flight ∷ earlier) = HaveHeard earlier
HaveHeard (Cleared ∷ earlier) = HaveHeard earlier

all_heard : (history : History Reader) → HaveHeard (reading history).known.entries
all_heard [] = tt
all_heard (event ∷ before) = event_keeps before HaveHeard (λ item. Unit {0}) filed (λ item. tt) (λ flight entries h. h) (λ entries h. h) event (all_heard before)
  where
    filed : (asks : Request Reader) (k : ℕ) (item : Item) (agreed : List MetaContext) (answers : List Answer) (entries : List (Entry Reader)) → Unit {0} → request before k ≡ Some asks → is_ended (own k entries) ≡ false → HaveHeard entries →
        HaveHeard (Filed (filing_of asks k (own k entries) agreed item answers) ∷ entries)
    filed asks k item agreed answers entries any there going h =
        ((λ some first. next_some (hears asks.flight (hearing_in asks (own k entries) agreed item)) answers (and_true (is_some (hearing_in asks (own k entries) agreed item)) (is_some asks.flight.first) some first)), h)

-- ---- What a filing tells.

acts_tell : (told : Option Laid) (f : Filing Reader) (earlier : List (Filing Reader)) → told_by told (map call_of (acts_of f earlier)) ≡ told_by told (map call_of (first_acts f.request.flight.first (hearing_in f.request earlier f.contexts f.item) f.heard))
acts_tell told f earlier =
    let first : List (Act Reader) = first_acts f.request.flight.first (hearing_in f.request earlier f.contexts f.item) f.heard in
    let error = error_in f.request (f ∷ earlier) in
    let bytes = bytes_in f.request (f ∷ earlier) in
    let end : List (Act Reader) = end_acts f.request.flight f.item f.verdict error bytes in
    ap (told_by told) (parted first end) ∙ told_on told (map call_of first) (map call_of end) ∙ ends_tell_none (told_by told (map call_of first)) f.request.flight f.item f.verdict error bytes

-- one for a command without a callback tells nothing
deaf_tells : (told : Option Laid) (f : Filing Reader) (earlier : List (Filing Reader)) → is_some f.request.flight.first ≡ false → told_by told (map call_of (acts_of f earlier)) ≡ told
deaf_tells told f earlier none = acts_tell told f earlier ∙ go f.request.flight.first none
  where
    go : (first : Option (Slot Reader)) → is_some first ≡ false → told_by told (map call_of (first_acts first (hearing_in f.request earlier f.contexts f.item) f.heard)) ≡ told
    go None e = refl
    go (Some slot) e = absurd (false≢true (sym e))

filing_lays : (told : Option Laid) (f : Filing Reader) (earlier : List (Filing Reader)) → is_some f.request.flight.first ≡ true
    → (is_some (hearing_in f.request earlier f.contexts f.item) ≡ true → is_some f.request.flight.first ≡ true → is_some f.heard ≡ true) → fault_of (query_of f.request) (silent_pieces earlier) f.contexts f.item ≡ false
    → told_by told (map call_of (acts_of f earlier)) ≡ laid_by f.request.offset (base_in f.contexts (content_of f.item)) told
filing_lays told f earlier some heard sound =
    acts_tell told f earlier ∙ go f.request.flight.first some (λ h. heard h some)
    ∙ item_laid (query_of f.request) (pieces earlier) f.contexts f.item told (sym (fault_same (query_of f.request) earlier f.contexts f.item) ∙ sound)
  where
    go : (first : Option (Slot Reader)) → is_some first ≡ true → (is_some (hearing_in f.request earlier f.contexts f.item) ≡ true → is_some f.heard ≡ true)
        → told_by told (map call_of (first_acts first (hearing_in f.request earlier f.contexts f.item) f.heard)) ≡ heard_laid (hearing_in f.request earlier f.contexts f.item) told
    go None e h = absurd (false≢true e)
    go (Some slot) e h = acts_laid slot (hearing_in f.request earlier f.contexts f.item) f.heard told h

-- ---- The law.

some_same : (a b : Request Reader) → Some a ≡ Some b → a ≡ b
some_same a b e = cc

ended_all : (k : ℕ) (more base : List (Entry Reader)) → is_ended (own k base) ≡ true → is_ended (own k (more ++ base)) ≡ true
ended_all k [] base e = e
ended_all k (Filed f ∷ more) base e = ended_more k f (more ++ base) (ended_all k more base e)
ended_all k (Freed flight ∷ more) base e = ended_all k more base e
ended_all k (Cleared ∷ more) base e = ended_all k more base e

-- Nothing was filed under this command before, and each other that has a callback had ended.
module _ (asks : ℕ → Option (Request Reader)) (c : ℕ) (q : Request Reader) (is : asks c ≡ Some q) (first : is_some q.flight.first ≡ true) (agreed : List MetaContext) (alone : IsAlone agreed) (base : List (Entry Reader)) (none : own c base ≡ [])
    (others : (k : ℕ) (one : Request Reader) → asks k ≡ Some one → (k ≡ c → ⊥) → is_some one.flight.first ≡ true → is_ended (own k base) ≡ true) where
  heeds : (more : List (Entry Reader)) → AreFiled asks (more ++ base) → HaveHeard (more ++ base) → HaveThem agreed (own c (more ++ base)) → AreSound (query_of q) (own c (more ++ base))
      → (p : ℕ) → zero_by q.offset (pieces (own c (more ++ base))) p ≡ true → IsZeroIn (told_by None (calls (more ++ base))) q.offset p
  heeds [] filed heard have sound p z = absurd (false≢true (ap (λ (l : List (Filing Reader)). zero_by q.offset (pieces l) p) (sym none) ∙ z))
  heeds (Freed flight ∷ more) filed heard have sound p z =
      let rest : List (Entry Reader) = more ++ base in
      let same = told_on None (calls rest) (map call_of (free_acts flight)) ∙ frees_tell_none (told_by None (calls rest)) flight.first (act.Free flight.done ∷ []) in
      subst (λ (t : Option Laid). IsZeroIn t q.offset p) (sym same) (heeds more filed heard have sound p z)
  heeds (Cleared ∷ more) filed heard have sound p z = heeds more filed heard have sound p z
  heeds (Filed f ∷ more) filed heard have sound p z = go (cases_eq f.cookie c) (heeds more filed.3 heard.1)
    where
      rest : List (Entry Reader)
      rest = more ++ base

      before : Option Laid
      before = told_by None (calls rest)

      told_is : told_by None (calls (Filed f ∷ rest)) ≡ told_by before (map call_of (acts_of f (own f.cookie rest)))
      told_is = told_on None (calls rest) (map call_of (acts_of f (own f.cookie rest)))

      -- it came for another
      beside : (f.cookie ≡ c → ⊥) → is_some f.request.flight.first ≡ false
      beside differ = pick (is_some f.request.flight.first) refl
        where
          pick : (b : Bool) → is_some f.request.flight.first ≡ b → is_some f.request.flight.first ≡ false
          pick false e = e
          pick true e = absurd (false≢true (sym filed.1 ∙ ended_all f.cookie more base (others f.cookie f.request filed.0 differ e)))

      told_first : (b : Option (List Extent)) → base_in f.contexts (content_of f.item) ≡ b → HaveThem agreed (f ∷ own c rest) → AreSound (query_of q) (f ∷ own c rest) → zero_by q.offset (pieces (f ∷ own c rest)) p ≡ true
          → (HaveThem agreed (own c rest) → AreSound (query_of q) (own c rest) → (r : ℕ) → zero_by q.offset (pieces (own c rest)) r ≡ true → IsZeroIn before q.offset r) → IsZeroIn (laid_by q.offset b before) q.offset p
      told_first None e have' sound' z' on = elim (or_cases (zero_in q.offset (extents_in f.contexts (content_of f.item)) p) (zero_by q.offset (pieces (own c rest)) p) z') [
        | inl now ↦ absurd (none_zero q.offset p (ap (λ (l : List Extent). zero_in q.offset l p) (sym (extents_are f.contexts (content_of f.item) ∙ ap or_nothing e)) ∙ now))
        | inr old ↦ on have'.1 sound'.1 p old
      ]
      told_first (Some descriptors) e have' sound' z' on = elim (or_cases (zero_in q.offset (extents_in f.contexts (content_of f.item)) p) (zero_by q.offset (pieces (own c rest)) p) z') [
        | inl now ↦ (refl, ap (λ (l : List Extent). zero_in q.offset l p) (sym (extents_are f.contexts (content_of f.item) ∙ ap or_nothing e)) ∙ now)
        | inr old ↦ absurd (first_base (query_of q) agreed alone f (own c rest) have' sound' descriptors e q.offset p old)
      ]

      -- it came for this one
      here : f.cookie ≡ c → (HaveThem agreed (own c rest) → AreSound (query_of q) (own c rest) → (r : ℕ) → zero_by q.offset (pieces (own c rest)) r ≡ true → IsZeroIn before q.offset r) → IsZeroIn (told_by None (calls (Filed f ∷ rest))) q.offset p
      here same on =
          let owns : own c (Filed f ∷ rest) ≡ f ∷ own c rest = ap (λ (k : ℕ). own k (Filed f ∷ rest)) (sym same) ∙ own_same f rest ∙ ap (λ (k : ℕ). f ∷ own k rest) same in
          let request_is : f.request ≡ q = some_same f.request q (sym filed.0 ∙ ap asks same ∙ is) in
          let have' : HaveThem agreed (f ∷ own c rest) = subst (HaveThem agreed) owns have in
          let sound' : AreSound (query_of q) (f ∷ own c rest) = subst (AreSound (query_of q)) owns sound in
          let z' : zero_by q.offset (pieces (f ∷ own c rest)) p ≡ true = ap (λ (l : List (Filing Reader)). zero_by q.offset (pieces l) p) (sym owns) ∙ z in
          let lays : told_by before (map call_of (acts_of f (own f.cookie rest))) ≡ laid_by q.offset (base_in f.contexts (content_of f.item)) before =
          filing_lays before f (own f.cookie rest) (ap (λ (r : Request Reader). is_some r.flight.first) request_is ∙ first) heard.0
          (ap (λ (r : Request Reader). fault_of (query_of r) (silent_pieces (own f.cookie rest)) f.contexts f.item) request_is
          ∙ ap (λ (k : ℕ). fault_of (query_of q) (silent_pieces (own k rest)) f.contexts f.item) same ∙ sound'.0)
          ∙ ap (λ (r : Request Reader). laid_by r.offset (base_in f.contexts (content_of f.item)) before) request_is in
          subst (λ (t : Option Laid). IsZeroIn t q.offset p) (sym (told_is ∙ lays)) (told_first (base_in f.contexts (content_of f.item)) refl have' sound' z' on)

      go : (f.cookie ≡ c) ⊎ (f.cookie ≡ c → ⊥) → (HaveThem agreed (own c rest) → AreSound (query_of q) (own c rest) → (r : ℕ) → zero_by q.offset (pieces (own c rest)) r ≡ true → IsZeroIn before q.offset r) → IsZeroIn (told_by None (calls (Filed f ∷ rest))) q.offset p
      go (inl same) on = here same on
      go (inr differ) on =
          let owns : own c (Filed f ∷ rest) ≡ own c rest = own_other c f rest differ in
          subst (λ (t : Option Laid). IsZeroIn t q.offset p) (sym (told_is ∙ deaf_tells before f (own f.cookie rest) (beside differ)))
          (on (subst (HaveThem agreed) owns have) (subst (AreSound (query_of q)) owns sound) p (ap (λ (l : List (Filing Reader)). zero_by q.offset (pieces l) p) (sym owns) ∙ z))

-- ---- Of histories.

-- what is filed comes before what was
record Longer (base entries : List (Entry Reader)) : Type 0 where
  more : List (Entry Reader)
  is : entries ≡ more ++ base

longer_since : (since before : History Reader) → Longer (reading before).known.entries (reading (since ++ before)).known.entries
longer_since [] before = record { more = []; is = refl }
longer_since (event ∷ since) before =
    event_keeps (since ++ before) (Longer (reading before).known.entries) (λ item. Unit {0})
    (λ asks k item agreed answers entries any there going l. one (Filed (filing_of asks k (own k entries) agreed item answers)) entries l)
    (λ item. tt) (λ flight entries l. one (Freed flight) entries l) (λ entries l. one Cleared entries l) event (longer_since since before)
  where
    one : (entry : Entry Reader) (entries : List (Entry Reader)) → Longer (reading before).known.entries entries → Longer (reading before).known.entries (entry ∷ entries)
    one entry entries l = record { more = entry ∷ l.more; is = ap (λ (x : List (Entry Reader)). entry ∷ x) l.is }

-- A BLOCK_STATUS that is done was asked where requests could be made and each other that has a callback had ended: what it told as zero, the extents that were told
-- last from its offset on tell as zero.
pub status_heard : (limit : ℕ) (since before : History Reader) (at size : ℕ) (bytes : List ℕ) → Lawful limit (since ++ Issue (status_of at size) ∷ before) → phase (reading before).known.turns ≡ Ready
    → request (since ++ Issue (status_of at size) ∷ before) ((asked before).issued + 1) ≡ Some (request_of (asked before).admitted (status_of at size)) → outcome_after (since ++ Issue (status_of at size) ∷ before) ((asked before).issued + 1) ≡ Done bytes
    → ((k : ℕ) (one : Request Reader) → request (since ++ Issue (status_of at size) ∷ before) k ≡ Some one → (k ≡ (asked before).issued + 1 → ⊥) → is_some one.flight.first ≡ true → is_ended (own k (reading before).known.entries) ≡ true)
    → (p : ℕ) → zero_after (since ++ Issue (status_of at size) ∷ before) ((asked before).issued + 1) p ≡ true → IsZeroIn (told_by None (calls (reading (since ++ Issue (status_of at size) ∷ before)).known.entries)) at p
status_heard limit since before at size bytes lawful ready is done others p z =
    subst (λ (l : List (Entry Reader)). IsZeroIn (told_by None (calls l)) at p) (sym long.is)
    (heeds (request last) c q is refl agreed (agreed_alone (steps (reading h1).known.turns)) (reading h1).known.entries none others long.more
    (subst (AreFiled (request last)) long.is (entries_are_filed last)) (subst HaveHeard long.is (all_heard last))
    (subst (λ (l : List (Entry Reader)). HaveThem agreed (own c l)) long.is (since_agree limit h1 c since lawful ready none))
    (subst (λ (l : List (Entry Reader)). AreSound (query_of q) (own c l)) long.is sound) p
    (ap (λ (l : List (Entry Reader)). zero_by at (pieces (own c l)) p) (sym long.is) ∙ sym (ap (λ (a : Option (Request Reader)). zero_told a (own c (reading last).known.entries) p) is) ∙ z))
  where
    h1 : History Reader
    h1 = Issue (status_of at size) ∷ before

    last : History Reader
    last = since ++ h1

    c : ℕ
    c = (asked before).issued + 1

    q : Request Reader
    q = request_of (asked before).admitted (status_of at size)

    agreed : List MetaContext
    agreed = contexts (steps (reading h1).known.turns)

    long : Longer (reading h1).known.entries (reading last).known.entries
    long = longer_since since h1

    none : own c (reading h1).known.entries ≡ []
    none = unfiled before c (request_past before c (omega arith))

    sound : AreSound (query_of q) (own c (reading last).known.entries)
    sound = done_sound q (own c (reading last).known.entries) bytes (sym (ap (λ (a : Option (Request Reader)). outcome_of a (own c (reading last).known.entries)) is) ∙ done)

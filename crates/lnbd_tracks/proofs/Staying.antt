-- What stays of a command whatever happens: what was asked, that it has ended, that it is done, and what it told as zero.
use Rattle.std.proofs.Common.{◌≡◌, ◌≢◌, ℕ, ◌+◌, Bool, true, false, ◌||◌, List, [], ◌∷◌, Option, Some, None, refl, ap, sym, subst, ◌∙◌, arith, ◌==◌, ◌⊎◌, inl, inr, if◌then◌else◌}
use Rattle.std.proofs.lemmas.Bool.{cases_eq, false≢true, eq-eqb, ne_eqb}
use Rattle.lnbd_model.specs.declared.export.Context.{Context as MetaContext}
use Rattle.lnbd_outcome.specs.Outcome.{Unfinished, Done}
use Rattle.lnbd_outcome.specs.Pieces.{Piece, content_of}
use Rattle.lnbd_history.specs.Commands.{Command, Flight, Request}
use Rattle.lnbd_history.specs.Commands as commands
use Rattle.lnbd_history.specs.Entries.{Item, Filing, Entry, Filed, ends, own, is_ended, pieces}
use Rattle.lnbd_history.specs.Events.{Answer, Event, History, Set, StrictMode, Start, Opt, Abort, Issue, Refuse, Disconnect, Wrote, Arrived, End, LinkFailed, Retire, ClearLog, Close}
use Rattle.lnbd_history.specs.History.{asked, request, filing_of, reading}
use Rattle.lnbd_history.proofs.Cookies.{request_past}
use Rattle.lnbd_asked.specs.Driven.{outcome_after, zero_after}
use Rattle.lnbd_asked.specs.Transcript.{outcome_of, extents_in, is_zero, zero_in, zero_by, zero_told}
use Rattle.lnbd_tracks.specs.Tracks.{is_issue}
use Rattle.lnbd_tracks.specs.Laws.{IsDone}
use Rattle.lnbd_tracks.specs.Saying.{said_after, said_by, said_in, said_of}
use Rattle.lnbd_tracks.proofs.Coming.{event_keeps}
use Rattle.lnbd_tracks.proofs.Outcomes.{waits}
use Rattle.lnbd_tracks.proofs.Unfiled.{own_other, request_stays}

pub or_right : (a b : Bool) → b ≡ true → (a || b) ≡ true
or_right true b e = refl
or_right false b e = e

pub or_left : (a b : Bool) → a ≡ true → (a || b) ≡ true
or_left true b e = refl
or_left false b e = absurd (false≢true e)

zero_said : (start : ℕ) (all : List Piece) (p : ℕ) → zero_by start all p ≡ said_by is_zero start all p
zero_said start [] p = refl
zero_said start (piece ∷ earlier) p = ap (λ (b : Bool). zero_in start (extents_in piece.contexts (content_of piece.item)) p || b) (zero_said start earlier p)

-- what is told as zero is said so
pub zero_is : {K : Type 0} (asks : Option (Request K)) (filings : List (Filing K)) (p : ℕ) → zero_told asks filings p ≡ said_of is_zero asks filings p
zero_is None filings p = refl
zero_is (Some asks) filings p = zero_said asks.offset (pieces filings) p

module _ {K : Type 0} where
  -- the event is that a command is asked
  pub record Issues (event : Event K) : Type 0 where
    pub command : Command K
    pub is : event ≡ Issue command

  pub issue_is : (event : Event K) → is_issue event ≡ true → Issues event
  issue_is (Issue command) e = record { command = command; is = refl }
  issue_is (Set setting) e = absurd (false≢true e)
  issue_is (StrictMode bits) e = absurd (false≢true e)
  issue_is Start e = absurd (false≢true e)
  issue_is (Opt option) e = absurd (false≢true e)
  issue_is Abort e = absurd (false≢true e)
  issue_is (Refuse command why) e = absurd (false≢true e)
  issue_is Disconnect e = absurd (false≢true e)
  issue_is (Wrote n) e = absurd (false≢true e)
  issue_is (Arrived bytes answers) e = absurd (false≢true e)
  issue_is (End answers) e = absurd (false≢true e)
  issue_is (LinkFailed answers) e = absurd (false≢true e)
  issue_is (Retire cookie) e = absurd (false≢true e)
  issue_is ClearLog e = absurd (false≢true e)
  issue_is Close e = absurd (false≢true e)

  none_some : (q : Request K) → None ≡ Some q → ⊥
  none_some q e = cc

  pub next_here : (before : History K) (command : Command K) (c : ℕ) → (asked before).issued + 1 ≡ c → request (Issue command ∷ before) c ≡ Some (commands.request_of (asked before).admitted command)
  next_here before command c e = ap (λ (b : Bool). if b then Some (commands.request_of (asked before).admitted command) else request before c) (eq-eqb ((asked before).issued + 1) c e)

  pub next_beside : (before : History K) (command : Command K) (c : ℕ) → (asked before).issued + 1 ≢ c → request (Issue command ∷ before) c ≡ request before c
  next_beside before command c d = ap (λ (b : Bool). if b then Some (commands.request_of (asked before).admitted command) else request before c) (ne_eqb ((asked before).issued + 1) c d)

  -- What was asked stays.
  pub asked_stays : (before : History K) (event : Event K) (c : ℕ) (q : Request K) → request before c ≡ Some q → request (event ∷ before) c ≡ Some q
  asked_stays before event c q is = go (is_issue event) refl
    where
      issued : (command : Command K) → ((asked before).issued + 1 ≡ c) ⊎ ((asked before).issued + 1 ≡ c → ⊥) → request (Issue command ∷ before) c ≡ Some q
      issued command (inl same) = absurd (none_some q (sym (request_past before ((asked before).issued + 1) (omega arith)) ∙ ap (request before) same ∙ is))
      issued command (inr differ) = next_beside before command c differ ∙ is

      go : (b : Bool) → is_issue event ≡ b → request (event ∷ before) c ≡ Some q
      go true e = let i = issue_is event e in subst (λ (x : Event K). request (x ∷ before) c ≡ Some q) (sym i.is) (issued i.command (cases_eq ((asked before).issued + 1) c))
      go false e = request_stays before event c e ∙ is

  -- What is over stays so.
  pub ended_more : (c : ℕ) (f : Filing K) (entries : List (Entry K)) → is_ended (own c entries) ≡ true → is_ended (own c (Filed f ∷ entries)) ≡ true
  ended_more c f entries e =
      elim (f.cookie == c) as (λ b. is_ended (if b then f ∷ own c entries else own c entries) ≡ true) [ true ↦ or_right (ends f.item) (is_ended (own c entries)) e | false ↦ e ]

  -- What was told as zero stays so.
  pub zero_stays : (before : History K) (event : Event K) (c p : ℕ) (q : Request K) → request before c ≡ Some q → zero_after before c p ≡ true → zero_after (event ∷ before) c p ≡ true
  zero_stays before event c p q is z =
      ap (λ a. zero_told a (own c (reading (event ∷ before)).known.entries) p) (asked_stays before event c q is)
      ∙ event_keeps before (λ entries. zero_by q.offset (pieces (own c entries)) p ≡ true) (λ item. Unit {0}) more (λ item. tt) (λ flight entries h. h) (λ entries h. h) event
      (sym (ap (λ a. zero_told a (own c (reading before).known.entries) p) is) ∙ z)
    where
      more : (asks : Request K) (k : ℕ) (item : Item) (contexts : List MetaContext) (answers : List Answer) (entries : List (Entry K)) → Unit {0} → request before k ≡ Some asks → is_ended (own k entries) ≡ false → zero_by q.offset (pieces (own c entries)) p ≡ true →
          zero_by q.offset (pieces (own c (Filed (filing_of asks k (own k entries) contexts item answers) ∷ entries))) p ≡ true
      more asks k item contexts answers entries any there going h =
          elim (k == c) as (λ b. zero_by q.offset (pieces (if b then filing_of asks k (own k entries) contexts item answers ∷ own c entries else own c entries)) p ≡ true)
          [ true ↦ or_right (zero_in q.offset (extents_in contexts (content_of item)) p) (zero_by q.offset (pieces (own c entries)) p) h | false ↦ h ]

  -- So does what was said of a position.
  pub said_stays : (test : Option ℕ → Bool) (before : History K) (event : Event K) (c p : ℕ) (q : Request K) → request before c ≡ Some q → said_after test before c p ≡ true → said_after test (event ∷ before) c p ≡ true
  said_stays test before event c p q is z =
      ap (λ a. said_of test a (own c (reading (event ∷ before)).known.entries) p) (asked_stays before event c q is)
      ∙ event_keeps before (λ entries. said_by test q.offset (pieces (own c entries)) p ≡ true) (λ item. Unit {0}) more (λ item. tt) (λ flight entries h. h) (λ entries h. h) event
      (sym (ap (λ a. said_of test a (own c (reading before).known.entries) p) is) ∙ z)
    where
      more : (asks : Request K) (k : ℕ) (item : Item) (contexts : List MetaContext) (answers : List Answer) (entries : List (Entry K)) → Unit {0} → request before k ≡ Some asks → is_ended (own k entries) ≡ false → said_by test q.offset (pieces (own c entries)) p ≡ true →
          said_by test q.offset (pieces (own c (Filed (filing_of asks k (own k entries) contexts item answers) ∷ entries))) p ≡ true
      more asks k item contexts answers entries any there going h =
          elim (k == c) as (λ b. said_by test q.offset (pieces (if b then filing_of asks k (own k entries) contexts item answers ∷ own c entries else own c entries)) p ≡ true)
          [ true ↦ or_right (said_in test q.offset (extents_in contexts (content_of item)) p) (said_by test q.offset (pieces (own c entries)) p) h | false ↦ h ]

  -- Nothing comes for a command that is done.

  waits_not : (q : Request K) (filings : List (Filing K)) (bytes : List ℕ) → outcome_of (Some q) filings ≡ Done bytes → is_ended filings ≡ false → ⊥
  waits_not q filings bytes e going = differ (sym (waits q filings going) ∙ e)
    where
      differ : Unfinished ≡ Done bytes → ⊥
      differ k = cc

  own_stays : (before : History K) (event : Event K) (c : ℕ) (q : Request K) (bytes : List ℕ) → request before c ≡ Some q → outcome_after before c ≡ Done bytes → own c (reading (event ∷ before)).known.entries ≡ own c (reading before).known.entries
  own_stays before event c q bytes is done =
      event_keeps before (λ entries. own c entries ≡ own c (reading before).known.entries) (λ item. Unit {0}) same (λ item. tt) (λ flight entries h. h) (λ entries h. h) event refl
    where
      done_is : outcome_of (Some q) (own c (reading before).known.entries) ≡ Done bytes
      done_is = sym (ap (λ a. outcome_of a (own c (reading before).known.entries)) is) ∙ done

      same : (asks : Request K) (k : ℕ) (item : Item) (contexts : List MetaContext) (answers : List Answer) (entries : List (Entry K)) → Unit {0} → request before k ≡ Some asks → is_ended (own k entries) ≡ false → own c entries ≡ own c (reading before).known.entries →
          own c (Filed (filing_of asks k (own k entries) contexts item answers) ∷ entries) ≡ own c (reading before).known.entries
      same asks k item contexts answers entries any there going h = go (cases_eq k c)
        where
          go : (k ≡ c) ⊎ (k ≡ c → ⊥) → own c (Filed (filing_of asks k (own k entries) contexts item answers) ∷ entries) ≡ own c (reading before).known.entries
          go (inl e) = absurd (waits_not q (own c (reading before).known.entries) bytes done_is (ap is_ended (sym h) ∙ ap (λ x. is_ended (own x entries)) (sym e) ∙ going))
          go (inr differ) = own_other c (filing_of asks k (own k entries) contexts item answers) entries differ ∙ h

  pub done_stays : (before : History K) (event : Event K) (c : ℕ) (q : Request K) → request before c ≡ Some q → IsDone (outcome_after before c) → IsDone (outcome_after (event ∷ before) c)
  done_stays before event c q is d = record {
    bytes = d.bytes;
    is = ap (λ a. outcome_of a (own c (reading (event ∷ before)).known.entries)) (asked_stays before event c q is)
        ∙ ap (λ l. outcome_of (Some q) l) (own_stays before event c q d.bytes is d.is)
        ∙ sym (ap (λ a. outcome_of a (own c (reading before).known.entries)) is)
        ∙ d.is;
  }

  -- A command that is done has ended.
  pub done_over : (before : History K) (c : ℕ) (q : Request K) → request before c ≡ Some q → IsDone (outcome_after before c) → is_ended (own c (reading before).known.entries) ≡ true
  done_over before c q is d = go (is_ended (own c (reading before).known.entries)) refl
    where
      go : (b : Bool) → is_ended (own c (reading before).known.entries) ≡ b → is_ended (own c (reading before).known.entries) ≡ true
      go true e = e
      go false e = absurd (waits_not q (own c (reading before).known.entries) d.bytes (sym (ap (λ a. outcome_of a (own c (reading before).known.entries)) is) ∙ d.is) e)

-- A command that is done was wholly written.
use Rattle.std.proofs.Common.{◌≡◌, ◌≢◌, ℕ, zero, suc, ◌+◌, ◌-◌, ◌≤◌, Bool, true, false, ◌||◌, List, [], ◌∷◌, ◌++◌, length, map, Option, Some, None, refl, ap, sym, subst, ◌∙◌, arith, ◌==◌, nat_le, nat_lt, ◌⊎◌, inl, inr, if◌then◌else◌}
use Rattle.std.proofs.lemmas.Bool.{cases_eq, false≢true, ne_eqb, eq-eqb, ltb-false, le-ltb, leb-true, le-leb}
use Rattle.lnbd_model.specs.declared.errors.TheConstants.{ENOTCONN}
use Rattle.lnbd_model.specs.declared.failure.Failure.{Failure}
use Rattle.lnbd_model.specs.declared.failure.Origin.TheVariants as from
use Rattle.lnbd_model.specs.declared.state.Cause.{Cause}
use Rattle.lnbd_model.specs.declared.state.Cause.TheVariants as cause
use Rattle.lnbd_stream.specs.Stream.{Held}
use Rattle.lnbd_stream.specs.Laws.{Lasts}
use Rattle.lnbd_stream.proofs.Stream.{feed_lasts}
use Rattle.lnbd_outcome.specs.Outcome.{Unfinished, Done, verdict, or_else, item_failure, lack_failure, failure, failure_of, bytes}
use Rattle.lnbd_outcome.specs.Pieces.{Query, Piece, is_completed}
use Rattle.lnbd_history.specs.declared.kinds.Phase.{Phase}
use Rattle.lnbd_history.specs.declared.kinds.Phase.TheVariants as phase
use Rattle.lnbd_history.specs.declared.kinds.Stage.{Stage}
use Rattle.lnbd_history.specs.declared.kinds.Stage.TheVariants.{Created, Open, Disconnecting, Aborting, Closed, Dead}
use Rattle.lnbd_history.specs.Agreement.{Turn, Replied, ByName, Opted, phase}
use Rattle.lnbd_history.specs.Agreement as turn
use Rattle.lnbd_history.specs.Arrivals.{Frame, Shown, Hello, OptionReply, ExportReply, Reply, Broken, Passed, Ignored, Waiting}
use Rattle.lnbd_history.specs.Commands.{Request, query_of}
use Rattle.lnbd_history.specs.Entries.{Item, Framed, Lost, Dropped, Filing, Entry, Filed, completes, own, is_ended}
use Rattle.lnbd_history.specs.Events.{Answer, History, Set, StrictMode, Start, Opt, Abort, Issue, Refuse, Disconnect, Wrote, Arrived, End, LinkFailed, Retire, ClearLog, Close}
use Rattle.lnbd_history.specs.History.{Known, asked, request, cookies, filing_of, agreed_contexts, file, file_under, file_all, in_flight, die, if_refused, turned, entered, sight, waiting_of, waited, rules, change, with_answers, ended_closing, ended_at, failed_at, flying, reading, is_extended, sent_by}
use Rattle.lnbd_history.specs.Outgoing.{Part, plain, client_flags, whole, one_if, command_parts, disconnect_part, abort_part}
use Rattle.lnbd_history.proofs.Flies.{frame_flies}
use Rattle.lnbd_asked.specs.Driven.{written}
use Rattle.lnbd_asked.specs.InStep.{silent_pieces}
use Rattle.lnbd_asked.specs.Transcript.{outcome_of}
use Rattle.lnbd_tracks.specs.Dealing.{DoneIsWritten}
use Rattle.lnbd_tracks.specs.Failing.{AnsweredIsWritten}
use Rattle.lnbd_tracks.proofs.Unfiled.{own_same, own_other}

-- Parts: as many commands are wholly written where more parts wait, and where more bytes went out.

no_less : (a b : Bool) (w x y : ℕ) → x ≤ y → (if a then 0 else if b then 0 else w + x) ≤ (if a then 0 else if b then 0 else w + y)
no_less true b w x y h = omega arith
no_less false true w x y h = omega arith
no_less false false w x y h = omega (arith, h)

with_parts : (ps qs : List Part) (n : ℕ) → whole ps n ≤ whole (ps ++ qs) n
with_parts [] qs n = omega arith
with_parts (p ∷ ps) qs n = no_less (n == 0) (nat_lt n (length p.bytes)) (one_if p.ends) (whole ps (n - length p.bytes)) (whole (ps ++ qs) (n - length p.bytes)) (with_parts ps qs (n - length p.bytes))

with_bytes : (ps : List Part) (n k : ℕ) → whole ps n ≤ whole ps (n + k)
with_bytes [] n k = omega arith
with_bytes (p ∷ ps) n k = go (n == 0) refl (nat_lt n (length p.bytes)) refl (with_bytes ps (n - length p.bytes) k)
  where
    go : (a : Bool) → (n == 0) ≡ a → (b : Bool) → nat_lt n (length p.bytes) ≡ b → whole ps (n - length p.bytes) ≤ whole ps (n - length p.bytes + k) →
        (if a then 0 else if b then 0 else one_if p.ends + whole ps (n - length p.bytes)) ≤ whole (p ∷ ps) (n + k)
    go true e b f ih = omega arith
    go false e true f ih = omega arith
    go false e false f ih =
        let some : n ≢ 0 = λ z. false≢true (sym e ∙ eq-eqb n 0 z) in
        let past = ltb-false n (length p.bytes) f in
        let all : whole (p ∷ ps) (n + k) ≡ one_if p.ends + whole ps (n - length p.bytes + k) =
        ap (λ (c : Bool). if c then 0 else if nat_lt (n + k) (length p.bytes) then 0 else one_if p.ends + whole ps (n + k - length p.bytes)) (ne_eqb (n + k) 0 (λ z. some (omega (arith, z))))
        ∙ ap (λ (c : Bool). if c then 0 else one_if p.ends + whole ps (n + k - length p.bytes)) (le-ltb (n + k) (length p.bytes) (omega (arith, past)))
        ∙ ap (λ (m : ℕ). one_if p.ends + whole ps m) (omega (arith, past)) in
        omega (arith, all, ih)

-- Frames.

abbrev is_frame : Item → Bool
is_frame (Framed content last) = true
is_frame Lost = false
is_frame Dropped = false

waiting_written : {K : Type 0} → (b e : Bool) (filed : List (Filing K)) (asks : Option (Request K)) (command : Waiting) → waiting_of b e filed asks ≡ Some command → b ≡ true
waiting_written true e filed asks command w = refl
waiting_written false e filed asks command w = absurd (cc)

none_of : (a b : Option Failure) → or_else a b ≡ None → (a ≡ None) × (b ≡ None)
none_of None b e = (refl, e)
none_of (Some failed) b e = absurd (cc)

-- the failure of a command that is lost
abbrev lost : Option Failure
lost = Some (record { origin = from.Lost; error = ENOTCONN })

-- What is done was completed, and has no failure.

verdict_done : (told : Option Failure) (held bytes : List ℕ) → verdict told held ≡ Done bytes → told ≡ None
verdict_done None held bytes e = refl
verdict_done (Some failed) held bytes e = absurd (cc)

record IsDoneBy (query : Query) (pieces : List Piece) : Type 0 where
  completed : is_completed pieces ≡ true
  none : failure query pieces ≡ None

done_by : (query : Query) (pieces : List Piece) (bytes_ : List ℕ) (b : Bool) → is_completed pieces ≡ b → (if b then verdict (failure query pieces) (bytes query pieces) else Unfinished) ≡ Done bytes_ → IsDoneBy query pieces
done_by query pieces bytes_ true e is = record { completed = e; none = verdict_done (failure query pieces) (bytes query pieces) bytes_ is }
done_by query pieces bytes_ false e is = absurd (cc)

module _ {K : Type 0} where
  abbrev has_frame : List (Filing K) → Bool
  has_frame [] = false
  has_frame (f ∷ earlier) = is_frame f.item || has_frame earlier

  -- each command that a frame came for is one of the first n
  record AreFramed (entries : List (Entry K)) (n : ℕ) : Type 0 where
    each : (c : ℕ) → has_frame (own c entries) ≡ true → c ≤ n

  more : (entries : List (Entry K)) (n m : ℕ) → n ≤ m → AreFramed entries n → AreFramed entries m
  more entries n m l a = record { each = λ c h. (let low = a.each c h in omega (arith, low, l)) }

  one_more : (entries : List (Entry K)) (f : Filing K) (n : ℕ) → (is_frame f.item ≡ true → f.cookie ≤ n) → AreFramed entries n → AreFramed (Filed f ∷ entries) n
  one_more entries f n low a = record { each = λ c. at c (cases_eq f.cookie c) }
    where
      here : (b : Bool) → is_frame f.item ≡ b → (b || has_frame (own f.cookie entries)) ≡ true → f.cookie ≤ n
      here true e h = low e
      here false e h = a.each f.cookie h

      at : (c : ℕ) → (f.cookie ≡ c) ⊎ (f.cookie ≡ c → ⊥) → has_frame (own c (Filed f ∷ entries)) ≡ true → c ≤ n
      at c (inl same) = subst (λ (x : ℕ). has_frame (own x (Filed f ∷ entries)) ≡ true → x ≤ n) same (λ h. here (is_frame f.item) refl (sym (ap has_frame (own_same f entries)) ∙ h))
      at c (inr other) = λ h. a.each c (sym (ap has_frame (own_other c f entries other)) ∙ h)

  under : (asks : Option (Request K)) (c : ℕ) (item : Item) (known : Known K) (n : ℕ) → (is_frame item ≡ true → c ≤ n) → AreFramed known.entries n → AreFramed (file_under asks c item known).entries n
  under None c item known n low a = a
  under (Some q) c item known n low a = one_more known.entries (filing_of q c (own c known.entries) (agreed_contexts known) item known.answers) n low a

  -- filing asks for nothing
  under_parts : (asks : Option (Request K)) (c : ℕ) (item : Item) (known : Known K) → (file_under asks c item known).parts ≡ known.parts
  under_parts None c item known = refl
  under_parts (Some q) c item known = refl

  module _ (before : History K) where
    IsWritten : Known K → Type 0
    IsWritten known = AreFramed known.entries (whole known.parts (asked before).wrote)

    one_parts : (b : Bool) (c : ℕ) (item : Item) (known : Known K) → (if b then file before c item known else known).parts ≡ known.parts
    one_parts true c item known = under_parts (request before c) c item known
    one_parts false c item known = refl

    all_parts : (item : Item) (list : List ℕ) (known : Known K) → (file_all before item list known).parts ≡ known.parts
    all_parts item [] known = refl
    all_parts item (c ∷ list) known = all_parts item list (if in_flight before known.entries c then file before c item known else known) ∙ one_parts (in_flight before known.entries c) c item known

    one_framed : (b : Bool) (c : ℕ) (item : Item) (known : Known K) (n : ℕ) → is_frame item ≡ false → AreFramed known.entries n → AreFramed (if b then file before c item known else known).entries n
    one_framed true c item known n quiet a = under (request before c) c item known n (λ e. absurd (false≢true (sym quiet ∙ e))) a
    one_framed false c item known n quiet a = a

    all_framed : (item : Item) (list : List ℕ) (known : Known K) (n : ℕ) → is_frame item ≡ false → AreFramed known.entries n → AreFramed (file_all before item list known).entries n
    all_framed item [] known n quiet a = a
    all_framed item (c ∷ list) known n quiet a =
        all_framed item list (if in_flight before known.entries c then file before c item known else known) n quiet (one_framed (in_flight before known.entries c) c item known n quiet a)

    all_written : (item : Item) (list : List ℕ) (known : Known K) → is_frame item ≡ false → IsWritten known → IsWritten (file_all before item list known)
    unfolding IsWritten
    all_written item list known quiet a =
        subst (λ ps. AreFramed (file_all before item list known).entries (whole ps (asked before).wrote)) (sym (all_parts item list known)) (all_framed item list known (whole known.parts (asked before).wrote) quiet a)

    die_written : (reason : Cause) (known : Known K) → IsWritten known → IsWritten (die before reason known)
    unfolding IsWritten
    die_written reason known a = all_written Lost (cookies (asked before).issued) (record known { stage = Dead reason }) refl a

    -- more is asked
    asking_written : (known : Known K) (parts : List Part) → IsWritten known → AreFramed known.entries (whole (known.parts ++ parts) (asked before).wrote)
    unfolding IsWritten
    asking_written known parts a = more known.entries (whole known.parts (asked before).wrote) (whole (known.parts ++ parts) (asked before).wrote) (with_parts known.parts parts (asked before).wrote) a

    turned_written : (one : Turn) (known : Known K) → IsWritten known → IsWritten (turned one known)
    unfolding IsWritten
    turned_written one known a = asking_written known (map plain (sent_by one known.turns)) a

    refused_written : (p : Phase) (known : Known K) → IsWritten known → IsWritten (if_refused p before known)
    refused_written (phase.Refused code) known a = die_written (cause.Refused 7 code) known a
    refused_written (phase.Asked option) known a = a
    refused_written phase.Greeting known a = a
    refused_written phase.AskedByName known a = a
    refused_written phase.OptMode known a = a
    refused_written phase.Ready known a = a

    entered_written : (known : Known K) (shown : Shown) → ((frame : Frame) → shown ≡ Reply frame → nat_le frame.cookie (whole known.parts (asked before).wrote) ≡ true) → IsWritten known → IsWritten (entered before shown known)
    unfolding IsWritten
    entered_written known (Hello flags) low a =
        turned_written turn.Hello (record known { flags = flags; parts = known.parts ++ plain (client_flags flags) ∷ [] }) (asking_written known (plain (client_flags flags) ∷ []) a)
    entered_written known (OptionReply told) low a = refused_written (phase (Replied told ∷ known.turns)) (turned (Replied told) known) (turned_written (Replied told) known a)
    entered_written known (ExportReply size flags) low a = turned_written (ByName size flags) known a
    entered_written known (Reply frame) low a =
        subst (λ ps. AreFramed (file before frame.cookie (Framed frame.content frame.last) known).entries (whole ps (asked before).wrote)) (sym (under_parts (request before frame.cookie) frame.cookie (Framed frame.content frame.last) known))
        (under (request before frame.cookie) frame.cookie (Framed frame.content frame.last) known (whole known.parts (asked before).wrote) (λ e. leb-true frame.cookie (whole known.parts (asked before).wrote) (low frame refl)) a)
    entered_written known (Broken breach) low a = die_written (cause.Broke breach) known a
    entered_written known Passed low a = a
    entered_written known Ignored low a = a

    lasts : Lasts (rules before) IsWritten
    lasts known bytes shown a e = entered_written known shown
        (λ frame is. frame_flies (λ c. nat_le c (whole known.parts (asked before).wrote)) (waited before known)
        (λ c command w. waiting_written (nat_le c (whole known.parts (asked before).wrote)) (is_ended (own c known.entries)) (own c known.entries) (request before c) command w)
        known.stage (sight known) bytes frame (e ∙ ap (λ x. Some x) is)) a

    closing_written : (n : ℕ) (known : Known K) → IsWritten known → IsWritten (ended_closing n before known)
    unfolding IsWritten
    closing_written zero known a = a
    closing_written (suc n) known a = die_written cause.Ended known a

    end_written : (s : Stage) (held : Held (Known K)) → IsWritten held.known → IsWritten (ended_at s before held).known
    end_written Open held a = die_written cause.Ended held.known a
    end_written Disconnecting held a = closing_written (flying before held.known.entries (asked before).issued) held.known a
    end_written Aborting held a = closing_written (flying before held.known.entries (asked before).issued) held.known a
    end_written Created held a = a
    end_written Closed held a = a
    end_written (Dead reason) held a = a

    fail_written : (s : Stage) (held : Held (Known K)) → IsWritten held.known → IsWritten (failed_at s before held).known
    fail_written Open held a = die_written cause.LinkFailed held.known a
    fail_written Disconnecting held a = die_written cause.LinkFailed held.known a
    fail_written Aborting held a = die_written cause.LinkFailed held.known a
    fail_written Created held a = a
    fail_written Closed held a = a
    fail_written (Dead reason) held a = a

    given_written : (answers : List Answer) (known : Known K) → IsWritten known → IsWritten (with_answers answers known)
    unfolding IsWritten
    given_written answers known a = a

    arrived_written : (bytes : List ℕ) (answers : List Answer) → IsWritten (reading before).known → IsWritten (reading (Arrived bytes answers ∷ before)).known
    arrived_written bytes answers a = feed_lasts (rules before) IsWritten lasts (change (with_answers answers) (reading before)) bytes (given_written answers (reading before).known a)

  all_framed_written : (history : History K) → AreFramed (reading history).known.entries (written history)
  unfolding IsWritten
  all_framed_written [] = record { each = λ c h. absurd (false≢true h) }
  all_framed_written (Set setting ∷ before) = turned_written before (turn.Set setting) (reading before).known (all_framed_written before)
  all_framed_written (StrictMode bits ∷ before) = all_framed_written before
  all_framed_written (Start ∷ before) = all_framed_written before
  all_framed_written (Opt option ∷ before) = turned_written before (Opted option) (reading before).known (all_framed_written before)
  all_framed_written (Abort ∷ before) = asking_written before (reading before).known (abort_part ∷ []) (all_framed_written before)
  all_framed_written (Issue command ∷ before) = asking_written before (reading before).known (command_parts (is_extended (reading before).known) ((asked before).issued + 1) command) (all_framed_written before)
  all_framed_written (Refuse command why ∷ before) = record { each = (all_framed_written before).each }
  all_framed_written (Disconnect ∷ before) = asking_written before (reading before).known (disconnect_part (is_extended (reading before).known) ∷ []) (all_framed_written before)
  all_framed_written (Wrote n ∷ before) =
      more (reading before).known.entries (written before) (whole (reading before).known.parts ((asked before).wrote + n)) (with_bytes (reading before).known.parts (asked before).wrote n) (all_framed_written before)
  all_framed_written (Arrived bytes answers ∷ before) = arrived_written before bytes answers (all_framed_written before)
  all_framed_written (End answers ∷ before) = end_written before (reading before).known.stage (change (with_answers answers) (reading before)) (all_framed_written before)
  all_framed_written (LinkFailed answers ∷ before) = fail_written before (reading before).known.stage (change (with_answers answers) (reading before)) (all_framed_written before)
  all_framed_written (Retire cookie ∷ before) = all_framed_written before
  all_framed_written (ClearLog ∷ before) = record { each = (all_framed_written before).each }
  all_framed_written (Close ∷ before) = all_written before Dropped (cookies (asked before).issued) (record (reading before).known { stage = Closed; answers = [] }) refl (all_framed_written before)

  -- What is done has a frame.

  framed : (query : Query) (filings : List (Filing K)) → is_completed (silent_pieces filings) ≡ true → failure query (silent_pieces filings) ≡ None → has_frame filings ≡ true
  framed query [] c n = absurd (false≢true c)
  framed query (f ∷ earlier) c n = go f.item c (none_of _ _ (none_of _ _ (none_of _ _ n).0).0) (framed query earlier)
    where
      go : (item : Item) → (completes item || is_completed (silent_pieces earlier)) ≡ true → (failure query (silent_pieces earlier) ≡ None) × (item_failure query (silent_pieces earlier) f.contexts item ≡ None) →
          (is_completed (silent_pieces earlier) ≡ true → failure query (silent_pieces earlier) ≡ None → has_frame earlier ≡ true) → (is_frame item || has_frame earlier) ≡ true
      go (Framed content last) d m ih = refl
      go Lost d m ih = let bad : lost ≡ None = m.1 in absurd (cc)
      go Dropped d m ih = ih d m.0

  comes_done : (asks : Option (Request K)) (filings : List (Filing K)) (bytes_ : List ℕ) → outcome_of asks filings ≡ Done bytes_ → has_frame filings ≡ true
  comes_done None filings bytes_ e = absurd (cc)
  comes_done (Some q) filings bytes_ e = let d = done_by (query_of q) (silent_pieces filings) bytes_ (is_completed (silent_pieces filings)) refl e in framed (query_of q) filings d.completed d.none

  pub done_is_written : DoneIsWritten K
  done_is_written history cookie bytes_ e =
      le-leb cookie (written history) ((all_framed_written history).each cookie (comes_done (request history cookie) (own cookie (reading history).known.entries) bytes_ e))

  -- What failed otherwise than with its connection has a frame, too.

  framed_failed : (query : Query) (filings : List (Filing K)) (why : Failure) → failure query (silent_pieces filings) ≡ Some why → why.origin ≢ from.Lost → has_frame filings ≡ true
  framed_failed query [] why e other = absurd (cc)
  framed_failed query (f ∷ earlier) why e other = go f.item (failure query (silent_pieces earlier)) refl e (λ before. framed_failed query earlier why before other)
    where
      go : (item : Item) (before : Option Failure) → failure query (silent_pieces earlier) ≡ before →
          or_else (or_else (or_else before (item_failure query (silent_pieces earlier) f.contexts item)) None) (lack_failure query (silent_pieces earlier) (record { item = item; contexts = f.contexts; heard = 0 })) ≡ Some why →
          (failure query (silent_pieces earlier) ≡ Some why → has_frame earlier ≡ true) → (is_frame item || has_frame earlier) ≡ true
      go (Framed content last) before is k ih = refl
      go Lost (Some first) is k ih = ih (is ∙ k)
      go Lost None is k ih = let failed : lost ≡ Some why = k in absurd (other (cc))
      go Dropped (Some first) is k ih = ih (is ∙ k)
      go Dropped None is k ih = absurd (cc)

  comes_framed : (asks : Option (Request K)) (filings : List (Filing K)) (why : Failure) → failure_of (outcome_of asks filings) ≡ Some why → why.origin ≢ from.Lost → has_frame filings ≡ true
  comes_framed None filings why e other = absurd (cc)
  comes_framed (Some q) filings why e other = go (is_completed (silent_pieces filings)) (failure (query_of q) (silent_pieces filings)) refl e
    where
      go : (b : Bool) (failed : Option Failure) → failure (query_of q) (silent_pieces filings) ≡ failed → failure_of (if b then verdict failed (bytes (query_of q) (silent_pieces filings)) else Unfinished) ≡ Some why → has_frame filings ≡ true
      go true (Some first) is k = framed_failed (query_of q) filings why (is ∙ k) other
      go true None is k = absurd (cc)
      go false failed is k = absurd (cc)

  pub answered_is_written : AnsweredIsWritten K
  answered_is_written history cookie why e other =
      le-leb cookie (written history) ((all_framed_written history).each cookie (comes_framed (request history cookie) (own cookie (reading history).known.entries) why e other))

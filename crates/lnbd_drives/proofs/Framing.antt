-- A frame is filed under a command that was wholly written, and so a command that is done was.
use Rattle.std.proofs.Common.{◌≡◌, ◌==◌, ℕ, zero, suc, ◌+◌, ◌-◌, ◌≤◌, Bool, true, false, ◌||◌, List, [], ◌∷◌, ◌++◌, length, map, Option, Some, None, arith, nat_le, nat_lt, refl, ap, sym, subst, ◌∙◌, if◌then◌else◌}
use Rattle.std.proofs.lemmas.Bool.{false≢true, eqb-true, leb-true, ltb-false, le-ltb, ne_eqb}
use Rattle.lnbd_model.specs.declared.errors.TheConstants.{ENOTCONN}
use Rattle.lnbd_model.specs.declared.failure.Failure.{Failure}
use Rattle.lnbd_model.specs.declared.failure.Origin.{Origin}
use Rattle.lnbd_model.specs.declared.failure.Origin.TheVariants as from
use Rattle.lnbd_model.specs.declared.state.Cause.{Cause}
use Rattle.lnbd_model.specs.declared.state.Cause.TheVariants as cause
use Rattle.lnbd_records.specs.Options.{opt_go}
use Rattle.lnbd_stream.specs.Stream.{Held}
use Rattle.lnbd_stream.specs.Laws.{Lasts}
use Rattle.lnbd_stream.proofs.Stream.{feed_lasts}
use Rattle.lnbd_outcome.specs.Outcome.{Unfinished, Failed, Done, failing, or_else, item_failure, failure, bytes, verdict, outcome}
use Rattle.lnbd_outcome.specs.Pieces.{Query, completes, is_completed}
use Rattle.lnbd_history.specs.declared.kinds.Phase.{Phase}
use Rattle.lnbd_history.specs.declared.kinds.Phase.TheVariants.{Greeting, Asked, AskedByName, OptMode, Ready, Refused}
use Rattle.lnbd_history.specs.declared.kinds.Stage.{Stage}
use Rattle.lnbd_history.specs.declared.kinds.Stage.TheVariants.{Created, Open, Disconnecting, Aborting, Closed, Dead}
use Rattle.lnbd_history.specs.Agreement.{Replied, ByName, Opted, phase}
use Rattle.lnbd_history.specs.Agreement as turn
use Rattle.lnbd_history.specs.Arrivals.{Frame, Waiting, Hello, OptionReply, ExportReply, Reply, Broken, Passed, Ignored}
use Rattle.lnbd_history.specs.Commands.{Request}
use Rattle.lnbd_history.specs.Entries.{Item, Framed, Lost, Dropped, Filing, Entry, Filed, Freed, Cleared, own, is_ended, heard_error, piece_of, pieces}
use Rattle.lnbd_history.specs.Events.{Event, History, StrictMode, Start, Opt, Abort, Issue, Refuse, Disconnect, Wrote, Arrived, End, LinkFailed, Retire, ClearLog, Close}
use Rattle.lnbd_history.specs.Events as event
use Rattle.lnbd_history.specs.History.{Known, asked, request, rules, sight, waiting_of, waited, file, file_under, file_all, in_flight, die, turned, if_refused, sent_by, is_extended, cookies, flying, ended_at, failed_at, ended_closing, change, with_answers, reading}
use Rattle.lnbd_history.specs.Outgoing.{Part, plain, client_flags, command_parts, disconnect_part, abort_part, one_if, whole}
use Rattle.lnbd_history.proofs.Flies.{frame_flies}
use Rattle.lnbd_asked.specs.Transcript.{silent}
use Rattle.lnbd_asked.proofs.Match.{file_still}
use Rattle.lnbd_drives.proofs.Keeping.{Keeps, dies_keep, closed_keep, refused_keep, ended_keep, failed_keep}

-- What was wholly written stays so.

below : (a b : Bool) (x y : ℕ) → x ≤ y → (if a then 0 else if b then 0 else x) ≤ (if a then 0 else if b then 0 else y)
below true b x y less = omega arith
below false true x y less = omega arith
below false false x y less = less

-- where more is asked
whole_asked : (parts more : List Part) (n : ℕ) → whole parts n ≤ whole (parts ++ more) n
whole_asked [] more n = omega arith
whole_asked (part ∷ parts) more n =
    let rest = whole_asked parts more (n - length part.bytes) in
    below (n == 0) (nat_lt n (length part.bytes)) (one_if part.ends + whole parts (n - length part.bytes)) (one_if part.ends + whole (parts ++ more) (n - length part.bytes)) (omega (arith, rest))

-- where more goes out
whole_gone : (parts : List Part) (n k : ℕ) → whole parts n ≤ whole parts (n + k)
whole_gone [] n k = omega arith
whole_gone (part ∷ parts) n k = go (n == 0) refl (nat_lt n (length part.bytes)) refl (whole_gone parts (n - length part.bytes) k)
  where
    later : (n == 0) ≡ false → nat_lt n (length part.bytes) ≡ false → whole (part ∷ parts) (n + k) ≡ one_if part.ends + whole parts (n - length part.bytes + k)
    later e f =
        let some : (n + k == 0) ≡ false = not_zero e in
        let more : nat_lt (n + k) (length part.bytes) ≡ false = let l = ltb-false n (length part.bytes) f in le-ltb (n + k) (length part.bytes) (omega (arith, l)) in
        let same : n + k - length part.bytes ≡ n - length part.bytes + k = let l = ltb-false n (length part.bytes) f in omega (arith, l) in
        ap (λ (b : Bool). if b then 0 else if nat_lt (n + k) (length part.bytes) then 0 else one_if part.ends + whole parts (n + k - length part.bytes)) some
        ∙ ap (λ (b : Bool). if b then 0 else one_if part.ends + whole parts (n + k - length part.bytes)) more
        ∙ ap (λ m. one_if part.ends + whole parts m) same
      where
        not_zero : (n == 0) ≡ false → (n + k == 0) ≡ false
        not_zero e = ne_eqb (n + k) 0 (λ z. is_zero (sum_zero z))
          where
            sum_zero : n + k ≡ 0 → n ≡ 0
            sum_zero z = omega (arith, z)

            is_zero : n ≡ 0 → ⊥
            is_zero z = false≢true (sym e ∙ ap (λ m. m == 0) z)

    go : (a : Bool) → (n == 0) ≡ a → (b : Bool) → nat_lt n (length part.bytes) ≡ b → whole parts (n - length part.bytes) ≤ whole parts (n - length part.bytes + k) →
        (if a then 0 else if b then 0 else one_if part.ends + whole parts (n - length part.bytes)) ≤ whole (part ∷ parts) (n + k)
    go true e b f rest = omega arith
    go false e true f rest = omega arith
    go false e false f rest = let l = later e f in omega (arith, l, rest)

-- Failures.

or_none : (a b : Option Failure) → or_else a b ≡ None → (a ≡ None) × (b ≡ None)
or_none None b e = (refl, e)
or_none (Some failed) b e = absurd (some_none failed e)
  where
    some_none : (x : Failure) → Some x ≡ None → ⊥
    some_none x e = cc

failing_none : (origin : Origin) (n : ℕ) → failing origin n ≡ None → n ≡ 0
failing_none origin n e = go (n == 0) refl e
  where
    go : (b : Bool) → (n == 0) ≡ b → if◌then◌else◌ {A = Option Failure} b None (Some (record { origin = origin; error = n })) ≡ None → n ≡ 0
    go true is e = eqb-true n 0 is
    go false is e = absurd (some_none (record { origin = origin; error = n }) e)
      where
        some_none : (x : Failure) → Some x ≡ None → ⊥
        some_none x e = cc

lost_fails : failing from.Lost ENOTCONN ≡ None → ⊥
lost_fails e = let z = failing_none from.Lost ENOTCONN e in omega (arith, z)

abbrev is_framed : Item → Bool
is_framed (Framed content last) = true
is_framed Lost = false
is_framed Dropped = false

module _ {K : Type 0} where
  -- a frame is filed only under the first n commands
  abbrev AreLow : ℕ → List (Entry K) → Type 0
  AreLow n [] = Unit {0}
  AreLow n (Filed filing ∷ earlier) = (is_framed filing.item ≡ true → filing.cookie ≤ n) × AreLow n earlier
  AreLow n (Freed flight ∷ earlier) = AreLow n earlier
  AreLow n (Cleared ∷ earlier) = AreLow n earlier

  low_more : (n m : ℕ) (entries : List (Entry K)) → n ≤ m → AreLow n entries → AreLow m entries
  low_more n m [] less low = tt
  low_more n m (Filed filing ∷ earlier) less low = (λ framed. let l = low.0 framed in omega (arith, l, less), low_more n m earlier less low.1)
  low_more n m (Freed flight ∷ earlier) less low = low_more n m earlier less low
  low_more n m (Cleared ∷ earlier) less low = low_more n m earlier less low

  file_low : (n : ℕ) (asks : Option (Request K)) (cookie : ℕ) (item : Item) (known : Known K) → (is_framed item ≡ true → cookie ≤ n) → AreLow n known.entries → AreLow n (file_under asks cookie item known).entries
  file_low n None cookie item known new low = low
  file_low n (Some asks) cookie item known new low = (new, low)

  all_low : (n : ℕ) (before : History K) (item : Item) (list : List ℕ) (known : Known K) → is_framed item ≡ false → AreLow n known.entries → AreLow n (file_all before item list known).entries
  all_low n before item [] known bare low = low
  all_low n before item (cookie ∷ list) known bare low = all_low n before item list (if in_flight before known.entries cookie then file before cookie item known else known) bare (step (in_flight before known.entries cookie))
    where
      step : (b : Bool) → AreLow n (if b then file before cookie item known else known).entries
      step true = file_low n (request before cookie) cookie item known (λ framed. absurd (false≢true (sym bare ∙ framed))) low
      step false = low

  dies_low : (n : ℕ) (before : History K) (why : Cause) (known : Known K) → AreLow n known.entries → AreLow n (die before why known).entries
  dies_low n before why known low = all_low n before Lost (cookies (asked before).issued) (record known { stage = Dead why }) refl low

  refused_low : (n : ℕ) (before : History K) (p : Phase) (known : Known K) → AreLow n known.entries → AreLow n (if_refused p before known).entries
  refused_low n before Greeting known low = low
  refused_low n before (Asked option) known low = low
  refused_low n before AskedByName known low = low
  refused_low n before OptMode known low = low
  refused_low n before Ready known low = low
  refused_low n before (Refused code) known low = dies_low n before (cause.Refused opt_go code) known low

  closing_low : (n m : ℕ) (before : History K) (known : Known K) → AreLow n known.entries → AreLow n (ended_closing m before known).entries
  closing_low n zero before known low = low
  closing_low n (suc m) before known low = dies_low n before cause.Ended known low

  ended_low : (n : ℕ) (before : History K) (stage : Stage) (held : Held (Known K)) → AreLow n held.known.entries → AreLow n (ended_at stage before held).known.entries
  ended_low n before Created held low = low
  ended_low n before Open held low = dies_low n before cause.Ended held.known low
  ended_low n before Disconnecting held low = closing_low n (flying before held.known.entries (asked before).issued) before held.known low
  ended_low n before Aborting held low = closing_low n (flying before held.known.entries (asked before).issued) before held.known low
  ended_low n before Closed held low = low
  ended_low n before (Dead why) held low = low

  failed_low : (n : ℕ) (before : History K) (stage : Stage) (held : Held (Known K)) → AreLow n held.known.entries → AreLow n (failed_at stage before held).known.entries
  failed_low n before Created held low = low
  failed_low n before Open held low = dies_low n before cause.LinkFailed held.known low
  failed_low n before Disconnecting held low = dies_low n before cause.LinkFailed held.known low
  failed_low n before Aborting held low = dies_low n before cause.LinkFailed held.known low
  failed_low n before Closed held low = low
  failed_low n before (Dead why) held low = low

  -- Frames come only for commands that are wholly written.

  waited_low : (b : Bool) (ended : Bool) (filed : List (Filing K)) (asks : Option (Request K)) (command : Waiting) → waiting_of b ended filed asks ≡ Some command → b ≡ true
  waited_low true ended filed asks command is = refl
  waited_low false ended filed asks command is = absurd (none_some command is)
    where
      none_some : (x : Waiting) → None ≡ Some x → ⊥
      none_some x e = cc

  frame_low : (before : History K) (known : Known K) (read : List ℕ) (frame : Frame) → (rules before).shows known read ≡ Some (Reply frame) → frame.cookie ≤ whole known.parts (asked before).wrote
  frame_low before known read frame e =
      leb-true frame.cookie (whole known.parts (asked before).wrote) (frame_flies (λ c. nat_le c (whole known.parts (asked before).wrote)) (waited before known)
      (λ c command is. waited_low (nat_le c (whole known.parts (asked before).wrote)) (is_ended (own c known.entries)) (own c known.entries) (request before c) command is) known.stage (sight known) read frame e)

  -- Each frame is filed under a command that is wholly written.

  Low : ℕ → Known K → Type 0
  Low wrote known = AreLow (whole known.parts wrote) known.entries

  -- with the same parts
  kept_low : (wrote : ℕ) (known later : Known K) → Keeps known later → AreLow (whole known.parts wrote) later.entries → Low wrote later
  unfolding Low
  kept_low wrote known later k low = subst (λ (ps : List Part). AreLow (whole ps wrote) later.entries) (sym k.parts) low

  -- with more parts
  more_low : (wrote : ℕ) (parts more : List Part) (entries : List (Entry K)) → AreLow (whole parts wrote) entries → AreLow (whole (parts ++ more) wrote) entries
  more_low wrote parts more entries low = low_more (whole parts wrote) (whole (parts ++ more) wrote) entries (whole_asked parts more wrote) low

  low_lasts : (before : History K) → Lasts (rules before) (Low (asked before).wrote)
  unfolding Low
  low_lasts before known read (Hello flags) low e =
      more_low (asked before).wrote (known.parts ++ plain (client_flags flags) ∷ []) (map plain (sent_by turn.Hello known.turns)) known.entries (more_low (asked before).wrote known.parts (plain (client_flags flags) ∷ []) known.entries low)
  low_lasts before known read (OptionReply told) low e =
      let later = turned (Replied told) known in
      kept_low (asked before).wrote later (if_refused (phase (Replied told ∷ known.turns)) before later) (refused_keep before (phase (Replied told ∷ known.turns)) later)
      (refused_low (whole later.parts (asked before).wrote) before (phase (Replied told ∷ known.turns)) later (more_low (asked before).wrote known.parts (map plain (sent_by (Replied told) known.turns)) known.entries low))
  low_lasts before known read (ExportReply size flags) low e = more_low (asked before).wrote known.parts (map plain (sent_by (ByName size flags) known.turns)) known.entries low
  low_lasts before known read (Reply frame) low e =
      subst (λ (ps : List Part). AreLow (whole ps (asked before).wrote) (file before frame.cookie (Framed frame.content frame.last) known).entries) (sym (file_still (request before frame.cookie) frame.cookie (Framed frame.content frame.last) known).parts)
      (file_low (whole known.parts (asked before).wrote) (request before frame.cookie) frame.cookie (Framed frame.content frame.last) known (λ framed. frame_low before known read frame e) low)
  low_lasts before known read (Broken breach) low e =
      kept_low (asked before).wrote known (die before (cause.Broke breach) known) (dies_keep before (cause.Broke breach) known) (dies_low (whole known.parts (asked before).wrote) before (cause.Broke breach) known low)
  low_lasts before known read Passed low e = low
  low_lasts before known read Ignored low e = low

  low_after : (history : History K) → Low (asked history).wrote (reading history).known
  unfolding Low
  low_after [] = tt
  low_after (event.Set setting ∷ before) = more_low (asked before).wrote (reading before).known.parts (map plain (sent_by (turn.Set setting) (reading before).known.turns)) (reading before).known.entries (low_after before)
  low_after (StrictMode bits ∷ before) = low_after before
  low_after (Start ∷ before) = low_after before
  low_after (Opt option ∷ before) = more_low (asked before).wrote (reading before).known.parts (map plain (sent_by (Opted option) (reading before).known.turns)) (reading before).known.entries (low_after before)
  low_after (Abort ∷ before) = more_low (asked before).wrote (reading before).known.parts (abort_part ∷ []) (reading before).known.entries (low_after before)
  low_after (Issue command ∷ before) =
      more_low (asked before).wrote (reading before).known.parts (command_parts (is_extended (reading before).known) ((asked before).issued + 1) command) (reading before).known.entries (low_after before)
  low_after (Refuse command why ∷ before) = low_after before
  low_after (Disconnect ∷ before) = more_low (asked before).wrote (reading before).known.parts (disconnect_part (is_extended (reading before).known) ∷ []) (reading before).known.entries (low_after before)
  low_after (Wrote n ∷ before) =
      low_more (whole (reading before).known.parts (asked before).wrote) (whole (reading before).known.parts ((asked before).wrote + n)) (reading before).known.entries (whole_gone (reading before).known.parts (asked before).wrote n) (low_after before)
  low_after (Arrived read answers ∷ before) = feed_lasts (rules before) (Low (asked before).wrote) (low_lasts before) (change (with_answers answers) (reading before)) read (low_after before)
  low_after (End answers ∷ before) =
      let held = change (with_answers answers) (reading before) in
      kept_low (asked before).wrote held.known (ended_at (reading before).known.stage before held).known (ended_keep before (reading before).known.stage held)
      (ended_low (whole held.known.parts (asked before).wrote) before (reading before).known.stage held (low_after before))
  low_after (LinkFailed answers ∷ before) =
      let held = change (with_answers answers) (reading before) in
      kept_low (asked before).wrote held.known (failed_at (reading before).known.stage before held).known (failed_keep before (reading before).known.stage held)
      (failed_low (whole held.known.parts (asked before).wrote) before (reading before).known.stage held (low_after before))
  low_after (Retire cookie ∷ before) = low_after before
  low_after (ClearLog ∷ before) = low_after before
  low_after (Close ∷ before) =
      let known = with_answers [] (reading before).known in
      kept_low (asked before).wrote known (reading (Close ∷ before)).known (closed_keep before known)
      (all_low (whole known.parts (asked before).wrote) before Dropped (cookies (asked before).issued) (record known { stage = Closed }) refl (low_after before))

  -- some frame came
  abbrev has_frame : List (Filing K) → Bool
  has_frame [] = false
  has_frame (filing ∷ earlier) = is_framed filing.item || has_frame earlier

  framed_low : (n cookie : ℕ) (entries : List (Entry K)) → AreLow n entries → has_frame (own cookie entries) ≡ true → cookie ≤ n
  framed_low n cookie [] low has = absurd (false≢true has)
  framed_low n cookie (Filed filing ∷ earlier) low has = go (filing.cookie == cookie) refl has (framed_low n cookie earlier low.1)
    where
      first : (b : Bool) → is_framed filing.item ≡ b → (b || has_frame (own cookie earlier)) ≡ true → filing.cookie ≡ cookie → (has_frame (own cookie earlier) ≡ true → cookie ≤ n) → cookie ≤ n
      first true is has same rest = let l = low.0 is in omega (arith, l, same)
      first false is has same rest = rest has

      go : (b : Bool) → (filing.cookie == cookie) ≡ b → has_frame (if b then filing ∷ own cookie earlier else own cookie earlier) ≡ true → (has_frame (own cookie earlier) ≡ true → cookie ≤ n) → cookie ≤ n
      go true is has rest = first (is_framed filing.item) refl has (eqb-true filing.cookie cookie is) rest
      go false is has rest = rest has
  framed_low n cookie (Freed flight ∷ earlier) low has = framed_low n cookie earlier low has
  framed_low n cookie (Cleared ∷ earlier) low has = framed_low n cookie earlier low has

  -- A command that is completed without failure has a frame, and no callback failed it.

  record Sound (query : Query) (filings : List (Filing K)) : Type 0 where
    completed : is_completed (pieces filings) ≡ true
    unfailed : failure query (pieces filings) ≡ None

  sound : (query : Query) (filings : List (Filing K)) (kept : List ℕ) → outcome query (pieces filings) ≡ Done kept → Sound query filings
  sound query filings kept e = go (is_completed (pieces filings)) refl (failure query (pieces filings)) refl e
    where
      unfinished : Unfinished ≡ Done kept → ⊥
      unfinished e = cc

      failed : (f : Failure) (b : List ℕ) → Failed f b ≡ Done kept → ⊥
      failed f b e = cc

      go : (b : Bool) → is_completed (pieces filings) ≡ b → (f : Option Failure) → failure query (pieces filings) ≡ f → (if b then verdict f (bytes query (pieces filings)) else Unfinished) ≡ Done kept → Sound query filings
      go true c None f e = record { completed = c; unfailed = f }
      go true c (Some x) f e = absurd (failed x (bytes query (pieces filings)) e)
      go false c f g e = absurd (unfinished e)

  sound_frame : (query : Query) (filings : List (Filing K)) → is_completed (pieces filings) ≡ true → failure query (pieces filings) ≡ None → has_frame filings ≡ true
  sound_frame query [] c f = absurd (false≢true c)
  sound_frame query (filing ∷ earlier) c f =
      let first = or_none _ _ f in
      let second = or_none _ _ first.0 in
      let third = or_none _ _ second.0 in
      go filing.item c third.1 (λ c. sound_frame query earlier c third.0)
    where
      go : (item : Item) → (completes item || is_completed (pieces earlier)) ≡ true → item_failure query (pieces earlier) filing.contexts item ≡ None → (is_completed (pieces earlier) ≡ true → has_frame earlier ≡ true) → (is_framed item || has_frame earlier) ≡ true
      go (Framed content last) c f rest = refl
      go Lost c f rest = absurd (lost_fails f)
      go Dropped c f rest = rest c

  sound_silent : (query : Query) (filings : List (Filing K)) → failure query (pieces filings) ≡ None → pieces (map silent filings) ≡ pieces filings
  sound_silent query [] f = refl
  sound_silent query (filing ∷ earlier) f =
      let first = or_none _ _ f in
      let second = or_none _ _ first.0 in
      let third = or_none _ _ second.0 in
      let unheard = failing_none from.Callback (heard_error filing.heard) second.1 in
      ap (λ n. record { item = filing.item; contexts = filing.contexts; heard = n } ∷ pieces (map silent earlier)) (sym unheard) ∙ ap (λ ps. piece_of filing ∷ ps) (sound_silent query earlier third.0)

  -- So it was wholly written, and it is done with the same bytes where no callback has a say.

  pub done_low : (history : History K) (cookie : ℕ) (query : Query) (kept : List ℕ) → outcome query (pieces (own cookie (reading history).known.entries)) ≡ Done kept → cookie ≤ whole (reading history).known.parts (asked history).wrote
  unfolding Low
  done_low history cookie query kept e =
      let s = sound query (own cookie (reading history).known.entries) kept e in
      framed_low (whole (reading history).known.parts (asked history).wrote) cookie (reading history).known.entries (low_after history) (sound_frame query (own cookie (reading history).known.entries) s.completed s.unfailed)

  pub done_silent : (filings : List (Filing K)) (query : Query) (kept : List ℕ) → outcome query (pieces filings) ≡ Done kept → outcome query (pieces (map silent filings)) ≡ Done kept
  done_silent filings query kept e = let s = sound query filings kept e in ap (outcome query) (sound_silent query filings s.unfailed) ∙ e

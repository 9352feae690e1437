-- A turn of the handles keeps what stands.
use Rattle.std.proofs.Common.{◌≡◌, ◌≢◌, ℕ, Bool, true, false, List, [], ◌∷◌, length, Option, refl, ap, sym, subst, ◌∙◌}
use Rattle.lnbd_callbacks.specs.Calls.{Call}
use Rattle.lnbd_callbacks.specs.Steps.{OneByOne}
use Rattle.lnbd_handle.specs.Histories.{Plays}
use Rattle.lnbd_link.specs.Call as wire
use Rattle.lnbd_link.specs.Call.{Read, Write, ReadTold, WriteTold, Moved, Unready, Ended, ReadFault, Sent, Full, WriteFault}
use Rattle.lnbd_history.specs.Events.{Event, History, Wrote, Arrived, End, LinkFailed}
use Rattle.lnbd_poll.specs.declared.noticed.Noticed.{Noticed}
use Rattle.lnbd_poll.specs.declared.noticed.Noticed.TheVariants as noticed
use Rattle.lnbd_poll.specs.Alone.{AreApart, HaveOwnLinks}
use Rattle.lnbd_poll.specs.Seen.{Seen, Follows}
use Rattle.lnbd_poll.specs.Notices.{Arrives, Hears, ReadsIf, ReadsOn, Sends, WritesIf, is_reading, is_waiting}
use Rattle.lnbd_poll.specs.Turns.{Told, WritesAll, WritesTold, Stops, Goes_on, TurnsOne, Turns, All_took, Takes, Runs_short, Breaks_off, Ending, is_lost}
use Rattle.lnbd_board.specs.declared.ticket.Ticket.{Ticket}
use Rattle.lnbd_board.specs.Files as board
use Rattle.lnbd_asked.specs.Exports.{is_naming}
use Rattle.lnbd_tracks.specs.Laws.{is_coming}
use Rattle.lnbd_tracks.specs.Tracks.{Histories, Happens, is_issue}
use Rattle.lnbd_course.specs.Course.{AllHave}
use Rattle.lnbd_course.proofs.Later.{IsLater, later_same, later_then, later_on}
use Rattle.lnbd_course.proofs.Standing.{with_history, with_here, with_others, with_happens}

abbrev pub steps : board.Seen → List (Call Ticket) → board.Seen → Type 0
steps = OneByOne board.Files

-- Of something that stands of the board and of all histories.
module _ (S : board.Seen → Histories → Type 0) where
  -- One handle has this history then, the others have theirs, and what stood stands.
  pub record Past (link : ℕ) (history : History Ticket) (now : board.Seen) (before : Histories) : Type 0 where
    pub after : Histories
    pub stood : S now after
    pub here : after link ≡ history
    pub others : (n : ℕ) → n ≢ link → after n ≡ before n
    pub later : (n : ℕ) → IsLater (before n) (after n)

  past_none : (link : ℕ) (history : History Ticket) (now : board.Seen) (before : Histories) → before link ≡ history → S now before → Past link history now before
  past_none link history now before is s = record { after = before; stood = s; here = is; others = λ n d. refl; later = λ n. later_same (before n) (before n) refl }

  past_then : (link : ℕ) (history history2 : History Ticket) (now now2 : board.Seen) (before : Histories) → (p : Past link history now before) → Past link history2 now2 p.after → Past link history2 now2 before
  past_then link history history2 now now2 before p q = record { after = q.after; stood = q.stood; here = q.here; others = λ n d. q.others n d ∙ p.others n d; later = λ n. later_then (p.later n) (q.later n) }

  record Took (seen here : Seen Ticket) (now : board.Seen) (before : Histories) : Type 0 where
    past : Past seen.link here.history now before
    same : here.link ≡ seen.link

  -- after some turned: they have their links and histories, and the others theirs
  pub record Turned (before after : List (Seen Ticket)) (now : board.Seen) (old : Histories) : Type 0 where
    pub histories : Histories
    pub stood : S now histories
    pub held : AllHave histories after
    pub others : (n : ℕ) → AreApart n before → histories n ≡ old n
    pub apart : (n : ℕ) → AreApart n before → AreApart n after
    pub was_apart : (n : ℕ) → AreApart n after → AreApart n before
    pub later : (n : ℕ) → IsLater (old n) (histories n)

  -- It is kept by each event of a turn.
  module _
      (event_keeps : (link : ℕ) (event : Event Ticket) (before after : Histories) → Happens link event before after → (now now' : board.Seen) → S now before → is_issue event ≡ false → Plays steps event (before link) now now' → S now' after)
      (quiet_keeps : (link : ℕ) (event : Event Ticket) (before after : Histories) → Happens link event before after → (now : board.Seen) → S now before → is_issue event ≡ false → is_coming event ≡ false → S now after) where
    past_event : (link : ℕ) (history : History Ticket) (event : Event Ticket) (now now' : board.Seen) (before : Histories) → before link ≡ history → S now before → is_issue event ≡ false → is_naming event ≡ false → Plays steps event history now now' →
        Past link (event ∷ history) now' before
    past_event link history event now now' before is s other unnamed plays = record {
      after = with_history link (event ∷ before link) before;
      stood = event_keeps link event before (with_history link (event ∷ before link) before) (with_happens link event before) now now' s other (subst (λ h. Plays steps event h now now') (sym is) plays);
      here = with_here link (event ∷ before link) before ∙ ap (λ h. event ∷ h) is;
      others = with_others link (event ∷ before link) before;
      later = later_on link event before unnamed;
    }

    past_quiet : (link : ℕ) (history : History Ticket) (event : Event Ticket) (now : board.Seen) (before : Histories) → before link ≡ history → S now before → is_issue event ≡ false → is_coming event ≡ false → is_naming event ≡ false → Past link (event ∷ history) now before
    past_quiet link history event now before is s other none unnamed = record {
      after = with_history link (event ∷ before link) before;
      stood = quiet_keeps link event before (with_history link (event ∷ before link) before) (with_happens link event before) now s other none;
      here = with_here link (event ∷ before link) before ∙ ap (λ h. event ∷ h) is;
      others = with_others link (event ∷ before link) before;
      later = later_on link event before unnamed;
    }

    past_same : (link : ℕ) (history history2 : History Ticket) (now : board.Seen) (before : Histories) → history2 ≡ history → before link ≡ history → S now before → Past link history2 now before
    past_same link history history2 now before same is s = past_none link history2 now before (is ∙ sym same) s

    -- Writes.

    sends : (link : ℕ) (told : WriteTold) (notice : Noticed) (old new : History Ticket) (now : board.Seen) (before : Histories) → Sends told notice old new → before link ≡ old → S now before → Past link new now before
    sends link (Sent bytes) notice old new now before h is s = subst (λ x. Past link x now before) (sym h.3) (past_quiet link old (Wrote (length bytes)) now before is s refl refl refl)
    sends link Full notice old new now before h is s = past_same link old new now before h.1 is s
    sends link WriteFault notice old new now before h is s = past_same link old new now before h.1 is s

    writes_if : (waits : Bool) (link : ℕ) (notice : Noticed) (old new : History Ticket) (calls : List wire.Call) (now : board.Seen) (before : Histories) → WritesIf waits link notice old calls new → before link ≡ old → S now before → Past link new now before
    writes_if true link notice old new calls now before h is s = sends link h.0 notice old new now before h.2 is s
    writes_if false link notice old new calls now before h is s = past_same link old new now before h.2 is s

    tells : (lost : Bool) (link : ℕ) (old new : History Ticket) (now now' : board.Seen) (before : Histories) → Told steps lost old now new now' → before link ≡ old → S now before → Past link new now' before
    tells true link old new now now' before h is s = subst (λ x. Past link x now' before) (sym h.1) (past_event link old (LinkFailed h.0) now now' before is s refl refl h.2)
    tells false link old new now now' before h is s = subst (λ w. Past link new w before) (sym h.1) (past_same link old new now before h.0 is s)

    writes_told : (link : ℕ) (notice : Noticed) (old new : History Ticket) (calls : List wire.Call) (now now' : board.Seen) (before : Histories) → WritesTold steps link notice old now calls new now' → before link ≡ old → S now before → Past link new now' before
    writes_told link notice old new calls now now' before w is s =
        let p = writes_if (is_waiting old) link notice old w.middle calls now before w.writes is s in
        past_then link w.middle new now now' before p (tells (is_lost notice) link w.middle new now now' p.after w.told p.here p.stood)

    writes_all : (link : ℕ) (old new : History Ticket) (calls : List wire.Call) (now now' : board.Seen) (moved : Option ℕ) (before : Histories) → WritesAll steps link old now calls new now' moved → before link ≡ old → S now before → Past link new now' before
    writes_all link old new calls now now' moved before (Stops _ _ _ _ _ _ notice w none m) is s = writes_told link notice old new calls now now' before w is s
    writes_all link old new calls now now' moved before (Goes_on _ _ _ _ _ _ notice own middle half other rest w some more c m) is s =
        let p = writes_told link notice old middle own now half before w is s in
        past_then link middle new half now' before p (writes_all link middle new other half now' rest p.after more p.here p.stood)

    -- Reads.

    follows : (seen here : Seen Ticket) (event : Event Ticket) (left : List ℕ) (now now' : board.Seen) (before : Histories) → Follows steps event left seen here now now' → is_issue event ≡ false → is_naming event ≡ false → before seen.link ≡ seen.history → S now before → Took seen here now' before
    follows seen here event left now now' before f other unnamed is s =
        subst (λ (x : Seen Ticket). Took seen x now' before) (sym f.is) (record { past = past_event seen.link seen.history event now now' before is s other unnamed f.plays; same = refl })

    stays : (seen here : Seen Ticket) (now now' : board.Seen) (before : Histories) → here ≡ seen → now' ≡ now → before seen.link ≡ seen.history → S now before → Took seen here now' before
    stays seen here now now' before same still is s =
        subst (λ w. Took seen here w before) (sym still) (subst (λ (x : Seen Ticket). Took seen x now before) (sym same) (record { past = past_none seen.link seen.history now before is s; same = refl }))

    arrives : (bytes : List ℕ) (notice : Noticed) (seen here : Seen Ticket) (now now' : board.Seen) (before : Histories) → Arrives steps bytes notice seen here now now' → before seen.link ≡ seen.history → S now before → Took seen here now' before
    arrives bytes (noticed.Moved n) seen here now now' before h is s = follows seen here (Arrived bytes h.1.0) [] now now' before h.1.1 refl refl is s
    arrives bytes noticed.NoMemory seen here now now' before h is s = follows seen here _ _ now now' before h.2.1 refl refl is s
    arrives bytes noticed.NotReady seen here now now' before h is s = absurd h
    arrives bytes noticed.Idle seen here now now' before h is s = absurd h
    arrives bytes noticed.Ended seen here now now' before h is s = absurd h
    arrives bytes noticed.LinkFailed seen here now now' before h is s = absurd h

    hears : (told : ReadTold) (notice : Noticed) (seen here : Seen Ticket) (now now' : board.Seen) (before : Histories) → Hears steps told notice seen here now now' → before seen.link ≡ seen.history → S now before → Took seen here now' before
    hears (Moved bytes) notice seen here now now' before h is s = arrives bytes notice seen here now now' before h.1 is s
    hears Unready notice seen here now now' before h is s = stays seen here now now' before h.1.0 h.1.1 is s
    hears Ended notice seen here now now' before h is s = follows seen here (End h.1.0) [] now now' before h.1.1 refl refl is s
    hears ReadFault notice seen here now now' before h is s = follows seen here (LinkFailed h.1.0) [] now now' before h.1.1 refl refl is s

    reads_on : (unread : List ℕ) (notice : Noticed) (seen here : Seen Ticket) (calls : List wire.Call) (now now' : board.Seen) (before : Histories) → ReadsOn steps unread notice seen now calls here now' → before seen.link ≡ seen.history → S now before → Took seen here now' before
    reads_on [] notice seen here calls now now' before h is s = hears h.0 notice seen here now now' before h.2 is s
    reads_on (byte ∷ bytes) notice seen here calls now now' before h is s = arrives (byte ∷ bytes) notice seen here now now' before h.1 is s

    reads_if : (reads : Bool) (notice : Noticed) (seen here : Seen Ticket) (calls : List wire.Call) (now now' : board.Seen) (before : Histories) → ReadsIf steps reads notice seen now calls here now' → before seen.link ≡ seen.history → S now before → Took seen here now' before
    reads_if true notice seen here calls now now' before h is s = reads_on seen.unread notice seen here calls now now' before h is s
    reads_if false notice seen here calls now now' before h is s = stays seen here now now' before h.2.0 h.2.1 is s

    turns_one : (notice : Noticed) (seen here : Seen Ticket) (calls : List wire.Call) (now now' : board.Seen) (moved : Option ℕ) (before : Histories) → TurnsOne steps notice seen now calls here now' moved → before seen.link ≡ seen.history → S now before → Took seen here now' before
    turns_one notice seen here calls now now' moved before t is s =
        let p = writes_all seen.link seen.history t.middle t.written now t.half t.sent before t.writes is s in
        let half : Seen Ticket = record { link = seen.link; history = t.middle; unread = seen.unread } in
        let r = reads_if (is_reading t.middle) notice half here t.read t.half now' p.after t.reads p.here p.stood in
        record { past = past_then seen.link t.middle here.history t.half now' before p r.past; same = r.same }

    -- Turns.

    still_have : (link : ℕ) (before after : Histories) (seens : List (Seen Ticket)) → ((n : ℕ) → n ≢ link → after n ≡ before n) → AreApart link seens → AllHave before seens → AllHave after seens
    still_have link before after [] others apart have = tt
    still_have link before after (seen ∷ more) others apart have = (others seen.link apart.0 ∙ have.0, still_have link before after more others apart.1 have.1)

    one_turned : (seen here : Seen Ticket) (others there : List (Seen Ticket)) (half now : board.Seen) (old : Histories) → (t : Took seen here half old) → AreApart seen.link others → Turned others there now t.past.after → Turned (seen ∷ others) (here ∷ there) now old
    one_turned seen here others there half now old t own r = record {
      histories = r.histories;
      stood = r.stood;
      held = (ap r.histories t.same ∙ r.others seen.link own ∙ t.past.here, r.held);
      others = λ n apart. r.others n apart.1 ∙ t.past.others n (λ e. apart.0 (sym e));
      apart = λ n apart. ((λ e. apart.0 (sym t.same ∙ e)), r.apart n apart.1);
      was_apart = λ n apart. ((λ e. apart.0 (t.same ∙ e)), r.was_apart n apart.1);
      later = λ n. later_then (t.past.later n) (r.later n);
    }

    none_turned : (seens : List (Seen Ticket)) (now : board.Seen) (old : Histories) → AllHave old seens → S now old → Turned seens seens now old
    none_turned seens now old have s = record { histories = old; stood = s; held = have; others = λ n a. refl; apart = λ n a. a; was_apart = λ n a. a; later = λ n. later_same (old n) (old n) refl }

    pub turns_all : (before : List (Seen Ticket)) (now : board.Seen) (part : List wire.Call) (after : List (Seen Ticket)) (now' : board.Seen) (ending : Ending) (old : Histories) → Turns steps before now part after now' ending →
        HaveOwnLinks before → AllHave old before → S now old → Turned before after now' old
    turns_all before now part after now' ending old (All_took _ _ _ _ _ _ is none after_is world_is end) own have s =
        subst (λ w. Turned before after w old) (sym world_is) (subst (λ l. Turned before l now old) (is ∙ sym after_is) (none_turned before now old have s))
    turns_all before now part after now' ending old (Takes _ _ _ _ _ _ seen others notice here_calls here half moved other there rest is turns enough more calls_are after_is end) own have s =
        let links = subst HaveOwnLinks is own in
        let have' = subst (AllHave old) is have in
        let t = turns_one notice seen here here_calls now half moved old turns have'.0 s in
        let r = turns_all others half other there now' rest t.past.after more links.1 (still_have seen.link old t.past.after others t.past.others links.0 have'.1) t.past.stood in
        subst (λ l. Turned l after now' old) (sym is) (subst (λ l. Turned (seen ∷ others) l now' old) (sym after_is) (one_turned seen here others there half now' old t links.0 r))
    turns_all before now part after now' ending old (Runs_short _ _ _ _ _ _ seen others here moved is turns after_is end) own have s =
        let links = subst HaveOwnLinks is own in
        let have' = subst (AllHave old) is have in
        let t = turns_one noticed.NoMemory seen here part now now' moved old turns have'.0 s in
        let r = none_turned others now' t.past.after (still_have seen.link old t.past.after others t.past.others links.0 have'.1) t.past.stood in
        subst (λ l. Turned l after now' old) (sym is) (subst (λ l. Turned (seen ∷ others) l now' old) (sym after_is) (one_turned seen here others others now' now' old t links.0 r))
    turns_all before now part after now' ending old (Breaks_off _ _ _ _ _ _ none after_is world_is end) own have s =
        subst (λ w. Turned before after w old) (sym world_is) (subst (λ l. Turned before l now old) (sym after_is) (none_turned before now old have s))

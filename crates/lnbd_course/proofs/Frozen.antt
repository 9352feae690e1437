-- What came for a command that is over stays, whatever happens, though bytes were read that have not arrived.
use Rattle.std.proofs.Common.{◌≡◌, ◌⊎◌, inl, inr, ℕ, Bool, true, false, List, [], ◌∷◌, ◌++◌, Option, Some, refl, ap, sym, subst, ◌∙◌, append_assoc, take, drop}
use Rattle.std.proofs.lemmas.Bool.{cases_eq, false≢true}
use Rattle.lnbd_model.specs.declared.export.Context.{Context as MetaContext}
use Rattle.lnbd_link.specs.Call as wire
use Rattle.lnbd_link.specs.Call.{ReadTold, Moved, Unready, Ended, ReadFault}
use Rattle.lnbd_history.specs.Commands.{Request}
use Rattle.lnbd_history.specs.Entries.{Entry, Filed, Item, is_ended, own}
use Rattle.lnbd_history.specs.Events.{Answer, Event, History, Arrived}
use Rattle.lnbd_history.specs.History.{filing_of, reading, request}
use Rattle.lnbd_history.proofs.Cuts.{cuts_do_not_matter}
use Rattle.lnbd_asked.specs.Driven.{Drives, Does, Passes, Writes_none, Reads, Reads_none, Arrives}
use Rattle.lnbd_poll.specs.declared.noticed.Noticed.{Noticed}
use Rattle.lnbd_poll.specs.declared.noticed.Noticed.TheVariants as noticed
use Rattle.lnbd_poll.specs.Notices as notices
use Rattle.lnbd_poll.specs.Notices.{ReadsIf, ReadsOn}
use Rattle.lnbd_poll.specs.Seen.{Seen}
use Rattle.lnbd_poll.specs.Turns.{All_took, Ending, Runs_short, Breaks_off, Takes, Turns, TurnsOne}
use Rattle.lnbd_board.specs.declared.ticket.Ticket.{Ticket}
use Rattle.lnbd_board.specs.Files as board
use Rattle.lnbd_tracks.specs.Mapping.{is_over}
use Rattle.lnbd_tracks.specs.Tracks.{Happens, Histories, is_issue}
use Rattle.lnbd_tracks.proofs.Coming.{event_keeps}
use Rattle.lnbd_tracks.proofs.Unfiled.{own_other, request_stays}
use Rattle.lnbd_course.proofs.Parts.{NoneUnread}
use Rattle.lnbd_course.proofs.Turning.{steps}

-- Nothing more comes for a command that is over.
own_stays : (before : History Ticket) (event : Event Ticket) (c : ℕ) → is_over before c ≡ true → own c (reading (event ∷ before)).known.entries ≡ own c (reading before).known.entries
own_stays before event c over =
    event_keeps before (λ entries. own c entries ≡ own c (reading before).known.entries) (λ item. Unit {0}) same (λ item. tt) (λ flight entries h. h) (λ entries h. h) event refl
  where
    same : (asks : Request Ticket) (k : ℕ) (item : Item) (contexts : List MetaContext) (answers : List Answer) (entries : List (Entry Ticket)) → Unit {0} → request before k ≡ Some asks → is_ended (own k entries) ≡ false → own c entries ≡ own c (reading before).known.entries →
        own c (Filed (filing_of asks k (own k entries) contexts item answers) ∷ entries) ≡ own c (reading before).known.entries
    same asks k item contexts answers entries any there going h = go (cases_eq k c)
      where
        go : (k ≡ c) ⊎ (k ≡ c → ⊥) → own c (Filed (filing_of asks k (own k entries) contexts item answers) ∷ entries) ≡ own c (reading before).known.entries
        go (inl e) = absurd (false≢true (sym (ap is_ended (sym h) ∙ ap (λ x. is_ended (own x entries)) (sym e) ∙ going) ∙ over))
        go (inr differ) = own_other c (filing_of asks k (own k entries) contexts item answers) entries differ ∙ h

-- Since the one history the same was asked, and nothing more came for what was over.
pub record Frozen (old new : History Ticket) : Type 0 where
  pub requests : (cookie : ℕ) → request new cookie ≡ request old cookie
  pub same : (cookie : ℕ) → is_over old cookie ≡ true → own cookie (reading new).known.entries ≡ own cookie (reading old).known.entries

pub frozen_here : (old : History Ticket) → Frozen old old
frozen_here old = record { requests = λ cookie. refl; same = λ cookie over. refl }

pub frozen_on : (old new : History Ticket) (event : Event Ticket) → is_issue event ≡ false → Frozen old new → Frozen old (event ∷ new)
frozen_on old new event unissued f = record {
  requests = λ cookie. request_stays new event cookie unissued ∙ f.requests cookie;
  same = λ cookie over. own_stays new event cookie (ap is_ended (f.same cookie over) ∙ over) ∙ f.same cookie over;
}

-- So it is with all histories of a turn.
module _ (old : Histories) where
  abbrev pub FreezeAsOld : board.Seen → Histories → Type 0
  FreezeAsOld now histories = (link : ℕ) → Frozen (old link) (histories link)

  pub event_freezes : (link : ℕ) (event : Event Ticket) (before after : Histories) → Happens link event before after → is_issue event ≡ false → (now now' : board.Seen) → FreezeAsOld now before → FreezeAsOld now' after
  event_freezes link event before after happens unissued now now' same n = go (cases_eq n link)
    where
      go : (n ≡ link) ⊎ (n ≡ link → ⊥) → Frozen (old n) (after n)
      go (inl is) =
          subst (λ (m : ℕ). Frozen (old m) (after m)) (sym is)
          (subst (λ (h : History Ticket). Frozen (old link) h) (sym happens.here) (frozen_on (old link) (before link) event unissued (same link)))
      go (inr differ) = subst (λ (h : History Ticket). Frozen (old n) h) (sym (happens.others n differ)) (same n)

-- Bytes that have not arrived.

-- The last that happened is that bytes arrived.
pub record HasArrived (history : History Ticket) : Type 0 where
  pub bytes : List ℕ
  pub answers : List Answer
  pub before : History Ticket
  pub is : history ≡ Arrived bytes answers ∷ before

-- All of them might have arrived at once.
pub at_once : (link : ℕ) (calls : List wire.Call) (bytes : List ℕ) (answers : List Answer) (before : History Ticket) (left : List ℕ) → Drives link calls (Arrived bytes answers ∷ before) left → Drives link calls before (bytes ++ left)
at_once link calls bytes answers before left (Does _ _ _ _ d inward) = absurd (false≢true inward)
at_once link after bytes answers before left (Passes calls _ _ call _ d off is) = Passes calls before (bytes ++ left) call after (at_once link calls bytes answers before left d) off is
at_once link after bytes answers before left (Writes_none calls _ _ offered _ d is) = Writes_none calls before (bytes ++ left) offered after (at_once link calls bytes answers before left d) is
at_once link after bytes answers before more (Reads calls _ left room read _ _ d is joined) =
    Reads calls before (bytes ++ left) room read after (bytes ++ more) (at_once link calls bytes answers before left d) is (ap (λ (l : List ℕ). bytes ++ l) joined ∙ sym (append_assoc bytes left read))
at_once link after bytes answers before left (Reads_none calls _ _ room _ d is) = Reads_none calls before (bytes ++ left) room after (at_once link calls bytes answers before left d) is
at_once link calls bytes answers before left (Arrives _ _ all _ _ _ d joined) = subst (Drives link calls before) joined d

-- Then no more comes for what was over.
pub frozen_at_once : (old : History Ticket) (bytes left : List ℕ) (answers : List Answer) (before : History Ticket) → Frozen old (Arrived bytes answers ∷ before) → Frozen old (Arrived (bytes ++ left) answers ∷ before)
frozen_at_once old bytes left answers before f =
    let on = frozen_on old (Arrived bytes answers ∷ before) (Arrived left (reading (Arrived bytes answers ∷ before)).known.answers) refl f in
    let same = cuts_do_not_matter before bytes left answers in
    record {
      requests = λ cookie. f.requests cookie;
      same = λ cookie over. sym (ap (λ held. own cookie held.known.entries) same) ∙ on.same cookie over;
    }

-- Where bytes are left unread after a turn, others arrived last.

abbrev pub IsRead : Seen Ticket → Type 0
IsRead seen = (seen.unread ≡ []) ⊎ HasArrived seen.history

abbrev pub AllRead : List (Seen Ticket) → Type 0
AllRead [] = Unit {0}
AllRead (seen ∷ others) = IsRead seen × AllRead others

arrived : (bytes left : List ℕ) (answers : List Answer) (before after : Seen Ticket) → after ≡ record { link = before.link; history = Arrived bytes answers ∷ before.history; unread = left } → IsRead after
arrived bytes left answers before after is = inr (record { bytes = bytes; answers = answers; before = before.history; is = ap (λ (s : Seen Ticket). s.history) is })

arrives : (bytes : List ℕ) (notice : Noticed) (before after : Seen Ticket) (now now' : board.Seen) → notices.Arrives steps bytes notice before after now now' → IsRead after
arrives bytes (noticed.Moved n) before after now now' h = inl (ap (λ (s : Seen Ticket). s.unread) h.1.1.is)
arrives bytes noticed.NoMemory before after now now' h = arrived (take h.0 bytes) (drop h.0 bytes) h.2.0 before after h.2.1.is
arrives bytes noticed.NotReady before after now now' h = absurd h
arrives bytes noticed.Idle before after now now' h = absurd h
arrives bytes noticed.Ended before after now now' h = absurd h
arrives bytes noticed.LinkFailed before after now now' h = absurd h

hears : (told : ReadTold) (notice : Noticed) (before after : Seen Ticket) (now now' : board.Seen) → before.unread ≡ [] → notices.Hears steps told notice before after now now' → IsRead after
hears (Moved bytes) notice before after now now' none h = arrives bytes notice before after now now' h.1
hears Unready notice before after now now' none h = inl (ap (λ (s : Seen Ticket). s.unread) h.1.0 ∙ none)
hears Ended notice before after now now' none h = inl (ap (λ (s : Seen Ticket). s.unread) h.1.1.is)
hears ReadFault notice before after now now' none h = inl (ap (λ (s : Seen Ticket). s.unread) h.1.1.is)

reads_on : (unread : List ℕ) (notice : Noticed) (before after : Seen Ticket) (calls : List wire.Call) (now now' : board.Seen) → before.unread ≡ [] → unread ≡ [] → ReadsOn steps unread notice before now calls after now' → IsRead after
reads_on [] notice before after calls now now' none none' h = hears h.0 notice before after now now' none h.2
reads_on (byte ∷ bytes) notice before after calls now now' none none' h = arrives (byte ∷ bytes) notice before after now now' h.1

reads_if : (reads : Bool) (notice : Noticed) (before after : Seen Ticket) (calls : List wire.Call) (now now' : board.Seen) → before.unread ≡ [] → ReadsIf steps reads notice before now calls after now' → IsRead after
reads_if true notice before after calls now now' none h = reads_on before.unread notice before after calls now now' none none h
reads_if false notice before after calls now now' none h = inl (ap (λ (s : Seen Ticket). s.unread) h.2.0 ∙ none)

one_read : (notice : Noticed) (seen here : Seen Ticket) (calls : List wire.Call) (now now' : board.Seen) (moved : Option ℕ) → TurnsOne steps notice seen now calls here now' moved → seen.unread ≡ [] → IsRead here
one_read notice seen here calls now now' moved t none = reads_if (notices.is_reading t.middle) notice (record { link = seen.link; history = t.middle; unread = seen.unread }) here t.read t.half now' none t.reads

none_left : (seens : List (Seen Ticket)) → NoneUnread seens → AllRead seens
none_left [] none = tt
none_left (seen ∷ others) none = (inl none.0, none_left others none.1)

pub all_read : (before : List (Seen Ticket)) (now : board.Seen) (part : List wire.Call) (after : List (Seen Ticket)) (now' : board.Seen) (ending : Ending) → Turns steps before now part after now' ending → NoneUnread before → AllRead after
all_read before now part after now' ending (All_took _ _ _ _ _ _ is none after_is world_is end) unread = subst AllRead (sym after_is) tt
all_read before now part after now' ending (Takes _ _ _ _ _ _ seen others notice mine here half moved other there rest is turns enough more calls_are after_is end) unread =
    let unread' = subst NoneUnread is unread in
    subst AllRead (sym after_is) (one_read notice seen here mine now half moved turns unread'.0, all_read others half other there now' rest more unread'.1)
all_read before now part after now' ending (Runs_short _ _ _ _ _ _ seen others here moved is turns after_is end) unread =
    let unread' = subst NoneUnread is unread in
    subst AllRead (sym after_is) (one_read noticed.NoMemory seen here part now now' moved turns unread'.0, none_left others unread'.1)
all_read before now part after now' ending (Breaks_off _ _ _ _ _ _ none after_is world_is end) unread = subst AllRead (sym after_is) (none_left before unread)

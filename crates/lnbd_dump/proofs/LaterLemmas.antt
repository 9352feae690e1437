-- What stays so while the handle goes on.
use Rattle.std.proofs.Common.{◌≡◌, ℕ, Bool, true, false, List, [], ◌∷◌, ◌++◌, Option, None, append_assoc, refl, sym, ◌∙◌, ap, subst}
use Rattle.lnbd_callbacks.specs.Calls.{Call}
use Rattle.lnbd_model.specs.declared.export.ExportInfo.{ExportInfo}
use Rattle.lnbd_history.specs.Entries as entries
use Rattle.lnbd_history.specs.Events.{Event, History, Arrived, End, LinkFailed, Wrote}
use Rattle.lnbd_history.specs.History.{reading}
use Rattle.lnbd_handle.specs.Histories.{Plays}
use Rattle.lnbd_link.specs.Call as wire
use Rattle.lnbd_link.specs.Call.{ReadTold, WriteTold, Moved, Unready, Ended, ReadFault, Sent, Full, WriteFault}
use Rattle.lnbd_asked.specs.Exports.{is_naming}
use Rattle.lnbd_asked.proofs.Staying.{names_stay}
use Rattle.lnbd_kept.specs.Kept.{AllKeep}
use Rattle.lnbd_poll.specs.declared.noticed.Noticed.{Noticed}
use Rattle.lnbd_poll.specs.declared.noticed.Noticed.TheVariants as noticed
use Rattle.lnbd_poll.specs.Seen.{Follows, Seen}
use Rattle.lnbd_poll.specs.Notices.{Arrives, Hears as HearsNotice, ReadsIf, ReadsOn, Sends, WritesIf, is_reading, is_waiting}
use Rattle.lnbd_poll.specs.Turns.{Goes_on, Stops, Told, TurnsOne, WritesAll, is_lost}
use Rattle.lnbd_tracks.specs.Tracks.{is_issue}
use Rattle.lnbd_tracks.proofs.Staying.{asked_stays, zero_stays}
use Rattle.lnbd_tracks.proofs.Unfiled.{request_stays}
use Rattle.lnbd_dump.specs.declared.reader.Latest.{Latest}
use Rattle.lnbd_dump.specs.declared.reader.Reader.{Reader}
use Rattle.lnbd_dump.specs.Conduct.{AreWell, AsksNothing}
use Rattle.lnbd_dump.specs.Heard.{Hears, Laid, kept, told_by}
use Rattle.lnbd_dump.specs.HeardLaws.{keeps_both, told_on}
use Rattle.lnbd_dump.proofs.DoneLemmas.{done_same}
use Rattle.lnbd_dump.specs.Leads.{By_read, By_status, Grown, IsTied, Later, Quiet, Tells, TellsByte, TellsZero}

pub grown_none : (history : History Reader) → Grown history history
grown_none history = record { since = []; is = refl; asked = λ c q is. is; done = λ c q bytes is d. d; zero = λ c p q is z. z; name = refl }

pub grown_on : (a b c : History Reader) → Grown a b → Grown b c → Grown a c
grown_on a b c one two = record {
  since = two.since ++ one.since;
  is = two.is ∙ ap (λ (h : History Reader). two.since ++ h) one.is ∙ sym (append_assoc two.since one.since a);
  asked = λ k q is. two.asked k q (one.asked k q is);
  done = λ k q bytes is d. two.done k q bytes (one.asked k q is) (one.done k q bytes is d);
  zero = λ k p q is z. two.zero k p q (one.asked k q is) (one.zero k p q is z);
  name = two.name ∙ one.name;
}

-- one event more
pub grown_event : (event : Event Reader) (before : History Reader) → is_naming event ≡ false → Grown before (event ∷ before)
grown_event event before unnamed = record {
  since = event ∷ [];
  is = refl;
  asked = λ c q is. asked_stays before event c q is;
  done = λ c q bytes is d. done_same before event c q bytes is d;
  zero = λ c p q is z. zero_stays before event c p q is z;
  name = names_stay before event unnamed;
}

pub later_none : (history : History Reader) → Later history history
later_none history = record { grown = grown_none history; keeps = λ k. k }

pub later_on : (a b c : History Reader) → Later a b → Later b c → Later a c
later_on a b c one two = record { grown = grown_on a b c one.grown two.grown; keeps = λ k. two.keeps (one.keeps k) }

pub later_event : (event : Event Reader) (before : History Reader) → is_naming event ≡ false → (AllKeep (entries.calls (reading before).known.entries) → AllKeep (entries.calls (reading (event ∷ before)).known.entries)) → Later before (event ∷ before)
later_event event before unnamed keeps = record { grown = grown_event event before unnamed; keeps = keeps }

pub quiet_none : (history : History Reader) → Quiet history history
quiet_none history = record { later = later_none history; same = λ c. refl; well = λ info w. w; unasked = λ u. u }

pub quiet_on : (a b c : History Reader) → Quiet a b → Quiet b c → Quiet a c
quiet_on a b c one two = record {
  later = later_on a b c one.later two.later;
  same = λ k. two.same k ∙ one.same k;
  well = λ info w. two.well info (one.well info w);
  unasked = λ u. two.unasked (one.unasked u);
}

pub quiet_same : (before after : History Reader) → after ≡ before → Quiet before after
quiet_same before after is = subst (λ (h : History Reader). Quiet before h) (sym is) (quiet_none before)

-- An event that asks nothing and names nothing.
pub quiet_event : (event : Event Reader) (before : History Reader) → is_issue event ≡ false → is_naming event ≡ false → ((info : ExportInfo) → AreWell info before → AreWell info (event ∷ before)) → (AsksNothing before → AsksNothing (event ∷ before))
    → (AllKeep (entries.calls (reading before).known.entries) → AllKeep (entries.calls (reading (event ∷ before)).known.entries)) → Quiet before (event ∷ before)
quiet_event event before other unnamed well unasked keeps = record { later = later_event event before unnamed keeps; same = λ c. request_stays before event c other; well = well; unasked = unasked }

-- What was told stays told.

pub zero_later : (before after : History Reader) → Grown before after → (p : ℕ) → TellsZero before p → TellsZero after p
zero_later before after later p t = record {
  cookie = t.cookie;
  asks = t.asks;
  bytes = t.bytes;
  there = later.asked t.cookie t.asks t.there;
  kind = t.kind;
  done = later.done t.cookie t.asks t.bytes t.there t.done;
  has_it = t.has_it;
  zero = later.zero t.cookie p t.asks t.there t.zero;
}

byte_later : (before after : History Reader) → Grown before after → (p byte : ℕ) → TellsByte before p byte → TellsByte after p byte
byte_later before after later p byte t = record {
  cookie = t.cookie;
  asks = t.asks;
  bytes = t.bytes;
  there = later.asked t.cookie t.asks t.there;
  kind = t.kind;
  done = later.done t.cookie t.asks t.bytes t.there t.done;
  has_it = t.has_it;
  is = t.is;
}

pub tells_later : (before after : History Reader) → Grown before after → (p byte : ℕ) → Tells before p byte → Tells after p byte
tells_later before after later p byte (By_read t) = By_read (byte_later before after later p byte t)
tells_later before after later p byte (By_status is t) = By_status is (zero_later before after later p t)

-- ---- Turns.

-- Nothing was asked, and the world has what was told last as before.
pub record Turned (before after : History Reader) (world world' : Latest) : Type 0 where
  pub quiet : Quiet before after
  pub tied : IsTied world before → IsTied world' after

pub turned_none : (before after : History Reader) (world world' : Latest) → after ≡ before → world' ≡ world → Turned before after world world'
turned_none before after world world' is same = record {
  quiet = quiet_same before after is;
  tied = λ t. subst (λ (w : Latest). IsTied w after) (sym same) (subst (λ (h : History Reader). IsTied world h) (sym is) t);
}

pub turned_on : (a b c : History Reader) (u v w : Latest) → Turned a b u v → Turned b c v w → Turned a c u w
turned_on a b c u v w one two = record { quiet = quiet_on a b c one.quiet two.quiet; tied = λ t. two.tied (one.tied t) }

tied_on : (world world' : Latest) (before : List (Call Reader)) (more after : List (Call Reader)) → Hears world more world' → after ≡ before ++ more → ((world.short ≡ false) → kept world ≡ told_by None before) → (world'.short ≡ false) → kept world' ≡ told_by None after
tied_on world world' before more after hears is t full =
    let h = hears.told full in
    h.1 ∙ ap (λ (l : Option Laid). told_by l more) (t h.0) ∙ sym (told_on None before more) ∙ ap (told_by None) (sym is)

turned_played : (event : Event Reader) (before : History Reader) (world world' : Latest) → is_issue event ≡ false → is_naming event ≡ false → ((info : ExportInfo) → AreWell info before → AreWell info (event ∷ before)) → (AsksNothing before → AsksNothing (event ∷ before))
    → Plays Hears event before world world' → Turned before (event ∷ before) world world'
turned_played event before world world' other unnamed well unasked plays = record {
  quiet = quiet_event event before other unnamed well unasked (λ k. subst AllKeep (sym plays.told) (keeps_both (entries.calls (reading before).known.entries) plays.calls k plays.world.keeps));
  tied = λ t. tied_on world world' (entries.calls (reading before).known.entries) plays.calls (entries.calls (reading (event ∷ before)).known.entries) plays.world plays.told t;
}

told_turned : (b : Bool) (middle after : History Reader) (world world' : Latest) → Told Hears b middle world after world' → Turned middle after world world'
told_turned true middle after world world' told = subst (λ (h : History Reader). Turned middle h world world') (sym told.1) (turned_played (LinkFailed told.0) middle world world' refl refl (λ info w. w) (λ u. u) told.2)
told_turned false middle after world world' told = turned_none middle after world world' told.0 told.1

sent_turned : (told : WriteTold) (notice : Noticed) (before middle : History Reader) (world : Latest) → Sends told notice before middle → Turned before middle world world
sent_turned (Sent bytes) notice before middle world s =
    subst (λ (h : History Reader). Turned before h world world) (sym s.3) (record { quiet = quiet_event (Wrote _) before refl refl (λ info w. w) (λ u. u) (λ k. k); tied = λ t. t })
sent_turned Full notice before middle world s = turned_none before middle world world s.1 refl
sent_turned WriteFault notice before middle world s = turned_none before middle world world s.1 refl

write_turned : (b : Bool) (link : ℕ) (notice : Noticed) (before middle : History Reader) (calls : List wire.Call) (world : Latest) → WritesIf b link notice before calls middle → Turned before middle world world
write_turned true link notice before middle calls world w = sent_turned w.0 notice before middle world w.2
write_turned false link notice before middle calls world w = turned_none before middle world world w.2 refl

pub writes_turned : (link : ℕ) (before : History Reader) (world : Latest) (calls : List wire.Call) (after : History Reader) (world' : Latest) (moved : Option ℕ) → WritesAll Hears link before world calls after world' moved → Turned before after world world'
writes_turned link before world calls after world' moved (Stops _ _ _ _ _ _ notice w stop is) =
    turned_on before w.middle after world world world' (write_turned (is_waiting before) link notice before w.middle calls world w.writes) (told_turned (is_lost notice) w.middle after world world' w.told)
writes_turned link before world calls after world' moved (Goes_on _ _ _ _ _ _ notice own middle half other rest w some more calls_are is) =
    turned_on before middle after world half world'
    (turned_on before w.middle middle world world half (write_turned (is_waiting before) link notice before w.middle own world w.writes) (told_turned (is_lost notice) w.middle middle world half w.told))
    (writes_turned link middle half other after world' rest more)

-- with the bytes that were read
abbrev SeenTurned : (before after : Seen Reader) (world world' : Latest) → Type 0
SeenTurned before after world world' = Turned before.history after.history world world'

stays_turned : (before after : Seen Reader) (world world' : Latest) → after ≡ before → world' ≡ world → SeenTurned before after world world'
stays_turned before after world world' is same = turned_none before.history after.history world world' (ap (λ (s : Seen Reader). s.history) is) same

follows_turned : (event : Event Reader) (unread : List ℕ) (before after : Seen Reader) (world world' : Latest) → is_issue event ≡ false → is_naming event ≡ false
    → ((info : ExportInfo) → AreWell info before.history → AreWell info (event ∷ before.history)) → (AsksNothing before.history → AsksNothing (event ∷ before.history)) → Follows Hears event unread before after world world' → SeenTurned before after world world'
follows_turned event unread before after world world' other unnamed well unasked f =
    subst (λ (s : Seen Reader). SeenTurned before s world world') (sym f.is) (turned_played event before.history world world' other unnamed well unasked f.plays)

arrives_turned : (bytes : List ℕ) (notice : Noticed) (before after : Seen Reader) (world world' : Latest) → Arrives Hears bytes notice before after world world' → SeenTurned before after world world'
arrives_turned bytes (noticed.Moved n) before after world world' a = follows_turned (Arrived bytes a.1.0) [] before after world world' refl refl (λ info w. w) (λ u. u) a.1.1
arrives_turned bytes noticed.NoMemory before after world world' a = follows_turned (Arrived _ a.2.0) _ before after world world' refl refl (λ info w. w) (λ u. u) a.2.1
arrives_turned bytes noticed.NotReady before after world world' a = absurd a
arrives_turned bytes noticed.Idle before after world world' a = absurd a
arrives_turned bytes noticed.Ended before after world world' a = absurd a
arrives_turned bytes noticed.LinkFailed before after world world' a = absurd a

hears_turned : (told : ReadTold) (notice : Noticed) (before after : Seen Reader) (world world' : Latest) → HearsNotice Hears told notice before after world world' → SeenTurned before after world world'
hears_turned (Moved bytes) notice before after world world' h = arrives_turned bytes notice before after world world' h.1
hears_turned Unready notice before after world world' h = stays_turned before after world world' h.1.0 h.1.1
hears_turned Ended notice before after world world' h = follows_turned (End h.1.0) [] before after world world' refl refl (λ info w. w) (λ u. u) h.1.1
hears_turned ReadFault notice before after world world' h = follows_turned (LinkFailed h.1.0) [] before after world world' refl refl (λ info w. w) (λ u. u) h.1.1

reads_turned : (unread : List ℕ) (notice : Noticed) (before after : Seen Reader) (calls : List wire.Call) (world world' : Latest) → ReadsOn Hears unread notice before world calls after world' → SeenTurned before after world world'
reads_turned [] notice before after calls world world' r = hears_turned r.0 notice before after world world' r.2
reads_turned (byte ∷ bytes) notice before after calls world world' r = arrives_turned (byte ∷ bytes) notice before after world world' r.1

read_turned : (b : Bool) (notice : Noticed) (before after : Seen Reader) (calls : List wire.Call) (world world' : Latest) → ReadsIf Hears b notice before world calls after world' → SeenTurned before after world world'
read_turned false notice before after calls world world' r = stays_turned before after world world' r.2.0 r.2.1
read_turned true notice before after calls world world' r = reads_turned before.unread notice before after calls world world' r

pub turn_turned : (notice : Noticed) (before after : Seen Reader) (calls : List wire.Call) (world world' : Latest) (moved : Option ℕ) → TurnsOne Hears notice before world calls after world' moved → Turned before.history after.history world world'
turn_turned notice before after calls world world' moved t =
    let middle : Seen Reader = record { link = before.link; history = t.middle; unread = before.unread } in
    turned_on before.history t.middle after.history world t.half world' (writes_turned before.link before.history world t.written t.middle t.half t.sent t.writes) (read_turned (is_reading t.middle) notice middle after t.read t.half world' t.reads)

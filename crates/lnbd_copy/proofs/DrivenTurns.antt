-- In a turn nothing comes on a handle but what its link takes and brings.
use Rattle.std.proofs.Common.{◌≡◌, ℕ, Bool, true, false, List, [], ◌∷◌, ◌++◌, length, Option, refl, ap, sym, subst, ◌∙◌, append_assoc}
use Rattle.std.proofs.lemmas.Bool.{false≢true}
use Rattle.lnbd_callbacks.specs.Calls.{Call}
use Rattle.lnbd_callbacks.specs.Steps.{OneByOne}
use Rattle.lnbd_history.specs.Events.{Event, History, Set, StrictMode, Start, Opt, Abort, Issue, Refuse, Disconnect, Wrote, Arrived, End, LinkFailed, Retire, ClearLog, Close}
use Rattle.lnbd_link.specs.Call as wire
use Rattle.lnbd_link.specs.Call.{ReadTold, WriteTold, Moved, Unready, Ended, ReadFault, Sent, Full, WriteFault}
use Rattle.lnbd_asked.specs.Driven.{AllSpell, Spells, is_inward}
use Rattle.lnbd_poll.specs.declared.noticed.Noticed.{Noticed}
use Rattle.lnbd_poll.specs.declared.noticed.Noticed.TheVariants as noticed
use Rattle.lnbd_poll.specs.Alone.{AreApart}
use Rattle.lnbd_poll.specs.Notices.{Arrives, Hears, ReadsIf, ReadsOn, Sends, WritesIf, is_reading, is_waiting}
use Rattle.lnbd_poll.specs.Seen.{Follows, Seen}
use Rattle.lnbd_poll.specs.Turns.{All_took, Ending, Goes_on, Runs_short, Breaks_off, Stops, Takes, Turns, TurnsOne, WritesAll, is_lost}
use Rattle.lnbd_poll.specs.Turns as turns
use Rattle.lnbd_drives.specs.Driving.{AllPlain}
use Rattle.lnbd_board.specs.declared.ticket.Ticket.{Ticket}
use Rattle.lnbd_board.specs.Files as board
use Rattle.lnbd_copy.specs.Driven.{AllWentOn}
use Rattle.lnbd_conduct.specs.Driven.{AllMayCome, WentOn, may_come}

abbrev steps : board.Seen → List (Call Ticket) → board.Seen → Type 0
steps = OneByOne board.Files

-- One history.

-- each of these events is of a link
abbrev pub AreOfLink : History Ticket → Type 0
AreOfLink [] = Unit {0}
AreOfLink (event ∷ before) = (is_inward event ≡ false) × AreOfLink before

pub record Brought (before after : History Ticket) : Type 0 where
  pub since : History Ticket
  pub are : after ≡ since ++ before
  pub link : AreOfLink since

brought_same : (before after : History Ticket) → after ≡ before → Brought before after
brought_same before after same = record { since = []; are = same; link = tt }

brought_event : (event : Event Ticket) (before after : History Ticket) → is_inward event ≡ false → after ≡ event ∷ before → Brought before after
brought_event event before after of is = record { since = event ∷ []; are = is; link = (of, tt) }

of_both : (one other : History Ticket) → AreOfLink one → AreOfLink other → AreOfLink (one ++ other)
of_both [] other a b = b
of_both (event ∷ one) other a b = (a.0, of_both one other a.1 b)

brought_then : (a b c : History Ticket) → Brought a b → Brought b c → Brought a c
brought_then a b c first second = record {
  since = second.since ++ first.since;
  are = second.are ∙ ap (λ (l : History Ticket). second.since ++ l) first.are ∙ sym (append_assoc second.since first.since a);
  link = of_both second.since first.since second.link first.link;
}

-- Such events may come, and spell nothing.

of_link_comes : (event : Event Ticket) → is_inward event ≡ false → may_come event ≡ true
of_link_comes (Set setting) of = absurd (false≢true (sym of))
of_link_comes (StrictMode bits) of = absurd (false≢true (sym of))
of_link_comes Start of = absurd (false≢true (sym of))
of_link_comes (Opt option) of = absurd (false≢true (sym of))
of_link_comes Abort of = absurd (false≢true (sym of))
of_link_comes (Issue command) of = refl
of_link_comes (Refuse command why) of = absurd (false≢true (sym of))
of_link_comes Disconnect of = refl
of_link_comes (Wrote n) of = refl
of_link_comes (Arrived bytes answers) of = refl
of_link_comes (End answers) of = refl
of_link_comes (LinkFailed answers) of = refl
of_link_comes (Retire cookie) of = absurd (false≢true (sym of))
of_link_comes ClearLog of = absurd (false≢true (sym of))
of_link_comes Close of = absurd (false≢true (sym of))

of_link_spells : (event : Event Ticket) (before : History Ticket) → is_inward event ≡ false → Spells before event
of_link_spells (Set setting) before of = absurd (false≢true (sym of))
of_link_spells (StrictMode bits) before of = tt
of_link_spells Start before of = tt
of_link_spells (Opt option) before of = tt
of_link_spells Abort before of = tt
of_link_spells (Issue command) before of = absurd (false≢true (sym of))
of_link_spells (Refuse command why) before of = tt
of_link_spells Disconnect before of = tt
of_link_spells (Wrote n) before of = tt
of_link_spells (Arrived bytes answers) before of = tt
of_link_spells (End answers) before of = tt
of_link_spells (LinkFailed answers) before of = tt
of_link_spells (Retire cookie) before of = tt
of_link_spells ClearLog before of = tt
of_link_spells Close before of = tt

come_more : (since more : History Ticket) → AreOfLink since → AllMayCome more → AllMayCome (since ++ more)
come_more [] more of come = come
come_more (event ∷ since) more of come = (of_link_comes event of.0, come_more since more of.1 come)

spell_more : (since before : History Ticket) → AreOfLink since → AllSpell before → AllSpell (since ++ before)
spell_more [] before of spelled = spelled
spell_more (event ∷ since) before of spelled = (of_link_spells event (since ++ before) of.0, spell_more since before of.1 spelled)

brought_went : (first before after : History Ticket) → Brought before after → WentOn first before → WentOn first after
brought_went first before after b went = record {
  since = b.since ++ went.since;
  are = b.are ∙ ap (λ (l : History Ticket). b.since ++ l) went.are ∙ sym (append_assoc b.since went.since first);
  come = come_more b.since went.since b.link went.come;
}

brought_spells : (before after : History Ticket) → Brought before after → AllSpell before → AllSpell after
brought_spells before after b spelled = subst AllSpell (sym b.are) (spell_more b.since before b.link spelled)

-- One handle's part.

told_brought : (lost : Bool) (old new : History Ticket) (now now' : board.Seen) → turns.Told steps lost old now new now' → Brought old new
told_brought true old new now now' told = brought_event (LinkFailed told.0) old new refl told.1
told_brought false old new now now' told = brought_same old new told.0

sends_brought : (told : WriteTold) (notice : Noticed) (old new : History Ticket) → Sends told notice old new → Brought old new
sends_brought (Sent bytes) notice old new sends = brought_event (Wrote (length bytes)) old new refl sends.3
sends_brought Full notice old new sends = brought_same old new sends.1
sends_brought WriteFault notice old new sends = brought_same old new sends.1

writes_if_brought : (waits : Bool) (link : ℕ) (notice : Noticed) (old : History Ticket) (calls : List wire.Call) (new : History Ticket) → WritesIf waits link notice old calls new → Brought old new
writes_if_brought true link notice old calls new writes = sends_brought writes.0 notice old new writes.2
writes_if_brought false link notice old calls new writes = brought_same old new writes.2

writes_brought : (link : ℕ) (old : History Ticket) (now : board.Seen) (calls : List wire.Call) (new : History Ticket) (now' : board.Seen) (moved : Option ℕ) → WritesAll steps link old now calls new now' moved → Brought old new
writes_brought link old now calls new now' moved (Stops _ _ _ _ _ _ notice w none is) =
    brought_then old w.middle new (writes_if_brought (is_waiting old) link notice old calls w.middle w.writes) (told_brought (is_lost notice) w.middle new now now' w.told)
writes_brought link old now calls new now' moved (Goes_on _ _ _ _ _ _ notice own middle half other rest w some more are is) =
    brought_then old middle new
    (brought_then old w.middle middle (writes_if_brought (is_waiting old) link notice old own w.middle w.writes) (told_brought (is_lost notice) w.middle middle now half w.told))
    (writes_brought link middle half other new now' rest more)

pub record OneBrought (seen here : Seen Ticket) : Type 0 where
  pub link : here.link ≡ seen.link
  pub brought : Brought seen.history here.history

follows : (seen here : Seen Ticket) (event : Event Ticket) (left : List ℕ) (now now' : board.Seen) → is_inward event ≡ false → Follows steps event left seen here now now' → OneBrought seen here
follows seen here event left now now' of f = record { link = ap (λ (s : Seen Ticket). s.link) f.is; brought = brought_event event seen.history here.history of (ap (λ (s : Seen Ticket). s.history) f.is) }

stays : (seen here : Seen Ticket) → here ≡ seen → OneBrought seen here
stays seen here same = record { link = ap (λ (s : Seen Ticket). s.link) same; brought = brought_same seen.history here.history (ap (λ (s : Seen Ticket). s.history) same) }

arrives : (bytes : List ℕ) (notice : Noticed) (seen here : Seen Ticket) (now now' : board.Seen) → Arrives steps bytes notice seen here now now' → OneBrought seen here
arrives bytes (noticed.Moved n) seen here now now' h = follows seen here (Arrived bytes h.1.0) [] now now' refl h.1.1
arrives bytes noticed.NoMemory seen here now now' h = follows seen here _ _ now now' refl h.2.1
arrives bytes noticed.NotReady seen here now now' h = absurd h
arrives bytes noticed.Idle seen here now now' h = absurd h
arrives bytes noticed.Ended seen here now now' h = absurd h
arrives bytes noticed.LinkFailed seen here now now' h = absurd h

hears : (told : ReadTold) (notice : Noticed) (seen here : Seen Ticket) (now now' : board.Seen) → Hears steps told notice seen here now now' → OneBrought seen here
hears (Moved bytes) notice seen here now now' h = arrives bytes notice seen here now now' h.1
hears Unready notice seen here now now' h = stays seen here h.1.0
hears Ended notice seen here now now' h = follows seen here (End h.1.0) [] now now' refl h.1.1
hears ReadFault notice seen here now now' h = follows seen here (LinkFailed h.1.0) [] now now' refl h.1.1

reads_on : (unread : List ℕ) (notice : Noticed) (seen here : Seen Ticket) (calls : List wire.Call) (now now' : board.Seen) → ReadsOn steps unread notice seen now calls here now' → OneBrought seen here
reads_on [] notice seen here calls now now' h = hears h.0 notice seen here now now' h.2
reads_on (byte ∷ bytes) notice seen here calls now now' h = arrives (byte ∷ bytes) notice seen here now now' h.1

reads_if : (reads : Bool) (notice : Noticed) (seen here : Seen Ticket) (calls : List wire.Call) (now now' : board.Seen) → ReadsIf steps reads notice seen now calls here now' → OneBrought seen here
reads_if true notice seen here calls now now' h = reads_on seen.unread notice seen here calls now now' h
reads_if false notice seen here calls now now' h = stays seen here h.2.0

one_brought : (notice : Noticed) (seen here : Seen Ticket) (calls : List wire.Call) (now now' : board.Seen) (moved : Option ℕ) → TurnsOne steps notice seen now calls here now' moved → OneBrought seen here
one_brought notice seen here calls now now' moved t =
    let half : Seen Ticket = record { link = seen.link; history = t.middle; unread = seen.unread } in
    let r = reads_if (is_reading t.middle) notice half here t.read t.half now' t.reads in
    record { link = r.link; brought = brought_then seen.history t.middle here.history (writes_brought seen.link seen.history now t.written t.middle t.half t.sent t.writes) r.brought }

-- A turn.

abbrev pub AllBrought : (before after : List (Seen Ticket)) → Type 0
AllBrought [] [] = Unit {0}
AllBrought [] (here ∷ there) = ⊥
AllBrought (seen ∷ others) [] = ⊥
AllBrought (seen ∷ others) (here ∷ there) = OneBrought seen here × AllBrought others there

all_still : (seens : List (Seen Ticket)) → AllBrought seens seens
all_still [] = tt
all_still (seen ∷ others) = (stays seen seen refl, all_still others)

pub turns_brought : (before : List (Seen Ticket)) (now : board.Seen) (part : List wire.Call) (after : List (Seen Ticket)) (now' : board.Seen) (ending : Ending) → Turns steps before now part after now' ending → AllBrought before after
turns_brought before now part after now' ending (All_took _ _ _ _ _ _ is none after_is world_is end) = subst (λ (l : List (Seen Ticket)). AllBrought before l) (is ∙ sym after_is) (all_still before)
turns_brought before now part after now' ending (Takes _ _ _ _ _ _ seen others notice own here half moved other there rest is one enough more calls_are after_is end) =
    subst (λ (l : List (Seen Ticket)). AllBrought l after) (sym is)
    (subst (λ (l : List (Seen Ticket)). AllBrought (seen ∷ others) l) (sym after_is) (one_brought notice seen here own now half moved one, turns_brought others half other there now' rest more))
turns_brought before now part after now' ending (Runs_short _ _ _ _ _ _ seen others here moved is one after_is end) =
    subst (λ (l : List (Seen Ticket)). AllBrought l after) (sym is)
    (subst (λ (l : List (Seen Ticket)). AllBrought (seen ∷ others) l) (sym after_is) (one_brought noticed.NoMemory seen here part now now' moved one, all_still others))
turns_brought before now part after now' ending (Breaks_off _ _ _ _ _ _ none after_is world_is end) = subst (λ (l : List (Seen Ticket)). AllBrought before l) (sym after_is) (all_still before)

-- So handles go on,
pub brought_on : (first : ℕ → History Ticket) (before after : List (Seen Ticket)) → AllBrought before after → AllWentOn first before → AllWentOn first after
brought_on first [] [] all went = tt
brought_on first [] (here ∷ there) all went = absurd all
brought_on first (seen ∷ others) [] all went = absurd all
brought_on first (seen ∷ others) (here ∷ there) all went =
    (subst (λ (n : ℕ). WentOn (first n) here.history) (sym all.0.link) (brought_went (first seen.link) seen.history here.history all.0.brought went.0), brought_on first others there all.1 went.1)

-- their links stay,
pub brought_apart : (link : ℕ) (before after : List (Seen Ticket)) → AllBrought before after → AreApart link after → AreApart link before
brought_apart link [] [] all apart = tt
brought_apart link [] (here ∷ there) all apart = absurd all
brought_apart link (seen ∷ others) [] all apart = absurd all
brought_apart link (seen ∷ others) (here ∷ there) all apart = ((λ e. apart.0 (all.0.link ∙ e)), brought_apart link others there all.1 apart.1)

-- and what they were asked fits its requests still.
abbrev pub AllSpelled : List (Seen Ticket) → Type 0
AllSpelled [] = Unit {0}
AllSpelled (seen ∷ others) = AllSpell seen.history × AllSpelled others

pub plain_spelled : (seens : List (Seen Ticket)) → AllPlain seens → AllSpelled seens
plain_spelled [] plain = tt
plain_spelled (seen ∷ others) plain = (plain.0.spelled, plain_spelled others plain.1)

pub brought_spelled : (before after : List (Seen Ticket)) → AllBrought before after → AllSpelled before → AllSpelled after
brought_spelled [] [] all spelled = tt
brought_spelled [] (here ∷ there) all spelled = absurd all
brought_spelled (seen ∷ others) [] all spelled = absurd all
brought_spelled (seen ∷ others) (here ∷ there) all spelled = (brought_spells seen.history here.history all.0.brought spelled.0, brought_spelled others there all.1 spelled.1)

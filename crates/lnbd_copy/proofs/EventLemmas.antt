-- Of the calls that a handle's part of a turn makes nothing can come by any but the last.
use Rattle.std.proofs.Common.{◌≡◌, ◌⊎◌, inl, inr, ◌&&◌, ◌==◌, not, ℕ, Bool, true, false, List, [], ◌∷◌, ◌++◌, length, Option, Some, None, if◌then◌else◌, refl, ap, sym, subst, ◌∙◌}
use Rattle.std.proofs.lemmas.Bool.{eq-eqb, false≢true}
use Rattle.std.proofs.lemmas.List.{append-nil, append_assoc}
use Rattle.lnbd_callbacks.specs.Calls.{Call}
use Rattle.lnbd_callbacks.specs.Steps.{OneByOne}
use Rattle.lnbd_history.specs.declared.kinds.Stage.{Stage}
use Rattle.lnbd_history.specs.declared.kinds.Stage.TheVariants.{Created, Open, Disconnecting, Aborting, Closed, Dead}
use Rattle.lnbd_history.specs.Answers.{direction_of, is_living, out_after}
use Rattle.lnbd_history.specs.Commands.{Request}
use Rattle.lnbd_history.specs.Entries.{Item, Lost}
use Rattle.lnbd_history.specs.Events.{Answer, History, LinkFailed}
use Rattle.lnbd_history.specs.History.{Known, asked, change, cookies, failed_at, file, file_all, file_under, in_flight, reading, request, with_answers}
use Rattle.lnbd_link.specs.Call as wire
use Rattle.lnbd_link.specs.Call.{Read, ReadTold, Write, WriteTold, Sent, Full, WriteFault}
use Rattle.lnbd_model.specs.declared.state.Cause.TheVariants as cause
use Rattle.lnbd_poll.specs.declared.noticed.Noticed.{Noticed}
use Rattle.lnbd_poll.specs.declared.noticed.Noticed.TheVariants as noticed
use Rattle.lnbd_poll.specs.Notices.{ReadsIf, ReadsOn, Sends, WritesIf, is_reading, is_waiting}
use Rattle.lnbd_poll.specs.Seen.{Seen}
use Rattle.lnbd_poll.specs.Turns.{Goes_on, Stops, TurnsOne, WritesAll, is_lost, is_moved}
use Rattle.lnbd_poll.specs.Turns as turns
use Rattle.lnbd_board.specs.declared.ticket.Ticket.{Ticket}
use Rattle.lnbd_board.specs.Files as board
use Rattle.lnbd_conduct.specs.Decided.{AreWrittenOn, IsOnOneLink, IsOneOn}

abbrev steps : board.Seen → List (Call Ticket) → board.Seen → Type 0
steps = OneByOne board.Files

-- A handle whose link failed reads no more.

one_stage : (asks : Option (Request Ticket)) (cookie : ℕ) (item : Item) (known : Known Ticket) → (file_under asks cookie item known).stage ≡ known.stage
one_stage None cookie item known = refl
one_stage (Some asks) cookie item known = refl

filed_stage : (before : History Ticket) (item : Item) (all : List ℕ) (known : Known Ticket) → (file_all before item all known).stage ≡ known.stage
filed_stage before item [] known = refl
filed_stage before item (cookie ∷ more) known =
    filed_stage before item more (if in_flight before known.entries cookie then file before cookie item known else known)
    ∙ elim (in_flight before known.entries cookie) as (λ b. (if b then file before cookie item known else known).stage ≡ known.stage) [ true ↦ one_stage (request before cookie) cookie item known | false ↦ refl ]

module _ (before : History Ticket) (answers : List Answer) where
  died_stage : is_living (file_all before Lost (cookies (asked before).issued) (record (with_answers answers (reading before).known) { stage = Dead cause.LinkFailed })).stage ≡ false
  died_stage = ap is_living (filed_stage before Lost (cookies (asked before).issued) (record (with_answers answers (reading before).known) { stage = Dead cause.LinkFailed }))

  failed_stage : (stage : Stage) → (reading before).known.stage ≡ stage → is_living (failed_at stage before (change (with_answers answers) (reading before))).known.stage ≡ false
  failed_stage Open is = died_stage
  failed_stage Disconnecting is = died_stage
  failed_stage Aborting is = died_stage
  failed_stage Created is = ap is_living is
  failed_stage Closed is = ap is_living is
  failed_stage (Dead why) is = ap is_living is

  lost_reads : is_reading (LinkFailed answers ∷ before) ≡ false
  lost_reads = ap (λ (b : Bool). not (direction_of b (out_after (LinkFailed answers ∷ before)) == 0)) (failed_stage (reading before).known.stage refl)

-- Its writes.

record Writes (link : ℕ) (calls : List wire.Call) (after : History Ticket) : Type 0 where
  writes : List wire.Call
  last : List wire.Call
  are : calls ≡ writes ++ last
  written : AreWrittenOn link writes
  one : IsOneOn link last
  ends : (last ≡ []) ⊎ (is_reading after ≡ false)

abbrev one_write : (link offered : ℕ) → WriteTold → List wire.Call
one_write link offered told = Write link offered told ∷ []

here : (link : ℕ) → ((link == link) && true) ≡ true
here link = ap (λ (b : Bool). b && true) (eq-eqb link link refl)

no_writes : (link : ℕ) (calls : List wire.Call) (after : History Ticket) → calls ≡ [] → Writes link calls after
no_writes link calls after none = record { writes = []; last = []; are = none; written = tt; one = tt; ends = inl refl }

sends : (told : WriteTold) (link offered : ℕ) (notice : Noticed) (before middle after : History Ticket) (now now' : board.Seen) (calls : List wire.Call) → calls ≡ one_write link offered told → Sends told notice before middle →
    turns.Told steps (is_lost notice) middle now after now' → Writes link calls after
sends (Sent bytes) link offered notice before middle after now now' calls is s told = record { writes = one_write link offered (Sent bytes); last = []; are = is; written = (here link, tt); one = tt; ends = inl refl }
sends Full link offered notice before middle after now now' calls is s told = record { writes = one_write link offered Full; last = []; are = is; written = (here link, tt); one = tt; ends = inl refl }
sends WriteFault link offered notice before middle after now now' calls is s told =
    let lost : turns.Told steps true middle now after now' = subst (λ (n : Noticed). turns.Told steps (is_lost n) middle now after now') s.0 told in
    record {
      writes = [];
      last = one_write link offered WriteFault;
      are = is;
      written = tt;
      one = (refl, refl);
      ends = inr (subst (λ (h : History Ticket). is_reading h ≡ false) (sym lost.1) (lost_reads middle lost.0));
    }

wrote : (waits : Bool) (link : ℕ) (notice : Noticed) (before middle after : History Ticket) (now now' : board.Seen) (calls : List wire.Call) → WritesIf waits link notice before calls middle → turns.Told steps (is_lost notice) middle now after now' → Writes link calls after
wrote true link notice before middle after now now' calls w told = sends w.0 link (length (out_after before)) notice before middle after now now' calls w.1 w.2 told
wrote false link notice before middle after now now' calls w told = no_writes link calls after w.1

-- one that moved bytes
moves : {A : Type 0} (notice other : Noticed) → is_moved notice ≡ true → notice ≡ other → is_moved other ≡ false → A
moves notice other some is none = absurd (false≢true (sym none ∙ sym (ap is_moved is) ∙ some))

sent : (told : WriteTold) (link offered : ℕ) (notice : Noticed) (before middle : History Ticket) (calls : List wire.Call) → calls ≡ one_write link offered told → Sends told notice before middle → is_moved notice ≡ true → AreWrittenOn link calls
sent (Sent bytes) link offered notice before middle calls is s some = subst (AreWrittenOn link) (sym is) (here link, tt)
sent Full link offered notice before middle calls is s some = moves notice noticed.NotReady some s.0 refl
sent WriteFault link offered notice before middle calls is s some = moves notice noticed.LinkFailed some s.0 refl

wrote_on : (waits : Bool) (link : ℕ) (notice : Noticed) (before middle : History Ticket) (calls : List wire.Call) → WritesIf waits link notice before calls middle → is_moved notice ≡ true → AreWrittenOn link calls
wrote_on true link notice before middle calls w some = sent w.0 link (length (out_after before)) notice before middle calls w.1 w.2 some
wrote_on false link notice before middle calls w some = moves notice noticed.Idle some w.0 refl

both_written : (link : ℕ) (one other : List wire.Call) → AreWrittenOn link one → AreWrittenOn link other → AreWrittenOn link (one ++ other)
both_written link [] other a b = b
both_written link (call ∷ one) other a b = (a.0, both_written link one other a.1 b)

all_written : (link : ℕ) (before : History Ticket) (now : board.Seen) (calls : List wire.Call) (after : History Ticket) (now' : board.Seen) (moved : Option ℕ) → WritesAll steps link before now calls after now' moved → Writes link calls after
all_written link before now calls after now' moved (Stops _ _ _ _ _ _ notice w none is) = wrote (is_waiting before) link notice before w.middle after now now' calls w.writes w.told
all_written link before now calls after now' moved (Goes_on _ _ _ _ _ _ notice own middle half other rest w some more calls_are is) =
    let later = all_written link middle half other after now' rest more in
    record {
      writes = own ++ later.writes;
      last = later.last;
      are = calls_are ∙ ap (λ (l : List wire.Call). own ++ l) later.are ∙ sym (append_assoc own later.writes later.last);
      written = both_written link own later.writes (wrote_on (is_waiting before) link notice before w.middle own w.writes some) later.written;
      one = later.one;
      ends = later.ends;
    }

-- Its read.

read_on : (unread : List ℕ) (notice : Noticed) (before after : Seen Ticket) (now now' : board.Seen) (calls : List wire.Call) → ReadsOn steps unread notice before now calls after now' → IsOneOn before.link calls
read_on [] notice before after now now' calls r = subst (IsOneOn before.link) (sym r.1) (refl, refl)
read_on (byte ∷ bytes) notice before after now now' calls r = subst (IsOneOn before.link) (sym r.0) tt

reads : (b : Bool) (notice : Noticed) (before after : Seen Ticket) (now now' : board.Seen) (calls : List wire.Call) → ReadsIf steps b notice before now calls after now' → IsOneOn before.link calls
reads true notice before after now now' calls r = read_on before.unread notice before after now now' calls r
reads false notice before after now now' calls r = subst (IsOneOn before.link) (sym r.1) tt

reads_none : (b : Bool) (notice : Noticed) (before after : Seen Ticket) (now now' : board.Seen) (calls : List wire.Call) → b ≡ false → ReadsIf steps b notice before now calls after now' → calls ≡ []
reads_none true notice before after now now' calls none r = absurd (false≢true (sym none))
reads_none false notice before after now now' calls none r = r.1

-- Its part.
pub on_one_link : (notice : Noticed) (seen here : Seen Ticket) (now now' : board.Seen) (calls : List wire.Call) (moved : Option ℕ) → TurnsOne steps notice seen now calls here now' moved → IsOnOneLink calls
on_one_link notice seen here now now' calls moved t = go w.ends
  where
    w : Writes seen.link t.written t.middle
    w = all_written seen.link seen.history now t.written t.middle t.half t.sent t.writes

    half : Seen Ticket
    half = record { link = seen.link; history = t.middle; unread = seen.unread }

    go : (w.last ≡ []) ⊎ (is_reading t.middle ≡ false) → IsOnOneLink calls
    go (inl none) = record {
      link = seen.link;
      writes = w.writes;
      last = t.read;
      are = t.calls_are ∙ ap (λ (l : List wire.Call). l ++ t.read) (w.are ∙ ap (λ (l : List wire.Call). w.writes ++ l) none ∙ append-nil w.writes);
      written = w.written;
      one = reads (is_reading t.middle) notice half here t.half now' t.read t.reads;
    }
    go (inr off) = record {
      link = seen.link;
      writes = w.writes;
      last = w.last;
      are = t.calls_are ∙ ap (λ (l : List wire.Call). t.written ++ l) (reads_none (is_reading t.middle) notice half here t.half now' t.read off t.reads) ∙ append-nil t.written ∙ w.are;
      written = w.written;
      one = w.one;
    }

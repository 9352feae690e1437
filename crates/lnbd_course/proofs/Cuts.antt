-- A turn that is cut anywhere among its calls: by those before it each handle drives its link, and nothing was asked of it since the turn began.
use Rattle.std.proofs.Common.{◌≡◌, ◌≢◌, ◌==◌, ◌⊎◌, cond, not, inl, inr, ℕ, ◌≤◌, Bool, true, false, List, [], ◌∷◌, ◌++◌, length, take, Option, Some, refl, ap, sym, subst, ◌∙◌, append_assoc, append-nil, arith}
use Rattle.std.proofs.lemmas.Bool.{false≢true}
use Rattle.std.proofs.lemmas.List.{length-take}
use Rattle.lnbd_link.specs.Call as wire
use Rattle.lnbd_link.specs.Numbers.{is_number}
use Rattle.lnbd_link.specs.Call.{Read, Write, ReadTold, WriteTold, Moved, Unready, Ended, ReadFault, Sent, Full, WriteFault}
use Rattle.lnbd_history.specs.Answers.{direction_of, is_living, out_after}
use Rattle.lnbd_history.specs.Commands.{Request}
use Rattle.lnbd_history.specs.Events.{Event, History, Wrote, Arrived, End, LinkFailed}
use Rattle.lnbd_history.specs.History.{reading, request}
use Rattle.lnbd_history.specs.Laws.{CanFollow, Lawful, is_closed}
use Rattle.lnbd_asked.specs.Driven.{Drives, Writes, Writes_none, Reads, Reads_none, Arrives as Comes, Ends, Fails_to_read, Fails_to_write, IsLiving, AllSpell, Spells, outcome_after}
use Rattle.lnbd_asked.specs.Exports.{is_naming, name_set}
use Rattle.lnbd_asked.proofs.Staying.{names_stay}
use Rattle.lnbd_poll.specs.declared.noticed.Noticed.{Noticed}
use Rattle.lnbd_poll.specs.declared.noticed.Noticed.TheVariants as noticed
use Rattle.lnbd_poll.specs.Alone.{AreApart, HaveOwnLinks, calls_on, link_of}
use Rattle.lnbd_poll.specs.Seen.{Seen}
use Rattle.lnbd_poll.specs.Notices.{Hears, ReadsIf, ReadsOn, Sends, WritesIf, is_reading, is_waiting, room_after}
use Rattle.lnbd_poll.specs.Turns.{Told, WritesAll, Stops, Goes_on, TurnsOne, Turns, All_took, Takes, Runs_short, Breaks_off, Ending, is_lost}
use Rattle.lnbd_drives.proofs.Modes.{mode, arrived_mode, end_mode, fault_mode}
use Rattle.lnbd_drives.proofs.Passing.{passes}
use Rattle.lnbd_drives.proofs.Taking.{part_off}
use Rattle.lnbd_drives.proofs.Turning.{turns_pass_others}
use Rattle.lnbd_board.specs.declared.ticket.Ticket.{Ticket}
use Rattle.lnbd_board.specs.Files as board
use Rattle.lnbd_tracks.specs.Laws.{IsDone}
use Rattle.lnbd_tracks.specs.Tracks.{is_issue}
use Rattle.lnbd_tracks.proofs.Staying.{done_stays}
use Rattle.lnbd_tracks.proofs.Unfiled.{request_stays}
use Rattle.lnbd_course.proofs.Turning.{steps}

-- Lists.

tail_same : {A : Type 0} (x y : A) (xs ys : List A) → x ∷ xs ≡ y ∷ ys → xs ≡ ys
tail_same x y xs ys e = cc

head_same : {A : Type 0} (x y : A) (xs ys : List A) → x ∷ xs ≡ y ∷ ys → x ≡ y
head_same x y xs ys e = cc

-- a front ends within the first part
pub record InFirst {A : Type 0} (xs front : List A) : Type 0 where
  pub rest : List A
  pub is : xs ≡ front ++ rest

-- or it has the first part and a front of the second
pub record InSecond {A : Type 0} (xs ys front back : List A) : Type 0 where
  pub more : List A
  pub front_is : front ≡ xs ++ more
  pub is : ys ≡ more ++ back

pub cut : {A : Type 0} (xs ys front back : List A) → xs ++ ys ≡ front ++ back → InFirst xs front ⊎ InSecond xs ys front back
cut [] ys front back e = inr (record { more = front; front_is = refl; is = e })
cut (x ∷ xs) ys [] back e = inl (record { rest = x ∷ xs; is = refl })
cut {A} (x ∷ xs) ys (y ∷ front) back e = go (cut xs ys front back (tail_same x y (xs ++ ys) (front ++ back) e)) (head_same x y (xs ++ ys) (front ++ back) e)
  where
    go : InFirst xs front ⊎ InSecond xs ys front back → x ≡ y → InFirst (x ∷ xs) (y ∷ front) ⊎ InSecond (x ∷ xs) ys (y ∷ front) back
    go (inl i) same = inl (record { rest = i.rest; is = ap (λ (h : A). h ∷ xs) same ∙ ap (λ (l : List A). y ∷ l) i.is })
    go (inr i) same = inr (record { more = i.more; front_is = ap (λ (h : A). h ∷ front) (sym same) ∙ ap (λ (l : List A). x ∷ l) i.front_is; is = i.is })

-- one call at most
record IsShort (own : List wire.Call) : Type 0 where
  alone : (own ≡ []) ⊎ ((call : wire.Call) × (own ≡ call ∷ []))

short_none : (own : List wire.Call) → own ≡ [] → IsShort own
short_none own is = record { alone = inl is }

short_one : (own : List wire.Call) (call : wire.Call) → own ≡ call ∷ [] → IsShort own
short_one own call is = record { alone = inr (call, is) }

cut_short : (own other front back : List wire.Call) → IsShort own → own ++ other ≡ front ++ back → (front ≡ []) ⊎ InSecond own other front back
cut_short own other front back short e = go front e short.alone
  where
    go : (front : List wire.Call) → own ++ other ≡ front ++ back → (own ≡ []) ⊎ ((call : wire.Call) × (own ≡ call ∷ [])) → (front ≡ []) ⊎ InSecond own other front back
    go [] e one = inl refl
    go (call ∷ front) e (inl none) = inr (record { more = call ∷ front; front_is = ap (λ (l : List wire.Call). l ++ call ∷ front) (sym none); is = ap (λ (l : List wire.Call). l ++ other) (sym none) ∙ e })
    go (call ∷ front) e (inr one) =
        let all : one.0 ∷ other ≡ call ∷ front ++ back = ap (λ (l : List wire.Call). l ++ other) (sym one.1) ∙ e in
        inr (record {
          more = front;
          front_is = ap (λ (c : wire.Call). c ∷ front) (sym (head_same one.0 call other (front ++ back) all)) ∙ ap (λ (l : List wire.Call). l ++ front) (sym one.1);
          is = tail_same one.0 call other (front ++ back) all;
        })

first_none : (front back : List wire.Call) → [] ≡ front ++ back → front ≡ []
first_none [] back e = refl
first_none (call ∷ front) back e = absurd (cc)

-- none of a front is on a link where none of all is
pub front_off : (link : ℕ) (front back : List wire.Call) → calls_on link (front ++ back) ≡ [] → calls_on link front ≡ []
front_off link [] back none = refl
front_off link (call ∷ front) back none = go (is_number link (link_of call)) none (λ rest. front_off link front back rest)
  where
    go : (b : Bool) → cond b (call ∷ calls_on link (front ++ back)) (calls_on link (front ++ back)) ≡ [] → (calls_on link (front ++ back) ≡ [] → calls_on link front ≡ []) → cond b (call ∷ calls_on link front) (calls_on link front) ≡ []
    go true e rest = absurd (cc)
    go false e rest = rest e

-- Only a living handle reads or writes.

living_waits : (b : Bool) (bytes : List ℕ) → (direction_of b bytes == 3) ≡ true → b ≡ true
living_waits true bytes e = refl
living_waits false bytes e = absurd (false≢true e)

living_reads : (b : Bool) (bytes : List ℕ) → not (direction_of b bytes == 0) ≡ true → b ≡ true
living_reads true bytes e = refl
living_reads false bytes e = absurd (false≢true e)

told_none : (lost : Bool) (middle after : History Ticket) (world world' : board.Seen) → lost ≡ false → Told steps lost middle world after world' → after ≡ middle
told_none false middle after world world' is t = t.0
told_none true middle after world world' is t = absurd (false≢true (sym is))

-- A handle.

-- By these calls a handle drives its link, and all that was read has arrived. Its history is lawful, the commands fit their requests, and opt mode is off. Since it was an older one
-- nothing was asked and no name was set; and what was done is done.
pub record Fits (link : ℕ) (calls : List wire.Call) (limit : ℕ) (old history : History Ticket) : Type 0 where
  pub drives : Drives link calls history []
  pub spelled : AllSpell history
  pub off : mode history ≡ false
  pub lawful : Lawful limit history
  pub going : is_closed history ≡ false
  pub requests : (cookie : ℕ) → request history cookie ≡ request old cookie
  pub name : name_set history ≡ name_set old
  pub done : (cookie : ℕ) (asks : Request Ticket) → request old cookie ≡ Some asks → IsDone (outcome_after old cookie) → IsDone (outcome_after history cookie)

with_drives : (link limit : ℕ) (calls after : List wire.Call) (old history : History Ticket) → Fits link calls limit old history → Drives link after history [] → Fits link after limit old history
with_drives link limit calls after old history f d = record { drives = d; spelled = f.spelled; off = f.off; lawful = f.lawful; going = f.going; requests = f.requests; name = f.name; done = f.done }

fits_past : (link limit : ℕ) (calls more : List wire.Call) (old history : History Ticket) → Fits link calls limit old history → calls_on link more ≡ [] → Fits link (calls ++ more) limit old history
fits_past link limit calls more old history f none = with_drives link limit calls (calls ++ more) old history f (passes link calls history [] more f.drives none)

no_more : (link limit : ℕ) (calls own : List wire.Call) (old history : History Ticket) → own ≡ [] → Fits link calls limit old history → Fits link (calls ++ own) limit old history
no_more link limit calls own old history none f = subst (λ (cs : List wire.Call). Fits link cs limit old history) (sym (append-nil calls) ∙ ap (λ (l : List wire.Call). calls ++ l) (sym none)) f

event_fits : (link limit : ℕ) (calls after : List wire.Call) (old before : History Ticket) (event : Event Ticket) → Fits link calls limit old before → is_issue event ≡ false → is_naming event ≡ false → Spells before event → CanFollow limit before event → is_closed (event ∷ before) ≡ false →
    mode (event ∷ before) ≡ mode before → Drives link after (event ∷ before) [] → Fits link after limit old (event ∷ before)
event_fits link limit calls after old before event f other unnamed spells can going same d = record {
  drives = d;
  spelled = (spells, f.spelled);
  off = same ∙ f.off;
  lawful = (f.lawful, f.going, can);
  going = going;
  requests = λ cookie. request_stays before event cookie other ∙ f.requests cookie;
  name = names_stay before event unnamed ∙ f.name;
  done = λ cookie asks is so. done_stays before event cookie asks (f.requests cookie ∙ is) (f.done cookie asks is so);
}

-- some history of it fits
pub record CutAt (link : ℕ) (calls : List wire.Call) (limit : ℕ) (old : History Ticket) : Type 0 where
  pub history : History Ticket
  pub fits : Fits link calls limit old history

-- what a write took is no more than was offered
takes_less : (bytes offered : List ℕ) → bytes ≡ take (length bytes) offered → length bytes ≤ length offered
takes_less bytes offered is =
    let many : length bytes ≡ length (take (length bytes) offered) = ap (λ (l : List ℕ). length l) is in
    let least = length-take (length bytes) offered in
    omega (arith, many, least)

module _ (link limit : ℕ) (old : History Ticket) where
  -- Writes.

  sends_fit : (calls : List wire.Call) (before middle after : History Ticket) (world world' : board.Seen) (offered : ℕ) (notice : Noticed) (told : WriteTold) → IsLiving before → Sends told notice before middle →
      Told steps (is_lost notice) middle world after world' → Fits link calls limit old before → Fits link (calls ++ Write link offered told ∷ []) limit old after
  sends_fit calls before middle after world world' offered notice (Sent bytes) living s t f =
      let is : after ≡ Wrote (length bytes) ∷ before = told_none (is_lost notice) middle after world world' (ap is_lost s.0) t ∙ s.3 in
      subst (λ (h : History Ticket). Fits link (calls ++ Write link offered (Sent bytes) ∷ []) limit old h) (sym is)
      (event_fits link limit calls (calls ++ Write link offered (Sent bytes) ∷ []) old before (Wrote (length bytes)) f refl refl tt (takes_less bytes (out_after before) s.2) refl refl
      (Writes calls before offered bytes _ f.drives s.2 refl))
  sends_fit calls before middle after world world' offered notice Full living s t f =
      let is : after ≡ before = told_none (is_lost notice) middle after world world' (ap is_lost s.0) t ∙ s.1 in
      subst (λ (h : History Ticket). Fits link (calls ++ Write link offered Full ∷ []) limit old h) (sym is)
      (with_drives link limit calls (calls ++ Write link offered Full ∷ []) old before f (Writes_none calls before [] offered _ f.drives refl))
  sends_fit calls before middle after world world' offered notice WriteFault living s t f =
      let told = subst (λ (b : Bool). Told steps b middle world after world') (ap is_lost s.0) t in
      let is : after ≡ LinkFailed told.0 ∷ before = told.1 ∙ ap (λ (h : History Ticket). LinkFailed told.0 ∷ h) s.1 in
      subst (λ (h : History Ticket). Fits link (calls ++ Write link offered WriteFault ∷ []) limit old h) (sym is)
      (event_fits link limit calls (calls ++ Write link offered WriteFault ∷ []) old before (LinkFailed told.0) f refl refl tt tt refl (fault_mode before told.0) (Fails_to_write calls before offered told.0 _ f.drives living refl))

  writes_fit : (b : Bool) (calls own : List wire.Call) (before middle after : History Ticket) (world world' : board.Seen) (notice : Noticed) → is_waiting before ≡ b → WritesIf b link notice before own middle →
      Told steps (is_lost notice) middle world after world' → Fits link calls limit old before → Fits link (calls ++ own) limit old after
  writes_fit false calls own before middle after world world' notice is w t f =
      let same : after ≡ before = told_none (is_lost notice) middle after world world' (ap is_lost w.0) t ∙ w.2 in
      subst (λ (h : History Ticket). Fits link (calls ++ own) limit old h) (sym same) (no_more link limit calls own old before w.1 f)
  writes_fit true calls own before middle after world world' notice is w t f =
      subst (λ (l : List wire.Call). Fits link (calls ++ l) limit old after) (sym w.1)
      (sends_fit calls before middle after world world' (length (out_after before)) notice w.0 (living_waits (is_living (reading before).known.stage) (out_after before) is) w.2 t f)

  writes_short : (b : Bool) (own : List wire.Call) (before middle : History Ticket) (notice : Noticed) → WritesIf b link notice before own middle → IsShort own
  writes_short false own before middle notice w = short_none own w.1
  writes_short true own before middle notice w = short_one own (Write link (length (out_after before)) w.0) w.1

  all_fit : (calls : List wire.Call) (before : History Ticket) (world : board.Seen) (own : List wire.Call) (after : History Ticket) (world' : board.Seen) (moved : Option ℕ) → WritesAll steps link before world own after world' moved →
      Fits link calls limit old before → Fits link (calls ++ own) limit old after
  all_fit calls before world own after world' moved (Stops _ _ _ _ _ _ notice w none is) f = writes_fit (is_waiting before) calls own before w.middle after world world' notice refl w.writes w.told f
  all_fit calls before world own after world' moved (Goes_on _ _ _ _ _ _ notice mine middle half other rest w some others is moved_is) f =
      subst (λ (l : List wire.Call). Fits link l limit old after) (append_assoc calls mine other ∙ ap (λ (l : List wire.Call). calls ++ l) (sym is))
      (all_fit (calls ++ mine) middle half other after world' rest others (writes_fit (is_waiting before) calls mine before w.middle middle world half notice refl w.writes w.told f))

  all_cut : (calls : List wire.Call) (before : History Ticket) (world : board.Seen) (own : List wire.Call) (after : History Ticket) (world' : board.Seen) (moved : Option ℕ) (front back : List wire.Call) → WritesAll steps link before world own after world' moved →
      own ≡ front ++ back → Fits link calls limit old before → CutAt link (calls ++ front) limit old
  all_cut calls before world own after world' moved front back (Stops _ _ _ _ _ _ notice w none is) e f =
      go (cut_short own [] front back (writes_short (is_waiting before) own before w.middle notice w.writes) (append-nil own ∙ e))
    where
      go : (front ≡ []) ⊎ InSecond own [] front back → CutAt link (calls ++ front) limit old
      go (inl first) = record { history = before; fits = no_more link limit calls front old before first f }
      go (inr i) =
          let whole : own ≡ front = sym (append-nil own) ∙ ap (λ (l : List wire.Call). own ++ l) (sym (first_none i.more back i.is)) ∙ sym i.front_is in
          record { history = after; fits = subst (λ (l : List wire.Call). Fits link (calls ++ l) limit old after) whole (writes_fit (is_waiting before) calls own before w.middle after world world' notice refl w.writes w.told f) }
  all_cut calls before world own after world' moved front back (Goes_on _ _ _ _ _ _ notice mine middle half other rest w some others is moved_is) e f =
      go (λ (more : List wire.Call) there. all_cut (calls ++ mine) middle half other after world' rest more back others there (writes_fit (is_waiting before) calls mine before w.middle middle world half notice refl w.writes w.told f))
      (cut_short mine other front back (writes_short (is_waiting before) mine before w.middle notice w.writes) (sym is ∙ e))
    where
      go : ((more : List wire.Call) → other ≡ more ++ back → CutAt link ((calls ++ mine) ++ more) limit old) → (front ≡ []) ⊎ InSecond mine other front back → CutAt link (calls ++ front) limit old
      go later (inl first) = record { history = before; fits = no_more link limit calls front old before first f }
      go later (inr i) = subst (λ (l : List wire.Call). CutAt link l limit old) (append_assoc calls mine i.more ∙ ap (λ (l : List wire.Call). calls ++ l) (sym i.front_is)) (later i.more i.is)

-- Reads. What was read arrives as a whole, whether there was memory for all of it or not.

module _ (limit : ℕ) (old : History Ticket) where
  hears_cut : (calls : List wire.Call) (told : ReadTold) (notice : Noticed) (before after : Seen Ticket) (world world' : board.Seen) → IsLiving before.history → Hears steps told notice before after world world' →
      Fits before.link calls limit old before.history → CutAt before.link (calls ++ Read before.link (room_after before.history) told ∷ []) limit old
  hears_cut calls (Moved bytes) notice before after world world' living h f = record {
    history = Arrived bytes [] ∷ before.history;
    fits = event_fits before.link limit calls (calls ++ Read before.link (room_after before.history) (Moved bytes) ∷ []) old before.history (Arrived bytes []) f refl refl tt living refl (arrived_mode before.history bytes [])
        (Comes _ before.history bytes bytes [] [] (Reads calls before.history [] (room_after before.history) bytes _ bytes f.drives refl refl) (sym (append-nil bytes)));
  }
  hears_cut calls Unready notice before after world world' living h f = record {
    history = before.history;
    fits = with_drives before.link limit calls (calls ++ Read before.link (room_after before.history) Unready ∷ []) old before.history f (Reads_none calls before.history [] (room_after before.history) _ f.drives refl);
  }
  hears_cut calls Ended notice before after world world' living h f = record {
    history = End [] ∷ before.history;
    fits = event_fits before.link limit calls (calls ++ Read before.link (room_after before.history) Ended ∷ []) old before.history (End []) f refl refl tt tt refl (end_mode before.history [])
        (Ends calls before.history (room_after before.history) [] _ f.drives living refl);
  }
  hears_cut calls ReadFault notice before after world world' living h f = record {
    history = LinkFailed [] ∷ before.history;
    fits = event_fits before.link limit calls (calls ++ Read before.link (room_after before.history) ReadFault ∷ []) old before.history (LinkFailed []) f refl refl tt tt refl (fault_mode before.history [])
        (Fails_to_read calls before.history (room_after before.history) [] _ f.drives living refl);
  }

  reads_cut : (b : Bool) (calls own front back : List wire.Call) (notice : Noticed) (before after : Seen Ticket) (world world' : board.Seen) → is_reading before.history ≡ b → before.unread ≡ [] → ReadsIf steps b notice before world own after world' →
      own ≡ front ++ back → Fits before.link calls limit old before.history → CutAt before.link (calls ++ front) limit old
  reads_cut false calls own front back notice before after world world' is none reads e f =
      record { history = before.history; fits = no_more before.link limit calls front old before.history (first_none front back (sym reads.1 ∙ e)) f }
  reads_cut true calls own front back notice before after world world' is none reads e f =
      go (cut_short own [] front back (short_one own (Read before.link (room_after before.history) on.0) on.1) (append-nil own ∙ e))
    where
      on : ReadsOn steps [] notice before world own after world'
      on = subst (λ (u : List ℕ). ReadsOn steps u notice before world own after world') none reads

      go : (front ≡ []) ⊎ InSecond own [] front back → CutAt before.link (calls ++ front) limit old
      go (inl first) = record { history = before.history; fits = no_more before.link limit calls front old before.history first f }
      go (inr i) =
          let whole : own ≡ front = sym (append-nil own) ∙ ap (λ (l : List wire.Call). own ++ l) (sym (first_none i.more back i.is)) ∙ sym i.front_is in
          subst (λ (l : List wire.Call). CutAt before.link (calls ++ l) limit old) (sym on.1 ∙ whole)
          (hears_cut calls on.0 notice before after world world' (living_reads (is_living (reading before.history).known.stage) (out_after before.history) is) on.2 f)

  -- A handle's part.
  one_cut : (calls own front back : List wire.Call) (notice : Noticed) (before after : Seen Ticket) (world world' : board.Seen) (moved : Option ℕ) → TurnsOne steps notice before world own after world' moved → before.unread ≡ [] →
      own ≡ front ++ back → Fits before.link calls limit old before.history → CutAt before.link (calls ++ front) limit old
  one_cut calls own front back notice before after world world' moved t none e f = go (cut t.written t.read front back (sym t.calls_are ∙ e))
    where
      go : InFirst t.written front ⊎ InSecond t.written t.read front back → CutAt before.link (calls ++ front) limit old
      go (inl i) = all_cut before.link limit old calls before.history world t.written t.middle t.half t.sent front i.rest t.writes i.is f
      go (inr i) =
          subst (λ (l : List wire.Call). CutAt before.link l limit old) (append_assoc calls t.written i.more ∙ ap (λ (l : List wire.Call). calls ++ l) (sym i.front_is))
          (reads_cut (is_reading t.middle) (calls ++ t.written) t.read i.more back notice (record { link = before.link; history = t.middle; unread = before.unread }) after t.half world' refl none t.reads i.is
          (all_fit before.link limit old calls before.history world t.written t.middle t.half t.sent t.writes f))

-- All handles.

pub record FitsNow (calls : List wire.Call) (seen : Seen Ticket) : Type 0 where
  pub limit : ℕ
  pub fits : Fits seen.link calls limit seen.history seen.history
  pub unread : seen.unread ≡ []

abbrev pub AllFit : List wire.Call → List (Seen Ticket) → Type 0
AllFit calls [] = Unit {0}
AllFit calls (seen ∷ others) = FitsNow calls seen × AllFit calls others

pub record IsCut (calls : List wire.Call) (seen : Seen Ticket) : Type 0 where
  pub limit : ℕ
  pub at : CutAt seen.link calls limit seen.history

abbrev pub AllCut : List wire.Call → List (Seen Ticket) → Type 0
AllCut calls [] = Unit {0}
AllCut calls (seen ∷ others) = IsCut calls seen × AllCut calls others

fit_past : (calls more : List wire.Call) (seen : Seen Ticket) → calls_on seen.link more ≡ [] → FitsNow calls seen → FitsNow (calls ++ more) seen
fit_past calls more seen none f = record { limit = f.limit; fits = fits_past seen.link f.limit calls more seen.history seen.history f.fits none; unread = f.unread }

fit_cut : (calls : List wire.Call) (seens : List (Seen Ticket)) → AllFit calls seens → AllCut calls seens
fit_cut calls [] fit = tt
fit_cut calls (seen ∷ others) fit = (record { limit = fit.0.limit; at = record { history = seen.history; fits = fit.0.fits } }, fit_cut calls others fit.1)

all_past : (calls more : List wire.Call) (link : ℕ) (others : List (Seen Ticket)) → ((n : ℕ) → link ≢ n → calls_on n more ≡ []) → AreApart link others → AllFit calls others → AllFit (calls ++ more) others
all_past calls more link [] off apart fit = tt
all_past calls more link (seen ∷ others) off apart fit = (fit_past calls more seen (off seen.link (λ is. apart.0 (sym is))) fit.0, all_past calls more link others off apart.1 fit.1)

front_none : (front back : List wire.Call) → [] ≡ front ++ back → front ≡ []
front_none [] back e = refl
front_none (call ∷ front) back e = absurd (cc e)

pub turns_cut : (calls : List wire.Call) (before : List (Seen Ticket)) (now : board.Seen) (part front back : List wire.Call) (after : List (Seen Ticket)) (now' : board.Seen) (ending : Ending) → Turns steps before now part after now' ending →
    part ≡ front ++ back → HaveOwnLinks before → AllFit calls before → AllCut (calls ++ front) before
turns_cut calls before now part front back after now' ending (All_took _ _ _ _ _ _ is none after_is world_is end) e own fit = subst (AllCut (calls ++ front)) (sym is) tt
turns_cut calls before now part front back after now' ending (Takes _ _ _ _ _ _ seen others notice mine here half moved other there rest is turns enough more calls_are after_is end) e own fit =
    subst (AllCut (calls ++ front)) (sym is)
    (go (λ (rest_front : List wire.Call) there_is. turns_cut (calls ++ mine) others half other rest_front back there now' rest more there_is links.1 (all_past calls mine seen.link others off links.0 fit'.1))
    (cut mine other front back (sym calls_are ∙ e)))
  where
    fit' : AllFit calls (seen ∷ others)
    fit' = subst (AllFit calls) is fit

    links : HaveOwnLinks (seen ∷ others)
    links = subst HaveOwnLinks is own

    off : (n : ℕ) → seen.link ≢ n → calls_on n mine ≡ []
    off n differ = part_off steps n notice seen now mine here half moved differ turns

    go : ((later : List wire.Call) → other ≡ later ++ back → AllCut ((calls ++ mine) ++ later) others) → InFirst mine front ⊎ InSecond mine other front back → AllCut (calls ++ front) (seen ∷ others)
    go each (inl i) = (
      record { limit = fit'.0.limit; at = one_cut fit'.0.limit seen.history calls mine front i.rest notice seen here now half moved turns fit'.0.unread i.is fit'.0.fits },
      fit_cut (calls ++ front) others
          (all_past calls front seen.link others (λ n differ. front_off n front i.rest (sym (ap (calls_on n) i.is) ∙ off n differ)) links.0 fit'.1),
    )
    go each (inr i) =
        let whole = one_cut fit'.0.limit seen.history calls mine mine [] notice seen here now half moved turns fit'.0.unread (sym (append-nil mine)) fit'.0.fits in
        let quiet : calls_on seen.link i.more ≡ [] = front_off seen.link i.more back (sym (ap (calls_on seen.link) i.is) ∙ turns_pass_others steps seen.link other others there half now' rest links.0 more) in
        subst (λ (l : List wire.Call). AllCut l (seen ∷ others)) (append_assoc calls mine i.more ∙ ap (λ (l : List wire.Call). calls ++ l) (sym i.front_is)) (
          record { limit = fit'.0.limit; at = record { history = whole.history; fits = fits_past seen.link fit'.0.limit (calls ++ mine) i.more seen.history whole.history whole.fits quiet } },
          each i.more i.is,
        )
turns_cut calls before now part front back after now' ending (Runs_short _ _ _ _ _ _ seen others here moved is turns after_is end) e own fit =
    let fit' = subst (AllFit calls) is fit in
    let links = subst HaveOwnLinks is own in
    subst (AllCut (calls ++ front)) (sym is) (
      record { limit = fit'.0.limit; at = one_cut fit'.0.limit seen.history calls part front back noticed.NoMemory seen here now now' moved turns fit'.0.unread e fit'.0.fits },
      fit_cut (calls ++ front) others
          (all_past calls front seen.link others (λ n differ. front_off n front back (sym (ap (calls_on n) e) ∙ part_off steps n noticed.NoMemory seen now part here now' moved differ turns)) links.0 fit'.1),
    )
turns_cut calls before now part front back after now' ending (Breaks_off _ _ _ _ _ _ none after_is world_is end) e own fit =
    subst (λ (l : List wire.Call). AllCut l before) (sym (ap (λ (l : List wire.Call). calls ++ l) (front_none front back (sym none ∙ e)) ∙ append-nil calls)) (fit_cut calls before fit)

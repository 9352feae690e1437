-- One read and one write of a session, from what its handle and its link noticed.
use Rattle.std.proofs.Common.{◌≡◌, ◌≤◌, inl, inr, ℕ, Bool, true, false, List, [], ◌∷◌, length, take, string_bytes, Option, Some, None, Result, Ok, OnOk, refl, sym, ◌∙◌, ap, subst}
use Rattle.std.proofs.lemmas.Bool.{false≢true}
use Rattle.lnbd_model.specs.declared.fault.NoMemory.{NoMemory}
use Rattle.lnbd_history.specs.Events.{Event as Happening, History, Arrived, End, LinkFailed, Wrote}
use Rattle.lnbd_machine.specs.Machine.{Machine}
use Rattle.lnbd_machine.proofs.Right.{calls_are_told}
use Rattle.lnbd_standing.specs.Standing.{StandsFor}
use Rattle.lnbd_handle.specs.Histories.{Plays}
use Rattle.lnbd_handle.specs.Placing.{Handled}
use Rattle.lnbd_link.specs.Call.{Call, ReadTold, WriteTold, Moved, Unready, Ended, ReadFault, Sent, Full, WriteFault}
use Rattle.lnbd_link.specs.Count.{Rises}
use Rattle.lnbd_poll.specs.declared.noticed.Noticed.{Noticed}
use Rattle.lnbd_poll.specs.declared.noticed.Noticed.TheVariants as noticed
use Rattle.lnbd_poll.specs.Seen as poll
use Rattle.lnbd_poll.specs.Notices.{Hears, ReadsIf, ReadsOnce, Sends, WritesIf, WritesOnce}
use Rattle.lnbd_poll.specs.Turns.{Told, is_lost, is_moved, is_short}
use Rattle.lnbd_script.specs.declared.event.Event.{Event}
use Rattle.lnbd_script.specs.declared.event.Event.TheVariants.{Link}
use Rattle.lnbd_script.specs.declared.keeper.Keeper.{Keeper}
use Rattle.lnbd_script.specs.declared.keeper.Heeded.{Heeded}
use Rattle.lnbd_script.specs.declared.session.Session.{Session}
use Rattle.lnbd_script.specs.declared.told.Moved.{Moved as Transfer}
use Rattle.lnbd_script.specs.declared.told.Told.TheVariants as told
use Rattle.lnbd_script.specs.Kept.{Heeds, tally_of}
use Rattle.lnbd_script.specs.KeptLaws.{heeds_none}
use Rattle.lnbd_script.specs.Lines.{ReadsOn, WritesOn}
use Rattle.lnbd_script.specs.Seen.{Counts, Goes, IsAt, Seen, is_link}
use Rattle.lnbd_script.specs.Steps.{is_bytes, moved_end, moved_of, noticing, read_answer}
use Rattle.lnbd_script.specs.Turns.{is_reading, is_waiting, read_call, write_call}
use Rattle.lnbd_script.proofs.SeenLemmas.{either_no_link, follow, met_by, met_no_link}

module _ (old : Session) (handle : Handled Keeper) (heeded : Heeded) (seen : Seen) (at : IsAt seen old) where
  abbrev with_first : Option Event → Session
  with_first first = record { handle = handle; link = old.link; heeded = heeded; first = first }

  -- the session once it has noted what was noticed
  abbrev noted : Noticed → Session
  noted notice = with_first (noticing notice old.first (met_by handle.machine heeded))

  noted_as : (notice other : Noticed) (after : Seen) → notice ≡ other → IsAt after (noted other) → IsAt after (noted notice)
  noted_as notice other after is there = subst (λ (n : Noticed). IsAt after (noted n)) (sym is) there

  -- nothing happened
  stays : (first : Option Event) → StandsFor 1024 seen.history handle.machine → heeded ≡ old.heeded → first ≡ old.first → IsAt seen (with_first first)
  stays first stands same is = record {
    stands = stands;
    link = at.link;
    first = is ∙ at.first;
    answered = at.answered;
    tally = ap (λ (h : Heeded). tally_of h) same ∙ at.tally;
    shown = at.shown;
    heard = λ e. ap (λ (h : Heeded). string_bytes h.heard) same ∙ at.heard (sym (ap (λ (h : Heeded). h.hears) same) ∙ e);
    freed = ap (λ (h : Heeded). h.freed) same ∙ at.freed;
  }

  module _ (link : ℕ) where
    abbrev here : poll.Seen Keeper
    here = record { link = link; history = seen.history; unread = [] }

    -- where the handle stands after what a read brought
    stands_after : (happening : Happening Keeper) (unread : List ℕ) (after : poll.Seen Keeper) → after ≡ record { link = link; history = happening ∷ seen.history; unread = unread } → StandsFor 1024 after.history handle.machine → StandsFor 1024 (happening ∷ seen.history) handle.machine
    stands_after happening unread after is stands = subst (λ (s : poll.Seen Keeper). StandsFor 1024 s.history handle.machine) is stands

    heard : (answer : ReadTold) (notice : Noticed) (calls : List Call) (after : poll.Seen Keeper) → calls ≡ read_call link seen.history answer ∷ [] → StandsFor 1024 after.history handle.machine → Hears Heeds answer notice here after old.heeded heeded
        → (x : Seen) × ReadsOn true (Some link) seen calls x (moved_end (read_answer notice)) × IsAt x (noted notice)
    heard (Moved bytes) (noticed.Moved n) calls after is stands h =
        let f = follow seen old handle heeded (Arrived bytes h.1.1.0) None at refl (stands_after (Arrived bytes h.1.1.0) [] after h.1.1.1.is stands) h.1.1.1.plays in
        (f.0, (Moved bytes, is, inl (ap (λ (k : ℕ). moved_end (read_answer (noticed.Moved k))) h.1.0, (h.0, h.1.1.0, f.1))), f.2)
    heard (Moved bytes) noticed.NoMemory calls after is stands h =
        let f = follow seen old handle heeded (Arrived (take h.1.0 bytes) h.1.2.0) None at refl (stands_after (Arrived (take h.1.0 bytes) h.1.2.0) _ after h.1.2.1.is stands) h.1.2.1.plays in
        (f.0, (Moved bytes, is, inr (refl, (h.1.0, h.1.2.0, h.1.1, f.1))), f.2)
    heard (Moved bytes) noticed.NotReady calls after is stands h = absurd h.1
    heard (Moved bytes) noticed.Idle calls after is stands h = absurd h.1
    heard (Moved bytes) noticed.Ended calls after is stands h = absurd h.1
    heard (Moved bytes) noticed.LinkFailed calls after is stands h = absurd h.1
    heard Unready notice calls after is stands h = (
      seen,
      (Unready, is, inl (ap (λ (n : Noticed). moved_end (read_answer n)) h.0, refl)),
      noted_as notice noticed.NotReady seen h.0 (stays old.first (subst (λ (s : poll.Seen Keeper). StandsFor 1024 s.history handle.machine) h.1.0 stands) h.1.1 refl),
    )
    heard Ended notice calls after is stands h =
        let f = follow seen old handle heeded (End h.1.0) None at refl (stands_after (End h.1.0) [] after h.1.1.is stands) h.1.1.plays in
        (f.0, (Ended, is, inl (ap (λ (n : Noticed). moved_end (read_answer n)) h.0, (h.1.0, f.1))), noted_as notice noticed.Ended f.0 h.0 f.2)
    heard ReadFault notice calls after is stands h =
        let f = follow seen old handle heeded (LinkFailed h.1.0) (Some Link) at refl (stands_after (LinkFailed h.1.0) [] after h.1.1.is stands) h.1.1.plays in
        (f.0, (ReadFault, is, inl (ap (λ (n : Noticed). moved_end (read_answer n)) h.0, (h.1.0, f.1))), noted_as notice noticed.LinkFailed f.0 h.0 f.2)

    reads : (notice : Noticed) (b : Bool) (calls : List Call) (after : poll.Seen Keeper) → StandsFor 1024 after.history handle.machine → ReadsIf Heeds b notice here old.heeded calls after heeded
        → (x : Seen) × ReadsOn b (Some link) seen calls x (moved_end (read_answer notice)) × IsAt x (noted notice)
    reads notice true calls after stands r = heard r.0 notice calls after r.1 stands r.2
    reads notice false calls after stands r = (
      seen,
      (r.1, refl, ap (λ (n : Noticed). moved_end (read_answer n)) r.0),
      noted_as notice noticed.Idle seen r.0 (stays old.first (subst (λ (s : poll.Seen Keeper). StandsFor 1024 s.history handle.machine) r.2.0 stands) r.2.1 refl),
    )

    none_heard : (answer : ReadTold) (notice : Noticed) (after : poll.Seen Keeper) → Hears Heeds answer notice here after old.heeded heeded → is_short notice ≡ false → after.unread ≡ []
    none_heard (Moved bytes) (noticed.Moved n) after h whole = ap (λ (s : poll.Seen Keeper). s.unread) h.1.1.1.is
    none_heard (Moved bytes) noticed.NoMemory after h whole = absurd (false≢true (sym whole))
    none_heard (Moved bytes) noticed.NotReady after h whole = absurd h.1
    none_heard (Moved bytes) noticed.Idle after h whole = absurd h.1
    none_heard (Moved bytes) noticed.Ended after h whole = absurd h.1
    none_heard (Moved bytes) noticed.LinkFailed after h whole = absurd h.1
    none_heard Unready notice after h whole = ap (λ (s : poll.Seen Keeper). s.unread) h.1.0
    none_heard Ended notice after h whole = ap (λ (s : poll.Seen Keeper). s.unread) h.1.1.is
    none_heard ReadFault notice after h whole = ap (λ (s : poll.Seen Keeper). s.unread) h.1.1.is

    none_left : (notice : Noticed) (b : Bool) (calls : List Call) (after : poll.Seen Keeper) → ReadsIf Heeds b notice here old.heeded calls after heeded → is_short notice ≡ false → after.unread ≡ []
    none_left notice true calls after r whole = none_heard r.0 notice after r.2 whole
    none_left notice false calls after r whole = ap (λ (s : poll.Seen Keeper). s.unread) r.2.0

    -- What a write took; then the handle is told where the link failed.
    sent : (answer : WriteTold) (notice : Noticed) (calls : List Call) (middle after : History Keeper) → calls ≡ write_call link seen.history answer ∷ [] → Sends answer notice seen.history middle → Told Heeds (is_lost notice) middle old.heeded after heeded
        → StandsFor 1024 after handle.machine → (x : Seen) × WritesOn true (Some link) seen calls x (Ok (told.Moved (moved_of notice))) × IsAt x (noted notice)
    sent (Sent bytes) notice calls middle after is s t stands =
        let kept = subst (λ (n : Noticed). Told Heeds (is_lost n) middle old.heeded after heeded) s.0 t in
        let there = subst (λ (h : History Keeper). StandsFor 1024 h handle.machine) (kept.0 ∙ s.3) stands in
        let plays : Plays Heeds (Wrote (length bytes)) seen.history old.heeded heeded
        = record { calls = []; told = calls_are_told 1024 (Wrote (length bytes)) seen.history there.lawful; world = subst (λ (h : Heeded). Heeds old.heeded [] h) (sym kept.1) (heeds_none old.heeded) } in
        let f = follow seen old handle heeded (Wrote (length bytes)) None at refl there plays in
        (f.0, (Sent bytes, is, ap (λ (n : Noticed). Ok (told.Moved (moved_of n))) s.0, (s.1, s.2, f.1)), noted_as notice (noticed.Moved (length bytes)) f.0 s.0 f.2)
    sent Full notice calls middle after is s t stands =
        let kept = subst (λ (n : Noticed). Told Heeds (is_lost n) middle old.heeded after heeded) s.0 t in (
          seen,
          (Full, is, ap (λ (n : Noticed). Ok (told.Moved (moved_of n))) s.0, refl),
          noted_as notice noticed.NotReady seen s.0 (stays old.first (subst (λ (h : History Keeper). StandsFor 1024 h handle.machine) (kept.0 ∙ s.1) stands) kept.1 refl),
        )
    sent WriteFault notice calls middle after is s t stands =
        let lost = subst (λ (n : Noticed). Told Heeds (is_lost n) middle old.heeded after heeded) s.0 t in
        let there = subst (λ (h : History Keeper). StandsFor 1024 h handle.machine) (lost.1 ∙ ap (λ (h : History Keeper). LinkFailed lost.0 ∷ h) s.1) stands in
        let f = follow seen old handle heeded (LinkFailed lost.0) (Some Link) at refl there (subst (λ (h : History Keeper). Plays Heeds (LinkFailed lost.0) h old.heeded heeded) s.1 lost.2) in
        (f.0, (WriteFault, is, ap (λ (n : Noticed). Ok (told.Moved (moved_of n))) s.0, (lost.0, f.1)), noted_as notice noticed.LinkFailed f.0 s.0 f.2)

    writes : (notice : Noticed) (b : Bool) (calls : List Call) (middle after : History Keeper) → WritesIf b link notice seen.history calls middle → Told Heeds (is_lost notice) middle old.heeded after heeded → StandsFor 1024 after handle.machine
        → (x : Seen) × WritesOn b (Some link) seen calls x (Ok (told.Moved (moved_of notice))) × IsAt x (noted notice)
    writes notice true calls middle after w t stands = sent w.0 notice calls middle after w.1 w.2 t stands
    writes notice false calls middle after w t stands =
        let kept = subst (λ (n : Noticed). Told Heeds (is_lost n) middle old.heeded after heeded) w.0 t in (
          seen,
          (w.1, refl, ap (λ (n : Noticed). Ok (told.Moved (moved_of n))) w.0),
          noted_as notice noticed.Idle seen w.0 (stays old.first (subst (λ (h : History Keeper). StandsFor 1024 h handle.machine) (kept.0 ∙ w.2) stands) kept.1 refl),
        )

-- an answer that tells nothing where memory ran out
if_whole : (notice : Noticed) (P : Type 0) → (is_short notice ≡ false → P) → OnOk (read_answer notice) P
if_whole (noticed.Moved n) P holds = holds refl
if_whole noticed.NotReady P holds = holds refl
if_whole noticed.Idle P holds = holds refl
if_whole noticed.Ended P holds = holds refl
if_whole noticed.LinkFailed P holds = holds refl
if_whole noticed.NoMemory P holds = tt

module _ (a b : Option (List Call)) (old new : Session) (handle : Handled Keeper) (heeded : Heeded) (link : ℕ) (notice : Noticed) where
  abbrev Noted : Type 0
  Noted = new ≡ record { handle = handle; link = old.link; heeded = heeded; first = noticing notice old.first (met_by handle.machine heeded) }

  module _ (inbox inbox' : List ℕ) (none : inbox ≡ [])
      (goes : poll.Goes a b (λ (s : poll.Seen Keeper). poll.IsAt link old.handle.machine inbox s) (λ (s : poll.Seen Keeper). poll.IsAt link handle.machine inbox' s) (λ before calls after. ReadsOnce Heeds notice before old.heeded calls after heeded)) where
    pub read_is : (answer : Result Transfer NoMemory) → answer ≡ read_answer notice → Noted → Goes a b old new (λ before calls after. ReadsOn (is_reading before.history) (Some link) before calls after (moved_end answer))
    read_is answer tells is seen at =
        let w = goes (record { link = link; history = seen.history; unread = [] }) (record { link = refl; stands = at.stands; unread = sym none }) in
        let r = reads old handle heeded seen at link notice (is_reading seen.history) w.calls w.after w.at.stands w.leads in
        record {
          calls = w.calls;
          after = r.0;
          grown = w.grown;
          leads = subst (λ (x : Result Transfer NoMemory). ReadsOn (is_reading seen.history) (Some link) seen w.calls r.0 (moved_end x)) (sym tells) r.1;
          at = subst (λ (s : Session). IsAt r.0 s) (sym is) r.2;
        }

    -- Bytes are left unread only where memory ran out.
    pub read_all : (answer : Result Transfer NoMemory) → answer ≡ read_answer notice → OnOk answer ((seen : Seen) → IsAt seen old → inbox' ≡ [])
    read_all answer tells =
        subst (λ (x : Result Transfer NoMemory). OnOk x ((seen : Seen) → IsAt seen old → inbox' ≡ [])) (sym tells)
        (if_whole notice ((seen : Seen) → IsAt seen old → inbox' ≡ []) (λ whole seen at.
        let w = goes (record { link = link; history = seen.history; unread = [] }) (record { link = refl; stands = at.stands; unread = sym none }) in
        sym w.at.unread ∙ none_left old handle heeded seen at link notice (is_reading seen.history) w.calls w.after w.leads whole))

  -- A write, after which the handle was told where the link failed.
  pub write_is : (between : Machine Keeper) (m : Transfer) → m ≡ moved_of notice
      → poll.Goes a b (λ (h : History Keeper). StandsFor 1024 h old.handle.machine) (λ (h : History Keeper). StandsFor 1024 h between) (λ before calls after. WritesOnce link notice before calls after)
      → ((history : History Keeper) → StandsFor 1024 history between → (after : History Keeper) × Told Heeds (is_lost notice) history old.heeded after heeded × StandsFor 1024 after handle.machine)
      → Noted → Goes a b old new (λ before calls after. WritesOn (is_waiting before.history) (Some link) before calls after (Ok (told.Moved m)))
  write_is between m tells goes tell is seen at =
      let w = goes seen.history at.stands in
      let t = tell w.after w.at in
      let r = writes old handle heeded seen at link notice (is_waiting seen.history) w.calls w.after t.0 w.leads t.1 t.2 in
      record {
        calls = w.calls;
        after = r.0;
        grown = w.grown;
        leads = subst (λ (x : Transfer). WritesOn (is_waiting seen.history) (Some link) seen w.calls r.0 (Ok (told.Moved x))) (sym tells) r.1;
        at = subst (λ (s : Session). IsAt r.0 s) (sym is) r.2;
      }

-- A link is blamed only where it failed.

blamed : (notice : Noticed) (first : Option Event) (handle : Machine Keeper) (heeded : Heeded) → is_link first ≡ false → is_link (noticing notice first (met_by handle heeded)) ≡ true → notice ≡ noticed.LinkFailed
blamed (noticed.Moved n) first handle heeded off on = absurd (false≢true (sym (either_no_link first (met_by handle heeded) off (met_no_link handle heeded)) ∙ on))
blamed noticed.NotReady first handle heeded off on = absurd (false≢true (sym off ∙ on))
blamed noticed.Idle first handle heeded off on = absurd (false≢true (sym off ∙ on))
blamed noticed.Ended first handle heeded off on = absurd (false≢true (sym (either_no_link first (met_by handle heeded) off (met_no_link handle heeded)) ∙ on))
blamed noticed.LinkFailed first handle heeded off on = refl
blamed noticed.NoMemory first handle heeded off on = absurd (false≢true (sym (either_no_link first (met_by handle heeded) off (met_no_link handle heeded)) ∙ on))

pub counts_by : (notice : Noticed) (first first' : Option Event) (handle : Machine Keeper) (heeded : Heeded) (f g i j : ℕ) → first' ≡ noticing notice first (met_by handle heeded) → (notice ≡ noticed.LinkFailed → Rises 1 f g) → f ≤ g → i ≤ j → Counts first first' f g i j
counts_by notice first first' handle heeded f g i j is blames faults idles =
    record { faults_later = faults; idles_later = idles; cause = λ off on. blames (blamed notice first handle heeded off (ap is_link (sym is) ∙ on)) }

-- Where bytes moved the link did not fail.

pub bytes_moved : (notice : Noticed) (m : Transfer) → m ≡ moved_of notice → is_bytes m ≡ true → (is_moved notice ≡ true) × (is_lost notice ≡ false)
bytes_moved notice m is some = go notice (ap is_bytes (sym is) ∙ some)
  where
    go : (n : Noticed) → is_bytes (moved_of n) ≡ true → (is_moved n ≡ true) × (is_lost n ≡ false)
    go (noticed.Moved n) some = (refl, refl)
    go noticed.NotReady some = absurd (false≢true some)
    go noticed.Idle some = absurd (false≢true some)
    go noticed.Ended some = absurd (false≢true some)
    go noticed.LinkFailed some = absurd (false≢true some)
    go noticed.NoMemory some = absurd (false≢true some)

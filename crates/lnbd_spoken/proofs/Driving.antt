-- A client whose link a handle drives speaks well.
use Rattle.std.proofs.Common.{◌≡◌, ℕ, suc, Bool, true, false, List, [], ◌∷◌, ◌++◌, length, All, refl, ap, sym, subst, ◌∙◌, arith, append-nil, append_assoc}
use Rattle.std.proofs.lemmas.Bool.{false≢true, eq-eqb}
use Rattle.lnbd_history.specs.declared.kinds.Stage.TheVariants.{Closed}
use Rattle.lnbd_history.specs.Agreement.{opt_mode}
use Rattle.lnbd_history.specs.Entries.{Dropped}
use Rattle.lnbd_history.specs.Events.{Event, History, Set, StrictMode, Start, Opt, Abort, Issue, Refuse, Disconnect, Wrote, Arrived, End, LinkFailed, Retire, ClearLog, Close}
use Rattle.lnbd_history.specs.History.{asked, reading, cookies, with_answers}
use Rattle.lnbd_history.specs.Laws.{Lawful, is_closed}
use Rattle.lnbd_link.specs.Call.{Call, Connect, Listen, Accept, Read, Write, Pause, Shut, Moved, Unready, Ended, ReadFault, Sent, Full, WriteFault}
use Rattle.lnbd_asked.specs.Driven.{Drives, Begins, Does, Passes, Writes, Writes_none, Reads, Reads_none, Arrives, Ends, Fails_to_read, Fails_to_write, AllSpell}
use Rattle.lnbd_asked.specs.Laws.{is_on}
use Rattle.lnbd_asked.specs.Link.{Both}
use Rattle.lnbd_asked.specs.Transcript.{untold, after_call, after_calls}
use Rattle.lnbd_asked.proofs.Driving.{held_of, drives_at}
use Rattle.lnbd_asked.proofs.Match.{all_still}
use Rattle.lnbd_asked.proofs.Plain.{IsPlain, plain_before, closed_started}
use Rattle.lnbd_spoken.specs.Laws.{DrivenSpeakWell, DrivenStaySo, UnusedAreDriven}
use Rattle.lnbd_spoken.specs.Speaking.{SaysWell, SpeaksFrom, SpeaksWell}
use Rattle.lnbd_spoken.proofs.Saying.{write_says}

-- One call more.
speaks_join : (link : ℕ) (both : Both) (calls : List Call) (call : Call) → SpeaksFrom link both calls → SaysWell link (after_calls link both calls) call → SpeaksFrom link both (calls ++ call ∷ [])
speaks_join link both [] call s one = (one, tt)
speaks_join link both (first ∷ calls) call s one = (s.0, speaks_join link (after_call link both first) calls call s.1 one)

speaks_more : (link : ℕ) (calls after : List Call) (call : Call) → after ≡ calls ++ call ∷ [] → SpeaksWell link calls → SaysWell link (after_calls link untold calls) call → SpeaksWell link after
speaks_more link calls after call is s one = subst (SpeaksFrom link untold) (sym is) (speaks_join link untold calls call s one)

-- Nothing is said by calls on other links.
off_says : (link : ℕ) (both : Both) (call : Call) → is_on link call ≡ false → SaysWell link both call
off_says link both (Write n offered (Sent bytes)) off = λ same. absurd (false≢true (sym off ∙ eq-eqb n link same))
off_says link both (Write n offered Full) off = tt
off_says link both (Write n offered WriteFault) off = tt
off_says link both (Read n room answer) off = tt
off_says link both (Connect to given) off = tt
off_says link both (Listen at given) off = tt
off_says link both (Accept n answer) off = tt
off_says link both (Pause wants) off = tt
off_says link both (Shut n) off = tt

module _ {K : Type 0} where
  -- A handle that was closed was in no opt mode before.
  plain_closed : (before : History K) (one : Event K) → is_closed (one ∷ before) ≡ true → IsPlain (one ∷ before) → IsPlain before
  plain_closed before Close closed p = λ n.
      let still = all_still before Dropped (cookies (asked before).issued) (record (with_answers [] (reading before).known) { stage = Closed }) in
      sym (ap opt_mode still.turns) ∙ p (λ c. closed_started (sym still.stage ∙ c))
  plain_closed before (Set one) closed p = absurd (false≢true closed)
  plain_closed before (StrictMode bits) closed p = absurd (false≢true closed)
  plain_closed before Start closed p = absurd (false≢true closed)
  plain_closed before (Opt option) closed p = absurd (false≢true closed)
  plain_closed before Abort closed p = absurd (false≢true closed)
  plain_closed before (Issue command) closed p = absurd (false≢true closed)
  plain_closed before (Refuse command why) closed p = absurd (false≢true closed)
  plain_closed before Disconnect closed p = absurd (false≢true closed)
  plain_closed before (Wrote n) closed p = absurd (false≢true closed)
  plain_closed before (Arrived bytes answers) closed p = absurd (false≢true closed)
  plain_closed before (End answers) closed p = absurd (false≢true closed)
  plain_closed before (LinkFailed answers) closed p = absurd (false≢true closed)
  plain_closed before (Retire cookie) closed p = absurd (false≢true closed)
  plain_closed before ClearLog closed p = absurd (false≢true closed)

  pub plain_earlier : (limit : ℕ) (before : History K) (one : Event K) → Lawful limit (one ∷ before) → IsPlain (one ∷ before) → IsPlain before
  plain_earlier limit before one lawful p = go (is_closed (one ∷ before)) refl
    where
      go : (b : Bool) → is_closed (one ∷ before) ≡ b → IsPlain before
      go true e = plain_closed before one e p
      go false e = plain_before limit before one lawful.2 e p

  drives_speak : (limit link : ℕ) (calls : List Call) (history : History K) (left : List ℕ) → Drives link calls history left → Lawful limit history → AllSpell history → IsPlain history → SpeaksWell link calls
  drives_speak limit link _ _ _ Begins lawful fits plain = tt
  drives_speak limit link calls _ left (Does _ before _ event d inward) lawful fits plain = drives_speak limit link calls before left d lawful.0 fits.1 (plain_earlier limit before event lawful plain)
  drives_speak limit link after history left (Passes calls _ _ call _ d off is) lawful fits plain =
      speaks_more link calls after call is (drives_speak limit link calls history left d lawful fits plain) (off_says link (after_calls link untold calls) call off)
  drives_speak limit link after _ _ (Writes calls before offered bytes _ d front is) lawful fits plain =
      let was = plain_earlier limit before (Wrote (length bytes)) lawful plain in
      let at = drives_at limit link calls before [] d lawful.0 fits.1 lawful.1 was in
      speaks_more link calls after (Write link offered (Sent bytes)) is (drives_speak limit link calls before [] d lawful.0 fits.1 was)
      (subst (λ (both : Both). SaysWell link both (Write link offered (Sent bytes))) (sym at.there) (λ same. write_says before (reading before) (held_of at.before) at.before.written bytes front at.stands))
  drives_speak limit link after history left (Writes_none calls _ _ offered _ d is) lawful fits plain = speaks_more link calls after (Write link offered Full) is (drives_speak limit link calls history left d lawful fits plain) tt
  drives_speak limit link after history more (Reads calls _ left room bytes _ _ d is joined) lawful fits plain = speaks_more link calls after (Read link room (Moved bytes)) is (drives_speak limit link calls history left d lawful fits plain) tt
  drives_speak limit link after history left (Reads_none calls _ _ room _ d is) lawful fits plain = speaks_more link calls after (Read link room Unready) is (drives_speak limit link calls history left d lawful fits plain) tt
  drives_speak limit link calls _ left (Arrives _ before all bytes _ answers d joined) lawful fits plain = drives_speak limit link calls before all d lawful.0 fits.1 (plain_earlier limit before (Arrived bytes answers) lawful plain)
  drives_speak limit link after _ _ (Ends calls before room answers _ d living is) lawful fits plain =
      speaks_more link calls after (Read link room Ended) is (drives_speak limit link calls before [] d lawful.0 fits.1 (plain_earlier limit before (End answers) lawful plain)) tt
  drives_speak limit link after _ _ (Fails_to_read calls before room answers _ d living is) lawful fits plain =
      speaks_more link calls after (Read link room ReadFault) is (drives_speak limit link calls before [] d lawful.0 fits.1 (plain_earlier limit before (LinkFailed answers) lawful plain)) tt
  drives_speak limit link after _ _ (Fails_to_write calls before offered answers _ d living is) lawful fits plain =
      speaks_more link calls after (Write link offered WriteFault) is (drives_speak limit link calls before [] d lawful.0 fits.1 (plain_earlier limit before (LinkFailed answers) lawful plain)) tt

  -- calls on other links
  drives_past : (link : ℕ) (calls more : List Call) (history : History K) (left : List ℕ) → Drives link calls history left → All (λ call. is_on link call ≡ false) more → Drives link (calls ++ more) history left
  drives_past link calls [] history left d off = subst (λ cs. Drives link cs history left) (sym (append-nil calls)) d
  drives_past link calls (call ∷ more) history left d off =
      subst (λ cs. Drives link cs history left) (append_assoc calls (call ∷ []) more)
      (drives_past link (calls ++ call ∷ []) more history left (Passes calls history left call (calls ++ call ∷ []) d (off 0 call (omega arith)) refl) (λ k other less. off (suc k) other (omega (arith, less))))

pub driven_speak_well : {K : Type 0} → DrivenSpeakWell K
driven_speak_well link calls d = drives_speak d.limit link calls d.history d.unread d.drives d.lawful d.spelled (λ n. d.mode)

pub driven_stay_so : {K : Type 0} → DrivenStaySo K
driven_stay_so link calls more d off = record {
  limit = d.limit;
  history = d.history;
  unread = d.unread;
  lawful = d.lawful;
  spelled = d.spelled;
  mode = d.mode;
  drives = drives_past link calls more d.history d.unread d.drives off;
}

pub unused_are_driven : {K : Type 0} → UnusedAreDriven K
unused_are_driven link calls off = driven_stay_so link [] calls (record { limit = 0; history = []; unread = []; lawful = tt; spelled = tt; mode = refl; drives = Begins }) off

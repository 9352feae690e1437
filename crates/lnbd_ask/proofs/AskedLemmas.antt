-- A inquiry is asked part by part, and then it was asked as it says.
use Rattle.std.proofs.Common.{◌≡◌, ◌||◌, ℕ, Bool, true, false, List, [], ◌∷◌, ◌++◌, Some, None, refl, ap, sym, subst, ◌∙◌, append_assoc, arith}
use Rattle.std.proofs.lemmas.Bool.{false≢true}
use Rattle.std.proofs.lemmas.List.{append-nil}
use Rattle.std.specs.List.{list_any}
use Rattle.lnbd_handle.specs.Histories.{max_unretired}
use Rattle.lnbd_history.specs.Answers.{state_after}
use Rattle.lnbd_history.specs.Events.{Event, History, Set, StrictMode, Start, Opt, Abort, Issue, Refuse, Disconnect, Wrote, Arrived, End, LinkFailed, Retire, ClearLog, Close}
use Rattle.lnbd_history.specs.Laws.{Lawful, is_closed}
use Rattle.lnbd_asked.specs.Driven.{Begins, Does, Drives, Passes, is_inward}
use Rattle.lnbd_link.specs.Call as wire
use Rattle.lnbd_link.specs.Call.{Connect, Shut}
use Rattle.lnbd_model.specs.declared.target.Place.{Place}
use Rattle.lnbd_model.specs.declared.target.Target.{Target}
use Rattle.lnbd_poll.specs.Seen.{Seen}
use Rattle.lnbd_usage.specs.OneLink.{Converse}
use Rattle.lnbd_usage.proofs.Talking.{conversations_use_one_link, converse_none, converse_on, failed_use, given_one, no_calls_use}
use Rattle.lnbd_ask.specs.Asks.{IsGoing, disconnecting, is_ready, parting}
use Rattle.lnbd_ask.specs.Conduct.{AsksOnly, Conducts, EndIsLast, Export, Exports, Map, Inquiry, WasDrivenFor, asks_end, beginning, may_ask}
use Rattle.lnbd_ask.proofs.TakeLemmas.{AllOutward}
use Rattle.lnbd_ask.proofs.WentLemmas.{Went, going_back}

-- ---- What moves bytes asks nothing.

module _ {K : Type 0} where
  -- this has happened
  abbrev pub with_event : Event K → Seen K → Seen K
  with_event event seen = record { link = seen.link; history = event ∷ seen.history; unread = seen.unread }

  outward_end : (event : Event K) → is_inward event ≡ false → asks_end event ≡ false
  outward_end (Wrote n) e = refl
  outward_end (Arrived bytes answers) e = refl
  outward_end (End answers) e = refl
  outward_end (LinkFailed answers) e = refl
  outward_end (Set setting) e = absurd (false≢true (sym e))
  outward_end (StrictMode bits) e = absurd (false≢true (sym e))
  outward_end Start e = absurd (false≢true (sym e))
  outward_end (Opt option) e = absurd (false≢true (sym e))
  outward_end Abort e = absurd (false≢true (sym e))
  outward_end (Issue command) e = absurd (false≢true (sym e))
  outward_end (Refuse command why) e = absurd (false≢true (sym e))
  outward_end Disconnect e = absurd (false≢true (sym e))
  outward_end (Retire cookie) e = absurd (false≢true (sym e))
  outward_end ClearLog e = absurd (false≢true (sym e))
  outward_end Close e = absurd (false≢true (sym e))

  -- The end is not asked for yet.
  pub record IsUnended (history : History K) : Type 0 where
    pub none : list_any asks_end history ≡ false
    pub last : EndIsLast history

  outward_last : (since before : History K) → AllOutward since → EndIsLast before → EndIsLast (since ++ before)
  outward_last [] before outward last = last
  outward_last (event ∷ since) before outward last = ((λ inward. absurd (false≢true (sym outward.0 ∙ inward))), outward_last since before outward.1 last)

  outward_none : (since before : History K) → AllOutward since → list_any asks_end (since ++ before) ≡ list_any asks_end before
  outward_none [] before outward = refl
  outward_none (event ∷ since) before outward = ap (λ (b : Bool). b || list_any asks_end (since ++ before)) (outward_end event outward.0) ∙ outward_none since before outward.1

module _ {K : Type 0} (inquiry : Inquiry) where
  outward_only : (since : History K) → AllOutward since → AsksOnly inquiry since
  outward_only [] outward = tt
  outward_only (event ∷ since) outward = ((λ inward. absurd (false≢true (sym outward.0 ∙ inward))), outward_only since outward.1)

  only_on : (later earlier : History K) → AsksOnly inquiry later → AsksOnly inquiry earlier → AsksOnly inquiry (later ++ earlier)
  only_on [] earlier one two = two
  only_on (event ∷ later) earlier one two = (one.0, only_on later earlier one.1 two)

  -- ---- Part by part: on the link, by these calls, from where this had happened to where it then stands. The end may be asked for in the last part alone.
  pub record Leads (link : ℕ) (start : History K) (calls : List wire.Call) (short ends : Bool) (after : Seen K) : Type 0 where
    pub same : after.link ≡ link
    pub since : History K
    pub is : after.history ≡ since ++ start
    pub only : AsksOnly inquiry since
    pub drives : (all : List wire.Call) → Drives link all start [] → Drives link (all ++ calls) after.history after.unread
    pub none : short ≡ false → after.unread ≡ []
    pub converse : IsGoing after.history → Converse link calls
    pub unended : ends ≡ false → IsUnended start → IsUnended after.history
    pub last : IsUnended start → EndIsLast after.history

  pub leads_went : (link : ℕ) (start : History K) (calls : List wire.Call) (short : Bool) (after : Seen K) → Went link start calls short after → Leads link start calls short false after
  leads_went link start calls short after w = record {
    same = w.same;
    since = w.unasked.since;
    is = w.unasked.is;
    only = outward_only w.unasked.since w.unasked.outward;
    drives = w.drives;
    none = w.none;
    converse = w.converse;
    unended = λ e u. record { none = ap (list_any asks_end) w.unasked.is ∙ outward_none w.unasked.since start w.unasked.outward ∙ u.none; last = last u };
    last = last;
  }
    where
      last : IsUnended start → EndIsLast after.history
      last u = subst EndIsLast (sym w.unasked.is) (outward_last w.unasked.since start w.unasked.outward u.last)

  pub leads_less : (link : ℕ) (start : History K) (calls : List wire.Call) (short ends : Bool) (after : Seen K) → Leads link start calls false false after → Leads link start calls short ends after
  leads_less link start calls short ends after w = record {
    same = w.same;
    since = w.since;
    is = w.is;
    only = w.only;
    drives = w.drives;
    none = λ e. w.none refl;
    converse = w.converse;
    unended = λ e. w.unended refl;
    last = w.last;
  }

  -- whether bytes are left unread is no matter
  pub leads_short : (link : ℕ) (start : History K) (calls : List wire.Call) (short ends : Bool) (after : Seen K) → Leads link start calls short ends after → Leads link start calls true ends after
  leads_short link start calls short ends after w = record {
    same = w.same;
    since = w.since;
    is = w.is;
    only = w.only;
    drives = w.drives;
    none = λ e. absurd (false≢true (sym e));
    converse = w.converse;
    unended = w.unended;
    last = w.last;
  }

  -- where it is over
  pub leads_over : (link : ℕ) (start : History K) (calls : List wire.Call) (short ends : Bool) (after : Seen K) → Leads link start calls short false after → Leads link start calls short ends after
  leads_over link start calls short ends after w = record {
    same = w.same;
    since = w.since;
    is = w.is;
    only = w.only;
    drives = w.drives;
    none = w.none;
    converse = w.converse;
    unended = λ e. w.unended refl;
    last = w.last;
  }

  drives_on : (link : ℕ) (start : History K) (own other : List wire.Call) (middle after : Seen K)
      → ((all : List wire.Call) → Drives link all start [] → Drives link (all ++ own) middle.history middle.unread) → middle.unread ≡ []
      → ((all : List wire.Call) → Drives link all middle.history [] → Drives link (all ++ other) after.history after.unread) → (all : List wire.Call) → Drives link all start []
      → Drives link (all ++ (own ++ other)) after.history after.unread
  drives_on link start own other middle after one none two all d =
      subst (λ (l : List wire.Call). Drives link l after.history after.unread) (append_assoc all own other) (two (all ++ own) (subst (Drives link (all ++ own) middle.history) none (one all d)))

  pub leads_on : (link : ℕ) (start : History K) (own other : List wire.Call) (short ends : Bool) (middle after : Seen K) → Leads link start own false false middle
      → Leads link middle.history other short ends after → Leads link start (own ++ other) short ends after
  leads_on link start own other short ends middle after one two = record {
    same = two.same;
    since = two.since ++ one.since;
    is = two.is ∙ ap (λ (h : History K). two.since ++ h) one.is ∙ sym (append_assoc two.since one.since start);
    only = only_on two.since one.since two.only one.only;
    drives = drives_on link start own other middle after one.drives (one.none refl) two.drives;
    none = two.none;
    converse = λ going. converse_on link own other (one.converse (going_back two.since middle.history (subst IsGoing two.is going))) (two.converse going);
    unended = λ e u. two.unended e (one.unended refl u);
    last = λ u. two.last (one.unended refl u);
  }

  -- the end was asked for, and then it is waited alone
  pub leads_out : (link : ℕ) (start : History K) (own other : List wire.Call) (short : Bool) (middle after : Seen K) → Leads link start own false true middle
      → Went link middle.history other short after → Leads link start (own ++ other) short true after
  leads_out link start own other short middle after one two = record {
    same = two.same;
    since = two.unasked.since ++ one.since;
    is = two.unasked.is ∙ ap (λ (h : History K). two.unasked.since ++ h) one.is ∙ sym (append_assoc two.unasked.since one.since start);
    only = only_on two.unasked.since one.since (outward_only two.unasked.since two.unasked.outward) one.only;
    drives = drives_on link start own other middle after one.drives (one.none refl) two.drives;
    none = two.none;
    converse = λ going. converse_on link own other (one.converse (going_back two.unasked.since middle.history (subst IsGoing two.unasked.is going))) (two.converse going);
    unended = λ e. absurd (false≢true (sym e));
    last = λ u. subst EndIsLast (sym two.unasked.is) (outward_last two.unasked.since middle.history two.unasked.outward (one.last u));
  }

  pub leads_none : (seen : Seen K) (ends : Bool) → seen.unread ≡ [] → Leads seen.link seen.history [] false ends seen
  leads_none seen ends empty = record {
    same = refl;
    since = [];
    is = refl;
    only = tt;
    drives = λ all d. subst (λ (l : List wire.Call). Drives seen.link l seen.history seen.unread) (sym (append-nil all)) (subst (Drives seen.link all seen.history) (sym empty) d);
    none = λ e. empty;
    converse = λ going. converse_none seen.link;
    unended = λ e u. u;
    last = λ u. u.last;
  }

  -- something is asked
  pub leads_event : (seen : Seen K) (event : Event K) (ends : Bool) → is_inward event ≡ true → may_ask inquiry event ≡ true → (ends ≡ false → asks_end event ≡ false) → seen.unread ≡ []
      → Leads seen.link seen.history [] false ends (with_event event seen)
  leads_event seen event ends inward may unends empty = record {
    same = refl;
    since = event ∷ [];
    is = refl;
    only = ((λ e. may), tt);
    drives = λ all d. Does (all ++ []) seen.history seen.unread event
        (subst (λ (l : List wire.Call). Drives seen.link l seen.history seen.unread) (sym (append-nil all)) (subst (Drives seen.link all seen.history) (sym empty) d)) inward;
    none = λ e. empty;
    converse = λ going. converse_none seen.link;
    unended = λ e u. record { none = ap (λ (b : Bool). b || list_any asks_end seen.history) (unends e) ∙ u.none; last = ((λ i. u.none), u.last) };
    last = λ u. ((λ i. u.none), u.last);
  }

  -- the end is asked for, where commands may be issued
  pub leads_parting : (seen : Seen K) → may_ask {K = K} inquiry Disconnect ≡ true → seen.unread ≡ [] → Leads seen.link seen.history [] false true (parting seen)
  leads_parting seen may empty = go (is_ready (state_after seen.history))
    where
      go : (b : Bool) → Leads seen.link seen.history [] false true (record { link = seen.link; history = disconnecting b seen.history; unread = seen.unread })
      go true = leads_event seen Disconnect true refl may (λ e. absurd (false≢true (sym e))) empty
      go false = leads_none seen true empty

-- ---- The whole.

begins_unended : {K : Type 0} (inquiry : Inquiry) (name : List ℕ) → IsUnended {K = K} (beginning inquiry name)
begins_unended Export name = record { none = refl; last = ((λ e. refl), ((λ e. refl), ((λ e. refl), ((λ e. refl), ((λ e. refl), tt))))) }
begins_unended Exports name = record { none = refl; last = ((λ e. refl), ((λ e. refl), ((λ e. refl), ((λ e. refl), tt)))) }
begins_unended (Map context) name = record { none = refl; last = ((λ e. refl), ((λ e. refl), ((λ e. refl), ((λ e. refl), ((λ e. refl), tt))))) }

begins_lawful : (K : Type 0) (inquiry : Inquiry) (name : List ℕ) → Lawful {K = K} max_unretired (beginning inquiry name)
begins_lawful K Export name = (((((tt, refl, refl), refl, refl), refl, (refl, omega arith)), refl, refl), refl, refl)
begins_lawful K Exports name = ((((tt, refl, refl), refl, refl), refl, refl), refl, refl)
begins_lawful K (Map context) name = (((((tt, refl, refl), refl, refl), refl, (refl, omega arith)), refl, refl), refl, refl)

abbrev wrapped : Target → ℕ → List wire.Call → List wire.Call
wrapped to link talk = Connect to (Some link) ∷ (talk ++ Shut link ∷ [])

module _ {K : Type 0} where
  begins_drive : (inquiry : Inquiry) (name : List ℕ) (to : Target) (link : ℕ) → Drives {K = K} link (Connect to (Some link) ∷ []) (beginning inquiry name) []
  begins_drive inquiry name to link = go inquiry
    where
      first : Drives {K = K} link (Connect to (Some link) ∷ []) [] []
      first = Passes [] [] [] (Connect to (Some link)) (Connect to (Some link) ∷ []) Begins refl refl

      go : (inquiry : Inquiry) → Drives {K = K} link (Connect to (Some link) ∷ []) (beginning inquiry name) []
      go Export = Does _ _ [] _ (Does _ _ [] _ (Does _ _ [] _ (Does _ _ [] _ (Does _ _ [] _ first refl) refl) refl) refl) refl
      go Exports = Does _ _ [] _ (Does _ _ [] _ (Does _ _ [] _ (Does _ _ [] _ first refl) refl) refl) refl
      go (Map context) = Does _ _ [] _ (Does _ _ [] _ (Does _ _ [] _ (Does _ _ [] _ (Does _ _ [] _ first refl) refl) refl) refl) refl

  -- A conversation between the connect and the shut.
  pub has_conducted : (inquiry : Inquiry) (place : Place) (link : ℕ) (talk : List wire.Call) (short ends : Bool) (after : Seen K)
      → Leads inquiry link (beginning inquiry place.name) talk short ends after → IsGoing after.history
      → Conducts K inquiry place (Connect place.to (Some link) ∷ (talk ++ Shut link ∷ []))
  has_conducted inquiry place link talk short ends after leads going = record {
    uses = conversations_use_one_link place.to link talk conversed;
    asks = λ n given. subst (λ (m : ℕ). WasDrivenFor K inquiry place.name m (wrapped place.to link talk)) (sym (given_one place.to link n talk conversed.talk given)) (record {
      history = after.history;
      unread = after.unread;
      since = leads.since;
      began = leads.is;
      only = leads.only;
      last = leads.last (begins_unended inquiry place.name);
      lawful = going.0;
      drives = Passes (Connect place.to (Some link) ∷ talk) after.history after.unread (Shut link) (wrapped place.to link talk)
          (leads.drives (Connect place.to (Some link) ∷ []) (begins_drive inquiry place.name place.to link)) refl refl;
    });
  }
    where
      conversed : Converse link talk
      conversed = leads.converse going

  -- A link that was given, and held by no handle.
  pub has_shut : (inquiry : Inquiry) (place : Place) (link : ℕ) → Conducts K inquiry place (Connect place.to (Some link) ∷ Shut link ∷ [])
  has_shut inquiry place link = has_conducted inquiry place link [] false false (record { link = link; history = beginning inquiry place.name; unread = [] })
      (leads_none inquiry (record { link = link; history = beginning inquiry place.name; unread = [] }) false refl) (begins_lawful K inquiry place.name, begins_open inquiry)
    where
      begins_open : (inquiry : Inquiry) → is_closed (beginning {K = K} inquiry place.name) ≡ false
      begins_open Export = refl
      begins_open Exports = refl
      begins_open (Map context) = refl

  pub has_not_connected : (inquiry : Inquiry) (place : Place) → Conducts K inquiry place (Connect place.to None ∷ [])
  has_not_connected inquiry place = record { uses = failed_use place.to; asks = λ n given. absurd (false≢true given) }

  pub has_done_nothing : (inquiry : Inquiry) (place : Place) → Conducts K inquiry place []
  has_done_nothing inquiry place = record { uses = no_calls_use place.to; asks = λ n given. absurd (false≢true given) }

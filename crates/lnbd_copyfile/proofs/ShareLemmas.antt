-- How the requests of a copy from an export to a file stay shared out among its connections, at each moment.
use Rattle.std.proofs.Common.{◌≡◌, ◌≤◌, ◌⊎◌, inl, inr, ℕ, Bool, true, false, List, [], ◌++◌, Option, Some, None, Result, Ok, Err, IfOk, Contains, refl, ap, sym, subst, ◌∙◌, append_assoc, append-nil, if◌then◌else◌, arith}
use Rattle.lnbd_model.specs.declared.target.Place.{Place}
use Rattle.lnbd_outcome.specs.Outcome.{Unfinished}
use Rattle.lnbd_link.specs.Call as wire
use Rattle.lnbd_history.specs.Commands as commands
use Rattle.lnbd_asked.specs.Link.{Nobody}
use Rattle.lnbd_tracks.specs.Laws.{moves_bytes}
use Rattle.lnbd_asked.specs.Transcript.{answered, asked_on, dealt_with, is_of, on_link, only_if}
use Rattle.lnbd_poll.specs.Held.{Held}
use Rattle.lnbd_plan.specs.declared.options.CopyOptions.{CopyOptions}
use Rattle.lnbd_board.specs.declared.how.How.{How}
use Rattle.lnbd_board.specs.declared.row.Row.{Row}
use Rattle.lnbd_board.specs.declared.ticket.Ticket.{Ticket}
use Rattle.lnbd_board.specs.Files as board
use Rattle.lnbd_board.specs.Requests.{Request}
use Rattle.lnbd_course.specs.Counted.{HasNotCounted}
use Rattle.lnbd_course.specs.Far.{Far, ToFile}
use Rattle.lnbd_course.specs.Spread.{FewOn}
use Rattle.lnbd_course.proofs.Cuts.{InFirst, InSecond, cut}
use Rattle.lnbd_conduct.specs.declared.terms.Terms.{Terms}
use Rattle.lnbd_conduct.specs.Grounds.{Drove, IsShown}
use Rattle.lnbd_conduct.specs.Told.{AtSome, Since, Told}
use Rattle.lnbd_copy.specs.Agreed.{Tells}
use Rattle.lnbd_copy.specs.Faults.{GoesIdly}
use Rattle.lnbd_copy.specs.Lasting.{Lasts}
use Rattle.lnbd_copy.specs.Way.{Filed, Stand}
use Rattle.lnbd_copy.specs.Bound.{on_source}
use Rattle.lnbd_copy.specs.Dealt.{IsDealt}
use Rattle.lnbd_copy.proofs.AlwaysLemmas.{some_longer}
use Rattle.lnbd_copy.proofs.CopierLemmas.{told_as}
use Rattle.lnbd_copy.proofs.LastLemmas.{at_once, told_later}
use Rattle.lnbd_copy.proofs.SettledLemmas.{same_calls, same_rest}
use Rattle.lnbd_copy.proofs.ShareLemmas.{many_bound}
use Rattle.lnbd_copy.proofs.TurnLemmas.{some_same}
use Rattle.lnbd_store.specs.Shelf.{Shelf}
use Rattle.lnbd_connections.specs.Bound.{Binds, BindsMore, DrivesFirst, IsBound, IsDriving}
use Rattle.lnbd_connections.specs.Few.{AreFew, FewMore, HasFew, StaysFew}
use Rattle.lnbd_connections.specs.Steps as steps
use Rattle.lnbd_connections.specs.Way.{IsUnderWay, Way}
use Rattle.lnbd_connections.proofs.BoundWay.{bound_agreed, bound_began, bound_settled, bound_way, driving_shown}
use Rattle.lnbd_connections.proofs.FewLemmas.{bound_few, few_idly, few_then, none_few}
use Rattle.lnbd_copyfile.specs.Jobs.{Seen}
use Rattle.lnbd_copyfile.specs.Shares.{IsAlwaysSharedTo, IsSharedTo, NoneIsUnanswered}
use Rattle.lnbd_copyfile.specs.Sharing.{FindsTermsTo, HasTermsTo, Is_settled, IsGoing, IsOpening, IsSharing, Not_settled, SharesOut, share}
use Rattle.lnbd_copyfile.specs.ToFile.{IsBeginning, LeavesIf, beginning}
use Rattle.lnbd_copyfile.specs.ToFileJob.{Acts, HasDealt, IsJob, Spreads}
use Rattle.lnbd_copyfile.proofs.ToFileRunLemmas.{blank as blank_board, job_filed}

none_some : {A : Type 0} (one : A) → None ≡ Some one → ⊥
none_some one e = cc

-- Few, by what was dealt with the export.

pub few_dealt : (most : ℕ) (place : Place) (calls : List wire.Call) → AreFew most calls → (link : ℕ) → FewOn most link (dealt_with place calls)
few_dealt most place calls few link = record {
  list = (few link).list;
  few = (few link).few;
  all = λ cookie u. go (is_of place calls link) cookie u.command u.asked u.kind u.waits;
}
  where
    go : (t : Bool) (cookie : ℕ) (command : commands.Command Nobody) → only_if t (asked_on (on_link link calls) cookie) ≡ Some command → moves_bytes command.kind ≡ true →
        (if t then answered (on_link link calls) cookie else Unfinished) ≡ Unfinished → Contains (few link).list cookie
    go true cookie command asked moves waits = (few link).all cookie command asked moves waits
    go false cookie command asked moves waits = absurd (none_some command asked)

-- The beginning.

-- no calls were made since
pub no_calls : {Is : List wire.Call → Type 0} (told : Option (List wire.Call)) (all : List wire.Call) → told ≡ Some all → (since : Since told all Is) → since.calls ≡ []
no_calls told all is since =
    let same : since.before ≡ all = same_calls since.before all (sym since.was ∙ is) in
    same_rest all since.calls [] (ap (λ (l : List wire.Call). l ++ since.calls) (sym same) ∙ sym since.now ∙ sym (append-nil all))

pub opens : (at : Place) (told : Option (List wire.Call)) (now : board.Seen) (held : List (Held Ticket)) → IsBeginning at None told told now held → IsOpening at None told told now held
opens at told now held b = record {
  since = λ all is.
      let since = b.on.since all is in
      let none = no_calls told all is since in
      record {
        before = since.before;
        calls = [];
        was = since.was;
        now = since.now ∙ ap (λ (l : List wire.Call). since.before ++ l) none;
        is = bound_began true (ToFile []) (beginning at None now.how) now held b.rows
            (subst (λ (l : List wire.Call). IsUnderWay (ToFile []) (beginning at None now.how) now l held) none since.is);
      };
}

module _ (at : Place) (start : Option (List wire.Call)) where
  pub opens_dialed : (size : Option ℕ) (now now' : board.Seen) (held held' : List (Held Ticket)) (told told' : Option (List wire.Call)) → now' ≡ now → BindsMore at now held told held' told' →
      IsOpening at size start told now held → IsOpening at size start told' now' held'
  opens_dialed size now now' held held' told told' same binds o =
      subst (λ (s : board.Seen). IsOpening at size start told' s held') (sym same) (binds.on true (ToFile []) (beginning at size now.how) start refl o)

  pub opens_settled : (size : Option ℕ) (now now' : board.Seen) (held held' : List (Held Ticket)) (told told' : Option (List wire.Call)) → Filed now now' → Stand held →
      Binds now held told now' held' told' →
      IsOpening at size start told now held → IsOpening at size start told' now' held'
  opens_settled size now now' held held' told told' filed stand binds o =
      subst (λ (how : How). Told start told' (λ calls. IsBound true (ToFile []) (beginning at size how) now' calls held')) (sym filed.how)
      (binds.on true (ToFile []) (beginning at size now.how) start stand o)

  pub opens_agreed : (size : ℕ) (now : board.Seen) (held : List (Held Ticket)) (told : Option (List wire.Call)) → Tells 0 size held → IsOpening at None start told now held →
      IsOpening at (Some size) start told now held
  opens_agreed size now held told tells o =
      told_as start told (λ calls on. bound_agreed true (ToFile []) (beginning at None now.how) now calls held on 0 size refl tells) o

  -- another board takes the place of the one that is empty
  opens_anew : (size : Option ℕ) (now now' : board.Seen) (held : List (Held Ticket)) (told : Option (List wire.Call)) → now.error ≡ None → now.rows ≡ [] → now.flushing ≡ false → now'.rows ≡ [] →
      now'.begun ≡ 0 →
      HasNotCounted now' → IsOpening at size start told now held → IsOpening at size start told now' held
  opens_anew size now now' held told well none unflushed empty new uncounted o =
      told_as start told (λ calls on. bound_settled true (ToFile []) (beginning at size now.how) now calls held on now'.how now' refl refl none well unflushed empty new uncounted) o

  -- and the job of a copy at its beginning.
  pub sharing_begins : (terms : Terms) (now now' : board.Seen) (held : List (Held Ticket)) (told : Option (List wire.Call)) (job : Seen) → now.error ≡ None → now'.rows ≡ [] → now'.begun ≡ 0 →
      now'.how ≡ terms.how →
      HasNotCounted now' → job.terms ≡ terms → job.is_parting ≡ false → IsDealt terms.limit terms.sides.source job.bound [] →
      ((way : Way) (s : board.Seen) → way.size ≡ Some terms.size → way.how ≡ terms.how → s.how ≡ terms.how → way.slices ≡ [] → way.asked ≡ None → ((block p : ℕ) →
      way.known.whole block p ≡ false) → ((p : ℕ) → way.known.reach p ≡ false) → IsJob job way s) →
      IsBeginning at (Some terms.size) start told now held → IsOpening at (Some terms.size) start told now held → IsSharing terms start told job now' held
  sharing_begins terms now now' held told job well empty new how uncounted same copying dealt is b o = record {
    way = beginning at (Some terms.size) now'.how;
    made = [];
    terms_ = same;
    job_ = is (beginning at (Some terms.size) now'.how) now' refl how how refl refl (λ block p. refl) (λ p. refl);
    stand = b.stand;
    dealt = subst (λ (t : Terms). IsDealt t.limit t.sides.source job.bound (on_source now'.rows)) (sym same)
        (subst (λ (l : List (ℕ × Row)). IsDealt terms.limit terms.sides.source job.bound (on_source l)) (sym empty) dealt);
    on = subst (λ (p : Bool). Told start told (λ calls. IsGoing p [] (beginning at (Some terms.size) now'.how) now' calls held)) (sym copying)
        (opens_anew (Some terms.size) now now' held told well b.rows b.unflushed empty new uncounted o);
  }

uncounted : (how : How) → HasNotCounted (blank_board how)
uncounted how = record { read = refl; written = refl; zeroed = refl; flushing = refl; flushed = refl }

pub sharing_sets_up : (terms : Terms) (now now' : board.Seen) (held : List (Held Ticket)) {Y : Type 0} (r : Result Seen Y) → now.error ≡ None → now' ≡ blank_board terms.how →
    IfOk r (λ job. job.terms ≡ terms) →
    IfOk r (λ job. job.is_parting ≡ false) → IfOk r (λ job. IsDealt terms.limit terms.sides.source job.bound []) →
    IfOk r (λ job. (way : Way) (s : board.Seen) → way.size ≡ Some terms.size → way.how ≡ terms.how → s.how ≡ terms.how → way.slices ≡ [] → way.asked ≡ None → ((block p : ℕ) →
    way.known.whole block p ≡ false) → ((p : ℕ) → way.known.reach p ≡ false) → IsJob job way s) →
    IfOk r (λ job. (at : Place) (start told : Option (List wire.Call)) → IsBeginning at (Some terms.size) start told now held → IsOpening at (Some terms.size) start told now held →
    IsSharing terms start told job now' held)
sharing_sets_up terms now now' held (Ok job) well empty same copying dealt is = λ at start told b o.
    subst (λ (s : board.Seen). IsSharing terms start told job s held) (sym empty)
    (sharing_begins at start terms now (blank_board terms.how) held told job well refl refl refl (uncounted terms.how) same copying dealt is b o)
sharing_sets_up terms now now' held (Err why) well empty same copying dealt is = tt

-- The first connection drives its link as a copy's does,
pub drives_dialed : (at : Place) (extents : Bool) (start : Option (List wire.Call)) (now now' : board.Seen) (held held' : List (Held Ticket)) (told told' : Option (List wire.Call)) → now' ≡ now →
    held ≡ [] →
    DrivesFirst at extents now held told held' told' → IsOpening at None start told now held → Told start told' (λ calls. IsDriving extents (ToFile []) (beginning at None now.how) now' calls held')
drives_dialed at extents start now now' held held' told told' same none first o =
    subst (λ (s : board.Seen). Told start told' (λ calls. IsDriving extents (ToFile []) (beginning at None now.how) s calls held')) (sym same)
    (first.on true (ToFile []) (beginning at None now.how) start refl none o)

-- and tells of the export.
pub terms_told : (options : CopyOptions) (at : Place) (size : Option ℕ) (how : How) (now : board.Seen) (held : List (Held Ticket)) (start told : Option (List wire.Call)) (terms : Terms) →
    FindsTermsTo options terms held →
    Told start told (λ calls. IsDriving options.extents (ToFile []) (beginning at size how) now calls held) → HasTermsTo options at start told terms
terms_told options at size how now held start told terms finds drives = record {
  source = finds.source;
  shown = told_as start told (λ calls on. at_once calls (driving_shown options.extents (ToFile []) (beginning at size how) now calls held on finds.source 0 finds.shown)) drives;
  settled = finds.settled;
}

-- While connections are made none is unanswered on any link.
pub begins_few : (at : Place) (size : Option ℕ) (start told told' : Option (List wire.Call)) (now : board.Seen) (held : List (Held Ticket)) → IsBeginning at size start told now held →
    ((most : ℕ) (far : Far) (way : Way) (from : Option (List wire.Call)) → Stand held → now.rows ≡ [] → Told from told (λ calls. IsUnderWay far way now calls held) →
    StaysFew most from told told') → StaysFew 0 start told told'
begins_few at size start told told' now held b few = few 0 (ToFile []) (beginning at size now.how) start b.stand b.rows b.on

pub few_lasts : (most : ℕ) (start a b : Option (List wire.Call)) → StaysFew most start a b → Lasts a b
few_lasts most start a b few = record { on = λ all is. let f = few.on all is in record { before = f.was; after = f.more; are = f.are; is = f.is } }

pub terms_later : (options : CopyOptions) (at : Place) (most : ℕ) (start from a b : Option (List wire.Call)) (terms : Terms) → StaysFew most from a b → HasTermsTo options at start a terms →
    HasTermsTo options at start b terms
terms_later options at most start from a b terms few s = record { source = s.source; shown = told_later start a b (few_lasts most from a b few) s.shown; settled = s.settled }

-- Turns.

not_both : (b : Bool) → b ≡ true → b ≡ false → ⊥
not_both true e f = absurd (cc)
not_both false e f = absurd (cc)

-- No more slices are bound to a connection than its share, or none has a row: so no more are asked of it.
going_few : (terms : Terms) (parting : Bool) (job : Seen) (made : List Request) (way : Way) (now : board.Seen) (calls : List wire.Call) (held : List (Held Ticket)) → job.terms ≡ terms →
    HasDealt job now →
    (parting ≡ true → now.rows ≡ []) → IsGoing parting made way now calls held → HasFew (share terms) (ToFile made) way now calls held
going_few terms true job made way now calls held same dealt over on = none_few (share terms) (ToFile made) way now calls held (over refl) on
going_few terms false job made way now calls held same dealt over on =
    bound_few (share terms) true (ToFile made) way now calls held
    (λ c. subst (λ (n : ℕ). n ≤ share terms) (sym (many_bound (λ row. row.source) c now.rows))
    ((subst (λ (t : Terms). IsDealt t.limit t.sides.source job.bound (on_source now.rows)) same dealt).spread.few c)) on

pub sharing_few : (terms : Terms) (start told : Option (List wire.Call)) (job : Seen) (now : board.Seen) (held : List (Held Ticket)) → (s : IsSharing terms start told job now held) →
    Told start told (λ calls. HasFew (share terms) (ToFile s.made) s.way now calls held)
sharing_few terms start told job now held s =
    told_as start told (λ calls on. going_few terms job.is_parting job s.made s.way now calls held s.terms_ s.dealt (λ parts. (s.job_.over parts).rows) on) s.on

going_turned : (parting : Bool) (made : List Request) (way : Way) (start a b : Option (List wire.Call)) (now now' : board.Seen) (held held' : List (Held Ticket)) →
    steps.Goes now held a now' held' b → Binds now held a now' held' b →
    Stand held → Told start a (λ calls. IsGoing parting made way now calls held) → Told start b (λ calls. IsGoing parting made way now' calls held')
going_turned true made way start a b now now' held held' goes binds stand on = goes.on (ToFile made) way start stand on
going_turned false made way start a b now now' held held' goes binds stand on = binds.on true (ToFile made) way start stand on

pub sharing_turned : (terms : Terms) (start a b : Option (List wire.Call)) (job : Seen) (now now' : board.Seen) (held held' : List (Held Ticket)) → steps.Goes now held a now' held' b →
    Binds now held a now' held' b →
    IsSharing terms start a job now held → IsSharing terms start b job now' held'
sharing_turned terms start a b job now now' held held' goes binds s = record {
  way = s.way;
  made = s.made;
  terms_ = s.terms_;
  job_ = job_filed job s.way now now' (goes.filed s.stand) s.job_;
  stand = goes.stand s.stand;
  dealt = subst (λ (l : List ℕ). IsDealt job.terms.limit job.terms.sides.source job.bound l) (sym (goes.filed s.stand).reads) s.dealt;
  on = going_turned job.is_parting s.made s.way start a b now now' held held' goes binds s.stand s.on;
}

going_on : (old new : Bool) → (old ≡ true → new ≡ true) → (made made' : List Request) (way way' : Way) (now now' : board.Seen) (calls : List wire.Call) (held held' : List (Held Ticket)) →
    (IsUnderWay (ToFile made) way now calls held → IsUnderWay (ToFile made') way' now' calls held') →
    (new ≡ false → IsBound true (ToFile made) way now calls held → IsBound true (ToFile made') way' now' calls held') → IsGoing old made way now calls held → IsGoing new made' way' now' calls held'
going_on true true parts made made' way way' now now' calls held held' on bound was = on was
going_on true false parts made made' way way' now now' calls held held' on bound was = absurd (not_both false (parts refl) refl)
going_on false true parts made made' way way' now now' calls held held' on bound was = on (bound_way true (ToFile made) way now calls held was)
going_on false false parts made made' way way' now now' calls held held' on bound was = bound refl was

pub sharing_acts : (terms : Terms) (file : ℕ) (start told : Option (List wire.Call)) (job job' : Seen) (now now' : board.Seen) (held held' : List (Held Ticket)) {old new : Option Shelf} {taken
    taken' : ℕ} →
    Acts file job job' now now' held held' old new taken taken' → Spreads job job' now now' → job'.terms ≡ job.terms → IsSharing terms start told job now held →
    IsSharing terms start told job' now' held'
sharing_acts terms file start told job job' now now' held held' acts spreads same s =
    let further = acts.on s.made s.way s.job_ in
    record {
      way = further.way';
      made = s.made ++ further.more;
      terms_ = same ∙ s.terms_;
      job_ = further.job;
      stand = acts.stand s.stand;
      dealt = spreads.on s.dealt;
      on = told_as start told
          (λ calls on. going_on job.is_parting job'.is_parting acts.parts s.made (s.made ++ further.more) s.way further.way' now now' calls held held' (further.on calls) (λ copying. further.bound
          copying calls) on) s.on;
    }

asked_none : (asked : Bool) (wanted : Option (ℕ × ℕ)) → asked ≡ false → (if asked then wanted else None) ≡ None
asked_none asked wanted none = ap (λ (b : Bool). if b then wanted else None) none

pub sharing_leaves : (terms : Terms) (start told told' : Option (List wire.Call)) (job : Seen) (now now' : board.Seen) (held held' : List (Held Ticket)) →
    LeavesIf job.is_parting now held told now' held' told' →
    IsSharing terms start told job now held → IsSharing terms start told' job now' held'
sharing_leaves terms start told told' job now now' held held' leaves s = go job.is_parting refl leaves s.on
  where
    go : (parting : Bool) → job.is_parting ≡ parting → LeavesIf parting now held told now' held' told' → Told start told (λ calls. IsGoing job.is_parting s.made s.way now calls held) →
        IsSharing terms start told' job now' held'
    go true parts leaves on =
        let over = s.job_.over parts in
        record {
          way = s.way;
          made = s.made;
          terms_ = s.terms_;
          job_ = job_filed job s.way now now' leaves.filed s.job_;
          stand = leaves.stand s.stand;
          dealt = subst (λ (l : List ℕ). IsDealt job.terms.limit job.terms.sides.source job.bound l) (sym leaves.filed.reads) s.dealt;
          on = subst (λ (p : Bool). Told start told' (λ calls. IsGoing p s.made s.way now' calls held')) (sym parts)
              (leaves.on (ToFile s.made) s.way start (s.job_.asked ∙ asked_none job.asked _ over.heard) over.rows
              (subst (λ (p : Bool). Told start told (λ calls. IsGoing p s.made s.way now calls held)) parts on));
        }
    go false stays same on =
        subst (λ (x : board.Seen). IsSharing terms start told' job x held') (sym same.0)
        (subst (λ (l : List (Held Ticket)). IsSharing terms start told' job now l) (sym same.1)
        (subst (λ (t : Option (List wire.Call)). IsSharing terms start t job now held) (sym same.2) s))

-- The end.

pub shares_later : (options : CopyOptions) (from : Place) (start a b : Option (List wire.Call)) → GoesIdly a b → SharesOut options from start a → SharesOut options from start b
shares_later options from start a b idly (Not_settled none) = Not_settled (few_then 0 start start a b none (few_idly 0 start a b idly))
shares_later options from start a b idly (Is_settled mid terms none has few) =
    Is_settled mid terms none has (few_then (share terms) start mid a b few (few_idly (share terms) start a b idly))

pub few_more : (few most : ℕ) (calls : List wire.Call) → few ≤ most → AreFew few calls → AreFew most calls
few_more few most calls less f link = let one = f link in record { list = one.list; few = (let l = one.few in omega (arith, l, less)); all = one.all }

pub none_less : (most : ℕ) → 0 ≤ most
none_less most = omega arith

pub blank : AreFew 0 []
blank link = record { list = []; few = omega arith; all = λ cookie command asked moves waits. absurd (none_some command asked) }

pub shares_always : (options : CopyOptions) (from : Place) (start told : Option (List wire.Call)) → SharesOut options from start told → Told start told (IsAlwaysSharedTo options from)
shares_always options from start told (Not_settled none) = record {
  since = λ all is.
      let f = none.on all is in
      record {
        before = f.was;
        calls = f.more;
        was = f.is;
        now = f.are;
        is = record { each = λ front rest e. inl (few_dealt 0 from front (f.few f.was [] f.is (sym (append-nil f.was)) blank front rest e)) };
      };
}
shares_always options from start told (Is_settled mid terms none has few) = record {
  since = λ all is.
      let late = few.on all is in
      let early = none.on late.was late.is in
      record {
        before = early.was;
        calls = early.more ++ late.more;
        was = early.is;
        now = late.are ∙ ap (λ (l : List wire.Call). l ++ late.more) early.are ∙ append_assoc early.was early.more late.more;
        is = record { each = λ front rest e. go late early (has.shown.since late.was late.is) front rest (cut early.more late.more front rest e) };
      };
}
  where
    none_by : {all : List wire.Call} (f : FewMore 0 start start all) → (front rest : List wire.Call) → f.more ≡ front ++ rest → AreFew 0 front
    none_by f front rest e = f.few f.was [] f.is (sym (append-nil f.was)) blank front rest e

    go : {all : List wire.Call} (late : FewMore (share terms) start mid all) (early : FewMore 0 start start late.was) (told : Since start late.was (AtSome (Drove options.extents from (IsShown
        has.source)))) (front rest : List wire.Call) →
        InFirst early.more front ⊎ InSecond early.more late.more front rest → NoneIsUnanswered from front ⊎ IsSharedTo options from front
    go late early told front rest (inl i) = inl (few_dealt 0 from front (none_by early front i.rest i.is))
    go late early told front rest (inr i) =
        let before : told.before ≡ early.was = some_same told.before early.was (sym told.was ∙ early.is) in
        let calls : told.calls ≡ early.more = same_rest early.was told.calls early.more (ap (λ (l : List wire.Call). l ++ told.calls) (sym before) ∙ sym told.now ∙ early.are) in
        let few_then : AreFew 0 early.more = none_by early early.more [] (sym (append-nil early.more)) in
        inr (subst (IsSharedTo options from) (sym i.front_is) (record {
          source = has.source;
          shown = some_longer early.more i.more (subst (AtSome (Drove options.extents from (IsShown has.source))) calls told.is);
          terms = terms;
          settled = has.settled;
          few = few_dealt (share terms) from (early.more ++ i.more)
              (late.few early.was early.more early.is early.are (few_more 0 (share terms) early.more (none_less (share terms)) few_then) i.more rest i.is);
        }))

-- How the requests of a copy from a file to an export stay shared out among its connections, at each moment.
use Rattle.std.proofs.Common.{◌≡◌, ◌≢◌, ◌≤◌, ◌⊎◌, inl, inr, ℕ, Bool, false, List, [], ◌++◌, Option, Some, None, Result, Ok, Err, IfOk, refl, ap, sym, subst, ◌∙◌, append_assoc, append-nil}
use Rattle.lnbd_model.specs.declared.target.Place.{Place}
use Rattle.lnbd_link.specs.Call as wire
use Rattle.lnbd_poll.specs.Held.{Held}
use Rattle.lnbd_plan.specs.declared.options.CopyOptions.{CopyOptions}
use Rattle.lnbd_board.specs.declared.how.How.{How}
use Rattle.lnbd_board.specs.declared.row.Row.{Row}
use Rattle.lnbd_board.specs.declared.ticket.Ticket.{Ticket}
use Rattle.lnbd_board.specs.Files as board
use Rattle.lnbd_board.specs.Requests.{Request}
use Rattle.lnbd_course.specs.Counted.{HasNotCounted}
use Rattle.lnbd_course.specs.Far.{Far, FromFile}
use Rattle.lnbd_course.proofs.Cuts.{InFirst, InSecond, cut}
use Rattle.lnbd_conduct.specs.declared.terms.Terms.{Terms}
use Rattle.lnbd_conduct.specs.Grounds.{Drove, IsShown}
use Rattle.lnbd_conduct.specs.Told.{AtSome, Since, Told}
use Rattle.lnbd_copy.specs.Bound.{on_destination}
use Rattle.lnbd_copy.specs.Dealt.{IsDealt}
use Rattle.lnbd_copy.specs.Faults.{GoesIdly}
use Rattle.lnbd_copy.specs.Way.{Stand}
use Rattle.lnbd_copy.proofs.AlwaysLemmas.{some_longer}
use Rattle.lnbd_copy.proofs.CopierLemmas.{told_as}
use Rattle.lnbd_copy.proofs.LastLemmas.{at_once, told_later}
use Rattle.lnbd_copy.proofs.SettledLemmas.{same_rest}
use Rattle.lnbd_copy.proofs.ShareLemmas.{many_bound}
use Rattle.lnbd_copy.proofs.TurnLemmas.{some_same}
use Rattle.lnbd_store.specs.Shelf.{Shelf}
use Rattle.lnbd_connections.specs.Bound.{Binds, BindsMore, DrivesFirst, IsBound, IsDriving}
use Rattle.lnbd_connections.specs.Few.{AreFew, FewMore, HasFew, StaysFew}
use Rattle.lnbd_connections.specs.Steps as steps
use Rattle.lnbd_connections.specs.Way.{IsUnderWay, Way}
use Rattle.lnbd_connections.proofs.BoundWay.{bound_agreed, bound_began, bound_settled, bound_way, driving_shown}
use Rattle.lnbd_connections.proofs.FewLemmas.{bound_few, few_idly, few_same, few_then, none_few}
use Rattle.lnbd_copyfile.specs.declared.from_file_job.Phase.{Phase}
use Rattle.lnbd_copyfile.specs.declared.from_file_job.Phase.TheVariants.{Copying, Flushing, Parting}
use Rattle.lnbd_copyfile.specs.Binding.{HasDealt, Spreads}
use Rattle.lnbd_copyfile.specs.FromFile.{AreMade, HasAgreed, HasMet, HasNotBegun, Seen, new_board, new_way}
use Rattle.lnbd_copyfile.specs.FromFileJob.{Acts, IsJob}
use Rattle.lnbd_copyfile.specs.Holes.{nowhere}
use Rattle.lnbd_copyfile.specs.FromFileJob as work
use Rattle.lnbd_copyfile.specs.Shares.{IsAlwaysSharedFrom, IsSharedFrom, NoneIsUnanswered}
use Rattle.lnbd_copyfile.specs.SharingFrom.{AreOpening, FindsTermsFrom, HasShared, HasTermsFrom, HaveMet, Is_settled, IsSending, IsSharing, Not_settled, SharesOut, share}
use Rattle.lnbd_copyfile.proofs.FromFileJobLemmas.{job_filed}
use Rattle.lnbd_copyfile.proofs.FromFileLemmas.{made_dialed, made_first}
use Rattle.lnbd_copyfile.proofs.ShareLemmas.{blank, few_dealt, few_lasts, few_more, no_calls, none_less}

-- Connections are made.

pub opening_first : (to : Place) (start : Option (List wire.Call)) (copy : Seen) → AreMade to None start start copy → AreOpening to None start start copy
opening_first to start copy made = record {
  how = made.how;
  on = record {
    since = λ all is.
        let since = made.on.since all is in
        let none = no_calls start all is since in
        record {
          before = since.before;
          calls = [];
          was = since.was;
          now = since.now ∙ ap (λ (l : List wire.Call). since.before ++ l) none;
          is = bound_began false (FromFile []) (new_way to None made.how) copy.board copy.held made.rows
              (subst (λ (l : List wire.Call). IsUnderWay (FromFile []) (new_way to None made.how) copy.board l copy.held) none since.is);
        };
  };
}

module _ (to : Place) (room : Option ℕ) (start a b : Option (List wire.Call)) (copy copy' : Seen) where
  pub opening_dialed : copy'.board ≡ copy.board → BindsMore to copy.board copy.held a copy'.held b → AreOpening to room start a copy → AreOpening to room start b copy'
  opening_dialed same binds o = record {
    how = o.how;
    on = subst (λ (s : board.Seen). Told start b (λ calls. IsBound false (FromFile []) (new_way to room o.how) s calls copy'.held)) (sym same)
        (binds.on false (FromFile []) (new_way to room o.how) start refl o.on);
  }

  pub opening_settled : Stand copy.held → Binds copy.board copy.held a copy'.board copy'.held b → AreOpening to room start a copy → AreOpening to room start b copy'
  opening_settled stand binds o = record { how = o.how; on = binds.on false (FromFile []) (new_way to room o.how) start stand o.on }

-- While connections are made none is unanswered on any link.
pub made_few : (to : Place) (room : Option ℕ) (start told told' : Option (List wire.Call)) (copy : Seen) → AreMade to room start told copy →
    ((most : ℕ) (far : Far) (way : Way) (from : Option (List wire.Call)) → Stand copy.held → copy.board.rows ≡ [] → Told from told (λ calls. IsUnderWay far way copy.board calls copy.held) →
    StaysFew most from told told') → StaysFew 0 start told told'
made_few to room start told told' copy made few = few 0 (FromFile []) (new_way to room made.how) start made.stand made.rows made.on

pub met_few : (to : Place) (start b s : Option (List wire.Call)) (copy mid : Seen) → HasNotBegun copy → mid.board ≡ copy.board → steps.Dials to 1 copy.board copy.held start mid.held b →
    StaysFew 0 start start b →
    ((most : ℕ) (far : Far) (way : Way) (from : Option (List wire.Call)) → Stand mid.held → mid.board.rows ≡ [] → Told from b (λ calls. IsUnderWay far way mid.board calls mid.held) →
    StaysFew most from b s) → StaysFew 0 start start s
met_few to start b s copy mid new same dials first few =
    few_then 0 start start b s first (made_few to None start b s mid (made_dialed to None start start b copy mid 1 same dials (made_first to start copy new)) few)

-- The first one is made, and tells of the export,
module _ (to : Place) (start b c : Option (List wire.Call)) (copy mid copy' : Seen) where
  pub opening_meets : (terms : Terms) → HasNotBegun copy → mid.board ≡ copy.board →
      steps.Dials to 1 copy.board copy.held start mid.held b → BindsMore to copy.board copy.held start mid.held b → Binds mid.board mid.held b copy'.board copy'.held c →
      HasAgreed terms copy'.held → HaveMet to terms start c copy'
  opening_meets terms new same dials more binds agreed =
      let made = made_first to start copy new in
      let o = opening_settled to None start b c mid copy' (dials.stand made.stand) binds (opening_dialed to None start start b copy mid same more (opening_first to start copy made)) in
      record {
        room = agreed.room;
        fits = agreed.fits;
        opening = record {
          how = o.how;
          on = told_as start c (λ calls on. bound_agreed false (FromFile []) (new_way to None o.how) copy'.board calls copy'.held on 0 agreed.room refl agreed.tells) o.on;
        };
      }

  pub terms_met : (options : CopyOptions) (terms : Terms) → HasNotBegun copy → mid.board ≡ copy.board →
      steps.Dials to 1 copy.board copy.held start mid.held b → DrivesFirst to false copy.board copy.held start mid.held b → Binds mid.board mid.held b copy'.board copy'.held c →
      FindsTermsFrom options terms copy'.held → HasTermsFrom options to start c terms
  terms_met options terms new same dials first binds finds =
      let made = made_first to start copy new in
      let o = opening_first to start copy made in
      let dialed : Told start b (λ calls. IsDriving false (FromFile []) (new_way to None o.how) mid.board calls mid.held) =
      subst (λ (s : board.Seen). Told start b (λ calls. IsDriving false (FromFile []) (new_way to None o.how) s calls mid.held)) (sym same)
      (first.on false (FromFile []) (new_way to None o.how) start refl new.held o.on) in
      record {
        destination = finds.destination;
        shown = told_as start c (λ calls on. at_once calls (driving_shown false (FromFile []) (new_way to None o.how) copy'.board calls copy'.held on finds.destination 0 finds.shown))
            (binds.drives false (FromFile []) (new_way to None o.how) start (dials.stand made.stand) dialed);
        settled = finds.settled;
      }

-- and then the further ones.
module _ (to : Place) (terms : Terms) (start a b : Option (List wire.Call)) (copy mid : Seen) where
  pub join_few : (more : ℕ) (s : Option (List wire.Call)) → mid.board ≡ copy.board → steps.Dials to more copy.board copy.held a mid.held b → StaysFew 0 start a b →
      ((most : ℕ) (far : Far) (way : Way) (from : Option (List wire.Call)) → Stand mid.held → mid.board.rows ≡ [] → Told from b (λ calls. IsUnderWay far way mid.board calls mid.held) →
      StaysFew most from b s) → HasMet to terms start a copy → StaysFew 0 start a s
  join_few more s same dials first few met = few_then 0 start a b s first (made_few to (Some met.room) start b s mid (made_dialed to (Some met.room) start a b copy mid more same dials met.made) few)

  pub opening_joins : (more : ℕ) (c : Option (List wire.Call)) (copy' : Seen) → mid.board ≡ copy.board → steps.Dials to more copy.board copy.held a mid.held b →
      BindsMore to copy.board copy.held a mid.held b → Binds mid.board mid.held b copy'.board copy'.held c → HasMet to terms start a copy → HaveMet to terms start a copy →
      HaveMet to terms start c copy'
  opening_joins more c copy' same dials further binds met have = record {
    room = have.room;
    fits = have.fits;
    opening = opening_settled to (Some have.room) start b c mid copy' (dials.stand met.made.stand) binds
        (opening_dialed to (Some have.room) start a b copy mid same further have.opening);
  }

pub terms_later : (options : CopyOptions) (to : Place) (most : ℕ) (start from a b : Option (List wire.Call)) (terms : Terms) → StaysFew most from a b → HasTermsFrom options to start a terms →
    HasTermsFrom options to start b terms
terms_later options to most start from a b terms few s =
    record { destination = s.destination; shown = told_later start a b (few_lasts most from a b few) s.shown; settled = s.settled }

-- The job begins, on a board of its own.

uncounted : (how : How) → HasNotCounted (new_board how)
uncounted how = record { read = refl; written = refl; zeroed = refl; flushing = refl; flushed = refl }

sending_copies : (phase : Phase) → phase ≡ Copying → (read : List Request) (way : Way) (now : board.Seen) (calls : List wire.Call) (held : List (Held Ticket)) →
    IsBound false (FromFile read) way now calls held →
    IsSending phase read way now calls held
sending_copies phase copying read way now calls held on = subst (λ (p : Phase). IsSending p read way now calls held) (sym copying) on

pub sharing_begins : (to : Place) (terms : Terms) (start told : Option (List wire.Call)) (copy copy' : Seen) (job : work.Seen) → copy'.held ≡ copy.held → copy'.board ≡ new_board terms.how →
    copy.board.error ≡ None → job.terms ≡ terms → job.phase ≡ Copying → IsDealt terms.limit terms.sides.destination job.bound [] →
    ((way : Way) (now : board.Seen) (room : ℕ) → way.size ≡ Some room → terms.size ≤ room → way.how ≡ terms.how → now.how ≡ terms.how → way.slices ≡ [] → way.asked ≡ None → now.flushing ≡ false →
    IsJob job nowhere way now) → HasMet to terms start told copy → HaveMet to terms start told copy → IsSharing terms start told job copy'
sharing_begins to terms start told copy copy' job held fresh well same copying dealt begins met have =
    let way = new_way to (Some have.room) terms.how in
    record {
      way = way;
      read = [];
      zero = nowhere;
      terms_ = same;
      is = begins way copy'.board have.room refl have.fits refl (ap (λ (s : board.Seen). s.how) fresh) refl refl (ap (λ (s : board.Seen). s.flushing) fresh);
      stand = subst Stand (sym held) met.made.stand;
      dealt = subst (λ (t : Terms). IsDealt t.limit t.sides.destination job.bound (on_destination copy'.board.rows)) (sym same)
          (subst (λ (l : List (ℕ × Row)). IsDealt terms.limit terms.sides.destination job.bound (on_destination l)) (sym (ap (λ (s : board.Seen). s.rows) fresh)) dealt);
      on = told_as start told (λ calls on. sending_copies job.phase copying [] way copy'.board calls copy'.held on)
          (subst (λ (s : board.Seen). Told start told (λ calls. IsBound false (FromFile []) (new_way to (Some have.room) terms.how) s calls copy'.held)) (sym fresh)
          (subst (λ (h : List (Held Ticket)). Told start told (λ calls. IsBound false (FromFile []) (new_way to (Some have.room) terms.how) (new_board terms.how) calls h)) (sym held)
          (told_as start told (λ calls on. bound_settled false (FromFile []) (new_way to (Some have.room) have.opening.how) copy.board calls copy.held on terms.how (new_board terms.how) refl refl
          met.made.rows
          well met.made.unflushed refl refl (uncounted terms.how)) have.opening.on)));
    }

pub sharing_sets_up : (terms : Terms) (copy copy' : Seen) {Y : Type 0} (r : Result work.Seen Y) → copy'.held ≡ copy.held → copy'.board ≡ new_board terms.how → copy.board.error ≡ None →
    IfOk r (λ job. job.terms ≡ terms) → IfOk r (λ job. job.phase ≡ Copying) → IfOk r (λ job. IsDealt terms.limit terms.sides.destination job.bound []) →
    IfOk r (λ job. (way : Way) (now : board.Seen) (room : ℕ) → way.size ≡ Some room → terms.size ≤ room → way.how ≡ terms.how → now.how ≡ terms.how → way.slices ≡ [] → way.asked ≡ None →
    now.flushing ≡ false → IsJob job nowhere way now) →
    IfOk r (λ job. (to : Place) (start told : Option (List wire.Call)) → HasMet to terms start told copy → HaveMet to terms start told copy → IsSharing terms start told job copy')
sharing_sets_up terms copy copy' (Ok job) held fresh well same copying dealt begins =
    λ to start told met have. sharing_begins to terms start told copy copy' job held fresh well same copying dealt begins met have
sharing_sets_up terms copy copy' (Err why) held fresh well same copying dealt begins = tt

pub shared_first : (options : CopyOptions) (to : Place) (terms : Terms) (start a told : Option (List wire.Call)) (job : work.Seen) (copy : Seen) → StaysFew 0 start start a → StaysFew 0 start a told →
    HasTermsFrom options to start a terms → IsSharing terms start told job copy → HasShared options to start told job copy
shared_first options to terms start a told job copy first few has sharing = record {
  mid = told;
  terms = terms;
  none = few_then 0 start start a told first few;
  has = terms_later options to 0 start start a told terms few has;
  few = few_same (share terms) start told;
  sharing = sharing;
}

-- Turns.

-- No more slices are bound to a connection than its share, or none has a row: so no more are asked of it.
sending_few : (terms : Terms) (phase : Phase) (job : work.Seen) (read : List Request) (way : Way) (now : board.Seen) (calls : List wire.Call) (held : List (Held Ticket)) → job.terms ≡ terms →
    HasDealt job now →
    (phase ≡ Parting → now.rows ≡ []) → IsSending phase read way now calls held → HasFew (share terms) (FromFile read) way now calls held
sending_few terms phase job read way now calls held same dealt over on = go phase over on
  where
    bound : IsBound false (FromFile read) way now calls held → HasFew (share terms) (FromFile read) way now calls held
    bound b =
        bound_few (share terms) false (FromFile read) way now calls held
        (λ c. subst (λ (n : ℕ). n ≤ share terms) (sym (many_bound (λ row. row.destination) c now.rows))
        ((subst (λ (t : Terms). IsDealt t.limit t.sides.destination job.bound (on_destination now.rows)) same dealt).spread.few c)) b

    go : (phase : Phase) → (phase ≡ Parting → now.rows ≡ []) → IsSending phase read way now calls held → HasFew (share terms) (FromFile read) way now calls held
    go Copying over on = bound on
    go Flushing over on = bound on
    go Parting over on = none_few (share terms) (FromFile read) way now calls held (over refl) on

parting_past : Parting ≡ Copying → ⊥
parting_past e = cc

over_rows : (job : work.Seen) (zero : ℕ → Bool) (way : Way) (now : board.Seen) → IsJob job zero way now → job.phase ≡ Parting → now.rows ≡ []
over_rows job zero way now is parting = (is.over (λ copying. parting_past (sym parting ∙ copying))).rows

pub sharing_few : (terms : Terms) (start told : Option (List wire.Call)) (job : work.Seen) (copy : Seen) → (s : IsSharing terms start told job copy) →
    Told start told (λ calls. HasFew (share terms) (FromFile s.read) s.way copy.board calls copy.held)
sharing_few terms start told job copy s =
    told_as start told (λ calls on. sending_few terms job.phase job s.read s.way copy.board calls copy.held s.terms_ s.dealt (over_rows job s.zero s.way copy.board s.is) on) s.on

-- whatever a turn of the connections comes to
pub turned_shares : (terms : Terms) (start told told' : Option (List wire.Call)) (job : work.Seen) (copy : Seen) →
    ((most : ℕ) (far : Far) (way : Way) (from : Option (List wire.Call)) → Stand copy.held → Told from told (λ calls. HasFew most far way copy.board calls copy.held) → StaysFew most from told told') →
    IsSharing terms start told job copy → StaysFew (share terms) start told told'
turned_shares terms start told told' job copy few s = few (share terms) (FromFile s.read) s.way start s.stand (sharing_few terms start told job copy s)

sending_turned : (phase : Phase) (read : List Request) (way : Way) (start a b : Option (List wire.Call)) (now now' : board.Seen) (held held' : List (Held Ticket)) →
    steps.Goes now held a now' held' b →
    Binds now held a now' held' b → Stand held → Told start a (λ calls. IsSending phase read way now calls held) → Told start b (λ calls. IsSending phase read way now' calls held')
sending_turned Copying read way start a b now now' held held' goes binds stand on = binds.on false (FromFile read) way start stand on
sending_turned Flushing read way start a b now now' held held' goes binds stand on = binds.on false (FromFile read) way start stand on
sending_turned Parting read way start a b now now' held held' goes binds stand on = goes.on (FromFile read) way start stand on

pub sharing_turned : (terms : Terms) (start a b : Option (List wire.Call)) (job : work.Seen) (copy copy' : Seen) → steps.Goes copy.board copy.held a copy'.board copy'.held b →
    Binds copy.board copy.held a copy'.board copy'.held b → IsSharing terms start a job copy → IsSharing terms start b job copy'
sharing_turned terms start a b job copy copy' goes binds s = record {
  way = s.way;
  read = s.read;
  zero = s.zero;
  terms_ = s.terms_;
  is = job_filed job s.zero s.way copy.board copy'.board (goes.filed s.stand) s.is;
  stand = goes.stand s.stand;
  dealt = subst (λ (l : List ℕ). IsDealt job.terms.limit job.terms.sides.destination job.bound l) (sym (goes.filed s.stand).writes) s.dealt;
  on = sending_turned job.phase s.read s.way start a b copy.board copy'.board copy.held copy'.held goes binds s.stand s.on;
}

sending_way : (phase : Phase) (read : List Request) (way : Way) (now : board.Seen) (calls : List wire.Call) (held : List (Held Ticket)) → IsSending phase read way now calls held →
    IsUnderWay (FromFile read) way now calls held
sending_way Copying read way now calls held on = bound_way false (FromFile read) way now calls held on
sending_way Flushing read way now calls held on = bound_way false (FromFile read) way now calls held on
sending_way Parting read way now calls held on = on

copying_on : Copying ≡ Parting → ⊥
copying_on e = cc

flushing_on : Flushing ≡ Parting → ⊥
flushing_on e = cc

sending_bound : (phase : Phase) (read : List Request) (way : Way) (now : board.Seen) (calls : List wire.Call) (held : List (Held Ticket)) → phase ≢ Parting → IsSending phase read way now calls held →
    IsBound false (FromFile read) way now calls held
sending_bound Copying read way now calls held un on = on
sending_bound Flushing read way now calls held un on = on
sending_bound Parting read way now calls held un on = absurd (un refl)

-- as it is before the connections part
sending_on : (old new : Phase) → (old ≡ Parting → new ≡ Parting) → (read read' : List Request) (way way' : Way) (now now' : board.Seen) (calls : List wire.Call) (held held' : List (Held Ticket)) →
    (IsUnderWay (FromFile read) way now calls held → IsUnderWay (FromFile read') way' now' calls held') →
    (new ≢ Parting → IsBound false (FromFile read) way now calls held → IsBound false (FromFile read') way' now' calls held') →
    IsSending old read way now calls held → IsSending new read' way' now' calls held'
sending_on old Copying parts read read' way way' now now' calls held held' on bound was =
    bound copying_on (sending_bound old read way now calls held (λ e. copying_on (parts e)) was)
sending_on old Flushing parts read read' way way' now now' calls held held' on bound was =
    bound flushing_on (sending_bound old read way now calls held (λ e. flushing_on (parts e)) was)
sending_on old Parting parts read read' way way' now now' calls held held' on bound was = on (sending_way old read way now calls held was)

pub sharing_acts : (terms : Terms) (file : ℕ) (start told : Option (List wire.Call)) (job job' : work.Seen) (copy copy' : Seen) {old new : Option Shelf} {given given' : ℕ} →
    Acts file job job' copy.board copy'.board copy.held copy'.held old new given given' → Spreads job job' copy.board copy'.board → job'.terms ≡ job.terms → IsSharing terms start told job copy →
    IsSharing terms start told job' copy'
sharing_acts terms file start told job job' copy copy' acts spreads same s =
    let further = acts.on s.read s.zero s.way s.is in
    record {
      way = further.way';
      read = further.read';
      zero = further.zero';
      terms_ = same ∙ s.terms_;
      is = further.job;
      stand = acts.stand s.stand;
      dealt = spreads.on s.dealt;
      on = told_as start told
          (λ calls on. sending_on job.phase job'.phase acts.parts s.read further.read' s.way further.way' copy.board copy'.board calls copy.held copy'.held (further.on calls)
          (λ un. further.bound un calls) on) s.on;
    }

pub sharing_leaves : (terms : Terms) (start a b : Option (List wire.Call)) (job : work.Seen) (copy copy' : Seen) → job.phase ≡ Parting → steps.Leaves copy.board copy.held a copy'.board copy'.held b →
    IsSharing terms start a job copy → IsSharing terms start b job copy'
sharing_leaves terms start a b job copy copy' parting leaves s = record {
  way = s.way;
  read = s.read;
  zero = s.zero;
  terms_ = s.terms_;
  is = job_filed job s.zero s.way copy.board copy'.board leaves.filed s.is;
  stand = leaves.stand s.stand;
  dealt = subst (λ (l : List ℕ). IsDealt job.terms.limit job.terms.sides.destination job.bound l) (sym leaves.filed.writes) s.dealt;
  on = subst (λ (p : Phase). Told start b (λ calls. IsSending p s.read s.way copy'.board calls copy'.held)) (sym parting)
      (leaves.on (FromFile s.read) s.way start s.is.unasked (over_rows job s.zero s.way copy.board s.is parting)
      (subst (λ (p : Phase). Told start a (λ calls. IsSending p s.read s.way copy.board calls copy.held)) parting s.on));
}

-- a turn with its job, and what comes behind it
pub sharing_round : (terms : Terms) (file : ℕ) (start a b c : Option (List wire.Call)) (job job' : work.Seen) (copy copy2 copy3 copy4 : Seen) {old new : Option Shelf} {given given' : ℕ} →
    steps.Goes copy.board copy.held a copy2.board copy2.held b → Binds copy.board copy.held a copy2.board copy2.held b →
    Acts file job job' copy2.board copy3.board copy2.held copy3.held old new given given' → Spreads job job' copy2.board copy3.board → job'.terms ≡ job.terms →
    (IsSharing terms start b job' copy3 → IsSharing terms start c job' copy4) → IsSharing terms start a job copy → IsSharing terms start c job' copy4
sharing_round terms file start a b c job job' copy copy2 copy3 copy4 goes binds acts spreads same left s =
    left (sharing_acts terms file start b job job' copy2 copy3 acts spreads same (sharing_turned terms start a b job copy copy2 goes binds s))

pub round_few : (terms : Terms) (start a b c : Option (List wire.Call)) (job : work.Seen) (copy : Seen) →
    ((most : ℕ) (far : Far) (way : Way) (from : Option (List wire.Call)) → Stand copy.held → Told from a (λ calls. HasFew most far way copy.board calls copy.held) → StaysFew most from a b) →
    GoesIdly b c → IsSharing terms start a job copy → StaysFew (share terms) start a c
round_few terms start a b c job copy few idly s = few_then (share terms) start a b c (turned_shares terms start a b job copy few s) (few_idly (share terms) start b c idly)

pub shared_steps : (options : CopyOptions) (to : Place) (start a b : Option (List wire.Call)) (job job' : work.Seen) (copy copy' : Seen) →
    ((terms : Terms) (from : Option (List wire.Call)) → IsSharing terms from a job copy → StaysFew (share terms) from a b) →
    ((terms : Terms) (from : Option (List wire.Call)) → IsSharing terms from a job copy → IsSharing terms from b job' copy') →
    HasShared options to start a job copy → HasShared options to start b job' copy'
shared_steps options to start a b job job' copy copy' few on s = record {
  mid = s.mid;
  terms = s.terms;
  none = s.none;
  has = s.has;
  few = few_then (share s.terms) start s.mid a b s.few (few s.terms start s.sharing);
  sharing = on s.terms start s.sharing;
}

-- The end.

pub shared_ends : (options : CopyOptions) (to : Place) (start a b : Option (List wire.Call)) (job : work.Seen) (copy : Seen) →
    ((terms : Terms) (from : Option (List wire.Call)) → IsSharing terms from a job copy → StaysFew (share terms) from a b) → HasShared options to start a job copy → SharesOut options to start b
shared_ends options to start a b job copy few s = Is_settled s.mid s.terms s.none s.has (few_then (share s.terms) start s.mid a b s.few (few s.terms start s.sharing))

pub shared_so : (options : CopyOptions) (to : Place) (start told : Option (List wire.Call)) (job : work.Seen) (copy : Seen) → HasShared options to start told job copy → SharesOut options to start told
shared_so options to start told job copy s = Is_settled s.mid s.terms s.none s.has s.few

pub shares_later : (options : CopyOptions) (to : Place) (start a b : Option (List wire.Call)) → GoesIdly a b → SharesOut options to start a → SharesOut options to start b
shares_later options to start a b idly (Not_settled none) = Not_settled (few_then 0 start start a b none (few_idly 0 start a b idly))
shares_later options to start a b idly (Is_settled mid terms none has few) =
    Is_settled mid terms none has (few_then (share terms) start mid a b few (few_idly (share terms) start a b idly))

pub shares_always : (options : CopyOptions) (to : Place) (start told : Option (List wire.Call)) → SharesOut options to start told → Told start told (IsAlwaysSharedFrom options to)
shares_always options to start told (Not_settled none) = record {
  since = λ all is.
      let f = none.on all is in
      record {
        before = f.was;
        calls = f.more;
        was = f.is;
        now = f.are;
        is = record { each = λ front rest e. inl (few_dealt 0 to front (f.few f.was [] f.is (sym (append-nil f.was)) blank front rest e)) };
      };
}
shares_always options to start told (Is_settled mid terms none has few) = record {
  since = λ all is.
      let late = few.on all is in
      let early = none.on late.was late.is in
      record {
        before = early.was;
        calls = early.more ++ late.more;
        was = early.is;
        now = late.are ∙ ap (λ (l : List wire.Call). l ++ late.more) early.are ∙ append_assoc early.was early.more late.more;
        is = record { each = λ front rest e. go late early (has.shown.since late.was late.is) front rest (cut early.more late.more front rest e) };
      };
}
  where
    none_by : {all : List wire.Call} (f : FewMore 0 start start all) → (front rest : List wire.Call) → f.more ≡ front ++ rest → AreFew 0 front
    none_by f front rest e = f.few f.was [] f.is (sym (append-nil f.was)) blank front rest e

    go : {all : List wire.Call} (late : FewMore (share terms) start mid all) (early : FewMore 0 start start late.was) (told : Since start late.was (AtSome (Drove false to (IsShown
        has.destination)))) (front rest : List wire.Call) →
        InFirst early.more front ⊎ InSecond early.more late.more front rest → NoneIsUnanswered to front ⊎ IsSharedFrom options to front
    go late early told front rest (inl i) = inl (few_dealt 0 to front (none_by early front i.rest i.is))
    go late early told front rest (inr i) =
        let before : told.before ≡ early.was = some_same told.before early.was (sym told.was ∙ early.is) in
        let calls : told.calls ≡ early.more = same_rest early.was told.calls early.more (ap (λ (l : List wire.Call). l ++ told.calls) (sym before) ∙ sym told.now ∙ early.are) in
        let few_then : AreFew 0 early.more = none_by early early.more [] (sym (append-nil early.more)) in
        inr (subst (IsSharedFrom options to) (sym i.front_is) (record {
          destination = has.destination;
          shown = some_longer early.more i.more (subst (AtSome (Drove false to (IsShown has.destination))) calls told.is);
          terms = terms;
          settled = has.settled;
          few = few_dealt (share terms) to (early.more ++ i.more)
              (late.few early.was early.more early.is early.are (few_more 0 (share terms) early.more (none_less (share terms)) few_then) i.more rest i.is);
        }))

-- What a copy from an export to a file asks of the export it asks once at most, whatever it comes to.
use Rattle.std.proofs.Common.{◌≡◌, ◌⊎◌, inl, inr, ◌<◌, ◌≤◌, ℕ, Bool, true, false, List, [], ◌++◌, Option, Some, None}
use Rattle.std.proofs.Common.{refl, ap, sym, subst, ◌∙◌, arith}
use Rattle.lnbd_model.specs.declared.export.ExportInfo.{ExportInfo}
use Rattle.lnbd_model.specs.declared.kind.Kind.TheVariants.{BlockStatus}
use Rattle.lnbd_model.specs.declared.target.Place.{Place}
use Rattle.lnbd_link.specs.Call as wire
use Rattle.lnbd_link.specs.Numbers.{is_given}
use Rattle.lnbd_history.specs.Commands.{Command}
use Rattle.lnbd_history.specs.Events.{History}
use Rattle.lnbd_asked.specs.Exports.{name_set}
use Rattle.lnbd_outcome.specs.Outcome.{Unfinished}
use Rattle.lnbd_asked.specs.Link.{Nobody}
use Rattle.lnbd_asked.specs.Transcript.{Dealt, dealt_with}
use Rattle.lnbd_poll.specs.Held.{Held}
use Rattle.lnbd_plan.specs.declared.cells.Cells.{Cells}
use Rattle.lnbd_plan.specs.declared.grid.Slice.{Slice}
use Rattle.lnbd_plan.specs.Laws.{IsPlannedOnce, told_by}
use Rattle.lnbd_board.specs.declared.how.How.{How}
use Rattle.lnbd_board.specs.declared.ticket.Ticket.{Ticket}
use Rattle.lnbd_board.specs.Files as board
use Rattle.lnbd_board.specs.Requests.{Request, reads}
use Rattle.lnbd_board.specs.Rows.{max_extents}
use Rattle.lnbd_course.specs.Asks.{AreAskedOnce, EachAsked, GrewBy, IsPlain, NoneMeet, is_look}
use Rattle.lnbd_course.specs.Far.{Far, ToFile}
use Rattle.lnbd_course.proofs.Asking.{not_one}
use Rattle.lnbd_course.proofs.Ending.{planned_once}
use Rattle.lnbd_course.proofs.Holding.{one_has}
use Rattle.lnbd_course.proofs.Once.{asked_once}
use Rattle.lnbd_course.proofs.Quiet.{dealt_stays, links_stay}
use Rattle.lnbd_conduct.specs.declared.terms.Terms.{Terms}
use Rattle.lnbd_conduct.specs.Told.{Told}
use Rattle.lnbd_conduct.specs.Grounds.{IsShown}
use Rattle.lnbd_copy.specs.Faults.{GoesIdly}
use Rattle.lnbd_copy.specs.Grounds.{Happens}
use Rattle.lnbd_copy.specs.Lasting.{Lasts}
use Rattle.lnbd_copy.proofs.EndLemmas.{told_part}
use Rattle.lnbd_copy.proofs.IdleLemmas.{StaysIdly, told_idly}
use Rattle.lnbd_copy.proofs.AlwaysLemmas.{some_longer}
use Rattle.lnbd_copy.proofs.GroundLemmas.{driven_at, given_at}
use Rattle.lnbd_copy.proofs.LastLemmas.{at_once, lasts_none, lasts_then}
use Rattle.lnbd_copy.proofs.TurnLemmas.{since_on, told_map}
use Rattle.lnbd_store.specs.Shelf.{Shelf}
use Rattle.lnbd_connections.specs.Asks.{Asks, AsksNone, DialsOnly, WasSettled}
use Rattle.lnbd_connections.specs.Way.{IsUnderWay, Way}
use Rattle.lnbd_connections.proofs.AskLemmas.{asks_still, idly_lasts}
use Rattle.lnbd_copyfile.specs.Jobs.{Seen}
use Rattle.lnbd_copyfile.specs.Taken.{NothingWasRead, ReadsAtMostOnce, ReadsWithin, SparesWhole, WasShown}
use Rattle.lnbd_copyfile.specs.Taking.{ReadsNoMore, ReadsNothing, SparesBlocks, TellsBlock, WasOfBlock}
use Rattle.lnbd_copyfile.specs.ToFile.{GoesFurther, IsBeginning, IsCopying, beginning}
use Rattle.lnbd_copyfile.specs.ToFileJob.{IsJob}
use Rattle.lnbd_copyfile.proofs.SparingLemmas.{job_spares, none_spares, spares_stay, spares_whole}

-- By what the rows of a board say.

none_some : {A : Type 0} (one : A) → None ≡ Some one → ⊥
none_some one e = cc

-- of what nothing was asked
abbrev nothing : Dealt
nothing = record { asked = λ link cookie. None; outcome = λ link cookie. Unfinished; zero = λ link cookie p. false; size = λ link. None }

-- what was asked of the export, where the slices that were begun, with those still to come, plan no position twice
pub once_asked : (made : List Request) (way : Way) (flushing : Bool) (calls : List wire.Call) (cells : Cells) (told : ℕ → Bool) (end size : ℕ) (rest : List Slice) →
    (asks : Asks (ToFile made) way flushing calls) →
    ((p : ℕ) → IsPlannedOnce cells told 0 end p (way.slices ++ rest)) → end ≤ size → AreAskedOnce way.how.allocated way.how.skip size (dealt_with way.at calls) nothing
once_asked made way flushing calls cells told end size rest asks planned fits =
    asked_once way.how cells told end size way.slices rest asks.rows asks.asked made (dealt_with way.at calls) nothing asks.stands planned fits asks.only
    (λ link cookie command e. absurd (none_some command e))

-- Where no slice was begun nothing was read,
unread : (dealt : Dealt) → ((link cookie : ℕ) (command : Command Nobody) → dealt.asked link cookie ≡ Some command → (p : ℕ) → reads command p ≡ true → p < 0) →
    (p link cookie : ℕ) (command : Command Nobody) → dealt.asked link cookie ≡ Some command → reads command p ≡ false
unread dealt ends p link cookie command is = go (reads command p) refl
  where
    go : (b : Bool) → reads command p ≡ b → reads command p ≡ false
    go true e = (let low = ends link cookie command is p e in absurd (omega (arith, low)))
    go false e = e

any_cells : Cells
any_cells = record { cell = 0; zero_cell = 0; zeros = false }

begins_asked : (at : Place) (size : Option ℕ) (how : How) (flushing : Bool) (calls : List wire.Call) → Asks (ToFile []) (beginning at size how) flushing calls → ReadsNothing at calls
begins_asked at size how flushing calls asks =
    let law = once_asked [] (beginning at size how) flushing calls any_cells (told_by 0 []) 0 0 [] asks (λ p. planned_once any_cells [] 0 [] refl refl p) (omega arith) in
    let none = unread (dealt_with at calls) law.reads_within in
    record {
      once = record { links = asks.links; looks = law.looks; once = law.reads_once; within = inl none; plain = law.looks_plain; extents = law.extents };
      none = none;
    }

-- and else nothing past what is planned.
job_asked : (made : List Request) (job : Seen) (way : Way) (now : board.Seen) (calls : List wire.Call) → IsJob job way now → Asks (ToFile made) way now.flushing calls → ReadsAtMostOnce way.at calls
job_asked made job way now calls is asks =
    let within = is.planned.within in
    let ends = is.ends in
    let once = once_asked made way now.flushing calls job.windows.plan.cells (told_by 0 is.planned.parts) job.windows.plan.end job.terms.size job.windows.plan.slices asks
    (λ p. planned_once job.windows.plan.cells is.planned.parts job.windows.plan.end (way.slices ++ job.windows.plan.slices) is.planned.are is.planned.end p) (omega (arith, within, ends)) in
    record {
      links = asks.links;
      looks = once.looks;
      once = once.reads_once;
      within = inr (record { size = job.terms.size; told = subst (λ (o : Option ℕ). WasSettled way.at o calls) is.size asks.told; within = once.reads_within });
      plain = once.looks_plain;
      extents = once.extents;
    }

-- It stays so with calls that read and write no link, and make none.
pub reads_stay : (at : Place) → StaysIdly (ReadsAtMostOnce at)
reads_stay at calls more quiet none r =
    let same = sym (dealt_stays calls more quiet none at) in
    record {
      links = links_stay calls more quiet none at at r.links;
      looks = subst (EachAsked (λ command. is_look command.kind ≡ true)) same r.looks;
      once = subst (NoneMeet reads) same r.once;
      within = subst (λ (d : Dealt). NothingWasRead d ⊎ ReadsWithin d) same r.within;
      plain = subst (EachAsked IsPlain) same r.plain;
      extents = subst (EachAsked (λ command. command.kind ≡ BlockStatus → command.length ≤ max_extents)) same r.extents;
    }

nothing_stays : (at : Place) → StaysIdly (ReadsNothing at)
nothing_stays at calls more quiet none r =
    record { once = reads_stay at calls more quiet none r.once; none = subst (λ (d : Dealt). NothingWasRead d) (sym (dealt_stays calls more quiet none at)) r.none }

-- Connections are made.

pub reads_begin : (at : Place) (start : Option (List wire.Call)) (now : board.Seen) (held : List (Held Ticket)) → now.error ≡ None → IsBeginning at None start start now held →
    Told start start (ReadsNothing at)
reads_begin at start now held well b =
    told_map start start (λ calls on. begins_asked at None now.how now.flushing calls (asks_still (ToFile []) (beginning at None now.how) now calls held well on)) b.on

module _ (at : Place) (size : Option ℕ) (start a b : Option (List wire.Call)) (now : board.Seen) (held : List (Held Ticket)) (begins : IsBeginning at size start a now held)
    (was : Told start a (ReadsNothing at)) where
  either_asked : GoesIdly a b ⊎ Told start b (Asks (ToFile []) (beginning at size now.how) now.flushing) → Told start b (ReadsNothing at)
  either_asked (inl idly) = told_idly (ReadsNothing at) start a b (nothing_stays at) idly was
  either_asked (inr asks) = told_map start b (λ calls asked. begins_asked at size now.how now.flushing calls asked) asks

  pub reads_dialed : now.error ≡ None → DialsOnly at now held a b → Told start b (ReadsNothing at)
  reads_dialed well only = either_asked (only.on (ToFile []) (beginning at size now.how) start refl well begins.stand begins.on)

  pub reads_settled : AsksNone now held a b → Told start b (ReadsNothing at)
  reads_settled none = either_asked (none.on (ToFile []) (beginning at size now.how) start begins.stand begins.on)

-- Slices are copied.

pub more_none : (file : ℕ) (job : Seen) (now : board.Seen) (held : List (Held Ticket)) (told : Option (List wire.Call)) (shelf : Option Shelf) (taken : ℕ) →
    ReadsNoMore file job now held told shelf taken told
more_none file job now held told shelf taken = record {
  on = λ at start was had copying reads. reads;
  lasts = λ at start was had copying. lasts_none told;
  spares = λ at block start was had copying same some spares. spares;
}

pub more_turned : (file : ℕ) (job : Seen) (now : board.Seen) (held : List (Held Ticket)) (a b : Option (List wire.Call)) (shelf : Option Shelf) (taken : ℕ) → AsksNone now held a b →
    ReadsNoMore file job now held a shelf taken b
more_turned file job now held a b shelf taken none = record {
  on = λ at start was had c reads. go at start c.way c.made c.place c.job_ reads (none.on (ToFile c.made) c.way start c.stand c.on);
  lasts = λ at start was had c. none.lasts c.stand;
  spares = λ at block start was had c same some spares. spared at block start c.way c.made c.place c.job_ same some spares (none.on (ToFile c.made) c.way start c.stand c.on);
}
  where
    spared : (at : Place) (block : ℕ) (start : Option (List wire.Call)) (way : Way) (made : List Request) → way.at ≡ at → IsJob job way now → job.terms.grain ≡ block → 0 < block →
        Told start a (SparesBlocks at block) → GoesIdly a b ⊎ Told start b (Asks (ToFile made) way now.flushing) → Told start b (SparesBlocks at block)
    spared at block start way made there is same some spares (inl idly) = told_idly (SparesBlocks at block) start a b (spares_stay at block) idly spares
    spared at block start way made there is same some spares (inr asks) =
        subst (λ (p : Place). Told start b (SparesBlocks p block)) there
        (told_map start b (λ calls asked. job_spares made job way now now.flushing calls block is same some asked) asks)

    go : (at : Place) (start : Option (List wire.Call)) (way : Way) (made : List Request) → way.at ≡ at → IsJob job way now → Told start a (ReadsAtMostOnce at) →
        GoesIdly a b ⊎ Told start b (Asks (ToFile made) way now.flushing) → Told start b (ReadsAtMostOnce at)
    go at start way made there is reads (inl idly) = told_idly (ReadsAtMostOnce at) start a b (reads_stay at) idly reads
    go at start way made there is reads (inr asks) =
        subst (λ (p : Place). Told start b (ReadsAtMostOnce p)) there (told_map start b (λ calls asked. job_asked made job way now calls is asked) asks)

pub more_idly : (file : ℕ) (job : Seen) (now : board.Seen) (held : List (Held Ticket)) (a b c : Option (List wire.Call)) (shelf : Option Shelf) (taken : ℕ) →
    ReadsNoMore file job now held a shelf taken b → GoesIdly b c → ReadsNoMore file job now held a shelf taken c
more_idly file job now held a b c shelf taken one idly = record {
  on = λ at start was had copying reads. told_idly (ReadsAtMostOnce at) start b c (reads_stay at) idly (one.on at start was had copying reads);
  lasts = λ at start was had copying. lasts_then a b c (one.lasts at start was had copying) (idly_lasts b c idly);
  spares = λ at block start was had copying same some spares.
      told_idly (SparesBlocks at block) start b c (spares_stay at block) idly (one.spares at block start was had copying same some spares);
}

pub more_then : (file : ℕ) (job job2 : Seen) (now now2 : board.Seen) (held held2 : List (Held Ticket)) (a b c : Option (List wire.Call)) (x y : Option Shelf) (t u : ℕ) →
    GoesFurther file job now held a x t job2 now2 held2 b y u → job2.terms ≡ job.terms → ReadsNoMore file job now held a x t b → ReadsNoMore file job2 now2 held2 b y u c →
    ReadsNoMore file job now held a x t c
more_then file job job2 now now2 held held2 a b c x y t u further alike one two = record {
  on = λ at start was had copying reads. two.on at start was had (further.on at start was had copying) (one.on at start was had copying reads);
  lasts = λ at start was had copying. lasts_then a b c (one.lasts at start was had copying) (two.lasts at start was had (further.on at start was had copying));
  spares = λ at block start was had copying same some spares.
      two.spares at block start was had (further.on at start was had copying) (ap (λ (terms : Terms). terms.grain) alike ∙ same) some (one.spares at block start was had copying same some spares);
}

-- So it is of the calls by which a transcript grew, behind which all links are shut.
pub reads_grew : (at : Place) (a b c : Option (List wire.Call)) → GoesIdly b c → Told a b (ReadsAtMostOnce at) → GrewBy (ReadsAtMostOnce at) a c
reads_grew at a b c idly told = told_part a c (told_idly (ReadsAtMostOnce at) a b c (reads_stay at) idly told)

-- What is spared.

-- What a handle was told that is held was told by the calls.
pub was_shown : (far : Far) (way : Way) (now : board.Seen) (calls : List wire.Call) (held : List (Held Ticket)) (info : ExportInfo) (index : ℕ) → Happens (IsShown info) index held →
    IsUnderWay far way now calls held → WasShown way.at info calls
was_shown far way now calls held info index shown on =
    let h = shown.on on.seens on.at in
    let course = on.stands.course in
    let given : is_given h.seen.link calls ≡ true = given_at calls h.seen.link (is_given h.seen.link calls) refl
    (λ none. not_one h.seen.link index h.seen on.seens h.there (course.unused h.seen.link none).apart refl) in
    record {
      link = h.seen.link;
      history = h.seen.history;
      drives = driven_at calls index h.seen held on.seens h.there on.at course.drive.drive course.drive.plain;
      address = on.stands.placed.address h.seen.link given;
      name = ap (λ (history : History Ticket). name_set history) (sym (one_has index h.seen course.histories on.seens h.there course.held)) ∙ on.stands.placed.name h.seen.link given;
      is = h.is;
    }

pub was_of_block : (at : Place) (size : Option ℕ) (block : ℕ) (start told : Option (List wire.Call)) (now : board.Seen) (held : List (Held Ticket)) → TellsBlock block held →
    IsBeginning at size start told now held → Told start told (WasOfBlock at block)
was_of_block at size block start told now held tells b = told_map start told (λ calls on. record {
  info = tells.info;
  shown = at_once calls (was_shown (ToFile []) (beginning at size now.how) now calls held tells.info 0 tells.shown on);
  block_is = tells.block_is;
}) b.on

pub block_later : (at : Place) (block : ℕ) (start a b : Option (List wire.Call)) → Lasts a b → Told start a (WasOfBlock at block) → Told start b (WasOfBlock at block)
block_later at block start a b lasts told = record {
  since = λ all is.
      let front = lasts.on all is in
      let since = told.since front.before front.is in
      since_on start front.before all front.after front.are since
      (record { info = since.is.info; shown = some_longer since.calls front.after since.is.shown; block_is = since.is.block_is });
}

-- Where the source told that its blocks are so large, those are spared that the slices are planned by.
pub more_spares : (file : ℕ) (job : Seen) (now : board.Seen) (held : List (Held Ticket)) (a b : Option (List wire.Call)) (shelf : Option Shelf) (taken : ℕ) →
    ReadsNoMore file job now held a shelf taken b → (at : Place) (block : ℕ) (start : Option (List wire.Call)) (was : Option Shelf) (had : ℕ) →
    IsCopying file at start a job now held was shelf had taken → job.terms.grain ≡ block → 0 < block → Told start a (WasOfBlock at block) → Told start a (ReadsNothing at) →
    Told start b (SparesWhole at)
more_spares file job now held a b shelf taken more at block start was had copying same some told none =
    spares_whole at block start b (block_later at block start a b (more.lasts at start was had copying) told)
    (more.spares at block start was had copying same some (none_spares at block start a none))

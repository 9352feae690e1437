-- What a copy from a file leaves in the end.
use Rattle.std.proofs.Common.{◌≡◌, ◌≤◌, ℕ, Bool, true, false, not, List, [], ◌∷◌, ◌++◌, Option, Some, None, refl, ap, sym, subst, ◌∙◌, arith, append-nil}
use Rattle.std.proofs.lemmas.Bool.{false≢true}
use Rattle.lnbd_link.specs.Call as wire
use Rattle.lnbd_model.specs.declared.target.Place.{Place}
use Rattle.lnbd_asked.specs.Transcript.{dealt_with}
use Rattle.lnbd_plan.specs.declared.cells.Cells.{Cells}
use Rattle.lnbd_plan.specs.declared.grid.Slice.{Slice}
use Rattle.lnbd_plan.specs.declared.options.CopyOptions.{CopyOptions}
use Rattle.lnbd_plan.specs.declared.summary.Summary.{Summary}
use Rattle.lnbd_plan.specs.Laws.{IsPlannedOnce, Window, told_by}
use Rattle.lnbd_poll.specs.Held.{AreAt, Held}
use Rattle.lnbd_poll.specs.Seen as poll
use Rattle.lnbd_board.specs.declared.how.How.{How}
use Rattle.lnbd_board.specs.declared.ticket.Ticket.{Ticket}
use Rattle.lnbd_board.specs.Files as board
use Rattle.lnbd_board.specs.Requests.{Request}
use Rattle.lnbd_course.specs.AllDone.{AreAllDone}
use Rattle.lnbd_course.specs.Asks.{GrewBy}
use Rattle.lnbd_course.specs.Far.{FromFile}
use Rattle.lnbd_course.specs.FarCourse.{FarCourse}
use Rattle.lnbd_course.specs.FarEnds.{HasAskedOnceFar, SummarizesFar}
use Rattle.lnbd_course.specs.Flushes.{IsUnflushed, OneFlushes}
use Rattle.lnbd_course.proofs.FarEnding.{ended_are_all_done_far, ended_asks_once_far, ended_flushed_far, ended_flushes_once_far, ended_sums_far, ended_unflushed_far}
use Rattle.lnbd_conduct.specs.Told.{AtSome}
use Rattle.lnbd_copy.proofs.EndLemmas.{told_part}
use Rattle.lnbd_copy.proofs.FaultLemmas.{told_both}
use Rattle.lnbd_copy.proofs.TurnLemmas.{told_map}
use Rattle.lnbd_store.specs.Shelf.{Goes, Shelf}
use Rattle.lnbd_connections.specs.Way.{IsUnderWay, Way}
use Rattle.lnbd_copyfile.specs.declared.from_file_job.Phase.TheVariants.{Copying, Parting}
use Rattle.lnbd_copyfile.specs.FlushedLast.{CameToRestFrom, FlushesLastFrom}
use Rattle.lnbd_copyfile.specs.FromFile.{HasAskedFrom, HasCopied, HasSummedFrom, IsGivenBy, size_of}
use Rattle.lnbd_copyfile.specs.FromFileJob.{IsJob, IsOver, Seen}
use Rattle.lnbd_copyfile.specs.Holes.{IsReadWhole}
use Rattle.lnbd_copyfile.specs.OneSide.{IsCopiedFrom}
use Rattle.lnbd_copyfile.specs.Shown.{FlushesWantedFrom}
use Rattle.lnbd_copyfile.proofs.FarLemmas.{from_file_is_copied}
use Rattle.lnbd_copyfile.proofs.SumsLemmas.{from_file_fits, from_file_is_summed, planned_all}

pub no_skip : (skip : Bool) → not skip ≡ false → skip ≡ true
no_skip true e = refl
no_skip false e = absurd (false≢true (sym e))

-- All of the file was read.
read_whole : (job : Seen) (zero : ℕ → Bool) (way : Way) (now : board.Seen) → (is : IsJob job zero way now) → IsOver job now →
    IsReadWhole way.how job.windows.plan.cells is.planned.parts zero job.terms.size way.slices
read_whole job zero way now is over = record {
  are = sym (append-nil way.slices) ∙ ap (λ (l : List Slice). way.slices ++ l) (sym over.handed) ∙ is.planned.are;
  whole = is.planned.end ∙ over.planned;
  told = is.planned.told;
  left_out = λ none. ap (λ (h : How). h.skip) is.how ∙ no_skip job.terms.how.skip (sym (ap (λ (c : Cells). c.zeros) is.cells) ∙ none);
}

no_seens : (seens : List (poll.Seen Ticket)) → AreAt {K = Ticket} [] seens → seens ≡ []
no_seens [] at = refl
no_seens (seen ∷ seens) at = absurd at

parting_past : Parting ≡ Copying → ⊥
parting_past e = cc

module _ (options : CopyOptions) (path : List ℕ) (to : Place) (summary : Summary) (start told : Option (List wire.Call)) (old new : Option Shelf) (given given' : ℕ)
    (h : HasCopied options path to summary start told old new given given') where
  abbrev job : Seen
  job = h.copied.job

  abbrev now : board.Seen
  now = h.copied.copy.board

  abbrev way : Way
  way = h.copied.going.way

  abbrev read : List Request
  read = h.copied.going.read

  abbrev zero : ℕ → Bool
  zero = h.copied.going.zero

  abbrev room : ℕ
  room = h.copied.going.is.room

  abbrev cells : Cells
  cells = job.windows.plan.cells

  abbrev parts : List Window
  parts = h.copied.going.is.planned.parts

  abbrev Ends : List wire.Call → Type 0
  Ends calls = FarCourse (FromFile read) to (Some room) way.how way.slices now calls [] None way.known

  over : IsOver job now
  over = h.copied.going.is.over (λ copying. parting_past (sym h.copied.ended.parting ∙ copying))

  whole : IsReadWhole way.how cells parts zero job.terms.size way.slices
  whole = read_whole job zero way now h.copied.going.is over

  ends_so : (calls : List wire.Call) → IsUnderWay (FromFile read) way now calls h.copied.copy.held → Ends calls
  ends_so calls on =
      let none : on.seens ≡ [] = no_seens on.seens (subst (λ (held : List (Held Ticket)). AreAt held on.seens) h.copied.ended.parted on.at) in
      subst (λ (p : Place). FarCourse (FromFile read) p (Some room) way.how way.slices now calls [] None way.known) h.copied.going.at
      (subst (λ (o : Option ℕ). FarCourse (FromFile read) way.at o way.how way.slices now calls [] None way.known) h.copied.going.is.size
      (subst (λ (o : Option (ℕ × ℕ)). FarCourse (FromFile read) way.at way.size way.how way.slices now calls [] o way.known) h.copied.going.is.unasked
      (subst (λ (seens : List (poll.Seen Ticket)). FarCourse (FromFile read) way.at way.size way.how way.slices now calls seens way.asked way.known) none on.stands)))

  -- what is so where it ended
  in_the_end : {Is : List wire.Call → Type 0} → ((calls : List wire.Call) → Ends calls → Is calls) → GrewBy Is start told
  in_the_end {Is} f = told_part start told (told_map start told (λ calls on. f calls (ends_so calls on)) h.copied.going.on)

  skips : way.how.skip ≡ options.destination_is_zero
  skips = ap (λ (w : How). w.skip) h.copied.going.is.how ∙ h.copied.wished.skip

  -- the summary is of the whole file
  sized : (calls : List wire.Call) → Ends calls → size_of summary ≡ job.terms.size
  sized calls ends =
      let few = from_file_fits read to job.terms.size room way.how way.slices now calls None way.known cells parts zero ends h.copied.ended.well whole in
      ap size_of h.copied.ended.summary_is ∙ (omega (arith, few))

  pub copied_holds : GrewBy (λ calls. Goes old new (IsCopiedFrom path (size_of summary) to options.destination_is_zero calls)) start told
  copied_holds = in_the_end (λ calls ends.
      subst (λ (n : ℕ). Goes old new (IsCopiedFrom path n to options.destination_is_zero calls)) (sym (sized calls ends ∙ h.copied.size_))
      (subst (λ (b : Bool). Goes old new (IsCopiedFrom path h.size to b calls)) skips
      (from_file_is_copied path h.file h.size room read to way.how way.slices now calls None way.known cells parts zero old h.opened new
      h.source h.copied.going.touched h.copied.going.holes ends over.rows h.copied.ended.well
      (subst (λ (n : ℕ). IsReadWhole way.how cells parts zero n way.slices) h.copied.size_ whole)
      (subst (λ (n : ℕ). n ≤ room) h.copied.size_ h.copied.going.is.fits))))

  pub copied_sums : GrewBy (λ calls. IsGivenBy summary given given') start told
  copied_sums = in_the_end (λ calls ends.
      let given = from_file_is_summed read to job.terms.size room way.how way.slices now calls None way.known cells parts zero _ _
      ends h.copied.ended.well whole (let few = h.copied.few in let same = h.copied.size_ in omega (arith, few, same)) h.copied.going.gave in
      let all = sized calls ends in
      let reads : summary.read ≡ now.read = ap (λ (s : Summary). s.read) h.copied.ended.summary_is in
      record {
        few = (let few = given.few in omega (arith, few, all, reads));
        gave = λ low. (let gave = given.gave low in omega (arith, gave, reads));
      })

  planned_once : (p : ℕ) → IsPlannedOnce cells (told_by 0 parts) 0 job.terms.size p (way.slices ++ [])
  planned_once = planned_all cells parts job.terms.size way.slices whole.are whole.whole

  pub copied_summary : GrewBy (HasSummedFrom summary to) start told
  copied_summary = in_the_end (λ calls ends. record {
    read = read;
    sums = subst (λ (n : ℕ). SummarizesFar (FromFile read) to n summary calls) (sym (sized calls ends))
        (subst (λ (s : Summary). SummarizesFar (FromFile read) to job.terms.size s calls) (sym h.copied.ended.summary_is)
        (ended_sums_far (FromFile read) to (Some room) job.terms.size way.how way.slices [] now calls None way.known cells (told_by 0 parts) job.terms.size ends over.rows h.copied.ended.well
        planned_once (omega arith) (let few = h.copied.few in let same = h.copied.size_ in omega (arith, few, same))));
  })

  pub copied_asks : GrewBy (HasAskedFrom options (size_of summary) to) start told
  copied_asks = in_the_end (λ calls ends.
      subst (λ (n : ℕ). HasAskedFrom options n to calls) (sym (sized calls ends)) (record {
        read = read;
        once = subst (λ (b : Bool). HasAskedOnceFar options.allocated b job.terms.size (FromFile read) to calls) skips
            (subst (λ (b : Bool). HasAskedOnceFar b way.how.skip job.terms.size (FromFile read) to calls) (ap (λ (w : How). w.allocated) h.copied.going.is.how ∙ h.copied.wished.allocated)
            (ended_asks_once_far (FromFile read) to (Some room) job.terms.size way.how way.slices [] now calls None way.known cells (told_by 0 parts) job.terms.size ends h.copied.ended.well
            planned_once (omega arith)));
      }))

  pub copied_done : GrewBy (λ calls. AreAllDone (dealt_with to calls)) start told
  copied_done = in_the_end (λ calls ends.
      ended_are_all_done_far (FromFile read) to (Some room) way.how way.slices now calls way.known ends over.rows h.copied.ended.well (flushed job.terms.flush refl))
    where
      flushed : (b : Bool) → job.terms.flush ≡ b → now.flushing ≡ true → now.flushed ≡ true
      flushed true wanted flushing = h.copied.going.is.flushed h.copied.ended.parting wanted
      flushed false unwanted flushing = absurd (false≢true (sym (h.copied.going.is.unwanted unwanted) ∙ flushing))

  pub copied_flushes : GrewBy (λ calls. OneFlushes (dealt_with to calls)) start told
  copied_flushes = in_the_end (λ calls ends. ended_flushes_once_far read to (Some room) way.how way.slices now calls None way.known ends)

  pub copied_unflushed : options.flush ≡ false → GrewBy (IsUnflushed to) start told
  copied_unflushed off = in_the_end (λ calls ends.
      ended_unflushed_far read to (Some room) way.how way.slices now calls None way.known ends (h.copied.going.is.unwanted (h.copied.wished.unflushed off)))

  pub copied_flushed : GrewBy (FlushesWantedFrom options (size_of summary) to) start told
  copied_flushed =
      let shown = h.copied.shown in
      told_part start told (told_map start told (λ calls both.
      let ends = ends_so calls both.0 in
      subst (λ (n : ℕ). FlushesWantedFrom options n to calls) (sym (sized calls ends ∙ h.copied.size_)) (record {
        info = shown.info;
        shown = both.1;
        is = (
          shown.none,
          λ wanted. ended_flushed_far read to (Some room) way.how way.slices now calls None way.known ends h.copied.ended.well
              (h.copied.going.is.flushed h.copied.ended.parting (shown.settled.flush ∙ wanted)),
        );
      })) (told_both start told h.copied.going.on shown.shown))

  -- All was done before it was asked to flush.
  pub copied_flushed_last : GrewBy (FlushesLastFrom (size_of summary) to summary) start told
  copied_flushed_last =
      told_part start told (told_map start told (λ calls both.
      let ends = ends_so calls both.0 in
      subst (λ (n : ℕ). FlushesLastFrom n to summary calls) (sym (sized calls ends)) (record {
        rested = subst (λ (s : Summary). AtSome (CameToRestFrom job.terms.size to s) calls) (sym h.copied.ended.summary_is)
            (both.1 (λ copying. parting_past (sym h.copied.ended.parting ∙ copying)) (let few = h.copied.few in let same = h.copied.size_ in omega (arith, few, same)) h.copied.ended.well);
        once = ended_flushes_once_far read to (Some room) way.how way.slices now calls None way.known ends;
      })) (told_both start told h.copied.going.on h.copied.going.rests))

-- What a job of a copy from a file does keeps the copy on its way.
use Rattle.std.proofs.Common.{◌≡◌, ◌≢◌, ◌≤◌, ◌<◌, ◌+◌, ◌||◌, ℕ, Bool, true, false, List, [], ◌++◌, length, get_or, Option, Some, None, refl, ap, sym, subst, ◌∙◌, arith, append_assoc, append-nil}
use Rattle.std.proofs.lemmas.Bool.{false≢true}
use Rattle.lnbd_link.specs.Call as wire
use Rattle.lnbd_handle.specs.Issues.{flush_of}
use Rattle.lnbd_model.specs.Kind.{is_write}
use Rattle.lnbd_model.specs.declared.target.Place.{Place}
use Rattle.lnbd_plan.specs.declared.grid.Slice.{Slice}
use Rattle.lnbd_poll.specs.Held.{Held}
use Rattle.lnbd_board.specs.declared.how.How.{How}
use Rattle.lnbd_board.specs.declared.ticket.Ticket.{Ticket}
use Rattle.lnbd_board.specs.declared.ticket.Ticket.TheVariants as ticket
use Rattle.lnbd_board.specs.Files as board
use Rattle.lnbd_board.specs.Requests.{Request, asking}
use Rattle.lnbd_board.specs.Rows as rows
use Rattle.lnbd_board.proofs.Turning.{flush_kept}
use Rattle.lnbd_tracks.specs.Laws.{asked_by}
use Rattle.lnbd_course.specs.Counted.{is_zero, up_to_end}
use Rattle.lnbd_course.specs.Counts.{summary_of}
use Rattle.lnbd_course.specs.Far.{FromFile}
use Rattle.lnbd_course.specs.Laws.{AsksDestination}
use Rattle.lnbd_course.specs.Taken.{without_buffer}
use Rattle.lnbd_course.proofs.Counting.{bytes_beside, flushes_first}
use Rattle.lnbd_conduct.specs.Slices.{cells_of}
use Rattle.lnbd_copy.specs.Asked.{IsAsked}
use Rattle.lnbd_copy.specs.Way.{Filed, Stand}
use Rattle.lnbd_copy.specs.Windows as windows
use Rattle.lnbd_copy.proofs.TurnLemmas.{asked_stand}
use Rattle.lnbd_store.specs.Shelf.{Shelf}
use Rattle.lnbd_touched.specs.Touches.{Touches}
use Rattle.lnbd_touched.proofs.GrownLemmas.{rose_none, rose_same, rose_then}
use Rattle.lnbd_touched.proofs.TouchLemmas.{touches_none, touches_then, touches_weaker}
use Rattle.lnbd_connections.specs.Bound.{BindsStill, IsBound}
use Rattle.lnbd_connections.specs.Steps.{Parts}
use Rattle.lnbd_connections.specs.Way.{IsUnderWay, Way, with_slices}
use Rattle.lnbd_connections.proofs.BoundWay.{bound_asked}
use Rattle.lnbd_connections.proofs.WayLemmas.{way_asked}
use Rattle.lnbd_copy.proofs.BindingLemmas.{binds_none}
use Rattle.lnbd_copyfile.specs.declared.from_file_job.Phase.{Phase}
use Rattle.lnbd_copyfile.specs.declared.from_file_job.Phase.TheVariants.{Copying, Flushing, Parting}
use Rattle.lnbd_copyfile.specs.FlushedLast.{HasRested}
use Rattle.lnbd_copyfile.specs.FromFileJob.{Acts, Concludes, IsJob, IsOver, Seen}
use Rattle.lnbd_copyfile.specs.Holes.{AreHoles, ToldHoles, nowhere}
use Rattle.lnbd_copyfile.specs.Jobs.{AreOfOne}
use Rattle.lnbd_copyfile.specs.Loading.{ToldMore}
use Rattle.lnbd_copyfile.specs.Sending.{Sends}
use Rattle.lnbd_copyfile.proofs.FlushedLastLemmas.{rests, rests_not}
use Rattle.lnbd_copyfile.proofs.SendingLemmas.{told_none, told_same, told_then}

-- One step after another.

one_same : (way : Way) → AreOfOne way way
one_same way = record { at = refl; size = refl; how = refl }

one_then : (a b c : Way) → AreOfOne a b → AreOfOne b c → AreOfOne a c
one_then a b c first second = record { at = second.at ∙ first.at; size = second.size ∙ first.size; how = second.how ∙ first.how }

-- What a file told of holes.

pub holes_kept : (zero : ℕ → Bool) (old new : List ℕ) → new ≡ old → ToldHoles zero zero old new
holes_kept zero old new same = record { same = same; on = λ are. subst (λ (file : List ℕ). AreHoles zero file) (sym same) are }

pub holes_none : (zero : ℕ → Bool) (file : List ℕ) → ToldHoles zero zero file file
holes_none zero file = holes_kept zero file file refl

pub holes_then : (one two three : ℕ → Bool) (x y z : List ℕ) → ToldHoles one two x y → ToldHoles two three y z → ToldHoles one three x z
holes_then one two three x y z first second = record { same = second.same ∙ first.same; on = λ are. second.on (first.on are) }

-- More is told beside what was.
pub holes_more : (zero heard : ℕ → Bool) (old new : List ℕ) → ToldHoles nowhere heard old new → ToldHoles zero (λ p. zero p || heard p) old new
holes_more zero heard old new told = record {
  same = told.same;
  on = λ are p within e. either p within (zero p) refl e are;
}
  where
    either : (p : ℕ) → p < length new → (b : Bool) → zero p ≡ b → (b || heard p) ≡ true → AreHoles zero old → get_or new p 0 ≡ 0
    either p within true is e are = subst (λ (file : List ℕ). AreHoles zero file) (sym told.same) are p within is
    either p within false is e are = told.on (λ q inside no. absurd (false≢true no)) p within e

-- where nothing was read
module _ (file : ℕ) (job job' : Seen) (now now' : board.Seen) (held held' : List (Held Ticket)) (shelf : Option Shelf) (given : ℕ) where
  acts_unread : (Stand held → Stand held') → ((zero : ℕ → Bool) (way : Way) → IsJob job zero way now → IsJob job' zero way now') →
      ((read : List Request) (zero : ℕ → Bool) (way : Way) (calls : List wire.Call) → IsJob job zero way now → IsUnderWay (FromFile read) way now calls held → IsUnderWay (FromFile read) way now' calls held') →
      (job'.phase ≢ Parting → (read : List Request) (zero : ℕ → Bool) (way : Way) (calls : List wire.Call) → IsJob job zero way now → IsBound false (FromFile read) way now calls held → IsBound false (FromFile read) way
      now' calls held') →
      (job.phase ≡ Parting → job'.phase ≡ Parting) →
      ((read : List Request) (zero : ℕ → Bool) (way : Way) (calls : List wire.Call) → IsJob job zero way now → IsUnderWay (FromFile read) way now calls held → HasRested job.phase job.terms.size way.at now calls →
      HasRested job'.phase job'.terms.size way.at now' calls) →
      Acts file job job' now now' held held' shelf shelf given given
  acts_unread stand keeps on bound parts rests = record {
    stand = stand;
    on = λ read zero way had. record {
      way' = way;
      read' = read;
      zero' = zero;
      one = one_same way;
      job = keeps zero way had;
      on = λ calls was. on read zero way calls had was;
      bound = λ other calls was. bound other read zero way calls had was;
      touched = touches_none file (ToldMore read read) shelf (told_none read);
      holes = touches_none file (ToldHoles zero zero) shelf (holes_none zero);
      count = 0;
      more = omega arith;
      gave = rose_none given;
    };
    parts = parts;
    rests = rests;
  }

pub acts_none : (file : ℕ) (job : Seen) (now : board.Seen) (held : List (Held Ticket)) (shelf : Option Shelf) (given : ℕ) → Acts file job job now now held held shelf shelf given given
acts_none file job now held shelf given = acts_unread file job job now now held held shelf given (λ s. s) (λ zero way had. had) (λ read zero way calls had on. on)
    (λ other read zero way calls had on. on) (λ parts. parts) (λ read zero way calls had on rest. rest)

pub acts_then : (file : ℕ) (job job2 job3 : Seen) (now now2 now3 : board.Seen) (held held2 held3 : List (Held Ticket)) (a b c : Option Shelf) (given given2 given3 : ℕ) →
    Acts file job job2 now now2 held held2 a b given given2 → Acts file job2 job3 now2 now3 held2 held3 b c given2 given3 → Acts file job job3 now now3 held held3 a c given given3
acts_then file job job2 job3 now now2 now3 held held2 held3 a b c given given2 given3 first second = record {
  stand = λ s. second.stand (first.stand s);
  on = λ read zero way had.
      let one = first.on read zero way had in
      let two = second.on one.read' one.zero' one.way' one.job in
      record {
        way' = two.way';
        read' = two.read';
        zero' = two.zero';
        one = one_then way one.way' two.way' one.one two.one;
        job = two.job;
        on = λ calls on. two.on calls (one.on calls on);
        bound = λ other calls on. two.bound other calls (one.bound (λ parts. other (second.parts parts)) calls on);
        touched = touches_then file (ToldMore read one.read') (ToldMore one.read' two.read') (ToldMore read two.read') a b c
            (λ x y z f g. told_then read one.read' two.read' x y z f g) one.touched two.touched;
        holes = touches_then file (ToldHoles zero one.zero') (ToldHoles one.zero' two.zero') (ToldHoles zero two.zero') a b c
            (λ x y z f g. holes_then zero one.zero' two.zero' x y z f g) one.holes two.holes;
        count = one.count + two.count;
        more = (let f = one.more in let g = two.more in omega (arith, f, g));
        gave = rose_then one.count two.count given given2 given3 one.gave two.gave;
      };
  parts = λ parts. second.parts (first.parts parts);
  rests = λ read zero way calls had on rest.
      let one = first.on read zero way had in
      subst (λ (to : Place). HasRested job3.phase job3.terms.size to now3 calls) one.one.at
      (second.rests one.read' one.zero' one.way' calls one.job (one.on calls on)
      (subst (λ (to : Place). HasRested job2.phase job2.terms.size to now2 calls) (sym one.one.at) (first.rests read zero way calls had on rest)));
}

-- Slices begin and go on.

handed_planned : (p q : windows.Seen) (zero : ℕ → Bool) (slices more : List Slice) → p.plan.slices ≡ more ++ q.plan.slices → q ≡ record p { plan = record p.plan { slices = q.plan.slices } } →
    windows.IsPlanned p zero slices → windows.IsPlanned q zero (slices ++ more)
handed_planned p q zero slices more handed others planned = subst (λ (w : windows.Seen). windows.IsPlanned w zero (slices ++ more)) (sym others) (record {
  parts = planned.parts;
  are = append_assoc slices more q.plan.slices ∙ ap (λ (l : List Slice). slices ++ l) (sym handed) ∙ planned.are;
  end = planned.end;
  within = planned.within;
  told = planned.told;
  under_way = planned.under_way;
  whole = planned.whole;
})

still_copying : (phase : Phase) → phase ≡ Copying → phase ≡ Parting → ⊥
still_copying phase copying parting = let e = sym copying ∙ parting in absurd (cc e)

pub acts_sent : (file : ℕ) (job job' : Seen) (planned' : windows.Seen) (bound' : List ℕ) (now now' : board.Seen) (held held' : List (Held Ticket)) (a b : Option Shelf) (given given' : ℕ) →
    job.phase ≡ Copying → job' ≡ record job { windows = planned'; bound = bound' } → Sends file job.windows planned' now now' held held' a b given given' →
    Acts file job job' now now' held held' a b given given'
acts_sent file job job' planned' bound' now now' held held' a b given given' copying is sends = subst (λ (j : Seen). Acts file job j now now' held held' a b given given') (sym is) (record {
  stand = sends.stand;
  on = λ read zero way had. let sent = sends.on read in record {
    way' = with_slices sends.more way;
    read' = sent.read';
    zero' = zero;
    one = record { at = refl; size = refl; how = refl };
    job = record {
      room = had.room;
      size = had.size;
      fits = had.fits;
      how = had.how;
      writes = sends.how ∙ had.writes;
      cells = ap (λ (w : windows.Seen). w.plan.cells) sends.others ∙ had.cells;
      planned = handed_planned job.windows planned' zero way.slices sends.more sends.handed sends.others had.planned;
      ends = ap (λ (w : windows.Seen). w.size) sends.others ∙ had.ends;
      unasked = had.unasked;
      unwanted = λ no. sends.flushing ∙ had.unwanted no;
      unflushed = λ c. sends.flushing ∙ had.unflushed c;
      over = λ other. absurd (other copying);
      flushed = λ parts. absurd (still_copying job.phase copying parts);
    };
    on = λ calls on. sent.on way calls (had.how ∙ sym had.writes) on;
    bound = λ other calls on. sent.bound way calls (had.how ∙ sym had.writes) on;
    touched = sent.touched;
    holes = touches_weaker file (ToldMore read sent.read') (ToldHoles zero zero) a b (λ x y told. holes_kept zero x y told.same) sent.touched;
    count = sent.count;
    more = sent.bytes;
    gave = sent.gave;
  };
  parts = λ parts. parts;
  rests = λ read zero way calls had on rest. rests_not job.phase job.terms.size way.at now' calls copying;
})

-- More of the file is planned, as it told: these positions more may count as zero.
pub acts_heard : (file : ℕ) (job job' : Seen) (planned' : windows.Seen) (heard : ℕ → Bool) (now : board.Seen) (held : List (Held Ticket)) (a b : Option Shelf) (given given' : ℕ) →
    job.phase ≡ Copying → job' ≡ record job { windows = planned' } →
    ((zero : ℕ → Bool) (slices : List Slice) → windows.IsPlanned job.windows zero slices → windows.IsPlanned planned' (λ p. zero p || heard p) slices) →
    planned'.plan.cells ≡ job.windows.plan.cells → planned'.size ≡ job.windows.size → Touches file (ToldHoles nowhere heard) a b → given' ≡ given →
    Acts file job job' now now held held a b given given'
acts_heard file job job' planned' heard now held a b given given' copying is planned cells size told gave = subst (λ (j : Seen). Acts file job j now now held held a b given given') (sym is) (record {
  stand = λ s. s;
  on = λ read zero way had. record {
    way' = way;
    read' = read;
    zero' = λ p. zero p || heard p;
    one = one_same way;
    job = record {
      room = had.room;
      size = had.size;
      fits = had.fits;
      how = had.how;
      writes = had.writes;
      cells = cells ∙ had.cells;
      planned = planned zero way.slices had.planned;
      ends = size ∙ had.ends;
      unasked = had.unasked;
      unwanted = had.unwanted;
      unflushed = had.unflushed;
      over = λ other. absurd (other copying);
      flushed = λ parts. absurd (still_copying job.phase copying parts);
    };
    on = λ calls on. on;
    bound = λ other calls on. on;
    touched = touches_weaker file (ToldHoles nowhere heard) (ToldMore read read) a b (λ x y t. told_same read x y t.same) told;
    holes = touches_weaker file (ToldHoles nowhere heard) (ToldHoles zero (λ p. zero p || heard p)) a b (λ x y t. holes_more zero heard x y t) told;
    count = 0;
    more = omega arith;
    gave = rose_same given given' gave;
  };
  parts = λ parts. parts;
  rests = λ read zero way calls had on rest. rests_not job.phase job.terms.size way.at now calls copying;
})

-- The end.

parting_past : Parting ≡ Copying → ⊥
parting_past e = cc

flushing_past : Flushing ≡ Copying → ⊥
flushing_past e = cc

flushing_differs : Flushing ≡ Parting → ⊥
flushing_differs e = cc

-- Where all slices are over, the job goes to another phase.
concluded : (job : Seen) (phase' : Phase) (now now' : board.Seen) (zero : ℕ → Bool) (way : Way) → (phase' ≡ Copying → ⊥) → IsOver job now → now'.how ≡ now.how → now'.rows ≡ now.rows →
    (job.terms.flush ≡ false → now'.flushing ≡ false) → (phase' ≡ Parting → job.terms.flush ≡ true → now'.flushed ≡ true) → IsJob job zero way now → IsJob (record job { phase = phase' }) zero way now'
concluded job phase' now now' zero way past over how same unwanted flushed had = record {
  room = had.room;
  size = had.size;
  fits = had.fits;
  how = had.how;
  writes = how ∙ had.writes;
  cells = had.cells;
  planned = had.planned;
  ends = had.ends;
  unasked = had.unasked;
  unwanted = unwanted;
  unflushed = λ c. absurd (past c);
  over = λ other. record { planned = over.planned; handed = over.handed; rows = same ∙ over.rows };
  flushed = flushed;
}

-- All connections are asked to part, where no flush is wanted,
pub concludes_parting : (job job' : Seen) (now : board.Seen) (held held' : List (Held Ticket)) → job.terms.flush ≡ false → job' ≡ record job { phase = Parting } → IsOver job now →
    Parts now held held' →
    Concludes job job' now now held held'
concludes_parting job job' now held held' unwanted is over parts = subst (λ (j : Seen). Concludes job j now now held held') (sym is) (record {
  on = λ file shelf given. acts_unread file job (record job { phase = Parting }) now now held held' shelf given parts.stand
      (λ zero way had. concluded job Parting now now zero way parting_past over refl refl had.unwanted (λ p wanted. absurd (false≢true (sym unwanted ∙ wanted))) had)
      (λ read zero way calls had on. parts.on (FromFile read) way calls on) (λ other. absurd (other refl)) (λ _. refl)
      (λ read zero way calls had on rest. rests job Parting read zero way now now calls held over (had.unwanted unwanted) refl refl had on);
})

-- and where it was answered.
pub concludes_flushed : (job job' : Seen) (now : board.Seen) (held held' : List (Held Ticket)) → now.flushed ≡ true → job' ≡ record job { phase = Parting } → job.phase ≡ Flushing →
    Parts now held held' →
    Concludes job job' now now held held'
concludes_flushed job job' now held held' answered is flushing parts = subst (λ (j : Seen). Concludes job j now now held held') (sym is) (record {
  on = λ file shelf given. acts_unread file job (record job { phase = Parting }) now now held held' shelf given parts.stand
      (λ zero way had. concluded job Parting now now zero way parting_past (had.over (λ e. flushing_past (sym flushing ∙ e))) refl refl had.unwanted (λ p wanted. answered) had)
      (λ read zero way calls had on. parts.on (FromFile read) way calls on) (λ other. absurd (other refl)) (λ _. refl)
      (λ read zero way calls had on rest. λ past. rest (λ e. flushing_past (sym flushing ∙ e)));
})

-- The export is asked to flush: the invariant stands with that.
flush_asks : (how : How) (now now' : board.Seen) (slices : List Slice) → now' ≡ record now { flushing = true } → now.flushing ≡ false →
    AsksDestination how (without_buffer (flush_of ticket.Flush 0)) slices (slices ++ []) now now'
flush_asks how now now' slices is unflushed =
    let command = without_buffer (flush_of ticket.Flush 0) in
    record {
      bytes = λ _. refl;
      earlier = λ none. sym (ap (λ (b : board.Seen). b.error) is) ∙ none;
      on = λ source destination link cookie stands.
          subst (λ (more : List Slice). rows.Stands how more now'.rows source (asking link cookie ticket.Flush (asked_by command) destination)) (sym (append-nil slices))
          (subst (λ (b : board.Seen). rows.Stands how slices b.rows source (asking link cookie ticket.Flush (asked_by command) destination)) (sym is)
          ((flush_kept how now.rows source destination link cookie (asked_by command) refl refl).on slices stands));
      counts = λ source destination link cookie k. record {
        read = ap (λ (b : board.Seen). b.read) is ∙ k.read;
        written = ap (λ (b : board.Seen). b.written) is ∙ k.written ∙ ap up_to_end (sym (bytes_beside is_write link cookie ticket.Flush (asked_by command) destination refl));
        zeroed = ap (λ (b : board.Seen). b.zeroed) is ∙ k.zeroed ∙ ap up_to_end (sym (bytes_beside is_zero link cookie ticket.Flush (asked_by command) destination refl));
        flushes = flushes_first now now' link cookie ticket.Flush (asked_by command) destination refl unflushed (ap (λ (b : board.Seen). b.flushing) is) k.flushes;
      };
      flushed = ap (λ (b : board.Seen). b.flushed) is;
    }

flush_on : (read : List Request) (way : Way) (now now' : board.Seen) (calls : List wire.Call) (held held' : List (Held Ticket)) (index : ℕ) → now' ≡ record now { flushing = true } →
    now.flushing ≡ false →
    IsAsked index (flush_of ticket.Flush 0) held held' → IsUnderWay (FromFile read) way now calls held → IsUnderWay (FromFile read) way now' calls held'
flush_on read way now now' calls held held' index is unflushed asked on =
    subst (λ (slices : List Slice). IsUnderWay (FromFile read) (record way { slices = slices }) now' calls held') (append-nil way.slices)
    (way_asked (FromFile read) way now calls held on [] now' held' index (flush_of ticket.Flush 0) (asked.on on.seens on.at) (flush_asks way.how now now' way.slices is unflushed) refl
    (record { told = ap (λ (b : board.Seen). b.told) is; mapped = ap (λ (b : board.Seen). b.mapped) is; short = ap (λ (b : board.Seen). b.short) is })
    (let begun = ap (λ (b : board.Seen). b.begun) is in omega (arith, begun)))

no_slice : (n : ℕ) → ticket.Flush ≡ ticket.Slice n → ⊥
no_slice n e = cc

flush_bound : (read : List Request) (way : Way) (now now' : board.Seen) (calls : List wire.Call) (held held' : List (Held Ticket)) (index : ℕ) → now' ≡ record now { flushing = true } →
    now.flushing ≡ false →
    IsAsked index (flush_of ticket.Flush 0) held held' → IsBound false (FromFile read) way now calls held → IsBound false (FromFile read) way now' calls held'
flush_bound read way now now' calls held held' index is unflushed asked on =
    subst (λ (slices : List Slice). IsBound false (FromFile read) (record way { slices = slices }) now' calls held') (append-nil way.slices)
    (bound_asked false (FromFile read) way now calls held on [] now' held' index (flush_of ticket.Flush 0) (asked.on on.seens on.at) (flush_asks way.how now now' way.slices is unflushed) refl
    (record { told = ap (λ (b : board.Seen). b.told) is; mapped = ap (λ (b : board.Seen). b.mapped) is; short = ap (λ (b : board.Seen). b.short) is })
    (let begun = ap (λ (b : board.Seen). b.begun) is in omega (arith, begun)) (λ none. sym (ap (λ (b : board.Seen). b.error) is) ∙ none)
    (binds_none false index ticket.Flush now now' no_slice (ap (λ (b : board.Seen). b.rows) is)))

pub concludes_flushing : (job job' : Seen) (now now' : board.Seen) (held held' : List (Held Ticket)) (index : ℕ) → job.terms.flush ≡ true → job' ≡ record job { phase = Flushing } →
    job.phase ≡ Copying → IsOver job now →
    now' ≡ record now { flushing = true } → IsAsked index (flush_of ticket.Flush 0) held held' → Concludes job job' now now' held held'
concludes_flushing job job' now now' held held' index wanted is copying over asks asked = subst (λ (j : Seen). Concludes job j now now' held held') (sym is) (record {
  on = λ file shelf given. acts_unread file job (record job { phase = Flushing }) now now' held held' shelf given (asked_stand index (flush_of ticket.Flush 0) held held' asked)
      (λ zero way had. concluded job Flushing now now' zero way flushing_past over (ap (λ (b : board.Seen). b.how) asks) (ap (λ (b : board.Seen). b.rows) asks) (λ no. absurd (false≢true (sym no ∙ wanted)))
      (λ p. absurd (flushing_differs p)) had)
      (λ read zero way calls had on. flush_on read way now now' calls held held' index asks (had.unflushed copying) asked on)
      (λ other read zero way calls had on. flush_bound read way now now' calls held held' index asks (had.unflushed copying) asked on) (λ parts. absurd (still_copying job.phase copying parts))
      (λ read zero way calls had on rest. rests job Flushing read zero way now now' calls held over (had.unflushed copying) (ap (λ (b : board.Seen). summary_of job.terms.size b) asks)
      (ap (λ (b : board.Seen). b.error) asks) had on);
})

pub concludes_none : (job : Seen) (now : board.Seen) (held : List (Held Ticket)) → Concludes job job now now held held
concludes_none job now held = record { on = λ file shelf given. acts_none file job now held shelf given }

-- What was noted is forgotten.
pub acts_forgotten : (file : ℕ) (job job' : Seen) (now now' : board.Seen) (held held2 held3 : List (Held Ticket)) (a b : Option Shelf) (given given' : ℕ) →
    Acts file job job' now now' held held2 a b given given' → Parts now' held2 held3 → BindsStill now' held2 held3 → Acts file job job' now now' held held3 a b given given'
acts_forgotten file job job' now now' held held2 held3 a b given given' acts forgets still =
    acts_then file job job' job' now now' now' held held2 held3 a b b given given' given' acts
    (acts_unread file job' job' now' now' held2 held3 b given' forgets.stand (λ zero way had. had) (λ read zero way calls had on. forgets.on (FromFile read) way calls on)
    (λ other read zero way calls had on. still.on false (FromFile read) way calls on) (λ parts. parts) (λ read zero way calls had on rest. rest))

-- A job begins.
pub job_begins : (job : Seen) (way : Way) (now : board.Seen) (room : ℕ) → job.phase ≡ Copying → job.windows.plan.cells ≡ cells_of job.terms → job.windows.size ≡ job.terms.size →
    ((zero : ℕ → Bool) → windows.IsPlanned job.windows zero []) → way.size ≡ Some room → job.terms.size ≤ room → way.how ≡ job.terms.how → now.how ≡ job.terms.how → way.slices ≡ [] →
    way.asked ≡ None →
    now.flushing ≡ false → IsJob job nowhere way now
job_begins job way now room copying cells ends planned size fits how writes none unasked unflushed = record {
  room = room;
  size = size;
  fits = fits;
  how = how;
  writes = writes;
  cells = cells;
  planned = subst (λ (l : List Slice). windows.IsPlanned job.windows nowhere l) (sym none) (planned nowhere);
  ends = ends;
  unasked = unasked;
  unwanted = λ no. unflushed;
  unflushed = λ c. unflushed;
  over = λ other. absurd (other copying);
  flushed = λ parts. absurd (still_copying job.phase copying parts);
}

-- What callbacks are told leaves a job as it is.
pub job_filed : (job : Seen) (zero : ℕ → Bool) (way : Way) (now now' : board.Seen) → Filed now now' → IsJob job zero way now → IsJob job zero way now'
job_filed job zero way now now' filed had = record {
  room = had.room;
  size = had.size;
  fits = had.fits;
  how = had.how;
  writes = filed.how ∙ had.writes;
  cells = had.cells;
  planned = had.planned;
  ends = had.ends;
  unasked = had.unasked;
  unwanted = λ no. filed.flushing ∙ had.unwanted no;
  unflushed = λ c. filed.flushing ∙ had.unflushed c;
  over = λ other. let over = had.over other in record { planned = over.planned; handed = over.handed; rows = filed.none over.rows };
  flushed = λ parts wanted. filed.flushed (had.flushed parts wanted);
}

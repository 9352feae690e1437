-- What stands after each step of a turn, and that a copy which has parted from all its connections has copied.
use Rattle.std.proofs.Common.{◌≡◌, ◌≢◌, ◌⊎◌, ◌≤◌, inl, inr, ℕ, length, Bool, true, false, not, ◌&&◌, List, [], ◌∷◌, ◌++◌, Option, Some, None, if◌then◌else◌, refl, ap, sym, subst, ◌∙◌, arith}
use Rattle.std.proofs.lemmas.Bool.{false≢true}
use Rattle.std.proofs.lemmas.List.{append-nil}
use Rattle.lnbd_model.specs.declared.target.Place.{Place}
use Rattle.lnbd_asked.specs.Transcript.{dealt_with}
use Rattle.lnbd_handle.specs.Histories.{max_unretired}
use Rattle.lnbd_link.specs.Call as wire
use Rattle.lnbd_link.specs.Part.{Grows}
use Rattle.lnbd_poll.specs.Alone.{AreApart}
use Rattle.lnbd_poll.specs.Held.{Held, AreAt}
use Rattle.lnbd_poll.specs.Seen as poll
use Rattle.lnbd_plan.proofs.OnceLaws.{all_planned_once}
use Rattle.lnbd_plan.specs.Laws.{IsPlannedOnce, told_by, windows_slices}
use Rattle.lnbd_plan.specs.declared.cells.Cells.{Cells}
use Rattle.lnbd_plan.specs.declared.grid.Slice.{Slice}
use Rattle.lnbd_plan.specs.declared.summary.Summary.{Summary}
use Rattle.lnbd_board.specs.declared.how.How.{How}
use Rattle.lnbd_board.specs.declared.ticket.Ticket.{Ticket}
use Rattle.lnbd_board.specs.Files as board
use Rattle.lnbd_course.specs.AllDone.{WereAllDone}
use Rattle.lnbd_course.specs.Asks.{GrewBy, HasAskedOnce}
use Rattle.lnbd_course.specs.Between.{Between}
use Rattle.lnbd_course.specs.Carried.{HasCarried}
use Rattle.lnbd_course.specs.Copied.{Copies}
use Rattle.lnbd_course.specs.Course.{IsPlannedWhole}
use Rattle.lnbd_course.specs.Driven.{AreDriven}
use Rattle.lnbd_course.specs.Flushes.{IsFlushed, IsUnflushed}
use Rattle.lnbd_course.specs.Spares.{ReadsNoZeros, WritesNoZeros}
use Rattle.lnbd_course.specs.Told as course
use Rattle.lnbd_course.proofs.Dense.{ended_are_dense}
use Rattle.lnbd_course.proofs.Driving.{ended_are_driven}
use Rattle.lnbd_course.proofs.Flushing.{ended_flushed, ended_unflushed}
use Rattle.lnbd_course.proofs.Holding.{take_drop}
use Rattle.lnbd_course.proofs.AllDone.{ended_are_all_done}
use Rattle.lnbd_course.proofs.Once.{ended_asks_once}
use Rattle.lnbd_course.proofs.Placing.{taking_keeps_between}
use Rattle.lnbd_course.proofs.Ending.{carrying_copies}
use Rattle.lnbd_course.proofs.Placed.{ended_carries, links_are_of_sides}
use Rattle.lnbd_course.proofs.Sparing.{ended_spares}
use Rattle.lnbd_course.proofs.Telling.{known_was_told, sides_are_of_source}
use Rattle.lnbd_copy.specs.Fewest.{HaveBeenDealt, TakesFewest, account_of}
use Rattle.lnbd_copy.specs.declared.job.Phase.{Phase}
use Rattle.lnbd_copy.specs.declared.job.Phase.TheVariants.{Copying, Flushing, Parting}
use Rattle.lnbd_conduct.specs.Fewest.{no_slices}
use Rattle.lnbd_conduct.specs.declared.terms.Terms.{Terms}
use Rattle.lnbd_copy.specs.Agreed.{IsWished}
use Rattle.lnbd_copy.specs.Copier.{HasJob, HasTurned, IsDone, IsOnItsWay, Seen}
use Rattle.lnbd_copy.specs.declared.copier.Progress.{Progress}
use Rattle.lnbd_copy.specs.declared.copier.Progress.TheVariants.{Finished, Moved, Still}
use Rattle.lnbd_copy.specs.Dealt.{HasDealt, HasFit, Spreads}
use Rattle.lnbd_copy.specs.Driven.{HasEnded}
use Rattle.lnbd_conduct.specs.Driven.{AreLeft}
use Rattle.lnbd_conduct.specs.Connects.{AreLeftBy}
use Rattle.lnbd_copy.specs.Job as job
use Rattle.lnbd_copy.specs.Leaving.{Leaves}
use Rattle.lnbd_copy.specs.Ready.{MayGoOn}
use Rattle.lnbd_conduct.specs.Terms.{IsLimited}
use Rattle.lnbd_copy.specs.Settled.{HasSettled}
use Rattle.lnbd_conduct.specs.Settled.{FlushesWanted, SparesFound, SparesTold}
use Rattle.lnbd_conduct.specs.Terms as both
use Rattle.lnbd_conduct.specs.Answered.{ReadsAreAnswered}
use Rattle.lnbd_copy.specs.Windows as windows
use Rattle.lnbd_copy.specs.Way.{Filed, Goes, IsLeaving, IsOn, IsUnderWay, Stands, Way, known_of}
use Rattle.lnbd_conduct.specs.Told.{Told}
use Rattle.lnbd_conduct.specs.Slices.{WasCopiedWhole}
use Rattle.lnbd_copy.proofs.AnswerLemmas.{none_held, reads_are_answered}
use Rattle.lnbd_copy.proofs.ConnectedLemmas.{gives_connected, goes_connected}
use Rattle.lnbd_copy.proofs.CopierLemmas.{told_as}
use Rattle.lnbd_copy.proofs.AlikeLemmas.{settled_later}
use Rattle.lnbd_copy.proofs.PartLemmas.{on_leaving}
use Rattle.lnbd_copy.proofs.SpreadLemmas.{dealt_filed, fit_filed}
use Rattle.lnbd_copy.proofs.FewestLemmas.{deals_step, dealt_on_filed}
use Rattle.lnbd_copy.proofs.SettledLemmas.{same_calls, same_rest, settled_with}
use Rattle.lnbd_copy.proofs.WholeLemmas.{way_whole}

pub some_same : (one other : job.Seen) → Some one ≡ Some other → one ≡ other
some_same one other e = cc

-- A board with what callbacks were told suits a job as it did.
job_filed : (j : job.Seen) (way : Way) (now now' : board.Seen) → Filed now now' → job.IsJob j way now → job.IsJob j way now'
job_filed j way now now' filed is = record {
  size = is.size;
  how = is.how;
  writes = filed.how ∙ is.writes;
  sides = is.sides;
  ends = is.ends;
  cells = is.cells;
  planned = is.planned;
  grain = is.grain;
  spared = is.spared;
  asked = is.asked;
  over = λ past. let over = is.over past in record { planned = over.planned; handed = over.handed; heard = over.heard; rows = filed.none over.rows };
  unwanted = λ no. filed.flushing ∙ is.unwanted no;
  unflushed = λ copying. filed.flushing ∙ is.unflushed copying;
  rests = λ past. let r = is.rests past in record { was = r.was; is = r.is; error = λ none. r.error (filed.error none); read = filed.read ∙ r.read; written = filed.written ∙ r.written; zeroed = filed.zeroed ∙ r.zeroed };
  flushed = λ parts wanted. filed.flushed (is.flushed parts wanted);
  heard = is.heard;
  reached = is.reached;
  parts = is.parts;
  wants = is.wants;
  onward = is.onward;
}

-- Once the connections part, places don't count any more.
from_on : (parting : Bool) (way : Way) (now : board.Seen) (calls : List wire.Call) (held : List (Held Ticket)) → way.ended ≡ parting → IsOn way now calls held → IsUnderWay parting way now calls held
from_on true way now calls held ended on = on_leaving way now calls held ended on
from_on false way now calls held ended on = on

pub past_copying : (phase : Phase) → job.is_parting phase ≡ true → phase ≢ Copying
past_copying Copying parts = absurd (false≢true parts)
past_copying Flushing parts = absurd (false≢true parts)
past_copying Parting parts = λ e. cc

is_past : (phase : Phase) → job.is_parting phase ≡ true → phase ≡ Parting
is_past Copying parts = absurd (false≢true parts)
is_past Flushing parts = absurd (false≢true parts)
is_past Parting parts = refl

module _ (copy : Seen) (start : Option (List wire.Call)) where
  -- A turn of the handles.
  pub after_turn : (now : board.Seen) (held : List (Held Ticket)) (a b : Option (List wire.Call)) → ((j : job.Seen) → MayGoOn j copy.held → MayGoOn j held) → (copy.board.error ≡ None → now.error ≡ None) → Goes copy.board copy.held a now held b → IsOnItsWay start a copy → IsOnItsWay start b (record copy { held = held; board = now })
  after_turn now held a b still sound goes on = record {
    stand = goes.stand on.stand;
    job = on.job;
    there = on.there;
    way = on.way;
    from = on.from;
    to = on.to;
    extents = on.extents;
    wished = on.wished;
    limited = on.limited;
    most = (let many = (goes.filed on.stand).many in let most = on.most in omega (arith, many, most));
    is = job_filed on.job on.way copy.board now (goes.filed on.stand) on.is;
    on = goes.on (job.is_parting on.job.phase) on.way start on.stand on.on;
    settled = settled_later copy.options copy.from copy.to start a b on.job.terms (goes.gives on.stand) on.settled;
    spread = dealt_filed on.job copy.board now (goes.filed on.stand) on.spread;
    fit = fit_filed on.job copy.board now (goes.filed on.stand) on.fit;
    dealt = dealt_on_filed on.job.terms.sides copy.board now (goes.filed on.stand) on.dealt;
    connected = (goes_connected copy.board now copy.held held a b goes on.stand).on start on.connected;
    may = still on.job on.may;
    well = sound on.well;
  }

  -- The job goes on.
  pub after_act : (j j' : job.Seen) (now : board.Seen) (held : List (Held Ticket)) (told : Option (List wire.Call)) → copy.job ≡ Some j → j'.terms ≡ j.terms → (length copy.board.rows ≤ j.terms.limit → length now.rows ≤ j.terms.limit) → job.is_parting j.phase ≡ false → job.Acts j j' copy.board now copy.held held → Spreads j j' copy.board now → TakesFewest j.terms.sides copy.board now → MayGoOn j' held → now.error ≡ None →
      IsOnItsWay start told copy → IsOnItsWay start told (record copy { held = held; board = now; job = Some j' })
  after_act j j' now held told there terms few going acts spreads takes may well on =
      let same : on.job ≡ j = some_same on.job j (sym on.there ∙ there) in
      let acted = acts.on on.way (subst (λ (x : job.Seen). job.IsJob x on.way copy.board) same on.is) in
      record {
        stand = acts.stand on.stand;
        job = j';
        there = refl;
        way = acted.way';
        from = acted.one.from ∙ on.from;
        to = acted.one.to ∙ on.to;
        extents = acted.one.extents ∙ on.extents;
        wished = subst (IsWished copy.options) (ap (λ (x : job.Seen). x.terms) same ∙ sym terms) on.wished;
        limited = subst (IsLimited copy.options) (ap (λ (x : job.Seen). x.terms) same ∙ sym terms) on.limited;
        most = subst (λ (t : Terms). length now.rows ≤ t.limit) (sym terms) (few (subst (λ (x : job.Seen). length copy.board.rows ≤ x.terms.limit) same on.most));
        is = acted.job';
        on = told_as start told
            (λ calls is. from_on (job.is_parting j'.phase) acted.way' now calls held acted.job'.parts (acted.on calls (subst (λ (b : Bool). IsUnderWay b on.way copy.board calls copy.held) (ap (λ (x : job.Seen). job.is_parting x.phase) same ∙ going) is)))
            on.on;
        settled = subst (HasSettled copy.options copy.from copy.to start told) (ap (λ (x : job.Seen). x.terms) same ∙ sym terms) on.settled;
        spread = spreads.on (subst (λ (x : job.Seen). HasDealt x copy.board) same on.spread);
        fit = spreads.fit (subst (λ (x : job.Seen). HasFit x copy.board) same on.fit);
        dealt = subst (λ (t : Terms). HaveBeenDealt t.sides now) (sym terms) (deals_step j.terms.sides no_slices (account_of copy.board) (account_of now) (subst (λ (x : job.Seen). HaveBeenDealt x.terms.sides copy.board) same on.dealt) takes);
        connected = on.connected;
        may = may;
        well = well;
      }

  -- Connections part.
  pub after_leaving : (j : job.Seen) (now : board.Seen) (held : List (Held Ticket)) (a b : Option (List wire.Call)) → copy.job ≡ Some j → job.is_parting j.phase ≡ true → Leaves copy.board copy.held a now held b →
      IsOnItsWay start a copy → IsOnItsWay start b (record copy { held = held; board = now })
  after_leaving j now held a b there parts leaves on =
      let same : on.job ≡ j = some_same on.job j (sym on.there ∙ there) in
      let parting : job.is_parting on.job.phase ≡ true = ap (λ (x : job.Seen). job.is_parting x.phase) same ∙ parts in
      let over = on.is.over (past_copying on.job.phase parting) in
      record {
        stand = leaves.stand on.stand;
        job = on.job;
        there = on.there;
        way = on.way;
        from = on.from;
        to = on.to;
        extents = on.extents;
        wished = on.wished;
        limited = on.limited;
        most = (let many = leaves.filed.many in let most = on.most in omega (arith, many, most));
        is = job_filed on.job on.way copy.board now leaves.filed on.is;
        on = told_as start b (λ calls is. subst (λ (p : Bool). IsUnderWay p on.way now calls held) (sym parting) is)
            (leaves.on on.way start (on.is.asked ∙ ap (λ (b : Bool). if b then windows.wanted on.job.windows else None) over.heard) over.rows (told_as start a (λ calls is. subst (λ (p : Bool). IsUnderWay p on.way copy.board calls copy.held) parting is) on.on));
        settled = settled_later copy.options copy.from copy.to start a b on.job.terms leaves.gives on.settled;
        spread = dealt_filed on.job copy.board now leaves.filed on.spread;
        fit = fit_filed on.job copy.board now leaves.filed on.fit;
        dealt = dealt_on_filed on.job.terms.sides copy.board now leaves.filed on.dealt;
        connected = (gives_connected a b leaves.gives).on start on.connected;
        may = record { act = λ other. absurd (other (is_past on.job.phase parting)); live = leaves.live on.may.live };
        well = leaves.well on.stand on.well;
      }

-- The job goes on, whatever it is at.
cases_bool : (b : Bool) → (b ≡ true) ⊎ (b ≡ false)
cases_bool true = inl refl
cases_bool false = inr refl

same_way : (copy : Seen) (start told : Option (List wire.Call)) (j j' : job.Seen) (now : board.Seen) (held : List (Held Ticket)) → copy.job ≡ Some j → j' ≡ j → now ≡ copy.board → held ≡ copy.held → IsOnItsWay start told copy → IsOnItsWay start told (record copy { held = held; board = now; job = Some j' })
same_way copy start told j j' now held there one two three on =
    subst (λ (h : List (Held Ticket)). IsOnItsWay start told (record copy { held = h; board = now; job = Some j' })) (sym three)
    (subst (λ (b : board.Seen). IsOnItsWay start told (record copy { board = b; job = Some j' })) (sym two)
    (subst (λ (o : Option job.Seen). IsOnItsWay start told (record copy { job = o })) (there ∙ ap (λ (x : job.Seen). Some x) (sym one)) on))

pub after_acting : (copy : Seen) (start told : Option (List wire.Call)) (j j' : job.Seen) (now : board.Seen) (held : List (Held Ticket)) → copy.job ≡ Some j → j'.terms ≡ j.terms → (length copy.board.rows ≤ j.terms.limit → length now.rows ≤ j.terms.limit) → job.Acts j j' copy.board now copy.held held → Spreads j j' copy.board now → TakesFewest j.terms.sides copy.board now → MayGoOn j' held → now.error ≡ None →
    (j.phase ≡ Parting → (j' ≡ j) × (now ≡ copy.board) × (held ≡ copy.held)) → IsOnItsWay start told copy → IsOnItsWay start told (record copy { held = held; board = now; job = Some j' })
after_acting copy start told j j' now held there terms few acts spreads takes may well parted on = elim (cases_bool (job.is_parting j.phase)) [
  | inl parts ↦ (let same = parted (is_past j.phase parts) in same_way copy start told j j' now held there same.0 same.1 same.2 on)
  | inr going ↦ after_act copy start j j' now held told there terms few going acts spreads takes may well on
]

-- From turn to turn.

pub moved_on : (start told : Option (List wire.Call)) (copy : Seen) (did : Progress) (count : ℕ) → did ≡ Moved count → HasTurned start told copy did → IsOnItsWay start told copy
moved_on start told copy did count is turned = subst (λ (p : Progress). HasTurned start told copy p) is turned

pub still_on : (start told : Option (List wire.Call)) (copy : Seen) (did : Progress) → did ≡ Still → HasTurned start told copy did → IsOnItsWay start told copy
still_on start told copy did is turned = subst (λ (p : Progress). HasTurned start told copy p) is turned

pub finished_on : (start told : Option (List wire.Call)) (copy : Seen) (did : Progress) (summary : Summary) → did ≡ Finished summary → HasTurned start told copy did → IsDone start told copy
finished_on start told copy did summary is turned = subst (λ (p : Progress). HasTurned start told copy p) is turned

abbrev pub with_all : Seen → Seen → Seen
with_all copy now = record copy { start = now.start; held = now.held; board = now.board; job = now.job }

abbrev pub with_work : Seen → Seen → Seen
with_work copy now = record copy { held = now.held; board = now.board; job = now.job }

pub rested : (a b c : Seen) → b ≡ with_work a b → c ≡ record b { held = c.held } → c ≡ with_work a c
rested a b c one two =
    two ∙ ap (λ (s : Seen). record s { held = c.held }) one ∙ ap (λ (s : Seen). record a { held = c.held; board = s.board; job = s.job }) (sym two)

pub all_then : (a b c d : Seen) → b ≡ with_all a b → c ≡ with_work b c → d ≡ c → d ≡ with_all a d
all_then a b c d one two same =
    subst (λ (s : Seen). s ≡ with_all a s) (sym same)
    (two ∙ ap (λ (s : Seen). with_work s c) one ∙ ap (λ (s : Seen). record a { start = s.start; held = c.held; board = c.board; job = c.job }) (sym two))

-- The end.

none_left : (seens : List (poll.Seen Ticket)) → AreAt [] seens → seens ≡ []
none_left [] at = refl
none_left (seen ∷ others) at = absurd at

not_false : (b : Bool) → not b ≡ false → b ≡ true
not_false true e = refl
not_false false e = absurd (false≢true (sym e))

-- With no handle held, what its handles did stands without them.
pub stands_alone : (way : Way) (now : board.Seen) (calls : List wire.Call) → (on : IsLeaving way now calls []) → Stands way on.has now calls []
stands_alone way now calls on = subst (λ (seens : List (poll.Seen Ticket)). Stands way on.has now calls seens) (none_left on.seens on.at) on.stands

pub between_sized : (way : Way) (size : ℕ) (has : ℕ → Bool) (now : board.Seen) (calls : List wire.Call) → way.size ≡ Some size → Stands way has now calls [] → Between way.from way.to (Some size) way.how has way.slices now calls []
between_sized way size has now calls settled s = subst (λ (o : Option ℕ). Between way.from way.to o way.how has way.slices now calls []) settled s.between

-- All is planned, as it was told.
pub planned_whole : (j : job.Seen) (way : Way) (now : board.Seen) (calls : List wire.Call) → (is : job.IsJob j way now) → job.IsOver j now → (has : ℕ → Bool) → Stands way has now calls [] → way.from ≢ way.to →
    IsPlannedWhole way.how j.windows.plan.cells is.planned.parts way.from calls j.terms.size way.slices
planned_whole j way now calls is over has s two =
    let b = between_sized way j.terms.size has now calls is.size s in
    let sides = (links_are_of_sides way.from way.to j.terms.size way.how has way.slices now calls b two).0 in
    let source = sides_are_of_source way.from way.to way.how has way.slices now calls b.course sides in
    record {
      are = sym (append-nil way.slices) ∙ ap (λ (l : List Slice). way.slices ++ l) (sym over.handed) ∙ is.planned.are;
      whole = is.planned.end ∙ over.planned;
      told = λ p less zero. known_was_told way.from way.how has way.slices now calls way.asked (known_of way) s.told source p (is.planned.told p zero);
      left_out = λ none. ap (λ (h : How). h.skip) is.how ∙ not_false j.terms.how.skip (sym (ap (λ (c : Cells). c.zeros) is.cells) ∙ none);
    }

-- What is under way is settled.

pub has_job : (start told : Option (List wire.Call)) (copy : Seen) → IsOnItsWay start told copy → HasJob copy
has_job start told copy on = record { job = on.job; there = on.there; writes = on.is.writes; well = on.well; may = on.may; spread = on.spread; fit = on.fit }

pub job_dealt : (copy : Seen) (j : job.Seen) → HasJob copy → copy.job ≡ Some j → HasDealt j copy.board
job_dealt copy j has there = subst (λ (x : job.Seen). HasDealt x copy.board) (some_same has.job j (sym has.there ∙ there)) has.spread

pub job_fit : (copy : Seen) (j : job.Seen) → HasJob copy → copy.job ≡ Some j → HasFit j copy.board
job_fit copy j has there = subst (λ (x : job.Seen). HasFit x copy.board) (some_same has.job j (sym has.there ∙ there)) has.fit

pub job_may : (copy : Seen) (j : job.Seen) → HasJob copy → copy.job ≡ Some j → MayGoOn j copy.held
job_may copy j has there = subst (λ (x : job.Seen). MayGoOn x copy.held) (some_same has.job j (sym has.there ∙ there)) has.may

pub job_writes : (copy : Seen) (j : job.Seen) → HasJob copy → copy.job ≡ Some j → copy.board.how ≡ j.terms.how
job_writes copy j has there = has.writes ∙ ap (λ (x : job.Seen). x.terms.how) (some_same has.job j (sym has.there ∙ there))

-- What was asked so far.

-- With all handles taken out what they did stands.
pub all_taken : (from to : Place) (size : Option ℕ) (how : How) (has : ℕ → Bool) (slices : List Slice) (now : board.Seen) (calls : List wire.Call) (held : List (Held Ticket)) (seens : List (poll.Seen Ticket)) → AreAt held seens →
    Between from to size how has slices now calls seens → Between from to size how has slices now calls []
all_taken from to size how has slices now calls held [] at b = b
all_taken from to size how has slices now calls [] (seen ∷ others) at b = absurd at
all_taken from to size how has slices now calls (one ∷ more) (seen ∷ others) at b =
    all_taken from to size how has slices now calls more others at.1
    (subst (λ (l : List (poll.Seen Ticket)). Between from to size how has slices now calls l) (sym (take_drop 0 (seen ∷ others)))
    (taking_keeps_between from to size how has slices now calls (seen ∷ others) 0 seen max_unretired one.handle b refl at.0.stands))

-- The slices that were begun, and those still to come, are planned once.
pub planned_once : (j : job.Seen) (way : Way) (now : board.Seen) → (is : job.IsJob j way now) → (p : ℕ) → IsPlannedOnce j.windows.plan.cells (told_by 0 is.planned.parts) 0 j.windows.plan.end p (way.slices ++ j.windows.plan.slices)
planned_once j way now is p =
    subst (λ (l : List Slice). IsPlannedOnce j.windows.plan.cells (told_by 0 is.planned.parts) 0 j.windows.plan.end p l) (sym is.planned.are)
    (subst (λ (n : ℕ). IsPlannedOnce j.windows.plan.cells (told_by 0 is.planned.parts) 0 n p (windows_slices j.windows.plan.cells 0 is.planned.parts)) is.planned.end (all_planned_once j.windows.plan.cells 0 is.planned.parts p))

under_way_asks : (j : job.Seen) (way : Way) (now : board.Seen) (parting : Bool) (calls : List wire.Call) (held : List (Held Ticket)) → job.IsJob j way now → now.error ≡ None → IsUnderWay parting way now calls held → way.from ≢ way.to →
    HasAskedOnce way.how.allocated way.how.skip way.from way.to calls
under_way_asks j way now parting calls held is well on two =
    let between = subst (λ (o : Option ℕ). Between way.from way.to o way.how on.has way.slices now calls on.seens) is.size on.stands.between in
    let within = is.planned.within in
    let ends = is.ends in
    ended_asks_once way.from way.to j.terms.size way.how on.has way.slices j.windows.plan.slices now calls j.windows.plan.cells (told_by 0 is.planned.parts) j.windows.plan.end
    (all_taken way.from way.to (Some j.terms.size) way.how on.has way.slices now calls held on.seens on.at between) well (planned_once j way now is) (omega (arith, within, ends)) two

pub way_asks : (copy : Seen) (start told : Option (List wire.Call)) → copy.board.error ≡ None → IsOnItsWay start told copy → copy.from ≢ copy.to → Told start told (HasAskedOnce copy.options.allocated copy.options.destination_is_zero copy.from copy.to)
way_asks copy start told well on two =
    let apart : on.way.from ≢ on.way.to = λ e. two (sym on.from ∙ e ∙ on.to) in
    let allocated : on.way.how.allocated ≡ copy.options.allocated = ap (λ (h : How). h.allocated) on.is.how ∙ on.wished.allocated in
    let skip : on.way.how.skip ≡ copy.options.destination_is_zero = ap (λ (h : How). h.skip) on.is.how ∙ on.wished.skip in
    told_as start told
    (λ calls is. subst (λ (b : Bool). HasAskedOnce copy.options.allocated b copy.from copy.to calls) skip (subst (λ (b : Bool). HasAskedOnce b on.way.how.skip copy.from copy.to calls) allocated
    (subst (λ (t : Place). HasAskedOnce on.way.how.allocated on.way.how.skip copy.from t calls) on.to (subst (λ (f : Place). HasAskedOnce on.way.how.allocated on.way.how.skip f on.way.to calls) on.from
    (under_way_asks on.job on.way copy.board (job.is_parting on.job.phase) calls copy.held on.is well is apart)))))
    on.on

-- Each read of the source so far was answered before, or no block status could be asked for.
under_way_answers : (j : job.Seen) (way : Way) (now : board.Seen) (parting : Bool) (calls : List wire.Call) (held : List (Held Ticket)) → job.IsJob j way now → now.error ≡ None → IsUnderWay parting way now calls held → way.from ≢ way.to → ReadsAreAnswered way.extents way.from calls
under_way_answers j way now parting calls held is well on two =
    let reached = is.heard.planned in
    reads_are_answered way j.terms.size on.has now calls is.size (none_held way on.has now calls held on.seens on.at on.stands) well two j.windows.plan.slices j.windows.plan.cells (told_by 0 is.planned.parts) j.windows.plan.end (planned_once j way now is)
    (λ p low. on.hears.answered well two j.windows.grain p (is.heard.before p (omega (arith, low, reached))))

pub way_answers : (copy : Seen) (start told : Option (List wire.Call)) → copy.board.error ≡ None → IsOnItsWay start told copy → copy.from ≢ copy.to → Told start told (ReadsAreAnswered copy.options.extents copy.from)
way_answers copy start told well on two =
    let apart : on.way.from ≢ on.way.to = λ e. two (sym on.from ∙ e ∙ on.to) in
    told_as start told (λ calls is. subst (λ (b : Bool). ReadsAreAnswered b copy.from calls) on.extents (subst (λ (f : Place). ReadsAreAnswered on.way.extents f calls) on.from (under_way_answers on.job on.way copy.board (job.is_parting on.job.phase) calls copy.held on.is well is apart))) on.on

-- No block of the source was read that one answer told as zero whole.
way_spares : (j : job.Seen) (way : Way) (now : board.Seen) (calls : List wire.Call) → (is : job.IsJob j way now) → job.IsOver j now → (has : ℕ → Bool) → Stands way has now calls [] → now.error ≡ None → way.from ≢ way.to → ReadsNoZeros j.terms.grain (dealt_with way.from calls)
way_spares j way now calls is over has s well two =
    let b = between_sized way j.terms.size has now calls is.size s in
    let sides = (links_are_of_sides way.from way.to j.terms.size way.how has way.slices now calls b two).0 in
    let unasked : way.asked ≡ None = is.asked ∙ ap (λ (b : Bool). if b then windows.wanted j.windows else None) over.heard in
    let told = subst (λ (o : Option (ℕ × ℕ)). course.ToldCourse way.how has way.slices now calls [] o (known_of way)) unasked s.told in
    let ends = over.planned in
    let sized = is.ends in
    subst (λ (block : ℕ). ReadsNoZeros block (dealt_with way.from calls)) is.grain
    (ended_spares way.from way.how has way.slices j.windows.plan.slices now calls (known_of way) j.windows.plan.cells (told_by 0 is.spared.parts) j.windows.plan.end j.windows.grain told well sides.source
    (λ p.
    subst (λ (l : List Slice). IsPlannedOnce j.windows.plan.cells (told_by 0 is.spared.parts) 0 j.windows.plan.end p l) (sym is.spared.are)
    (subst (λ (n : ℕ). IsPlannedOnce j.windows.plan.cells (told_by 0 is.spared.parts) 0 n p (windows_slices j.windows.plan.cells 0 is.spared.parts)) is.spared.end (all_planned_once j.windows.plan.cells 0 is.spared.parts p)))
    (λ p e. let inside = is.spared.inside p e in is.spared.planned p e (omega (arith, inside, ends, sized))))

-- Where zeros are looked for, none of their blocks was written as bytes.
way_dense : (j : job.Seen) (way : Way) (now : board.Seen) (calls : List wire.Call) → job.IsJob j way now → (has : ℕ → Bool) → Stands way has now calls [] → now.error ≡ None → way.from ≢ way.to → WritesNoZeros j.terms.how (dealt_with way.to calls)
way_dense j way now calls is has s well two =
    subst (λ (how : How). WritesNoZeros how (dealt_with way.to calls)) is.how
    (ended_are_dense way.from way.to j.terms.size way.how has way.slices now calls (between_sized way j.terms.size has now calls is.size s) well two)

-- Each request was done, whatever it asked for.
way_all_done : (j : job.Seen) (way : Way) (now : board.Seen) (calls : List wire.Call) → (is : job.IsJob j way now) → job.IsOver j now → job.is_parting j.phase ≡ true → (has : ℕ → Bool) → Stands way has now calls [] → now.error ≡ None → way.from ≢ way.to → WereAllDone way.from way.to calls
way_all_done j way now calls is over parts has s well two =
    let unasked : way.asked ≡ None = is.asked ∙ ap (λ (b : Bool). if b then windows.wanted j.windows else None) over.heard in
    ended_are_all_done way.from way.to j.terms.size way.how has way.slices now calls (known_of way) (between_sized way j.terms.size has now calls is.size s)
    (subst (λ (o : Option (ℕ × ℕ)). course.ToldCourse way.how has way.slices now calls [] o (known_of way)) unasked s.told) over.rows well (answered j.terms.flush refl) two
  where
    answered : (flush : Bool) → j.terms.flush ≡ flush → now.flushing ≡ true → now.flushed ≡ true
    answered true wanted flushing = is.flushed (is_past j.phase parts) wanted
    answered false unwanted flushing = absurd (false≢true (sym (is.unwanted unwanted) ∙ flushing))

-- Each link was left as a copy does.
all_left : (way : Way) (now : board.Seen) (calls : List wire.Call) → IsLeaving way now calls [] → AreLeft way.extents way.how.skip way.flush way.from way.to calls
all_left way now calls on = go way.ended on.ends
  where
    go : (ended : Bool) → HasEnded ended true way.extents way.how.skip way.flush way.from way.to calls on.seens → AreLeft way.extents way.how.skip way.flush way.from way.to calls
    go true s = record { end = s.ends.end; each = λ link given. s.left link (subst (AreApart link) (sym (none_left on.seens on.at)) tt) given }
    go false s = absurd s

left_as : (way : Way) (copy : Seen) (flush : Bool) (calls : List wire.Call) → way.extents ≡ copy.options.extents → way.from ≡ copy.from → way.to ≡ copy.to → way.how.skip ≡ copy.options.destination_is_zero → way.flush ≡ flush → AreLeft way.extents way.how.skip way.flush way.from way.to calls →
    AreLeft copy.options.extents copy.options.destination_is_zero flush copy.from copy.to calls
left_as way copy flush calls extents from to skip wants left =
    subst (λ (b : Bool). AreLeft copy.options.extents b flush copy.from copy.to calls) skip
    (subst (λ (e : Bool). AreLeft e way.how.skip flush copy.from copy.to calls) extents
    (subst (λ (w : Bool). AreLeft way.extents way.how.skip w copy.from copy.to calls) wants
    (subst (λ (t : Place). AreLeft way.extents way.how.skip way.flush copy.from t calls) to (subst (λ (f : Place). AreLeft way.extents way.how.skip way.flush f way.to calls) from left))))

pub finished : (copy : Seen) (start told : Option (List wire.Call)) (j : job.Seen) → copy.job ≡ Some j → job.is_parting j.phase ≡ true → copy.held ≡ [] → copy.board.error ≡ None → IsOnItsWay start told copy → IsDone start told copy
finished copy start told j there parts none well on =
    let same : on.job ≡ j = some_same on.job j (sym on.there ∙ there) in
    let parting : job.is_parting on.job.phase ≡ true = ap (λ (x : job.Seen). job.is_parting x.phase) same ∙ parts in
    let over = on.is.over (past_copying on.job.phase parting) in
    let skip : on.way.how.skip ≡ copy.options.destination_is_zero = ap (λ (h : How). h.skip) on.is.how ∙ on.wished.skip in
    record {
      parted = none;
      asked = λ two. way_asks copy start told well on two;
      done = λ two.
          let apart : on.way.from ≢ on.way.to = λ e. two (sym on.from ∙ e ∙ on.to) in
          told_as start told
          (λ calls is.
          let leaving : IsLeaving on.way copy.board calls [] =
          subst (λ (h : List (Held Ticket)). IsLeaving on.way copy.board calls h) none (subst (λ (p : Bool). IsUnderWay p on.way copy.board calls copy.held) parting is) in
          let s = stands_alone on.way copy.board calls leaving in
          subst (λ (t : Place). WereAllDone copy.from t calls) on.to
          (subst (λ (f : Place). WereAllDone f on.way.to calls) on.from (way_all_done on.job on.way copy.board calls on.is over parting leaving.has s well apart)))
          on.on;
      spares = λ two.
          let apart : on.way.from ≢ on.way.to = λ e. two (sym on.from ∙ e ∙ on.to) in
          settled_with (λ source destination calls. ReadsNoZeros (both.grain source destination) (dealt_with copy.from calls)) copy.options copy.from copy.to start told on.job.terms on.settled
          (told_as start told
          (λ calls is.
          let leaving : IsLeaving on.way copy.board calls [] =
          subst (λ (h : List (Held Ticket)). IsLeaving on.way copy.board calls h) none (subst (λ (p : Bool). IsUnderWay p on.way copy.board calls copy.held) parting is) in
          let s = stands_alone on.way copy.board calls leaving in
          subst (λ (block : ℕ). ReadsNoZeros block (dealt_with copy.from calls)) on.settled.first.settled.grain
          (subst (λ (f : Place). ReadsNoZeros on.job.terms.grain (dealt_with f calls)) on.from (way_spares on.job on.way copy.board calls on.is over leaving.has s well apart)))
          on.on);
      carried = λ two.
          let apart : on.way.from ≢ on.way.to = λ e. two (sym on.from ∙ e ∙ on.to) in
          told_as start told
          (λ calls is.
          let leaving : IsLeaving on.way copy.board calls [] =
          subst (λ (h : List (Held Ticket)). IsLeaving on.way copy.board calls h) none (subst (λ (p : Bool). IsUnderWay p on.way copy.board calls copy.held) parting is) in
          let s = stands_alone on.way copy.board calls leaving in
          carried_as on.way copy calls on.from on.to skip
          (ended_carries on.way.from on.way.to on.job.terms.size on.way.how leaving.has on.way.slices copy.board calls on.job.windows.plan.cells on.is.planned.parts
          (between_sized on.way on.job.terms.size leaving.has copy.board calls on.is.size s) over.rows well (planned_whole on.job on.way copy.board calls on.is over leaving.has s apart) apart))
          on.on;
      unflushed = λ unwanted two.
          let apart : on.way.from ≢ on.way.to = λ e. two (sym on.from ∙ e ∙ on.to) in
          told_as start told
          (λ calls is.
          let leaving : IsLeaving on.way copy.board calls [] =
          subst (λ (h : List (Held Ticket)). IsLeaving on.way copy.board calls h) none (subst (λ (p : Bool). IsUnderWay p on.way copy.board calls copy.held) parting is) in
          let s = stands_alone on.way copy.board calls leaving in
          subst (λ (t : Place). IsUnflushed t calls) on.to
          (ended_unflushed on.way.from on.way.to on.job.terms.size on.way.how leaving.has on.way.slices copy.board calls (between_sized on.way on.job.terms.size leaving.has copy.board calls on.is.size s) (on.is.unwanted (on.wished.unflushed unwanted)) apart))
          on.on;
      flushed = λ two.
          let apart : on.way.from ≢ on.way.to = λ e. two (sym on.from ∙ e ∙ on.to) in
          settled_with (λ source destination calls. (copy.options.flush && both.takes_flush destination) ≡ true → IsFlushed copy.to calls) copy.options copy.from copy.to start told on.job.terms on.settled
          (told_as start told
          (λ calls is wanted.
          let leaving : IsLeaving on.way copy.board calls [] =
          subst (λ (h : List (Held Ticket)). IsLeaving on.way copy.board calls h) none (subst (λ (p : Bool). IsUnderWay p on.way copy.board calls copy.held) parting is) in
          let s = stands_alone on.way copy.board calls leaving in
          let answered : copy.board.flushed ≡ true = on.is.flushed (is_past on.job.phase parting) (on.settled.first.settled.flush ∙ wanted) in
          subst (λ (t : Place). IsFlushed t calls) on.to
          (ended_flushed on.way.from on.way.to on.job.terms.size on.way.how leaving.has on.way.slices copy.board calls (between_sized on.way on.job.terms.size leaving.has copy.board calls on.is.size s) well answered apart))
          on.on);
      dense = λ two.
          let apart : on.way.from ≢ on.way.to = λ e. two (sym on.from ∙ e ∙ on.to) in
          settled_with (λ source destination calls. WritesNoZeros (both.how_by copy.options source destination) (dealt_with copy.to calls)) copy.options copy.from copy.to start told on.job.terms on.settled
          (told_as start told
          (λ calls is.
          let leaving : IsLeaving on.way copy.board calls [] =
          subst (λ (h : List (Held Ticket)). IsLeaving on.way copy.board calls h) none (subst (λ (p : Bool). IsUnderWay p on.way copy.board calls copy.held) parting is) in
          let s = stands_alone on.way copy.board calls leaving in
          subst (λ (how : How). WritesNoZeros how (dealt_with copy.to calls)) on.settled.first.settled.how
          (subst (λ (t : Place). WritesNoZeros on.job.terms.how (dealt_with t calls)) on.to (way_dense on.job on.way copy.board calls on.is leaving.has s well apart)))
          on.on);
      answered = λ two. way_answers copy start told well on two;
      driven = told_as start told
          (λ calls is.
          let leaving : IsLeaving on.way copy.board calls [] =
          subst (λ (h : List (Held Ticket)). IsLeaving on.way copy.board calls h) none (subst (λ (p : Bool). IsUnderWay p on.way copy.board calls copy.held) parting is) in
          ended_are_driven on.way.from on.way.to on.way.size on.way.how leaving.has on.way.slices copy.board calls (stands_alone on.way copy.board calls leaving).between)
          on.on;
      left = settled_with (λ source destination calls. AreLeft copy.options.extents copy.options.destination_is_zero (copy.options.flush && both.takes_flush destination) copy.from copy.to calls) copy.options copy.from copy.to start told on.job.terms on.settled
          (told_as start told
          (λ calls is.
          let leaving : IsLeaving on.way copy.board calls [] =
          subst (λ (h : List (Held Ticket)). IsLeaving on.way copy.board calls h) none (subst (λ (p : Bool). IsUnderWay p on.way copy.board calls copy.held) parting is) in
          left_as on.way copy (copy.options.flush && both.takes_flush on.settled.first.destination) calls on.extents on.from on.to skip (on.is.wants ∙ on.settled.first.settled.flush) (all_left on.way copy.board calls leaving))
          on.on);
      whole = λ two. way_whole copy start told well on over two;
    }
  where
    carried_as : (way : Way) (copy : Seen) (calls : List wire.Call) → way.from ≡ copy.from → way.to ≡ copy.to → way.how.skip ≡ copy.options.destination_is_zero →
        HasCarried way.from way.to way.how.skip calls → HasCarried copy.from copy.to copy.options.destination_is_zero calls
    carried_as way copy calls from to skip c =
        subst (λ (b : Bool). HasCarried copy.from copy.to b calls) skip
        (subst (λ (t : Place). HasCarried copy.from t way.how.skip calls) to (subst (λ (f : Place). HasCarried f way.to way.how.skip calls) from c))

-- What was copied since the transcript was this, was copied by the part that it grew by.

pub told_part : {Is : List wire.Call → Type 0} (a b : Option (List wire.Call)) → Told a b Is → (all part : List wire.Call) → b ≡ Some all → Grows a b part → Is part
told_part {Is} a b told all part is grown =
    let since = told.since all is in
    let grew = grown all is in
    let same : since.before ≡ grew.0 = same_calls since.before grew.0 (sym since.was ∙ grew.1) in
    subst Is (same_rest since.before since.calls part (sym since.now ∙ grew.2 ∙ ap (λ (l : List wire.Call). l ++ part) (sym same))) since.is

-- A copy that is done has carried what it was to copy, whatever it held meanwhile.
pub done_carries : (copy new : Seen) (a b c : Option (List wire.Call)) → new ≡ record copy { start = new.start; held = new.held; board = new.board; job = new.job } → c ≡ b → copy.from ≢ copy.to → IsDone a b new →
    GrewBy (HasCarried copy.from copy.to copy.options.destination_is_zero) a c
done_carries copy new a b c kept same two done =
    let so = subst (λ (s : Seen). IsDone a b s) kept done in
    subst (λ (t : Option (List wire.Call)). GrewBy (HasCarried copy.from copy.to copy.options.destination_is_zero) a t) (sym same) (told_part a b (so.carried two))

-- So it has copied.
pub grown_copies : (from to : Place) (blank : Bool) (a b : Option (List wire.Call)) → GrewBy (HasCarried from to blank) a b → Copies from to blank a b
grown_copies from to blank a b carried all part is grown = carrying_copies from to blank part (carried all part is grown)

-- It asked nothing twice.
pub done_asks : (copy new : Seen) (a b c : Option (List wire.Call)) → new ≡ record copy { start = new.start; held = new.held; board = new.board; job = new.job } → c ≡ b → copy.from ≢ copy.to → IsDone a b new → GrewBy (HasAskedOnce copy.options.allocated copy.options.destination_is_zero copy.from copy.to) a c
done_asks copy new a b c kept same two done =
    let so = subst (λ (s : Seen). IsDone a b s) kept done in
    subst (λ (t : Option (List wire.Call)). GrewBy (HasAskedOnce copy.options.allocated copy.options.destination_is_zero copy.from copy.to) a t) (sym same) (told_part a b (so.asked two))

-- All that it asked was done.
pub done_whole : (copy new : Seen) (a b c : Option (List wire.Call)) → new ≡ record copy { start = new.start; held = new.held; board = new.board; job = new.job } → c ≡ b → copy.from ≢ copy.to → IsDone a b new → GrewBy (WereAllDone copy.from copy.to) a c
done_whole copy new a b c kept same two done =
    let so = subst (λ (s : Seen). IsDone a b s) kept done in
    subst (λ (t : Option (List wire.Call)). GrewBy (WereAllDone copy.from copy.to) a t) (sym same) (told_part a b (so.done two))

-- It read no block that was told as zero whole,
pub done_spares : (copy new : Seen) (a b c : Option (List wire.Call)) → new ≡ record copy { start = new.start; held = new.held; board = new.board; job = new.job } → c ≡ b → copy.from ≢ copy.to → IsDone a b new → GrewBy (SparesTold copy.options.extents copy.from copy.to) a c
done_spares copy new a b c kept same two done =
    let so = subst (λ (s : Seen). IsDone a b s) kept done in
    subst (λ (t : Option (List wire.Call)). GrewBy (SparesTold copy.options.extents copy.from copy.to) a t) (sym same) (told_part a b (so.spares two))

-- and wrote none that was found to be zero.
pub done_dense : (copy new : Seen) (a b c : Option (List wire.Call)) → new ≡ record copy { start = new.start; held = new.held; board = new.board; job = new.job } → c ≡ b → copy.from ≢ copy.to → IsDone a b new → GrewBy (SparesFound copy.options copy.from copy.to) a c
done_dense copy new a b c kept same two done =
    let so = subst (λ (s : Seen). IsDone a b s) kept done in
    subst (λ (t : Option (List wire.Call)). GrewBy (SparesFound copy.options copy.from copy.to) a t) (sym same) (told_part a b (so.dense two))

-- The flush that was wanted is done.
pub done_flushed : (copy new : Seen) (a b c : Option (List wire.Call)) → new ≡ record copy { start = new.start; held = new.held; board = new.board; job = new.job } → c ≡ b → copy.from ≢ copy.to → IsDone a b new → GrewBy (FlushesWanted copy.options copy.from copy.to) a c
done_flushed copy new a b c kept same two done =
    let so = subst (λ (s : Seen). IsDone a b s) kept done in
    subst (λ (t : Option (List wire.Call)). GrewBy (FlushesWanted copy.options copy.from copy.to) a t) (sym same) (told_part a b (so.flushed two))

-- Nothing is left to do.
pub done_wholly : (copy new : Seen) (a b c : Option (List wire.Call)) → new ≡ record copy { start = new.start; held = new.held; board = new.board; job = new.job } → c ≡ b → copy.from ≢ copy.to → IsDone a b new → GrewBy (WasCopiedWhole copy.options copy.from copy.to) a c
done_wholly copy new a b c kept same two done =
    let so = subst (λ (s : Seen). IsDone a b s) kept done in
    subst (λ (t : Option (List wire.Call)). GrewBy (WasCopiedWhole copy.options copy.from copy.to) a t) (sym same) (told_part a b (so.whole two))

-- It left each of its links well.
pub done_left : (copy new : Seen) (a b c : Option (List wire.Call)) → new ≡ record copy { start = new.start; held = new.held; board = new.board; job = new.job } → c ≡ b → IsDone a b new → GrewBy (AreLeftBy copy.options copy.from copy.to) a c
done_left copy new a b c kept same done =
    let so = subst (λ (s : Seen). IsDone a b s) kept done in
    subst (λ (t : Option (List wire.Call)). GrewBy (AreLeftBy copy.options copy.from copy.to) a t) (sym same) (told_part a b so.left)

-- One handle drove each of its links.
pub done_driven : (new : Seen) (a b c : Option (List wire.Call)) → c ≡ b → IsDone a b new → GrewBy AreDriven a c
done_driven new a b c same done = subst (λ (t : Option (List wire.Call)). GrewBy AreDriven a t) (sym same) (told_part a b done.driven)

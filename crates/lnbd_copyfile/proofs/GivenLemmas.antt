-- What the export is asked in a copy from a file: each step keeps of it what the rows of the board say.
use Rattle.std.proofs.Common.{◌≡◌, ◌⊎◌, inl, inr, ◌≤◌, ℕ, Bool, false, cond, List, [], ◌++◌, Option, Some, None, Result, Ok, Err, refl, ap, sym, subst, ◌∙◌, arith}
use Rattle.std.proofs.lemmas.Bool.{false≢true}
use Rattle.std.specs.Prelude.{IfErr, OnOk}
use Rattle.lnbd_link.specs.Call as wire
use Rattle.lnbd_history.specs.Commands.{Command}
use Rattle.lnbd_asked.specs.Link.{Nobody}
use Rattle.lnbd_asked.specs.Transcript.{Dealt, dealt_with}
use Rattle.lnbd_model.specs.declared.target.Place.{Place}
use Rattle.lnbd_plan.specs.declared.grid.Slice.{Slice}
use Rattle.lnbd_plan.specs.declared.options.CopyOptions.{CopyOptions}
use Rattle.lnbd_plan.specs.declared.summary.Summary.{Summary}
use Rattle.lnbd_plan.specs.Laws.{IsPlannedOnce, told_by}
use Rattle.lnbd_poll.specs.Held.{Held}
use Rattle.lnbd_board.specs.declared.how.How.{How}
use Rattle.lnbd_board.specs.declared.ticket.Ticket.{Ticket}
use Rattle.lnbd_board.specs.declared.ticket.Ticket.TheVariants as ticket
use Rattle.lnbd_board.specs.Files as board
use Rattle.lnbd_board.specs.Pieces.{IsDense}
use Rattle.lnbd_board.specs.Requests.{Each, Request, Under}
use Rattle.lnbd_board.specs.Rows.{AsksOfDestination}
use Rattle.lnbd_board.proofs.Lists.{in_each}
use Rattle.lnbd_onesided.specs.Dealt.{dealt_by}
use Rattle.lnbd_onesided.proofs.DealtLemmas.{apart_are_dealt}
use Rattle.lnbd_course.specs.Asks.{AreAskedOnce}
use Rattle.lnbd_course.specs.Counted.{flushes_of, is_flush}
use Rattle.lnbd_course.specs.Far.{FromFile}
use Rattle.lnbd_course.specs.FarEnds.{HasAskedOnceFar}
use Rattle.lnbd_course.specs.Flushes.{NoneFlushes, OneFlushes}
use Rattle.lnbd_course.specs.Spares.{WritesNoZeros}
use Rattle.lnbd_course.proofs.Dense.{dense_of}
use Rattle.lnbd_course.proofs.Ending.{planned_once}
use Rattle.lnbd_course.proofs.FarStanding.{numbered_apart}
use Rattle.lnbd_course.proofs.Flushing.{flushes, flushes_same, none_there, one_at_most}
use Rattle.lnbd_course.proofs.Once.{asked_once, each_asked, none_meet}
use Rattle.lnbd_course.proofs.Quiet.{dealt_stays, links_stay}
use Rattle.lnbd_conduct.specs.declared.terms.Terms.{Terms}
use Rattle.lnbd_conduct.specs.Terms.{how_by}
use Rattle.lnbd_conduct.specs.Told.{Told}
use Rattle.lnbd_copy.specs.Agreed.{IsWished}
use Rattle.lnbd_copy.specs.Faults.{GoesIdly}
use Rattle.lnbd_copy.proofs.AlwaysLemmas.{some_longer}
use Rattle.lnbd_copy.proofs.EndLemmas.{told_part}
use Rattle.lnbd_copy.proofs.FaultLemmas.{told_both}
use Rattle.lnbd_copy.proofs.IdleLemmas.{StaysIdly, told_idly}
use Rattle.lnbd_copy.proofs.TurnLemmas.{told_map}
use Rattle.lnbd_store.specs.Call.{Call}
use Rattle.lnbd_store.specs.Shelf.{Shelf}
use Rattle.lnbd_touched.specs.Grown.{Grew}
use Rattle.lnbd_touched.proofs.GrownLemmas.{grew_both}
use Rattle.lnbd_connections.specs.Asks.{Asks, AsksNone, DialsOnly}
use Rattle.lnbd_connections.specs.Steps as steps
use Rattle.lnbd_connections.specs.Way.{Way}
use Rattle.lnbd_connections.proofs.AskLemmas.{asks_still}
use Rattle.lnbd_copyfile.specs.Shares.{as_read}
use Rattle.lnbd_copyfile.specs.declared.fault.Halt.{Halt}
use Rattle.lnbd_copyfile.specs.Calls.{IsOpening}
use Rattle.lnbd_copyfile.specs.FromFile.{AreMade, HasMet, HasNotBegun, IsGoing, Seen, new_way, stop_by}
use Rattle.lnbd_copyfile.specs.FromFileJob as work
use Rattle.lnbd_copyfile.specs.FromFileJob.{IsJob}
use Rattle.lnbd_copyfile.specs.Given.{AsksFurther, AsksOn, BehavesFrom, ConductsFrom, Had_not, Had_opened, HasConducted, IsUnasked, OpensFirst, Was_opened, Was_unopened}
use Rattle.lnbd_copyfile.specs.OneFile.{BreaksReading, Reads}
use Rattle.lnbd_copyfile.specs.Shown.{HasShown, SparesFoundFrom}
use Rattle.lnbd_copyfile.proofs.FromFileLemmas.{made_dialed, made_first}

-- With calls that read, write and make no link it stays so.

pub unasked_stays : (to : Place) → StaysIdly (IsUnasked to)
unasked_stays to calls more quiet none u = record {
  links = links_stay calls more quiet none to to u.links;
  none = λ link cookie command is. u.none link cookie command (sym (ap (λ (d : Dealt). d.asked link cookie) (dealt_stays calls more quiet none to)) ∙ is);
}

once_stays : (allocated skip : Bool) (size : ℕ) (read : List Request) (to : Place) → StaysIdly (HasAskedOnceFar allocated skip size (FromFile read) to)
once_stays allocated skip size read to calls more quiet none once = record {
  links = links_stay calls more quiet none to to once.links;
  asked = subst (λ (d : Dealt). AreAskedOnce allocated skip size (dealt_by size read) d) (sym (dealt_stays calls more quiet none to)) once.asked;
}

asked_on_stays : (terms : Terms) (to : Place) → StaysIdly (AsksOn terms to)
asked_on_stays terms to calls more quiet none a = record {
  read = a.read;
  once = once_stays terms.how.allocated terms.how.skip terms.size a.read to calls more quiet none a.once;
  dense = subst (WritesNoZeros terms.how) (sym (dealt_stays calls more quiet none to)) a.dense;
  flushes = subst OneFlushes (sym (dealt_stays calls more quiet none to)) a.flushes;
  unflushed = λ unwanted. subst NoneFlushes (sym (dealt_stays calls more quiet none to)) (a.unflushed unwanted);
}

found_stays : (options : CopyOptions) (size : ℕ) (to : Place) → StaysIdly (SparesFoundFrom options size to)
found_stays options size to calls more quiet none found = record {
  info = found.info;
  shown = some_longer calls more found.shown;
  is = (found.is.0, subst (WritesNoZeros (how_by options (as_read size) found.info)) (sym (dealt_stays calls more quiet none to)) found.is.1);
}

behaves_stays : (options : CopyOptions) (size : ℕ) (to : Place) → StaysIdly (BehavesFrom options size to)
behaves_stays options size to calls more quiet none b = record {
  asks = record { read = b.asks.read; once = once_stays options.allocated options.destination_is_zero size b.asks.read to calls more quiet none b.asks.once };
  flushes = subst OneFlushes (sym (dealt_stays calls more quiet none to)) b.flushes;
  unflushed = λ unwanted. subst NoneFlushes (sym (dealt_stays calls more quiet none to)) (b.unflushed unwanted);
  dense = elim b.dense [
    | inl nothing ↦ inl (unasked_stays to calls more quiet none nothing)
    | inr found ↦ inr (found_stays options size to calls more quiet none found)
  ];
}

-- Before a slice begins nothing is asked.

none_asks : (how : How) (t : Ticket) (command : Command Nobody) → AsksOfDestination how [] t command → is_flush command.kind ≡ false → ⊥
none_asks how (ticket.Slice n) command asks other = let few = asks.1.begun in absurd (omega (arith, few))
none_asks how ticket.Extents command asks other = asks
none_asks how ticket.Flush command asks other = false≢true (sym other ∙ ap is_flush asks.0)

asks_unasked : (way : Way) (calls : List wire.Call) → way.slices ≡ [] → Asks (FromFile []) way false calls → IsUnasked way.at calls
asks_unasked way calls none a = record {
  links = a.links;
  none = λ link cookie command is.
      let u : Under link cookie command a.asked = a.only link cookie command is in
      let changes = subst (λ (s : List Slice). Each (λ (r : Request). AsksOfDestination way.how s r.ticket r.said.command) a.asked) none a.stands.changes in
      none_asks way.how u.request.ticket u.request.said.command
      (in_each (λ (r : Request). AsksOfDestination way.how [] r.ticket r.said.command) u.request a.asked u.within changes)
      (none_there a.asked a.flushes u.request u.within);
}

-- a step without a job
unasked_step : (to : Place) (room : Option ℕ) (how : How) (flushing : Bool) (start a b : Option (List wire.Call)) → flushing ≡ false →
    GoesIdly a b ⊎ Told start b (Asks (FromFile []) (new_way to room how) flushing) → Told start a (IsUnasked to) → Told start b (IsUnasked to)
unasked_step to room how flushing start a b none (inl idly) was = told_idly (IsUnasked to) start a b (unasked_stays to) idly was
unasked_step to room how flushing start a b none (inr asks) was =
    told_map start b (λ calls x. asks_unasked (new_way to room how) calls refl (subst (λ (f : Bool). Asks (FromFile []) (new_way to room how) f calls) none x)) asks

made_dials : (to : Place) (room : Option ℕ) (start a b : Option (List wire.Call)) (copy : Seen) → copy.board.error ≡ None → AreMade to room start a copy →
    DialsOnly to copy.board copy.held a b → Told start a (IsUnasked to) → Told start b (IsUnasked to)
made_dials to room start a b copy well made dials was =
    unasked_step to room made.how copy.board.flushing start a b made.unflushed (dials.on (FromFile []) (new_way to room made.how) start refl well made.stand made.on) was

made_turns : (to : Place) (room : Option ℕ) (start a b : Option (List wire.Call)) (copy : Seen) → AreMade to room start a copy →
    AsksNone copy.board copy.held a b → Told start a (IsUnasked to) → Told start b (IsUnasked to)
made_turns to room start a b copy made turns was =
    unasked_step to room made.how copy.board.flushing start a b made.unflushed (turns.on (FromFile []) (new_way to room made.how) start made.stand made.on) was

new_well : (copy : Seen) → HasNotBegun copy → copy.board.error ≡ None
new_well copy new = ap (λ (s : board.Seen). s.error) new.board

first_unasked : (to : Place) (start : Option (List wire.Call)) (copy : Seen) → HasNotBegun copy → Told start start (IsUnasked to)
first_unasked to start copy new =
    let made = made_first to start copy new in
    told_map start start (λ calls on. asks_unasked (new_way to None made.how) calls refl
    (subst (λ (f : Bool). Asks (FromFile []) (new_way to None made.how) f calls) made.unflushed (asks_still (FromFile []) (new_way to None made.how) copy.board calls copy.held (new_well copy new) on)))
    made.on

-- The first connection is made,
pub meets_dials : (to : Place) (start b : Option (List wire.Call)) (copy : Seen) → HasNotBegun copy → DialsOnly to copy.board copy.held start b → Told start b (IsUnasked to)
meets_dials to start b copy new dials = made_dials to None start start b copy (new_well copy new) (made_first to start copy new) dials (first_unasked to start copy new)

-- and settles;
pub meets_turns : (to : Place) (start b c : Option (List wire.Call)) (copy mid : Seen) → HasNotBegun copy → mid.board ≡ copy.board → DialsOnly to copy.board copy.held start b →
    steps.Dials to 1 copy.board copy.held start mid.held b → AsksNone mid.board mid.held b c → Told start c (IsUnasked to)
meets_turns to start b c copy mid new same only dials turns =
    made_turns to None start b c mid (made_dialed to None start start b copy mid 1 same dials (made_first to start copy new)) turns (meets_dials to start b copy new only)

-- the further ones are made,
pub joins_dials : (to : Place) (terms : Terms) (start a b : Option (List wire.Call)) (copy : Seen) → HasMet to terms start a copy → copy.board.error ≡ None →
    DialsOnly to copy.board copy.held a b → Told start a (IsUnasked to) → Told start b (IsUnasked to)
joins_dials to terms start a b copy met well dials was = made_dials to (Some met.room) start a b copy well met.made dials was

-- and settle.
pub joins_turns : (to : Place) (terms : Terms) (start a b c : Option (List wire.Call)) (copy mid : Seen) (more : ℕ) → mid.board ≡ copy.board → HasMet to terms start a copy →
    copy.board.error ≡ None → DialsOnly to copy.board copy.held a b → steps.Dials to more copy.board copy.held a mid.held b → AsksNone mid.board mid.held b c →
    Told start a (IsUnasked to) → Told start c (IsUnasked to)
joins_turns to terms start a b c copy mid more same met well only dials turns was =
    made_turns to (Some met.room) start b c mid (made_dialed to (Some met.room) start a b copy mid more same dials met.made) turns (joins_dials to terms start a b copy met well only was)

-- With a job.

none_some : {A : Type 0} (one : A) → None ≡ Some one → ⊥
none_some one e = cc

-- where nothing was asked
nothing_once : (allocated skip : Bool) (size : ℕ) (to : Place) (calls : List wire.Call) → IsUnasked to calls → HasAskedOnceFar allocated skip size (FromFile []) to calls
nothing_once allocated skip size to calls u = record {
  links = u.links;
  asked = record {
    looks = λ link cookie command is. absurd (none_some command is);
    stores = λ link cookie command is. absurd (u.none link cookie command is);
    reads_once = λ link cookie link' cookie' p one other is is' here too. absurd (none_some one is);
    changes_once = λ link cookie link' cookie' p one other is is' here too. absurd (u.none link cookie one is);
    reads_within = λ link cookie command is p here. absurd (none_some command is);
    changes_within = λ link cookie command is p here. absurd (u.none link cookie command is);
    holes = λ link cookie command is kind. absurd (u.none link cookie command is);
    looks_plain = λ link cookie command is other. absurd (none_some command is);
    stores_plain = λ link cookie command is other. absurd (u.none link cookie command is);
    skips = λ skip link cookie command is kind. u.none link cookie command is;
    extents = λ link cookie command is kind. absurd (none_some command is);
  };
}

unasked_on : (terms : Terms) (to : Place) (calls : List wire.Call) → IsUnasked to calls → AsksOn terms to calls
unasked_on terms to calls u = record {
  read = [];
  once = nothing_once terms.how.allocated terms.how.skip terms.size to calls u;
  dense = λ link cookie command is. absurd (u.none link cookie command is);
  flushes = λ link cookie link' cookie' one other is is' here too. absurd (u.none link cookie one is);
  unflushed = λ unwanted link cookie command is. absurd (u.none link cookie command is);
}

-- By what the rows of a board say.
module _ (job : work.Seen) (zero : ℕ → Bool) (way : Way) (now : board.Seen) (is : IsJob job zero way now) (read : List Request) (calls : List wire.Call) (a : Asks (FromFile read) way now.flushing calls) where
  abbrev dealt : Dealt
  dealt = dealt_with way.at calls

  planned : (p : ℕ) → IsPlannedOnce job.windows.plan.cells (told_by 0 is.planned.parts) 0 job.windows.plan.end p (way.slices ++ job.windows.plan.slices)
  planned = planned_once job.windows.plan.cells is.planned.parts job.windows.plan.end (way.slices ++ job.windows.plan.slices) is.planned.are is.planned.end

  once : HasAskedOnceFar way.how.allocated way.how.skip job.terms.size (FromFile read) way.at calls
  once = record {
    links = a.links;
    asked = asked_once way.how job.windows.plan.cells (told_by 0 is.planned.parts) job.windows.plan.end job.terms.size way.slices job.windows.plan.slices a.rows read a.asked (dealt_by job.terms.size read) dealt
        a.stands planned (let within = is.planned.within in let ends = is.ends in omega (arith, within, ends)) (apart_are_dealt job.terms.size read (numbered_apart 0 read a.numbered)).only a.only;
  }

  one_flush : OneFlushes dealt
  one_flush link cookie link' cookie' one other asks asks' here too =
      let few = one_at_most now.flushing (flushes_of a.asked) a.flushes in
      none_meet flushes a.asked dealt a.only (λ p. subst (λ (n : ℕ). n ≤ 1) (sym (flushes_same p a.asked)) few) link cookie link' cookie' 0 one other asks asks' here too

  no_flush : job.terms.flush ≡ false → NoneFlushes dealt
  no_flush unwanted =
      each_asked (λ (c : Command Nobody). is_flush c.kind ≡ false) a.asked dealt a.only
      (none_there a.asked (a.flushes ∙ ap (λ (f : Bool). cond f 1 0) (is.unwanted unwanted)))

  no_zeros : WritesNoZeros way.how dealt
  no_zeros =
      each_asked (IsDense way.how) a.asked dealt a.only
      (λ r there. dense_of way.how way.slices r.ticket r.said.command (in_each (λ (x : Request). AsksOfDestination way.how way.slices x.ticket x.said.command) r a.asked there a.stands.changes))

  job_asks : AsksOn job.terms way.at calls
  job_asks = record {
    read = read;
    once = subst (λ (h : How). HasAskedOnceFar h.allocated h.skip job.terms.size (FromFile read) way.at calls) is.how once;
    dense = subst (λ (h : How). WritesNoZeros h dealt) is.how no_zeros;
    flushes = one_flush;
    unflushed = no_flush;
  }

further_as : (file : ℕ) (job : work.Seen) (a b : Option (List wire.Call)) (copy : Seen) (shelf : Option Shelf) (given : ℕ) (to : Place) (start : Option (List wire.Call)) (opened : Option Shelf)
    (before : ℕ) → (going : IsGoing to file job start a copy opened shelf before given) → GoesIdly a b ⊎ Told start b (Asks (FromFile going.read) going.way copy.board.flushing) →
    Told start a (AsksOn job.terms to) → Told start b (AsksOn job.terms to)
further_as file job a b copy shelf given to start opened before going (inl idly) was = told_idly (AsksOn job.terms to) start a b (asked_on_stays job.terms to) idly was
further_as file job a b copy shelf given to start opened before going (inr asks) was =
    told_map start b (λ calls x. subst (λ (p : Place). AsksOn job.terms p calls) going.at (job_asks job going.zero going.way copy.board going.is going.read calls x)) asks

pub asks_further : (file : ℕ) (job : work.Seen) (a b : Option (List wire.Call)) (copy : Seen) (shelf : Option Shelf) (given : ℕ) → AsksNone copy.board copy.held a b →
    AsksFurther file job a b copy shelf given
asks_further file job a b copy shelf given none = record {
  on = λ to start opened before going was.
      further_as file job a b copy shelf given to start opened before going (none.on (FromFile going.read) going.way start going.stand going.on) was;
}

pub asks_same : (file : ℕ) (job : work.Seen) (a : Option (List wire.Call)) (copy : Seen) (shelf : Option Shelf) (given : ℕ) → AsksFurther file job a a copy shelf given
asks_same file job a copy shelf given = record { on = λ to start opened before going was. was }

pub asks_later : (file : ℕ) (job : work.Seen) (a b c : Option (List wire.Call)) (copy : Seen) (shelf : Option Shelf) (given : ℕ) → AsksFurther file job a b copy shelf given → GoesIdly b c →
    AsksFurther file job a c copy shelf given
asks_later file job a b c copy shelf given first idly = record {
  on = λ to start opened before going was. told_idly (AsksOn job.terms to) start b c (asked_on_stays job.terms to) idly (first.on to start opened before going was);
}

-- where the job begins
pub began_on : (terms : Terms) (to : Place) (start told : Option (List wire.Call)) → Told start told (IsUnasked to) → Told start told (AsksOn terms to)
began_on terms to start told unasked = told_map start told (λ calls u. unasked_on terms to calls u) unasked

pub always_ok : {A E P : Type 0} (r : Result A E) → P → OnOk r P
always_ok (Ok a) p = p
always_ok (Err e) p = tt

-- Whatever a copy comes to.

pub unasked_behaves : (options : CopyOptions) (size : ℕ) (to : Place) (start told : Option (List wire.Call)) → Told start told (IsUnasked to) → Told start told (BehavesFrom options size to)
unasked_behaves options size to start told unasked = told_map start told (λ calls u. record {
  asks = record { read = []; once = nothing_once options.allocated options.destination_is_zero size to calls u };
  flushes = λ link cookie link' cookie' one other is is' here too. absurd (u.none link cookie one is);
  unflushed = λ unwanted link cookie command is. absurd (u.none link cookie command is);
  dense = inl u;
}) unasked

pub on_behaves : (options : CopyOptions) (terms : Terms) (size : ℕ) (to : Place) (start told : Option (List wire.Call)) → IsWished options terms → terms.size ≡ size →
    HasShown options size to start told terms → Told start told (AsksOn terms to) → Told start told (BehavesFrom options size to)
on_behaves options terms size to start told wished same shown asked = told_map start told (λ calls both. record {
  asks = record {
    read = both.0.read;
    once = subst (λ (n : ℕ). HasAskedOnceFar options.allocated options.destination_is_zero n (FromFile both.0.read) to calls) same
        (subst (λ (b : Bool). HasAskedOnceFar options.allocated b terms.size (FromFile both.0.read) to calls) wished.skip
        (subst (λ (b : Bool). HasAskedOnceFar b terms.how.skip terms.size (FromFile both.0.read) to calls) wished.allocated both.0.once));
  };
  flushes = both.0.flushes;
  unflushed = λ unwanted. both.0.unflushed (wished.unflushed unwanted);
  dense = inr (record {
    info = shown.info;
    shown = both.1;
    is = (shown.none, subst (λ (h : How). WritesNoZeros h (dealt_with to calls)) shown.settled.how both.0.dense);
  });
}) (told_both start told asked shown.shown)

-- The calls on the store begin with those by which the file was opened, whatever it was read for.
pub opens_first : (path : List ℕ) (file size : ℕ) (r : Result Summary Halt) (a b c : Option (List Call)) → Grew a b (IsOpening path file size) → OnOk r (Grew b c (Reads file)) →
    IfErr r (λ why. Grew b c (BreaksReading file size (stop_by why))) → Grew a c (OpensFirst path file size)
opens_first path file size (Ok summary) a b c opened reads breaks =
    grew_both a b c (IsOpening path file size) (Reads file) (OpensFirst path file size) (λ xs ys is more. record { own = ys; calls_are = ap (λ (l : List Call). l ++ ys) is }) opened reads
opens_first path file size (Err why) a b c opened reads breaks =
    grew_both a b c (IsOpening path file size) (BreaksReading file size (stop_by why)) (OpensFirst path file size)
    (λ xs ys is more. record { own = ys; calls_are = ap (λ (l : List Call). l ++ ys) is }) opened breaks

-- The copy ends.
pub conducted : (options options' : CopyOptions) (path : List ℕ) (to : Place) (stored stored' : Option (List Call)) (told b c : Option (List wire.Call)) (held : List (Held Ticket)) →
    options' ≡ options → GoesIdly b c → (held ≡ [] → c ≡ b) → HasConducted options' path to stored stored' told b held → ConductsFrom options path to stored stored' told c
conducted options options' path to stored stored' told b c held same idly parted (Had_opened file size opens behaves) =
    Was_opened file size opens
    (told_part told c (told_idly (BehavesFrom options size to) told b c (behaves_stays options size to) idly
    (subst (λ (o : CopyOptions). Told told b (BehavesFrom o size to)) same behaves)))
conducted options options' path to stored stored' told b c held same idly parted (Had_not unopened still none) = Was_unopened unopened (parted none ∙ still)

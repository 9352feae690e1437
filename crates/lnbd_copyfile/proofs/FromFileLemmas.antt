-- A copy from a file goes on from step to step.
use Rattle.std.proofs.Common.{◌≡◌, ◌≤◌, ℕ, false, List, [], Option, Some, None, refl, ap, sym, subst, ◌∙◌}
use Rattle.lnbd_link.specs.Call as wire
use Rattle.lnbd_model.specs.Kind.{is_read}
use Rattle.lnbd_model.specs.declared.target.Place.{Place}
use Rattle.lnbd_poll.specs.Held.{Held}
use Rattle.lnbd_board.specs.declared.ticket.Ticket.{Ticket}
use Rattle.lnbd_board.specs.Files as board
use Rattle.lnbd_course.specs.Counted.{bytes_of}
use Rattle.lnbd_course.specs.Far.{FromFile}
use Rattle.lnbd_conduct.specs.declared.terms.Terms.{Terms}
use Rattle.lnbd_conduct.specs.Told.{Told}
use Rattle.lnbd_copy.specs.Lasting.{Lasts}
use Rattle.lnbd_copy.specs.Way.{Stand}
use Rattle.lnbd_copy.proofs.FaultLemmas.{told_both}
use Rattle.lnbd_copy.proofs.TurnLemmas.{told_begins, told_map}
use Rattle.lnbd_store.specs.Shelf.{Shelf}
use Rattle.lnbd_touched.specs.Grown.{RoseBy}
use Rattle.lnbd_touched.proofs.GrownLemmas.{rose_none, rose_then}
use Rattle.lnbd_touched.proofs.TouchLemmas.{touches_none, touches_then}
use Rattle.lnbd_connections.specs.Steps as steps
use Rattle.lnbd_connections.specs.Way.{IsUnderWay, Way}
use Rattle.lnbd_connections.proofs.WayLemmas.{way_agreed, way_began, way_settled}
use Rattle.lnbd_copyfile.specs.declared.from_file_job.Phase.TheVariants.{Copying, Parting}
use Rattle.lnbd_copyfile.specs.FromFile.{AreMade, GoesFurther, HasAgreed, HasMet, HasNotBegun, IsGoing, Runs, Seen, new_board, new_way}
use Rattle.lnbd_copyfile.specs.FlushedLast.{HasRested}
use Rattle.lnbd_copyfile.specs.FromFileJob as work
use Rattle.lnbd_copyfile.specs.FromFileJob.{Acts, IsJob}
use Rattle.lnbd_copyfile.specs.Holes.{ToldHoles, nowhere}
use Rattle.lnbd_copyfile.specs.Loading.{ToldMore}
use Rattle.lnbd_copyfile.proofs.FlushedLastLemmas.{rests_later, rests_not}
use Rattle.lnbd_copyfile.proofs.FromFileJobLemmas.{holes_none, holes_then, job_filed}
use Rattle.lnbd_copyfile.proofs.SendingLemmas.{told_none, told_then}

-- Connections are made.

no_handles : (held : List (Held Ticket)) → held ≡ [] → Stand held
no_handles held none = subst Stand (sym none) (record { seens = []; at = tt })

pub made_first : (to : Place) (start : Option (List wire.Call)) (copy : Seen) → HasNotBegun copy → AreMade to None start start copy
made_first to start copy new = record {
  how = new.how;
  stand = no_handles copy.held new.held;
  rows = ap (λ (s : board.Seen). s.rows) new.board;
  unflushed = ap (λ (s : board.Seen). s.flushing) new.board;
  on = told_begins start
      (subst (λ (held : List (Held Ticket)). IsUnderWay (FromFile []) (new_way to None new.how) copy.board [] held) (sym new.held)
      (way_began (FromFile []) (new_way to None new.how) copy.board refl refl refl refl (λ p. refl) (ap (λ (s : board.Seen). s.rows) new.board) (ap (λ (s : board.Seen). s.begun) new.board) (record {
        read = ap (λ (s : board.Seen). s.read) new.board;
        written = ap (λ (s : board.Seen). s.written) new.board;
        zeroed = ap (λ (s : board.Seen). s.zeroed) new.board;
        flushing = ap (λ (s : board.Seen). s.flushing) new.board;
        flushed = ap (λ (s : board.Seen). s.flushed) new.board;
      })));
}

module _ (to : Place) (room : Option ℕ) (start a b : Option (List wire.Call)) (copy copy' : Seen) where
  pub made_dialed : (more : ℕ) → copy'.board ≡ copy.board → steps.Dials to more copy.board copy.held a copy'.held b → AreMade to room start a copy → AreMade to room start b copy'
  made_dialed more same dials made = record {
    how = made.how;
    stand = dials.stand made.stand;
    rows = ap (λ (s : board.Seen). s.rows) same ∙ made.rows;
    unflushed = ap (λ (s : board.Seen). s.flushing) same ∙ made.unflushed;
    on = subst (λ (s : board.Seen). Told start b (λ calls. IsUnderWay (FromFile []) (new_way to room made.how) s calls copy'.held)) (sym same)
        (dials.on (FromFile []) (new_way to room made.how) start refl made.on);
  }

  pub made_settled : steps.Goes copy.board copy.held a copy'.board copy'.held b → AreMade to room start a copy → AreMade to room start b copy'
  made_settled goes made =
      let filed = goes.filed made.stand in
      record {
        how = made.how;
        stand = goes.stand made.stand;
        rows = filed.none made.rows;
        unflushed = filed.flushing ∙ made.unflushed;
        on = goes.on (FromFile []) (new_way to room made.how) start made.stand made.on;
      }

pub made_agreed : (to : Place) (start told : Option (List wire.Call)) (copy : Seen) (terms : Terms) → AreMade to None start told copy → HasAgreed terms copy.held → HasMet to terms start told copy
made_agreed to start told copy terms made agreed = record {
  room = agreed.room;
  fits = agreed.fits;
  made = record {
    how = made.how;
    stand = made.stand;
    rows = made.rows;
    unflushed = made.unflushed;
    on = told_map start told (λ calls on. way_agreed (FromFile []) (new_way to None made.how) copy.board calls copy.held on 0 agreed.room refl agreed.tells) made.on;
  };
}

-- The first connection is made, and the terms are settled.
pub meets : (to : Place) (start b c : Option (List wire.Call)) (copy mid copy' : Seen) (terms : Terms) → HasNotBegun copy → mid.board ≡ copy.board →
    steps.Dials to 1 copy.board copy.held start mid.held b →
    steps.Goes mid.board mid.held b copy'.board copy'.held c → HasAgreed terms copy'.held → HasMet to terms start c copy'
meets to start b c copy mid copy' terms new same dials goes agreed =
    made_agreed to start c copy' terms (made_settled to None start b c mid copy' goes (made_dialed to None start start b copy mid 1 same dials (made_first to start copy new))) agreed

-- The further ones are made.
pub joins : (to : Place) (terms : Terms) (start a b c : Option (List wire.Call)) (copy mid copy' : Seen) (more : ℕ) → mid.board ≡ copy.board → steps.Dials to more copy.board copy.held a mid.held b →
    steps.Goes mid.board mid.held b copy'.board copy'.held c → HasMet to terms start a copy → HasMet to terms start c copy'
joins to terms start a b c copy mid copy' more same dials goes met = record {
  room = met.room;
  fits = met.fits;
  made = made_settled to (Some met.room) start b c mid copy' goes (made_dialed to (Some met.room) start a b copy mid more same dials met.made);
}

-- The job begins, on a board of its own.
pub going_first : (to : Place) (file : ℕ) (terms : Terms) (start told : Option (List wire.Call)) (copy copy' : Seen) (job : work.Seen) (shelf : Option Shelf) (given : ℕ) →
    copy'.held ≡ copy.held → copy'.board ≡ new_board terms.how → copy.board.error ≡ None →
    ((way : Way) (now : board.Seen) (room : ℕ) → way.size ≡ Some room → terms.size ≤ room → way.how ≡ terms.how → now.how ≡ terms.how → way.slices ≡ [] → way.asked ≡ None → now.flushing ≡
    false → IsJob job nowhere way now) → job.phase ≡ Copying →
    HasMet to terms start told copy → IsGoing to file job start told copy' shelf shelf given given
going_first to file terms start told copy copy' job shelf given held fresh well begins copying met = record {
  read = [];
  zero = nowhere;
  way = new_way to (Some met.room) terms.how;
  at = refl;
  is = begins (new_way to (Some met.room) terms.how) copy'.board met.room refl met.fits refl (ap (λ (s : board.Seen). s.how) fresh) refl refl (ap (λ (s : board.Seen). s.flushing) fresh);
  stand = subst Stand (sym held) met.made.stand;
  on = subst (λ (h : List (Held Ticket)). Told start told (λ calls. IsUnderWay (FromFile []) (new_way to (Some met.room) terms.how) copy'.board calls h)) (sym held)
      (told_map start told (λ calls on. way_settled (FromFile []) (new_way to (Some met.room) met.made.how) copy.board calls copy.held on terms.how
      copy'.board refl refl met.made.rows well met.made.unflushed
      (ap (λ (s : board.Seen). s.rows) fresh) (ap (λ (s : board.Seen). s.begun) fresh) (record {
        read = ap (λ (s : board.Seen). s.read) fresh;
        written = ap (λ (s : board.Seen). s.written) fresh;
        zeroed = ap (λ (s : board.Seen). s.zeroed) fresh;
        flushing = ap (λ (s : board.Seen). s.flushing) fresh;
        flushed = ap (λ (s : board.Seen). s.flushed) fresh;
      })) met.made.on);
  touched = touches_none file (ToldMore [] []) shelf (told_none []);
  holes = touches_none file (ToldHoles nowhere nowhere) shelf (holes_none nowhere);
  gave = rose_none given;
  rests = told_map start told (λ calls on. rests_not job.phase job.terms.size to copy'.board calls copying) met.made.on;
}

pub runs_first : (to : Place) (terms : Terms) (start told : Option (List wire.Call)) (copy copy' : Seen) (job : work.Seen) → copy'.held ≡ copy.held → copy'.board ≡ new_board terms.how →
    job.terms ≡ terms →
    HasMet to terms start told copy → Runs job copy'
runs_first to terms start told copy copy' job held fresh is met = record {
  stand = subst Stand (sym held) met.made.stand;
  how = ap (λ (s : board.Seen). s.how) fresh ∙ sym (ap (λ (t : Terms). t.how) is);
}

-- its options and its counts stay
pub kept_then : (a b c : Seen) → b ≡ record a { held = b.held; board = b.board } → c ≡ record b { held = c.held; board = c.board } → c ≡ record a { held = c.held; board = c.board }
kept_then a b c first second = second ∙ ap (λ (s : Seen). record s { held = c.held; board = c.board }) first

-- Steps with a job.

pub further_none : (file : ℕ) (job : work.Seen) (a : Option (List wire.Call)) (copy : Seen) (shelf : Option Shelf) (given : ℕ) → GoesFurther file job job a a copy copy shelf shelf given given
further_none file job a copy shelf given = record { on = λ to start opened before going. going }

pub further_then : (file : ℕ) (job job2 job3 : work.Seen) (a b c : Option (List wire.Call)) (copy copy2 copy3 : Seen) (shelf shelf2 shelf3 : Option Shelf) (given given2 given3 : ℕ) →
    GoesFurther file job job2 a b copy copy2 shelf shelf2 given given2 → GoesFurther file job2 job3 b c copy2 copy3 shelf2 shelf3 given2 given3 → GoesFurther file job job3 a c copy
    copy3 shelf shelf3 given given3
further_then file job job2 job3 a b c copy copy2 copy3 shelf shelf2 shelf3 given given2 given3 one two = record {
  on = λ to start opened before going. two.on to start opened before (one.on to start opened before going);
}

module _ (file : ℕ) (job : work.Seen) (a b : Option (List wire.Call)) (copy copy' : Seen) (shelf : Option Shelf) (given : ℕ) where
  pub further_turned : steps.Goes copy.board copy.held a copy'.board copy'.held b → (Stand copy.held → Lasts a b) → GoesFurther file job job a b copy copy' shelf shelf given given
  further_turned goes lasts = record {
    on = λ to start opened before going. record {
      read = going.read;
      zero = going.zero;
      way = going.way;
      at = going.at;
      is = job_filed job going.zero going.way copy.board copy'.board (goes.filed going.stand) going.is;
      stand = goes.stand going.stand;
      on = goes.on (FromFile going.read) going.way start going.stand going.on;
      touched = going.touched;
      holes = going.holes;
      gave = going.gave;
      rests = rests_later job.phase job.terms.size to copy.board copy'.board start a b (goes.filed going.stand) (lasts going.stand) going.rests;
    };
  }

  pub further_left : job.phase ≡ Parting → steps.Leaves copy.board copy.held a copy'.board copy'.held b → Lasts a b → GoesFurther file job job a b copy copy' shelf shelf given given
  further_left parting leaves lasts = record {
    on = λ to start opened before going. record {
      read = going.read;
      zero = going.zero;
      way = going.way;
      at = going.at;
      is = job_filed job going.zero going.way copy.board copy'.board leaves.filed going.is;
      stand = leaves.stand going.stand;
      on = leaves.on (FromFile going.read) going.way start going.is.unasked (going.is.over (λ copying. parting_past (sym parting ∙ copying))).rows going.on;
      touched = going.touched;
      holes = going.holes;
      gave = going.gave;
      rests = rests_later job.phase job.terms.size to copy.board copy'.board start a b leaves.filed lasts going.rests;
    };
  }
    where
      parting_past : Parting ≡ Copying → ⊥
      parting_past e = cc

pub further_acted : (file : ℕ) (job job' : work.Seen) (a : Option (List wire.Call)) (copy copy' : Seen) (shelf shelf' : Option Shelf) (given given' : ℕ) →
    Acts file job job' copy.board copy'.board copy.held copy'.held shelf shelf' given given' → GoesFurther file job job' a a copy copy' shelf shelf' given given'
further_acted file job job' a copy copy' shelf shelf' given given' acts = record {
  on = λ to start opened before going.
      let further = acts.on going.read going.zero going.way going.is in
      record {
        read = further.read';
        zero = further.zero';
        way = further.way';
        at = further.one.at ∙ going.at;
        is = further.job;
        stand = acts.stand going.stand;
        on = told_map start a further.on going.on;
        touched = touches_then file (ToldMore [] going.read) (ToldMore going.read further.read') (ToldMore [] further.read') opened shelf shelf'
            (λ x y z f g. told_then [] going.read further.read' x y z f g) going.touched further.touched;
        holes = touches_then file (ToldHoles nowhere going.zero) (ToldHoles going.zero further.zero') (ToldHoles nowhere further.zero') opened shelf shelf'
            (λ x y z f g. holes_then nowhere going.zero further.zero' x y z f g) going.holes further.holes;
        gave = subst (λ (n : ℕ). RoseBy n before given') (sym further.more) (rose_then (bytes_of is_read going.read) further.count before given given' going.gave further.gave);
        rests = told_map start a (λ calls both.
            subst (λ (p : Place). HasRested job'.phase job'.terms.size p copy'.board calls) going.at
            (acts.rests going.read going.zero going.way calls going.is both.0
            (subst (λ (p : Place). HasRested job.phase job.terms.size p copy.board calls) (sym going.at) both.1))) (told_both start a going.on going.rests);
      };
}

-- A turn: each connection takes its part, the job acts, and those that have parted are left.
pub further_round : (file : ℕ) (job job' : work.Seen) (a b c : Option (List wire.Call)) (copy copy2 copy3 copy4 : Seen) (shelf shelf' : Option Shelf) (given given' : ℕ) →
    steps.Goes copy.board copy.held a copy2.board copy2.held b → (Stand copy.held → Lasts a b) → Acts file job job' copy2.board copy3.board copy2.held copy3.held shelf shelf' given given' →
    GoesFurther file job' job' b c copy3 copy4 shelf' shelf' given' given' → GoesFurther file job job' a c copy copy4 shelf shelf' given given'
further_round file job job' a b c copy copy2 copy3 copy4 shelf shelf' given given' goes lasts acts left =
    further_then file job job job' a b c copy copy2 copy4 shelf shelf shelf' given given given' (further_turned file job a b copy copy2 shelf given goes lasts)
    (further_then file job job' job' b b c copy2 copy3 copy4 shelf shelf' shelf' given given' given' (further_acted file job job' b copy2 copy3 shelf shelf' given given' acts) left)

-- A pause behind it.
pub further_paused : (file : ℕ) (job job' : work.Seen) (a b c : Option (List wire.Call)) (copy copy2 copy3 : Seen) (shelf shelf' : Option Shelf) (given given' : ℕ) →
    GoesFurther file job job' a b copy copy2 shelf shelf' given given' → steps.Goes copy2.board copy2.held b copy3.board copy3.held c → Lasts b c → GoesFurther file job job' a c copy
    copy3 shelf shelf' given given'
further_paused file job job' a b c copy copy2 copy3 shelf shelf' given given' went goes lasts =
    further_then file job job' job' a b c copy copy2 copy3 shelf shelf' shelf' given given' given' went (further_turned file job' b c copy2 copy3 shelf' given' goes (λ s. lasts))

pub runs_paused : (job : work.Seen) (copy copy' : Seen) (a b : Option (List wire.Call)) → Runs job copy → steps.Goes copy.board copy.held a copy'.board copy'.held b → Runs job copy'
runs_paused job copy copy' a b runs goes = record { stand = goes.stand runs.stand; how = (goes.filed runs.stand).how ∙ runs.how }

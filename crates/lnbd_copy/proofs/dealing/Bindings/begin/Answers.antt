use Rattle.std.proofs.Common.{ℕ, ◌+◌, refl, ap, sym, ◌∙◌, arith}
use Rattle.lnbd_board.specs.Files as board
use Rattle.lnbd_copy.specs.Dealing.{Begins}
use Rattle.lnbd_copy.proofs.DealingLemmas.{begins_none, begins_on, zeros_stay}
use Rattle.lnbd_copy.proofs.FewestLemmas.{adds_on, all_add_none}
use Rattle.lnbd_copy.proofs.MovingLemmas.{none_more}
use Rattle.lnbd_copy.proofs.SpreadLemmas.{deals_none, deals_then}
use Rattle.lnbd_copy.proofs.UnderWayLemmas.{begun_all, begun_count, fills_end, fills_stop, none_to_begin}
use Rattle.lnbd_copy.proofs.LinkLemmas.{same_none, same_then}
use Rattle.lnbd_copy.proofs.ReadyLemmas.{begin_here, ready_none, ready_then}
use Rattle.lnbd_copy.specs.Windows as windows
use Rattle.lnbd_copy.proofs.FitLemmas.{fit_as}
use Rattle.lnbd_copy.proofs.dealing.Bindings.begin.Goals as goal

pub slices-init : goal.slices-init
slices-init c = record { sides = refl; zeros = c.requires.zeros; windows = refl; count = sym c.count-under_way.ensures.count; all = refl; still = λ none. refl; most = λ few. few; least = omega (arith); grows = omega (arith); stops = λ none. refl; none = λ same. refl; links = same_none c.args.handles.now; ready = ready_none c.args.handles.now; fits = λ fit. fit; begins = begins_none c.args.board.now.how c.args.self.now.sides c.args.windows.now c.args.windows.now c.args.board.now c.args.handles.now refl refl; dealt = deals_none c.args.limit c.args.self.now.sides c.args.self.now.bound c.args.board.now.rows; fewest = λ dealt. all_add_none c.args.self.now.sides c.args.board.now }

pub slices-preserved : goal.slices-preserved
slices-preserved c =
    let all : Begins c.args.board.now.how c.args.self.now.sides c.args.windows.now c.begin_next.new.windows c.args.board.now c.begin_next.new.board c.args.handles.now c.begin_next.new.handles =
    begins_on c.args.self.now.sides c.slices.self.sides c.args.windows.now c.slices.windows c.begin_next.new.windows c.args.board.now c.slices.board c.begin_next.new.board c.args.handles.now c.slices.handles c.begin_next.new.handles
    c.slices.invariant.sides c.slices.invariant.begins c.in_ok-begin_next.ensures.begins in
    let went = c.if-not-branch.false in
    let more = begun_count _ c.slices.windows c.begin_next.new.windows c.slices.board c.begin_next.new.board went c.in_ok-begin_next.ensures.next in
    record {
      sides = c.in_ok-begin_next.ensures.sides ∙ c.slices.invariant.sides;
      zeros = zeros_stay c.args.board.now.how c.args.self.now.sides c.args.windows.now c.begin_next.new.windows c.args.board.now c.begin_next.new.board c.args.handles.now c.begin_next.new.handles c.requires.zeros all;
      windows = all.others;
      count = more ∙ ap (λ (n : ℕ). n + 1) c.slices.invariant.count;
      all = begun_all _ c.args.windows.now c.slices.windows c.begin_next.new.windows c.args.board.now c.slices.board c.begin_next.new.board went c.slices.invariant.all c.in_ok-begin_next.ensures.next;
      still = λ none. absurd (omega (arith, none));
      most = λ few. (let count = c.slices.invariant.count in let less = c.slices-test.true in omega (arith, more, count, less));
      least = (let least = c.slices.invariant.least in let one = c.in_ok-begin_next.ensures.begun went in omega (arith, least, one));
      grows = (let grows = c.slices.invariant.grows in omega (arith, more, grows));
      stops = λ stop. absurd (none_to_begin _ c.args.limit c.args.windows.now c.slices.windows c.begin_next.new.windows c.args.board.now c.slices.board c.begin_next.new.board went c.slices.invariant.grows (let count = c.slices.invariant.count in let less = c.slices-test.true in omega (arith, count, less)) c.slices.invariant.all stop c.in_ok-begin_next.ensures.next);
      none = λ same. absurd (let least = c.slices.invariant.least in let one = c.in_ok-begin_next.ensures.begun went in omega (arith, least, one, same));
      links = same_then _ _ _ c.slices.invariant.links c.begin_next.ensures.links;
      ready = ready_then _ _ _ c.slices.invariant.ready c.in_ok-begin_next.ensures.ready;
      fits = λ fit. fit_as _ _ _ _ c.slices.board.rows c.begin_next.new.board.rows (ap (λ (w : windows.Seen). w.size) c.slices.invariant.windows) (ap (λ (w : windows.Seen). w.plan.cells) c.slices.invariant.windows) c.in_ok-begin_next.ensures.fits (c.slices.invariant.fits fit);
      begins = all;
      dealt = deals_then c.args.limit c.args.self.now.sides c.slices.self.sides c.args.self.now.bound c.slices.self.bound c.begin_next.new.self.bound c.args.board.now.rows c.slices.board.rows c.begin_next.new.board.rows c.slices.invariant.sides c.slices.invariant.dealt
          (c.in_ok-begin_next.ensures.dealt c.args.limit c.ranges.limit.fits (let count = c.slices.invariant.count in let less = c.slices-test.true in omega (arith, count, less)));
      fewest = adds_on c.args.limit c.args.self.now.sides c.slices.self.sides c.args.board.now c.slices.board c.begin_next.new.board c.args.self.now.bound c.slices.self.bound c.slices.invariant.sides c.slices.invariant.dealt c.slices.invariant.fewest c.in_ok-begin_next.ensures.fewest;
    }

pub returns-then-not-branch-clause-begins : goal.returns-then-not-branch-clause-begins
returns-then-not-branch-clause-begins c =
    begins_on c.args.self.now.sides c.slices.self.sides c.args.windows.now c.slices.windows c.begin_next.new.windows c.args.board.now c.slices.board c.begin_next.new.board c.args.handles.now c.slices.handles c.begin_next.new.handles
    c.slices.invariant.sides c.slices.invariant.begins c.in_ok-begin_next.ensures.begins

pub returns-then-not-branch-clause-fills : goal.returns-then-not-branch-clause-fills
returns-then-not-branch-clause-fills c =
    fills_stop c.args.limit _ c.args.windows.now c.slices.windows c.begin_next.new.windows c.args.board.now c.slices.board c.begin_next.new.board c.if-not-branch.true c.slices.invariant.all c.slices.invariant.most c.in_ok-begin_next.ensures.next

pub returns-clause-fills : goal.returns-clause-fills
returns-clause-fills c = fills_end c.args.limit c.args.windows.now c.slices.windows c.args.board.now c.slices.board c.slices.invariant.all c.slices.invariant.most (let count = c.slices.invariant.count in let end = c.slices-test.false in omega (arith, count, end))

pub returns-then-not-branch-clause-dealt : goal.returns-then-not-branch-clause-dealt
returns-then-not-branch-clause-dealt c =
    deals_then c.args.limit c.args.self.now.sides c.slices.self.sides c.args.self.now.bound c.slices.self.bound c.begin_next.new.self.bound c.args.board.now.rows c.slices.board.rows c.begin_next.new.board.rows c.slices.invariant.sides c.slices.invariant.dealt
    (c.in_ok-begin_next.ensures.dealt c.args.limit c.ranges.limit.fits (let count = c.slices.invariant.count in let less = c.slices-test.true in omega (arith, count, less)))

pub returns-then-not-branch-clause-fits : goal.returns-then-not-branch-clause-fits
returns-then-not-branch-clause-fits c fit = fit_as _ _ _ _ c.slices.board.rows c.begin_next.new.board.rows (ap (λ (w : windows.Seen). w.size) c.slices.invariant.windows) (ap (λ (w : windows.Seen). w.plan.cells) c.slices.invariant.windows) c.in_ok-begin_next.ensures.fits (c.slices.invariant.fits fit)

pub returns-then-not-branch-clause-fewest : goal.returns-then-not-branch-clause-fewest
returns-then-not-branch-clause-fewest c =
    adds_on c.args.limit c.args.self.now.sides c.slices.self.sides c.args.board.now c.slices.board c.begin_next.new.board c.args.self.now.bound c.slices.self.bound c.slices.invariant.sides c.slices.invariant.dealt c.slices.invariant.fewest c.in_ok-begin_next.ensures.fewest

pub returns-then-not-branch-clause-begun : goal.returns-then-not-branch-clause-begun
returns-then-not-branch-clause-begun c same = c.slices.invariant.none (sym (none_more _ c.slices.windows c.begin_next.new.windows c.slices.board c.begin_next.new.board c.if-not-branch.true c.in_ok-begin_next.ensures.next) ∙ same)

pub returns-then-not-branch-clause-none : goal.returns-then-not-branch-clause-none
returns-then-not-branch-clause-none c stop = c.slices.invariant.stops stop

pub returns-clause-none : goal.returns-clause-none
returns-clause-none c stop = c.slices.invariant.stops stop

pub begin_next-requires-clause-may : goal.begin_next-requires-clause-may
begin_next-requires-clause-may c =
    begin_here c.args.self.now.sides c.slices.self.sides c.args.board.now.how c.slices.board.how c.args.handles.now c.slices.handles c.slices.invariant.sides (ap (λ (b : board.Seen). b.how) c.slices.invariant.begins.begun) c.slices.invariant.ready
    c.args.windows.now c.slices.windows (ap (λ (w : windows.Seen). w.size) c.slices.invariant.windows) (ap (λ (w : windows.Seen). w.plan.cells) c.slices.invariant.windows) c.requires.may

use Rattle.std.proofs.Common.{ap, sym, ◌∙◌, arith}
use Rattle.lnbd_board.specs.Files as board
use Rattle.std.proofs.lemmas.Bool.{false≢true}
use Rattle.lnbd_copy.proofs.DealingLemmas.{gone_then, keeps_on}
use Rattle.lnbd_copy.proofs.FewestLemmas.{fewer_then}
use Rattle.lnbd_copy.proofs.LinkLemmas.{same_then}
use Rattle.lnbd_copy.proofs.ReadyLemmas.{ready_then, serve_here}
use Rattle.lnbd_copy.proofs.SpreadLemmas.{deals_here, deals_then}
use Rattle.lnbd_copy.proofs.UnderWayLemmas.{looked_more, looked_none}
use Rattle.lnbd_copy.proofs.dealing.Bindings.go_on.Goals as goal

pub slices-preserved : goal.slices-preserved
slices-preserved c =
    let was = c.slices.invariant in
    let went = c.in_ok-go_on_once.ensures in
    record {
      sides = went.sides ∙ was.sides;
      others = gone_then c.args.board.now c.slices.board c.go_on_once.new.board was.others went.others;
      still = λ none. absurd (omega (arith, none));
      same = λ none. absurd (omega (arith, none));
      none = λ none. absurd (false≢true (sym (went.none (was.none none).1) ∙ c.if-branch.true));
      links = same_then _ _ _ was.links went.links;
      few = looked_more _ c.args.board.now c.slices.board c.go_on_once.new.board c.if-branch.true was.few went.looked;
      ready = ready_then _ _ _ was.ready went.ready;
      fits = λ size cells fit. went.fits size cells (was.fits size cells fit);
      keeps = keeps_on c.args.self.now.sides c.slices.self.sides c.args.board.now c.slices.board c.go_on_once.new.board c.args.handles.now c.slices.handles c.go_on_once.new.handles was.sides was.others was.keeps went.keeps;
      dealt = λ limit. deals_then limit c.args.self.now.sides c.slices.self.sides c.args.self.now.bound c.slices.self.bound c.go_on_once.new.self.bound c.args.board.now.rows c.slices.board.rows c.go_on_once.new.board.rows was.sides (was.dealt limit) (went.dealt limit);
      leaves = fewer_then c.args.board.now c.slices.board c.go_on_once.new.board was.leaves went.leaves;
    }

pub returns-clause-dealt : goal.returns-clause-dealt
returns-clause-dealt c limit =
    deals_then limit c.args.self.now.sides c.slices.self.sides c.args.self.now.bound c.slices.self.bound c.go_on_once.new.self.bound c.args.board.now.rows c.slices.board.rows c.go_on_once.new.board.rows c.slices.invariant.sides (c.slices.invariant.dealt limit) (c.in_ok-go_on_once.ensures.dealt limit)

pub returns-clause-fits : goal.returns-clause-fits
returns-clause-fits c size cells fit = c.in_ok-go_on_once.ensures.fits size cells (c.slices.invariant.fits size cells fit)

pub returns-clause-leaves : goal.returns-clause-leaves
returns-clause-leaves c = fewer_then c.args.board.now c.slices.board c.go_on_once.new.board c.slices.invariant.leaves c.in_ok-go_on_once.ensures.leaves

pub returns-clause-none : goal.returns-clause-none
returns-clause-none c none = (c.slices.invariant.none none).0

pub returns-clause-same : goal.returns-clause-same
returns-clause-same c none = looked_none _ c.slices.board c.go_on_once.new.board c.if-branch.false c.in_ok-go_on_once.ensures.looked ∙ c.slices.invariant.same none

pub go_on_once-requires-clause-may : goal.go_on_once-requires-clause-may
go_on_once-requires-clause-may c =
    serve_here c.args.self.now.sides c.slices.self.sides c.args.board.now.how c.slices.board.how c.args.handles.now c.slices.handles c.slices.invariant.sides (ap (λ (b : board.Seen). b.how) c.slices.invariant.others) c.slices.invariant.ready
    c.args.board.now.rows c.slices.board.rows c.slices.invariant.fits c.requires.may

pub go_on_once-requires-clause-dealt : goal.go_on_once-requires-clause-dealt
go_on_once-requires-clause-dealt c = deals_here c.args.self.now.sides c.slices.self.sides c.args.self.now.bound c.slices.self.bound c.args.board.now.rows c.slices.board.rows c.slices.invariant.sides c.slices.invariant.dealt c.requires.dealt

use Rattle.std.proofs.Common.{arith, ◌≡◌, ◌+◌, length, refl, ap, sym, subst, ◌∙◌}
use Rattle.lnbd_board.specs.Files as board
use Rattle.lnbd_conduct.specs.declared.terms.Terms.{Terms}
use Rattle.lnbd_copy.specs.Agreed.{AreQuiet}
use Rattle.lnbd_copy.specs.Copier.{HasMet, Seen}
use Rattle.lnbd_copy.specs.Grounds.{AllSame}
use Rattle.lnbd_copy.proofs.AlikeLemmas.{met_alike}
use Rattle.lnbd_copy.proofs.CopierLemmas.{begins_job}
use Rattle.lnbd_copy.proofs.LawfulLemmas.{met_may, sides_some}
use Rattle.lnbd_copy.proofs.ReadyLemmas.{may_go}
use Rattle.lnbd_copy.proofs.SpreadLemmas.{begins_dealt, begins_fit}
use Rattle.lnbd_copy.proofs.SilentLemmas.{first_agreed_none}
use Rattle.lnbd_copy.proofs.copier.Copier.set_up.Goals as goal

pub returns-clause-begins : goal.returns-clause-begins
returns-clause-begins c start told is_met =
    let met = subst (λ (s : Seen). HasMet s start told c.args.terms) (sym c.self.view_is) is_met in
    let fresh = c.replace.ensures.after ∙ c.new.ensures in
    c.in_ok-act.ensures.on start told
    (begins_job _ start told c.args.terms c.in_ok-new.field-0 c.replace.new.dest c.in_ok-extents.extents met (ap (λ (s : Seen). s.board.error) c.self.view_is ∙ c.requires.well)
    (ap (λ (b : board.Seen). b.error) fresh) (ap (λ (b : board.Seen). b.rows) fresh) (ap (λ (b : board.Seen). b.begun) fresh)
    (record { read = ap (λ (b : board.Seen). b.read) fresh; written = ap (λ (b : board.Seen). b.written) fresh; zeroed = ap (λ (b : board.Seen). b.zeroed) fresh; flushing = ap (λ (b : board.Seen). b.flushing) fresh; flushed = ap (λ (b : board.Seen). b.flushed) fresh }) (ap (λ (b : board.Seen). b.how) fresh) c.in_ok-new.ensures.terms c.in_ok-new.ensures.begins c.in_ok-new.ensures.dealt
    (λ none calls on. first_agreed_none _ _ calls _ (c.in_ok-extents.ensures.none none) on)
    (met_alike _ start told c.args.terms met (subst (λ (s : Seen). AreQuiet s.held) (sym c.self.view_is) c.requires.quiet) (subst (λ (s : Seen). AllSame c.args.terms.sides (length s.held) s.held) (sym c.self.view_is) c.requires.same)) c.in_ok-new.ensures.job
    (may_go _ _ (met_may _ start told c.args.terms c.in_ok-new.field-0 c.in_ok-extents.extents met (subst (λ (s : Seen). AreQuiet s.held) (sym c.self.view_is) c.requires.quiet) (subst (λ (s : Seen). AllSame c.args.terms.sides (length s.held) s.held) (sym c.self.view_is) c.requires.same) c.in_ok-new.ensures.terms c.in_ok-extents.ensures.some c.in_ok-new.ensures.wanted (subst (λ (s : Seen). length s.held ≡ c.args.terms.sides.source + c.args.terms.sides.destination) (sym c.self.view_is) c.requires.many))))

pub tells_extents-requires-clause-held : goal.tells_extents-requires-clause-held
tells_extents-requires-clause-held c =
    let many = (subst (λ (s : Seen). length s.held ≡ c.args.terms.sides.source + c.args.terms.sides.destination) (sym c.self.view_is) c.requires.many) in
    let some = (sides_some _ c.requires.met.start c.requires.met.told c.args.terms c.requires.met.met).0 in
    omega (arith, many, some)

pub tells_extents-requires-clause-quiet : goal.tells_extents-requires-clause-quiet
tells_extents-requires-clause-quiet c = subst (λ (s : Seen). AreQuiet s.held) (sym c.self.view_is) c.requires.quiet

pub returns-clause-awaits : goal.returns-clause-awaits
returns-clause-awaits c start told is_met =
    let met = subst (λ (s : Seen). HasMet s start told c.args.terms) (sym c.self.view_is) is_met in
    let fresh = c.replace.ensures.after ∙ c.new.ensures in
    c.in_ok-act.ensures.awaits start told
    (begins_job _ start told c.args.terms c.in_ok-new.field-0 c.replace.new.dest c.in_ok-extents.extents met (ap (λ (s : Seen). s.board.error) c.self.view_is ∙ c.requires.well)
    (ap (λ (b : board.Seen). b.error) fresh) (ap (λ (b : board.Seen). b.rows) fresh) (ap (λ (b : board.Seen). b.begun) fresh)
    (record { read = ap (λ (b : board.Seen). b.read) fresh; written = ap (λ (b : board.Seen). b.written) fresh; zeroed = ap (λ (b : board.Seen). b.zeroed) fresh; flushing = ap (λ (b : board.Seen). b.flushing) fresh; flushed = ap (λ (b : board.Seen). b.flushed) fresh }) (ap (λ (b : board.Seen). b.how) fresh) c.in_ok-new.ensures.terms c.in_ok-new.ensures.begins c.in_ok-new.ensures.dealt
    (λ none calls on. first_agreed_none _ _ calls _ (c.in_ok-extents.ensures.none none) on)
    (met_alike _ start told c.args.terms met (subst (λ (s : Seen). AreQuiet s.held) (sym c.self.view_is) c.requires.quiet) (subst (λ (s : Seen). AllSame c.args.terms.sides (length s.held) s.held) (sym c.self.view_is) c.requires.same)) c.in_ok-new.ensures.job
    (may_go _ _ (met_may _ start told c.args.terms c.in_ok-new.field-0 c.in_ok-extents.extents met (subst (λ (s : Seen). AreQuiet s.held) (sym c.self.view_is) c.requires.quiet) (subst (λ (s : Seen). AllSame c.args.terms.sides (length s.held) s.held) (sym c.self.view_is) c.requires.same) c.in_ok-new.ensures.terms c.in_ok-extents.ensures.some c.in_ok-new.ensures.wanted (subst (λ (s : Seen). length s.held ≡ c.args.terms.sides.source + c.args.terms.sides.destination) (sym c.self.view_is) c.requires.many))))

pub act-requires-clause-job : goal.act-requires-clause-job
act-requires-clause-job c =
    let fresh = c.replace.ensures.after ∙ c.new.ensures in
    let met = subst (λ (s : Seen). HasMet s c.requires.met.start c.requires.met.told c.args.terms) (sym c.self.view_is) c.requires.met.met in
    record {
      job = c.in_ok-new.field-0;
      there = refl;
      writes = ap (λ (b : board.Seen). b.how) fresh ∙ sym (ap (λ (t : Terms). t.how) c.in_ok-new.ensures.terms);
      well = ap (λ (b : board.Seen). b.error) fresh;
      may = may_go _ _ (met_may _ c.requires.met.start c.requires.met.told c.args.terms c.in_ok-new.field-0 c.in_ok-extents.extents met (subst (λ (s : Seen). AreQuiet s.held) (sym c.self.view_is) c.requires.quiet) (subst (λ (s : Seen). AllSame c.args.terms.sides (length s.held) s.held) (sym c.self.view_is) c.requires.same) c.in_ok-new.ensures.terms c.in_ok-extents.ensures.some c.in_ok-new.ensures.wanted (subst (λ (s : Seen). length s.held ≡ c.args.terms.sides.source + c.args.terms.sides.destination) (sym c.self.view_is) c.requires.many));
      spread = begins_dealt c.in_ok-new.field-0 c.args.terms c.replace.new.dest c.in_ok-new.ensures.terms (ap (λ (b : board.Seen). b.rows) fresh) c.in_ok-new.ensures.dealt;
      fit = begins_fit c.in_ok-new.field-0 c.replace.new.dest (ap (λ (b : board.Seen). b.rows) fresh);
    }

pub new-requires-2-clause-some : goal.new-requires-2-clause-some
new-requires-2-clause-some c = sides_some _ c.requires.met.start c.requires.met.told c.args.terms c.requires.met.met

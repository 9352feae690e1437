use Rattle.std.proofs.Common.{ℕ, ap, sym, subst, ◌∙◌, arith, refl}
use Rattle.lnbd_conduct.specs.declared.terms.Terms.{Terms}
use Rattle.lnbd_copy.specs.Agreed.{IsWished}
use Rattle.lnbd_copy.proofs.CauseLemmas.{goes_then}
use Rattle.lnbd_touched.specs.Grown.{Grew}
use Rattle.lnbd_touched.specs.Parts.{IsShort}
use Rattle.lnbd_touched.specs.Touches.{Touches}
use Rattle.lnbd_touched.proofs.GrownLemmas.{grew_both, grew_none}
use Rattle.lnbd_copyfile.specs.FromFile.{Seen, stop_by}
use Rattle.lnbd_copyfile.specs.Linked.{UsesOn}
use Rattle.lnbd_copyfile.proofs.LinkClauses.{told_on, within_told}
use Rattle.lnbd_copyfile.specs.OneFile.{BreaksReading, Reads}
use Rattle.lnbd_copyfile.proofs.FromFileLemmas.{kept_then}
use Rattle.lnbd_copyfile.proofs.OneFileLemmas.{breaks_reading_behind, reads_on}
use Rattle.lnbd_copyfile.proofs.SendingLemmas.{told_short}
use Rattle.lnbd_copyfile.proofs.from_file.FromFile.carry_out.Goals as goal
use Rattle.lnbd_conduct.specs.Told.{Told}
use Rattle.lnbd_copyfile.specs.Given.{AsksOn}
use Rattle.lnbd_copyfile.proofs.GivenLemmas.{began_on, on_behaves, unasked_behaves}
use Rattle.lnbd_copyfile.proofs.ShareFromLemmas.{shared_ends, shared_so, shared_steps}
use Rattle.lnbd_copyfile.specs.SharingFrom.{Not_settled}
use Rattle.lnbd_copyfile.proofs.ShownLemmas.{shown_later}
use Rattle.lnbd_copyfile.proofs.FromFilePauseLemmas.{unready_full_from}

pub turns-preserved : goal.turns-preserved
turns-preserved g c =
    let inv = c.turns.invariant in
    let went = c.in-Ok-None.ensures in
    let file = c.args.source.file in
    record {
      uses = told_on _ _ _ _ _ _ _ _ _ _ _ _ c.turns.invariant.uses
          (subst (λ (n : ℕ). UsesOn n c.turns.self.held (g.W.Wires.told c.turns.wires) (g.W.Wires.idles c.turns.wires) c.step.new.self.held (g.W.Wires.told c.step.new.wires) (g.W.Wires.idles
          c.step.new.wires)) (ap (λ (s : Seen). s.start.idles) c.turns.invariant.kept) c.step.ensures.uses);
      kept = kept_then c.args.self.now c.turns.self c.step.new.self inv.kept c.step.ensures.kept;
      runs = went.runs;
      going = went.on.on c.args.to.now _ _ _ inv.going;
      shared = shared_steps c.args.self.now.options c.args.to.now _ _ _ _ _ _ _ c.step.ensures.shares went.sharing inv.shared;
      full = went.full.on c.args.self.now.options c.args.to.now _ _ _ inv.full;
      size = ap (λ (t : Terms). t.size) c.step.ensures.terms ∙ inv.size;
      wished = subst (λ (t : Terms). IsWished c.args.self.now.options t) (sym c.step.ensures.terms) inv.wished;
      counts = goes_then _ _ _ _ _ _ _ _ _ inv.counts c.step.ensures.counts;
      reads = grew_both _ _ _ (Reads file) (Reads file) (Reads file) (λ xs ys p q. reads_on file xs ys p q) inv.reads went.reads;
      later = (let f = inv.later in let h = c.step.ensures.later in omega (arith, f, h));
      taken = c.step.ensures.taken ∙ inv.taken;
      asked = subst (λ (t : Terms). Told (g.W.Wires.told c.args.wires.now) (g.W.Wires.told c.step.new.wires) (AsksOn t c.args.to.now)) (sym c.step.ensures.terms)
          (c.step.ensures.asks.on c.args.to.now _ _ _ inv.going inv.asked);
      shown = shown_later c.args.self.now.options c.args.source.size c.args.to.now _ _ _ c.turns.job.terms c.step.new.job.terms c.step.ensures.terms c.step.ensures.uses.links.lasts inv.shown;
    }

pub returns-in-Ok-Some-clause-copies : goal.returns-in-Ok-Some-clause-copies
returns-in-Ok-Some-clause-copies g c =
    let inv = c.turns.invariant in
    record {
      job = c.step.new.job;
      copy = c.step.new.self;
      size_ = ap (λ (t : Terms). t.size) c.step.ensures.terms ∙ inv.size;
      few = c.requires.size;
      wished = subst (λ (t : Terms). IsWished c.args.self.now.options t) (sym c.step.ensures.terms) inv.wished;
      going = c.in-Ok-Some.ensures.on.on c.args.to.now _ _ _ inv.going;
      ended = rw c.in-Ok-Some.field-0-is at c.in-Ok-Some.ensures.ended;
      shown = shown_later c.args.self.now.options c.args.source.size c.args.to.now _ _ _ c.turns.job.terms c.step.new.job.terms c.step.ensures.terms c.step.ensures.uses.links.lasts inv.shown;
    }

pub returns-in-Ok-Some-clause-reads : goal.returns-in-Ok-Some-clause-reads
returns-in-Ok-Some-clause-reads g c =
    let file = c.args.source.file in
    grew_both _ _ _ (Reads file) (Reads file) (Reads file) (λ xs ys p q. reads_on file xs ys p q) c.turns.invariant.reads c.in-Ok-Some.ensures.reads

pub returns-in-Err-step-clause-breaks : goal.returns-in-Err-step-clause-breaks
returns-in-Err-step-clause-breaks g c =
    let why = stop_by c.in-Err-step.why in
    let source = c.args.source in
    grew_both _ _ _ (Reads source.file) (BreaksReading source.file source.size why) (BreaksReading source.file source.size why)
    (λ xs ys p q. breaks_reading_behind source.file source.size why xs ys p q) c.turns.invariant.reads
    (subst (λ (n : ℕ). Grew (g.S.Store.told c.turns.store) (g.S.Store.told c.step.new.store) (BreaksReading source.file n why)) c.turns.invariant.size c.in-Err-step.ensures.breaks)

pub returns-in-Err-step-clause-short : goal.returns-in-Err-step-clause-short
returns-in-Err-step-clause-short g c = λ changed.
    let source = c.args.source in
    told_short source.file source.size _ _ _ _ _ c.turns.invariant.going.touched
    (subst (λ (n : ℕ). Touches source.file (IsShort n) (g.S.Store.shelf c.turns.store) (g.S.Store.shelf c.step.new.store)) c.turns.invariant.size (c.in-Err-step.ensures.short changed))

pub returns-in-Err-clause-shares : goal.returns-in-Err-clause-shares
returns-in-Err-clause-shares g c = Not_settled c.begin.ensures.few

pub returns-in-Ok-Some-clause-shares : goal.returns-in-Ok-Some-clause-shares
returns-in-Ok-Some-clause-shares g c = shared_ends c.args.self.now.options c.args.to.now _ _ _ _ _ c.step.ensures.shares c.turns.invariant.shared

pub returns-in-Err-step-clause-shares : goal.returns-in-Err-step-clause-shares
returns-in-Err-step-clause-shares g c = shared_ends c.args.self.now.options c.args.to.now _ _ _ _ _ c.step.ensures.shares c.turns.invariant.shared

pub returns-clause-shares : goal.returns-clause-shares
returns-clause-shares g c = shared_so c.args.self.now.options c.args.to.now _ _ _ _ c.turns.invariant.shared

pub returns-in-Err-clause-behaves : goal.returns-in-Err-clause-behaves
returns-in-Err-clause-behaves g c = unasked_behaves c.args.self.now.options c.args.source.size c.args.to.now _ _ c.begin.ensures.unasked

pub returns-in-Ok-Some-clause-behaves : goal.returns-in-Ok-Some-clause-behaves
returns-in-Ok-Some-clause-behaves g c =
    let inv = c.turns.invariant in
    on_behaves c.args.self.now.options c.turns.job.terms c.args.source.size c.args.to.now _ _ inv.wished inv.size
    (shown_later c.args.self.now.options c.args.source.size c.args.to.now _ _ _ c.turns.job.terms c.turns.job.terms refl c.step.ensures.uses.links.lasts inv.shown) (c.step.ensures.asks.on c.args.to.now _ _ _ inv.going inv.asked)

pub returns-in-Err-step-clause-behaves : goal.returns-in-Err-step-clause-behaves
returns-in-Err-step-clause-behaves g c =
    let inv = c.turns.invariant in
    on_behaves c.args.self.now.options c.turns.job.terms c.args.source.size c.args.to.now _ _ inv.wished inv.size
    (shown_later c.args.self.now.options c.args.source.size c.args.to.now _ _ _ c.turns.job.terms c.turns.job.terms refl c.step.ensures.uses.links.lasts inv.shown) (c.step.ensures.asks.on c.args.to.now _ _ _ inv.going inv.asked)

pub returns-clause-behaves : goal.returns-clause-behaves
returns-clause-behaves g c =
    let inv = c.turns.invariant in
    on_behaves c.args.self.now.options c.turns.job.terms c.args.source.size c.args.to.now _ _ inv.wished inv.size inv.shown inv.asked

pub returns-in-Ok-Some-clause-connects : goal.returns-in-Ok-Some-clause-connects
returns-in-Ok-Some-clause-connects g c =
    told_on _ _ _ _ _ _ _ _ _ _ _ _ c.turns.invariant.uses
    (subst (λ (n : ℕ). UsesOn n c.turns.self.held (g.W.Wires.told c.turns.wires) (g.W.Wires.idles c.turns.wires) c.step.new.self.held (g.W.Wires.told c.step.new.wires) (g.W.Wires.idles
    c.step.new.wires)) (ap (λ (s : Seen). s.start.idles) c.turns.invariant.kept) c.step.ensures.uses)

pub returns-in-Ok-Some-clause-within : goal.returns-in-Ok-Some-clause-within
returns-in-Ok-Some-clause-within g c =
    within_told _ _ _ _ _ _ _ _ _ (told_on _ _ _ _ _ _ _ _ _ _ _ _ c.turns.invariant.uses
    (subst (λ (n : ℕ). UsesOn n c.turns.self.held (g.W.Wires.told c.turns.wires) (g.W.Wires.idles c.turns.wires) c.step.new.self.held (g.W.Wires.told c.step.new.wires) (g.W.Wires.idles
    c.step.new.wires)) (ap (λ (s : Seen). s.start.idles) c.turns.invariant.kept) c.step.ensures.uses))

pub returns-in-Err-step-clause-within : goal.returns-in-Err-step-clause-within
returns-in-Err-step-clause-within g c =
    within_told _ _ _ _ _ _ _ _ _ (told_on _ _ _ _ _ _ _ _ _ _ _ _ c.turns.invariant.uses
    (subst (λ (n : ℕ). UsesOn n c.turns.self.held (g.W.Wires.told c.turns.wires) (g.W.Wires.idles c.turns.wires) c.step.new.self.held (g.W.Wires.told c.step.new.wires) (g.W.Wires.idles
    c.step.new.wires)) (ap (λ (s : Seen). s.start.idles) c.turns.invariant.kept) c.step.ensures.uses))

pub returns-clause-within : goal.returns-clause-within
returns-clause-within g c = within_told _ _ _ _ _ _ _ _ _ c.turns.invariant.uses

pub returns-in-Ok-Some-clause-counts : goal.returns-in-Ok-Some-clause-counts
returns-in-Ok-Some-clause-counts g c = goes_then _ _ _ _ _ _ _ _ _ c.turns.invariant.counts c.step.ensures.counts

pub returns-in-Err-step-clause-counts : goal.returns-in-Err-step-clause-counts
returns-in-Err-step-clause-counts g c = goes_then _ _ _ _ _ _ _ _ _ c.turns.invariant.counts c.step.ensures.counts

pub turns-init : goal.turns-init
turns-init g c = record {
  uses = c.in-Ok.ensures.connects;
  shared = c.in-Ok.ensures.shares;
  kept = c.begin.ensures.kept;
  runs = c.in-Ok.ensures.runs;
  going = c.in-Ok.ensures.begins c.args.source.file _ _;
  full = c.in-Ok.ensures.full c.args.source.file _ _;
  size = c.in-Ok.ensures.size;
  wished = c.in-Ok.ensures.wished;
  counts = c.begin.ensures.counts;
  reads = grew_none _ (Reads c.args.source.file) tt;
  later = omega arith;
  taken = refl;
  asked = began_on c.in-Ok.job.terms c.args.to.now _ _ c.begin.ensures.unasked;
  shown = c.in-Ok.ensures.shows;
}

pub returns-in-Err-clause-full : goal.returns-in-Err-clause-full
returns-in-Err-clause-full g c = unready_full_from c.args.self.now.options c.args.to.now _ _ c.begin.ensures.unready

pub returns-in-Ok-Some-clause-full : goal.returns-in-Ok-Some-clause-full
returns-in-Ok-Some-clause-full g c = c.step.ensures.pauses.on c.args.self.now.options c.args.to.now _ _ _ c.turns.invariant.full

pub returns-in-Err-step-clause-full : goal.returns-in-Err-step-clause-full
returns-in-Err-step-clause-full g c = c.step.ensures.pauses.on c.args.self.now.options c.args.to.now _ _ _ c.turns.invariant.full

pub returns-clause-full : goal.returns-clause-full
returns-clause-full g c = c.turns.invariant.full.pauses

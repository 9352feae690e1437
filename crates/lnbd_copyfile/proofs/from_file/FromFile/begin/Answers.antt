use Rattle.std.proofs.Common.{List, ◌∙◌, ◌+◌, ◌-◌, ℕ, false, true, refl, replicate, ap, sym, subst}
use Rattle.lnbd_poll.specs.Held.{Held}
use Rattle.lnbd_board.specs.declared.ticket.Ticket.{Ticket}
use Rattle.lnbd_copy.proofs.CauseLemmas.{goes_then}
use Rattle.lnbd_connections.specs.Uses.{Uses, UsesTo}
use Rattle.lnbd_connections.proofs.UseLemmas.{uses_none}
use Rattle.lnbd_copyfile.specs.FromFile.{Seen}
use Rattle.lnbd_copyfile.specs.Linked.{UsesAsTold, UsesWithin}
use Rattle.lnbd_copyfile.proofs.LinkClauses.{as_told, settled_on, told_then, within_first, within_more, within_then, within_told}
use Rattle.lnbd_copyfile.proofs.from_file.FromFile.begin.Goals as goal
use Rattle.lnbd_copyfile.proofs.ShareFromLemmas.{shared_first}
use Rattle.lnbd_connections.proofs.FewLemmas.{few_then}
use Rattle.lnbd_copyfile.proofs.ShownLemmas.{shown_later}
use Rattle.lnbd_copyfile.proofs.FromFilePauseLemmas.{full_begun, terms_last}
use Rattle.lnbd_copyfile.specs.ToFilePauses.{HoldsAll}
use Rattle.lnbd_copyfile.proofs.ToFilePauseLemmas.{holds_first}

pub returns-clause-counts : goal.returns-clause-counts
returns-clause-counts g c = goes_then _ _ _ _ _ _ _ _ _ c.meet.ensures.counts c.join.ensures.counts

pub returns-clause-shares : goal.returns-clause-shares
returns-clause-shares g c =
    let told = g.W.Wires.told c.args.wires.now in
    let met = c.in_ok-terms.ensures.met in
    let have = c.in_ok-terms.ensures.opens in
    shared_first c.args.self.now.options c.args.to.now c.in_ok-terms.terms told _ _ c.in_ok-job.job _ c.meet.ensures.few (c.join.ensures.few told met) c.in_ok-terms.ensures.settles
    (c.in_ok-job.ensures.shares c.args.to.now told _ (c.in_ok-join.ensures.on told met) (c.in_ok-join.ensures.opens told met have))

pub returns-in_err-terms-clause-few : goal.returns-in_err-terms-clause-few
returns-in_err-terms-clause-few g c = c.meet.ensures.few

pub returns-in_err-join-clause-few : goal.returns-in_err-join-clause-few
returns-in_err-join-clause-few g c =
    few_then 0 (g.W.Wires.told c.args.wires.now) _ _ _ c.meet.ensures.few (c.join.ensures.few (g.W.Wires.told c.args.wires.now) c.in_ok-terms.ensures.met)

pub returns-in_err-job-clause-few : goal.returns-in_err-job-clause-few
returns-in_err-job-clause-few g c =
    few_then 0 (g.W.Wires.told c.args.wires.now) _ _ _ c.meet.ensures.few (c.join.ensures.few (g.W.Wires.told c.args.wires.now) c.in_ok-terms.ensures.met)

pub returns-clause-few : goal.returns-clause-few
returns-clause-few g c =
    few_then 0 (g.W.Wires.told c.args.wires.now) _ _ _ c.meet.ensures.few (c.join.ensures.few (g.W.Wires.told c.args.wires.now) c.in_ok-terms.ensures.met)

pub returns-clause-unasked : goal.returns-clause-unasked
returns-clause-unasked g c = c.join.ensures.unasked _ c.in_ok-terms.ensures.met c.in_ok-terms.ensures.well c.meet.ensures.unasked

pub returns-in_err-job-clause-unasked : goal.returns-in_err-job-clause-unasked
returns-in_err-job-clause-unasked g c = c.join.ensures.unasked _ c.in_ok-terms.ensures.met c.in_ok-terms.ensures.well c.meet.ensures.unasked

pub returns-in_err-join-clause-unasked : goal.returns-in_err-join-clause-unasked
returns-in_err-join-clause-unasked g c = c.join.ensures.unasked _ c.in_ok-terms.ensures.met c.in_ok-terms.ensures.well c.meet.ensures.unasked

pub returns-in_err-terms-clause-within : goal.returns-in_err-terms-clause-within
returns-in_err-terms-clause-within g c = within_first _ _ _ _ _ _ _ _ _ c.meet.ensures.links

pub returns-in_err-join-clause-within : goal.returns-in_err-join-clause-within
returns-in_err-join-clause-within g c =
    within_more _ _ _ c.in_ok-terms.terms.sides.destination _ _ _ _ _ _ _ _ _ (settled_on _ _ _ _ c.args.self.now.options c.args.to.now (g.W.Wires.told c.args.wires.now) _
    c.in_ok-terms.terms.sides.destination refl c.in_ok-terms.ensures.many c.in_ok-terms.ensures.met.made.on) c.in_ok-terms.ensures.connects
    (subst (λ (n : ℕ). UsesTo true n (replicate (c.in_ok-terms.terms.sides.destination - 1) c.args.to.now.to) c.meet.new.self.held (g.W.Wires.told c.meet.new.wires) (g.W.Wires.idles
    c.meet.new.wires) c.join.new.self.held (g.W.Wires.told c.join.new.wires) (g.W.Wires.idles c.join.new.wires)) (ap (λ (s
    : Seen). s.start.idles) c.meet.ensures.kept) (c.join.ensures.links c.in_ok-terms.ensures.met.made.stand))

pub returns-in_err-job-clause-within : goal.returns-in_err-job-clause-within
returns-in_err-job-clause-within g c =
    subst (λ (h : List (Held Ticket)). UsesWithin c.args.self.now.start.idles c.args.self.now.options c.args.to.now c.args.self.now.held (g.W.Wires.told c.args.wires.now) (g.W.Wires.idles
    c.args.wires.now) h (g.W.Wires.told c.join.new.wires) (g.W.Wires.idles c.join.new.wires)) (sym (ap (λ (s : Seen). s.held) c.set_up.ensures.kept))
    (within_then _ _ _ _ _ _ _ _ _ _ _ _ (as_told _ _ _ c.in_ok-terms.terms.sides.destination _ _ _ _ _ _ _ _ _ (settled_on _ _ _ _ c.args.self.now.options c.args.to.now (g.W.Wires.told
    c.args.wires.now) _ c.in_ok-terms.terms.sides.destination refl c.in_ok-terms.ensures.many c.in_ok-terms.ensures.met.made.on) c.in_ok-terms.ensures.connects
    (subst (λ (n : ℕ). Uses false n (replicate (c.in_ok-terms.terms.sides.destination - 1) c.args.to.now.to) c.meet.new.self.held (g.W.Wires.told c.meet.new.wires) (g.W.Wires.idles
    c.meet.new.wires) c.join.new.self.held (g.W.Wires.told c.join.new.wires) (g.W.Wires.idles c.join.new.wires)) (ap (λ (s
    : Seen). s.start.idles) c.meet.ensures.kept) (c.in_ok-join.ensures.connects c.in_ok-terms.ensures.met.made.stand)) c.in_ok-terms.ensures.connected
    (c.in_ok-join.ensures.connected c.in_ok-terms.ensures.met.made.stand)) (uses_none true _ _ _ _))

pub returns-clause-connects : goal.returns-clause-connects
returns-clause-connects g c =
    subst (λ (h : List (Held Ticket)). UsesAsTold true c.args.self.now.start.idles c.args.self.now.options c.args.to.now c.args.self.now.held (g.W.Wires.told c.args.wires.now) (g.W.Wires.idles
    c.args.wires.now) h (g.W.Wires.told c.join.new.wires) (g.W.Wires.idles c.join.new.wires)) (sym (ap (λ (s : Seen). s.held) c.set_up.ensures.kept))
    (told_then true _ _ _ _ _ _ _ _ _ _ _ _ (as_told _ _ _ c.in_ok-terms.terms.sides.destination _ _ _ _ _ _ _ _ _ (settled_on _ _ _ _ c.args.self.now.options c.args.to.now (g.W.Wires.told
    c.args.wires.now) _ c.in_ok-terms.terms.sides.destination refl c.in_ok-terms.ensures.many c.in_ok-terms.ensures.met.made.on) c.in_ok-terms.ensures.connects
    (subst (λ (n : ℕ). Uses false n (replicate (c.in_ok-terms.terms.sides.destination - 1) c.args.to.now.to) c.meet.new.self.held (g.W.Wires.told c.meet.new.wires) (g.W.Wires.idles
    c.meet.new.wires) c.join.new.self.held (g.W.Wires.told c.join.new.wires) (g.W.Wires.idles c.join.new.wires)) (ap (λ (s
    : Seen). s.start.idles) c.meet.ensures.kept) (c.in_ok-join.ensures.connects c.in_ok-terms.ensures.met.made.stand)) c.in_ok-terms.ensures.connected
    (c.in_ok-join.ensures.connected c.in_ok-terms.ensures.met.made.stand)) (uses_none true _ _ _ _))

pub returns-clause-within : goal.returns-clause-within
returns-clause-within g c = within_told _ _ _ _ _ _ _ _ _ (returns-clause-connects g c)

pub returns-clause-shows : goal.returns-clause-shows
returns-clause-shows g c =
    shown_later c.args.self.now.options c.args.size c.args.to.now _ _ _ c.in_ok-terms.terms c.in_ok-job.job.terms c.in_ok-job.ensures.terms
    (c.join.ensures.links c.in_ok-terms.ensures.met.made.stand).uses.links.lasts c.in_ok-terms.ensures.shows

pub returns-in_err-join-clause-counts : goal.returns-in_err-join-clause-counts
returns-in_err-join-clause-counts g c = goes_then _ _ _ _ _ _ _ _ _ c.meet.ensures.counts c.join.ensures.counts

pub returns-in_err-job-clause-counts : goal.returns-in_err-job-clause-counts
returns-in_err-job-clause-counts g c = goes_then _ _ _ _ _ _ _ _ _ c.meet.ensures.counts c.join.ensures.counts

pub returns-clause-begins : goal.returns-clause-begins
returns-clause-begins g c file shelf given =
    let told = g.W.Wires.told c.args.wires.now in
    c.in_ok-job.ensures.begins c.args.to.now file told _ shelf given (c.in_ok-join.ensures.on told c.in_ok-terms.ensures.met)

pub returns-clause-runs : goal.returns-clause-runs
returns-clause-runs g c =
    let told = g.W.Wires.told c.args.wires.now in
    c.in_ok-job.ensures.runs c.args.to.now told _ (c.in_ok-join.ensures.on told c.in_ok-terms.ensures.met)

pub returns-in_err-join-clause-unready : goal.returns-in_err-join-clause-unready
returns-in_err-join-clause-unready g c = c.join.ensures.unready _ c.in_ok-terms.ensures.awaits

pub returns-in_err-job-clause-unready : goal.returns-in_err-job-clause-unready
returns-in_err-job-clause-unready g c = c.join.ensures.unready _ c.in_ok-terms.ensures.awaits

pub returns-clause-unready : goal.returns-clause-unready
returns-clause-unready g c = c.join.ensures.unready _ c.in_ok-terms.ensures.awaits

pub returns-clause-full : goal.returns-clause-full
returns-clause-full g c = λ file shelf given.
    let options = c.args.self.now.options in
    let to = c.args.to.now in
    let more : ℕ = c.in_ok-terms.terms.sides.destination - 1 in
    let stand = c.in_ok-terms.ensures.met.made.stand in
    let further = subst (λ (n : ℕ). Uses false n (replicate (c.in_ok-terms.terms.sides.destination - 1) c.args.to.now.to) c.meet.new.self.held (g.W.Wires.told c.meet.new.wires) (g.W.Wires.idles
    c.meet.new.wires) c.join.new.self.held (g.W.Wires.told c.join.new.wires) (g.W.Wires.idles c.join.new.wires)) (ap (λ (s
    : Seen). s.start.idles) c.meet.ensures.kept) (c.in_ok-join.ensures.connects stand) in
    full_begun options file to _ _ c.in_ok-job.job c.set_up.new.self shelf given (returns-clause-begins g c file shelf given)
    (subst (λ (h : List (Held Ticket)). HoldsAll (g.W.Wires.told c.args.wires.now) (g.W.Wires.told c.join.new.wires) h) (sym (ap (λ (s : Seen). s.held) c.set_up.ensures.kept))
    (holds_first c.args.self.now.start.idles more to.to c.args.self.now.held c.meet.new.self.held c.join.new.self.held _ _ _ _ _ _ c.requires.begun.held c.in_ok-terms.ensures.connects further
    (c.in_ok-join.ensures.many stand ∙ ap (λ (n : ℕ). n + more) c.in_ok-terms.ensures.one)))
    c.in_ok-job.ensures.fresh.1
    (terms_last options to _ _ _ c.in_ok-terms.terms c.in_ok-job.job.terms (c.join.ensures.links stand).uses.links.lasts c.in_ok-job.ensures.terms c.in_ok-terms.ensures.settles)
    c.in_ok-job.ensures.fresh.0 (returns-clause-unready g c)

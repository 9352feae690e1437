use Rattle.std.proofs.Common.{◌<◌, ◌≤◌, true, false, List, Option, arith, refl, ap, sym, subst, ◌∙◌}
use Rattle.lnbd_poll.specs.Held.{wants_now}
use Rattle.lnbd_link.specs.Call.{Call}
use Rattle.lnbd_copy.specs.Copier.{IsOnItsWay, Seen}
use Rattle.lnbd_conduct.specs.Changes.{Behaves}
use Rattle.lnbd_conduct.specs.Told.{Told}
use Rattle.lnbd_copy.proofs.CauseLemmas.{goes_as, goes_then}
use Rattle.lnbd_copy.proofs.EndedLemmas.{ends_well}
use Rattle.lnbd_copy.proofs.EndLemmas.{all_then, finished_on, moved_on, rested, still_on}
use Rattle.lnbd_copy.proofs.FaultLemmas.{behaves_idly, fair_on}
use Rattle.lnbd_copy.proofs.FlushLemmas.{flushed_on}
use Rattle.lnbd_copy.proofs.PauseLemmas.{pauses_unpaused, told_same}
use Rattle.lnbd_copy.proofs.SummedLemmas.{summed_on}
use Rattle.lnbd_copy.proofs.GroundLemmas.{grounded_as, handed_on}
use Rattle.lnbd_copy.proofs.AccountLemmas.{KeepsAccounts, accounts_open, accounts_rest, accounts_turn, fairly_held, fairly_open, fairly_turn, keeps_fairly, way_bears_out}
use Rattle.lnbd_copy.proofs.PausedLemmas.{IsFine, fine_open, fine_rest, fine_turn, fine_held, told_stays, waits_rest, wants_rest}
use Rattle.lnbd_copy.proofs.ConnectLemmas.{told_end, within_told}
use Rattle.lnbd_copy.proofs.LinkLemmas.{links_as, links_begin, links_then}
use Rattle.lnbd_copy.proofs.LittleLemmas.{little_begins, little_rests}
use Rattle.lnbd_copy.proofs.UnaskedLemmas.{told_behaves}
use Rattle.lnbd_copy.proofs.TriedLemmas.{left_any, left_none, left_rests, left_tried, left_turned}
use Rattle.lnbd_copy.proofs.VainLemmas.{pauses_empty, pauses_full}
use Rattle.lnbd_copy.proofs.copier.Copier.copy.Goals.{in-Moved, in-Still+in_ok-rest-in-Still}
use Rattle.lnbd_copy.proofs.DrivingLemmas.{drives_none}
use Rattle.lnbd_copy.proofs.DecidingLemmas.{decided_all, rests_decided}
use Rattle.lnbd_copy.proofs.DrivenAsLemmas.{driven_as, driven_idly, way_driven}
use Rattle.std.proofs.lemmas.Bool.{false≢true}
use Rattle.lnbd_link.specs.Count.{patience}
use Rattle.lnbd_copy.specs.declared.counts.Counts.{Counts}
use Rattle.lnbd_copy.proofs.PatientLemmas.{always_if_err, few_stay, looked_decided, patient_at, unrisen_at, waited_any, waited_as, waited_less, waited_looked, waited_on, waited_within}
use Rattle.lnbd_copy.specs.Awaiting.{AwaitsAll}
use Rattle.lnbd_copy.proofs.PaceLemmas.{pace_keeps, pace_moves, pace_rests, pace_tires}
use Rattle.lnbd_copy.proofs.PaceMeets.{rest_awaits}
use Rattle.lnbd_copy.proofs.PaceTurns.{way_taken}
use Rattle.lnbd_copy.proofs.copier.Copier.copy.Goals as goal

pub turns-preserved : goal.turns-preserved
turns-preserved g c =
    let start = g.W.Wires.told c.args.wires.now in
    let turn = c.in_ok-turn.ensures in
    let was = c.turns.invariant in
    let well = unrisen_at _ _ _ (ap (λ (counts : Counts). counts.idles) was.start) c.in_ok-check_patience.ensures.well in
    let waited = waited_on false _ _ _ start _ _ turn.unpaused turn.counts.idles (waited_looked true _ _ start _ well was.waited) in
    let turned = left_turned c.turns.self.held start _ _ (λ wanted since left. left) (turn.tries start was.on) was.tried in
    elim c.match-branch-4.branch [
      | in-Moved w ↦ record {
        start = ap (λ (s : Seen). s.start) w.self-is ∙ ap (λ (s : Seen). s.start) turn.kept ∙ was.start;
        kept = all_then c.args.self.now c.turns.self c.turn.new.self c.match-branch-4.self was.kept turn.kept w.self-is;
        on = subst (λ (s : Seen). IsOnItsWay start (g.W.Wires.told c.match-branch-4.wires) s) (sym w.self-is)
            (subst (λ (t : Option (List Call)). IsOnItsWay start t c.turn.new.self) (sym (ap g.W.Wires.told w.wires-is))
            (moved_on start _ c.turn.new.self c.in_ok-turn.field-0 _ w.in-Moved.is (turn.turns start was.on)));
        pauses = subst (λ (s : Seen). IsFine s start (g.W.Wires.told c.match-branch-4.wires)) (sym w.self-is)
            (subst (λ (t : Option (List Call)). IsFine c.turn.new.self start t) (sym (ap g.W.Wires.told w.wires-is)) (fine_turn c.turns.self c.turn.new.self start _ _ turn.kept turn.unpaused was.pauses));
        accounts = subst (λ (s : Seen). KeepsAccounts s start (g.W.Wires.told c.match-branch-4.wires)) (sym w.self-is)
            (subst (λ (t : Option (List Call)). KeepsAccounts c.turn.new.self start t) (sym (ap g.W.Wires.told w.wires-is)) (accounts_turn c.turns.self c.turn.new.self start _ _ turn.kept turn.unpaused turn.fewest was.on was.accounts));
        writes = told_same _ start _ _ (ap g.W.Wires.told w.wires-is) ((pauses_unpaused _ _ turn.unpaused).on start was.writes);
        connects = told_end _ _ _ _ _ _ _ _ _ was.connects (links_as _ _ _ _ _ _ _ (ap (λ (s : Seen). s.held) w.self-is) (ap g.W.Wires.told w.wires-is) turn.links);
        fair = λ two. subst (λ (t : Option (List Call)). Told start t (Behaves c.args.self.now.options c.args.self.now.from c.args.self.now.to)) (sym (ap g.W.Wires.told w.wires-is)) (fair_on c.args.self.now c.turns.self (g.W.Wires.told c.args.wires.now) _ _ c.turns.invariant.kept (c.turn.ensures.fair (g.W.Wires.told c.args.wires.now)) c.turns.invariant.on c.turns.invariant.fair two);
        waits = told_same _ start _ _ (ap g.W.Wires.told w.wires-is) (told_stays start _ _ turn.unpaused was.waits);
        counts = goes_as _ _ _ _ _ _ _ _ _ (ap g.W.Wires.faults w.wires-is) (ap g.W.Wires.idles w.wires-is) (ap g.W.Wires.contents w.wires-is) (goes_then _ _ _ _ _ _ _ _ _ was.counts turn.counts);
        reads = told_same _ start _ _ (ap g.W.Wires.told w.wires-is) (told_stays start _ _ turn.unpaused was.reads);
        wanted = told_same _ start _ _ (ap g.W.Wires.told w.wires-is) (told_stays start _ _ turn.unpaused was.wanted);
        little = told_same _ start _ _ (ap g.W.Wires.told w.wires-is) (told_stays start _ _ turn.unpaused was.little);
        wants_all = told_same _ start _ _ (ap g.W.Wires.told w.wires-is) (told_stays start _ _ turn.unpaused was.wants_all);
        waited = waited_as true _ _ _ start _ _ (ap g.W.Wires.told w.wires-is) (ap g.W.Wires.idles w.wires-is) (waited_any true _ _ start _ waited);
        paced = told_same _ start _ _ (ap g.W.Wires.told w.wires-is) (pace_moves start _ _ c.turns.self.held (turn.once start was.on) (turn.stirs _ w.in-Moved.is start was.awaits) (way_taken _ was.on.way c.turns.self.board c.turns.self.held start _ was.on.on) was.paced);
        awaits = subst (λ (s : Seen). Told start (g.W.Wires.told c.match-branch-4.wires) (λ calls. AwaitsAll s.job s.board)) (sym w.self-is)
            (told_same (λ calls. AwaitsAll c.turn.new.self.job c.turn.new.self.board) start _ _ (ap g.W.Wires.told w.wires-is) (turn.awaits start was.on));
        tried = told_same _ start _ _ (ap g.W.Wires.told w.wires-is) (left_none start _ (λ wanted since left. absurd left) turned);
      }
      | in-Still+in_ok-rest-in-Still w ↦
          let rest = w.in_ok-rest-in-Still.ensures in
          record {
            start = ap (λ (s : Seen). s.start) w.self-is ∙ ap (λ (s : Seen). s.start) rest.kept ∙ ap (λ (s : Seen). s.start) turn.kept ∙ was.start;
            kept = all_then c.args.self.now c.turns.self w.rest.new.self c.match-branch-4.self was.kept (rested c.turns.self c.turn.new.self w.rest.new.self turn.kept rest.kept) w.self-is;
            on = subst (λ (s : Seen). IsOnItsWay start (g.W.Wires.told c.match-branch-4.wires) s) (sym w.self-is)
                (subst (λ (t : Option (List Call)). IsOnItsWay start t w.rest.new.self) (sym (ap g.W.Wires.told w.wires-is))
                (rest.on start (still_on start _ c.turn.new.self c.in_ok-turn.field-0 w.in-Still.is (turn.turns start was.on))));
            pauses = subst (λ (s : Seen). IsFine s start (g.W.Wires.told c.match-branch-4.wires)) (sym w.self-is)
                (subst (λ (t : Option (List Call)). IsFine w.rest.new.self start t) (sym (ap g.W.Wires.told w.wires-is))
                (fine_rest c.turn.new.self w.rest.new.self start _ _ rest.kept rest.pauses (λ two. turn.under_way start was.on two) (fine_turn c.turns.self c.turn.new.self start _ _ turn.kept turn.unpaused was.pauses)));
            accounts = subst (λ (s : Seen). KeepsAccounts s start (g.W.Wires.told c.match-branch-4.wires)) (sym w.self-is)
                (subst (λ (t : Option (List Call)). KeepsAccounts w.rest.new.self start t) (sym (ap g.W.Wires.told w.wires-is))
                (accounts_rest c.turn.new.self w.rest.new.self start _ _ rest.kept rest.pauses (still_on start _ c.turn.new.self c.in_ok-turn.field-0 w.in-Still.is (turn.turns start was.on))
                (λ two none. way_bears_out c.turn.new.self start _ turn.busy (still_on start _ c.turn.new.self c.in_ok-turn.field-0 w.in-Still.is (turn.turns start was.on)) two none)
                (accounts_turn c.turns.self c.turn.new.self start _ _ turn.kept turn.unpaused turn.fewest was.on was.accounts)));
            writes = told_same _ start _ _ (ap g.W.Wires.told w.wires-is) ((pauses_full _ _ _ _ (turn.still w.in-Still.is) rest.pauses).on start was.writes);
            connects = told_end _ _ _ _ _ _ _ _ _ was.connects (links_as _ _ _ _ _ _ _ (ap (λ (s : Seen). s.held) w.self-is) (ap g.W.Wires.told w.wires-is) (links_then _ _ _ _ _ _ turn.links rest.links));
            fair = λ two. subst (λ (t : Option (List Call)). Told start t (Behaves c.args.self.now.options c.args.self.now.from c.args.self.now.to)) (sym (ap g.W.Wires.told w.wires-is)) (behaves_idly _ _ _ start _ _ w.rest.ensures.idly (fair_on c.args.self.now c.turns.self (g.W.Wires.told c.args.wires.now) _ _ c.turns.invariant.kept (c.turn.ensures.fair (g.W.Wires.told c.args.wires.now)) c.turns.invariant.on c.turns.invariant.fair two));
            waits = told_same _ start _ _ (ap g.W.Wires.told w.wires-is)
                (waits_rest c.turn.new.self start _ _ rest.unparted rest.pauses (still_on start _ c.turn.new.self c.in_ok-turn.field-0 w.in-Still.is (turn.turns start was.on)) (told_stays start _ _ turn.unpaused was.waits));
            counts = goes_as _ _ _ _ _ _ _ _ _ (ap g.W.Wires.faults w.wires-is) (ap g.W.Wires.idles w.wires-is) (ap g.W.Wires.contents w.wires-is)
                (goes_then _ _ _ _ _ _ _ _ _ was.counts (goes_then _ _ _ _ _ _ _ _ _ turn.counts rest.counts));
            reads = told_same _ start _ _ (ap g.W.Wires.told w.wires-is) ((pauses_empty _ _ _ _ (turn.still w.in-Still.is) rest.pauses).on start was.reads);
            wanted = told_same _ start _ _ (ap g.W.Wires.told w.wires-is) (rest.wanted.on start (told_stays start _ _ turn.unpaused was.wanted));
            little = told_same _ start _ _ (ap g.W.Wires.told w.wires-is)
                (little_rests c.args.self.now c.turn.new.self start _ _ (ap (λ (s : Seen). s.options.extents) turn.kept ∙ ap (λ (s : Seen). s.options.extents) was.kept) (ap (λ (s : Seen). s.from) turn.kept ∙ ap (λ (s : Seen). s.from) was.kept) (ap (λ (s : Seen). s.to) turn.kept ∙ ap (λ (s : Seen). s.to) was.kept) rest.pauses (turn.little start was.on) (told_stays start _ _ turn.unpaused was.little));
            wants_all = told_same _ start _ _ (ap g.W.Wires.told w.wires-is)
                (wants_rest c.args.self.now c.turn.new.self start _ _ (ap (λ (s : Seen). s.options.extents) turn.kept ∙ ap (λ (s : Seen). s.options.extents) was.kept) (ap (λ (s : Seen). s.from) turn.kept ∙ ap (λ (s : Seen). s.from) was.kept) (ap (λ (s : Seen). s.to) turn.kept ∙ ap (λ (s : Seen). s.to) was.kept) rest.pauses (still_on start _ c.turn.new.self c.in_ok-turn.field-0 w.in-Still.is (turn.turns start was.on))
                ((told_end _ _ _ _ _ _ _ _ _ was.connects turn.links).go.on start (links_begin _ start c.requires.held)) (told_stays start _ _ turn.unpaused was.wants_all));
            waited = waited_as true _ _ _ start _ _ (ap g.W.Wires.told w.wires-is) (ap g.W.Wires.idles w.wires-is)
                ((patient_at true _ _ _ _ _ _ (ap (λ (s : Seen). s.start.idles) turn.kept ∙ ap (λ (counts : Counts). counts.idles) was.start) rest.patient).on start waited);
            paced = told_same _ start _ _ (ap g.W.Wires.told w.wires-is) (pace_rests start _ _ _ rest.pauses (pace_tires start _ _ (turn.once start was.on) was.paced));
            awaits = subst (λ (s : Seen). Told start (g.W.Wires.told c.match-branch-4.wires) (λ calls. AwaitsAll s.job s.board)) (sym w.self-is)
                (told_same (λ calls. AwaitsAll w.rest.new.self.job w.rest.new.self.board) start _ _ (ap g.W.Wires.told w.wires-is) (rest_awaits c.turn.new.self w.rest.new.self start _ _ _ rest.kept rest.pauses (turn.awaits start was.on)));
            tried = told_same _ start _ _ (ap g.W.Wires.told w.wires-is)
                (left_rests start _ _ (wants_now c.turn.new.self.held) (record { none = refl; wants = sym (ap (λ (s : Seen). wants_now s.held) w.self-is ∙ ap wants_now rest.same) }) rest.pauses turned);
          }
    ]

pub turns-init : goal.turns-init
turns-init g c =
    let begun = c.in_ok-begin.ensures in
    record { start = begun.began; kept = begun.kept; on = begun.begins; pauses = fine_open c.args.self.now c.begin.new.self _ _ begun.kept begun.unready; accounts = accounts_open c.args.self.now c.begin.new.self _ _ begun.kept begun.unready begun.begins; writes = begun.writes; connects = begun.connects; fair = λ two. told_behaves _ _ _ _ _ c.begin.ensures.unasked; waits = begun.waits; counts = begun.counts; reads = begun.reads; wanted = begun.wanted; little = little_begins _ _ _ _ _ begun.little; wants_all = begun.wants_all; waited = waited_any true _ _ _ _ begun.patient; tried = left_none _ _ (λ wanted since left. absurd left) begun.tried; paced = begun.paced; awaits = begun.awaits }

pub turn-requires-clause-going : goal.turn-requires-clause-going
turn-requires-clause-going g c = record { start = g.W.Wires.told c.args.wires.now; on = c.turns.invariant.on }

pub returns-in-Finished-clause-done : goal.returns-in-Finished-clause-done
returns-in-Finished-clause-done g c = finished_on _ _ _ _ _ c.in-Finished.is (c.in_ok-turn.ensures.turns (g.W.Wires.told c.args.wires.now) c.turns.invariant.on)

pub returns-in-Finished-clause-pauses : goal.returns-in-Finished-clause-pauses
returns-in-Finished-clause-pauses g c = fine_turn c.turns.self c.turn.new.self (g.W.Wires.told c.args.wires.now) _ _ c.turn.ensures.kept c.turn.ensures.unpaused c.turns.invariant.pauses

pub returns-in-Finished-clause-fewest : goal.returns-in-Finished-clause-fewest
returns-in-Finished-clause-fewest g c =
    fairly_turn c.turns.self c.turn.new.self (g.W.Wires.told c.args.wires.now) _ _ c.turn.ensures.kept c.turn.ensures.unpaused (keeps_fairly c.turns.self _ _ c.turns.invariant.on c.turns.invariant.accounts)

pub returns-in-Finished-clause-sums : goal.returns-in-Finished-clause-sums
returns-in-Finished-clause-sums g c = summed_on _ _ c.turn.new.self c.in_ok-turn.field-0 _ c.in-Finished.is (c.in_ok-turn.ensures.sums (g.W.Wires.told c.args.wires.now) c.turns.invariant.on)

pub returns-in-Finished-clause-flushes : goal.returns-in-Finished-clause-flushes
returns-in-Finished-clause-flushes g c = flushed_on _ _ c.turn.new.self c.in_ok-turn.field-0 _ c.in-Finished.is (c.in_ok-turn.ensures.flushes (g.W.Wires.told c.args.wires.now) c.turns.invariant.on)

pub returns-in_err-turn-clause-grounds : goal.returns-in_err-turn-clause-grounds
returns-in_err-turn-clause-grounds g c =
    handed_on _ c.from_residual-in_err-turn.result _ c.from_residual-in_err-turn.ensures.1 (
    grounded_as (g.W.Wires.told c.args.wires.now) (g.W.Wires.told c.turn.new.wires) _ _ _ _ _ _ _ (ap (λ (s : Seen). s.options.extents) c.turns.invariant.kept) (ap (λ (s : Seen). s.from) c.turns.invariant.kept) (ap (λ (s : Seen). s.to) c.turns.invariant.kept)
    (c.in_err-turn.ensures.grounds (g.W.Wires.told c.args.wires.now) c.turns.invariant.on))

pub returns-in_err-rest-in-Still-clause-counts : goal.returns-in_err-rest-in-Still-clause-counts
returns-in_err-rest-in-Still-clause-counts g c = goes_then _ _ _ _ _ _ _ _ _ c.turns.invariant.counts (goes_then _ _ _ _ _ _ _ _ _ c.turn.ensures.counts c.rest.ensures.counts)

pub returns-in_err-turn-clause-counts : goal.returns-in_err-turn-clause-counts
returns-in_err-turn-clause-counts g c = goes_then _ _ _ _ _ _ _ _ _ c.turns.invariant.counts c.turn.ensures.counts

pub returns-in-Finished-clause-counts : goal.returns-in-Finished-clause-counts
returns-in-Finished-clause-counts g c = goes_then _ _ _ _ _ _ _ _ _ c.turns.invariant.counts c.turn.ensures.counts

pub returns-in-Finished-clause-writes : goal.returns-in-Finished-clause-writes
returns-in-Finished-clause-writes g c = (pauses_unpaused _ _ c.turn.ensures.unpaused).on (g.W.Wires.told c.args.wires.now) c.turns.invariant.writes

pub returns-in_err-turn-clause-links : goal.returns-in_err-turn-clause-links
returns-in_err-turn-clause-links g c =
    within_told _ _ _ _ _ _ _ (told_end _ _ _ _ _ _ _ _ _ c.turns.invariant.connects c.in_err-turn.ensures.links)

pub returns-in_err-rest-in-Still-clause-links : goal.returns-in_err-rest-in-Still-clause-links
returns-in_err-rest-in-Still-clause-links g c =
    within_told _ _ _ _ _ _ _ (told_end _ _ _ _ _ _ _ _ _ c.turns.invariant.connects (links_then _ _ _ _ _ _ c.turn.ensures.links c.rest.ensures.links))

pub returns-in-Finished-clause-links : goal.returns-in-Finished-clause-links
returns-in-Finished-clause-links g c =
    within_told _ _ _ _ _ _ _ (told_end _ _ _ _ _ _ _ _ _ c.turns.invariant.connects c.turn.ensures.links)

pub returns-in-Finished-clause-connects : goal.returns-in-Finished-clause-connects
returns-in-Finished-clause-connects g c =
    told_end _ _ _ _ _ _ _ _ _ c.turns.invariant.connects c.turn.ensures.links

pub returns-clause-links : goal.returns-clause-links
returns-clause-links g c =
    within_told _ _ _ _ _ _ _ c.turns.invariant.connects

pub returns-in_err-begin-clause-fair : goal.returns-in_err-begin-clause-fair
returns-in_err-begin-clause-fair g c two = told_behaves _ _ _ _ _ c.begin.ensures.unasked

pub returns-in_err-turn-clause-fair : goal.returns-in_err-turn-clause-fair
returns-in_err-turn-clause-fair g c two = fair_on c.args.self.now c.turns.self (g.W.Wires.told c.args.wires.now) _ _ c.turns.invariant.kept (c.turn.ensures.fair (g.W.Wires.told c.args.wires.now)) c.turns.invariant.on c.turns.invariant.fair two

pub returns-in_err-rest-in-Still-clause-fair : goal.returns-in_err-rest-in-Still-clause-fair
returns-in_err-rest-in-Still-clause-fair g c two = behaves_idly _ _ _ (g.W.Wires.told c.args.wires.now) _ _ c.rest.ensures.idly (fair_on c.args.self.now c.turns.self (g.W.Wires.told c.args.wires.now) _ _ c.turns.invariant.kept (c.turn.ensures.fair (g.W.Wires.told c.args.wires.now)) c.turns.invariant.on c.turns.invariant.fair two)

pub returns-clause-fair : goal.returns-clause-fair
returns-clause-fair g c two = c.turns.invariant.fair two

pub returns-in-Finished-clause-fair : goal.returns-in-Finished-clause-fair
returns-in-Finished-clause-fair g c two = fair_on c.args.self.now c.turns.self (g.W.Wires.told c.args.wires.now) _ _ c.turns.invariant.kept (c.turn.ensures.fair (g.W.Wires.told c.args.wires.now)) c.turns.invariant.on c.turns.invariant.fair two

pub returns-in_err-begin-clause-pauses : goal.returns-in_err-begin-clause-pauses
returns-in_err-begin-clause-pauses g c = fine_open c.args.self.now c.begin.new.self _ _ c.begin.ensures.kept c.begin.ensures.unready

pub returns-in_err-turn-clause-pauses : goal.returns-in_err-turn-clause-pauses
returns-in_err-turn-clause-pauses g c = fine_turn c.turns.self c.turn.new.self (g.W.Wires.told c.args.wires.now) _ _ c.turn.ensures.kept c.turn.ensures.unpaused c.turns.invariant.pauses

pub returns-in_err-begin-clause-fewest : goal.returns-in_err-begin-clause-fewest
returns-in_err-begin-clause-fewest g c = fairly_open c.args.self.now c.begin.new.self _ _ c.begin.ensures.kept c.begin.ensures.unready

pub returns-in_err-check_patience-clause-fewest : goal.returns-in_err-check_patience-clause-fewest
returns-in_err-check_patience-clause-fewest g c = keeps_fairly c.turns.self _ _ c.turns.invariant.on c.turns.invariant.accounts

pub returns-in_err-turn-clause-fewest : goal.returns-in_err-turn-clause-fewest
returns-in_err-turn-clause-fewest g c =
    fairly_turn c.turns.self c.turn.new.self (g.W.Wires.told c.args.wires.now) _ _ c.turn.ensures.kept c.turn.ensures.unpaused (keeps_fairly c.turns.self _ _ c.turns.invariant.on c.turns.invariant.accounts)

pub returns-in_err-rest-in-Still-clause-fewest : goal.returns-in_err-rest-in-Still-clause-fewest
returns-in_err-rest-in-Still-clause-fewest g c =
    fairly_held c.turn.new.self c.rest.new.self (g.W.Wires.told c.args.wires.now) _ _ c.rest.ensures.kept c.in_err-rest-in-Still.ensures.still
    (fairly_turn c.turns.self c.turn.new.self (g.W.Wires.told c.args.wires.now) _ _ c.turn.ensures.kept c.turn.ensures.unpaused (keeps_fairly c.turns.self _ _ c.turns.invariant.on c.turns.invariant.accounts))

pub returns-clause-fewest : goal.returns-clause-fewest
returns-clause-fewest g c = keeps_fairly c.turns.self _ _ c.turns.invariant.on c.turns.invariant.accounts

pub returns-in_err-turn-clause-writes : goal.returns-in_err-turn-clause-writes
returns-in_err-turn-clause-writes g c = (pauses_unpaused _ _ c.turn.ensures.unpaused).on (g.W.Wires.told c.args.wires.now) c.turns.invariant.writes

pub returns-in_err-rest-in-Still-clause-pauses : goal.returns-in_err-rest-in-Still-clause-pauses
returns-in_err-rest-in-Still-clause-pauses g c =
    fine_held c.turn.new.self c.rest.new.self (g.W.Wires.told c.args.wires.now) _ _ c.rest.ensures.kept c.in_err-rest-in-Still.ensures.still
    (fine_turn c.turns.self c.turn.new.self (g.W.Wires.told c.args.wires.now) _ _ c.turn.ensures.kept c.turn.ensures.unpaused c.turns.invariant.pauses)

pub returns-in_err-rest-in-Still-clause-writes : goal.returns-in_err-rest-in-Still-clause-writes
returns-in_err-rest-in-Still-clause-writes g c = told_same _ (g.W.Wires.told c.args.wires.now) _ _ c.in_err-rest-in-Still.ensures.still ((pauses_unpaused _ _ c.turn.ensures.unpaused).on (g.W.Wires.told c.args.wires.now) c.turns.invariant.writes)

pub returns-in-Finished-clause-waits : goal.returns-in-Finished-clause-waits
returns-in-Finished-clause-waits g c = told_stays (g.W.Wires.told c.args.wires.now) _ _ c.turn.ensures.unpaused c.turns.invariant.waits

pub returns-in_err-turn-clause-waits : goal.returns-in_err-turn-clause-waits
returns-in_err-turn-clause-waits g c = told_stays (g.W.Wires.told c.args.wires.now) _ _ c.turn.ensures.unpaused c.turns.invariant.waits

pub returns-in_err-rest-in-Still-clause-waits : goal.returns-in_err-rest-in-Still-clause-waits
returns-in_err-rest-in-Still-clause-waits g c = told_same _ (g.W.Wires.told c.args.wires.now) _ _ c.in_err-rest-in-Still.ensures.still (told_stays (g.W.Wires.told c.args.wires.now) _ _ c.turn.ensures.unpaused c.turns.invariant.waits)

pub returns-in-Finished-clause-reads : goal.returns-in-Finished-clause-reads
returns-in-Finished-clause-reads g c = told_stays (g.W.Wires.told c.args.wires.now) _ _ c.turn.ensures.unpaused c.turns.invariant.reads

pub returns-in_err-turn-clause-reads : goal.returns-in_err-turn-clause-reads
returns-in_err-turn-clause-reads g c = told_stays (g.W.Wires.told c.args.wires.now) _ _ c.turn.ensures.unpaused c.turns.invariant.reads

pub returns-in_err-rest-in-Still-clause-reads : goal.returns-in_err-rest-in-Still-clause-reads
returns-in_err-rest-in-Still-clause-reads g c = told_same _ (g.W.Wires.told c.args.wires.now) _ _ c.in_err-rest-in-Still.ensures.still (told_stays (g.W.Wires.told c.args.wires.now) _ _ c.turn.ensures.unpaused c.turns.invariant.reads)

pub returns-in-Finished-clause-wanted : goal.returns-in-Finished-clause-wanted
returns-in-Finished-clause-wanted g c = told_stays (g.W.Wires.told c.args.wires.now) _ _ c.turn.ensures.unpaused c.turns.invariant.wanted

pub returns-in_err-turn-clause-wanted : goal.returns-in_err-turn-clause-wanted
returns-in_err-turn-clause-wanted g c = told_stays (g.W.Wires.told c.args.wires.now) _ _ c.turn.ensures.unpaused c.turns.invariant.wanted

pub returns-in_err-rest-in-Still-clause-wanted : goal.returns-in_err-rest-in-Still-clause-wanted
returns-in_err-rest-in-Still-clause-wanted g c = c.rest.ensures.wanted.on (g.W.Wires.told c.args.wires.now) (told_stays (g.W.Wires.told c.args.wires.now) _ _ c.turn.ensures.unpaused c.turns.invariant.wanted)

pub returns-in_err-begin-clause-little : goal.returns-in_err-begin-clause-little
returns-in_err-begin-clause-little g c = little_begins _ _ _ _ _ c.begin.ensures.little

pub returns-in-Finished-clause-little : goal.returns-in-Finished-clause-little
returns-in-Finished-clause-little g c = told_stays (g.W.Wires.told c.args.wires.now) _ _ c.turn.ensures.unpaused c.turns.invariant.little

pub returns-in_err-turn-clause-little : goal.returns-in_err-turn-clause-little
returns-in_err-turn-clause-little g c = told_stays (g.W.Wires.told c.args.wires.now) _ _ c.turn.ensures.unpaused c.turns.invariant.little

pub returns-in_err-rest-in-Still-clause-little : goal.returns-in_err-rest-in-Still-clause-little
returns-in_err-rest-in-Still-clause-little g c = told_same _ (g.W.Wires.told c.args.wires.now) _ _ c.in_err-rest-in-Still.ensures.still (told_stays (g.W.Wires.told c.args.wires.now) _ _ c.turn.ensures.unpaused c.turns.invariant.little)

pub returns-in-Finished-clause-wants_all : goal.returns-in-Finished-clause-wants_all
returns-in-Finished-clause-wants_all g c = told_stays (g.W.Wires.told c.args.wires.now) _ _ c.turn.ensures.unpaused c.turns.invariant.wants_all

pub returns-in_err-turn-clause-wants_all : goal.returns-in_err-turn-clause-wants_all
returns-in_err-turn-clause-wants_all g c = told_stays (g.W.Wires.told c.args.wires.now) _ _ c.turn.ensures.unpaused c.turns.invariant.wants_all

pub returns-in_err-rest-in-Still-clause-wants_all : goal.returns-in_err-rest-in-Still-clause-wants_all
returns-in_err-rest-in-Still-clause-wants_all g c = told_same _ (g.W.Wires.told c.args.wires.now) _ _ c.in_err-rest-in-Still.ensures.still (told_stays (g.W.Wires.told c.args.wires.now) _ _ c.turn.ensures.unpaused c.turns.invariant.wants_all)

pub returns-in-Finished-clause-well : goal.returns-in-Finished-clause-well
returns-in-Finished-clause-well g c = ends_well _ _ _ _ c.in_ok-turn.field-0 _ c.turns.invariant.start c.in-Finished.is c.in_ok-turn.ensures.well

pub returns-in_err-turn-clause-drives : goal.returns-in_err-turn-clause-drives
returns-in_err-turn-clause-drives g c = driven_as c.args.self.now c.turns.self _ _ c.turns.invariant.kept (c.turn.ensures.drives (g.W.Wires.told c.args.wires.now) c.turns.invariant.on)

pub returns-in-Finished-clause-drives : goal.returns-in-Finished-clause-drives
returns-in-Finished-clause-drives g c = driven_as c.args.self.now c.turns.self _ _ c.turns.invariant.kept (c.turn.ensures.drives (g.W.Wires.told c.args.wires.now) c.turns.invariant.on)

pub returns-in_err-rest-in-Still-clause-drives : goal.returns-in_err-rest-in-Still-clause-drives
returns-in_err-rest-in-Still-clause-drives g c = driven_idly _ _ _ _ _ _ c.rest.ensures.idly (driven_as c.args.self.now c.turns.self _ _ c.turns.invariant.kept (c.turn.ensures.drives (g.W.Wires.told c.args.wires.now) c.turns.invariant.on))

pub returns-clause-drives : goal.returns-clause-drives
returns-clause-drives g c = driven_as c.args.self.now c.turns.self _ _ c.turns.invariant.kept (way_driven c.turns.self (g.W.Wires.told c.args.wires.now) _ _ (drives_none _ _ _) c.turns.invariant.on)

pub returns-in_err-turn-clause-decides : goal.returns-in_err-turn-clause-decides
returns-in_err-turn-clause-decides g c =
    handed_on _ c.from_residual-in_err-turn.result _ c.from_residual-in_err-turn.ensures.1 (
    decided_all c.args.self.now c.turns.self _ _ _ c.turns.invariant.kept (c.in_err-turn.ensures.decides (g.W.Wires.told c.args.wires.now) c.turns.invariant.on))

pub returns-in_err-rest-in-Still-clause-decides : goal.returns-in_err-rest-in-Still-clause-decides
returns-in_err-rest-in-Still-clause-decides g c =
    handed_on _ c.from_residual-in_err-rest-in-Still.result _ c.from_residual-in_err-rest-in-Still.ensures.1 (
    decided_all c.args.self.now c.turns.self _ _ _ c.turns.invariant.kept (
    rests_decided _ _ _ _ _ _ _ c.in_err-rest-in-Still.ensures.free c.in_err-rest-in-Still.ensures.still (c.in_ok-turn.ensures.untroubled (g.W.Wires.told c.args.wires.now) c.turns.invariant.on)))

pub returns-in-Finished-clause-tries : goal.returns-in-Finished-clause-tries
returns-in-Finished-clause-tries g c = left_tried _ _ (left_any _ _ _ c.turn.ensures.unpaused c.turns.invariant.tried)

pub returns-in_err-turn-clause-tries : goal.returns-in_err-turn-clause-tries
returns-in_err-turn-clause-tries g c = left_tried _ _ (left_any _ _ _ c.turn.ensures.unpaused c.turns.invariant.tried)

pub returns-in_err-rest-in-Still-clause-tries : goal.returns-in_err-rest-in-Still-clause-tries
returns-in_err-rest-in-Still-clause-tries g c = told_same _ (g.W.Wires.told c.args.wires.now) _ _ c.in_err-rest-in-Still.ensures.still (left_tried _ _ (left_any _ _ _ c.turn.ensures.unpaused c.turns.invariant.tried))

pub returns-clause-tries : goal.returns-clause-tries
returns-clause-tries g c = left_tried _ _ c.turns.invariant.tried

pub check_patience-requires : goal.check_patience-requires
check_patience-requires g c =
    let same = ap (λ (counts : Counts). counts.idles) c.turns.invariant.start in
    let on = c.turns.invariant.counts.idles in
    omega (arith, same, on)

pub returns-in_err-check_patience-clause-links : goal.returns-in_err-check_patience-clause-links
returns-in_err-check_patience-clause-links g c = within_told _ _ _ _ _ _ _ c.turns.invariant.connects

pub returns-in_err-check_patience-clause-fair : goal.returns-in_err-check_patience-clause-fair
returns-in_err-check_patience-clause-fair g c two = c.turns.invariant.fair two

pub returns-in_err-check_patience-clause-drives : goal.returns-in_err-check_patience-clause-drives
returns-in_err-check_patience-clause-drives g c = driven_as c.args.self.now c.turns.self _ _ c.turns.invariant.kept (way_driven c.turns.self (g.W.Wires.told c.args.wires.now) _ _ (drives_none _ _ _) c.turns.invariant.on)

pub returns-in_err-check_patience-clause-tries : goal.returns-in_err-check_patience-clause-tries
returns-in_err-check_patience-clause-tries g c = left_tried _ _ c.turns.invariant.tried

pub returns-in_err-check_patience-clause-decides : goal.returns-in_err-check_patience-clause-decides
returns-in_err-check_patience-clause-decides g c =
    handed_on _ c.from_residual-in_err-check_patience.result _ c.from_residual-in_err-check_patience.ensures.1
    (decided_all c.args.self.now c.turns.self _ _ _ c.turns.invariant.kept (looked_decided c.turns.self _ _ _ c.in_err-check_patience.ensures.free c.turns.invariant.on))

pub returns-in_err-begin-clause-few : goal.returns-in_err-begin-clause-few
returns-in_err-begin-clause-few g c = waited_within _ _ _ _ _ c.in_err-begin.ensures.impatient

pub returns-in_err-check_patience-clause-few : goal.returns-in_err-check_patience-clause-few
returns-in_err-check_patience-clause-few g c = waited_within _ _ _ _ _ c.turns.invariant.waited

pub returns-in_err-turn-clause-few : goal.returns-in_err-turn-clause-few
returns-in_err-turn-clause-few g c = few_stay (λ n. n ≤ patience) _ _ _ c.turn.ensures.unpaused (waited_within _ _ _ _ _ c.turns.invariant.waited)

pub returns-in_err-rest-in-Still-clause-few : goal.returns-in_err-rest-in-Still-clause-few
returns-in_err-rest-in-Still-clause-few g c = told_same _ (g.W.Wires.told c.args.wires.now) _ _ c.in_err-rest-in-Still.ensures.still (few_stay (λ n. n ≤ patience) _ _ _ c.turn.ensures.unpaused (waited_within _ _ _ _ _ c.turns.invariant.waited))

pub returns-in-Finished-clause-few : goal.returns-in-Finished-clause-few
returns-in-Finished-clause-few g c = few_stay (λ n. n ≤ patience) _ _ _ c.turn.ensures.unpaused (waited_within _ _ _ _ _ c.turns.invariant.waited)

pub returns-clause-few : goal.returns-clause-few
returns-clause-few g c = waited_within _ _ _ _ _ c.turns.invariant.waited

pub returns-in_err-begin-clause-less : goal.returns-in_err-begin-clause-less
returns-in_err-begin-clause-less g c = handed_on _ c.from_residual.result _ c.from_residual.ensures.1 (λ other. waited_less _ _ _ _ _ other c.in_err-begin.ensures.impatient)

pub returns-in_err-check_patience-clause-less : goal.returns-in_err-check_patience-clause-less
returns-in_err-check_patience-clause-less g c =
    handed_on _ c.from_residual-in_err-check_patience.result _ c.from_residual-in_err-check_patience.ensures.1 (λ other. absurd (false≢true (sym other ∙ c.in_err-check_patience.ensures.silent)))

pub returns-in_err-turn-clause-less : goal.returns-in_err-turn-clause-less
returns-in_err-turn-clause-less g c = always_if_err c.from_residual-in_err-turn.result (λ why other. few_stay (λ n. n < patience) _ _ _ c.turn.ensures.unpaused (waited_less false _ _ _ _ refl (waited_looked true _ _ (g.W.Wires.told c.args.wires.now) _ (unrisen_at _ _ _ (ap (λ (counts : Counts). counts.idles) c.turns.invariant.start) c.in_ok-check_patience.ensures.well) c.turns.invariant.waited)))

pub returns-in_err-rest-in-Still-clause-less : goal.returns-in_err-rest-in-Still-clause-less
returns-in_err-rest-in-Still-clause-less g c =
    always_if_err c.from_residual-in_err-rest-in-Still.result
    (λ why other. told_same _ (g.W.Wires.told c.args.wires.now) _ _ c.in_err-rest-in-Still.ensures.still (few_stay (λ n. n < patience) _ _ _ c.turn.ensures.unpaused (waited_less false _ _ _ _ refl (waited_looked true _ _ (g.W.Wires.told c.args.wires.now) _ (unrisen_at _ _ _ (ap (λ (counts : Counts). counts.idles) c.turns.invariant.start) c.in_ok-check_patience.ensures.well) c.turns.invariant.waited))))

pub returns-in_err-begin-clause-paces : goal.returns-in_err-begin-clause-paces
returns-in_err-begin-clause-paces g c = c.begin.ensures.paces

pub returns-in_err-check_patience-clause-paces : goal.returns-in_err-check_patience-clause-paces
returns-in_err-check_patience-clause-paces g c = pace_keeps 1 _ _ c.turns.invariant.paced

pub returns-in_err-turn-clause-paces : goal.returns-in_err-turn-clause-paces
returns-in_err-turn-clause-paces g c = pace_keeps 2 _ _ (pace_tires (g.W.Wires.told c.args.wires.now) _ _ (c.turn.ensures.once (g.W.Wires.told c.args.wires.now) c.turns.invariant.on) c.turns.invariant.paced)

pub returns-in_err-rest-in-Still-clause-paces : goal.returns-in_err-rest-in-Still-clause-paces
returns-in_err-rest-in-Still-clause-paces g c = told_same _ (g.W.Wires.told c.args.wires.now) _ _ c.in_err-rest-in-Still.ensures.still (pace_keeps 2 _ _ (pace_tires (g.W.Wires.told c.args.wires.now) _ _ (c.turn.ensures.once (g.W.Wires.told c.args.wires.now) c.turns.invariant.on) c.turns.invariant.paced))

pub returns-in-Finished-clause-paces : goal.returns-in-Finished-clause-paces
returns-in-Finished-clause-paces g c = pace_keeps 2 _ _ (pace_tires (g.W.Wires.told c.args.wires.now) _ _ (c.turn.ensures.once (g.W.Wires.told c.args.wires.now) c.turns.invariant.on) c.turns.invariant.paced)

pub returns-clause-paces : goal.returns-clause-paces
returns-clause-paces g c = pace_keeps 1 _ _ c.turns.invariant.paced

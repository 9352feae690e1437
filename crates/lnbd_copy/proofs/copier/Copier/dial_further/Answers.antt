use Rattle.std.proofs.Common.{◌+◌, ◌-◌, ap, replicate, ◌∙◌, arith}
use Rattle.std.proofs.lemmas.Result.{on_ok_weaker}
use Rattle.lnbd_copy.proofs.CopierLemmas.{always_on_ok, further_goes, further_kept, further_then}
use Rattle.lnbd_copy.proofs.DecidedLemmas.{decided_grounded}
use Rattle.lnbd_copy.proofs.GroundLemmas.{handed_on, if_err_leads}
use Rattle.lnbd_copy.proofs.PauseLemmas.{pauses_then, pauses_unpaused, unpaused_then}
use Rattle.lnbd_copy.proofs.PausedLemmas.{further_unready, told_stays}
use Rattle.lnbd_copy.proofs.LinkLemmas.{links_end}
use Rattle.lnbd_copy.proofs.LittleLemmas.{further_little}
use Rattle.lnbd_copy.proofs.TriedLemmas.{tries_anyhow, tries_then, tries_unpaused}
use Rattle.lnbd_copy.proofs.ConnectLemmas.{both_made, goes_all, goes_wider, second_fails}
use Rattle.lnbd_copy.specs.Copier.{Seen}
use Rattle.lnbd_copy.proofs.UnaskedLemmas.{further_unasked, met_unasked, stays_kept, unasked_then}
use Rattle.lnbd_copy.proofs.ConnectedLemmas.{connected_links, connected_then}
use Rattle.lnbd_copy.proofs.DrivingLemmas.{further_behind, further_driven, further_settled}
use Rattle.lnbd_copy.proofs.MeetLemmas.{behind_decides, further_decided, further_decides}
use Rattle.lnbd_copy.proofs.CauseLemmas.{goes_then}
use Rattle.lnbd_copy.proofs.PatientLemmas.{always_if_err, patient_any, patient_settles, patient_unpaused}
use Rattle.lnbd_copy.proofs.PaceLemmas.{pace_fewer, pace_untired, untired_then}
use Rattle.lnbd_copy.proofs.PaceMeets.{further_paced}
use Rattle.lnbd_copy.proofs.copier.Copier.dial_further.Goals as goal

pub dial_sources-requires-clause-few : goal.dial_sources-requires-clause-few
dial_sources-requires-clause-few g c = let few = c.requires.few in omega (arith, few)

pub dial_destinations-requires-clause-few : goal.dial_destinations-requires-clause-few
dial_destinations-requires-clause-few g c =
    let many = c.in_ok-dial_sources.ensures.many c.requires.two in
    let few = c.requires.few in
    omega (arith, many, few)

pub returns-clause-further : goal.returns-clause-further
returns-clause-further g c =
    let one = c.in_ok-dial_sources.ensures.further in
    let two = further_kept c.args.self.now c.dial_sources.new.self c.args.sides (c.args.sides.source + 1) _ _ _ _ _ _ c.in_ok-dial_sources.ensures.kept c.in_ok-dial_destinations.ensures.further in
    let both = further_then c.args.self.now c.args.sides 2 (c.args.sides.source + 1) _ _ _ _ _ _ _ _ _ one two c.in_ok-dial_sources.ensures.many in
    on_ok_weaker c.settle.result (λ goes. further_goes c.args.self.now c.args.sides 2 _ _ _ _ _ _ _ _ _ both goes) c.settle.ensures.goes

pub returns-clause-unready : goal.returns-clause-unready
returns-clause-unready g c start terms met same count links pauses =
    let one = c.in_ok-dial_sources.ensures.further in
    let two = further_kept c.args.self.now c.dial_sources.new.self c.args.sides (c.args.sides.source + 1) _ _ _ _ _ _ c.in_ok-dial_sources.ensures.kept c.in_ok-dial_destinations.ensures.further in
    let both = further_then c.args.self.now c.args.sides 2 (c.args.sides.source + 1) _ _ _ _ _ _ _ _ _ one two c.in_ok-dial_sources.ensures.many in
    let connects = (both_made (replicate (c.args.sides.source - 1) c.args.self.now.from.to) (replicate (c.args.sides.destination - 1) c.args.self.now.to.to) (replicate (c.args.sides.destination - 1) c.dial_sources.new.self.to.to) _ _ _ _ _ _ (ap (λ (s : Seen). replicate (c.args.sides.destination - 1) s.to.to) c.in_ok-dial_sources.ensures.kept) c.in_ok-dial_sources.ensures.connects c.in_ok-dial_destinations.ensures.connects) in
    further_unready c.args.self.now c.args.sides _ _ _ start _ _ _ _ terms both connects c.dial_sources.ensures.unpaused c.dial_destinations.ensures.unpaused c.settle.ensures.unready met same count links pauses

pub returns-clause-grounds : goal.returns-clause-grounds
returns-clause-grounds g c =
    let one = c.in_ok-dial_sources.ensures.further in
    let two = further_kept c.args.self.now c.dial_sources.new.self c.args.sides (c.args.sides.source + 1) _ _ _ _ _ _ c.in_ok-dial_sources.ensures.kept c.in_ok-dial_destinations.ensures.further in
    let both = further_then c.args.self.now c.args.sides 2 (c.args.sides.source + 1) _ _ _ _ _ _ _ _ _ one two c.in_ok-dial_sources.ensures.many in
    if_err_leads c.settle.result
    (λ why decides start terms met same two. decided_grounded _ _ _ _ _ why (further_decided c.args.self.now c.args.sides start _ _ why (further_decides c.args.self.now c.args.sides 2 why _ _ _ _ _ both decides) terms met same two)) c.settle.ensures.decides

pub returns-clause-vain : goal.returns-clause-vain
returns-clause-vain g c stand =
    pauses_then _ _ _ (pauses_unpaused _ _ (unpaused_then _ _ _ c.dial_sources.ensures.unpaused c.dial_destinations.ensures.unpaused))
    (c.settle.ensures.vain (c.in_ok-dial_destinations.ensures.further.stand (c.in_ok-dial_sources.ensures.further.stand stand)))

pub returns-clause-connects : goal.returns-clause-connects
returns-clause-connects g c =
    always_on_ok c.settle.result (λ stand. links_end _ _ _ _ _ _ _ (both_made (replicate (c.args.sides.source - 1) c.args.self.now.from.to) (replicate (c.args.sides.destination - 1) c.args.self.now.to.to) (replicate (c.args.sides.destination - 1) c.dial_sources.new.self.to.to) _ _ _ _ _ _ (ap (λ (s : Seen). replicate (c.args.sides.destination - 1) s.to.to) c.in_ok-dial_sources.ensures.kept) c.in_ok-dial_sources.ensures.connects c.in_ok-dial_destinations.ensures.connects) (c.settle.ensures.links (c.in_ok-dial_destinations.ensures.further.stand (c.in_ok-dial_sources.ensures.further.stand stand))))

pub returns-clause-links : goal.returns-clause-links
returns-clause-links g c stand =
    goes_all _ _ _ _ _ (links_end _ _ _ _ _ _ _ (both_made (replicate (c.args.sides.source - 1) c.args.self.now.from.to) (replicate (c.args.sides.destination - 1) c.args.self.now.to.to) (replicate (c.args.sides.destination - 1) c.dial_sources.new.self.to.to) _ _ _ _ _ _ (ap (λ (s : Seen). replicate (c.args.sides.destination - 1) s.to.to) c.in_ok-dial_sources.ensures.kept) c.in_ok-dial_sources.ensures.connects c.in_ok-dial_destinations.ensures.connects) (c.settle.ensures.links (c.in_ok-dial_destinations.ensures.further.stand (c.in_ok-dial_sources.ensures.further.stand stand))))

pub returns-in_err-dial_sources-clause-links : goal.returns-in_err-dial_sources-clause-links
returns-in_err-dial_sources-clause-links g c stand =
    goes_wider (replicate (c.args.sides.source - 1) c.args.self.now.from.to) (replicate (c.args.sides.destination - 1) c.args.self.now.to.to) _ _ _ _ c.in_err-dial_sources.ensures.links

pub returns-in_err-dial_destinations-clause-links : goal.returns-in_err-dial_destinations-clause-links
returns-in_err-dial_destinations-clause-links g c stand =
    second_fails (replicate (c.args.sides.source - 1) c.args.self.now.from.to) (replicate (c.args.sides.destination - 1) c.args.self.now.to.to) (replicate (c.args.sides.destination - 1) c.dial_sources.new.self.to.to) _ _ _ _ _ _ (ap (λ (s : Seen). replicate (c.args.sides.destination - 1) s.to.to) c.in_ok-dial_sources.ensures.kept) c.in_ok-dial_sources.ensures.connects c.in_err-dial_destinations.ensures.links

pub returns-in_err-dial_sources-clause-unasked : goal.returns-in_err-dial_sources-clause-unasked
returns-in_err-dial_sources-clause-unasked g c start terms met same none two = c.dial_sources.ensures.unasked.on start (met_unasked c.args.self.now start _ terms met none)

pub returns-in_err-dial_destinations-clause-unasked : goal.returns-in_err-dial_destinations-clause-unasked
returns-in_err-dial_destinations-clause-unasked g c start terms met same none two =
    (unasked_then _ _ _ _ _ c.dial_sources.ensures.unasked (stays_kept c.args.self.now c.dial_sources.new.self _ _ c.in_ok-dial_sources.ensures.kept c.dial_destinations.ensures.unasked)).on start (met_unasked c.args.self.now start _ terms met none)

pub returns-clause-unasked : goal.returns-clause-unasked
returns-clause-unasked g c start terms met same none two =
    let one = c.in_ok-dial_sources.ensures.further in
    let second = further_kept c.args.self.now c.dial_sources.new.self c.args.sides (c.args.sides.source + 1) _ _ _ _ _ _ c.in_ok-dial_sources.ensures.kept c.in_ok-dial_destinations.ensures.further in
    let both = further_then c.args.self.now c.args.sides 2 (c.args.sides.source + 1) _ _ _ _ _ _ _ _ _ one second c.in_ok-dial_sources.ensures.many in
    further_unasked c.args.self.now c.dial_destinations.new.self c.args.sides start _ _ _ both c.settle.ensures.asks (λ n. c.in_ok-dial_destinations.ensures.unissued (c.in_ok-dial_sources.ensures.unissued n)) terms met same none two

pub returns-in_err-dial_sources-clause-unready : goal.returns-in_err-dial_sources-clause-unready
returns-in_err-dial_sources-clause-unready g c start terms met same two links pauses = told_stays start _ _ c.dial_sources.ensures.unpaused pauses

pub returns-in_err-dial_destinations-clause-unready : goal.returns-in_err-dial_destinations-clause-unready
returns-in_err-dial_destinations-clause-unready g c start terms met same two links pauses = told_stays start _ _ (unpaused_then _ _ _ c.dial_sources.ensures.unpaused c.dial_destinations.ensures.unpaused) pauses

pub returns-in_err-dial_sources-clause-vain : goal.returns-in_err-dial_sources-clause-vain
returns-in_err-dial_sources-clause-vain g c stand = pauses_unpaused _ _ c.dial_sources.ensures.unpaused

pub returns-in_err-dial_destinations-clause-vain : goal.returns-in_err-dial_destinations-clause-vain
returns-in_err-dial_destinations-clause-vain g c stand = pauses_unpaused _ _ (unpaused_then _ _ _ c.dial_sources.ensures.unpaused c.dial_destinations.ensures.unpaused)

pub returns-clause-wanted : goal.returns-clause-wanted
returns-clause-wanted g c stand =
    pauses_then _ _ _ (pauses_unpaused _ _ (unpaused_then _ _ _ c.dial_sources.ensures.unpaused c.dial_destinations.ensures.unpaused))
    (c.settle.ensures.wanted (c.in_ok-dial_destinations.ensures.further.stand (c.in_ok-dial_sources.ensures.further.stand stand)))

pub returns-in_err-dial_sources-clause-wanted : goal.returns-in_err-dial_sources-clause-wanted
returns-in_err-dial_sources-clause-wanted g c stand = pauses_unpaused _ _ c.dial_sources.ensures.unpaused

pub returns-in_err-dial_destinations-clause-wanted : goal.returns-in_err-dial_destinations-clause-wanted
returns-in_err-dial_destinations-clause-wanted g c stand = pauses_unpaused _ _ (unpaused_then _ _ _ c.dial_sources.ensures.unpaused c.dial_destinations.ensures.unpaused)

pub returns-in_err-dial_sources-clause-little : goal.returns-in_err-dial_sources-clause-little
returns-in_err-dial_sources-clause-little g c start terms met same none two little = told_stays start _ _ c.dial_sources.ensures.unpaused little

pub returns-in_err-dial_destinations-clause-little : goal.returns-in_err-dial_destinations-clause-little
returns-in_err-dial_destinations-clause-little g c start terms met same none two little = told_stays start _ _ (unpaused_then _ _ _ c.dial_sources.ensures.unpaused c.dial_destinations.ensures.unpaused) little

pub returns-clause-little : goal.returns-clause-little
returns-clause-little g c start terms met same none two little =
    let one = c.in_ok-dial_sources.ensures.further in
    let second = further_kept c.args.self.now c.dial_sources.new.self c.args.sides (c.args.sides.source + 1) _ _ _ _ _ _ c.in_ok-dial_sources.ensures.kept c.in_ok-dial_destinations.ensures.further in
    let both = further_then c.args.self.now c.args.sides 2 (c.args.sides.source + 1) _ _ _ _ _ _ _ _ _ one second c.in_ok-dial_sources.ensures.many in
    further_little c.args.self.now c.dial_destinations.new.self c.args.sides start _ _ _ both c.settle.ensures.little (λ n. c.in_ok-dial_destinations.ensures.unissued (c.in_ok-dial_sources.ensures.unissued n))
    (unpaused_then _ _ _ c.dial_sources.ensures.unpaused c.dial_destinations.ensures.unpaused) terms met same none two little

pub returns-clause-connected : goal.returns-clause-connected
returns-clause-connected g c =
    always_on_ok c.settle.result (λ stand. connected_then _ _ _ (connected_then _ _ _ c.in_ok-dial_sources.ensures.connected c.in_ok-dial_destinations.ensures.connected)
    (connected_links _ _ _ _ (c.settle.ensures.links (c.in_ok-dial_destinations.ensures.further.stand (c.in_ok-dial_sources.ensures.further.stand stand)))))

pub returns-in_err-dial_sources-clause-drives : goal.returns-in_err-dial_sources-clause-drives
returns-in_err-dial_sources-clause-drives g c start terms met same two = further_driven c.args.self.now c.args.sides start _ _ c.dial_sources.ensures.drives terms met same two

pub returns-in_err-dial_destinations-clause-drives : goal.returns-in_err-dial_destinations-clause-drives
returns-in_err-dial_destinations-clause-drives g c start terms met same two =
    further_driven c.args.self.now c.args.sides start _ _
    (further_behind c.args.self.now c.args.sides 2 c.dial_sources.new.self _ _ c.in_ok-dial_sources.ensures.kept c.in_ok-dial_sources.ensures.further (c.args.sides.source + 1) _ c.dial_destinations.ensures.drives c.in_ok-dial_sources.ensures.many) terms met same two

pub returns-clause-drives : goal.returns-clause-drives
returns-clause-drives g c start terms met same two =
    let one = c.in_ok-dial_sources.ensures.further in
    let second = further_kept c.args.self.now c.dial_sources.new.self c.args.sides (c.args.sides.source + 1) _ _ _ _ _ _ c.in_ok-dial_sources.ensures.kept c.in_ok-dial_destinations.ensures.further in
    let both = further_then c.args.self.now c.args.sides 2 (c.args.sides.source + 1) _ _ _ _ _ _ _ _ _ one second c.in_ok-dial_sources.ensures.many in
    further_driven c.args.self.now c.args.sides start _ _ (further_settled c.args.self.now c.args.sides 2 _ _ _ _ _ both c.settle.ensures.drives) terms met same two

pub returns-in_err-dial_sources-clause-decides : goal.returns-in_err-dial_sources-clause-decides
returns-in_err-dial_sources-clause-decides g c =
    handed_on _ c.from_residual.result _ c.from_residual.ensures.1
    (λ start terms met same two. further_decided c.args.self.now c.args.sides start _ _ _ c.in_err-dial_sources.ensures.decides terms met same two)

pub returns-in_err-dial_destinations-clause-decides : goal.returns-in_err-dial_destinations-clause-decides
returns-in_err-dial_destinations-clause-decides g c =
    handed_on _ c.from_residual-in_err-dial_destinations.result _ c.from_residual-in_err-dial_destinations.ensures.1
    (λ start terms met same two.
    further_decided c.args.self.now c.args.sides start _ _ _
    (behind_decides c.args.self.now c.args.sides 2 _ c.dial_sources.new.self (c.args.sides.source + 1) _ _ _ c.in_ok-dial_sources.ensures.kept c.in_ok-dial_sources.ensures.further c.in_err-dial_destinations.ensures.decides c.in_ok-dial_sources.ensures.many) terms met same two)

pub returns-clause-decides : goal.returns-clause-decides
returns-clause-decides g c =
    let one = c.in_ok-dial_sources.ensures.further in
    let second = further_kept c.args.self.now c.dial_sources.new.self c.args.sides (c.args.sides.source + 1) _ _ _ _ _ _ c.in_ok-dial_sources.ensures.kept c.in_ok-dial_destinations.ensures.further in
    let both = further_then c.args.self.now c.args.sides 2 (c.args.sides.source + 1) _ _ _ _ _ _ _ _ _ one second c.in_ok-dial_sources.ensures.many in
    if_err_leads c.settle.result
    (λ why decides start terms met same two. further_decided c.args.self.now c.args.sides start _ _ why (further_decides c.args.self.now c.args.sides 2 why _ _ _ _ _ both decides) terms met same two) c.settle.ensures.decides

pub returns-clause-tries : goal.returns-clause-tries
returns-clause-tries g c stand =
    tries_then _ _ _ (tries_unpaused _ _ (unpaused_then _ _ _ c.dial_sources.ensures.unpaused c.dial_destinations.ensures.unpaused))
    (c.settle.ensures.tries (c.in_ok-dial_destinations.ensures.further.stand (c.in_ok-dial_sources.ensures.further.stand stand)))

pub returns-clause-tried : goal.returns-clause-tried
returns-clause-tried g c =
    on_ok_weaker c.settle.result
    (λ tried stand. tries_then _ _ _ (tries_unpaused _ _ (unpaused_then _ _ _ c.dial_sources.ensures.unpaused c.dial_destinations.ensures.unpaused)) (tried (c.in_ok-dial_destinations.ensures.further.stand (c.in_ok-dial_sources.ensures.further.stand stand))))
    c.settle.ensures.tried

pub returns-in_err-dial_sources-clause-tries : goal.returns-in_err-dial_sources-clause-tries
returns-in_err-dial_sources-clause-tries g c stand = tries_anyhow _ _ (tries_unpaused _ _ c.dial_sources.ensures.unpaused)

pub returns-in_err-dial_destinations-clause-tries : goal.returns-in_err-dial_destinations-clause-tries
returns-in_err-dial_destinations-clause-tries g c stand = tries_anyhow _ _ (tries_unpaused _ _ (unpaused_then _ _ _ c.dial_sources.ensures.unpaused c.dial_destinations.ensures.unpaused))

pub returns-in_err-dial_sources-clause-impatient : goal.returns-in_err-dial_sources-clause-impatient
returns-in_err-dial_sources-clause-impatient g c = always_if_err c.from_residual.result (λ why stand. patient_any _ _ _ _ _ _ (patient_unpaused _ _ _ _ _ c.dial_sources.ensures.unpaused c.dial_sources.ensures.counts.idles))

pub returns-in_err-dial_destinations-clause-impatient : goal.returns-in_err-dial_destinations-clause-impatient
returns-in_err-dial_destinations-clause-impatient g c =
    always_if_err c.from_residual-in_err-dial_destinations.result
    (λ why stand. patient_any _ _ _ _ _ _ (patient_unpaused _ _ _ _ _ (unpaused_then _ _ _ c.dial_sources.ensures.unpaused c.dial_destinations.ensures.unpaused) (goes_then _ _ _ _ _ _ _ _ _ c.dial_sources.ensures.counts c.dial_destinations.ensures.counts).idles))

pub returns-clause-patient : goal.returns-clause-patient
returns-clause-patient g c =
    on_ok_weaker c.settle.result
    (λ stays stand. patient_settles _ _ _ _ _ _ _ _ _ (unpaused_then _ _ _ c.dial_sources.ensures.unpaused c.dial_destinations.ensures.unpaused) (goes_then _ _ _ _ _ _ _ _ _ c.dial_sources.ensures.counts c.dial_destinations.ensures.counts).idles
    (ap (λ (s : Seen). s.start.idles) c.in_ok-dial_destinations.ensures.kept ∙ ap (λ (s : Seen). s.start.idles) c.in_ok-dial_sources.ensures.kept)
    (stays (c.in_ok-dial_destinations.ensures.further.stand (c.in_ok-dial_sources.ensures.further.stand stand))))
    c.settle.ensures.patient

pub returns-clause-impatient : goal.returns-clause-impatient
returns-clause-impatient g c =
    if_err_leads c.settle.result
    (λ why stays stand. patient_settles _ _ _ _ _ _ _ _ _ (unpaused_then _ _ _ c.dial_sources.ensures.unpaused c.dial_destinations.ensures.unpaused) (goes_then _ _ _ _ _ _ _ _ _ c.dial_sources.ensures.counts c.dial_destinations.ensures.counts).idles
    (ap (λ (s : Seen). s.start.idles) c.in_ok-dial_destinations.ensures.kept ∙ ap (λ (s : Seen). s.start.idles) c.in_ok-dial_sources.ensures.kept)
    (stays (c.in_ok-dial_destinations.ensures.further.stand (c.in_ok-dial_sources.ensures.further.stand stand))))
    c.settle.ensures.impatient

pub returns-clause-paces : goal.returns-clause-paces
returns-clause-paces g c start terms met same count paced =
    let one = c.in_ok-dial_sources.ensures.further in
    let two = further_kept c.args.self.now c.dial_sources.new.self c.args.sides (c.args.sides.source + 1) _ _ _ _ _ _ c.in_ok-dial_sources.ensures.kept c.in_ok-dial_destinations.ensures.further in
    let both = further_then c.args.self.now c.args.sides 2 (c.args.sides.source + 1) _ _ _ _ _ _ _ _ _ one two c.in_ok-dial_sources.ensures.many in
    further_paced 2 c.args.self.now c.args.sides _ _ start _ _ _ _ terms both c.dial_sources.ensures.untried c.dial_destinations.ensures.untried c.settle.ensures.paces met same count paced

pub returns-clause-paced : goal.returns-clause-paced
returns-clause-paced g c =
    let one = c.in_ok-dial_sources.ensures.further in
    let two = further_kept c.args.self.now c.dial_sources.new.self c.args.sides (c.args.sides.source + 1) _ _ _ _ _ _ c.in_ok-dial_sources.ensures.kept c.in_ok-dial_destinations.ensures.further in
    let both = further_then c.args.self.now c.args.sides 2 (c.args.sides.source + 1) _ _ _ _ _ _ _ _ _ one two c.in_ok-dial_sources.ensures.many in
    on_ok_weaker c.settle.result
    (λ stays start terms met same count paced. further_paced 1 c.args.self.now c.args.sides _ _ start _ _ _ _ terms both c.dial_sources.ensures.untried c.dial_destinations.ensures.untried stays met same count paced) c.settle.ensures.paced

pub returns-in_err-dial_sources-clause-paces : goal.returns-in_err-dial_sources-clause-paces
returns-in_err-dial_sources-clause-paces g c start terms met same count paced = pace_fewer 1 2 start _ (omega arith) (pace_untired 1 start _ _ (omega arith) c.dial_sources.ensures.untried paced)

pub returns-in_err-dial_destinations-clause-paces : goal.returns-in_err-dial_destinations-clause-paces
returns-in_err-dial_destinations-clause-paces g c start terms met same count paced =
    pace_fewer 1 2 start _ (omega arith) (pace_untired 1 start _ _ (omega arith) (untired_then _ _ _ c.dial_sources.ensures.untried c.dial_destinations.ensures.untried) paced)

pub returns-clause-many : goal.returns-clause-many
returns-clause-many g c =
    on_ok_weaker c.settle.result
    (λ goes stand two some.
    let same = goes.many (c.in_ok-dial_destinations.ensures.further.stand (c.in_ok-dial_sources.ensures.further.stand stand)) in
    let first = c.in_ok-dial_sources.ensures.many two in
    let second = c.in_ok-dial_destinations.ensures.many some in
    omega (arith, same, first, second))
    c.settle.ensures.goes

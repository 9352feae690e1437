use Rattle.std.proofs.Common.{List, ℕ, length, ap, arith, ◌∙◌}
use Rattle.lnbd_rehearsal.specs.Sums.{sums_of}
use Rattle.lnbd_rehearsal.proofs.RehearsedLemmas.{came_by, came_there, ended_there, rehearsed}
use Rattle.lnbd_rehearsal.proofs.rehearsing.rehearse.Goals as goal

pub sums_of-requires : goal.sums_of-requires
sums_of-requires c =
    let yes = c.if-not-is_told.false in
    let set = c.if-not-is_for.false in
    let shorts = c.is_told.ensures.shorts yes in
    let came = came_there c.args.seed c.args.size _ _ c.into_wires-wires.result c.copy.new.stage.wires c.into_wires-wires.ensures (c.is_for.ensures.seed set) (c.is_for.ensures.size set) c.came.ensures shorts in
    let over =
    ended_there c.args.seed c.args.size c.in_ok-source.source c.in_ok-destination.destination c.in_ok-source.ensures.at c.in_ok-source.ensures.generated c.in_ok-destination.ensures.at c.in_ok-destination.ensures.noise
    c.in_ok-stage.stage.wires c.copy.new.stage.wires c.into_wires-wires.result c.in_ok-summary.summary c.into_wires-wires.ensures c.requires c.in_ok-stage.ensures.contents c.in_ok-summary.ensures.kept
    shorts (c.is_told.ensures.two yes) (came_by c.args.seed c.args.size _ _ came)
    (record { size = c.fits.ensures.size; name = c.fits.ensures.name; description = c.fits.ensures.description }) (record { size = c.fits-2.ensures.size; name = c.fits-2.ensures.name; description = c.fits-2.ensures.description })
    c.in_ok-stage.ensures.told c.in_ok-summary.ensures.copies c.in_ok-summary.ensures.made c.in_ok-summary.ensures.conducts in
    let held = ap (λ (b : List ℕ). length b) c.bytes.ensures in
    let long = over.long in
    omega (arith, held, long, c.requires)

pub returns : goal.returns
returns c =
    let yes = c.if-not-is_told.false in
    let set = c.if-not-is_for.false in
    let shorts = c.is_told.ensures.shorts yes in
    let came = came_there c.args.seed c.args.size _ _ c.into_wires-wires.result c.copy.new.stage.wires c.into_wires-wires.ensures (c.is_for.ensures.seed set) (c.is_for.ensures.size set) c.came.ensures shorts in
    let over =
    ended_there c.args.seed c.args.size c.in_ok-source.source c.in_ok-destination.destination c.in_ok-source.ensures.at c.in_ok-source.ensures.generated c.in_ok-destination.ensures.at c.in_ok-destination.ensures.noise
    c.in_ok-stage.stage.wires c.copy.new.stage.wires c.into_wires-wires.result c.in_ok-summary.summary c.into_wires-wires.ensures c.requires c.in_ok-stage.ensures.contents c.in_ok-summary.ensures.kept
    shorts (c.is_told.ensures.two yes) (came_by c.args.seed c.args.size _ _ came)
    (record { size = c.fits.ensures.size; name = c.fits.ensures.name; description = c.fits.ensures.description }) (record { size = c.fits-2.ensures.size; name = c.fits-2.ensures.name; description = c.fits-2.ensures.description })
    c.in_ok-stage.ensures.told c.in_ok-summary.ensures.copies c.in_ok-summary.ensures.made c.in_ok-summary.ensures.conducts in
    rehearsed c.args.seed c.args.size c.in_ok-source.source c.in_ok-destination.destination c.in_ok-source.ensures.at c.in_ok-source.ensures.generated c.in_ok-destination.ensures.at c.in_ok-destination.ensures.noise
    c.into_wires-wires.result c.in_ok-summary.summary shorts (c.is_told.ensures.seeded yes) came
    (c.is_same.ensures c.if-not-is_same.false ∙ c.sums_of.ensures ∙ ap (λ (b : List ℕ). sums_of c.args.seed b) c.bytes.ensures) over

use Rattle.std.proofs.Common.{◌≡◌, ◌≤◌, List, ℕ, length, take, drop, ap, sym, subst, ◌∙◌, arith}
use Rattle.std.proofs.lemmas.List.{length-take, take-append-drop}
use Rattle.std.specs.Prelude.{vec_len}
use Rattle.lnbd_arrivals.specs.Frames.{front_size}
use Rattle.lnbd_handle.specs.Announcing.{replies_in}
use Rattle.lnbd_handle.specs.Seen.{state_of}
use Rattle.lnbd_handle.specs.Turns.{ShowsNothing}
use Rattle.lnbd_handle.proofs.AnnouncedLemmas.{announced_short, is_announced, none_came}
use Rattle.lnbd_handle.proofs.CalmLemmas.{announces_fit}
use Rattle.lnbd_handle.proofs.HoldLemmas.{most_front, quiet_short, said_front, said_rest}
use Rattle.lnbd_handle.proofs.drain.hold_rest.Given.{Over}
use Rattle.lnbd_handle.proofs.drain.hold_rest.Goals as goal
use Rattle.lnbd_handle.proofs.drain.hold_rest.Goals.{After-front_size}

-- How many bytes stand before the data.
size_is : (g : Over) (c : After-front_size g) → c.front_size.result ≡ front_size (replies_in (state_of c.args.connection.now))
size_is g c = c.front_size.ensures ∙ ap front_size c.replies_of.ensures.is

-- They are all there.
whole : (g : Over) (c : After-front_size g) → front_size (replies_in (state_of c.args.connection.now)) ≤ length c.args.rest.now
whole g c =
    let is = is_announced (state_of c.args.connection.now) (take (front_size (replies_in (state_of c.args.connection.now))) c.args.rest.now) c.in-Some.announced (sym c.requires.announces ∙ c.in-Some.is) in
    omega (arith, is.announces.sized, length-take (front_size (replies_in (state_of c.args.connection.now))) c.args.rest.now)

pub split_at-requires : goal.split_at-requires
split_at-requires g c = let size = size_is g (goal.at.split_at-requires g c).After-front_size in let long = whole g (goal.at.split_at-requires g c).After-front_size in omega (arith, size, long)

pub hold_apart-requires-clause-short : goal.hold_apart-requires-clause-short
hold_apart-requires-clause-short g c =
    let size = size_is g (goal.at.hold_apart-requires-clause-short g c).After-front_size in
    let most = most_front (replies_in (state_of c.args.connection.now)) in
    omega (arith, size, most, ap length c.split_at.ensures.front, length-take c.front_size.result c.args.rest.now)

pub hold_apart-requires-clause-fits : goal.hold_apart-requires-clause-fits
hold_apart-requires-clause-fits g c =
    let state = state_of c.args.connection.now in
    let size = size_is g (goal.at.hold_apart-requires-clause-fits g c).After-front_size in
    let says = sym c.requires.announces ∙ c.in-Some.is in
    let front = take (front_size (replies_in state)) c.args.rest.now in
    let behind = drop (front_size (replies_in state)) c.args.rest.now in
    let short = announced_short state front behind c.in-Some.announced c.requires.ordered says (subst (λ (b : List ℕ). ShowsNothing state b) (sym (take-append-drop (front_size (replies_in state)) c.args.rest.now)) c.requires.partial) in
    let fits = announces_fit (vec_len c.args.pending.now.content) state (replies_in state) front c.in-Some.announced (is_announced state front c.in-Some.announced says).announces c.requires.fits in
    let same = ap length (c.split_at.ensures.back ∙ ap (λ (n : ℕ). drop n c.args.rest.now) size) in
    omega (arith, short, fits, same)

pub returns-in-Some-clause-said : goal.returns-in-Some-clause-said
returns-in-Some-clause-said g c =
    let size = size_is g (goal.at.returns-in-Some-clause-said g c).After-front_size in
    said_front (state_of c.args.connection.now) c.hold_apart.new.self c.args.rest.now c.in-Some.announced c.hold_apart.ensures.announced (c.hold_apart.ensures.head ∙ c.split_at.ensures.front ∙ ap (λ (n : ℕ). take n c.args.rest.now) size)
    (sym c.in-Some.is ∙ c.requires.announces)

pub returns-in-None-clause-said : goal.returns-in-None-clause-said
returns-in-None-clause-said g c =
    said_rest (state_of c.args.connection.now) c.hold.new.self c.args.rest.now c.hold.result c.hold.ensures.ok c.hold.ensures.err c.hold.ensures.kept c.hold.ensures.unannounced
    (c.hold.ensures.came ∙ (none_came c.args.pending.now c.requires.kept c.requires.empty).0) (sym c.in-None.is ∙ c.requires.announces)

pub returns-in-None-clause-memory : goal.returns-in-None-clause-memory
returns-in-None-clause-memory g c calm = c.hold.ensures.memory (quiet_short c.args.connection.now c.args.rest.now calm c.requires.partial (sym c.requires.announces ∙ c.in-None.is))

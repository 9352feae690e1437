-- A copy connects to its two places alone, as often as its options and both sides say.
use Rattle.std.proofs.Common.{◌≡◌, ◌⊎◌, inl, inr, ℕ, zero, suc, ◌+◌, ◌-◌, ◌≤◌, ◌<◌, List, [], ◌∷◌, ◌++◌, Option, replicate, refl, ap, sym, subst, ◌∙◌, arith}
use Rattle.std.proofs.lemmas.List.{append-nil, append_assoc, replicate_more}
use Rattle.lnbd_course.specs.Asks.{GrewBy}
use Rattle.lnbd_link.specs.Call as wire
use Rattle.lnbd_model.specs.declared.target.Place.{Place}
use Rattle.lnbd_model.specs.declared.target.Target.{Target}
use Rattle.lnbd_plan.specs.declared.options.CopyOptions.{CopyOptions}
use Rattle.lnbd_poll.specs.Held.{Held}
use Rattle.lnbd_board.specs.declared.ticket.Ticket.{Ticket}
use Rattle.lnbd_conduct.specs.declared.sides.Sides.{Sides}
use Rattle.lnbd_conduct.specs.declared.terms.Terms.{Terms}
use Rattle.lnbd_conduct.specs.Links.{AllConnected, ConnectTo}
use Rattle.lnbd_copy.specs.Connects.{HasSettledOn, LinksGoAsTold, LinksGoWithin, StaysConnected}
use Rattle.lnbd_conduct.specs.Connects.{ConnectsAsTold, ConnectsWithin, connected_to, one_each}
use Rattle.lnbd_copy.specs.Copier.{HasMet, Seen}
use Rattle.lnbd_copy.specs.Lasting.{Lasts}
use Rattle.lnbd_copy.specs.Links.{LinksGo, LinksGoTo}
use Rattle.lnbd_copy.specs.Settled.{HasTerms}
use Rattle.lnbd_conduct.specs.Terms as both
use Rattle.lnbd_copy.specs.Way.{Stand}
use Rattle.lnbd_conduct.specs.Told.{Told}
use Rattle.lnbd_copy.proofs.ConnectedLemmas.{connected_links}
use Rattle.lnbd_copy.proofs.EndLemmas.{told_part}
use Rattle.lnbd_copy.proofs.LastLemmas.{terms_later}
use Rattle.lnbd_copy.proofs.LinkLemmas.{links_end, links_joined, links_none}
use Rattle.lnbd_copy.proofs.SettledLemmas.{first_with}
use Rattle.lnbd_copy.proofs.TurnLemmas.{told_begins, told_map}

-- To the first of some addresses, or to all.

pub goes_all : (to : List Target) (held held2 : List (Held Ticket)) (a b : Option (List wire.Call)) → LinksGo to held a held2 b → LinksGoTo to held a held2 b
goes_all to held held2 a b go = record { to = to; others = []; are = sym (append-nil to); go = go }

-- to none
pub goes_nowhere : (all : List Target) (held : List (Held Ticket)) (told : Option (List wire.Call)) → LinksGoTo all held told held told
goes_nowhere all held told = record { to = []; others = all; are = refl; go = links_none held told }

pub goes_wider : (all more : List Target) (held held2 : List (Held Ticket)) (a b : Option (List wire.Call)) → LinksGoTo all held a held2 b → LinksGoTo (all ++ more) held a held2 b
goes_wider all more held held2 a b one = record { to = one.to; others = one.others ++ more; are = ap (λ (l : List Target). l ++ more) one.are ∙ append_assoc one.to one.others more; go = one.go }

pub goes_before : (to all : List Target) (held held2 held3 : List (Held Ticket)) (a b c : Option (List wire.Call)) → LinksGo to held a held2 b → LinksGoTo all held2 b held3 c → LinksGoTo (to ++ all) held a held3 c
goes_before to all held held2 held3 a b c one two = record {
  to = to ++ two.to;
  others = two.others;
  are = ap (λ (l : List Target). to ++ l) two.are ∙ sym (append_assoc to two.to two.others);
  go = links_joined to two.to held held2 held3 a b c one two.go;
}

pub goes_end : (all : List Target) (held held2 held3 : List (Held Ticket)) (a b c : Option (List wire.Call)) → LinksGoTo all held a held2 b → LinksGo [] held2 b held3 c → LinksGoTo all held a held3 c
goes_end all held held2 held3 a b c one two = record { to = one.to; others = one.others; are = one.are; go = links_end one.to held held2 held3 a b c one.go two }

-- One more of many connections to the same address.

-- more are the fewer and others
record Fronts (to : Target) (few many : ℕ) : Type 0 where
  others : List Target
  are : replicate few to ++ others ≡ replicate many to

fronts : (to : Target) (few many : ℕ) → few ≤ many → Fronts to few many
fronts to zero many less = record { others = replicate many to; are = refl }
fronts to (suc few) zero less = absurd (omega (arith, less))
fronts to (suc few) (suc many) less = let rest = fronts to few many (omega (arith, less)) in record { others = rest.others; are = ap (λ (l : List Target). to ∷ l) rest.are }

pub one_more : (to to2 : Target) (connection : ℕ) (held held2 held3 : List (Held Ticket)) (a b c : Option (List wire.Call)) → to2 ≡ to → 0 < connection
    → LinksGo (replicate (connection - 1) to) held a held2 b → LinksGo (to2 ∷ []) held2 b held3 c → LinksGo (replicate (connection + 1 - 1) to) held a held3 c
one_more to to2 connection held held2 held3 a b c same some one two' =
    let two : LinksGo (to ∷ []) held2 b held3 c = subst (λ (t : Target). LinksGo (t ∷ []) held2 b held3 c) same two' in
    let next : connection - 1 + 1 ≡ connection + 1 - 1 = omega (arith, some) in
    subst (λ (l : List Target). LinksGo l held a held3 c) (replicate_more (connection - 1) to ∙ ap (λ (n : ℕ). replicate n to) next) (links_joined (replicate (connection - 1) to) (to ∷ []) held held2 held3 a b c one two)

pub one_fails : (to to2 : Target) (connection many : ℕ) (held held2 held3 : List (Held Ticket)) (a b c : Option (List wire.Call)) → to2 ≡ to → 0 < connection → connection < many
    → LinksGo (replicate (connection - 1) to) held a held2 b → LinksGoTo (to2 ∷ []) held2 b held3 c → LinksGoTo (replicate (many - 1) to) held a held3 c
one_fails to to2 connection many held held2 held3 a b c same some less one two' =
    let two : LinksGoTo (to ∷ []) held2 b held3 c = subst (λ (t : Target). LinksGoTo (t ∷ []) held2 b held3 c) same two' in
    let next : connection - 1 + 1 ≡ connection = omega (arith, some) in
    let front = fronts to connection (many - 1) (omega (arith, less)) in
    subst (λ (l : List Target). LinksGoTo l held a held3 c) front.are
    (goes_wider (replicate connection to) front.others held held3 a c
    (subst (λ (l : List Target). LinksGoTo l held a held3 c) (replicate_more (connection - 1) to ∙ ap (λ (n : ℕ). replicate n to) next) (goes_before (replicate (connection - 1) to) (to ∷ []) held held2 held3 a b c one two)))

-- the loop is over
pub all_made : (to : Target) (connection many : ℕ) (held held2 : List (Held Ticket)) (a b : Option (List wire.Call)) → many ≤ connection → connection - 1 ≤ many - 1
    → LinksGo (replicate (connection - 1) to) held a held2 b → LinksGo (replicate (many - 1) to) held a held2 b
all_made to connection many held held2 a b end most go =
    let same : connection - 1 ≡ many - 1 = omega (arith, end, most) in
    subst (λ (n : ℕ). LinksGo (replicate n to) held a held2 b) same go

-- To one address, and then to another.

pub both_made : (first second second2 : List Target) (held held2 held3 : List (Held Ticket)) (a b c : Option (List wire.Call)) → second2 ≡ second → LinksGo first held a held2 b → LinksGo second2 held2 b held3 c → LinksGo (first ++ second) held a held3 c
both_made first second second2 held held2 held3 a b c same one two = links_joined first second held held2 held3 a b c one (subst (λ (l : List Target). LinksGo l held2 b held3 c) same two)

pub second_fails : (first second second2 : List Target) (held held2 held3 : List (Held Ticket)) (a b c : Option (List wire.Call)) → second2 ≡ second → LinksGo first held a held2 b → LinksGoTo second2 held2 b held3 c → LinksGoTo (first ++ second) held a held3 c
second_fails first second second2 held held2 held3 a b c same one two = goes_before first second held held2 held3 a b c one (subst (λ (l : List Target). LinksGoTo l held2 b held3 c) same two)

-- From the start on.

many_later : (options : CopyOptions) (from to : Place) (a b c : Option (List wire.Call)) (sides : Sides) → Lasts b c → (sides ≡ one_each) ⊎ HasSettledOn options from to a b sides → (sides ≡ one_each) ⊎ HasSettledOn options from to a c sides
many_later options from to a b c sides lasts (inl one) = inl one
many_later options from to a b c sides lasts (inr on) = inr (record { terms = on.terms; settled = terms_later options from to a b c on.terms lasts on.settled; are = on.are })

pub within_first : (options : CopyOptions) (from to : Place) (held held2 : List (Held Ticket)) (a b : Option (List wire.Call)) → LinksGoTo (from.to ∷ to.to ∷ []) held a held2 b → LinksGoWithin options from to held a held2 b
within_first options from to held held2 a b go = record { sides = one_each; many = inl refl; go = go }

pub within_more : (options : CopyOptions) (from to : Place) (terms : Terms) (held held2 held3 : List (Held Ticket)) (a b c : Option (List wire.Call)) → HasTerms options from to a b terms → LinksGo (from.to ∷ to.to ∷ []) held a held2 b
    → LinksGoTo (replicate (terms.sides.source - 1) from.to ++ replicate (terms.sides.destination - 1) to.to) held2 b held3 c → LinksGoWithin options from to held a held3 c
within_more options from to terms held held2 held3 a b c settled one two = record {
  sides = terms.sides;
  many = inr (record { terms = terms; settled = terms_later options from to a b c terms two.go.lasts settled; are = refl });
  go = goes_before (from.to ∷ to.to ∷ []) (replicate (terms.sides.source - 1) from.to ++ replicate (terms.sides.destination - 1) to.to) held held2 held3 a b c one two;
}

pub as_told : (options : CopyOptions) (from to : Place) (terms : Terms) (held held2 held3 : List (Held Ticket)) (a b c : Option (List wire.Call)) → HasTerms options from to a b terms → LinksGo (from.to ∷ to.to ∷ []) held a held2 b
    → LinksGo (replicate (terms.sides.source - 1) from.to ++ replicate (terms.sides.destination - 1) to.to) held2 b held3 c → Told a b AllConnected → StaysConnected b c → LinksGoAsTold options from to held a held3 c
as_told options from to terms held held2 held3 a b c settled one two first further = record {
  terms = terms;
  settled = terms_later options from to a b c terms two.lasts settled;
  go = links_joined (from.to ∷ to.to ∷ []) (replicate (terms.sides.source - 1) from.to ++ replicate (terms.sides.destination - 1) to.to) held held2 held3 a b c one two;
  connected = further.on a first;
}

pub within_told : (options : CopyOptions) (from to : Place) (held held2 : List (Held Ticket)) (a b : Option (List wire.Call)) → LinksGoAsTold options from to held a held2 b → LinksGoWithin options from to held a held2 b
within_told options from to held held2 a b one = record { sides = one.terms.sides; many = inr (record { terms = one.terms; settled = one.settled; are = refl }); go = goes_all (connected_to from to one.terms.sides) held held2 a b one.go }

pub within_end : (options : CopyOptions) (from to : Place) (held held2 held3 : List (Held Ticket)) (a b c : Option (List wire.Call)) → LinksGoWithin options from to held a held2 b → LinksGo [] held2 b held3 c → LinksGoWithin options from to held a held3 c
within_end options from to held held2 held3 a b c one two = record {
  sides = one.sides;
  many = many_later options from to a b c one.sides two.lasts one.many;
  go = goes_end (connected_to from to one.sides) held held2 held3 a b c one.go two;
}

pub told_end : (options : CopyOptions) (from to : Place) (held held2 held3 : List (Held Ticket)) (a b c : Option (List wire.Call)) → LinksGoAsTold options from to held a held2 b → LinksGo [] held2 b held3 c → LinksGoAsTold options from to held a held3 c
told_end options from to held held2 held3 a b c one two = record {
  terms = one.terms;
  settled = terms_later options from to a b c one.terms two.lasts one.settled;
  go = links_end (connected_to from to one.terms.sides) held held2 held3 a b c one.go two;
  connected = (connected_links held2 held3 b c two).on a one.connected;
}

-- Further connections are made behind those that met.

abbrev pub further_to : (from to : Place) → Sides → List Target
further_to from to sides = replicate (sides.source - 1) from.to ++ replicate (sides.destination - 1) to.to

pub within_met : (copy mid : Seen) (held : List (Held Ticket)) (t u v : Option (List wire.Call)) (terms : Terms) → mid ≡ record copy { held = mid.held; board = mid.board } → HasMet mid t u terms → LinksGo (copy.from.to ∷ copy.to.to ∷ []) copy.held t mid.held u
    → (Stand mid.held → LinksGoTo (further_to mid.from mid.to terms.sides) mid.held u held v) → LinksGoWithin copy.options copy.from copy.to copy.held t held v
within_met copy mid held t u v terms kept met one two =
    let settled : HasTerms copy.options copy.from copy.to t u terms = subst (λ (s : Seen). HasTerms s.options s.from s.to t u terms) kept met.settled in
    within_more copy.options copy.from copy.to terms copy.held mid.held held t u v settled one (subst (λ (s : Seen). LinksGoTo (further_to s.from s.to terms.sides) mid.held u held v) kept (two met.stand))

pub told_met : (copy mid : Seen) (held : List (Held Ticket)) (t u v : Option (List wire.Call)) (terms : Terms) → mid ≡ record copy { held = mid.held; board = mid.board } → HasMet mid t u terms → LinksGo (copy.from.to ∷ copy.to.to ∷ []) copy.held t mid.held u
    → (Stand mid.held → LinksGo (further_to mid.from mid.to terms.sides) mid.held u held v) → Told t u AllConnected → (Stand mid.held → StaysConnected u v) → LinksGoAsTold copy.options copy.from copy.to copy.held t held v
told_met copy mid held t u v terms kept met one two first further =
    let settled : HasTerms copy.options copy.from copy.to t u terms = subst (λ (s : Seen). HasTerms s.options s.from s.to t u terms) kept met.settled in
    as_told copy.options copy.from copy.to terms copy.held mid.held held t u v settled one (subst (λ (s : Seen). LinksGo (further_to s.from s.to terms.sides) mid.held u held v) kept (two met.stand)) first (further met.stand)

-- What the calls of a whole copy are.

begins_nowhere : (to : List Target) (held held2 : List (Held Ticket)) (a b : Option (List wire.Call)) → LinksGo to held a held2 b → Told a b (ConnectTo to)
begins_nowhere to held held2 a b go = go.connects a [] (told_begins a refl)

-- they are the first of those to so many connections
within_so : (options : CopyOptions) (from to : Place) (sides : Sides) (part others : List Target) (a b : Option (List wire.Call)) → connected_to from to sides ≡ part ++ others → (sides ≡ one_each) ⊎ HasSettledOn options from to a b sides → Told a b (ConnectTo part) → Told a b (ConnectsWithin options from to)
within_so options from to sides part others a b are (inl one) told = told_map a b (λ calls is. record { sides = sides; many = inl one; others = others; are = are ∙ ap (λ (l : List Target). l ++ others) (sym is) }) told
within_so options from to sides part others a b are (inr on) told =
    let s = on.settled in
    told_map a b (λ calls both_told. record {
      sides = sides;
      many = inr (record { source = both_told.source; destination = both_told.destination; shown = both_told.shown; shown' = both_told.shown'; none = both_told.none; is = both_told.is.1 });
      others = others;
      are = are ∙ ap (λ (l : List Target). l ++ others) (sym both_told.is.0);
    })
    (first_with (λ source destination calls. ConnectTo part calls × (sides ≡ both.sides_by options source destination)) options from to a b on.terms s (told_map a b (λ calls is. (is, on.are ∙ s.settled.sides)) told))

pub connects_within : (options : CopyOptions) (from to : Place) (held held2 : List (Held Ticket)) (a b : Option (List wire.Call)) → LinksGoWithin options from to held a held2 b → GrewBy (ConnectsWithin options from to) a b
connects_within options from to held held2 a b one = told_part a b (within_so options from to one.sides one.go.to one.go.others a b one.go.are one.many (begins_nowhere one.go.to held held2 a b one.go.go))

pub connects_as_told : (options : CopyOptions) (from to : Place) (held held2 : List (Held Ticket)) (a b : Option (List wire.Call)) → LinksGoAsTold options from to held a held2 b → GrewBy (ConnectsAsTold options from to) a b
connects_as_told options from to held held2 a b one =
    let s = one.settled in
    told_part a b (first_with (λ source destination calls. ConnectTo (connected_to from to (both.sides_by options source destination)) calls) options from to a b one.terms s
    (told_map a b (λ calls is. is ∙ ap (connected_to from to) s.settled.sides) (begins_nowhere (connected_to from to one.terms.sides) held held2 a b one.go)))

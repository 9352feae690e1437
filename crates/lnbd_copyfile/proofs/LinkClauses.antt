-- What a copy of which one side is a file does with its links, from step to step and as a whole.
use Rattle.std.proofs.Common.{◌≡◌, ◌⊎◌, inl, inr, ◌≤◌, ◌-◌, ℕ, Bool, true, false, List, [], ◌∷◌, ◌++◌, Option, Result, Ok, Err, replicate, refl, ap, sym, subst, ◌∙◌}
use Rattle.std.specs.Prelude.{OnOk}
use Rattle.lnbd_model.specs.declared.export.ExportInfo.{ExportInfo}
use Rattle.lnbd_model.specs.declared.target.Place.{Place}
use Rattle.lnbd_model.specs.declared.target.Target.{Target}
use Rattle.lnbd_link.specs.Call as wire
use Rattle.lnbd_link.specs.Count.{Rises, patience}
use Rattle.lnbd_link.specs.Numbers.{is_given}
use Rattle.lnbd_asked.specs.Exports.{name_set}
use Rattle.lnbd_poll.specs.Held.{Held}
use Rattle.lnbd_plan.specs.declared.options.CopyOptions.{CopyOptions}
use Rattle.lnbd_board.specs.declared.ticket.Ticket.{Ticket}
use Rattle.lnbd_board.specs.Files as board
use Rattle.lnbd_course.specs.Asks.{GrewBy}
use Rattle.lnbd_course.specs.Far.{Far}
use Rattle.lnbd_course.proofs.Asking.{not_one}
use Rattle.lnbd_course.proofs.Holding.{one_has}
use Rattle.lnbd_conduct.specs.Grounds.{IsShown}
use Rattle.lnbd_conduct.specs.Links.{AllConnected, ConnectTo}
use Rattle.lnbd_conduct.specs.Told.{Told}
use Rattle.lnbd_copy.specs.Connects.{StaysConnected}
use Rattle.lnbd_copy.specs.Grounds.{Happens}
use Rattle.lnbd_copy.specs.Lasting.{Lasts}
use Rattle.lnbd_copy.specs.Links.{HaveSameLinks, LinksGo}
use Rattle.lnbd_copy.specs.Patient.{StaysPatient}
use Rattle.lnbd_copy.specs.Pauses.{Unpaused}
use Rattle.lnbd_copy.specs.Way.{Stand}
use Rattle.lnbd_copy.proofs.ConnectedLemmas.{connected_begins, connected_links, connected_then}
use Rattle.lnbd_copy.proofs.EndLemmas.{told_part}
use Rattle.lnbd_copy.proofs.GroundLemmas.{driven_at, given_at}
use Rattle.lnbd_copy.proofs.LastLemmas.{at_once, told_later}
use Rattle.lnbd_copy.proofs.LinkLemmas.{links_end, links_kept, links_none}
use Rattle.lnbd_copy.proofs.PatientLemmas.{patient_begins, waited_on, waited_within}
use Rattle.lnbd_copy.proofs.PauseLemmas.{pauses_begin, pauses_then, pauses_unpaused}
use Rattle.lnbd_copy.proofs.SettledLemmas.{told_both}
use Rattle.lnbd_copy.proofs.TurnLemmas.{told_begins, told_map}
use Rattle.lnbd_copy.proofs.VainLemmas.{vain_empty, vain_full}
use Rattle.lnbd_connections.specs.Uses.{Uses, UsesTo}
use Rattle.lnbd_connections.specs.Way.{IsUnderWay, Way}
use Rattle.lnbd_connections.proofs.UseLemmas.{uses_all, uses_before, uses_end, uses_joined, uses_looked, uses_same, uses_then}
use Rattle.lnbd_copyfile.specs.Conduct.{ConductsFar}
use Rattle.lnbd_copyfile.specs.Connects.{ConnectsAsTold, ConnectsWithin, WasInformed, connected_to}
use Rattle.lnbd_copyfile.specs.Linked.{FindsMany, HasSettledOn, UsesAsTold, UsesOn, UsesWithin}

-- no handle is held
pub none_stand : (held : List (Held Ticket)) → held ≡ [] → Stand held
none_stand held none = subst Stand (sym none) (record { seens = []; at = tt })

-- What the first connection was told.

pub shown_told : (far : Far) (way : Way) (now : board.Seen) (calls : List wire.Call) (held : List (Held Ticket)) (info : ExportInfo) → IsUnderWay far way now calls held →
    Happens (IsShown info) 0 held →
    WasInformed way.at info calls
shown_told far way now calls held info on happens =
    let h = happens.on on.seens on.at in
    let between = on.stands in
    let course = between.course in
    let given : is_given h.seen.link calls ≡ true =
    given_at calls h.seen.link (is_given h.seen.link calls) refl (λ none. not_one h.seen.link 0 h.seen on.seens h.there (course.unused h.seen.link none).apart refl) in
    record {
      link = h.seen.link;
      history = h.seen.history;
      drives = driven_at calls 0 h.seen held on.seens h.there on.at course.drive.drive course.drive.plain;
      address = between.placed.address h.seen.link given;
      name = ap name_set (sym (one_has 0 h.seen course.histories on.seens h.there course.held)) ∙ between.placed.name h.seen.link given;
      shown = h.is;
    }

pub settled_on : (far : Far) (way : Way) (now : board.Seen) (held : List (Held Ticket)) (options : CopyOptions) (at : Place) (start told : Option (List wire.Call)) (many : ℕ) → way.at ≡ at →
    FindsMany options many held → Told start told (λ calls. IsUnderWay far way now calls held) → HasSettledOn options at start told many
settled_on far way now held options at start told many is finds on = record {
  info = finds.info;
  shown = told_map start told (λ calls under. at_once calls (subst (λ (p : Place). WasInformed p finds.info calls) is (shown_told far way now calls held finds.info under finds.shown))) on;
  are = finds.are;
}

settled_later : (options : CopyOptions) (at : Place) (a b c : Option (List wire.Call)) (many : ℕ) → Lasts b c → HasSettledOn options at a b many → HasSettledOn options at a c many
settled_later options at a b c many lasts s = record { info = s.info; shown = told_later a b c lasts s.shown; are = s.are }

as_told_later : (options : CopyOptions) (at : Place) (a b c : Option (List wire.Call)) (many : ℕ) → Lasts b c → (many ≡ 1) ⊎ HasSettledOn options at a b many →
    (many ≡ 1) ⊎ HasSettledOn options at a c many
as_told_later options at a b c many lasts (inl one) = inl one
as_told_later options at a b c many lasts (inr s) = inr (settled_later options at a b c many lasts s)

-- Connections are made.

pub within_first : (first : ℕ) (options : CopyOptions) (at : Place) (held held2 : List (Held Ticket)) (a b : Option (List wire.Call)) (i j : ℕ) → UsesTo true first (at.to ∷ []) held a i held2 b j →
    UsesWithin first options at held a i held2 b j
within_first first options at held held2 a b i j uses = record { many = 1; as_told = inl refl; uses = uses }

pub within_more : (first : ℕ) (options : CopyOptions) (at : Place) (many : ℕ) (held held2 held3 : List (Held Ticket)) (a b c : Option (List wire.Call)) (i j k : ℕ) → HasSettledOn options at a b many →
    Uses false first (at.to ∷ []) held a i held2 b j → UsesTo true first (replicate (many - 1) at.to) held2 b j held3 c k → UsesWithin first options at held a i held3 c k
within_more first options at many held held2 held3 a b c i j k settled one two = record {
  many = many;
  as_told = inr (settled_later options at a b c many two.uses.links.lasts settled);
  uses = uses_before true first (at.to ∷ []) (replicate (many - 1) at.to) held held2 held3 a b c i j k one two;
}

pub as_told : (first : ℕ) (options : CopyOptions) (at : Place) (many : ℕ) (held held2 held3 : List (Held Ticket)) (a b c : Option (List wire.Call)) (i j k : ℕ) → HasSettledOn options at a b many →
    Uses false first (at.to ∷ []) held a i held2 b j → Uses false first (replicate (many - 1) at.to) held2 b j held3 c k → StaysConnected a b → StaysConnected b c →
    UsesAsTold false first options at held a i held3 c k
as_told first options at many held held2 held3 a b c i j k settled one two connected connected2 = record {
  many = many;
  settled = settled_later options at a b c many two.links.lasts settled;
  uses = uses_joined false first (at.to ∷ []) (replicate (many - 1) at.to) held held2 held3 a b c i j k one two;
  connected = connected_begins a c (connected_then a b c connected connected2);
}

-- Slices are copied.

pub within_then : (first : ℕ) (options : CopyOptions) (at : Place) (held held2 held3 : List (Held Ticket)) (a b c : Option (List wire.Call)) (i j k : ℕ) →
    UsesAsTold false first options at held a i held2 b j →
    Uses true first [] held2 b j held3 c k → UsesWithin first options at held a i held3 c k
within_then first options at held held2 held3 a b c i j k one two = record {
  many = one.many;
  as_told = inr (settled_later options at a b c one.many two.links.lasts one.settled);
  uses = uses_all true first (connected_to at one.many) held held3 a c i k (uses_end true first (connected_to at one.many) held held2 held3 a b c i j k one.uses two);
}

pub told_then : (last : Bool) (first : ℕ) (options : CopyOptions) (at : Place) (held held2 held3 : List (Held Ticket)) (a b c : Option (List wire.Call)) (i j k : ℕ) →
    UsesAsTold false first options at held a i held2 b j → Uses last first [] held2 b j held3 c k → UsesAsTold last first options at held a i held3 c k
told_then last first options at held held2 held3 a b c i j k one two = record {
  many = one.many;
  settled = settled_later options at a b c one.many two.links.lasts one.settled;
  uses = uses_end last first (connected_to at one.many) held held2 held3 a b c i j k one.uses two;
  connected = (connected_links held2 held3 b c two.links).on a one.connected;
}

-- turn by turn
pub told_on : (first : ℕ) (options : CopyOptions) (at : Place) (held held2 held3 : List (Held Ticket)) (a b c : Option (List wire.Call)) (i j k : ℕ) →
    UsesAsTold true first options at held a i held2 b j →
    UsesOn first held2 b j held3 c k → UsesAsTold true first options at held a i held3 c k
told_on first options at held held2 held3 a b c i j k one two = record {
  many = one.many;
  settled = settled_later options at a b c one.many two.links.lasts one.settled;
  uses = two.on (connected_to at one.many) held a i one.uses;
  connected = (connected_links held2 held3 b c two.links).on a one.connected;
}

pub within_told : (first : ℕ) (options : CopyOptions) (at : Place) (held held2 : List (Held Ticket)) (a b : Option (List wire.Call)) (i j : ℕ) → UsesAsTold true first options at held a i held2 b j →
    UsesWithin first options at held a i held2 b j
within_told first options at held held2 a b i j one = record {
  many = one.many;
  as_told = inr one.settled;
  uses = uses_all true first (connected_to at one.many) held held2 a b i j one.uses;
}

pub on_none : (first : ℕ) (held : List (Held Ticket)) (told : Option (List wire.Call)) (waited : ℕ) → UsesOn first held told waited held told waited
on_none first held told waited = record { links = links_none held told; on = λ to before start had uses. uses }

-- the wires waited for less than is borne before it
pub on_looked : (first : ℕ) (held held2 : List (Held Ticket)) (a b : Option (List wire.Call)) (i j : ℕ) → ¬ Rises patience first i → Uses true first [] held a i held2 b j →
    UsesOn first held a i held2 b j
on_looked first held held2 a b i j not one = record {
  links = one.links;
  on = λ to before start had uses. uses_end true first to before held held2 start a b had i j (uses_looked true first to before held start a had i not uses) one;
}

-- what is so anyway is so where it succeeds
pub ok_anyway : {A E : Type 0} (r : Result A E) (P : Type 0) → P → OnOk r P
ok_anyway (Ok a) P p = p
ok_anyway (Err e) P p = tt

-- handles are asked, and keep their links
pub acted_uses : (last : Bool) (first : ℕ) (held held2 held3 : List (Held Ticket)) (a b : Option (List wire.Call)) (i j : ℕ) → Uses false first [] held a i held2 b j → HaveSameLinks held2 held3 →
    Uses last first [] held a i held3 b j
acted_uses last first held held2 held3 a b i j one same = uses_then last first held held2 held3 a b b i j j one (uses_same last first held2 held3 b j same)

-- The whole.

within_so : (options : CopyOptions) (at : Place) (many : ℕ) (part others : List Target) (a b : Option (List wire.Call)) → connected_to at many ≡ part ++ others →
    (many ≡ 1) ⊎ HasSettledOn options at a b many →
    Told a b (ConnectTo part) → Told a b (ConnectsWithin options at)
within_so options at many part others a b are (inl one) told =
    told_map a b (λ calls is. record { many = many; as_told = inl one; others = others; are = are ∙ ap (λ (l : List Target). l ++ others) (sym is) }) told
within_so options at many part others a b are (inr on) told =
    told_map a b
    (λ calls both. record {
      many = many;
      as_told = inr (record { info = on.info; shown = both.1; is = on.are });
      others = others;
      are = are ∙ ap (λ (l : List Target). l ++ others) (sym both.0);
    }) (told_both a b told on.shown)

pub conducts : (first : ℕ) (options : CopyOptions) (at : Place) (held held2 held3 : List (Held Ticket)) (a b c : Option (List wire.Call)) (i j k : ℕ) → held ≡ [] → held3 ≡ [] → first ≡ i →
    UsesWithin first options at held a i held2 b j → LinksGo [] held2 b held3 c → Unpaused b c → j ≤ k → GrewBy (ConductsFar options at) a c
conducts first options at held held2 held3 a b c i j k none gone from one last unpaused on all part is grown = record {
  links = links_kept one.uses.to held held2 a b c none uses.links (subst (λ (l : List (Held Ticket)). LinksGo [] held2 b l c) gone last) all part is grown;
  within = told_part a c (within_so options at one.many one.uses.to one.uses.others a c one.uses.are (as_told_later options at a b c one.many last.lasts one.as_told) connects) all part is grown;
  writes = told_part a c (vain_full a c (pauses_then a b c uses.vain (pauses_unpaused b c unpaused))) all part is grown;
  reads = told_part a c (vain_empty a c (pauses_then a b c uses.vain (pauses_unpaused b c unpaused))) all part is grown;
  wanted = told_part a c (pauses_begin a c (pauses_then a b c uses.some (pauses_unpaused b c unpaused))) all part is grown;
  patient = told_part a c
      (waited_within true first k a c (waited_on true first j k a b c unpaused on (patient_begins true first first j a b refl (subst (λ (n : ℕ). StaysPatient true first a n b j) (sym from)
      uses.patient)))) all part is grown;
}
  where
    uses : Uses true first one.uses.to held a i held2 b j
    uses = one.uses.uses

    connects : Told a c (ConnectTo one.uses.to)
    connects = (links_end one.uses.to held held2 held3 a b c uses.links last).connects a [] (told_begins a refl)

pub connects_as_told : (first : ℕ) (options : CopyOptions) (at : Place) (held held2 held3 : List (Held Ticket)) (a b c : Option (List wire.Call)) (i j : ℕ) →
    UsesAsTold true first options at held a i held2 b j →
    LinksGo [] held2 b held3 c → GrewBy (ConnectsAsTold options at) a c
connects_as_told first options at held held2 held3 a b c i j one last =
    let on = settled_later options at a b c one.many last.lasts one.settled in
    told_part a c
    (told_map a c (λ calls both. record { info = on.info; shown = both.1; is = both.0 ∙ ap (connected_to at) on.are })
    (told_both a c ((links_end (connected_to at one.many) held held2 held3 a b c one.uses.links last).connects a [] (told_begins a refl)) on.shown))

pub all_connected : (first : ℕ) (options : CopyOptions) (at : Place) (held held2 held3 : List (Held Ticket)) (a b c : Option (List wire.Call)) (i j : ℕ) →
    UsesAsTold true first options at held a i held2 b j →
    LinksGo [] held2 b held3 c → GrewBy AllConnected a c
all_connected first options at held held2 held3 a b c i j one last = told_part a c ((connected_links held2 held3 b c last).on a one.connected)

-- Once all connections of a copy stand, each was told the same export as the first one of its side; and so it stays while no link is made.
use Rattle.std.proofs.Common.{◌≡◌, ◌⊎◌, inl, inr, ◌<◌, ℕ, zero, suc, Bool, true, false, List, [], ◌∷◌, ◌++◌, length, Option, Some, None, slice_get, if◌then◌else◌, refl, ap, sym, subst, ◌∙◌, append_assoc, arith}
use Rattle.std.proofs.lemmas.Bool.{cases_eq}
use Rattle.lnbd_model.specs.declared.export.Context.{Context}
use Rattle.lnbd_model.specs.declared.export.ExportInfo.{ExportInfo}
use Rattle.lnbd_model.specs.declared.state.State.TheVariants as state
use Rattle.lnbd_model.specs.declared.target.Place.{Place}
use Rattle.lnbd_link.specs.Call as wire
use Rattle.lnbd_link.specs.Numbers.{is_given}
use Rattle.lnbd_link.specs.Traffic.{target_of}
use Rattle.lnbd_history.specs.Agreement.{Export, contexts, export, extended, phase, steps, structured}
use Rattle.lnbd_history.specs.declared.kinds.Phase.{Phase}
use Rattle.lnbd_history.specs.declared.kinds.Phase.TheVariants as phases
use Rattle.lnbd_history.specs.Answers.{info_after, info_of, state_after}
use Rattle.lnbd_history.specs.Events.{History}
use Rattle.lnbd_history.specs.History.{reading}
use Rattle.lnbd_machine.specs.Machine.{Machine}
use Rattle.lnbd_standing.specs.Standing.{StandsFor}
use Rattle.lnbd_standing.proofs.Standing.{stands_right}
use Rattle.lnbd_handle.specs.Histories.{max_unretired}
use Rattle.lnbd_asked.specs.Exports.{export_known, name_set}
use Rattle.lnbd_asked.specs.Transcript.{export_at}
use Rattle.lnbd_asked.proofs.Doing.{state_of}
use Rattle.lnbd_drives.specs.Exports.{export_in}
use Rattle.lnbd_poll.specs.Alone.{AreApart}
use Rattle.lnbd_poll.specs.Held.{Held, AreAt}
use Rattle.lnbd_poll.specs.Seen.{Seen}
use Rattle.lnbd_plan.specs.declared.options.CopyOptions.{CopyOptions}
use Rattle.lnbd_board.specs.declared.ticket.Ticket.{Ticket}
use Rattle.lnbd_board.specs.Files as board
use Rattle.lnbd_course.specs.Between.{place_of}
use Rattle.lnbd_course.proofs.Address.{given_stays}
use Rattle.lnbd_course.proofs.Holding.{one_has}
use Rattle.lnbd_conduct.specs.declared.sides.Sides.{Sides}
use Rattle.lnbd_conduct.specs.declared.terms.Terms.{Terms}
use Rattle.lnbd_copy.specs.Agreed.{AreQuiet}
use Rattle.lnbd_conduct.specs.Grounds.{AllAlike, ToldAs, AreSame, IsShown}
use Rattle.lnbd_conduct.specs.Begun.{opened}
use Rattle.lnbd_copy.specs.Copier.{HasMet, beginning}
use Rattle.lnbd_copy.specs.Copier as copier
use Rattle.lnbd_copy.specs.Driven.{beginning_on}
use Rattle.lnbd_conduct.specs.Driven.{WentOn, asks_extents_on}
use Rattle.lnbd_copy.specs.Firsts.{KnowBoth, Knows}
use Rattle.lnbd_copy.specs.Giving.{GivesNone}
use Rattle.lnbd_copy.specs.Grounds.{AllSame, Happened, Happens}
use Rattle.lnbd_conduct.specs.Told.{AtSome, Told}
use Rattle.lnbd_copy.specs.Ready.{IsReadyFor, told_on}
use Rattle.lnbd_copy.specs.Settled.{FindsTerms, HasSettled}
use Rattle.lnbd_copy.specs.Way.{IsOn, Stand, Way}
use Rattle.lnbd_conduct.specs.Sides.{is_source}
use Rattle.lnbd_copy.proofs.DrivenLemmas.{went_there}
use Rattle.lnbd_copy.proofs.GroundLemmas.{driven_at}
use Rattle.lnbd_copy.proofs.LastLemmas.{terms_later, at_once}

-- What a history shows of an export it knows, and the other way round.

none_info : (info : ExportInfo) → None ≡ Some info → ⊥
none_info info e = cc

none_export : (told : Export) → None ≡ Some told → ⊥
none_export told e = cc

told_whole : (told : Option Export) (contexts : List Context) (structured extended : Bool) (info : ExportInfo) → info_of told contexts structured extended ≡ Some info → told ≡ Some (export_in info)
told_whole None contexts structured extended info e = absurd (none_info info e)
told_whole (Some export) contexts structured extended info e = ap (λ (i : Option ExportInfo). whole i) e
  where
    whole : Option ExportInfo → Option Export
    whole None = None
    whole (Some i) = Some (export_in i)

pub shown_knows : (info : ExportInfo) (history : History Ticket) → IsShown info history → export_known history ≡ Some (export_in info)
shown_knows info history shown =
    let at = state_of (reading history).known.stage (phase (reading history).known.turns) shown.ready in
    let all = steps (reading history).known.turns in
    ap (λ (p : Phase). export_at p (export all)) at.1 ∙ told_whole (export all) (contexts all) (structured all) (extended all) info shown.shown

-- it tells of the same export as this
record Tells (info : ExportInfo) (told : Option ExportInfo) : Type 0 where
  other : ExportInfo
  is : told ≡ Some other
  same : AreSame info other

known_tells : (p : Phase) (told : Option Export) (contexts : List Context) (structured extended : Bool) (info : ExportInfo) → export_at p told ≡ Some (export_in info) → Tells info (info_of told contexts structured extended)
known_tells phases.Greeting told contexts structured extended info e = absurd (none_export (export_in info) e)
known_tells (phases.Asked option) told contexts structured extended info e = absurd (none_export (export_in info) e)
known_tells phases.AskedByName told contexts structured extended info e = absurd (none_export (export_in info) e)
known_tells phases.OptMode told contexts structured extended info e = absurd (none_export (export_in info) e)
known_tells (phases.Refused code) told contexts structured extended info e = absurd (none_export (export_in info) e)
known_tells phases.Ready None contexts structured extended info e = absurd (none_export (export_in info) e)
known_tells phases.Ready (Some one) contexts structured extended info e =
    let same : one ≡ export_in info = some_export one (export_in info) e in
    record {
      other = record { size = one.size; flags = one.flags; blocks = one.blocks; name = one.name; description = one.description; contexts = contexts; structured = structured; extended = extended };
      is = refl;
      same = record { size = sym (ap (λ (x : Export). x.size) same); flags = sym (ap (λ (x : Export). x.flags) same); blocks = sym (ap (λ (x : Export). x.blocks) same) };
    }
  where
    some_export : (a b : Export) → Some a ≡ Some b → a ≡ b
    some_export a b e = cc

-- By the handles.

none_some : (seen : Seen Ticket) → None ≡ Some seen → ⊥
none_some seen e = cc

some_same : (one other : Seen Ticket) → Some one ≡ Some other → one ≡ other
some_same one other e = cc

-- A quiet handle that knows an export tells of it, whatever history it stands for.
one_alike : (info : ExportInfo) (handle : Machine Ticket) (history history' : History Ticket) → StandsFor max_unretired history handle → StandsFor max_unretired history' handle → state_after history' ≡ state.Ready → export_known history ≡ Some (export_in info) →
    IsReadyFor info history'
one_alike info handle history history' stands stands' ready known =
    let all = steps (reading history).known.turns in
    let tells : Tells info (info_after history) = known_tells (phase (reading history).known.turns) (export all) (contexts all) (structured all) (extended all) info known in
    let same : info_after history' ≡ info_after history = sym (stands_right max_unretired history' handle stands').info ∙ (stands_right max_unretired history handle stands).info in
    record { other = tells.other; shown = record { ready = ready; shown = same ∙ tells.is }; same = tells.same }

first_alike : (index : ℕ) (info : ExportInfo) (held : List (Held Ticket)) (seens others : List (Seen Ticket)) (seen : Seen Ticket) → AreQuiet held → AreAt held seens → AreAt held others → Knows index info others → slice_get seens index ≡ Some seen → IsReadyFor info seen.history
first_alike index info held [] others seen quiet at at' knows there = absurd (none_some seen there)
first_alike index info held (here ∷ seens) [] seen quiet at at' knows there = absurd (none_some knows.seen knows.there)
first_alike index info [] (here ∷ seens) (last ∷ others) seen quiet at at' knows there = absurd at
first_alike zero info (one ∷ held) (here ∷ seens) (last ∷ others) seen quiet at at' knows there =
    subst (λ (s : Seen Ticket). IsReadyFor info s.history) (some_same here seen there)
    (one_alike info one.handle last.history here.history at'.0.stands at.0.stands ((quiet 0 one refl).ready here.history at.0.stands)
    (subst (λ (s : Seen Ticket). export_known s.history ≡ Some (export_in info)) (sym (some_same last knows.seen knows.there)) knows.known))
first_alike (suc index) info (one ∷ held) (here ∷ seens) (last ∷ others) seen quiet at at' knows there =
    first_alike index info held seens others seen (λ i h is. quiet (suc i) h is) at.1 at'.1 (record { seen = knows.seen; there = knows.there; known = knows.known }) there

pub below_held : (index : ℕ) (held : List (Held Ticket)) (seens : List (Seen Ticket)) (seen : Seen Ticket) → AreAt held seens → slice_get seens index ≡ Some seen → index < length held
below_held index held [] seen at there = absurd (none_some seen there)
below_held index [] (here ∷ seens) seen at there = absurd at
below_held zero (one ∷ held) (here ∷ seens) seen at there = omega arith
below_held (suc index) (one ∷ held) (here ∷ seens) seen at there = let less = below_held index held seens seen at.1 there in omega (arith, less)

shown_same : (one other : ExportInfo) (history : History Ticket) → IsShown one history → IsShown other history → one ≡ other
shown_same one other history shown shown' = some_info (sym shown.shown ∙ shown'.shown)
  where
    some_info : Some one ≡ Some other → one ≡ other
    some_info e = cc

same_then : (a b c : ExportInfo) → AreSame a b → AreSame b c → AreSame a c
same_then a b c one two = record { size = one.size ∙ two.size; flags = one.flags ∙ two.flags; blocks = one.blocks ∙ two.blocks }

module _ (source destination : ExportInfo) (sides : Sides) (held : List (Held Ticket)) (seens : List (Seen Ticket)) (quiet : AreQuiet held) (at : AreAt held seens) (know : KnowBoth source destination held) where
  -- the first of the side that a handle is on
  beside : (b : Bool) (h : Happened (λ history. Unit {0}) (if b then 0 else 1) seens) → IsReadyFor (told_on source destination b) h.seen.history
  beside true h = first_alike 0 source held seens know.seens h.seen quiet at know.at know.first h.there
  beside false h = first_alike 1 destination held seens know.seens h.seen quiet at know.at know.second h.there

  further_alike : (index : ℕ) (seen : Seen Ticket) → AllSame sides (length held) held → 1 < index → slice_get seens index ≡ Some seen → IsReadyFor (told_on source destination (is_source sides index)) seen.history
  further_alike index seen same some there =
      let found = same.on index some (below_held index held seens seen at there) in
      let h = found.shown.on seens at in
      let h' = found.shown'.on seens at in
      let first = beside (is_source sides index) (record { seen = h.seen; there = h.there; is = tt }) in
      let one : first.other ≡ found.one = shown_same first.other found.one h.seen.history first.shown h.is in
      let here : h'.seen ≡ seen = some_same h'.seen seen (sym h'.there ∙ there) in
      record {
        other = found.other;
        shown = subst (λ (s : Seen Ticket). IsShown found.other s.history) here h'.is;
        same = same_then (told_on source destination (is_source sides index)) found.one found.other (subst (AreSame (told_on source destination (is_source sides index))) one first.same) found.is;
      }

  pub each_alike : (index : ℕ) (seen : Seen Ticket) → AllSame sides (length held) held → slice_get seens index ≡ Some seen → IsReadyFor (told_on source destination (is_source sides index)) seen.history
  each_alike zero seen same there = first_alike 0 source held seens know.seens seen quiet at know.at know.first there
  each_alike (suc zero) seen same there = first_alike 1 destination held seens know.seens seen quiet at know.at know.second there
  each_alike (suc (suc index)) seen same there = further_alike (suc (suc index)) seen same (omega arith) there

-- By the calls.

-- the handle of a link
pub record HasLink (link : ℕ) (seens : List (Seen Ticket)) : Type 0 where
  pub index : ℕ
  pub seen : Seen Ticket
  pub there : slice_get seens index ≡ Some seen
  pub is : seen.link ≡ link

pub has_link : (link : ℕ) (seens : List (Seen Ticket)) → (AreApart link seens → ⊥) → HasLink link seens
has_link link [] near = absurd (near tt)
has_link link (seen ∷ others) near = elim (cases_eq seen.link link) [
  | inl same ↦ record { index = 0; seen = seen; there = refl; is = same }
  | inr differ ↦ (let rest = has_link link others (λ apart. near (differ, apart)) in record { index = suc rest.index; seen = rest.seen; there = rest.there; is = rest.is })
]

by_side : (extents : Bool) (from to : Place) (source destination : ExportInfo) (link : ℕ) (calls : List wire.Call) (b : Bool) → ToldAs extents (place_of from to b) (told_on source destination b) link calls → AtSome (ToldAs extents from source link) calls ⊎ AtSome (ToldAs extents to destination link) calls
by_side extents from to source destination link calls true told = inl (at_once calls told)
by_side extents from to source destination link calls false told = inr (at_once calls told)

pub true_false : (b : Bool) → b ≡ true → b ≡ false → ⊥
true_false b e f = cc

all_alike : (source destination : ExportInfo) (way : Way) (now : board.Seen) (calls : List wire.Call) (held : List (Held Ticket)) → AreQuiet held → KnowBoth source destination held → AllSame way.sides (length held) held → IsOn way now calls held → AllAlike way.extents way.from way.to source destination calls
all_alike source destination way now calls held quiet know same on = λ link given.
    let h = has_link link on.seens (λ apart. true_false (is_given link calls) given (on.all link apart)) in
    let between = on.stands.between in
    let course = between.course in
    let seen = h.seen in
    let given' : is_given seen.link calls ≡ true = ap (λ (n : ℕ). is_given n calls) h.is ∙ given in
    let side : on.has seen.link ≡ is_source way.sides h.index = on.sided h.index seen h.there in
    let alike = each_alike source destination way.sides held on.seens quiet on.at know h.index seen same h.there in
    let told : ToldAs way.extents (place_of way.from way.to (is_source way.sides h.index)) (told_on source destination (is_source way.sides h.index)) seen.link calls = record {
      history = seen.history;
      drives = driven_at calls h.index seen held on.seens h.there on.at course.drive.drive course.drive.plain;
      address = subst (λ (b : Bool). target_of seen.link calls ≡ Some (place_of way.from way.to b).to) side (between.placed.address seen.link given');
      name = ap (λ (history : History Ticket). name_set history) (sym (one_has h.index seen course.histories on.seens h.there course.held)) ∙ subst (λ (b : Bool). name_set (course.histories seen.link) ≡ (place_of way.from way.to b).name) side (between.placed.name seen.link given');
      other = alike.other;
      shown = alike.shown;
      same = alike.same;
      began = subst (λ (b : Bool). WentOn (opened (place_of way.from way.to b).name (asks_extents_on seen.link way.extents calls)) seen.history) side (went_there (beginning_on way.extents way.from way.to on.has calls) on.seens h.index seen h.there on.drives.went);
    } in
    by_side way.extents way.from way.to source destination link calls (is_source way.sides h.index) (subst (λ (n : ℕ). ToldAs way.extents (place_of way.from way.to (is_source way.sides h.index)) (told_on source destination (is_source way.sides h.index)) n calls) h.is told)

-- Where all connections stand that were made behind those that met.
pub met_alike : (copy : copier.Seen) (start told : Option (List wire.Call)) (terms : Terms) → (met : HasMet copy start told terms) → AreQuiet copy.held → AllSame terms.sides (length copy.held) copy.held →
    (calls : List wire.Call) → IsOn (beginning copy (Some terms.size) terms.how terms.sides) copy.board calls copy.held → AllAlike copy.options.extents copy.from copy.to met.settled.source met.settled.destination calls
met_alike copy start told terms met quiet same calls on =
    all_alike met.settled.source met.settled.destination (beginning copy (Some terms.size) terms.how terms.sides) copy.board calls copy.held quiet met.know same on

-- What settles the terms is known to the first handle of each side.

knows_shown : (index : ℕ) (info : ExportInfo) (held : List (Held Ticket)) (seens : List (Seen Ticket)) → AreAt held seens → Happens (IsShown info) index held → Knows index info seens
knows_shown index info held seens at happens = let h = happens.on seens at in record { seen = h.seen; there = h.there; known = shown_knows info h.seen.history h.is }

pub terms_known : (options : CopyOptions) (terms : Terms) (held held' : List (Held Ticket)) → held ≡ held' → (finds : FindsTerms options terms held) → Stand held' → KnowBoth finds.source finds.destination held'
terms_known options terms held held' same finds stand =
    subst (KnowBoth finds.source finds.destination) same (known (subst Stand (sym same) stand))
  where
    known : Stand held → KnowBoth finds.source finds.destination held
    known s = record { seens = s.seens; at = s.at; first = knows_shown 0 finds.source held s.seens s.at finds.shown; second = knows_shown 1 finds.destination held s.seens s.at finds.shown' }

-- So it stays while no link is made.

later : {Is : List wire.Call → Type 0} (calls more : List wire.Call) → AtSome Is calls → AtSome Is (calls ++ more)
later calls more is = record { before = is.before; after = is.after ++ more; are = ap (λ (l : List wire.Call). l ++ more) is.are ∙ append_assoc is.before is.after more; is = is.is }

pub alike_later : (extents : Bool) (from to : Place) (source destination : ExportInfo) (calls more : List wire.Call) → ((link : ℕ) → is_given link more ≡ false) → AllAlike extents from to source destination calls → AllAlike extents from to source destination (calls ++ more)
alike_later extents from to source destination calls more none all = λ link given. elim (all link (sym (given_stays link calls more (none link)) ∙ given)) [
  | inl one ↦ inl (later calls more one)
  | inr other ↦ inr (later calls more other)
]

all_later : (extents : Bool) (from to : Place) (source destination : ExportInfo) (start a b : Option (List wire.Call)) → GivesNone a b → Told start a (AllAlike extents from to source destination) → Told start b (AllAlike extents from to source destination)
all_later extents from to source destination start a b gives t = record {
  since = λ all is.
      let g = gives.on all is in
      let since = t.since g.before g.was in
      record {
        before = since.before;
        calls = since.calls ++ g.more;
        was = since.was;
        now = g.are ∙ ap (λ (l : List wire.Call). l ++ g.more) since.now ∙ append_assoc since.before since.calls g.more;
        is = alike_later extents from to source destination since.calls g.more g.none since.is;
      };
}

pub settled_later : (options : CopyOptions) (from to : Place) (start a b : Option (List wire.Call)) (terms : Terms) → GivesNone a b → HasSettled options from to start a terms → HasSettled options from to start b terms
unfolding terms_later
settled_later options from to start a b terms gives s = record {
  first = terms_later options from to start a b terms (record { on = λ all is. let g = gives.on all is in record { before = g.before; after = g.more; are = g.are; is = g.was } }) s.first;
  all = all_later options.extents from to s.first.source s.first.destination start a b gives s.all;
}

-- While handles negotiate, or were told the same as the first of their side, the calls show that those of one side were told the same.
use Rattle.std.proofs.Common.{◌≡◌, ◌⊎◌, inl, inr, ℕ, ◌+◌, ◌<◌, ◌≤◌, zero, suc, Bool, true, false, List, [], ◌∷◌, ◌++◌, length, Option, Some, None, slice_get, if◌then◌else◌, refl, ap, sym, subst, ◌∙◌, arith}
use Rattle.std.proofs.lemmas.Bool.{cases_lt}
use Rattle.lnbd_model.specs.declared.breach.Broken.TheVariants as broken
use Rattle.lnbd_model.specs.declared.export.ExportInfo.{ExportInfo}
use Rattle.lnbd_model.specs.declared.state.State.TheVariants as state
use Rattle.lnbd_model.specs.declared.target.Place.{Place}
use Rattle.lnbd_link.specs.Call as wire
use Rattle.lnbd_link.specs.Numbers.{is_given}
use Rattle.lnbd_link.specs.Traffic.{target_of}
use Rattle.lnbd_history.specs.Answers.{info_after, state_after}
use Rattle.lnbd_history.specs.Events.{History}
use Rattle.lnbd_asked.specs.Exports.{name_set}
use Rattle.lnbd_plan.specs.declared.fault.CopyFault.{CopyFault}
use Rattle.lnbd_plan.specs.declared.fault.CopyFault.TheVariants as fault
use Rattle.lnbd_plan.specs.declared.fault.Rule.{Rule}
use Rattle.lnbd_poll.specs.Held.{Held, AreAt}
use Rattle.lnbd_poll.specs.Seen.{Seen}
use Rattle.lnbd_board.specs.declared.ticket.Ticket.{Ticket}
use Rattle.lnbd_board.specs.Files as board
use Rattle.lnbd_course.specs.Between.{place_of}
use Rattle.lnbd_course.proofs.Holding.{one_has}
use Rattle.lnbd_conduct.specs.declared.sides.Sides.{Sides}
use Rattle.lnbd_copy.specs.Agreed.{AreQuiet}
use Rattle.lnbd_conduct.specs.Grounds.{ToldAs, AreSame, IsShown, needs_no_ground}
use Rattle.lnbd_conduct.specs.Begun.{opened}
use Rattle.lnbd_conduct.specs.Links.{AllConnected}
use Rattle.lnbd_conduct.specs.Decided.{Show}
use Rattle.lnbd_copy.specs.Deciding.{Fits}
use Rattle.lnbd_copy.specs.Driven.{beginning_on}
use Rattle.lnbd_conduct.specs.Driven.{WentOn, asks_extents_on}
use Rattle.lnbd_copy.specs.Giving.{GivesNone}
use Rattle.lnbd_copy.specs.Grounds.{AllSame, FindsBeside, FindsOther, Happened, Happens}
use Rattle.lnbd_conduct.specs.Sides.{first_of, is_source}
use Rattle.lnbd_conduct.specs.Terms.{broken_rule}
use Rattle.lnbd_copy.specs.ToldAlike.{AreAlike, AreFitting, AreHeldFit, FindsUnfit, HaveTold, IsAlikeAt, IsUnfit}
use Rattle.lnbd_conduct.specs.Settled.{AreToldAlike, IsToldOf, NoneBroken, WasToldOf}
use Rattle.lnbd_copy.specs.Way.{IsOn, IsUnderWay, Stand, Way}
use Rattle.lnbd_conduct.specs.Told.{Told}
use Rattle.lnbd_copy.proofs.AlikeLemmas.{alike_later, below_held, has_link, true_false}
use Rattle.lnbd_copy.proofs.DrivenLemmas.{went_there}
use Rattle.lnbd_copy.proofs.GroundLemmas.{differs, driven_at, first_side, seen_same, settles}
use Rattle.lnbd_copy.proofs.LastLemmas.{at_once}
use Rattle.lnbd_copy.proofs.TurnLemmas.{since_on}
use Rattle.lnbd_copy.proofs.TwoLemmas.{two_connected}

-- Looks at the handles.

-- So many of them are alike.
pub record AlikeBelow (sides : Sides) (n : ℕ) (held : List (Held Ticket)) : Type 0 where
  pub on : (index : ℕ) → index < n → IsAlikeAt sides index held

pub none_alike : (sides : Sides) (held : List (Held Ticket)) → AlikeBelow sides 0 held
none_alike sides held = record { on = λ index less. absurd (omega (arith, less)) }

pub alike_more : (sides : Sides) (n : ℕ) (held : List (Held Ticket)) → AlikeBelow sides n held → IsAlikeAt sides n held → AlikeBelow sides (n + 1) held
alike_more sides n held below one = record {
  on = λ index less. elim (cases_lt index n) [
    | inl k ↦ below.on index k
    | inr k ↦ (let same : n ≡ index = omega (arith, less, k) in subst (λ (m : ℕ). IsAlikeAt sides m held) same one)
  ];
}

pub all_below_alike : (sides : Sides) (n : ℕ) (held : List (Held Ticket)) → AlikeBelow sides n held → length held ≤ n → AreAlike sides held
all_below_alike sides n held below all = record { at = λ index less. below.on index (omega (arith, less, all)) }

pub finds_free : (sides : Option Sides) (held : List (Held Ticket)) (why : CopyFault) → needs_no_ground why ≡ true → FindsUnfit sides held why
finds_free sides held why free = record { on = inl free }

pub finds_unlike : (sides : Sides) (held : List (Held Ticket)) → FindsOther sides held → FindsUnfit (Some sides) held (fault.Broke broken.Differs)
finds_unlike sides held other = record { on = inr (inl (record { is = refl; other = other })) }

pub finds_broken : (held : List (Held Ticket)) (source destination : ExportInfo) (rule : Rule) → Happens (IsShown source) 0 held → Happens (IsShown destination) 1 held → broken_rule source destination ≡ Some rule → length held ≡ 2 → (sides : Sides) → FindsUnfit (Some sides) held (fault.Rule rule)
finds_broken held source destination rule shown shown' first two sides =
    record { on = inr (inr (record { rule = rule; is = refl; finds = record { source = source; destination = destination; shown = shown; shown' = shown'; first = first }; two = two })) }

-- One handle.

ready_not : state.Ready ≡ state.Negotiating → ⊥
ready_not e = cc

info_same : (one other : ExportInfo) → Some one ≡ Some other → one ≡ other
info_same one other e = cc

-- It doesn't negotiate where it was shown an export,
not_both : (info : ExportInfo) (index : ℕ) (seens : List (Seen Ticket)) → Happened (IsShown info) index seens → Happened (λ history. state_after history ≡ state.Negotiating) index seens → ⊥
not_both info index seens shown negotiates =
    let same : shown.seen ≡ negotiates.seen = seen_same shown.seen negotiates.seen (sym shown.there ∙ negotiates.there) in
    ready_not (sym shown.is.ready ∙ ap (λ (s : Seen Ticket). state_after s.history) same ∙ negotiates.is)

-- and was shown one alone.
one_shown : (one other : ExportInfo) (index : ℕ) (seens : List (Seen Ticket)) → Happened (IsShown one) index seens → Happened (IsShown other) index seens → one ≡ other
one_shown one other index seens shown shown' =
    let same : shown.seen ≡ shown'.seen = seen_same shown.seen shown'.seen (sym shown.there ∙ shown'.there) in
    info_same one other (sym shown.is.shown ∙ ap (λ (s : Seen Ticket). info_after s.history) same ∙ shown'.is.shown)

-- The first of a side is the first of its own side.
first_first : (sides : Sides) (index : ℕ) → first_of sides (first_of sides index) ≡ first_of sides index
first_first sides index = ap (λ (b : Bool). if b then 0 else 1) (first_side sides index)

-- All handles.

module _ (sides : Sides) (held : List (Held Ticket)) (seens : List (Seen Ticket)) (at : AreAt held seens) (alike : AreAlike sides held) where
  -- what the first of a side was told, if it was
  abbrev of_alike : (n : ℕ) → IsAlikeAt sides n held → Option ExportInfo
  of_alike n (inl negotiates) = None
  of_alike n (inr beside) = Some beside.one

  abbrev info_by : (n : ℕ) → (n < length held) ⊎ (length held ≤ n) → Option ExportInfo
  info_by n (inl less) = of_alike n (alike.at n less)
  info_by n (inr none) = None

  abbrev first_info : (n : ℕ) → Option ExportInfo
  first_info n = info_by n (cases_lt n (length held))

  -- and so it was where one of its side was told
  info_at : (index : ℕ) (beside : FindsBeside AreSame sides index held) (is : IsAlikeAt sides (first_of sides index) held) → of_alike (first_of sides index) is ≡ Some beside.one
  info_at index beside (inl negotiates) = absurd (not_both beside.one (first_of sides index) seens (beside.shown.on seens at) (negotiates.on seens at))
  info_at index beside (inr first) =
      let shown : Happens (IsShown first.one) (first_of sides index) held = subst (λ (n : ℕ). Happens (IsShown first.one) n held) (first_first sides index) first.shown in
      ap (λ (info : ExportInfo). Some info) (one_shown first.one beside.one (first_of sides index) seens (shown.on seens at) (beside.shown.on seens at))

  info_there : (index : ℕ) (beside : FindsBeside AreSame sides index held) (d : (first_of sides index < length held) ⊎ (length held ≤ first_of sides index)) → info_by (first_of sides index) d ≡ Some beside.one
  info_there index beside (inl less) = info_at index beside (alike.at (first_of sides index) less)
  info_there index beside (inr none) =
      let h = beside.shown.on seens at in
      let less = below_held (first_of sides index) held seens h.seen at h.there in
      absurd (omega (arith, less, none))

  -- What both were told fits.
  short : (info : ExportInfo) → Happens (IsShown info) 1 held → length held < 2 → ⊥
  short info shown less =
      let h = shown.on seens at in
      let more = below_held 1 held seens h.seen at h.there in
      omega (arith, less, more)

  none_broken : (source destination : ExportInfo) → Happens (IsShown source) 0 held → Happens (IsShown destination) 1 held → AreFitting held → broken_rule source destination ≡ None
  none_broken source destination shown shown' (inl (inl less)) = absurd (short destination shown' less)
  none_broken source destination shown shown' (inl (inr (inl negotiates))) = absurd (not_both source 0 seens (shown.on seens at) (negotiates.on seens at))
  none_broken source destination shown shown' (inl (inr (inr negotiates))) = absurd (not_both destination 1 seens (shown'.on seens at) (negotiates.on seens at))
  none_broken source destination shown shown' (inr finds) =
      subst (λ (info : ExportInfo). broken_rule info destination ≡ None) (one_shown finds.source source 0 seens (finds.shown.on seens at) (shown.on seens at))
      (subst (λ (info : ExportInfo). broken_rule finds.source info ≡ None) (one_shown finds.destination destination 1 seens (finds.shown'.on seens at) (shown'.on seens at)) finds.first)

  fit_by : (is : IsAlikeAt sides 0 held) (is' : IsAlikeAt sides 1 held) → AreFitting held → NoneBroken (of_alike 0 is) (of_alike 1 is')
  fit_by (inl negotiates) is' fit = tt
  fit_by (inr one) (inl negotiates) fit = tt
  fit_by (inr one) (inr other) fit = none_broken one.one other.one one.shown other.shown fit

  -- no rule is broken where one was told nothing
  none_told : (source : Option ExportInfo) → NoneBroken source None
  none_told None = tt
  none_told (Some source) = tt

  infos_fit : (d : (0 < length held) ⊎ (length held ≤ 0)) (d' : (1 < length held) ⊎ (length held ≤ 1)) → AreFitting held → NoneBroken (info_by 0 d) (info_by 1 d')
  infos_fit (inr none) d' fit = tt
  infos_fit (inl less) (inr none) fit = none_told (of_alike 0 (alike.at 0 less))
  infos_fit (inl less) (inl less') fit = fit_by (alike.at 0 less) (alike.at 1 less') fit

by_side : (extents : Bool) (from to : Place) (told : ℕ → Option ExportInfo) (link : ℕ) (calls : List wire.Call) (b : Bool) → IsToldOf extents (place_of from to b) (told (if b then 0 else 1)) link calls → IsToldOf extents from (told 0) link calls ⊎ IsToldOf extents to (told 1) link calls
by_side extents from to told link calls true is = inl is
by_side extents from to told link calls false is = inr is

module _ (way : Way) (now : board.Seen) (calls : List wire.Call) (held : List (Held Ticket)) (alike : AreAlike way.sides held) (fit : AreFitting held) (on : IsOn way now calls held) where
  -- on its link each handle negotiates still, or was told what the first of its side was
  one_told : (index : ℕ) (seen : Seen Ticket) → slice_get on.seens index ≡ Some seen → is_given seen.link calls ≡ true →
      IsToldOf way.extents (place_of way.from way.to (is_source way.sides index)) (first_info way.sides held on.seens on.at alike (first_of way.sides index)) seen.link calls
  one_told index seen there given =
      let between = on.stands.between in
      let course = between.course in
      let side : on.has seen.link ≡ is_source way.sides index = on.sided index seen there in
      let drives = driven_at calls index seen held on.seens there on.at course.drive.drive course.drive.plain in
      let address : target_of seen.link calls ≡ Some (place_of way.from way.to (is_source way.sides index)).to = subst (λ (b : Bool). target_of seen.link calls ≡ Some (place_of way.from way.to b).to) side (between.placed.address seen.link given) in
      let name : name_set seen.history ≡ (place_of way.from way.to (is_source way.sides index)).name =
      ap (λ (history : History Ticket). name_set history) (sym (one_has index seen course.histories on.seens there course.held)) ∙ subst (λ (b : Bool). name_set (course.histories seen.link) ≡ (place_of way.from way.to b).name) side (between.placed.name seen.link given) in
      let began = subst (λ (b : Bool). WentOn (opened (place_of way.from way.to b).name (asks_extents_on seen.link way.extents calls)) seen.history) side (went_there (beginning_on way.extents way.from way.to on.has calls) on.seens index seen there on.drives.went) in
      elim (alike.at index (below_held index held on.seens seen on.at there)) [
        | inl negotiates ↦
            let h = negotiates.on on.seens on.at in
            inl (record { history = seen.history; drives = drives; address = address; name = name; is = subst (λ (s : Seen Ticket). state_after s.history ≡ state.Negotiating) (seen_same h.seen seen (sym h.there ∙ there)) h.is; began = began })
        | inr beside ↦
            let h = beside.shown'.on on.seens on.at in
            let told : ToldAs way.extents (place_of way.from way.to (is_source way.sides index)) beside.one seen.link calls = record {
              history = seen.history;
              drives = drives;
              address = address;
              name = name;
              other = beside.other;
              shown = subst (λ (s : Seen Ticket). IsShown beside.other s.history) (seen_same h.seen seen (sym h.there ∙ there)) h.is;
              same = beside.is;
              began = began;
            } in
            let was : WasToldOf way.extents (place_of way.from way.to (is_source way.sides index)) (Some beside.one) seen.link calls = at_once calls told in
            inr (subst (λ (o : Option ExportInfo). WasToldOf way.extents (place_of way.from way.to (is_source way.sides index)) o seen.link calls)
            (sym (info_there way.sides held on.seens on.at alike index beside (cases_lt (first_of way.sides index) (length held)))) was)
      ]

  held_told : AreToldAlike way.extents way.from way.to calls
  held_told = record {
    source = first_info way.sides held on.seens on.at alike 0;
    destination = first_info way.sides held on.seens on.at alike 1;
    each = λ link given.
        let h = has_link link on.seens (λ apart. true_false (is_given link calls) given (on.all link apart)) in
        by_side way.extents way.from way.to (first_info way.sides held on.seens on.at alike) link calls (is_source way.sides h.index)
        (subst (λ (n : ℕ). IsToldOf way.extents (place_of way.from way.to (is_source way.sides h.index)) (first_info way.sides held on.seens on.at alike (first_of way.sides h.index)) n calls) h.is
        (one_told h.index h.seen h.there (ap (λ (n : ℕ). is_given n calls) h.is ∙ given)));
    fit = infos_fit way.sides held on.seens on.at alike (cases_lt 0 (length held)) (cases_lt 1 (length held)) fit;
  }

-- Once all were told, each connection was told the same as the first of its side.
pub quiet_same : (sides : Sides) (held : List (Held Ticket)) → Stand held → AreQuiet held → AreAlike sides held → AllSame sides (length held) held
quiet_same sides held stand quiet alike = record { on = λ index some less. go index (alike.at index less) }
  where
    ready_at : (index : ℕ) (all : List (Held Ticket)) (seens : List (Seen Ticket)) (seen : Seen Ticket) → AreQuiet all → AreAt all seens → slice_get seens index ≡ Some seen → state_after seen.history ≡ state.Ready
    ready_at index all [] seen q at there = absurd (none_seen seen there)
      where
        none_seen : (s : Seen Ticket) → None ≡ Some s → ⊥
        none_seen s e = cc
    ready_at index [] (here ∷ others) seen q at there = absurd at
    ready_at zero (one ∷ all) (here ∷ others) seen q at there = subst (λ (s : Seen Ticket). state_after s.history ≡ state.Ready) (seen_same here seen there) ((q 0 one refl).ready here.history at.0.stands)
    ready_at (suc index) (one ∷ all) (here ∷ others) seen q at there = ready_at index all others seen (λ i h is. q (suc i) h is) at.1 there

    go : (index : ℕ) → IsAlikeAt sides index held → FindsBeside AreSame sides index held
    go index (inl negotiates) =
        let h = negotiates.on stand.seens stand.at in
        absurd (ready_not (sym (ready_at index held stand.seens h.seen quiet stand.at h.there) ∙ h.is))
    go index (inr beside) = beside

-- By the calls.

pub told_alike : (extents : Bool) (from to : Place) (calls : List wire.Call) → HaveTold extents from to calls → AreToldAlike extents from to calls
told_alike extents from to calls told = record {
  source = Some told.source;
  destination = Some told.destination;
  each = λ link given. elim (told.all link given) [
    | inl one ↦ inl (inr one)
    | inr other ↦ inr (inr other)
  ];
  fit = told.fit;
}

module _ (parting : Bool) (way : Way) (now : board.Seen) (calls : List wire.Call) (held : List (Held Ticket)) where
  -- Those of one side were told the same, and both what fits, as the handles that are held were while connections are made.
  pub fit_alike : (sides : Option Sides) → IsUnderWay parting way now calls held → AreHeldFit sides held → Fits sides parting way calls → AreToldAlike way.extents way.from way.to calls
  fit_alike None on fit fits = told_alike way.extents way.from way.to calls fits
  fit_alike (Some sides) on fit fits =
      held_told way now calls held (subst (λ (s : Sides). AreAlike s held) (sym fits.1) fit.0) fit.1 (subst (λ (b : Bool). IsUnderWay b way now calls held) fits.0 on)

  -- And what does not fit is shown.
  pub fit_shows : (sides : Option Sides) (why : CopyFault) → IsUnderWay parting way now calls held → AllConnected calls → Fits sides parting way calls → IsUnfit sides held why → Show way.extents way.from way.to why calls
  fit_shows None why on connected fits unfit = absurd unfit
  fit_shows (Some sides) why on connected fits unfit =
      let on' : IsOn way now calls held = subst (λ (b : Bool). IsUnderWay b way now calls held) fits.0 on in
      elim unfit [
        | inl unlike ↦
            let shown : Show way.extents way.from way.to (fault.Broke broken.Differs) calls = differs way now calls held (subst (λ (s : Sides). FindsOther s held) (sym fits.1) unlike.other) on' in
            subst (λ (w : CopyFault). Show way.extents way.from way.to w calls) (sym unlike.is) shown
        | inr out ↦
            let shown : Show way.extents way.from way.to (fault.Rule out.rule) calls = settles way now calls held (Some out.rule) out.finds on' (two_connected way now calls held on' connected out.two) in
            subst (λ (w : CopyFault). Show way.extents way.from way.to w calls) (sym out.is) shown
      ]

-- So it stays while no link is made.
pub fits_more : (sides : Option Sides) (parting : Bool) (way : Way) (calls more : List wire.Call) → ((link : ℕ) → is_given link more ≡ false) → Fits sides parting way calls → Fits sides parting way (calls ++ more)
fits_more None parting way calls more none fits = record { source = fits.source; destination = fits.destination; all = alike_later way.extents way.from way.to fits.source fits.destination calls more none fits.all; fit = fits.fit }
fits_more (Some sides) parting way calls more none fits = fits

-- Where the transcript is told, each call of it fits while connections are made.
pub fits_told : {Is : List wire.Call → Type 0} (start told : Option (List wire.Call)) (sides : Sides) (way : Way) → way.sides ≡ sides → Told start told Is → Told start told (Fits (Some sides) false way)
fits_told start told sides way same on = record { since = λ all is. let s = on.since all is in record { before = s.before; calls = s.calls; was = s.was; now = s.now; is = (refl, same) } }

pub fits_later : (sides : Option Sides) (parting : Bool) (way : Way) (start a b : Option (List wire.Call)) → GivesNone a b → Told start a (Fits sides parting way) → Told start b (Fits sides parting way)
fits_later sides parting way start a b gives t = record {
  since = λ all is.
      let g = gives.on all is in
      let since = t.since g.before g.was in
      since_on start g.before all g.more g.are since (fits_more sides parting way since.calls g.more g.none since.is);
}

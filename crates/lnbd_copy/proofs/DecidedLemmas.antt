-- Before an event for which a copy ends nothing of the kind had come, and with it the calls show the fault.
use Rattle.std.proofs.Common.{◌≡◌, ◌≢◌, ◌⊎◌, inl, inr, ℕ, Bool, true, false, List, ◌++◌, ◌&&◌, Option, Some, None, if◌then◌else◌, refl, ap, sym, subst, ◌∙◌, ◌==◌}
use Rattle.std.proofs.lemmas.Bool.{cases_eq, false≢true, ne_eqb}
use Rattle.lnbd_model.specs.declared.breach.Broken.TheVariants as broken
use Rattle.lnbd_model.specs.declared.errors.TheConstants.{ENOTCONN, EPROTO}
use Rattle.lnbd_model.specs.declared.failure.Failure.{Failure}
use Rattle.lnbd_model.specs.declared.failure.Origin.TheVariants as origin
use Rattle.lnbd_model.specs.declared.state.Cause.{Cause}
use Rattle.lnbd_model.specs.declared.state.Cause.TheVariants as cause
use Rattle.lnbd_model.specs.declared.target.Place.{Place}
use Rattle.lnbd_link.specs.Call as wire
use Rattle.lnbd_poll.specs.Held.{Held}
use Rattle.lnbd_plan.specs.declared.fault.CopyFault.{CopyFault}
use Rattle.lnbd_plan.specs.declared.fault.CopyFault.TheVariants as fault
use Rattle.lnbd_board.specs.declared.ticket.Ticket.{Ticket}
use Rattle.lnbd_board.specs.Files as board
use Rattle.lnbd_tracks.specs.Failing.{failure_by}
use Rattle.lnbd_course.specs.Failed.{SideFails}
use Rattle.lnbd_course.proofs.Unfailed.{unfailed_shows}
use Rattle.lnbd_copy.specs.Decided.{IsDecidedTo}
use Rattle.lnbd_conduct.specs.Decided.{IsDecided, IsDecidedAs, IsUntroubled, Show, is_of_memory}
use Rattle.lnbd_conduct.specs.declared.sides.Sides.{Sides}
use Rattle.lnbd_conduct.specs.Links.{AllConnected}
use Rattle.lnbd_copy.specs.Copier.{IsOnItsWay}
use Rattle.lnbd_copy.specs.Copier as copier
use Rattle.lnbd_copy.specs.Job as work
use Rattle.lnbd_copy.specs.Deciding.{DecidesOn, Fits, IsCalm, Reveals}
use Rattle.lnbd_copy.specs.Grounds.{fault_by, fault_of}
use Rattle.lnbd_conduct.specs.Told.{AtSome, Told}
use Rattle.lnbd_conduct.specs.Grounds.{HasDied, IsGrounded, needs_no_ground}
use Rattle.lnbd_copy.specs.Settled.{HasTerms}
use Rattle.lnbd_conduct.specs.Settled.{IsFlushSettled}
use Rattle.lnbd_copy.specs.Lasting.{Lasts}
use Rattle.lnbd_conduct.specs.Terms as both
use Rattle.lnbd_conduct.specs.declared.terms.Terms.{Terms}
use Rattle.lnbd_plan.specs.declared.options.CopyOptions.{CopyOptions}
use Rattle.lnbd_board.specs.declared.how.How.{How}
use Rattle.lnbd_copy.specs.ToldAlike.{HaveTold}
use Rattle.lnbd_copy.specs.Way.{IsUnderWay, Stand, Way, known_of}
use Rattle.lnbd_copy.proofs.AliveLemmas.{alive_to_end}
use Rattle.lnbd_copy.proofs.CopierLemmas.{told_as}
use Rattle.lnbd_copy.proofs.FailLemmas.{all_stand}
use Rattle.lnbd_copy.proofs.GroundLemmas.{died}
use Rattle.lnbd_copy.proofs.LastLemmas.{terms_later}
use Rattle.lnbd_copy.proofs.SettledLemmas.{first_with}
use Rattle.lnbd_copy.proofs.ToldAlikeLemmas.{fit_alike, fit_shows}
use Rattle.lnbd_copy.proofs.TurnLemmas.{told_map}

-- While no handle is dead, the board was told of no error, each connect gave a link, and those of one side were told the same, nothing came for which a copy ends.
pub calm_untroubled : (sides : Option Sides) (parting : Bool) (way : Way) (now : board.Seen) (calls : List wire.Call) (held : List (Held Ticket)) → IsUnderWay parting way now calls held → IsCalm sides now held → AllConnected calls → Fits sides parting way calls → IsUntroubled way.extents way.how.skip way.flush way.from way.to calls
calm_untroubled sides parting way now calls held on calm connected fits = record {
  alive = alive_to_end parting way now calls held on calm.alive;
  well = unfailed_shows way.from way.to way.how on.has way.slices now calls on.seens way.asked (known_of way) on.stands.told (all_stand held on.seens on.at) calm.well;
  connected = connected;
  alike = fit_alike parting way now calls held sides on calm.fit fits;
}

-- What the calls show.

module _ (extents : Bool) (from to : Place) (calls : List wire.Call) where
  show_death : (death : Cause) → HasDied extents from to death calls → Show extents from to (fault_of death) calls
  show_death (cause.Broke breach) died = died
  show_death (cause.Refused option code) died = died
  show_death cause.Ended died = died
  show_death cause.LinkFailed died = tt

  pub show_free : (why : CopyFault) → needs_no_ground why ≡ true → Show extents from to why calls
  show_free fault.NoMemory free = tt
  show_free (fault.Link before after) free = tt
  show_free (fault.Broke one) free = absurd (false≢true free)
  show_free (fault.Peer option code) free = absurd (false≢true free)
  show_free (fault.Rule rule) free = absurd (false≢true free)
  show_free (fault.Silent idles) free = tt

  abbrev Fails : Failure → Type 0
  Fails why = SideFails from to why calls

  show_error : (error : ℕ) → (error ≢ ENOTCONN → Fails (failure_by error)) → Show extents from to (fault_by error) calls
  show_error error shown = elim (cases_eq error EPROTO) [
    | inl same ↦ (
        let found : Fails (failure_by EPROTO) = subst (λ (n : ℕ). Fails (failure_by n)) same (shown (λ lost. differ (sym same ∙ lost))) in
        let content : Show extents from to (fault.Broke broken.Content) calls = found in
        subst (λ (n : ℕ). Show extents from to (fault_by n) calls) (sym same) content)
    | inr other ↦
        subst (λ (b : Bool). Show extents from to (if b then fault.Broke broken.Content else if error == ENOTCONN then fault.NoMemory else fault.Peer None error) calls) (sym (ne_eqb error EPROTO other)) (others other (cases_eq error ENOTCONN))
  ]
    where
      differ : EPROTO ≡ ENOTCONN → ⊥
      differ e = cc

      lost : error ≡ ENOTCONN → Show extents from to (if error == ENOTCONN then fault.NoMemory else fault.Peer None error) calls
      lost same =
          let nothing : Show extents from to fault.NoMemory calls = tt in
          subst (λ (n : ℕ). Show extents from to (if n == ENOTCONN then fault.NoMemory else fault.Peer None n) calls) (sym same) nothing

      refused : error ≢ EPROTO → error ≢ ENOTCONN → Show extents from to (if error == ENOTCONN then fault.NoMemory else fault.Peer None error) calls
      refused lawful there =
          let is : failure_by error ≡ record { origin = origin.Told; error = error } =
          ap (λ (b : Bool). record { origin = if b then origin.Content else if error == ENOTCONN then origin.Lost else origin.Told; error = error }) (ne_eqb error EPROTO lawful)
          ∙ ap (λ (b : Bool). record { origin = if b then origin.Lost else origin.Told; error = error }) (ne_eqb error ENOTCONN there) in
          let peer : Show extents from to (fault.Peer None error) calls = subst Fails is (shown there) in
          subst (λ (b : Bool). Show extents from to (if b then fault.NoMemory else fault.Peer None error) calls) (sym (ne_eqb error ENOTCONN there)) peer

      others : error ≢ EPROTO → (error ≡ ENOTCONN) ⊎ (error ≡ ENOTCONN → ⊥) → Show extents from to (if error == ENOTCONN then fault.NoMemory else fault.Peer None error) calls
      others lawful (inl same) = lost same
      others lawful (inr there) = refused lawful there

pub show_revealed : (sides : Option Sides) (parting : Bool) (way : Way) (now : board.Seen) (calls : List wire.Call) (held : List (Held Ticket)) (why : CopyFault) (index : ℕ) → IsUnderWay parting way now calls held → AllConnected calls → Fits sides parting way calls → Reveals sides index now held why →
    ((error : ℕ) → now.error ≡ Some error → error ≢ ENOTCONN → SideFails way.from way.to (failure_by error) calls) → Show way.extents way.from way.to why calls
show_revealed sides parting way now calls held why index on connected fits reveals shown = elim reveals.on [
  | inl free ↦ show_free way.extents way.from way.to calls why free
  | inr (inl dead) ↦ subst (λ (w : CopyFault). Show way.extents way.from way.to w calls) (sym dead.is) (show_death way.extents way.from way.to calls dead.death (died parting way now calls held dead.index dead.death on dead.dead))
  | inr (inr (inl of)) ↦ subst (λ (w : CopyFault). Show way.extents way.from way.to w calls) (sym of.is) (show_error way.extents way.from way.to calls of.error (λ there. shown of.error of.told there))
  | inr (inr (inr unfit)) ↦ fit_shows parting way now calls held sides why on connected fits unfit
]

-- What the event decides is so of a front of the calls.

at_event : (options : CopyOptions) (from to : Place) (why : CopyFault) (calls : List wire.Call) → IsDecidedAs options from to why calls → AtSome (Show options.extents from to why) calls
at_event options from to why calls d = record { before = d.by.before ++ d.by.event; after = d.by.after; are = d.by.are; is = d.by.shows }

module _ (start told : Option (List wire.Call)) (options : CopyOptions) (from to : Place) where
  -- where it is told
  at_some : (why : CopyFault) → is_of_memory why ≡ false → IsDecided start told options from to why → Told start told (AtSome (Show options.extents from to why))
  at_some why other d = told_as start told (λ calls by. at_event options from to why calls by) (d.on other)

  pub decided_grounded : (why : CopyFault) → IsDecided start told options from to why → IsGrounded start told options.extents from to why
  decided_grounded fault.NoMemory d = record { shown = tt }
  decided_grounded (fault.Link before after) d = record { shown = tt }
  decided_grounded (fault.Broke (broken.Breach breach)) d = record { shown = at_some (fault.Broke (broken.Breach breach)) refl d }
  decided_grounded (fault.Broke broken.Content) d = record { shown = at_some (fault.Broke broken.Content) refl d }
  decided_grounded (fault.Broke broken.Ended) d = record { shown = at_some (fault.Broke broken.Ended) refl d }
  decided_grounded (fault.Broke broken.Differs) d = record { shown = at_some (fault.Broke broken.Differs) refl d }
  decided_grounded (fault.Peer None code) d = record { shown = at_some (fault.Peer None code) refl d }
  decided_grounded (fault.Peer (Some option) code) d = record { shown = at_some (fault.Peer (Some option) code) refl d }
  decided_grounded (fault.Rule rule) d = record { shown = at_some (fault.Rule rule) refl d }
  decided_grounded (fault.Silent idles) d = record { shown = tt }

-- The connections of a copy on its way were all told the same.
pub way_fits : (copy : copier.Seen) (start told : Option (List wire.Call)) → (on : IsOnItsWay start told copy) → Told start told (Fits None (work.is_parting on.job.phase) on.way)
way_fits copy start told on =
    subst (λ (t : Place). Told start told (HaveTold on.way.extents on.way.from t)) (sym on.to)
    (subst (λ (f : Place). Told start told (HaveTold on.way.extents f copy.to)) (sym on.from)
    (subst (λ (e : Bool). Told start told (HaveTold e copy.from copy.to)) (sym on.extents)
    (told_as start told (λ calls all. record { source = on.settled.first.source; destination = on.settled.first.destination; all = all; fit = on.settled.first.none }) on.settled.all)))

-- What is so of a flush that is settled by what both sides told.
pub told_flush : {Is : List wire.Call → Type 0} (options : CopyOptions) (from to : Place) (start told : Option (List wire.Call)) (flush : Bool) (terms : Terms) → HasTerms options from to start told terms → flush ≡ terms.flush → Told start told Is →
    Told start told (λ calls. IsFlushSettled options from to flush calls × Is calls)
told_flush {Is} options from to start told flush terms s same is =
    told_map start told (λ calls all. (inr (record { source = all.source; destination = all.destination; shown = all.shown; shown' = all.shown'; none = all.none; is = all.is.0 }), all.is.1))
    (first_with (λ source destination calls. (flush ≡ (options.flush && both.takes_flush destination)) × Is calls) options from to start told terms s (told_map start told (λ calls one. (same ∙ s.settled.flush, one)) is))

-- The options are those of the copy.
module _ (copy : copier.Seen) (start : Option (List wire.Call)) (a b : Option (List wire.Call)) (on : IsOnItsWay start a copy) where
  pub way_as : (Is : (extents blank : Bool) (from to : Place) → Type 0) → Is on.way.extents on.way.how.skip on.way.from on.way.to → Is copy.options.extents copy.options.destination_is_zero copy.from copy.to
  way_as Is is =
      subst (λ (k : Bool). Is copy.options.extents k copy.from copy.to) (ap (λ (h : How). h.skip) on.is.how ∙ on.wished.skip)
      (subst (λ (e : Bool). Is e on.way.how.skip copy.from copy.to) on.extents
      (subst (λ (t : Place). Is on.way.extents on.way.how.skip copy.from t) on.to (subst (λ (f : Place). Is on.way.extents on.way.how.skip f on.way.to) on.from is)))

  pub way_told : {Is : List wire.Call → Type 0} → Lasts a b → Told start b Is → Told start b (λ calls. IsFlushSettled copy.options copy.from copy.to on.way.flush calls × Is calls)
  way_told lasts is = told_flush copy.options copy.from copy.to start b on.way.flush on.job.terms (terms_later copy.options copy.from copy.to start a b on.job.terms lasts on.settled.first) on.is.wants is

-- What decides a turn that fails is so of a copy on its way.
pub way_decided : (copy : copier.Seen) (start a b : Option (List wire.Call)) (why : CopyFault) → ((parting : Bool) → DecidesOn None parting copy.board copy.held a b why) → (Stand copy.held → Lasts a b) → IsOnItsWay start a copy → IsDecided start b copy.options copy.from copy.to why
way_decided copy start a b why decides lasts on = record {
  on = λ other. told_map start b (λ calls all. record { flush = on.way.flush; wanted = all.0; by = all.1 })
      (way_told copy start a b on (lasts on.stand)
      ((way_as copy start a b on (λ extents blank from to. IsDecidedTo start b extents blank on.way.flush from to why) ((decides (work.is_parting on.job.phase)).on on.way start on.stand on.connected on.on (way_fits copy start a on))).on other));
}

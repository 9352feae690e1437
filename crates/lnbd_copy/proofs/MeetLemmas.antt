-- While a copy makes its connections it ends by the first event for which it ends, and by what both sides told where nothing came before.
use Rattle.std.proofs.Common.{◌≡◌, ℕ, Bool, true, false, List, [], ◌∷◌, length, Option, Some, None, refl, sym, subst}
use Rattle.lnbd_link.specs.Call as wire
use Rattle.lnbd_plan.specs.declared.fault.CopyFault.{CopyFault}
use Rattle.lnbd_plan.specs.declared.fault.CopyFault.TheVariants as fault
use Rattle.lnbd_poll.specs.Held.{Held}
use Rattle.lnbd_board.specs.declared.ticket.Ticket.{Ticket}
use Rattle.lnbd_board.specs.Files as board
use Rattle.lnbd_conduct.specs.declared.sides.Sides.{Sides}
use Rattle.lnbd_conduct.specs.declared.terms.Terms.{Terms}
use Rattle.lnbd_conduct.specs.Links.{AllConnected, ConnectTo}
use Rattle.lnbd_copy.specs.Copier.{GoesFurther, HasMet, HasNotBegun, beginning}
use Rattle.lnbd_copy.specs.Copier as copier
use Rattle.lnbd_copy.specs.Decided.{IsDecidedTo}
use Rattle.lnbd_conduct.specs.Decided.{IsDecided}
use Rattle.lnbd_copy.specs.Deciding.{DecidesFurther, DecidesOn, IsCalm}
use Rattle.lnbd_copy.specs.Grounds.{IsRefused}
use Rattle.lnbd_copy.specs.Links.{LinksGo}
use Rattle.lnbd_copy.specs.Opening.{Dials}
use Rattle.lnbd_copy.specs.Way.{Goes, IsOn, Way}
use Rattle.lnbd_conduct.specs.Told.{Told}
use Rattle.lnbd_copy.proofs.ConnectedLemmas.{connected_begins}
use Rattle.lnbd_copy.proofs.CopierLemmas.{begins_on, first_on, no_handles, one_connects, second_connects, second_on, told_as, two_connect, two_on, with_held}
use Rattle.lnbd_copy.proofs.DecidedLemmas.{calm_untroubled}
use Rattle.lnbd_copy.proofs.DecidingLemmas.{first_decided, found_then, no_memory}
use Rattle.lnbd_copy.proofs.DrivingLemmas.{wished_how}
use Rattle.lnbd_copy.proofs.GroundLemmas.{dials_second, goes_first, one_side, settles}
use Rattle.lnbd_copy.proofs.SettledLemmas.{told_both}
use Rattle.lnbd_copy.proofs.ToldAlikeLemmas.{fits_told}
use Rattle.lnbd_copy.proofs.TurnLemmas.{told_begins}

-- What both sides told.

refused_decided : (way : Way) (now : board.Seen) (held : List (Held Ticket)) (start told : Option (List wire.Call)) (why : CopyFault) → IsRefused held why → IsCalm (Some way.sides) now held → Told start told AllConnected → Told start told (λ calls. IsOn way now calls held) →
    Told start told (ConnectTo (way.from.to ∷ way.to.to ∷ [])) → IsDecidedTo start told way.extents way.how.skip way.flush way.from way.to why
refused_decided way now held start told fault.NoMemory is calm connected on only = no_memory way.extents way.how.skip way.flush way.from way.to fault.NoMemory start told refl
refused_decided way now held start told (fault.Link before after) is calm connected on only = absurd is.found
refused_decided way now held start told (fault.Broke one) is calm connected on only = absurd is.found
refused_decided way now held start told (fault.Rule rule) is calm connected on only = record {
  on = λ other. told_as start told
      (λ calls at. found_then way.extents way.how.skip way.flush way.from way.to (fault.Rule rule) calls (calm_untroubled (Some way.sides) false way now calls held at.0.0 calm at.1 (refl, refl)) (settles way now calls held (Some rule) is.found at.0.0 at.0.1)) (told_both start told (told_both start told on only) connected);
}
refused_decided way now held start told (fault.Peer option code) is calm connected on only = absurd is.found
refused_decided way now held start told (fault.Silent idles) is calm connected on only = absurd is.found

-- The first connection of each side.

-- A step fails before the source's,
pub begins_decided : (s0 : copier.Seen) (t c : Option (List wire.Call)) (why : CopyFault) → HasNotBegun s0 → DecidesOn (Some one_side) false s0.board s0.held t c why → IsDecided t c s0.options s0.from s0.to why
begins_decided s0 t c why none d = first_decided s0.options s0.from s0.to why t c (d.on (beginning s0 None (wished_how s0) one_side) t (no_handles s0 none) (told_begins t refl) (told_begins t (begins_on s0 (wished_how s0) one_side none)) (told_begins t (refl, refl)))

module _ (s0 s1 : copier.Seen) (t u : Option (List wire.Call)) (same : s1.board ≡ s0.board) (first : Dials s0.from s0.options.extents s0.board s0.held t s1.held u) (none : HasNotBegun s0) where
  abbrev way : Way
  way = beginning s0 None (wished_how s0) one_side

  first_is_on : Told t u (λ calls. IsOn way s1.board calls s1.held)
  first_is_on = subst (λ (b : board.Seen). Told t u (λ calls. IsOn way b calls s1.held)) (sym same) (first_on s0 s1.held t u (wished_how s0) one_side none first)

  -- or behind it,
  pub source_decided : (c : Option (List wire.Call)) (why : CopyFault) → DecidesOn (Some one_side) false s1.board s1.held u c why → IsDecided t c s0.options s0.from s0.to why
  source_decided c why d = first_decided s0.options s0.from s0.to why t c (d.on way t (first.stand (no_handles s0 none)) (connected_begins t u first.connected) first_is_on (fits_told t u one_side way refl first_is_on))

  module _ (s2 : copier.Seen) (v : Option (List wire.Call)) (one : Goes s1.board s1.held u s2.board s2.held v) where
    -- before the destination's,
    pub second_decided : (c : Option (List wire.Call)) (why : CopyFault) → DecidesOn (Some one_side) false s2.board s2.held v c why → IsDecided t c s0.options s0.from s0.to why
    second_decided c why d =
        let stand = first.stand (no_handles s0 none) in
        let on = one.on false way t stand first_is_on in
        first_decided s0.options s0.from s0.to why t c (d.on way t (one.stand stand) (one_connects s0 s2.board s1.held s2.held t u v none first (goes_first s0 s1 s2 u v same one)) on (fits_told t v one_side way refl on))

    module _ (s3 : copier.Seen) (w : Option (List wire.Call)) (k1 : s1 ≡ with_held s0 s1) (k2 : s2 ≡ with_held s1 s2) (b3 : s3.board ≡ s2.board) (second : Dials s2.to false s2.board s2.held v s3.held w) where
      -- or behind that,
      pub destination_decided : (c : Option (List wire.Call)) (why : CopyFault) → DecidesOn (Some one_side) false s3.board s3.held w c why → IsDecided t c s0.options s0.from s0.to why
      destination_decided c why d =
          let both = second_on s0 s2.board s1.held s2.held s3.held t u v w (wished_how s0) one_side none first (goes_first s0 s1 s2 u v same one) (dials_second s0 s1 s2 s3 v w k1 k2 second) in
          let on : Told t w (λ calls. IsOn way s3.board calls s3.held) = subst (λ (b : board.Seen). Told t w (λ calls. IsOn way b calls s3.held)) (sym b3) both.1 in
          first_decided s0.options s0.from s0.to why t c (d.on way t both.0 (second_connects s0 s2.board s1.held s2.held s3.held t u v w none first (goes_first s0 s1 s2 u v same one) (dials_second s0 s1 s2 s3 v w k1 k2 second)) on (fits_told t w one_side way refl on))

      -- or what both were told is refused.
      pub terms_decided : (s4 : copier.Seen) (x : Option (List wire.Call)) (held : List (Held Ticket)) (why : CopyFault) → held ≡ s4.held → Goes s3.board s3.held w s4.board s4.held x → LinksGo (s0.from.to ∷ s0.to.to ∷ []) s0.held t s4.held x → IsCalm (Some one_side) s4.board s4.held → IsRefused held why →
          IsDecided t x s0.options s0.from s0.to why
      terms_decided s4 x held why here two connects calm found =
          let two' : Goes s2.board s3.held w s4.board s4.held x = subst (λ (b : board.Seen). Goes b s3.held w s4.board s4.held x) b3 two in
          first_decided s0.options s0.from s0.to why t x (refused_decided way s4.board s4.held t x why (subst (λ (l : List (Held Ticket)). IsRefused l why) here found) calm
          (two_connect s0 s2.board s4.board s1.held s2.held s3.held s4.held t u v w x none first (goes_first s0 s1 s2 u v same one) (dials_second s0 s1 s2 s3 v w k1 k2 second) two')
          (two_on s0 s2.board s4.board s1.held s2.held s3.held s4.held t u v w x (wished_how s0) one_side none first (goes_first s0 s1 s2 u v same one) (dials_second s0 s1 s2 s3 v w k1 k2 second) two')
          (connects.connects t [] (told_begins t refl)))

-- Further connections.

module _ (copy : copier.Seen) (sides : Sides) (first : ℕ) (why : CopyFault) where
  pub further_decides : (now : board.Seen) (held : List (Held Ticket)) (a b c : Option (List wire.Call)) → GoesFurther copy sides first copy.board copy.held a now held b → DecidesOn (Some sides) false now held b c why → DecidesFurther copy sides first a c why
  further_decides now held a b c further d = record {
    on = λ size how start stand count connected is.
        let on = further.on size how start stand count is in
        d.on (beginning copy size how sides) start (further.stand stand) ((further.connected stand).on start connected) on (fits_told start b sides (beginning copy size how sides) refl on);
  }

  -- and behind these others
  pub behind_decides : (mid : copier.Seen) (second : ℕ) (a b c : Option (List wire.Call)) → mid ≡ with_held copy mid → GoesFurther copy sides first copy.board copy.held a mid.board mid.held b → DecidesFurther mid sides second b c why → (length copy.held ≡ first → length mid.held ≡ second) → DecidesFurther copy sides first a c why
  behind_decides mid second a b c kept further d many =
      let same : DecidesFurther (with_held copy mid) sides second b c why = subst (λ (s : copier.Seen). DecidesFurther s sides second b c why) kept d in
      record { on = λ size how start stand count connected is. same.on size how start (further.stand stand) (many count) ((further.connected stand).on start connected) (further.on size how start stand count is) }

pub further_decided : (copy : copier.Seen) (sides : Sides) (start a c : Option (List wire.Call)) (why : CopyFault) → DecidesFurther copy sides 2 a c why → (terms : Terms) → HasMet copy start a terms → sides ≡ terms.sides → length copy.held ≡ 2 → IsDecided start c copy.options copy.from copy.to why
further_decided copy sides start a c why d terms met same two =
    first_decided copy.options copy.from copy.to why start c
    (subst (λ (b : Bool). IsDecidedTo start c copy.options.extents b true copy.from copy.to why) met.wished.skip
    (d.on (Some terms.size) terms.how start met.stand two met.connected (subst (λ (x : Sides). Told start a (λ calls. IsOn (beginning copy (Some terms.size) terms.how x) copy.board calls copy.held)) (sym same) met.on)))

-- the exports and the options are the same
pub decided_met : (copy now : copier.Seen) (start told : Option (List wire.Call)) (why : CopyFault) → now ≡ with_held copy now → IsDecided start told now.options now.from now.to why → IsDecided start told copy.options copy.from copy.to why
decided_met copy now start told why kept d = subst (λ (s : copier.Seen). IsDecided start told s.options s.from s.to why) kept d

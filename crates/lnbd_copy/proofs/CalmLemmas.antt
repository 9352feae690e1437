-- While connections are made nothing comes for which a copy ends but in a turn: one connection more negotiates, and tells nothing yet.
use Rattle.std.proofs.Common.{◌≡◌, inl, inr, ℕ, zero, suc, ◌+◌, ◌<◌, Bool, true, false, List, [], ◌∷◌, ◌++◌, length, Some, None, slice_get, refl, ap, sym, subst, ◌∙◌, arith}
use Rattle.std.proofs.lemmas.Bool.{cases_lt}
use Rattle.lnbd_model.specs.declared.state.Cause.{Cause}
use Rattle.lnbd_model.specs.declared.state.State.TheVariants as state
use Rattle.lnbd_history.specs.Answers.{state_after}
use Rattle.lnbd_history.specs.Events.{History}
use Rattle.lnbd_machine.specs.Machine.{Machine}
use Rattle.lnbd_standing.specs.Standing.{StandsFor}
use Rattle.lnbd_standing.proofs.Standing.{stands_right}
use Rattle.lnbd_handle.specs.Histories.{ForEach, max_unretired}
use Rattle.lnbd_poll.specs.Held.{Held, AreAt}
use Rattle.lnbd_poll.specs.Seen.{Seen}
use Rattle.lnbd_board.specs.declared.ticket.Ticket.{Ticket}
use Rattle.lnbd_board.specs.Files as board
use Rattle.lnbd_conduct.specs.Begun.{opened}
use Rattle.lnbd_conduct.specs.Connects.{one_each}
use Rattle.lnbd_conduct.specs.Driven.{IsAlive}
use Rattle.lnbd_conduct.specs.Grounds.{IsShown}
use Rattle.lnbd_conduct.specs.declared.sides.Sides.{Sides}
use Rattle.lnbd_copy.specs.Deciding.{IsCalm}
use Rattle.lnbd_copy.specs.Grounds.{Happens}
use Rattle.lnbd_copy.specs.ToldAlike.{AreAlike, AreFitting, IsAlikeAt, IsUnsettled}
use Rattle.lnbd_copy.proofs.TurnLemmas.{none_some}

abbrev Negotiates : History Ticket → Type 0
Negotiates history = state_after history ≡ state.Negotiating

none_held : (one : Held Ticket) → None ≡ Some one → ⊥
none_held one e = cc

some_held : (one other : Held Ticket) → Some one ≡ Some other → one ≡ other
some_held one other e = cc

negotiating_dead : (why : Cause) → state.Negotiating ≡ state.Dead why → ⊥
negotiating_dead why e = cc

-- A handle that was just opened negotiates, by whatever history it stands for.
module _ (name : List ℕ) (extents : Bool) (handle : Machine Ticket) (stands : StandsFor max_unretired (opened name extents) handle) where
  begins : (e : Bool) → state_after (opened name e) ≡ state.Negotiating
  begins true = refl
  begins false = refl

  negotiates : ForEach handle Negotiates
  negotiates history other =
      sym (stands_right max_unretired history handle other).state ∙ (stands_right max_unretired (opened name extents) handle stands).state ∙ begins extents

  lives : ForEach handle IsAlive
  lives history other why dead = negotiating_dead why (sym (negotiates history other) ∙ dead)

-- What stood before it, and where it stands, among those that stand now.
record Behind (held : List (Held Ticket)) (one : Held Ticket) (seens : List (Seen Ticket)) : Type 0 where
  front : List (Seen Ticket)
  at : AreAt held front
  still : (index : ℕ) (seen : Seen Ticket) → slice_get front index ≡ Some seen → slice_get seens index ≡ Some seen
  last : Seen Ticket
  there : slice_get seens (length held) ≡ Some last
  stands : StandsFor max_unretired last.history one.handle

behind : (held : List (Held Ticket)) (one : Held Ticket) (seens : List (Seen Ticket)) → AreAt (held ++ one ∷ []) seens → Behind held one seens
behind [] one [] at = absurd at
behind [] one (seen ∷ others) at = record { front = []; at = tt; still = λ index here is. absurd (none_some here is); last = seen; there = refl; stands = at.0.stands }
behind (first ∷ held) one [] at = absurd at
behind (first ∷ held) one (seen ∷ others) at =
    let b = behind held one others at.1 in
    record { front = seen ∷ b.front; at = (at.0, b.at); still = still b; last = b.last; there = b.there; stands = b.stands }
  where
    still : (b : Behind held one others) (index : ℕ) (here : Seen Ticket) → slice_get (seen ∷ b.front) index ≡ Some here → slice_get (seen ∷ others) index ≡ Some here
    still b zero here is = is
    still b (suc index) here is = b.still index here is

happens_more : (Is : History Ticket → Type 0) (index : ℕ) (held : List (Held Ticket)) (one : Held Ticket) → Happens Is index held → Happens Is index (held ++ one ∷ [])
happens_more Is index held one happens = record {
  on = λ seens at.
      let b = behind held one seens at in
      let was = happens.on b.front b.at in
      record { seen = was.seen; there = b.still index was.seen was.there; is = was.is };
}

happens_last : (Is : History Ticket → Type 0) (held : List (Held Ticket)) (one : Held Ticket) → ForEach one.handle Is → Happens Is (length held) (held ++ one ∷ [])
happens_last Is held one each = record {
  on = λ seens at.
      let b = behind held one seens at in
      record { seen = b.last; there = b.there; is = each b.last.history b.stands };
}

alive_more : (held : List (Held Ticket)) (one : Held Ticket) → ForEach one.handle IsAlive → ((index : ℕ) (other : Held Ticket) → slice_get held index ≡ Some other → ForEach other.handle IsAlive) →
    (index : ℕ) (other : Held Ticket) → slice_get (held ++ one ∷ []) index ≡ Some other → ForEach other.handle IsAlive
alive_more [] one fresh all zero other is = subst (λ (h : Held Ticket). ForEach h.handle IsAlive) (some_held one other is) fresh
alive_more [] one fresh all (suc index) other is = absurd (none_held other is)
alive_more (first ∷ held) one fresh all zero other is = all zero other is
alive_more (first ∷ held) one fresh all (suc index) other is = alive_more held one fresh (λ i h e. all (suc i) h e) index other is

length_more : (held : List (Held Ticket)) (one : Held Ticket) → length (held ++ one ∷ []) ≡ length held + 1
length_more [] one = refl
length_more (first ∷ held) one = ap suc (length_more held one) ∙ suc_more (length held)
  where
    suc_more : (n : ℕ) → suc (n + 1) ≡ suc n + 1
    suc_more n = omega arith

module _ (sides : Sides) (held : List (Held Ticket)) (one : Held Ticket) (fresh : ForEach one.handle Negotiates) where
  alike_before : (index : ℕ) → IsAlikeAt sides index held → IsAlikeAt sides index (held ++ one ∷ [])
  alike_before index (inl still) = inl (happens_more Negotiates index held one still)
  alike_before index (inr beside) = inr (record {
    one = beside.one;
    other = beside.other;
    shown = happens_more (IsShown beside.one) _ held one beside.shown;
    shown' = happens_more (IsShown beside.other) index held one beside.shown';
    is = beside.is;
  })

  alike_with : AreAlike sides held → AreAlike sides (held ++ one ∷ [])
  alike_with alike = record {
    at = λ index less. elim (cases_lt index (length held)) [
      | inl before ↦ alike_before index (alike.at index before)
      | inr last ↦ (let many = length_more held one in let same : length held ≡ index = omega (arith, less, last, many) in inl (subst (λ (n : ℕ). Happens Negotiates n (held ++ one ∷ [])) same (happens_last Negotiates held one fresh)))
    ];
  }

  untold_with : IsUnsettled held → IsUnsettled (held ++ one ∷ [])
  untold_with (inr (inl first)) = inr (inl (happens_more Negotiates 0 held one first))
  untold_with (inr (inr second)) = inr (inr (happens_more Negotiates 1 held one second))
  untold_with (inl few) = elim (cases_lt (length held) 1) [
    | inl none ↦ (let many = length_more held one in inl (omega (arith, none, many)))
    | inr some ↦ (let same : length held ≡ 1 = omega (arith, few, some) in inr (inr (subst (λ (n : ℕ). Happens Negotiates n (held ++ one ∷ [])) same (happens_last Negotiates held one fresh))))
  ]

  fitting_with : AreFitting held → AreFitting (held ++ one ∷ [])
  fitting_with (inl untold) = inl (untold_with untold)
  fitting_with (inr finds) = inr (record {
    source = finds.source;
    destination = finds.destination;
    shown = happens_more (IsShown finds.source) 0 held one finds.shown;
    shown' = happens_more (IsShown finds.destination) 1 held one finds.shown';
    first = finds.first;
  })

-- One connection more was made.
pub calm_more : (sides : Sides) (now now' : board.Seen) (held held' : List (Held Ticket)) (name : List ℕ) (extents : Bool) (link : ℕ) (handle : Machine Ticket) → StandsFor max_unretired (opened name extents) handle → now' ≡ now →
    held' ≡ held ++ record { link = link; handle = handle; inbox = [] } ∷ [] → IsCalm (Some sides) now held → IsCalm (Some sides) now' held'
calm_more sides now now' held held' name extents link handle stands same are calm =
    let one : Held Ticket = record { link = link; handle = handle; inbox = [] } in
    subst (λ (l : List (Held Ticket)). IsCalm (Some sides) now' l) (sym are) (record {
      alive = record { at = λ index. record { each = λ other is. alive_more held one (lives name extents handle stands) (λ i h e. (calm.alive.at i).each h e) index other is } };
      well = ap (λ (b : board.Seen). b.error) same ∙ calm.well;
      fit = (alike_with sides held one (negotiates name extents handle stands) calm.fit.0, fitting_with sides held one (negotiates name extents handle stands) calm.fit.1);
    })

-- Where none was made yet nothing came.
pub calm_none : (sides : Sides) (now : board.Seen) (held : List (Held Ticket)) → held ≡ [] → now.error ≡ None → IsCalm (Some sides) now held
calm_none sides now held none well =
    subst (λ (l : List (Held Ticket)). IsCalm (Some sides) now l) (sym none) (record {
      alive = record { at = λ index. record { each = λ other is. absurd (none_held other is) } };
      well = well;
      fit = (record { at = λ index less. absurd (omega (arith, less)) }, inl (inl (omega arith)));
    })

-- Of the two first connections each is the first of its side, however many each side has.
pub calm_two : (sides : Sides) (now : board.Seen) (held : List (Held Ticket)) → length held ≡ 2 → IsCalm (Some one_each) now held → IsCalm (Some sides) now held
calm_two sides now held two calm = record {
  alive = calm.alive;
  well = calm.well;
  fit = (record { at = λ index less. alike index (omega (arith, less, two)) (calm.fit.0.at index less) }, calm.fit.1);
}
  where
    alike : (index : ℕ) → index < 2 → IsAlikeAt one_each index held → IsAlikeAt sides index held
    alike index less (inl still) = inl still
    alike zero less (inr beside) = inr (record { one = beside.one; other = beside.other; shown = beside.shown; shown' = beside.shown'; is = beside.is })
    alike (suc zero) less (inr beside) = inr (record { one = beside.one; other = beside.other; shown = beside.shown; shown' = beside.shown'; is = beside.is })
    alike (suc (suc index)) less (inr beside) = absurd (omega (arith, less))

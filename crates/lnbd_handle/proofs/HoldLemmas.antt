-- Bytes that are held behind others: how many a record lacks, and what is kept of its front.
use Rattle.std.proofs.Common.{◌≡◌, ◌≢◌, ◌⊎◌, inl, inr, ℕ, ◌+◌, ◌<◌, ◌≤◌, List, [], ◌++◌, length, take, Bool, true, false, Option, Some, None, Result, Ok, Err, OnOk, OnErr, refl, ap, sym, ◌∙◌, subst, arith}
use Rattle.std.specs.Prelude.{IfSome, IfNone}
use Rattle.std.proofs.lemmas.Bool.{cases_lt, false≢true}
use Rattle.std.proofs.lemmas.List.{take-take}
use Rattle.lnbd_callbacks.specs.Calls.{Call}
use Rattle.lnbd_history.specs.declared.kinds.Phase.TheVariants as phase
use Rattle.lnbd_model.specs.declared.fault.NoMemory.{NoMemory}
use Rattle.lnbd_machine.specs.Machine.{State}
use Rattle.lnbd_arrivals.specs.Frames.{front_size}
use Rattle.lnbd_arrivals.specs.declared.announced.Announced.{Announced}
use Rattle.lnbd_arrivals.specs.declared.replies.Replies.{Replies}
use Rattle.lnbd_arrivals.specs.declared.replies.Replies.TheVariants.{Simple, Structured, Extended}
use Rattle.lnbd_handle.specs.declared.connection.Connection.{Connection}
use Rattle.lnbd_handle.specs.declared.kinds.Holding.{Holding}
use Rattle.lnbd_handle.specs.declared.kinds.Holding.TheVariants as holding
use Rattle.lnbd_handle.specs.declared.pending.Pending.{Pending}
use Rattle.lnbd_handle.specs.Announcing.{announced_at, announced_by_front, is_speaking, replies_in}
use Rattle.lnbd_handle.specs.Held.{held_in}
use Rattle.lnbd_handle.specs.Room.{AreWithin, ComeSimply, IsKept, KeepsFrontAt, longest_front}
use Rattle.lnbd_handle.specs.Seen.{state_of}
use Rattle.lnbd_handle.specs.Turns.{HoldMeans, ShowsNothing}
use Rattle.lnbd_handle.proofs.AnnouncedLemmas.{is_announced, no_data, said_empty, said_joined, said_same, simply_says}
use Rattle.lnbd_handle.proofs.PlacesLemmas.{held_speaks}

pub most_front : (replies : Replies) → front_size replies ≤ longest_front
most_front Simple = omega arith
most_front Structured = omega arith
most_front Extended = omega arith

-- What a record lacks reaches behind neither its front nor the data that this announces.
pub lacks_within : {R : Type 0} (size : ℕ) (announced : Option Announced) (p : Pending) (lack n : ℕ) → IfSome announced (λ some. p.came < some.size → p.came + lack ≤ some.size) → IfSome announced (λ some. p.came < some.size) →
    IfNone announced (R → AreWithin size None p lack) → n ≤ lack → R → AreWithin size announced p n
lacks_within size None p lack n more some rest fits ready = λ less. let most = rest ready less in omega (arith, most, fits)
lacks_within size (Some announced) p lack n more some rest fits ready = let most = more some in omega (arith, most, fits)

module _ {K : Type 0} where
  -- What waits is no more than a head, where simple replies alone come and nothing is announced.
  pub quiet_short : (c : Connection K) (bytes : List ℕ) → ComeSimply (state_of c) → ShowsNothing (state_of c) bytes → announced_by_front (state_of c) bytes ≡ None → length bytes ≤ 16
  quiet_short c bytes calm nothing none = go (is_speaking c.stage) refl
    where
      go : (b : Bool) → is_speaking c.stage ≡ b → length bytes ≤ 16
      go true e = over (cases_lt (length bytes) 16)
        where
          over : (length bytes < 16) ⊎ (16 ≤ length bytes) → length bytes ≤ 16
          over (inl less) = omega (arith, less)
          over (inr most) = absurd (simply_says (state_of c) bytes (calm e) nothing most none)
      go false e = over (cases_lt 0 (length bytes))
        where
          over : (0 < length bytes) ⊎ (length bytes ≤ 0) → length bytes ≤ 16
          over (inl some) = absurd (false≢true (sym e ∙ held_speaks c bytes nothing some))
          over (inr none) = omega (arith, none)

  -- a front that is held with what it announces
  pub said_front : (state : State K) (p : Pending) (rest : List ℕ) (announced : Announced) → p.announced ≡ Some announced → p.head.items ≡ take (front_size (replies_in state)) rest → Some announced ≡ announced_by_front state rest → KeepsFrontAt state p
  said_front state p rest announced is head says = record {
    says = is ∙ says ∙ ap (announced_at state) (sym (ap (take (front_size (replies_in state))) head ∙ take-take (front_size (replies_in state)) (front_size (replies_in state)) rest (omega arith)));
    alone = subst (λ (o : Option Announced). IfSome o (λ a. length p.head.items ≡ front_size (replies_in state))) (sym is) (ap length head ∙ (is_announced state (take (front_size (replies_in state)) rest) announced (sym says)).announces.sized);
    none = λ e. absurd (no_one (sym e ∙ is));
  }
    where
      no_one : None ≡ Some announced → ⊥
      no_one e = cc

  -- bytes that are held and announce nothing, or for want of memory none
  pub said_rest : (state : State K) (p : Pending) (rest : List ℕ) (result : Result (Unit {0}) NoMemory) → OnOk result (held_in p ≡ rest) → OnErr result (held_in p ≡ []) → IsKept p → p.announced ≡ None → p.came ≡ 0 → None ≡ announced_by_front state rest → KeepsFrontAt state p
  said_rest state p rest (Ok done) ok err kept unannounced came says = record {
    says = unannounced ∙ says ∙ ap (λ (b : List ℕ). announced_by_front state b) (sym ok ∙ no_data p came);
    alone = subst (λ (o : Option Announced). IfSome o (λ a. length p.head.items ≡ front_size (replies_in state))) (sym unannounced) tt;
    none = λ e. came;
  }
  said_rest state p rest (Err fault) ok err kept unannounced came says = said_empty state p kept err unannounced

  module _ {World : Type 0} (steps : World → List (Call K) → World → Type 0) where
    pub held_as : (old new : Connection K) (held other now next : List ℕ) (bytes : List ℕ) (before after : World) (result : Holding) → other ≡ held → next ≡ now → HoldMeans steps old held before bytes result new now after → HoldMeans steps old other before bytes result new next after
    held_as old new held other now next bytes before after result is becomes means =
        subst (λ (h : List ℕ). HoldMeans steps old h before bytes result new next after) (sym is) (subst (λ (h : List ℕ). HoldMeans steps old held before bytes result new h after) (sym becomes) means)

    -- What is kept of the front, after more bytes where no data were held apart.
    pub said_held : (old new : Connection K) (p q : Pending) (bytes : List ℕ) (before after : World) (result : Holding) → HoldMeans steps old p.head.items before bytes result new q.head.items after → (result ≡ holding.More → new ≡ old) →
        (result ≡ holding.More → q.head.items ≡ p.head.items ++ bytes) → (result ≡ holding.More → q.announced ≡ announced_by_front (state_of new) q.head.items) → (result ≢ holding.More → q.announced ≡ p.announced) → q.came ≡ p.came → IsKept q →
        (old.talk.phase ≡ phase.Ready → AreWithin (front_size (replies_in (state_of old))) None p (length bytes)) → p.announced ≡ None → KeepsFrontAt (state_of old) p → KeepsFrontAt (state_of new) q
    said_held old new p q bytes before after holding.More means still joined told untold came kept within unannounced k =
        subst (λ (c : Connection K). KeepsFrontAt (state_of c) q) (sym (still refl))
        (said_joined (state_of old) p q bytes k unannounced (joined refl) (subst (λ (c : Connection K). q.announced ≡ announced_by_front (state_of c) q.head.items) (still refl) (told refl)) came within)
    said_held old new p q bytes before after (holding.Took n) means still joined told untold came kept within unannounced k =
        said_empty (state_of new) q kept (no_data q (came ∙ k.none unannounced) ∙ means.2) (untold (λ e. other e) ∙ unannounced)
      where
        other : holding.Took n ≡ holding.More → ⊥
        other e = cc
    said_held old new p q bytes before after holding.Short means still joined told untold came kept within unannounced k =
        subst (λ (s : State K). KeepsFrontAt s q) (sym (ap (λ m. m.known) means.0))
        (said_same (front_size (replies_in (state_of old))) (announced_at (state_of old)) p q (untold (λ e. other e)) (ap (λ m. m.pending) means.0) came k)
      where
        other : holding.Short ≡ holding.More → ⊥
        other e = cc

-- A copy flushes its destination once at most, and until that is done.
use Rattle.std.proofs.Common.{◌≡◌, inl, inr, ℕ, ◌+◌, ◌≤◌, Bool, true, false, List, [], ◌∷◌, cond, length, refl, ap, sym, subst, ◌∙◌, arith}
use Rattle.lnbd_history.specs.Commands.{Command}
use Rattle.lnbd_asked.specs.Link.{Nobody}
use Rattle.lnbd_asked.specs.Transcript.{Dealt, dealt_with}
use Rattle.lnbd_board.specs.Requests.{IsDealt, IsIn, Request}
use Rattle.lnbd_tracks.specs.Tracks.{AllTrack, Histories}
use Rattle.lnbd_course.specs.Counted.{flushes_of, is_flush}
use Rattle.lnbd_course.specs.Course.{beside, on_side}
use Rattle.lnbd_course.specs.Flushed.{HasDoneFlush}
use Rattle.lnbd_course.specs.Flushes.{EndedFlushed, EndedFlushesOnce, EndedUnflushed, NoneFlushes, OneFlushes, WasFlushed}
use Rattle.lnbd_course.proofs.Ending.{destination_dealt, done_out, gone_out, in_out}
use Rattle.lnbd_course.proofs.Once.{each_asked, listed, none_meet, touching}
use Rattle.lnbd_course.proofs.Placed.{links_are_of_sides}

-- it is a FLUSH, whatever the position
abbrev pub flushes : Command Nobody → ℕ → Bool
flushes command p = is_flush command.kind

pub flushes_same : (p : ℕ) (xs : List Request) → length (touching flushes p xs) ≡ flushes_of xs
flushes_same p [] = refl
flushes_same p (x ∷ xs) =
    let rest = flushes_same p xs in
    elim (is_flush x.said.command.kind) as (λ b. length (cond b (x.said ∷ touching flushes p xs) (touching flushes p xs)) ≡ cond b 1 0 + flushes_of xs) [ true ↦ omega (arith, rest) | false ↦ omega (arith, rest) ]

pub none_there : (xs : List Request) → flushes_of xs ≡ 0 → (r : Request) → IsIn r xs → is_flush r.said.command.kind ≡ false
none_there [] none r there = absurd there
none_there (x ∷ xs) none r (inl same) = subst (λ (y : Request). is_flush y.said.command.kind ≡ false) same (go (is_flush x.said.command.kind) refl)
  where
    go : (b : Bool) → is_flush x.said.command.kind ≡ b → is_flush x.said.command.kind ≡ false
    go true is = let e : cond true 1 0 + flushes_of xs ≡ 0 = ap (λ (b : Bool). cond b 1 0 + flushes_of xs) (sym is) ∙ none in absurd (omega (arith, e))
    go false is = is
none_there (x ∷ xs) none r (inr there) = none_there xs (fewer (cond (is_flush x.said.command.kind) 1 0) (flushes_of xs) none) r there
  where
    fewer : (a b : ℕ) → a + b ≡ 0 → b ≡ 0
    fewer a b e = omega (arith, e)

pub one_at_most : (b : Bool) (n : ℕ) → n ≡ cond b 1 0 → n ≤ 1
one_at_most true n e = omega (arith, e)
one_at_most false n e = omega (arith, e)

-- Of what went out to an export.
module _ (histories : Histories) (asked : List Request) (dealt : Dealt) (went : IsDealt (gone_out histories asked) dealt) where
  pub flushes_once : (b : Bool) → flushes_of asked ≡ cond b 1 0 → OneFlushes dealt
  flushes_once b count link cookie link' cookie' one other asks asks' here too =
      none_meet flushes asked dealt (listed histories asked dealt went) (λ p. subst (λ (n : ℕ). n ≤ 1) (sym (flushes_same p asked)) (one_at_most b (flushes_of asked) count)) link cookie link' cookie'
      0 one other asks asks' here too

  pub none_flushes : flushes_of asked ≡ 0 → NoneFlushes dealt
  none_flushes none = each_asked (λ (c : Command Nobody). is_flush c.kind ≡ false) asked dealt (listed histories asked dealt went) (none_there asked none)

  pub was_flushed : AllTrack histories asked → HasDoneFlush asked → WasFlushed dealt
  was_flushed track f =
      let shown = went.shown f.flush (in_out histories f.flush asked f.within (done_out histories asked f.flush track f.within f.done)) in
      record { link = f.flush.link; cookie = f.flush.cookie; command = f.flush.said.command; asked = shown.0; kind = f.kind; done = record { bytes = f.done.bytes; is = shown.1 ∙ f.done.is } }

pub ended_flushes_once : EndedFlushesOnce
ended_flushes_once from to size how has slices now calls b two =
    let law = links_are_of_sides from to size how has slices now calls b two in
    flushes_once (on_side (beside has) b.course.histories) b.course.stood.destination (dealt_with to calls)
    (destination_dealt from to how has slices now calls b.course law.0) now.flushing b.course.stood.counted.flushes

pub ended_unflushed : EndedUnflushed
ended_unflushed from to size how has slices now calls b none two =
    let law = links_are_of_sides from to size how has slices now calls b two in
    none_flushes (on_side (beside has) b.course.histories) b.course.stood.destination (dealt_with to calls) (destination_dealt from to how has slices now calls b.course law.0)
    (b.course.stood.counted.flushes ∙ ap (λ (b : Bool). cond b 1 0) none)

pub ended_flushed : EndedFlushed
ended_flushed from to size how has slices now calls b well told two =
    let law = links_are_of_sides from to size how has slices now calls b two in
    was_flushed (on_side (beside has) b.course.histories) b.course.stood.destination (dealt_with to calls) (destination_dealt from to how has slices now calls b.course law.0) b.course.stood.changes
    (b.course.stood.flushed well told)

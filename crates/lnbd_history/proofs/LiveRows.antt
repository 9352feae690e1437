-- Which callbacks live after some histories, by computation.
use Rattle.std.proofs.Common.{◌≡◌, ℕ, [], ◌∷◌, Option, Some, None, refl}
use Rattle.lnbd_model.specs.declared.kind.Kind.TheVariants.{Read}
use Rattle.lnbd_model.specs.declared.refusal.Why.TheVariants.{ZeroSize}
use Rattle.lnbd_history.specs.Commands.{Command}
use Rattle.lnbd_history.specs.Events.{History, Start, Issue, Refuse, End, Close}
use Rattle.lnbd_history.specs.Live.{live_after}

-- a read of one byte, with a chunk callback or without one; callbacks are numbers here
read : Option ℕ → Command ℕ
read first = record { kind = Read; flags = 0; offset = 0; length = 1; payload = []; first = first; done = 0 }

issued : History ℕ
issued = Issue (read (Some 0)) ∷ Issue (read None) ∷ Start ∷ []

all_three_live : live_after issued ≡ 1 ∷ 2 ∷ 3 ∷ []
unfolding issued read
all_three_live = refl

refused_do_not : live_after (Issue (read None) ∷ Refuse (read (Some 0)) ZeroSize ∷ issued) ≡ 1 ∷ 2 ∷ 3 ∷ 6 ∷ []
unfolding issued read
refused_do_not = refl

lost_do_not : live_after (End [] ∷ issued) ≡ []
unfolding issued read
lost_do_not = refl

none_is_left : live_after (Close ∷ issued) ≡ []
unfolding issued read
none_is_left = refl

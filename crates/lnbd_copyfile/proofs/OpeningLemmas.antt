-- The calls by which files are opened, cut and synced.
use Rattle.std.proofs.Common.{◌≡◌, ℕ, Bool, true, false, List, [], ◌∷◌, Option, Some, None, Result, Ok, Err, if◌then◌else◌, refl, ap, sym, subst}
use Rattle.std.specs.Prelude.{OnErr, OnOk}
use Rattle.lnbd_link.specs.Part.{Adds}
use Rattle.lnbd_store.specs.declared.store.StoreFailed.{StoreFailed}
use Rattle.lnbd_store.specs.Call.{Call, Open, Length, Cut, Sync, done_told}
use Rattle.lnbd_store.specs.Effects.{SyncsAs}
use Rattle.lnbd_store.specs.Shelf.{Shelf, Goes}
use Rattle.lnbd_touched.specs.Grown.{Grew}
use Rattle.lnbd_touched.specs.Touches.{Touches}
use Rattle.lnbd_touched.proofs.GrownLemmas.{grew_first, grew_none, grew_one}
use Rattle.lnbd_touched.proofs.TouchLemmas.{touches_read}
use Rattle.lnbd_copyfile.specs.Calls.{IsClosing, IsMaking, IsOpening, NotClosed, NotMade, NotOpened, Not_emptied, Not_opened, Not_sized, Unopened, Untold}
use Rattle.lnbd_copyfile.specs.Steps.{Kept}

-- two calls, and three
grew_two : (a b c : Option (List Call)) (one two : Call) (P : List Call → Type 0) → P (one ∷ two ∷ []) → Adds a b one → Adds b c two → Grew a c P
grew_two a b c one two P is f g =
    grew_first a b c one (λ calls. calls ≡ two ∷ []) P (λ calls e. subst (λ (xs : List Call). P (one ∷ xs)) (sym e) is) f (grew_one b c two (λ calls. calls ≡ two ∷ []) g refl)

grew_three : (a b c d : Option (List Call)) (one two three : Call) (P : List Call → Type 0) → P (one ∷ two ∷ three ∷ []) → Adds a b one → Adds b c two → Adds c d three → Grew a d P
grew_three a b c d one two three P is f g h =
    grew_first a b d one (λ calls. calls ≡ two ∷ three ∷ []) P (λ calls e. subst (λ (xs : List Call). P (one ∷ xs)) (sym e) is) f
    (grew_two b c d two three (λ calls. calls ≡ two ∷ three ∷ []) refl g h)

module _ (a b c d : Option (List Call)) (path : List ℕ) (n size : ℕ) where
  pub made : Adds a b (Open path true (Some n)) → Adds b c (Cut n 0 true) → Adds c d (Cut n size true) → Grew a d (IsMaking path n size)
  made f g h = grew_three a b c d (Open path true (Some n)) (Cut n 0 true) (Cut n size true) (IsMaking path n size) refl f g h

  pub not_sized : Adds a b (Open path true (Some n)) → Adds b c (Cut n 0 true) → Adds c d (Cut n size false) → Grew a d (NotMade path size)
  not_sized f g h = grew_three a b c d (Open path true (Some n)) (Cut n 0 true) (Cut n size false) (NotMade path size) (Not_sized n refl) f g h

module _ (a b c : Option (List Call)) (path : List ℕ) (n size : ℕ) where
  pub not_emptied : Adds a b (Open path true (Some n)) → Adds b c (Cut n 0 false) → Grew a c (NotMade path size)
  not_emptied f g = grew_two a b c (Open path true (Some n)) (Cut n 0 false) (NotMade path size) (Not_emptied n refl) f g

  pub opened : Adds a b (Open path false (Some n)) → Adds b c (Length n (Some size)) → Grew a c (IsOpening path n size)
  opened f g = grew_two a b c (Open path false (Some n)) (Length n (Some size)) (IsOpening path n size) refl f g

  pub untold : Adds a b (Open path false (Some n)) → Adds b c (Length n None) → Grew a c (NotOpened path)
  untold f g = grew_two a b c (Open path false (Some n)) (Length n None) (NotOpened path) (Untold n refl) f g

pub not_opened : (a b : Option (List Call)) (path : List ℕ) (size : ℕ) → Adds a b (Open path true None) → Grew a b (NotMade path size)
not_opened a b path size f = grew_one a b (Open path true None) (NotMade path size) f (Not_opened refl)

pub unopened : (a b : Option (List Call)) (path : List ℕ) → Adds a b (Open path false None) → Grew a b (NotOpened path)
unopened a b path f = grew_one a b (Open path false None) (NotOpened path) f (Unopened refl)

-- A sync.

pub sync_kept : (r : Result (Unit {0}) StoreFailed) (n : ℕ) (a b : Option Shelf) → Goes a b (SyncsAs n r) → OnOk r (Touches n Kept a b)
sync_kept (Ok done) n a b goes = touches_read n Kept (λ bytes. Unit {0}) a b (λ x is. refl) goes
sync_kept (Err e) n a b goes = tt

pub sync_closed : (r : Result (Unit {0}) StoreFailed) (n : ℕ) (flush : Bool) (a b : Option (List Call)) → flush ≡ true → Adds a b (Sync n (done_told r)) → OnOk r (Grew a b (IsClosing n flush))
sync_closed (Ok done) n flush a b on add = grew_one a b (Sync n true) (IsClosing n flush) add (sym (ap (λ (f : Bool). if f then Sync n true ∷ [] else []) on))
sync_closed (Err e) n flush a b on add = tt

pub sync_unclosed : (r : Result (Unit {0}) StoreFailed) (n : ℕ) (flush : Bool) (a b : Option (List Call)) → flush ≡ true → Adds a b (Sync n (done_told r)) → OnErr r (Grew a b (NotClosed n flush))
sync_unclosed (Ok done) n flush a b on add = tt
sync_unclosed (Err e) n flush a b on add = grew_one a b (Sync n false) (NotClosed n flush) add (record { flush_ = on; calls_are = refl })

pub no_sync : (n : ℕ) (flush : Bool) (a : Option (List Call)) → flush ≡ false → Grew a a (IsClosing n flush)
no_sync n flush a off = grew_none a (IsClosing n flush) (sym (ap (λ (f : Bool). if f then Sync n true ∷ [] else []) off))

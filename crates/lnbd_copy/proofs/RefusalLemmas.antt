-- A turn connects to nothing, so no connect fails in it.
use Rattle.std.proofs.Common.{◌≡◌, ℕ, Bool, true, false, ◌||◌, List, [], ◌∷◌, ◌++◌, Option, refl, sym, subst, ◌∙◌}
use Rattle.std.proofs.lemmas.List.Folds.{list_any-append}
use Rattle.std.specs.List.{list_any}
use Rattle.lnbd_callbacks.specs.Calls as callbacks
use Rattle.lnbd_history.specs.Events.{History}
use Rattle.lnbd_link.specs.Call.{Call}
use Rattle.lnbd_poll.specs.declared.noticed.Noticed.{Noticed}
use Rattle.lnbd_poll.specs.Notices.{ReadsIf, ReadsOn, WritesIf, is_reading, is_waiting}
use Rattle.lnbd_poll.specs.Seen.{Seen}
use Rattle.lnbd_poll.specs.Turns.{All_took, Ending, Goes_on, Runs_short, Breaks_off, Stops, Takes, Turns, TurnsOne, WritesAll}
use Rattle.lnbd_conduct.specs.Links.{AllConnected, fails_to_connect}

neither : (a b : Bool) → a ≡ false → b ≡ false → (a || b) ≡ false
neither true b e f = e
neither false b e f = f

pub connected_more : (calls more : List Call) → AllConnected calls → AllConnected more → AllConnected (calls ++ more)
connected_more calls more one two = list_any-append fails_to_connect calls more ∙ neither (list_any fails_to_connect calls) (list_any fails_to_connect more) one two

module _ {K World : Type 0} (steps : World → List (callbacks.Call K) → World → Type 0) where
  written : (waits : Bool) (link : ℕ) (notice : Noticed) (before : History K) (calls : List Call) (after : History K) → WritesIf waits link notice before calls after → AllConnected calls
  written true link notice before calls after w = subst AllConnected (sym w.1) refl
  written false link notice before calls after w = subst AllConnected (sym w.1) refl

  all_written : (link : ℕ) (before : History K) (world : World) (calls : List Call) (after : History K) (world' : World) (moved : Option ℕ) → WritesAll steps link before world calls after world' moved → AllConnected calls
  all_written link before world calls after world' moved (Stops _ _ _ _ _ _ notice w none is) = written (is_waiting before) link notice before calls w.middle w.writes
  all_written link before world calls after world' moved (Goes_on _ _ _ _ _ _ notice own middle half other rest w goes more are is) =
      subst AllConnected (sym are) (connected_more own other (written (is_waiting before) link notice before own w.middle w.writes) (all_written link middle half other after world' rest more))

  read_on : (unread : List ℕ) (notice : Noticed) (before : Seen K) (world : World) (calls : List Call) (after : Seen K) (world' : World) → ReadsOn steps unread notice before world calls after world' → AllConnected calls
  read_on [] notice before world calls after world' r = subst AllConnected (sym r.1) refl
  read_on (byte ∷ bytes) notice before world calls after world' r = subst AllConnected (sym r.0) refl

  read_if : (reads : Bool) (notice : Noticed) (before : Seen K) (world : World) (calls : List Call) (after : Seen K) (world' : World) → ReadsIf steps reads notice before world calls after world' → AllConnected calls
  read_if true notice before world calls after world' r = read_on before.unread notice before world calls after world' r
  read_if false notice before world calls after world' r = subst AllConnected (sym r.1) refl

  one_connected : (notice : Noticed) (before : Seen K) (world : World) (calls : List Call) (after : Seen K) (world' : World) (moved : Option ℕ) → TurnsOne steps notice before world calls after world' moved → AllConnected calls
  one_connected notice before world calls after world' moved t =
      let half : Seen K = record { link = before.link; history = t.middle; unread = before.unread } in
      subst AllConnected (sym t.calls_are) (connected_more t.written t.read
      (all_written before.link before.history world t.written t.middle t.half t.sent t.writes)
      (read_if (is_reading t.middle) notice half t.half t.read after world' t.reads))

  pub turns_connected : (before : List (Seen K)) (world : World) (part : List Call) (after : List (Seen K)) (world' : World) (ending : Ending) → Turns steps before world part after world' ending → AllConnected part
  turns_connected before world part after world' ending (All_took _ _ _ _ _ _ is none after_is world_is end) = subst AllConnected (sym none) refl
  turns_connected before world part after world' ending (Takes _ _ _ _ _ _ seen others notice own here half moved other there rest is one enough more calls_are after_is end) =
      subst AllConnected (sym calls_are) (connected_more own other (one_connected notice seen world own here half moved one) (turns_connected others half other there world' rest more))
  turns_connected before world part after world' ending (Runs_short _ _ _ _ _ _ seen others here moved is one after_is end) = one_connected _ seen world part here world' moved one
  turns_connected before world part after world' ending (Breaks_off _ _ _ _ _ _ none after_is world_is end) = subst AllConnected (sym none) refl

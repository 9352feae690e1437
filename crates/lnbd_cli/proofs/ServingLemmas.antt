-- What serve did, by which of its two tasks it was asked.
use Rattle.std.proofs.Common.{◌≡◌, ◌∷◌, ℕ, true, false, List, [], Option, refl, sym, subst, ◌∙◌}
use Rattle.lnbd_link.specs.Call.{Call}
use Rattle.lnbd_spawn.specs.declared.deed.Deed.{Deed}
use Rattle.lnbd_store.specs.Call.{Call as Move}
use Rattle.lnbd_store.specs.Shelf.{Shelf}
use Rattle.lnbd_store.specs.declared.serving.Content.{Content}
use Rattle.lnbd_store.specs.declared.serving.Content.TheVariants.{Made, File}
use Rattle.lnbd_store.specs.declared.serving.Serving.{Serving}
use Rattle.lnbd_child.specs.Loading.{IsFew, IsOfNumber}
use Rattle.lnbd_cli.specs.declared.serving.Service.{Service}
use Rattle.lnbd_cli.specs.Asks.{is_alone}
use Rattle.lnbd_cli.specs.Beside.{FileServed, ProgramRan, is_all_done, is_beside_status}
use Rattle.lnbd_cli.specs.Ends.{End, status_of}
use Rattle.lnbd_cli.specs.Hosts.{ServeDid, ServeDoes, service_of}
use Rattle.lnbd_cli.specs.Runs.{RunsBeside, RunsServe, is_serving_known}
use Rattle.lnbd_cli.specs.Serves.{is_serve_status}

-- so many bytes are made
pub fits : (s : Serving) (seed size : ℕ) → s.content ≡ Made seed size → IsFew s.content → IsFew (Made seed size)
fits s seed size is few = subst IsFew is few

serving_known : (content : Content) (run : List (List ℕ)) (status : ℕ) → is_alone content run ≡ false → is_beside_status status ≡ true → is_serving_known content run status ≡ true
serving_known (Made seed size) [] status here known = cc here
serving_known (Made seed size) (program ∷ words) status here known = known
serving_known (File path) run status here known = known

pub beside_known : (content : Content) (run : List (List ℕ)) (status : ℕ) → is_alone content run ≡ false → is_serving_known content run status ≡ true → is_beside_status status ≡ true
beside_known (Made seed size) [] status here known = cc here
beside_known (Made seed size) (program ∷ words) status here known = known
beside_known (File path) run status here known = known

module _ {W O S P : Type 0} (told : W → Option (List Call)) (wires wires' : W) (taken : O → Option (List ℕ)) (out out' : O)
    (moved : S → Option (List Move)) (shelf : S → Option Shelf) (store store' : S) (deeds : P → Option (List Deed)) (spawn spawn' : P) (end : End) where
  -- what was done for made contents alone, where neither store nor spawner were touched
  pub alone : (s : Serving) (service : Service) → s.content ≡ Made service.seed service.size → s.run ≡ [] → service ≡ service_of s service.seed service.size
      → RunsServe service told wires wires' taken out out' end → is_serve_status (status_of end) ≡ true → store' ≡ store → spawn' ≡ spawn
      → ServeDid told wires wires' taken out out' moved shelf store store' deeds spawn spawn' end s
  alone s service content run is does known kept unstarted = record {
    does = by_parts (λ c r. ServeDoes c r s told wires wires' taken out out' moved store store' deeds spawn spawn' end)
        (subst (λ (x : Service). RunsServe x told wires wires' taken out out' end) is does);
    known = by_parts (λ c r. is_serving_known c r (status_of end) ≡ true) known;
    store_same = λ made. kept;
    spawn_same = λ none. unstarted;
    file = λ here. absurd (not_beside here);
    child = λ here. absurd (not_beside here);
  }
    where
      by_parts : (Is : Content → List (List ℕ) → Type 0) → Is (Made service.seed service.size) [] → Is s.content s.run
      by_parts Is is' = subst (λ (c : Content). Is c s.run) (sym content) (subst (λ (r : List (List ℕ)). Is (Made service.seed service.size) r) (sym run) is')

      not_beside : is_alone s.content s.run ≡ false → ⊥
      not_beside here = cc (sym (by_parts (λ c r. is_alone c r ≡ true) refl) ∙ here)

  beside_does : (s : Serving) (content : Content) (run : List (List ℕ)) → is_alone content run ≡ false → RunsBeside s told wires wires' taken out out' moved store store' deeds spawn spawn' end
      → ServeDoes content run s told wires wires' taken out out' moved store store' deeds spawn spawn' end
  beside_does s (Made seed size) [] here does = cc here
  beside_does s (Made seed size) (program ∷ words) here does = does
  beside_does s (File path) run here does = does

  pub beside_run : (s : Serving) (content : Content) (run : List (List ℕ)) → is_alone content run ≡ false
      → ServeDoes content run s told wires wires' taken out out' moved store store' deeds spawn spawn' end → RunsBeside s told wires wires' taken out out' moved store store' deeds spawn spawn' end
  beside_run s (Made seed size) [] here does = cc here
  beside_run s (Made seed size) (program ∷ words) here does = does
  beside_run s (File path) run here does = does

  -- what was done for a file or beside a program
  pub beside : (s : Serving) → is_alone s.content s.run ≡ false → RunsBeside s told wires wires' taken out out' moved store store' deeds spawn spawn' end → is_beside_status (status_of end) ≡ true
      → (IsOfNumber s.content → store' ≡ store) → (s.run ≡ [] → spawn' ≡ spawn)
      → (is_all_done (status_of end) ≡ true → FileServed s (told wires) (told wires') (shelf store) (shelf store') (status_of end))
      → (is_all_done (status_of end) ≡ true → ProgramRan s (deeds spawn) (deeds spawn') (status_of end))
      → ServeDid told wires wires' taken out out' moved shelf store store' deeds spawn spawn' end s
  beside s here does known kept unstarted file child = record {
    does = beside_does s s.content s.run here does;
    known = serving_known s.content s.run (status_of end) here known;
    store_same = kept;
    spawn_same = unstarted;
    file = λ also. file;
    child = λ also. child;
  }

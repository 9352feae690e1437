-- A handle that was set up begins on a link that was just made.
use Rattle.std.proofs.Common.{◌≡◌, ◌∙◌, ℕ, ◌≤◌, true, ◌&&◌, List, [], ◌∷◌, length, Some, refl, ap, arith}
use Rattle.std.specs.Prelude.{◌==◌}
use Rattle.std.proofs.lemmas.Bool.{eq-eqb}
use Rattle.lnbd_model.specs.declared.target.Target.{Target}
use Rattle.lnbd_model.specs.declared.target.Target.TheVariants.{Tcp, Unix}
use Rattle.lnbd_records.specs.Limits.{max_text}
use Rattle.lnbd_history.specs.Events.{Context, Extended, Name, Set, Start, Structured}
use Rattle.lnbd_link.specs.Call.{Connect}
use Rattle.lnbd_asked.specs.Driven.{Begins, Does, Drives, Passes}
use Rattle.lnbd_asked.specs.Transcript.{is_target}
use Rattle.lnbd_drives.proofs.Taking.{Runs}
use Rattle.lnbd_waits.specs.Begun.{base_allocation, begun}
use Rattle.lnbd_dump.specs.declared.reader.Reader.{Reader}
use Rattle.lnbd_dump.proofs.TellLemmas.{bytes_same}

pub is_there : (to : Target) → is_target to (Some to) ≡ true
is_there (Tcp host port) = ap (λ b. b && (port == port)) (bytes_same host) ∙ eq-eqb port port refl
is_there (Unix path) = bytes_same path

begun_drives : (link : ℕ) (name context : List ℕ) → Drives {K = Reader} link [] (begun name context) []
begun_drives link name context =
    Does [] (Set (Name name) ∷ Set (Context context) ∷ Set (Structured true) ∷ Set (Extended true) ∷ []) [] Start
    (Does [] (Set (Context context) ∷ Set (Structured true) ∷ Set (Extended true) ∷ []) [] (Set (Name name))
    (Does [] (Set (Structured true) ∷ Set (Extended true) ∷ []) [] (Set (Context context))
    (Does [] (Set (Extended true) ∷ []) [] (Set (Structured true))
    (Does [] [] [] (Set (Extended true)) Begins refl) refl) refl) refl) refl

few : length base_allocation ≤ max_text
few = omega arith

pub begun_alone : (link : ℕ) (name : List ℕ) → length name ≤ max_text → Runs {K = Reader} link [] (begun name base_allocation) []
begun_alone link name small = record { drives = begun_drives link name base_allocation; spelled = (tt, (small, (few, (tt, (tt, tt))))); off = refl }

pub begun_runs : (link : ℕ) (to : Target) (name : List ℕ) → length name ≤ max_text → Runs {K = Reader} link (Connect to (Some link) ∷ []) (begun name base_allocation) []
begun_runs link to name small = record {
  drives = Passes [] (begun name base_allocation) [] (Connect to (Some link)) (Connect to (Some link) ∷ []) (begun_drives link name base_allocation) refl refl;
  spelled = (tt, (small, (few, (tt, (tt, tt)))));
  off = refl;
}

-- What a run did is what its words asked.
use Rattle.std.proofs.Common.{◌≡◌, ◌≢◌, ◌≤◌, ◌∷◌, ◌∙◌, ◌⊎◌, inl, inr, ℕ, true, List, [], Option, Some, None, Result, Ok, Err, refl, sym, subst, arith, String}
use Rattle.std.specs.Int.{is_power_of_two}
use Rattle.std.specs.Prelude.{IsErrOf}
use Rattle.std.specs.declared.alloc.Global.{Global}
use Rattle.lnbd_args.specs.Tools.{Asks, IsContent, IsCopyOptions, IsSize}
use Rattle.lnbd_args.specs.Words.{Part, Word}
use Rattle.lnbd_child.specs.Loading.{IsFew, IsOfNumber}
use Rattle.lnbd_conduct.specs.Limits.{AreLimited, IsPowerWithin}
use Rattle.lnbd_spawn.specs.declared.deed.Deed.{Deed}
use Rattle.lnbd_store.specs.Call.{Call as Move}
use Rattle.lnbd_store.specs.Shelf.{Shelf}
use Rattle.lnbd_store.specs.declared.serving.Content.{Content}
use Rattle.lnbd_store.specs.declared.serving.Content.TheVariants.{Made, File}
use Rattle.lnbd_store.specs.declared.serving.Serving.{Serving}
use Rattle.lnbd_store.specs.declared.side.Side.{Side}
use Rattle.lnbd_store.specs.declared.side.Side.TheVariants as side
use Rattle.lnbd_plan.specs.declared.options.CopyOptions.{CopyOptions}
use Rattle.lnbd_cli.specs.Asks.{Ask, AskFile, AskProgram, IsCalls, IsFile}
use Rattle.lnbd_cli.specs.Beside as beside
use Rattle.lnbd_cli.specs.Hosts.{ServeDoes}
use Rattle.lnbd_cli.specs.Runs.{AskOffWires, is_serving_known}
use Rattle.lnbd_args.specs.declared.asked.Asked.{Asked}
use Rattle.lnbd_args.specs.declared.asked.Asked.TheVariants as asked
use Rattle.lnbd_args.specs.declared.fault.ArgsFault.{ArgsFault}
use Rattle.lnbd_args.specs.declared.fault.ArgsFault.TheVariants as args
use Rattle.lnbd_link.specs.Call.{Call}
use Rattle.lnbd_cli.specs.Calls as calls
use Rattle.lnbd_cli.specs.Copies as copies
use Rattle.lnbd_cli.specs.Dumps as dumps
use Rattle.lnbd_cli.specs.Duplicates as duplicates
use Rattle.lnbd_cli.specs.FileCopies as files
use Rattle.lnbd_copyfile.specs.FileCopy.{AreFileSides}
use Rattle.lnbd_cli.specs.FileCopies.{FilesEnd, is_files_status}
use Rattle.lnbd_cli.specs.Did.{AsksNoFile, AsksNoProgram, Did, HasRoom, IsOnWires, NeverReads}
use Rattle.lnbd_cli.specs.Informs as informs
use Rattle.lnbd_cli.specs.Serves as serves
use Rattle.lnbd_cli.specs.Trials as trials
use Rattle.lnbd_cli.specs.declared.ending.Fault.{Fault}
use Rattle.lnbd_cli.specs.declared.ending.Fault.TheVariants as fault

-- Words are read as they are, or for want of memory not.

pub accepted : (x a : Asked) → (◌≡◌ {A = Result Asked ArgsFault} (Ok x) (Ok a)) ⊎ IsErrOf {T = Asked} {E = ArgsFault} (Ok x) args.NoMemory
    → (◌≡◌ {A = Result Asked Fault} (Ok x) (Ok a)) ⊎ (◌≡◌ {A = Result Asked Fault} (Ok x) (Err fault.NoMemory))
accepted x a (inl is) = inl (cc is)
accepted x a (inr never) = cc never

-- what was done for what was read was done for what the words ask
pub as_asked : (P : Asked → Type 0) (x a : Asked) → (◌≡◌ {A = Result Asked Fault} (Ok x) (Ok a)) ⊎ (◌≡◌ {A = Result Asked Fault} (Ok x) (Err fault.NoMemory)) → P x → P a
as_asked P x a (inl is) p = let same : x ≡ a = cc is in subst P same p
as_asked P x a (inr is) p = absurd (cc is)

-- what words may ask to be made fits in memory
few : (parts : List Part) (content : Content) → IsContent parts content → IsFew content
few parts (Made seed size) is = omega (arith, (small _ size is.1))
  where
    small : (given : Option Word) (n : ℕ) → IsSize given n → n ≤ 1073741824
    small None n is = absurd is
    small (Some digits) n is = is.1
few parts (File path) is = tt

-- what words may ask of a copy is within its limits
copy_limits : (parts : List Part) (options : CopyOptions) → IsCopyOptions parts options → AreLimited options
copy_limits parts options are = record {
  connected = are.connections.at_least;
  connections = are.connections.at_most;
  requested = are.requests.at_least;
  requests = are.requests.at_most;
  request_size = record { power = are.request_size.1; at_least = are.request_size.0.at_least; at_most = are.request_size.0.at_most };
  sparse = looked are.sparse.1;
}
  where
    looked : (options.sparse ≡ 0) ⊎ ((512 ≤ options.sparse) × (is_power_of_two options.sparse ≡ true)) → (options.sparse ≡ 0) ⊎ IsPowerWithin 512 33554432 options.sparse
    looked (inl none) = inl none
    looked (inr some) = inr (record { power = some.1; at_least = some.0; at_most = are.sparse.0.at_most })

-- what words may ask to be copied where a side is a file
file_sides : (words : List Word) (options : CopyOptions) (from to : Side) → Asks words (asked.FileCopy options from to) → AreFileSides from to
file_sides words options (side.Nbd from) (side.Nbd to) asks = asks.5
file_sides words options (side.Nbd from) (side.File to) asks = tt
file_sides words options (side.File from) (side.Nbd to) asks = tt
file_sides words options (side.File from) (side.File to) asks = λ e. asks.2.4.2.apart asks.3.0 (sym asks.3.1 ∙ e ∙ asks.4.1)

pub room : (words : List Word) (a : Asked) → Asks words a → HasRoom a
room words asked.Calls asks = tt
room words (asked.Info what json place) asks = tt
room words (asked.Serve s) asks = few asks.1.2.hosts.parts s.content asks.1.2.hosts.serves.content_is
room words (asked.Copy options from to) asks = copy_limits asks.2.2 options asks.2.4.1
room words (asked.FileCopy options from to) asks = (copy_limits asks.2.2 options asks.2.4.1, file_sides words options from to asks)
room words (asked.Dump place offset length) asks = tt
room words (asked.Selftest seed size) asks = tt

pub never_reads : (words : List (String Global)) (a : Asked) → Ask words a → ¬ IsCalls words → NeverReads a
never_reads words asked.Calls asks other = other asks
never_reads words (asked.Info what json place) asks other = tt
never_reads words (asked.Serve s) asks other = tt
never_reads words (asked.Copy options from to) asks other = tt
never_reads words (asked.FileCopy options from to) asks other = tt
never_reads words (asked.Dump place offset length) asks other = tt
never_reads words (asked.Selftest seed size) asks other = tt

pub on_wires : (words : List (String Global)) (a : Asked) → Ask words a → ¬ AskOffWires words → IsOnWires a
on_wires words asked.Calls asks other = tt
on_wires words (asked.Info what json place) asks other = tt
on_wires words (asked.Serve s) asks other = tt
on_wires words (asked.Copy options from to) asks other = tt
on_wires words (asked.FileCopy options (side.Nbd from) to) asks other = tt
on_wires words (asked.FileCopy options (side.File from) (side.Nbd to)) asks other = tt
on_wires words (asked.FileCopy options (side.File from) (side.File to)) asks other = other (inr (record { options = options; from = from; to = to }, asks))
on_wires words (asked.Dump place offset length) asks other = tt
on_wires words (asked.Selftest seed size) asks other = other (inl (record { seed = seed; size = size }, asks))

-- Where no file and no program is asked for, the tool asks for none.

pub no_file : (words : List (String Global)) (a : Asked) → Ask words a → ¬ AskFile words → AsksNoFile a
no_file words asked.Calls asks other = tt
no_file words (asked.Info what json place) asks other = tt
no_file words (asked.Serve s) asks other = made s.content (λ file. other (inl (s, asks, file)))
  where
    made : (content : Content) → ¬ IsFile content → IsOfNumber content
    made (Made seed size) none = tt
    made (File path) none = absurd (none tt)
no_file words (asked.Copy options from to) asks other = tt
no_file words (asked.FileCopy options from to) asks other = other (inr (options, from, to, asks))
no_file words (asked.Dump place offset length) asks other = tt
no_file words (asked.Selftest seed size) asks other = tt

pub no_program : (words : List (String Global)) (a : Asked) → Ask words a → ¬ AskProgram words → AsksNoProgram a
no_program words asked.Calls asks other = tt
no_program words (asked.Info what json place) asks other = tt
no_program words (asked.Serve s) asks other = none s.run (λ some. other (s, asks, some))
  where
    none : (run : List (List ℕ)) → ¬ (run ≢ []) → run ≡ []
    none [] never = refl
    none (program ∷ words) never = absurd (never (λ e. cc e))
no_program words (asked.Copy options from to) asks other = tt
no_program words (asked.FileCopy options from to) asks other = tt
no_program words (asked.Dump place offset length) asks other = tt
no_program words (asked.Selftest seed size) asks other = tt

-- Where memory ran out before it was known what they ask, nothing was done.

module _ {I W O S P : Type 0} (left : I → Option (List ℕ)) (input : I) (told : W → Option (List Call)) (wires : W) (taken : O → Option (List ℕ)) (out : O)
    (moved : S → Option (List Move)) (shelf : S → Option Shelf) (gave took : S → ℕ) (store : S) (deeds : P → Option (List Deed)) (spawn : P) where
  -- so does each tool end
  abbrev Unmade : Asked → Type 0
  Unmade a = Did left input input told wires wires taken out out moved shelf gave took store store deeds spawn spawn (Err fault.NoMemory) a

  hosting : (s : Serving) (content : Content) (run : List (List ℕ)) → ServeDoes content run s told wires wires taken out out moved store store deeds spawn spawn (Err fault.NoMemory)
  hosting s (Made seed size) [] = serves.Unbegun refl refl refl
  hosting s (Made seed size) (program ∷ words) = beside.Unbegun refl (refl, refl, refl, refl)
  hosting s (File path) run = beside.Unbegun refl (refl, refl, refl, refl)

  short : (content : Content) (run : List (List ℕ)) → is_serving_known content run 9 ≡ true
  short (Made seed size) [] = refl
  short (Made seed size) (program ∷ words) = refl
  short (File path) run = refl

  filing : (options : CopyOptions) (from to : Side)
      → FilesEnd options from to (told wires) (told wires) (wires ≡ wires) (moved store) (moved store) (shelf store) (shelf store) (gave store) (gave store) (took store) (took store) (store ≡ store)
      (Err fault.NoMemory)
  filing options (side.File from) (side.File to) = (duplicates.Unbegun refl refl, refl)
  filing options (side.File from) (side.Nbd to) = (files.Unbegun refl (refl, refl), inr refl)
  filing options (side.Nbd from) (side.File to) = (files.Unbegun refl (refl, refl), inr refl)
  filing options (side.Nbd from) (side.Nbd to) = (refl, refl, refl)

  filed : (from to : Side) → is_files_status from to 9 ≡ true
  filed (side.Nbd from) to = refl
  filed (side.File from) (side.Nbd to) = refl
  filed (side.File from) (side.File to) = refl

  unbegun : (a : Asked) → Unmade a
  unbegun asked.Calls = record { does = calls.NotRead (inr refl) (refl, refl); known = refl; accepts = λ held e. cc e; store_same = λ none. refl; spawn_same = λ none. refl; file = tt; child = tt }
  unbegun (asked.Info what json place) = record { does = informs.Unbegun refl refl refl; known = refl; accepts = tt; store_same = λ none. refl; spawn_same = λ none. refl; file = tt; child = tt }
  unbegun (asked.Serve s) = record {
    does = hosting s s.content s.run;
    known = short s.content s.run;
    accepts = tt;
    store_same = λ none. refl;
    spawn_same = λ none. refl;
    file = λ here done. cc done;
    child = λ here done. cc done;
  }
  unbegun (asked.Copy options from to) = record { does = (copies.Unbegun refl refl, refl); known = refl; accepts = tt; store_same = λ none. refl; spawn_same = λ none. refl; file = tt; child = tt }
  unbegun (asked.FileCopy options from to) = record {
    does = (filing options from to, refl);
    known = filed from to;
    accepts = tt;
    store_same = λ none. refl;
    spawn_same = λ none. refl;
    file = tt;
    child = tt;
  }
  unbegun (asked.Dump place offset length) = record { does = dumps.Unbegun refl refl refl; known = refl; accepts = tt; store_same = λ none. refl; spawn_same = λ none. refl; file = tt; child = tt }
  unbegun (asked.Selftest seed size) = record {
    does = (trials.Unmade refl refl, refl);
    known = refl;
    accepts = (λ small e. cc e, λ large. inr refl);
    store_same = λ none. refl;
    spawn_same = λ none. refl;
    file = tt;
    child = tt;
  }

  pub unread : (why : Fault) (a : Asked) → (◌≡◌ {A = Result Asked Fault} (Err why) (Ok a)) ⊎ (◌≡◌ {A = Result Asked Fault} (Err why) (Err fault.NoMemory))
      → Did left input input told wires wires taken out out moved shelf gave took store store deeds spawn spawn (Err why) a
  unread why a (inl is) = absurd (cc is)
  unread why a (inr is) =
      let same : why ≡ fault.NoMemory = cc is in
      subst (λ (w : Fault). Did left input input told wires wires taken out out moved shelf gave took store store deeds spawn spawn (Err w) a) (sym same) (unbegun a)

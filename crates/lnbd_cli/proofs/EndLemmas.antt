-- What the status of a run tells of its end, and how its line is made.
use Rattle.std.proofs.Common.{◌≡◌, ◌≢◌, ◌==◌, ◌||◌, ◌⊎◌, inl, inr, ℕ, ◌+◌, ◌<◌, ◌≤◌, ◌^◌, min, Bool, true, false, List, [], ◌∷◌, Option, Result, Ok, Err, refl, sym, ◌∙◌, ap, append_assoc, ◌++◌, subst, arith, String}
use Rattle.std.proofs.lemmas.Bool.Decides.{nat_tests}
use Rattle.std.specs.Prelude.{OnOk, if◌then◌else◌, is_ok}
use Rattle.std.specs.declared.alloc.Global.{Global}
use Rattle.lnbd_args.specs.declared.asked.Asked.{Asked}
use Rattle.lnbd_args.specs.declared.asked.Asked.TheVariants as asked
use Rattle.lnbd_link.specs.Call.{Call}
use Rattle.lnbd_link.specs.Count.{Rises}
use Rattle.lnbd_link.specs.Failed.{failed}
use Rattle.lnbd_store.specs.Shelf.{Shelf}
use Rattle.lnbd_store.specs.declared.serving.Content.{Content}
use Rattle.lnbd_store.specs.declared.serving.Content.TheVariants.{Made, File}
use Rattle.lnbd_cli.specs.Beside.{IsBesideDone, is_all_done, is_beside_status}
use Rattle.lnbd_cli.specs.Calls.{IsPlayDone, is_calls_status}
use Rattle.lnbd_cli.specs.Copies.{IsCopyDone, is_copy_status}
use Rattle.lnbd_cli.specs.Dumps.{IsDumpDone, is_dump_status}
use Rattle.lnbd_copyfile.specs.FileCopy.{AreUntold}
use Rattle.lnbd_cli.specs.Duplicates.{IsDuplicateDone, is_duplicate_status}
use Rattle.lnbd_cli.specs.FileCopies.{is_files_status, is_mixed_status}
use Rattle.lnbd_store.specs.declared.side.Side.{Side}
use Rattle.lnbd_store.specs.declared.side.Side.TheVariants as side
use Rattle.lnbd_cli.specs.Ends.{Came, End, IsReported, is_one_of, status_of}
use Rattle.lnbd_cli.specs.Informs.{IsInfoDone, is_info_status}
use Rattle.lnbd_cli.specs.Runs.{IsRefused, is_known, is_serving_known}
use Rattle.lnbd_cli.specs.Serves.{IsServeDone, is_serve_status}
use Rattle.lnbd_cli.specs.Trials.{is_test_status}
use Rattle.lnbd_cli.specs.declared.ending.Fault.TheVariants as fault

-- a fact of the status of an end that is so of want of memory too
pub by_status : (P : ℕ → Type 0) (Q : List ℕ → Type 0) (end : End) (status : ℕ) → P 9 → P (status_of end) → IsReported end Q status → P status
by_status P Q end status nine p (inl told) = subst P (sym told.0) p
by_status P Q end status nine p (inr told) = subst P (sym told.0) nine

-- a status other than 9 is the end's
pub of_end : (Q : List ℕ → Type 0) (end : End) (n status : ℕ) → n ≢ 9 → IsReported end Q status → status ≡ n → status_of end ≡ n
of_end Q end n status other (inl told) is = sym told.0 ∙ is
of_end Q end n status other (inr told) is = absurd (other (sym is ∙ told.0))

-- the statuses of a run of which all was done are its end's
pub of_done : (Q : List ℕ → Type 0) (end : End) (status : ℕ) → is_all_done status ≡ true → IsReported end Q status → status_of end ≡ status
of_done Q end status done (inl told) = sym told.0
of_done Q end status done (inr told) = cc (sym (ap is_all_done told.0) ∙ done)

-- a run of which one of two holds, or which came to such an end, came to it with its status and its line
pub came_known : {A : Type 0} (Ends : End → Type 0) (Q : List ℕ → Type 0) (end : End) (status : ℕ) → A ⊎ Ends end → IsReported end Q status → A ⊎ Came Ends Q status
came_known Ends Q end status (inl known) told = inl known
came_known Ends Q end status (inr ends) told = inr (record { end = end; ends = ends; tells = told })

known_short : (a : Asked) → is_known a 9 ≡ true
known_short asked.Calls = refl
known_short (asked.Info what json place) = refl
known_short (asked.Serve s) = serving_short s.content s.run
  where
    serving_short : (content : Content) (run : List (List ℕ)) → is_serving_known content run 9 ≡ true
    serving_short (Made seed size) [] = refl
    serving_short (Made seed size) (program ∷ words) = refl
    serving_short (File path) run = refl
known_short (asked.Copy options from to) = refl
known_short (asked.FileCopy options (side.Nbd from) to) = refl
known_short (asked.FileCopy options (side.File from) (side.Nbd to)) = refl
known_short (asked.FileCopy options (side.File from) (side.File to)) = refl
known_short (asked.Dump place offset length) = refl
known_short (asked.Selftest seed size) = refl

pub known : (a : Asked) (Q : List ℕ → Type 0) (end : End) (status : ℕ) → is_known a (status_of end) ≡ true → IsReported end Q status → is_known a status ≡ true
known a Q end status is told = by_status (λ s. is_known a s ≡ true) Q end status (known_short a) is told

-- words that ask nothing

refused_status : (words : List (String Global)) (end : End) → IsRefused words end → (status_of end ≡ 1) ⊎ (status_of end ≡ 9)
refused_status words (Ok holds) refused = absurd refused
refused_status words (Err fault.Usage) refused = inl refl
refused_status words (Err (fault.Uri why)) refused = inl refl
refused_status words (Err fault.NoMemory) refused = inr refl
refused_status words (Err (fault.Line number)) refused = absurd refused
refused_status words (Err (fault.Told option code)) refused = absurd refused
refused_status words (Err (fault.Broke broken)) refused = absurd refused
refused_status words (Err fault.Client) refused = absurd refused
refused_status words (Err fault.Link) refused = absurd refused
refused_status words (Err (fault.Rule ruling)) refused = absurd refused
refused_status words (Err fault.Silent) refused = absurd refused
refused_status words (Err fault.Output) refused = absurd refused
refused_status words (Err fault.Input) refused = absurd refused
refused_status words (Err fault.Store) refused = absurd refused
refused_status words (Err (fault.Child status)) refused = absurd refused
refused_status words (Err fault.Signal) refused = absurd refused
refused_status words (Err fault.Spawn) refused = absurd refused

pub refused_known : (words : List (String Global)) (Q : List ℕ → Type 0) (end : End) (status : ℕ) → IsRefused words end → IsReported end Q status → (status ≡ 1) ⊎ (status ≡ 9)
refused_known words Q end status refused told = by_status (λ s. (s ≡ 1) ⊎ (s ≡ 9)) Q end status (inr refl) (refused_status words end refused) told

-- on 0 and 2 a run ends well

pub ends_well : (end : End) (status : ℕ) (P : Type 0) → OnOk end P → (status ≡ 0 → end ≡ Ok true) → (status ≡ 2 → end ≡ Ok false) → (status ≡ 0) ⊎ (status ≡ 2) → P
ends_well end status P well done untrue (inl is) = subst (λ (e : End). OnOk e P) (done is) well
ends_well end status P well done untrue (inr is) = subst (λ (e : End). OnOk e P) (untrue is) well

-- One of a list.

abbrev IsOneOf : List ℕ → ℕ → Type 0
IsOneOf [] status = ⊥
IsOneOf (one ∷ others) status = (status ≡ one) ⊎ IsOneOf others status

equal : (a b : ℕ) → (a == b) ≡ true → a ≡ b
equal a b e = grind (arith, nat_tests)

one_of : (list : List ℕ) (status : ℕ) → is_one_of list status ≡ true → IsOneOf list status
one_of [] status is = absurd (cc is)
one_of (one ∷ others) status is = either (status == one) refl is (one_of others status)
  where
    either : (b : Bool) → (status == one) ≡ b → (b || is_one_of others status) ≡ true → (is_one_of others status ≡ true → IsOneOf others status) → (status ≡ one) ⊎ IsOneOf others status
    either true same is rest = inl (equal status one same)
    either false other is rest = inr (rest is)

-- The statuses of a run in which no count rose.

pub calls_done : (s : ℕ) → is_calls_status s ≡ true → s ≢ 1 → (s ≡ 5 → ⊥) → (s ≡ 7 → ⊥) → (s ≡ 8 → ⊥) → (s ≡ 10 → ⊥) → IsPlayDone s
calls_done s is bad link silent output input = done (one_of (0 ∷ 1 ∷ 3 ∷ 4 ∷ 5 ∷ 7 ∷ 8 ∷ 9 ∷ 10 ∷ []) s is)
  where
    done : IsOneOf (0 ∷ 1 ∷ 3 ∷ 4 ∷ 5 ∷ 7 ∷ 8 ∷ 9 ∷ 10 ∷ []) s → IsPlayDone s
    done (inl e) = inl e
    done (inr (inl e)) = absurd (bad e)
    done (inr (inr (inl e))) = inr (inl e)
    done (inr (inr (inr (inl e)))) = inr (inr (inl e))
    done (inr (inr (inr (inr (inl e))))) = absurd (link e)
    done (inr (inr (inr (inr (inr (inl e)))))) = absurd (silent e)
    done (inr (inr (inr (inr (inr (inr (inl e))))))) = absurd (output e)
    done (inr (inr (inr (inr (inr (inr (inr (inl e)))))))) = inr (inr (inr e))
    done (inr (inr (inr (inr (inr (inr (inr (inr (inl e))))))))) = absurd (input e)
    done (inr (inr (inr (inr (inr (inr (inr (inr (inr e))))))))) = absurd e

pub info_done : (s : ℕ) → is_info_status s ≡ true → (s ≡ 5 → ⊥) → (s ≡ 7 → ⊥) → (s ≡ 8 → ⊥) → IsInfoDone s
info_done s is link silent output = done (one_of (0 ∷ 2 ∷ 3 ∷ 4 ∷ 5 ∷ 6 ∷ 7 ∷ 8 ∷ 9 ∷ []) s is)
  where
    done : IsOneOf (0 ∷ 2 ∷ 3 ∷ 4 ∷ 5 ∷ 6 ∷ 7 ∷ 8 ∷ 9 ∷ []) s → IsInfoDone s
    done (inl e) = inl e
    done (inr (inl e)) = inr (inl e)
    done (inr (inr (inl e))) = inr (inr (inl e))
    done (inr (inr (inr (inl e)))) = inr (inr (inr (inl e)))
    done (inr (inr (inr (inr (inl e))))) = absurd (link e)
    done (inr (inr (inr (inr (inr (inl e)))))) = inr (inr (inr (inr (inl e))))
    done (inr (inr (inr (inr (inr (inr (inl e))))))) = absurd (silent e)
    done (inr (inr (inr (inr (inr (inr (inr (inl e)))))))) = absurd (output e)
    done (inr (inr (inr (inr (inr (inr (inr (inr (inl e))))))))) = inr (inr (inr (inr (inr e))))
    done (inr (inr (inr (inr (inr (inr (inr (inr (inr e))))))))) = absurd e

pub serve_done : (s : ℕ) → is_serve_status s ≡ true → (s ≡ 5 → ⊥) → (s ≡ 7 → ⊥) → (s ≡ 8 → ⊥) → IsServeDone s
serve_done s is link silent output = done (one_of (0 ∷ 4 ∷ 5 ∷ 7 ∷ 8 ∷ 9 ∷ []) s is)
  where
    done : IsOneOf (0 ∷ 4 ∷ 5 ∷ 7 ∷ 8 ∷ 9 ∷ []) s → IsServeDone s
    done (inl e) = inl e
    done (inr (inl e)) = inr (inl e)
    done (inr (inr (inl e))) = absurd (link e)
    done (inr (inr (inr (inl e)))) = absurd (silent e)
    done (inr (inr (inr (inr (inl e))))) = absurd (output e)
    done (inr (inr (inr (inr (inr (inl e)))))) = inr (inr e)
    done (inr (inr (inr (inr (inr (inr e)))))) = absurd e

pub beside_done : (s : ℕ) → is_beside_status s ≡ true → (s ≡ 5 → ⊥) → (s ≡ 7 → ⊥) → (s ≡ 8 → ⊥) → (s ≡ 11 → ⊥) → (s ≡ 13 → ⊥) → IsBesideDone s
beside_done s is link silent output store spawn = done (one_of (0 ∷ 4 ∷ 5 ∷ 6 ∷ 7 ∷ 8 ∷ 9 ∷ 11 ∷ 12 ∷ 13 ∷ []) s is)
  where
    done : IsOneOf (0 ∷ 4 ∷ 5 ∷ 6 ∷ 7 ∷ 8 ∷ 9 ∷ 11 ∷ 12 ∷ 13 ∷ []) s → IsBesideDone s
    done (inl e) = inl e
    done (inr (inl e)) = inr (inl e)
    done (inr (inr (inl e))) = absurd (link e)
    done (inr (inr (inr (inl e)))) = inr (inr (inl e))
    done (inr (inr (inr (inr (inl e))))) = absurd (silent e)
    done (inr (inr (inr (inr (inr (inl e)))))) = absurd (output e)
    done (inr (inr (inr (inr (inr (inr (inl e))))))) = inr (inr (inr (inl e)))
    done (inr (inr (inr (inr (inr (inr (inr (inl e)))))))) = absurd (store e)
    done (inr (inr (inr (inr (inr (inr (inr (inr (inl e))))))))) = inr (inr (inr (inr e)))
    done (inr (inr (inr (inr (inr (inr (inr (inr (inr (inl e)))))))))) = absurd (spawn e)
    done (inr (inr (inr (inr (inr (inr (inr (inr (inr (inr e)))))))))) = absurd e

pub copy_done : (s : ℕ) → is_copy_status s ≡ true → (s ≡ 5 → ⊥) → (s ≡ 7 → ⊥) → IsCopyDone s
copy_done s is link silent = done (one_of (0 ∷ 3 ∷ 4 ∷ 5 ∷ 6 ∷ 7 ∷ 9 ∷ []) s is)
  where
    done : IsOneOf (0 ∷ 3 ∷ 4 ∷ 5 ∷ 6 ∷ 7 ∷ 9 ∷ []) s → IsCopyDone s
    done (inl e) = inl e
    done (inr (inl e)) = inr (inl e)
    done (inr (inr (inl e))) = inr (inr (inl e))
    done (inr (inr (inr (inl e)))) = absurd (link e)
    done (inr (inr (inr (inr (inl e))))) = inr (inr (inr (inl e)))
    done (inr (inr (inr (inr (inr (inl e)))))) = absurd (silent e)
    done (inr (inr (inr (inr (inr (inr (inl e))))))) = inr (inr (inr (inr e)))
    done (inr (inr (inr (inr (inr (inr (inr e))))))) = absurd e

pub mixed_done : (s : ℕ) → is_mixed_status s ≡ true → (s ≡ 5 → ⊥) → (s ≡ 7 → ⊥) → (s ≡ 11 → ⊥) → IsCopyDone s
mixed_done s is link silent store = done (one_of (0 ∷ 3 ∷ 4 ∷ 5 ∷ 6 ∷ 7 ∷ 9 ∷ 11 ∷ []) s is)
  where
    done : IsOneOf (0 ∷ 3 ∷ 4 ∷ 5 ∷ 6 ∷ 7 ∷ 9 ∷ 11 ∷ []) s → IsCopyDone s
    done (inl e) = inl e
    done (inr (inl e)) = inr (inl e)
    done (inr (inr (inl e))) = inr (inr (inl e))
    done (inr (inr (inr (inl e)))) = absurd (link e)
    done (inr (inr (inr (inr (inl e))))) = inr (inr (inr (inl e)))
    done (inr (inr (inr (inr (inr (inl e)))))) = absurd (silent e)
    done (inr (inr (inr (inr (inr (inr (inl e))))))) = inr (inr (inr (inr e)))
    done (inr (inr (inr (inr (inr (inr (inr (inl e)))))))) = absurd (store e)
    done (inr (inr (inr (inr (inr (inr (inr (inr e)))))))) = absurd e

-- no copy of which a side is a file ends with these statuses
pub files_never : (from to : Side) (s : ℕ) → is_files_status from to s ≡ true → (s ≡ 8) ⊎ ((s ≡ 10) ⊎ (s ≡ 13)) → ⊥
files_never from to s is (inl e) = by_sides from to (subst (λ (n : ℕ). is_files_status from to n ≡ true) e is)
  where
    by_sides : (from to : Side) → is_files_status from to 8 ≡ true → ⊥
    by_sides (side.Nbd from) to is = cc is
    by_sides (side.File from) (side.Nbd to) is = cc is
    by_sides (side.File from) (side.File to) is = cc is
files_never from to s is (inr (inl e)) = by_sides from to (subst (λ (n : ℕ). is_files_status from to n ≡ true) e is)
  where
    by_sides : (from to : Side) → is_files_status from to 10 ≡ true → ⊥
    by_sides (side.Nbd from) to is = cc is
    by_sides (side.File from) (side.Nbd to) is = cc is
    by_sides (side.File from) (side.File to) is = cc is
files_never from to s is (inr (inr e)) = by_sides from to (subst (λ (n : ℕ). is_files_status from to n ≡ true) e is)
  where
    by_sides : (from to : Side) → is_files_status from to 13 ≡ true → ⊥
    by_sides (side.Nbd from) to is = cc is
    by_sides (side.File from) (side.Nbd to) is = cc is
    by_sides (side.File from) (side.File to) is = cc is

pub duplicate_done : (s : ℕ) (now : Option Shelf) → is_duplicate_status s ≡ true → (s ≡ 6 → AreUntold now) → (s ≡ 11 → ⊥) → IsDuplicateDone now s
duplicate_done s now is rule store = done (one_of (0 ∷ 6 ∷ 9 ∷ 11 ∷ []) s is)
  where
    done : IsOneOf (0 ∷ 6 ∷ 9 ∷ 11 ∷ []) s → IsDuplicateDone now s
    done (inl e) = inl e
    done (inr (inl e)) = inr (inr (e, rule e))
    done (inr (inr (inl e))) = inr (inl e)
    done (inr (inr (inr (inl e)))) = absurd (store e)
    done (inr (inr (inr (inr e)))) = absurd e

pub dump_done : (s : ℕ) → is_dump_status s ≡ true → (s ≡ 5 → ⊥) → (s ≡ 7 → ⊥) → (s ≡ 8 → ⊥) → IsDumpDone s
dump_done s is link silent output = done (one_of (0 ∷ 3 ∷ 4 ∷ 5 ∷ 6 ∷ 7 ∷ 8 ∷ 9 ∷ []) s is)
  where
    done : IsOneOf (0 ∷ 3 ∷ 4 ∷ 5 ∷ 6 ∷ 7 ∷ 8 ∷ 9 ∷ []) s → IsDumpDone s
    done (inl e) = inl e
    done (inr (inl e)) = inr (inl e)
    done (inr (inr (inl e))) = inr (inr (inl e))
    done (inr (inr (inr (inl e)))) = absurd (link e)
    done (inr (inr (inr (inr (inl e))))) = inr (inr (inr (inl e)))
    done (inr (inr (inr (inr (inr (inl e)))))) = absurd (silent e)
    done (inr (inr (inr (inr (inr (inr (inl e))))))) = absurd (output e)
    done (inr (inr (inr (inr (inr (inr (inr (inl e)))))))) = inr (inr (inr (inr e)))
    done (inr (inr (inr (inr (inr (inr (inr (inr e)))))))) = absurd e

pub test_done : (s : ℕ) → is_test_status s ≡ true → s ≢ 6 → (s ≡ 8 → ⊥) → (s ≡ 0) ⊎ (s ≡ 9)
test_done s is rule output = done (one_of (0 ∷ 6 ∷ 8 ∷ 9 ∷ []) s is)
  where
    done : IsOneOf (0 ∷ 6 ∷ 8 ∷ 9 ∷ []) s → (s ≡ 0) ⊎ (s ≡ 9)
    done (inl e) = inl e
    done (inr (inl e)) = absurd (rule e)
    done (inr (inr (inl e))) = absurd (output e)
    done (inr (inr (inr (inl e)))) = inr e
    done (inr (inr (inr (inr e)))) = absurd e

-- The line: a word and then another text.
pub pushed : {E : Type 0} (result : Result (Unit {0}) E) (old mid new word text shown : List ℕ) → new ≡ (if is_ok result then mid ++ shown else mid) → shown ≡ text → mid ≡ old ++ word
    → OnOk result (new ≡ old ++ (word ++ text))
pushed (Ok done) old mid new word text shown e same first = e ∙ ap (λ (m : List ℕ). m ++ shown) first ∙ ap (λ (s : List ℕ). (old ++ word) ++ s) same ∙ append_assoc old word text
pushed (Err short) old mid new word text shown e same first = tt

-- A count of the calls that failed rose: more of them failed.
pub rose_by_fault : (before after : List Call) (f g : ℕ) → f ≡ failed before → failed before < 2 ^ 63 → g ≡ failed after → Rises 1 f g → failed before < failed after
rose_by_fault before after f g first few last rises = let rose : min (f + 1) 18446744073709551615 ≤ g = rises in omega (arith, first, few, last, rose)

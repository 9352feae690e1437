-- Lines printed one after another, and a run with a listener of its own.
use Rattle.std.proofs.Common.{◌≡◌, ℕ, Bool, true, false, List, [], ◌∷◌, ◌++◌, Option, Some, None, Result, Ok, Err, refl, sym, ap, subst, ◌∙◌, append_assoc, append-nil}
use Rattle.std.proofs.lemmas.Bool.{false≢true}
use Rattle.std.specs.Prelude.{◌≢◌, IfOk}
use Rattle.lnbd_export.specs.Export.{Export, size}
use Rattle.lnbd_link.specs.Call.{Call, Listen, Shut}
use Rattle.lnbd_link.specs.Part.{Adds, Takes, TakesFront}
use Rattle.lnbd_link.proofs.Parts.{grows_none, grows_on, takes_none, takes_on}
use Rattle.lnbd_model.specs.declared.target.Target.{Target}
use Rattle.lnbd_serve.specs.declared.fault.ServeFault.{ServeFault}
use Rattle.lnbd_serve.specs.declared.fault.ServeFault.TheVariants as fault
use Rattle.lnbd_serve.specs.declared.printed.Unprinted.{Unprinted}
use Rattle.lnbd_serve.specs.declared.printed.Unprinted.TheVariants as unprinted
use Rattle.lnbd_serve.specs.Printed.{Concludes, Cut_off, IsPrinted, Last_line, Listens, No_listener, Not_told, Prints, Ran, Runs, Tells, Told, concluded, fault_of, is_served, serving_line, sessions_line}
use Rattle.lnbd_serve.specs.Served.{ServedAs}
use Rattle.lnbd_serve.specs.Steps.{Went}

-- What was printed.

pub record Took (taken taken' : Option (List ℕ)) (Leads : List ℕ → Type 0) : Type 0 where
  pub printed : List ℕ
  pub takes : Takes taken taken' printed
  pub leads : Leads printed

takes_same : (taken taken' : Option (List ℕ)) → taken' ≡ taken → Takes taken taken' []
takes_same taken taken' same = subst (λ (t : Option (List ℕ)). Takes taken t []) (sym same) (takes_none taken)

printed_of : (told : Result (Unit {0}) Unprinted) (taken taken' : Option (List ℕ)) (line : List ℕ) → Prints told taken taken' line → Took taken taken' (λ printed. IsPrinted told line printed)
printed_of (Ok done) taken taken' line prints = record { printed = line; takes = prints; leads = refl }
printed_of (Err unprinted.NoMemory) taken taken' line prints = record { printed = []; takes = takes_same taken taken' prints; leads = refl }
printed_of (Err unprinted.Output) taken taken' line prints = record { printed = prints.front; takes = prints.takes; leads = (prints.rest, prints.split) }

-- The answer.

unserved : (why : Unprinted) → is_served (Err (fault_of why)) ≡ false
unserved unprinted.NoMemory = refl
unserved unprinted.Output = refl

-- an answer that printing gives
abbrev is_printing : ServeFault → Bool
is_printing fault.NoMemory = true
is_printing fault.Output = true
is_printing fault.Client = false
is_printing (fault.Link before after) = false
is_printing (fault.Silent idles) = false

printing_of : (why : Unprinted) → is_printing (fault_of why) ≡ true
printing_of unprinted.NoMemory = refl
printing_of unprinted.Output = refl

same_fault : (told : Result (Unit {0}) Unprinted) (served : Result ℕ ServeFault) (f : ServeFault) → is_printing f ≡ false → concluded told served ≡ Err f → served ≡ Err f
same_fault (Ok done) served f other is = is
same_fault (Err why) served f other is = let same : fault_of why ≡ f = cc in absurd (false≢true (sym other ∙ sym (ap is_printing same) ∙ printing_of why))

pub output_of : (told : Result (Unit {0}) Unprinted) (served : Result ℕ ServeFault) → served ≢ Err fault.Output → concluded told served ≡ Err fault.Output → told ≡ Err unprinted.Output
output_of (Ok done) served other is = absurd (other is)
output_of (Err unprinted.Output) served other is = refl
output_of (Err unprinted.NoMemory) served other is = cc

pub other_fault : (served : Result ℕ ServeFault) (result : Result ℕ ServeFault) (taken taken' : Option (List ℕ)) (line : List ℕ) (f : ServeFault) → is_printing f ≡ false → (is_served served ≡ false → result ≡ served)
    → (is_served served ≡ true → (told : Result (Unit {0}) Unprinted) × (result ≡ concluded told served) × Prints told taken taken' line) → result ≡ Err f → served ≡ Err f
other_fault served result taken taken' line f other cut whole is = go (is_served served) refl
  where
    go : (b : Bool) → is_served served ≡ b → served ≡ Err f
    go false fails = sym (cut fails) ∙ is
    go true holds = let w = whole holds in same_fault w.0 served f other (sym w.1 ∙ is)

-- The last line, where all clients were served.

pub concludes : (sessions : ℕ) (served result : Result ℕ ServeFault) (taken taken' : Option (List ℕ)) → (is_served served ≡ false → (result ≡ served) × (taken' ≡ taken))
    → (is_served served ≡ true → (told : Result (Unit {0}) Unprinted) × (result ≡ concluded told served) × Prints told taken taken' (sessions_line sessions)) → Took taken taken' (λ last. Concludes sessions served result last)
concludes sessions served result taken taken' cut whole = go (is_served served) refl
  where
    go : (b : Bool) → is_served served ≡ b → Took taken taken' (λ last. Concludes sessions served result last)
    go false fails = let c = cut fails in record { printed = []; takes = takes_same taken taken' c.1; leads = Cut_off served result [] fails c.0 refl }
    go true holds =
        let w = whole holds in
        let p = printed_of w.0 taken taken' (sessions_line sessions) w.2 in
        record { printed = p.printed; takes = p.takes; leads = Last_line served result p.printed w.0 holds w.1 p.leads }

-- Serving between the lines.

pub no_output : (listener sessions : ℕ) (served : Result ℕ ServeFault) (told told' : Option (List Call)) (start end : Export) → Went told told' (λ calls. ServedAs listener sessions served start calls end) → served ≢ Err fault.Output
no_output listener sessions served told told' start end went is = subst (λ (r : Result ℕ ServeFault). ServedAs listener sessions r start went.calls end) is went.leads

pub not_told : (told : Option (List Call)) (taken taken' : Option (List ℕ)) (listener sessions : ℕ) (why : Unprinted) (export : Export) → Prints (Err why) taken taken' (serving_line (size export))
    → Ran told told taken taken' (λ calls printed. Tells listener sessions (Err (fault_of why)) export calls printed export)
not_told told taken taken' listener sessions why export prints =
    let p = printed_of (Err why) taken taken' (serving_line (size export)) prints in
    record { calls = []; printed = p.printed; grown = grows_none told; takes = p.takes; leads = Not_told (Err (fault_of why)) export [] p.printed export why refl refl p.leads refl }

pub told_on : (told told' : Option (List Call)) (x y z : Option (List ℕ)) (listener sessions : ℕ) (served result : Result ℕ ServeFault) (start end : Export) → Takes x y (serving_line (size start))
    → Went told told' (λ calls. ServedAs listener sessions served start calls end) → Took y z (λ last. Concludes sessions served result last) → Ran told told' x z (λ calls printed. Tells listener sessions result start calls printed end)
told_on told told' x y z listener sessions served result start end first went last = record {
  calls = went.calls;
  printed = serving_line (size start) ++ last.printed;
  grown = went.grown;
  takes = takes_on x y z (serving_line (size start)) last.printed first last.takes;
  leads = Told result start went.calls (serving_line (size start) ++ last.printed) end served last.printed went.leads last.leads refl;
}

-- A listener.

pub no_listener : (told told' : Option (List Call)) (taken : Option (List ℕ)) (at : Target) (sessions before after : ℕ) (export : Export) → Adds told told' (Listen at None)
    → Ran told told' taken taken (λ calls printed. Runs at sessions (Err (fault.Link before after)) export calls printed export)
no_listener told told' taken at sessions before after export add = record {
  calls = Listen at None ∷ [];
  printed = [];
  grown = add;
  takes = takes_none taken;
  leads = No_listener (Err (fault.Link before after)) export (Listen at None ∷ []) [] export before after refl refl refl refl;
}

pub listens : (a b c d : Option (List Call)) (taken taken' : Option (List ℕ)) (at : Target) (listener sessions : ℕ) (result : Result ℕ ServeFault) (start end : Export) → Adds a b (Listen at (Some listener))
    → Ran b c taken taken' (λ calls printed. Tells listener sessions result start calls printed end) → Adds c d (Shut listener) → Ran a d taken taken' (λ calls printed. Runs at sessions result start calls printed end)
listens a b c d taken taken' at listener sessions result start end add ran add' = record {
  calls = Listen at (Some listener) ∷ (ran.calls ++ Shut listener ∷ []);
  printed = ran.printed;
  grown = grows_on a b d (Listen at (Some listener) ∷ []) (ran.calls ++ Shut listener ∷ []) add (grows_on b c d ran.calls (Shut listener ∷ []) ran.grown add');
  takes = ran.takes;
  leads = Listens result start (Listen at (Some listener) ∷ (ran.calls ++ Shut listener ∷ [])) ran.printed end listener ran.calls refl ran.leads;
}

-- Both lines are printed where all clients were served.

last_whole : (sessions : ℕ) (served result : Result ℕ ServeFault) (last : List ℕ) → Concludes sessions served result last → is_served result ≡ true → last ≡ sessions_line sessions
last_whole sessions served result last (Cut_off _ _ _ fails is none) holds = absurd (false≢true (sym fails ∙ sym (ap is_served is) ∙ holds))
last_whole sessions served result last (Last_line _ _ _ (Ok done) all is printed) holds = printed
last_whole sessions served result last (Last_line _ _ _ (Err why) all is printed) holds = absurd (false≢true (sym (ap is_served is ∙ unserved why) ∙ holds))

tells_whole : (listener sessions : ℕ) (result : Result ℕ ServeFault) (start : Export) (calls : List Call) (printed : List ℕ) (end : Export) → Tells listener sessions result start calls printed end → is_served result ≡ true
    → printed ≡ serving_line (size start) ++ sessions_line sessions
tells_whole listener sessions result start calls printed end (Not_told _ _ _ _ _ why is none front same) holds = absurd (false≢true (sym (ap is_served is ∙ unserved why) ∙ holds))
tells_whole listener sessions result start calls printed end (Told _ _ _ _ _ served last as_ concludes_so is) holds = is ∙ ap (λ (l : List ℕ). serving_line (size start) ++ l) (last_whole sessions served result last concludes_so holds)

runs_whole : (at : Target) (sessions : ℕ) (result : Result ℕ ServeFault) (start : Export) (calls : List Call) (printed : List ℕ) (end : Export) → Runs at sessions result start calls printed end → is_served result ≡ true
    → printed ≡ serving_line (size start) ++ sessions_line sessions
runs_whole at sessions result start calls printed end (No_listener _ _ _ _ _ before after is made none same) holds = absurd (false≢true (sym (ap is_served is) ∙ holds))
runs_whole at sessions result start calls printed end (Listens _ _ _ _ _ listener own made tells) holds = tells_whole listener sessions result start own printed end tells holds

pub prints_both : (told told' : Option (List Call)) (taken taken' : Option (List ℕ)) (at : Target) (sessions : ℕ) (result : Result ℕ ServeFault) (start end : Export) → Ran told told' taken taken' (λ calls printed. Runs at sessions result start calls printed end)
    → is_served result ≡ true → Takes taken taken' (serving_line (size start) ++ sessions_line sessions)
prints_both told told' taken taken' at sessions result start end ran holds =
    subst (λ (p : List ℕ). Takes taken taken' p) (runs_whole at sessions result start ran.calls ran.printed end ran.leads holds) ran.takes

-- And else a front of them.

abbrev IsFront : (printed all : List ℕ) → Type 0
IsFront printed all = (rest : List ℕ) × (all ≡ printed ++ rest)

none_front : (printed all : List ℕ) → printed ≡ [] → IsFront printed all
none_front printed all none = (all, ap (λ (l : List ℕ). l ++ all) (sym none))

line_front : (told : Result (Unit {0}) Unprinted) (line printed : List ℕ) → IsPrinted told line printed → IsFront printed line
line_front (Ok done) line printed is = ([], sym is ∙ sym (append-nil printed))
line_front (Err unprinted.NoMemory) line printed is = none_front printed line is
line_front (Err unprinted.Output) line printed is = is

last_front : (sessions : ℕ) (served result : Result ℕ ServeFault) (last : List ℕ) → Concludes sessions served result last → IsFront last (sessions_line sessions)
last_front sessions served result last (Cut_off _ _ _ fails is none) = none_front last (sessions_line sessions) none
last_front sessions served result last (Last_line _ _ _ told all is printed) = line_front told (sessions_line sessions) last printed

tells_front : (listener sessions : ℕ) (result : Result ℕ ServeFault) (start : Export) (calls : List Call) (printed : List ℕ) (end : Export) → Tells listener sessions result start calls printed end
    → IsFront printed (serving_line (size start) ++ sessions_line sessions)
tells_front listener sessions result start calls printed end (Not_told _ _ _ _ _ why is none front same) =
    let f = line_front (Err why) (serving_line (size start)) printed front in
    (f.0 ++ sessions_line sessions, ap (λ (l : List ℕ). l ++ sessions_line sessions) f.1 ∙ append_assoc printed f.0 (sessions_line sessions))
tells_front listener sessions result start calls printed end (Told _ _ _ _ _ served last as_ concludes_so is) =
    let f = last_front sessions served result last concludes_so in
    (f.0, ap (λ (l : List ℕ). serving_line (size start) ++ l) f.1 ∙ sym (append_assoc (serving_line (size start)) last f.0) ∙ ap (λ (l : List ℕ). l ++ f.0) (sym is))

runs_front : (at : Target) (sessions : ℕ) (result : Result ℕ ServeFault) (start : Export) (calls : List Call) (printed : List ℕ) (end : Export) → Runs at sessions result start calls printed end
    → IsFront printed (serving_line (size start) ++ sessions_line sessions)
runs_front at sessions result start calls printed end (No_listener _ _ _ _ _ before after is made none same) = none_front printed (serving_line (size start) ++ sessions_line sessions) none
runs_front at sessions result start calls printed end (Listens _ _ _ _ _ listener own made tells) = tells_front listener sessions result start own printed end tells

pub prints_front : (told told' : Option (List Call)) (taken taken' : Option (List ℕ)) (at : Target) (sessions : ℕ) (result : Result ℕ ServeFault) (start end : Export) → Ran told told' taken taken' (λ calls printed. Runs at sessions result start calls printed end)
    → TakesFront taken taken' (serving_line (size start) ++ sessions_line sessions)
prints_front told told' taken taken' at sessions result start end ran =
    let f = runs_front at sessions result start ran.calls ran.printed end ran.leads in
    record { front = ran.printed; rest = f.0; split = f.1; takes = ran.takes }

-- How many were served.

served_all : (listener sessions : ℕ) (served : Result ℕ ServeFault) (start : Export) (calls : List Call) (end : Export) → ServedAs listener sessions served start calls end → IfOk served (λ n. n ≡ sessions)
served_all listener sessions (Ok n) start calls end as_ = as_.0
served_all listener sessions (Err why) start calls end as_ = tt

last_all : (sessions : ℕ) (served result : Result ℕ ServeFault) (last : List ℕ) → Concludes sessions served result last → IfOk served (λ n. n ≡ sessions) → IfOk result (λ n. n ≡ sessions)
last_all sessions served result last (Cut_off _ _ _ fails is none) all = subst (λ (r : Result ℕ ServeFault). IfOk r (λ n. n ≡ sessions)) (sym is) all
last_all sessions served result last (Last_line _ _ _ (Ok done) holds is printed) all = subst (λ (r : Result ℕ ServeFault). IfOk r (λ n. n ≡ sessions)) (sym is) all
last_all sessions served result last (Last_line _ _ _ (Err why) holds is printed) all = subst (λ (r : Result ℕ ServeFault). IfOk r (λ n. n ≡ sessions)) (sym is) tt

tells_all : (listener sessions : ℕ) (result : Result ℕ ServeFault) (start : Export) (calls : List Call) (printed : List ℕ) (end : Export) → Tells listener sessions result start calls printed end → IfOk result (λ n. n ≡ sessions)
tells_all listener sessions result start calls printed end (Not_told _ _ _ _ _ why is none front same) = subst (λ (r : Result ℕ ServeFault). IfOk r (λ n. n ≡ sessions)) (sym is) tt
tells_all listener sessions result start calls printed end (Told _ _ _ _ _ served last as_ concludes_so is) = last_all sessions served result last concludes_so (served_all listener sessions served start calls end as_)

runs_all : (at : Target) (sessions : ℕ) (result : Result ℕ ServeFault) (start : Export) (calls : List Call) (printed : List ℕ) (end : Export) → Runs at sessions result start calls printed end → IfOk result (λ n. n ≡ sessions)
runs_all at sessions result start calls printed end (No_listener _ _ _ _ _ before after is made none same) = subst (λ (r : Result ℕ ServeFault). IfOk r (λ n. n ≡ sessions)) (sym is) tt
runs_all at sessions result start calls printed end (Listens _ _ _ _ _ listener own made tells) = tells_all listener sessions result start own printed end tells

pub serves_all : (told told' : Option (List Call)) (taken taken' : Option (List ℕ)) (at : Target) (sessions : ℕ) (result : Result ℕ ServeFault) (start end : Export) → Ran told told' taken taken' (λ calls printed. Runs at sessions result start calls printed end)
    → IfOk result (λ n. n ≡ sessions)
serves_all told told' taken taken' at sessions result start end ran = runs_all at sessions result start ran.calls ran.printed end ran.leads

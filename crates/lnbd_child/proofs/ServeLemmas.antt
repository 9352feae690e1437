-- All steps together: which were done, and what comes of the file and the child.
use Rattle.std.proofs.Common.{◌≡◌, ℕ, Bool, true, false, List, [], ◌∷◌, ◌++◌, length, drop, Option, Some, None, Result, Ok, Err, refl, ap, sym, subst, ◌∙◌, arith, append-nil}
use Rattle.std.proofs.lemmas.List.{drop_all}
use Rattle.lnbd_export.specs.Export.{Export}
use Rattle.lnbd_link.specs.Call.{Call}
use Rattle.lnbd_link.specs.Part.{Grows}
use Rattle.lnbd_link.proofs.Parts.{grows_none, grows_on, takes_none, takes_on}
use Rattle.lnbd_spawn.specs.declared.deed.Deed.{Deed}
use Rattle.lnbd_spawn.specs.declared.deed.Deed.TheVariants.{Start, Wait}
use Rattle.lnbd_spawn.specs.declared.spawner.Waited.{Waited}
use Rattle.lnbd_serve.specs.declared.fault.ServeFault.{ServeFault}
use Rattle.lnbd_serve.specs.Printed.{is_served}
use Rattle.lnbd_serve.specs.Served.{ServedAs}
use Rattle.lnbd_store.specs.Call.{Call as Move}
use Rattle.lnbd_store.specs.Shelf.{Shelf, or_empty}
use Rattle.lnbd_store.specs.declared.serving.Content.{Content}
use Rattle.lnbd_store.specs.declared.serving.Content.TheVariants.{Made, File}
use Rattle.lnbd_store.specs.declared.serving.Serving.{Serving}
use Rattle.lnbd_child.specs.declared.child.Attended.{Attended}
use Rattle.lnbd_child.specs.declared.child.Running.{Running}
use Rattle.lnbd_child.specs.declared.fault.RunFault.{RunFault}
use Rattle.lnbd_child.specs.Child.{Ended, Nobody, Starts, Unknown, Waits, answer_of}
use Rattle.lnbd_child.specs.Closing.{Closed, Closes, Leaves}
use Rattle.lnbd_child.specs.Grown.{Grew}
use Rattle.lnbd_child.specs.Hosting.{Attends, Cut_off, Hosted, Hosts, No_listener, Not_hosted, Not_started, Not_told, Served, Worked}
use Rattle.lnbd_child.specs.Loading.{Begins, BeginsAs, Holds, Loads, NotLoaded}
use Rattle.lnbd_child.specs.Reading.{IsRead}
use Rattle.lnbd_child.specs.Writing.{IsWritten}
use Rattle.lnbd_child.specs.Serving.{Attended_to, Did, Goes, HasServed, IsAsLong, KeepsFiles, Not_attended, Not_loaded, RunsChild, ServesFile}
use Rattle.lnbd_child.proofs.LengthLemmas.{serving_keeps_length}

-- Which steps were done.

module _ (asked : Serving) where
  pub goes_unloaded : (told : Option (List Call)) (taken : Option (List ℕ)) (moved moved' : Option (List Move)) (deeds : Option (List Deed)) (why : RunFault) → Grew moved moved' (NotLoaded asked.content why)
      → Did told told taken taken moved moved' deeds deeds (Goes asked (Err why))
  goes_unloaded told taken moved moved' deeds why g = record {
    calls = [];
    printed = [];
    moves = g.calls;
    started = [];
    grown = grows_none told;
    takes = takes_none taken;
    moves_on = g.grown;
    starts = grows_none deeds;
    leads = Not_loaded why refl g.leads refl refl refl;
  }

  pub goes_unattended : (told told' : Option (List Call)) (taken taken' : Option (List ℕ)) (moved moved' : Option (List Move)) (deeds deeds' : Option (List Deed)) (start end : Export) (why : RunFault) → Begins asked start
      → Grew moved moved' (Loads asked.content start.bytes) → Worked told told' taken taken' deeds deeds' (Attends asked start end (Err why)) → Did told told' taken taken' moved moved' deeds deeds' (Goes asked (Err why))
  goes_unattended told told' taken taken' moved moved' deeds deeds' start end why begins g w = record {
    calls = w.calls;
    printed = w.printed;
    moves = g.calls;
    started = w.started;
    grown = w.grown;
    takes = w.takes;
    moves_on = g.grown;
    starts = w.starts;
    leads = Not_attended start end why refl begins g.leads w.leads;
  }

  pub goes_attended : (told told' : Option (List Call)) (x y z : Option (List ℕ)) (moved moved' moved'' : Option (List Move)) (deeds deeds' : Option (List Deed)) (start end : Export) (attended : Attended) (result : Result ℕ RunFault) → Begins asked start
      → Grew moved moved' (Loads asked.content start.bytes) → Worked told told' x y deeds deeds' (Attends asked start end (Ok attended)) → Closed moved' moved'' y z (Closes asked attended end.bytes result)
      → Did told told' x z moved moved'' deeds deeds' (Goes asked result)
  goes_attended told told' x y z moved moved' moved'' deeds deeds' start end attended result begins g w c = record {
    calls = w.calls;
    printed = w.printed ++ c.printed;
    moves = g.calls ++ c.moves;
    started = w.started;
    grown = w.grown;
    takes = takes_on x y z w.printed c.printed w.takes c.takes;
    moves_on = grows_on moved moved' moved'' g.calls c.moves g.grown c.moved;
    starts = w.starts;
    leads = Attended_to start end attended g.calls c.moves w.printed c.printed begins g.leads w.leads c.leads refl refl;
  }

  pub begins_name : (start : Export) → Begins asked start → start.name ≡ asked.place.name
  begins_name start begins = go asked.content begins
    where
      go : (content : Content) → BeginsAs content asked.place.name asked.read_only start → start.name ≡ asked.place.name
      go (Made seed n) is = is.name
      go (File path) is = ap (λ (x : Export). x.name) is

-- What attending came to.

module _ (asked : Serving) (start end : Export) (attended : Attended) where
  waits_served : (running : Running) (deeds : List Deed) → Waits running (Ok attended) deeds → attended.served ≡ running.served
  waits_served running deeds (Nobody none made is) = let same : attended ≡ record { served = running.served; ended = None } = cc in ap (λ (a : Attended). a.served) same
  waits_served running deeds (Ended child answer some known made is) = let same : attended ≡ record { served = running.served; ended = Some answer } = cc in ap (λ (a : Attended). a.served) same
  waits_served running deeds (Unknown child before after some made is) = absurd cc

  hosts_served : (listener : ℕ) (running : Running) (own : List Call) (printed : List ℕ) (deeds : List Deed) → Hosts asked listener start end (Ok running) own printed deeds → ServedAs listener asked.sessions running.served start own end
  hosts_served listener running own printed deeds (Not_told why is line none made same) = absurd cc
  hosts_served listener running own printed deeds (Not_started why is line starts made same) = absurd cc
  hosts_served listener running own printed deeds (Cut_off child why is line starts off serves) = absurd cc
  hosts_served listener running own printed deeds (Served child served is line starts all serves) =
      let same : running ≡ record { served = served; child = child } = cc in
      subst (λ (r : Result ℕ ServeFault). ServedAs listener asked.sessions r start own end) (sym (ap (λ (r : Running). r.served) same)) serves

  attends_served : (calls : List Call) (printed : List ℕ) (deeds : List Deed) → Attends asked start end (Ok attended) calls printed deeds → HasServed asked attended.served start end calls
  attends_served calls printed deeds (No_listener before after is made none nobody same) = absurd cc
  attends_served calls printed deeds (Not_hosted listener own why is hosts made) = absurd cc
  attends_served calls printed deeds (Hosted listener own running first last hosts waits made parts) = record {
    listener = listener;
    own = own;
    calls_are = made;
    serves = subst (λ (r : Result ℕ ServeFault). ServedAs listener asked.sessions r start own end) (sym (waits_served running last waits)) (hosts_served listener running own printed first hosts);
  }

  -- The child.

  hosts_started : (listener : ℕ) (running : Running) (own : List Call) (printed : List ℕ) (deeds : List Deed) → Hosts asked listener start end (Ok running) own printed deeds → Starts asked.run asked.uri running.child deeds
  hosts_started listener running own printed deeds (Not_told why is line none made same) = absurd cc
  hosts_started listener running own printed deeds (Not_started why is line starts made same) = absurd cc
  hosts_started listener running own printed deeds (Cut_off child why is line starts off serves) = absurd cc
  hosts_started listener running own printed deeds (Served child served is line starts all serves) =
      let same : running ≡ record { served = served; child = child } = cc in
      subst (λ (k : Option ℕ). Starts asked.run asked.uri k deeds) (sym (ap (λ (r : Running). r.child) same)) starts

  -- what was done with the child that is asked for
  abbrev Ran : (run : List (List ℕ)) → List Deed → Type 0
  Ran [] deeds = deeds ≡ []
  Ran (program ∷ words) deeds = (child : ℕ) × (answer : Waited) × (deeds ≡ Start program (words ++ asked.uri ∷ []) (Some child) ∷ Wait child answer ∷ []) × (attended.ended ≡ Some answer)

  ran : (run : List (List ℕ)) (running : Running) (first last : List Deed) → Starts run asked.uri running.child first → Waits running (Ok attended) last → Ran run (first ++ last)
  ran [] running first last starts (Nobody none made is) = ap (λ (xs : List Deed). xs ++ last) starts.1 ∙ made
  ran [] running first last starts (Ended child answer some known made is) = let bad : None ≡ Some child = sym starts.0 ∙ some in absurd cc
  ran [] running first last starts (Unknown child before after some made is) = absurd cc
  ran (program ∷ words) running first last starts (Nobody none made is) = let bad : None ≡ Some starts.0 = sym none ∙ starts.1 in absurd cc
  ran (program ∷ words) running first last starts (Ended child answer some known made is) =
      let one : Some starts.0 ≡ Some child = sym starts.1 ∙ some in
      let same : starts.0 ≡ child = cc in
      let whole : attended ≡ record { served = running.served; ended = Some answer } = cc in (
        starts.0,
        answer,
        ap (λ (xs : List Deed). xs ++ last) starts.2 ∙ ap (λ (xs : List Deed). Start program (words ++ asked.uri ∷ []) (Some starts.0) ∷ xs) (made ∙ ap (λ (k : ℕ). Wait k answer ∷ []) (sym same)),
        ap (λ (a : Attended). a.ended) whole,
      )
  ran (program ∷ words) running first last starts (Unknown child before after some made is) = absurd cc

  attends_ran : (calls : List Call) (printed : List ℕ) (deeds : List Deed) → Attends asked start end (Ok attended) calls printed deeds → Ran asked.run deeds
  attends_ran calls printed deeds (No_listener before after is made none nobody same) = absurd cc
  attends_ran calls printed deeds (Not_hosted listener own why is hosts made) = absurd cc
  attends_ran calls printed deeds (Hosted listener own running first last hosts waits made parts) =
      subst (Ran asked.run) (sym parts) (ran asked.run running first last (hosts_started listener running own printed first hosts) waits)

  runs : (run : List (List ℕ)) (told told' : Option (List Deed)) (deeds : List Deed) (result : Result ℕ RunFault) → Grows told told' deeds → Ran run deeds → result ≡ answer_of attended.served attended.ended → RunsChild run asked.uri told told' result
  runs [] told told' deeds result grown is answer = subst (Grows told told') is grown
  runs (program ∷ words) told told' deeds result grown is answer =
      (is.0, is.1, subst (Grows told told') is.2 grown, (attended.served, answer ∙ ap (λ (e : Option Waited). answer_of attended.served e) is.3))

  pub runs_child : (a b : Option (List Call)) (x y : Option (List ℕ)) (told told' : Option (List Deed)) (result : Result ℕ RunFault) → Worked a b x y told told' (Attends asked start end (Ok attended))
      → result ≡ answer_of attended.served attended.ended → RunsChild asked.run asked.uri told told' result
  runs_child a b x y told told' result w answer = runs asked.run told told' w.started result w.starts (attends_ran w.calls w.printed w.started w.leads) answer

  -- The file.

  long : (calls : List Call) → HasServed asked attended.served start end calls → IsAsLong start end
  long calls h = serving_keeps_length h.listener asked.sessions attended.served start h.own end h.serves

  keeps_locked : (path : List ℕ) (a b : Option Shelf) → IsRead path start.bytes a b → KeepsFiles (File path) true start.bytes end.bytes a b
  keeps_locked path a b read now e = let k = read.on now e in (k.0, k.1, record { held = k.2.file; holds = k.2.kept; rest = k.2.rest })

  keeps_written : (path : List ℕ) (a b c : Option Shelf) → IsAsLong start end → IsRead path start.bytes a b → IsWritten path end.bytes b c → KeepsFiles (File path) false start.bytes end.bytes a c
  keeps_written path a b c size read written now e =
      let two = written.on now e in
      let one = read.on two.0 two.1 in
      let tail : drop (length end.bytes) (or_empty (two.0.files path)) ≡ [] =
      ap (λ (o : Option (List ℕ)). drop (length end.bytes) (or_empty o)) one.2.kept ∙ drop_all (length end.bytes) start.bytes (omega (arith, size)) in (
        one.0,
        one.1,
        record {
          held = one.2.file;
          holds = two.2.file ∙ ap (λ (xs : List ℕ). Some (end.bytes ++ xs)) tail ∙ ap (λ (xs : List ℕ). Some xs) (append-nil end.bytes);
          rest = λ other d. two.2.rest other d ∙ one.2.rest other d;
        },
      )

  keeps : (content : Content) (read_only : Bool) (a b c : Option Shelf) → IsAsLong start end → Holds content start.bytes a b → Leaves content read_only end.bytes b c → KeepsFiles content read_only start.bytes end.bytes a c
  keeps (Made seed n) read_only a b c size holds leaves = leaves ∙ holds
  keeps (File path) true a b c size holds leaves = subst (λ (s : Option Shelf). KeepsFiles (File path) true start.bytes end.bytes a s) (sym leaves) (keeps_locked path a b holds)
  keeps (File path) false a b c size holds leaves = keeps_written path a b c size holds leaves

  pub serves_file : (told told' : Option (List Call)) (x y : Option (List ℕ)) (deeds deeds' : Option (List Deed)) (a b c : Option Shelf) (result : Result ℕ RunFault) → Begins asked start → Holds asked.content start.bytes a b
      → Worked told told' x y deeds deeds' (Attends asked start end (Ok attended)) → is_served attended.served ≡ true → Leaves asked.content asked.read_only end.bytes b c → result ≡ answer_of attended.served attended.ended
      → ServesFile asked told told' a c result
  serves_file told told' x y deeds deeds' a b c result begins holds w all leaves answer =
      let h = attends_served w.calls w.printed w.started w.leads in
      record {
        start = start;
        end = end;
        served = attended.served;
        ended = attended.ended;
        begins = begins;
        all = all;
        clients = record { calls = w.calls; grown = w.grown; leads = h };
        files = keeps asked.content asked.read_only a b c (long w.calls h) holds leaves;
        answer = answer;
      }

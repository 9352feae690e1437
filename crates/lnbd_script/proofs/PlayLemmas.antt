-- Lines that follow each other, and the end of a script.
use Rattle.std.proofs.Common.{◌≡◌, inl, inr, ◌<◌, ◌≤◌, ◌+◌, add-one, drop-cons, ℕ, zero, suc, Bool, true, false, List, [], ◌∷◌, ◌++◌, All, length, drop, get_or, map, replicate, vec_len, Option, Result, Ok, Err, OnOk, is_err, refl, sym, ◌∙◌, ap, subst, arith, append_assoc}
use Rattle.std.proofs.lemmas.Bool.{false≢true}
use Rattle.std.proofs.lemmas.List.{append-nil}
use Rattle.std.proofs.lemmas.List.Elements.{All-cons, All-nil}
use Rattle.lnbd_history.specs.Events.{History, Set, StrictMode, Start, Opt, Abort, Issue, Refuse, Disconnect, Wrote, Arrived, End, LinkFailed, Retire, ClearLog, Close}
use Rattle.lnbd_history.specs.History.{reading}
use Rattle.lnbd_history.specs.Laws.{AllFreed, is_closed}
use Rattle.lnbd_history.proofs.Freed.{close_frees_all}
use Rattle.lnbd_link.specs.Call.{Call}
use Rattle.lnbd_link.specs.Part.{Grows, Takes, TakesFront}
use Rattle.lnbd_link.proofs.Parts.{grows_none, grows_on, takes_none, takes_on}
use Rattle.lnbd_lines.specs.declared.line.Line.{Line}
use Rattle.lnbd_script.specs.declared.event.Event.{Event}
use Rattle.lnbd_script.specs.declared.keeper.Keeper.{Keeper}
use Rattle.lnbd_script.specs.declared.place.Over.{Over}
use Rattle.lnbd_script.specs.declared.place.Place.{Place}
use Rattle.lnbd_script.specs.declared.playing.Stop.{Stop}
use Rattle.lnbd_script.specs.declared.playing.Stop.TheVariants as stop
use Rattle.lnbd_script.specs.declared.playing.Sum.{Sum}
use Rattle.lnbd_script.specs.declared.playing.Unshown.{Unshown}
use Rattle.lnbd_script.specs.declared.playing.Unshown.TheVariants as unshown
use Rattle.lnbd_script.specs.declared.sessions.Sessions.{Sessions}
use Rattle.lnbd_script.specs.declared.told.Halt.{Halt}
use Rattle.lnbd_script.specs.declared.told.Halt.TheVariants as halt
use Rattle.lnbd_script.specs.declared.told.Told.{Told}
use Rattle.lnbd_script.specs.Acts.{Acts}
use Rattle.lnbd_script.specs.Lines.{LineEnd, shut_calls}
use Rattle.lnbd_script.specs.Plays.{Plays, Stops, StopsIn, How, Finished, Silent, Untold, Short, HasPlayed, IsTaken, last_line, line_text}
use Rattle.lnbd_script.specs.Scenes.{AllClosed, Held, IsClosedWell, Scene, admitted_on, beginning, ended_held, ended_if, ending, held_at, shut_all, unused}
use Rattle.lnbd_script.specs.Steps.{AllPlayed, AreHeld, Begun, Finishes, GoesOver, IsHeld, IsOver, IsSum, LinesPlayed, Shows, Stands, Stopped, current_place, stop_of, stop_unshown}
use Rattle.lnbd_script.specs.Texts.{ended, last_text, text_of}
use Rattle.lnbd_script.proofs.FreedLemmas.{calls_same}
use Rattle.lnbd_script.proofs.SceneLemmas.{at_current}

-- what is shown of a line where the script then stands
pub shown_at : (r : Result (Unit {0}) Unshown) (between after : Option (List ℕ)) (tells : Told) (p : Place) (sessions : Sessions) (j : ℕ) → p ≡ current_place sessions
    → ((held : Held) → IsHeld held p → Shows r between after (ended (text_of held.history tells)))
    → (s : Scene) → Stands s sessions j → Shows r between after (line_text s tells)
shown_at r between after tells p sessions j is shown s stands = shown (held_at s s.current) (at_current s sessions j p stands is)

pub ok_of : {P : Type 0} {E : Type 0} (r : Result (Unit {0}) E) → is_err r ≡ false → OnOk r P → P
ok_of (Ok done) ok p = p
ok_of (Err fault) ok p = absurd (false≢true (sym ok))

-- The lines so far.

module _ (lines : List Line) (scene : Scene) where
  pub begun_none : (old : Option (List Call)) (before : Option (List ℕ)) (sessions : Sessions) (i : ℕ) → Stands scene sessions i → Begun lines lines scene old old before before sessions i
  begun_none old before sessions i at = record { calls = []; text = []; middle = scene; grown = grows_none old; taken = takes_none before; at = at; goes_on = λ c t how e p. p }

  -- the current handle was made
  pub begun_made : (rest : List Line) (old new : Option (List Call)) (before after : Option (List ℕ)) (sessions made : Sessions) (i : ℕ) → Begun lines rest scene old new before after sessions i
      → ((s : Scene) (k : ℕ) → Stands s sessions k → Stands s made k) → Begun lines rest scene old new before after made i
  begun_made rest old new before after sessions made i b same = record { calls = b.calls; text = b.text; middle = b.middle; grown = b.grown; taken = b.taken; at = same b.middle i b.at; goes_on = b.goes_on }

-- what a line gives goes in front of what the others do
before_others : (line : Line) (rest : List Line) (scene middle : Scene) (own c : List Call) (tells : Told) (t : List ℕ) (how : How) (e : Scene) → Acts line scene own middle (Ok tells) → Plays rest middle c t how e
    → Plays (line ∷ rest) scene (own ++ c) (line_text middle tells ++ t) how e
before_others line rest scene middle own c tells t how e answers p = inr (record {
  own = own;
  middle = middle;
  tells = tells;
  answers = answers;
  other = c;
  other_text = t;
  calls_are = refl;
  text_is = refl;
  rest = p;
})

-- for want of memory a script may end between two lines
cut_here : (rest : List Line) (scene : Scene) → Plays rest scene (shut_all scene.handles) [] Short (ending scene)
cut_here [] scene = ((refl, refl), refl)
cut_here (line ∷ rest) scene = inl (inl ((refl, refl), refl))

-- One line after those so far, which has this end.
module _ (lines all rest : List Line) (scene : Scene) (old mid new : Option (List Call)) (before between after : Option (List ℕ)) (sessions next : Sessions) (i j : ℕ) (line : Line) (end : LineEnd)
    (is : all ≡ line ∷ rest) (b : Begun lines all scene old mid before between sessions i) (goes : GoesOver mid new i j sessions next (λ s calls later. Acts line s calls later end)) where
  -- it was answered, and its text taken
  pub begun_on : (tells : Told) → end ≡ Ok tells → ((s : Scene) → Stands s next j → Takes between after (line_text s tells)) → Begun lines rest scene old new before after next j
  begun_on tells is_ok shown =
      let went = goes b.middle b.at in
      let own = went.calls in
      let own_text = line_text went.after tells in
      let answers = subst (λ (x : LineEnd). Acts line b.middle own went.after x) is_ok went.leads in
      record {
        calls = b.calls ++ own;
        text = b.text ++ own_text;
        middle = went.after;
        grown = grows_on old mid new b.calls own b.grown went.grown;
        taken = takes_on before between after b.text own_text b.taken (shown went.after went.at);
        at = went.at;
        goes_on = λ c t how e p.
            let here : Plays all b.middle (own ++ c) (own_text ++ t) how e
            = subst (λ (l : List Line). Plays l b.middle (own ++ c) (own_text ++ t) how e) (sym is) (before_others line rest b.middle went.after own c tells t how e answers p) in
            subst (λ (l : List Call). Plays lines scene l ((b.text ++ own_text) ++ t) how e) (sym (append_assoc b.calls own c))
            (subst (λ (l : List ℕ). Plays lines scene (b.calls ++ (own ++ c)) l how e) (sym (append_assoc b.text own_text t)) (b.goes_on (own ++ c) (own_text ++ t) how e here));
      }

  -- the script stops in it
  stops_in : (how : How) → ((s e : Scene) (calls : List Call) → StopsIn line s calls e end → Stops (line ∷ rest) s calls [] how e) → IsTaken how before after b.text → Stopped lines scene old new before after next j how
  stops_in how stops taken =
      let went = goes b.middle b.at in
      let shuts = shut_all went.after.handles in
      let own = went.calls ++ shuts in
      let e = ending went.after in
      let stop = stops b.middle e own (record { own = went.calls; middle = went.after; other = shuts; answers = went.leads; closes = (refl, refl); calls_are = refl }) in
      let here : Plays all b.middle own [] how e = subst (λ (l : List Line). Plays l b.middle own [] how e) (sym is) (inl stop) in
      record {
        calls = b.calls ++ went.calls;
        text = b.text;
        middle = went.after;
        grown = grows_on old mid new b.calls went.calls b.grown went.grown;
        taken = taken;
        at = went.at;
        plays = subst (λ (l : List Call). Plays lines scene l b.text how e) (sym (append_assoc b.calls went.calls shuts))
            (subst (λ (t : List ℕ). Plays lines scene (b.calls ++ own) t how e) (append-nil b.text) (b.goes_on own [] how e here));
      }

  halted_in : (halt : Halt) → end ≡ Err halt → between ≡ after → LinesPlayed lines scene old new before after next j (Err (stop_of halt))
  halted_in halt.Silent is_err same = stops_in Silent (λ s e calls stop. (subst (λ (x : LineEnd). StopsIn line s calls e x) is_err stop, refl)) (subst (λ (o : Option (List ℕ)). Takes before o b.text) same b.taken)
  halted_in halt.NoMemory is_err same = stops_in Short (λ s e calls stop. inr (end, stop, refl)) (subst (λ (o : Option (List ℕ)). Takes before o b.text) same b.taken)

  pub stopped_halt : (halt : Halt) (stop : Stop) → end ≡ Err halt → between ≡ after → stop ≡ stop_of halt → LinesPlayed lines scene old new before after next j (Err stop)
  stopped_halt halt stop is_err same stops = subst (λ (s : Stop). LinesPlayed lines scene old new before after next j (Err s)) (sym stops) (halted_in halt is_err same)

  -- it was answered, and its text not taken whole
  untold_in : (tells : Told) (unshown : Unshown) → end ≡ Ok tells → ((s : Scene) → Stands s next j → Shows (Err unshown) between after (line_text s tells)) → LinesPlayed lines scene old new before after next j (Err (stop_unshown unshown))
  untold_in tells unshown.NoMemory is_ok shown =
      let went = goes b.middle b.at in
      stops_in Short (λ s e calls stop. inr (end, stop, refl)) (subst (λ (o : Option (List ℕ)). Takes before o b.text) (sym (shown went.after went.at)) b.taken)
  untold_in tells unshown.Output is_ok shown =
      let went = goes b.middle b.at in
      let answers = subst (λ (x : LineEnd). Acts line b.middle went.calls went.after x) is_ok went.leads in
      let shuts = shut_all went.after.handles in
      let own = went.calls ++ shuts in
      let e = ending went.after in
      let last = line_text went.after tells in
      let front : TakesFront between after last = shown went.after went.at in
      let stop : Stops (line ∷ rest) b.middle own [] (Untold last) e
      = (record { own = went.calls; middle = went.after; other = shuts; tells = tells; answers = answers; closes = (refl, refl); calls_are = refl; text_is = refl }, refl) in
      let here : Plays all b.middle own [] (Untold last) e = subst (λ (l : List Line). Plays l b.middle own [] (Untold last) e) (sym is) (inl stop) in (
        last,
        record {
          calls = b.calls ++ went.calls;
          text = b.text;
          middle = went.after;
          grown = grows_on old mid new b.calls went.calls b.grown went.grown;
          taken = record { front = front.front; rest = front.rest; split = front.split; taken = takes_on before between after b.text front.front b.taken front.takes };
          at = went.at;
          plays = subst (λ (l : List Call). Plays lines scene l b.text (Untold last) e) (sym (append_assoc b.calls went.calls shuts))
              (subst (λ (t : List ℕ). Plays lines scene (b.calls ++ own) t (Untold last) e) (append-nil b.text) (b.goes_on own [] (Untold last) e here));
        },
      )

  pub stopped_untold : (tells : Told) (unshown : Unshown) (stop : Stop) → end ≡ Ok tells → ((s : Scene) → Stands s next j → Shows (Err unshown) between after (line_text s tells)) → stop ≡ stop_unshown unshown
      → LinesPlayed lines scene old new before after next j (Err stop)
  stopped_untold tells unshown stop is_ok shown stops = subst (λ (s : Stop). LinesPlayed lines scene old new before after next j (Err s)) (sym stops) (untold_in tells unshown is_ok shown)

-- memory ran out between two lines
pub stopped_between : (lines rest : List Line) (scene : Scene) (old new : Option (List Call)) (before after : Option (List ℕ)) (sessions : Sessions) (i : ℕ) → Begun lines rest scene old new before after sessions i
    → Stopped lines scene old new before after sessions i Short
stopped_between lines rest scene old new before after sessions i b =
    let shuts = shut_all b.middle.handles in
    let e = ending b.middle in
    record {
      calls = b.calls;
      text = b.text;
      middle = b.middle;
      grown = b.grown;
      taken = b.taken;
      at = b.at;
      plays = subst (λ (t : List ℕ). Plays lines scene (b.calls ++ shuts) t Short e) (append-nil b.text) (b.goes_on shuts [] Short e (cut_here rest b.middle));
    }

-- all lines were played
pub lines_done : (lines rest : List Line) (scene : Scene) (old new : Option (List Call)) (before after : Option (List ℕ)) (sessions : Sessions) (i : ℕ) → rest ≡ [] → Begun lines rest scene old new before after sessions i
    → Begun lines [] scene old new before after sessions i
lines_done lines rest scene old new before after sessions i none b = subst (λ (l : List Line). Begun lines l scene old new before after sessions i) none b

next_line : (lines : List Line) (i : ℕ) (d : Line) → i < length lines → drop i lines ≡ get_or lines i d ∷ drop (i + 1) lines
next_line lines i d h = rw (add-one, drop-cons lines i d) refl

pub next_item : (lines : List Line) (i : ℕ) (item : Line) → i < length lines → item ≡ get_or lines i item → drop i lines ≡ item ∷ drop (i + 1) lines
next_item lines i item h is = next_line lines i item h ∙ ap (λ (l : Line). l ∷ drop (i + 1) lines) (sym is)

-- all handles are where they were
pub places_few : (lines : List Line) (scene : Scene) (old new : Option (List Call)) (before after : Option (List ℕ)) (sessions : Sessions) (i : ℕ) (told : Result (Unit {0}) Stop) → LinesPlayed lines scene old new before after sessions i told → vec_len sessions.places ≤ 16
places_few lines scene old new before after sessions i (Ok done) b = let count = b.at.count in omega (arith, count)
places_few lines scene old new before after sessions i (Err stop.Silent) s = let count = s.at.count in omega (arith, count)
places_few lines scene old new before after sessions i (Err stop.Output) s = let count = s.1.at.count in omega (arith, count)
places_few lines scene old new before after sessions i (Err stop.NoMemory) s = let count = s.at.count in omega (arith, count)

-- The end.

closed_freed : (history : History Keeper) → is_closed history ≡ true → AllFreed history
closed_freed history e = go history e
  where
    go : (h : History Keeper) → is_closed h ≡ true → AllFreed h
    go [] e = absurd (false≢true e)
    go (Set setting ∷ before) e = absurd (false≢true e)
    go (StrictMode bits ∷ before) e = absurd (false≢true e)
    go (Start ∷ before) e = absurd (false≢true e)
    go (Opt option ∷ before) e = absurd (false≢true e)
    go (Abort ∷ before) e = absurd (false≢true e)
    go (Issue command ∷ before) e = absurd (false≢true e)
    go (Refuse command why ∷ before) e = absurd (false≢true e)
    go (Disconnect ∷ before) e = absurd (false≢true e)
    go (Wrote n ∷ before) e = absurd (false≢true e)
    go (Arrived bytes answers ∷ before) e = absurd (false≢true e)
    go (End answers ∷ before) e = absurd (false≢true e)
    go (LinkFailed answers ∷ before) e = absurd (false≢true e)
    go (Retire cookie ∷ before) e = absurd (false≢true e)
    go (ClearLog ∷ before) e = absurd (false≢true e)
    go (Close ∷ before) e = close_frees_all before

closed_if : (c : Bool) (held : Held) → is_closed held.history ≡ c → is_closed (ended_if c held).history ≡ true
closed_if true held e = e
closed_if false held e = refl

closed_well : (held : Held) → IsClosedWell (ended_held held)
closed_well held =
    let closed = closed_if (is_closed held.history) held refl in
    let freed = closed_freed (ended_held held).history closed in
    (closed, freed, calls_same (reading (ended_held held).history).known.entries ∙ freed.all)

all_closed_well : (handles : List Held) → All IsClosedWell (map ended_held handles)
all_closed_well [] = All-nil IsClosedWell
all_closed_well (held ∷ others) = All-cons IsClosedWell (ended_held held) (map ended_held others) (closed_well held) (all_closed_well others)

pub all_closed : (scene : Scene) → AllClosed (ending scene)
all_closed scene = all_closed_well scene.handles

-- The handles are closed after the script was stopped.
module _ (lines : List Line) (old mid new : Option (List Call)) (before after : Option (List ℕ)) (sessions : Sessions) (i : ℕ) (sum : Sum)
    (ends : (handles : List Held) → AreHeld handles sessions.places.items → Grows mid new (shut_all handles) × IsSum (map ended_held handles) sum) where
  stopped : (how : How) → Stopped lines beginning old mid before after sessions i how → HasPlayed lines old new before after how (λ met. Unit {0})
  stopped how s = record {
    calls = s.calls ++ shut_all s.middle.handles;
    text = s.text;
    end = ending s.middle;
    grown = grows_on old mid new s.calls (shut_all s.middle.handles) s.grown (ends s.middle.handles s.at.held).0;
    taken = s.taken;
    plays = s.plays;
    first = tt;
    closed = all_closed s.middle;
  }

  early : (why : Stop) → LinesPlayed lines beginning old mid before after sessions i (Err why) → AllPlayed lines old new before after (Err why)
  early stop.Silent s = stopped Silent s
  early stop.Output s = (s.0, stopped (Untold s.0) s.1)
  early stop.NoMemory s = stopped Short s

  pub stopped_early : (told : Result (Unit {0}) Stop) (why : Stop) → told ≡ Err why → LinesPlayed lines beginning old mid before after sessions i told → AllPlayed lines old new before after (Err why)
  stopped_early told why is played = early why (subst (λ (t : Result (Unit {0}) Stop). LinesPlayed lines beginning old mid before after sessions i t) is played)

-- The handles are closed, and the last line is told.
module _ (lines : List Line) (old mid new : Option (List Call)) (before between after : Option (List ℕ)) (sessions : Sessions) (i : ℕ) (sum : Sum)
    (ends : (handles : List Held) → AreHeld handles sessions.places.items → Grows mid new (shut_all handles) × IsSum (map ended_held handles) sum)
    (b : Begun lines [] beginning old mid before between sessions i) where
  e : Scene
  e = ending b.middle

  shuts : List Call
  shuts = shut_all b.middle.handles

  grown_on : Grows old new (b.calls ++ shuts)
  unfolding shuts
  grown_on = grows_on old mid new b.calls (shut_all b.middle.handles) b.grown (ends b.middle.handles b.at.held).0

  finished_as : (end : Result (Option Event) Stop) → Finishes end between after (ended (last_text (admitted_on (map ended_held b.middle.handles)))) sessions.first → AllPlayed lines old new before after end
  unfolding e shuts
  finished_as (Ok first) f = record {
    calls = b.calls ++ shuts;
    text = b.text ++ last_line e;
    end = e;
    grown = grown_on;
    taken = takes_on before between after b.text (last_line e) b.taken f.0;
    plays = b.goes_on shuts (last_line e) Finished e ((refl, refl), refl);
    first = sym b.at.first ∙ sym f.1;
    closed = all_closed b.middle;
  }
  finished_as (Err stop.Silent) f = absurd f
  finished_as (Err stop.Output) f = (
    last_line e,
    record {
      calls = b.calls ++ shuts;
      text = b.text ++ [];
      end = e;
      grown = grown_on;
      taken = record { front = f.front; rest = f.rest; split = f.split; taken = subst (λ (t : List ℕ). Takes before after (t ++ f.front)) (sym (append-nil b.text)) (takes_on before between after b.text f.front b.taken f.takes) };
      plays = b.goes_on shuts [] (Untold (last_line e)) e ((refl, refl), refl, refl);
      first = tt;
      closed = all_closed b.middle;
    },
  )
  finished_as (Err stop.NoMemory) f = record {
    calls = b.calls ++ shuts;
    text = b.text ++ [];
    end = e;
    grown = grown_on;
    taken = subst (λ (t : List ℕ). Takes before after t) (sym (append-nil b.text)) (subst (λ (o : Option (List ℕ)). Takes before o b.text) (sym f) b.taken);
    plays = b.goes_on shuts [] Short e ((refl, refl), refl);
    first = tt;
    closed = all_closed b.middle;
  }

pub finished : (lines : List Line) (old mid new : Option (List Call)) (before between after : Option (List ℕ)) (sessions : Sessions) (i : ℕ) (sum : Sum) (told : Result (Unit {0}) Stop) (end : Result (Option Event) Stop)
    → told ≡ Ok tt → LinesPlayed lines beginning old mid before between sessions i told
    → ((handles : List Held) → AreHeld handles sessions.places.items → Grows mid new (shut_all handles) × IsSum (map ended_held handles) sum)
    → ((handles : List Held) → IsSum handles sum → Finishes end between after (ended (last_text (admitted_on handles))) sessions.first)
    → AllPlayed lines old new before after end
finished lines old mid new before between after sessions i sum told end is played ends tells =
    let b : Begun lines [] beginning old mid before between sessions i = subst (λ (t : Result (Unit {0}) Stop). LinesPlayed lines beginning old mid before between sessions i t) is played in
    finished_as lines old mid new before between after sessions i sum ends b end (tells (map ended_held b.middle.handles) (ends b.middle.handles b.at.held).1)

-- nothing was begun
shut_unused : (n : ℕ) → shut_all (replicate n unused) ≡ []
shut_unused zero = refl
shut_unused (suc n) = shut_unused n

pub not_begun : (old : Option (List Call)) (before : Option (List ℕ)) (lines : List Line) → HasPlayed lines old old before before Short (λ met. Unit {0})
not_begun old before lines = record {
  calls = shut_all beginning.handles;
  text = [];
  end = ending beginning;
  grown = subst (λ (l : List Call). Grows old old l) (sym (shut_unused 16)) (grows_none old);
  taken = takes_none before;
  plays = cut_here lines beginning;
  first = tt;
  closed = all_closed beginning;
}

-- The handles that were closed so far: whatever the closing of the others does goes on from here.
pub record Ending (a b : Option (List Call)) (handles : List Held) (places : List Place) (sum : Sum) : Type 0 where
  pub calls : List Call
  pub left : List Held
  pub grown : Grows a b calls
  pub at : AreHeld left places
  pub shuts : shut_all handles ≡ calls ++ shut_all left
  pub opened : admitted_on (map ended_held handles) ≡ sum.opened + admitted_on (map ended_held left)
  pub freed : admitted_on (map ended_held handles) ≡ sum.freed + admitted_on (map ended_held left)

pub ending_none : (a : Option (List Call)) (handles : List Held) (places items : List Place) → items ≡ places → AreHeld handles places → Ending a a handles items (record { opened = 0; freed = 0 })
ending_none a handles places items is at = record {
  calls = [];
  left = handles;
  grown = grows_none a;
  at = subst (λ (ps : List Place). AreHeld handles ps) (sym is) at;
  shuts = refl;
  opened = omega arith;
  freed = omega arith;
}

pub ending_on : (a b c : Option (List Call)) (handles : List Held) (items others : List Place) (p : Place) (sum sum' : Sum) (over : Over) → Ending a b handles items sum → items ≡ p ∷ others
    → sum'.opened ≡ sum.opened + over.opened → sum'.freed ≡ sum.freed + over.freed
    → ((held : Held) → IsHeld held p → Grows b c (shut_calls held.link) × IsOver (ended_held held) over) → Ending a c handles others sum'
ending_on a b c handles items others p sum sum' over e is opened freed ends = go e.left refl (subst (λ (ps : List Place). AreHeld e.left ps) is e.at)
  where
    go : (left : List Held) → e.left ≡ left → AreHeld e.left (p ∷ others) → Ending a c handles others sum'
    go [] none at = absurd (subst (λ (l : List Held). AreHeld l (p ∷ others)) none at)
    go (h ∷ hs) is_left at =
        let here = subst (λ (l : List Held). AreHeld l (p ∷ others)) is_left at in
        let one = ends h here.0 in
        let split = ap (λ (l : List Held). shut_all l) is_left in
        let sums = ap (λ (l : List Held). admitted_on (map ended_held l)) is_left in
        let o = e.opened in
        let f = e.freed in
        let oo = one.1.opened in
        let of = one.1.freed in
        record {
          calls = e.calls ++ shut_calls h.link;
          left = hs;
          grown = grows_on a b c e.calls (shut_calls h.link) e.grown one.0;
          at = here.1;
          shuts = e.shuts ∙ ap (λ (l : List Call). e.calls ++ l) split ∙ sym (append_assoc e.calls (shut_calls h.link) (shut_all hs));
          opened = omega (arith, o, sums, oo, opened);
          freed = omega (arith, f, sums, of, freed);
        }

pub ending_done : (a b : Option (List Call)) (handles : List Held) (items : List Place) (sum : Sum) → Ending a b handles items sum → length items ≡ 0 → Grows a b (shut_all handles) × IsSum (map ended_held handles) sum
ending_done a b handles items sum e none = go e.left items refl none e.at
  where
    go : (left : List Held) (items : List Place) → e.left ≡ left → length items ≡ 0 → AreHeld e.left items → Grows a b (shut_all handles) × IsSum (map ended_held handles) sum
    go left (p ∷ ps) is none at = absurd (omega (arith, none))
    go (h ∷ hs) [] is none at = absurd (subst (λ (l : List Held). AreHeld l []) is at)
    go [] [] is none at =
        let split = ap (λ (l : List Held). shut_all l) is in
        let sums = ap (λ (l : List Held). admitted_on (map ended_held l)) is in
        let o = e.opened in
        let f = e.freed in (
          subst (λ (l : List Call). Grows a b l) (sym (e.shuts ∙ ap (λ (l : List Call). e.calls ++ l) split ∙ append-nil e.calls)) e.grown,
          record { opened = omega (arith, o, sums); freed = omega (arith, f, sums) },
        )

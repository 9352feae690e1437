-- Turns: one write after another, and one handle after another.
use Rattle.std.proofs.Common.{arith, ◌≡◌, ◌<◌, ◌≤◌, ◌+◌, ◌||◌, ℕ, zero, suc, Bool, true, false, List, [], ◌∷◌, ◌++◌, length, get_or, slice_set, Option, Some, None, refl, sym, ◌∙◌, ap, subst, append_assoc}
use Rattle.std.proofs.lemmas.Bool.{false≢true}
use Rattle.std.proofs.lemmas.List.{append-nil, length-append}
use Rattle.std.proofs.lemmas.List.Folds.{list_any-append}
use Rattle.std.specs.List.{list_any}
use Rattle.std.specs.Prelude.{Result, Ok, Err, IfOk, OnErr, slice_get}
use Rattle.lnbd_callbacks.specs.Calls.{Call}
use Rattle.lnbd_history.specs.Events.{History, LinkFailed}
use Rattle.lnbd_history.specs.Answers.{out_after}
use Rattle.lnbd_machine.specs.Machine.{Machine}
use Rattle.lnbd_standing.specs.Standing.{StandsFor}
use Rattle.lnbd_handle.specs.Histories.{ForEach, AddsAnswered}
use Rattle.lnbd_link.specs.Call as wire
use Rattle.lnbd_link.specs.Call.{Read, Write, ReadTold, WriteTold, Moved, Unready, Ended, ReadFault, Sent, Full, WriteFault}
use Rattle.lnbd_link.specs.Count.{Rises}
use Rattle.lnbd_link.specs.Listed.{has_failed}
use Rattle.lnbd_link.specs.Part.{Grows}
use Rattle.lnbd_link.proofs.Parts.{grows_none, grows_on, rises_earlier, rises_later}
use Rattle.lnbd_poll.specs.declared.noticed.Noticed.{Noticed}
use Rattle.lnbd_poll.specs.declared.noticed.Noticed.TheVariants as noticed
use Rattle.lnbd_poll.specs.declared.noticed.Turn.{Turn}
use Rattle.lnbd_poll.specs.declared.noticed.Turn.TheVariants as turn
use Rattle.lnbd_poll.specs.Seen.{Seen, IsAt, Went, Goes}
use Rattle.lnbd_poll.specs.Notices.{Sends, room_after, Hears, ReadsIf, ReadsOn, ReadsOnce, WritesIf, WritesOnce, is_reading, is_waiting}
use Rattle.lnbd_poll.specs.Turns.{AllTook, Blames, Ending, Whole, Short, Told, Turns, All_took, Takes, Runs_short, Breaks_off, TurnsOne, WritesAll, Stops, Goes_on, WritesTold, is_lost, is_moved, is_short, moved_by, together, turn_of, with_moved}
use Rattle.lnbd_poll.specs.Turned.{TakesPart, TurnsCut, TurnsShort, TurnsWhole}
use Rattle.lnbd_poll.specs.Held.{Held, AreAt}
use Rattle.lnbd_poll.proofs.AloneLemmas.{each_took}
use Rattle.lnbd_poll.proofs.StillLemmas.{waits_where_full}
use Rattle.lnbd_poll.specs.Steps.{HasWritten, TookEnough, TookPart, TookShort, both}

-- Sums.

pub both_is : (a b : Option ℕ) → both (turn_of a) (turn_of b) ≡ turn_of (together a b)
both_is None b = refl
both_is (Some n) None = refl
both_is (Some n) (Some m) = ap turn.Moved (omega arith)

together_assoc : (a b c : Option ℕ) → together a (together b c) ≡ together (together a b) c
together_assoc None b c = refl
together_assoc (Some n) None c = refl
together_assoc (Some n) (Some m) None = refl
together_assoc (Some n) (Some m) (Some k) = ap Some (omega arith)

together_none : (a : Option ℕ) → together a None ≡ a
together_none None = refl
together_none (Some n) = refl

-- In a turn that is broken off something happened.
some_so_far : (moved : Option ℕ) → (n : ℕ) × (together moved (Some 0) ≡ Some n)
some_so_far None = (0, refl)
some_so_far (Some n) = (n + 0, refl)

still_is : (moved : Option ℕ) → turn_of moved ≡ turn.Still → moved ≡ None
still_is None is = refl
still_is (Some n) is = absurd (cc is)

with_none : (ending : Ending) → with_moved None ending ≡ ending
with_none (Whole moved) = refl
with_none Short = refl

with_assoc : (a b : Option ℕ) (ending : Ending) → with_moved a (with_moved b ending) ≡ with_moved (together a b) ending
with_assoc a b (Whole rest) = ap Whole (together_assoc a b rest)
with_assoc a b Short = refl

both_told : (told part both_of : Turn) (a b : Option ℕ) → both_of ≡ both told part → told ≡ turn_of a → part ≡ turn_of b → both_of ≡ turn_of (together a b)
both_told told part both_of a b is p q = is ∙ ap (λ (t : Turn). both t part) p ∙ ap (λ (t : Turn). both (turn_of a) t) q ∙ both_is a b

short_is : (notice : Noticed) → is_short notice ≡ true → notice ≡ noticed.NoMemory
short_is (noticed.Moved n) short = absurd (false≢true short)
short_is noticed.NotReady short = absurd (false≢true short)
short_is noticed.Idle short = absurd (false≢true short)
short_is noticed.Ended short = absurd (false≢true short)
short_is noticed.LinkFailed short = absurd (false≢true short)
short_is noticed.NoMemory short = refl

-- Faults.

blames_none : (f f' : ℕ) → Blames [] f f'
blames_none f f' e = absurd (false≢true e)

pub blames_on : (xs ys : List wire.Call) (f g h : ℕ) → Blames xs f g → Blames ys g h → f ≤ g → g ≤ h → Blames (xs ++ ys) f h
blames_on xs ys f g h one two l m e = go (list_any has_failed xs) refl (sym (list_any-append has_failed xs ys) ∙ e)
  where
    go : (b : Bool) → list_any has_failed xs ≡ b → (list_any has_failed xs || list_any has_failed ys) ≡ true → Rises 1 f h
    go true is e = rises_later 1 f g h (one is) m
    go false is e = rises_earlier 1 f g h l (two (ap (λ (x : Bool). x || list_any has_failed ys) (sym is) ∙ e))

no_fault : {A : Type 0} (calls own : List wire.Call) → calls ≡ own → list_any has_failed own ≡ false → list_any has_failed calls ≡ true → A
no_fault calls own is none e = absurd (false≢true (sym (ap (list_any has_failed) is ∙ none) ∙ e))

write_fault : {K : Type 0} (b : Bool) (link : ℕ) (notice : Noticed) (before after : History K) (calls : List wire.Call) → WritesIf b link notice before calls after → list_any has_failed calls ≡ true → notice ≡ noticed.LinkFailed
write_fault false link notice before after calls w e = no_fault calls [] w.1 refl e
write_fault true link notice before after calls w e = go w.0 w.1 w.2
  where
    go : (told : WriteTold) → calls ≡ Write link (length (out_after before)) told ∷ [] → Sends told notice before after → notice ≡ noticed.LinkFailed
    go (Sent bytes) is s = no_fault calls _ is refl e
    go Full is s = no_fault calls _ is refl e
    go WriteFault is s = s.0

module _ {K World : Type 0} (steps : World → List (Call K) → World → Type 0) where
  read_on_fault : (unread : List ℕ) (notice : Noticed) (before after : Seen K) (world world' : World) (calls : List wire.Call) → ReadsOn steps unread notice before world calls after world' → list_any has_failed calls ≡ true → notice ≡ noticed.LinkFailed
  read_on_fault (byte ∷ bytes) notice before after world world' calls r e = no_fault calls [] r.0 refl e
  read_on_fault [] notice before after world world' calls r e = go r.0 r.1 r.2
    where
      go : (told : ReadTold) → calls ≡ Read before.link (room_after before.history) told ∷ [] → Hears steps told notice before after world world' → notice ≡ noticed.LinkFailed
      go (Moved bytes) is h = no_fault calls _ is refl e
      go Unready is h = no_fault calls _ is refl e
      go Ended is h = no_fault calls _ is refl e
      go ReadFault is h = h.0

  read_fault : (b : Bool) (notice : Noticed) (before after : Seen K) (world world' : World) (calls : List wire.Call) → ReadsIf steps b notice before world calls after world' → list_any has_failed calls ≡ true → notice ≡ noticed.LinkFailed
  read_fault false notice before after world world' calls r e = no_fault calls [] r.1 refl e
  read_fault true notice before after world world' calls r e = read_on_fault before.unread notice before after world world' calls r e

  -- Writes.

  module _ (old new : Machine K) (world world' : World) where
    -- what follows where the handle is told of its link, from each history that it stood for
    abbrev pub Telling : Bool → Type 0
    Telling lost = (history : History K) → StandsFor 1024 history old → (after : History K) × Told steps lost history world after world' × StandsFor 1024 after new

    pub told_lost : (lost : Bool) → lost ≡ true → ForEach old (AddsAnswered steps LinkFailed new world world') → Telling lost
    told_lost lost is adds = subst (λ (b : Bool). Telling b) (sym is) (λ history stands. let a = adds history stands in (LinkFailed a.0 ∷ history, (a.0, refl, a.1.1), a.1.0))

  pub told_kept : (old : Machine K) (world : World) (lost : Bool) → lost ≡ false → Telling old old world world lost
  told_kept old world lost is = subst (λ (b : Bool). Telling old old world world b) (sym is) (λ history stands. (history, (refl, refl), stands))

  pub wrote_once : (a b : Option (List wire.Call)) (old middle new : Machine K) (world world' : World) (link f g : ℕ) (notice : Noticed)
      → Goes a b (λ history. StandsFor 1024 history old) (λ history. StandsFor 1024 history middle) (λ before calls after. WritesOnce link notice before calls after)
      → Telling middle new world world' (is_lost notice)
      → (notice ≡ noticed.LinkFailed → Rises 1 f g)
      → Goes a b (λ history. StandsFor 1024 history old) (λ history. StandsFor 1024 history new) (λ before calls after. WritesTold steps link notice before world calls after world' × Blames calls f g)
  wrote_once a b old middle new world world' link f g notice goes tells blames history stands =
      let w = goes history stands in
      let t = tells w.after w.at in
      record {
        calls = w.calls;
        after = t.0;
        grown = w.grown;
        leads = (record { middle = w.after; writes = w.leads; told = t.1 }, λ e. blames (write_fault (is_waiting history) link notice history w.after w.calls w.leads e));
        at = t.2;
      }

  -- The writes of a handle so far: whatever the others do goes on from here.
  pub record Writing (a b : Option (List wire.Call)) (link f g : ℕ) (told : Turn) (before : History K) (world : World) (now : Machine K) (world' : World) : Type 0 where
    pub calls : List wire.Call
    pub here : History K
    pub moved : Option ℕ
    pub grown : Grows a b calls
    pub at : StandsFor 1024 here now
    pub tells : told ≡ turn_of moved
    pub blames : Blames calls f g
    pub goes_on : (c : List wire.Call) (after : History K) (w : World) (rest : Option ℕ) → WritesAll steps link here world' c after w rest → WritesAll steps link before world (calls ++ c) after w (together moved rest)

  pub writing_none : (a : Option (List wire.Call)) (link f : ℕ) (before : History K) (world : World) (now : Machine K) → StandsFor 1024 before now → Writing a a link f f turn.Still before world now world
  writing_none a link f before world now stands = record { calls = []; here = before; moved = None; grown = grows_none a; at = stands; tells = refl; blames = blames_none f f; goes_on = λ c after w rest r. r }

  module _ (a b c : Option (List wire.Call)) (link f g h : ℕ) (told part both_of : Turn) (before : History K) (world half world' : World) (now new : Machine K) (notice : Noticed)
      (so_far : Writing a b link f g told before world now half) (is : both_of ≡ both told part) (part_is : part ≡ turn_of (moved_by notice))
      (goes : Goes b c (λ history. StandsFor 1024 history now) (λ history. StandsFor 1024 history new) (λ before calls after. WritesTold steps link notice before half calls after world' × Blames calls g h))
      (l : f ≤ g) (m : g ≤ h) where
    pub writing_on : is_moved notice ≡ true → Writing a c link f h both_of before world new world'
    writing_on some =
        let w = goes so_far.here so_far.at in
        record {
          calls = so_far.calls ++ w.calls;
          here = w.after;
          moved = together so_far.moved (moved_by notice);
          grown = grows_on a b c so_far.calls w.calls so_far.grown w.grown;
          at = w.at;
          tells = both_told told part both_of so_far.moved (moved_by notice) is so_far.tells part_is;
          blames = blames_on so_far.calls w.calls f g h so_far.blames w.leads.1 l m;
          goes_on = λ x after v rest r.
              subst (λ (n : Option ℕ). WritesAll steps link before world ((so_far.calls ++ w.calls) ++ x) after v n) (together_assoc so_far.moved (moved_by notice) rest)
              (subst (λ (k : List wire.Call). WritesAll steps link before world k after v (together so_far.moved (together (moved_by notice) rest))) (sym (append_assoc so_far.calls w.calls x))
              (so_far.goes_on (w.calls ++ x) after v (together (moved_by notice) rest)
              (Goes_on so_far.here half (w.calls ++ x) after v (together (moved_by notice) rest) notice w.calls w.after world' x rest w.leads.0 some r refl refl)));
        }

    pub writing_ends : is_moved notice ≡ false → Went a c (λ history. StandsFor 1024 history new) (λ calls after. HasWritten steps link f h both_of before world calls after world')
    writing_ends none =
        let w = goes so_far.here so_far.at in
        record {
          calls = so_far.calls ++ w.calls;
          after = w.after;
          grown = grows_on a b c so_far.calls w.calls so_far.grown w.grown;
          leads = record {
            moved = together so_far.moved (moved_by notice);
            writes = so_far.goes_on w.calls w.after world' (moved_by notice) (Stops so_far.here half w.calls w.after world' (moved_by notice) notice w.leads.0 none refl);
            tells = both_told told part both_of so_far.moved (moved_by notice) is so_far.tells part_is;
            blames = blames_on so_far.calls w.calls f g h so_far.blames w.leads.1 l m;
          };
          at = w.at;
        }

  -- A handle's part of a turn.

  module _ (a b c : Option (List wire.Call)) (link f g h : ℕ) (old middle new : Machine K) (unread left : List ℕ) (world half world' : World) (wrote : Turn) (notice : Noticed)
      (writes : Goes a b (λ history. StandsFor 1024 history old) (λ history. StandsFor 1024 history middle) (λ before calls after. HasWritten steps link f g wrote before world calls after half))
      (reads : Goes b c (λ seen. IsAt link middle unread seen) (λ seen. IsAt link new left seen) (λ before calls after. ReadsOnce steps notice before half calls after world'))
      (blames : notice ≡ noticed.LinkFailed → Rises 1 g h) (l : f ≤ g) (m : g ≤ h) where
    took_part : (part both_of : Turn) → both_of ≡ both wrote part → part ≡ turn_of (moved_by notice)
        → Goes a c (λ seen. IsAt link old unread seen) (λ seen. IsAt link new left seen) (λ before calls after. TookPart steps notice f h both_of before world calls after world')
    took_part part both_of is part_is seen at =
        let w = writes seen.history at.stands in
        let here : Seen K = record { link = seen.link; history = w.after; unread = seen.unread } in
        let r = reads here (record { link = at.link; stands = w.at; unread = at.unread }) in
        record {
          calls = w.calls ++ r.calls;
          after = r.after;
          grown = grows_on a b c w.calls r.calls w.grown r.grown;
          leads = record {
            moved = together w.leads.moved (moved_by notice);
            turns = record {
              written = w.calls;
              middle = w.after;
              half = half;
              sent = w.leads.moved;
              writes = subst (λ (n : ℕ). WritesAll steps n seen.history world w.calls w.after half w.leads.moved) (sym at.link) w.leads.writes;
              read = r.calls;
              reads = r.leads;
              calls_are = refl;
              moved_is = refl;
            };
            tells = both_told wrote part both_of w.leads.moved (moved_by notice) is w.leads.tells part_is;
            blames = blames_on w.calls r.calls f g h w.leads.blames (λ e. blames (read_fault (is_reading w.after) notice here r.after half world' r.calls r.leads e)) l m;
          };
          at = r.at;
        }

    pub took_enough : (part both_of : Turn) → is_short notice ≡ false → both_of ≡ both wrote part → part ≡ turn_of (moved_by notice)
        → Goes a c (λ seen. IsAt link old unread seen) (λ seen. IsAt link new left seen) (λ before calls after. TookEnough steps f h both_of before world calls after world')
    took_enough part both_of enough is part_is seen at =
        let w = took_part part both_of is part_is seen at in
        record { calls = w.calls; after = w.after; grown = w.grown; leads = (notice, enough, w.leads); at = w.at }

    pub took_short : is_short notice ≡ true → Goes a c (λ seen. IsAt link old unread seen) (λ seen. IsAt link new left seen) (λ before calls after. TookShort steps f h before world calls after world')
    took_short short seen at =
        let told = both wrote (turn_of (moved_by notice)) in
        let w = took_part (turn_of (moved_by notice)) told refl refl seen at in
        record {
          calls = w.calls;
          after = w.after;
          grown = w.grown;
          leads = (told, subst (λ (n : Noticed). TookPart steps n f h told seen world w.calls w.after world') (short_is notice short) w.leads);
          at = w.at;
        }

-- One handle after another.

front_is : {A : Type 0} (done left : List A) (x : A) → slice_get (done ++ left) (length done) ≡ Some x → (rest : List A) × (left ≡ x ∷ rest)
front_is [] [] x is = absurd (cc is)
front_is [] (y ∷ ys) x is = (ys, ap (λ z. z ∷ ys) (cc is))
front_is (d ∷ ds) left x is = front_is ds left x is

front_set : {A : Type 0} (done rest : List A) (x y : A) → slice_set (done ++ x ∷ rest) (length done) y ≡ done ++ y ∷ rest
front_set [] rest x y = refl
front_set (d ∷ ds) rest x y = ap (λ l. d ∷ l) (front_set ds rest x y)

-- What holds of a value that is Ok, or of an error, gives another.
pub if_ok : {A E : Type 0} {P Q : A → Type 0} (result : Result A E) → ((a : A) → P a → Q a) → IfOk result P → IfOk result Q
if_ok (Ok a) f p = f a p
if_ok (Err e) f p = p

pub on_err : {A E P Q : Type 0} (result : Result A E) → (P → Q) → OnErr result P → OnErr result Q
on_err (Ok a) f p = p
on_err (Err e) f p = f p

module _ {K : Type 0} where
  abbrev pub IsHere : Held K → Seen K → Type 0
  IsHere held seen = IsAt held.link held.handle held.inbox seen

  at_length : (all : List (Held K)) (seen : List (Seen K)) → AreAt all seen → length all ≡ length seen
  at_length [] [] at = refl
  at_length [] (s ∷ ss) at = absurd at
  at_length (x ∷ xs) [] at = absurd at
  at_length (x ∷ xs) (s ∷ ss) at = let same = at_length xs ss at.1 in omega (arith, same)

  at_here : (i : ℕ) (all : List (Held K)) (seen : List (Seen K)) (x : Held K) → AreAt all seen → i < length all → x ≡ get_or all i x → (s : Seen K) × (slice_get seen i ≡ Some s) × IsHere x s
  at_here i [] seen x at within is = absurd (omega (arith, within))
  at_here i (y ∷ ys) [] x at within is = absurd at
  at_here zero (y ∷ ys) (s ∷ ss) x at within is = (s, refl, subst (λ (h : Held K). IsHere h s) (sym is) at.0)
  at_here (suc i) (y ∷ ys) (s ∷ ss) x at within is = at_here i ys ss x at.1 (omega (arith, within)) is

  at_set : (i : ℕ) (all : List (Held K)) (seen : List (Seen K)) (y : Held K) (here : Seen K) → AreAt all seen → IsHere y here → AreAt (slice_set all i y) (slice_set seen i here)
  at_set i [] [] y here at is = tt
  at_set i [] (s ∷ ss) y here at is = absurd at
  at_set i (x ∷ xs) [] y here at is = absurd at
  at_set zero (x ∷ xs) (s ∷ ss) y here at is = (is, at.1)
  at_set (suc i) (x ∷ xs) (s ∷ ss) y here at is = (at.0, at_set i xs ss y here at.1 is)

  -- One handle of several takes its part.
  pub part_here : {World : Type 0} (Part : Seen K → World → List wire.Call → Seen K → World → Type 0) (a b : Option (List wire.Call)) (world world' : World) (all now : List (Held K)) (i : ℕ) (x y : Held K) → i < length all → x ≡ get_or all i x → now ≡ slice_set all i y
      → Goes a b (λ seen. IsHere x seen) (λ seen. IsHere y seen) (λ before calls after. Part before world calls after world')
      → Goes a b (λ seen. AreAt all seen) (λ seen. AreAt now seen) (λ before calls after. TakesPart Part i before world calls after world')
  part_here Part a b world world' all now i x y within x_is now_is goes seen at =
      let s = at_here i all seen x at within x_is in
      let w = goes s.0 s.2 in
      record {
        calls = w.calls;
        after = slice_set seen i w.after;
        grown = w.grown;
        leads = record { seen = s.0; here = w.after; was = s.1; is = refl; part = w.leads };
        at = subst (λ (l : List (Held K)). AreAt l (slice_set seen i w.after)) (sym now_is) (at_set i all seen y w.after at w.at);
      }

module _ {K World : Type 0} (steps : World → List (Call K) → World → Type 0) where
  -- Handles take their parts, and where it is said so no handle is left without its part.
  abbrev pub TurnsIf : (full : Bool) → List (Seen K) → World → List wire.Call → List (Seen K) → World → Ending → Type 0
  TurnsIf false before world calls after world' ending = Turns steps before world calls after world' ending
  TurnsIf true before world calls after world' ending = (turns : Turns steps before world calls after world' ending) × AllTook turns

  takes_if : (full : Bool) (seen : Seen K) (others : List (Seen K)) (notice : Noticed) (world half world' : World) (own other : List wire.Call) (here : Seen K) (there : List (Seen K)) (moved : Option ℕ) (rest : Ending)
      → TurnsOne steps notice seen world own here half moved → is_short notice ≡ false → TurnsIf full others half other there world' rest
      → TurnsIf full (seen ∷ others) world (own ++ other) (here ∷ there) world' (with_moved moved rest)
  takes_if false seen others notice world half world' own other here there moved rest turns enough more =
      Takes (seen ∷ others) world (own ++ other) (here ∷ there) world' (with_moved moved rest) seen others notice own here half moved other there rest refl turns enough more refl refl refl
  takes_if true seen others notice world half world' own other here there moved rest turns enough more =
      (Takes (seen ∷ others) world (own ++ other) (here ∷ there) world' (with_moved moved rest) seen others notice own here half moved other there rest refl turns enough more.0 refl refl refl, more.1)

  -- The handles of a turn so far: whatever the others do goes on from here.
  pub record Passing (a b : Option (List wire.Call)) (f g : ℕ) (told : Turn) (before : List (Seen K)) (world : World) (all : List (Held K)) (i : ℕ) (world' : World) : Type 0 where
    pub calls : List wire.Call
    pub done : List (Seen K)
    pub left : List (Seen K)
    pub moved : Option ℕ
    pub grown : Grows a b calls
    pub count : length done ≡ i
    pub at : AreAt all (done ++ left)
    pub tells : told ≡ turn_of moved
    pub blames : Blames calls f g
    pub goes_on : (full : Bool) (c : List wire.Call) (after : List (Seen K)) (w : World) (ending : Ending) → TurnsIf full left world' c after w ending → TurnsIf full before world (calls ++ c) (done ++ after) w (with_moved moved ending)

  pub passing_none : (a : Option (List wire.Call)) (f : ℕ) (before : List (Seen K)) (world : World) (all : List (Held K)) → AreAt all before → Passing a a f f turn.Still before world all 0 world
  passing_none a f before world all at = record {
    calls = [];
    done = [];
    left = before;
    moved = None;
    grown = grows_none a;
    count = refl;
    at = at;
    tells = refl;
    blames = blames_none f f;
    goes_on = λ full c after w ending r. subst (λ (e : Ending). TurnsIf full before world c after w e) (sym (with_none ending)) r;
  }

  module _ (a b c : Option (List wire.Call)) (f g h : ℕ) (told : Turn) (before : List (Seen K)) (world half world' : World) (all now : List (Held K)) (i : ℕ) (p : Passing a b f g told before world all i half) (l : f ≤ g) (m : g ≤ h) where
    -- The handle of the next index is the first of those that are left.
    next_is : (seen : Seen K) → slice_get (p.done ++ p.left) i ≡ Some seen → (rest : List (Seen K)) × (p.left ≡ seen ∷ rest)
    next_is seen was = front_is p.done p.left seen (subst (λ (n : ℕ). slice_get (p.done ++ p.left) n ≡ Some seen) (sym p.count) was)

    next_set : (seen here : Seen K) (rest after : List (Seen K)) → p.left ≡ seen ∷ rest → after ≡ slice_set (p.done ++ p.left) i here → after ≡ p.done ++ here ∷ rest
    next_set seen here rest after left_is is =
        is
        ∙ ap (λ (n : ℕ). slice_set (p.done ++ p.left) n here) (sym p.count)
        ∙ ap (λ (q : List (Seen K)). slice_set (p.done ++ q) (length p.done) here) left_is
        ∙ front_set p.done rest seen here

    pub passing_on : (part both_of : Turn) → both_of ≡ both told part
        → Goes b c (λ seen. AreAt all seen) (λ seen. AreAt now seen) (λ before calls after. TakesPart (TookEnough steps g h part) i before half calls after world')
        → Passing a c f h both_of before world now (i + 1) world'
    passing_on part both_of is goes =
        let w = goes (p.done ++ p.left) p.at in
        let next = next_is w.leads.seen w.leads.was in
        let ss = next.0 in
        let here = w.leads.here in
        let after_is = next_set w.leads.seen here ss w.after next.1 w.leads.is in
        let t = w.leads.part.2 in
        record {
          calls = p.calls ++ w.calls;
          done = p.done ++ here ∷ [];
          left = ss;
          moved = together p.moved t.moved;
          grown = grows_on a b c p.calls w.calls p.grown w.grown;
          count = let long = length-append p.done (here ∷ []) in omega (arith, long, p.count);
          at = subst (λ (q : List (Seen K)). AreAt now q) (after_is ∙ sym (append_assoc p.done (here ∷ []) ss)) w.at;
          tells = both_told told part both_of p.moved t.moved is p.tells t.tells;
          blames = blames_on p.calls w.calls f g h p.blames t.blames l m;
          goes_on = λ full d after v ending r.
              let mine = takes_if full w.leads.seen ss w.leads.part.0 half world' v w.calls d here after t.moved ending t.turns w.leads.part.1 r in
              let all_of = p.goes_on full (w.calls ++ d) (here ∷ after) v (with_moved t.moved ending) (subst (λ (q : List (Seen K)). TurnsIf full q half (w.calls ++ d) (here ∷ after) v (with_moved t.moved ending)) (sym next.1) mine) in
              let one = subst (λ (k : List wire.Call). TurnsIf full before world k (p.done ++ here ∷ after) v (with_moved p.moved (with_moved t.moved ending))) (sym (append_assoc p.calls w.calls d)) all_of in
              let two = subst (λ (q : List (Seen K)). TurnsIf full before world ((p.calls ++ w.calls) ++ d) q v (with_moved p.moved (with_moved t.moved ending))) (sym (append_assoc p.done (here ∷ []) after)) one in
              subst (λ (e : Ending). TurnsIf full before world ((p.calls ++ w.calls) ++ d) ((p.done ++ here ∷ []) ++ after) v e) (with_assoc p.moved t.moved ending) two;
        }

    pub passing_short : Goes b c (λ seen. AreAt all seen) (λ seen. AreAt now seen) (λ before calls after. TakesPart (TookShort steps g h) i before half calls after world')
        → Went a c (λ seen. AreAt now seen) (λ calls after. TurnsShort steps f h before world calls after world')
    passing_short goes =
        let w = goes (p.done ++ p.left) p.at in
        let s = w.leads.seen in
        let next = next_is s w.leads.was in
        let ss = next.0 in
        let here = w.leads.here in
        let t = w.leads.part.1 in
        let mine = Runs_short (s ∷ ss) half w.calls (here ∷ ss) world' Short s ss here t.moved refl t.turns refl refl in
        let all_of = p.goes_on false w.calls (here ∷ ss) world' Short (subst (λ (q : List (Seen K)). Turns steps q half w.calls (here ∷ ss) world' Short) (sym next.1) mine) in
        record {
          calls = p.calls ++ w.calls;
          after = p.done ++ here ∷ ss;
          grown = grows_on a b c p.calls w.calls p.grown w.grown;
          leads = record {
            turns = all_of;
            alone = each_took steps before world (p.calls ++ w.calls) (p.done ++ here ∷ ss) world' Short all_of;
            blames = blames_on p.calls w.calls f g h p.blames t.blames l m;
          };
          at = subst (λ (q : List (Seen K)). AreAt now q) (next_set s here ss w.after next.1 w.leads.is) w.at;
        }

  module _ (a b : Option (List wire.Call)) (f g : ℕ) (told : Turn) (before : List (Seen K)) (world world' : World) (all : List (Held K)) (i : ℕ) (p : Passing a b f g told before world all i world') where
    -- The turn is broken off here: it isn't one that ran out of memory, nor one in which nothing happened.
    pub passing_breaks : Went a b (λ seen. AreAt all seen) (λ calls after. (n : ℕ) × Turns steps before world calls after world' (Whole (Some n)) × Blames calls f g)
    passing_breaks =
        let more = some_so_far p.moved in
        let last = p.goes_on false [] p.left world' (Whole (Some 0)) (Breaks_off p.left world' [] p.left world' (Whole (Some 0)) refl refl refl refl) in
        let cut = subst (λ (e : Option ℕ). Turns steps before world (p.calls ++ []) (p.done ++ p.left) world' (Whole e)) more.1 last in
        record {
          calls = p.calls;
          after = p.done ++ p.left;
          grown = p.grown;
          leads = (more.0, subst (λ (k : List wire.Call). Turns steps before world k (p.done ++ p.left) world' (Whole (Some more.0))) (append-nil p.calls) cut, p.blames);
          at = p.at;
        }

    pub passing_cut : Went a b (λ seen. AreAt all seen) (λ calls after. TurnsCut steps f g before world calls after world')
    passing_cut =
        let w = passing_breaks in
        record { calls = w.calls; after = w.after; grown = w.grown; leads = record { ending = Whole (Some w.leads.0); turns = w.leads.1; blames = w.leads.2 }; at = w.at }

  -- A turn for which memory ran out is cut.
  pub short_cut : (a b : Option (List wire.Call)) (f g : ℕ) (before : List (Seen K)) (world world' : World) (all : List (Held K)) → Went a b (λ seen. AreAt all seen) (λ calls after. TurnsShort steps f g before world calls after world')
      → Went a b (λ seen. AreAt all seen) (λ calls after. TurnsCut steps f g before world calls after world')
  short_cut a b f g before world world' all w =
      record { calls = w.calls; after = w.after; grown = w.grown; leads = record { ending = Short; turns = w.leads.turns; blames = w.leads.blames }; at = w.at }

  pub passing_end : (a b : Option (List wire.Call)) (f g : ℕ) (told : Turn) (before : List (Seen K)) (world world' : World) (all : List (Held K)) (i : ℕ) → length all ≤ i → Passing a b f g told before world all i world'
      → Went a b (λ seen. AreAt all seen) (λ calls after. TurnsWhole steps f g told before world calls after world')
  passing_end a b f g told before world world' all i past p = go p.left refl
    where
      go : (left : List (Seen K)) → p.left ≡ left → Went a b (λ seen. AreAt all seen) (λ calls after. TurnsWhole steps f g told before world calls after world')
      go (s ∷ ss) more =
          let long = at_length all (p.done ++ p.left) p.at in
          let longer : length (p.done ++ p.left) ≡ length (p.done ++ s ∷ ss) = ap (λ (q : List (Seen K)). length (p.done ++ q)) more in
          let sum = length-append p.done (s ∷ ss) in
          absurd (omega (arith, long, longer, sum, p.count, past))
      go [] none =
          let last = p.goes_on true [] [] world' (Whole None) (All_took p.left world' [] [] world' (Whole None) none refl refl refl refl, tt) in
          let tells : told ≡ turn_of (together p.moved None) = p.tells ∙ ap turn_of (sym (together_none p.moved)) in
          let whole = subst (λ (k : List wire.Call). TurnsIf true before world k (p.done ++ []) world' (Whole (together p.moved None))) (append-nil p.calls) last in
          let one = whole.0 in
          record {
            calls = p.calls;
            after = p.done ++ [];
            grown = p.grown;
            leads = record {
              moved = together p.moved None;
              turns = one;
              alone = each_took steps before world p.calls (p.done ++ []) world' (Whole (together p.moved None)) one;
              still = λ is. waits_where_full steps before world p.calls (p.done ++ []) world' (Whole (together p.moved None)) one (ap Whole (still_is (together p.moved None) (sym tells ∙ is)));
              tells = tells;
              blames = p.blames;
              all = whole.1;
            };
            at = subst (λ (q : List (Seen K)). AreAt all (p.done ++ q)) none p.at;
          }

-- One export after another.
use Rattle.std.proofs.Common.{◌≡◌, ◌≤◌, ◌<◌, ◌+◌, ℕ, List, [], ◌∷◌, ◌++◌, length, get_or, drop, Option, Result, Ok, Err, refl, sym, ◌∙◌, ap, subst, append_assoc, add-one, drop-cons}
use Rattle.std.proofs.lemmas.List.{append-nil}
use Rattle.lnbd_model.specs.declared.export.Listed.{Listed}
use Rattle.lnbd_callbacks.specs.Calls.{Call}
use Rattle.lnbd_info.specs.declared.told.Entry.{Entry}
use Rattle.lnbd_link.specs.Call as wire
use Rattle.lnbd_link.specs.Part.{Grows}
use Rattle.lnbd_link.proofs.Parts.{grows_none, grows_on}
use Rattle.lnbd_poll.specs.Held.{Held}
use Rattle.lnbd_poll.specs.Seen.{Seen, Went}
use Rattle.lnbd_poll.specs.Turns.{Blames}
use Rattle.lnbd_poll.proofs.TurnLemmas.{blames_on}
use Rattle.lnbd_waits.specs.declared.waiting.Halt.{Halt}
use Rattle.lnbd_waits.specs.declared.waiting.Halt.TheVariants as halt
use Rattle.lnbd_ask.specs.Lists.{AsksEach, AsksFor, Breaks_off, None_left, Runs_short, Tells, with_entries}
use Rattle.lnbd_ask.specs.Parts.{Done}
use Rattle.lnbd_waits.specs.Waits.{Holds}
use Rattle.lnbd_ask.proofs.PartLemmas.{Leads}
use Rattle.lnbd_waits.proofs.WaitLemmas.{blames_none}

with_none : (end : Result (List Entry) Halt) → with_entries [] end ≡ end
with_none (Ok more) = refl
with_none (Err why) = refl

with_both : (entries more : List Entry) (end : Result (List Entry) Halt) → with_entries entries (with_entries more end) ≡ with_entries (entries ++ more) end
with_both entries more (Ok last) = ap (λ (l : List Entry). Ok l) (sym (append_assoc entries more last))
with_both entries more (Err why) = refl

module _ {K World : Type 0} (steps : World → List (Call K) → World → Type 0) where
  -- These are told, and those are left: whatever comes of these goes on from here.
  pub record Asking (a b : Option (List wire.Call)) (f g : ℕ) (all : List (Held K)) (names left : List Listed) (entries : List Entry) (seen : Seen K) (world world' : World) : Type 0 where
    pub calls : List wire.Call
    pub now : Seen K
    pub grown : Grows a b calls
    pub at : Holds all now
    pub blames : Blames calls f g
    pub goes_on : (c : List wire.Call) (after : Seen K) (last : World) (end : Result (List Entry) Halt) → AsksEach steps left now world' c after last end → AsksEach steps names seen world (calls ++ c) after last (with_entries entries end)

  pub asking_none : (a : Option (List wire.Call)) (f : ℕ) (all : List (Held K)) (names left : List Listed) (entries : List Entry) (seen : Seen K) (world : World) → left ≡ names → entries ≡ [] → Holds all seen → Asking a a f f all names left entries seen world world
  asking_none a f all names left entries seen world same none at = record {
    calls = [];
    now = seen;
    grown = grows_none a;
    at = at;
    blames = blames_none f f;
    goes_on = λ c after last end each. subst (λ (r : Result (List Entry) Halt). AsksEach steps names seen world c after last r) (sym (ap (λ (l : List Entry). with_entries l end) none ∙ with_none end))
        (subst (λ (l : List Listed). AsksEach steps l seen world c after last end) same each);
  }

  -- one more is told
  pub asking_on : (a b c : Option (List wire.Call)) (f g h : ℕ) (all all' : List (Held K)) (names left others : List Listed) (one : Listed) (entries entries' : List Entry) (entry : Entry) (seen : Seen K) (world half half' : World) (told : Result Entry Halt)
      → left ≡ one ∷ others → told ≡ Ok entry → entries' ≡ entries ++ entry ∷ [] → f ≤ g → g ≤ h
      → Asking a b f g all names left entries seen world half → Leads (AsksFor steps one) b c g h all all' half half' told → Asking a c f h all' names others entries' seen world half'
  asking_on a b c f g h all all' names left others one entries entries' entry seen world half half' told is ok more fg gh w goes =
      let went = goes w.now w.at in
      record {
        calls = w.calls ++ went.calls;
        now = went.after;
        grown = grows_on a b c w.calls went.calls w.grown went.grown;
        at = went.at;
        blames = blames_on w.calls went.calls f g h w.blames went.leads.blames fg gh;
        goes_on = λ x after last end each.
            subst (λ (r : Result (List Entry) Halt). AsksEach steps names seen world ((w.calls ++ went.calls) ++ x) after last r) (with_both entries (entry ∷ []) end ∙ ap (λ (l : List Entry). with_entries l end) (sym more))
            (subst (λ (l : List wire.Call). AsksEach steps names seen world l after last (with_entries entries (with_entries (entry ∷ []) end))) (sym (append_assoc w.calls went.calls x))
            (w.goes_on (went.calls ++ x) after last (with_entries (entry ∷ []) end)
            (Tells left w.now half (went.calls ++ x) after last (with_entries (entry ∷ []) end) one others entry went.calls went.after half' x end is
            (subst (λ (r : Result Entry Halt). AsksFor steps one w.now half went.calls went.after half' r) ok went.leads.does) each refl refl)));
      }

  -- asking for one breaks off
  pub asking_breaks : (a b c : Option (List wire.Call)) (f g h : ℕ) (all all' : List (Held K)) (names left others : List Listed) (one : Listed) (entries : List Entry) (seen : Seen K) (world half half' : World) (told : Result Entry Halt) (why : Halt) (end : Result (List Entry) Halt)
      → left ≡ one ∷ others → told ≡ Err why → end ≡ Err why → f ≤ g → g ≤ h
      → Asking a b f g all names left entries seen world half → Leads (AsksFor steps one) b c g h all all' half half' told → Went a c (Holds all') (λ calls after. Done (AsksEach steps names) f h end seen world calls after half')
  asking_breaks a b c f g h all all' names left others one entries seen world half half' told why end is breaks so fg gh w goes =
      let went = goes w.now w.at in
      record {
        calls = w.calls ++ went.calls;
        after = went.after;
        grown = grows_on a b c w.calls went.calls w.grown went.grown;
        leads = record {
          does = subst (λ (r : Result (List Entry) Halt). AsksEach steps names seen world (w.calls ++ went.calls) went.after half' r) (sym so)
              (w.goes_on went.calls went.after half' (Err why)
              (Breaks_off left w.now half went.calls went.after half' (Err why) one others why is (subst (λ (r : Result Entry Halt). AsksFor steps one w.now half went.calls went.after half' r) breaks went.leads.does) refl));
          blames = blames_on w.calls went.calls f g h w.blames went.leads.blames fg gh;
        };
        at = went.at;
      }

  -- memory runs out
  pub asking_short : (a b : Option (List wire.Call)) (f g : ℕ) (all : List (Held K)) (names left : List Listed) (entries : List Entry) (seen : Seen K) (world half : World) (end : Result (List Entry) Halt) → end ≡ Err halt.NoMemory
      → Asking a b f g all names left entries seen world half → Went a b (Holds all) (λ calls after. Done (AsksEach steps names) f g end seen world calls after half)
  asking_short a b f g all names left entries seen world half end so w = record {
    calls = w.calls;
    after = w.now;
    grown = w.grown;
    leads = record {
      does = subst (λ (r : Result (List Entry) Halt). AsksEach steps names seen world w.calls w.now half r) (sym so)
          (subst (λ (l : List wire.Call). AsksEach steps names seen world l w.now half (Err halt.NoMemory)) (append-nil w.calls)
          (w.goes_on [] w.now half (Err halt.NoMemory) (Runs_short left w.now half [] w.now half (Err halt.NoMemory) refl refl refl refl)));
      blames = w.blames;
    };
    at = w.at;
  }

  -- All are told.
  pub asking_done : (a b : Option (List wire.Call)) (f g : ℕ) (all : List (Held K)) (names left : List Listed) (entries : List Entry) (seen : Seen K) (world half : World) (end : Result (List Entry) Halt) → left ≡ [] → end ≡ Ok entries
      → Asking a b f g all names left entries seen world half → Went a b (Holds all) (λ calls after. Done (AsksEach steps names) f g end seen world calls after half)
  asking_done a b f g all names left entries seen world half end none so w = record {
    calls = w.calls;
    after = w.now;
    grown = w.grown;
    leads = record {
      does = subst (λ (r : Result (List Entry) Halt). AsksEach steps names seen world w.calls w.now half r) (ap (λ (l : List Entry). Ok l) (append-nil entries) ∙ sym so)
          (subst (λ (l : List wire.Call). AsksEach steps names seen world l w.now half (Ok (entries ++ []))) (append-nil w.calls)
          (w.goes_on [] w.now half (Ok []) (None_left left w.now half [] w.now half (Ok []) none refl refl refl refl)));
      blames = w.blames;
    };
    at = w.at;
  }

-- The next of those that are left.

any_left : (names : List Listed) (i : ℕ) (one : Listed) → i < length names → drop i names ≡ get_or names i one ∷ drop (i + 1) names
any_left names i one within = rw (add-one, drop-cons names i one) refl

pub next_left : (names : List Listed) (i : ℕ) (one : Listed) → i < length names → one ≡ get_or names i one → drop i names ≡ one ∷ drop (i + 1) names
next_left names i one within is = any_left names i one within ∙ ap (λ (x : Listed). x ∷ drop (i + 1) names) (sym is)

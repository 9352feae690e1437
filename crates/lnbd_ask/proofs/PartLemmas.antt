-- Parts of a conversation, one after another.
use Rattle.std.proofs.Common.{◌≡◌, ◌≤◌, ℕ, List, [], ◌++◌, Option, Result, Ok, Err, refl, subst}
use Rattle.lnbd_link.specs.Call as wire
use Rattle.lnbd_link.proofs.Parts.{grows_none, grows_on}
use Rattle.lnbd_poll.specs.Held.{Held}
use Rattle.lnbd_poll.specs.Seen.{Goes, Seen}
use Rattle.lnbd_poll.proofs.TurnLemmas.{blames_on}
use Rattle.lnbd_waits.specs.declared.waiting.Awaited.{Awaited}
use Rattle.lnbd_waits.specs.declared.waiting.Halt.{Halt}
use Rattle.lnbd_ask.specs.Parts.{Acts, ActsOn, Done, Follows, Gives, Part, Stops, Then, no_value}
use Rattle.lnbd_waits.specs.Waits.{Holds, Waited, Waits}
use Rattle.lnbd_waits.proofs.WaitLemmas.{blames_none}
use Rattle.lnbd_callbacks.specs.Calls.{Call}

-- A part leads from one place of the handle to another.
abbrev pub Leads : {K World A : Type 0} → Part K World A → (a b : Option (List wire.Call)) → (f g : ℕ) → (all all' : List (Held K)) → (world world' : World) → Result A Halt → Type 0
Leads {K} part a b f g all all' world world' end = Goes a b (Holds all) (Holds all') (λ (before : Seen K) calls after. Done part f g end before world calls after world')

module _ {K World A : Type 0} where
  pub acts : (act : Seen K → Seen K) (value : Seen K → A) (a : Option (List wire.Call)) (f : ℕ) (old new : List (Held K)) (world : World) (end : Result A Halt) → ActsOn act value end old new → Leads (Acts act value) a a f f old new world world end
  acts act value a f old new world end on seen at =
      let acted = on seen at in
      record {
        calls = [];
        after = acted.0;
        grown = grows_none a;
        leads = record { does = record { acted = acted.1; none = refl; same = refl }; blames = blames_none f f };
        at = acted.2;
      }

  -- nothing is done
  pub gives : (value : A) (a : Option (List wire.Call)) (f : ℕ) (all : List (Held K)) (world : World) → Leads (Gives value) a a f f all all world world (Ok value)
  gives value a f all world seen at = record {
    calls = [];
    after = seen;
    grown = grows_none a;
    leads = record { does = record { stays = refl; none = refl; same = refl; is = refl }; blames = blames_none f f };
    at = at;
  }

module _ {K World : Type 0} where
  -- an act that takes no memory
  pub acts_always : (act : Seen K → Seen K) (a : Option (List wire.Call)) (f : ℕ) (old new : List (Held K)) (world : World) → ((seen : Seen K) → Holds old seen → Holds new (act seen)) → Leads (Acts act no_value) a a f f old new world world (Ok tt)
  acts_always act a f old new world on seen at = record {
    calls = [];
    after = act seen;
    grown = grows_none a;
    leads = record { does = record { acted = (refl, refl); none = refl; same = refl }; blames = blames_none f f };
    at = on seen at;
  }

module _ {K World : Type 0} (steps : World → List (Call K) → World → Type 0) (awaited : Awaited) where
  pub waits : (a b : Option (List wire.Call)) (f g : ℕ) (all all' : List (Held K)) (world world' : World) (end : Result (Unit {0}) Halt) → Goes a b (Holds all) (Holds all') (λ before calls after. Waited steps awaited f g end before world calls after world')
      → Leads (Waits steps awaited) a b f g all all' world world' end
  waits a b f g all all' world world' end goes seen at =
      let went = goes seen at in
      record { calls = went.calls; after = went.after; grown = went.grown; leads = record { does = went.leads.waits; blames = went.leads.blames }; at = went.at }

module _ {K World A B : Type 0} (First : Part K World A) (Second : A → Part K World B) where
  pub stops : (a b : Option (List wire.Call)) (f g : ℕ) (all all' : List (Held K)) (world world' : World) (first : Result A Halt) (end : Result B Halt) (why : Halt) → first ≡ Err why → end ≡ Err why → Leads First a b f g all all' world world' first
      → Leads (Then First Second) a b f g all all' world world' end
  stops a b f g all all' world world' first end why is so goes seen at =
      let went = goes seen at in
      record {
        calls = went.calls;
        after = went.after;
        grown = went.grown;
        leads = record {
          does = Stops seen world went.calls went.after world' end why (subst (λ (r : Result A Halt). First seen world went.calls went.after world' r) is went.leads.does) so;
          blames = went.leads.blames;
        };
        at = went.at;
      }

  pub follows : (a b c : Option (List wire.Call)) (f g h : ℕ) (all all' all'' : List (Held K)) (world half world' : World) (first : Result A Halt) (value : A) (end : Result B Halt) → first ≡ Ok value → f ≤ g → g ≤ h → Leads First a b f g all all' world half first
      → Leads (Second value) b c g h all' all'' half world' end → Leads (Then First Second) a c f h all all'' world world' end
  follows a b c f g h all all' all'' world half world' first value end is fg gh one_goes two_goes seen at =
      let one = one_goes seen at in
      let two = two_goes one.after one.at in
      record {
        calls = one.calls ++ two.calls;
        after = two.after;
        grown = grows_on a b c one.calls two.calls one.grown two.grown;
        leads = record {
          does = Follows seen world (one.calls ++ two.calls) two.after world' end value one.calls one.after half two.calls (subst (λ (r : Result A Halt). First seen world one.calls one.after half r) is one.leads.does) two.leads.does refl;
          blames = blames_on one.calls two.calls f g h one.leads.blames two.leads.blames fg gh;
        };
        at = two.at;
      }

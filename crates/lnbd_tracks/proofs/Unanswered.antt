-- The unanswered requests of a list are those that were dealt with the export, each once.
use Rattle.std.proofs.Common.{◌≡◌, inl, inr, ℕ, ◌+◌, ◌≤◌, Bool, true, false, not, ◌&&◌, List, [], ◌∷◌, cond, length, Option, Some, None, nat_le, if◌then◌else◌, refl, ap, sym, subst, ◌∙◌, ◌==◌, arith}
use Rattle.std.proofs.lemmas.Bool.{false≢true}
use Rattle.std.specs.Option.{option_map}
use Rattle.lnbd_model.specs.declared.kind.Kind.{Kind}
use Rattle.lnbd_model.specs.declared.target.Place.{Place}
use Rattle.lnbd_link.specs.Call.{Call}
use Rattle.lnbd_outcome.specs.Outcome.{Outcome, Unfinished, Failed, Done, is_finished}
use Rattle.lnbd_history.specs.Commands.{Command}
use Rattle.lnbd_history.specs.Commands as commands
use Rattle.lnbd_history.specs.History as history_of
use Rattle.lnbd_asked.specs.Driven.{outcome_after, written}
use Rattle.lnbd_asked.specs.Link.{Nobody}
use Rattle.lnbd_asked.specs.Transcript.{Dealt, answered, asked_on, bare, dealt_with, is_of, on_link, only_if}
use Rattle.lnbd_board.specs.declared.ticket.Ticket.{Ticket}
use Rattle.lnbd_board.specs.Requests.{Request, IsIn, Under, is_waiting, request}
use Rattle.lnbd_tracks.specs.Tracks.{Histories, AllTrack, request_of, under}
use Rattle.lnbd_tracks.specs.Unanswered.{AreListedOnce, AreUnanswered, AreWaitingOn, IsListed, IsUnanswered, TrackedAreUnanswered, unanswered_of}
use Rattle.lnbd_tracks.proofs.Dealt.{in_middle, in_under}
use Rattle.lnbd_tracks.proofs.Under.{found, same_key}

-- what waits is not finished
waits_unfinished : (outcome : Outcome) → not (is_finished outcome) ≡ true → outcome ≡ Unfinished
waits_unfinished Unfinished e = refl
waits_unfinished (Failed why bytes) e = absurd (false≢true e)
waits_unfinished (Done bytes) e = absurd (false≢true e)

both : (a b : Bool) → (a && b) ≡ true → (a ≡ true) × (b ≡ true)
both true b e = (refl, e)
both false b e = absurd (false≢true e)

and_true : (a b : Bool) → a ≡ true → b ≡ true → (a && b) ≡ true
and_true true b e f = f
and_true false b e f = absurd (false≢true e)

-- the request under a link and a cookie, which waits
record WaitsUnder (link cookie : ℕ) (command : Command Nobody) (requests : List Request) : Type 0 where
  under : Under link cookie command requests
  waits : under.request.said.outcome ≡ Unfinished

module _ (is : Kind → Bool) where
  -- it is of such a kind, and waits
  abbrev waits : Request → Bool
  waits r = is r.said.command.kind && is_waiting r.said

  -- the links and cookies of those of a list
  abbrev keys : List Request → List (ℕ × ℕ)
  keys [] = []
  keys (r ∷ rs) = cond (waits r) ((r.link, r.cookie) ∷ keys rs) (keys rs)

  many_keys : (rs : List Request) → length (keys rs) ≡ unanswered_of is rs
  many_keys [] = refl
  many_keys (r ∷ rs) =
      let more = many_keys rs in
      elim (waits r) as (λ b. length (cond b ((r.link, r.cookie) ∷ keys rs) (keys rs)) ≡ cond b 1 0 + unanswered_of is rs) [ true ↦ omega (arith, more) | false ↦ omega (arith, more) ]

  -- a request of the list that has this link and cookie, and waits
  record Waits (link cookie : ℕ) (rs : List Request) : Type 0 where
    request : Request
    within : IsIn request rs
    on : request.link ≡ link
    by : request.cookie ≡ cookie
    so : waits request ≡ true

  listed_waits : (link cookie : ℕ) (rs : List Request) → IsListed link cookie (keys rs) → Waits link cookie rs
  listed_waits link cookie [] l = absurd l
  listed_waits link cookie (r ∷ rs) l = go (listed_waits link cookie rs) (waits r) refl l
    where
      later : Waits link cookie rs → Waits link cookie (r ∷ rs)
      later w = record { request = w.request; within = inr w.within; on = w.on; by = w.by; so = w.so }

      go : (IsListed link cookie (keys rs) → Waits link cookie rs) → (b : Bool) → waits r ≡ b → IsListed link cookie (cond b ((r.link, r.cookie) ∷ keys rs) (keys rs)) → Waits link cookie (r ∷ rs)
      go rest true e (inl same) = record { request = r; within = inl refl; on = same.0; by = same.1; so = e }
      go rest true e (inr k) = later (rest k)
      go rest false e k = later (rest k)

  waits_listed : (r : Request) (rs : List Request) → IsIn r rs → waits r ≡ true → IsListed r.link r.cookie (keys rs)
  waits_listed r [] there so = absurd there
  waits_listed r (x ∷ rs) there so = go (λ k. waits_listed r rs k so) (waits x) refl there
    where
      go : (IsIn r rs → IsListed r.link r.cookie (keys rs)) → (b : Bool) → waits x ≡ b → IsIn r (x ∷ rs) → IsListed r.link r.cookie (cond b ((x.link, x.cookie) ∷ keys rs) (keys rs))
      go rest true e (inl same) = inl (ap (λ (y : Request). y.link) same, ap (λ (y : Request). y.cookie) same)
      go rest true e (inr k) = inr (rest k)
      go rest false e (inl same) = absurd (false≢true (sym e ∙ ap (λ (y : Request). waits y) same ∙ so))
      go rest false e (inr k) = rest k

  -- Each link and cookie has one request at most, and so it is listed once.

  abbrev AreOne : List Request → Type 0
  AreOne rs = (link cookie : ℕ) → length (under link cookie rs) ≤ 1

  fewer : (x : Request) (rs : List Request) → AreOne (x ∷ rs) → AreOne rs
  fewer x rs one link cookie = go ((x.link == link) && (x.cookie == cookie)) (one link cookie)
    where
      go : (b : Bool) → length (cond b (x ∷ under link cookie rs) (under link cookie rs)) ≤ 1 → length (under link cookie rs) ≤ 1
      go true l = omega (arith, l)
      go false l = l

  some_under : (r : Request) (rs : List Request) → IsIn r rs → 1 ≤ length (under r.link r.cookie rs)
  some_under r [] there = absurd there
  some_under r (x ∷ rs) (inl same) =
      let here : ((x.link == r.link) && (x.cookie == r.cookie)) ≡ true = ap (λ (y : Request). (y.link == r.link) && (y.cookie == r.cookie)) same ∙ same_key r.link r.cookie in
      subst (λ (b : Bool). 1 ≤ length (cond b (x ∷ under r.link r.cookie rs) (under r.link r.cookie rs))) (sym here) (omega arith)
  some_under r (x ∷ rs) (inr there) =
      let more = some_under r rs there in
      elim ((x.link == r.link) && (x.cookie == r.cookie)) as (λ b. 1 ≤ length (cond b (x ∷ under r.link r.cookie rs) (under r.link r.cookie rs))) [ true ↦ omega (arith, more) | false ↦ more ]

  first_alone : (x : Request) (rs : List Request) → AreOne (x ∷ rs) → IsListed x.link x.cookie (keys rs) → ⊥
  first_alone x rs one l =
      let w = listed_waits x.link x.cookie rs l in
      let some : 1 ≤ length (under x.link x.cookie rs) = subst (λ (n : ℕ). 1 ≤ length (under n x.cookie rs)) w.on (subst (λ (n : ℕ). 1 ≤ length (under w.request.link n rs)) w.by (some_under w.request rs w.within)) in
      let most : length (x ∷ under x.link x.cookie rs) ≤ 1 = subst (λ (b : Bool). length (cond b (x ∷ under x.link x.cookie rs) (under x.link x.cookie rs)) ≤ 1) (same_key x.link x.cookie) (one x.link x.cookie) in
      omega (arith, some, most)

  keys_once : (rs : List Request) → AreOne rs → AreListedOnce (keys rs)
  keys_once [] one = tt
  keys_once (x ∷ rs) one =
      let rest = keys_once rs (fewer x rs one) in
      elim (waits x) as (λ b. AreListedOnce (cond b ((x.link, x.cookie) ∷ keys rs) (keys rs))) [ true ↦ (first_alone x rs one, rest) | false ↦ rest ]

  -- What is dealt says of each that waits that it was asked and waits, and of no other.
  module _ (requests : List Request) (dealt : Dealt) (shown : (r : Request) → IsIn r requests → r.said.outcome ≡ Unfinished → (dealt.asked r.link r.cookie ≡ Some r.said.command) × (dealt.outcome r.link r.cookie ≡ Unfinished))
      (only : (link cookie : ℕ) (command : Command Nobody) → dealt.asked link cookie ≡ Some command → dealt.outcome link cookie ≡ Unfinished → WaitsUnder link cookie command requests) where
    is_unanswered : (link cookie : ℕ) → Waits link cookie requests → IsUnanswered is dealt link cookie
    is_unanswered link cookie w =
        let parts = both (is w.request.said.command.kind) (is_waiting w.request.said) w.so in
        let s = shown w.request w.within (waits_unfinished w.request.said.outcome parts.1) in
        record {
          command = w.request.said.command;
          asked = subst (λ (n : ℕ). dealt.asked n cookie ≡ Some w.request.said.command) w.on (subst (λ (n : ℕ). dealt.asked w.request.link n ≡ Some w.request.said.command) w.by s.0);
          kind = parts.0;
          waits = subst (λ (n : ℕ). dealt.outcome n cookie ≡ Unfinished) w.on (subst (λ (n : ℕ). dealt.outcome w.request.link n ≡ Unfinished) w.by s.1);
        }

    is_listed : (link cookie : ℕ) → IsUnanswered is dealt link cookie → IsListed link cookie (keys requests)
    is_listed link cookie u =
        let there = only link cookie u.command u.asked u.waits in
        let r = there.under.request in
        let idle : is_waiting r.said ≡ true = ap (λ (o : Outcome). not (is_finished o)) there.waits in
        let so : waits r ≡ true = and_true (is r.said.command.kind) (is_waiting r.said) (ap (λ (c : Command Nobody). is c.kind) there.under.asks ∙ u.kind) idle in
        subst (λ (n : ℕ). IsListed n cookie (keys requests)) there.under.on (subst (λ (n : ℕ). IsListed r.link n (keys requests)) there.under.by (waits_listed r requests there.under.within so))

    are_unanswered : AreOne requests → AreUnanswered is dealt (unanswered_of is requests)
    are_unanswered one = record {
      list = keys requests;
      many = many_keys requests;
      once = keys_once requests one;
      all = λ link cookie. ((λ l. is_unanswered link cookie (listed_waits link cookie requests l)), is_listed link cookie);
    }

-- A list that tracks handles has one request at most under each link and cookie.
one_each : (histories : Histories) (requests : List Request) → AllTrack histories requests → (link cookie : ℕ) → length (under link cookie requests) ≤ 1
one_each histories requests all link cookie = subst (λ (l : List Request). length l ≤ 1) (sym ((all link).each cookie)) (one (history_of.request (histories link) cookie))
  where
    one : (a : Option (commands.Request Ticket)) → length (request_of link cookie a (outcome_after (histories link) cookie)) ≤ 1
    one None = omega arith
    one (Some asks) = omega arith

-- what a history says of a request of the list
record Of (histories : Histories) (r : Request) : Type 0 where
  asks : commands.Request Ticket
  is : history_of.request (histories r.link) r.cookie ≡ Some asks
  command : r.said.command ≡ bare asks
  outcome : r.said.outcome ≡ outcome_after (histories r.link) r.cookie

of_it : (histories : Histories) (xs : List Request) (r : Request) → AllTrack histories xs → IsIn r xs → Of histories r
of_it histories xs r all there = go (history_of.request (histories r.link) r.cookie) refl (subst (λ l. IsIn r l) ((all r.link).each r.cookie) (in_under r xs there))
  where
    go : (a : Option (commands.Request Ticket)) → history_of.request (histories r.link) r.cookie ≡ a → IsIn r (request_of r.link r.cookie a (outcome_after (histories r.link) r.cookie)) → Of histories r
    go None is h = absurd h
    go (Some q) is (inr h) = absurd h
    go (Some q) is (inl e) = record { asks = q; is = is; command = sym (ap (λ (x : Request). x.said.command) e); outcome = sym (ap (λ (x : Request). x.said.outcome) e) }

module _ (place : Place) (calls : List Call) (histories : Histories) (requests : List Request) (all : AllTrack histories requests) (are : AreWaitingOn place calls histories) where
  -- what is dealt of a command that was wholly written
  asked_so : (link cookie : ℕ) (q : commands.Request Ticket) → history_of.request (histories link) cookie ≡ Some q → nat_le cookie (written (histories link)) ≡ true → (dealt_with place calls).asked link cookie ≡ Some (bare q)
  asked_so link cookie q is out =
      let here = are.asked link cookie q is out in
      ap (λ (b : Bool). only_if b (asked_on (on_link link calls) cookie)) here
      ∙ (are.says link here).requests cookie
      ∙ ap (λ (b : Bool). if b then option_map bare (history_of.request (histories link) cookie) else None) out
      ∙ ap (λ (a : Option (commands.Request Ticket)). option_map bare a) is

  came_so : (link cookie : ℕ) (q : commands.Request Ticket) → history_of.request (histories link) cookie ≡ Some q → nat_le cookie (written (histories link)) ≡ true → (dealt_with place calls).outcome link cookie ≡ outcome_after (histories link) cookie
  came_so link cookie q is out =
      let here = are.asked link cookie q is out in
      ap (λ (b : Bool). if b then answered (on_link link calls) cookie else Unfinished) here ∙ (are.says link here).outcomes cookie out

  waiting_shown : (r : Request) → IsIn r requests → r.said.outcome ≡ Unfinished → ((dealt_with place calls).asked r.link r.cookie ≡ Some r.said.command) × ((dealt_with place calls).outcome r.link r.cookie ≡ Unfinished)
  waiting_shown r there waits =
      let o = of_it histories requests r all there in
      let out = are.out r.link r.cookie o.asks o.is (sym o.outcome ∙ waits) in
      (asked_so r.link r.cookie o.asks o.is out ∙ sym (ap (λ (c : Command Nobody). Some c) o.command), came_so r.link r.cookie o.asks o.is out ∙ sym o.outcome ∙ waits)

  no_other : (link cookie : ℕ) (command : Command Nobody) → (dealt_with place calls).asked link cookie ≡ Some command → (dealt_with place calls).outcome link cookie ≡ Unfinished → WaitsUnder link cookie command requests
  no_other link cookie command e waits = on (is_of place calls link) refl e
    where
      none_some : None ≡ Some command → ⊥
      none_some k = cc

      some_is : (q : commands.Request Ticket) → Some (bare q) ≡ Some command → bare q ≡ command
      some_is q k = cc

      asked_by : nat_le cookie (written (histories link)) ≡ true → (a : Option (commands.Request Ticket)) → history_of.request (histories link) cookie ≡ a → option_map bare a ≡ Some command → WaitsUnder link cookie command requests
      asked_by out None is k = absurd (none_some k)
      asked_by out (Some q) is k =
          let r : Request = request link cookie q.flight.done.callback (record { command = bare q; outcome = outcome_after (histories link) cookie }) in
          let there = found link cookie r requests ((all link).each cookie ∙ ap (λ (a : Option (commands.Request Ticket)). request_of link cookie a (outcome_after (histories link) cookie)) is) in
          record {
            under = record { request = r; within = subst (λ l. IsIn r l) (sym there.is) (in_middle r there.front there.back); on = refl; by = refl; asks = some_is q k };
            waits = sym (came_so link cookie q is out) ∙ waits;
          }

      whole : (b : Bool) → nat_le cookie (written (histories link)) ≡ b → (if b then option_map bare (history_of.request (histories link) cookie) else None) ≡ Some command → WaitsUnder link cookie command requests
      whole true out k = asked_by out (history_of.request (histories link) cookie) refl k
      whole false out k = absurd (none_some k)

      on : (b : Bool) → is_of place calls link ≡ b → only_if b (asked_on (on_link link calls) cookie) ≡ Some command → WaitsUnder link cookie command requests
      on true here k = whole (nat_le cookie (written (histories link))) refl (sym ((are.says link here).requests cookie) ∙ k)
      on false here k = absurd (none_some k)

pub tracked_are_unanswered : TrackedAreUnanswered
tracked_are_unanswered is place calls histories requests all are =
    are_unanswered is requests (dealt_with place calls) (waiting_shown place calls histories requests all are) (no_other place calls histories requests all are) (one_each histories requests all)

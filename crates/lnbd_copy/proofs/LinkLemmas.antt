-- A copy uses its links while they are open alone, and those that are open are the links of its handles.
use Rattle.std.proofs.Common.{◌≡◌, ℕ, zero, suc, ◌+◌, ◌<◌, ◌==◌, Bool, true, false, ◌||◌, ◌&&◌, not, List, [], ◌∷◌, ◌++◌, Option, None, Some, slice_get, take, drop, map, refl, ap, sym, subst, ◌∙◌, arith}
use Rattle.std.proofs.lemmas.Bool.{false≢true}
use Rattle.std.proofs.lemmas.Bool.Decides.{nat_tests}
use Rattle.std.proofs.lemmas.Grind.{common_steps, flat_map-append}
use Rattle.std.proofs.lemmas.List.{append-nil, append_assoc}
use Rattle.std.proofs.lemmas.List.Folds.{list_any-append}
use Rattle.std.specs.List.{list_any}
use Rattle.std.specs.Option.{option_map}
use Rattle.lnbd_link.specs.Call.{Call, Connect, Listen, Accept, Read, Write, Pause, Shut}
use Rattle.lnbd_link.specs.Numbers.{gives, is_given, is_open, open_after, open_by}
use Rattle.lnbd_link.specs.declared.wires.Want.{Want}
use Rattle.lnbd_link.specs.Part.{Adds, Grows}
use Rattle.lnbd_link.proofs.Openings.{is_open-call, open_after-append}
use Rattle.lnbd_model.specs.declared.target.Target.{Target}
use Rattle.lnbd_callbacks.specs.Calls as callbacks
use Rattle.lnbd_callbacks.specs.Steps.{OneByOne}
use Rattle.lnbd_history.specs.Events.{History}
use Rattle.lnbd_machine.specs.Machine.{Machine}
use Rattle.lnbd_poll.specs.declared.noticed.Noticed.{Noticed}
use Rattle.lnbd_poll.specs.declared.noticed.Turn.{Turn}
use Rattle.lnbd_poll.specs.Held.{Held, AreAt}
use Rattle.lnbd_poll.specs.Lends.{with_handle}
use Rattle.lnbd_poll.specs.Notices.{ReadsIf, ReadsOn, WritesIf, is_reading, is_waiting}
use Rattle.lnbd_poll.specs.Seen.{Seen}
use Rattle.lnbd_poll.specs.Seen as poll
use Rattle.lnbd_poll.specs.Turned.{TurnsCut, TurnsWhole}
use Rattle.lnbd_poll.specs.Turns.{All_took, Ending, Goes_on, Runs_short, Breaks_off, Stops, Takes, Turns, TurnsOne, Whole, WritesAll}
use Rattle.lnbd_poll.proofs.NumberLemmas.{same_number}
use Rattle.lnbd_board.specs.Files.{Files}
use Rattle.lnbd_board.specs.Files as board
use Rattle.lnbd_course.specs.Asks.{GrewBy}
use Rattle.lnbd_board.specs.declared.ticket.Ticket.{Ticket}
use Rattle.lnbd_copy.specs.Links.{HaveSameLinks, LinksGo, LinksStand, links_of, times}
use Rattle.lnbd_conduct.specs.Links.{ConnectTo, once_if}
use Rattle.lnbd_usage.specs.Links.{LinksAreKept, UseOpenLinks, serves, target_by, targets, used_by}
use Rattle.lnbd_copy.specs.Way.{Stand}
use Rattle.lnbd_conduct.specs.Told.{Told}
use Rattle.lnbd_copy.proofs.DialLemmas.{last_free}
use Rattle.lnbd_copy.proofs.EndLemmas.{told_part}
use Rattle.lnbd_copy.proofs.LastLemmas.{lasts_adds, lasts_none, lasts_then}
use Rattle.lnbd_copy.proofs.TurnLemmas.{SameLinks, none_some, since_on, some_same, told_begins, told_map, told_on, turns_led}

-- Calls one after another, where these links were open before.

abbrev IsOpenFor : (was : ℕ → Bool) → Call → Type 0
IsOpenFor was call = (link : ℕ) → used_by call ≡ Some link → was link ≡ true

abbrev pub UseOpen : (was : ℕ → Bool) → List Call → Type 0
UseOpen was [] = Unit {0}
UseOpen was (call ∷ calls) = IsOpenFor was call × UseOpen (λ link. open_by link (was link) call) calls

-- so they are used where each call is in its place
each_used : (was : ℕ → Bool) (calls : List Call) → ((link : ℕ) (before after : List Call) (call : Call) → calls ≡ before ++ call ∷ after → used_by call ≡ Some link → open_after link (was link) before ≡ true) → UseOpen was calls
each_used was [] each = tt
each_used was (first ∷ calls) each = (
  (λ link uses. each link [] calls first refl uses),
  each_used (λ link. open_by link (was link) first) calls (λ link before after call is uses. each link (first ∷ before) after call (ap (λ (l : List Call). first ∷ l) is) uses),
)

used_each : (was : ℕ → Bool) (before after : List Call) (call : Call) (link : ℕ) → UseOpen was (before ++ call ∷ after) → used_by call ≡ Some link → open_after link (was link) before ≡ true
used_each was [] after call link used uses = used.0 link uses
used_each was (first ∷ before) after call link used uses = used_each (λ n. open_by n (was n) first) before after call link used.1 uses

used_both : (was : ℕ → Bool) (calls more : List Call) → UseOpen was calls → UseOpen (λ link. open_after link (was link) calls) more → UseOpen was (calls ++ more)
used_both was [] more used rest = rest
used_both was (call ∷ calls) more used rest = (used.0, used_both (λ link. open_by link (was link) call) calls more used.1 rest)

used_more : (calls more : List Call) → UseOpenLinks calls → UseOpen (λ link. is_open link calls) more → UseOpenLinks (calls ++ more)
used_more calls more used rest = λ link before after call is uses.
    used_each (λ n. false) before after call link (subst (UseOpen (λ n. false)) is (used_both (λ n. false) calls more (each_used (λ n. false) calls used) rest)) uses

none_more : (calls more : List Call) → list_any serves calls ≡ false → list_any serves more ≡ false → list_any serves (calls ++ more) ≡ false
none_more calls more none rest = list_any-append serves calls more ∙ neither (list_any serves calls) (list_any serves more) none rest
  where
    neither : (a b : Bool) → a ≡ false → b ≡ false → (a || b) ≡ false
    neither true b e f = e
    neither false b e f = f

number_is : (m n : ℕ) → (m == n) ≡ true → m ≡ n
number_is m n is = grind (arith, common_steps, nat_tests)

-- Links that were not given are not open.

unopened_on : (link : ℕ) (was : Bool) (calls : List Call) → was ≡ false → is_given link calls ≡ false → open_after link was calls ≡ false
unopened_on link was [] shut free = shut
unopened_on link was (call ∷ calls) shut free = unopened_on link (open_by link was call) calls (by call (first (gives link call) (is_given link calls) free)) (second (gives link call) (is_given link calls) free)
  where
    first : (a b : Bool) → (a || b) ≡ false → a ≡ false
    first true b e = e
    first false b e = refl

    second : (a b : Bool) → (a || b) ≡ false → b ≡ false
    second true b e = absurd (false≢true (sym e))
    second false b e = e

    either : (a b : Bool) → a ≡ false → b ≡ false → (a || b) ≡ false
    either true b e f = e
    either false b e f = f

    both : (a b : Bool) → b ≡ false → (a && b) ≡ false
    both true b f = f
    both false b f = refl

    by : (call : Call) → gives link call ≡ false → open_by link was call ≡ false
    by (Connect to given) e = either _ was e shut
    by (Listen at given) e = either _ was e shut
    by (Accept listener answer) e = either _ was e shut
    by (Read n room answer) e = shut
    by (Write n offered answer) e = shut
    by (Pause wants) e = shut
    by (Shut n) e = both (not (n == link)) was shut

pub unopened : (link : ℕ) (calls : List Call) → is_given link calls ≡ false → is_open link calls ≡ false
unopened link calls free = unopened_on link false calls refl free

-- Calls that move bytes on links of these alone.

abbrev pub IsMove : List ℕ → Call → Type 0
IsMove links (Connect to given) = ⊥
IsMove links (Listen at given) = ⊥
IsMove links (Accept listener answer) = ⊥
IsMove links (Read n room answer) = 0 < times n links
IsMove links (Write n offered answer) = 0 < times n links
IsMove links (Pause wants) = ⊥
IsMove links (Shut n) = ⊥

abbrev pub AreMoves : List ℕ → List Call → Type 0
AreMoves links [] = Unit {0}
AreMoves links (call ∷ calls) = IsMove links call × AreMoves links calls

some_opened : (b : Bool) (n : ℕ) → n ≡ once_if b → 0 < n → b ≡ true
some_opened true n e some = refl
some_opened false n e some = absurd (omega (arith, e, some))

some_number : (n link : ℕ) → Some n ≡ Some link → n ≡ link
some_number n link e = cc

record HaveMoved (was : ℕ → Bool) (more : List Call) : Type 0 where
  used : UseOpen was more
  still : (link : ℕ) → open_after link (was link) more ≡ was link
  none : list_any serves more ≡ false
  nowhere : targets more ≡ []

moves : (links : List ℕ) (was : ℕ → Bool) (more : List Call) → ((link : ℕ) → 0 < times link links → was link ≡ true) → AreMoves links more → HaveMoved was more
moves links was [] opened all = record { used = tt; still = λ link. refl; none = refl; nowhere = refl }
moves links was (Connect to given ∷ more) opened all = absurd all.0
moves links was (Listen at given ∷ more) opened all = absurd all.0
moves links was (Accept listener answer ∷ more) opened all = absurd all.0
moves links was (Read n room answer ∷ more) opened all =
    let rest = moves links was more opened all.1 in
    record { used = ((λ link uses. opened link (subst (λ (k : ℕ). 0 < times k links) (some_number n link uses) all.0)), rest.used); still = rest.still; none = rest.none; nowhere = rest.nowhere }
moves links was (Write n offered answer ∷ more) opened all =
    let rest = moves links was more opened all.1 in
    record { used = ((λ link uses. opened link (subst (λ (k : ℕ). 0 < times k links) (some_number n link uses) all.0)), rest.used); still = rest.still; none = rest.none; nowhere = rest.nowhere }
moves links was (Pause wants ∷ more) opened all = absurd all.0
moves links was (Shut n ∷ more) opened all = absurd all.0

-- What stands after calls.

pub stands_same : (held held' : List (Held Ticket)) (calls : List Call) → links_of held' ≡ links_of held → LinksStand held calls → LinksStand held' calls
stands_same held held' calls same stand = record { used = stand.used; opened = λ link. ap (times link) same ∙ stand.opened link; none = stand.none }

pub moves_stand : (held held' : List (Held Ticket)) (calls more : List Call) → links_of held' ≡ links_of held → AreMoves (links_of held) more → LinksStand held calls → LinksStand held' (calls ++ more)
moves_stand held held' calls more same all stand =
    let moved = moves (links_of held) (λ link. is_open link calls) more (λ link some. some_opened (is_open link calls) (times link (links_of held)) (stand.opened link) some) all in
    record {
      used = used_more calls more stand.used moved.used;
      opened = λ link. ap (times link) same ∙ stand.opened link ∙ ap once_if (sym (open_after-append link false calls more ∙ moved.still link));
      none = none_more calls more stand.none moved.none;
    }

-- with one call that uses no link, and gives none
pub idle_stands : (held : List (Held Ticket)) (calls : List Call) (call : Call) → used_by call ≡ None → serves call ≡ false → ((link : ℕ) (was : Bool) → open_by link was call ≡ was) → LinksStand held calls → LinksStand held (calls ++ call ∷ [])
idle_stands held calls call unused none same stand = record {
  used = used_more calls (call ∷ []) stand.used ((λ link uses. absurd (no_link link (sym unused ∙ uses))), tt);
  opened = λ link. stand.opened link ∙ ap once_if (sym (is_open-call link calls call ∙ same link (is_open link calls)));
  none = none_more calls (call ∷ []) stand.none (ap (λ (b : Bool). b || false) none);
}
  where
    no_link : (link : ℕ) → None ≡ Some link → ⊥
    no_link link e = cc

-- A link is made, and a handle holds it.

times_both : (link : ℕ) (links more : List ℕ) → times link (links ++ more) ≡ times link links + times link more
times_both link [] more = omega arith
times_both link (one ∷ others) more = let rest = times_both link others more in omega (arith, rest)

links_both : (held more : List (Held Ticket)) → links_of (held ++ more) ≡ links_of held ++ links_of more
links_both [] more = refl
links_both (one ∷ others) more = ap (λ (l : List ℕ). one.link ∷ l) (links_both others more)

pub connect_stands : (held held' : List (Held Ticket)) (calls : List Call) (to : Target) (link : ℕ) → is_given link calls ≡ false → ((n : ℕ) → times n (links_of held') ≡ times n (links_of held) + once_if (link == n)) → LinksStand held calls → LinksStand held' (calls ++ Connect to (Some link) ∷ [])
connect_stands held held' calls to link free one stand = record {
  used = used_more calls (Connect to (Some link) ∷ []) stand.used ((λ n uses. absurd (no_link n uses)), tt);
  opened = λ n. one n ∙ ap (λ (m : ℕ). m + once_if (link == n)) (stand.opened n) ∙ once_more (link == n) (is_open n calls) (was_shut n) ∙ ap once_if (sym (is_open-call n calls (Connect to (Some link))));
  none = none_more calls (Connect to (Some link) ∷ []) stand.none refl;
}
  where
    no_link : (n : ℕ) → None ≡ Some n → ⊥
    no_link n e = cc

    was_shut : (n : ℕ) → (link == n) ≡ true → is_open n calls ≡ false
    was_shut n e = let same : link ≡ n = number_is link n e in subst (λ (k : ℕ). is_open k calls ≡ false) same (unopened link calls free)

    once_more : (new was : Bool) → (new ≡ true → was ≡ false) → once_if was + once_if new ≡ once_if (new || was)
    once_more true true shut = absurd (false≢true (sym (shut refl)))
    once_more true false shut = refl
    once_more false true shut = refl
    once_more false false shut = refl

-- A link is shut, and its handle is held no more.

pub shut_stands : (held held' : List (Held Ticket)) (calls : List Call) (link : ℕ) → ((n : ℕ) → times n (links_of held) ≡ times n (links_of held') + once_if (link == n)) → LinksStand held calls → LinksStand held' (calls ++ Shut link ∷ [])
shut_stands held held' calls link one stand = record {
  used = used_more calls (Shut link ∷ []) stand.used ((λ n uses. was_open n (some_number link n uses)), tt);
  opened = λ n. once_less (times n (links_of held')) (link == n) (is_open n calls) (sym (one n) ∙ stand.opened n) ∙ ap once_if (sym (is_open-call n calls (Shut link)));
  none = none_more calls (Shut link ∷ []) stand.none refl;
}
  where
    was_open : (n : ℕ) → link ≡ n → is_open n calls ≡ true
    was_open n e = let more = one n in some_opened (is_open n calls) (times n (links_of held)) (stand.opened n) (counted (link == n) (times n (links_of held')) (times n (links_of held)) (subst (λ (k : ℕ). (link == k) ≡ true) e (same_number link)) more)
      where
        counted : (b : Bool) (m k : ℕ) → b ≡ true → k ≡ m + once_if b → 0 < k
        counted true m k is e = omega (arith, e)
        counted false m k is e = absurd (false≢true is)

    once_less : (m : ℕ) (new was : Bool) → m + once_if new ≡ once_if was → m ≡ once_if (not new && was)
    once_less m true true e = omega (arith, e)
    once_less m true false e = absurd (omega (arith, e))
    once_less m false true e = omega (arith, e)
    once_less m false false e = omega (arith, e)

-- Steps, where the transcript is told.

pub target_more : (calls : List Call) (call : Call) (before : List Target) → ConnectTo before calls → ConnectTo (before ++ target_by call) (calls ++ call ∷ [])
target_more calls call before is =
    flat_map-append target_by calls (call ∷ []) ∙ ap (λ (l : List Target). targets calls ++ l) (append-nil (target_by call)) ∙ ap (λ (l : List Target). l ++ target_by call) is

-- with one call
goes_by : (call : Call) (held held' : List (Held Ticket)) (a b : Option (List Call)) → Adds a b call → ((start : Option (List Call)) → Told start a (LinksStand held) → Told start b (LinksStand held')) → LinksGo (target_by call) held a held' b
goes_by call held held' a b adds on = record {
  on = on;
  connects = λ start before told. told_on start a b call adds (λ calls is. target_more calls call before is) told;
  lasts = lasts_adds a b call adds;
}

not_more : (calls : List Call) (before : List Target) → ConnectTo before calls → ConnectTo (before ++ []) calls
not_more calls before is = is ∙ sym (append-nil before)

pub links_none : (held : List (Held Ticket)) (told : Option (List Call)) → LinksGo [] held told held told
links_none held told = record { on = λ start is. is; connects = λ start before is. told_map start told (λ calls. not_more calls before) is; lasts = lasts_none told }

pub links_joined : (to more : List Target) (held held2 held3 : List (Held Ticket)) (a b c : Option (List Call)) → LinksGo to held a held2 b → LinksGo more held2 b held3 c → LinksGo (to ++ more) held a held3 c
links_joined to more held held2 held3 a b c one two = record {
  on = λ start is. two.on start (one.on start is);
  connects = λ start before is. subst (λ (l : List Target). Told start c (ConnectTo l)) (append_assoc before to more) (two.connects start (before ++ to) (one.connects start before is));
  lasts = lasts_then a b c one.lasts two.lasts;
}

pub links_then : (held held2 held3 : List (Held Ticket)) (a b c : Option (List Call)) → LinksGo [] held a held2 b → LinksGo [] held2 b held3 c → LinksGo [] held a held3 c
links_then held held2 held3 a b c one two = links_joined [] [] held held2 held3 a b c one two

pub links_end : (to : List Target) (held held2 held3 : List (Held Ticket)) (a b c : Option (List Call)) → LinksGo to held a held2 b → LinksGo [] held2 b held3 c → LinksGo to held a held3 c
links_end to held held2 held3 a b c one two = subst (λ (l : List Target). LinksGo l held a held3 c) (append-nil to) (links_joined to [] held held2 held3 a b c one two)

pub links_as : (to : List Target) (held held' held2 : List (Held Ticket)) (a b b2 : Option (List Call)) → held2 ≡ held' → b2 ≡ b → LinksGo to held a held' b → LinksGo to held a held2 b2
links_as to held held' held2 a b b2 same told_is go =
    subst (λ (t : Option (List Call)). LinksGo to held a held2 t) (sym told_is) (subst (λ (l : List (Held Ticket)). LinksGo to held a l b) (sym same) go)

pub links_same : (held held' : List (Held Ticket)) (told : Option (List Call)) → HaveSameLinks held held' → LinksGo [] held told held' told
links_same held held' told same = record {
  on = λ start is. told_map start told (λ calls. stands_same held held' calls same.same) is;
  connects = λ start before is. told_map start told (λ calls. not_more calls before) is;
  lasts = lasts_none told;
}

pub links_paused : (held held' : List (Held Ticket)) (a b : Option (List Call)) (wants : List Want) → held' ≡ held → Adds a b (Pause wants) → LinksGo [] held a held' b
links_paused held held' a b wants same adds = goes_by (Pause wants) held held' a b adds
    (λ start is. told_on start a b (Pause wants) adds (λ calls stand. stands_same held held' (calls ++ Pause wants ∷ []) (ap links_of same) (idle_stands held calls (Pause wants) refl refl (λ link was. refl) stand)) is)

pub links_refused : (held : List (Held Ticket)) (a b : Option (List Call)) (to : Target) → Adds a b (Connect to None) → LinksGo (to ∷ []) held a held b
links_refused held a b to adds = goes_by (Connect to None) held held a b adds (λ start is. told_on start a b (Connect to None) adds (λ calls. idle_stands held calls (Connect to None) refl refl (λ link was. refl)) is)

-- Handles whose links stay as they were.

pub same_none : (held : List (Held Ticket)) → HaveSameLinks held held
same_none held = record { same = refl }

pub same_then : (a b c : List (Held Ticket)) → HaveSameLinks a b → HaveSameLinks b c → HaveSameLinks a c
same_then a b c one two = record { same = two.same ∙ one.same }

pub same_with : (held : List (Held Ticket)) (index : ℕ) (handle : Machine Ticket) → HaveSameLinks held (with_handle held index handle)
same_with held index handle = record { same = go held index }
  where
    go : (all : List (Held Ticket)) (index : ℕ) → links_of (with_handle all index handle) ≡ links_of all
    go [] index = refl
    go (one ∷ others) zero = refl
    go (one ∷ others) (suc index) = ap (λ (l : List ℕ). one.link ∷ l) (go others index)

-- A link is made.

one_more : (held : List (Held Ticket)) (one : Held Ticket) (n : ℕ) → times n (links_of (held ++ one ∷ [])) ≡ times n (links_of held) + once_if (one.link == n)
one_more held one n =
    let both = ap (times n) (links_both held (one ∷ [])) ∙ times_both n (links_of held) (one.link ∷ []) in
    omega (arith, both)

pub links_connected : (held : List (Held Ticket)) (one : Held Ticket) (a b : Option (List Call)) (to : Target) → Adds a b (Connect to (Some one.link)) → ((calls : List Call) → a ≡ Some calls → is_given one.link calls ≡ false) → LinksGo (to ∷ []) held a (held ++ one ∷ []) b
links_connected held one a b to adds fresh = goes_by (Connect to (Some one.link)) held (held ++ one ∷ []) a b adds (λ start told. record {
  since = λ all is.
      let grown = adds all is in
      let since = told.since grown.0 grown.1 in
      let free = last_free one.link since.before since.calls (subst (λ (l : List Call). is_given one.link l ≡ false) since.now (fresh grown.0 grown.1)) in
      since_on start grown.0 all (Connect to (Some one.link) ∷ []) grown.2 since (connect_stands held (held ++ one ∷ []) since.calls to one.link free (one_more held one) since.is);
})

-- A handle is not held, and its link shut; or it is held.

pub links_shut_last : (held held' : List (Held Ticket)) (one : Held Ticket) (a b : Option (List Call)) → held' ≡ held → Adds a b (Shut one.link) → LinksGo [] (held ++ one ∷ []) a held' b
links_shut_last held held' one a b same adds = goes_by (Shut one.link) (held ++ one ∷ []) held' a b adds
    (λ start told. told_on start a b (Shut one.link) adds (λ calls. shut_stands (held ++ one ∷ []) held' calls one.link (λ n. one_more held one n ∙ ap (λ (l : List (Held Ticket)). times n (links_of l) + once_if (one.link == n)) (sym same))) told)

pub links_kept_last : (held held' : List (Held Ticket)) (one : Held Ticket) (a b : Option (List Call)) → held' ≡ held ++ one ∷ [] → b ≡ a → LinksGo [] (held ++ one ∷ []) a held' b
links_kept_last held held' one a b same told_is =
    subst (λ (t : Option (List Call)). LinksGo [] (held ++ one ∷ []) a held' t) (sym told_is) (subst (λ (l : List (Held Ticket)). LinksGo [] (held ++ one ∷ []) a l a) (sym same) (links_none (held ++ one ∷ []) a))

-- A handle is taken out, and its link shut.

left_times : (index : ℕ) (held : List (Held Ticket)) (one : ℕ × Machine Ticket) → option_map {U = ℕ × Machine Ticket} (λ held. (held.link, held.handle)) (slice_get held index) ≡ Some one → (n : ℕ) → times n (links_of held) ≡ times n (links_of (take index held ++ drop (suc index) held)) + once_if (one.0 == n)
left_times index [] one is n = absurd (none_some one is)
left_times zero (first ∷ others) one is n =
    let same : once_if (first.link == n) ≡ once_if (one.0 == n) = ap (λ (p : ℕ × Machine Ticket). once_if (p.0 == n)) (some_same (first.link, first.handle) one is) in
    omega (arith, same)
left_times (suc index) (first ∷ others) one is n = let rest = left_times index others one is n in omega (arith, rest)

pub links_hung_up : (a b : Option (List Call)) (held held' : List (Held Ticket)) (index : ℕ) (one : ℕ × Machine Ticket) → option_map {U = ℕ × Machine Ticket} (λ held. (held.link, held.handle)) (slice_get held index) ≡ Some one
    → held' ≡ take index held ++ drop (index + 1) held → Adds a b (Shut one.0) → LinksGo [] held a held' b
links_hung_up a b held held' index one is held_is adds = goes_by (Shut one.0) held held' a b adds (λ start told. told_on start a b (Shut one.0) adds (λ calls. shut_stands held held' calls one.0 left) told)
  where
    next : index + 1 ≡ suc index
    next = omega arith

    left : (n : ℕ) → times n (links_of held) ≡ times n (links_of held') + once_if (one.0 == n)
    left n = left_times index held one is n ∙ ap (λ (l : List (Held Ticket)). times n (links_of l) + once_if (one.0 == n)) (sym (held_is ∙ ap (λ (k : ℕ). take index held ++ drop k held) next))

-- The calls of a turn are reads and writes of its handles' links.

both_move : (links : List ℕ) (calls more : List Call) → AreMoves links calls → AreMoves links more → AreMoves links (calls ++ more)
both_move links [] more all rest = rest
both_move links (call ∷ calls) more all rest = (all.0, both_move links calls more all.1 rest)

move_wider : (first : ℕ) (links : List ℕ) (call : Call) → IsMove links call → IsMove (first ∷ links) call
move_wider first links (Connect to given) is = is
move_wider first links (Listen at given) is = is
move_wider first links (Accept listener answer) is = is
move_wider first links (Read n room answer) is = omega (arith, is)
move_wider first links (Write n offered answer) is = omega (arith, is)
move_wider first links (Pause wants) is = is
move_wider first links (Shut n) is = is

moves_wider : (first : ℕ) (links : List ℕ) (calls : List Call) → AreMoves links calls → AreMoves (first ∷ links) calls
moves_wider first links [] all = tt
moves_wider first links (call ∷ calls) all = (move_wider first links call all.0, moves_wider first links calls all.1)

first_times : (link : ℕ) (links : List ℕ) → 0 < times link (link ∷ links)
first_times link links = let one : once_if (link == link) ≡ 1 = ap once_if (same_number link) in omega (arith, one)

module _ {K World : Type 0} (steps : World → List (callbacks.Call K) → World → Type 0) (links : List ℕ) where
  write_moves : (waits : Bool) (link : ℕ) (notice : Noticed) (before : History K) (calls : List Call) (after : History K) → 0 < times link links → WritesIf waits link notice before calls after → AreMoves links calls
  write_moves true link notice before calls after some w = subst (AreMoves links) (sym w.1) (some, tt)
  write_moves false link notice before calls after some w = subst (AreMoves links) (sym w.1) tt

  writes_move : (link : ℕ) (before : History K) (world : World) (calls : List Call) (after : History K) (world' : World) (moved : Option ℕ) → 0 < times link links → WritesAll steps link before world calls after world' moved → AreMoves links calls
  writes_move link before world calls after world' moved some (Stops _ _ _ _ _ _ notice w none is) = write_moves (is_waiting before) link notice before calls w.middle some w.writes
  writes_move link before world calls after world' moved some (Goes_on _ _ _ _ _ _ notice own middle half other rest w goes more are is) =
      subst (AreMoves links) (sym are) (both_move links own other (write_moves (is_waiting before) link notice before own w.middle some w.writes) (writes_move link middle half other after world' rest some more))

  read_moves : (unread : List ℕ) (notice : Noticed) (before : Seen K) (world : World) (calls : List Call) (after : Seen K) (world' : World) → 0 < times before.link links → ReadsOn steps unread notice before world calls after world' → AreMoves links calls
  read_moves [] notice before world calls after world' some r = subst (AreMoves links) (sym r.1) (some, tt)
  read_moves (byte ∷ bytes) notice before world calls after world' some r = subst (AreMoves links) (sym r.0) tt

  reads_move : (reads : Bool) (notice : Noticed) (before : Seen K) (world : World) (calls : List Call) (after : Seen K) (world' : World) → 0 < times before.link links → ReadsIf steps reads notice before world calls after world' → AreMoves links calls
  reads_move true notice before world calls after world' some r = read_moves before.unread notice before world calls after world' some r
  reads_move false notice before world calls after world' some r = subst (AreMoves links) (sym r.1) tt

  one_moves : (notice : Noticed) (before : Seen K) (world : World) (calls : List Call) (after : Seen K) (world' : World) (moved : Option ℕ) → 0 < times before.link links → TurnsOne steps notice before world calls after world' moved → AreMoves links calls
  one_moves notice before world calls after world' moved some t =
      let half : Seen K = record { link = before.link; history = t.middle; unread = before.unread } in
      subst (AreMoves links) (sym t.calls_are) (both_move links t.written t.read
      (writes_move before.link before.history world t.written t.middle t.half t.sent some t.writes)
      (reads_move (is_reading t.middle) notice half t.half t.read after world' some t.reads))

abbrev links_in : {K : Type 0} → List (Seen K) → List ℕ
links_in seens = map (λ seen. seen.link) seens

module _ {K World : Type 0} (steps : World → List (callbacks.Call K) → World → Type 0) where
  turns_move : (before : List (Seen K)) (world : World) (part : List Call) (after : List (Seen K)) (world' : World) (ending : Ending) → Turns steps before world part after world' ending → AreMoves (links_in before) part
  turns_move before world part after world' ending (All_took _ _ _ _ _ _ is none after_is world_is end) = subst (AreMoves (links_in before)) (sym none) tt
  turns_move before world part after world' ending (Takes _ _ _ _ _ _ seen others notice own here half moved other there rest is one enough more calls_are after_is end) =
      subst (λ (l : List (Seen K)). AreMoves (links_in l) part) (sym is) (subst (AreMoves (links_in (seen ∷ others))) (sym calls_are) (both_move (links_in (seen ∷ others)) own other
      (one_moves steps (links_in (seen ∷ others)) notice seen world own here half moved (first_times seen.link (links_in others)) one)
      (moves_wider seen.link (links_in others) other (turns_move others half other there world' rest more))))
  turns_move before world part after world' ending (Runs_short _ _ _ _ _ _ seen others here moved is one after_is end) =
      subst (λ (l : List (Seen K)). AreMoves (links_in l) part) (sym is)
      (one_moves steps (links_in (seen ∷ others)) _ seen world part here world' moved (first_times seen.link (links_in others)) one)
  turns_move before world part after world' ending (Breaks_off _ _ _ _ _ _ none after_is world_is end) = subst (AreMoves (links_in before)) (sym none) tt

at_links : (held : List (Held Ticket)) (seens : List (Seen Ticket)) → AreAt held seens → links_of held ≡ links_in seens
at_links [] [] at = refl
at_links [] (seen ∷ all) at = absurd at
at_links (one ∷ others) [] at = absurd at
at_links (one ∷ others) (seen ∷ all) at = ap (λ (n : ℕ). n ∷ links_of others) (sym at.0.link) ∙ ap (λ (l : List ℕ). seen.link ∷ l) (at_links others all at.1)

same_links : (before after : List (Seen Ticket)) → SameLinks before after → links_in after ≡ links_in before
same_links [] [] same = refl
same_links [] (here ∷ there) same = absurd same
same_links (seen ∷ others) [] same = absurd same
same_links (seen ∷ others) (here ∷ there) same = ap (λ (n : ℕ). n ∷ links_in there) same.0 ∙ ap (λ (l : List ℕ). seen.link ∷ l) (same_links others there same.1)

-- moves connect to nothing
moves_nowhere : (links : List ℕ) (more : List Call) → AreMoves links more → targets more ≡ []
moves_nowhere links more all = (moves links (λ link. true) more (λ link some. refl) all).nowhere

turned : (a b : Option (List Call)) (now now' : board.Seen) (held held' : List (Held Ticket)) (before after : List (Seen Ticket)) (part : List Call) (ending : Ending)
    → AreAt held before → AreAt held' after → Turns (OneByOne Files) before now part after now' ending → Grows a b part → LinksGo [] held a held' b
turned a b now now' held held' before after part ending at at' turns grows = record {
  on = λ start told. record {
    since = λ all is.
        let grown = grows all is in
        let since = told.since grown.0 grown.1 in
        since_on start grown.0 all part grown.2 since (moves_stand held held' since.calls part same part_moves since.is);
  };
  connects = λ start to told. record {
    since = λ all is.
        let grown = grows all is in
        let since = told.since grown.0 grown.1 in
        since_on start grown.0 all part grown.2 since
        (flat_map-append target_by since.calls part ∙ ap (λ (l : List Target). targets since.calls ++ l) (moves_nowhere (links_of held) part part_moves) ∙ ap (λ (l : List Target). l ++ []) since.is);
  };
  lasts = record { on = λ all is. let grown = grows all is in record { before = grown.0; after = part; are = grown.2; is = grown.1 } };
}
  where
    part_moves : AreMoves (links_of held) part
    part_moves = subst (λ (l : List ℕ). AreMoves l part) (sym (at_links held before at)) (turns_move (OneByOne Files) before now part after now' ending turns)

    same : links_of held' ≡ links_of held
    same = at_links held' after at' ∙ same_links before after (turns_led before now part after now' ending turns).links ∙ sym (at_links held before at)

-- A turn, whole or cut short.

pub links_turned : (a b : Option (List Call)) (f g : ℕ) (turn : Turn) (now now' : board.Seen) (held held' : List (Held Ticket))
    → poll.Goes a b (λ seens. AreAt held seens) (λ seens. AreAt held' seens) (λ before calls after. TurnsWhole (OneByOne Files) f g turn before now calls after now') → Stand held → LinksGo [] held a held' b
links_turned a b f g turn now now' held held' goes s =
    let went = goes s.seens s.at in
    turned a b now now' held held' s.seens went.after went.calls (Whole went.leads.moved) s.at went.at went.leads.turns went.grown

pub links_cut : (a b : Option (List Call)) (f g : ℕ) (now now' : board.Seen) (held held' : List (Held Ticket))
    → poll.Goes a b (λ seens. AreAt held seens) (λ seens. AreAt held' seens) (λ before calls after. TurnsCut (OneByOne Files) f g before now calls after now') → Stand held → LinksGo [] held a held' b
links_cut a b f g now now' held held' goes s =
    let went = goes s.seens s.at in
    turned a b now now' held held' s.seens went.after went.calls went.leads.ending s.at went.at went.leads.turns went.grown

-- The link of a handle that is held is open.

has_times : (index : ℕ) (seens : List (Seen Ticket)) (seen : Seen Ticket) → slice_get seens index ≡ Some seen → 0 < times seen.link (links_in seens)
has_times index [] seen there = absurd (none_some seen there)
has_times zero (first ∷ others) seen there = subst (λ (s : Seen Ticket). 0 < times seen.link (s.link ∷ links_in others)) (sym (some_same first seen there)) (first_times seen.link (links_in others))
has_times (suc index) (first ∷ others) seen there = let rest = has_times index others seen there in omega (arith, rest)

pub held_open : (held : List (Held Ticket)) (seens : List (Seen Ticket)) (calls : List Call) (index : ℕ) (seen : Seen Ticket) → AreAt held seens → slice_get seens index ≡ Some seen → LinksStand held calls → is_open seen.link calls ≡ true
held_open held seens calls index seen at there links =
    some_opened (is_open seen.link calls) (times seen.link (links_of held)) (links.opened seen.link) (subst (λ (l : List ℕ). 0 < times seen.link l) (sym (at_links held seens at)) (has_times index seens seen there))

-- From no handle to none, all links are kept.

no_calls : (call : Call) (calls : List Call) → [] ≡ call ∷ calls → ⊥
no_calls call calls e = cc

unused : UseOpenLinks []
unused link [] after call is uses = absurd (no_calls call after is)
unused link (first ∷ before) after call is uses = absurd (no_calls first (before ++ call ∷ after) is)

pub links_begin : (held : List (Held Ticket)) (told : Option (List Call)) → held ≡ [] → Told told told (LinksStand held)
links_begin held told none = subst (λ (l : List (Held Ticket)). Told told told (LinksStand l)) (sym none) (told_begins told (record { used = unused; opened = λ link. refl; none = refl }))

pub links_kept : (to : List Target) (held held2 : List (Held Ticket)) (a b c : Option (List Call)) → held ≡ [] → LinksGo to held a held2 b → LinksGo [] held2 b [] c → GrewBy LinksAreKept a c
links_kept to held held2 a b c none one two =
    told_part a c (told_map a c (λ calls stand. record { used = stand.used; shut = λ link. shut (is_open link calls) (stand.opened link); none = stand.none })
    (two.on a (one.on a (links_begin held a none))))
  where
    shut : (b : Bool) → 0 ≡ once_if b → b ≡ false
    shut true e = absurd (omega (arith, e))
    shut false e = refl

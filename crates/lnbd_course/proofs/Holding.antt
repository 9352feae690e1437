-- Handles begin, turn and are taken out.
use Rattle.std.proofs.Common.{◌≡◌, ◌≢◌, ◌⊎◌, inl, inr, ℕ, zero, suc, ◌+◌, Bool, true, false, ◌||◌, cond, not, ◌<◌, if◌then◌else◌, List, [], ◌∷◌, ◌++◌, Option, Some, None, slice_get, take, drop, refl, ap, sym, subst, ◌∙◌, arith, nat_le}
use Rattle.std.proofs.lemmas.Bool.{cases_eq, eq-eqb, false≢true, ne_eqb}
use Rattle.lnbd_model.specs.declared.target.Target.{Target}
use Rattle.lnbd_link.specs.Call as wire
use Rattle.lnbd_link.specs.Numbers.{is_given}
use Rattle.lnbd_link.proofs.Openings.{is_given-append}
use Rattle.lnbd_machine.specs.Machine.{Machine}
use Rattle.lnbd_standing.specs.Standing.{StandsFor}
use Rattle.lnbd_history.specs.Commands.{Command}
use Rattle.lnbd_history.specs.Events.{History}
use Rattle.lnbd_asked.specs.Driven.{DrivenSays, written}
use Rattle.lnbd_asked.specs.Link.{Nobody}
use Rattle.lnbd_asked.specs.Transcript.{on_link}
use Rattle.lnbd_poll.specs.Alone.{AreApart, calls_on}
use Rattle.lnbd_poll.specs.Seen.{Seen}
use Rattle.lnbd_poll.specs.Turns.{Turns, Whole}
use Rattle.lnbd_drives.specs.Driving.{DriveOwnLinks, new_on}
use Rattle.lnbd_drives.proofs.Calling.{taken_drive, new_drive}
use Rattle.lnbd_drives.proofs.Passing.{both_off, said_stays}
use Rattle.lnbd_drives.proofs.Saying.{driven_said}
use Rattle.lnbd_drives.proofs.Turning.{passing_calls_drive, other_calls_pass, turns_drive, turns_pass_others}
use Rattle.lnbd_spoken.specs.Driven.{IsDriven}
use Rattle.lnbd_plan.specs.declared.grid.Slice.{Slice}
use Rattle.lnbd_board.specs.declared.how.How.{How}
use Rattle.lnbd_board.specs.declared.row.Row.{Row}
use Rattle.lnbd_board.specs.declared.ticket.Ticket.{Ticket}
use Rattle.lnbd_board.specs.Files as board
use Rattle.lnbd_board.specs.declared.ticket.Ticket.TheVariants as ticket
use Rattle.lnbd_board.specs.Requests.{Request}
use Rattle.lnbd_board.specs.Rows.{Stands, AsksOfDestination}
use Rattle.lnbd_board.proofs.Lists.{Each-map}
use Rattle.lnbd_board.proofs.Turning.{nothing_stands}
use Rattle.lnbd_tracks.specs.Tracks.{Histories}
use Rattle.lnbd_tracks.proofs.Sides.{nothing_tracks}
use Rattle.lnbd_course.specs.Course.{Course, CourseOf, Stood, AllHave, on_side, beside, with_link}
use Rattle.lnbd_course.specs.Laws.{NothingIsOnCourse, OpensOnCourse, SettlingKeeps, TurnsKeep, CallsKeep, TakingKeeps}
use Rattle.lnbd_course.proofs.Asking.{moves_on}
use Rattle.lnbd_course.proofs.Counting.{nothing_counted}
use Rattle.lnbd_course.proofs.Driving.{nothing_driven, driven_stays, handle_drove}
use Rattle.lnbd_course.proofs.Standing.{Same, same_track, event_stood, quiet_stood}
use Rattle.lnbd_course.proofs.Turning.{steps, Turned, turns_all}

-- The beginning.

abbrev pub no_history : Histories
no_history link = []

pub none_on : (has : ℕ → Bool) → Same (on_side has no_history) (λ link. [])
none_on has link = go (has link)
  where
    go : (b : Bool) → (let none : History Ticket = [] in if b then none else none) ≡ []
    go true = refl
    go false = refl

pub says_nothing : DrivenSays {K = Ticket} [] (on_link 0 [])
says_nothing = record { requests = λ c. nothing_asked (nat_le c (written {K = Ticket} [])); outcomes = λ c low. refl; size = λ e. refl; zero = λ c p low. refl }
  where
    nothing_asked : (b : Bool) → None ≡ (let none : Option (Command Nobody) = None in if b then none else None)
    nothing_asked true = refl
    nothing_asked false = refl

-- with the facts that stand of it
abbrev pub begins_course : (Facts : board.Seen → Histories → Type 0) (now : board.Seen) → Facts now no_history → CourseOf Facts now [] []
begins_course Facts now stood = record {
  histories = no_history;
  held = tt;
  drive = record { own = tt; drive = tt; plain = tt };
  parted = λ link apart. says_nothing;
  unused = λ link new. record { apart = tt; quiet = refl; blank = refl };
  stood = stood;
  driven = λ link apart. nothing_driven link;
}

unfoldable pub nothing_is_on_course : NothingIsOnCourse
nothing_is_on_course how has now none uncounted = begins_course (Stood how has []) now (record {
  source = [];
  destination = [];
  reads = same_track (on_side has no_history) (λ link. []) [] (none_on has) nothing_tracks;
  changes = same_track (on_side (beside has) no_history) (λ link. []) [] (none_on (beside has)) nothing_tracks;
  stands = λ e. subst (λ (rows : List (ℕ × Row)). Stands how [] rows [] []) (sym none) (nothing_stands how);
  counted = nothing_counted how [] now [] [] (nothing_stands how) refl uncounted;
  flushed = λ none told. absurd (false≢true (sym uncounted.flushed ∙ told));
})

-- Numbers that are given stay so.
first_not : (a b : Bool) → (a || b) ≡ false → a ≡ false
first_not true b e = e
first_not false b e = refl

pub not_before : (link : ℕ) (calls more : List wire.Call) → is_given link (calls ++ more) ≡ false → is_given link calls ≡ false
not_before link calls more e = first_not (is_given link calls) (is_given link more) (sym (is_given-append link calls more) ∙ e)

-- Calls that read and write no link.

abbrev pub calls_pass : (Facts : board.Seen → Histories → Type 0) (now : board.Seen) (calls more : List wire.Call) (seens : List (Seen Ticket)) → CourseOf Facts now calls seens →
    ((link : ℕ) → calls_on link more ≡ []) → CourseOf Facts now (calls ++ more) seens
calls_pass Facts now calls more seens c none = record {
  histories = c.histories;
  held = c.held;
  drive = passing_calls_drive calls more seens c.drive (other_calls_pass more seens none);
  parted = λ link apart. subst (DrivenSays (c.histories link)) (sym (said_stays link calls more (none link))) (c.parted link apart);
  unused = λ link new.
      let u = c.unused link (not_before link calls more new) in
      record { apart = u.apart; quiet = both_off link calls more u.quiet (none link); blank = u.blank };
  stood = c.stood;
  driven = λ link apart. driven_stays link calls more (none link) (c.driven link apart);
}

unfoldable pub calls_keep : CallsKeep
calls_keep how has slices now calls more seens c none = calls_pass (Stood how has slices) now calls more seens c none

-- A turn.

-- after a turn in which the others had their histories
abbrev pub turned_on : (Facts Facts' : board.Seen → Histories → Type 0) (now now' : board.Seen) (calls part : List wire.Call) (before after : List (Seen Ticket)) (moved : Option ℕ)
    (c : CourseOf Facts now calls before) → Turns steps before now part after now' (Whole moved) →
    (S : board.Seen → Histories → Type 0) → Turned S before after now' c.histories → ((histories : Histories) → S now' histories → Facts' now' histories) → CourseOf Facts' now' (calls ++ part) after
turned_on Facts Facts' now now' calls part before after moved c turns S t stood = record {
  histories = t.histories;
  held = t.held;
  drive = turns_drive steps calls part before after now now' moved c.drive turns;
  parted = λ link apart.
      let was = t.was_apart link apart in
      let none = turns_pass_others steps link part before after now now' (Whole moved) was turns in
      subst (λ h. DrivenSays h (on_link link (calls ++ part))) (sym (t.others link was)) (subst (DrivenSays (c.histories link)) (sym (said_stays link calls part none)) (c.parted link was));
  unused = λ link new.
      let u = c.unused link (not_before link calls part new) in
      record {
        apart = t.apart link u.apart;
        quiet = both_off link calls part u.quiet (turns_pass_others steps link part before after now now' (Whole moved) u.apart turns);
        blank = t.others link u.apart ∙ u.blank;
      };
  stood = stood t.histories t.stood;
  driven = λ link apart.
      let was = t.was_apart link apart in
      driven_stays link calls part (turns_pass_others steps link part before after now now' (Whole moved) was turns) (c.driven link was);
}

unfoldable pub turned_keeps : (how : How) (has : ℕ → Bool) (slices : List Slice) (now now' : board.Seen) (calls part : List wire.Call) (before after : List (Seen Ticket)) (moved : Option ℕ)
    (c : Course how has slices now calls before) → Turns steps before now part after now' (Whole moved) →
    (S : board.Seen → Histories → Type 0) → Turned S before after now' c.histories → ((histories : Histories) → S now' histories → Stood how has slices now' histories) →
    Course how has slices now' (calls ++ part) after
turned_keeps how has slices now now' calls part before after moved c turns S t stood = turned_on (Stood how has slices) (Stood how has slices) now now' calls part before after moved c turns S t stood

unfoldable pub turns_keep : TurnsKeep
turns_keep how has slices now now' calls part before after moved c turns =
    let S : board.Seen → Histories → Type 0 = Stood how has slices in
    turned_keeps how has slices now now' calls part before after moved c turns S
    (turns_all S (event_stood how has slices) (quiet_stood how has slices) before now part after now' (Whole moved) c.histories turns c.drive.own c.held c.stood) (λ histories s. s)

-- A handle is taken out.

-- without the element of this index
abbrev pub removed : {A : Type 0} → ℕ → List A → List A
removed index [] = []
removed zero (x ∷ xs) = xs
removed (suc index) (x ∷ xs) = x ∷ removed index xs

none_dropped : {A : Type 0} (n : ℕ) → drop {A = A} n [] ≡ []
none_dropped zero = refl
none_dropped (suc n) = refl

all_kept : {A : Type 0} (xs : List A) → drop 0 xs ≡ xs
all_kept [] = refl
all_kept (x ∷ xs) = refl

one_more : (n : ℕ) → suc (n + 1) ≡ suc n + 1
one_more n = omega arith

pub take_drop : {A : Type 0} (index : ℕ) (xs : List A) → removed index xs ≡ take index xs ++ drop (index + 1) xs
take_drop zero [] = refl
take_drop (suc index) [] = sym (none_dropped (suc index + 1))
take_drop zero (x ∷ xs) = sym (all_kept xs)
take_drop (suc index) (x ∷ xs) = ap (λ ys. x ∷ ys) (take_drop index xs) ∙ ap (λ n. x ∷ (take index xs ++ drop n (x ∷ xs))) (one_more index)

pub removed_have : (index : ℕ) (histories : Histories) (seens : List (Seen Ticket)) → AllHave histories seens → AllHave histories (removed index seens)
removed_have index histories [] have = tt
removed_have zero histories (seen ∷ others) have = have.1
removed_have (suc index) histories (seen ∷ others) have = (have.0, removed_have index histories others have.1)

pub none_some : (one : Seen Ticket) → None ≡ Some one → ⊥
none_some one e = cc

pub some_same : (one other : Seen Ticket) → Some one ≡ Some other → one ≡ other
some_same one other e = cc

-- the history of one of them
pub one_has : (index : ℕ) (seen : Seen Ticket) (histories : Histories) (seens : List (Seen Ticket)) → slice_get seens index ≡ Some seen → AllHave histories seens → histories seen.link ≡ seen.history
one_has index seen histories [] there have = absurd (none_some seen there)
one_has zero seen histories (first ∷ others) there have = subst (λ (s : Seen Ticket). histories s.link ≡ s.history) (some_same first seen there) have.0
one_has (suc index) seen histories (first ∷ others) there have = one_has index seen histories others there have.1

-- A link that is apart from the others is apart from all, or it is the one that was taken.
abbrev pub IsTakenOr : ℕ → Seen Ticket → List (Seen Ticket) → Type 0
IsTakenOr link seen seens = (link ≢ seen.link) → AreApart link seens

pub apart_or : (link index : ℕ) (seen : Seen Ticket) (seens : List (Seen Ticket)) → slice_get seens index ≡ Some seen → AreApart link (removed index seens) → IsTakenOr link seen seens
apart_or link index seen [] there apart differ = tt
apart_or link zero seen (first ∷ others) there apart differ = ((λ e. differ (sym e ∙ ap (λ (s : Seen Ticket). s.link) (some_same first seen there))), apart)
apart_or link (suc index) seen (first ∷ others) there apart differ = (apart.0, apart_or link index seen others there apart.1 differ)

pub removed_apart : (link index : ℕ) (seens : List (Seen Ticket)) → AreApart link seens → AreApart link (removed index seens)
removed_apart link index [] apart = tt
removed_apart link zero (seen ∷ others) apart = apart.1
removed_apart link (suc index) (seen ∷ others) apart = (apart.0, removed_apart link index others apart.1)

pub removed_says : (Facts : board.Seen → Histories → Type 0) (now : board.Seen) (calls : List wire.Call) (seens : List (Seen Ticket)) (index : ℕ) (seen : Seen Ticket) (limit : ℕ)
    (handle : Machine Ticket) → (c : CourseOf Facts now calls seens) → slice_get seens index ≡ Some seen → StandsFor limit seen.history handle →
    (link : ℕ) → AreApart link (removed index seens) → DrivenSays (c.histories link) (on_link link calls)
removed_says Facts now calls seens index seen limit handle c there stands link apart = by (cases_eq link seen.link)
  where
    taken : DrivenSays (c.histories seen.link) (on_link seen.link calls)
    taken = subst (λ h. DrivenSays h (on_link seen.link calls)) (sym (one_has index seen c.histories seens there c.held)) (driven_said limit calls seens index seen handle c.drive there stands)

    by : (link ≡ seen.link) ⊎ (link ≡ seen.link → ⊥) → DrivenSays (c.histories link) (on_link link calls)
    by (inl is) = subst (λ (n : ℕ). DrivenSays (c.histories n) (on_link n calls)) (sym is) taken
    by (inr differ) = c.parted link (apart_or link index seen seens there apart differ)

pub removed_driven : (Facts : board.Seen → Histories → Type 0) (now : board.Seen) (calls : List wire.Call) (seens : List (Seen Ticket)) (index : ℕ) (seen : Seen Ticket) (limit : ℕ)
    (handle : Machine Ticket) → CourseOf Facts now calls seens → slice_get seens index ≡ Some seen → StandsFor limit seen.history handle →
    (link : ℕ) → AreApart link (removed index seens) → IsDriven Ticket link calls
removed_driven Facts now calls seens index seen limit handle c there stands link apart = by (cases_eq link seen.link)
  where
    by : (link ≡ seen.link) ⊎ (link ≡ seen.link → ⊥) → IsDriven Ticket link calls
    by (inl is) = subst (λ (n : ℕ). IsDriven Ticket n calls) (sym is) (handle_drove limit calls seens index seen handle c.drive there stands)
    by (inr differ) = c.driven link (apart_or link index seen seens there apart differ)

unfoldable pub removed_keeps : (Facts : board.Seen → Histories → Type 0) (now : board.Seen) (calls : List wire.Call) (seens : List (Seen Ticket)) (index : ℕ) (seen : Seen Ticket) (limit : ℕ)
    (handle : Machine Ticket) →
    CourseOf Facts now calls seens → slice_get seens index ≡ Some seen → StandsFor limit seen.history handle → CourseOf Facts now calls (removed index seens)
removed_keeps Facts now calls seens index seen limit handle c there stands = record {
  histories = c.histories;
  held = removed_have index c.histories seens c.held;
  drive = subst (DriveOwnLinks calls) (sym (take_drop index seens)) (taken_drive calls seens index c.drive);
  parted = removed_says Facts now calls seens index seen limit handle c there stands;
  unused = λ link new.
      let u = c.unused link new in
      record { apart = removed_apart link index seens u.apart; quiet = u.quiet; blank = u.blank };
  stood = c.stood;
  driven = removed_driven Facts now calls seens index seen limit handle c there stands;
}

pub taking_keeps : TakingKeeps
taking_keeps how has slices now calls seens index seen limit handle c there stands =
    subst (Course how has slices now calls) (take_drop index seens) (removed_keeps (Stood how has slices) now calls seens index seen limit handle c there stands)

-- A handle begins.

pub new_have : (link : ℕ) (histories : Histories) (seens : List (Seen Ticket)) → histories link ≡ [] → AllHave histories seens → AllHave histories (seens ++ new_on link ∷ [])
new_have link histories [] blank have = (blank, tt)
new_have link histories (seen ∷ others) blank have = (have.0, new_have link histories others blank have.1)

pub new_apart : (n link : ℕ) (seens : List (Seen Ticket)) → link ≢ n → AreApart n seens → AreApart n (seens ++ new_on link ∷ [])
new_apart n link [] differ apart = (differ, tt)
new_apart n link (seen ∷ others) differ apart = (apart.0, new_apart n link others differ apart.1)

pub old_apart : (n link : ℕ) (seens : List (Seen Ticket)) → AreApart n (seens ++ new_on link ∷ []) → AreApart n seens
old_apart n link [] apart = tt
old_apart n link (seen ∷ others) apart = (apart.0, old_apart n link others apart.1)

-- the number that a connect gave is given
second_not : (a b : Bool) → (a || b) ≡ false → b ≡ false
second_not true b e = absurd (false≢true (sym e))
second_not false b e = e

pub other_given : (n link : ℕ) (calls : List wire.Call) (to : Target) → is_given n (calls ++ wire.Connect to (Some link) ∷ []) ≡ false → link ≢ n
other_given n link calls to e same =
    let last = second_not (is_given n calls) (is_given n (wire.Connect to (Some link) ∷ [])) (sym (is_given-append n calls (wire.Connect to (Some link) ∷ [])) ∙ e) in
    false≢true (sym last ∙ ap (λ (b : Bool). b || false) (eq-eqb link n same))

-- On which side a link is on which nothing happened is no matter.
pub same_side : (has : ℕ → Bool) (histories : Histories) (link : ℕ) (source : Bool) → histories link ≡ [] → Same (on_side (with_link link source has) histories) (on_side has histories)
same_side has histories link source blank other = go (cases_eq link other)
  where
    either : (b : Bool) (h : History Ticket) → h ≡ [] → (let none : History Ticket = [] in if b then h else none) ≡ []
    either true h e = e
    either false h e = refl

    go : (link ≡ other) ⊎ (link ≡ other → ⊥) → on_side (with_link link source has) histories other ≡ on_side has histories other
    go (inl same) =
        let none : histories other ≡ [] = subst (λ (n : ℕ). histories n ≡ []) same blank in
        either (with_link link source has other) (histories other) none ∙ sym (either (has other) (histories other) none)
    go (inr differ) = ap (λ (b : Bool). let none : History Ticket = [] in if (if b then source else has other) then histories other else none) (ne_eqb link other differ)

pub same_beside : (has : ℕ → Bool) (histories : Histories) (link : ℕ) (source : Bool) → histories link ≡ [] → Same (on_side (beside (with_link link source has)) histories) (on_side (beside has) histories)
same_beside has histories link source blank other = go (cases_eq link other)
  where
    either : (b : Bool) (h : History Ticket) → h ≡ [] → (let none : History Ticket = [] in if b then h else none) ≡ []
    either true h e = e
    either false h e = refl

    go : (link ≡ other) ⊎ (link ≡ other → ⊥) → on_side (beside (with_link link source has)) histories other ≡ on_side (beside has) histories other
    go (inl same) =
        let none : histories other ≡ [] = subst (λ (n : ℕ). histories n ≡ []) same blank in
        either (beside (with_link link source has) other) (histories other) none ∙ sym (either (beside has other) (histories other) none)
    go (inr differ) = ap (λ (b : Bool). let none : History Ticket = [] in if not (if b then source else has other) then histories other else none) (ne_eqb link other differ)

-- with the facts that stand then
abbrev pub opens_course : (Facts Facts' : board.Seen → Histories → Type 0) (now : board.Seen) (calls : List wire.Call) (seens : List (Seen Ticket)) (to : Target) (link : ℕ)
    (c : CourseOf Facts now calls seens) → is_given link calls ≡ false → Facts' now c.histories →
    CourseOf Facts' now (calls ++ wire.Connect to (Some link) ∷ []) (seens ++ new_on link ∷ [])
opens_course Facts Facts' now calls seens to link c new stood =
    let k = calls_pass Facts now calls (wire.Connect to (Some link) ∷ []) seens c (λ n. refl) in
    let u = c.unused link new in
    record {
      histories = c.histories;
      held = new_have link c.histories seens u.blank c.held;
      drive = new_drive (calls ++ wire.Connect to (Some link) ∷ []) seens link k.drive u.apart (both_off link calls (wire.Connect to (Some link) ∷ []) u.quiet refl);
      parted = λ n apart. k.parted n (old_apart n link seens apart);
      unused = λ n free.
          let v = k.unused n free in
          record { apart = new_apart n link seens (other_given n link calls to free) v.apart; quiet = v.quiet; blank = v.blank };
      stood = stood;
      driven = λ n apart. k.driven n (old_apart n link seens apart);
    }

unfoldable pub opens_on_course : OpensOnCourse
opens_on_course how has slices now calls seens to link source c new =
    let u = c.unused link new in
    opens_course (Stood how has slices) (Stood how (with_link link source has) slices) now calls seens to link c new (record {
      source = c.stood.source;
      destination = c.stood.destination;
      reads = same_track (on_side (with_link link source has) c.histories) (on_side has c.histories) c.stood.source (same_side has c.histories link source u.blank) c.stood.reads;
      changes = same_track (on_side (beside (with_link link source has)) c.histories) (on_side (beside has) c.histories) c.stood.destination
          (same_beside has c.histories link source u.blank) c.stood.changes;
      stands = c.stood.stands;
      counted = c.stood.counted;
      flushed = c.stood.flushed;
    })

-- Before any slice is begun it is no matter how a copy writes.

asks_so : (how how' : How) (by : Ticket) (command : Command Nobody) → AsksOfDestination how [] by command → AsksOfDestination how' [] by command
asks_so how how' (ticket.Slice n) command asks = absurd (none_below n asks.1.begun)
  where
    none_below : (n : ℕ) → n < 0 → ⊥
    none_below n l = omega (arith, l)
asks_so how how' ticket.Extents command asks = asks
asks_so how how' ticket.Flush command asks = asks

pub stands_so : (how how' : How) (source destination : List Request) → Stands how [] [] source destination → Stands how' [] [] source destination
stands_so how how' source destination s = record {
  each = λ i l. absurd (none_below i l);
  reads = s.reads;
  changes = Each-map (λ r asks. asks_so how how' r.ticket r.said.command asks) destination s.changes;
  rising = s.rising;
  below = s.below;
  counted = s.counted;
}
  where
    none_below : (n : ℕ) → n < 0 → ⊥
    none_below n l = omega (arith, l)

unfoldable pub settling_keeps : SettlingKeeps
settling_keeps how how' has now now' calls seens c none well unflushed none' uncounted = moves_on (Stood how has []) (Stood how' has []) now now' calls seens c (record {
  source = c.stood.source;
  destination = c.stood.destination;
  reads = c.stood.reads;
  changes = c.stood.changes;
  stands = λ e. subst (λ (rows : List (ℕ × Row)). Stands how' [] rows c.stood.source c.stood.destination) (sym none')
      (stands_so how how' c.stood.source c.stood.destination (subst (λ (rows : List (ℕ × Row)). Stands how [] rows c.stood.source c.stood.destination) none (c.stood.stands well)));
  counted = nothing_counted how now.rows now' c.stood.source c.stood.destination (c.stood.stands well) (c.stood.counted.flushes ∙ ap (λ (b : Bool). cond b 1 0) unflushed) uncounted;
  flushed = λ none told. absurd (false≢true (sym uncounted.flushed ∙ told));
})

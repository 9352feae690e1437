-- A buffer is taken record by record.
use Rattle.std.proofs.Common.{◌≡◌, ◌⊎◌, ℕ, ◌+◌, ◌-◌, ◌<◌, ◌≤◌, true, false, List, [], ◌++◌, length, take, drop, Option, None, refl, ap, sym, ◌∙◌, subst, arith, inl, inr}
use Rattle.std.proofs.lemmas.Bool.{false≢true, cases_lt}
use Rattle.std.proofs.lemmas.List.{take-append-drop, take_all, drop_all, length-take-le, length-take, take-append-le, length-append, length-drop, drop-drop}
use Rattle.std.proofs.Math.Seq.{take-append-add}
use Rattle.lnbd_stream.specs.Stream.{fresh, feed}
use Rattle.lnbd_stream.proofs.Stream.{feed-append, feed_take, feed_none, front_none}
use Rattle.lnbd_callbacks.specs.Calls.{Call}
use Rattle.lnbd_history.specs.Events.{Answer}
use Rattle.lnbd_history.proofs.Steady.{none_at}
use Rattle.lnbd_machine.specs.Machine.{Machine, Doing, sight, waited, table_rules}
use Rattle.lnbd_machine.specs.Laws.{IsPartial}
use Rattle.lnbd_machine.proofs.Partial.{table_steady}
use Rattle.lnbd_handle.proofs.FrontLemmas.{shows}
use Rattle.lnbd_handle.specs.declared.connection.Connection.{Connection}
use Rattle.lnbd_handle.specs.declared.kinds.Taken.{Taken}
use Rattle.lnbd_arrivals.specs.Frames.{front_size}
use Rattle.lnbd_arrivals.specs.declared.announced.Announced.{Announced}
use Rattle.lnbd_arrivals.proofs.Fronts.{least_front}
use Rattle.lnbd_handle.specs.Announcing.{announced_by_front, replies_in}
use Rattle.lnbd_handle.specs.Runs.{doing, under, Runs}
use Rattle.lnbd_handle.specs.Seen.{state_of, machine_of}
use Rattle.lnbd_handle.specs.Turns.{arriving, ShowsNothing, Drained}
use Rattle.lnbd_handle.proofs.AnnouncedLemmas.{short_none}
use Rattle.lnbd_handle.proofs.RunLemmas.{runs_none, runs_join, runs_as}

module _ {K World : Type 0} (steps : World → List (Call K) → World → Type 0) (none : (w : World) → steps w [] w) (join : (a b c : World) (first second : List (Call K)) → steps a first b → steps b second c → steps a (first ++ second) c) where
  pub start_walk : (old : Connection K) (first : World) → Runs steps (arriving []) (machine_of old []) (machine_of old []) first first
  start_walk old first = runs_none steps none (arriving []) (machine_of old []) (machine_of old []) first first refl (λ more made. refl)

  -- What was taken so far, and then the next bytes.
  pub walk_on : (old now new : Machine K) (first half end : World) (buffer : List ℕ) (used n : ℕ) → Runs steps (arriving (take used buffer)) old now first half → Runs steps (arriving (take n (drop used buffer))) now new half end →
      Runs steps (arriving (take (used + n) buffer)) old new first end
  walk_on old now new first half end buffer used n so_far one = runs_as steps (λ h. arriving (take n (drop used buffer)) (arriving (take used buffer) h)) (arriving (take (used + n) buffer)) old new first end
      (λ more made. feed_take (table_rules {K = K}) (under old more made) used n buffer)
      (runs_join steps join (arriving (take used buffer)) (arriving (take n (drop used buffer))) old now new first half end so_far one)

  module _ (old now new : Connection K) (first half end : World) (buffer : List ℕ) (used : ℕ) (within : used ≤ length buffer) (so_far : Runs steps (arriving (take used buffer)) (machine_of old []) (machine_of now []) first half) where
    pub walk_more : (n : ℕ) → Runs steps (arriving (take n (drop used buffer))) (machine_of now []) (machine_of new []) half end → Runs steps (arriving (take (used + n) buffer)) (machine_of old []) (machine_of new []) first end
    walk_more n one = walk_on (machine_of old []) (machine_of now []) (machine_of new []) first half end buffer used n so_far one

    pub drained_nothing : (announced : Option Announced) → new ≡ now → end ≡ half → ShowsNothing (state_of new) (drop used buffer) → announced ≡ announced_by_front (state_of new) (drop used buffer) → Drained steps old first buffer (record { used = used; short = false; announced = announced }) new end
    drained_nothing announced same idle shown says = record {
      within = within;
      so_far = subst (λ n. Runs steps (arriving (take used buffer)) (machine_of old []) (machine_of n []) first end) (sym same) (subst (λ w. Runs steps (arriving (take used buffer)) (machine_of old []) (machine_of now []) first w) (sym idle) so_far);
      rest = λ _. shown;
      announces = λ _. says;
    }

    pub drained_end : new ≡ now → end ≡ half → length buffer ≤ used → Drained steps old first buffer (record { used = used; short = false; announced = None }) new end
    drained_end same idle over =
        let low = least_front (replies_in (state_of new)) in
        drained_nothing None same idle (subst (ShowsNothing (state_of new)) (sym (drop_all used buffer over)) (none_at new.stage (sight (state_of new)) (waited (state_of new))))
        (sym (short_none (state_of new) _ (omega (arith, low, over, length-take (front_size (replies_in (state_of new))) (drop used buffer), length-drop used buffer))))

    pub drained_all : Runs steps (arriving (drop used buffer)) (machine_of now []) (machine_of new []) half end → Drained steps old first buffer (record { used = length buffer; short = false; announced = None }) new end
    drained_all one = record {
      within = omega arith;
      so_far = runs_as steps (λ h. arriving (drop used buffer) (arriving (take used buffer) h)) (arriving (take (length buffer) buffer)) (machine_of old []) (machine_of new []) first end
          (λ more made. ap (feed (table_rules {K = K}) (under (machine_of old []) more made)) (take_all (length buffer) buffer (omega arith) ∙ sym (take-append-drop used buffer))
          ∙ feed-append (table_rules {K = K}) (under (machine_of old []) more made) (take used buffer) (drop used buffer))
          (runs_join steps join (arriving (take used buffer)) (arriving (drop used buffer)) (machine_of old []) (machine_of now []) (machine_of new []) first half end so_far one);
      rest = λ _. subst (ShowsNothing (state_of new)) (sym (drop_all (length buffer) buffer (omega arith))) (none_at new.stage (sight (state_of new)) (waited (state_of new)));
      announces = λ _. sym (short_none (state_of new) _ (let low = least_front (replies_in (state_of new)) in omega (arith, low, length-take (front_size (replies_in (state_of new))) (drop (length buffer) buffer), length-drop (length buffer) buffer)));
    }

    pub drained_short : state_of new ≡ state_of now → end ≡ half → Drained steps old first buffer (record { used = used; short = true; announced = None }) new end
    drained_short same idle = record {
      within = within;
      so_far = subst (λ s. Runs steps (arriving (take used buffer)) (machine_of old []) (record { known = s; pending = [] }) first end) (sym same) (subst (λ w. Runs steps (arriving (take used buffer)) (machine_of old []) (machine_of now []) first w) (sym idle) so_far);
      rest = λ e. absurd (false≢true (sym e));
      announces = λ e. absurd (false≢true (sym e));
    }

  -- What was drained, over plain values.
  module _ (old new : Connection K) (first end : World) (buffer : List ℕ) (taken : Taken) (d : Drained steps old first buffer taken new end) where
    pub drained_whole : taken.short ≡ false → Runs steps (arriving buffer) (machine_of old []) (machine_of new (drop taken.used buffer)) first end
    drained_whole all = record {
      answers = d.so_far.answers;
      calls = d.so_far.calls;
      world = d.so_far.world;
      does = λ more made.
          ap (feed (table_rules {K = K}) (under (machine_of old []) (d.so_far.answers ++ more) made)) (sym (take-append-drop taken.used buffer))
          ∙ feed-append (table_rules {K = K}) (under (machine_of old []) (d.so_far.answers ++ more) made) (take taken.used buffer) (drop taken.used buffer)
          ∙ ap (λ h. feed (table_rules {K = K}) h (drop taken.used buffer)) (d.so_far.does more made)
          ∙ feed_none (table_rules {K = K}) table_steady (doing (state_of new) more (made ++ d.so_far.calls)) [] (drop taken.used buffer) (d.rest all);
    }

  -- Behind bytes that are held, which show nothing yet.
  module _ (old : Connection K) (held : List ℕ) (partial : IsPartial (machine_of old held)) where
    -- The bytes that are held are fed again.
    again : (answers : List Answer) (made : List (Call K)) (more : List ℕ) → feed (table_rules {K = K}) (fresh (doing (state_of old) answers made)) (held ++ more) ≡ feed (table_rules {K = K}) (under (machine_of old held) answers made) more
    again answers made more = feed-append (table_rules {K = K}) (fresh (doing (state_of old) answers made)) held more
        ∙ ap (λ h. feed (table_rules {K = K}) h more) (feed_none (table_rules {K = K}) table_steady (doing (state_of old) answers made) [] held partial)

    module _ (new : Machine K) (first end : World) where
      runs_behind : (buffer more : List ℕ) → buffer ≡ held ++ more → Runs steps (arriving buffer) (machine_of old []) new first end → Runs steps (arriving more) (machine_of old held) new first end
      runs_behind buffer more joined r = record {
        answers = r.answers;
        calls = r.calls;
        world = r.world;
        does = λ later made. sym (again (r.answers ++ later) made more) ∙ ap (feed (table_rules {K = K}) (under (machine_of old []) (r.answers ++ later) made)) (sym joined) ∙ r.does later made;
      }

      module _ (n : ℕ) (buffer front : List ℕ) (joined : buffer ≡ held ++ front) (some : 0 < n) (within : n ≤ length buffer) (empty : new.pending ≡ []) (runs : Runs steps (arriving (take n buffer)) (machine_of old []) new first end) where
        -- A record ends behind what is held.
        pub past : length held ≤ n
        past = go (cases_lt n (length held))
          where
            go : (n < length held) ⊎ (length held ≤ n) → length held ≤ n
            go (inr late) = late
            go (inl early) =
                let known : Doing K = doing (state_of old) (runs.answers ++ []) [] in
                let begun : take n buffer ≡ take n held = ap (take n) joined ∙ take-append-le n held front (omega arith) in
                let shown : shows known (take n held) ≡ None = front_none (table_rules {K = K}) table_steady known (take n held) (drop n held) (ap (shows known) (take-append-drop n held) ∙ partial) in
                let fed = feed_none (table_rules {K = K}) table_steady known [] (take n held) shown in
                let none : take n held ≡ [] = ap (λ h. h.pending) (sym (ap (feed (table_rules {K = K}) (fresh known)) begun ∙ fed) ∙ runs.does [] []) ∙ empty in
                absurd (omega (arith, some, ap length none, length-take-le n held (omega arith)))

        pub past_within : n - length held ≤ length front
        past_within = omega (arith, within, ap length joined, length-append held front)

        pub past_runs : Runs steps (arriving (take (n - length held) front)) (machine_of old held) new first end
        past_runs =
            let fits = past in
            let sum : n ≡ length held + (n - length held) = omega (arith, fits) in
            runs_behind (take n buffer) (take (n - length held) front) (ap (take n) joined ∙ ap (λ k. take k (held ++ front)) sum ∙ take-append-add held front (n - length held)) runs

      -- All is taken.
      pub all_runs : (buffer front : List ℕ) → buffer ≡ held ++ front → Runs steps (arriving buffer) (machine_of old []) new first end → Runs steps (arriving (take (length front) front)) (machine_of old held) new first end
      all_runs buffer front joined r = subst (λ b. Runs steps (arriving b) (machine_of old held) new first end) (sym (take_all (length front) front (omega arith))) (runs_behind buffer front joined r)

    -- They show nothing with what comes either.
    pub held_runs : (new : Connection K) (first end : World) (buffer front : List ℕ) → new ≡ old → end ≡ first → buffer ≡ held ++ front → ShowsNothing (state_of new) buffer → Runs steps (arriving front) (machine_of old held) (machine_of new buffer) first end
    held_runs new first end buffer front same idle joined shown = subst (λ c. Runs steps (arriving front) (machine_of old held) (machine_of c buffer) first end) (sym same)
        (runs_none steps none (arriving front) (machine_of old held) (machine_of old buffer) first end idle
        (λ more made. feed_none (table_rules {K = K}) table_steady (doing (state_of old) more made) held front (subst (λ b. ShowsNothing (state_of old) b) joined (subst (λ c. ShowsNothing (state_of c) buffer) same shown))
        ∙ ap (λ b. under (machine_of old b) more made) (sym joined)))

  -- What was taken so far, and then all of the rest, or so many bytes of it.
  module _ (old middle new : Machine K) (first half end : World) (bytes : List ℕ) (used : ℕ) (so_far : Runs steps (arriving (take used bytes)) old middle first half) where
    pub arrives_all : (rest : List ℕ) → rest ≡ drop used bytes → Runs steps (arriving rest) middle new half end → Runs steps (arriving bytes) old new first end
    arrives_all rest is r = runs_as steps (λ h. arriving rest (arriving (take used bytes) h)) (arriving bytes) old new first end
        (λ more made. ap (feed (table_rules {K = K}) (under old more made)) (sym (take-append-drop used bytes) ∙ ap (λ b. take used bytes ++ b) (sym is)) ∙ feed-append (table_rules {K = K}) (under old more made) (take used bytes) rest)
        (runs_join steps join (arriving (take used bytes)) (arriving rest) old middle new first half end so_far r)

    pub arrives_some : (rest : List ℕ) (n : ℕ) → rest ≡ drop used bytes → Runs steps (arriving (take n rest)) middle new half end → Runs steps (arriving (take (used + n) bytes)) old new first end
    arrives_some rest n is r = walk_on old middle new first half end bytes used n so_far (subst (λ b. Runs steps (arriving (take n b)) middle new half end) is r)

  -- A record ends in the front of the rest, and what follows is taken where none are held.
  module _ (old : Connection K) (held : List ℕ) (now : Connection K) (holds : List ℕ) (next : Connection K) (first half third : World) (bytes rest front more : List ℕ) (used most n : ℕ) (is_rest : rest ≡ drop used bytes) (is_front : front ≡ take most rest)
      (is_more : more ≡ drop n rest) (inside : used ≤ length bytes) (within : n ≤ length front) (so_far : Runs steps (arriving (take used bytes)) (machine_of old held) (machine_of now holds) first half) (one : Runs steps (arriving (take n front)) (machine_of now holds) (machine_of next []) half third) where
    begins : take n front ≡ take n rest
    begins = sym (ap (take n) (sym (take-append-drop most rest) ∙ ap (λ b. b ++ drop most rest) (sym is_front)) ∙ take-append-le n front (drop most rest) within)

    through : Runs steps (arriving (take (used + n) bytes)) (machine_of old held) (machine_of next []) first third
    through = arrives_some (machine_of old held) (machine_of now holds) (machine_of next []) first half third bytes used so_far rest n is_rest (subst (λ b. Runs steps (arriving b) (machine_of now holds) (machine_of next []) half third) begins one)

    more_is : more ≡ drop (used + n) bytes
    more_is = is_more ∙ ap (drop n) is_rest ∙ drop-drop n used bytes

    pub took_all : (new : Connection K) (held2 : List ℕ) (end : World) → Runs steps (arriving more) (machine_of next []) (machine_of new held2) third end → Runs steps (arriving bytes) (machine_of old held) (machine_of new held2) first end
    took_all new held2 end r = arrives_all (machine_of old held) (machine_of next []) (machine_of new held2) first third end bytes (used + n) through more more_is r

    pub took_some : (new : Connection K) (held2 : List ℕ) (end : World) (k : ℕ) → k ≤ length more → Runs steps (arriving (take k more)) (machine_of next []) (machine_of new held2) third end →
        (used + n + k ≤ length bytes) × Runs steps (arriving (take (used + n + k) bytes)) (machine_of old held) (machine_of new held2) first end
    took_some new held2 end k fits r =
        let short : n ≤ length rest = omega (arith, within, ap length begins, length-take-le n front within, length-take n rest) in (
          omega (arith, fits, short, inside, ap length is_rest, ap length more_is, length-drop used bytes, length-drop (used + n) bytes),
          arrives_some (machine_of old held) (machine_of next []) (machine_of new held2) first third end bytes (used + n) through more k more_is r,
        )

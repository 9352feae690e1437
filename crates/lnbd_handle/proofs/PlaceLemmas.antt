-- Where the place of the data that are still to come stands, and what receiving into it is.
use Rattle.std.proofs.Common.{◌≡◌, ℕ, zero, suc, ◌+◌, ◌-◌, ◌<◌, ◌≤◌, Bool, true, false, if◌then◌else◌, nat_le, List, [], ◌∷◌, ◌++◌, length, take, drop, replicate, Option, Some, None, refl, ap, sym, ◌∙◌, subst, arith, append_assoc}
use Rattle.std.specs.Prelude.{vec_len}
use Rattle.std.proofs.Math.Seq.{take-add}
use Rattle.std.proofs.lemmas.List.{length-append, length-drop, length-replicate, length-take, append-nil, drop_at, drop-take, length-take-le, take-append-le, take-take, take_all, take_at}
use Rattle.lnbd_keyed.specs.Keyed.{value_at}
use Rattle.lnbd_stream.proofs.Stream.{feed_none}
use Rattle.lnbd_chunks.specs.Chunk.{lies_within}
use Rattle.lnbd_callbacks.specs.Calls.{Call}
use Rattle.lnbd_history.specs.Answers.{is_living}
use Rattle.lnbd_history.specs.Arrivals.{Waiting}
use Rattle.lnbd_history.specs.Entries as entries
use Rattle.lnbd_history.specs.Events.{Arrived}
use Rattle.lnbd_history.specs.History.{reading}
use Rattle.lnbd_machine.specs.Laws.{IsPartial}
use Rattle.lnbd_machine.specs.Machine.{Machine, calls, step, table_rules, waited}
use Rattle.lnbd_machine.proofs.Partial.{table_steady}
use Rattle.lnbd_standing.proofs.Standing.{stands_calls}
use Rattle.lnbd_commands.specs.Commands.{waiting_at}
use Rattle.lnbd_commands.specs.Faulty.{HasAsked}
use Rattle.lnbd_arrivals.specs.Frames.{front_size, shows_by}
use Rattle.lnbd_arrivals.specs.declared.announced.Announced.{Announced}
use Rattle.lnbd_arrivals.specs.declared.replies.Replies.{Replies}
use Rattle.lnbd_handle.specs.declared.connection.Connection.{Connection}
use Rattle.lnbd_handle.specs.declared.pending.Pending.{Pending}
use Rattle.lnbd_handle.specs.Announcing.{announced_at, announced_by_front, replies_in}
use Rattle.lnbd_handle.specs.Held.{held_in, data_in}
use Rattle.lnbd_handle.specs.Histories.{ForEach}
use Rattle.lnbd_handle.specs.Placing.{AddsSilently, data_to_come, handled_of, has_fault, left_of, place_size, room_in, with_place, without_fault}
use Rattle.lnbd_handle.specs.Runs.{doing}
use Rattle.lnbd_handle.specs.Seen.{state_of, machine_of}
use Rattle.lnbd_handle.specs.Turns.{Brings, ShowsNothing}
use Rattle.lnbd_handle.proofs.AnnouncedLemmas.{brings_of, came_short, data_long, front_alone, same_front, shows_reply}
use Rattle.lnbd_handle.proofs.CalmLemmas.{announces_fit}
use Rattle.lnbd_handle.proofs.HistoryLemmas.{adds}
use Rattle.lnbd_handle.specs.Room.{HasPlacesAt}
use Rattle.lnbd_handle.proofs.TurnLemmas.{waited_row}

empty : (xs : List ℕ) → length xs ≡ 0 → xs ≡ []
empty [] e = refl
empty (x ∷ xs) e = absurd (omega (arith, e))

module _ {K : Type 0} where
  -- Its data lie in what a read in flight asked for.
  pub brings_asked : (c : Connection K) (front : List ℕ) (announced : Announced) → Brings c front announced → HasAsked (waiting_at announced.cookie c.commands) announced.offset announced.size
  brings_asked c front announced b =
      let long : length (replicate {A = ℕ} announced.size 0) ≡ announced.size = length-replicate announced.size 0 in
      let r = b.announces.whole (replicate announced.size 0) long in
      let row : waiting_at announced.cookie c.commands ≡ Some r.command = waited_row (nat_le announced.cookie c.written) (value_at announced.cookie c.commands.rows) r.command r.waits in
      let inside = r.may_come.inside in
      subst (λ (o : Option Waiting). HasAsked o announced.offset announced.size) (sym row) (inside.0, subst (λ (n : ℕ). lies_within r.command announced.offset n ≡ true) long inside.1)

  pub place_as : (c : Connection K) (bytes : List ℕ) → place_size (machine_of c bytes)
      ≡ left_of (without_fault c.commands.rows (announced_by_front (state_of c) bytes)) (length bytes - front_size (replies_in (state_of c))) - 1
  unfolding place_size data_to_come
  place_as c bytes = refl

  module _ (c : Connection K) (p : Pending) (partial : IsPartial (machine_of c (held_in p))) (places : HasPlacesAt (state_of c) p) where
    abbrev size : ℕ
    size = front_size (replies_in (state_of c))

    -- by what is kept of the front
    place_by : (found : Option Announced) → p.announced ≡ found → place_size (machine_of c (held_in p)) ≡ left_of (without_fault c.commands.rows found) (length (held_in p) - size) - 1
    place_by found e =
        place_as c (held_in p)
        ∙ ap (λ (o : Option Announced). left_of (without_fault c.commands.rows o) (length (held_in p) - size) - 1) (ap (announced_at (state_of c)) (sym (same_front (state_of c) p places.said)) ∙ sym places.said.says ∙ e)

    pub place_none : p.announced ≡ None → place_size (machine_of c (held_in p)) ≡ 0
    place_none e = let none = place_by None e in omega (arith, none)

    module _ (announced : Announced) (e : p.announced ≡ Some announced) where
      -- all that is held behind the front is held apart
      apart : length (held_in p) - size ≡ p.came
      apart = let long = front_alone size (announced_at (state_of c)) p announced e places.said in omega (arith, long, data_long p places.kept, length-append p.head.items (data_in p))

      pub place_some : (faulty : Bool) → has_fault c.commands.rows announced ≡ faulty → place_size (machine_of c (held_in p)) ≡ (if faulty then 0 else announced.size - p.came - 1)
      place_some faulty f =
          place_by (Some announced) e ∙ ap (λ (b : Bool). left_of (if b then None else Some announced) (length (held_in p) - size) - 1) f ∙ ap (λ (n : ℕ). left_of (if faulty then None else Some announced) n - 1) apart ∙ go faulty
        where
          go : (b : Bool) → left_of (if b then None else Some announced) p.came - 1 ≡ (if b then 0 else announced.size - p.came - 1)
          go true = omega arith
          go false = refl

      pub brings_front : Brings c p.head.items announced
      brings_front =
          let long = front_alone size (announced_at (state_of c)) p announced e places.said in
          brings_of c p.head.items announced places.ordered (ap (announced_at (state_of c)) (sym (take_all size p.head.items (omega (arith, long)))) ∙ sym places.said.says ∙ e)

      pub size_fits : announced.size ≤ vec_len p.content
      size_fits = announces_fit (vec_len p.content) (state_of c) brings_front.replies p.head.items announced brings_front.announces places.fits

      pub place_short : place_size (machine_of c (held_in p)) + p.came < announced.size
      place_short =
          let short = came_short (state_of c) p announced places.kept places.ordered places.said e partial in
          go (has_fault c.commands.rows announced) refl short
        where
          go : (b : Bool) → has_fault c.commands.rows announced ≡ b → p.came < announced.size → place_size (machine_of c (held_in p)) + p.came < announced.size
          go true f short = let is = place_some true f in omega (arith, is, short)
          go false f short = let is = place_some false f in omega (arith, is, short)

    -- the place lies within the buffer
    pub place_fits : p.came + place_size (machine_of c (held_in p)) ≤ vec_len p.content
    place_fits = go p.announced refl
      where
        go : (found : Option Announced) → p.announced ≡ found → p.came + place_size (machine_of c (held_in p)) ≤ vec_len p.content
        go None e = let none = place_none e in omega (arith, none, places.kept.within)
        go (Some announced) e = let short = place_short announced e in let fits = size_fits announced e in omega (arith, short, fits)

    -- The first bytes of the place arrive.
    module _ (n : ℕ) (few : n ≤ length (room_in (place_size (machine_of c (held_in p))) p)) where
      abbrev pub now : Pending
      now = record p { came = p.came + n }

      abbrev pub arrived : List ℕ
      arrived = take n (room_in (place_size (machine_of c (held_in p))) p)

      n_fits : n ≤ place_size (machine_of c (held_in p))
      n_fits = omega (arith, few, length-take (place_size (machine_of c (held_in p))) (drop p.came p.content.items))

      data_more : data_in now ≡ data_in p ++ arrived
      data_more = take-add p.came n p.content.items ∙ ap (λ d. data_in p ++ d) (sym (take-take n (place_size (machine_of c (held_in p))) (drop p.came p.content.items) n_fits))

      pub held_more : held_in now ≡ held_in p ++ arrived
      held_more = ap (λ d. p.head.items ++ d) data_more ∙ sym (append_assoc p.head.items (data_in p) arrived)

      pub still : ShowsNothing (state_of c) (held_in p ++ arrived)
      still = go p.announced refl
        where
          len : length arrived ≡ n
          len = omega (arith, few, length-take n (room_in (place_size (machine_of c (held_in p))) p))

          go : (found : Option Announced) → p.announced ≡ found → ShowsNothing (state_of c) (held_in p ++ arrived)
          go None e =
              let none = place_none e in
              subst (ShowsNothing (state_of c)) (sym (ap (λ (d : List ℕ). held_in p ++ d) (empty arrived (omega (arith, len, n_fits, none))) ∙ append-nil (held_in p))) partial
          go (Some announced) e =
              let b = brings_front announced e in
              let short = place_short announced e in
              let long = data_long p places.kept in
              shows_reply (state_of c) (held_in p ++ arrived) places.ordered b.speaking b.ready
              ∙ ap (λ (r : Replies). shows_by r (waited (state_of c)) (held_in p ++ arrived)) (sym b.is)
              ∙ ap (shows_by b.replies (waited (state_of c))) (append_assoc p.head.items (data_in p) arrived)
              ∙ b.announces.partial (data_in p ++ arrived) (omega (arith, length-append (data_in p) arrived, len, long, n_fits, short))

      fed : (course : Unit {0}) → (step (machine_of c (held_in p)) (Arrived arrived []) ≡ machine_of c (held_in p ++ arrived)) × (calls (machine_of c (held_in p)) (Arrived arrived []) ≡ [])
      fed course =
          let e = feed_none (table_rules {K = K}) table_steady (doing (state_of c) [] []) (held_in p) arrived still in
          (ap (λ h. record { known = h.known.state; pending = h.pending }) e, ap (λ h. h.known.calls) e)

      pub placed_step : machine_of c (held_in now) ≡ step (machine_of c (held_in p)) (Arrived arrived [])
      placed_step = ap (machine_of c) held_more ∙ sym (fed tt).0

      pub placed_silent : calls (machine_of c (held_in p)) (Arrived arrived []) ≡ []
      placed_silent = (fed tt).1

      pub placed_partial : IsPartial (machine_of c (held_in now))
      placed_partial = subst (ShowsNothing (state_of c)) (sym held_more) still

      pub placed_places : HasPlacesAt (state_of c) now
      placed_places = record {
        kept = record { within = omega (arith, n_fits, place_fits); room = places.kept.room };
        fits = places.fits;
        ordered = places.ordered;
        said = record {
          says = places.said.says;
          alone = places.said.alone;
          none = λ e. let before = places.said.none e in let none = place_none e in omega (arith, before, n_fits, none);
        };
      }

-- The place is lent.

-- what was written over the front of a list shows in its front
front : (size : ℕ) (w xs : List ℕ) → take size (w ++ drop (length w) xs) ≡ take size (w ++ drop (length w) (take size xs))
front size [] xs = sym (take-take size size xs (omega arith))
front zero (x ∷ w) xs = refl
front (suc size) (x ∷ w) [] = refl
front (suc size) (x ∷ w) (y ∷ xs) = ap (λ (l : List ℕ). x ∷ l) (front size w xs)

module _ (n from size : ℕ) (xs w : List ℕ) (n_is : n ≡ length xs) (fits : from + size ≤ n) where
  -- what a Vec has after a part of it was lent
  abbrev pub written : List ℕ
  written = take n ((take from xs ++ (w ++ drop (length w) (drop from xs))) ++ drop (length (take from xs ++ (w ++ drop (length w) (drop from xs)))) xs)

  abbrev behind : List ℕ
  behind = drop (length (take from xs ++ (w ++ drop (length w) (drop from xs)))) xs

  joined : (take from xs ++ (w ++ drop (length w) (drop from xs))) ++ behind ≡ take from xs ++ ((w ++ drop (length w) (drop from xs)) ++ behind)
  joined = append_assoc (take from xs) (w ++ drop (length w) (drop from xs)) behind

  long : length (take from xs) ≡ from
  long = length-take-le from xs (omega (arith, n_is, fits))

  pub front_kept : take from written ≡ take from xs
  front_kept = take-take from n _ (omega (arith, fits)) ∙ ap (take from) joined ∙ take_at (take from xs) _ from long

  pub room_written : take size (drop from written) ≡ take (length (take size (drop from xs))) (w ++ drop (length w) (take size (drop from xs)))
  room_written =
      let split : n ≡ from + (n - from) = omega (arith, fits) in
      let all = (take from xs ++ (w ++ drop (length w) (drop from xs))) ++ behind in
      let here : drop from written ≡ take (n - from) ((w ++ drop (length w) (drop from xs)) ++ behind) = ap (λ (k : ℕ). drop from (take k all)) split ∙ drop-take from (n - from) all ∙ ap (λ (l : List ℕ). take (n - from) (drop from l)) joined ∙ ap (take (n - from)) (drop_at (take from xs) _ from long) in
      let rest : length (drop from xs) ≡ n - from = omega (arith, length-drop from xs, n_is) in
      let many : size ≤ length (w ++ drop (length w) (drop from xs)) = omega (arith, length-append w (drop (length w) (drop from xs)), length-drop (length w) (drop from xs), rest, fits) in
      let count : length (take size (drop from xs)) ≡ size = length-take-le size (drop from xs) (omega (arith, rest, fits)) in
      ap (take size) here ∙ take-take size (n - from) _ (omega (arith, fits)) ∙ take-append-le size (w ++ drop (length w) (drop from xs)) behind many ∙ front size w (drop from xs)
      ∙ ap (λ (k : ℕ). take k (w ++ drop (length w) (take size (drop from xs)))) (sym count)

module _ {K : Type 0} where
  pub lent_view : (c : Connection K) (p q : Pending) (w : List ℕ) → held_in q ≡ held_in p →
      room_in (place_size (machine_of c (held_in p))) q ≡ take (length (room_in (place_size (machine_of c (held_in p))) p)) (w ++ drop (length w) (room_in (place_size (machine_of c (held_in p))) p)) →
      handled_of c q ≡ with_place (handled_of c p) w
  lent_view c p q w held room =
      ap (λ (h : List ℕ). record { machine = machine_of c h; place = room_in (place_size (machine_of c h)) q }) held ∙ ap (λ (b : List ℕ). record { machine = machine_of c (held_in p); place = b }) room

  -- Receiving calls no callback.
  pub silently_adds : (old new : Machine K) (bytes : List ℕ) → is_living old.known.stage ≡ true → new ≡ step old (Arrived bytes []) → calls old (Arrived bytes []) ≡ [] → ForEach old (AddsSilently (Arrived bytes []) new)
  silently_adds old new bytes living is silent history stands = (
    adds (Arrived bytes []) old new (λ before. refl) living is history stands,
    stands_calls 1024 history old (Arrived bytes []) stands living ∙ ap (λ (cs : List (Call K)). entries.calls (reading history).known.entries ++ cs) silent ∙ append-nil (entries.calls (reading history).known.entries),
  )

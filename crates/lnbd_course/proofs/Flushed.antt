-- Where the board was told that its flush was answered, one of the destination's requests is a FLUSH that is done.
use Rattle.std.proofs.Common.{◌≡◌, ◌⊎◌, inl, inr, ℕ, Bool, true, false, ◌&&◌, List, [], ◌∷◌, ◌++◌, cond, Option, Some, None, refl, ap, sym, subst, ◌∙◌, ◌==◌, if◌then◌else◌}
use Rattle.std.proofs.lemmas.Bool.{cases_eq}
use Rattle.lnbd_callbacks.specs.Calls.{Call, Chunk, Extents, Complete, Free}
use Rattle.lnbd_callbacks.specs.Steps.{OneByOne}
use Rattle.lnbd_history.specs.Commands.{Command}
use Rattle.lnbd_history.specs.Events.{Event, History}
use Rattle.lnbd_keyed.specs.Keyed.{value_at}
use Rattle.lnbd_model.specs.declared.export.Extent.{Extent}
use Rattle.lnbd_outcome.specs.Outcome.{Unfinished, Done}
use Rattle.lnbd_asked.specs.Link.{Nobody}
use Rattle.lnbd_plan.specs.declared.grid.Slice.{Slice}
use Rattle.lnbd_board.specs.declared.how.How.{How}
use Rattle.lnbd_board.specs.declared.ticket.Ticket.{Ticket}
use Rattle.lnbd_board.specs.declared.ticket.Ticket.TheVariants as ticket
use Rattle.lnbd_board.specs.Files.{Files, Hears, Seen, came_with, filed, filed_done, is_map, is_unfit, or_error, content_first, rows_with}
use Rattle.lnbd_board.specs.Requests.{Answers, Each, IsIn, Request, asking, done_with, request, waiting}
use Rattle.lnbd_board.specs.Rows.{AsksOfDestination, AsksOfSource, Stands}
use Rattle.lnbd_board.specs.Turns.{IsAnswered, TellAll, Tells}
use Rattle.lnbd_board.proofs.Lists.{Each-back, Each-map, each_answers, eq_true}
use Rattle.lnbd_tracks.specs.Tracks.{Adds, AllTrack, Happens, Histories, is_issue, told_by, under}
use Rattle.lnbd_tracks.proofs.Calling.{destination_all, files_well, none_earlier, source_all}
use Rattle.lnbd_tracks.proofs.Tracking.{Leads, event_tracks}
use Rattle.lnbd_tracks.proofs.Under.{same_key}
use Rattle.lnbd_course.specs.Counted.{is_flush}
use Rattle.lnbd_course.specs.Flushed.{HasDoneFlush}

-- Lists.

in_middle : (r : Request) (front back : List Request) → IsIn r (front ++ r ∷ back)
in_middle r [] back = inl refl
in_middle r (x ∷ front) back = inr (in_middle r front back)

in_front : (r : Request) (front back : List Request) → IsIn r front → IsIn r (front ++ back)
in_front r [] back there = absurd there
in_front r (x ∷ front) back (inl same) = inl same
in_front r (x ∷ front) back (inr there) = inr (in_front r front back there)

-- one that isn't the one that is put in another's place
in_beside : (r x y : Request) (front back : List Request) → (x ≡ r → ⊥) → IsIn r (front ++ x ∷ back) → IsIn r (front ++ y ∷ back)
in_beside r x y [] back differ (inl same) = absurd (differ same)
in_beside r x y [] back differ (inr there) = inr there
in_beside r x y (z ∷ front) back differ (inl same) = inl same
in_beside r x y (z ∷ front) back differ (inr there) = inr (in_beside r x y front back differ there)

in_under : (r : Request) (xs : List Request) → IsIn r xs → IsIn r (under r.link r.cookie xs)
in_under r [] there = there
in_under r (x ∷ xs) (inl same) = subst (λ (k : Bool). IsIn r (cond k (x ∷ under r.link r.cookie xs) (under r.link r.cookie xs))) (sym here) (inl same)
  where
    here : ((x.link == r.link) && (x.cookie == r.cookie)) ≡ true
    here = ap (λ (y : Request). (y.link == r.link) && (y.cookie == r.cookie)) same ∙ same_key r.link r.cookie
in_under r (x ∷ xs) (inr there) =
    let more = in_under r xs there in
    elim ((x.link == r.link) && (x.cookie == r.cookie)) as (λ b. IsIn r (cond b (x ∷ under r.link r.cookie xs) (under r.link r.cookie xs))) [ true ↦ inr more | false ↦ more ]

under_in : (r : Request) (link cookie : ℕ) (xs : List Request) → IsIn r (under link cookie xs) → IsIn r xs
under_in r link cookie [] there = there
under_in r link cookie (x ∷ xs) there =
    elim ((x.link == link) && (x.cookie == cookie)) as (λ b. IsIn r (cond b (x ∷ under link cookie xs) (under link cookie xs)) → IsIn r (x ∷ xs)) [
      | true ↦ λ k. elim k [ inl same ↦ inl same | inr more ↦ inr (under_in r link cookie xs more) ]
      | false ↦ λ k. inr (under_in r link cookie xs k)
    ] there

-- the same requests under each link and cookie
alike : (one other : List Request) → ((link cookie : ℕ) → under link cookie other ≡ under link cookie one) → HasDoneFlush one → HasDoneFlush other
alike one other same f = record {
  flush = f.flush;
  within = under_in f.flush f.flush.link f.flush.cookie other (subst (λ (l : List Request). IsIn f.flush l) (sym (same f.flush.link f.flush.cookie)) (in_under f.flush one f.within));
  kind = f.kind;
  done = f.done;
}

-- A request more.
pub flush_more : (r : Request) (xs : List Request) → HasDoneFlush xs → HasDoneFlush (xs ++ r ∷ [])
flush_more r xs f = record { flush = f.flush; within = in_front f.flush xs (r ∷ []) f.within; kind = f.kind; done = f.done }

pub flush_asking : (link cookie : ℕ) (by : Ticket) (command : Command Nobody) (xs : List Request) → HasDoneFlush xs → HasDoneFlush (asking link cookie by command xs)
flush_asking link cookie by command xs f = flush_more (request link cookie by (waiting command)) xs f

-- Which requests the flush's ticket has.

abbrev Never : Ticket → Command Nobody → Type 0
Never by command = by ≡ ticket.Flush → ⊥

abbrev Flushes : Ticket → Command Nobody → Type 0
Flushes by command = by ≡ ticket.Flush → is_flush command.kind ≡ true

abbrev NeverFlush : List Request → Type 0
NeverFlush requests = Each (λ r. Never r.ticket r.said.command) requests

abbrev OnlyFlush : List Request → Type 0
OnlyFlush requests = Each (λ r. Flushes r.ticket r.said.command) requests

slice_differs : (n : ℕ) → ticket.Slice n ≡ ticket.Flush → ⊥
slice_differs n e = cc

extents_differ : ticket.Extents ≡ ticket.Flush → ⊥
extents_differ e = cc

never_of_source : (slices : List Slice) (by : Ticket) (command : Command Nobody) → AsksOfSource slices by command → Never by command
never_of_source slices (ticket.Slice n) command asks = slice_differs n
never_of_source slices ticket.Extents command asks = extents_differ
never_of_source slices ticket.Flush command asks = absurd asks

flush_of_destination : (how : How) (slices : List Slice) (by : Ticket) (command : Command Nobody) → AsksOfDestination how slices by command → Flushes by command
flush_of_destination how slices (ticket.Slice n) command asks = λ e. absurd (slice_differs n e)
flush_of_destination how slices ticket.Extents command asks = absurd asks
flush_of_destination how slices ticket.Flush command asks = λ e. ap is_flush asks.0

-- What is answered.

unfinished_differs : (bytes : List ℕ) → Unfinished ≡ Done bytes → ⊥
unfinished_differs bytes e = cc

answers_keep : (by : Ticket) (buf : List ℕ) (old new : List Request) → Answers by buf old new → HasDoneFlush old → HasDoneFlush new
answers_keep by buf old new a f =
    let asked = request a.link a.cookie by (waiting a.command) in
    let came = request a.link a.cookie by (done_with a.command buf) in
    let differ : asked ≡ f.flush → ⊥ = λ same. unfinished_differs f.done.bytes (ap (λ (r : Request). r.said.outcome) same ∙ f.done.is) in
    record {
      flush = f.flush;
      within = subst (λ (l : List Request). IsIn f.flush l) (sym a.now) (in_beside f.flush asked came a.front a.back differ (subst (λ (l : List Request). IsIn f.flush l) a.waited f.within));
      kind = f.kind;
      done = f.done;
    }

answers_flush : (buf : List ℕ) (old new : List Request) → Answers ticket.Flush buf old new → OnlyFlush old → HasDoneFlush new
answers_flush buf old new a only =
    let came = request a.link a.cookie ticket.Flush (done_with a.command buf) in
    record {
      flush = came;
      within = subst (λ (l : List Request). IsIn came l) (sym a.now) (in_middle came a.front a.back);
      kind = (Each-back (λ (r : Request). Flushes r.ticket r.said.command) a.front _ (subst OnlyFlush a.waited only)).0 refl;
      done = record { bytes = buf; is = refl };
    }

-- What is known of both sides, and of the flush.
record Knows (source destination : List Request) (now : Seen) : Type 0 where
  never : NeverFlush source
  only : OnlyFlush destination
  flushed : now.flushed ≡ true → HasDoneFlush destination

knows_same : (now now2 : Seen) (source destination source2 destination2 : List Request) → source2 ≡ source → destination2 ≡ destination → now2.flushed ≡ now.flushed → Knows source destination now → Knows source2 destination2 now2
knows_same now now2 source destination source2 destination2 e f same k = record {
  never = subst NeverFlush (sym e) k.never;
  only = subst OnlyFlush (sym f) k.only;
  flushed = λ told. subst HasDoneFlush (sym f) (k.flushed (sym same ∙ told));
}

module _ (by : Ticket) (buf : List ℕ) (source destination source2 destination2 : List Request) where
  never_after : IsAnswered by buf source destination source2 destination2 → NeverFlush source → NeverFlush source2
  never_after (inl h) never = each_answers Never by buf source source2 h.0 never
  never_after (inr h) never = subst NeverFlush (sym h.0) never

  only_after : IsAnswered by buf source destination source2 destination2 → OnlyFlush destination → OnlyFlush destination2
  only_after (inl h) only = subst OnlyFlush (sym h.1) only
  only_after (inr h) only = each_answers Flushes by buf destination destination2 h.1 only

  flush_stays : IsAnswered by buf source destination source2 destination2 → HasDoneFlush destination → HasDoneFlush destination2
  flush_stays (inl h) f = subst HasDoneFlush (sym h.1) f
  flush_stays (inr h) f = answers_keep by buf destination destination2 h.1 f

  -- an answer that tells no more of the flush
  knows_other : (now now2 : Seen) → now2.flushed ≡ now.flushed → IsAnswered by buf source destination source2 destination2 → Knows source destination now → Knows source2 destination2 now2
  knows_other now now2 same h k = record { never = never_after h k.never; only = only_after h k.only; flushed = λ told. flush_stays h (k.flushed (sym same ∙ told)) }

flush_comes : (buf : List ℕ) (source destination source2 destination2 : List Request) → IsAnswered ticket.Flush buf source destination source2 destination2 → NeverFlush source → OnlyFlush destination → HasDoneFlush destination2
flush_comes buf source destination source2 destination2 (inl h) never only = absurd ((Each-back (λ (r : Request). Never r.ticket r.said.command) h.0.front _ (subst NeverFlush h.0.waited never)).0 refl)
flush_comes buf source destination source2 destination2 (inr h) never only = answers_flush buf destination destination2 h.1 only

-- Calls.

slice_same : (unfit : Bool) (n : ℕ) (buf : List ℕ) (old : Seen)
    → (if unfit then record old { error = or_error old.error 71 } else record old { rows = rows_with (value_at n old.rows) n buf old.rows; came = came_with (value_at n old.rows) n old.came }).flushed ≡ old.flushed
slice_same true n buf old = refl
slice_same false n buf old = refl

pub heard_same : (is : Bool) (entries : List Extent) (old new : Seen) → Hears is entries old new → new.flushed ≡ old.flushed
heard_same true entries old new (inl e) = ap (λ (s : Seen). s.flushed) e.1
heard_same true entries old new (inr e) = ap (λ (s : Seen). s.flushed) e
heard_same false entries old new e = ap (λ (s : Seen). s.flushed) e

done_knows : (by : Ticket) (buf : List ℕ) (now : Seen) (source destination source2 destination2 : List Request) → IsAnswered by buf source destination source2 destination2 → Knows source destination now → Knows source2 destination2 (filed_done by buf now)
done_knows (ticket.Slice n) buf now source destination source2 destination2 h k =
    knows_other (ticket.Slice n) buf source destination source2 destination2 now (filed_done (ticket.Slice n) buf now) (slice_same (is_unfit (value_at n now.rows) buf) n buf now) h k
done_knows ticket.Extents buf now source destination source2 destination2 h k = knows_other ticket.Extents buf source destination source2 destination2 now (filed_done ticket.Extents buf now) refl h k
done_knows ticket.Flush buf now source destination source2 destination2 h k = record {
  never = never_after ticket.Flush buf source destination source2 destination2 h k.never;
  only = only_after ticket.Flush buf source destination source2 destination2 h k.only;
  flushed = λ told. flush_comes buf source destination source2 destination2 h k.never k.only;
}

some_error : (o : Option ℕ) (error : ℕ) → content_first o error ≡ None → ⊥
some_error None error h = absurd (cc)
some_error (Some first) error h = go (error == 71) h
  where
    go : (b : Bool) → cond b (Some error) (Some first) ≡ None → ⊥
    go true h = absurd (cc)
    go false h = absurd (cc)

-- a completion that leaves no error told none
told_none : (by : Ticket) (error : ℕ) (buf : List ℕ) (now : Seen) → (filed by error buf now).error ≡ None → error ≡ 0
told_none by error buf now h =
    elim (error == 0) as (λ b. (error == 0) ≡ b → (cond b (filed_done by buf now) (record now { error = content_first now.error error })).error ≡ None → error ≡ 0) [
      | true ↦ λ e k. eq_true 0 error e
      | false ↦ λ e k. absurd (some_error now.error error k)
    ] refl h

call_knows : (call : Call Ticket) (now now2 : Seen) (source destination source2 destination2 : List Request) → Files now call now2 → now2.error ≡ None → Tells call source destination source2 destination2 → Knows source destination now → Knows source2 destination2 now2
call_knows (Chunk by bytes offset status error heard) now now2 source destination source2 destination2 f e t k = knows_same now now2 source destination source2 destination2 t.0 t.1 (ap (λ (s : Seen). s.flushed) f.1) k
call_knows (Extents by context offset entries error heard) now now2 source destination source2 destination2 f e t k = knows_same now now2 source destination source2 destination2 t.0 t.1 (heard_same (is_map by context) entries now now2 f.1) k
call_knows (Complete by error buf verdict) now now2 source destination source2 destination2 f e t k =
    let none : error ≡ 0 = told_none by error buf now (sym (ap (λ (s : Seen). s.error) f.1) ∙ e) in
    let is : filed by error buf now ≡ filed_done by buf now = ap (λ (n : ℕ). filed by n buf now) none in
    subst (Knows source2 destination2) (sym (f.1 ∙ is)) (done_knows by buf now source destination source2 destination2 (t none) k)
call_knows (Free by) now now2 source destination source2 destination2 f e t k = knows_same now now2 source destination source2 destination2 t.0 t.1 (ap (λ (s : Seen). s.flushed) f) k

calls_know : (calls : List (Call Ticket)) (now now2 : Seen) (source destination source2 destination2 : List Request) → OneByOne Files now calls now2 → now2.error ≡ None → TellAll calls source destination source2 destination2 → Knows source destination now → Knows source2 destination2 now2
calls_know [] now now2 source destination source2 destination2 f e t k = knows_same now now2 source destination source2 destination2 t.0 t.1 (ap (λ (s : Seen). s.flushed) f) k
calls_know (call ∷ calls) now now2 source destination source2 destination2 f e t k =
    calls_know calls f.0 now2 t.0 t.1.0 source2 destination2 f.1.1 e t.1.1.1
    (call_knows call now f.0 source destination t.0 t.1.0 f.1.0 (none_earlier calls f.0 now2 f.1.1 e) t.1.1.0 k)

-- Events.

-- where no error was told, one is done if the board says so
abbrev pub FlushIsDone : List Request → Seen → Type 0
FlushIsDone destination now = now.error ≡ None → now.flushed ≡ true → HasDoneFlush destination

known : (how : How) (slices : List Slice) (now : Seen) (source destination : List Request) → now.error ≡ None → (now.error ≡ None → Stands how slices now.rows source destination) → FlushIsDone destination now → Knows source destination now
known how slices now source destination none stands flushed = record {
  never = Each-map (λ r asks. never_of_source slices r.ticket r.said.command asks) source (stands none).reads;
  only = Each-map (λ r asks. flush_of_destination how slices r.ticket r.said.command asks) destination (stands none).changes;
  flushed = flushed none;
}

-- What happens on a handle of the source, but that it is asked, leaves it so;
pub source_flushes : (how : How) (slices : List Slice) (link : ℕ) (event : Event Ticket) (sources : Histories) (added : List (Call Ticket)) (before after : Seen)
    (source destination destination2 : List Request) →
    AllTrack sources source → ((n c : ℕ) → under n c destination2 ≡ under n c destination) → (before.error ≡ None → Stands how slices before.rows source destination) → is_issue event ≡ false →
    Adds event (sources link) added → OneByOne Files before added after → FlushIsDone destination before → FlushIsDone destination2 after
source_flushes how slices link event sources added before after source destination destination2 reads same stands other adds files flushed none told =
    let g : Leads link (event ∷ sources link) added source = event_tracks link (sources link) event source (reads link) other added adds (files_well added before after files) in
    let k = calls_know added before after source destination g.new destination files none (source_all added source g.new destination g.tells) (known how slices before source destination (none_earlier added before after files none) stands flushed) in
    alike destination destination2 same (k.flushed told)

-- and so does what happens on one of the destination.
pub destination_flushes : (how : How) (slices : List Slice) (link : ℕ) (event : Event Ticket) (destinations destinations2 : Histories) (added : List (Call Ticket)) (before after : Seen) (source destination destination2 : List Request) →
    AllTrack destinations destination → AllTrack destinations2 destination2 → (before.error ≡ None → Stands how slices before.rows source destination) → is_issue event ≡ false → Happens link event destinations destinations2 →
    Adds event (destinations link) added → OneByOne Files before added after → FlushIsDone destination before → FlushIsDone destination2 after
destination_flushes how slices link event destinations destinations2 added before after source destination destination2 changes changes2 stands other happens adds files flushed none told =
    let g : Leads link (event ∷ destinations link) added destination = event_tracks link (destinations link) event destination (changes link) other added adds (files_well added before after files) in
    let k = calls_know added before after source destination source g.new files none (destination_all added destination g.new source g.tells) (known how slices before source destination (none_earlier added before after files none) stands flushed) in
    alike g.new destination2 (λ n c. same g n c (cases_eq n link)) (k.flushed told)
  where
    same : (g : Leads link (event ∷ destinations link) added destination) → (n c : ℕ) → (n ≡ link) ⊎ (n ≡ link → ⊥) → under n c destination2 ≡ under n c g.new
    same g n c (inl here) =
        subst (λ (m : ℕ). under m c destination2 ≡ under m c g.new) (sym here)
        ((changes2 link).each c ∙ ap (λ (h : History Ticket). told_by link c h) happens.here ∙ sym (g.tracks.each c))
    same g n c (inr differ) =
        (changes2 n).each c ∙ ap (λ (h : History Ticket). told_by n c h) (happens.others n differ) ∙ sym ((changes n).each c) ∙ sym (g.beside n c differ)

-- Commands in flight that have room, while commands come and go and bytes arrive.
use Rattle.std.proofs.Common.{◌≡◌, ℕ, zero, suc, Bool, true, false, ◌&&◌, ◌||◌, cond, ◌==◌, List, [], ◌∷◌, ◌++◌, Option, Some, None, refl, sym, ◌∙◌, subst}
use Rattle.lnbd_model.specs.declared.kind.Kind.{Kind}
use Rattle.lnbd_model.specs.declared.state.Cause.{Cause}
use Rattle.lnbd_model.specs.declared.state.Cause.TheVariants as ended
use Rattle.lnbd_callbacks.specs.declared.caller.Verdict.{Verdict}
use Rattle.lnbd_callbacks.specs.Calls.{Call}
use Rattle.lnbd_keyed.specs.Keyed.{value_at, with_value, without, keys}
use Rattle.lnbd_stream.proofs.Stream.{feed_lasts}
use Rattle.lnbd_history.specs.declared.kinds.Phase.{Phase}
use Rattle.lnbd_history.specs.declared.kinds.Phase.TheVariants as phase
use Rattle.lnbd_history.specs.declared.kinds.Stage.TheVariants.{Dead}
use Rattle.lnbd_history.specs.Agreement.{End, Replied, end_of, is_acknowledged}
use Rattle.lnbd_history.specs.Arrivals.{Shown, Hello, OptionReply, ExportReply, Reply, Broken, Passed, Ignored}
use Rattle.lnbd_history.specs.Commands.{Flight}
use Rattle.lnbd_history.specs.Entries.{Framed, Item, Lost, completes, ends}
use Rattle.lnbd_history.specs.History.{left, next_heard, next_verdict}
use Rattle.lnbd_history.specs.Talk.{Talk, replied, taking}
use Rattle.lnbd_history.specs.Talk as talk
use Rattle.lnbd_records.specs.Options.{opt_extended_headers, opt_go, opt_structured_reply}
use Rattle.lnbd_records.specs.Told.{Told}
use Rattle.lnbd_machine.specs.Machine.{Row, Machine, State, Doing, add, ended_closing, ending, enter, file_all, file_flight, file_in, file_row, filed, hearing, hears_in, if_refused, is_retiring, kill, on_state, table_rules, turned}
use Rattle.lnbd_handle.specs.Runs.{Runs, under}
use Rattle.lnbd_handle.specs.Turns.{arriving}
use Rattle.lnbd_handle.specs.Room.{AreOrdered, EachFlies, IfFlies}

both_on : (a b done x s : Bool) → AreOrdered s x → ((b && done) || x) ≡ true → (((a || b) && done) || s) ≡ true
both_on true b true x s o e = refl
both_on true true false x s o e = o e
both_on true false false x s o e = o e
both_on false true true x s o e = refl
both_on false true false x s o e = o e
both_on false false done x s o e = o e

end_ordered : (p : Phase) (end : End) (t : Talk) → AreOrdered t.structured t.extended → AreOrdered (talk.ended end p t).structured (talk.ended end p t).extended
end_ordered phase.Greeting end t o = o
end_ordered (phase.Asked option) end t o = both_on (option == opt_structured_reply) (option == opt_extended_headers) (is_acknowledged end) t.extended t.structured o
end_ordered phase.AskedByName end t o = o
end_ordered phase.OptMode end t o = o
end_ordered phase.Ready end t o = o
end_ordered (phase.Refused code) end t o = o

replied_ordered : (end : Option End) (told : Told) (t : Talk) → AreOrdered t.structured t.extended → AreOrdered (replied end told t).structured (replied end told t).extended
replied_ordered None told t o = o
replied_ordered (Some end) told t o = end_ordered t.phase end t o

module _ {K : Type 0} (holds : Kind → ℕ → Flight K → Type 0) where
  -- this holds of the command of a row, while it is in flight
  abbrev pub OfRow : Row K → Type 0
  OfRow row = IfFlies holds row.kind row.length row.flight

  -- One row.

  found_row : (b : Bool) (cookie : ℕ) (first row : Row K) (rows : List (ℕ × Row K)) → OfRow first → ((r : Row K) → value_at cookie rows ≡ Some r → OfRow r) → cond b (Some first) (value_at cookie rows) ≡ Some row → OfRow row
  found_row true cookie first row rows here there e = let same : first ≡ row = cc in subst (λ r. OfRow r) same here
  found_row false cookie first row rows here there e = there row e

  pub each_at : (cookie : ℕ) (row : Row K) (rows : List (ℕ × Row K)) → EachFlies holds rows → value_at cookie rows ≡ Some row → OfRow row
  each_at cookie row [] all e = let c : None ≡ Some row = e in cc
  each_at cookie row (entry ∷ rows) all e = found_row (cookie == entry.0) cookie entry.1 row rows all.0 (λ r at. each_at cookie r rows all.1 at) e

  with_if : (b : Bool) (entry : ℕ × Row K) (row : Row K) (rows changed : List (ℕ × Row K)) → OfRow row → OfRow entry.1 → EachFlies holds rows → EachFlies holds changed → EachFlies holds (cond b ((entry.0, row) ∷ rows) (entry ∷ changed))
  with_if true entry row rows changed new old all after = (new, all)
  with_if false entry row rows changed new old all after = (old, after)

  each_with : (cookie : ℕ) (row : Row K) (rows : List (ℕ × Row K)) → OfRow row → EachFlies holds rows → EachFlies holds (with_value cookie row rows)
  each_with cookie row [] new all = tt
  each_with cookie row (entry ∷ rows) new all = with_if (cookie == entry.0) entry row rows (with_value cookie row rows) new all.0 all.1 (each_with cookie row rows new all.1)

  without_if : (b : Bool) (entry : ℕ × Row K) (rows less : List (ℕ × Row K)) → OfRow entry.1 → EachFlies holds rows → EachFlies holds less → EachFlies holds (cond b rows (entry ∷ less))
  without_if true entry rows less here all after = all
  without_if false entry rows less here all after = (here, after)

  pub each_without : (cookie : ℕ) (rows : List (ℕ × Row K)) → EachFlies holds rows → EachFlies holds (without cookie rows)
  each_without cookie [] all = tt
  each_without cookie (entry ∷ rows) all = without_if (cookie == entry.0) entry rows (without cookie rows) all.0 all.1 (each_without cookie rows all.1)

  pub each_append : (rows more : List (ℕ × Row K)) → EachFlies holds rows → EachFlies holds more → EachFlies holds (rows ++ more)
  each_append [] more all after = after
  each_append (entry ∷ rows) more all after = (all.0, each_append rows more all.1 after)

  -- Filing.

  ending_of : (last : Bool) (verdict : Option Verdict) (row : Row K) → OfRow row → OfRow (ending last verdict row)
  ending_of false verdict row here = here
  ending_of true verdict row here = tt

  filed_each : (gone : Bool) (cookie : ℕ) (row : Row K) (rows : List (ℕ × Row K)) → OfRow row → EachFlies holds rows → EachFlies holds (filed gone cookie row rows)
  filed_each true cookie row rows new all = each_without cookie rows all
  filed_each false cookie row rows new all = each_with cookie row rows new all

  flight_each : (f : Option (Flight K)) (row : Row K) (cookie : ℕ) (item : Item) (d : Doing K) → OfRow row → EachFlies holds d.state.rows → EachFlies holds (file_flight f row cookie item d).state.rows
  flight_each None row cookie item d here all = all
  flight_each (Some flight) row cookie item d here all =
      let contexts = d.state.talk.contexts in
      let first = hears_in row flight contexts item in
      let heard = next_heard first d.answers in
      let verdict = next_verdict (completes item) (left first d.answers) in
      filed_each (is_retiring item verdict) cookie (add row contexts item heard verdict) d.state.rows (ending_of (ends item) verdict (hearing row contexts item heard) here) all

  row_each : (r : Option (Row K)) (cookie : ℕ) (item : Item) (d : Doing K) → value_at cookie d.state.rows ≡ r → EachFlies holds d.state.rows → EachFlies holds (file_row r cookie item d).state.rows
  row_each None cookie item d at all = all
  row_each (Some row) cookie item d at all = flight_each row.flight row cookie item d (each_at cookie row d.state.rows all at) all

  pub file_each : (cookie : ℕ) (item : Item) (d : Doing K) → EachFlies holds d.state.rows → EachFlies holds (file_in cookie item d).state.rows
  file_each cookie item d all = row_each (value_at cookie d.state.rows) cookie item d refl all

  pub file_all_each : (item : Item) (cookies : List ℕ) (d : Doing K) → EachFlies holds d.state.rows → EachFlies holds (file_all item cookies d).state.rows
  file_all_each item [] d all = all
  file_all_each item (cookie ∷ cookies) d all = file_all_each item cookies (file_in cookie item d) (file_each cookie item d all)

module _ {K : Type 0} where
  -- Filing leaves the stage and what was agreed.

  seen_flight : (f : Option (Flight K)) (row : Row K) (cookie : ℕ) (item : Item) (d : Doing K) → ((file_flight f row cookie item d).state.stage ≡ d.state.stage) × ((file_flight f row cookie item d).state.talk ≡ d.state.talk)
  seen_flight None row cookie item d = (refl, refl)
  seen_flight (Some flight) row cookie item d = (refl, refl)

  seen_row : (r : Option (Row K)) (cookie : ℕ) (item : Item) (d : Doing K) → ((file_row r cookie item d).state.stage ≡ d.state.stage) × ((file_row r cookie item d).state.talk ≡ d.state.talk)
  seen_row None cookie item d = (refl, refl)
  seen_row (Some row) cookie item d = seen_flight row.flight row cookie item d

  pub seen_in : (cookie : ℕ) (item : Item) (d : Doing K) → ((file_in cookie item d).state.stage ≡ d.state.stage) × ((file_in cookie item d).state.talk ≡ d.state.talk)
  seen_in cookie item d = seen_row (value_at cookie d.state.rows) cookie item d

  pub seen_all : (item : Item) (cookies : List ℕ) (d : Doing K) → ((file_all item cookies d).state.stage ≡ d.state.stage) × ((file_all item cookies d).state.talk ≡ d.state.talk)
  seen_all item [] d = (refl, refl)
  seen_all item (cookie ∷ cookies) d =
      let rest = seen_all item cookies (file_in cookie item d) in
      let one = seen_in cookie item d in
      (rest.0 ∙ one.0, rest.1 ∙ one.1)

  pub killed_stage : (cause : Cause) (d : Doing K) → (kill cause d).state.stage ≡ Dead cause
  killed_stage cause d = (seen_all Lost (keys d.state.rows) (on_state (λ state. record state { stage = Dead cause; waits = [] }) d)).0

module _ {K : Type 0} (holds : Kind → ℕ → Flight K → Type 0) where
  -- It holds of each command in flight, and what was agreed is in order.
  abbrev pub Lasting : State K → Type 0
  Lasting state = EachFlies holds state.rows × AreOrdered state.talk.structured state.talk.extended

  in_lasting : (cookie : ℕ) (item : Item) (d : Doing K) → Lasting d.state → Lasting (file_in cookie item d).state
  in_lasting cookie item d l = (file_each holds cookie item d l.0, subst (λ (t : Talk). AreOrdered t.structured t.extended) (sym (seen_in cookie item d).1) l.1)

  all_lasting : (item : Item) (cookies : List ℕ) (d : Doing K) → Lasting d.state → Lasting (file_all item cookies d).state
  all_lasting item cookies d l = (file_all_each holds item cookies d l.0, subst (λ (t : Talk). AreOrdered t.structured t.extended) (sym (seen_all item cookies d).1) l.1)

  pub kill_lasting : (cause : Cause) (d : Doing K) → Lasting d.state → Lasting (kill cause d).state
  kill_lasting cause d l = all_lasting Lost (keys d.state.rows) (on_state (λ state. record state { stage = Dead cause; waits = [] }) d) l

  pub closing_lasting : (n : ℕ) (d : Doing K) → Lasting d.state → Lasting (ended_closing n d).state
  closing_lasting zero d l = l
  closing_lasting (suc n) d l = kill_lasting ended.Ended d l

  refused_lasting : (p : Phase) (d : Doing K) → Lasting d.state → Lasting (if_refused p d).state
  refused_lasting phase.Greeting d l = l
  refused_lasting (phase.Asked option) d l = l
  refused_lasting phase.AskedByName d l = l
  refused_lasting phase.OptMode d l = l
  refused_lasting phase.Ready d l = l
  refused_lasting (phase.Refused code) d l = kill_lasting (ended.Refused opt_go code) d l

  enter_lasting : (found : Shown) (d : Doing K) → Lasting d.state → Lasting (enter found d).state
  enter_lasting (Hello flags) d l = l
  enter_lasting (OptionReply told) d l = refused_lasting (taking (Replied told) d.state.talk).phase (on_state (turned (Replied told)) d) (l.0, replied_ordered (end_of told) told d.state.talk l.1)
  enter_lasting (ExportReply size flags) d l = l
  enter_lasting (Reply frame) d l = in_lasting frame.cookie (Framed frame.content frame.last) d l
  enter_lasting (Broken breach) d l = kill_lasting (ended.Broke breach) d l
  enter_lasting Passed d l = l
  enter_lasting Ignored d l = l

  module _ {World : Type 0} (steps : World → List (Call K) → World → Type 0) where
    -- It lasts while bytes arrive.
    pub runs_lasting : (bytes : List ℕ) (old new : Machine K) (before after : World) → Runs steps (arriving bytes) old new before after → Lasting old.known → Lasting new.known
    runs_lasting bytes old new before after r l =
        subst (λ h. Lasting h.known.state) (r.does [] [])
        (feed_lasts (table_rules {K = K}) (λ d. Lasting d.state) (λ d shown found p e. enter_lasting found d p) (under old (r.answers ++ []) []) bytes l)

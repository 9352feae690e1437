-- The machine files what the history files.
use Rattle.std.proofs.Common.{◌≡◌, ℕ, Bool, true, false, not, ◌&&◌, ◌||◌, List, [], ◌∷◌, ◌++◌, map, Option, Some, None, is_some, refl, ap, sym, ◌∙◌, if◌then◌else◌, append_assoc}
use Rattle.std.proofs.lemmas.Bool.{false≢true}
use Rattle.lnbd_model.specs.declared.state.Cause.{Cause}
use Rattle.lnbd_model.specs.declared.export.Context.{Context as MetaContext}
use Rattle.lnbd_callbacks.specs.Calls.{Call}
use Rattle.lnbd_keyed.specs.Keyed.{value_at, keys}
use Rattle.lnbd_history.specs.declared.kinds.Stage.TheVariants.{Closed, Dead}
use Rattle.lnbd_history.specs.Commands.{Request}
use Rattle.lnbd_history.specs.Events.{Answer, History}
use Rattle.lnbd_outcome.specs.Hearing.{Hearing}
use Rattle.lnbd_history.specs.Entries.{Item, Lost, Dropped, Filing, Entry, Filed, Act, completes, hears, own, is_ended, is_retired, kept_by, error_in, bytes_in, hearing_in, filing_acts, acts_of, note_of, call_of, frees}
use Rattle.lnbd_history.specs.Entries as entries
use Rattle.lnbd_history.specs.History.{Known, asked, request, is_taken, cookies, next_heard, next_verdict, left, filing_of, agreed_contexts, answers_after, in_flight, file, file_under, die, strict_mode}
use Rattle.lnbd_history.specs.History as h
use Rattle.lnbd_machine.specs.Machine.{Row, State, Doing, hearing, heard_in, add, result_bytes, error_of_row, acts_in, file_state, file_flight, file_row, file_in, file_all, on_state, kill}
use Rattle.lnbd_machine.specs.Machine as m
use Rattle.lnbd_machine.proofs.Fold.{row_of, row_heard, row_flight, row_hears, error_heard, bytes_handed, flight_if}
use Rattle.lnbd_machine.proofs.Speaking.{Speaks, speaks_dead, speaks_closed}
use Rattle.lnbd_machine.proofs.Table.{Tabled, Flies, row_at, filed_same}
use Rattle.lnbd_machine.proofs.Walk.{walk_keys}

-- the machine's state beside what is known
pub record Stands {K : Type 0} (before : History K) (state : State K) (known : Known K) : Type 0 where
  pub speaks : Speaks (asked before).wrote state.stage state.flags state.passed state.talk state.waits state.written known.stage known.flags known.passed known.turns known.parts
  pub strict_is : state.strict ≡ strict_mode before
  pub tabled : Tabled (asked before).issued (asked before).admitted (request before) (is_taken before) state.issued state.admitted state.freed state.rows state.done state.notes known.entries

-- the same in an event, with the calls that were made before it
pub record Same {K : Type 0} (before : History K) (earlier : List (Call K)) (doing : Doing K) (known : Known K) : Type 0 where
  pub stands : Stands before doing.state known
  pub answers_are : doing.answers ≡ known.answers
  pub calls_are : earlier ++ doing.calls ≡ entries.calls known.entries

module _ {K : Type 0} (before : History K) (earlier : List (Call K)) where
  -- a command in flight
  found : (doing : Doing K) (known : Known K) (c : ℕ) → Same before earlier doing known → in_flight before known.entries c ≡ true → (q : Request K) × Flies (request before) (is_taken before) known.entries c q
  found doing known c same e = go (request before c) refl (is_ended (own c known.entries)) refl e
    where
      go : (q : Option (Request K)) → request before c ≡ q → (b : Bool) → is_ended (own c known.entries) ≡ b → (is_some q && not b) ≡ true → (q : Request K) × Flies (request before) (is_taken before) known.entries c q
      go None w b v f = absurd (false≢true f)
      go (Some q) w true v f = absurd (false≢true f)
      go (Some q) w false v f = (q, record { asked_for = w; here = here (is_taken before c || is_retired (own c known.entries)) refl; going = v })
        where
          here : (g : Bool) → (is_taken before c || is_retired (own c known.entries)) ≡ g → (is_taken before c || is_retired (own c known.entries)) ≡ false
          here true e2 = absurd (false≢true (sym v ∙ same.stands.tabled.over c e2))
          here false e2 = e2

  -- a verdict is there only where the command completes
  decided_by : (b : Bool) (answers : List Answer) → is_some (kept_by (next_verdict b answers)) ≡ true → b ≡ true
  decided_by true answers e = refl
  decided_by false answers e = e

  module _ (doing : Doing K) (known : Known K) (c : ℕ) (item : Item) (q : Request K) (same : Same before earlier doing known) (flies : Flies (request before) (is_taken before) known.entries c q) where
    mine : List (Filing K)
    mine = own c known.entries

    agreed : List MetaContext
    agreed = agreed_contexts known

    f : Filing K
    f = filing_of q c (own c known.entries) (agreed_contexts known) item known.answers

    row : Row K
    row = row_of q mine

    row_is : value_at c doing.state.rows ≡ Some row
    unfolding mine row
    row_is = same.stands.tabled.rows_are c ∙ ap (λ (b : Bool). row_at b mine (request before c)) flies.here ∙ ap (λ a. row_at false mine a) flies.asked_for

    flight_is : row.flight ≡ Some q.flight
    unfolding mine row
    flight_is = row_flight q mine ∙ ap (λ (b : Bool). flight_if b q.flight) flies.going

    contexts_are : doing.state.talk.contexts ≡ agreed
    unfolding agreed
    contexts_are = ap (λ t. t.contexts) same.stands.speaks.talk_is

    -- the filing where these contexts are agreed, the callback is told this, and these answers are given
    filed_as : List MetaContext → Option Hearing → List Answer → Doing K
    filed_as contexts told answers =
        let heard = next_heard (hears q.flight told) answers in
        let verdict = next_verdict (completes item) (left (hears q.flight told) answers) in
        let acts = acts_in row q.flight contexts item heard verdict in
        record {
          state = file_state c (add row contexts item heard verdict) item verdict acts doing.state;
          answers = left (completes item) (left (hears q.flight told) answers);
          calls = doing.calls ++ map call_of acts;
        }

    -- the same with these calls
    target : List (Act K) → Doing K
    target acts = record {
      state = file_state c (add row f.contexts item f.heard f.verdict) item f.verdict acts doing.state;
      answers = answers_after q mine agreed item known.answers;
      calls = doing.calls ++ map call_of acts;
    }

    acts_are : acts_in row q.flight f.contexts item f.heard f.verdict ≡ acts_of f mine
    unfolding mine f row
    acts_are =
        let now = row_heard q mine f in
        ap (λ t. filing_acts q.flight t item f.heard f.verdict (error_of_row now) (result_bytes now)) (row_hears q mine flies.going f.contexts item)
        ∙ ap (λ (e : ℕ). filing_acts q.flight (hearing_in q mine f.contexts item) item f.heard f.verdict e (result_bytes now)) (error_heard q mine flies.going f)
        ∙ ap (λ (b : List ℕ). filing_acts q.flight (hearing_in q mine f.contexts item) item f.heard f.verdict (error_in q (f ∷ mine)) b) (bytes_handed q mine f flies.going)

    file_is : file_in c item doing ≡ target (acts_of f mine)
    unfolding filed_as target mine f row agreed
    file_is =
        ap (λ r. file_row r c item doing) row_is ∙ ap (λ fl. file_flight fl row c item doing) flight_is
        ∙ ap (λ x. filed_as x (heard_in row x item) doing.answers) contexts_are
        ∙ ap (λ t. filed_as agreed t doing.answers) (row_hears q mine flies.going agreed item)
        ∙ ap (λ a. filed_as agreed (hearing_in q mine agreed item) a) same.answers_are
        ∙ ap target acts_are

    after : Known K
    after = record known { entries = Filed f ∷ known.entries; answers = answers_after q mine agreed item known.answers }

    after_is : file before c item known ≡ after
    unfolding after f mine agreed
    after_is = ap (λ a. file_under a c item known) flies.asked_for

    target_same : Same before earlier (target (acts_of f mine)) after
    unfolding target after f mine row agreed
    target_same = record {
      stands = record {
        speaks = same.stands.speaks;
        strict_is = same.stands.strict_is;
        tabled = filed_same (asked before).issued (asked before).admitted (request before) (is_taken before) doing.state.issued doing.state.admitted doing.state.freed doing.state.rows doing.state.done doing.state.notes known.entries same.stands.tabled f flies
            (decided_by (completes item) (left (hears q.flight (hearing_in q mine agreed item)) known.answers));
      };
      answers_are = refl;
      calls_are = sym (append_assoc earlier doing.calls (map call_of (acts_of f mine))) ∙ ap (λ (cs : List (Call K)). cs ++ map call_of (acts_of f mine)) same.calls_are;
    }

    filed_good : Same before earlier (file_in c item doing) (file before c item known)
    filed_good = rw (file_is, after_is) target_same

  pub file_good : (doing : Doing K) (known : Known K) (c : ℕ) (item : Item) → Same before earlier doing known → in_flight before known.entries c ≡ true → Same before earlier (file_in c item doing) (file before c item known)
  file_good doing known c item same e = let there = found doing known c same e in filed_good doing known c item there.0 same there.1

  -- nothing is filed where the command isn't in flight
  idle_row : (doing : Doing K) (c : ℕ) (item : Item) (gone : Bool) (filed : List (Filing K)) (asks : Option (Request K)) → (is_some asks && not (is_ended filed)) ≡ false → file_row (row_at gone filed asks) c item doing ≡ doing
  idle_row doing c item true filed asks e = refl
  idle_row doing c item false filed None e = refl
  idle_row doing c item false filed (Some q) e = go (is_ended filed) refl e
    where
      go : (b : Bool) → is_ended filed ≡ b → not b ≡ false → file_flight (row_of q filed).flight (row_of q filed) c item doing ≡ doing
      go true w f = ap (λ fl. file_flight fl (row_of q filed) c item doing) (row_flight q filed ∙ ap (λ (b : Bool). flight_if b q.flight) w)
      go false w f = absurd (false≢true (sym f))

  idle : (doing : Doing K) (known : Known K) (c : ℕ) (item : Item) → Same before earlier doing known → in_flight before known.entries c ≡ false → file_in c item doing ≡ doing
  idle doing known c item same e =
      ap (λ r. file_row r c item doing) (same.stands.tabled.rows_are c)
      ∙ idle_row doing c item (is_taken before c || is_retired (own c known.entries)) (own c known.entries) (request before c) e

  one_good : (doing : Doing K) (known : Known K) (c : ℕ) (item : Item) → Same before earlier doing known → Same before earlier (file_in c item doing) (if in_flight before known.entries c then file before c item known else known)
  one_good doing known c item same = go (in_flight before known.entries c) refl
    where
      go : (b : Bool) → in_flight before known.entries c ≡ b → Same before earlier (file_in c item doing) (if b then file before c item known else known)
      go true e = file_good doing known c item same e
      go false e = rw (idle doing known c item same e) same

  all_good : (item : Item) (list : List ℕ) (doing : Doing K) (known : Known K) → Same before earlier doing known → Same before earlier (file_all item list doing) (h.file_all before item list known)
  all_good item [] doing known same = same
  all_good item (c ∷ list) doing known same = all_good item list (file_in c item doing) (if in_flight before known.entries c then file before c item known else known) (one_good doing known c item same)

  -- over the table's cookies
  keys_good : (item : Item) (doing : Doing K) (known : Known K) → Same before earlier doing known → Same before earlier (file_all item (keys doing.state.rows) doing) (h.file_all before item (cookies (asked before).issued) known)
  keys_good item doing known same =
      let walked = walk_keys item (asked before).issued doing same.stands.tabled.rising same.stands.tabled.above same.stands.tabled.below in
      rw walked (all_good item (cookies (asked before).issued) doing known same)

  pub kill_good : (cause : Cause) (doing : Doing K) (known : Known K) → Same before earlier doing known → Same before earlier (kill cause doing) (die before cause known)
  kill_good cause doing known same = keys_good Lost (on_state (λ state. record state { stage = Dead cause; waits = [] }) doing) (record known { stage = Dead cause }) (record {
    stands = record { speaks = speaks_dead _ _ _ _ _ _ _ _ _ _ _ _ same.stands.speaks cause; strict_is = same.stands.strict_is; tabled = same.stands.tabled };
    answers_are = same.answers_are;
    calls_are = same.calls_are;
  })

  pub close_good : (doing : Doing K) (known : Known K) → Same before earlier doing known → Same before earlier (m.closed doing) (h.closed before known)
  close_good doing known same = keys_good Dropped (on_state (λ state. record state { stage = Closed; waits = [] }) doing) (record known { stage = Closed }) (record {
    stands = record { speaks = speaks_closed _ _ _ _ _ _ _ _ _ _ _ _ same.stands.speaks; strict_is = same.stands.strict_is; tabled = same.stands.tabled };
    answers_are = same.answers_are;
    calls_are = same.calls_are;
  })

-- Bytes are judged alike by the machine and by the history.
use Rattle.std.proofs.Common.{◌≡◌, ℕ, ◌+◌, Bool, true, false, ◌||◌, List, [], ◌∷◌, Option, Some, None, refl, ap, sym, subst, ◌∙◌, nat_le, ◌⊎◌, inl, inr}
use Rattle.lnbd_model.specs.declared.kind.Kind.{Kind}
use Rattle.lnbd_model.specs.declared.state.Cause.TheVariants as cause
use Rattle.lnbd_callbacks.specs.Calls.{Call}
use Rattle.lnbd_keyed.specs.Keyed.{value_at}
use Rattle.lnbd_stream.specs.Laws.{Alike}
use Rattle.lnbd_history.specs.declared.kinds.Phase.{Phase}
use Rattle.lnbd_history.specs.declared.kinds.Phase.TheVariants as phase
use Rattle.lnbd_history.specs.declared.kinds.Stage.{Stage}
use Rattle.lnbd_history.specs.Agreement.{Turn, Replied, ByName, phase}
use Rattle.lnbd_history.specs.Agreement as turn
use Rattle.lnbd_history.specs.Arrivals.{Frame, Shown, Hello, OptionReply, ExportReply, Reply, Broken, Passed, Ignored, Waiting, Sight, has_bit, shows_at}
use Rattle.lnbd_history.specs.Commands.{Request}
use Rattle.lnbd_history.specs.Entries.{Filing, Framed, own, is_ended, is_retired}
use Rattle.lnbd_history.specs.Events.{History}
use Rattle.lnbd_history.specs.History.{Known, asked, request, is_taken, in_flight, rules, waiting_of}
use Rattle.lnbd_history.specs.History as h
use Rattle.lnbd_history.proofs.Flies.{is_over}
use Rattle.lnbd_history.specs.Outgoing.{plain, client_flags, whole}
use Rattle.lnbd_history.specs.Talk.{Talk, agreed}
use Rattle.lnbd_history.proofs.Flies.{frame_flies, alive_where, waiting_flies}
use Rattle.lnbd_machine.specs.Machine.{Row, State, Doing, on_state, waited_of, waiting_row, table_rules}
use Rattle.lnbd_machine.specs.Machine as m
use Rattle.lnbd_machine.proofs.Fold.{row_of, row_flight, row_kind, row_offset, row_length, row_faults, flight_if}
use Rattle.lnbd_machine.proofs.Speaking.{speaks_parts, speaks_flags, speaks_passed, speaks_turned}
use Rattle.lnbd_machine.proofs.Table.{row_at}
use Rattle.lnbd_machine.proofs.Filing.{Stands, Same, file_good, kill_good}

waiting : Kind → (offset length faults : ℕ) → Waiting
waiting kind offset length faults = record { kind = kind; offset = offset; length = length; faults = faults }

sight_of : Stage → Talk → (flags passed : ℕ) → Sight
sight_of stage talk flags passed = record { stage = stage; phase = talk.phase; count = talk.pending.count; size = talk.pending.size; no_zeroes = has_bit 2 flags; structured = talk.structured; extended = talk.extended; passed = passed }

module _ {K : Type 0} (before : History K) (earlier : List (Call K)) where
  sight_is : (state : State K) (known : Known K) → Stands before state known → m.sight state ≡ h.sight known
  unfolding sight_of
  sight_is state known stands =
      ap (λ s. sight_of s state.talk state.flags state.passed) stands.speaks.stage_is ∙ ap (λ t. sight_of known.stage t state.flags state.passed) stands.speaks.talk_is
      ∙ ap (λ f. sight_of known.stage (agreed known.turns) f state.passed) stands.speaks.flags_are ∙ ap (λ p. sight_of known.stage (agreed known.turns) known.flags p) stands.speaks.passed_is

  row_waits : (b gone : Bool) (mine : List (Filing K)) (asks : Option (Request K)) → (gone ≡ true → is_ended mine ≡ true) → waited_of b (row_at gone mine asks) ≡ waiting_of b (is_ended mine) mine asks
  unfolding waiting
  row_waits false gone mine asks over = refl
  row_waits true true mine asks over = ap (λ (e : Bool). waiting_of true e mine asks) (sym (over refl))
  row_waits true false mine None over = none (is_ended mine)
    where
      none : (e : Bool) → None ≡ waiting_of {K = K} true e mine None
      none true = refl
      none false = refl
  row_waits true false mine (Some q) over =
      ap (λ fl. waiting_row fl (row_of q mine)) (row_flight q mine) ∙ go (is_ended mine) refl
    where
      go : (e : Bool) → is_ended mine ≡ e → waiting_row (flight_if e q.flight) (row_of q mine) ≡ waiting_of true e mine (Some q)
      go true ended = refl
      go false live =
          let row = row_of q mine in
          ap (λ k. Some (waiting k row.offset row.length row.facts.faults)) (row_kind q mine)
          ∙ ap (λ (o : ℕ). Some (waiting q.kind o row.length row.facts.faults)) (row_offset q mine)
          ∙ ap (λ (l : ℕ). Some (waiting q.kind q.offset l row.facts.faults)) (row_length q mine)
          ∙ ap (λ (n : ℕ). Some (waiting q.kind q.offset q.length n)) (row_faults q mine live)

  pub waits_are : (state : State K) (known : Known K) → Stands before state known → (c : ℕ) → m.waited state c ≡ h.waited before known c
  waits_are state known stands c =
      ap (λ (n : ℕ). waited_of (nat_le c n) (value_at c state.rows)) stands.speaks.written_is
      ∙ ap (λ r. waited_of (nat_le c (whole known.parts (asked before).wrote)) r) (stands.tabled.rows_are c)
      ∙ row_waits (nat_le c (whole known.parts (asked before).wrote)) (is_taken before c || is_retired (own c known.entries)) (own c known.entries) (request before c) (stands.tabled.over c)

  shows_same : (state : State K) (known : Known K) (bytes : List ℕ) → Stands before state known → shows_at state.stage (m.sight state) (m.waited state) bytes ≡ shows_at known.stage (h.sight known) (h.waited before known) bytes
  shows_same state known bytes stands =
      let waited : m.waited state ≡ h.waited before known = λ i c. waits_are state known stands c i in
      ap (λ s. shows_at s (m.sight state) (m.waited state) bytes) stands.speaks.stage_is ∙ ap (λ x. shows_at known.stage x (m.waited state) bytes) (sight_is state known stands)
      ∙ ap (λ w. shows_at known.stage (h.sight known) w bytes) waited

  turned_good : (turn : Turn) (doing : Doing K) (known : Known K) → is_over known.stage ≡ false → Same before earlier doing known → Same before earlier (on_state (m.turned turn) doing) (h.turned turn known)
  turned_good turn doing known alive same = record {
    stands = record { speaks = speaks_turned _ _ _ _ _ _ _ _ _ _ _ _ turn alive same.stands.speaks; strict_is = same.stands.strict_is; tabled = same.stands.tabled };
    answers_are = same.answers_are;
    calls_are = same.calls_are;
  }

  greeted_good : (flags : ℕ) (doing : Doing K) (known : Known K) → is_over known.stage ≡ false → Same before earlier doing known → Same before earlier (on_state (m.greeted flags) doing) (h.greeted flags known)
  greeted_good flags doing known alive same = record {
    stands = record {
      speaks = speaks_turned _ _ _ _ _ _ _ _ _ _ _ _ turn.Hello alive (speaks_parts _ _ _ _ _ _ _ _ _ _ _ _ (speaks_flags _ _ _ _ _ _ _ _ _ _ _ _ same.stands.speaks flags) (plain (client_flags flags) ∷ []) alive);
      strict_is = same.stands.strict_is;
      tabled = same.stands.tabled;
    };
    answers_are = same.answers_are;
    calls_are = same.calls_are;
  }

  passed_good : (doing : Doing K) (known : Known K) → Same before earlier doing known → Same before earlier (on_state (λ state. record state { passed = state.passed + 1 }) doing) (record known { passed = known.passed + 1 })
  passed_good doing known same = record {
    stands = record { speaks = speaks_passed _ _ _ _ _ _ _ _ _ _ _ _ same.stands.speaks; strict_is = same.stands.strict_is; tabled = same.stands.tabled };
    answers_are = same.answers_are;
    calls_are = same.calls_are;
  }

  refused_good : (p : Phase) (doing : Doing K) (known : Known K) → Same before earlier doing known → Same before earlier (m.if_refused p doing) (h.if_refused p before known)
  refused_good (phase.Refused code) doing known same = kill_good before earlier (cause.Refused 7 code) doing known same
  refused_good (phase.Asked option) doing known same = same
  refused_good phase.Greeting doing known same = same
  refused_good phase.AskedByName doing known same = same
  refused_good phase.OptMode doing known same = same
  refused_good phase.Ready doing known same = same

  replied_good : (doing : Doing K) (known : Known K) → Same before earlier doing known → Same before earlier (m.replied doing) (h.replied before known)
  replied_good doing known same = subst (λ p. Same before earlier (m.if_refused p doing) (h.replied before known)) (sym (ap (λ t. t.phase) same.stands.speaks.talk_is)) (refused_good (phase known.turns) doing known same)

  entered_good : (doing : Doing K) (known : Known K) (shown : Shown) → (is_over known.stage ≡ false) ⊎ (shown ≡ Ignored) → ((frame : Frame) → shown ≡ Reply frame → in_flight before known.entries frame.cookie ≡ true) → Same before earlier doing known →
      Same before earlier (m.enter shown doing) (h.entered before shown known)
  entered_good doing known (Hello flags) (inl alive) flies same = greeted_good flags doing known alive same
  entered_good doing known (Hello flags) (inr e) flies same = cc
  entered_good doing known (OptionReply told) (inl alive) flies same = replied_good (on_state (m.turned (Replied told)) doing) (h.turned (Replied told) known) (turned_good (Replied told) doing known alive same)
  entered_good doing known (OptionReply told) (inr e) flies same = cc
  entered_good doing known (ExportReply size flags) (inl alive) flies same = turned_good (ByName size flags) doing known alive same
  entered_good doing known (ExportReply size flags) (inr e) flies same = cc
  entered_good doing known (Reply frame) alive flies same = file_good before earlier doing known frame.cookie (Framed frame.content frame.last) same (flies frame refl)
  entered_good doing known (Broken breach) alive flies same = kill_good before earlier (cause.Broke breach) doing known same
  entered_good doing known Passed alive flies same = passed_good doing known same
  entered_good doing known Ignored alive flies same = same

  pub alike : Alike table_rules (rules before) (Same before earlier)
  alike = record {
    shows = λ doing known bytes same. shows_same doing.state known bytes same.stands;
    enter = λ doing known bytes shown same e. entered_good doing known shown (alive_where known.stage (h.sight known) (h.waited before known) bytes shown e)
        (λ frame is. frame_flies (in_flight before known.entries) (h.waited before known)
        (λ c command w. waiting_flies (nat_le c (whole known.parts (asked before).wrote)) (is_ended (own c known.entries)) (own c known.entries) (request before c) command w)
        known.stage (h.sight known) bytes frame (e ∙ ap (λ x. Some x) is)) same;
  }

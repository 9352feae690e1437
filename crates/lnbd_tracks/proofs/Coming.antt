-- What each filing under a command in flight keeps, whatever happens keeps.
use Rattle.std.proofs.Common.{◌≡◌, ℕ, zero, suc, Bool, true, false, not, ◌&&◌, List, [], ◌∷◌, Option, Some, None, is_some, refl, ap, sym, subst, ◌∙◌, nat_le, if◌then◌else◌}
use Rattle.std.proofs.lemmas.Bool.{false≢true}
use Rattle.lnbd_model.specs.declared.export.Context.{Context as MetaContext}
use Rattle.lnbd_model.specs.declared.state.Cause.{Cause}
use Rattle.lnbd_model.specs.declared.state.Cause.TheVariants as cause
use Rattle.lnbd_stream.specs.Stream.{Held}
use Rattle.lnbd_stream.specs.Laws.{Lasts}
use Rattle.lnbd_stream.proofs.Stream.{feed_lasts}
use Rattle.lnbd_history.specs.declared.kinds.Phase.{Phase}
use Rattle.lnbd_history.specs.declared.kinds.Phase.TheVariants as phase
use Rattle.lnbd_history.specs.declared.kinds.Stage.{Stage}
use Rattle.lnbd_history.specs.declared.kinds.Stage.TheVariants.{Created, Open, Disconnecting, Aborting, Closed, Dead}
use Rattle.lnbd_history.specs.Agreement.{Replied, phase}
use Rattle.lnbd_history.specs.Arrivals.{Frame, Shown, Hello, OptionReply, ExportReply, Reply, Broken, Passed, Ignored}
use Rattle.lnbd_history.specs.Commands.{Flight, Request, flight_of}
use Rattle.lnbd_history.specs.Entries.{Item, Framed, Lost, Dropped, Entry, Filed, Freed, Cleared, own, is_ended}
use Rattle.lnbd_history.specs.Events.{Answer, Event, History, Set, StrictMode, Start, Opt, Abort, Issue, Refuse, Disconnect, Wrote, Arrived, End, LinkFailed, Retire, ClearLog, Close}
use Rattle.lnbd_history.specs.History.{Known, asked, request, cookies, filing_of, agreed_contexts, file, file_under, file_all, in_flight, die, if_refused, turned, entered, sight, waited, rules, change, with_answers, ended_closing, ended_at, failed_at, flying, closed, reading}
use Rattle.lnbd_history.specs.Outgoing.{whole}
use Rattle.lnbd_history.proofs.Flies.{frame_flies, waiting_flies}

-- A fact of what was filed, that each filing of such an item under a command in flight keeps.
module _ {K : Type 0} (before : History K) (P : List (Entry K) → Type 0) (Allowed : Item → Type 0)
    (filed : (asks : Request K) (cookie : ℕ) (item : Item) (contexts : List MetaContext) (answers : List Answer) (entries : List (Entry K)) → Allowed item → request before cookie ≡ Some asks → is_ended (own cookie entries) ≡ false → P entries →
    P (Filed (filing_of asks cookie (own cookie entries) contexts item answers) ∷ entries)) where
  file_keeps : (c : ℕ) (item : Item) (known : Known K) → Allowed item → in_flight before known.entries c ≡ true → P known.entries → P (file before c item known).entries
  file_keeps c item known a e p = go (request before c) refl (is_ended (own c known.entries)) refl e
    where
      go : (o : Option (Request K)) → request before c ≡ o → (b : Bool) → is_ended (own c known.entries) ≡ b → (is_some o && not b) ≡ true → P (file_under (request before c) c item known).entries
      go None w b v e = absurd (false≢true e)
      go (Some q) w true v e = absurd (false≢true e)
      go (Some q) w false v e = subst (λ a. P (file_under a c item known).entries) (sym w) (filed q c item (agreed_contexts known) known.answers known.entries a w v p)

  one_keeps : (c : ℕ) (item : Item) (known : Known K) → Allowed item → P known.entries → P (if in_flight before known.entries c then file before c item known else known).entries
  one_keeps c item known a p = go (in_flight before known.entries c) refl
    where
      go : (b : Bool) → in_flight before known.entries c ≡ b → P (if b then file before c item known else known).entries
      go true e = file_keeps c item known a e p
      go false e = p

  pub all_keep : (item : Item) (list : List ℕ) (known : Known K) → Allowed item → P known.entries → P (file_all before item list known).entries
  all_keep item [] known a p = p
  all_keep item (c ∷ list) known a p = all_keep item list (if in_flight before known.entries c then file before c item known else known) a (one_keeps c item known a p)

  pub closed_keeps : (known : Known K) → Allowed Dropped → P known.entries → P (closed before known).entries
  closed_keeps known a p = all_keep Dropped (cookies (asked before).issued) (record known { stage = Closed }) a p

  -- Each item keeps it, and so do the frees of a refused command, and the clearing of the log.
  module _ (every : (item : Item) → Allowed item) (freed : (flight : Flight K) (entries : List (Entry K)) → P entries → P (Freed flight ∷ entries)) (cleared : (entries : List (Entry K)) → P entries → P (Cleared ∷ entries)) where
    die_keeps : (reason : Cause) (known : Known K) → P known.entries → P (die before reason known).entries
    die_keeps reason known p = all_keep Lost (cookies (asked before).issued) (record known { stage = Dead reason }) (every Lost) p

    refused_keeps : (p : Phase) (known : Known K) → P known.entries → P (if_refused p before known).entries
    refused_keeps (phase.Refused code) known h = die_keeps (cause.Refused 7 code) known h
    refused_keeps (phase.Asked option) known h = h
    refused_keeps phase.Greeting known h = h
    refused_keeps phase.AskedByName known h = h
    refused_keeps phase.OptMode known h = h
    refused_keeps phase.Ready known h = h

    entered_keeps : (known : Known K) (shown : Shown) → ((frame : Frame) → shown ≡ Reply frame → in_flight before known.entries frame.cookie ≡ true) → P known.entries → P (entered before shown known).entries
    entered_keeps known (Hello flags) flies p = p
    entered_keeps known (OptionReply told) flies p = refused_keeps (phase (Replied told ∷ known.turns)) (turned (Replied told) known) p
    entered_keeps known (ExportReply size flags) flies p = p
    entered_keeps known (Reply frame) flies p = file_keeps frame.cookie (Framed frame.content frame.last) known (every (Framed frame.content frame.last)) (flies frame refl) p
    entered_keeps known (Broken breach) flies p = die_keeps (cause.Broke breach) known p
    entered_keeps known Passed flies p = p
    entered_keeps known Ignored flies p = p

    lasts : Lasts (rules before) (λ known. P known.entries)
    lasts known bytes shown p e = entered_keeps known shown
        (λ frame is. frame_flies (in_flight before known.entries) (waited before known)
        (λ c command w. waiting_flies (nat_le c (whole known.parts (asked before).wrote)) (is_ended (own c known.entries)) (own c known.entries) (request before c) command w)
        known.stage (sight known) bytes frame (e ∙ ap (λ x. Some x) is)) p

    closing_keeps : (n : ℕ) (known : Known K) → P known.entries → P (ended_closing n before known).entries
    closing_keeps zero known p = p
    closing_keeps (suc n) known p = die_keeps cause.Ended known p

    end_keeps : (s : Stage) (held : Held (Known K)) → P held.known.entries → P (ended_at s before held).known.entries
    end_keeps Open held p = die_keeps cause.Ended held.known p
    end_keeps Disconnecting held p = closing_keeps (flying before held.known.entries (asked before).issued) held.known p
    end_keeps Aborting held p = closing_keeps (flying before held.known.entries (asked before).issued) held.known p
    end_keeps Created held p = p
    end_keeps Closed held p = p
    end_keeps (Dead reason) held p = p

    fail_keeps : (s : Stage) (held : Held (Known K)) → P held.known.entries → P (failed_at s before held).known.entries
    fail_keeps Open held p = die_keeps cause.LinkFailed held.known p
    fail_keeps Disconnecting held p = die_keeps cause.LinkFailed held.known p
    fail_keeps Aborting held p = die_keeps cause.LinkFailed held.known p
    fail_keeps Created held p = p
    fail_keeps Closed held p = p
    fail_keeps (Dead reason) held p = p

    arrived_keeps : (bytes : List ℕ) (answers : List Answer) → P (reading before).known.entries → P (reading (Arrived bytes answers ∷ before)).known.entries
    arrived_keeps bytes answers p = feed_lasts (rules before) (λ known. P known.entries) lasts (change (with_answers answers) (reading before)) bytes p

    pub event_keeps : (event : Event K) → P (reading before).known.entries → P (reading (event ∷ before)).known.entries
    event_keeps (Set setting) p = p
    event_keeps (StrictMode bits) p = p
    event_keeps Start p = p
    event_keeps (Opt option) p = p
    event_keeps Abort p = p
    event_keeps (Issue command) p = p
    event_keeps (Refuse command why) p = freed (flight_of (asked before).admitted command.first command.done) (reading before).known.entries p
    event_keeps Disconnect p = p
    event_keeps (Wrote n) p = p
    event_keeps (Arrived bytes answers) p = arrived_keeps bytes answers p
    event_keeps (End answers) p = end_keeps (reading before).known.stage (change (with_answers answers) (reading before)) p
    event_keeps (LinkFailed answers) p = fail_keeps (reading before).known.stage (change (with_answers answers) (reading before)) p
    event_keeps (Retire cookie) p = p
    event_keeps ClearLog p = cleared (reading before).known.entries p
    event_keeps Close p = closed_keeps (with_answers [] (reading before).known) (every Dropped) p

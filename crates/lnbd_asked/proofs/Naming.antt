-- Which export the link of a handle is of, and what it tells of it.
use Rattle.std.proofs.Common.{◌≡◌, ℕ, ◌≤◌, true, false, List, [], ◌∷◌, ◌++◌, length, Some, None, refl, ap, sym, subst, ◌∙◌, arith, ◌⊎◌, inl, inr, length-append}
use Rattle.std.proofs.lemmas.Bool.{false≢true}
use Rattle.lnbd_records.specs.Limits.{max_text}
use Rattle.lnbd_stream.specs.Stream.{Held}
use Rattle.lnbd_link.specs.Call.{Call, Read, Write, Moved, Unready, Ended, ReadFault, Sent, Full, WriteFault}
use Rattle.lnbd_history.specs.declared.kinds.Phase.TheVariants.{Ready}
use Rattle.lnbd_history.specs.Agreement.{Export, phase, steps, export, extended, name_now}
use Rattle.lnbd_history.specs.Agreement as turn
use Rattle.lnbd_history.specs.Events.{Name, Context, Structured, Extended, Event, History, StrictMode, Start, Opt, Abort, Issue, Refuse, Disconnect, Wrote, Arrived, End, LinkFailed, Retire, ClearLog, Close}
use Rattle.lnbd_history.specs.Events as event
use Rattle.lnbd_history.specs.History.{asked, reading}
use Rattle.lnbd_history.specs.Answers.{state_after}
use Rattle.lnbd_history.specs.Laws.{Lawful, CanFollow, may_name, is_closed}
use Rattle.lnbd_history.specs.Outgoing.{total}
use Rattle.lnbd_asked.specs.Client.{Said, Wish}
use Rattle.lnbd_asked.specs.Driven.{Drives, Begins, Does, Passes, Writes, Writes_none, Reads, Reads_none, Arrives, Ends, Fails_to_read, Fails_to_write, AllSpell, Spells, written}
use Rattle.lnbd_asked.specs.Exports.{name_set, export_known, size_known, WasToldExport, DrivenIsOf, DrivenTells, DrivenAreOf, DrivenTell}
use Rattle.lnbd_asked.specs.Link.{Link, Both}
use Rattle.lnbd_asked.specs.Parts.{count}
use Rattle.lnbd_asked.specs.Transcript.{name_asked, export_at, export_told, size_of, size_told, untold, after_calls}
use Rattle.lnbd_asked.proofs.Acting.{not_begun}
use Rattle.lnbd_asked.proofs.Alive.{Haggles, Transmits, Alive, Stands}
use Rattle.lnbd_asked.proofs.Asks.{wishes_of, IsTail, AllNamed, HaveName, name_same, named_is, named_only, named_tail, none_asked}
use Rattle.lnbd_asked.proofs.Chain.{Reaches}
use Rattle.lnbd_asked.proofs.Comes.{in_step_tells}
use Rattle.lnbd_asked.proofs.Driving.{At, drives_at, held_of, one_call}
use Rattle.lnbd_asked.proofs.Exported.{exported_ready, of_size, sized_as, sizes_are_of_exports}
use Rattle.lnbd_asked.proofs.Haggling.{waiting_untold, unsized_by, untold_by}
use Rattle.lnbd_asked.proofs.Keeping.{reaches_options}
use Rattle.lnbd_asked.proofs.Plain.{IsPlain, plain_before}
use Rattle.lnbd_asked.proofs.Sending.{Sends, sends_whole, sends_left}
use Rattle.lnbd_asked.proofs.Staying.{names_kept, turns_stay}
use Rattle.lnbd_asked.proofs.Wished.{Asks, asks_keep, needs_name, Since, since_keep, read_keeps, call_keeps, calls_keep}

none_some : (size : ℕ) → None ≡ Some size → ⊥
none_some size e = cc

-- A tail is no longer than all.
as_long : (some all : List Wish) → IsTail some all → length some ≤ length all
as_long some all t = let n = ap length t.is in let m = length-append t.later some in omega (arith, n, m)

module _ {K : Type 0} where
  -- The options that a handle asks have the name that was set last.

  set_named : (limit link : ℕ) (calls : List Call) (before : History K) (left : List ℕ) (name : List ℕ) → At link calls before left → may_name (state_after before) ≡ true → length name ≤ max_text → HaveName (turn.Set (Name name) ∷ (reading before).known.turns)
  set_named limit link calls before left name at may short =
      let n = not_begun before (reading before) (held_of at.before) at.before.written at.stands may in
      record { short = short; named = subst (AllNamed name) (sym (none_asked (reading before).known.turns (n.1.started n.2))) tt }

  does_named : (limit link : ℕ) (calls : List Call) (before : History K) (left : List ℕ) (one : Event K) → At link calls before left → CanFollow limit before one → Spells before one → HaveName (reading before).known.turns → HaveName (reading (one ∷ before)).known.turns
  does_named limit link calls before left (event.Set (Name name)) at can fits h = set_named limit link calls before left name at can fits
  does_named limit link calls before left (event.Set (Context name)) at can fits h = name_same (turn.Set (Context name) ∷ (reading before).known.turns) (reading before).known.turns refl refl h
  does_named limit link calls before left (event.Set (Structured on)) at can fits h = name_same (turn.Set (Structured on) ∷ (reading before).known.turns) (reading before).known.turns refl refl h
  does_named limit link calls before left (event.Set (Extended on)) at can fits h = name_same (turn.Set (Extended on) ∷ (reading before).known.turns) (reading before).known.turns refl refl h
  does_named limit link calls before left (event.Set (event.OptMode on)) at can fits h = name_same (turn.Set (event.OptMode on) ∷ (reading before).known.turns) (reading before).known.turns refl refl h
  does_named limit link calls before left (StrictMode bits) at can fits h = names_kept before (StrictMode bits) refl h
  does_named limit link calls before left Start at can fits h = names_kept before Start refl h
  does_named limit link calls before left (Opt option) at can fits h = names_kept before (Opt option) refl h
  does_named limit link calls before left Abort at can fits h = names_kept before Abort refl h
  does_named limit link calls before left (Issue command) at can fits h = names_kept before (Issue command) refl h
  does_named limit link calls before left (Refuse command why) at can fits h = names_kept before (Refuse command why) refl h
  does_named limit link calls before left Disconnect at can fits h = names_kept before Disconnect refl h
  does_named limit link calls before left (Wrote n) at can fits h = names_kept before (Wrote n) refl h
  does_named limit link calls before left (Arrived bytes answers) at can fits h = names_kept before (Arrived bytes answers) refl h
  does_named limit link calls before left (End answers) at can fits h = names_kept before (End answers) refl h
  does_named limit link calls before left (LinkFailed answers) at can fits h = names_kept before (LinkFailed answers) refl h
  does_named limit link calls before left (Retire cookie) at can fits h = names_kept before (Retire cookie) refl h
  does_named limit link calls before left ClearLog at can fits h = names_kept before ClearLog refl h
  does_named limit link calls before left Close at can fits h = names_kept before Close refl h

  names_at : (limit link : ℕ) (calls : List Call) (history : History K) (left : List ℕ) → Drives link calls history left → Lawful limit history → AllSpell history → is_closed history ≡ false → IsPlain history → HaveName (reading history).known.turns
  names_at limit link _ _ _ Begins lawful fits live plain = record { short = omega arith; named = tt }
  names_at limit link calls _ left (Does _ before _ one d inward) lawful fits live plain =
      let was = plain_before limit before one lawful.2 live plain in
      does_named limit link calls before left one (drives_at limit link calls before left d lawful.0 fits.1 lawful.1 was) lawful.2 fits.0 (names_at limit link calls before left d lawful.0 fits.1 lawful.1 was)
  names_at limit link after history left (Passes calls _ _ call _ d off is) lawful fits live plain = names_at limit link calls history left d lawful fits live plain
  names_at limit link after _ _ (Writes calls before offered bytes _ d front is) lawful fits live plain =
      names_kept before (Wrote (length bytes)) refl (names_at limit link calls before [] d lawful.0 fits.1 lawful.1 (plain_before limit before (Wrote (length bytes)) lawful.2 live plain))
  names_at limit link after history left (Writes_none calls _ _ offered _ d is) lawful fits live plain = names_at limit link calls history left d lawful fits live plain
  names_at limit link after history more (Reads calls _ left room bytes _ _ d is joined) lawful fits live plain = names_at limit link calls history left d lawful fits live plain
  names_at limit link after history left (Reads_none calls _ _ room _ d is) lawful fits live plain = names_at limit link calls history left d lawful fits live plain
  names_at limit link calls _ left (Arrives _ before all bytes _ answers d joined) lawful fits live plain =
      names_kept before (Arrived bytes answers) refl (names_at limit link calls before all d lawful.0 fits.1 lawful.1 (plain_before limit before (Arrived bytes answers) lawful.2 live plain))
  names_at limit link after _ _ (Ends calls before room answers _ d living is) lawful fits live plain =
      names_kept before (End answers) refl (names_at limit link calls before [] d lawful.0 fits.1 lawful.1 (plain_before limit before (End answers) lawful.2 live plain))
  names_at limit link after _ _ (Fails_to_read calls before room answers _ d living is) lawful fits live plain =
      names_kept before (LinkFailed answers) refl (names_at limit link calls before [] d lawful.0 fits.1 lawful.1 (plain_before limit before (LinkFailed answers) lawful.2 live plain))
  names_at limit link after _ _ (Fails_to_write calls before offered answers _ d living is) lawful fits live plain =
      names_kept before (LinkFailed answers) refl (names_at limit link calls before [] d lawful.0 fits.1 lawful.1 (plain_before limit before (LinkFailed answers) lawful.2 live plain))

  -- What stands.

  module _ (history : History K) (h : Held Link) (now : List ℕ) where
    still_left : (a : Alive history (reading history) h now) (one : Said) (more : List Said) → a.asks ≡ one ∷ more → total (reading history).known.parts ≤ (asked history).wrote → ⊥
    still_left a one more e w = sends_left (extended (steps (reading history).known.turns)) (reading history).known.parts (asked history).wrote a.front (more ++ a.orders) one now
        (subst (λ xs. Sends (extended (steps (reading history).known.turns)) (reading history).known.parts (asked history).wrote a.front (xs ++ a.orders) now) e (a.sends (extended (steps (reading history).known.turns)) (λ r. refl))) w

    whole_is : (a : Alive history (reading history) h now) → written history ≡ count a.front
    whole_is a = sends_whole (extended (steps (reading history).known.turns)) (reading history).known.parts (asked history).wrote a.front (a.asks ++ a.orders) now (a.sends (extended (steps (reading history).known.turns)) (λ r. refl))

    -- where nothing is still to be asked and requests may be made
    record Through : Type 0 where
      ready : phase h.known.heard.turns ≡ Ready
      tells : export_told h.known ≡ export_known history
      options : h.known.wishes ≡ wishes_of (reading history).known.turns

    through : (a : Alive history (reading history) h now) → Transmits history (reading history).known a.v.known a.front a.asks a.orders → a.asks ≡ [] → Through
    through a t none =
        let same : h ≡ a.v = subst (λ xs. Reaches h xs a.v) none a.reach in
        record {
          ready = ap (λ k. phase k.known.heard.turns) same ∙ t.step.ready';
          tells = ap (λ k. export_told k.known) same ∙ in_step_tells history (count a.front) (reading history).known a.v.known t.step;
          options = ap (λ k. k.known.wishes) same ∙ a.options;
        }

    quiet_now : (front : List Said) (one : Said) (more asks : List Said) → asks ≡ one ∷ more → (asks ≡ []) ⊎ (count front ≡ 0) → count front ≡ 0
    quiet_now front one more asks e (inl none) = let n = ap length (sym e ∙ none) in absurd (omega (arith, n))
    quiet_now front one more asks e (inr z) = z

    -- a request was wholly written
    asked_through : Stands history (reading history) h now → 1 ≤ written history → Through
    asked_through (inr o) some = let none = o.unwritten in absurd (omega (arith, some, none))
    asked_through (inl a) some = go a.stands a.asks refl
      where
        go : Haggles history (reading history).known a.v.known a.front a.orders ⊎ Transmits history (reading history).known a.v.known a.front a.asks a.orders → (asks : List Said) → a.asks ≡ asks → Through
        go (inl g) asks e = let all = whole_is a in let none = g.counted in absurd (omega (arith, some, all, none))
        go (inr t) [] e = through a t e
        go (inr t) (one ∷ more) e = let all = whole_is a in let none = quiet_now a.front one more a.asks e t.quiet in absurd (omega (arith, some, all, none))

    -- the size is known and nothing waits
    told_through : Stands history (reading history) h now → (size : ℕ) → size_known history ≡ Some size → total (reading history).known.parts ≤ (asked history).wrote → Through
    told_through (inr o) size knew out = absurd (none_some size (sym (o.unsized out) ∙ knew))
    told_through (inl a) size knew out = go a.stands a.asks refl
      where
        go : Haggles history (reading history).known a.v.known a.front a.orders ⊎ Transmits history (reading history).known a.v.known a.front a.asks a.orders → (asks : List Said) → a.asks ≡ asks → Through
        go (inl g) asks e = absurd (none_some size (sym (unsized_by history (phase (reading history).known.turns) a.v.known (reading history).known g.meets) ∙ knew))
        go (inr t) [] e = through a t e
        go (inr t) (one ∷ more) e = absurd (still_left a one more e out)

    -- the link was told of an export
    export_so : Stands history (reading history) h now → (told : Export) → export_told h.known ≡ Some told → export_known history ≡ Some told
    export_so (inr o) told tells = absurd (none_some told.size (sym o.untold ∙ ap size_of tells))
    export_so (inl a) told tells = go a.stands a.asks refl a.reach
      where
        go : Haggles history (reading history).known a.v.known a.front a.orders ⊎ Transmits history (reading history).known a.v.known a.front a.asks a.orders → (asks : List Said) → a.asks ≡ asks → Reaches h asks a.v → export_known history ≡ Some told
        go s (one ∷ more) e r = absurd (none_some told.size (sym (waiting_untold h.known r.0) ∙ ap size_of tells))
        go (inl g) [] e r = absurd (none_some told.size (sym (ap (λ k. size_told k.known) r ∙ untold_by history (phase (reading history).known.turns) a.v.known g.meets) ∙ ap size_of tells))
        go (inr t) [] e r = sym (through a t e).tells ∙ tells

    tail_of : Stands history (reading history) h now → IsTail h.known.wishes (wishes_of (reading history).known.turns)
    tail_of (inr o) = o.options
    tail_of (inl a) = subst (IsTail h.known.wishes) a.options (reaches_options h a.asks a.v a.are a.reach)

  -- Since the export was told and nothing waited.

  record Once (link : ℕ) (calls : List Call) (earlier : History K) (told : Export) : Type 0 where
    base : Link
    ready : phase base.heard.turns ≡ Ready
    tells : export_told base ≡ Some told
    options : base.wishes ≡ wishes_of (reading earlier).known.turns
    since : Since base (after_calls link untold calls).link

  once_here : (link : ℕ) (calls : List Call) (history : History K) (left : List ℕ) (told : Export) → At link calls history left → export_known history ≡ Some told → total (reading history).known.parts ≤ (asked history).wrote → Once link calls history told
  once_here link calls history left told at knew out =
      let t = told_through history (held_of at.before) at.before.written at.stands told.size (ap size_of knew) out in
      record {
        base = at.before.link;
        ready = t.ready;
        tells = t.tells ∙ knew;
        options = t.options;
        since = subst (λ (both : Both). Since at.before.link both.link) (sym at.there)
            (read_keeps (Since at.before.link) (since_keep at.before.link) left at.before (record { grown = omega arith; still = λ r l. refl }));
      }

  once_call : (link : ℕ) (calls after : List Call) (call : Call) (earlier : History K) (told : Export) → after ≡ calls ++ call ∷ [] → Once link calls earlier told → Once link after earlier told
  once_call link calls after call earlier told is o = record {
    base = o.base;
    ready = o.ready;
    tells = o.tells;
    options = o.options;
    since = subst (λ (both : Both). Since o.base both.link) (sym (one_call link calls after call is)) (call_keeps (Since o.base) (since_keep o.base) link (after_calls link untold calls) call o.since);
  }

  none_before : {A : Type 0} (one : Event K) (more : History K) → (let none : History K = [] in none) ≡ one ∷ more → A
  none_before one more e = absurd (cc)

  rest_same : (one other : Event K) (before more : History K) → one ∷ before ≡ other ∷ more → before ≡ more
  rest_same one other before more e = cc

  once_at : (limit link : ℕ) (calls : List Call) (history : History K) (left : List ℕ) → Drives link calls history left → Lawful limit history → AllSpell history → is_closed history ≡ false → IsPlain history →
      (since earlier : History K) (told : Export) → history ≡ since ++ earlier → export_known earlier ≡ Some told → total (reading earlier).known.parts ≤ (asked earlier).wrote → Once link calls earlier told
  once_at limit link calls history left d lawful fits live plain [] earlier told is knew out =
      subst (λ (h : History K). export_known h ≡ Some told → total (reading h).known.parts ≤ (asked h).wrote → Once link calls h told) is
      (λ k o. once_here link calls history left told (drives_at limit link calls history left d lawful fits live plain) k o) knew out
  once_at limit link _ _ _ Begins lawful fits live plain (one ∷ since) earlier told is knew out = none_before one (since ++ earlier) is
  once_at limit link calls _ left (Does _ before _ event d inward) lawful fits live plain (one ∷ since) earlier told is knew out =
      once_at limit link calls before left d lawful.0 fits.1 lawful.1 (plain_before limit before event lawful.2 live plain) since earlier told (rest_same event one before (since ++ earlier) is) knew out
  once_at limit link after history left (Passes calls _ _ call _ d off joined) lawful fits live plain (one ∷ since) earlier told is knew out =
      once_call link calls after call earlier told joined (once_at limit link calls history left d lawful fits live plain (one ∷ since) earlier told is knew out)
  once_at limit link after _ _ (Writes calls before offered bytes _ d front joined) lawful fits live plain (one ∷ since) earlier told is knew out =
      once_call link calls after (Write link offered (Sent bytes)) earlier told joined
      (once_at limit link calls before [] d lawful.0 fits.1 lawful.1 (plain_before limit before (Wrote (length bytes)) lawful.2 live plain) since earlier told (rest_same (Wrote (length bytes)) one before (since ++ earlier) is) knew out)
  once_at limit link after history left (Writes_none calls _ _ offered _ d joined) lawful fits live plain (one ∷ since) earlier told is knew out =
      once_call link calls after (Write link offered Full) earlier told joined (once_at limit link calls history left d lawful fits live plain (one ∷ since) earlier told is knew out)
  once_at limit link after history more (Reads calls _ left room bytes _ _ d joined all) lawful fits live plain (one ∷ since) earlier told is knew out =
      once_call link calls after (Read link room (Moved bytes)) earlier told joined (once_at limit link calls history left d lawful fits live plain (one ∷ since) earlier told is knew out)
  once_at limit link after history left (Reads_none calls _ _ room _ d joined) lawful fits live plain (one ∷ since) earlier told is knew out =
      once_call link calls after (Read link room Unready) earlier told joined (once_at limit link calls history left d lawful fits live plain (one ∷ since) earlier told is knew out)
  once_at limit link calls _ left (Arrives _ before all bytes _ answers d joined) lawful fits live plain (one ∷ since) earlier told is knew out =
      once_at limit link calls before all d lawful.0 fits.1 lawful.1 (plain_before limit before (Arrived bytes answers) lawful.2 live plain) since earlier told (rest_same (Arrived bytes answers) one before (since ++ earlier) is) knew out
  once_at limit link after _ _ (Ends calls before room answers _ d living joined) lawful fits live plain (one ∷ since) earlier told is knew out =
      once_call link calls after (Read link room Ended) earlier told joined
      (once_at limit link calls before [] d lawful.0 fits.1 lawful.1 (plain_before limit before (End answers) lawful.2 live plain) since earlier told (rest_same (End answers) one before (since ++ earlier) is) knew out)
  once_at limit link after _ _ (Fails_to_read calls before room answers _ d living joined) lawful fits live plain (one ∷ since) earlier told is knew out =
      once_call link calls after (Read link room ReadFault) earlier told joined
      (once_at limit link calls before [] d lawful.0 fits.1 lawful.1 (plain_before limit before (LinkFailed answers) lawful.2 live plain) since earlier told (rest_same (LinkFailed answers) one before (since ++ earlier) is) knew out)
  once_at limit link after _ _ (Fails_to_write calls before offered answers _ d living joined) lawful fits live plain (one ∷ since) earlier told is knew out =
      once_call link calls after (Write link offered WriteFault) earlier told joined
      (once_at limit link calls before [] d lawful.0 fits.1 lawful.1 (plain_before limit before (LinkFailed answers) lawful.2 live plain) since earlier told (rest_same (LinkFailed answers) one before (since ++ earlier) is) knew out)

  module _ (limit link : ℕ) (calls : List Call) (history : History K) (lawful : Lawful limit history) (fits : AllSpell history) (live : is_closed history ≡ false) (plain : IsPlain history) (d : Drives link calls history []) where
    abbrev at : At link calls history []
    at = drives_at limit link calls history [] d lawful fits live plain

    tail : IsTail at.before.link.wishes (wishes_of (reading history).known.turns)
    tail = tail_of history (held_of at.before) at.before.written at.stands

    named : AllNamed (name_set history) at.before.link.wishes
    named =
        let t = tail_of history (held_of at.before) at.before.written at.stands in
        named_tail (name_set history) at.before.link.wishes t.later (subst (AllNamed (name_set history)) t.is (names_at limit link calls history [] d lawful fits live plain).named)

    asks : Asks at.before.link
    asks = subst (λ (both : Both). Asks both.link) at.there (calls_keep Asks asks_keep link untold calls (record { mode = refl; plain = refl; narrow = refl; named = λ n. absurd (false≢true n) }))

    has : phase at.before.link.heard.turns ≡ Ready → name_asked at.before.link.wishes ≡ Some (name_set history)
    has ready = named_is (name_set history) at.before.link.wishes named (asks.named (ap needs_name ready))

    once : (told : Export) → WasToldExport history told → export_told at.before.link ≡ Some told
    once told w =
        let o = once_at limit link calls history [] d lawful fits live plain w.since w.earlier told w.is w.knew w.out in
        let since = subst (λ (both : Both). Since o.base both.link) at.there o.since in
        let turns = ap (λ (h : History K). (reading h).known.turns) w.is
        ∙ turns_stay limit w.since w.earlier (subst (Lawful limit) w.is lawful) (exported_ready (phase (reading w.earlier).known.turns) (export (steps (reading w.earlier).known.turns)) told w.knew) in
        let most = as_long at.before.link.wishes (wishes_of (reading history).known.turns) tail in
        let all = ap (λ ts. length (wishes_of ts)) turns in
        let first = ap length o.options in
        let grown = since.grown in
        ap (λ ts. export_at (phase ts) (export (steps ts))) (since.still o.ready (omega (arith, most, all, first, grown))) ∙ o.tells

    tells : DrivenTells history at.before.link
    tells = record {
      knew = λ told e. export_so history (held_of at.before) at.before.written at.stands told e;
      asked = λ some. (asked_through history (held_of at.before) at.before.written at.stands some).tells;
      told = λ told w. once told w;
    }

    -- by what is told of the export
    sized : (size : ℕ) → size_told at.before.link ≡ Some size → (name_asked at.before.link.wishes ≡ Some (name_set history)) × (size_known history ≡ Some size)
    sized size e =
        let o = of_size (export_told at.before.link) size e in
        (has (exported_ready (phase at.before.link.heard.turns) (export (steps at.before.link.heard.turns)) o.0 o.1), sized_as (export_known history) o.0 size (tells.knew o.0 o.1) o.2)

    is_of : DrivenIsOf history at.before.link
    is_of = record {
      name = λ name e. named_only (name_set history) name at.before.link.wishes named e;
      size = λ size e. sized size e;
      asked = λ some. let t = asked_through history (held_of at.before) at.before.written at.stands some in (has t.ready, ap size_of t.tells);
      told = λ size w. let o = sizes_are_of_exports history size w in sized_as (export_told at.before.link) o.0 size (once o.0 o.1) o.2;
    }

pub driven_are_of : {K : Type 0} → DrivenAreOf K
driven_are_of limit link calls history lawful fits live mode d =
    subst (λ (both : Both). DrivenIsOf history both.link) (sym (drives_at limit link calls history [] d lawful fits live (λ n. mode)).there) (is_of limit link calls history lawful fits live (λ n. mode) d)

pub driven_tell : {K : Type 0} → DrivenTell K
driven_tell limit link calls history lawful fits live mode d =
    subst (λ (both : Both). DrivenTells history both.link) (sym (drives_at limit link calls history [] d lawful fits live (λ n. mode)).there) (tells limit link calls history lawful fits live (λ n. mode) d)

-- What arrives at a handle whose link is calm makes it ask no EXPORT_NAME.
use Rattle.std.proofs.Common.{◌≡◌, ℕ, ◌⊎◌, inl, inr, Bool, true, false, not, ◌&&◌, ◌||◌, List, [], ◌∷◌, ◌++◌, length, Option, Some, None, ◌==◌, nat_lt, refl, ap, sym, subst, ◌∙◌, if◌then◌else◌}
use Rattle.std.proofs.lemmas.Bool.{false≢true, eqb-true, eq-eqb}
use Rattle.lnbd_model.specs.declared.breach.Breach.{Breach}
use Rattle.lnbd_model.specs.declared.breach.Breach.TheVariants.{TooManyReplies}
use Rattle.lnbd_model.specs.declared.state.Cause.{Cause}
use Rattle.lnbd_model.specs.declared.state.Cause.TheVariants as cause
use Rattle.lnbd_records.specs.Limits.{max_passed}
use Rattle.lnbd_records.specs.Options.{opt_go, opt_extended_headers, opt_structured_reply, err_unsup}
use Rattle.lnbd_records.specs.Told.{Told, Size}
use Rattle.lnbd_stream.specs.Laws.{Lasts}
use Rattle.lnbd_stream.specs.Stream.{Held, fresh, settle, take_byte, feed}
use Rattle.lnbd_stream.proofs.Stream.{feed_lasts}
use Rattle.lnbd_history.specs.declared.kinds.Phase.{Phase}
use Rattle.lnbd_history.specs.declared.kinds.Phase.TheVariants.{Greeting, Asked, AskedByName, OptMode, Ready, Refused}
use Rattle.lnbd_history.specs.declared.kinds.Stage.{Stage}
use Rattle.lnbd_history.specs.declared.kinds.Stage.TheVariants.{Created, Open, Disconnecting, Aborting, Closed, Dead}
use Rattle.lnbd_history.specs.Agreement.{Turn, Replied, End as AnswerEnd, Acknowledged, Failed, phase, opt_mode, asks_structured, asks_extended, contexts_now, is_empty, is_acknowledged, end_of, under_way, steps, structured, extended, size_told, after_hello, after_answer, after_structured, after_extended, after_go, after_reply}
use Rattle.lnbd_history.specs.Agreement as turn
use Rattle.lnbd_history.specs.Arrivals.{Shown, Hello, OptionReply, ExportReply, Reply, Broken, Passed, Ignored, Waiting, Sight, has_bit, is_asked, shows_hello, shows_option, shows_frame, shows_passed, shows_ignored, shows_in, shows_at}
use Rattle.lnbd_history.specs.Entries.{Framed, Lost}
use Rattle.lnbd_history.specs.Events.{History}
use Rattle.lnbd_history.specs.History.{Known, asked, request, file, rules, sight, waited, turned, greeted, if_refused, die, cookies}
use Rattle.lnbd_asked.specs.Laws.{is_waiting}
use Rattle.lnbd_asked.specs.Link.{Link, server, is_free, is_by_name}
use Rattle.lnbd_asked.specs.Link as links
use Rattle.lnbd_asked.proofs.Alive.{is_done}
use Rattle.lnbd_asked.proofs.Chain.{waiting_feeds}
use Rattle.lnbd_asked.proofs.Match.{file_still, all_still}
use Rattle.lnbd_asked.proofs.Phases.{Leads, Asks, Names, Readies, Refuses, answer_leads, hello_asks}
use Rattle.lnbd_asked.proofs.ShownBy.{Each, hello_kinds, option_kinds}
use Rattle.lnbd_asked.proofs.Staying.{IsLater}
use Rattle.lnbd_asked.proofs.Steps.{IsFrame, AreFrames, frame_shown}
use Rattle.lnbd_asked.proofs.Turns.{SameTurns, same_replied}
use Rattle.lnbd_served.proofs.Linking.{replied_stays}
use Rattle.lnbd_lively.specs.Ending.{is_named, was_named}
use Rattle.lnbd_lively.specs.Known.{is_unknown, was_unknown}

-- A link that is open and waits for its client was sent no more, and GO wasn't refused as unknown.
abbrev pub IsCalm : Held Link → Type 0
IsCalm held = held.known.heard.stage ≡ Open → is_waiting held.known ≡ true → (was_unknown held.known.heard.turns ≡ false) × (held.pending ≡ [])

pub none_both : (one other : List ℕ) → one ++ other ≡ [] → one ≡ []
none_both [] other e = refl
none_both (byte ∷ one) other e = cc

-- Only a refusal of GO as unknown leads to EXPORT_NAME.

structured_unnamed : (on : Bool) (wanted : List (List ℕ)) → is_named (after_structured false wanted on) ≡ false
structured_unnamed true [] = refl
structured_unnamed true (one ∷ more) = refl
structured_unnamed false wanted = refl

extended_unnamed : (structured on : Bool) (wanted : List (List ℕ)) → is_named (after_extended structured false wanted on) ≡ false
extended_unnamed structured true wanted = structured_unnamed true wanted
extended_unnamed true false wanted = refl
extended_unnamed false false wanted = structured_unnamed false wanted

go_named : (end : AnswerEnd) → is_named (after_go false end) ≡ true → is_unknown (Some end) ≡ true
go_named Acknowledged e = absurd (false≢true e)
go_named (Failed code) e = go (code == err_unsup) e
  where
    go : (b : Bool) → is_named (if b then AskedByName else Refused code) ≡ true → b ≡ true
    go true e = refl
    go false e = absurd (false≢true e)

answer_named : (structured : Bool) (wanted : List (List ℕ)) (option : ℕ) (end : AnswerEnd) → is_named (after_answer structured false wanted option end) ≡ true → (option ≡ opt_go) × (is_unknown (Some end) ≡ true)
answer_named structured wanted option end e = go (option == opt_extended_headers) (option == opt_structured_reply) (option == opt_go) refl e
  where
    go : (a b c : Bool) → (option == opt_go) ≡ c →
        is_named (if a then after_extended structured false wanted (is_acknowledged end) else if b then after_structured false wanted (is_acknowledged end) else if c then after_go false end else Asked opt_go) ≡ true → (option ≡ opt_go) × (is_unknown (Some end) ≡ true)
    go true b c w e = absurd (false≢true (sym (extended_unnamed structured (is_acknowledged end) wanted) ∙ e))
    go false true c w e = absurd (false≢true (sym (structured_unnamed (is_acknowledged end) wanted) ∙ e))
    go false false true w e = (eqb-true option opt_go w, go_named end e)
    go false false false w e = absurd (false≢true e)

-- Where requests may be made, or all is done, no turn comes.

passed_later : (passed : ℕ) (bytes : List ℕ) → Each IsLater (shows_passed passed bytes)
passed_later passed [] = tt
passed_later passed (byte ∷ bytes) = go (nat_lt passed max_passed)
  where
    go : (b : Bool) → Each IsLater (if b then Some Passed else Some (Broken TooManyReplies))
    go true = tt
    go false = tt

ignored_later : (bytes : List ℕ) → Each IsLater (shows_ignored bytes)
ignored_later [] = tt
ignored_later (byte ∷ bytes) = tt

found_later : (found : Shown) → IsFrame found → IsLater found
found_later (Hello flags) is = absurd is
found_later (OptionReply told) is = absurd is
found_later (ExportReply size flags) is = absurd is
found_later (Reply frame) is = tt
found_later (Broken breach) is = tt
found_later Passed is = tt
found_later Ignored is = tt

frames_later : (shown : Option Shown) → AreFrames shown → Each IsLater shown
frames_later None are = tt
frames_later (Some found) are = found_later found are

ready_later : (s : Sight) (waited : ℕ → Option Waiting) (bytes : List ℕ) → s.phase ≡ Ready → Each IsLater (shows_in s.phase s waited bytes)
ready_later s waited bytes ready = subst (λ p. Each IsLater (shows_in p s waited bytes)) (sym ready) (frames_later (shows_frame s.structured s.extended waited bytes) (frame_shown s.structured s.extended waited bytes))

later_at : (stage : Stage) (s : Sight) (waited : ℕ → Option Waiting) (bytes : List ℕ) → (is_done stage ≡ true) ⊎ (s.phase ≡ Ready) → Each IsLater (shows_at stage s waited bytes)
later_at Created s waited bytes q = ignored_later bytes
later_at Open s waited bytes (inl done) = absurd (false≢true done)
later_at Open s waited bytes (inr ready) = ready_later s waited bytes ready
later_at Disconnecting s waited bytes (inl done) = absurd (false≢true done)
later_at Disconnecting s waited bytes (inr ready) = ready_later s waited bytes ready
later_at Aborting s waited bytes q = passed_later s.passed bytes
later_at Closed s waited bytes q = ignored_later bytes
later_at (Dead why) s waited bytes q = ignored_later bytes

-- what a handle and its link know of each other while they negotiate
pub record Pair {K : Type 0} (at : Phase) (known : Known K) (link : Link) : Type 0 where
  pub stage : known.stage ≡ Open
  pub stage' : link.heard.stage ≡ Open
  pub phase_ : phase known.turns ≡ at
  pub phase' : phase link.heard.turns ≡ at
  pub same : SameTurns known.turns link.heard.turns
  pub flags : known.flags ≡ link.heard.flags
  pub passed : known.passed ≡ link.heard.passed
  pub unnamed : is_by_name link.wishes ≡ false
  pub mode : opt_mode known.turns ≡ false
  pub clear : was_named known.turns ≡ false

abbrev the_sight : Stage → Phase → ℕ → Option Size → Bool → Bool → Bool → ℕ → Sight
the_sight stage phase count size no_zeroes structured extended passed = record { stage = stage; phase = phase; count = count; size = size; no_zeroes = no_zeroes; structured = structured; extended = extended; passed = passed }

module _ {K : Type 0} (before : History K) (left : List ℕ) (end_ : Held Link) (calm : IsCalm end_) where
  abbrev Clear : Known K → Type 0
  Clear known = was_named known.turns ≡ false

  abbrev IsQuiet : Known K → Type 0
  IsQuiet known = ((is_done known.stage ≡ true) ⊎ (phase known.turns ≡ Ready)) × Clear known

  died : (why : Cause) (known : Known K) → Clear known → IsQuiet (die before why known)
  died why known clear =
      let s = all_still before Lost (cookies (asked before).issued) (record known { stage = Dead why }) in
      (inl (ap is_done s.stage), ap was_named s.turns ∙ clear)

  quiet_lasts : Lasts (rules before) IsQuiet
  quiet_lasts known bytes found q e = go found (subst (Each IsLater) e (later_at known.stage (sight known) (waited before known) bytes q.0))
    where
      go : (found : Shown) → IsLater found → IsQuiet ((rules before).enter found known)
      go (Hello flags) is = absurd is
      go (OptionReply told) is = absurd is
      go (ExportReply size flags) is = absurd is
      go (Reply frame) is =
          let s = file_still (request before frame.cookie) frame.cookie (Framed frame.content frame.last) known in
          (by s.stage s.turns q.0, ap was_named s.turns ∙ q.1)
        where
          by : (file before frame.cookie (Framed frame.content frame.last) known).stage ≡ known.stage → (file before frame.cookie (Framed frame.content frame.last) known).turns ≡ known.turns → (is_done known.stage ≡ true) ⊎ (phase known.turns ≡ Ready) →
              (is_done (file before frame.cookie (Framed frame.content frame.last) known).stage ≡ true) ⊎ (phase (file before frame.cookie (Framed frame.content frame.last) known).turns ≡ Ready)
          by stage turns (inl done) = inl (ap is_done stage ∙ done)
          by stage turns (inr ready) = inr (ap phase turns ∙ ready)
      go (Broken breach) is = died (cause.Broke breach) known q.1
      go Passed is = q
      go Ignored is = q

  pub quiet_feeds : (held : Held (Known K)) (bytes : List ℕ) → IsQuiet held.known → Clear (feed (rules before) held bytes).known
  quiet_feeds held bytes q = (feed_lasts (rules before) IsQuiet quiet_lasts held bytes q).1

  -- a link that waits, to which what is left of the arrival comes: there is none
  calm_none : (link : Link) (bytes : List ℕ) → link.heard.stage ≡ Open → phase link.heard.turns ≡ OptMode → is_by_name link.wishes ≡ false → feed server (fresh link) (bytes ++ left) ≡ end_ → (was_unknown link.heard.turns ≡ false) × (bytes ≡ [])
  calm_none link bytes stage opt unnamed there =
      let waits : is_waiting link ≡ true = ap (λ (p : Phase). is_free p && not (is_by_name link.wishes)) opt ∙ ap not unnamed in
      let is : record { known = link; pending = bytes ++ left } ≡ end_ = sym (waiting_feeds (fresh link) (bytes ++ left) waits) ∙ there in
      let c = subst IsCalm (sym is) calm stage waits in
      (c.0, none_both bytes left c.1)

  -- One byte of an answer.
  module _ (byte : ℕ) (bytes : List ℕ) (k : Held (Known K)) (l : Held Link) (pend : k.pending ≡ l.pending) (there : feed server l ((byte ∷ bytes) ++ left) ≡ end_) where
    now : List ℕ
    now = l.pending ++ byte ∷ []

    abbrev Goal : Type 0
    Goal = Clear (feed (rules before) (take_byte (rules before) k byte) bytes).known

    take_as : (v : Option Shown) → (rules before).shows k.known now ≡ v → take_byte (rules before) k byte ≡ settle (rules before) k.known now v
    unfolding now
    take_as v e = ap (λ p. settle (rules before) k.known (p ++ byte ∷ []) ((rules before).shows k.known (p ++ byte ∷ []))) pend ∙ ap (settle (rules before) k.known now) e

    link_as : (v : Option Shown) → server.shows l.known now ≡ v → feed server (settle server l.known now v) (bytes ++ left) ≡ end_
    unfolding now
    link_as v e = ap (λ x. feed server (settle server l.known now x) (bytes ++ left)) (sym e) ∙ there

    by_settled : (v : Option Shown) → (rules before).shows k.known now ≡ v → Clear (feed (rules before) (settle (rules before) k.known now v) bytes).known → Goal
    by_settled v e c = subst (λ (x : Held (Known K)). Clear (feed (rules before) x bytes).known) (sym (take_as v e)) c

    link_shows : (p : Phase) → phase l.known.heard.turns ≡ p → is_free p ≡ false → l.known.heard.stage ≡ Open → server.shows l.known now ≡ shows_in p (sight l.known.heard) (links.waited l.known) now
    link_shows p e free live =
        ap (λ q. if is_free q then if is_by_name l.known.wishes then links.shows_by_name l.known now else None else shows_at l.known.heard.stage (sight l.known.heard) (links.waited l.known) now) e
        ∙ ap (λ (b : Bool). if b then if is_by_name l.known.wishes then links.shows_by_name l.known now else None else shows_at l.known.heard.stage (sight l.known.heard) (links.waited l.known) now) free
        ∙ ap (λ s. shows_at s (sight l.known.heard) (links.waited l.known) now) live
        ∙ ap (λ q. shows_in q (sight l.known.heard) (links.waited l.known) now) e

    handle_shows : (p : Phase) → k.known.stage ≡ Open → phase k.known.turns ≡ p → (rules before).shows k.known now ≡ shows_in p (sight k.known) (waited before k.known) now
    handle_shows p live e = ap (λ s. shows_at s (sight k.known) (waited before k.known) now) live ∙ ap (λ q. shows_in q (sight k.known) (waited before k.known) now) e

    abbrev Later : Phase → Type 0
    Later at = (k' : Held (Known K)) (l' : Held Link) → Pair at k'.known l'.known → k'.pending ≡ l'.pending → feed server l' (bytes ++ left) ≡ end_ → Clear (feed (rules before) k' bytes).known

    -- what is shown of an answer
    module _ (option : ℕ) (p : Pair (Asked option) k.known l.known) (later : Later (Asked option)) where
      same_sight : sight k.known ≡ sight l.known.heard
      same_sight =
          ap (λ z. the_sight z (phase k.known.turns) (length (under_way k.known.turns)) (size_told (under_way k.known.turns)) (has_bit 2 k.known.flags) (structured (steps k.known.turns)) (extended (steps k.known.turns)) k.known.passed) (p.stage ∙ sym p.stage')
          ∙ ap (λ z. the_sight l.known.heard.stage z (length (under_way k.known.turns)) (size_told (under_way k.known.turns)) (has_bit 2 k.known.flags) (structured (steps k.known.turns)) (extended (steps k.known.turns)) k.known.passed) (p.phase_ ∙ sym p.phase')
          ∙ ap (λ z. the_sight l.known.heard.stage (phase l.known.heard.turns) (length z) (size_told z) (has_bit 2 k.known.flags) (structured (steps k.known.turns)) (extended (steps k.known.turns)) k.known.passed) p.same.under
          ∙ ap (λ z. the_sight l.known.heard.stage (phase l.known.heard.turns) (length (under_way l.known.heard.turns)) (size_told (under_way l.known.heard.turns)) (has_bit 2 z) (structured (steps k.known.turns)) (extended (steps k.known.turns)) k.known.passed) p.flags
          ∙ ap (λ z. the_sight l.known.heard.stage (phase l.known.heard.turns) (length (under_way l.known.heard.turns)) (size_told (under_way l.known.heard.turns)) (has_bit 2 l.known.heard.flags) z (extended (steps k.known.turns)) k.known.passed) p.same.steps.structured
          ∙ ap (λ z. the_sight l.known.heard.stage (phase l.known.heard.turns) (length (under_way l.known.heard.turns)) (size_told (under_way l.known.heard.turns)) (has_bit 2 l.known.heard.flags) (structured (steps l.known.heard.turns)) z k.known.passed) p.same.steps.extended
          ∙ ap (λ z. the_sight l.known.heard.stage (phase l.known.heard.turns) (length (under_way l.known.heard.turns)) (size_told (under_way l.known.heard.turns)) (has_bit 2 l.known.heard.flags) (structured (steps l.known.heard.turns)) (extended (steps l.known.heard.turns)) z) p.passed

      handle_is : (rules before).shows k.known now ≡ shows_option (sight l.known.heard) now
      handle_is = handle_shows (Asked option) p.stage p.phase_ ∙ ap (λ s. shows_option s now) same_sight

      link_is : server.shows l.known now ≡ shows_option (sight l.known.heard) now
      link_is = link_shows (Asked option) p.phase' refl p.stage'

      -- an answer's end
      leads : (told : Told) (end : AnswerEnd) → end_of told ≡ Some end → (one other : Phase) → Leads one other → phase (Replied told ∷ k.known.turns) ≡ one → phase (Replied told ∷ l.known.heard.turns) ≡ other →
          after_answer (asks_structured k.known.turns) false (contexts_now k.known.turns) option end ≡ one → feed server (settle server l.known now (Some (OptionReply told))) (bytes ++ left) ≡ end_ → Clear (feed (rules before) (settle (rules before) k.known now (Some (OptionReply told))) bytes).known
      leads told end ends _ _ (Asks next other small) hp lp is at_end =
          let calm_ = calm_none (record l.known { heard = turned (Replied told) l.known.heard }) bytes p.stage' lp p.unnamed
          (ap (λ ph. feed server (fresh (record l.known { heard = if_refused ph l.known.requests (turned (Replied told) l.known.heard) })) (bytes ++ left)) (sym lp) ∙ at_end) in
          subst (λ bs. Clear (feed (rules before) (settle (rules before) k.known now (Some (OptionReply told))) bs).known) (sym calm_.1)
          (ap (λ ph. was_named (if_refused ph before (turned (Replied told) k.known)).turns) hp ∙ ap (λ ph. is_named ph || was_named k.known.turns) hp ∙ p.clear)
      leads told end ends _ _ Names hp lp is at_end =
          let calm_ = calm_none (record l.known { heard = turned (Replied told) l.known.heard }) bytes p.stage' lp p.unnamed
          (ap (λ ph. feed server (fresh (record l.known { heard = if_refused ph l.known.requests (turned (Replied told) l.known.heard) })) (bytes ++ left)) (sym lp) ∙ at_end) in
          let n = answer_named (asks_structured k.known.turns) (contexts_now k.known.turns) option end (ap is_named is) in
          let yes : was_unknown (Replied told ∷ l.known.heard.turns) ≡ true =
          ap (λ (ph : Phase). (is_asked opt_go ph && is_unknown (end_of told)) || was_unknown l.known.heard.turns) p.phase' ∙ ap (λ (b : Bool). (b && is_unknown (end_of told)) || was_unknown l.known.heard.turns) (eq-eqb opt_go option (sym n.0))
          ∙ ap (λ (x : Option AnswerEnd). is_unknown x || was_unknown l.known.heard.turns) ends ∙ ap (λ (b : Bool). b || was_unknown l.known.heard.turns) n.1 in
          absurd (false≢true (sym calm_.0 ∙ yes))
      leads told end ends _ _ Readies hp lp is at_end =
          quiet_feeds (settle (rules before) k.known now (Some (OptionReply told))) bytes
          (subst (λ ph. IsQuiet (if_refused ph before (turned (Replied told) k.known))) (sym hp) (inr hp, ap (λ ph. is_named ph || was_named k.known.turns) hp ∙ p.clear))
      leads told end ends _ _ (Refuses code) hp lp is at_end =
          quiet_feeds (settle (rules before) k.known now (Some (OptionReply told))) bytes
          (subst (λ ph. IsQuiet (if_refused ph before (turned (Replied told) k.known))) (sym hp) (died (cause.Refused opt_go code) (turned (Replied told) k.known) (ap (λ ph. is_named ph || was_named k.known.turns) hp ∙ p.clear)))

      abbrev The : Shown → Type 0
      The found = shows_option (sight l.known.heard) now ≡ Some found → Goal

      broken : (breach : Breach) → The (Broken breach)
      broken breach e = by_settled (Some (Broken breach)) (handle_is ∙ e) (quiet_feeds (settle (rules before) k.known now (Some (Broken breach))) bytes (died (cause.Broke breach) k.known p.clear))

      told_ : (told : Told) → The (OptionReply told)
      told_ told e = by_settled (Some (OptionReply told)) (handle_is ∙ e) (go (end_of told) refl)
        where
          at_end : feed server (settle server l.known now (Some (OptionReply told))) (bytes ++ left) ≡ end_
          at_end = link_as (Some (OptionReply told)) (link_is ∙ e)

          go : (v : Option AnswerEnd) → end_of told ≡ v → Clear (feed (rules before) (settle (rules before) k.known now (Some (OptionReply told))) bytes).known
          go None none =
              let hp = replied_stays k.known.turns told none ∙ p.phase_ in
              let lp = replied_stays l.known.heard.turns told none ∙ p.phase' in
              subst (λ ph. Clear (feed (rules before) (fresh (if_refused ph before (turned (Replied told) k.known))) bytes).known) (sym hp)
              (later (fresh (turned (Replied told) k.known)) (fresh (record l.known { heard = turned (Replied told) l.known.heard }))
              (record {
                stage = p.stage;
                stage' = p.stage';
                phase_ = hp;
                phase' = lp;
                same = same_replied told option k.known.turns l.known.heard.turns p.phase_ p.phase' p.same;
                flags = p.flags;
                passed = p.passed;
                unnamed = p.unnamed;
                mode = p.mode;
                clear = ap (λ ph. is_named ph || was_named k.known.turns) hp ∙ p.clear;
              })
              refl (ap (λ ph. feed server (fresh (record l.known { heard = if_refused ph l.known.requests (turned (Replied told) l.known.heard) })) (bytes ++ left)) (sym lp) ∙ at_end))
          go (Some end) ends =
              let hp : phase (Replied told ∷ k.known.turns) ≡ after_answer (asks_structured k.known.turns) false (contexts_now k.known.turns) option end =
              ap (λ v. after_reply (asks_structured k.known.turns) (opt_mode k.known.turns) (contexts_now k.known.turns) v (phase k.known.turns)) ends
              ∙ ap (λ ph. after_reply (asks_structured k.known.turns) (opt_mode k.known.turns) (contexts_now k.known.turns) (Some end) ph) p.phase_
              ∙ ap (λ m. after_answer (asks_structured k.known.turns) m (contexts_now k.known.turns) option end) p.mode in
              let lp : phase (Replied told ∷ l.known.heard.turns) ≡ after_answer false true [] option end =
              ap (λ v. after_reply (asks_structured l.known.heard.turns) (opt_mode l.known.heard.turns) (contexts_now l.known.heard.turns) v (phase l.known.heard.turns)) ends
              ∙ ap (λ ph. after_reply (asks_structured l.known.heard.turns) (opt_mode l.known.heard.turns) (contexts_now l.known.heard.turns) (Some end) ph) p.phase'
              ∙ ap (λ s. after_answer s (opt_mode l.known.heard.turns) (contexts_now l.known.heard.turns) option end) p.same.plain
              ∙ ap (λ m. after_answer false m (contexts_now l.known.heard.turns) option end) p.same.opts ∙ ap (λ cs. after_answer false true cs option end) p.same.bare in
              leads told end ends (after_answer (asks_structured k.known.turns) false (contexts_now k.known.turns) option end) (after_answer false true [] option end)
              (answer_leads (asks_structured k.known.turns) (contexts_now k.known.turns) option end) hp lp refl at_end

      finish : (v : Option Shown) → shows_option (sight l.known.heard) now ≡ v → Each The v → Goal
      finish None e each =
          by_settled None (handle_is ∙ e) (later (record { known = k.known; pending = now }) (record { known = l.known; pending = now }) p refl (link_as None (link_is ∙ e)))
      finish (Some found) e each = each e

      answer_byte : Goal
      answer_byte = finish (shows_option (sight l.known.heard) now) refl (option_kinds The broken (sight l.known.heard) now told_)

    -- what is shown of the hello
    module _ (p : Pair Greeting k.known l.known) (later : Later Greeting) where
      abbrev Greets_ : Shown → Type 0
      Greets_ found = shows_hello now ≡ Some found → Goal

      hello_broken : (breach : Breach) → Greets_ (Broken breach)
      hello_broken breach e = by_settled (Some (Broken breach)) (handle_shows Greeting p.stage p.phase_ ∙ e) (quiet_feeds (settle (rules before) k.known now (Some (Broken breach))) bytes (died (cause.Broke breach) k.known p.clear))

      hello_told : (flags : ℕ) → Greets_ (Hello flags)
      hello_told flags e =
          let asks = hello_asks (asks_extended k.known.turns) (asks_structured k.known.turns) (contexts_now k.known.turns) in
          let hp : phase (turn.Hello ∷ k.known.turns) ≡ Asked asks.0 = ap (λ m. after_hello (asks_extended k.known.turns) (asks_structured k.known.turns) m (contexts_now k.known.turns)) p.mode ∙ asks.1 in
          let lp : phase (turn.Hello ∷ l.known.heard.turns) ≡ OptMode =
          ap (λ x. after_hello x (asks_structured l.known.heard.turns) (opt_mode l.known.heard.turns) (contexts_now l.known.heard.turns)) p.same.narrow
          ∙ ap (λ s. after_hello false s (opt_mode l.known.heard.turns) (contexts_now l.known.heard.turns)) p.same.plain ∙ ap (λ m. after_hello false false m (contexts_now l.known.heard.turns)) p.same.opts in
          let calm_ = calm_none (record l.known { heard = greeted flags l.known.heard }) bytes p.stage' lp p.unnamed (link_as (Some (Hello flags)) (link_shows Greeting p.phase' refl p.stage' ∙ e)) in
          by_settled (Some (Hello flags)) (handle_shows Greeting p.stage p.phase_ ∙ e)
          (subst (λ bs. Clear (feed (rules before) (settle (rules before) k.known now (Some (Hello flags))) bs).known) (sym calm_.1) (ap (λ ph. is_named ph || was_named k.known.turns) hp ∙ p.clear))

      hello_finish : (v : Option Shown) → shows_hello now ≡ v → Each Greets_ v → Goal
      hello_finish None e each =
          by_settled None (handle_shows Greeting p.stage p.phase_ ∙ e) (later (record { known = k.known; pending = now }) (record { known = l.known; pending = now }) p refl (link_as None (link_shows Greeting p.phase' refl p.stage' ∙ e)))
      hello_finish (Some found) e each = each e

      hello_byte : Goal
      hello_byte = hello_finish (shows_hello now) refl (hello_kinds Greets_ hello_broken now hello_told)

  -- All bytes of an arrival.
  pub answers_feed : (bytes : List ℕ) (k : Held (Known K)) (l : Held Link) (option : ℕ) → Pair (Asked option) k.known l.known → k.pending ≡ l.pending → feed server l (bytes ++ left) ≡ end_ → Clear (feed (rules before) k bytes).known
  answers_feed [] k l option p pend there = p.clear
  answers_feed (byte ∷ bytes) k l option p pend there = answer_byte byte bytes k l pend there option p (λ k' l' p' pend' there'. answers_feed bytes k' l' option p' pend' there')

  pub hello_feeds : (bytes : List ℕ) (k : Held (Known K)) (l : Held Link) → Pair Greeting k.known l.known → k.pending ≡ l.pending → feed server l (bytes ++ left) ≡ end_ → Clear (feed (rules before) k bytes).known
  hello_feeds [] k l p pend there = p.clear
  hello_feeds (byte ∷ bytes) k l p pend there = hello_byte byte bytes k l pend there p (λ k' l' p' pend' there'. hello_feeds bytes k' l' p' pend' there')

-- Handles after a turn.
use Rattle.std.proofs.Common.{◌≡◌, ◌≢◌, ℕ, Bool, true, false, List, [], ◌∷◌, ◌++◌, Option, refl, ap, sym, subst, ◌∙◌, append_assoc, append-nil}
use Rattle.std.proofs.lemmas.Bool.{false≢true}
use Rattle.lnbd_callbacks.specs.Calls.{Call}
use Rattle.lnbd_link.specs.Call as wire
use Rattle.lnbd_poll.specs.Alone.{AreApart, HaveOwnLinks, calls_on}
use Rattle.lnbd_poll.specs.Seen.{Seen}
use Rattle.lnbd_poll.specs.Turns.{Ending, Whole, Short, Turns, All_took, Takes, Runs_short, Breaks_off, with_moved}
use Rattle.lnbd_drives.specs.Driving.{AllDrive, AllPlain, AllPass}
use Rattle.lnbd_drives.specs.Laws.{TurnsDrive, ShortTurnsDrive, TurnsPassOthers, PassingCallsDrive, OtherCallsPass}
use Rattle.lnbd_drives.proofs.Passing.{both_off}
use Rattle.lnbd_drives.proofs.Taking.{Runs, runs_past, part_ran, part_off}

abbrev is_whole : Ending → Bool
is_whole (Whole moved) = true
is_whole Short = false

whole_rest : (moved : Option ℕ) (rest : Ending) → is_whole (with_moved moved rest) ≡ is_whole rest
whole_rest moved (Whole rest) = refl
whole_rest moved Short = refl

module _ {K : Type 0} where
  -- each handle runs, its link being its own
  abbrev AllRun : List wire.Call → List (Seen K) → Type 0
  AllRun calls [] = Unit {0}
  AllRun calls (seen ∷ others) = Runs seen.link calls seen.history seen.unread × AllRun calls others

  abbrev NoneUnread : List (Seen K) → Type 0
  NoneUnread [] = Unit {0}
  NoneUnread (seen ∷ others) = (seen.unread ≡ []) × NoneUnread others

  all_run : (calls : List wire.Call) (seens : List (Seen K)) → AllDrive calls seens → AllPlain seens → AllRun calls seens
  all_run calls [] drive plain = tt
  all_run calls (seen ∷ others) drive plain = (record { drives = drive.0; spelled = plain.0.spelled; off = plain.0.mode }, all_run calls others drive.1 plain.1)

  none_unread : (seens : List (Seen K)) → AllPlain seens → NoneUnread seens
  none_unread [] plain = tt
  none_unread (seen ∷ others) plain = (plain.0.arrived, none_unread others plain.1)

  all_drive : (calls : List wire.Call) (seens : List (Seen K)) → AllRun calls seens → AllDrive calls seens
  all_drive calls [] run = tt
  all_drive calls (seen ∷ others) run = (run.0.drives, all_drive calls others run.1)

  all_plain : (calls : List wire.Call) (seens : List (Seen K)) → AllRun calls seens → NoneUnread seens → AllPlain seens
  all_plain calls [] run none = tt
  all_plain calls (seen ∷ others) run none = (record { arrived = none.0; spelled = run.0.spelled; mode = run.0.off }, all_plain calls others run.1 none.1)

  -- Calls on other links.

  all_past : (calls more : List wire.Call) (seens : List (Seen K)) → AllRun calls seens → AllPass more seens → AllRun (calls ++ more) seens
  all_past calls more [] run off = tt
  all_past calls more (seen ∷ others) run off = (runs_past seen.link calls seen.history seen.unread more run.0 off.0, all_past calls more others run.1 off.1)

  pub passing_calls_drive : PassingCallsDrive K
  passing_calls_drive calls more seens d off =
      let run = all_past calls more seens (all_run calls seens d.drive d.plain) off in
      record { own = d.own; drive = all_drive (calls ++ more) seens run; plain = d.plain }

  pub other_calls_pass : OtherCallsPass K
  other_calls_pass more [] off = tt
  other_calls_pass more (seen ∷ others) off = (off seen.link, other_calls_pass more others off)

  -- Turns.

  module _ {World : Type 0} (steps : World → List (Call K) → World → Type 0) where
    pub none_of : (link : ℕ) (before : List (Seen K)) (world : World) (calls : List wire.Call) (after : List (Seen K)) (world' : World) (ending : Ending) → Turns steps before world calls after world' ending → AreApart link before → calls_on link calls ≡ []
    none_of link before world calls after world' ending (All_took _ _ _ _ _ _ is none after_is world_is end) differ = ap (calls_on link) none
    none_of link before world calls after world' ending (Takes _ _ _ _ _ _ seen others notice own here half moved other there rest is turns enough more calls_are after_is end) differ =
        let apart = subst (AreApart link) is differ in
        ap (calls_on link) calls_are ∙ both_off link own other (part_off steps link notice seen world own here half moved apart.0 turns) (none_of link others half other there world' rest more apart.1)
    none_of link before world calls after world' ending (Runs_short _ _ _ _ _ _ seen others here moved is turns after_is end) differ =
        let apart = subst (AreApart link) is differ in
        part_off steps link _ seen world calls here world' moved apart.0 turns
    none_of link before world calls after world' ending (Breaks_off _ _ _ _ _ _ none after_is world_is end) differ = ap (calls_on link) none

    -- a part passes the links of the others
    others_pass : (link : ℕ) (own : List wire.Call) (others : List (Seen K)) → ((n : ℕ) → link ≢ n → calls_on n own ≡ []) → AreApart link others → AllPass own others
    others_pass link own [] off apart = tt
    others_pass link own (seen ∷ others) off apart = (off seen.link (λ is. apart.0 (sym is)), others_pass link own others off apart.1)

    -- Links stay.

    here_apart : (link n m : ℕ) → n ≡ m → m ≢ link → n ≢ link
    here_apart link n m same differ is = differ (sym same ∙ is)

    still_apart : (link : ℕ) (calls : List wire.Call) (before : List (Seen K)) (world : World) (part : List wire.Call) (after : List (Seen K)) (world' : World) (ending : Ending) → Turns steps before world part after world' ending →
        AllRun calls before → NoneUnread before → HaveOwnLinks before → AreApart link before → AreApart link after
    still_apart link calls before world part after world' ending (All_took _ _ _ _ _ _ is none after_is world_is end) run unread own_links differ = subst (AreApart link) (sym after_is) tt
    still_apart link calls before world part after world' ending (Takes _ _ _ _ _ _ seen others notice own here half moved other there rest is turns enough more calls_are after_is end) run unread own_links differ =
        let run' = subst (AllRun calls) is run in
        let unread' = subst NoneUnread is unread in
        let links = subst HaveOwnLinks is own_links in
        let apart = subst (AreApart link) is differ in
        let here_ran = part_ran steps calls notice seen world own here half moved turns unread'.0 (subst (Runs seen.link calls seen.history) unread'.0 run'.0) in
        let past = all_past calls own others run'.1 (others_pass seen.link own others (λ n d. part_off steps n notice seen world own here half moved d turns) links.0) in
        subst (AreApart link) (sym after_is) (here_apart link here.link seen.link here_ran.same apart.0, still_apart link (calls ++ own) others half other there world' rest more past unread'.1 links.1 apart.1)
    still_apart link calls before world part after world' ending (Runs_short _ _ _ _ _ _ seen others here moved is turns after_is end) run unread own_links differ =
        let run' = subst (AllRun calls) is run in
        let unread' = subst NoneUnread is unread in
        let apart = subst (AreApart link) is differ in
        let here_ran = part_ran steps calls _ seen world part here world' moved turns unread'.0 (subst (Runs seen.link calls seen.history) unread'.0 run'.0) in
        subst (AreApart link) (sym after_is) (here_apart link here.link seen.link here_ran.same apart.0, apart.1)
    still_apart link calls before world part after world' ending (Breaks_off _ _ _ _ _ _ none after_is world_is end) run unread own_links differ = subst (AreApart link) (sym after_is) differ

    -- after a turn: all run, their links are their own, and nothing is unread where memory did not run out
    record Turned (calls : List wire.Call) (whole : Bool) (after : List (Seen K)) : Type 0 where
      run : AllRun calls after
      own : HaveOwnLinks after
      arrived : whole ≡ true → NoneUnread after

    turn_runs : (calls : List wire.Call) (before : List (Seen K)) (world : World) (part : List wire.Call) (after : List (Seen K)) (world' : World) (ending : Ending) → Turns steps before world part after world' ending →
        AllRun calls before → NoneUnread before → HaveOwnLinks before → Turned (calls ++ part) (is_whole ending) after
    turn_runs calls before world part after world' ending (All_took _ _ _ _ _ _ is none after_is world_is end) run unread own_links =
        subst (Turned (calls ++ part) (is_whole ending)) (sym after_is) (record { run = tt; own = tt; arrived = λ e. tt })
    turn_runs calls before world part after world' ending (Takes _ _ _ _ _ _ seen others notice own here half moved other there rest is turns enough more calls_are after_is end) run unread own_links =
        let run' = subst (AllRun calls) is run in
        let unread' = subst NoneUnread is unread in
        let links = subst HaveOwnLinks is own_links in
        let here_ran = part_ran steps calls notice seen world own here half moved turns unread'.0 (subst (Runs seen.link calls seen.history) unread'.0 run'.0) in
        let past = all_past calls own others run'.1 (others_pass seen.link own others (λ n d. part_off steps n notice seen world own here half moved d turns) links.0) in
        let rest_ran = turn_runs (calls ++ own) others half other there world' rest more past unread'.1 links.1 in
        let all : List wire.Call = (calls ++ own) ++ other in
        let all_are : all ≡ calls ++ part = append_assoc calls own other ∙ ap (λ cs. calls ++ cs) (sym calls_are) in
        let here_runs : Runs here.link all here.history here.unread =
        subst (λ (n : ℕ). Runs n all here.history here.unread) (sym here_ran.same) (runs_past seen.link (calls ++ own) here.history here.unread other here_ran.runs (none_of seen.link others half other there world' rest more links.0)) in
        let here_own = subst (λ (n : ℕ). AreApart n there) (sym here_ran.same) (still_apart seen.link (calls ++ own) others half other there world' rest more past unread'.1 links.1 links.0) in
        let same : is_whole ending ≡ is_whole rest = ap is_whole end ∙ whole_rest moved rest in
        subst (Turned (calls ++ part) (is_whole ending)) (sym after_is) (subst (λ (cs : List wire.Call). Turned cs (is_whole ending) (here ∷ there)) all_are
        (record { run = (here_runs, rest_ran.run); own = (here_own, rest_ran.own); arrived = λ e. (here_ran.arrived enough, rest_ran.arrived (sym same ∙ e)) }))
    turn_runs calls before world part after world' ending (Runs_short _ _ _ _ _ _ seen others here moved is turns after_is end) run unread own_links =
        let run' = subst (AllRun calls) is run in
        let unread' = subst NoneUnread is unread in
        let links = subst HaveOwnLinks is own_links in
        let here_ran = part_ran steps calls _ seen world part here world' moved turns unread'.0 (subst (Runs seen.link calls seen.history) unread'.0 run'.0) in
        let past = all_past calls part others run'.1 (others_pass seen.link part others (λ n d. part_off steps n _ seen world part here world' moved d turns) links.0) in
        subst (Turned (calls ++ part) (is_whole ending)) (sym after_is) (record {
          run = (subst (λ (n : ℕ). Runs n (calls ++ part) here.history here.unread) (sym here_ran.same) here_ran.runs, past);
          own = (subst (λ (n : ℕ). AreApart n others) (sym here_ran.same) links.0, links.1);
          arrived = λ e. absurd (false≢true (sym (ap is_whole end) ∙ e));
        })
    turn_runs calls before world part after world' ending (Breaks_off _ _ _ _ _ _ none after_is world_is end) run unread own_links =
        subst (Turned (calls ++ part) (is_whole ending)) (sym after_is) (subst (λ (cs : List wire.Call). Turned cs (is_whole ending) before) (sym (ap (λ (cs : List wire.Call). calls ++ cs) none ∙ append-nil calls))
        (record { run = run; own = own_links; arrived = λ e. unread }))

module _ {K World : Type 0} (steps : World → List (Call K) → World → Type 0) where
  pub turns_drive : TurnsDrive steps
  turns_drive calls part before after world world' moved d turns =
      let t = turn_runs steps calls before world part after world' (Whole moved) turns (all_run calls before d.drive d.plain) (none_unread before d.plain) d.own in
      record { own = t.own; drive = all_drive (calls ++ part) after t.run; plain = all_plain (calls ++ part) after t.run (t.arrived refl) }

  pub short_turns_drive : ShortTurnsDrive steps
  short_turns_drive calls part before after world world' d turns =
      let t = turn_runs steps calls before world part after world' Short turns (all_run calls before d.drive d.plain) (none_unread before d.plain) d.own in
      (t.own, all_drive (calls ++ part) after t.run)

  pub turns_pass_others : TurnsPassOthers steps
  turns_pass_others link part before after world world' ending differ turns = none_of steps link before world part after world' ending turns differ

-- A job that asked for all that it could has nothing to ask for until something comes.
use Rattle.std.proofs.Common.{◌≡◌, ◌≢◌, inl, inr, ℕ, ◌+◌, ◌<◌, Bool, true, false, cond, List, [], ◌∷◌, length, Option, Some, None, is_some, refl, ap, sym, subst, ◌∙◌, arith}
use Rattle.std.proofs.lemmas.Bool.{false≢true}
use Rattle.lnbd_link.specs.Call as wire
use Rattle.lnbd_poll.specs.Held.{Held}
use Rattle.lnbd_board.specs.declared.row.Row.{Row}
use Rattle.lnbd_board.specs.declared.ticket.Ticket.{Ticket}
use Rattle.lnbd_board.specs.Files as board
use Rattle.lnbd_plan.specs.declared.grid.Slice.{Slice}
use Rattle.lnbd_course.proofs.Flushing.{none_there}
use Rattle.lnbd_copy.specs.declared.job.Phase.{Phase}
use Rattle.lnbd_copy.specs.declared.job.Phase.TheVariants.{Copying, Flushing, Parting}
use Rattle.lnbd_conduct.specs.declared.terms.Terms.{Terms}
use Rattle.lnbd_copy.specs.Awaiting.{AreToAsk, AwaitsAll, HasNothingToAsk, IsCopying}
use Rattle.lnbd_copy.specs.Copier.{IsOnItsWay, IsParting, Seen}
use Rattle.lnbd_copy.specs.Dealing.{HasGoneOn}
use Rattle.lnbd_copy.specs.Job as work
use Rattle.lnbd_copy.specs.Moving.{AsksFor, HasHeard}
use Rattle.lnbd_copy.specs.UnderWay.{HasAsked, HasFilled, HaveLooked, unfinished}
use Rattle.lnbd_copy.specs.Way.{IsUnderWay, Way}
use Rattle.lnbd_conduct.specs.Told.{Told}
use Rattle.lnbd_copy.specs.Windows as windows
use Rattle.lnbd_copy.proofs.CopierLemmas.{told_as}

-- Nothing is asked for but by a job that copies, or waits for its flush.

parting_copies : Parting ≡ Copying → ⊥
parting_copies e = cc

parting_flushes : Parting ≡ Flushing → ⊥
parting_flushes e = cc

parting_waits : (j : work.Seen) (now : board.Seen) → j.phase ≡ Parting → HasNothingToAsk j now
parting_waits j now at = record { copying = λ copying. absurd (parting_copies (sym at ∙ copying)); flushing = λ flushing. absurd (parting_flushes (sym at ∙ flushing)) }

pub flushing_waits : (j : work.Seen) (now : board.Seen) → j.phase ≢ Copying → now.flushed ≡ false → HasNothingToAsk j now
flushing_waits j now past none = record { copying = λ copying. absurd (past copying); flushing = λ flushing. none }

-- What is to be asked is so by the windows and the board.

to_ask_as : (j k : work.Seen) (now now' : board.Seen) → k.asked ≡ j.asked → windows.wanted k.windows ≡ windows.wanted j.windows → k.windows.plan.end ≡ j.windows.plan.end → k.windows.at ≡ j.windows.at → unfinished k.windows now' ≡ unfinished j.windows now → k.terms.limit ≡ j.terms.limit → AreToAsk k now' → AreToAsk j now
to_ask_as j k now now' asked wanted end at all limit are = record {
  unasked = sym asked ∙ are.unasked;
  wanted = sym (ap (λ (o : Option (ℕ × ℕ)). is_some o) wanted) ∙ are.wanted;
  few = elim are.few [ inl less ↦ inl (omega (arith, less, end, at)) | inr less ↦ inr (omega (arith, less, all, limit)) ];
}

no_items : {A : Type 0} (list : List A) → length list ≡ 0 → list ≡ []
no_items [] e = refl
no_items (x ∷ xs) e = absurd (omega (arith, e))

none_of_both : (a b : ℕ) → a + b ≡ 0 → (a ≡ 0) × (b ≡ 0)
none_of_both a b e = (omega (arith, e), omega (arith, e))

over_before : (j k : work.Seen) (now now' : board.Seen) → k.asked ≡ j.asked → k.terms ≡ j.terms → k.windows.plan.end ≡ j.windows.plan.end → unfinished k.windows now' ≡ unfinished j.windows now → work.IsOver k now' → work.IsOver j now
over_before j k now now' asked terms end all over =
    let rows : length now'.rows ≡ 0 = ap (λ (l : List (ℕ × Row)). length l) over.rows in
    let slices : length k.windows.plan.slices ≡ 0 = ap (λ (l : List Slice). length l) over.handed in
    let none = none_of_both (length now.rows) (length j.windows.plan.slices) (omega (arith, all, rows, slices)) in
    record {
      planned = sym end ∙ over.planned ∙ ap (λ (t : Terms). t.size) terms;
      handed = no_items j.windows.plan.slices none.1;
      heard = sym asked ∙ over.heard;
      rows = no_items now.rows none.0;
    }

pub board_unflushed : (b0 b1 b3 b4 : board.Seen) (j2 j3 j4 : work.Seen) → HasGoneOn b0 b1 → HasAsked j2 j3 b1 b3 → HasFilled j3 j4 b3 b4 → b0.flushed ≡ false → b4.flushed ≡ false
board_unflushed b0 b1 b3 b4 j2 j3 j4 went asked filled none = filled.flushed ∙ ap (λ (s : board.Seen). s.flushed) asked.board ∙ ap (λ (s : board.Seen). s.flushed) went ∙ none

-- Slices went on, extents were heard and asked for, and slices were begun: then nothing is left to ask for.

module _ (j3 j4 : work.Seen) (b3 b4 : board.Seen) (filled : HasFilled j3 j4 b3 b4) where
  filled_asks : AreToAsk j4 b4 → AreToAsk j3 b3
  filled_asks are =
      to_ask_as j3 j4 b3 b4 (ap (λ (j : work.Seen). j.asked) filled.job) filled.wanted (ap (λ (w : windows.Seen). w.plan.end) filled.planned) (ap (λ (w : windows.Seen). w.at) filled.planned) filled.fills.all (ap (λ (j : work.Seen). j.terms.limit) filled.job) are

  filled_over : work.IsOver j4 b4 → work.IsOver j3 b3
  filled_over over = over_before j3 j4 b3 b4 (ap (λ (j : work.Seen). j.asked) filled.job) (ap (λ (j : work.Seen). j.terms) filled.job) (ap (λ (w : windows.Seen). w.plan.end) filled.planned) filled.fills.all over

pub copying_waits : (j2 j3 j4 : work.Seen) (b0 b1 b3 b4 : board.Seen) → HaveLooked b0 b1 → HasGoneOn b0 b1 → (j2.asked ≡ true → b1.mapped ≡ false) → HasAsked j2 j3 b1 b3 → ¬ AreToAsk j3 b3 → HasFilled j3 j4 b3 b4 → ¬ work.IsOver j4 b4 → b0.flushed ≡ false → HasNothingToAsk j4 b4
copying_waits j2 j3 j4 b0 b1 b3 b4 looked went untold asked none filled left unflushed =
    let limit : j4.terms.limit ≡ j3.terms.limit = ap (λ (j : work.Seen). j.terms.limit) filled.job in
    record {
      copying = λ copying. record {
        came = filled.came ∙ ap (λ (s : board.Seen). s.came) asked.board ∙ looked.none;
        untold = λ is. filled.mapped ∙ asked.untold untold (sym (ap (λ (j : work.Seen). j.asked) filled.job) ∙ is);
        asked = λ are. none (filled_asks j3 j4 b3 b4 filled are);
        begun = λ less. filled.fills.none (omega (arith, less, limit));
        left = left;
      };
      flushing = λ flushing. board_unflushed b0 b1 b3 b4 j2 j3 j4 went asked filled unflushed;
    }

-- A job that had nothing to ask for asks nothing.

hears_none : (heard : Bool) (j0 j1 j2 : work.Seen) (b0 b1 : board.Seen) → j1 ≡ record j0 { bound = j1.bound } → b1 ≡ b0 → IsCopying j0 b0 → HasHeard heard j1 j2 b1 → (heard ≡ false) × (j2 ≡ j1)
hears_none false j0 j1 j2 b0 b1 job same waits hears = (refl, hears)
hears_none true j0 j1 j2 b0 b1 job same waits hears =
    let untold : b0.mapped ≡ false = waits.untold (sym (ap (λ (j : work.Seen). j.asked) job) ∙ hears.0) in
    absurd (false≢true (sym untold ∙ sym (ap (λ (b : board.Seen). b.mapped) same) ∙ hears.2))

-- extents are asked for by none that had them asked for, or wants none
asks_none : (asked : Bool) (j0 j1 j2 j3 : work.Seen) (b0 b1 b3 : board.Seen) → j1 ≡ record j0 { bound = j1.bound } → b1 ≡ b0 → IsCopying j0 b0 → j2 ≡ j1 → (asked ≡ true → AreToAsk j2 b1) → AsksFor asked j2 j3 b3 → (asked ≡ false) × (j3 ≡ j2)
asks_none false j0 j1 j2 j3 b0 b1 b3 job same waits as_was due asks = (refl, asks)
asks_none true j0 j1 j2 j3 b0 b1 b3 job same waits as_was due asks =
    let all : j2 ≡ record j0 { bound = j1.bound } = as_was ∙ job in
    absurd (waits.asked (to_ask_as j0 j2 b0 b1 (ap (λ (j : work.Seen). j.asked) all) (ap (λ (j : work.Seen). windows.wanted j.windows) all) (ap (λ (j : work.Seen). j.windows.plan.end) all) (ap (λ (j : work.Seen). j.windows.at) all)
    (ap (λ (j : work.Seen). unfinished j.windows b1) all ∙ ap (λ (b : board.Seen). unfinished j0.windows b) same) (ap (λ (j : work.Seen). j.terms.limit) all) (due refl)))

-- What a job does that had nothing to ask for.
pub record AsksNoMore (j0 j1 j2 j3 j4 : work.Seen) (b0 b1 b3 b4 : board.Seen) (goes begins : ℕ) (hears asks : Bool) : Type 0 where
  pub went : goes ≡ 0
  pub heard : hears ≡ false
  pub asked : asks ≡ false
  pub begun : begins ≡ 0
  pub left : ¬ work.IsOver j4 b4

pub asks_no_more : (j0 j1 j2 j3 j4 : work.Seen) (b0 b1 b3 b4 : board.Seen) (went begun : ℕ) (heard asked : Bool) → j0.phase ≡ Copying → j1 ≡ record j0 { bound = j1.bound } → (b0.came ≡ [] → went ≡ 0) → (went ≡ 0 → b1 ≡ b0) → HasHeard heard j1 j2 b1 → (asked ≡ true → AreToAsk j2 b1) → AsksFor asked j2 j3 b3 → HasAsked j2 j3 b1 b3 →
    HasFilled j3 j4 b3 b4 → ((length b3.rows < j3.terms.limit → length j3.windows.plan.slices ≡ 0) → begun ≡ 0) → HasNothingToAsk j0 b0 → AsksNoMore j0 j1 j2 j3 j4 b0 b1 b3 b4 went begun heard asked
asks_no_more j0 j1 j2 j3 j4 b0 b1 b3 b4 went begun heard asked copying job none still hears due asks has filled stop nothing =
    let waits = nothing.copying copying in
    let none_went = none waits.came in
    let same = still none_went in
    let heard_none = hears_none heard j0 j1 j2 b0 b1 job same waits hears in
    let asked_none = asks_none asked j0 j1 j2 j3 b0 b1 b3 job same waits heard_none.1 due asks in
    let all : j3 ≡ record j0 { bound = j1.bound } = asked_none.1 ∙ heard_none.1 ∙ job in
    let rows : length b3.rows ≡ length b0.rows = ap (λ (b : board.Seen). length b.rows) has.board ∙ ap (λ (b : board.Seen). length b.rows) same in
    let limit : j3.terms.limit ≡ j0.terms.limit = ap (λ (j : work.Seen). j.terms.limit) all in
    let slices : length j3.windows.plan.slices ≡ length j0.windows.plan.slices = ap (λ (j : work.Seen). length j.windows.plan.slices) all in
    record {
      went = none_went;
      heard = heard_none.0;
      asked = asked_none.0;
      begun = stop (λ less. slices ∙ waits.begun (omega (arith, less, rows, limit)));
      left = λ over.
          waits.left (over_before j0 j3 b0 b3 (ap (λ (j : work.Seen). j.asked) all) (ap (λ (j : work.Seen). j.terms) all) (ap (λ (j : work.Seen). j.windows.plan.end) all) (omega (arith, rows, slices)) (filled_over j3 j4 b3 b4 filled over));
    }

-- A copy.

some_job : (one other : work.Seen) → Some one ≡ Some other → one ≡ other
some_job one other e = cc

parting_is : (phase : Phase) → work.is_parting phase ≡ true → phase ≡ Parting
parting_is Copying parts = absurd (false≢true parts)
parting_is Flushing parts = absurd (false≢true parts)
parting_is Parting parts = refl

pub parting_awaits : (copy : Seen) (now : board.Seen) → IsParting copy → AwaitsAll copy.job now
parting_awaits copy now parting one is = parting_waits one now (ap (λ (j : work.Seen). j.phase) (sym (some_job parting.job one (sym parting.there ∙ is))) ∙ parting_is parting.job.phase parting.parts)

-- Where no flush was asked for none was answered.
unanswered : (parting : Bool) (way : Way) (now : board.Seen) (calls : List wire.Call) (held : List (Held Ticket)) → IsUnderWay parting way now calls held → now.error ≡ None → now.flushing ≡ false → (b : Bool) → now.flushed ≡ b → b ≡ false
unanswered parting way now calls held on well unasked false is = refl
unanswered parting way now calls held on well unasked true is =
    let stood = on.stands.between.course.stood in
    let done = stood.flushed well is in
    let none = none_there stood.destination (stood.counted.flushes ∙ ap (λ (b : Bool). cond b 1 0) unasked) done.flush done.within in
    absurd (false≢true (sym none ∙ done.kind))

pub act_awaits : (copy : Seen) (start told : Option (List wire.Call)) (j j' : work.Seen) (now : board.Seen) → copy.job ≡ Some j → copy.board.error ≡ None → ((j.phase ≡ Copying → copy.board.flushed ≡ false) → HasNothingToAsk j' now) → IsOnItsWay start told copy → Told start told (λ calls. AwaitsAll (Some j') now)
act_awaits copy start told j j' now there well waits on =
    let same : on.job ≡ j = some_job on.job j (sym on.there ∙ there) in
    told_as start told
    (λ calls is one named. subst (λ (x : work.Seen). HasNothingToAsk x now) (some_job j' one named)
    (waits (λ copying. unanswered (work.is_parting on.job.phase) on.way copy.board calls copy.held is well (on.is.unflushed (ap (λ (x : work.Seen). x.phase) same ∙ copying)) copy.board.flushed refl)))
    on.on

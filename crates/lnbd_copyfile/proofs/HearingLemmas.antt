-- What a copy from an export to a file reads, it heard of before, whatever it comes to.
use Rattle.std.proofs.Common.{◌≡◌, ◌⊎◌, inl, inr, ◌<◌, ◌≤◌, ◌||◌, ℕ, Bool, true, false, List, [], ◌++◌, length, Option, Some, None, is_some, if◌then◌else◌}
use Rattle.std.proofs.Common.{refl, ap, sym, subst, ◌∙◌, arith, nat_lt, nat_le, append-nil}
use Rattle.std.proofs.lemmas.Bool.{cases_lt, false≢true}
use Rattle.std.proofs.lemmas.Grind.{common_steps}
use Rattle.std.specs.Option.{option_map}
use Rattle.std.specs.Prelude.{IfOk, Result, Ok, Err}
use Rattle.lnbd_model.specs.declared.target.Place.{Place}
use Rattle.lnbd_outcome.specs.Outcome.{Unfinished}
use Rattle.lnbd_extents.specs.Positions.{within}
use Rattle.lnbd_link.specs.Call as wire
use Rattle.lnbd_history.specs.Commands.{Command, Request}
use Rattle.lnbd_history.specs.History.{request}
use Rattle.lnbd_asked.specs.Driven.{DrivenSays, written}
use Rattle.lnbd_asked.specs.Link.{Nobody}
use Rattle.lnbd_asked.specs.Transcript.{Dealt, answered, asked_on, bare, dealt_with, is_of, on_link, only_if}
use Rattle.lnbd_poll.specs.Held.{Held}
use Rattle.lnbd_poll.specs.Seen as poll
use Rattle.lnbd_plan.specs.declared.grid.Slice.{Slice}
use Rattle.lnbd_board.specs.declared.how.How.{How}
use Rattle.lnbd_board.specs.declared.ticket.Ticket.{Ticket}
use Rattle.lnbd_board.specs.Files as board
use Rattle.lnbd_board.specs.Requests.{reads}
use Rattle.lnbd_board.specs.Requests as sides
use Rattle.lnbd_tracks.specs.Mapping.{IsWanted}
use Rattle.lnbd_tracks.specs.Tracks.{Histories}
use Rattle.lnbd_tracks.proofs.Written.{done_is_written}
use Rattle.lnbd_course.specs.Answered.{WasAnswered}
use Rattle.lnbd_course.specs.Asks.{EachAsked, EndsBy, GrewBy}
use Rattle.lnbd_course.specs.Failed.{AllStand}
use Rattle.lnbd_course.specs.Far.{Far, FarStood, ToFile}
use Rattle.lnbd_course.specs.FarCourse.{FarCourse, IsSettled, every}
use Rattle.lnbd_course.specs.Told.{Known, Knows}
use Rattle.lnbd_course.proofs.Ending.{planned_once}
use Rattle.lnbd_course.proofs.Failing.{course_says, written_here}
use Rattle.lnbd_course.proofs.Quiet.{dealt_stays}
use Rattle.lnbd_plan.specs.declared.cells.Cells.{Cells}
use Rattle.lnbd_plan.specs.Laws.{told_by}
use Rattle.lnbd_conduct.specs.Answered.{HasNoContext, MayBeRead, ReadsAreAnswered}
use Rattle.lnbd_conduct.specs.Told.{Told}
use Rattle.lnbd_copy.specs.Agreed.{Tells}
use Rattle.lnbd_copy.specs.Faults.{GoesIdly}
use Rattle.lnbd_copy.specs.Grounds.{Happens}
use Rattle.lnbd_copy.specs.Heard.{IsHeardTo, passed_heard}
use Rattle.lnbd_copy.specs.Lasting.{Lasts}
use Rattle.lnbd_copy.specs.Way.{Filed, Stand}
use Rattle.lnbd_copy.specs.Windows as windows
use Rattle.lnbd_copy.proofs.EndLemmas.{told_part}
use Rattle.lnbd_copy.proofs.FailLemmas.{all_stand}
use Rattle.lnbd_copy.proofs.HeardLemmas.{may_stay}
use Rattle.lnbd_copy.proofs.IdleLemmas.{StaysIdly, told_idly}
use Rattle.lnbd_copy.proofs.SettledLemmas.{told_both}
use Rattle.lnbd_copy.proofs.TurnLemmas.{since_on, told_map}
use Rattle.lnbd_copy.proofs.WindowLemmas.{and_left, or_cases}
use Rattle.lnbd_store.specs.Shelf.{Shelf}
use Rattle.lnbd_connections.specs.Asks.{Asks, AsksNone, DialsOnly}
use Rattle.lnbd_connections.specs.Bound.{Binds, BindsMore, DrivesFirst, KeepsFirst}
use Rattle.lnbd_connections.specs.Way.{IsUnderWay, Way}
use Rattle.lnbd_connections.proofs.AskLemmas.{asks_still}
use Rattle.lnbd_connections.proofs.FirstLemmas.{first_agreed, first_agreed_none}
use Rattle.lnbd_copyfile.specs.Hearing.{HasHeard, HearsOn, HearsReads, HearsTo, IsLed}
use Rattle.lnbd_copyfile.specs.Jobs.{Seen}
use Rattle.lnbd_copyfile.specs.Sharing.{IsOpening}
use Rattle.lnbd_copyfile.specs.ToFile.{GoesFurther, IsBeginning, beginning}
use Rattle.lnbd_copyfile.specs.ToFileJob.{Acts, IsJob}
use Rattle.lnbd_copyfile.proofs.TakenLemmas.{once_asked}

-- The range that was waited for was answered.

module _ (far : Far) (at : Place) (size : Option ℕ) (how : How) (slices : List Slice) (now : board.Seen) (calls : List wire.Call) (seens : List (poll.Seen Ticket)) (range : ℕ × ℕ) (known : Known)
    (b : FarCourse far at size how slices now calls seens (Some range) known) (stands : AllStand seens) (mapped : now.mapped ≡ true) where
  abbrev F : board.Seen → Histories → Type 0
  F = Knows (FarStood far how slices) every (Some range) known

  abbrev histories : Histories
  histories = b.course.histories

  abbrev w : IsWanted every histories range now
  w = b.course.stood.maps

  out : nat_le w.cookie (written (histories w.link)) ≡ true
  out = let done = w.answered mapped in done_is_written (histories w.link) w.cookie done.bytes done.is

  says : DrivenSays (histories w.link) (on_link w.link calls)
  says = course_says F now calls seens b.course stands w.link

  here : is_of at calls w.link ≡ true
  here = written_here F (IsSettled size) at at every now calls seens b stands w.link w.cookie w.asks w.asked out

  range_answered : (p : ℕ) → within range p ≡ true → WasAnswered (dealt_with at calls) p
  range_answered p inside =
      let done = w.answered mapped in
      record {
        link = w.link;
        cookie = w.cookie;
        command = bare w.asks;
        bytes = done.bytes;
        asked = ap (λ (t : Bool). only_if t (asked_on (on_link w.link calls) w.cookie)) here ∙ says.requests w.cookie
            ∙ ap (λ (t : Bool). if t then option_map bare (request (histories w.link) w.cookie) else None) out ∙ ap (λ (a : Option (Request Ticket)). option_map bare a) w.asked;
        kind = w.kind;
        done = ap (λ (t : Bool). if t then answered (on_link w.link calls) w.cookie else Unfinished) here ∙ says.outcomes w.cookie out ∙ done.is;
        has = ap (λ (n : ℕ). within (n, w.asks.length) p) w.offset ∙ ap (λ (n : ℕ). within (range.0, n) p) w.length_ ∙ inside;
      }

-- Steps of a job.

pub hears_same : (job job' : Seen) (now : board.Seen) (held : List (Held Ticket)) → job'.windows.at ≡ job.windows.at → HearsOn job job' now held
hears_same job job' now held same = record { onward = omega (arith, same); on = λ made way calls is on p low high. absurd (omega (arith, same, low, high)) }

pub hears_still : (job : Seen) (now : board.Seen) (held : List (Held Ticket)) → HearsOn job job now held
hears_still job now held = hears_same job job now held refl

pub hears_on : (job job2 job3 : Seen) (now : board.Seen) (held : List (Held Ticket)) → HearsOn job job2 now held → job3.windows.at ≡ job2.windows.at → HearsOn job job3 now held
hears_on job job2 job3 now held one same = record {
  onward = (let a = one.onward in omega (arith, a, same));
  on = λ made way calls is on p low high. one.on made way calls is on p low (omega (arith, same, high));
}

-- Extents are heard.
module _ (job job' : Seen) (windows' : windows.Seen) (now : board.Seen) (held : List (Held Ticket)) (asked : job.asked ≡ true) (mapped : now.mapped ≡ true) (same : job'.windows ≡ windows')
    (heard : (heard : ℕ → Bool) → IsHeardTo job.windows heard → IsHeardTo windows' (λ p. heard p || passed_heard job.windows.grain (windows.wanted job.windows) now.told p))
    (ahead : is_some (windows.wanted job.windows) ≡ true → job.windows.at < windows'.at) (still : windows.wanted job.windows ≡ None → windows' ≡ job.windows) where
  further : (o : Option (ℕ × ℕ)) → windows.wanted job.windows ≡ o → job.windows.at ≤ windows'.at
  further None none = (let at = ap (λ (x : windows.Seen). x.at) (still none) in omega (arith, at))
  further (Some range) is = (let less = ahead (ap (λ (o : Option (ℕ × ℕ)). is_some o) is) in omega (arith, less))

  -- a position behind the place where asking went on was of the range
  passed : (anywhere : ℕ → Bool) → IsHeardTo job.windows anywhere → (p : ℕ) → job.windows.at ≤ p → p < windows'.at → passed_heard job.windows.grain (windows.wanted job.windows) now.told p ≡ true
  passed anywhere was p low high =
      let before : IsHeardTo job.windows (λ p. nat_lt p job.windows.at) = record { planned = was.planned; before = λ p less. grind (arith, common_steps); blocks = was.blocks; steps = was.steps } in
      let test : nat_lt p job.windows.at ≡ false = grind (arith, common_steps) in
      elim (or_cases (nat_lt p job.windows.at) (passed_heard job.windows.grain (windows.wanted job.windows) now.told p) ((heard (λ p. nat_lt p job.windows.at) before).before p high)) [
        | inl less ↦ absurd (false≢true (sym test ∙ less))
        | inr e ↦ e
      ]

  answered_so : (made : List sides.Request) (way : Way) (calls : List wire.Call) → IsUnderWay (ToFile made) way now calls held → (o : Option (ℕ × ℕ)) → way.asked ≡ o → (p : ℕ) →
      passed_heard job.windows.grain o now.told p ≡ true → WasAnswered (dealt_with way.at calls) p
  answered_so made way calls on None none p e = absurd (false≢true e)
  answered_so made way calls on (Some range) is p e =
      range_answered (ToFile made) way.at way.size way.how way.slices now calls on.seens range way.known
      (subst (λ (o : Option (ℕ × ℕ)). FarCourse (ToFile made) way.at way.size way.how way.slices now calls on.seens o way.known) is on.stands) (all_stand held on.seens on.at) mapped p
      (and_left (within range p) _ e)

  pub hears_heard : HearsOn job job' now held
  hears_heard = record {
    onward = subst (λ (x : windows.Seen). job.windows.at ≤ x.at) (sym same) (further (windows.wanted job.windows) refl);
    on = λ made way calls is on p low high.
        answered_so made way calls on (windows.wanted job.windows) (is.asked ∙ ap (λ (b : Bool). if b then windows.wanted job.windows else None) asked) p
        (passed _ is.heard p low (subst (λ (x : windows.Seen). p < x.at) same high));
  }

pub hears_then : (file : ℕ) (job job2 job3 : Seen) (now now2 : board.Seen) (held held2 : List (Held Ticket)) (x y : Option Shelf) (t u : ℕ) → Acts file job job2 now now2 held held2 x y t u →
    HearsOn job job2 now held → HearsOn job2 job3 now2 held2 → HearsOn job job3 now held
hears_then file job job2 job3 now now2 held held2 x y t u acts one two = record {
  onward = (let a = one.onward in let b = two.onward in omega (arith, a, b));
  on = λ made way calls is on p low high. elim (cases_lt p job2.windows.at) [
    | inl less ↦ one.on made way calls is on p low less
    | inr behind ↦
        let further = acts.on made way is in
        subst (λ (place : Place). WasAnswered (dealt_with place calls) p) further.one.at (two.on (made ++ further.more) further.way' calls further.job (further.on calls on) p behind high)
  ];
}

-- Steps of a copy.

-- What was heard stays heard.
heard_stays : (extents : Bool) (at : Place) (n : ℕ) → StaysIdly (HasHeard extents at n)
heard_stays extents at n calls more quiet none h = record {
  heard = λ p low. may_stay extents at p calls more (h.heard p low);
  read = subst (EachAsked (EndsBy reads n)) (sym (dealt_stays calls more quiet none at)) h.read;
}

heard_later : (extents : Bool) (at : Place) (n : ℕ) (start a b : Option (List wire.Call)) → Lasts a b → Told start a (HasHeard extents at n) →
    Told start b (λ calls. (p : ℕ) → p < n → MayBeRead extents at p calls)
heard_later extents at n start a b lasts told = record {
  since = λ all is.
      let front = lasts.on all is in
      let since = told.since front.before front.is in
      since_on start front.before all front.after front.are since (λ p low. may_stay extents at p since.calls front.after (since.is.heard p low));
}

-- what is read lies in what is planned
reads_planned : (made : List sides.Request) (job : Seen) (way : Way) (now : board.Seen) (flushing : Bool) (calls : List wire.Call) → IsJob job way now → Asks (ToFile made) way flushing calls →
    EachAsked (EndsBy reads job.windows.at) (dealt_with way.at calls)
reads_planned made job way now flushing calls is asks link cookie command asked p e =
    let once = once_asked made way flushing calls job.windows.plan.cells (told_by 0 is.planned.parts) job.windows.plan.end job.windows.plan.end job.windows.plan.slices asks
    (λ p. planned_once job.windows.plan.cells is.planned.parts job.windows.plan.end (way.slices ++ job.windows.plan.slices) is.planned.are is.planned.end p) (omega arith) in
    let low = once.reads_within link cookie command asked p e in
    let ahead = is.heard.planned in
    omega (arith, low, ahead)

pub hears_turned : (file : ℕ) (job : Seen) (now : board.Seen) (held : List (Held Ticket)) (a b : Option (List wire.Call)) (shelf : Option Shelf) (taken : ℕ) → AsksNone now held a b →
    HearsTo file job now held a shelf taken job.windows.at b
hears_turned file job now held a b shelf taken none = record {
  on = λ extents at start was had c heard. go extents at start c.way c.made c.place c.job_ heard (none.lasts c.stand) (none.on (ToFile c.made) c.way start c.stand c.on);
}
  where
    go : (extents : Bool) (at : Place) (start : Option (List wire.Call)) (way : Way) (made : List sides.Request) → way.at ≡ at → IsJob job way now →
        Told start a (HasHeard extents at job.windows.at) → Lasts a b → GoesIdly a b ⊎ Told start b (Asks (ToFile made) way now.flushing) → Told start b (HasHeard extents at job.windows.at)
    go extents at start way made there is heard lasts (inl idly) = told_idly (HasHeard extents at job.windows.at) start a b (heard_stays extents at job.windows.at) idly heard
    go extents at start way made there is heard lasts (inr asks) =
        told_map start b
        (λ calls both. record {
          heard = both.0;
          read = subst (λ (place : Place). EachAsked (EndsBy reads job.windows.at) (dealt_with place calls)) there (reads_planned made job way now now.flushing calls is both.1);
        })
        (told_both start b (heard_later extents at job.windows.at start a b lasts heard) asks)

-- what was answered and not read was heard
heard_more : (extents : Bool) (made : List sides.Request) (job job' : Seen) (way : Way) (now : board.Seen) (held : List (Held Ticket)) (calls : List wire.Call) →
    HearsOn job job' now held → IsJob job way now → IsUnderWay (ToFile made) way now calls held → HasHeard extents way.at job.windows.at calls → HasHeard extents way.at job'.windows.at calls
heard_more extents made job job' way now held calls hears is on h = record { heard = heard; read = read }
  where
    heard : (p : ℕ) → p < job'.windows.at → MayBeRead extents way.at p calls
    heard p low = elim (cases_lt p job.windows.at) [
      | inl less ↦ h.heard p less
      | inr behind ↦ inl (record {
        before = calls;
        after = [];
        are = sym (append-nil calls);
        answered = hears.on made way calls is on p behind low;
        unread = λ link cookie command asked. unread p behind link cookie command asked (reads command p) refl;
      })
    ]
      where
        unread : (p : ℕ) → job.windows.at ≤ p → (link cookie : ℕ) (command : Command Nobody) → (dealt_with way.at calls).asked link cookie ≡ Some command → (b : Bool) → reads command p ≡ b →
            reads command p ≡ false
        unread p behind link cookie command asked true e = (let low = h.read link cookie command asked p e in absurd (omega (arith, low, behind)))
        unread p behind link cookie command asked false e = e

    read : EachAsked (EndsBy reads job'.windows.at) (dealt_with way.at calls)
    read link cookie command asked p e = (let low = h.read link cookie command asked p e in let onward = hears.onward in omega (arith, low, onward))

pub hears_acted : (file : ℕ) (job job' : Seen) (now : board.Seen) (held : List (Held Ticket)) (told : Option (List wire.Call)) (shelf : Option Shelf) (taken : ℕ) → HearsOn job job' now held →
    HearsTo file job now held told shelf taken job'.windows.at told
hears_acted file job job' now held told shelf taken hears = record {
  on = λ extents at start was had c heard.
      subst (λ (place : Place). Told start told (HasHeard extents place job'.windows.at)) c.place
      (told_map start told (λ calls both. heard_more extents c.made job job' c.way now held calls hears c.job_ both.0 both.1)
      (told_both start told c.on (subst (λ (place : Place). Told start told (HasHeard extents place job.windows.at)) (sym c.place) heard)));
}

pub hears_none : (file : ℕ) (job : Seen) (now : board.Seen) (held : List (Held Ticket)) (told : Option (List wire.Call)) (shelf : Option Shelf) (taken : ℕ) →
    HearsTo file job now held told shelf taken job.windows.at told
hears_none file job now held told shelf taken = record { on = λ extents at start was had c heard. heard }

pub hears_idly : (file : ℕ) (job : Seen) (now : board.Seen) (held : List (Held Ticket)) (a b c : Option (List wire.Call)) (shelf : Option Shelf) (taken n : ℕ) →
    HearsTo file job now held a shelf taken n b → GoesIdly b c → HearsTo file job now held a shelf taken n c
hears_idly file job now held a b c shelf taken n one idly = record {
  on = λ extents at start was had copying heard. told_idly (HasHeard extents at n) start b c (heard_stays extents at n) idly (one.on extents at start was had copying heard);
}

pub hears_further : (file : ℕ) (job job2 : Seen) (now now2 : board.Seen) (held held2 : List (Held Ticket)) (a b c : Option (List wire.Call)) (x y : Option Shelf) (t u n : ℕ) →
    GoesFurther file job now held a x t job2 now2 held2 b y u → HearsTo file job now held a x t job2.windows.at b → HearsTo file job2 now2 held2 b y u n c → HearsTo file job now held a x t n c
hears_further file job job2 now now2 held held2 a b c x y t u n further one two = record {
  on = λ extents at start was had copying heard. two.on extents at start was had (further.on at start was had copying) (one.on extents at start was had copying heard);
}

reads_answered : (extents : Bool) (at : Place) (n : ℕ) (calls : List wire.Call) → HasHeard extents at n calls → ReadsAreAnswered extents at calls
reads_answered extents at n calls h = record { each = λ link cookie command asked p e. h.heard p (h.read link cookie command asked p e) }

pub heard_reads : (extents : Bool) (at : Place) (n : ℕ) (start told : Option (List wire.Call)) → Told start told (HasHeard extents at n) → Told start told (ReadsAreAnswered extents at)
heard_reads extents at n start told h = told_map start told (λ calls is. reads_answered extents at n calls is) h

pub hears_reads : (file : ℕ) (job : Seen) (now : board.Seen) (held : List (Held Ticket)) (a b : Option (List wire.Call)) (shelf : Option Shelf) (taken n : ℕ) →
    HearsTo file job now held a shelf taken n b → HearsReads file job now held a shelf taken b
hears_reads file job now held a b shelf taken n one = record { on = λ extents at start was had copying heard. heard_reads extents at n start b (one.on extents at start was had copying heard) }

answered_stay : (extents : Bool) (at : Place) → StaysIdly (ReadsAreAnswered extents at)
answered_stay extents at calls more quiet none r = record {
  each = λ link cookie command asked p e.
      may_stay extents at p calls more (r.each link cookie command (sym (ap (λ (d : Dealt). d.asked link cookie) (dealt_stays calls more quiet none at)) ∙ asked) p e);
}

-- So it is of the calls by which a transcript grew, behind which all links are shut.
pub answered_grew : (extents : Bool) (at : Place) (a b c : Option (List wire.Call)) → GoesIdly b c → Told a b (ReadsAreAnswered extents at) → GrewBy (ReadsAreAnswered extents at) a c
answered_grew extents at a b c idly told = told_part a c (told_idly (ReadsAreAnswered extents at) a b c (answered_stay extents at) idly told)

-- The beginning.

any_cells : Cells
any_cells = record { cell = 0; zero_cell = 0; zeros = false }

-- while connections are made nothing is read
none_read : (at : Place) (size : Option ℕ) (how : How) (flushing : Bool) (calls : List wire.Call) → Asks (ToFile []) (beginning at size how) flushing calls → (n : ℕ) →
    EachAsked (EndsBy reads n) (dealt_with at calls)
none_read at size how flushing calls asks n link cookie command asked p e =
    let once = once_asked [] (beginning at size how) flushing calls any_cells (told_by 0 []) 0 0 [] asks (λ p. planned_once any_cells [] 0 [] refl refl p) (omega arith) in
    let low = once.reads_within link cookie command asked p e in
    absurd (omega (arith, low))

-- Where extents are asked for, asking begins at the first position; and else none can be.
pub hears_begins : (extents : Bool) (at : Place) (size : Option ℕ) (start told : Option (List wire.Call)) (now : board.Seen) (held : List (Held Ticket)) (tells : Bool) (n : ℕ) →
    now.error ≡ None → (tells ≡ false → Happens HasNoContext 0 held) → (tells ≡ true → n ≡ 0) → IsBeginning at size start told now held → IsLed extents at size start told now held →
    Told start told (HasHeard extents at n)
hears_begins extents at size start told now held tells n well none first b led = told_map start told (λ calls both. record {
  heard = heard tells refl calls both.1;
  read = none_read at size now.how now.flushing calls (asks_still (ToFile []) (beginning at size now.how) now calls held well both.0) n;
}) (told_both start told b.on led)
  where
    heard : (b : Bool) → tells ≡ b → (calls : List wire.Call) → KeepsFirst extents (ToFile []) (beginning at size now.how) now calls held → (p : ℕ) → p < n → MayBeRead extents at p calls
    heard true is calls on p low = (let zero = first is in absurd (omega (arith, low, zero)))
    heard false is calls on p low = inr (first_agreed_none extents (ToFile []) (beginning at size now.how) now calls held on (none is))

pub hears_set_up : {Y : Type 0} (r : Result Seen Y) (size : Option ℕ) (now : board.Seen) (held : List (Held Ticket)) (tells : Bool) → now.error ≡ None →
    (tells ≡ false → Happens HasNoContext 0 held) → IfOk r (λ job. tells ≡ true → job.windows.at ≡ 0) →
    IfOk r (λ job. (extents : Bool) (at : Place) (start told : Option (List wire.Call)) → IsBeginning at size start told now held → IsLed extents at size start told now held →
    Told start told (HasHeard extents at job.windows.at))
hears_set_up (Ok job) size now held tells well none first = λ extents at start told b led. hears_begins extents at size start told now held tells job.windows.at well none first b led
hears_set_up (Err why) size now held tells well none first = tt

-- While connections are made the first one stays the first.
pub led_dialed : (extents : Bool) (at : Place) (start : Option (List wire.Call)) (now now' : board.Seen) (held held' : List (Held Ticket)) (told told' : Option (List wire.Call)) → now' ≡ now →
    held ≡ [] → DrivesFirst at extents now held told held' told' → IsOpening at None start told now held → IsLed extents at None start told' now' held'
led_dialed extents at start now now' held held' told told' same none drives o =
    subst (λ (s : board.Seen). IsLed extents at None start told' s held') (sym same) (drives.first true (ToFile []) (beginning at None now.how) start refl none o)

module _ (extents : Bool) (at : Place) (start : Option (List wire.Call)) where
  pub led_further : (size : Option ℕ) (now now' : board.Seen) (held held' : List (Held Ticket)) (told told' : Option (List wire.Call)) → now' ≡ now → 0 < length held →
      BindsMore at now held told held' told' → IsLed extents at size start told now held → IsLed extents at size start told' now' held'
  led_further size now now' held held' told told' same some binds led =
      subst (λ (s : board.Seen). IsLed extents at size start told' s held') (sym same) (binds.first extents (ToFile []) (beginning at size now.how) start refl some led)

  pub led_settled : (size : Option ℕ) (now now' : board.Seen) (held held' : List (Held Ticket)) (told told' : Option (List wire.Call)) → Filed now now' → Stand held →
      Binds now held told now' held' told' → IsLed extents at size start told now held → IsLed extents at size start told' now' held'
  led_settled size now now' held held' told told' filed stand binds led =
      subst (λ (how : How). Told start told' (λ calls. KeepsFirst extents (ToFile []) (beginning at size how) now' calls held')) (sym filed.how)
      (binds.first extents (ToFile []) (beginning at size now.how) start stand led)

  pub led_agreed : (size : ℕ) (now : board.Seen) (held : List (Held Ticket)) (told : Option (List wire.Call)) → Tells 0 size held → IsLed extents at None start told now held →
      IsLed extents at (Some size) start told now held
  led_agreed size now held told tells led = told_map start told (λ calls on. first_agreed extents (ToFile []) (beginning at None now.how) now calls held on 0 size refl tells) led

-- While connections are made no READ is asked, which could have been heard of or not.
no_reads : (extents : Bool) (at : Place) (size : Option ℕ) (how : How) (flushing : Bool) (calls : List wire.Call) → Asks (ToFile []) (beginning at size how) flushing calls →
    ReadsAreAnswered extents at calls
no_reads extents at size how flushing calls asks = record {
  each = λ link cookie command asked p e. (let low = none_read at size how flushing calls asks 0 link cookie command asked p e in absurd (omega (arith, low)));
}

pub heard_begin : (extents : Bool) (at : Place) (start : Option (List wire.Call)) (now : board.Seen) (held : List (Held Ticket)) → now.error ≡ None → IsBeginning at None start start now held →
    Told start start (ReadsAreAnswered extents at)
heard_begin extents at start now held well b =
    told_map start start (λ calls on. no_reads extents at None now.how now.flushing calls (asks_still (ToFile []) (beginning at None now.how) now calls held well on)) b.on

module _ (extents : Bool) (at : Place) (size : Option ℕ) (start a b : Option (List wire.Call)) (now : board.Seen) (held : List (Held Ticket)) (begins : IsBeginning at size start a now held)
    (was : Told start a (ReadsAreAnswered extents at)) where
  either_heard : GoesIdly a b ⊎ Told start b (Asks (ToFile []) (beginning at size now.how) now.flushing) → Told start b (ReadsAreAnswered extents at)
  either_heard (inl idly) = told_idly (ReadsAreAnswered extents at) start a b (answered_stay extents at) idly was
  either_heard (inr asks) = told_map start b (λ calls asked. no_reads extents at size now.how now.flushing calls asked) asks

  pub heard_dialed : now.error ≡ None → DialsOnly at now held a b → Told start b (ReadsAreAnswered extents at)
  heard_dialed well only = either_heard (only.on (ToFile []) (beginning at size now.how) start refl well begins.stand begins.on)

  pub heard_settled : AsksNone now held a b → Told start b (ReadsAreAnswered extents at)
  heard_settled none = either_heard (none.on (ToFile []) (beginning at size now.how) start begins.stand begins.on)

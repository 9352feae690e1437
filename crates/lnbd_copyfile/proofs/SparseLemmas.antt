-- Where a copy from a file ends, of which holes were told and the rest was read, the export holds the file. What was told counts as answered, a position at a time.
use Rattle.std.proofs.Common.{◌≡◌, ◌⊎◌, ◌<◌, ◌≤◌, ◌+◌, ◌-◌, ◌&&◌, ◌==◌, inl, inr, ℕ, zero, suc, Bool, true, false, cond, List, [], ◌∷◌, length, get_or, Option, Some, None, refl, ap, sym, subst, ◌∙◌, arith}
use Rattle.std.proofs.lemmas.Bool.{cases_lt, false≢true}
use Rattle.std.proofs.lemmas.Bool.Decides.{nat_tests}
use Rattle.std.proofs.lemmas.Grind.{common_steps}
use Rattle.lnbd_keyed.specs.Keyed.{value_at}
use Rattle.lnbd_link.specs.Call as wire
use Rattle.lnbd_model.specs.declared.kind.Kind.{Kind}
use Rattle.lnbd_model.specs.declared.kind.Kind.TheVariants.{BlockStatus, Read}
use Rattle.lnbd_model.specs.declared.target.Place.{Place}
use Rattle.lnbd_outcome.specs.Outcome as outcome
use Rattle.lnbd_history.specs.Commands.{Command}
use Rattle.lnbd_asked.specs.Honest.{Honest, IsHonest, changes, covers, has}
use Rattle.lnbd_asked.specs.Link.{Nobody}
use Rattle.lnbd_asked.specs.Transcript.{Dealt, dealt_with}
use Rattle.lnbd_plan.specs.declared.cells.Cells.{Cells}
use Rattle.lnbd_plan.specs.declared.grid.Slice.{Slice}
use Rattle.lnbd_plan.specs.Laws.{Window, told_by}
use Rattle.lnbd_board.specs.declared.how.How.{How}
use Rattle.lnbd_board.specs.declared.row.Row.{Row}
use Rattle.lnbd_board.specs.declared.ticket.Ticket.TheVariants as ticket
use Rattle.lnbd_board.specs.Files as board
use Rattle.lnbd_board.specs.Holds.{Holds, IsCopied, WasToldZero}
use Rattle.lnbd_board.specs.Requests.{Each, IsDealt, IsIn, Request, Said, Under, done_with, own, request, unanswered}
use Rattle.lnbd_board.specs.Rows.{AsksOfSource, Stands, StandsAs, slice_at}
use Rattle.lnbd_board.proofs.Copied.{copied_is_carried}
use Rattle.lnbd_board.proofs.Held.{carried_is_held}
use Rattle.lnbd_board.proofs.Lists.{in_each}
use Rattle.lnbd_board.proofs.Spelling.{within_at, within_true}
use Rattle.lnbd_onesided.specs.Dealt.{AreApart, dealt_by, found}
use Rattle.lnbd_onesided.specs.Honest.{IsRead}
use Rattle.lnbd_onesided.proofs.DealtLemmas.{apart_are_dealt, some_is}
use Rattle.lnbd_course.specs.Copied.{IsBlank}
use Rattle.lnbd_course.specs.Far.{AreNumbered, FarStood, FromFile}
use Rattle.lnbd_course.specs.FarCourse.{FarCourse, IsSettled, every}
use Rattle.lnbd_course.specs.Told.{Known, Knows}
use Rattle.lnbd_course.proofs.Ending.{are_dealt, destination_out_stands, gone_out, planned_once}
use Rattle.lnbd_course.proofs.FarEnding.{size_was_told_far}
use Rattle.lnbd_course.proofs.FarStanding.{numbered_apart}
use Rattle.lnbd_course.proofs.Placed.{side_asked}
use Rattle.lnbd_copyfile.specs.Holes.{AreHoles, IsReadWhole}

-- BLOCK_STATUS of one position, which is done, on a link that the file hasn't
abbrev status : ℕ → Command Nobody
status p = record { kind = BlockStatus; flags = 0; offset = p; length = 1; payload = []; first = None; done = tt }

abbrev answered : ℕ → Request
answered p = request 1 p ticket.Extents (done_with (status p) [])

-- one for each of the first positions, and what was read
abbrev with_statuses : ℕ → List Request → List Request
with_statuses zero read = read
with_statuses (suc n) read = answered n ∷ with_statuses n read

is_there : (p n : ℕ) (read : List Request) → p < n → IsIn (answered p) (with_statuses n read)
is_there p zero read less = absurd (omega (arith, less))
is_there p (suc n) read less = elim (cases_lt p n) [ inl l ↦ inr (is_there p n read l) | inr l ↦ inl (ap answered (omega (arith, less, l))) ]

each_status : (P : Request → Type 0) (n : ℕ) (read : List Request) → ((p : ℕ) → p < n → P (answered p)) → Each P read → Each P (with_statuses n read)
each_status P zero read f each = each
each_status P (suc n) read f each = (f n (omega arith), each_status P n read (λ p less. f p (omega (arith, less))) each)

-- They stand apart from what was read, and say nothing of slices.

other_link : (first p : ℕ) (read : List Request) → AreNumbered first read → found read 1 p ≡ None
other_link first p [] numbered = refl
other_link first p (r ∷ rs) numbered =
    subst (λ (link : ℕ). cond ((link == 1) && (r.cookie == p)) (Some r) (found rs 1 p) ≡ None) (sym numbered.0.0) (other_link (first + 1) p rs numbered.1)

later_apart : (n p : ℕ) (read : List Request) → n ≤ p → found read 1 p ≡ None → found (with_statuses n read) 1 p ≡ None
later_apart zero p read less none = none
later_apart (suc n) p read less none =
    let differs : (n == p) ≡ false = grind (arith, nat_tests, common_steps, less) in
    subst (λ (b : Bool). cond b (Some (answered n)) (found (with_statuses n read) 1 p) ≡ None) (sym differs) (later_apart n p read (omega (arith, less)) none)

all_apart : (n : ℕ) (read : List Request) → AreNumbered 0 read → AreApart (with_statuses n read)
all_apart zero read numbered = numbered_apart 0 read numbered
all_apart (suc n) read numbered = (later_apart n n read (omega arith) (other_link 0 n read numbered), all_apart n read numbered)

own_same : (i n : ℕ) (read : List Request) → own i (with_statuses n read) ≡ own i read
own_same i zero read = refl
own_same i (suc n) read = own_same i n read

unanswered_same : (n : ℕ) (read : List Request) → unanswered (with_statuses n read) ≡ unanswered read
unanswered_same zero read = refl
unanswered_same (suc n) read = let e = unanswered_same n read in omega (arith, e)

stands_with : (how : How) (slices : List Slice) (n : ℕ) (read changed : List Request) → Stands how slices [] read changed → Stands how slices [] (with_statuses n read) changed
stands_with how slices n read changed stands = record {
  each = λ i less. subst (λ (x : List Said). StandsAs how (slice_at slices i) (value_at {V = Row} i []) x (own i changed)) (sym (own_same i n read)) (stands.each i less);
  reads = each_status (λ r. AsksOfSource slices r.ticket r.said.command) n read (λ p less. (refl, refl, omega arith)) stands.reads;
  changes = stands.changes;
  rising = stands.rising;
  below = stands.below;
  counted = ap (λ (k : ℕ). k + unanswered changed) (unanswered_same n read) ∙ stands.counted;
}

-- What was dealt with the file: it told these positions to be zeros.
abbrev told_source : (size : ℕ) (holes : ℕ → Bool) → List Request → Dealt
told_source size holes read = record (dealt_by size (with_statuses size read)) { zero = λ link cookie p. holes p }

module _ (size : ℕ) (holes : ℕ → Bool) (read : List Request) (numbered : AreNumbered 0 read) where
  was_dealt : IsDealt (with_statuses size read) (told_source size holes read)
  was_dealt = let d = apart_are_dealt size (with_statuses size read) (all_apart size read numbered) in record { shown = d.shown; only = d.only }

  told_zero : (p : ℕ) → p < size → holes p ≡ true → WasToldZero (told_source size holes read) p
  told_zero p less hole = let shown = was_dealt.shown (answered p) (is_there p size read less) in record {
    link = 1;
    cookie = p;
    command = status p;
    bytes = [];
    asked = shown.0;
    kind = refl;
    done = shown.1;
    has = within_at p 1 p (omega arith) (omega arith);
    zero = hole;
  }

  came : (link cookie : ℕ) (command : Command Nobody) → (under : Under link cookie command (with_statuses size read)) →
      (told_source size holes read).outcome link cookie ≡ under.request.said.outcome
  came link cookie command under =
      subst (λ (k : ℕ). (told_source size holes read).outcome k cookie ≡ under.request.said.outcome) under.on
      (subst (λ (k : ℕ). (told_source size holes read).outcome under.request.link k ≡ under.request.said.outcome) under.by (was_dealt.shown under.request under.within).1)

-- It is honest.

status_read : BlockStatus ≡ Read → ⊥
status_read e = cc

-- a request of it is one of its first positions' status, or a read that told its bytes
abbrev Says : (size : ℕ) → List ℕ → Request → Type 0
Says size file r = ((r.said.command.kind ≡ BlockStatus) × ((p : ℕ) → has r.said.command p ≡ true → p < size)) ⊎ IsRead file r

reads_say : (size : ℕ) (file : List ℕ) (read : List Request) → Each (IsRead file) read → Each (Says size file) read
reads_say size file [] each = tt
reads_say size file (r ∷ rs) each = (inr each.0, reads_say size file rs each.1)

each_says : (size : ℕ) (file : List ℕ) (read : List Request) → Each (IsRead file) read → Each (Says size file) (with_statuses size read)
each_says size file read each =
    each_status (Says size file) size read (λ p less. inl (refl, λ q here. let w = within_true p 1 q here in omega (arith, w, less))) (reads_say size file read each)

module _ (size : ℕ) (file : List ℕ) (r : Request) (command : Command Nobody) (same : r.said.command ≡ command) where
  told_so : (bytes : List ℕ) (p : ℕ) → Says size file r → command.kind ≡ Read → r.said.outcome ≡ outcome.Done bytes → has command p ≡ true →
      get_or bytes (p - command.offset) 0 ≡ get_or file p 0
  told_so bytes p (inl s) kind done here = absurd (status_read (sym s.0 ∙ ap (λ (c : Command Nobody). c.kind) same ∙ kind))
  told_so bytes p (inr s) kind done here =
      subst (λ (c : Command Nobody). get_or bytes (p - c.offset) 0 ≡ get_or file p 0) same (s.tells bytes p done (ap (λ (c : Command Nobody). has c p) same ∙ here))

  changes_none : (p : ℕ) → Says size file r → covers command p ≡ false
  changes_none p (inl s) = ap (λ (k : Kind). changes k && has command p) (sym (ap (λ (c : Command Nobody). c.kind) same) ∙ s.0)
  changes_none p (inr s) = ap (λ (k : Kind). changes k && has command p) (sym (ap (λ (c : Command Nobody). c.kind) same) ∙ s.kind)

  lies_within : (p : ℕ) → Says size file r → command.kind ≡ BlockStatus → has command p ≡ true → p < size
  lies_within p (inl s) kind here = s.1 p (ap (λ (c : Command Nobody). has c p) same ∙ here)
  lies_within p (inr s) kind here = absurd (status_read (sym kind ∙ sym (ap (λ (c : Command Nobody). c.kind) same) ∙ s.kind))

file_honest : (file : List ℕ) (holes : ℕ → Bool) (read : List Request) → AreNumbered 0 read → Each (IsRead file) read → AreHoles holes file →
    Honest file (told_source (length file) holes read) file
file_honest file holes read numbered each are = record {
  sizes = record { told = λ link size e. sym (some_is e); kept = refl };
  reads = λ link cookie command bytes p asked kind done here untouched.
      let under = only link cookie command asked in
      told_so (length file) file under.request command under.asks bytes p (says link cookie command under) kind (sym (came (length file) holes read numbered link cookie command under) ∙ done) here;
  writes = λ link cookie command bytes p one done.
      let under = only link cookie command one.asked in
      absurd (false≢true (sym (changes_none (length file) file under.request command under.asks p (says link cookie command under)) ∙ one.here));
  rest = λ p untouched. refl;
  zeroes = λ link cookie command bytes p asked kind done here hole untouched.
      let under = only link cookie command asked in
      are p (lies_within (length file) file under.request command under.asks p (says link cookie command under) kind here) hole;
}
  where
    only : (link cookie : ℕ) (command : Command Nobody) → (told_source (length file) holes read).asked link cookie ≡ Some command → Under link cookie command (with_statuses (length file) read)
    only = (was_dealt (length file) holes read numbered).only

    says : (link cookie : ℕ) (command : Command Nobody) → (under : Under link cookie command (with_statuses (length file) read)) → Says (length file) file under.request
    says link cookie command under = in_each (Says (length file) file) under.request (with_statuses (length file) read) under.within (each_says (length file) file read each)

-- The end: the export holds the file, whatever it held before and holds in the end, if its server is honest over the calls, and it was zero where the copy was told so.
pub sparse_ends : (read : List Request) (to : Place) (room : ℕ) (how : How) (slices : List Slice) (now : board.Seen) (calls : List wire.Call) (wanted : Option (ℕ × ℕ)) (known : Known) (cells : Cells)
    (windows : List Window) (holes : ℕ → Bool) (file : List ℕ) →
    FarCourse (FromFile read) to (Some room) how slices now calls [] wanted known → now.rows ≡ [] → now.error ≡ None → IsReadWhole how cells windows holes (length file) slices →
    Each (IsRead file) read → AreHoles holes file → length file ≤ room →
    (before end : List ℕ) → IsHonest to before calls end → (how.skip ≡ true → IsBlank file before) → Holds file before end
sparse_ends read to room how slices now calls wanted known cells windows holes file b over well planned each are fits before end honest bare =
    let s = b.course.stood.stood in
    let stands : Stands how slices [] read s.asked = subst (λ (rows : List (ℕ × Row)). Stands how slices rows read s.asked) over (s.stands well) in
    let copied : IsCopied how cells (told_by 0 windows) (length file) slices (with_statuses (length file) read) (gone_out b.course.histories s.asked) = record {
      planned = planned_once cells windows (length file) slices planned.are planned.whole;
      left_out = planned.left_out;
      over = destination_out_stands how slices b.course.histories (with_statuses (length file) read) s.asked (stands_with how slices (length file) read s.asked stands) s.tracked;
    } in
    carried_is_held how.skip (length file) room (told_source (length file) holes read) (dealt_with to calls)
    (copied_is_carried how cells (told_by 0 windows) (length file) slices (with_statuses (length file) read) (gone_out b.course.histories s.asked) (told_source (length file) holes read)
    (dealt_with to calls) copied (was_dealt (length file) holes read s.numbered)
    (are_dealt to calls b.course.histories s.asked s.tracked (λ link here. b.course.parted link tt)
    (side_asked (Knows (FarStood (FromFile read) how slices) every wanted known) (IsSettled (Some room)) to to every now calls b))
    (λ p less told. told_zero (length file) holes read s.numbered p less (planned.told p told)))
    file before end (file_honest file holes read s.numbered each are) honest (record { link = 0; told = refl })
    (size_was_told_far (FromFile read) to room how slices now calls wanted known b) fits bare

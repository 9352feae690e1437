-- What the issue of a command leaves, from what the handle answered.
use Rattle.std.proofs.Common.{arith, ◌≡◌, ◌∙◌, inl, inr, ℕ, List, [], length, replicate, vec_len, Option, Some, None, Result, Ok, Err, IfOk, OnErr, refl, sym, ap, subst}
use Rattle.std.proofs.Math.ListN.{length-replicate}
use Rattle.lnbd_model.specs.declared.fault.NoMemory.{NoMemory}
use Rattle.lnbd_model.specs.declared.refusal.Why.{Why}
use Rattle.lnbd_history.specs.Commands.{Command}
use Rattle.lnbd_history.specs.Events.{Issue, Refuse}
use Rattle.lnbd_history.specs.Laws.{HasItsBytes}
use Rattle.lnbd_history.specs.Refusals.{refusal_after}
use Rattle.lnbd_machine.specs.Does.{Does}
use Rattle.lnbd_handle.specs.Placing.{Handled}
use Rattle.lnbd_machine.specs.Machine.{step}
use Rattle.lnbd_machine.specs.Now.{refusal_now}
use Rattle.lnbd_handle.specs.declared.issue.IssueFault.{IssueFault}
use Rattle.lnbd_handle.specs.declared.issue.IssueFault.TheVariants as fault
use Rattle.lnbd_lines.specs.declared.command.Command.{Command as Asked}
use Rattle.lnbd_lines.specs.declared.line.Line.{Line}
use Rattle.lnbd_lines.specs.declared.line.Line.TheVariants as line
use Rattle.lnbd_script.specs.declared.keeper.Keeper.{Keeper}
use Rattle.lnbd_script.specs.declared.keeper.Heeded.{Heeded}
use Rattle.lnbd_script.specs.declared.session.Session.{Session}
use Rattle.lnbd_script.specs.declared.told.Told.{Told}
use Rattle.lnbd_script.specs.declared.told.Told.TheVariants as told
use Rattle.std.proofs.lemmas.Bool.{false≢true}
use Rattle.lnbd_lines.specs.declared.command.Command.TheVariants as command
use Rattle.lnbd_lines.specs.declared.command.Manner.{Manner}
use Rattle.lnbd_lines.specs.declared.command.Range.{Range}
use Rattle.lnbd_script.specs.Kept.{Heeds, Tally, joined, keeper_of}
use Rattle.lnbd_script.specs.Seen.{Seen, IsAt, adding, issued_in}
use Rattle.lnbd_script.specs.Lines.{Does as Line_does, HasBytes, Issues, command_of, issue_of}
use Rattle.lnbd_script.specs.Steps.{Answered, Becomes, Issued, IsWorld, Joins, Judged, Unread, halted, issue_told}
use Rattle.lnbd_script.proofs.LineLemmas.{quiet, same_at}
use Rattle.lnbd_script.proofs.SeenLemmas.{add, add_with}
use Rattle.lnbd_script.proofs.TurnLemmas.{answers_at}

abbrev after_issue : Session → Handled Keeper → Heeded → Session
after_issue old handle heeded = record { handle = handle; link = old.link; heeded = heeded; first = old.first }

-- so many bytes go out as a write says
has_bytes : (keeper : Keeper) (bytes : List ℕ) (asking : Asked) → HasItsBytes (command_of keeper bytes asking)
has_bytes keeper bytes (command.Pread range) = λ writes. absurd (false≢true writes)
has_bytes keeper bytes (command.PreadStructured range) = λ writes. absurd (false≢true writes)
has_bytes keeper bytes (command.Pwrite payload offset flags) = λ writes. refl
has_bytes keeper bytes (command.Flush flags) = λ writes. absurd (false≢true writes)
has_bytes keeper bytes (command.Trim range) = λ writes. absurd (false≢true writes)
has_bytes keeper bytes (command.Zero range) = λ writes. absurd (false≢true writes)
has_bytes keeper bytes (command.Cache range) = λ writes. absurd (false≢true writes)
has_bytes keeper bytes (command.BlockStatus range) = λ writes. absurd (false≢true writes)

-- A session stands where it stood, with a world of which the same is said.
pub same_world : (seen : Seen) (old : Session) (heeded : Heeded) → IsAt seen old → IsWorld (λ t. t) old.heeded heeded → IsAt seen (record { handle = old.handle; link = old.link; heeded = heeded; first = old.first })
same_world seen old heeded at same = record {
  stands = at.stands;
  link = at.link;
  first = at.first;
  answered = at.answered;
  tally = same.tally ∙ at.tally;
  shown = at.shown;
  heard = λ e. same.heard ∙ at.heard (sym same.hears ∙ e);
  freed = same.freed ∙ at.freed;
}

issued_at : (seen : Seen) (old : Session) (handle : Handled Keeper) (heeded : Heeded) (command : Command Keeper) (cookie : ℕ) → IsWorld joined old.heeded heeded → IsAt seen old → HasItsBytes command → refusal_now 1024 old.handle.machine.known command ≡ None → handle.machine ≡ step old.handle.machine (Issue command) → cookie ≡ handle.machine.known.issued
    → (x : Seen) × Issues (refusal_after 1024 seen.history command) command seen [] x (Ok (told.Cookie cookie)) × IsAt x (after_issue old handle heeded)
issued_at seen old handle heeded command cookie joins at bytes may is number =
    let right = answers_at seen old at in
    let may' : refusal_after 1024 seen.history command ≡ None = sym (right.refusal 1024 command) ∙ may in
    let on = add_with seen old (after_issue old handle heeded) heeded handle heeded (Issue command) at (may, bytes) refl (record { tally = joins.tally; hears = joins.hears; heard = joins.heard; freed = joins.freed }) (quiet old.handle.machine handle.machine heeded (Issue command) is refl) refl in
    let number' = number ∙ (answers_at (adding (Issue command) seen) (after_issue old handle heeded) on).issued in (
      adding (Issue command) seen,
      subst (λ (w : Option Why). Issues w command seen [] (adding (Issue command) seen) (Ok (told.Cookie cookie))) (sym may') (refl, refl, ap (λ (n : ℕ). Ok (told.Cookie n)) number'),
      on,
    )

refused_at : (seen : Seen) (old : Session) (handle : Handled Keeper) (heeded : Heeded) (command : Command Keeper) (why : Why) → IsAt seen old → refusal_now 1024 old.handle.machine.known command ≡ Some why → Does Heeds (Refuse command why) old.handle.machine handle.machine old.heeded heeded
    → (x : Seen) × Issues (refusal_after 1024 seen.history command) command seen [] x (Ok (told.Refused why)) × IsAt x (after_issue old handle heeded)
refused_at seen old handle heeded command why at may does =
    let right = answers_at seen old at in
    let may' : refusal_after 1024 seen.history command ≡ Some why = sym (right.refusal 1024 command) ∙ may in (
      adding (Refuse command why) seen,
      subst (λ (w : Option Why). Issues w command seen [] (adding (Refuse command why) seen) (Ok (told.Refused why))) (sym may') (refl, refl, refl),
      add seen old _ handle heeded (Refuse command why) at may refl does refl,
    )

-- A command is issued with these callbacks, or refused.
abbrev Issued_as : Command Keeper → Session → Session → Told → Type 0
Issued_as command old new tells = (seen : Seen) → IsAt seen old → (x : Seen) × Issues (refusal_after 1024 seen.history command) command seen [] x (Ok tells) × IsAt x new

issues_ok : (command : Command Keeper) (old new : Session) (heeded : Heeded) (answer : Result ℕ (IssueFault Keeper)) → HasItsBytes command → Answered command old new answer → Joins answer new.heeded heeded
    → IfOk (issue_told answer) (λ tells. Issued_as command old (after_issue old new.handle heeded) tells)
issues_ok command old new heeded (Ok cookie) bytes h joins = λ seen at. issued_at seen old new.handle heeded command cookie (subst (λ (w : Heeded). IsWorld joined w heeded) h.world joins) at bytes h.accepted h.made h.cookie
issues_ok command old new heeded (Err (fault.Refused why buf)) bytes h joins = λ seen at.
    refused_at seen old new.handle heeded command why at h.faults.0 (subst (λ (w : Heeded). Does Heeds (Refuse command why) old.handle.machine new.handle.machine old.heeded w) (sym joins) h.faults.2)
issues_ok command old new heeded (Err (fault.NoMemory buf first done)) bytes h joins = tt

-- the session after an answer
abbrev pub answered_session : Session → Heeded → Session
answered_session new heeded = record { handle = new.handle; link = new.link; heeded = heeded; first = new.first }

abbrev pub with_room : Session → Heeded → Session
with_room old heeded = record { handle = old.handle; link = old.link; heeded = heeded; first = old.first }

-- which session that is
after_is : (old new : Session) (heeded : Heeded) → new ≡ record old { handle = new.handle; heeded = new.heeded } → after_issue old new.handle heeded ≡ answered_session new heeded
after_is old new heeded same = ap (λ (s : Session). record { handle = new.handle; link = s.link; heeded = heeded; first = s.first }) (sym same)

-- so many commands were issued
issued_is : (seen : Seen) (old : Session) (number : ℕ) → IsAt seen old → number ≡ vec_len old.heeded.failed → number ≡ issued_in seen.history
issued_is seen old number at is =
    let size = ap (λ (t : Tally). length t.failed) at.tally in
    omega (arith, is, size, old.heeded.failed.ok.0)

told_as : (manner : Manner) (asking : Asked) (bytes : List ℕ) → HasBytes asking bytes → (keeper : Keeper) (number : ℕ) (old : Session) (room : Heeded) (new : Session) (answer : Result Told NoMemory) → keeper ≡ keeper_of number manner → number ≡ vec_len old.heeded.failed
    → IsWorld (λ t. t) old.heeded room → IfOk answer (λ tells. Issued_as (command_of keeper bytes asking) (with_room old room) new tells) → IfOk answer (λ tells. Issued manner asking old new tells)
told_as manner asking bytes has keeper number old room new (Ok tells) is count same goes = λ seen at.
    let command : command_of keeper bytes asking ≡ issue_of manner bytes asking seen.history = ap (λ (k : Keeper). command_of k bytes asking) (is ∙ ap (λ (n : ℕ). keeper_of n manner) (issued_is seen old number at count)) in
    let g = goes seen (same_world seen old room at same) in (
      g.0,
      (bytes, has, subst (λ (c : Command Keeper). Issues (refusal_after 1024 seen.history c) c seen [] g.0 (Ok tells)) command g.1),
      g.2,
    )
told_as manner asking bytes has keeper number old room new (Err lacks) is count same goes = tt

pub issue_ok : (manner : Manner) (asking : Asked) (bytes : List ℕ) → HasBytes asking bytes → (keeper : Keeper) (number : ℕ) (old : Session) (room : Heeded) (new : Session) (heeded : Heeded) (answer : Result ℕ (IssueFault Keeper)) → keeper ≡ keeper_of number manner → number ≡ vec_len old.heeded.failed
    → IsWorld (λ t. t) old.heeded room → Answered (command_of keeper bytes asking) (with_room old room) new answer → Joins answer new.heeded heeded
    → IfOk (issue_told answer) (λ tells. Issued manner asking old (answered_session new heeded) tells)
issue_ok manner asking bytes has keeper number old room new heeded answer is count same h joins =
    told_as manner asking bytes has keeper number old room (answered_session new heeded) (issue_told answer) is count same
    (subst (λ (s : Session). IfOk (issue_told answer) (λ tells. Issued_as (command_of keeper bytes asking) (with_room old room) s tells)) (after_is (with_room old room) new heeded h.same)
    (issues_ok (command_of keeper bytes asking) (with_room old room) new heeded answer (has_bytes keeper bytes asking) h joins))

pub issue_lacks : (command : Command Keeper) (old : Session) (room : Heeded) (new : Session) (heeded : Heeded) (answer : Result ℕ (IssueFault Keeper)) → IsWorld (λ t. t) old.heeded room → Answered command (with_room old room) new answer → Joins answer new.heeded heeded
    → OnErr (issue_told answer) (Becomes old (answered_session new heeded) (λ before after. after ≡ before))
issue_lacks command old room new heeded (Ok cookie) same h joins = tt
issue_lacks command old room new heeded (Err (fault.Refused why buf)) same h joins = tt
issue_lacks command old room new heeded (Err (fault.NoMemory buf first done)) same h joins = λ seen at. (
  seen,
  refl,
  subst (λ (s : Session). IsAt seen s) (after_is (with_room old room) new heeded h.same)
      (subst (λ (w : Heeded). IsAt seen (after_issue (with_room old room) new.handle w)) (sym (joins ∙ h.faults.4)) (same_at seen (with_room old room) new.handle (same_world seen old room at same) h.faults.3)),
)

-- A read that was judged before there was a buffer: it is refused as one of so many zeros is.

judged : (manner : Manner) (asking : Asked) (bytes : List ℕ) → HasBytes asking bytes → (keeper : Keeper) (number : ℕ) (old new : Session) (why : Why) → keeper ≡ keeper_of number manner → number ≡ vec_len old.heeded.failed
    → refusal_now 1024 old.handle.machine.known (command_of keeper bytes asking) ≡ Some why → Does Heeds (Refuse (command_of keeper bytes asking) why) old.handle.machine new.handle.machine old.heeded new.heeded
    → new ≡ record old { handle = new.handle; heeded = new.heeded } → Issued manner asking old new (told.Refused why)
judged manner asking bytes has keeper number old new why is count may does same =
    let as_it_was : IsWorld (λ t. t) old.heeded old.heeded = record { tally = refl; hears = refl; heard = refl; freed = refl } in
    told_as manner asking bytes has keeper number old old.heeded new (Ok (told.Refused why)) is count as_it_was
    (subst (λ (s : Session). Issued_as (command_of keeper bytes asking) old s (told.Refused why)) (after_is old new new.heeded same)
    (λ seen at. refused_at seen old new.handle new.heeded (command_of keeper bytes asking) why at may does))

module _ (manner : Manner) (range : Range) (keeper : Keeper) (number : ℕ) (old new : Session) where
  abbrev zeros : List ℕ
  zeros = replicate range.length 0

  many : length zeros ≡ range.length
  many = length-replicate {A = ℕ} range.length 0

  pub judged_read : (result : Result (Option Why) NoMemory) → keeper ≡ keeper_of number manner → number ≡ vec_len old.heeded.failed → Unread None keeper range old new result → IfOk result (λ judged. Judged manner (command.Pread range) old new judged)
  judged_read (Ok (Some why)) is count unread = let r = unread.0 zeros many in judged manner (command.Pread range) zeros many keeper number old new why is count r.0 r.1 unread.1
  judged_read (Ok None) is count unread = unread
  judged_read (Err lacks) is count unread = tt

  pub judged_structured_read : (result : Result (Option Why) NoMemory) → keeper ≡ keeper_of number manner → number ≡ vec_len old.heeded.failed → Unread (Some keeper) keeper range old new result
      → IfOk result (λ judged. Judged manner (command.PreadStructured range) old new judged)
  judged_structured_read (Ok (Some why)) is count unread = let r = unread.0 zeros many in judged manner (command.PreadStructured range) zeros many keeper number old new why is count r.0 r.1 unread.1
  judged_structured_read (Ok None) is count unread = unread
  judged_structured_read (Err lacks) is count unread = tt

pub unread_lacks : (first : Option Keeper) (done : Keeper) (range : Range) (old new : Session) (result : Result (Option Why) NoMemory) → Unread first done range old new result → OnErr result (Becomes old new (λ before after. after ≡ before))
unread_lacks first done range old new (Ok judged) unread = tt
unread_lacks first done range old new (Err lacks) unread = λ seen at. (seen, refl, subst (λ (s : Session). IsAt seen s) (sym unread.1) (same_at seen old new.handle at unread.0))

-- A command that was refused, and one that was not, which is issued from there.
module _ (manner : Manner) (asking : Asked) (old middle : Session) where
  pub refused_now : (judged : Option Why) (why : Why) → judged ≡ Some why → Judged manner asking old middle judged → Issued manner asking old middle (told.Refused why)
  refused_now judged why is = subst (λ (j : Option Why). Judged manner asking old middle j) is

  middle_is : (judged : Option Why) → judged ≡ None → Judged manner asking old middle judged → middle ≡ old
  middle_is judged is = subst (λ (j : Option Why). Judged manner asking old middle j) is

  pub issued_then : (new : Session) (judged : Option Why) (answer : Result Told NoMemory) → judged ≡ None → Judged manner asking old middle judged
      → IfOk answer (λ tells. Issued manner asking middle new tells) → IfOk answer (λ tells. Issued manner asking old new tells)
  issued_then new judged answer is same = subst (λ (s : Session). IfOk answer (λ tells. Issued manner asking s new tells)) (middle_is judged is same)

  pub lacks_then : (new : Session) (judged : Option Why) (answer : Result Told NoMemory) → judged ≡ None → Judged manner asking old middle judged
      → OnErr answer (Becomes middle new (λ before after. after ≡ before)) → OnErr answer (Becomes old new (λ before after. after ≡ before))
  lacks_then new judged answer is same = subst (λ (s : Session). OnErr answer (Becomes s new (λ before after. after ≡ before))) (middle_is judged is same)

-- memory ran out before anything was issued
pub lacks_room : (old new : Session) (room : Heeded) → IsWorld (λ t. t) old.heeded room → new ≡ with_room old room → Becomes old new (λ before after. after ≡ before)
lacks_room old new room same is seen at = (seen, refl, subst (λ (s : Session). IsAt seen s) (sym is) (same_world seen old room at same))

-- nothing was done
pub as_before : (old new : Session) → new ≡ old → Becomes old new (λ before after. after ≡ before)
as_before old new same seen at = (seen, refl, subst (λ (s : Session). IsAt seen s) (sym same) at)

-- The line of a command may want memory.
pub command_done : (line' : Line) (manner : Manner) (command : Asked) → line' ≡ line.Command manner command → (old new : Session) (answer : Result Told NoMemory)
    → IfOk answer (λ tells. Issued manner command old new tells)
    → OnErr answer (Becomes old new (λ before after. after ≡ before))
    → Becomes old new (λ before after. Line_does line' before [] after (halted answer))
command_done line' manner command is old new answer ok lacks = subst (λ (l : Line). Becomes old new (λ before after. Line_does l before [] after (halted answer))) (sym is) (go answer ok lacks)
  where
    go : (answer : Result Told NoMemory) → IfOk answer (λ tells. Issued manner command old new tells)
        → OnErr answer (Becomes old new (λ before after. after ≡ before)) → Becomes old new (λ before after. Line_does (line.Command manner command) before [] after (halted answer))
    go (Ok tells) ok lacks seen at = let b = ok seen at in (b.0, inl b.1, b.2)
    go (Err fault) ok lacks seen at = let b = lacks seen at in (b.0, inr (refl, b.1, refl), b.2)

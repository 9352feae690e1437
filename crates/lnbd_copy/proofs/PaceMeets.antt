-- How often links are tried in vain while connections are made, and in a turn of the copy.
use Rattle.std.proofs.Common.{◌≡◌, ℕ, Bool, true, false, List, ◌++◌, length, Option, Some, None, refl, ap, sym, subst, ◌∙◌, append_assoc, arith}
use Rattle.std.proofs.lemmas.Bool.{false≢true}
use Rattle.lnbd_model.specs.declared.target.Place.{Place}
use Rattle.lnbd_link.specs.Call as wire
use Rattle.lnbd_link.specs.Call.{Pause}
use Rattle.lnbd_link.specs.Part.{Adds}
use Rattle.lnbd_link.specs.declared.wires.Want.{Want}
use Rattle.lnbd_poll.specs.Held.{Held}
use Rattle.lnbd_board.specs.declared.how.How.{How}
use Rattle.lnbd_board.specs.declared.ticket.Ticket.{Ticket}
use Rattle.lnbd_board.specs.Files as board
use Rattle.lnbd_conduct.specs.declared.sides.Sides.{Sides}
use Rattle.lnbd_conduct.specs.declared.terms.Terms.{Terms}
use Rattle.lnbd_copy.specs.Awaiting.{AwaitsAll}
use Rattle.lnbd_copy.specs.Copier.{GoesFurther, HasMet, HasNotBegun, beginning}
use Rattle.lnbd_copy.specs.Copier as copier
use Rattle.lnbd_copy.specs.Job as work
use Rattle.lnbd_copy.specs.Moving.{SomethingHappens, Stirs, TurnsInVain}
use Rattle.lnbd_copy.specs.Opening.{Dials}
use Rattle.lnbd_copy.specs.Pace.{IsPaced, StaysPaced, TriesAtMost}
use Rattle.lnbd_copy.specs.Pauses.{Unpaused}
use Rattle.lnbd_usage.specs.Vain.{has_happened}
use Rattle.lnbd_copy.specs.Way.{Goes, IsOn}
use Rattle.lnbd_conduct.specs.Told.{Told}
use Rattle.lnbd_copy.proofs.CopierLemmas.{first_on, kept_then, no_handles, second_on, with_held}
use Rattle.lnbd_copy.proofs.MovingLemmas.{none_of_both}
use Rattle.lnbd_copy.proofs.PaceLemmas.{pace_begins, pace_fewer, pace_untired}
use Rattle.lnbd_copy.proofs.TurnLemmas.{since_on, told_on}

-- The first connection is dialled,

pub source_tried : (t u : Option (List wire.Call)) → TriesAtMost 0 t u → Told t u (IsPaced 2)
source_tried t u untried = pace_fewer 1 2 t u (omega arith) (pace_untired 1 t t u (omega arith) untried (pace_begins t))

-- and negotiates;
pub source_paced : (n : ℕ) (s0 s1 : copier.Seen) (t u v : Option (List wire.Call)) → s1.board ≡ s0.board → Dials s0.from s0.options.extents s0.board s0.held t s1.held u → HasNotBegun s0 → TriesAtMost 0 t u → StaysPaced n s1.board s1.held u v → Told t v (IsPaced n)
source_paced n s0 s1 t u v b1 first none untried settles =
    let sides : Sides = record { source = 1; destination = 1 } in
    let settles' : StaysPaced n s0.board s1.held u v = subst (λ (b : board.Seen). StaysPaced n b s1.held u v) b1 settles in
    settles'.on (beginning s0 None s0.board.how sides) t (first.stand (no_handles s0 none)) (first_on s0 s1.held t u s0.board.how sides none first) (pace_untired 1 t t u (omega arith) untried (pace_begins t))

-- the other one, too.
pub meet_paced : (n : ℕ) (s0 s1 s2 s3 : copier.Seen) (t u v w x : Option (List wire.Call)) → s1 ≡ with_held s0 s1 → s2 ≡ with_held s1 s2 → s1.board ≡ s0.board → s3.board ≡ s2.board →
    Dials s0.from s0.options.extents s0.board s0.held t s1.held u → Goes s1.board s1.held u s2.board s2.held v → Dials s2.to false s2.board s2.held v s3.held w → HasNotBegun s0 →
    TriesAtMost 0 t u → StaysPaced 1 s1.board s1.held u v → TriesAtMost 0 v w → StaysPaced n s3.board s3.held w x → Told t x (IsPaced n)
meet_paced n s0 s1 s2 s3 t u v w x k1 k2 b1 b3 first one second none untried settles untried2 settles2 =
    let k02 = kept_then s0 s1 s2 k1 k2 in
    let how : How = s0.board.how in
    let sides : Sides = record { source = 1; destination = 1 } in
    let one' : Goes s0.board s1.held u s2.board s2.held v = subst (λ (b : board.Seen). Goes b s1.held u s2.board s2.held v) b1 one in
    let second' : Dials s0.to false s2.board s2.held v s3.held w = subst (λ (p : Place). Dials p false s2.board s2.held v s3.held w) (ap (λ (s : copier.Seen). s.to) k02) second in
    let settles2' : StaysPaced n s2.board s3.held w x = subst (λ (b : board.Seen). StaysPaced n b s3.held w x) b3 settles2 in
    let met = source_paced 1 s0 s1 t u v b1 first none untried settles in
    let both = second_on s0 s2.board s1.held s2.held s3.held t u v w how sides none first one' second' in
    settles2'.on (beginning s0 None how sides) t both.0 both.1 (pace_untired 1 t v w (omega arith) untried2 met)

-- Further ones.
pub further_paced : (n : ℕ) (copy : copier.Seen) (sides : Sides) (now : board.Seen) (held : List (Held Ticket)) (start a b c d : Option (List wire.Call)) (terms : Terms) → GoesFurther copy sides 2 copy.board copy.held a now held c → TriesAtMost 0 a b → TriesAtMost 0 b c → StaysPaced n now held c d →
    HasMet copy start a terms → sides ≡ terms.sides → length copy.held ≡ 2 → Told start a (IsPaced 1) → Told start d (IsPaced n)
further_paced n copy sides now held start a b c d terms further one two settles met same count paced =
    let on : Told start a (λ calls. IsOn (beginning copy (Some terms.size) terms.how sides) copy.board calls copy.held) = subst (λ (s : Sides). Told start a (λ calls. IsOn (beginning copy (Some terms.size) terms.how s) copy.board calls copy.held)) (sym same) met.on in
    settles.on (beginning copy (Some terms.size) terms.how sides) start (further.stand met.stand) (further.on (Some terms.size) terms.how start met.stand count on)
    (pace_untired 1 start b c (omega arith) two (pace_untired 1 start a b (omega arith) one paced))

-- A turn of the copy.

pub happens_stirs : (held : List (Held Ticket)) (a b : Option (List wire.Call)) → SomethingHappens a b → Stirs held a b
happens_stirs held a b happens = record {
  on = λ all is.
      let made = happens.on all is in
      record { before = made.before; more = made.more; was = made.was; now = made.now; are = λ nothing taken. false≢true (sym nothing ∙ made.are) };
}

pub stirs_behind : (held : List (Held Ticket)) (a b c : Option (List wire.Call)) → Stirs held a b → Unpaused b c → Stirs held a c
stirs_behind held a b c stirs unpaused = record {
  on = λ all is.
      let late = unpaused.on all is in
      let early = stirs.on late.before late.was in
      record {
        before = early.before;
        more = early.more ++ late.more;
        was = early.was;
        now = late.now ∙ ap (λ (l : List wire.Call). l ++ late.more) early.now ∙ append_assoc early.before early.more late.more;
        are = λ nothing taken. early.are (none_of_both has_happened (early.more ++ late.more) early.more late.more refl nothing).0 taken;
      };
}

-- Where nothing was to be asked, and nothing happened in a turn, nothing is asked behind it.
pub never_acts : (copy turned : copier.Seen) (start a b c : Option (List wire.Call)) (acted : Bool) → TurnsInVain turned.held a b → turned.board ≡ copy.board → turned.job ≡ copy.job → (AwaitsAll turned.job turned.board → acted ≡ false) → acted ≡ true → c ≡ b → Told start a (λ calls. AwaitsAll copy.job copy.board) → Stirs copy.held a c
never_acts copy turned start a b c acted vain same_board same_job idle acts same nothing = record {
  on = λ all is.
      let made = vain.on all (sym same ∙ is) in
      let was = (nothing.since made.before made.was).is in
      let still : AwaitsAll turned.job turned.board = subst (λ (j : Option work.Seen). AwaitsAll j turned.board) (sym same_job) (subst (λ (n : board.Seen). AwaitsAll copy.job n) (sym same_board) was) in
      absurd (false≢true (sym (idle still) ∙ acts));
}

-- What is so whatever the calls are goes on with the transcript.
pub told_goes : {Is Is' : Type 0} (start a b : Option (List wire.Call)) → Unpaused a b → (Is → Is') → Told start a (λ calls. Is) → Told start b (λ calls. Is')
told_goes start a b unpaused leads told = record {
  since = λ all is.
      let made = unpaused.on all is in
      let since = told.since made.before made.was in
      since_on start made.before all made.more made.now since (leads since.is);
}

-- A pause changes nothing of what is to be asked.
pub rest_awaits : (copy new : copier.Seen) (start a b : Option (List wire.Call)) (wants : List Want) → new ≡ record copy { held = new.held } → Adds a b (Pause wants) → Told start a (λ calls. AwaitsAll copy.job copy.board) → Told start b (λ calls. AwaitsAll new.job new.board)
rest_awaits copy new start a b wants kept adds told =
    told_on start a b (Pause wants) adds (λ calls is. subst (λ (j : Option work.Seen). AwaitsAll j new.board) (sym (ap (λ (s : copier.Seen). s.job) kept)) (subst (λ (n : board.Seen). AwaitsAll copy.job n) (sym (ap (λ (s : copier.Seen). s.board) kept)) is)) told

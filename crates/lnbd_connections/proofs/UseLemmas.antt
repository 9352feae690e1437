-- Steps that keep links and pause well follow one another.
use Rattle.std.proofs.Common.{◌≡◌, ◌≤◌, ℕ, zero, suc, ◌+◌, Bool, true, false, List, [], ◌∷◌, ◌++◌, Option, Result, Ok, Err, replicate, refl, ap, sym, subst, ◌∙◌, arith}
use Rattle.std.specs.Prelude.{IfOk, OnErr, OnOk}
use Rattle.std.proofs.lemmas.List.{append-nil, append_assoc, replicate_more}
use Rattle.lnbd_callbacks.specs.Steps.{OneByOne}
use Rattle.lnbd_link.specs.Call as wire
use Rattle.lnbd_link.specs.Call.{Pause}
use Rattle.lnbd_link.specs.Count.{Rises, patience}
use Rattle.lnbd_link.specs.Part.{Adds}
use Rattle.lnbd_model.specs.declared.target.Target.{Target}
use Rattle.lnbd_poll.specs.declared.noticed.Turn.{Turn}
use Rattle.lnbd_poll.specs.declared.noticed.Turn.TheVariants as turned
use Rattle.lnbd_poll.specs.Held.{Held, AreAt, wants_now}
use Rattle.lnbd_poll.specs.Seen as poll
use Rattle.lnbd_poll.specs.Turned.{TurnsCut, TurnsWhole}
use Rattle.lnbd_plan.specs.declared.fault.CopyFault.{CopyFault}
use Rattle.lnbd_board.specs.declared.ticket.Ticket.{Ticket}
use Rattle.lnbd_board.specs.Files.{Files}
use Rattle.lnbd_board.specs.Files as board
use Rattle.lnbd_conduct.specs.Pauses.{WantsSome}
use Rattle.lnbd_copy.specs.Links.{HaveSameLinks, LinksGo}
use Rattle.lnbd_copy.specs.Moving.{TurnsInVain}
use Rattle.lnbd_copy.specs.Patient.{StaysPatient}
use Rattle.lnbd_copy.specs.Pauses.{Pauses, Unpaused}
use Rattle.lnbd_copy.specs.Way.{Stand}
use Rattle.lnbd_copy.proofs.FullLemmas.{cut_unpaused, turned_unpaused}
use Rattle.lnbd_copy.proofs.LinkLemmas.{links_cut, links_joined, links_none, links_same, links_then, links_turned}
use Rattle.lnbd_copy.proofs.PatientLemmas.{patient_any, patient_looked, patient_none, patient_then, patient_unpaused}
use Rattle.lnbd_copy.proofs.PauseLemmas.{either_way, pauses_none, pauses_then, pauses_unpaused, unpaused_same}
use Rattle.lnbd_copy.proofs.VainLemmas.{pauses_vain, turned_vain}
use Rattle.lnbd_connections.specs.Uses.{Rests, Uses, UsesTo}

-- Steps.

pub uses_none : (last : Bool) (first : ℕ) (held : List (Held Ticket)) (told : Option (List wire.Call)) (waited : ℕ) → Uses last first [] held told waited held told waited
uses_none last first held told waited = record { links = links_none held told; vain = pauses_none told; some = pauses_none told; patient = patient_none last first waited told }

-- one without a pause
pub uses_unpaused : (last : Bool) (first : ℕ) (to : List Target) (held held2 : List (Held Ticket)) (a b : Option (List wire.Call)) (i j : ℕ) → LinksGo to held a held2 b → Unpaused a b → i ≤ j →
    Uses last first to held a i held2 b j
uses_unpaused last first to held held2 a b i j links unpaused on = record {
  links = links;
  vain = pauses_unpaused a b unpaused;
  some = pauses_unpaused a b unpaused;
  patient = patient_any last first i j a b (patient_unpaused first i j a b unpaused on);
}

-- one without a call
pub uses_same : (last : Bool) (first : ℕ) (held held2 : List (Held Ticket)) (told : Option (List wire.Call)) (waited : ℕ) → HaveSameLinks held held2 →
    Uses last first [] held told waited held2 told waited
uses_same last first held held2 told waited same = record { links = links_same held held2 told same; vain = pauses_none told; some = pauses_none told; patient = patient_none last first waited told }

pub uses_any : (last : Bool) (first : ℕ) (to : List Target) (held held2 : List (Held Ticket)) (a b : Option (List wire.Call)) (i j : ℕ) → Uses false first to held a i held2 b j →
    Uses last first to held a i held2 b j
uses_any last first to held held2 a b i j one = record { links = one.links; vain = one.vain; some = one.some; patient = patient_any last first i j a b one.patient }

-- They waited for less than is borne still.
pub uses_looked : (last : Bool) (first : ℕ) (to : List Target) (held held2 : List (Held Ticket)) (a b : Option (List wire.Call)) (i j : ℕ) → ¬ Rises patience first j →
    Uses last first to held a i held2 b j →
    Uses false first to held a i held2 b j
uses_looked last first to held held2 a b i j not one = record { links = one.links; vain = one.vain; some = one.some; patient = patient_looked last first i j a b not one.patient }

pub uses_joined : (last : Bool) (first : ℕ) (to more : List Target) (held held2 held3 : List (Held Ticket)) (a b c : Option (List wire.Call)) (i j k : ℕ) → Uses false first to held a i held2 b j →
    Uses last first more held2 b j held3 c k → Uses last first (to ++ more) held a i held3 c k
uses_joined last first to more held held2 held3 a b c i j k one two = record {
  links = links_joined to more held held2 held3 a b c one.links two.links;
  vain = pauses_then a b c one.vain two.vain;
  some = pauses_then a b c one.some two.some;
  patient = patient_then last first i j k a b c one.patient two.patient;
}

pub uses_end : (last : Bool) (first : ℕ) (to : List Target) (held held2 held3 : List (Held Ticket)) (a b c : Option (List wire.Call)) (i j k : ℕ) → Uses false first to held a i held2 b j →
    Uses last first [] held2 b j held3 c k → Uses last first to held a i held3 c k
uses_end last first to held held2 held3 a b c i j k one two =
    subst (λ (l : List Target). Uses last first l held a i held3 c k) (append-nil to) (uses_joined last first to [] held held2 held3 a b c i j k one two)

pub uses_then : (last : Bool) (first : ℕ) (held held2 held3 : List (Held Ticket)) (a b c : Option (List wire.Call)) (i j k : ℕ) → Uses false first [] held a i held2 b j →
    Uses last first [] held2 b j held3 c k → Uses last first [] held a i held3 c k
uses_then last first held held2 held3 a b c i j k one two = uses_joined last first [] [] held held2 held3 a b c i j k one two

-- To the first of some addresses, or to all.

pub uses_all : (last : Bool) (first : ℕ) (to : List Target) (held held2 : List (Held Ticket)) (a b : Option (List wire.Call)) (i j : ℕ) → Uses last first to held a i held2 b j →
    UsesTo last first to held a i held2 b j
uses_all last first to held held2 a b i j one = record { to = to; others = []; are = sym (append-nil to); uses = one }

-- to none
pub uses_nowhere : (last : Bool) (first : ℕ) (all : List Target) (held : List (Held Ticket)) (told : Option (List wire.Call)) (waited : ℕ) → UsesTo last first all held told waited held told waited
uses_nowhere last first all held told waited = record { to = []; others = all; are = refl; uses = uses_none last first held told waited }

pub uses_wider : (last : Bool) (first : ℕ) (all more : List Target) (held held2 : List (Held Ticket)) (a b : Option (List wire.Call)) (i j : ℕ) → UsesTo last first all held a i held2 b j →
    UsesTo last first (all ++ more) held a i held2 b j
uses_wider last first all more held held2 a b i j one = record {
  to = one.to;
  others = one.others ++ more;
  are = ap (λ (l : List Target). l ++ more) one.are ∙ append_assoc one.to one.others more;
  uses = one.uses;
}

pub uses_before : (last : Bool) (first : ℕ) (to all : List Target) (held held2 held3 : List (Held Ticket)) (a b c : Option (List wire.Call)) (i j k : ℕ) → Uses false first to held a i held2 b j →
    UsesTo last first all held2 b j held3 c k → UsesTo last first (to ++ all) held a i held3 c k
uses_before last first to all held held2 held3 a b c i j k one two = record {
  to = to ++ two.to;
  others = two.others;
  are = ap (λ (l : List Target). to ++ l) two.are ∙ sym (append_assoc to two.to two.others);
  uses = uses_joined last first to two.to held held2 held3 a b c i j k one two.uses;
}

pub usesto_any : (last : Bool) (first : ℕ) (all : List Target) (held held2 : List (Held Ticket)) (a b : Option (List wire.Call)) (i j : ℕ) → UsesTo false first all held a i held2 b j →
    UsesTo last first all held a i held2 b j
usesto_any last first all held held2 a b i j one = record { to = one.to; others = one.others; are = one.are; uses = uses_any last first one.to held held2 a b i j one.uses }

-- One more of many connections to the same address.

pub uses_more : (first : ℕ) (to : Target) (n : ℕ) (held held2 held3 : List (Held Ticket)) (a b c : Option (List wire.Call)) (i j k : ℕ) → Uses false first (replicate n to) held a i held2 b j →
    Uses false first (to ∷ []) held2 b j held3 c k → Uses false first (replicate (n + 1) to) held a i held3 c k
uses_more first to n held held2 held3 a b c i j k one two =
    subst (λ (l : List Target). Uses false first l held a i held3 c k) (replicate_more n to)
    (uses_joined false first (replicate n to) (to ∷ []) held held2 held3 a b c i j k one two)

-- more are the fewer and others
record Fronts (to : Target) (few many : ℕ) : Type 0 where
  others : List Target
  are : replicate few to ++ others ≡ replicate many to

fronts : (to : Target) (few many : ℕ) → few ≤ many → Fronts to few many
fronts to zero many less = record { others = replicate many to; are = refl }
fronts to (suc few) zero less = absurd (omega (arith, less))
fronts to (suc few) (suc many) less = let rest = fronts to few many (omega (arith, less)) in record { others = rest.others; are = ap (λ (l : List Target). to ∷ l) rest.are }

pub uses_fails : (first : ℕ) (to : Target) (n many : ℕ) (held held2 held3 : List (Held Ticket)) (a b c : Option (List wire.Call)) (i j k : ℕ) → n + 1 ≤ many →
    Uses false first (replicate n to) held a i held2 b j → UsesTo false first (to ∷ []) held2 b j held3 c k → UsesTo false first (replicate many to) held a i held3 c k
uses_fails first to n many held held2 held3 a b c i j k less one two =
    let front = fronts to (n + 1) many less in
    subst (λ (l : List Target). UsesTo false first l held a i held3 c k) front.are
    (uses_wider false first (replicate (n + 1) to) front.others held held3 a c i k
    (subst (λ (l : List Target). UsesTo false first l held a i held3 c k) (replicate_more n to)
    (uses_before false first (replicate n to) (to ∷ []) held held2 held3 a b c i j k one two)))

-- Pauses behind a turn.

-- nothing is paused
pub rests_not : (still : Type 0) (first : ℕ) (held : List (Held Ticket)) (told : Option (List wire.Call)) (waited : ℕ) → Rests still first held told waited held told waited
rests_not still first held told waited = record { on = λ before start had uses vain. uses_any true first [] before held start told had waited uses }

-- it is so
pub rests_so : (still : Type 0) (first : ℕ) (held held2 : List (Held Ticket)) (a b : Option (List wire.Call)) (i j : ℕ) → still → Rests (Unit {0}) first held a i held2 b j →
    Rests still first held a i held2 b j
rests_so still first held held2 a b i j so rests = record { on = λ before start had uses vain. rests.on before start had uses (λ u. vain so) }

-- A pause, or none where that failed.
pub rests_paused : {T F : Type 0} (r : Result T F) (first : ℕ) (held held2 : List (Held Ticket)) (a b : Option (List wire.Call)) (i j : ℕ) → LinksGo [] held a held2 b →
    StaysPatient true first a i b j →
    Pauses WantsSome a b → OnOk r (Adds a b (Pause (wants_now held))) → OnErr r (b ≡ a) → Rests (Unit {0}) first held a i held2 b j
rests_paused r first held held2 a b i j links patient some pauses still = record {
  on = λ before start had uses vain. record {
    links = links_then before held held2 start a b uses.links links;
    vain = either_way r pauses still (λ adds. pauses_vain held start a b (vain tt) adds) (λ same. pauses_then start a b uses.vain (pauses_unpaused a b (unpaused_same a b same)));
    some = pauses_then start a b uses.some some;
    patient = patient_then true first had i j start a b uses.patient patient;
  };
}

-- A turn, whole or cut short.

pub turned_uses : (r : Result Turn CopyFault) (last : Bool) (first : ℕ) (a b : Option (List wire.Call)) (i j f g : ℕ) (now now' : board.Seen) (held held' : List (Held Ticket)) →
    IfOk r (λ turn. poll.Goes a b (λ seens. AreAt held seens) (λ seens. AreAt held' seens) (λ before calls after. TurnsWhole (OneByOne Files) f g turn before now calls after now')) →
    OnErr r (poll.Goes a b (λ seens. AreAt held seens) (λ seens. AreAt held' seens) (λ before calls after. TurnsCut (OneByOne Files) f g before now calls after now')) → i ≤ j → Stand held →
    Uses last first [] held a i held' b j
turned_uses (Ok turn) last first a b i j f g now now' held held' whole cut on s =
    uses_unpaused last first [] held held' a b i j (links_turned a b f g turn now now' held held' whole s) (turned_unpaused a b f g turn now now' held held' whole s) on
turned_uses (Err why) last first a b i j f g now now' held held' whole cut on s =
    uses_unpaused last first [] held held' a b i j (links_cut a b f g now now' held held' cut s) (cut_unpaused a b f g now now' held held' cut s) on

pub turned_still : (r : Result Turn CopyFault) (a b : Option (List wire.Call)) (f g : ℕ) (now now' : board.Seen) (held held' : List (Held Ticket)) →
    IfOk r (λ turn. poll.Goes a b (λ seens. AreAt held seens) (λ seens. AreAt held' seens) (λ before calls after. TurnsWhole (OneByOne Files) f g turn before now calls after now')) →
    IfOk r (λ turn. turn ≡ turned.Still → Stand held → TurnsInVain held' a b)
turned_still (Ok turn) a b f g now now' held held' whole = λ still s. turned_vain a b f g turn now now' held held' whole still s
turned_still (Err why) a b f g now now' held held' whole = tt

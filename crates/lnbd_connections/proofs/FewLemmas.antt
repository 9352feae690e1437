-- How much is unanswered on the links of a copy, of which one side is a file, at each moment of its steps.
use Rattle.std.proofs.Common.{
  ◌≡◌,
  ◌≤◌,
  ◌⊎◌,
  inl,
  inr,
  ℕ,
  ◌==◌,
  Bool,
  false,
  List,
  [],
  ◌∷◌,
  ◌++◌,
  Option,
  Some,
  None,
  Result,
  Ok,
  Err,
  IfOk,
  OnErr,
  refl,
  ap,
  sym,
  subst,
  ◌∙◌,
  append_assoc,
  append-nil,
  arith,
}
use Rattle.lnbd_callbacks.specs.Steps.{OneByOne}
use Rattle.lnbd_link.specs.Call as wire
use Rattle.lnbd_link.specs.Part.{Adds}
use Rattle.lnbd_history.specs.Events.{History}
use Rattle.lnbd_keyed.specs.Keyed.{value_at}
use Rattle.lnbd_poll.specs.Alone.{AreApart, calls_on}
use Rattle.lnbd_poll.specs.Held.{Held, AreAt}
use Rattle.lnbd_poll.specs.Seen.{Seen}
use Rattle.lnbd_poll.specs.Seen as poll
use Rattle.lnbd_poll.specs.declared.noticed.Turn.{Turn}
use Rattle.lnbd_poll.specs.Turned.{TurnsCut, TurnsWhole}
use Rattle.lnbd_poll.specs.Turns.{Ending, Turns, Whole}
use Rattle.lnbd_drives.proofs.Passing.{said_stays}
use Rattle.lnbd_plan.specs.declared.fault.CopyFault.{CopyFault}
use Rattle.lnbd_board.specs.declared.row.Row.{Row}
use Rattle.lnbd_board.specs.declared.ticket.Ticket.{Ticket}
use Rattle.lnbd_board.specs.Files as board
use Rattle.lnbd_course.specs.Far.{Far}
use Rattle.lnbd_course.specs.Spread.{how_many}
use Rattle.lnbd_course.proofs.Cuts.{InFirst, InSecond, cut, front_off}
use Rattle.lnbd_course.proofs.Failing.{IsThere, there_or_apart}
use Rattle.lnbd_course.proofs.Holding.{one_has}
use Rattle.lnbd_course.proofs.Turning.{steps}
use Rattle.lnbd_conduct.specs.Told.{Since, Told}
use Rattle.lnbd_copy.specs.Faults.{GoesIdly}
use Rattle.lnbd_copy.specs.Way.{Stand, connection_on}
use Rattle.lnbd_copy.proofs.CopierLemmas.{told_as}
use Rattle.lnbd_copy.proofs.FailLemmas.{all_stand}
use Rattle.lnbd_copy.proofs.SettledLemmas.{same_calls, same_rest}
use Rattle.lnbd_copy.proofs.TurnLemmas.{some_same}
use Rattle.lnbd_connections.specs.Bound.{IsBound}
use Rattle.lnbd_connections.specs.Few.{AreFew, CountsOn, FewAsked, FewMore, HasFew, StaysFew}
use Rattle.lnbd_connections.specs.Steps.{Goes}
use Rattle.lnbd_connections.specs.Way.{IsUnderWay, Way}
use Rattle.lnbd_connections.proofs.FewFronts.{front_few, front_of}

none_some : {A : Type 0} (one : A) → None ≡ Some one → ⊥
none_some one e = cc

-- Where rows count.

none_count : (rows : List (ℕ × Row)) → how_many (λ row. false) rows ≡ 0
none_count [] = refl
none_count (row ∷ rows) = let e = none_count rows in omega (arith, e)

few_none_count : (most : ℕ) (rows : List (ℕ × Row)) → how_many (λ row. false) rows ≤ most
few_none_count most rows = let e = none_count rows in omega (arith, e)

-- Where no slice has a row,
pub none_few : (most : ℕ) (far : Far) (way : Way) (now : board.Seen) (calls : List wire.Call) (held : List (Held Ticket)) → now.rows ≡ [] → IsUnderWay far way now calls held →
    HasFew most far way now calls held
none_few most far way now calls held none on = record {
  seens = on.seens;
  at = on.at;
  stands = on.stands;
  counted = λ well link. record {
    counts = λ row. false;
    all = λ cookie n asks row is by there. absurd (none_some row (sym (ap (value_at n) none) ∙ there));
    few = few_none_count most now.rows;
  };
}

-- and where no more slices are bound to any connection.
pub bound_few : (most : ℕ) (source : Bool) (far : Far) (way : Way) (now : board.Seen) (calls : List wire.Call) (held : List (Held Ticket)) →
    ((connection : ℕ) → how_many (λ row. connection_on source row == connection) now.rows ≤ most) → IsBound source far way now calls held → HasFew most far way now calls held
bound_few most source far way now calls held bounded on = record {
  seens = on.seens;
  at = on.at;
  stands = on.stands;
  counted = λ well link. go well link (there_or_apart link on.seens (all_stand held on.seens on.at));
}
  where
    go : now.error ≡ None → (link : ℕ) → IsThere link on.seens ⊎ AreApart link on.seens → CountsOn most now.rows (on.stands.course.histories link)
    go well link (inl t) =
        subst (λ (n : ℕ). CountsOn most now.rows (on.stands.course.histories n)) t.same
        (subst (λ (h : History Ticket). CountsOn most now.rows h) (sym (one_has t.index t.seen on.stands.course.histories on.seens t.there on.stands.course.held))
        (record { counts = λ row. connection_on source row == t.index; all = on.bound.each well t.index t.seen t.there; few = bounded t.index }))
    go well link (inr apart) =
        subst (λ (h : History Ticket). CountsOn most now.rows h) (sym (on.stands.course.unused link (on.all link apart)).blank)
        (record { counts = λ row. false; all = λ cookie n asks row is by there. absurd (none_some asks is); few = few_none_count most now.rows })

-- Steps.

few_more : (few most : ℕ) (calls : List wire.Call) → few ≤ most → AreFew few calls → AreFew most calls
few_more few most calls less f link = let one = f link in record { list = one.list; few = (let l = one.few in omega (arith, l, less)); all = one.all }

first_empty : (front back : List wire.Call) → [] ≡ front ++ back → front ≡ []
first_empty [] back e = refl
first_empty (call ∷ front) back e = absurd (cc)

pub few_same : (most : ℕ) (start told : Option (List wire.Call)) → StaysFew most start told told
few_same most start told = record {
  on = λ all is. record {
    was = all;
    more = [];
    is = is;
    are = sym (append-nil all);
    few = λ before calls begun split f front back e. subst (AreFew most) (sym (ap (λ (l : List wire.Call). calls ++ l) (first_empty front back e) ∙ append-nil calls)) f;
  };
}

pub few_as : (most : ℕ) (start a b : Option (List wire.Call)) → b ≡ a → StaysFew most start a b
few_as most start a b same = subst (λ (t : Option (List wire.Call)). StaysFew most start a t) (sym same) (few_same most start a)

pub few_then : (most : ℕ) (start a b c : Option (List wire.Call)) → StaysFew most start a b → StaysFew most start b c → StaysFew most start a c
few_then most start a b c one two = record {
  on = λ all is.
      let late = two.on all is in
      let early = one.on late.was late.is in
      record {
        was = early.was;
        more = early.more ++ late.more;
        is = early.is;
        are = late.are ∙ ap (λ (l : List wire.Call). l ++ late.more) early.are ∙ append_assoc early.was early.more late.more;
        few = λ before calls begun split f front back e. go late early before calls begun split f front back (cut early.more late.more front back e);
      };
}
  where
    go : {all : List wire.Call} (late : FewMore most start b all) (early : FewMore most start a late.was) (before calls : List wire.Call) → start ≡ Some before → early.was ≡ before ++ calls →
        AreFew most calls → (front back : List wire.Call) →
        InFirst early.more front ⊎ InSecond early.more late.more front back → AreFew most (calls ++ front)
    go late early before calls begun split f front back (inl i) = early.few before calls begun split f front i.rest i.is
    go late early before calls begun split f front back (inr i) =
        subst (AreFew most) (append_assoc calls early.more i.more ∙ ap (λ (l : List wire.Call). calls ++ l) (sym i.front_is))
        (late.few before (calls ++ early.more) begun (early.are ∙ ap (λ (l : List wire.Call). l ++ early.more) split ∙ append_assoc before calls early.more)
        (early.few before calls begun split f early.more [] (sym (append-nil early.more))) i.more back i.is)

-- Calls that neither read nor write a link.
quiet_few : (most : ℕ) (calls more front back : List wire.Call) → ((link : ℕ) → calls_on link more ≡ []) → more ≡ front ++ back → AreFew most calls → AreFew most (calls ++ front)
quiet_few most calls more front back quiet e f link =
    subst (FewAsked most) (sym (said_stays link calls front (front_off link front back (sym (ap (calls_on link) e) ∙ quiet link)))) (f link)

pub few_idly : (most : ℕ) (start a b : Option (List wire.Call)) → GoesIdly a b → StaysFew most start a b
few_idly most start a b idly = record {
  on = λ all is.
      let idle = idly.on all is in
      record { was = idle.before; more = idle.more; is = idle.was; are = idle.are; few = λ before calls begun split f front back e. quiet_few most calls idle.more front back idle.quiet e f };
}

pub few_adds : (most : ℕ) (start a b : Option (List wire.Call)) (call : wire.Call) → ((link : ℕ) → calls_on link (call ∷ []) ≡ []) → Adds a b call → StaysFew most start a b
few_adds most start a b call quiet adds = record {
  on = λ all is.
      let grown = adds all is in
      record { was = grown.0; more = call ∷ []; is = grown.1; are = grown.2; few = λ before calls begun split f front back e. quiet_few most calls (call ∷ []) front back quiet e f };
}

-- A turn, whole or short.

module _ (most : ℕ) (far : Far) (way : Way) (now now' : board.Seen) (held held' : List (Held Ticket)) (a b : Option (List wire.Call)) (Leads : List (Seen Ticket) → List wire.Call →
    List (Seen Ticket) → Type 0)
    (turns : (before : List (Seen Ticket)) (calls : List wire.Call) (after : List (Seen Ticket)) → Leads before calls after → (ending : Ending) × Turns steps before now calls after now' ending)
    (goes : poll.Goes a b (λ seens. AreAt held seens) (λ seens. AreAt held' seens) Leads) (well : now.error ≡ None) where
  turn_few : (start : Option (List wire.Call)) → Stand held → Told start a (λ calls. HasFew most far way now calls held) → StaysFew most start a b
  turn_few start stand told = record {
    on = λ all is.
        let first = (goes stand.seens stand.at).grown all is in
        let since = told.since first.0 first.1 in
        let went = goes since.is.seens since.is.at in
        let grown = went.grown all is in
        record {
          was = grown.0;
          more = went.calls;
          is = grown.1;
          are = grown.2;
          few = λ before calls begun split f front back e. go first.0 since (some_same first.0 grown.0 (sym first.1 ∙ grown.1)) went.calls went.after went.leads before calls begun split front
              back e;
        };
  }
    where
      go : (all : List wire.Call) (since : Since start all (λ calls. HasFew most far way now calls held)) {was : List wire.Call} → all ≡ was →
          (part : List wire.Call) (after : List (Seen Ticket)) → Leads since.is.seens part after →
          (before calls : List wire.Call) → start ≡ Some before → was ≡ before ++ calls → (front back : List wire.Call) → part ≡ front ++ back → AreFew most (calls ++ front)
      go all since same part after leads before calls begun split front back e =
          let start_same : since.before ≡ before = same_calls since.before before (sym since.was ∙ begun) in
          let calls_same : since.calls ≡ calls = same_rest before since.calls calls (ap (λ (l : List wire.Call). l ++ since.calls) (sym start_same) ∙ sym since.now ∙ same ∙ split) in
          let t = turns since.is.seens part after leads in
          let stands = all_stand held since.is.seens since.is.at in
          subst (λ (l : List wire.Call). AreFew most (l ++ front)) calls_same
          (λ link. front_few far way.at way.size way.how way.slices now since.calls front since.is.seens way.asked way.known since.is.stands stands
          (front_of far way.at way.size way.how way.slices now now' since.calls part front back since.is.seens after way.asked way.known t.0 since.is.stands t.1 stands e)
          most link well (since.is.counted well link))

pub turned_few : (a b : Option (List wire.Call)) (f g : ℕ) (r : Result Turn CopyFault) (now now' : board.Seen) (held held' : List (Held Ticket)) → now.error ≡ None →
    IfOk r (λ turn. poll.Goes a b (λ seens. AreAt held seens) (λ seens. AreAt held' seens) (λ before calls after. TurnsWhole (OneByOne board.Files) f g turn before now calls after now')) →
    OnErr r (poll.Goes a b (λ seens. AreAt held seens) (λ seens. AreAt held' seens) (λ before calls after. TurnsCut (OneByOne board.Files) f g before now calls after now')) →
    (most : ℕ) (far : Far) (way : Way) (start : Option (List wire.Call)) → Stand held → Told start a (λ calls. HasFew most far way now calls held) → StaysFew most start a b
turned_few a b f g (Ok turn) now now' held held' well goes cut most far way start stand told =
    turn_few most far way now now' held held' a b (λ before calls after. TurnsWhole steps f g turn before now calls after now') (λ before calls after leads. (Whole leads.moved, leads.turns)) goes
    well start stand told
turned_few a b f g (Err why) now now' held held' well goes cut most far way start stand told =
    turn_few most far way now now' held held' a b (λ before calls after. TurnsCut steps f g before now calls after now') (λ before calls after leads. (leads.ending, leads.turns)) cut well start
    stand told

-- One turn more, and a pause, where no slice was begun.
pub few_on : (most : ℕ) (far : Far) (way : Way) (start a b c : Option (List wire.Call)) (now now2 : board.Seen) (held held2 : List (Held Ticket)) → now.rows ≡ [] → Stand held →
    Goes now held a now2 held2 b →
    Told start a (λ calls. IsUnderWay far way now calls held) → StaysFew most start a b →
    ((most : ℕ) (far : Far) (way : Way) (start : Option (List wire.Call)) → Stand held2 → Told start b (λ calls. HasFew most far way now2 calls held2) → StaysFew most start b c) →
    StaysFew most start a c
few_on most far way start a b c now now2 held held2 none stand goes told few turn =
    few_then most start a b c few
    (turn most far way start (goes.stand stand)
    (told_as start b (λ calls on. none_few most far way now2 calls held2 ((goes.filed stand).none none) on) (goes.on far way start stand told)))

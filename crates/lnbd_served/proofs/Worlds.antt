-- What stands behind served wires, call by call: what the server of one export did, and how each of its links stands.
use Rattle.std.proofs.Common.{◌≡◌, ◌≢◌, ℕ, zero, suc, ◌+◌, ◌<◌, ◌≤◌, ◌%◌, ◌⊎◌, inl, inr, Bool, true, false, ◌&&◌, List, [], ◌∷◌, ◌++◌, length, take, drop, Some, None, ◌==◌, nat_lt, refl, ap, sym, subst, ◌∙◌, arith, if◌then◌else◌, slice_set, get_or-set_same, get_or-set_other, length-append}
use Rattle.std.proofs.lemmas.Bool.{cases_eq, cases_lt, eq-eqb, ne_eqb}
use Rattle.std.proofs.lemmas.Bool.Decides.{nat_tests}
use Rattle.std.proofs.lemmas.List.{get_or_past, length-set, take-append-drop}
use Rattle.std.proofs.lemmas.Nat.{mod_below}
use Rattle.lnbd_model.specs.declared.state.Cause.{Cause}
use Rattle.lnbd_model.specs.declared.state.Cause.TheVariants as cause
use Rattle.lnbd_history.specs.declared.kinds.Stage.{Stage}
use Rattle.lnbd_history.specs.History.{ended_at, failed_at, die}
use Rattle.lnbd_link.specs.declared.wires.Want.{Want}
use Rattle.lnbd_link.specs.Call.{Call, Connect, Listen, Accept, Read, Write, Pause, Shut, ReadTold, Moved, Unready, Ended, WriteTold, Sent, Full, WriteFault}
use Rattle.lnbd_asked.specs.Link.{Both, with_heard, after_read, after_write, after_end, after_fault}
use Rattle.lnbd_asked.specs.Transcript.{after_call, after_calls, after_read_told, after_write_told, untold}
use Rattle.lnbd_asked.specs.Laws.{is_on}
use Rattle.lnbd_asked.proofs.Calls.{calls_follow, others_pass}
use Rattle.lnbd_export.specs.Export.{Export, TellsTruly}
use Rattle.lnbd_server.specs.Session.{Session, Dialogue, with_export}
use Rattle.lnbd_memnet.specs.declared.hosted.Hosted.{Hosted}
use Rattle.lnbd_memnet.specs.declared.link.Link.{Link}
use Rattle.lnbd_memnet.specs.declared.schedule.Step.{Step as Turn}
use Rattle.lnbd_memnet.specs.Network.{Network, offers, no_link, no_export, link_in, export_in, new_link}
use Rattle.lnbd_memnet.specs.Schedule.{step_at}
use Rattle.lnbd_memnet.specs.Plays.{Plays, has_to_answer, Readies, has_ended, share, told, given, GivesIf, ReadsIf, DeliversIf, WritesIf, due_at, all_due, shut_at}
use Rattle.lnbd_spoken.specs.Speaking.{SaysWell, SpeaksFrom}
use Rattle.lnbd_served.specs.Steps.{Taken, Step, Took, Gave, Has, after, AllRight}
use Rattle.lnbd_served.proofs.Items.{IsOver}
use Rattle.lnbd_served.specs.Served.{IsServable}
use Rattle.lnbd_served.proofs.Taking.{Stands}
use Rattle.lnbd_served.proofs.Hosting.{TieBoth, Replied, replied, Wrote, wrote, hear_tie, dead_tie, more_tie, is_took}

-- The transcript is read call by call.

pub speaks_split : (l : ℕ) (both : Both) (calls : List Call) (call : Call) → SpeaksFrom l both (calls ++ call ∷ []) → SpeaksFrom l both calls × SaysWell l (after_calls l both calls) call
speaks_split l both [] call s = (tt, s.0)
speaks_split l both (first ∷ calls) call s = let r = speaks_split l (after_call l both first) calls call s.1 in ((s.0, r.0), r.1)

-- Links and exports at their places.

pub opened_there : (links : List Link) (k : ℕ) → (link_in links k).opened ≡ true → k < length links
opened_there links k is = elim (cases_lt k (length links)) [
  | inl less ↦ less
  | inr past ↦ let none : (link_in links k).opened ≡ false = ap (λ (l : Link). l.opened) (get_or_past links k no_link (omega (arith, past))) in absurd (let bad : false ≡ true = sym none ∙ is in cc)
]

pub pushed_session : (links : List Link) (place n : ℕ) → (link_in (links ++ new_link place ∷ []) n).session ≡ (link_in links n).session
pushed_session [] place zero = refl
pushed_session [] place (suc n) = refl
pushed_session (l ∷ links) place zero = refl
pushed_session (l ∷ links) place (suc n) = pushed_session links place n

pub pushed_before : (links : List Link) (link : Link) (n : ℕ) → n < length links → link_in (links ++ link ∷ []) n ≡ link_in links n
pushed_before [] link n less = absurd (omega (arith, less))
pushed_before (l ∷ links) link zero less = refl
pushed_before (l ∷ links) link (suc n) less = pushed_before links link n (omega (arith, less))

-- the same sessions to the same exports
pub record SameLinks (before after_ : List Link) : Type 0 where
  pub count : length after_ ≡ length before
  pub session : (n : ℕ) → (link_in after_ n).session ≡ (link_in before n).session
  pub place : (n : ℕ) → (link_in after_ n).place ≡ (link_in before n).place

pub same_links : (before after_ : List Link) → after_ ≡ before → SameLinks before after_
same_links before after_ e = record { count = ap length e; session = λ n. ap (λ (ls : List Link). (link_in ls n).session) e; place = λ n. ap (λ (ls : List Link). (link_in ls n).place) e }

pub same_then : (before middle after_ : List Link) → SameLinks before middle → after_ ≡ middle → SameLinks before after_
same_then before middle after_ same e = subst (λ (ls : List Link). SameLinks before ls) (sym e) same

set_session : (links : List Link) (k : ℕ) (link : Link) → link.session ≡ (link_in links k).session → (n : ℕ) → (link_in (slice_set links k link) n).session ≡ (link_in links n).session
set_session [] k link e n = refl
set_session (l ∷ links) zero link e zero = e
set_session (l ∷ links) zero link e (suc n) = refl
set_session (l ∷ links) (suc k) link e zero = refl
set_session (l ∷ links) (suc k) link e (suc n) = set_session links k link e n

pub set_place : (links : List Link) (k : ℕ) (link : Link) → link.place ≡ (link_in links k).place → (n : ℕ) → (link_in (slice_set links k link) n).place ≡ (link_in links n).place
set_place [] k link e n = refl
set_place (l ∷ links) zero link e zero = e
set_place (l ∷ links) zero link e (suc n) = refl
set_place (l ∷ links) (suc k) link e zero = refl
set_place (l ∷ links) (suc k) link e (suc n) = set_place links k link e n

pub set_same : (links : List Link) (k : ℕ) (link : Link) → link.session ≡ (link_in links k).session → link.place ≡ (link_in links k).place → SameLinks links (slice_set links k link)
set_same links k link s p = record { count = length-set links k link; session = set_session links k link s; place = set_place links k link p }

pub due_same : (wants : List Want) (links : List Link) → SameLinks links (all_due wants links)
due_same [] links = same_links links links refl
due_same (want ∷ wants) links =
    let one = set_same links want.link (record (link_in links want.link) { read_due = true; write_due = true }) refl refl in
    let rest = due_same wants (due_at want.link links) in
    record { count = rest.count ∙ one.count; session = λ n. rest.session n ∙ one.session n; place = λ n. rest.place n ∙ one.place n }

pub gives_place : (b : Bool) (step : Turn) (room : ℕ) (export : Export) (before : Link) (answer : ReadTold) (after_ : Link) → GivesIf b step room export before answer after_ → after_.place ≡ before.place
gives_place true step room export before answer after_ g = ap (λ (x : Link). x.place) g.is
gives_place false step room export before answer after_ g = ap (λ (x : Link). x.place) g.1

pub delivers_place : (b : Bool) (step : Turn) (offered : ℕ) (hosted : Hosted) (before : Link) (answer : WriteTold) (after_ : Link) (end : Hosted) → DeliversIf b step offered hosted before answer after_ end → after_.place ≡ before.place
delivers_place true step offered hosted before (Sent bytes) after_ end d = ap (λ (x : Link). x.place) d.is
delivers_place true step offered hosted before Full after_ end d = absurd d
delivers_place true step offered hosted before WriteFault after_ end d = absurd d
delivers_place false step offered hosted before answer after_ end d = ap (λ (x : Link). x.place) d.1

-- A link's end.

module _ (start : Export) (link : ℕ) where
  die_both : (all : List Step) (dialogue : Dialogue) (both : Both) (why : Cause) → TieBoth start link all dialogue both → TieBoth start link all dialogue (record both { link = record both.link { heard = die both.link.requests why both.link.heard }; read = [] })
  die_both all dialogue both why t = dead_tie start.name (length start.bytes) link all both.read (with_export dialogue start) (record { known = both.link; pending = both.written }) why t

  ended : (all : List Step) (dialogue : Dialogue) (both : Both) → TieBoth start link all dialogue both → TieBoth start link all dialogue (after_end both)
  ended all dialogue both t = go t.stands
    where
      go : (IsOver start.name (length start.bytes) all link both.link ⊎ Stands start.name (length start.bytes) all link both.read dialogue.out both.link) → TieBoth start link all dialogue (after_end both)
      go (inl over) = subst (λ (s : Stage). TieBoth start link all dialogue (with_heard both (ended_at s both.link.requests (record { known = both.link.heard; pending = both.read })))) (sym over.0.1) t
      go (inr s) = subst (λ (x : Stage). TieBoth start link all dialogue (with_heard both (ended_at x both.link.requests (record { known = both.link.heard; pending = both.read })))) (sym s.awaits.open_) (die_both all dialogue both cause.Ended t)

  failed : (all : List Step) (dialogue : Dialogue) (both : Both) → TieBoth start link all dialogue both → TieBoth start link all dialogue (after_fault both)
  failed all dialogue both t = go t.stands
    where
      go : (IsOver start.name (length start.bytes) all link both.link ⊎ Stands start.name (length start.bytes) all link both.read dialogue.out both.link) → TieBoth start link all dialogue (after_fault both)
      go (inl over) = subst (λ (s : Stage). TieBoth start link all dialogue (with_heard both (failed_at s both.link.requests (record { known = both.link.heard; pending = both.read })))) (sym over.0.1) t
      go (inr s) = subst (λ (x : Stage). TieBoth start link all dialogue (with_heard both (failed_at x both.link.requests (record { known = both.link.heard; pending = both.read })))) (sym s.awaits.open_) (die_both all dialogue both cause.LinkFailed t)

  -- Some of the bytes that wait are read.
  heard : (all : List Step) (dialogue : Dialogue) (both : Both) (n : ℕ) → TieBoth start link all dialogue both → TieBoth start link all (record dialogue { out = drop n dialogue.out }) (after_read (take n dialogue.out) both)
  heard all dialogue both n t =
      hear_tie start.name (length start.bytes) link all both.read (with_export dialogue start) (record { known = both.link; pending = both.written }) both.read (take n dialogue.out) (drop n dialogue.out) t
      (subst (λ (out : List ℕ). IsOver start.name (length start.bytes) all link both.link ⊎ Stands start.name (length start.bytes) all link both.read out both.link) (sym (take-append-drop n dialogue.out)) t.stands)

  -- What a read tells.
  told_tie : (all : List Step) (ready : Session) (both : Both) (n : ℕ) → TieBoth start link all ready.dialogue both → TieBoth start link all (given n ready).dialogue (after_read_told (told n ready) both)
  told_tie all ready both zero t = go (has_ended ready.dialogue.stage)
    where
      go : (b : Bool) → TieBoth start link all ready.dialogue (after_read_told (if b then Ended else Unready) both)
      go true = ended all ready.dialogue both t
      go false = t
  told_tie all ready both (suc n) t =
      let moves : nat_lt 0 (suc n) ≡ true = grind (arith, nat_tests) in
      subst (λ (b : Bool). TieBoth start link all (given (suc n) ready).dialogue (after_read_told (if b then Moved (take (suc n) ready.dialogue.out) else if has_ended ready.dialogue.stage then Ended else Unready) both)) (sym moves) (heard all ready.dialogue both (suc n) t)

-- What holds of an export and of all of its links.
module _ (place : ℕ) (start : Export) (servable : IsServable start) (truly : TellsTruly start) where
  pub record LinkTie (all : List Step) (l : ℕ) (sess : Session) (both : Both) : Type 0 where
    pub offers_ : sess.offers ≡ offers
    pub tie : TieBoth start l all sess.dialogue both

  -- a link to this export, or none yet
  abbrev pub IsOwn : List Link → ℕ → Type 0
  IsOwn links l = ((link_in links l).place ≡ place) ⊎ (length links ≤ l)

  pub record World (calls : List Call) (network : Network) : Type 0 where
    pub all : List Step
    pub is : (export_in network.exports place).export ≡ after start all
    pub right : AllRight start all
    pub mine : (l : ℕ) (t : Taken) → Has (Took l t) all → (l < length network.links) × ((link_in network.links l).place ≡ place)
    pub each : (l : ℕ) → IsOwn network.links l → LinkTie all l (link_in network.links l).session (after_calls l untold calls)

  own_before : (before after_ : List Link) (l : ℕ) → SameLinks before after_ → IsOwn after_ l → IsOwn before l
  own_before before after_ l same (inl p) = inl (sym (same.place l) ∙ p)
  own_before before after_ l same (inr past) = inr (omega (arith, past, same.count))

  -- one call more
  called : (l : ℕ) (calls : List Call) (call : Call) → after_calls l untold (calls ++ call ∷ []) ≡ after_call l (after_calls l untold calls) call
  called l calls call = calls_follow l untold calls (call ∷ [])

  -- A call on one link.
  on_one : (calls : List Call) (call : Call) (before after_ : Network) (k : ℕ) (all : List Step) (w : World calls before) → length after_.links ≡ length before.links → ((n : ℕ) → (link_in after_.links n).place ≡ (link_in before.links n).place) →
      ((n : ℕ) → n ≢ k → (link_in after_.links n).session ≡ (link_in before.links n).session) → ((n : ℕ) → n ≢ k → is_on n call ≡ false) → (export_in after_.exports place).export ≡ after start all → AllRight start all →
      ((step : Step) → Has step w.all → Has step all) → ((l : ℕ) (t : Taken) → l ≢ k → Has (Took l t) all → Has (Took l t) w.all) → ((t : Taken) → Has (Took k t) all → (k < length before.links) × ((link_in before.links k).place ≡ place)) →
      (IsOwn before.links k → LinkTie all k (link_in after_.links k).session (after_call k (after_calls k untold calls) call)) → World (calls ++ call ∷ []) after_
  on_one calls call before after_ k all w count places sessions others is right fwd back mine here = record {
    all = all;
    is = is;
    right = right;
    mine = λ l t h. let m = mine_at l t h in (omega (arith, m.0, count), places l ∙ m.1);
    each = λ l own. subst (λ (b : Both). LinkTie all l (link_in after_.links l).session b) (sym (called l calls call)) (each_at l (own_then l own));
  }
    where
      own_then : (l : ℕ) → IsOwn after_.links l → IsOwn before.links l
      own_then l (inl p) = inl (sym (places l) ∙ p)
      own_then l (inr past) = inr (omega (arith, past, count))

      mine_at : (l : ℕ) (t : Taken) → Has (Took l t) all → (l < length before.links) × ((link_in before.links l).place ≡ place)
      mine_at l t h = elim (cases_eq l k) [
        | inl same ↦ subst (λ (n : ℕ). (n < length before.links) × ((link_in before.links n).place ≡ place)) (sym same) (mine t (subst (λ (n : ℕ). Has (Took n t) all) same h))
        | inr other ↦ w.mine l t (back l t other h)
      ]

      each_at : (l : ℕ) → IsOwn before.links l → LinkTie all l (link_in after_.links l).session (after_call l (after_calls l untold calls) call)
      each_at l own = elim (cases_eq l k) [
        | inl same ↦ subst (λ (n : ℕ). LinkTie all n (link_in after_.links n).session (after_call n (after_calls n untold calls) call)) (sym same) (here (subst (λ (n : ℕ). IsOwn before.links n) same own))
        | inr other ↦
            let old = w.each l own in
            subst (λ (b : Both). LinkTie all l (link_in after_.links l).session b) (sym (others_pass l (after_calls l untold calls) call (others l other)))
            (subst (λ (x : Session). LinkTie all l x (after_calls l untold calls)) (sym (sessions l other))
            (record { offers_ = old.offers_; tie = more_tie start.name (length start.bytes) w.all all l (after_calls l untold calls).read (with_export (link_in before.links l).session.dialogue start) (record { known = (after_calls l untold calls).link; pending = (after_calls l untold calls).written }) fwd (λ t h. back l t other h) old.tie }))
      ]

  -- A call that moves nothing.
  quiet_call : (calls : List Call) (call : Call) (before after_ : Network) → World calls before → SameLinks before.links after_.links → after_.exports ≡ before.exports → ((n : ℕ) → is_on n call ≡ false) → World (calls ++ call ∷ []) after_
  quiet_call calls call before after_ w same exports off = record {
    all = w.all;
    is = ap (λ (es : List Hosted). (export_in es place).export) exports ∙ w.is;
    right = w.right;
    mine = λ l t h. let m = w.mine l t h in (omega (arith, m.0, same.count), same.place l ∙ m.1);
    each = λ l own. subst (λ (b : Both). LinkTie w.all l (link_in after_.links l).session b) (sym (called l calls call ∙ others_pass l (after_calls l untold calls) call (off l)))
        (subst (λ (x : Session). LinkTie w.all l x (after_calls l untold calls)) (sym (same.session l)) (w.each l (own_before before.links after_.links l same own)));
  }

  -- A link more.

  opened_call : (calls : List Call) (call : Call) (before after_ : Network) (q : ℕ) → World calls before → after_.links ≡ before.links ++ new_link q ∷ [] → after_.exports ≡ before.exports → ((n : ℕ) → is_on n call ≡ false) → World (calls ++ call ∷ []) after_
  opened_call calls call before after_ q w links exports off = record {
    all = w.all;
    is = ap (λ (es : List Hosted). (export_in es place).export) exports ∙ w.is;
    right = w.right;
    mine = λ l t h. let m = w.mine l t h in (omega (arith, m.0, count), old l m.0 ∙ m.1);
    each = λ l own. subst (λ (b : Both). LinkTie w.all l (link_in after_.links l).session b) (sym (called l calls call ∙ others_pass l (after_calls l untold calls) call (off l)))
        (subst (λ (x : Session). LinkTie w.all l x (after_calls l untold calls)) (sym (ap (λ (ls : List Link). (link_in ls l).session) links ∙ pushed_session before.links q l)) (w.each l (own_then l own)));
  }
    where
      count : length after_.links ≡ length before.links + 1
      count = ap length links ∙ length-append before.links (new_link q ∷ [])

      old : (l : ℕ) → l < length before.links → (link_in after_.links l).place ≡ (link_in before.links l).place
      old l less = ap (λ (ls : List Link). (link_in ls l).place) links ∙ ap (λ (x : Link). x.place) (pushed_before before.links (new_link q) l less)

      own_then : (l : ℕ) → IsOwn after_.links l → IsOwn before.links l
      own_then l (inr past) = inr (omega (arith, past, count))
      own_then l (inl p) = elim (cases_lt l (length before.links)) [
        | inl less ↦ inl (sym (old l less) ∙ p)
        | inr past ↦ inr past
      ]

  -- Reads.

  -- a pending reply was made, or nothing
  record Made (was : List Step) (l : ℕ) (ready : Session) (both : Both) : Type 0 where
    all : List Step
    right : AllRight start all
    same : (export : Export) → export ≡ after start was → export ≡ after start all
    fwd : (step : Step) → Has step was → Has step all
    back : (other : ℕ) (t : Taken) → Has (Took other t) all → Has (Took other t) was
    tie : LinkTie all l ready both

  positive : (a b : Bool) → a && b ≡ true → b ≡ true
  positive true b e = e
  positive false b e = cc

  readied : (was : List Step) (l : ℕ) (before : Session) (pick : ℕ) (export : Export) (ready : Session) (both : Both) → export ≡ after start was → AllRight start was → LinkTie was l before both → (b : Bool) → has_to_answer before ≡ b → Readies b before pick export ready → Made was l ready both
  readied was l before pick export ready both is right t false e r = record { all = was; right = right; same = λ x h. h; fwd = λ step h. h; back = λ other u h. h; tie = subst (λ (s : Session). LinkTie was l s both) (sym r) t }
  readied was l before pick export ready both is right t true e r =
      let some : nat_lt 0 (length before.dialogue.waiting) ≡ true = positive (length before.dialogue.out == 0) (nat_lt 0 (length before.dialogue.waiting)) e in
      let there : 0 < length before.dialogue.waiting = grind (arith, nat_tests) in
      let x : Replied start l was ready.dialogue both = replied start l was before.dialogue (pick % length before.dialogue.waiting) export ready.dialogue both (mod_below pick (length before.dialogue.waiting) there) r.replies is right t.tie in
      record {
        all = Gave l x.cookie x.given ∷ was;
        right = x.right;
        same = λ y h. h;
        fwd = λ step h. inr h;
        back = λ other u h. elim h [
          | inl gave ↦ absurd (let bad : false ≡ true = ap is_took gave in cc)
          | inr earlier ↦ earlier
        ];
        tie = record { offers_ = r.offers ∙ t.offers_; tie = x.tie };
      }

  record Read_to (was : List Step) (l : ℕ) (after_ : Session) (answer : ReadTold) (both : Both) : Type 0 where
    all : List Step
    right : AllRight start all
    same : (export : Export) → export ≡ after start was → export ≡ after start all
    fwd : (step : Step) → Has step was → Has step all
    back : (other : ℕ) (t : Taken) → Has (Took other t) all → Has (Took other t) was
    tie : LinkTie all l after_ (after_read_told answer both)

  gives_to : (was : List Step) (l : ℕ) (b : Bool) (step : Turn) (room : ℕ) (export : Export) (before : Link) (answer : ReadTold) (after_ : Link) (both : Both) → export ≡ after start was → AllRight start was → LinkTie was l before.session both → GivesIf b step room export before answer after_ →
      Read_to was l after_.session answer both
  gives_to was l true step room export before answer after_ both is right t g =
      let m = readied was l before.session step.pick export g.ready both is right t (has_to_answer before.session) refl g.readies in
      record {
        all = m.all;
        right = m.right;
        same = m.same;
        fwd = m.fwd;
        back = m.back;
        tie = subst (λ (a : ReadTold). LinkTie m.all l after_.session (after_read_told a both)) (sym g.answers)
            (subst (λ (x : Link). LinkTie m.all l x.session (after_read_told (told (share step room g.ready) g.ready) both)) (sym g.is)
            (record { offers_ = m.tie.offers_; tie = told_tie start l m.all g.ready both (share step room g.ready) m.tie.tie }));
      }
  gives_to was l false step room export before answer after_ both is right t g = record {
    all = was;
    right = right;
    same = λ x h. h;
    fwd = λ s h. h;
    back = λ other u h. h;
    tie = subst (λ (a : ReadTold). LinkTie was l after_.session (after_read_told a both)) (sym g.0) (subst (λ (x : Link). LinkTie was l x.session both) (sym g.1) t);
  }

  read_on : (l : ℕ) (room : ℕ) (answer : ReadTold) (both : Both) → after_call l both (Read l room answer) ≡ after_read_told answer both
  read_on l room answer both = ap (λ (b : Bool). if b then after_read_told answer both else both) (eq-eqb l l refl)

  off_it : (k n : ℕ) → n ≢ k → (k == n) ≡ false
  off_it k n other = ne_eqb k n (λ e. other (sym e))

  read_call : (calls : List Call) (before after_ : Network) (k room : ℕ) (answer : ReadTold) → World calls before → after_.exports ≡ before.exports → (opened : Bool) → (link_in before.links k).opened ≡ opened → (step : Turn) → ReadsIf opened step before.exports before.links k room answer after_.links →
      World (calls ++ Read k room answer ∷ []) after_
  read_call calls before after_ k room answer w exports false was step r =
      let same = same_links before.links after_.links r.1 in
      on_one calls (Read k room answer) before after_ k w.all w same.count same.place (λ n other. same.session n) (λ n other. off_it k n other) (ap (λ (es : List Hosted). (export_in es place).export) exports ∙ w.is) w.right (λ s h. h) (λ l t other h. h) (λ t h. w.mine k t h)
      (λ own. let t = w.each k own in
      subst (λ (b : Both). LinkTie w.all k (link_in after_.links k).session b) (sym (read_on k room answer (after_calls k untold calls) ∙ ap (λ (a : ReadTold). after_read_told a (after_calls k untold calls)) r.0))
      (subst (λ (x : Session). LinkTie w.all k x (after_fault (after_calls k untold calls))) (sym (same.session k)) (record { offers_ = t.offers_; tie = failed start k w.all (link_in before.links k).session.dialogue (after_calls k untold calls) t.tie })))
  read_call calls before after_ k room answer w exports true was step r = elim (cases_eq (link_in before.links k).place place) [
    | inl own ↦ (
        let less = opened_there before.links k was in
        let export_is : (export_in before.exports (link_in before.links k).place).export ≡ after start w.all = ap (λ (p : ℕ). (export_in before.exports p).export) own ∙ w.is in
        let t = w.each k (inl own) in
        let x = gives_to w.all k _ step room _ (link_in before.links k) answer r.link (after_calls k untold calls) export_is w.right t r.gives in
        let here : link_in after_.links k ≡ r.link = ap (λ (ls : List Link). link_in ls k) r.is ∙ get_or-set_same before.links k r.link no_link less in
        on_one calls (Read k room answer) before after_ k x.all w (ap length r.is ∙ length-set before.links k r.link)
        (λ n. ap (λ (ls : List Link). (link_in ls n).place) r.is ∙ set_place before.links k r.link (gives_place _ step room _ (link_in before.links k) answer r.link r.gives) n)
        (λ n other. ap (λ (ls : List Link). (link_in ls n).session) r.is ∙ ap (λ (y : Link). y.session) (get_or-set_other before.links k n r.link no_link other)) (λ n other. off_it k n other)
        (ap (λ (es : List Hosted). (export_in es place).export) exports ∙ x.same (export_in before.exports place).export w.is) x.right x.fwd (λ l u other h. x.back l u h) (λ u h. (less, own))
        (λ o. subst (λ (b : Both). LinkTie x.all k (link_in after_.links k).session b) (sym (read_on k room answer (after_calls k untold calls))) (subst (λ (y : Link). LinkTie x.all k y.session (after_read_told answer (after_calls k untold calls))) (sym here) x.tie)))
    | inr foreign ↦ (
        let less = opened_there before.links k was in
        on_one calls (Read k room answer) before after_ k w.all w (ap length r.is ∙ length-set before.links k r.link)
        (λ n. ap (λ (ls : List Link). (link_in ls n).place) r.is ∙ set_place before.links k r.link (gives_place _ step room _ (link_in before.links k) answer r.link r.gives) n)
        (λ n other. ap (λ (ls : List Link). (link_in ls n).session) r.is ∙ ap (λ (y : Link). y.session) (get_or-set_other before.links k n r.link no_link other)) (λ n other. off_it k n other)
        (ap (λ (es : List Hosted). (export_in es place).export) exports ∙ w.is) w.right (λ s h. h) (λ l t other h. h) (λ t h. w.mine k t h)
        (λ own. absurd (not_own own less foreign)))
  ]
    where
      not_own : IsOwn before.links k → k < length before.links → (link_in before.links k).place ≢ place → ⊥
      not_own (inl p) less foreign = foreign p
      not_own (inr past) less foreign = omega (arith, past, less)

  -- Writes.

  record Written (was : List Step) (l : ℕ) (after_ : Session) (export : Export) (answer : WriteTold) (both : Both) : Type 0 where
    all : List Step
    is : export ≡ after start all
    right : AllRight start all
    fwd : (step : Step) → Has step was → Has step all
    back : (other : ℕ) (t : Taken) → other ≢ l → Has (Took other t) all → Has (Took other t) was
    tie : LinkTie all l after_ (after_write_told answer both)

  delivers_to : (was : List Step) (l : ℕ) (b : Bool) (step : Turn) (offered : ℕ) (hosted : Hosted) (before : Link) (answer : WriteTold) (after_ : Link) (end : Hosted) (both : Both) → hosted.export ≡ after start was → AllRight start was → LinkTie was l before.session both →
      SaysWell l both (Write l offered answer) → DeliversIf b step offered hosted before answer after_ end → Written was l after_.session end.export answer both
  delivers_to was l true step offered hosted before (Sent bytes) after_ end both is right t well d =
      let may = well refl in
      let takes = d.takes in
      let x : Wrote start l servable truly was d.session.dialogue d.export (after_write bytes both) = wrote start l servable truly was before.session.offers before.session.came before.session.dialogue hosted.export bytes d.session.dialogue d.export both is right t.tie d.are may takes.fed in
      record {
        all = x.all;
        is = ap (λ (h : Hosted). h.export) d.holds ∙ x.steps.is;
        right = x.steps.right;
        fwd = x.steps.fwd;
        back = x.steps.back;
        tie = subst (λ (y : Link). LinkTie x.all l y.session (after_write bytes both)) (sym d.is) (record { offers_ = takes.offers ∙ t.offers_; tie = x.tie });
      }
  delivers_to was l true step offered hosted before Full after_ end both is right t well d = absurd d
  delivers_to was l true step offered hosted before WriteFault after_ end both is right t well d = absurd d
  delivers_to was l false step offered hosted before answer after_ end both is right t well d = record {
    all = was;
    is = ap (λ (h : Hosted). h.export) d.2 ∙ is;
    right = right;
    fwd = λ s h. h;
    back = λ other u apart h. h;
    tie = subst (λ (a : WriteTold). LinkTie was l after_.session (after_write_told a both)) (sym d.0) (subst (λ (x : Link). LinkTie was l x.session both) (sym d.1) t);
  }

  write_on : (l : ℕ) (offered : ℕ) (answer : WriteTold) (both : Both) → after_call l both (Write l offered answer) ≡ after_write_told answer both
  write_on l offered answer both = ap (λ (b : Bool). if b then after_write_told answer both else both) (eq-eqb l l refl)

  write_call : (calls : List Call) (before after_ : Network) (k offered : ℕ) (answer : WriteTold) → place < length before.exports → World calls before → SaysWell k (after_calls k untold calls) (Write k offered answer) → (opened : Bool) → (link_in before.links k).opened ≡ opened → (step : Turn) →
      WritesIf opened step before.exports before.links k offered answer after_.exports after_.links → World (calls ++ Write k offered answer ∷ []) after_
  write_call calls before after_ k offered answer there w well false was step r =
      let same = same_links before.links after_.links r.2 in
      on_one calls (Write k offered answer) before after_ k w.all w same.count same.place (λ n other. same.session n) (λ n other. off_it k n other) (ap (λ (es : List Hosted). (export_in es place).export) r.1 ∙ w.is) w.right (λ s h. h) (λ l t other h. h) (λ t h. w.mine k t h)
      (λ own. let t = w.each k own in
      subst (λ (b : Both). LinkTie w.all k (link_in after_.links k).session b) (sym (write_on k offered answer (after_calls k untold calls) ∙ ap (λ (a : WriteTold). after_write_told a (after_calls k untold calls)) r.0))
      (subst (λ (x : Session). LinkTie w.all k x (after_fault (after_calls k untold calls))) (sym (same.session k)) (record { offers_ = t.offers_; tie = failed start k w.all (link_in before.links k).session.dialogue (after_calls k untold calls) t.tie })))
  write_call calls before after_ k offered answer there w well true was step r = elim (cases_eq (link_in before.links k).place place) [
    | inl own ↦ (
        let less = opened_there before.links k was in
        let export_is : (export_in before.exports (link_in before.links k).place).export ≡ after start w.all = ap (λ (p : ℕ). (export_in before.exports p).export) own ∙ w.is in
        let x = delivers_to w.all k _ step offered (export_in before.exports (link_in before.links k).place) (link_in before.links k) answer r.link r.hosted (after_calls k untold calls) export_is w.right (w.each k (inl own)) well r.delivers in
        let here : link_in after_.links k ≡ r.link = ap (λ (ls : List Link). link_in ls k) r.is ∙ get_or-set_same before.links k r.link no_link less in
        let now : export_in after_.exports place ≡ r.hosted = ap (λ (es : List Hosted). export_in es place) r.holds ∙ ap (λ (p : ℕ). export_in (slice_set before.exports p r.hosted) place) own ∙ get_or-set_same before.exports place r.hosted no_export there in
        on_one calls (Write k offered answer) before after_ k x.all w (ap length r.is ∙ length-set before.links k r.link)
        (λ n. ap (λ (ls : List Link). (link_in ls n).place) r.is ∙ set_place before.links k r.link (delivers_place _ step offered _ (link_in before.links k) answer r.link r.hosted r.delivers) n)
        (λ n other. ap (λ (ls : List Link). (link_in ls n).session) r.is ∙ ap (λ (y : Link). y.session) (get_or-set_other before.links k n r.link no_link other)) (λ n other. off_it k n other)
        (ap (λ (h : Hosted). h.export) now ∙ x.is) x.right x.fwd (λ l u other h. x.back l u other h) (λ u h. (less, own))
        (λ o. subst (λ (b : Both). LinkTie x.all k (link_in after_.links k).session b) (sym (write_on k offered answer (after_calls k untold calls))) (subst (λ (y : Link). LinkTie x.all k y.session (after_write_told answer (after_calls k untold calls))) (sym here) x.tie)))
    | inr foreign ↦ (
        let less = opened_there before.links k was in
        on_one calls (Write k offered answer) before after_ k w.all w (ap length r.is ∙ length-set before.links k r.link)
        (λ n. ap (λ (ls : List Link). (link_in ls n).place) r.is ∙ set_place before.links k r.link (delivers_place _ step offered _ (link_in before.links k) answer r.link r.hosted r.delivers) n)
        (λ n other. ap (λ (ls : List Link). (link_in ls n).session) r.is ∙ ap (λ (y : Link). y.session) (get_or-set_other before.links k n r.link no_link other)) (λ n other. off_it k n other)
        (ap (λ (es : List Hosted). (export_in es place).export) r.holds ∙ ap (λ (h : Hosted). h.export) (get_or-set_other before.exports (link_in before.links k).place place r.hosted no_export (λ e. foreign (sym e))) ∙ w.is) w.right (λ s h. h) (λ l t other h. h) (λ t h. w.mine k t h)
        (λ own. absurd (not_own own less foreign)))
  ]
    where
      not_own : IsOwn before.links k → k < length before.links → (link_in before.links k).place ≢ place → ⊥
      not_own (inl p) less foreign = foreign p
      not_own (inr past) less foreign = omega (arith, past, less)

  -- Any call.

  pub played_one : (calls : List Call) (before after_ : Network) (call : Call) → place < length before.exports → World calls before → ((l : ℕ) → SaysWell l (after_calls l untold calls) call) → Plays before call after_ → World (calls ++ call ∷ []) after_
  played_one calls before after_ (Connect to (Some l)) there w well p = opened_call calls (Connect to (Some l)) before after_ p.place w (ap (λ (n : Network). n.links) p.is) (ap (λ (n : Network). n.exports) p.is) (λ n. refl)
  played_one calls before after_ (Connect to None) there w well p = quiet_call calls (Connect to None) before after_ w (same_links before.links after_.links (ap (λ (n : Network). n.links) p.1)) (ap (λ (n : Network). n.exports) p.1) (λ n. refl)
  played_one calls before after_ (Listen at listener) there w well p = quiet_call calls (Listen at listener) before after_ w (same_links before.links after_.links (ap (λ (n : Network). n.links) p.1)) (ap (λ (n : Network). n.exports) p.1) (λ n. refl)
  played_one calls before after_ (Accept listener answer) there w well p = quiet_call calls (Accept listener answer) before after_ w (same_links before.links after_.links (ap (λ (n : Network). n.links) p.1)) (ap (λ (n : Network). n.exports) p.1) (λ n. refl)
  played_one calls before after_ (Read k room answer) there w well p =
      read_call calls before after_ k room answer w (ap (λ (n : Network). n.exports) p.is) (link_in before.links k).opened refl (step_at before.schedule before.turn) (subst (λ (ls : List Link). ReadsIf (link_in before.links k).opened (step_at before.schedule before.turn) before.exports before.links k room answer ls) (sym (ap (λ (n : Network). n.links) p.is)) p.reads)
  played_one calls before after_ (Write k offered answer) there w well p =
      write_call calls before after_ k offered answer there w (well k) (link_in before.links k).opened refl (step_at before.schedule before.turn)
      (subst (λ (n : Network). WritesIf (link_in before.links k).opened (step_at before.schedule before.turn) before.exports before.links k offered answer n.exports n.links) (sym p.is) p.writes)
  played_one calls before after_ (Pause wants) there w well p =
      quiet_call calls (Pause wants) before after_ w (same_then before.links (all_due wants before.links) after_.links (due_same wants before.links) (ap (λ (n : Network). n.links) p)) (ap (λ (n : Network). n.exports) p) (λ n. refl)
  played_one calls before after_ (Shut l) there w well p =
      quiet_call calls (Shut l) before after_ w (same_then before.links (shut_at l before.links) after_.links (set_same before.links l (record (link_in before.links l) { opened = false }) refl refl) (ap (λ (n : Network). n.links) p)) (ap (λ (n : Network). n.exports) p) (λ n. refl)

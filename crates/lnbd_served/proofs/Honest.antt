-- Served wires are honest.
use Rattle.std.proofs.Common.{◌≡◌, ℕ, zero, suc, ◌<◌, ◌⊎◌, inl, inr, Bool, true, false, ◌&&◌, List, [], ◌∷◌, ◌++◌, length, slice_set, Option, Some, None, bytes_eq, refl, ap, sym, subst, ◌∙◌, arith, if◌then◌else◌, append-nil}
use Rattle.std.proofs.lemmas.Bool.{cases_lt}
use Rattle.std.proofs.lemmas.List.{length-set}
use Rattle.std.proofs.lemmas.Slice.Eq.{bytes_eq-Decides}
use Rattle.lnbd_model.specs.declared.export.Blocks.{Blocks as BlockSizes}
use Rattle.lnbd_model.specs.declared.target.Place.{Place}
use Rattle.lnbd_model.specs.declared.target.Target.{Target}
use Rattle.lnbd_records.specs.Handshake.{hello}
use Rattle.lnbd_records.specs.Numbers.{row}
use Rattle.lnbd_records.specs.Told.{Told, Size}
use Rattle.lnbd_records.specs.Told as told
use Rattle.lnbd_history.specs.declared.kinds.Phase.{Phase}
use Rattle.lnbd_history.specs.declared.kinds.Phase.TheVariants as phase
use Rattle.lnbd_history.specs.Agreement.{Turn, Hello, Replied, ByName, Set, Opted, End, phase, steps, export, under_way, end_of, answered as answer_steps, is_info, is_acknowledged, opt_mode}
use Rattle.lnbd_history.specs.Agreement.{size_told as size_of_replies, Export as Agreed, Step as AgreedStep, export_of, blocks_told, name_told, description_told}
use Rattle.lnbd_history.specs.Events as event
use Rattle.lnbd_outcome.specs.Outcome as outcome
use Rattle.lnbd_link.specs.Call.{Call, WriteTold, Connect, Listen, Accept, Read, Write, Pause, Shut, Sent, Full, WriteFault}
use Rattle.lnbd_link.specs.Traffic.{target_of}
use Rattle.lnbd_asked.specs.Transcript.{on_link, untold, after_calls, is_of, is_target, is_name, name_asked, size_told, size_at, asked_on, answered, told_zero, dealt_with, only_if}
use Rattle.lnbd_asked.specs.Honest.{Honest}
use Rattle.lnbd_export.specs.Export.{Export}
use Rattle.lnbd_server.specs.Session.{fresh as fresh_session}
use Rattle.lnbd_memnet.specs.declared.hosted.Hosted.{Hosted}
use Rattle.lnbd_memnet.specs.declared.link.Link.{Link}
use Rattle.lnbd_memnet.specs.declared.schedule.Step.{Step as Turn_of}
use Rattle.lnbd_memnet.specs.Network.{Network, offers, link_in, export_in}
use Rattle.lnbd_memnet.specs.Plays.{Plays, WritesIf, DeliversIf}
use Rattle.lnbd_memnet.specs.Wires.{Played, None_yet, Then, Begins}
use Rattle.lnbd_spoken.specs.Speaking.{SaysWell, SpeaksWell}
use Rattle.lnbd_served.specs.Steps.{Taken, Took, Has}
use Rattle.lnbd_served.specs.Follows.{Follows}
use Rattle.lnbd_served.specs.Served.{IsServable, place_of, DrivenServedIsHonest, ServedIsHonest}
use Rattle.lnbd_spoken.proofs.Driving.{driven_speak_well}
use Rattle.lnbd_served.proofs.Servers.{servers_are_honest}
use Rattle.lnbd_served.proofs.Items.{Greets, AreFair, IsSound, IsOver}
use Rattle.lnbd_served.proofs.Linking.{full_said}
use Rattle.lnbd_served.proofs.Faces.{face_back, played_face}
use Rattle.lnbd_served.proofs.Taking.{Stands, same_face, same_servable, no_bytes}
use Rattle.lnbd_served.proofs.Hosting.{TieBoth}
use Rattle.lnbd_served.proofs.Worlds.{LinkTie, World, played_one, speaks_split}
use Rattle.lnbd_served.proofs.Targets.{Targets, targets_first, targets_then, is_target-true, is_target-same}
use Rattle.lnbd_served.proofs.Final.{done_came, zero_came}

some_target : (one other : Target) → Some one ≡ Some other → one ≡ other
some_target one other e = cc

-- The size that is told.

under_fair : (size : ℕ) (turns : List Turn) (s : Size) → AreFair size turns → size_of_replies (under_way turns) ≡ Some s → s.size ≡ size
under_fair size [] s f e = absurd f
under_fair size (Hello ∷ before) s f e = under_fair size before s f e
under_fair size (Replied told.Ack ∷ before) s f e = cc
under_fair size (Replied (told.Error code) ∷ before) s f e = cc
under_fair size (Replied (told.Server listed) ∷ before) s f e = under_fair size before s f.1 e
under_fair size (Replied (told.Export one) ∷ before) s f e = let same : one ≡ s = cc in ap (λ (x : Size). x.size) (sym same) ∙ f.0
under_fair size (Replied (told.Name name) ∷ before) s f e = under_fair size before s f.1 e
under_fair size (Replied (told.Description text) ∷ before) s f e = under_fair size before s f.1 e
under_fair size (Replied (told.Blocks blocks) ∷ before) s f e = under_fair size before s f.1 e
under_fair size (Replied told.Passed ∷ before) s f e = under_fair size before s f.1 e
under_fair size (Replied (told.Context context) ∷ before) s f e = under_fair size before s f.1 e
under_fair size (ByName n flags ∷ before) s f e = under_fair size before s f.1 e
under_fair size (Set one ∷ before) s f e = let none : under_way (Set one ∷ before) ≡ [] = ap under_way f.1 in let bad : None ≡ Some s = sym (ap size_of_replies none) ∙ e in cc
under_fair size (Opted option ∷ before) s f e = under_fair size before s f e

of_size : (size : ℕ) (told_size : Option Size) (x : Agreed) (b : Option BlockSizes) (n d : Option (List ℕ)) → ((s : Size) → told_size ≡ Some s → s.size ≡ size) → export_of told_size b n d ≡ Some x → x.size ≡ size
of_size size None x b n d h e = cc
of_size size (Some s) x b n d h e = ap (λ (y : Agreed). y.size) (agreed_is _ x e) ∙ h s refl
  where
    agreed_is : (one other : Agreed) → Some one ≡ Some other → other ≡ one
    agreed_is one other e = cc

-- the steps of one reply more
export_more : (size : ℕ) (o : Bool) (v : Option End) (replies : List Told) (p : Phase) (earlier : List AgreedStep) (x : Agreed) → ((s : Size) → size_of_replies replies ≡ Some s → s.size ≡ size) → ((y : Agreed) → export earlier ≡ Some y → y.size ≡ size) →
    export (answer_steps o v replies p ++ earlier) ≡ Some x → x.size ≡ size
export_more size o None replies p earlier x h k e = k x e
export_more size o (Some end) replies phase.Greeting earlier x h k e = k x e
export_more size o (Some end) replies phase.AskedByName earlier x h k e = k x e
export_more size o (Some end) replies phase.OptMode earlier x h k e = k x e
export_more size o (Some end) replies phase.Ready earlier x h k e = k x e
export_more size o (Some end) replies (phase.Refused code) earlier x h k e = k x e
export_more size o (Some end) replies (phase.Asked option) earlier x h k e = go (is_info option && is_acknowledged end) e
  where
    go : (b : Bool) → (if b then export_of (size_of_replies replies) (blocks_told replies) (name_told replies) (description_told replies) else export earlier) ≡ Some x → x.size ≡ size
    go true e = of_size size (size_of_replies replies) x (blocks_told replies) (name_told replies) (description_told replies) h e
    go false e = k x e

export_fair : (size : ℕ) (turns : List Turn) (x : Agreed) → AreFair size turns → export (steps turns) ≡ Some x → x.size ≡ size
export_fair size [] x f e = absurd f
export_fair size (Hello ∷ before) x f e = export_fair size before x f e
export_fair size (Replied told ∷ before) x f e = export_more size (opt_mode before) (end_of told) (under_way before) (phase before) (steps before) x (λ s. under_fair size before s f.1) (λ y. export_fair size before y f.1) e
export_fair size (ByName n flags ∷ before) x f e = of_size size (Some (record { size = n; flags = flags })) x None None None (λ s is. (let same : record { size = n; flags = flags } ≡ s = cc in ap (λ (y : Size). y.size) (sym same)) ∙ f.0) e
export_fair size (Set one ∷ before) x f e =
    let none : export (steps (Set one ∷ before)) ≡ None = ap (λ (o : event.Setting). export (steps (Set o ∷ before))) f.0 ∙ ap (λ (ts : List Turn). export (steps (Set (event.OptMode true) ∷ ts))) f.1 in
    let bad : None ≡ Some x = sym none ∙ e in cc
export_fair size (Opted option ∷ before) x f e = export_fair size before x f e

size_fair : (size : ℕ) (p : Phase) (v : Option Agreed) (n : ℕ) → ((x : Agreed) → v ≡ Some x → x.size ≡ size) → size_at p v ≡ Some n → n ≡ size
size_fair size phase.Ready (Some x) n h e = let same : x.size ≡ n = cc in sym same ∙ h x refl
size_fair size phase.Ready None n h e = cc
size_fair size phase.Greeting v n h e = cc
size_fair size (phase.Asked option) v n h e = cc
size_fair size phase.AskedByName v n h e = cc
size_fair size phase.OptMode v n h e = cc
size_fair size (phase.Refused code) v n h e = cc

-- Before any call.

first_tie : (start : Export) (l : ℕ) → TieBoth start l [] (fresh_session offers).dialogue untold
first_tie start l = record {
  opened = inr (refl, refl, refl, λ g. cc);
  bytes = no_bytes;
  straight = refl;
  knows = λ taken kind h e. absurd h;
  waits = tt;
  ready = inl refl;
  begun = λ taken h. absurd h;
  stands = inr (record {
    rest = Greets ∷ [];
    awaits = record {
      open_ = refl;
      sound = record { fair = (refl, refl); filed = λ c. inl refl; named = λ ready. cc };
      flags = inl refl;
      knows = λ taken kind h e. absurd h;
      expects = refl;
    };
    left = sym (append-nil (row (hello 3)));
    part = full_said Greets;
  });
}

-- One call after another.

delivers_start : (b : Bool) (step : Turn_of) (offered : ℕ) (hosted : Hosted) (before : Link) (answer : WriteTold) (after_ : Link) (end : Hosted) → DeliversIf b step offered hosted before answer after_ end → end.start ≡ hosted.start
delivers_start true step offered hosted before (Sent bytes) after_ end d = ap (λ (h : Hosted). h.start) d.holds
delivers_start true step offered hosted before Full after_ end d = absurd d
delivers_start true step offered hosted before WriteFault after_ end d = absurd d
delivers_start false step offered hosted before answer after_ end d = ap (λ (h : Hosted). h.start) d.2

set_start : (exports : List Hosted) (k : ℕ) (hosted : Hosted) → hosted.start ≡ (export_in exports k).start → (q : ℕ) → (export_in (slice_set exports k hosted) q).start ≡ (export_in exports q).start
set_start [] k hosted e q = refl
set_start (x ∷ exports) zero hosted e zero = e
set_start (x ∷ exports) zero hosted e (suc q) = refl
set_start (x ∷ exports) (suc k) hosted e zero = refl
set_start (x ∷ exports) (suc k) hosted e (suc q) = set_start exports k hosted e q

-- the bytes at the start stay
pub record SameStart (before after_ : List Hosted) : Type 0 where
  pub count : length after_ ≡ length before
  pub start : (q : ℕ) → (export_in after_ q).start ≡ (export_in before q).start

same_start : (before after_ : List Hosted) → after_ ≡ before → SameStart before after_
same_start before after_ e = record { count = ap length e; start = λ q. ap (λ (es : List Hosted). (export_in es q).start) e }

writes_start : (opened : Bool) (step : Turn_of) (exports : List Hosted) (links : List Link) (k offered : ℕ) (answer : WriteTold) (exports' : List Hosted) (after_ : List Link) → WritesIf opened step exports links k offered answer exports' after_ → SameStart exports exports'
writes_start true step exports links k offered answer exports' after_ w = record {
  count = ap length w.holds ∙ length-set exports (link_in links k).place w.hosted;
  start = λ q. ap (λ (es : List Hosted). (export_in es q).start) w.holds ∙ set_start exports (link_in links k).place w.hosted (delivers_start _ step offered _ (link_in links k) answer w.link w.hosted w.delivers) q;
}
writes_start false step exports links k offered answer exports' after_ w = same_start exports exports' w.1

plays_start : (before after_ : Network) (call : Call) → Plays before call after_ → SameStart before.exports after_.exports
plays_start before after_ (Connect to (Some l)) p = same_start before.exports after_.exports (ap (λ (n : Network). n.exports) p.is)
plays_start before after_ (Connect to None) p = same_start before.exports after_.exports (ap (λ (n : Network). n.exports) p.1)
plays_start before after_ (Listen at listener) p = same_start before.exports after_.exports (ap (λ (n : Network). n.exports) p.1)
plays_start before after_ (Accept listener answer) p = same_start before.exports after_.exports (ap (λ (n : Network). n.exports) p.1)
plays_start before after_ (Read k room answer) p = same_start before.exports after_.exports (ap (λ (n : Network). n.exports) p.is)
plays_start before after_ (Write k offered answer) p = subst (λ (es : List Hosted). SameStart before.exports es) (sym (ap (λ (n : Network). n.exports) p.is)) (writes_start (link_in before.links k).opened _ before.exports before.links k offered answer p.exports p.links p.writes)
plays_start before after_ (Pause wants) p = same_start before.exports after_.exports (ap (λ (n : Network). n.exports) p)
plays_start before after_ (Shut l) p = same_start before.exports after_.exports (ap (λ (n : Network). n.exports) p)

module _ (first : Network) (begins : Begins first) (place : ℕ) (there : place < length first.exports) (servable : IsServable (export_in first.exports place).export) where
  abbrev pub start : Export
  start = (export_in first.exports place).export

  abbrev pub WorldAt : List Call → Network → Type 0
  WorldAt calls network = World place (export_in first.exports place).export servable (begins.truly place) calls network

  pub record Now (calls : List Call) (network : Network) : Type 0 where
    pub world : WorldAt calls network
    pub targets : Targets calls network
    pub same : SameStart first.exports network.exports

  first_now : Now [] first
  first_now = record {
    world = record {
      all = [];
      is = refl;
      right = tt;
      mine = λ l t h. absurd h;
      each = λ l own. subst (λ (ls : List Link). LinkTie place (export_in first.exports place).export servable (begins.truly place) [] l (link_in ls l).session untold) (sym begins.links) (record { offers_ = refl; tie = first_tie (export_in first.exports place).export l });
    };
    targets = targets_first first begins;
    same = same_start first.exports first.exports refl;
  }

  then_now : (calls : List Call) (before after_ : Network) (call : Call) → Now calls before → ((l : ℕ) → SaysWell l (after_calls l untold calls) call) → Plays before call after_ → Now (calls ++ call ∷ []) after_
  then_now calls before after_ call n well plays =
      let s = plays_start before after_ call plays in
      record {
        world = played_one place (export_in first.exports place).export servable (begins.truly place) calls before after_ call (omega (arith, there, n.same.count)) n.world well plays;
        targets = targets_then calls call before after_ plays n.targets;
        same = record { count = s.count ∙ n.same.count; start = λ q. s.start q ∙ n.same.start q };
      }

  pub all_now : (calls : List Call) (network : Network) → Played first calls network → ((l : ℕ) → SpeaksWell l calls) → Now calls network
  all_now calls network (None_yet _ _ none is) speaks = subst (λ (cs : List Call). Now cs network) (sym none) (subst (λ (n : Network). Now [] n) (sym is) first_now)
  all_now calls network (Then earlier _ before _ call played plays is) speaks =
      let split : (l : ℕ) → SpeaksWell l earlier × SaysWell l (after_calls l untold earlier) call = λ l. speaks_split l untold earlier call (subst (λ (cs : List Call). SpeaksWell l cs) is (speaks l)) in
      subst (λ (cs : List Call). Now cs network) (sym is) (then_now earlier before network call (all_now earlier before played (λ l. (split l).0)) (λ l. (split l).1) plays)

  -- What is told follows from it.

  module _ (calls : List Call) (network : Network) (n : Now calls network) where
    abbrev at : Place
    at = place_of (export_in network.exports place)

    name_is : (export_in network.exports place).export.name ≡ (export_in first.exports place).export.name
    name_is = ap (λ (e : Export). e.name) n.world.is ∙ (same_face (export_in first.exports place).export n.world.all n.world.right).2

    both_left : (a b : Bool) → a && b ≡ true → a ≡ true
    both_left true b e = refl
    both_left false b e = cc

    own_of : (l : ℕ) → is_of (place_of (export_in network.exports place)) calls l ≡ true → (l < length network.links) × ((link_in network.links l).place ≡ place)
    own_of l e = elim (cases_lt l (length network.links)) [
      | inl less ↦ (
          let to = is_target-true (export_in network.exports place).at (target_of l calls) (both_left (is_target (export_in network.exports place).at (target_of l calls)) _ e) in
          let both : Some (export_in network.exports (link_in network.links l).place).at ≡ Some (export_in network.exports place).at = sym (n.targets.to l less) ∙ to in
          (less, n.targets.apart (link_in network.links l).place place (n.targets.hosted l less) (omega (arith, there, n.same.count)) (some_target _ _ both)))
      | inr past ↦ (
          let to = is_target-true (export_in network.exports place).at (target_of l calls) (both_left (is_target (export_in network.exports place).at (target_of l calls)) _ e) in
          let bad : None ≡ Some (export_in network.exports place).at = sym (n.targets.none l past) ∙ to in cc)
    ]

    tie_of : (l : ℕ) → (l < length network.links) × ((link_in network.links l).place ≡ place) → LinkTie place (export_in first.exports place).export servable (begins.truly place) n.world.all l (link_in network.links l).session (after_calls l untold calls)
    tie_of l own = n.world.each l (inl own.1)

    sound_of : (l : ℕ) → (l < length network.links) × ((link_in network.links l).place ≡ place) → IsSound (export_in first.exports place).export.name (length (export_in first.exports place).export.bytes) n.world.all l (on_link l calls)
    sound_of l own = go (tie_of l own).tie.stands
      where
        go : (IsOver (export_in first.exports place).export.name (length (export_in first.exports place).export.bytes) n.world.all l (on_link l calls)
            ⊎ Stands (export_in first.exports place).export.name (length (export_in first.exports place).export.bytes) n.world.all l (after_calls l untold calls).read (link_in network.links l).session.dialogue.out (on_link l calls)) →
            IsSound (export_in first.exports place).export.name (length (export_in first.exports place).export.bytes) n.world.all l (on_link l calls)
        go (inl over) = over.1
        go (inr s) = s.awaits.sound

    only_some : {A : Type 0} (b : Bool) (v : Option A) (x : A) → only_if b v ≡ Some x → (b ≡ true) × (v ≡ Some x)
    only_some true v x e = (refl, e)
    only_some false v x e = cc

    of_it : (l : ℕ) (t : Taken) → Has (Took l t) n.world.all → is_of (place_of (export_in network.exports place)) calls l ≡ true
    of_it l t h =
        let own = n.world.mine l t h in
        let named = (sound_of l own).named ((tie_of l own).tie.begun t h) in
        ap (λ (v : Option Target). is_target (export_in network.exports place).at v && is_name (export_in network.exports place).export.name (name_asked (on_link l calls).wishes)) (n.targets.to l own.0 ∙ ap (λ (q : ℕ). Some (export_in network.exports q).at) own.1)
        ∙ ap (λ (b : Bool). b && is_name (export_in network.exports place).export.name (name_asked (on_link l calls).wishes)) (is_target-same (export_in network.exports place).at)
        ∙ ap (λ (v : Option (List ℕ)). is_name (export_in network.exports place).export.name v) named
        ∙ ap (λ (x : List ℕ). bytes_eq x (export_in first.exports place).export.name) name_is ∙ (bytes_eq-Decides (export_in first.exports place).export.name (export_in first.exports place).export.name).1 refl

    follows : Follows (export_in first.exports place).export (dealt_with (place_of (export_in network.exports place)) calls) n.world.all
    follows = record {
      sizes = λ l m e. let o = only_some (is_of (place_of (export_in network.exports place)) calls l) (size_told (on_link l calls)) m e in
          size_fair (length (export_in first.exports place).export.bytes) (phase (on_link l calls).heard.turns) (export (steps (on_link l calls).heard.turns)) m (λ x. export_fair (length (export_in first.exports place).export.bytes) (on_link l calls).heard.turns x (sound_of l (own_of l o.0)).fair) o.1;
      taken = λ l t k h e. let own = n.world.mine l t h in let a = (tie_of l own).tie.knows t k h e in (a.0, ap (λ (b : Bool). only_if b (asked_on (on_link l calls) t.request.cookie)) (of_it l t h) ∙ a.1, a.2);
      done_ = λ l c asks all a d.
          let o = only_some (is_of (place_of (export_in network.exports place)) calls l) (asked_on (on_link l calls) c) asks a in
          done_came n.world.all l (on_link l calls) (sound_of l (own_of l o.0)).filed c asks all o.1 (sym (ap (λ (b : Bool). if b then answered (on_link l calls) c else outcome.Unfinished) o.0) ∙ d);
      zero = λ l c asks all p a d z.
          let o = only_some (is_of (place_of (export_in network.exports place)) calls l) (asked_on (on_link l calls) c) asks a in
          zero_came n.world.all l (on_link l calls) (sound_of l (own_of l o.0)).filed c asks p o.1 (sym (ap (λ (b : Bool). b && told_zero (on_link l calls) c p) o.0) ∙ z);
    }

    honest : Honest (export_in network.exports place).start (dealt_with (place_of (export_in network.exports place)) calls) (export_in network.exports place).export.bytes
    honest = subst (λ (xs : List ℕ). Honest xs (dealt_with (place_of (export_in network.exports place)) calls) (export_in network.exports place).export.bytes) (sym (n.same.start place ∙ begins.start place))
        (subst (λ (e : Export). Honest (export_in first.exports place).export.bytes (dealt_with (place_of (export_in network.exports place)) calls) e.bytes) (sym n.world.is)
        (servers_are_honest (export_in first.exports place).export (dealt_with (place_of (export_in network.exports place)) calls) n.world.all (begins.truly place) n.world.right follows))

pub played_count : (first : Network) (calls : List Call) (network : Network) → Played first calls network → length network.exports ≡ length first.exports
played_count first calls network (None_yet _ _ none is) = ap (λ (n : Network). length n.exports) is
played_count first calls network (Then earlier _ before _ call played plays is) = (plays_start before network call plays).count ∙ played_count first earlier before played

-- an export that fits the wire did so at the start
pub servable_first : (first : Network) (calls : List Call) (network : Network) (place : ℕ) → Played first calls network → IsServable (export_in network.exports place).export → IsServable (export_in first.exports place).export
servable_first first calls network place played servable = same_servable (export_in first.exports place).export (export_in network.exports place).export
    (face_back (export_in network.exports place).export (export_in first.exports place).export (played_face first calls network played place)) servable

pub served_is_honest : ServedIsHonest
served_is_honest calls network place came there servable speaks =
    honest came.first came.begins place less at_first calls network (all_now came.first came.begins place less at_first calls network came.played speaks)
  where
    less : place < length came.first.exports
    less = let n = played_count came.first calls network came.played in omega (arith, there, n)

    at_first : IsServable (export_in came.first.exports place).export
    at_first = servable_first came.first calls network place came.played servable

pub driven_served_is_honest : {K : Type 0} → DrivenServedIsHonest K
driven_served_is_honest calls network place came there servable driven = served_is_honest calls network place came there servable (λ link. driven_speak_well link calls (driven link))

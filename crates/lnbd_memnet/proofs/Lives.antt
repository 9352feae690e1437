-- What a link's session took and gave, call by call.
use Rattle.std.proofs.Common.{◌≡◌, ℕ, zero, suc, ◌<◌, Bool, true, false, List, [], ◌∷◌, ◌++◌, Some, None, length, take, slice_set, get_or-set_same, get_or-set_other, refl, ap, sym, subst, ◌∙◌, arith, inl, inr, ◌==◌, nat_lt, if◌then◌else◌, append-nil}
use Rattle.std.proofs.lemmas.Bool.{cases_eq, cases_lt, eq-eqb, ne_eqb}
use Rattle.std.proofs.lemmas.Bool.Decides.{nat_tests}
use Rattle.std.proofs.lemmas.List.{get_or_past}
use Rattle.lnbd_link.specs.declared.wires.Want.{Want}
use Rattle.lnbd_link.specs.Call.{Call, Connect, Listen, Accept, Read, Write, Pause, Shut, ReadTold, Moved, Unready, Ended, WriteTold, Sent, Full, WriteFault}
use Rattle.lnbd_link.specs.Room.{moved_by, sent_by}
use Rattle.lnbd_link.specs.Traffic.{came_by, went_by, bytes_read, bytes_written}
use Rattle.lnbd_link.proofs.TrafficLemmas.{bytes_read-append, bytes_written-append}
use Rattle.lnbd_export.specs.Export.{Export}
use Rattle.lnbd_server.specs.Session.{Session, fresh}
use Rattle.lnbd_memnet.specs.declared.hosted.Hosted.{Hosted}
use Rattle.lnbd_memnet.specs.declared.link.Link.{Link}
use Rattle.lnbd_memnet.specs.declared.schedule.Step.{Step}
use Rattle.lnbd_memnet.specs.Network.{Network, offers, no_link, link_in, new_link}
use Rattle.lnbd_memnet.specs.Plays.{Plays, has_ended, Readies, share, told, GivesIf, ReadsIf, DeliversIf, WritesIf, due_at, all_due}
use Rattle.lnbd_memnet.specs.Wires.{Played, None_yet, Then, Came}
use Rattle.lnbd_memnet.specs.Laws.{Lived, Begins, Takes_more, Makes, Gives_more}

abbrev On : ℕ → List Call → List Link → Type 0
On n calls links = Lived (bytes_written n calls) (bytes_read n calls) (link_in links n).session

-- one call more, which wrote and read these bytes of the link
one_more : (n : ℕ) (calls : List Call) (call : Call) (session : Session) → Lived (bytes_written n calls ++ went_by n call) (bytes_read n calls ++ came_by n call) session → Lived (bytes_written n (calls ++ call ∷ [])) (bytes_read n (calls ++ call ∷ [])) session
one_more n calls call session l =
    subst (λ (w : List ℕ). Lived w (bytes_read n (calls ++ call ∷ [])) session) (sym (bytes_written-append n calls (call ∷ []) ∙ ap (λ (x : List ℕ). bytes_written n calls ++ x) (append-nil (went_by n call))))
    (subst (λ (r : List ℕ). Lived (bytes_written n calls ++ went_by n call) r session) (sym (bytes_read-append n calls (call ∷ []) ∙ ap (λ (x : List ℕ). bytes_read n calls ++ x) (append-nil (came_by n call)))) l)

-- nothing moved on the link, whose session is as it was
quiet : (n : ℕ) (calls : List Call) (call : Call) (before after : List Link) → went_by n call ≡ [] → came_by n call ≡ [] → (link_in after n).session ≡ (link_in before n).session → On n calls before → On n (calls ++ call ∷ []) after
quiet n calls call before after w r same l =
    one_more n calls call (link_in after n).session
    (subst (λ (x : List ℕ). Lived (bytes_written n calls ++ x) (bytes_read n calls ++ came_by n call) (link_in after n).session) (sym w)
    (subst (λ (x : List ℕ). Lived (bytes_written n calls ++ []) (bytes_read n calls ++ x) (link_in after n).session) (sym r)
    (subst (λ (x : List ℕ). Lived x (bytes_read n calls ++ []) (link_in after n).session) (sym (append-nil (bytes_written n calls)))
    (subst (λ (x : List ℕ). Lived (bytes_written n calls) x (link_in after n).session) (sym (append-nil (bytes_read n calls)))
    (subst (λ (s : Session). Lived (bytes_written n calls) (bytes_read n calls) s) (sym same) l)))))

set_session : (links : List Link) (k : ℕ) (link : Link) → link.session ≡ (link_in links k).session → (n : ℕ) → (link_in (slice_set links k link) n).session ≡ (link_in links n).session
set_session [] k link e n = refl
set_session (l ∷ links) zero link e zero = e
set_session (l ∷ links) zero link e (suc n) = refl
set_session (l ∷ links) (suc k) link e zero = refl
set_session (l ∷ links) (suc k) link e (suc n) = set_session links k link e n

all_due_session : (wants : List Want) (links : List Link) (n : ℕ) → (link_in (all_due wants links) n).session ≡ (link_in links n).session
all_due_session [] links n = refl
all_due_session (want ∷ wants) links n = all_due_session wants (due_at want.link links) n ∙ set_session links want.link _ refl n

pushed_session : (links : List Link) (place n : ℕ) → (link_in (links ++ new_link place ∷ []) n).session ≡ (link_in links n).session
pushed_session [] place zero = refl
pushed_session [] place (suc n) = refl
pushed_session (l ∷ links) place zero = refl
pushed_session (l ∷ links) place (suc n) = pushed_session links place n

-- a link that is open is there
opened_there : (links : List Link) (k : ℕ) → (link_in links k).opened ≡ true → k < length links
opened_there links k is = elim (cases_lt k (length links)) [
  | inl less ↦ less
  | inr past ↦ let none : (link_in links k).opened ≡ false = ap (λ (l : Link). l.opened) (get_or_past links k no_link (omega arith)) in absurd (cc (none, is))
]

-- what is read is what goes out
moved_told : (n : ℕ) (session : Session) → moved_by (told n session) ≡ take n session.dialogue.out
moved_told zero session = go (has_ended session.dialogue.stage)
  where
    go : (b : Bool) → moved_by (if b then Ended else Unready) ≡ []
    go true = refl
    go false = refl
moved_told (suc n) session =
    let moves : nat_lt 0 (suc n) ≡ true = grind (arith, nat_tests) in
    ap (λ (b : Bool). moved_by (if b then Moved (take (suc n) session.dialogue.out) else if has_ended session.dialogue.stage then Ended else Unready)) moves

readied : (b : Bool) (took gave : List ℕ) (before after : Session) (pick : ℕ) (export : Export) → Readies b before pick export after → Lived took gave before → Lived took gave after
readied true took gave before after pick export r l = Makes took gave before after _ export l r
readied false took gave before after pick export r l = subst (λ (s : Session). Lived took gave s) (sym r) l

gives_lived : (b : Bool) (step : Step) (room : ℕ) (export : Export) (before : Link) (answer : ReadTold) (after : Link) (took gave : List ℕ) → GivesIf b step room export before answer after → Lived took gave before.session → Lived took (gave ++ moved_by answer) after.session
gives_lived true step room export before answer after took gave g l =
    let all : gave ++ moved_by answer ≡ gave ++ take (share step room g.ready) g.ready.dialogue.out =
    ap (λ (x : List ℕ). gave ++ x) (ap moved_by g.answers ∙ moved_told (share step room g.ready) g.ready) in
    Gives_more took gave (gave ++ moved_by answer) g.ready after.session (share step room g.ready) (readied _ took gave before.session g.ready _ export g.readies l) (ap (λ (x : Link). x.session) g.is) all
gives_lived false step room export before answer after took gave g l =
    subst (λ (a : ReadTold). Lived took (gave ++ moved_by a) after.session) (sym g.0)
    (subst (λ (x : List ℕ). Lived took x after.session) (sym (append-nil gave)) (subst (λ (s : Session). Lived took gave s) (sym (ap (λ (x : Link). x.session) g.1)) l))

delivers_lived : (b : Bool) (step : Step) (offered : ℕ) (hosted : Hosted) (before : Link) (answer : WriteTold) (after : Link) (end : Hosted) (took gave : List ℕ) → DeliversIf b step offered hosted before answer after end →
    Lived took gave before.session → Lived (took ++ sent_by answer) gave after.session
delivers_lived true step offered hosted before (Sent bytes) after end took gave d l =
    subst (λ (s : Session). Lived (took ++ bytes) gave s) (sym (ap (λ (x : Link). x.session) d.is)) (Takes_more took gave bytes (took ++ bytes) before.session d.session hosted.export d.export l d.takes refl)
delivers_lived true step offered hosted before Full after end took gave d l = absurd d
delivers_lived true step offered hosted before WriteFault after end took gave d l = absurd d
delivers_lived false step offered hosted before answer after end took gave d l =
    subst (λ (a : WriteTold). Lived (took ++ sent_by a) gave after.session) (sym d.0)
    (subst (λ (x : List ℕ). Lived x gave after.session) (sym (append-nil took)) (subst (λ (s : Session). Lived took gave s) (sym (ap (λ (x : Link). x.session) d.1)) l))

reads_lived : (opened : Bool) (step : Step) (exports : List Hosted) (links : List Link) (k room : ℕ) (answer : ReadTold) (after : List Link) (n : ℕ) (calls : List Call) → (link_in links k).opened ≡ opened →
    ReadsIf opened step exports links k room answer after → On n calls links → On n (calls ++ Read k room answer ∷ []) after
reads_lived false step exports links k room answer after n calls was r l =
    quiet n calls (Read k room answer) links after refl (go (k == n)) (ap (λ (ls : List Link). (link_in ls n).session) r.1) l
  where
    go : (b : Bool) → (if b then moved_by answer else []) ≡ []
    go true = ap moved_by r.0
    go false = refl
reads_lived true step exports links k room answer after n calls was r l = elim (cases_eq k n) [
  | inl e ↦
      let here : link_in after n ≡ r.link = ap (λ (ls : List Link). link_in ls n) r.is ∙ ap (λ (j : ℕ). link_in (slice_set links k r.link) j) (sym e) ∙ get_or-set_same links k r.link no_link (opened_there links k was) in
      let came : came_by n (Read k room answer) ≡ moved_by answer = ap (λ (b : Bool). if b then moved_by answer else []) (eq-eqb k n e) in
      let old : Lived (bytes_written n calls) (bytes_read n calls) (link_in links k).session = subst (λ (j : ℕ). Lived (bytes_written n calls) (bytes_read n calls) (link_in links j).session) (sym e) l in
      let new = gives_lived _ step room _ (link_in links k) answer r.link (bytes_written n calls) (bytes_read n calls) r.gives old in
      one_more n calls (Read k room answer) (link_in after n).session
      (subst (λ (x : Link). Lived (bytes_written n calls ++ []) (bytes_read n calls ++ came_by n (Read k room answer)) x.session) (sym here)
      (subst (λ (x : List ℕ). Lived (bytes_written n calls ++ []) (bytes_read n calls ++ x) r.link.session) (sym came)
      (subst (λ (x : List ℕ). Lived x (bytes_read n calls ++ moved_by answer) r.link.session) (sym (append-nil (bytes_written n calls))) new)))
  | inr ne ↦ quiet n calls (Read k room answer) links after refl (ap (λ (b : Bool). if b then moved_by answer else []) (ne_eqb k n ne))
      (ap (λ (ls : List Link). (link_in ls n).session) r.is ∙ ap (λ (x : Link). x.session) (get_or-set_other links k n r.link no_link (λ e. ne (sym e)))) l
]

writes_lived : (opened : Bool) (step : Step) (exports : List Hosted) (links : List Link) (k offered : ℕ) (answer : WriteTold) (exports' : List Hosted) (after : List Link) (n : ℕ) (calls : List Call) → (link_in links k).opened ≡ opened →
    WritesIf opened step exports links k offered answer exports' after → On n calls links → On n (calls ++ Write k offered answer ∷ []) after
writes_lived false step exports links k offered answer exports' after n calls was w l =
    quiet n calls (Write k offered answer) links after (go (k == n)) refl (ap (λ (ls : List Link). (link_in ls n).session) w.2) l
  where
    go : (b : Bool) → (if b then sent_by answer else []) ≡ []
    go true = ap sent_by w.0
    go false = refl
writes_lived true step exports links k offered answer exports' after n calls was w l = elim (cases_eq k n) [
  | inl e ↦
      let here : link_in after n ≡ w.link = ap (λ (ls : List Link). link_in ls n) w.is ∙ ap (λ (j : ℕ). link_in (slice_set links k w.link) j) (sym e) ∙ get_or-set_same links k w.link no_link (opened_there links k was) in
      let went : went_by n (Write k offered answer) ≡ sent_by answer = ap (λ (b : Bool). if b then sent_by answer else []) (eq-eqb k n e) in
      let old : Lived (bytes_written n calls) (bytes_read n calls) (link_in links k).session = subst (λ (j : ℕ). Lived (bytes_written n calls) (bytes_read n calls) (link_in links j).session) (sym e) l in
      let new = delivers_lived _ step offered _ (link_in links k) answer w.link w.hosted (bytes_written n calls) (bytes_read n calls) w.delivers old in
      one_more n calls (Write k offered answer) (link_in after n).session
      (subst (λ (x : Link). Lived (bytes_written n calls ++ went_by n (Write k offered answer)) (bytes_read n calls ++ []) x.session) (sym here)
      (subst (λ (x : List ℕ). Lived (bytes_written n calls ++ x) (bytes_read n calls ++ []) w.link.session) (sym went)
      (subst (λ (x : List ℕ). Lived (bytes_written n calls ++ sent_by answer) x w.link.session) (sym (append-nil (bytes_read n calls))) new)))
  | inr ne ↦ quiet n calls (Write k offered answer) links after (ap (λ (b : Bool). if b then sent_by answer else []) (ne_eqb k n ne)) refl
      (ap (λ (ls : List Link). (link_in ls n).session) w.is ∙ ap (λ (x : Link). x.session) (get_or-set_other links k n w.link no_link (λ e. ne (sym e)))) l
]

lived_then : (n : ℕ) (calls : List Call) (call : Call) (before after : Network) → Plays before call after → On n calls before.links → On n (calls ++ call ∷ []) after.links
lived_then n calls (Connect to (Some link)) before after p l =
    quiet n calls (Connect to (Some link)) before.links after.links refl refl (ap (λ (x : Network). (link_in x.links n).session) p.is ∙ pushed_session before.links p.place n) l
lived_then n calls (Connect to None) before after p l = quiet n calls (Connect to None) before.links after.links refl refl (ap (λ (x : Network). (link_in x.links n).session) p.1) l
lived_then n calls (Listen at listener) before after p l = quiet n calls (Listen at listener) before.links after.links refl refl (ap (λ (x : Network). (link_in x.links n).session) p.1) l
lived_then n calls (Accept listener answer) before after p l = quiet n calls (Accept listener answer) before.links after.links refl refl (ap (λ (x : Network). (link_in x.links n).session) p.1) l
lived_then n calls (Read link room answer) before after p l =
    subst (λ (ls : List Link). On n (calls ++ Read link room answer ∷ []) ls) (sym (ap (λ (x : Network). x.links) p.is)) (reads_lived _ _ _ before.links link room answer p.links n calls refl p.reads l)
lived_then n calls (Write link offered answer) before after p l =
    subst (λ (ls : List Link). On n (calls ++ Write link offered answer ∷ []) ls) (sym (ap (λ (x : Network). x.links) p.is)) (writes_lived _ _ _ before.links link offered answer p.exports p.links n calls refl p.writes l)
lived_then n calls (Pause wants) before after p l =
    quiet n calls (Pause wants) before.links after.links refl refl (ap (λ (x : Network). (link_in x.links n).session) p ∙ all_due_session wants before.links n) l
lived_then n calls (Shut link) before after p l =
    quiet n calls (Shut link) before.links after.links refl refl (ap (λ (x : Network). (link_in x.links n).session) p ∙ set_session before.links link _ refl n) l

played_lived : (n : ℕ) (start : Network) (calls : List Call) (network : Network) → start.links ≡ [] → Played start calls network → On n calls network.links
played_lived n start _ _ none (None_yet calls network e f) =
    subst (λ (cs : List Call). On n cs network.links) (sym e) (subst (λ (ls : List Link). On n [] ls) (sym (ap (λ (x : Network). x.links) f ∙ none)) (Begins [] [] (fresh offers) refl refl refl))
played_lived n start _ _ none (Then calls all before after call earlier plays e) =
    subst (λ (cs : List Call). On n cs after.links) (sym e) (lived_then n calls call before after plays (played_lived n start calls before none earlier))

pub links_are_sessions : (calls : List Call) (network : Network) (n : ℕ) → Came calls network → On n calls network.links
links_are_sessions calls network n came = played_lived n came.first calls network came.begins.links came.played

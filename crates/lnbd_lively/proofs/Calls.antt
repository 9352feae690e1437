-- Call by call: while the session behind a link isn't at its end, nothing that was asked on it is lost.
use Rattle.std.proofs.Common.{◌≡◌, ℕ, zero, suc, ◌<◌, ◌≤◌, ◌%◌, ◌⊎◌, inl, inr, Bool, true, false, ◌&&◌, List, [], ◌∷◌, ◌++◌, length, take, drop, Some, None, ◌==◌, nat_lt, refl, ap, sym, subst, ◌∙◌, arith, if◌then◌else◌, get_or-set_same, get_or-set_other, length-append, append-nil}
use Rattle.std.proofs.lemmas.Bool.{cases_eq, cases_lt, eq-eqb, ne_eqb}
use Rattle.std.proofs.lemmas.Bool.Decides.{nat_tests}
use Rattle.std.proofs.lemmas.List.{take-append-drop, length-set}
use Rattle.std.proofs.lemmas.Nat.{mod_below}
use Rattle.lnbd_model.specs.declared.state.Cause.TheVariants as cause
use Rattle.lnbd_history.specs.declared.kinds.Stage.{Stage}
use Rattle.lnbd_history.specs.History.{failed_at}
use Rattle.lnbd_link.specs.Call.{Call, Connect, Listen, Accept, Read, Write, Pause, Shut, ReadTold, Moved, Unready, Ended, WriteTold, Sent, Full, WriteFault}
use Rattle.lnbd_asked.specs.Link.{Both, with_heard, after_read, after_write, after_fault}
use Rattle.lnbd_asked.specs.Transcript.{after_call, after_calls, after_read_told, after_write_told, untold}
use Rattle.lnbd_asked.specs.Laws.{is_on}
use Rattle.lnbd_asked.proofs.Calls.{calls_follow, others_pass}
use Rattle.lnbd_export.specs.Export.{Export}
use Rattle.lnbd_export.specs.Requests.{is_extended}
use Rattle.lnbd_server.specs.Session.{Session, Dialogue, is_closed}
use Rattle.lnbd_memnet.specs.declared.hosted.Hosted.{Hosted}
use Rattle.lnbd_memnet.specs.declared.link.Link.{Link}
use Rattle.lnbd_memnet.specs.declared.schedule.Step.{Step as Turn}
use Rattle.lnbd_memnet.specs.Network.{Network, no_link, link_in, export_in, new_link}
use Rattle.lnbd_memnet.specs.Schedule.{step_at}
use Rattle.lnbd_memnet.specs.Plays.{Plays, has_to_answer, Readies, has_ended, share, told, given, GivesIf, ReadsIf, DeliversIf, WritesIf, all_due, shut_at}
use Rattle.lnbd_memnet.specs.Wires.{Begins, Played, None_yet, Then}
use Rattle.lnbd_spoken.specs.Speaking.{SaysWell, SpeaksWell}
use Rattle.lnbd_served.specs.Served.{IsServable}
use Rattle.lnbd_served.specs.Steps.{Step, after, AllRight}
use Rattle.lnbd_served.proofs.Items.{Greets, encode}
use Rattle.lnbd_served.proofs.Hosting.{TieBoth}
use Rattle.lnbd_served.proofs.Linking.{full_said}
use Rattle.lnbd_served.proofs.Worlds.{SameLinks, same_links, same_then, set_same, set_place, due_same, gives_place, delivers_place, opened_there, pushed_session, pushed_before, speaks_split, World}
use Rattle.lnbd_served.proofs.Honest.{all_now}
use Rattle.lnbd_lively.proofs.Owing.{IsAt, dies, heard_at}
use Rattle.lnbd_lively.proofs.Hearing.{Goes, write_goes, reply_goes}

module _ (first : Network) (begins : Begins first) (place : ℕ) (there : place < length first.exports) (servable : IsServable (export_in first.exports place).export) (n : ℕ) where
  abbrev start : Export
  start = (export_in first.exports place).export

  abbrev pub IsLive : Dialogue → Both → Type 0
  IsLive dialogue both = Goes (export_in first.exports place).export servable (begins.truly place) n dialogue both

  abbrev IsTied : List Step → Dialogue → Both → Type 0
  IsTied all dialogue both = TieBoth (export_in first.exports place).export n all dialogue both

  -- a link to this export, or none yet
  abbrev pub IsOwn : List Link → Type 0
  IsOwn links = ((link_in links n).place ≡ place) ⊎ (length links ≤ n)

  -- The link's end.

  fault_lives : (dialogue : Dialogue) (both : Both) → IsLive dialogue both → IsLive dialogue (after_fault both)
  fault_lives dialogue both live open_ = go (live open_)
    where
      go : IsAt (length (export_in first.exports place).export.bytes) dialogue.waiting dialogue.stage (is_extended dialogue.agreed.replies) both.read dialogue.out both.link → IsAt (length (export_in first.exports place).export.bytes) dialogue.waiting dialogue.stage (is_extended dialogue.agreed.replies) (after_fault both).read dialogue.out (after_fault both).link
      go (inl over) = subst (λ (s : Stage). IsAt (length (export_in first.exports place).export.bytes) dialogue.waiting dialogue.stage (is_extended dialogue.agreed.replies) (with_heard both (failed_at s both.link.requests (record { known = both.link.heard; pending = both.read }))).read dialogue.out
          (with_heard both (failed_at s both.link.requests (record { known = both.link.heard; pending = both.read }))).link) (sym over.0.1) (inl over)
      go (inr s) = subst (λ (x : Stage). IsAt (length (export_in first.exports place).export.bytes) dialogue.waiting dialogue.stage (is_extended dialogue.agreed.replies) (with_heard both (failed_at x both.link.requests (record { known = both.link.heard; pending = both.read }))).read dialogue.out
          (with_heard both (failed_at x both.link.requests (record { known = both.link.heard; pending = both.read }))).link) (sym s.awaits.open_) (inl (dies cause.LinkFailed both.link))

  -- Reads.

  -- some of the bytes that wait are read
  heard_lives : (dialogue : Dialogue) (both : Both) (k : ℕ) → IsLive dialogue both → IsLive (record dialogue { out = drop k dialogue.out }) (after_read (take k dialogue.out) both)
  heard_lives dialogue both k live open_ =
      heard_at (length (export_in first.exports place).export.bytes) dialogue.waiting dialogue.stage (is_extended dialogue.agreed.replies) both.link both.read (take k dialogue.out) (drop k dialogue.out)
      (subst (λ (out : List ℕ). IsAt (length (export_in first.exports place).export.bytes) dialogue.waiting dialogue.stage (is_extended dialogue.agreed.replies) both.read out both.link) (sym (take-append-drop k dialogue.out)) (live open_))

  both_closed : (a b : Bool) → a && b ≡ true → a ≡ true
  both_closed true b e = refl
  both_closed false b e = cc

  told_lives : (ready : Session) (both : Both) (k : ℕ) → IsLive ready.dialogue both → IsLive (given k ready).dialogue (after_read_told (told k ready) both)
  told_lives ready both zero live = go (has_ended ready.dialogue.stage) refl
    where
      go : (b : Bool) → has_ended ready.dialogue.stage ≡ b → IsLive ready.dialogue (after_read_told (if b then Ended else Unready) both)
      go true e = λ open_. absurd (let nay : true ≡ false = sym (both_closed (is_closed ready.dialogue.stage) _ e) ∙ open_ in cc)
      go false e = live
  told_lives ready both (suc k) live =
      let moves : nat_lt 0 (suc k) ≡ true = grind (arith, nat_tests) in
      subst (λ (b : Bool). IsLive (given (suc k) ready).dialogue (after_read_told (if b then Moved (take (suc k) ready.dialogue.out) else if has_ended ready.dialogue.stage then Ended else Unready) both)) (sym moves) (heard_lives ready.dialogue both (suc k) live)

  positive : (a b : Bool) → a && b ≡ true → b ≡ true
  positive true b e = e
  positive false b e = cc

  -- a pending reply was made, or nothing
  readied_lives : (all : List Step) (before : Session) (pick : ℕ) (export : Export) (ready : Session) (both : Both) → IsTied all before.dialogue both → IsLive before.dialogue both → (b : Bool) → has_to_answer before ≡ b → Readies b before pick export ready → IsLive ready.dialogue both
  readied_lives all before pick export ready both t live false e r = subst (λ (s : Session). IsLive s.dialogue both) (sym r) live
  readied_lives all before pick export ready both t live true e r =
      let some : nat_lt 0 (length before.dialogue.waiting) ≡ true = positive (length before.dialogue.out == 0) (nat_lt 0 (length before.dialogue.waiting)) e in
      let less : 0 < length before.dialogue.waiting = grind (arith, nat_tests) in
      reply_goes (export_in first.exports place).export servable (begins.truly place) n all before.dialogue (pick % length before.dialogue.waiting) export ready.dialogue both (mod_below pick (length before.dialogue.waiting) less) r.replies t live

  gives_lives : (all : List Step) (b : Bool) (step : Turn) (room : ℕ) (export : Export) (before : Link) (answer : ReadTold) (after_ : Link) (both : Both) → IsTied all before.session.dialogue both → IsLive before.session.dialogue both → GivesIf b step room export before answer after_ →
      IsLive after_.session.dialogue (after_read_told answer both)
  gives_lives all true step room export before answer after_ both t live g =
      subst (λ (a : ReadTold). IsLive after_.session.dialogue (after_read_told a both)) (sym g.answers) (subst (λ (x : Link). IsLive x.session.dialogue (after_read_told (told (share step room g.ready) g.ready) both)) (sym g.is)
      (told_lives g.ready both (share step room g.ready) (readied_lives all before.session step.pick export g.ready both t live (has_to_answer before.session) refl g.readies)))
  gives_lives all false step room export before answer after_ both t live g =
      subst (λ (a : ReadTold). IsLive after_.session.dialogue (after_read_told a both)) (sym g.0) (subst (λ (x : Link). IsLive x.session.dialogue both) (sym g.1) live)

  -- Calls.

  abbrev Live : List Call → Network → Type 0
  Live calls network = IsOwn network.links → IsLive (link_in network.links n).session.dialogue (after_calls n untold calls)

  called : (calls : List Call) (call : Call) → after_calls n untold (calls ++ call ∷ []) ≡ after_call n (after_calls n untold calls) call
  called calls call = calls_follow n untold calls (call ∷ [])

  -- by a call on the link
  here_lives : (calls : List Call) (call : Call) (network : Network) → (IsOwn network.links → IsLive (link_in network.links n).session.dialogue (after_call n (after_calls n untold calls) call)) → Live (calls ++ call ∷ []) network
  here_lives calls call network live own = subst (λ (b : Both). IsLive (link_in network.links n).session.dialogue b) (sym (called calls call)) (live own)

  -- by another call, which leaves the session
  off_lives : (calls : List Call) (call : Call) (before after_ : Network) → is_on n call ≡ false → (link_in after_.links n).session ≡ (link_in before.links n).session → (IsOwn after_.links → IsOwn before.links) → Live calls before → Live (calls ++ call ∷ []) after_
  off_lives calls call before after_ off same owns live = here_lives calls call after_ (λ own.
      subst (λ (b : Both). IsLive (link_in after_.links n).session.dialogue b) (sym (others_pass n (after_calls n untold calls) call off))
      (subst (λ (x : Session). IsLive x.dialogue (after_calls n untold calls)) (sym same) (live (owns own))))

  same_own : (before after_ : List Link) → length after_ ≡ length before → (link_in after_ n).place ≡ (link_in before n).place → IsOwn after_ → IsOwn before
  same_own before after_ count place_ (inl p) = inl (sym place_ ∙ p)
  same_own before after_ count place_ (inr past) = inr (omega (arith, past, count))

  quiet_lives : (calls : List Call) (call : Call) (before after_ : Network) → is_on n call ≡ false → SameLinks before.links after_.links → Live calls before → Live (calls ++ call ∷ []) after_
  quiet_lives calls call before after_ off same live = off_lives calls call before after_ off (same.session n) (same_own before.links after_.links same.count (same.place n)) live

  -- a link more
  pushed_own : (links : List Link) (q : ℕ) → IsOwn (links ++ new_link q ∷ []) → IsOwn links
  pushed_own links q (inr past) = inr (omega (arith, past, length-append links (new_link q ∷ [])))
  pushed_own links q (inl p) = elim (cases_lt n (length links)) [
    | inl less ↦ inl (sym (ap (λ (x : Link). x.place) (pushed_before links (new_link q) n less)) ∙ p)
    | inr past ↦ inr (omega (arith, past))
  ]

  off_it : (k : ℕ) → (n ≡ k → ⊥) → (k == n) ≡ false
  off_it k other = ne_eqb k n (λ e. other (sym e))

  read_on : (room : ℕ) (answer : ReadTold) (both : Both) → after_call n both (Read n room answer) ≡ after_read_told answer both
  read_on room answer both = ap (λ (b : Bool). if b then after_read_told answer both else both) (eq-eqb n n refl)

  write_on : (offered : ℕ) (answer : WriteTold) (both : Both) → after_call n both (Write n offered answer) ≡ after_write_told answer both
  write_on offered answer both = ap (λ (b : Bool). if b then after_write_told answer both else both) (eq-eqb n n refl)

  abbrev WorldOf : List Call → Network → Type 0
  WorldOf calls network = World place (export_in first.exports place).export servable (begins.truly place) calls network

  read_lives : (calls : List Call) (before after_ : Network) (k room : ℕ) (answer : ReadTold) → WorldOf calls before → Live calls before → (opened : Bool) → (link_in before.links k).opened ≡ opened → (step : Turn) → ReadsIf opened step before.exports before.links k room answer after_.links →
      Live (calls ++ Read k room answer ∷ []) after_
  read_lives calls before after_ k room answer w live false was step r =
      let same = same_links before.links after_.links r.1 in
      elim (cases_eq n k) [
        | inr other ↦ quiet_lives calls (Read k room answer) before after_ (off_it k other) same live
        | inl is ↦ subst (λ (m : ℕ). Live (calls ++ Read m room answer ∷ []) after_) is (here_lives calls (Read n room answer) after_ (λ own.
            subst (λ (b : Both). IsLive (link_in after_.links n).session.dialogue b) (sym (read_on room answer (after_calls n untold calls) ∙ ap (λ (a : ReadTold). after_read_told a (after_calls n untold calls)) r.0))
            (subst (λ (x : Session). IsLive x.dialogue (after_fault (after_calls n untold calls))) (sym (same.session n)) (fault_lives (link_in before.links n).session.dialogue (after_calls n untold calls) (live (same_own before.links after_.links same.count (same.place n) own))))))
      ]
  read_lives calls before after_ k room answer w live true was step r =
      let places : (m : ℕ) → (link_in after_.links m).place ≡ (link_in before.links m).place = λ m. ap (λ (ls : List Link). (link_in ls m).place) r.is ∙ set_place before.links k r.link (gives_place _ step room _ (link_in before.links k) answer r.link r.gives) m in
      let count : length after_.links ≡ length before.links = ap length r.is ∙ length-set before.links k r.link in
      elim (cases_eq n k) [
        | inr other ↦ off_lives calls (Read k room answer) before after_ (off_it k other) (ap (λ (ls : List Link). (link_in ls n).session) r.is ∙ ap (λ (y : Link). y.session) (get_or-set_other before.links k n r.link no_link other)) (same_own before.links after_.links count (places n)) live
        | inl is ↦ (
            let less = opened_there before.links k was in
            let here : link_in after_.links k ≡ r.link = ap (λ (ls : List Link). link_in ls k) r.is ∙ get_or-set_same before.links k r.link no_link less in
            let at : link_in after_.links n ≡ r.link = ap (λ (m : ℕ). link_in after_.links m) is ∙ here in
            subst (λ (m : ℕ). Live (calls ++ Read m room answer ∷ []) after_) is (here_lives calls (Read n room answer) after_ (λ own.
            let was_own = same_own before.links after_.links count (places n) own in
            subst (λ (b : Both). IsLive (link_in after_.links n).session.dialogue b) (sym (read_on room answer (after_calls n untold calls)))
            (subst (λ (y : Link). IsLive y.session.dialogue (after_read_told answer (after_calls n untold calls))) (sym at)
            (gives_lives w.all _ step room _ (link_in before.links k) answer r.link (after_calls n untold calls)
            (subst (λ (m : ℕ). IsTied w.all (link_in before.links m).session.dialogue (after_calls n untold calls)) is (w.each n was_own).tie)
            (subst (λ (m : ℕ). IsLive (link_in before.links m).session.dialogue (after_calls n untold calls)) is (live was_own)) r.gives)))))
      ]

  -- Writes.

  delivers_lives : (all : List Step) (b : Bool) (step : Turn) (offered : ℕ) (hosted : Hosted) (before : Link) (answer : WriteTold) (after_ : Link) (end : Hosted) (both : Both) → hosted.export ≡ after (export_in first.exports place).export all →
      AllRight (export_in first.exports place).export all → IsTied all before.session.dialogue both → IsLive before.session.dialogue both → SaysWell n both (Write n offered answer) → DeliversIf b step offered hosted before answer after_ end →
      IsLive after_.session.dialogue (after_write_told answer both)
  delivers_lives all true step offered hosted before (Sent bytes) after_ end both is right t live well d =
      subst (λ (x : Link). IsLive x.session.dialogue (after_write bytes both)) (sym d.is)
      (write_goes (export_in first.exports place).export servable (begins.truly place) n all before.session.offers before.session.came before.session.dialogue hosted.export bytes d.session.dialogue d.export both is right t d.are (well refl) d.takes.fed live)
  delivers_lives all true step offered hosted before Full after_ end both is right t live well d = absurd d
  delivers_lives all true step offered hosted before WriteFault after_ end both is right t live well d = absurd d
  delivers_lives all false step offered hosted before answer after_ end both is right t live well d =
      subst (λ (a : WriteTold). IsLive after_.session.dialogue (after_write_told a both)) (sym d.0) (subst (λ (x : Link). IsLive x.session.dialogue both) (sym d.1) live)

  write_lives : (calls : List Call) (before after_ : Network) (k offered : ℕ) (answer : WriteTold) → WorldOf calls before → Live calls before → SaysWell n (after_calls n untold calls) (Write k offered answer) → (opened : Bool) → (link_in before.links k).opened ≡ opened → (step : Turn) →
      WritesIf opened step before.exports before.links k offered answer after_.exports after_.links → Live (calls ++ Write k offered answer ∷ []) after_
  write_lives calls before after_ k offered answer w live well false was step r =
      let same = same_links before.links after_.links r.2 in
      elim (cases_eq n k) [
        | inr other ↦ quiet_lives calls (Write k offered answer) before after_ (off_it k other) same live
        | inl is ↦ subst (λ (m : ℕ). Live (calls ++ Write m offered answer ∷ []) after_) is (here_lives calls (Write n offered answer) after_ (λ own.
            subst (λ (b : Both). IsLive (link_in after_.links n).session.dialogue b) (sym (write_on offered answer (after_calls n untold calls) ∙ ap (λ (a : WriteTold). after_write_told a (after_calls n untold calls)) r.0))
            (subst (λ (x : Session). IsLive x.dialogue (after_fault (after_calls n untold calls))) (sym (same.session n)) (fault_lives (link_in before.links n).session.dialogue (after_calls n untold calls) (live (same_own before.links after_.links same.count (same.place n) own))))))
      ]
  write_lives calls before after_ k offered answer w live well true was step r =
      let places : (m : ℕ) → (link_in after_.links m).place ≡ (link_in before.links m).place = λ m. ap (λ (ls : List Link). (link_in ls m).place) r.is ∙ set_place before.links k r.link (delivers_place _ step offered _ (link_in before.links k) answer r.link r.hosted r.delivers) m in
      let count : length after_.links ≡ length before.links = ap length r.is ∙ length-set before.links k r.link in
      elim (cases_eq n k) [
        | inr other ↦ off_lives calls (Write k offered answer) before after_ (off_it k other) (ap (λ (ls : List Link). (link_in ls n).session) r.is ∙ ap (λ (y : Link). y.session) (get_or-set_other before.links k n r.link no_link other)) (same_own before.links after_.links count (places n)) live
        | inl is ↦ (
            let less = opened_there before.links k was in
            let here : link_in after_.links k ≡ r.link = ap (λ (ls : List Link). link_in ls k) r.is ∙ get_or-set_same before.links k r.link no_link less in
            let at : link_in after_.links n ≡ r.link = ap (λ (m : ℕ). link_in after_.links m) is ∙ here in
            subst (λ (m : ℕ). Live (calls ++ Write m offered answer ∷ []) after_) is (here_lives calls (Write n offered answer) after_ (λ own.
            let was_own = same_own before.links after_.links count (places n) own in
            subst (λ (b : Both). IsLive (link_in after_.links n).session.dialogue b) (sym (write_on offered answer (after_calls n untold calls)))
            (subst (λ (y : Link). IsLive y.session.dialogue (after_write_told answer (after_calls n untold calls))) (sym at)
            (delivers_lives w.all _ step offered (export_in before.exports (link_in before.links k).place) (link_in before.links k) answer r.link r.hosted (after_calls n untold calls)
            (ap (λ (p : ℕ). (export_in before.exports p).export) (own_place (subst (λ (m : ℕ). ((link_in before.links m).place ≡ place) ⊎ (length before.links ≤ m)) is was_own) less) ∙ w.is) w.right
            (subst (λ (m : ℕ). IsTied w.all (link_in before.links m).session.dialogue (after_calls n untold calls)) is (w.each n was_own).tie)
            (subst (λ (m : ℕ). IsLive (link_in before.links m).session.dialogue (after_calls n untold calls)) is (live was_own))
            (subst (λ (m : ℕ). SaysWell n (after_calls n untold calls) (Write m offered answer)) (sym is) well) r.delivers)))))
      ]
    where
      own_place : ((link_in before.links k).place ≡ place) ⊎ (length before.links ≤ k) → k < length before.links → (link_in before.links k).place ≡ place
      own_place (inl p) less = p
      own_place (inr past) less = absurd (omega (arith, past, less))

  -- One call after another.

  call_lives : (calls : List Call) (before after_ : Network) (call : Call) → WorldOf calls before → SaysWell n (after_calls n untold calls) call → Plays before call after_ → Live calls before → Live (calls ++ call ∷ []) after_
  call_lives calls before after_ (Connect to (Some l)) w well p live =
      let links : after_.links ≡ before.links ++ new_link p.place ∷ [] = ap (λ (x : Network). x.links) p.is in
      off_lives calls (Connect to (Some l)) before after_ refl (ap (λ (ls : List Link). (link_in ls n).session) links ∙ pushed_session before.links p.place n) (λ own. pushed_own before.links p.place (subst (λ (ls : List Link). IsOwn ls) links own)) live
  call_lives calls before after_ (Connect to None) w well p live = quiet_lives calls (Connect to None) before after_ refl (same_links before.links after_.links (ap (λ (x : Network). x.links) p.1)) live
  call_lives calls before after_ (Listen at listener) w well p live = quiet_lives calls (Listen at listener) before after_ refl (same_links before.links after_.links (ap (λ (x : Network). x.links) p.1)) live
  call_lives calls before after_ (Accept listener answer) w well p live = quiet_lives calls (Accept listener answer) before after_ refl (same_links before.links after_.links (ap (λ (x : Network). x.links) p.1)) live
  call_lives calls before after_ (Read k room answer) w well p live =
      read_lives calls before after_ k room answer w live (link_in before.links k).opened refl (step_at before.schedule before.turn) (subst (λ (ls : List Link). ReadsIf (link_in before.links k).opened (step_at before.schedule before.turn) before.exports before.links k room answer ls) (sym (ap (λ (x : Network). x.links) p.is)) p.reads)
  call_lives calls before after_ (Write k offered answer) w well p live =
      write_lives calls before after_ k offered answer w live well (link_in before.links k).opened refl (step_at before.schedule before.turn)
      (subst (λ (x : Network). WritesIf (link_in before.links k).opened (step_at before.schedule before.turn) before.exports before.links k offered answer x.exports x.links) (sym p.is) p.writes)
  call_lives calls before after_ (Pause wants) w well p live =
      quiet_lives calls (Pause wants) before after_ refl (same_then before.links (all_due wants before.links) after_.links (due_same wants before.links) (ap (λ (x : Network). x.links) p)) live
  call_lives calls before after_ (Shut l) w well p live =
      quiet_lives calls (Shut l) before after_ refl (same_then before.links (shut_at l before.links) after_.links (set_same before.links l (record (link_in before.links l) { opened = false }) refl refl) (ap (λ (x : Network). x.links) p)) live

  -- before any call: the hello waits
  first_lives : Live [] first
  first_lives own = subst (λ (ls : List Link). IsLive (link_in ls n).session.dialogue untold) (sym begins.links) (λ open_. inr (record {
    rest = Greets ∷ [];
    awaits = record { open_ = refl; fair = (refl, refl); flags = inl refl; expects = (refl, refl, refl); agrees = (refl, refl); knew = refl; goes = tt };
    left = sym (append-nil (encode Greets));
    part = full_said Greets;
  }))

  pub all_live : (calls : List Call) (network : Network) → Played first calls network → ((l : ℕ) → SpeaksWell l calls) → Live calls network
  all_live calls network (None_yet _ _ none is) speaks = subst (λ (cs : List Call). Live cs network) (sym none) (subst (λ (x : Network). Live [] x) (sym is) first_lives)
  all_live calls network (Then earlier _ before _ call played plays is) speaks =
      let split : (l : ℕ) → SpeaksWell l earlier × SaysWell l (after_calls l untold earlier) call = λ l. speaks_split l untold earlier call (subst (λ (cs : List Call). SpeaksWell l cs) is (speaks l)) in
      subst (λ (cs : List Call). Live cs network) (sym is)
      (call_lives earlier before network call (all_now first begins place there servable earlier before played (λ l. (split l).0)).world (split n).1 plays (all_live earlier before played (λ l. (split l).0)))

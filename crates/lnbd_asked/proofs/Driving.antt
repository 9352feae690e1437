-- A link says what the history says that drives it.
use Rattle.std.proofs.Common.{◌≡◌, ◌≢◌, ℕ, ◌≤◌, ◌<◌, Bool, true, false, List, [], ◌∷◌, ◌++◌, length, None, refl, ap, sym, subst, ◌∙◌, nat_le, arith, ◌⊎◌, inl, inr, if◌then◌else◌}
use Rattle.std.proofs.lemmas.Bool.{false≢true, eq-eqb, leb-true, leb-false}
use Rattle.std.specs.Option.{option_map}
use Rattle.lnbd_stream.specs.Stream.{Held}
use Rattle.lnbd_link.specs.Call.{Call, ReadTold, WriteTold, Read, Write, Moved, Unready, Ended, ReadFault, Sent, Full, WriteFault}
use Rattle.lnbd_history.specs.declared.kinds.Stage.TheVariants.{Created}
use Rattle.lnbd_history.specs.Agreement.{phase, steps, export, extended}
use Rattle.lnbd_history.specs.Answers.{is_living}
use Rattle.lnbd_history.specs.Entries.{own}
use Rattle.lnbd_history.specs.Events.{History, Wrote, Arrived, End, LinkFailed}
use Rattle.lnbd_history.specs.History.{asked, request, reading, change, with_answers}
use Rattle.lnbd_history.specs.Laws.{Lawful, is_closed}
use Rattle.lnbd_history.specs.Outgoing.{total}
use Rattle.lnbd_history.proofs.Cookies.{request_past, request_zero}
use Rattle.lnbd_asked.specs.Client.{Said}
use Rattle.lnbd_asked.specs.Driven.{Drives, Begins, Does, Passes, Writes, Writes_none, Reads, Reads_none, Arrives, Ends, Fails_to_read, Fails_to_write, DrivenSays, AllSpell, DrivenSaySo, written}
use Rattle.lnbd_asked.specs.InStep.{InStep}
use Rattle.lnbd_asked.specs.Link.{Link, Both, nothing, after_write, after_read, after_end, after_fault}
use Rattle.lnbd_asked.specs.Parts.{count}
use Rattle.lnbd_asked.specs.Transcript.{bare, outcome_of, size_at, size_told, zero_told, untold, after_call, after_calls, after_read_told, after_write_told}
use Rattle.lnbd_asked.proofs.Acting.{does_stands}
use Rattle.lnbd_asked.proofs.Alive.{Haggles, Transmits, Stands}
use Rattle.lnbd_asked.proofs.Calls.{calls_follow, others_pass, reads_join}
use Rattle.lnbd_asked.proofs.Chain.{Reaches}
use Rattle.lnbd_asked.proofs.Comes.{in_step_says_so}
use Rattle.lnbd_asked.proofs.Doing.{unheard_stands}
use Rattle.lnbd_asked.proofs.Ending.{ends_stand, fails_stand}
use Rattle.lnbd_asked.proofs.Feeding.{feed_stands}
use Rattle.lnbd_asked.proofs.Haggling.{unsized_by, untold_by}
use Rattle.lnbd_asked.proofs.Keeping.{reaches_requests}
use Rattle.lnbd_asked.proofs.Plain.{IsPlain, plain_before}
use Rattle.lnbd_asked.proofs.Sending.{Sends, sends_whole, sends_left}
use Rattle.lnbd_asked.proofs.Sides.{server_steady}
use Rattle.lnbd_asked.proofs.Writing.{write_stands}

-- the link, and the bytes that were read and show nothing yet
abbrev pub held_of : Both → Held Link
held_of both = record { known = both.link; pending = both.read }

-- A call more.

pub one_call : (link : ℕ) (calls after : List Call) (call : Call) → after ≡ calls ++ call ∷ [] → after_calls link untold after ≡ after_call link (after_calls link untold calls) call
one_call link calls after call e = ap (after_calls link untold) e ∙ calls_follow link untold calls (call ∷ [])

read_call : (link room : ℕ) (calls after : List Call) (answer : ReadTold) → after ≡ calls ++ Read link room answer ∷ [] → after_calls link untold after ≡ after_read_told answer (after_calls link untold calls)
read_call link room calls after answer e =
    one_call link calls after (Read link room answer) e ∙ ap (λ (b : Bool). if b then after_read_told answer (after_calls link untold calls) else after_calls link untold calls) (eq-eqb link link refl)

write_call : (link offered : ℕ) (calls after : List Call) (answer : WriteTold) → after ≡ calls ++ Write link offered answer ∷ [] → after_calls link untold after ≡ after_write_told answer (after_calls link untold calls)
write_call link offered calls after answer e =
    one_call link calls after (Write link offered answer) e ∙ ap (λ (b : Bool). if b then after_write_told answer (after_calls link untold calls) else after_calls link untold calls) (eq-eqb link link refl)

module _ {K : Type 0} where
  -- The link is as it is once the bytes that haven't arrived were read, and without them it is in step.
  pub record At (link : ℕ) (calls : List Call) (history : History K) (left : List ℕ) : Type 0 where
    pub before : Both
    pub there : after_calls link untold calls ≡ after_read left before
    pub stands : Stands history (reading history) (held_of before) before.written

  begins : (link : ℕ) → At link [] [] []
  begins link = record {
    before = untold;
    there = refl;
    stands = inl (record {
      front = [];
      asks = [];
      orders = [];
      v = record { known = nothing; pending = [] };
      sends = λ e r. record { parts_ = refl; wrote_ = refl; tail = []; coming = refl; part = refl };
      reach = refl;
      fresh = refl;
      settled = server_steady.none nothing;
      opened = tt;
      are = tt;
      bows = tt;
      greets = refl;
      pend = refl;
      options = refl;
      stands = inl (record {
        stage = inl refl;
        stage' = refl;
        started = λ c. refl;
        opts = λ l. refl;
        none = refl;
        none' = refl;
        filed = λ c. refl;
        filed' = refl;
        same = record { under = refl; steps = record { structured = refl; extended = refl; contexts = refl; export = refl }; opts = refl; plain = refl; narrow = refl; bare = refl };
        flags = refl;
        passed = refl;
        meets = (refl, refl, refl, refl);
        short = record { name = omega arith; few = omega arith; short = omega arith };
        counted = refl;
        orders_ = refl;
      });
    });
  }

  still_at : (link : ℕ) (calls after : List Call) (history : History K) (left : List ℕ) → after_calls link untold after ≡ after_calls link untold calls → At link calls history left → At link after history left
  still_at link calls after history left e at = record { before = at.before; there = e ∙ at.there; stands = at.stands }

  living_started : (history : History K) → is_living (reading history).known.stage ≡ true → (reading history).known.stage ≢ Created
  living_started history l c = false≢true (sym (ap is_living c) ∙ l)

  pub drives_at : (limit link : ℕ) (calls : List Call) (history : History K) (left : List ℕ) → Drives link calls history left → Lawful limit history → AllSpell history → is_closed history ≡ false → IsPlain history → At link calls history left
  drives_at limit link _ _ _ Begins lawful fits live plain = begins link
  drives_at limit link calls _ left (Does _ before _ event d inward) lawful fits live plain =
      let at = drives_at limit link calls before left d lawful.0 fits.1 lawful.1 (plain_before limit before event lawful.2 live plain) in
      record { before = at.before; there = at.there; stands = does_stands limit before event (held_of at.before) at.before.written lawful.2 fits.0 inward live plain at.stands }
  drives_at limit link after history left (Passes calls _ _ call _ d off is) lawful fits live plain =
      still_at link calls after history left (one_call link calls after call is ∙ others_pass link (after_calls link untold calls) call off) (drives_at limit link calls history left d lawful fits live plain)
  drives_at limit link after _ _ (Writes calls before offered bytes _ d front is) lawful fits live plain =
      let at = drives_at limit link calls before [] d lawful.0 fits.1 lawful.1 (plain_before limit before (Wrote (length bytes)) lawful.2 live plain) in
      record {
        before = after_write bytes at.before;
        there = write_call link offered calls after (Sent bytes) is ∙ ap (after_write bytes) at.there;
        stands = write_stands before (reading before) (held_of at.before) at.before.written bytes front at.stands;
      }
  drives_at limit link after history left (Writes_none calls _ _ offered _ d is) lawful fits live plain =
      still_at link calls after history left (write_call link offered calls after Full is) (drives_at limit link calls history left d lawful fits live plain)
  drives_at limit link after history more (Reads calls _ left room bytes _ _ d is joined) lawful fits live plain =
      let at = drives_at limit link calls history left d lawful fits live plain in
      record {
        before = at.before;
        there = read_call link room calls after (Moved bytes) is ∙ ap (after_read bytes) at.there ∙ reads_join at.before left bytes ∙ ap (λ bs. after_read bs at.before) (sym joined);
        stands = at.stands;
      }
  drives_at limit link after history left (Reads_none calls _ _ room _ d is) lawful fits live plain =
      still_at link calls after history left (read_call link room calls after Unready is) (drives_at limit link calls history left d lawful fits live plain)
  drives_at limit link calls _ left (Arrives _ before all bytes _ answers d joined) lawful fits live plain =
      let at = drives_at limit link calls before all d lawful.0 fits.1 lawful.1 (plain_before limit before (Arrived bytes answers) lawful.2 live plain) in
      let told = unheard_stands before before (reading before).known (with_answers answers (reading before).known) (reading before).pending (held_of at.before) at.before.written
      (record { issued = refl; wrote = refl; request = λ c. refl; stage = refl; turns = refl; parts = refl; flags = refl; passed = refl; own = λ c. refl }) at.stands in
      let fed = feed_stands before (change (with_answers answers) (reading before)) (held_of at.before) at.before.written bytes (living_started before lawful.2) told in
      record {
        before = after_read bytes at.before;
        there = at.there ∙ ap (λ bs. after_read bs at.before) joined ∙ sym (reads_join at.before bytes left);
        stands = unheard_stands before (Arrived bytes answers ∷ before) (reading (Arrived bytes answers ∷ before)).known (reading (Arrived bytes answers ∷ before)).known (reading (Arrived bytes answers ∷ before)).pending
            (held_of (after_read bytes at.before)) at.before.written
            (record { issued = refl; wrote = refl; request = λ c. refl; stage = refl; turns = refl; parts = refl; flags = refl; passed = refl; own = λ c. refl }) fed;
      }
  drives_at limit link after _ _ (Ends calls before room answers _ d living is) lawful fits live plain =
      let at = drives_at limit link calls before [] d lawful.0 fits.1 lawful.1 (plain_before limit before (End answers) lawful.2 live plain) in
      record {
        before = after_end at.before;
        there = read_call link room calls after Ended is ∙ ap after_end at.there;
        stands = ends_stand before (held_of at.before) at.before.written answers living at.stands;
      }
  drives_at limit link after _ _ (Fails_to_read calls before room answers _ d living is) lawful fits live plain =
      let at = drives_at limit link calls before [] d lawful.0 fits.1 lawful.1 (plain_before limit before (LinkFailed answers) lawful.2 live plain) in
      record {
        before = after_fault at.before;
        there = read_call link room calls after ReadFault is ∙ ap after_fault at.there;
        stands = fails_stand before (held_of at.before) at.before.written answers living at.stands;
      }
  drives_at limit link after _ _ (Fails_to_write calls before offered answers _ d living is) lawful fits live plain =
      let at = drives_at limit link calls before [] d lawful.0 fits.1 lawful.1 (plain_before limit before (LinkFailed answers) lawful.2 live plain) in
      record {
        before = after_fault at.before;
        there = write_call link offered calls after WriteFault is ∙ ap after_fault at.there;
        stands = fails_stand before (held_of at.before) at.before.written answers living at.stands;
      }

  -- What the link then says.

  none_asked : (history : History K) (link : Link) → (asked link.requests).issued ≡ 0 → (c : ℕ) → request link.requests c ≡ None
  none_asked history link e c = go (nat_le c 0) refl
    where
      go : (b : Bool) → nat_le c 0 ≡ b → request link.requests c ≡ None
      go true l = let z : c ≡ 0 = zero_is c (leb-true c 0 l) in ap (request link.requests) z ∙ request_zero link.requests
        where
          zero_is : (c : ℕ) → c ≤ 0 → c ≡ 0
          zero_is c l = omega (arith, l)
      go false l = request_past link.requests c (above c l)
        where
          above : (c : ℕ) → nat_le c 0 ≡ false → (asked link.requests).issued < c
          above c l = let m = leb-false c 0 l in omega (arith, m, e)

  -- where no request is wholly written
  says_nothing : (history : History K) (link : Link) → written history ≡ 0 → (asked link.requests).issued ≡ 0 →
      ((asked history).wrote ≡ total (reading history).known.parts → size_told link ≡ size_at (phase (reading history).known.turns) (export (steps (reading history).known.turns))) → DrivenSays history link
  says_nothing history link none none' size = record {
    requests = λ c. ap (option_map bare) (none_asked history link none' c) ∙ sym (asked_none c (nat_le c (written history)) refl);
    outcomes = λ c low.
        ap (λ a. outcome_of a (own c link.heard.entries)) (none_asked history link none' c) ∙ sym (ap (λ a. outcome_of a (own c (reading history).known.entries)) (first_none c low));
    size = size;
    zero = λ c p low.
        ap (λ a. zero_told a (own c link.heard.entries) p) (none_asked history link none' c) ∙ sym (ap (λ a. zero_told a (own c (reading history).known.entries) p) (first_none c low));
  }
    where
      first_none : (c : ℕ) → nat_le c (written history) ≡ true → request history c ≡ None
      first_none c low = let l = leb-true c (written history) low in ap (request history) (zero_is c (written history) l none) ∙ request_zero history
        where
          zero_is : (c n : ℕ) → c ≤ n → n ≡ 0 → c ≡ 0
          zero_is c n l e = omega (arith, l, e)

      asked_none : (c : ℕ) (b : Bool) → nat_le c (written history) ≡ b → (if nat_le c (written history) then option_map bare (request history c) else None) ≡ None
      asked_none c true low = ap (λ (b : Bool). if b then option_map bare (request history c) else None) low ∙ ap (option_map bare) (first_none c low)
      asked_none c false low = ap (λ (b : Bool). if b then option_map bare (request history c) else None) low

  says : (history : History K) (h : Held Link) (now : List ℕ) → Stands history (reading history) h now → DrivenSays history h.known
  says history h now (inr o) = says_nothing history h.known o.unwritten o.none' (λ w. o.untold ∙ sym (o.unsized (omega (arith, w))))
  says history h now (inl a) = go a.stands
    where
      whole_is : written history ≡ count a.front
      whole_is = sends_whole (extended (steps (reading history).known.turns)) (reading history).known.parts (asked history).wrote a.front (a.asks ++ a.orders) now (a.sends (extended (steps (reading history).known.turns)) (λ r. refl))

      in_step : InStep history (count a.front) (reading history).known h.known → DrivenSays history h.known
      in_step s =
          let so = in_step_says_so history (count a.front) (reading history).known h.known s in
          record {
            requests = λ c. so.requests c ∙ ap (λ n. if nat_le c n then option_map bare (request history c) else None) (sym whole_is);
            outcomes = λ c low. so.outcomes c (subst (λ n. nat_le c n ≡ true) whole_is low);
            size = λ w. so.size;
            zero = λ c p low. so.zero c p (subst (λ n. nat_le c n ≡ true) whole_is low);
          }

      still_left : (one : Said) (more : List Said) → a.asks ≡ one ∷ more → (asked history).wrote ≡ total (reading history).known.parts → ⊥
      still_left one more e w = sends_left (extended (steps (reading history).known.turns)) (reading history).known.parts (asked history).wrote a.front (more ++ a.orders) one now
          (subst (λ xs. Sends (extended (steps (reading history).known.turns)) (reading history).known.parts (asked history).wrote a.front (xs ++ a.orders) now) e (a.sends (extended (steps (reading history).known.turns)) (λ r. refl))) (omega (arith, w))

      haggling : (g : Haggles history (reading history).known a.v.known a.front a.orders) (asks : List Said) → a.asks ≡ asks → Reaches h asks a.v → DrivenSays history h.known
      haggling g [] e r = says_nothing history h.known (whole_is ∙ g.counted) (ap (λ k. (asked k.known.requests).issued) r ∙ ap (λ rs. (asked rs).issued) g.none')
          (λ w. ap (λ k. size_told k.known) r ∙ untold_by history (phase (reading history).known.turns) a.v.known g.meets ∙ sym (unsized_by history (phase (reading history).known.turns) a.v.known (reading history).known g.meets))
      haggling g (one ∷ more) e r = says_nothing history h.known (whole_is ∙ g.counted) (ap (λ rs. (asked rs).issued) (sym (reaches_requests h a.asks a.v a.are a.reach) ∙ g.none')) (λ w. absurd (still_left one more e w))

      transmitting : (t : Transmits history (reading history).known a.v.known a.front a.asks a.orders) (asks : List Said) → a.asks ≡ asks → Reaches h asks a.v → DrivenSays history h.known
      transmitting t [] e r = in_step (subst (λ k. InStep history (count a.front) (reading history).known k.known) (sym r) t.step)
      transmitting t (one ∷ more) e r =
          let quiet = quiet_now t.quiet in
          says_nothing history h.known (whole_is ∙ quiet) (ap (λ rs. (asked rs).issued) (sym (reaches_requests h a.asks a.v a.are a.reach)) ∙ t.step.requests.all ∙ quiet) (λ w. absurd (still_left one more e w))
        where
          quiet_now : (a.asks ≡ []) ⊎ (count a.front ≡ 0) → count a.front ≡ 0
          quiet_now (inl none) = let n = ap length (sym e ∙ none) in absurd (omega (arith, n))
          quiet_now (inr z) = z

      go : Haggles history (reading history).known a.v.known a.front a.orders ⊎ Transmits history (reading history).known a.v.known a.front a.asks a.orders → DrivenSays history h.known
      go (inl g) = haggling g a.asks refl a.reach
      go (inr t) = transmitting t a.asks refl a.reach

pub driven_say_so : {K : Type 0} → DrivenSaySo K
driven_say_so limit link calls history lawful fits live plain d =
    let at = drives_at limit link calls history [] d lawful fits live (λ n. plain) in
    subst (λ (both : Both). DrivenSays history both.link) (sym at.there) (says history (held_of at.before) at.before.written at.stands)

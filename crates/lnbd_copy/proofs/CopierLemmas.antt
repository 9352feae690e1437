-- From a copy's first connection to all that it makes.
use Rattle.std.proofs.Common.{◌≡◌, ◌≢◌, inr, ℕ, ◌+◌, ◌≤◌, Bool, true, false, not, List, [], length, Option, Some, None, Result, Ok, Err, IfOk, OnOk, if◌then◌else◌, refl, ap, sym, subst, ◌∙◌, arith}
use Rattle.std.proofs.lemmas.Bool.{false≢true}
use Rattle.lnbd_model.specs.declared.target.Place.{Place}
use Rattle.lnbd_link.specs.Call as wire
use Rattle.lnbd_plan.specs.declared.options.CopyOptions.{CopyOptions}
use Rattle.lnbd_poll.specs.Held.{Held}
use Rattle.lnbd_board.specs.declared.how.How.{How}
use Rattle.lnbd_board.specs.declared.row.Row.{Row}
use Rattle.lnbd_board.specs.declared.ticket.Ticket.{Ticket}
use Rattle.lnbd_board.specs.Files as board
use Rattle.lnbd_conduct.specs.declared.sides.Sides.{Sides}
use Rattle.lnbd_conduct.specs.declared.terms.Terms.{Terms}
use Rattle.lnbd_course.specs.Counted.{HasNotCounted}
use Rattle.lnbd_course.proofs.Placing.{agreeing_settles}
use Rattle.lnbd_copy.specs.Agreed.{Agrees, AreAgreed, IsWished}
use Rattle.lnbd_copy.specs.declared.job.Phase.TheVariants.{Copying}
use Rattle.lnbd_conduct.specs.Links.{AllConnected}
use Rattle.lnbd_copy.specs.Copier.{GoesFurther, HasMet, HasNotBegun, IsOnItsWay, Seen, beginning}
use Rattle.lnbd_copy.specs.Dealt.{AreDealt}
use Rattle.lnbd_copy.specs.Job as job
use Rattle.lnbd_conduct.specs.Terms.{IsLimited}
use Rattle.lnbd_copy.specs.Opening.{Dials, place_of}
use Rattle.lnbd_conduct.specs.Grounds.{AllAlike, Drove, IsShown}
use Rattle.lnbd_copy.specs.Firsts.{KnowBoth}
use Rattle.lnbd_conduct.specs.Told.{AtSome, Told}
use Rattle.lnbd_copy.specs.Ready.{MayGoOn}
use Rattle.lnbd_copy.specs.Settled.{HasTerms, HasSettled}
use Rattle.lnbd_conduct.specs.Settled.{AreSettledBy}
use Rattle.lnbd_conduct.specs.Answered.{FirstAgreedNone}
use Rattle.lnbd_copy.specs.Way.{Goes, IsOn, IsUnderWay, Stand, Way}
use Rattle.lnbd_conduct.specs.Sides.{is_source}
use Rattle.lnbd_copy.proofs.ConnectedLemmas.{connected_begins, connected_none, connected_then, goes_connected}
use Rattle.lnbd_copy.proofs.DialLemmas.{nothing_is_on, settled}
use Rattle.lnbd_copy.proofs.FiledLemmas.{filed_none, filed_then}
use Rattle.lnbd_copy.proofs.LastLemmas.{terms_later, lasts_none, lasts_then}
use Rattle.lnbd_copy.proofs.SpreadLemmas.{begins_dealt, begins_fit}
use Rattle.lnbd_copy.proofs.FewestLemmas.{begins_dealt_on}
use Rattle.lnbd_copy.proofs.TurnLemmas.{told_begins}
use Rattle.lnbd_copy.proofs.UnendedLemmas.{ended_wanting}

pub told_as : {Is Is' : List wire.Call → Type 0} (start told : Option (List wire.Call)) → ((calls : List wire.Call) → Is calls → Is' calls) → Told start told Is → Told start told Is'
told_as start told leads t = record {
  since = λ all is.
      let since = t.since all is in
      record { before = since.before; calls = since.calls; was = since.was; now = since.now; is = leads since.calls since.is };
}

-- What stands on success leads on.
pub if_ok_leads : {T F : Type 0} {A B : T → Type 0} (r : Result T F) → ((value : T) → A value → B value) → IfOk r A → IfOk r B
if_ok_leads (Ok value) leads a = leads value a
if_ok_leads (Err fault) leads a = tt

pub if_ok_both : {T F : Type 0} {A B C : T → Type 0} (r : Result T F) → ((value : T) → A value → B value → C value) → IfOk r A → IfOk r B → IfOk r C
if_ok_both (Ok value) leads a b = leads value a b
if_ok_both (Err fault) leads a b = tt

pub always_on_ok : {T F : Type 0} {A : Type 0} (r : Result T F) → A → OnOk r A
always_on_ok (Ok value) a = a
always_on_ok (Err fault) a = tt

-- Further connections.

module _ (copy : Seen) (sides : Sides) (first : ℕ) where
  pub further_none : (now : board.Seen) (held : List (Held Ticket)) (told : Option (List wire.Call)) → GoesFurther copy sides first now held told now held told
  further_none now held told = record { stand = λ s. s; filed = λ s. filed_none now; on = λ size how start s count on. on; lasts = λ s. lasts_none told; know = λ source destination both. both; connected = λ s. connected_none told }

  pub further_dials : (place : Place) (extents : Bool) (now now' : board.Seen) (held held2 held3 : List (Held Ticket)) (a b c : Option (List wire.Call)) → GoesFurther copy sides first now held a now' held2 b → Dials place extents now' held2 b held3 c →
      extents ≡ false → (length held ≡ first → length held2 ≢ 0) → (length held ≡ first → (size : Option ℕ) (how : How) → place_of (beginning copy size how sides) (length held2) ≡ place) → GoesFurther copy sides first now held a now' held3 c
  further_dials place extents now now' held held2 held3 a b c further dials unasked some there = record {
    stand = λ s. dials.stand (further.stand s);
    filed = further.filed;
    on = λ size how start s count on. dials.on (beginning copy size how sides) start (there count size how) (λ none. absurd (some count none)) (λ asks. absurd (false≢true (sym unasked ∙ asks))) refl (further.on size how start s count on);
    lasts = λ s. lasts_then a b c (further.lasts s) dials.lasts;
    know = λ source destination both. dials.know source destination (further.know source destination both);
    connected = λ s. connected_then a b c (further.connected s) dials.connected;
  }

  pub further_goes : (now now2 now3 : board.Seen) (held held2 held3 : List (Held Ticket)) (a b c : Option (List wire.Call)) → GoesFurther copy sides first now held a now2 held2 b → Goes now2 held2 b now3 held3 c → GoesFurther copy sides first now held a now3 held3 c
  further_goes now now2 now3 held held2 held3 a b c further goes = record {
    stand = λ s. goes.stand (further.stand s);
    filed = λ s. filed_then now now2 now3 (further.filed s) (goes.filed (further.stand s));
    on = λ size how start s count on. goes.on false (beginning copy size how sides) start (further.stand s) (further.on size how start s count on);
    lasts = λ s. lasts_then a b c (further.lasts s) (goes.lasts (further.stand s));
    know = λ source destination both. goes.know source destination (further.know source destination both);
    connected = λ s. connected_then a b c (further.connected s) (goes_connected now2 now3 held2 held3 b c goes (further.stand s));
  }

  pub further_then : (second : ℕ) (now now2 now3 : board.Seen) (held held2 held3 : List (Held Ticket)) (a b c : Option (List wire.Call)) → GoesFurther copy sides first now held a now2 held2 b → GoesFurther copy sides second now2 held2 b now3 held3 c →
      (length held ≡ first → length held2 ≡ second) → GoesFurther copy sides first now held a now3 held3 c
  further_then second now now2 now3 held held2 held3 a b c one two count = record {
    stand = λ s. two.stand (one.stand s);
    filed = λ s. filed_then now now2 now3 (one.filed s) (two.filed (one.stand s));
    on = λ size how start s is on. two.on size how start (one.stand s) (count is) (one.on size how start s is on);
    lasts = λ s. lasts_then a b c (one.lasts s) (two.lasts (one.stand s));
    know = λ source destination both. two.know source destination (one.know source destination both);
    connected = λ s. connected_then a b c (one.connected s) (two.connected (one.stand s));
  }

-- The first connection of each side.

pub no_handles : (copy : Seen) → HasNotBegun copy → Stand copy.held
no_handles copy none = subst Stand (sym none.held) (record { seens = []; at = tt })

pub from_first : (copy : Seen) (how : How) (sides : Sides) (n : ℕ) → n ≡ 0 → place_of (beginning copy None how sides) n ≡ copy.from
from_first copy how sides n is = ap (λ (m : ℕ). place_of (beginning copy None how sides) m) is

pub to_second : (copy : Seen) (how : How) (sides : Sides) (n : ℕ) → n ≡ 1 → place_of (beginning copy None how sides) n ≡ copy.to
to_second copy how sides n is = ap (λ (m : ℕ). place_of (beginning copy None how sides) m) is

pub begins_on : (copy : Seen) (how : How) (sides : Sides) → HasNotBegun copy → IsOn (beginning copy None how sides) copy.board [] copy.held
begins_on copy how sides none = subst (λ (held : List (Held Ticket)). IsOn (beginning copy None how sides) copy.board [] held) (sym none.held) (nothing_is_on (beginning copy None how sides) copy.board refl refl refl (λ p. refl) none.rows none.begun none.uncounted refl (λ grain p. refl) refl)

-- The first two handles agreed on the source's size.
agreed_on : (copy : Seen) (size : ℕ) (how : How) (sides : Sides) (calls : List wire.Call) → Agrees size copy.held → IsOn (beginning copy None how sides) copy.board calls copy.held → IsOn (beginning copy (Some size) how sides) copy.board calls copy.held
agreed_on copy size how sides calls agrees on =
    let a = agrees.on on.seens on.at in
    record {
      has = on.has;
      seens = on.seens;
      at = on.at;
      sided = on.sided;
      begun = on.begun;
      stands = record {
        between = agreeing_settles copy.from copy.to how on.has [] copy.board calls on.seens 0 1 a.source.seen a.destination.seen size a.room on.stands.between a.source.there (on.sided 0 a.source.seen a.source.there) a.source.told a.destination.there (on.sided 1 a.destination.seen a.destination.there) a.destination.told a.fits;
        told = on.stands.told;
      };
      rest = tt;
      all = on.all;
      hears = on.hears;
      bound = on.bound;
      drives = on.drives;
      ends = on.ends;
      order = on.order;
      queried = on.queried;
      flushes = on.flushes;
    }

pub first_on : (copy : Seen) (h : List (Held Ticket)) (t u : Option (List wire.Call)) (how : How) (sides : Sides) → HasNotBegun copy → Dials copy.from copy.options.extents copy.board copy.held t h u → Told t u (λ calls. IsOn (beginning copy None how sides) copy.board calls h)
first_on copy h t u how sides none first =
    let none_held : length copy.held ≡ 0 = ap (λ (l : List (Held Ticket)). length l) none.held in
    first.on (beginning copy None how sides) t (from_first copy how sides (length copy.held) none_held) (λ empty. refl) (λ asks. none_held) refl (told_begins t (begins_on copy how sides none))

pub one_some : (n : ℕ) → n ≡ 1 → n ≢ 0
one_some n one none = absurd (omega (arith, one, none))

-- What the first handle asks for is what the options want.
pub dials_as : (options : CopyOptions) (place : Place) (extents : Bool) (now : board.Seen) (held held' : List (Held Ticket)) (a b : Option (List wire.Call)) → extents ≡ options.extents → Dials place extents now held a held' b → Dials place options.extents now held a held' b
dials_as options place extents now held held' a b same dials = subst (λ (e : Bool). Dials place e now held a held' b) same dials

-- Both stand where a copy begins, however it is to be made.
pub second_on : (copy : Seen) (b : board.Seen) (h i j : List (Held Ticket)) (t u v w : Option (List wire.Call)) (how : How) (sides : Sides) → HasNotBegun copy → Dials copy.from copy.options.extents copy.board copy.held t h u → Goes copy.board h u b i v → Dials copy.to false b i v j w →
    Stand j × Told t w (λ calls. IsOn (beginning copy None how sides) b calls j)
second_on copy b h i j t u v w how sides none first one second =
    let way = beginning copy None how sides in
    let s1 = first.stand (no_handles copy none) in
    let one_held : length i ≡ 1 = one.many s1 ∙ first.many ∙ ap (λ (n : ℕ). n + 1) (ap (λ (l : List (Held Ticket)). length l) none.held) in
    (second.stand (one.stand s1), second.on way t (to_second copy how sides (length i) one_held) (λ none. absurd (one_some (length i) one_held none)) (λ asks. absurd (false≢true asks)) refl (one.on false way t s1 (first_on copy h t u how sides none first)))

-- Each connect gave a link.
pub one_connects : (copy : Seen) (b : board.Seen) (h i : List (Held Ticket)) (t u v : Option (List wire.Call)) → HasNotBegun copy → Dials copy.from copy.options.extents copy.board copy.held t h u → Goes copy.board h u b i v → Told t v AllConnected
one_connects copy b h i t u v none first one = (goes_connected copy.board b h i u v one (first.stand (no_handles copy none))).on t (connected_begins t u first.connected)

pub second_connects : (copy : Seen) (b : board.Seen) (h i j : List (Held Ticket)) (t u v w : Option (List wire.Call)) → HasNotBegun copy → Dials copy.from copy.options.extents copy.board copy.held t h u → Goes copy.board h u b i v → Dials copy.to false b i v j w → Told t w AllConnected
second_connects copy b h i j t u v w none first one second = second.connected.on t (one_connects copy b h i t u v none first one)

module _ (copy : Seen) (b c : board.Seen) (h i j k : List (Held Ticket)) (t u v w x : Option (List wire.Call)) where
  two_stand : Dials copy.from copy.options.extents copy.board copy.held t h u → Goes copy.board h u b i v → Dials copy.to false b i v j w → Goes b j w c k x → HasNotBegun copy → length k ≡ 2
  two_stand first one second two none =
      let s1 = first.stand (no_handles copy none) in
      let s2 = one.stand s1 in
      let s3 = second.stand s2 in
      two.many s3 ∙ second.many ∙ ap (λ (n : ℕ). n + 1) (one.many s1 ∙ first.many ∙ ap (λ (n : ℕ). n + 1) (ap (λ (l : List (Held Ticket)). length l) none.held))

  pub two_on : (how : How) (sides : Sides) → HasNotBegun copy → Dials copy.from copy.options.extents copy.board copy.held t h u → Goes copy.board h u b i v → Dials copy.to false b i v j w → Goes b j w c k x → Told t x (λ calls. IsOn (beginning copy None how sides) c calls k)
  two_on how sides none first one second two =
      let both = second_on copy b h i j t u v w how sides none first one second in
      two.on false (beginning copy None how sides) t both.0 both.1

  pub two_connect : HasNotBegun copy → Dials copy.from copy.options.extents copy.board copy.held t h u → Goes copy.board h u b i v → Dials copy.to false b i v j w → Goes b j w c k x → Told t x AllConnected
  two_connect none first one second two =
      (goes_connected b c j k w x two (second.stand (one.stand (first.stand (no_handles copy none))))).on t (second_connects copy b h i j t u v w none first one second)

  pub has_met : (terms : Terms) → IsWished copy.options terms → IsLimited copy.options terms → (settled : HasTerms copy.options copy.from copy.to t x terms) → KnowBoth settled.source settled.destination k → Agrees terms.size k → HasNotBegun copy → Dials copy.from copy.options.extents copy.board copy.held t h u → Goes copy.board h u b i v → Dials copy.to false b i v j w → Goes b j w c k x →
      HasMet (record copy { held = k; board = c }) t x terms
  has_met terms wished limited settled know agrees none first one second two =
      let s0 = no_handles copy none in
      let s1 = first.stand s0 in
      let s2 = one.stand s1 in
      let s3 = second.stand s2 in
      let filed = filed_then copy.board b c (one.filed s1) (two.filed s3) in
      record {
        stand = two.stand s3;
        blank = record { rows = filed.none none.rows; begun = filed.begun ∙ none.begun; unflushed = filed.flushing ∙ none.uncounted.flushing };
        wished = wished;
        limited = limited;
        on =
            told_as t x (λ calls on. agreed_on (record copy { held = k; board = c }) terms.size terms.how terms.sides calls agrees on)
            (two_on terms.how terms.sides none first one second two);
        settled = settled;
        know = know;
        connected = two_connect none first one second two;
      }

-- the options are the same
terms_as : (options options' : CopyOptions) (from to : Place) (start told : Option (List wire.Call)) (terms : Terms) → options ≡ options' → HasTerms options from to start told terms → HasTerms options' from to start told terms
terms_as options options' from to start told terms same s = record {
  source = s.source;
  destination = s.destination;
  shown = subst (λ (o : CopyOptions). Told start told (AtSome (Drove o.extents from (IsShown s.source)))) same s.shown;
  shown' = subst (λ (o : CopyOptions). Told start told (AtSome (Drove o.extents to (IsShown s.destination)))) same s.shown';
  none = s.none;
  settled = subst (λ (o : CopyOptions). AreSettledBy o s.source s.destination terms) same s.settled;
}

-- Behind them further ones.

pub source_place : (copy : Seen) (size : Option ℕ) (how : How) (sides : Sides) (n : ℕ) → is_source sides n ≡ true → place_of (beginning copy size how sides) n ≡ copy.from
source_place copy size how sides n is = ap (λ (b : Bool). if b then copy.from else copy.to) is

pub destination_place : (copy : Seen) (size : Option ℕ) (how : How) (sides : Sides) (n : ℕ) → is_source sides n ≡ false → place_of (beginning copy size how sides) n ≡ copy.to
destination_place copy size how sides n is = ap (λ (b : Bool). if b then copy.from else copy.to) is

-- A connection more is made where these were made before.
module _ (copy mid new : Seen) (sides : Sides) (first : ℕ) (a b c : Option (List wire.Call)) (kept : mid ≡ record copy { held = mid.held; board = mid.board }) (same : new.board ≡ mid.board) (further : GoesFurther copy sides first copy.board copy.held a mid.board mid.held b) where
  pub source_more : Dials mid.from false mid.board mid.held b new.held c → (length copy.held ≡ first → length mid.held ≢ 0) → (length copy.held ≡ first → is_source sides (length mid.held) ≡ true) → GoesFurther copy sides first copy.board copy.held a new.board new.held c
  source_more dials some side = subst (λ (n : board.Seen). GoesFurther copy sides first copy.board copy.held a n new.held c) (sym same)
      (further_dials copy sides first mid.from false copy.board mid.board copy.held mid.held new.held a b c further dials refl some
      (λ count size how. source_place copy size how sides (length mid.held) (side count) ∙ sym (ap (λ (s : Seen). s.from) kept)))

  pub destination_more : Dials mid.to false mid.board mid.held b new.held c → (length copy.held ≡ first → length mid.held ≢ 0) → (length copy.held ≡ first → is_source sides (length mid.held) ≡ false) → GoesFurther copy sides first copy.board copy.held a new.board new.held c
  destination_more dials some side = subst (λ (n : board.Seen). GoesFurther copy sides first copy.board copy.held a n new.held c) (sym same)
      (further_dials copy sides first mid.to false copy.board mid.board copy.held mid.held new.held a b c further dials refl some
      (λ count size how. destination_place copy size how sides (length mid.held) (side count) ∙ sym (ap (λ (s : Seen). s.to) kept)))

-- Its connections and its board go on.
abbrev pub with_held : Seen → Seen → Seen
with_held copy now = record copy { held = now.held; board = now.board }

pub kept_then : (a b c : Seen) → b ≡ with_held a b → c ≡ with_held b c → c ≡ with_held a c
kept_then a b c one two = two ∙ ap (λ (s : Seen). with_held s c) one

-- The first connection of each side stands, and both have settled.
pub meets : (s0 s1 s2 s3 s4 : Seen) (t u v w x : Option (List wire.Call)) (options : CopyOptions) (held : List (Held Ticket)) (terms : Terms) →
    s1 ≡ with_held s0 s1 → s2 ≡ with_held s1 s2 → s3 ≡ with_held s2 s3 → s4 ≡ with_held s3 s4 → s1.board ≡ s0.board → s3.board ≡ s2.board → options ≡ s4.options → held ≡ s4.held →
    Dials s0.from s0.options.extents s0.board s0.held t s1.held u → Goes s1.board s1.held u s2.board s2.held v → Dials s2.to false s2.board s2.held v s3.held w → Goes s3.board s3.held w s4.board s4.held x →
    HasNotBegun s0 → AreAgreed options terms held → (settled : HasTerms options s0.from s0.to t x terms) → KnowBoth settled.source settled.destination s4.held → HasMet s4 t x terms
unfolding terms_as
meets s0 s1 s2 s3 s4 t u v w x options held terms k1 k2 k3 k4 b1 b3 same_options same_held first one second two none agreed settled know =
    let k02 = kept_then s0 s1 s2 k1 k2 in
    let k04 = kept_then s0 s2 s4 k02 (kept_then s2 s3 s4 k3 k4) in
    let one' : Goes s0.board s1.held u s2.board s2.held v = subst (λ (b : board.Seen). Goes b s1.held u s2.board s2.held v) b1 one in
    let second' : Dials s0.to false s2.board s2.held v s3.held w = subst (λ (p : Place). Dials p false s2.board s2.held v s3.held w) (ap (λ (s : Seen). s.to) k02) second in
    let two' : Goes s2.board s3.held w s4.board s4.held x = subst (λ (b : board.Seen). Goes b s3.held w s4.board s4.held x) b3 two in
    subst (λ (s : Seen). HasMet s t x terms) (sym k04)
    (has_met s0 s2.board s4.board s1.held s2.held s3.held s4.held t u v w x terms (subst (λ (o : CopyOptions). IsWished o terms) (same_options ∙ ap (λ (s : Seen). s.options) k04) agreed.wished)
    (subst (λ (o : CopyOptions). IsLimited o terms) (same_options ∙ ap (λ (s : Seen). s.options) k04) agreed.limited)
    (terms_as options s0.options s0.from s0.to t x terms (same_options ∙ ap (λ (s : Seen). s.options) k04) settled) know
    (subst (Agrees terms.size) same_held agreed.size) none first one' second' two')

pub two_meet : (s0 s1 s2 s3 s4 : Seen) (t u v w x : Option (List wire.Call)) → s1 ≡ with_held s0 s1 → s2 ≡ with_held s1 s2 → s1.board ≡ s0.board → s3.board ≡ s2.board →
    Dials s0.from s0.options.extents s0.board s0.held t s1.held u → Goes s1.board s1.held u s2.board s2.held v → Dials s2.to false s2.board s2.held v s3.held w → Goes s3.board s3.held w s4.board s4.held x → HasNotBegun s0 → length s4.held ≡ 2
two_meet s0 s1 s2 s3 s4 t u v w x k1 k2 b1 b3 first one second two none =
    let k02 = kept_then s0 s1 s2 k1 k2 in
    let one' : Goes s0.board s1.held u s2.board s2.held v = subst (λ (b : board.Seen). Goes b s1.held u s2.board s2.held v) b1 one in
    let second' : Dials s0.to false s2.board s2.held v s3.held w = subst (λ (p : Place). Dials p false s2.board s2.held v s3.held w) (ap (λ (s : Seen). s.to) k02) second in
    let two' : Goes s2.board s3.held w s4.board s4.held x = subst (λ (b : board.Seen). Goes b s3.held w s4.board s4.held x) b3 two in
    two_stand s0 s2.board s4.board s1.held s2.held s3.held s4.held t u v w x first one' second' two' none

-- So they stand.
pub two_meet_stand : (s0 s1 s2 s3 s4 : Seen) (t u v w x : Option (List wire.Call)) → Dials s0.from s0.options.extents s0.board s0.held t s1.held u → Goes s1.board s1.held u s2.board s2.held v → Dials s2.to false s2.board s2.held v s3.held w → Goes s3.board s3.held w s4.board s4.held x →
    HasNotBegun s0 → Stand s4.held
two_meet_stand s0 s1 s2 s3 s4 t u v w x first one second two none = two.stand (second.stand (one.stand (first.stand (no_handles s0 none))))

-- Further connections stand behind those that met.
met_on : (copy : Seen) (now : board.Seen) (held : List (Held Ticket)) (t u v : Option (List wire.Call)) (terms : Terms) → HasMet copy t u terms → length copy.held ≡ 2 → GoesFurther copy terms.sides 2 copy.board copy.held u now held v → HasMet (record copy { held = held; board = now }) t v terms
unfolding terms_later
met_on copy now held t u v terms met two further =
    let filed = further.filed met.stand in
    record {
      stand = further.stand met.stand;
      blank = record { rows = filed.none met.blank.rows; begun = filed.begun ∙ met.blank.begun; unflushed = filed.flushing ∙ met.blank.unflushed };
      wished = met.wished;
      limited = met.limited;
      on = further.on (Some terms.size) terms.how t met.stand two met.on;
      settled = terms_later copy.options copy.from copy.to t u v terms (further.lasts met.stand) met.settled;
      know = further.know met.settled.source met.settled.destination met.know;
      connected = (further.connected met.stand).on t met.connected;
    }

pub met_further : (copy new : Seen) (t u v : Option (List wire.Call)) (terms : Terms) → new ≡ with_held copy new → HasMet copy t u terms → length copy.held ≡ 2 → GoesFurther copy terms.sides 2 copy.board copy.held u new.board new.held v → HasMet new t v terms
met_further copy new t u v terms kept met two further = subst (λ (s : Seen). HasMet s t v terms) (sym kept) (met_on copy new.board new.held t u v terms met two further)

pub further_kept : (copy mid : Seen) (sides : Sides) (first : ℕ) (now now' : board.Seen) (held held' : List (Held Ticket)) (a b : Option (List wire.Call)) → mid ≡ with_held copy mid → GoesFurther mid sides first now held a now' held' b → GoesFurther copy sides first now held a now' held' b
further_kept copy mid sides first now now' held held' a b kept further =
    let same : GoesFurther (with_held copy mid) sides first now held a now' held' b = subst (λ (s : Seen). GoesFurther s sides first now held a now' held' b) kept further in
    record { stand = same.stand; filed = same.filed; on = λ size how start s count on. same.on size how start s count on; lasts = same.lasts; know = same.know; connected = same.connected }

-- Where no extents may be asked for, every position counts as heard.
all_heard : (way : Way) (extents flush : Bool) (now : board.Seen) (calls : List wire.Call) (held : List (Held Ticket)) → (extents ≡ false → FirstAgreedNone way.extents way.from calls) → way.ended ≡ false → IsOn way now calls held → IsOn (record way { heard = λ grain p. not extents; flush = flush }) now calls held
all_heard way extents flush now calls held silent unended on = record {
  has = on.has;
  seens = on.seens;
  at = on.at;
  sided = on.sided;
  begun = on.begun;
  stands = record { between = on.stands.between; told = on.stands.told };
  rest = on.rest;
  all = on.all;
  hears = record { answered = λ well two grain p h. inr (silent (not_true extents h)); first = on.hears.first; begun = on.hears.begun; passed = λ well two grain p h. inr (silent (not_true extents h)) };
  bound = on.bound;
  drives = on.drives;
  ends = ended_wanting way.extents way.how.skip way.how.skip way.flush flush way.from way.to calls way.ended on.seens unended on.ends;
  order = on.order;
  queried = on.queried;
  flushes = on.flushes;
}
  where
    not_true : (b : Bool) → not b ≡ true → b ≡ false
    not_true true e = absurd (false≢true e)
    not_true false e = refl

-- What is settled begins.
pub begins_job : (copy : Seen) (start told : Option (List wire.Call)) (terms : Terms) (j : job.Seen) (now : board.Seen) (extents : Bool) → (met : HasMet copy start told terms) → copy.board.error ≡ None → now.error ≡ None → now.rows ≡ [] → now.begun ≡ 0 → HasNotCounted now → now.how ≡ terms.how → j.terms ≡ terms → j.phase ≡ Copying → AreDealt terms.limit terms.sides j.bound [] →
    (extents ≡ false → (calls : List wire.Call) → IsOn (beginning copy (Some terms.size) terms.how terms.sides) copy.board calls copy.held → FirstAgreedNone copy.options.extents copy.from calls) →
    ((calls : List wire.Call) → IsOn (beginning copy (Some terms.size) terms.how terms.sides) copy.board calls copy.held → AllAlike copy.options.extents copy.from copy.to met.settled.source met.settled.destination calls) →
    ((way : Way) (b : board.Seen) → way.size ≡ Some terms.size → b.how ≡ terms.how → way.how ≡ terms.how → way.sides ≡ terms.sides → way.slices ≡ [] → way.asked ≡ None → ((block p : ℕ) → way.whole block p ≡ false) → b.flushing ≡ false → (extents ≡ false → (grain p : ℕ) → way.heard grain p ≡ true) → ((p : ℕ) → way.reach p ≡ false) → way.ended ≡ false → way.flush ≡ terms.flush → way.queries ≡ 0 → job.IsJob j way b) → MayGoOn j copy.held →
    IsOnItsWay start told (record copy { board = now; job = Some j })
begins_job copy start told terms j now extents met well sound empty new uncounted writes same copying dealt silent alike is may =
    let before = beginning copy (Some terms.size) terms.how terms.sides in
    let way : Way = record before { heard = λ grain p. not extents; flush = terms.flush } in
    record {
      stand = met.stand;
      job = j;
      there = refl;
      way = way;
      from = refl;
      to = refl;
      extents = refl;
      wished = subst (IsWished copy.options) (sym same) met.wished;
      limited = subst (IsLimited copy.options) (sym same) met.limited;
      most = subst (λ (rows : List (ℕ × Row)). length rows ≤ j.terms.limit) (sym empty) (omega arith);
      is = is way now refl writes refl refl refl refl (λ block p. refl) uncounted.flushing (λ none grain p. ap not none) (λ p. refl) refl refl refl;
      on = told_as start told
          (λ calls on. subst (λ (p : Bool). IsUnderWay p way now calls copy.held) (sym (ap job.is_parting copying))
          (settled way terms.how copy.board now calls copy.held refl refl refl met.blank.rows well met.blank.unflushed empty new uncounted (all_heard before extents terms.flush copy.board calls copy.held (λ none. silent none calls on) refl on)))
          met.on;
      settled = subst (HasSettled copy.options copy.from copy.to start told) (sym same) (record { first = met.settled; all = told_as start told alike met.on });
      spread = begins_dealt j terms now same empty dealt;
      fit = begins_fit j now empty;
      dealt = begins_dealt_on j.terms.sides now empty new;
      connected = met.connected;
      may = may;
      well = sound;
    }

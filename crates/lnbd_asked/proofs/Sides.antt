-- What each side says shows whatever follows, and what a client says is read.
use Rattle.std.proofs.Common.{◌≡◌, ℕ, zero, suc, ◌+◌, ◌≤◌, Bool, true, false, not, List, [], ◌∷◌, ◌++◌, length, take, drop, Option, Some, None, is_some, refl, ap, sym, subst, ◌∙◌, arith, ◌==◌, if◌then◌else◌, length-append, append-nil}
use Rattle.std.proofs.lemmas.Bool.{eq-eqb}
use Rattle.std.proofs.lemmas.List.{take_all, length-take, length-drop}
use Rattle.lnbd_records.specs.Numbers.{Field, number, row, number_at}
use Rattle.lnbd_records.specs.Handshake.{option_magic, option_head, client_flags}
use Rattle.lnbd_records.proofs.NumberLaws.{then_reads, length-row}
use Rattle.lnbd_stream.specs.Grammar.{once, Kept, Sized, Fits as FitsIn}
use Rattle.lnbd_stream.specs.Stream.{Rules}
use Rattle.lnbd_stream.specs.Laws.{Steady, Front}
use Rattle.lnbd_stream.proofs.Grammar.{kept_same, kept_none, kept_once, kept_wants, part_more, once_there, wants_true, fits_some, fits_once, fits_wants}
use Rattle.lnbd_stream.proofs.Stream.{front_of_size}
use Rattle.lnbd_model.specs.declared.kind.Kind.{Kind}
use Rattle.lnbd_history.specs.declared.kinds.Phase.TheVariants as phase
use Rattle.lnbd_records.specs.Options.{opt_export_name}
use Rattle.lnbd_history.specs.Agreement.{Opted, phase, steps, extended}
use Rattle.lnbd_history.specs.Agreement.{extended as is_on}
use Rattle.lnbd_history.specs.History.{Known, sight}
use Rattle.lnbd_chunks.proofs.Steady.{at_more}
use Rattle.lnbd_history.proofs.Steady.{stays_at, none_at}
use Rattle.lnbd_asked.specs.Client.{Said, Flags, Wishes, Orders, Stray, Wish, Order, says_flags, says_option, says_request, says_next, says, data_size, lacks_data, length_size, head_size, magic_of, size_of, order_head, spell, Fits}
use Rattle.lnbd_asked.specs.Link.{Nobody, Link, client, server, is_extended, is_free, is_by_name, shows, waited, kind_of, next, issued, ordered}
use Rattle.lnbd_asked.specs.Laws.{SidesAreSteady, AreSaid, WhatIsSaidIsRead, FlagsAreRead}

-- how many bytes of data follow the head that stands in these bytes
abbrev data_in : Bool → List ℕ → ℕ
data_in extended bytes = data_size extended (number_at 6 2 bytes) (number_at 4 2 bytes) (number_at 24 (length_size extended) bytes)

-- Steady.

stays_flags : (bytes more : List ℕ) → Kept (says_flags bytes) (says_flags (bytes ++ more))
unfolding says_flags
stays_flags bytes more = kept_once 4 bytes more _ _ (λ h. rw (at_more 0 4 bytes more h) (kept_same _))

stays_option : (bytes more : List ℕ) → Kept (says_option bytes) (says_option (bytes ++ more))
unfolding says_option
stays_option bytes more =
    kept_once 8 bytes more _ _ (λ h. rw (at_more 0 8 bytes more h) (kept_wants _ _ _ _
    (kept_once 16 bytes more _ _ (λ k. rw (at_more 12 4 bytes more k, at_more 8 4 bytes more (omega (arith, k)))
    (kept_once (16 + number_at 12 4 bytes) bytes more _ _ (λ l. rw (part_more 16 (number_at 12 4 bytes) bytes more l) (kept_same _)))))))

stays_request : (extended : Bool) (bytes more : List ℕ) → Kept (says_request extended bytes) (says_request extended (bytes ++ more))
unfolding says_request
stays_request extended bytes more =
    kept_once (head_size extended) bytes more _ _ (λ h. rw (at_more 4 2 bytes more (omega (arith, h)), at_more 6 2 bytes more (omega (arith, h)), at_more 8 8 bytes more (omega (arith, h)), at_more 16 8 bytes more (omega (arith, h)), at_more 24 (length_size extended) bytes more h)
    (kept_wants _ _ _ _ (kept_once (head_size extended + data_in extended bytes) bytes more _ _ (λ l. rw (part_more (head_size extended) (data_in extended bytes) bytes more l) (kept_same _)))))

kept_if : {R : Type 0} (test : Bool) (a b x y : Option R) → Kept a x → Kept b y → Kept (if test then a else b) (if test then x else y)
kept_if true a b x y h k = h
kept_if false a b x y h k = k

stays_next : (extended : Bool) (bytes more : List ℕ) → Kept (says_next extended bytes) (says_next extended (bytes ++ more))
unfolding says_next
stays_next extended bytes more = kept_once 4 bytes more _ _ (λ h. rw (at_more 0 4 bytes more h) (kept_if _ _ _ _ _ (stays_request extended bytes more) (stays_option bytes more)))

stays_says : (strayed greeted extended : Bool) (bytes more : List ℕ) → Kept (says strayed greeted extended bytes) (says strayed greeted extended (bytes ++ more))
stays_says true greeted extended bytes more = kept_none _
stays_says false true extended bytes more = stays_next extended bytes more
stays_says false false extended bytes more = stays_flags bytes more

none_says : (strayed greeted extended : Bool) → says strayed greeted extended [] ≡ None
unfolding once says_flags says_next
none_says true greeted extended = refl
none_says false true extended = refl
none_says false false extended = refl

pub client_steady : Steady client
client_steady = record {
  stays = λ link bytes more found e. stays_says link.strayed link.greeted (is_extended link) bytes more found e;
  none = λ link. none_says link.strayed link.greeted (is_extended link);
}

stays_shows : (link : Link) (bytes more : List ℕ) → Kept (shows link bytes) (shows link (bytes ++ more))
stays_shows link bytes more = kept_if (is_free (phase link.heard.turns)) _ _ _ _
    (kept_if (is_by_name link.wishes) _ _ _ _ (stays_at link.heard.stage (record (sight link.heard) { phase = phase.AskedByName }) (waited link) bytes more) (kept_none _))
    (stays_at link.heard.stage (sight link.heard) (waited link) bytes more)

none_if : {R : Type 0} (test : Bool) (a b : Option R) → a ≡ None → b ≡ None → (if test then a else b) ≡ None
none_if true a b h k = h
none_if false a b h k = k

none_shows : (link : Link) → shows link [] ≡ None
none_shows link = none_if (is_free (phase link.heard.turns)) _ _
    (none_if (is_by_name link.wishes) _ _ (none_at link.heard.stage (record (sight link.heard) { phase = phase.AskedByName }) (waited link)) refl)
    (none_at link.heard.stage (sight link.heard) (waited link))

pub server_steady : Steady server
server_steady = record { stays = λ link bytes more found e. stays_shows link bytes more found e; none = none_shows }

pub sides_are_steady : SidesAreSteady
sides_are_steady = (client_steady, server_steady)

-- No thing is shown by fewer bytes than its size.

sized_flags : (extended : Bool) → Sized (size_of extended) says_flags
unfolding says_flags
sized_flags extended bytes = fits_once (size_of extended) 4 bytes _ (λ h. fits_some (size_of extended) bytes _ h)

long : (n : ℕ) (bytes : List ℕ) (k : ℕ) → k + n ≤ length bytes → length (take n (drop k bytes)) ≤ n
long n bytes k h = omega (arith, length-take n (drop k bytes), length-drop k bytes, h)

sized_option : (extended : Bool) → Sized (size_of extended) says_option
unfolding says_option
sized_option extended bytes = fits_once (size_of extended) 8 bytes _ (λ h. fits_wants (size_of extended) bytes _ _ _ (omega arith)
    (fits_once (size_of extended) 16 bytes _ (λ k. fits_once (size_of extended) (16 + number_at 12 4 bytes) bytes _
    (λ l. fits_some (size_of extended) bytes _ (let m = long (number_at 12 4 bytes) bytes 16 l in omega (arith, l, m))))))

sized_request : (extended : Bool) → Sized (size_of extended) (says_request extended)
unfolding says_request
sized_request extended bytes = fits_once (size_of extended) (head_size extended) bytes _ (λ h. fits_wants (size_of extended) bytes _ _ _ (omega arith)
    (fits_once (size_of extended) (head_size extended + data_in extended bytes) bytes _
    (λ l. fits_some (size_of extended) bytes _ (let m = long (data_in extended bytes) bytes (head_size extended) l in omega (arith, l, m)))))

sized_if : (extended test : Bool) (bytes : List ℕ) (a b : Option Said) → FitsIn (size_of extended) bytes a → FitsIn (size_of extended) bytes b → FitsIn (size_of extended) bytes (if test then a else b)
sized_if extended true bytes a b h k = h
sized_if extended false bytes a b h k = k

sized_next : (extended : Bool) → Sized (size_of extended) (says_next extended)
unfolding says_next
sized_next extended bytes = fits_once (size_of extended) 4 bytes _ (λ h. sized_if extended _ bytes _ _ (sized_request extended bytes) (sized_option extended bytes))

none_some : (found : Said) → None ≡ Some found → ⊥
none_some found e = cc

sized_says : (strayed greeted extended : Bool) → Sized (size_of extended) (says strayed greeted extended)
sized_says true greeted extended bytes = λ found e. let bad : None ≡ Some found = e in absurd (none_some found bad)
sized_says false true extended bytes = sized_next extended bytes
sized_says false false extended bytes = sized_flags extended bytes

-- A thing is shown by its bytes.

-- the number of a field
abbrev value : List Field → ℕ → ℕ
value [] i = 0
value (number w x ∷ fs) zero = x
value (number w x ∷ fs) (suc i) = value fs i

shown_flags : (flags : ℕ) → Fits false (Flags flags) → says_flags (spell false (Flags flags)) ≡ Some (Flags flags)
unfolding says_flags number_at
shown_flags flags fit =
    let r = then_reads (client_flags flags) [] (spell false (Flags flags)) (record { fit = fit; spelled = sym (append-nil (row (client_flags flags))) }) in
    let n : number_at 0 4 (spell false (Flags flags)) ≡ flags = ap (λ fs. value fs 0) r.fields in
    once_there 4 (spell false (Flags flags)) _ (omega (arith, r.size)) ∙ ap (λ x. Some (Flags x)) n

wish_is : (option other : ℕ) (body more : List ℕ) → option ≡ other → body ≡ more → Some (Wishes (record { option = option; body = body })) ≡ Some (Wishes (record { option = other; body = more }))
wish_is option other body more e h = cc

-- a front of what follows a head is all of it
all_of : (n m : ℕ) (bytes rest : List ℕ) → n ≡ length rest → drop m bytes ≡ rest → take n (drop m bytes) ≡ rest
all_of n m bytes rest e h = ap (take n) h ∙ take_all n rest (omega (arith, e))

not_request : (extended : Bool) (wish : Wish) → (number_at 0 4 (spell extended (Wishes wish)) == magic_of extended) ≡ false
unfolding row number_at lib.Count.ones
not_request true wish = refl
not_request false wish = refl

if_is : (test value : Bool) (a b : Option Said) → test ≡ value → (if test then a else b) ≡ (if value then a else b)
if_is test value a b e = ap (λ (c : Bool). if c then a else b) e

shown_option : (extended : Bool) (wish : Wish) → Fits extended (Wishes wish) → says_next extended (spell extended (Wishes wish)) ≡ Some (Wishes wish)
unfolding says_next says_option number_at
shown_option extended wish fit =
    let bytes = spell extended (Wishes wish) in
    let r = then_reads (option_head wish.option (length wish.body)) wish.body (spell extended (Wishes wish)) (record { fit = fit; spelled = refl }) in
    let magic : number_at 0 8 (spell extended (Wishes wish)) ≡ option_magic = ap (λ fs. value fs 0) r.fields in
    let option : number_at 8 4 (spell extended (Wishes wish)) ≡ wish.option = ap (λ fs. value fs 1) r.fields in
    let size : number_at 12 4 (spell extended (Wishes wish)) ≡ length wish.body = ap (λ fs. value fs 2) r.fields in
    once_there 4 (spell extended (Wishes wish)) _ (omega (arith, r.size))
    ∙ if_is _ false (says_request extended (spell extended (Wishes wish))) (says_option (spell extended (Wishes wish))) (not_request extended wish)
    ∙ once_there 8 (spell extended (Wishes wish)) _ (omega (arith, r.size)) ∙ wants_true _ _ _ (eq-eqb _ _ magic)
    ∙ once_there 16 (spell extended (Wishes wish)) _ (omega (arith, r.size)) ∙ once_there (16 + number_at 12 4 (spell extended (Wishes wish))) (spell extended (Wishes wish)) _ (omega (arith, r.size, size))
    ∙ wish_is _ _ _ _ option (all_of _ 16 (spell extended (Wishes wish)) wish.body size r.behind)

-- what stands where in the bytes of a request
record Stands (extended : Bool) (order : Order) (bytes : List ℕ) : Type 0 where
  magic : number_at 0 4 bytes ≡ magic_of extended
  flags : number_at 4 2 bytes ≡ order.flags
  type : number_at 6 2 bytes ≡ order.type
  cookie : number_at 8 8 bytes ≡ order.cookie
  offset : number_at 16 8 bytes ≡ order.offset
  size : number_at 24 (length_size extended) bytes ≡ order.length
  behind : drop (head_size extended) bytes ≡ order.payload
  long : length bytes ≡ head_size extended + length order.payload

order_stands : (extended : Bool) (order : Order) → Fits extended (Orders order) → Stands extended order (spell extended (Orders order))
unfolding number_at
order_stands true order fits =
    let r = then_reads (order_head true order) order.payload (spell true (Orders order)) (record { fit = fits.fit; spelled = refl }) in
    record {
      magic = ap (λ fs. value fs 0) r.fields;
      flags = ap (λ fs. value fs 1) r.fields;
      type = ap (λ fs. value fs 2) r.fields;
      cookie = ap (λ fs. value fs 3) r.fields;
      offset = ap (λ fs. value fs 4) r.fields;
      size = ap (λ fs. value fs 5) r.fields;
      behind = r.behind;
      long = r.size;
    }
order_stands false order fits =
    let r = then_reads (order_head false order) order.payload (spell false (Orders order)) (record { fit = fits.fit; spelled = refl }) in
    record {
      magic = ap (λ fs. value fs 0) r.fields;
      flags = ap (λ fs. value fs 1) r.fields;
      type = ap (λ fs. value fs 2) r.fields;
      cookie = ap (λ fs. value fs 3) r.fields;
      offset = ap (λ fs. value fs 4) r.fields;
      size = ap (λ fs. value fs 5) r.fields;
      behind = r.behind;
      long = r.size;
    }

order_is : (f g t u c d o p l m : ℕ) (b x : List ℕ) → f ≡ g → t ≡ u → c ≡ d → o ≡ p → l ≡ m → b ≡ x
    → Some (Orders (record { flags = f; type = t; cookie = c; offset = o; length = l; payload = b })) ≡ Some (Orders (record { flags = g; type = u; cookie = d; offset = p; length = m; payload = x }))
order_is f g t u c d o p l m b x e1 e2 e3 e4 e5 e6 = cc

shown_request : (extended : Bool) (order : Order) → Fits extended (Orders order) → says_next extended (spell extended (Orders order)) ≡ Some (Orders order)
unfolding says_next says_request
shown_request extended order fit =
    let s = order_stands extended order fit in
    let more : data_in extended (spell extended (Orders order)) ≡ length order.payload =
    ap (λ t. data_size extended t (number_at 4 2 (spell extended (Orders order))) (number_at 24 (length_size extended) (spell extended (Orders order)))) s.type
    ∙ ap (λ f. data_size extended order.type f (number_at 24 (length_size extended) (spell extended (Orders order)))) s.flags
    ∙ ap (data_size extended order.type order.flags) s.size ∙ sym fit.sized in
    let lacks : lacks_data extended (number_at 6 2 (spell extended (Orders order))) (number_at 4 2 (spell extended (Orders order))) ≡ false =
    ap (λ t. lacks_data extended t (number_at 4 2 (spell extended (Orders order)))) s.type ∙ ap (lacks_data extended order.type) s.flags ∙ fit.says_so in
    once_there 4 (spell extended (Orders order)) _ (omega (arith, s.long))
    ∙ if_is _ true (says_request extended (spell extended (Orders order))) (says_option (spell extended (Orders order))) (eq-eqb _ _ s.magic)
    ∙ once_there (head_size extended) (spell extended (Orders order)) _ (omega (arith, s.long))
    ∙ wants_true _ _ _ (ap not lacks)
    ∙ once_there (head_size extended + data_in extended (spell extended (Orders order))) (spell extended (Orders order)) _ (omega (arith, s.long, more))
    ∙ order_is _ _ _ _ _ _ _ _ _ _ _ _ s.flags s.type s.cookie s.offset s.size (all_of _ (head_size extended) (spell extended (Orders order)) order.payload more s.behind)

-- What a client says is read.

-- the same is shown whatever is known
fixed : Link → Rules Link Said
fixed link = record { shows = λ known. client.shows link; enter = client.enter }

fixed_steady : (link : Link) → Steady (fixed link)
unfolding fixed
fixed_steady link = record { stays = λ known bytes more found e. client_steady.stays link bytes more found e; none = λ known. client_steady.none link }

front_by : (link : Link) (one : Said) (bytes : List ℕ) → says link.strayed link.greeted (is_extended link) bytes ≡ Some one → length bytes ≤ size_of (is_extended link) one → Front client link bytes one
unfolding fixed
front_by link one bytes shown size =
    let f = front_of_size (fixed link) (fixed_steady link) (size_of (is_extended link)) (λ known. sized_says link.strayed link.greeted (is_extended link)) link bytes one shown size in
    record { shown = f.shown; first = f.first }

size_flags : (flags : ℕ) → length (spell false (Flags flags)) ≤ 4
size_flags flags = omega (arith, length-row (client_flags flags))

size_option : (extended : Bool) (wish : Wish) → length (spell extended (Wishes wish)) ≤ size_of extended (Wishes wish)
size_option extended wish = omega (arith, length-append (row (option_head wish.option (length wish.body))) wish.body, length-row (option_head wish.option (length wish.body)))

size_request : (extended : Bool) (order : Order) → Fits extended (Orders order) → length (spell extended (Orders order)) ≤ size_of extended (Orders order)
size_request extended order fits = let s = order_stands extended order fits in omega (arith, s.long)

front_next : (extended : Bool) (link : Link) (one : Said) → link.strayed ≡ false → link.greeted ≡ true → is_extended link ≡ extended →
    says_next extended (spell extended one) ≡ Some one → length (spell extended one) ≤ size_of extended one → Front client link (spell extended one) one
front_next extended link one fresh greeted on shown size =
    front_by link one (spell extended one)
    (ap (λ s. says s link.greeted (is_extended link) (spell extended one)) fresh ∙ ap (λ g. says false g (is_extended link) (spell extended one)) greeted ∙ ap (λ e. says_next e (spell extended one)) on ∙ shown)
    (subst (λ e. length (spell extended one) ≤ size_of e one) (sym on) size)

pub flags_are_read : FlagsAreRead
flags_are_read extended link flags fresh new fit =
    front_by link (Flags flags) (spell extended (Flags flags))
    (ap (λ s. says s link.greeted (is_extended link) (spell extended (Flags flags))) fresh ∙ ap (λ g. says false g (is_extended link) (spell extended (Flags flags))) new ∙ shown_flags flags fit)
    (size_flags flags)

-- after a request under the next cookie
pub record Ordered (some : Bool) (link after : Link) : Type 0 where
  pub fresh : after.strayed ≡ false
  pub greeted : after.greeted ≡ true
  pub next : next after ≡ (if some then next link + 1 else next link)
  pub heard : after.heard ≡ link.heard

pub after_order : (kind : Option Kind) (order : Order) (link : Link) → link.strayed ≡ false → link.greeted ≡ true → (is_some kind ≡ true → order.cookie ≡ next link) → Ordered (is_some kind) link (ordered kind order link)
after_order None order link fresh greeted cookie = record { fresh = fresh; greeted = greeted; next = refl; heard = refl }
after_order (Some kind) order link fresh greeted cookie =
    subst (Ordered true link) (sym (ap (λ (b : Bool). if b then issued kind order link else record link { strayed = true }) (eq-eqb _ _ (cookie refl))))
    (record { fresh = fresh; greeted = greeted; next = refl; heard = refl })

-- An option that was asked changes nothing of extended headers.
pub still_extended : (wish : Wish) (link : Link) → is_extended (client.enter (Wishes wish) link) ≡ is_extended link
still_extended wish link = go (wish.option == opt_export_name)
  where
    go : (b : Bool) → extended (steps (if b then link.heard.turns else Opted wish.option ∷ link.heard.turns)) ≡ extended (steps link.heard.turns)
    go true = refl
    go false = refl

pub what_is_said_is_read : WhatIsSaidIsRead
what_is_said_is_read extended link [] fresh greeted on are = tt
what_is_said_is_read extended link (Flags flags ∷ more) fresh greeted on are = absurd are
what_is_said_is_read extended link (Stray ∷ more) fresh greeted on are = absurd are
what_is_said_is_read extended link (Wishes wish ∷ more) fresh greeted on are = (
  front_next extended link (Wishes wish) fresh greeted on (shown_option extended wish are.0) (size_option extended wish),
  what_is_said_is_read extended (client.enter (Wishes wish) link) more fresh greeted (still_extended wish link ∙ on) are.1,
)
what_is_said_is_read extended link (Orders order ∷ more) fresh greeted on are = (
  front_next extended link (Orders order) fresh greeted on (shown_request extended order are.0) (size_request extended order are.0),
  let o = after_order (kind_of order.type) order link fresh greeted are.1 in
      what_is_said_is_read extended (client.enter (Orders order) link) more o.fresh o.greeted (ap (λ (h : Known Nobody). is_on (steps h.turns)) o.heard ∙ on) (subst (λ n. AreSaid extended n more) (sym o.next) are.2),
)

-- What a client says, front by front, is never heard as what no client says.
use Rattle.std.proofs.Common.{◌≡◌, ◌≢◌, ℕ, ◌+◌, ◌≤◌, Bool, true, false, not, ◌&&◌, List, [], ◌++◌, length, take, drop, Option, Some, None, ◌==◌, nat_le, refl, ap, sym, subst, ◌∙◌, arith, inl, inr, if◌then◌else◌, append-nil}
use Rattle.std.proofs.lemmas.Bool.{cases_lt, eq-eqb, le-leb}
use Rattle.lnbd_records.specs.Handshake.{option_magic, client_flags, option_head}
use Rattle.lnbd_records.specs.Limits.{max_data}
use Rattle.lnbd_records.specs.Numbers.{row, number_at}
use Rattle.lnbd_records.specs.Transmission.{request_magic, extended_request_magic}
use Rattle.lnbd_records.proofs.NumberLaws.{then_reads}
use Rattle.lnbd_stream.specs.Grammar.{once, wants}
use Rattle.lnbd_stream.proofs.Grammar.{once_there, once_less, wants_true}
use Rattle.lnbd_asked.specs.Client.{Flags, Wishes, Orders, Stray, Wish, Order, OrderFits, order_head, spell, Fits}
use Rattle.lnbd_server.specs.Client.{Heard, heard, stray, says, says_flags, says_option, says_asked, says_request, says_extended, asks_of, data_size, lacks_data, are_client_flags, max_option_request}
use Rattle.lnbd_server.specs.Client as server
use Rattle.lnbd_server.specs.declared.stage.Stage.{Stage}
use Rattle.lnbd_served.proofs.Shown.{value, front}
use Rattle.lnbd_lively.specs.Fair.{FrontsAreHeard}

abbrev IsStraight : Option Heard → Type 0
IsStraight v = v ≢ Some stray

abbrev is_no_clients : server.Said → Bool
is_no_clients (server.Flags flags) = false
is_no_clients (server.OptionRequest option body) = false
is_no_clients (server.Asks request payload) = false
is_no_clients server.Disconnect = false
is_no_clients server.Stray = true
is_no_clients server.Ignored = false

one_straight : (n : ℕ) (said : server.Said) → is_no_clients said ≡ false → IsStraight (heard n said)
one_straight n said e is = let same : said ≡ server.Stray = said_is (record { size = n; said = said }) stray is in let nay : true ≡ false = sym (ap is_no_clients same) ∙ e in cc
  where
    said_is : (one other : Heard) → Some one ≡ Some other → one.said ≡ other.said
    said_is one other e = let same : one ≡ other = cc in ap (λ (h : Heard). h.said) same

straight_once : (n : ℕ) (bytes : List ℕ) (v : Option Heard) → (n ≤ length bytes → IsStraight v) → IsStraight (once n bytes v)
straight_once n bytes v h is = elim (cases_lt (length bytes) n) [
  | inl less ↦ (let nay : None ≡ Some stray = sym (once_less n bytes v less) ∙ is in cc)
  | inr there ↦ h there (sym (once_there n bytes v there) ∙ is)
]

straight_wants : (test : Bool) (v : Option Heard) → test ≡ true → IsStraight v → IsStraight (wants test stray v)
straight_wants test v e h is = h (sym (wants_true test stray v e) ∙ is)

asks_straight : (size type flags cookie offset n : ℕ) (payload : List ℕ) → IsStraight (heard size (asks_of type flags cookie offset n payload))
asks_straight size type flags cookie offset n payload = one_straight size (asks_of type flags cookie offset n payload) (go (type == 2))
  where
    go : (b : Bool) → is_no_clients (if b then server.Disconnect else server.Asks (record { kind = server.kind_of type; flags = flags; cookie = cookie; offset = offset; length = n }) payload) ≡ false
    go true = refl
    go false = refl

-- a request by its head, whose data are as they have to be
asked_straight : (extended : Bool) (size type flags cookie offset n : ℕ) (bytes : List ℕ) → lacks_data extended type flags ≡ false → data_size extended type flags n ≤ max_data → IsStraight (says_asked extended size type flags cookie offset n bytes)
unfolding says_asked
asked_straight extended size type flags cookie offset n bytes lacks few =
    straight_wants _ _ (ap (λ (b : Bool). not b && nat_le (data_size extended type flags n) max_data) lacks ∙ le-leb (data_size extended type flags n) max_data few)
    (straight_once _ bytes _ (λ there. asks_straight (size + data_size extended type flags n) type flags cookie offset n (take (data_size extended type flags n) (drop size bytes))))

flags_straight : (flags : ℕ) (now left : List ℕ) → Fits false (Flags flags) → are_client_flags flags ≡ true → now ++ left ≡ row (client_flags flags) → IsStraight (says_flags now)
unfolding says_flags number_at
flags_straight flags now left fit are e =
    let r = then_reads (client_flags flags) [] (row (client_flags flags)) (record { fit = fit; spelled = sym (append-nil (row (client_flags flags))) }) in
    let is : number_at 0 4 (row (client_flags flags)) ≡ flags = ap (λ fs. value fs 0) r.fields in
    straight_once 4 now _ (λ a. straight_wants _ _ (ap are_client_flags (front 0 4 now left _ e a ∙ is) ∙ are) (one_straight 4 (server.Flags (number_at 0 4 now)) refl))

wish_straight : (wish : Wish) (now left : List ℕ) → Fits false (Wishes wish) → length wish.body ≤ max_option_request → now ++ left ≡ spell false (Wishes wish) → IsStraight (says_option now)
unfolding says_option number_at
wish_straight wish now left fit few e =
    let r = then_reads (option_head wish.option (length wish.body)) wish.body (spell false (Wishes wish)) (record { fit = fit; spelled = refl }) in
    let magic : number_at 0 8 (spell false (Wishes wish)) ≡ option_magic = ap (λ fs. value fs 0) r.fields in
    let size : number_at 12 4 (spell false (Wishes wish)) ≡ length wish.body = ap (λ fs. value fs 2) r.fields in
    straight_once 8 now _ (λ a. straight_wants _ _ (eq-eqb _ _ (front 0 8 now left _ e a ∙ magic))
    (straight_once 16 now _ (λ b. straight_wants _ _ (ap (λ (k : ℕ). nat_le k max_option_request) (front 12 4 now left _ e b ∙ size) ∙ le-leb (length wish.body) max_option_request few)
    (straight_once _ now _ (λ c. one_straight (16 + number_at 12 4 now) (server.OptionRequest (number_at 8 4 now) (take (number_at 12 4 now) (drop 16 now))) refl)))))

request_straight : (order : Order) (now left : List ℕ) → OrderFits false order → length order.payload ≤ max_data → now ++ left ≡ spell false (Orders order) → IsStraight (says_request now)
unfolding says_request number_at
request_straight order now left f few e =
    let r = then_reads (order_head false order) order.payload (spell false (Orders order)) (record { fit = f.fit; spelled = refl }) in
    let magic : number_at 0 4 (spell false (Orders order)) ≡ request_magic = ap (λ fs. value fs 0) r.fields in
    let flags : number_at 4 2 (spell false (Orders order)) ≡ order.flags = ap (λ fs. value fs 1) r.fields in
    let type : number_at 6 2 (spell false (Orders order)) ≡ order.type = ap (λ fs. value fs 2) r.fields in
    let size : number_at 24 4 (spell false (Orders order)) ≡ order.length = ap (λ fs. value fs 5) r.fields in
    straight_once 4 now _ (λ a. straight_wants _ _ (eq-eqb _ _ (front 0 4 now left _ e a ∙ magic))
    (straight_once 28 now _ (λ b.
    let flags' = front 4 2 now left _ e (omega (arith, b)) ∙ flags in
    let type' = front 6 2 now left _ e (omega (arith, b)) ∙ type in
    let size' = front 24 4 now left _ e b ∙ size in
    let n = f.sized in
    asked_straight false 28 (number_at 6 2 now) (number_at 4 2 now) (number_at 8 8 now) (number_at 16 8 now) (number_at 24 4 now) now
    (ap (λ (t : ℕ). lacks_data false t (number_at 4 2 now)) type' ∙ ap (lacks_data false order.type) flags' ∙ f.says_so)
    (subst (λ (k : ℕ). k ≤ max_data) (n ∙ sym (ap (λ (t : ℕ). data_size false t (number_at 4 2 now) (number_at 24 4 now)) type' ∙ ap (λ (g : ℕ). data_size false order.type g (number_at 24 4 now)) flags' ∙ ap (data_size false order.type order.flags) size')) few))))

extended_straight : (order : Order) (now left : List ℕ) → OrderFits true order → length order.payload ≤ max_data → now ++ left ≡ spell true (Orders order) → IsStraight (says_extended now)
unfolding says_extended number_at
extended_straight order now left f few e =
    let r = then_reads (order_head true order) order.payload (spell true (Orders order)) (record { fit = f.fit; spelled = refl }) in
    let magic : number_at 0 4 (spell true (Orders order)) ≡ extended_request_magic = ap (λ fs. value fs 0) r.fields in
    let flags : number_at 4 2 (spell true (Orders order)) ≡ order.flags = ap (λ fs. value fs 1) r.fields in
    let type : number_at 6 2 (spell true (Orders order)) ≡ order.type = ap (λ fs. value fs 2) r.fields in
    let size : number_at 24 8 (spell true (Orders order)) ≡ order.length = ap (λ fs. value fs 5) r.fields in
    straight_once 4 now _ (λ a. straight_wants _ _ (eq-eqb _ _ (front 0 4 now left _ e a ∙ magic))
    (straight_once 32 now _ (λ b.
    let flags' = front 4 2 now left _ e (omega (arith, b)) ∙ flags in
    let type' = front 6 2 now left _ e (omega (arith, b)) ∙ type in
    let size' = front 24 8 now left _ e b ∙ size in
    let n = f.sized in
    asked_straight true 32 (number_at 6 2 now) (number_at 4 2 now) (number_at 8 8 now) (number_at 16 8 now) (number_at 24 8 now) now
    (ap (λ (t : ℕ). lacks_data true t (number_at 4 2 now)) type' ∙ ap (lacks_data true order.type) flags' ∙ f.says_so)
    (subst (λ (k : ℕ). k ≤ max_data) (n ∙ sym (ap (λ (t : ℕ). data_size true t (number_at 4 2 now) (number_at 24 8 now)) type' ∙ ap (λ (g : ℕ). data_size true order.type g (number_at 24 8 now)) flags' ∙ ap (data_size true order.type order.flags) size')) few))))

pub fronts_are_heard : FrontsAreHeard
fronts_are_heard stage extended (Flags flags) now left at fit within e = subst (λ (s : Stage). IsStraight (says s extended now)) (sym at) (flags_straight flags now left fit within e)
fronts_are_heard stage extended (Wishes wish) now left at fit within e = subst (λ (s : Stage). IsStraight (says s extended now)) (sym at) (wish_straight wish now left fit within e)
fronts_are_heard stage true (Orders order) now left at fit within e = subst (λ (s : Stage). IsStraight (says s true now)) (sym at) (extended_straight order now left fit within e)
fronts_are_heard stage false (Orders order) now left at fit within e = subst (λ (s : Stage). IsStraight (says s false now)) (sym at) (request_straight order now left fit within e)
fronts_are_heard stage extended Stray now left at fit within e = absurd at

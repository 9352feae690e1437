-- A text has one answer: one place, or one lowest fault.
use Rattle.std.proofs.Common.{◌≡◌, ◌≢◌, ◌∙◌, ◌⊎◌, ℕ, ◌<◌, ◌≤◌, List, Result, Ok, Err, cond, eqb, IfOk, IfErr, ap, arith, inl, inr, refl, subst, sym, ⊎_elim}
use Rattle.lnbd_model.specs.declared.target.Place.{Place}
use Rattle.lnbd_model.specs.declared.target.Target.{Target}
use Rattle.lnbd_model.specs.declared.target.Target.TheVariants.{Tcp, Unix}
use Rattle.lnbd_uri.proofs.FaultLemmas.{tcp_none_below, unix_none_below, nonempty_from_length}
use Rattle.lnbd_uri.proofs.ReadingLemmas.{place_once, reading_once}
use Rattle.lnbd_uri.specs.Address.{Reading, unknown, secured, tcp, unix, IsAddress, Means, ReadsAs}
use Rattle.lnbd_uri.specs.Fault.{HasFault, Holds, IsDecoded, IsLowest, IsWritten, number_of}
use Rattle.std.specs.Prelude.{IsErrOf, IsUtf8, length}
use Rattle.lnbd_uri.specs.Parts.{IsHost}
use Rattle.lnbd_uri.specs.declared.fault.UriFault.{UriFault}
use Rattle.lnbd_uri.specs.declared.fault.UriFault.TheVariants.{NoMemory, Scheme, Tls, Host, Port, Escape, NoSocket, NotUtf8, TooLong}

number_of-lt : (fault : UriFault) → number_of fault < 10
number_of-lt NoMemory = omega arith
number_of-lt Scheme = omega arith
number_of-lt Tls = omega arith
number_of-lt Host = omega arith
number_of-lt Port = omega arith
number_of-lt Escape = omega arith
number_of-lt NoSocket = omega arith
number_of-lt NotUtf8 = omega arith
number_of-lt TooLong = omega arith

abbrev IsShort : List ℕ → Type 0
IsShort bytes = length bytes ≤ 4096

-- what means a place has no fault
no_fault : (r : Reading) (t : Target) (name : List ℕ) → Means r t name → (fault : UriFault) → ¬ Holds fault r
no_fault unknown t name m fault h = absurd m
no_fault secured t name m fault h = absurd m
no_fault (tcp p) (Tcp host port) name m fault h =
    tcp_none_below p 10
    (λ _. subst IsHost m.host_is m.is_host)
    (λ _. (port, m.port_is))
    (λ _. (m.no_fragment, m.name_is.escaped))
    (λ _. subst IsUtf8 m.name_is.decoded m.name_is.is_text.0)
    (λ _. (subst IsShort m.host_is m.short, subst IsShort m.name_is.decoded m.name_is.is_text.1))
    fault (number_of-lt fault) h
no_fault (tcp p) (Unix path) name m fault h = absurd m
no_fault (unix p) (Tcp host port) name m fault h = absurd m
no_fault (unix p) (Unix path) name m fault h =
    unix_none_below p 10
    (λ _ long. nonempty_from_length _ long m.no_authority)
    (λ _. (m.no_fragment, m.name_is.escaped, m.path_is.escaped))
    (λ _. nonempty_from_length _ m.has_socket)
    (λ _. (subst IsUtf8 m.name_is.decoded m.name_is.is_text.0, subst IsUtf8 m.path_is.decoded m.path_is.is_text.0))
    (λ _. (subst IsShort m.name_is.decoded m.name_is.is_text.1, subst IsShort m.path_is.decoded m.path_is.is_text.1))
    fault (number_of-lt fault) h

-- an address has no fault
pub address_has_no_fault : (text : List ℕ) (place : Place) (fault : UriFault) → IsAddress text place → HasFault text fault → ⊥
address_has_no_fault text place fault a f =
    let same = reading_once text f.reading a.reading f.reads a.reads in
    let moved : Holds fault a.reading = subst (λ r. Holds fault r) same f.is_lowest.holds in
    no_fault a.reading place.to place.name a.means fault moved

-- the fault of a number
abbrev fault_at : ℕ → UriFault
fault_at n = cond (eqb n 1) NoMemory (cond (eqb n 2) Scheme (cond (eqb n 3) Tls (cond (eqb n 4) Host (cond (eqb n 5) Port (cond (eqb n 6) Escape (cond (eqb n 7) NoSocket (cond (eqb n 8) NotUtf8 TooLong)))))))

fault_at-number_of : (fault : UriFault) → fault_at (number_of fault) ≡ fault
fault_at-number_of NoMemory = refl
fault_at-number_of Scheme = refl
fault_at-number_of Tls = refl
fault_at-number_of Host = refl
fault_at-number_of Port = refl
fault_at-number_of Escape = refl
fault_at-number_of NoSocket = refl
fault_at-number_of NotUtf8 = refl
fault_at-number_of TooLong = refl

-- a text has one lowest fault
pub fault_once : (text : List ℕ) (e f : UriFault) → HasFault text e → HasFault text f → e ≡ f
fault_once text e f one two =
    let same = reading_once text one.reading two.reading one.reads two.reads in
    let moved : IsLowest e two.reading = subst (λ r. IsLowest e r) same one.is_lowest in
    let not_above : number_of e < number_of f → ⊥ = λ below. two.is_lowest.lowest e below moved.holds in
    let not_below : number_of f < number_of e → ⊥ = λ below. moved.lowest f below two.is_lowest.holds in
    let numbers : number_of e ≡ number_of f = omega (arith, not_above, not_below) in
    sym (fault_at-number_of e) ∙ ap fault_at numbers ∙ fault_at-number_of f

is_memory : (fault : UriFault) → (fault ≡ NoMemory) ⊎ (fault ≢ NoMemory)
is_memory NoMemory = inl refl
is_memory Scheme = inr (λ e. cc)
is_memory Tls = inr (λ e. cc)
is_memory Host = inr (λ e. cc)
is_memory Port = inr (λ e. cc)
is_memory Escape = inr (λ e. cc)
is_memory NoSocket = inr (λ e. cc)
is_memory NotUtf8 = inr (λ e. cc)
is_memory TooLong = inr (λ e. cc)

-- where a text is an address, the answer is its place
pub answers_place : (text : List ℕ) (r : Result Place UriFault) → IfOk r (IsAddress text) → IfErr r (λ fault. fault ≢ NoMemory → HasFault text fault)
    → (place : Place) → IsAddress text place → (r ≡ Ok place) ⊎ (r ≡ Err NoMemory)
answers_place text (Ok other) ok err place a = inl (ap Ok (place_once text other place ok a))
answers_place text (Err fault) ok err place a =
    ⊎_elim (λ e. inr (ap Err e)) (λ other. absurd (address_has_no_fault text place fault a (err other))) (is_memory fault)

-- where a text has a lowest fault, the answer is that fault
pub answers_fault : (text : List ℕ) (r : Result Place UriFault) → IfOk r (IsAddress text) → IfErr r (λ fault. fault ≢ NoMemory → HasFault text fault)
    → (fault : UriFault) → HasFault text fault → (r ≡ Err fault) ⊎ (r ≡ Err NoMemory)
answers_fault text (Ok place) ok err fault f = absurd (address_has_no_fault text place fault ok f)
answers_fault text (Err other) ok err fault f =
    ⊎_elim (λ e. inr (ap Err e)) (λ not_memory. inl (ap Err (fault_once text other fault (err not_memory) f))) (is_memory other)

-- a fault that shows in the text as it is written is told whatever memory there is
pub answers_written : (text : List ℕ) (r : Result Place UriFault) (reading : Reading) → ReadsAs text reading → (IsErrOf r NoMemory → IsDecoded reading)
    → IfOk r (IsAddress text) → IfErr r (λ fault. fault ≢ NoMemory → HasFault text fault)
    → (fault : UriFault) → HasFault text fault → IsWritten fault → IsErrOf r fault
answers_written text r reading reads decoded ok err fault f is_written =
    ⊎_elim (λ e. e)
    (λ memory.
    let same = reading_once text f.reading reading f.reads reads in
    let moved : Holds fault reading = subst (λ x. Holds fault x) same f.is_lowest.holds in
    absurd (decoded memory fault is_written moved))
    (answers_fault text r ok err fault f)

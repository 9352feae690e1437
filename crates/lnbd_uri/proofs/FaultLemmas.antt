-- Which faults do not hold of an address, from what was tested of its parts.
use Rattle.std.proofs.Common.{false, ap, subst, ◌∷◌, Bor, option_copied, true, IsAscii, ◌≡◌, ◌≢◌, ℕ, ◌<◌, ◌≤◌, List, [], Option, Some, None, length, refl, inl, inr, arith, IsUtf8}
use Rattle.std.specs.Prelude.{◌==◌, IsSome, IsSomeAnd}
use Rattle.std.specs.Option.{is_some}
use Rattle.std.specs.List.{AllPass}
use Rattle.std.proofs.lemmas.List.Elements.{All-weaker}
use Rattle.std.proofs.lemmas.Str.{IsUtf8-from_ascii}
use Rattle.std.proofs.lemmas.Str.Ascii.{IsAscii-from_all}
use Rattle.std.proofs.lemmas.Bool.Decides.{nat_tests}
use Rattle.percent_encoding.specs.Percent.{percent_decode}
use Rattle.lnbd_uri.specs.Address.{tcp, unix}
use Rattle.lnbd_uri.specs.Fault.{number_of, HasBadEscape, Holds, IsLowest, TextsFault}
use Rattle.lnbd_uri.specs.Parts.{Parts, is_host_character, authority, written, socket, IsHost, IsPort, IsPortOf, IsEscaped}
use Rattle.lnbd_uri.specs.declared.fault.UriFault.{UriFault}
use Rattle.lnbd_uri.specs.declared.fault.UriFault.TheVariants.{NoMemory, Scheme, Tls, Host, Port, Escape, NoSocket, NotUtf8, TooLong}

-- an address that has a port has no bad one
pub port_is_good : (digits : Option (List ℕ)) (port : ℕ) → IsPortOf digits port → IsSomeAnd digits (λ d. (n : ℕ) → ¬ IsPort d n) → ⊥
port_is_good None port is bad = bad
port_is_good (Some d) port is bad = bad port is

-- an address that has no port has a bad one
pub port_is_bad : (digits : Option (List ℕ)) → ((port : ℕ) → ¬ IsPortOf digits port) → IsSomeAnd digits (λ d. (n : ℕ) → ¬ IsPort d n)
port_is_bad None never = absurd (never 10809 refl)
port_is_bad (Some d) never = never

-- a part that isn't there isn't there
pub absent : {X : Type 0} (o : Option X) → o ≡ None → IsSome o → ⊥
absent None e some = cc
absent (Some x) e some = cc

pub tcp_none_below : (p : Parts) (n : ℕ)
    → (4 < n → IsHost p.host)
    → (5 < n → (port : ℕ) × IsPortOf p.port port)
    → (6 < n → (p.fragment ≡ None) × IsEscaped (written p.name))
    → (8 < n → IsUtf8 (percent_decode (written p.name)))
    → (9 < n → (length p.host ≤ 4096) × (length (percent_decode (written p.name)) ≤ 4096))
    → (lower : UriFault) → number_of lower < n → ¬ Holds lower (tcp p)
tcp_none_below p n host port escape utf8 short NoMemory below h = h
tcp_none_below p n host port escape utf8 short Scheme below h = cc
tcp_none_below p n host port escape utf8 short Tls below h = cc
tcp_none_below p n host port escape utf8 short Host below h = h (host below)
tcp_none_below p n host port escape utf8 short Port below h = port_is_good p.port (port below).0 (port below).1 h
tcp_none_below p n host port escape utf8 short Escape below (inl h) = absent p.fragment (escape below).0 h
tcp_none_below p n host port escape utf8 short Escape below (inr h) = h (escape below).1
tcp_none_below p n host port escape utf8 short NoSocket below h = h
tcp_none_below p n host port escape utf8 short NotUtf8 below h = h (utf8 below)
tcp_none_below p n host port escape utf8 short TooLong below (inl h) = let fits = (short below).0 in absurd (omega arith)
tcp_none_below p n host port escape utf8 short TooLong below (inr h) = let fits = (short below).1 in absurd (omega arith)

pub unix_none_below : (p : Parts) (n : ℕ)
    → (4 < n → ¬ (0 < length (authority p)))
    → (6 < n → (p.fragment ≡ None) × IsEscaped (written p.name) × IsEscaped (socket p))
    → (7 < n → socket p ≢ [])
    → (8 < n → IsUtf8 (percent_decode (written p.name)) × IsUtf8 (percent_decode (socket p)))
    → (9 < n → (length (percent_decode (written p.name)) ≤ 4096) × (length (percent_decode (socket p)) ≤ 4096))
    → (lower : UriFault) → number_of lower < n → ¬ Holds lower (unix p)
unix_none_below p n host escape named utf8 short NoMemory below h = h
unix_none_below p n host escape named utf8 short Scheme below h = cc
unix_none_below p n host escape named utf8 short Tls below h = cc
unix_none_below p n host escape named utf8 short Host below h = host below h
unix_none_below p n host escape named utf8 short Port below h = h
unix_none_below p n host escape named utf8 short Escape below (inl h) = absent p.fragment (escape below).0 h
unix_none_below p n host escape named utf8 short Escape below (inr (inl h)) = h (escape below).1
unix_none_below p n host escape named utf8 short Escape below (inr (inr h)) = h (escape below).2
unix_none_below p n host escape named utf8 short NoSocket below h = named below h
unix_none_below p n host escape named utf8 short NotUtf8 below (inl h) = h (utf8 below).0
unix_none_below p n host escape named utf8 short NotUtf8 below (inr h) = h (utf8 below).1
unix_none_below p n host escape named utf8 short TooLong below (inl h) = let fits = (short below).0 in absurd (omega arith)
unix_none_below p n host escape named utf8 short TooLong below (inr h) = let fits = (short below).1 in absurd (omega arith)

host_character_is_ascii : (c : ℕ) → is_host_character c ≡ true → c < 128
host_character_is_ascii c good = grind (arith, nat_tests)

-- the bytes of a host are letters, digits and marks of ASCII
host_is_ascii : (host : List ℕ) → AllPass is_host_character host → IsAscii host
host_is_ascii host good = IsAscii-from_all host (All-weaker (λ c. is_host_character c ≡ true) (λ c. c < 128) host_character_is_ascii host good)

-- the lowest fault of an address over TCP whose texts could not be made
pub tcp_texts_fault : (p : Parts) (port : ℕ) (fault : UriFault)
    → IsHost p.host → IsPortOf p.port port → p.fragment ≡ None → IsEscaped (written p.name)
    → TextsFault fault p.host (percent_decode (written p.name)) → fault ≢ NoMemory → IsLowest fault (tcp p)
tcp_texts_fault p port NoMemory host is whole escaped bad other = absurd (other refl)
tcp_texts_fault p port Scheme host is whole escaped bad other = absurd bad
tcp_texts_fault p port Tls host is whole escaped bad other = absurd bad
tcp_texts_fault p port Host host is whole escaped bad other = absurd bad
tcp_texts_fault p port Port host is whole escaped bad other = absurd bad
tcp_texts_fault p port Escape host is whole escaped bad other = absurd bad
tcp_texts_fault p port NoSocket host is whole escaped bad other = absurd bad
tcp_texts_fault p port NotUtf8 host is whole escaped (inl bad) other = absurd (bad (IsUtf8-from_ascii p.host (host_is_ascii p.host host.1)))
tcp_texts_fault p port NotUtf8 host is whole escaped (inr bad) other = record {
  holds = bad;
  lowest = tcp_none_below p 8 (λ h. host) (λ h. (port, is)) (λ h. (whole, escaped)) (λ h. absurd (omega arith)) (λ h. absurd (omega arith));
}
tcp_texts_fault p port TooLong host is whole escaped (utf8_host, utf8_name, long) other = record {
  holds = long;
  lowest = tcp_none_below p 9 (λ h. host) (λ h. (port, is)) (λ h. (whole, escaped)) (λ h. utf8_name) (λ h. absurd (omega arith));
}

-- the lowest fault of an address of a Unix socket whose texts could not be made
pub unix_texts_fault : (p : Parts) (fault : UriFault)
    → ¬ (0 < length (authority p)) → p.fragment ≡ None → IsEscaped (written p.name) → IsEscaped (socket p) → socket p ≢ []
    → TextsFault fault (percent_decode (written p.name)) (percent_decode (socket p)) → fault ≢ NoMemory → IsLowest fault (unix p)
unix_texts_fault p NoMemory none whole name path named bad other = absurd (other refl)
unix_texts_fault p Scheme none whole name path named bad other = absurd bad
unix_texts_fault p Tls none whole name path named bad other = absurd bad
unix_texts_fault p Host none whole name path named bad other = absurd bad
unix_texts_fault p Port none whole name path named bad other = absurd bad
unix_texts_fault p Escape none whole name path named bad other = absurd bad
unix_texts_fault p NoSocket none whole name path named bad other = absurd bad
unix_texts_fault p NotUtf8 none whole name path named bad other = record {
  holds = bad;
  lowest = unix_none_below p 8 (λ h. none) (λ h. (whole, name, path)) (λ h. named) (λ h. absurd (omega arith)) (λ h. absurd (omega arith));
}
unix_texts_fault p TooLong none whole name path named (utf8_name, utf8_path, long) other = record {
  holds = long;
  lowest = unix_none_below p 9 (λ h. none) (λ h. (whole, name, path)) (λ h. named) (λ h. (utf8_name, utf8_path)) (λ h. absurd (omega arith));
}

-- an address over TCP with a good host and no port has a bad port
pub tcp_port_fault : (p : Parts) → IsHost p.host → ((port : ℕ) → ¬ IsPortOf p.port port) → IsLowest Port (tcp p)
tcp_port_fault p host never = record {
  holds = port_is_bad p.port never;
  lowest = tcp_none_below p 5 (λ h. host) (λ h. absurd (omega arith)) (λ h. absurd (omega arith)) (λ h. absurd (omega arith)) (λ h. absurd (omega arith));
}

-- an address of a Unix socket with no authority and a bad escape
pub unix_escape_fault : (p : Parts) → ¬ (0 < length (authority p)) → HasBadEscape (unix p) → IsLowest Escape (unix p)
unix_escape_fault p none bad = record {
  holds = bad;
  lowest = unix_none_below p 6 (λ h. none) (λ h. absurd (omega arith)) (λ h. absurd (omega arith)) (λ h. absurd (omega arith)) (λ h. absurd (omega arith));
}

-- the same bytes have the same fault
pub TextsFault-same : (fault : UriFault) (first second first' second' : List ℕ) → first ≡ first' → second ≡ second' → TextsFault fault first second → TextsFault fault first' second'
TextsFault-same fault first second first' second' one two bad =
    let one_moved : TextsFault fault first' second = subst (λ bytes. TextsFault fault bytes second) one bad in
    subst (λ bytes. TextsFault fault first' bytes) two one_moved

-- an option that isn't there, behind its reference too
pub None-copied : (o : Option (Bor (List ℕ))) → false ≡ is_some o → option_copied o ≡ None
None-copied None e = refl
None-copied (Some x) e = cc

-- one that is there
pub IsSome-copied : (o : Option (Bor (List ℕ))) → true ≡ is_some o → IsSome (option_copied o)
IsSome-copied None e = cc
IsSome-copied (Some x) e = refl

-- a list that has no first element is empty
pub empty_from_length : (xs : List ℕ) → ¬ (0 < length xs) → xs ≡ []
empty_from_length [] short = refl
empty_from_length (x ∷ xs) short = absurd (short (omega arith))

-- a list that isn't empty has a first element
pub positive_from_length : (xs : List ℕ) → false ≡ (length xs == 0) → 0 < length xs
positive_from_length xs long = grind (arith, nat_tests)

-- a list that has a first element isn't empty
pub nonempty_from_length : (xs : List ℕ) → 0 < length xs → xs ≢ []
nonempty_from_length xs long e = let short : length xs ≡ 0 = ap length e in absurd (omega arith)

-- The spelling of a place is an address of it.
use Rattle.std.proofs.Common.{◌≡◌, ◌≢◌, ◌∙◌, ℕ, ◌+◌, ◌/◌, ◌%◌, ◌<◌, ◌≤◌, true, false, List, [], ◌∷◌, ◌++◌, Option, Some, None, All, ap, append-nil, append_assoc, arith, codes, drop, find, length, ltb, refl, subst, sym, ⊎_elim, suc, zero}
use Rattle.std.specs.Prelude.{◌==◌, not}
use Rattle.std.specs.Char.{is_ascii_digit, is_ascii_hexdigit}
use Rattle.std.specs.Fmt.{digit_glyph}
use Rattle.std.specs.List.{list_all, slice_split}
use Rattle.std.specs.Option.{option_map}
use Rattle.std.specs.Str.{all_ascii_digits}
use Rattle.std.proofs.lemmas.Bool.{and_parts, false≢true, cases_Bool, cond_both}
use Rattle.std.proofs.lemmas.Bool.Decides.{nat_tests}
use Rattle.std.proofs.lemmas.List.Elements.{All-append, All-cons, All-nil, All-weaker}
use Rattle.std.proofs.lemmas.List.Sums.{AllPass-from_list_all}
use Rattle.std.proofs.lemmas.List.Splits.{slice_split_none}
use Rattle.percent_encoding.proofs.AsciiSetLemmas.{escaped_from_inside}
use Rattle.percent_encoding.proofs.PercentLemmas.{All-percent_encode, IsEscapeByte, percent_encode-nil, percent_encode_escaped, percent_encode_kept, percent_encode_nonempty, round_trip}
use Rattle.percent_encoding.specs.AsciiSet.{contains, should_percent_encode}
use Rattle.percent_encoding.specs.declared.ascii_set.AsciiSet.{AsciiSet}
use Rattle.percent_encoding.specs.Percent.{percent_encode, percent_encode_byte}
use Rattle.lnbd_model.specs.Text.{IsText}
use Rattle.lnbd_uri.specs.Address.{tcp, unix, IsAddress}
use Rattle.lnbd_uri.specs.Parts.{IsEscaped, IsHost, IsPortOf, Parts, StandsFor, is_host_character, is_socket_part, led_by, socket_value}
use Rattle.lnbd_uri.specs.Spelling.{EscapesMarks, IsBytes, tcp_place, tcp_spelling, unix_place, unix_spelling}

-- an escaped text lacks each mark that the set has and that is no `%` and no digit of an escape
lacks_mark : (set : AsciiSet) (mark : ℕ) (bytes : List ℕ) → contains set mark ≡ true → (IsEscapeByte mark → ⊥) → All (λ c. c ≢ mark) (percent_encode set bytes)
lacks_mark set mark bytes inside other =
    All-percent_encode (λ c. c ≢ mark) set bytes
    (λ b kept e. false≢true (sym kept ∙ escaped_from_inside set b (subst (λ c. contains set c ≡ true) (sym e) inside)))
    (λ b digit e. other (subst IsEscapeByte e digit))

-- a byte before an escaped text that is no `%`
IsEscaped-cons : (c : ℕ) (bytes : List ℕ) → c ≢ 37 → IsEscaped bytes → IsEscaped (c ∷ bytes)
IsEscaped-cons c bytes other rest zero within e = absurd (other e)
IsEscaped-cons c bytes other rest (suc i) within e =
    let digits = rest i (omega arith) e in
    let one : suc i + 1 ≡ suc (i + 1) = omega arith in
    let two : suc i + 2 ≡ suc (i + 2) = omega arith in
    rw (one, two) digits

-- an escape before an escaped text
IsEscaped-escape : (high low : ℕ) (bytes : List ℕ) → high ≢ 37 → low ≢ 37 → is_ascii_hexdigit high ≡ true → is_ascii_hexdigit low ≡ true
    → IsEscaped bytes → IsEscaped (37 ∷ high ∷ low ∷ bytes)
IsEscaped-escape high low bytes h l h' l' rest zero within e = (h', l')
IsEscaped-escape high low bytes h l h' l' rest (suc i) within e =
    let digits = IsEscaped-cons high (low ∷ bytes) h (IsEscaped-cons low bytes l rest) i (omega arith) e in
    let one : suc i + 1 ≡ suc (i + 1) = omega arith in
    let two : suc i + 2 ≡ suc (i + 2) = omega arith in
    rw (one, two) digits

-- a digit of an escape
glyph_is_hex : (d : ℕ) → d < 16 → (is_ascii_hexdigit (digit_glyph true d) ≡ true) × (digit_glyph true d ≢ 37)
glyph_is_hex d small =
    cond_both (ltb d 10) (48 + d) (55 + d) (λ g. (is_ascii_hexdigit g ≡ true) × (g ≢ 37))
    (λ digit. (grind (arith, nat_tests), λ e. omega arith))
    (λ letter. (grind (arith, nat_tests), λ e. omega arith))

-- each `%` of an escaped text has its digits
IsEscaped-percent_encode : (set : AsciiSet) (bytes : List ℕ) → contains set 37 ≡ true → IsEscaped (percent_encode set bytes)
unfolding percent_encode_byte
IsEscaped-percent_encode set [] percent = rw percent_encode-nil (λ i within e. absurd (omega arith))
IsEscaped-percent_encode set (b ∷ bytes) percent =
    let rest = IsEscaped-percent_encode set bytes percent in
    let high = glyph_is_hex (b / 16 % 16) (omega arith) in
    let low = glyph_is_hex (b % 16) (omega arith) in
    ⊎_elim
    (λ escaped. rw (percent_encode_escaped set b bytes escaped)
    (IsEscaped-escape (digit_glyph true (b / 16 % 16)) (digit_glyph true (b % 16)) (percent_encode set bytes) high.1 low.1 high.0 low.0 rest))
    (λ kept. rw (percent_encode_kept set b bytes kept)
    (IsEscaped-cons b (percent_encode set bytes) (λ e. false≢true (sym kept ∙ escaped_from_inside set b (subst (λ c. contains set c ≡ true) (sym e) percent))) rest))
    (cases_Bool (should_percent_encode set b))

-- an escaped text stands for the text
StandsFor-percent_encode : (set : AsciiSet) (bytes : List ℕ) → contains set 37 ≡ true → IsBytes bytes → IsText bytes → StandsFor (percent_encode set bytes) bytes
StandsFor-percent_encode set bytes percent small text = record {
  escaped = IsEscaped-percent_encode set bytes percent;
  decoded = sym (round_trip set bytes percent small);
  is_text = text;
}

-- a host lacks what is no character of a host
host_lacks : (mark : ℕ) (host : List ℕ) → is_host_character mark ≡ false → IsHost host → All (λ c. c ≢ mark) host
host_lacks mark host other is =
    All-weaker (λ c. is_host_character c ≡ true) (λ c. c ≢ mark)
    (λ c good e. false≢true (sym other ∙ subst (λ x. is_host_character x ≡ true) e good)) host is.1

-- digits lack what is no digit
digits_lack : (mark : ℕ) (digits : List ℕ) → is_ascii_digit mark ≡ false → all_ascii_digits digits ≡ true → All (λ c. c ≢ mark) digits
digits_lack mark [] other all = All-nil (λ c. c ≢ mark)
digits_lack mark (d ∷ digits) other all =
    All-cons (λ c. c ≢ mark) d digits
    (λ e. false≢true (sym other ∙ subst (λ x. is_ascii_digit x ≡ true) e (and_parts _ _ all).0))
    (digits_lack mark digits other (and_parts _ _ all).1)

-- a host and a port lack what neither has
authority_lacks : (mark : ℕ) (host : List ℕ) (digits : Option (List ℕ)) (port : ℕ) → is_host_character mark ≡ false → is_ascii_digit mark ≡ false → 58 ≢ mark
    → IsHost host → IsPortOf digits port → All (λ c. c ≢ mark) (host ++ led_by 58 digits)
authority_lacks mark host None port no_character no_digit no_colon is_host is_port =
    rw append-nil (host_lacks mark host no_character is_host)
authority_lacks mark host (Some digits) port no_character no_digit no_colon is_host is_port =
    All-append (λ c. c ≢ mark) host (58 ∷ digits) (host_lacks mark host no_character is_host)
    (All-cons (λ c. c ≢ mark) 58 digits no_colon (digits_lack mark digits no_digit is_port.decimal))

abbrev tcp_parts : AsciiSet → List ℕ → Option (List ℕ) → List ℕ → Parts
tcp_parts set host digits name = record { host = host; port = digits; name = Some (percent_encode set name); query = None; fragment = None }

-- the spelling of a place at a host and a port is an address of it
pub IsAddress-tcp : (set : AsciiSet) (host : List ℕ) (digits : Option (List ℕ)) (name : List ℕ) (port : ℕ) → EscapesMarks set
    → IsHost host → length host ≤ 4096 → IsPortOf digits port → IsBytes name → IsText name
    → IsAddress (tcp_spelling set host digits name) (tcp_place host port name)
IsAddress-tcp set host digits name port marks is_host short is_port small text = record {
  reading = tcp (tcp_parts set host digits name);
  reads = record {
    spelled = simp (append_assoc, append-nil);
    fragment = rw append-nil (All-append (λ c. c ≢ 35) (host ++ led_by 58 digits) (47 ∷ percent_encode set name)
        (authority_lacks 35 host digits port refl refl (λ e. omega arith) is_host is_port)
        (All-cons (λ c. c ≢ 35) 47 (percent_encode set name) (λ e. omega arith) (lacks_mark set 35 name marks.number_sign (λ h. grind arith))));
    query = All-append (λ c. c ≢ 63) (host ++ led_by 58 digits) (47 ∷ percent_encode set name)
        (authority_lacks 63 host digits port refl refl (λ e. omega arith) is_host is_port)
        (All-cons (λ c. c ≢ 63) 47 (percent_encode set name) (λ e. omega arith) (lacks_mark set 63 name marks.question (λ h. grind arith)));
    name = authority_lacks 47 host digits port refl refl (λ e. omega arith) is_host is_port;
    port = host_lacks 58 host refl is_host;
  };
  means = record {
    host_is = refl;
    is_host = is_host;
    short = short;
    port_is = is_port;
    name_is = StandsFor-percent_encode set name marks.percent small text;
    no_fragment = refl;
  };
}

passes_no_mark : (mark c : ℕ) → not (c == mark) ≡ true → c ≢ mark
passes_no_mark mark c other = grind (arith, nat_tests)

-- a text lacks what a test doesn't find in it
lacks_by_test : (mark : ℕ) (bytes : List ℕ) → list_all (λ c. not (c == mark)) bytes ≡ true → All (λ c. c ≢ mark) bytes
lacks_by_test mark bytes none =
    All-weaker (λ c. not (c == mark) ≡ true) (λ c. c ≢ mark) (passes_no_mark mark) bytes (AllPass-from_list_all (λ c. not (c == mark)) bytes none)

differs_by_test : (c : ℕ) → c ≢ 38 → (c == 38) ≡ false
differs_by_test c other = grind (arith, nat_tests)

-- what stands behind `socket=` in a query that is one part
socket_value-one : (value : List ℕ) → All (λ c. c ≢ 38) value → socket_value (codes "socket=" ++ value) ≡ Some value
socket_value-one value none =
    let query = codes "socket=" ++ value in
    let whole : All (λ c. c ≢ 38) query = All-append (λ c. c ≢ 38) (codes "socket=") value (lacks_by_test 38 (codes "socket=") refl) none in
    let one : slice_split (λ c. c == 38) query ≡ query ∷ [] =
    slice_split_none (λ c. c == 38) query (All-weaker (λ c. c ≢ 38) (λ c. (c == 38) ≡ false) differs_by_test query whole) in
    ap (λ parts. option_map (λ part. drop 7 part) (find is_socket_part parts)) one

abbrev unix_parts : AsciiSet → List ℕ → List ℕ → Parts
unix_parts set path name = record { host = []; port = None; name = Some (percent_encode set name); query = Some (codes "socket=" ++ percent_encode set path); fragment = None }

-- the spelling of a place at a socket is an address of it
pub IsAddress-unix : (set : AsciiSet) (path name : List ℕ) → EscapesMarks set
    → 0 < length path → IsBytes path → IsText path → IsBytes name → IsText name
    → IsAddress (unix_spelling set path name) (unix_place path name)
IsAddress-unix set path name marks nonempty small text small' text' =
    let value = socket_value-one (percent_encode set path) (lacks_mark set 38 path marks.ampersand (λ h. grind arith)) in
    let stands = StandsFor-percent_encode set path marks.percent small text in
    record {
      reading = unix (unix_parts set path name);
      reads = record {
        spelled = simp (append_assoc, append-nil);
        fragment = All-append (λ c. c ≢ 35) (47 ∷ percent_encode set name) (63 ∷ codes "socket=" ++ percent_encode set path)
            (All-cons (λ c. c ≢ 35) 47 (percent_encode set name) (λ e. omega arith) (lacks_mark set 35 name marks.number_sign (λ h. grind arith)))
            (All-append (λ c. c ≢ 35) (63 ∷ codes "socket=") (percent_encode set path) (lacks_by_test 35 (63 ∷ codes "socket=") refl)
            (lacks_mark set 35 path marks.number_sign (λ h. grind arith)));
        query = All-cons (λ c. c ≢ 63) 47 (percent_encode set name) (λ e. omega arith) (lacks_mark set 63 name marks.question (λ h. grind arith));
        name = All-nil (λ c. c ≢ 47);
        port = All-nil (λ c. c ≢ 58);
      };
      means = record {
        no_authority = refl;
        has_socket = rw value (percent_encode_nonempty set path nonempty);
        path_is = rw value stands;
        name_is = StandsFor-percent_encode set name marks.percent small' text';
        no_fragment = refl;
      };
    }

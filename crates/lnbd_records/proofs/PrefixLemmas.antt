-- No record is a proper prefix of another of its kind.
use Rattle.std.proofs.Common.{◌≡◌, ℕ, ◌+◌, List, [], ◌++◌, length, drop, refl, sym, ap, ◌∙◌, arith, append_assoc, length-append}
use Rattle.lnbd_records.specs.Numbers.{Field, row, IsRow, IsRowThen, fields_at, widths, total}
use Rattle.lnbd_records.specs.Handshake.{hello, client_flags, option_head, option_reply_head, IsHello, IsClientFlags, IsOptionRequest, IsOptionReply}
use Rattle.lnbd_records.proofs.Basics.{nothing}
use Rattle.lnbd_records.proofs.NumberLaws.{then_reads, length-row}

-- Fields of the same widths that spell the front of the same bytes are the same.
pub record Same (fs gs : List Field) (r s : List ℕ) : Type 0 where
  pub fields : fs ≡ gs
  pub rest : r ≡ s

pub same_front : (fs gs : List Field) (r s bytes : List ℕ) → widths fs ≡ widths gs → IsRowThen fs r bytes → IsRowThen gs s bytes → Same fs gs r s
same_front fs gs r s bytes w a b =
    let x = then_reads fs r bytes a in
    let y = then_reads gs s bytes b in
    record {
      fields = sym x.fields ∙ ap (λ (ws : List ℕ). fields_at 0 ws bytes) w ∙ y.fields;
      rest = sym x.behind ∙ ap (λ (ws : List ℕ). drop (total ws) bytes) w ∙ y.behind;
    }

same_length : (fs gs : List Field) (one other rest : List ℕ) → widths fs ≡ widths gs → IsRow fs one → IsRow gs other → other ≡ one ++ rest → rest ≡ []
same_length fs gs one other rest w a b e =
    let size : length other ≡ length one + length rest = ap length e ∙ length-append one rest in
    let m : length one ≡ total (widths fs) = ap length a.spelled ∙ length-row fs in
    let n : length other ≡ total (widths gs) = ap length b.spelled ∙ length-row gs in
    let same : total (widths fs) ≡ total (widths gs) = ap total w in
    nothing rest (omega (arith, size, m, n, same))

pub hello_whole : (one other rest : List ℕ) → IsHello one → IsHello other → other ≡ one ++ rest → rest ≡ []
hello_whole one other rest a b e = same_length (hello a.0) (hello b.0) one other rest refl a.1 b.1 e

pub client_flags_whole : (one other rest : List ℕ) → IsClientFlags one → IsClientFlags other → other ≡ one ++ rest → rest ≡ []
client_flags_whole one other rest a b e = same_length (client_flags a.0) (client_flags b.0) one other rest refl a.1 b.1 e

-- a record's front with more behind its body
more_behind : (fs : List Field) (body one rest other : List ℕ) → IsRowThen fs body one → other ≡ one ++ rest → IsRowThen fs (body ++ rest) other
more_behind fs body one rest other r e = record { fit = r.fit; spelled = e ∙ ap (λ (t : List ℕ). t ++ rest) r.spelled ∙ append_assoc (row fs) body rest }

same_body : (body body' rest : List ℕ) → length body ≡ length body' → body ++ rest ≡ body' → rest ≡ []
same_body body body' rest e f =
    let size : length body + length rest ≡ length body' = sym (length-append body rest) ∙ ap length f in
    nothing rest (omega (arith, size, e))

pub option_request_whole : (one other rest : List ℕ) → IsOptionRequest one → IsOptionRequest other → other ≡ one ++ rest → rest ≡ []
option_request_whole one other rest a b e =
    let s = same_front (option_head a.option (length a.body)) (option_head b.option (length b.body)) (a.body ++ rest) b.body other refl (more_behind _ a.body one rest other a.spelled e) b.spelled in
    let f = s.fields in
    let size : length a.body ≡ length b.body = cc in
    same_body a.body b.body rest size s.rest

pub option_reply_whole : (one other rest : List ℕ) → IsOptionReply one → IsOptionReply other → other ≡ one ++ rest → rest ≡ []
option_reply_whole one other rest a b e =
    let s = same_front (option_reply_head a.option a.type (length a.body)) (option_reply_head b.option b.type (length b.body)) (a.body ++ rest) b.body other refl (more_behind _ a.body one rest other a.spelled e) b.spelled in
    let f = s.fields in
    let size : length a.body ≡ length b.body = cc in
    same_body a.body b.body rest size s.rest

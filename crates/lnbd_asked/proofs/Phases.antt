-- Where negotiation comes to, for a handle that asks by itself and for a link whose options are each the caller's.
use Rattle.std.proofs.Common.{◌≡◌, ℕ, ◌+◌, ◌*◌, ◌<◌, ◌≤◌, ◌^◌, Bool, true, false, not, ◌&&◌, List, [], ◌∷◌, ◌++◌, length, refl, ap, sym, subst, ◌∙◌, ◌==◌, arith, length-append, if◌then◌else◌}
use Rattle.lnbd_records.specs.Limits.{max_text, max_contexts}
use Rattle.lnbd_records.specs.Numbers.{number, row, AllFit, counted}
use Rattle.lnbd_records.specs.Handshake.{option_head}
use Rattle.lnbd_records.specs.Options.{opt_extended_headers, opt_structured_reply, opt_go, opt_set_meta_context, opt_export_name, err_unsup}
use Rattle.lnbd_records.specs.Requests.{all_counted, information_types, info_request, meta_request}
use Rattle.lnbd_records.proofs.NumberLaws.{length-row}
use Rattle.lnbd_history.specs.declared.kinds.Phase.{Phase}
use Rattle.lnbd_history.specs.declared.kinds.Phase.TheVariants.{Asked, AskedByName, OptMode, Ready, Refused}
use Rattle.lnbd_history.specs.Agreement.{Turn, End, Acknowledged, Failed, name_now, contexts_now, is_empty, is_info, is_acknowledged, after_answer, after_structured, after_extended, after_go, after_hello}
use Rattle.lnbd_history.specs.Outgoing.{option_body}
use Rattle.lnbd_asked.specs.Client.{Wish}

-- Where an answer leads the handle and its link: the handle asks its next option, EXPORT_NAME too, or requests may be made, or the export was refused.
pub data Leads : Phase → Phase → Type 0 where
  Asks : (option : ℕ) → (option == opt_export_name) ≡ false → option < 256 ^ 4 → Leads (Asked option) OptMode
  Names : Leads AskedByName OptMode
  Readies : Leads Ready Ready
  Refuses : (code : ℕ) → Leads (Refused code) OptMode

goes : Leads (Asked opt_go) OptMode
goes = Asks opt_go refl (omega arith)

structured_leads : (wanted : List (List ℕ)) (on : Bool) → Leads (after_structured false wanted on) OptMode
structured_leads wanted on = go (on && not (is_empty wanted))
  where
    go : (b : Bool) → Leads (if b then Asked opt_set_meta_context else Asked opt_go) OptMode
    go true = Asks opt_set_meta_context refl (omega arith)
    go false = goes

extended_leads : (structured : Bool) (wanted : List (List ℕ)) (on : Bool) → Leads (after_extended structured false wanted on) OptMode
extended_leads structured wanted on = go (not on && structured)
  where
    go : (b : Bool) → Leads (if b then Asked opt_structured_reply else after_structured false wanted on) OptMode
    go true = Asks opt_structured_reply refl (omega arith)
    go false = structured_leads wanted on

go_leads : (end : End) → Leads (after_go false end) (after_go true end)
go_leads Acknowledged = Readies
go_leads (Failed code) = go (code == err_unsup)
  where
    go : (b : Bool) → Leads (if b then AskedByName else Refused code) OptMode
    go true = Names
    go false = Refuses code

link_extended : (on : Bool) → after_extended false true [] on ≡ OptMode
link_extended true = refl
link_extended false = refl

pub answer_leads : (structured : Bool) (wanted : List (List ℕ)) (option : ℕ) (end : End) → Leads (after_answer structured false wanted option end) (after_answer false true [] option end)
answer_leads structured wanted option end = go (option == opt_extended_headers) (option == opt_structured_reply) (option == opt_go)
  where
    go : (a b c : Bool) →
        Leads (if a then after_extended structured false wanted (is_acknowledged end) else if b then after_structured false wanted (is_acknowledged end) else if c then after_go false end else Asked opt_go)
        (if a then after_extended false true [] (is_acknowledged end) else if b then OptMode else if c then after_go true end else OptMode)
    go true b c = subst (Leads (after_extended structured false wanted (is_acknowledged end))) (sym (link_extended (is_acknowledged end))) (extended_leads structured wanted (is_acknowledged end))
    go false true c = structured_leads wanted (is_acknowledged end)
    go false false true = go_leads end
    go false false false = goes

-- The names that were set are short, and few.
pub record AreShort (turns : List Turn) : Type 0 where
  pub name : length (name_now turns) ≤ max_text
  pub few : length (contexts_now turns) ≤ max_contexts
  pub short : length (all_counted (contexts_now turns)) ≤ length (contexts_now turns) * 4100

-- what is asked by an option
abbrev pub wish_for : ℕ → List Turn → Wish
wish_for option turns = record { option = option; body = option_body option (name_now turns) (contexts_now turns) }

counted_long : (bytes : List ℕ) → length (counted bytes) ≡ 4 + length bytes
counted_long bytes = length-append (row (number 4 (length bytes) ∷ [])) bytes ∙ ap (λ n. n + length bytes) (length-row (number 4 (length bytes) ∷ []))

info_long : (name : List ℕ) → length (info_request name (1 ∷ 2 ∷ 3 ∷ [])) ≡ 12 + length name
info_long name =
    let whole = length-append (counted name) (row (information_types (1 ∷ 2 ∷ 3 ∷ []))) in
    let types = length-row (information_types (1 ∷ 2 ∷ 3 ∷ [])) in
    let front = counted_long name in
    omega (arith, whole, types, front)

meta_long : (name : List ℕ) (contexts : List (List ℕ)) → length (meta_request name contexts) ≡ 8 + length name + length (all_counted contexts)
meta_long name contexts =
    let whole = length-append (counted name) (row (number 4 (length contexts) ∷ []) ++ all_counted contexts) in
    let rest = length-append (row (number 4 (length contexts) ∷ [])) (all_counted contexts) in
    let count = length-row (number 4 (length contexts) ∷ []) in
    let front = counted_long name in
    omega (arith, whole, rest, count, front)

body_short : (option : ℕ) (turns : List Turn) → AreShort turns → length (option_body option (name_now turns) (contexts_now turns)) < 256 ^ 4
body_short option turns s = go (is_info option) (option == opt_set_meta_context) (option == opt_export_name)
  where
    go : (a b c : Bool) → length (if a then info_request (name_now turns) (1 ∷ 2 ∷ 3 ∷ []) else if b then meta_request (name_now turns) (contexts_now turns) else if c then name_now turns else []) < 256 ^ 4
    go true b c = let n = info_long (name_now turns) in let m = s.name in omega (arith, n, m)
    go false true c = let n = meta_long (name_now turns) (contexts_now turns) in let m = s.name in let k = s.few in let l = s.short in omega (arith, n, m, k, l)
    go false false true = let m = s.name in omega (arith, m)
    go false false false = omega arith

pub wish_fits : (option : ℕ) (turns : List Turn) → AreShort turns → option < 256 ^ 4 → AllFit (option_head (wish_for option turns).option (length (wish_for option turns).body))
wish_fits option turns s small = (omega arith, (small, (body_short option turns s, tt)))

-- After the hello an option is asked.
pub hello_asks : (extended structured : Bool) (wanted : List (List ℕ)) → (option : ℕ) × (after_hello extended structured false wanted ≡ Asked option) × ((option == opt_export_name) ≡ false) × (option < 256 ^ 4)
hello_asks true structured wanted = (opt_extended_headers, refl, refl, omega arith)
hello_asks false true wanted = (opt_structured_reply, refl, refl, omega arith)
hello_asks false false wanted = (opt_go, refl, refl, omega arith)

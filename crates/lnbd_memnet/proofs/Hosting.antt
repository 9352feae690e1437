-- Exports and links at their places.
use Rattle.std.proofs.Common.{◌≡◌, ℕ, zero, suc, ◌<◌, ◌≤◌, true, List, [], ◌∷◌, ◌++◌, length, slice_set, map, ◌^◌, refl, sym, subst, ap, ◌∙◌}
use Rattle.std.proofs.lemmas.List.{map_push, length-set}
use Rattle.lnbd_link.specs.declared.wires.Want.{Want}
use Rattle.lnbd_export.specs.Export.{TellsTruly}
use Rattle.lnbd_memnet.specs.declared.hosted.Hosted.{Hosted}
use Rattle.lnbd_memnet.specs.declared.hosted.Served.{Served}
use Rattle.lnbd_memnet.specs.declared.link.Link.{Link}
use Rattle.lnbd_memnet.specs.declared.schedule.Schedule.{Schedule}
use Rattle.lnbd_memnet.specs.Network.{export_in, hosted_of, link_in, AreHosted}
use Rattle.lnbd_memnet.specs.Plays.{due_at, all_due}
use Rattle.lnbd_memnet.specs.Schedule.{Moves}

-- an export more tells truly, too
pub truly_pushed : (exports after : List Hosted) (hosted : Hosted) → ((place : ℕ) → TellsTruly (export_in exports place).export) → TellsTruly hosted.export → after ≡ exports ++ hosted ∷ [] →
    (place : ℕ) → TellsTruly (export_in after place).export
truly_pushed exports after hosted all one is place = subst (λ (es : List Hosted). TellsTruly (export_in es place).export) (sym is) (go exports all place)
  where
    go : (es : List Hosted) → ((p : ℕ) → TellsTruly (export_in es p).export) → (p : ℕ) → TellsTruly (export_in (es ++ hosted ∷ []) p).export
    go [] each zero = one
    go [] each (suc p) = each p
    go (e ∷ es) each zero = each 0
    go (e ∷ es) each (suc p) = go es (λ q. each (suc q)) p

-- one export more is hosted
pub hosted_more : (hosted after : List Hosted) (yielded : List Served) (served : Served) (one : Hosted) → hosted ≡ map hosted_of yielded → one ≡ hosted_of served → after ≡ hosted ++ one ∷ [] → after ≡ map hosted_of (yielded ++ served ∷ [])
hosted_more hosted after yielded served one each is pushed =
    pushed ∙ ap (λ (hs : List Hosted). hs ++ one ∷ []) each ∙ ap (λ (h : Hosted). map hosted_of yielded ++ h ∷ []) is ∙ sym (map_push hosted_of yielded served)

-- The bytes at the start are those that an export has when it is handed in.
pub hosted_start : (served : List Served) (place : ℕ) → (export_in (map hosted_of served) place).start ≡ (export_in (map hosted_of served) place).export.bytes
hosted_start [] place = refl
hosted_start (one ∷ served) zero = refl
hosted_start (one ∷ served) (suc place) = hosted_start served place

-- Links that are due are to the same exports.

set_place : (links : List Link) (k : ℕ) (link : Link) → link.place ≡ (link_in links k).place → (n : ℕ) → (link_in (slice_set links k link) n).place ≡ (link_in links n).place
set_place [] k link e n = refl
set_place (l ∷ links) zero link e zero = e
set_place (l ∷ links) zero link e (suc n) = refl
set_place (l ∷ links) (suc k) link e zero = refl
set_place (l ∷ links) (suc k) link e (suc n) = set_place links k link e n

due_length : (links : List Link) (n : ℕ) → length (due_at n links) ≡ length links
due_length links n = length-set links n (record (link_in links n) { read_due = true; write_due = true })

due_hosted : (links : List Link) (n count : ℕ) → AreHosted links count → AreHosted (due_at n links) count
due_hosted links n count hosted = λ k less.
    subst (λ (p : ℕ). p < count) (sym (set_place links n (record (link_in links n) { read_due = true; write_due = true }) refl k)) (hosted k (subst (λ (m : ℕ). k < m) (due_length links n) less))

all_due_length : (wants : List Want) (links : List Link) → length (all_due wants links) ≡ length links
all_due_length [] links = refl
all_due_length (want ∷ wants) links = all_due_length wants (due_at want.link links) ∙ due_length links want.link

all_due_hosted : (wants : List Want) (links : List Link) (count : ℕ) → AreHosted links count → AreHosted (all_due wants links) count
all_due_hosted [] links count hosted = hosted
all_due_hosted (want ∷ wants) links count hosted = all_due_hosted wants (due_at want.link links) count (due_hosted links want.link count hosted)

pub due_kept : (links after : List Link) (wants : List Want) (count : ℕ) (schedule : Schedule) → AreHosted links count × (length links ≤ 2 ^ 32) × Moves schedule → after ≡ all_due wants links →
    AreHosted after count × (length after ≤ 2 ^ 32) × Moves schedule
due_kept links after wants count schedule held is =
    subst (λ (ls : List Link). AreHosted ls count × (length ls ≤ 2 ^ 32) × Moves schedule) (sym is)
    (all_due_hosted wants links count held.0, subst (λ (n : ℕ). n ≤ 2 ^ 32) (sym (all_due_length wants links)) held.1, held.2)

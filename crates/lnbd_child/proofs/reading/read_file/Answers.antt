use Rattle.std.proofs.Common.{arith, ◌≡◌, ℕ, List, length, Some, None, refl}
use Rattle.lnbd_store.specs.Call.{Length}
use Rattle.lnbd_child.specs.declared.reading.Unread.TheVariants as unread
use Rattle.lnbd_child.specs.Reading.{HasReadOf, NotReadOf, Not_told, Parts, Stopped, Stops, Too_long}
use Rattle.lnbd_child.specs.Steps.{Is, IsFront, IsNever, IsShort, Long}
use Rattle.lnbd_child.proofs.CallLemmas.{has_read}
use Rattle.lnbd_child.proofs.FileLemmas.{long_once, never_short, whole_is}
use Rattle.lnbd_child.proofs.GrownLemmas.{err_as, grew_first, grew_one, ok_both}
use Rattle.lnbd_child.proofs.TouchLemmas.{touches_read, touches_then}
use Rattle.lnbd_child.proofs.reading.read_file.Goals as goal

pub returns-else-length-gt-MAX_FILE-clause-whole : goal.returns-else-length-gt-MAX_FILE-clause-whole
returns-else-length-gt-MAX_FILE-clause-whole g c =
    let n = c.in-Ok.length in
    let told = touches_read c.args.file (Long n) (λ (bytes : List ℕ). n ≡ length bytes) _ _ (λ x e. long_once n x e) c.in-Ok.ensures.shelf in
    ok_both c.read_told_size.result _ _ _ (λ content size front. touches_then c.args.file (Long n) (IsFront content.items) (Is content.items) _ _ _ (λ x y z l f. whole_is n content.items x y z size l f) told front)
    c.read_told_size.ensures.size c.read_told_size.ensures.front

pub returns-else-length-gt-MAX_FILE-clause-read : goal.returns-else-length-gt-MAX_FILE-clause-read
returns-else-length-gt-MAX_FILE-clause-read g c =
    let n = c.in-Ok.length in
    ok_both c.read_told_size.result _ _ _ (λ content size parts. grew_first _ _ _ (Length c.args.file (Some n)) (Parts c.args.file n content.items) (HasReadOf c.args.file content.items)
    (λ calls p. has_read c.args.file n content.items calls size c.if-length-gt-MAX_FILE.false p) c.in-Ok.ensures.told parts) c.read_told_size.ensures.size c.read_told_size.ensures.parts

pub returns-else-length-gt-MAX_FILE-clause-unread : goal.returns-else-length-gt-MAX_FILE-clause-unread
returns-else-length-gt-MAX_FILE-clause-unread g c =
    let n = c.in-Ok.length in
    err_as c.read_told_size.result _ _ (λ why stops. grew_first _ _ _ (Length c.args.file (Some n)) (Stops c.args.file n why) (NotReadOf c.args.file why) (λ calls s. Stopped n calls (omega arith) s refl) c.in-Ok.ensures.told stops)
    c.read_told_size.ensures.stops

pub returns-else-length-gt-MAX_FILE-clause-never : goal.returns-else-length-gt-MAX_FILE-clause-never
returns-else-length-gt-MAX_FILE-clause-never g c =
    let n = c.in-Ok.length in
    let told = touches_read c.args.file (Long n) (λ (bytes : List ℕ). n ≡ length bytes) _ _ (λ x e. long_once n x e) c.in-Ok.ensures.shelf in
    err_as c.read_told_size.result _ _ (λ why short is. touches_then c.args.file (Long n) (IsShort n) IsNever _ _ _ (λ x y z l s. never_short n x y z l s) told (short is)) c.read_told_size.ensures.short

pub returns-then-length-gt-MAX_FILE-clause-unread : goal.returns-then-length-gt-MAX_FILE-clause-unread
returns-then-length-gt-MAX_FILE-clause-unread g c =
    grew_one _ _ (Length c.args.file (Some c.in-Ok.length)) (NotReadOf c.args.file (unread.TooLong c.in-Ok.length)) c.in-Ok.ensures.told (Too_long c.in-Ok.length c.if-length-gt-MAX_FILE.true refl refl)

pub returns-in-Err-clause-unread : goal.returns-in-Err-clause-unread
returns-in-Err-clause-unread g c = grew_one _ _ (Length c.args.file None) (NotReadOf c.args.file unread.Failed) c.in-Err.ensures.told (Not_told refl refl)

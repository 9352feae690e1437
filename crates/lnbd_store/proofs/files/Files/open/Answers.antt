use Rattle.std.proofs.Common.{◌≡◌, ℕ, true, List, None, ap, sym, subst, ◌∙◌}
use Rattle.lnbd_store.specs.Memory.{IsPlace, file_in}
use Rattle.lnbd_store.proofs.StoreLemmas.{opens_numbered, opens_made}
use Rattle.lnbd_store.proofs.files.Files.open.Goals as goal

pub returns-in_ok-number-in-Some-clause-ok : goal.returns-in_ok-number-in-Some-clause-ok
returns-in_ok-number-in-Some-clause-ok c =
    let n = c.in_ok-number-in-Some.ensures.ok in
    let k : IsPlace c.args.path.now c.deref.result.now c.in-Some.field-0 = subst (λ (p : List ℕ). IsPlace p c.deref.result.now c.in-Some.field-0) c.as_bytes.ensures.value (c.in-Some.ensures.some).1 in
    opens_numbered c.args.path.now c.args.write c.in_ok-number-in-Some.field-0 c.in-Some.field-0 c.args.self.now c.self.inside.files.items c.self.inside.opened.items c.number.new.opened.items c.deref.result.now
    (ap (λ h. h.files) c.self.view_is) (ap (λ h. h.opened) c.self.view_is) c.deref.ensures.value k n.0 n.1

pub returns-in_ok-make-in-None-clause-ok : goal.returns-in_ok-make-in-None-clause-ok
returns-in_ok-make-in-None-clause-ok c =
    let w : c.args.write ≡ true = c.if-not-write.false in
    let e : c.deref.result.now ≡ c.args.self.now.files = c.deref.ensures.value ∙ ap (λ h. h.files) c.self.view_is in
    let none : file_in c.args.path.now c.deref.result.now ≡ None = ap (λ p. file_in p c.deref.result.now) (sym c.as_bytes.ensures.value) ∙ c.in-None.ensures.none in
    let m = c.in_ok-make-in-None.ensures.made in
    rw w (opens_made c.args.path.now c.in_ok-make-in-None.field-0 c.args.self.now c.make.new.self (ap (file_in c.args.path.now) (sym e) ∙ none) c.in_ok-make-in-None.ensures.number (ap (λ h. h.opened) m) (ap (λ h. h.files) m))

use Rattle.std.proofs.Common.{◌≡◌, ◌∷◌, List, IfOk, codes, map, string_bytes, sym, subst, rules}
use Rattle.lnbd_args.specs.Tools.{Asks, IsMisplaced}
use Rattle.lnbd_args.specs.Words.{Word}
use Rattle.lnbd_args.proofs.words.asked.Goals as goal

pub returns-in-nbdcopy-clause-asked : goal.returns-in-nbdcopy-clause-asked
returns-in-nbdcopy-clause-asked c =
    let cut : map string_bytes c.args.words.now ≡ codes "nbdcopy" ∷ map string_bytes c.in-Some.rest.now = search rules in
    subst (λ (ws : List Word). IfOk c.copy.result (λ asked. Asks ws asked)) (sym cut) c.copy.ensures.asked

pub returns-in-nbdcopy-clause-address : goal.returns-in-nbdcopy-clause-address
returns-in-nbdcopy-clause-address c = λ fault is.
    let cut : map string_bytes c.args.words.now ≡ codes "nbdcopy" ∷ map string_bytes c.in-Some.rest.now = search rules in
    subst (λ (ws : List Word). IsMisplaced ws fault) (sym cut) (c.copy.ensures.address fault is)

pub returns-in-serve-clause-asked : goal.returns-in-serve-clause-asked
returns-in-serve-clause-asked c =
    let cut : map string_bytes c.args.words.now ≡ codes "serve" ∷ map string_bytes c.in-Some.rest.now = search rules in
    subst (λ (ws : List Word). IfOk c.serve.result (λ asked. Asks ws asked)) (sym cut) c.serve.ensures.asked

pub returns-in-serve-clause-address : goal.returns-in-serve-clause-address
returns-in-serve-clause-address c = λ fault is.
    let cut : map string_bytes c.args.words.now ≡ codes "serve" ∷ map string_bytes c.in-Some.rest.now = search rules in
    subst (λ (ws : List Word). IsMisplaced ws fault) (sym cut) (c.serve.ensures.address fault is)

pub returns-in-nbdinfo-clause-asked : goal.returns-in-nbdinfo-clause-asked
returns-in-nbdinfo-clause-asked c =
    let cut : map string_bytes c.args.words.now ≡ codes "nbdinfo" ∷ map string_bytes c.in-Some.rest.now = search rules in
    subst (λ (ws : List Word). IfOk c.info.result (λ asked. Asks ws asked)) (sym cut) c.info.ensures.asked

pub returns-in-nbdinfo-clause-address : goal.returns-in-nbdinfo-clause-address
returns-in-nbdinfo-clause-address c = λ fault is.
    let cut : map string_bytes c.args.words.now ≡ codes "nbdinfo" ∷ map string_bytes c.in-Some.rest.now = search rules in
    subst (λ (ws : List Word). IsMisplaced ws fault) (sym cut) (c.info.ensures.address fault is)

pub returns-in-nbddump-clause-asked : goal.returns-in-nbddump-clause-asked
returns-in-nbddump-clause-asked c =
    let cut : map string_bytes c.args.words.now ≡ codes "nbddump" ∷ map string_bytes c.in-Some.rest.now = search rules in
    subst (λ (ws : List Word). IfOk c.dump.result (λ asked. Asks ws asked)) (sym cut) c.dump.ensures.asked

pub returns-in-nbddump-clause-address : goal.returns-in-nbddump-clause-address
returns-in-nbddump-clause-address c = λ fault is.
    let cut : map string_bytes c.args.words.now ≡ codes "nbddump" ∷ map string_bytes c.in-Some.rest.now = search rules in
    subst (λ (ws : List Word). IsMisplaced ws fault) (sym cut) (c.dump.ensures.address fault is)

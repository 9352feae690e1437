use Rattle.std.proofs.Common.{[], ◌∷◌, refl, lit<}
use Rattle.lnbd_records.specs.Requests.{Info, Meta, info_request, meta_request}
use Rattle.lnbd_records.proofs.RequestLemmas.{asked_so}
use Rattle.lnbd_options.proofs.law.requests_read_again.Goals as goal

pub returns-clause-go : goal.returns-clause-go
returns-clause-go c = λ name h. asked_so 7 (info_request name (1 ∷ 2 ∷ 3 ∷ [])) (Info name (1 ∷ 2 ∷ 3 ∷ [])) (refl, h, (lit< tt, (lit< tt, (lit< tt, (lit< tt, tt)))), refl)

pub returns-clause-meta : goal.returns-clause-meta
returns-clause-meta c = λ name queries h few short. asked_so 10 (meta_request name queries) (Meta name queries) (refl, h, few, short, refl)

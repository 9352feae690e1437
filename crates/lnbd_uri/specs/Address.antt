-- The grammar of addresses: what a text says that it is, and the place that it means.
use Rattle.std.specs.Prelude.{ℕ, ◌<◌, ◌≤◌, ◌≡◌, ◌⊎◌, List, [], None, codes, length}
use Rattle.lnbd_model.specs.declared.target.Place.{Place}
use Rattle.lnbd_model.specs.declared.target.Target.{Target}
use Rattle.lnbd_model.specs.declared.target.Target.TheVariants.{Tcp, Unix}
use Rattle.lnbd_uri.specs.Parts.{Parts, Begins, authority, written, socket, IsSpelled, IsHost, IsPortOf, StandsFor}

-- what an address says that it is, by its scheme
pub data Reading : Type 0 where
  unknown : Reading  -- none of the four schemes
  secured : Reading  -- over TLS
  tcp : Parts → Reading
  unix : Parts → Reading

-- the text is read as this; a scheme counts as it is written
abbrev pub ReadsAs : List ℕ → Reading → Type 0
ReadsAs text unknown = ¬ (Begins (codes "nbd://") text) × ¬ (Begins (codes "nbd+unix://") text)
    × ¬ (Begins (codes "nbds://") text) × ¬ (Begins (codes "nbds+unix://") text)
ReadsAs text secured = Begins (codes "nbds://") text ⊎ Begins (codes "nbds+unix://") text
ReadsAs text (tcp p) = IsSpelled (codes "nbd://") text p
ReadsAs text (unix p) = IsSpelled (codes "nbd+unix://") text p

-- nbd://HOST[:PORT][/NAME][?QUERY]
pub record IsTcpPlace (p : Parts) (host : List ℕ) (port : ℕ) (name : List ℕ) : Type 0 where
  pub host_is : host ≡ p.host
  pub is_host : IsHost host
  pub short : length host ≤ 4096
  pub port_is : IsPortOf p.port port
  pub name_is : StandsFor (written p.name) name
  pub no_fragment : p.fragment ≡ None

-- nbd+unix://[/NAME]?QUERY, the query with a `socket=` part that isn't empty
pub record IsUnixPlace (p : Parts) (path name : List ℕ) : Type 0 where
  pub no_authority : authority p ≡ []
  pub has_socket : 0 < length (socket p)
  pub path_is : StandsFor (socket p) path
  pub name_is : StandsFor (written p.name) name
  pub no_fragment : p.fragment ≡ None

-- what is read means this target and this name of an export
abbrev pub Means : Reading → Target → List ℕ → Type 0
Means (tcp p) (Tcp host port) name = IsTcpPlace p host port name
Means (unix p) (Unix path) name = IsUnixPlace p path name
Means _ _ _ = ⊥

-- the text is an address of the place
pub record IsAddress (text : List ℕ) (place : Place) : Type 0 where
  pub reading : Reading
  pub reads : ReadsAs text reading
  pub means : Means reading place.to place.name

-- What is under way in a copy of which one side is a file, whose connections stand: bridges between its steps.
use Rattle.std.specs.Prelude.{◌≡◌, ℕ, Bool, List}
use Rattle.lnbd_copy.specs.Windows as windows
use Rattle.lnbd_conduct.specs.declared.terms.Terms.{Terms}
use Rattle.lnbd_connections.specs.Way.{Way}

-- What is seen of it.
pub record Seen : Type 0 where
  pub terms : Terms
  pub windows : windows.Seen
  -- extents were asked for, and not heard yet
  pub asked : Bool
  -- all slices are over, and the connections part
  pub is_parting : Bool
  -- how many slices are bound to each connection
  pub bound : List ℕ

-- Two ways are of one copy.
pub record AreOfOne (way way' : Way) : Type 0 where
  pub at : way'.at ≡ way.at
  pub size : way'.size ≡ way.size
  pub how : way'.how ≡ way.how

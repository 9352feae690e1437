-- Ranges in pages: each page has some neighbours, in order. No other crate cites these.
use Rattle.std.specs.Prelude.{◌≡◌, ℕ, zero, suc, ◌+◌, ◌⊎◌, ◌<◌, ◌≤◌, List, [], ◌∷◌, ◌++◌, length, get_or}
use Rattle.lnbd_extents.specs.declared.places.Side.{Side}
use Rattle.lnbd_extents.specs.declared.places.Side.TheVariants.{Joins, Meets}
use Rattle.lnbd_extents.specs.declared.places.Side.TheVariants.{Apart as Off}

-- how many ranges a full page has
abbrev pub page_size : ℕ
page_size = 256

-- the ranges of all pages
abbrev pub ranges_of : List (List (ℕ × ℕ)) → List (ℕ × ℕ)
ranges_of [] = []
ranges_of (page ∷ pages) = page ++ ranges_of pages

-- no page is empty
abbrev pub AreFilled : List (List (ℕ × ℕ)) → Type 0
AreFilled [] = Unit {0}
AreFilled (page ∷ pages) = (0 < length page) × AreFilled pages

-- the first n pages are full
abbrev pub AreFull : ℕ → List (List (ℕ × ℕ)) → Type 0
AreFull zero pages = Unit {0}
AreFull (suc n) [] = ⊥
AreFull (suc n) (page ∷ pages) = (length page ≡ page_size) × AreFull n pages

-- the page of this number, and where it starts
abbrev pub page_at : List (List (ℕ × ℕ)) → ℕ → List (ℕ × ℕ)
page_at pages i = get_or pages i []

abbrev pub start_at : List (List (ℕ × ℕ)) → ℕ → ℕ
start_at pages i = (get_or (page_at pages i) 0 (0, 0)).0

-- A position belongs to a page that starts there or before it, where the next one starts behind it. What lies in front of all belongs to the first.
abbrev pub IsPageOf : List (List (ℕ × ℕ)) → ℕ → ℕ → Type 0
IsPageOf pages p i = ((i ≡ 0) ⊎ (start_at pages i ≤ p)) × (i + 1 < length pages → p < start_at pages (i + 1))

-- how positions that end here lie to the page of this number, if there is one
abbrev pub IsNextPage : List (List (ℕ × ℕ)) → ℕ → ℕ → Side → Type 0
IsNextPage pages i end Off = i < length pages → end < start_at pages i
IsNextPage pages i end Joins = (i < length pages) × (start_at pages i ≡ end)
IsNextPage pages i end Meets = (i < length pages) × (start_at pages i < end)

-- For proofs alone: the rows of pages, and the page that a key belongs in.
use Rattle.std.specs.Prelude.{◌≡◌, ℕ, ◌+◌, ◌<◌, Bool, false, List, [], ◌∷◌, length, take, drop}
use Rattle.std.specs.List.{All, flat_map}
use Rattle.std.specs.Ordering.{is_gt}
use Rattle.std.specs.declared.cmp.Ordering.TheVariants.{Less}
use Rattle.oe_keeper.specs.Kept.{Key, key_cmp}
use Rattle.oe_keeper.specs.Walk.{key_of}
use Rattle.oe_keeper.specs.declared.rows.Entry.{Entry}
use Rattle.oe_keeper.specs.declared.pages.Page.{Page}

-- the rows of all pages, in order
abbrev pub rows_of : List Page → List Entry
rows_of = flat_map (λ p. p.rows.items)

-- a page has a row
abbrev pub IsFilled : Page → Type 0
IsFilled page = 0 < length page.rows.items

-- whether rows begin with one above the key
abbrev pub begins_above : Key → List Entry → Bool
begins_above k [] = false
begins_above k (e ∷ es) = is_gt (key_cmp (key_of e) k)

-- the rows of the pages before this one are below the key, and those after it above
pub record IsPageOf (k : Key) (pages : List Page) (p : ℕ) : Type 0 where
  pub below : All (λ e. key_cmp (key_of e) k ≡ Less) (rows_of (take p pages))
  pub above : All (λ e. key_cmp k (key_of e) ≡ Less) (rows_of (drop (p + 1) pages))

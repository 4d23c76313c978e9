-- The entries of a square after a change.
use Rattle.std.proofs.Common.{◌≡◌, ℕ, ◌+◌, ◌<◌, ◌≤◌, ℤ, List, [], ◌∷◌, Some, None, drop, map, take, true, refl, sym, ◌∙◌, ap, arith}
use Rattle.std.specs.List.{All, insert}
use Rattle.std.specs.Cmp.{IsTotalOrder}
use Rattle.std.specs.declared.cmp.Ordering.{Ordering}
use Rattle.std.proofs.lemmas.List.{drop-map, map-append, take-map}
use Rattle.std.proofs.lemmas.List.Elements.{All-nil, All-cons, All-head, All-tail}
use Rattle.grid_exact.specs.declared.area.Area.{Area}
use Rattle.ordered_list.specs.Ordered.{put_by, removed_by, Rises}
use Rattle.ordered_list.proofs.Mapped.{all_mapped, put_by-map, removed_by-map, Rises-mapped}
use Rattle.ordered_list.proofs.Rising.{All-put, All-removed}
use Rattle.surface_tree.specs.declared.entry.Entry.{Entry}
use Rattle.surface_tree.specs.declared.part.Part.{Part}
use Rattle.surface_tree.specs.declared.part.Part.TheVariants.{Bare, Quartered', Own'}
use Rattle.surface_tree.specs.declared.part.Part.TheViews.{Quartered, Own}
use Rattle.surface_tree.specs.declared.part.Quarters.{Quarters}
use Rattle.surface_tree.specs.declared.square.Square.{Square}
use Rattle.surface_tree.specs.declared.placed.Plot.{Plot}
use Rattle.surface_tree.specs.Squares.{in_cell}
use Rattle.surface_tree.specs.Changes.{Fits}
use Rattle.outline_boxes.specs.Bounds.{box_of}
use Rattle.surface_tree.specs.Parts.{item_of, content_of, IsEntry, HoldsOwn, HoldsNone, OwnHolds, PartHolds, RestHolds, QuartersHold, AreAll}
use Rattle.surface_tree.proofs.Edits.{Rises-filter, filter_fits_in}
use Rattle.surface_tree.proofs.Holdings.{cell_below, rest_below, past_south_west, past_south_east, past_north_west, past_north_east}
use Rattle.surface_tree.proofs.Visits.{filter_none}

-- what is told of a list with one more item
pub map_insert : {X Y : Type 0} (f : X → Y) (xs : List X) (i : ℕ) (x : X) → map f (insert xs i x) ≡ insert (map f xs) i (f x)
map_insert f xs i x = rw (take-map f i xs, drop-map f i xs) (map-append f (take i xs) (x ∷ drop i xs))

content_items : {T : Type 0} (es : List (Entry T)) → map item_of es ≡ map (λ t. t.1) (map content_of es)
content_items [] = refl
content_items (e ∷ es) = ap (λ zs. item_of e ∷ zs) (content_items es)

content_boxes : {T : Type 0} (plot : T → Plot) (es : List (Entry T)) → All (λ e. IsEntry plot e) es → All (λ (t : Area × T). t.0 ≡ (plot t.1).area) (map content_of es)
content_boxes {T} plot [] h = All-nil (λ (t : Area × T). t.0 ≡ (plot t.1).area)
content_boxes {T} plot (e ∷ es) h = All-cons (λ (t : Area × T). t.0 ≡ (plot t.1).area) (content_of e) (map content_of es) (All-head (λ e. IsEntry plot e) e es h) (content_boxes plot es (All-tail (λ e. IsEntry plot e) e es h))

-- entries that tell the same
pub own_copied : {T : Type 0} (plot : T → Plot) (value : List T) (k : ℕ) (w s : ℤ) (es fs : List (Entry T)) → map content_of fs ≡ map content_of es → HoldsOwn plot value k w s es → HoldsOwn plot value k w s fs
own_copied {T} plot value k w s es fs e h =
    let b = content_boxes plot es h.boxes in
    record {
      boxes = all_mapped content_of (λ (t : Area × T). t.0 ≡ (plot t.1).area) fs (rw e b);
      items = content_items fs ∙ ap (map (λ (t : Area × T). t.1)) e ∙ sym (content_items es) ∙ h.items;
    }

module _ {T K : Type 0} (cmp : K → K → Ordering) (total : IsTotalOrder cmp) (key : T → K) (plot : T → Plot) (i : K) (a : Plot) (value : List T) (k : ℕ) (w s : ℤ) (y : in_cell k w s a ≡ true) where
  own_rises : (es : List (Entry T)) → Rises cmp key value → HoldsOwn plot value k w s es → Rises cmp (λ e. key (item_of e)) es
  own_rises es r h = Rises-mapped cmp key item_of es (rw h.items (Rises-filter cmp total key (λ i. in_cell k w s (plot i)) value r))

  own_put : (x : T) (e : Entry T) (es fs : List (Entry T)) → Fits cmp key plot i a (Some x) value → item_of e ≡ x → box_of e.bounds ≡ a.area → (Rises cmp (λ e. key (item_of e)) es → fs ≡ put_by cmp (λ e. key (item_of e)) e es) → HoldsOwn plot value k w s es → HoldsOwn plot (put_by cmp key x value) k w s fs
  own_put x e es fs f ex eb g h =
      let p : fs ≡ put_by cmp (λ e. key (item_of e)) e es = g (own_rises es f.rises h) in
      let b : IsEntry plot e = eb ∙ ap (λ (z : Plot). z.area) (sym f.is_for.1 ∙ ap plot (sym ex)) in
      rw p (record {
        boxes = All-put cmp total (λ e. key (item_of e)) (λ e. IsEntry plot e) e es b h.boxes;
        items = sym (put_by-map cmp key item_of e es) ∙ ap (λ z. put_by cmp key z (map item_of es)) ex ∙ ap (put_by cmp key x) h.items ∙ sym (filter_fits_in cmp total key plot i a (in_cell k w s) (Some x) value y f);
      })

  pub own_with : (x : T) (e : Entry T) (es fs : List (Entry T)) → Fits cmp key plot i a (Some x) value → item_of e ≡ x → box_of e.bounds ≡ a.area → (Rises cmp (λ e. key (item_of e)) es → map content_of fs ≡ map content_of (put_by cmp (λ e. key (item_of e)) e es)) → HoldsOwn plot value k w s es → HoldsOwn plot (put_by cmp key x value) k w s fs
  own_with x e es fs f ex eb g h =
      let all = put_by cmp (λ e. key (item_of e)) e es in
      own_copied plot (put_by cmp key x value) k w s all fs (g (own_rises es f.rises h)) (own_put x e es all f ex eb (λ r. refl) h)

  pub own_taken : (es fs : List (Entry T)) → Fits cmp key plot i a None value → (Rises cmp (λ e. key (item_of e)) es → fs ≡ removed_by cmp (λ e. key (item_of e)) i es) → HoldsOwn plot value k w s es → HoldsOwn plot (removed_by cmp key i value) k w s fs
  own_taken es fs f g h =
      let p : fs ≡ removed_by cmp (λ e. key (item_of e)) i es = g (own_rises es f.rises h) in
      rw p (record {
        boxes = All-removed cmp total (λ e. key (item_of e)) (λ e. IsEntry plot e) i es h.boxes;
        items = sym (removed_by-map cmp key item_of i es) ∙ ap (removed_by cmp key i) h.items ∙ sym (filter_fits_in cmp total key plot i a (in_cell k w s) None value y f);
      })

-- a square that holds no items itself
pub own_none : {T : Type 0} (plot : T → Plot) (value : List T) (n k : ℕ) (w s : ℤ) → k < n → HoldsNone plot value n k w s → HoldsOwn plot value k w s []
own_none {T} plot value n k w s b h =
    record { boxes = All-nil (λ (e : Entry T). IsEntry plot e); items = sym (filter_none (λ i. in_cell k w s (plot i)) value (λ j d l. cell_below n k w s _ b (h j d l))) }

-- the parts of a square that is not one with items of its own
pub not_own : {T : Type 0} (plot : T → Plot) (value : List T) (square : Square) (q r : Part T) → r ≡ q → ((es : _) (x : _) → r ≡ Own es x → ⊥) → PartHolds plot value square q → OwnHolds plot value square [] × RestHolds plot value square q
not_own plot value square Bare r e n h =
    let k = square.level in (
      own_none plot value (k + 1) k square.west square.south (omega arith) h,
      λ j d l. rest_below (k + 1) k square.west square.south _ (omega arith) (h j d l),
    )
not_own plot value square (Quartered' p sw q se u nw t ne) r e n h = (h.0 (omega arith), (λ l. absurd (omega (arith, l)), h.1))
not_own plot value square (Own' es p x) r e n h = absurd (n es (record { ptr = p.ptr; value = x }) e)

-- four quarters, each with the contents of a square without quarters
pub bare_quarters : {T : Type 0} (plot : T → Plot) (value : List T) (square : Square) (q r : Part T) (quarters : Quarters T) → r ≡ q → ((x : _) → r ≡ Quartered x → ⊥) → AreAll q quarters → RestHolds plot value square q → QuartersHold plot value square quarters
bare_quarters plot value square Bare r quarters e n a h =
    λ l.
    let k = square.level in
    let w = square.west in
    let s = square.south in
    let b : k ≤ k = omega arith in (
      rw a.south_west (λ j d y. past_south_west k k w s _ b l (h j d y)),
      rw a.south_east (λ j d y. past_south_east k k w s _ b l (h j d y)),
      rw a.north_west (λ j d y. past_north_west k k w s _ b l (h j d y)),
      rw a.north_east (λ j d y. past_north_east k k w s _ b l (h j d y)),
    )
bare_quarters plot value square (Quartered' p sw q se u nw t ne) r quarters e n a h =
    absurd (n (record { south_west = record { ptr = p.ptr; value = sw }; south_east = record { ptr = q.ptr; value = se }; north_west = record { ptr = u.ptr; value = nw }; north_east = record { ptr = t.ptr; value = ne } }) e)
bare_quarters plot value square (Own' es p x) r quarters e n a h = absurd (omega (arith, h.0))

-- a square with neither items of its own nor quarters
pub rest_none : {T : Type 0} (plot : T → Plot) (value : List T) (square : Square) (q r : Part T) → r ≡ q → ((x : _) → r ≡ Quartered x → ⊥) → RestHolds plot value square q → HoldsNone plot value square.level square.level square.west square.south
rest_none plot value square Bare r e n h = h
rest_none plot value square (Quartered' p sw q se u nw t ne) r e n h =
    absurd (n (record { south_west = record { ptr = p.ptr; value = sw }; south_east = record { ptr = q.ptr; value = se }; north_west = record { ptr = u.ptr; value = nw }; north_east = record { ptr = t.ptr; value = ne } }) e)
rest_none plot value square (Own' es p x) r e n h = absurd (omega (arith, h.0))

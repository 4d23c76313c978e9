use Rattle.std.proofs.Common.{◌∙◌, ap, map, refl, set, sym}
use Rattle.std.specs.List.{insert}
use Rattle.std.proofs.lemmas.List.{map-set}
use Rattle.ordered_list.proofs.Searches.{search_written, search_inserted}
use Rattle.surface_tree.specs.Parts.{content_of, item_of}
use Rattle.surface_tree.proofs.Owned.{map_insert}
use Rattle.surface_tree.proofs.entry.entries_with.Goals as goal

pub returns-in_ok-all-in-Ok : goal.returns-in_ok-all-in-Ok
returns-in_ok-all-in-Ok g c =
    λ r.
    let es = c.args.entries.now in
    let e = c.args.entry in
    let i = c.in-Ok.i in
    let w = search_written g.T.Key.Ord.cmp g.met.T.Key.Ord.total (λ e. g.T.Placed.key_of (item_of e)) e c.key.result es es i (c.key.ensures ∙ ap g.T.Placed.key_of c.deref.ensures) r refl c.in-Ok.ensures.within c.in-Ok.ensures.found in
    map-set content_of c.in_ok-all-in-Ok.all.items i e ∙ ap (λ zs. set zs i (content_of e)) c.in_ok-all-in-Ok.ensures.told ∙ sym (map-set content_of es i e) ∙ ap (map content_of) w

pub returns-in_ok-insert-in-Err : goal.returns-in_ok-insert-in-Err
returns-in_ok-insert-in-Err g c =
    λ r.
    let es = c.args.entries.now in
    let e = c.args.entry in
    let i = c.in-Err.i in
    let w = search_inserted g.T.Key.Ord.cmp g.met.T.Key.Ord.total (λ e. g.T.Placed.key_of (item_of e)) e c.key.result es es i (c.key.ensures ∙ ap g.T.Placed.key_of c.deref.ensures) r refl c.in-Err.ensures.within c.in-Err.ensures.found in
    ap (map content_of) c.in_ok-insert-in-Err.ensures.items ∙ map_insert content_of c.in_ok-all-in-Err.all.items i e ∙ ap (λ zs. insert zs i (content_of e)) c.in_ok-all-in-Err.ensures.told ∙ sym (map_insert content_of es i e) ∙ ap (map content_of) w

-- What a store that was just opened over files shows of them, and what its first load gives.
use Rattle.std.proofs.Common.{◌≡◌, ◌≤◌, inl, inr, Bool, IsTrue, [], sym, ap, subst, ◌∙◌, arith}
use Rattle.std.proofs.Math.Logic.{∥∥₁_elim}
use Rattle.std.specs.FinMap as maps
use Rattle.sqlite_wal.specs.Recovery.{Image}
use Rattle.sqlite_trees.specs.Tree.{Trees}
use Rattle.sqlite_trees.specs.Props.{Trees-set, rows_set}
use Rattle.sqlite_trees.specs.View.{doubt}
use Rattle.sqlite_trees.specs.Objects.{catalog_tree}
use Rattle.sqlite_catalog.specs.Listing.{IsSound}
use Rattle.sqlite_catalog.proofs.ReadLemmas.{lists_once}
use Rattle.sqlite.specs.Effect.{Database}
use Rattle.sqlite.specs.State.{State, HasCleanDisk, Opens, IsLive}
use Rattle.sqlite.specs.Files.{HoldsDatabase, AreFoundIn}
use Rattle.sqlite.proofs.ListingLemmas.{empty_is_sound}
use Rattle.oe_keeper.specs.Kept.{Kept}
use Rattle.oe_sqlite.specs.Model.{Holds, tables_in}
use Rattle.oe_sqlite.specs.Shape.{kept_schema, no_schema}
use Rattle.oe_sqlite.specs.FileRows.{HoldsNone, HoldsRows, GiveRows}
use Rattle.oe_sqlite.proofs.Blank.{nothing_is_empty}

abbrev FindsAll : Image → State → Type 0
FindsAll image s = (db : Trees) → HoldsDatabase image db → s.committed.trees ≡ db

-- its trees are those of the files, and they list one schema
rows_found : (image : Image) (rows : Kept) (s : State) → Opens s × IsLive s → FindsAll image s → HoldsRows image rows → (s.now.schema ≡ kept_schema) × (tables_in (s.now.trees 0) ≡ rows)
rows_found image rows s opened holds h =
    let committed : s.committed.trees ≡ h.0 = ∥∥₁_elim h.1 (Trees-set _ _) (holds h.0) in
    let trees : s.now.trees ≡ h.0 = ap (λ (d : Database). d.trees) opened.0.clean ∙ committed in
    let sound : IsSound kept_schema s.now.trees = subst (IsSound kept_schema) (sym trees) h.2.sound in
    (lists_once _ _ _ (opened.1 opened.0.is_open).0.lists sound.lists, ap (λ (t : Trees). tables_in (t 0)) trees ∙ h.2.are)

none_found : (image : Image) (s : State) → Opens s × IsLive s → HoldsNone image → FindsAll image s → AreFoundIn image s.committed.trees → s.now.schema ≡ no_schema
none_found image s opened nothing holds found =
    let last : s.committed.trees catalog_tree ≡ [] = elim nothing [
      | inl blank ↦ (nothing_is_empty image s.committed.trees blank found).1
      | inr empty ↦ ∥∥₁_elim empty (rows_set _ _) (λ it. ap (λ (t : Trees). t catalog_tree) (holds it.0 it.1) ∙ it.2.1)
    ] in
    let none : s.now.trees catalog_tree ≡ [] = ap (λ (d : Database). d.trees catalog_tree) opened.0.clean ∙ last in
    lists_once _ _ _ (opened.1 opened.0.is_open).0.lists (empty_is_sound s.now.trees none).lists

-- the store as it was opened, and after its load
module _ (image : Image) (s t : State) (is_told : Bool) (tables rows : Kept) (opened : HasCleanDisk s → Opens s × IsLive s) (found : HasCleanDisk s → FindsAll image s)
    (reads : HasCleanDisk s → AreFoundIn image s.committed.trees) (clean : doubt s.is_clean ≤ doubt t.is_clean) (told : HasCleanDisk t → IsTrue t.is_open → IsTrue is_told → Holds t tables)
    (shaped : s.now.schema ≡ kept_schema → s.now ≡ s.committed → HasCleanDisk t → IsTrue t.is_open → IsTrue is_told × (tables_in (s.now.trees 0) ≡ tables))
    (blank : s.now.schema ≡ no_schema → IsTrue is_told) (none : s.now.schema ≡ no_schema → HasCleanDisk t → tables ≡ maps.empty) where
  pub loads : GiveRows image rows → HasCleanDisk t → IsTrue t.is_open → IsTrue is_told × (tables ≡ rows) × Holds t rows
  loads held sure up =
      let early : HasCleanDisk s = omega arith in
      let it : IsTrue is_told × (tables ≡ rows) = elim held [
        | inl kept ↦
            let was = rows_found image rows s (opened early) (found early) kept in
            let now = shaped was.0 (opened early).0.clean sure up in
            (now.0, sym now.1 ∙ was.1)
        | inr empty ↦ let was = none_found image s (opened early) empty.0 (found early) (reads early) in (blank was, none was sure ∙ sym empty.1)
      ] in
      (it.0, it.1, subst (Holds t) it.1 (told sure up it.0))

-- Files that hold nothing yet recover to no database.
use Rattle.std.proofs.Common.{◌≡◌, inl, inr, ℕ, ◌-◌, ◌*◌, ◌<◌, ◌≤◌, List, [], length, take, slice_index, Some, unwrap_or, Option, refl, sym, ap, ◌∙◌, arith, get_or-take}
use Rattle.std.proofs.Math.Logic.{∥∥₁_elim}
use Rattle.std.proofs.lemmas.List.{length-take}
use Rattle.sqlite_wal.specs.Format.{part}
use Rattle.sqlite_wal.specs.Recovery.{Image, pages_after}
use Rattle.sqlite_wal.proofs.PartLemmas.{slice_index-part, part_within}
use Rattle.sqlite_wal.proofs.RecoveryLemmas.{replays_once}
use Rattle.sqlite_wal.proofs.AppendLemmas.{some_value, page_from_pages}
use Rattle.sqlite_pages.specs.PageMap.{PageMap}
use Rattle.sqlite_pool.specs.Stored.{stored_size, Adopts}
use Rattle.sqlite_pool.specs.StoredLaws.{trimmed_some}
use Rattle.sqlite_pool.specs.File.{header_in, IsSoundFile}
use Rattle.sqlite_pool.specs.Opening.{IsBlankFile}
use Rattle.sqlite_pool.proofs.ProbeLemmas.{first_byte}
use Rattle.sqlite_trees.specs.Tree.{Trees}
use Rattle.sqlite.specs.Files.{IsNothing, IsEmpty, AreFoundIn}

module _ (size : ℕ) (image : Image) (pages : PageMap) (found : Adopts size image pages) (sound : IsSoundFile size pages) where
  page_one : (page : List ℕ) × (found.stored 1 ≡ Some page)
  page_one = some_value (found.stored 1) found.whole.first

  head : header_in pages ≡ take 100 (take size page_one.0)
  head =
      let used : pages 1 ≡ Some (take size page_one.0) = ap (λ (p : PageMap). p 1) (sym found.shows) ∙ trimmed_some size found.stored 1 page_one.0 page_one.1 in
      ap (λ (o : Option (List ℕ)). take 100 (unwrap_or o [])) used

  -- the name of the format has 16 bytes
  long : 16 ≤ size
  long =
      let named = ap length sound.header.0.magic in
      let first = length-take 16 (header_in pages) in
      let whole = ap length head ∙ length-take 100 (take size page_one.0) in
      let used = length-take size page_one.0 in
      grind arith

  begins : slice_index page_one.0 0 ≡ 83
  begins =
      sym (get_or-take size page_one.0 0 0 (let h = long in omega arith)) ∙ sym (get_or-take 100 (take size page_one.0) 0 0 (omega arith)) ∙ sym (ap (λ (b : List ℕ). slice_index b 0) head)
      ∙ sym (get_or-take 16 (header_in pages) 0 0 (omega arith)) ∙ ap (λ (b : List ℕ). slice_index b 0) sound.header.0.magic

  -- with no frame to replay, the first page is in the database file
  in_file : found.found.frames ≡ 0 → (stored_size size ≤ length image.db) × (slice_index image.db 0 ≡ 83)
  in_file none =
      let whole = stored_size size in
      let page = page_one.0 in
      let h = long in
      let alone : pages_after whole image.log image.db 0 1 ≡ Some page = ap (λ (p : PageMap). p 1) (sym (ap (pages_after whole image.log image.db) none) ∙ found.found.gives) ∙ page_one.1 in
      let start : (1 - 1) * whole ≡ 0 = omega arith in
      let front : part image.db 0 whole ≡ page = ap (λ (at : ℕ). part image.db at whole) (sym start) ∙ (page_from_pages whole image.log image.db 0 1 page alone).0 in
      let within = part_within image.db 0 whole (omega arith) (ap length front ∙ found.whole.sized 1 page page_one.1) in
      (omega arith, sym (slice_index-part image.db 0 whole 0 (omega arith)) ∙ ap (λ (b : List ℕ). slice_index b 0) front ∙ begins)

  not_blank : (other : ℕ) → 0 < other → ¬ IsBlankFile other image
  not_blank other some (inl none) = omega (arith, found.found.present)
  not_blank other some (inr blank) =
      let whole = stored_size size in
      let none : found.found.frames ≡ 0 = elim blank.0 [
        | inl ignored ↦ replays_once whole image.log found.found.frames 0 found.found.replays (inl (ignored.0, refl))
        | inr taken ↦ elim found.found.replays [
          | inl ignored ↦ ignored.1
          | inr ours ↦ replays_once whole image.log found.found.frames 0 found.found.replays (rw (sym ours.0.head.size ∙ taken.0.head.size) blank.0)
        ]
      ] in
      let (large, magic) = in_file none in
      let h = long in
      elim blank.1.0 [
        | inl short ↦ omega arith
        | inr more ↦ elim more [ inl zero' ↦ omega (arith, zero'.1) | inr rest ↦ rest.1 (magic ∙ sym (first_byte other some)) ]
      ]

pub nothing_is_empty : (image : Image) (db : Trees) → IsNothing image → AreFoundIn image db → IsEmpty db
nothing_is_empty image db nothing (inr none) = none.1
nothing_is_empty image db nothing (inl found) = absurd (∥∥₁_elim found.4 (λ x y. absurd x) (λ ours.
    let never = not_blank found.0 image found.1 found.3 ours.file.sound in
    elim nothing [ inl plain ↦ never _ (omega arith) plain | inr summed ↦ never _ (omega arith) summed ]))

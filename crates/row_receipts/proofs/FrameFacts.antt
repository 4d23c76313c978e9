-- A list in the row of a case.
use Rattle.std.proofs.Common.{arith, ℕ, ◌≡◌, ◌≢◌, pos, false, List, [], ◌∷◌, ◌++◌, map, length, Option, Some, None, codes, refl, ap, sym, ◌∙◌, append_assoc}
use Rattle.std.specs.Fmt.{decimal, digits}
use Rattle.std.proofs.lemmas.Int.{ints}
use Rattle.jiff_core.specs.declared.civil.date.Date.{Date}
use Rattle.jiff_core.proofs.CalendarLemmas.{days_in_month_bounds}
use Rattle.jiff_core.proofs.SignedLemmas.{signed_arith}
use Rattle.grid_exact.specs.declared.point.Point.{Point}
use Rattle.airfields.specs.declared.structure.StructureKind.TheVariants as kinds
use Rattle.finding_lists.specs.declared.finding.Finding.{Finding}
use Rattle.determination_dates.specs.Days.{IsLimited}
use Rattle.determination_dates.specs.declared.determination.Decision.TheVariants as decisions
use Rattle.determination_dates.specs.declared.determination.Record.{Record}
use Rattle.determination_dates.proofs.Limits.{limited_year}
use Rattle.case_requests.specs.declared.submission.Submission.{Submission}
use Rattle.case_records.specs.declared.case.KeptList.{KeptList}
use Rattle.case_records.specs.declared.case.KeptCase.{KeptCase}
use Rattle.wire_values.specs.Commas.{with_commas}
use Rattle.wire_replies.specs.Entries.{entry_text, entries_text, list_text}
use Rattle.row_cases.specs.Entries.{IsList, list_fields}
use Rattle.row_cases.specs.Filings.{filing_row, IsPlainCase, IsFilingRow}
use Rattle.row_cases.specs.declared.filing.FilingRow.{FilingRow}
use Rattle.row_receipts.specs.Fields.{frame_text, framed_text}

entries_fields : (list : List Finding) → entries_text list ≡ with_commas (map entry_text list)
entries_fields [] = refl
entries_fields (f ∷ fs) = ap (λ t. (44 ∷ entry_text f) ++ t) (entries_fields fs)

list_text_fields : (list : List Finding) → list_text list ≡ with_commas (list_fields list)
list_text_fields list = ap (λ t. 44 ∷ (decimal (length list) ++ t)) (entries_fields list)

-- the case whose row has this list

day : Date
day = record {
  year = pos 2000;
  month = 1;
  day = 1;
  year_in = (omega (arith, signed_arith), omega (arith, signed_arith));
  month_in = (omega arith, omega arith);
  day_in = (omega arith, omega (arith, days_in_month_bounds (pos 2000) 1));
}

day_limited : IsLimited day
unfolding day
day_limited = (limited_year day).1 (omega (arith, signed_arith), omega (arith, signed_arith))

origin : Point
origin = record { x = pos 0; y = pos 0; on_grid = record { west = omega (arith, ints); east = omega (arith, ints); south = omega (arith, ints); north = omega (arith, ints) } }

notice : Submission
notice = record {
  start = day;
  permit = None;
  fcc = None;
  emergency = false;
  statement = false;
  filing = record {
    at = origin;
    terrain = pos 0;
    height = pos 0;
    kind = kinds.Object;
    mobile = pos 0;
    flags = record { shielded = false; device = false; other_rule = false; increases = false; controlled = false; temporary = false };
    on = None;
  };
}

issued : Record
issued = record {
  issued = day;
  decision = decisions.NoHazard;
  deadline = None;
  ordinary = day;
  pending = false;
  affirmed = None;
  set_expiry = None;
  extensions = 0;
  revisions = 0;
}

kept : List Finding → KeptList
kept list = record { last = 0; list = list }

frame_case : List Finding → KeptCase
frame_case list = record { submission = notice; received = day; form = None; life = record { end = None; determination = Some issued }; list = Some (kept list) }

pub frame_row : List Finding → FilingRow
frame_row list = record { number = 1; case = frame_case list }

frame_plain : (list : List Finding) → IsList list → IsPlainCase (frame_case list)
unfolding frame_case notice issued kept
frame_plain list h = record {
  submission = record {
    start = day_limited;
    permit = tt;
    fcc = tt;
    filing = (
      record {
        terrain_least = omega (arith, ints);
        terrain_most = omega (arith, ints);
        height_least = omega (arith, ints);
        height_most = omega (arith, ints);
        mobile_least = omega (arith, ints);
        mobile_most = omega (arith, ints);
      },
      tt,
    );
  };
  received = day_limited;
  form = tt;
  judged = (
    record { issued = day_limited; deadline = tt; ordinary = day_limited; affirmed = tt; set_expiry = tt; extensions = omega arith; revisions = omega arith },
    record { last = omega arith; list = h },
  );
}

frame_is : (list : List Finding) → framed_text list ≡ filing_row (frame_case list)
unfolding frame_case notice issued kept origin day digits
frame_is list = ap (λ t. frame_text ++ t) (list_text_fields list)

is_row : (row : List ℕ) (list : List Finding) → IsList list → row ≡ framed_text list → IsFilingRow (codes "000001") row (frame_row list)
unfolding frame_row
is_row row list h e = record { key_is = refl; row_is = e ∙ frame_is list; numbered = (omega arith, omega arith); plain = frame_plain list h }

-- a row that is that of no case is none of these
pub no_frame : (row : List ℕ) → ((v : FilingRow) → IsFilingRow (codes "000001") row v → ⊥) → (list : List Finding) → IsList list → row ≢ framed_text list
no_frame row misses list h e = misses (frame_row list) (is_row row list h e)

-- the list of a case

list_of : FilingRow → Option KeptList
list_of v = v.case.list

abbrev pub OneRow : Type 0
OneRow = (key row : List ℕ) (a b : FilingRow) → IsFilingRow key row a → IsFilingRow key row b → a ≡ b

same_kept : OneRow → (row : List ℕ) (v : FilingRow) → IsFilingRow (codes "000001") row v → (list : List Finding) → IsList list → row ≡ framed_text list → v.case.list ≡ Some (kept list)
unfolding list_of frame_row frame_case
same_kept one row v is list h e = ap list_of (one (codes "000001") row v (frame_row list) is (is_row row list h e))

pub no_list : OneRow → (row : List ℕ) (v : FilingRow) → IsFilingRow (codes "000001") row v → v.case.list ≡ None → (list : List Finding) → IsList list → row ≢ framed_text list
no_list one row v is none list h e = let same = sym none ∙ same_kept one row v is list h e in cc

pub one_list_framed : OneRow → (row : List ℕ) (v : FilingRow) → IsFilingRow (codes "000001") row v → (k : KeptList) → v.case.list ≡ Some k → (list : List Finding) → IsList list → row ≡ framed_text list → k.list ≡ list
unfolding kept
one_list_framed one row v is k there list h e = let same = sym there ∙ same_kept one row v is list h e in cc

pub one_list : OneRow → (a b : List Finding) → IsList a → IsList b → list_text a ≡ list_text b → a ≡ b
unfolding kept frame_row frame_case
one_list one a b h k e =
    one_list_framed one (framed_text a) (frame_row a) (is_row (framed_text a) a h refl) (kept a) refl b k (ap (λ t. frame_text ++ t) e)

-- one part more behind the row
pub one_more_part : (whole row first second part : List ℕ) (old new : List (List ℕ)) → whole ≡ row ++ with_commas old → old ≡ part ∷ new → first ≡ row ++ 44 ∷ [] → second ≡ first ++ part
    → whole ≡ second ++ with_commas new
one_more_part whole row first second part old new e o f g =
    e ∙ ap (λ r. row ++ with_commas r) o
    ∙ sym (append_assoc (row ++ 44 ∷ []) part (with_commas new) ∙ append_assoc row (44 ∷ []) (part ++ with_commas new))
    ∙ ap (λ t. t ++ with_commas new) (sym (g ∙ ap (λ t. t ++ part) f))

-- Tables of an older format in the format of today are the rows of the desk.
use Rattle.std.proofs.Common.{◌≡◌, ◌≢◌, refl, sym, ap, ◌∙◌, subst, arith, ℕ, ◌==◌, ◌<◌, List, [], ◌∷◌, ◌++◌, append_assoc, append-nil, length, Option, Some, None, Bool, true, false, not, ◌&&◌, cond}
use Rattle.std.specs.List.{flat_map}
use Rattle.std.specs.Option.{option_map}
use Rattle.std.specs.Str.{bytes_eq}
use Rattle.std.specs.Ordering.{eq_by_cmp}
use Rattle.std.specs.FinMap as maps
use Rattle.std.proofs.lemmas.Bool.Decides.{Decides-eqb}
use Rattle.std.proofs.lemmas.List.Sums.{fold-append}
use Rattle.std.proofs.lemmas.Slice.Eq.{bytes_eq-Decides}
use Rattle.oe_keeper.specs.Kept.{Key, Kept, key_cmp, key_cmp_total, rows_after_change, rows_after_changes}
use Rattle.oe_keeper.specs.declared.change.RowChange.TheVariants.{Put}
use Rattle.oe_keeper.specs.declared.change.Table.TheVariants as tables
use Rattle.oe_keeper.proofs.Keys.{key_cmp-same}
use Rattle.case_records.specs.declared.case.KeptCase.{KeptCase}
use Rattle.row_register.specs.Desk.{desk_row}
use Rattle.row_register.specs.declared.desk.DeskRow.TheVariants as days
use Rattle.wire_requests.specs.Limits.{IsCase}
use Rattle.row_cases.specs.Cases.{case_key}
use Rattle.row_cases.specs.Filings.{IsPlainCase, filing_row}
use Rattle.row_cases.specs.Older.{IsUnrevised, older_filing_row, renewed_row}
use Rattle.desk_machine.specs.States.{State, case_at}
use Rattle.desk_tables.specs.Changes.{put_desk}
use Rattle.desk_tables.specs.Opening.{format_key, is_older, renewed, renewed_filing}
use Rattle.desk_tables.specs.Rows.{AreRows, is_bare}
use Rattle.desk_tables.specs.Tables.{filing_found, found_in}
use Rattle.desk_tables.specs.Values.{Row}
use Rattle.desk_tables.proofs.Kepts.{equal, itself, put_elsewhere, put_here}
use Rattle.desk_tables.specs.Reachable.{IsCaseOf, IsDesk}
use Rattle.desk_tables.proofs.NewCases.{case_found}
use Rattle.desk_tables.proofs.Places.{mapped}
use Rattle.desk_tables.proofs.RowsInOrder.{ComesAt, comes_at}
use Rattle.reopening_laws.specs.Older.{IsAged, RevisesNothing}
use Rattle.reopening_laws.proofs.CaseKeys.{number_again, number_in}
use Rattle.reopening_laws.proofs.CaseRows.{filing_below}
use Rattle.reopening_laws.proofs.NoneWanting.{format_there}
use Rattle.reopening_laws.proofs.RowNames.{name_found}

-- the law of the rows of cases
abbrev pub RowsAreRenewed : Type 0
RowsAreRenewed = (c : KeptCase) → IsPlainCase c → IsUnrevised c → renewed_row (older_filing_row c) ≡ filing_row c

-- ---- the row under a key after the rows so far were renewed

-- by the row among those so far, and the one before the changes
abbrev now_by : Option (List ℕ) → Key → Option (List ℕ) → Option (List ℕ)
now_by None q before = before
now_by (Some text) q before = cond (q.0 == 3) (Some (renewed_row text)) before

abbrev AreRenewed : Kept → Kept → Kept → Type 0
AreRenewed start so_far now = (q : Key) → maps.get now q ≡ now_by (maps.get so_far q) q (maps.get start q)

module _ (aged start : Kept) (kept_start : (key : List ℕ) → maps.get start (3, key) ≡ maps.get aged (3, key)) where
  -- one row more
  module _ (now so_far : Kept) (r : Row) (are : AreRenewed start so_far now) (new : maps.get so_far r.0 ≡ None) (here : maps.get aged r.0 ≡ Some r.1) where
    before : maps.get now r.0 ≡ maps.get start r.0
    before = are r.0 ∙ ap (λ (o : Option (List ℕ)). now_by o r.0 (maps.get start r.0)) new

    in_filings : (r.0.0 == 3) ≡ true → r.0 ≡ (3, r.0.1)
    in_filings e = let t : r.0.0 ≡ 3 = (Decides-eqb r.0.0 3).0 e in λ i. (t i, r.0.1)

    filed : (r.0.0 == 3) ≡ true → maps.get now r.0 ≡ Some r.1
    filed e =
        let k = in_filings e in
        before ∙ ap (λ (q : Key). maps.get start q) k ∙ kept_start r.0.1 ∙ ap (λ (q : Key). maps.get aged q) (sym k) ∙ here

    abbrev after : Bool → Bool → Kept
    after a b = rows_after_changes now (cond (a && not b) (Put tables.Filing r.0.1 (renewed_row r.1) ∷ []) [])

    at_row : (a b : Bool) → (r.0.0 == 3) ≡ a → bytes_eq (renewed_row r.1) r.1 ≡ b → maps.get (after a b) r.0 ≡ cond a (Some (renewed_row r.1)) (maps.get start r.0)
    at_row false b e d = before
    at_row true true e d = filed e ∙ ap Some (sym ((bytes_eq-Decides (renewed_row r.1) r.1).0 d))
    at_row true false e d =
        ap (λ (q : Key). maps.get (maps.insert now (3, r.0.1) (renewed_row r.1)) q) (in_filings e) ∙ put_here now (3, r.0.1) (renewed_row r.1)

    beside : (a b : Bool) (q : Key) → (r.0.0 == 3) ≡ a → q ≢ r.0 → maps.get (after a b) q ≡ maps.get now q
    beside false b q e apart = refl
    beside true true q e apart = refl
    beside true false q e apart = put_elsewhere now (3, r.0.1) q (renewed_row r.1) (λ h. apart (h ∙ sym (in_filings e)))

    one_by : (q : Key) (c : Bool) → eq_by_cmp key_cmp q r.0 ≡ c
        → maps.get (after (r.0.0 == 3) (bytes_eq (renewed_row r.1) r.1)) q ≡ now_by (cond c (Some r.1) (maps.get so_far q)) q (maps.get start q)
    one_by q true e =
        let same : q ≡ r.0 = key_cmp-same q r.0 (equal (key_cmp q r.0) e) in
        subst (λ (k : Key). maps.get (after (r.0.0 == 3) (bytes_eq (renewed_row r.1) r.1)) k ≡ cond (k.0 == 3) (Some (renewed_row r.1)) (maps.get start k)) (sym same)
        (at_row (r.0.0 == 3) (bytes_eq (renewed_row r.1) r.1) refl refl)
    one_by q false e =
        let apart : q ≢ r.0 = λ h. absurd (cc (sym e ∙ ap (λ (k : Key). eq_by_cmp key_cmp k r.0) h ∙ itself r.0)) in
        beside (r.0.0 == 3) (bytes_eq (renewed_row r.1) r.1) q refl apart ∙ are q

    pub one_more : AreRenewed start (maps.insert so_far r.0 r.1) (rows_after_changes now (renewed_filing r))
    one_more q =
        one_by q (eq_by_cmp key_cmp q r.0) refl
        ∙ ap (λ (o : Option (List ℕ)). now_by o q (maps.get start q)) (sym (maps.get-insert key_cmp_total so_far r.0 r.1 q))

  again : maps.from_entries (maps.entries aged) ≡ aged
  again = maps.same_map key_cmp_total key_cmp-same _ aged (λ k. maps.get-from_entries key_cmp_total (maps.entries aged) k ∙ sym (maps.get-entries aged k))

  walked : (ys xs : List Row) (now : Kept) → maps.entries aged ≡ xs ++ ys → AreRenewed start (maps.from_entries xs) now
      → AreRenewed start aged (rows_after_changes now (flat_map renewed_filing ys))
  walked [] xs now rows are =
      subst (λ (so_far : Kept). AreRenewed start so_far now) (ap (λ (es : List Row). maps.from_entries es) (sym (rows ∙ append-nil xs)) ∙ again) are
  walked (r ∷ ys) xs now rows are =
      let at : ComesAt aged (maps.from_entries xs) r = comes_at aged xs ys r rows in
      let more = one_more now (maps.from_entries xs) r are at.new at.here in
      let pushed = maps.from_entries_push key_cmp_total key_cmp-same xs r.0 r.1 (sym (maps.get-from_entries key_cmp_total xs r.0) ∙ at.new) in
      let so = subst (λ (so_far : Kept). AreRenewed start so_far (rows_after_changes now (renewed_filing r))) (sym pushed) more in
      subst (λ (m : Kept). AreRenewed start aged m) (sym (fold-append rows_after_change now (renewed_filing r) (flat_map renewed_filing ys)))
      (walked ys (xs ++ r ∷ []) (rows_after_changes now (renewed_filing r)) (rows ∙ sym (append_assoc xs (r ∷ []) ys)) so)

  pub all_renewed : AreRenewed start aged (rows_after_changes start (flat_map renewed_filing (maps.entries aged)))
  all_renewed = walked (maps.entries aged) [] start refl (λ q. sym (ap (λ (o : Option (List ℕ)). now_by o q (maps.get start q)) (maps.get-empty key_cmp q)))

-- ---- and then they are the rows of the desk

module _ (law : RowsAreRenewed) (s : State) (format : List ℕ) (kept aged : Kept) (desk : IsDesk s) (rows : AreRows s kept) (some : is_bare s ≡ false) (none : RevisesNothing s) (are : IsAged format s kept aged) where
  start : Kept
  start = maps.insert aged (2, format_key) (desk_row days.Format)

  not_format : (key : List ℕ) → ◌≢◌ {A = Key} (3, key) (2, format_key)
  not_format key h = absurd (omega (arith, ap (λ (k : Key). k.0) h))

  in_start : (key : List ℕ) → maps.get start (3, key) ≡ maps.get aged (3, key)
  unfolding start
  in_start key = put_elsewhere aged (2, format_key) (3, key) (desk_row days.Format) (not_format key)

  abbrev done : Kept
  done = rows_after_changes start (flat_map renewed_filing (maps.entries aged))

  -- a row of a case
  of_case : (key : List ℕ) (o : Option (List ℕ)) → maps.get kept (3, key) ≡ o → option_map renewed_row (maps.get aged (3, key)) ≡ o
  of_case key None at = ap (option_map renewed_row) (are.no_case key at)
  of_case key (Some text) at =
      let name = name_found IsCase case_key (filing_found s.cases) (found_in kept tables.Filing) rows.filings key text at (number_in key)
      (λ m h e row. sym (ap number_in e ∙ number_again m (filing_below s desk m text row))) in
      let found = mapped filing_row (case_at s.cases (number_in key)) text name.row_is in
      let plain = IsCaseOf.plain (case_found (IsCaseOf (length s.entries)) s.cases (number_in key) found.0 desk.cases found.1) in
      let unrevised = case_found IsUnrevised s.cases (number_in key) found.0 none found.1 in
      ap (λ (k : List ℕ). option_map renewed_row (maps.get aged (3, k))) name.key_is
      ∙ ap (option_map renewed_row) (are.cases (number_in key) found.0 found.1) ∙ ap Some (law found.0 plain unrevised ∙ found.2)

  by_there : (key : List ℕ) (o : Option (List ℕ)) → maps.get aged (3, key) ≡ o → now_by o (3, key) (maps.get start (3, key)) ≡ option_map renewed_row (maps.get aged (3, key))
  by_there key None e = in_start key ∙ e ∙ sym (ap (option_map renewed_row) e)
  by_there key (Some text) e = sym (ap (option_map renewed_row) e)

  filed_at : (key : List ℕ) → maps.get done (3, key) ≡ maps.get kept (3, key)
  filed_at key =
      all_renewed aged start in_start (3, key) ∙ by_there key (maps.get aged (3, key)) refl ∙ of_case key (maps.get kept (3, key)) refl

  -- any other row
  unfiled : (o : Option (List ℕ)) (q : Key) (old : Option (List ℕ)) → (q.0 == 3) ≡ false → now_by o q old ≡ old
  unfiled None q old e = refl
  unfiled (Some text) q old e = ap (λ b. cond b (Some (renewed_row text)) old) e

  start_at : (q : Key) (b : Bool) → eq_by_cmp key_cmp q (2, format_key) ≡ b → q.0 ≢ 3 → maps.get start q ≡ maps.get kept q
  unfolding start
  start_at q true e out =
      let same : q ≡ (2, format_key) = key_cmp-same q (2, format_key) (equal (key_cmp q (2, format_key)) e) in
      subst (λ (k : Key). maps.get (maps.insert aged (2, format_key) (desk_row days.Format)) k ≡ maps.get kept k) (sym same)
      (put_here aged (2, format_key) (desk_row days.Format) ∙ sym (format_there s kept rows some))
  start_at q false e out =
      let apart : q ≢ (2, format_key) = λ h. absurd (cc (sym e ∙ ap (λ (k : Key). eq_by_cmp key_cmp k (2, format_key)) h ∙ itself (2, format_key))) in
      put_elsewhere aged (2, format_key) q (desk_row days.Format) apart ∙ are.others q out apart

  same_at : (q : Key) (b : Bool) → (q.0 == 3) ≡ b → maps.get done q ≡ maps.get kept q
  same_at q true e =
      let t : q.0 ≡ 3 = (Decides-eqb q.0 3).0 e in
      let k : q ≡ (3, q.1) = λ i. (t i, q.1) in
      subst (λ (x : Key). maps.get done x ≡ maps.get kept x) (sym k) (filed_at q.1)
  same_at q false e =
      let out : q.0 ≢ 3 = λ h. absurd (cc (sym e ∙ (Decides-eqb q.0 3).1 h)) in
      all_renewed aged start in_start q ∙ unfiled (maps.get aged q) q (maps.get start q) e ∙ start_at q (eq_by_cmp key_cmp q (2, format_key)) refl out

  -- the tables were of an older format
  pub leads_back : is_older aged ≡ true → renewed aged ≡ kept
  unfolding start
  leads_back older =
      ap (λ b. rows_after_changes aged (cond b (put_desk days.Format ∷ flat_map renewed_filing (maps.entries aged)) [])) older
      ∙ maps.same_map key_cmp_total key_cmp-same done kept (λ q. same_at q (q.0 == 3) refl)

use Rattle.std.proofs.Common.{◌≡◌, ◌++◌, ◌∷◌, [], OnOk, string_bytes, ap, ◌∙◌, subst, ℕ, List}
use Rattle.oe_keeper.specs.declared.change.Table.TheVariants as tables
use Rattle.oe_keeper.specs.declared.change.RowChange.TheVariants.{Put}
use Rattle.row_cases.specs.Cases.{case_key}
use Rattle.row_cases.specs.Filings.{filing_row}
use Rattle.desk_tables.proofs.change_list.ChangeList.put_filing.Goals as goal

pub returns : goal.returns
returns c =
    let key : string_bytes c.append_filing_key.new.text ≡ case_key c.args.number = c.in_ok-append_filing_key.ensures.ok ∙ ap (λ t. t ++ case_key c.args.number) c.new-key.ensures.bytes in
    let row : string_bytes c.append_filing_row.new.text ≡ filing_row c.args.case.now = c.in_ok-append_filing_row.ensures.ok ∙ ap (λ t. t ++ filing_row c.args.case.now) c.new-row.ensures.bytes in
    subst (λ (k : List ℕ). OnOk c.put.result (c.put.new.self ≡ c.args.self.now ++ Put tables.Filing k (filing_row c.args.case.now) ∷ [])) key
    (subst (λ (r : List ℕ). OnOk c.put.result (c.put.new.self ≡ c.args.self.now ++ Put tables.Filing (string_bytes c.append_filing_key.new.text) r ∷ [])) row c.put.ensures)

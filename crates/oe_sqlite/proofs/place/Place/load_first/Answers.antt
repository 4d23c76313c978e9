use Rattle.std.proofs.Common.{sym, subst, ◌∙◌}
use Rattle.oe_sqlite.specs.Places.{IsBlankAt, IsFoundAt, IsInMemory, StaysAt}
use Rattle.oe_sqlite.specs.declared.place.Place.TheVariants.{Memory, File}
use Rattle.oe_sqlite.proofs.Telling.{first_memory}
use Rattle.oe_sqlite.specs.declared.place.Place.{Place}
use Rattle.sqlite.specs.Files.{file_state}
use Rattle.oe_sqlite.proofs.Found.{loads}
use Rattle.oe_sqlite.proofs.place.Place.load_first.Goals as goal

pub returns-in_ok-conn-in-Memory-clause-held : goal.returns-in_ok-conn-in-Memory-clause-held
returns-in_ok-conn-in-Memory-clause-held g c = λ told. ((λ clean up. (c.in_ok-conn-in-Memory.field-0.tables, c.in_ok-conn-in-Memory.ensures.told clean up told)), c.in_ok-conn-in-Memory.ensures.mode)

pub returns-in_ok-conn-in-File-clause-held : goal.returns-in_ok-conn-in-File-clause-held
returns-in_ok-conn-in-File-clause-held g c = λ told. ((λ clean up. (c.in_ok-conn-in-File.field-0.tables, c.in_ok-conn-in-File.ensures.told clean up told)), c.in_ok-conn-in-File.ensures.mode)

pub returns-in_ok-conn-in-File-clause-rows : goal.returns-in_ok-conn-in-File-clause-rows
returns-in_ok-conn-in-File-clause-rows g c = λ told now there. sym there.2.are ∙ (c.in_ok-conn-in-File.ensures.told there.0 there.1 told).are

pub returns-in_ok-conn-in-File-clause-blank : goal.returns-in_ok-conn-in-File-clause-blank
returns-in_ok-conn-in-File-clause-blank g c = λ blank. c.in_ok-conn-in-File.ensures.blank (subst (λ (p : Place _ _). IsBlankAt p) c.in-File.is blank)

pub returns-in_ok-conn-in-File-clause-found : goal.returns-in_ok-conn-in-File-clause-found
returns-in_ok-conn-in-File-clause-found g c image found rows gives clean =
    let opened = c.in_ok-conn-in-File.field-0 in
    let loaded = c.in_ok-conn-in-File.ensures in
    let it = subst (λ (p : Place _ _). IsFoundAt image p) c.in-File.is found in
    let now = loads image (file_state c.in-File.conn) (file_state opened.conn) opened.is_told opened.tables rows (λ early. (it early).0)
    (λ early. (it early).1.holds) (λ early. (it early).1.reads) loaded.clean loaded.told loaded.rows loaded.blank loaded.none gives clean.0 clean.1 in
    ((now.0, (clean.0, clean.1, now.2)), now.1)

pub returns-in_ok-conn-in-Memory-clause-placed : goal.returns-in_ok-conn-in-Memory-clause-placed
returns-in_ok-conn-in-Memory-clause-placed g c = subst (λ (p : Place _ _). StaysAt p (Memory c.in_ok-conn-in-Memory.field-0.conn)) (sym c.in-Memory.is) tt

pub returns-in_ok-conn-in-File-clause-placed : goal.returns-in_ok-conn-in-File-clause-placed
returns-in_ok-conn-in-File-clause-placed g c = subst (λ (p : Place _ _). StaysAt p (File c.in_ok-conn-in-File.field-0.conn)) (sym c.in-File.is) tt

pub returns-in_ok-conn-in-Memory-clause-memory : goal.returns-in_ok-conn-in-Memory-clause-memory
returns-in_ok-conn-in-Memory-clause-memory g c = λ here told. first_memory c.in_ok-conn-in-Memory.field-0.conn c.in_ok-conn-in-Memory.field-0.tables (λ clean up. c.in_ok-conn-in-Memory.ensures.told clean up told)

pub returns-in_ok-conn-in-File-clause-memory : goal.returns-in_ok-conn-in-File-clause-memory
returns-in_ok-conn-in-File-clause-memory g c = λ here told. absurd (subst (λ (p : Place _ _). IsInMemory p) c.in-File.is here)

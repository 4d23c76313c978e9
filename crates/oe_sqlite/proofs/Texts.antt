-- What the four texts compile to.
use Rattle.std.proofs.Common.{◌≡◌, pos, negsuc, List, [], ◌∷◌, codes, false, Some, None, Ok, refl}
use Rattle.sqlite_value.specs.declared.value.Value.TheVariants.{Null, Int}
use Rattle.sqlite_value.specs.declared.keys.Collation.TheVariants.{Binary}
use Rattle.sqlite_value.specs.Keys.{ascending}
use Rattle.sqlite_sql.specs.Term.{Term, lit, col, op2}
use Rattle.sqlite_sql.specs.Query.{Query, inner, end}
use Rattle.sqlite_sql.specs.declared.ops.BinaryOp.TheVariants.{Compare}
use Rattle.sqlite_sql.specs.declared.ops.CompareOp.TheVariants.{Eq}
use Rattle.sqlite_schema.specs.declared.command.Source.TheVariants.{Values}
use Rattle.sqlite_schema.specs.declared.command.Conflict.TheVariants.{Abort}
use Rattle.sqlite_schema.specs.declared.command.Upsert.{Upsert}
use Rattle.sqlite_schema.specs.declared.command.Command.{Command}
use Rattle.sqlite_schema.specs.declared.command.Command.TheVariants.{Select, InsertOr, Delete, CreateTable, Nothing}
use Rattle.sqlite_resolve.specs.Compile.{table_defined_by}
use Rattle.sqlite_catalog.specs.Change.{created}
use Rattle.sqlite_tied.specs.Compute.{everything}
use Rattle.sqlite.specs.Listing.{understood, reads_listing}
use Rattle.sqlite.proofs.Callers.{IsPlain, command_of, statement_of}
use Rattle.oe_sqlite.specs.Shape.{create_text, select_text, put_text, remove_text, kept, no_schema, kept_schema}

abbrev pub select_query : Query
select_query = record {
  from = inner 0 end;
  filter = [];
  group = None;
  project = col 1 1 ∷ col 1 2 ∷ col 1 3 ∷ [];
  distinct = false;
  collations = [];
  order = (col 1 1, ascending Binary) ∷ (col 1 2, ascending Binary) ∷ [];
  limit = lit (Int (negsuc 0));
  offset = lit (Int (pos 0));
}

abbrev pub update_query : Query
update_query = record {
  from = inner 0 end;
  filter = op2 (Compare Eq Binary) (col 1 0) (col 0 3) ∷ [];
  group = None;
  project = col 1 0 ∷ col 1 0 ∷ col 1 1 ∷ col 1 2 ∷ col 0 7 ∷ [];
  distinct = false;
  collations = [];
  order = [];
  limit = lit (Int (negsuc 0));
  offset = lit (Int (pos 0));
}

abbrev pub delete_query : Query
delete_query = record {
  from = inner 0 end;
  filter = op2 (Compare Eq Binary) (col 1 1) (col 0 0) ∷ op2 (Compare Eq Binary) (col 1 2) (col 0 1) ∷ [];
  group = None;
  project = col 1 0 ∷ [];
  distinct = false;
  collations = [];
  order = [];
  limit = lit (Int (negsuc 0));
  offset = lit (Int (pos 0));
}

abbrev pub put_terms : List Term
put_terms = lit Null ∷ col 0 0 ∷ col 0 1 ∷ col 0 2 ∷ []

abbrev pub on_conflict : Upsert
on_conflict = record { target = Some (1 ∷ 2 ∷ []); update = Some (record { lets = []; body = update_query }) }

abbrev pub put_command : Command
put_command = InsertOr 0 Abort (Values put_terms 4) (on_conflict ∷ [])

abbrev pub remove_command : Command
remove_command = Delete 0 (record { lets = []; body = delete_query })

abbrev pub select_command : Command
select_command = Select (record { lets = []; body = select_query }) (codes "t" ∷ codes "k" ∷ codes "v" ∷ [])

pub create_is : (command_of (understood no_schema create_text) ≡ CreateTable) × (statement_of create_text (understood no_schema create_text) ≡ create_text) × (table_defined_by create_text ≡ Ok kept)
unfolding understood everything
create_is = (refl, refl, refl)

pub created_is : created no_schema kept ≡ kept_schema
unfolding everything
created_is = refl

pub again_is : command_of (understood kept_schema create_text) ≡ Nothing
unfolding understood everything
again_is = refl

pub select_is : (command_of (understood kept_schema select_text) ≡ select_command) × (reads_listing kept_schema select_text ≡ false)
unfolding understood everything
select_is = (refl, refl)

pub put_is : command_of (understood kept_schema put_text) ≡ put_command
unfolding understood everything
put_is = refl

pub remove_is : command_of (understood kept_schema remove_text) ≡ remove_command
unfolding understood everything
remove_is = refl

pub create_plain : IsPlain (understood no_schema create_text)
unfolding understood everything
create_plain = (refl, refl)

pub again_plain : IsPlain (understood kept_schema create_text)
unfolding understood everything
again_plain = (refl, refl)

pub select_plain : IsPlain (understood kept_schema select_text)
unfolding understood everything
select_plain = (refl, refl)

pub put_plain : IsPlain (understood kept_schema put_text)
unfolding understood everything
put_plain = (refl, refl)

pub remove_plain : IsPlain (understood kept_schema remove_text)
unfolding understood everything
remove_plain = (refl, refl)

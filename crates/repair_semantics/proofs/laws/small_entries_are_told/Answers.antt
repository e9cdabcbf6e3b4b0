use Rattle.repair_semantics.proofs.EntryRows.{schema_is_made, table_is_made}
use Rattle.repair_semantics.proofs.UnmetRows.{never_holds, name_is_null}
use Rattle.repair_semantics.proofs.ConflictRows.{two_names_clash}
use Rattle.repair_semantics.proofs.laws.small_entries_are_told.Goals as goal

pub returns-clause-schema : goal.returns-clause-schema
returns-clause-schema c = schema_is_made

pub returns-clause-table : goal.returns-clause-table
returns-clause-table c = table_is_made

pub returns-clause-condition : goal.returns-clause-condition
returns-clause-condition c = never_holds

pub returns-clause-item : goal.returns-clause-item
returns-clause-item c = name_is_null

pub returns-clause-conflict : goal.returns-clause-conflict
returns-clause-conflict c = two_names_clash

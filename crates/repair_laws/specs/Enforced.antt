-- All entries of a program that can be enforced, of which none is unmet (QVT 1.3, sections 7.2 and 7.10.2).
use Rattle.std.specs.Prelude.{◌≡◌, List, false, Some, slice_get}
use Rattle.mof_metamodel.specs.declared.desc.MetaDesc.{MetaDesc}
use Rattle.mof_metamodel.specs.WellMeta.{WellMeta}
use Rattle.object_tables.specs.Models.{ModelData}
use Rattle.qv_syntax.specs.declared.typed.Typed.{Typed}
use Rattle.qv_syntax.specs.declared.program.Program.{Program}
use Rattle.qv_syntax.specs.declared.program.Rel.{Rel}
use Rattle.qv_syntax.specs.ProgramTypes.{variables_of}
use Rattle.qvtr_semantics.specs.Expressions.{setting}
use Rattle.evaluation_laws.specs.Evaluable.{IsEvaluable}
use Rattle.evaluation_laws.specs.Scopes.{HasValuesOfTypes}
use Rattle.enforcement_rules.specs.TargetParts.{target_desc}
use Rattle.enforcement_rules.specs.Rules.{IsEnforceable}
use Rattle.repair_semantics.specs.declared.entry.Entry.{Entry}
use Rattle.repair_semantics.specs.TargetItems.{target_metamodel}
use Rattle.repair_semantics.specs.Making.{entry_scope, entry_known}
use Rattle.repair_semantics.specs.Unmet.{is_unmet}
use Rattle.repair_semantics.specs.Entries.{IsEntry}
use Rattle.repair_semantics.specs.EntryOrder.{AreEntries}

-- these are all entries of the program over the sources, which are met, where the target has the metamodel of this model
pub record AreEnforced (metas : List MetaDesc) (program : Program) (sources : List ModelData) (m : ModelData) (entries : List Entry) : Type 0 where
  pub evaluable : IsEvaluable metas program sources
  pub enforceable : IsEnforceable metas program
  pub metamodel : target_metamodel program sources ≡ m.meta
  pub described : target_desc metas program ≡ m.meta
  pub well : WellMeta m.meta
  pub are : AreEntries program sources entries
  pub met : (e : Entry) (rel : Rel) → IsEntry program sources e → slice_get program.rels e.rel ≡ Some rel → is_unmet program sources rel (entry_known program sources rel e.values) ≡ false

-- the data of each entry are of the types of their variables
abbrev pub HaveTypedData : List MetaDesc → Program → List ModelData → Type 0
HaveTypedData metas program sources = (e : Entry) (rel : Rel) → IsEntry program sources e → slice_get program.rels e.rel ≡ Some rel → (x : Typed)
    → HasValuesOfTypes metas (setting program sources) x (variables_of rel) (entry_scope program sources rel e.values)

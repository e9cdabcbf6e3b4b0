-- What is told of the example, whose models are a source of so many classes and an empty target.
use Rattle.std.specs.Prelude.{◌≡◌, ◌<◌, ◌≤◌, ◌^◌, ℕ, true, List, [], ◌∷◌, length, Contains, All}
use Rattle.mof_metamodel.specs.declared.desc.MetaDesc.{MetaDesc}
use Rattle.qv_syntax.specs.declared.program.Program.{Program}
use Rattle.qv_syntax.specs.declared.program.Rel.{Rel}
use Rattle.qv_syntax.specs.WellFormed.{IsWellFormed}
use Rattle.enforcement_rules.specs.Rules.{IsEnforceable}
use Rattle.evaluation_laws.specs.Literals.{HasStorableTexts}
use Rattle.example_models.specs.ClsTable.{cls_desc}
use Rattle.object_tables.specs.Models.{ModelData}
use Rattle.repair_semantics.specs.declared.report.Report.{Report}
use Rattle.example_models.specs.RdbTable.{rdb_desc}
use Rattle.example_models.specs.Source.{attributes_before}
use Rattle.example_program.specs.MainProgram.{main_program_data}
use Rattle.example_laws.specs.ExampleModels.{first_models}
use Rattle.example_run.specs.declared.outcome.Outcome.{Outcome}
use Rattle.example_run.specs.declared.summary.Summary.{Summary}
use Rattle.example_run.specs.Repaired.{IsRepaired}

-- the metamodels of the models
abbrev pub example_metas : List MetaDesc
example_metas = cls_desc ∷ rdb_desc ∷ []

-- all that an enforcement asks of a program over them
pub record IsGoodProgram (program : Program) : Type 0 where
  pub well : IsWellFormed example_metas program
  pub enforceable : IsEnforceable example_metas program
  pub texts : HasStorableTexts program
  pub vars : (rel : Rel) → Contains program.rels rel → length rel.vars ≤ 2 ^ 32
  pub wheres : All (λ (rel : Rel). length rel.wheres < 2 ^ 32) program.rels

-- what the first enforcement makes of them, with its report
pub record IsFirst (classes seed created : ℕ) : Type 0 where
  pub after : List ModelData
  pub report : Report
  pub repaired : IsRepaired main_program_data (first_models classes seed) after report
  pub created_is : created ≡ report.created

-- The first enforcement made so many objects; then the relations hold, and a second enforcement changes nothing.
pub record IsOutcome (classes seed : ℕ) (o : Outcome) : Type 0 where
  pub created_are : IsFirst classes seed o.created
  pub holds_then : o.holds ≡ true
  pub unchanged_then : o.unchanged ≡ true

-- The source has these classes with their attributes, and so much comes of it.
pub record IsSummary (classes seed : ℕ) (s : Summary) : Type 0 where
  pub classes_are : s.classes ≡ classes
  pub attributes_are : s.attributes ≡ attributes_before seed classes
  pub outcome : IsOutcome classes seed (record { created = s.created; holds = s.holds; unchanged = s.unchanged })

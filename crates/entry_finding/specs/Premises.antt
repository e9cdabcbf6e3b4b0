-- What is asked of a program and of its models, so that what it demands of its target can be found (QVT 1.3, sections 7.2, 7.9 and 7.10.2).
use Rattle.std.specs.Prelude.{◌<◌, ◌≤◌, ◌^◌, List, length, Contains}
use Rattle.mof_metamodel.specs.declared.desc.MetaDesc.{MetaDesc}
use Rattle.object_tables.specs.Models.{ModelData}
use Rattle.qv_syntax.specs.declared.program.Program.{Program}
use Rattle.qv_syntax.specs.declared.program.Rel.{Rel}
use Rattle.enforcement_rules.specs.Rules.{IsEnforceable}
use Rattle.evaluation_laws.specs.Evaluable.{IsEvaluable}

-- The program can be enforced and is evaluated over these models, the target among them. It has no more relations, variables and conjuncts than numbers of 32 bits count.
pub record CanBeEnforced (metas : List MetaDesc) (program : Program) (models : List ModelData) : Type 0 where
  pub evaluable : IsEvaluable metas program models
  pub enforceable : IsEnforceable metas program
  pub target : program.target < length models
  pub rels : length program.rels < 2 ^ 32
  pub vars : (rel : Rel) → Contains program.rels rel → length rel.vars ≤ 2 ^ 32
  pub wheres : (rel : Rel) → Contains program.rels rel → length rel.wheres < 2 ^ 32

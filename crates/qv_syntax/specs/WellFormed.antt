-- When a program is well formed over the metamodels of its script.
use Rattle.std.specs.Prelude.{List}
use Rattle.mof_metamodel.specs.declared.desc.MetaDesc.{MetaDesc}
use Rattle.qv_syntax.specs.declared.program.Program.{Program}
use Rattle.qv_syntax.specs.ProgramNumbers.{HasNumbersInRange}
use Rattle.qv_syntax.specs.ProgramTypes.{HasTypedExpressions}
use Rattle.qv_syntax.specs.QueryCalls.{AreAcyclic}
use Rattle.qv_syntax.specs.Directions.{AreMeant}
use Rattle.qv_syntax.specs.Keys.{AreKeys}

-- Five things: its numbers name what is there, and items name properties of their template's class; each node of an expression has the
-- type that the language gives it, and the rules on types hold where expressions stand; queries call each other without a cycle;
-- domains, templates, variables, calls, marks of direction and strata are as a transformation means them; keys are keys.
pub record IsWellFormed (metas : List MetaDesc) (program : Program) : Type 0 where
  pub numbers : HasNumbersInRange metas program
  pub typed : HasTypedExpressions metas program
  pub queries : AreAcyclic program.queries
  pub relations : AreMeant program
  pub keys : AreKeys metas program

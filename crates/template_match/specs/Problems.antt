-- What a search is for.
use Rattle.std.specs.Prelude.{ℕ, List}
use Rattle.object_tables.specs.Models.{ModelData}
use Rattle.qv_syntax.specs.declared.program.Program.{Program}
use Rattle.qv_syntax.specs.declared.program.Rel.{Rel}
use Rattle.template_match.specs.declared.side.Side.{Side}
use Rattle.template_match.specs.declared.link.Link.{Link}
use Rattle.template_match.specs.declared.join.Join.{Join}

-- what is looked for: the bindings of a side of a relation, with the links of its templates, the variables that get values, and
-- the joins in whose rows they stand
pub record Problem : Type 0 where
  pub side : Side
  pub program : Program
  pub models : List ModelData
  pub rel : Rel
  pub links : List Link
  pub variables : List ℕ
  pub joins : List Join

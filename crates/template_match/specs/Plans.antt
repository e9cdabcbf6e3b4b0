-- The plan of a relation: the links of its two sides.
use Rattle.std.specs.Prelude.{◌≡◌, ℕ, Some, slice_get}
use Rattle.qv_syntax.specs.declared.program.Program.{Program}
use Rattle.qv_syntax.specs.declared.program.Rel.{Rel}
use Rattle.template_match.specs.declared.side.Side.TheVariants.{Source, Target}
use Rattle.template_match.specs.declared.plan.Plan.{Plan}
use Rattle.template_match.specs.Links.{side_links}

-- the plan was made for this relation of the program
pub record IsPlanOf (program : Program) (number : ℕ) (rel : Rel) (plan : Plan) : Type 0 where
  pub number_is : plan.rel ≡ number
  pub found : slice_get program.rels number ≡ Some rel
  pub source : plan.source ≡ side_links Source program rel
  pub target : plan.target ≡ side_links Target program rel

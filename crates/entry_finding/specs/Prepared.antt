-- What is found once for the relations of a program.
use Rattle.std.specs.Prelude.{◌≡◌, ℕ, true, false, List, Option, None, Some, length, slice_get}
use Rattle.mof_metamodel.specs.declared.desc.MetaDesc.{MetaDesc}
use Rattle.object_tables.specs.Models.{ModelData}
use Rattle.qv_syntax.specs.declared.program.Program.{Program}
use Rattle.qv_syntax.specs.declared.program.Rel.{Rel}
use Rattle.template_match.specs.Plans.{IsPlanOf}
use Rattle.repair_semantics.specs.TargetItems.{target_metamodel}
use Rattle.entry_making.specs.Recipes.{IsRecipe}
use Rattle.entry_finding.specs.declared.preparation.Preparation.{Preparation}

-- how its bindings are looked for, and what its entries make in a target of this metamodel
pub record IsPreparation (program : Program) (desc : MetaDesc) (number : ℕ) (rel : Rel) (p : Preparation) : Type 0 where
  pub plan : IsPlanOf program number rel p.plan
  pub recipe : IsRecipe program desc rel p.recipe

-- that is there for a relation of the direction
abbrev pub IsPrepared : Program → MetaDesc → ℕ → Rel → Option Preparation → Type 0
IsPrepared program desc number rel None = rel.in_direction ≡ false
IsPrepared program desc number rel (Some p) = (rel.in_direction ≡ true) × IsPreparation program desc number rel p

-- for each relation at its number
pub record ArePrepared (program : Program) (desc : MetaDesc) (ps : List (Option Preparation)) : Type 0 where
  pub places : length ps ≡ length program.rels
  pub are : (number : ℕ) (rel : Rel) (p : Option Preparation) → slice_get program.rels number ≡ Some rel → slice_get ps number ≡ Some p → IsPrepared program desc number rel p

-- towards the target among these models
abbrev pub ArePreparations : Program → List ModelData → List (Option Preparation) → Type 0
ArePreparations program models ps = ArePrepared program (target_metamodel program models) ps

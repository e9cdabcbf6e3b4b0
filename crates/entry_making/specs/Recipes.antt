-- What is found once for a relation.
use Rattle.std.specs.Prelude.{◌≡◌, map}
use Rattle.mof_metamodel.specs.declared.desc.MetaDesc.{MetaDesc}
use Rattle.qv_syntax.specs.declared.program.Program.{Program}
use Rattle.qv_syntax.specs.declared.program.Rel.{Rel}
use Rattle.repair_semantics.specs.TargetItems.{target_items}
use Rattle.entry_making.specs.declared.recipe.Recipe.{Recipe}
use Rattle.entry_making.specs.Items.{shown_item}
use Rattle.entry_making.specs.Equations.{shown_equation, AreOfRelation, AreInOrder}
use Rattle.entry_making.specs.KeyedVariables.{shown_keyed, AreVariablesOf, AreMadeInOrder}

-- the items of the target template of the relation, its equations in an order, and the variables for which it makes terms in an order
pub record IsRecipe (program : Program) (desc : MetaDesc) (rel : Rel) (recipe : Recipe) : Type 0 where
  pub rel_is : recipe.rel.now ≡ rel
  pub items : map shown_item recipe.items ≡ target_items program rel
  pub equations_within : AreOfRelation rel (map shown_equation recipe.equations)
  pub equations : AreInOrder program rel (map shown_equation recipe.equations)
  pub keyed_within : AreVariablesOf rel (map shown_keyed recipe.keyed)
  pub keyed : AreMadeInOrder program desc rel (map shown_keyed recipe.keyed)

use Rattle.std.proofs.Common.{◌≡◌, ◌≢◌, refl, ap, ◌∙◌}
use Rattle.std.specs.Prelude.{Err}
use Rattle.qv_syntax.specs.declared.ty.Ty.TheVariants as types
use Rattle.qv_syntax.specs.declared.typed.Typed.{Typed}
use Rattle.ocl_environments.specs.Outcomes.{wrong_type}
use Rattle.ocl_environments.specs.Parts.{tree_of}
use Rattle.ocl_types.specs.TypedContext.{typing_of}
use Rattle.ocl_types.proofs.QueryLemmas.{err_told}
use Rattle.qvtr_types.specs.Expressions.{StandsInCondition}
use Rattle.qvtr_types.proofs.ExpressionLaws.{typing_had}
use Rattle.qvtr_types.proofs.expressions.type_condition.Goals as goal

pub returns-clause-fault : goal.returns-clause-fault
returns-clause-fault c =
    err_told {X = Typed} (Err c.or_drop-from.result) c.or_drop-from.result c.in-Err-or_drop.field-0 (StandsInCondition c.args.env.now c.args.e.now)
    (λ f. (c.in_ok-part.part.ty ≢ types.Bool) × (f ≡ wrong_type c.metas.result.now types.Bool c.in_ok-part.part.ty)) refl c.or_drop-from.ensures
    (λ f h. StandsInCondition.type (tree_of c.in_ok-part.part) (typing_of c.in_ok-part.part)
    (typing_had c.args.env.now c.args.e.now c.in_ok-part.part (tree_of c.in_ok-part.part) refl c.in_ok-part.ensures.typed c.in_ok-part.ensures.tree) h.0
    (h.1 ∙ ap (λ ms. wrong_type ms types.Bool c.in_ok-part.part.ty) c.metas.ensures.value))
    c.in-Err-or_drop.ensures.fault

pub returns-2-clause-is : goal.returns-2-clause-is
returns-2-clause-is c = record {
  typing = typing_of c.in_ok-part.part;
  has = typing_had c.args.env.now c.args.e.now c.in_ok-part.part c.into_tree.result c.into_tree.ensures c.in_ok-part.ensures.typed c.in_ok-part.ensures.tree;
  boolean = c.in-Ok-or_drop.ensures.boolean;
}

use Rattle.std.proofs.Common.{◌≡◌, ◌≢◌, ℕ, refl, ap, subst, ◌∙◌}
use Rattle.std.specs.Prelude.{Some, Err}
use Rattle.qv_syntax.specs.Types.{AreRelated}
use Rattle.qv_syntax.specs.declared.typed.Typed.{Typed}
use Rattle.ocl_environments.specs.declared.fault.TypeFault.TheVariants.{ModelMix}
use Rattle.ocl_environments.specs.Outcomes.{wrong_type}
use Rattle.ocl_environments.specs.Parts.{tree_of}
use Rattle.ocl_types.specs.TypedContext.{typing_of}
use Rattle.ocl_types.proofs.QueryLemmas.{err_told}
use Rattle.qvtr_types.specs.Expressions.{StandsInGiven}
use Rattle.qvtr_types.proofs.ExpressionLaws.{typing_had}
use Rattle.qvtr_types.proofs.expressions.type_given.Goals as goal

pub returns-clause-fault : goal.returns-clause-fault
returns-clause-fault c =
    err_told {X = Typed} (Err c.or_drop-from.result) c.or_drop-from.result c.in-Err-or_drop.field-0 (StandsInGiven c.args.env.now (record { ty = c.args.wanted.now.ty.now; model = c.args.wanted.now.model }) c.args.wanted.now.name.now c.args.e.now)
    (λ f. (¬ AreRelated c.metas.result.now c.in_ok-part.part.ty c.args.wanted.now.ty.now) × (f ≡ wrong_type c.metas.result.now c.args.wanted.now.ty.now c.in_ok-part.part.ty)) refl c.or_drop-from.ensures
    (λ f h. StandsInGiven.type (tree_of c.in_ok-part.part) (typing_of c.in_ok-part.part)
    (typing_had c.args.env.now c.args.e.now c.in_ok-part.part (tree_of c.in_ok-part.part) refl c.in_ok-part.ensures.typed c.in_ok-part.ensures.tree)
    (subst (λ ms. ¬ AreRelated ms c.in_ok-part.part.ty c.args.wanted.now.ty.now) c.metas.ensures.value h.0)
    (h.1 ∙ ap (λ ms. wrong_type ms c.args.wanted.now.ty.now c.in_ok-part.part.ty) c.metas.ensures.value))
    c.in-Err-or_drop.ensures.fault

pub returns-2-clause-fault : goal.returns-2-clause-fault
returns-2-clause-fault c =
    err_told {X = Typed} (Err c.or_drop-from-2.result) c.or_drop-from-2.result c.in-Err-or_drop-2.field-0 (StandsInGiven c.args.env.now (record { ty = c.args.wanted.now.ty.now; model = c.args.wanted.now.model }) c.args.wanted.now.name.now c.args.e.now)
    (λ f. ((m : ℕ) × (c.in_ok-part.part.model ≡ Some m) × (c.args.wanted.now.model ≢ Some m)) × (f ≡ ModelMix c.args.wanted.now.name.now)) refl c.or_drop-from-2.ensures
    (λ f h. StandsInGiven.model (tree_of c.in_ok-part.part) (typing_of c.in_ok-part.part) h.0.0
    (typing_had c.args.env.now c.args.e.now c.in_ok-part.part (tree_of c.in_ok-part.part) refl c.in_ok-part.ensures.typed c.in_ok-part.ensures.tree) h.0.1 h.0.2 h.1)
    c.in-Err-or_drop-2.ensures.fault

pub returns-3-clause-is : goal.returns-3-clause-is
returns-3-clause-is c = record {
  typing = typing_of c.in_ok-part.part;
  has = typing_had c.args.env.now c.args.e.now c.in_ok-part.part c.into_tree.result c.into_tree.ensures c.in_ok-part.ensures.typed c.in_ok-part.ensures.tree;
  fits = record { related = subst (λ ms. AreRelated ms c.in_ok-part.part.ty c.args.wanted.now.ty.now) c.metas.ensures.value c.in-Ok-or_drop.ensures.related; model = c.in-Ok-or_drop-2.ensures.same };
}

use Rattle.std.proofs.Common.{◌≡◌, ℕ, List, sym, ap, subst, ◌∙◌}
use Rattle.std.specs.Prelude.{IsTrue}
use Rattle.std.proofs.lemmas.Result.{err_from_is_err_and}
use Rattle.mof_metamodel.specs.declared.desc.MetaDesc.{MetaDesc}
use Rattle.qv_syntax.specs.declared.ty.Ty.TheVariants as types
use Rattle.qv_syntax.specs.Types.{AreRelated}
use Rattle.ocl_environments.specs.Environments.{Environment, AreWell, is_over}
use Rattle.ocl_environments.specs.Naming.{names_of}
use Rattle.ocl_environments.specs.Outcomes.{wrong_type}
use Rattle.ocl_types.proofs.QueryLemmas.{err_told}
use Rattle.qvtr_types.specs.TemplatePieces.{IsUnknownClass, StandsInNested}
use Rattle.qvtr_types.proofs.TemplateLaws.{path_class_at, class_over}
use Rattle.qvtr_types.proofs.items.nested_class.Goals as goal

pub returns-in_err-class-clause-fault : goal.returns-in_err-class-clause-fault
returns-in_err-class-clause-fault c =
    let p = err_from_is_err_and c.from_residual.result c.from_residual.ensures.1 in
    err_told c.from_residual.result p.0 _ (StandsInNested c.args.scope.now c.args.of.now c.args.path.now) (IsUnknownClass c.args.scope.now c.args.path.now) p.1 p.2
    (λ f h. StandsInNested.unknown_class h)
    c.in_err-class.ensures.fault

pub refuse_unrelated-requires-clause-well : goal.refuse_unrelated-requires-clause-well
refuse_unrelated-requires-clause-well c = subst AreWell (sym c.metas.ensures.value) c.metas.ensures.well

pub refuse_unrelated-requires-clause-wanted : goal.refuse_unrelated-requires-clause-wanted
refuse_unrelated-requires-clause-wanted c =
    subst (λ (ms : List MetaDesc). IsTrue (is_over ms c.args.of.now)) (sym (c.metas.ensures.value ∙ ap (λ (e : Environment). e.metas) c.env.ensures)) c.requires

pub refuse_unrelated-requires-clause-found : goal.refuse_unrelated-requires-clause-found
refuse_unrelated-requires-clause-found c =
    let class = c.in_ok-class.class in
    let metas : List MetaDesc = c.args.scope.now.env.metas in
    subst (λ (ms : List MetaDesc). IsTrue (is_over ms (types.Class c.meta.result class))) (sym (c.metas.ensures.value ∙ ap (λ (e : Environment). e.metas) c.env.ensures))
    (subst (λ (m : ℕ). IsTrue (is_over metas (types.Class m class))) (sym c.meta.ensures)
    (class_over metas c.args.scope.now.meta class (path_class_at metas c.args.scope.now.meta class c.args.scope.now.env.names (names_of c.args.path.now) c.in_ok-class.ensures.class)))

pub returns-in_err-refuse_unrelated-clause-fault : goal.returns-in_err-refuse_unrelated-clause-fault
returns-in_err-refuse_unrelated-clause-fault c =
    let class = c.in_ok-class.class in
    let metas : List MetaDesc = c.args.scope.now.env.metas in
    let same : c.metas.result.now ≡ metas = c.metas.ensures.value ∙ ap (λ (e : Environment). e.metas) c.env.ensures in
    let p = err_from_is_err_and c.from_residual-in_err-refuse_unrelated.result c.from_residual-in_err-refuse_unrelated.ensures.1 in
    err_told c.from_residual-in_err-refuse_unrelated.result p.0 _ (StandsInNested c.args.scope.now c.args.of.now c.args.path.now)
    (λ f. (¬ AreRelated c.metas.result.now (types.Class c.meta.result class) c.args.of.now) × (f ≡ wrong_type c.metas.result.now c.args.of.now (types.Class c.meta.result class))) p.1 p.2
    (λ f h. StandsInNested.other_class class c.in_ok-class.ensures.class
    (subst (λ (ms : List MetaDesc). ¬ AreRelated ms (types.Class c.args.scope.now.meta class) c.args.of.now) same
    (subst (λ (m : ℕ). ¬ AreRelated c.metas.result.now (types.Class m class) c.args.of.now) c.meta.ensures h.0))
    (h.1 ∙ ap (λ (m : ℕ). wrong_type c.metas.result.now c.args.of.now (types.Class m class)) c.meta.ensures ∙ ap (λ (ms : List MetaDesc). wrong_type ms c.args.of.now (types.Class c.args.scope.now.meta class)) same))
    c.in_err-refuse_unrelated.ensures.fault

pub returns-clause-is : goal.returns-clause-is
returns-clause-is c =
    let class = c.in_ok-class.class in
    let metas : List MetaDesc = c.args.scope.now.env.metas in
    let same : c.metas.result.now ≡ metas = c.metas.ensures.value ∙ ap (λ (e : Environment). e.metas) c.env.ensures in
    record {
      is_class = c.in_ok-class.ensures.class;
      related = subst (λ (ms : List MetaDesc). AreRelated ms (types.Class c.args.scope.now.meta class) c.args.of.now) same
          (subst (λ (m : ℕ). AreRelated c.metas.result.now (types.Class m class) c.args.of.now) c.meta.ensures c.in_ok-refuse_unrelated.ensures.related);
    }

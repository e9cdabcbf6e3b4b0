use Rattle.std.proofs.Common.{◌≡◌, ◌+◌, ℕ, List}
use Rattle.std.specs.Prelude.{None, Some}
use Rattle.std.proofs.lemmas.Result.{err_from_is_err_and, IfOk-weaker, on_ok_weaker}
use Rattle.qv_syntax.specs.declared.name.Name.{Name}
use Rattle.qv_syntax.specs.declared.program.Tmpl.{Tmpl}
use Rattle.qv_syntax.specs.declared.script.TemplateTree.{out-TemplateTree}
use Rattle.std.specs.Prelude.{Option}
use Rattle.ocl_environments.specs.declared.fault.TypeFault.{TypeFault}
use Rattle.ocl_types.proofs.QueryLemmas.{err_told, fault_of_result}
use Rattle.script_scopes.specs.Environments.{place_of}
use Rattle.script_scopes.specs.Occurrences.{begun, template_body, variable_text}
use Rattle.script_scopes.specs.ResolvedTemplates.{IsTemplate}
use Rattle.qvtr_types.specs.TemplatePieces.{IsUnknownClass, IsPieceFault}
use Rattle.qvtr_types.proofs.DomainLoopLaws.{outer_unknown, outer_within, outer_meant}
use Rattle.qvtr_types.proofs.domains.outer_template.Goals as goal

pub returns-in_err-class-clause-fault : goal.returns-in_err-class-clause-fault
returns-in_err-class-clause-fault c =
    let p = err_from_is_err_and c.from_residual.result c.from_residual.ensures.1 in
    err_told c.from_residual.result p.0 _ (λ (f : TypeFault). (v : List ℕ) → IsPieceFault c.args.scope.now (begun None v (template_body c.args.tree.now) c.args.k) f)
    (IsUnknownClass c.args.scope.now (out-TemplateTree c.args.tree.now).class) p.1 p.2
    (λ f h v. outer_unknown c.args.scope.now c.args.k c.args.tree.now v f h)
    c.in_err-class.ensures.fault

pub resolve_template-requires : goal.resolve_template-requires
resolve_template-requires c = c.in_ok-class.ensures.class

pub returns-clause-is : goal.returns-clause-is
returns-clause-is c =
    IfOk-weaker c.resolve_template.result
    (λ (r : Tmpl × ℕ). (v : Option Name) → c.args.root ≡ place_of (variable_text c.args.k v) c.args.scope.now.variables → IsTemplate c.args.scope.now c.args.k v c.args.tree.now r.0 r.1)
    (λ (r : Tmpl × ℕ). (v : Name) → c.args.root ≡ place_of v.text c.args.scope.now.variables → IsTemplate c.args.scope.now c.args.k (Some v) c.args.tree.now r.0 r.1)
    (λ r h v is. h (Some v) is)
    c.resolve_template.ensures.is

pub returns-clause-meant : goal.returns-clause-meant
returns-clause-meant c =
    on_ok_weaker c.resolve_template.result
    (λ all v. outer_meant c.args.scope.now c.args.k c.args.tree.now v c.in_ok-class.class c.in_ok-class.ensures.class all)
    c.resolve_template.ensures.meant

pub returns-clause-fault : goal.returns-clause-fault
returns-clause-fault c =
    fault_of_result c.resolve_template.result (IsPieceFault c.args.scope.now ((template_body c.args.tree.now).items.from (c.args.k + 1) (template_body c.args.tree.now).class))
    (λ (f : TypeFault). (v : List ℕ) → IsPieceFault c.args.scope.now (begun None v (template_body c.args.tree.now) c.args.k) f)
    (λ f h v. outer_within c.args.scope.now c.args.k c.args.tree.now v f h)
    c.resolve_template.ensures.fault

use Rattle.std.proofs.Common.{◌≡◌, ℕ, ◌+◌, List, [], ◌∷◌, ◌++◌, take, arith, ap, sym, subst, ◌∙◌}
use Rattle.std.specs.Prelude.{Some}
use Rattle.std.specs.List.{AllZip}
use Rattle.std.proofs.lemmas.List.{take_more, take_all}
use Rattle.mof_metamodel.specs.declared.desc.ClassId.{ClassId}
use Rattle.mof_metamodel.specs.declared.desc.PropId.{PropId}
use Rattle.qv_syntax.specs.declared.name.Name.{Name}
use Rattle.ocl_environments.specs.Environments.{Environment}
use Rattle.script_scopes.specs.Declarations.{key_property}
use Rattle.script_scopes.proofs.LoopLemmas.{zip_push}
use Rattle.qvtr_types.proofs.keys.key_props.Goals as goal

abbrev HasNumber : Environment → ℕ × ClassId → Name → PropId → Type 0
HasNumber env class name prop = key_property env class name.text ≡ Some prop.0

pub loop-name-preserved : goal.loop-name-preserved
loop-name-preserved c =
    let so_far : List Name = take c.loop-name.name-index c.args.names.now in
    let more : take (c.loop-name.name-index + 1) c.args.names.now ≡ so_far ++ c.name-item.result ∷ [] =
    take_more c.args.names.now c.loop-name.name-index c.name-item.result (omega arith) ∙ ap (λ (y : Name). so_far ++ y ∷ []) (sym c.name-item.is) in
    subst (λ (ns : List Name). AllZip (HasNumber c.args.env.now c.args.class) ns c.push.new.self) (sym more)
    (subst (AllZip (HasNumber c.args.env.now c.args.class) (so_far ++ c.name-item.result ∷ [])) (sym c.in_ok-push.ensures.ok)
    (zip_push (HasNumber c.args.env.now c.args.class) so_far c.loop-name.props c.name-item.result c.in_ok-prop.prop c.loop-name.invariant c.in_ok-prop.ensures.found))

pub returns-clause-found : goal.returns-clause-found
returns-clause-found c =
    subst (λ (ns : List Name). AllZip (HasNumber c.args.env.now c.args.class) ns c.loop-name.props) (take_all c.loop-name.name-index c.args.names.now (omega arith)) c.loop-name.invariant

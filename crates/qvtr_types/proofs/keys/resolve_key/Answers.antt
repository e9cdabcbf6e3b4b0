use Rattle.std.proofs.Common.{List, subst}
use Rattle.std.proofs.lemmas.Result.{err_from_is_err_and}
use Rattle.qv_syntax.specs.declared.name.Name.{Name}
use Rattle.ocl_environments.specs.Naming.{names_of}
use Rattle.ocl_types.proofs.QueryLemmas.{err_told}
use Rattle.script_scopes.specs.Keys.{StandsInKey}
use Rattle.qvtr_types.specs.KeySearches.{IsLacking}
use Rattle.qvtr_types.proofs.KeyLaws.{class_at, lacking_stands}
use Rattle.qvtr_types.proofs.keys.resolve_key.Goals as goal

pub key_props-requires : goal.key_props-requires
key_props-requires c = class_at c.args.env.now (names_of c.args.tree.now.class) c.in_ok-class.class c.in_ok-class.ensures.found

pub returns-in_err-props-clause-fault : goal.returns-in_err-props-clause-fault
returns-in_err-props-clause-fault c =
    let p = err_from_is_err_and c.from_residual-in_err-props.result c.from_residual-in_err-props.ensures.1 in
    err_told c.from_residual-in_err-props.result p.0 _ (StandsInKey c.args.env.now c.args.tree.now) (IsLacking c.args.env.now c.in_ok-class.class c.as_slice.result.now) p.1 p.2
    (λ f h. lacking_stands c.args.env.now c.args.tree.now c.in_ok-class.class f c.in_ok-class.ensures.found (subst (λ (ns : List Name). IsLacking c.args.env.now c.in_ok-class.class ns f) c.as_slice.ensures h))
    c.in_err-props.ensures.fault

use Rattle.std.proofs.Common.{◌≡◌, [], true≢false, sym, ap, subst, ◌∙◌}
use Rattle.mof_metamodel.specs.MetaFaults.{first_repeat}
use Rattle.ocl_environments.specs.Naming.{texts_of}
use Rattle.ocl_environments.specs.declared.fault.TypeFault.TheVariants.{KeyShape}
use Rattle.script_scopes.specs.Keys.{StandsInKey}
use Rattle.script_scopes.proofs.RepeatLemmas.{is_repeated, none_repeated}
use Rattle.qvtr_types.proofs.keys.refuse_shape.Goals as goal

pub returns-then-is_empty-clause-fault : goal.returns-then-is_empty-clause-fault
returns-then-is_empty-clause-fault c = λ env. subst (λ t. StandsInKey env c.args.tree.now (KeyShape t)) (sym c.in_ok-text.ensures) (StandsInKey.no_property (c.is_empty.ensures.0 c.if-is_empty.true))

pub returns-in-Some-clause-fault : goal.returns-in-Some-clause-fault
returns-in-Some-clause-fault c = λ env.
    let names : c.as_slice-2.result.now ≡ texts_of c.args.tree.now.props = c.as_slice-2.ensures ∙ c.in_ok-names.ensures ∙ ap texts_of c.as_slice.ensures in
    StandsInKey.repeated c.in-Some.name (is_repeated (texts_of c.args.tree.now.props) c.in-Some.name (ap (first_repeat []) (sym names) ∙ sym c.in_ok-name.ensures ∙ c.in-Some.is))

pub returns-clause-shaped : goal.returns-clause-shaped
returns-clause-shaped c =
    let names : c.as_slice-2.result.now ≡ texts_of c.args.tree.now.props = c.as_slice-2.ensures ∙ c.in_ok-names.ensures ∙ ap texts_of c.as_slice.ensures in
    record {
      some = λ none. true≢false (sym (c.is_empty.ensures.1 none) ∙ c.if-is_empty.false);
      once = none_repeated (texts_of c.args.tree.now.props) (ap (first_repeat []) (sym names) ∙ sym c.in_ok-name.ensures ∙ c.in-None.is);
    }

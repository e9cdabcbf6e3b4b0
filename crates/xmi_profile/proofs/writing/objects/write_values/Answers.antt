use Rattle.std.proofs.Common.{◌<◌, sym, ap, subst, ◌∙◌}
use Rattle.std.specs.Prelude.{not}
use Rattle.mof_metamodel.specs.Metamodels.{prop_count}
use Rattle.xmi_text.specs.Calls.{wrote}
use Rattle.model_assembly.specs.Profile.{prop_name}
use Rattle.xmi_profile.specs.Writable.{CanWrite}
use Rattle.xmi_profile.proofs.WritingForms.{attribute_known, values_told, elements_same, elements_some}
use Rattle.xmi_profile.proofs.writing.objects.write_values.Goals as goal

pub prop_name-name-requires : goal.prop_name-name-requires
prop_name-name-requires c = subst (λ x. c.args.at.1.0 < prop_count x) (sym c.meta.ensures) (attribute_known _ _ _ c.requires.attribute)

pub write_each-requires-clause-told : goal.write_each-requires-clause-told
write_each-requires-clause-told c = values_told c.args.model.now c.meta-2.result.now c.args.at.0.0 c.args.at.1.0 c.attr-values.result.now c.end.ensures.kept c.requires.attribute c.attr-values.ensures c.meta-2.ensures

pub write_each-requires-clause-can : goal.write_each-requires-clause-can
write_each-requires-clause-can c =
    subst (CanWrite c.args.writer.now)
    (sym (elements_same c.args.model.now c.meta-2.result.now c.args.depth c.args.at.0.0 c.args.at.1.0 _ c.attr-values.result.now c.meta-2.ensures (c.prop_name-name.ensures ∙ ap (λ x. prop_name x c.args.at.1.0) c.meta.ensures)
    c.attr-values.ensures))
    c.requires.can

pub returns-clause-ok : goal.returns-clause-ok
returns-clause-ok c =
    c.in_ok-write_each.ensures
    ∙ ap (wrote c.args.writer.now)
    (elements_same c.args.model.now c.meta-2.result.now c.args.depth c.args.at.0.0 c.args.at.1.0 _ c.attr-values.result.now c.meta-2.ensures (c.prop_name-name.ensures ∙ ap (λ x. prop_name x c.args.at.1.0) c.meta.ensures)
    c.attr-values.ensures)

pub returns-clause-some : goal.returns-clause-some
returns-clause-some c = ap not c.is_empty.ensures ∙ elements_some c.args.model.now c.args.depth c.args.at.0.0 c.args.at.1.0 c.attr-values.result.now c.attr-values.ensures

use Rattle.std.proofs.Common.{sym, ap, ap₂, subst, ◌∙◌}
use Rattle.std.proofs.lemmas.Result.{on_ok_weaker}
use Rattle.mof_metamodel.specs.Characters.{is_storable_text}
use Rattle.object_tables.specs.Models.{partners_at}
use Rattle.xmi_text.specs.Writing.{with_attr}
use Rattle.xmi_text.specs.Calls.{wrote}
use Rattle.model_assembly.specs.Profile.{prop_name}
use Rattle.xmi_profile.specs.Writable.{CanWrite}
use Rattle.xmi_profile.proofs.WritingForms.{rest_live, ids_live, partners_written}
use Rattle.xmi_profile.proofs.writing.tags.write_partners.Goals as goal

pub identifiers-requires-clause-others : goal.identifiers-requires-clause-others
identifiers-requires-clause-others c =
    rest_live c.args.model.now c.partners-partners.result c.in-Some.first c.next.new.self c.in-Some.ensures.steps
    (ids_live c.args.model.now (partners_at c.args.model.now c.args.o.0 c.args.p.0) c.partners-partners.result c.partners-partners.ensures.list c.partners-partners.ensures.live)

pub attr-requires-clause-value : goal.attr-requires-clause-value
attr-requires-clause-value c =
    let written = partners_written c.args.model.now c.args.p.0 (partners_at c.args.model.now c.args.o.0 c.args.p.0) c.partners-partners.result c.in-Some.first c.next.new.self c.partners-partners.ensures.list c.in-Some.ensures.steps in
    ap is_storable_text (c.as_str.ensures.characters ∙ c.in_ok-text-in-Some.ensures) ∙ (subst (CanWrite c.args.writer.now) written c.requires.can).0.1

pub returns-in_ok-text-in-Some : goal.returns-in_ok-text-in-Some
returns-in_ok-text-in-Some c =
    let written = partners_written c.args.model.now c.args.p.0 (partners_at c.args.model.now c.args.o.0 c.args.p.0) c.partners-partners.result c.in-Some.first c.next.new.self c.partners-partners.ensures.list c.in-Some.ensures.steps in
    on_ok_weaker c.attr.result
    (λ e. e ∙ ap₂ (with_attr c.args.writer.now) (c.prop_name.ensures ∙ ap (λ x. prop_name x c.args.p.0) c.meta.ensures) (c.as_str.ensures.characters ∙ c.in_ok-text-in-Some.ensures)
    ∙ ap (wrote c.args.writer.now) (sym written))
    c.attr.ensures.ok

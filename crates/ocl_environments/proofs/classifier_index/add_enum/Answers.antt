use Rattle.std.proofs.Common.{sym, ap, ◌∙◌, Some}
use Rattle.mof_metamodel.specs.Metamodels.{enum_number, no_enum}
use Rattle.ocl_environments.specs.declared.classifier.Classifier.TheVariants.{Enum}
use Rattle.ocl_environments.specs.Meanings.{meaning_in}
use Rattle.ocl_environments.proofs.MeaningLemmas.{first_added, first_skipped, on_ok, not_other, not_none}
use Rattle.ocl_environments.proofs.classifier_index.add_enum.Goals as goal

pub returns-then-first-e-clause-added : goal.returns-then-first-e-clause-added
returns-then-first-e-clause-added c =
    on_ok c.add.result _ _
    (first_added (λ x. x.name) c.args.meta.now.enums no_enum c.args.e c.in_ok-name.name (c.in_ok-name.ensures.characters ∙ c.enum_name.ensures)
    (λ i. Enum c.args.m (record { 0 = i })) (meaning_in c.args.table.now) (meaning_in c.add.new.self)
    (sym (ap (enum_number c.args.meta.now) c.as_str.ensures.characters) ∙ sym c.in-Some.ensures.number ∙ ap Some c.if-first-e.true))
    c.add.ensures.added

pub returns-in-Some-clause-added : goal.returns-in-Some-clause-added
returns-in-Some-clause-added c =
    first_skipped (λ x. x.name) c.args.meta.now.enums no_enum c.args.e c.in_ok-name.name (c.in_ok-name.ensures.characters ∙ c.enum_name.ensures)
    (λ i. Enum c.args.m (record { 0 = i })) (meaning_in c.args.table.now)
    (not_other _ _ _ c.if-first-e.false (c.in-Some.ensures.number ∙ ap (enum_number c.args.meta.now) c.as_str.ensures.characters))

pub returns-clause-added : goal.returns-clause-added
returns-clause-added c =
    first_skipped (λ x. x.name) c.args.meta.now.enums no_enum c.args.e c.in_ok-name.name (c.in_ok-name.ensures.characters ∙ c.enum_name.ensures)
    (λ i. Enum c.args.m (record { 0 = i })) (meaning_in c.args.table.now)
    (not_none _ _ (c.in-None.ensures.number ∙ ap (enum_number c.args.meta.now) c.as_str.ensures.characters))

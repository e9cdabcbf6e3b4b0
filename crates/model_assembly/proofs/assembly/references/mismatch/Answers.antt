use Rattle.std.proofs.Common.{◌∙◌, ap, subst}
use Rattle.model_assembly.specs.AssemblyFirsts.{IsFirstUnanswered}
use Rattle.model_assembly.specs.AssemblyNamings.{sayings_of}
use Rattle.model_assembly.proofs.assembling.ToldLaws.{known_properties, mismatch_answer}
use Rattle.model_assembly.proofs.assembly.references.mismatch.Goals as goal

pub first_unanswered-requires : goal.first_unanswered-requires
first_unanswered-requires c = record { within = known_properties c.args.meta.now c.args.filed.now c.args.namings.now c.requires.sound c.requires.named }

pub returns-in-Some : goal.returns-in-Some
returns-in-Some c =
    let meta = c.args.meta.now in
    let xs = c.args.namings.now in
    let x = subst (IsFirstUnanswered meta xs c.as_slice-2.result.now) c.in-Some.is c.in_ok-i.ensures in
    mismatch_answer meta c.args.filed.now xs c.as_slice-2.result.now c.in-Some.i c.in_ok-unanswered_of-in-Some.field-0 c.requires.well c.requires.sound c.requires.named c.requires.single
    (c.as_slice-2.ensures.value ∙ c.in_ok-sayings.ensures ∙ ap (sayings_of xs) c.as_slice.ensures) x c.in_ok-unanswered_of-in-Some.ensures

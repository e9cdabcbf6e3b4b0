use Rattle.std.proofs.Common.{◌<◌, length, sym, subst}
use Rattle.std.specs.Prelude.{All}
use Rattle.model_assembly.specs.declared.assembly.naming.Naming.{Naming}
use Rattle.model_assembly.specs.AssemblyNamings.{IsFirstPlace, IsSecondWhole}
use Rattle.model_assembly.proofs.assembling.ToldLaws.{known_properties, known_objects, known_targets, second_told}
use Rattle.model_assembly.proofs.assembly.references.contained_twice.Goals as goal

pub first_second_whole-requires-clause-within : goal.first_second_whole-requires-clause-within
first_second_whole-requires-clause-within c = known_properties c.args.meta.now c.args.filed.now c.args.namings.now c.requires.sound c.requires.named

pub first_second_whole-requires-clause-object : goal.first_second_whole-requires-clause-object
first_second_whole-requires-clause-object c =
    subst (λ n. All (λ (x : Naming). x.object < n) c.args.namings.now) (sym c.len.ensures) (known_objects c.args.meta.now c.args.filed.now c.args.namings.now c.requires.sound c.requires.named)

pub first_second_whole-requires-clause-target : goal.first_second_whole-requires-clause-target
first_second_whole-requires-clause-target c =
    subst (λ n. All (λ (x : Naming). x.target < n) c.args.namings.now) (sym c.len.ensures) (known_targets c.args.meta.now c.args.filed.now c.args.namings.now c.requires.sound c.requires.named)

pub returns-in_ok-second_of-in-Some : goal.returns-in_ok-second_of-in-Some
returns-in_ok-second_of-in-Some c =
    let meta = c.args.meta.now in
    let xs = c.args.namings.now in
    let x = subst (IsFirstPlace (IsSecondWhole meta xs) (length xs)) c.in-Some.is c.in_ok-i.ensures in
    second_told meta c.args.filed.now xs c.in-Some.i c.in_ok-second_of-in-Some.field-0 c.requires.well c.requires.sound c.requires.named x.0 x.1 x.2 c.in_ok-second_of-in-Some.ensures

pub returns-in-None : goal.returns-in-None
returns-in-None c = subst (IsFirstPlace (IsSecondWhole c.args.meta.now c.args.namings.now) (length c.args.namings.now)) c.in-None.is c.in_ok-i.ensures

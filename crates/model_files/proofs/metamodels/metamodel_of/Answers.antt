use Rattle.std.proofs.Common.{◌∙◌, arith}
use Rattle.model_files.proofs.DescriptionLaws.{one_package, packages_within, described, not_described, only_described}
use Rattle.model_files.proofs.metamodels.metamodel_of.Goals as goal

pub returns-in-Some-clause-ok : goal.returns-in-Some-clause-ok
returns-in-Some-clause-ok c =
    let m = c.args.model.now in
    let one = one_package m c.as_slice.result.now c.in-Some.root (c.as_slice.ensures ∙ c.in_ok-packages.ensures) c.in-Some.ensures.some in
    described m c.in-Some.root.0 _ c.metamodel_from.result one c.in_ok-description_of-in-Some.ensures c.metamodel_from.ensures.ok

pub returns-in-Some-clause-fault : goal.returns-in-Some-clause-fault
returns-in-Some-clause-fault c =
    let m = c.args.model.now in
    let one = one_package m c.as_slice.result.now c.in-Some.root (c.as_slice.ensures ∙ c.in_ok-packages.ensures) c.in-Some.ensures.some in
    not_described m c.in-Some.root.0 _ c.metamodel_from.result one c.in_ok-description_of-in-Some.ensures c.metamodel_from.ensures.fault

pub returns-in-Some-clause-only : goal.returns-in-Some-clause-only
returns-in-Some-clause-only c =
    let m = c.args.model.now in
    let one = one_package m c.as_slice.result.now c.in-Some.root (c.as_slice.ensures ∙ c.in_ok-packages.ensures) c.in-Some.ensures.some in
    only_described m c.in-Some.root.0 _ c.metamodel_from.result one c.in_ok-description_of-in-Some.ensures c.metamodel_from.ensures.only

pub overflow_cast-result : goal.overflow_cast-result
overflow_cast-result c =
    let few = packages_within c.args.model.now c.in_ok-packages.packages c.in_ok-packages.ensures in
    omega (arith, few, c.end.ensures.number, c.end.type_inv)

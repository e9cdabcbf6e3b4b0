use Rattle.std.proofs.Common.{◌≡◌, [], ap, sym, ◌∙◌, subst, arith}
use Rattle.mof_metamodel.specs.declared.desc.MetaDesc.{MetaDesc}
use Rattle.object_tables.specs.Models.{ModelData, live_count}
use Rattle.object_tables.specs.Kept.{Kept}
use Rattle.object_tables.specs.Validity.{Valid}
use Rattle.example_models.specs.Source.{package_count, packages_objects, source_data}
use Rattle.example_models.specs.Growing.{model_of}
use Rattle.example_models.proofs.ValidLaws.{source_valid, source_length}
use Rattle.example_models.proofs.source.gen_source.Goals as goal

pub loop-number-init : goal.loop-number-init
loop-number-init c =
    let empty : MetaDesc → ModelData = λ d. record { meta = d; objects = [] } in
    record { grown = c.new-model.ensures ∙ ap empty c.requires.cls }

pub returns-clause-source : goal.returns-clause-source
returns-clause-source c =
    let all : c.loop-number.number ≡ package_count c.args.n = omega arith in
    c.loop-number.invariant.grown ∙ ap (λ k. model_of (packages_objects c.args.n c.args.seed k)) all

pub returns-clause-valid : goal.returns-clause-valid
returns-clause-valid c =
    let all : c.loop-number.number ≡ package_count c.args.n = omega arith in
    let is : c.loop-number.model ≡ source_data c.args.n c.args.seed = c.loop-number.invariant.grown ∙ ap (λ k. model_of (packages_objects c.args.n c.args.seed k)) all in
    subst Valid (sym is) (source_valid c.args.n c.args.seed (subst Kept is c.end.ensures.kept))

pub returns-clause-count : goal.returns-clause-count
returns-clause-count c =
    let all : c.loop-number.number ≡ package_count c.args.n = omega arith in
    let is : c.loop-number.model ≡ source_data c.args.n c.args.seed = c.loop-number.invariant.grown ∙ ap (λ k. model_of (packages_objects c.args.n c.args.seed k)) all in
    ap live_count is ∙ source_length c.args.n c.args.seed c.requires.some

use Rattle.std.proofs.Common.{◌≡◌, ◌∙◌, ap, arith, length, Some}
use Rattle.std.specs.Prelude.{option_map}
use Rattle.std.proofs.lemmas.List.{length-map}
use Rattle.mof_metamodel.specs.Metamodels.{props_of}
use Rattle.object_tables.specs.declared.tables.Named.{Named}
use Rattle.object_tables.proofs.incoming.property_at.Goals as goal

pub bounds-props-place : goal.bounds-props-place
bounds-props-place c =
    let same : Some c.in-Some.named.now.class ≡ Some c.requires.class = ap (option_map (λ (n : Named). n.class)) c.in-Some.ensures ∙ c.requires.class_is in
    let class : c.in-Some.named.now.class ≡ c.requires.class = cc in
    omega (
      arith,
      ap length c.props.ensures.numbers,
      length-map c.props.result.now (λ p. p.0),
      ap (λ k. length (props_of c.args.meta.now k)) class,
      c.requires.property,
    )

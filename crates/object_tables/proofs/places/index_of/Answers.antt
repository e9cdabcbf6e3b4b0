use Rattle.std.proofs.Common.{ap, ◌∙◌, sym, length}
use Rattle.std.proofs.lemmas.List.{length-map}
use Rattle.mof_metamodel.specs.Metamodels.{props_of}
use Rattle.object_tables.proofs.PlaceLemmas.{index_looked_up}
use Rattle.object_tables.proofs.places.index_of.Goals as goal

pub returns-in-Some-clause-value : goal.returns-in-Some-clause-value
returns-in-Some-clause-value c = sym ((index_looked_up (props_of c.args.meta.now c.args.class.0) c.args.p.0 c.place_of.result c.place_of.ensures).0 c.in-Some.i c.in-Some.is).0

pub returns-in-None-clause-value : goal.returns-in-None-clause-value
returns-in-None-clause-value c =
    sym (length-map c.props.result.now (λ p. p.0)) ∙ ap length c.props.ensures.numbers
    ∙ sym ((index_looked_up (props_of c.args.meta.now c.args.class.0) c.args.p.0 c.place_of.result c.place_of.ensures).1 c.in-None.is)

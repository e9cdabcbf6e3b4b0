use Rattle.std.proofs.Common.{sym, arith}
use Rattle.mof_metamodel.specs.Metamodels.{props_of}
use Rattle.object_tables.proofs.ModelLemmas.{index-within}
use Rattle.object_tables.proofs.PlaceLemmas.{index_looked_up}
use Rattle.model_assembly.specs.AssemblyEntries.{class_in}
use Rattle.model_assembly.proofs.assembly.entry.place_of.Goals as goal

pub unreachable-requires : goal.unreachable-requires
unreachable-requires c =
    let props = props_of c.args.meta.now (class_in c.args.classes.now c.args.object).0 in
    let past = (index_looked_up props c.args.property.0 c.place_of.result c.place_of.ensures).1 c.in-None.is in
    let within = index-within props c.args.property.0 c.requires.has in
    absurd (omega (arith, past, within))

pub returns : goal.returns
returns c =
    let props = props_of c.args.meta.now (class_in c.args.classes.now c.args.object).0 in
    sym ((index_looked_up props c.args.property.0 c.place_of.result c.place_of.ensures).0 c.in-Some.place c.in-Some.is).0

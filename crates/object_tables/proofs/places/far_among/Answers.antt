use Rattle.std.proofs.Common.{◌≡◌, ◌+◌, ◌∙◌, sym, arith, suc}
use Rattle.mof_metamodel.specs.Metamodels.{props_of}
use Rattle.object_tables.proofs.PlaceLemmas.{index_looked_up, far_found, far_missing}
use Rattle.object_tables.proofs.places.far_among.Goals as goal

pub returns-in-Some : goal.returns-in-Some
returns-in-Some c =
    let at = (index_looked_up (props_of c.args.meta.now c.args.class.0) c.args.q.0 c.place_of.result c.place_of.ensures).0 c.in-Some.i c.in-Some.is in
    let plain : c.in-Some.i + 2 ≡ suc (suc c.in-Some.i) = omega arith in
    plain ∙ sym (far_found (props_of c.args.meta.now c.args.class.0) c.args.q.0 c.in-Some.i c.args.otherwise at.0 at.1)

pub returns-in-None : goal.returns-in-None
returns-in-None c =
    let missing = (index_looked_up (props_of c.args.meta.now c.args.class.0) c.args.q.0 c.place_of.result c.place_of.ensures).1 c.in-None.is in
    sym (far_missing (props_of c.args.meta.now c.args.class.0) c.args.q.0 c.args.otherwise missing)

use Rattle.std.proofs.Common.{arith, ap, length}
use Rattle.object_tables.specs.Rows.{row_at}
use Rattle.object_tables.proofs.DeleteLemmas.{alike-cleared}
use Rattle.object_tables.proofs.tables.Tables.clear.Goals as goal

pub clear_place-requires-clause-object : goal.clear_place-requires-clause-object
clear_place-requires-clause-object c =
    let a = (alike-cleared c.args.self.now c.args.o c.loop-k.k).len in
    let e = ap length c.loop-k.invariant in
    let r = c.requires in
    omega arith

pub clear_place-requires-clause-place : goal.clear_place-requires-clause-place
clear_place-requires-clause-place c =
    let a = (alike-cleared c.args.self.now c.args.o c.loop-k.k).places c.args.o in
    let e = ap (λ rows. length (row_at rows c.args.o).places) c.loop-k.invariant in
    let t = c.loop-k-test.true in
    let n = c.place_count-k-end.ensures in
    omega arith

use Rattle.std.proofs.Common.{◌++◌, [], ◌∷◌, arith}
use Rattle.std.proofs.lemmas.List.{length-append}
use Rattle.object_tables.proofs.ContainmentLemmas.{path-room, path-push}
use Rattle.object_tables.proofs.model.Model.depth.Goals as goal

pub overflow_add-depth : goal.overflow_add-depth
overflow_add-depth c =
    let (path, h, e) = c.loop-container.invariant.1 in
    let room = path-room c.args.self.now c.args.o.0 path c.loop-container.at.0 c.in-Some.container.0 c.requires.acyclic c.requires.live h (c.in-Some.field-0-1.0, c.in-Some.ensures.contained) in
    omega arith

pub loop-container-smaller : goal.loop-container-smaller
loop-container-smaller c =
    let (path, h, e) = c.loop-container.invariant.1 in
    let room = path-room c.args.self.now c.args.o.0 path c.loop-container.at.0 c.in-Some.container.0 c.requires.acyclic c.requires.live h (c.in-Some.field-0-1.0, c.in-Some.ensures.contained) in
    omega arith

pub loop-container-preserved : goal.loop-container-preserved
loop-container-preserved c =
    let (path, h, e) = c.loop-container.invariant.1 in
    let n = length-append path (c.in-Some.container.0 ∷ []) in
    let h' = path-push c.args.self.now c.args.o.0 path c.loop-container.at.0 c.in-Some.container.0 h (c.in-Some.field-0-1.0, c.in-Some.ensures.contained) in
    (c.in-Some.ensures.live, (path ++ c.in-Some.container.0 ∷ [], h', omega arith))

use Rattle.std.proofs.Common.{◌++◌, [], ◌∷◌, refl, arith}
use Rattle.std.proofs.lemmas.List.{length-append}
use Rattle.object_tables.proofs.ContainmentLemmas.{path-room, path-push}
use Rattle.object_tables.proofs.DepthLemmas.{depth-join, depth-top, depth-few}
use Rattle.object_tables.proofs.model.Model.depth_by.Goals as goal

pub loop-at-init : goal.loop-at-init
loop-at-init c = record { live = c.requires.live; way = ([], refl, refl) }

pub returns-then-found-ne0 : goal.returns-then-found-ne0
returns-then-found-ne0 c =
    let (path, h, e) = c.loop-at.invariant.way in
    depth-join c.args.self.now c.args.o.0 path c.loop-at.at.0 c.loop-at.below _ h e (c.requires.depths.each c.loop-at.at.0 (omega arith))

pub overflow_add-depth : goal.overflow_add-depth
overflow_add-depth c =
    let (path, h, e) = c.loop-at.invariant.way in
    let few = depth-few c.args.self.now c.args.o.0 _ c.requires.acyclic c.requires.live (depth-join c.args.self.now c.args.o.0 path c.loop-at.at.0 c.loop-at.below _ h e (c.requires.depths.each c.loop-at.at.0 (omega arith))) in
    omega arith

pub returns-in-None : goal.returns-in-None
returns-in-None c =
    let (path, h, e) = c.loop-at.invariant.way in
    depth-join c.args.self.now c.args.o.0 path c.loop-at.at.0 c.loop-at.below 1 h e (depth-top c.args.self.now c.loop-at.at.0 c.in-None.ensures.top)

pub overflow_add-top : goal.overflow_add-top
overflow_add-top c =
    let (path, h, e) = c.loop-at.invariant.way in
    let few = depth-few c.args.self.now c.args.o.0 _ c.requires.acyclic c.requires.live (depth-join c.args.self.now c.args.o.0 path c.loop-at.at.0 c.loop-at.below 1 h e (depth-top c.args.self.now c.loop-at.at.0 c.in-None.ensures.top)) in
    omega arith

pub overflow_add-below : goal.overflow_add-below
overflow_add-below c =
    let (path, h, e) = c.loop-at.invariant.way in
    let room = path-room c.args.self.now c.args.o.0 path c.loop-at.at.0 c.in-Some.container.0 c.requires.acyclic c.requires.live h (c.in-Some.field-0-1.0, c.in-Some.ensures.contained) in
    omega arith

pub loop-at-smaller : goal.loop-at-smaller
loop-at-smaller c =
    let (path, h, e) = c.loop-at.invariant.way in
    let room = path-room c.args.self.now c.args.o.0 path c.loop-at.at.0 c.in-Some.container.0 c.requires.acyclic c.requires.live h (c.in-Some.field-0-1.0, c.in-Some.ensures.contained) in
    omega arith

pub loop-at-preserved : goal.loop-at-preserved
loop-at-preserved c =
    let (path, h, e) = c.loop-at.invariant.way in
    let n = length-append path (c.in-Some.container.0 ∷ []) in
    let h' = path-push c.args.self.now c.args.o.0 path c.loop-at.at.0 c.in-Some.container.0 h (c.in-Some.field-0-1.0, c.in-Some.ensures.contained) in
    record { live = c.in-Some.ensures.live; way = (path ++ c.in-Some.container.0 ∷ [], h', omega arith) }

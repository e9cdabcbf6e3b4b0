use Rattle.std.proofs.Common.{◌≡◌, ℕ, ◌+◌, List, [], ◌∷◌, ◌++◌, Bor, map, take, length, arith, sym, ap, subst, ◌∙◌}
use Rattle.std.specs.Prelude.{Some, slice_get}
use Rattle.std.specs.Option.{option_map}
use Rattle.std.proofs.lemmas.Option.{slice_get-get_or, slice_get-map}
use Rattle.std.proofs.lemmas.List.{take_more, take_all, length-take-le, length-map, map-append}
use Rattle.qv_syntax.specs.declared.program.Var.{Var}
use Rattle.qv_syntax.specs.declared.script.RelationTree.{RelationTree}
use Rattle.script_scopes.specs.Occurrences.{variables_of}
use Rattle.qvtr_types.specs.RootVariables.{HasRoots, AreRootsOf}
use Rattle.qvtr_types.proofs.DataNameLaws.{zip_here}
use Rattle.script_scopes.proofs.LoopLemmas.{shown_more}
use Rattle.qvtr_types.proofs.RootVariableLaws.{roots_more}
use Rattle.qvtr_types.proofs.roots.all_roots.Goals as goal

abbrev shown : List (Bor RelationTree) → List RelationTree
shown rs = map {A = Bor RelationTree} {B = RelationTree} (λ r. r.now) rs

abbrev roots_shown : List (Bor Var) → List Var
roots_shown rs = map {A = Bor Var} {B = Var} (λ r. r.now) rs

pub roots_of-requires : goal.roots_of-requires
roots_of-requires c =
    let i : ℕ = c.loop-place.place in
    let r : RelationTree = c.index-relations-place.result.now in
    let vs : List Var = c.index-vars-place.result in
    let here : slice_get (shown c.args.relations.now) i ≡ Some r =
    slice_get-map (λ (x : Bor RelationTree). x.now) c.args.relations.now i
    ∙ ap (option_map (λ (x : Bor RelationTree). x.now)) (slice_get-get_or c.args.relations.now i c.index-relations-place.result c.loop-place-test.true ∙ ap Some (sym c.index-relations-place.is)) in
    let its : slice_get c.args.vars.now i ≡ Some vs =
    slice_get-get_or c.args.vars.now i vs (omega (arith, c.requires.count, c.loop-place-test.true)) ∙ ap Some (sym c.index-vars-place.is) in
    ap (λ (xs : List Var). length xs) c.as_slice.ensures
    ∙ sym (zip_here (λ r vs. length (variables_of r) ≡ length vs) (shown c.args.relations.now) c.args.vars.now i r vs c.requires.each here its)

pub loop-place-preserved : goal.loop-place-preserved
loop-place-preserved c =
    let i : ℕ = c.loop-place.place in
    let r : RelationTree = c.index-relations-place.result.now in
    let vs : List Var = c.index-vars-place.result in
    let rs : List Var = roots_shown c.in_ok-roots.roots in
    let rels : List RelationTree = shown (take i c.args.relations.now) in
    let before : List (List Var) = map roots_shown c.loop-place.out in
    let rels_more : shown (take (i + 1) c.args.relations.now) ≡ rels ++ r ∷ [] =
    shown_more {X = Bor RelationTree} {Y = RelationTree} (λ r. r.now) c.args.relations.now i c.index-relations-place.result c.loop-place-test.true c.index-relations-place.is in
    let vars_more : take (i + 1) c.args.vars.now ≡ take i c.args.vars.now ++ vs ∷ [] =
    take_more c.args.vars.now i vs (omega (arith, c.requires.count, c.loop-place-test.true)) ∙ ap (λ (x : List Var). take i c.args.vars.now ++ x ∷ []) (sym c.index-vars-place.is) in
    let outs_more : map roots_shown (c.loop-place.out ++ c.in_ok-roots.roots ∷ []) ≡ before ++ rs ∷ [] = map-append roots_shown c.loop-place.out (c.in_ok-roots.roots ∷ []) in
    let long : length (take i c.args.vars.now) ≡ length rels =
    length-take-le i c.args.vars.now (omega (arith, c.requires.count, c.loop-place-test.true))
    ∙ sym (length-take-le i c.args.relations.now (omega (arith, c.loop-place-test.true)))
    ∙ sym (length-map {A = Bor RelationTree} {B = RelationTree} (take i c.args.relations.now) (λ r. r.now)) in
    let one : HasRoots r vs rs = subst (λ (xs : List Var). HasRoots r xs rs) c.as_slice.ensures c.in_ok-roots.ensures in
    subst (λ (os : List (List (Bor Var))). AreRootsOf (shown (take (i + 1) c.args.relations.now)) (take (i + 1) c.args.vars.now) (map roots_shown os)) (sym c.in_ok-push.ensures.ok)
    (subst (AreRootsOf (shown (take (i + 1) c.args.relations.now)) (take (i + 1) c.args.vars.now)) (sym outs_more)
    (subst (λ (xs : List (List Var)). AreRootsOf (shown (take (i + 1) c.args.relations.now)) xs (before ++ rs ∷ [])) (sym vars_more)
    (subst (λ (xs : List RelationTree). AreRootsOf xs (take i c.args.vars.now ++ vs ∷ []) (before ++ rs ∷ [])) (sym rels_more)
    (roots_more rels (take i c.args.vars.now) before r vs rs long c.loop-place.invariant one))))

pub returns : goal.returns
returns c =
    let i : ℕ = c.loop-place.place in
    subst (λ (xs : List (List Var)). AreRootsOf (shown c.args.relations.now) xs (map roots_shown c.loop-place.out)) (take_all i c.args.vars.now (omega (arith, c.requires.count, c.loop-place-test.false)))
    (subst (λ (xs : List (Bor RelationTree)). AreRootsOf (shown xs) (take i c.args.vars.now) (map roots_shown c.loop-place.out)) (take_all i c.args.relations.now (omega (arith, c.loop-place-test.false))) c.loop-place.invariant)

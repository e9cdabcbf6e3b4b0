use Rattle.std.proofs.Common.{◌≡◌, ℕ, ◌+◌, List, [], ◌∷◌, ◌++◌, Bor, map, take, arith, ap, sym, subst, ◌∙◌}
use Rattle.std.specs.Prelude.{All}
use Rattle.std.proofs.lemmas.List.{take_more, take_all, map-append}
use Rattle.std.proofs.lemmas.List.Elements.{All-push}
use Rattle.qv_syntax.specs.declared.script.RelationTree.{RelationTree}
use Rattle.script_scopes.specs.Refusals.{HasNamesInOrder}
use Rattle.script_scopes.proofs.name_faults.refuse_each.Goals as goal

abbrev shown : List (Bor RelationTree) → List RelationTree
shown rs = map {A = Bor RelationTree} {B = RelationTree} (λ r. r.now) rs

pub loop-relation-preserved : goal.loop-relation-preserved
loop-relation-preserved c =
    let names : List (List ℕ) = map {A = List ℕ × ℕ} {B = List ℕ} (λ e. e.0) c.args.models.now in
    let so_far : List (Bor RelationTree) = take c.loop-relation.relation-index c.args.relations.now in
    let more : shown (take (c.loop-relation.relation-index + 1) c.args.relations.now) ≡ shown so_far ++ c.relation-item.result.now ∷ [] =
    ap shown (take_more c.args.relations.now c.loop-relation.relation-index c.relation-item.result (omega arith) ∙ ap (λ (y : Bor RelationTree). so_far ++ y ∷ []) (sym c.relation-item.is))
    ∙ map-append {A = Bor RelationTree} {B = RelationTree} (λ r. r.now) so_far (c.relation-item.result ∷ []) in
    subst (All (HasNamesInOrder names)) (sym more)
    (All-push (HasNamesInOrder names) (shown so_far) c.relation-item.result.now c.loop-relation.invariant c.in_ok-refuse_relation.ensures.in_order)

pub returns-clause-in_order : goal.returns-clause-in_order
returns-clause-in_order c =
    let names : List (List ℕ) = map {A = List ℕ × ℕ} {B = List ℕ} (λ e. e.0) c.args.models.now in
    subst (λ (rs : List (Bor RelationTree)). All (HasNamesInOrder names) (shown rs)) (take_all c.loop-relation.relation-index c.args.relations.now (omega arith)) c.loop-relation.invariant

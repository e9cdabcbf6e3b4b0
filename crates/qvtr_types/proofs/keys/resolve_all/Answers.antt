use Rattle.std.proofs.Common.{◌≡◌, ◌+◌, List, [], ◌∷◌, ◌++◌, Bor, map, take, arith, ap, sym, subst, ◌∙◌}
use Rattle.std.specs.List.{AllZip}
use Rattle.std.proofs.lemmas.List.{take_more, take_all, map-append}
use Rattle.std.proofs.lemmas.List.Elements.{All-push}
use Rattle.qv_syntax.specs.declared.script.KeyTree.{KeyTree}
use Rattle.script_scopes.specs.Keys.{IsKey, IsShaped}
use Rattle.qvtr_types.specs.KeySearches.{AreEachKeys}
use Rattle.script_scopes.proofs.LoopLemmas.{zip_push}
use Rattle.qvtr_types.proofs.keys.resolve_all.Goals as goal

abbrev shown : List (Bor KeyTree) → List KeyTree
shown ts = map {A = Bor KeyTree} {B = KeyTree} (λ t. t.now) ts

pub loop-tree-preserved : goal.loop-tree-preserved
loop-tree-preserved c =
    let so_far : List (Bor KeyTree) = take c.loop-tree.tree-index c.args.trees.now in
    let more : shown (take (c.loop-tree.tree-index + 1) c.args.trees.now) ≡ shown so_far ++ c.tree-item.result.now ∷ [] =
    ap shown (take_more c.args.trees.now c.loop-tree.tree-index c.tree-item.result (omega arith) ∙ ap (λ (y : Bor KeyTree). so_far ++ y ∷ []) (sym c.tree-item.is))
    ∙ map-append {A = Bor KeyTree} {B = KeyTree} (λ t. t.now) so_far (c.tree-item.result ∷ []) in
    subst (λ (ts : List KeyTree). AreEachKeys c.args.env.now ts c.push.new.self) (sym more)
    (record {
      each = subst (AllZip (IsKey c.args.env.now) (shown so_far ++ c.tree-item.result.now ∷ [])) (sym c.in_ok-push.ensures.ok)
          (zip_push (IsKey c.args.env.now) (shown so_far) c.loop-tree.keys c.tree-item.result.now c.in_ok-key.key c.loop-tree.invariant.each c.in_ok-key.ensures.is);
      shaped = All-push IsShaped (shown so_far) c.tree-item.result.now c.loop-tree.invariant.shaped c.in_ok-key.ensures.shaped;
    })

pub returns-clause-are : goal.returns-clause-are
returns-clause-are c =
    subst (λ (ts : List (Bor KeyTree)). AreEachKeys c.args.env.now (shown ts) c.loop-tree.keys) (take_all c.loop-tree.tree-index c.args.trees.now (omega arith)) c.loop-tree.invariant

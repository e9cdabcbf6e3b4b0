use Rattle.std.proofs.Common.{sym, refl, ap, ◌∙◌, ◌++◌, arith}
use Rattle.enforcement_rules.specs.Mentions.{mentions_in, mentions_behind, mentions_with}
use Rattle.enforcement_rules.proofs.MentionLemmas.{mentions_more, by_link, mentions_of_step, let_mentions, chain_mentions, postfix_mentions, if_mentions, query_mentions, both_behind, behind_told}
use Rattle.enforcement_rules.proofs.mentions.+mentions.Goals as goal

pub put_all-loop-tree-preserved : goal.put_all-loop-tree-preserved
put_all-loop-tree-preserved t c =
    mentions_more mentions_in c.args.trees.now c.loop-tree.tree-index c.tree-item.result c.args.out.now c.loop-tree.out c.put_mentions.new.out (omega arith) c.tree-item.is c.loop-tree.invariant
    c.in_ok-put_mentions.ensures

pub put_links-loop-link-preserved : goal.put_links-loop-link-preserved
put_links-loop-link-preserved t c =
    mentions_more mentions_behind c.args.links.now c.loop-link.link-index c.link-item.result c.args.out.now c.loop-link.out c.put_mentions.new.out (omega arith) c.link-item.is c.loop-link.invariant
    (c.in_ok-put_mentions.ensures ∙ ap (λ ys. c.loop-link.out ++ ys) (sym (by_link c.link-item.result)))

pub put_postfixes-loop-postfix-preserved : goal.put_postfixes-loop-postfix-preserved
put_postfixes-loop-postfix-preserved t c =
    mentions_more mentions_with c.args.postfixes.now c.loop-postfix.postfix-index c.postfix-item.result c.args.out.now c.loop-postfix.out c.put_call.new.out (omega arith) c.postfix-item.is
    c.loop-postfix.invariant (c.in_ok-put_call.ensures ∙ ap (λ ys. c.loop-postfix.out ++ ys) (sym (mentions_of_step c.postfix-item.result)))

pub put_node-returns-in_ok-put_mentions-in-Let : goal.put_node-returns-in_ok-put_mentions-in-Let
put_node-returns-in_ok-put_mentions-in-Let t c =
    behind_told c.put_mentions-in-Let.result _ _ _ _ _ _ c.in_ok-put_mentions-in-Let.ensures
    (let_mentions c.args.node.now c.in-Let.variable c.in-Let.value c.in-Let.body c.get.result.now c.get-in-Let.result.now c.in-Let.is c.get.ensures c.get-in-Let.ensures)
    c.put_mentions-in-Let.ensures

pub put_node-returns-in_ok-put_mentions-in-Chain : goal.put_node-returns-in_ok-put_mentions-in-Chain
put_node-returns-in_ok-put_mentions-in-Chain t c =
    behind_told c.put_links.result _ _ _ _ _ _ c.in_ok-put_mentions-in-Chain.ensures
    (chain_mentions c.args.node.now c.in-Chain.first c.get-in-Chain.result.now c.in-Chain.rest c.as_slice.result.now c.in-Chain.is c.get-in-Chain.ensures c.as_slice.ensures) c.put_links.ensures

pub put_node-returns-in_ok-put_mentions-in-Calls : goal.put_node-returns-in_ok-put_mentions-in-Calls
put_node-returns-in_ok-put_mentions-in-Calls t c =
    behind_told c.put_postfixes.result _ _ _ _ _ _ c.in_ok-put_mentions-in-Calls.ensures
    (postfix_mentions c.args.node.now c.in-Calls.of c.get-in-Calls.result.now c.in-Calls.postfixes c.as_slice-in-Calls.result.now c.in-Calls.is c.get-in-Calls.ensures c.as_slice-in-Calls.ensures)
    c.put_postfixes.ensures

pub put_node-returns-in_ok-put_mentions-in-If-2 : goal.put_node-returns-in_ok-put_mentions-in-If-2
put_node-returns-in_ok-put_mentions-in-If-2 t c =
    behind_told c.put_mentions-in-If-3.result _ _ _ _ _ _ (c.in_ok-put_mentions-in-If-2.ensures ∙ both_behind c.args.out.now _ _ _ _ c.in_ok-put_mentions-in-If.ensures refl)
    (if_mentions c.args.node.now c.in-If.condition c.in-If.one c.in-If.other c.get-in-If.result.now c.get-in-If-2.result.now c.get-in-If-3.result.now c.in-If.is c.get-in-If.ensures
    c.get-in-If-2.ensures c.get-in-If-3.ensures) c.put_mentions-in-If-3.ensures

pub put_node-returns-in_ok-push-in-Query : goal.put_node-returns-in_ok-push-in-Query
put_node-returns-in_ok-push-in-Query t c =
    behind_told c.put_all-in-Query.result _ _ _ _ _ _ c.in_ok-push-in-Query.ensures.ok
    (query_mentions c.args.node.now c.in-Query.query c.in-Query.args c.as_slice-in-Query.result.now c.in-Query.is c.as_slice-in-Query.ensures) c.put_all-in-Query.ensures

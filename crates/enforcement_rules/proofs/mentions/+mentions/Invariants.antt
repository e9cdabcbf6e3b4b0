use Rattle.std.proofs.Common.{◌≡◌, ◌++◌, take, map}
use Rattle.enforcement_rules.specs.Mentions.{joined, mentions_in, mentions_behind, mentions_with}
use Rattle.enforcement_rules.proofs.mentions.+mentions.Given as goal

-- the calls of those so far stand behind the others
abbrev pub invariant-put_all-loop-tree : goal.invariant-put_all-loop-tree
invariant-put_all-loop-tree l = l.out ≡ l.fn.out ++ joined (map mentions_in (take l.tree-index l.trees))

abbrev pub invariant-put_links-loop-link : goal.invariant-put_links-loop-link
invariant-put_links-loop-link l = l.out ≡ l.fn.out ++ joined (map mentions_behind (take l.link-index l.links))

abbrev pub invariant-put_postfixes-loop-postfix : goal.invariant-put_postfixes-loop-postfix
invariant-put_postfixes-loop-postfix l = l.out ≡ l.fn.out ++ joined (map mentions_with (take l.postfix-index l.postfixes))

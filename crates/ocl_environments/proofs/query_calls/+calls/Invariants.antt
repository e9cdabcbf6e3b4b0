use Rattle.std.proofs.Common.{◌≡◌, ◌++◌, take, map}
use Rattle.std.specs.List.{concat}
use Rattle.ocl_environments.specs.QueryCalls.{called_by, called_behind, called_with}
use Rattle.ocl_environments.proofs.query_calls.+calls.Given as goal

-- the calls of those so far stand behind the others
abbrev pub invariant-put_all-loop-tree : goal.invariant-put_all-loop-tree
invariant-put_all-loop-tree l = l.calls ≡ l.fn.calls ++ concat (map called_by (take l.tree-index l.trees))

abbrev pub invariant-put_links-loop-link : goal.invariant-put_links-loop-link
invariant-put_links-loop-link l = l.calls ≡ l.fn.calls ++ concat (map called_behind (take l.link-index l.links))

abbrev pub invariant-put_postfixes-loop-postfix : goal.invariant-put_postfixes-loop-postfix
invariant-put_postfixes-loop-postfix l = l.calls ≡ l.fn.calls ++ concat (map called_with (take l.postfix-index l.postfixes))

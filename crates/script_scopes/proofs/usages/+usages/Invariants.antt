use Rattle.std.proofs.Common.{◌≡◌, ◌++◌, map, take}
use Rattle.std.specs.List.{flat_map}
use Rattle.script_scopes.specs.Usages.{expr_usages, infix_usages, postfix_usages}
use Rattle.script_scopes.proofs.usages.+usages.Given as goal

abbrev pub invariant-add_exprs-loop-e : goal.invariant-add_exprs-loop-e
invariant-add_exprs-loop-e l = l.out ≡ l.fn.out ++ flat_map (λ e. e.usages) (map expr_usages (take l.e-index l.exprs))

abbrev pub invariant-add_infixes-loop-link : goal.invariant-add_infixes-loop-link
invariant-add_infixes-loop-link l = l.out ≡ l.fn.out ++ flat_map (λ r. r) (map infix_usages (take l.link-index l.links))

abbrev pub invariant-add_postfixes-loop-call : goal.invariant-add_postfixes-loop-call
invariant-add_postfixes-loop-call l = l.out ≡ l.fn.out ++ flat_map (λ c. c.usages) (map postfix_usages (take l.call-index l.calls))

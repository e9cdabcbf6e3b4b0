use Rattle.std.proofs.Common.{◌≡◌, map, drop, []}
use Rattle.ocl_environments.specs.Scopes.{in_reach}
use Rattle.ocl_types.specs.Typing.{meaning, operated_by, calling, parts_from, chained_from, called_from}
use Rattle.ocl_types.proofs.typing.+typing.Given as goal

-- the scope is as it was, and what is left gives what the whole gives
abbrev pub invariant-type_parts-loop-expr : goal.invariant-type_parts-loop-expr
invariant-type_parts-loop-expr l = (l.scope ≡ l.fn.scope)
    × (parts_from (in_reach l.fn.scope) l.parts (map (λ e. e.typing) (map meaning (drop l.expr-index l.exprs)))
    ≡ parts_from (in_reach l.fn.scope) [] (map (λ e. e.typing) (map meaning l.exprs)))

abbrev pub invariant-type_links-loop-link : goal.invariant-type_links-loop-link
invariant-type_links-loop-link l = (l.scope ≡ l.fn.scope)
    × (chained_from (in_reach l.fn.scope) l.reached (map operated_by (drop l.link-index l.links))
    ≡ chained_from (in_reach l.fn.scope) l.fn.chain (map operated_by l.links))

abbrev pub invariant-type_postfixes-loop-call : goal.invariant-type_postfixes-loop-call
invariant-type_postfixes-loop-call l = (l.scope ≡ l.fn.scope)
    × (called_from (in_reach l.fn.scope) l.reached (map calling (drop l.call-index l.calls)) ≡ called_from (in_reach l.fn.scope) l.fn.called (map calling l.calls))

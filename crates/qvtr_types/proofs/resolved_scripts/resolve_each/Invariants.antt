use Rattle.std.proofs.Common.{◌≡◌, map, take}
use Rattle.std.specs.List.{AllZip}
use Rattle.script_scopes.specs.Directions.{IsStratum}
use Rattle.script_scopes.specs.Environments.{Setting}
use Rattle.qvtr_types.specs.ScriptScopes.{IsDeclared, IsScriptScopeOf}
use Rattle.qvtr_types.specs.ResolvedScripts.{IsResolvedTo}
use Rattle.qvtr_types.proofs.resolved_scripts.resolve_each.Given as goal

-- the relations so far are resolved, and none of their variables is in reach
abbrev pub invariant-loop-place : goal.invariant-loop-place
invariant-loop-place l = (l.env ≡ l.fn.env)
    × ((s : Setting) → IsScriptScopeOf s l.fn.env l.scope → AllZip (IsDeclared s) (map (λ r. r.now) l.relations) l.vars → AllZip (IsStratum s.script) (map (λ r. r.now) l.relations) l.strata
    → AllZip (IsResolvedTo s) (map (λ r. r.now) (take l.place l.relations)) l.out)

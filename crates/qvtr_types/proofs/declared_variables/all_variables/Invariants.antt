use Rattle.std.proofs.Common.{map, take}
use Rattle.std.specs.Prelude.{chars}
use Rattle.std.specs.List.{AllZip}
use Rattle.script_scopes.specs.Environments.{Setting}
use Rattle.script_variables.specs.ScriptSettings.{AreOfScript}
use Rattle.qvtr_types.specs.ScriptScopes.{IsDeclared}
use Rattle.qvtr_types.proofs.declared_variables.all_variables.Given as goal

-- the variables so far are those of the relations so far
abbrev pub invariant-loop-relation : goal.invariant-loop-relation
invariant-loop-relation l = (s : Setting) → AreOfScript s l.env l.tables (chars l.target) (map (λ r. r.now) l.relations) → AllZip (IsDeclared s) (map (λ r. r.now) (take l.relation-index l.relations)) l.out

use Rattle.std.proofs.Common.{◌≡◌, not, take}
use Rattle.std.specs.List.{filter}
use Rattle.template_match.specs.Sources.{is_target_variable}
use Rattle.template_match.proofs.without_target.source_variables.Given as goal

abbrev pub invariant-loop-variable : goal.invariant-loop-variable
invariant-loop-variable l = l.variables ≡ filter (λ v. not (is_target_variable l.program l.rel v)) (take l.variable-index l.rel.universal)

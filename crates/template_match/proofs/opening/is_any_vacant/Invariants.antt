use Rattle.std.proofs.Common.{◌≡◌, drop}
use Rattle.std.specs.Prelude.{slice_get}
use Rattle.std.specs.List.{list_any}
use Rattle.template_match.specs.Search.{is_vacant}
use Rattle.template_match.proofs.opening.is_any_vacant.Given as goal

abbrev pub invariant-loop-variable : goal.invariant-loop-variable
invariant-loop-variable l = list_any (λ v. is_vacant (slice_get l.binding.values v)) (drop l.variable-index l.variables)
    ≡ list_any (λ v. is_vacant (slice_get l.binding.values v)) l.variables

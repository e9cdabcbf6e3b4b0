use Rattle.std.proofs.Common.{◌≡◌, ℕ, List, ◌++◌, map, drop}
use Rattle.script_scopes.specs.UniversalNames.{is_among, numbers_from}
use Rattle.script_scopes.proofs.divisions.numbers_where.Given as goal

abbrev pub invariant-loop-variable : goal.invariant-loop-variable
invariant-loop-variable l = l.out ++ numbers_from (is_among (map {A = List ℕ × ℕ} {B = List ℕ} (λ e. e.0) l.names) l.wanted) l.k (drop l.variable-index l.variables)
    ≡ numbers_from (is_among (map {A = List ℕ × ℕ} {B = List ℕ} (λ e. e.0) l.names) l.wanted) 0 l.variables

use Rattle.std.proofs.Common.{◌≡◌, ℕ, List, ◌++◌, map, take}
use Rattle.std.specs.List.{flat_map}
use Rattle.script_variables.specs.Bindings.{conjunct_rules, numbered}
use Rattle.script_variables.proofs.bindings.add_conjuncts.Given as goal

abbrev pub invariant-loop-conjunct : goal.invariant-loop-conjunct
invariant-loop-conjunct l = l.out ≡ l.fn.out ++ flat_map (λ e. numbered l.types (conjunct_rules (map {A = List ℕ × ℕ} {B = List ℕ} (λ e. e.0) l.universal) l.wanted e)) (map (λ e. e.now) (take l.conjunct-index l.conjuncts))

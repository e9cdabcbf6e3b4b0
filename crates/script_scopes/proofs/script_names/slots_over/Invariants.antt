use Rattle.std.proofs.Common.{◌≡◌, map, take}
use Rattle.script_scopes.specs.Environments.{place_of}
use Rattle.script_scopes.proofs.script_names.slots_over.Given as goal

abbrev pub invariant-loop-model : goal.invariant-loop-model
invariant-loop-model l = l.out ≡ map (λ m. record { name = m.name.text; meta = place_of m.meta.text (map (λ e. e.0) l.metas) }) (take l.model-index l.models)

use Rattle.std.proofs.Common.{◌≡◌, map, drop}
use Rattle.script_scopes.specs.FirstEntries.{entries_onto, first_entries}
use Rattle.script_scopes.proofs.object_models.named_relations.Given as goal

abbrev pub invariant-loop-relation : goal.invariant-loop-relation
invariant-loop-relation l = entries_onto l.table (map (λ r. (r.now.name.text, r)) (drop l.relation-index l.relations)) ≡ first_entries (map (λ r. (r.now.name.text, r)) l.relations)

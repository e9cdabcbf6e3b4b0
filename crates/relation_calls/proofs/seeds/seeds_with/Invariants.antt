use Rattle.std.proofs.Common.{◌≡◌, map, take}
use Rattle.std.specs.Prelude.{Some, slice_set}
use Rattle.qvtr_semantics.specs.declared.datum.Datum.{Datum}
use Rattle.qvtr_semantics.specs.Calls.{free}
use Rattle.template_match.specs.Search.{values_of}
use Rattle.relation_calls.proofs.seeds.seeds_with.Given as goal

abbrev pub invariant-loop-datum : goal.invariant-loop-datum
invariant-loop-datum l = values_of l.seeds ≡ map (λ (d : Datum). slice_set (free l.rel) l.variable (Some d)) (take l.datum-index l.objects)

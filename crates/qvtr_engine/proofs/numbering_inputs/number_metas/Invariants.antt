use Rattle.std.proofs.Common.{◌≡◌, take}
use Rattle.ocl_environments.specs.Environments.{no_meta}
use Rattle.qvtr_engine.specs.FoundFiles.{items_named}
use Rattle.qvtr_engine.proofs.NumberingLaws.{Remains}
use Rattle.qvtr_engine.proofs.numbering_inputs.number_metas.Given as goal

-- the metamodels of the names so far were taken out, and all others are still there
abbrev pub invariant-loop-name : goal.invariant-loop-name
invariant-loop-name l = record {
  numbered : l.metas ≡ items_named no_meta l.initial.found.items (take l.name-index l.names);
  rest : Remains l.initial.found.items l.found.items (take l.name-index l.names);
}

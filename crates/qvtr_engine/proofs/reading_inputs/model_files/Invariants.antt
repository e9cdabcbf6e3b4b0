use Rattle.std.proofs.Common.{◌≡◌, map, take, filter, not}
use Rattle.std.specs.Set.{is_member}
use Rattle.mof_metamodel.specs.Characters.{same_name}
use Rattle.qvtr_engine.specs.CheckView.{bound_view}
use Rattle.qvtr_engine.specs.CheckedNames.{name_of}
use Rattle.qvtr_engine.specs.RequestView.{request_view}
use Rattle.qvtr_engine.proofs.reading_inputs.model_files.Given as goal

-- the files so far
abbrev pub invariant-loop-i : goal.invariant-loop-i
invariant-loop-i l = map bound_view l.files.items ≡ filter (λ b. not (is_member same_name l.names (name_of b))) (take l.i (request_view l.request).files)

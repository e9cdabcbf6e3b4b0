use Rattle.std.proofs.Common.{◌≡◌}
use Rattle.std.specs.Prelude.{filter}
use Rattle.std.specs.List.{range_with_len}
use Rattle.object_tables.specs.Ids.{object_ids}
use Rattle.model_files.specs.Described.{is_top_package}
use Rattle.model_files.proofs.metamodels.top_packages.Given as goal

abbrev pub invariant-loop-o : goal.invariant-loop-o
invariant-loop-o l = l.packages ≡ object_ids (filter (is_top_package l.model) (range_with_len 0 l.o))

use Rattle.std.proofs.Common.{sym, subst}
use Rattle.mof_metamodel.specs.WellMeta.{WellMeta}
use Rattle.example_models.proofs.TableLaws.{rdb_is_well}
use Rattle.example_models.proofs.rdb.rdb_metamodel.Goals as goal

pub metamodel-requires : goal.metamodel-requires
metamodel-requires c = subst WellMeta (sym c.in_ok-desc.ensures) rdb_is_well

use Rattle.std.proofs.Common.{sym, subst}
use Rattle.mof_metamodel.specs.WellMeta.{WellMeta}
use Rattle.example_models.proofs.TableLaws.{cls_is_well}
use Rattle.example_models.proofs.cls.cls_metamodel.Goals as goal

pub metamodel-requires : goal.metamodel-requires
metamodel-requires c = subst WellMeta (sym c.in_ok-desc.ensures) cls_is_well

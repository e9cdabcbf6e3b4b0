use Rattle.std.proofs.Common.{◌+◌, arith, subst, sym, take}
use Rattle.mof_metamodel.specs.Tables.{Names, Numbers}
use Rattle.mof_metamodel.proofs.NameLemmas.{numbers_more}
use Rattle.mof_metamodel.proofs.numbering.class_names.Goals as goal

pub loop-i-preserved : goal.loop-i-preserved
loop-i-preserved c =
    let P : Names → Type 0 = λ names. Numbers (λ x. x.name) (take (c.loop-i.i + 1) c.args.classes.now) names in
    subst P (sym c.in_ok-add.ensures) (numbers_more (λ x. x.name) c.args.classes.now c.loop-i.i c.index-classes-i.result c.loop-i.names (omega arith) c.index-classes-i.is c.loop-i.invariant)

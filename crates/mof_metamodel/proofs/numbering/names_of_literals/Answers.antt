use Rattle.std.proofs.Common.{◌+◌, arith, subst, sym, take}
use Rattle.mof_metamodel.specs.Tables.{Names, Numbers}
use Rattle.mof_metamodel.proofs.NameLemmas.{numbers_more}
use Rattle.mof_metamodel.proofs.numbering.names_of_literals.Goals as goal

pub loop-i-preserved : goal.loop-i-preserved
loop-i-preserved c =
    let P : Names → Type 0 = λ names. Numbers (λ l. l) (take (c.loop-i.i + 1) c.args.literals.now) names in
    subst P (sym c.in_ok-add.ensures) (numbers_more (λ l. l) c.args.literals.now c.loop-i.i c.index-literals-i.result c.loop-i.names (omega arith) c.index-literals-i.is c.loop-i.invariant)

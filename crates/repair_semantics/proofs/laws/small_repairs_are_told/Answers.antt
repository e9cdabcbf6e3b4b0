use Rattle.repair_semantics.proofs.RepairRows.{nothing_demanded, one_of_two_stays, shop_is_repaired}
use Rattle.repair_semantics.proofs.laws.small_repairs_are_told.Goals as goal

pub returns-clause-nothing : goal.returns-clause-nothing
returns-clause-nothing c = nothing_demanded

pub returns-clause-one_of_two : goal.returns-clause-one_of_two
returns-clause-one_of_two c = one_of_two_stays

pub returns-clause-shop : goal.returns-clause-shop
returns-clause-shop c = shop_is_repaired

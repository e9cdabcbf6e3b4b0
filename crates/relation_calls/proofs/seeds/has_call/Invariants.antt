use Rattle.std.proofs.Common.{◌≡◌, drop}
use Rattle.std.specs.List.{list_any}
use Rattle.relation_calls.specs.Seeds.{is_call}
use Rattle.relation_calls.proofs.seeds.has_call.Given as goal

abbrev pub invariant-loop-conjunct : goal.invariant-loop-conjunct
invariant-loop-conjunct l = list_any is_call (drop l.conjunct-index l.clause) ≡ list_any is_call l.clause

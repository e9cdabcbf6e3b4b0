use Rattle.std.proofs.Common.{take, arith}
use Rattle.std.specs.Set.{is_member}
use Rattle.mof_metamodel.specs.Characters.{same_name}
use Rattle.script_scopes.specs.ScriptNames.{written_names}
use Rattle.script_scopes.proofs.FaultLemmas.{counted_more}
use Rattle.script_scopes.proofs.names.count_before.Goals as goal

pub loop-i-preserved : goal.loop-i-preserved
loop-i-preserved c = record {
  count = let more = counted_more (is_member same_name (take c.args.place (written_names c.args.models.now))) c.args.names.now c.loop-i.i c.loop-i-test.true in cc (more, c.counted-count.ensures.count);
  few = omega (arith, c.counted-count.ensures.few);
}

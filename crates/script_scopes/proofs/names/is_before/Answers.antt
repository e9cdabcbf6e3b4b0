use Rattle.std.proofs.Common.{sym}
use Rattle.script_scopes.specs.ScriptNames.{written_names}
use Rattle.script_scopes.proofs.SearchLemmas.{member_at, member_none, member_more}
use Rattle.script_scopes.proofs.names.is_before.Goals as goal

pub returns-then-eq : goal.returns-then-eq
returns-then-eq c = sym (member_at (written_names c.args.models.now) c.loop-k.k c.args.name.now c.args.place c.in-Some.other.now (sym c.in-Some.ensures) c.loop-k-test.true (cc))

pub returns-in-None : goal.returns-in-None
returns-in-None c = sym (member_none (written_names c.args.models.now) c.loop-k.k c.args.name.now c.args.place (sym c.in-None.ensures) c.loop-k-test.true c.loop-k.invariant)

pub loop-k-preserved : goal.loop-k-preserved
loop-k-preserved c = member_more (written_names c.args.models.now) c.loop-k.k c.args.name.now c.in-Some.other.now (sym c.in-Some.ensures) c.loop-k.invariant (cc)

use Rattle.std.proofs.Common.{◌≡◌, sym, true}
use Rattle.std.specs.Set.{is_member}
use Rattle.mof_metamodel.specs.Characters.{same_name}
use Rattle.script_scopes.specs.ScriptNames.{written_names}
use Rattle.script_scopes.proofs.SearchLemmas.{all_more}
use Rattle.script_scopes.proofs.names.first_missing.Goals as goal

pub loop-place-preserved : goal.loop-place-preserved
loop-place-preserved c = all_more (written_names c.args.models.now) c.loop-place.place (λ n. is_member same_name c.args.names.now n ≡ true) c.in-Some.name.now (sym c.in-Some.ensures) c.loop-place.invariant (cc)

use Rattle.std.proofs.Common.{ℕ, List, [], ◌∷◌, ◌++◌, cond, sym, ◌∙◌, ap, arith, take}
use Rattle.std.specs.Set.{is_member}
use Rattle.std.proofs.lemmas.List.{take_more}
use Rattle.mof_metamodel.specs.Characters.{same_name}
use Rattle.script_scopes.specs.ScriptNames.{each_once as distinct}
use Rattle.script_scopes.proofs.DistinctLemmas.{once_more}
use Rattle.script_scopes.proofs.distinct.each_once_listed.Goals as goal

pub loop-name-preserved : goal.loop-name-preserved
loop-name-preserved c = record {
  met = c.in_ok-add_once.ensures.met;
  once = c.in_ok-add_once.ensures.out ∙ ap (λ (ns : List (List ℕ)). ns ++ cond (is_member same_name ns c.name-item.result) [] (c.name-item.result ∷ [])) c.loop-name.invariant.once
      ∙ sym (once_more (take c.loop-name.name-index c.args.names.now) c.name-item.result)
      ∙ ap distinct (sym (take_more c.args.names.now c.loop-name.name-index c.name-item.result (omega arith) ∙ ap (λ (y : List ℕ). take c.loop-name.name-index c.args.names.now ++ y ∷ []) (sym c.name-item.is)));
}

use Rattle.std.proofs.Common.{ℕ, List, [], ◌∷◌, ◌++◌, cond, sym, ◌∙◌, ap}
use Rattle.std.specs.Set.{is_member}
use Rattle.mof_metamodel.specs.Characters.{same_name}
use Rattle.script_scopes.proofs.DistinctLemmas.{once_more}
use Rattle.script_scopes.proofs.distinct.each_once.Goals as goal

pub loop-name-preserved : goal.loop-name-preserved
loop-name-preserved c =
    c.in_ok-add_new.ensures.ok ∙ ap (λ (ns : List (List ℕ)). ns ++ cond (is_member same_name ns c.in-Some.name) [] (c.in-Some.name ∷ [])) c.loop-name.invariant
    ∙ sym (once_more c.loop-name.yielded c.in-Some.name)

use Rattle.std.proofs.Common.{ℕ, List, [], ◌∷◌, ◌++◌, sym, ◌∙◌, ap, append_assoc}
use Rattle.std.specs.List.{filter_map}
use Rattle.std.proofs.lemmas.List.Elements.{filter_map-append}
use Rattle.script_scopes.specs.Usages.{variable_in}
use Rattle.script_scopes.proofs.occurrences.append_variables.Goals as goal

pub loop-usage-preserved : goal.loop-usage-preserved
loop-usage-preserved c =
    c.in_ok-push_variable.ensures ∙ ap (λ (ns : List (List ℕ)). ns ++ filter_map variable_in (c.in-Some.usage ∷ [])) c.loop-usage.invariant
    ∙ append_assoc c.args.out.now (filter_map variable_in c.loop-usage.yielded) (filter_map variable_in (c.in-Some.usage ∷ []))
    ∙ ap (λ (ns : List (List ℕ)). c.args.out.now ++ ns) (sym (filter_map-append variable_in c.loop-usage.yielded (c.in-Some.usage ∷ [])))

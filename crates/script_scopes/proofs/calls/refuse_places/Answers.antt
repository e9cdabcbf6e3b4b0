use Rattle.std.proofs.Common.{◌≡◌, ℕ, List, map, ap, ◌∙◌, subst}
use Rattle.std.specs.Prelude.{OnOk, All, Contains}
use Rattle.script_scopes.specs.ScriptNames.{each_once}
use Rattle.script_scopes.specs.Declarations.{relation_names}
use Rattle.script_scopes.specs.CallNames.{script_calls}
use Rattle.script_scopes.proofs.calls.refuse_places.Goals as goal

pub returns-clause-none : goal.returns-clause-none
returns-clause-none c =
    let same : map {A = List ℕ × ℕ} {B = List ℕ} (λ e. e.0) c.in_ok-names.names ≡ each_once (relation_names c.args.script.now) = c.in_ok-names.ensures ∙ ap each_once c.in_ok-named.ensures in
    subst (λ (ks : List (List ℕ)). OnOk c.refuse_call.result (All (λ (n : List ℕ). ¬ Contains ks n) (script_calls ks c.args.script.now))) same
    (subst (λ (ns : List (List ℕ)). OnOk c.refuse_call.result (All (λ (n : List ℕ). ¬ Contains (map {A = List ℕ × ℕ} {B = List ℕ} (λ e. e.0) c.in_ok-names.names) n) ns)) (c.as_slice.ensures ∙ c.in_ok-calls.ensures) c.refuse_call.ensures.none)

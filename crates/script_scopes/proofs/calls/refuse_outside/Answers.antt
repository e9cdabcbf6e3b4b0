use Rattle.std.proofs.Common.{◌≡◌, ℕ, List, Bor, map, ap, ◌∙◌, subst}
use Rattle.std.specs.Prelude.{OnOk, All, Contains, chars}
use Rattle.std.specs.List.{flat_map}
use Rattle.qv_syntax.specs.declared.script.RelationTree.{RelationTree}
use Rattle.script_scopes.specs.ScriptNames.{each_once}
use Rattle.script_scopes.specs.Occurrences.{relations_of}
use Rattle.script_scopes.specs.CallNames.{inside_calls, outside_names}
use Rattle.script_scopes.proofs.calls.refuse_outside.Goals as goal

pub returns-clause-none : goal.returns-clause-none
returns-clause-none c =
    let target : List ℕ = chars c.args.target.now in
    let there : map {A = Bor RelationTree} {B = RelationTree} (λ r. r.now) c.as_slice-listed.result.now ≡ relations_of c.args.script.now =
    ap (map {A = Bor RelationTree} {B = RelationTree} (λ r. r.now)) c.as_slice-listed.ensures ∙ c.in_ok-relations.ensures in
    let same : map {A = List ℕ × ℕ} {B = List ℕ} (λ e. e.0) c.in_ok-outside.outside ≡ each_once (outside_names target (relations_of c.args.script.now)) =
    c.in_ok-outside.ensures ∙ ap each_once (c.in_ok-named.ensures ∙ ap (outside_names target) there) in
    let list : c.as_slice.result.now ≡ flat_map (inside_calls target) (relations_of c.args.script.now) = c.as_slice.ensures ∙ c.in_ok-calls.ensures ∙ ap (flat_map (inside_calls target)) there in
    subst (λ (ks : List (List ℕ)). OnOk c.refuse_call.result (All (λ (n : List ℕ). ¬ Contains ks n) (flat_map (inside_calls target) (relations_of c.args.script.now)))) same
    (subst (λ (ns : List (List ℕ)). OnOk c.refuse_call.result (All (λ (n : List ℕ). ¬ Contains (map {A = List ℕ × ℕ} {B = List ℕ} (λ e. e.0) c.in_ok-outside.outside) n) ns)) list c.refuse_call.ensures.none)

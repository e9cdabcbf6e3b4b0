use Rattle.std.proofs.Common.{◌≡◌, ℕ, List, ◌++◌, Bool, true, false, cond, map, sym, ◌∙◌, ap, subst}
use Rattle.std.specs.Prelude.{OnOk}
use Rattle.std.specs.List.{flat_map}
use Rattle.std.specs.Set.{is_member}
use Rattle.mof_metamodel.specs.Characters.{same_name}
use Rattle.script_scopes.specs.Usages.{calls_in}
use Rattle.script_scopes.proofs.DistinctLemmas.{met_member}
use Rattle.script_scopes.proofs.calls.add_within_call.Goals as goal

pub returns-then-contains : goal.returns-then-contains
returns-then-contains c =
    let known : List (List ℕ) = map {A = List ℕ × ℕ} {B = List ℕ} (λ e. e.0) c.args.relations.now in
    let there : is_member same_name known c.args.call.0.now ≡ true = sym (met_member c.args.relations.now c.args.call.0.now) ∙ sym c.contains.ensures ∙ c.if-contains.true in
    subst (λ (ns : List (List ℕ)). OnOk c.add_all_calls.result (c.add_all_calls.new.out ≡ c.args.out.now ++ ns))
    (sym (ap (λ (b : Bool). cond b (flat_map calls_in c.args.call.1.now) (calls_in c.args.conjunct.now)) there)) c.add_all_calls.ensures

pub returns : goal.returns
returns c =
    let known : List (List ℕ) = map {A = List ℕ × ℕ} {B = List ℕ} (λ e. e.0) c.args.relations.now in
    let none : is_member same_name known c.args.call.0.now ≡ false = sym (met_member c.args.relations.now c.args.call.0.now) ∙ sym c.contains.ensures ∙ c.if-contains.false in
    subst (λ (ns : List (List ℕ)). OnOk c.add_calls.result (c.add_calls.new.out ≡ c.args.out.now ++ ns))
    (sym (ap (λ (b : Bool). cond b (flat_map calls_in c.args.call.1.now) (calls_in c.args.conjunct.now)) none)) c.add_calls.ensures

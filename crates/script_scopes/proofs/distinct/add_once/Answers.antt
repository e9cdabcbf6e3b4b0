use Rattle.std.proofs.Common.{◌≡◌, ℕ, List, [], ◌∷◌, ◌++◌, Bool, true, false, cond, sym, ◌∙◌, ap, subst, append-nil}
use Rattle.std.specs.Prelude.{OnOk}
use Rattle.std.specs.Set.{is_member}
use Rattle.mof_metamodel.specs.Characters.{same_name}
use Rattle.script_scopes.proofs.DistinctLemmas.{met_member}
use Rattle.script_scopes.proofs.distinct.add_once.Goals as goal

pub returns-then-contains-clause-out : goal.returns-then-contains-clause-out
returns-then-contains-clause-out c =
    let there : is_member same_name c.args.out.now c.args.name.now ≡ true =
    sym (ap (λ (ns : List (List ℕ)). is_member same_name ns c.args.name.now) c.requires) ∙ sym (met_member c.args.met.now c.args.name.now) ∙ sym c.contains.ensures ∙ c.if-contains.true in
    sym (ap (λ (b : Bool). c.args.out.now ++ cond b [] (c.args.name.now ∷ [])) there ∙ append-nil c.args.out.now)

pub returns-clause-out : goal.returns-clause-out
returns-clause-out c =
    let new : is_member same_name c.args.out.now c.args.name.now ≡ false =
    sym (ap (λ (ns : List (List ℕ)). is_member same_name ns c.args.name.now) c.requires) ∙ sym (met_member c.args.met.now c.args.name.now) ∙ sym c.contains.ensures ∙ c.if-contains.false in
    subst (λ (ns : List (List ℕ)). OnOk c.push.result (c.push.new.self ≡ c.args.out.now ++ ns))
    (ap (λ (x : List ℕ). x ∷ []) c.in_ok-text.ensures ∙ sym (ap (λ (b : Bool). cond b [] (c.args.name.now ∷ [])) new)) c.push.ensures.ok

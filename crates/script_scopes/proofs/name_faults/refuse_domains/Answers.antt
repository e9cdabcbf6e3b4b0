use Rattle.std.proofs.Common.{ℕ, List, map, ◌∙◌, subst}
use Rattle.std.specs.Prelude.{OnOk, All, Contains}
use Rattle.script_scopes.specs.Declarations.{IsRepeated}
use Rattle.script_scopes.specs.Faults.{domain_models}
use Rattle.script_scopes.proofs.RefusalLemmas.{given}
use Rattle.script_scopes.proofs.name_faults.refuse_domains.Goals as goal

pub returns-clause-known : goal.returns-clause-known
returns-clause-known c =
    let known : List (List ℕ) = map {A = List ℕ × ℕ} {B = List ℕ} (λ e. e.0) c.args.models.now in
    given c.refuse_repeat.result (All (Contains known) (domain_models c.args.r.now))
    (subst (All (Contains known)) (c.as_slice-listed.ensures ∙ c.in_ok-names.ensures) c.in_ok-refuse_unknown.ensures.known)

pub returns-clause-one_domain : goal.returns-clause-one_domain
returns-clause-one_domain c =
    subst (λ (ns : List (List ℕ)). OnOk c.refuse_repeat.result ((v : List ℕ) → ¬ IsRepeated ns v)) (c.as_slice-listed.ensures ∙ c.in_ok-names.ensures) c.refuse_repeat.ensures.none

use Rattle.std.proofs.Common.{ℕ, List, true, false, ap, sym, subst, ◌∙◌}
use Rattle.std.specs.Prelude.{chars}
use Rattle.script_scopes.specs.ScriptNames.{each_once}
use Rattle.script_scopes.specs.Divisions.{IsUniversal}
use Rattle.script_scopes.specs.UniversalNames.{universal_names, is_among, numbers_from}
use Rattle.script_scopes.specs.Resolutions.{AreThose}
use Rattle.script_scopes.proofs.NumberLemmas.{universal_numbers, existential_numbers}
use Rattle.script_scopes.proofs.divisions.division_of.Goals as goal

pub returns-clause-universal : goal.returns-clause-universal
returns-clause-universal c =
    let target : List ℕ = chars c.args.target.now in
    subst (AreThose c.args.r.now (IsUniversal target c.args.r.now))
    (sym (c.in_ok-universal.ensures
    ∙ ap (λ (ns : List (List ℕ)). numbers_from (is_among ns true) 0 c.as_slice-variables.result.now) (c.in_ok-names.ensures ∙ ap each_once c.in_ok-universals.ensures)
    ∙ ap (numbers_from (is_among (each_once (universal_names target c.args.r.now)) true) 0) (c.as_slice-variables.ensures ∙ c.in_ok-listed.ensures)))
    (universal_numbers target c.args.r.now)

pub returns-clause-existential : goal.returns-clause-existential
returns-clause-existential c =
    let target : List ℕ = chars c.args.target.now in
    subst (AreThose c.args.r.now (λ v. ¬ IsUniversal target c.args.r.now v))
    (sym (c.in_ok-existential.ensures
    ∙ ap (λ (ns : List (List ℕ)). numbers_from (is_among ns false) 0 c.as_slice-variables.result.now) (c.in_ok-names.ensures ∙ ap each_once c.in_ok-universals.ensures)
    ∙ ap (numbers_from (is_among (each_once (universal_names target c.args.r.now)) false) 0) (c.as_slice-variables.ensures ∙ c.in_ok-listed.ensures)))
    (existential_numbers target c.args.r.now)

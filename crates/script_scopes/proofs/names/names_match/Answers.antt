use Rattle.std.proofs.Common.{◌≡◌, List, true, false, sym, subst}
use Rattle.std.specs.Prelude.{chars, All, length, filter, take}
use Rattle.std.specs.Set.{is_member}
use Rattle.mof_metamodel.specs.Characters.{same_name}
use Rattle.qv_syntax.specs.declared.script.ModelTree.{ModelTree}
use Rattle.script_scopes.specs.ScriptNames.{model_names, written_names, script_names, each_once, IsFirstLacking}
use Rattle.script_scopes.specs.NameSearches.{IsFirstOther}
use Rattle.script_scopes.proofs.NameLemmas.{has_name, lacks_name}
use Rattle.script_scopes.proofs.OnceLemmas.{first_missing_place, all_given}
use Rattle.script_scopes.proofs.FaultLemmas.{first_extra_place, all_known}
use Rattle.script_scopes.proofs.names.names_match.Goals as goal

pub returns-then-not-is_model : goal.returns-then-not-is_model
returns-then-not-is_model c =
    let told : is_member same_name (model_names c.args.script.now.models) (chars c.args.target.now) ≡ false = cc in
    lacks_name (model_names c.args.script.now.models) (chars c.args.target.now) told

pub returns-in-Some : goal.returns-in-Some
returns-in-Some c =
    let told : is_member same_name (model_names c.args.script.now.models) (chars c.args.target.now) ≡ true = cc in
    let other = subst (λ (ms : List ModelTree). IsFirstOther (is_member same_name (written_names ms)) c.args.names.now c.in-Some.i) c.as_slice-models.ensures c.in-Some.ensures in (
      has_name (model_names c.args.script.now.models) (chars c.args.target.now) told,
      first_extra_place (written_names c.args.script.now.models) c.args.names.now c.in-Some.i other,
    )

pub returns-in-Some-first_missing : goal.returns-in-Some-first_missing
returns-in-Some-first_missing c =
    let told : is_member same_name (model_names c.args.script.now.models) (chars c.args.target.now) ≡ true = cc in
    let known = subst (λ (ms : List ModelTree). All (λ n. is_member same_name (written_names ms) n ≡ true) c.args.names.now) c.as_slice-models.ensures c.in_default.ensures in
    let other = subst (λ (ms : List ModelTree). IsFirstOther (is_member same_name c.args.names.now) (written_names ms) c.in-Some-first_missing.place) c.as_slice-models.ensures c.in-Some-first_missing.ensures in
    let counted = subst (λ (ms : List ModelTree). c.count_before.result ≡ length (filter (is_member same_name (take c.in-Some-first_missing.place (written_names ms))) (each_once c.args.names.now))) c.as_slice-models.ensures c.count_before.ensures in (
      has_name (model_names c.args.script.now.models) (chars c.args.target.now) told,
      all_known (written_names c.args.script.now.models) c.args.names.now known,
      subst (IsFirstLacking c.args.names.now (script_names c.args.script.now.models)) (sym counted) (first_missing_place (written_names c.args.script.now.models) c.args.names.now c.in-Some-first_missing.place other),
    )

pub returns-in-None : goal.returns-in-None
returns-in-None c =
    let told : is_member same_name (model_names c.args.script.now.models) (chars c.args.target.now) ≡ true = cc in
    let known = subst (λ (ms : List ModelTree). All (λ n. is_member same_name (written_names ms) n ≡ true) c.args.names.now) c.as_slice-models.ensures c.in_default.ensures in
    let given = subst (λ (ms : List ModelTree). All (λ n. is_member same_name c.args.names.now n ≡ true) (written_names ms)) c.as_slice-models.ensures c.in-None.ensures in
    record {
      aimed = has_name (model_names c.args.script.now.models) (chars c.args.target.now) told;
      known = all_known (written_names c.args.script.now.models) c.args.names.now known;
      given = all_given (written_names c.args.script.now.models) c.args.names.now given;
    }

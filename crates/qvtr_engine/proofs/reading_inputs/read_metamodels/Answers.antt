use Rattle.std.proofs.Common.{◌≡◌, List, ℕ, map, filter, sym, ◌∙◌, ap, subst}
use Rattle.std.specs.Prelude.{is_some, true, All}
use Rattle.std.specs.Set.{is_member}
use Rattle.std.proofs.lemmas.Result.{err_from_is_err_and}
use Rattle.mof_metamodel.specs.Characters.{same_name}
use Rattle.qvtr_engine.specs.CheckView.{bound_view}
use Rattle.qvtr_engine.specs.CheckWords.{Bound}
use Rattle.qvtr_engine.specs.CheckedNames.{name_of}
use Rattle.qvtr_engine.specs.FoundFiles.{item_named}
use Rattle.qvtr_engine.specs.RequestView.{request_view}
use Rattle.script_scopes.specs.Declarations.{IsRepeated}
use Rattle.qvtr_engine.specs.CheckedMetamodels.{metamodel_files}
use Rattle.qvtr_engine.proofs.InputFileLaws.{metas_read, metas_stopped}
use Rattle.qvtr_engine.proofs.NumberingLaws.{metas_distinct, metas_each}
use Rattle.qvtr_engine.proofs.reading_inputs.read_metamodels.Goals as goal

pub returns-in_err-found-clause-err : goal.returns-in_err-found-clause-err
returns-in_err-found-clause-err g c =
    let p = err_from_is_err_and c.from_residual-in_err-found.result c.from_residual-in_err-found.ensures.1 in
    let words = request_view c.args.request.now in
    let bs : List Bound = map bound_view c.as_slice.result.now in
    let same : bs ≡ metamodel_files words c.args.script.now = ap (map bound_view) c.as_slice.ensures.value ∙ c.in_ok-files.ensures
    ∙ ap (λ (ns : List (List ℕ)). filter (λ (b : Bound). is_member same_name ns (name_of b)) words.files) (c.as_slice-listed.ensures ∙ c.in_ok-names.ensures) in
    rw (p.1, p.2) (metas_stopped c.in_err-found.field-0.0 (g.F.Vault.files c.args.vault.now) words c.args.script.now bs _ same c.in_err-found.ensures.err)

pub number_metas-requires-clause-distinct : goal.number_metas-requires-clause-distinct
number_metas-requires-clause-distinct g c = λ name twice.
    metas_distinct c.args.script.now name (subst (λ (ns : List (List ℕ)). IsRepeated ns name) (c.as_slice-listed.ensures ∙ c.in_ok-names.ensures) twice)

pub number_metas-requires-clause-each : goal.number_metas-requires-clause-each
number_metas-requires-clause-each g c =
    let words = request_view c.args.request.now in
    let bs : List Bound = map bound_view c.as_slice.result.now in
    let same : bs ≡ metamodel_files words c.args.script.now = ap (map bound_view) c.as_slice.ensures.value ∙ c.in_ok-files.ensures
    ∙ ap (λ (ns : List (List ℕ)). filter (λ (b : Bound). is_member same_name ns (name_of b)) words.files) (c.as_slice-listed.ensures ∙ c.in_ok-names.ensures) in
    subst (All (λ name. is_some (item_named c.in_ok-found.found.items name) ≡ true)) (sym (c.as_slice-listed.ensures ∙ c.in_ok-names.ensures))
    (metas_each words c.args.script.now c.requires c.in_ok-found.found.items (c.in_ok-found.ensures.names ∙ ap (map name_of) same))

pub returns-clause-ok : goal.returns-clause-ok
returns-clause-ok g c =
    let words = request_view c.args.request.now in
    let bs : List Bound = map bound_view c.as_slice.result.now in
    let same : bs ≡ metamodel_files words c.args.script.now = ap (map bound_view) c.as_slice.ensures.value ∙ c.in_ok-files.ensures
    ∙ ap (λ (ns : List (List ℕ)). filter (λ (b : Bound). is_member same_name ns (name_of b)) words.files) (c.as_slice-listed.ensures ∙ c.in_ok-names.ensures) in
    metas_read (g.F.Vault.files c.args.vault.now) words c.args.script.now bs c.in_ok-found.found.items c.as_slice-listed.result.now _
    same (c.as_slice-listed.ensures ∙ c.in_ok-names.ensures) c.in_ok-found.ensures.ok c.in_ok-found.ensures.names c.in_ok-number_metas.ensures

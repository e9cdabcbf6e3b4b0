use Rattle.std.proofs.Common.{◌≡◌, List, ℕ, map, filter, ◌∙◌, ap}
use Rattle.std.specs.Prelude.{not}
use Rattle.std.specs.Set.{is_member}
use Rattle.std.proofs.lemmas.Result.{MatchResult-weaker}
use Rattle.mof_metamodel.specs.Characters.{same_name}
use Rattle.qvtr_engine.specs.CheckView.{bound_view}
use Rattle.qvtr_engine.specs.CheckWords.{Bound}
use Rattle.qvtr_engine.specs.CheckedNames.{name_of}
use Rattle.qvtr_engine.specs.FoundFiles.{items_of}
use Rattle.qvtr_engine.specs.RequestView.{request_view}
use Rattle.qvtr_engine.specs.CheckedModels.{model_files}
use Rattle.qvtr_engine.specs.Target.{target_path}
use Rattle.qvtr_engine.proofs.TargetLaws.{form_read}
use Rattle.qvtr_engine.proofs.InputFileLaws.{models_of_words, models_read, models_stopped}
use Rattle.qvtr_engine.proofs.reading_inputs.read_models.Goals as goal

pub models_at-requires-clause-models : goal.models_at-requires-clause-models
models_at-requires-clause-models g c =
    let words = request_view c.args.request.now in
    let bs : List Bound = map bound_view c.as_slice-2.result.now in
    let same : bs ≡ model_files words c.args.script.now = ap (map bound_view) c.as_slice-2.ensures.value ∙ c.in_ok-files.ensures
    ∙ ap (λ (ns : List (List ℕ)). filter (λ (b : Bound). not (is_member same_name ns (name_of b))) words.files) (c.as_slice.ensures ∙ c.in_ok-names.ensures) in
    models_of_words words c.args.script.now bs c.requires.fits same

pub returns-clause-ok : goal.returns-clause-ok
returns-clause-ok g c =
    let words = request_view c.args.request.now in
    let bs : List Bound = map bound_view c.as_slice-2.result.now in
    let same : bs ≡ model_files words c.args.script.now = ap (map bound_view) c.as_slice-2.ensures.value ∙ c.in_ok-files.ensures
    ∙ ap (λ (ns : List (List ℕ)). filter (λ (b : Bound). not (is_member same_name ns (name_of b))) words.files) (c.as_slice.ensures ∙ c.in_ok-names.ensures) in
    MatchResult-weaker c.models_at.result c.models_at.ensures.ok
    (λ read all. models_read (g.F.Vault.files c.args.vault.now) words c.args.script.now c.args.numbered.now bs (items_of read.found.items) same all) (λ e t. t)

pub returns-clause-names : goal.returns-clause-names
returns-clause-names g c =
    let words = request_view c.args.request.now in
    let bs : List Bound = map bound_view c.as_slice-2.result.now in
    let same : bs ≡ model_files words c.args.script.now = ap (map bound_view) c.as_slice-2.ensures.value ∙ c.in_ok-files.ensures
    ∙ ap (λ (ns : List (List ℕ)). filter (λ (b : Bound). not (is_member same_name ns (name_of b))) words.files) (c.as_slice.ensures ∙ c.in_ok-names.ensures) in
    MatchResult-weaker c.models_at.result c.models_at.ensures.names (λ read named. named ∙ ap (map name_of) same) (λ e t. t)

pub returns-clause-form : goal.returns-clause-form
returns-clause-form g c =
    let words = request_view c.args.request.now in
    let bs : List Bound = map bound_view c.as_slice-2.result.now in
    let same : bs ≡ model_files words c.args.script.now = ap (map bound_view) c.as_slice-2.ensures.value ∙ c.in_ok-files.ensures
    ∙ ap (λ (ns : List (List ℕ)). filter (λ (b : Bound). not (is_member same_name ns (name_of b))) words.files) (c.as_slice.ensures ∙ c.in_ok-names.ensures) in
    MatchResult-weaker c.models_at.result c.models_at.ensures.form
    (λ read h. form_read (g.F.Vault.files c.args.vault.now) bs (model_files words c.args.script.now) c.target_path.result.now (target_path words) read.form same c.target_path.ensures h) (λ e t. t)

pub returns-clause-err : goal.returns-clause-err
returns-clause-err g c =
    let words = request_view c.args.request.now in
    let bs : List Bound = map bound_view c.as_slice-2.result.now in
    let same : bs ≡ model_files words c.args.script.now = ap (map bound_view) c.as_slice-2.ensures.value ∙ c.in_ok-files.ensures
    ∙ ap (λ (ns : List (List ℕ)). filter (λ (b : Bound). not (is_member same_name ns (name_of b))) words.files) (c.as_slice.ensures ∙ c.in_ok-names.ensures) in
    MatchResult-weaker c.models_at.result c.models_at.ensures.err (λ read t. t)
    (λ stop st. models_stopped stop (g.F.Vault.files c.args.vault.now) words c.args.script.now c.args.numbered.now bs _ same st)

use Rattle.std.proofs.Common.{◌≡◌, ◌+◌, List, [], ◌∷◌, ◌++◌, map, take, refl, sym, ◌∙◌, ap, subst, arith}
use Rattle.std.specs.Prelude.{IfSome}
use Rattle.std.specs.List.{AllZip}
use Rattle.std.proofs.lemmas.Result.{err_from_is_err_and}
use Rattle.vault_io.specs.Counts.{Rose}
use Rattle.object_tables.specs.Models.{ModelData}
use Rattle.ocl_environments.specs.Environments.{meta_at}
use Rattle.qvtr_engine.specs.declared.numbering_inputs.Found.{Found}
use Rattle.qvtr_engine.specs.CheckView.{bound_view}
use Rattle.qvtr_engine.specs.CheckWords.{Bound}
use Rattle.qvtr_engine.specs.CheckedModels.{IsModel, ModelStops, StopsBy, meta_for}
use Rattle.qvtr_engine.specs.CheckedNames.{name_of}
use Rattle.qvtr_engine.specs.ConvertAnswer.{IsModelAt}
use Rattle.qvtr_engine.specs.FoundFiles.{items_of, names_of}
use Rattle.qvtr_engine.specs.Stops.{StoppedBy}
use Rattle.qvtr_engine.proofs.InputFileLaws.{known_at, number_is, number_within, model_by, stopped_by}
use Rattle.qvtr_engine.proofs.ReadingInputLaws.{names_more, items_more, first_stopped}
use Rattle.mof_metamodel.specs.declared.desc.MetaDesc.{MetaDesc}
use Rattle.qvtr_engine.specs.ReadModels.{IsReadBy}
use Rattle.qvtr_engine.proofs.ReadModelLaws.{read_more}
use Rattle.qvtr_engine.proofs.TargetLaws.{form_more}
use Rattle.qvtr_engine.specs.Target.{form_at}
use Rattle.qvtr_engine.proofs.reading_inputs.models_at.Goals as goal

pub get-meta-requires : goal.get-meta-requires
get-meta-requires g c =
    let bs : List Bound = map bound_view c.args.files.now in
    let b : Bound = bound_view c.file_at-file.result in
    number_within c.args.script.now c.as_slice.result.now (name_of b) c.meta_number.result c.args.numbered.now (c.as_slice.ensures ∙ c.in_ok-slots.ensures)
    c.meta_number.ensures (known_at c.args.script.now bs c.loop-i.i b c.requires.models c.file_at-file.ensures) c.requires.count

pub returns-in_err-read-clause-err : goal.returns-in_err-read-clause-err
returns-in_err-read-clause-err g c =
    let p = err_from_is_err_and c.from_residual-in_err-read.result c.from_residual-in_err-read.ensures.1 in
    let told = g.F.Vault.files c.args.vault.now in
    let before = g.F.Vault.faults c.args.vault.now in
    let mid = g.F.Vault.faults c.loop-i.vault in
    let after = g.F.Vault.faults c.model_at.new.vault in
    let stop = c.in_err-read.field-0.0 in
    let script = c.args.script.now in
    let numbered = c.args.numbered.now in
    let bs : List Bound = map bound_view c.args.files.now in
    let b : Bound = bound_view c.file_at-file.result in
    let meta : c.get-meta.result.now ≡ meta_for script numbered b = c.get-meta.ensures
    ∙ ap (meta_at numbered) (number_is script c.as_slice.result.now (name_of b) c.meta_number.result (c.as_slice.ensures ∙ c.in_ok-slots.ensures)
    c.meta_number.ensures (known_at script bs c.loop-i.i b c.requires.models c.file_at-file.ensures)) in
    let failed = subst (λ t. StoppedBy stop t (λ files. StopsBy files b c.get-meta.result.now) (Rose mid after) (b.path ∷ [])) c.loop-i.invariant.same_files c.in_err-read.ensures.err in
    rw (p.1, p.2) (first_stopped (λ files. IsModel files script numbered) (λ files. ModelStops files script numbered) bs c.loop-i.i b c.loop-i.found.items c.file_at-file.ensures
    stop told before mid after c.loop-i.invariant.later c.loop-i.invariant.all
    (stopped_by stop told script numbered b c.get-meta.result.now (Rose mid after) (b.path ∷ []) meta failed))

pub loop-i-preserved : goal.loop-i-preserved
loop-i-preserved g c =
    let told = g.F.Vault.files c.args.vault.now in
    let script = c.args.script.now in
    let numbered = c.args.numbered.now in
    let bs : List Bound = map bound_view c.args.files.now in
    let b : Bound = bound_view c.file_at-file.result in
    let found : List (Found ModelData) = c.loop-i.found.items in
    let f : Found ModelData = record { name = c.file_at-file.result.name; item = c.in_ok-read.read.model } in
    let more : c.push.new.self.items ≡ found ++ f ∷ [] = c.in_ok-push.ensures.items in
    let meta : c.get-meta.result.now ≡ meta_for script numbered b = c.get-meta.ensures
    ∙ ap (meta_at numbered) (number_is script c.as_slice.result.now (name_of b) c.meta_number.result (c.as_slice.ensures ∙ c.in_ok-slots.ensures)
    c.meta_number.ensures (known_at script bs c.loop-i.i b c.requires.models c.file_at-file.ensures)) in
    let read = subst (λ t. IfSome t (λ files. IsModelAt files b.path c.get-meta.result.now c.in_ok-read.read.model)) c.loop-i.invariant.same_files c.in_ok-read.ensures.ok in
    record {
      same_files = c.in_ok-read.ensures.files ∙ c.loop-i.invariant.same_files;
      later = omega (arith, c.loop-i.invariant.later, c.in_ok-read.ensures.faults);
      names = ap (λ (xs : List (Found ModelData)). names_of xs) more ∙ names_more bs c.loop-i.i b found f c.file_at-file.ensures refl c.loop-i.invariant.names;
      all = subst (λ (xs : List (Found ModelData)). IfSome told (λ files. AllZip (IsModel files script numbered) (take (c.loop-i.i + 1) bs) (items_of xs))) (sym more)
          (items_more (λ files. IsModel files script numbered) bs c.loop-i.i b found f c.file_at-file.ensures told c.loop-i.invariant.all
          (model_by told script numbered b c.get-meta.result.now c.in_ok-read.read.model meta read));
      form = form_more told bs c.loop-i.i b c.args.target.now c.loop-i.form c.in_ok-read.read.form c.form_after-form.result c.file_at-file.ensures c.form_after-form.ensures
          (subst (λ t. IfSome t (λ files. c.in_ok-read.read.form ≡ form_at files b.path)) c.loop-i.invariant.same_files c.in_ok-read.ensures.form) c.loop-i.invariant.form;
      read = read_more script numbered found f c.push.new.self.items more c.loop-i.invariant.read
          (subst (λ (d : MetaDesc). IsReadBy d c.in_ok-read.read.model) meta c.in_ok-read.ensures.read);
    }

use Rattle.std.proofs.Common.{◌≡◌, ◌+◌, List, [], ◌∷◌, ◌++◌, map, take, refl, sym, ◌∙◌, ap, subst, arith}
use Rattle.std.specs.Prelude.{IfSome}
use Rattle.std.specs.List.{AllZip}
use Rattle.std.proofs.lemmas.Result.{err_from_is_err_and}
use Rattle.vault_io.specs.Counts.{Rose}
use Rattle.mof_metamodel.specs.declared.desc.MetaDesc.{MetaDesc}
use Rattle.qvtr_engine.specs.declared.numbering_inputs.Found.{Found}
use Rattle.qvtr_engine.specs.CheckView.{bound_view}
use Rattle.qvtr_engine.specs.CheckWords.{Bound}
use Rattle.qvtr_engine.specs.CheckedMetamodels.{IsMeta, MetaStops}
use Rattle.qvtr_engine.specs.FoundFiles.{items_of, names_of}
use Rattle.qvtr_engine.specs.Stops.{StoppedBy}
use Rattle.qvtr_engine.proofs.ReadingInputLaws.{names_more, items_more, first_stopped}
use Rattle.qvtr_engine.proofs.reading_inputs.metamodels_at.Goals as goal

pub returns-in_err-item-clause-err : goal.returns-in_err-item-clause-err
returns-in_err-item-clause-err g c =
    let p = err_from_is_err_and c.from_residual.result c.from_residual.ensures.1 in
    let told = g.F.Vault.files c.args.vault.now in
    let before = g.F.Vault.faults c.args.vault.now in
    let mid = g.F.Vault.faults c.loop-i.vault in
    let after = g.F.Vault.faults c.metamodel_at.new.vault in
    let stop = c.in_err-item.field-0.0 in
    let bs : List Bound = map bound_view c.args.files.now in
    let b : Bound = bound_view c.file_at-file.result in
    let failed = subst (λ t. StoppedBy stop t (λ files. MetaStops files b) (Rose mid after) (b.path ∷ [])) c.loop-i.invariant.same_files c.in_err-item.ensures.err in
    rw (p.1, p.2) (first_stopped IsMeta MetaStops bs c.loop-i.i b c.loop-i.found.items c.file_at-file.ensures stop told before mid after
    c.loop-i.invariant.later c.loop-i.invariant.all failed)

pub loop-i-preserved : goal.loop-i-preserved
loop-i-preserved g c =
    let told = g.F.Vault.files c.args.vault.now in
    let bs : List Bound = map bound_view c.args.files.now in
    let b : Bound = bound_view c.file_at-file.result in
    let found : List (Found MetaDesc) = c.loop-i.found.items in
    let f : Found MetaDesc = record { name = c.file_at-file.result.name; item = c.in_ok-item.item } in
    let more : c.push.new.self.items ≡ found ++ f ∷ [] = c.in_ok-push.ensures.items in
    let is = subst (λ t. IfSome t (λ files. IsMeta files b c.in_ok-item.item)) c.loop-i.invariant.same_files c.in_ok-item.ensures.ok in
    record {
      same_files = c.in_ok-item.ensures.files ∙ c.loop-i.invariant.same_files;
      later = omega (arith, c.loop-i.invariant.later, c.in_ok-item.ensures.faults);
      names = ap (λ (xs : List (Found MetaDesc)). names_of xs) more ∙ names_more bs c.loop-i.i b found f c.file_at-file.ensures refl c.loop-i.invariant.names;
      all = subst (λ (xs : List (Found MetaDesc)). IfSome told (λ files. AllZip (IsMeta files) (take (c.loop-i.i + 1) bs) (items_of xs))) (sym more)
          (items_more IsMeta bs c.loop-i.i b found f c.file_at-file.ensures told c.loop-i.invariant.all is);
    }

use Rattle.std.proofs.Common.{Bool, List, [], ◌∷◌, map, sym, ◌∙◌, ap}
use Rattle.std.specs.Prelude.{not}
use Rattle.std.specs.Set.{is_member}
use Rattle.std.proofs.lemmas.List.{map-append}
use Rattle.mof_metamodel.specs.Characters.{same_name}
use Rattle.qvtr_engine.specs.CheckView.{bound_view}
use Rattle.qvtr_engine.specs.CheckWords.{Bound}
use Rattle.qvtr_engine.specs.CheckedNames.{name_of}
use Rattle.qvtr_engine.specs.RequestView.{request_view}
use Rattle.qvtr_engine.proofs.ReadingInputLaws.{chosen_more, chosen_same}
use Rattle.qvtr_engine.proofs.reading_inputs.model_files.Goals.{then-not-is_listed+in_ok-push, else-not-is_listed}
use Rattle.qvtr_engine.proofs.reading_inputs.model_files.Goals as goal

pub loop-i-preserved : goal.loop-i-preserved
loop-i-preserved c =
    let files : List Bound = (request_view c.args.request.now).files in
    let test : Bound → Bool = (λ b. not (is_member same_name c.args.names.now (name_of b))) in
    let out : List Bound = map bound_view c.loop-i.files.items in
    let file : Bound = bound_view c.file-file.result in
    elim c.if-not-is_listed.branch [
      | then-not-is_listed+in_ok-push w ↦
          rw w.files-is (ap (map bound_view) w.in_ok-push.ensures.items ∙ map-append bound_view c.loop-i.files.items (c.file-file.result ∷ [])
          ∙ chosen_more test files c.loop-i.i file out c.file-file.ensures (ap not (sym c.is_listed.ensures ∙ w.if-not-is_listed.true)) c.loop-i.invariant)
      | else-not-is_listed w ↦ rw w.files-is (chosen_same test files c.loop-i.i file out c.file-file.ensures (ap not (sym c.is_listed.ensures ∙ w.if-not-is_listed.false)) c.loop-i.invariant)
    ]

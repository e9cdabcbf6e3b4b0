use Rattle.qv_syntax.specs.ProgramTypes.{variables_of}
use Rattle.qvtr_semantics.specs.Expressions.{setting, scope_of}
use Rattle.evaluation_laws.proofs.ProgramLaws.{models_kept}
use Rattle.evaluation_laws.proofs.SlotLaws.{bound_typings}
use Rattle.evaluation_laws.proofs.laws.models_are_kept.Goals as goal

pub returns-clause-bindings : goal.returns-clause-bindings
returns-clause-bindings c = λ metas program contents over rel e t b typed stored none valued.
    models_kept metas program contents over.kept over.well.typed.queries over.texts (variables_of rel) e t (scope_of b) stored none (bound_typings metas (setting program contents) rel e b valued) typed

pub returns-clause-scopes : goal.returns-clause-scopes
returns-clause-scopes c = λ metas program contents over vars e t scope typed stored none known.
    models_kept metas program contents over.kept over.well.typed.queries over.texts vars e t scope stored none known typed

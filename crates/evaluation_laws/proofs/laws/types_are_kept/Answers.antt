use Rattle.qv_syntax.specs.ProgramTypes.{variables_of}
use Rattle.qvtr_semantics.specs.Expressions.{setting, scope_of}
use Rattle.evaluation_laws.proofs.ProgramLaws.{types_kept}
use Rattle.evaluation_laws.proofs.SlotLaws.{bound_types}
use Rattle.evaluation_laws.proofs.laws.types_are_kept.Goals as goal

pub returns-clause-bindings : goal.returns-clause-bindings
returns-clause-bindings c = λ metas program contents over rel e t b typed stored valued.
    types_kept metas program contents over.kept over.well.typed.queries over.texts (variables_of rel) e t (scope_of b) stored (bound_types metas (setting program contents) rel e b valued) typed

pub returns-clause-scopes : goal.returns-clause-scopes
returns-clause-scopes c = λ metas program contents over vars e t scope typed stored known.
    types_kept metas program contents over.kept over.well.typed.queries over.texts vars e t scope stored known typed

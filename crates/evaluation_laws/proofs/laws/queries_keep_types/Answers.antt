use Rattle.std.proofs.Common.{ap, ◌∙◌}
use Rattle.std.specs.Option.{option_map}
use Rattle.std.proofs.lemmas.Option.{slice_get-map}
use Rattle.qv_syntax.specs.ProgramTypes.{query_type}
use Rattle.evaluation_laws.proofs.ProgramLaws.{queries_kept}
use Rattle.evaluation_laws.proofs.laws.queries_keep_types.Goals as goal

pub returns : goal.returns
returns c = λ metas program contents over n number query args found are.
    queries_kept metas program contents over.kept over.well.typed.queries over.texts n number (query_type query) args (slice_get-map query_type program.queries number ∙ ap (option_map query_type) found) are

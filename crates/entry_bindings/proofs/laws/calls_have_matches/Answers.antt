use Rattle.entry_bindings.proofs.MatchLaws.{matched, among_matched}
use Rattle.entry_bindings.proofs.laws.calls_have_matches.Goals as goal

pub returns : goal.returns
returns c = λ program names entries are calls. (
  λ among. matched program names entries are calls among,
  λ found. among_matched program names entries are calls found.0 found.1 found.2,
)

use Rattle.std.proofs.Common.{refl}
use Rattle.source_laws.proofs.AnswerLaws.{same_bindings}
use Rattle.source_laws.proofs.BindingLaws.{meets_same, source_kept, source_moved, source_apart, opposite}
use Rattle.source_laws.proofs.laws.bindings_are_of_sources.Goals as goal

pub returns-clause-meets : goal.returns-clause-meets
returns-clause-meets c = λ program ms ns number rel b d meant found keeps agree both places. meets_same program ms ns agree number rel meant found keeps b d both places

pub returns-clause-same : goal.returns-clause-same
returns-clause-same c = λ program ms ns number rel roots b meant found keeps agree. (
  source_kept program ms ns agree number rel meant found keeps roots b,
  source_kept program ns ms (opposite program.target ms ns agree) number rel meant found keeps roots b,
)

pub returns-clause-answers : goal.returns-clause-answers
returns-clause-answers c = λ program ms ns number rel roots xs ys meant found keeps agree one other. same_bindings program ms ns agree number rel meant found keeps roots xs ys one other

pub returns-clause-apart : goal.returns-clause-apart
returns-clause-apart c = λ program models rel roots b apart source. source_apart program models models (λ m other. refl) rel roots b apart source

pub returns-clause-moved : goal.returns-clause-moved
returns-clause-moved c = λ program ms ns number rel roots others b d meant found keeps agree given both handed source.
    source_moved program ms ns agree number rel meant found keeps roots others b d given both handed source

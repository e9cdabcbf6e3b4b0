use Rattle.entry_sources.proofs.MakingLaws.{entry_known_same, made_same, unmet_same}
use Rattle.entry_sources.proofs.laws.made_values_are_of_sources.Goals as goal

pub returns-clause-known : goal.returns-clause-known
returns-clause-known c = λ program ms ns rel b agree meta rule fine. entry_known_same program ms ns agree rel rule meta b fine

pub returns-clause-made : goal.returns-clause-made
returns-clause-made c = λ program ms ns rel b agree meta rule fine. made_same program ms ns agree rel rule meta b fine

pub returns-clause-unmet : goal.returns-clause-unmet
returns-clause-unmet c = λ program ms ns rel k agree rule fine. unmet_same program ms ns agree rel rule k fine

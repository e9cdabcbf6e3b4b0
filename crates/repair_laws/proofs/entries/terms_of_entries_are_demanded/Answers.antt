use Rattle.repair_laws.proofs.EnforcedReading.{terms_enforced, keys_enforced}
use Rattle.repair_laws.proofs.entries.terms_of_entries_are_demanded.Goals as goal

pub returns-clause-terms : goal.returns-clause-terms
returns-clause-terms c = terms_enforced

pub returns-clause-keys : goal.returns-clause-keys
returns-clause-keys c = keys_enforced

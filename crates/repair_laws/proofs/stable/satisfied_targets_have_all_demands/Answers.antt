use Rattle.repair_semantics.specs.Demands.{demands_of}
use Rattle.repair_laws.proofs.SettledLaws.{demands_are_met}
use Rattle.repair_laws.proofs.TermListLaws.{standing_terms}
use Rattle.repair_laws.proofs.stable.satisfied_targets_have_all_demands.Goals as goal

pub returns-clause-demands : goal.returns-clause-demands
returns-clause-demands c = λ metas program models m number entries target well enforceable satisfied laws are. demands_are_met metas program models m number target well enforceable satisfied laws entries are

pub returns-clause-terms : goal.returns-clause-terms
returns-clause-terms c =
    λ metas program models m number entries target well enforceable satisfied laws are.
    standing_terms program m number (demands_of program models entries) (demands_are_met metas program models m number target well enforceable satisfied laws entries are)

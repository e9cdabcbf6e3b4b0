-- Targets that can be repaired: a program and models over which enforcement makes a model (QVT 1.3, sections 7.2 and 7.10.2).
use Rattle.std.specs.Prelude.{◌≡◌, ◌≤◌, ◌+◌, ◌^◌, List, length, Some, slice_get, slice_set}
use Rattle.mof_metamodel.specs.declared.desc.MetaDesc.{MetaDesc}
use Rattle.object_tables.specs.Models.{ModelData}
use Rattle.object_tables.specs.Validity.{Valid}
use Rattle.qv_syntax.specs.declared.program.Program.{Program}
use Rattle.evaluation_laws.specs.Evaluable.{IsEvaluable}
use Rattle.enforcement_rules.specs.Rules.{IsEnforceable}
use Rattle.repair_semantics.specs.declared.entry.Entry.{Entry}
use Rattle.repair_semantics.specs.declared.entry.EntryName.{EntryName}
use Rattle.repair_semantics.specs.EntryChains.{CyclicEntries, DeepEntries, IsUnmet}
use Rattle.repair_semantics.specs.EntryOrder.{AreEntries}
use Rattle.repair_semantics.specs.Demands.{demands_of, demanded_terms}
use Rattle.repair_semantics.specs.Conflicts.{AreAtPeace}
use Rattle.repair_semantics.specs.CandidateObjects.{fresh_terms}
use Rattle.repair_semantics.specs.Candidates.{candidate}

-- The program can be enforced, and is evaluated over these models, of which m is the target; these are the entries, none of which is unmet, and
-- no chain of their calls comes back to a call or is too long; their demands are not in conflict; the target is valid, and so is what is made of it.
pub record CanBeRepaired (metas : List MetaDesc) (program : Program) (models : List ModelData) (m : ModelData) (entries : List Entry) : Type 0 where
  pub evaluable : IsEvaluable metas program models
  pub enforceable : IsEnforceable metas program
  pub target : slice_get models program.target ≡ Some m
  pub valid : Valid m
  pub made : AreEntries program models entries
  pub acyclic : (chain : List EntryName) → ¬ CyclicEntries program models chain
  pub short : (chain : List EntryName) → ¬ DeepEntries program models chain
  pub met : (e : Entry) → ¬ IsUnmet program models e
  pub peaceful : AreAtPeace m.meta (demands_of program models entries)
  pub repaired : Valid (candidate program m (demands_of program models entries))
  -- there are identifiers enough
  pub few : length (fresh_terms program m (demanded_terms (demands_of program models entries))) + length m.objects ≤ 2 ^ 64

-- the models with another target
abbrev pub with_target : Program → List ModelData → ModelData → List ModelData
with_target program models n = slice_set models program.target n

-- the models with what enforcement makes of the target
abbrev pub repaired_models : Program → List ModelData → ModelData → List Entry → List ModelData
repaired_models program models m entries = with_target program models (candidate program m (demands_of program models entries))

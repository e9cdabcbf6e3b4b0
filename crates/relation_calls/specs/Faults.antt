-- What stops a search through calls: one of the chains that it comes to, or want of memory.
use Rattle.std.specs.Prelude.{List}
use Rattle.qvtr_semantics.specs.Calls.{RelationCall}
use Rattle.qvtr_semantics.specs.Chains.{IsCyclic, IsDeep}
use Rattle.relation_calls.specs.declared.error.CallError.{CallError}
use Rattle.relation_calls.specs.declared.error.CallError.TheVariants as errors
use Rattle.relation_calls.specs.Names.{chain_named}

abbrev pub IsFault : (List RelationCall → Type 0) → CallError → Type 0
IsFault Chains (errors.Cycle names) = Chains (chain_named names) × IsCyclic (chain_named names)
IsFault Chains (errors.Deep names) = Chains (chain_named names) × IsDeep (chain_named names)
IsFault Chains errors.NoMemory = Unit {0}

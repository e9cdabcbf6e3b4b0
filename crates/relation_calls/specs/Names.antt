-- Calls between relations as answers tell them.
use Rattle.std.specs.Prelude.{List, map, Option}
use Rattle.std.specs.Option.{option_map}
use Rattle.qvtr_semantics.specs.Calls.{RelationCall}
use Rattle.relation_calls.specs.declared.name.CallName.{CallName}

-- the call that a name tells
abbrev pub call_named : CallName → RelationCall
call_named name = record { rel = name.rel; roots = name.roots.values }

abbrev pub chain_named : List CallName → List RelationCall
chain_named names = map call_named names

-- the calls of a clause, nothing for one that makes none
abbrev pub calls_named : List (Option CallName) → List (Option RelationCall)
calls_named calls = map (λ call. option_map call_named call) calls

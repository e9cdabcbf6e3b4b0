-- All that is found of a call: bindings that meet the source of its relation, in order, with their outcomes.
use Rattle.std.specs.Prelude.{ℕ, List, [], Some, Contains, AllPairs}
use Rattle.object_tables.specs.Models.{ModelData}
use Rattle.qv_syntax.specs.declared.program.Program.{Program}
use Rattle.qv_syntax.specs.declared.program.Rel.{Rel}
use Rattle.qvtr_semantics.specs.Templates.{Values}
use Rattle.qvtr_semantics.specs.Bindings.{Source}
use Rattle.qvtr_semantics.specs.Calls.{RelationCall, AllAsked, Match, calls_of}
use Rattle.qvtr_semantics.specs.Satisfaction.{IsLess, Failing}
use Rattle.template_match.specs.Search.{values_of}
use Rattle.relation_calls.specs.declared.found.Found.{Found}
use Rattle.relation_calls.specs.Outcomes.{AreOutcomes}
use Rattle.relation_calls.specs.Seen.{Seen, IsBad}

-- The bindings meet the source. One that meets it and isn't among them has a call in the when clause that doesn't match, and no chain that
-- is refused is come to by its calls there.
pub record AreEnough (program : Program) (models : List ModelData) (rel : Rel) (roots : Values) (bs : List Values) : Type 0 where
  pub only : (b : Values) → Contains bs b → Source program models rel roots b
  pub matched : (b : Values) → Source program models rel roots b → AllAsked (Match program models) (calls_of program models b rel.whens) → Contains bs b
  pub asked : (b : Values) (d : RelationCall) (chain : List RelationCall) → Source program models rel roots b → Contains (calls_of program models b rel.whens) (Some d)
      → Seen program models [] d chain → IsBad chain → Contains bs b

pub record IsFound (program : Program) (models : List ModelData) (n : ℕ) (rel : Rel) (roots : Values) (found : Found) : Type 0 where
  pub enough : AreEnough program models rel roots (values_of found.bindings)
  pub sorted : AllPairs (IsLess rel.universal) (values_of found.bindings)
  pub outcomes : AreOutcomes program models n rel (values_of found.bindings) found.outcomes

-- of the failing bindings of one relation the least
pub record IsLeastOf (program : Program) (models : List ModelData) (number : ℕ) (b : Values) : Type 0 where
  pub failing : Failing program models number b
  pub least : (c : Values) → Failing program models number c → ¬ IsLess failing.rel.universal c b

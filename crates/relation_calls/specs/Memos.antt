-- What a memo keeps: answers to calls that were asked for a match, and to calls in where clauses; which relations are calm; and tables of
-- matches.
use Rattle.std.specs.Prelude.{◌≡◌, ◌↔◌, ◌≤◌, ℕ, max, Bool, ◌&&◌, ◌||◌, List, Option, Some, length, IsTrue}
use Rattle.std.specs.Ordering.{nat_cmp}
use Rattle.std.specs.BTreeMap.{get}
use Rattle.object_tables.specs.Models.{ModelData}
use Rattle.qv_syntax.specs.declared.program.Program.{Program}
use Rattle.qvtr_semantics.specs.declared.datum.Datum.{Datum}
use Rattle.qvtr_semantics.specs.Calls.{RelationCall, Match, HoldsFor}
use Rattle.qvtr_semantics.specs.Chains.{ChainOf, MatchChain, HoldsChain}
use Rattle.relation_calls.specs.declared.memo.Answer.{Answer}
use Rattle.relation_calls.specs.declared.memo.Memo.{Memo}
use Rattle.relation_calls.specs.CallOrder.{call_order}
use Rattle.relation_calls.specs.Seen.{AreClean}
use Rattle.relation_calls.specs.Calm.{IsHeightOf}
use Rattle.relation_calls.specs.Tables.{IsTable}

-- no chain that begins with the call has more calls
abbrev pub IsHeight : Program → List ModelData → RelationCall → ℕ → Type 0
IsHeight program models c n = (chain : List RelationCall) → ChainOf program models c chain → length chain ≤ n

-- the call matches exactly where the answer says so, and no chain that is reached from it is cyclic or deep
pub record IsMatching (program : Program) (models : List ModelData) (c : RelationCall) (one : Bool) : Type 0 where
  pub value : IsTrue one ↔ Match program models c
  pub clean : AreClean (MatchChain program models c)

-- the call holds exactly where the answer says so, no chain that is reached from it is cyclic or deep, and none that begins with it is higher
pub record IsHolding (program : Program) (models : List ModelData) (c : RelationCall) (answer : Answer) : Type 0 where
  pub value : IsTrue answer.holds ↔ HoldsFor program models answer.height c
  pub clean : AreClean (HoldsChain program models c)
  pub height : IsHeight program models c answer.height

-- of calls and others
abbrev pub both_hold : Answer → Answer → Answer
both_hold one other = record { holds = one.holds && other.holds; height = max one.height other.height }

abbrev pub one_holds : Answer → Answer → Answer
one_holds one other = record { holds = one.holds || other.holds; height = max one.height other.height }

-- each answer that is kept is true
pub record IsTold (program : Program) (models : List ModelData) (memo : Memo) : Type 0 where
  pub matching : (c : RelationCall) (one : Bool) → get call_order memo.matching c ≡ Some one → IsMatching program models c one
  pub holding : (c : RelationCall) (answer : Answer) → get call_order memo.holding c ≡ Some answer → IsHolding program models c answer
  pub heights : (number : ℕ) (height : Option ℕ) → get nat_cmp memo.heights number ≡ Some height → IsHeightOf program number height
  pub tables : (number : ℕ) (table : Option (List (List Datum))) → get nat_cmp memo.tables number ≡ Some table → IsTable program models number table

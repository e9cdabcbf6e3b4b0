-- Which relations a check comes to, and the chains of calls in where clauses (QVT 1.3, section 7.10.2; that chains which come back to
-- a call or grow too long are refused is this engine's own).
use Rattle.std.specs.Prelude.{◌≡◌, ◌≢◌, ◌⊎◌, ℕ, suc, List, [], ◌∷◌, ◌++◌, length, Some, slice_get, Contains, AllPairs}
use Rattle.qvtr_semantics.specs.declared.limits.TheConstants.{MAX_CALLS}
use Rattle.object_tables.specs.Models.{ModelData}
use Rattle.qv_syntax.specs.declared.program.Program.{Program}
use Rattle.qv_syntax.specs.declared.program.Rel.{Rel}
use Rattle.qvtr_semantics.specs.Templates.{Values}
use Rattle.qvtr_semantics.specs.Bindings.{Source, Target}
use Rattle.qvtr_semantics.specs.Calls.{RelationCall, SourceMatches, Match, calls_of, free}
use Rattle.qvtr_semantics.specs.Satisfaction.{IsTop}

-- a binding that meets the source of a relation with these roots makes the call in its when clause
pub record AsksWhen (program : Program) (models : List ModelData) (from to : RelationCall) : Type 0 where
  pub rel : Rel
  pub is : slice_get program.rels from.rel ≡ Some rel
  pub binding : Values
  pub source : Source program models rel from.roots binding
  pub asks : Contains (calls_of program models binding rel.whens) (Some to)

-- a binding that meets the source, whose calls match, and a partner that meets the target make the call in their where clause
pub record CallsWhere (program : Program) (models : List ModelData) (from to : RelationCall) : Type 0 where
  pub rel : Rel
  pub is : slice_get program.rels from.rel ≡ Some rel
  pub binding : Values
  pub source : SourceMatches (Match program models) program models rel from.roots binding
  pub partner : Values
  pub target : Target program models rel binding partner
  pub calls : Contains (calls_of program models partner rel.wheres) (Some to)

-- how a relation is come to: as a top relation with free roots, as a match, or by a call in a where clause
pub data Role : Type 0 where
  as_top : Role
  as_match : Role
  as_called : Role

-- what is reached from where a check begins: by calls in when clauses and in where clauses
pub data ReachedFrom (program : Program) (models : List ModelData) (Starts : Role → RelationCall → Type 0) : Role → RelationCall → Type 0 where
  start : (role : Role) (c : RelationCall) → Starts role c → ReachedFrom program models Starts role c
  by_when : (role : Role) (from to : RelationCall) → ReachedFrom program models Starts role from → AsksWhen program models from to
      → ReachedFrom program models Starts as_match to
  by_where : (role : Role) (from to : RelationCall) → ReachedFrom program models Starts role from → CallsWhere program models from to
      → ReachedFrom program models Starts as_called to

-- a check of the relations begins with the top relations of the direction, with free roots
pub data IsTopCall (program : Program) : Role → RelationCall → Type 0 where
  top : (number : ℕ) (rel : Rel) → IsTop program number rel → IsTopCall program as_top (record { rel = number; roots = free rel })

abbrev pub Reached : Program → List ModelData → Role → RelationCall → Type 0
Reached program models = ReachedFrom program models (IsTopCall program)

-- a call at the begin of a chain: by a top relation, or by one that was asked for a match
pub record BeginsFrom (program : Program) (models : List ModelData) (Starts : Role → RelationCall → Type 0) (to : RelationCall) : Type 0 where
  pub from : RelationCall
  pub begins : ReachedFrom program models Starts as_top from ⊎ ReachedFrom program models Starts as_match from
  pub calls : CallsWhere program models from to

-- each call is made by the one before it
abbrev pub GoesOn : Program → List ModelData → RelationCall → List RelationCall → Type 0
GoesOn program models from [] = Unit {0}
GoesOn program models from (to ∷ more) = CallsWhere program models from to × GoesOn program models to more

-- a list of calls in where clauses
abbrev pub ChainFrom : Program → List ModelData → (Role → RelationCall → Type 0) → List RelationCall → Type 0
ChainFrom program models Starts [] = ⊥
ChainFrom program models Starts (first ∷ more) = BeginsFrom program models Starts first × GoesOn program models first more

abbrev pub Chain : Program → List ModelData → List RelationCall → Type 0
Chain program models = ChainFrom program models (IsTopCall program)

-- one call alone is where a check begins
pub data IsOnlyCall (role : Role) (c : RelationCall) : Role → RelationCall → Type 0 where
  only : IsOnlyCall role c role c

-- what a match that is asked for reaches: the chains that begin in the where clause of the relation, or of one that is asked for a match from there
abbrev pub MatchChain : Program → List ModelData → RelationCall → List RelationCall → Type 0
MatchChain program models c = ChainFrom program models (IsOnlyCall as_match c)

-- the chain begins with the call
abbrev pub ChainOf : Program → List ModelData → RelationCall → List RelationCall → Type 0
ChainOf program models c [] = ⊥
ChainOf program models c (first ∷ more) = (first ≡ c) × GoesOn program models c more

-- what a call in a where clause reaches: the chains that begin with it, or in the where clause of a relation that is asked for a match from there
abbrev pub HoldsChain : Program → List ModelData → RelationCall → List RelationCall → Type 0
HoldsChain program models c chain = ChainOf program models c chain ⊎ ChainFrom program models (IsOnlyCall as_called c) chain

-- the last call is one of the earlier ones, which are distinct
pub record IsCyclic (chain : List RelationCall) : Type 0 where
  pub before : List RelationCall
  pub last : RelationCall
  pub is : chain ≡ before ++ last ∷ []
  pub distinct : AllPairs (λ c d. c ≢ d) before
  pub repeat : Contains before last

-- there is one call more than a chain may have, without a repeat
pub record IsDeep (chain : List RelationCall) : Type 0 where
  pub calls : length chain ≡ suc MAX_CALLS
  pub distinct : AllPairs (λ c d. c ≢ d) chain

pub record CyclicChain (program : Program) (models : List ModelData) (chain : List RelationCall) : Type 0 where
  pub reached : Chain program models chain
  pub cyclic : IsCyclic chain

pub record DeepChain (program : Program) (models : List ModelData) (chain : List RelationCall) : Type 0 where
  pub reached : Chain program models chain
  pub deep : IsDeep chain

-- The chains of calls that are come to from a call, by first steps (QVT 1.3, section 7.10.2).
use Rattle.std.specs.Prelude.{◌≡◌, ◌⊎◌, List, [], ◌∷◌, ◌++◌}
use Rattle.object_tables.specs.Models.{ModelData}
use Rattle.qv_syntax.specs.declared.program.Program.{Program}
use Rattle.qvtr_semantics.specs.Calls.{RelationCall}
use Rattle.qvtr_semantics.specs.Chains.{as_top, AsksWhen, CallsWhere, ChainFrom, IsOnlyCall, IsCyclic, IsDeep}

-- From a call c with which the chain `upto` ends, or with which a match is asked for, where `upto` is empty, one comes to a chain: by the
-- next call in a where clause alone, by further ones behind it, or from a call in a when clause, which begins anew.
pub data Seen (program : Program) (models : List ModelData) : List RelationCall → RelationCall → List RelationCall → Type 0 where
  next : (upto : List RelationCall) (c d : RelationCall) → CallsWhere program models c d → Seen program models upto c (upto ++ d ∷ [])
  by_where : (upto : List RelationCall) (c d : RelationCall) (chain : List RelationCall) → CallsWhere program models c d
      → Seen program models (upto ++ d ∷ []) d chain → Seen program models upto c chain
  by_when : (upto : List RelationCall) (c d : RelationCall) (chain : List RelationCall) → AsksWhen program models c d
      → Seen program models [] d chain → Seen program models upto c chain

-- what one comes to by the call d in a where clause behind `upto`
abbrev pub SeenBehind : Program → List ModelData → List RelationCall → RelationCall → List RelationCall → Type 0
SeenBehind program models upto d chain = (chain ≡ upto ++ d ∷ []) ⊎ Seen program models (upto ++ d ∷ []) d chain

-- the chains that are reached from a top relation with free roots
abbrev pub TopChain : Program → List ModelData → RelationCall → List RelationCall → Type 0
TopChain program models c = ChainFrom program models (IsOnlyCall as_top c)

-- a chain that is refused
abbrev pub IsBad : List RelationCall → Type 0
IsBad chain = IsCyclic chain ⊎ IsDeep chain

-- none of the chains is refused
abbrev pub AreClean : (List RelationCall → Type 0) → Type 0
AreClean Chains = (chain : List RelationCall) → Chains chain → ¬ IsBad chain

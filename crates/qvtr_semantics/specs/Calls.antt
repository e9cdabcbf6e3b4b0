-- Calls between relations (QVT 1.3, sections 7.3 and 7.10.2). In a when clause a call asks for a match: some binding of the called
-- relation has these roots. In a where clause it asks that the called relation holds for these roots. By recursion on the calls in
-- when clauses that may still be made within one another (the strata), and on the calls in where clauses.
use Rattle.std.specs.Prelude.{ℕ, zero, suc, List, [], ◌∷◌, map, length, replicate, Option, None, Some, slice_get, slice_set}
use Rattle.qvtr_semantics.specs.declared.limits.TheConstants.{MAX_CALLS}
use Rattle.object_tables.specs.Models.{ModelData}
use Rattle.qv_syntax.specs.declared.program.Program.{Program}
use Rattle.qv_syntax.specs.declared.program.Rel.{Rel}
use Rattle.qv_syntax.specs.declared.program.Dom.{Dom}
use Rattle.qv_syntax.specs.declared.program.Conj.{Conj}
use Rattle.qv_syntax.specs.declared.program.Conj.TheVariants as conjuncts
use Rattle.qv_syntax.specs.declared.typed.Typed.{Typed}
use Rattle.qvtr_semantics.specs.declared.datum.Datum.{Datum}
use Rattle.qvtr_semantics.specs.Outs.{datum_of, all_given}
use Rattle.qvtr_semantics.specs.Expressions.{value_for}
use Rattle.qvtr_semantics.specs.Templates.{Values}
use Rattle.qvtr_semantics.specs.Bindings.{Source, Target}

-- a relation by its number, with the values of the roots of its domains
pub record RelationCall : Type 0 where
  pub rel : ℕ
  pub roots : Values

-- no variable has a value
abbrev pub free : Rel → Values
free rel = replicate (length rel.vars) None

-- the roots of the domains have these values
abbrev pub with_roots : Values → List Dom → List Datum → Values
with_roots values [] ds = values
with_roots values doms [] = values
with_roots values (dom ∷ doms) (d ∷ ds) = with_roots (slice_set values dom.root (Some d)) doms ds

-- the call that arguments make; an argument that is null or invalid makes none
abbrev pub call_with : ℕ → Option Rel → Option (List Datum) → Option RelationCall
call_with number (Some rel) (Some ds) = Some (record { rel = number; roots = with_roots (free rel) rel.domains ds })
call_with number rel ds = None

abbrev pub call_of : Program → List ModelData → Values → ℕ → List Typed → Option RelationCall
call_of program models b number args = call_with number (slice_get program.rels number) (all_given (map (λ e. datum_of (value_for program models e b)) args))

-- the calls of a clause, nothing for one that makes none
abbrev pub calls_of : Program → List ModelData → Values → List Conj → List (Option RelationCall)
calls_of program models b [] = []
calls_of program models b (conjuncts.Call number args ∷ cs) = call_of program models b number args ∷ calls_of program models b cs
calls_of program models b (c ∷ cs) = calls_of program models b cs

-- what is asked of calls
abbrev pub Asked : Type 1
Asked = RelationCall → Type 0

-- a call that isn't made is neither a match nor holds
abbrev pub AllAsked : Asked → List (Option RelationCall) → Type 0
AllAsked asked [] = Unit {0}
AllAsked asked (None ∷ cs) = ⊥
AllAsked asked (Some c ∷ cs) = asked c × AllAsked asked cs

-- b meets the source of the relation, and its calls in the when clause match
pub record SourceMatches (matches : Asked) (program : Program) (models : List ModelData) (rel : Rel) (roots b : Values) : Type 0 where
  pub source : Source program models rel roots b
  pub whens : AllAsked matches (calls_of program models b rel.whens)

-- g meets the target of the relation for b, and its calls in the where clause hold
pub record TargetHolds (holds : Asked) (program : Program) (models : List ModelData) (rel : Rel) (b g : Values) : Type 0 where
  pub target : Target program models rel b g
  pub wheres : AllAsked holds (calls_of program models g rel.wheres)

-- the relation of the number, if there is one, with what is asked of it
abbrev pub Of : Option Rel → (Rel → Type 0) → Type 0
Of None asked = ⊥
Of (Some rel) asked = asked rel

-- the relation holds for these roots, where so many calls in where clauses may still be made within one another: each binding that
-- meets its source and whose calls match has a partner that meets its target and whose calls hold
abbrev pub HoldsWithin : Asked → Program → List ModelData → ℕ → Asked
HoldsWithin matches program models zero c = ⊥
HoldsWithin matches program models (suc n) c = Of (slice_get program.rels c.rel) (λ rel.
    (b : Values) → SourceMatches matches program models rel c.roots b
    → (g : Values) × TargetHolds (HoldsWithin matches program models n) program models rel b g)

-- some binding and its partner have these roots, where so many calls in when clauses may still be made within one another
abbrev pub MatchesWithin : Program → List ModelData → ℕ → Asked
MatchesWithin program models zero c = ⊥
MatchesWithin program models (suc s) c = Of (slice_get program.rels c.rel) (λ rel.
    (b g : Values) × SourceMatches (MatchesWithin program models s) program models rel c.roots b
    × TargetHolds (HoldsWithin (MatchesWithin program models s) program models MAX_CALLS) program models rel b g)

-- A call in a when clause matches, and one in a where clause holds. No path of calls has more calls in when clauses than there are relations.
abbrev pub Match : Program → List ModelData → Asked
Match program models = MatchesWithin program models (length program.rels)

abbrev pub HoldsFor : Program → List ModelData → ℕ → Asked
HoldsFor program models n = HoldsWithin (Match program models) program models n

abbrev pub Holds : Program → List ModelData → Asked
Holds program models = HoldsFor program models MAX_CALLS

-- Tables of the data at the roots of a relation's matches, and joins with them (QVT 1.3, section 7.10.2).
use Rattle.std.specs.Prelude.{◌≡◌, ℕ, List, [], ◌∷◌, map, length, replicate, Option, None, Some, IfSome, slice_get, slice_set, slice_index_or, Contains}
use Rattle.object_tables.specs.Models.{ModelData}
use Rattle.qv_syntax.specs.declared.program.Program.{Program}
use Rattle.qv_syntax.specs.declared.program.Rel.{Rel}
use Rattle.qv_syntax.specs.declared.program.Dom.{Dom}
use Rattle.qv_syntax.specs.declared.program.Conj.{Conj}
use Rattle.qv_syntax.specs.declared.typed.Typed.{Typed}
use Rattle.qv_syntax.specs.declared.typed.Node.{out-Node}
use Rattle.qvtr_semantics.specs.declared.datum.Datum.{Datum}
use Rattle.qvtr_semantics.specs.Outs.{all_given}
use Rattle.qvtr_semantics.specs.Templates.{Values, value_at}
use Rattle.qvtr_semantics.specs.Bindings.{Source, Target, Extends}
use Rattle.qvtr_semantics.specs.Calls.{RelationCall, AllAsked, Match, calls_of}
use Rattle.template_match.specs.declared.join.Join.{Join}
use Rattle.template_match.specs.Joins.{IsJoined, AreJoined}
use Rattle.template_match.specs.Links.{variable_alone}

-- ---- rows

-- the data of the roots of domains, if each root has one
abbrev pub row_of : List Dom → Values → Option (List Datum)
row_of domains g = all_given (map (λ (dom : Dom). value_at g dom.root) domains)

-- the row of a binding is among them
abbrev pub HasRow : List Dom → List (List Datum) → Values → Type 0
HasRow domains rows g = (row : List Datum) × Contains rows row × (row_of domains g ≡ Some row)

-- none of the rows is lost
abbrev pub AreKept : List (List Datum) → List (List Datum) → Type 0
AreKept old new = (row : List Datum) → Contains old row → Contains new row

-- of each partner of a binding
abbrev pub HasPartners : Program → List ModelData → Rel → List (List Datum) → Values → Type 0
HasPartners program models rel rows b = (g : Values) → Target program models rel b g → HasRow rel.domains rows g

-- of each partner of a binding that begins with the seed and stands in the joins
abbrev pub HasPartnersFrom : Program → List ModelData → Rel → List Join → List (List Datum) → Values → Type 0
HasPartnersFrom program models rel joins rows f = (b : Values) → Source program models rel f b → AreJoined joins b → HasPartners program models rel rows b

-- Where a call of the relation of that number matches, one of the rows is that of a binding with the roots of the call. There may be more
-- rows than matches.
abbrev pub AreMatches : Program → List ModelData → ℕ → List (List Datum) → Type 0
AreMatches program models number rows = (rel : Rel) (c : RelationCall) → slice_get program.rels number ≡ Some rel → c.rel ≡ number → Match program models c
    → (g : Values) × HasRow rel.domains rows g × Extends c.roots g

-- a table that was given up says nothing
abbrev pub IsTable : Program → List ModelData → ℕ → Option (List (List Datum)) → Type 0
IsTable program models number table = IfSome table (AreMatches program models number)

-- ---- joins

-- for each variable of the called relation the variable that a call gives it as a root, as `with_roots` gives it values
abbrev pub with_arguments : List (Option ℕ) → List Dom → List Typed → List (Option ℕ)
with_arguments places [] args = places
with_arguments places (dom ∷ domains) [] = places
with_arguments places (dom ∷ domains) (e ∷ args) = with_arguments (slice_set places dom.root (variable_alone (out-Node e.node))) domains args

abbrev pub arguments_of : Rel → List Typed → List (Option ℕ)
arguments_of called args = with_arguments (replicate (length called.vars) None) called.domains args

-- the variable of the caller for each column
abbrev pub columns_of : Rel → List Typed → List (Option ℕ)
columns_of called args = map (λ (dom : Dom). slice_index_or (arguments_of called args) dom.root None) called.domains

-- a binding stands in the join where its calls of the clause match
abbrev pub IsSound : Program → List ModelData → List Conj → Join → Type 0
IsSound program models clause join = (b : Values) → AllAsked (Match program models) (calls_of program models b clause) → IsJoined join b

abbrev pub AreSound : Program → List ModelData → List Conj → List Join → Type 0
AreSound program models clause joins = (join : Join) → Contains joins join → IsSound program models clause join

-- Entries: the bindings of relations that enforcement has to fulfil (QVT 1.3, sections 7.2, 7.3 and 7.10.2). A top relation has an entry for
-- each binding that meets its source and each of whose calls in the when clause has the roots of an entry; a call in the where clause of an
-- entry that is met has one for each such binding that extends its roots.
use Rattle.std.specs.Prelude.{◌≡◌, ◌⊎◌, ℕ, Bool, true, false, List, [], ◌∷◌, map, length, Option, None, Some, slice_get, Contains, if◌then◌else◌}
use Rattle.std.specs.List.{filter_map}
use Rattle.std.specs.Option.{option_and_then, option_map_or, option_or}
use Rattle.object_tables.specs.Models.{ModelData}
use Rattle.qv_syntax.specs.declared.program.Program.{Program}
use Rattle.qv_syntax.specs.declared.program.Rel.{Rel}
use Rattle.qv_syntax.specs.declared.program.Conj.{Conj}
use Rattle.qv_syntax.specs.declared.program.Conj.TheVariants as conjuncts
use Rattle.qv_syntax.specs.declared.typed.Typed.{Typed}
use Rattle.qvtr_semantics.specs.Outs.{all_given}
use Rattle.qvtr_semantics.specs.Satisfaction.{IsTop}
use Rattle.template_match.specs.Sources.{is_target_variable, SourceWithoutTarget}
use Rattle.repair_semantics.specs.declared.term.Term.{Term}
use Rattle.repair_semantics.specs.declared.term.TermValue.{TermValue}
use Rattle.repair_semantics.specs.declared.term.TermValue.TheVariants as values
use Rattle.repair_semantics.specs.declared.entry.Entry.{Entry}
use Rattle.repair_semantics.specs.declared.entry.EntryName.{EntryName}
use Rattle.repair_semantics.specs.EntryValues.{TermValues, value_of, data_in, TermsExtend, no_values, root_values, Known, known, given_value}
use Rattle.repair_semantics.specs.Making.{variables, entry_known, made_values}
use Rattle.repair_semantics.specs.Unmet.{is_unmet}

-- ---- bindings

-- the variable is universal and one for objects of the target
pub record IsUniversalTarget (program : Program) (rel : Rel) (v : ℕ) : Type 0 where
  pub universal : Contains rel.universal v
  pub target : is_target_variable program rel v ≡ true

-- b gives values to the universal variables, terms to those for objects of the target, and to the roots that are fixed, and meets the source
pub record TermSource (program : Program) (models : List ModelData) (rel : Rel) (roots b : TermValues) : Type 0 where
  pub places : length b ≡ length rel.vars
  pub extends : TermsExtend roots b
  pub source : SourceWithoutTarget program models rel (data_in roots) (data_in b)
  pub terms : (v : ℕ) → IsUniversalTarget program rel v → (t : Term) × (value_of b v ≡ Some (values.Term t))
  pub no_others : (v : ℕ) (t : Term) → value_of b v ≡ Some (values.Term t) → IsUniversalTarget program rel v ⊎ (value_of roots v ≡ Some (values.Term t))

-- ---- calls

-- what the roots of the domains are bound to: where two domains have one root it is the last of their arguments, as for calls over models
abbrev pub bound_roots : Rel → List TermValue → List TermValue
bound_roots rel xs = filter_map (λ dom. value_of (root_values rel xs) dom.root) rel.domains

abbrev pub call_to : ℕ → Option Rel → List TermValue → Option EntryName
call_to number None xs = None
call_to number (Some rel) xs = Some (record { rel = number; roots = bound_roots rel xs })

-- the call that arguments make; an argument that has no value makes none
abbrev pub named_call : Program → List ModelData → Known → ℕ → List Typed → Option EntryName
named_call program models k number args = option_and_then (call_to number (slice_get program.rels number)) (all_given (map (given_value program models k) args))

-- the calls of a clause, nothing for one that isn't made
abbrev pub calls_in : Program → List ModelData → Known → List Conj → List (Option EntryName)
calls_in program models k [] = []
calls_in program models k (conjuncts.Call number args ∷ cs) = named_call program models k number args ∷ calls_in program models k cs
calls_in program models k (c ∷ cs) = calls_in program models k cs

-- ---- entries

-- the entry of a relation with these values
abbrev pub entry_of : Program → List ModelData → ℕ → Rel → Bool → TermValues → Entry
entry_of program models number rel called b = record { rel = number; called = called; values = b; made = made_values program models rel b }

-- all values of an entry: those of its binding, and those that it makes
abbrev pub entry_values : Entry → Rel → TermValues
entry_values e rel = map (λ v. option_or (value_of e.values v) (value_of e.made v)) (variables rel)

-- the values of the roots of the domains of a relation
abbrev pub roots_in : Entry → Option Rel → List (Option TermValue)
roots_in e None = []
roots_in e (Some rel) = map (λ dom. value_of (entry_values e rel) dom.root) rel.domains

-- the values of the roots of the domains of its relation
abbrev pub entry_roots : Program → Entry → List (Option TermValue)
entry_roots program e = roots_in e (slice_get program.rels e.rel)

-- the entry is one of the relation that is called, with the roots of the call
pub record HasRoots (program : Program) (c : EntryName) (e : Entry) : Type 0 where
  pub rel : e.rel ≡ c.rel
  pub roots : entry_roots program e ≡ map (λ x. Some x) c.roots

-- a call in a when clause asks for an entry of the called relation as a top relation
pub record IsMatchFor (program : Program) (c : EntryName) (e : Entry) : Type 0 where
  pub top : e.called ≡ false
  pub has : HasRoots program c e

-- each of the calls is made and has its match at its place
abbrev pub AreMatches : Program → List (Option EntryName) → List Entry → Type 0
AreMatches program [] [] = Unit {0}
AreMatches program (Some c ∷ cs) (e ∷ es) = IsMatchFor program c e × AreMatches program cs es
AreMatches program cs es = ⊥

-- the calls of the where clause of an entry in which so much is known
abbrev pub calls_where : Program → List ModelData → Rel → Known → List EntryName
calls_where program models rel k = if is_unmet program models rel k then [] else filter_map (λ c. c) (calls_in program models k rel.wheres)

-- the calls of the where clause of an entry; one that is unmet makes none
abbrev pub entry_calls : Program → List ModelData → Entry → List EntryName
entry_calls program models e = option_map_or (λ rel. calls_where program models rel (entry_known program models rel e.values)) (slice_get program.rels e.rel) []

-- the entry is that of a binding of the relation with these roots, and these entries are the matches of the calls in its when clause
pub record IsEntryWith (program : Program) (models : List ModelData) (number : ℕ) (rel : Rel) (called : Bool) (roots : TermValues) (matches : List Entry) (e : Entry) : Type 0 where
  pub source : TermSource program models rel roots e.values
  pub whens : AreMatches program (calls_in program models (known e.values) rel.whens) matches
  pub is : e ≡ entry_of program models number rel called e.values

-- the entries: the least set that these two rules give
pub data IsEntry (program : Program) (models : List ModelData) : Entry → Type 0 where
  of_top : (e : Entry) (number : ℕ) (rel : Rel) (matches : List Entry) → IsTop program number rel
      → IsEntryWith program models number rel false (no_values rel) matches e
      → ((m : Entry) → Contains matches m → IsEntry program models m) → IsEntry program models e
  of_call : (e : Entry) (from : Entry) (c : EntryName) (rel : Rel) (matches : List Entry) → IsEntry program models from
      → Contains (entry_calls program models from) c → slice_get program.rels c.rel ≡ Some rel
      → IsEntryWith program models c.rel rel true (root_values rel c.roots) matches e
      → ((m : Entry) → Contains matches m → IsEntry program models m) → IsEntry program models e

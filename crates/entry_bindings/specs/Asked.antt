-- What is asked of the roots of a relation, and of the bindings that are looked for (QVT 1.3, sections 7.2, 7.3 and 7.10.2).
use Rattle.std.specs.Prelude.{◌≡◌, ◌↔◌, ℕ, true, false, List, length, None, Some, slice_get, Contains}
use Rattle.mof_metamodel.specs.declared.desc.MetaDesc.{MetaDesc}
use Rattle.object_tables.specs.Models.{ModelData}
use Rattle.qv_syntax.specs.declared.program.Program.{Program}
use Rattle.qv_syntax.specs.declared.program.Rel.{Rel}
use Rattle.qv_syntax.specs.declared.program.Dom.{Dom}
use Rattle.qv_syntax.specs.WellFormed.{IsWellFormed}
use Rattle.qvtr_semantics.specs.declared.datum.Datum.{Datum}
use Rattle.qvtr_semantics.specs.Templates.{Values}
use Rattle.template_match.specs.Sources.{is_target_variable, SourceWithoutTarget}
use Rattle.enforcement_rules.specs.Rules.{IsEnforceable}
use Rattle.repair_semantics.specs.declared.term.Term.{Term}
use Rattle.repair_semantics.specs.declared.term.TermValue.{TermValue}
use Rattle.repair_semantics.specs.declared.term.TermValue.TheVariants as values
use Rattle.repair_semantics.specs.declared.entry.EntryName.{EntryName}
use Rattle.repair_semantics.specs.EntryValues.{TermValues, value_of, known}
use Rattle.repair_semantics.specs.Entries.{TermSource, calls_in}
use Rattle.term_table.specs.declared.numbered.NumberedValue.{NumberedValue}
use Rattle.term_table.specs.TermTables.{IsWithin}
use Rattle.entry_bindings.specs.declared.matching.Match.{Match}
use Rattle.entry_bindings.specs.Matches.{AreAmong}
use Rattle.entry_bindings.specs.Starts.{NumberedValues, number_of, fixed_values}

-- ---- what is given

-- a relation of the direction of an enforceable program
pub record IsEnforced (program : Program) (rel : Rel) : Type 0 where
  pub metas : List MetaDesc
  pub formed : IsWellFormed metas program
  pub enforceable : IsEnforceable metas program
  pub number : ℕ
  pub found : slice_get program.rels number ≡ Some rel
  pub direction : rel.in_direction ≡ true

-- there is a place for each variable; terms are those of variables for objects of the target, data those of others
pub record AreRoots (program : Program) (rel : Rel) (roots : TermValues) : Type 0 where
  pub places : length roots ≡ length rel.vars
  pub data_values : (v : ℕ) (d : Datum) → value_of roots v ≡ Some (values.Val d) → is_target_variable program rel v ≡ false
  pub terms : (v : ℕ) (t : Term) → value_of roots v ≡ Some (values.Term t) → is_target_variable program rel v ≡ true

-- where the relation isn't top, the root of each primitive domain has a value
abbrev pub HasPrimitiveRoots : Rel → TermValues → Type 0
HasPrimitiveRoots rel roots = (dom : Dom) → rel.top ≡ false → Contains rel.domains dom → dom.model ≡ None → (x : TermValue) × (value_of roots dom.root ≡ Some x)

-- what the search in the sources gives for roots in which objects of the target stand for terms
abbrev pub AreFound : Program → List ModelData → Rel → NumberedValues → List Values → Type 0
AreFound program models rel roots ds = (d : Values) → Contains ds d ↔ SourceWithoutTarget program models rel (fixed_values program.target roots) d

-- each value is a datum or a number of the table
abbrev pub AreWithin : List Term → NumberedValues → Type 0
AreWithin terms b = (v : ℕ) (x : NumberedValue) → number_of b v ≡ Some x → IsWithin terms x

abbrev pub AreMatchesWithin : List Term → List Match → Type 0
AreMatchesWithin terms ms = (m : Match) (x : NumberedValue) → Contains ms m → Contains m.roots x → IsWithin terms x

-- ---- what is looked for

-- b is the binding of an entry with these roots, and each of its calls in the when clause is among the matches
pub record IsEntryBinding (program : Program) (models : List ModelData) (rel : Rel) (names : List EntryName) (roots b : TermValues) : Type 0 where
  pub source : TermSource program models rel roots b
  pub whens : AreAmong names (calls_in program models (known b) rel.whens)

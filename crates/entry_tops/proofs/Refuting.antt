-- Wrong answers that the definitions exclude: of the search for the entries of top relations, of their order, and of their names.
use Rattle.std.specs.Prelude.{◌≡◌, ◌≤◌, ℕ, true, false, List, [], ◌∷◌, None, Some}
use Rattle.std.proofs.Common.{refl, sym, ◌∙◌, arith, true≢false}
use Rattle.object_tables.specs.Models.{ModelData}
use Rattle.qv_syntax.specs.declared.program.Program.{Program}
use Rattle.qv_syntax.specs.declared.program.Dom.{Dom}
use Rattle.qv_syntax.specs.declared.program.Marker.TheVariants.{Enforce}
use Rattle.qvtr_semantics.specs.SmallModels.{program, package_to_schema, class_to_table}
use Rattle.repair_semantics.specs.declared.term.Term as terms
use Rattle.repair_semantics.specs.declared.entry.Entry.{Entry}
use Rattle.term_table.specs.declared.numbered.NumberedValue.TheVariants.{Term}
use Rattle.entry_bindings.specs.declared.matching.Match.{Match}
use Rattle.entry_finding.specs.declared.numbered_entry.NumberedEntry.{NumberedEntry}
use Rattle.entry_finding.specs.Found.{entries_in, is_entry_unmet}
use Rattle.entry_tops.specs.declared.tops.Tops.{Tops}
use Rattle.entry_tops.specs.Tops.{IsTopBy, AreTopsFound}
use Rattle.entry_tops.specs.TopOrder.{AreTopsInOrder}
use Rattle.entry_tops.specs.EntryNames.{value_by_number, match_of}

-- an entry that is unmet is passed over
pub unmet_entry_is_passed_over : (p : Program) (models : List ModelData) (table : List terms.Term) (tops : Tops) (e : Entry) → IsTopBy p models (entries_in table tops.entries) e
    → is_entry_unmet p models e ≡ true → AreTopsFound p models table tops → ⊥
unmet_entry_is_passed_over p models table tops e top unmet found = true≢false (sym unmet ∙ found.met e (found.all e top))

-- ---- ClassToTable before PackageToSchema, which its when clause calls

abbrev callers_first : Program
callers_first = record program { rels = class_to_table ∷ package_to_schema ∷ [] }

-- relations stand as the text has them
pub relations_as_they_stand : AreTopsInOrder callers_first (0 ∷ 1 ∷ []) → ⊥
relations_as_they_stand order = let least : 1 ≤ 0 = order.ordered 0 1 0 (omega arith) (omega arith) class_to_table package_to_schema refl refl in omega (arith, least)

-- ---- an entry that makes the term 4, which is the root of its domain

abbrev makes_root : NumberedEntry
makes_root = record { rel = 1; called = false; values = None ∷ []; made = Some (Term 4) ∷ []; demands = [] }

abbrev domain : Dom
domain = record { model = Some 1; marker = Enforce; root = 0; template = None }

pub root_is_made : match_of (domain ∷ []) makes_root ≡ Some (record { rel = 1; roots = Term 4 ∷ [] })
root_is_made = refl

-- what is made is no root
pub made_is_no_root : match_of (domain ∷ []) makes_root ≡ None → ⊥
made_is_no_root e = cc

-- what is made is no value of a variable
pub made_is_no_value : value_by_number makes_root 0 ≡ None → ⊥
made_is_no_value e = cc

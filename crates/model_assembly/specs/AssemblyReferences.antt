-- What a file must keep to be put into a model, and what is told of its references (XMI 2.5.1, 7.10; UML 2.5.1, 9.5.3 and 11.5).
use Rattle.std.specs.Prelude.{◌≡◌, ℕ, ◌<◌, false, List, [], length, map, slice_get, All, Option, None, Some}
use Rattle.std.specs.Option.{unwrap_or}
use Rattle.mof_metamodel.specs.declared.desc.MetaDesc.{MetaDesc}
use Rattle.model_assembly.specs.declared.fault.ModelFault.{ModelFault}
use Rattle.model_assembly.specs.declared.fault.ModelFault.TheVariants as faults
use Rattle.model_assembly.specs.declared.filed.Filed.{Filed}
use Rattle.model_assembly.specs.declared.filed.WrittenReference.{WrittenReference}
use Rattle.model_assembly.specs.declared.assembly.entry.Entry.{Entry}
use Rattle.model_assembly.specs.declared.assembly.naming.Naming.{Naming}
use Rattle.model_assembly.specs.declared.assembly.check.AssemblyError.{AssemblyError}
use Rattle.model_assembly.specs.declared.assembly.check.AssemblyError.TheVariants as errors
use Rattle.model_assembly.specs.AssemblyEntries.{IsReferenceAt, entries_from, entry_at, IsInOrder, written_text}
use Rattle.model_assembly.specs.AssemblyFirsts.{is_dangling, is_unanswered}
use Rattle.model_assembly.specs.AssemblyNamings.{naming_of, sayings_of, at, IsSecondWhole}
use Rattle.model_assembly.specs.AssemblyObjects.{AreObjects}
use Rattle.model_assembly.specs.Faults.{StandsAt}
use Rattle.model_assembly.specs.Filed.{IsFiled}
use Rattle.model_assembly.specs.FirstFault.{IsFirstFault}
use Rattle.model_assembly.specs.Profile.{prop_name}
use Rattle.model_assembly.specs.Source.{Source}

-- the objects may be those of a model, and what is written at references stands at references of their classes
pub record MayBeAssembled (meta : MetaDesc) (f : Filed) : Type 0 where
  pub objects : AreObjects meta f.classes f.ids
  pub references : All (λ (r : WrittenReference). IsReferenceAt meta f.classes r.object r.property.0) f.references

-- a source that writes this, and in which no fault stands at a place
pub record IsSourceOf (s : Source) (desc : MetaDesc) (f : Filed) : Type 0 where
  pub meta : s.meta ≡ desc
  pub filed : IsFiled s f
  pub none_at : (fault : ModelFault) (place : ℕ) → ¬ StandsAt s fault place

-- the fault is the first one of each such source
abbrev pub IsTold : MetaDesc → Filed → ModelFault → Type 0
IsTold meta f fault = (s : Source) → IsSourceOf s meta f → IsFirstFault s fault

-- the entries of the file in order
abbrev pub AreSorted : MetaDesc → Filed → List Entry → Type 0
AreSorted meta f es = IsInOrder (entries_from meta f.classes 0 f.references) es

-- no entry dangles
abbrev pub NoneDangles : MetaDesc → Filed → List Entry → Type 0
NoneDangles meta f es = (j : ℕ) → j < length es → is_dangling meta f.classes (entry_at es j) ≡ false

-- the namings of sorted entries of which none dangles
pub record AreNamed (meta : MetaDesc) (f : Filed) (xs : List Naming) : Type 0 where
  pub entries : List Entry
  pub order : AreSorted meta f entries
  pub fit : NoneDangles meta f entries
  pub namings : xs ≡ map naming_of entries

-- no naming makes an object a part a second time, and none is unanswered
pub record AreAnswered (meta : MetaDesc) (f : Filed) (xs : List Naming) : Type 0 where
  pub named : AreNamed meta f xs
  pub single : (j : ℕ) → j < length xs → ¬ IsSecondWhole meta xs j
  pub answered : (j : ℕ) → j < length xs → is_unanswered meta xs (sayings_of xs f.mentions) (at xs j) ≡ false

-- the fault that is found, or nothing where none is
abbrev pub IsFoundOr : Type 0 → MetaDesc → Filed → Option ModelFault → Type 0
IsFoundOr P meta f None = P
IsFoundOr P meta f (Some fault) = IsTold meta f fault

abbrev pub IsRefusal : MetaDesc → Filed → AssemblyError → Type 0
IsRefusal meta f (errors.Content fault) = IsTold meta f fault
IsRefusal meta f errors.NoMemory = Unit {0}

-- the error is of a fault
abbrev pub IsContentOf : Option ModelFault → AssemblyError → Type 0
IsContentOf fault e = (f : ModelFault) × (fault ≡ Some f) × (e ≡ errors.Content f)

-- Texts of faults

abbrev pub listed_id : List (List ℕ) → ℕ → List ℕ
listed_id ids o = unwrap_or (slice_get ids o) []

abbrev pub dangling_of : MetaDesc → Filed → Entry → ModelFault
dangling_of meta f e = faults.Dangling (listed_id f.ids e.object) (prop_name meta e.property.0) (written_text f.references e.written)

abbrev pub mismatch_of : MetaDesc → Filed → Naming → ℕ → ModelFault
mismatch_of meta f n q = faults.Mismatch (listed_id f.ids n.object) (prop_name meta n.property) (listed_id f.ids n.target) (prop_name meta q)

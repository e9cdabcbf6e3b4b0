-- The elements and objects of a file of which no object, by itself, has a fault.
use Rattle.std.specs.Prelude.{◌≡◌, ℕ, ◌≤◌, nat_lt, List, length, map, position, Option, None, Some, Result, Ok, Err, if◌then◌else◌, All}
use Rattle.mof_metamodel.specs.declared.desc.MetaDesc.{MetaDesc}
use Rattle.object_tables.specs.declared.limit.TheConstants.{MAX_OBJECTS}
use Rattle.mof_metamodel.specs.Characters.{same_name}
use Rattle.mof_metamodel.specs.NameTables.{value_of}
use Rattle.object_tables.specs.declared.limit.LimitKind.TheVariants as limits
use Rattle.xmi_text.specs.Faults as markup
use Rattle.xmi_text.specs.Markup.{Markup}
use Rattle.xmi_text.specs.Trees.{Tree}
use Rattle.xmi_profile.specs.declared.element.Element.{Element}
use Rattle.model_assembly.specs.declared.fault.Externs.{Externs}
use Rattle.model_assembly.specs.declared.fault.ModelFault.{ModelFault}
use Rattle.model_assembly.specs.declared.fault.ModelFault.TheVariants as faults
use Rattle.xmi_profile.specs.declared.fault.XmiError.{XmiError}
use Rattle.xmi_profile.specs.declared.fault.XmiError.TheVariants as errors
use Rattle.xmi_profile.specs.declared.objects.Objects.{Objects}
use Rattle.model_assembly.specs.declared.filed.Filed.{Filed}
use Rattle.model_assembly.specs.Faults.{StandsAt}
use Rattle.model_assembly.specs.Filed.{IsFiled}
use Rattle.xmi_profile.specs.Judging.{Found, first_of, first_fault}
use Rattle.xmi_profile.specs.Listing.{Listing, element_of}
use Rattle.xmi_profile.specs.Numbering.{Numbers, no_numbers, numbered, all_numbered}
use Rattle.xmi_profile.specs.Reads.{source_of, IsRefused}
use Rattle.xmi_profile.specs.Scanning.{IsWithin}
use Rattle.model_assembly.specs.SoundFiled.{IsSoundFiled}
use Rattle.model_assembly.specs.Source.{all_items, all_ids, object_count}

abbrev pub fault_in : Option Found → Option ModelFault
fault_in None = None
fault_in (Some found) = Some found.fault

-- too many objects, or else what was found
abbrev pub told : Numbers → Option Found → Option ModelFault
told n found = if nat_lt MAX_OBJECTS (length n.ids) then Some (faults.Limit limits.Objects) else fault_in found

-- the first fault of elements by themselves
abbrev pub fault_of : MetaDesc → List Element → Option ModelFault
fault_of meta es = told (all_numbered meta es) (first_of (all_numbered meta es).repeated (first_fault meta (numbered no_numbers es).ids None es))

-- the objects, unless there is a fault
abbrev pub unless_fault : Numbers → Option ModelFault → Result Numbers XmiError
unless_fault numbers None = Ok numbers
unless_fault numbers (Some fault) = Err (errors.Content fault)

abbrev pub judged : MetaDesc → List Element → Result Numbers XmiError
judged meta es = unless_fault (record (all_numbered meta es) { repeated = None }) (fault_of meta es)

-- with their elements
abbrev pub with_listing : Listing → Result Numbers XmiError → Result Objects XmiError
with_listing listing (Ok numbers) = Ok (record { listing = listing; numbers = numbers })
with_listing listing (Err error) = Err error

-- the answer is this, unless memory ran out
abbrev pub Answers : {X : Type 0} → Result X XmiError → Result X XmiError → Type 0
Answers (Err errors.NoMemory) meaning = Unit {0}
Answers (Err (errors.Text fault)) meaning = Err (errors.Text fault) ≡ meaning
Answers (Err (errors.Content fault)) meaning = Err (errors.Content fault) ≡ meaning
Answers (Ok x) meaning = Ok x ≡ meaning

-- the bytes are a document of these elements and objects, in which no fault stands at a place
pub record AreObjects (meta : MetaDesc) (outside : Externs) (bytes : List ℕ) (objects : Objects) : Type 0 where
  pub tree : Tree
  pub markup : Markup bytes tree
  pub elements : objects.listing.elements ≡ map element_of (all_items (source_of meta outside tree))
  pub ids : objects.numbers.ids ≡ all_ids (source_of meta outside tree)
  pub names : (id : List ℕ) → value_of objects.numbers.names id ≡ position (same_name id) (all_ids (source_of meta outside tree))
  pub fewer : object_count (source_of meta outside tree) ≤ MAX_OBJECTS
  pub within : All (λ (e : Element). IsWithin meta e.role) objects.listing.elements
  pub none_at : (fault : ModelFault) (place : ℕ) → ¬ StandsAt (source_of meta outside tree) fault place

-- the answer on these bytes, as far as the faults that stand at places
abbrev pub ReadsObjects : MetaDesc → Externs → List ℕ → Result Objects XmiError → Type 0
ReadsObjects meta outside bytes (Ok objects) = AreObjects meta outside bytes objects
ReadsObjects meta outside bytes (Err (errors.Text fault)) = markup.IsFirstFault bytes fault
ReadsObjects meta outside bytes (Err (errors.Content fault)) = IsRefused meta outside bytes fault
ReadsObjects meta outside bytes (Err errors.NoMemory) = Unit {0}

-- the same of what they write
pub record AreFiled (meta : MetaDesc) (outside : Externs) (bytes : List ℕ) (lists : Filed) : Type 0 where
  pub tree : Tree
  pub markup : Markup bytes tree
  pub filed : IsFiled (source_of meta outside tree) lists
  pub sound : IsSoundFiled meta lists
  pub fewer : object_count (source_of meta outside tree) ≤ MAX_OBJECTS
  pub none_at : (fault : ModelFault) (place : ℕ) → ¬ StandsAt (source_of meta outside tree) fault place

abbrev pub ReadsFiled : MetaDesc → Externs → List ℕ → Result Filed XmiError → Type 0
ReadsFiled meta outside bytes (Ok filed) = AreFiled meta outside bytes filed
ReadsFiled meta outside bytes (Err (errors.Text fault)) = markup.IsFirstFault bytes fault
ReadsFiled meta outside bytes (Err (errors.Content fault)) = IsRefused meta outside bytes fault
ReadsFiled meta outside bytes (Err errors.NoMemory) = Unit {0}

-- What is printed of a fault of a file: one line with the path of the file. An identifier, a name or a reference that is empty leaves its
-- space.
use Rattle.std.specs.Prelude.{◌<◌, ℕ, Bool, true, false, List, [], ◌∷◌, codes, Option, None, Some, if◌then◌else◌}
use Rattle.std.specs.Fmt.{decimal}
use Rattle.fault_lines.specs.Lines.{Words, line, refused, limit, starved, shown}
use Rattle.mof_metamodel.specs.declared.desc.MetaDesc.{MetaDesc}
use Rattle.mof_metamodel.specs.declared.desc.PropId.{PropId}
use Rattle.mof_metamodel.specs.declared.fault.MetaKind.{MetaKind}
use Rattle.mof_metamodel.specs.declared.fault.MetaKind.TheVariants as meta_kinds
use Rattle.mof_metamodel.specs.MetaFaults as meta_faults
use Rattle.mof_metamodel.specs.Metamodels.{prop_count}
use Rattle.object_tables.specs.declared.breach.Breach.{Breach}
use Rattle.object_tables.specs.declared.limit.LimitKind.{LimitKind}
use Rattle.object_tables.specs.declared.limit.LimitKind.TheVariants as limits
use Rattle.object_tables.specs.Words.{breach_word}
use Rattle.xmi_text.specs.declared.error.TextKind.{TextKind}
use Rattle.xmi_text.specs.declared.error.TextKind.TheVariants as text_kinds
use Rattle.xmi_text.specs.Words.{kind_word}
use Rattle.model_assembly.specs.declared.fault.ModelFault.{ModelFault}
use Rattle.model_assembly.specs.declared.fault.ModelFault.TheVariants as faults
use Rattle.model_assembly.specs.Profile.{prop_name}
use Rattle.model_files.specs.declared.fault.FileError.{FileError}
use Rattle.model_files.specs.declared.fault.FileError.TheVariants as errors
use Rattle.model_files.specs.declared.fault.JsonFault.{JsonFault}
use Rattle.model_files.specs.declared.fault.JsonFault.TheVariants as json_faults

-- Limits are told apart from what is refused

abbrev pub is_text_limit : TextKind → Bool
is_text_limit text_kinds.Limit = true
is_text_limit kind = false

abbrev pub is_model_limit : ModelFault → Bool
is_model_limit (faults.Limit kind) = true
is_model_limit fault = false

abbrev pub is_json_limit : JsonFault → Bool
is_json_limit (json_faults.Content fault) = is_model_limit fault
is_json_limit fault = false

abbrev pub is_meta_limit : MetaKind → Bool
is_meta_limit meta_kinds.Limit = true
is_meta_limit kind = false

-- a limit is passed in the file
abbrev pub is_limit : FileError → Bool
is_limit (errors.Text fault) = is_text_limit fault.kind
is_limit (errors.Json fault) = is_json_limit fault
is_limit (errors.Content fault) = is_model_limit fault
is_limit (errors.Meta fault) = is_meta_limit fault.kind
is_limit (errors.NoPackage n) = false
is_limit errors.NoMemory = false

-- Words

abbrev pub text_words : List ℕ → TextKind → List ℕ → Words
text_words path kind place =
    if is_text_limit kind then limit (codes "nesting") path (place ∷ []) else refused path (kind_word kind) (place ∷ [])

-- outside of a property the identifier alone
abbrev pub wrong_value_words : List ℕ → List ℕ → Option (List ℕ) → Words
wrong_value_words path id None = refused path (codes "WrongValue") (shown id ∷ [])
wrong_value_words path id (Some prop) = refused path (codes "WrongValue") (shown id ∷ shown prop ∷ [])

-- the name of a property
abbrev pub shown_name : MetaDesc → PropId → List ℕ
shown_name meta p = shown (prop_name meta p.0)

-- a cycle of containers has no property
abbrev pub breach_details : MetaDesc → List ℕ → Option PropId → Words
breach_details meta id None = shown id ∷ []
breach_details meta id (Some p) = shown id ∷ shown_name meta p ∷ []

abbrev pub breach_words : MetaDesc → List ℕ → Breach → List ℕ → Words
breach_words meta path breach id = refused path (codes "Invalid") (breach_word breach.kind ∷ breach_details meta id breach.prop)

abbrev pub limit_words : List ℕ → LimitKind → Words
limit_words path limits.Objects = limit (codes "objects") path []
limit_words path limits.Depth = limit (codes "depth") path []

abbrev pub content_words : MetaDesc → List ℕ → ModelFault → Words
content_words meta path (faults.UnknownClass name) = refused path (codes "UnknownClass") (shown name ∷ [])
content_words meta path (faults.UnknownProperty id prop) = refused path (codes "UnknownProperty") (shown id ∷ shown prop ∷ [])
content_words meta path (faults.WrongValue id prop) = wrong_value_words path id prop
content_words meta path (faults.DuplicateId id) = refused path (codes "DuplicateId") (shown id ∷ [])
content_words meta path (faults.Dangling id prop reference) = refused path (codes "Dangling") (shown id ∷ shown prop ∷ shown reference ∷ [])
content_words meta path (faults.TwoContainers id) = refused path (codes "TwoContainers") (shown id ∷ [])
content_words meta path (faults.Mismatch id prop other other_prop) =
    refused path (codes "Mismatch") (shown id ∷ shown prop ∷ shown other ∷ shown other_prop ∷ [])
content_words meta path (faults.Invalid breach id) = breach_words meta path breach id
content_words meta path (faults.Limit kind) = limit_words path kind

abbrev pub json_words : MetaDesc → List ℕ → JsonFault → Words
json_words meta path json_faults.Syntax = refused path (codes "Syntax") []
json_words meta path (json_faults.Shape place) = refused path (codes "Shape") (shown place ∷ [])
json_words meta path (json_faults.Content fault) = content_words meta path fault

abbrev pub meta_words : List ℕ → MetaKind → List ℕ → Words
meta_words path kind name =
    if is_meta_limit kind then limit (codes "metamodel") path [] else refused path (meta_faults.kind_word kind) (shown name ∷ [])

abbrev pub package_words : List ℕ → List ℕ → Words
package_words path number = refused path (codes "NoPackage") (number ∷ [])

-- the words of a fault of the file at the path, which was read by the metamodel
abbrev pub error_words : MetaDesc → List ℕ → FileError → Words
error_words meta path (errors.Text fault) = text_words path fault.kind (decimal fault.at)
error_words meta path (errors.Json fault) = json_words meta path fault
error_words meta path (errors.Content fault) = content_words meta path fault
error_words meta path (errors.Meta fault) = meta_words path fault.kind fault.name
error_words meta path (errors.NoPackage n) = package_words path (decimal n)
error_words meta path errors.NoMemory = starved

abbrev pub error_text : MetaDesc → List ℕ → FileError → List ℕ
error_text meta path e = line (error_words meta path e)

-- Which faults can be printed by a metamodel: where a bound is broken, the property is one of it

abbrev pub IsKnownProp : MetaDesc → Option PropId → Type 0
IsKnownProp meta None = Unit {0}
IsKnownProp meta (Some p) = p.0 < prop_count meta

abbrev pub IsKnownFault : MetaDesc → ModelFault → Type 0
IsKnownFault meta (faults.Invalid breach id) = IsKnownProp meta breach.prop
IsKnownFault meta fault = Unit {0}

abbrev pub IsKnownJsonFault : MetaDesc → JsonFault → Type 0
IsKnownJsonFault meta (json_faults.Content fault) = IsKnownFault meta fault
IsKnownJsonFault meta fault = Unit {0}

abbrev pub IsKnownError : MetaDesc → FileError → Type 0
IsKnownError meta (errors.Json fault) = IsKnownJsonFault meta fault
IsKnownError meta (errors.Content fault) = IsKnownFault meta fault
IsKnownError meta e = Unit {0}

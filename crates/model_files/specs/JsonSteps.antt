-- The faults of a model as JSON that are told by their place, as they are looked for.
use Rattle.std.specs.Prelude.{ℕ, Bool, false, List, map, chars, Option}
use Rattle.std.specs.Option.{option_or}
use Rattle.serde_json.specs.Data.{Data, string}
use Rattle.mof_metamodel.specs.declared.desc.MetaDesc.{MetaDesc}
use Rattle.mof_metamodel.specs.NameTables.{NamesWith}
use Rattle.model_assembly.specs.declared.fault.ModelFault.{ModelFault}
use Rattle.model_assembly.specs.Elements.{concrete_class}
use Rattle.model_assembly.specs.Source.{proper}
use Rattle.model_files.specs.declared.json_faults.Speaker.{Speaker}
use Rattle.model_files.specs.JsonContent.{written_of, wrong_id, wrong_slots, wrong_object}

-- the identifier that is printed of an object
abbrev pub printed : Speaker → List ℕ
printed speaker = proper (chars speaker.id.now) speaker.number

-- whether a value is a text that passes a test
abbrev pub is_text_with : (List ℕ → Bool) → Data → Bool
is_text_with test (string s) = test (chars s)
is_text_with test d = false

-- identifiers that were met
abbrev pub met_ids : {X : Type 0} → NamesWith X → List (List ℕ)
met_ids ids = map (λ e. e.0) ids

-- what is wrong first with an object of the list: of this class, or of the one that it names
abbrev pub wrong_in_class : MetaDesc → ℕ → List (List ℕ) → Speaker → Data → Option ModelFault
wrong_in_class meta c earlier speaker d =
    option_or (wrong_id earlier speaker.number (chars speaker.id.now)) (wrong_slots meta (printed speaker) c (written_of d).slots)

abbrev pub wrong_data : MetaDesc → List (List ℕ) → ℕ → Data → Option ModelFault
wrong_data meta earlier number d = wrong_object meta earlier number (written_of d) (concrete_class meta (written_of d).class)

-- Wrong answers that the definitions exclude, each on a small case: what the definition gives, and that it isn't what the wrong
-- code would answer. A contract says that the code's result is what the definition gives, so it refuses that code.
use Rattle.std.specs.Prelude.{◌≡◌, ℕ, true, [], ◌∷◌, codes}
use Rattle.std.proofs.Common.{refl}
use Rattle.object_tables.specs.declared.value.Value.TheVariants as values
use Rattle.xmi_text.specs.Calls.{Line, Open, Data, Close}
use Rattle.model_assembly.specs.declared.fault.ModelFault.TheVariants as faults
use Rattle.xmi_profile.specs.declared.judging.Found.{Found}
use Rattle.xmi_profile.specs.Judging.{is_first}
use Rattle.xmi_profile.specs.Writable.{text_value}
use Rattle.model_assembly.proofs.Small.{cls}

-- ---- the element of an empty text

pub an_empty_element : text_value cls 2 (codes "tags") (values.Str []) ≡ Line 2 ∷ Open (codes "tags") ∷ Data [] ∷ Close ∷ []
an_empty_element = refl

-- a value that is an empty text as no element
pub drops_an_empty_text : text_value cls 2 (codes "tags") (values.Str []) ≡ Line 2 ∷ [] → ⊥
drops_an_empty_text e = cc

-- ---- two faults

abbrev fault_at : ℕ → Found
fault_at place = record { place = place; fault = faults.UnknownClass [] }

pub the_earlier_fault : is_first (fault_at 1) (fault_at 2) ≡ true
the_earlier_fault = refl

-- the fault that stands later in the file
pub tells_a_later_fault : is_first (fault_at 2) (fault_at 1) ≡ true → ⊥
tells_a_later_fault e = cc

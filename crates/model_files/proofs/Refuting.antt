-- Wrong answers that the definitions exclude, each on a small case: what the definition gives, and that it isn't what the wrong
-- code would answer. A contract says that the code's result is what the definition gives, so it refuses that code.
use Rattle.std.specs.Prelude.{◌≡◌, ℕ, true, nat_lt, List, [], ◌∷◌, codes, length, if◌then◌else◌, Option, None, Some}
use Rattle.std.proofs.Common.{refl, ap, sym, subst, arith}
use Rattle.serde_json.specs.Data.{Data}
use Rattle.mof_metamodel.specs.declared.desc.MetaDesc.{MetaDesc}
use Rattle.object_tables.specs.declared.limit.TheConstants.{MAX_OBJECTS}
use Rattle.object_tables.specs.declared.limit.LimitKind.TheVariants as limits
use Rattle.object_tables.specs.declared.value.Value.TheVariants as values
use Rattle.object_tables.specs.Objects.{Slot}
use Rattle.object_tables.specs.Models.{ModelData}
use Rattle.model_assembly.specs.declared.fault.ModelFault.{ModelFault}
use Rattle.model_assembly.specs.declared.fault.ModelFault.TheVariants as content
use Rattle.model_assembly.specs.declared.form.Form.TheVariants.{Nesting}
use Rattle.model_files.specs.Bounds.{lower_of}
use Rattle.model_files.specs.CanonJson.{data_by}
use Rattle.model_files.specs.Described.{is_owned}
use Rattle.model_files.specs.Emof.{emof}
use Rattle.model_files.specs.JsonContent.{Written, first_wrong}
use Rattle.model_files.specs.JsonFaults.{first_fault}
use Rattle.model_files.specs.JsonText.{without_mark}

-- ---- bytes with a byte order mark

pub mark_is_passed : without_mark (0xEF ∷ 0xBB ∷ 0xBF ∷ 123 ∷ []) ≡ 123 ∷ []
mark_is_passed = refl

-- the bytes with their mark
pub byte_order_mark_kept : without_mark (0xEF ∷ 0xBB ∷ 0xBF ∷ 123 ∷ []) ≡ 0xEF ∷ 0xBB ∷ 0xBF ∷ 123 ∷ [] → ⊥
byte_order_mark_kept e = let apart : 1 ≡ 4 = ap length e in absurd (omega (arith, apart))

-- ---- two packages, of which the second owns a class

abbrev nothing : Slot
nothing = record { values = []; partners = [] }

abbrev text : List ℕ → Slot
text t = record { values = values.Str t ∷ []; partners = [] }

abbrev to : ℕ → Slot
to o = record { values = []; partners = o ∷ [] }

abbrev packages : ModelData
packages = record {
  meta = emof;
  objects =
      Some (record { class = 2; id = codes "k"; slots = text (codes "K") ∷ nothing ∷ nothing ∷ [] })
      ∷ Some (record { class = 2; id = codes "l"; slots = text (codes "L") ∷ nothing ∷ to 2 ∷ [] })
      ∷ Some (record { class = 3; id = codes "a"; slots = text (codes "A") ∷ to 1 ∷ nothing ∷ nothing ∷ nothing ∷ [] })
      ∷ [];
}

pub owned_by_the_second : is_owned packages 1 2 ≡ true
owned_by_the_second = refl

-- a class of another package as one of the first
pub classifier_of_another_package : is_owned packages 0 2 ≡ true → ⊥
classifier_of_another_package e = cc

-- ---- a lower bound that isn't written

abbrev number_in : Option ℕ → ℕ
number_in None = 0
number_in (Some n) = n

pub missing_lower_is_one : lower_of [] ≡ Some 1
missing_lower_is_one = refl

-- 0, where no lower bound is written
pub missing_lower_is_zero : lower_of [] ≡ Some 0 → ⊥
missing_lower_is_zero e = let apart : 1 ≡ 0 = ap number_in e in absurd (omega (arith, apart))

-- ---- as many objects as there may be

pub objects_up_to_the_limit : (meta : MetaDesc) (objects : List Written) → length objects ≡ MAX_OBJECTS → first_fault meta objects ≡ first_wrong meta objects
objects_up_to_the_limit meta objects full = subst (λ n. (if nat_lt MAX_OBJECTS n then Some (content.Limit limits.Objects) else first_wrong meta objects) ≡ first_wrong meta objects) (sym full) refl

-- the fault of too many objects, where there are as many as there may be
pub limit_one_too_early : (meta : MetaDesc) (objects : List Written) → length objects ≡ MAX_OBJECTS → first_wrong meta objects ≡ None
    → first_fault meta objects ≡ Some (content.Limit limits.Objects) → ⊥
limit_one_too_early meta objects full right e =
    let apart : None ≡ Some (content.Limit limits.Objects) =
    subst (λ (f : Option ModelFault). f ≡ Some (content.Limit limits.Objects)) right
    (subst (λ (f : Option ModelFault). f ≡ Some (content.Limit limits.Objects)) (objects_up_to_the_limit meta objects full) e) in cc

-- ---- the end that leads to a container

pub container_end_is_left_out : (m : ModelData) (o p : ℕ) → data_by m o p Nesting ≡ []
container_end_is_left_out m o p = refl

-- a slot of the container, which the nesting of elements says
pub container_end_is_written : (m : ModelData) (o p : ℕ) (d : Data) (ds : List Data) → data_by m o p Nesting ≡ d ∷ ds → ⊥
container_end_is_written m o p d ds e = cc

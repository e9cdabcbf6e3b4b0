-- What variables of code can hold: integers of 64 bits, and texts of characters (Unicode scalar values); and the models of code that
-- are written.
use Rattle.std.specs.Prelude.{◌≡◌, ◌≤◌, ℕ, true, List, Contains, Some, FitsSigned}
use Rattle.std.specs.Int.{w64}
use Rattle.std.specs.Str.{all_scalars}
use Rattle.mof_metamodel.specs.declared.desc.MetaDesc.{MetaDesc}
use Rattle.object_tables.specs.declared.limit.TheConstants.{MAX_DEPTH, MAX_OBJECTS}
use Rattle.mof_metamodel.specs.Metamodels.{class_at, prop_at, literal_at}
use Rattle.object_tables.specs.declared.value.Value.{Value}
use Rattle.object_tables.specs.declared.value.Value.TheVariants as values
use Rattle.object_tables.specs.Containment.{IsDepth}
use Rattle.object_tables.specs.Models.{ModelData, id_at, values_at, live_count, IsLive}
use Rattle.object_tables.specs.Validity.{Valid}

abbrev pub IsHeldText : List ℕ → Type 0
IsHeldText text = all_scalars text ≡ true

abbrev pub IsHeld : Value → Type 0
IsHeld (values.Str text) = IsHeldText text
IsHeld (values.Int i) = FitsSigned w64 i
IsHeld (values.Bool b) = Unit {0}
IsHeld (values.Lit e n) = Unit {0}

-- the names of a metamodel
pub record HasHeldNames (meta : MetaDesc) : Type 0 where
  pub metamodel : IsHeldText meta.name
  pub classes : (c : ℕ) → IsHeldText (class_at meta c).name
  pub props : (p : ℕ) → IsHeldText (prop_at meta p).name
  pub literals : (e n : ℕ) → IsHeldText (literal_at meta e n)

-- the names, identifiers and values of a model
pub record IsHeldModel (m : ModelData) : Type 0 where
  pub names : HasHeldNames m.meta
  pub ids : (o : ℕ) (id : List ℕ) → id_at m o ≡ Some id → IsHeldText id
  pub values : (o p : ℕ) (v : Value) → Contains (values_at m o p) v → IsHeld v

-- a model that is written: valid, within the limits on objects and on depth, and one that code can hold
pub record MayBeWritten (m : ModelData) : Type 0 where
  pub valid : Valid m
  pub objects : live_count m ≤ MAX_OBJECTS
  pub depth : (o d : ℕ) → IsLive m o → IsDepth m o d → d ≤ MAX_DEPTH
  pub held : IsHeldModel m

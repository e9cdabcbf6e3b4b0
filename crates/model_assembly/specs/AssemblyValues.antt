-- The values of a file, put into a model (XMI 2.5.1, 7.6; MOF 2.5.1, 12.4: the values of a property are a set, here in the order in
-- which they are written).
use Rattle.std.specs.Prelude.{◌≡◌, ℕ, zero, suc, ◌<◌, Bool, true, not, List, [], ◌∷◌, length, drop, slice_index_or, All, IsPermutation, false, if◌then◌else◌}
use Rattle.object_tables.specs.declared.value.Value.{Value}
use Rattle.object_tables.specs.declared.value.Value.TheVariants as values
use Rattle.mof_metamodel.specs.Metamodels.{type_of}
use Rattle.object_tables.specs.Kept.{Kept}
use Rattle.object_tables.specs.Models.{ModelData, class_at, id_at, values_at, partners_at, is_value_of, IsAttributeOf, IsSlotOf, with_values}
use Rattle.model_assembly.specs.declared.filed.WrittenValue.{WrittenValue}
use Rattle.model_assembly.specs.Filed.{filed_values}
use Rattle.model_assembly.specs.Source.{is_at}
use Rattle.model_assembly.specs.Values.{without_repeats}

-- the values at an attribute with which a list begins
abbrev pub run : ℕ → ℕ → List WrittenValue → List Value
run o p [] = []
run o p (v ∷ vs) = if is_at o p v.object v.property.0 then v.value ∷ run o p vs else []

abbrev pub no_written : WrittenValue
no_written = record { object = 0; property = record { 0 = 0 }; value = values.Bool true }

abbrev pub written_at : List WrittenValue → ℕ → WrittenValue
written_at vs i = slice_index_or vs i no_written

-- the values that stand together at a place of a list, each once
abbrev pub slot_at : List WrittenValue → ℕ → List Value
slot_at vs i = without_repeats (run (written_at vs i).object (written_at vs i).property.0 (drop i vs))

-- the value at a place is the first of those at its attribute
abbrev pub is_next : WrittenValue → WrittenValue → Bool
is_next v w = is_at v.object v.property.0 w.object w.property.0

abbrev pub is_begin : List WrittenValue → ℕ → Bool
is_begin vs zero = true
is_begin vs (suc i) = not (is_next (written_at vs i) (written_at vs (suc i)))

-- a model with the values at the first places of a list, where values of one attribute stand together
abbrev pub valued_at : ModelData → List WrittenValue → ℕ → ModelData
valued_at m vs i = if is_begin vs i then with_values m (written_at vs i).object (written_at vs i).property.0 (slot_at vs i) else m

abbrev pub valued : ModelData → List WrittenValue → ℕ → ModelData
valued m vs zero = m
valued m vs (suc i) = valued_at (valued m vs i) vs i

-- the values that stand together may stand at their attribute
pub record MayStand (m : ModelData) (vs : List WrittenValue) (i : ℕ) : Type 0 where
  pub attribute : IsAttributeOf m (written_at vs i).object (written_at vs i).property.0
  pub slot : IsSlotOf m.meta (written_at vs i).property.0 (slot_at vs i)

-- the values of a list in an order in which those of one attribute stand together, as they are written
pub record IsSortedValues (xs ys : List WrittenValue) : Type 0 where
  pub same : IsPermutation xs ys
  pub kept : (o p : ℕ) → filed_values ys o p ≡ filed_values xs o p
  pub together : (i j k : ℕ) → i < j → j < k → k < length ys → is_next (written_at ys i) (written_at ys k) ≡ true → is_next (written_at ys i) (written_at ys j) ≡ true

-- values of the types of their attributes, at attributes of objects of the model
pub record AreValuesOf (m : ModelData) (vs : List WrittenValue) : Type 0 where
  pub attributes : All (λ (v : WrittenValue). IsAttributeOf m v.object v.property.0) vs
  pub typed : All (λ (v : WrittenValue). is_value_of m.meta (type_of m.meta v.property.0) v.value ≡ true) vs

-- the model n is the model m with the first values of a list, each once
pub record IsValuedTo (m : ModelData) (vs : List WrittenValue) (i : ℕ) (n : ModelData) : Type 0 where
  pub meta : n.meta ≡ m.meta
  pub count : length n.objects ≡ length m.objects
  pub classes : (o : ℕ) → class_at n o ≡ class_at m o
  pub ids : (o : ℕ) → id_at n o ≡ id_at m o
  pub partners : (o p : ℕ) → partners_at n o p ≡ partners_at m o p
  pub kept : Kept n
  pub set : (j : ℕ) → j < i → values_at n (written_at vs j).object (written_at vs j).property.0 ≡ without_repeats (filed_values vs (written_at vs j).object (written_at vs j).property.0)
  pub unset : (o p : ℕ) → ((j : ℕ) → j < i → is_at o p (written_at vs j).object (written_at vs j).property.0 ≡ false) → values_at n o p ≡ values_at m o p

-- the model n is the model m with all of the values of a list, each once, at attributes where it had none
pub record HasValues (m : ModelData) (vs : List WrittenValue) (n : ModelData) : Type 0 where
  pub meta : n.meta ≡ m.meta
  pub count : length n.objects ≡ length m.objects
  pub classes : (o : ℕ) → class_at n o ≡ class_at m o
  pub ids : (o : ℕ) → id_at n o ≡ id_at m o
  pub partners : (o p : ℕ) → partners_at n o p ≡ partners_at m o p
  pub values : (o p : ℕ) → values_at m o p ≡ [] → values_at n o p ≡ without_repeats (filed_values vs o p)

-- What holds of each object of which the example's demands speak: its class, what its properties are, and its name, which is a value of its key.
use Rattle.std.proofs.Common.{◌≡◌, ◌/◌, ◌≤◌, ℕ, suc, true, false, List, [], ◌∷◌, None, Some, refl, sym, ap, ◌∙◌, subst, arith, inl, inr, true≢false}
use Rattle.std.specs.Prelude.{Contains, ◌⊎◌}
use Rattle.std.specs.List.{AllByRecursion}
use Rattle.std.proofs.lemmas.Option.{none-some, same_Some}
use Rattle.mof_metamodel.specs.declared.desc.PropId.{PropId}
use Rattle.mof_metamodel.specs.declared.desc.PropType.TheVariants as types
use Rattle.mof_metamodel.specs.Metamodels.{props_of, prop_at, type_of, opposite_of, supers_of, IsPath, Conforms}
use Rattle.mof_metamodel.proofs.Facts.{nothing_in, only_one}
use Rattle.repair_semantics.specs.declared.term.Term.{Term, out-Term}
use Rattle.repair_semantics.specs.declared.term.TermValue.{TermValue}
use Rattle.repair_semantics.specs.declared.term.TermValue.TheVariants as of
use Rattle.repair_semantics.specs.declared.term.TermValue.TheOpen as layers
use Rattle.repair_semantics.specs.declared.demand.Demand.{Demand}
use Rattle.repair_semantics.specs.TargetItems.{key_of}
use Rattle.repair_laws.specs.DemandedKeys.{IsDemandedAt, AreDemandedAt, IsDemandedByKey}
use Rattle.example_models.specs.RdbTable.{rdb_desc}
use Rattle.example_models.specs.Source.{package_name, class_name, attribute_name}
use Rattle.example_program.specs.MainProgram.{main_program_data}
use Rattle.example_laws.specs.ExampleEntries.{text_value, schema_term, table_term, column_term}
use Rattle.example_laws.specs.ExampleDemands.{IsExampleDemand, IsExampleTerm}
use Rattle.example_laws.proofs.PeaceLaws.{schema_layer, table_layer, column_layer}

-- ---- properties of the classes of schemas, tables and columns

-- the name alone has to have a value
abbrev pub IsNameOrFree : ℕ → Type 0
IsNameOrFree p = (p ≡ 0) ⊎ ((prop_at rdb_desc p).lower ≡ 0)

-- an upper bound is 1
abbrev pub HasBoundOne : ℕ → Type 0
HasBoundOne p = (bound : ℕ) → (prop_at rdb_desc p).upper ≡ Some bound → bound ≡ 1

-- what an object of the class contains is of the next class
abbrev pub ContainsNext : ℕ → ℕ → Type 0
ContainsNext class p = (prop_at rdb_desc p).composite ≡ true → type_of rdb_desc p ≡ Some (types.Class (record { 0 = suc class }))

-- so it is of all properties of the class
pub record IsPlainClass (class : ℕ) : Type 0 where
  pub low : class ≤ 3
  pub names : AllByRecursion IsNameOrFree (props_of rdb_desc class)
  pub bounds : AllByRecursion HasBoundOne (props_of rdb_desc class)
  pub parts : AllByRecursion (ContainsNext class) (props_of rdb_desc class)
  pub supers : supers_of rdb_desc class ≡ 0 ∷ []
  pub named : Contains (props_of rdb_desc class) 0

one : (bound : ℕ) → Some 1 ≡ Some bound → bound ≡ 1
one bound e = sym (same_Some 1 bound e)

no_bound : (bound : ℕ) → None ≡ Some bound → bound ≡ 1
no_bound bound e = absurd (none-some bound e)

no_part : (P : Type 0) → false ≡ true → P
no_part P e = absurd (true≢false (sym e))

schemas_plain : IsPlainClass 1
schemas_plain = record {
  low = omega arith;
  names = (inl refl, (inr refl, tt));
  bounds = (one, (no_bound, tt));
  parts = ((λ e. no_part (type_of rdb_desc 0 ≡ Some (types.Class (record { 0 = 2 }))) e), ((λ e. refl), tt));
  supers = refl;
  named = (0, omega arith, refl);
}

tables_plain : IsPlainClass 2
tables_plain = record {
  low = omega arith;
  names = (inl refl, (inr refl, (inr refl, (inr refl, (inr refl, tt)))));
  bounds = (one, (one, (one, (one, (no_bound, tt)))));
  parts = (
    (λ e. no_part (type_of rdb_desc 0 ≡ Some (types.Class (record { 0 = 3 }))) e),
    (
      (λ e. no_part (type_of rdb_desc 2 ≡ Some (types.Class (record { 0 = 3 }))) e),
      ((λ e. no_part (type_of rdb_desc 3 ≡ Some (types.Class (record { 0 = 3 }))) e), ((λ e. no_part (type_of rdb_desc 4 ≡ Some (types.Class (record { 0 = 3 }))) e), ((λ e. refl), tt))),
    ),
  );
  supers = refl;
  named = (0, omega arith, refl);
}

columns_plain : IsPlainClass 3
columns_plain = record {
  low = omega arith;
  names = (inl refl, (inr refl, (inr refl, tt)));
  bounds = (one, (one, (one, tt)));
  parts = (
    (λ e. no_part (type_of rdb_desc 0 ≡ Some (types.Class (record { 0 = 4 }))) e),
    ((λ e. no_part (type_of rdb_desc 6 ≡ Some (types.Class (record { 0 = 4 }))) e), ((λ e. no_part (type_of rdb_desc 7 ≡ Some (types.Class (record { 0 = 4 }))) e), tt)),
  );
  supers = refl;
  named = (0, omega arith, refl);
}

-- such a class conforms to itself and to that of what has a name
pub conforms_to : (class above : ℕ) → supers_of rdb_desc class ≡ 0 ∷ [] → Conforms rdb_desc class above → (class ≡ above) ⊎ (0 ≡ above)
conforms_to class above supers ([], same) = inl same
conforms_to class above supers (c ∷ path, (step, rest)) =
    let first : 0 ≡ c = only_one 0 c (subst (λ cs. Contains cs c) supers step) in
    by path (subst (λ d. IsPath rdb_desc d path above) (sym first) rest)
  where
    by : (more : List ℕ) → IsPath rdb_desc 0 more above → (class ≡ above) ⊎ (0 ≡ above)
    by [] same = inr same
    by (d ∷ more) (next, after) = absurd (nothing_in d next)

-- ---- their names

abbrev Layer : Type 0
Layer = layers.Term-F TermValue Term

abbrev name_prop : PropId
name_prop = record { 0 = 0 }

-- the class and the name of a term
pub record IsNamedTerm (ds : List Demand) (t : Term) : Type 0 where
  pub class : ℕ
  pub plain : IsPlainClass class
  pub class_is : (out-Term t).class.0 ≡ class
  pub name : List ℕ
  pub keyed : IsDemandedByKey main_program_data rdb_desc ds t → IsDemandedAt rdb_desc ds t name_prop (text_value name)

module _ (ds : List Demand) (t : Term) (layer : Layer) (is : out-Term t ≡ layer) (props : List PropId) (key : key_of main_program_data layer.class.0 ≡ Some props)
    (k : IsDemandedByKey main_program_data rdb_desc ds t)
  where
    -- each key value is demanded
    at_keys : AreDemandedAt rdb_desc ds t props layer.keys
    at_keys =
        let own : key_of main_program_data layer.class.0 ≡ Some k.props = ap (λ (l : Layer). key_of main_program_data l.class.0) (sym is) ∙ k.key in
        let same : k.props ≡ props = same_Some k.props props (sym own ∙ key) in
        subst (λ (l : Layer). AreDemandedAt rdb_desc ds t props l.keys) is (subst (λ (ps : List PropId). AreDemandedAt rdb_desc ds t ps (out-Term t).keys) same k.values)

module _ (n seed : ℕ) (ds : List Demand) where
  pub named_term : (t : Term) → IsExampleTerm n seed t → IsNamedTerm ds t
  named_term _ (IsExampleTerm.of_schema k below) = record {
    class = 1;
    plain = schemas_plain;
    class_is = ap (λ (l : Layer). l.class.0) (schema_layer k);
    name = package_name k;
    keyed = λ demanded. (at_keys ds (schema_term k) (record { class = record { 0 = 1 }; keys = text_value (package_name k) ∷ [] }) (schema_layer k) (name_prop ∷ []) refl demanded).0;
  }
  named_term _ (IsExampleTerm.of_table i below) = record {
    class = 2;
    plain = tables_plain;
    class_is = ap (λ (l : Layer). l.class.0) (table_layer i);
    name = class_name i;
    keyed = λ demanded.
        (at_keys ds (table_term i) (record { class = record { 0 = 2 }; keys = of.Term (schema_term (i / 100)) ∷ text_value (class_name i) ∷ [] }) (table_layer i)
        (record { 0 = 2 } ∷ name_prop ∷ []) refl demanded).1.0;
  }
  named_term _ (IsExampleTerm.of_column i j below within) = record {
    class = 3;
    plain = columns_plain;
    class_is = ap (λ (l : Layer). l.class.0) (column_layer i j);
    name = attribute_name j;
    keyed = λ demanded.
        (at_keys ds (column_term i j) (record { class = record { 0 = 3 }; keys = of.Term (table_term i) ∷ text_value (attribute_name j) ∷ [] }) (column_layer i j)
        (record { 0 = 6 } ∷ name_prop ∷ []) refl demanded).1.0;
  }

  -- no demand says a name from the other end of a link
  pub no_far_name : (d : Demand) → IsExampleDemand n seed d → opposite_of rdb_desc d.prop.0 ≡ Some 0 → ⊥
  no_far_name _ (IsExampleDemand.schema_name entry k below) e = none-some 0 e
  no_far_name _ (IsExampleDemand.table_schema entry i below) e = let same : 1 ≡ 0 = same_Some 1 0 e in omega (arith, same)
  no_far_name _ (IsExampleDemand.table_name entry i below) e = none-some 0 e
  no_far_name _ (IsExampleDemand.column_table entry i j below within) e = let same : 6 ≡ 0 = same_Some 6 0 e in omega (arith, same)
  no_far_name _ (IsExampleDemand.column_name entry i j below within) e = none-some 0 e
  no_far_name _ (IsExampleDemand.column_type entry i j below within) e = none-some 0 e

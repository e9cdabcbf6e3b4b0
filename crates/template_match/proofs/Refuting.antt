-- Wrong answers that the definitions exclude, each on a small case: what the definition gives, and that it isn't what the wrong
-- code would answer. A contract says that the code's result is what the definition gives, so it refuses that code.
use Rattle.std.specs.Prelude.{◌≡◌, ◌⊎◌, ◌<◌, ℕ, true, false, pos, [], ◌∷◌, length, codes, None, Some, Contains}
use Rattle.std.proofs.Common.{refl, sym, subst, ◌∙◌, arith, inl, inr}
use Rattle.std.proofs.lemmas.Bool.{true≢false}
use Rattle.mof_metamodel.proofs.Facts.{contains_first}
use Rattle.std.specs.declared.cmp.Ordering.TheVariants.{Less, Greater}
use Rattle.mof_metamodel.specs.declared.desc.PropId.{PropId}
use Rattle.object_tables.specs.declared.value.Value.TheVariants as values
use Rattle.qv_syntax.specs.declared.program.Dom.{Dom}
use Rattle.qv_syntax.specs.declared.program.ItemValue.TheOpen as layers
use Rattle.qv_syntax.specs.declared.program.Marker.TheVariants.{Enforce}
use Rattle.qvtr_semantics.specs.declared.datum.Datum.{Datum}
use Rattle.qvtr_semantics.specs.declared.datum.Datum.TheVariants.{Obj, Val}
use Rattle.qvtr_semantics.specs.Expressions.{setting}
use Rattle.qvtr_semantics.specs.Templates.{Values, value_at, has}
use Rattle.qvtr_semantics.specs.Bindings.{is_datum_for}
use Rattle.qvtr_semantics.specs.SmallModels.{program, both, object_var}
use Rattle.template_match.specs.declared.join.Join.{Join}
use Rattle.template_match.specs.declared.side.Side.TheVariants.{Source}
use Rattle.template_match.specs.Sides.{is_of_side, meets_side}
use Rattle.template_match.specs.Joins.{IsRowFor, IsJoined}
use Rattle.template_match.specs.Problems.{Problem}
use Rattle.template_match.specs.Posed.{IsSought}
use Rattle.template_match.specs.Search.{is_vacant}
use Rattle.template_match.specs.Shapes.{value_shapes}
use Rattle.template_match.specs.Branches.{IsBranch, IsBarren, IsFound}
use Rattle.template_match.specs.Order.{values_order}
use Rattle.template_match.proofs.JoinLaws.{row_to, row_bound}

abbrev number : ℕ → Datum
number n = Val 0 (values.Int (pos n))

-- ---- values of variables: the schema a, for a variable p : Package of the other model

pub schema_is_no_package : is_datum_for (setting program both) (object_var (codes "p") 0 1) (Obj 1 (record { 0 = 0 })) ≡ false
schema_is_no_package = refl

-- an object of another model than the variable's
pub objects_of_other_models_count : is_datum_for (setting program both) (object_var (codes "p") 0 1) (Obj 1 (record { 0 = 0 })) ≡ true → ⊥
objects_of_other_models_count e = cc

-- ---- slots: one that holds 1

pub slot_has_its_value : has (Some (number 1 ∷ [])) (Some (number 1)) ≡ true
slot_has_its_value = refl

-- null in a slot
pub null_stands_in_each_slot : has (Some (number 1 ∷ [])) None ≡ true → ⊥
null_stands_in_each_slot e = cc

-- a value that the slot doesn't hold
pub each_value_stands_in_a_slot : has (Some (number 1 ∷ [])) (Some (number 2)) ≡ true → ⊥
each_value_stands_in_a_slot e = cc

-- ---- shapes: an item `p = null`

-- no slot that is to be empty in an item `p = null`
pub null_asks_nothing : (u : ℕ) (prop : PropId) → value_shapes layers.Null u prop ≡ [] → ⊥
null_asks_nothing u prop e = cc

-- ---- sides: a domain of the target model

abbrev schema_domain : Dom
schema_domain = record { model = Some 1; marker = Enforce; root = 2; template = None }

-- a domain of the target among those of the source
pub the_source_asks_the_target_domain : is_of_side Source program schema_domain ≡ true → ⊥
the_source_asks_the_target_domain e = cc

-- ---- joins: the variable 0 for the only column

-- a row with another datum than the variable's
pub each_row_is_for_a_binding : IsRowFor (Some 0 ∷ []) (Some (number 1) ∷ []) (number 2 ∷ []) → ⊥
each_row_is_for_a_binding h = let e = row_to (Some 0 ∷ []) (Some (number 1) ∷ []) (number 2 ∷ []) h in cc

-- a row for a variable that has no value
pub no_value_stands_in_a_row : IsRowFor (Some 0 ∷ []) (None ∷ []) (number 1 ∷ []) → ⊥
no_value_stands_in_a_row h = let e = row_bound (Some 0 ∷ []) (None ∷ []) (number 1 ∷ []) h in cc

-- a row without the column
pub a_row_is_cut_off : IsRowFor (Some 0 ∷ []) (Some (number 1) ∷ []) [] → ⊥
a_row_is_cut_off h = h

-- a table without rows
pub no_row_is_asked_for : (j : Join) (b : Values) → j.table.now ≡ [] → IsJoined j b → ⊥
no_row_is_asked_for j b none (row, (k, within, is), stands) = let l = subst (λ rows. k < length rows) none within in omega (arith, l)

-- ---- the search

-- a variable that has a value is open
pub variables_with_values_are_open : is_vacant (Some (Some (number 1))) ≡ true → ⊥
variables_with_values_are_open e = cc

-- the candidates of the next variable leave out a value that it has in a binding that is looked for
pub candidates_leave_a_value_out : (p : Problem) (a b : Values) (v : ℕ) (d : Datum) → IsSought p a b → value_at b v ≡ Some d → IsBranch p a (record { variable = v; candidates = [] }) → ⊥
candidates_leave_a_value_out p a b v d whole at branch = let (k, within, is) = branch.named b d whole at in omega (arith, within)

-- a part is said to leave nothing to be found where a binding is looked for
pub a_binding_is_dropped : (p : Problem) (a b : Values) → IsSought p a b → IsBarren p a → ⊥
a_binding_is_dropped p a b whole none = none b whole

-- a search finds nothing where a binding is looked for
pub a_search_gives_up : (p : Problem) (a b : Values) → IsSought p a b → IsFound p a [] [] → ⊥
a_search_gives_up p a b whole found = let (k, within, is) = (found b).1 (inr whole) in omega (arith, within)

-- a search finds a binding that doesn't meet the side
pub a_search_finds_any_binding : (p : Problem) (a b : Values) → meets_side p.side p.variables p.program p.models p.rel b ≡ false → IsFound p a [] (b ∷ []) → ⊥
a_search_finds_any_binding p a b against found = by ((found b).0 (contains_first b []))
  where
    by : Contains [] b ⊎ IsSought p a b → ⊥
    by (inl (k, within, is)) = omega (arith, within)
    by (inr whole) = true≢false (sym whole.meets ∙ against)

-- ---- the order of bindings

pub the_lesser_stands_first : values_order (0 ∷ []) (Some (number 1) ∷ []) (Some (number 2) ∷ []) ≡ Less
the_lesser_stands_first = refl

-- the greater binding before the lesser
pub bindings_stand_in_another_order : values_order (0 ∷ []) (Some (number 1) ∷ []) (Some (number 2) ∷ []) ≡ Greater → ⊥
bindings_stand_in_another_order e = cc

-- What indexes lead to: the object of least number that holds the values at the key of its class.
use Rattle.std.specs.Prelude.{◌≡◌, ℕ, Bool, true, false, cond, List, [], ◌∷◌, ◌++◌, map, Option, None, Some, is_some, Contains}
use Rattle.std.specs.List.{find, filter, filter_map}
use Rattle.std.specs.Option.{option_map, option_or}
use Rattle.std.specs.Ordering.{ordering_then, is_eq}
use Rattle.std.specs.Cmp.Lexicographic.{slice_cmp}
use Rattle.std.specs.BTreeMap.{BTreeMap, get, is_at, Updates}
use Rattle.std.proofs.Common.{refl, sym, ap, ◌∙◌, subst}
use Rattle.std.proofs.lemmas.List.Folds.{find-append}
use Rattle.std.proofs.lemmas.Map.Views.{tells_apart}
use Rattle.std.proofs.lemmas.Bool.{true≢false}
use Rattle.std.proofs.lemmas.Cmp.{tied_itself, lists_total, eq_by_cmp_equiv, nat_cmp_total}
use Rattle.mof_metamodel.specs.declared.desc.PropId.{PropId}
use Rattle.object_tables.specs.declared.value.ObjId.{ObjId}
use Rattle.object_tables.specs.Models.{ModelData}
use Rattle.qv_syntax.specs.declared.program.Program.{Program}
use Rattle.qvtr_semantics.specs.Objects.{object_datum, extent_of}
use Rattle.repair_semantics.specs.Images.{holds_key, first_number, object_with_key}
use Rattle.repair_semantics.specs.TargetItems.{key_of}
use Rattle.term_table.specs.declared.numbered.NumberedValue.{NumberedValue}
use Rattle.term_table.specs.declared.numbered.NumberedTerm.{NumberedTerm}
use Rattle.term_table.specs.NumberOrder.{numbered_value_order, numbered_term_order, numbered_values_total}
use Rattle.term_table.proofs.NumberLaws.{terms_exact}
use Rattle.term_images.specs.declared.class_index.ClassIndex.TheVariants.{Firsts}
use Rattle.term_images.specs.KeyReadings.{asked, alone, held_at_each}
use Rattle.term_images.specs.Extents.{object_in}
use Rattle.term_images.specs.ClassIndexes.{number_of, numbers_of, first_holding, table_key, first_at, object_holding, PutsFirst, HasFirsts, IsIndexOf}
use Rattle.term_images.proofs.KeyLaws.{holds_these, holds_none}

-- ---- extents

pub objects_of_numbers : (model : ℕ) (ns : List ℕ) → numbers_of (filter_map object_in (map (object_datum model) ns)) ≡ ns
objects_of_numbers model [] = refl
objects_of_numbers model (n ∷ ns) = ap (λ ms. n ∷ ms) (objects_of_numbers model ns)

-- ---- the first of two

or_none : {X : Type 0} (x : Option X) → option_or x None ≡ x
or_none None = refl
or_none (Some x) = refl

map_or : {X Y : Type 0} (f : X → Y) (x y : Option X) → option_map f (option_or x y) ≡ option_or (option_map f x) (option_map f y)
map_or f None y = refl
map_or f (Some x) y = refl

map_if : {X Y : Type 0} (f : X → Y) (b : Bool) (x : X) → option_map f (cond b (Some x) None) ≡ cond b (Some (f x)) None
map_if f true x = refl
map_if f false x = refl

or_known : {X : Type 0} (x y : Option X) → is_some x ≡ true → option_or x y ≡ x
or_known None y some = absurd (true≢false (sym some))
or_known (Some x) y some = refl

-- the one that stands there stays
pub first_stays : (firsts : BTreeMap NumberedTerm ObjId) (key : NumberedTerm) (o : ObjId) → is_some (get numbered_term_order firsts key) ≡ true
    → PutsFirst key o firsts firsts
first_stays firsts key o there q = by (is_at (numbered_term_order key) q) refl
  where
    at : NumberedTerm → Option ObjId
    at k = get numbered_term_order firsts k

    by : (b : Bool) → is_at (numbered_term_order key) q ≡ b → at q ≡ option_or (at q) (cond b (Some o) None)
    by true same = sym (or_known (at q) (Some o) (subst (λ k. is_some (at k) ≡ true) (tells_apart terms_exact key q same) there))
    by false apart = sym (or_none (at q))

-- one is put where none stands
pub first_put : (before after : BTreeMap NumberedTerm ObjId) (key : NumberedTerm) (o : ObjId) → is_some (get numbered_term_order before key) ≡ false
    → Updates numbered_term_order before after key (Some o) → PutsFirst key o before after
first_put before after key o absent updates q = updates.0 q ∙ by (is_at (numbered_term_order key) q) refl
  where
    at : NumberedTerm → Option ObjId
    at k = get numbered_term_order before k

    nothing : (x : Option ObjId) → is_some x ≡ false → Some o ≡ option_or x (Some o)
    nothing None none = refl
    nothing (Some y) none = absurd (true≢false none)

    by : (b : Bool) → is_at (numbered_term_order key) q ≡ b → cond b (Some o) (at q) ≡ option_or (at q) (cond b (Some o) None)
    by true same = nothing (at q) (subst (λ k. is_some (at k) ≡ false) (tells_apart terms_exact key q same) absent)
    by false apart = sym (or_none (at q))

-- ---- a table of first objects

find_push : (p : ℕ → Bool) (os : List ℕ) (o : ℕ) → find p (os ++ o ∷ []) ≡ option_or (find p os) (cond (p o) (Some o) None)
find_push p os o = find-append p os (o ∷ [])

-- values are looked up by a test that reads either way
looked_up : (class : ℕ) (vs ws : List NumberedValue)
    → is_at (numbered_term_order (table_key class vs)) (table_key class ws) ≡ is_eq (slice_cmp numbered_value_order ws vs)
looked_up class vs ws =
    ap (λ o. is_eq (ordering_then o (slice_cmp numbered_value_order vs ws))) (tied_itself nat_cmp_total class)
    ∙ (eq_by_cmp_equiv (lists_total numbered_values_total)).symm vs ws

module _ (program : Program) (m : ModelData) (class : ℕ) (ps : List PropId) where
  -- an object more, which has these values
  pub first_more : (before after : BTreeMap NumberedTerm ObjId) (os : List ℕ) (o : ObjId) (vs : List NumberedValue)
      → HasFirsts program m class ps os before → held_at_each program m (number_of o) ps ≡ map alone vs
      → PutsFirst (table_key class vs) o before after → HasFirsts program m class ps (os ++ number_of o ∷ []) after
  first_more before after os o vs has are put ws =
      let at = table_key class ws in
      let here = is_at (numbered_term_order (table_key class vs)) at in
      let holds : ℕ → Bool = λ n. holds_key program m n ps (asked ws) in
      let one : Bool → Option ℕ = λ b. cond b (Some (number_of o)) None in
      ap (option_map number_of) (put at)
      ∙ map_or number_of (get numbered_term_order before at) (cond here (Some o) None)
      ∙ ap (option_or (first_at before class ws)) (map_if number_of here o)
      ∙ ap (λ b. option_or (first_at before class ws) (one b)) (looked_up class vs ws ∙ sym (holds_these program m (number_of o) ps vs ws are))
      ∙ ap (λ x. option_or x (one (holds (number_of o)))) (has ws)
      ∙ sym (find_push holds os (number_of o))

  -- an object more, which lacks a value
  pub first_same : (firsts : BTreeMap NumberedTerm ObjId) (os : List ℕ) (o : ObjId) → HasFirsts program m class ps os firsts
      → Contains (held_at_each program m (number_of o) ps) [] → HasFirsts program m class ps (os ++ number_of o ∷ []) firsts
  first_same firsts os o has lacks ws =
      let before = first_holding program m ps ws os in
      has ws
      ∙ sym (find_push (λ n. holds_key program m n ps (asked ws)) os (number_of o)
      ∙ ap (λ b. option_or before (cond b (Some (number_of o)) None)) (holds_none program m (number_of o) ps ws lacks)
      ∙ or_none before)

-- ---- indexes

first_filtered : (p : ℕ → Bool) (os : List ℕ) → find p os ≡ first_number (filter p os)
first_filtered p [] = refl
first_filtered p (o ∷ os) = by (p o) (first_filtered p os)
  where
    by : (b : Bool) → find p os ≡ first_number (filter p os) → cond b (Some o) (find p os) ≡ first_number (cond b (o ∷ filter p os) (filter p os))
    by true rest = refl
    by false rest = rest

module _ (program : Program) (m : ModelData) (class : ℕ) where
  -- the first in the extent is the object of least number
  pub first_in_extent : (ps : List PropId) (ws : List NumberedValue) (os : List ℕ) → key_of program class ≡ Some ps → os ≡ extent_of m class
      → first_holding program m ps ws os ≡ object_holding program m class ws
  first_in_extent ps ws os key whole =
      ap (first_holding program m ps ws) whole
      ∙ first_filtered (λ o. holds_key program m o ps (asked ws)) (extent_of m class)
      ∙ sym (ap (object_with_key program m class (asked ws)) key)

  pub firsts_index : (ps : List PropId) (os : List ℕ) (firsts : BTreeMap NumberedTerm ObjId) → key_of program class ≡ Some ps → os ≡ extent_of m class
      → HasFirsts program m class ps os firsts → IsIndexOf program m class (Firsts firsts)
  firsts_index ps os firsts key whole has ws = has ws ∙ first_in_extent ps ws os key whole

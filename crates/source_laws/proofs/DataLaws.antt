-- Lists of data without objects of the target: what is put into an order, chosen, joined or collected from such data is such data.
use Rattle.std.specs.Prelude.{◌≢◌, ℕ, zero, suc, Bool, true, false, List, [], ◌∷◌, ◌++◌, map, Option, None, Some, slice_get, if◌then◌else◌}
use Rattle.std.specs.List.{AllByRecursion, filter, items_where_true, last_or}
use Rattle.object_tables.specs.declared.value.Value.{Value}
use Rattle.object_tables.specs.declared.value.Value.TheVariants as values
use Rattle.qv_syntax.specs.declared.type_tree.Kind.{Kind}
use Rattle.qv_syntax.specs.declared.type_tree.Kind.TheVariants.{Set, Bag, Sequence, OrderedSet}
use Rattle.qvtr_semantics.specs.declared.datum.Datum.{Datum}
use Rattle.qvtr_semantics.specs.Data.{is_before, is_among, placed, in_order, new_ones, distinct}
use Rattle.qvtr_semantics.specs.Objects.{object_datum, value_datum}
use Rattle.qvtr_semantics.specs.Collections.{kept}
use Rattle.source_laws.specs.SourceValues.{IsOfSources}

module _ (t : ℕ) where
  abbrev pub AllOfSources : List Datum → Type 0
  AllOfSources ds = AllByRecursion (IsOfSources t) ds

  -- an element that may be missing
  abbrev pub IfOfSources : Option Datum → Type 0
  IfOfSources None = Unit {0}
  IfOfSources (Some d) = IsOfSources t d

  all_if : (b : Bool) (ds es : List Datum) → AllOfSources ds → AllOfSources es → AllOfSources (if b then ds else es)
  all_if true ds es p q = p
  all_if false ds es p q = q

  pub all_joined : (ds es : List Datum) → AllOfSources ds → AllOfSources es → AllOfSources (ds ++ es)
  all_joined [] es p q = q
  all_joined (d ∷ ds) es p q = (p.0, all_joined ds es p.1 q)

  pub all_filtered : (test : Datum → Bool) (ds : List Datum) → AllOfSources ds → AllOfSources (filter test ds)
  all_filtered test [] p = tt
  all_filtered test (d ∷ ds) p = all_if (test d) (d ∷ filter test ds) (filter test ds) (p.0, all_filtered test ds p.1) (all_filtered test ds p.1)

  pub all_chosen : (bs : List Bool) (ds : List Datum) → AllOfSources ds → AllOfSources (items_where_true bs ds)
  all_chosen [] ds p = tt
  all_chosen (b ∷ bs) [] p = tt
  all_chosen (true ∷ bs) (d ∷ ds) p = (p.0, all_chosen bs ds p.1)
  all_chosen (false ∷ bs) (d ∷ ds) p = all_chosen bs ds p.1

  all_placed : (d : Datum) (ds : List Datum) → IsOfSources t d → AllOfSources ds → AllOfSources (placed d ds)
  all_placed d [] p q = (p, tt)
  all_placed d (e ∷ es) p q = all_if (is_before e d) (e ∷ placed d es) (d ∷ e ∷ es) (q.0, all_placed d es p q.1) (p, q)

  pub all_in_order : (ds : List Datum) → AllOfSources ds → AllOfSources (in_order ds)
  all_in_order [] p = tt
  all_in_order (d ∷ ds) p = all_placed d (in_order ds) p.0 (all_in_order ds p.1)

  all_new : (met ds : List Datum) → AllOfSources ds → AllOfSources (new_ones met ds)
  all_new met [] p = tt
  all_new met (d ∷ ds) p = all_if (is_among d met) (new_ones met ds) (d ∷ new_ones (d ∷ met) ds) (all_new met ds p.1) (p.0, all_new (d ∷ met) ds p.1)

  pub all_kept : (kind : Kind) (ds : List Datum) → AllOfSources ds → AllOfSources (kept kind ds)
  all_kept Set ds p = all_in_order (distinct ds) (all_new [] ds p)
  all_kept Bag ds p = all_in_order ds p
  all_kept Sequence ds p = p
  all_kept OrderedSet ds p = all_new [] ds p

  -- ---- one element

  pub at_place : (ds : List Datum) (i : ℕ) → AllOfSources ds → IfOfSources (slice_get ds i)
  at_place [] i p = tt
  at_place (d ∷ ds) zero p = p.0
  at_place (d ∷ ds) (suc i) p = at_place ds i p.1

  pub at_last : (ds : List Datum) (o : Option Datum) → IfOfSources o → AllOfSources ds → IfOfSources (last_or o ds)
  at_last [] o p q = p
  at_last (d ∷ ds) o p q = at_last ds (Some d) q.0 q.1

  -- ---- what slots hold

  pub all_objects : (m : ℕ) → m ≢ t → (os : List ℕ) → AllOfSources (map (object_datum m) os)
  all_objects m other [] = tt
  all_objects m other (o ∷ os) = (other, all_objects m other os)

  of_value : (meta : ℕ) (v : Value) → IsOfSources t (value_datum meta v)
  of_value meta (values.Str s) = tt
  of_value meta (values.Int i) = tt
  of_value meta (values.Bool b) = tt
  of_value meta (values.Lit e n) = tt

  pub all_values : (meta : ℕ) (vs : List Value) → AllOfSources (map (value_datum meta) vs)
  all_values meta [] = tt
  all_values meta (v ∷ vs) = (of_value meta v, all_values meta vs)

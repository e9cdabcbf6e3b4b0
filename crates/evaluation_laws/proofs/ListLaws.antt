-- What holds of each element of a collection holds of each element that an operation keeps of it.
use Rattle.std.proofs.Common.{◌≡◌, ◌-◌, ◌==◌, ℕ, zero, suc, Bool, true, false, List, [], ◌∷◌, Option, None, Some, subst, if◌then◌else◌}
use Rattle.std.specs.Prelude.{slice_get, All}
use Rattle.std.specs.List.{last_or, items_where_true}
use Rattle.std.proofs.lemmas.Option.{none-some, same_Some}
use Rattle.std.proofs.lemmas.List.Elements.{All-nil, All-cons, All-head, All-tail}
use Rattle.qv_syntax.specs.declared.type_tree.Kind.{Kind}
use Rattle.qv_syntax.specs.declared.type_tree.Kind.TheVariants.{Set, Bag, Sequence, OrderedSet}
use Rattle.qvtr_semantics.specs.declared.datum.Datum.{Datum}
use Rattle.qvtr_semantics.specs.Data.{is_before, is_among, placed, in_order, new_ones, distinct}
use Rattle.qvtr_semantics.specs.Collections.{kept, element_at}

-- what holds of both branches
pub either_way : {X : Type 0} (Q : X → Type 0) (b : Bool) (x y : X) → Q x → Q y → Q (if b then x else y)
either_way Q true x y one other = one
either_way Q false x y one other = other

module _ (P : Datum → Type 0) where
  all_placed : (d : Datum) (ds : List Datum) → P d → All P ds → All P (placed d ds)
  all_placed d [] p all = All-cons P d [] p all
  all_placed d (e ∷ es) p all =
      either_way (All P) (is_before e d) (e ∷ placed d es) (d ∷ e ∷ es)
      (All-cons P e (placed d es) (All-head P e es all) (all_placed d es p (All-tail P e es all)))
      (All-cons P d (e ∷ es) p all)

  pub all_in_order : (ds : List Datum) → All P ds → All P (in_order ds)
  all_in_order [] all = all
  all_in_order (d ∷ ds) all = all_placed d (in_order ds) (All-head P d ds all) (all_in_order ds (All-tail P d ds all))

  all_new : (met ds : List Datum) → All P ds → All P (new_ones met ds)
  all_new met [] all = all
  all_new met (d ∷ ds) all =
      either_way (All P) (is_among d met) (new_ones met ds) (d ∷ new_ones (d ∷ met) ds)
      (all_new met ds (All-tail P d ds all))
      (All-cons P d (new_ones (d ∷ met) ds) (All-head P d ds all) (all_new (d ∷ met) ds (All-tail P d ds all)))

  pub all_kept : (kind : Kind) (ds : List Datum) → All P ds → All P (kept kind ds)
  all_kept Set ds all = all_in_order (distinct ds) (all_new [] ds all)
  all_kept Bag ds all = all_in_order ds all
  all_kept Sequence ds all = all
  all_kept OrderedSet ds all = all_new [] ds all

  pub all_where : (bs : List Bool) (ds : List Datum) → All P ds → All P (items_where_true bs ds)
  all_where [] ds all = All-nil P
  all_where (b ∷ bs) [] all = all
  all_where (true ∷ bs) (d ∷ ds) all = All-cons P d (items_where_true bs ds) (All-head P d ds all) (all_where bs ds (All-tail P d ds all))
  all_where (false ∷ bs) (d ∷ ds) all = all_where bs ds (All-tail P d ds all)

  -- ---- elements at places

  pub all_at : (ds : List Datum) (k : ℕ) (d : Datum) → All P ds → slice_get ds k ≡ Some d → P d
  all_at [] k d all is = absurd (none-some d is)
  all_at (e ∷ es) zero d all is = subst P (same_Some e d is) (All-head P e es all)
  all_at (e ∷ es) (suc k) d all is = all_at es k d (All-tail P e es all) is

  last_by : (ds : List Datum) (o : Option Datum) → ((e : Datum) → o ≡ Some e → P e) → All P ds → (d : Datum) → last_or o ds ≡ Some d → P d
  last_by [] o before all d is = before d is
  last_by (e ∷ es) o before all d is = last_by es (Some e) (λ x same. subst P (same_Some e x same) (All-head P e es all)) (All-tail P e es all) d is

  pub all_last : (ds : List Datum) → All P ds → (d : Datum) → last_or None ds ≡ Some d → P d
  all_last ds all d is = last_by ds None (λ e none. absurd (none-some e none)) all d is

  place_by : (b : Bool) (ds : List Datum) (k : ℕ) (d : Datum) → All P ds → (if b then None else slice_get ds k) ≡ Some d → P d
  place_by true ds k d all is = absurd (none-some d is)
  place_by false ds k d all is = all_at ds k d all is

  pub all_element_at : (ds : List Datum) (i : ℕ) (d : Datum) → All P ds → element_at ds i ≡ Some d → P d
  all_element_at ds i d all is = place_by (i == 0) ds (i - 1) d all is

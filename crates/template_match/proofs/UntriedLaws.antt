-- The objects of a class that an index gives are candidates enough.
use Rattle.std.proofs.Common.{◌≡◌, ℕ, zero, suc, true, List, [], ◌∷◌, length, map, reverse, sym, subst, arith, Some}
use Rattle.std.specs.Prelude.{Contains, slice_get}
use Rattle.std.specs.List.{range_with_len}
use Rattle.std.proofs.lemmas.List.{reverse-append}
use Rattle.std.proofs.lemmas.List.Elements.{All-contains, Contains-append_left, Contains-append_right, filter_passes}
use Rattle.mof_metamodel.specs.declared.desc.ClassId.{ClassId}
use Rattle.mof_metamodel.proofs.Facts.{contains_first, contains_map, nothing_in}
use Rattle.object_tables.specs.declared.value.ObjId.{ObjId}
use Rattle.object_tables.specs.Models.{ModelData}
use Rattle.object_tables.proofs.ListLemmas.{Contains-from_map}
use Rattle.qvtr_semantics.specs.declared.datum.Datum.TheVariants.{Obj}
use Rattle.qvtr_semantics.specs.Objects.{object_datum, conforms_at, extent_of}
use Rattle.key_index.specs.Indexes.{IsExtentOf}
use Rattle.template_match.specs.Search.{objects_in}
use Rattle.template_match.specs.Untried.{HasObjects}

in_reverse : {X : Type 0} (xs : List X) (x : X) → Contains xs x → Contains (reverse xs) x
in_reverse [] x c = absurd (nothing_in x c)
in_reverse (y ∷ xs) x (zero, within, is) =
    subst (λ ys. Contains ys x) (sym (reverse-append (y ∷ []) xs))
    (Contains-append_right (reverse xs) (y ∷ []) x (subst (λ z. Contains (y ∷ []) z) is (contains_first y [])))
in_reverse (y ∷ xs) x (suc k, within, is) =
    subst (λ ys. Contains ys x) (sym (reverse-append (y ∷ []) xs))
    (Contains-append_left (reverse xs) (y ∷ []) x (in_reverse xs x (k, omega (arith, within), is)))

module _ (models : List ModelData) (number : ℕ) (class : ClassId) (model : ModelData) (here : slice_get models number ≡ Some model) where
  -- the objects that an index gives are those of the class
  pub indexed_objects : (os : List ObjId) → IsExtentOf model class.0 os → HasObjects models (Some (number, class)) (reverse (map (λ o. Obj number o) os))
  indexed_objects os is d c =
      let from = Contains-from_map (object_datum number) (extent_of model class.0) d (subst (λ m. Contains (objects_in number class m) d) here c) in
      let o : ℕ = from.0 in
      let passes = All-contains (λ k. conforms_at model class.0 k ≡ true) (extent_of model class.0) o (filter_passes (conforms_at model class.0) (range_with_len 0 (length model.objects))) from.1 in
      in_reverse (map (λ o. Obj number o) os) d
      (subst (Contains (map (λ o. Obj number o) os)) from.2 (contains_map (λ o. Obj number o) os (record { 0 = o }) ((is (record { 0 = o })).1 passes)))

-- The identifiers of the objects of a tree's elements are those of the file, and what is found of them is the first repeated one.
use Rattle.std.proofs.Common.{◌≡◌, ◌⊎◌, ℕ, zero, suc, ◌+◌, ◌<◌, Bool, true, false, List, [], ◌∷◌, ◌++◌, map, length, refl, sym, ◌∙◌, ap, arith, subst, inl, inr, append_assoc, append-nil, cond, None, Some}
use Rattle.std.specs.Prelude.{is_some, slice_get, position, Option, if◌then◌else◌}
use Rattle.std.specs.Option.{option_or, unwrap_or}
use Rattle.std.proofs.lemmas.Bool.{true≢false}
use Rattle.std.proofs.lemmas.List.{length-append}
use Rattle.std.proofs.lemmas.Option.{slice_get_within}
use Rattle.mof_metamodel.specs.Characters.{same_name}
use Rattle.mof_metamodel.specs.NameTables.{value_of}
use Rattle.mof_metamodel.proofs.NameLemmas.{lookup-push}
use Rattle.mof_metamodel.proofs.SearchLemmas.{same_true, true_same}
use Rattle.xmi_profile.specs.declared.element.Element.{Element}
use Rattle.model_assembly.specs.declared.fault.ModelFault.{ModelFault}
use Rattle.model_assembly.specs.declared.fault.ModelFault.TheVariants as faults
use Rattle.model_assembly.specs.Attributes.{is_id_name}
use Rattle.model_assembly.specs.Elements.{Item, is_object, object_items}
use Rattle.xmi_profile.specs.Firsts.{Stands, FirstIn, Duplicates}
use Rattle.model_assembly.specs.Judged.{id_place}
use Rattle.xmi_profile.specs.Judging.{Found}
use Rattle.xmi_profile.specs.Listing.{element_of}
use Rattle.xmi_profile.specs.Numbering.{Numbers, no_numbers, own_id, repeated_at, with_new, with_repeated, with_id, with_object, numbered}
use Rattle.model_assembly.specs.Source.{Source, all_items, file_ids, ids_from}
use Rattle.xmi_profile.proofs.FirstLaws.{Either, Only, Never, first_as, first_of_both, first_only}
use Rattle.xmi_profile.proofs.Positions.{position_is, position_push, first_passes, none_passes}
use Rattle.xmi_profile.proofs.RoleLaws.{found_as}
use Rattle.xmi_profile.proofs.SeenLaws.{kept, element_kept}

abbrev Ids : Type 0
Ids = List (List ℕ)

-- ---- what is known of identifiers: the first object of each

abbrev pub Knows : Numbers → Type 0
Knows n = (id : List ℕ) → value_of n.names id ≡ position (same_name id) n.ids

knows_nothing : Knows no_numbers
knows_nothing id = sym (position_is (same_name id) [])

pub knows_new : (n : Numbers) (id : List ℕ) → Knows n → Knows (with_new n id)
knows_new n id k other =
    lookup-push (same_name other) n.names id (length n.ids)
    ∙ ap (λ (o : Option ℕ). option_or o (cond (same_name other id) (Some (length n.ids)) None)) (k other)
    ∙ sym (position_push (same_name other) n.ids id)

-- an identifier that is there
first_there : (n : Numbers) (id : List ℕ) → Knows n → is_some (value_of n.names id) ≡ true → (i : ℕ) × (i < length n.ids) × (slice_get n.ids i ≡ Some id)
first_there n id k s = by (position (same_name id) n.ids) refl (sym (ap (λ (o : Option ℕ). is_some o) (k id)) ∙ s)
  where
    by : (o : Option ℕ) → position (same_name id) n.ids ≡ o → is_some o ≡ true → (i : ℕ) × (i < length n.ids) × (slice_get n.ids i ≡ Some id)
    by None e t = absurd (true≢false (sym t))
    by (Some i) e t =
        let p = first_passes (same_name id) n.ids i (sym (position_is (same_name id) n.ids) ∙ e) in
        (i, slice_get_within n.ids i p.0 p.1, p.1 ∙ ap (λ (x : List ℕ). Some x) (sym (same_true id p.0 p.2)))

none_there : (n : Numbers) (id : List ℕ) → Knows n → is_some (value_of n.names id) ≡ false → (i : ℕ) → slice_get n.ids i ≡ Some id → ⊥
none_there n id k s i g = by (position (same_name id) n.ids) refl (sym (ap (λ (o : Option ℕ). is_some o) (k id)) ∙ s)
  where
    by : (o : Option ℕ) → position (same_name id) n.ids ≡ o → is_some o ≡ false → ⊥
    by None e t = none_passes (same_name id) n.ids i id (sym (position_is (same_name id) n.ids) ∙ e) g (true_same id id refl)
    by (Some j) e t = true≢false t

knows_repeated : (n : Numbers) (e : Element) (id : List ℕ) → Knows n → is_some (value_of n.names id) ≡ true → Knows (with_repeated n e id)
knows_repeated n e id k s other = k other ∙ by (position (same_name other) n.ids) refl ∙ sym (position_push (same_name other) n.ids id)
  where
    by : (o : Option ℕ) → position (same_name other) n.ids ≡ o → position (same_name other) n.ids ≡ option_or (position (same_name other) n.ids) (cond (same_name other id) (Some (length n.ids)) None)
    by (Some i) e = e ∙ sym (ap (λ (o : Option ℕ). option_or o (cond (same_name other id) (Some (length n.ids)) None)) e)
    by None e = e ∙ last (same_name other id) refl ∙ sym (ap (λ (o : Option ℕ). option_or o (cond (same_name other id) (Some (length n.ids)) None)) e)
      where
        last : (b : Bool) → same_name other id ≡ b → None ≡ cond b (Some (length n.ids)) None
        last false d = refl
        last true d =
            let f = first_there n id k s in
            absurd (none_passes (same_name other) n.ids f.0 id (sym (position_is (same_name other) n.ids) ∙ e) f.2 d)

-- ---- repeated identifiers of objects behind others

record IsRepeated (ids : Ids) (objects : List Item) (id : List ℕ) (place : ℕ) : Type 0 where
  pub object : ℕ
  pub item : Item
  pub item_is : slice_get objects object ≡ Some item
  pub id_is : slice_get (ids_from (length ids) objects) object ≡ Some id
  pub earlier : ℕ
  pub before : earlier < length ids + object
  pub same : slice_get (ids ++ ids_from (length ids) objects) earlier ≡ Some id
  pub place_is : place ≡ id_place item

abbrev Repeats : Ids → List Item → Stands
Repeats ids items (faults.DuplicateId id) place = IsRepeated ids items id place
Repeats ids items (faults.UnknownClass name) place = ⊥
Repeats ids items (faults.UnknownProperty id prop) place = ⊥
Repeats ids items (faults.WrongValue id prop) place = ⊥
Repeats ids items (faults.Dangling id prop reference) place = ⊥
Repeats ids items (faults.TwoContainers id) place = ⊥
Repeats ids items (faults.Mismatch id prop other other_prop) place = ⊥
Repeats ids items (faults.Invalid breach id) place = ⊥
Repeats ids items (faults.Limit kind) place = ⊥

-- one kind of fault to another
repeats_map : (ids kds : Ids) (xs ys : List Item) → ((id : List ℕ) (place : ℕ) → IsRepeated ids xs id place → IsRepeated kds ys id place)
    → (g : ModelFault) (place : ℕ) → Repeats ids xs g place → Repeats kds ys g place
repeats_map ids kds xs ys f (faults.DuplicateId id) place x = f id place x
repeats_map ids kds xs ys f (faults.UnknownClass name) place x = x
repeats_map ids kds xs ys f (faults.UnknownProperty id prop) place x = x
repeats_map ids kds xs ys f (faults.WrongValue id prop) place x = x
repeats_map ids kds xs ys f (faults.Dangling id prop reference) place x = x
repeats_map ids kds xs ys f (faults.TwoContainers id) place x = x
repeats_map ids kds xs ys f (faults.Mismatch id prop other other_prop) place x = x
repeats_map ids kds xs ys f (faults.Invalid breach id) place x = x
repeats_map ids kds xs ys f (faults.Limit kind) place x = x

repeats_none : (ids : Ids) (g : ModelFault) (place : ℕ) → Repeats ids [] g place → ⊥
repeats_none ids (faults.DuplicateId id) place x = let l = slice_get_within [] x.object x.item x.item_is in omega (arith, l)
repeats_none ids (faults.UnknownClass name) place x = x
repeats_none ids (faults.UnknownProperty id prop) place x = x
repeats_none ids (faults.WrongValue id prop) place x = x
repeats_none ids (faults.Dangling id prop reference) place x = x
repeats_none ids (faults.TwoContainers id) place x = x
repeats_none ids (faults.Mismatch id prop other other_prop) place x = x
repeats_none ids (faults.Invalid breach id) place x = x
repeats_none ids (faults.Limit kind) place x = x

-- an object before others
seam : {X : Type 0} (xs : List X) (x : X) (ys : List X) → (xs ++ x ∷ []) ++ ys ≡ xs ++ x ∷ ys
seam xs x ys = append_assoc xs (x ∷ []) ys

pushed : (ids : Ids) (id : List ℕ) → length (ids ++ id ∷ []) ≡ suc (length ids)
pushed ids id = let l = length-append ids (id ∷ []) in omega (arith, l)

abbrev id_at : Item → ℕ → List ℕ
id_at item number = own_id (kept item) number

module _ (ids : Ids) (item : Item) (rest : List Item) where
  abbrev head_id : List ℕ
  head_id = id_at item (length ids)

  abbrev more : Ids
  more = ids_from (suc (length ids)) rest

  later_numbers : ids_from (length (ids ++ head_id ∷ [])) rest ≡ more
  later_numbers = ap (λ (n : ℕ). ids_from n rest) (pushed ids head_id)

  all_same : (ids ++ head_id ∷ []) ++ ids_from (length (ids ++ head_id ∷ [])) rest ≡ ids ++ head_id ∷ more
  all_same = ap (λ (xs : Ids). (ids ++ head_id ∷ []) ++ xs) later_numbers ∙ seam ids head_id more

  later_there : (other : List ℕ) (place : ℕ) → IsRepeated (ids ++ head_id ∷ []) rest other place → IsRepeated ids (item ∷ rest) other place
  later_there other place x =
      let b = x.before in
      let l = pushed ids head_id in
      record {
        object = suc x.object;
        item = x.item;
        item_is = x.item_is;
        id_is = ap (λ (xs : Ids). slice_get xs x.object) (sym later_numbers) ∙ x.id_is;
        earlier = x.earlier;
        before = omega (arith, b, l);
        same = ap (λ (xs : Ids). slice_get xs x.earlier) (sym all_same) ∙ x.same;
        place_is = x.place_is;
      }

  -- the object itself, or one behind it
  abbrev AtFirst : List ℕ → ℕ → Type 0
  AtFirst other place = ((other ≡ head_id) × (place ≡ id_place item) × ((i : ℕ) × (slice_get ids i ≡ Some other))) ⊎ IsRepeated (ids ++ head_id ∷ []) rest other place

  get_left : (xs ys : Ids) (i : ℕ) → i < length xs → slice_get (xs ++ ys) i ≡ slice_get xs i
  get_left [] ys i l = absurd (omega (arith, l))
  get_left (x ∷ xs) ys zero l = refl
  get_left (x ∷ xs) ys (suc i) l = get_left xs ys i (omega (arith, l))

  back_by : (other : List ℕ) (place object : ℕ) (there : Item) → slice_get (item ∷ rest) object ≡ Some there → slice_get (head_id ∷ more) object ≡ Some other
      → (earlier : ℕ) → earlier < length ids + object → slice_get (ids ++ head_id ∷ more) earlier ≡ Some other → place ≡ id_place there → AtFirst other place
  back_by other place zero there t i earlier b e p =
      inl (
        ap (λ (o : Option (List ℕ)). unwrap_or o other) (sym i),
        p ∙ ap id_place (sym (ap (λ (o : Option Item). unwrap_or o there) t)),
        (earlier, sym (get_left ids (head_id ∷ more) earlier (omega (arith, b))) ∙ e),
      )
  back_by other place (suc object) there t i earlier b e p =
      let l = pushed ids head_id in
      inr (record {
        object = object;
        item = there;
        item_is = t;
        id_is = ap (λ (xs : Ids). slice_get xs object) later_numbers ∙ i;
        earlier = earlier;
        before = omega (arith, b, l);
        same = ap (λ (xs : Ids). slice_get xs earlier) all_same ∙ e;
        place_is = p;
      })

  at_first : (other : List ℕ) (place : ℕ) → IsRepeated ids (item ∷ rest) other place → AtFirst other place
  at_first other place x = back_by other place x.object x.item x.item_is x.id_is x.earlier x.before x.same x.place_is

-- ---- with one more object

module _ (P : Stands) (n : Numbers) (item : Item) (rest : List Item) (knows : Knows n) where
  abbrev own : List ℕ
  own = id_at item (length n.ids)

  abbrev told : Found
  told = repeated_at (kept item) own

  place_same : told.place ≡ id_place item
  place_same = found_as item.place is_id_name item.attrs

  -- a repeated one
  again_there : is_some (value_of n.names own) ≡ true → (g : ModelFault) (place : ℕ)
      → Either (Either P (Only told)) (Repeats (n.ids ++ own ∷ []) rest) g place → Either P (Repeats n.ids (item ∷ rest)) g place
  again_there s g place (inl (inl x)) = inl x
  again_there s g place (inl (inr x)) = inr (subst (λ (f : ModelFault). Repeats n.ids (item ∷ rest) f place) (sym x.0) (
      let f = first_there n own knows s in
      let b = f.1 in
      record {
        object = 0;
        item = item;
        item_is = refl;
        id_is = refl;
        earlier = f.0;
        before = omega (arith, b);
        same = get_left n.ids item rest n.ids (ids_from (length n.ids) (item ∷ rest)) f.0 f.1 ∙ f.2;
        place_is = x.1 ∙ place_same;
      }))
  again_there s g place (inr x) = inr (repeats_map (n.ids ++ own ∷ []) n.ids rest (item ∷ rest) (later_there n.ids item rest) g place x)

  again_back : (g : ModelFault) (place : ℕ) → Either P (Repeats n.ids (item ∷ rest)) g place → Either (Either P (Only told)) (Repeats (n.ids ++ own ∷ []) rest) g place
  again_back g place (inl x) = inl (inl x)
  again_back (faults.DuplicateId id) place (inr x) = elim (at_first n.ids item rest id place x) [
    | inl y ↦ inl (inr (ap (λ (i : List ℕ). faults.DuplicateId i) y.0, y.1 ∙ sym place_same))
    | inr y ↦ inr y
  ]
  again_back (faults.UnknownClass name) place (inr x) = absurd x
  again_back (faults.UnknownProperty id prop) place (inr x) = absurd x
  again_back (faults.WrongValue id prop) place (inr x) = absurd x
  again_back (faults.Dangling id prop reference) place (inr x) = absurd x
  again_back (faults.TwoContainers id) place (inr x) = absurd x
  again_back (faults.Mismatch id prop other other_prop) place (inr x) = absurd x
  again_back (faults.Invalid breach id) place (inr x) = absurd x
  again_back (faults.Limit kind) place (inr x) = absurd x

  -- a new one
  new_there : (g : ModelFault) (place : ℕ) → Either P (Repeats (n.ids ++ own ∷ []) rest) g place → Either P (Repeats n.ids (item ∷ rest)) g place
  new_there g place (inl x) = inl x
  new_there g place (inr x) = inr (repeats_map (n.ids ++ own ∷ []) n.ids rest (item ∷ rest) (later_there n.ids item rest) g place x)

  new_back : is_some (value_of n.names own) ≡ false → (g : ModelFault) (place : ℕ) → Either P (Repeats n.ids (item ∷ rest)) g place → Either P (Repeats (n.ids ++ own ∷ []) rest) g place
  new_back s g place (inl x) = inl x
  new_back s (faults.DuplicateId id) place (inr x) = elim (at_first n.ids item rest id place x) [
    | inl y ↦ absurd (none_there n own knows s y.2.0 (y.2.1 ∙ ap (λ (i : List ℕ). Some i) y.0))
    | inr y ↦ inr y
  ]
  new_back s (faults.UnknownClass name) place (inr x) = absurd x
  new_back s (faults.UnknownProperty id prop) place (inr x) = absurd x
  new_back s (faults.WrongValue id prop) place (inr x) = absurd x
  new_back s (faults.Dangling id prop reference) place (inr x) = absurd x
  new_back s (faults.TwoContainers id) place (inr x) = absurd x
  new_back s (faults.Mismatch id prop other other_prop) place (inr x) = absurd x
  new_back s (faults.Invalid breach id) place (inr x) = absurd x
  new_back s (faults.Limit kind) place (inr x) = absurd x

-- ---- all elements

-- the identifiers are those of the file, the first object of each is known, and the first repeated one is found
record AreNumbered (P : Stands) (n : Numbers) (objects : List Item) (end : Numbers) : Type 0 where
  pub ids : end.ids ≡ n.ids ++ ids_from (length n.ids) objects
  pub knows : Knows end
  pub repeated : FirstIn (Either P (Repeats n.ids objects)) end.repeated

objects_if : (b : Bool) (item : Item) (items : List Item) → is_object item ≡ b → object_items (item ∷ items) ≡ cond b (item ∷ object_items items) (object_items items)
objects_if b item items e = ap (λ (c : Bool). cond c (item ∷ object_items items) (object_items items)) e

with_kept : (n : Numbers) (item : Item) (b : Bool) → is_object item ≡ b → with_object n (element_of item) ≡ (if b then with_id n (kept item) (id_at item (length n.ids)) else n)
with_kept n item b e =
    ap (with_object n) (element_kept item) ∙ ap (λ (c : Bool). if c then with_id n (kept item) (id_at item (length n.ids)) else n) e

joined_ids : (ids : Ids) (item : Item) (rest : List Item) (end : Ids) → end ≡ (ids ++ id_at item (length ids) ∷ []) ++ ids_from (length (ids ++ id_at item (length ids) ∷ [])) rest
    → end ≡ ids ++ ids_from (length ids) (item ∷ rest)
joined_ids ids item rest end e = e ∙ all_same ids item rest

numbered_behind : (P : Stands) (n : Numbers) (items : List Item) → Knows n → FirstIn P n.repeated → AreNumbered P n (object_items items) (numbered n (map element_of items))
numbered_behind P n [] k h = record {
  ids = sym (append-nil n.ids);
  knows = k;
  repeated = first_as P (Either P (Repeats n.ids [])) (λ g place x. inl x) (λ g place x. elim x [ inl y ↦ y | inr y ↦ absurd (repeats_none n.ids g place y) ]) n.repeated h;
}
numbered_behind P n (item ∷ items) k h = by (is_object item) refl (λ (Q : Stands) (m : Numbers) (l : Knows m) (i : FirstIn Q m.repeated). numbered_behind Q m items l i)
  where
    object : (s : Bool) → is_some (value_of n.names (id_at item (length n.ids))) ≡ s
        → ((Q : Stands) (m : Numbers) → Knows m → FirstIn Q m.repeated → AreNumbered Q m (object_items items) (numbered m (map element_of items)))
        → AreNumbered P n (item ∷ object_items items) (numbered (if s then with_repeated n (kept item) (id_at item (length n.ids)) else with_new n (id_at item (length n.ids))) (map element_of items))
    object true s ih =
        let own : List ℕ = id_at item (length n.ids) in
        let f : Found = repeated_at (kept item) own in
        let Q : Stands = Either P (Only f) in
        let m : Numbers = with_repeated n (kept item) own in
        let r = ih Q m (knows_repeated n (kept item) own k s) (first_of_both P (Only f) n.repeated (Some f) h (first_only f)) in
        record {
          ids = joined_ids n.ids item (object_items items) (numbered m (map element_of items)).ids r.ids;
          knows = r.knows;
          repeated =
              first_as (Either Q (Repeats m.ids (object_items items))) (Either P (Repeats n.ids (item ∷ object_items items)))
              (again_there P n item (object_items items) k s) (again_back P n item (object_items items) k)
              (numbered m (map element_of items)).repeated r.repeated;
        }
    object false s ih =
        let own : List ℕ = id_at item (length n.ids) in
        let m : Numbers = with_new n own in
        let r = ih P m (knows_new n own k) h in
        record {
          ids = joined_ids n.ids item (object_items items) (numbered m (map element_of items)).ids r.ids;
          knows = r.knows;
          repeated =
              first_as (Either P (Repeats m.ids (object_items items))) (Either P (Repeats n.ids (item ∷ object_items items)))
              (new_there P n item (object_items items) k) (new_back P n item (object_items items) k s)
              (numbered m (map element_of items)).repeated r.repeated;
        }

    by : (b : Bool) → is_object item ≡ b
        → ((Q : Stands) (m : Numbers) → Knows m → FirstIn Q m.repeated → AreNumbered Q m (object_items items) (numbered m (map element_of items)))
        → AreNumbered P n (object_items (item ∷ items)) (numbered n (map element_of (item ∷ items)))
    by true e ih =
        subst (λ (objects : List Item). AreNumbered P n objects (numbered n (map element_of (item ∷ items)))) (sym (objects_if true item items e))
        (subst (λ (m : Numbers). AreNumbered P n (item ∷ object_items items) (numbered m (map element_of items))) (sym (with_kept n item true e))
        (object (is_some (value_of n.names (id_at item (length n.ids)))) refl ih))
    by false e ih =
        subst (λ (objects : List Item). AreNumbered P n objects (numbered n (map element_of (item ∷ items)))) (sym (objects_if false item items e))
        (subst (λ (m : Numbers). AreNumbered P n (object_items items) (numbered m (map element_of items))) (sym (with_kept n item false e))
        (ih P n k h))

-- ---- of a tree

repeated_there : (s : Source) (g : ModelFault) (place : ℕ) → Either Never (Repeats [] (object_items (all_items s))) g place → Duplicates s g place
repeated_there s g place (inl x) = absurd x
repeated_there s (faults.DuplicateId id) place (inr x) =
    let b = x.before in
    record { object = x.object; item = x.item; item_is = x.item_is; id_is = x.id_is; earlier = x.earlier; before = omega (arith, b); same = x.same; place_is = x.place_is }
repeated_there s (faults.UnknownClass name) place (inr x) = x
repeated_there s (faults.UnknownProperty id prop) place (inr x) = x
repeated_there s (faults.WrongValue id prop) place (inr x) = x
repeated_there s (faults.Dangling id prop reference) place (inr x) = x
repeated_there s (faults.TwoContainers id) place (inr x) = x
repeated_there s (faults.Mismatch id prop other other_prop) place (inr x) = x
repeated_there s (faults.Invalid breach id) place (inr x) = x
repeated_there s (faults.Limit kind) place (inr x) = x

repeated_back : (s : Source) (g : ModelFault) (place : ℕ) → Duplicates s g place → Either Never (Repeats [] (object_items (all_items s))) g place
repeated_back s (faults.DuplicateId id) place x =
    let b = x.before in
    inr (record { object = x.object; item = x.item; item_is = x.item_is; id_is = x.id_is; earlier = x.earlier; before = omega (arith, b); same = x.same; place_is = x.place_is })
repeated_back s (faults.UnknownClass name) place x = absurd x
repeated_back s (faults.UnknownProperty id prop) place x = absurd x
repeated_back s (faults.WrongValue id prop) place x = absurd x
repeated_back s (faults.Dangling id prop reference) place x = absurd x
repeated_back s (faults.TwoContainers id) place x = absurd x
repeated_back s (faults.Mismatch id prop other other_prop) place x = absurd x
repeated_back s (faults.Invalid breach id) place x = absurd x
repeated_back s (faults.Limit kind) place x = absurd x

pub record FileNumbers (s : Source) (n : Numbers) : Type 0 where
  pub ids : n.ids ≡ file_ids s
  pub knows : Knows n
  pub repeated : FirstIn (Duplicates s) n.repeated

pub numbers_of : (s : Source) → FileNumbers s (numbered no_numbers (map element_of (all_items s)))
numbers_of s =
    let n : Numbers = numbered no_numbers (map element_of (all_items s)) in
    let r = numbered_behind Never no_numbers (all_items s) knows_nothing (λ g place x. x) in
    record {
      ids = r.ids;
      knows = r.knows;
      repeated = first_as (Either Never (Repeats [] (object_items (all_items s)))) (Duplicates s) (repeated_there s) (repeated_back s) n.repeated r.repeated;
    }

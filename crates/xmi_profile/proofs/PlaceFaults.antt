-- Of two faults that stand at one place, and are of one kind, both are one.
use Rattle.std.proofs.Common.{◌≡◌, ◌⊎◌, ℕ, zero, suc, ◌+◌, ◌<◌, ◌≤◌, Bool, true, false, cond, List, [], ◌∷◌, refl, sym, ◌∙◌, ap, ap₂, arith, subst, inl, inr, Option, None, Some, true≢false}
use Rattle.std.specs.Prelude.{Contains, slice_get, is_some, not}
use Rattle.std.specs.List.{filter}
use Rattle.std.specs.Option.{option_map}
use Rattle.std.proofs.lemmas.Bool.{and_parts}
use Rattle.mof_metamodel.specs.declared.desc.PropId.{PropId}
use Rattle.mof_metamodel.specs.Metamodels.{prop_number}
use Rattle.mof_metamodel.specs.WellMeta.{WellMeta, is_prop_name}
use Rattle.mof_metamodel.proofs.MetaLaws.{prop_named}
use Rattle.mof_metamodel.proofs.PropLemmas.{prop_known}
use Rattle.model_assembly.specs.declared.fault.ModelFault.{ModelFault}
use Rattle.model_assembly.specs.declared.fault.ModelFault.TheVariants as faults
use Rattle.model_assembly.specs.Attributes.{Attrs, first_attr, later, is_id_name, is_type_name, is_passed_name}
use Rattle.model_assembly.specs.declared.role.Role.{Role}
use Rattle.model_assembly.specs.declared.role.ObjectRole.{ObjectRole}
use Rattle.model_assembly.specs.declared.role.Role.TheVariants.{Document, Skipped, AnObject, AValue, AReference, Neither, Alien, Stranger, Misplaced}
use Rattle.model_assembly.specs.Elements.{Item, inner_place, object_of, is_object, number_in}
use Rattle.model_assembly.specs.Faults.{StandsAt, IsDuplicate}
use Rattle.model_assembly.specs.FirstFault.{rank, IsFirstAt}
use Rattle.model_assembly.specs.Judged.{found_place, text_place, first_place, runs, IsAttrAt, IsAlien, IsStranger, IsUnknownAttr, is_unknown_of, id_in, IsWrongId, IsWrongAttr, IsWrongObject, IsWrong}
use Rattle.model_assembly.specs.Profile.{prop_name}
use Rattle.model_assembly.specs.Source.{Source, all_items, file_ids, printed_id}
use Rattle.mof_metamodel.proofs.Facts.{contains_first}
use Rattle.xmi_profile.proofs.PlaceOwners.{IsInHead, IsOf, of_head, of_run, of_value, IsBelow, AreOneOrBelow, one, below, above, tree_apart}
use Rattle.model_assembly.proofs.assembling.ListLaws.{get_within, get_filter}
use Rattle.mof_metamodel.proofs.Facts.{contains_at}
use Rattle.std.proofs.lemmas.Option.{same_Some}
use Rattle.std.proofs.lemmas.Option.{none-some}
use Rattle.model_assembly.proofs.PlaceLaws.{IsNumbered, AreNumberedFrom, placed_tree}
use Rattle.xmi_profile.proofs.written.Naming.{prop_not_id}

-- ---- attributes that are found

abbrev pair : ℕ → List ℕ → ℕ × List ℕ
pair n v = (n, v)

-- the attribute that is found has a name that passes
first_there : (passes : List ℕ → Bool) (attrs : Attrs) (found : ℕ × List ℕ) → first_attr passes attrs ≡ Some found → (name : List ℕ) × (slice_get attrs found.0 ≡ Some (name, found.1)) × (passes name ≡ true)
first_there passes [] found e = absurd (none-some found e)
first_there passes (a ∷ attrs) found e = by (passes a.0) refl (first_there passes attrs) found e
  where
    behind : ((x : ℕ × List ℕ) → first_attr passes attrs ≡ Some x → (name : List ℕ) × (slice_get attrs x.0 ≡ Some (name, x.1)) × (passes name ≡ true))
        → (o : Option (ℕ × List ℕ)) → first_attr passes attrs ≡ o → (found : ℕ × List ℕ) → option_map later o ≡ Some found
        → (name : List ℕ) × (slice_get (a ∷ attrs) found.0 ≡ Some (name, found.1)) × (passes name ≡ true)
    behind more None f found g = absurd (none-some found g)
    behind more (Some x) f found g =
        let m = more x f in
        subst (λ (y : ℕ × List ℕ). (name : List ℕ) × (slice_get (a ∷ attrs) y.0 ≡ Some (name, y.1)) × (passes name ≡ true)) (same_Some (later x) found g) m

    by : (b : Bool) → passes a.0 ≡ b → ((x : ℕ × List ℕ) → first_attr passes attrs ≡ Some x → (name : List ℕ) × (slice_get attrs x.0 ≡ Some (name, x.1)) × (passes name ≡ true))
        → (found : ℕ × List ℕ) → cond b (Some (0, a.1)) (option_map later (first_attr passes attrs)) ≡ Some found
        → (name : List ℕ) × (slice_get (a ∷ attrs) found.0 ≡ Some (name, found.1)) × (passes name ≡ true)
    by true t more found g =
        subst (λ (y : ℕ × List ℕ). (name : List ℕ) × (slice_get (a ∷ attrs) y.0 ≡ Some (name, y.1)) × (passes name ≡ true)) (same_Some (pair 0 a.1) found g) (a.0, refl, t)
    by false t more found g = behind more (first_attr passes attrs) refl found g

-- what is found stands in the start tag
found_in_head : (x : Item) (passes : List ℕ → Bool) (q : ℕ) → q ≡ found_place x.place (first_attr passes x.attrs) → IsInHead x q
found_in_head x passes q e = by (first_attr passes x.attrs) refl e
  where
    by : (o : Option (ℕ × List ℕ)) → first_attr passes x.attrs ≡ o → q ≡ found_place x.place o → IsInHead x q
    by None f g = (omega (arith, g), omega (arith, g))
    by (Some found) f g =
        let l = get_within x.attrs found.0 _ (first_there passes x.attrs found f).1 in (omega (arith, g), omega (arith, g, l))

attr_in_head : (x : Item) (q : ℕ) (name text : List ℕ) → IsAttrAt x q name text → IsInHead x q
attr_in_head x q name text (n, e, p) = let l = get_within x.attrs n _ e in (omega (arith, p), omega (arith, p, l))

here_in_head : (x : Item) (q : ℕ) → q ≡ x.place → IsInHead x q
here_in_head x q e = (omega (arith, e), omega (arith, e))

-- one attribute stands at a place
attr_named : (x : Item) (q : ℕ) (name text name' text' : List ℕ) → IsAttrAt x q name text → IsAttrAt x q name' text' → name ≡ name'
attr_named x q name text name' text' (n, e, p) (k, f, r) =
    let same : n ≡ k = omega (arith, p, r) in
    ap (λ (a : List ℕ × List ℕ). a.0) (same_Some (name, text) (name', text') (sym e ∙ ap (slice_get x.attrs) same ∙ f))

-- no attribute stands at the start of its element, nor a run of characters in its start tag
attr_behind : (x : Item) (q : ℕ) (name text : List ℕ) → IsAttrAt x q name text → q ≡ x.place → ⊥
attr_behind x q name text (n, e, p) f = omega (arith, p, f)

-- ---- one element

module _ (s : Source) (x : Item) (q : ℕ) where
  -- UnknownClass

  alien_of : (role : Role) (name : List ℕ) → IsAlien x role q name → IsOf x q
  alien_of Alien name h = of_head (here_in_head x q h.0)
  alien_of (AnObject object) name h = of_head (found_in_head x is_type_name q h.1)
  alien_of Document name h = absurd h
  alien_of Skipped name h = absurd h
  alien_of (AValue o p) name h = absurd h
  alien_of (AReference o p target) name h = absurd h
  alien_of (Neither o p) name h = absurd h
  alien_of (Stranger o) name h = absurd h
  alien_of (Misplaced o p) name h = absurd h

  alien_one : (role : Role) (a b : List ℕ) → IsAlien x role q a → IsAlien x role q b → a ≡ b
  alien_one Alien a b h k = h.1 ∙ sym k.1
  alien_one (AnObject object) a b h k = h.2 ∙ sym k.2
  alien_one Document a b h k = absurd h
  alien_one Skipped a b h k = absurd h
  alien_one (AValue o p) a b h k = absurd h
  alien_one (AReference o p target) a b h k = absurd h
  alien_one (Neither o p) a b h k = absurd h
  alien_one (Stranger o) a b h k = absurd h
  alien_one (Misplaced o p) a b h k = absurd h

  -- UnknownProperty

  stranger_place : (role : Role) (prop : List ℕ) → IsStranger x role q prop → (q ≡ x.place) × (prop ≡ x.name)
  stranger_place (Stranger o) prop h = h
  stranger_place Document prop h = absurd h
  stranger_place Skipped prop h = absurd h
  stranger_place (AnObject object) prop h = absurd h
  stranger_place (AValue o p) prop h = absurd h
  stranger_place (AReference o p target) prop h = absurd h
  stranger_place (Neither o p) prop h = absurd h
  stranger_place Alien prop h = absurd h
  stranger_place (Misplaced o p) prop h = absurd h

  unknown_of : (prop : List ℕ) → IsStranger x x.role q prop ⊎ IsUnknownAttr s x q prop → IsOf x q
  unknown_of prop (inl h) = of_head (here_in_head x q (stranger_place x.role prop h).0)
  unknown_of prop (inr (text, a, u)) = of_head (attr_in_head x q prop text a)

  unknown_one : (a b : List ℕ) → IsStranger x x.role q a ⊎ IsUnknownAttr s x q a → IsStranger x x.role q b ⊎ IsUnknownAttr s x q b → a ≡ b
  unknown_one a b (inl h) (inl k) = (stranger_place x.role a h).1 ∙ sym (stranger_place x.role b k).1
  unknown_one a b (inl h) (inr (text, k, u)) = absurd (attr_behind x q b text k (stranger_place x.role a h).0)
  unknown_one a b (inr (text, h, u)) (inl k) = absurd (attr_behind x q a text h (stranger_place x.role b k).0)
  unknown_one a b (inr (text, h, u)) (inr (text', k, v)) = attr_named x q a text b text' h k

  -- WrongValue

  object_of_place : (object : ObjectRole) (id : List ℕ) (prop : Option (List ℕ)) → IsWrongObject s x object q id prop → IsOf x q
  object_of_place object id prop (inl h) = of_head (found_in_head x is_id_name q h.place_is)
  object_of_place object id prop (inr (inl h)) = of_head (attr_in_head x q h.name h.text h.attr)
  object_of_place object id prop (inr (inr (inl h))) = of_run h.text.0 h.text.1
  object_of_place object id prop (inr (inr (inr h))) = of_head (here_in_head x q h.place_is)

  value_of_place : (o p : ℕ) → x.role ≡ AValue o p → q ≡ text_place x → IsOf x q
  value_of_place o p r e = by (runs x) refl e
    where
      by : (rs : List (ℕ × List ℕ)) → runs x ≡ rs → q ≡ first_place (inner_place x.place x.attrs) rs → IsOf x q
      by [] f g = of_value o p r g
      by (run ∷ rest) f g = of_run run.1 (subst (λ (k : ℕ). Contains (runs x) (k, run.1)) (sym g) (subst (λ (rs : List (ℕ × List ℕ)). Contains rs (run.0, run.1)) (sym f) (contains_first run rest)))

  wrong_of : (role : Role) (id : List ℕ) (prop : Option (List ℕ)) → x.role ≡ role → IsWrong s x role q id prop → IsOf x q
  wrong_of Document id prop r h = of_run h.0.0 h.0.1
  wrong_of (AnObject object) id prop r h = object_of_place object id prop h
  wrong_of (AValue o p) id prop r h = value_of_place o p r h.0.place_is
  wrong_of (AReference o p target) id prop r h = of_run h.0.0 h.0.1
  wrong_of (Neither o p) id prop r h = of_head (here_in_head x q h.0)
  wrong_of (Misplaced o p) id prop r h = of_head (here_in_head x q h.0)
  wrong_of Skipped id prop r h = absurd h
  wrong_of Alien id prop r h = absurd h
  wrong_of (Stranger o) id prop r h = absurd h

  -- an identifier
  id_attr : (object : ObjectRole) (id : List ℕ) (prop : Option (List ℕ)) → IsWrongId x object q id prop → (name text : List ℕ) × IsAttrAt x q name text × (is_id_name name ≡ true)
  id_attr object id prop h = by (first_attr is_id_name x.attrs) refl h.found h.place_is
    where
      by : (o : Option (ℕ × List ℕ)) → first_attr is_id_name x.attrs ≡ o → option_map (λ (found : ℕ × List ℕ). found.1) o ≡ Some h.written → q ≡ found_place x.place o
          → (name text : List ℕ) × IsAttrAt x q name text × (is_id_name name ≡ true)
      by None e f g = absurd (none-some h.written f)
      by (Some found) e f g = let there = first_there is_id_name x.attrs found e in (there.0, found.1, (found.0, there.1, g), there.2)

  run_apart : (characters : List ℕ) → Contains (runs x) (q, characters) → IsInHead x q → ⊥
  run_apart characters c h = let l = (Rattle.xmi_profile.proofs.PlaceOwners.runs_within x.inner (inner_place x.place x.attrs) (q, characters) c).0 in let k = h.1 in omega (arith, l, k)

  module _ (well : WellMeta s.meta) where
    -- a property's name is that of no identifier
    no_id_prop : (c p : ℕ) (name : List ℕ) → prop_number s.meta c name ≡ Some p → is_id_name name ≡ true → ⊥
    no_id_prop c p name e t =
        let found = prop_named s.meta c name (Some (number p)) (sym e) in
        let plain : is_prop_name name ≡ true = subst (λ (n : List ℕ). is_prop_name n ≡ true) found.named (well.names.props p (prop_known s.meta c p found.has)) in
        true≢false (sym t ∙ prop_not_id name plain)
      where
        number : ℕ → PropId
        number n = record { 0 = n }

    id_or_attr : (object : ObjectRole) (id id' : List ℕ) (prop prop' : Option (List ℕ)) → IsWrongId x object q id prop → IsWrongAttr s x object q id' prop' → ⊥
    id_or_attr object id id' prop prop' h k =
        let a = id_attr object id prop h in
        no_id_prop k.class k.property k.name k.property_is (subst (λ (n : List ℕ). is_id_name n ≡ true) (attr_named x q a.0 a.1 k.name k.text a.2 k.attr) a.3)

    object_one : (object : ObjectRole) (id id' : List ℕ) (prop prop' : Option (List ℕ)) → IsWrongObject s x object q id prop → IsWrongObject s x object q id' prop' → (id ≡ id') × (prop ≡ prop')
    object_one object id id' prop prop' (inl h) (inl k) = (h.id_is ∙ sym k.id_is, h.prop_is ∙ sym k.prop_is)
    object_one object id id' prop prop' (inl h) (inr (inl k)) = absurd (id_or_attr object id id' prop prop' h k)
    object_one object id id' prop prop' (inl h) (inr (inr (inl k))) = absurd (run_apart k.text.0 k.text.1 (found_in_head x is_id_name q h.place_is))
    object_one object id id' prop prop' (inl h) (inr (inr (inr k))) = let a = id_attr object id prop h in absurd (attr_behind x q a.0 a.1 a.2 k.place_is)
    object_one object id id' prop prop' (inr (inl h)) (inl k) = absurd (id_or_attr object id' id prop' prop k h)
    object_one object id id' prop prop' (inr (inl h)) (inr (inl k)) =
        (h.id_is ∙ sym k.id_is, h.prop_is ∙ ap (λ (n : List ℕ). Some n) (attr_named x q h.name h.text k.name k.text h.attr k.attr) ∙ sym k.prop_is)
    object_one object id id' prop prop' (inr (inl h)) (inr (inr (inl k))) = absurd (run_apart k.text.0 k.text.1 (attr_in_head x q h.name h.text h.attr))
    object_one object id id' prop prop' (inr (inl h)) (inr (inr (inr k))) = absurd (attr_behind x q h.name h.text h.attr k.place_is)
    object_one object id id' prop prop' (inr (inr (inl h))) (inl k) = absurd (run_apart h.text.0 h.text.1 (found_in_head x is_id_name q k.place_is))
    object_one object id id' prop prop' (inr (inr (inl h))) (inr (inl k)) = absurd (run_apart h.text.0 h.text.1 (attr_in_head x q k.name k.text k.attr))
    object_one object id id' prop prop' (inr (inr (inl h))) (inr (inr (inl k))) = (h.id_is ∙ sym k.id_is, h.prop_is ∙ sym k.prop_is)
    object_one object id id' prop prop' (inr (inr (inl h))) (inr (inr (inr k))) = absurd (run_apart h.text.0 h.text.1 (here_in_head x q k.place_is))
    object_one object id id' prop prop' (inr (inr (inr h))) (inl k) = let a = id_attr object id' prop' k in absurd (attr_behind x q a.0 a.1 a.2 h.place_is)
    object_one object id id' prop prop' (inr (inr (inr h))) (inr (inl k)) = absurd (attr_behind x q k.name k.text k.attr h.place_is)
    object_one object id id' prop prop' (inr (inr (inr h))) (inr (inr (inl k))) = absurd (run_apart k.text.0 k.text.1 (here_in_head x q h.place_is))
    object_one object id id' prop prop' (inr (inr (inr h))) (inr (inr (inr k))) =
        let within : (h.container, h.property) ≡ (k.container, k.property) = same_Some (h.container, h.property) (k.container, k.property) (sym h.within ∙ k.within) in
        (h.id_is ∙ ap (λ (c : ℕ × ℕ). printed_id s c.0) within ∙ sym k.id_is, h.prop_is ∙ ap (λ (c : ℕ × ℕ). Some (prop_name s.meta c.1)) within ∙ sym k.prop_is)

    wrong_one : (role : Role) (id id' : List ℕ) (prop prop' : Option (List ℕ)) → IsWrong s x role q id prop → IsWrong s x role q id' prop' → (id ≡ id') × (prop ≡ prop')
    wrong_one Document id id' prop prop' h k = (h.1 ∙ sym k.1, h.2 ∙ sym k.2)
    wrong_one (AnObject object) id id' prop prop' h k = object_one object id id' prop prop' h k
    wrong_one (AValue o p) id id' prop prop' h k = (h.1.0 ∙ sym k.1.0, h.1.1 ∙ sym k.1.1)
    wrong_one (AReference o p target) id id' prop prop' h k = (h.1.0 ∙ sym k.1.0, h.1.1 ∙ sym k.1.1)
    wrong_one (Neither o p) id id' prop prop' h k = (h.1.0 ∙ sym k.1.0, h.1.1 ∙ sym k.1.1)
    wrong_one (Misplaced o p) id id' prop prop' h k = (h.1.0 ∙ sym k.1.0, h.1.1 ∙ sym k.1.1)
    wrong_one Skipped id id' prop prop' h k = absurd h
    wrong_one Alien id id' prop prop' h k = absurd h
    wrong_one (Stranger o) id id' prop prop' h k = absurd h

-- ---- what stands in a value's element

below_known : (o p : ℕ) (s : Source) (y : Item) (role : Role) (name : List ℕ) → IsBelow o p role → is_unknown_of s.meta role y.attrs name ≡ false
below_known o p s y Skipped name h = refl
below_known o p s y Alien name h = refl
below_known o p s y (Misplaced a r) name h = refl
below_known o p s y Document name h = absurd h
below_known o p s y (AnObject object) name h = absurd h
below_known o p s y (AValue a r) name h = absurd h
below_known o p s y (AReference a r target) name h = absurd h
below_known o p s y (Neither a r) name h = absurd h
below_known o p s y (Stranger a) name h = absurd h

below_no_stranger : (o p q : ℕ) (y : Item) (role : Role) (prop : List ℕ) → IsBelow o p role → IsStranger y role q prop → ⊥
below_no_stranger o p q y Skipped prop h k = k
below_no_stranger o p q y Alien prop h k = k
below_no_stranger o p q y (Misplaced a r) prop h k = k
below_no_stranger o p q y Document prop h k = k
below_no_stranger o p q y (AnObject object) prop h k = k
below_no_stranger o p q y (AValue a r) prop h k = k
below_no_stranger o p q y (AReference a r target) prop h k = k
below_no_stranger o p q y (Neither a r) prop h k = k
below_no_stranger o p q y (Stranger a) prop h k = h

below_no_unknown : (o p q : ℕ) (s : Source) (y : Item) (prop : List ℕ) → IsBelow o p y.role → IsStranger y y.role q prop ⊎ IsUnknownAttr s y q prop → ⊥
below_no_unknown o p q s y prop h (inl k) = below_no_stranger o p q y y.role prop h k
below_no_unknown o p q s y prop h (inr (text, a, u)) =
    true≢false (sym (and_parts (not (is_passed_name prop)) (is_unknown_of s.meta y.role y.attrs prop) u).1 ∙ below_known o p s y y.role prop h)

-- a wrong value below is one of the same property
below_wrong : (o p q : ℕ) (s : Source) (y : Item) (role : Role) (id : List ℕ) (prop : Option (List ℕ)) → IsBelow o p role → IsWrong s y role q id prop → (id ≡ printed_id s o) × (prop ≡ Some (prop_name s.meta p))
below_wrong o p q s y (Misplaced a r) id prop h k = (k.1.0 ∙ ap (printed_id s) h.0, k.1.1 ∙ ap (λ (n : ℕ). Some (prop_name s.meta n)) h.1)
below_wrong o p q s y Skipped id prop h k = absurd k
below_wrong o p q s y Alien id prop h k = absurd k
below_wrong o p q s y Document id prop h k = absurd h
below_wrong o p q s y (AnObject object) id prop h k = absurd h
below_wrong o p q s y (AValue a r) id prop h k = absurd h
below_wrong o p q s y (AReference a r target) id prop h k = absurd h
below_wrong o p q s y (Neither a r) id prop h k = absurd h
below_wrong o p q s y (Stranger a) id prop h k = absurd h

-- ---- objects by their numbers

numbered_at : (number : ℕ) (xs : List Item) → AreNumberedFrom number xs → (k : ℕ) (x : Item) → slice_get (filter is_object xs) k ≡ Some x
    → (object : ObjectRole) × (object_of x.role ≡ Some object) × (object.number ≡ number + k)
numbered_at number [] h k x e = absurd (none-some x e)
numbered_at number (y ∷ ys) h k x e = by (object_of y.role) refl h.0 (numbered_at (number_in y.role number) ys h.1) k e
  where
    Answer : ℕ → Type 0
    Answer k = (object : ObjectRole) × (object_of x.role ≡ Some object) × (object.number ≡ number + k)

    at_first : (object : ObjectRole) → object_of y.role ≡ Some object → object.number ≡ number
        → ((k : ℕ) (z : Item) → slice_get (filter is_object ys) k ≡ Some z → (ob : ObjectRole) × (object_of z.role ≡ Some ob) × (ob.number ≡ suc number + k))
        → (k : ℕ) → slice_get (y ∷ filter is_object ys) k ≡ Some x → Answer k
    at_first object o n more zero g = (object, ap (λ (z : Item). object_of z.role) (sym (same_Some y x g)) ∙ o, omega (arith, n))
    at_first object o n more (suc k) g = let m = more k x g in (m.0, m.1, (let l = m.2 in omega (arith, l)))

    by : (o : Option ObjectRole) → object_of y.role ≡ o → IsNumbered number o
        → ((k : ℕ) (z : Item) → slice_get (filter is_object ys) k ≡ Some z → (ob : ObjectRole) × (object_of z.role ≡ Some ob) × (ob.number ≡ number_in y.role number + k))
        → (k : ℕ) → slice_get (filter is_object (y ∷ ys)) k ≡ Some x → Answer k
    by None o n more k g =
        let plain : filter is_object (y ∷ ys) ≡ filter is_object ys = ap (λ (b : Bool). cond b (y ∷ filter is_object ys) (filter is_object ys)) (ap is_some o) in
        let next : number_in y.role number ≡ number = ap (λ (b : Bool). cond b (suc number) number) (ap is_some o) in
        let m = more k x (ap (λ (zs : List Item). slice_get zs k) (sym plain) ∙ g) in
        (m.0, m.1, (let l = m.2 in omega (arith, l, next)))
    by (Some object) o n more k g =
        let plain : filter is_object (y ∷ ys) ≡ y ∷ filter is_object ys = ap (λ (b : Bool). cond b (y ∷ filter is_object ys) (filter is_object ys)) (ap is_some o) in
        let next : number_in y.role number ≡ suc number = ap (λ (b : Bool). cond b (suc number) number) (ap is_some o) in
        at_first object o n (λ k z f. let m = more k z f in (m.0, m.1, m.2 ∙ ap (λ (r : ℕ). r + k) next)) k (ap (λ (zs : List Item). slice_get zs k) (sym plain) ∙ g)

-- ---- the elements of a source

module _ (s : Source) (q : ℕ) where
  apart : (x y : Item) → Contains (all_items s) x → Contains (all_items s) y → IsOf x q → IsOf y q → AreOneOrBelow x y
  apart x y c d m n = tree_apart s.meta s.outside s.tree x y q c d m n

  one_class : (a b : List ℕ) → StandsAt s (faults.UnknownClass a) q → StandsAt s (faults.UnknownClass b) q → a ≡ b
  one_class a b (x, c, h) (y, d, k) = by (apart x y c d (alien_of s x q x.role a h) (alien_of s y q y.role b k))
    where
      by : AreOneOrBelow x y → a ≡ b
      by (one e) = alien_one s x q x.role a b h (subst (λ (z : Item). IsAlien z z.role q b) (sym e) k)
      by (below o p r u) = absurd (subst (λ (role : Role). IsAlien x role q a) r h)
      by (above o p r u) = absurd (subst (λ (role : Role). IsAlien y role q b) r k)

  one_property : (id a id' b : List ℕ) → StandsAt s (faults.UnknownProperty id a) q → StandsAt s (faults.UnknownProperty id' b) q → (id ≡ id') × (a ≡ b)
  one_property id a id' b (x, c, (i, h)) (y, d, (j, k)) = by (apart x y c d (unknown_of s x q a h) (unknown_of s y q b k))
    where
      by : AreOneOrBelow x y → (id ≡ id') × (a ≡ b)
      by (one e) =
          (i ∙ ap (λ (z : Item). id_in s z.role) e ∙ sym j, unknown_one s x q a b h (subst (λ (z : Item). IsStranger z z.role q b ⊎ IsUnknownAttr s z q b) (sym e) k))
      by (below o p r u) = absurd (below_no_unknown o p q s y b u k)
      by (above o p r u) = absurd (below_no_unknown o p q s x a u h)

  one_wrong : WellMeta s.meta → (id : List ℕ) (prop : Option (List ℕ)) (id' : List ℕ) (prop' : Option (List ℕ)) → StandsAt s (faults.WrongValue id prop) q → StandsAt s (faults.WrongValue id' prop') q
      → (id ≡ id') × (prop ≡ prop')
  one_wrong well id prop id' prop' (x, c, h) (y, d, k) = by (apart x y c d (wrong_of s x q x.role id prop refl h) (wrong_of s y q y.role id' prop' refl k))
    where
      by : AreOneOrBelow x y → (id ≡ id') × (prop ≡ prop')
      by (one e) = wrong_one s x q well x.role id id' prop prop' h (subst (λ (z : Item). IsWrong s z z.role q id' prop') (sym e) k)
      by (below o p r u) =
          let v = subst (λ (role : Role). IsWrong s x role q id prop) r h in
          let w = below_wrong o p q s y y.role id' prop' u k in
          (v.1.0 ∙ sym w.0, v.1.1 ∙ sym w.1)
      by (above o p r u) =
          let v = subst (λ (role : Role). IsWrong s y role q id' prop') r k in
          let w = below_wrong o p q s x x.role id prop u h in
          (w.0 ∙ sym v.1.0, w.1 ∙ sym v.1.1)

  numbered : AreNumberedFrom 0 (all_items s)
  numbered = (placed_tree s.meta s.outside s.tree).1

  object_there : (id : List ℕ) (h : IsDuplicate s q id) → (object : ObjectRole) × (object_of h.item.role ≡ Some object) × (object.number ≡ h.object)
  object_there id h = let n = numbered_at 0 (all_items s) numbered h.object h.item h.item_is in (n.0, n.1, (let l = n.2 in omega (arith, l)))

  item_there : (id : List ℕ) (h : IsDuplicate s q id) → Contains (all_items s) h.item
  item_there id h = let f = get_filter is_object (all_items s) h.object h.item h.item_is in contains_at (all_items s) f.0 h.item f.1

  one_duplicate : (id id' : List ℕ) → IsDuplicate s q id → IsDuplicate s q id' → id ≡ id'
  one_duplicate id id' h k =
      by (apart h.item k.item (item_there id h) (item_there id' k) (of_head (found_in_head h.item is_id_name q h.place_is)) (of_head (found_in_head k.item is_id_name q k.place_is)))
    where
      n : (object : ObjectRole) × (object_of h.item.role ≡ Some object) × (object.number ≡ h.object)
      n = object_there id h

      m : (object : ObjectRole) × (object_of k.item.role ≡ Some object) × (object.number ≡ k.object)
      m = object_there id' k

      by : AreOneOrBelow h.item k.item → id ≡ id'
      by (one e) =
          let object : n.0 ≡ m.0 = same_Some n.0 m.0 (sym n.1 ∙ ap (λ (z : Item). object_of z.role) e ∙ m.1) in
          let same : h.object ≡ k.object = sym n.2 ∙ ap (λ (o : ObjectRole). o.number) object ∙ m.2 in
          same_Some id id' (sym h.id_is ∙ ap (slice_get (file_ids s)) same ∙ k.id_is)
      by (below o p r u) = absurd (none-some n.0 (sym (ap object_of r) ∙ n.1))
      by (above o p r u) = absurd (none-some m.0 (sym (ap object_of r) ∙ m.1))

  module _ (well : WellMeta s.meta) where
    -- faults of one kind at a place
    one_at : (f g : ModelFault) → rank f ≡ rank g → StandsAt s f q → StandsAt s g q → f ≡ g
    one_at (faults.UnknownClass a) g e x y = of_class g e y
      where
        of_class : (g : ModelFault) → 2 ≡ rank g → StandsAt s g q → faults.UnknownClass a ≡ g
        of_class (faults.UnknownClass b) e y = ap (λ n. faults.UnknownClass n) (one_class a b x y)
        of_class (faults.UnknownProperty id prop) e y = absurd (omega (arith, e))
        of_class (faults.WrongValue id prop) e y = absurd (omega (arith, e))
        of_class (faults.DuplicateId id) e y = absurd (omega (arith, e))
        of_class (faults.Dangling id prop reference) e y = absurd y
        of_class (faults.TwoContainers id) e y = absurd y
        of_class (faults.Mismatch id prop other other_prop) e y = absurd y
        of_class (faults.Invalid breach id) e y = absurd y
        of_class (faults.Limit kind) e y = absurd y
    one_at (faults.UnknownProperty id a) g e x y = of_property g e y
      where
        of_property : (g : ModelFault) → 3 ≡ rank g → StandsAt s g q → faults.UnknownProperty id a ≡ g
        of_property (faults.UnknownProperty id' b) e y = let same = one_property id a id' b x y in ap₂ (λ n p. faults.UnknownProperty n p) same.0 same.1
        of_property (faults.UnknownClass b) e y = absurd (omega (arith, e))
        of_property (faults.WrongValue id' prop) e y = absurd (omega (arith, e))
        of_property (faults.DuplicateId id') e y = absurd (omega (arith, e))
        of_property (faults.Dangling id' prop reference) e y = absurd y
        of_property (faults.TwoContainers id') e y = absurd y
        of_property (faults.Mismatch id' prop other other_prop) e y = absurd y
        of_property (faults.Invalid breach id') e y = absurd y
        of_property (faults.Limit kind) e y = absurd y
    one_at (faults.WrongValue id prop) g e x y = of_wrong g e y
      where
        of_wrong : (g : ModelFault) → 4 ≡ rank g → StandsAt s g q → faults.WrongValue id prop ≡ g
        of_wrong (faults.WrongValue id' prop') e y = let same = one_wrong well id prop id' prop' x y in ap₂ (λ n p. faults.WrongValue n p) same.0 same.1
        of_wrong (faults.UnknownClass b) e y = absurd (omega (arith, e))
        of_wrong (faults.UnknownProperty id' b) e y = absurd (omega (arith, e))
        of_wrong (faults.DuplicateId id') e y = absurd (omega (arith, e))
        of_wrong (faults.Dangling id' b reference) e y = absurd y
        of_wrong (faults.TwoContainers id') e y = absurd y
        of_wrong (faults.Mismatch id' b other other_prop) e y = absurd y
        of_wrong (faults.Invalid breach id') e y = absurd y
        of_wrong (faults.Limit kind) e y = absurd y
    one_at (faults.DuplicateId id) g e x y = of_duplicate g e y
      where
        of_duplicate : (g : ModelFault) → 5 ≡ rank g → StandsAt s g q → faults.DuplicateId id ≡ g
        of_duplicate (faults.DuplicateId id') e y = ap (λ n. faults.DuplicateId n) (one_duplicate id id' x y)
        of_duplicate (faults.UnknownClass b) e y = absurd (omega (arith, e))
        of_duplicate (faults.UnknownProperty id' b) e y = absurd (omega (arith, e))
        of_duplicate (faults.WrongValue id' b) e y = absurd (omega (arith, e))
        of_duplicate (faults.Dangling id' b reference) e y = absurd y
        of_duplicate (faults.TwoContainers id') e y = absurd y
        of_duplicate (faults.Mismatch id' b other other_prop) e y = absurd y
        of_duplicate (faults.Invalid breach id') e y = absurd y
        of_duplicate (faults.Limit kind) e y = absurd y
    one_at (faults.Dangling id prop reference) g e x y = absurd x
    one_at (faults.TwoContainers id) g e x y = absurd x
    one_at (faults.Mismatch id prop other other_prop) g e x y = absurd x
    one_at (faults.Invalid breach id) g e x y = absurd x
    one_at (faults.Limit kind) g e x y = absurd x

-- the first fault by its place is one
pub one_first_at : (s : Source) (f g : ModelFault) → WellMeta s.meta → IsFirstAt s f → IsFirstAt s g → f ≡ g
one_first_at s f g well x y = one_at s x.place well f g same.1 x.stands (subst (StandsAt s g) (sym same.0) y.stands)
  where
    both : (x.place < y.place) ⊎ ((x.place ≡ y.place) × (rank f ≤ rank g)) → (y.place < x.place) ⊎ ((y.place ≡ x.place) × (rank g ≤ rank f)) → (x.place ≡ y.place) × (rank f ≡ rank g)
    both (inl l) (inl k) = absurd (omega (arith, l, k))
    both (inl l) (inr k) = let e = k.0 in absurd (omega (arith, l, e))
    both (inr l) (inl k) = let e = l.0 in absurd (omega (arith, k, e))
    both (inr l) (inr k) = (l.0, (let up = l.1 in let down = k.1 in omega (arith, up, down)))

    same : (x.place ≡ y.place) × (rank f ≡ rank g)
    same = both (x.first g y.place y.stands) (y.first f x.place x.stands)

-- The model whose objects are numbered by those of a model that aren't gone: it is the same, and it is written as the same value.
use Rattle.std.proofs.Common.{◌≡◌, ◌⊎◌, ℕ, suc, ◌+◌, ◌<◌, ◌≤◌, ◌==◌, Bool, true, List, [], ◌∷◌, length, get_or, map, codes, refl, sym, ap, ap₂, ◌∙◌, subst, arith, Option, None, Some, inl, inr}
use Rattle.std.specs.Prelude.{Contains, filter, is_some}
use Rattle.std.specs.List.{range_with_len}
use Rattle.std.proofs.lemmas.Bool.{cases_lt, cond-true, cond-false, eq-eqb, ne_eqb}
use Rattle.std.proofs.lemmas.List.{get_or_past, length-map}
use Rattle.std.proofs.lemmas.List.FromFn.{length-range_with_len, get_or-range_with_len}
use Rattle.serde_json.specs.Data.{Data, array, object, member, Members, no_members, number, unsigned}
use Rattle.serde_json.specs.View.{items_of}
use Rattle.object_tables.specs.declared.limit.TheConstants.{MAX_DEPTH, MAX_OBJECTS}
use Rattle.object_tables.specs.declared.value.Value.{Value}
use Rattle.object_tables.specs.Containment.{IsDepth}
use Rattle.object_tables.specs.Models.{ModelData, object_at, class_at, id_at, values_at, partners_at, slot_in, index_of, live_count, IsLive}
use Rattle.object_tables.specs.Objects.{Object}
use Rattle.object_tables.specs.Sameness.{IsSame}
use Rattle.object_tables.specs.Validity.{Valid}
use Rattle.object_tables.proofs.ModelLemmas.{live_from_id}
use Rattle.model_assembly.specs.declared.form.Form.{Form}
use Rattle.model_assembly.specs.declared.form.Form.TheVariants as forms
use Rattle.model_assembly.specs.Forms.{form_of}
use Rattle.model_assembly.specs.Held.{IsHeld, IsHeldText, IsHeldModel}
use Rattle.model_assembly.specs.Profile.{prop_name, id_or_none, id_text, name_or_none, class_text, props_or_none, object_props, live_numbers}
use Rattle.model_assembly.proofs.assembling.ListLaws.{in_cons, contains_tail}
use Rattle.mof_metamodel.proofs.Facts.{nothing_in}
use Rattle.mof_metamodel.proofs.Facts.{contains_first}
use Rattle.model_assembly.proofs.WritingParts.{kept_in, numbered, known}
use Rattle.xmi_profile.proofs.written.Known.{partner_live}
use Rattle.xmi_profile.proofs.written.Reading.{live_count_is}
use Rattle.xmi_profile.proofs.written.Reordered as orders
use Rattle.xmi_profile.proofs.written.Reordered.{IsNumbering, Rising}
use Rattle.model_files.specs.CanonJson.{text_data, value_data, partner_data, data_by, slot_data, with_slot, with_slots, slots_data, object_data, objects_data, model_data}
use Rattle.model_files.proofs.read_back.Linking.{map_twice, map_alike}
use Rattle.model_files.proofs.read_back.Objects.{rising_once, live_rise, listed_live}

-- ---- lists

rising_places : (xs : List ℕ) (a b : ℕ) → Rising xs → Contains xs a → Contains xs b → a < b → index_of xs a < index_of xs b
rising_places [] a b r ca cb less = absurd (nothing_in a ca)
rising_places (x ∷ xs) a b r ca cb less = by (in_cons x xs a ca) (in_cons x xs b cb) (λ da db. rising_places xs a b r.1 da db less)
  where
    at_first : (y : ℕ) → x ≡ y → index_of (x ∷ xs) y ≡ 0
    at_first y e = cond-true (x == y) 0 (suc (index_of xs y)) (eq-eqb x y e)

    behind : (y : ℕ) → x < y → index_of (x ∷ xs) y ≡ suc (index_of xs y)
    behind y l = cond-false (x == y) 0 (suc (index_of xs y)) (ne_eqb x y (λ e. omega (arith, l, e)))

    by : (x ≡ a) ⊎ Contains xs a → (x ≡ b) ⊎ Contains xs b → (Contains xs a → Contains xs b → index_of xs a < index_of xs b) → index_of (x ∷ xs) a < index_of (x ∷ xs) b
    by (inl e) (inl f) rest = absurd (omega (arith, less, e, f))
    by (inl e) (inr d) rest = let here = at_first a e in let there = behind b (r.0 b d) in omega (arith, here, there)
    by (inr c) (inl f) rest = absurd (let more = r.0 a c in omega (arith, less, more, f))
    by (inr c) (inr d) rest = let here = behind a (r.0 a c) in let there = behind b (r.0 b d) in let later = rest c d in omega (arith, here, there, later)

filtered_all : (p : ℕ → Bool) (xs : List ℕ) → ((x : ℕ) → Contains xs x → p x ≡ true) → filter p xs ≡ xs
filtered_all p [] h = refl
filtered_all p (x ∷ xs) h =
    cond-true (p x) (x ∷ filter p xs) (filter p xs) (h x (contains_first x xs)) ∙ ap (λ (ys : List ℕ). x ∷ ys) (filtered_all p xs (λ y c. h y (contains_tail x y xs c)))

range_mapped : (f : ℕ → ℕ) (a : ℕ) (xs : List ℕ) → ((i : ℕ) → i < length xs → f (get_or xs i 0) ≡ a + i) → map f xs ≡ range_with_len a (length xs)
range_mapped f a [] h = refl
range_mapped f a (x ∷ xs) h =
    let first : f x ≡ a + 0 = h 0 (omega arith) in
    let none : a + 0 ≡ a = omega arith in
    ap₂ (λ (y : ℕ) (ys : List ℕ). y ∷ ys) (first ∙ none)
    (range_mapped f (a + 1) xs (λ i l. (let next : a + suc i ≡ a + 1 + i = omega arith in h (suc i) (omega (arith, l)) ∙ next)))

module _ (m : ModelData) (v : Valid m) (shallow : (o d : ℕ) → IsLive m o → IsDepth m o d → d ≤ MAX_DEPTH) (held : IsHeldModel m) where
  abbrev order : List ℕ
  order = live_numbers m

  -- the model without gaps
  abbrev pub dense : ModelData
  dense = orders.renumbered m order

  abbrev image : ℕ → ℕ
  image o = orders.image m order o

  abbrev origin : ℕ → ℕ
  origin q = orders.origin m order q

  numbering : IsNumbering m order
  numbering = record {
    once = rising_once order (live_rise m);
    all = λ o live. kept_in (λ x. is_some (object_at m x)) (range_with_len 0 (length m.objects)) o (numbered (length m.objects) o (known m o live)) live;
    live = listed_live m;
  }

  pub same_dense : IsSame m dense
  same_dense = orders.same_model m order v numbering (λ a b la ta lb tb less. rising_places order a b (live_rise m) (numbering.all a la) (numbering.all b lb) less)

  pub valid_dense : Valid dense
  valid_dense = orders.valid_there m order v numbering

  pub shallow_dense : (o d : ℕ) → IsLive dense o → IsDepth dense o d → d ≤ MAX_DEPTH
  shallow_dense = orders.depth_there m order v numbering shallow

  long : length dense.objects ≡ length order
  long = length-map order (λ o. orders.moved m order (object_at m o))

  -- ---- without gaps

  pub lives_dense : (q : ℕ) → q < length dense.objects → IsLive dense q
  lives_dense q l =
      let within : q < length order = (let same = long in omega (arith, l, same)) in
      subst (IsLive dense) (orders.there m order v numbering q within) (orders.live_there m order v numbering (origin q) (orders.origin_live m order v numbering q within))

  pub numbers_dense : live_numbers dense ≡ range_with_len 0 (length dense.objects)
  numbers_dense =
      filtered_all (λ o. is_some (object_at dense o)) (range_with_len 0 (length dense.objects)) (λ x (i, l, e). (
      let count = length-range_with_len 0 (length dense.objects) in
      let at : get_or (range_with_len 0 (length dense.objects)) i x ≡ 0 + i = get_or-range_with_len 0 (length dense.objects) i x (omega (arith, l, count)) in
      let same : i ≡ x = (let f : get_or (range_with_len 0 (length dense.objects)) i x ≡ x = e in omega (arith, at, f)) in
      subst (IsLive dense) same (lives_dense i (omega (arith, l, count)))))

  -- ---- what it holds

  values_live : (q p : ℕ) → IsLive dense q → values_at dense q p ≡ values_at m (origin q) p
  values_live q p live =
      ap (λ (x : ℕ). values_at dense x p) (sym (orders.image_origin m order v numbering q live)) ∙ orders.values_there m order v numbering (origin q) p (orders.live_back m order v numbering q live)

  values_past : (q p : ℕ) → length dense.objects ≤ q → values_at dense q p ≡ []
  values_past q p l = ap (λ (x : Option Object). (slot_in m.meta p x).values) (get_or_past dense.objects q None l)

  pub held_dense : IsHeldModel dense
  held_dense = record {
    names = held.names;
    ids = λ q id e. (
        let live = live_from_id dense q id e in
        held.ids (origin q) id
        (sym (orders.id_there m order v numbering (origin q) (orders.live_back m order v numbering q live)) ∙ ap (id_at dense) (orders.image_origin m order v numbering q live) ∙ e));
    values = λ q p w c. elim (cases_lt q (length dense.objects)) [
      | inl l ↦ held.values (origin q) p w (subst (λ (ws : List Value). Contains ws w) (values_live q p (lives_dense q l)) c)
      | inr past ↦ absurd (nothing_in w (subst (λ (ws : List Value). Contains ws w) (values_past q p past) c))
    ];
  }

  pub few_dense : live_count m ≤ MAX_OBJECTS → live_count dense ≤ MAX_OBJECTS
  few_dense few =
      let here = live_count_is m held v shallow in
      let there = live_count_is dense held_dense valid_dense shallow_dense in
      let all = ap length numbers_dense in
      let count = length-range_with_len 0 (length dense.objects) in
      let same = long in
      omega (arith, few, here, there, all, count, same)

  -- ---- how it is written

  partner_same : (b : ℕ) → IsLive m b → partner_data dense (image b) ≡ partner_data m b
  partner_same b live = ap (λ (x : Option (List ℕ)). text_data (id_or_none x)) (orders.id_there m order v numbering b live)

  slot_same : (o p : ℕ) → IsLive m o → slot_data dense (image o) p ≡ slot_data m o p
  slot_same o p live = by (form_of m.meta p)
    where
      of_values : map (value_data m.meta) (values_at dense (image o) p) ≡ map (value_data m.meta) (values_at m o p)
      of_values = ap (map (value_data m.meta)) (orders.values_there m order v numbering o p live)

      of_partners : map (partner_data dense) (partners_at dense (image o) p) ≡ map (partner_data m) (partners_at m o p)
      of_partners =
          ap (map (partner_data dense)) (orders.partners_there m order v numbering o p live) ∙ map_twice (partner_data dense) image (partners_at m o p)
          ∙ map_alike (λ b. partner_data dense (image b)) (partner_data m) (partners_at m o p) (λ b c. partner_same b (partner_live m v.kept o p b c))

      by : (f : Form) → data_by dense (image o) p f ≡ data_by m o p f
      by forms.Attribute = of_values
      by forms.Elements = of_values
      by forms.Identifiers = of_partners
      by forms.Parts = of_partners
      by forms.Nesting = refl

  slots_same : (o : ℕ) → IsLive m o → (ps : List ℕ) (ms : Members) → with_slots dense (image o) ps ms ≡ with_slots m o ps ms
  slots_same o live [] ms = refl
  slots_same o live (p ∷ ps) ms =
      slots_same o live ps (with_slot (prop_name m.meta p) (slot_data dense (image o) p) ms)
      ∙ ap (λ (ds : List Data). with_slots m o ps (with_slot (prop_name m.meta p) ds ms)) (slot_same o p live)

  object_same : (o : ℕ) → IsLive m o → object_data dense (image o) ≡ object_data m o
  object_same o live =
      let class : class_at dense (image o) ≡ class_at m o = orders.class_there m order v numbering o live in
      let id : id_at dense (image o) ≡ id_at m o = orders.id_there m order v numbering o live in
      let slots : slots_data dense (image o) ≡ slots_data m o = ap (λ (x : Option ℕ). with_slots dense (image o) (props_or_none m.meta x) no_members) class ∙ slots_same o live (object_props m o) no_members in
      ap₂ (λ (x : Option ℕ) (y : Option (List ℕ)). object (member (codes "class") (text_data (name_or_none m.meta x)) (member (codes "id") (text_data (id_or_none y)) (member (codes "slots") (object (slots_data dense (image o))) no_members)))) class id
      ∙ ap (λ (ms : Members). object (member (codes "class") (text_data (class_text m o)) (member (codes "id") (text_data (id_text m o)) (member (codes "slots") (object ms) no_members)))) slots

  numbers_mapped : live_numbers dense ≡ map image order
  numbers_mapped =
      numbers_dense ∙ ap (range_with_len 0) long
      ∙ sym (range_mapped image 0 order (λ i l. (let same : i ≡ 0 + i = omega arith in orders.there m order v numbering i l ∙ same)))

  pub value_same : model_data dense ≡ model_data m
  value_same =
      ap (λ (ds : List Data). object (member (codes "metamodel") (text_data m.meta.name) (member (codes "objects") (array (items_of ds)) (member (codes "version") (number (unsigned 1)) no_members))))
      (ap (map (object_data dense)) numbers_mapped ∙ map_twice (object_data dense) image order
      ∙ map_alike (λ o. object_data dense (image o)) (object_data m) order (λ o c. object_same o (listed_live m o c)))

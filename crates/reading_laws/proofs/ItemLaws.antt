-- A template matches exactly where each template in it has its object and each item in it holds: by recursion on the template.
use Rattle.std.specs.Prelude.{◌≡◌, ◌⊎◌, ℕ, zero, suc, Bool, true, ◌&&◌, List, [], ◌∷◌, map, Option, None, Some, Contains}
use Rattle.std.specs.List.{flat_map, list_all}
use Rattle.std.proofs.Common.{refl, sym, ap, subst, ◌∙◌, arith, inl, inr}
use Rattle.std.proofs.lemmas.Bool.{and_parts, true≢false, and_from}
use Rattle.std.proofs.lemmas.List.Elements.{Contains-append_cases}
use Rattle.mof_metamodel.specs.declared.desc.PropId.{PropId}
use Rattle.object_tables.specs.Models.{ModelData}
use Rattle.qv_syntax.specs.declared.program.Program.{Program}
use Rattle.qv_syntax.specs.declared.program.Tmpl.{Tmpl, out-Tmpl, roll-Tmpl, map-Tmpl, ind-Tmpl, fold-roll-Tmpl, out-roll-Tmpl}
use Rattle.qv_syntax.specs.declared.program.Item.{Item, roll-Item, map-Item, fold-roll-Item}
use Rattle.qv_syntax.specs.declared.program.ItemValue.{ItemValue, roll-ItemValue, out-ItemValue, map-ItemValue, fold-roll-ItemValue, out-roll-ItemValue}
use Rattle.qv_syntax.specs.declared.program.ItemValue.TheVariants as items
use Rattle.qv_syntax.specs.declared.program.ItemValue.TheOpen as layers
use Rattle.qv_syntax.specs.declared.typed.Typed.{Typed}
use Rattle.qv_syntax.specs.Parts.{IsNested, HasItem}
use Rattle.qvtr_semantics.specs.declared.datum.Datum.{Datum}
use Rattle.qvtr_semantics.specs.Objects.{held_at}
use Rattle.qvtr_semantics.specs.Expressions.{setting}
use Rattle.qvtr_semantics.specs.Templates.{Values, SlotMeaning, ItemMeaning, Pattern, value_at, has, is_of_class, object_matches, slot_meaning, item_meaning, tmpl_meaning, pattern, meets}
use Rattle.qvtr_semantics.proofs.TemplateLaws.{slot_of, item_of as meaning_of}
use Rattle.repair_semantics.specs.TargetItems.{Content, TargetItem, ContentPart, TemplatePart, ItemPart, content_part, item_part, template_part, parts}
use Rattle.repair_semantics.proofs.ItemLaws.{content_of, item_of}
use Rattle.template_match.proofs.ListLaws.{contains_later, contains_left, contains_right}
use Rattle.mof_metamodel.proofs.Facts.{contains_first}
use Rattle.reading_laws.specs.Matching.{slot_holds, content_holds, item_holds, HasObject, HoldsThroughout}
use Rattle.mof_metamodel.proofs.Facts.{nothing_in}

pub all_from : {X : Type 0} (p : X → Bool) (xs : List X) → ((x : X) → Contains xs x → p x ≡ true) → list_all p xs ≡ true
all_from p [] h = refl
all_from p (x ∷ xs) h = and_from (p x) (list_all p xs) (h x (contains_first x xs)) (all_from p xs (λ y c. h y (contains_later y x xs c)))

one_template : (s t : Tmpl) → items.Nested s ≡ items.Nested t → s ≡ t
one_template s t h = by (sym (out-roll-ItemValue (layers.Nested s)) ∙ ap out-ItemValue (items.rolls-Nested s ∙ h ∙ sym (items.rolls-Nested t)) ∙ out-roll-ItemValue (layers.Nested t))
  where
    by : ◌≡◌ {A = layers.ItemValue-F ItemValue Item Tmpl} (layers.Nested s) (layers.Nested t) → s ≡ t
    by e = cc

not_template : (l : layers.ItemValue-F ItemValue Item Tmpl) (t : Tmpl) → roll-ItemValue l ≡ items.Nested t → l ≡ layers.Nested t
not_template l t h = sym (out-roll-ItemValue l) ∙ ap out-ItemValue (h ∙ sym (items.rolls-Nested t)) ∙ out-roll-ItemValue (layers.Nested t)

empty_no_template : (t : Tmpl) → ◌≡◌ {A = layers.ItemValue-F ItemValue Item Tmpl} layers.Null (layers.Nested t) → ⊥
empty_no_template t h = cc

expression_no_template : (e : Typed) (t : Tmpl) → ◌≡◌ {A = layers.ItemValue-F ItemValue Item Tmpl} (layers.Expr e) (layers.Nested t) → ⊥
expression_no_template e t h = cc

module _ (program : Program) (models : List ModelData) (g : Values) where
  -- ---- what a value, an item and a template ask

  -- the templates in a value have their objects
  abbrev ObjectsWithin : ItemValue → Type 0
  ObjectsWithin value = (t inner : Tmpl) → value ≡ items.Nested t → IsNested t inner → HasObject program models g inner

  record ValueFits (value : ItemValue) (held : Option (List Datum)) : Type 0 where
    own : slot_holds program models g held (content_of value).content ≡ true
    within : (i : TargetItem) → Contains (content_of value).within i → item_holds program models g i ≡ true
    objects : ObjectsWithin value

  record ItemFits (item : Item) (owner : ℕ) : Type 0 where
    all : (i : TargetItem) → Contains (item_of item owner) i → item_holds program models g i ≡ true
    objects : ObjectsWithin item.value

  record ValueTold (value : ItemValue) : Type 0 where
    there : (held : Option (List Datum)) → slot_of program models value g held ≡ true → ValueFits value held
    back : (held : Option (List Datum)) → ValueFits value held → slot_of program models value g held ≡ true

  record ItemTold (item : Item) : Type 0 where
    there : (owner : ℕ) (d : Datum) → value_at g owner ≡ Some d → meaning_of program models item g d ≡ true → ItemFits item owner
    back : (owner : ℕ) (d : Datum) → value_at g owner ≡ Some d → ItemFits item owner → meaning_of program models item g d ≡ true

  record TmplTold (t : Tmpl) : Type 0 where
    var : (parts t).var ≡ (out-Tmpl t).var
    own : (pattern program models t).var ≡ (out-Tmpl t).var
    there : meets program models t g ≡ true → HoldsThroughout program models g t
    back : HoldsThroughout program models g t → meets program models t g ≡ true

  abbrev V : Type 0
  V = (v : ItemValue) × ValueTold v

  abbrev I : Type 0
  I = (i : Item) × ItemTold i

  abbrev T : Type 0
  T = (t : Tmpl) × TmplTold t

  -- ---- values

  slot_rolls : (d : layers.ItemValue-F ItemValue Item Tmpl) → slot_of program models (roll-ItemValue d)
      ≡ slot_meaning program models (map-ItemValue ItemValue Item Tmpl SlotMeaning ItemMeaning Pattern (slot_of program models) (meaning_of program models) (pattern program models) d)
  slot_rolls d = fold-roll-ItemValue SlotMeaning ItemMeaning Pattern (slot_meaning program models) (item_meaning (setting program models)) (tmpl_meaning (setting program models)) d

  content_rolls : (d : layers.ItemValue-F ItemValue Item Tmpl) → content_of (roll-ItemValue d) ≡ content_part (map-ItemValue ItemValue Item Tmpl ContentPart ItemPart TemplatePart content_of item_of parts d)
  content_rolls d = fold-roll-ItemValue ContentPart ItemPart TemplatePart content_part item_part template_part d

  -- a value that is no template asks its slot alone
  plain_value : (d : layers.ItemValue-F ItemValue Item Tmpl) (c : Content) → content_of (roll-ItemValue d) ≡ record { content = c; within = [] }
      → ((t : Tmpl) → d ≡ layers.Nested t → ⊥)
      → ((held : Option (List Datum)) → slot_of program models (roll-ItemValue d) g held ≡ slot_holds program models g held c) → ValueTold (roll-ItemValue d)
  plain_value d c part plain asks = record {
    there = λ held h. record {
      own = ap (λ (p : ContentPart). slot_holds program models g held p.content) part ∙ sym (asks held) ∙ h;
      within = λ i among. absurd (nothing_in i (subst (λ (p : ContentPart). Contains p.within i) part among));
      objects = λ t inner is nested. absurd (plain t (not_template d t is));
    };
    back = λ held fits. asks held ∙ sym (ap (λ (p : ContentPart). slot_holds program models g held p.content) part) ∙ fits.own;
  }

  nested_value : (z : T) → ValueTold (roll-ItemValue (layers.Nested z.0))
  nested_value z =
      let t : Tmpl = z.0 in
      let part : content_of (roll-ItemValue (layers.Nested t)) ≡ record { content = Content.template (parts t).var; within = (parts t).items } = content_rolls (layers.Nested t) in
      let variable : value_at g (parts t).var ≡ value_at g (pattern program models t).var = ap (value_at g) (z.1.var ∙ sym z.1.own) in
      record {
        there = λ held h.
            let both = and_parts (has held (value_at g (pattern program models t).var)) (meets program models t g) (sym (ap (λ (m : SlotMeaning). m g held) (slot_rolls (layers.Nested t))) ∙ h) in
            let all = z.1.there both.1 in
            record {
              own = ap (λ (p : ContentPart). slot_holds program models g held p.content) part ∙ ap (has held) variable ∙ both.0;
              within = λ i among. all.items i (subst (λ (p : ContentPart). Contains p.within i) part among);
              objects = λ s inner is nested. all.objects inner (subst (λ x. IsNested x inner) (sym (one_template t s (sym (items.rolls-Nested t) ∙ is))) nested);
            };
        back = λ held fits.
            ap (λ (m : SlotMeaning). m g held) (slot_rolls (layers.Nested t))
            ∙ and_from (has held (value_at g (pattern program models t).var)) (meets program models t g)
            (ap (has held) (sym variable) ∙ sym (ap (λ (p : ContentPart). slot_holds program models g held p.content) part) ∙ fits.own)
            (z.1.back (record {
              objects = λ inner nested. fits.objects t inner (items.rolls-Nested t) nested;
              items = λ i among. fits.within i (subst (λ (p : ContentPart). Contains p.within i) (sym part) among);
            }));
      }

  value_layer : (y : layers.ItemValue-F V I T) → ValueTold (roll-ItemValue (map-ItemValue V I T ItemValue Item Tmpl (λ x. x.0) (λ x. x.0) (λ x. x.0) y))
  value_layer layers.Null = plain_value layers.Null Content.empty (content_rolls layers.Null) empty_no_template (λ held. ap (λ (m : SlotMeaning). m g held) (slot_rolls layers.Null))
  value_layer (layers.Expr e) =
      plain_value (layers.Expr e) (Content.expression e) (content_rolls (layers.Expr e)) (expression_no_template e) (λ held. ap (λ (m : SlotMeaning). m g held) (slot_rolls (layers.Expr e)))
  value_layer (layers.Nested z) = nested_value z

  -- ---- items

  own_item : (owner : ℕ) (d : Datum) (p : PropId) (c : Content) → value_at g owner ≡ Some d
      → content_holds program models g p c (value_at g owner) ≡ slot_holds program models g (held_at (setting program models) d p.0) c
  own_item owner d p c at = ap (content_holds program models g p c) at

  item_layer : (y : layers.Item-F V I T) → ItemTold (roll-Item (map-Item V I T ItemValue Item Tmpl (λ x. x.0) (λ x. x.0) (λ x. x.0) y))
  item_layer y =
      let layer = map-Item V I T ItemValue Item Tmpl (λ x. x.0) (λ x. x.0) (λ x. x.0) y in
      let item : Item = roll-Item layer in
      let value : ItemValue = y.value.0 in
      let asks : (d : Datum) → meaning_of program models item g d ≡ slot_of program models value g (held_at (setting program models) d y.prop.0) =
      λ d. ap (λ (m : ItemMeaning). m g d) (fold-roll-Item SlotMeaning ItemMeaning Pattern (slot_meaning program models) (item_meaning (setting program models)) (tmpl_meaning (setting program models)) layer) in
      let part : (owner : ℕ) → item_of item owner ≡ record { owner = owner; prop = y.prop; content = (content_of value).content } ∷ (content_of value).within =
      λ owner. ap (λ (f : ItemPart). f owner) (fold-roll-Item ContentPart ItemPart TemplatePart content_part item_part template_part layer) in
      record {
        there = λ owner d at h.
            let fits = y.value.1.there (held_at (setting program models) d y.prop.0) (sym (asks d) ∙ h) in
            record {
              all = λ i among. each owner d at fits i (subst (λ is. Contains is i) (part owner) among);
              objects = fits.objects;
            };
        back = λ owner d at fits.
            let own : TargetItem = record { owner = owner; prop = y.prop; content = (content_of value).content } in
            asks d ∙ y.value.1.back (held_at (setting program models) d y.prop.0) (record {
              own = sym (own_item owner d y.prop (content_of value).content at) ∙ fits.all own (subst (λ is. Contains is own) (sym (part owner)) (contains_first own (content_of value).within));
              within = λ i among. fits.all i (subst (λ is. Contains is i) (sym (part owner)) (contains_later i own (content_of value).within among));
              objects = fits.objects;
            });
      }
    where
      each : (owner : ℕ) (d : Datum) → value_at g owner ≡ Some d → ValueFits y.value.0 (held_at (setting program models) d y.prop.0) → (i : TargetItem)
          → Contains (record { owner = owner; prop = y.prop; content = (content_of y.value.0).content } ∷ (content_of y.value.0).within) i → item_holds program models g i ≡ true
      each owner d at fits i (zero, below, same) = ap (item_holds program models g) (sym same) ∙ own_item owner d y.prop (content_of y.value.0).content at ∙ fits.own
      each owner d at fits i (suc k, below, same) = fits.within i (k, omega (arith, below), same)

  -- ---- templates

  abbrev items_in : List I → List Item
  items_in is = map (λ i. i.0) is

  abbrev flat_items : ℕ → List I → List TargetItem
  flat_items u is = flat_map (λ (f : ItemPart). f u) (map item_of (items_in is))

  -- what each element of a list keeps holds of each of its items
  told_at : (is : List I) (item : Item) → Contains (items_in is) item → ItemTold item
  told_at [] item c = absurd (nothing_in item c)
  told_at (x ∷ is) item (zero, below, same) = subst ItemTold same x.1
  told_at (x ∷ is) item (suc k, below, same) = told_at is item (k, omega (arith, below), same)

  in_flat : (u : ℕ) (is : List I) (i : TargetItem) → Contains (flat_items u is) i → (item : Item) × Contains (items_in is) item × Contains (item_of item u) i
  in_flat u [] i c = absurd (nothing_in i c)
  in_flat u (x ∷ is) i c = by (λ d. in_flat u is i d) (Contains-append_cases (item_of x.0 u) (flat_items u is) i c)
    where
      by : (Contains (flat_items u is) i → (item : Item) × Contains (items_in is) item × Contains (item_of item u) i) → Contains (item_of x.0 u) i ⊎ Contains (flat_items u is) i
          → (item : Item) × Contains (items_in (x ∷ is)) item × Contains (item_of item u) i
      by rest (inl d) = (x.0, contains_first x.0 (items_in is), d)
      by rest (inr d) = let (item, among, within) = rest d in (item, contains_later item x.0 (items_in is) among, within)

  flat_in : (u : ℕ) (is : List I) (item : Item) (i : TargetItem) → Contains (items_in is) item → Contains (item_of item u) i → Contains (flat_items u is) i
  flat_in u [] item i c d = absurd (nothing_in item c)
  flat_in u (x ∷ is) item i (zero, below, same) d = contains_left i (item_of x.0 u) (flat_items u is) (subst (λ y. Contains (item_of y u) i) (sym same) d)
  flat_in u (x ∷ is) item i (suc k, below, same) d = contains_right i (item_of x.0 u) (flat_items u is) (flat_in u is item i (k, omega (arith, below), same) d)

  abbrev all_hold : List I → Datum → Bool
  all_hold is d = list_all (λ (item : ItemMeaning). item g d) (map (meaning_of program models) (items_in is))

  each_holds : (is : List I) (d : Datum) → all_hold is d ≡ true → (item : Item) → Contains (items_in is) item → meaning_of program models item g d ≡ true
  each_holds [] d h item c = absurd (nothing_in item c)
  each_holds (x ∷ is) d h item (zero, below, same) = ap (λ y. meaning_of program models y g d) (sym same) ∙ (and_parts (meaning_of program models x.0 g d) (all_hold is d) h).0
  each_holds (x ∷ is) d h item (suc k, below, same) = each_holds is d (and_parts (meaning_of program models x.0 g d) (all_hold is d) h).1 item (k, omega (arith, below), same)

  hold_each : (is : List I) (d : Datum) → ((item : Item) → Contains (items_in is) item → meaning_of program models item g d ≡ true) → all_hold is d ≡ true
  hold_each [] d h = refl
  hold_each (x ∷ is) d h = and_from (meaning_of program models x.0 g d) (all_hold is d) (h x.0 (contains_first x.0 (items_in is))) (hold_each is d (λ item c. h item (contains_later item x.0 (items_in is) c)))

  record ObjectFits (u class : ℕ) (is : List I) : Type 0 where
    datum : Datum
    at : value_at g u ≡ Some datum
    of_class : is_of_class (setting program models) class datum ≡ true
    all : (item : Item) → Contains (items_in is) item → ItemFits item u

  object_there : (u class : ℕ) (is : List I) (o : Option Datum) → value_at g u ≡ o
      → object_matches (setting program models) class (map (meaning_of program models) (items_in is)) g o ≡ true → ObjectFits u class is
  object_there u class is None at h = absurd (true≢false (sym h))
  object_there u class is (Some d) at h =
      let both = and_parts (is_of_class (setting program models) class d) (all_hold is d) h in
      record { datum = d; at = at; of_class = both.0; all = λ item c. (told_at is item c).there u d at (each_holds is d both.1 item c) }

  object_back : (u class : ℕ) (is : List I) → ObjectFits u class is
      → object_matches (setting program models) class (map (meaning_of program models) (items_in is)) g (value_at g u) ≡ true
  object_back u class is fits =
      ap (object_matches (setting program models) class (map (meaning_of program models) (items_in is)) g) fits.at
      ∙ and_from (is_of_class (setting program models) class fits.datum) (all_hold is fits.datum) fits.of_class
      (hold_each is fits.datum (λ item c. (told_at is item c).back u fits.datum fits.at (fits.all item c)))

  -- a template within is the whole, or stands within one of the items
  nested_by : (is : List I) (t inner : Tmpl) → ((item : Item) → HasItem t item → Contains (items_in is) item) → HasObject program models g t
      → ((item : Item) → Contains (items_in is) item → ObjectsWithin item.value) → IsNested t inner → HasObject program models g inner
  nested_by is t inner has_item own each (IsNested.whole _) = own
  nested_by is t inner has_item own each (IsNested.inside _ prop part _ c nested) =
      each (record { prop = prop; value = items.Nested part }) (has_item (record { prop = prop; value = items.Nested part }) c) part inner refl nested

  tmpl_layer : (y : layers.Tmpl-F V I T) → TmplTold (roll-Tmpl (map-Tmpl V I T ItemValue Item Tmpl (λ x. x.0) (λ x. x.0) (λ x. x.0) y))
  tmpl_layer y =
      let d = map-Tmpl V I T ItemValue Item Tmpl (λ x. x.0) (λ x. x.0) (λ x. x.0) y in
      let t : Tmpl = roll-Tmpl d in
      let opens : out-Tmpl t ≡ d = out-roll-Tmpl d in
      let part : parts t ≡ record { var = y.var; items = flat_items y.var y.items } = fold-roll-Tmpl ContentPart ItemPart TemplatePart content_part item_part template_part d in
      let asks = fold-roll-Tmpl SlotMeaning ItemMeaning Pattern (slot_meaning program models) (item_meaning (setting program models)) (tmpl_meaning (setting program models)) d in
      let var : (out-Tmpl t).var ≡ y.var = ap (λ (x : layers.Tmpl-F ItemValue Item Tmpl). x.var) opens in
      let class : (out-Tmpl t).class.0 ≡ y.class.0 = ap (λ (x : layers.Tmpl-F ItemValue Item Tmpl). x.class.0) opens in
      record {
        var = ap (λ (p : TemplatePart). p.var) part ∙ sym var;
        own = ap (λ (p : Pattern). p.var) asks ∙ sym var;
        there = λ h.
            let fits = object_there y.var y.class.0 y.items (value_at g y.var) refl (sym (ap (λ (p : Pattern). p.matches g) asks) ∙ h) in
            record {
              objects = λ inner nested. nested_by y.items t inner (λ item c. subst (λ (x : layers.Tmpl-F ItemValue Item Tmpl). Contains x.items item) opens c)
                  (record { datum = fits.datum; at = ap (value_at g) var ∙ fits.at; of_class = ap (λ k. is_of_class (setting program models) k fits.datum) class ∙ fits.of_class })
                  (λ item c. (fits.all item c).objects) nested;
              items = λ i among.
                  let (item, c, within) = in_flat y.var y.items i (subst (λ (p : TemplatePart). Contains p.items i) part among) in
                  (fits.all item c).all i within;
            };
        back = λ holds.
            let object = holds.objects t (IsNested.whole t) in
            ap (λ (p : Pattern). p.matches g) asks ∙ object_back y.var y.class.0 y.items (record {
              datum = object.datum;
              at = ap (value_at g) (sym var) ∙ object.at;
              of_class = ap (λ k. is_of_class (setting program models) k object.datum) (sym class) ∙ object.of_class;
              all = λ item c. record {
                all = λ i within. holds.items i (subst (λ (p : TemplatePart). Contains p.items i) (sym part) (flat_in y.var y.items item i c within));
                objects = λ s inner is nested. holds.objects inner (IsNested.inside t item.prop s inner
                    (subst (λ (v : ItemValue). Contains (out-Tmpl t).items (record { prop = item.prop; value = v })) is
                    (subst (λ (x : layers.Tmpl-F ItemValue Item Tmpl). Contains x.items item) (sym opens) c)) nested);
              };
            });
      }

  told : (t : Tmpl) → TmplTold t
  told = ind-Tmpl ValueTold ItemTold TmplTold
      (λ x y is. subst (λ z. ValueTold (roll-ItemValue z)) is (value_layer y))
      (λ x y is. subst (λ z. ItemTold (roll-Item z)) is (item_layer y))
      (λ x y is. subst (λ z. TmplTold (roll-Tmpl z)) is (tmpl_layer y))

  -- ---- the law

  pub throughout_matched : (t : Tmpl) → meets program models t g ≡ true → HoldsThroughout program models g t
  throughout_matched t = (told t).there

  pub matched_throughout : (t : Tmpl) → HoldsThroughout program models g t → meets program models t g ≡ true
  matched_throughout t = (told t).back

  -- the variable of a template stands at its head
  pub variable_of_parts : (t : Tmpl) → (parts t).var ≡ (out-Tmpl t).var
  variable_of_parts t = (told t).var

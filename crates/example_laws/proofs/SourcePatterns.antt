-- What a template with items says where it matches, form by form: a value in a slot, a template in a slot.
use Rattle.std.proofs.Common.{◌≡◌, ℕ, true, ◌&&◌, List, [], ◌∷◌, map, Option, Some, refl, sym, ap, ◌∙◌}
use Rattle.std.specs.Prelude.{All}
use Rattle.std.specs.List.{list_all}
use Rattle.std.proofs.lemmas.Bool.{false≢true, and_parts}
use Rattle.std.proofs.lemmas.List.Elements.{All-nil, All-cons}
use Rattle.object_tables.specs.Models.{ModelData}
use Rattle.qv_syntax.specs.declared.program.Program.{Program}
use Rattle.qv_syntax.specs.declared.program.Tmpl.{Tmpl}
use Rattle.qv_syntax.specs.declared.program.Item.{Item}
use Rattle.qv_syntax.specs.declared.program.ItemValue.TheVariants as items
use Rattle.qv_syntax.specs.declared.typed.Typed.{Typed}
use Rattle.qvtr_semantics.specs.declared.datum.Datum.{Datum}
use Rattle.qvtr_semantics.specs.Outs.{datum_of}
use Rattle.qvtr_semantics.specs.Objects.{Setting, held_at}
use Rattle.qvtr_semantics.specs.Expressions.{setting, value_for}
use Rattle.qvtr_semantics.specs.Templates.{Values, ItemMeaning, SlotMeaning, Pattern, value_at, has, is_of_class, object_matches, pattern, meets}
use Rattle.qvtr_semantics.proofs.TemplateLaws.{slot_of, item_of, slot_expr, slot_nested, item_is, template_is}
use Rattle.evaluation_laws.proofs.DatumLaws.{among_all}
use Rattle.example_program.specs.Words.{value_item, object_item, template}

-- a slot with one datum has no other
pub only_datum : (slot : Option (List Datum)) (d e : Datum) → slot ≡ Some (e ∷ []) → has slot (Some d) ≡ true → d ≡ e
only_datum slot d e is h =
    among_all (λ x. x ≡ e) d (e ∷ []) (All-cons (λ x. x ≡ e) e [] refl (All-nil (λ x. x ≡ e))) (ap (λ o. has o (Some d)) (sym is) ∙ h)

-- an empty one has none
pub none_there : (slot : Option (List Datum)) (d : Datum) → slot ≡ Some [] → has slot (Some d) ≡ true → ⊥
none_there slot d is h = false≢true (ap (λ o. has o (Some d)) (sym is) ∙ h)

-- what is in a slot is somewhere in its list
pub all_there : (P : Datum → Type 0) (slot : Option (List Datum)) (d : Datum) (ds : List Datum) → slot ≡ Some ds → All P ds → has slot (Some d) ≡ true → P d
all_there P slot d ds is all h = among_all P d ds all (ap (λ o. has o (Some d)) (sym is) ∙ h)

module _ (program : Program) (models : List ModelData) (b : Values) where
  abbrev s : Setting
  s = setting program models

  value_item_is : (p : ℕ) (e : Typed) (d : Datum) → item_of program models (value_item p e) b d ≡ has (held_at s d p) (datum_of (value_for program models e b))
  value_item_is p e d =
      ap (λ (m : ItemMeaning). m b d) (item_is program models (record { 0 = p }) (items.Expr e))
      ∙ ap (λ (m : SlotMeaning). m b (held_at s d p)) (ap (slot_of program models) (sym (items.rolls-Expr e)) ∙ slot_expr program models e)

  object_item_is : (p : ℕ) (t : Tmpl) (d : Datum) → item_of program models (object_item p t) b d ≡ has (held_at s d p) (value_at b (pattern program models t).var) && meets program models t b
  object_item_is p t d =
      ap (λ (m : ItemMeaning). m b d) (item_is program models (record { 0 = p }) (items.Nested t))
      ∙ ap (λ (m : SlotMeaning). m b (held_at s d p)) (ap (slot_of program models) (sym (items.rolls-Nested t)) ∙ slot_nested program models t)

  -- the items of a template that matches, whose variable has this object
  pub items_hold : (v class : ℕ) (its : List Item) (d : Datum) → value_at b v ≡ Some d → meets program models (template v class its) b ≡ true
      → list_all (λ (i : ItemMeaning). i b d) (map (item_of program models) its) ≡ true
  items_hold v class its d at is =
      let opened = ap (λ (p : Pattern). p.matches b) (sym (template_is program models v (record { 0 = class }) its)) ∙ is in
      let there = ap (object_matches s class (map (item_of program models) its) b) (sym at) ∙ opened in
      (and_parts (is_of_class s class d) (list_all (λ (i : ItemMeaning). i b d) (map (item_of program models) its)) there).1

  -- the first item, and the others
  pub first_value : (p : ℕ) (e : Typed) (d : Datum) (its : List Item) → list_all (λ (i : ItemMeaning). i b d) (map (item_of program models) (value_item p e ∷ its)) ≡ true
      → has (held_at s d p) (datum_of (value_for program models e b)) ≡ true
  first_value p e d its is =
      sym (value_item_is p e d) ∙ (and_parts (item_of program models (value_item p e) b d) (list_all (λ (i : ItemMeaning). i b d) (map (item_of program models) its)) is).0

  pub other_items : (item : Item) (d : Datum) (its : List Item) → list_all (λ (i : ItemMeaning). i b d) (map (item_of program models) (item ∷ its)) ≡ true
      → list_all (λ (i : ItemMeaning). i b d) (map (item_of program models) its) ≡ true
  other_items item d its is = (and_parts (item_of program models item b d) (list_all (λ (i : ItemMeaning). i b d) (map (item_of program models) its)) is).1

  -- the object of a template stands in the slot, and the template matches
  pub first_object : (p v class : ℕ) (parts : List Item) (d : Datum) (its : List Item)
      → list_all (λ (i : ItemMeaning). i b d) (map (item_of program models) (object_item p (template v class parts) ∷ its)) ≡ true
      → (has (held_at s d p) (value_at b v) ≡ true) × (meets program models (template v class parts) b ≡ true)
  first_object p v class parts d its is =
      let t = template v class parts in
      let own = (and_parts (item_of program models (object_item p t) b d) (list_all (λ (i : ItemMeaning). i b d) (map (item_of program models) its)) is).0 in
      let both = and_parts (has (held_at s d p) (value_at b (pattern program models t).var)) (meets program models t b) (sym (object_item_is p t d) ∙ own) in
      let var = ap (λ (q : Pattern). q.var) (template_is program models v (record { 0 = class }) parts) in
      (ap (λ w. has (held_at s d p) (value_at b w)) (sym var) ∙ both.0, both.1)

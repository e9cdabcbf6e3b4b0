-- What a template that matches says: its object, its items, and the templates within it (QVT 1.3, sections 7.2.3 and 7.11.2).
use Rattle.std.proofs.Common.{◌≡◌, zero, suc, true, List, [], ◌∷◌, map, Option, None, Some, refl, sym, ap, ◌∙◌, subst, arith}
use Rattle.std.specs.Prelude.{Contains, All}
use Rattle.std.specs.List.{list_all}
use Rattle.std.proofs.lemmas.Bool.{and_parts, false≢true}
use Rattle.mof_metamodel.specs.declared.desc.PropId.{PropId}
use Rattle.object_tables.specs.Models.{ModelData}
use Rattle.qv_syntax.specs.declared.typed.Typed.{Typed}
use Rattle.qv_syntax.specs.declared.program.Program.{Program}
use Rattle.qv_syntax.specs.declared.program.Tmpl.{Tmpl, out-Tmpl, roll-out-Tmpl}
use Rattle.qv_syntax.specs.declared.program.Item.{Item}
use Rattle.qv_syntax.specs.declared.program.ItemValue.{ItemValue}
use Rattle.qv_syntax.specs.declared.program.ItemValue.TheVariants as items
use Rattle.qv_syntax.specs.Parts.{IsNested, HasItem}
use Rattle.qvtr_semantics.specs.declared.datum.Datum.{Datum}
use Rattle.qvtr_semantics.specs.Outs.{datum_of}
use Rattle.qvtr_semantics.specs.Objects.{Setting, held_at}
use Rattle.qvtr_semantics.specs.Expressions.{setting, value_for}
use Rattle.qvtr_semantics.specs.Templates.{Values, ItemMeaning, SlotMeaning, Pattern, value_at, has, is_of_class, object_matches, tmpl_meaning, pattern, meets}
use Rattle.qvtr_semantics.proofs.TemplateLaws.{slot_of, item_of, slot_expr, slot_nested, item_is, template_is}
use Rattle.evaluation_laws.proofs.DatumLaws.{among_all}

module _ (program : Program) (contents : List ModelData) (b : Values) where
  abbrev s : Setting
  s = setting program contents

  -- a template that matches: the object of its variable, and each item
  pub record Matched (t : Tmpl) : Type 0 where
    pub object : Datum
    pub at : value_at b (out-Tmpl t).var ≡ Some object
    pub items : (item : Item) → HasItem t item → item_of program contents item b object ≡ true

  each_item : (d : Datum) (its : List Item) → list_all (λ (i : ItemMeaning). i b d) (map (item_of program contents) its) ≡ true → (item : Item) → Contains its item → item_of program contents item b d ≡ true
  each_item d [] all item (k, within, is) = absurd (omega (arith, within))
  each_item d (i ∷ its) all item (zero, within, is) =
      subst (λ x. item_of program contents x b d ≡ true) is (and_parts (item_of program contents i b d) (list_all (λ (j : ItemMeaning). j b d) (map (item_of program contents) its)) all).0
  each_item d (i ∷ its) all item (suc k, within, is) =
      each_item d its (and_parts (item_of program contents i b d) (list_all (λ (j : ItemMeaning). j b d) (map (item_of program contents) its)) all).1 item (k, omega (arith, within), is)

  matched_by : (t : Tmpl) (o : Option Datum) → value_at b (out-Tmpl t).var ≡ o → object_matches s (out-Tmpl t).class.0 (map (item_of program contents) (out-Tmpl t).items) b o ≡ true → Matched t
  matched_by t None at is = absurd (false≢true is)
  matched_by t (Some d) at is = record {
    object = d;
    at = at;
    items = each_item d (out-Tmpl t).items
        (and_parts (is_of_class s (out-Tmpl t).class.0 d) (list_all (λ (i : ItemMeaning). i b d) (map (item_of program contents) (out-Tmpl t).items)) is).1;
  }

  pub matched : (t : Tmpl) → meets program contents t b ≡ true → Matched t
  matched t is =
      let same : pattern program contents t ≡ tmpl_meaning s (record { var = (out-Tmpl t).var; class = (out-Tmpl t).class; items = map (item_of program contents) (out-Tmpl t).items }) =
      ap (pattern program contents) (sym (roll-out-Tmpl t)) ∙ template_is program contents (out-Tmpl t).var (out-Tmpl t).class (out-Tmpl t).items in
      matched_by t (value_at b (out-Tmpl t).var) refl (ap (λ (p : Pattern). p.matches b) (sym same) ∙ is)

  -- what an item says of the slot
  slot_says : (prop : PropId) (value : ItemValue) (d : Datum) → item_of program contents (record { prop = prop; value = value }) b d ≡ true → slot_of program contents value b (held_at s d prop.0) ≡ true
  slot_says prop value d is = ap (λ (m : ItemMeaning). m b d) (sym (item_is program contents prop value)) ∙ is

  -- a template within one that matches matches
  pub nested_matches : (t inner : Tmpl) → IsNested t inner → meets program contents t b ≡ true → meets program contents inner b ≡ true
  nested_matches t inner (IsNested.whole _) is = is
  nested_matches t inner (IsNested.inside _ prop part _ among within) is =
      let m = matched t is in
      let says = slot_says prop (items.Nested part) m.object (m.items (record { prop = prop; value = items.Nested part }) among) in
      let opened = ap (λ (x : SlotMeaning). x b (held_at s m.object prop.0)) (sym (ap (slot_of program contents) (sym (items.rolls-Nested part)) ∙ slot_nested program contents part)) ∙ says in
      nested_matches part inner within (and_parts (has (held_at s m.object prop.0) (value_at b (pattern program contents part).var)) ((pattern program contents part).matches b) opened).1

  -- the value of an item's expression stands in the slot
  has_among : (P : Datum → Type 0) (o : Option (List Datum)) (x : Datum) → has o (Some x) ≡ true → ((ds : List Datum) → o ≡ Some ds → All P ds) → P x
  has_among P None x is all = absurd (false≢true is)
  has_among P (Some ds) x is all = among_all P x ds (all ds refl) is

  pub item_value : (P : Datum → Type 0) (d x : Datum) (item : Item) (e : Typed) → item_of program contents item b d ≡ true → item.value ≡ items.Expr e
      → datum_of (value_for program contents e b) ≡ Some x → ((ds : List Datum) → held_at s d item.prop.0 ≡ Some ds → All P ds) → P x
  item_value P d x item e is same value all =
      let says = slot_says item.prop item.value d is in
      let opened = ap (λ (m : SlotMeaning). m b (held_at s d item.prop.0)) (sym (ap (slot_of program contents) (same ∙ sym (items.rolls-Expr e)) ∙ slot_expr program contents e)) ∙ says in
      has_among P (held_at s d item.prop.0) x (ap (has (held_at s d item.prop.0)) (sym value) ∙ opened) all

-- Each element of the tree of a model is the document, an object or a value.
use Rattle.std.proofs.Common.{◌≡◌, ℕ, zero, suc, List, refl, sym, arith, Option, None, Some}
use Rattle.std.specs.Prelude.{Contains}
use Rattle.object_tables.specs.declared.limit.TheConstants.{MAX_DEPTH}
use Rattle.mof_metamodel.proofs.PropLemmas.{from_flat_map}
use Rattle.object_tables.specs.declared.value.Value.{Value}
use Rattle.object_tables.specs.Kept.{Kept}
use Rattle.object_tables.specs.Models.{ModelData, values_at, partners_at, IsLive, IsLinked}
use Rattle.object_tables.proofs.KeptLemmas.{sound_of, linked_partner}
use Rattle.object_tables.proofs.ListLemmas.{Contains-from_map}
use Rattle.object_tables.proofs.ModelLemmas.{live_from_class}
use Rattle.model_assembly.specs.declared.form.Form.{Form}
use Rattle.model_assembly.specs.declared.form.Form.TheVariants as forms
use Rattle.xmi_profile.specs.Canon.{typed_name, top_numbers}
use Rattle.model_assembly.specs.Elements.{Item}
use Rattle.model_assembly.specs.Forms.{form_of}
use Rattle.model_assembly.specs.Profile.{prop_name, object_props}
use Rattle.xmi_profile.proofs.written.Items.{value_row, rows_by, prop_rows, object_row, object_rows, root_row}
use Rattle.xmi_profile.proofs.written.Rows.{tree_items}

pub partner_live : (m : ModelData) → Kept m → (o p b : ℕ) → IsLinked m p o b → IsLive m b
partner_live m k o p b h = let w = linked_partner m p o b (sound_of m k) h in live_from_class m b w.class w.class_is

module _ (m : ModelData) (k : Kept m) (image : ℕ → ℕ) where
  -- the place of a contained object: its container, and the property that contains it
  pub record IsPlacedIn (o : ℕ) (at : ℕ × ℕ) : Type 0 where
    pub container : ℕ
    pub number_is : at.0 ≡ image container
    pub live : IsLive m container
    pub has : Contains (object_props m container) at.1
    pub form : form_of m.meta at.1 ≡ forms.Parts
    pub partner : Contains (partners_at m container at.1) o

  abbrev pub IsPlaced : ℕ → Option (ℕ × ℕ) → Type 0
  IsPlaced o None = Unit {0}
  IsPlaced o (Some at) = IsPlacedIn o at

  pub data IsRow (item : Item) : Type 0 where
    Root : (is : item ≡ root_row m k image) → IsRow item
    ValueRow : (o p : ℕ) (v : Value) (live : IsLive m o) (has : Contains (object_props m o) p) (form : form_of m.meta p ≡ forms.Elements) (value : Contains (values_at m o p) v)
        (is : item ≡ value_row m k image o p v) → IsRow item
    ObjectRow : (levels : ℕ) (element : List ℕ) (o : ℕ) (within : Option (ℕ × ℕ)) (live : IsLive m o) (placed : IsPlaced o within)
        (is : item ≡ object_row m k image levels element o within) → IsRow item

  rows_known : (levels : ℕ) (element : List ℕ) (o : ℕ) (within : Option (ℕ × ℕ)) → IsLive m o → IsPlaced o within → (item : Item)
      → Contains (object_rows m k image levels element o within) item → IsRow item
  rows_known zero element o within live placed item (i, l, e) = absurd (omega (arith, l))
  rows_known (suc levels) element o within live placed item (zero, l, e) = ObjectRow levels element o within live placed (sym e)
  rows_known (suc levels) element o within live placed item (suc i, l, e) =
      let (p, cp, hp) = from_flat_map (prop_rows m k image (object_rows m k image levels) o) (object_props m o) item (i, omega (arith, l), e) in
      by (rows_known levels) p cp (form_of m.meta p) refl hp
    where
      by : ((element : List ℕ) (b : ℕ) (within : Option (ℕ × ℕ)) → IsLive m b → IsPlaced b within → (item : Item) → Contains (object_rows m k image levels element b within) item → IsRow item)
          → (p : ℕ) → Contains (object_props m o) p → (f : Form) → form_of m.meta p ≡ f → Contains (rows_by m k image (object_rows m k image levels) o p f) item → IsRow item
      by further p cp forms.Attribute e (j, lj, h) = absurd (omega (arith, lj))
      by further p cp forms.Identifiers e (j, lj, h) = absurd (omega (arith, lj))
      by further p cp forms.Nesting e (j, lj, h) = absurd (omega (arith, lj))
      by further p cp forms.Elements e c =
          let (v, cv, h) = Contains-from_map (value_row m k image o p) (values_at m o p) item c in
          ValueRow o p v live cp e cv (sym h)
      by further p cp forms.Parts e c =
          let (b, cb, hb) = from_flat_map (λ b. object_rows m k image levels (prop_name m.meta p) b (Some (image o, p))) (partners_at m o p) item c in
          further (prop_name m.meta p) b (Some (image o, p)) (partner_live m k o p b cb)
          (record { container = o; number_is = refl; live = live; has = cp; form = e; partner = cb }) item hb

  pub tree_known : ((o : ℕ) → Contains (top_numbers m) o → IsLive m o) → (item : Item) → Contains (tree_items m k image) item → IsRow item
  tree_known live item (zero, l, e) = Root (sym e)
  tree_known live item (suc i, l, e) =
      let (o, co, ho) = from_flat_map (λ o. object_rows m k image MAX_DEPTH (typed_name m o) o None) (top_numbers m) item (i, omega (arith, l), e) in
      rows_known MAX_DEPTH (typed_name m o) o None (live o co) tt item ho

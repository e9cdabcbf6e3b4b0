-- Where the values of an entry are read as those of a partner, what the entry demands stands in the target.
use Rattle.std.specs.Prelude.{◌≡◌, ◌≢◌, ◌⊎◌, ℕ, zero, suc, Bool, true, false, ◌&&◌, ◌||◌, not, ◌==◌, cond, List, [], ◌∷◌, map, Option, None, Some, slice_get, Contains, if◌then◌else◌}
use Rattle.std.specs.List.{find, list_all}
use Rattle.std.specs.Option.{option_map, option_map_or, option_and_then}
use Rattle.std.proofs.Common.{refl, ap, sym, ◌∙◌, subst, arith, true≢false}
use Rattle.std.proofs.lemmas.Bool.{and_parts}
use Rattle.mof_metamodel.specs.declared.desc.PropId.{PropId}
use Rattle.mof_metamodel.specs.Metamodels.{type_of, props_of}
use Rattle.object_tables.specs.Models.{ModelData, class_at, is_class_type, values_at, partners_at}
use Rattle.object_tables.specs.declared.value.Value.{Value}
use Rattle.object_tables.specs.declared.value.Value.TheVariants as of_value
use Rattle.object_tables.proofs.ListLemmas.{Contains-from_map}
use Rattle.mof_metamodel.proofs.Facts.{contains_map}
use Rattle.qv_syntax.specs.declared.program.Program.{Program}
use Rattle.qv_syntax.specs.declared.program.Rel.{Rel}
use Rattle.qv_syntax.specs.declared.program.Dom.{Dom}
use Rattle.qv_syntax.specs.declared.program.Tmpl.{Tmpl}
use Rattle.qv_syntax.specs.declared.typed.Typed.{Typed}
use Rattle.qvtr_semantics.specs.declared.datum.Datum.{Datum}
use Rattle.qvtr_semantics.specs.declared.datum.Datum.TheVariants.{Obj, Val}
use Rattle.qvtr_semantics.specs.Data.{same_datum}
use Rattle.qvtr_semantics.specs.Outs.{and_then, datum_of}
use Rattle.qvtr_semantics.specs.Objects.{object_datum, value_datum, is_number_among, held_at, data_at}
use Rattle.qvtr_semantics.specs.Expressions.{setting, value_for}
use Rattle.qvtr_semantics.specs.Templates.{Values, value_at, has, meets}
use Rattle.qvtr_semantics.specs.Bindings.{is_target_domain, template_meets, target_meets}
use Rattle.template_match.proofs.ListLaws.{contains_later, any_from}
use Rattle.mof_metamodel.proofs.Facts.{contains_first}
use Rattle.ocl_eval.specs.OrderLaws.{same_decides}
use Rattle.source_laws.specs.SourceValues.{IsOfSources}
use Rattle.repair_semantics.specs.declared.term.Term.{Term}
use Rattle.repair_semantics.specs.declared.term.TermValue.{TermValue, out-TermValue, roll-TermValue, roll-out-TermValue, out-roll-TermValue}
use Rattle.repair_semantics.specs.declared.term.TermValue.TheVariants as values
use Rattle.repair_semantics.specs.declared.term.TermValue.TheOpen as of
use Rattle.repair_semantics.specs.EntryValues.{term_of, Known, given_value}
use Rattle.repair_semantics.specs.TargetItems.{Content, TargetItem, parts, target_domain, target_items, target_meta_number}
use Rattle.repair_semantics.specs.Making.{content_value}
use Rattle.repair_semantics.specs.Demands.{demand_by, item_demand, item_demands}
use Rattle.repair_semantics.specs.Claims.{Held}
use Rattle.repair_semantics.specs.Conflicts.{held_in as value_held_in}
use Rattle.repair_semantics.specs.Images.{held_in, holds}
use Rattle.repair_semantics.specs.Candidates.{held_by_number}
use Rattle.reading_laws.specs.Readings.{Numbering, held_as, read_part, read_value, Reads, Stands, AllStand}
use Rattle.reading_laws.specs.Matching.{slot_holds, content_holds, item_holds, HoldsThroughout}
use Rattle.repair_laws.proofs.ClaimLaws.{held_there}
use Rattle.repair_laws.proofs.FoundLaws.{term_value}
use Rattle.repair_laws.proofs.ImageReadings.{from_filter_map}
use Rattle.std.proofs.lemmas.Option.{same_Some}

same_data : (d e : Datum) → same_datum d e ≡ true → d ≡ e
same_data d e h = (same_decides d e).0 h

-- the number of an object
abbrev object_number : Datum → ℕ
object_number (Obj m o) = o.0
object_number (Val m v) = 0

abbrev model_number : Datum → Option ℕ
model_number (Obj m o) = Some m
model_number (Val m v) = None

not_value : (meta target b : ℕ) (v : Value) → object_datum target b ≡ value_datum meta v → ⊥
not_value meta target b (of_value.Str s) h = cc
not_value meta target b (of_value.Int i) h = cc
not_value meta target b (of_value.Bool x) h = cc
not_value meta target b (of_value.Lit e n) h = cc

not_object : (target b : ℕ) (d : Datum) → IsOfSources target d → d ≡ object_datum target b → ⊥
not_object target b (Obj m o) apart h = apart (let models : Some m ≡ Some target = ap model_number h in same_Some m target models)
not_object target b (Val m v) apart h = absurd (let models : ◌≡◌ {A = Option ℕ} None (Some target) = ap model_number h in cc)

module _ (program : Program) (models : List ModelData) (m : ModelData) (number : Numbering) (target : slice_get models program.target ≡ Some m) where
  -- a datum, as it stands in a slot
  data IsSlotted : Datum → Held ℕ → Type 0 where
    value : (d : Datum) → IsOfSources program.target d → IsSlotted d (Held.datum d)
    object : (b : ℕ) → IsSlotted (object_datum program.target b) (Held.object b)

  slotted : (d : Datum) (h : Held ℕ) (o p : ℕ) → IsSlotted d h → Contains (data_at (setting program models) program.target m o p) d → Contains (held_in program m o p) h
  slotted d h o p is c = by (is_class_type (type_of m.meta p)) d h is c
    where
      by : (t : Bool) (e : Datum) (i : Held ℕ) → IsSlotted e i
          → Contains (if t then map (object_datum program.target) (partners_at m o p) else map (value_datum (target_meta_number program)) (values_at m o p)) e
          → Contains {X = Held ℕ} (if t then map (λ b. Held.object b) (partners_at m o p) else map (λ v. Held.datum (value_datum (target_meta_number program) v)) (values_at m o p)) i
      by true _ _ (IsSlotted.value e apart) among =
          let found = Contains-from_map (object_datum program.target) (partners_at m o p) e among in
          absurd (not_object program.target found.0 e apart (sym found.2))
      by true _ _ (IsSlotted.object b) among =
          let found = Contains-from_map (object_datum program.target) (partners_at m o p) (object_datum program.target b) among in
          let one : found.0 ≡ b = ap object_number found.2 in
          subst (λ k. Contains (map (λ z. Held.object z) (partners_at m o p)) (Held.object k)) one (contains_map (λ z. Held.object z) (partners_at m o p) found.0 found.1)
      by false _ _ (IsSlotted.value e apart) among =
          let found = Contains-from_map (value_datum (target_meta_number program)) (values_at m o p) e among in
          subst (λ z. Contains {X = Held ℕ} (map (λ v. Held.datum (value_datum (target_meta_number program) v)) (values_at m o p)) (Held.datum z)) found.2
          (contains_map {Y = Held ℕ} (λ v. Held.datum (value_datum (target_meta_number program) v)) (values_at m o p) found.0 found.1)
      by false _ _ (IsSlotted.object b) among =
          let found = Contains-from_map (value_datum (target_meta_number program)) (values_at m o p) (object_datum program.target b) among in
          absurd (not_value (target_meta_number program) program.target b found.0 (sym found.2))

  -- what the slot of an object has, the object holds
  had_held : (n p : ℕ) (d : Datum) (h : Held ℕ) → IsSlotted d h → has (held_at (setting program models) (object_datum program.target n) p) (Some d) ≡ true → holds program m n p h ≡ true
  had_held n p d h is had =
      by (class_at m n) (subst (λ x. has (and_then x (λ model. and_then (class_at model n) (λ class.
      if is_number_among p (props_of model.meta class) then Some (data_at (setting program models) program.target model n p) else None))) (Some d) ≡ true) target had)
    where
      own : (b : Bool) → has (if b then Some (data_at (setting program models) program.target m n p) else None) (Some d) ≡ true → holds program m n p h ≡ true
      own false g = absurd (true≢false (sym g))
      own true g =
          let found = any_from (same_datum d) (data_at (setting program models) program.target m n p) g in
          held_there h (held_in program m n p)
          (slotted d h n p is (subst (λ z. Contains (data_at (setting program models) program.target m n p) z) (sym (same_data d found.0 found.2)) found.1))

      by : (c : Option ℕ) → has (and_then c (λ class. if is_number_among p (props_of m.meta class) then Some (data_at (setting program models) program.target m n p) else None)) (Some d) ≡ true
          → holds program m n p h ≡ true
      by None g = absurd (true≢false (sym g))
      by (Some class) g = own (is_number_among p (props_of m.meta class)) g

  -- ---- values as they stand in slots

  record IsHeldAs (x : TermValue) (d : Datum) : Type 0 where
    held : Held ℕ
    held_is : held_as number x ≡ Some held
    slot : IsSlotted d held

  held_value : (x : TermValue) (d : Datum) → read_value program number x ≡ Some d → ((e : Datum) → x ≡ values.Val e → IsOfSources program.target e) → IsHeldAs x d
  held_value x d read own = by (out-TermValue x) refl read
    where
      by : (l : of.TermValue-F TermValue Term) → out-TermValue x ≡ l → read_part program number l ≡ Some d → IsHeldAs x d
      by (of.Val e) is r =
          let one : e ≡ d = same_Some e d r in
          let value : x ≡ values.Val e = sym (roll-out-TermValue x) ∙ ap roll-TermValue is ∙ values.rolls-Val e in
          record {
            held = Held.datum e;
            held_is = ap (λ y. held_by_number number (value_held_in y)) is;
            slot = subst (λ z. IsSlotted z (Held.datum e)) one (IsSlotted.value e (own e value));
          }
      by (of.Term t) is r = object (number t) refl r
        where
          object : (o : Option ℕ) → number t ≡ o → option_map (λ n. object_datum program.target n) o ≡ Some d → IsHeldAs x d
          object None at g = absurd (cc)
          object (Some n) at g = record {
            held = Held.object n;
            held_is = ap (λ y. held_by_number number (value_held_in y)) is ∙ ap (option_map (λ k. Held.object k)) at;
            slot = subst (λ z. IsSlotted z (Held.object n)) (same_Some (object_datum program.target n) d g) (IsSlotted.object n);
          }

  -- ---- items

  module _ (rel : Rel) (k : Known) (g : Values) (reads : Reads program number k.values g)
      (ITEMS : (t : Tmpl) → meets program models t g ≡ true → HoldsThroughout program models g t)
      (GIVEN : (item : TargetItem) (ex : Typed) (x : TermValue) → Contains (target_items program rel) item → item.content ≡ Content.expression ex → given_value program models k ex ≡ Some x
      → (d : Datum) × (read_value program number x ≡ Some d) × (datum_of (value_for program models ex g) ≡ Some d))
      (OWN : (item : TargetItem) (d : Datum) → Contains (target_items program rel) item → content_value program models k item.content ≡ Some (values.Val d) → IsOfSources program.target d)
      (target_met : list_all (target_meets program models g) rel.domains ≡ true)
    where
      found_first : (doms : List Dom) (dom : Dom) → find (is_target_domain program) doms ≡ Some dom → (is_target_domain program dom ≡ true) × Contains doms dom
      found_first [] dom h = absurd (cc)
      found_first (x ∷ xs) dom h = by (is_target_domain program x) refl h (found_first xs dom)
        where
          by : (b : Bool) → is_target_domain program x ≡ b → cond b (Some x) (find (is_target_domain program) xs) ≡ Some dom
              → (find (is_target_domain program) xs ≡ Some dom → (is_target_domain program dom ≡ true) × Contains xs dom) → (is_target_domain program dom ≡ true) × Contains (x ∷ xs) dom
          by true is e more =
              let one : x ≡ dom = same_Some x dom e in
              (ap (is_target_domain program) (sym one) ∙ is, subst (λ z. Contains (z ∷ xs) dom) (sym one) (contains_first dom xs))
          by false is e more = let rest = more e in (rest.0, contains_later dom x xs rest.1)

      each_met : (doms : List Dom) (dom : Dom) → list_all (target_meets program models g) doms ≡ true → Contains doms dom → target_meets program models g dom ≡ true
      each_met [] dom h (i, within, is) = absurd (omega (arith, within))
      each_met (x ∷ xs) dom h (zero, within, is) = ap (target_meets program models g) (sym is) ∙ (and_parts (target_meets program models g x) (list_all (target_meets program models g) xs) h).0
      each_met (x ∷ xs) dom h (suc i, within, is) = each_met xs dom (and_parts (target_meets program models g x) (list_all (target_meets program models g) xs) h).1 (i, omega (arith, within), is)

      -- each item of the target template holds
      item_met : (item : TargetItem) → Contains (target_items program rel) item → item_holds program models g item ≡ true
      item_met item has = by (target_domain program rel) refl has
        where
          nothing : Contains [] item → ⊥
          nothing (i, within, is) = omega (arith, within)

          in_template : (t : Option Tmpl) → template_meets program models t g ≡ true → Contains (option_map_or (λ x. (parts x).items) t []) item → item_holds program models g item ≡ true
          in_template None met c = absurd (nothing c)
          in_template (Some t) met c = (ITEMS t met).items item c

          by : (o : Option Dom) → target_domain program rel ≡ o → Contains (option_map_or (λ t. (parts t).items) (option_and_then (λ dom. dom.template) o) []) item
              → item_holds program models g item ≡ true
          by None is c = absurd (nothing c)
          by (Some dom) is c =
              let first = found_first rel.domains dom is in
              let met : target_meets program models g dom ≡ true = each_met rel.domains dom target_met first.1 in
              in_template dom.template (sym (ap (λ b. not b || template_meets program models dom.template g) first.0) ∙ met) c

      -- what a content puts into a slot stands there
      record IsPut (p : PropId) (slot : Option (List Datum)) (x : TermValue) : Type 0 where
        d : Datum
        read : read_value program number x ≡ Some d
        had : has slot (Some d) ≡ true

      is_put : (item : TargetItem) (slot : Option (List Datum)) (x : TermValue) → Contains (target_items program rel) item → content_value program models k item.content ≡ Some x
          → slot_holds program models g slot item.content ≡ true → IsPut item.prop slot x
      is_put item slot x among is met = by item.content refl is met
        where
          by : (c : Content) → item.content ≡ c → content_value program models k c ≡ Some x → slot_holds program models g slot c ≡ true → IsPut item.prop slot x
          by Content.empty same e h = absurd (cc)
          by (Content.expression ex) same e h =
              let (d, read, datum) = GIVEN item ex x among same e in
              record { d = d; read = read; had = ap (has slot) (sym datum) ∙ h }
          by (Content.template v) same e h =
              let (d, at, read) = reads.given v x e in
              record { d = d; read = read; had = ap (has slot) (sym at) ∙ h }

      item_stands : (n : ℕ) (item : TargetItem) (owner : Term) (x : TermValue) → Contains (target_items program rel) item → term_of k.values item.owner ≡ Some owner
          → content_value program models k item.content ≡ Some x → Stands program m number (record { entry = n; owner = owner; prop = item.prop; value = x })
      item_stands n item owner x among owns is =
          let (d, at, read) = reads.given item.owner (values.Term owner) (term_value k.values item.owner owner owns) in
          let out : out-TermValue (values.Term owner) ≡ of.Term owner = ap out-TermValue (sym (values.rolls-Term owner)) ∙ out-roll-TermValue (of.Term owner) in
          by d at (number owner) refl (sym (ap (read_part program number) out) ∙ read)
        where
          by : (d : Datum) → value_at g item.owner ≡ Some d → (o : Option ℕ) → number owner ≡ o → option_map (λ i. object_datum program.target i) o ≡ Some d
              → Stands program m number (record { entry = n; owner = owner; prop = item.prop; value = x })
          by d at None numbered e = absurd (cc)
          by d at (Some o) numbered e =
              let own : object_datum program.target o ≡ d = same_Some (object_datum program.target o) d e in
              let met : slot_holds program models g (held_at (setting program models) (object_datum program.target o) item.prop.0) item.content ≡ true =
              sym (ap (content_holds program models g item.prop item.content) (at ∙ ap (λ z. Some z) (sym own))) ∙ item_met item among in
              let put : IsPut item.prop (held_at (setting program models) (object_datum program.target o) item.prop.0) x =
              is_put item (held_at (setting program models) (object_datum program.target o) item.prop.0) x among is met in
              let held : IsHeldAs x put.d = held_value x put.d put.read (λ y value. OWN item y among (is ∙ ap (λ z. Some z) value)) in
              record {
                owner = o;
                owner_is = numbered;
                held = held.held;
                held_is = held.held_is;
                holds = had_held o item.prop.0 put.d held.held held.slot put.had;
              }

      -- so each demand does
      pub items_stand : (n : ℕ) → AllStand program m number (item_demands program models k n (target_items program rel))
      items_stand n d has =
          let (item, among, is) = from_filter_map (item_demand program models k n) (target_items program rel) d has in
          by item among (term_of k.values item.owner) refl (content_value program models k item.content) refl is
        where
          by : (item : TargetItem) → Contains (target_items program rel) item → (o : Option Term) → term_of k.values item.owner ≡ o
              → (x : Option TermValue) → content_value program models k item.content ≡ x → demand_by n item o x ≡ Some d → Stands program m number d
          by item among None owns x is e = absurd (cc)
          by item among (Some owner) owns None is e = absurd (cc)
          by item among (Some owner) owns (Some x) is e = subst (Stands program m number) (same_Some (record { entry = n; owner = owner; prop = item.prop; value = x }) d e) (item_stands n item owner x among owns is)

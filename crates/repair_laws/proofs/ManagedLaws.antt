-- Classes of which enforcement makes objects, the templates of their variables, and the keys of classes.
use Rattle.std.specs.Prelude.{◌≡◌, ◌≢◌, ◌<◌, ◌≤◌, ◌⊎◌, ℕ, zero, suc, Bool, true, false, ◌&&◌, ◌==◌, List, [], ◌∷◌, ◌++◌, length, Option, None, Some, slice_get, slice_index_or, Contains, if◌then◌else◌, cond}
use Rattle.std.specs.List.{filter, filter_map, cons_option, find, range_with_len}
use Rattle.std.specs.Option.{option_map, option_and_then, option_to_list, unwrap_or}
use Rattle.std.proofs.Common.{refl, sym, ap, subst, ◌∙◌, arith, inl, inr, true≢false}
use Rattle.std.proofs.lemmas.Option.{none-some, same_Some}
use Rattle.std.proofs.lemmas.Bool.{and_parts, eqb-true, eq-eqb}
use Rattle.std.proofs.lemmas.List.{get_or_past}
use Rattle.std.proofs.lemmas.List.Elements.{Contains-append_cases}
use Rattle.mof_metamodel.specs.declared.desc.MetaDesc.{MetaDesc}
use Rattle.mof_metamodel.specs.declared.desc.ClassId.{ClassId}
use Rattle.mof_metamodel.specs.declared.desc.ClassDesc.{ClassDesc}
use Rattle.mof_metamodel.specs.declared.desc.PropId.{PropId}
use Rattle.mof_metamodel.specs.Metamodels.{class_count, no_class, class_number, supers_of, IsPath, Conforms, lineage_of, lineage_within, reached_classes, conforms_within}
use Rattle.mof_metamodel.proofs.PropLemmas.{from_flat_map}
use Rattle.mof_metamodel.proofs.LineageLemmas.{Has-from_Contains, lineage_sound}
use Rattle.mof_metamodel.proofs.ReachLemmas.{steps_sound}
use Rattle.qv_syntax.specs.declared.query.ModelSlot.{ModelSlot}
use Rattle.qv_syntax.specs.declared.program.Program.{Program}
use Rattle.qv_syntax.specs.declared.program.Key.{Key}
use Rattle.qv_syntax.specs.declared.program.Rel.{Rel}
use Rattle.qv_syntax.specs.declared.program.Dom.{Dom}
use Rattle.qv_syntax.specs.declared.program.Var.{Var}
use Rattle.qv_syntax.specs.declared.program.Tmpl.{Tmpl, out-Tmpl}
use Rattle.qv_syntax.specs.declared.program.ItemValue.TheVariants as items
use Rattle.qv_syntax.specs.declared.ty.Ty.TheVariants as types
use Rattle.qv_syntax.specs.Parts.{HasItem}
use Rattle.qv_syntax.specs.Relations.{IsTemplateOf}
use Rattle.qv_syntax.specs.WellFormed.{IsWellFormed}
use Rattle.qvtr_semantics.specs.Objects.{meta_number, is_number_among}
use Rattle.qvtr_semantics.specs.Bindings.{is_target_domain}
use Rattle.evaluation_laws.proofs.NavigationLaws.{among}
use Rattle.source_laws.proofs.BindingLaws.{found_within}
use Rattle.source_laws.proofs.RuleLaws.{target_is}
use Rattle.template_match.proofs.ListLaws.{contains_later, find_some, find_none}
use Rattle.mof_metamodel.proofs.Facts.{contains_first}
use Rattle.enforcement_rules.specs.declared.standing.Place.{Place}
use Rattle.enforcement_rules.specs.TargetParts.{no_slot, target_meta, Stands}
use Rattle.enforcement_rules.specs.Keys.{IsKeyOf}
use Rattle.enforcement_rules.proofs.ListLaws.{among_some}
use Rattle.mof_metamodel.proofs.Facts.{nothing_in}
use Rattle.ocl_environments.specs.Environments.{meta_at}
use Rattle.repair_semantics.specs.TargetItems.{Content, TargetItem, variable_of, target_root, target_items, nested_variables, class_in, class_of_variable, target_meta_number, is_key_of, key_of}
use Rattle.repair_semantics.specs.Deletions.{root_if_top, managed_variables, classes_in, managed_classes}

-- ---- lists

pub from_filter_map : {X Y : Type 0} (f : X → Option Y) (xs : List X) (y : Y) → Contains (filter_map f xs) y → (x : X) × Contains xs x × (f x ≡ Some y)
from_filter_map f [] y c = absurd (nothing_in y c)
from_filter_map {X} {Y} f (x ∷ xs) y c = by (f x) refl (from_filter_map f xs y) c
  where
    later : ((z : X) × Contains xs z × (f z ≡ Some y)) → (z : X) × Contains (x ∷ xs) z × (f z ≡ Some y)
    later (z, there, is) = (z, contains_later z x xs there, is)

    by : (o : Option Y) → f x ≡ o → (Contains (filter_map f xs) y → (z : X) × Contains xs z × (f z ≡ Some y)) → Contains (cons_option o (filter_map f xs)) y
        → (z : X) × Contains (x ∷ xs) z × (f z ≡ Some y)
    by None is rest d = later (rest d)
    by (Some w) is rest (zero, below, same) = (x, contains_first x xs, is ∙ ap (λ v. Some v) same)
    by (Some w) is rest (suc k, below, same) = later (rest (k, omega (arith, below), same))

pub from_filter : {X : Type 0} (p : X → Bool) (xs : List X) (y : X) → Contains (filter p xs) y → Contains xs y × (p y ≡ true)
from_filter p [] y c = absurd (nothing_in y c)
from_filter {X} p (x ∷ xs) y c = by (p x) refl (from_filter p xs y) c
  where
    by : (b : Bool) → p x ≡ b → (Contains (filter p xs) y → Contains xs y × (p y ≡ true)) → Contains (cond b (x ∷ filter p xs) (filter p xs)) y → Contains (x ∷ xs) y × (p y ≡ true)
    by false is rest d = let r = rest d in (contains_later y x xs r.0, r.1)
    by true is rest (zero, below, same) = (subst (Contains (x ∷ xs)) same (contains_first x xs), ap p (sym same) ∙ is)
    by true is rest (suc k, below, same) = let r = rest (k, omega (arith, below), same) in (contains_later y x xs r.0, r.1)

pub slot_at : (slots : List ModelSlot) (n : ℕ) (slot : ModelSlot) → slice_get slots n ≡ Some slot → slice_index_or slots n no_slot ≡ slot
slot_at [] n slot h = absurd (cc)
slot_at (x ∷ xs) zero slot h = cc
slot_at (x ∷ xs) (suc n) slot h = slot_at xs n slot h

pub meta_found : (metas : List MetaDesc) (n : ℕ) (meta : MetaDesc) → slice_get metas n ≡ Some meta → meta ≡ meta_at metas n
meta_found [] n meta h = absurd (cc)
meta_found (x ∷ xs) zero meta h = cc
meta_found (x ∷ xs) (suc n) meta h = meta_found xs n meta h

mapped_some : {X Y : Type 0} (f : X → Y) (o : Option X) (y : Y) → option_map f o ≡ Some y → (x : X) × (o ≡ Some x) × (f x ≡ y)
mapped_some f None y h = absurd (none-some y h)
mapped_some f (Some x) y h = (x, refl, same_Some (f x) y h)

-- ---- classes

-- a class conforms to those among which it is found, even where it is none of the metamodel
pub lineage_conforms : (desc : MetaDesc) (c d : ℕ) → Contains (lineage_of desc c) d → Conforms desc c d
lineage_conforms desc c d has = by (lineage_within desc (class_count desc) c) refl has
  where
    by : (o : Option (List ℕ)) → lineage_within desc (class_count desc) c ≡ o → Contains (unwrap_or o (reached_classes desc c)) d → Conforms desc c d
    by (Some r) is h = lineage_sound desc (class_count desc) c d r is (Has-from_Contains r d h)
    by None is h = steps_sound desc (class_count desc) c d (from_filter (conforms_within desc (class_count desc) c) (range_with_len 0 (class_count desc)) d h).1

no_supers : (desc : MetaDesc) (c : ℕ) → length desc.classes ≤ c → supers_of desc c ≡ []
no_supers desc c past = ap (λ (d : ClassDesc). filter_map (class_number desc) d.supers) (get_or_past desc.classes c no_class past)

pub past_itself : (desc : MetaDesc) (c d : ℕ) (path : List ℕ) → length desc.classes ≤ c → IsPath desc c path d → c ≡ d
past_itself desc c d [] past is = is
past_itself desc c d (e ∷ path) past is = absurd (nothing_in e (subst (λ xs. Contains xs e) (no_supers desc c past) is.0))

-- ---- templates

pub inside_stands : (root t part : Tmpl) (begin at : Option Place) (prop : PropId) → Stands root begin t at → HasItem t (record { prop = prop; value = items.Nested part })
    → Stands root begin part (Some (record { parent = (out-Tmpl t).var; prop = prop }))
inside_stands root t part begin at prop (Stands.whole _ _) has =
    Stands.inside root begin prop part part (Some (record { parent = (out-Tmpl root).var; prop = prop })) has (Stands.whole part (Some (record { parent = (out-Tmpl root).var; prop = prop })))
inside_stands root t part begin at prop (Stands.inside _ _ own next _ _ there stands) has =
    Stands.inside root begin own next part (Some (record { parent = (out-Tmpl t).var; prop = prop })) there
    (inside_stands next t part (Some (record { parent = (out-Tmpl root).var; prop = own })) at prop stands has)

-- ---- keys

meta_number_is : (program : Program) → program.target < length program.models → target_meta program ≡ target_meta_number program
meta_number_is program within =
    let slot = found_within program.models program.target within in
    ap (λ (s : ModelSlot). s.meta) (slot_at program.models program.target slot.0 slot.1) ∙ sym (ap meta_number slot.1)

module _ (program : Program) (class : ℕ) where
  key_found : (o : Option Key) (props : List PropId) → find (is_key_of program class) program.keys ≡ o → option_map (λ (key : Key). key.props) o ≡ Some props
      → target_meta program ≡ target_meta_number program → (key : Key) × IsKeyOf program (record { 0 = class }) key × (key.props ≡ props)
  key_found o props found is meta =
      let k = mapped_some (λ (key : Key). key.props) o props is in
      let there = find_some (is_key_of program class) program.keys k.0 (found ∙ k.1) in
      let parts = and_parts (k.0.meta == target_meta_number program) (k.0.class.0 == class) there.1 in (
        k.0,
        record {
          among = there.0;
          meta = eqb-true k.0.meta (target_meta_number program) parts.0 ∙ sym meta;
          of = ap (λ (n : ℕ). let c : ClassId = record { 0 = n } in c) (eqb-true k.0.class.0 class parts.1);
        },
        k.2,
      )

  pub key_is : (props : List PropId) → key_of program class ≡ Some props → target_meta program ≡ target_meta_number program
      → (key : Key) × IsKeyOf program (record { 0 = class }) key × (key.props ≡ props)
  key_is props is meta = key_found (find (is_key_of program class) program.keys) props refl is meta

  pub no_key : key_of program class ≡ None → (key : Key) → IsKeyOf program (record { 0 = class }) key → target_meta program ≡ target_meta_number program → ⊥
  no_key none key is meta = by (find (is_key_of program class) program.keys) refl none
    where
      test : is_key_of program class key ≡ true
      test =
          ap (λ b. b && (key.class.0 == class)) (eq-eqb key.meta (target_meta_number program) (is.meta ∙ meta))
          ∙ eq-eqb key.class.0 class (ap (λ (c : ClassId). c.0) is.of)

      by : (o : Option Key) → find (is_key_of program class) program.keys ≡ o → option_map (λ (k : Key). k.props) o ≡ None → ⊥
      by None found e = true≢false (sym test ∙ find_none (is_key_of program class) program.keys key found is.among)
      by (Some k) found e = none-some k.props (sym e)

-- ---- classes of which enforcement makes objects

-- the class of an existential variable of a template of the target: the root of a top relation's, or one that stands within another
pub record IsManaged (program : Program) (class : ℕ) : Type 0 where
  pub rel : Rel
  pub number : ℕ
  pub found : slice_get program.rels number ≡ Some rel
  pub in_direction : rel.in_direction ≡ true
  pub v : ℕ
  pub existential : Contains rel.existential v
  pub class_is : class_of_variable rel v ≡ Some class
  pub stands : ((rel.top ≡ true) × (target_root program rel ≡ Some v)) ⊎ ((j : TargetItem) × Contains (target_items program rel) j × (variable_of j.content ≡ Some v))

option_has : (o : Option ℕ) (v : ℕ) → Contains (option_to_list o) v → o ≡ Some v
option_has None v c = absurd (nothing_in v c)
option_has (Some w) v (zero, below, same) = ap (λ n. Some n) same
option_has (Some w) v (suc k, below, same) = absurd (omega (arith, below))

pub managed_from : (program : Program) (class : ℕ) → Contains (managed_classes program) class → IsManaged program class
managed_from program class has =
    let (rel, there, is) = from_flat_map (λ r. classes_in program r (nested_variables program r)) program.rels class has in
    by rel there rel.in_direction refl is
  where
    root : (rel : Rel) (v : ℕ) (b : Bool) → rel.top ≡ b → Contains (if b then option_to_list (target_root program rel) else []) v → (rel.top ≡ true) × (target_root program rel ≡ Some v)
    root rel v true is c = (is, option_has (target_root program rel) v c)
    root rel v false is c = absurd (nothing_in v c)

    place : (rel : Rel) (v : ℕ) → Contains (root_if_top program rel) v ⊎ Contains (nested_variables program rel) v
        → ((rel.top ≡ true) × (target_root program rel ≡ Some v)) ⊎ ((j : TargetItem) × Contains (target_items program rel) j × (variable_of j.content ≡ Some v))
    place rel v (inl c) = inl (root rel v rel.top refl c)
    place rel v (inr c) = inr (from_filter_map (λ (i : TargetItem). variable_of i.content) (target_items program rel) v c)

    by : (rel : Rel) → Contains program.rels rel → (b : Bool) → rel.in_direction ≡ b
        → Contains (if b then filter_map (class_of_variable rel) (managed_variables program rel (nested_variables program rel)) else []) class → IsManaged program class
    by rel there false direction c = absurd (nothing_in class c)
    by rel there true direction c =
        let (v, listed, is) = from_filter_map (class_of_variable rel) (managed_variables program rel (nested_variables program rel)) class c in
        let kept = from_filter (λ w. is_number_among w rel.existential) (root_if_top program rel ++ nested_variables program rel) v listed in
        let at = among_some program.rels rel there in
        record {
          rel = rel;
          number = at.0;
          found = at.1;
          in_direction = direction;
          v = v;
          existential = among v rel.existential kept.1;
          class_is = is;
          stands = place rel v (Contains-append_cases (root_if_top program rel) (nested_variables program rel) v kept.0);
        }

pub one_content : (c : Content) (v : ℕ) → variable_of c ≡ Some v → c ≡ Content.template v
one_content Content.empty v h = absurd (none-some v h)
one_content (Content.expression e) v h = absurd (none-some v h)
one_content (Content.template w) v h = ap (λ n. Content.template n) (same_Some w v h)

class_some : (m n : ℕ) (c : ClassId) → class_in (types.Class m c) ≡ Some n → c ≡ record { 0 = n }
class_some m n c h = ap (λ (k : ℕ). let d : ClassId = record { 0 = k } in d) (same_Some c.0 n h)

module _ (metas : List MetaDesc) (program : Program) (formed : IsWellFormed metas program) where
  pub numbers_agree : target_meta program ≡ target_meta_number program
  numbers_agree = meta_number_is program formed.numbers.target

  -- ---- templates of the target declare their variables

  pub declared_class : (number : ℕ) (rel : Rel) (dom : Dom) (t : Tmpl) → slice_get program.rels number ≡ Some rel → Contains rel.domains dom → is_target_domain program dom ≡ true → IsTemplateOf dom t
      → class_of_variable rel (out-Tmpl t).var ≡ Some (out-Tmpl t).class.0
  declared_class number rel dom t found there target of =
      let slot = found_within program.models program.target formed.numbers.target in
      let d = (formed.relations number rel found).domains.declared dom (record { is = there; model = program.target; of_model = target_is program.target dom.model target; slot = slot.0; found = slot.1 }) t of in
      ap (option_and_then (λ (var : Var). class_in var.ty)) d.found ∙ ap class_in d.class

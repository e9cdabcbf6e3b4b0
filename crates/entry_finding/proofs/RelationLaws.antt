-- What is known of a relation of the direction of a program that can be enforced: its templates, keys of their classes, and which variables it makes.
use Rattle.std.specs.Prelude.{◌≡◌, ◌⊎◌, ◌<◌, ◌==◌, ℕ, zero, suc, Bool, true, false, not, List, [], ◌∷◌, length, Option, None, Some, slice_get, slice_index_or, Contains}
use Rattle.std.specs.List.{find}
use Rattle.std.specs.Option.{option_map, option_and_then, option_map_or}
use Rattle.std.proofs.Common.{refl, sym, ap, ◌∙◌, inl, inr, eq-eqb}
use Rattle.std.proofs.lemmas.Bool.{and_parts, and_from, true≢false, eqb-true}
use Rattle.std.proofs.lemmas.Option.{same_Some, get_or_from_slice_get}
use Rattle.mof_metamodel.specs.declared.desc.MetaDesc.{MetaDesc}
use Rattle.mof_metamodel.specs.declared.desc.PropId.{PropId}
use Rattle.mof_metamodel.proofs.Facts.{contains_at}
use Rattle.object_tables.specs.Models.{ModelData}
use Rattle.qv_syntax.specs.declared.query.ModelSlot.{ModelSlot}
use Rattle.qv_syntax.specs.declared.program.Program.{Program}
use Rattle.qv_syntax.specs.declared.program.Rel.{Rel}
use Rattle.qv_syntax.specs.declared.program.Key.{Key}
use Rattle.qv_syntax.specs.declared.program.Var.{Var}
use Rattle.qv_syntax.specs.declared.program.Dom.{Dom}
use Rattle.qv_syntax.specs.declared.program.Tmpl.{Tmpl, out-Tmpl}
use Rattle.qv_syntax.specs.ProgramNumbers.{IsRelationInRange}
use Rattle.qv_syntax.specs.Relations.{IsTargetDomain, IsTemplateOf, IsModelDomain, IsUniversal}
use Rattle.qv_syntax.specs.Directions.{IsMeant}
use Rattle.qvtr_semantics.specs.Objects.{meta_number, is_number_among}
use Rattle.template_match.proofs.ListLaws.{find_some}
use Rattle.ocl_environments.specs.Environments.{meta_at, no_meta}
use Rattle.evaluation_laws.proofs.NavigationLaws.{among}
use Rattle.enforcement_rules.specs.declared.standing.Place.{Place}
use Rattle.enforcement_rules.specs.TargetParts.{no_slot, target_meta, target_desc, Stands, IsMade}
use Rattle.repair_semantics.specs.TargetItems.{class_in, class_of_variable, no_metamodel, target_root, target_metamodel, target_meta_number, is_key_of, key_of}
use Rattle.repair_semantics.specs.Making.{is_option_of}
use Rattle.source_laws.proofs.BindingLaws.{found_within}
use Rattle.source_laws.proofs.RuleLaws.{model_domain}
use Rattle.reading_laws.proofs.MeetingValues.{nothing_some}
use Rattle.reading_laws.proofs.MeetingPlaces.{IsFirstTarget}
use Rattle.reading_laws.proofs.MeetingFirst.{Around, stands_around}
use Rattle.entry_making.specs.Givers.{is_handed_on, is_made}
use Rattle.entry_finding.specs.Premises.{CanBeEnforced}

slot_number : (slots : List ModelSlot) (n : ℕ) → (slice_index_or slots n no_slot).meta ≡ meta_number (slice_get slots n)
slot_number [] n = refl
slot_number (x ∷ xs) zero = refl
slot_number (x ∷ xs) (suc n) = slot_number xs n

pub option_is : (o : Option ℕ) (n : ℕ) → is_option_of o n ≡ true → o ≡ Some n
option_is None n h = absurd (true≢false (sym h))
option_is (Some m) n h = ap (λ x. Some x) (eqb-true m n h)

-- the key of a class of the target
pub record IsKeyWith (program : Program) (class : ℕ) (props : List PropId) : Type 0 where
  pub key : Key
  pub among : Contains program.keys key
  pub meta : key.meta ≡ target_meta program
  pub class_is : key.class.0 ≡ class
  pub props_are : key.props ≡ props

module _ (metas : List MetaDesc) (program : Program) (models : List ModelData) (p : CanBeEnforced metas program models) where
  number_is : target_meta program ≡ target_meta_number program
  number_is = slot_number program.models program.target

  -- the metamodel of the target model is that which the script describes
  pub meta_is : target_desc metas program ≡ target_metamodel program models
  meta_is =
      let (m, there) = found_within models program.target p.target in
      let (slot, placed) = found_within program.models program.target p.evaluable.well.numbers.target in
      let described = (p.evaluable.kept program.target slot m placed there).described in
      ap (λ (s : ModelSlot). meta_at metas s.meta) (get_or_from_slice_get program.models program.target slot no_slot placed)
      ∙ get_or_from_slice_get metas slot.meta m.meta no_meta described
      ∙ sym (ap (λ (o : Option ModelData). option_map_or (λ (x : ModelData). x.meta) o no_metamodel) there)

  pub key_with : (class : ℕ) (props : List PropId) → key_of program class ≡ Some props → IsKeyWith program class props
  key_with class props h = by (find (is_key_of program class) program.keys) refl h
    where
      by : (o : Option Key) → find (is_key_of program class) program.keys ≡ o → option_map (λ (x : Key). x.props) o ≡ Some props → IsKeyWith program class props
      by None none is = absurd (nothing_some props is)
      by (Some key) at is =
          let (there, passes) = find_some (is_key_of program class) program.keys key at in
          let both = and_parts (key.meta == target_meta_number program) (key.class.0 == class) passes in
          record {
            key = key;
            among = there;
            meta = eqb-true key.meta (target_meta_number program) both.0 ∙ sym number_is;
            class_is = eqb-true key.class.0 class both.1;
            props_are = same_Some key.props props is;
          }

  module _ (place : ℕ) (rel : Rel) (found : slice_get program.rels place ≡ Some rel) where
    pub meant : IsMeant program place rel
    meant = p.evaluable.well.relations place rel found

    pub ranges : IsRelationInRange metas program rel
    ranges = p.evaluable.well.numbers.relations rel (contains_at program.rels place rel found)

    -- ---- templates

    pub domain_of : (dom : Dom) → IsTargetDomain program rel dom → (t : Tmpl) → IsTemplateOf dom t → IsModelDomain program rel dom
    domain_of dom of t within = model_domain metas program p.evaluable.well place rel found dom t of.is within

    pub below : (dom : Dom) → IsTargetDomain program rel dom → (t : Tmpl) → IsTemplateOf dom t → (out-Tmpl t).var < length rel.vars
    below dom of t within = (ranges.templates dom (domain_of dom of t within) t within).var

    pub declared_class : (dom : Dom) → IsTargetDomain program rel dom → (t : Tmpl) → IsTemplateOf dom t → class_of_variable rel (out-Tmpl t).var ≡ Some (out-Tmpl t).class.0
    declared_class dom of t within =
        let declared = meant.domains.declared dom (domain_of dom of t within) t within in
        ap (option_and_then (λ (x : Var). class_in x.ty)) declared.found ∙ ap class_in declared.class

    -- ---- variables that the relation makes

    pub made_existential : (v : ℕ) → is_made program rel v ≡ true → Contains rel.existential v
    made_existential v made = among v rel.existential (and_parts (is_number_among v rel.existential) (not (is_handed_on program rel v)) made).0

    pub made_below : (v : ℕ) → is_made program rel v ≡ true → v < length rel.vars
    made_below v made = ranges.vars.existential v (made_existential v made)

    not_universal : (v : ℕ) → is_made program rel v ≡ true → ¬ IsUniversal program rel v
    not_universal v made = let (var, at) = found_within rel.vars v (made_below v made) in (meant.variables.existential v var at).0 (made_existential v made)

    -- the template of such a variable
    pub made_template : (dom : Dom) (root : Tmpl) → IsFirstTarget program rel dom root → (t : Tmpl) (at : Option Place) → Stands root None t at → is_made program rel (out-Tmpl t).var ≡ true
        → IsMade program rel t at
    made_template dom root first t at stands made = record {
      is = record { dom = dom; of = first.of; root = root; has = first.has; stands = stands };
      existential = not_universal (out-Tmpl t).var made;
      own = λ no_place. top no_place rel.top refl;
    }
      where
        -- the root of the target domain is handed on where the relation isn't top
        handed : rel.top ≡ false → root ≡ t → ⊥
        handed is same =
            let (shape, has_shape, is_root) = (meant.domains.shaped dom first.of.is).shaped program.target first.of.target in
            let one : shape ≡ root = same_Some shape root (sym has_shape ∙ first.has) in
            let root_is : dom.root ≡ (out-Tmpl t).var = sym is_root ∙ ap (λ (x : Tmpl). (out-Tmpl x).var) (one ∙ same) in
            let target : target_root program rel ≡ Some (out-Tmpl t).var = ap (option_map (λ (d : Dom). d.root)) first.first ∙ ap (λ x. Some x) root_is in
            let own : is_option_of (target_root program rel) (out-Tmpl t).var ≡ true =
            ap (λ o. is_option_of o (out-Tmpl t).var) target ∙ eq-eqb (out-Tmpl t).var (out-Tmpl t).var refl in
            let on : is_handed_on program rel (out-Tmpl t).var ≡ true = and_from (not rel.top) (is_option_of (target_root program rel) (out-Tmpl t).var) (ap not is) own in
            true≢false (sym (and_parts (is_number_among (out-Tmpl t).var rel.existential) (not (is_handed_on program rel (out-Tmpl t).var)) made).1 ∙ ap not on)

        top : at ≡ None → (x : Bool) → rel.top ≡ x → x ≡ true
        top no_place true is = refl
        top no_place false is = absurd (by (stands_around root t None at stands))
          where
            by : ((root ≡ t) × (None ≡ at)) ⊎ Around root t at → ⊥
            by (inl (same, here)) = handed is same
            by (inr a) = nothing_some (record { parent = (out-Tmpl a.outer).var; prop = a.prop }) (sym no_place ∙ a.is)

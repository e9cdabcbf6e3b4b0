-- Variables of the target, their classes, and the templates that declare them.
use Rattle.std.specs.Prelude.{◌≡◌, ◌≢◌, ◌<◌, ◌⊎◌, ℕ, true, List, [], ◌==◌, length, Option, None, Some, slice_get, Contains}
use Rattle.std.specs.Option.{option_map}
use Rattle.std.proofs.Common.{refl, ap, sym, ◌∙◌, subst, inl, inr, true≢false}
use Rattle.std.proofs.lemmas.Option.{same_Some}
use Rattle.std.proofs.lemmas.Bool.{eq-eqb}
use Rattle.mof_metamodel.specs.declared.desc.MetaDesc.{MetaDesc}
use Rattle.mof_metamodel.specs.declared.desc.ClassId.{ClassId}
use Rattle.mof_metamodel.specs.declared.desc.PropId.{PropId}
use Rattle.mof_metamodel.specs.Metamodels.{class_count, Conforms, lineage_of}
use Rattle.mof_metamodel.proofs.ReachLemmas.{conforms_through}
use Rattle.mof_metamodel.proofs.WellLemmas.{conforms_listed}
use Rattle.object_tables.specs.Models.{ModelData}
use Rattle.ocl_environments.specs.Environments.{meta_at}
use Rattle.qv_syntax.specs.declared.program.Program.{Program}
use Rattle.qv_syntax.specs.declared.program.Rel.{Rel}
use Rattle.qv_syntax.specs.declared.program.Dom.{Dom}
use Rattle.qv_syntax.specs.declared.program.Var.{Var}
use Rattle.qv_syntax.specs.declared.program.Tmpl.{Tmpl, out-Tmpl}
use Rattle.qv_syntax.specs.Parts.{HasItem}
use Rattle.qv_syntax.specs.Relations.{IsTemplateOf, IsUniversal}
use Rattle.qv_syntax.specs.ProgramNumbers.{IsRelationInRange}
use Rattle.qv_syntax.specs.Directions.{IsMeant}
use Rattle.qv_syntax.specs.WellFormed.{IsWellFormed}
use Rattle.qvtr_semantics.specs.Objects.{is_number_among, is_kind_of}
use Rattle.qvtr_semantics.specs.Bindings.{is_model, is_target_domain}
use Rattle.template_match.specs.Sources.{is_of_target, is_target_variable}
use Rattle.evaluation_laws.proofs.NavigationLaws.{among}
use Rattle.source_laws.proofs.BindingLaws.{found_within}
use Rattle.source_laws.proofs.RuleLaws.{target_is}
use Rattle.enforcement_rules.specs.TargetParts.{target_desc, IsTargetVariable}
use Rattle.enforcement_rules.proofs.KnownLaws.{universal_listed, existential_listed}
use Rattle.enforcement_rules.proofs.ListLaws.{any_here}
use Rattle.enforcement_rules.proofs.StandingLaws.{stands_nested, nested_stands}
use Rattle.repair_semantics.specs.TargetItems.{Content, TargetItem, target_root, target_items, key_of}
use Rattle.repair_laws.proofs.ItemParts.{IsOfTargetDomain, target_item, template_value}
use Rattle.repair_laws.proofs.ManagedLaws.{lineage_conforms, inside_stands, key_is, meta_found, numbers_agree}
use Rattle.repair_laws.proofs.EntryDemands.{IsGivenBy}
use Rattle.mof_metamodel.proofs.Facts.{contains_at}

pub number_among : (xs : List ℕ) (n : ℕ) → Contains xs n → is_number_among n xs ≡ true
number_among xs n c = any_here (λ k. k == n) xs n c (eq-eqb n n refl)

-- ---- variables for objects of the target

module _ (program : Program) (rel : Rel) where
  pub target_variable : (v : ℕ) → is_target_variable program rel v ≡ true → IsTargetVariable program rel v
  target_variable v h = by (slice_get rel.vars v) refl h
    where
      by : (o : Option Var) → slice_get rel.vars v ≡ o → is_of_target program o ≡ true → IsTargetVariable program rel v
      by None found e = absurd (true≢false (sym e))
      by (Some var) found e = record { var = var; found = found; target = target_is program.target var.model e }

  pub variable_target : (v : ℕ) → IsTargetVariable program rel v → is_target_variable program rel v ≡ true
  variable_target v t = ap (is_of_target program) t.found ∙ ap (λ o. is_model o program.target) t.target ∙ eq-eqb program.target program.target refl

module _ (metas : List MetaDesc) (program : Program) (formed : IsWellFormed metas program) (m : ModelData) (desc : target_desc metas program ≡ m.meta) where
  -- ---- classes that have keys

  pub keyed_within : (class : ℕ) (props : List PropId) → key_of program class ≡ Some props → class < class_count m.meta
  keyed_within class props is =
      let k = key_is program class props is (numbers_agree metas program formed) in
      let c = (formed.keys.keys k.0 k.1.among).class in
      let same : c.meta ≡ m.meta = meta_found metas k.0.meta c.meta c.found ∙ ap (meta_at metas) k.1.meta ∙ desc in
      subst (λ n. n < class_count m.meta) (ap (λ (x : ClassId). x.0) k.1.of) (subst (λ d. k.0.class.0 < class_count d) same c.within)

  pub keyed_some : (class : ℕ) (props : List PropId) → key_of program class ≡ Some props → props ≢ []
  keyed_some class props is none =
      let k = key_is program class props is (numbers_agree metas program formed) in
      (formed.keys.keys k.0 k.1.among).some (k.2 ∙ none)

  pub kind_itself : (class : ℕ) → class < class_count m.meta → is_kind_of m.meta class class ≡ true
  kind_itself class within = number_among (lineage_of m.meta class) class (conforms_listed m.meta class class within ([], refl))

  pub kind_up : (a b c : ℕ) → a < class_count m.meta → is_kind_of m.meta a b ≡ true → Conforms m.meta b c → is_kind_of m.meta a c ≡ true
  kind_up a b c within is up =
      number_among (lineage_of m.meta a) c
      (conforms_listed m.meta a c within (conforms_through m.meta a b c (lineage_conforms m.meta a b (among b (lineage_of m.meta a) is)) up))

  -- ---- templates of the target

  module _ (number : ℕ) (rel : Rel) (found : slice_get program.rels number ≡ Some rel) where
    pub meant : IsMeant program number rel
    meant = formed.relations number rel found

    pub range : IsRelationInRange metas program rel
    range = formed.numbers.relations rel (contains_at program.rels number rel found)

    pub declared : (dom : Dom) (t : Tmpl) → Contains rel.domains dom → is_target_domain program dom ≡ true → IsTemplateOf dom t → IsTargetVariable program rel (out-Tmpl t).var
    declared dom t there target of =
        let slot = found_within program.models program.target formed.numbers.target in
        let d = meant.domains.declared dom (record { is = there; model = program.target; of_model = target_is program.target dom.model target; slot = slot.0; found = slot.1 }) t of in
        record { var = d.var; found = d.found; target = d.of_model }

    root_is : (dom : Dom) (root : Tmpl) → Contains rel.domains dom → is_target_domain program dom ≡ true → dom.template ≡ Some root → (out-Tmpl root).var ≡ dom.root
    root_is dom root there target has =
        let (t, is, var) = (meant.domains.shaped dom there).shaped program.target (target_is program.target dom.model target) in
        ap (λ (x : Tmpl). (out-Tmpl x).var) (same_Some root t (sym has ∙ is)) ∙ var

    -- a variable whose template is given a key value is one for objects of the target: that of the root, or of a template that an item is
    pub record HasTemplate (v : ℕ) : Type 0 where
      pub target : IsTargetVariable program rel v
      pub stands : (target_root program rel ≡ Some v) ⊎ ((j : TargetItem) × Contains (target_items program rel) j × (j.content ≡ Content.template v))

    pub template_given : (v : ℕ) → IsGivenBy rel v (target_items program rel) → HasTemplate v
    template_given v (IsGivenBy.own item there owner) =
        let p = target_item program rel item there in
        let same : (out-Tmpl p.listed.template).var ≡ v = p.listed.owner ∙ owner in
        record {
          target = subst (IsTargetVariable program rel) same (declared p.dom p.listed.template p.among p.target (record { root = p.root; has = p.has; nested = p.listed.nested }));
          stands = by p p.above;
        }
      where
        by : (p : IsOfTargetDomain program rel item) → ((out-Tmpl p.root).var ≡ item.owner) ⊎ ((j : TargetItem) × Contains (target_items program rel) j × (j.content ≡ Content.template item.owner))
            → (target_root program rel ≡ Some v) ⊎ ((j : TargetItem) × Contains (target_items program rel) j × (j.content ≡ Content.template v))
        by p (inl same) = inl (ap (option_map (λ (dom : Dom). dom.root)) p.found ∙ ap (λ n. Some n) (sym (root_is p.dom p.root p.among p.target p.has) ∙ same ∙ owner))
        by p (inr (j, within, is)) = inr (j, within, is ∙ ap (λ n. Content.template n) owner)
    template_given v (IsGivenBy.around item there content) =
        let p = target_item program rel item there in
        let l = p.listed in
        let (part, value, var) = template_value l.item.value v (l.content ∙ content) in
        let at = nested_stands p.root None l.template l.nested in
        let stands = inside_stands p.root l.template part None at.0 l.item.prop at.1 (subst (λ x. HasItem l.template (record { prop = l.item.prop; value = x })) value l.has) in
        record {
          target = subst (IsTargetVariable program rel) var (declared p.dom part p.among p.target (record {
            root = p.root;
            has = p.has;
            nested = stands_nested p.root None part (Some (record { parent = (out-Tmpl l.template).var; prop = l.item.prop })) stands;
          }));
          stands = inr (item, there, content);
        }

    -- ---- universal variables

    pub universal_among : (v : ℕ) → v < length rel.vars → IsUniversal program rel v → Contains rel.universal v
    universal_among v within universal = universal_listed metas program number rel meant range.vars v within universal

    pub existential_among : (v : ℕ) → v < length rel.vars → ¬ IsUniversal program rel v → Contains rel.existential v
    existential_among v within none = existential_listed metas program number rel meant range.vars v within none

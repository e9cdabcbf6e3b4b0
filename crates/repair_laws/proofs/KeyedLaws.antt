-- Where a program can be enforced, keys tell the objects of its target apart.
use Rattle.std.specs.Prelude.{◌≡◌, ◌≢◌, ◌<◌, ◌≤◌, ◌⊎◌, ℕ, Bool, true, false, List, Option, None, Some, slice_get, Contains, IfSome}
use Rattle.std.specs.Option.{option_map, option_and_then}
use Rattle.std.proofs.Common.{refl, sym, ap, subst, ◌∙◌, arith, inl, inr, true≢false}
use Rattle.std.proofs.lemmas.Option.{none-some, same_Some}
use Rattle.std.proofs.lemmas.Bool.{cases_lt, cases_order}
use Rattle.std.proofs.lemmas.Bool.Decides.{nat_tests}
use Rattle.mof_metamodel.specs.declared.desc.MetaDesc.{MetaDesc}
use Rattle.mof_metamodel.specs.declared.desc.ClassId.{ClassId}
use Rattle.mof_metamodel.specs.declared.desc.PropId.{PropId}
use Rattle.mof_metamodel.specs.Metamodels.{class_count, Conforms, lineage_of, prop_count, prop_at}
use Rattle.mof_metamodel.specs.WellMeta.{WellMeta}
use Rattle.mof_metamodel.proofs.PropLemmas.{prop_known}
use Rattle.object_tables.specs.Models.{ModelData}
use Rattle.qv_syntax.specs.declared.program.Program.{Program}
use Rattle.qv_syntax.specs.declared.program.Rel.{Rel}
use Rattle.qv_syntax.specs.declared.program.Dom.{Dom}
use Rattle.qv_syntax.specs.declared.program.Var.{Var}
use Rattle.qv_syntax.specs.declared.program.Tmpl.{Tmpl, out-Tmpl}
use Rattle.qv_syntax.specs.Parts.{HasItem}
use Rattle.qv_syntax.specs.Relations.{IsUniversal}
use Rattle.qv_syntax.specs.TypeRules.{is_single}
use Rattle.qv_syntax.specs.WellFormed.{IsWellFormed}
use Rattle.qvtr_semantics.specs.Objects.{is_kind_of}
use Rattle.qvtr_semantics.specs.Bindings.{is_target_domain}
use Rattle.evaluation_laws.proofs.NavigationLaws.{among}
use Rattle.source_laws.proofs.BindingLaws.{found_within}
use Rattle.source_laws.proofs.RuleLaws.{target_is}
use Rattle.template_match.proofs.ListLaws.{find_some}
use Rattle.enforcement_rules.specs.declared.standing.Place.{Place}
use Rattle.enforcement_rules.specs.TargetParts.{target_meta, target_desc, Stands, IsTargetTemplate, IsMade}
use Rattle.enforcement_rules.specs.Keys.{IsKeyOf, IsKeyed}
use Rattle.enforcement_rules.specs.Rules.{Breaks, IsEnforceable}
use Rattle.enforcement_rules.proofs.KnownLaws.{listed_existential}
use Rattle.enforcement_rules.proofs.RuleLaws.{kept_by_each}
use Rattle.enforcement_rules.proofs.StandingLaws.{stands_nested, nested_stands}
use Rattle.repair_semantics.specs.TargetItems.{TargetItem, variable_of, target_domain, target_root, target_items, class_in, class_of_variable, key_of}
use Rattle.repair_semantics.specs.Claims.{is_one}
use Rattle.repair_semantics.specs.Deletions.{managed_classes}
use Rattle.reading_laws.specs.Keyed.{TellsByKeys}
use Rattle.repair_laws.proofs.ItemParts.{target_item, template_value}
use Rattle.repair_laws.proofs.ManagedLaws.{lineage_conforms, past_itself, inside_stands, meta_found, key_is, no_key, IsManaged, managed_from, one_content, numbers_agree}
use Rattle.mof_metamodel.proofs.Facts.{contains_at}

module _ (metas : List MetaDesc) (program : Program) (formed : IsWellFormed metas program) where
  -- ---- the template of a variable of which objects are made

  record HasTemplate (rel : Rel) (v class : ℕ) : Type 0 where
    t : Tmpl
    at : Option Place
    made : IsMade program rel t at
    class_is : (out-Tmpl t).class.0 ≡ class

  made_by : (rel : Rel) (number v class : ℕ) (t : Tmpl) (at : Option Place) → slice_get program.rels number ≡ Some rel → Contains rel.existential v → class_of_variable rel v ≡ Some class
      → (out-Tmpl t).var ≡ v → (is : IsTargetTemplate program rel t at) → (at ≡ None → rel.top ≡ true) → HasTemplate rel v class
  made_by rel number v class t at found existential class_is var is own =
      let slot = found_within program.models program.target formed.numbers.target in
      let none = listed_existential metas program number rel (formed.relations number rel found)
      (formed.numbers.relations rel (contains_at program.rels number rel found)).vars v existential in
      let d = (formed.relations number rel found).domains.declared is.dom (record { is = is.of.is; model = program.target; of_model = is.of.target; slot = slot.0; found = slot.1 }) t
      (record { root = is.root; has = is.has; nested = stands_nested is.root None t at is.stands }) in
      record {
        t = t;
        at = at;
        made = record { is = is; existential = subst (λ w. ¬ IsUniversal program rel w) (sym var) none; own = own };
        class_is = same_Some (out-Tmpl t).class.0 class
            (sym (ap class_in d.class) ∙ sym (ap (option_and_then (λ (x : Var). class_in x.ty)) d.found) ∙ ap (class_of_variable rel) var ∙ class_is);
      }

  template_of : (class : ℕ) (c : IsManaged program class) → HasTemplate c.rel c.v class
  template_of class c = by c.stands
    where
      root : (o : Option Dom) → target_domain program c.rel ≡ o → option_map (λ (dom : Dom). dom.root) o ≡ Some c.v → c.rel.top ≡ true → HasTemplate c.rel c.v class
      root None found is top = absurd (none-some c.v is)
      root (Some dom) found is top =
          let there = find_some (is_target_domain program) c.rel.domains dom found in
          let model = target_is program.target dom.model there.1 in
          let (t, has, var) = ((formed.relations c.number c.rel c.found).domains.shaped dom there.0).shaped program.target model in
          made_by c.rel c.number c.v class t None c.found c.existential c.class_is (var ∙ same_Some dom.root c.v is)
          (record { dom = dom; of = record { is = there.0; target = model }; root = t; has = has; stands = Stands.whole t None }) (λ e. top)

      nested : (j : TargetItem) → Contains (target_items program c.rel) j → variable_of j.content ≡ Some c.v → HasTemplate c.rel c.v class
      nested j there is =
          let p = target_item program c.rel j there in
          let l = p.listed in
          let (part, value, var) = template_value l.item.value c.v (l.content ∙ one_content j.content c.v is) in
          let at = nested_stands p.root None l.template l.nested in
          made_by c.rel c.number c.v class part (Some (record { parent = (out-Tmpl l.template).var; prop = l.item.prop })) c.found c.existential c.class_is var
          (record {
            dom = p.dom;
            of = record { is = p.among; target = target_is program.target p.dom.model p.target };
            root = p.root;
            has = p.has;
            stands = inside_stands p.root l.template part None at.0 l.item.prop at.1 (subst (λ x. HasItem l.template (record { prop = l.item.prop; value = x })) value l.has);
          })
          (λ e. absurd (none-some (record { parent = (out-Tmpl l.template).var; prop = l.item.prop }) (sym e)))

      by : ((c.rel.top ≡ true) × (target_root program c.rel ≡ Some c.v)) ⊎ ((j : TargetItem) × Contains (target_items program c.rel) j × (variable_of j.content ≡ Some c.v))
          → HasTemplate c.rel c.v class
      by (inl (top, is)) = root (target_domain program c.rel) refl is top
      by (inr (j, there, is)) = nested j there is

  module _ (enforceable : IsEnforceable metas program) (m : ModelData) (desc : target_desc metas program ≡ m.meta) (well : WellMeta m.meta) where
    breaks_none : (class rule : ℕ) (c : IsManaged program class) → Breaks metas program c.rel rule → ⊥
    breaks_none class rule c = kept_by_each metas program c.number rule c.rel enforceable c.found c.in_direction

    -- E5
    pub managed_keyed : (class : ℕ) → Contains (managed_classes program) class → (props : List PropId) × (key_of program class ≡ Some props)
    managed_keyed class has = by (key_of program class) refl
      where
        by : (o : Option (List PropId)) → key_of program class ≡ o → (props : List PropId) × (key_of program class ≡ Some props)
        by (Some props) is = (props, is)
        by None is =
            let h = template_of class (managed_from program class has) in
            absurd (breaks_none class 5 (managed_from program class has) (Breaks.e5 refl (record {
              t = h.t;
              at = h.at;
              made = h.made;
              unkeyed = λ (k : IsKeyed metas program h.t h.at). no_key program class is k.key
                  (subst (λ (x : ClassId). IsKeyOf program x k.key) (ap (λ (n : ℕ). let x : ClassId = record { 0 = n } in x) h.class_is) k.is) (numbers_agree metas program formed);
            })))

    -- E6
    managed_single : (class : ℕ) (props : List PropId) (p : PropId) → Contains (managed_classes program) class → key_of program class ≡ Some props → Contains props p
        → is_one (prop_at m.meta p.0).upper ≡ true
    managed_single class props p has is within = one (is_single (prop_at m.meta p.0).upper) refl
      where
        known : p.0 < prop_count m.meta
        known =
            let k = key_is program class props is (numbers_agree metas program formed) in
            let key = formed.keys.keys k.0 k.1.among in
            let own = key.own p (subst (λ ps. Contains ps p) (sym k.2) within) in
            let same : key.class.meta ≡ m.meta = meta_found metas (target_meta program) key.class.meta (ap (slice_get metas) (sym k.1.meta) ∙ key.class.found) ∙ desc in
            subst (λ d. p.0 < prop_count d) same (prop_known key.class.meta k.0.class.0 p.0 own)

        positive : (o : Option ℕ) → IfSome o (λ upper. ((prop_at m.meta p.0).lower ≤ upper) × (0 < upper)) → is_single o ≡ true → is_one o ≡ true
        positive None bounds h = absurd (true≢false (sym h))
        positive (Some n) bounds h = let above = bounds.1 in grind (arith, nat_tests)

        one : (b : Bool) → is_single (prop_at m.meta p.0).upper ≡ b → is_one (prop_at m.meta p.0).upper ≡ true
        one true single = positive (prop_at m.meta p.0).upper (well.bounds p.0 known) single
        one false many =
            let k = key_is program class props is (numbers_agree metas program formed) in
            let h = template_of class (managed_from program class has) in
            absurd (breaks_none class 6 (managed_from program class has) (Breaks.e6 refl (record {
              t = h.t;
              at = h.at;
              made = h.made;
              key = k.0;
              is = subst (λ (x : ClassId). IsKeyOf program x k.0) (ap (λ (n : ℕ). let x : ClassId = record { 0 = n } in x) (sym h.class_is)) k.1;
              prop = p;
              among = subst (λ ps. Contains ps p) (sym k.2) within;
              many = ap (λ d. is_single (prop_at d p.0).upper) desc ∙ many;
            })))

    -- E7
    managed_apart : (class c d : ℕ) (ps qs : List PropId) → Contains (managed_classes program) c → key_of program c ≡ Some ps → key_of program d ≡ Some qs
        → is_kind_of m.meta class c ≡ true → is_kind_of m.meta class d ≡ true → c ≡ d
    managed_apart class c d ps qs has kc kd hc hd = by (cases_lt class (class_count m.meta))
      where
        first : Conforms m.meta class c
        first = lineage_conforms m.meta class c (among c (lineage_of m.meta class) hc)

        second : Conforms m.meta class d
        second = lineage_conforms m.meta class d (among d (lineage_of m.meta class) hd)

        differ : class < class_count m.meta → (c ≢ d) → ⊥
        differ within two =
            let k = key_is program c ps kc (numbers_agree metas program formed) in
            let l = key_is program d qs kd (numbers_agree metas program formed) in
            breaks_none c 7 (managed_from program c has) (Breaks.e7 refl (record {
              class = class;
              within = subst (λ x. class < class_count x) (sym desc) within;
              first = record { 0 = c };
              first_key = k.0;
              first_is = k.1;
              first_conforms = subst (λ x. Conforms x class c) (sym desc) first;
              second = record { 0 = d };
              second_key = l.0;
              second_is = l.1;
              second_conforms = subst (λ x. Conforms x class d) (sym desc) second;
              two = λ same. two (ap (λ (x : ClassId). x.0) same);
            }))

        by : (class < class_count m.meta) ⊎ (class_count m.meta ≤ class) → c ≡ d
        by (inr past) = sym (past_itself m.meta class c first.0 past first.1) ∙ past_itself m.meta class d second.0 past second.1
        by (inl within) = decide (cases_order c d)
          where
            decide : (c ≡ d) ⊎ ((c < d) ⊎ (d < c)) → c ≡ d
            decide (inl same) = same
            decide (inr (inl less)) = absurd (differ within (λ same. omega (arith, less, same)))
            decide (inr (inr more)) = absurd (differ within (λ same. omega (arith, more, same)))

    pub tells_by_keys : TellsByKeys program m
    tells_by_keys = record { keyed = managed_keyed; single = managed_single; apart = managed_apart }

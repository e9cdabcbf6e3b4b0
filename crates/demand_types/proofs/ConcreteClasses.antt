-- Enforcement makes objects of concrete classes: the variable of such a class has a template of it, by the rule on objects that nothing makes.
use Rattle.std.specs.Prelude.{◌≡◌, ◌⊎◌, ℕ, true, false, List, Option, None, Some, Contains, slice_get}
use Rattle.std.specs.Option.{option_and_then}
use Rattle.std.proofs.Common.{refl, ap, sym, ◌∙◌, subst, inl, inr, eq-eqb, true≢false}
use Rattle.std.proofs.lemmas.Option.{none-some, same_Some}
use Rattle.mof_metamodel.specs.declared.desc.MetaDesc.{MetaDesc}
use Rattle.mof_metamodel.specs.Metamodels.{class_at}
use Rattle.mof_metamodel.proofs.Facts.{contains_at}
use Rattle.object_tables.specs.Models.{ModelData}
use Rattle.qv_syntax.specs.declared.program.Program.{Program}
use Rattle.qv_syntax.specs.declared.program.Dom.{Dom}
use Rattle.qv_syntax.specs.declared.program.Var.{Var}
use Rattle.qv_syntax.specs.declared.program.Tmpl.{Tmpl, out-Tmpl}
use Rattle.qv_syntax.specs.Relations.{IsUniversal}
use Rattle.qv_syntax.specs.Directions.{IsMeant}
use Rattle.qv_syntax.specs.WellFormed.{IsWellFormed}
use Rattle.qvtr_semantics.specs.Bindings.{is_model}
use Rattle.source_laws.proofs.RuleLaws.{target_is}
use Rattle.enforcement_rules.specs.TargetParts.{target_desc, IsObjectVariable}
use Rattle.enforcement_rules.specs.Patterns.{IsHandedOn, HasConcreteTemplate}
use Rattle.enforcement_rules.specs.Rules.{Breaks, IsEnforceable}
use Rattle.enforcement_rules.proofs.KnownLaws.{listed_existential}
use Rattle.enforcement_rules.proofs.ListLaws.{false_unless}
use Rattle.enforcement_rules.proofs.RuleLaws.{kept_by_each}
use Rattle.enforcement_rules.proofs.StandingLaws.{stands_nested}
use Rattle.repair_semantics.specs.declared.term.Term.{Term, out-Term}
use Rattle.repair_semantics.specs.declared.demand.Demand.{Demand}
use Rattle.repair_semantics.specs.TargetItems.{TargetItem, variable_of, target_root, target_items, class_in, class_of_variable}
use Rattle.reading_laws.proofs.MeetingPlaces.{one_target}
use Rattle.reading_laws.proofs.PartnerValues.{class_of_type}
use Rattle.repair_laws.specs.DemandedKeys.{IsDemandedByKey}
use Rattle.repair_laws.proofs.ItemParts.{target_item, template_value}
use Rattle.repair_laws.proofs.ManagedLaws.{IsManaged, managed_from, one_content, declared_class}
use Rattle.repair_laws.proofs.TargetVariables.{keyed_within}
use Rattle.demand_types.specs.TypedDemands.{IsConcreteTerm}
use Rattle.demand_types.proofs.NestedTemplates.{root_apart}

module _ (metas : List MetaDesc) (program : Program) (formed : IsWellFormed metas program) (enforceable : IsEnforceable metas program) where
  module _ (class : ℕ) (managed : IsManaged program class) where
    meant : IsMeant program managed.number managed.rel
    meant = formed.relations managed.number managed.rel managed.found

    -- it is an existential object variable
    object : IsObjectVariable managed.rel managed.v
    object = by (slice_get managed.rel.vars managed.v) refl managed.class_is
      where
        by : (o : Option Var) → slice_get managed.rel.vars managed.v ≡ o → option_and_then (λ (var : Var). class_in var.ty) o ≡ Some class
            → IsObjectVariable managed.rel managed.v
        by None found is = absurd (none-some class is)
        by (Some var) found is =
            let (meta, own, typed, same) = class_of_type var.ty class is in
            record { var = var; found = found; meta = meta; class = own; typed = typed }

    existential : ¬ IsUniversal program managed.rel managed.v
    existential =
        let there = contains_at program.rels managed.number managed.rel managed.found in
        listed_existential metas program managed.number managed.rel meant (formed.numbers.relations managed.rel there).vars
        managed.v managed.existential

    -- and no root of a relation that is called
    not_handed : ¬ IsHandedOn program managed.rel managed.v
    not_handed handed = by managed.stands
      where
        by : ((managed.rel.top ≡ true) × (target_root program managed.rel ≡ Some managed.v))
            ⊎ ((j : TargetItem) × Contains (target_items program managed.rel) j × (variable_of j.content ≡ Some managed.v)) → ⊥
        by (inl (top, root)) = true≢false (sym top ∙ handed.called)
        by (inr (j, there, content)) =
            let p = target_item program managed.rel j there in
            let own = target_is program.target p.dom.model p.target in
            let (part, value, var) = template_value p.listed.item.value managed.v (p.listed.content ∙ one_content j.content managed.v content) in
            let (shape, has, root) = (meant.domains.shaped p.dom p.among).shaped program.target own in
            let same : p.dom ≡ handed.dom =
            one_target program managed.rel p.dom handed.dom meant.domains.models (record { is = p.among; target = own }) handed.of in
            let one : p.root ≡ shape = same_Some p.root shape (sym p.has ∙ has) in
            root_apart program managed.rel meant.domains p.dom p.among p.root p.listed.template part p.has p.listed.nested
            p.listed.item p.listed.has value
            (ap (λ (t : Tmpl). (out-Tmpl t).var) one ∙ root ∙ ap (λ (dom : Dom). dom.root) same ∙ handed.root ∙ sym var)

    -- a template of the variable is of the class
    by_template : HasConcreteTemplate metas program managed.rel managed.v → (class_at (target_desc metas program) class).is_abstract ≡ false
    by_template c =
        let i = c.is in
        let target = ap (λ o. is_model o program.target) i.of.target ∙ eq-eqb program.target program.target refl in
        let declared = declared_class metas program formed managed.number managed.rel i.dom c.t managed.found i.of.is target
        (record { root = i.root; has = i.has; nested = stands_nested i.root None c.t c.at i.stands }) in
        let same : (out-Tmpl c.t).class.0 ≡ class =
        same_Some (out-Tmpl c.t).class.0 class (sym declared ∙ ap (class_of_variable managed.rel) c.var ∙ managed.class_is) in
        subst (λ n. (class_at (target_desc metas program) n).is_abstract ≡ false) same c.concrete

    managed_concrete : (class_at (target_desc metas program) class).is_abstract ≡ false
    managed_concrete = false_unless (class_at (target_desc metas program) class).is_abstract (λ is.
        kept_by_each metas program managed.number 4 managed.rel enforceable managed.found managed.in_direction (Breaks.e4 refl (record {
          v = managed.v;
          object = object;
          existential = existential;
          own = not_handed;
          unmade = λ c. true≢false (sym is ∙ by_template c);
        })))

  pub concrete_term : (m : ModelData) → target_desc metas program ≡ m.meta → (demands : List Demand) (t : Term)
      → IsDemandedByKey program m.meta demands t → IsConcreteTerm m t
  concrete_term m desc demands t key = record {
    class = keyed_within metas program formed m desc (out-Term t).class.0 key.props key.key;
    concrete = subst (λ (x : MetaDesc). (class_at x (out-Term t).class.0).is_abstract ≡ false) desc
        (managed_concrete (out-Term t).class.0 (managed_from program (out-Term t).class.0 key.managed));
  }

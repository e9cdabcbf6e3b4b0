-- Of a partner that meets the target of a relation there is a twin that meets it over the other models.
use Rattle.std.specs.Prelude.{◌≡◌, ◌⊎◌, ◌&&◌, ◌||◌, ◌==◌, ℕ, suc, Bool, true, false, not, List, [], ◌∷◌, length, Option, None, Some, slice_get, Contains}
use Rattle.std.specs.List.{list_all, AllZip}
use Rattle.std.proofs.Common.{refl, sym, ap, ◌∙◌, subst, inl, inr}
use Rattle.std.proofs.lemmas.Bool.{and_parts, and_from}
use Rattle.object_tables.specs.Models.{ModelData}
use Rattle.qv_syntax.specs.declared.program.Program.{Program}
use Rattle.qv_syntax.specs.declared.program.Rel.{Rel}
use Rattle.qv_syntax.specs.declared.program.Dom.{Dom}
use Rattle.qv_syntax.specs.declared.program.Tmpl.{Tmpl, out-Tmpl}
use Rattle.qv_syntax.specs.declared.program.ItemValue.{ItemValue}
use Rattle.qv_syntax.specs.declared.program.ItemValue.TheVariants as items
use Rattle.qv_syntax.specs.declared.typed.Typed.{Typed}
use Rattle.qv_syntax.specs.Relations.{IsItemExpression, IsUniversal}
use Rattle.qv_syntax.specs.Directions.{AreMeant}
use Rattle.qvtr_semantics.specs.declared.datum.Datum.{Datum}
use Rattle.qvtr_semantics.specs.Data.{same_datum, is_among}
use Rattle.qvtr_semantics.specs.Objects.{held_at}
use Rattle.qvtr_semantics.specs.Outs.{datum_of}
use Rattle.qvtr_semantics.specs.Expressions.{setting, value_for}
use Rattle.qvtr_semantics.specs.Templates.{Values, value_at, is_empty_slot, has, conforms, meets}
use Rattle.qvtr_semantics.specs.Bindings.{have_values, is_target_domain, template_meets, target_meets, conjunct_holds, Target}
use Rattle.template_match.proofs.ListLaws.{list_all_at}
use Rattle.source_laws.specs.SourceValues.{IsOfSources}
use Rattle.source_laws.specs.SourceRelations.{IsPlainArgument, IsApart, AgreeOnSources}
use Rattle.source_laws.specs.TargetRule.{MayBeTarget, IsExpressionOf, HandsTargetOn}
use Rattle.source_laws.proofs.DataLaws.{IfOfSources}
use Rattle.source_laws.proofs.OperationLaws.{datum_apart}
use Rattle.source_laws.proofs.QueryLaws.{value_alike}
use Rattle.source_laws.proofs.RootLaws.{alone_datum}
use Rattle.source_laws.proofs.RuleLaws.{plain_by}
use Rattle.source_laws.proofs.RelationLaws.{clause_alike}
use Rattle.source_laws.proofs.TypingLaws.{is_in}
use Rattle.repair_semantics.specs.TargetItems.{Content, TargetItem}
use Rattle.reading_laws.specs.Matching.{slot_holds, content_holds, HasObject, HoldsThroughout}
use Rattle.reading_laws.proofs.ItemLaws.{all_from, throughout_matched, matched_throughout}
use Rattle.reading_laws.proofs.MeetingPlaces.{IsContentOf, StandsIn, item_stands}
use Rattle.same_targets.proofs.Twins.{Pairing, OneTwin, AllTwins, IsTwinning, twin_once}
use Rattle.same_targets.proofs.TwinBindings.{AreTwins, twin_there, twin_back, twin_binding, twins_agree}
use Rattle.same_targets.proofs.TwinVariables.{have_alike, had_twin, had_apart}

-- ---- what stands in a slot

long_list : (R : Pairing) (ds es : List Datum) → AllZip R ds es → length ds ≡ length es
long_list R [] [] h = refl
long_list R [] (e ∷ es) h = absurd h
long_list R (d ∷ ds) [] h = absurd h
long_list R (d ∷ ds) (e ∷ es) h = ap suc (long_list R ds es h.1)

empty_alike : (R : Pairing) (s u : Option (List Datum)) → AllTwins R s u → is_empty_slot s ≡ is_empty_slot u
empty_alike R None None h = refl
empty_alike R None (Some es) h = absurd h
empty_alike R (Some ds) None h = absurd h
empty_alike R (Some ds) (Some es) h = ap (λ n. n == 0) (long_list R ds es h)

sources_twin : (program : Program) (ms ns : List ModelData) (R : Pairing) → IsTwinning program ms ns R → (o : Option Datum) → IfOfSources program.target o → OneTwin R o o
sources_twin program ms ns R i None own = tt
sources_twin program ms ns R i (Some d) own = i.sources d own

module _ (program : Program) (ms ns : List ModelData) (R : Pairing) (i : IsTwinning program ms ns R) where
  among_alike : (d e : Datum) → R d e → (ds es : List Datum) → AllZip R ds es → is_among d ds ≡ is_among e es
  among_alike d e r [] [] h = refl
  among_alike d e r [] (y ∷ es) h = absurd h
  among_alike d e r (x ∷ ds) [] h = absurd h
  among_alike d e r (x ∷ ds) (y ∷ es) h = ap (λ b. b || is_among d ds) (i.one d x e y r h.0) ∙ ap (λ b. same_datum e y || b) (among_alike d e r ds es h.1)

  has_alike : (s u : Option (List Datum)) (o p : Option Datum) → AllTwins R s u → OneTwin R o p → has s o ≡ has u p
  has_alike None None o p h k = refl
  has_alike None (Some es) o p h k = absurd h
  has_alike (Some ds) None o p h k = absurd h
  has_alike (Some ds) (Some es) None None h k = refl
  has_alike (Some ds) (Some es) None (Some e) h k = absurd k
  has_alike (Some ds) (Some es) (Some d) None h k = absurd k
  has_alike (Some ds) (Some es) (Some d) (Some e) h k = among_alike d e k ds es h

  module _ (rel : Rel) (b c : Values) (apart : IsApart program rel b) (twins : AreTwins R b c) where
    abbrev both : AgreeOnSources program rel b c
    both = twins_agree program ms ns R i rel b c apart twins

    -- ---- values of expressions

    -- a variable alone, or an expression that speaks of sources
    pub plain_twin : (e : Typed) → IsPlainArgument program rel e → OneTwin R (datum_of (value_for program ms e b)) (datum_of (value_for program ns e c))
    plain_twin e (IsPlainArgument.alone ty v is) =
        subst (λ o. OneTwin R o (datum_of (value_for program ns e c))) (sym (alone_datum program ms b e ty v is))
        (subst (λ o. OneTwin R (value_at b v) o) (sym (alone_datum program ns c e ty v is)) (twins.each v))
    plain_twin e (IsPlainArgument.of_sources speaks names) =
        let same = value_alike program ms ns e b c i.agree speaks both.places (λ v named. both.same v (names v named)) (λ v d named at. apart v d (names v named) at) in
        subst (λ o. OneTwin R (datum_of (value_for program ms e b)) o) (ap datum_of same.0)
        (sources_twin program ms ns R i (datum_of (value_for program ms e b)) (datum_apart program.target (value_for program ms e b) same.1))

    module _ (rule : HandsTargetOn program rel) where
      item_twin : (dom : Dom) (e : Typed) → Contains rel.domains dom → IsItemExpression dom e → OneTwin R (datum_of (value_for program ms e b)) (datum_of (value_for program ns e c))
      item_twin dom e among is =
          plain_twin e (plain_by program rel e (is_in e.node) refl rule (MayBeTarget.item dom among is) (rule.speaks e (IsExpressionOf.item dom among is)))

      -- ---- templates

      expression_in : (value : ItemValue) (content : Content) (e : Typed) → IsContentOf value content → content ≡ Content.expression e → value ≡ items.Expr e
      expression_in value content e (IsContentOf.empty is none) same = absurd (never (sym none ∙ same))
        where
          never : ◌≡◌ {A = Content} Content.empty (Content.expression e) → ⊥
          never h = cc
      expression_in value content e (IsContentOf.expression x is own) same = is ∙ ap items.Expr (inner (sym own ∙ same))
        where
          inner : ◌≡◌ {A = Content} (Content.expression x) (Content.expression e) → x ≡ e
          inner h = cc
      expression_in value content e (IsContentOf.template t is own) same = absurd (never (sym own ∙ same))
        where
          never : ◌≡◌ {A = Content} (Content.template (out-Tmpl t).var) (Content.expression e) → ⊥
          never h = cc

      module _ (dom : Dom) (root : Tmpl) (among : Contains rel.domains dom) (has_root : dom.template ≡ Some root) where
        slot_alike : (item : TargetItem) → StandsIn root item → (s u : Option (List Datum)) → AllTwins R s u → (content : Content) → item.content ≡ content
            → slot_holds program ms b s content ≡ slot_holds program ns c u content
        slot_alike item stands s u h Content.empty is = empty_alike R s u h
        slot_alike item stands s u h (Content.expression e) is =
            has_alike s u (datum_of (value_for program ms e b)) (datum_of (value_for program ns e c)) h (item_twin dom e among (record {
              item = stands.item;
              of = record { template = stands.template; of = record { root = root; has = has_root; nested = stands.nested }; has = stands.has };
              is = expression_in stands.item.value item.content e stands.content is;
            }))
        slot_alike item stands s u h (Content.template v) is = has_alike s u (value_at b v) (value_at c v) h (twins.each v)

        content_alike : (item : TargetItem) → StandsIn root item → (o p : Option Datum) → OneTwin R o p
            → content_holds program ms b item.prop item.content o ≡ content_holds program ns c item.prop item.content p
        content_alike item stands None None h = refl
        content_alike item stands None (Some e) h = absurd h
        content_alike item stands (Some d) None h = absurd h
        content_alike item stands (Some d) (Some e) h =
            slot_alike item stands (held_at (setting program ms) d item.prop.0) (held_at (setting program ns) e item.prop.0) (i.held d e item.prop.0 h) item.content refl

        object_there : (t : Tmpl) → HasObject program ms b t → HasObject program ns c t
        object_there t o =
            let e = twin_there R b c twins (out-Tmpl t).var o.datum o.at in
            record { datum = e.0; at = e.1; of_class = sym (ap (conforms (out-Tmpl t).class.0) (i.classes o.datum e.0 e.2)) ∙ o.of_class }

        throughout_there : HoldsThroughout program ms b root → HoldsThroughout program ns c root
        throughout_there h = record {
          objects = λ inner nested. object_there inner (h.objects inner nested);
          items = λ item has.
              sym (content_alike item (item_stands root item has) (value_at b item.owner) (value_at c item.owner) (twins.each item.owner)) ∙ h.items item has;
        }

        template_there : meets program ms root b ≡ true → meets program ns root c ≡ true
        template_there h = matched_throughout program ns c root (throughout_there (throughout_matched program ms b root h))

      -- the templates of the target match
      target_by : (dom : Dom) → Contains rel.domains dom → (o : Option Tmpl) → dom.template ≡ o → template_meets program ms o b ≡ true → template_meets program ns o c ≡ true
      target_by dom among None has_none h = refl
      target_by dom among (Some root) has_root h = template_there dom root among has_root h

      domain_there : (dom : Dom) → Contains rel.domains dom → target_meets program ms b dom ≡ true → target_meets program ns c dom ≡ true
      domain_there dom among h = by (is_target_domain program dom) h
        where
          by : (x : Bool) → (not x || template_meets program ms dom.template b) ≡ true → (not x || template_meets program ns dom.template c) ≡ true
          by true k = target_by dom among dom.template refl k
          by false k = refl

-- a twin of a partner
pub record TargetTwin (program : Program) (ns : List ModelData) (R : Pairing) (rel : Rel) (c g : Values) : Type 0 where
  pub partner : Values
  pub twins : AreTwins R g partner
  pub target : Target program ns rel c partner

module _ (program : Program) (ms ns : List ModelData) (R : Pairing) (i : IsTwinning program ms ns R) (number : ℕ) (rel : Rel) (meant : AreMeant program)
    (found : slice_get program.rels number ≡ Some rel) (rule : HandsTargetOn program rel) (b g : Values) (apart : IsApart program rel b) (target : Target program ms rel b g)
  where
    have_domains : (have_values program ms rel rel.existential g && list_all (target_meets program ms g) rel.domains) ≡ true
    have_domains =
        (and_parts (have_values program ms rel rel.existential g && list_all (target_meets program ms g) rel.domains) (list_all (conjunct_holds program ms g) rel.wheres) target.meets).0

    have : have_values program ms rel rel.existential g ≡ true
    have = (and_parts (have_values program ms rel rel.existential g) (list_all (target_meets program ms g) rel.domains) have_domains).0

    domains : list_all (target_meets program ms g) rel.domains ≡ true
    domains = (and_parts (have_values program ms rel rel.existential g) (list_all (target_meets program ms g) rel.domains) have_domains).1

    wheres : list_all (conjunct_holds program ms g) rel.wheres ≡ true
    wheres =
        (and_parts (have_values program ms rel rel.existential g && list_all (target_meets program ms g) rel.domains) (list_all (conjunct_holds program ms g) rel.wheres) target.meets).1

    pub partner_apart : IsApart program rel g
    partner_apart v d outside at = by (target.no_others v d at)
      where
        by : Contains rel.existential v ⊎ (value_at b v ≡ Some d) → IsOfSources program.target d
        by (inl has) = had_apart program ms ns R i rel rel.existential g have v d has at outside
        by (inr is) = apart v d outside is

    module _ (c : Values) (binding_twins : AreTwins R b c) where
      twin_value : (v : ℕ) (d : Datum) → value_at g v ≡ Some d → (e : Datum) × R d e
      twin_value v d at = by (target.no_others v d at)
        where
          by : Contains rel.existential v ⊎ (value_at b v ≡ Some d) → (e : Datum) × R d e
          by (inl has) = had_twin program ms ns R i rel rel.existential g have v d has at
          by (inr is) = let e = twin_there R b c binding_twins v d is in (e.0, e.2)

      pub target_there : TargetTwin program ns R rel c g
      target_there = record { partner = h.0; twins = h.1; target = there }
        where
          h : (x : Values) × AreTwins R g x
          h = twin_binding R g twin_value

          extends : (v : ℕ) (d : Datum) → value_at c v ≡ Some d → value_at h.0 v ≡ Some d
          extends v d at =
              let own = twin_back R b c binding_twins v d at in
              let value = twin_there R g h.0 h.1 v own.0 (target.extends v own.0 own.1) in
              value.1 ∙ ap (λ (x : Datum). Some x) (twin_once program ms ns R i own.0 value.0 d value.2 own.2)

          others_by : (v : ℕ) (d e : Datum) → R d e → Contains rel.existential v ⊎ (value_at b v ≡ Some d) → Contains rel.existential v ⊎ (value_at c v ≡ Some e)
          others_by v d e r (inl has) = inl has
          others_by v d e r (inr is) =
              let own = twin_there R b c binding_twins v d is in
              inr (own.1 ∙ ap (λ (x : Datum). Some x) (twin_once program ms ns R i d own.0 e own.2 r))

          no_others : (v : ℕ) (e : Datum) → value_at h.0 v ≡ Some e → Contains rel.existential v ⊎ (value_at c v ≡ Some e)
          no_others v e at = let value = twin_back R g h.0 h.1 v e at in others_by v value.0 e value.2 (target.no_others v value.0 value.1)

          have_there : have_values program ns rel rel.existential h.0 ≡ true
          have_there = sym (have_alike program ms ns R i rel rel.existential g h.0 h.1) ∙ have

          domains_there : list_all (target_meets program ns h.0) rel.domains ≡ true
          domains_there =
              all_from (target_meets program ns h.0) rel.domains
              (λ dom among. domain_there program ms ns R i rel g h.0 partner_apart h.1 rule dom among (list_all_at (target_meets program ms g) rel.domains dom domains among))

          wheres_there : list_all (conjunct_holds program ns h.0) rel.wheres ≡ true
          wheres_there =
              sym (clause_alike program ms ns i.agree rel rule g h.0 partner_apart (twins_agree program ms ns R i rel g h.0 partner_apart h.1) (λ v. ¬ IsUniversal program rel v) rel.wheres
              (λ x has. inr has) (meant number rel found).variables (meant number rel found).wheres)
              ∙ wheres

          there : Target program ns rel c h.0
          there = record {
            places = sym h.1.places ∙ target.places;
            extends = extends;
            no_others = no_others;
            meets = and_from (have_values program ns rel rel.existential h.0 && list_all (target_meets program ns h.0) rel.domains) (list_all (conjunct_holds program ns h.0) rel.wheres)
                (and_from (have_values program ns rel rel.existential h.0) (list_all (target_meets program ns h.0) rel.domains) have_there domains_there) wheres_there;
          }

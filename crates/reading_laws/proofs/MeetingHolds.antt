-- Where the demands of an entry stand, its values as they are read over the models match the target template.
use Rattle.std.specs.Prelude.{◌≡◌, ◌<◌, ◌&&◌, ℕ, Bool, true, false, not, List, length, Option, None, Some, is_none, slice_get, Contains}
use Rattle.std.specs.Option.{option_map, option_and_then}
use Rattle.std.proofs.Common.{refl, sym, ap, subst, ◌∙◌, eq-eqb}
use Rattle.std.proofs.lemmas.Bool.{true≢false}
use Rattle.mof_metamodel.specs.declared.desc.MetaDesc.{MetaDesc}
use Rattle.object_tables.specs.Models.{ModelData, class_at}
use Rattle.qv_syntax.specs.declared.typed.Typed.{Typed}
use Rattle.qv_syntax.specs.declared.typed.TypedInfix.{TypedInfix}
use Rattle.qv_syntax.specs.declared.typed.TypedPostfix.{TypedPostfix}
use Rattle.qv_syntax.specs.declared.typed.Node.{Node, out-Node, roll-Node, roll-out-Node, out-roll-Node}
use Rattle.qv_syntax.specs.declared.typed.Node.TheVariants as variants
use Rattle.qv_syntax.specs.declared.typed.Call.{Call}
use Rattle.qv_syntax.specs.declared.typed.Call.TheOpen as nodes
use Rattle.qv_syntax.specs.declared.program.Program.{Program}
use Rattle.qv_syntax.specs.declared.program.Rel.{Rel}
use Rattle.qv_syntax.specs.declared.program.Var.{Var}
use Rattle.qv_syntax.specs.declared.program.Dom.{Dom}
use Rattle.qv_syntax.specs.declared.program.Tmpl.{Tmpl, out-Tmpl}
use Rattle.qv_syntax.specs.Relations.{IsTargetDomain, IsModelDomain, IsTemplateOf, IsItemExpression}
use Rattle.qv_syntax.specs.Directions.{IsMeant, IsDeclared}
use Rattle.qvtr_semantics.specs.declared.datum.Datum.{Datum}
use Rattle.qvtr_semantics.specs.Outs.{datum_of}
use Rattle.qvtr_semantics.specs.Objects.{is_kind_of, conforms_if, object_datum, held_at}
use Rattle.qvtr_semantics.specs.Expressions.{setting, value, bound_value, value_for}
use Rattle.qvtr_semantics.specs.Templates.{Values, value_at, has, meets}
use Rattle.qvtr_semantics.specs.Bindings.{is_model}
use Rattle.template_match.specs.Sources.{is_of_target, is_target_variable}
use Rattle.evaluation_laws.proofs.SlotLaws.{variable_value}
use Rattle.repair_semantics.specs.declared.term.Term.{Term, out-Term}
use Rattle.repair_semantics.specs.declared.term.TermValue.{TermValue}
use Rattle.repair_semantics.specs.declared.term.TermValue.TheVariants as values
use Rattle.repair_semantics.specs.declared.demand.Demand.{Demand}
use Rattle.repair_semantics.specs.EntryValues.{TermValues, value_of, Known, variable_at, variable_alone, given_by, given_value, is_target_one, is_target_alone}
use Rattle.repair_semantics.specs.TargetItems.{Content, TargetItem, class_in, class_of_variable, target_items}
use Rattle.repair_semantics.specs.Making.{entry_known, content_value}
use Rattle.repair_semantics.specs.Unmet.{is_lacking, is_content_lacking}
use Rattle.repair_semantics.specs.Demands.{demand_by, demands_where}
use Rattle.source_laws.specs.SourceRelations.{NamesSources}
use Rattle.source_laws.specs.TargetRule.{MayBeTarget, IsExpressionOf, IsVariableAlone}
use Rattle.source_laws.proofs.CallLaws.{alone_value}
use Rattle.source_laws.proofs.RuleLaws.{model_domain}
use Rattle.reading_laws.specs.Matching.{slot_holds, content_holds, item_holds, HasObject}
use Rattle.reading_laws.specs.Readings.{Numbering, Stands, AllStand, read_value}
use Rattle.reading_laws.proofs.ItemLaws.{matched_throughout}
use Rattle.reading_laws.proofs.MeetingValues.{nothing_some, some_given, term_to, datum_read, read_term}
use Rattle.std.proofs.lemmas.Option.{same_Some}
use Rattle.reading_laws.proofs.MeetingObjects.{class_fits}
use Rattle.reading_laws.proofs.MeetingUnmet.{item_met, demanded}
use Rattle.reading_laws.proofs.MeetingTypes.{below_vars}
use Rattle.reading_laws.proofs.MeetingKnown.{IsMeeting, rule, expression_agrees, term_known}
use Rattle.reading_laws.proofs.MeetingPlaces.{joined, IsContentOf, StandsIn, target_item_stands, target_template}
use Rattle.reading_laws.proofs.MeetingSlots.{held_stands, held_read}

-- ---- a variable alone

alone_layer : (d : nodes.Node-F Call Node Typed TypedInfix TypedPostfix) (v : ℕ) → variable_at d ≡ Some v → d ≡ nodes.Variable v
alone_layer (nodes.Variable n) v h = ap nodes.Variable (same_Some n v h)
alone_layer d v h = absurd (nothing_some v h)

pub alone_is : (e : Typed) (v : ℕ) → variable_alone e ≡ Some v → e ≡ record { ty = e.ty; node = variants.Variable v }
alone_is e v h =
    ap (λ (n : Node). let x : Typed = record { ty = e.ty; node = n } in x)
    (sym (roll-out-Node e.node) ∙ ap roll-Node (alone_layer (out-Node e.node) v h) ∙ variants.rolls-Variable v)

pub alone_back : (e : Typed) → IsVariableAlone e → (v : ℕ) × (variable_alone e ≡ Some v)
alone_back e (ty, v, is) = (
  v,
  ap variable_alone is ∙ ap (λ (n : Node). variable_at (out-Node n)) (sym (variants.rolls-Variable v)) ∙ ap variable_at (out-roll-Node (nodes.Variable v)),
)

module _ (metas : List MetaDesc) (program : Program) (sources models : List ModelData) (m : ModelData) (terms : List Term) (number : Numbering) (rel : Rel) (roots b : TermValues) (c g : Values)
    (p : IsMeeting metas program sources models m terms number rel roots b c g) where
  abbrev k : Known
  k = entry_known program sources rel b

  abbrev meant : IsMeant program p.place rel
  meant = p.over.evaluable.well.relations p.place rel p.found

  target_below : (v : ℕ) → is_target_variable program rel v ≡ true → v < length rel.vars
  target_below v target = by (slice_get rel.vars v) refl
    where
      by : (o : Option Var) → slice_get rel.vars v ≡ o → v < length rel.vars
      by None at = absurd (true≢false (sym target ∙ ap (is_of_target program) at))
      by (Some var) at = below_vars rel v var at

  -- ---- values of expressions

  sources_named : (e : Typed) → MayBeTarget rel e → variable_alone e ≡ None → NamesSources program rel e
  sources_named e may none v names = by (is_target_variable program rel v) refl
    where
      by : (x : Bool) → is_target_variable program rel v ≡ x → x ≡ false
      by true target =
          let (w, at) = alone_back e ((rule metas program sources models m terms number rel roots b c g p).alone e v may names target) in
          absurd (nothing_some w (sym none ∙ at))
      by false outside = refl

  -- the value of an item or of an argument is that of its expression over the models, as it is read
  pub given_read : (e : Typed) → IsExpressionOf rel e → MayBeTarget rel e → (x : TermValue) → given_value program sources k e ≡ Some x
      → (d : Datum) × (datum_of (value_for program models e g) ≡ Some d) × (read_value program number x ≡ Some d)
  given_read e is may x h = by (variable_alone e) refl h
    where
      from_datum : (o : Option Datum) → datum_of (value program sources e k.scope) ≡ o → option_map (λ d. values.Val d) o ≡ Some x
          → variable_alone e ≡ None → (d : Datum) × (datum_of (value_for program models e g) ≡ Some d) × (read_value program number x ≡ Some d)
      from_datum None has same none = absurd (nothing_some x same)
      from_datum (Some d) has same none = (
        d,
        ap datum_of (sym (expression_agrees metas program sources models m terms number rel roots b c g p e is (sources_named e may none))) ∙ has,
        ap (read_value program number) (sym (same_Some (values.Val d) x same)) ∙ datum_read program number d,
      )

      by : (o : Option ℕ) → variable_alone e ≡ o → given_by program sources k e o ≡ Some x → (d : Datum) × (datum_of (value_for program models e g) ≡ Some d) × (read_value program number x ≡ Some d)
      by None none given = from_datum (datum_of (value program sources e k.scope)) refl given none
      by (Some v) at given =
          let (d, there, read) = p.made.given v x given in (
            d,
            ap (λ (y : Typed). datum_of (value_for program models y g)) (alone_is e v at)
                ∙ ap datum_of (alone_value program models e.ty v g ∙ sym (variable_value g v) ∙ ap bound_value there),
            read,
          )

  -- one that isn't lacking is there
  pub given_there : (e : Typed) → is_lacking program sources rel k e ≡ false → (x : TermValue) × (given_value program sources k e ≡ Some x)
  given_there e met = by (is_target_alone program rel e) refl met
    where
      by_variable : (o : Option ℕ) → variable_alone e ≡ o → is_target_one program rel o ≡ true → (x : TermValue) × (given_by program sources k e o ≡ Some x)
      by_variable None none target = absurd (true≢false (sym target))
      by_variable (Some v) at target =
          let (t, known) = term_known metas program sources models m terms number rel roots b c g p v (target_below v target) target in (values.Term t, known)

      by : (y : Bool) → is_target_alone program rel e ≡ y → (not y && is_none (given_value program sources k e)) ≡ false → (x : TermValue) × (given_value program sources k e ≡ Some x)
      by true target none = by_variable (variable_alone e) refl target
      by false outside none = some_given (given_value program sources k e) none

  -- ---- objects of templates

  record HasTerm (t : Tmpl) : Type 0 where
    term : Term
    n : ℕ
    known : value_of k.values (out-Tmpl t).var ≡ Some (values.Term term)
    number_is : number term ≡ Some n
    at : value_at g (out-Tmpl t).var ≡ Some (object_datum program.target n)
    among : Contains terms term
    kind : is_kind_of m.meta (out-Term term).class.0 (out-Tmpl t).class.0 ≡ true

  declared_in : (dom : Dom) → IsTargetDomain program rel dom → (t : Tmpl) → IsTemplateOf dom t → (model meta : ℕ) × IsDeclared rel model meta t × (model ≡ program.target)
  declared_in dom of t within =
      let d : IsModelDomain program rel dom = model_domain metas program p.over.evaluable.well p.place rel p.found dom t of.is within in
      (d.model, d.slot.meta, meant.domains.declared dom d t within, same_Some d.model program.target (sym d.of_model ∙ of.target))

  has_term : (dom : Dom) → IsTargetDomain program rel dom → (t : Tmpl) → IsTemplateOf dom t → HasTerm t
  has_term dom of t within =
      let (model, meta, declared, same) = declared_in dom of t within in
      let v = (out-Tmpl t).var in
      let target : is_target_variable program rel v ≡ true =
      ap (is_of_target program) declared.found ∙ ap (λ x. is_model x program.target) (declared.of_model ∙ ap (λ y. Some y) same) ∙ eq-eqb program.target program.target refl in
      let (term, known) = term_known metas program sources models m terms number rel roots b c g p v (target_below v target) target in
      let (n, num, at) = read_term program number k.values g p.made v term known in
      let class_is : class_of_variable rel v ≡ Some (out-Tmpl t).class.0 = ap (option_and_then (λ (x : Var). class_in x.ty)) declared.found ∙ ap class_in declared.class in
      record {
        term = term;
        n = n;
        known = known;
        number_is = num;
        at = at;
        among = p.among.among v term (term_to k.values v term known);
        kind = p.among.typed v term (out-Tmpl t).class.0 (term_to k.values v term known) class_is;
      }

  pub has_object : (dom : Dom) → IsTargetDomain program rel dom → (t : Tmpl) → IsTemplateOf dom t → HasObject program models g t
  has_object dom of t within =
      let o = has_term dom of t within in
      record {
        datum = object_datum program.target o.n;
        at = o.at;
        of_class = class_fits metas program sources models m terms number p.over p.reading p.place rel p.found (out-Tmpl t).class.0 o.term o.n o.among o.number_is o.kind;
      }

  class_there : (t : Term) (n : ℕ) → Contains terms t → number t ≡ Some n → (class : ℕ) × (class_at m n ≡ Some class)
  class_there t n among num = by (class_at m n) refl (p.reading.holds t n among num).conforms
    where
      by : (o : Option ℕ) → class_at m n ≡ o → conforms_if m.meta (out-Term t).class.0 o ≡ true → (class : ℕ) × (class_at m n ≡ Some class)
      by None at h = absurd (true≢false (sym h))
      by (Some class) at h = (class, at)

  -- ---- items

  module _ (entry : ℕ) (all : AllStand program m number (demands_where program sources entry rel k)) where
    -- what an item demands stands in its slot
    demand_held : (i : TargetItem) → Contains (target_items program rel) i → (t : Tmpl) → (out-Tmpl t).var ≡ i.owner → HasTerm t
        → (x : TermValue) (d : Datum) → content_value program sources k i.content ≡ Some x → read_value program number x ≡ Some d
        → (n : ℕ) × (value_at g i.owner ≡ Some (object_datum program.target n)) × (has (held_at (setting program models) (object_datum program.target n) i.prop.0) (Some d) ≡ true)
    demand_held i there t owner o x d content read =
        let known : value_of k.values i.owner ≡ Some (values.Term o.term) = ap (value_of k.values) (sym owner) ∙ o.known in
        let asked : Demand = record { entry = entry; owner = o.term; prop = i.prop; value = x } in
        let stands : Stands program m number asked = all asked (demanded program sources rel k p.met entry i asked there
        (ap (λ a. demand_by entry i a (content_value program sources k i.content)) (term_to k.values i.owner o.term known) ∙ ap (demand_by entry i (Some o.term)) content)) in
        let same : stands.owner ≡ o.n = same_Some stands.owner o.n (sym stands.owner_is ∙ o.number_is) in
        let (class, class_is) = class_there o.term stands.owner o.among stands.owner_is in (
          stands.owner,
          ap (value_at g) (sym owner) ∙ o.at ∙ ap (λ n. Some (object_datum program.target n)) (sym same),
          ap (λ y. has (held_at (setting program models) (object_datum program.target stands.owner) i.prop.0) (Some y)) (sym (held_read program number x stands.held d stands.held_is read))
              ∙ held_stands program models m p.over.target p.over.valid.kept stands.owner i.prop.0 class stands.held class_is stands.holds,
        )

    holds_by : (i : TargetItem) (n : ℕ) → value_at g i.owner ≡ Some (object_datum program.target n) → (x : Content) → i.content ≡ x
        → slot_holds program models g (held_at (setting program models) (object_datum program.target n) i.prop.0) x ≡ true → item_holds program models g i ≡ true
    holds_by i n at x is holds =
        ap (content_holds program models g i.prop i.content) at ∙ ap (slot_holds program models g (held_at (setting program models) (object_datum program.target n) i.prop.0)) is ∙ holds

    item_by : (i : TargetItem) → Contains (target_items program rel) i → (dom : Dom) → IsTargetDomain program rel dom → (root : Tmpl) → dom.template ≡ Some root → (st : StandsIn root i)
        → IsContentOf st.item.value i.content → item_holds program models g i ≡ true
    item_by i there dom of root has_root st (IsContentOf.empty value_is content_is) =
        absurd (true≢false (ap (is_content_lacking program sources rel k) (sym content_is) ∙ item_met program sources rel k p.met i there))
    item_by i there dom of root has_root st (IsContentOf.expression e value_is content_is) =
        with_value (given_there e (ap (is_content_lacking program sources rel k) (sym content_is) ∙ item_met program sources rel k p.met i there))
      where
        within : IsTemplateOf dom st.template
        within = record { root = root; has = has_root; nested = st.nested }

        of_item : IsItemExpression dom e
        of_item = record { item = st.item; of = record { template = st.template; of = within; has = st.has }; is = value_is }

        with_slot : (d : Datum) → datum_of (value_for program models e g) ≡ Some d
            → (n : ℕ) × (value_at g i.owner ≡ Some (object_datum program.target n)) × (has (held_at (setting program models) (object_datum program.target n) i.prop.0) (Some d) ≡ true)
            → item_holds program models g i ≡ true
        with_slot d value_is_d (n, at, stands) =
            holds_by i n at (Content.expression e) content_is (ap (has (held_at (setting program models) (object_datum program.target n) i.prop.0)) value_is_d ∙ stands)

        with_datum : (x : TermValue) → given_value program sources k e ≡ Some x → (d : Datum) × (datum_of (value_for program models e g) ≡ Some d) × (read_value program number x ≡ Some d)
            → item_holds program models g i ≡ true
        with_datum x given (d, value_is_d, read) =
            with_slot d value_is_d (demand_held i there st.template st.var (has_term dom of st.template within) x d (ap (content_value program sources k) content_is ∙ given) read)

        with_value : (x : TermValue) × (given_value program sources k e ≡ Some x) → item_holds program models g i ≡ true
        with_value (x, given) = with_datum x given (given_read e (IsExpressionOf.item dom of.is of_item) (MayBeTarget.item dom of.is of_item) x given)
    item_by i there dom of root has_root st (IsContentOf.template part value_is content_is) =
        with_term (has_term dom of part (record { root = root; has = has_root; nested = joined root st.template part st.nested st.item st.has value_is }))
      where
        with_slot : (d : Datum) → value_at g (out-Tmpl part).var ≡ Some d
            → (n : ℕ) × (value_at g i.owner ≡ Some (object_datum program.target n)) × (has (held_at (setting program models) (object_datum program.target n) i.prop.0) (Some d) ≡ true)
            → item_holds program models g i ≡ true
        with_slot d at_part (n, at, stands) =
            holds_by i n at (Content.template (out-Tmpl part).var) content_is (ap (has (held_at (setting program models) (object_datum program.target n) i.prop.0)) at_part ∙ stands)

        with_datum : (o : HasTerm part) → (d : Datum) × (value_at g (out-Tmpl part).var ≡ Some d) × (read_value program number (values.Term o.term) ≡ Some d) → item_holds program models g i ≡ true
        with_datum o (d, at_part, read) =
            with_slot d at_part (demand_held i there st.template st.var (has_term dom of st.template (record { root = root; has = has_root; nested = st.nested })) (values.Term o.term) d
            (ap (content_value program sources k) content_is ∙ o.known) read)

        with_term : HasTerm part → item_holds program models g i ≡ true
        with_term o = with_datum o (p.made.given (out-Tmpl part).var (values.Term o.term) o.known)

    -- the template of the domain matches
    pub template_matches : (dom : Dom) → IsTargetDomain program rel dom → (root : Tmpl) → dom.template ≡ Some root → meets program models root g ≡ true
    template_matches dom of root has_root =
        matched_throughout program models g root (record {
          objects = λ t nested. has_object dom of t (record { root = root; has = has_root; nested = nested });
          items = λ i among.
              let there : Contains (target_items program rel) i = subst (λ its. Contains its i) (sym (target_template program rel dom root meant.domains.models of has_root)) among in
              let st = target_item_stands program rel i there in
              item_by i there st.dom st.is.of st.root st.is.has st.stands st.stands.content;
        })

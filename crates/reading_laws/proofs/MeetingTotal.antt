-- Each variable of an entry that is not unmet has a value: no more terms wait for one another than there are variables.
use Rattle.std.specs.Prelude.{◌≡◌, ◌≢◌, ◌⊎◌, ◌<◌, ◌&&◌, ◌==◌, ℕ, suc, Bool, true, false, not, if◌then◌else◌, List, [], ◌∷◌, map, length, Option, None, Some, is_some, is_none, slice_get, Contains}
use Rattle.std.specs.List.{find}
use Rattle.std.specs.Option.{option_map, option_and_then, option_or}
use Rattle.std.proofs.Common.{refl, sym, ap, subst, ◌∙◌, inl, inr, eq-eqb}
use Rattle.std.proofs.lemmas.Bool.{true≢false, eqb-true}
use Rattle.mof_metamodel.specs.declared.desc.MetaDesc.{MetaDesc}
use Rattle.mof_metamodel.specs.declared.desc.ClassId.{ClassId}
use Rattle.mof_metamodel.specs.declared.desc.PropId.{PropId}
use Rattle.mof_metamodel.specs.Metamodels.{opposite_of}
use Rattle.object_tables.specs.Models.{ModelData}
use Rattle.object_tables.proofs.SlotLemmas.{Contains-to_filter}
use Rattle.qv_syntax.specs.declared.ty.Ty.TheVariants as types
use Rattle.qv_syntax.specs.declared.typed.Typed.{Typed}
use Rattle.qv_syntax.specs.declared.program.Program.{Program}
use Rattle.qv_syntax.specs.declared.program.Rel.{Rel}
use Rattle.qv_syntax.specs.declared.program.Key.{Key}
use Rattle.qv_syntax.specs.declared.program.Var.{Var}
use Rattle.qv_syntax.specs.declared.program.Dom.{Dom}
use Rattle.qv_syntax.specs.declared.program.Tmpl.{Tmpl, out-Tmpl}
use Rattle.qv_syntax.specs.declared.program.Item.{Item}
use Rattle.qv_syntax.specs.declared.program.ItemValue.TheVariants as items
use Rattle.qv_syntax.specs.declared.program.Conj.TheVariants as conjuncts
use Rattle.qv_syntax.specs.Parts.{IsWithin, IsNested, HasItem}
use Rattle.qv_syntax.specs.Relations.{IsTargetDomain, IsTemplateOf, IsUniversal, IsDataVariable}
use Rattle.qv_syntax.specs.Directions.{IsMeant}
use Rattle.qvtr_semantics.specs.declared.datum.Datum.{Datum}
use Rattle.qvtr_semantics.specs.Outs.{datum_of, all_given}
use Rattle.qvtr_semantics.specs.Expressions.{Scope, value, variable}
use Rattle.template_match.specs.Sources.{is_target_variable, source_variables}
use Rattle.template_match.proofs.ListLaws.{contains_later, find_some, find_none}
use Rattle.mof_metamodel.proofs.Facts.{contains_first}
use Rattle.template_match.proofs.SideLaws.{Valued, valued}
use Rattle.mof_metamodel.proofs.Facts.{contains_at}
use Rattle.enforcement_rules.specs.declared.standing.Place.{Place}
use Rattle.enforcement_rules.specs.KnownVariables.{IsKnown}
use Rattle.enforcement_rules.specs.TargetParts.{target_desc, Stands, IsMade}
use Rattle.enforcement_rules.specs.Patterns.{IsHandedOn, HasConcreteTemplate}
use Rattle.enforcement_rules.specs.Keys.{IsKeyOf, IsOpposite, IsGiven, IsKeyed, HasVariable, IsInKeyValue, DependsOn}
use Rattle.enforcement_rules.specs.Rules.{Breaks}
use Rattle.repair_semantics.specs.declared.term.TermValue.{TermValue}
use Rattle.repair_semantics.specs.declared.term.TermValue.TheVariants as values
use Rattle.repair_semantics.specs.EntryValues.{TermValues, value_of, data_in, Known, variable_alone, given_out, given_by, is_target_one}
use Rattle.repair_semantics.specs.TargetItems.{Content, TargetItem, variable_of, class_of_variable, target_metamodel, target_items, parts}
use Rattle.repair_semantics.specs.Making.{variables, entry_scope, content_value, is_item_at, first_item, is_option_of, item_around, parent_value, key_value_by, key_value, keyed, term_by, made_term, value_or_datum, values_within, entry_known}
use Rattle.repair_semantics.specs.Unmet.{is_lacking, is_content_lacking, is_unmet}
use Rattle.repair_semantics.specs.Entries.{TermSource}
use Rattle.enforceable_sources.proofs.EnforceableLaws.{enforceable_hands_on}
use Rattle.source_laws.proofs.BindingLaws.{found_within}
use Rattle.source_laws.proofs.RuleLaws.{rule_keeps}
use Rattle.reading_laws.specs.Readings.{AreOver}
use Rattle.reading_laws.specs.Roots.{HasRootsOf}
use Rattle.reading_laws.proofs.MeetingValues.{nothing_some, some_given, within_terms, datum_from}
use Rattle.std.proofs.lemmas.Option.{same_Some}
use Rattle.std.proofs.lemmas.Bool.{and_from}
use Rattle.reading_laws.proofs.MeetingObjects.{class_or_data}
use Rattle.reading_laws.proofs.MeetingUnmet.{item_met, conjunct_met}
use Rattle.reading_laws.proofs.MeetingTypes.{length_map, length_variables, have}
use Rattle.reading_laws.proofs.MeetingKnown.{at_variable, length_round}
use Rattle.reading_laws.proofs.MeetingPlaces.{joined, IsContentOf, StandsIn, item_stands, target_template}
use Rattle.reading_laws.proofs.MeetingHolds.{alone_is}
use Rattle.reading_laws.proofs.MeetingRounds.{IsPath, enough}
use Rattle.reading_laws.proofs.MeetingEquations.{equations_hold}
use Rattle.reading_laws.proofs.MeetingKeyed.{class_id, prop_id, known_equation, depends_through, one_key, key_is, meta_is, target_below, below, declared_class}
use Rattle.reading_laws.proofs.MeetingFirst.{FirstIn, Around, first_in, entry_of, entry_owner, entry_prop, entry_nested, entry_listed, stands_somewhere, stands_at, stands_nested, stands_around}

-- ---- small facts

stable : (x : Bool) → (x ≡ false → ⊥) → x ≡ true
stable true h = refl
stable false h = absurd (h refl)

or_none : {X : Type 0} (o q : Option X) → option_or o q ≡ None → (o ≡ None) × (q ≡ None)
or_none None q h = (refl, h)
or_none (Some x) q h = absurd (nothing_some x (sym h))

there_some : {X : Type 0} (o : Option X) → is_none o ≡ false → is_some o ≡ true
there_some None h = absurd (true≢false h)
there_some (Some x) h = refl

from_some : {X : Type 0} (o : Option X) → is_some o ≡ true → (x : X) × (o ≡ Some x)
from_some None h = absurd (true≢false (sym h))
from_some (Some x) h = (x, refl)

mapped_some : {X Y : Type 0} (f : X → Y) (o : Option X) → is_some (option_map f o) ≡ is_some o
mapped_some f None = refl
mapped_some f (Some x) = refl

all_some : {X Y : Type 0} (f : X → Option Y) (xs : List X) → ((x : X) → Contains xs x → is_some (f x) ≡ true) → is_some (all_given (map f xs)) ≡ true
all_some f [] h = refl
all_some {Y = Y} f (x ∷ xs) h = by (f x) (h x (contains_first x xs)) (all_some f xs (λ y c. h y (contains_later y x xs c)))
  where
    by : (o : Option Y) → is_some o ≡ true → is_some (all_given (map f xs)) ≡ true → is_some (all_given (o ∷ map f xs)) ≡ true
    by None here rest = absurd (true≢false (sym here))
    by (Some y) here rest = mapped_some (λ ys. y ∷ ys) (all_given (map f xs)) ∙ rest

module _ (metas : List MetaDesc) (program : Program) (sources models : List ModelData) (m : ModelData) (over : AreOver metas program sources models m)
    (place : ℕ) (rel : Rel) (found : slice_get program.rels place ≡ Some rel) (direction : rel.in_direction ≡ true)
    (roots b : TermValues) (source : TermSource program sources rel roots b) (h : HasRootsOf metas program sources rel roots) (met : is_unmet program sources rel (entry_known program sources rel b) ≡ false) where
  abbrev meant : IsMeant program place rel
  meant = over.evaluable.well.relations place rel found

  abbrev its : List TargetItem
  its = target_items program rel

  abbrev scope : Scope
  scope = entry_scope program sources rel b

  abbrev before : TermValues
  before = map (value_or_datum b scope) (variables rel)

  abbrev round : ℕ → TermValues
  round n = values_within program sources rel its scope before n

  abbrev at_round : ℕ → Known
  at_round n = record { values = round n; scope = scope }

  abbrev k : Known
  k = entry_known program sources rel b

  abbrev Edge : ℕ → ℕ → Type 0
  Edge = DependsOn metas program rel

  abbrev Good : ℕ → ℕ → Type 0
  Good n v = is_some (value_of (round n) v) ≡ true

  -- ---- universal variables

  given_universal : (v : ℕ) → Contains rel.universal v → (x : TermValue) × (value_of b v ≡ Some x)
  given_universal v universal = by (is_target_variable program rel v) refl
    where
      by : (y : Bool) → is_target_variable program rel v ≡ y → (x : TermValue) × (value_of b v ≡ Some x)
      by true target = let (t, at) = source.terms v (record { universal = universal; target = target }) in (values.Term t, at)
      by false outside =
          let x : Valued program sources rel (data_in b) v = valued program sources rel (source_variables program rel) (data_in b) v
          (have metas program sources over.over_sources place rel found
          (rule_keeps metas program over.evaluable.well place rel found (enforceable_hands_on metas program over.evaluable.well place rel over.enforceable found direction)) roots b source h)
          (Contains-to_filter (λ w. not (is_target_variable program rel w)) rel.universal v (ap not outside) universal) in
          (values.Val x.value, datum_from b v x.value x.at)

  -- ---- a variable that has no value yet, where all on which it depends have theirs

  module _ (n v : ℕ) (within : v < length rel.vars) (all : (w : ℕ) → w < length rel.vars → Edge v w → Good n w) (none : value_of before v ≡ None) where
    both : (value_of b v ≡ None) × (given_out (variable scope v) ≡ None)
    both = or_none (value_of b v) (given_out (variable scope v)) (sym (at_variable rel (value_or_datum b scope) v within) ∙ none)

    existential : ¬ IsUniversal program rel v
    existential universal =
        let (var, there) = found_within rel.vars v within in
        let (x, at) = given_universal v ((meant.variables.universal v var there).1 universal) in
        nothing_some x (sym both.0 ∙ at)

    no_data : IsDataVariable rel v → ⊥
    no_data is_data = over.enforceable place 11 (record {
      rel = rel;
      found = found;
      in_direction = direction;
      breaks = Breaks.e11 refl (record { v = v; data_variable = is_data; existential = existential; unknown = unknown });
    })
      where
        unknown : ¬ IsKnown program rel v
        unknown known =
            let (e, there) = known_equation program rel v known existential in
            let (d, is) = some_given (datum_of (value program sources e scope)) (conjunct_met program sources rel k met (conjuncts.Equation v e) there) in
            let holds = equations_hold metas program sources over.over_sources over.enforceable place rel found direction roots b source h v e there in
            nothing_some (values.Val d) (sym both.1 ∙ ap (λ o. option_map (λ (x : Datum). values.Val x) (datum_of o)) holds ∙ ap (option_map (λ (x : Datum). values.Val x)) is)

    not_handed : ¬ IsHandedOn program rel v
    not_handed handed =
        let (t, root) = h.handed handed.called handed.dom handed.of in
        nothing_some (values.Term t) (sym both.0 ∙ source.extends v (values.Term t) (ap (value_of roots) (sym handed.root) ∙ root))

    module _ (dom : Dom) (of : IsTargetDomain program rel dom) (root : Tmpl) (has : dom.template ≡ Some root) where
      its_are : its ≡ (parts root).items
      its_are = target_template program rel dom root meant.domains.models of has

      nested_in : (t : Tmpl) → IsNested root t → IsTemplateOf dom t
      nested_in t nested = record { root = root; has = has; nested = nested }

      is_made : (t : Tmpl) (at : Option Place) → Stands root None t at → (out-Tmpl t).var ≡ v → IsMade program rel t at
      is_made t at stands var = record {
        is = record { dom = dom; of = of; root = root; has = has; stands = stands };
        existential = subst (λ w. ¬ IsUniversal program rel w) (sym var) existential;
        own = λ no_place. top no_place rel.top refl;
      }
        where
          top : at ≡ None → (x : Bool) → rel.top ≡ x → x ≡ true
          top no_place true is = refl
          top no_place false is = absurd (by (stands_around root t None at stands))
            where
              by : ((root ≡ t) × (None ≡ at)) ⊎ Around root t at → ⊥
              by (inl (same, here)) =
                  let (shape, has_shape, is_root) = (meant.domains.shaped dom of.is).shaped program.target of.target in
                  let one : shape ≡ root = same_Some shape root (sym has_shape ∙ has) in
                  not_handed (record { called = is; dom = dom; of = of; root = sym is_root ∙ ap (λ x. (out-Tmpl x).var) (one ∙ same) ∙ var })
              by (inr a) = nothing_some (record { parent = (out-Tmpl a.outer).var; prop = a.prop }) (sym no_place ∙ a.is)

      class_same : (t u : Tmpl) → IsNested root t → IsNested root u → (out-Tmpl t).var ≡ v → (out-Tmpl u).var ≡ v → (out-Tmpl t).class ≡ (out-Tmpl u).class
      class_same t u first second var other =
          class_id (out-Tmpl t).class (out-Tmpl u).class (same_Some (out-Tmpl t).class.0 (out-Tmpl u).class.0
          (sym (declared_class metas program sources models m over place rel found dom of t (nested_in t first)) ∙ ap (class_of_variable rel) (var ∙ sym other) ∙ declared_class metas program sources models m over place rel found dom of u (nested_in u second)))

      -- no item of a template of the variable is at the property
      no_item : (prop : PropId) → first_item its v prop.0 ≡ None → (t : Tmpl) → IsNested root t → (out-Tmpl t).var ≡ v → (item : Item) → HasItem t item → item.prop ≢ prop
      no_item prop nothing t nested var item has_item same =
          let i = entry_of (out-Tmpl t).var item in
          let there : Contains its i = subst (λ xs. Contains xs i) (sym its_are) (entry_listed root t nested item has_item) in
          true≢false (sym (and_from (i.owner == v) (i.prop.0 == prop.0) (eq-eqb i.owner v (entry_owner (out-Tmpl t).var item ∙ var))
          (eq-eqb i.prop.0 prop.0 (ap (λ (q : PropId). q.0) (entry_prop (out-Tmpl t).var item ∙ same))))
          ∙ find_none (is_item_at v prop.0) its i nothing there)

      -- ---- a key property, of the template of the variable

      module _ (t : Tmpl) (at : Option Place) (stands : Stands root None t at) (var : (out-Tmpl t).var ≡ v) (key : Key) (is : IsKeyOf program (out-Tmpl t).class key)
          (given : (prop : PropId) → Contains key.props prop → IsGiven (target_desc metas program) t at prop) (prop : PropId) (among : Contains key.props prop) where
        nested : IsNested root t
        nested = stands_nested root t None at stands

        -- its item has a value
        by_first : (i : TargetItem) → first_item its v prop.0 ≡ Some i → is_some (content_value program sources (at_round n) i.content) ≡ true
        by_first i first = by f.content
          where
            f : FirstIn root v prop.0 i
            f = first_in root v prop.0 i (ap (find (is_item_at v prop.0)) (sym its_are) ∙ first)

            there : Contains its i
            there = (find_some (is_item_at v prop.0) its i first).0

            depends : (w : ℕ) → HasVariable rel f.item.value w → Edge v w
            depends w has_variable =
                let (own_place, own_stands) = stands_somewhere root f.template None f.nested in
                record {
                  t = f.template;
                  at = own_place;
                  made = is_made f.template own_place own_stands f.var;
                  var = f.var;
                  key = key;
                  is = subst (λ c. IsKeyOf program c key) (class_same t f.template nested f.nested var f.var) is;
                  prop = prop;
                  among = among;
                  stands = IsInKeyValue.by_item f.item (record {
                    place = f.place;
                    found = f.at;
                    is = prop_id f.item.prop prop f.prop;
                    first = λ earlier other less at_earlier same. f.first earlier other less at_earlier (ap (λ (q : PropId). q.0) same);
                  }) has_variable;
                }

            met_here : is_content_lacking program sources rel k i.content ≡ false
            met_here = item_met program sources rel k met i there

            alone : (e : Typed) → f.item.value ≡ items.Expr e → (o : Option ℕ) → variable_alone e ≡ o → is_lacking program sources rel k e ≡ false → is_some (given_by program sources (at_round n) e o) ≡ true
            alone e value_is None alone_none lacks =
                there_some (given_out (value program sources e scope))
                (ap (λ o. not (is_target_one program rel o) && is_none (given_by program sources k e o)) (sym alone_none) ∙ lacks)
            alone e value_is (Some w) at_variable_w lacks =
                let w_below = in_range (is_target_variable program rel w) refl (ap (λ o. not (is_target_one program rel o) && is_none (given_by program sources k e o)) (sym at_variable_w) ∙ lacks) in
                all w w_below (depends w (HasVariable.expression e value_is (record { own = w_below; names = (e.ty, subst (IsWithin e) (alone_is e w at_variable_w) (IsWithin.whole e)) })))
              where
                long : length k.values ≡ length rel.vars
                long = length_round program sources rel its scope before (length_map (value_or_datum b scope) (variables rel) ∙ length_variables rel) (length rel.vars)

                in_range : (x : Bool) → is_target_variable program rel w ≡ x → (not x && is_none (value_of k.values w)) ≡ false → w < length rel.vars
                in_range true target lacking = target_below metas program sources models m over place rel found w target
                in_range false outside lacking = let (x, at_w) = some_given (value_of k.values w) lacking in subst (λ c. w < c) long (within_terms k.values w x at_w)

            by : IsContentOf f.item.value i.content → is_some (content_value program sources (at_round n) i.content) ≡ true
            by (IsContentOf.empty value_is content_is) = absurd (true≢false (ap (is_content_lacking program sources rel k) (sym content_is) ∙ met_here))
            by (IsContentOf.expression e value_is content_is) =
                ap (λ c. is_some (content_value program sources (at_round n) c)) content_is
                ∙ alone e value_is (variable_alone e) refl (ap (is_content_lacking program sources rel k) (sym content_is) ∙ met_here)
            by (IsContentOf.template part value_is content_is) =
                let w_below = below metas program sources models m over place rel found dom of part (nested_in part (joined root f.template part f.nested f.item (contains_at (out-Tmpl f.template).items f.place f.item f.at) value_is)) in
                ap (λ c. is_some (content_value program sources (at_round n) c)) content_is
                ∙ all (out-Tmpl part).var w_below (depends (out-Tmpl part).var (HasVariable.nested part value_is refl))

        -- or else the object of the template around has one
        opposite_given : (i : TargetItem) → first_item its v prop.0 ≡ None → Contains its i → is_option_of (variable_of i.content) v ≡ true → is_some (parent_value program sources (at_round n) prop.0 (Some i)) ≡ true
        opposite_given i nothing there around = by (item_stands root i (subst (λ xs. Contains xs i) its_are there))
          where
            by_part : (st : StandsIn root i) (part : Tmpl) → st.item.value ≡ items.Nested part → (out-Tmpl part).var ≡ v → is_some (parent_value program sources (at_round n) prop.0 (Some i)) ≡ true
            by_part st part value_is part_var =
                stable (is_some (parent_value program sources (at_round n) prop.0 (Some i))) (λ lacks. over.enforceable place 5 (record {
                  rel = rel;
                  found = found;
                  in_direction = direction;
                  breaks = Breaks.e5 refl (record { t = part; at = here; made = is_made part here part_stands part_var; unkeyed = unkeyed lacks });
                }))
              where
                here : Option Place
                here = Some (record { parent = (out-Tmpl st.template).var; prop = st.item.prop })

                part_stands : Stands root None part here
                part_stands = stands_at root st.template part None st.item.prop st.nested (subst (λ x. HasItem st.template (record { prop = st.item.prop; value = x })) value_is st.has)

                part_nested : IsNested root part
                part_nested = stands_nested root part None here part_stands

                its_key : IsKeyOf program (out-Tmpl part).class key
                its_key = subst (λ c. IsKeyOf program c key) (class_same t part nested part_nested var part_var) is

                unkeyed : is_some (parent_value program sources (at_round n) prop.0 (Some i)) ≡ false → ¬ IsKeyed metas program part here
                unkeyed lacks keyed_part = by_given (keyed_part.given prop (subst (λ (x : Key). Contains x.props prop) (one_key metas program sources models m over (out-Tmpl part).class key keyed_part.key its_key keyed_part.is) among))
                  where
                    by_given : IsGiven (target_desc metas program) part here prop → ⊥
                    by_given (IsGiven.by_item item has_item same) = no_item prop nothing part part_nested part_var item has_item same
                    by_given (IsGiven.by_parent o) =
                        let place_is : record { parent = (out-Tmpl st.template).var; prop = st.item.prop } ≡ o.place = same_Some (record { parent = (out-Tmpl st.template).var; prop = st.item.prop }) o.place o.is in
                        let opposite : opposite_of (target_metamodel program sources) i.prop.0 ≡ Some prop.0 =
                        ap (λ (desc : MetaDesc). opposite_of desc i.prop.0) (sym (meta_is metas program sources models m over)) ∙ ap (λ (q : PropId). opposite_of (target_desc metas program) q.0) (sym st.prop ∙ ap (λ (x : Place). x.prop) place_is) ∙ o.opposite in
                        let edge : Edge v i.owner = record {
                          t = part;
                          at = here;
                          made = is_made part here part_stands part_var;
                          var = part_var;
                          key = key;
                          is = its_key;
                          prop = prop;
                          among = among;
                          stands = IsInKeyValue.by_parent (λ item has_item. no_item prop nothing part part_nested part_var item has_item) o (sym (ap (λ (x : Place). x.parent) place_is) ∙ st.var);
                        } in
                        let owner_below : i.owner < length rel.vars = subst (λ w. w < length rel.vars) st.var (below metas program sources models m over place rel found dom of st.template (nested_in st.template st.nested)) in
                        true≢false (sym (ap (λ (x : Option ℕ). is_some (if is_option_of x prop.0 then value_of (round n) i.owner else None)) opposite
                        ∙ ap (λ (x : Bool). is_some (if x then value_of (round n) i.owner else None)) (eq-eqb prop.0 prop.0 refl) ∙ all i.owner owner_below edge) ∙ lacks)

            no_variable : (c : Content) → i.content ≡ c → variable_of c ≡ None → ⊥
            no_variable c content_is_c nothing_there =
                true≢false (sym around ∙ ap (λ x. is_option_of (variable_of x) v) content_is_c ∙ ap (λ o. is_option_of o v) nothing_there)

            by_content : (st : StandsIn root i) → IsContentOf st.item.value i.content → is_some (parent_value program sources (at_round n) prop.0 (Some i)) ≡ true
            by_content st (IsContentOf.empty value_is content_is_c) = absurd (no_variable Content.empty content_is_c refl)
            by_content st (IsContentOf.expression e value_is content_is_c) = absurd (no_variable (Content.expression e) content_is_c refl)
            by_content st (IsContentOf.template part value_is content_is_c) =
                by_part st part value_is (eqb-true (out-Tmpl part).var v (sym (ap (λ x. is_option_of (variable_of x) v) content_is_c) ∙ around))

            by : StandsIn root i → is_some (parent_value program sources (at_round n) prop.0 (Some i)) ≡ true
            by st = by_content st st.content

        -- the template stands in one, where no item gives the property
        around_there : first_item its v prop.0 ≡ None → item_around its v ≡ None → ⊥
        around_there nothing no_around = by (given prop among)
          where
            by_around : Around root t at → ⊥
            by_around a =
                let i = entry_of (out-Tmpl a.outer).var (record { prop = a.prop; value = items.Nested t }) in
                let there : Contains its i = subst (λ xs. Contains xs i) (sym its_are) (entry_listed root a.outer a.nested (record { prop = a.prop; value = items.Nested t }) a.has) in
                true≢false (sym (ap (λ c. is_option_of (variable_of c) v) (entry_nested (out-Tmpl a.outer).var a.prop t) ∙ eq-eqb (out-Tmpl t).var v var)
                ∙ find_none (λ (item : TargetItem). is_option_of (variable_of item.content) v) its i no_around there)

            by_place : IsOpposite (target_desc metas program) at prop → ((root ≡ t) × (None ≡ at)) ⊎ Around root t at → ⊥
            by_place o (inl (same, here)) = nothing_some o.place (here ∙ o.is)
            by_place o (inr a) = by_around a

            by : IsGiven (target_desc metas program) t at prop → ⊥
            by (IsGiven.by_item item has_item same) = no_item prop nothing t nested var item has_item same
            by (IsGiven.by_parent o) = by_place o (stands_around root t None at stands)

        key_there : is_some (key_value program sources its (at_round n) v prop) ≡ true
        key_there = by (first_item its v prop.0) refl
          where
            by_parent : first_item its v prop.0 ≡ None → (o : Option TargetItem) → item_around its v ≡ o → is_some (parent_value program sources (at_round n) prop.0 o) ≡ true
            by_parent nothing None no_around = absurd (around_there nothing no_around)
            by_parent nothing (Some i) around =
                let (there, passes) = find_some (λ (item : TargetItem). is_option_of (variable_of item.content) v) its i around in opposite_given i nothing there passes

            by : (o : Option TargetItem) → first_item its v prop.0 ≡ o → is_some (key_value_by program sources (at_round n) prop.0 o (item_around its v)) ≡ true
            by None nothing = by_parent nothing (item_around its v) refl
            by (Some i) first = by_first i first

      -- the term is made
      term_there : (t : Tmpl) (at : Option Place) (stands : Stands root None t at) → (out-Tmpl t).var ≡ v → IsKeyed metas program t at
          → is_some (made_term program sources rel its (at_round n) v) ≡ true
      term_there t at stands var keyed_t =
          let class_is : class_of_variable rel v ≡ Some (out-Tmpl t).class.0 = ap (class_of_variable rel) (sym var) ∙ declared_class metas program sources models m over place rel found dom of t (nested_in t (stands_nested root t None at stands)) in
          ap (λ o. is_some (option_and_then (term_by program sources its (at_round n) v) o)) class_is
          ∙ ap (λ o. is_some (option_and_then (λ props. option_map (keyed (out-Tmpl t).class.0) (all_given (map (key_value program sources its (at_round n) v) props))) o)) (key_is metas program sources models m over (out-Tmpl t).class keyed_t.key keyed_t.is)
          ∙ mapped_some (keyed (out-Tmpl t).class.0) (all_given (map (key_value program sources its (at_round n) v) keyed_t.key.props))
          ∙ all_some (key_value program sources its (at_round n) v) keyed_t.key.props (λ prop among. key_there t at stands var keyed_t.key keyed_t.is keyed_t.given prop among)

      template_there : (t : Tmpl) (at : Option Place) → Stands root None t at → (out-Tmpl t).var ≡ v → is_some (made_term program sources rel its (at_round n) v) ≡ true
      template_there t at stands var =
          stable (is_some (made_term program sources rel its (at_round n) v)) (λ lacks. over.enforceable place 5 (record {
            rel = rel;
            found = found;
            in_direction = direction;
            breaks = Breaks.e5 refl (record { t = t; at = at; made = is_made t at stands var; unkeyed = λ keyed_t. true≢false (sym (term_there t at stands var keyed_t) ∙ lacks) });
          }))

    made_there : is_some (made_term program sources rel its (at_round n) v) ≡ true
    made_there = let (var, there) = found_within rel.vars v within in by var there (class_or_data var.ty)
      where
        concrete_there : HasConcreteTemplate metas program rel v → is_some (made_term program sources rel its (at_round n) v) ≡ true
        concrete_there c = template_there c.is.dom c.is.of c.is.root c.is.has c.t c.at c.is.stands c.var

        by : (var : Var) → slice_get rel.vars v ≡ Some var → ((meta : ℕ) × (class : ClassId) × (var.ty ≡ types.Class meta class)) ⊎ ((meta : ℕ) (class : ClassId) → var.ty ≢ types.Class meta class)
            → is_some (made_term program sources rel its (at_round n) v) ≡ true
        by var there (inl (meta, class, typed)) =
            stable (is_some (made_term program sources rel its (at_round n) v)) (λ lacks. over.enforceable place 4 (record {
              rel = rel;
              found = found;
              in_direction = direction;
              breaks = Breaks.e4 refl (record {
                v = v;
                object = record { var = var; found = there; meta = meta; class = class; typed = typed };
                existential = existential;
                own = not_handed;
                unmade = λ concrete. true≢false (sym (concrete_there concrete) ∙ lacks);
              });
            }))
        by var there (inr data_type) = absurd (no_data (record { var = var; found = there; data_type = data_type }))

  -- ---- rounds

  step : (n v : ℕ) → v < length rel.vars → ((w : ℕ) → w < length rel.vars → Edge v w → Good n w) → Good (suc n) v
  step n v within all =
      ap (λ (o : Option TermValue). is_some o) (at_variable rel (λ w. option_or (value_of before w) (made_term program sources rel its (at_round n) w)) v within) ∙ by (value_of before v) refl
    where
      by : (o : Option TermValue) → value_of before v ≡ o → is_some (option_or o (made_term program sources rel its (at_round n) v)) ≡ true
      by None none = made_there n v within all none
      by (Some x) at = refl

  acyclic : (v : ℕ) → v < length rel.vars → IsPath Edge v v → ⊥
  acyclic v within path = over.enforceable place 8 (record {
    rel = rel;
    found = found;
    in_direction = direction;
    breaks = Breaks.e8 refl (record { v = v; cycle = depends_through metas program rel v v path });
  })

  -- each variable has a value
  pub all_known : (v : ℕ) → v < length rel.vars → (x : TermValue) × (value_of k.values v ≡ Some x)
  all_known v within = from_some (value_of k.values v) (enough (length rel.vars) Edge Good acyclic step v within)

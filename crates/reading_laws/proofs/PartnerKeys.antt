-- The key values of a template whose object an entry makes stand in the slots of its partner's object, as they are read.
use Rattle.std.specs.Prelude.{◌≡◌, ℕ, Bool, true, false, ◌||◌, ◌==◌, not, List, [], Option, None, Some, Contains, if◌then◌else◌}
use Rattle.std.specs.Option.{option_map_or, option_and_then}
use Rattle.std.proofs.Common.{refl, sym, ap, subst, ◌∙◌, arith}
use Rattle.std.proofs.lemmas.Bool.{and_parts, true≢false, eqb-true}
use Rattle.mof_metamodel.specs.declared.desc.MetaDesc.{MetaDesc}
use Rattle.mof_metamodel.specs.declared.desc.PropId.{PropId}
use Rattle.mof_metamodel.specs.Metamodels.{opposite_of}
use Rattle.object_tables.specs.Models.{ModelData}
use Rattle.qv_syntax.specs.declared.program.Program.{Program}
use Rattle.qv_syntax.specs.declared.program.Rel.{Rel}
use Rattle.qv_syntax.specs.declared.program.Dom.{Dom}
use Rattle.qv_syntax.specs.declared.program.Tmpl.{Tmpl}
use Rattle.qv_syntax.specs.declared.program.Conj.{Conj}
use Rattle.qv_syntax.specs.declared.program.Conj.TheVariants as conjuncts
use Rattle.qv_syntax.specs.declared.typed.Typed.{Typed}
use Rattle.qv_syntax.specs.declared.typed.TypedInfix.{TypedInfix}
use Rattle.qv_syntax.specs.declared.typed.TypedPostfix.{TypedPostfix}
use Rattle.qv_syntax.specs.declared.typed.Node.{Node, roll-Node, out-Node, out-roll-Node, roll-out-Node}
use Rattle.qv_syntax.specs.declared.typed.Node.TheVariants as variants
use Rattle.qv_syntax.specs.declared.typed.Call.{Call}
use Rattle.qv_syntax.specs.declared.typed.Call.TheOpen as nodes
use Rattle.qv_syntax.specs.Parts.{Names}
use Rattle.qv_syntax.specs.Relations.{IsTargetDomain, InConjunct}
use Rattle.qvtr_semantics.specs.declared.datum.Datum.{Datum}
use Rattle.qvtr_semantics.specs.declared.out.Out.{Out}
use Rattle.qvtr_semantics.specs.declared.out.Out.TheVariants as outs
use Rattle.qvtr_semantics.specs.Outs.{datum_of}
use Rattle.qvtr_semantics.specs.Objects.{object_datum, held_at}
use Rattle.qvtr_semantics.specs.Expressions.{Scope, value, variable, bound_value, setting, value_for}
use Rattle.qvtr_semantics.specs.Templates.{Values, value_at, has, meets}
use Rattle.qvtr_semantics.specs.Bindings.{is_target_domain, template_meets, target_meets}
use Rattle.template_match.specs.Sources.{is_target_variable}
use Rattle.template_match.proofs.ListLaws.{list_all_at, find_some}
use Rattle.source_laws.specs.SourceValues.{IsOfSources, HasNoTarget}
use Rattle.source_laws.specs.TargetRule.{HasConjunct, MayBeTarget, IsExpressionOf}
use Rattle.source_laws.proofs.CallLaws.{alone_value}
use Rattle.source_laws.proofs.QueryLaws.{variable_is}
use Rattle.source_laws.proofs.RuleLaws.{target_is}
use Rattle.entry_sources.proofs.ItemPlaces.{item_expression}
use Rattle.repair_semantics.specs.declared.term.Term.{Term}
use Rattle.repair_semantics.specs.declared.term.TermValue.{TermValue}
use Rattle.repair_semantics.specs.declared.term.TermValue.TheVariants as values
use Rattle.repair_semantics.specs.Terms.{datum_part, term_part, datum_in, term_in}
use Rattle.repair_semantics.specs.EntryValues.{TermValues, value_of, variable_at, variable_alone, given_out, given_by}
use Rattle.repair_semantics.specs.TargetItems.{Content, TargetItem, parts, target_domain, target_items, target_metamodel, variable_of}
use Rattle.repair_semantics.specs.Making.{entry_scope, content_value, is_item_at, first_item, is_option_of, item_around, parent_value, key_value_by, key_value}
use Rattle.reading_laws.specs.Readings.{Numbering, read_part, read_value}
use Rattle.reading_laws.specs.Matching.{slot_holds, content_holds, item_holds}
use Rattle.reading_laws.proofs.ItemLaws.{throughout_matched}
use Rattle.reading_laws.proofs.MeetingValues.{nothing_some, out_datum}
use Rattle.std.proofs.lemmas.Option.{same_Some}
use Rattle.reading_laws.proofs.PartnerValues.{IsPartnered, Fits, rule, domains, root_template}
use Rattle.reading_laws.proofs.PartnerEquations.{scope_is_read, expression_alike}
use Rattle.reading_laws.proofs.PartnerSlots.{IsHeldAt, slot_has, read_held, holder_is, opposite_stands}
use Rattle.mof_metamodel.proofs.Facts.{nothing_in}

-- ---- variables alone

alone_layer : (d : nodes.Node-F Call Node Typed TypedInfix TypedPostfix) (v : ℕ) → variable_at d ≡ Some v → d ≡ nodes.Variable v
alone_layer (nodes.Variable n) v h = ap (λ k. let d : nodes.Node-F Call Node Typed TypedInfix TypedPostfix = nodes.Variable k in d) (same_Some n v h)
alone_layer d v h = absurd (nothing_some v h)

pub alone_is : (e : Typed) (v : ℕ) → variable_alone e ≡ Some v → e ≡ record { ty = e.ty; node = variants.Variable v }
alone_is e v h =
    ap (λ (n : Node). let x : Typed = record { ty = e.ty; node = n } in x) (sym (roll-out-Node e.node) ∙ ap roll-Node (alone_layer (out-Node e.node) v h) ∙ variants.rolls-Variable v)

pub is_alone : (v : ℕ) → variable_at (out-Node (variants.Variable v)) ≡ Some v
is_alone v = ap (λ n. variable_at (out-Node n)) (sym (variants.rolls-Variable v)) ∙ ap variable_at (out-roll-Node (nodes.Variable v))

option_is : (o : Option ℕ) (n : ℕ) → is_option_of o n ≡ true → o ≡ Some n
option_is None n h = absurd (true≢false (sym h))
option_is (Some k) n h = ap (λ j. Some j) (eqb-true k n h)

template_is : (c : Content) (v : ℕ) → variable_of c ≡ Some v → c ≡ Content.template v
template_is Content.empty v h = absurd (nothing_some v h)
template_is (Content.expression e) v h = absurd (nothing_some v h)
template_is (Content.template w) v h = ap (λ k. Content.template k) (same_Some w v h)

pub datum_given : (out : Out) (x : TermValue) → given_out out ≡ Some x → (d : Datum) × (out ≡ outs.One d) × (x ≡ values.Val d)
datum_given (outs.One d) x h = (d, refl, sym (same_Some (values.Val d) x h))
datum_given (outs.Many kind ds) x h = absurd (nothing_some x h)
datum_given outs.Null x h = absurd (nothing_some x h)
datum_given outs.Invalid x h = absurd (nothing_some x h)

module _ (metas : List MetaDesc) (program : Program) (sources models : List ModelData) (m : ModelData) (terms : List Term) (number : Numbering) (rel : Rel) (roots b : TermValues) (c g : Values)
    (p : IsPartnered metas program sources models m terms number rel roots b c g)
    (fix : (v : ℕ) (e : Typed) → Contains rel.wheres (conjuncts.Equation v e)
    → variable (entry_scope program sources rel b) v ≡ value program sources e (entry_scope program sources rel b)) where
  abbrev scope : Scope
  scope = entry_scope program sources rel b

  abbrev FitsAt : ℕ → TermValue → Type 0
  FitsAt v x = Fits metas program sources models m terms number rel roots b c g p v x

  abbrev pub AllFit : TermValues → Type 0
  AllFit vs = (v : ℕ) (x : TermValue) → value_of vs v ≡ Some x → FitsAt v x

  -- ---- the items of the target template hold

  pub item_held : (i : TargetItem) → Contains (target_items program rel) i → item_holds program models g i ≡ true
  item_held i among = by (target_domain program rel) refl among
    where
      met : (dom : Dom) (t : Tmpl) (x : Bool) → is_target_domain program dom ≡ x → x ≡ true → dom.template ≡ Some t → (not x || template_meets program models dom.template g) ≡ true
          → meets program models t g ≡ true
      met dom t true test is has_template h = sym (ap (λ o. template_meets program models o g) has_template) ∙ h
      met dom t false test is has_template h = absurd (true≢false (sym is))

      by : (o : Option Dom) → target_domain program rel ≡ o → Contains (option_map_or (λ t. (parts t).items) (option_and_then (λ (dom : Dom). dom.template) o) []) i
          → item_holds program models g i ≡ true
      by None found there = absurd (nothing_in i there)
      by (Some dom) found there =
          let (within, test) = find_some (is_target_domain program) rel.domains dom found in
          let of : IsTargetDomain program rel dom = record { is = within; target = target_is program.target dom.model test } in
          let (t, has_template, root) = root_template metas program sources models m terms number rel roots b c g p dom of in
          let h = list_all_at (target_meets program models g) rel.domains dom (domains metas program sources models m terms number rel roots b c g p) within in
          (throughout_matched program models g t (met dom t (is_target_domain program dom) refl test has_template h)).items i
          (subst (λ o. Contains (option_map_or (λ u. (parts u).items) o []) i) has_template there)

  -- ---- contents

  -- the value is read as a datum that the slot has
  record IsReadIn (x : TermValue) (slot : Option (List Datum)) : Type 0 where
    datum : Datum
    read : read_value program number x ≡ Some datum
    there : has slot (Some datum) ≡ true
    among : (t : Term) → term_in x ≡ Some t → Contains terms t
    of_sources : (d : Datum) → datum_in x ≡ Some d → IsOfSources program.target d

  in_conjunct : (k : Conj) (e : Typed) → HasConjunct rel k → InConjunct k e → variable_alone e ≡ None → (w : ℕ) → Names e w → is_target_variable program rel w ≡ true → ⊥
  in_conjunct (conjuncts.Cond y) e there within plain w names target =
      true≢false (sym target ∙ (rule metas program sources models m terms number rel roots b c g p).named (conjuncts.Cond y) e there within w names)
  in_conjunct (conjuncts.Equation v y) e there within plain w names target =
      true≢false (sym target ∙ (rule metas program sources models m terms number rel roots b c g p).named (conjuncts.Equation v y) e there within w names)
  in_conjunct (conjuncts.Call n args) e there within plain w names target =
      let alone = (rule metas program sources models m terms number rel roots b c g p).alone e w (MayBeTarget.argument n args there within) names target in
      nothing_some alone.1 (sym plain ∙ ap variable_alone alone.2 ∙ is_alone alone.1)

  -- an expression that is no variable alone names none for objects of the target
  not_alone : (e : Typed) → IsExpressionOf rel e → variable_alone e ≡ None → (w : ℕ) → Names e w → is_target_variable program rel w ≡ true → ⊥
  not_alone e (IsExpressionOf.item dom within is) plain w names target =
      let alone = (rule metas program sources models m terms number rel roots b c g p).alone e w (MayBeTarget.item dom within is) names target in
      nothing_some alone.1 (sym plain ∙ ap variable_alone alone.2 ∙ is_alone alone.1)
  not_alone e (IsExpressionOf.conjunct k there within) plain w names target = in_conjunct k e there within plain w names target

  names_sources : (e : Typed) → IsExpressionOf rel e → variable_alone e ≡ None → (w : ℕ) → Names e w → is_target_variable program rel w ≡ false
  names_sources e is plain w names = by (is_target_variable program rel w) refl
    where
      by : (x : Bool) → is_target_variable program rel w ≡ x → x ≡ false
      by true target = absurd (not_alone e is plain w names target)
      by false none = refl

  expression_in : (vs : TermValues) → AllFit vs → (e : Typed) (x : TermValue) (slot : Option (List Datum)) (o : Option ℕ) → IsExpressionOf rel e → variable_alone e ≡ o
      → given_by program sources (record { values = vs; scope = scope }) e o ≡ Some x → has slot (datum_of (value_for program models e g)) ≡ true → IsReadIn x slot
  expression_in vs fit e x slot (Some w) is alone gives h =
      let fits = fit w x gives in
      let one : value_for program models e g ≡ outs.One fits.datum =
      ap (λ y. value_for program models y g) (alone_is e w alone) ∙ alone_value program models e.ty w g ∙ variable_is g w ∙ ap bound_value fits.at in
      record { datum = fits.datum; read = fits.read; there = sym (ap (λ y. has slot (datum_of y)) one) ∙ h; among = fits.among; of_sources = fits.of_sources }
  expression_in vs fit e x slot None is plain gives h =
      let (d, out, val) = datum_given (value program sources e scope) x gives in
      let alike = expression_alike metas program sources models m terms number rel roots b c g p fix e is (names_sources e is plain)
      (λ w names below. scope_is_read metas program sources models m terms number rel roots b c g p fix w (names_sources e is plain w names)) in
      record {
        datum = d;
        read = ap (read_value program number) val ∙ ap (read_part program number) (out_datum d);
        there = sym (ap (λ y. has slot (datum_of y)) (sym alike.0 ∙ out)) ∙ h;
        among = λ t term. absurd (nothing_some t (sym (ap term_part (out_datum d)) ∙ sym (ap term_in val) ∙ term));
        of_sources = λ k datum.
            let same : d ≡ k = same_Some d k (sym (ap datum_part (out_datum d)) ∙ sym (ap datum_in val) ∙ datum) in
            subst (IsOfSources program.target) same (subst (HasNoTarget program.target) out alike.1);
      }

  content_in : (vs : TermValues) → AllFit vs → (content : Content) (x : TermValue) (slot : Option (List Datum)) → ((e : Typed) → content ≡ Content.expression e → IsExpressionOf rel e)
      → content_value program sources (record { values = vs; scope = scope }) content ≡ Some x → slot_holds program models g slot content ≡ true → IsReadIn x slot
  content_in vs fit Content.empty x slot of_rel gives h = absurd (nothing_some x gives)
  content_in vs fit (Content.expression e) x slot of_rel gives h = expression_in vs fit e x slot (variable_alone e) (of_rel e refl) refl gives h
  content_in vs fit (Content.template w) x slot of_rel gives h =
      let fits = fit w x gives in
      record { datum = fits.datum; read = fits.read; there = sym (ap (has slot) fits.at) ∙ h; among = fits.among; of_sources = fits.of_sources }

  -- ---- key values

  -- the object of this number holds the value at the property
  pub record IsKeyHeld (n q : ℕ) (x : TermValue) : Type 0 where
    pub held : IsHeldAt program models m p.over.target number n q x
    pub among : (t : Term) → term_in x ≡ Some t → Contains terms t

  pub key_held : (vs : TermValues) → AllFit vs → (v n : ℕ) (q : PropId) (x : TermValue) → value_at g v ≡ Some (object_datum program.target n)
      → key_value program sources (target_items program rel) (record { values = vs; scope = scope }) v q ≡ Some x → IsKeyHeld n q.0 x
  key_held vs fit v n q x at gives = of_first (first_item (target_items program rel) v q.0) refl gives
    where
      -- the object of the template around
      of_parent : (item : TargetItem) → item_around (target_items program rel) v ≡ Some item → (y : Bool) → is_option_of (opposite_of (target_metamodel program sources) item.prop.0) q.0 ≡ y
          → (if y then value_of vs item.owner else None) ≡ Some x → IsKeyHeld n q.0 x
      of_parent item around false is h = absurd (nothing_some x h)
      of_parent item around true is h =
          let (among, test) = find_some (λ (i : TargetItem). is_option_of (variable_of i.content) v) (target_items program rel) item around in
          let fits = fit item.owner x h in
          let content : item.content ≡ Content.template v = template_is item.content v (option_is (variable_of item.content) v test) in
          let holds : has (held_at (setting program models) fits.datum item.prop.0) (Some (object_datum program.target n)) ≡ true =
          sym (ap (content_holds program models g item.prop item.content) fits.at
          ∙ ap (slot_holds program models g (held_at (setting program models) fits.datum item.prop.0)) content
          ∙ ap (has (held_at (setting program models) fits.datum item.prop.0)) at) ∙ item_held item among in
          let (a, object, stands) = holder_is program models m p.over.target fits.datum item.prop.0 n holds in
          let opposite : opposite_of m.meta item.prop.0 ≡ Some q.0 =
          ap (λ (d : MetaDesc). opposite_of d item.prop.0) (sym p.over.metamodel) ∙ option_is (opposite_of (target_metamodel program sources) item.prop.0) q.0 is in
          record {
            held = opposite_stands program models m p.over.target p.over.valid.kept number a item.prop.0 n q.0 x opposite stands (fits.read ∙ ap (λ d. Some d) object) fits.of_sources;
            among = fits.among;
          }

      of_around : (o : Option TargetItem) → item_around (target_items program rel) v ≡ o → parent_value program sources (record { values = vs; scope = scope }) q.0 o ≡ Some x → IsKeyHeld n q.0 x
      of_around None around h = absurd (nothing_some x h)
      of_around (Some item) around h = of_parent item around (is_option_of (opposite_of (target_metamodel program sources) item.prop.0) q.0) refl h

      of_first : (o : Option TargetItem) → first_item (target_items program rel) v q.0 ≡ o
          → key_value_by program sources (record { values = vs; scope = scope }) q.0 o (item_around (target_items program rel) v) ≡ Some x → IsKeyHeld n q.0 x
      of_first None first h = of_around (item_around (target_items program rel) v) refl h
      of_first (Some item) first h =
          let (among, test) = find_some (is_item_at v q.0) (target_items program rel) item first in
          let both = and_parts (item.owner == v) (item.prop.0 == q.0) test in
          let owner : item.owner ≡ v = eqb-true item.owner v both.0 in
          let prop : item.prop.0 ≡ q.0 = eqb-true item.prop.0 q.0 both.1 in
          let slot = held_at (setting program models) (object_datum program.target n) q.0 in
          let holds : slot_holds program models g slot item.content ≡ true =
          sym (ap (λ w. content_holds program models g item.prop item.content (value_at g w)) owner
          ∙ ap (content_holds program models g item.prop item.content) at
          ∙ ap (λ j. slot_holds program models g (held_at (setting program models) (object_datum program.target n) j) item.content) prop) ∙ item_held item among in
          let read = content_in vs fit item.content x slot (λ e is. item_expression program rel item e among is) h holds in
          record {
            held = read_held program models m p.over.target number n q.0 x read.datum read.read read.of_sources (slot_has program models m p.over.target n q.0 read.datum read.there);
            among = read.among;
          }

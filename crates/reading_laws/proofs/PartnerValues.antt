-- What a partner of an entry's binding has at the variables: the binding's values as they are read, and values that existential variables may have.
use Rattle.std.specs.Prelude.{◌≡◌, ◌≢◌, ◌<◌, ◌⊎◌, ℕ, Bool, true, false, ◌&&◌, ◌==◌, not, List, map, length, Option, None, Some, slice_get, Contains}
use Rattle.std.specs.List.{list_all}
use Rattle.std.specs.Option.{option_map, option_and_then}
use Rattle.std.proofs.Common.{refl, sym, ap, subst, ◌∙◌, inl, inr}
use Rattle.std.proofs.lemmas.Bool.{and_parts, true≢false, eqb-true, eq-eqb}
use Rattle.std.proofs.lemmas.List.FromFn.{length-map-range_with_len}
use Rattle.mof_metamodel.specs.declared.desc.MetaDesc.{MetaDesc}
use Rattle.mof_metamodel.specs.declared.desc.ClassId.{ClassId}
use Rattle.object_tables.specs.Models.{ModelData}
use Rattle.object_tables.proofs.SlotLemmas.{Contains-to_filter}
use Rattle.qv_syntax.specs.declared.ty.Ty.{Ty, roll-Ty, out-Ty, roll-out-Ty}
use Rattle.qv_syntax.specs.declared.ty.Ty.TheOpen as kinds
use Rattle.qv_syntax.specs.declared.ty.Ty.TheVariants as types
use Rattle.qv_syntax.specs.declared.program.Program.{Program}
use Rattle.qv_syntax.specs.declared.program.Rel.{Rel}
use Rattle.qv_syntax.specs.declared.program.Var.{Var}
use Rattle.qv_syntax.specs.declared.program.Dom.{Dom}
use Rattle.qv_syntax.specs.declared.program.Tmpl.{Tmpl, out-Tmpl}
use Rattle.qv_syntax.specs.Parts.{IsNested}
use Rattle.qv_syntax.specs.Relations.{IsModelDomain, IsTargetDomain, IsTemplateOf, IsUniversal}
use Rattle.qv_syntax.specs.Directions.{IsDeclared, IsMeant}
use Rattle.qvtr_semantics.specs.declared.datum.Datum.{Datum}
use Rattle.qvtr_semantics.specs.declared.datum.Datum.TheVariants.{Obj, Val}
use Rattle.qvtr_semantics.specs.Objects.{Setting, is_number_among, object_datum}
use Rattle.qvtr_semantics.specs.Expressions.{setting}
use Rattle.qvtr_semantics.specs.Templates.{Values, value_at, is_of_class}
use Rattle.qvtr_semantics.specs.Bindings.{is_model, meta_of_type, is_value_of_type, is_object_for, is_datum_for, have_values, source_meets, target_meets, conjunct_holds, Target}
use Rattle.template_match.specs.Sources.{is_of_target, is_target_variable, source_variables}
use Rattle.template_match.proofs.ListLaws.{any_at}
use Rattle.template_match.proofs.ValueLaws.{within_values}
use Rattle.template_match.proofs.SideLaws.{Valued, valued}
use Rattle.evaluation_laws.proofs.NavigationLaws.{among as among_number}
use Rattle.source_laws.specs.SourceValues.{IsOfSources}
use Rattle.source_laws.specs.SourceRelations.{IsApart}
use Rattle.source_laws.specs.TargetRule.{HandsTargetOn}
use Rattle.source_laws.proofs.BindingLaws.{found_within}
use Rattle.enforceable_sources.proofs.EnforceableLaws.{enforceable_hands_on}
use Rattle.repair_semantics.specs.declared.term.Term.{Term}
use Rattle.repair_semantics.specs.declared.term.TermValue.{TermValue}
use Rattle.repair_semantics.specs.declared.term.TermValue.TheVariants as values
use Rattle.repair_semantics.specs.declared.term.TermValue.TheOpen as of
use Rattle.repair_semantics.specs.Terms.{datum_in, term_in}
use Rattle.repair_semantics.specs.EntryValues.{TermValues, value_of, term_of, data_in}
use Rattle.repair_semantics.specs.TargetItems.{class_in, class_of_variable}
use Rattle.repair_semantics.specs.Making.{variables}
use Rattle.repair_semantics.specs.Entries.{TermSource}
use Rattle.reading_laws.specs.Readings.{Numbering, IsReading, AreOver, read_part, read_value, Reads}
use Rattle.reading_laws.proofs.MeetingTypes.{below_vars}
use Rattle.reading_laws.proofs.MeetingValues.{nothing_some, out_datum, out_term, from_datum, datum_from}
use Rattle.std.proofs.lemmas.Option.{same_Some}

-- ---- lists

pub places_of : (rel : Rel) (f : ℕ → Option TermValue) → length (map f (variables rel)) ≡ length rel.vars
places_of rel f = length-map-range_with_len f 0 (length rel.vars)

pub stable : (x : Bool) → ¬ (¬ (x ≡ true)) → x ≡ true
stable true h = refl
stable false h = absurd (h (λ is. true≢false (sym is)))

pub there_number : (n : ℕ) (ns : List ℕ) → Contains ns n → is_number_among n ns ≡ true
there_number n ns c = any_at (λ k. k == n) ns n (eq-eqb n n refl) c

-- ---- object variables

pub class_of_type : (ty : Ty) (class : ℕ) → class_in ty ≡ Some class → (meta : ℕ) × (c : ClassId) × (ty ≡ types.Class meta c) × (c.0 ≡ class)
class_of_type (types.Class meta c) class h = (meta, c, refl, same_Some c.0 class h)
class_of_type ty class h = absurd (nothing_some class h)

-- what an object variable may have is an object of its model and class
pub object_for : (s : Setting) (var : Var) (class : ℕ) (d : Datum) → class_in var.ty ≡ Some class → is_datum_for s var d ≡ true
    → (k : ℕ) × (n : ℕ) × (d ≡ object_datum k n) × (is_model var.model k ≡ true) × (is_of_class s class (object_datum k n) ≡ true)
object_for s var class (Val k v) typed h =
    let (meta, c, is, same) = class_of_type var.ty class typed in
    absurd (true≢false (sym (and_parts (k == meta_of_type var.ty) (is_value_of_type var.ty v) h).1 ∙ ap (λ ty. is_value_of_type ty v) is))
object_for s var class (Obj k o) typed h =
    let (meta, c, is, same) = class_of_type var.ty class typed in
    let both = and_parts (is_model var.model k) (is_of_class s c.0 (Obj k o)) (sym (ap (λ ty. is_object_for s var ty k (Obj k o)) is) ∙ h) in
    (k, o.0, refl, both.0, ap (λ j. is_of_class s j (Obj k o)) (sym same) ∙ both.1)

pub model_is : (model : Option ℕ) (k n : ℕ) → is_model model k ≡ true → is_model model n ≡ true → k ≡ n
model_is None k n h g = absurd (true≢false (sym h))
model_is (Some j) k n h g = sym (eqb-true j k h) ∙ eqb-true j n g

-- what a variable may have is no object of the target, if it isn't one for them
model_by : (s : Setting) (var : Var) (l : kinds.Ty-F Ty) (k : ℕ) (d : Datum) → is_object_for s var (roll-Ty l) k d ≡ true → is_model var.model k ≡ true
model_by s var kinds.Str k d h = absurd (true≢false (sym h ∙ ap (λ t. is_object_for s var t k d) types.rolls-Str))
model_by s var kinds.Int k d h = absurd (true≢false (sym h ∙ ap (λ t. is_object_for s var t k d) types.rolls-Int))
model_by s var kinds.Bool k d h = absurd (true≢false (sym h ∙ ap (λ t. is_object_for s var t k d) types.rolls-Bool))
model_by s var kinds.Null k d h = absurd (true≢false (sym h ∙ ap (λ t. is_object_for s var t k d) types.rolls-Null))
model_by s var (kinds.Enum m e) k d h = absurd (true≢false (sym h ∙ ap (λ t. is_object_for s var t k d) (types.rolls-Enum m e)))
model_by s var (kinds.Coll m e) k d h = absurd (true≢false (sym h ∙ ap (λ t. is_object_for s var t k d) (types.rolls-Coll m e)))
model_by s var (kinds.Class m class) k d h =
    (and_parts (is_model var.model k) (is_of_class s class.0 d) (sym (ap (λ t. is_object_for s var t k d) (types.rolls-Class m class)) ∙ h)).0

fits_sources : (program : Program) (models : List ModelData) (var : Var) (d : Datum) → is_model var.model program.target ≡ false → is_datum_for (setting program models) var d ≡ true
    → IsOfSources program.target d
fits_sources program models var (Val k v) outside h = tt
fits_sources program models var (Obj k o) outside h =
    λ is. true≢false (sym (model_by (setting program models) var (out-Ty var.ty) k (Obj k o) (ap (λ t. is_object_for (setting program models) var t k (Obj k o)) (roll-out-Ty var.ty) ∙ h))
    ∙ ap (is_model var.model) is ∙ outside)

-- ---- a partner

-- c is the binding of an entry as it is read, and g is a partner of it
pub record IsPartnered (metas : List MetaDesc) (program : Program) (sources models : List ModelData) (m : ModelData) (terms : List Term) (number : Numbering) (rel : Rel) (roots b : TermValues) (c g : Values) : Type 0 where
  pub over : AreOver metas program sources models m
  pub reading : IsReading program m terms number
  pub place : ℕ
  pub found : slice_get program.rels place ≡ Some rel
  pub direction : rel.in_direction ≡ true
  pub source : TermSource program sources rel roots b
  pub reads : Reads program number b c
  pub target : Target program models rel c g
  -- an object of the target is a term
  pub own : (v : ℕ) (d : Datum) → value_of b v ≡ Some (values.Val d) → IsOfSources program.target d
  -- the caller hands on the root of the target domain
  pub handed : rel.top ≡ false → (dom : Dom) → IsTargetDomain program rel dom → (x : TermValue) × (value_of b dom.root ≡ Some x)
  pub among : (v : ℕ) (t : Term) → term_of b v ≡ Some t → Contains terms t

module _ (metas : List MetaDesc) (program : Program) (sources models : List ModelData) (m : ModelData) (terms : List Term) (number : Numbering) (rel : Rel) (roots b : TermValues) (c g : Values)
    (p : IsPartnered metas program sources models m terms number rel roots b c g) where
  -- g gives the variable the value as it is read; a term is one of the reading's
  pub record Fits (v : ℕ) (x : TermValue) : Type 0 where
    pub datum : Datum
    pub at : value_at g v ≡ Some datum
    pub read : read_value program number x ≡ Some datum
    pub among : (t : Term) → term_in x ≡ Some t → Contains terms t
    pub of_sources : (d : Datum) → datum_in x ≡ Some d → IsOfSources program.target d

  pub meant : IsMeant program p.place rel
  meant = p.over.evaluable.well.relations p.place rel p.found

  pub rule : HandsTargetOn program rel
  rule = enforceable_hands_on metas program p.over.evaluable.well p.place rel p.over.enforceable p.found p.direction

  -- ---- what g meets

  outer : (have_values program models rel rel.existential g && list_all (target_meets program models g) rel.domains ≡ true) × (list_all (conjunct_holds program models g) rel.wheres ≡ true)
  outer = and_parts (have_values program models rel rel.existential g && list_all (target_meets program models g) rel.domains) (list_all (conjunct_holds program models g) rel.wheres) p.target.meets

  pub have : have_values program models rel rel.existential g ≡ true
  have = (and_parts (have_values program models rel rel.existential g) (list_all (target_meets program models g) rel.domains) outer.0).0

  pub domains : list_all (target_meets program models g) rel.domains ≡ true
  domains = (and_parts (have_values program models rel rel.existential g) (list_all (target_meets program models g) rel.domains) outer.0).1

  pub wheres : list_all (conjunct_holds program models g) rel.wheres ≡ true
  wheres = outer.1

  -- ---- variables

  -- a variable is universal, or has a value that an existential one may have
  pub kind_of : (v : ℕ) → v < length rel.vars → (Contains rel.universal v) ⊎ ((¬ IsUniversal program rel v) × Valued program models rel g v)
  kind_of v below = by (is_number_among v rel.universal) refl
    where
      var : (x : Var) × (slice_get rel.vars v ≡ Some x)
      var = found_within rel.vars v below

      by : (x : Bool) → is_number_among v rel.universal ≡ x → (Contains rel.universal v) ⊎ ((¬ IsUniversal program rel v) × Valued program models rel g v)
      by true is = inl (among_number v rel.universal is)
      by false is =
          let none : ¬ IsUniversal program rel v = λ u. true≢false (sym (there_number v rel.universal ((meant.variables.universal v var.0 var.1).1 u)) ∙ is) in
          inr (none, valued program models rel rel.existential g v have ((meant.variables.existential v var.0 var.1).1 none))

  -- what b gives fits
  pub given_fits : (v : ℕ) (x : TermValue) → value_of b v ≡ Some x → Fits v x
  given_fits v x at =
      let read = p.reads.given v x at in
      record {
        datum = read.0;
        at = p.target.extends v read.0 read.1;
        read = read.2;
        among = λ t is. p.among v t (ap (option_and_then term_in) at ∙ is);
        of_sources = λ d is. p.own v d (at ∙ ap (λ y. Some y) (from_datum x d is));
      }

  -- b gives a universal variable a value: a datum, or for objects of the target a term
  source_datum : (v : ℕ) → Contains rel.universal v → is_target_variable program rel v ≡ false → (d : Datum) × (value_of b v ≡ Some (values.Val d))
  source_datum v c outside =
      let had = and_parts (have_values program sources rel (source_variables program rel) (data_in b) && list_all (source_meets program sources (data_in b)) rel.domains)
      (list_all (conjunct_holds program sources (data_in b)) rel.whens) p.source.source.meets in
      let x = valued program sources rel (source_variables program rel) (data_in b) v
      (and_parts (have_values program sources rel (source_variables program rel) (data_in b)) (list_all (source_meets program sources (data_in b)) rel.domains) had.0).0
      (Contains-to_filter (λ w. not (is_target_variable program rel w)) rel.universal v (ap not outside) c) in
      (x.value, datum_from b v x.value x.at)

  pub universal_given : (v : ℕ) → Contains rel.universal v → (x : TermValue) × (value_of b v ≡ Some x)
  universal_given v c = by (is_target_variable program rel v) refl
    where
      by : (x : Bool) → is_target_variable program rel v ≡ x → (y : TermValue) × (value_of b v ≡ Some y)
      by true is = let (t, at) = p.source.terms v (record { universal = c; target = is }) in (values.Term t, at)
      by false is = let (d, at) = source_datum v c is in (values.Val d, at)

  -- the data of a universal variable, which are g's too
  pub universal_datum : (v : ℕ) → Contains rel.universal v → is_target_variable program rel v ≡ false
      → (d : Datum) × (value_of b v ≡ Some (values.Val d)) × (value_at g v ≡ Some d)
  universal_datum v c outside =
      let (d, at) = source_datum v c outside in
      let fits = given_fits v (values.Val d) at in
      let same : fits.datum ≡ d = same_Some fits.datum d (sym fits.read ∙ ap (read_part program number) (out_datum d)) in
      (d, at, fits.at ∙ ap (λ e. Some e) same)

  pub places : length g ≡ length rel.vars
  places = p.target.places

  -- only variables for objects of the target have such objects
  pub partner_apart : IsApart program rel g
  partner_apart v d outside at = by (kind_of v (subst (λ n. v < n) places (within_values g v d at)))
    where
      by : (Contains rel.universal v) ⊎ ((¬ IsUniversal program rel v) × Valued program models rel g v) → IsOfSources program.target d
      by (inl c) =
          let (e, given, there) = universal_datum v c outside in
          subst (IsOfSources program.target) (same_Some e d (sym there ∙ at)) (p.own v e given)
      by (inr (none, x)) =
          subst (IsOfSources program.target) (same_Some x.value d (sym x.at ∙ at))
          (fits_sources program models x.var x.value (sym (ap (is_of_target program) x.found) ∙ outside) x.fits)

  -- a variable for objects of the target has one
  pub target_object : (v : ℕ) (class : ℕ) (var : Var) → slice_get rel.vars v ≡ Some var → class_in var.ty ≡ Some class → is_target_variable program rel v ≡ true
      → (n : ℕ) × (value_at g v ≡ Some (object_datum program.target n))
  target_object v class var found typed target = by (kind_of v (below_vars rel v var found))
    where
      read_object : (t : Term) (o : Option ℕ) (e : Datum) → number t ≡ o → option_map (λ n. object_datum program.target n) o ≡ Some e → (n : ℕ) × (e ≡ object_datum program.target n)
      read_object t None e is h = absurd (nothing_some e h)
      read_object t (Some n) e is h = (n, sym (same_Some (object_datum program.target n) e h))

      by : (Contains rel.universal v) ⊎ ((¬ IsUniversal program rel v) × Valued program models rel g v) → (n : ℕ) × (value_at g v ≡ Some (object_datum program.target n))
      by (inl c) =
          let (t, at) = p.source.terms v (record { universal = c; target = target }) in
          let fits = given_fits v (values.Term t) at in
          let (n, is) = read_object t (number t) fits.datum refl (sym (ap (read_part program number) (out_term t)) ∙ fits.read) in
          (n, fits.at ∙ ap (λ e. Some e) is)
      by (inr (none, x)) =
          let same : x.var ≡ var = same_Some x.var var (sym x.found ∙ found) in
          let (k, n, is, model, of) = object_for (setting program models) x.var class x.value (ap (λ (y : Var). class_in y.ty) same ∙ typed) x.fits in
          let one : k ≡ program.target = model_is x.var.model k program.target model (sym (ap (is_of_target program) x.found) ∙ target) in
          (n, x.at ∙ ap (λ e. Some e) (is ∙ ap (λ j. object_datum j n) one))

  -- ---- templates of the target domain

  pub target_of_model : (v : ℕ) (var : Var) → slice_get rel.vars v ≡ Some var → var.model ≡ Some program.target → is_target_variable program rel v ≡ true
  target_of_model v var found model = ap (is_of_target program) found ∙ ap (λ x. is_model x program.target) model ∙ eq-eqb program.target program.target refl

  declared : (dom : Dom) (t : Tmpl) → IsTargetDomain program rel dom → IsTemplateOf dom t → (meta : ℕ) × IsDeclared rel program.target meta t
  declared dom t of within =
      let slot = found_within program.models program.target p.over.evaluable.well.numbers.target in
      let d : IsModelDomain program rel dom = record { is = of.is; model = program.target; of_model = of.target; slot = slot.0; found = slot.1 } in
      (slot.0.meta, meant.domains.declared dom d t within)

  pub template_target : (dom : Dom) (t : Tmpl) → IsTargetDomain program rel dom → IsTemplateOf dom t → is_target_variable program rel (out-Tmpl t).var ≡ true
  template_target dom t of within = let (meta, is) = declared dom t of within in target_of_model (out-Tmpl t).var is.var is.found is.of_model

  pub template_class : (dom : Dom) (t : Tmpl) → IsTargetDomain program rel dom → IsTemplateOf dom t → class_of_variable rel (out-Tmpl t).var ≡ Some (out-Tmpl t).class.0
  template_class dom t of within =
      let (meta, is) = declared dom t of within in
      ap (option_and_then (λ (x : Var). class_in x.ty)) is.found ∙ ap class_in is.class

  pub root_template : (dom : Dom) → IsTargetDomain program rel dom → (t : Tmpl) × (dom.template ≡ Some t) × ((out-Tmpl t).var ≡ dom.root)
  root_template dom of = (meant.domains.shaped dom of.is).shaped program.target of.target

  -- the root of the target domain is a variable for its objects
  pub root_target : (dom : Dom) → IsTargetDomain program rel dom → is_target_variable program rel dom.root ≡ true
  root_target dom of =
      let (t, has, root) = root_template dom of in
      ap (is_target_variable program rel) (sym root) ∙ template_target dom t of (record { root = t; has = has; nested = IsNested.whole t })

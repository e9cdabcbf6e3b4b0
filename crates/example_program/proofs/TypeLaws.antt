-- The expressions of a program that is told plainly have their types, and stand where these are asked for.
use Rattle.std.proofs.Common.{◌≡◌, ◌<◌, ℕ, zero, suc, Bool, true, false, ◌&&◌, List, [], ◌∷◌, map, length, Option, None, Some, refl, sym, ap, ◌∙◌, subst, arith, inl, inr}
use Rattle.std.specs.Prelude.{◌⊎◌, nat_eq, slice_get, Contains, if◌then◌else◌}
use Rattle.std.specs.List.{list_all}
use Rattle.std.proofs.lemmas.Bool.{eqb-true, false≢true}
use Rattle.std.proofs.lemmas.Option.{same_Some, none-some, slice_get_within}
use Rattle.mof_metamodel.specs.declared.desc.ClassId.{ClassId}
use Rattle.mof_metamodel.specs.declared.desc.PropId.{PropId}
use Rattle.mof_metamodel.specs.declared.desc.PropType.{PropType}
use Rattle.mof_metamodel.specs.declared.desc.PropType.TheVariants as props
use Rattle.mof_metamodel.specs.Characters.{is_storable_text}
use Rattle.mof_metamodel.specs.Metamodels.{class_count, props_of, prop_at, type_of}
use Rattle.mof_metamodel.proofs.Facts.{first_true, second_true, nothing_in}
use Rattle.qv_syntax.specs.declared.ty.Ty.{Ty}
use Rattle.qv_syntax.specs.declared.ty.Ty.TheVariants as types
use Rattle.qv_syntax.specs.declared.typed.Typed.{Typed}
use Rattle.qv_syntax.specs.declared.typed.Values.{Values}
use Rattle.qv_syntax.specs.declared.operator.Operator.TheVariants as operators
use Rattle.qv_syntax.specs.declared.query.Query.{Query}
use Rattle.qv_syntax.specs.declared.program.Program.{Program}
use Rattle.qv_syntax.specs.declared.program.Rel.{Rel}
use Rattle.qv_syntax.specs.declared.program.Var.{Var}
use Rattle.qv_syntax.specs.declared.program.Dom.{Dom}
use Rattle.qv_syntax.specs.declared.program.Tmpl.{Tmpl, out-Tmpl}
use Rattle.qv_syntax.specs.declared.program.Item.{Item}
use Rattle.qv_syntax.specs.declared.program.Conj.{Conj}
use Rattle.qv_syntax.specs.declared.program.Conj.TheVariants as conjuncts
use Rattle.qv_syntax.specs.Parts.{HasItem}
use Rattle.qv_syntax.specs.Types.{IsClassIn, ConformsTo, IsTopOf, has_objects, model_for, IsOneModel}
use Rattle.qv_syntax.specs.TypeRules.{value_type, values_of, HasProperty}
use Rattle.qv_syntax.specs.TypedTrees.{Context, Typing, Variables, without_model, objects_of, IsTyped, IsChained}
use Rattle.qv_syntax.specs.ProgramTypes.{context_of, typing_of, variables_of, Fits, IsGiven, AreGiven, IsCallTyped, IsEquationTyped, IsConjunctTyped, IsItemOfType, IsItemTyped, IsRelationTyped, HasTypedExpressions}
use Rattle.example_program.specs.Words.{text, the_text, equal_to, joined_to, is_empty, joined, prefixed, value_item, object_item, class_of, primitive_domain}
use Rattle.example_program.proofs.Tests.{all_of, each_of, each_of_none, image_of, at_image, has}
use Rattle.example_program.proofs.Plain.{Kind, texts, objects, var_of, Pattern, root_of, class_of_pattern, tmpl, Part, a_text, a_word, an_object, item_of, parts_in, Spot, standings, Argument, object_argument, text_argument, word_argument, prefixed_argument, argument_of, Call, call_of, Clause, given, called, conjunct_of, Relation, domains_of, rel_of, program_of}
use Rattle.example_program.proofs.StandingLaws.{class_is}
use Rattle.example_program.proofs.PatternLaws.{item_is}
use Rattle.example_program.proofs.KindLaws.{metas, class_in, same_kinds, type_of_kind, model_of_kind, typing_of_kind, var_with, var_is, HasKind, has_kind}
use Rattle.example_program.proofs.DomainLaws.{IsPlaced, in_source, in_target, placed}
use Rattle.example_program.proofs.NumberLaws.{class_there, own_prop, IsGoodTemplate, good_source, good_target}
use Rattle.example_program.proofs.Checks.{desc_of, is_class, same_kind, is_kind, is_text_type, is_class_type, part_ok, part_prop, patterns_ok, argument_ok, argument_for, arguments_ok, domain_roots, call_to, call_ok, clause_ok, clauses_ok}

-- ---- a name behind a prefix

no_model : (ty : Ty) → model_for ty None ≡ None
no_model ty = by (has_objects ty)
  where
    by : (b : Bool) → ◌≡◌ {A = Option ℕ} (if b then None else None) None
    by true = refl
    by false = refl

texts_top : IsTopOf metas (types.Str ∷ types.Str ∷ []) types.Str
texts_top = record {
  among = (0, omega arith, refl);
  above = each_of (λ ty. ConformsTo metas ty types.Str) types.Str (types.Str ∷ []) (inl refl)
      (each_of (λ ty. ConformsTo metas ty types.Str) types.Str [] (inl refl) (each_of_none (λ ty. ConformsTo metas ty types.Str)));
}

module _ (context : Context) (same_metas : context.metas ≡ metas) (vars : Variables) (prefix name : ℕ) (first : slice_get vars prefix ≡ Some (without_model types.Str))
    (second : slice_get vars name ≡ Some (without_model types.Str)) where
  empty_typed : IsTyped context vars (is_empty prefix) (objects_of types.Bool None)
  empty_typed =
      IsTyped.chain vars (the_text prefix) (equal_to (text []) ∷ []) (without_model types.Str) types.Bool (IsTyped.variable vars prefix (without_model types.Str) first)
      (IsChained.operator vars types.Str operators.Equal (text []) (without_model types.Str) types.Bool [] types.Bool (IsTyped.string vars []) (inr (inr (inl (inl (inl refl)))), refl)
      (IsChained.no_more vars types.Bool))

  joined_typed : IsTyped context vars (joined prefix name) (objects_of types.Str None)
  joined_typed =
      IsTyped.chain vars (the_text prefix) (joined_to (text (95 ∷ [])) ∷ joined_to (the_text name) ∷ []) (without_model types.Str) types.Str (IsTyped.variable vars prefix (without_model types.Str) first)
      (IsChained.operator vars types.Str operators.Plus (text (95 ∷ [])) (without_model types.Str) types.Str (joined_to (the_text name) ∷ []) types.Str (IsTyped.string vars (95 ∷ [])) (inr (refl, refl, refl))
      (IsChained.operator vars types.Str operators.Plus (the_text name) (without_model types.Str) types.Str [] types.Str (IsTyped.variable vars name (without_model types.Str) second) (inr (refl, refl, refl))
      (IsChained.no_more vars types.Str)))

  no_models : IsOneModel (None ∷ model_for types.Str None ∷ []) None
  no_models = record {
    each = λ m c.
        each_of (λ (o : Option ℕ). o ≡ Some m → None ≡ Some m) None (model_for types.Str None ∷ []) (λ e. e)
        (each_of (λ (o : Option ℕ). o ≡ Some m → None ≡ Some m) (model_for types.Str None) [] (λ e. sym (no_model types.Str) ∙ e) (each_of_none (λ (o : Option ℕ). o ≡ Some m → None ≡ Some m)))
        (Some m) c refl;
    comes = λ m e. absurd (none-some m e);
  }

  pub prefixed_typed : IsTyped context vars (prefixed prefix name) (without_model types.Str)
  prefixed_typed =
      IsTyped.branches vars (is_empty prefix) (the_text name) (joined prefix name) (objects_of types.Bool None) (without_model types.Str) (objects_of types.Str None) types.Str None
      empty_typed refl (IsTyped.variable vars name (without_model types.Str) second) joined_typed
      (inr (inr (subst (λ ms. IsTopOf ms (types.Str ∷ types.Str ∷ []) types.Str) (sym same_metas) texts_top))) no_models

-- ---- types of properties

pub text_type : (o : Option PropType) → is_text_type o ≡ true → o ≡ Some props.Str
text_type None e = absurd (false≢true e)
text_type (Some props.Str) e = refl
text_type (Some props.Int) e = absurd (false≢true e)
text_type (Some props.Bool) e = absurd (false≢true e)
text_type (Some (props.Enum n)) e = absurd (false≢true e)
text_type (Some (props.Class c)) e = absurd (false≢true e)

pub class_type : (o : Option PropType) (d : ℕ) → is_class_type o d ≡ true → o ≡ Some (props.Class (record { 0 = d }))
class_type None d e = absurd (false≢true e)
class_type (Some props.Str) d e = absurd (false≢true e)
class_type (Some props.Int) d e = absurd (false≢true e)
class_type (Some props.Bool) d e = absurd (false≢true e)
class_type (Some (props.Enum n)) d e = absurd (false≢true e)
class_type (Some (props.Class c)) d e = ap (λ n. let x : ClassId = record { 0 = n } in Some (props.Class x)) (eqb-true c.0 d e)

pub text_prop : (r : Relation) (m c prop v : ℕ) → part_ok r m c (a_text prop v) ≡ true → type_of (desc_of m) prop ≡ Some props.Str
text_prop r m c prop v ok =
    text_type (type_of (desc_of m) prop)
    (second_true (has (props_of (desc_of m) c) prop) (is_text_type (type_of (desc_of m) prop)) (first_true (has (props_of (desc_of m) c) prop && is_text_type (type_of (desc_of m) prop)) (is_kind r v texts) ok))

pub word_prop : (r : Relation) (m c prop : ℕ) (word : List ℕ) → part_ok r m c (a_word prop word) ≡ true → type_of (desc_of m) prop ≡ Some props.Str
word_prop r m c prop word ok =
    text_type (type_of (desc_of m) prop)
    (second_true (has (props_of (desc_of m) c) prop) (is_text_type (type_of (desc_of m) prop)) (first_true (has (props_of (desc_of m) c) prop && is_text_type (type_of (desc_of m) prop)) (is_storable_text word) ok))

pub object_prop : (r : Relation) (m c prop : ℕ) (p : Pattern) → part_ok r m c (an_object prop p) ≡ true → type_of (desc_of m) prop ≡ Some (props.Class (record { 0 = class_of_pattern p }))
object_prop r m c prop p ok =
    class_type (type_of (desc_of m) prop) (class_of_pattern p)
    (second_true (has (props_of (desc_of m) c) prop) (is_class_type (type_of (desc_of m) prop) (class_of_pattern p))
    (first_true (has (props_of (desc_of m) c) prop && is_class_type (type_of (desc_of m) prop) (class_of_pattern p)) (is_class m (class_of_pattern p)) ok))

pub inner_class : (r : Relation) (m c prop : ℕ) (p : Pattern) → part_ok r m c (an_object prop p) ≡ true → is_class m (class_of_pattern p) ≡ true
inner_class r m c prop p ok = second_true (has (props_of (desc_of m) c) prop && is_class_type (type_of (desc_of m) prop) (class_of_pattern p)) (is_class m (class_of_pattern p)) ok

-- ---- one relation

module _ (rs : List Relation) (r : Relation) where
  abbrev program : Program
  program = program_of rs

  abbrev rel : Rel
  rel = rel_of r

  -- a variable of the kind is typed so
  typed_variable : (v : ℕ) (kind : Kind) → is_kind r v kind ≡ true → slice_get (variables_of rel) v ≡ Some (typing_of_kind kind)
  typed_variable v kind e = let h = has_kind r v kind e in at_image typing_of rel.vars v (var_with h.name kind) h.found

  given_so : (kind : Kind) (e : Typed) → IsTyped (context_of metas program) (variables_of rel) e (typing_of_kind kind) → IsGiven metas program rel (typing_of_kind kind) e
  given_so kind e typed = record { typing = typing_of_kind kind; typed = typed; fits = record { related = inl (inl refl); model = inr refl } }

  pub text_typed : (v : ℕ) → is_kind r v texts ≡ true → IsTyped (context_of metas program) (variables_of rel) (the_text v) (without_model types.Str)
  text_typed v e = IsTyped.variable (variables_of rel) v (without_model types.Str) (typed_variable v texts e)

  pub name_typed : (prefix name : ℕ) → is_kind r prefix texts ≡ true → is_kind r name texts ≡ true
      → IsTyped (context_of metas program) (variables_of rel) (prefixed prefix name) (without_model types.Str)
  name_typed prefix name a b = prefixed_typed (context_of metas program) refl (variables_of rel) prefix name (typed_variable prefix texts a) (typed_variable name texts b)

  argument_given : (a : Argument) (kind : Kind) → argument_ok r a kind ≡ true → IsGiven metas program rel (typing_of_kind kind) (argument_of a)
  argument_given (object_argument v m c) kind ok =
      subst (λ k. IsGiven metas program rel (typing_of_kind k) (argument_of (object_argument v m c))) (same_kinds (objects m c) kind (second_true (is_kind r v (objects m c)) (same_kind (objects m c) kind) ok))
      (given_so (objects m c) (argument_of (object_argument v m c))
      (IsTyped.variable (variables_of rel) v (typing_of_kind (objects m c)) (typed_variable v (objects m c) (first_true (is_kind r v (objects m c)) (same_kind (objects m c) kind) ok))))
  argument_given (text_argument v) kind ok =
      subst (λ k. IsGiven metas program rel (typing_of_kind k) (the_text v)) (same_kinds texts kind (second_true (is_kind r v texts) (same_kind texts kind) ok))
      (given_so texts (the_text v) (text_typed v (first_true (is_kind r v texts) (same_kind texts kind) ok)))
  argument_given (word_argument word) kind ok =
      subst (λ k. IsGiven metas program rel (typing_of_kind k) (text word)) (same_kinds texts kind (second_true (is_storable_text word) (same_kind texts kind) ok))
      (given_so texts (text word) (IsTyped.string (variables_of rel) word))
  argument_given (prefixed_argument prefix name) kind ok =
      let both = first_true (is_kind r prefix texts && is_kind r name texts) (same_kind texts kind) ok in
      subst (λ k. IsGiven metas program rel (typing_of_kind k) (prefixed prefix name)) (same_kinds texts kind (second_true (is_kind r prefix texts && is_kind r name texts) (same_kind texts kind) ok))
      (given_so texts (prefixed prefix name) (name_typed prefix name (first_true (is_kind r prefix texts) (is_kind r name texts) both) (second_true (is_kind r prefix texts) (is_kind r name texts) both)))

  argument_by : (callee : Relation) (v : ℕ) (o : Option (List ℕ × Kind)) (a : Argument) → slice_get callee.vars v ≡ o → argument_for r o a ≡ true
      → (root : Var) × (slice_get (rel_of callee).vars v ≡ Some root) × IsGiven metas program rel (typing_of root) (argument_of a)
  argument_by callee v None a is ok = absurd (false≢true ok)
  argument_by callee v (Some var) a is ok =
      (var_with var.0 var.1, at_image var_of callee.vars v var is ∙ ap (λ x. Some x) (var_is var), argument_given a var.1 ok)

  arguments_given : (callee : Relation) (doms : List Dom) (args : List Argument) → arguments_ok r callee (map (λ (d : Dom). d.root) doms) args ≡ true
      → AreGiven metas program rel (rel_of callee) doms (map argument_of args)
  arguments_given callee [] [] ok = tt
  arguments_given callee [] (a ∷ more) ok = absurd (false≢true ok)
  arguments_given callee (dom ∷ doms) [] ok = absurd (false≢true ok)
  arguments_given callee (dom ∷ doms) (a ∷ more) ok = (
    argument_by callee dom.root (slice_get callee.vars dom.root) a refl (first_true (argument_for r (slice_get callee.vars dom.root) a) (arguments_ok r callee (map (λ (d : Dom). d.root) doms) more) ok),
    arguments_given callee doms more (second_true (argument_for r (slice_get callee.vars dom.root) a) (arguments_ok r callee (map (λ (d : Dom). d.root) doms) more) ok),
  )

  primitive_roots : (vs : List ℕ) → map (λ (d : Dom). d.root) (map primitive_domain vs) ≡ vs
  primitive_roots [] = refl
  primitive_roots (v ∷ vs) = ap (λ ws. v ∷ ws) (primitive_roots vs)

  roots_are : (callee : Relation) → map (λ (d : Dom). d.root) (domains_of callee) ≡ domain_roots callee
  roots_are callee = ap (λ ws. root_of callee.from ∷ root_of callee.to ∷ ws) (primitive_roots callee.prefix)

  call_by : (n : ℕ) (o : Option Relation) (args : List Argument) → slice_get rs n ≡ o → call_to r o args ≡ true → IsCallTyped metas program rel n (map argument_of args)
  call_by n None args is ok = absurd (false≢true ok)
  call_by n (Some callee) args is ok = record {
    called = rel_of callee;
    found = at_image rel_of rs n callee is;
    given = arguments_given callee (domains_of callee) args (subst (λ vs. arguments_ok r callee vs args ≡ true) (sym (roots_are callee)) ok);
  }

  clause_typed : (c : Clause) → clause_ok rs r c ≡ true → IsConjunctTyped metas program rel (conjunct_of c)
  clause_typed (given v prefix name) ok =
      let both = first_true (is_kind r v texts && is_kind r prefix texts) (is_kind r name texts) ok in
      let h = has_kind r v texts (first_true (is_kind r v texts) (is_kind r prefix texts) both) in
      record {
        var = var_with h.name texts;
        found = h.found;
        typing = without_model types.Str;
        typed = name_typed prefix name (second_true (is_kind r v texts) (is_kind r prefix texts) both) (second_true (is_kind r v texts && is_kind r prefix texts) (is_kind r name texts) ok);
        compared = inr (inr (inl (inl (inl refl))));
      }
  clause_typed (called call) ok = call_by call.number (slice_get rs call.number) call.args refl ok

  -- ---- items

  text_given : (model : ℕ) (e : Typed) → IsTyped (context_of metas program) (variables_of rel) e (without_model types.Str) → IsGiven metas program rel (record { ty = types.Str; model = Some model }) e
  text_given model e typed = record { typing = without_model types.Str; typed = typed; fits = record { related = inl (inl refl); model = inl refl } }

  item_property : (m : ℕ) (p : Pattern) → IsGoodTemplate r m p → (part : Part) → Contains (parts_in p) part → (of : PropType) → type_of (desc_of m) (part_prop part) ≡ Some of
      → HasProperty metas (types.Class m (out-Tmpl (tmpl p)).class) (record { 0 = part_prop part }) (values_of (prop_at (desc_of m) (part_prop part))) (value_type m of)
  item_property m p good part c of typed = record {
    m = m;
    class = (out-Tmpl (tmpl p)).class;
    is = refl;
    has = class_there m p good.class;
    own = subst (λ x. Contains (props_of (desc_of m) x.0) (part_prop part)) (sym (class_is p)) (own_prop r m (class_of_pattern p) part (good.parts part c));
    of = of;
    typed = typed;
    value = refl;
    many = refl;
  }

  part_typed : (m : ℕ) (p : Pattern) → IsGoodTemplate r m p → (part : Part) → Contains (parts_in p) part → IsItemTyped metas program rel m m (tmpl p) (item_of part)
  part_typed m p good (a_text prop v) c =
      let ok = good.parts (a_text prop v) c in
      record {
        gives = values_of (prop_at (desc_of m) prop);
        of = types.Str;
        property = item_property m p good (a_text prop v) c props.Str (text_prop r m (class_of_pattern p) prop v ok);
        value = IsItemOfType.expression (the_text v) refl
            (text_given m (the_text v) (text_typed v (second_true (has (props_of (desc_of m) (class_of_pattern p)) prop && is_text_type (type_of (desc_of m) prop)) (is_kind r v texts) ok)));
      }
  part_typed m p good (a_word prop word) c = record {
    gives = values_of (prop_at (desc_of m) prop);
    of = types.Str;
    property = item_property m p good (a_word prop word) c props.Str (word_prop r m (class_of_pattern p) prop word (good.parts (a_word prop word) c));
    value = IsItemOfType.expression (text word) refl (text_given m (text word) (IsTyped.string (variables_of rel) word));
  }
  part_typed m p good (an_object prop q) c = record {
    gives = values_of (prop_at (desc_of m) prop);
    of = class_of m (class_of_pattern q);
    property = item_property m p good (an_object prop q) c (props.Class (record { 0 = class_of_pattern q })) (object_prop r m (class_of_pattern p) prop q (good.parts (an_object prop q) c));
    value = IsItemOfType.nested (tmpl q) refl (inl (inl (ap (types.Class m) (class_is q))));
  }

  item_typed : (m : ℕ) (p : Pattern) → IsGoodTemplate r m p → (item : Item) → HasItem (tmpl p) item → IsItemTyped metas program rel m m (tmpl p) item
  item_typed m p good item has = let part = item_is p item has in subst (IsItemTyped metas program rel m m (tmpl p)) part.2 (part_typed m p good part.0 part.1)

  item_placed : patterns_ok r ≡ true → (model meta : ℕ) (t : Tmpl) → IsPlaced r model meta t → (item : Item) → HasItem t item → IsItemTyped metas program rel model meta t item
  item_placed ok _ _ _ (in_source which c) item has = item_typed 0 which.0 (good_source r ok which c) item has
  item_placed ok _ _ _ (in_target which c) item has = item_typed 1 which.0 (good_target r ok which c) item has

  pub relation_typed : patterns_ok r ≡ true → clauses_ok rs r ≡ true → IsRelationTyped metas program rel
  relation_typed patterns clauses = record {
    whens = λ c there.
        let call = image_of call_of r.whens c there in
        subst (IsConjunctTyped metas program rel) call.2
        (call_by call.0.number (slice_get rs call.0.number) call.0.args refl (all_of (call_ok rs r) r.whens (first_true (list_all (call_ok rs r) r.whens) (list_all (clause_ok rs r) r.wheres) clauses) call.0 call.1));
    wheres = λ c there.
        let clause = image_of conjunct_of r.wheres c there in
        subst (IsConjunctTyped metas program rel) clause.2
        (clause_typed clause.0 (all_of (clause_ok rs r) r.wheres (second_true (list_all (call_ok rs r) r.whens) (list_all (clause_ok rs r) r.wheres) clauses) clause.0 clause.1));
    items = λ dom d t item h has. item_placed patterns d.model d.slot.meta t (placed rs r dom d t h) item has;
  }

pub expressions_typed : (rs : List Relation) → ((r : Relation) → Contains rs r → IsRelationTyped metas (program_of rs) (rel_of r)) → HasTypedExpressions metas (program_of rs)
expressions_typed rs each = record {
  queries = λ q c. absurd (nothing_in q c);
  relations = λ rel c. let r = image_of rel_of rs rel c in subst (IsRelationTyped metas (program_of rs)) r.2 (each r.0 r.1);
}

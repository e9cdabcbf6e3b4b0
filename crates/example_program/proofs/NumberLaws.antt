-- The numbers of a program that is told plainly name what is there.
use Rattle.std.proofs.Common.{◌≡◌, ◌<◌, ℕ, zero, suc, Bool, true, false, ◌&&◌, List, [], ◌∷◌, map, length, Option, None, Some, refl, sym, ap, ◌∙◌, subst, arith}
use Rattle.std.proofs.lemmas.List.{length-map}
use Rattle.std.specs.Prelude.{nat_lt, codes, slice_get, Contains, not}
use Rattle.std.specs.List.{list_all}
use Rattle.std.proofs.lemmas.Bool.{ltb-true, false≢true}
use Rattle.std.proofs.lemmas.Option.{same_Some, none-some, slice_get_within}
use Rattle.mof_metamodel.specs.declared.desc.PropId.{PropId}
use Rattle.mof_metamodel.specs.Characters.{is_storable_text}
use Rattle.mof_metamodel.specs.Metamodels.{class_count, props_of, type_of}
use Rattle.mof_metamodel.proofs.Facts.{first_true, second_true, contains_first}
use Rattle.qv_syntax.specs.declared.query.ModelSlot.{ModelSlot}
use Rattle.qv_syntax.specs.declared.typed.Typed.{Typed}
use Rattle.qv_syntax.specs.declared.program.Program.{Program}
use Rattle.qv_syntax.specs.declared.program.Key.{Key}
use Rattle.qv_syntax.specs.declared.program.Rel.{Rel}
use Rattle.qv_syntax.specs.declared.program.Var.{Var}
use Rattle.qv_syntax.specs.declared.program.Dom.{Dom}
use Rattle.qv_syntax.specs.declared.program.Tmpl.{Tmpl, out-Tmpl}
use Rattle.qv_syntax.specs.declared.program.Item.{Item}
use Rattle.qv_syntax.specs.declared.program.Conj.TheVariants as conjuncts
use Rattle.qv_syntax.specs.Parts.{HasItem}
use Rattle.qv_syntax.specs.Types.{IsClassIn, IsSingleType}
use Rattle.qv_syntax.specs.Relations.{IsModelDomain, IsTemplateOf, CallsIn}
use Rattle.qv_syntax.specs.ProgramNumbers.{AreVariablesInRange, IsTemplateInRange, IsRelationInRange, HasNumbersInRange}
use Rattle.example_program.specs.Words.{prefixed, key_of}
use Rattle.example_program.proofs.Tests.{all_of, each_of, each_of_none, image_of, image_at, has, in_list}
use Rattle.example_program.proofs.Plain.{Kind, texts, objects, var_of, Pattern, shape, root_of, class_of_pattern, tmpl, Part, a_text, a_word, an_object, item_of, parts_in, Spot, standings, Argument, argument_of, Call, call_of, Clause, given, called, conjunct_of, Relation, rel_of, program_of}
use Rattle.example_program.proofs.StandingLaws.{variable_is, class_is}
use Rattle.example_program.proofs.PatternLaws.{item_is}
use Rattle.example_program.proofs.KindLaws.{metas, class_in, type_of_kind, model_of_kind, var_with, var_is, HasKind, has_kind}
use Rattle.example_program.proofs.DomainLaws.{WhichDomain, of_source, of_target, of_prefix, which_domain, IsPlaced, in_source, in_target, placed}
use Rattle.example_program.proofs.MeaningLaws.{call_no_equation, same_number}
use Rattle.example_program.proofs.Checks.{desc_of, is_class, is_kind, is_known_kind, vars_ok, is_text_type, is_class_type, part_ok, part_prop, pattern_ok, patterns_ok, prefix_ok, call_to, call_ok, clause_ok, clauses_ok}

-- the class of a template
abbrev pub class_there : (m : ℕ) (p : Pattern) → is_class m (class_of_pattern p) ≡ true → IsClassIn metas m (out-Tmpl (tmpl p)).class
class_there m p e =
    let c = class_in m (class_of_pattern p) e in
    record { meta = desc_of m; found = c.found; within = subst (λ x. x.0 < class_count (desc_of m)) (sym (class_is p)) c.within }

pub prop_is : (part : Part) → (item_of part).prop.0 ≡ part_prop part
prop_is (a_text prop v) = refl
prop_is (a_word prop word) = refl
prop_is (an_object prop p) = refl

-- what is tested of a template
pub record IsGoodTemplate (r : Relation) (m : ℕ) (p : Pattern) : Type 0 where
  pub class : is_class m (class_of_pattern p) ≡ true
  pub kind : is_kind r (root_of p) (objects m (class_of_pattern p)) ≡ true
  pub parts : (part : Part) → Contains (parts_in p) part → part_ok r m (class_of_pattern p) part ≡ true

pub good_template : (r : Relation) (m : ℕ) (which : Pattern × Spot) → pattern_ok r m which ≡ true → IsGoodTemplate r m which.0
good_template r m which ok =
    let both = first_true (is_class m (class_of_pattern which.0) && is_kind r (root_of which.0) (objects m (class_of_pattern which.0))) (list_all (part_ok r m (class_of_pattern which.0)) (parts_in which.0)) ok in
    record {
      class = first_true (is_class m (class_of_pattern which.0)) (is_kind r (root_of which.0) (objects m (class_of_pattern which.0))) both;
      kind = second_true (is_class m (class_of_pattern which.0)) (is_kind r (root_of which.0) (objects m (class_of_pattern which.0))) both;
      parts = all_of (part_ok r m (class_of_pattern which.0)) (parts_in which.0)
          (second_true (is_class m (class_of_pattern which.0) && is_kind r (root_of which.0) (objects m (class_of_pattern which.0))) (list_all (part_ok r m (class_of_pattern which.0)) (parts_in which.0)) ok);
    }

pub good_source : (r : Relation) → patterns_ok r ≡ true → (which : Pattern × Spot) → Contains (standings None r.from) which → IsGoodTemplate r 0 which.0
good_source r ok which c =
    good_template r 0 which (all_of (pattern_ok r 0) (standings None r.from) (first_true (list_all (pattern_ok r 0) (standings None r.from)) (list_all (pattern_ok r 1) (standings None r.to)) ok) which c)

pub good_target : (r : Relation) → patterns_ok r ≡ true → (which : Pattern × Spot) → Contains (standings None r.to) which → IsGoodTemplate r 1 which.0
good_target r ok which c =
    good_template r 1 which (all_of (pattern_ok r 1) (standings None r.to) (second_true (list_all (pattern_ok r 0) (standings None r.from)) (list_all (pattern_ok r 1) (standings None r.to)) ok) which c)

pub own_prop : (r : Relation) (m : ℕ) (c : ℕ) (part : Part) → part_ok r m c part ≡ true → Contains (props_of (desc_of m) c) (part_prop part)
own_prop r m c (a_text prop v) ok =
    in_list (props_of (desc_of m) c) prop
    (first_true (has (props_of (desc_of m) c) prop) (is_text_type (type_of (desc_of m) prop)) (first_true (has (props_of (desc_of m) c) prop && is_text_type (type_of (desc_of m) prop)) (is_kind r v texts) ok))
own_prop r m c (a_word prop word) ok =
    in_list (props_of (desc_of m) c) prop
    (first_true (has (props_of (desc_of m) c) prop) (is_text_type (type_of (desc_of m) prop)) (first_true (has (props_of (desc_of m) c) prop && is_text_type (type_of (desc_of m) prop)) (is_storable_text word) ok))
own_prop r m c (an_object prop p) ok =
    in_list (props_of (desc_of m) c) prop
    (first_true (has (props_of (desc_of m) c) prop) (is_class_type (type_of (desc_of m) prop) (class_of_pattern p))
    (first_true (has (props_of (desc_of m) c) prop && is_class_type (type_of (desc_of m) prop) (class_of_pattern p)) (is_class m (class_of_pattern p)) ok))

-- a template begins with itself
pub whole_first : (p : Pattern) → Contains (standings None p) (p, None)
whole_first (shape v c ps) = (0, omega arith, refl)

few_models : (kind : Kind) → is_known_kind kind ≡ true → (m : ℕ) → model_of_kind kind ≡ Some m → m < 2
few_models texts known m e = absurd (none-some m e)
few_models (objects n c) known m e = subst (λ x. x < 2) (same_Some n m e) (ltb-true n 2 (first_true (nat_lt n 2) (nat_lt c (class_count (desc_of n))) known))

single : (kind : Kind) → is_known_kind kind ≡ true → IsSingleType metas (type_of_kind kind)
single texts known = tt
single (objects m c) known = class_in m c known

module _ (rs : List Relation) (r : Relation) where
  abbrev program : Program
  program = program_of rs

  abbrev rel : Rel
  rel = rel_of r

  abbrev IsNumber : ℕ → Type 0
  IsNumber v = v < length rel.vars

  number_in : (v : ℕ) → v < length r.vars → IsNumber v
  number_in v less = subst (λ n. v < n) (sym (length-map r.vars var_of)) less

  abbrev kinds_ok : Bool
  kinds_ok = list_all (λ (x : List ℕ × Kind). is_known_kind x.1) r.vars

  abbrev universal_below : Bool
  universal_below = list_all (λ w. nat_lt w (length r.vars)) r.universal

  abbrev existential_below : Bool
  existential_below = list_all (λ w. nat_lt w (length r.vars)) r.existential

  known : vars_ok r ≡ true → (x : List ℕ × Kind) → Contains r.vars x → is_known_kind x.1 ≡ true
  known ok x c = all_of (λ (y : List ℕ × Kind). is_known_kind y.1) r.vars (first_true kinds_ok universal_below (first_true (kinds_ok && universal_below) existential_below ok)) x c

  variables_in_range : vars_ok r ≡ true → AreVariablesInRange metas program rel
  variables_in_range ok = record {
    types = λ var c. let x = image_of var_of r.vars var c in subst (λ (y : Var). IsSingleType metas y.ty) (sym (var_is x.0) ∙ x.2) (single x.0.1 (known ok x.0 x.1));
    models = λ var m c e.
        let x = image_of var_of r.vars var c in
        few_models x.0.1 (known ok x.0 x.1) m (ap (λ (y : Var). y.model) (sym (var_is x.0) ∙ x.2) ∙ e);
    universal = λ v c.
        number_in v (ltb-true v (length r.vars) (all_of (λ w. nat_lt w (length r.vars)) r.universal (second_true kinds_ok universal_below (first_true (kinds_ok && universal_below) existential_below ok)) v c));
    existential = λ v c. number_in v (ltb-true v (length r.vars) (all_of (λ w. nat_lt w (length r.vars)) r.existential (second_true (kinds_ok && universal_below) existential_below ok) v c));
  }

  kind_within : (v : ℕ) (kind : Kind) → is_kind r v kind ≡ true → IsNumber v
  kind_within v kind e = let h = has_kind r v kind e in slice_get_within rel.vars v (var_with h.name kind) h.found

  root_within : patterns_ok r ≡ true → prefix_ok r ≡ true → (dom : Dom) → WhichDomain r dom → IsNumber dom.root
  root_within ok prefix _ of_source = kind_within (root_of r.from) (objects 0 (class_of_pattern r.from)) (good_source r ok (r.from, None) (whole_first r.from)).kind
  root_within ok prefix _ of_target = kind_within (root_of r.to) (objects 1 (class_of_pattern r.to)) (good_target r ok (r.to, None) (whole_first r.to)).kind
  root_within ok prefix _ (of_prefix v c) = kind_within v texts (first_true (is_kind r v texts) (not r.top) (all_of (λ w. is_kind r w texts && not r.top) r.prefix prefix v c))

  model_within : (dom : Dom) → WhichDomain r dom → (m : ℕ) → dom.model ≡ Some m → m < 2
  model_within _ of_source m e = let is : 0 ≡ m = same_Some 0 m e in omega (arith, is)
  model_within _ of_target m e = let is : 1 ≡ m = same_Some 1 m e in omega (arith, is)
  model_within _ (of_prefix v c) m e = absurd (none-some m e)

  template_by : (m : ℕ) (p : Pattern) → IsGoodTemplate r m p → IsTemplateInRange metas rel m (tmpl p)
  template_by m p good = record {
    var = subst IsNumber (sym (variable_is p)) (kind_within (root_of p) (objects m (class_of_pattern p)) good.kind);
    class = class_there m p good.class;
    items = λ item has.
        let part = item_is p item has in
        subst (λ c. Contains (props_of (desc_of m) c.0) item.prop.0) (sym (class_is p))
        (subst (Contains (props_of (desc_of m) (class_of_pattern p))) (sym (prop_is part.0) ∙ ap (λ (i : Item). i.prop.0) part.2) (own_prop r m (class_of_pattern p) part.0 (good.parts part.0 part.1)));
  }

  template_placed : patterns_ok r ≡ true → (model meta : ℕ) (t : Tmpl) → IsPlaced r model meta t → IsTemplateInRange metas rel meta t
  template_placed ok _ _ _ (in_source which c) = template_by 0 which.0 (good_source r ok which c)
  template_placed ok _ _ _ (in_target which c) = template_by 1 which.0 (good_target r ok which c)

  callee_by : (n : ℕ) (o : Option Relation) (args : List Argument) → slice_get rs n ≡ o → call_to r o args ≡ true → n < length rs
  callee_by n None args is ok = absurd (false≢true ok)
  callee_by n (Some callee) args is ok = slice_get_within rs n callee is

  callee_within : (call : Call) → call_ok rs r call ≡ true → call.number < length program.rels
  callee_within call ok = subst (λ n. call.number < n) (sym (length-map rs rel_of)) (callee_by call.number (slice_get rs call.number) call.args refl ok)

  when_within : clauses_ok rs r ≡ true → (number : ℕ) → CallsIn rel.whens number → number < length program.rels
  when_within ok number (args, c) =
      let call = image_of call_of r.whens (conjuncts.Call number args) c in
      subst (λ n. n < length program.rels) (same_number call.0.number number (map argument_of call.0.args) args call.2)
      (callee_within call.0 (all_of (call_ok rs r) r.whens (first_true (list_all (call_ok rs r) r.whens) (list_all (clause_ok rs r) r.wheres) ok) call.0 call.1))

  where_by : (c : Clause) → clause_ok rs r c ≡ true → (number : ℕ) (args : List Typed) → conjunct_of c ≡ conjuncts.Call number args → number < length program.rels
  where_by (given v prefix name) ok number args is = absurd (call_no_equation number args v (prefixed prefix name) (sym is))
  where_by (called call) ok number args is =
      subst (λ n. n < length program.rels) (same_number call.number number (map argument_of call.args) args is) (callee_within call ok)

  where_within : clauses_ok rs r ≡ true → (number : ℕ) → CallsIn rel.wheres number → number < length program.rels
  where_within ok number (args, c) =
      let clause = image_of conjunct_of r.wheres (conjuncts.Call number args) c in
      where_by clause.0 (all_of (clause_ok rs r) r.wheres (second_true (list_all (call_ok rs r) r.whens) (list_all (clause_ok rs r) r.wheres) ok) clause.0 clause.1) number args clause.2

  pub relation_in_range : vars_ok r ≡ true → patterns_ok r ≡ true → prefix_ok r ≡ true → clauses_ok rs r ≡ true → IsRelationInRange metas program rel
  relation_in_range vars patterns prefix clauses = record {
    vars = variables_in_range vars;
    roots = λ dom c. root_within patterns prefix dom (which_domain r dom c);
    models = λ dom m c e. model_within dom (which_domain r dom c) m e;
    templates = λ dom d t h. template_placed patterns d.model d.slot.meta t (placed rs r dom d t h);
    when_calls = when_within clauses;
    where_calls = where_within clauses;
  }

pub numbers_in_range : (rs : List Relation) → ((r : Relation) → Contains rs r → IsRelationInRange metas (program_of rs) (rel_of r)) → HasNumbersInRange metas (program_of rs)
numbers_in_range rs each = record {
  slots = each_of (λ (s : ModelSlot). s.meta < 2) (record { name = codes "uml"; meta = 0 }) (record { name = codes "rdb"; meta = 1 } ∷ []) (omega arith)
      (each_of (λ (s : ModelSlot). s.meta < 2) (record { name = codes "rdb"; meta = 1 }) [] (omega arith) (each_of_none (λ (s : ModelSlot). s.meta < 2)));
  target = omega arith;
  keys = each_of (λ (k : Key). IsClassIn metas k.meta k.class) (key_of 1 (0 ∷ [])) (key_of 2 (2 ∷ 0 ∷ []) ∷ key_of 3 (6 ∷ 0 ∷ []) ∷ []) (class_in 1 1 refl)
      (each_of (λ (k : Key). IsClassIn metas k.meta k.class) (key_of 2 (2 ∷ 0 ∷ [])) (key_of 3 (6 ∷ 0 ∷ []) ∷ []) (class_in 1 2 refl)
      (each_of (λ (k : Key). IsClassIn metas k.meta k.class) (key_of 3 (6 ∷ 0 ∷ [])) [] (class_in 1 3 refl) (each_of_none (λ (k : Key). IsClassIn metas k.meta k.class))));
  relations = λ rel c. let r = image_of rel_of rs rel c in subst (IsRelationInRange metas (program_of rs)) r.2 (each r.0 r.1);
}

-- Which variables are universal: those of the source's templates and their items, of primitive domains, and of calls in when.
use Rattle.std.proofs.Common.{◌≡◌, ◌≢◌, ◌<◌, ℕ, zero, suc, Bool, true, false, ◌&&◌, List, [], ◌∷◌, ◌++◌, map, length, Option, None, Some, refl, sym, ap, ◌∙◌, subst, arith, inl, inr, true≢false}
use Rattle.std.specs.Prelude.{◌⊎◌, ◌↔◌, not, nat_lt, slice_get, Contains}
use Rattle.std.specs.List.{list_all, flat_map, range_with_len}
use Rattle.std.proofs.lemmas.Bool.{false≢true}
use Rattle.std.proofs.lemmas.Option.{same_Some, none-some, slice_get_within}
use Rattle.std.proofs.lemmas.List.Elements.{Contains-append_left, Contains-append_right, Contains-append_cases}
use Rattle.mof_metamodel.specs.Characters.{is_storable_text}
use Rattle.mof_metamodel.proofs.Facts.{first_true, second_true, nothing_in, contains_map, only_one}
use Rattle.mof_metamodel.proofs.PropLemmas.{from_flat_map, to_flat_map}
use Rattle.qv_syntax.specs.declared.ty.Ty.TheVariants as types
use Rattle.qv_syntax.specs.declared.typed.Typed.{Typed}
use Rattle.qv_syntax.specs.declared.typed.Node.TheVariants as nodes
use Rattle.qv_syntax.specs.declared.program.Program.{Program}
use Rattle.qv_syntax.specs.declared.program.Rel.{Rel}
use Rattle.qv_syntax.specs.declared.program.Dom.{Dom}
use Rattle.qv_syntax.specs.declared.program.Tmpl.{Tmpl, out-Tmpl}
use Rattle.qv_syntax.specs.declared.program.Conj.{Conj}
use Rattle.qv_syntax.specs.declared.program.ItemValue.TheVariants as items
use Rattle.qv_syntax.specs.Parts.{IsWithin, Names, IsNested}
use Rattle.qv_syntax.specs.Relations.{IsSourceDomain, IsTemplateOf, IsItemExpression, IsItemAlone, InConjunct, IsSubject, OccursInTemplates, OccursInClause, IsUniversal}
use Rattle.example_program.specs.Words.{text, the_text, value_item, source_domain, target_domain, primitive_domain}
use Rattle.example_program.proofs.Tests.{zero_not_one, all_of, image_of, has, in_list, listed, not_true, below_of}
use Rattle.example_program.proofs.Plain.{Pattern, shape, root_of, tmpl, Part, a_text, a_word, an_object, item_of, parts_in, Spot, standings, Argument, object_argument, text_argument, word_argument, prefixed_argument, argument_of, names_of, Call, call_of, Relation, domains_of, rel_of, program_of}
use Rattle.example_program.proofs.ExpressionLaws.{plain_variable, plain_text, is_good, argument_plain, names_are}
use Rattle.example_program.proofs.StandingLaws.{variable_is, nested_is}
use Rattle.example_program.proofs.PatternLaws.{nested_within, has_part}
use Rattle.example_program.proofs.DomainLaws.{WhichDomain, of_source, of_target, of_prefix, which_domain, source_there, target_there, prefix_there, IsValue, a_variable, a_literal, IsItemIn, source_item}
use Rattle.example_program.proofs.Checks.{roots_of, part_texts, texts_of, from_variables, call_names, when_names, alone_in, call_alone, when_alone, differs, universal_ok}

-- ---- variables of texts in items

-- a variable alone names itself
pub names_itself : (w v : ℕ) → Names (the_text w) v → w ≡ v
names_itself w v names = only_one w v (in_list (w ∷ []) v (names_are (w ∷ []) (the_text w) (plain_variable (w ∷ []) types.Str w (listed (w ∷ []) w (0, omega arith, refl))) v names))

-- an item that is a variable is among the texts of its template
pub text_in : (p : Pattern) (which : Pattern × Spot) (prop v : ℕ) → Contains (standings None p) which → Contains (parts_in which.0) (a_text prop v) → Contains (texts_of p) v
text_in p which prop v among has =
    to_flat_map (λ (w : Pattern × Spot). flat_map part_texts (parts_in w.0)) (standings None p) which v among
    (to_flat_map part_texts (parts_in which.0) (a_text prop v) v has (0, omega arith, refl))

pub record IsTextIn (p : Pattern) (v : ℕ) : Type 0 where
  pub which : Pattern × Spot
  pub among : Contains (standings None p) which
  pub prop : ℕ
  pub has : Contains (parts_in which.0) (a_text prop v)

text_by : (p : Pattern) (v : ℕ) (which : Pattern × Spot) → Contains (standings None p) which → (part : Part) → Contains (parts_in which.0) part → Contains (part_texts part) v → IsTextIn p v
text_by p v which among (a_text prop w) has c = record { which = which; among = among; prop = prop; has = subst (λ x. Contains (parts_in which.0) (a_text prop x)) (only_one w v c) has }
text_by p v which among (a_word prop word) has c = absurd (nothing_in v c)
text_by p v which among (an_object prop q) has c = absurd (nothing_in v c)

pub text_from : (p : Pattern) (v : ℕ) → Contains (texts_of p) v → IsTextIn p v
text_from p v c =
    let w = from_flat_map (λ (w : Pattern × Spot). flat_map part_texts (parts_in w.0)) (standings None p) v c in
    let part = from_flat_map part_texts (parts_in w.0.0) v w.2 in
    text_by p v w.0 w.1 part.0 part.1 part.2

-- so it is an item alone of a domain with the template
pub alone_in_domain : (p : Pattern) (dom : Dom) (v : ℕ) → dom.template ≡ Some (tmpl p) → IsTextIn p v → IsItemAlone dom v
alone_in_domain p dom v e t = record {
  ty = types.Str;
  is = record {
    item = value_item t.prop (the_text v);
    of = record {
      template = tmpl t.which.0;
      of = record { root = tmpl p; has = e; nested = nested_within p t.which t.among };
      has = has_part t.which.0 (a_text t.prop v) t.has;
    };
    is = refl;
  };
}

roots_first : (p : Pattern) → Contains (roots_of p) (root_of p)
roots_first (shape v c ps) = (0, omega arith, refl)

-- ---- one relation

-- the texts of the items of a template are storable
abbrev pub AreStorable : Pattern → Type 0
AreStorable p = (which : Pattern × Spot) (prop : ℕ) (word : List ℕ) → Contains (standings None p) which → Contains (parts_in which.0) (a_word prop word) → is_storable_text word ≡ true

module _ (rs : List Relation) (r : Relation) (words : AreStorable r.from) where
  abbrev program : Program
  program = program_of rs

  abbrev rel : Rel
  rel = rel_of r

  -- the arguments of calls in when hold storable texts
  abbrev pub AreGood : Type 0
  AreGood = (call : Call) (a : Argument) → Contains r.whens call → Contains call.args a → is_good a ≡ true

  -- ---- what is universal is among these

  in_root : (v : ℕ) → Contains (roots_of r.from) v → Contains (from_variables r ++ when_names r) v
  in_root v c = Contains-append_left (from_variables r) (when_names r) v (Contains-append_left (roots_of r.from) (texts_of r.from ++ r.prefix) v c)

  in_text : (v : ℕ) → Contains (texts_of r.from) v → Contains (from_variables r ++ when_names r) v
  in_text v c =
      Contains-append_left (from_variables r) (when_names r) v
      (Contains-append_right (roots_of r.from) (texts_of r.from ++ r.prefix) v (Contains-append_left (texts_of r.from) r.prefix v c))

  in_prefix : (v : ℕ) → Contains r.prefix v → Contains (from_variables r ++ when_names r) v
  in_prefix v c =
      Contains-append_left (from_variables r) (when_names r) v
      (Contains-append_right (roots_of r.from) (texts_of r.from ++ r.prefix) v (Contains-append_right (texts_of r.from) r.prefix v c))

  value_in : (e : Typed) (which : Pattern × Spot) (part : Part) (v : ℕ) → Contains (standings None r.from) which → Contains (parts_in which.0) part → IsValue e part → Names e v
      → Contains (from_variables r ++ when_names r) v
  value_in e which part v among has (a_variable prop w is same) names =
      let itself : w ≡ v = names_itself w v (subst (λ x. Names x v) (sym same) names) in
      in_text v (subst (λ x. Contains (texts_of r.from) x) itself (text_in r.from which prop w among (subst (λ x. Contains (parts_in which.0) x) is has)))
  value_in e which part v among has (a_literal prop word is same) names =
      absurd (false≢true (names_are [] (text word) (plain_text [] word (words which prop word among (subst (λ x. Contains (parts_in which.0) x) is has))) v (subst (λ x. Names x v) (sym same) names)))

  in_source : (v : ℕ) → OccursInTemplates (source_domain (root_of r.from) (tmpl r.from)) v → Contains (from_variables r ++ when_names r) v
  in_source v (OccursInTemplates.root e) = in_root v (subst (λ x. Contains (roots_of r.from) x) e (roots_first r.from))
  in_source v (OccursInTemplates.template t h e) =
      let w = nested_is r.from t (subst (λ x. IsNested x t) (sym (same_Some (tmpl r.from) h.root h.has)) h.nested) in
      let is : root_of w.0.0 ≡ v = sym (variable_is w.0.0) ∙ ap (λ x. (out-Tmpl x).var) w.2 ∙ e in
      in_root v (subst (λ x. Contains (roots_of r.from) x) is (contains_map (λ (x : Pattern × Spot). root_of x.0) (standings None r.from) w.0 w.1))
  in_source v (OccursInTemplates.item e h names) =
      let i = source_item r e h in
      value_in e i.which i.part v i.among i.has i.value names

  in_domain : (v : ℕ) (dom : Dom) → WhichDomain r dom → dom.model ≢ Some 1 → OccursInTemplates dom v → Contains (from_variables r ++ when_names r) v
  in_domain v _ of_source other occurs = in_source v occurs
  in_domain v _ of_target other occurs = absurd (other refl)
  in_domain v _ (of_prefix w c) other (OccursInTemplates.root e) = in_prefix v (subst (λ x. Contains r.prefix x) e c)
  in_domain v _ (of_prefix w c) other (OccursInTemplates.template t h e) = absurd (none-some h.root h.has)
  in_domain v _ (of_prefix w c) other (OccursInTemplates.item e h names) = absurd (none-some h.of.of.root h.of.of.has)

  in_when : AreGood → (v : ℕ) → OccursInClause rel.whens v → Contains (from_variables r ++ when_names r) v
  in_when good v (OccursInClause.subject c has is) =
      let call = image_of call_of r.whens c has in
      absurd (subst (λ x. IsSubject x v) (sym call.2) is)
  in_when good v (OccursInClause.expression c e has inside names) =
      let call = image_of call_of r.whens c has in
      let a = image_of argument_of call.0.args e (subst (λ x. InConjunct x e) (sym call.2) inside) in
      let named = in_list (names_of a.0) v (names_are (names_of a.0) (argument_of a.0) (argument_plain a.0 (good call.0 a.0 call.1 a.1)) v (subst (λ x. Names x v) (sym a.2) names)) in
      Contains-append_right (from_variables r) (when_names r) v (to_flat_map call_names r.whens call.0 v call.1 (to_flat_map names_of call.0.args a.0 v a.1 named))

  listed_in : AreGood → (v : ℕ) → IsUniversal program rel v → Contains (from_variables r ++ when_names r) v
  listed_in good v (IsUniversal.domain dom s occurs) = in_domain v dom (which_domain r dom s.is) s.source occurs
  listed_in good v (IsUniversal.when occurs) = in_when good v occurs

  -- ---- these are universal

  abbrev first_dom : Dom
  first_dom = source_domain (root_of r.from) (tmpl r.from)

  abbrev pub first_source : IsSourceDomain program rel first_dom
  first_source = record { is = source_there r; source = zero_not_one }

  root_universal : (v : ℕ) → Contains (roots_of r.from) v → IsUniversal program rel v
  root_universal v c =
      let w = image_of (λ (x : Pattern × Spot). root_of x.0) (standings None r.from) v c in
      IsUniversal.domain first_dom first_source
      (OccursInTemplates.template (tmpl w.0.0) (record { root = tmpl r.from; has = refl; nested = nested_within r.from w.0 w.1 }) (variable_is w.0.0 ∙ w.2))

  text_universal : (v : ℕ) → Contains (texts_of r.from) v → IsUniversal program rel v
  text_universal v c =
      let alone = alone_in_domain r.from first_dom v refl (text_from r.from v c) in
      IsUniversal.domain first_dom first_source (OccursInTemplates.item (record { ty = alone.ty; node = nodes.Variable v }) alone.is (alone.ty, IsWithin.whole (record { ty = alone.ty; node = nodes.Variable v })))

  prefix_universal : (v : ℕ) → Contains r.prefix v → IsUniversal program rel v
  prefix_universal v c = IsUniversal.domain (primitive_domain v) (record { is = prefix_there r v c; source = λ e. none-some 1 e }) (OccursInTemplates.root refl)

  alone_named : (a : Argument) (v : ℕ) → Contains (alone_in a) v → Names (argument_of a) v
  alone_named (object_argument w m c) v h = subst (λ x. Names (argument_of (object_argument w m c)) x) (only_one w v h) (types.Class m (record { 0 = c }), IsWithin.whole (argument_of (object_argument w m c)))
  alone_named (text_argument w) v h = subst (λ x. Names (argument_of (text_argument w)) x) (only_one w v h) (types.Str, IsWithin.whole (the_text w))
  alone_named (word_argument word) v h = absurd (nothing_in v h)
  alone_named (prefixed_argument prefix name) v h = absurd (nothing_in v h)

  when_universal : (v : ℕ) → Contains (when_alone r) v → IsUniversal program rel v
  when_universal v c =
      let call = from_flat_map call_alone r.whens v c in
      let a = from_flat_map alone_in call.0.args v call.2 in
      IsUniversal.when (OccursInClause.expression (call_of call.0) (argument_of a.0) (contains_map call_of r.whens call.0 call.1) (contains_map argument_of call.0.args a.0 a.1) (alone_named a.0 v a.2))

  these_universal : (v : ℕ) → Contains (from_variables r ++ when_alone r) v → IsUniversal program rel v
  these_universal v c =
      elim (Contains-append_cases (from_variables r) (when_alone r) v c) [
        | inl from ↦ elim (Contains-append_cases (roots_of r.from) (texts_of r.from ++ r.prefix) v from) [
          | inl root ↦ root_universal v root
          | inr more ↦ elim (Contains-append_cases (texts_of r.from) r.prefix v more) [ inl text ↦ text_universal v text | inr prefix ↦ prefix_universal v prefix ]
        ]
        | inr when ↦ when_universal v when
      ]

  -- ---- by the test

  module _ (good : AreGood) (ok : universal_ok r ≡ true) where
    abbrev sources_listed : list_all (has r.universal) (from_variables r ++ when_names r) ≡ true
    sources_listed =
        first_true (list_all (has r.universal) (from_variables r ++ when_names r)) (list_all (has (from_variables r ++ when_alone r)) r.universal)
        (first_true (list_all (has r.universal) (from_variables r ++ when_names r) && list_all (has (from_variables r ++ when_alone r)) r.universal)
        (list_all (λ v. differs (has r.universal v) (has r.existential v)) (range_with_len 0 (length r.vars))) ok)

    abbrev all_universal : list_all (has (from_variables r ++ when_alone r)) r.universal ≡ true
    all_universal =
        second_true (list_all (has r.universal) (from_variables r ++ when_names r)) (list_all (has (from_variables r ++ when_alone r)) r.universal)
        (first_true (list_all (has r.universal) (from_variables r ++ when_names r) && list_all (has (from_variables r ++ when_alone r)) r.universal)
        (list_all (λ v. differs (has r.universal v) (has r.existential v)) (range_with_len 0 (length r.vars))) ok)

    abbrev divided : list_all (λ v. differs (has r.universal v) (has r.existential v)) (range_with_len 0 (length r.vars)) ≡ true
    divided =
        second_true (list_all (has r.universal) (from_variables r ++ when_names r) && list_all (has (from_variables r ++ when_alone r)) r.universal)
        (list_all (λ v. differs (has r.universal v) (has r.existential v)) (range_with_len 0 (length r.vars))) ok

    pub universal_has : (v : ℕ) → IsUniversal program rel v → has r.universal v ≡ true
    universal_has v u = all_of (has r.universal) (from_variables r ++ when_names r) sources_listed v (listed_in good v u)

    pub universal_from : (v : ℕ) → has r.universal v ≡ true → IsUniversal program rel v
    universal_from v h = these_universal v (in_list (from_variables r ++ when_alone r) v (all_of (has (from_variables r ++ when_alone r)) r.universal all_universal v (in_list r.universal v h)))

    differ : (v : ℕ) → v < length r.vars → (a : Bool) → has r.universal v ≡ a → has r.existential v ≡ not a
    differ v less a is = by a is
      where
        test : differs (has r.universal v) (has r.existential v) ≡ true
        test = below_of (λ v. differs (has r.universal v) (has r.existential v)) (length r.vars) divided v less

        by : (a : Bool) → has r.universal v ≡ a → has r.existential v ≡ not a
        by true is = not_true (has r.existential v) (subst (λ x. differs x (has r.existential v) ≡ true) is test)
        by false is = subst (λ x. differs x (has r.existential v) ≡ true) is test

    -- an existential variable is not universal, and the other way round
    pub existential_is : (v : ℕ) → v < length r.vars → has r.existential v ≡ true → ¬ IsUniversal program rel v
    existential_is v less e u = true≢false (sym e ∙ differ v less true (universal_has v u))

    pub not_universal_has : (v : ℕ) → ¬ IsUniversal program rel v → has r.universal v ≡ false
    not_universal_has v none = by (has r.universal v) refl
      where
        by : (a : Bool) → has r.universal v ≡ a → a ≡ false
        by true is = absurd (none (universal_from v is))
        by false is = refl

    pub existential_has : (v : ℕ) → v < length r.vars → ¬ IsUniversal program rel v → has r.existential v ≡ true
    existential_has v less none = differ v less false (not_universal_has v none)

    pub not_has_universal : (v : ℕ) → has r.universal v ≡ false → ¬ IsUniversal program rel v
    not_has_universal v h u = true≢false (sym (universal_has v u) ∙ h)

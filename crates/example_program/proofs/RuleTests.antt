-- What of a relation that is told plainly belongs to the target, and which variables are known: from the tests.
use Rattle.std.proofs.Common.{◌≡◌, ◌≢◌, ◌<◌, ℕ, zero, suc, Bool, true, false, ◌&&◌, ◌||◌, List, [], ◌∷◌, map, length, Option, None, Some, refl, sym, ap, ◌∙◌, subst, arith, inl, inr, true≢false}
use Rattle.std.specs.Prelude.{◌⊎◌, not, nat_eq, slice_get, Contains}
use Rattle.std.specs.List.{list_all, list_any}
use Rattle.std.proofs.lemmas.Bool.{eqb-true, false≢true}
use Rattle.std.proofs.lemmas.Option.{same_Some, none-some, slice_get_within}
use Rattle.mof_metamodel.specs.declared.desc.ClassId.{ClassId}
use Rattle.mof_metamodel.specs.Characters.{is_storable_text}
use Rattle.mof_metamodel.specs.Metamodels.{class_count, props_of, type_of}
use Rattle.mof_metamodel.proofs.Facts.{first_true, second_true, nothing_in, contains_map, contains_at}
use Rattle.qv_syntax.specs.declared.ty.Ty.{Ty}
use Rattle.qv_syntax.specs.declared.ty.Ty.TheVariants as types
use Rattle.qv_syntax.specs.declared.typed.Typed.{Typed}
use Rattle.qv_syntax.specs.declared.typed.Node.TheVariants as nodes
use Rattle.qv_syntax.specs.declared.program.Program.{Program}
use Rattle.qv_syntax.specs.declared.program.Rel.{Rel}
use Rattle.qv_syntax.specs.declared.program.Var.{Var}
use Rattle.qv_syntax.specs.declared.program.Dom.{Dom}
use Rattle.qv_syntax.specs.declared.program.Tmpl.{Tmpl, out-Tmpl}
use Rattle.qv_syntax.specs.declared.program.Conj.{Conj}
use Rattle.qv_syntax.specs.declared.program.Conj.TheVariants as conjuncts
use Rattle.qv_syntax.specs.Parts.{Names}
use Rattle.qv_syntax.specs.Relations.{IsTargetDomain, IsUniversal, IsDataVariable}
use Rattle.enforcement_rules.specs.declared.standing.Place.{Place}
use Rattle.enforcement_rules.specs.KnownVariables.{NamesOf, IsKnown}
use Rattle.enforcement_rules.specs.TargetParts.{IsObjectVariable, IsTargetVariable, Stands, IsTargetTemplate}
use Rattle.example_program.specs.Words.{text, the_text, prefixed, target_domain, source_domain}
use Rattle.example_program.proofs.Tests.{zero_not_one, all_of, has, in_list, listed, not_true}
use Rattle.example_program.proofs.Plain.{Kind, texts, objects, Pattern, root_of, class_of_pattern, tmpl, Part, a_text, a_word, an_object, parts_in, Spot, standings, Call, Clause, given, called, conjunct_of, Relation, domains_of, rel_of, program_of}
use Rattle.example_program.proofs.ExpressionLaws.{plain_prefixed, names_are}
use Rattle.example_program.proofs.StandingLaws.{IsAmong, standing_is, place_of}
use Rattle.example_program.proofs.PatternLaws.{stands_within}
use Rattle.example_program.proofs.KindLaws.{HasKind, has_kind, IsOfKind, of_kind, var_with, type_of_kind, model_of_kind, text_is_no_class, data_is_text, text_is_data}
use Rattle.example_program.proofs.DomainLaws.{WhichDomain, of_source, of_target, of_prefix, which_domain, target_there}
use Rattle.example_program.proofs.UniversalLaws.{universal_has, universal_from, not_universal_has, not_has_universal, existential_has, names_itself}
use Rattle.example_program.proofs.WellLaws.{IsTested, storable_words, good_whens, where_clause_ok}
use Rattle.example_program.proofs.NumberLaws.{good_target}
use Rattle.example_program.proofs.Checks.{is_kind, is_kind_of, same_kind, gives, is_known, clause_ok, part_ok, desc_of, is_text_type}

some_by : {X : Type 0} (p : X → Bool) (x : X) (xs : List X) (b : Bool) → p x ≡ b → (b || list_any p xs) ≡ true → (list_any p xs ≡ true → (y : X) × Contains xs y × (p y ≡ true))
    → (y : X) × Contains (x ∷ xs) y × (p y ≡ true)
some_by p x xs true is e more = (x, (0, omega arith, refl), is)
some_by p x xs false is e more =
    let found = more e in
    (found.0, (suc found.1.0, (let below = found.1.1 in omega (arith, below)), found.1.2), found.2)

pub some_of : {X : Type 0} (p : X → Bool) (xs : List X) → list_any p xs ≡ true → (x : X) × Contains xs x × (p x ≡ true)
some_of p [] e = absurd (false≢true e)
some_of p (x ∷ xs) e = some_by p x xs (p x) refl e (λ h. some_of p xs h)

pub from_some : {X : Type 0} (p : X → Bool) (xs : List X) (x : X) → Contains xs x → p x ≡ true → list_any p xs ≡ true
from_some p [] x c e = absurd (nothing_in x c)
from_some p (y ∷ ys) x (zero, within, is) e = ap (λ b. b || list_any p ys) (ap p is ∙ e)
from_some p (y ∷ ys) x (suc k, within, is) e = or_true (p y) (list_any p ys) (from_some p ys x (k, omega (arith, within), is) e)
  where
    or_true : (a b : Bool) → b ≡ true → (a || b) ≡ true
    or_true true b e = refl
    or_true false b e = e

pub either : (a b : Bool) → (a || b) ≡ true → (a ≡ true) ⊎ (b ≡ true)
either true b e = inl refl
either false b e = inr e

-- where the first is true, `not` of it or the second says the second
pub then_second : (a b : Bool) → (not a || b) ≡ true → a ≡ true → b ≡ true
then_second true b e is = e
then_second false b e is = absurd (false≢true is)

pub both_true : (a b : Bool) → a ≡ true → b ≡ true → (a && b) ≡ true
both_true a b e f = ap (λ x. x && b) e ∙ f

module _ (rs : List Relation) (r : Relation) (t : IsTested rs r) where
  abbrev pub program : Program
  program = program_of rs

  abbrev pub rel : Rel
  rel = rel_of r

  -- ---- universal variables

  pub is_universal_has : (v : ℕ) → IsUniversal program rel v → has r.universal v ≡ true
  is_universal_has v u = universal_has rs r (storable_words r t.patterns) (good_whens rs r (storable_words r t.patterns) t.clauses) t.universal v u

  pub has_is_universal : (v : ℕ) → has r.universal v ≡ true → IsUniversal program rel v
  has_is_universal v h = universal_from rs r (storable_words r t.patterns) (good_whens rs r (storable_words r t.patterns) t.clauses) t.universal v h

  pub none_universal_has : (v : ℕ) → ¬ IsUniversal program rel v → has r.universal v ≡ false
  none_universal_has v h = not_universal_has rs r (storable_words r t.patterns) (good_whens rs r (storable_words r t.patterns) t.clauses) t.universal v h

  pub has_none_universal : (v : ℕ) → has r.universal v ≡ false → ¬ IsUniversal program rel v
  has_none_universal v h = not_has_universal rs r (storable_words r t.patterns) (good_whens rs r (storable_words r t.patterns) t.clauses) t.universal v h

  pub rest_existential : (v : ℕ) → v < length r.vars → ¬ IsUniversal program rel v → has r.existential v ≡ true
  rest_existential v less none = existential_has rs r (storable_words r t.patterns) (good_whens rs r (storable_words r t.patterns) t.clauses) t.universal v less none

  -- ---- variables of the target

  pub within : (v : ℕ) (var : Var) → slice_get rel.vars v ≡ Some var → v < length r.vars
  within v var found = let k = of_kind r v var found in slice_get_within r.vars v (k.name, k.kind) k.plain

  pub text_not_target : (v : ℕ) → is_kind r v texts ≡ true → ¬ IsTargetVariable program rel v
  text_not_target v e target =
      let h = has_kind r v texts e in
      none-some 1 (ap (λ (x : Var). x.model) (same_Some (var_with h.name texts) target.var (sym h.found ∙ target.found)) ∙ target.target)

  pub source_not_target : (v c : ℕ) → is_kind r v (objects 0 c) ≡ true → ¬ IsTargetVariable program rel v
  source_not_target v c e target =
      let h = has_kind r v (objects 0 c) e in
      zero_not_one (ap (λ (x : Var). x.model) (same_Some (var_with h.name (objects 0 c)) target.var (sym h.found ∙ target.found)) ∙ target.target)

  pub text_not_object : (v : ℕ) → is_kind r v texts ≡ true → ¬ IsObjectVariable rel v
  text_not_object v e o =
      let h = has_kind r v texts e in
      text_is_no_class o.meta o.class (ap (λ (x : Var). x.ty) (same_Some (var_with h.name texts) o.var (sym h.found ∙ o.found)) ∙ o.typed)

  -- ---- templates of the target

  target_by : (dom : Dom) → WhichDomain r dom → dom.model ≡ Some 1 → target_domain (root_of r.to) (tmpl r.to) ≡ dom
  target_by _ of_source e = absurd (zero_not_one e)
  target_by _ of_target e = refl
  target_by _ (of_prefix v c) e = absurd (none-some 1 e)

  pub which_target : (dom : Dom) → IsTargetDomain program rel dom → target_domain (root_of r.to) (tmpl r.to) ≡ dom
  which_target dom d = target_by dom (which_domain r dom d.is) d.target

  pub target_template : (s : Tmpl) (at : Option Place) → IsTargetTemplate program rel s at → IsAmong (standings None r.to) s at
  target_template s at h =
      standing_is r.to s at
      (subst (λ x. Stands x None s at) (sym (same_Some (tmpl r.to) h.root (ap (λ (d : Dom). d.template) (which_target h.dom h.of) ∙ h.has))) h.stands)

  pub template_there : (which : Pattern × Spot) → Contains (standings None r.to) which → IsTargetTemplate program rel (tmpl which.0) (place_of which.1)
  template_there which c = record {
    dom = target_domain (root_of r.to) (tmpl r.to);
    of = record { is = target_there r; target = refl };
    root = tmpl r.to;
    has = refl;
    stands = stands_within r.to which c;
  }

  -- ---- known variables

  one_of_names : (prefix name v : ℕ) → has (prefix ∷ name ∷ []) v ≡ true → (prefix ≡ v) ⊎ (name ≡ v)
  one_of_names prefix name v e = by (in_list (prefix ∷ name ∷ []) v e)
    where
      by : Contains (prefix ∷ name ∷ []) v → (prefix ≡ v) ⊎ (name ≡ v)
      by (zero, below, is) = inl is
      by (suc zero, below, is) = inr is
      by (suc (suc k), below, is) = absurd (omega (arith, below))

  -- the names in a name behind a prefix
  pub prefixed_names : (prefix name v : ℕ) → Names (prefixed prefix name) v → (prefix ≡ v) ⊎ (name ≡ v)
  prefixed_names prefix name v names = one_of_names prefix name v (names_are (prefix ∷ name ∷ []) (prefixed prefix name) (plain_prefixed prefix name) v names)

  known_by : (v : ℕ) (c : Clause) → Contains r.wheres c → gives r v c ≡ true → has r.universal v ≡ false → IsKnown program rel v
  known_by v (called call) there e none = absurd (false≢true e)
  known_by v (given w prefix name) there e none =
      let same : w ≡ v = eqb-true w v (first_true (nat_eq w v) (has r.universal prefix && has r.universal name) e) in
      let both = second_true (nat_eq w v) (has r.universal prefix && has r.universal name) e in
      let clause = where_clause_ok rs r t.clauses (given w prefix name) there in
      let is_text = subst (λ x. is_kind r x texts ≡ true) same (first_true (is_kind r w texts) (is_kind r prefix texts) (first_true (is_kind r w texts && is_kind r prefix texts) (is_kind r name texts) clause)) in
      IsKnown.determined v (prefixed prefix name) (has_none_universal v none) (text_is_data r v is_text)
      (subst (λ x. Contains rel.wheres (conjuncts.Equation x (prefixed prefix name))) same (contains_map conjunct_of r.wheres (given w prefix name) there))
      (λ u names. elim (prefixed_names prefix name u names.names) [
        | inl is ↦ IsKnown.universal u (has_is_universal u (subst (λ x. has r.universal x ≡ true) is (first_true (has r.universal prefix) (has r.universal name) both)))
        | inr is ↦ IsKnown.universal u (has_is_universal u (subst (λ x. has r.universal x ≡ true) is (second_true (has r.universal prefix) (has r.universal name) both)))
      ])

  pub known_is : (v : ℕ) → is_known r v ≡ true → IsKnown program rel v
  known_is v e = by (has r.universal v) refl
    where
      by : (b : Bool) → has r.universal v ≡ b → IsKnown program rel v
      by true is = IsKnown.universal v (has_is_universal v is)
      by false is =
          let c = some_of (gives r v) r.wheres (ap (λ b. b || list_any (gives r v) r.wheres) (sym is) ∙ e) in
          known_by v c.0 c.1 c.2 is

  -- a word of a target template is storable
  pub word_storable : (which : Pattern × Spot) (prop : ℕ) (word : List ℕ) → Contains (standings None r.to) which → Contains (parts_in which.0) (a_word prop word) → is_storable_text word ≡ true
  word_storable which prop word among part =
      second_true (has (props_of (desc_of 1) (class_of_pattern which.0)) prop && is_text_type (type_of (desc_of 1) prop)) (is_storable_text word) ((good_target r t.patterns which among).parts (a_word prop word) part)

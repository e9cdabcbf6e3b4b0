-- The rules by which variables are known give what is known, in a relation as a transformation means it; and E11.
use Rattle.std.proofs.Common.{◌≡◌, ◌<◌, ℕ, Result, Ok, Err, Vec, Global, List, [], Bool, true, Option, None, Some, refl, sym, ap, ◌∙◌, subst, length, map, inl, inr, true≢false}
use Rattle.std.specs.Prelude.{Contains, ◌↔◌, IsTrue, IfOk, not, slice_get}
use Rattle.std.specs.List.{flat_map}
use Rattle.std.proofs.lemmas.Option.{slice_get_within}
use Rattle.std.proofs.lemmas.List.Elements.{Contains-append_left, Contains-append_right, Contains-append_cases}
use Rattle.mof_metamodel.specs.declared.desc.MetaDesc.{MetaDesc}
use Rattle.mof_metamodel.proofs.PropLemmas.{to_flat_map, from_flat_map}
use Rattle.qv_syntax.specs.declared.typed.Typed.{Typed}
use Rattle.qv_syntax.specs.declared.program.Program.{Program}
use Rattle.qv_syntax.specs.declared.program.Rel.{Rel}
use Rattle.qv_syntax.specs.declared.program.Var.{Var}
use Rattle.qv_syntax.specs.declared.program.Conj.{Conj}
use Rattle.qv_syntax.specs.declared.program.Conj.TheVariants as conjuncts
use Rattle.qv_syntax.specs.Relations.{IsUniversal, IsDataVariable}
use Rattle.qv_syntax.specs.Directions.{IsMeant}
use Rattle.qv_syntax.specs.ProgramNumbers.{AreVariablesInRange}
use Rattle.enforcement_rules.specs.Derivations.{NumberRule, IsDerivedNumber, IsRuleBelow}
use Rattle.enforcement_rules.specs.KnownVariables.{IsKnown, HasUndeterminedData}
use Rattle.enforcement_rules.specs.KnownTests.{IsKnownTable, universal_rule, equation_rules, known_rules, is_marked, is_undetermined, has_undetermined}
use Rattle.enforcement_rules.specs.Mentions.{variables_of}
use Rattle.enforcement_rules.specs.TargetTests.{is_data, is_data_variable, has_class}
use Rattle.enforcement_rules.proofs.ClassLaws.{there_class, no_class}
use Rattle.enforcement_rules.proofs.ListLaws.{first_in, nothing_in, only_in, within_some, among_some, mapped_in, mapped_from, any_there, any_here, and_first, and_second, and_both, not_true, not_false, false_unless}
use Rattle.enforcement_rules.proofs.VariableLaws.{names_listed, listed_names}

-- ---- data variables

data_there : (rel : Rel) (v : ℕ) → IsDataVariable rel v → is_data_variable rel v ≡ true
data_there rel v d = ap is_data d.found ∙ not_false (has_class d.var.ty) (false_unless (has_class d.var.ty) (λ h. let c = there_class d.var.ty h in d.data_type c.0 c.1 c.2))

there_data : (rel : Rel) (v : ℕ) → is_data_variable rel v ≡ true → IsDataVariable rel v
there_data rel v is = by (slice_get rel.vars v) refl is
  where
    by : (o : Option Var) → slice_get rel.vars v ≡ o → is_data o ≡ true → IsDataVariable rel v
    by None found h = absurd (true≢false (sym h))
    by (Some var) found h = record { var = var; found = found; data_type = no_class var.ty (not_true (has_class var.ty) h) }

module _ (metas : List MetaDesc) (program : Program) (number : ℕ) (rel : Rel) (meant : IsMeant program number rel) (range : AreVariablesInRange metas program rel) where
  -- ---- universal variables by their list

  pub listed_universal : (v : ℕ) → Contains rel.universal v → IsUniversal program rel v
  listed_universal v among =
      let found = within_some rel.vars v (range.universal v among) in
      (meant.variables.universal v found.0 found.1).0 among

  pub universal_listed : (v : ℕ) → v < length rel.vars → IsUniversal program rel v → Contains rel.universal v
  universal_listed v below is =
      let found = within_some rel.vars v below in
      (meant.variables.universal v found.0 found.1).1 is

  pub listed_existential : (v : ℕ) → Contains rel.existential v → ¬ IsUniversal program rel v
  listed_existential v among =
      let found = within_some rel.vars v (range.existential v among) in
      (meant.variables.existential v found.0 found.1).0 among

  pub existential_listed : (v : ℕ) → v < length rel.vars → ¬ IsUniversal program rel v → Contains rel.existential v
  existential_listed v below is =
      let found = within_some rel.vars v below in
      (meant.variables.existential v found.0 found.1).1 is

  -- ---- the rules

  same_pair : (v n : ℕ) (xs ys : List ℕ) (P : ℕ → List ℕ → Type 0) → ◌≡◌ {A = NumberRule} (v, xs) (n, ys) → P v xs → P n ys
  same_pair v n xs ys P e h = subst (λ (r : NumberRule). P r.0 r.1) e h

  -- a rule is that of a universal variable, or of an equation in where
  module _ (P : ℕ → List ℕ → Type 0) (universal : (v : ℕ) → Contains rel.universal v → P v [])
      (equation : (v : ℕ) (e : Typed) → Contains rel.wheres (conjuncts.Equation v e) → P v (variables_of (length rel.vars) e)) where
    of_conjunct : (c : Conj) (n : ℕ) (asked : List ℕ) → Contains rel.wheres c → Contains (equation_rules (length rel.vars) c) (n, asked) → P n asked
    of_conjunct (conjuncts.Cond e) n asked among h = absurd (nothing_in {X = NumberRule} (n, asked) h)
    of_conjunct (conjuncts.Equation v e) n asked among h =
        same_pair v n (variables_of (length rel.vars) e) asked P (only_in {X = NumberRule} (v, variables_of (length rel.vars) e) (n, asked) h) (equation v e among)
    of_conjunct (conjuncts.Call r args) n asked among h = absurd (nothing_in {X = NumberRule} (n, asked) h)

    pub of_rule : (n : ℕ) (asked : List ℕ) → Contains (known_rules rel) (n, asked) → P n asked
    of_rule n asked among = elim (Contains-append_cases (map universal_rule rel.universal) (flat_map (equation_rules (length rel.vars)) rel.wheres) (n, asked) among) [
      | inl here ↦ (let u = mapped_from universal_rule rel.universal (n, asked) here in same_pair u.0 n [] asked P u.2 (universal u.0 u.1))
      | inr there ↦ (let c = from_flat_map (equation_rules (length rel.vars)) rel.wheres (n, asked) there in of_conjunct c.0 n asked c.1 c.2)
    ]

  pub rules_below : (rule : NumberRule) → Contains (known_rules rel) rule → IsRuleBelow (length rel.vars) rule
  rules_below rule among = of_rule (λ n asked. IsRuleBelow (length rel.vars) (n, asked))
      (λ v u. (range.universal v u, λ w none. absurd (nothing_in w none)))
      (λ v e c. (
        let at = among_some rel.wheres (conjuncts.Equation v e) c in
            let d = (meant.wheres.are at.0 v e at.1).0 in slice_get_within rel.vars v d.var d.found,
        λ w names. (listed_names rel e w names).own,
      ))
      rule.0 rule.1 among

  -- ---- what is known is derived, and the reverse

  pub known_derived : (v : ℕ) → v < length rel.vars → IsKnown program rel v → IsDerivedNumber (known_rules rel) v
  known_derived v below (IsKnown.universal _ u) =
      IsDerivedNumber.by v []
      (Contains-append_left (map universal_rule rel.universal) (flat_map (equation_rules (length rel.vars)) rel.wheres) (v, []) (mapped_in universal_rule rel.universal v (universal_listed v below u)))
      (λ w none. absurd (nothing_in w none))
  known_derived v below (IsKnown.determined _ e other d c all) =
      IsDerivedNumber.by v (variables_of (length rel.vars) e)
      (Contains-append_right (map universal_rule rel.universal) (flat_map (equation_rules (length rel.vars)) rel.wheres) (v, variables_of (length rel.vars) e)
      (to_flat_map (equation_rules (length rel.vars)) rel.wheres (conjuncts.Equation v e) (v, variables_of (length rel.vars) e) c
      (first_in {X = NumberRule} (v, variables_of (length rel.vars) e) (v, variables_of (length rel.vars) e) [] refl)))
      (λ w among. known_derived w (listed_names rel e w among).own (all w (listed_names rel e w among)))

  by_rule : (n : ℕ) (asked : List ℕ) → Contains (known_rules rel) (n, asked) → ((w : ℕ) → Contains asked w → IsKnown program rel w) → IsKnown program rel n
  by_rule n asked among = of_rule (λ n asked. ((w : ℕ) → Contains asked w → IsKnown program rel w) → IsKnown program rel n)
      (λ v u all. IsKnown.universal v (listed_universal v u))
      (λ v e c all. let at = among_some rel.wheres (conjuncts.Equation v e) c in
      let are = meant.wheres.are at.0 v e at.1 in
      IsKnown.determined v e are.1 are.0 c (λ w names. all w (names_listed rel e w names)))
      n asked among

  pub derived_known : (v : ℕ) → IsDerivedNumber (known_rules rel) v → IsKnown program rel v
  derived_known v (IsDerivedNumber.by _ asked among all) = by_rule v asked among (λ w h. derived_known w (all w h))

  pub known_table : (known : List Bool) → ((v : ℕ) → (is_marked known v ≡ true) ↔ IsDerivedNumber (known_rules rel) v) → IsKnownTable program rel known
  known_table known exact = record { sound = λ v h. derived_known v ((exact v).0 h); complete = λ v below h. (exact v).1 (known_derived v below h) }

  pub known_below : (rules : List NumberRule) (count : ℕ) → rules ≡ known_rules rel → count ≡ length rel.vars → (rule : NumberRule) → Contains rules rule → IsRuleBelow count rule
  known_below rules count is long rule among = subst (λ (n : ℕ). IsRuleBelow n rule) (sym long) (rules_below rule (subst (λ (rs : List NumberRule). Contains rs rule) is among))

  pub known_told : {E : Type 0} (rules : List NumberRule) → rules ≡ known_rules rel → (r : Result (Vec Bool Global) E)
      → IfOk r (λ known. (v : ℕ) → (is_marked known.items v ≡ true) ↔ IsDerivedNumber rules v) → IfOk r (λ known. IsKnownTable program rel known.items)
  known_told rules is (Ok known) h = known_table known.items (λ v. subst (λ (rs : List NumberRule). (is_marked known.items v ≡ true) ↔ IsDerivedNumber rs v) is (h v))
  known_told rules is (Err e) h = tt

  -- ---- E11

  module _ (known : List Bool) (table : IsKnownTable program rel known) where
    undetermined_there : has_undetermined rel known ≡ true → HasUndeterminedData program rel
    undetermined_there h =
        let found = any_there (is_undetermined rel known) rel.existential h in
        let v = found.0 in
        let d = there_data rel v (and_first (is_data_variable rel v) (not (is_marked known v)) found.2) in
        let unmarked = not_true (is_marked known v) (and_second (is_data_variable rel v) (not (is_marked known v)) found.2) in
        record {
          v = v;
          data_variable = d;
          existential = listed_existential v found.1;
          unknown = λ k. true≢false (sym (table.complete v (slice_get_within rel.vars v d.var d.found) k) ∙ unmarked);
        }

    there_undetermined : HasUndeterminedData program rel → has_undetermined rel known ≡ true
    there_undetermined u =
        let d = u.data_variable in
        any_here (is_undetermined rel known) rel.existential u.v (existential_listed u.v (slice_get_within rel.vars u.v d.var d.found) u.existential)
        (and_both (is_data_variable rel u.v) (not (is_marked known u.v)) (data_there rel u.v d)
        (not_false (is_marked known u.v) (false_unless (is_marked known u.v) (λ h. u.unknown (table.sound u.v h)))))

    pub undetermined_told : (b : Bool) → b ≡ has_undetermined rel known → IsTrue b ↔ HasUndeterminedData program rel
    undetermined_told b is = (λ h. undetermined_there (sym is ∙ h), λ u. is ∙ there_undetermined u)

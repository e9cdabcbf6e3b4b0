-- E5 to E8: the keys of the target's classes, by the tests.
use Rattle.std.proofs.Common.{◌≡◌, ◌≢◌, ◌<◌, ℕ, zero, suc, Bool, true, false, ◌&&◌, ◌||◌, List, [], ◌∷◌, ◌++◌, map, length, Option, None, Some, refl, sym, ap, ◌∙◌, subst, arith, inl, inr, true≢false}
use Rattle.std.specs.Prelude.{◌⊎◌, not, nat_eq, nat_lt, slice_get, Contains}
use Rattle.std.specs.List.{list_all, list_any, flat_map}
use Rattle.std.specs.Option.{option_map}
use Rattle.std.proofs.lemmas.Bool.{eqb-true, ltb-true, eq-eqb, false≢true}
use Rattle.std.proofs.lemmas.Option.{same_Some, none-some}
use Rattle.std.proofs.lemmas.List.Elements.{Contains-append_left, Contains-append_right}
use Rattle.mof_metamodel.specs.declared.desc.ClassId.{ClassId}
use Rattle.mof_metamodel.specs.declared.desc.PropId.{PropId}
use Rattle.mof_metamodel.specs.Characters.{is_storable_text}
use Rattle.mof_metamodel.specs.Metamodels.{supers_of, prop_at, opposite_of, IsPath, Conforms}
use Rattle.mof_metamodel.proofs.Facts.{first_true, second_true, nothing_in, only_one, contains_at}
use Rattle.mof_metamodel.proofs.PropLemmas.{to_flat_map}
use Rattle.qv_syntax.specs.declared.typed.Typed.{Typed}
use Rattle.qv_syntax.specs.declared.program.Program.{Program}
use Rattle.qv_syntax.specs.declared.program.Key.{Key}
use Rattle.qv_syntax.specs.declared.program.Rel.{Rel}
use Rattle.qv_syntax.specs.declared.program.Tmpl.{Tmpl, out-Tmpl}
use Rattle.qv_syntax.specs.declared.program.Item.{Item}
use Rattle.qv_syntax.specs.declared.program.ItemValue.{ItemValue}
use Rattle.qv_syntax.specs.declared.program.ItemValue.TheVariants as items
use Rattle.qv_syntax.specs.Parts.{Names, HasItem}
use Rattle.qv_syntax.specs.TypeRules.{is_single}
use Rattle.qv_syntax.specs.Relations.{IsUniversal}
use Rattle.enforcement_rules.specs.declared.standing.Place.{Place}
use Rattle.enforcement_rules.specs.Keys.{IsKeyOf, IsOpposite, IsGiven, IsKeyed, HasUnkeyedTemplate, HasManyValuedKey, HasTwoKeys, IsFirstItem, HasVariable, IsInKeyValue, DependsOn, DependsThrough, HasKeyCycle}
use Rattle.enforcement_rules.specs.TargetParts.{IsTargetTemplate, IsMade}
use Rattle.example_models.specs.RdbTable.{rdb_desc}
use Rattle.example_program.specs.Words.{text, the_text, key_of}
use Rattle.example_program.specs.MainProgram.{main_keys}
use Rattle.example_program.proofs.Tests.{all_of, each_of, each_of_none, image_of, has, in_list, not_true}
use Rattle.example_program.proofs.Plain.{Pattern, root_of, class_of_pattern, tmpl, Part, a_text, a_word, an_object, item_of, parts_in, Spot, standings, Relation, rel_of, program_of}
use Rattle.example_program.proofs.ExpressionLaws.{plain_text, names_are}
use Rattle.example_program.proofs.StandingLaws.{same_expr, same_nested, expr_not_nested, variable_is, class_is, IsAmong, place_of}
use Rattle.example_program.proofs.PatternLaws.{item_is, has_part}
use Rattle.example_program.proofs.KindLaws.{metas}
use Rattle.example_program.proofs.UniversalLaws.{names_itself}
use Rattle.example_program.proofs.NumberLaws.{prop_is}
use Rattle.example_program.proofs.WellLaws.{IsTested}
use Rattle.example_program.proofs.RuleTests.{some_of, from_some, either, then_second, both_true, none_universal_has, target_template, word_storable}
use Rattle.example_program.proofs.Checks.{is_inner, is_made, key_props, part_prop, is_number, is_opposite, is_keyed, part_variables, around, variables_at, makes}

-- ---- the keys

key_there : (c : ℕ) → 0 < c → c < 4 → Contains main_keys (key_of c (key_props c))
key_there zero some few = absurd (omega (arith, some))
key_there (suc zero) some few = (0, omega arith, refl)
key_there (suc (suc zero)) some few = (1, omega arith, refl)
key_there (suc (suc (suc zero))) some few = (2, omega arith, refl)
key_there (suc (suc (suc (suc c)))) some few = absurd (omega (arith, few))

-- what holds of each of the three keys holds of a key
each_key : (P : Key → Type 0) → P (key_of 1 (0 ∷ [])) → P (key_of 2 (2 ∷ 0 ∷ [])) → P (key_of 3 (6 ∷ 0 ∷ [])) → (key : Key) → Contains main_keys key → P key
each_key P a b c = each_of P (key_of 1 (0 ∷ [])) (key_of 2 (2 ∷ 0 ∷ []) ∷ key_of 3 (6 ∷ 0 ∷ []) ∷ []) a (each_of P (key_of 2 (2 ∷ 0 ∷ [])) (key_of 3 (6 ∷ 0 ∷ []) ∷ []) b (each_of P (key_of 3 (6 ∷ 0 ∷ [])) [] c (each_of_none P)))

two_single : (p q : ℕ) → is_single (prop_at rdb_desc p).upper ≡ true → is_single (prop_at rdb_desc q).upper ≡ true
    → (prop : PropId) → Contains (record { 0 = p } ∷ record { 0 = q } ∷ []) prop → is_single (prop_at rdb_desc prop.0).upper ≡ true
two_single p q e f =
    each_of (λ (q : PropId). is_single (prop_at rdb_desc q.0).upper ≡ true) (record { 0 = p }) (record { 0 = q } ∷ []) e
    (each_of (λ (q : PropId). is_single (prop_at rdb_desc q.0).upper ≡ true) (record { 0 = q }) [] f (each_of_none (λ (q : PropId). is_single (prop_at rdb_desc q.0).upper ≡ true)))

single_props : (key : Key) → Contains main_keys key → (prop : PropId) → Contains key.props prop → is_single (prop_at rdb_desc prop.0).upper ≡ true
single_props =
    each_key (λ key. (prop : PropId) → Contains key.props prop → is_single (prop_at rdb_desc prop.0).upper ≡ true)
    (each_of (λ (q : PropId). is_single (prop_at rdb_desc q.0).upper ≡ true) (record { 0 = 0 }) [] refl (each_of_none (λ (q : PropId). is_single (prop_at rdb_desc q.0).upper ≡ true)))
    (two_single 2 0 refl refl) (two_single 6 0 refl refl)

positive_class : (key : Key) → Contains main_keys key → 0 < key.class.0
positive_class = each_key (λ key. 0 < key.class.0) (omega arith) (omega arith) (omega arith)

-- ---- E7

-- each superclass is Named
super_is_named : (c e : ℕ) → Contains (supers_of rdb_desc c) e → e ≡ 0
super_is_named zero e c = absurd (nothing_in e c)
super_is_named (suc zero) e c = sym (only_one 0 e c)
super_is_named (suc (suc zero)) e c = sym (only_one 0 e c)
super_is_named (suc (suc (suc zero))) e c = sym (only_one 0 e c)
super_is_named (suc (suc (suc (suc zero)))) e c = absurd (nothing_in e c)
super_is_named (suc (suc (suc (suc (suc zero))))) e c = sym (only_one 0 e c)
super_is_named (suc (suc (suc (suc (suc (suc zero)))))) e c = sym (only_one 0 e c)
super_is_named (suc (suc (suc (suc (suc (suc (suc n))))))) e c = absurd (nothing_in e c)

named_alone : (path : List ℕ) (d : ℕ) → IsPath rdb_desc 0 path d → 0 ≡ d
named_alone [] d e = e
named_alone (e ∷ path) d h = absurd (nothing_in e h.0)

-- a class that conforms to one with a number above 0 is that one
only_itself : (c d : ℕ) (path : List ℕ) → IsPath rdb_desc c path d → 0 < d → c ≡ d
only_itself c d [] e some = e
only_itself c d (e ∷ path) h some =
    let zero_is : 0 ≡ d = named_alone path d (subst (λ x. IsPath rdb_desc x path d) (super_is_named c e h.0) h.1) in
    absurd (omega (arith, zero_is, some))

module _ (rs : List Relation) where
  keyed_class : (class : ClassId) (key : Key) → IsKeyOf (program_of rs) class key → 0 < class.0
  keyed_class class key h = subst (λ (c : ClassId). 0 < c.0) h.of (positive_class key h.among)

  pub one_key_each : ¬ HasTwoKeys metas (program_of rs)
  one_key_each h =
      let a : h.class ≡ h.first.0 = only_itself h.class h.first.0 h.first_conforms.0 h.first_conforms.1 (keyed_class h.first h.first_key h.first_is) in
      let b : h.class ≡ h.second.0 = only_itself h.class h.second.0 h.second_conforms.0 h.second_conforms.1 (keyed_class h.second h.second_key h.second_is) in
      h.two (ap (λ n. let c : ClassId = record { 0 = n } in c) (sym a ∙ b))

module _ (rs : List Relation) (r : Relation) (t : IsTested rs r) where
  abbrev program : Program
  program = program_of rs

  abbrev rel : Rel
  rel = rel_of r

  -- ---- a template whose objects are made

  inner_or_top : (which : Pattern × Spot) (at : Option Place) → place_of which.1 ≡ at → (at ≡ None → r.top ≡ true) → (is_inner which.1 || r.top) ≡ true
  inner_or_top (p, None) at e own = own (sym e)
  inner_or_top (p, Some s) at e own = refl

  made_which : (s : Tmpl) (at : Option Place) (h : IsMade program rel s at) → is_made r (target_template rs r t s at h.is).which ≡ true
  made_which s at h =
      let w = target_template rs r t s at h.is in
      let var : (out-Tmpl s).var ≡ root_of w.which.0 = ap (λ x. (out-Tmpl x).var) (sym w.is) ∙ variable_is w.which.0 in
      both_true (not (has r.universal (root_of w.which.0))) (is_inner w.which.1 || r.top)
      (ap not (none_universal_has rs r t (root_of w.which.0) (λ u. h.existential (subst (IsUniversal program rel) (sym var) u)))) (inner_or_top w.which at w.place h.own)

  -- ---- E5

  opposite_by : (spot : Spot) (n : ℕ) (at : Option Place) → place_of spot ≡ at → is_opposite spot n ≡ true → IsOpposite rdb_desc at (record { 0 = n })
  opposite_by None n at e opposite = absurd (false≢true opposite)
  opposite_by (Some s) n at e opposite = record {
    place = record { parent = s.0; prop = record { 0 = s.1 } };
    is = sym e;
    opposite = number_is (opposite_of rdb_desc s.1) n opposite;
  }
    where
      number_is : (o : Option ℕ) (n : ℕ) → is_number o n ≡ true → o ≡ Some n
      number_is None n h = absurd (false≢true h)
      number_is (Some m) n h = ap (λ x. Some x) (eqb-true m n h)

  given_by : (which : Pattern × Spot) (at : Option Place) → place_of which.1 ≡ at → (n : ℕ) → (has (map part_prop (parts_in which.0)) n || is_opposite which.1 n) ≡ true
      → IsGiven rdb_desc (tmpl which.0) at (record { 0 = n })
  given_by which at e n h =
      elim (either (has (map part_prop (parts_in which.0)) n) (is_opposite which.1 n) h) [
        | inl item ↦
            let part = image_of part_prop (parts_in which.0) n (in_list (map part_prop (parts_in which.0)) n item) in
            IsGiven.by_item (item_of part.0) (has_part which.0 part.0 part.1) (ap (λ m. let p : PropId = record { 0 = m } in p) (prop_is part.0 ∙ part.2))
        | inr opposite ↦ IsGiven.by_parent (opposite_by which.1 n at e opposite)
      ]

  keyed_by : (which : Pattern × Spot) (at : Option Place) → place_of which.1 ≡ at → is_keyed which ≡ true → IsKeyed metas program (tmpl which.0) at
  keyed_by which at e h =
      let c = class_of_pattern which.0 in
      let range = first_true (nat_lt 0 c && nat_lt c 4) (list_all (λ n. has (map part_prop (parts_in which.0)) n || is_opposite which.1 n) (key_props c)) h in
      let all = second_true (nat_lt 0 c && nat_lt c 4) (list_all (λ n. has (map part_prop (parts_in which.0)) n || is_opposite which.1 n) (key_props c)) h in
      record {
        key = key_of c (key_props c);
        is = record { among = key_there c (ltb-true 0 c (first_true (nat_lt 0 c) (nat_lt c 4) range)) (ltb-true c 4 (second_true (nat_lt 0 c) (nat_lt c 4) range)); meta = refl; of = sym (class_is which.0) };
        given = λ prop among.
            let n = image_of (λ m. let p : PropId = record { 0 = m } in p) (key_props c) prop among in
            subst (IsGiven rdb_desc (tmpl which.0) at) n.2 (given_by which at e n.0 (all_of (λ m. has (map part_prop (parts_in which.0)) m || is_opposite which.1 m) (key_props c) all n.0 n.1));
      }

  pub all_keyed : ¬ HasUnkeyedTemplate metas program rel
  all_keyed h =
      let w = target_template rs r t h.t h.at h.made.is in
      let ok = then_second (is_made r w.which) (is_keyed w.which) (all_of (λ (x : Pattern × Spot). not (is_made r x) || is_keyed x) (standings None r.to) t.keyed w.which w.among) (made_which h.t h.at h.made) in
      h.unkeyed (subst (λ x. IsKeyed metas program x h.at) w.is (keyed_by w.which h.at w.place ok))

  -- ---- E6

  pub single_keys : ¬ HasManyValuedKey metas program rel
  single_keys h = true≢false (sym (single_props h.key h.is.among h.prop h.among) ∙ h.many)

  -- ---- E8

  variable_of_part : (which : Pattern × Spot) → Contains (standings None r.to) which → (part : Part) → Contains (parts_in which.0) part → (w : ℕ) → HasVariable rel (item_of part).value w → Contains (part_variables part) w
  variable_of_part which among (a_text prop v) c w (HasVariable.expression e is names) = (0, omega arith, names_itself v w (subst (λ x. Names x w) (sym (same_expr (the_text v) e is)) names.names))
  variable_of_part which among (a_text prop v) c w (HasVariable.nested q is root) = absurd (expr_not_nested (the_text v) q is)
  variable_of_part which among (a_word prop word) c w (HasVariable.expression e is names) =
      absurd (false≢true (names_are [] (text word) (plain_text [] word (word_storable rs r t which prop word among c)) w (subst (λ x. Names x w) (sym (same_expr (text word) e is)) names.names)))
  variable_of_part which among (a_word prop word) c w (HasVariable.nested q is root) = absurd (expr_not_nested (text word) q is)
  variable_of_part which among (an_object prop p) c w (HasVariable.expression e is names) = absurd (expr_not_nested e (tmpl p) (sym is))
  variable_of_part which among (an_object prop p) c w (HasVariable.nested q is root) =
      (0, omega arith, sym (variable_is p) ∙ ap (λ x. (out-Tmpl x).var) (same_nested (tmpl p) q is) ∙ root)

  parent_in : (spot : Spot) (at : Option Place) (place : Place) → place_of spot ≡ at → at ≡ Some place → Contains (around spot) place.parent
  parent_in None at place e f = absurd (none-some place (e ∙ f))
  parent_in (Some s) at place e f = (0, omega arith, ap (λ (p : Place). p.parent) (same_Some (let p : Place = record { parent = s.0; prop = record { 0 = s.1 } } in p) place (e ∙ f)))

  key_variable : (which : Pattern × Spot) → Contains (standings None r.to) which → (s : Tmpl) (at : Option Place) → tmpl which.0 ≡ s → place_of which.1 ≡ at → (prop : PropId) (w : ℕ)
      → IsInKeyValue rdb_desc rel s at prop w → Contains (variables_at which) w
  key_variable which among s at is place prop w (IsInKeyValue.by_item item first value) =
      let part = item_is which.0 item (subst (λ x. HasItem x item) (sym is) (contains_at (out-Tmpl s).items first.place item first.found)) in
      Contains-append_left (flat_map part_variables (parts_in which.0)) (around which.1) w
      (to_flat_map part_variables (parts_in which.0) part.0 w part.1 (variable_of_part which among part.0 part.1 w (subst (λ (i : Item). HasVariable rel i.value w) (sym part.2) value)))
  key_variable which among s at is place prop w (IsInKeyValue.by_parent none o parent) =
      Contains-append_right (flat_map part_variables (parts_in which.0)) (around which.1) w (subst (Contains (around which.1)) parent (parent_in which.1 at o.place place o.is))

  depends : (v w : ℕ) → DependsOn metas program rel v w → (makes r v ≡ true) × (makes r w ≡ false)
  depends v w d =
      let x = target_template rs r t d.t d.at d.made.is in
      let made = made_which d.t d.at d.made in
      let root : root_of x.which.0 ≡ v = sym (variable_is x.which.0) ∙ ap (λ s. (out-Tmpl s).var) x.is ∙ d.var in
      let apart = then_second (is_made r x.which) (list_all (λ u. not (makes r u)) (variables_at x.which))
      (all_of (λ (y : Pattern × Spot). not (is_made r y) || list_all (λ u. not (makes r u)) (variables_at y)) (standings None r.to) t.apart x.which x.among) made in (
        from_some (λ (y : Pattern × Spot). is_made r y && nat_eq (root_of y.0) v) (standings None r.to) x.which x.among (both_true (is_made r x.which) (nat_eq (root_of x.which.0) v) made (eq-eqb (root_of x.which.0) v root)),
        not_true (makes r w) (all_of (λ u. not (makes r u)) (variables_at x.which) apart w (key_variable x.which x.among d.t d.at x.is x.place d.prop w d.stands)),
      )

  depends_through : (v w : ℕ) → DependsThrough metas program rel v w → (makes r v ≡ true) × (makes r w ≡ false)
  depends_through _ _ (DependsThrough.direct v w d) = depends v w d
  depends_through _ _ (DependsThrough.more v w u d more) = absurd (true≢false (sym (depends_through w u more).0 ∙ (depends v w d).1))

  pub no_key_cycle : ¬ HasKeyCycle metas program rel
  no_key_cycle h = let c = depends_through h.v h.v h.cycle in true≢false (sym c.0 ∙ c.1)

-- A program that is told plainly is well formed, where the tests of its relations hold and each stratum is reached.
use Rattle.std.proofs.Common.{◌≡◌, ◌≢◌, ◌<◌, ℕ, zero, suc, Bool, true, false, ◌&&◌, List, [], ◌∷◌, length, Option, None, Some, refl, sym, ap, ◌∙◌, subst, arith}
use Rattle.std.proofs.lemmas.Bool.{false≢true}
use Rattle.std.specs.Prelude.{slice_get, Contains, AllPairs}
use Rattle.std.specs.List.{list_all}
use Rattle.std.proofs.lemmas.Option.{none-some}
use Rattle.mof_metamodel.specs.declared.desc.ClassId.{ClassId}
use Rattle.mof_metamodel.specs.declared.desc.PropId.{PropId}
use Rattle.mof_metamodel.specs.Characters.{is_storable_text}
use Rattle.mof_metamodel.specs.Metamodels.{class_count, props_of, type_of}
use Rattle.mof_metamodel.proofs.Facts.{first_true, second_true, nothing_in, contains_at}
use Rattle.qv_syntax.specs.declared.program.Key.{Key}
use Rattle.qv_syntax.specs.declared.program.Rel.{Rel}
use Rattle.qv_syntax.specs.Directions.{IsMeant, AreMeant}
use Rattle.qv_syntax.specs.Keys.{IsKey, AreOfTwoClasses, AreKeys}
use Rattle.qv_syntax.specs.QueryCalls.{Reaches}
use Rattle.qv_syntax.specs.Relations.{IsCallPath}
use Rattle.qv_syntax.specs.WellFormed.{IsWellFormed}
use Rattle.example_models.specs.RdbTable.{rdb_desc}
use Rattle.example_program.specs.Words.{key_of}
use Rattle.example_program.specs.MainProgram.{main_keys}
use Rattle.example_program.proofs.Tests.{all_of, each_of, each_of_none, image_at, has, in_list, all_pairs_cons}
use Rattle.example_program.proofs.Plain.{Kind, texts, Pattern, class_of_pattern, Part, a_word, parts_in, Spot, standings, Argument, object_argument, text_argument, word_argument, prefixed_argument, Call, Clause, Relation, rel_of, program_of}
use Rattle.example_program.proofs.ExpressionLaws.{is_good}
use Rattle.example_program.proofs.KindLaws.{metas, class_in}
use Rattle.example_program.proofs.UniversalLaws.{AreStorable, AreGood}
use Rattle.example_program.proofs.MeaningLaws.{domains_meant, variables_meant, whens_meant, wheres_meant, calls_meant, towards_target, stratum_meant}
use Rattle.example_program.proofs.NumberLaws.{relation_in_range, numbers_in_range, good_source}
use Rattle.example_program.proofs.TypeLaws.{relation_typed, expressions_typed}
use Rattle.example_program.proofs.Checks.{desc_of, is_text_type, is_kind, same_kind, argument_ok, argument_for, arguments_ok, domain_roots, call_to, vars_ok, patterns_ok, roots_ok, prefix_ok, call_ok, clause_ok, clauses_ok, universal_ok, order_ok, bound_ok, equations_ok, strata_ok, keyed_ok, apart_ok, known_ok, objects_ok, when_ok, all_ok}

-- ---- the tests of a relation, one by one

pub record IsTested (rs : List Relation) (r : Relation) : Type 0 where
  pub vars : vars_ok r ≡ true
  pub patterns : patterns_ok r ≡ true
  pub roots : roots_ok r ≡ true
  pub prefix : prefix_ok r ≡ true
  pub clauses : clauses_ok rs r ≡ true
  pub universal : universal_ok r ≡ true
  pub order : order_ok r ≡ true
  pub bound : bound_ok r ≡ true
  pub equations : equations_ok r ≡ true
  pub strata : strata_ok rs r ≡ true
  pub keyed : keyed_ok r ≡ true
  pub apart : apart_ok r ≡ true
  pub known : known_ok r ≡ true
  pub objects : objects_ok r ≡ true
  pub when : when_ok rs r ≡ true

pub tested : (rs : List Relation) (r : Relation) → all_ok rs r ≡ true → IsTested rs r
tested rs r e =
    let h0 = second_true (vars_ok r) (patterns_ok r && (roots_ok r && (prefix_ok r && (clauses_ok rs r && (universal_ok r && (order_ok r && (bound_ok r && (equations_ok r && (strata_ok rs r && (keyed_ok r && (apart_ok r && (known_ok r && (objects_ok r && (when_ok rs r)))))))))))))) e in
    let h1 = second_true (patterns_ok r) (roots_ok r && (prefix_ok r && (clauses_ok rs r && (universal_ok r && (order_ok r && (bound_ok r && (equations_ok r && (strata_ok rs r && (keyed_ok r && (apart_ok r && (known_ok r && (objects_ok r && (when_ok rs r))))))))))))) h0 in
    let h2 = second_true (roots_ok r) (prefix_ok r && (clauses_ok rs r && (universal_ok r && (order_ok r && (bound_ok r && (equations_ok r && (strata_ok rs r && (keyed_ok r && (apart_ok r && (known_ok r && (objects_ok r && (when_ok rs r)))))))))))) h1 in
    let h3 = second_true (prefix_ok r) (clauses_ok rs r && (universal_ok r && (order_ok r && (bound_ok r && (equations_ok r && (strata_ok rs r && (keyed_ok r && (apart_ok r && (known_ok r && (objects_ok r && (when_ok rs r))))))))))) h2 in
    let h4 = second_true (clauses_ok rs r) (universal_ok r && (order_ok r && (bound_ok r && (equations_ok r && (strata_ok rs r && (keyed_ok r && (apart_ok r && (known_ok r && (objects_ok r && (when_ok rs r)))))))))) h3 in
    let h5 = second_true (universal_ok r) (order_ok r && (bound_ok r && (equations_ok r && (strata_ok rs r && (keyed_ok r && (apart_ok r && (known_ok r && (objects_ok r && (when_ok rs r))))))))) h4 in
    let h6 = second_true (order_ok r) (bound_ok r && (equations_ok r && (strata_ok rs r && (keyed_ok r && (apart_ok r && (known_ok r && (objects_ok r && (when_ok rs r)))))))) h5 in
    let h7 = second_true (bound_ok r) (equations_ok r && (strata_ok rs r && (keyed_ok r && (apart_ok r && (known_ok r && (objects_ok r && (when_ok rs r))))))) h6 in
    let h8 = second_true (equations_ok r) (strata_ok rs r && (keyed_ok r && (apart_ok r && (known_ok r && (objects_ok r && (when_ok rs r)))))) h7 in
    let h9 = second_true (strata_ok rs r) (keyed_ok r && (apart_ok r && (known_ok r && (objects_ok r && (when_ok rs r))))) h8 in
    let h10 = second_true (keyed_ok r) (apart_ok r && (known_ok r && (objects_ok r && (when_ok rs r)))) h9 in
    let h11 = second_true (apart_ok r) (known_ok r && (objects_ok r && (when_ok rs r))) h10 in
    let h12 = second_true (known_ok r) (objects_ok r && (when_ok rs r)) h11 in
    let h13 = second_true (objects_ok r) (when_ok rs r) h12 in
    record {
      vars = first_true (vars_ok r) (patterns_ok r && (roots_ok r && (prefix_ok r && (clauses_ok rs r && (universal_ok r && (order_ok r && (bound_ok r && (equations_ok r && (strata_ok rs r && (keyed_ok r && (apart_ok r && (known_ok r && (objects_ok r && (when_ok rs r)))))))))))))) e;
      patterns = first_true (patterns_ok r) (roots_ok r && (prefix_ok r && (clauses_ok rs r && (universal_ok r && (order_ok r && (bound_ok r && (equations_ok r && (strata_ok rs r && (keyed_ok r && (apart_ok r && (known_ok r && (objects_ok r && (when_ok rs r))))))))))))) h0;
      roots = first_true (roots_ok r) (prefix_ok r && (clauses_ok rs r && (universal_ok r && (order_ok r && (bound_ok r && (equations_ok r && (strata_ok rs r && (keyed_ok r && (apart_ok r && (known_ok r && (objects_ok r && (when_ok rs r)))))))))))) h1;
      prefix = first_true (prefix_ok r) (clauses_ok rs r && (universal_ok r && (order_ok r && (bound_ok r && (equations_ok r && (strata_ok rs r && (keyed_ok r && (apart_ok r && (known_ok r && (objects_ok r && (when_ok rs r))))))))))) h2;
      clauses = first_true (clauses_ok rs r) (universal_ok r && (order_ok r && (bound_ok r && (equations_ok r && (strata_ok rs r && (keyed_ok r && (apart_ok r && (known_ok r && (objects_ok r && (when_ok rs r)))))))))) h3;
      universal = first_true (universal_ok r) (order_ok r && (bound_ok r && (equations_ok r && (strata_ok rs r && (keyed_ok r && (apart_ok r && (known_ok r && (objects_ok r && (when_ok rs r))))))))) h4;
      order = first_true (order_ok r) (bound_ok r && (equations_ok r && (strata_ok rs r && (keyed_ok r && (apart_ok r && (known_ok r && (objects_ok r && (when_ok rs r)))))))) h5;
      bound = first_true (bound_ok r) (equations_ok r && (strata_ok rs r && (keyed_ok r && (apart_ok r && (known_ok r && (objects_ok r && (when_ok rs r))))))) h6;
      equations = first_true (equations_ok r) (strata_ok rs r && (keyed_ok r && (apart_ok r && (known_ok r && (objects_ok r && (when_ok rs r)))))) h7;
      strata = first_true (strata_ok rs r) (keyed_ok r && (apart_ok r && (known_ok r && (objects_ok r && (when_ok rs r))))) h8;
      keyed = first_true (keyed_ok r) (apart_ok r && (known_ok r && (objects_ok r && (when_ok rs r)))) h9;
      apart = first_true (apart_ok r) (known_ok r && (objects_ok r && (when_ok rs r))) h10;
      known = first_true (known_ok r) (objects_ok r && (when_ok rs r)) h11;
      objects = first_true (objects_ok r) (when_ok rs r) h12;
      when = h13;
    }

-- ---- texts are storable

pub storable_words : (r : Relation) → patterns_ok r ≡ true → AreStorable r.from
storable_words r ok which prop word among part =
    second_true (has (props_of (desc_of 0) (class_of_pattern which.0)) prop && is_text_type (type_of (desc_of 0) prop)) (is_storable_text word) ((good_source r ok which among).parts (a_word prop word) part)

argument_good : (r : Relation) (a : Argument) (kind : Kind) → argument_ok r a kind ≡ true → is_good a ≡ true
argument_good r (object_argument v m c) kind ok = refl
argument_good r (text_argument v) kind ok = refl
argument_good r (word_argument word) kind ok = first_true (is_storable_text word) (same_kind texts kind) ok
argument_good r (prefixed_argument prefix name) kind ok = refl

-- an argument fits a root of the called relation
pub record IsFit (r : Relation) (a : Argument) : Type 0 where
  pub kind : Kind
  pub ok : argument_ok r a kind ≡ true

fit_for : (r : Relation) (o : Option (List ℕ × Kind)) (a : Argument) → argument_for r o a ≡ true → IsFit r a
fit_for r None a ok = absurd (false≢true ok)
fit_for r (Some var) a ok = record { kind = var.1; ok = ok }

arguments_fit : (r callee : Relation) (vs : List ℕ) (args : List Argument) → arguments_ok r callee vs args ≡ true → (a : Argument) → Contains args a → IsFit r a
arguments_fit r callee [] [] ok a c = absurd (nothing_in a c)
arguments_fit r callee [] (b ∷ more) ok a c = absurd (false≢true ok)
arguments_fit r callee (v ∷ vs) [] ok a c = absurd (false≢true ok)
arguments_fit r callee (v ∷ vs) (b ∷ more) ok a c =
    each_of (IsFit r) b more (fit_for r (slice_get callee.vars v) b (first_true (argument_for r (slice_get callee.vars v) b) (arguments_ok r callee vs more) ok))
    (arguments_fit r callee vs more (second_true (argument_for r (slice_get callee.vars v) b) (arguments_ok r callee vs more) ok)) a c

fit_call : (r : Relation) (o : Option Relation) (args : List Argument) → call_to r o args ≡ true → (a : Argument) → Contains args a → IsFit r a
fit_call r None args ok a c = absurd (false≢true ok)
fit_call r (Some callee) args ok a c = arguments_fit r callee (domain_roots callee) args ok a c

-- each argument of a call of the relation fits
pub call_fits : (rs : List Relation) (r : Relation) (call : Call) → call_ok rs r call ≡ true → (a : Argument) → Contains call.args a → IsFit r a
call_fits rs r call ok a c = fit_call r (slice_get rs call.number) call.args ok a c

pub fit_is_good : (r : Relation) (a : Argument) → IsFit r a → is_good a ≡ true
fit_is_good r a fit = argument_good r a fit.kind fit.ok

pub when_call_ok : (rs : List Relation) (r : Relation) → clauses_ok rs r ≡ true → (call : Call) → Contains r.whens call → call_ok rs r call ≡ true
when_call_ok rs r ok call there = all_of (call_ok rs r) r.whens (first_true (list_all (call_ok rs r) r.whens) (list_all (clause_ok rs r) r.wheres) ok) call there

pub where_clause_ok : (rs : List Relation) (r : Relation) → clauses_ok rs r ≡ true → (c : Clause) → Contains r.wheres c → clause_ok rs r c ≡ true
where_clause_ok rs r ok c there = all_of (clause_ok rs r) r.wheres (second_true (list_all (call_ok rs r) r.whens) (list_all (clause_ok rs r) r.wheres) ok) c there

pub good_whens : (rs : List Relation) (r : Relation) (words : AreStorable r.from) → clauses_ok rs r ≡ true → AreGood rs r words
good_whens rs r words ok call a there c =
    fit_is_good r a (call_fits rs r call (when_call_ok rs r ok call there) a c)

-- ---- the whole

module _ (rs : List Relation) (each : (r : Relation) → Contains rs r → IsTested rs r)
    (reached : (number : ℕ) (r : Relation) → slice_get rs number ≡ Some r → IsCallPath (program_of rs) number r.stratum) where
  relation_meant : (number : ℕ) (r : Relation) → slice_get rs number ≡ Some r → IsMeant (program_of rs) number (rel_of r)
  relation_meant number r found =
      let t = each r (contains_at rs number r found) in
      let words = storable_words r t.patterns in
      let good = good_whens rs r words t.clauses in
      record {
        domains = domains_meant rs r t.patterns t.roots;
        variables = variables_meant rs r words good t.universal t.vars t.prefix t.order t.bound;
        whens = whens_meant rs r words good t.universal;
        wheres = wheres_meant rs r words good t.universal t.clauses t.equations;
        direction = towards_target rs r;
        calls = λ is. calls_meant rs r;
        stratum = stratum_meant rs (λ x c. (each x c).strata) number r found (reached number r found);
      }

  all_meant : AreMeant (program_of rs)
  all_meant number rel found = let r = image_at rel_of rs number rel found in subst (IsMeant (program_of rs) number) r.2 (relation_meant number r.0 r.1)

  none_own : (class : ℕ) → (prop : PropId) → Contains [] prop → Contains (props_of rdb_desc class) prop.0
  none_own class prop c = absurd (nothing_in prop c)

  no_pairs : AllPairs (λ (p q : PropId). p ≢ q) []
  no_pairs i j d before within = absurd (omega (arith, within))

  one_prop : (n : ℕ) → AllPairs (λ (p q : PropId). p ≢ q) (record { 0 = n } ∷ [])
  one_prop n = all_pairs_cons (λ (p q : PropId). p ≢ q) (record { 0 = n }) [] (λ q c. absurd (nothing_in q c)) no_pairs

  two_props : (n m : ℕ) → n ≢ m → AllPairs (λ (p q : PropId). p ≢ q) (record { 0 = n } ∷ record { 0 = m } ∷ [])
  two_props n m apart =
      all_pairs_cons (λ (p q : PropId). p ≢ q) (record { 0 = n }) (record { 0 = m } ∷ [])
      (each_of (λ (q : PropId). (let p : PropId = record { 0 = n } in p) ≢ q) (record { 0 = m }) [] (λ e. apart (ap (λ (p : PropId). p.0) e)) (each_of_none (λ (q : PropId). (let p : PropId = record { 0 = n } in p) ≢ q)))
      (one_prop m)

  some_props : (p : PropId) (more : List PropId) → (p ∷ more) ≢ []
  some_props p more e = let n : length (p ∷ more) ≡ 0 = ap length e in omega (arith, n)

  schema_key : IsKey metas (key_of 1 (0 ∷ []))
  schema_key = record {
    class = class_in 1 1 refl;
    some = some_props (record { 0 = 0 }) [];
    own = each_of (λ (p : PropId). Contains (props_of rdb_desc 1) p.0) (record { 0 = 0 }) [] (in_list (props_of rdb_desc 1) 0 refl) (none_own 1);
    once = one_prop 0;
  }

  table_key : IsKey metas (key_of 2 (2 ∷ 0 ∷ []))
  table_key = record {
    class = class_in 1 2 refl;
    some = some_props (record { 0 = 2 }) (record { 0 = 0 } ∷ []);
    own = each_of (λ (p : PropId). Contains (props_of rdb_desc 2) p.0) (record { 0 = 2 }) (record { 0 = 0 } ∷ []) (in_list (props_of rdb_desc 2) 2 refl)
        (each_of (λ (p : PropId). Contains (props_of rdb_desc 2) p.0) (record { 0 = 0 }) [] (in_list (props_of rdb_desc 2) 0 refl) (none_own 2));
    once = two_props 2 0 (λ e. absurd (omega (arith, e)));
  }

  column_key : IsKey metas (key_of 3 (6 ∷ 0 ∷ []))
  column_key = record {
    class = class_in 1 3 refl;
    some = some_props (record { 0 = 6 }) (record { 0 = 0 } ∷ []);
    own = each_of (λ (p : PropId). Contains (props_of rdb_desc 3) p.0) (record { 0 = 6 }) (record { 0 = 0 } ∷ []) (in_list (props_of rdb_desc 3) 6 refl)
        (each_of (λ (p : PropId). Contains (props_of rdb_desc 3) p.0) (record { 0 = 0 }) [] (in_list (props_of rdb_desc 3) 0 refl) (none_own 3));
    once = two_props 6 0 (λ e. absurd (omega (arith, e)));
  }

  other_class : (a b : ℕ) (props : List ℕ) (qs : List ℕ) → a ≢ b → AreOfTwoClasses (key_of a props) (key_of b qs)
  other_class a b props qs apart same e = apart (ap (λ (c : ClassId). c.0) e)

  no_keys : AllPairs AreOfTwoClasses []
  no_keys i j d before within = absurd (omega (arith, within))

  keys_there : AreKeys metas (program_of rs)
  keys_there = record {
    keys = each_of (IsKey metas) (key_of 1 (0 ∷ [])) (key_of 2 (2 ∷ 0 ∷ []) ∷ key_of 3 (6 ∷ 0 ∷ []) ∷ []) schema_key
        (each_of (IsKey metas) (key_of 2 (2 ∷ 0 ∷ [])) (key_of 3 (6 ∷ 0 ∷ []) ∷ []) table_key (each_of (IsKey metas) (key_of 3 (6 ∷ 0 ∷ [])) [] column_key (each_of_none (IsKey metas))));
    classes = all_pairs_cons AreOfTwoClasses (key_of 1 (0 ∷ [])) (key_of 2 (2 ∷ 0 ∷ []) ∷ key_of 3 (6 ∷ 0 ∷ []) ∷ [])
        (each_of (AreOfTwoClasses (key_of 1 (0 ∷ []))) (key_of 2 (2 ∷ 0 ∷ [])) (key_of 3 (6 ∷ 0 ∷ []) ∷ []) (other_class 1 2 (0 ∷ []) (2 ∷ 0 ∷ []) (λ e. absurd (omega (arith, e))))
        (each_of (AreOfTwoClasses (key_of 1 (0 ∷ []))) (key_of 3 (6 ∷ 0 ∷ [])) [] (other_class 1 3 (0 ∷ []) (6 ∷ 0 ∷ []) (λ e. absurd (omega (arith, e)))) (each_of_none (AreOfTwoClasses (key_of 1 (0 ∷ []))))))
        (all_pairs_cons AreOfTwoClasses (key_of 2 (2 ∷ 0 ∷ [])) (key_of 3 (6 ∷ 0 ∷ []) ∷ [])
        (each_of (AreOfTwoClasses (key_of 2 (2 ∷ 0 ∷ []))) (key_of 3 (6 ∷ 0 ∷ [])) [] (other_class 2 3 (2 ∷ 0 ∷ []) (6 ∷ 0 ∷ []) (λ e. absurd (omega (arith, e)))) (each_of_none (AreOfTwoClasses (key_of 2 (2 ∷ 0 ∷ [])))))
        (all_pairs_cons AreOfTwoClasses (key_of 3 (6 ∷ 0 ∷ [])) [] (λ k c. absurd (nothing_in k c)) no_keys));
  }

  no_query : (a b : ℕ) → Reaches [] a b → ⊥
  no_query a b (Reaches.call _ _ c) = none-some c.query c.found
  no_query a b (Reaches.more _ m _ c more) = none-some c.query c.found

  pub is_well_formed : IsWellFormed metas (program_of rs)
  is_well_formed = record {
    numbers = numbers_in_range rs (λ r c. let t = each r c in relation_in_range rs r t.vars t.patterns t.prefix t.clauses);
    typed = expressions_typed rs (λ r c. let t = each r c in relation_typed rs r t.patterns t.clauses);
    queries = λ q reaches. no_query q q reaches;
    relations = all_meant;
    keys = keys_there;
  }

-- What an entry makes, and whether it is unmet, over models that agree but for the target.
use Rattle.std.specs.Prelude.{◌≡◌, ◌⊎◌, ℕ, zero, suc, Bool, true, false, ◌==◌, ◌&&◌, ◌||◌, ◌++◌, not, List, [], ◌∷◌, map, length, Option, None, Some, is_some, is_none, slice_get, slice_index_or, Contains, if◌then◌else◌}
use Rattle.std.specs.List.{find, list_any}
use Rattle.std.specs.Option.{option_map, option_and_then, option_or}
use Rattle.std.proofs.Common.{refl, sym, ap, subst, ◌∙◌, arith, inl, inr}
use Rattle.mof_metamodel.specs.declared.desc.PropId.{PropId}
use Rattle.mof_metamodel.specs.declared.desc.MetaDesc.{MetaDesc}
use Rattle.mof_metamodel.specs.Metamodels.{opposite_of}
use Rattle.object_tables.specs.Models.{ModelData}
use Rattle.qv_syntax.specs.declared.program.Program.{Program}
use Rattle.qv_syntax.specs.declared.program.Rel.{Rel}
use Rattle.qv_syntax.specs.declared.program.Conj.{Conj}
use Rattle.qv_syntax.specs.declared.program.Conj.TheVariants as conjuncts
use Rattle.qv_syntax.specs.declared.typed.Typed.{Typed}
use Rattle.qv_syntax.specs.Relations.{InConjunct}
use Rattle.qvtr_semantics.specs.declared.out.Out.{Out}
use Rattle.qvtr_semantics.specs.declared.out.Out.TheVariants as outs
use Rattle.qvtr_semantics.specs.Outs.{datum_of, boolean_of, all_given}
use Rattle.qvtr_semantics.specs.Equality.{is_known_true}
use Rattle.qvtr_semantics.specs.Expressions.{Scope, value, variable, scope_of}
use Rattle.repair_semantics.specs.declared.term.TermValue.{TermValue}
use Rattle.repair_semantics.specs.declared.entry.Place.{Place}
use Rattle.repair_semantics.specs.declared.entry.Place.TheVariants as places
use Rattle.repair_semantics.specs.EntryValues.{TermValues, Known, value_of, data_in, variable_alone, given_out, given_by, given_value, is_target_alone}
use Rattle.repair_semantics.specs.TargetItems.{Content, TargetItem, target_items, target_metamodel, key_of, class_of_variable}
use Rattle.repair_semantics.specs.Making.{variables, equation_of, by_equation, with_equations, scope_within, entry_scope, content_value, first_item, item_around, is_item_at, is_option_of, parent_value, key_value_by, key_value, keyed, term_by, made_term, value_or_datum, with_terms, values_within, known_by, entry_known, others_in, made_values}
use Rattle.repair_semantics.specs.Unmet.{is_lacking, is_content_lacking, item_places, is_conjunct_unmet, conjunct_places, first_place, unmet_places, unmet_at, is_unmet}
use Rattle.template_match.proofs.ListLaws.{contains_later, find_some}
use Rattle.mof_metamodel.proofs.Facts.{contains_first}
use Rattle.source_laws.specs.Agreement.{AgreeBut}
use Rattle.source_laws.specs.SourceValues.{HasNoTarget}
use Rattle.source_laws.specs.TargetRule.{IsExpressionOf, HandsTargetOn}
use Rattle.source_laws.proofs.QueryLaws.{scope_alike}
use Rattle.entry_sources.proofs.ItemPlaces.{item_expression}

map_same : {X Y : Type 0} (f g : X → Y) (xs : List X) → ((x : X) → f x ≡ g x) → map f xs ≡ map g xs
map_same f g [] h = refl
map_same f g (x ∷ xs) h = ap (λ y. y ∷ map f xs) (h x) ∙ ap (λ ys. g x ∷ ys) (map_same f g xs h)

equation_by : (w v : ℕ) (x : Typed) (cs : List Conj) (e : Typed) (b : Bool) → (if b then Some x else equation_of cs v) ≡ Some e → (equation_of cs v ≡ Some e → (u : ℕ) × Contains cs (conjuncts.Equation u e))
    → (u : ℕ) × Contains (conjuncts.Equation w x ∷ cs) (conjuncts.Equation u e)
equation_by w v x cs e true h rest = let same : x ≡ e = cc in (w, subst (λ y. Contains (conjuncts.Equation w x ∷ cs) (conjuncts.Equation w y)) same (contains_first (conjuncts.Equation w x) cs))
equation_by w v x cs e false h rest = let (u, c) = rest h in (u, contains_later (conjuncts.Equation u e) (conjuncts.Equation w x) cs c)

equation_in : (cs : List Conj) (v : ℕ) (e : Typed) → equation_of cs v ≡ Some e → (u : ℕ) × Contains cs (conjuncts.Equation u e)
equation_in [] v e h = absurd (cc)
equation_in (conjuncts.Equation w x ∷ cs) v e h = equation_by w v x cs e (w == v) h (λ k. equation_in cs v e k)
equation_in (conjuncts.Cond x ∷ cs) v e h = let (u, c) = equation_in cs v e h in (u, contains_later (conjuncts.Equation u e) (conjuncts.Cond x) cs c)
equation_in (conjuncts.Call n args ∷ cs) v e h = let (u, c) = equation_in cs v e h in (u, contains_later (conjuncts.Equation u e) (conjuncts.Call n args) cs c)

module _ (program : Program) (ms ns : List ModelData) (agree : AgreeBut program.target ms ns) (rel : Rel) (rule : HandsTargetOn program rel) where
  -- no variable has an object of the target
  abbrev Fine : Scope → Type 0
  Fine x = (v : ℕ) → HasNoTarget program.target (variable x v)

  pub expression_same : (e : Typed) (x : Scope) → IsExpressionOf rel e → Fine x → (value program ms e x ≡ value program ns e x) × HasNoTarget program.target (value program ms e x)
  expression_same e x is fine = scope_alike program ms ns e x x agree (rule.speaks e is) refl (λ v names. (refl, fine v))

  -- ---- equations

  all_fine : (f : ℕ → Out) (vs : List ℕ) → ((v : ℕ) → HasNoTarget program.target (f v)) → Fine (map f vs)
  all_fine f [] h n = tt
  all_fine f (v ∷ vs) h zero = h v
  all_fine f (v ∷ vs) h (suc n) = all_fine f vs h n

  by_same : (v : ℕ) (x : Scope) (before : Out) (o : Option Typed) → equation_of rel.wheres v ≡ o → Fine x → HasNoTarget program.target before
      → (by_equation program ms x before o ≡ by_equation program ns x before o) × HasNoTarget program.target (by_equation program ms x before o)
  by_same v x before None is fine apart = (refl, apart)
  by_same v x before (Some e) is fine apart =
      let (u, c) = equation_in rel.wheres v e is in
      expression_same e x (IsExpressionOf.conjunct (conjuncts.Equation u e) (inr c) refl) fine

  pub scope_same : (before : Scope) → Fine before → (n : ℕ) → (scope_within program ms rel before n ≡ scope_within program ns rel before n) × Fine (scope_within program ms rel before n)
  scope_same before fine zero = (refl, fine)
  scope_same before fine (suc n) =
      let less : (scope_within program ms rel before n ≡ scope_within program ns rel before n) × Fine (scope_within program ms rel before n) = scope_same before fine n in
      let x : Scope = scope_within program ms rel before n in
      let each : (v : ℕ) → (by_equation program ms x (variable before v) (equation_of rel.wheres v) ≡ by_equation program ns x (variable before v) (equation_of rel.wheres v))
      × HasNoTarget program.target (by_equation program ms x (variable before v) (equation_of rel.wheres v)) =
      λ v. by_same v x (variable before v) (equation_of rel.wheres v) refl less.1 (fine v) in (
        map_same (λ v. by_equation program ms x (variable before v) (equation_of rel.wheres v)) (λ v. by_equation program ns x (variable before v) (equation_of rel.wheres v)) (variables rel) (λ v. (each v).0)
            ∙ ap (with_equations program ns rel before) less.0,
        all_fine (λ v. by_equation program ms x (variable before v) (equation_of rel.wheres v)) (variables rel) (λ v. (each v).1),
      )

  -- ---- contents of items

  given_by_same : (k : Known) (e : Typed) (o : Option ℕ) → IsExpressionOf rel e → Fine k.scope → given_by program ms k e o ≡ given_by program ns k e o
  given_by_same k e None is fine = ap given_out (expression_same e k.scope is fine).0
  given_by_same k e (Some v) is fine = refl

  pub given_same : (k : Known) (e : Typed) → IsExpressionOf rel e → Fine k.scope → given_value program ms k e ≡ given_value program ns k e
  given_same k e is fine = given_by_same k e (variable_alone e) is fine

  abbrev Places : Content → Type 0
  Places c = (e : Typed) → c ≡ Content.expression e → IsExpressionOf rel e

  content_same : (k : Known) (c : Content) → Places c → Fine k.scope → content_value program ms k c ≡ content_value program ns k c
  content_same k Content.empty at fine = refl
  content_same k (Content.expression e) at fine = given_same k e (at e refl) fine
  content_same k (Content.template v) at fine = refl

  abbrev AllPlaced : List TargetItem → Type 0
  AllPlaced its = (i : TargetItem) (e : Typed) → Contains its i → i.content ≡ Content.expression e → IsExpressionOf rel e

  module _ (meta : target_metamodel program ms ≡ target_metamodel program ns) (its : List TargetItem) (placed : AllPlaced its) where
    parent_same : (k : Known) (p : ℕ) (o : Option TargetItem) → parent_value program ms k p o ≡ parent_value program ns k p o
    parent_same k p None = refl
    parent_same k p (Some item) = ap (λ (m : MetaDesc). if is_option_of (opposite_of m item.prop.0) p then value_of k.values item.owner else None) meta

    key_by : (k : Known) (v p : ℕ) (o around : Option TargetItem) → first_item its v p ≡ o → Fine k.scope → key_value_by program ms k p o around ≡ key_value_by program ns k p o around
    key_by k v p None around is fine = parent_same k p around
    key_by k v p (Some item) around is fine =
        content_same k item.content (λ e at. placed item e (find_some (is_item_at v p) its item is).0 at) fine

    key_same : (k : Known) (v : ℕ) (p : PropId) → Fine k.scope → key_value program ms its k v p ≡ key_value program ns its k v p
    key_same k v p fine = key_by k v p.0 (first_item its v p.0) (item_around its v) refl fine

    term_from : (k : Known) (v class : ℕ) (o : Option (List PropId)) → Fine k.scope
        → option_and_then (λ props. option_map (keyed class) (all_given (map (key_value program ms its k v) props))) o
        ≡ option_and_then (λ props. option_map (keyed class) (all_given (map (key_value program ns its k v) props))) o
    term_from k v class None fine = refl
    term_from k v class (Some props) fine =
        ap (λ os. option_map (keyed class) (all_given os)) (map_same (key_value program ms its k v) (key_value program ns its k v) props (λ p. key_same k v p fine))

    made_from : (k : Known) (v : ℕ) (o : Option ℕ) → Fine k.scope → option_and_then (term_by program ms its k v) o ≡ option_and_then (term_by program ns its k v) o
    made_from k v None fine = refl
    made_from k v (Some class) fine = term_from k v class (key_of program class) fine

    within_same : (x : Scope) (before : TermValues) → Fine x → (n : ℕ) → values_within program ms rel its x before n ≡ values_within program ns rel its x before n
    within_same x before fine zero = refl
    within_same x before fine (suc n) =
        let b : TermValues = values_within program ms rel its x before n in
        map_same (λ v. option_or (value_of before v) (made_term program ms rel its (record { values = b; scope = x }) v))
        (λ v. option_or (value_of before v) (made_term program ns rel its (record { values = b; scope = x }) v)) (variables rel)
        (λ v. ap (option_or (value_of before v)) (made_from (record { values = b; scope = x }) v (class_of_variable rel v) fine))
        ∙ ap (with_terms program ns rel its x before) (within_same x before fine n)

    known_same : (b : TermValues) (x : Scope) → Fine x → known_by program ms rel its b x ≡ known_by program ns rel its b x
    known_same b x fine =
        ap (λ (vs : TermValues). let k : Known = record { values = vs; scope = x } in k) (within_same x (map (value_or_datum b x) (variables rel)) fine (length rel.vars))

  pub entry_known_same : target_metamodel program ms ≡ target_metamodel program ns → (b : TermValues) → Fine (scope_of (data_in b)) → entry_known program ms rel b ≡ entry_known program ns rel b
  entry_known_same meta b fine =
      let x = scope_same (scope_of (data_in b)) fine (length rel.wheres) in
      known_same meta (target_items program rel) (item_expression program rel) b (entry_scope program ms rel b) x.1
      ∙ ap (known_by program ns rel (target_items program rel) b) x.0

  pub made_same : target_metamodel program ms ≡ target_metamodel program ns → (b : TermValues) → Fine (scope_of (data_in b)) → made_values program ms rel b ≡ made_values program ns rel b
  made_same meta b fine = ap (λ (k : Known). others_in rel b k.values) (entry_known_same meta b fine)

  -- ---- unmet entries

  lacking_same : (k : Known) (e : Typed) → IsExpressionOf rel e → Fine k.scope → is_lacking program ms rel k e ≡ is_lacking program ns rel k e
  lacking_same k e is fine = ap (λ o. not (is_target_alone program rel e) && is_none o) (given_same k e is fine)

  content_lacking_same : (k : Known) (c : Content) → Places c → Fine k.scope → is_content_lacking program ms rel k c ≡ is_content_lacking program ns rel k c
  content_lacking_same k Content.empty at fine = refl
  content_lacking_same k (Content.expression e) at fine = lacking_same k e (at e refl) fine
  content_lacking_same k (Content.template v) at fine = refl

  item_places_same : (k : Known) (its : List TargetItem) → AllPlaced its → Fine k.scope → item_places program ms rel k its ≡ item_places program ns rel k its
  item_places_same k [] placed fine = refl
  item_places_same k (i ∷ its) placed fine =
      ap (λ b. if b then places.Item i.prop ∷ item_places program ms rel k its else item_places program ms rel k its)
      (content_lacking_same k i.content (λ e at. placed i e (contains_first i its) at) fine)
      ∙ ap (λ ps. if is_content_lacking program ns rel k i.content then places.Item i.prop ∷ ps else ps)
      (item_places_same k its (λ j e c at. placed j e (contains_later j i its c) at) fine)

  any_lacking : (k : Known) (es : List Typed) → ((e : Typed) → Contains es e → IsExpressionOf rel e) → Fine k.scope → list_any (is_lacking program ms rel k) es ≡ list_any (is_lacking program ns rel k) es
  any_lacking k [] at fine = refl
  any_lacking k (e ∷ es) at fine =
      ap (λ b. b || list_any (is_lacking program ms rel k) es) (lacking_same k e (at e (contains_first e es)) fine)
      ∙ ap (λ b. is_lacking program ns rel k e || b) (any_lacking k es (λ x c. at x (contains_later x e es c)) fine)

  conjunct_unmet_same : (k : Known) (c : Conj) → Contains rel.wheres c → Fine k.scope → is_conjunct_unmet program ms rel k c ≡ is_conjunct_unmet program ns rel k c
  conjunct_unmet_same k (conjuncts.Cond e) there fine =
      ap (λ o. not (is_known_true (boolean_of o))) (expression_same e k.scope (IsExpressionOf.conjunct (conjuncts.Cond e) (inr there) refl) fine).0
  conjunct_unmet_same k (conjuncts.Equation v e) there fine =
      ap (λ o. is_none (datum_of o)) (expression_same e k.scope (IsExpressionOf.conjunct (conjuncts.Equation v e) (inr there) refl) fine).0
  conjunct_unmet_same k (conjuncts.Call n args) there fine = any_lacking k args (λ e c. IsExpressionOf.conjunct (conjuncts.Call n args) (inr there) c) fine

  conjunct_places_same : (k : Known) (before : ℕ) (cs : List Conj) → ((c : Conj) → Contains cs c → Contains rel.wheres c) → Fine k.scope
      → conjunct_places program ms rel k before cs ≡ conjunct_places program ns rel k before cs
  conjunct_places_same k before [] there fine = refl
  conjunct_places_same k before (c ∷ cs) there fine =
      ap (λ b. if b then places.Where (suc before) ∷ conjunct_places program ms rel k (suc before) cs else conjunct_places program ms rel k (suc before) cs)
      (conjunct_unmet_same k c (there c (contains_first c cs)) fine)
      ∙ ap (λ ps. if is_conjunct_unmet program ns rel k c then places.Where (suc before) ∷ ps else ps)
      (conjunct_places_same k (suc before) cs (λ x among. there x (contains_later x c cs among)) fine)

  pub unmet_at_same : (k : Known) → Fine k.scope → unmet_at program ms rel k ≡ unmet_at program ns rel k
  unmet_at_same k fine =
      ap (λ ps. first_place (ps ++ conjunct_places program ms rel k 0 rel.wheres)) (item_places_same k (target_items program rel) (item_expression program rel) fine)
      ∙ ap (λ ps. first_place (item_places program ns rel k (target_items program rel) ++ ps)) (conjunct_places_same k 0 rel.wheres (λ c among. among) fine)

  pub unmet_same : (k : Known) → Fine k.scope → is_unmet program ms rel k ≡ is_unmet program ns rel k
  unmet_same k fine = ap is_some (unmet_at_same k fine)

-- What is known in an entry, by the numbers of terms in a table that grows.
use Rattle.std.specs.Prelude.{◌≡◌, ◌<◌, ◌≤◌, ℕ, zero, suc, Bool, true, false, List, [], ◌∷◌, ◌++◌, map, length, Option, None, Some, is_some, slice_get, slice_index_or, slice_set, All}
use Rattle.std.specs.List.{range_with_len, AllByRecursion}
use Rattle.std.specs.Option.{option_map, option_or, option_and_then}
use Rattle.std.proofs.Common.{refl, sym, ap, subst, ◌∙◌, arith, inl, inr, get_or-set_same, get_or-set_other}
use Rattle.std.proofs.lemmas.Bool.{cases_eq, true≢false}
use Rattle.std.proofs.lemmas.List.{get_or-map, get_or_default, map-set, length-map, length-set, set-get_or}
use Rattle.std.proofs.lemmas.List.FromFn.{length-map-range_with_len, get_or-map-range_with_len, get_or-range_with_len, length-range_with_len}
use Rattle.mof_metamodel.specs.declared.desc.ClassId.{ClassId}
use Rattle.object_tables.specs.Models.{ModelData}
use Rattle.qv_syntax.specs.declared.program.Program.{Program}
use Rattle.qv_syntax.specs.declared.program.Rel.{Rel}
use Rattle.qvtr_semantics.specs.declared.datum.Datum.{Datum}
use Rattle.qvtr_semantics.specs.declared.out.Out.{Out}
use Rattle.qvtr_semantics.specs.Outs.{datum_of, all_given}
use Rattle.qvtr_semantics.specs.Expressions.{Scope, value, variable, scope_of}
use Rattle.repair_semantics.specs.declared.term.Term.{Term}
use Rattle.repair_semantics.specs.declared.term.TermValue.{TermValue}
use Rattle.repair_semantics.specs.declared.term.TermValue.TheVariants as values
use Rattle.repair_semantics.specs.EntryValues.{TermValues, Known, value_of, data_in, given_out, known}
use Rattle.repair_semantics.specs.TargetItems.{target_items, target_metamodel}
use Rattle.repair_semantics.specs.Making.{variables, value_or_datum, entry_scope, known_by, entry_known, keyed}
use Rattle.term_table.specs.declared.numbered.NumberedValue.{NumberedValue}
use Rattle.term_table.specs.declared.numbered.NumberedValue.TheVariants as numbered
use Rattle.term_table.specs.TermTables.{term_at, value_in, values_in, IsWithin, IsNumberOf, IsGrown}
use Rattle.term_table.specs.TermTables as tables
use Rattle.term_table.proofs.TermTableLaws.{within_grown, value_grown}
use Rattle.entry_making.specs.declared.origin.Equation.{Equation}
use Rattle.entry_making.specs.declared.origin.Keyed.{Keyed}
use Rattle.entry_making.specs.declared.recipe.Recipe.{Recipe}
use Rattle.entry_making.specs.Givers.{Giver, KeyGivers, giver_value, given_term}
use Rattle.entry_making.specs.Equations.{Equated, shown_equation, computed}
use Rattle.entry_making.specs.KeyedVariables.{KeyedVariable, shown_keyed, with_term_of, terms_made, AreGiven}
use Rattle.entry_making.specs.Numbered.{IsValueWithin, bound_out, given_number, number_or_datum, giver_number, giver_numbers}
use Rattle.entry_making.specs.Recipes.{IsRecipe}
use Rattle.entry_making.proofs.DecodedLaws.{bound_scope, value_shown, begun_shown, givers_shown}

-- ---- numbers within a table

value_within_grown : (a b : List Term) (o : Option NumberedValue) → IsGrown a b → IsValueWithin a o → IsValueWithin b o
value_within_grown a b None g w = tt
value_within_grown a b (Some v) g w = within_grown a b v g w

pub all_within_grown : (a b : List Term) (vs : List (Option NumberedValue)) → IsGrown a b → All (IsValueWithin a) vs → All (IsValueWithin b) vs
all_within_grown a b vs g w k d below = value_within_grown a b (slice_index_or vs k d) g (w k d below)

later_within : (a : List Term) (o : Option NumberedValue) (vs : List (Option NumberedValue)) → All (IsValueWithin a) (o ∷ vs) → All (IsValueWithin a) vs
later_within a o vs w k d below = w (suc k) d (omega (arith, below))

pub values_grown : (a b : List Term) (vs : List (Option NumberedValue)) → IsGrown a b → All (IsValueWithin a) vs → values_in b vs ≡ values_in a vs
values_grown a b [] g w = refl
values_grown a b (o ∷ os) g w = ap (λ x. x ∷ values_in b os) (one o (w 0 o (omega arith))) ∙ ap (λ xs. option_map (value_in a) o ∷ xs) (values_grown a b os g (later_within a o os w))
  where
    one : (p : Option NumberedValue) → IsValueWithin a p → option_map (value_in b) p ≡ option_map (value_in a) p
    one None h = refl
    one (Some v) h = ap (λ x. Some x) (value_grown a b v g h)

pub set_within : (a : List Term) (vs : List (Option NumberedValue)) (v : ℕ) (o : Option NumberedValue) → IsValueWithin a o → All (IsValueWithin a) vs → All (IsValueWithin a) (slice_set vs v o)
set_within a vs v o h w k d below = elim (cases_eq k v) [
  | inl same ↦ (let less : v < length vs = omega (arith, below, same, length-set vs v o) in
      subst (λ u. IsValueWithin a (slice_index_or (slice_set vs v o) u d)) (sym same) (subst (IsValueWithin a) (sym (get_or-set_same vs v o d less)) h))
  | inr ne ↦ subst (IsValueWithin a) (sym (get_or-set_other vs v k o d ne)) (w k d (omega (arith, below, length-set vs v o)))
]

given_within : (a : List Term) (out : Out) → IsValueWithin a (given_number out)
given_within a out = by (datum_of out)
  where
    by : (o : Option Datum) → IsValueWithin a (option_map (λ d. numbered.Val d) o)
    by None = tt
    by (Some d) = tt

item_within : (a : List Term) (vs : List (Option NumberedValue)) (v : ℕ) → All (IsValueWithin a) vs → IsValueWithin a (slice_index_or vs v None)
item_within a [] v w = tt
item_within a (o ∷ os) zero w = w 0 o (omega arith)
item_within a (o ∷ os) (suc v) w = item_within a os v (later_within a o os w)

giver_within : (program : Program) (models : List ModelData) (a : List Term) (vs : List (Option NumberedValue)) (scope : Scope) (g : Giver) → All (IsValueWithin a) vs
    → IsValueWithin a (giver_number program models vs scope g)
giver_within program models a vs scope Giver.nothing w = tt
giver_within program models a vs scope (Giver.variable v) w = item_within a vs v w
giver_within program models a vs scope (Giver.expression e) w = given_within a (value program models e scope)

none_some : {X : Type 0} (x : X) → None ≡ Some x → ⊥
none_some x e = absurd (cc)

all_cons : (a : List Term) (x : NumberedValue) (xs : List NumberedValue) → IsWithin a x → All (IsWithin a) xs → All (IsWithin a) (x ∷ xs)
all_cons a x xs h w zero d below = h
all_cons a x xs h w (suc k) d below = w k d (omega (arith, below))

-- the numbers that are given are ones of the table
pub keys_within : (program : Program) (models : List ModelData) (a : List Term) (vs : List (Option NumberedValue)) (scope : Scope) (gs : List Giver) (keys : List NumberedValue)
    → All (IsValueWithin a) vs → giver_numbers program models vs scope gs ≡ Some keys → All (IsWithin a) keys
keys_within program models a vs scope [] keys w is =
    let e : [] ≡ keys = cc in subst (All (IsWithin a)) e (λ k d below. absurd (omega (arith, below)))
keys_within program models a vs scope (g ∷ gs) keys w is =
    by (giver_number program models vs scope g) (giver_numbers program models vs scope gs) keys (giver_within program models a vs scope g w) (λ ys ys_is. keys_within program models a vs scope gs ys w ys_is) refl refl is
  where
    by : (o : Option NumberedValue) (rest : Option (List NumberedValue)) (ks : List NumberedValue) → IsValueWithin a o
        → ((ys : List NumberedValue) → giver_numbers program models vs scope gs ≡ Some ys → All (IsWithin a) ys)
        → giver_number program models vs scope g ≡ o → giver_numbers program models vs scope gs ≡ rest
        → all_given (giver_number program models vs scope g ∷ map (giver_number program models vs scope) gs) ≡ Some ks → All (IsWithin a) ks
    by None rest ks h more o_is rest_is all =
        absurd (none_some ks (sym (ap (λ o. all_given (o ∷ map (giver_number program models vs scope) gs)) o_is) ∙ all))
    by (Some x) None ks h more o_is rest_is all =
        absurd (none_some ks (sym (ap (λ o. all_given (o ∷ map (giver_number program models vs scope) gs)) o_is ∙ ap (option_map (λ ys. x ∷ ys)) rest_is) ∙ all))
    by (Some x) (Some ys) ks h more o_is rest_is all =
        let same : Some (x ∷ ys) ≡ Some ks = sym (ap (λ o. all_given (o ∷ map (giver_number program models vs scope) gs)) o_is ∙ ap (option_map (λ zs. x ∷ zs)) rest_is) ∙ all in
        let e : x ∷ ys ≡ ks = cc in
        subst (All (IsWithin a)) e (all_cons a x ys h (more ys rest_is))

-- ---- the term of a key

module _ (program : Program) (models : List ModelData) (before : List Term) (vs : List (Option NumberedValue)) (scope : Scope) (k : Keyed) where
  abbrev at_values : Known
  at_values = record { values = values_in before vs; scope = scope }

  -- no term where a value is missing
  pub no_term : giver_numbers program models vs scope (shown_keyed k).1.keys ≡ None → None ≡ given_term program models at_values (shown_keyed k).1
  no_term none =
      ap (λ o. option_map (keyed k.class.0) (option_map (map (value_in before)) o)) (sym none)
      ∙ ap (option_map (keyed k.class.0)) (givers_shown program models before vs scope (shown_keyed k).1.keys)

  -- the term with the number that the table gives it
  pub new_term : (after : List Term) (n : ℕ) (keys : List NumberedValue) → giver_numbers program models vs scope (shown_keyed k).1.keys ≡ Some keys
      → IsNumberOf after n (tables.keyed k.class (map (value_in before) keys)) → Some (values.Term (term_at after n)) ≡ given_term program models at_values (shown_keyed k).1
  new_term after n keys given is =
      ap (λ t. Some (values.Term t)) is.1
      ∙ ap (λ o. option_map (keyed k.class.0) (option_map (map (value_in before)) o)) (sym given)
      ∙ ap (option_map (keyed k.class.0)) (givers_shown program models before vs scope (shown_keyed k).1.keys)

  -- a variable that has a value keeps it
  pub kept_value : is_some (slice_index_or vs k.variable None) ≡ true → values_in before vs ≡ with_term_of program models scope (values_in before vs) (shown_keyed k)
  kept_value there =
      let o = value_of (values_in before vs) k.variable in
      let given : is_some o ≡ true = ap is_some (sym (value_shown before vs k.variable)) ∙ mapped (slice_index_or vs k.variable None) ∙ there in
      sym (ap (slice_set (values_in before vs) k.variable) (or_there o (given_term program models at_values (shown_keyed k).1) given) ∙ set-get_or (values_in before vs) k.variable None)
    where
      mapped : (o : Option NumberedValue) → is_some (option_map (value_in before) o) ≡ is_some o
      mapped None = refl
      mapped (Some x) = refl

      or_there : (o q : Option TermValue) → is_some o ≡ true → option_or o q ≡ o
      or_there None q h = absurd (true≢false (sym h))
      or_there (Some x) q h = refl

  -- one that has none gets the term
  pub put_value : (after : List Term) (x : Option NumberedValue) → IsGrown before after → All (IsValueWithin before) vs → is_some (slice_index_or vs k.variable None) ≡ false
      → option_map (value_in after) x ≡ given_term program models at_values (shown_keyed k).1
      → values_in after (slice_set vs k.variable x) ≡ with_term_of program models scope (values_in before vs) (shown_keyed k)
  put_value after x grown within missing is =
      map-set (option_map (value_in after)) vs k.variable x
      ∙ ap (λ us. slice_set us k.variable (option_map (value_in after) x)) (values_grown before after vs grown within)
      ∙ ap (slice_set (values_in before vs) k.variable) (is ∙ sym (or_missing (value_of (values_in before vs) k.variable) (given_term program models at_values (shown_keyed k).1) none))
    where
      mapped : (o : Option NumberedValue) → is_some (option_map (value_in before) o) ≡ is_some o
      mapped None = refl
      mapped (Some y) = refl

      none : is_some (value_of (values_in before vs) k.variable) ≡ false
      none = ap is_some (sym (value_shown before vs k.variable)) ∙ mapped (slice_index_or vs k.variable None) ∙ missing

      or_missing : (o q : Option TermValue) → is_some o ≡ false → option_or o q ≡ q
      or_missing None q h = refl
      or_missing (Some y) q h = absurd (true≢false h)

-- ---- the whole entry

-- values and data as what is known
abbrev pub known_with : TermValues → Scope → Known
known_with x scope = record { values = x; scope = scope }

-- before anything is made
pub bound_is : (terms : List Term) (b vs : List (Option NumberedValue)) (scope : Scope) → vs ≡ b → scope ≡ map bound_out b → known_with (values_in terms vs) scope ≡ known (values_in terms b)
bound_is terms b vs scope same_values same_scope =
    ap (λ (us : List (Option NumberedValue)). known_with (values_in terms us) scope) same_values ∙ ap (known_with (values_in terms b)) (same_scope ∙ sym (bound_scope terms b))

pub equations_below : (n : ℕ) (qs : List Equation) → AllByRecursion (λ (q : Equated). q.0 < n) (map shown_equation qs) → All (λ (q : Equation). q.variable < n) qs
equations_below n [] all k d below = absurd (omega (arith, below))
equations_below n (q ∷ qs) all zero d below = all.0
equations_below n (q ∷ qs) all (suc k) d below = equations_below n qs all.1 k d (omega (arith, below))

pub keyed_below : (n : ℕ) (ks : List Keyed) → AllByRecursion (λ (k : KeyedVariable). k.0 < n) (map shown_keyed ks) → All (λ (k : Keyed). k.variable < n) ks
keyed_below n [] all i d below = absurd (omega (arith, below))
keyed_below n (k ∷ ks) all zero d below = all.0
keyed_below n (k ∷ ks) all (suc i) d below = keyed_below n ks all.1 i d (omega (arith, below))

or_within : (a : List Term) (o q : Option NumberedValue) → IsValueWithin a o → IsValueWithin a q → IsValueWithin a (option_or o q)
or_within a None q h i = i
or_within a (Some x) q h i = h

-- the values to begin with are within the table
pub begun_within : (a : List Term) (b : List (Option NumberedValue)) (scope : Scope) → All (IsValueWithin a) b → All (IsValueWithin a) (map (number_or_datum b scope) (range_with_len 0 (length b)))
begun_within a b scope w k d below =
    let less : k < length b = omega (arith, below, length-map-range_with_len (number_or_datum b scope) 0 (length b)) in
    subst (IsValueWithin a) (sym (get_or-map-range_with_len (number_or_datum b scope) 0 (length b) k k d less (omega arith)))
    (or_within a (slice_index_or b k None) (given_number (variable scope k)) (item_within a b k w) (given_within a (variable scope k)))

module _ (program : Program) (models : List ModelData) (recipe : Recipe) (is : IsRecipe program (target_metamodel program models) recipe.rel.now recipe)
    (a : List Term) (b : List (Option NumberedValue)) (long : length b ≡ length recipe.rel.now.vars) where
  abbrev rel : Rel
  rel = recipe.rel.now

  abbrev begin : TermValues
  begin = values_in a b

  -- its data
  pub scope_is : computed program models (map bound_out b) (map shown_equation recipe.equations) ≡ entry_scope program models rel begin
  scope_is = ap (λ s. computed program models s (map shown_equation recipe.equations)) (sym (bound_scope a b))
      ∙ is.equations models (scope_of (data_in begin)) (ap (λ (xs : List Out). length xs) (bound_scope a b) ∙ length-map b bound_out ∙ long)

  -- all that is known
  pub known_is : (after : List Term) (vs : List (Option NumberedValue)) (scope last : Scope) → AreGiven program rel begin → last ≡ scope
      → scope ≡ computed program models (map bound_out b) (map shown_equation recipe.equations)
      → values_in after vs ≡ terms_made program models scope (values_in a (map (number_or_datum b scope) (range_with_len 0 (length b)))) (map shown_keyed recipe.keyed)
      → known_with (values_in after vs) last ≡ entry_known program models rel begin
  known_is after vs scope last given last_is scope_computed values_made =
      let same : scope ≡ entry_scope program models rel begin = scope_computed ∙ scope_is in
      let first : values_in a (map (number_or_datum b scope) (range_with_len 0 (length b))) ≡ map (value_or_datum begin scope) (variables rel) =
      begun_shown a b scope (range_with_len 0 (length b)) ∙ ap (λ n. map (value_or_datum begin scope) (range_with_len 0 n)) long in
      let made = values_made ∙ ap (λ x. terms_made program models scope x (map shown_keyed recipe.keyed)) first
      ∙ is.keyed models scope (map (value_or_datum begin scope) (variables rel)) refl (length-map-range_with_len (value_or_datum begin scope) 0 (length rel.vars)) given_begun in
      ap (known_with (values_in after vs)) last_is ∙ ap (λ x. known_with x scope) made ∙ ap (known_by program models rel (target_items program rel) begin) same
    where
      given_begun : AreGiven program rel (map (value_or_datum begin scope) (variables rel))
      given_begun v below unmade class =
          ap is_some (get_or-map-range_with_len (value_or_datum begin scope) 0 (length rel.vars) v v None below (omega arith)) ∙ or_some (given_out (variable scope v)) (value_of begin v) (given v below unmade class)
        where
          or_some : (q o : Option TermValue) → is_some o ≡ true → is_some (option_or o q) ≡ true
          or_some q None h = absurd (true≢false (sym h))
          or_some q (Some x) h = refl

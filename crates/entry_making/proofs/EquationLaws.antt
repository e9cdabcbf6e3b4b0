-- The equations of a relation without a circle, each behind those whose variables it names, give in one pass what rounds give.
use Rattle.std.specs.Prelude.{◌≡◌, ◌⊎◌, ◌<◌, ◌≤◌, ◌+◌, ◌==◌, ℕ, zero, suc, Bool, true, false, List, [], ◌∷◌, length, map, Option, None, Some, slice_index_or, slice_set, Contains, if◌then◌else◌}
use Rattle.std.specs.List.{range_with_len, AllByRecursion, IsDistinct}
use Rattle.std.specs.List.Sorted.{IsPermutation}
use Rattle.std.specs.Option.{option_map}
use Rattle.std.proofs.Common.{refl, sym, ap, subst, ◌∙◌, arith, inl, inr, eqb, eq-eqb}
use Rattle.std.proofs.lemmas.Bool.{cases_lt, true≢false, eqb-true}
use Rattle.std.proofs.lemmas.List.{get_or_past, get_or_default, get_or-map, length-map}
use Rattle.std.proofs.lemmas.List.FromFn.{length-map-range_with_len, get_or-map-range_with_len, get_or-range_with_len, length-range_with_len}
use Rattle.std.proofs.lemmas.List.Sorted.{Contains-permutation, IsPermutation-sym}
use Rattle.std.proofs.lemmas.Map.Keys.{IsDistinct-IsPermutation}
use Rattle.mof_metamodel.proofs.Facts.{nothing_in, contains_first}
use Rattle.object_tables.specs.Models.{ModelData}
use Rattle.call_graph.specs.Graphs.{Graph, Leads, neighbours}
use Rattle.qv_syntax.specs.declared.program.Program.{Program}
use Rattle.qv_syntax.specs.declared.program.Rel.{Rel}
use Rattle.qv_syntax.specs.declared.program.Conj.{Conj}
use Rattle.qv_syntax.specs.declared.program.Conj.TheVariants as conjuncts
use Rattle.qv_syntax.specs.declared.typed.Typed.{Typed}
use Rattle.qvtr_semantics.specs.declared.out.Out.{Out}
use Rattle.qvtr_semantics.specs.declared.out.Out.TheVariants as outs
use Rattle.qvtr_semantics.specs.Expressions.{Scope, value, variable}
use Rattle.enforcement_rules.specs.Mentions.{variables_of}
use Rattle.enforcement_rules.specs.KnownVariables.{NamesOf}
use Rattle.enforcement_rules.proofs.VariableLaws.{names_listed, listed_names}
use Rattle.repair_semantics.specs.Making.{variables, equation_of, by_equation, scope_within}
use Rattle.entry_making.specs.Passes.{at, passed, IsStill, AreSteps}
use Rattle.entry_making.specs.Orders.{LeadsThrough, HasNoCycle, AreBehind, IsOrder}
use Rattle.entry_making.specs.Orderable.{WaitsForEquation}
use Rattle.entry_making.specs.declared.origin.Equation.{Equation}
use Rattle.entry_making.specs.Equations.{Equated, shown_equation, equated, row_of, at_node, picked, computed, AreOfRelation, AreInOrder}
use Rattle.entry_making.proofs.PassLaws.{first_or_later, kept_later, one_pass}
use Rattle.entry_making.proofs.OrderLaws.{in_range}
use Rattle.entry_making.proofs.RangeLaws.{eqb_flips, range_distinct, ordered_below}
use Rattle.entry_making.proofs.ScopeLaws.{same_value}

-- ---- no more variables have equations than there are conjuncts

-- those of a list that have an equation
abbrev kept_if : Option Typed → ℕ → List ℕ → List ℕ
kept_if None v vs = vs
kept_if (Some e) v vs = v ∷ vs

abbrev pub with_equation : List Conj → List ℕ → List ℕ
with_equation cs [] = []
with_equation cs (v ∷ vs) = kept_if (equation_of cs v) v (with_equation cs vs)

-- how often a number stands in a list
abbrev one_if : Bool → ℕ
one_if true = 1
one_if false = 0

abbrev times : ℕ → List ℕ → ℕ
times w [] = 0
times w (v ∷ vs) = one_if (w == v) + times w vs

never : (w v : ℕ) (vs : List ℕ) → w ≡ v → AllByRecursion (λ y. eqb v y ≡ false) vs → times w vs ≡ 0
never w v [] same all = refl
never w v (y ∷ ys) same all =
    let differs : one_if (w == y) ≡ 0 = ap one_if (ap (λ k. eqb k y) same ∙ all.0) in
    let rest : times w ys ≡ 0 = never w v ys same all.1 in omega (arith, differs, rest)

once : (w : ℕ) (vs : List ℕ) → IsDistinct eqb vs → times w vs ≤ 1
unfolding IsDistinct
once w [] distinct = omega arith
once w (v ∷ vs) distinct = by (w == v) refl (once w vs distinct.1)
  where
    by : (b : Bool) → (w == v) ≡ b → times w vs ≤ 1 → one_if (w == v) + times w vs ≤ 1
    by true is r = let e : one_if (w == v) ≡ 1 = ap one_if is in let none : times w vs ≡ 0 = never w v vs (eqb-true w v is) distinct.0 in omega (arith, e, none)
    by false is r = let e : one_if (w == v) ≡ 0 = ap one_if is in omega (arith, e, r)

one_more : (w : ℕ) (e : Typed) (cs : List Conj) (vs : List ℕ) → length (with_equation (conjuncts.Equation w e ∷ cs) vs) ≤ times w vs + length (with_equation cs vs)
one_more w e cs [] = omega arith
one_more w e cs (v ∷ vs) = by (w == v) (equation_of cs v) refl refl (one_more w e cs vs)
  where
    by : (b : Bool) (o : Option Typed) → (w == v) ≡ b → equation_of cs v ≡ o → length (with_equation (conjuncts.Equation w e ∷ cs) vs) ≤ times w vs + length (with_equation cs vs)
        → length (kept_if (if w == v then Some e else equation_of cs v) v (with_equation (conjuncts.Equation w e ∷ cs) vs)) ≤ one_if (w == v) + times w vs + length (kept_if (equation_of cs v) v (with_equation cs vs))
    by true None is o h = rw (is, o) (omega (arith, h))
    by true (Some f) is o h = rw (is, o) (omega (arith, h))
    by false None is o h = rw (is, o) (omega (arith, h))
    by false (Some f) is o h = rw (is, o) (omega (arith, h))

no_conjunct : (vs : List ℕ) → length (with_equation [] vs) ≡ 0
no_conjunct [] = refl
no_conjunct (v ∷ vs) = no_conjunct vs

same_but_equations : (c : Conj) (cs : List Conj) (vs : List ℕ) → ((v : ℕ) → equation_of (c ∷ cs) v ≡ equation_of cs v) → length (with_equation (c ∷ cs) vs) ≡ length (with_equation cs vs)
same_but_equations c cs [] same = refl
same_but_equations c cs (v ∷ vs) same = by (equation_of cs v) (same v) (same_but_equations c cs vs same)
  where
    by : (o : Option Typed) → equation_of (c ∷ cs) v ≡ o → length (with_equation (c ∷ cs) vs) ≡ length (with_equation cs vs)
        → length (kept_if (equation_of (c ∷ cs) v) v (with_equation (c ∷ cs) vs)) ≡ length (kept_if o v (with_equation cs vs))
    by None is h = rw is h
    by (Some e) is h = rw is (ap suc h)

few : (cs : List Conj) (vs : List ℕ) → IsDistinct eqb vs → length (with_equation cs vs) ≤ length cs
few [] vs distinct = omega (arith, no_conjunct vs)
few (conjuncts.Cond e ∷ cs) vs distinct = omega (arith, same_but_equations (conjuncts.Cond e) cs vs (λ v. refl), few cs vs distinct)
few (conjuncts.Equation w e ∷ cs) vs distinct = omega (arith, one_more w e cs vs, once w vs distinct, few cs vs distinct)
few (conjuncts.Call number args ∷ cs) vs distinct = omega (arith, same_but_equations (conjuncts.Call number args) cs vs (λ v. refl), few cs vs distinct)

-- ---- the graph of equations

some_none : {X : Type 0} (x : X) → Some x ≡ None → ⊥
some_none x e = absurd (cc)

module _ (rel : Rel) where
  abbrev n : ℕ
  n = length rel.vars

  abbrev pub table : List (Option Equated)
  table = map (equated rel.wheres) (variables rel)

  abbrev pub rows : Graph
  rows = map (row_of n) table

  rows_long : length rows ≡ n
  rows_long = length-map table (row_of n) ∙ length-map-range_with_len (equated rel.wheres) 0 n

  table_at : (v : ℕ) → v < n → at_node table v ≡ equated rel.wheres v
  table_at v below = get_or-map-range_with_len (equated rel.wheres) 0 n v v None below (omega arith)

  node : (v : ℕ) → v < n → (o : Option Typed) → equation_of rel.wheres v ≡ o → at_node table v ≡ option_map (λ e. (v, e)) o
  node v below o is = table_at v below ∙ ap (option_map (λ e. (v, e))) is

  row_at : (v : ℕ) → v < n → neighbours rows v ≡ row_of n (equated rel.wheres v)
  row_at v below =
      get_or-map (row_of n) table v None [] (omega (arith, below, length-map-range_with_len (equated rel.wheres) 0 n)) ∙ ap (row_of n) (table_at v below)

  -- the edges are those from a variable to those that its equation names
  leads_waits : (v w : ℕ) → Leads rows v w → WaitsForEquation rel v w
  leads_waits v w leads = elim (cases_lt v n) [
    | inl below ↦ go (equation_of rel.wheres v) refl (subst (λ xs. (k : ℕ) × (k < length xs) × (slice_index_or xs k 0 ≡ w)) (row_at v below) leads)
    | inr past ↦ (let (k, within, is) = leads in
        let none : neighbours rows v ≡ [] = get_or_past rows v [] (omega (arith, past, rows_long)) in
        let short : length (neighbours rows v) ≡ 0 = ap (λ (xs : List ℕ). length xs) none in absurd (omega (arith, within, short)))
  ]
    where
      go : (o : Option Typed) → equation_of rel.wheres v ≡ o
          → (k : ℕ) × (k < length (row_of n (option_map (λ e. (v, e)) o))) × (slice_index_or (row_of n (option_map (λ e. (v, e)) o)) k 0 ≡ w) → WaitsForEquation rel v w
      go None is (k, within, at) = absurd (omega (arith, within))
      go (Some e) is (k, within, at) =
          record { e = e; equation = is; names = listed_names rel e w (k, within, get_or_default (variables_of n e) k w 0 within ∙ at) }

  waits_leads : (v w : ℕ) → v < n → WaitsForEquation rel v w → Leads rows v w
  waits_leads v w below waits =
      let (k, within, is) = names_listed rel waits.e w waits.names in
      let row : neighbours rows v ≡ variables_of n waits.e = row_at v below ∙ ap (λ o. row_of n (option_map (λ e. (v, e)) o)) waits.equation in
      subst (λ xs. (k : ℕ) × (k < length xs) × (slice_index_or xs k 0 ≡ w)) (sym row) (k, within, get_or_default (variables_of n waits.e) k 0 w within ∙ is)

  through_waits : (v w : ℕ) → LeadsThrough (Leads rows) v w → LeadsThrough (WaitsForEquation rel) v w
  through_waits v w (LeadsThrough.direct _ _ leads) = LeadsThrough.direct v w (leads_waits v w leads)
  through_waits v w (LeadsThrough.more _ u _ leads rest) = LeadsThrough.more v u w (leads_waits v u leads) (through_waits u w rest)

  pub rows_acyclic : HasNoCycle (WaitsForEquation rel) → HasNoCycle (Leads rows)
  rows_acyclic none v path = none v (through_waits v v path)

  -- the rows of a table as it is shown
  pub rows_are : (t : List (Option Equation)) → map (option_map shown_equation) t ≡ table → map (row_of (length t)) (map (option_map shown_equation) t) ≡ rows
  rows_are t is =
      ap (λ k. map (row_of k) (map (option_map shown_equation) t)) (sym (length-map t (option_map shown_equation)) ∙ ap (λ (xs : List (Option Equated)). length xs) is ∙ length-map-range_with_len (equated rel.wheres) 0 n)
      ∙ ap (λ (xs : List (Option Equated)). map (row_of n) xs) is

  -- ---- equations in an order

  abbrev steps : List ℕ → List ℕ
  steps vs = with_equation rel.wheres vs

  abbrev pub ordered : List ℕ → List Equated
  ordered vs = picked table vs

  abbrev AllBelow : List ℕ → Type 0
  AllBelow vs = (v : ℕ) → Contains vs v → v < n

  kept_step : (done : List ℕ) (w : ℕ) (e : Typed) → Contains done w → equation_of rel.wheres w ≡ Some e → Contains (steps done) w
  kept_step [] w e c is = absurd (nothing_in w c)
  kept_step (v ∷ vs) w e c is = by (equation_of rel.wheres v) refl (first_or_later w v vs c) (λ later. kept_step vs w e later is)
    where
      by : (o : Option Typed) → equation_of rel.wheres v ≡ o → (w ≡ v) ⊎ Contains vs w → (Contains vs w → Contains (steps vs) w)
          → Contains (kept_if (equation_of rel.wheres v) v (steps vs)) w
      by None none (inl same) rest = absurd (some_none e (sym is ∙ ap (equation_of rel.wheres) same ∙ none))
      by None none (inr later) rest = rw none (rest later)
      by (Some f) some (inl same) rest = rw some (subst (Contains (v ∷ steps vs)) (sym same) (contains_first v (steps vs)))
      by (Some f) some (inr later) rest = rw some (kept_later w v (steps vs) (rest later))

  module _ (program : Program) (models : List ModelData) (before : Scope) (long : length before ≡ n) where
    abbrev next : ℕ → Scope → Out
    next v x = by_equation program models x (variable before v) (equation_of rel.wheres v)

    abbrev Still : ℕ → Type 0
    Still = IsStill outs.Invalid next before

    still_at : (v : ℕ) → equation_of rel.wheres v ≡ None → Still v
    still_at v none x = ap (by_equation program models x (variable before v)) none

    local : (v : ℕ) (x y : Scope) → v < n → length x ≡ n → length y ≡ n
        → ((w : ℕ) → w < n → WaitsForEquation rel v w → at outs.Invalid x w ≡ at outs.Invalid y w) → next v x ≡ next v y
    local v x y below x_long y_long same = by (equation_of rel.wheres v) refl
      where
        by : (o : Option Typed) → equation_of rel.wheres v ≡ o → next v x ≡ next v y
        by None is = still_at v is x ∙ sym (still_at v is y)
        by (Some e) is =
            ap (by_equation program models x (variable before v)) is
            ∙ same_value rel e program models x y x_long y_long (λ w w_below names. same w w_below (record { e = e; equation = is; names = names }))
            ∙ sym (ap (by_equation program models y (variable before v)) is)

    abbrev round : ℕ → Scope
    round k = scope_within program models rel before k

    round_long : (k : ℕ) → length (round k) ≡ n
    round_long zero = long
    round_long (suc k) = length-map-range_with_len (λ v. next v (round k)) 0 n

    again : (k v : ℕ) → v < n → at outs.Invalid (round (suc k)) v ≡ next v (round k)
    again k v below = get_or-map-range_with_len (λ w. next w (round k)) 0 n v v outs.Invalid below (omega arith)

    are_steps : (done vs : List ℕ) → AreBehind rows done vs → AllBelow vs → AreSteps Still (WaitsForEquation rel) n (steps done) (steps vs)
    are_steps done [] behind below = tt
    are_steps done (v ∷ vs) behind below = by (equation_of rel.wheres v) refl (are_steps (v ∷ done) vs behind.1 (λ w c. below w (kept_later w v vs c)))
      where
        waited : (w : ℕ) → w < n → WaitsForEquation rel v w → Contains (steps done) w ⊎ Still w
        waited w w_below waits = go (equation_of rel.wheres w) refl
          where
            go : (o : Option Typed) → equation_of rel.wheres w ≡ o → Contains (steps done) w ⊎ Still w
            go None none = inr (still_at w none)
            go (Some e) some = inl (kept_step done w e (behind.0 w (omega (arith, w_below, rows_long)) (waits_leads v w (below v (contains_first v vs)) waits)) some)

        by : (o : Option Typed) → equation_of rel.wheres v ≡ o → AreSteps Still (WaitsForEquation rel) n (steps (v ∷ done)) (steps vs) → AreSteps Still (WaitsForEquation rel) n (steps done) (steps (v ∷ vs))
        by None none rest = rw none (subst (λ xs. AreSteps Still (WaitsForEquation rel) n xs (steps vs)) (ap (λ o. kept_if o v (steps done)) none) rest)
        by (Some e) some rest = rw some (below v (contains_first v vs), waited, subst (λ xs. AreSteps Still (WaitsForEquation rel) n xs (steps vs)) (ap (λ o. kept_if o v (steps done)) some) rest)

    -- one equation after another is a pass over their variables
    passes : (x : Scope) (vs : List ℕ) → AllBelow vs → computed program models x (ordered vs) ≡ passed next x (steps vs)
    passes x [] below = refl
    passes x (v ∷ vs) below = by (equation_of rel.wheres v) refl (λ y. passes y vs (λ w c. below w (kept_later w v vs c)))
      where
        by : (o : Option Typed) → equation_of rel.wheres v ≡ o → ((y : Scope) → computed program models y (ordered vs) ≡ passed next y (steps vs))
            → computed program models x (ordered (v ∷ vs)) ≡ passed next x (steps (v ∷ vs))
        by None is rest = rw (node v (below v (contains_first v vs)) None is, is) (rest x)
        by (Some e) is rest =
            rw (node v (below v (contains_first v vs)) (Some e) is, is)
            (rest (slice_set x v (value program models e x)) ∙ ap (λ o. passed next (slice_set x v o) (steps vs)) (sym (ap (by_equation program models x (variable before v)) is)))

  module _ (order : List ℕ) (is : IsOrder rows order) where
    range : IsPermutation (range_with_len 0 n) order
    range = subst (λ k. IsPermutation (range_with_len 0 k) order) rows_long is.nodes

    all_below : AllBelow order
    all_below v c = ordered_below n order v range c

    pub in_relation : AreOfRelation rel (ordered order)
    in_relation = go order all_below
      where
        go : (vs : List ℕ) → AllBelow vs → AreOfRelation rel (ordered vs)
        go [] below = tt
        go (v ∷ vs) below = by (equation_of rel.wheres v) refl (go vs (λ w c. below w (kept_later w v vs c)))
          where
            by : (o : Option Typed) → equation_of rel.wheres v ≡ o → AreOfRelation rel (ordered vs) → AreOfRelation rel (ordered (v ∷ vs))
            by None none rest = rw (node v (below v (contains_first v vs)) None none) rest
            by (Some e) some rest = rw (node v (below v (contains_first v vs)) (Some e) some) (below v (contains_first v vs), rest)

    pub in_order : (program : Program) → AreInOrder program rel (ordered order)
    in_order program models before long =
        passes program models before long before order all_below
        ∙ one_pass outs.Invalid n (next program models before long) before (WaitsForEquation rel) (local program models before long) (round program models before long) (round_long program models before long) refl
        (again program models before long) (steps order) (length rel.wheres) (are_steps program models before long [] order is.behind all_below)
        (λ v below. covered v below (equation_of rel.wheres v) refl)
        (few rel.wheres order (IsDistinct-IsPermutation eqb eqb_flips (range_with_len 0 n) order range (range_distinct 0 n)))
      where
        covered : (v : ℕ) → v < n → (o : Option Typed) → equation_of rel.wheres v ≡ o → Contains (steps order) v ⊎ Still program models before long v
        covered v below None none = inr (still_at program models before long v none)
        covered v below (Some e) some = inl (kept_step order v e (Contains-permutation (range_with_len 0 n) order v range (in_range 0 n v (omega arith) (omega (arith, below)))) some)

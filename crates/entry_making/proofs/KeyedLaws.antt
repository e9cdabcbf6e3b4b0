-- The variables for which a relation makes terms, each behind those that stand in its key values, get in one pass the terms that rounds give.
use Rattle.std.specs.Prelude.{◌≡◌, ◌≢◌, ◌⊎◌, ◌<◌, ◌≤◌, ◌+◌, ℕ, zero, suc, Bool, true, false, List, [], ◌∷◌, ◌++◌, length, map, Option, None, Some, is_some, slice_index_or, slice_set, Contains, if◌then◌else◌}
use Rattle.std.specs.List.{range_with_len, flat_map, AllByRecursion, IsDistinct}
use Rattle.std.specs.List.Sorted.{IsPermutation}
use Rattle.std.specs.Option.{option_map, option_and_then, option_or, option_to_list}
use Rattle.std.proofs.Common.{refl, sym, ap, subst, ◌∙◌, arith, inl, inr, eqb, eq-eqb}
use Rattle.std.proofs.lemmas.Bool.{cases_lt, cases_eq, true≢false, eqb-true}
use Rattle.std.proofs.lemmas.List.{get_or_past, get_or_default, get_or-set_other, length-map}
use Rattle.std.proofs.lemmas.List.FromFn.{length-map-range_with_len, get_or-map-range_with_len, length-range_with_len}
use Rattle.std.proofs.lemmas.List.Sorted.{Contains-permutation, length_permutation}
use Rattle.std.proofs.lemmas.List.Elements.{Contains-append_left, Contains-append_right, Contains-append_cases}
use Rattle.std.proofs.lemmas.Map.Keys.{IsDistinct-IsPermutation}
use Rattle.mof_metamodel.specs.declared.desc.MetaDesc.{MetaDesc}
use Rattle.mof_metamodel.specs.declared.desc.PropId.{PropId}
use Rattle.mof_metamodel.specs.Metamodels.{opposite_of}
use Rattle.mof_metamodel.proofs.Facts.{nothing_in, contains_first, only_one}
use Rattle.object_tables.specs.Models.{ModelData}
use Rattle.call_graph.specs.Graphs.{Graph, Leads, neighbours}
use Rattle.qv_syntax.specs.declared.program.Program.{Program}
use Rattle.qv_syntax.specs.declared.program.Rel.{Rel}
use Rattle.qv_syntax.specs.declared.typed.Typed.{Typed}
use Rattle.qvtr_semantics.specs.Outs.{all_given}
use Rattle.qvtr_semantics.specs.Expressions.{Scope, value}
use Rattle.repair_semantics.specs.declared.term.TermValue.{TermValue}
use Rattle.repair_semantics.specs.EntryValues.{TermValues, Known, value_of, variable_alone, given_by, given_value}
use Rattle.repair_semantics.specs.TargetItems.{Content, TargetItem, class_of_variable, key_of, target_items, target_metamodel}
use Rattle.repair_semantics.specs.Making.{variables, content_value, first_item, item_around, is_option_of, parent_value, key_value_by, key_value, keyed, term_by, made_term, with_terms, values_within}
use Rattle.entry_making.specs.Passes.{at, passed, IsStill, AreSteps}
use Rattle.entry_making.specs.Orders.{LeadsThrough, HasNoCycle, AreBehind, IsOrder}
use Rattle.entry_making.specs.Orderable.{WaitsForKey}
use Rattle.entry_making.specs.Givers.{Giver, KeyGivers, giver_value, giver_by, expression_giver, content_giver, parent_giver, key_giver_by, key_giver, givers_of_class, key_givers, given_term, is_made}
use Rattle.entry_making.specs.KeyedVariables.{KeyedVariable, keyed_if, keyed_at, variables_in, key_row, keyed_among, with_term_of, terms_made, AreGiven, AreVariablesOf, AreMadeInOrder}
use Rattle.entry_making.proofs.PassLaws.{first_or_later, kept_later, one_pass}
use Rattle.entry_making.proofs.OrderLaws.{in_range}
use Rattle.entry_making.proofs.RangeLaws.{eqb_flips, range_distinct, ordered_below}

-- ---- what is given is the value

module _ (program : Program) (models : List ModelData) (k : Known) where
  pub expression_given : (e : Typed) → given_value program models k e ≡ giver_value program models k (expression_giver e)
  expression_given e = by (variable_alone e)
    where
      by : (o : Option ℕ) → given_by program models k e o ≡ giver_value program models k (giver_by e o)
      by None = refl
      by (Some v) = refl

  pub content_given : (c : Content) → content_value program models k c ≡ giver_value program models k (content_giver c)
  content_given Content.empty = refl
  content_given (Content.expression e) = expression_given e
  content_given (Content.template v) = refl

  parent_given : (p : ℕ) (around : Option TargetItem) → parent_value program models k p around ≡ giver_value program models k (parent_giver (target_metamodel program models) p around)
  parent_given p None = refl
  parent_given p (Some item) = by (is_option_of (opposite_of (target_metamodel program models) item.prop.0) p)
    where
      by : (b : Bool) → (if b then value_of k.values item.owner else None) ≡ giver_value program models k (if b then Giver.variable item.owner else Giver.nothing)
      by true = refl
      by false = refl

  key_given : (items : List TargetItem) (v : ℕ) (p : PropId) → key_value program models items k v p ≡ giver_value program models k (key_giver (target_metamodel program models) items v p)
  key_given items v p = by (first_item items v p.0)
    where
      by : (o : Option TargetItem) → key_value_by program models k p.0 o (item_around items v) ≡ giver_value program models k (key_giver_by (target_metamodel program models) p.0 o (item_around items v))
      by None = parent_given p.0 (item_around items v)
      by (Some item) = content_given item.content

  keys_given : (items : List TargetItem) (v : ℕ) (props : List PropId)
      → map (key_value program models items k v) props ≡ map (giver_value program models k) (map (key_giver (target_metamodel program models) items v) props)
  keys_given items v [] = refl
  keys_given items v (p ∷ ps) =
      ap (λ o. o ∷ map (key_value program models items k v) ps) (key_given items v p)
      ∙ ap (λ os. giver_value program models k (key_giver (target_metamodel program models) items v p) ∷ os) (keys_given items v ps)

  -- the term of a variable is that of what gives the values of its key properties
  made_given : (rel : Rel) (items : List TargetItem) (v : ℕ)
      → made_term program models rel items k v ≡ option_and_then (given_term program models k) (key_givers program (target_metamodel program models) rel items v)
  made_given rel items v = by (class_of_variable rel v)
    where
      of_class : (class : ℕ) (o : Option (List PropId))
          → option_and_then (λ props. option_map (keyed class) (all_given (map (key_value program models items k v) props))) o
          ≡ option_and_then (given_term program models k) (option_map (λ props. record { class = class; keys = map (key_giver (target_metamodel program models) items v) props }) o)
      of_class class None = refl
      of_class class (Some props) = ap (λ os. option_map (keyed class) (all_given os)) (keys_given items v props)

      by : (o : Option ℕ) → option_and_then (term_by program models items k v) o
          ≡ option_and_then (given_term program models k) (option_and_then (givers_of_class program (target_metamodel program models) items v) o)
      by None = refl
      by (Some class) = of_class class (key_of program class)

-- ---- what a term depends on

-- terms are one where the variables among their givers have one value
givers_same : (program : Program) (models : List ModelData) (scope : Scope) (x y : TermValues) (gs : List Giver)
    → ((w : ℕ) → Contains gs (Giver.variable w) → value_of x w ≡ value_of y w)
    → map (giver_value program models (record { values = x; scope = scope })) gs ≡ map (giver_value program models (record { values = y; scope = scope })) gs
givers_same program models scope x y [] same = refl
givers_same program models scope x y (g ∷ gs) same =
    ap (λ o. o ∷ map (giver_value program models (record { values = x; scope = scope })) gs) (by g (λ w is. same w (subst (λ h. Contains (h ∷ gs) (Giver.variable w)) (sym is) (contains_first (Giver.variable w) gs))))
    ∙ ap (λ os. giver_value program models (record { values = y; scope = scope }) g ∷ os) (givers_same program models scope x y gs (λ w c. same w (kept_later (Giver.variable w) g gs c)))
  where
    by : (h : Giver) → ((w : ℕ) → h ≡ Giver.variable w → value_of x w ≡ value_of y w)
        → giver_value program models (record { values = x; scope = scope }) h ≡ giver_value program models (record { values = y; scope = scope }) h
    by Giver.nothing h = refl
    by (Giver.variable w) h = h w refl
    by (Giver.expression e) h = refl

-- ---- rows

in_row : (gs : List Giver) (w : ℕ) → Contains gs (Giver.variable w) → Contains (flat_map variables_in gs) w
in_row [] w c = absurd (nothing_in (Giver.variable w) c)
in_row (g ∷ gs) w c = elim (first_or_later (Giver.variable w) g gs c) [
  | inl is ↦ Contains-append_left (variables_in g) (flat_map variables_in gs) w (subst (λ h. Contains (variables_in h) w) is (contains_first w []))
  | inr later ↦ Contains-append_right (variables_in g) (flat_map variables_in gs) w (in_row gs w later)
]

from_row : (gs : List Giver) (w : ℕ) → Contains (flat_map variables_in gs) w → Contains gs (Giver.variable w)
from_row [] w c = absurd (nothing_in w c)
from_row (g ∷ gs) w c = elim (Contains-append_cases (variables_in g) (flat_map variables_in gs) w c) [
  | inl here ↦ subst (λ h. Contains (h ∷ gs) (Giver.variable w)) (sym (by g here)) (contains_first (Giver.variable w) gs)
  | inr there ↦ kept_later (Giver.variable w) g gs (from_row gs w there)
]
  where
    by : (h : Giver) → Contains (variables_in h) w → h ≡ Giver.variable w
    by Giver.nothing c = absurd (nothing_in w c)
    by (Giver.variable v) c = ap (λ n. Giver.variable n) (only_one v w c)
    by (Giver.expression e) c = absurd (nothing_in w c)

some_none : {X : Type 0} (x : X) → Some x ≡ None → ⊥
some_none x e = absurd (cc)

module _ (program : Program) (desc : MetaDesc) (rel : Rel) where
  abbrev n : ℕ
  n = length rel.vars

  abbrev items : List TargetItem
  items = target_items program rel

  abbrev node : ℕ → Option KeyedVariable
  node v = keyed_at program desc rel items v

  abbrev pub rows : Graph
  rows = map (λ v. key_row (node v)) (range_with_len 0 n)

  rows_long : length rows ≡ n
  rows_long = length-map-range_with_len (λ v. key_row (node v)) 0 n

  row_at : (v : ℕ) → v < n → neighbours rows v ≡ key_row (node v)
  row_at v below = get_or-map-range_with_len (λ w. key_row (node w)) 0 n v v [] below (omega arith)

  -- a variable with a key is made, and has these givers
  node_is : (v : ℕ) (k : KeyedVariable) → node v ≡ Some k → (is_made program rel v ≡ true) × (key_givers program desc rel items v ≡ Some k.1) × (k.0 ≡ v)
  node_is v k is = by (is_made program rel v) (key_givers program desc rel items v) refl refl is
    where
      by : (b : Bool) (o : Option KeyGivers) → is_made program rel v ≡ b → key_givers program desc rel items v ≡ o → keyed_if b v o ≡ Some k
          → (is_made program rel v ≡ true) × (key_givers program desc rel items v ≡ Some k.1) × (k.0 ≡ v)
      by true (Some g) made are same =
          let e : ◌≡◌ {A = KeyedVariable} (v, g) k = cc in
          (made, are ∙ ap (λ (x : KeyedVariable). Some x.1) e, sym (ap (λ (x : KeyedVariable). x.0) e))
      by true None made are same = absurd (some_none k (sym same))
      by false o made are same = absurd (some_none k (sym same))

  node_made : (v : ℕ) (g : KeyGivers) → is_made program rel v ≡ true → key_givers program desc rel items v ≡ Some g → node v ≡ Some (v, g)
  node_made v g made are = ap (λ b. keyed_if b v (key_givers program desc rel items v)) made ∙ ap (keyed_if true v) are

  leads_waits : (v w : ℕ) → Leads rows v w → WaitsForKey program desc rel v w
  leads_waits v w leads = elim (cases_lt v n) [
    | inl below ↦ go (node v) refl (subst (λ xs. (k : ℕ) × (k < length xs) × (slice_index_or xs k 0 ≡ w)) (row_at v below) leads)
    | inr past ↦ (let (k, within, is) = leads in
        let none : neighbours rows v ≡ [] = get_or_past rows v [] (omega (arith, past, rows_long)) in
        let short : length (neighbours rows v) ≡ 0 = ap (λ (xs : List ℕ). length xs) none in absurd (omega (arith, within, short)))
  ]
    where
      go : (o : Option KeyedVariable) → node v ≡ o → (k : ℕ) × (k < length (key_row o)) × (slice_index_or (key_row o) k 0 ≡ w) → WaitsForKey program desc rel v w
      go None is (k, within, at) = absurd (omega (arith, within))
      go (Some q) is (k, within, at) =
          let (made, are, own) = node_is v q is in
          record { made = made; givers = q.1; are = are; among = from_row q.1.keys w (k, within, get_or_default (flat_map variables_in q.1.keys) k w 0 within ∙ at) }

  waits_leads : (v w : ℕ) → v < n → WaitsForKey program desc rel v w → Leads rows v w
  waits_leads v w below waits =
      let (k, within, is) = in_row waits.givers.keys w waits.among in
      let row : neighbours rows v ≡ flat_map variables_in waits.givers.keys = row_at v below ∙ ap key_row (node_made v waits.givers waits.made waits.are) in
      subst (λ xs. (k : ℕ) × (k < length xs) × (slice_index_or xs k 0 ≡ w)) (sym row) (k, within, get_or_default (flat_map variables_in waits.givers.keys) k 0 w within ∙ is)

  through_waits : (v w : ℕ) → LeadsThrough (Leads rows) v w → LeadsThrough (WaitsForKey program desc rel) v w
  through_waits v w (LeadsThrough.direct _ _ leads) = LeadsThrough.direct v w (leads_waits v w leads)
  through_waits v w (LeadsThrough.more _ u _ leads rest) = LeadsThrough.more v u w (leads_waits v u leads) (through_waits u w rest)

  pub rows_acyclic : HasNoCycle (WaitsForKey program desc rel) → HasNoCycle (Leads rows)
  rows_acyclic none v path = none v (through_waits v v path)

  -- ---- variables in an order

  abbrev kept_if : Option KeyedVariable → ℕ → List ℕ → List ℕ
  kept_if None v vs = vs
  kept_if (Some k) v vs = v ∷ vs

  -- those of a list that have keys
  abbrev steps : List ℕ → List ℕ
  steps [] = []
  steps (v ∷ vs) = kept_if (node v) v (steps vs)

  abbrev pub ordered : List ℕ → List KeyedVariable
  ordered vs = keyed_among program desc rel items vs

  abbrev AllBelow : List ℕ → Type 0
  AllBelow vs = (v : ℕ) → Contains vs v → v < n

  few : (vs : List ℕ) → length (steps vs) ≤ length vs
  few [] = omega arith
  few (v ∷ vs) = by (node v) (few vs)
    where
      by : (o : Option KeyedVariable) → length (steps vs) ≤ length vs → length (kept_if o v (steps vs)) ≤ suc (length vs)
      by None h = omega (arith, h)
      by (Some k) h = omega (arith, h)

  kept_step : (done : List ℕ) (w : ℕ) (k : KeyedVariable) → Contains done w → node w ≡ Some k → Contains (steps done) w
  kept_step [] w k c is = absurd (nothing_in w c)
  kept_step (v ∷ vs) w k c is = by (node v) refl (first_or_later w v vs c) (λ later. kept_step vs w k later is)
    where
      by : (o : Option KeyedVariable) → node v ≡ o → (w ≡ v) ⊎ Contains vs w → (Contains vs w → Contains (steps vs) w) → Contains (kept_if (node v) v (steps vs)) w
      by None none (inl same) rest = absurd (some_none k (sym is ∙ ap node same ∙ none))
      by None none (inr later) rest = rw none (rest later)
      by (Some f) some (inl same) rest = rw some (subst (Contains (v ∷ steps vs)) (sym same) (contains_first v (steps vs)))
      by (Some f) some (inr later) rest = rw some (kept_later w v (steps vs) (rest later))

  module _ (models : List ModelData) (scope : Scope) (before : TermValues) (meta : target_metamodel program models ≡ desc) (long : length before ≡ n) (given : AreGiven program rel before) where
    abbrev at_values : TermValues → Known
    at_values x = record { values = x; scope = scope }

    abbrev next : ℕ → TermValues → Option TermValue
    next v x = option_or (value_of before v) (made_term program models rel items (at_values x) v)

    abbrev Still : ℕ → Type 0
    Still = IsStill None next before

    made_by : (v : ℕ) (x : TermValues) → made_term program models rel items (at_values x) v ≡ option_and_then (given_term program models (at_values x)) (key_givers program desc rel items v)
    made_by v x = made_given program models (at_values x) rel items v ∙ ap (λ d. option_and_then (given_term program models (at_values x)) (key_givers program d rel items v)) meta

    or_nothing : (o : Option TermValue) → option_or o None ≡ o
    or_nothing None = refl
    or_nothing (Some x) = refl

    or_there : (o q : Option TermValue) → is_some o ≡ true → option_or o q ≡ o
    or_there None q h = absurd (true≢false (sym h))
    or_there (Some x) q h = refl

    -- a variable without a key is still: its value is given, or it is no object
    still_at : (v : ℕ) → v < n → node v ≡ None → Still v
    still_at v below none x = by (is_made program rel v) (key_givers program desc rel items v) (class_of_variable rel v) refl refl refl none
      where
        no_class : class_of_variable rel v ≡ None → next v x ≡ value_of before v
        no_class c = ap (λ o. option_or (value_of before v) (option_and_then (term_by program models items (at_values x) v) o)) c ∙ or_nothing (value_of before v)

        by : (b : Bool) (o : Option KeyGivers) (c : Option ℕ) → is_made program rel v ≡ b → key_givers program desc rel items v ≡ o → class_of_variable rel v ≡ c → keyed_if b v o ≡ None
            → next v x ≡ value_of before v
        by true (Some g) c made are class same = absurd (some_none (v, g) same)
        by true None c made are class same =
            ap (option_or (value_of before v)) (made_by v x ∙ ap (option_and_then (given_term program models (at_values x))) are) ∙ or_nothing (value_of before v)
        by false o None made are class same = no_class class
        by false o (Some c) made are class same =
            or_there (value_of before v) (made_term program models rel items (at_values x) v) (given v below made (ap is_some class))

    local : (v : ℕ) (x y : TermValues) → v < n → length x ≡ n → length y ≡ n
        → ((w : ℕ) → w < n → WaitsForKey program desc rel v w → at None x w ≡ at None y w) → next v x ≡ next v y
    local v x y below x_long y_long same = by (node v) refl
      where
        by : (o : Option KeyedVariable) → node v ≡ o → next v x ≡ next v y
        by None none = still_at v below none x ∙ sym (still_at v below none y)
        by (Some k) is =
            let (made, are, own) = node_is v k is in
            let one : (z : TermValues) → made_term program models rel items (at_values z) v ≡ given_term program models (at_values z) k.1 =
            λ z. made_by v z ∙ ap (option_and_then (given_term program models (at_values z))) are in
            let both : map (giver_value program models (at_values x)) k.1.keys ≡ map (giver_value program models (at_values y)) k.1.keys =
            givers_same program models scope x y k.1.keys (λ w among. elim (cases_lt w n) [
              | inl w_below ↦ same w w_below (record { made = made; givers = k.1; are = are; among = among })
              | inr past ↦ get_or_past x w None (omega (arith, past, x_long)) ∙ sym (get_or_past y w None (omega (arith, past, y_long)))
            ]) in
            ap (option_or (value_of before v)) (one x ∙ ap (λ os. option_map (keyed k.1.class) (all_given os)) both ∙ sym (one y))

    abbrev round : ℕ → TermValues
    round k = values_within program models rel items scope before k

    round_long : (k : ℕ) → length (round k) ≡ n
    round_long zero = long
    round_long (suc k) = length-map-range_with_len (λ v. next v (round k)) 0 n

    again : (k v : ℕ) → v < n → at None (round (suc k)) v ≡ next v (round k)
    again k v below = get_or-map-range_with_len (λ w. next w (round k)) 0 n v v None below (omega arith)

    are_steps : (done vs : List ℕ) → AreBehind rows done vs → AllBelow vs → AreSteps Still (WaitsForKey program desc rel) n (steps done) (steps vs)
    are_steps done [] behind below = tt
    are_steps done (v ∷ vs) behind below = by (node v) refl (are_steps (v ∷ done) vs behind.1 (λ w c. below w (kept_later w v vs c)))
      where
        waited : (w : ℕ) → w < n → WaitsForKey program desc rel v w → Contains (steps done) w ⊎ Still w
        waited w w_below waits = go (node w) refl
          where
            go : (o : Option KeyedVariable) → node w ≡ o → Contains (steps done) w ⊎ Still w
            go None none = inr (still_at w w_below none)
            go (Some k) some = inl (kept_step done w k (behind.0 w (omega (arith, w_below, rows_long)) (waits_leads v w (below v (contains_first v vs)) waits)) some)

        by : (o : Option KeyedVariable) → node v ≡ o → AreSteps Still (WaitsForKey program desc rel) n (steps (v ∷ done)) (steps vs)
            → AreSteps Still (WaitsForKey program desc rel) n (steps done) (steps (v ∷ vs))
        by None none rest = rw none (subst (λ xs. AreSteps Still (WaitsForKey program desc rel) n xs (steps vs)) (ap (λ o. kept_if o v (steps done)) none) rest)
        by (Some k) some rest = rw some (below v (contains_first v vs), waited, subst (λ xs. AreSteps Still (WaitsForKey program desc rel) n xs (steps vs)) (ap (λ o. kept_if o v (steps done)) some) rest)

    -- one term after another is a pass over their variables, none of which comes twice
    abbrev Untouched : TermValues → List ℕ → Type 0
    Untouched x vs = (w : ℕ) → Contains vs w → value_of x w ≡ value_of before w

    other_place : (v w : ℕ) (vs : List ℕ) → AllByRecursion (λ y. eqb v y ≡ false) vs → Contains vs w → w ≢ v
    other_place v w [] all c same = nothing_in w c
    other_place v w (y ∷ ys) all c same = elim (first_or_later w y ys c) [
      | inl is ↦ true≢false (sym (eq-eqb v y (sym same ∙ is)) ∙ all.0)
      | inr later ↦ other_place v w ys all.1 later same
    ]

    passes : (x : TermValues) (vs : List ℕ) → AllBelow vs → IsDistinct eqb vs → Untouched x vs → terms_made program models scope x (ordered vs) ≡ passed next x (steps vs)
    unfolding IsDistinct
    passes x [] below distinct same = refl
    passes x (v ∷ vs) below distinct same =
        by (node v) refl (λ y untouched. passes y vs (λ w c. below w (kept_later w v vs c)) distinct.1 untouched)
      where
        later : (y : Option TermValue) → Untouched (slice_set x v y) vs
        later y w c = get_or-set_other x v w y None (other_place v w vs distinct.0 c) ∙ same w (kept_later w v vs c)

        by : (o : Option KeyedVariable) → node v ≡ o → ((y : TermValues) → Untouched y vs → terms_made program models scope y (ordered vs) ≡ passed next y (steps vs))
            → terms_made program models scope x (ordered (v ∷ vs)) ≡ passed next x (steps (v ∷ vs))
        by None none rest = rw none (rest x (λ w c. same w (kept_later w v vs c)))
        by (Some k) some rest =
            let (made, are, own) = node_is v k some in
            let term : given_term program models (at_values x) k.1 ≡ made_term program models rel items (at_values x) v =
            sym (made_by v x ∙ ap (option_and_then (given_term program models (at_values x))) are) in
            let place : with_term_of program models scope x k ≡ slice_set x v (next v x) =
            ap (λ u. slice_set x u (option_or (value_of x u) (given_term program models (at_values x) k.1))) own
            ∙ ap (λ o. slice_set x v (option_or o (given_term program models (at_values x) k.1))) (same v (contains_first v vs))
            ∙ ap (λ o. slice_set x v (option_or (value_of before v) o)) term in
            rw some (ap (λ y. terms_made program models scope y (ordered vs)) place ∙ rest (slice_set x v (next v x)) (later (next v x)))

  module _ (order : List ℕ) (is : IsOrder rows order) where
    range : IsPermutation (range_with_len 0 n) order
    range = subst (λ k. IsPermutation (range_with_len 0 k) order) rows_long is.nodes

    all_below : AllBelow order
    all_below v c = ordered_below n order v range c

    within : (vs : List ℕ) → AllBelow vs → AreVariablesOf rel (ordered vs)
    within [] below = tt
    within (v ∷ vs) below = by (node v) refl (within vs (λ w c. below w (kept_later w v vs c)))
      where
        by : (o : Option KeyedVariable) → node v ≡ o → AreVariablesOf rel (ordered vs) → AreVariablesOf rel (ordered (v ∷ vs))
        by None none rest = rw none rest
        by (Some k) some rest = rw some (subst (λ u. u < n) (sym (node_is v k some).2) (below v (contains_first v vs)), rest)

    pub in_relation : AreVariablesOf rel (ordered order)
    in_relation = within order all_below

    distinct : IsDistinct eqb order
    distinct = IsDistinct-IsPermutation eqb eqb_flips (range_with_len 0 n) order range (range_distinct 0 n)

    pub in_order : AreMadeInOrder program desc rel (ordered order)
    in_order models scope before meta long given =
        passes models scope before meta long given before order all_below distinct (λ w c. refl)
        ∙ one_pass None n (next models scope before meta long given) before (WaitsForKey program desc rel) (local models scope before meta long given) (round models scope before meta long given)
        (round_long models scope before meta long given) refl (again models scope before meta long given) (steps order) n (are_steps models scope before meta long given [] order is.behind all_below)
        (λ v below. covered v below (node v) refl)
        (omega (arith, few order, length_permutation (range_with_len 0 n) order range, length-range_with_len 0 n))
      where
        covered : (v : ℕ) → v < n → (o : Option KeyedVariable) → node v ≡ o → Contains (steps order) v ⊎ Still models scope before meta long given v
        covered v below None none = inr (still_at models scope before meta long given v below none)
        covered v below (Some k) some = inl (kept_step order v k (Contains-permutation (range_with_len 0 n) order v range (in_range 0 n v (omega arith) (omega (arith, below)))) some)

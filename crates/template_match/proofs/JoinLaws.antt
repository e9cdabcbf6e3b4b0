-- A binding passes the test of rows exactly where it stands in one.
use Rattle.std.specs.Prelude.{◌≡◌, ◌⊎◌, ◌<◌, ◌+◌, ℕ, zero, suc, Bool, true, false, ◌&&◌, List, [], ◌∷◌, Option, None, Some, is_some, length, slice_get, filter, Contains, IfSome}
use Rattle.std.specs.List.{list_any}
use Rattle.std.proofs.Common.{refl, sym, ap, subst, ◌∙◌, arith, inl, inr, drop, get_or}
use Rattle.std.proofs.lemmas.Bool.{and_parts, and_from, true≢false}
use Rattle.std.proofs.lemmas.List.{drop_more}
use Rattle.mof_metamodel.proofs.SearchLemmas.{passes_all}
use Rattle.std.proofs.lemmas.Option.{same_Some}
use Rattle.mof_metamodel.proofs.Facts.{contains_first}
use Rattle.ocl_eval.specs.OrderLaws.{same_decides}
use Rattle.qvtr_semantics.specs.declared.datum.Datum.{Datum}
use Rattle.qvtr_semantics.specs.Templates.{Values, value_at}
use Rattle.qvtr_semantics.specs.Bindings.{Extends}
use Rattle.template_match.specs.declared.join.Join.{Join}
use Rattle.template_match.specs.Joins.{IsRowFor, IsJoined, AreJoined, may_be_in, may_row, may_join, are_bound, is_joined, are_joined}
use Rattle.template_match.specs.Pruning.{may_be_one}
use Rattle.template_match.specs.Rows.{cell_in, cell_at, is_with}
use Rattle.template_match.specs.JoinRows.{TellsRows, may_some_row, may_number, value_there, column_value}
use Rattle.template_match.proofs.CellLaws.{with_datum}
use Rattle.template_match.proofs.ListLaws.{contains_later, any_from, any_at, list_all_at}

-- ---- a row

-- what may be is, where there is a value
is_one : (o : Option Datum) (d : Datum) → is_some o ≡ true → may_be_one o (Some d) ≡ true → o ≡ Some d
is_one None d is h = absurd (true≢false (sym is))
is_one (Some e) d is h = ap (λ x. Some x) ((same_decides e d).0 h)

may_one : (o : Option Datum) (d : Datum) → o ≡ Some d → may_be_one o (Some d) ≡ true
may_one o d e = ap (λ x. may_be_one x (Some d)) e ∙ (same_decides d d).1 refl

some_is : (o : Option Datum) (d : Datum) → o ≡ Some d → is_some o ≡ true
some_is o d e = ap is_some e

pub row_from : (vs : List (Option ℕ)) (b : Values) (row : List Datum) → are_bound vs b ≡ true → may_row vs b row ≡ true → IsRowFor vs b row
row_from [] b row bound h = tt
row_from (o ∷ vs) b [] bound h = absurd (true≢false (sym h))
row_from (None ∷ vs) b (d ∷ row) bound h = row_from vs b row (and_parts true (are_bound vs b) bound).1 (and_parts true (may_row vs b row) h).1
row_from (Some v ∷ vs) b (d ∷ row) bound h =
    let values = and_parts (is_some (value_at b v)) (are_bound vs b) bound in
    let both = and_parts (may_be_one (value_at b v) (Some d)) (may_row vs b row) h in
    (is_one (value_at b v) d values.0 both.0, row_from vs b row values.1 both.1)

pub row_bound : (vs : List (Option ℕ)) (b : Values) (row : List Datum) → IsRowFor vs b row → are_bound vs b ≡ true
row_bound [] b row h = refl
row_bound (o ∷ vs) b [] h = absurd h
row_bound (None ∷ vs) b (d ∷ row) h = and_from true (are_bound vs b) refl (row_bound vs b row h)
row_bound (Some v ∷ vs) b (d ∷ row) h = and_from (is_some (value_at b v)) (are_bound vs b) (some_is (value_at b v) d h.0) (row_bound vs b row h.1)

pub row_to : (vs : List (Option ℕ)) (b : Values) (row : List Datum) → IsRowFor vs b row → may_row vs b row ≡ true
row_to [] b row h = refl
row_to (o ∷ vs) b [] h = absurd h
row_to (None ∷ vs) b (d ∷ row) h = and_from true (may_row vs b row) refl (row_to vs b row h)
row_to (Some v ∷ vs) b (d ∷ row) h = and_from (may_be_one (value_at b v) (Some d)) (may_row vs b row) (may_one (value_at b v) d h.0) (row_to vs b row h.1)

-- the test of a row, at one column and from the next one on
pub row_step : (vs : List (Option ℕ)) (b : Values) (row : List Datum) (k : ℕ) (o : Option ℕ) → k < length vs
    → may_row (drop k vs) b (drop k row) ≡ (may_be_in b (get_or vs k o) (slice_get row k) && may_row (drop (k + 1) vs) b (drop (k + 1) row))
row_step [] b row k o l = absurd (omega (arith, l))
row_step (v ∷ vs) b [] zero o l = refl
row_step (v ∷ vs) b (d ∷ row) zero o l = refl
row_step (v ∷ vs) b [] (suc k) o l = short vs k o (omega (arith, l))
  where
    short : (vs : List (Option ℕ)) (k : ℕ) (o : Option ℕ) → k < length vs → may_row (drop k vs) b [] ≡ false
    short vs k o l = ap (λ ws. may_row ws b []) (drop_more vs k o l)
row_step (v ∷ vs) b (d ∷ row) (suc k) o l =
    let next : suc (k + 1) ≡ suc k + 1 = omega arith in
    subst (λ n. may_row (drop k vs) b (drop k row) ≡ (may_be_in b (get_or vs k o) (slice_get row k) && may_row (drop n (v ∷ vs)) b (drop n (d ∷ row)))) next
    (row_step vs b row k o (omega (arith, l)))

-- a column against it is against the row
pub row_fails : (vs : List (Option ℕ)) (b : Values) (row : List Datum) (k : ℕ) (o : Option ℕ) (q : Option Datum) (x : Bool) → k < length vs
    → may_row (drop k vs) b (drop k row) ≡ may_row vs b row → x ≡ may_be_in b (get_or vs k o) q → q ≡ slice_get row k → x ≡ false → false ≡ may_row vs b row
row_fails vs b row k o q x l same is cell fails =
    let here : may_be_in b (get_or vs k o) (slice_get row k) ≡ false = ap (may_be_in b (get_or vs k o)) (sym cell) ∙ sym is ∙ fails in
    sym (sym same ∙ row_step vs b row k o l ∙ ap (λ y. y && may_row (drop (k + 1) vs) b (drop (k + 1) row)) here)

-- one that isn't leaves the test to the columns behind
pub row_passes : (vs : List (Option ℕ)) (b : Values) (row : List Datum) (k : ℕ) (o : Option ℕ) (q : Option Datum) (x : Bool) → k < length vs
    → may_row (drop k vs) b (drop k row) ≡ may_row vs b row → x ≡ may_be_in b (get_or vs k o) q → q ≡ slice_get row k → x ≡ true
    → may_row (drop (k + 1) vs) b (drop (k + 1) row) ≡ may_row vs b row
row_passes vs b row k o q x l same is cell passes =
    let here : may_be_in b (get_or vs k o) (slice_get row k) ≡ true = ap (may_be_in b (get_or vs k o)) (sym cell) ∙ sym is ∙ passes in
    sym (row_step vs b row k o l ∙ ap (λ y. y && may_row (drop (k + 1) vs) b (drop (k + 1) row)) here) ∙ same

-- ---- a join

pub joined_from : (j : Join) (b : Values) → is_joined j b ≡ true → IsJoined j b
joined_from j b h =
    let both = and_parts (are_bound j.variables b) (may_join j b) h in
    let found = any_from (may_row j.variables b) j.table.now both.1 in
    (found.0, found.1, row_from j.variables b found.0 both.0 found.2)

pub joined_to : (j : Join) (b : Values) → IsJoined j b → is_joined j b ≡ true
joined_to j b h =
    and_from (are_bound j.variables b) (may_join j b) (row_bound j.variables b h.0 h.2)
    (any_at (may_row j.variables b) j.table.now h.0 (row_to j.variables b h.0 h.2) h.1)

pub all_joined_from : (joins : List Join) (b : Values) → are_joined joins b ≡ true → AreJoined joins b
all_joined_from joins b h j c = joined_from j b (list_all_at (λ k. is_joined k b) joins j h c)

pub all_joined_to : (joins : List Join) (b : Values) → AreJoined joins b → are_joined joins b ≡ true
all_joined_to joins b h = passes_all (λ j. is_joined j b) joins (λ j c. joined_to j b (h j c))

-- ---- of a binding that is extended

-- a row in which a binding stands is one in which it may stand before all its variables have values
may_still : (o q : Option Datum) (d : Datum) → ((e : Datum) → o ≡ Some e → q ≡ Some e) → may_be_one q (Some d) ≡ true → may_be_one o (Some d) ≡ true
may_still None q d more h = refl
may_still (Some e) q d more h = ap (λ x. may_be_one x (Some d)) (sym (more e refl)) ∙ h

pub row_before : (vs : List (Option ℕ)) (a b : Values) (row : List Datum) → Extends a b → may_row vs b row ≡ true → may_row vs a row ≡ true
row_before [] a b row more h = refl
row_before (o ∷ vs) a b [] more h = h
row_before (None ∷ vs) a b (d ∷ row) more h = and_from true (may_row vs a row) refl (row_before vs a b row more (and_parts true (may_row vs b row) h).1)
row_before (Some v ∷ vs) a b (d ∷ row) more h =
    let both = and_parts (may_be_one (value_at b v) (Some d)) (may_row vs b row) h in
    and_from (may_be_one (value_at a v) (Some d)) (may_row vs a row) (may_still (value_at a v) (value_at b v) d (λ e at. more v e at) both.0)
    (row_before vs a b row more both.1)

pub one_may_join : (j : Join) (a b : Values) → Extends a b → IsJoined j b → may_join j a ≡ true
one_may_join j a b more in_row =
    any_at (may_row j.variables a) j.table.now in_row.0
    (row_before j.variables a b in_row.0 more (row_to j.variables b in_row.0 in_row.2)) in_row.1

-- ---- a column of a row

-- the variable of a column has the datum there
pub row_at : (vs : List (Option ℕ)) (b : Values) (row : List Datum) (k v : ℕ) → IsRowFor vs b row → slice_get vs k ≡ Some (Some v)
    → (d : Datum) × (slice_get row k ≡ Some d) × (value_at b v ≡ Some d)
row_at [] b row k v h e = absurd (cc)
row_at (o ∷ vs) b [] k v h e = absurd h
row_at (None ∷ vs) b (d ∷ row) zero v h e = absurd (cc)
row_at (Some w ∷ vs) b (d ∷ row) zero v h e = (d, refl, ap (value_at b) (same_variable v w e) ∙ h.0)
  where
    same_variable : (v w : ℕ) → Some (Some w) ≡ Some (Some v) → v ≡ w
    same_variable v w e = cc
row_at (None ∷ vs) b (d ∷ row) (suc k) v h e = row_at vs b row k v h e
row_at (Some w ∷ vs) b (d ∷ row) (suc k) v h e = row_at vs b row k v h.1 e

-- a row in which the binding may stand has the value of the column's variable there
pub row_has : (vs : List (Option ℕ)) (a : Values) (row : List Datum) (k v : ℕ) (d : Datum) → may_row vs a row ≡ true → slice_get vs k ≡ Some (Some v)
    → value_at a v ≡ Some d → slice_get row k ≡ Some d
row_has [] a row k v d h e at = absurd (cc)
row_has (o ∷ vs) a [] k v d h e at = absurd (true≢false (sym h))
row_has (None ∷ vs) a (x ∷ row) zero v d h e at = absurd (cc)
row_has (Some w ∷ vs) a (x ∷ row) zero v d h e at =
    let there : value_at a w ≡ Some d = ap (value_at a) (same_variable v w e) ∙ at in
    let one : may_be_one (Some d) (Some x) ≡ true = ap (λ o. may_be_one o (Some x)) (sym there) ∙ (and_parts (may_be_one (value_at a w) (Some x)) (may_row vs a row) h).0 in
    ap (λ y. Some y) (sym ((same_decides d x).0 one))
  where
    same_variable : (v w : ℕ) → Some (Some w) ≡ Some (Some v) → w ≡ v
    same_variable v w e = cc
row_has (None ∷ vs) a (x ∷ row) (suc k) v d h e at = row_has vs a row k v d (and_parts true (may_row vs a row) h).1 e at
row_has (Some w ∷ vs) a (x ∷ row) (suc k) v d h e at = row_has vs a row k v d (and_parts (may_be_one (value_at a w) (Some x)) (may_row vs a row) h).1 e at

-- ---- rows by their numbers

number_at : (rows : List (List Datum)) (k : ℕ) (row : List Datum) → k < length rows → get_or rows k row ≡ row → slice_get rows k ≡ Some row
number_at [] k row l e = absurd (omega (arith, l))
number_at (x ∷ rows) zero row l e = ap (λ y. Some y) e
number_at (x ∷ rows) (suc k) row l e = number_at rows k row (omega (arith, l)) e

pub numbered : (rows : List (List Datum)) (row : List Datum) → Contains rows row → (r : ℕ) × (slice_get rows r ≡ Some row)
numbered rows row (k, l, e) = (k, number_at rows k row l e)

pub number_stands : (rows : List (List Datum)) (r : ℕ) (row : List Datum) → slice_get rows r ≡ Some row → Contains rows row
number_stands [] r row e = absurd (cc)
number_stands (x ∷ rows) zero row e = subst (Contains (x ∷ rows)) (same_Some x row e) (contains_first x rows)
number_stands (x ∷ rows) (suc r) row e = contains_later row x rows (number_stands rows r row e)

pub number_within : (rows : List (List Datum)) (r : ℕ) (row : List Datum) → slice_get rows r ≡ Some row → r < length rows
number_within [] r row e = absurd (cc)
number_within (x ∷ rows) zero row e = omega arith
number_within (x ∷ rows) (suc r) row e = let l = number_within rows r row e in omega (arith, l)

-- among rows that are all in which the binding may stand, there is one exactly where there is one at all
pub told_join : (j : Join) (a : Values) (numbers : List ℕ) → TellsRows j a numbers → list_any (may_number j a) numbers ≡ may_join j a
told_join j a numbers tells = by (list_any (may_number j a) numbers) (may_join j a) refl refl
  where
    there : list_any (may_number j a) numbers ≡ true → may_join j a ≡ true
    there h = let found = any_from (may_number j a) numbers h in from found.0 (slice_get j.table.now found.0) refl found.2
      where
        from : (r : ℕ) (o : Option (List Datum)) → slice_get j.table.now r ≡ o → may_some_row j a o ≡ true → may_join j a ≡ true
        from r None is h = absurd (true≢false (sym h))
        from r (Some row) is h = any_at (may_row j.variables a) j.table.now row h (number_stands j.table.now r row is)

    back : may_join j a ≡ true → list_any (may_number j a) numbers ≡ true
    back h =
        let found = any_from (may_row j.variables a) j.table.now h in
        let r = numbered j.table.now found.0 found.1 in
        any_at (may_number j a) numbers r.0 (ap (may_some_row j a) r.1 ∙ found.2) (tells r.0 found.0 r.1 found.2)

    by : (x y : Bool) → list_any (may_number j a) numbers ≡ x → may_join j a ≡ y → list_any (may_number j a) numbers ≡ may_join j a
    by true y e f = e ∙ sym (there e)
    by false false e f = e ∙ sym f
    by false true e f = absurd (true≢false (sym (back f) ∙ e))

-- a row in which the binding may stand has the value of a column's variable there
row_holds : (vs : List (Option ℕ)) (a : Values) (row : List Datum) (k : ℕ) (d : Datum) → may_row vs a row ≡ true → column_value vs a k ≡ Some d → slice_get row k ≡ Some d
row_holds vs a row k d h at = by (slice_get vs k) refl at
  where
    by : (o : Option (Option ℕ)) → slice_get vs k ≡ o → value_there a o ≡ Some d → slice_get row k ≡ Some d
    by None is e = absurd (cc)
    by (Some None) is e = absurd (cc)
    by (Some (Some v)) is e = row_has vs a row k v d h is e

row_cell : (j : Join) (a : Values) (r k : ℕ) (row : List Datum) (d : Datum) → slice_get j.table.now r ≡ Some row → may_row j.variables a row ≡ true
    → column_value j.variables a k ≡ Some d → cell_at j.table.now k r ≡ Some d
row_cell j a r k row d is may at = ap (cell_in k) is ∙ row_holds j.variables a row k d may at

-- rows by the value of a column's variable are all in which the binding may stand
pub tells_by_value : (j : Join) (a : Values) (rows : List (List Datum)) (k : ℕ) (d : Datum) (numbers found : List ℕ) → rows ≡ j.table.now
    → ((r : ℕ) → r < length j.table.now → Contains numbers r) → column_value j.variables a k ≡ Some d → found ≡ filter (is_with rows k d) numbers → TellsRows j a found
tells_by_value j a rows k d numbers found same all at is r row stands may =
    with_datum rows k numbers found d is r (all r (number_within j.table.now r row stands))
    (ap (λ xs. cell_at xs k r) same ∙ row_cell j a r k row d stands may at)

-- and of these those by the value of another one
pub tells_by_next : (j : Join) (a : Values) (rows : List (List Datum)) (k : ℕ) (d : Datum) (numbers found : List ℕ) → rows ≡ j.table.now
    → TellsRows j a numbers → Some d ≡ column_value j.variables a k → found ≡ filter (is_with rows k d) numbers → TellsRows j a found
tells_by_next j a rows k d numbers found same tells at is r row stands may =
    with_datum rows k numbers found d is r (tells r row stands may) (ap (λ xs. cell_at xs k r) same ∙ row_cell j a r k row d stands may (sym at))

pub tells_all : (j : Join) (a : Values) (numbers : List ℕ) → ((r : ℕ) → r < length j.table.now → Contains numbers r) → TellsRows j a numbers
tells_all j a numbers all r row is may = all r (number_within j.table.now r row is)

-- one of two
pub either_some : {X : Type 0} (P : X → Type 0) (r x y : Option X) → (r ≡ x) ⊎ (r ≡ y) → IfSome x P → IfSome y P → IfSome r P
either_some P r x y (inl e) one other = subst (λ o. IfSome o P) (sym e) one
either_some P r x y (inr e) one other = subst (λ o. IfSome o P) (sym e) other

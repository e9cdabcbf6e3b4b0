-- An iterator step by step gives what its definition says of all values of its body.
use Rattle.std.proofs.Common.{◌≡◌, ℕ, suc, zero, ◌<◌, ◌≤◌, Bool, true, false, cond, List, [], ◌∷◌, ◌++◌, length, drop, map, get_or, refl, sym, ◌∙◌, ap, arith, append-nil, length-append}
use Rattle.std.specs.Prelude.{⊤, Option, None, Some, ◌==◌, not, nat_le}
use Rattle.std.specs.Option.{option_map}
use Rattle.std.specs.List.{fold, items_where_true, count_by}
use Rattle.std.proofs.lemmas.List.{drop_all, append_assoc}
use Rattle.std.proofs.lemmas.Bool.{lt-leb, leb-false}
use Rattle.qvtr_semantics.specs.declared.limits.TheConstants.{MAX_RESULT}
use Rattle.qv_syntax.specs.declared.type_tree.Kind.{Kind}
use Rattle.qv_syntax.specs.declared.type_tree.Kind.TheVariants.{Set, Bag, Sequence, OrderedSet}
use Rattle.qv_syntax.specs.declared.operation.IteratorKind.{IteratorKind}
use Rattle.qv_syntax.specs.declared.operation.IteratorKind.TheVariants.{Select, Reject, Collect, Exists, ForAll, One, IsUnique}
use Rattle.qvtr_semantics.specs.declared.datum.Datum.{Datum}
use Rattle.qvtr_semantics.specs.declared.out.Out.{Out}
use Rattle.qvtr_semantics.specs.declared.out.Out.TheVariants as outs
use Rattle.qvtr_semantics.specs.Data.{is_before, in_order, placed}
use Rattle.qvtr_semantics.specs.Outs.{Collection, given, boolean_of, boolean, all_given, and_then}
use Rattle.qvtr_semantics.specs.Truth.{and, or, all_of, some_of}
use Rattle.qvtr_semantics.specs.Equality.{is_defined, all_differ}
use Rattle.qvtr_semantics.specs.Collections.{collection, bounded}
use Rattle.qvtr_semantics.specs.Iterators.{conditions, collected_kind, collected_from, all_collected, defined, iterated}
use Rattle.ocl_eval.specs.declared.progress.Progress.{Progress}
use Rattle.ocl_eval.specs.declared.progress.Progress.TheVariants.{Conditions, Collected, AnyTrue, AllTrue, Values, Failed}
use Rattle.ocl_eval.specs.Progress.{begun, with_condition, with_elements, advanced, iterator_result}
use Rattle.ocl_eval.proofs.UniqueLaws.{all_new_differ, AreDefined}

failed_stays : (rs : List Out) → fold advanced Failed rs ≡ Failed
failed_stays [] = refl
failed_stays (r ∷ rs) = failed_stays rs

-- ---- conditions

abbrev after_conditions : List Bool → Option (List Bool) → Progress
after_conditions bs None = Failed
after_conditions bs (Some cs) = Conditions (bs ++ cs)

one_condition_more : (bs : List Bool) (b : Bool) (rest : Option (List Bool)) → after_conditions (bs ++ b ∷ []) rest ≡ after_conditions bs (option_map (λ cs. b ∷ cs) rest)
one_condition_more bs b None = refl
one_condition_more bs b (Some cs) = ap Conditions (append_assoc bs (b ∷ []) cs)

conditions_by_steps : (bs : List Bool) (rs : List Out) → fold advanced (Conditions bs) rs ≡ after_conditions bs (conditions rs)
conditions_by_steps bs [] = ap Conditions (sym (append-nil bs))
conditions_by_steps bs (r ∷ rs) = go (boolean_of r) (λ cs. conditions_by_steps cs rs)
  where
    go : (o : Option Bool) → ((cs : List Bool) → fold advanced (Conditions cs) rs ≡ after_conditions cs (conditions rs)) → fold advanced (with_condition bs o) rs ≡ after_conditions bs (all_given (o ∷ map boolean_of rs))
    go None more = failed_stays rs
    go (Some b) more = more (bs ++ b ∷ []) ∙ one_condition_more bs b (conditions rs)

select_by_steps : (c : Collection) (o : Option (List Bool)) → iterator_result Select c (after_conditions [] o) ≡ given o (λ bs. bounded c.kind (items_where_true bs c.elements))
select_by_steps c None = refl
select_by_steps c (Some bs) = refl

reject_by_steps : (c : Collection) (o : Option (List Bool)) → iterator_result Reject c (after_conditions [] o) ≡ given o (λ bs. bounded c.kind (items_where_true (map not bs) c.elements))
reject_by_steps c None = refl
reject_by_steps c (Some bs) = refl

one_by_steps : (c : Collection) (o : Option (List Bool)) → iterator_result One c (after_conditions [] o) ≡ given o (λ bs. boolean (count_by (λ b. b) bs == 1))
one_by_steps c None = refl
one_by_steps c (Some bs) = refl

-- ---- exists and forAll

or_in_turn : (p q s : Option Bool) → or (or p q) s ≡ or p (or q s)
or_in_turn (Some true) q s = refl
or_in_turn (Some false) q s = refl
or_in_turn None (Some true) s = refl
or_in_turn None (Some false) s = refl
or_in_turn None None (Some true) = refl
or_in_turn None None (Some false) = refl
or_in_turn None None None = refl

or_false : (p : Option Bool) → or p (Some false) ≡ p
or_false (Some true) = refl
or_false (Some false) = refl
or_false None = refl

exists_by_steps : (p : Option Bool) (rs : List Out) → fold advanced (AnyTrue p) rs ≡ AnyTrue (or p (some_of (map boolean_of rs)))
exists_by_steps p [] = ap AnyTrue (sym (or_false p))
exists_by_steps p (r ∷ rs) = exists_by_steps (or p (boolean_of r)) rs ∙ ap AnyTrue (or_in_turn p (boolean_of r) (some_of (map boolean_of rs)))

and_in_turn : (p q s : Option Bool) → and (and p q) s ≡ and p (and q s)
and_in_turn (Some true) q s = refl
and_in_turn (Some false) q s = refl
and_in_turn None (Some true) s = refl
and_in_turn None (Some false) s = refl
and_in_turn None None (Some true) = refl
and_in_turn None None (Some false) = refl
and_in_turn None None None = refl

and_true : (p : Option Bool) → and p (Some true) ≡ p
and_true (Some true) = refl
and_true (Some false) = refl
and_true None = refl

for_all_by_steps : (p : Option Bool) (rs : List Out) → fold advanced (AllTrue p) rs ≡ AllTrue (and p (all_of (map boolean_of rs)))
for_all_by_steps p [] = ap AllTrue (sym (and_true p))
for_all_by_steps p (r ∷ rs) = for_all_by_steps (and p (boolean_of r)) rs ∙ ap AllTrue (and_in_turn p (boolean_of r) (all_of (map boolean_of rs)))

-- ---- collect

too_many : (ds es fs : List Datum) → nat_le (length (ds ++ es)) MAX_RESULT ≡ false → nat_le (length (ds ++ (es ++ fs))) MAX_RESULT ≡ false
too_many ds es fs h =
    lt-leb (length (ds ++ (es ++ fs))) MAX_RESULT
    (omega (arith, length-append ds (es ++ fs), length-append es fs, length-append ds es, leb-false (length (ds ++ es)) MAX_RESULT h))

cut : (ds es : List Datum) (rest : Option (List Datum)) → nat_le (length (ds ++ es)) MAX_RESULT ≡ false → Failed ≡ with_elements ds (and_then rest (λ fs. Some (es ++ fs)))
cut ds es None h = refl
cut ds es (Some fs) h = sym (ap (λ b. cond b (Collected (ds ++ (es ++ fs))) Failed) (too_many ds es fs h))

further : (ds es : List Datum) (rest : Option (List Datum)) → with_elements (ds ++ es) rest ≡ with_elements ds (and_then rest (λ fs. Some (es ++ fs)))
further ds es None = refl
further ds es (Some fs) = ap (λ all. cond (nat_le (length all) MAX_RESULT) (Collected all) Failed) (append_assoc ds es fs)

collect_by_steps : (ds : List Datum) (rs : List Out) → nat_le (length ds) MAX_RESULT ≡ true → fold advanced (Collected ds) rs ≡ with_elements ds (all_collected rs)
collect_by_steps ds [] h = sym (ap (λ all. cond (nat_le (length all) MAX_RESULT) (Collected all) Failed) (append-nil ds) ∙ ap (λ b. cond b (Collected ds) Failed) h)
collect_by_steps ds (r ∷ rs) h = go (collected_from r) (λ es k. collect_by_steps es rs k)
  where
    room : (es : List Datum) (b : Bool) → ((fs : List Datum) → nat_le (length fs) MAX_RESULT ≡ true → fold advanced (Collected fs) rs ≡ with_elements fs (all_collected rs)) → nat_le (length (ds ++ es)) MAX_RESULT ≡ b
        → fold advanced (cond b (Collected (ds ++ es)) Failed) rs ≡ with_elements ds (and_then (all_collected rs) (λ fs. Some (es ++ fs)))
    room es true more k = more (ds ++ es) k ∙ further ds es (all_collected rs)
    room es false more k = failed_stays rs ∙ cut ds es (all_collected rs) k

    go : (o : Option (List Datum)) → ((fs : List Datum) → nat_le (length fs) MAX_RESULT ≡ true → fold advanced (Collected fs) rs ≡ with_elements fs (all_collected rs))
        → fold advanced (with_elements ds o) rs ≡ with_elements ds (and_then o (λ es. and_then (all_collected rs) (λ fs. Some (es ++ fs))))
    go None more = failed_stays rs
    go (Some es) more = room es (nat_le (length (ds ++ es)) MAX_RESULT) more refl

length-placed : (d : Datum) (ds : List Datum) → length (placed d ds) ≡ suc (length ds)
length-placed d [] = refl
length-placed d (e ∷ es) = go (is_before e d) (length-placed d es)
  where
    go : (b : Bool) → length (placed d es) ≡ suc (length es) → length (cond b (e ∷ placed d es) (d ∷ e ∷ es)) ≡ suc (suc (length es))
    go true h = ap suc h
    go false h = refl

length-in_order : (ds : List Datum) → length (in_order ds) ≡ length ds
length-in_order [] = refl
length-in_order (d ∷ ds) = length-placed d (in_order ds) ∙ ap suc (length-in_order ds)

above : (kind : Kind) (ds : List Datum) → nat_le (length ds) MAX_RESULT ≡ false → collection (collected_kind kind) ds ≡ outs.Invalid
above Set ds h = ap (λ n. cond (nat_le n MAX_RESULT) (outs.Many Bag (in_order ds)) outs.Invalid) (length-in_order ds) ∙ ap (λ b. cond b (outs.Many Bag (in_order ds)) outs.Invalid) h
above Bag ds h = ap (λ n. cond (nat_le n MAX_RESULT) (outs.Many Bag (in_order ds)) outs.Invalid) (length-in_order ds) ∙ ap (λ b. cond b (outs.Many Bag (in_order ds)) outs.Invalid) h
above Sequence ds h = ap (λ b. cond b (outs.Many Sequence ds) outs.Invalid) h
above OrderedSet ds h = ap (λ b. cond b (outs.Many Sequence ds) outs.Invalid) h

collected_result : (c : Collection) (o : Option (List Datum)) → iterator_result Collect c (with_elements [] o) ≡ given o (collection (collected_kind c.kind))
collected_result c None = refl
collected_result c (Some ds) = go (nat_le (length ds) MAX_RESULT) refl
  where
    go : (b : Bool) → nat_le (length ds) MAX_RESULT ≡ b → iterator_result Collect c (cond b (Collected ds) Failed) ≡ collection (collected_kind c.kind) ds
    go true h = refl
    go false h = sym (above c.kind ds h)

-- ---- isUnique

abbrev after_values : List Out → Option (List Out) → Progress
after_values xs None = Failed
after_values xs (Some ys) = Values (xs ++ ys)

one_value_more : (xs : List Out) (x : Out) (rest : Option (List Out)) → after_values (xs ++ x ∷ []) rest ≡ after_values xs (option_map (λ ys. x ∷ ys) rest)
one_value_more xs x None = refl
one_value_more xs x (Some ys) = ap Values (append_assoc xs (x ∷ []) ys)

values_by_steps : (xs : List Out) (rs : List Out) → fold advanced (Values xs) rs ≡ after_values xs (all_given (map defined rs))
values_by_steps xs [] = ap Values (sym (append-nil xs))
values_by_steps xs (r ∷ rs) = go (is_defined r) (values_by_steps (xs ++ r ∷ []) rs)
  where
    go : (b : Bool) → fold advanced (Values (xs ++ r ∷ [])) rs ≡ after_values (xs ++ r ∷ []) (all_given (map defined rs)) → fold advanced (cond b (Values (xs ++ r ∷ [])) Failed) rs ≡ after_values xs (all_given (cond b (Some r) None ∷ map defined rs))
    go true more = more ∙ one_value_more xs r (all_given (map defined rs))
    go false more = failed_stays rs

-- those that are given are defined
abbrev AreGiven : Option (List Out) → Type 0
AreGiven None = ⊤
AreGiven (Some ys) = AreDefined ys

given_defined : (rs : List Out) → AreGiven (all_given (map defined rs))
given_defined [] = tt
given_defined (r ∷ rs) = go (is_defined r) refl (given_defined rs)
  where
    add : (o : Option (List Out)) → is_defined r ≡ true → AreGiven o → AreGiven (option_map (λ ys. r ∷ ys) o)
    add None h g = tt
    add (Some ys) h g = (h, g)

    go : (b : Bool) → is_defined r ≡ b → AreGiven (all_given (map defined rs)) → AreGiven (all_given (cond b (Some r) None ∷ map defined rs))
    go true h g = add (all_given (map defined rs)) h g
    go false h g = tt

unique_result : (c : Collection) (o : Option (List Out)) → AreGiven o → iterator_result IsUnique c (after_values [] o) ≡ given o (λ xs. boolean (all_differ xs))
unique_result c None g = refl
unique_result c (Some xs) g = ap boolean (all_new_differ xs g)

-- ---- all of them

pub iterated_by_steps : (it : IteratorKind) (c : Collection) (results : List Out) → iterator_result it c (fold advanced (begun it) results) ≡ iterated it c results
iterated_by_steps Select c rs = ap (iterator_result Select c) (conditions_by_steps [] rs) ∙ select_by_steps c (conditions rs)
iterated_by_steps Reject c rs = ap (iterator_result Reject c) (conditions_by_steps [] rs) ∙ reject_by_steps c (conditions rs)
iterated_by_steps Collect c rs = ap (iterator_result Collect c) (collect_by_steps [] rs refl) ∙ collected_result c (all_collected rs)
iterated_by_steps Exists c rs = ap (iterator_result Exists c) (exists_by_steps (Some false) rs)
iterated_by_steps ForAll c rs = ap (iterator_result ForAll c) (for_all_by_steps (Some true) rs)
iterated_by_steps One c rs = ap (iterator_result One c) (conditions_by_steps [] rs) ∙ one_by_steps c (conditions rs)
iterated_by_steps IsUnique c rs = ap (iterator_result IsUnique c) (values_by_steps [] rs) ∙ unique_result c (all_given (map defined rs)) (given_defined rs)

-- ---- those of the elements whose condition is true, from one place on

pub chosen_from : (i : ℕ) (bs : List Bool) (xs : List Datum) (b : Bool) (x : Datum) → i < length bs → i < length xs → b ≡ get_or bs i b → x ≡ get_or xs i x
    → items_where_true (drop i bs) (drop i xs) ≡ cond b (x ∷ items_where_true (drop (suc i) bs) (drop (suc i) xs)) (items_where_true (drop (suc i) bs) (drop (suc i) xs))
chosen_from i [] xs b x l k p q = absurd (omega (arith, l))
chosen_from i (c ∷ cs) [] b x l k p q = absurd (omega (arith, k))
chosen_from zero (true ∷ cs) (y ∷ ys) b x l k p q = ap (λ z. z ∷ items_where_true cs ys) (sym q) ∙ sym (ap (λ d. cond d (x ∷ items_where_true cs ys) (items_where_true cs ys)) p)
chosen_from zero (false ∷ cs) (y ∷ ys) b x l k p q = sym (ap (λ d. cond d (x ∷ items_where_true cs ys) (items_where_true cs ys)) p)
chosen_from (suc i) (c ∷ cs) (y ∷ ys) b x l k p q = chosen_from i cs ys b x (omega (arith, l)) (omega (arith, k)) p q

one_put : (list rest : List Datum) (x : Datum) (b : Bool) → (list ++ cond b (x ∷ []) []) ++ rest ≡ list ++ cond b (x ∷ rest) rest
one_put list rest x true = append_assoc list (x ∷ []) rest
one_put list rest x false = ap (λ l. l ++ rest) (append-nil list)

pub chosen_step : (list : List Datum) (i : ℕ) (bs : List Bool) (xs : List Datum) (b : Bool) (x : Datum) → i < length bs → i < length xs → b ≡ get_or bs i b → x ≡ get_or xs i x
    → (list ++ cond b (x ∷ []) []) ++ items_where_true (drop (suc i) bs) (drop (suc i) xs) ≡ list ++ items_where_true (drop i bs) (drop i xs)
chosen_step list i bs xs b x l k p q = one_put list (items_where_true (drop (suc i) bs) (drop (suc i) xs)) x b ∙ ap (λ r. list ++ r) (sym (chosen_from i bs xs b x l k p q))

none_chosen : (bs : List Bool) → items_where_true {X = Datum} bs [] ≡ []
none_chosen [] = refl
none_chosen (b ∷ bs) = refl

pub chosen_past : (i : ℕ) (bs : List Bool) (xs : List Datum) → length xs ≤ i → items_where_true bs (drop i xs) ≡ []
chosen_past i bs xs h = ap (items_where_true bs) (drop_all i xs h) ∙ none_chosen bs

-- Elements that are brought into a collection one after another: to look which of them its kind keeps can wait.
use Rattle.std.proofs.Common.{◌≡◌, ◌≤◌, ◌+◌, ℕ, suc, Bool, true, false, cond, List, [], ◌∷◌, ◌++◌, length, append-nil, true≢false, refl, sym, ◌∙◌, ap, arith}
use Rattle.std.specs.Prelude.{◌||◌, nat_le, Option, None, Some}
use Rattle.std.specs.List.{sum_by}
use Rattle.std.proofs.lemmas.Bool.{le-leb, leb-true}
use Rattle.std.proofs.lemmas.List.{append_assoc, length-append}
use Rattle.std.proofs.lemmas.List.Sums.{sum_by-append}
use Rattle.qv_syntax.specs.declared.type_tree.Kind.{Kind}
use Rattle.qv_syntax.specs.declared.type_tree.Kind.TheVariants.{Set, Bag, Sequence, OrderedSet}
use Rattle.qvtr_semantics.specs.declared.datum.Datum.{Datum}
use Rattle.qvtr_semantics.specs.declared.out.Out.{Out}
use Rattle.qvtr_semantics.specs.declared.out.Out.TheVariants.{Many, Invalid}
use Rattle.qvtr_semantics.specs.declared.limits.TheConstants.{MAX_RESULT}
use Rattle.qvtr_semantics.specs.Data.{same_datum, is_before, is_among, placed, in_order, new_ones, distinct}
use Rattle.qvtr_semantics.specs.Outs.{Collection, collection_of, given}
use Rattle.qvtr_semantics.specs.Collections.{bounded, collection, kept}
use Rattle.qvtr_semantics.specs.Expressions.{with_collection}
use Rattle.ocl_eval.specs.Growing.{fits, grown}
use Rattle.ocl_eval.specs.OrderLaws.{same_decides}
use Rattle.ocl_eval.proofs.SetLaws.{among-distinct, one_set}
use Rattle.ocl_eval.proofs.SortLaws.{rising-in_order, same_list, sum-in_order}
use Rattle.ocl_eval.proofs.MemberLaws.{among-kept, among-append}

-- ---- one more that is new

last_new : (met ds : List Datum) (d : Datum) → new_ones met (ds ++ d ∷ []) ≡ new_ones met ds ++ cond (is_among d met || is_among d ds) [] (d ∷ [])
last_new met [] d = go (is_among d met)
  where
    go : (a : Bool) → cond a [] (d ∷ []) ≡ cond (a || false) [] (d ∷ [])
    go true = refl
    go false = refl
last_new met (x ∷ xs) d = go (is_among x met) refl (last_new met xs d) (last_new (x ∷ met) xs d)
  where
    swap : (a b c : Bool) → (a || b) || c ≡ b || (a || c)
    swap true true c = refl
    swap true false c = refl
    swap false b c = refl

    known : (s : Bool) → same_datum d x ≡ s → is_among x met ≡ true → is_among d met || is_among d xs ≡ is_among d met || (same_datum d x || is_among d xs)
    known true q p =
        let is : is_among d met ≡ true = ap (λ y. is_among y met) ((same_decides d x).0 q) ∙ p in
        ap (λ b. b || is_among d xs) is ∙ sym (ap (λ b. b || (same_datum d x || is_among d xs)) is)
    known false q p = ap (λ b. is_among d met || (b || is_among d xs)) (sym q)

    rest : Bool → List Datum
    rest b = cond b [] (d ∷ [])

    go : (m : Bool) → is_among x met ≡ m
        → new_ones met (xs ++ d ∷ []) ≡ new_ones met xs ++ cond (is_among d met || is_among d xs) [] (d ∷ [])
        → new_ones (x ∷ met) (xs ++ d ∷ []) ≡ new_ones (x ∷ met) xs ++ cond ((same_datum d x || is_among d met) || is_among d xs) [] (d ∷ [])
        → cond (is_among x met) (new_ones met (xs ++ d ∷ [])) (x ∷ new_ones (x ∷ met) (xs ++ d ∷ []))
        ≡ cond (is_among x met) (new_ones met xs) (x ∷ new_ones (x ∷ met) xs) ++ cond (is_among d met || (same_datum d x || is_among d xs)) [] (d ∷ [])
    go true p one two =
        ap (λ b. cond b (new_ones met (xs ++ d ∷ [])) (x ∷ new_ones (x ∷ met) (xs ++ d ∷ []))) p
        ∙ one
        ∙ ap (λ b. new_ones met xs ++ cond b [] (d ∷ [])) (known (same_datum d x) refl p)
        ∙ sym (ap (λ b. cond b (new_ones met xs) (x ∷ new_ones (x ∷ met) xs) ++ cond (is_among d met || (same_datum d x || is_among d xs)) [] (d ∷ [])) p)
    go false p one two =
        ap (λ b. cond b (new_ones met (xs ++ d ∷ [])) (x ∷ new_ones (x ∷ met) (xs ++ d ∷ []))) p
        ∙ ap (λ ys. x ∷ ys) two
        ∙ ap (λ b. x ∷ (new_ones (x ∷ met) xs ++ cond b [] (d ∷ []))) (swap (same_datum d x) (is_among d met) (is_among d xs))
        ∙ sym (ap (λ b. cond b (new_ones met xs) (x ∷ new_ones (x ∷ met) xs) ++ cond (is_among d met || (same_datum d x || is_among d xs)) [] (d ∷ [])) p)

once_again : (met ds : List Datum) → new_ones met (new_ones met ds) ≡ new_ones met ds
once_again met [] = refl
once_again met (x ∷ xs) = go (is_among x met) refl (once_again met xs) (once_again (x ∷ met) xs)
  where
    go : (m : Bool) → is_among x met ≡ m → new_ones met (new_ones met xs) ≡ new_ones met xs → new_ones (x ∷ met) (new_ones (x ∷ met) xs) ≡ new_ones (x ∷ met) xs
        → new_ones met (new_ones met (x ∷ xs)) ≡ new_ones met (x ∷ xs)
    go true p one two =
        let is : new_ones met (x ∷ xs) ≡ new_ones met xs = ap (λ b. cond b (new_ones met xs) (x ∷ new_ones (x ∷ met) xs)) p in
        ap (new_ones met) is ∙ one ∙ sym is
    go false p one two =
        let is : new_ones met (x ∷ xs) ≡ x ∷ new_ones (x ∷ met) xs = ap (λ b. cond b (new_ones met xs) (x ∷ new_ones (x ∷ met) xs)) p in
        ap (new_ones met) is
        ∙ ap (λ b. cond b (new_ones met (new_ones (x ∷ met) xs)) (x ∷ new_ones (x ∷ met) (new_ones (x ∷ met) xs))) p
        ∙ ap (λ ys. x ∷ ys) two ∙ sym is

distinct_again : (ds : List Datum) (d : Datum) → distinct (distinct ds ++ d ∷ []) ≡ distinct (ds ++ d ∷ [])
distinct_again ds d =
    last_new [] (distinct ds) d
    ∙ ap (λ ys. ys ++ cond (is_among d (distinct ds)) [] (d ∷ [])) (once_again [] ds)
    ∙ ap (λ b. distinct ds ++ cond b [] (d ∷ [])) (among-distinct d ds)
    ∙ sym (last_new [] ds d)

-- ---- more in a Bag, in a Set and in an OrderedSet

ordered_again : (ds es : List Datum) → in_order (in_order ds ++ es) ≡ in_order (ds ++ es)
ordered_again ds es =
    same_list (in_order (in_order ds ++ es)) (in_order (ds ++ es)) (rising-in_order (in_order ds ++ es)) (rising-in_order (ds ++ es))
    (λ f. sum-in_order f (in_order ds ++ es) ∙ sum_by-append f (in_order ds) es ∙ ap (λ n. n + sum_by f es) (sum-in_order f ds)
    ∙ sym (sum_by-append f ds es) ∙ sym (sum-in_order f (ds ++ es)))

same_members : (ds es : List Datum) (e : Datum) → is_among e (kept Set ds ++ es) ≡ is_among e (ds ++ es)
same_members ds es e = among-append e (kept Set ds) es ∙ ap (λ b. b || is_among e es) (among-kept Set e ds) ∙ sym (among-append e ds es)

all_distinct_again : (es ds : List Datum) → distinct (distinct ds ++ es) ≡ distinct (ds ++ es)
all_distinct_again [] ds = ap distinct (append-nil (distinct ds)) ∙ once_again [] ds ∙ ap distinct (sym (append-nil ds))
all_distinct_again (e ∷ es) ds =
    ap distinct (sym (append_assoc (distinct ds) (e ∷ []) es))
    ∙ sym (all_distinct_again es (distinct ds ++ e ∷ []))
    ∙ ap (λ xs. distinct (xs ++ es)) (distinct_again ds e)
    ∙ all_distinct_again es (ds ++ e ∷ [])
    ∙ ap distinct (append_assoc ds (e ∷ []) es)

-- what a kind keeps of what it kept and of more is what it keeps of all
kept_again : (kind : Kind) (ds es : List Datum) → kept kind (kept kind ds ++ es) ≡ kept kind (ds ++ es)
kept_again Set ds es = one_set (kept Set ds ++ es) (ds ++ es) (same_members ds es)
kept_again Bag ds es = ordered_again ds es
kept_again Sequence ds es = refl
kept_again OrderedSet ds es = all_distinct_again es ds

-- ---- of more no fewer are kept

new_more : (met ds es : List Datum) → length (new_ones met ds) ≤ length (new_ones met (ds ++ es))
new_more met [] es = omega arith
new_more met (x ∷ xs) es = go (is_among x met) (new_more met xs es) (new_more (x ∷ met) xs es)
  where
    go : (m : Bool) → length (new_ones met xs) ≤ length (new_ones met (xs ++ es)) → length (new_ones (x ∷ met) xs) ≤ length (new_ones (x ∷ met) (xs ++ es))
        → length (cond m (new_ones met xs) (x ∷ new_ones (x ∷ met) xs)) ≤ length (cond m (new_ones met (xs ++ es)) (x ∷ new_ones (x ∷ met) (xs ++ es)))
    go true one two = one
    go false one two = omega (arith, two)

placed_one : (d : Datum) (xs : List Datum) → length (placed d xs) ≡ suc (length xs)
placed_one d [] = refl
placed_one d (x ∷ xs) = go (is_before x d) (placed_one d xs)
  where
    go : (b : Bool) → length (placed d xs) ≡ suc (length xs) → length (cond b (x ∷ placed d xs) (d ∷ x ∷ xs)) ≡ suc (suc (length xs))
    go true h = ap suc h
    go false h = refl

all_in_order : (ds : List Datum) → length (in_order ds) ≡ length ds
all_in_order [] = refl
all_in_order (d ∷ ds) = placed_one d (in_order ds) ∙ ap suc (all_in_order ds)

no_fewer : (kind : Kind) (ds es : List Datum) → length (kept kind ds) ≤ length (kept kind (ds ++ es))
no_fewer Set ds es =
    let before = all_in_order (distinct ds) in
    let behind = all_in_order (distinct (ds ++ es)) in
    let more = new_more [] ds es in
    omega (arith, before, behind, more)
no_fewer Bag ds es =
    let before = all_in_order ds in
    let behind = all_in_order (ds ++ es) in
    let more = length-append ds es in
    omega (arith, before, behind, more)
no_fewer Sequence ds es =
    let more = length-append ds es in
    omega (arith, more)
no_fewer OrderedSet ds es = new_more [] ds es

-- too many stay too many
too_many : (kind : Kind) (ds es : List Datum) (n : ℕ) → nat_le (length (kept kind ds)) n ≡ false → nat_le (length (kept kind (ds ++ es))) n ≡ false
too_many kind ds es n many = go (nat_le (length (kept kind (ds ++ es))) n) refl
  where
    go : (b : Bool) → nat_le (length (kept kind (ds ++ es))) n ≡ b → nat_le (length (kept kind (ds ++ es))) n ≡ false
    go false few = few
    go true few =
        let within : length (kept kind (ds ++ es)) ≤ n = leb-true (length (kept kind (ds ++ es))) n few in
        let fewer = no_fewer kind ds es in
        absurd (true≢false (sym (le-leb (length (kept kind ds)) n (omega (arith, within, fewer))) ∙ many))

-- what is kept of a collection can wait until more is brought into it
grown_later : (kind : Kind) (ds es : List Datum) → collection kind (ds ++ es) ≡ with_collection (collection kind ds) (λ c. collection c.kind (c.elements ++ es))
grown_later kind ds es = go (nat_le (length (kept kind ds)) MAX_RESULT) refl
  where
    go : (b : Bool) → nat_le (length (kept kind ds)) MAX_RESULT ≡ b
        → collection kind (ds ++ es) ≡ with_collection (cond b (Many kind (kept kind ds)) Invalid) (λ c. collection c.kind (c.elements ++ es))
    go true few = ap (bounded kind) (sym (kept_again kind ds es))
    go false many = ap (λ b. cond b (Many kind (kept kind (ds ++ es))) Invalid) (too_many kind ds es MAX_RESULT many)

fitting : (kind : Kind) (ds es : List Datum) (only : Option Kind) (b : Bool) → fits only kind ≡ b
    → cond b (collection kind (ds ++ es)) Invalid ≡ with_collection (collection kind ds) (grown only es)
fitting kind ds es only b fit = go (nat_le (length (kept kind ds)) MAX_RESULT) refl b fit
  where
    whole : (m : Bool) → nat_le (length (kept kind ds)) MAX_RESULT ≡ m
        → collection kind (ds ++ es) ≡ with_collection (cond m (Many kind (kept kind ds)) Invalid) (λ c. collection c.kind (c.elements ++ es))
    whole m is = grown_later kind ds es ∙ ap (λ b. with_collection (cond b (Many kind (kept kind ds)) Invalid) (λ c. collection c.kind (c.elements ++ es))) is

    go : (m : Bool) → nat_le (length (kept kind ds)) MAX_RESULT ≡ m → (b : Bool) → fits only kind ≡ b
        → cond b (collection kind (ds ++ es)) Invalid ≡ with_collection (cond m (Many kind (kept kind ds)) Invalid) (grown only es)
    go true few true fit = whole true few ∙ ap (λ b. cond b (collection kind (kept kind ds ++ es)) Invalid) (sym fit)
    go true few false fit = ap (λ b. cond b (collection kind (kept kind ds ++ es)) Invalid) (sym fit)
    go false many true fit = whole false many
    go false many false fit = refl

pub grown_further : (o : Option Kind) (kind : Kind) (ds new es : List Datum) (only : Option Kind) (x : Out) → o ≡ Some kind → fits only kind ≡ true → new ≡ ds ++ es → x ≡ collection kind new
    → x ≡ with_collection (given o (λ k. collection k ds)) (grown only es)
grown_further o kind ds new es only x some fit is same =
    same ∙ ap (collection kind) is ∙ fitting kind ds es only true fit ∙ sym (ap (λ p. with_collection (given p (λ k. collection k ds)) (grown only es)) some)

pub never_fits : (o : Option Kind) (kind : Kind) (ds es : List Datum) (only : Option Kind) → o ≡ Some kind → fits only kind ≡ false
    → Invalid ≡ with_collection (given o (λ k. collection k ds)) (grown only es)
never_fits o kind ds es only some fit =
    fitting kind ds es only false fit ∙ sym (ap (λ p. with_collection (given p (λ k. collection k ds)) (grown only es)) some)

pub none_grown : (o : Option Kind) (ds es : List Datum) (only : Option Kind) → o ≡ None → Invalid ≡ with_collection (given o (λ k. collection k ds)) (grown only es)
none_grown o ds es only none = sym (ap (λ p. with_collection (given p (λ k. collection k ds)) (grown only es)) none)

pub settled_is : (o : Option Kind) (kind : Kind) (ds : List Datum) (out : Out) → o ≡ Some kind → out ≡ collection kind ds → out ≡ given o (λ k. collection k ds)
settled_is o kind ds out some is = is ∙ sym (ap (λ p. given p (λ k. collection k ds)) some)

pub none_settled : (o : Option Kind) (ds : List Datum) → o ≡ None → Invalid ≡ given o (λ k. collection k ds)
none_settled o ds none = sym (ap (λ p. given p (λ k. collection k ds)) none)

-- nothing is brought into a collection where there is nothing to bring
pub nothing_grown : (x : Out) → Invalid ≡ with_collection x (λ c. Invalid)
nothing_grown x = go (collection_of x)
  where
    go : (o : Option Collection) → Invalid ≡ given o (λ c. Invalid)
    go None = refl
    go (Some c) = refl

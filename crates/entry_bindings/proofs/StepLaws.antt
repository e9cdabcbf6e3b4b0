-- Steps of loops over two lists, and their ends.
use Rattle.std.specs.Prelude.{◌≡◌, ◌≢◌, ◌⊎◌, ◌<◌, ◌≤◌, ◌+◌, ℕ, zero, suc, Bool, true, false, List, [], ◌∷◌, length, drop, min, Option, Some, slice_index_or}
use Rattle.std.specs.Ordering.{nat_cmp}
use Rattle.std.specs.Cmp.Lexicographic.{slice_cmp}
use Rattle.std.specs.declared.cmp.Ordering.{Ordering}
use Rattle.std.specs.declared.cmp.Ordering.TheVariants.{Less, Equal, Greater}
use Rattle.std.proofs.Common.{refl, sym, ap, ◌∙◌, arith, inl, inr}
use Rattle.std.proofs.Math.Nat.{le-min}
use Rattle.std.proofs.lemmas.Bool.{and_parts, true≢false}
use Rattle.std.proofs.lemmas.Bool.Decides.{leb_tells}
use Rattle.std.proofs.lemmas.Cmp.{ranked}
use Rattle.qv_syntax.specs.declared.program.Dom.{Dom}
use Rattle.qvtr_semantics.specs.declared.datum.Datum.{Datum}
use Rattle.qvtr_semantics.specs.Templates.{Values}
use Rattle.term_table.specs.declared.numbered.NumberedValue.{NumberedValue}
use Rattle.entry_bindings.specs.declared.argument.Argument.{Argument}
use Rattle.entry_bindings.specs.Starts.{NumberedValues, number_of, datum_beside, data_beside, value_beside, start_of}
use Rattle.entry_bindings.specs.Arguments.{put_roots}
use Rattle.entry_bindings.specs.Joins.{agrees, agree, filled}

put_none : {X : Type 0} (b : List (Option X)) (doms : List Dom) → put_roots b doms [] ≡ b
put_none b [] = refl
put_none b (dom ∷ doms) = refl

put_no_domains : {X : Type 0} (b : List (Option X)) (doms : List Dom) (xs : List X) (i : ℕ) → length doms ≤ i → put_roots b (drop i doms) xs ≡ b
put_no_domains b [] xs zero past = refl
put_no_domains b [] xs (suc i) past = refl
put_no_domains b (dom ∷ doms) xs zero past = absurd (omega (arith, past))
put_no_domains b (dom ∷ doms) xs (suc i) past = put_no_domains b doms xs i (omega (arith, past))

put_no_values : {X : Type 0} (b : List (Option X)) (doms : List Dom) (xs : List X) (i : ℕ) → length xs ≤ i → put_roots b doms (drop i xs) ≡ b
put_no_values b doms [] zero past = put_none b doms
put_no_values b doms [] (suc i) past = put_none b doms
put_no_values b doms (x ∷ xs) zero past = absurd (omega (arith, past))
put_no_values b doms (x ∷ xs) (suc i) past = put_no_values b doms xs i (omega (arith, past))

-- at the end of the shorter list
pub put_ended : {X : Type 0} (b : List (Option X)) (doms : List Dom) (xs : List X) (i : ℕ) → min (length doms) (length xs) ≤ i → put_roots b (drop i doms) (drop i xs) ≡ b
put_ended b doms xs i past = elim (leb_tells (length doms) (length xs)) [
  | inl shorter ↦ let least : length doms ≤ min (length doms) (length xs) = le-min (omega arith) shorter.1 in
      put_no_domains b doms (drop i xs) i (omega (arith, least, past))
  | inr longer ↦ let least : length xs ≤ min (length doms) (length xs) = le-min (omega (arith, longer.1)) (omega arith) in
      put_no_values b (drop i doms) xs i (omega (arith, least, past))
]

-- ---- an order of lists, at the end of the shorter one

nat_less : (m n : ℕ) → m < n → nat_cmp m n ≡ Less
nat_less m n less = sym (by (nat_cmp m n) refl)
  where
    by : (o : Ordering) → o ≡ nat_cmp m n → Less ≡ o
    by Less h = refl
    by Equal h = absurd (omega (arith, less, ranked m n Equal h))
    by Greater h = absurd (omega (arith, less, ranked m n Greater h))

nat_more : (m n : ℕ) → n < m → nat_cmp m n ≡ Greater
nat_more m n more = sym (by (nat_cmp m n) refl)
  where
    by : (o : Ordering) → o ≡ nat_cmp m n → Greater ≡ o
    by Less h = absurd (omega (arith, more, ranked m n Less h))
    by Equal h = absurd (omega (arith, more, ranked m n Equal h))
    by Greater h = refl

nat_same : (n : ℕ) → nat_cmp n n ≡ Equal
nat_same n = sym (by (nat_cmp n n) refl)
  where
    by : (o : Ordering) → o ≡ nat_cmp n n → Equal ≡ o
    by Less h = absurd (omega (arith, ranked n n Less h))
    by Equal h = refl
    by Greater h = absurd (omega (arith, ranked n n Greater h))

suc_cmp : (m n : ℕ) → nat_cmp m n ≡ nat_cmp (suc m) (suc n)
suc_cmp m n = by (nat_cmp m n) refl
  where
    by : (o : Ordering) → o ≡ nat_cmp m n → o ≡ nat_cmp (suc m) (suc n)
    by Less h = sym (nat_less (suc m) (suc n) (omega (arith, ranked m n Less h)))
    by Equal h = sym (ap (λ k. nat_cmp (suc m) (suc k)) (sym (ranked m n Equal h)) ∙ nat_same (suc m))
    by Greater h = sym (nat_more (suc m) (suc n) (omega (arith, ranked m n Greater h)))

ended_by : {X : Type 0} (R : X → X → Ordering) (xs ys : List X) (i : ℕ) → i ≤ length xs → i ≤ length ys → (i ≡ length xs) ⊎ (i ≡ length ys)
    → slice_cmp R (drop i xs) (drop i ys) ≡ nat_cmp (length xs) (length ys)
ended_by R [] [] zero one other end = refl
ended_by R [] [] (suc i) one other end = absurd (omega (arith, one))
ended_by R [] (y ∷ ys) zero one other end = sym (nat_less 0 (suc (length ys)) (omega arith))
ended_by R [] (y ∷ ys) (suc i) one other end = absurd (omega (arith, one))
ended_by R (x ∷ xs) [] zero one other end = sym (nat_more (suc (length xs)) 0 (omega arith))
ended_by R (x ∷ xs) [] (suc i) one other end = absurd (omega (arith, other))
ended_by R (x ∷ xs) (y ∷ ys) zero one other (inl h) = absurd (omega (arith, h))
ended_by R (x ∷ xs) (y ∷ ys) zero one other (inr h) = absurd (omega (arith, h))
ended_by R (x ∷ xs) (y ∷ ys) (suc i) one other (inl h) = ended_by R xs ys i (omega (arith, one)) (omega (arith, other)) (inl (omega (arith, h))) ∙ suc_cmp (length xs) (length ys)
ended_by R (x ∷ xs) (y ∷ ys) (suc i) one other (inr h) = ended_by R xs ys i (omega (arith, one)) (omega (arith, other)) (inr (omega (arith, h))) ∙ suc_cmp (length xs) (length ys)

-- where the shorter list ends, the lengths tell
pub cmp_ended : {X : Type 0} (R : X → X → Ordering) (xs ys : List X) (i : ℕ) → i ≡ min (length xs) (length ys) → slice_cmp R (drop i xs) (drop i ys) ≡ nat_cmp (length xs) (length ys)
cmp_ended R xs ys i is = elim (leb_tells (length xs) (length ys)) [
  | inl shorter ↦ ended_by R xs ys i (omega (arith, is, shorter.1)) (omega (arith, is, shorter.1)) (inl (omega (arith, is, shorter.1)))
  | inr longer ↦ ended_by R xs ys i (omega (arith, is, longer.1)) (omega (arith, is, longer.1)) (inr (omega (arith, is, longer.1)))
]

-- ---- roots of a match

-- lists that agree have one length
pub agree_long : (given : List Argument) (ys : List NumberedValue) → agree given ys ≡ true → length given ≡ length ys
agree_long [] [] h = refl
agree_long [] (y ∷ ys) h = absurd (true≢false (sym h))
agree_long (a ∷ given) [] h = absurd (true≢false (sym h))
agree_long (a ∷ given) (y ∷ ys) h = ap suc (agree_long given ys (and_parts (agrees a y) (agree given ys) h).1)

-- lists of different lengths don't agree
pub agree_not : (given : List Argument) (ys : List NumberedValue) → length given ≢ length ys → agree given ys ≡ false
agree_not given ys other = by (agree given ys) refl
  where
    by : (x : Bool) → agree given ys ≡ x → x ≡ false
    by true h = absurd (other (agree_long given ys h))
    by false h = refl

-- nothing is left to agree
pub agree_ended : (given : List Argument) (ys : List NumberedValue) (i : ℕ) → length given ≡ length ys → length given ≤ i → agree (drop i given) (drop i ys) ≡ true
agree_ended [] [] zero long past = refl
agree_ended [] [] (suc i) long past = refl
agree_ended [] (y ∷ ys) i long past = absurd (omega (arith, long))
agree_ended (a ∷ given) [] i long past = absurd (omega (arith, long))
agree_ended (a ∷ given) (y ∷ ys) zero long past = absurd (omega (arith, past))
agree_ended (a ∷ given) (y ∷ ys) (suc i) long past = agree_ended given ys i (omega (arith, long)) (omega (arith, past))

-- ---- open arguments

fill_none : (b : NumberedValues) (given : List Argument) → filled b given [] ≡ Some b
fill_none b [] = refl
fill_none b (a ∷ given) = refl

fill_no_arguments : (b : NumberedValues) (given : List Argument) (ys : List NumberedValue) (i : ℕ) → length given ≤ i → filled b (drop i given) ys ≡ Some b
fill_no_arguments b [] ys zero past = refl
fill_no_arguments b [] ys (suc i) past = refl
fill_no_arguments b (a ∷ given) ys zero past = absurd (omega (arith, past))
fill_no_arguments b (a ∷ given) ys (suc i) past = fill_no_arguments b given ys i (omega (arith, past))

fill_no_values : (b : NumberedValues) (given : List Argument) (ys : List NumberedValue) (i : ℕ) → length ys ≤ i → filled b given (drop i ys) ≡ Some b
fill_no_values b given [] zero past = fill_none b given
fill_no_values b given [] (suc i) past = fill_none b given
fill_no_values b given (y ∷ ys) zero past = absurd (omega (arith, past))
fill_no_values b given (y ∷ ys) (suc i) past = fill_no_values b given ys i (omega (arith, past))

-- nothing is left to fill
pub fill_ended : (b : NumberedValues) (given : List Argument) (ys : List NumberedValue) (i : ℕ) → min (length given) (length ys) ≤ i → filled b (drop i given) (drop i ys) ≡ Some b
fill_ended b given ys i past = elim (leb_tells (length given) (length ys)) [
  | inl shorter ↦ let least : length given ≤ min (length given) (length ys) = le-min (omega arith) shorter.1 in
      fill_no_arguments b given (drop i ys) i (omega (arith, least, past))
  | inr longer ↦ let least : length ys ≤ min (length given) (length ys) = le-min (omega (arith, longer.1)) (omega arith) in
      fill_no_values b (drop i given) ys i (omega (arith, least, past))
]

-- ---- what is beside roots, one place more

drop_none : {X : Type 0} (n : ℕ) → drop n (let none : List X = [] in none) ≡ []
drop_none zero = refl
drop_none (suc n) = refl

drop_past : {X : Type 0} (xs : List X) (n : ℕ) → length xs ≤ n → drop n xs ≡ []
drop_past [] n past = drop_none n
drop_past (x ∷ xs) zero past = absurd (omega (arith, past))
drop_past (x ∷ xs) (suc n) past = drop_past xs n (omega (arith, past))

data_next : (roots : NumberedValues) (ds : Values) (i : ℕ) (d : Option Datum) → i < length ds
    → data_beside (drop i roots) (drop i ds) ≡ datum_beside (number_of roots i) (slice_index_or ds i d) ∷ data_beside (drop (suc i) roots) (drop (suc i) ds)
data_next roots [] i d less = absurd (omega (arith, less))
data_next [] (e ∷ ds) zero d less = refl
data_next (r ∷ roots) (e ∷ ds) zero d less = refl
data_next [] (e ∷ ds) (suc i) d less = sym (ap (λ (rs : NumberedValues). data_beside rs (drop i ds)) (drop_none i)) ∙ data_next [] ds i d (omega (arith, less))
data_next (r ∷ roots) (e ∷ ds) (suc i) d less = data_next roots ds i d (omega (arith, less))

-- one place of what is beside roots
pub data_step : (roots : NumberedValues) (ds : Values) (i : ℕ) (d : Option Datum) → i < length ds
    → data_beside (drop i roots) (drop i ds) ≡ datum_beside (number_of roots i) (slice_index_or ds i d) ∷ data_beside (drop (i + 1) roots) (drop (i + 1) ds)
data_step roots ds i d less =
    let more : suc i ≡ i + 1 = omega arith in
    data_next roots ds i d less ∙ ap (λ n. datum_beside (number_of roots i) (slice_index_or ds i d) ∷ data_beside (drop n roots) (drop n ds)) more

data_none : (roots : NumberedValues) → data_beside roots [] ≡ []
data_none [] = refl
data_none (r ∷ roots) = refl

-- nothing is left of it
pub data_ended : (roots : NumberedValues) (ds : Values) (i : ℕ) → length ds ≤ i → data_beside (drop i roots) (drop i ds) ≡ []
data_ended roots ds i past = ap (data_beside (drop i roots)) (drop_past ds i past) ∙ data_none (drop i roots)

start_next : (roots : NumberedValues) (ds : Values) (i : ℕ) (d : Option Datum) → i < length ds
    → start_of (drop i roots) (drop i ds) ≡ value_beside (number_of roots i) (slice_index_or ds i d) ∷ start_of (drop (suc i) roots) (drop (suc i) ds)
start_next roots [] i d less = absurd (omega (arith, less))
start_next [] (e ∷ ds) zero d less = refl
start_next (r ∷ roots) (e ∷ ds) zero d less = refl
start_next [] (e ∷ ds) (suc i) d less = sym (ap (λ (rs : NumberedValues). start_of rs (drop i ds)) (drop_none i)) ∙ start_next [] ds i d (omega (arith, less))
start_next (r ∷ roots) (e ∷ ds) (suc i) d less = start_next roots ds i d (omega (arith, less))

-- one place of where a binding begins
pub start_step : (roots : NumberedValues) (ds : Values) (i : ℕ) (d : Option Datum) → i < length ds
    → start_of (drop i roots) (drop i ds) ≡ value_beside (number_of roots i) (slice_index_or ds i d) ∷ start_of (drop (i + 1) roots) (drop (i + 1) ds)
start_step roots ds i d less =
    let more : suc i ≡ i + 1 = omega arith in
    start_next roots ds i d less ∙ ap (λ n. value_beside (number_of roots i) (slice_index_or ds i d) ∷ start_of (drop n roots) (drop n ds)) more

start_none : (roots : NumberedValues) → start_of roots [] ≡ []
start_none [] = refl
start_none (r ∷ roots) = refl

-- nothing is left of it
pub start_ended : (roots : NumberedValues) (ds : Values) (i : ℕ) → length ds ≤ i → start_of (drop i roots) (drop i ds) ≡ []
start_ended roots ds i past = ap (start_of (drop i roots)) (drop_past ds i past) ∙ start_none (drop i roots)

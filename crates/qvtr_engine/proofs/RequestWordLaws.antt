-- What is spelled is read, and what is read is spelled: the words of a command over a script and models, with a file for each of any number of
-- names.
use Rattle.std.proofs.Common.{◌≡◌, ◌≢◌, ◌≤◌, ℕ, true, false, cond, List, [], ◌∷◌, length, map, refl, sym, ◌∙◌, ap, subst, arith, true≢false, Option, Some, None}
use Rattle.std.specs.Prelude.{nat_lt, nat_le}
use Rattle.std.specs.List.{list_all}
use Rattle.std.proofs.lemmas.Bool.Decides.{nat_tests}
use Rattle.std.proofs.lemmas.List.{length-map}
use Rattle.command_words.specs.Arguments.{AreArguments, arguments_of}
use Rattle.command_words.specs.Synopses.{HasArguments, has_count}
use Rattle.command_words.specs.declared.synopsis.Synopsis.TheVariants.{Models}
use Rattle.qvtr_engine.specs.CheckWords.{Bound, CheckWords, bound_word, is_bound}
use Rattle.qvtr_engine.specs.Paths.{is_filled}
use Rattle.qvtr_engine.specs.Reading.{◌>>=◌, when_true, parts, bound_of}
use Rattle.qvtr_engine.specs.RequestWords.{IsRequest, check_arguments, has_parts, is_good, check_in, check_from, request_of}
use Rattle.command_words.proofs.ArgumentsLaws.{arguments_found, arguments_again}
use Rattle.qvtr_engine.proofs.CheckLaws.{bound_found, bound_again}
use Rattle.qvtr_engine.proofs.ReadingLaws.{bind_some, when_some, when_holds}
use Rattle.std.proofs.lemmas.Bool.{and_from, and_parts}

-- ---- words that bind names to paths

bound_read : (word : List ℕ) → has_parts (parts word) ≡ true → bound_of word ≡ Some (parts word)
unfolding bound_of
bound_read word h = when_holds _ _ h

bounds_found : (words : List (List ℕ)) → list_all has_parts (map parts words) ≡ true
    → (words ≡ map bound_word (map parts words)) × (list_all is_bound (map parts words) ≡ true)
bounds_found [] h = (refl, refl)
bounds_found (word ∷ words) h =
    let p = and_parts _ _ h in
    let one = bound_found word (parts word) (bound_read word p.0) in
    let more = bounds_found words p.1 in
    (λ i. one.0 i ∷ more.0 i, and_from _ _ one.1 more.1)

one_again : (b : Bound) → is_bound b ≡ true → (parts (bound_word b) ≡ b) × (has_parts b ≡ true)
unfolding bound_of
one_again b h =
    let read = when_some _ _ b (bound_again b h) in
    (read.1, subst (λ x. has_parts x ≡ true) read.1 read.0)

bounds_again : (bs : List Bound) → list_all is_bound bs ≡ true → (map parts (map bound_word bs) ≡ bs) × (list_all has_parts bs ≡ true)
bounds_again [] h = (refl, refl)
bounds_again (b ∷ bs) h =
    let p = and_parts _ _ h in
    let one = one_again b p.0 in
    let more = bounds_again bs p.1 in
    (λ i. one.0 i ∷ more.0 i, and_from _ _ one.1 more.1)

-- their paths aren't empty
paths_filled : (bs : List Bound) → list_all has_parts bs ≡ true → list_all is_filled (map (λ b. b.path) bs) ≡ true
paths_filled [] h = refl
paths_filled (b ∷ bs) h =
    let p = and_parts _ _ h in and_from _ _ (and_parts _ _ p.0).1 (paths_filled bs p.1)

-- ---- what is read is spelled

some_file : (b : Bound) (bs : List Bound) → b ∷ bs ≡ [] → ⊥
some_file b bs e = cc

found_in : (command : List ℕ) (further arguments : List (List ℕ)) → AreArguments further arguments → nat_lt (length arguments) 3 ≡ false → is_good (check_in arguments) ≡ true
    → IsRequest command (command ∷ further) (check_in arguments)
found_in command further [] args l good = absurd (true≢false l)
found_in command further (a ∷ []) args l good = absurd (true≢false l)
found_in command further (a ∷ b ∷ []) args l good = absurd (true≢false l)
found_in command further (a ∷ b ∷ c ∷ cs) args l good =
    let apart = and_parts _ _ good in
    let filled = and_parts _ _ apart.0 in
    let names = and_parts _ _ filled.0 in
    let bound = bounds_found (c ∷ cs) names.0 in
    record {
      further = further;
      named = refl;
      arguments = subst (λ ws. AreArguments further (a ∷ b ∷ ws)) bound.0 args;
      some = some_file (parts c) (map parts cs);
      bound = bound.1;
      names = names.1;
      filled = and_from _ _ filled.1 (paths_filled (map parts (c ∷ cs)) names.0);
      apart = apart.1;
    }

from_found : (arguments : List (List ℕ)) (w : CheckWords) → check_from arguments ≡ Some w
    → (nat_lt (length arguments) 3 ≡ false) × (is_good (check_in arguments) ≡ true) × (check_in arguments ≡ w)
unfolding check_from
from_found arguments w e =
    elim (nat_lt (length arguments) 3) as (λ b. nat_lt (length arguments) 3 ≡ b → cond b None (when_true (is_good (check_in arguments)) (check_in arguments)) ≡ Some w
    → (nat_lt (length arguments) 3 ≡ false) × (is_good (check_in arguments) ≡ true) × (check_in arguments ≡ w)) [
      | true ↦ λ is f. let gone : None ≡ Some w = f in cc
      | false ↦ λ is f. let p = when_some _ _ w f in (is, p.0, p.1)
    ] refl e

pub request_found : (command : List ℕ) (further : List (List ℕ)) (w : CheckWords) → request_of further ≡ Some w → IsRequest command (command ∷ further) w
unfolding request_of
request_found command further w e =
    let p = bind_some (arguments_of further) check_from w e in
    let q = from_found p.0 w p.2 in
    subst (IsRequest command (command ∷ further)) q.2 (found_in command further p.0 (arguments_found further p.0 p.1) q.0 q.1)

-- ---- what is spelled is read

three : (a b : List ℕ) (bs : List Bound) → bs ≢ [] → nat_lt (length (a ∷ b ∷ map bound_word bs)) 3 ≡ false
three a b [] some = absurd (some refl)
three a b (c ∷ cs) some = grind (arith, nat_tests)

read_again : (w : CheckWords) → list_all is_bound w.files ≡ true → check_in (check_arguments w) ≡ w
read_again w h = let files = (bounds_again w.files h).0 in λ i. record { script = w.script; target = w.target; files = files i }

all_good : (command : List ℕ) (words : List (List ℕ)) (w : CheckWords) → IsRequest command words w → is_good w ≡ true
all_good command words w h =
    and_from _ _ (and_from _ _ (and_from _ _ (bounds_again w.files h.bound).1 h.names) (and_parts _ _ h.filled).0) h.apart

from_again : (command : List ℕ) (words : List (List ℕ)) (w : CheckWords) → IsRequest command words w → check_from (check_arguments w) ≡ Some w
unfolding check_from
from_again command words w h =
    ap (λ b. cond b None (when_true (is_good (check_in (check_arguments w))) (check_in (check_arguments w)))) (three w.script w.target w.files h.some)
    ∙ ap (λ x. when_true (is_good x) x) (read_again w h.bound) ∙ when_holds (is_good w) w (all_good command words w h)

pub request_again : (command : List ℕ) (words : List (List ℕ)) (w : CheckWords) → (h : IsRequest command words w) → request_of h.further ≡ Some w
unfolding request_of
request_again command words w h =
    ap (λ o. o >>= check_from) (arguments_again h.further (check_arguments w) h.arguments) ∙ from_again command words w h

-- ---- what is read of words that have three arguments or more, and of words that haven't

good_read : (arguments : List (List ℕ)) → nat_le 3 (length arguments) ≡ true → check_from arguments ≡ when_true (is_good (check_in arguments)) (check_in arguments)
unfolding check_from
good_read arguments l =
    let long : nat_lt (length arguments) 3 ≡ false = grind (arith, nat_tests, l) in
    ap (λ b. cond b None (when_true (is_good (check_in arguments)) (check_in arguments))) long

pub request_read : (further arguments : List (List ℕ)) → HasArguments Models further arguments
    → request_of further ≡ when_true (is_good (check_in arguments)) (check_in arguments)
unfolding request_of
request_read further arguments h = ap (λ o. o >>= check_from) (arguments_again further arguments h.0) ∙ good_read arguments h.1

pub request_unread : (further : List (List ℕ)) → ((arguments : List (List ℕ)) → HasArguments Models further arguments → ⊥) → request_of further ≡ None
unfolding request_of
request_unread further none = by (request_of further) refl
  where
    by : (o : Option CheckWords) → request_of further ≡ o → o ≡ None
    by None e = refl
    by (Some w) e =
        let p = bind_some (arguments_of further) check_from w e in
        let q = from_found p.0 w p.2 in
        let long : nat_le 3 (length p.0) ≡ true = grind (arith, nat_tests, q.0) in
        absurd (none p.0 (arguments_found further p.0 p.1, long))

-- where they are good, and where they aren't
pub request_good : (further arguments : List (List ℕ)) (w : CheckWords) → HasArguments Models further arguments → w ≡ check_in arguments → is_good w ≡ true
    → request_of further ≡ Some w
request_good further arguments w h same good =
    request_read further arguments h ∙ ap (λ x. when_true (is_good x) x) (sym same) ∙ when_holds (is_good w) w good

pub request_bad : (further arguments : List (List ℕ)) (w : CheckWords) → HasArguments Models further arguments → w ≡ check_in arguments → is_good w ≡ false
    → request_of further ≡ None
request_bad further arguments w h same bad =
    request_read further arguments h ∙ ap (λ x. when_true (is_good x) x) (sym same) ∙ ap (λ b. when_true b w) bad

-- there are so many
pub three_or_more : {A : Type 0} (f : A → List ℕ) (xs : List A) → has_count Models (length (map f xs)) ≡ true → 2 ≤ length xs
three_or_more f xs h = let count = length-map xs f in grind (arith, nat_tests, h, count)

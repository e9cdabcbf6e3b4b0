-- The values that were found for an argument, as clap's getter gives them.
use Rattle.std.proofs.Common.{◌≡◌, ℕ, ◌∙◌, ap, map, cond, List, [], ◌++◌, Option, Some, None, option_map}
use Rattle.std.specs.Prelude.{Result, Ok, Err, is_ok, unwrap_or, OnOk, IfErr, IsErrAnd}
use Rattle.std.specs.Borrow.{Bor}
use Rattle.std.proofs.lemmas.List.{map-append}
use Rattle.clap.specs.Matches.{found_of, matched_of, raw_values}
use Rattle.clap.specs.Walk.{rows_of}
use Rattle.clap.specs.declared.parser.matches.ArgMatches.{ArgMatches}
use Rattle.clap.proofs.WalkLemmas.{raw_values-rows}
use Rattle.command_words.specs.Commands.{values_at}

abbrev pub texts_in : List (Bor (List ℕ)) → List (List ℕ)
texts_in = map (λ v. v.now)

pub found_at : (m : ArgMatches) (raw : Option (Bor (List (Bor (List ℕ))))) (name : List ℕ) (none : Bor (List (Bor (List ℕ)))) → none.now ≡ []
    → option_map (λ s. map (λ v. v.now) s.now) raw ≡ option_map raw_values (matched_of (found_of m) name)
    → texts_in (unwrap_or raw none).now ≡ values_at (rows_of (found_of m)) name
found_at m None name none e is =
    let same = is ∙ raw_values-rows (found_of m) name in ap texts_in e ∙ ap (λ o. unwrap_or o []) same
found_at m (Some raw) name none e is =
    let same = is ∙ raw_values-rows (found_of m) name in ap (λ o. unwrap_or o []) same

pub added : {T E : Type 0} (was now more : List (Bor (List ℕ))) (values : List (List ℕ)) (r : Result T E) → now ≡ cond (is_ok r) (was ++ more) was
    → texts_in more ≡ values → OnOk r (texts_in now ≡ texts_in was ++ values)
added was now more values (Ok x) e same = ap texts_in e ∙ map-append (λ v. v.now) was more ∙ ap (λ xs. texts_in was ++ xs) same
added was now more values (Err x) e same = tt

-- what holds of an error, by what it was made of
pub error_weaker : {T E : Type 0} (r : Result T E) (P Q : E → Type 0) → IsErrAnd r P → ((e : E) → P e → Q e) → IfErr r Q
error_weaker (Ok x) P Q h f = tt
error_weaker (Err e) P Q h f = f e h

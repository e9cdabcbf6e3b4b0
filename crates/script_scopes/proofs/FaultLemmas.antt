-- What the searches through names say of the names of a script.
use Rattle.std.proofs.Common.{◌≡◌, ℕ, ◌+◌, ◌<◌, List, [], ◌∷◌, ◌++◌, Bool, true, false, cond, ◌&&◌, not, refl, sym, ◌∙◌, ap, length, get_or, take, length-append}
use Rattle.std.specs.Prelude.{All, Contains, filter}
use Rattle.std.specs.Set.{is_member}
use Rattle.std.proofs.lemmas.List.{take_more}
use Rattle.std.proofs.lemmas.List.Elements.{filter-append}
use Rattle.mof_metamodel.specs.Characters.{same_name}
use Rattle.script_scopes.specs.ScriptNames.{each_once, new_names, IsFirstLacking}
use Rattle.script_scopes.specs.NameSearches.{IsFirstOther, counted_at}
use Rattle.script_scopes.proofs.NameLemmas.{has_name, lacks_name}
use Rattle.script_scopes.proofs.OnceLemmas.{new_names-append, member_once}

-- names that pass the test are among the names
pub all_known : (written names : List (List ℕ)) → All (λ n. is_member same_name written n ≡ true) names → All (Contains (each_once written)) names
all_known written names h = λ k d l. has_name (each_once written) (get_or names k d) (member_once written (get_or names k d) ∙ h k d l)

pub first_extra_place : (written names : List (List ℕ)) (i : ℕ) → IsFirstOther (is_member same_name written) names i → IsFirstLacking (each_once written) names i
first_extra_place written names i h = record {
  name = h.name;
  found = h.found;
  lacking = lacks_name (each_once written) h.name (member_once written h.name ∙ h.other);
  before = all_known written (take i names) h.before;
}

-- one more name
pub counted_more : (test : List ℕ → Bool) (names : List (List ℕ)) (i : ℕ) → i < length names
    → length (filter test (each_once (take (i + 1) names))) ≡ length (filter test (each_once (take i names))) + counted_at test names i
counted_more test names i l =
    ap (λ ns. length (filter test (each_once ns))) (take_more names i [] l)
    ∙ ap (λ ns. length (filter test ns)) (new_names-append [] (take i names) (get_or names i [] ∷ []))
    ∙ ap length (filter-append test (each_once (take i names)) (new_names (take i names) (get_or names i [] ∷ [])))
    ∙ length-append (filter test (each_once (take i names))) (filter test (new_names (take i names) (get_or names i [] ∷ [])))
    ∙ ap (λ n. length (filter test (each_once (take i names))) + n) (one (is_member same_name (take i names) (get_or names i [])) (test (get_or names i [])) refl)
  where
    one : (met passes : Bool) → test (get_or names i []) ≡ passes → length (filter test (cond met [] (get_or names i [] ∷ []) ++ [])) ≡ cond (test (get_or names i []) && not met) 1 0
    one true true e = sym (ap (λ b. cond (b && false) 1 0) e)
    one true false e = sym (ap (λ b. cond (b && false) 1 0) e)
    one false true e = ap (λ b. length (cond b (get_or names i [] ∷ []) [])) e ∙ sym (ap (λ b. cond (b && true) 1 0) e)
    one false false e = ap (λ b. length (cond b (get_or names i [] ∷ []) [])) e ∙ sym (ap (λ b. cond (b && true) 1 0) e)

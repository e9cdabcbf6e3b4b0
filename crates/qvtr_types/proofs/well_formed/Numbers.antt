-- Names that stand once, their numbers, and the variables that are in reach by them.
use Rattle.std.proofs.Common.{◌≡◌, ◌<◌, ◌⊎◌, ℕ, zero, suc, List, [], ◌∷◌, refl, sym, ◌∙◌, ap, length, get_or, ⊎_elim, true≢false}
use Rattle.std.specs.Prelude.{Some, Contains, slice_get}
use Rattle.std.proofs.lemmas.Bool.{cases_order}
use Rattle.std.proofs.lemmas.Option.{same_Some, none-some, slice_get_within, get_or_from_slice_get}
use Rattle.std.proofs.lemmas.Map.Keys.{apart_from_distinct}
use Rattle.mof_metamodel.specs.Characters.{same_name}
use Rattle.qv_syntax.specs.declared.program.Var.{Var}
use Rattle.qv_syntax.specs.declared.script.RelationTree.{RelationTree}
use Rattle.ocl_environments.specs.declared.variable.Variable.{Variable}
use Rattle.script_scopes.specs.ScriptNames.{each_once}
use Rattle.script_scopes.specs.Occurrences.{variables_of}
use Rattle.script_scopes.specs.Declarations.{IsRepeated}
use Rattle.script_scopes.specs.Environments.{place_of, named_variables}
use Rattle.qvtr_types.specs.TypedUsages.{HasNumber}
use Rattle.script_scopes.specs.Environments.{Setting, in_relation}
use Rattle.script_scopes.proofs.NameLemmas.{is_same}
use Rattle.script_scopes.proofs.OnceLemmas.{new_names-distinct}
use Rattle.script_variables.proofs.PlaceLaws.{at_place}
use Rattle.mof_metamodel.proofs.Facts.{contains_at}

-- no name stands twice
abbrev pub AreApart : List (List ℕ) → Type 0
AreApart names = (name : List ℕ) → IsRepeated names name → ⊥

pub once_apart : (xs : List (List ℕ)) → AreApart (each_once xs)
once_apart xs name twice =
    let ys : List (List ℕ) = each_once xs in
    let one : get_or ys twice.first name ≡ name = get_or_from_slice_get ys twice.first name name twice.one in
    let other : get_or ys twice.second name ≡ name = get_or_from_slice_get ys twice.second name name twice.other in
    true≢false (sym (is_same (get_or ys twice.first name) (get_or ys twice.second name) (one ∙ sym other))
    ∙ apart_from_distinct same_name ys twice.first twice.second name (new_names-distinct [] xs) twice.order (slice_get_within ys twice.second name twice.other))

module _ (names : List (List ℕ)) (apart : AreApart names) where
  pub one_place : (i j : ℕ) (name : List ℕ) → slice_get names i ≡ Some name → slice_get names j ≡ Some name → i ≡ j
  one_place i j name one other = ⊎_elim
      (λ (is : i ≡ j). is)
      (λ (split : (i < j) ⊎ (j < i)). ⊎_elim
      (λ (less : i < j). absurd (apart name (record { first = i; second = j; order = less; one = one; other = other })))
      (λ (more : j < i). absurd (apart name (record { first = j; second = i; order = more; one = other; other = one })))
      split)
      (cases_order i j)

  -- a name stands at its place alone
  pub place_at : (i : ℕ) (name : List ℕ) → slice_get names i ≡ Some name → place_of name names ≡ i
  place_at i name found = one_place (place_of name names) i name (at_place name names (contains_at names i name found)) found

-- the name that stands at the place of a name
pub name_at : (names : List (List ℕ)) (i : ℕ) (a name : List ℕ) → Contains names a → place_of a names ≡ i → slice_get names i ≡ Some name → a ≡ name
name_at names i a name has same found = same_Some a name (sym (at_place a names has) ∙ ap (slice_get names) same ∙ found)

pub one_name : (names : List (List ℕ)) (a b : List ℕ) → Contains names a → Contains names b → place_of a names ≡ place_of b names → a ≡ b
one_name names a b has_a has_b same = name_at names (place_of b names) a b has_a same (at_place b names has_b)

pub place_within : (names : List (List ℕ)) (a : List ℕ) → Contains names a → place_of a names < length names
place_within names a has = slice_get_within names (place_of a names) a (at_place a names has)

-- ---- variables in reach

pub named_at : (names : List (List ℕ)) (vars : List Var) (k : ℕ) (name : List ℕ) (x : Variable) → slice_get (named_variables names vars) k ≡ Some (name, x)
    → (var : Var) × (slice_get names k ≡ Some name) × (slice_get vars k ≡ Some var) × (x ≡ record { ty = var.ty; model = var.model })
named_at [] vars k name x found = absurd (none-some (name, x) found)
named_at (n ∷ names) [] k name x found = absurd (none-some (name, x) found)
named_at (n ∷ names) (v ∷ vars) zero name x found =
    let same : (n, record { ty = v.ty; model = v.model }) ≡ (name, x) = same_Some _ (name, x) found in
    (v, ap (λ (p : List ℕ × Variable). Some p.0) same, refl, ap (λ (p : List ℕ × Variable). p.1) (sym same))
named_at (n ∷ names) (v ∷ vars) (suc k) name x found = named_at names vars k name x found

pub at_named : (names : List (List ℕ)) (vars : List Var) (k : ℕ) (name : List ℕ) (var : Var) → slice_get names k ≡ Some name → slice_get vars k ≡ Some var
    → slice_get (named_variables names vars) k ≡ Some (name, record { ty = var.ty; model = var.model })
at_named [] vars k name var one other = absurd (none-some name one)
at_named (n ∷ names) [] k name var one other = absurd (none-some var other)
at_named (n ∷ names) (v ∷ vars) zero name var one other =
    ap (λ (m : List ℕ). Some (m, record { ty = v.ty; model = v.model })) (same_Some n name one)
    ∙ ap (λ (w : Var). Some (name, record { ty = w.ty; model = w.model })) (same_Some v var other)
at_named (n ∷ names) (v ∷ vars) (suc k) name var one other = at_named names vars k name var one other

module _ (s : Setting) (r : RelationTree) (vars : List Var) where
  abbrev names : List (List ℕ)
  names = variables_of r

  pub variables_apart : AreApart (variables_of r)
  variables_apart = once_apart _

  -- the number of a name in reach is its place
  pub number_at : (name : List ℕ) (number : ℕ) → HasNumber (in_relation s r vars) name number → slice_get (variables_of r) number ≡ Some name
  number_at name number h = let at = named_at names vars number name h.0 h.1.there in at.1

  pub number_is : (name : List ℕ) (number k : ℕ) → HasNumber (in_relation s r vars) name number → slice_get (variables_of r) k ≡ Some name → number ≡ k
  number_is name number k h found = one_place names variables_apart number k name (number_at name number h) found

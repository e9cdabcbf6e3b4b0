-- The variables of a relation, brought into reach one after another.
use Rattle.std.proofs.Common.{◌≡◌, ◌<◌, ◌+◌, ℕ, List, [], ◌∷◌, ◌++◌, Bool, true, false, map, take, length, get_or, arith, refl, sym, ap, subst, ◌∙◌}
use Rattle.std.specs.Prelude.{Some, is_some, Contains, slice_get}
use Rattle.std.specs.List.{zip}
use Rattle.std.specs.Set.{is_member}
use Rattle.std.proofs.lemmas.Option.{slice_get-get_or}
use Rattle.std.proofs.lemmas.List.{take_more, length-take-le, get_or-take}
use Rattle.std.proofs.lemmas.Map.Made.{is_some-lookup}
use Rattle.mof_metamodel.specs.Characters.{same_name}
use Rattle.mof_metamodel.specs.NameTables.{NamesWith, value_of}
use Rattle.qv_syntax.specs.declared.program.Var.{Var}
use Rattle.ocl_environments.specs.declared.variable.Variable.{Variable}
use Rattle.script_scopes.specs.Declarations.{IsRepeated}
use Rattle.script_scopes.specs.Environments.{named_variables}
use Rattle.script_scopes.proofs.NameLemmas.{has_name}

abbrev variable_of : Var → Variable
variable_of v = record { ty = v.ty; model = v.model }

keys_of : (names : List (List ℕ)) (vars : List Var) → length vars ≡ length names → map {A = List ℕ × Variable} {B = List ℕ} (λ e. e.0) (named_variables names vars) ≡ names
keys_of [] [] count = refl
keys_of [] (v ∷ vars) count = refl
keys_of (n ∷ names) [] count = absurd (omega (arith, count))
keys_of (n ∷ names) (v ∷ vars) count = ap (λ ns. n ∷ ns) (keys_of names vars (omega (arith, count)))

one_more : (names : List (List ℕ)) (vars : List Var) (name : List ℕ) (v : Var) → length vars ≡ length names
    → named_variables (names ++ name ∷ []) (vars ++ v ∷ []) ≡ named_variables names vars ++ (name, variable_of v) ∷ []
one_more [] [] name v count = refl
one_more [] (w ∷ vars) name v count = absurd (omega (arith, count))
one_more (n ∷ names) [] name v count = absurd (omega (arith, count))
one_more (n ∷ names) (w ∷ vars) name v count = ap (λ rest. (n, variable_of w) ∷ rest) (one_more names vars name v (omega (arith, count)))

module _ (names : List (List ℕ)) (vars : List Var) (count : length vars ≡ length names) (i : ℕ) (within : i < length names) (name : List ℕ) (is : name ≡ get_or names i name) where
  so_far : length (take i vars) ≡ length (take i names)
  so_far = length-take-le i vars (omega (arith, within, count)) ∙ sym (length-take-le i names (omega (arith, within)))

  -- a name that stands once isn't in reach before its turn
  pub unbound_yet : ((n : List ℕ) → ¬ IsRepeated names n) → is_some (value_of (named_variables (take i names) (take i vars)) name) ≡ false
  unbound_yet apart = by (is_some (value_of (named_variables (take i names) (take i vars)) name)) refl
    where
      by : (b : Bool) → is_some (value_of (named_variables (take i names) (take i vars)) name) ≡ b → is_some (value_of (named_variables (take i names) (take i vars)) name) ≡ false
      by false at = at
      by true at =
          let member : is_member same_name (take i names) name ≡ true =
          ap (λ (ns : List (List ℕ)). is_member same_name ns name) (sym (keys_of (take i names) (take i vars) so_far)) ∙ sym (is_some-lookup (same_name name) (named_variables (take i names) (take i vars))) ∙ at in
          let (k, inside, there) = has_name (take i names) name member in
          let before : k < i = omega (arith, inside, length-take-le i names (omega (arith, within))) in
          absurd (apart name (record {
            first = k;
            second = i;
            order = before;
            one = slice_get-get_or names k name (omega (arith, before, within)) ∙ ap Some (sym (get_or-take i names k name before) ∙ there);
            other = slice_get-get_or names i name within ∙ ap Some (sym is);
          }))

  pub one_bound : (v : Var) → v ≡ get_or vars i v → named_variables (take (i + 1) names) (take (i + 1) vars) ≡ named_variables (take i names) (take i vars) ++ (name, record { ty = v.ty; model = v.model }) ∷ []
  one_bound v at =
      ap (λ (ns : List (List ℕ)). named_variables ns (take (i + 1) vars)) (take_more names i name within ∙ ap (λ (n : List ℕ). take i names ++ n ∷ []) (sym is))
      ∙ ap (named_variables (take i names ++ name ∷ [])) (take_more vars i v (omega (arith, within, count)) ∙ ap (λ (w : Var). take i vars ++ w ∷ []) (sym at))
      ∙ one_more (take i names) (take i vars) name v so_far

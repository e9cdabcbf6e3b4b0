-- The fault of names is one.
use Rattle.std.proofs.Common.{◌≡◌, ℕ, ◌<◌, List, refl, ◌∙◌, ap, subst, arith, ⊎_elim}
use Rattle.std.specs.Prelude.{All, Contains}
use Rattle.std.proofs.lemmas.Option.{slice_get_within, get_or_from_slice_get}
use Rattle.std.proofs.lemmas.Bool.{cases_order}
use Rattle.std.proofs.lemmas.List.{get_or-take, length-take}
use Rattle.qv_syntax.specs.declared.script.ModelTree.{ModelTree}
use Rattle.script_scopes.specs.declared.name_fault.NameFault.{NameFault}
use Rattle.script_scopes.specs.declared.name_fault.NameFault.TheVariants.{Target, Extra, Missing}
use Rattle.script_scopes.specs.ScriptNames.{IsNameFault, AreNamesOf, IsFirstLacking, script_names}

-- before the first one that is lacking none is lacking
not_before : (others names : List (List ℕ)) (i j : ℕ) → IsFirstLacking others names i → IsFirstLacking others names j → i < j → ⊥
not_before others names i j a b below =
    let within = slice_get_within names i a.name a.found in
    a.lacking (subst (Contains others) (get_or-take j names i a.name below ∙ get_or_from_slice_get names i a.name a.name a.found)
    (b.before i a.name (omega (arith, length-take j names))))

one_place : (others names : List (List ℕ)) (i j : ℕ) → IsFirstLacking others names i → IsFirstLacking others names j → i ≡ j
one_place others names i j a b = ⊎_elim (λ e. e)
    (λ h. ⊎_elim (λ l. absurd (not_before others names i j a b l)) (λ l. absurd (not_before others names j i b a l)) h) (cases_order i j)

-- all are there, so none is lacking
none_lacking : (others names : List (List ℕ)) (i : ℕ) → All (Contains others) names → IsFirstLacking others names i → ⊥
none_lacking others names i all a = a.lacking (subst (Contains others) (get_or_from_slice_get names i a.name a.name a.found) (all i a.name (slice_get_within names i a.name a.found)))

pub one_fault : (models : List ModelTree) (target : List ℕ) (names : List (List ℕ)) (a b : NameFault) → IsNameFault models target names a → IsNameFault models target names b → a ≡ b
one_fault models target names Target Target x y = refl
one_fault models target names Target (Extra j) x y = absurd (x y.0)
one_fault models target names Target (Missing j) x y = absurd (x y.0)
one_fault models target names (Extra i) Target x y = absurd (y x.0)
one_fault models target names (Extra i) (Extra j) x y = ap Extra (one_place (script_names models) names i j x.1 y.1)
one_fault models target names (Extra i) (Missing j) x y = absurd (none_lacking (script_names models) names i y.1 x.1)
one_fault models target names (Missing i) Target x y = absurd (y x.0)
one_fault models target names (Missing i) (Extra j) x y = absurd (none_lacking (script_names models) names j x.1 y.1)
one_fault models target names (Missing i) (Missing j) x y = ap Missing (one_place names (script_names models) i j x.2 y.2)

pub no_fault : (models : List ModelTree) (target : List ℕ) (names : List (List ℕ)) (a : NameFault) → AreNamesOf models target names → IsNameFault models target names a → ⊥
no_fault models target names Target h x = x h.aimed
no_fault models target names (Extra i) h x = none_lacking (script_names models) names i h.known x.1
no_fault models target names (Missing i) h x = none_lacking names (script_names models) i h.given x.2

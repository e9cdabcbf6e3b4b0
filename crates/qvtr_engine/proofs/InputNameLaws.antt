-- The names of the words fit the script, or one reply tells of the first that doesn't.
use Rattle.std.proofs.Common.{◌≡◌, ◌⊎◌, ℕ, ◌<◌, List, [], length, refl, sym, ◌∙◌, ap, subst, arith, take, ⊎_elim}
use Rattle.std.specs.Prelude.{Some, Contains, All, slice_get, slice_index_or}
use Rattle.std.specs.Option.{option_map}
use Rattle.std.proofs.lemmas.Bool.{cases_order}
use Rattle.std.proofs.lemmas.List.{length-map}
use Rattle.std.proofs.lemmas.Option.{slice_get-map, slice_get_within, get_or_from_slice_get}
use Rattle.std.proofs.lemmas.List.Elements.{All-contains}
use Rattle.qv_syntax.specs.declared.script.ModelTree.{ModelTree}
use Rattle.qv_syntax.specs.declared.script.Script.{Script}
use Rattle.ocl_environments.specs.declared.fault.TypeFault.TheVariants.{UnknownModel}
use Rattle.script_scopes.specs.declared.name_fault.NameFault.{NameFault}
use Rattle.script_scopes.specs.declared.name_fault.NameFault.TheVariants.{Target, Extra, Missing}
use Rattle.script_scopes.specs.ScriptNames.{AreNamesOf, IsNameFault, IsFirstLacking, script_names}
use Rattle.mof_metamodel.proofs.Facts.{contains_at}
use Rattle.script_scopes.proofs.NameLemmas.{has_name, is_same}
use Rattle.script_scopes.proofs.SearchLemmas.{member_at}
use Rattle.qvtr_engine.specs.declared.outcome.Stop.{Stop}
use Rattle.qvtr_engine.specs.CheckReply.{type_refusal}
use Rattle.qvtr_engine.specs.CheckWords.{Bound, CheckWords}
use Rattle.qvtr_engine.specs.CheckedNames.{NamesFit, NamesStop, misnamed, IsMisnamed, faulty_name, given_names, name_of, target_of}
use Rattle.qvtr_engine.specs.OneSteps.{AreOne}
use Rattle.qvtr_engine.specs.Reply.{Reply}
use Rattle.qvtr_engine.specs.Steps.{IsOneTest}
use Rattle.qvtr_engine.specs.Stops.{OnStop}
use Rattle.qvtr_engine.proofs.StopLaws.{on_stop_wider}

-- a name that others lack isn't among names that they all have
lacked : (others names : List (List ℕ)) (place : ℕ) → IsFirstLacking others names place → All (Contains others) names → ⊥
lacked others names place h all = h.lacking (All-contains (Contains others) names h.name all (contains_at names place h.name h.found))

lacked_before : (others names : List (List ℕ)) (p q : ℕ) → IsFirstLacking others names p → IsFirstLacking others names q → p < q → ⊥
lacked_before others names p q h k less =
    let front : Contains (take q names) h.name = has_name (take q names) h.name (member_at names p h.name q h.name h.found less (is_same h.name h.name refl)) in
    h.lacking (All-contains (Contains others) (take q names) h.name k.before front)

one_place : (others names : List (List ℕ)) (p q : ℕ) → IsFirstLacking others names p → IsFirstLacking others names q → p ≡ q
one_place others names p q h k = ⊎_elim
    (λ (same : p ≡ q). same)
    (λ (apart : (p < q) ⊎ (q < p)). ⊎_elim
    (λ (less : p < q). absurd (lacked_before others names p q h k less))
    (λ (more : q < p). absurd (lacked_before others names q p k h more))
    apart)
    (cases_order p q)

one_fault : (models : List ModelTree) (target : List ℕ) (names : List (List ℕ)) (f g : NameFault) → IsNameFault models target names f → IsNameFault models target names g → f ≡ g
one_fault models target names Target Target h k = refl
one_fault models target names Target (Extra q) h k = absurd (h k.0)
one_fault models target names Target (Missing q) h k = absurd (h k.0)
one_fault models target names (Extra p) Target h k = absurd (k h.0)
one_fault models target names (Extra p) (Extra q) h k = ap Extra (one_place (script_names models) names p q h.1 k.1)
one_fault models target names (Extra p) (Missing q) h k = absurd (lacked (script_names models) names p h.1 k.1)
one_fault models target names (Missing p) Target h k = absurd (k h.0)
one_fault models target names (Missing p) (Extra q) h k = absurd (lacked (script_names models) names q k.1 h.1)
one_fault models target names (Missing p) (Missing q) h k = ap Missing (one_place names (script_names models) p q h.2 k.2)

no_fault : (models : List ModelTree) (target : List ℕ) (names : List (List ℕ)) (f : NameFault) → AreNamesOf models target names → IsNameFault models target names f → ⊥
no_fault models target names Target fits h = h fits.aimed
no_fault models target names (Extra p) fits h = lacked (script_names models) names p h.1 fits.known
no_fault models target names (Missing p) fits h = lacked names (script_names models) p h.2 fits.given

fits_or_stops : (w : CheckWords) (s : Script) (reply : Reply) → NamesFit w s → NamesStop w s reply → ⊥
fits_or_stops w s reply fits (misnamed f h) = no_fault s.models (target_of w) (given_names w) f fits h

one_name_stop : (w : CheckWords) (s : Script) (reply other : Reply) → NamesStop w s reply → NamesStop w s other → reply ≡ other
one_name_stop w s reply other (misnamed f h) (misnamed g k) =
    ap (λ (x : NameFault). type_refusal w.script (UnknownModel (faulty_name w s x))) (one_fault s.models (target_of w) (given_names w) f g h k)

pub names_are_one : (w : CheckWords) (s : Script) → IsOneTest (NamesFit w s) (NamesStop w s) AreOne
names_are_one w s = record { apart = fits_or_stops w s; alike = one_name_stop w s }

-- ---- what is told of a fault

pub given_at : (w : CheckWords) (place : ℕ) (b : Bound) → slice_get w.files place ≡ Some b → name_of b ≡ slice_index_or (given_names w) place []
given_at w place b at =
    sym (get_or_from_slice_get (given_names w) place (name_of b) [] (slice_get-map name_of w.files place ∙ ap (option_map name_of) at))

pub place_given : (w : CheckWords) (s : Script) (place : ℕ) → IsMisnamed w s (Extra place) → place < length w.files
place_given w s place h =
    let within : place < length (given_names w) = slice_get_within (given_names w) place h.1.name h.1.found in
    omega (arith, within, length-map w.files name_of)

pub place_written : (w : CheckWords) (s : Script) (place : ℕ) → IsMisnamed w s (Missing place) → place < length (script_names s.models)
place_written w s place h = slice_get_within (script_names s.models) place h.2.name h.2.found

pub names_stopped : (stop : Stop) (w : CheckWords) (s : Script) (fault : NameFault) (name : List ℕ) → IsMisnamed w s fault → name ≡ faulty_name w s fault
    → OnStop stop (λ reply. reply ≡ type_refusal w.script (UnknownModel name)) → OnStop stop (NamesStop w s)
names_stopped stop w s fault name h is =
    on_stop_wider stop (λ reply. reply ≡ type_refusal w.script (UnknownModel name)) (NamesStop w s)
    (λ reply e. subst (NamesStop w s) (sym (e ∙ ap (λ (n : List ℕ). type_refusal w.script (UnknownModel n)) is)) (misnamed fault h))

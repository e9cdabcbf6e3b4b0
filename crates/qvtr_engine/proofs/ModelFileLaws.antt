-- The metamodels of the models of a script.
use Rattle.std.proofs.Common.{◌≡◌, ℕ, ◌<◌, Bool, true, false, cond, List, [], ◌∷◌, length, map, refl, sym, ◌∙◌, ap, subst, true≢false, ⊎_elim, Option, Some, None}
use Rattle.std.specs.Prelude.{not, filter, slice_get, Contains}
use Rattle.std.specs.Option.{option_map}
use Rattle.std.specs.List.{AllByRecursion}
use Rattle.std.proofs.lemmas.Option.{slice_get-map, get_or_from_slice_get, none-some}
use Rattle.std.proofs.lemmas.List.Elements.{Contains-append_cases, recursion_from_All}
use Rattle.qv_syntax.specs.declared.query.ModelSlot.{ModelSlot}
use Rattle.qv_syntax.specs.declared.script.ModelTree.{ModelTree}
use Rattle.qv_syntax.specs.declared.script.Script.{Script}
use Rattle.script_scopes.specs.Declarations.{meta_of}
use Rattle.script_scopes.specs.Environments.{metamodel_names, place_of, slot_of, slots_of}
use Rattle.script_scopes.specs.ScriptNames.{model_names, meta_names, written_names, script_names}
use Rattle.mof_metamodel.proofs.Facts.{contains_at}
use Rattle.script_scopes.proofs.MemberLemmas.{once_has, has_once, to_map}
use Rattle.script_scopes.proofs.NameLemmas.{name_had}
use Rattle.script_variables.proofs.PlaceLaws.{at_place}
use Rattle.qvtr_types.proofs.well_formed.Numbers.{place_within}
use Rattle.qvtr_engine.specs.CheckWords.{Bound, CheckWords}
use Rattle.qvtr_engine.specs.CheckedNames.{NamesFit, name_of}
use Rattle.qvtr_engine.specs.CheckedMetamodels.{is_metamodel}
use Rattle.qvtr_engine.specs.CheckedModels.{model_files}

-- ---- a model's metamodel is one of the script

mapped : {X Y : Type 0} (f : X → Y) (o : Option X) (y : Y) → option_map f o ≡ Some y → (x : X) × (o ≡ Some x)
mapped f None y e = absurd (none-some y e)
mapped f (Some x) y e = (x, refl)

pub meta_within : (s : Script) (name : List ℕ) → Contains (model_names s.models) name → meta_of s name < length (metamodel_names s)
meta_within s name has =
    let place : ℕ = place_of name (model_names s.models) in
    let found = mapped (λ (m : ModelTree). m.name.text) (slice_get s.models place) name
    (sym (slice_get-map (λ (m : ModelTree). m.name.text) s.models place) ∙ at_place name (model_names s.models) has) in
    let m : ModelTree = found.0 in
    let slot : slice_get (slots_of s) place ≡ Some (slot_of s m) = slice_get-map (slot_of s) s.models place ∙ ap (option_map (slot_of s)) found.1 in
    let is = get_or_from_slice_get (slots_of s) place (slot_of s m) (record { name = []; meta = 0 }) slot in
    let known : Contains (metamodel_names s) m.meta.text =
    once_has (meta_names s.models) m.meta.text (to_map (λ (x : ModelTree). x.meta.text) s.models m (contains_at s.models place m found.1)) in
    subst (λ (x : ModelSlot). x.meta < length (metamodel_names s)) (sym is) (place_within (metamodel_names s) m.meta.text known)

-- ---- the other files of the words are those of models

a_model : (s : Script) (b : Bound) → Contains (script_names s.models) (name_of b) → is_metamodel s b ≡ false → Contains (model_names s.models) (name_of b)
a_model s b has other = ⊎_elim
    (λ (model : Contains (model_names s.models) (name_of b)). model)
    (λ (meta : Contains (meta_names s.models) (name_of b)). absurd (true≢false (sym (name_had (metamodel_names s) (name_of b) (once_has (meta_names s.models) (name_of b) meta)) ∙ other)))
    (Contains-append_cases (model_names s.models) (meta_names s.models) (name_of b) (has_once (written_names s.models) (name_of b) has))

known_in : (s : Script) (bs : List Bound) → AllByRecursion (Contains (script_names s.models)) (map name_of bs)
    → AllByRecursion (λ b. Contains (model_names s.models) (name_of b)) (filter (λ b. not (is_metamodel s b)) bs)
known_in s [] h = tt
known_in s (b ∷ bs) h = by (known_in s bs h.1) (is_metamodel s b) refl
  where
    by : AllByRecursion (λ x. Contains (model_names s.models) (name_of x)) (filter (λ x. not (is_metamodel s x)) bs) → (t : Bool) → is_metamodel s b ≡ t
        → AllByRecursion (λ x. Contains (model_names s.models) (name_of x)) (cond (not t) (b ∷ filter (λ x. not (is_metamodel s x)) bs) (filter (λ x. not (is_metamodel s x)) bs))
    by more true e = more
    by more false e = (a_model s b h.0 e, more)

pub models_known : (w : CheckWords) (s : Script) → NamesFit w s → AllByRecursion (λ b. Contains (model_names s.models) (name_of b)) (model_files w s)
models_known w s fits = known_in s w.files (recursion_from_All (Contains (script_names s.models)) (map name_of w.files) fits.known)

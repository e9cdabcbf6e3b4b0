-- Models that were read, by their numbers: each is one of the metamodel of its slot.
use Rattle.std.proofs.Common.{◌≡◌, inl, inr, ℕ, ◌<◌, ◌≤◌, Bool, true, false, cond, List, [], ◌∷◌, ◌++◌, length, refl, sym, ◌∙◌, ap, subst, arith, Option, Some, None, true≢false}
use Rattle.std.specs.Prelude.{All, chars, is_some, slice_get}
use Rattle.std.specs.Option.{option_map, unwrap_or}
use Rattle.std.proofs.lemmas.Bool.{cases_order}
use Rattle.std.proofs.lemmas.List.{length-map}
use Rattle.std.proofs.lemmas.List.Elements.{All-push, All-head, All-tail, All-same, All-contains}
use Rattle.std.proofs.lemmas.Option.{same_Some, slice_get-map, slice_get-get_or, get_or_from_slice_get}
use Rattle.mof_metamodel.specs.Characters.{same_name}
use Rattle.mof_metamodel.specs.declared.desc.MetaDesc.{MetaDesc}
use Rattle.mof_metamodel.proofs.Facts.{contains_at}
use Rattle.object_tables.specs.Models.{ModelData}
use Rattle.qv_syntax.specs.declared.query.ModelSlot.{ModelSlot}
use Rattle.qv_syntax.specs.declared.program.Program.{Program}
use Rattle.qv_syntax.specs.declared.script.Script.{Script}
use Rattle.evaluation_laws.specs.TypedValues.{IsModelFor}
use Rattle.ocl_environments.specs.Environments.{meta_at, most, no_meta}
use Rattle.script_scopes.specs.Declarations.{meta_of, IsRepeated}
use Rattle.script_scopes.specs.Environments.{metamodel_names, place_of, slots_of}
use Rattle.script_scopes.specs.Resolutions.{IsProgramOf}
use Rattle.script_scopes.specs.ScriptNames.{model_names}
use Rattle.script_variables.proofs.PlaceLaws.{at_place}
use Rattle.enforce_steps.specs.Premises.{HasFewConjuncts}
use Rattle.qvtr_types.specs.ResolvedScripts.{setting_of}
use Rattle.qvtr_engine.specs.declared.numbering_inputs.Found.{Found}
use Rattle.qvtr_engine.specs.CheckedModels.{no_model}
use Rattle.qvtr_engine.specs.CheckedScript.{IsResolved}
use Rattle.qvtr_engine.specs.FoundFiles.{item_named, items_named}
use Rattle.qvtr_engine.specs.ReadModels.{IsReadBy, AreRead, IsReadQuestion}
use Rattle.qvtr_engine.proofs.ModelFileLaws.{meta_within}
use Rattle.qvtr_engine.proofs.ReadingLaws.{same_is}

-- one model more
pub read_more : (s : Script) (metas : List MetaDesc) (found : List (Found ModelData)) (f : Found ModelData) (all : List (Found ModelData)) → all ≡ found ++ f ∷ []
    → AreRead s metas found → IsReadBy (meta_at metas (meta_of s (chars f.name.now))) f.item → AreRead s metas all
read_more s metas found f all same read is =
    All-same (λ x. IsReadBy (meta_at metas (meta_of s (chars x.name.now))) x.item) all (found ++ f ∷ []) same
    (All-push (λ x. IsReadBy (meta_at metas (meta_of s (chars x.name.now))) x.item) found f read is)

-- the model of a name is one of the metamodel of that name
named_read : (s : Script) (metas : List MetaDesc) (found : List (Found ModelData)) (name : List ℕ) (m : ModelData) → AreRead s metas found
    → item_named found name ≡ Some m → IsReadBy (meta_at metas (meta_of s name)) m
named_read s metas [] name m read e = let gone : None ≡ Some m = e in cc
named_read s metas (f ∷ found) name m read e =
    by (λ h. named_read s metas found name m (All-tail (λ x. IsReadBy (meta_at metas (meta_of s (chars x.name.now))) x.item) f found read) h)
    (same_name name (chars f.name.now)) refl e
  where
    here : IsReadBy (meta_at metas (meta_of s (chars f.name.now))) f.item
    here = All-head (λ x. IsReadBy (meta_at metas (meta_of s (chars x.name.now))) x.item) f found read

    by : (item_named found name ≡ Some m → IsReadBy (meta_at metas (meta_of s name)) m)
        → (t : Bool) → same_name name (chars f.name.now) ≡ t → cond {A = Option ModelData} t (Some f.item) (item_named found name) ≡ Some m
        → IsReadBy (meta_at metas (meta_of s name)) m
    by later true same h =
        subst (λ (x : ModelData). IsReadBy (meta_at metas (meta_of s name)) x) (same_Some f.item m h)
        (subst (λ (n : List ℕ). IsReadBy (meta_at metas (meta_of s n)) f.item) (sym (same_is name (chars f.name.now) same)) here)
    by later false differs h = later h

-- ---- the models by their numbers

mapped : {X Y : Type 0} (f : X → Y) (o : Option X) (y : Y) → option_map f o ≡ Some y → (x : X) × (o ≡ Some x) × (f x ≡ y)
mapped f None y e = let gone : None ≡ Some y = e in cc
mapped f (Some x) y e = (x, refl, same_Some (f x) y e)

had : {X : Type 0} (o : Option X) (d y : X) → is_some o ≡ true → unwrap_or o d ≡ y → o ≡ Some y
had None d y h e = absurd (true≢false (sym h))
had (Some x) d y h e = ap Some e

one_place : (names : List (List ℕ)) (name : List ℕ) (i j : ℕ) → ¬ IsRepeated names name → slice_get names i ≡ Some name → slice_get names j ≡ Some name → i ≡ j
one_place names name i j once x y = elim (cases_order i j) [
  | inl same ↦ same
  | inr (inl less) ↦ absurd (once (record { first = i; second = j; order = less; one = x; other = y }))
  | inr (inr more) ↦ absurd (once (record { first = j; second = i; order = more; one = y; other = x }))
]

module _ (s : Script) (metas : List MetaDesc) (found : List (Found ModelData)) (count : length metas ≡ length (metamodel_names s))
    (distinct : (name : List ℕ) → ¬ IsRepeated (model_names s.models) name) (read : AreRead s metas found)
    (each : All (λ name. is_some (item_named found name) ≡ true) (model_names s.models))
  where
    -- the model of a number is that of the name there
    pub at_number : (number : ℕ) (model : ModelData) → slice_get (items_named no_model found (model_names s.models)) number ≡ Some model
        → (name : List ℕ) × (slice_get (model_names s.models) number ≡ Some name) × IsReadBy (meta_at metas (meta_of s name)) model
    at_number number model at =
        let of_name : List ℕ → ModelData = λ name. unwrap_or (item_named found name) no_model in
        let (name, there, is) = mapped of_name (slice_get (model_names s.models) number) model (sym (slice_get-map of_name (model_names s.models) number) ∙ at) in
        let has : is_some (item_named found name) ≡ true =
        All-contains (λ n. is_some (item_named found n) ≡ true) (model_names s.models) name each (contains_at (model_names s.models) number name there) in
        (name, there, named_read s metas found name model read (had (item_named found name) no_model model has is))

    slot_there : (number : ℕ) (slot : ModelSlot) (name : List ℕ) → slice_get (slots_of s) number ≡ Some slot → slice_get (model_names s.models) number ≡ Some name
        → slot.meta ≡ meta_of s name
    slot_there number slot name placed there =
        let place : ℕ = place_of name (model_names s.models) in
        let here : place ≡ number = one_place (model_names s.models) name place number (distinct name)
        (at_place name (model_names s.models) (contains_at (model_names s.models) number name there)) there in
        sym (ap (λ (x : ModelSlot). x.meta) (get_or_from_slice_get (slots_of s) place slot (record { name = []; meta = 0 }) (ap (slice_get (slots_of s)) here ∙ placed)))

    pub models_for : (number : ℕ) (slot : ModelSlot) (model : ModelData) → slice_get (slots_of s) number ≡ Some slot
        → slice_get (items_named no_model found (model_names s.models)) number ≡ Some model → IsModelFor metas slot model
    models_for number slot model placed at =
        let (name, there, is) = at_number number model at in
        let meta : slot.meta ≡ meta_of s name = slot_there number slot name placed there in
        let within : meta_of s name < length metas = subst (λ n. meta_of s name < n) (sym count) (meta_within s name (contains_at (model_names s.models) number name there)) in
        record {
          kept = is.kept;
          described = ap (slice_get metas) meta ∙ slice_get-get_or metas (meta_of s name) no_meta within ∙ ap Some (sym is.meta_is);
        }

    pub read_question : (target : List ℕ) (program : Program) → IsResolved metas s target program → length program.rels ≤ most → length program.queries ≤ most
        → All HasFewConjuncts program.rels → (models : List ModelData) → models ≡ items_named no_model found (model_names s.models)
        → IsReadQuestion (record { metas = metas; program = program; models = models })
    read_question target program is rels queries wheres models same =
        let of : IsProgramOf (setting_of metas s target program.queries) program = is.resolution.program_of in
        let limit : most ≡ 4_294_967_295 = refl in
        record {
          well = is.resolution.well_formed;
          rels = omega (arith, rels, limit);
          queries = omega (arith, queries, limit);
          wheres = wheres;
          count = ap length same ∙ length-map (model_names s.models) _ ∙ length-map s.models _ ∙ sym (ap length of.models ∙ length-map s.models _);
          models = λ number slot model placed at.
              models_for number slot model (subst (λ slots. slice_get slots number ≡ Some slot) of.models placed) (subst (λ ms. slice_get ms number ≡ Some model) same at);
          read = λ m at. let here = at_number program.target m (subst (λ ms. slice_get ms program.target ≡ Some m) same at) in (here.2.valid, here.2.few);
        }

-- Once the target's file is put, each step up to the models gives what it gave, but for the target: the paths of the words are apart.
use Rattle.std.proofs.Common.{◌≡◌, ◌≢◌, ℕ, Bool, true, false, cond, List, [], ◌∷◌, map, refl, sym, ◌∙◌, ap, subst, true≢false, Some, Contains}
use Rattle.std.specs.Prelude.{not, slice_get, slice_set}
use Rattle.std.specs.FinMap.{get, insert, get-insert}
use Rattle.std.specs.List.{AllZip}
use Rattle.std.specs.Cmp.Lexicographic.{texts_ties, nat_list_cmp_total}
use Rattle.std.specs.Set.{is_member}
use Rattle.std.proofs.lemmas.Bool.{false_from_ne_true, not-true}
use Rattle.std.proofs.lemmas.List.Elements.{All-contains, Contains-append_left}
use Rattle.vault_io.specs.Files.{Files}
use Rattle.mof_metamodel.specs.declared.desc.MetaDesc.{MetaDesc}
use Rattle.mof_metamodel.specs.Characters.{same_name}
use Rattle.mof_metamodel.proofs.Facts.{contains_first, contains_map}
use Rattle.object_tables.specs.Models.{ModelData}
use Rattle.qv_syntax.specs.declared.script.Script.{Script}
use Rattle.script_scopes.specs.ScriptNames.{model_names, meta_names, written_names, script_names}
use Rattle.script_scopes.specs.Environments.{metamodel_names}
use Rattle.script_scopes.proofs.MemberLemmas.{once_has}
use Rattle.script_scopes.proofs.NameLemmas.{name_had}
use Rattle.model_assembly.proofs.assembling.ListLaws.{contains_tail}
use Rattle.qvtr_engine.specs.CheckWords.{Bound, CheckWords}
use Rattle.qvtr_engine.specs.CheckedMetamodels.{AreMetamodels, IsMeta, is_metamodel, metamodel_files}
use Rattle.qvtr_engine.specs.CheckedModels.{IsModel, meta_for, model_files, no_model, numbered_models}
use Rattle.qvtr_engine.specs.CheckedNames.{NamesFit, name_of, target_of, given_names}
use Rattle.qvtr_engine.specs.ConvertAnswer.{IsMetamodelAt, IsModelAt}
use Rattle.qvtr_engine.specs.FileStops.{HasShortFile}
use Rattle.qvtr_engine.specs.NamedFiles.{named_item}
use Rattle.qvtr_engine.specs.Paths.{are_all_apart}
use Rattle.qvtr_engine.specs.ScriptFile.{IsScriptAt}
use Rattle.qvtr_engine.specs.Target.{path_named, target_path}
use Rattle.qvtr_engine.proofs.BoundFileLaws.{IsWordOf, kept_has, map_set, named_elsewhere, named_there, one_word, path_left, replaced, word_found, zip_moved}
use Rattle.qvtr_engine.proofs.NumberingLaws.{AreDistinct, target_among}
use Rattle.qvtr_engine.proofs.ReadingLaws.{same_is, same_holds}

-- ---- the word of the target

module _ (w : CheckWords) (s : Script) (fits : NamesFit w s) (distinct : AreDistinct s) (apart : are_all_apart (map (λ b. b.path) w.files) ≡ true) where
  has_target : is_member same_name (given_names w) (target_of w) ≡ true
  has_target =
      name_had (given_names w) (target_of w)
      (All-contains (Contains (given_names w)) (script_names s.models) (target_of w) fits.given
      (once_has (written_names s.models) (target_of w) (among_written (target_of w) fits.aimed)))
    where
      among_written : (name : List ℕ) → Contains (model_names s.models) name → Contains (written_names s.models) name
      among_written name has = Contains-append_left (model_names s.models) (meta_names s.models) name has

  pub target_given : IsWordOf w.files (target_of w) (target_path w)
  target_given = word_found w.files (target_of w) has_target

  -- each word with its path is that one
  pub target_word : (b : Bound) → Contains w.files b → b.path ≡ target_path w → b ≡ target_given.word
  target_word b has is = one_word w.files apart b target_given.word has target_given.has (is ∙ sym target_given.is)

  -- it is a word of a model
  pub target_is_model : Contains (model_files w s) target_given.word × (is_metamodel s target_given.word ≡ false)
  target_is_model =
      let among = target_among w s fits distinct in
      let kept = kept_has (λ b. not (is_metamodel s b)) w.files among.word among.has in
      let same : among.word ≡ target_given.word = target_word among.word kept.0 among.is in
      (subst (Contains (model_files w s)) same among.has, subst (λ (b : Bound). is_metamodel s b ≡ false) same (not-true (is_metamodel s among.word) kept.1))

  -- so a word of a metamodel has another path
  pub metamodels_elsewhere : (b : Bound) → Contains (metamodel_files w s) b → b.path ≢ target_path w
  metamodels_elsewhere b has is =
      let kept = kept_has (is_metamodel s) w.files b has in
      let same : b ≡ target_given.word = target_word b kept.0 is in
      true≢false (sym kept.1 ∙ ap (is_metamodel s) same ∙ target_is_model.1)

  -- and so has a word of a model of another name
  pub models_elsewhere : (b : Bound) → Contains (model_files w s) b → name_of b ≢ target_of w → b.path ≢ target_path w
  models_elsewhere b has other is =
      let kept = kept_has (λ x. not (is_metamodel s x)) w.files b has in
      other (ap name_of (target_word b kept.0 is) ∙ target_given.named)

  pub target_found : path_named (model_files w s) (target_of w) ≡ target_path w
  target_found =
      path_left (λ n. not (is_member same_name (metamodel_names s) n)) w.files (target_of w)
      (ap (λ n. not (is_member same_name (metamodel_names s) n)) (sym target_given.named) ∙ ap not target_is_model.1)

  pub target_member : is_member same_name (map name_of (model_files w s)) (target_of w) ≡ true
  target_member =
      name_had (map name_of (model_files w s)) (target_of w)
      (subst (Contains (map name_of (model_files w s))) target_given.named (contains_map name_of (model_files w s) target_given.word target_is_model.0))

-- ---- files

module _ (files : Files) (path bytes : List ℕ) where
  abbrev pub after : Files
  after = insert files path bytes

  found : (other : List ℕ) (t : Bool) → same_name other path ≡ t → get after other ≡ cond t (Some bytes) (get files other)
  found other t e = get-insert nat_list_cmp_total files path bytes other ∙ ap (λ b. cond b (Some bytes) (get files other)) (sym (texts_ties other path) ∙ e)

  pub found_there : get after path ≡ Some bytes
  found_there = found path true (same_holds path path refl)

  pub found_elsewhere : (other : List ℕ) → other ≢ path → get after other ≡ get files other
  found_elsewhere other differs = found other false (false_from_ne_true (same_name other path) (λ same. differs (same_is other path same)))

  short_elsewhere : (other text : List ℕ) → other ≢ path → HasShortFile files other text → HasShortFile after other text
  short_elsewhere other text differs h = record { file = found_elsewhere other differs ∙ h.file; short = h.short }

  pub script_elsewhere : (other : List ℕ) (s : Script) → other ≢ path → IsScriptAt files other s → IsScriptAt after other s
  script_elsewhere other s differs (text, h, spelled) = (text, record { file = found_elsewhere other differs ∙ h.file; short = h.short }, spelled)

  pub metamodel_elsewhere : (other : List ℕ) (meta : MetaDesc) → other ≢ path → IsMetamodelAt files other meta → IsMetamodelAt after other meta
  metamodel_elsewhere other meta differs (text, h, spelled) = (text, short_elsewhere other text differs h, spelled)

  pub model_elsewhere : (other : List ℕ) (meta : MetaDesc) (m : ModelData) → other ≢ path → IsModelAt files other meta m → IsModelAt after other meta m
  model_elsewhere other meta m differs (text, h, spelled) = (text, short_elsewhere other text differs h, spelled)

  pub metamodels_again : (w : CheckWords) (s : Script) (metas : List MetaDesc) → ((b : Bound) → Contains (metamodel_files w s) b → b.path ≢ path) → AreMetamodels files w s metas
      → AreMetamodels after w s metas
  metamodels_again w s metas elsewhere are =
      zip_moved (IsMeta files) (IsMeta after) (metamodel_files w s) metas (λ b meta has at. metamodel_elsewhere b.path meta (elsewhere b has) at) are

-- ---- models, of which the target is another

module _ (files : Files) (path bytes : List ℕ) (s : Script) (metas : List MetaDesc) (n : ModelData) where
  pub models_again : (bs : List Bound) (models : List ModelData) → ((b : Bound) → Contains bs b → b.path ≡ path → IsModelAt (after files path bytes) path (meta_for s metas b) n)
      → AllZip (IsModel files s metas) bs models → AllZip (IsModel (after files path bytes) s metas) bs (replaced path n bs models)
  models_again [] [] there all = tt
  models_again [] (m ∷ models) there all = absurd all
  models_again (b ∷ bs) [] there all = absurd all
  models_again (b ∷ bs) (m ∷ models) there all =
      (by (same_name b.path path) refl, models_again bs models (λ c has is. there c (contains_tail b c bs has) is) all.1)
    where
      by : (t : Bool) → same_name b.path path ≡ t → IsModel (after files path bytes) s metas b (cond t n m)
      by true e =
          let same : b.path ≡ path = same_is b.path path e in
          subst (λ (p : List ℕ). IsModelAt (after files path bytes) p (meta_for s metas b) n) (sym same) (there b (contains_first b bs) same)
      by false e = model_elsewhere files path bytes b.path (meta_for s metas b) m (λ same. true≢false (sym (same_holds b.path path same) ∙ e)) all.0

-- the models by their numbers, with another target
pub numbered_again : (w : CheckWords) (s : Script) (models : List ModelData) (n : ModelData) (target : ℕ) (R : Bound → ModelData → Type 0) → AllZip R (model_files w s) models
    → slice_get (model_names s.models) target ≡ Some (target_of w) → ((j : ℕ) → slice_get (model_names s.models) j ≡ Some (target_of w) → j ≡ target)
    → is_member same_name (map name_of (model_files w s)) (target_of w) ≡ true → path_named (model_files w s) (target_of w) ≡ target_path w
    → ((b : Bound) → Contains (model_files w s) b → name_of b ≢ target_of w → b.path ≢ target_path w)
    → numbered_models w s (replaced (target_path w) n (model_files w s) models) ≡ slice_set (numbered_models w s models) target n
numbered_again w s models n target R all at one has found elsewhere =
    map_set (named_item no_model (model_files w s) models) (named_item no_model (model_files w s) (replaced (target_path w) n (model_files w s) models)) (target_of w) n
    (named_there R (target_path w) n (model_files w s) models (target_of w) all has found)
    (λ other differs. named_elsewhere (target_path w) n (model_files w s) models other (λ b h named. elsewhere b h (λ same. differs (sym named ∙ same))))
    (model_names s.models) target at one

-- The files after an enforcement that is done: a check of them says yes, and a further enforcement leaves the target as it is. And where a check says yes and each
-- object is needed, the first one does.
use Rattle.std.proofs.Common.{◌≡◌, ◌≢◌, ℕ, ◌≤◌, true, List, length, map, sym, ◌∙◌, ap, subst, arith, inl, inr, Some, Contains}
use Rattle.std.specs.Prelude.{not, slice_get}
use Rattle.std.specs.List.{list_all}
use Rattle.std.specs.Option.{option_map}
use Rattle.std.proofs.lemmas.Bool.{and_parts, cases_lt}
use Rattle.std.proofs.lemmas.List.{length-map}
use Rattle.std.proofs.lemmas.Option.{same_Some, slice_get-map}
use Rattle.vault_io.specs.Files.{Files}
use Rattle.mof_metamodel.specs.declared.desc.MetaDesc.{MetaDesc}
use Rattle.object_tables.specs.declared.limit.TheConstants.{MAX_OBJECTS, MAX_DEPTH}
use Rattle.object_tables.specs.Containment.{IsDepth}
use Rattle.object_tables.specs.Models.{ModelData, IsLive}
use Rattle.object_tables.specs.Sameness.{IsSame}
use Rattle.object_tables.specs.Validity.{Valid}
use Rattle.model_assembly.specs.declared.fault.Externs.TheVariants as externs
use Rattle.model_assembly.specs.Held.{IsHeldModel, MayBeWritten}
use Rattle.model_files.specs.declared.file_form.Form.{Form}
use Rattle.model_files.specs.Files.{FileSpells}
use Rattle.qv_syntax.specs.declared.program.Program.{Program}
use Rattle.qv_syntax.specs.declared.script.Script.{Script}
use Rattle.ocl_environments.specs.declared.fault.TypeFault.TheVariants.{DuplicateName}
use Rattle.ocl_environments.specs.Environments.{no_meta, AreWell}
use Rattle.script_scopes.specs.Environments.{metamodel_names}
use Rattle.script_scopes.specs.Faults.{HasQueries, StandsInScript}
use Rattle.script_scopes.specs.ScriptNames.{model_names}
use Rattle.qvtr_types.specs.ResolvedScripts.{setting_of}
use Rattle.qvtr_types.proofs.one_program.Queries.{one_queries}
use Rattle.qvtr_types.proofs.well_formed.Numbers.{one_place}
use Rattle.repair_laws.specs.Repairs.{with_target}
use Rattle.enforce_mode.specs.Made.{IsSound, IsTooDeep}
use Rattle.answer_texts.specs.Question.{Question}
use Rattle.enforce_steps.specs.Endings.{unchanged}
use Rattle.enforce_steps.specs.EnforceAnswer.{IsFit, IsMade}
use Rattle.enforce_steps.specs.Premises.{IsAskable}
use Rattle.enforce_steps.specs.Satisfying.{HoldsOver}
use Rattle.enforce_steps.specs.StepTexts.{text_in}
use Rattle.qvtr_engine.specs.declared.limits.TheConstants.{MAX_FILE}
use Rattle.qvtr_engine.specs.declared.mode.Mode.TheVariants.{Check}
use Rattle.qvtr_engine.specs.CheckAnswer.{VerdictAnswer}
use Rattle.qvtr_engine.specs.CheckWords.{Bound, CheckWords, check_paths}
use Rattle.qvtr_engine.specs.CheckedMetamodels.{AreMetamodels, is_metamodel, metamodel_files, numbered_metas}
use Rattle.qvtr_engine.specs.CheckedModels.{AreModels, IsModel, meta_for, model_files, no_model, numbered_models}
use Rattle.qvtr_engine.specs.CheckedNames.{target_of}
use Rattle.qvtr_engine.specs.CheckedRelations.{yes}
use Rattle.qvtr_engine.specs.CheckedScript.{IsResolved}
use Rattle.qvtr_engine.specs.ConvertAnswer.{IsModelAt}
use Rattle.qvtr_engine.specs.ExecutionAnswer.{EnforcementAnswer, ExecutionAnswer, ends, output_at}
use Rattle.qvtr_engine.specs.Mended.{IsMended}
use Rattle.qvtr_engine.specs.NamedFiles.{named_item}
use Rattle.qvtr_engine.specs.Paths.{are_apart, are_all_apart}
use Rattle.qvtr_engine.specs.Reply.{holds, kept}
use Rattle.qvtr_engine.specs.Steps.{went_on, passed}
use Rattle.qvtr_engine.specs.StepsAnswer.{Inputs, ResolvesTo, question_of}
use Rattle.qvtr_engine.specs.Target.{form_in, target_form, target_path}
use Rattle.qvtr_engine.proofs.FileLaws.{file_valid, file_depth}
use Rattle.qvtr_engine.proofs.InputStepLaws.{steps_are_one}
use Rattle.qvtr_engine.proofs.MendedLaws.{AreSatisfying, AreEnding, AreMadeAgain, over, holds_again, kept_again, sound_again}
use Rattle.qvtr_engine.proofs.NumberingLaws.{AreDistinct, models_distinct}
use Rattle.qvtr_engine.proofs.ProgramLaws.{one_program}
use Rattle.qvtr_engine.proofs.BoundFileLaws.{all_differ, kept_has, named_model, one_word, replaced}
use Rattle.qvtr_engine.proofs.PutFileLaws.{after, found_there, metamodels_again, metamodels_elsewhere, models_again, models_elsewhere, numbered_again, script_elsewhere, target_found, target_given, target_member}
use Rattle.qvtr_engine.proofs.ReadingFileLaws.{read_by}
use Rattle.qvtr_engine.proofs.WrittenFiles.{form_written, read_back, written_again, held_again}

-- ---- what files come to is one question

module _ (files : Files) (w : CheckWords) (i j : Inputs files w) (p r : Program) (ip : ResolvesTo files w i p) (jr : ResolvesTo files w j r) where
  same_script : i.script ≡ j.script
  same_script = (steps_are_one files w).scripts.one i.script j.script i.at j.at

  same_metas : i.metas ≡ j.metas
  same_metas =
      ((steps_are_one files w).metamodels i.script i.fit).one i.metas j.metas i.metamodels
      (subst (λ (s : Script). AreMetamodels files w s j.metas) (sym same_script) j.metamodels)

  abbrev Known : Type 0
  Known = Script × List MetaDesc

  same_known : ◌≡◌ {A = Known} (j.script, j.metas) (i.script, i.metas)
  same_known = λ t. (sym same_script t, sym same_metas t)

  same_models : i.models ≡ j.models
  same_models =
      ((steps_are_one files w).models i.script (numbered_metas w i.script i.metas) i.fit
      (length-map (metamodel_names i.script) (named_item no_meta (metamodel_files w i.script) i.metas))
      ((steps_are_one files w).well i.script i.metas i.fit i.metamodels)).one i.models j.models i.read
      (subst (λ (x : Known). AreModels files w x.0 (numbered_metas w x.0 x.1) j.models) same_known j.read)

  same_program : p ≡ r
  same_program = one_program files w i p r ip (subst (λ (x : Known). IsResolved (numbered_metas w x.0 x.1) x.0 (target_of w) r) same_known jr)

  pub same_question : question_of files w i p ≡ question_of files w j r
  same_question = λ t. record {
    metas = numbered_metas w (same_script t) (same_metas t);
    program = same_program t;
    models = numbered_models w (same_script t) (same_models t);
  }

-- ---- no object of a sound model is deeper than it may be

shallow : (made : ModelData) → IsSound made → (o depth : ℕ) → IsLive made o → IsDepth made o depth → depth ≤ MAX_DEPTH
shallow made sound o depth live is = elim (cases_lt MAX_DEPTH depth) [
  | inl more ↦ absurd (sound.flat (record { object = o; depth = depth; live = live; is = is; deep = more }))
  | inr flat ↦ flat
]

-- ---- the files that were read

module _ (files : Files) (w : CheckWords) (i : Inputs files w) (program : Program) (is : ResolvesTo files w i program) (apart : are_all_apart (check_paths w) ≡ true) where
  abbrev q : Question
  q = question_of files w i program

  abbrev metas : List MetaDesc
  metas = numbered_metas w i.script i.metas

  abbrev path : List ℕ
  path = target_path w

  abbrev form : Form
  form = target_form files w

  abbrev bound : List Bound
  bound = model_files w i.script

  apart_parts : (list_all (are_apart w.script) (map (λ b. b.path) w.files) ≡ true) × (are_all_apart (map (λ b. b.path) w.files) ≡ true)
  apart_parts = and_parts (list_all (are_apart w.script) (map (λ b. b.path) w.files)) (are_all_apart (map (λ b. b.path) w.files)) apart

  well : AreWell metas
  well = (steps_are_one files w).well i.script i.metas i.fit i.metamodels

  has_queries : HasQueries (setting_of metas i.script (target_of w) program.queries)
  has_queries = is.resolution.program_of.typed_queries

  distinct : AreDistinct i.script
  distinct name twice =
      is.faultless (DuplicateName name) (record {
        queries = program.queries;
        settled = λ typed other. one_queries metas i.script (target_of w) well program.queries typed has_queries other;
        stands = StandsInScript.name name twice;
      })

  aimed : slice_get (model_names i.script.models) program.target ≡ Some (target_of w)
  aimed = is.resolution.program_of.aimed

  one_target : (j : ℕ) → slice_get (model_names i.script.models) j ≡ Some (target_of w) → j ≡ program.target
  one_target j at = one_place (model_names i.script.models) (models_distinct i.script distinct) j program.target (target_of w) at aimed

  -- the script stands elsewhere
  script_apart : w.script ≢ path
  script_apart same =
      let given = target_given w i.script i.fit distinct apart_parts.1 in
      all_differ w.script w.files given.word apart_parts.0 given.has (same ∙ sym given.is)

  -- the target is the model of its word
  target_named : (m : ModelData) → slice_get q.models program.target ≡ Some m → named_item no_model bound i.models (target_of w) ≡ m
  target_named m at =
      same_Some (named_item no_model bound i.models (target_of w)) m
      (sym (slice_get-map (named_item no_model bound i.models) (model_names i.script.models) program.target
      ∙ ap (option_map (named_item no_model bound i.models)) aimed) ∙ at)

  -- which is read by its metamodel
  target_meta : (m : ModelData) → slice_get q.models program.target ≡ Some m → (b : Bound) → Contains bound b → b.path ≡ path → m.meta ≡ meta_for i.script metas b
  target_meta m at b has there =
      let found = named_model (IsModel files i.script metas) bound i.models (target_of w) i.read (target_member w i.script i.fit distinct apart_parts.1) in
      let same : found.word ≡ b =
      one_word w.files apart_parts.1 found.word b (kept_has (λ x. not (is_metamodel i.script x)) w.files found.word found.has).0
      (kept_has (λ x. not (is_metamodel i.script x)) w.files b has).0
      (found.at ∙ target_found w i.script i.fit distinct apart_parts.1 ∙ sym there) in
      let spelled : IsModel files i.script metas b m =
      subst (λ (x : ModelData). IsModel files i.script metas b x) (target_named m at)
      (subst (λ (x : Bound). IsModel files i.script metas x (named_item no_model bound i.models (target_of w))) same found.is) in
      (read_by (meta_for i.script metas b) spelled.0 m spelled.2 (file_valid (meta_for i.script metas b) externs.None spelled.0 m spelled.2).kept).meta_is

  -- where the relations hold over what was read, a check says yes
  pub check_holds : HoldsOver q q.models → ExecutionAnswer Check files w holds
  check_holds h =
      went_on i.script i.at (passed i.fit (went_on i.metas i.metamodels (went_on i.models i.read (went_on program is
      (passed (record { cyclic = h.acyclic; deep = h.short }) (yes h.satisfied))))))

  -- ---- the target's file is put, with the text of a model that is made

  module _
      (satisfied : AreSatisfying) (chains : AreEnding) (again : AreMadeAgain)
      (a : IsAskable q) (made : ModelData) (is_made : IsMade q made) (sound : IsSound made) (held : IsHeldModel made) (short : length (text_in form made) ≤ MAX_FILE)
    where
      abbrev text : List ℕ
      text = text_in form made

      abbrev then : Files
      then = after files path text

      may_be_written : MayBeWritten made
      may_be_written = record { valid = sound.valid; objects = sound.few; depth = shallow made sound; held = held }

      back : (k : ModelData) × FileSpells made.meta externs.None text k × IsSame made k
      back = read_back made may_be_written form

      -- what is read back
      abbrev n : ModelData
      n = back.0

      valid_there : Valid n
      valid_there = file_valid made.meta externs.None text n back.1

      few_there : length n.objects ≤ MAX_OBJECTS
      few_there = (read_by made.meta text n back.1 valid_there.kept).few

      flat_there : ¬ IsTooDeep n
      flat_there far =
          let most = file_depth made.meta externs.None text n back.1 far.object far.depth far.live far.is in
          let more = far.deep in
          omega (arith, most, more)

      sound_there : IsSound n
      sound_there = sound_again q a made is_made sound n back.2 valid_there few_there flat_there

      short_there : length (text_in form n) ≤ MAX_FILE
      short_there = subst (λ (t : List ℕ). length t ≤ MAX_FILE) (sym (written_again made may_be_written form n back.1 valid_there.kept back.2)) short

      fits_there : IsFit (output_at form path) n
      fits_there = record { sound = sound_there; held = held_again made n valid_there.kept back.2 held; short = short_there }

      -- it stands there
      made_meta : (b : Bound) → Contains bound b → b.path ≡ path → made.meta ≡ meta_for i.script metas b
      made_meta b has there = ap (λ (m : ModelData). m.meta) is_made.made_is ∙ target_meta is_made.target is_made.target_is b has there

      model_there : (b : Bound) → Contains bound b → b.path ≡ path → IsModelAt then path (meta_for i.script metas b) n
      model_there b has there =
          (text, record { file = found_there files path text; short = short }, subst (λ (d : MetaDesc). FileSpells d externs.None text n) (made_meta b has there) back.1)

      abbrev models_then : List ModelData
      models_then = replaced path n bound i.models

      abbrev inputs_then : Inputs then w
      inputs_then = record {
        script = i.script;
        at = script_elsewhere files path text w.script i.script script_apart i.at;
        fit = i.fit;
        metas = i.metas;
        metamodels = metamodels_again files path text w i.script i.metas (metamodels_elsewhere w i.script i.fit distinct apart_parts.1) i.metamodels;
        models = models_then;
        read = models_again files path text i.script metas n bound i.models model_there i.read;
      }

      -- the models are those before, but for the target
      models_are : numbered_models w i.script models_then ≡ with_target program q.models n
      models_are =
          numbered_again w i.script i.models n program.target (IsModel files i.script metas) i.read aimed one_target
          (target_member w i.script i.fit distinct apart_parts.1) (target_found w i.script i.fit distinct apart_parts.1)
          (models_elsewhere w i.script i.fit distinct apart_parts.1)

      form_is : target_form then w ≡ form
      form_is = ap form_in (found_there files path text) ∙ form_written form made

      check_then : VerdictAnswer (over q (numbered_models w i.script models_then)) holds
      check_then =
          let h : HoldsOver q (with_target program q.models n) = holds_again q a made is_made sound n back.2 valid_there few_there satisfied chains in
          subst (λ (ms : List ModelData). VerdictAnswer (over q ms) holds) (sym models_are) (passed (record { cyclic = h.acyclic; deep = h.short }) (yes h.satisfied))

      enforce_then : EnforcementAnswer (target_form then w) path (over q (numbered_models w i.script models_then)) kept
      enforce_then =
          subst (λ (f : Form). EnforcementAnswer f path (over q (numbered_models w i.script models_then)) kept) (sym form_is)
          (subst (λ (ms : List ModelData). EnforcementAnswer form path (over q ms) kept) (sym models_are)
          (ends unchanged (kept_again q a made is_made sound n back.2 valid_there few_there again (output_at form path) fits_there)))

      pub mended_then : IsMended then w
      mended_then = record {
        holds = went_on i.script inputs_then.at (passed i.fit (went_on i.metas inputs_then.metamodels (went_on models_then inputs_then.read (went_on program is check_then))));
        kept = went_on i.script inputs_then.at (passed i.fit (went_on i.metas inputs_then.metamodels (went_on models_then inputs_then.read (went_on program is enforce_then))));
      }

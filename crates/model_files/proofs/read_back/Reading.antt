-- What is written of a model as JSON is read as the same model, as no other, and no error is told of it.
use Rattle.std.proofs.Common.{◌≡◌, ℕ, ◌≤◌, List, sym, subst}
use Rattle.serde_json.specs.Data.{Data}
use Rattle.mof_metamodel.specs.declared.desc.MetaDesc.{MetaDesc}
use Rattle.object_tables.specs.Models.{ModelData}
use Rattle.object_tables.specs.Sameness.{IsSame}
use Rattle.object_tables.proofs.SamenessLemmas.{same_back, same_through}
use Rattle.model_assembly.specs.declared.fault.Externs.TheVariants as externs
use Rattle.model_assembly.specs.Held.{MayBeWritten}
use Rattle.model_files.specs.declared.fault.FileError.{FileError}
use Rattle.model_files.specs.declared.file_form.Form.TheVariants as forms
use Rattle.model_files.specs.CanonJson.{canon_json, model_data}
use Rattle.model_files.specs.Files.{FileSpells, IsFileError, IsTold}
use Rattle.model_files.specs.JsonContent.{SpellsModel}
use Rattle.model_files.proofs.FileLaws.{one_in, no_error_in}
use Rattle.model_files.proofs.JsonFormLaws.{written_right}
use Rattle.model_files.proofs.read_back.Dense.{dense, same_dense, valid_dense, shallow_dense, held_dense, few_dense, lives_dense, numbers_dense, value_same}
use Rattle.model_files.proofs.read_back.Linking.{content, objects_few}
use Rattle.model_files.proofs.read_back.Objects.{text_read, has_objects}

module _ (m : ModelData) (w : MayBeWritten m) where
  abbrev n : ModelData
  n = dense m w.valid w.depth w.held

  spelled : SpellsModel m.meta (model_data n) n
  spelled =
      let valid = valid_dense m w.valid w.depth w.held in
      let shallow = shallow_dense m w.valid w.depth w.held in
      let held = held_dense m w.valid w.depth w.held in
      let few = few_dense m w.valid w.depth w.held w.objects in
      let numbers = numbers_dense m w.valid w.depth w.held in
      let lives = lives_dense m w.valid w.depth w.held in
      record {
        shape = written_right n;
        right = (has_objects n valid shallow held few).right;
        model = record { content = content n valid shallow held few numbers lives; valid = valid; objects = objects_few n valid shallow held few numbers lives; depth = shallow };
      }

  file_spelled : FileSpells m.meta externs.None (canon_json m) n
  file_spelled =
      (model_data m, text_read m w.valid w.depth w.held, subst (λ (d : Data). SpellsModel m.meta d n) (value_same m w.valid w.depth w.held) spelled)

  -- what is written is read as the same model
  pub json_read : (k : ModelData) × FileSpells m.meta externs.None (canon_json m) k × IsSame m k
  json_read = (n, file_spelled, same_dense m w.valid w.depth w.held)

  -- as no other
  pub json_read_alone : (k : ModelData) → FileSpells m.meta externs.None (canon_json m) k → IsSame m k
  json_read_alone k x = subst (IsSame m) (one_in m.meta externs.None (canon_json m) forms.Json n k file_spelled x) (same_dense m w.valid w.depth w.held)

  -- and no error is told of it
  pub json_accepted : (e : FileError) → IsTold e → IsFileError m.meta externs.None (canon_json m) e → ⊥
  json_accepted e told x = told (no_error_in m.meta externs.None (canon_json m) n forms.Json file_spelled e x)

-- models of one metamodel whose texts are one are the same
pub same_json : (m k : ModelData) → MayBeWritten m → MayBeWritten k → k.meta ≡ m.meta → canon_json m ≡ canon_json k → IsSame m k
same_json m k w x meta bytes =
    let b : ModelData = dense k x.valid x.depth x.held in
    let here : FileSpells m.meta externs.None (canon_json m) b =
    subst (λ (d : MetaDesc). FileSpells d externs.None (canon_json m) b) meta (subst (λ (t : List ℕ). FileSpells k.meta externs.None t b) (sym bytes) (file_spelled k x)) in
    same_through m b k w.valid.kept (valid_dense k x.valid x.depth x.held).kept (json_read_alone m w b here) (same_back k b x.valid.kept (same_dense k x.valid x.depth x.held))

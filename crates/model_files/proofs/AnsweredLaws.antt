-- A file is a model, or an error is told of it.
use Rattle.std.proofs.Common.{◌≡◌, ℕ, List, [], ◌∷◌, map, refl, sym, ap, ◌∙◌, Option, None, Some, Result, Ok, Err}
use Rattle.serde_json.specs.Data.{Data}
use Rattle.mof_metamodel.specs.declared.desc.ClassId.{ClassId}
use Rattle.mof_metamodel.specs.declared.desc.MetaDesc.{MetaDesc}
use Rattle.mof_metamodel.specs.WellMeta.{WellMeta}
use Rattle.object_tables.specs.Models.{ModelData}
use Rattle.model_assembly.specs.declared.fault.Externs.{Externs}
use Rattle.model_assembly.specs.declared.fault.ModelFault.{ModelFault}
use Rattle.model_assembly.specs.declared.filed.Filed.{Filed}
use Rattle.model_assembly.specs.Assembled.{IsWhole}
use Rattle.model_assembly.specs.Elements.{concrete_class}
use Rattle.model_assembly.specs.Filed.{IsFiled}
use Rattle.xmi_profile.proofs.AnsweredLaws as xmi
use Rattle.model_assembly.proofs.assembling.FoundLaws.{Found, model, told, found}
use Rattle.model_files.specs.declared.fault.FileError.{FileError}
use Rattle.model_files.specs.declared.fault.FileError.TheVariants as errors
use Rattle.model_files.specs.declared.fault.JsonFault.TheVariants as faults
use Rattle.model_files.specs.declared.file_form.Form.{Form}
use Rattle.model_files.specs.declared.file_form.Form.TheVariants.{Xmi, Json}
use Rattle.model_files.specs.FileForm.{form_of}
use Rattle.model_files.specs.Files.{SpellsIn, IsErrorIn, IsTold}
use Rattle.model_files.specs.JsonContent.{Written, objects_of, class_in, source_of}
use Rattle.model_files.specs.JsonFaults.{HasObjects, first_fault}
use Rattle.model_files.specs.JsonFiled.{with_objects}
use Rattle.model_files.specs.JsonText.{value_in}
use Rattle.model_files.specs.Shape.{first_amiss}
use Rattle.model_files.proofs.JsonFiledLaws.{IsBegin, classes_known, collected_is_filed}
use Rattle.model_files.proofs.JsonKeyLaws.{has_apart}
use Rattle.model_files.proofs.JsonLinkLaws.{sound_from}
use Rattle.model_files.proofs.JsonReadingLaws.{content_fault, no_fault_left}
use Rattle.model_files.proofs.JsonTreeLaws.{IsSound}
use Rattle.model_files.proofs.JsonTypedLaws.{all_typed, sound_filed}
use Rattle.model_files.proofs.ReadingLaws.{is_whole, assembled_spells, assembled_told}

pub data Answered (meta : MetaDesc) (outside : Externs) (bytes : List ℕ) (form : Form) : Type 0 where
  spells : (m : ModelData) → SpellsIn meta outside bytes form m → Answered meta outside bytes form
  refused : (e : FileError) → IsTold e → IsErrorIn meta outside bytes form e → Answered meta outside bytes form

-- ---- JSON

classed : (meta : MetaDesc) (objects : List Written) → map (λ (c : ClassId). Some c.0) (map (λ w. record { 0 = class_in meta w }) objects) ≡ map (λ w. Some (class_in meta w)) objects
classed meta [] = refl
classed meta (w ∷ ws) = ap (λ (cs : List (Option ℕ)). Some (class_in meta w) ∷ cs) (classed meta ws)

module _ (meta : MetaDesc) (well : WellMeta meta) (outside : Externs) (bytes : List ℕ) (d : Data) (h : HasObjects meta bytes d) where
  abbrev ids : List (List ℕ)
  ids = map (λ w. w.id) (objects_of d)

  -- the lists before the first object
  abbrev begin : Filed
  begin = record { ids = ids; classes = map (λ w. record { 0 = class_in meta w }) (objects_of d); values = []; references = []; mentions = [] }

  sound : IsSound meta d
  sound = sound_from meta well bytes d h

  begins : IsBegin meta d begin
  begins = record {
    ids = refl;
    classes = classed meta (objects_of d) ∙ sym (classes_known meta (objects_of d) sound.right.0);
    values = refl;
    references = refl;
    mentions = refl;
  }

  abbrev collected : Filed
  collected = with_objects meta ids 0 (objects_of d) begin

  filed : IsFiled (source_of meta d) collected
  filed = collected_is_filed meta d sound (has_apart bytes d h.value) begin begins

  whole : IsWhole meta collected
  whole = is_whole meta well bytes d h collected filed (sound_filed meta d collected sound filed (all_typed meta ids (objects_of d) begin collected refl refl))

  objects_answered : Answered meta outside bytes Json
  objects_answered = by (found meta collected well whole)
    where
      by : Found meta collected → Answered meta outside bytes Json
      by (model m is) = spells m (assembled_spells meta well bytes d h collected filed outside (Ok m) is)
      by (told fault is) =
          let e : FileError = errors.Json (faults.Content fault) in
          let r : Result ModelData FileError = Err e in
          refused e (λ same. cc) (assembled_told meta well bytes d h collected filed outside r is)

json_answered : (meta : MetaDesc) → WellMeta meta → (outside : Externs) (bytes : List ℕ) → Answered meta outside bytes Json
json_answered meta well outside bytes = by (value_in bytes) refl
  where
    of_fault : (d : Data) → value_in bytes ≡ Some d → first_amiss d ≡ None → (o : Option ModelFault) → first_fault meta (objects_of d) ≡ o → Answered meta outside bytes Json
    of_fault d e f (Some fault) g = refused (errors.Json (faults.Content fault)) (λ same. cc) (d, e, content_fault meta d fault f g)
    of_fault d e f None g =
        let left = no_fault_left meta (objects_of d) g in
        objects_answered meta well outside bytes d (record { value = e; shape = f; fewer = left.0; right = left.1 })

    of_shape : (d : Data) → value_in bytes ≡ Some d → (o : Option (List ℕ)) → first_amiss d ≡ o → Answered meta outside bytes Json
    of_shape d e (Some path) f = refused (errors.Json (faults.Shape path)) (λ same. cc) (d, e, f)
    of_shape d e None f = of_fault d e f (first_fault meta (objects_of d)) refl

    by : (o : Option Data) → value_in bytes ≡ o → Answered meta outside bytes Json
    by None e = refused (errors.Json faults.Syntax) (λ same. cc) e
    by (Some d) e = of_shape d e (first_amiss d) refl

-- ---- XMI

xmi_answered : (meta : MetaDesc) → WellMeta meta → (outside : Externs) (bytes : List ℕ) → Answered meta outside bytes Xmi
xmi_answered meta well outside bytes = by (xmi.answered meta outside bytes well)
  where
    by : xmi.Answered meta outside bytes → Answered meta outside bytes Xmi
    by (xmi.spells m h) = spells m h
    by (xmi.misspelled fault h) = refused (errors.Text fault) (λ same. cc) h
    by (xmi.refused fault h) = refused (errors.Content fault) (λ same. cc) h

pub answered : (meta : MetaDesc) → WellMeta meta → (outside : Externs) (bytes : List ℕ) (form : Form) → Answered meta outside bytes form
answered meta well outside bytes Xmi = xmi_answered meta well outside bytes
answered meta well outside bytes Json = json_answered meta well outside bytes

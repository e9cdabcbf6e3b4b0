-- A conversion has a reply.
use Rattle.std.proofs.Common.{◌≡◌, ℕ, ◌<◌, ◌≤◌, List, length, refl, Option, Some, None, inl, inr, ◌⊎◌}
use Rattle.std.specs.FinMap.{get}
use Rattle.std.proofs.lemmas.Bool.{cases_lt}
use Rattle.vault_io.specs.Files.{Files}
use Rattle.mof_metamodel.specs.declared.desc.MetaDesc.{MetaDesc}
use Rattle.qvtr_engine.specs.declared.limits.TheConstants.{MAX_FILE}
use Rattle.mof_metamodel.specs.WellMeta.{WellMeta}
use Rattle.object_tables.specs.Models.{ModelData}
use Rattle.model_assembly.specs.declared.fault.Externs.TheVariants as externs
use Rattle.model_files.specs.FileForm.{form_of}
use Rattle.model_files.proofs.AnsweredLaws as models
use Rattle.model_files.proofs.DescribedLaws as metamodels
use Rattle.qvtr_engine.specs.ConvertAnswer.{ConvertAnswer, IsConverted, IsMetamodelAt, text_in, metamodel_stops, model_stops, output_long, put}
use Rattle.qvtr_engine.specs.ConvertWords.{ConvertWords}
use Rattle.qvtr_engine.specs.FileStops.{HasShortFile, Unloaded, missing, long, unloaded, misread}
use Rattle.qvtr_engine.specs.Reply.{Reply, unread, too_long}

-- a path has a file that may be read, or the work stops there
data Loaded (files : Files) (path : List ℕ) : Type 0 where
  stopped : (reply : Reply) → Unloaded files path reply → Loaded files path
  read : (bytes : List ℕ) → HasShortFile files path bytes → Loaded files path

loaded : (files : Files) (path : List ℕ) → Loaded files path
loaded files path = by (get files path) refl
  where
    of_file : (bytes : List ℕ) → get files path ≡ Some bytes → (MAX_FILE < length bytes) ⊎ (length bytes ≤ MAX_FILE) → Loaded files path
    of_file bytes e (inl more) = stopped (too_long path) (long bytes e more)
    of_file bytes e (inr few) = read bytes (record { file = e; short = few })

    by : (o : Option (List ℕ)) → get files path ≡ o → Loaded files path
    by None e = stopped (unread path) (missing e)
    by (Some bytes) e = of_file bytes e (cases_lt MAX_FILE (length bytes))

-- there is a reply
pub data Replied (files : Files) (c : ConvertWords) : Type 0 where
  answered_by : (reply : Reply) → ConvertAnswer files c reply → Replied files c

of_converted : (files : Files) (c : ConvertWords) (m : ModelData) → IsConverted files c m → Replied files c
of_converted files c m is = elim (cases_lt MAX_FILE (length (text_in c.form m))) [
  | inl more ↦ answered_by _ (output_long m is more)
  | inr few ↦ answered_by _ (put m is few)
]

of_metamodel : (files : Files) (c : ConvertWords) (meta : MetaDesc) → WellMeta meta → IsMetamodelAt files c.metamodel meta → Replied files c
of_metamodel files c meta well at = by (loaded files c.model)
  where
    told : (bytes : List ℕ) → HasShortFile files c.model bytes → models.Answered meta externs.None bytes (form_of bytes) → Replied files c
    told bytes h (models.spells m is) = of_converted files c m (record { meta = meta; metamodel = at; model = (bytes, h, is) })
    told bytes h (models.refused e t is) = answered_by _ (model_stops meta at _ (misread bytes h e t is))

    by : Loaded files c.model → Replied files c
    by (stopped reply stop) = answered_by reply (model_stops meta at reply (unloaded reply stop))
    by (read bytes h) = told bytes h (models.answered meta well externs.None bytes (form_of bytes))

pub convert_replied : (files : Files) (c : ConvertWords) → Replied files c
convert_replied files c = by (loaded files c.metamodel)
  where
    told : (bytes : List ℕ) → HasShortFile files c.metamodel bytes → metamodels.Answered bytes → Replied files c
    told bytes h (metamodels.describes meta is) = of_metamodel files c meta is.describes.well (bytes, h, is)
    told bytes h (metamodels.refused e t is) = answered_by _ (metamodel_stops _ (misread bytes h e t is))

    by : Loaded files c.metamodel → Replied files c
    by (stopped reply stop) = answered_by reply (metamodel_stops reply (unloaded reply stop))
    by (read bytes h) = told bytes h (metamodels.answered bytes)

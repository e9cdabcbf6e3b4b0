-- What is printed of the model that enforcement makes: what stands against it, and what it changes; and its text as a file.
use Rattle.std.specs.Prelude.{ℕ, List, [], ◌∷◌, codes}
use Rattle.std.specs.Fmt.{decimal}
use Rattle.fault_lines.specs.Lines.{line, limit}
use Rattle.mof_metamodel.specs.declared.desc.MetaDesc.{MetaDesc}
use Rattle.object_tables.specs.declared.breach.Breach.{Breach}
use Rattle.object_tables.specs.declared.limit.LimitKind.{LimitKind}
use Rattle.object_tables.specs.Models.{ModelData}
use Rattle.object_tables.specs.Words.{breach_word}
use Rattle.xmi_profile.specs.Canon.{canon_bytes}
use Rattle.model_files.specs.declared.file_form.Form.{Form}
use Rattle.model_files.specs.declared.file_form.Form.TheVariants.{Xmi, Json}
use Rattle.model_files.specs.CanonJson.{canon_json}
use Rattle.model_files.specs.FaultTexts.{breach_details, limit_words}
use Rattle.repair_semantics.specs.declared.report.Report.{Report}

-- the bytes of a model as a file of this form
abbrev pub text_in : Form → ModelData → List ℕ
text_in Xmi m = canon_bytes m
text_in Json m = canon_json m

-- `invalid KIND ID PROP`: the breach of a model of the metamodel, at the object with the identifier; a cycle of containers has no property
abbrev pub invalid_text : MetaDesc → Breach → List ℕ → List ℕ
invalid_text meta b id = line (codes "invalid" ∷ breach_word b.kind ∷ breach_details meta id b.prop)

-- `limit objects PATH`, `limit depth PATH`
abbrev pub limit_text : List ℕ → LimitKind → List ℕ
limit_text path kind = line (limit_words path kind)

-- `limit bytes PATH`
abbrev pub long_text : List ℕ → List ℕ
long_text path = line (limit (codes "bytes") path [])

-- `done created A updated B deleted C`
abbrev pub report_text : Report → List ℕ
report_text r =
    line (codes "done" ∷ codes "created" ∷ decimal r.created ∷ codes "updated" ∷ decimal r.updated ∷ codes "deleted" ∷ decimal r.deleted ∷ [])

-- What a reader of models answers: the model that bytes spell, or else the first fault of their markup, or else that of their content.
use Rattle.std.specs.Prelude.{ℕ, List, Result, Ok, Err}
use Rattle.mof_metamodel.specs.declared.desc.MetaDesc.{MetaDesc}
use Rattle.object_tables.specs.Models.{ModelData}
use Rattle.xmi_text.specs.Faults as markup
use Rattle.xmi_text.specs.Markup.{Markup}
use Rattle.xmi_text.specs.Trees.{Tree}
use Rattle.model_assembly.specs.declared.fault.Externs.{Externs}
use Rattle.model_assembly.specs.declared.fault.ModelFault.{ModelFault}
use Rattle.xmi_profile.specs.declared.fault.XmiError.{XmiError}
use Rattle.xmi_profile.specs.declared.fault.XmiError.TheVariants as errors
use Rattle.model_assembly.specs.FirstFault.{IsFirstFault, IsModel}
use Rattle.model_assembly.specs.Source.{Source}

-- a tree, read by a metamodel
abbrev pub source_of : MetaDesc → Externs → Tree → Source
source_of meta outside tree = record { meta = meta; outside = outside; tree = tree }

-- the bytes are a document whose tree is the model, which is valid and within the limits
pub record Spells (meta : MetaDesc) (outside : Externs) (bytes : List ℕ) (m : ModelData) : Type 0 where
  pub tree : Tree
  pub markup : Markup bytes tree
  pub model : IsModel (source_of meta outside tree) m

-- the bytes are a document whose tree has the fault, before all others
pub record IsRefused (meta : MetaDesc) (outside : Externs) (bytes : List ℕ) (fault : ModelFault) : Type 0 where
  pub tree : Tree
  pub markup : Markup bytes tree
  pub first : IsFirstFault (source_of meta outside tree) fault

-- the answer on these bytes; that memory ran out says nothing
abbrev pub Reads : MetaDesc → Externs → List ℕ → Result ModelData XmiError → Type 0
Reads meta outside bytes (Ok m) = Spells meta outside bytes m
Reads meta outside bytes (Err (errors.Text fault)) = markup.IsFirstFault bytes fault
Reads meta outside bytes (Err (errors.Content fault)) = IsRefused meta outside bytes fault
Reads meta outside bytes (Err errors.NoMemory) = Unit {0}

-- What the flat lists of a file are put together to: the model of each source that writes them, or its first fault (XMI 2.5.1, 7.10;
-- MOF 2.5.1, 12.4).
use Rattle.std.specs.Prelude.{◌≤◌, length, Result, Ok, Err}
use Rattle.mof_metamodel.specs.declared.desc.MetaDesc.{MetaDesc}
use Rattle.object_tables.specs.declared.limit.TheConstants.{MAX_OBJECTS}
use Rattle.object_tables.specs.Models.{ModelData}
use Rattle.model_assembly.specs.declared.assembly.check.AssemblyError.{AssemblyError}
use Rattle.model_assembly.specs.declared.assembly.check.AssemblyError.TheVariants as errors
use Rattle.model_assembly.specs.declared.filed.Filed.{Filed}
use Rattle.model_assembly.specs.AssemblyReferences.{IsSourceOf, IsTold}
use Rattle.model_assembly.specs.Content.{Content}
use Rattle.model_assembly.specs.FirstFault.{IsModel}
use Rattle.model_assembly.specs.SoundFiled.{IsSoundFiled}
use Rattle.model_assembly.specs.Source.{Source}

-- what some source writes, in which no fault stands at a place: sound lists of no more objects than a model may have
pub record IsWhole (meta : MetaDesc) (f : Filed) : Type 0 where
  pub source : Source
  pub writes : IsSourceOf source meta f
  pub sound : IsSoundFiled meta f
  pub few : length f.ids ≤ MAX_OBJECTS

-- each source that writes the lists is the model
abbrev pub IsContent : MetaDesc → Filed → ModelData → Type 0
IsContent meta f m = (s : Source) → IsSourceOf s meta f → Content s m

-- the model is that of each source that writes the lists, valid and within the limits
abbrev pub IsAssembled : MetaDesc → Filed → ModelData → Type 0
IsAssembled meta f m = (s : Source) → IsSourceOf s meta f → IsModel s m

-- the answer: the model, or else the first fault; that memory ran out says nothing
abbrev pub Assembles : MetaDesc → Filed → Result ModelData AssemblyError → Type 0
Assembles meta f (Ok m) = IsAssembled meta f m
Assembles meta f (Err (errors.Content fault)) = IsTold meta f fault
Assembles meta f (Err errors.NoMemory) = Unit {0}

-- The sixth step of `check`: the script is resolved against its metamodels and the target (QVT 1.3, section 7.11).
use Rattle.std.specs.Prelude.{ℕ, List}
use Rattle.mof_metamodel.specs.declared.desc.MetaDesc.{MetaDesc}
use Rattle.qv_syntax.specs.declared.program.Program.{Program}
use Rattle.qv_syntax.specs.declared.script.Script.{Script}
use Rattle.ocl_environments.specs.declared.fault.TypeFault.{TypeFault}
use Rattle.script_scopes.specs.Resolutions.{IsResolution}
use Rattle.qvtr_types.specs.ResolvedScripts.{setting_of, IsFaultOf}
use Rattle.qvtr_engine.specs.CheckReply.{type_refusal}
use Rattle.qvtr_engine.specs.Reply.{Reply}

-- ---- it goes on

-- no fault stands in the script over these metamodels, in the direction of the target, and it resolves to the program
pub record IsResolved (metas : List MetaDesc) (script : Script) (target : List ℕ) (program : Program) : Type 0 where
  pub faultless : (f : TypeFault) → ¬ IsFaultOf metas script target f
  pub resolution : IsResolution (setting_of metas script target program.queries) program

-- ---- or stops: at a fault that stands, any of them

pub data ScriptRefused (path : List ℕ) (metas : List MetaDesc) (script : Script) (target : List ℕ) : Reply → Type 0 where
  fault : (f : TypeFault) → IsFaultOf metas script target f → ScriptRefused path metas script target (type_refusal path f)

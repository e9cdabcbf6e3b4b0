-- How a script is refused for a fault of its names or types.
use Rattle.std.specs.Prelude.{ℕ, false, List}
use Rattle.ocl_environments.specs.declared.fault.TypeFault.{TypeFault}
use Rattle.script_files.specs.ScriptTexts.{type_text}
use Rattle.qvtr_engine.specs.Reply.{Reply, faulty}

-- the script at the path is refused for a fault of its names or types, which is no limit
abbrev pub type_refusal : List ℕ → TypeFault → Reply
type_refusal path f = faulty false (type_text path f)

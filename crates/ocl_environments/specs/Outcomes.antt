-- What a rule of typing gives: something, or the fault that stands.
use Rattle.std.specs.Prelude.{Bool, true, false, List, Result, Ok, Err}
use Rattle.mof_metamodel.specs.declared.desc.MetaDesc.{MetaDesc}
use Rattle.qv_syntax.specs.declared.ty.Ty.{Ty}
use Rattle.ocl_environments.specs.declared.fault.TypeFault.{TypeFault}
use Rattle.ocl_environments.specs.declared.fault.TypeFault.TheVariants.{WrongType}
use Rattle.ocl_environments.specs.Naming.{type_text}

abbrev pub RuleResult : Type 0 → Type 0
RuleResult X = Result X TypeFault

-- what a rule makes of what a part gave; the fault of the part comes first
abbrev pub and_then : {X Y : Type 0} → RuleResult X → (X → RuleResult Y) → RuleResult Y
and_then (Ok x) rule = rule x
and_then (Err f) rule = Err f

-- what is asked, or else the fault
abbrev pub asking : {X : Type 0} → Bool → TypeFault → RuleResult X → RuleResult X
asking true fault outcome = outcome
asking false fault outcome = Err fault

-- a type in the place of another
abbrev pub wrong_type : List MetaDesc → Ty → Ty → TypeFault
wrong_type metas wanted found = WrongType (type_text metas wanted) (type_text metas found)

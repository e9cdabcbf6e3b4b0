-- The third step of `check`: the names of its words are those of the script, and the target is one of its models (QVT 1.3, section
-- 7.11.1.2).
use Rattle.std.specs.Prelude.{ℕ, List, [], map, chars, slice_index_or}
use Rattle.qv_syntax.specs.declared.script.Script.{Script}
use Rattle.ocl_environments.specs.declared.fault.TypeFault.TheVariants.{UnknownModel}
use Rattle.script_scopes.specs.declared.name_fault.NameFault.{NameFault}
use Rattle.script_scopes.specs.declared.name_fault.NameFault.TheVariants.{Target, Extra, Missing}
use Rattle.script_scopes.specs.ScriptNames.{AreNamesOf, IsNameFault, script_names}
use Rattle.qvtr_engine.specs.CheckReply.{type_refusal}
use Rattle.qvtr_engine.specs.CheckWords.{Bound, CheckWords}
use Rattle.qvtr_engine.specs.Reply.{Reply}

-- a name that has a file, as characters
abbrev pub name_of : Bound → List ℕ
name_of b = chars b.name

abbrev pub given_names : CheckWords → List (List ℕ)
given_names w = map name_of w.files

abbrev pub target_of : CheckWords → List ℕ
target_of w = chars w.target

-- ---- it goes on

abbrev pub NamesFit : CheckWords → Script → Type 0
NamesFit w s = AreNamesOf s.models (target_of w) (given_names w)

-- ---- or stops

-- the first thing that is wrong with the names
abbrev pub IsMisnamed : CheckWords → Script → NameFault → Type 0
IsMisnamed w s fault = IsNameFault s.models (target_of w) (given_names w) fault

-- the name that it is about
abbrev pub faulty_name : CheckWords → Script → NameFault → List ℕ
faulty_name w s Target = target_of w
faulty_name w s (Extra place) = slice_index_or (given_names w) place []
faulty_name w s (Missing place) = slice_index_or (script_names s.models) place []

pub data NamesStop (w : CheckWords) (s : Script) : Reply → Type 0 where
  misnamed : (fault : NameFault) → IsMisnamed w s fault → NamesStop w s (type_refusal w.script (UnknownModel (faulty_name w s fault)))

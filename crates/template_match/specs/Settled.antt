-- What is asked of a slot, once all that it names has a value, and which objects that gives a variable.
use Rattle.std.specs.Prelude.{◌≡◌, Bool, true, ◌&&◌, List, Option, is_some}
use Rattle.object_tables.specs.Models.{ModelData}
use Rattle.qv_syntax.specs.declared.program.Program.{Program}
use Rattle.qvtr_semantics.specs.declared.datum.Datum.{Datum}
use Rattle.qvtr_semantics.specs.Outs.{datum_of}
use Rattle.qvtr_semantics.specs.Expressions.{value_for}
use Rattle.qvtr_semantics.specs.Templates.{Values, value_at}
use Rattle.template_match.specs.declared.candidates.Candidates.{Candidates}
use Rattle.template_match.specs.Asked.{Asker, AskedValue}
use Rattle.template_match.specs.Branches.{TellsHolders}
use Rattle.template_match.specs.Problems.{Problem}
use Rattle.template_match.specs.Ready.{is_ready}

-- the datum that is to stand in the slot
abbrev pub asked_datum : Program → List ModelData → Values → Asker → Option Datum
asked_datum program models b (Asker.item e) = datum_of (value_for program models e b)
asked_datum program models b (Asker.condition e) = datum_of (value_for program models e b)
asked_datum program models b (Asker.equation v) = value_at b v

-- it is known; a condition whose other side is no single value asks for none
abbrev pub is_settled : Program → List ModelData → Values → Asker → Bool
is_settled program models a (Asker.item e) = is_ready a e
is_settled program models a (Asker.condition e) = is_ready a e && is_some (datum_of (value_for program models e a))
is_settled program models a (Asker.equation v) = is_some (value_at a v)

-- it is known, and the candidates are all objects in whose slot it stands
pub record IsTold (p : Problem) (a : Values) (t : AskedValue) (c : Candidates) : Type 0 where
  pub settled : is_settled p.program p.models a t.by ≡ true
  pub tells : TellsHolders p t.holder t.prop.0 (asked_datum p.program p.models a t.by) c

-- What the bytes so far leave to know, and how it changes.
use Rattle.std.specs.Prelude.{ℕ, Bool, true, false, ◌+◌, ◌-◌, nat_lt, List, [], ◌∷◌, ◌++◌, length, take, None, if◌then◌else◌}
use Rattle.xmi_text.specs.AttrNames.{emptied}
use Rattle.xmi_text.specs.declared.error.TextKind.{TextKind}
use Rattle.xmi_text.specs.declared.mark.Mark.{Mark}
use Rattle.xmi_text.specs.declared.mark.Mark.TheVariants as marks
use Rattle.xmi_text.specs.declared.state.State.{State}
use Rattle.xmi_text.specs.declared.state.Mode.{Mode}
use Rattle.xmi_text.specs.declared.state.Mode.TheVariants as modes
use Rattle.xmi_text.specs.declared.state.Ready.{Ready}
use Rattle.xmi_text.specs.declared.state.Ready.TheVariants as ready
use Rattle.xmi_text.specs.declared.state.Quote.{Quote}
use Rattle.xmi_text.specs.declared.state.Brackets.{Brackets}
use Rattle.xmi_text.specs.declared.state.Brackets.TheVariants as bracket

-- no byte came yet
abbrev pub start : State
start = record {
  mode = modes.Start;
  partial = None;
  returned = false;
  rooted = false;
  elements = [];
  run = [];
  run_at = 0;
  tag = [];
  tag_at = 0;
  attrs = [];
  attr = record { name = []; value = []; at = 0 };
  ready = ready.Nothing;
}

-- on in another mode
abbrev pub go : State → Mode → State
go s mode = record s { mode = mode; returned = false }

-- a fault from now on
abbrev pub fail : State → TextKind → ℕ → State
fail s kind at = go s (modes.Failed (record { kind = kind; at = at }))

-- an element is open
abbrev pub is_inside : State → Bool
is_inside s = nat_lt 0 (length s.elements)

-- where text goes on behind a comment, an instruction or a tag
abbrev pub around : State → Mode
around s = if is_inside s then modes.Inside else modes.Outside

-- more characters of the run of text
abbrev pub add : State → Mode → List ℕ → Bool → State
add s mode cs returned = record s { run = s.run ++ cs; mode = mode; returned = returned }

-- in a CDATA section, behind no bracket
abbrev pub cdata : Mode
cdata = modes.Cdata bracket.None

-- the brackets that were held back
abbrev pub brackets : Brackets → List ℕ
brackets bracket.None = []
brackets bracket.One = 93 ∷ []
brackets bracket.Two = 93 ∷ 93 ∷ []

-- one more character of the tag's name
abbrev pub add_to_tag : State → Bool → ℕ → State
add_to_tag s colon c = record s { tag = s.tag ++ c ∷ []; mode = modes.TagName colon; returned = false }

-- one more character of the attribute's name
abbrev pub add_to_name : State → Bool → ℕ → State
add_to_name s colon c = record s { attr = record s.attr { name = s.attr.name ++ c ∷ [] }; mode = modes.AttrName colon; returned = false }

-- one more character of the attribute's value
abbrev pub add_to_value : State → Quote → ℕ → Bool → State
add_to_value s quote c returned = record s { attr = record s.attr { value = s.attr.value ++ c ∷ [] }; mode = modes.Value quote; returned = returned }

-- an attribute begins
abbrev pub begin_attr : State → ℕ → ℕ → State
begin_attr s at c = record s { attr = record { name = c ∷ []; value = []; at = at }; mode = modes.AttrName false; returned = false }

-- an attribute's value ends
abbrev pub end_attr : State → State
end_attr s = record s { attrs = s.attrs ++ s.attr ∷ []; attr = emptied s.attr; mode = modes.AfterValue; returned = false }

-- which mark is complete where a tag begins: a run of no character gives none
abbrev pub due : List ℕ → Ready
due [] = ready.Nothing
due (c ∷ cs) = ready.Data

-- an element begins
abbrev pub begin_tag : State → ℕ → ℕ → State
begin_tag s less c = record s {
  ready = due s.run;
  tag = c ∷ [];
  tag_at = less;
  attrs = [];
  rooted = true;
  mode = modes.TagName false;
  returned = false;
}

-- a start tag ends
abbrev pub open_tag : State → ℕ → State
open_tag s at = record s {
  elements = s.elements ++ s.tag ∷ [];
  ready = ready.Open;
  run_at = at + 1;
  mode = modes.Inside;
  returned = false;
}

-- an empty element's tag ends
abbrev pub empty_tag : State → ℕ → State
empty_tag s at = record s { ready = ready.Empty; run_at = at + 1; mode = around s; returned = false }

-- all but the last
abbrev pub front : {A : Type 0} → List A → List A
front xs = take (length xs - 1) xs

-- without the innermost element
abbrev pub left : State → State
left s = record s { elements = front s.elements }

-- an end tag ends
abbrev pub close_tag : State → ℕ → ℕ → State
close_tag s less at = record (left s) { ready = ready.Close less; run_at = at + 1; mode = around (left s); returned = false }

-- an end tag begins
abbrev pub begin_end : State → ℕ → State
begin_end s less = record s { ready = due s.run; mode = modes.EndName less 0; returned = false }

-- the mark of the start tag
abbrev pub open_mark : State → Mark
open_mark s = marks.Open s.tag s.attrs s.tag_at

abbrev pub without_tag : State → State
without_tag s = record s { tag = []; attrs = [] }

abbrev pub complete_by : State → Ready → List Mark
complete_by s ready.Nothing = []
complete_by s ready.Data = marks.Data s.run s.run_at ∷ []
complete_by s ready.Open = open_mark s ∷ []
complete_by s ready.Empty = open_mark s ∷ marks.Close s.tag_at ∷ []
complete_by s (ready.Close at) = marks.Close at ∷ []

-- the marks that the last byte has completed
abbrev pub complete : State → List Mark
complete s = complete_by s s.ready

abbrev pub cleared_by : State → Ready → State
cleared_by s ready.Nothing = s
cleared_by s ready.Data = record s { run = []; ready = ready.Nothing }
cleared_by s ready.Open = record s { tag = []; attrs = []; ready = ready.Nothing }
cleared_by s ready.Empty = record s { tag = []; attrs = []; ready = ready.Nothing }
cleared_by s (ready.Close at) = record s { ready = ready.Nothing }

-- the state behind the complete marks
abbrev pub cleared : State → State
cleared s = cleared_by s s.ready

-- Calls of a writer: what they write, when they may come, and the tags and characters that they mean. Line ends and indents
-- in an element are characters of it, which a reader of models passes over where they stand between elements.
use Rattle.std.specs.Prelude.{ℕ, ◌≡◌, true, List, [], ◌∷◌}
use Rattle.std.specs.Str.{all_scalars}
use Rattle.mof_metamodel.specs.Characters.{is_storable_text}
use Rattle.xmi_text.specs.Markup.{outer}
use Rattle.xmi_text.specs.Names.{is_name}
use Rattle.xmi_text.specs.Trees.{Event, Opens, Says, Closes}
use Rattle.xmi_text.specs.Writing.{Written, is_empty, is_inside, may_open, may_attr, opened, with_attr, with_data, closed, declared, with_line, line_end}

pub data Call : Type 0 where
  Open : (name : List ℕ) → Call
  Attr : (name value : List ℕ) → Call
  Data : (text : List ℕ) → Call
  Close : Call
  Declare : Call
  Line : (depth : ℕ) → Call

abbrev pub after_call : Written → Call → Written
after_call w (Open name) = opened w name
after_call w (Attr name value) = with_attr w name value
after_call w (Data text) = with_data w text
after_call w Close = closed w
after_call w Declare = declared w
after_call w (Line depth) = with_line w depth

-- what is written behind all calls
abbrev pub wrote : Written → List Call → Written
wrote w [] = w
wrote w (call ∷ calls) = wrote (after_call w call) calls

-- a call may come: names and texts are characters, and the writer's conditions are met
abbrev pub May : Written → Call → Type 0
May w (Open name) = (all_scalars name ≡ true) × (is_name name ≡ true) × (may_open w ≡ true)
May w (Attr name value) = (all_scalars name ≡ true) × (all_scalars value ≡ true) × (is_name name ≡ true) × (is_storable_text value ≡ true) × (may_attr w name ≡ true)
May w (Data text) = (all_scalars text ≡ true) × (is_storable_text text ≡ true) × (is_inside w ≡ true)
May w Close = is_inside w ≡ true
May w Declare = is_empty w ≡ true
May w (Line depth) = Unit {0}

abbrev pub AllMay : Written → List Call → Type 0
AllMay w [] = Unit {0}
AllMay w (call ∷ calls) = May w call × AllMay (after_call w call) calls

-- the attributes that follow an element's begin; characters that are none don't end them
abbrev pub leading : List Call → List (List ℕ × List ℕ)
leading (Attr name value ∷ calls) = (name, value) ∷ leading calls
leading (Data [] ∷ calls) = leading calls
leading _ = []

-- the tags and characters of calls that come in these open elements, the innermost first: an attribute is said in its start
-- tag, and a line's end is characters where an element is open
abbrev pub meant_in : List (List ℕ) → List Call → List Event
meant_in names [] = []
meant_in names (Open name ∷ calls) = Opens name (leading calls) ∷ meant_in (name ∷ names) calls
meant_in names (Attr name value ∷ calls) = meant_in names calls
meant_in names (Data text ∷ calls) = Says text ∷ meant_in names calls
meant_in names (Close ∷ calls) = Closes ∷ meant_in (outer names) calls
meant_in names (Declare ∷ calls) = meant_in names calls
meant_in [] (Line depth ∷ calls) = meant_in [] calls
meant_in (name ∷ names) (Line depth ∷ calls) = Says (line_end depth) ∷ meant_in (name ∷ names) calls

-- those of all calls
abbrev pub meant : List Call → List Event
meant calls = meant_in [] calls

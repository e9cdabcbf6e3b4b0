-- Trees of elements, and the bytes that spell one.
use Rattle.std.specs.Prelude.{ℕ, ◌≡◌, List, [], ◌∷◌, ◌++◌, map, None}
use Rattle.xmi_text.specs.Reading.{marks_of, end_fault_of}
use Rattle.xmi_text.specs.declared.mark.Attr.{Attr}
use Rattle.xmi_text.specs.declared.mark.Mark.{Mark}
use Rattle.xmi_text.specs.declared.mark.Mark.TheVariants as marks

-- the nodes of an element in their order: runs of text, and elements with their attributes' names and values
pub data Nodes : Type 0 where
  Ends : Nodes
  Run : (characters : List ℕ) (more : Nodes) → Nodes
  Element : (name : List ℕ) (attrs : List (List ℕ × List ℕ)) (inner more : Nodes) → Nodes

-- an element that is the root
pub record Tree : Type 0 where
  pub name : List ℕ
  pub attrs : List (List ℕ × List ℕ)
  pub inner : Nodes

-- a mark without its place
pub data Event : Type 0 where
  Opens : (name : List ℕ) (attrs : List (List ℕ × List ℕ)) → Event
  Says : (characters : List ℕ) → Event
  Closes : Event

-- the tags and runs of nodes in document order
abbrev pub events_of : Nodes → List Event
events_of Ends = []
events_of (Run characters more) = Says characters ∷ events_of more
events_of (Element name attrs inner more) = Opens name attrs ∷ (events_of inner ++ Closes ∷ events_of more)

-- and of a tree
abbrev pub events : Tree → List Event
events tree = events_of (Element tree.name tree.attrs tree.inner Ends)

abbrev pub pair_of : Attr → List ℕ × List ℕ
pair_of a = (a.name, a.value)

abbrev pub with_event : Mark → List Event → List Event
with_event (marks.Open name attrs at) rest = Opens name (map pair_of attrs) ∷ rest
with_event (marks.Data text at) rest = Says text ∷ rest
with_event (marks.Close at) rest = Closes ∷ rest
with_event marks.End rest = rest

-- marks without their places
abbrev pub told : List Mark → List Event
told [] = []
told (mark ∷ more) = with_event mark (told more)

-- the bytes are whole, and are read as the tree
pub record Spells (bytes : List ℕ) (tree : Tree) : Type 0 where
  pub whole : end_fault_of bytes ≡ None
  pub read : told (marks_of bytes) ≡ events tree

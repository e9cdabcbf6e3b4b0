-- The elements of a tree as a list, which grows with each start tag, run of characters and end in document order.
use Rattle.std.specs.Prelude.{ℕ, suc, ◌+◌, ◌-◌, ◌^◌, ◌<◌, ◌≤◌, All, Bool, List, [], ◌∷◌, ◌++◌, length, take, slice_get, Option, None, Some, if◌then◌else◌}
use Rattle.std.specs.Option.{option_and_then}
use Rattle.mof_metamodel.specs.declared.desc.MetaDesc.{MetaDesc}
use Rattle.object_tables.specs.Lists.{update_at}
use Rattle.xmi_text.specs.Trees.{Nodes, Ends, Run, Element as Inner, Event, Opens, Says, Closes}
use Rattle.model_assembly.specs.declared.fault.Externs.{Externs}
use Rattle.xmi_profile.specs.declared.element.Element.{Element}
use Rattle.model_assembly.specs.Attributes.{Attrs}
use Rattle.model_assembly.specs.declared.role.Role.{Role}
use Rattle.model_assembly.specs.Elements.{Item, role_of_root, role_in, number_in, inner_place, behind_place}
use Rattle.xmi_profile.specs.Scanning.{IsWithin}
use Rattle.model_assembly.specs.Values.{is_all_blank}

-- Elements

abbrev pub begun : ℕ → Role → List ℕ → Attrs → Element
begun place role name attrs = record { place = place; role = role; name = name; attrs = attrs; text = []; text_at = None; odd_at = None }

abbrev pub or_place : Option ℕ → ℕ → Option ℕ
or_place None place = Some place
or_place (Some earlier) place = Some earlier

abbrev pub odd_place : Bool → Option ℕ → ℕ → Option ℕ
odd_place blank odd place = if blank then odd else or_place odd place

-- a run of characters at this place came
abbrev pub with_run : ℕ → List ℕ → Element → Element
with_run place characters e =
    record e { text = e.text ++ characters; text_at = or_place e.text_at place; odd_at = odd_place (is_all_blank characters) e.odd_at place }

-- all runs directly in an element
abbrev pub with_runs : Nodes → ℕ → Element → Element
with_runs Ends place e = e
with_runs (Run characters more) place e = with_runs more (suc place) (with_run place characters e)
with_runs (Inner name attrs inner more) place e = with_runs more (behind_place place attrs inner) e

-- what is kept of an element of a tree
abbrev pub element_of : Item → Element
element_of item = with_runs item.inner (inner_place item.place item.attrs) (begun item.place item.role item.name item.attrs)

-- Lists of elements

-- the elements so far, the numbers of the open ones, the innermost last, and the place and the number of the next object behind them
pub record Listing : Type 0 where
  pub elements : List Element
  pub ancestors : List ℕ
  pub place : ℕ
  pub number : ℕ

abbrev pub nothing : Listing
nothing = record { elements = []; ancestors = []; place = 0; number = 0 }

abbrev pub innermost : List ℕ → Option ℕ
innermost numbers = slice_get numbers (length numbers - 1)

abbrev pub role_by : MetaDesc → Externs → ℕ → List ℕ → Attrs → Option Element → Role
role_by meta outside number name attrs None = role_of_root meta name attrs
role_by meta outside number name attrs (Some parent) = role_in meta outside parent.role number name attrs

abbrev pub parent_of : Listing → Option Element
parent_of l = option_and_then (slice_get l.elements) (innermost l.ancestors)

-- one more element in the innermost open one
abbrev pub with_element : Listing → Role → List ℕ → Attrs → Listing
with_element l role name attrs = record {
  elements = l.elements ++ begun l.place role name attrs ∷ [];
  ancestors = l.ancestors ++ length l.elements ∷ [];
  place = suc (l.place + length attrs);
  number = number_in role l.number;
}

abbrev pub opened : MetaDesc → Externs → Listing → List ℕ → Attrs → Listing
opened meta outside l name attrs = with_element l (role_by meta outside l.number name attrs (parent_of l)) name attrs

-- a run of characters in it
abbrev pub said_in : List Element → ℕ → List ℕ → Option ℕ → List Element
said_in elements place characters None = elements
said_in elements place characters (Some n) = update_at elements n (with_run place characters)

abbrev pub said : Listing → List ℕ → Listing
said l characters = record l { elements = said_in l.elements l.place characters (innermost l.ancestors); place = suc l.place }

-- its end
abbrev pub closed : Listing → Listing
closed l = record l { ancestors = take (length l.ancestors - 1) l.ancestors; place = suc l.place }

abbrev pub behind : MetaDesc → Externs → Listing → Event → Listing
behind meta outside l (Opens name attrs) = opened meta outside l name attrs
behind meta outside l (Says characters) = said l characters
behind meta outside l Closes = closed l

-- behind tags and runs
abbrev pub listed : MetaDesc → Externs → Listing → List Event → Listing
listed meta outside l [] = l
listed meta outside l (event ∷ events) = listed meta outside (behind meta outside l event) events

-- what each list keeps: open elements are in it, classes are those of the metamodel, and there are no more objects than elements
pub record IsSound (meta : MetaDesc) (l : Listing) : Type 0 where
  pub ancestors : All (λ n. n < length l.elements) l.ancestors
  pub within : All (λ (e : Element). IsWithin meta e.role) l.elements
  pub number : l.number ≤ length l.elements
  pub places : All (λ (e : Element). e.place ≤ l.place) l.elements

-- what is known of elements that are to be judged: their classes and properties are those of the metamodel, and places behind theirs
-- have room
pub record AreKnown (meta : MetaDesc) (es : List Element) : Type 0 where
  pub within : All (λ (e : Element). IsWithin meta e.role) es
  pub room : All (λ (e : Element). e.place + 2 ^ 64 < 2 ^ 128) es

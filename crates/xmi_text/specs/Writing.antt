-- What a writer writes, as characters.
use Rattle.std.specs.Prelude.{ℕ, Bool, true, false, ◌==◌, ◌-◌, ◌*◌, ◌&&◌, not, nat_lt, nat_eq, List, [], ◌∷◌, ◌++◌, length, replicate, codes, slice_get, Option, None, Some, if◌then◌else◌}
use Rattle.std.specs.List.{list_any}
use Rattle.std.specs.Cmp.Lexicographic.{pointwise}
use Rattle.xmi_text.specs.declared.limits.TheConstants.{MAX_XMI_NESTING}
use Rattle.xmi_text.specs.States.{front}

-- the characters so far, whether the root element was begun, the names of the open elements, the root first, and the
-- names of the attributes of the start tag that isn't ended yet
pub record Written : Type 0 where
  pub text : List ℕ
  pub rooted : Bool
  pub elements : List (List ℕ)
  pub names : Option (List (List ℕ))

abbrev pub names_of : Bool → List (List ℕ) → Option (List (List ℕ))
names_of in_tag names = if in_tag then Some names else None

abbrev pub nothing : Written
nothing = record { text = []; rooted = false; elements = []; names = None }

-- a start tag isn't ended yet
abbrev pub is_tag : Option (List (List ℕ)) → Bool
is_tag None = false
is_tag (Some names) = true

-- no character was written
abbrev pub is_empty : Written → Bool
is_empty w = length w.text == 0

-- an element is open
abbrev pub is_inside : Written → Bool
is_inside w = nat_lt 0 (length w.elements)

-- an element may begin: the root, or one inside fewer others than the limit on nesting
abbrev pub may_open : Written → Bool
may_open w = if is_inside w then nat_lt (length w.elements) MAX_XMI_NESTING else not w.rooted

-- one of the names is this
abbrev pub has : List (List ℕ) → List ℕ → Bool
has names name = list_any (λ n. pointwise nat_eq n name) names

abbrev pub is_new : Option (List (List ℕ)) → List ℕ → Bool
is_new None name = false
is_new (Some names) name = not (has names name)

-- a start tag is open, and hasn't the name
abbrev pub may_attr : Written → List ℕ → Bool
may_attr w name = is_new w.names name

-- one root element was written, and ended
abbrev pub is_whole : Written → Bool
is_whole w = not (is_inside w) && w.rooted

-- a character, as a reference if markup uses it
abbrev pub escaped_character : ℕ → List ℕ
escaped_character c =
    if c == 38 then codes "&amp;"
    else if c == 60 then codes "&lt;"
    else if c == 62 then codes "&gt;"
    else if c == 34 then codes "&quot;"
    else if c == 39 then codes "&apos;"
    else if c == 9 then codes "&#9;"
    else if c == 10 then codes "&#10;"
    else if c == 13 then codes "&#13;"
    else c ∷ []

-- a text, its characters escaped
abbrev pub escaped : List ℕ → List ℕ
escaped [] = []
escaped (c ∷ cs) = escaped_character c ++ escaped cs

-- what ends a start tag that is open
abbrev pub tag_end : Bool → List ℕ
tag_end in_tag = if in_tag then 62 ∷ [] else []

-- the innermost element's name
abbrev pub named : Option (List ℕ) → List ℕ
named None = []
named (Some name) = name

-- what ends the innermost element: `/>` in its start tag, else an end tag
abbrev pub element_end : Bool → List (List ℕ) → List ℕ
element_end in_tag elements =
    if in_tag then 47 ∷ 62 ∷ []
    else (60 ∷ 47 ∷ []) ++ named (slice_get elements (length elements - 1)) ++ 62 ∷ []

-- an element begins
abbrev pub opened : Written → List ℕ → Written
opened w name = record {
  text = w.text ++ (tag_end (is_tag w.names) ++ 60 ∷ [] ++ name);
  rooted = true;
  elements = w.elements ++ name ∷ [];
  names = Some [];
}

abbrev pub attr_text : List ℕ → List ℕ → List ℕ
attr_text name value = 32 ∷ [] ++ name ++ 61 ∷ [] ++ 34 ∷ [] ++ escaped value ++ 34 ∷ []

abbrev pub more_names : Option (List (List ℕ)) → List ℕ → Option (List (List ℕ))
more_names None name = None
more_names (Some names) name = Some (names ++ name ∷ [])

-- an attribute of the open start tag
abbrev pub with_attr : Written → List ℕ → List ℕ → Written
with_attr w name value = record {
  text = w.text ++ attr_text name value;
  rooted = w.rooted;
  elements = w.elements;
  names = more_names w.names name;
}

-- characters in the innermost element; none write nothing
abbrev pub with_data : Written → List ℕ → Written
with_data w cs =
    if length cs == 0 then w
    else record { text = w.text ++ (tag_end (is_tag w.names) ++ escaped cs); rooted = w.rooted; elements = w.elements; names = None }

-- the innermost element ends
abbrev pub closed : Written → Written
closed w = record {
  text = w.text ++ element_end (is_tag w.names) w.elements;
  rooted = w.rooted;
  elements = front w.elements;
  names = None;
}

-- the XML declaration (2.8)
abbrev pub declaration : List ℕ
declaration = codes "<?xml version=\"1.0\" encoding=\"UTF-8\"?>"

-- the declaration, before all else
abbrev pub declared : Written → Written
declared w = record w { text = w.text ++ declaration }

-- a line feed, and two spaces for each level
abbrev pub line_end : ℕ → List ℕ
line_end depth = 10 ∷ replicate (2 * depth) 32

-- the line ends
abbrev pub with_line : Written → ℕ → Written
with_line w depth = record {
  text = w.text ++ (tag_end (is_tag w.names) ++ line_end depth);
  rooted = w.rooted;
  elements = w.elements;
  names = None;
}

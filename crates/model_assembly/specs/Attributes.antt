-- Names of elements and attributes with prefixes, which are known by their letters, and what XMI's own attributes are read as
-- (Namespaces in XML 1.0, section 4; XMI 2.5.1, 7.6: XMI attributes).
use Rattle.std.specs.Prelude.{ℕ, suc, ◌==◌, ◌||◌, ◌&&◌, Bool, false, not, List, [], ◌∷◌, ◌++◌, codes, Option, None, Some, if◌then◌else◌}
use Rattle.std.specs.Option.{option_map, unwrap_or}
use Rattle.mof_metamodel.specs.Characters.{same_name}
use Rattle.xmi_text.specs.Markup.{begins}

-- attributes in the written order, each a name and a value
abbrev pub Attrs : Type 0
Attrs = List (List ℕ × List ℕ)

-- Prefixes

abbrev pub has_prefix : List ℕ → List ℕ → Bool
has_prefix prefix name = begins (prefix ++ 58 ∷ []) name

-- what stands behind the first of these characters
abbrev pub behind : ℕ → List ℕ → Option (List ℕ)
behind mark [] = None
behind mark (c ∷ cs) = if c == mark then Some cs else behind mark cs

-- what stands behind the first colon, or a name without a colon whole
abbrev pub local_part : List ℕ → List ℕ
local_part name = unwrap_or (behind 58 name) name

-- Elements of XMI's namespace

abbrev pub is_document_name : List ℕ → Bool
is_document_name name = same_name name (codes "xmi:XMI")

-- extensions and documentation, which are skipped with what they contain (XMI 2.5.1, 7.5)
abbrev pub is_skipped_name : List ℕ → Bool
is_skipped_name name = same_name name (codes "xmi:Extension") || same_name name (codes "xmi:Documentation")

-- any other, which the profile hasn't
abbrev pub is_alien_name : List ℕ → Bool
is_alien_name name = has_prefix (codes "xmi") name && not (is_document_name name || is_skipped_name name)

-- Attributes of XMI's namespace and of schema instances

abbrev pub is_id_name : List ℕ → Bool
is_id_name name = same_name name (codes "xmi:id")

abbrev pub is_type_name : List ℕ → Bool
is_type_name name = same_name name (codes "xmi:type") || same_name name (codes "xsi:type")

abbrev pub is_idref_name : List ℕ → Bool
is_idref_name name = same_name name (codes "xmi:idref")

abbrev pub is_nil_name : List ℕ → Bool
is_nil_name name = same_name name (codes "xsi:nil")

abbrev pub is_href_name : List ℕ → Bool
is_href_name name = same_name name (codes "href")

-- those that say something
abbrev pub is_kept_name : List ℕ → Bool
is_kept_name name = is_id_name name || is_type_name name || is_idref_name name || is_nil_name name

-- declarations of namespaces, and all others of the two namespaces, are passed over
abbrev pub is_passed_name : List ℕ → Bool
is_passed_name name =
    same_name name (codes "xmlns") || has_prefix (codes "xmlns") name
    || ((has_prefix (codes "xmi") name || has_prefix (codes "xsi") name) && not (is_kept_name name))

-- Values of attributes

abbrev pub later : ℕ × List ℕ → ℕ × List ℕ
later found = (suc found.0, found.1)

-- the number, from 0, and the value of the first attribute whose name passes
abbrev pub first_attr : (List ℕ → Bool) → Attrs → Option (ℕ × List ℕ)
first_attr passes [] = None
first_attr passes (a ∷ attrs) = if passes a.0 then Some (0, a.1) else option_map later (first_attr passes attrs)

abbrev pub value_where : (List ℕ → Bool) → Attrs → Option (List ℕ)
value_where passes attrs = option_map (λ found. found.1) (first_attr passes attrs)

-- the identifier that an element writes, and the type: the first of its two names counts
abbrev pub written_id : Attrs → Option (List ℕ)
written_id attrs = value_where is_id_name attrs

abbrev pub written_type : Attrs → Option (List ℕ)
written_type attrs = value_where is_type_name attrs

-- only the text `true` says that there is no value (XML Schema 1.0 part 1, 2.6.2)
abbrev pub is_true : Option (List ℕ) → Bool
is_true None = false
is_true (Some text) = same_name text (codes "true")

abbrev pub is_nil : Attrs → Bool
is_nil attrs = is_true (value_where is_nil_name attrs)

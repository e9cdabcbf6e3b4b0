-- Texts of a document are storable.
use Rattle.std.proofs.Common.{◌≡◌, ℕ, suc, Bool, true, false, List, [], ◌∷◌, ◌++◌, map, refl, sym, ◌∙◌, ap, subst, append_assoc, append-nil, length}
use Rattle.std.specs.Prelude.{◌==◌, ◌||◌, ◌&&◌, not, All, if◌then◌else◌}
use Rattle.std.specs.List.{list_all}
use Rattle.std.specs.Str.{all_scalars}
use Rattle.std.proofs.lemmas.Bool.{true≢false, and_from}
use Rattle.std.proofs.lemmas.List.Folds.{list_all-append}
use Rattle.std.proofs.lemmas.List.Elements.{All-nil, All-cons, All-append}
use Rattle.mof_metamodel.specs.declared.desc.MetaDesc.{MetaDesc}
use Rattle.mof_metamodel.specs.Characters.{is_storable_character, is_storable_text}
use Rattle.xmi_text.specs.Markup.{line_ends, spaced, Reference, Amp, Lt, Gt, Quot, Apos, Decimal, Hexadecimal, is_digit, is_hexadecimal_digit, number, referred, is_number, is_reference, ValuePart, Literal, Named, part_value, is_value_character, is_part, value_of, Attribute, pair, AreAttributes, Piece, Characters, Referred, Cdata, Comment, Instruction, StartTag, EmptyTag, EndTag, said, is_content_character, IsPiece, open_behind, Closing, IsRoot, all_said, say, joined_runs, Markup}
use Rattle.xmi_text.specs.Trees.{Nodes, Ends, Run, Element, Tree, Event, Opens, Says, Closes, events_of, events}
use Rattle.model_assembly.specs.declared.fault.Externs.{Externs}
use Rattle.model_assembly.specs.Attributes.{Attrs}
use Rattle.model_assembly.specs.declared.role.Role.{Role}
use Rattle.model_assembly.specs.Elements.{Item, role_of_root, role_in, number_in, number_behind, inner_place, behind_place, items_in, items}
use Rattle.model_assembly.specs.Source.{text_in}
use Rattle.mof_metamodel.proofs.Facts.{first_true, second_true}

abbrev pub Stored : List ℕ → Type 0
Stored text = is_storable_text text ≡ true

stored_cons : (c : ℕ) (cs : List ℕ) → is_storable_character c ≡ true → Stored cs → Stored (c ∷ cs)
stored_cons c cs h i = and_from (is_storable_character c) (is_storable_text cs) h i

stored_append : (xs ys : List ℕ) → Stored xs → Stored ys → Stored (xs ++ ys)
stored_append xs ys h i = list_all-append is_storable_character xs ys ∙ and_from (is_storable_text xs) (is_storable_text ys) h i

-- ---- characters

stored_ends : (returned : Bool) (cs : List ℕ) → Stored cs → Stored (line_ends returned cs)
stored_ends returned [] h = refl
stored_ends returned (c ∷ cs) h =
    by (c == 13) ((c == 10) && returned) (first_true (is_storable_character c) (is_storable_text cs) h) (λ b. stored_ends b cs (second_true (is_storable_character c) (is_storable_text cs) h))
  where
    by : (a b : Bool) → is_storable_character c ≡ true → ((r : Bool) → Stored (line_ends r cs))
        → Stored (if a then 10 ∷ line_ends true cs else if b then line_ends false cs else c ∷ line_ends false cs)
    by true b k more = more true
    by false true k more = more false
    by false false k more = stored_cons c (line_ends false cs) k (more false)

stored_spaced : (c : ℕ) → is_storable_character c ≡ true → is_storable_character (spaced c) ≡ true
stored_spaced c h = by ((c == 10) || (c == 9))
  where
    by : (b : Bool) → is_storable_character (if b then 32 else c) ≡ true
    by true = refl
    by false = h

stored_spaces : (cs : List ℕ) → Stored cs → Stored (map spaced cs)
stored_spaces [] h = refl
stored_spaces (c ∷ cs) h =
    stored_cons (spaced c) (map spaced cs) (stored_spaced c (first_true (is_storable_character c) (is_storable_text cs) h)) (stored_spaces cs (second_true (is_storable_character c) (is_storable_text cs) h))

-- characters that are more than storable
stored_where : (p : ℕ → Bool) → ((c : ℕ) → p c ≡ true → is_storable_character c ≡ true) → (cs : List ℕ) → list_all p cs ≡ true → Stored cs
stored_where p f [] h = refl
stored_where p f (c ∷ cs) h = stored_cons c cs (f c (first_true (p c) (list_all p cs) h)) (stored_where p f cs (second_true (p c) (list_all p cs) h))

stored_number : (is_one : ℕ → Bool) (digits : List ℕ) (c : ℕ) → is_number is_one digits c ≡ true → is_storable_character c ≡ true
stored_number is_one digits c h =
    second_true (all_scalars (c ∷ [])) (is_storable_character c)
    (second_true (list_all is_one digits) (all_scalars (c ∷ []) && is_storable_character c)
    (second_true (not (length digits == 0)) (list_all is_one digits && (all_scalars (c ∷ []) && is_storable_character c)) h))

stored_referred : (r : Reference) → is_reference r ≡ true → is_storable_character (referred r) ≡ true
stored_referred Amp h = refl
stored_referred Lt h = refl
stored_referred Gt h = refl
stored_referred Quot h = refl
stored_referred Apos h = refl
stored_referred (Decimal digits) h = stored_number is_digit digits (number 10 0 digits) h
stored_referred (Hexadecimal digits) h = stored_number is_hexadecimal_digit digits (number 16 0 digits) h

stored_part : (quote : ℕ) (part : ValuePart) → is_part quote part ≡ true → Stored (part_value part)
stored_part quote (Literal text) h =
    stored_spaces (line_ends false text)
    (stored_ends false text
    (stored_where (is_value_character quote) (λ c k. first_true (is_storable_character c) (not (c == 60) && (not (c == 38) && not (c == quote))) k) text h))
stored_part quote (Named reference) h = stored_cons (referred reference) [] (stored_referred reference h) refl

stored_value : (quote : ℕ) (parts : List ValuePart) → list_all (is_part quote) parts ≡ true → Stored (value_of parts)
stored_value quote [] h = refl
stored_value quote (part ∷ parts) h =
    stored_append (part_value part) (value_of parts) (stored_part quote part (first_true (is_part quote part) (list_all (is_part quote) parts) h))
    (stored_value quote parts (second_true (is_part quote part) (list_all (is_part quote) parts) h))

-- ---- events

abbrev pub StoredAttrs : Attrs → Type 0
StoredAttrs [] = Unit {0}
StoredAttrs (a ∷ attrs) = Stored a.1 × StoredAttrs attrs

abbrev StoredEvent : Event → Type 0
StoredEvent (Opens name attrs) = StoredAttrs attrs
StoredEvent (Says characters) = Stored characters
StoredEvent Closes = Unit {0}

abbrev StoredEvents : List Event → Type 0
StoredEvents [] = Unit {0}
StoredEvents (event ∷ rest) = StoredEvent event × StoredEvents rest

events_append : (xs ys : List Event) → StoredEvents xs → StoredEvents ys → StoredEvents (xs ++ ys)
events_append [] ys a b = b
events_append (x ∷ xs) ys a b = (a.0, events_append xs ys a.1 b)

stored_attrs : (names : List (List ℕ)) (attributes : List Attribute) → AreAttributes names attributes → StoredAttrs (map pair attributes)
stored_attrs names [] h = tt
stored_attrs names (a ∷ attributes) h = (stored_value a.quote a.value h.0.value, stored_attrs (names ++ a.name ∷ []) attributes h.2)

content_stored : (text : List ℕ) → list_all is_content_character text ≡ true → Stored text
content_stored text h = stored_where is_content_character (λ c k. first_true (is_storable_character c) (not (c == 60) && not (c == 38)) k) text h

stored_piece : (piece : Piece) → IsPiece piece → StoredEvents (said piece)
stored_piece (Characters text) h = (stored_ends false text (content_stored text h), tt)
stored_piece (Referred reference) h = (stored_cons (referred reference) [] (stored_referred reference h) refl, tt)
stored_piece (Cdata text) h = (stored_ends false text h.0, tt)
stored_piece (Comment text) h = tt
stored_piece (Instruction target text) h = tt
stored_piece (StartTag tag) h = (stored_attrs [] tag.attributes h.attributes, tt)
stored_piece (EmptyTag tag) h = (stored_attrs [] tag.attributes h.attributes, (tt, tt))
stored_piece (EndTag name blanks) h = (tt, tt)

stored_root : (piece : Piece) → IsRoot piece → StoredEvents (said piece)
stored_root (Characters text) h = absurd h
stored_root (Referred reference) h = absurd h
stored_root (Cdata text) h = absurd h
stored_root (Comment text) h = absurd h
stored_root (Instruction target text) h = absurd h
stored_root (StartTag tag) h = (stored_attrs [] tag.attributes h.attributes, tt)
stored_root (EmptyTag tag) h = (stored_attrs [] tag.attributes h.attributes, (tt, tt))
stored_root (EndTag name blanks) h = absurd h

stored_pieces : (names : List (List ℕ)) (pieces : List Piece) → Closing names pieces → StoredEvents (all_said pieces)
stored_pieces [] [] h = tt
stored_pieces [] (piece ∷ pieces) h = absurd h
stored_pieces (name ∷ names) [] h = absurd h
stored_pieces (name ∷ names) (piece ∷ pieces) h =
    events_append (said piece) (all_said pieces) (stored_piece piece h.0) (stored_pieces (open_behind (name ∷ names) piece) pieces h.2)

stored_say : (cs : List ℕ) (rest : List Event) → Stored cs → StoredEvents rest → StoredEvents (say cs rest)
stored_say cs (Says ds ∷ rest) h k = (stored_append cs ds h k.0, k.1)
stored_say [] [] h k = k
stored_say [] (Opens name attrs ∷ rest) h k = k
stored_say [] (Closes ∷ rest) h k = k
stored_say (c ∷ cs) [] h k = (h, k)
stored_say (c ∷ cs) (Opens name attrs ∷ rest) h k = (h, k)
stored_say (c ∷ cs) (Closes ∷ rest) h k = (h, k)

stored_joined : (es : List Event) → StoredEvents es → StoredEvents (joined_runs es)
stored_joined [] h = tt
stored_joined (Says cs ∷ rest) h = stored_say cs (joined_runs rest) h.0 (stored_joined rest h.1)
stored_joined (Opens name attrs ∷ rest) h = (h.0, stored_joined rest h.1)
stored_joined (Closes ∷ rest) h = (tt, stored_joined rest h.1)

-- ---- trees

abbrev pub StoredNodes : Nodes → Type 0
StoredNodes Ends = Unit {0}
StoredNodes (Run characters more) = Stored characters × StoredNodes more
StoredNodes (Element name attrs inner more) = StoredAttrs attrs × StoredNodes inner × StoredNodes more

behind_events : (xs ys : List Event) → StoredEvents (xs ++ ys) → StoredEvents ys
behind_events [] ys h = h
behind_events (x ∷ xs) ys h = behind_events xs ys h.1

-- events of nodes and others behind them
stored_nodes : (nodes : Nodes) (rest : List Event) → StoredEvents (events_of nodes ++ rest) → StoredNodes nodes
stored_nodes Ends rest h = tt
stored_nodes (Run characters more) rest h = (h.0, stored_nodes more rest h.1)
stored_nodes (Element name attrs inner more) rest h =
    let e = append_assoc (events_of inner) (Closes ∷ events_of more) rest in
    let k = subst StoredEvents e h.1 in
    (h.0, stored_nodes inner (Closes ∷ (events_of more ++ rest)) k, stored_nodes more rest (behind_events (events_of inner) (Closes ∷ (events_of more ++ rest)) k).1)

stored_text : (nodes : Nodes) → StoredNodes nodes → Stored (text_in nodes)
stored_text Ends h = refl
stored_text (Run characters more) h = stored_append characters (text_in more) h.0 (stored_text more h.1)
stored_text (Element name attrs inner more) h = stored_text more h.2

-- the attributes and the text of an element
abbrev pub StoredItem : Item → Type 0
StoredItem item = StoredAttrs item.attrs × Stored (text_in item.inner)

stored_items : (meta : MetaDesc) (outside : Externs) (parent : Role) (nodes : Nodes) (place number : ℕ) → StoredNodes nodes → All StoredItem (items_in meta outside parent nodes place number)
stored_items meta outside parent Ends place number h = All-nil StoredItem
stored_items meta outside parent (Run characters more) place number h = stored_items meta outside parent more (suc place) number h.1
stored_items meta outside parent (Element name attrs inner more) place number h =
    let role : Role = role_in meta outside parent number name attrs in
    let item : Item = record { place = place; role = role; name = name; attrs = attrs; inner = inner } in
    let inners : List Item = items_in meta outside role inner (inner_place place attrs) (number_in role number) in
    let mores : List Item = items_in meta outside parent more (behind_place place attrs inner) (number_behind (item ∷ inners) number) in
    All-append StoredItem (item ∷ inners) mores
    (All-cons StoredItem item inners (h.0, stored_text inner h.1) (stored_items meta outside role inner (inner_place place attrs) (number_in role number) h.1))
    (stored_items meta outside parent more (behind_place place attrs inner) (number_behind (item ∷ inners) number) h.2)

pub stored_tree : (meta : MetaDesc) (outside : Externs) (bytes : List ℕ) (tree : Tree) → Markup bytes tree → All StoredItem (items meta outside tree)
stored_tree meta outside bytes tree m =
    let d = m.document in
    let said_all = events_append (said d.root) (all_said d.inner) (stored_root d.root m.whole.root) (stored_pieces (open_behind [] d.root) d.inner m.whole.inner) in
    let es = subst StoredEvents m.means (stored_joined (all_said (d.root ∷ d.inner)) said_all) in
    let h = stored_nodes (Element tree.name tree.attrs tree.inner Ends) [] (subst StoredEvents (sym (append-nil (events tree))) es) in
    let role : Role = role_of_root meta tree.name tree.attrs in
    let item : Item = record { place = 0; role = role; name = tree.name; attrs = tree.attrs; inner = tree.inner } in
    let inners : List Item = items_in meta outside role tree.inner (inner_place 0 tree.attrs) (number_in role 0) in
    All-cons StoredItem item inners (h.0, stored_text tree.inner h.1) (stored_items meta outside role tree.inner (inner_place 0 tree.attrs) (number_in role 0) h.1)

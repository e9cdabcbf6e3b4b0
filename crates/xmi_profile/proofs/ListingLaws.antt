-- The list of the elements of a tree's tags and runs is that of its elements.
use Rattle.std.proofs.Common.{◌≡◌, ℕ, suc, ◌+◌, ◌-◌, List, [], ◌∷◌, ◌++◌, map, length, filter, take, refl, sym, ◌∙◌, ap, arith, append_assoc, append-nil, Some, Option}
use Rattle.std.specs.Prelude.{slice_get}
use Rattle.std.specs.Option.{option_and_then}
use Rattle.std.proofs.lemmas.List.{length-append, map-append}
use Rattle.std.proofs.lemmas.List.Elements.{filter-append}
use Rattle.mof_metamodel.specs.declared.desc.MetaDesc.{MetaDesc}
use Rattle.object_tables.specs.Lists.{update_at}
use Rattle.xmi_text.specs.Trees.{Nodes, Ends, Run, Element as Inner, Tree, Event, Closes, events_of, events}
use Rattle.model_assembly.specs.declared.fault.Externs.{Externs}
use Rattle.xmi_profile.specs.declared.element.Element.{Element}
use Rattle.model_assembly.specs.Attributes.{Attrs}
use Rattle.model_assembly.specs.declared.role.Role.{Role}
use Rattle.model_assembly.specs.Elements.{Item, role_of_root, role_in, number_in, number_behind, room_of, inner_place, behind_place, items_in, items, is_object}
use Rattle.xmi_profile.specs.Listing.{begun, with_run, with_runs, element_of, Listing, nothing, innermost, role_by, parent_of, with_element, opened, said, said_in, closed, listed}
use Rattle.model_assembly.proofs.PlaceLaws.{counted}

-- ---- lists

get_seam : {X : Type 0} (xs : List X) (x : X) (ys : List X) → slice_get (xs ++ x ∷ ys) (length xs) ≡ Some x
get_seam [] x ys = refl
get_seam (y ∷ xs) x ys = get_seam xs x ys

update_seam : {X : Type 0} (xs : List X) (x : X) (ys : List X) (f : X → X) → update_at (xs ++ x ∷ ys) (length xs) f ≡ xs ++ f x ∷ ys
update_seam [] x ys f = refl
update_seam (y ∷ xs) x ys f = ap (λ zs. y ∷ zs) (update_seam xs x ys f)

last_of : {X : Type 0} (xs : List X) (x : X) → length (xs ++ x ∷ []) - 1 ≡ length xs
last_of xs x = let l = length-append xs (x ∷ []) in omega (arith, l)

innermost_last : (above : List ℕ) (n : ℕ) → innermost (above ++ n ∷ []) ≡ Some n
innermost_last above n = ap (slice_get (above ++ n ∷ [])) (last_of above n) ∙ get_seam above n []

take_seam : {X : Type 0} (xs ys : List X) → take (length xs) (xs ++ ys) ≡ xs
take_seam [] ys = refl
take_seam (x ∷ xs) ys = ap (λ zs. x ∷ zs) (take_seam xs ys)

without_last : (above : List ℕ) (n : ℕ) → take (length (above ++ n ∷ []) - 1) (above ++ n ∷ []) ≡ above
without_last above n = ap (λ k. take k (above ++ n ∷ [])) (last_of above n) ∙ take_seam above (n ∷ [])

-- ---- states

abbrev at_state : List Element → List ℕ → ℕ → ℕ → Listing
at_state es above place number = record { elements = es; ancestors = above; place = place; number = number }

same_state : (es fs : List Element) (above : List ℕ) (p q n k : ℕ) → es ≡ fs → p ≡ q → n ≡ k → at_state es above p n ≡ at_state fs above q k
same_state es fs above p q n k e f g =
    ap (λ (xs : List Element). at_state xs above p n) e ∙ ap (λ (x : ℕ). at_state fs above x n) f ∙ ap (λ (x : ℕ). at_state fs above q x) g

-- the innermost above element stands between others
abbrev inside : List Element → Element → List Element → List ℕ → ℕ → ℕ → Listing
inside before e after above place number = at_state (before ++ e ∷ after) (above ++ length before ∷ []) place number

parent_inside : (before : List Element) (e : Element) (after : List Element) (above : List ℕ) (place number : ℕ) → parent_of (inside before e after above place number) ≡ Some e
parent_inside before e after above place number =
    ap (option_and_then (slice_get (before ++ e ∷ after))) (innermost_last above (length before)) ∙ get_seam before e after

opened_inside : (meta : MetaDesc) (outside : Externs) (before : List Element) (e : Element) (after : List Element) (above : List ℕ) (place number : ℕ) (name : List ℕ) (attrs : Attrs)
    → opened meta outside (inside before e after above place number) name attrs
    ≡ inside (before ++ e ∷ after) (begun place (role_in meta outside e.role number name attrs) name attrs) [] (above ++ length before ∷ []) (inner_place place attrs) (number_in (role_in meta outside e.role number name attrs) number)
opened_inside meta outside before e after above place number name attrs =
    ap (λ (p : Option Element). with_element (inside before e after above place number) (role_by meta outside number name attrs p) name attrs)
    (parent_inside before e after above place number)

said_inside : (before : List Element) (e : Element) (after : List Element) (above : List ℕ) (place number : ℕ) (characters : List ℕ)
    → said (inside before e after above place number) characters ≡ inside before (with_run place characters e) after above (suc place) number
said_inside before e after above place number characters =
    ap (λ (es : List Element). at_state es (above ++ length before ∷ []) (suc place) number)
    (ap (said_in (before ++ e ∷ after) place characters) (innermost_last above (length before)) ∙ update_seam before e after (with_run place characters))

closed_inside : (es : List Element) (above : List ℕ) (n place number : ℕ) → closed (at_state es (above ++ n ∷ []) place number) ≡ at_state es above (suc place) number
closed_inside es above n place number = ap (λ (ns : List ℕ). at_state es ns (suc place) number) (without_last above n)

-- ---- numbers

counted_both : (own more : List Item) (number : ℕ) → number_behind more (number_behind own number) ≡ number_behind (own ++ more) number
counted_both own more number =
    let f : length (filter is_object (own ++ more)) ≡ length (filter is_object own) + length (filter is_object more)
    = ap length (filter-append is_object own more) ∙ length-append (filter is_object own) (filter is_object more) in
    omega (arith, f)

-- ---- the walk

walk : (meta : MetaDesc) (outside : Externs) (nodes : Nodes) (rest : List Event) (before : List Element) (e : Element) (after : List Element) (above : List ℕ) (place number : ℕ)
    → listed meta outside (inside before e after above place number) (events_of nodes ++ rest)
    ≡ listed meta outside (inside before (with_runs nodes place e) (after ++ map element_of (items_in meta outside e.role nodes place number)) above (place + room_of nodes) (number_behind (items_in meta outside e.role nodes place number) number)) rest
walk meta outside Ends rest before e after above place number =
    ap (λ (l : Listing). listed meta outside l rest)
    (same_state _ _ (above ++ length before ∷ []) _ _ _ _ (ap (λ (es : List Element). before ++ e ∷ es) (sym (append-nil after))) (omega arith) (omega arith))
walk meta outside (Run characters more) rest before e after above place number =
    ap (λ (l : Listing). listed meta outside l (events_of more ++ rest)) (said_inside before e after above place number characters)
    ∙ walk meta outside more rest before (with_run place characters e) after above (suc place) number
    ∙ ap (λ (l : Listing). listed meta outside l rest) (same_state _ _ (above ++ length before ∷ []) _ _ _ _ refl (omega arith) refl)
walk meta outside (Inner name attrs inner more) rest before e after above place number =
    let role : Role = role_in meta outside e.role number name attrs in
    let begins : Element = begun place role name attrs in
    let item : Item = record { place = place; role = role; name = name; attrs = attrs; inner = inner } in
    let inners : List Item = items_in meta outside role inner (inner_place place attrs) (number_in role number) in
    let mores : List Item = items_in meta outside e.role more (behind_place place attrs inner) (number_behind (item ∷ inners) number) in
    let own : List Element = map element_of (item ∷ inners) in
    let events_more : List Event = events_of more ++ rest in
    let level : List ℕ = above ++ length before ∷ [] in
    ap (λ (l : Listing). listed meta outside l ((events_of inner ++ Closes ∷ events_of more) ++ rest)) (opened_inside meta outside before e after above place number name attrs)
    ∙ ap (listed meta outside (inside (before ++ e ∷ after) begins [] level (inner_place place attrs) (number_in role number)))
    (append_assoc (events_of inner) (Closes ∷ events_of more) rest)
    ∙ walk meta outside inner (Closes ∷ events_more) (before ++ e ∷ after) begins [] level (inner_place place attrs) (number_in role number)
    ∙ ap (λ (l : Listing). listed meta outside l events_more)
    (closed_inside ((before ++ e ∷ after) ++ own) level (length (before ++ e ∷ after)) (inner_place place attrs + room_of inner) (number_behind inners (number_in role number))
    ∙ same_state _ _ level _ _ _ _ (append_assoc before (e ∷ after) own) (omega arith) (counted item inners number))
    ∙ walk meta outside more rest before e (after ++ own) above (behind_place place attrs inner) (number_behind (item ∷ inners) number)
    ∙ ap (λ (l : Listing). listed meta outside l rest)
    (same_state _ _ level _ _ _ _
    (ap (λ (es : List Element). before ++ with_runs more (behind_place place attrs inner) e ∷ es)
    (append_assoc after own (map element_of mores) ∙ ap (λ (es : List Element). after ++ es) (sym (map-append element_of (item ∷ inners) mores))))
    (omega arith)
    (counted_both (item ∷ inners) mores number))

pub listed_tree : (meta : MetaDesc) (outside : Externs) (tree : Tree) → (listed meta outside nothing (events tree)).elements ≡ map element_of (items meta outside tree)
listed_tree meta outside tree =
    let role : Role = role_of_root meta tree.name tree.attrs in
    ap (λ (l : Listing). l.elements)
    (walk meta outside tree.inner (Closes ∷ []) [] (begun 0 role tree.name tree.attrs) [] [] (inner_place 0 tree.attrs) (number_in role 0))

-- The primitive types that are added are those that the file names and hasn't.
use Rattle.std.proofs.Common.{◌≡◌, ℕ, suc, Bool, true, false, List, [], ◌∷◌, ◌++◌, map, length, refl, sym, ◌∙◌, ap, subst, append_assoc, append-nil, cond, None, Some}
use Rattle.std.specs.Prelude.{◌||◌, ◌&&◌, not, is_some, position, codes, Option, if◌then◌else◌}
use Rattle.std.specs.List.{list_any}
use Rattle.std.specs.Option.{option_map, option_or}
use Rattle.mof_metamodel.specs.Characters.{same_name}
use Rattle.mof_metamodel.specs.NameTables.{value_of}
use Rattle.mof_metamodel.proofs.NameLemmas.{lookup-push}
use Rattle.xmi_profile.specs.declared.element.Element.{Element}
use Rattle.model_assembly.specs.declared.role.Role.{Role}
use Rattle.model_assembly.specs.Elements.{Item}
use Rattle.xmi_profile.specs.Firsts.{FirstIn, Duplicates}
use Rattle.xmi_profile.specs.Judging.{Found}
use Rattle.xmi_profile.specs.Listing.{element_of}
use Rattle.xmi_profile.specs.Numbering.{Numbers, NumbersOf, no_numbers, numbered, with_new, is_used, is_extern_new, with_extern, all_numbered}
use Rattle.model_assembly.specs.Source.{Source, all_items, file_ids, all_ids, uses, is_added, added_names, primitive_class}
use Rattle.xmi_profile.proofs.NumberingLaws.{Knows, knows_new, FileNumbers, numbers_of}
use Rattle.xmi_profile.proofs.Positions.{first_place, position_is}
use Rattle.xmi_profile.proofs.SeenLaws.{element_kept}

used_of : (name : List ℕ) (items : List Item) → is_used (map element_of items) name ≡ list_any (λ item. uses name item.role) items
used_of name [] = refl
used_of name (item ∷ items) =
    ap (λ (r : Role). uses name r || is_used (map element_of items) name) (ap (λ (e : Element). e.role) (element_kept item))
    ∙ ap (λ (b : Bool). uses name item.role || b) (used_of name items)

some_later : (o : Option ℕ) → is_some (option_map suc o) ≡ is_some o
some_later None = refl
some_later (Some x) = refl

some_first : {X : Type 0} (p : X → Bool) (xs : List X) → is_some (first_place p xs) ≡ list_any p xs
some_first p [] = refl
some_first p (x ∷ xs) = by (p x) (some_later (first_place p xs) ∙ some_first p xs)
  where
    by : (b : Bool) → is_some (option_map suc (first_place p xs)) ≡ list_any p xs → is_some (cond b (Some 0) (option_map suc (first_place p xs))) ≡ (b || list_any p xs)
    by true h = refl
    by false h = h

some_position : {X : Type 0} (p : X → Bool) (xs : List X) → is_some (position p xs) ≡ list_any p xs
some_position p xs = ap (λ (o : Option ℕ). is_some o) (position_is p xs) ∙ some_first p xs

-- whether the names know an identifier of the file
abbrev Tells : Source → Numbers → List ℕ → Type 0
Tells s n name = is_some (value_of n.names name) ≡ list_any (same_name name) (file_ids s)

tells_file : (s : Source) (n : Numbers) (name : List ℕ) → FileNumbers s n → Tells s n name
tells_file s n name f =
    ap (λ (o : Option ℕ). is_some o) (f.knows name) ∙ some_position (same_name name) n.ids ∙ ap (λ (ids : List (List ℕ)). list_any (same_name name) ids) f.ids

added_if : (s : Source) (n : Numbers) (name : List ℕ) → Tells s n name → is_extern_new s.meta (map element_of (all_items s)) n name ≡ is_added s name
added_if s n name t =
    ap (λ (b : Bool). b && (not (is_some (value_of n.names name)) && is_some (primitive_class s.meta))) (used_of name (all_items s))
    ∙ ap (λ (b : Bool). list_any (λ item. uses name item.role) (all_items s) && (not b && is_some (primitive_class s.meta))) t

-- with or without one more
abbrev new_if : Bool → Numbers → List ℕ → Numbers
new_if b n name = if b then with_new n name else n

or_none : (o : Option ℕ) → option_or o None ≡ o
or_none None = refl
or_none (Some x) = refl

tells_other : (s : Source) (b : Bool) (n : Numbers) (name other : List ℕ) → same_name other name ≡ false → Tells s n other → Tells s (new_if b n name) other
tells_other s false n name other d t = t
tells_other s true n name other d t =
    ap (λ (o : Option ℕ). is_some o)
    (lookup-push (same_name other) n.names name (length n.ids)
    ∙ ap (λ (c : Bool). option_or (value_of n.names other) (cond c (Some (length n.ids)) None)) d
    ∙ or_none (value_of n.names other)) ∙ t

knows_if : (b : Bool) (n : Numbers) (name : List ℕ) → Knows n → Knows (new_if b n name)
knows_if true n name k = knows_new n name k
knows_if false n name k = k

repeated_if : (b : Bool) (n : Numbers) (name : List ℕ) → (new_if b n name).repeated ≡ n.repeated
repeated_if true n name = refl
repeated_if false n name = refl

-- the three names
abbrev three : Bool → Bool → Bool → Numbers → Numbers
three a b c n = new_if c (new_if b (new_if a n (codes "String")) (codes "Integer")) (codes "Boolean")

abbrev chosen : Bool → Bool → Bool → List (List ℕ)
chosen a b c =
    cond a (codes "String" ∷ cond b (codes "Integer" ∷ cond c (codes "Boolean" ∷ []) []) (cond c (codes "Boolean" ∷ []) []))
    (cond b (codes "Integer" ∷ cond c (codes "Boolean" ∷ []) []) (cond c (codes "Boolean" ∷ []) []))

three_ids : (a b c : Bool) (n : Numbers) → (three a b c n).ids ≡ n.ids ++ chosen a b c
three_ids false false false n = sym (append-nil n.ids)
three_ids false false true n = refl
three_ids false true false n = refl
three_ids false true true n = append_assoc n.ids (codes "Integer" ∷ []) (codes "Boolean" ∷ [])
three_ids true false false n = refl
three_ids true false true n = append_assoc n.ids (codes "String" ∷ []) (codes "Boolean" ∷ [])
three_ids true true false n = append_assoc n.ids (codes "String" ∷ []) (codes "Integer" ∷ [])
three_ids true true true n =
    append_assoc (n.ids ++ codes "String" ∷ []) (codes "Integer" ∷ []) (codes "Boolean" ∷ [])
    ∙ append_assoc n.ids (codes "String" ∷ []) (codes "Integer" ∷ codes "Boolean" ∷ [])

abbrev file_numbers : Source → Numbers
file_numbers s = numbered no_numbers (map element_of (all_items s))

abbrev first_of_three : Source → Numbers
first_of_three s = new_if (is_added s (codes "String")) (file_numbers s) (codes "String")

abbrev second_of_three : Source → Numbers
second_of_three s = new_if (is_added s (codes "Integer")) (first_of_three s) (codes "Integer")

abbrev last_of_three : Source → Numbers
last_of_three s = new_if (is_added s (codes "Boolean")) (second_of_three s) (codes "Boolean")

abbrev elements_of : Source → List Element
elements_of s = map element_of (all_items s)

extern_is : (s : Source) (n : Numbers) (name : List ℕ) → Tells s n name → with_extern s.meta (elements_of s) n name ≡ new_if (is_added s name) n name
extern_is s n name t = ap (λ (b : Bool). new_if b n name) (added_if s n name t)

all_is : (s : Source) → all_numbered s.meta (elements_of s) ≡ last_of_three s
all_is s =
    let E : List ℕ → Numbers → Numbers = λ name n. with_extern s.meta (elements_of s) n name in
    let f = numbers_of s in
    let integer = tells_other s (is_added s (codes "String")) (file_numbers s) (codes "String") (codes "Integer") refl (tells_file s (file_numbers s) (codes "Integer") f) in
    let boolean = tells_other s (is_added s (codes "String")) (file_numbers s) (codes "String") (codes "Boolean") refl (tells_file s (file_numbers s) (codes "Boolean") f) in
    ap (λ (n : Numbers). E (codes "Boolean") (E (codes "Integer") n)) (extern_is s (file_numbers s) (codes "String") (tells_file s (file_numbers s) (codes "String") f))
    ∙ ap (E (codes "Boolean")) (extern_is s (first_of_three s) (codes "Integer") integer)
    ∙ extern_is s (second_of_three s) (codes "Boolean") (tells_other s (is_added s (codes "Integer")) (first_of_three s) (codes "Integer") (codes "Boolean") refl boolean)

last_ids : (s : Source) → (last_of_three s).ids ≡ all_ids s
last_ids s =
    three_ids (is_added s (codes "String")) (is_added s (codes "Integer")) (is_added s (codes "Boolean")) (file_numbers s)
    ∙ ap (λ (ids : List (List ℕ)). ids ++ added_names s) (numbers_of s).ids

last_known : (s : Source) → NumbersOf s (last_of_three s)
last_known s =
    let f = numbers_of s in
    let a : Bool = is_added s (codes "String") in
    let b : Bool = is_added s (codes "Integer") in
    let c : Bool = is_added s (codes "Boolean") in
    record {
      ids = last_ids s;
      names = λ id.
          knows_if c (second_of_three s) (codes "Boolean") (knows_if b (first_of_three s) (codes "Integer") (knows_if a (file_numbers s) (codes "String") f.knows)) id
          ∙ ap (position (same_name id)) (last_ids s);
      repeated = subst (λ (o : Option Found). FirstIn (Duplicates s) o)
          (sym (repeated_if c (second_of_three s) (codes "Boolean") ∙ repeated_if b (first_of_three s) (codes "Integer") ∙ repeated_if a (file_numbers s) (codes "String"))) f.repeated;
    }

pub numbers_of_all : (s : Source) → NumbersOf s (all_numbered s.meta (map element_of (all_items s)))
numbers_of_all s = subst (λ (n : Numbers). NumbersOf s n) (sym (all_is s)) (last_known s)

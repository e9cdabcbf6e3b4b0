-- That a completion makes bytes whole.
use Rattle.std.proofs.Common.{◌≡◌, ℕ, zero, suc, ◌+◌, ◌-◌, ◌*◌, ◌%◌, ◌≤◌, ◌<◌, ◌⊎◌, Bool, true, false, cond, List, [], ◌∷◌, ◌++◌, length, take, drop, replicate, refl, sym, ◌∙◌, ap, subst, arith, Option, Some, None, length-append, append_assoc, append-nil, inl, inr, codes, encode_utf8_all, true≢false, add-zero}
use Rattle.std.proofs.Math.Seq.{take-length}
use Rattle.std.proofs.lemmas.List.{take-append-le, length-replicate}
use Rattle.std.proofs.lemmas.Bool.{ltb-true, ltb-false, lt-ltb, le-ltb, eq-eqb, ne_eqb, eqb-true, le-leb, cond-true, cond-false, cond_both, cases_lt, both_ways, false_from_ne_true, and_right, and_from, or_from, or_left, or_right, not_from_false}
use Rattle.std.specs.Prelude.{nat_lt, nat_le, nat_eq, ◌==◌, ◌&&◌, ◌||◌, not, slice_get}
use Rattle.std.specs.Cmp.Lexicographic.{pointwise}
use Rattle.mof_metamodel.specs.Characters.{is_storable_character}
use Rattle.xmi_text.specs.declared.limits.TheConstants.{MAX_XMI_NESTING}
use Rattle.xmi_text.specs.ByteClass.{within}
use Rattle.xmi_text.specs.AttrNames.{has_name}
use Rattle.xmi_text.specs.UtfEight as utf
use Rattle.xmi_text.specs.References as refs
use Rattle.xmi_text.specs.States as states
use Rattle.xmi_text.specs.States.{go, is_inside, around, front, cleared}
use Rattle.xmi_text.specs.Automaton as automaton
use Rattle.xmi_text.specs.Automaton.{step, step_by, end_fault, end_fault_by, innermost, byte_of, wanted, fault_at}
use Rattle.xmi_text.specs.Reading.{state_from, state_of, end_fault_of}
use Rattle.xmi_text.specs.Writing.{named}
use Rattle.xmi_text.specs.Completion.{MayGoOn, end_tag, end_tags, elements_end, tag_end, name_end, size, longer, attr_end, quote, digits, reference_end, section_end, behind_reference, completion_in, completion_by, completion, behind_character, least, least_rest, mark_rest}
use Rattle.xmi_text.specs.declared.error.TextFault.{TextFault}
use Rattle.xmi_text.specs.declared.error.TextKind.TheVariants as kinds
use Rattle.xmi_text.specs.declared.mark.Attr.{Attr}
use Rattle.xmi_text.specs.declared.reference.Reference.{Reference}
use Rattle.xmi_text.specs.declared.reference.Reference.TheVariants as ref
use Rattle.xmi_text.specs.declared.utf_eight.Partial.{Partial}
use Rattle.xmi_text.specs.declared.utf_eight.Rest.{Rest}
use Rattle.xmi_text.specs.declared.utf_eight.Rest.TheVariants as rests
use Rattle.xmi_text.specs.declared.utf_eight.Growth.TheVariants as growths
use Rattle.xmi_text.specs.declared.state.State.{State}
use Rattle.xmi_text.specs.declared.state.Mode.{Mode}
use Rattle.xmi_text.specs.declared.state.Mode.TheVariants as modes
use Rattle.xmi_text.specs.declared.state.Quote.{Quote}
use Rattle.xmi_text.specs.declared.state.Quote.TheVariants as quotes
use Rattle.xmi_text.specs.declared.state.Within.{Within}
use Rattle.xmi_text.specs.declared.state.Within.TheVariants as places
use Rattle.xmi_text.specs.declared.state.Brackets.{Brackets}
use Rattle.xmi_text.specs.declared.state.Brackets.TheVariants as brackets
use Rattle.xmi_text.specs.declared.state.Ready.{Ready}
use Rattle.xmi_text.specs.declared.state.Ready.TheVariants as ready
use Rattle.xmi_text.proofs.completion.Sound.{Reachable, NotOpen, Around, Stands, Bits, Takes, Cut, sound_of, Grown, extended_grown}
use Rattle.xmi_text.proofs.reading.Reached.{state_of-append}
use Rattle.xmi_text.proofs.reading.Staying.{idle_of}

-- more bytes make a text whole
abbrev pub Wholes : State → List ℕ → Type 0
Wholes s bytes = (at n : ℕ) → end_fault (state_from at s bytes) n ≡ None

-- between two characters
abbrev pub in_mode : State → Mode → State
in_mode s m = record s { mode = m; partial = None; ready = ready.Nothing }

-- they do so wherever these elements are open
abbrev pub Then : List (List ℕ) → List ℕ → Type 0
Then names bytes = (t : State) → t.rooted ≡ true → t.elements ≡ names → Wholes (in_mode t (around t)) bytes

-- one byte, which leads to a state
following : (s : State) (t : ℕ → State) (b : ℕ) (bytes : List ℕ) → ((at : ℕ) → step s at b ≡ t at) → ((at n : ℕ) → end_fault (state_from (at + 1) (cleared (t at)) bytes) n ≡ None) → Wholes s (b ∷ bytes)
following s t b bytes e w = λ at n. subst (λ (q : State). end_fault (state_from (at + 1) (cleared q) bytes) n ≡ None) (sym (e at)) (w at n)

next : (s t : State) (b : ℕ) (bytes : List ℕ) → ((at : ℕ) → step s at b ≡ t) → Wholes (cleared t) bytes → Wholes s (b ∷ bytes)
next s t b bytes e w = following s (λ _. t) b bytes e (λ at n. w (at + 1) n)

-- ---- the end of open elements

none_open : Then [] []
none_open t r e at n =
    let outside : around t ≡ modes.Outside = ap (λ (xs : List (List ℕ)). cond (nat_lt 0 (length xs)) modes.Inside modes.Outside) e in
    subst (λ (m : Mode). end_fault (in_mode t m) n ≡ None) (sym outside) (ap (λ (b : Bool). cond b None (Some (fault_at kinds.OpenTag n))) r)

pub get_drop : (bytes : List ℕ) (m : ℕ) → slice_get bytes m ≡ slice_get (drop m bytes) 0
get_drop [] zero = refl
get_drop [] (suc m) = refl
get_drop (b ∷ bytes) zero = refl
get_drop (b ∷ bytes) (suc m) = get_drop bytes m

drop_none : (m : ℕ) → drop {A = ℕ} m [] ≡ []
drop_none zero = refl
drop_none (suc m) = refl

pub drop_more : (bytes : List ℕ) (m : ℕ) → drop (m + 1) bytes ≡ drop 1 (drop m bytes)
drop_more [] zero = refl
drop_more [] (suc m) = drop_none (suc m + 1)
drop_more (b ∷ bytes) zero = refl
drop_more (b ∷ bytes) (suc m) = let e : suc m + 1 ≡ suc (m + 1) = omega arith in ap (λ (k : ℕ). drop k (b ∷ bytes)) e ∙ drop_more bytes m

pub byte_named : (name : Option (List ℕ)) (m : ℕ) → byte_of name m ≡ slice_get (encode_utf8_all (named name)) m
byte_named None m = refl
byte_named (Some name) m = refl

-- the rest of an end tag
name_wholes : (rest : List ℕ) (s : State) (less m : ℕ) (more : List ℕ) → drop m (encode_utf8_all (named (innermost s.elements))) ≡ rest → s.rooted ≡ true → Then (front s.elements) more → Wholes (in_mode s (modes.EndName less m)) (rest ++ 62 ∷ more)
name_wholes [] s less m more e r w at n =
    let bytes : List ℕ = encode_utf8_all (named (innermost s.elements)) in
    let none : wanted s m ≡ None = byte_named (innermost s.elements) m ∙ get_drop bytes m ∙ ap (λ (xs : List ℕ). slice_get xs 0) e in
    let t : State = in_mode s (modes.EndName less m) in
    subst (λ (o : Option ℕ). end_fault (state_from (at + 1) (cleared (automaton.end_name_by t less m at 62 o)) more) n ≡ None) (sym none)
    (w (record s { elements = front s.elements; run_at = at + 1; returned = false }) r refl (at + 1) n)
name_wholes (b ∷ rest) s less m more e r w at n =
    let bytes : List ℕ = encode_utf8_all (named (innermost s.elements)) in
    let some : wanted s m ≡ Some b = byte_named (innermost s.elements) m ∙ get_drop bytes m ∙ ap (λ (xs : List ℕ). slice_get xs 0) e in
    let t : State = in_mode s (modes.EndName less m) in
    let same : (b == b) ≡ true = eq-eqb b b refl in
    subst (λ (o : Option ℕ). end_fault (state_from (at + 1) (cleared (automaton.end_name_by t less m at b o)) (rest ++ 62 ∷ more)) n ≡ None) (sym some)
    (subst (λ (q : Bool). end_fault (state_from (at + 1) (cleared (cond q (go t (modes.EndName less (m + 1))) (states.fail t kinds.WrongEnd less))) (rest ++ 62 ∷ more)) n ≡ None) (sym same)
    (name_wholes rest (record s { returned = false }) less (m + 1) more (drop_more bytes m ∙ ap (drop 1) e) r w (at + 1) n))

-- the `/` of an end tag
end_begun : (s : State) (run : List ℕ) (less : ℕ) (bytes : List ℕ) → ((run' : List ℕ) → Wholes (in_mode (record s { run = run'; returned = false }) (modes.EndName less 0)) bytes) → Wholes (cleared (states.begin_end (record s { partial = None; run = run }) less)) bytes
end_begun s [] less bytes w = w []
end_begun s (c ∷ run) less bytes w = w []

pub slash_wholes : (s : State) (less : ℕ) (more : List ℕ) → is_inside s ≡ true → s.rooted ≡ true → Then (front s.elements) more → Wholes (in_mode s (modes.Less less)) (47 ∷ (encode_utf8_all (named (innermost s.elements)) ++ 62 ∷ more))
slash_wholes s less more i r w =
    let t : State = in_mode s (modes.Less less) in
    let name : List ℕ = encode_utf8_all (named (innermost s.elements)) in
    next t (states.begin_end t less) 47 (name ++ 62 ∷ more) (λ at. cond-true (is_inside s) _ _ i)
    (end_begun (record s { mode = modes.Less less; ready = ready.Nothing }) s.run less (name ++ 62 ∷ more) (λ run. name_wholes name (record s { run = run; returned = false }) less 0 more refl r w))

inner_last : (outer : List (List ℕ)) (name : List ℕ) → slice_get (outer ++ name ∷ []) (length outer) ≡ Some name
inner_last [] name = refl
inner_last (x ∷ outer) name = inner_last outer name

one_more : (outer : List (List ℕ)) (name : List ℕ) → length (outer ++ name ∷ []) - 1 ≡ length outer
one_more outer name = omega (arith, length-append outer (name ∷ []))

front_push : (outer : List (List ℕ)) (name : List ℕ) → front (outer ++ name ∷ []) ≡ outer
front_push outer name = ap (λ (k : ℕ). take k (outer ++ name ∷ [])) (one_more outer name) ∙ take-append-le (length outer) outer (name ∷ []) (omega arith) ∙ take-length outer

innermost_push : (outer : List (List ℕ)) (name : List ℕ) → innermost (outer ++ name ∷ []) ≡ Some name
innermost_push outer name = ap (λ (k : ℕ). slice_get (outer ++ name ∷ []) k) (one_more outer name) ∙ inner_last outer name

-- the innermost element's end tag
tag_then : (outer : List (List ℕ)) (name : List ℕ) (more : List ℕ) → Then outer more → Then (outer ++ name ∷ []) (end_tag name ++ more)
tag_then outer name more w t r e =
    let many : 0 < length t.elements = rw e (omega (arith, length-append outer (name ∷ []))) in
    let inside : is_inside t ≡ true = lt-ltb 0 (length t.elements) many in
    let mode : around t ≡ modes.Inside = cond-true (is_inside t) _ _ inside in
    let outer' : front t.elements ≡ outer = ap front e ∙ front_push outer name in
    let last : named (innermost t.elements) ≡ name = ap (λ (xs : List (List ℕ)). named (innermost xs)) e ∙ ap named (innermost_push outer name) in
    let w' : Then (front t.elements) more = λ u p q. w u p (q ∙ outer') in
    let bytes : 60 ∷ 47 ∷ (encode_utf8_all (named (innermost t.elements)) ++ 62 ∷ more) ≡ end_tag name ++ more =
    ap (λ (xs : List ℕ). 60 ∷ 47 ∷ (encode_utf8_all xs ++ 62 ∷ more)) last ∙ ap (λ (xs : List ℕ). 60 ∷ 47 ∷ xs) (sym (append_assoc (encode_utf8_all name) (62 ∷ []) more)) in
    subst (λ (m : Mode). Wholes (in_mode t m) (end_tag name ++ more)) (sym mode)
    (subst (Wholes (in_mode t modes.Inside)) bytes (λ at n. slash_wholes (record t { returned = false }) at more inside r w' (at + 1) n))

tags_then : (inner outer : List (List ℕ)) (more : List ℕ) → Then outer more → Then (outer ++ inner) (end_tags inner ++ more)
tags_then [] outer more w t r e = w t r (e ∙ append-nil outer)
tags_then (name ∷ inner) outer more w t r e =
    subst (Wholes (in_mode t (around t))) (sym (append_assoc (end_tags inner) (end_tag name) more))
    (tags_then inner (outer ++ name ∷ []) (end_tag name ++ more) (tag_then outer name more w) t r (e ∙ sym (append_assoc outer (name ∷ []) inner)))

pub all_ended : (names : List (List ℕ)) → Then names (end_tags names)
all_ended names t r e = subst (Wholes (in_mode t (around t))) (append-nil (end_tags names)) (tags_then names [] [] none_open t r e)

-- ---- the root element

tag_begun : (s : State) (run : List ℕ) (less c : ℕ) (bytes : List ℕ) → ((run' : List ℕ) → Wholes (in_mode (record s { run = run'; tag = c ∷ []; tag_at = less; attrs = []; rooted = true; returned = false }) (modes.TagName false)) bytes) → Wholes (cleared (states.begin_tag (record s { partial = None; run = run }) less c)) bytes
tag_begun s [] less c bytes w = w []
tag_begun s (x ∷ run) less c bytes w = w []

outside_is : (s : State) → is_inside s ≡ false → around s ≡ modes.Outside
outside_is s e = cond-false (is_inside s) _ _ e

inside_is : (s : State) → is_inside s ≡ true → around s ≡ modes.Inside
inside_is s e = cond-true (is_inside s) _ _ e

-- an empty root element
empty_root : (s : State) → is_inside s ≡ false → Wholes (in_mode (record s { rooted = true }) (modes.TagName false)) (codes "/>")
empty_root s i at n =
    subst (λ (m : Mode). end_fault (in_mode (record s { rooted = true; tag = []; attrs = []; run_at = at + 1 + 1; returned = false }) m) n ≡ None) (sym (outside_is s i)) refl

root_wholes : (s : State) (less : ℕ) → is_inside s ≡ false → s.rooted ≡ false → Wholes (in_mode s (modes.Less less)) (codes "a/>")
root_wholes s less i r =
    let t : State = in_mode s (modes.Less less) in
    next t (states.begin_tag t less 97) 97 (codes "/>") (λ at. cond-false (is_inside s) _ _ i ∙ cond-false s.rooted _ _ r)
    (tag_begun (record s { mode = modes.Less less; ready = ready.Nothing }) s.run less 97 (codes "/>") (λ run. empty_root (record s { run = run; tag = 97 ∷ []; tag_at = less; attrs = []; returned = false }) i))

around_by : (s : State) (b : Bool) → s.rooted ≡ b → (is_inside s ≡ true → s.rooted ≡ true) → Wholes (in_mode s (around s)) (cond b (end_tags s.elements) (codes "<a/>"))
around_by s true e r = all_ended s.elements s e refl
around_by s false e r =
    let i : is_inside s ≡ false = false_from_ne_true (is_inside s) (λ h. both_ways s.rooted e (r h)) in
    subst (λ (m : Mode). Wholes (in_mode s m) (codes "<a/>")) (sym (outside_is s i)) (λ at n. root_wholes (record s { returned = false }) at i e (at + 1) n)

-- what ends all elements, around them
around_wholes : (s : State) → (is_inside s ≡ true → s.rooted ≡ true) → Wholes (in_mode s (around s)) (elements_end s)
around_wholes s r = around_by s s.rooted refl r

inside_wholes : (s : State) → (is_inside s ≡ true → s.rooted ≡ true) → is_inside s ≡ true → Wholes (in_mode s modes.Inside) (elements_end s)
inside_wholes s r i = subst (λ (m : Mode). Wholes (in_mode s m) (elements_end s)) (inside_is s i) (around_wholes s r)

outside_wholes : (s : State) → (is_inside s ≡ true → s.rooted ≡ true) → is_inside s ≡ false → Wholes (in_mode s modes.Outside) (elements_end s)
outside_wholes s r i = subst (λ (m : Mode). Wholes (in_mode s m) (elements_end s)) (outside_is s i) (around_wholes s r)

-- ---- tags and attributes

slash_end : (s : State) → s.rooted ≡ true → Wholes (in_mode s modes.Slash) (62 ∷ elements_end s)
slash_end s r at n = around_wholes (record s { tag = []; attrs = []; run_at = at + 1; returned = false }) (λ _. r) (at + 1) n

name_tag : (s : State) (colon : Bool) → s.rooted ≡ true → Wholes (in_mode s (modes.TagName colon)) (tag_end s)
name_tag s colon r at n = slash_end (record s { returned = false }) r (at + 1) n

blank_tag : (s : State) → s.rooted ≡ true → Wholes (in_mode s modes.Tag) (tag_end s)
blank_tag s r at n = slash_end (record s { returned = false }) r (at + 1) n

value_tag : (s : State) → s.rooted ≡ true → Wholes (in_mode s modes.AfterValue) (tag_end s)
value_tag s r at n = slash_end (record s { returned = false }) r (at + 1) n

quote_end : (s : State) (q : Quote) → s.rooted ≡ true → Wholes (in_mode s (modes.Value q)) (quote q ∷ tag_end s)
quote_end s quotes.Double r at n = value_tag (states.end_attr s) r (at + 1) n
quote_end s quotes.Single r at n = value_tag (states.end_attr s) r (at + 1) n

value_end : (s : State) → s.rooted ≡ true → Wholes (in_mode s modes.BeforeValue) (codes "\"\"" ++ tag_end s)
value_end s r at n = quote_end (record s { returned = false }) quotes.Double r (at + 1) n

equals_end : (s : State) → s.rooted ≡ true → Wholes (in_mode s modes.AfterName) (codes "=\"\"" ++ tag_end s)
equals_end s r at n = value_end (record s { returned = false }) r (at + 1) n

-- a name that no attribute has
new_end : (s : State) (colon : Bool) → has_name s.attrs s.attr.name ≡ false → s.rooted ≡ true → Wholes (in_mode s (modes.AttrName colon)) (codes "=\"\"" ++ tag_end s)
new_end s colon e r =
    let t : State = in_mode s (modes.AttrName colon) in
    next t (go t modes.BeforeValue) 61 (codes "\"\"" ++ tag_end s) (λ at. cond-false (has_name s.attrs s.attr.name) _ _ e) (value_end (record s { returned = false }) r)

shorter : (x y : List ℕ) → length x < length y → pointwise nat_eq x y ≡ false
shorter [] [] h = absurd (omega arith)
shorter (a ∷ x) [] h = absurd (omega arith)
shorter [] (b ∷ y) h = refl
shorter (a ∷ x) (b ∷ y) h = let e : pointwise nat_eq x y ≡ false = shorter x y (omega arith) in and_right (nat_eq a b) (pointwise nat_eq x y) e

some_size : (attrs : List Attr) → 1 ≤ size attrs
some_size [] = omega arith
some_size (a ∷ rest) = omega (arith, some_size rest)

pub longest : (attrs : List Attr) (name : List ℕ) → size attrs ≤ length name → has_name attrs name ≡ false
longest [] name h = refl
longest (a ∷ rest) name h =
    or_from (pointwise nat_eq a.name name) (has_name rest name) (shorter a.name name (omega (arith, some_size rest))) (longest rest name (omega arith))

-- a name goes on by letters
letters_wholes : (k : ℕ) (s : State) (colon : Bool) (more : List ℕ) → ((name : List ℕ) (returned : Bool) → name ≡ s.attr.name ++ replicate k 97 → Wholes (in_mode (record s { attr = record s.attr { name = name }; returned = returned }) (modes.AttrName colon)) more) → Wholes (in_mode s (modes.AttrName colon)) (replicate k 97 ++ more)
letters_wholes zero s colon more w at n = w s.attr.name s.returned (sym (append-nil s.attr.name)) at n
letters_wholes (suc k) s colon more w at n =
    letters_wholes k (record s { attr = record s.attr { name = s.attr.name ++ 97 ∷ [] }; returned = false }) colon more
    (λ name returned e. w name returned (e ∙ append_assoc s.attr.name (97 ∷ []) (replicate k 97))) (at + 1) n

attr_by : (s : State) (colon b : Bool) → has_name s.attrs s.attr.name ≡ b → s.rooted ≡ true → Wholes (in_mode s (modes.AttrName colon)) (cond b (replicate (size s.attrs) 97) [] ++ (codes "=\"\"" ++ tag_end s))
attr_by s colon false e r = new_end s colon e r
attr_by s colon true e r =
    letters_wholes (size s.attrs) s colon (codes "=\"\"" ++ tag_end s)
    (λ name returned e. new_end (record s { attr = record s.attr { name = name }; returned = returned }) colon
    (longest s.attrs name (rw e (omega (arith, length-append s.attr.name (replicate (size s.attrs) 97), length-replicate {A = ℕ} (size s.attrs) 97)))) r)

attr_wholes : (s : State) (colon : Bool) → s.rooted ≡ true → Wholes (in_mode s (modes.AttrName colon)) (attr_end s s.attr.name)
attr_wholes s colon r = attr_by s colon (has_name s.attrs s.attr.name) refl r

-- ---- references

semicolon : (s : State) (amp : ℕ) (place : Within) (part : Reference) (c : ℕ) → refs.character part ≡ Some c → (is_inside s ≡ true → s.rooted ≡ true) → Around (is_inside s) s.rooted place → Wholes (in_mode s (modes.Reference amp place part)) (59 ∷ behind_reference s place)
semicolon s amp places.Content part c e r h =
    let t : State = in_mode s (modes.Reference amp places.Content part) in
    next t (states.add t modes.Inside (c ∷ []) false) 59 (elements_end s) (λ at. ap (automaton.reference_to t amp places.Content) e)
    (inside_wholes (record s { run = s.run ++ c ∷ []; returned = false }) r h)
semicolon s amp (places.Value q) part c e r h =
    let t : State = in_mode s (modes.Reference amp (places.Value q) part) in
    next t (states.add_to_value t q c false) 59 (quote q ∷ tag_end s) (λ at. ap (automaton.reference_to t amp (places.Value q)) e)
    (quote_end (record s { attr = record s.attr { value = s.attr.value ++ c ∷ [] }; returned = false }) q h)

-- numbers of storable characters
scalar_is : (n : ℕ) → (n < 0xd800) ⊎ (0x10000 ≤ n) → n ≤ 0x10ffff → (nat_lt n 0xd800 || (nat_le 0xe000 n && nat_lt n 0x110000)) ≡ true
scalar_is n (inl l) u = or_left (nat_lt n 0xd800) _ (lt-ltb n 0xd800 l)
scalar_is n (inr l) u = or_right (nat_lt n 0xd800) _ (and_from (nat_le 0xe000 n) _ (le-leb 0xe000 n (omega arith)) (lt-ltb n 0x110000 (omega arith)))

not_surrogate : (n : ℕ) → (n < 0xd800) ⊎ (0x10000 ≤ n) → 0xd800 ≤ n → n < 0x10000 → ⊥
not_surrogate n (inl l) low high = omega arith
not_surrogate n (inr l) low high = omega arith

pub storable_is : (n : ℕ) → 32 ≤ n → (n < 0xd800) ⊎ (0x10000 ≤ n) → n ≤ 0x10ffff → refs.storable n ≡ Some n
storable_is n l h u =
    let valid : utf.scalar n ≡ Some n = cond-true _ _ _ (scalar_is n h u) in
    let kept : is_storable_character n ≡ true =
    or_right ((n == 9) || (n == 10) || (n == 13)) _
    (and_from (nat_le 32 n && not (n == 0xfffe)) _
    (and_from (nat_le 32 n) _ (le-leb 32 n l) (not_from_false _ (ne_eqb n 0xfffe (λ e. not_surrogate n h (omega arith) (omega arith)))))
    (not_from_false _ (ne_eqb n 0xffff (λ e. not_surrogate n h (omega arith) (omega arith))))) in
    ap refs.kept valid ∙ cond-true _ _ _ kept

-- one more digit
pub grown_more : (made : ℕ → Reference) (base n d : ℕ) → n ≤ 0x10ffff → n * base + d ≤ 0x10ffff → refs.grown made base n (Some d) ≡ Some (made (n * base + d))
grown_more made base n d h k = cond-false (nat_lt 0x10ffff n) _ _ (le-ltb 0x10ffff n h) ∙ cond-false (nat_lt 0x10ffff (n * base + d)) _ _ (le-ltb 0x10ffff (n * base + d) k)

digit_wholes : (s : State) (amp : ℕ) (place : Within) (part longer : Reference) (b : ℕ) (bytes : List ℕ) → (b == 59) ≡ false → refs.extended part b ≡ Some longer → Wholes (in_mode (record s { returned = false }) (modes.Reference amp place longer)) bytes → Wholes (in_mode s (modes.Reference amp place part)) (b ∷ bytes)
digit_wholes s amp place part longer b bytes f e w =
    let t : State = in_mode s (modes.Reference amp place part) in
    next t (go t (modes.Reference amp place longer)) b bytes (λ at. cond-false (b == 59) _ _ f ∙ ap (automaton.reference_on t amp place) e) w

-- numbers to a base
pub record IsBase (made : ℕ → Reference) (base : ℕ) : Type 0 where
  pub five : (n : ℕ) → refs.extended (made n) 53 ≡ refs.grown made base n (Some 5)
  pub none : (n : ℕ) → refs.extended (made n) 48 ≡ refs.grown made base n (Some 0)
  pub is : (n : ℕ) → refs.character (made n) ≡ refs.storable n
  pub small : (n : ℕ) → n < 32 → (n * base + 5 ≤ 0x10ffff) × (32 ≤ (n * base + 5) * base + 0) × ((n * base + 5) * base + 0 < 0xd800)
  pub large : (n : ℕ) → 0xd800 ≤ n → n < 0x10000 → (0x10000 ≤ n * base + 0) × (n * base + 0 ≤ 0x10ffff)

pub decimals : IsBase ref.Decimal 10
decimals = record {
  five = λ n. refl;
  none = λ n. refl;
  is = λ n. refl;
  small = λ n h. (omega arith, omega arith, omega arith);
  large = λ n h k. (omega arith, omega arith);
}

pub hexadecimals : IsBase ref.Digits 16
hexadecimals = record {
  five = λ n. refl;
  none = λ n. refl;
  is = λ n. refl;
  small = λ n h. (omega arith, omega arith, omega arith);
  large = λ n h k. (omega arith, omega arith);
}

pub some_fault : (f : TextFault) → Some f ≡ None → ⊥
some_fault f e = cc

some_none : (n : ℕ) → Some n ≡ None → ⊥
some_none n e = cc

pub surrogate : (n : ℕ) → n ≤ 0x10ffff → 32 ≤ n → refs.storable n ≡ None → (0xd800 ≤ n) × (n < 0x10000)
surrogate n u l e =
    elim (cases_lt n 0xd800) [
      | inl low ↦ absurd (some_none n (sym (storable_is n l (inl low) u) ∙ e))
      | inr high ↦ elim (cases_lt n 0x10000) [
        | inl less ↦ (high, less)
        | inr more ↦ absurd (some_none n (sym (storable_is n l (inr more) u) ∙ e))
      ]
    ]

number_test : (made : ℕ → Reference) (base : ℕ) (s : State) (amp : ℕ) (place : Within) (n : ℕ) (b : Bool) → IsBase made base → n ≤ 0x10ffff → nat_lt n 32 ≡ b → refs.storable n ≡ None → (is_inside s ≡ true → s.rooted ≡ true) → Around (is_inside s) s.rooted place → Wholes (in_mode s (modes.Reference amp place (made n))) ((cond b (codes "50") (codes "0") ++ codes ";") ++ behind_reference s place)
number_test made base s amp place n true base' u e o r h =
    let few = base'.small n (ltb-true n 32 e) in
    let five : ℕ = n * base + 5 in
    digit_wholes s amp place (made n) (made five) 53 (48 ∷ 59 ∷ behind_reference s place) refl (base'.five n ∙ grown_more made base n 5 u few.0)
    (digit_wholes (record s { returned = false }) amp place (made five) (made (five * base + 0)) 48 (59 ∷ behind_reference s place) refl (base'.none five ∙ grown_more made base five 0 few.0 (omega (arith, few.2)))
    (semicolon (record s { returned = false }) amp place (made (five * base + 0)) (five * base + 0) (base'.is (five * base + 0) ∙ storable_is (five * base + 0) few.1 (inl few.2) (omega (arith, few.2))) r h))
number_test made base s amp place n false base' u e o r h =
    let between = surrogate n u (ltb-false n 32 e) o in
    let many = base'.large n between.0 between.1 in
    digit_wholes s amp place (made n) (made (n * base + 0)) 48 (59 ∷ behind_reference s place) refl (base'.none n ∙ grown_more made base n 0 u many.1)
    (semicolon (record s { returned = false }) amp place (made (n * base + 0)) (n * base + 0) (base'.is (n * base + 0) ∙ storable_is (n * base + 0) (omega (arith, many.0)) (inr many.0) many.1) r h)

number_by : (made : ℕ → Reference) (base : ℕ) (s : State) (amp : ℕ) (place : Within) (n : ℕ) (c : Option ℕ) → IsBase made base → n ≤ 0x10ffff → refs.storable n ≡ c → (is_inside s ≡ true → s.rooted ≡ true) → Around (is_inside s) s.rooted place → Wholes (in_mode s (modes.Reference amp place (made n))) ((digits n c ++ codes ";") ++ behind_reference s place)
number_by made base s amp place n (Some c) base' u e r h = semicolon s amp place (made n) c (base'.is n ∙ e) r h
number_by made base s amp place n None base' u e r h = number_test made base s amp place n (nat_lt n 32) base' u refl e r h

reference_wholes : (s : State) (amp : ℕ) (place : Within) (part : Reference) → (is_inside s ≡ true → s.rooted ≡ true) → Around (is_inside s) s.rooted place → Reachable part → Wholes (in_mode s (modes.Reference amp place part)) (reference_end part ++ behind_reference s place)
reference_wholes s amp place ref.Begun r h k at n = semicolon (record s { returned = false }) amp place ref.Lt 60 refl r h (at + 1 + 1) n
reference_wholes s amp place ref.A r h k at n = semicolon (record s { returned = false }) amp place ref.Amp 38 refl r h (at + 1 + 1) n
reference_wholes s amp place ref.Am r h k at n = semicolon (record s { returned = false }) amp place ref.Amp 38 refl r h (at + 1) n
reference_wholes s amp place ref.Amp r h k at n = semicolon s amp place ref.Amp 38 refl r h at n
reference_wholes s amp place ref.Ap r h k at n = semicolon (record s { returned = false }) amp place ref.Apos 39 refl r h (at + 1 + 1) n
reference_wholes s amp place ref.Apo r h k at n = semicolon (record s { returned = false }) amp place ref.Apos 39 refl r h (at + 1) n
reference_wholes s amp place ref.Apos r h k at n = semicolon s amp place ref.Apos 39 refl r h at n
reference_wholes s amp place ref.L r h k at n = semicolon (record s { returned = false }) amp place ref.Lt 60 refl r h (at + 1) n
reference_wholes s amp place ref.Lt r h k at n = semicolon s amp place ref.Lt 60 refl r h at n
reference_wholes s amp place ref.G r h k at n = semicolon (record s { returned = false }) amp place ref.Gt 62 refl r h (at + 1) n
reference_wholes s amp place ref.Gt r h k at n = semicolon s amp place ref.Gt 62 refl r h at n
reference_wholes s amp place ref.Q r h k at n = semicolon (record s { returned = false }) amp place ref.Quot 34 refl r h (at + 1 + 1 + 1) n
reference_wholes s amp place ref.Qu r h k at n = semicolon (record s { returned = false }) amp place ref.Quot 34 refl r h (at + 1 + 1) n
reference_wholes s amp place ref.Quo r h k at n = semicolon (record s { returned = false }) amp place ref.Quot 34 refl r h (at + 1) n
reference_wholes s amp place ref.Quot r h k at n = semicolon s amp place ref.Quot 34 refl r h at n
reference_wholes s amp place ref.Hash r h k at n = semicolon (record s { returned = false }) amp place (ref.Decimal 50) 50 refl r h (at + 1 + 1) n
reference_wholes s amp place (ref.Decimal m) r h k at n = number_by ref.Decimal 10 s amp place m (refs.storable m) decimals k refl r h at n
reference_wholes s amp place ref.Hexadecimal r h k at n = semicolon (record s { returned = false }) amp place (ref.Digits 80) 80 refl r h (at + 1 + 1) n
reference_wholes s amp place (ref.Digits m) r h k at n = number_by ref.Digits 16 s amp place m (refs.storable m) hexadecimals k refl r h at n

-- ---- each place between two characters

section_wholes : (s : State) (held : Brackets) → (is_inside s ≡ true → s.rooted ≡ true) → is_inside s ≡ true → Wholes (in_mode s (modes.Cdata held)) (section_end held ++ elements_end s)
section_wholes s brackets.None r i at n = inside_wholes (record s { returned = false }) r i (at + 1 + 1 + 1) n
section_wholes s brackets.One r i at n = inside_wholes (record s { returned = false }) r i (at + 1 + 1) n
section_wholes s brackets.Two r i at n = inside_wholes (record s { returned = false }) r i (at + 1) n

section_start : (s : State) (m : ℕ) → 1 ≤ m → m ≤ 6 → (is_inside s ≡ true → s.rooted ≡ true) → is_inside s ≡ true → Wholes (in_mode s (modes.CdataStart m)) (drop m (codes "[CDATA[") ++ (codes "]]>" ++ elements_end s))
section_start s zero l u r i at n = absurd (omega arith)
section_start s (suc zero) l u r i at n = section_wholes (record s { returned = false }) brackets.None r i (at + 1 + 1 + 1 + 1 + 1 + 1) n
section_start s (suc (suc zero)) l u r i at n = section_wholes (record s { returned = false }) brackets.None r i (at + 1 + 1 + 1 + 1 + 1) n
section_start s (suc (suc (suc zero))) l u r i at n = section_wholes (record s { returned = false }) brackets.None r i (at + 1 + 1 + 1 + 1) n
section_start s (suc (suc (suc (suc zero)))) l u r i at n = section_wholes (record s { returned = false }) brackets.None r i (at + 1 + 1 + 1) n
section_start s (suc (suc (suc (suc (suc zero))))) l u r i at n = section_wholes (record s { returned = false }) brackets.None r i (at + 1 + 1) n
section_start s (suc (suc (suc (suc (suc (suc zero)))))) l u r i at n = section_wholes (record s { returned = false }) brackets.None r i (at + 1) n
section_start s (suc (suc (suc (suc (suc (suc (suc m))))))) l u r i at n = absurd (omega arith)

-- behind the root
root_behind : (s : State) → is_inside s ≡ false → s.rooted ≡ true → Wholes (in_mode s (around s)) []
root_behind s i r at n =
    subst (λ (m : Mode). end_fault (in_mode s m) n ≡ None) (sym (outside_is s i)) (ap (λ (b : Bool). cond b None (Some (fault_at kinds.OpenTag n))) r)

less_by : (s : State) (less : ℕ) (inside rooted : Bool) → is_inside s ≡ inside → s.rooted ≡ rooted → (is_inside s ≡ true → s.rooted ≡ true) → Wholes (in_mode s (modes.Less less)) (cond inside (47 ∷ name_end s 0) (cond rooted (codes "!---->") (codes "a/>")))
less_by s less true rooted i e r at n = slash_wholes s less (end_tags (front s.elements)) i (r i) (all_ended (front s.elements)) at n
less_by s less false true i e r at n = root_behind (record s { returned = false }) i e (at + 1 + 1 + 1 + 1 + 1 + 1) n
less_by s less false false i e r at n = root_wholes s less i e at n

-- a place that more bytes can lead out of
abbrev pub IsOpen : Mode → Type 0
IsOpen (modes.Failed f) = ⊥
IsOpen (modes.Doctype less word_at matched) = ⊥
IsOpen _ = Unit {0}

between : (s : State) (m : Mode) → (is_inside s ≡ true → s.rooted ≡ true) → Stands (is_inside s) s.rooted m → IsOpen m → Wholes (in_mode s m) (completion_in s m)
between s modes.Start r h o at n =
    subst (λ (b : Bool). Wholes (in_mode s modes.Start) (cond b (end_tags s.elements) (codes "<a/>"))) (sym h.1)
    (λ at n. root_wholes (record s { returned = false }) at h.0 h.1 (at + 1) n) at n
between s modes.Outside r h o at n = outside_wholes s r h at n
between s modes.Inside r h o at n = inside_wholes s r h at n
between s (modes.Less less) r h o at n = less_by s less (is_inside s) s.rooted refl refl r at n
between s (modes.Bang less) r h o at n = around_wholes (record s { returned = false }) r (at + 1 + 1 + 1 + 1 + 1) n
between s modes.Dash r h o at n = around_wholes (record s { returned = false }) r (at + 1 + 1 + 1 + 1) n
between s modes.Comment r h o at n = around_wholes (record s { returned = false }) r (at + 1 + 1 + 1) n
between s modes.CommentDash r h o at n = around_wholes (record s { returned = false }) r (at + 1 + 1) n
between s modes.CommentDashes r h o at n = around_wholes (record s { returned = false }) r (at + 1) n
between s (modes.Doctype less word_at matched) r h o at n = absurd o
between s (modes.CdataStart matched) r h o at n = section_start s matched h.1 h.2 r h.0 at n
between s (modes.Cdata held) r h o at n = section_wholes s held r h at n
between s modes.Question r h o at n = around_wholes (record s { returned = false }) r (at + 1 + 1 + 1) n
between s (modes.Target colon) r h o at n = around_wholes (record s { returned = false }) r (at + 1 + 1) n
between s modes.Instruction r h o at n = around_wholes (record s { returned = false }) r (at + 1 + 1) n
between s modes.InstructionQuestion r h o at n = around_wholes (record s { returned = false }) r (at + 1) n
between s (modes.TagName colon) r h o at n = name_tag s colon h at n
between s modes.Tag r h o at n = blank_tag s h at n
between s (modes.AttrName colon) r h o at n = attr_wholes s colon h at n
between s modes.AfterName r h o at n = equals_end s h at n
between s modes.BeforeValue r h o at n = value_end s h at n
between s (modes.Value q) r h o at n = quote_end s q h at n
between s modes.AfterValue r h o at n = value_tag s h at n
between s modes.Slash r h o at n = slash_end s h at n
between s (modes.EndName less matched) r h o at n =
    name_wholes (drop matched (encode_utf8_all (named (innermost s.elements)))) s less matched (end_tags (front s.elements)) refl (r h) (all_ended (front s.elements)) at n
between s (modes.EndTail less) r h o at n =
    all_ended (front s.elements) (record s { elements = front s.elements; run_at = at + 1; returned = false }) (r h) refl (at + 1) n
between s (modes.Reference amp place part) r h o at n = reference_wholes s amp place part r h.0 h.1 at n
between s (modes.Failed f) r h o at n = absurd o

-- ---- behind a cut character

abbrev in_character : State → Mode → Partial → State
in_character s m p = record s { mode = m; partial = Some p; ready = ready.Nothing }

character_step : (s : State) (m : Mode) (p : Partial) (at b : ℕ) → Takes m → step (in_character s m p) at b ≡ automaton.partial (in_character s m p) m p at b
character_step s (modes.Reference amp place part) p at b t = absurd t
character_step s (modes.Doctype less word_at matched) p at b t = absurd t
character_step s (modes.EndName less matched) p at b t = absurd t
character_step s (modes.Failed f) p at b t = absurd t
character_step s _ p at b t = refl

one_element : {A : Type 0} (inside few rooted : Bool) (x y z w : A) → cond inside few (not rooted) ≡ true → cond inside (cond few x y) (cond rooted z x) ≡ x
one_element true true rooted x y z w e = refl
one_element true false rooted x y z w e = absurd (true≢false (sym e))
one_element false few true x y z w e = absurd (true≢false (sym e))
one_element false few false x y z w e = refl

-- what ends all behind a whole character
through : (s t : State) (bytes : List ℕ) → s ≡ t → Wholes (cleared (record t { partial = None })) bytes → Wholes (cleared (record s { partial = None })) bytes
through s t bytes e w = subst (λ (q : State). Wholes (cleared (record q { partial = None })) bytes) (sym e) w

whole_wholes : (s : State) (m : Mode) (p : Partial) (lead at c : ℕ) → automaton.admits s m ≡ true → automaton.is_unstorable c ≡ false → (is_inside s ≡ true → s.rooted ≡ true) → Stands (is_inside s) s.rooted m → Wholes (cleared (record (automaton.whole (in_character s m p) m lead at c) { partial = None })) (behind_character s m c)
whole_wholes s (modes.Less less) p lead at c a u r h =
    let t : State = in_character s (modes.Less less) p in
    through (automaton.whole t (modes.Less less) lead at c) (states.begin_tag t less c) (codes "/>" ++ end_tags s.elements)
    (cond-false (automaton.is_unstorable c) _ _ u ∙ one_element (is_inside s) (nat_lt (length s.elements) MAX_XMI_NESTING) s.rooted _ _ _ t a)
    (tag_begun (record s { mode = modes.Less less; ready = ready.Nothing }) s.run less c (codes "/>" ++ end_tags s.elements)
    (λ run. name_tag (record s { run = run; tag = c ∷ []; tag_at = less; attrs = []; rooted = true; returned = false }) false refl))
whole_wholes s modes.Inside p lead at c a u r h =
    let t : State = in_character s modes.Inside p in
    through (automaton.whole t modes.Inside lead at c) (states.add t modes.Inside (c ∷ []) false) (elements_end s) (cond-false (automaton.is_unstorable c) _ _ u)
    (inside_wholes (record s { run = s.run ++ c ∷ []; returned = false }) r h)
whole_wholes s (modes.Cdata held) p lead at c a u r h =
    let t : State = in_character s (modes.Cdata held) p in
    let run : List ℕ = states.brackets held ++ c ∷ [] in
    through (automaton.whole t (modes.Cdata held) lead at c) (states.add t states.cdata run false) (codes "]]>" ++ elements_end s) (cond-false (automaton.is_unstorable c) _ _ u)
    (section_wholes (record s { run = s.run ++ run; returned = false }) brackets.None r h)
whole_wholes s (modes.TagName colon) p lead at c a u r h =
    let t : State = in_character s (modes.TagName colon) p in
    through (automaton.whole t (modes.TagName colon) lead at c) (states.add_to_tag t colon c) (tag_end s) (cond-false (automaton.is_unstorable c) _ _ u)
    (name_tag (record s { tag = s.tag ++ c ∷ []; returned = false }) colon h)
whole_wholes s modes.Tag p lead at c a u r h =
    let t : State = in_character s modes.Tag p in
    through (automaton.whole t modes.Tag lead at c) (states.begin_attr t lead c) (attr_end s (c ∷ [])) (cond-false (automaton.is_unstorable c) _ _ u)
    (attr_wholes (record s { attr = record { name = c ∷ []; value = []; at = lead }; returned = false }) false h)
whole_wholes s (modes.AttrName colon) p lead at c a u r h =
    let t : State = in_character s (modes.AttrName colon) p in
    through (automaton.whole t (modes.AttrName colon) lead at c) (states.add_to_name t colon c) (attr_end s (s.attr.name ++ c ∷ [])) (cond-false (automaton.is_unstorable c) _ _ u)
    (attr_wholes (record s { attr = record s.attr { name = s.attr.name ++ c ∷ [] }; returned = false }) colon h)
whole_wholes s (modes.Value q) p lead at c a u r h =
    let t : State = in_character s (modes.Value q) p in
    through (automaton.whole t (modes.Value q) lead at c) (states.add_to_value t q c false) (quote q ∷ tag_end s) (cond-false (automaton.is_unstorable c) _ _ u)
    (quote_end (record s { attr = record s.attr { value = s.attr.value ++ c ∷ [] }; returned = false }) q h)
whole_wholes s modes.Comment p lead at c a u r h =
    let t : State = in_character s modes.Comment p in
    through (automaton.whole t modes.Comment lead at c) (go t modes.Comment) (codes "-->" ++ elements_end s) (cond-false (automaton.is_unstorable c) _ _ u) (between (record s { returned = false }) modes.Comment r tt tt)
whole_wholes s modes.CommentDash p lead at c a u r h =
    let t : State = in_character s modes.CommentDash p in
    through (automaton.whole t modes.CommentDash lead at c) (go t modes.Comment) (codes "-->" ++ elements_end s) (cond-false (automaton.is_unstorable c) _ _ u) (between (record s { returned = false }) modes.Comment r tt tt)
whole_wholes s modes.CommentDashes p lead at c a u r h =
    let t : State = in_character s modes.CommentDashes p in
    through (automaton.whole t modes.CommentDashes lead at c) (go t modes.Comment) (codes "-->" ++ elements_end s) (cond-false (automaton.is_unstorable c) _ _ u) (between (record s { returned = false }) modes.Comment r tt tt)
whole_wholes s modes.Question p lead at c a u r h =
    let t : State = in_character s modes.Question p in
    through (automaton.whole t modes.Question lead at c) (go t (modes.Target false)) (codes "?>" ++ elements_end s) (cond-false (automaton.is_unstorable c) _ _ u) (between (record s { returned = false }) (modes.Target false) r tt tt)
whole_wholes s (modes.Target colon) p lead at c a u r h =
    let t : State = in_character s (modes.Target colon) p in
    through (automaton.whole t (modes.Target colon) lead at c) (go t (modes.Target colon)) (codes "?>" ++ elements_end s) (cond-false (automaton.is_unstorable c) _ _ u) (between (record s { returned = false }) (modes.Target colon) r tt tt)
whole_wholes s modes.Instruction p lead at c a u r h =
    let t : State = in_character s modes.Instruction p in
    through (automaton.whole t modes.Instruction lead at c) (go t modes.Instruction) (codes "?>" ++ elements_end s) (cond-false (automaton.is_unstorable c) _ _ u) (between (record s { returned = false }) modes.Instruction r tt tt)
whole_wholes s modes.InstructionQuestion p lead at c a u r h =
    let t : State = in_character s modes.InstructionQuestion p in
    through (automaton.whole t modes.InstructionQuestion lead at c) (go t modes.Instruction) (codes "?>" ++ elements_end s) (cond-false (automaton.is_unstorable c) _ _ u) (between (record s { returned = false }) modes.Instruction r tt tt)
whole_wholes s _ p lead at c a u r h = absurd (true≢false (sym a))

-- ---- the end of a cut character

-- the least byte that may come
pub least_extended : (lead low high : ℕ) (rest : Rest) → low ≤ high → utf.extended (record { lead = lead; low = low; high = high; rest = rest }) low ≡ utf.added (record { lead = lead; low = low; high = high; rest = rest }) rest low
least_extended lead low high rest h = cond-false (nat_lt low low || nat_lt high low) _ _ (or_from (nat_lt low low) (nat_lt high low) (le-ltb low low (omega arith)) (le-ltb high low h))

-- the first character of 64
is_scalar : (n : ℕ) → (n < 0xd800) ⊎ (0xe000 ≤ n) → n < 0x110000 → utf.scalar n ≡ Some n
is_scalar n (inl l) u = cond-true _ _ _ (or_left (nat_lt n 0xd800) (nat_le 0xe000 n && nat_lt n 0x110000) (lt-ltb n 0xd800 l))
is_scalar n (inr l) u = cond-true _ _ _ (or_right (nat_lt n 0xd800) _ (and_from (nat_le 0xe000 n) _ (le-leb 0xe000 n l) (lt-ltb n 0x110000 u)))

beside : (bits n : ℕ) → n ≡ bits * 64 → (bits < 864) ⊎ (896 ≤ bits) → (n < 0xd800) ⊎ (0xe000 ≤ n)
beside bits n e (inl l) = inl (omega arith)
beside bits n e (inr l) = inr (omega arith)

is_storable : (n bits : ℕ) → n ≡ bits * 64 → automaton.is_unstorable n ≡ false
is_storable n bits e = or_from (n == 0xfffe) (n == 0xffff) (ne_eqb n 0xfffe (λ z. omega arith)) (ne_eqb n 0xffff (λ z. omega arith))

one_whole : (lead low high bits : ℕ) → Bits (rests.One bits) low high → utf.extended (record { lead = lead; low = low; high = high; rest = rests.One bits }) low ≡ growths.Whole (bits * 64 + low % 64)
one_whole lead low high bits h =
    let c : ℕ = bits * 64 + low % 64 in
    let l = h.3 in let u = h.4 in
    let round : c ≡ bits * 64 = omega (arith, l) in
    least_extended lead low high (rests.One bits) (omega (arith, l, u))
    ∙ cond-false (nat_lt 0x4fff bits) _ _ (le-ltb 0x4fff bits (omega (arith, h.1)))
    ∙ ap utf.found (is_scalar c (beside bits c round h.2) (omega (arith, round, h.1)))

one_wholes : (s : State) (m : Mode) (lead low high bits : ℕ) → Takes m → Bits (rests.One bits) low high → automaton.admits s m ≡ true → (is_inside s ≡ true → s.rooted ≡ true) → Stands (is_inside s) s.rooted m → Wholes (in_character s m (record { lead = lead; low = low; high = high; rest = rests.One bits })) (low ∷ behind_character s m (bits * 64 + low % 64))
one_wholes s m lead low high bits t b a r h =
    let p : Partial = record { lead = lead; low = low; high = high; rest = rests.One bits } in
    let c : ℕ = bits * 64 + low % 64 in
    let l = b.3 in
    let round : c ≡ bits * 64 = omega (arith, l) in
    following (in_character s m p) (λ at. record (automaton.whole (in_character s m p) m lead at c) { partial = None }) low (behind_character s m c)
    (λ at. character_step s m p at low t ∙ ap (automaton.partial_by (in_character s m p) m lead at) (one_whole lead low high bits b))
    (λ at n. whole_wholes s m p lead at c a (is_storable c bits round) r h (at + 1) n)

two_wholes : (s : State) (m : Mode) (lead low high bits : ℕ) → Takes m → Bits (rests.Two bits) low high → automaton.admits s m ≡ true → (is_inside s ≡ true → s.rooted ≡ true) → Stands (is_inside s) s.rooted m → Wholes (in_character s m (record { lead = lead; low = low; high = high; rest = rests.Two bits })) (low ∷ 0x80 ∷ behind_character s m ((bits * 64 + low % 64) * 64))
two_wholes s m lead low high bits t b a r h =
    let p : Partial = record { lead = lead; low = low; high = high; rest = rests.Two bits } in
    let more : ℕ = bits * 64 + low % 64 in
    let q : Partial = record { lead = lead; low = 0x80; high = 0xbf; rest = rests.One more } in
    let e : utf.extended p low ≡ growths.Partial q = least_extended lead low high (rests.Two bits) (omega (arith, b.2)) in
    let kept : Bits (rests.One more) 0x80 0xbf = subst Grown e (extended_grown p low b) in
    following (in_character s m p) (λ at. in_character s m q) low (0x80 ∷ behind_character s m (more * 64))
    (λ at. character_step s m p at low t ∙ ap (automaton.partial_by (in_character s m p) m lead at) e)
    (λ at n. subst (λ (c : ℕ). end_fault (state_from (at + 1) (in_character s m q) (0x80 ∷ behind_character s m c)) n ≡ None) (add-zero (more * 64)) (one_wholes s m lead 0x80 0xbf more t kept a r h (at + 1) n))

three_wholes : (s : State) (m : Mode) (lead low high bits : ℕ) → Takes m → Bits (rests.Three bits) low high → automaton.admits s m ≡ true → (is_inside s ≡ true → s.rooted ≡ true) → Stands (is_inside s) s.rooted m → Wholes (in_character s m (record { lead = lead; low = low; high = high; rest = rests.Three bits })) (low ∷ 0x80 ∷ 0x80 ∷ behind_character s m ((bits * 64 + low % 64) * 4096))
three_wholes s m lead low high bits t b a r h =
    let p : Partial = record { lead = lead; low = low; high = high; rest = rests.Three bits } in
    let more : ℕ = bits * 64 + low % 64 in
    let q : Partial = record { lead = lead; low = 0x80; high = 0xbf; rest = rests.Two more } in
    let e : utf.extended p low ≡ growths.Partial q = least_extended lead low high (rests.Three bits) (omega (arith, b.2)) in
    let kept : Bits (rests.Two more) 0x80 0xbf = subst Grown e (extended_grown p low b) in
    let same : (more * 64 + 0) * 64 ≡ more * 4096 = omega arith in
    following (in_character s m p) (λ at. in_character s m q) low (0x80 ∷ 0x80 ∷ behind_character s m (more * 4096))
    (λ at. character_step s m p at low t ∙ ap (automaton.partial_by (in_character s m p) m lead at) e)
    (λ at n. subst (λ (c : ℕ). end_fault (state_from (at + 1) (in_character s m q) (0x80 ∷ 0x80 ∷ behind_character s m c)) n ≡ None) same (two_wholes s m lead 0x80 0xbf more t kept a r h (at + 1) n))

character_wholes : (s : State) (m : Mode) (lead low high : ℕ) (rest : Rest) → Takes m → Bits rest low high → automaton.admits s m ≡ true → (is_inside s ≡ true → s.rooted ≡ true) → Stands (is_inside s) s.rooted m → Wholes (in_character s m (record { lead = lead; low = low; high = high; rest = rest })) (least_rest rest low ++ behind_character s m (least rest low))
character_wholes s m lead low high (rests.One bits) = one_wholes s m lead low high bits
character_wholes s m lead low high (rests.Two bits) = two_wholes s m lead low high bits
character_wholes s m lead low high (rests.Three bits) = three_wholes s m lead low high bits

-- ---- the law

-- the bytes are whole, or end too early
abbrev pub Open : Option TextFault → ℕ → Type 0
Open fault n = (fault ≡ None) ⊎ (fault ≡ Some (fault_at kinds.OpenTag n))

not_open : (f : TextFault) (n : ℕ) → NotOpen f.kind → Open (Some f) n → ⊥
not_open f n h (inl e) = some_fault f e
not_open f n h (inr e) = let same : f ≡ fault_at kinds.OpenTag n = cc in subst (λ (g : TextFault). NotOpen g.kind) same h

left_open : (b : Bool) (f : TextFault) (n : ℕ) → NotOpen f.kind → Open (Some (cond b (fault_at kinds.OpenTag n) f)) n → b ≡ true
left_open true f n h e = refl
left_open false f n h e = absurd (not_open f n h e)

-- a byte order mark
mark_two : (s : State) (lead : ℕ) → (is_inside s ≡ true → s.rooted ≡ true) → is_inside s ≡ false → Wholes (in_character s modes.Start (record { lead = lead; low = 128; high = 191; rest = rests.Two 15 })) (0xbb ∷ 0xbf ∷ elements_end s)
mark_two s lead r i at n = outside_wholes (record s { returned = false }) r i (at + 1 + 1) n

mark_one : (s : State) (lead : ℕ) → (is_inside s ≡ true → s.rooted ≡ true) → is_inside s ≡ false → Wholes (in_character s modes.Start (record { lead = lead; low = 128; high = 191; rest = rests.One 0x3fb })) (0xbf ∷ elements_end s)
mark_one s lead r i at n = outside_wholes (record s { returned = false }) r i (at + 1) n

mark_wholes : (s : State) (lead low high : ℕ) (rest : Rest) (n : ℕ) → Bits rest low high → (is_inside s ≡ true → s.rooted ≡ true) → is_inside s ≡ false → Open (Some (automaton.cut_start_by lead n rest)) n → Wholes (in_character s modes.Start (record { lead = lead; low = low; high = high; rest = rest })) (mark_rest rest ++ elements_end s)
mark_wholes s lead low high (rests.Two bits) n b r i o =
    let bytes : List ℕ = 0xbb ∷ 0xbf ∷ elements_end s in
    let e : bits ≡ 15 = eqb-true bits 15 (left_open (bits == 15) (fault_at kinds.BadMark lead) n tt o) in
    subst (λ (k : ℕ). Wholes (in_character s modes.Start (record { lead = lead; low = low; high = high; rest = rests.Two k })) bytes) (sym e)
    (subst (λ (k : ℕ). Wholes (in_character s modes.Start (record { lead = lead; low = k; high = high; rest = rests.Two 15 })) bytes) (sym (b.6 e))
    (subst (λ (k : ℕ). Wholes (in_character s modes.Start (record { lead = lead; low = 128; high = k; rest = rests.Two 15 })) bytes) (sym (b.7 e)) (mark_two s lead r i)))
mark_wholes s lead low high (rests.One bits) n b r i o =
    let bytes : List ℕ = 0xbf ∷ elements_end s in
    let f : TextFault = cond (within 0x3c0 0x3ff bits) (fault_at kinds.BadMark 1) (fault_at kinds.BadMark lead) in
    let e : bits ≡ 0x3fb = eqb-true bits 0x3fb (left_open (bits == 0x3fb) f n (cond_both (within 0x3c0 0x3ff bits) (fault_at kinds.BadMark 1) (fault_at kinds.BadMark lead) (λ (g : TextFault). NotOpen g.kind) (λ _. tt) (λ _. tt)) o) in
    subst (λ (k : ℕ). Wholes (in_character s modes.Start (record { lead = lead; low = low; high = high; rest = rests.One k })) bytes) (sym e)
    (subst (λ (k : ℕ). Wholes (in_character s modes.Start (record { lead = lead; low = k; high = high; rest = rests.One 0x3fb })) bytes) (sym b.3)
    (subst (λ (k : ℕ). Wholes (in_character s modes.Start (record { lead = lead; low = 128; high = k; rest = rests.One 0x3fb })) bytes) (sym b.4) (mark_one s lead r i)))
mark_wholes s lead low high (rests.Three bits) n b r i o = absurd (not_open (fault_at kinds.BadMark lead) n tt o)

completes : (s : State) (m : Mode) (c : Option Partial) (n : ℕ) → (is_inside s ≡ true → s.rooted ≡ true) → Stands (is_inside s) s.rooted m → Cut c m → Open (end_fault_by (record s { mode = m; partial = c; ready = ready.Nothing }) n m) n → Wholes (record s { mode = m; partial = c; ready = ready.Nothing }) (completion_by s m c)
completes s (modes.Failed f) c n r h k o = absurd (not_open f n h o)
completes s (modes.Doctype less word_at matched) c n r h k o = absurd (not_open (fault_at kinds.BadMark word_at) n tt o)
completes s modes.Start (Some p) n r h k o = mark_wholes s p.lead p.low p.high p.rest n k.1 r h.0 o
completes s modes.Start None n r h k o = between s modes.Start r h tt
completes s m None n r h k o = between s m r h tt
completes s m (Some p) n r h k o = character_wholes s m p.lead p.low p.high p.rest k.0 k.1 (left_open (automaton.admits s m) (fault_at kinds.BadMark p.lead) n tt o) r h

-- no mark waits behind the last byte
idle_same : (s : State) → s.ready ≡ ready.Nothing → record s { ready = ready.Nothing } ≡ s
idle_same s e = ap (λ (r : Ready). record s { ready = r }) (sym e)

pub completed : (bytes : List ℕ) → MayGoOn bytes → end_fault_of (bytes ++ completion (state_of bytes)) ≡ None
unfolding end_fault_of completion
completed bytes o =
    let s : State = state_of bytes in
    let more : List ℕ = completion s in
    let sound = sound_of bytes in
    let same = idle_same s (idle_of bytes) in
    let open' : Open (end_fault (record s { ready = ready.Nothing }) (length bytes)) (length bytes) = subst (λ (t : State). Open (end_fault t (length bytes)) (length bytes)) (sym same) o in
    let whole : Wholes s more = subst (λ (t : State). Wholes t more) same (completes s s.mode s.partial (length bytes) sound.rooted sound.stands sound.cut open') in
    ap (λ (t : State). end_fault t (length (bytes ++ more))) (state_of-append bytes more) ∙ whole (length bytes) (length (bytes ++ more))

-- Attributes and tags are stepped over.
use Rattle.std.proofs.Common.{◌≡◌, ℕ, ◌+◌, ◌<◌, ◌⊎◌, Bool, true, false, List, [], ◌∷◌, ◌++◌, length, take, refl, sym, ◌∙◌, ap, subst, arith, Option, None, Some, inl, inr, append_assoc, append-nil, length-append}
use Rattle.std.specs.Prelude.{◌==◌, ◌||◌, nat_lt, nat_eq, slice_get, if◌then◌else◌}
use Rattle.std.specs.List.{list_all}
use Rattle.std.specs.Cmp.Lexicographic.{pointwise}
use Rattle.std.proofs.lemmas.Bool.{or_cases, and_parts, eqb-true, true≢false, eq-eqb}
use Rattle.std.proofs.lemmas.Str.{encode_ascii, encodes-append}
use Rattle.std.proofs.lemmas.Option.{slice_get_past}
use lib.Utf8.{encode, encodes, scalars}
use lib.Utf8 as utf8
use Rattle.mof_metamodel.specs.Characters.{is_blank}
use Rattle.xmi_text.specs.declared.limits.TheConstants.{MAX_XMI_NESTING}
use Rattle.xmi_text.specs.ByteClass.{begins_name}
use Rattle.xmi_text.specs.AttrNames.{has_name, emptied}
use Rattle.xmi_text.specs.Names.{is_far, is_name, goes_on}
use Rattle.xmi_text.specs.States.{complete, cleared, around, is_inside, due}
use Rattle.xmi_text.specs.States as states
use Rattle.xmi_text.specs.Steps.{quote_byte}
use Rattle.xmi_text.specs.Steps as steps
use Rattle.xmi_text.specs.Automaton.{step, innermost, byte_of, wanted, end_name_by, name_behind, ascii, unstorable, is_unstorable}
use Rattle.xmi_text.specs.Places.{Timed, timed, attrs_at, data_at}
use Rattle.xmi_text.specs.Writing.{has}
use Rattle.xmi_text.specs.Markup.{Attribute, IsAttribute, AreAttributes, attribute_text, attributes_text, value_text, value_of, ValuePart, is_literal, is_part, starts, are_apart, Tag, IsTag, tag_text}
use Rattle.xmi_text.specs.declared.mark.Attr.{Attr}
use Rattle.xmi_text.specs.declared.mark.Mark.TheVariants as marks
use Rattle.xmi_text.specs.declared.utf_eight.Partial.{Partial}
use Rattle.xmi_text.specs.declared.state.State.{State}
use Rattle.xmi_text.specs.declared.state.Mode.{Mode}
use Rattle.xmi_text.specs.declared.state.Mode.TheVariants as modes
use Rattle.xmi_text.specs.declared.state.Quote.{Quote}
use Rattle.xmi_text.specs.declared.state.Quote.TheVariants.{Double, Single}
use Rattle.xmi_text.proofs.forward.Walks.{Walk, Walk-none, Walk-append, Walk-last, Walk-to}
use Rattle.xmi_text.proofs.forward.Encoded.{at_mode, within_character, behind_whole, if_true, if_false, Walk-over, over_character}
use Rattle.xmi_text.proofs.forward.Stepping.{quiet, other, one_character, Walk-characters, scalars-parts, blank_cases}
use Rattle.xmi_text.proofs.forward.NameSteps.{high_admitted, name_run, with_tag, tag_naming, with_name, attr_naming, blank_step, blank_run, blanks_run}
use Rattle.xmi_text.proofs.forward.Asides.{begins_low, begins_high}
use Rattle.xmi_text.proofs.forward.ValueSteps.{with_value, value_run}

-- ## sizes

pub size-append : (cs ds : List ℕ) → length (encodes (cs ++ ds)) ≡ length (encodes cs) + length (encodes ds)
size-append cs ds = ap length (encodes-append cs ds) ∙ length-append (encodes cs) (encodes ds)

pub size-cons : (c : ℕ) (cs : List ℕ) → length (encodes (c ∷ cs)) ≡ length (encode c) + length (encodes cs)
size-cons c cs = length-append (encode c) (encodes cs)

-- ## names of attributes

pub names_of : List Attr → List (List ℕ)
names_of [] = []
names_of (a ∷ attrs) = a.name ∷ names_of attrs

has_name-has : (attrs : List Attr) (name : List ℕ) → has_name attrs name ≡ has (names_of attrs) name
unfolding names_of
has_name-has [] name = refl
has_name-has (a ∷ attrs) name = ap (λ x. pointwise nat_eq a.name name || x) (has_name-has attrs name)

names_of-push : (attrs : List Attr) (a : Attr) → names_of (attrs ++ a ∷ []) ≡ names_of attrs ++ a.name ∷ []
unfolding names_of
names_of-push [] a = refl
names_of-push (x ∷ attrs) a = ap (λ ns. x.name ∷ ns) (names_of-push attrs a)

names_of-none : names_of [] ≡ []
unfolding names_of
names_of-none = refl

-- ## the parts of an attribute

-- behind a part of a tag: its name, an attribute, or a blank
pub data Place : Type 0 where
  Name : (colon : Bool) → Place
  Quoted : Place
  Blank : Place

abbrev pub mode_at : Place → Mode
mode_at (Name colon) = modes.TagName colon
mode_at Quoted = modes.AfterValue
mode_at Blank = modes.Tag

blank_part : (s : State) (place : Place) (at c : ℕ) → is_blank c ≡ true → Walk at (at_mode s (mode_at place) false) (encode c) [] (at_mode s modes.Tag false)
blank_part s (Name colon) at c e = blank_step s (modes.TagName colon) modes.Tag false tt (λ q. refl) (λ q. refl) (λ q. refl) (λ q. refl) at c e
blank_part s Quoted at c e = blank_step s modes.AfterValue modes.Tag false tt (λ q. refl) (λ q. refl) (λ q. refl) (λ q. refl) at c e
blank_part s Blank at c e = blank_step s modes.Tag modes.Tag false tt (λ q. refl) (λ q. refl) (λ q. refl) (λ q. refl) at c e

-- blanks before an attribute
before_walk : (at : ℕ) (s : State) (place : Place) (cs : List ℕ) → starts is_blank cs ≡ true → list_all is_blank cs ≡ true → Walk at (at_mode s (mode_at place) false) (encodes cs) [] (at_mode s modes.Tag false)
before_walk at s place [] f e = absurd (true≢false (sym f))
before_walk at s place (c ∷ cs) f e = blank_run s (mode_at place) modes.Tag false (blank_part s place) (blank_part s Blank) at c cs e

-- blanks at the end of a tag
pub behind_walk : (at : ℕ) (s : State) (place : Place) (cs : List ℕ) → list_all is_blank cs ≡ true → (p : Place) × Walk at (at_mode s (mode_at place) false) (encodes cs) [] (at_mode s (mode_at p) false)
behind_walk at s place [] e = (place, Walk-none at (at_mode s (mode_at place) false))
behind_walk at s place (c ∷ cs) e = (Blank, blank_run s (mode_at place) modes.Tag false (blank_part s place) (blank_part s Blank) at c cs e)

-- an attribute begins
abbrev pub begun : State → ℕ → List ℕ → State
begun s at cs = record s { attr = record { name = cs; value = []; at = at } }

first_of_name : (at : ℕ) (s : State) (c : ℕ) → utf8.scalar c ≡ true → (begins_name c || is_far c) ≡ true → Walk at (at_mode s modes.Tag false) (encode c) [] (at_mode (begun s at (c ∷ [])) (modes.AttrName false) false)
first_of_name at s c ok e =
    quiet at s modes.Tag false c (begun s at (c ∷ [])) (modes.AttrName false) false tt ok
    (λ l. if_true (begins_name c) _ _ (begins_low c e l))
    (λ l p last b. high_admitted s modes.Tag false p last c _ refl (begins_high c e l) (ap (λ q. at_mode (begun s q (c ∷ [])) (modes.AttrName false) false) b))

pub attr_name_walk : (at : ℕ) (s : State) (name : List ℕ) → scalars name ≡ true → is_name name ≡ true → (k : Bool) × Walk at (at_mode s modes.Tag false) (encodes name) [] (at_mode (begun s at name) (modes.AttrName k) false)
attr_name_walk at s [] ok e = absurd (true≢false (sym e))
attr_name_walk at s (c ∷ cs) ok e =
    let o = and_parts (utf8.scalar c) (scalars cs) ok in
    let p = and_parts (begins_name c || is_far c) (goes_on false cs) e in
    let more = name_run (λ k. modes.AttrName k) with_name attr_naming (at + length (encode c)) (begun s at (c ∷ [])) false cs o.1 p.1 in
    (more.0, Walk-append at _ _ _ (encode c) (encodes cs) [] [] (first_of_name at s c o.0 p.0) more.1)

-- before the `=`: behind the name or a blank
abbrev named_mode : Option Bool → Mode
named_mode (Some k) = modes.AttrName k
named_mode None = modes.AfterName

new_then : (s : State) (t u : State) → has_name s.attrs s.attr.name ≡ false → (if has_name s.attrs s.attr.name then t else u) ≡ u
new_then s t u e = if_false (has_name s.attrs s.attr.name) t u e

blank_named : (s : State) (k : Option Bool) → has_name s.attrs s.attr.name ≡ false → (at c : ℕ) → is_blank c ≡ true → Walk at (at_mode s (named_mode k) false) (encode c) [] (at_mode s modes.AfterName false)
blank_named s (Some k) f at c e = blank_step s (modes.AttrName k) modes.AfterName false tt (λ q. new_then s _ _ f) (λ q. new_then s _ _ f) (λ q. new_then s _ _ f) (λ q. new_then s _ _ f) at c e
blank_named s None f at c e = blank_step s modes.AfterName modes.AfterName false tt (λ q. refl) (λ q. refl) (λ q. refl) (λ q. refl) at c e

blanks_named : (at : ℕ) (s : State) (k : Bool) (cs : List ℕ) → has_name s.attrs s.attr.name ≡ false → list_all is_blank cs ≡ true → (p : Option Bool) × Walk at (at_mode s (modes.AttrName k) false) (encodes cs) [] (at_mode s (named_mode p) false)
blanks_named at s k [] f e = (Some k, Walk-none at (at_mode s (modes.AttrName k) false))
blanks_named at s k (c ∷ cs) f e = (None, blank_run s (modes.AttrName k) modes.AfterName false (blank_named s (Some k) f) (blank_named s None f) at c cs e)

equals_walk : (at : ℕ) (s : State) (p : Option Bool) → has_name s.attrs s.attr.name ≡ false → Walk at (at_mode s (named_mode p) false) (encode 61) [] (at_mode s modes.BeforeValue false)
equals_walk at s (Some k) f = quiet at s (modes.AttrName k) false 61 s modes.BeforeValue false tt refl (λ l. new_then s _ _ f) (λ l q last b. absurd (omega arith))
equals_walk at s None f = quiet at s modes.AfterName false 61 s modes.BeforeValue false tt refl (λ l. refl) (λ l q last b. absurd (omega arith))

blank_before_value : (s : State) (at c : ℕ) → is_blank c ≡ true → Walk at (at_mode s modes.BeforeValue false) (encode c) [] (at_mode s modes.BeforeValue false)
blank_before_value s at c e = blank_step s modes.BeforeValue modes.BeforeValue false tt (λ q. refl) (λ q. refl) (λ q. refl) (λ q. refl) at c e

quote_walk : (at : ℕ) (s : State) (q : Quote) → Walk at (at_mode s modes.BeforeValue false) (encode (quote_byte q)) [] (at_mode s (modes.Value q) false)
quote_walk at s Double = quiet at s modes.BeforeValue false 34 s (modes.Value Double) false tt refl (λ l. refl) (λ l p last b. absurd (omega arith))
quote_walk at s Single = quiet at s modes.BeforeValue false 39 s (modes.Value Single) false tt refl (λ l. refl) (λ l p last b. absurd (omega arith))

-- an attribute ends
abbrev pub with_attr : State → Attr → State
with_attr s a = record s { attrs = s.attrs ++ a ∷ []; attr = emptied a }

unquote_walk : (at : ℕ) (s : State) (q : Quote) (r : Bool) → Walk at (at_mode s (modes.Value q) r) (encode (quote_byte q)) [] (at_mode (with_attr s s.attr) modes.AfterValue false)
unquote_walk at s Double r = quiet at s (modes.Value Double) r 34 (with_attr s s.attr) modes.AfterValue false tt refl (λ l. refl) (λ l p last b. absurd (omega arith))
unquote_walk at s Single r = quiet at s (modes.Value Single) r 39 (with_attr s s.attr) modes.AfterValue false tt refl (λ l. refl) (λ l p last b. absurd (omega arith))

quote_of : (c : ℕ) → ((c == 34) || (c == 39)) ≡ true → (q : Quote) × (c ≡ quote_byte q)
quote_of c e = elim (or_cases (c == 34) (c == 39) e) [ inl x ↦ (Double, eqb-true c 34 x) | inr x ↦ (Single, eqb-true c 39 x) ]

-- behind the `=`
value_walk : (at : ℕ) (s : State) (q : Quote) (blanks : List ℕ) (parts : List ValuePart) → s.attr.value ≡ [] → scalars (value_text parts) ≡ true → list_all is_blank blanks ≡ true → list_all (is_part (quote_byte q)) parts ≡ true → are_apart is_literal parts ≡ true → Walk at (at_mode s modes.BeforeValue false) (encodes (blanks ++ (quote_byte q ∷ (value_text parts ++ quote_byte q ∷ [])))) [] (at_mode (with_attr s (record s.attr { value = value_of parts })) modes.AfterValue false)
value_walk at s q blanks parts none ok b e a =
    Walk-characters at _ _ _ blanks (quote_byte q ∷ (value_text parts ++ quote_byte q ∷ [])) [] [] (blanks_run s modes.BeforeValue (blank_before_value s) at blanks b)
    (λ p. Walk-append p _ _ _ (encode (quote_byte q)) (encodes (value_text parts ++ quote_byte q ∷ [])) [] [] (quote_walk p s q)
    (let l : ℕ = p + length (encode (quote_byte q)) in
    let v = value_run l s q false parts (λ x. refl) ok e a in
    Walk-to l _ _ _ _ _ _ (ap (λ x. at_mode (with_attr s (record s.attr { value = x ++ value_of parts })) modes.AfterValue false) none) refl
    (Walk-characters l _ _ _ (value_text parts) (quote_byte q ∷ []) [] [] v.1
    (λ m. Walk-append m _ _ _ (encode (quote_byte q)) [] [] [] (unquote_walk m (with_value s (value_of parts)) q v.0)
    (Walk-none (m + length (encode (quote_byte q))) (at_mode (with_attr s (record s.attr { value = s.attr.value ++ value_of parts })) modes.AfterValue false))))))

-- the attribute as it is kept
abbrev pub kept_attr : Attribute → ℕ → Attr
kept_attr a at = record { name = a.name; value = value_of a.value; at = at }

record Scalars (a : Attribute) : Type 0 where
  before : scalars a.before ≡ true
  name : scalars a.name ≡ true
  value : scalars (value_text a.value) ≡ true

attribute_scalars : (a : Attribute) → scalars (attribute_text a) ≡ true → Scalars a
attribute_scalars a e =
    let p = scalars-parts a.before (a.name ++ (a.behind_name ++ (61 ∷ (a.before_value ++ (a.quote ∷ (value_text a.value ++ a.quote ∷ [])))))) e in
    let q = scalars-parts a.name (a.behind_name ++ (61 ∷ (a.before_value ++ (a.quote ∷ (value_text a.value ++ a.quote ∷ []))))) p.1 in
    let r = scalars-parts a.behind_name (61 ∷ (a.before_value ++ (a.quote ∷ (value_text a.value ++ a.quote ∷ [])))) q.1 in
    let s = scalars-parts a.before_value (a.quote ∷ (value_text a.value ++ a.quote ∷ [])) r.1 in
    let t = and_parts (utf8.scalar a.quote) (scalars (value_text a.value ++ a.quote ∷ [])) s.1 in
    let u = scalars-parts (value_text a.value) (a.quote ∷ []) t.1 in
    record { before = p.0; name = q.0; value = u.0 }

attribute_walk : (at : ℕ) (s : State) (place : Place) (a : Attribute) → scalars (attribute_text a) ≡ true → IsAttribute a → has_name s.attrs a.name ≡ false → Walk at (at_mode s (mode_at place) false) (encodes (attribute_text a)) [] (at_mode (with_attr s (kept_attr a (at + length (encodes a.before)))) modes.AfterValue false)
attribute_walk at s place a ok e new =
    let o = attribute_scalars a ok in
    let name_at : ℕ = at + length (encodes a.before) in
    let n = attr_name_walk name_at s a.name o.name e.name in
    let s1 : State = begun s name_at a.name in
    let q = quote_of a.quote e.quote in
    let parts : list_all (is_part (quote_byte q.0)) a.value ≡ true = subst (λ c. list_all (is_part c) a.value ≡ true) q.1 e.value in
    Walk-over at _ _ _ _ [] (encodes-append a.before (a.name ++ (a.behind_name ++ (61 ∷ (a.before_value ++ (a.quote ∷ (value_text a.value ++ a.quote ∷ [])))))))
    (Walk-append at _ _ _ (encodes a.before) _ [] [] (before_walk at s place a.before e.parted e.before)
    (Walk-characters name_at _ _ _ a.name (a.behind_name ++ (61 ∷ (a.before_value ++ (a.quote ∷ (value_text a.value ++ a.quote ∷ []))))) [] [] n.1
    (λ k.
    let b = blanks_named k s1 n.0 a.behind_name new e.behind_name in
    Walk-characters k _ _ _ a.behind_name (61 ∷ (a.before_value ++ (a.quote ∷ (value_text a.value ++ a.quote ∷ [])))) [] [] b.1
    (λ l. Walk-append l _ _ _ (encode 61) (encodes (a.before_value ++ (a.quote ∷ (value_text a.value ++ a.quote ∷ [])))) [] [] (equals_walk l s1 b.0 new)
    (Walk-over (l + length (encode 61)) _ _ _ _ [] (ap (λ c. encodes (a.before_value ++ (c ∷ (value_text a.value ++ c ∷ [])))) q.1)
    (value_walk (l + length (encode 61)) s1 q.0 a.before_value a.value refl o.value e.before_value parts e.runs))))))

-- ## all attributes

pub record Attributes (at : ℕ) (s : State) (place : Place) (attributes : List Attribute) : Type 0 where
  pub last : Attr
  pub behind : Place
  pub walk : Walk at (at_mode s (mode_at place) false) (encodes (attributes_text attributes)) [] (at_mode (record s { attrs = s.attrs ++ attrs_at at attributes; attr = last }) (mode_at behind) false)

pub attributes_walk : (at : ℕ) (s : State) (place : Place) (names : List (List ℕ)) (attributes : List Attribute) → names_of s.attrs ≡ names → scalars (attributes_text attributes) ≡ true → AreAttributes names attributes → Attributes at s place attributes
attributes_walk at s place names [] n ok e = record {
  last = s.attr;
  behind = place;
  walk = Walk-to at _ _ _ _ _ _ (ap (λ x. at_mode (record s { attrs = x }) (mode_at place) false) (sym (append-nil s.attrs))) refl (Walk-none at (at_mode s (mode_at place) false));
}
attributes_walk at s place names (a ∷ attributes) n ok e =
    let o = scalars-parts (attribute_text a) (attributes_text attributes) ok in
    let new : has_name s.attrs a.name ≡ false = has_name-has s.attrs a.name ∙ ap (λ ns. has ns a.name) n ∙ e.1 in
    let one = attribute_walk at s place a o.0 e.0 new in
    let b : Attr = kept_attr a (at + length (encodes a.before)) in
    let l : ℕ = at + length (encodes (attribute_text a)) in
    let rest = attributes_walk l (with_attr s b) Quoted (names ++ a.name ∷ []) attributes (names_of-push s.attrs b ∙ ap (λ ns. ns ++ a.name ∷ []) n) o.1 e.2 in
    record {
      last = rest.last;
      behind = rest.behind;
      walk = Walk-over at _ _ _ _ [] (encodes-append (attribute_text a) (attributes_text attributes))
          (Walk-to at _ _ _ _ _ _ (ap (λ x. at_mode (record s { attrs = x; attr = rest.last }) (mode_at rest.behind) false) (append_assoc s.attrs (b ∷ []) (attrs_at l attributes))) refl
          (Walk-append at _ _ _ (encodes (attribute_text a)) (encodes (attributes_text attributes)) [] [] one rest.walk));
    }

-- ## start tags

-- an element may begin
abbrev pub Admits : State → Type 0
Admits s = ((is_inside s ≡ true) × (nat_lt (length s.elements) MAX_XMI_NESTING ≡ true)) ⊎ ((is_inside s ≡ false) × (s.rooted ≡ false))

admitted_element : (s : State) (place at c : ℕ) → Admits s → steps.begin_element s place at c ≡ states.begin_tag s place c
admitted_element s place at c a = elim a [
  | inl x ↦ if_true (is_inside s) _ _ x.0 ∙ if_true (nat_lt (length s.elements) MAX_XMI_NESTING) _ _ x.1
  | inr x ↦ if_false (is_inside s) _ _ x.0 ∙ if_false s.rooted _ _ x.1
]

abbrev tag_begun : State → ℕ → List ℕ → State
tag_begun s place cs = record s { run = []; tag = cs; tag_at = place; attrs = []; rooted = true }

abbrev pub whole_of : State → State
whole_of s = record s { partial = None }

begins_other : (c d : ℕ) → begins_name c ≡ true → begins_name d ≡ false → (c == d) ≡ false
begins_other c d e f = other c d (λ x. true≢false (sym (subst (λ q. begins_name q ≡ true) x e) ∙ f))

pub less_low : (s : State) (place at c : ℕ) → begins_name c ≡ true → ascii (at_mode s (modes.Less place) false) (modes.Less place) at c ≡ steps.begin_element (at_mode s (modes.Less place) false) place at c
less_low s place at c e =
    if_false (c == 33) _ _ (begins_other c 33 e refl) ∙ if_false (c == 63) _ _ (begins_other c 63 e refl) ∙ if_false (c == 47) _ _ (begins_other c 47 e refl) ∙ if_true (begins_name c) _ _ e

pub less_high : (s : State) (place : ℕ) (p : Partial) (last c : ℕ) → is_unstorable c ≡ false → behind_whole s (modes.Less place) false p last c ≡ whole_of (steps.begin_element (within_character s (modes.Less place) false p) place p.lead c)
less_high s place p last c f =
    let t : State = within_character s (modes.Less place) false p in
    ap whole_of (if_false (is_unstorable c) (unstorable t (modes.Less place) p.lead last) (steps.begin_element t place p.lead c) f)

-- the first character of a name behind `<`, where an element may begin
admitted_low : (s : State) (place at c : ℕ) → Admits s → begins_name c ≡ true → ascii (at_mode s (modes.Less place) false) (modes.Less place) at c ≡ states.begin_tag (at_mode s (modes.Less place) false) place c
admitted_low s place at c a e = less_low s place at c e ∙ admitted_element (at_mode s (modes.Less place) false) place at c a

admitted_high : (s : State) (place : ℕ) (p : Partial) (last c : ℕ) → Admits s → is_unstorable c ≡ false → behind_whole s (modes.Less place) false p last c ≡ states.begin_tag (at_mode s (modes.Less place) false) place c
admitted_high s place p last c a f = less_high s place p last c f ∙ ap whole_of (admitted_element (within_character s (modes.Less place) false p) place p.lead c a)

first_of_tag : (at place : ℕ) (s : State) (run : List ℕ) (c : ℕ) → utf8.scalar c ≡ true → (begins_name c || is_far c) ≡ true → Admits s → Walk at (at_mode (record s { run = run }) (modes.Less place) false) (encode c) (data_at s.run_at run (at + length (encode c))) (at_mode (tag_begun s place (c ∷ [])) (modes.TagName false) false)
first_of_tag at place s [] c ok e a =
    let s1 : State = record s { run = [] } in
    one_character at s1 (modes.Less place) false c (states.begin_tag (at_mode s1 (modes.Less place) false) place c) tt ok
    (λ l. admitted_low s1 place at c a (begins_low c e l)) (λ l p last b. admitted_high s1 place p last c a (begins_high c e l))
first_of_tag at place s (x ∷ run) c ok e a =
    let s1 : State = record s { run = x ∷ run } in
    one_character at s1 (modes.Less place) false c (states.begin_tag (at_mode s1 (modes.Less place) false) place c) tt ok
    (λ l. admitted_low s1 place at c a (begins_low c e l)) (λ l p last b. admitted_high s1 place p last c a (begins_high c e l))

tag_name_walk : (at place : ℕ) (s : State) (run name : List ℕ) → scalars name ≡ true → is_name name ≡ true → Admits s → (k : Bool) × Walk at (at_mode (record s { run = run }) (modes.Less place) false) (encodes name) (data_at s.run_at run (at + length (encodes (take 1 name)))) (at_mode (tag_begun s place name) (modes.TagName k) false)
tag_name_walk at place s run [] ok e a = absurd (true≢false (sym e))
tag_name_walk at place s run (c ∷ cs) ok e a =
    let o = and_parts (utf8.scalar c) (scalars cs) ok in
    let p = and_parts (begins_name c || is_far c) (goes_on false cs) e in
    let more = name_run (λ k. modes.TagName k) with_tag tag_naming (at + length (encode c)) (tag_begun s place (c ∷ [])) false cs o.1 p.1 in (
      more.0,
      Walk-to at _ _ _ _ _ _ refl
          (append-nil (data_at s.run_at run (at + length (encode c))) ∙ ap (λ (bytes : List ℕ). data_at s.run_at run (at + length bytes)) (sym (append-nil (encode c))))
          (Walk-append at _ _ _ (encode c) (encodes cs) (data_at s.run_at run (at + length (encode c))) [] (first_of_tag at place s run c o.0 p.0 a) more.1),
    )

-- a tag up to its end
pub record Tagged (at place : ℕ) (s : State) (run : List ℕ) (tag : Tag) : Type 0 where
  pub last : Attr
  pub behind : Place
  pub walk : Walk at (at_mode (record s { run = run }) (modes.Less place) false) (encodes (tag_text tag)) (data_at s.run_at run (at + length (encodes (take 1 tag.name)))) (at_mode (record s { run = []; tag = tag.name; tag_at = place; attrs = attrs_at (at + length (encodes tag.name)) tag.attributes; attr = last; rooted = true }) (mode_at behind) false)

pub tag_walk : (at place : ℕ) (s : State) (run : List ℕ) (tag : Tag) → scalars (tag_text tag) ≡ true → IsTag tag → Admits s → Tagged at place s run tag
tag_walk at place s run tag ok e a =
    let o = scalars-parts tag.name (attributes_text tag.attributes ++ tag.blanks) ok in
    let q = scalars-parts (attributes_text tag.attributes) tag.blanks o.1 in
    let n = tag_name_walk at place s run tag.name o.0 e.name a in
    let l : ℕ = at + length (encodes tag.name) in
    let all = attributes_walk l (tag_begun s place tag.name) (Name n.0) [] tag.attributes names_of-none q.0 e.attributes in
    let m : ℕ = l + length (encodes (attributes_text tag.attributes)) in
    let b = behind_walk m (record s { run = []; tag = tag.name; tag_at = place; attrs = attrs_at l tag.attributes; attr = all.last; rooted = true }) all.behind tag.blanks e.blanks in
    let ended : List Timed = data_at s.run_at run (at + length (encodes (take 1 tag.name))) in
    record {
      last = all.last;
      behind = b.0;
      walk = Walk-over at _ _ _ _ _ (encodes-append tag.name (attributes_text tag.attributes ++ tag.blanks))
          (Walk-to at _ _ _ _ _ _ refl (append-nil ended)
          (Walk-append at _ _ _ (encodes tag.name) _ ended [] n.1
          (Walk-over l _ _ _ _ [] (encodes-append (attributes_text tag.attributes) tag.blanks)
          (Walk-append l _ _ _ (encodes (attributes_text tag.attributes)) (encodes tag.blanks) [] [] all.walk b.1))));
    }

-- the end of a start tag
abbrev pub opened : State → ℕ → State
opened s at = record s { elements = s.elements ++ s.tag ∷ []; run_at = at + 1; tag = []; attrs = [] }

pub open_end : (at : ℕ) (s : State) (place : Place) → Walk at (at_mode s (mode_at place) false) (encode 62) (timed (at + length (encode 62)) (marks.Open s.tag s.attrs s.tag_at) ∷ []) (at_mode (opened s at) modes.Inside false)
open_end at s (Name k) = one_character at s (modes.TagName k) false 62 (states.open_tag (at_mode s (modes.TagName k) false) at) tt refl (λ l. refl) (λ l p last b. absurd (omega arith))
open_end at s Quoted = one_character at s modes.AfterValue false 62 (states.open_tag (at_mode s modes.AfterValue false) at) tt refl (λ l. refl) (λ l p last b. absurd (omega arith))
open_end at s Blank = one_character at s modes.Tag false 62 (states.open_tag (at_mode s modes.Tag false) at) tt refl (λ l. refl) (λ l p last b. absurd (omega arith))

-- the end of an empty element's tag
abbrev pub emptied_tag : State → ℕ → State
emptied_tag s at = record s { run_at = at + 1; tag = []; attrs = [] }

pub slash_walk : (at : ℕ) (s : State) (place : Place) → Walk at (at_mode s (mode_at place) false) (encode 47) [] (at_mode s modes.Slash false)
slash_walk at s (Name k) = quiet at s (modes.TagName k) false 47 s modes.Slash false tt refl (λ l. refl) (λ l p last b. absurd (omega arith))
slash_walk at s Quoted = quiet at s modes.AfterValue false 47 s modes.Slash false tt refl (λ l. refl) (λ l p last b. absurd (omega arith))
slash_walk at s Blank = quiet at s modes.Tag false 47 s modes.Slash false tt refl (λ l. refl) (λ l p last b. absurd (omega arith))

pub empty_end : (at : ℕ) (s : State) → Walk at (at_mode s modes.Slash false) (encode 62) (timed (at + length (encode 62)) (marks.Open s.tag s.attrs s.tag_at) ∷ timed (at + length (encode 62)) (marks.Close s.tag_at) ∷ []) (at_mode (emptied_tag s at) (around s) false)
empty_end at s = one_character at s modes.Slash false 62 (states.empty_tag (at_mode s modes.Slash false) at) tt refl (λ l. refl) (λ l p last b. absurd (omega arith))

-- ## end tags

-- behind `</`
slash_first : (at place : ℕ) (s : State) (run : List ℕ) → is_inside s ≡ true → Walk at (at_mode (record s { run = run }) (modes.Less place) false) (encode 47) (data_at s.run_at run (at + length (encode 47))) (at_mode (record s { run = [] }) (modes.EndName place 0) false)
slash_first at place s [] e =
    let s1 : State = record s { run = [] } in
    one_character at s1 (modes.Less place) false 47 (states.begin_end (at_mode s1 (modes.Less place) false) place) tt refl (λ l. if_true (is_inside s) _ _ e) (λ l p last b. absurd (omega arith))
slash_first at place s (x ∷ run) e =
    let s1 : State = record s { run = x ∷ run } in
    one_character at s1 (modes.Less place) false 47 (states.begin_end (at_mode s1 (modes.Less place) false) place) tt refl (λ l. if_true (is_inside s) _ _ e) (λ l p last b. absurd (omega arith))

pub get_seam : {A : Type 0} (xs : List A) (y : A) (ys : List A) → slice_get (xs ++ y ∷ ys) (length xs) ≡ Some y
get_seam [] y ys = refl
get_seam (x ∷ xs) y ys = get_seam xs y ys

-- the innermost element has the name
abbrev pub IsInnermost : State → List ℕ → Type 0
IsInnermost s name = innermost s.elements ≡ Some name

end_byte : (at place k b : ℕ) (s : State) (name : List ℕ) → IsInnermost s name → slice_get (encodes name) k ≡ Some b → Walk at (at_mode s (modes.EndName place k) false) (b ∷ []) [] (at_mode s (modes.EndName place (k + 1)) false)
end_byte at place k b s name i e =
    Walk-last at _ (at_mode s (modes.EndName place (k + 1)) false) b
    (ap (λ o. end_name_by (at_mode s (modes.EndName place k) false) place k at b (byte_of o k)) i
    ∙ ap (end_name_by (at_mode s (modes.EndName place k) false) place k at b) e
    ∙ if_true (b == b) _ _ (eq-eqb b b refl))

end_name_run : (at place : ℕ) (s : State) (name xs ys : List ℕ) → IsInnermost s name → xs ++ ys ≡ encodes name → Walk at (at_mode s (modes.EndName place (length xs)) false) ys [] (at_mode s (modes.EndName place (length (encodes name))) false)
end_name_run at place s name xs [] i e = Walk-to at _ _ _ _ _ _ (ap (λ bs. at_mode s (modes.EndName place (length bs)) false) (sym (append-nil xs) ∙ e)) refl (Walk-none at (at_mode s (modes.EndName place (length xs)) false))
end_name_run at place s name xs (y ∷ ys) i e =
    let one : slice_get (encodes name) (length xs) ≡ Some y = ap (λ bs. slice_get bs (length xs)) (sym e) ∙ get_seam xs y ys in
    Walk-append at _ _ _ (y ∷ []) ys [] []
    (Walk-to at _ _ _ _ _ _ (ap (λ n. at_mode s (modes.EndName place n) false) (sym (length-append xs (y ∷ [])))) refl (end_byte at place (length xs) y s name i one))
    (end_name_run (at + 1) place s name (xs ++ y ∷ []) ys i (append_assoc xs (y ∷ []) ys ∙ e))

-- behind the whole name: in it, or behind a blank
abbrev tail_mode : ℕ → ℕ → Bool → Mode
tail_mode place n blank = if blank then modes.EndTail place else modes.EndName place n

past : (s : State) (name : List ℕ) → IsInnermost s name → wanted s (length (encodes name)) ≡ None
past s name i = ap (λ o. byte_of o (length (encodes name))) i ∙ slice_get_past (encodes name) (length (encodes name)) (omega arith)

-- a byte behind the whole name
behind_name : (at place b : ℕ) (s : State) (name : List ℕ) → IsInnermost s name → step (at_mode s (modes.EndName place (length (encodes name))) false) at b ≡ name_behind (at_mode s (modes.EndName place (length (encodes name))) false) place at b
behind_name at place b s name i = ap (end_name_by (at_mode s (modes.EndName place (length (encodes name))) false) place (length (encodes name)) at b) (past s name i)

first_blank : (at place c : ℕ) (s : State) (name : List ℕ) → IsInnermost s name → is_blank c ≡ true → Walk at (at_mode s (modes.EndName place (length (encodes name))) false) (encode c) [] (at_mode s (modes.EndTail place) false)
first_blank at place c s name i e =
    let from : State = at_mode s (modes.EndName place (length (encodes name))) false in
    let one : (d : ℕ) → c ≡ d → d < 128 → name_behind from place at d ≡ at_mode s (modes.EndTail place) false → Walk at from (encode c) [] (at_mode s (modes.EndTail place) false) = λ d x l f.
    subst (λ q. Walk at from (encode q) [] (at_mode s (modes.EndTail place) false)) (sym x)
    (Walk-over at _ _ _ _ [] (encode_ascii d l) (Walk-last at from (at_mode s (modes.EndTail place) false) d (behind_name at place d s name i ∙ f))) in
    elim (blank_cases c e) [
      | inl x ↦ one 32 x (omega arith) refl
      | inr k ↦ elim k [
        | inl x ↦ one 9 x (omega arith) refl
        | inr l ↦ elim l [ inl x ↦ one 10 x (omega arith) refl | inr x ↦ one 13 x (omega arith) refl ]
      ]
    ]

blank_tail : (s : State) (place at c : ℕ) → is_blank c ≡ true → Walk at (at_mode s (modes.EndTail place) false) (encode c) [] (at_mode s (modes.EndTail place) false)
blank_tail s place at c e = blank_step s (modes.EndTail place) (modes.EndTail place) false tt (λ q. refl) (λ q. refl) (λ q. refl) (λ q. refl) at c e

tail_blanks : (at place : ℕ) (s : State) (name blanks : List ℕ) → IsInnermost s name → list_all is_blank blanks ≡ true → (k : Bool) × Walk at (at_mode s (modes.EndName place (length (encodes name))) false) (encodes blanks) [] (at_mode s (tail_mode place (length (encodes name)) k) false)
tail_blanks at place s name [] i e = (false, Walk-none at (at_mode s (modes.EndName place (length (encodes name))) false))
tail_blanks at place s name (c ∷ cs) i e =
    let p = and_parts (is_blank c) (list_all is_blank cs) e in
    (true, Walk-append at _ _ _ (encode c) (encodes cs) [] [] (first_blank at place c s name i p.0) (blanks_run s (modes.EndTail place) (blank_tail s place) (at + length (encode c)) cs p.1))

-- an element ends
abbrev pub closed : State → ℕ → State
closed s at = record s { elements = states.front s.elements; run_at = at + 1 }

tail_end : (at place : ℕ) (s : State) (name : List ℕ) (k : Bool) → IsInnermost s name → Walk at (at_mode s (tail_mode place (length (encodes name)) k) false) (encode 62) (timed (at + length (encode 62)) (marks.Close place) ∷ []) (at_mode (closed s at) (around (closed s at)) false)
tail_end at place s name true i = one_character at s (modes.EndTail place) false 62 (states.close_tag (at_mode s (modes.EndTail place) false) place at) tt refl (λ l. refl) (λ l p last b. absurd (omega arith))
tail_end at place s name false i =
    let from : State = at_mode s (modes.EndName place (length (encodes name))) false in
    over_character at _ _ (states.close_tag from place at) 62 _ (encode_ascii 62 (omega arith)) (omega arith) (Walk-last at from (states.close_tag from place at) 62 (behind_name at place 62 s name i))

-- from behind `<` to behind `>`
abbrev pub end_text : List ℕ → List ℕ → List ℕ
end_text name blanks = 47 ∷ (name ++ (blanks ++ 62 ∷ []))

abbrev pub end_marks : (at place from : ℕ) (run : List ℕ) (end : ℕ) → List Timed
end_marks at place from run end = data_at from run (at + length (encode 47)) ++ timed end (marks.Close place) ∷ []

pub record EndTagged (at : ℕ) (s : State) (run name blanks : List ℕ) (place : ℕ) : Type 0 where
  pub end_at : ℕ
  pub ends : end_at + length (encode 62) ≡ at + length (encodes (end_text name blanks))
  pub walk : Walk at (at_mode (record s { run = run }) (modes.Less place) false) (encodes (end_text name blanks)) (end_marks at place s.run_at run (end_at + length (encode 62))) (at_mode (closed (record s { run = [] }) end_at) (around (closed (record s { run = [] }) end_at)) false)

pub end_walk : (at place : ℕ) (s : State) (run name blanks : List ℕ) → is_inside s ≡ true → IsInnermost s name → list_all is_blank blanks ≡ true → EndTagged at s run name blanks place
end_walk at place s run name blanks inside i e =
    let s1 : State = record s { run = [] } in
    let l : ℕ = at + length (encode 47) in
    let m : ℕ = l + length (encodes name) in
    let b = tail_blanks m place s1 name blanks i e in
    let n : ℕ = m + length (encodes blanks) in
    let close : List Timed = timed (n + length (encode 62)) (marks.Close place) ∷ [] in
    record {
      end_at = n;
      ends = omega (arith, size-cons 47 (name ++ (blanks ++ 62 ∷ [])), size-append name (blanks ++ 62 ∷ []), size-append blanks (62 ∷ []), size-cons 62 []);
      walk = Walk-append at _ _ _ (encode 47) (encodes (name ++ (blanks ++ 62 ∷ []))) (data_at s.run_at run l) close (slash_first at place s run inside)
          (Walk-over l _ _ _ _ _ (encodes-append name (blanks ++ 62 ∷ []))
          (Walk-append l _ _ _ (encodes name) (encodes (blanks ++ 62 ∷ [])) [] close (end_name_run l place s1 name [] (encodes name) i refl)
          (Walk-over m _ _ _ _ _ (encodes-append blanks (62 ∷ []))
          (Walk-append m _ _ _ (encodes blanks) (encodes (62 ∷ [])) [] close b.1
          (Walk-append n _ _ _ (encode 62) [] close [] (tail_end n place s1 name b.0 i) (Walk-none (n + length (encode 62)) (at_mode (closed s1 n) (around (closed s1 n)) false)))))));
    }

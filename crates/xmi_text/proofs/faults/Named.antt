-- The open elements of a state have names.
use Rattle.std.proofs.Common.{◌≡◌, ℕ, zero, suc, ◌+◌, ◌*◌, ◌%◌, ◌-◌, ◌≤◌, ◌<◌, Bool, true, false, cond, List, [], ◌∷◌, ◌++◌, length, take, refl, sym, ◌∙◌, subst, arith, Option, Some, None, append_assoc, append-nil}
use Rattle.std.proofs.lemmas.Bool.{and_from, or_left, le-leb, ltb-true, cond-false}
use Rattle.std.specs.Prelude.{nat_lt, nat_le, ◌==◌, ◌&&◌, ◌||◌}
use lib.Utf8.{scalar, scalars, low_scalar}
use Rattle.xmi_text.specs.declared.limits.TheConstants.{MAX_XMI_NESTING}
use Rattle.xmi_text.specs.ByteClass.{within, is_blank, is_storable_byte, begins_name, continues_name, holds_in_name}
use Rattle.xmi_text.specs.Names.{is_far, is_name, goes_on}
use Rattle.xmi_text.specs.AttrNames.{has_name}
use Rattle.xmi_text.specs.UtfEight as utf
use Rattle.xmi_text.specs.References as refs
use Rattle.xmi_text.specs.States as states
use Rattle.xmi_text.specs.States.{start, is_inside, cleared, cleared_by, front}
use Rattle.xmi_text.specs.Steps as steps
use Rattle.xmi_text.specs.Automaton as automaton
use Rattle.xmi_text.specs.Automaton.{step, step_by, innermost, wanted}
use Rattle.xmi_text.specs.Reading.{state_from, state_of}
use Rattle.xmi_text.specs.declared.reference.Reference.{Reference}
use Rattle.xmi_text.specs.declared.utf_eight.Partial.{Partial}
use Rattle.xmi_text.specs.declared.utf_eight.Growth.{Growth}
use Rattle.xmi_text.specs.declared.utf_eight.Growth.TheVariants as growths
use Rattle.xmi_text.specs.declared.utf_eight.Rest.{Rest}
use Rattle.xmi_text.specs.declared.utf_eight.Rest.TheVariants as rests
use Rattle.xmi_text.specs.declared.state.State.{State}
use Rattle.xmi_text.specs.declared.state.Mode.{Mode}
use Rattle.xmi_text.specs.declared.state.Mode.TheVariants as modes
use Rattle.xmi_text.specs.declared.state.Quote.{Quote}
use Rattle.xmi_text.specs.declared.state.Within.{Within}
use Rattle.xmi_text.specs.declared.state.Within.TheVariants as places
use Rattle.xmi_text.specs.declared.state.Brackets.{Brackets}
use Rattle.xmi_text.specs.declared.state.Brackets.TheVariants as brackets
use Rattle.xmi_text.specs.declared.state.Ready.{Ready}
use Rattle.xmi_text.specs.declared.state.Ready.TheVariants as ready
use Rattle.xmi_text.proofs.completion.Sound.{Bits, Takes, Cut, IsSound, bits_of, sound_start, next_sound}
use Rattle.xmi_text.proofs.backward.Backsteps.{scalars_push}
use Rattle.xmi_text.proofs.backward.Backtags.{name_low}
use Rattle.xmi_text.proofs.backward.Backfar.{storable_far, far_goes, name_far}

-- a name, and its characters are characters
abbrev pub Good : List ℕ → Type 0
Good name = (is_name name ≡ true) × (scalars name ≡ true)

abbrev pub AllGood : List (List ℕ) → Type 0
AllGood [] = Unit {0}
AllGood (name ∷ names) = Good name × AllGood names

-- a name that may go on
record Grows (colon : Bool) (name : List ℕ) : Type 0 where
  longer : (letters : List ℕ) → goes_on colon letters ≡ true → is_name (name ++ letters) ≡ true
  scalars : scalars name ≡ true

-- no tag is complete
abbrev Quiet : Ready → Type 0
Quiet ready.Open = ⊥
Quiet ready.Empty = ⊥
Quiet _ = Unit {0}

-- the name of the tag in which a place stands
abbrev Titled : Mode → Ready → List ℕ → Type 0
Titled (modes.TagName colon) r name = Grows colon name × Quiet r
Titled modes.Tag r name = Good name × Quiet r
Titled (modes.AttrName colon) r name = Good name × Quiet r
Titled modes.AfterName r name = Good name × Quiet r
Titled modes.BeforeValue r name = Good name × Quiet r
Titled (modes.Value q) r name = Good name × Quiet r
Titled modes.AfterValue r name = Good name × Quiet r
Titled (modes.Reference amp (places.Value q) part) r name = Good name × Quiet r
Titled _ r name = Unit {0}

record AreNamed (mode : Mode) (ready : Ready) (name : List ℕ) (elements : List (List ℕ)) : Type 0 where
  title : Titled mode ready name
  names : AllGood elements

abbrev Named : State → Type 0
Named s = AreNamed s.mode s.ready s.tag s.elements

kept : (b : Bool) (x y : State) → (b ≡ true → Named x) → (b ≡ false → Named y) → Named (cond b x y)
kept true x y f g = f refl
kept false x y f g = g refl

same : (b : Bool) (x y : State) → Named x → Named y → Named (cond b x y)
same true x y p q = p
same false x y p q = q

around_named : (b : Bool) (r : Ready) (name : List ℕ) (elements : List (List ℕ)) → AllGood elements → AreNamed (cond b modes.Inside modes.Outside) r name elements
around_named true r name elements p = record { title = tt; names = p }
around_named false r name elements p = record { title = tt; names = p }

all_push : (names : List (List ℕ)) (name : List ℕ) → AllGood names → Good name → AllGood (names ++ name ∷ [])
all_push [] name p g = (g, tt)
all_push (x ∷ names) name p g = (p.0, all_push names name p.1 g)

all_take : (names : List (List ℕ)) (n : ℕ) → AllGood names → AllGood (take n names)
all_take [] zero p = tt
all_take [] (suc n) p = tt
all_take (x ∷ names) zero p = tt
all_take (x ∷ names) (suc n) p = (p.0, all_take names n p.1)

grown_good : (colon : Bool) (name : List ℕ) → Grows colon name → Good name
grown_good colon name g = (subst (λ (cs : List ℕ). is_name cs ≡ true) (append-nil name) (g.longer [] refl), g.scalars)

longer : (had colon : Bool) (name : List ℕ) (c : ℕ) → ((letters : List ℕ) → goes_on colon letters ≡ true → goes_on had (c ∷ letters) ≡ true) → scalar c ≡ true → Grows had name → Grows colon (name ++ c ∷ [])
longer had colon name c f ok g = record {
  longer = λ letters e. subst (λ (cs : List ℕ). is_name cs ≡ true) (sym (append_assoc name (c ∷ []) letters)) (g.longer (c ∷ letters) (f letters e));
  scalars = scalars_push name c g.scalars ok;
}

begun : (c : ℕ) → ((letters : List ℕ) → goes_on false letters ≡ true → is_name (c ∷ letters) ≡ true) → scalar c ≡ true → Grows false (c ∷ [])
begun c f ok = record { longer = f; scalars = and_from (scalar c) true ok refl }

low_goes : (had : Bool) (c : ℕ) → (c == 58) ≡ false → continues_name c ≡ true → (letters : List ℕ) → goes_on had letters ≡ true → goes_on had (c ∷ letters) ≡ true
low_goes had c n e letters g = cond-false (c == 58) _ _ n ∙ and_from (continues_name c || is_far c) (goes_on had letters) (or_left (continues_name c) (is_far c) e) g

ascii_scalar : (c : ℕ) → c < 128 → scalar c ≡ true
ascii_scalar c h = low_scalar c (omega arith)

-- ---- the bytes of each place

due_quiet : (run : List ℕ) → Quiet (states.due run)
due_quiet [] = tt
due_quiet (c ∷ run) = tt

tag_begun : (s : State) (less c : ℕ) → Grows false (c ∷ []) → AllGood s.elements → Named (states.begin_tag s less c)
tag_begun s less c g p = record { title = (g, due_quiet s.run); names = p }

element_named : (s : State) (less at c : ℕ) → Grows false (c ∷ []) → AllGood s.elements → Named (steps.begin_element s less at c)
element_named s less at c g p = same (is_inside s) _ _ (same (nat_lt (length s.elements) MAX_XMI_NESTING) _ _ (tag_begun s less c g p) (record { title = tt; names = p })) (same s.rooted _ _ (record { title = tt; names = p }) (tag_begun s less c g p))

outside_named : (s : State) (at b : ℕ) → AllGood s.elements → Named (steps.outside s at b)
outside_named s at b p = same (b == 60) _ _ (record { title = tt; names = p }) (same (is_blank b) _ _ (record { title = tt; names = p }) (record { title = tt; names = p }))

inside_named : (s : State) (at b : ℕ) → AllGood s.elements → Named (steps.inside s at b)
inside_named s at b p = same (b == 60) _ _ (record { title = tt; names = p }) (same (b == 38) _ _ (record { title = tt; names = p }) (same (b == 13) _ _ (record { title = tt; names = p }) (same ((b == 10) && s.returned) _ _ (record { title = tt; names = p }) (same (is_storable_byte b) _ _ (record { title = tt; names = p }) (record { title = tt; names = p })))))

less_named : (s : State) (place at b : ℕ) → b < 128 → AllGood s.elements → Named (steps.less s place at b)
less_named s place at b h p =
    same (b == 33) _ _ (record { title = tt; names = p })
    (same (b == 63) _ _ (record { title = tt; names = p })
    (same (b == 47) _ _ (same (is_inside s) _ _ (record { title = tt; names = p }) (record { title = tt; names = p }))
    (kept (begins_name b) _ _ (λ e. element_named s place at b (begun b (name_low b e) (ascii_scalar b h)) p) (λ _. record { title = tt; names = p }))))

bracket_named : (s : State) (held : Brackets) → AllGood s.elements → Named (steps.bracket s held)
bracket_named s brackets.None p = record { title = tt; names = p }
bracket_named s brackets.One p = record { title = tt; names = p }
bracket_named s brackets.Two p = record { title = tt; names = p }

cdata_named : (s : State) (held : Brackets) (at b : ℕ) → AllGood s.elements → Named (steps.cdata s held at b)
cdata_named s held at b p =
    same (b == 93) _ _ (bracket_named s held p)
    (same ((b == 62) && steps.are_two held) _ _ (record { title = tt; names = p }) (same (b == 13) _ _ (record { title = tt; names = p }) (same ((b == 10) && s.returned) _ _ (record { title = tt; names = p }) (same (is_storable_byte b) _ _ (record { title = tt; names = p }) (record { title = tt; names = p })))))

comment_named : (s : State) (next : Mode) (at b : ℕ) → Titled next s.ready s.tag → AllGood s.elements → Named (steps.comment s next at b)
comment_named s next at b g p = same (b == 45) _ _ (record { title = g; names = p }) (same (is_storable_byte b) _ _ (record { title = tt; names = p }) (record { title = tt; names = p }))

instruction_named : (s : State) (at b : ℕ) → AllGood s.elements → Named (steps.instruction s at b)
instruction_named s at b p = same (b == 63) _ _ (record { title = tt; names = p }) (same (is_storable_byte b) _ _ (record { title = tt; names = p }) (record { title = tt; names = p }))

target_named : (s : State) (had : Bool) (at b : ℕ) → AllGood s.elements → Named (steps.target s had at b)
target_named s had at b p = same (b == 58) _ _ (same had _ _ (record { title = tt; names = p }) (record { title = tt; names = p })) (same (continues_name b) _ _ (record { title = tt; names = p }) (instruction_named s at b p))

part_named : (s : State) (at b : ℕ) → Good s.tag × Quiet s.ready → AllGood s.elements → Named (steps.part s at b)
part_named s at b g p = same (b == 47) _ _ (record { title = tt; names = p }) (same (b == 62) _ _ (record { title = tt; names = all_push s.elements s.tag p g.0 }) (same (is_blank b) _ _ (record { title = g; names = p }) (record { title = tt; names = p })))

colon_named : (s : State) (had : Bool) (at : ℕ) → Grows had s.tag × Quiet s.ready → AllGood s.elements → Named (cond had (states.fail s Rattle.xmi_text.specs.declared.error.TextKind.TheVariants.BadName at) (states.add_to_tag s true 58))
colon_named s true at g p = record { title = tt; names = p }
colon_named s false at g p = record { title = (longer false true s.tag 58 (λ letters e. e) refl g.0, g.1); names = p }

tag_name_named : (s : State) (had : Bool) (at b : ℕ) → b < 128 → Grows had s.tag × Quiet s.ready → AllGood s.elements → Named (steps.tag_name s had at b)
tag_name_named s had at b h g p =
    kept (b == 58) _ _ (λ _. colon_named s had at g p)
    (λ n. kept (continues_name b) _ _ (λ e. record { title = (longer had had s.tag b (low_goes had b n e) (ascii_scalar b h) g.0, g.1); names = p }) (λ _. part_named s at b (grown_good had s.tag g.0, g.1) p))

equals_named : (s : State) (at b : ℕ) → Good s.tag × Quiet s.ready → AllGood s.elements → Named (steps.equals s at b)
equals_named s at b g p = same (b == 61) _ _ (record { title = g; names = p }) (same (is_blank b) _ _ (record { title = g; names = p }) (record { title = tt; names = p }))

attr_name_named : (s : State) (had : Bool) (at b : ℕ) → Good s.tag × Quiet s.ready → AllGood s.elements → Named (steps.attr_name s had at b)
attr_name_named s had at b g p =
    same (b == 58) _ _ (same had _ _ (record { title = tt; names = p }) (record { title = g; names = p })) (same (continues_name b) _ _ (record { title = g; names = p }) (same (has_name s.attrs s.attr.name) _ _ (record { title = tt; names = p }) (equals_named s at b g p)))

value_named : (s : State) (q : Quote) (at b : ℕ) → Good s.tag × Quiet s.ready → AllGood s.elements → Named (steps.value s q at b)
value_named s q at b g p =
    same (b == steps.quote_byte q) _ _ (record { title = g; names = p })
    (same (b == 60) _ _ (record { title = tt; names = p })
    (same (b == 38) _ _ (record { title = g; names = p })
    (same (b == 13) _ _ (record { title = g; names = p }) (same ((b == 10) && s.returned) _ _ (record { title = g; names = p }) (same ((b == 10) || (b == 9)) _ _ (record { title = g; names = p }) (same (is_storable_byte b) _ _ (record { title = g; names = p }) (record { title = tt; names = p })))))))

tail_named : (s : State) (less at b : ℕ) → AllGood s.elements → Named (steps.tail s less at b)
tail_named s less at b p =
    same (b == 62) _ _ (around_named (is_inside (states.left s)) (ready.Close less) s.tag (front s.elements) (all_take s.elements (length s.elements - 1) p)) (same (is_blank b) _ _ (record { title = tt; names = p }) (record { title = tt; names = p }))

reference_to_named : (s : State) (at : ℕ) (place : Within) (part : Reference) (c : Option ℕ) → Titled (modes.Reference at place part) s.ready s.tag → AllGood s.elements → Named (automaton.reference_to s at place c)
reference_to_named s at places.Content part None g p = record { title = tt; names = p }
reference_to_named s at (places.Value q) part None g p = record { title = tt; names = p }
reference_to_named s at places.Content part (Some c) g p = record { title = tt; names = p }
reference_to_named s at (places.Value q) part (Some c) g p = record { title = g; names = p }

reference_on_named : (s : State) (at : ℕ) (place : Within) (part : Reference) (next : Option Reference) → Titled (modes.Reference at place part) s.ready s.tag → AllGood s.elements → Named (automaton.reference_on s at place next)
reference_on_named s at places.Content part None g p = record { title = tt; names = p }
reference_on_named s at (places.Value q) part None g p = record { title = tt; names = p }
reference_on_named s at places.Content part (Some next) g p = record { title = tt; names = p }
reference_on_named s at (places.Value q) part (Some next) g p = record { title = g; names = p }

end_name_named : (s : State) (less matched at b : ℕ) (w : Option ℕ) → AllGood s.elements → Named (automaton.end_name_by s less matched at b w)
end_name_named s less matched at b None p = same (holds_in_name b) _ _ (record { title = tt; names = p }) (same (nat_lt b 128) _ _ (tail_named s less at b p) (record { title = tt; names = p }))
end_name_named s less matched at b (Some w) p = same (w == b) _ _ (record { title = tt; names = p }) (record { title = tt; names = p })

-- ---- characters of several bytes

abbrev IsCharacter : Growth → Type 0
IsCharacter growths.Broken = Unit {0}
IsCharacter (growths.Partial p) = Unit {0}
IsCharacter (growths.Whole c) = (128 ≤ c) × (scalar c ≡ true)

character : (b : Bool) (x y : Growth) → (b ≡ true → IsCharacter x) → (b ≡ false → IsCharacter y) → IsCharacter (cond b x y)
character true x y f g = f refl
character false x y f g = g refl

or_cond : (x y : Bool) → (x || y) ≡ cond x true y
or_cond true y = refl
or_cond false y = refl

found_character : (b : Bool) (c : ℕ) → 128 ≤ c → (b ≡ true → scalar c ≡ true) → IsCharacter (utf.found (cond b (Some c) None))
found_character true c h f = (h, f refl)
found_character false c h f = tt

added_character : (p : Partial) (rest : Rest) (b : ℕ) → Bits rest p.low p.high → IsCharacter (utf.added p rest b)
added_character p (rests.Three bits) b z = tt
added_character p (rests.Two bits) b z = tt
added_character p (rests.One bits) b z =
    let two = z.0 in
    let c : ℕ = bits * 64 + b % 64 in
    character (nat_lt 0x4fff bits) _ _ (λ _. tt)
    (λ _. found_character (nat_lt c 0xd800 || (nat_le 0xe000 c && nat_lt c 0x110000)) c (omega (arith, two)) (λ v. sym (or_cond (nat_lt c 0xd800) (nat_le 0xe000 c && nat_lt c 0x110000)) ∙ v))

extended_character : (p : Partial) (b : ℕ) → Bits p.rest p.low p.high → IsCharacter (utf.extended p b)
extended_character p b z = character (nat_lt b p.low || nat_lt p.high b) _ _ (λ _. tt) (λ _. added_character p p.rest b z)

admitted_named : (s : State) (m : Mode) (lead c : ℕ) → 128 ≤ c → is_far c ≡ true → scalar c ≡ true → Titled m s.ready s.tag → AllGood s.elements → Named (automaton.admitted s m lead c)
admitted_named s (modes.TagName colon) lead c h f ok g p = record { title = (longer colon colon s.tag c (far_goes colon c h f) ok g.0, g.1); names = p }
admitted_named s modes.Inside lead c h f ok g p = record { title = tt; names = p }
admitted_named s (modes.Cdata held) lead c h f ok g p = record { title = tt; names = p }
admitted_named s modes.Tag lead c h f ok g p = record { title = g; names = p }
admitted_named s (modes.AttrName colon) lead c h f ok g p = record { title = g; names = p }
admitted_named s (modes.Value q) lead c h f ok g p = record { title = g; names = p }
admitted_named s modes.Comment lead c h f ok g p = record { title = tt; names = p }
admitted_named s modes.CommentDash lead c h f ok g p = record { title = tt; names = p }
admitted_named s modes.CommentDashes lead c h f ok g p = record { title = tt; names = p }
admitted_named s modes.Question lead c h f ok g p = record { title = tt; names = p }
admitted_named s (modes.Target colon) lead c h f ok g p = record { title = tt; names = p }
admitted_named s modes.Instruction lead c h f ok g p = record { title = tt; names = p }
admitted_named s modes.InstructionQuestion lead c h f ok g p = record { title = tt; names = p }
admitted_named s _ lead c h f ok g p = record { title = tt; names = p }

is_far_from : (c : ℕ) → 128 ≤ c → automaton.is_unstorable c ≡ false → is_far c ≡ true
is_far_from c h u = and_from (nat_le 128 c) _ (le-leb 128 c h) (storable_far c h u)

whole_named : (s : State) (m : Mode) (lead at c : ℕ) → 128 ≤ c → scalar c ≡ true → Titled m s.ready s.tag → AllGood s.elements → Named (automaton.whole s m lead at c)
whole_named s modes.Start lead at c h ok g p = same (c == 0xfeff) _ _ (record { title = tt; names = p }) (same (within 0xfec0 0xfefe c) _ _ (record { title = tt; names = p }) (same (within 0xf000 0xffff c) _ _ (record { title = tt; names = p }) (record { title = tt; names = p })))
whole_named s (modes.Less less) lead at c h ok g p = kept (automaton.is_unstorable c) _ _ (λ _. record { title = tt; names = p }) (λ u. element_named s less lead c (begun c (name_far c (is_far_from c h u)) ok) p)
whole_named s m lead at c h ok g p = kept (automaton.is_unstorable c) _ _ (λ _. record { title = tt; names = p }) (λ u. admitted_named s m lead c h (is_far_from c h u) ok g p)

partial_named : (s : State) (m : Mode) (lead at : ℕ) (x : Growth) → s.mode ≡ m → Titled m s.ready s.tag → AllGood s.elements → IsCharacter x → Named (automaton.partial_by s m lead at x)
partial_named s m lead at growths.Broken e g p f = record { title = tt; names = p }
partial_named s m lead at (growths.Partial q) e g p f = record { title = subst (λ (k : Mode). Titled k s.ready s.tag) (sym e) g; names = p }
partial_named s m lead at (growths.Whole c) e g p f = whole_named s m lead at c f.0 f.1 g p

lead_on_named : (s : State) (at : ℕ) (o : Option Partial) → Titled s.mode s.ready s.tag → AllGood s.elements → Named (automaton.lead_on s at o)
lead_on_named s at None g p = record { title = tt; names = p }
lead_on_named s at (Some q) g p = record { title = g; names = p }

-- ---- one more byte

ascii_named : (s : State) (m : Mode) (at b : ℕ) → b < 128 → Titled m s.ready s.tag → AllGood s.elements → Named (automaton.ascii s m at b)
ascii_named s modes.Inside at b h g p = inside_named s at b p
ascii_named s (modes.Less place) at b h g p = less_named s place at b h p
ascii_named s (modes.Cdata held) at b h g p = cdata_named s held at b p
ascii_named s (modes.TagName colon) at b h g p = tag_name_named s colon at b h g p
ascii_named s modes.Tag at b h g p = same (begins_name b) _ _ (record { title = g; names = p }) (part_named s at b g p)
ascii_named s (modes.AttrName colon) at b h g p = attr_name_named s colon at b g p
ascii_named s (modes.Value q) at b h g p = value_named s q at b g p
ascii_named s modes.AfterValue at b h g p = part_named s at b g p
ascii_named s (modes.Bang place) at b h g p = same (b == 45) _ _ (record { title = tt; names = p }) (same ((b == 91) && is_inside s) _ _ (record { title = tt; names = p }) (same (b == 68) _ _ (record { title = tt; names = p }) (record { title = tt; names = p })))
ascii_named s modes.Dash at b h g p = same (b == 45) _ _ (record { title = tt; names = p }) (record { title = tt; names = p })
ascii_named s modes.Comment at b h g p = comment_named s modes.CommentDash at b tt p
ascii_named s modes.CommentDash at b h g p = comment_named s modes.CommentDashes at b tt p
ascii_named s modes.CommentDashes at b h g p = same (b == 62) _ _ (around_named (is_inside s) s.ready s.tag s.elements p) (comment_named s modes.CommentDashes at b tt p)
ascii_named s (modes.CdataStart matched) at b h g p = same _ _ _ (record { title = tt; names = p }) (same (nat_lt matched 6) _ _ (record { title = tt; names = p }) (record { title = tt; names = p }))
ascii_named s modes.Question at b h g p = same (begins_name b) _ _ (record { title = tt; names = p }) (record { title = tt; names = p })
ascii_named s (modes.Target colon) at b h g p = target_named s colon at b p
ascii_named s modes.Instruction at b h g p = instruction_named s at b p
ascii_named s modes.InstructionQuestion at b h g p = same (b == 62) _ _ (around_named (is_inside s) s.ready s.tag s.elements p) (instruction_named s at b p)
ascii_named s modes.AfterName at b h g p = equals_named s at b g p
ascii_named s modes.BeforeValue at b h g p = same (b == 34) _ _ (record { title = g; names = p }) (same (b == 39) _ _ (record { title = g; names = p }) (same (is_blank b) _ _ (record { title = g; names = p }) (record { title = tt; names = p })))
ascii_named s modes.Slash at b h g p = same (b == 62) _ _ (around_named (is_inside s) ready.Empty s.tag s.elements p) (record { title = tt; names = p })
ascii_named s (modes.EndTail place) at b h g p = tail_named s place at b p
ascii_named s _ at b h g p = outside_named s at b p

character_named : (s : State) (m : Mode) (at b : ℕ) (c : Option Partial) → s.mode ≡ m → Takes m → Cut c m → Titled m s.ready s.tag → AllGood s.elements → Named (automaton.character_by s m at b c)
character_named s m at b None e t z g p =
    kept (nat_lt b 128) _ _ (λ h. ascii_named s m at b (ltb-true b 128 h) g p)
    (λ _. same (automaton.ends_twin s m b) _ _ (record { title = tt; names = p }) (lead_on_named s at (utf.begun at b) (subst (λ (k : Mode). Titled k s.ready s.tag) (sym e) g) p))
character_named s m at b (Some q) e t z g p = partial_named s m q.lead at (utf.extended q b) e g p (extended_character q b (bits_of m q t z))

step_named : (s : State) (at b : ℕ) (m : Mode) → s.mode ≡ m → Cut s.partial m → Titled m s.ready s.tag → AllGood s.elements → Named (step_by s at b m)
step_named s at b (modes.Failed f) e z g p = record { title = subst (λ (k : Mode). Titled k s.ready s.tag) (sym e) tt; names = p }
step_named s at b (modes.Reference amp place part) e z g p = same (b == 59) _ _ (reference_to_named s amp place part (refs.character part) g p) (reference_on_named s amp place part (refs.extended part b) g p)
step_named s at b (modes.Doctype less word_at matched) e z g p = same _ _ _ (record { title = tt; names = p }) (same (nat_lt matched 6) _ _ (record { title = tt; names = p }) (record { title = tt; names = p }))
step_named s at b (modes.EndName less matched) e z g p = end_name_named s less matched at b (wanted s matched) p
step_named s at b m e z g p = character_named s m at b s.partial e tt z g p

-- ---- every state

-- behind the complete marks
quiet_title : (m : Mode) (r : Ready) (name : List ℕ) → Titled m r name → Titled m ready.Nothing name
quiet_title (modes.TagName colon) r name g = (g.0, tt)
quiet_title modes.Tag r name g = (g.0, tt)
quiet_title (modes.AttrName colon) r name g = (g.0, tt)
quiet_title modes.AfterName r name g = (g.0, tt)
quiet_title modes.BeforeValue r name g = (g.0, tt)
quiet_title (modes.Value q) r name g = (g.0, tt)
quiet_title modes.AfterValue r name g = (g.0, tt)
quiet_title (modes.Reference amp (places.Value q) part) r name g = (g.0, tt)
quiet_title (modes.Reference amp places.Content part) r name g = tt
quiet_title _ r name g = tt

no_title : (m : Mode) (r : Ready) (name : List ℕ) → (Quiet r → ⊥) → Titled m r name → Titled m ready.Nothing []
no_title (modes.TagName colon) r name h g = absurd (h g.1)
no_title modes.Tag r name h g = absurd (h g.1)
no_title (modes.AttrName colon) r name h g = absurd (h g.1)
no_title modes.AfterName r name h g = absurd (h g.1)
no_title modes.BeforeValue r name h g = absurd (h g.1)
no_title (modes.Value q) r name h g = absurd (h g.1)
no_title modes.AfterValue r name h g = absurd (h g.1)
no_title (modes.Reference amp (places.Value q) part) r name h g = absurd (h g.1)
no_title (modes.Reference amp places.Content part) r name h g = tt
no_title _ r name h g = tt

cleared_named : (s : State) (r : Ready) → AreNamed s.mode r s.tag s.elements → s.ready ≡ r → Named (cleared_by s r)
cleared_named s ready.Nothing p e = subst (λ (q : Ready). AreNamed s.mode q s.tag s.elements) (sym e) p
cleared_named s ready.Data p e = record { title = quiet_title s.mode ready.Data s.tag p.title; names = p.names }
cleared_named s ready.Open p e = record { title = no_title s.mode ready.Open s.tag (λ h. h) p.title; names = p.names }
cleared_named s ready.Empty p e = record { title = no_title s.mode ready.Empty s.tag (λ h. h) p.title; names = p.names }
cleared_named s (ready.Close at) p e = record { title = quiet_title s.mode (ready.Close at) s.tag p.title; names = p.names }

named_from : (at : ℕ) (s : State) (bytes : List ℕ) → IsSound s → Named s → Named (state_from at s bytes)
named_from at s [] z p = p
named_from at s (b ∷ bytes) z p =
    let t : State = step s at b in
    named_from (at + 1) (cleared t) bytes (next_sound s at b z) (cleared_named t t.ready (step_named s at b s.mode refl z.cut p.title p.names) refl)

pub names_of : (bytes : List ℕ) → AllGood (state_of bytes).elements
unfolding state_of
names_of bytes = (named_from 0 start bytes sound_start (record { title = tt; names = tt })).names

-- What holds of every state that bytes lead to.
use Rattle.std.proofs.Common.{◌≡◌, ℕ, ◌+◌, ◌*◌, ◌%◌, ◌-◌, ◌≤◌, ◌<◌, ◌⊎◌, Bool, true, false, cond, List, [], ◌∷◌, ◌++◌, length, refl, sym, subst, arith, Option, Some, None, length-append, inl, inr}
use Rattle.std.proofs.lemmas.Bool.{and_parts, or_parts, ltb-true, ltb-false, lt-ltb, eqb-false, leb-true, cases_order}
use Rattle.std.specs.Prelude.{nat_lt, nat_le, ◌==◌, ◌&&◌, ◌||◌, not}
use Rattle.xmi_text.specs.declared.limits.TheConstants.{MAX_XMI_NESTING}
use Rattle.xmi_text.specs.ByteClass.{within, is_storable_byte, is_blank, begins_name, continues_name, holds_in_name}
use Rattle.xmi_text.specs.AttrNames.{has_name}
use Rattle.xmi_text.specs.UtfEight as utf
use Rattle.xmi_text.specs.References as refs
use Rattle.xmi_text.specs.States as states
use Rattle.xmi_text.specs.States.{start, go, fail, is_inside, around, cleared, cleared_by}
use Rattle.xmi_text.specs.Steps as steps
use Rattle.xmi_text.specs.Automaton as automaton
use Rattle.xmi_text.specs.Automaton.{step, step_by}
use Rattle.xmi_text.specs.Reading.{state_from, state_of}
use Rattle.xmi_text.specs.declared.error.TextFault.{TextFault}
use Rattle.xmi_text.specs.declared.error.TextKind.{TextKind}
use Rattle.xmi_text.specs.declared.error.TextKind.TheVariants as kinds
use Rattle.xmi_text.specs.declared.reference.Reference.{Reference}
use Rattle.xmi_text.specs.declared.reference.Reference.TheVariants as ref
use Rattle.xmi_text.specs.declared.utf_eight.Partial.{Partial}
use Rattle.xmi_text.specs.declared.utf_eight.Rest.{Rest}
use Rattle.xmi_text.specs.declared.utf_eight.Rest.TheVariants as rests
use Rattle.xmi_text.specs.declared.utf_eight.Growth.{Growth}
use Rattle.xmi_text.specs.declared.utf_eight.Growth.TheVariants as growths
use Rattle.xmi_text.specs.declared.state.State.{State}
use Rattle.xmi_text.specs.declared.state.Mode.{Mode}
use Rattle.xmi_text.specs.declared.state.Mode.TheVariants as modes
use Rattle.xmi_text.specs.declared.state.Quote.{Quote}
use Rattle.xmi_text.specs.declared.state.Quote.TheVariants as quotes
use Rattle.xmi_text.specs.declared.state.Within.{Within}
use Rattle.xmi_text.specs.declared.state.Within.TheVariants as places
use Rattle.xmi_text.specs.declared.state.Brackets.{Brackets}
use Rattle.xmi_text.specs.declared.state.Brackets.TheVariants as brackets
use Rattle.xmi_text.specs.declared.state.Ready.{Ready}
use Rattle.xmi_text.specs.declared.state.Ready.TheVariants as ready

-- a number that is a character's, or becomes one by more digits
abbrev pub Reachable : Reference → Type 0
Reachable (ref.Decimal n) = n ≤ 0x10ffff
Reachable (ref.Digits n) = n ≤ 0x10ffff
Reachable _ = Unit {0}

-- no byte that is refused makes the fault of bytes that end too early
abbrev pub NotOpen : TextKind → Type 0
NotOpen kinds.OpenTag = ⊥
NotOpen _ = Unit {0}

abbrev pub Around : Bool → Bool → Within → Type 0
Around inside rooted places.Content = inside ≡ true
Around inside rooted (places.Value q) = rooted ≡ true

-- where elements are open, and where the root was begun
abbrev pub Stands : Bool → Bool → Mode → Type 0
Stands inside rooted modes.Start = (inside ≡ false) × (rooted ≡ false)
Stands inside rooted modes.Outside = inside ≡ false
Stands inside rooted modes.Inside = inside ≡ true
Stands inside rooted (modes.CdataStart matched) = (inside ≡ true) × (1 ≤ matched) × (matched ≤ 6)
Stands inside rooted (modes.Cdata held) = inside ≡ true
Stands inside rooted (modes.TagName colon) = rooted ≡ true
Stands inside rooted modes.Tag = rooted ≡ true
Stands inside rooted (modes.AttrName colon) = rooted ≡ true
Stands inside rooted modes.AfterName = rooted ≡ true
Stands inside rooted modes.BeforeValue = rooted ≡ true
Stands inside rooted (modes.Value q) = rooted ≡ true
Stands inside rooted modes.AfterValue = rooted ≡ true
Stands inside rooted modes.Slash = rooted ≡ true
Stands inside rooted (modes.EndName at matched) = inside ≡ true
Stands inside rooted (modes.EndTail at) = inside ≡ true
Stands inside rooted (modes.Reference at place part) = Around inside rooted place × Reachable part
Stands inside rooted (modes.Failed f) = NotOpen f.kind
Stands inside rooted _ = Unit {0}

-- the bits that have come, and the bytes that may come next
abbrev pub Bits : Rest → ℕ → ℕ → Type 0
Bits (rests.One bits) low high = (2 ≤ bits) × (bits ≤ 17407) × ((bits < 864) ⊎ (896 ≤ bits)) × (low ≡ 128) × (high ≡ 191)
Bits (rests.Two bits) low high = (bits ≤ 271) × (128 ≤ low) × (low ≤ high) × (high ≤ 191) × (bits ≡ 0 → 160 ≤ low) × (bits ≡ 13 → high ≤ 159) × (bits ≡ 15 → low ≡ 128) × (bits ≡ 15 → high ≡ 191)
Bits (rests.Three bits) low high = (bits ≤ 4) × (128 ≤ low) × (low ≤ high) × (high ≤ 191) × (bits ≡ 0 → 144 ≤ low) × (bits ≡ 4 → high ≤ 143)

-- a place where a byte is the next of a character
abbrev pub Takes : Mode → Type 0
Takes (modes.Reference at place part) = ⊥
Takes (modes.Doctype at word_at matched) = ⊥
Takes (modes.EndName at matched) = ⊥
Takes (modes.Failed f) = ⊥
Takes _ = Unit {0}

abbrev NotFailed : Mode → Type 0
NotFailed (modes.Failed f) = ⊥
NotFailed _ = Unit {0}

abbrev pub Cut : Option Partial → Mode → Type 0
Cut None mode = Unit {0}
Cut (Some p) (modes.Failed f) = Unit {0}
Cut (Some p) mode = Takes mode × Bits p.rest p.low p.high

pub record IsSound (s : State) : Type 0 where
  pub rooted : is_inside s ≡ true → s.rooted ≡ true
  pub stands : Stands (is_inside s) s.rooted s.mode
  pub cut : Cut s.partial s.mode

-- and no character is cut
record IsPlain (s : State) : Type 0 where
  pub rooted : is_inside s ≡ true → s.rooted ≡ true
  pub none : s.partial ≡ None

either : {x y : State} (b : Bool) → (b ≡ true → IsSound x) → (b ≡ false → IsSound y) → IsSound (cond b x y)
either true f g = f refl
either false f g = g refl

cut_none : (m : Mode) (p : Option Partial) → p ≡ None → Cut p m
cut_none m None e = tt
cut_none m (Some p) e = cc

cut_some : (m : Mode) (p : Partial) → Takes m → Bits p.rest p.low p.high → Cut (Some p) m
cut_some (modes.Failed f) p h b = tt
cut_some _ p h b = (h, b)

failed_cut : (p : Option Partial) (f : TextFault) → Cut p (modes.Failed f)
failed_cut None f = tt
failed_cut (Some p) f = tt

pub bits_of : (m : Mode) (p : Partial) → Takes m → Cut (Some p) m → Bits p.rest p.low p.high
bits_of (modes.Failed f) p t c = absurd t
bits_of _ p t c = c.1

uncut : (p : Option Partial) (m : Mode) → Cut p m → (Takes m → ⊥) → NotFailed m → p ≡ None
uncut None m c t n = refl
uncut (Some p) (modes.Failed f) c t n = absurd n
uncut (Some p) _ c t n = absurd (t c.0)

around_stands : (inside rooted : Bool) → Stands inside rooted (cond inside modes.Inside modes.Outside)
around_stands true rooted = refl
around_stands false rooted = refl

gone : (s : State) (m : Mode) → IsPlain s → Stands (is_inside s) s.rooted m → IsSound (go s m)
gone s m p h = record { rooted = p.rooted; stands = h; cut = cut_none m s.partial p.none }

failed : (s : State) (k : TextKind) (at : ℕ) → IsPlain s → NotOpen k → IsSound (fail s k at)
failed s k at p h = record { rooted = p.rooted; stands = h; cut = cut_none (modes.Failed (record { kind = k; at = at })) s.partial p.none }

added : (s : State) (m : Mode) (cs : List ℕ) (r : Bool) → IsPlain s → Stands (is_inside s) s.rooted m → IsSound (states.add s m cs r)
added s m cs r p h = record { rooted = p.rooted; stands = h; cut = cut_none m s.partial p.none }

valued : (s : State) (q : Quote) (c : ℕ) (r : Bool) → IsPlain s → s.rooted ≡ true → IsSound (states.add_to_value s q c r)
valued s q c r p h = record { rooted = p.rooted; stands = h; cut = cut_none (modes.Value q) s.partial p.none }

-- ---- the bytes of each place

outside_sound : (s : State) (at b : ℕ) → IsPlain s → is_inside s ≡ false → IsSound (steps.outside s at b)
outside_sound s at b p h = either (b == 60) (λ _. gone s (modes.Less at) p tt) (λ _. either (is_blank b) (λ _. gone s modes.Outside p h) (λ _. failed s kinds.BadMark at p tt))

inside_sound : (s : State) (at b : ℕ) → IsPlain s → is_inside s ≡ true → IsSound (steps.inside s at b)
inside_sound s at b p h =
    either (b == 60) (λ _. gone s (modes.Less at) p tt)
    (λ _. either (b == 38) (λ _. gone s (modes.Reference at places.Content ref.Begun) p (h, tt))
    (λ _. either (b == 13) (λ _. added s modes.Inside (10 ∷ []) true p h)
    (λ _. either ((b == 10) && s.returned) (λ _. gone s modes.Inside p h)
    (λ _. either (is_storable_byte b) (λ _. added s modes.Inside (b ∷ []) false p h) (λ _. failed s kinds.BadMark at p tt)))))

bracket_sound : (s : State) (held : Brackets) → IsPlain s → is_inside s ≡ true → IsSound (steps.bracket s held)
bracket_sound s brackets.None p h = gone s (modes.Cdata brackets.One) p h
bracket_sound s brackets.One p h = gone s (modes.Cdata brackets.Two) p h
bracket_sound s brackets.Two p h = added s (modes.Cdata brackets.Two) (93 ∷ []) false p h

cdata_sound : (s : State) (held : Brackets) (at b : ℕ) → IsPlain s → is_inside s ≡ true → IsSound (steps.cdata s held at b)
cdata_sound s held at b p h =
    either (b == 93) (λ _. bracket_sound s held p h)
    (λ _. either ((b == 62) && steps.are_two held) (λ _. gone s modes.Inside p h)
    (λ _. either (b == 13) (λ _. added s states.cdata (states.brackets held ++ 10 ∷ []) true p h)
    (λ _. either ((b == 10) && s.returned) (λ _. gone s states.cdata p h)
    (λ _. either (is_storable_byte b) (λ _. added s states.cdata (states.brackets held ++ b ∷ []) false p h) (λ _. failed s kinds.BadMark at p tt)))))

end_begun : (s : State) (less : ℕ) → IsPlain s → is_inside s ≡ true → IsSound (states.begin_end s less)
end_begun s less p h = record { rooted = p.rooted; stands = h; cut = cut_none (modes.EndName less 0) s.partial p.none }

tag_begun : (s : State) (less c : ℕ) → IsPlain s → IsSound (states.begin_tag s less c)
tag_begun s less c p = record { rooted = λ _. refl; stands = refl; cut = cut_none (modes.TagName false) s.partial p.none }

element_sound : (s : State) (less at c : ℕ) → IsPlain s → IsSound (steps.begin_element s less at c)
element_sound s less at c p =
    either (is_inside s)
    (λ _. either (nat_lt (length s.elements) MAX_XMI_NESTING) (λ _. tag_begun s less c p) (λ _. failed (record s { ready = states.due s.run }) kinds.Limit less (record { rooted = p.rooted; none = p.none }) tt))
    (λ _. either s.rooted (λ _. failed s kinds.BadMark at p tt) (λ _. tag_begun s less c p))

less_sound : (s : State) (place at b : ℕ) → IsPlain s → IsSound (steps.less s place at b)
less_sound s place at b p =
    either (b == 33) (λ _. gone s (modes.Bang place) p tt)
    (λ _. either (b == 63) (λ _. gone s modes.Question p tt)
    (λ _. either (b == 47) (λ _. either (is_inside s) (λ e. end_begun s place p e) (λ _. failed s kinds.BadMark at p tt))
    (λ _. either (begins_name b) (λ _. element_sound s place at b p) (λ _. failed s kinds.BadName at p tt))))

bang_sound : (s : State) (place at b : ℕ) → IsPlain s → IsSound (steps.bang s place at b)
bang_sound s place at b p =
    either (b == 45) (λ _. gone s modes.Dash p tt)
    (λ _. either ((b == 91) && is_inside s) (λ e. gone s (modes.CdataStart 1) p ((and_parts _ _ e).1, omega arith, omega arith))
    (λ _. either (b == 68) (λ _. gone s (modes.Doctype place at 1) p tt) (λ _. failed s kinds.BadMark at p tt)))

doctype_sound : (s : State) (place word_at matched b : ℕ) → IsPlain s → IsSound (steps.doctype s place word_at matched b)
doctype_sound s place word_at matched b p =
    either (not (steps.is_wanted (steps.doctype_byte matched) b)) (λ _. failed s kinds.BadMark word_at p tt)
    (λ _. either (nat_lt matched 6) (λ _. gone s (modes.Doctype place word_at (matched + 1)) p tt) (λ _. failed s kinds.Doctype place p tt))

cdata_start_sound : (s : State) (matched at b : ℕ) → IsPlain s → is_inside s ≡ true → IsSound (steps.cdata_start s matched at b)
cdata_start_sound s matched at b p h =
    either (not (steps.is_wanted (steps.cdata_byte matched) b)) (λ _. failed s kinds.BadMark at p tt)
    (λ _. either (nat_lt matched 6) (λ e. gone s (modes.CdataStart (matched + 1)) p (h, omega arith, omega (arith, ltb-true matched 6 e))) (λ _. gone s states.cdata p h))

passed_sound : (s : State) (m : Mode) (at b : ℕ) → IsPlain s → Stands (is_inside s) s.rooted m → IsSound (steps.passed s m at b)
passed_sound s m at b p h = either (is_storable_byte b) (λ _. gone s m p h) (λ _. failed s kinds.BadMark at p tt)

only_sound : (s : State) (wanted : ℕ) (m : Mode) (at b : ℕ) → IsPlain s → Stands (is_inside s) s.rooted m → IsSound (steps.only s wanted m at b)
only_sound s wanted m at b p h = either (b == wanted) (λ _. gone s m p h) (λ _. failed s kinds.BadMark at p tt)

comment_sound : (s : State) (dashed : Mode) (at b : ℕ) → IsPlain s → Stands (is_inside s) s.rooted dashed → IsSound (steps.comment s dashed at b)
comment_sound s dashed at b p h = either (b == 45) (λ _. gone s dashed p h) (λ _. passed_sound s modes.Comment at b p tt)

comment_end_sound : (s : State) (at b : ℕ) → IsPlain s → IsSound (steps.comment_end s at b)
comment_end_sound s at b p = either (b == 62) (λ _. gone s (around s) p (around_stands (is_inside s) s.rooted)) (λ _. comment_sound s modes.CommentDashes at b p tt)

question_sound : (s : State) (at b : ℕ) → IsPlain s → IsSound (steps.question s at b)
question_sound s at b p = either (begins_name b) (λ _. gone s (modes.Target false) p tt) (λ _. failed s kinds.BadName at p tt)

instruction_sound : (s : State) (at b : ℕ) → IsPlain s → IsSound (steps.instruction s at b)
instruction_sound s at b p = either (b == 63) (λ _. gone s modes.InstructionQuestion p tt) (λ _. passed_sound s modes.Instruction at b p tt)

instruction_end_sound : (s : State) (at b : ℕ) → IsPlain s → IsSound (steps.instruction_end s at b)
instruction_end_sound s at b p = either (b == 62) (λ _. gone s (around s) p (around_stands (is_inside s) s.rooted)) (λ _. instruction_sound s at b p)

target_sound : (s : State) (had : Bool) (at b : ℕ) → IsPlain s → IsSound (steps.target s had at b)
target_sound s had at b p =
    either (b == 58) (λ _. either had (λ _. failed s kinds.BadName at p tt) (λ _. gone s (modes.Target true) p tt))
    (λ _. either (continues_name b) (λ _. gone s (modes.Target had) p tt) (λ _. instruction_sound s at b p))

opened : (s : State) (at : ℕ) → IsPlain s → s.rooted ≡ true → IsSound (states.open_tag s at)
opened s at p h = record {
  rooted = λ _. h;
  stands = lt-ltb 0 (length (s.elements ++ s.tag ∷ [])) (omega (arith, length-append s.elements (s.tag ∷ [])));
  cut = cut_none modes.Inside s.partial p.none;
}

emptied : (s : State) (at : ℕ) → IsPlain s → IsSound (states.empty_tag s at)
emptied s at p = record { rooted = p.rooted; stands = around_stands (is_inside s) s.rooted; cut = cut_none (around s) s.partial p.none }

closed : (s : State) (less at : ℕ) → IsPlain s → is_inside s ≡ true → IsSound (states.close_tag s less at)
closed s less at p h = record {
  rooted = λ _. p.rooted h;
  stands = around_stands (is_inside (states.left s)) s.rooted;
  cut = cut_none (around (states.left s)) s.partial p.none;
}

part_sound : (s : State) (at b : ℕ) → IsPlain s → s.rooted ≡ true → IsSound (steps.part s at b)
part_sound s at b p h =
    either (b == 47) (λ _. gone s modes.Slash p h)
    (λ _. either (b == 62) (λ _. opened s at p h)
    (λ _. either (is_blank b) (λ _. gone s modes.Tag p h) (λ _. failed s kinds.BadMark at p tt)))

tag_longer : (s : State) (colon : Bool) (c : ℕ) → IsPlain s → s.rooted ≡ true → IsSound (states.add_to_tag s colon c)
tag_longer s colon c p h = record { rooted = p.rooted; stands = h; cut = cut_none (modes.TagName colon) s.partial p.none }

tag_name_sound : (s : State) (had : Bool) (at b : ℕ) → IsPlain s → s.rooted ≡ true → IsSound (steps.tag_name s had at b)
tag_name_sound s had at b p h =
    either (b == 58) (λ _. either had (λ _. failed s kinds.BadName at p tt) (λ _. tag_longer s true 58 p h))
    (λ _. either (continues_name b) (λ _. tag_longer s had b p h) (λ _. part_sound s at b p h))

attr_begun : (s : State) (at c : ℕ) → IsPlain s → s.rooted ≡ true → IsSound (states.begin_attr s at c)
attr_begun s at c p h = record { rooted = p.rooted; stands = h; cut = cut_none (modes.AttrName false) s.partial p.none }

tag_sound : (s : State) (at b : ℕ) → IsPlain s → s.rooted ≡ true → IsSound (steps.tag s at b)
tag_sound s at b p h = either (begins_name b) (λ _. attr_begun s at b p h) (λ _. part_sound s at b p h)

equals_sound : (s : State) (at b : ℕ) → IsPlain s → s.rooted ≡ true → IsSound (steps.equals s at b)
equals_sound s at b p h = either (b == 61) (λ _. gone s modes.BeforeValue p h) (λ _. either (is_blank b) (λ _. gone s modes.AfterName p h) (λ _. failed s kinds.BadMark at p tt))

name_end_sound : (s : State) (at b : ℕ) → IsPlain s → s.rooted ≡ true → IsSound (steps.name_end s at b)
name_end_sound s at b p h = either (has_name s.attrs s.attr.name) (λ _. failed s kinds.DuplicateAttribute s.attr.at p tt) (λ _. equals_sound s at b p h)

name_longer : (s : State) (colon : Bool) (c : ℕ) → IsPlain s → s.rooted ≡ true → IsSound (states.add_to_name s colon c)
name_longer s colon c p h = record { rooted = p.rooted; stands = h; cut = cut_none (modes.AttrName colon) s.partial p.none }

attr_name_sound : (s : State) (had : Bool) (at b : ℕ) → IsPlain s → s.rooted ≡ true → IsSound (steps.attr_name s had at b)
attr_name_sound s had at b p h =
    either (b == 58) (λ _. either had (λ _. failed s kinds.BadName at p tt) (λ _. name_longer s true 58 p h))
    (λ _. either (continues_name b) (λ _. name_longer s had b p h) (λ _. name_end_sound s at b p h))

before_value_sound : (s : State) (at b : ℕ) → IsPlain s → s.rooted ≡ true → IsSound (steps.before_value s at b)
before_value_sound s at b p h =
    either (b == 34) (λ _. gone s (modes.Value quotes.Double) p h)
    (λ _. either (b == 39) (λ _. gone s (modes.Value quotes.Single) p h)
    (λ _. either (is_blank b) (λ _. gone s modes.BeforeValue p h) (λ _. failed s kinds.BadMark at p tt)))

value_sound : (s : State) (q : Quote) (at b : ℕ) → IsPlain s → s.rooted ≡ true → IsSound (steps.value s q at b)
value_sound s q at b p h =
    either (b == steps.quote_byte q) (λ _. record { rooted = p.rooted; stands = h; cut = cut_none modes.AfterValue s.partial p.none })
    (λ _. either (b == 60) (λ _. failed s kinds.BadMark at p tt)
    (λ _. either (b == 38) (λ _. gone s (modes.Reference at (places.Value q) ref.Begun) p (h, tt))
    (λ _. either (b == 13) (λ _. valued s q 32 true p h)
    (λ _. either ((b == 10) && s.returned) (λ _. gone s (modes.Value q) p h)
    (λ _. either ((b == 10) || (b == 9)) (λ _. valued s q 32 false p h)
    (λ _. either (is_storable_byte b) (λ _. valued s q b false p h) (λ _. failed s kinds.BadMark at p tt)))))))

slash_sound : (s : State) (at b : ℕ) → IsPlain s → IsSound (steps.slash s at b)
slash_sound s at b p = either (b == 62) (λ _. emptied s at p) (λ _. failed s kinds.BadMark at p tt)

tail_sound : (s : State) (place at b : ℕ) → IsPlain s → is_inside s ≡ true → IsSound (steps.tail s place at b)
tail_sound s place at b p h =
    either (b == 62) (λ _. closed s place at p h)
    (λ _. either (is_blank b) (λ _. gone s (modes.EndTail place) p h) (λ _. failed s kinds.BadMark at p tt))

-- ---- references and end tags

abbrev pub Grows : Option Reference → Type 0
Grows None = Unit {0}
Grows (Some part) = Reachable part

grows : (b : Bool) (x y : Option Reference) → (b ≡ true → Grows x) → (b ≡ false → Grows y) → Grows (cond b x y)
grows true x y f g = f refl
grows false x y f g = g refl

reachable_grows : (made : ℕ → Reference) (n : ℕ) → (n ≤ 0x10ffff → Reachable (made n)) → Grows (refs.reachable made n)
reachable_grows made n h = grows (nat_lt 0x10ffff n) _ _ (λ _. tt) (λ e. h (ltb-false 0x10ffff n e))

grown_grows : (made : ℕ → Reference) (base value : ℕ) (d : Option ℕ) → ((n : ℕ) → n ≤ 0x10ffff → Reachable (made n)) → Grows (refs.grown made base value d)
grown_grows made base value None h = tt
grown_grows made base value (Some d) h = grows (nat_lt 0x10ffff value) _ _ (λ _. tt) (λ _. reachable_grows made (value * base + d) (h (value * base + d)))

only_grows : (b wanted : ℕ) (part : Reference) → Reachable part → Grows (refs.only b wanted part)
only_grows b wanted part h = grows (b == wanted) _ _ (λ _. h) (λ _. tt)

first_grows : (b : ℕ) → Grows (refs.first b)
first_grows b =
    grows (b == 97) _ _ (λ _. tt) (λ _. grows (b == 108) _ _ (λ _. tt) (λ _. grows (b == 103) _ _ (λ _. tt) (λ _. grows (b == 113) _ _ (λ _. tt) (λ _. grows (b == 35) _ _ (λ _. tt) (λ _. tt)))))

second_grows : (b : ℕ) → Grows (refs.second b)
second_grows b = grows (b == 109) _ _ (λ _. tt) (λ _. grows (b == 112) _ _ (λ _. tt) (λ _. tt))

pub extended_grows : (part : Reference) (b : ℕ) → Grows (refs.extended part b)
extended_grows ref.Hash b = grows (b == 120) _ _ (λ _. tt) (λ _. grown_grows ref.Decimal 10 0 (refs.digit b) (λ _ h. h))
extended_grows (ref.Decimal n) b = grown_grows ref.Decimal 10 n (refs.digit b) (λ _ h. h)
extended_grows ref.Hexadecimal b = grown_grows ref.Digits 16 0 (refs.hexadecimal_digit b) (λ _ h. h)
extended_grows (ref.Digits n) b = grown_grows ref.Digits 16 n (refs.hexadecimal_digit b) (λ _ h. h)
extended_grows ref.Begun b = first_grows b
extended_grows ref.A b = second_grows b
extended_grows ref.Am b = only_grows b 112 ref.Amp tt
extended_grows ref.Ap b = only_grows b 111 ref.Apo tt
extended_grows ref.Apo b = only_grows b 115 ref.Apos tt
extended_grows ref.L b = only_grows b 116 ref.Lt tt
extended_grows ref.G b = only_grows b 116 ref.Gt tt
extended_grows ref.Q b = only_grows b 117 ref.Qu tt
extended_grows ref.Qu b = only_grows b 111 ref.Quo tt
extended_grows ref.Quo b = only_grows b 116 ref.Quot tt
extended_grows _ b = tt

reference_to_sound : (s : State) (at : ℕ) (place : Within) (c : Option ℕ) → IsPlain s → Around (is_inside s) s.rooted place → IsSound (automaton.reference_to s at place c)
reference_to_sound s at places.Content None p h = failed s kinds.BadEntity at p tt
reference_to_sound s at (places.Value q) None p h = failed s kinds.BadEntity at p tt
reference_to_sound s at places.Content (Some c) p h = added s modes.Inside (c ∷ []) false p h
reference_to_sound s at (places.Value q) (Some c) p h = valued s q c false p h

reference_on_sound : (s : State) (at : ℕ) (place : Within) (part : Option Reference) → IsPlain s → Around (is_inside s) s.rooted place → Grows part → IsSound (automaton.reference_on s at place part)
reference_on_sound s at place None p h g = failed s kinds.BadEntity at p tt
reference_on_sound s at place (Some part) p h g = gone s (modes.Reference at place part) p (h, g)

reference_sound : (s : State) (at : ℕ) (place : Within) (part : Reference) (b : ℕ) → IsPlain s → Around (is_inside s) s.rooted place → IsSound (automaton.reference s at place part b)
reference_sound s at place part b p h =
    either (b == 59) (λ _. reference_to_sound s at place (refs.character part) p h) (λ _. reference_on_sound s at place (refs.extended part b) p h (extended_grows part b))

name_behind_sound : (s : State) (less at b : ℕ) → IsPlain s → is_inside s ≡ true → IsSound (automaton.name_behind s less at b)
name_behind_sound s less at b p h =
    either (holds_in_name b) (λ _. failed s kinds.WrongEnd less p tt) (λ _. either (nat_lt b 128) (λ _. tail_sound s less at b p h) (λ _. failed s kinds.BadUtf8 at p tt))

end_name_sound : (s : State) (less matched at b : ℕ) (w : Option ℕ) → IsPlain s → is_inside s ≡ true → IsSound (automaton.end_name_by s less matched at b w)
end_name_sound s less matched at b None p h = name_behind_sound s less at b p h
end_name_sound s less matched at b (Some w) p h = either (w == b) (λ _. gone s (modes.EndName less (matched + 1)) p h) (λ _. failed s kinds.WrongEnd less p tt)

-- ---- characters of several bytes

abbrev pub Started : Option Partial → Type 0
Started None = Unit {0}
Started (Some p) = Bits p.rest p.low p.high

started : (b : Bool) (x y : Option Partial) → (b ≡ true → Started x) → (b ≡ false → Started y) → Started (cond b x y)
started true x y f g = f refl
started false x y f g = g refl

-- what a test of a range tells
pub within_range : (low high b : ℕ) → within low high b ≡ true → (low ≤ b) × (b ≤ high)
within_range low high b e = let p = and_parts (nat_le low b) (nat_le b high) e in (leb-true low b p.0, leb-true b high p.1)

pub begun_started : (lead b : ℕ) → Started (utf.begun lead b)
begun_started lead b =
    started (within 0xc2 0xdf b) _ _ (λ e. let r = within_range 0xc2 0xdf b e in (omega (arith, r.0, r.1), omega (arith, r.0, r.1), inl (omega (arith, r.0, r.1)), refl, refl))
    (λ _. started (b == 0xe0) _ _ (λ _. (omega arith, omega arith, omega arith, omega arith, λ z. omega arith, λ z. omega arith, λ z. omega arith, λ _. refl))
    (λ e0. started (b == 0xed) _ _ (λ _. (omega arith, omega arith, omega arith, omega arith, λ z. omega arith, λ z. omega arith, λ _. refl, λ z. omega arith))
    (λ ed. started (within 0xe1 0xef b) _ _ (λ e. let r = within_range 0xe1 0xef b e in let n = eqb-false b 0xed ed in
    (omega (arith, r.0, r.1), omega arith, omega arith, omega arith, λ z. omega (arith, r.0, r.1), λ z. omega (arith, r.0, r.1, n), λ _. refl, λ _. refl))
    (λ _. started (b == 0xf0) _ _ (λ _. (omega arith, omega arith, omega arith, omega arith, λ z. omega arith, λ z. omega arith))
    (λ _. started (within 0xf1 0xf3 b) _ _ (λ e. let r = within_range 0xf1 0xf3 b e in
    (omega (arith, r.0, r.1), omega arith, omega arith, omega arith, λ z. omega (arith, r.0, r.1), λ z. omega (arith, r.0, r.1)))
    (λ _. started (b == 0xf4) _ _ (λ _. (omega arith, omega arith, omega arith, omega arith, λ z. omega arith, λ z. omega arith)) (λ _. tt)))))))

abbrev pub Grown : Growth → Type 0
Grown growths.Broken = Unit {0}
Grown (growths.Partial p) = Bits p.rest p.low p.high
Grown (growths.Whole c) = Unit {0}

grown : (b : Bool) (x y : Growth) → (b ≡ true → Grown x) → (b ≡ false → Grown y) → Grown (cond b x y)
grown true x y f g = f refl
grown false x y f g = g refl

found_grown : (c : Option ℕ) → Grown (utf.found c)
found_grown None = tt
found_grown (Some c) = tt

-- the low six bits of a byte that goes on
low_bits : (b : ℕ) → 128 ≤ b → b ≤ 191 → b % 64 ≡ b - 128
low_bits b l h = omega arith

-- no high byte of a surrogate has come
beside : (bits b m high : ℕ) → m ≡ b - 128 → 128 ≤ b → b ≤ 191 → b ≤ high → (bits ≡ 13 → high ≤ 159) → (bits * 64 + m < 864) ⊎ (896 ≤ bits * 64 + m)
beside bits b m high e l h u s = elim (cases_order bits 13) [ inl same ↦ inl (omega (arith, s same)) | inr (inl less) ↦ inl (omega arith) | inr (inr more) ↦ inr (omega arith) ]

-- a character of four bytes is above U+FFFF, and at most U+10FFFF
four_bytes : (bits low b m : ℕ) → m ≡ b - 128 → 128 ≤ b → low ≤ b → (bits ≡ 0 → 144 ≤ low) → 16 ≤ bits * 64 + m
four_bytes bits low b m e h l z = elim (cases_order bits 0) [ inl same ↦ omega (arith, z same) | inr (inl less) ↦ omega arith | inr (inr more) ↦ omega arith ]

in_range : (bits high b m : ℕ) → m ≡ b - 128 → bits ≤ 4 → b ≤ 191 → b ≤ high → (bits ≡ 4 → high ≤ 143) → bits * 64 + m ≤ 271
in_range bits high b m e few h u z = elim (cases_order bits 4) [ inl same ↦ omega (arith, z same) | inr (inl less) ↦ omega arith | inr (inr more) ↦ omega arith ]

-- one of three bytes is at least U+0800
three_bytes : (bits low b m : ℕ) → m ≡ b - 128 → 128 ≤ b → low ≤ b → (bits ≡ 0 → 160 ≤ low) → 2 ≤ bits * 64 + m
three_bytes bits low b m e h l z = elim (cases_order bits 0) [ inl same ↦ omega (arith, z same) | inr (inl less) ↦ omega arith | inr (inr more) ↦ omega arith ]

added_grown : (p : Partial) (rest : Rest) (b : ℕ) → Bits rest p.low p.high → p.low ≤ b → b ≤ p.high → Grown (utf.added p rest b)
added_grown p (rests.Three bits) b h l u =
    let m = low_bits b (omega (arith, h.1, l)) (omega (arith, h.3, u)) in
    let many = four_bytes bits p.low b (b % 64) m (omega (arith, h.1, l)) l h.4 in
    let few = in_range bits p.high b (b % 64) m h.0 (omega (arith, h.3, u)) u h.5 in
    (few, omega arith, omega arith, omega arith, λ z. omega (arith, many, z), λ z. omega (arith, many, z), λ _. refl, λ _. refl)
added_grown p (rests.Two bits) b h l u =
    let m = low_bits b (omega (arith, h.1, l)) (omega (arith, h.3, u)) in
    let many = three_bytes bits p.low b (b % 64) m (omega (arith, h.1, l)) l h.4 in
    let few = h.0 in
    (many, omega (arith, m, few, h.3, u), beside bits b (b % 64) p.high m (omega (arith, h.1, l)) (omega (arith, h.3, u)) u h.5, refl, refl)
added_grown p (rests.One bits) b h l u = grown (nat_lt 0x4fff bits) _ _ (λ _. tt) (λ _. found_grown (utf.scalar (bits * 64 + b % 64)))

pub extended_grown : (p : Partial) (b : ℕ) → Bits p.rest p.low p.high → Grown (utf.extended p b)
extended_grown p b h =
    grown (nat_lt b p.low || nat_lt p.high b) _ _ (λ _. tt)
    (λ e. let q = or_parts (nat_lt b p.low) (nat_lt p.high b) e in added_grown p p.rest b h (ltb-false b p.low q.0) (ltb-false p.high b q.1))

-- a byte that isn't ASCII, where no character is cut
lead_on_sound : (s : State) (at : ℕ) (p : Option Partial) → IsPlain s → Takes s.mode → Stands (is_inside s) s.rooted s.mode → Started p → IsSound (automaton.lead_on s at p)
lead_on_sound s at None p t h c = failed s kinds.BadUtf8 at p tt
lead_on_sound s at (Some q) p t h c = record { rooted = p.rooted; stands = h; cut = cut_some s.mode q t c }

lead_sound : (s : State) (m : Mode) (at b : ℕ) → IsPlain s → Takes s.mode → Stands (is_inside s) s.rooted s.mode → IsSound (automaton.lead s m at b)
lead_sound s m at b p t h =
    either (automaton.ends_twin s m b) (λ _. failed s kinds.DuplicateAttribute s.attr.at p tt) (λ _. lead_on_sound s at (utf.begun at b) p t h (begun_started at b))

-- behind a whole character
abbrev Clear : State → Type 0
Clear s = IsSound (record s { partial = None })

clear : (b : Bool) (x y : State) → (b ≡ true → Clear x) → (b ≡ false → Clear y) → Clear (cond b x y)
clear true x y f g = f refl
clear false x y f g = g refl

failed_clear : (s : State) (k : TextKind) (at : ℕ) → (is_inside s ≡ true → s.rooted ≡ true) → NotOpen k → Clear (fail s k at)
failed_clear s k at r h = record { rooted = r; stands = h; cut = tt }

gone_clear : (s : State) (m : Mode) → (is_inside s ≡ true → s.rooted ≡ true) → Stands (is_inside s) s.rooted m → Clear (go s m)
gone_clear s m r h = record { rooted = r; stands = h; cut = tt }

added_clear : (s : State) (m : Mode) (cs : List ℕ) (q : Bool) → (is_inside s ≡ true → s.rooted ≡ true) → Stands (is_inside s) s.rooted m → Clear (states.add s m cs q)
added_clear s m cs q r h = record { rooted = r; stands = h; cut = tt }

tag_clear : (s : State) (less c : ℕ) → (is_inside s ≡ true → s.rooted ≡ true) → Clear (states.begin_tag s less c)
tag_clear s less c r = record { rooted = λ _. refl; stands = refl; cut = tt }

start_clear : (s : State) (lead c : ℕ) → (is_inside s ≡ true → s.rooted ≡ true) → is_inside s ≡ false → Clear (automaton.start_whole s lead c)
start_clear s lead c r h =
    clear (c == 0xfeff) _ _ (λ _. gone_clear s modes.Outside r h)
    (λ _. clear (within 0xfec0 0xfefe c) _ _ (λ _. failed_clear s kinds.BadMark 2 r tt)
    (λ _. clear (within 0xf000 0xffff c) _ _ (λ _. failed_clear s kinds.BadMark 1 r tt) (λ _. failed_clear s kinds.BadMark lead r tt)))

element_clear : (s : State) (less at c : ℕ) → (is_inside s ≡ true → s.rooted ≡ true) → Clear (steps.begin_element s less at c)
element_clear s less at c r =
    clear (is_inside s) _ _
    (λ _. clear (nat_lt (length s.elements) MAX_XMI_NESTING) _ _ (λ _. tag_clear s less c r) (λ _. failed_clear (record s { ready = states.due s.run }) kinds.Limit less r tt))
    (λ _. clear s.rooted _ _ (λ _. failed_clear s kinds.BadMark at r tt) (λ _. tag_clear s less c r))

admitted_clear : (s : State) (m : Mode) (lead c : ℕ) → (is_inside s ≡ true → s.rooted ≡ true) → Stands (is_inside s) s.rooted m → Clear (automaton.admitted s m lead c)
admitted_clear s modes.Inside lead c r h = added_clear s modes.Inside (c ∷ []) false r h
admitted_clear s (modes.Cdata held) lead c r h = added_clear s states.cdata (states.brackets held ++ c ∷ []) false r h
admitted_clear s (modes.TagName colon) lead c r h = record { rooted = r; stands = h; cut = tt }
admitted_clear s modes.Tag lead c r h = record { rooted = r; stands = h; cut = tt }
admitted_clear s (modes.AttrName colon) lead c r h = record { rooted = r; stands = h; cut = tt }
admitted_clear s (modes.Value q) lead c r h = record { rooted = r; stands = h; cut = tt }
admitted_clear s modes.Comment lead c r h = gone_clear s modes.Comment r tt
admitted_clear s modes.CommentDash lead c r h = gone_clear s modes.Comment r tt
admitted_clear s modes.CommentDashes lead c r h = gone_clear s modes.Comment r tt
admitted_clear s modes.Question lead c r h = gone_clear s (modes.Target false) r tt
admitted_clear s (modes.Target colon) lead c r h = gone_clear s (modes.Target colon) r tt
admitted_clear s modes.Instruction lead c r h = gone_clear s modes.Instruction r tt
admitted_clear s modes.InstructionQuestion lead c r h = gone_clear s modes.Instruction r tt
admitted_clear s _ lead c r h = failed_clear s kinds.BadMark lead r tt

whole_clear : (s : State) (m : Mode) (lead at c : ℕ) → (is_inside s ≡ true → s.rooted ≡ true) → Stands (is_inside s) s.rooted m → Clear (automaton.whole s m lead at c)
whole_clear s modes.Start lead at c r h = start_clear s lead c r h.0
whole_clear s (modes.Less place) lead at c r h =
    clear (automaton.is_unstorable c) _ _ (λ _. failed_clear s kinds.BadMark (cond (automaton.admits s (modes.Less place)) at lead) r tt) (λ _. element_clear s place lead c r)
whole_clear s m lead at c r h =
    clear (automaton.is_unstorable c) _ _ (λ _. failed_clear s kinds.BadMark (cond (automaton.admits s m) at lead) r tt) (λ _. admitted_clear s m lead c r h)

-- one more byte of a character
partial_sound : (s : State) (m : Mode) (lead at : ℕ) (g : Growth) → (is_inside s ≡ true → s.rooted ≡ true) → Takes m → Stands (is_inside s) s.rooted m → s.mode ≡ m → Grown g → IsSound (automaton.partial_by s m lead at g)
partial_sound s m lead at growths.Broken r t h e c = record { rooted = r; stands = tt; cut = failed_cut s.partial (record { kind = kinds.BadUtf8; at = lead }) }
partial_sound s m lead at (growths.Partial q) r t h e c = record { rooted = r; stands = subst (Stands (is_inside s) s.rooted) (sym e) h; cut = cut_some s.mode q (subst Takes (sym e) t) c }
partial_sound s m lead at (growths.Whole q) r t h e c = whole_clear s m lead at q r h

-- ---- one more byte

plain_sound : (s : State) (m : Mode) (at b : ℕ) → IsPlain s → Takes m → Stands (is_inside s) s.rooted m → IsSound (automaton.ascii s m at b)
plain_sound s modes.Start at b p t h = outside_sound s at b p h.0
plain_sound s modes.Outside at b p t h = outside_sound s at b p h
plain_sound s modes.Inside at b p t h = inside_sound s at b p h
plain_sound s (modes.Less place) at b p t h = less_sound s place at b p
plain_sound s (modes.Bang place) at b p t h = bang_sound s place at b p
plain_sound s modes.Dash at b p t h = only_sound s 45 modes.Comment at b p tt
plain_sound s modes.Comment at b p t h = comment_sound s modes.CommentDash at b p tt
plain_sound s modes.CommentDash at b p t h = comment_sound s modes.CommentDashes at b p tt
plain_sound s modes.CommentDashes at b p t h = comment_end_sound s at b p
plain_sound s (modes.Doctype less word_at matched) at b p t h = absurd t
plain_sound s (modes.CdataStart matched) at b p t h = cdata_start_sound s matched at b p h.0
plain_sound s (modes.Cdata held) at b p t h = cdata_sound s held at b p h
plain_sound s modes.Question at b p t h = question_sound s at b p
plain_sound s (modes.Target colon) at b p t h = target_sound s colon at b p
plain_sound s modes.Instruction at b p t h = instruction_sound s at b p
plain_sound s modes.InstructionQuestion at b p t h = instruction_end_sound s at b p
plain_sound s (modes.TagName colon) at b p t h = tag_name_sound s colon at b p h
plain_sound s modes.Tag at b p t h = tag_sound s at b p h
plain_sound s (modes.AttrName colon) at b p t h = attr_name_sound s colon at b p h
plain_sound s modes.AfterName at b p t h = equals_sound s at b p h
plain_sound s modes.BeforeValue at b p t h = before_value_sound s at b p h
plain_sound s (modes.Value q) at b p t h = value_sound s q at b p h
plain_sound s modes.AfterValue at b p t h = part_sound s at b p h
plain_sound s modes.Slash at b p t h = slash_sound s at b p
plain_sound s (modes.EndName less matched) at b p t h = absurd t
plain_sound s (modes.EndTail place) at b p t h = tail_sound s place at b p h
plain_sound s (modes.Reference amp place part) at b p t h = absurd t
plain_sound s (modes.Failed f) at b p t h = absurd t

character_sound : (s : State) (m : Mode) (at b : ℕ) (c : Option Partial) → (is_inside s ≡ true → s.rooted ≡ true) → s.mode ≡ m → s.partial ≡ c → Takes m → Stands (is_inside s) s.rooted m → Cut c m → IsSound (automaton.character_by s m at b c)
character_sound s m at b None r e n t h c =
    let p : IsPlain s = record { rooted = r; none = n } in
    either (nat_lt b 128) (λ _. plain_sound s m at b p t h) (λ _. lead_sound s m at b p (subst Takes (sym e) t) (subst (Stands (is_inside s) s.rooted) (sym e) h))
character_sound s m at b (Some q) r e n t h c = partial_sound s m q.lead at (utf.extended q b) r t h e (extended_grown q b (bits_of m q t c))

step_sound : (s : State) (at b : ℕ) (m : Mode) → s.mode ≡ m → IsSound s → Cut s.partial m → Stands (is_inside s) s.rooted m → IsSound (step_by s at b m)
step_sound s at b (modes.Failed f) e p c h = p
step_sound s at b (modes.Reference amp place part) e p c h = reference_sound s amp place part b (record { rooted = p.rooted; none = uncut s.partial (modes.Reference amp place part) c (λ x. x) tt }) h.0
step_sound s at b (modes.Doctype less word_at matched) e p c h = doctype_sound s less word_at matched b (record { rooted = p.rooted; none = uncut s.partial (modes.Doctype less word_at matched) c (λ x. x) tt })
step_sound s at b (modes.EndName less matched) e p c h = end_name_sound s less matched at b (automaton.wanted s matched) (record { rooted = p.rooted; none = uncut s.partial (modes.EndName less matched) c (λ x. x) tt }) h
step_sound s at b m e p c h = character_sound s m at b s.partial p.rooted e refl tt h c

-- ---- every state

cleared_sound : (s : State) (r : Ready) → IsSound s → IsSound (cleared_by s r)
cleared_sound s ready.Nothing p = p
cleared_sound s ready.Data p = record { rooted = p.rooted; stands = p.stands; cut = p.cut }
cleared_sound s ready.Open p = record { rooted = p.rooted; stands = p.stands; cut = p.cut }
cleared_sound s ready.Empty p = record { rooted = p.rooted; stands = p.stands; cut = p.cut }
cleared_sound s (ready.Close at) p = record { rooted = p.rooted; stands = p.stands; cut = p.cut }

pub next_sound : (s : State) (at b : ℕ) → IsSound s → IsSound (cleared (step s at b))
next_sound s at b p = let t : State = step s at b in cleared_sound t t.ready (step_sound s at b s.mode refl p p.cut p.stands)

pub sound_from : (at : ℕ) (s : State) (bytes : List ℕ) → IsSound s → IsSound (state_from at s bytes)
sound_from at s [] p = p
sound_from at s (b ∷ bytes) p = sound_from (at + 1) (cleared (step s at b)) bytes (next_sound s at b p)

pub sound_start : IsSound start
sound_start = record { rooted = λ e. cc; stands = (refl, refl); cut = tt }

pub sound_of : (bytes : List ℕ) → IsSound (state_of bytes)
unfolding state_of
sound_of bytes = sound_from 0 start bytes sound_start

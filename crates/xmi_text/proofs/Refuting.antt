-- Wrong answers that the definitions exclude, each on a small case: what the definition gives, and that it isn't what the wrong
-- code would answer. A contract says that the code's result is what the definition gives, so it refuses that code.
use Rattle.std.specs.Prelude.{◌≡◌, ℕ, true, false, not, nat_lt, [], ◌∷◌, codes, length, if◌then◌else◌, None, Ok}
use Rattle.std.proofs.Common.{refl, ap, sym, subst, arith}
use Rattle.xmi_text.specs.declared.limits.TheConstants.{MAX_XMI_NESTING}
use Rattle.xmi_text.specs.declared.error.TextKind.TheVariants as kinds
use Rattle.xmi_text.specs.declared.mark.Mark.TheVariants as marks
use Rattle.xmi_text.specs.declared.mark.Step.TheVariants as answers
use Rattle.xmi_text.specs.declared.state.State.{State}
use Rattle.xmi_text.specs.declared.state.Mode.{Mode}
use Rattle.xmi_text.specs.declared.state.Mode.TheVariants as modes
use Rattle.xmi_text.specs.declared.utf_eight.Growth.TheVariants as growths
use Rattle.xmi_text.specs.States.{fail, begin_tag}
use Rattle.xmi_text.specs.Steps.{begin_element, too_deep}
use Rattle.xmi_text.specs.Automaton.{admits_element, partial_by, fault}
use Rattle.xmi_text.specs.Reading.{last_by, or_fault}
use Rattle.xmi_text.specs.Writing.{escaped_character}

-- ---- characters that are written

pub line_feed_as_a_reference : escaped_character 10 ≡ codes "&#10;"
line_feed_as_a_reference = refl

-- a line feed as it is, which a reader of XML takes for a space
pub writes_a_line_feed_as_it_is : escaped_character 10 ≡ 10 ∷ [] → ⊥
writes_a_line_feed_as_it_is e = let apart : 5 ≡ 1 = ap length e in absurd (omega (arith, apart))

-- ---- an element in as many others as there may be

pub element_too_deep : (s : State) (less at c : ℕ) → length s.elements ≡ MAX_XMI_NESTING → begin_element s less at c ≡ too_deep s less
element_too_deep s less at c full =
    subst (λ n. (if nat_lt 0 n then (if nat_lt n MAX_XMI_NESTING then begin_tag s less c else too_deep s less) else if s.rooted then fail s kinds.BadMark at else begin_tag s less c) ≡ too_deep s less)
    (sym full) refl

-- an element more may begin
pub nests_one_element_more : (s : State) → length s.elements ≡ MAX_XMI_NESTING → admits_element s ≡ true → ⊥
nests_one_element_more s full e =
    let apart : false ≡ true = subst (λ n. (if nat_lt 0 n then nat_lt n MAX_XMI_NESTING else not s.rooted) ≡ true) full e in cc

-- ---- a byte at place 5 that doesn't go on with the character that begins at place 3

abbrev place_of : Mode → ℕ
place_of (modes.Failed f) = f.at
place_of mode = 0

pub fault_at_the_first_byte : (s : State) (mode : Mode) → partial_by s mode 3 5 growths.Broken ≡ fail s kinds.BadUtf8 3
fault_at_the_first_byte s mode = refl

-- the fault at the byte itself
pub shows_a_broken_character_late : (s : State) (mode : Mode) → partial_by s mode 3 5 growths.Broken ≡ fail s kinds.BadUtf8 5 → ⊥
shows_a_broken_character_late s mode e = let apart : 3 ≡ 5 = ap (λ (t : State). place_of t.mode) e in absurd (omega (arith, apart))

-- ---- the end of the bytes so far, where the text may go on

-- the end of the text, before the caller says that it ends
pub ends_before_finish : (s : State) (n : ℕ) → fault s ≡ None → last_by false s n ≡ Ok (answers.Mark marks.End) → ⊥
ends_before_finish s n sound e = let apart : Ok answers.NotYet ≡ Ok (answers.Mark marks.End) = subst (λ f. or_fault answers.NotYet f ≡ Ok (answers.Mark marks.End)) sound e in cc

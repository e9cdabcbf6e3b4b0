-- A byte behind which nothing makes the text whole completes no mark, but that of the run before an element too deep.
use Rattle.std.proofs.Common.{◌≡◌, ℕ, ◌⊎◌, Bool, true, false, cond, List, [], ◌∷◌, length, refl, Option, Some, None, inl, inr}
use Rattle.std.specs.Prelude.{◌==◌, ◌||◌, ◌&&◌, not, nat_lt}
use Rattle.xmi_text.specs.declared.limits.TheConstants.{MAX_XMI_NESTING}
use Rattle.xmi_text.specs.ByteClass.{begins_name, continues_name, holds_in_name, is_blank, is_storable_byte, within}
use Rattle.xmi_text.specs.AttrNames.{has_name}
use Rattle.xmi_text.specs.UtfEight as utf
use Rattle.xmi_text.specs.References as refs
use Rattle.xmi_text.specs.States as states
use Rattle.xmi_text.specs.States.{go, fail, is_inside, complete, complete_by}
use Rattle.xmi_text.specs.Steps as steps
use Rattle.xmi_text.specs.Automaton as automaton
use Rattle.xmi_text.specs.Automaton.{step_by}
use Rattle.xmi_text.specs.declared.error.TextKind.TheVariants as kinds
use Rattle.xmi_text.specs.declared.reference.Reference.{Reference}
use Rattle.xmi_text.specs.declared.utf_eight.Partial.{Partial}
use Rattle.xmi_text.specs.declared.utf_eight.Growth.{Growth}
use Rattle.xmi_text.specs.declared.utf_eight.Growth.TheVariants as growths
use Rattle.xmi_text.specs.declared.state.State.{State}
use Rattle.xmi_text.specs.declared.state.Mode.{Mode}
use Rattle.xmi_text.specs.declared.state.Mode.TheVariants as modes
use Rattle.xmi_text.specs.declared.state.Within.{Within}
use Rattle.xmi_text.specs.declared.state.Within.TheVariants as places
use Rattle.xmi_text.specs.declared.state.Brackets.{Brackets}
use Rattle.xmi_text.specs.declared.state.Brackets.TheVariants as brackets
use Rattle.xmi_text.specs.declared.state.Quote.{Quote}
use Rattle.xmi_text.specs.declared.state.Ready.{Ready}
use Rattle.xmi_text.specs.declared.state.Ready.TheVariants as ready
use Rattle.xmi_text.proofs.backward.Backward.{in_mode, in_character}
use Rattle.xmi_text.proofs.completion.Sound.{Cut}
use Rattle.xmi_text.proofs.completion.Ending.{IsDead}

-- an element too deep
abbrev pub Limited : Mode → Type 0
Limited (modes.Failed f) = f.kind ≡ kinds.Limit
Limited _ = ⊥

-- where a mark is complete, the text may go on, or an element is too deep
abbrev pub SilentBy : Ready → Option Partial → Mode → Type 0
SilentBy ready.Nothing c m = Unit {0}
SilentBy r (Some p) m = ⊥
SilentBy r None (modes.Failed f) = f.kind ≡ kinds.Limit
SilentBy r None (modes.Doctype less word_at matched) = ⊥
SilentBy r None m = Unit {0}

abbrev pub Silent : State → Type 0
Silent t = SilentBy t.ready t.partial t.mode

or : (c : Bool) (x y : State) → Silent x → Silent y → Silent (cond c x y)
or true x y p q = p
or false x y p q = q

due_silent : (run : List ℕ) (m : Mode) → SilentBy ready.Data None m → SilentBy (states.due run) None m
due_silent [] m q = tt
due_silent (c ∷ run) m q = q

round_silent : (r : Ready) (inside : Bool) → SilentBy r None (cond inside modes.Inside modes.Outside)
round_silent ready.Nothing inside = tt
round_silent ready.Data true = tt
round_silent ready.Data false = tt
round_silent ready.Open true = tt
round_silent ready.Open false = tt
round_silent ready.Empty true = tt
round_silent ready.Empty false = tt
round_silent (ready.Close at) true = tt
round_silent (ready.Close at) false = tt

-- ---- an ASCII byte, or one that is read as one

module _ (s : State) (m : Mode) (at b : ℕ) where
  abbrev q : State
  q = in_mode s m

  outside_silent : Silent (steps.outside q at b)
  outside_silent = or (b == 60) _ _ tt (or (is_blank b) _ _ tt tt)

  inside_silent : Silent (steps.inside q at b)
  inside_silent = or (b == 60) _ _ tt (or (b == 38) _ _ tt (or (b == 13) _ _ tt (or ((b == 10) && s.returned) _ _ tt (or (is_storable_byte b) _ _ tt tt))))

  bracket_silent : (held : Brackets) → Silent (steps.bracket q held)
  bracket_silent brackets.None = tt
  bracket_silent brackets.One = tt
  bracket_silent brackets.Two = tt

  cdata_silent : (held : Brackets) → Silent (steps.cdata q held at b)
  cdata_silent held =
      or (b == 93) _ _ (bracket_silent held) (or ((b == 62) && steps.are_two held) _ _ tt (or (b == 13) _ _ tt (or ((b == 10) && s.returned) _ _ tt (or (is_storable_byte b) _ _ tt tt))))

  less_silent : (less : ℕ) → Silent (steps.less q less at b)
  less_silent less =
      or (b == 33) _ _ tt
      (or (b == 63) _ _ tt
      (or (b == 47) _ _ (or (is_inside s) _ _ (due_silent s.run (modes.EndName less 0) tt) tt)
      (or (begins_name b) _ _
      (or (is_inside s) _ _ (or (nat_lt (length s.elements) MAX_XMI_NESTING) _ _ (due_silent s.run (modes.TagName false) tt) (due_silent s.run (modes.Failed (record { kind = kinds.Limit; at = less })) refl))
      (or s.rooted _ _ tt (due_silent s.run (modes.TagName false) tt)))
      tt)))

  bang_silent : (less : ℕ) → Silent (steps.bang q less at b)
  bang_silent less = or (b == 45) _ _ tt (or ((b == 91) && is_inside s) _ _ tt (or (b == 68) _ _ tt tt))

  doctype_silent : (less word_at matched : ℕ) → Silent (steps.doctype q less word_at matched b)
  doctype_silent less word_at matched = or (not (steps.is_wanted (steps.doctype_byte matched) b)) _ _ tt (or (nat_lt matched 6) _ _ tt tt)

  cdata_start_silent : (matched : ℕ) → Silent (steps.cdata_start q matched at b)
  cdata_start_silent matched = or (not (steps.is_wanted (steps.cdata_byte matched) b)) _ _ tt (or (nat_lt matched 6) _ _ tt tt)

  passed_silent : (n : Mode) → Silent (steps.passed q n at b)
  passed_silent n = or (is_storable_byte b) _ _ tt tt

  comment_silent : (n : Mode) → Silent (steps.comment q n at b)
  comment_silent n = or (b == 45) _ _ tt (passed_silent modes.Comment)

  instruction_silent : Silent (steps.instruction q at b)
  instruction_silent = or (b == 63) _ _ tt (passed_silent modes.Instruction)

  target_silent : (had : Bool) → Silent (steps.target q had at b)
  target_silent had = or (b == 58) _ _ (or had _ _ tt tt) (or (continues_name b) _ _ tt instruction_silent)

  part_silent : Silent (steps.part q at b)
  part_silent = or (b == 47) _ _ tt (or (b == 62) _ _ tt (or (is_blank b) _ _ tt tt))

  tag_name_silent : (had : Bool) → Silent (steps.tag_name q had at b)
  tag_name_silent had = or (b == 58) _ _ (or had _ _ tt tt) (or (continues_name b) _ _ tt part_silent)

  equals_silent : Silent (steps.equals q at b)
  equals_silent = or (b == 61) _ _ tt (or (is_blank b) _ _ tt tt)

  attr_name_silent : (had : Bool) → Silent (steps.attr_name q had at b)
  attr_name_silent had = or (b == 58) _ _ (or had _ _ tt tt) (or (continues_name b) _ _ tt (or (has_name s.attrs s.attr.name) _ _ tt equals_silent))

  before_value_silent : Silent (steps.before_value q at b)
  before_value_silent = or (b == 34) _ _ tt (or (b == 39) _ _ tt (or (is_blank b) _ _ tt tt))

  value_silent : (quote : Quote) → Silent (steps.value q quote at b)
  value_silent quote =
      or (b == steps.quote_byte quote) _ _ tt
      (or (b == 60) _ _ tt (or (b == 38) _ _ tt (or (b == 13) _ _ tt (or ((b == 10) && s.returned) _ _ tt (or ((b == 10) || (b == 9)) _ _ tt (or (is_storable_byte b) _ _ tt tt))))))

  tail_silent : (less : ℕ) → Silent (steps.tail q less at b)
  tail_silent less = or (b == 62) _ _ (round_silent (ready.Close less) (is_inside (states.left q))) (or (is_blank b) _ _ tt tt)

ascii_silent : (s : State) (m : Mode) (at b : ℕ) → Silent (automaton.ascii (in_mode s m) m at b)
ascii_silent s modes.Inside at b = inside_silent s modes.Inside at b
ascii_silent s (modes.Less less) at b = less_silent s (modes.Less less) at b less
ascii_silent s (modes.Bang less) at b = bang_silent s (modes.Bang less) at b less
ascii_silent s modes.Dash at b = or (b == 45) _ _ tt tt
ascii_silent s modes.Comment at b = comment_silent s modes.Comment at b modes.CommentDash
ascii_silent s modes.CommentDash at b = comment_silent s modes.CommentDash at b modes.CommentDashes
ascii_silent s modes.CommentDashes at b = or (b == 62) _ _ tt (comment_silent s modes.CommentDashes at b modes.CommentDashes)
ascii_silent s (modes.CdataStart matched) at b = cdata_start_silent s (modes.CdataStart matched) at b matched
ascii_silent s (modes.Cdata held) at b = cdata_silent s (modes.Cdata held) at b held
ascii_silent s modes.Question at b = or (begins_name b) _ _ tt tt
ascii_silent s (modes.Target colon) at b = target_silent s (modes.Target colon) at b colon
ascii_silent s modes.Instruction at b = instruction_silent s modes.Instruction at b
ascii_silent s modes.InstructionQuestion at b = or (b == 62) _ _ tt (instruction_silent s modes.InstructionQuestion at b)
ascii_silent s (modes.TagName colon) at b = tag_name_silent s (modes.TagName colon) at b colon
ascii_silent s modes.Tag at b = or (begins_name b) _ _ tt (part_silent s modes.Tag at b)
ascii_silent s (modes.AttrName colon) at b = attr_name_silent s (modes.AttrName colon) at b colon
ascii_silent s modes.AfterName at b = equals_silent s modes.AfterName at b
ascii_silent s modes.BeforeValue at b = before_value_silent s modes.BeforeValue at b
ascii_silent s (modes.Value q) at b = value_silent s (modes.Value q) at b q
ascii_silent s modes.AfterValue at b = part_silent s modes.AfterValue at b
ascii_silent s modes.Slash at b = or (b == 62) _ _ (round_silent ready.Empty (is_inside s)) tt
ascii_silent s (modes.EndTail less) at b = tail_silent s (modes.EndTail less) at b less
ascii_silent s m at b = outside_silent s m at b

-- ---- references and end tags

reference_silent : (s : State) (m : Mode) (amp : ℕ) (place : Within) (part : Reference) (b : ℕ) → Silent (automaton.reference (in_mode s m) amp place part b)
reference_silent s m amp place part b = or (b == 59) _ _ (ends place (refs.character part)) (goes_on (refs.extended part b))
  where
    ends : (place : Within) (c : Option ℕ) → Silent (automaton.reference_to (in_mode s m) amp place c)
    ends place None = tt
    ends places.Content (Some c) = tt
    ends (places.Value quote) (Some c) = tt

    goes_on : (part : Option Reference) → Silent (automaton.reference_on (in_mode s m) amp place part)
    goes_on None = tt
    goes_on (Some part) = tt

end_name_silent : (s : State) (m : Mode) (less matched at b : ℕ) (w : Option ℕ) → Silent (automaton.end_name_by (in_mode s m) less matched at b w)
end_name_silent s m less matched at b None = or (holds_in_name b) _ _ tt (or (nat_lt b 128) _ _ (tail_silent s m at b less) tt)
end_name_silent s m less matched at b (Some w) = or (w == b) _ _ tt tt

-- ---- characters of several bytes

lead_silent : (s : State) (m : Mode) (at b : ℕ) → Silent (automaton.lead (in_mode s m) m at b)
lead_silent s m at b = or (automaton.ends_twin (in_mode s m) m b) _ _ tt (begins (utf.begun at b))
  where
    begins : (p : Option Partial) → Silent (automaton.lead_on (in_mode s m) at p)
    begins None = tt
    begins (Some p) = tt

-- behind a whole character
abbrev Ended : State → Type 0
Ended t = Silent (record t { partial = None })

or_ended : (c : Bool) (x y : State) → Ended x → Ended y → Ended (cond c x y)
or_ended true x y p q = p
or_ended false x y p q = q

admitted_silent : (s : State) (n m : Mode) (p : Partial) (lead c : ℕ) → Ended (automaton.admitted (in_character s n p) m lead c)
admitted_silent s n modes.Inside p lead c = tt
admitted_silent s n (modes.Cdata held) p lead c = tt
admitted_silent s n (modes.TagName colon) p lead c = tt
admitted_silent s n modes.Tag p lead c = tt
admitted_silent s n (modes.AttrName colon) p lead c = tt
admitted_silent s n (modes.Value q) p lead c = tt
admitted_silent s n modes.Comment p lead c = tt
admitted_silent s n modes.CommentDash p lead c = tt
admitted_silent s n modes.CommentDashes p lead c = tt
admitted_silent s n modes.Question p lead c = tt
admitted_silent s n (modes.Target colon) p lead c = tt
admitted_silent s n modes.Instruction p lead c = tt
admitted_silent s n modes.InstructionQuestion p lead c = tt
admitted_silent s n _ p lead c = tt

whole_silent : (s : State) (m : Mode) (p : Partial) (lead at c : ℕ) → Ended (automaton.whole (in_character s m p) m lead at c)
whole_silent s modes.Start p lead at c = or_ended (c == 0xfeff) _ _ tt (or_ended (within 0xfec0 0xfefe c) _ _ tt (or_ended (within 0xf000 0xffff c) _ _ tt tt))
whole_silent s (modes.Less less) p lead at c =
    or_ended (automaton.is_unstorable c) _ _ tt
    (or_ended (is_inside s) _ _
    (or_ended (nat_lt (length s.elements) MAX_XMI_NESTING) _ _ (due_silent s.run (modes.TagName false) tt) (due_silent s.run (modes.Failed (record { kind = kinds.Limit; at = less })) refl))
    (or_ended s.rooted _ _ tt (due_silent s.run (modes.TagName false) tt)))
whole_silent s m p lead at c = or_ended (automaton.is_unstorable c) _ _ tt (admitted_silent s m m p lead c)

grown_silent : (s : State) (m : Mode) (p : Partial) (at : ℕ) (g : Growth) → Silent (automaton.partial_by (in_character s m p) m p.lead at g)
grown_silent s m p at growths.Broken = tt
grown_silent s m p at (growths.Partial q) = tt
grown_silent s m p at (growths.Whole c) = whole_silent s m p p.lead at c

-- ---- one more byte

-- in this mode, in a character or between two, and no mark waits
abbrev pub resting : State → Mode → Option Partial → State
resting s m c = record s { mode = m; partial = c; ready = ready.Nothing }

read_silent : (s : State) (m : Mode) (c : Option Partial) (at b : ℕ) → Silent (automaton.character_by (resting s m c) m at b c)
read_silent s m None at b = or (nat_lt b 128) _ _ (ascii_silent s m at b) (lead_silent s m at b)
read_silent s m (Some p) at b = grown_silent s m p at (utf.extended p b)

pub step_silent : (s : State) (m : Mode) (c : Option Partial) (at b : ℕ) → Cut c m → Silent (step_by (resting s m c) at b m)
step_silent s (modes.Failed f) c at b k = tt
step_silent s (modes.Reference amp place part) None at b k = reference_silent s (modes.Reference amp place part) amp place part b
step_silent s (modes.Reference amp place part) (Some p) at b k = absurd k.0
step_silent s (modes.Doctype less word_at matched) None at b k = doctype_silent s (modes.Doctype less word_at matched) at b less word_at matched
step_silent s (modes.Doctype less word_at matched) (Some p) at b k = absurd k.0
step_silent s (modes.EndName less matched) None at b k = end_name_silent s (modes.EndName less matched) less matched at b (automaton.wanted s matched)
step_silent s (modes.EndName less matched) (Some p) at b k = absurd k.0
step_silent s m c at b k = read_silent s m c at b

-- a dead state, or one behind its marks
pub dead_silent : (t u : State) (r : Ready) (c : Option Partial) (m : Mode) → SilentBy r c m → IsDead u m c → (complete_by t r ≡ []) ⊎ Limited m
dead_silent t u ready.Nothing c m q d = inl refl
dead_silent t u r None (modes.Failed f) q d = inr q
dead_silent t u r None (modes.Doctype less word_at matched) q d = absurd q
dead_silent t u r None m q d = absurd d
dead_silent t u r (Some p) m q d = absurd q

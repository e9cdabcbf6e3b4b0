-- Where a fault is told, one of its kind stands: bad marks, and the ends of bytes that are no document yet.
use Rattle.std.proofs.Common.{◌≡◌, ℕ, ◌+◌, ◌<◌, Bool, true, false, cond, List, length, take, refl, sym, ◌∙◌, ap, subst, arith, Option, Some, None, append-nil, inl, inr}
use Rattle.std.proofs.lemmas.List.{take_all}
use Rattle.std.proofs.lemmas.Bool.{cases_lt}
use Rattle.xmi_text.specs.ByteClass.{within}
use Rattle.xmi_text.specs.States.{is_inside}
use Rattle.xmi_text.specs.Automaton as automaton
use Rattle.xmi_text.specs.Automaton.{end_fault_by, fault_at}
use Rattle.xmi_text.specs.Reading.{state_of, end_fault_of}
use Rattle.xmi_text.specs.Completion.{MayGoOn}
use Rattle.xmi_text.specs.Markup.{Begins}
use Rattle.xmi_text.specs.Faults.{IsBadMark, IsOpenTag}
use Rattle.xmi_text.specs.declared.error.TextFault.{TextFault}
use Rattle.xmi_text.specs.declared.error.TextKind.{TextKind}
use Rattle.xmi_text.specs.declared.error.TextKind.TheVariants as kinds
use Rattle.xmi_text.specs.declared.utf_eight.Partial.{Partial}
use Rattle.xmi_text.specs.declared.utf_eight.Rest.{Rest}
use Rattle.xmi_text.specs.declared.utf_eight.Rest.TheVariants as rests
use Rattle.xmi_text.specs.declared.state.State.{State}
use Rattle.xmi_text.specs.declared.state.Mode.{Mode}
use Rattle.xmi_text.specs.declared.state.Mode.TheVariants as modes
use Rattle.xmi_text.proofs.completion.Sound.{NotOpen, Stands, sound_of}
use Rattle.xmi_text.proofs.completion.Completing.{some_fault}
use Rattle.xmi_text.proofs.completion.Ending.{IsDead, IsNoMark, open_or_dead}
use Rattle.xmi_text.proofs.completion.Places.{before_fault, through_mark}
use Rattle.xmi_text.proofs.forward.Spelled.{markup_spelled}
use Rattle.xmi_text.proofs.backward.Whole.{goes_on_begins}
use Rattle.xmi_text.proofs.faults.Prefixes.{begins_goes_on}

-- ---- what ends too early

not_open_by : (b : Bool) (f g : TextFault) → NotOpen f.kind → NotOpen g.kind → NotOpen (cond b f g).kind
not_open_by true f g x y = x
not_open_by false f g x y = y

mark_not_open : (lead n : ℕ) (rest : Rest) → IsNoMark rest → NotOpen (automaton.cut_start_by lead n rest).kind
mark_not_open lead n (rests.Three bits) d = tt
mark_not_open lead n (rests.Two bits) d = subst (λ (b : Bool). NotOpen (cond b (fault_at kinds.OpenTag n) (fault_at kinds.BadMark lead)).kind) (sym d) tt
mark_not_open lead n (rests.One bits) d =
    let f : TextFault = cond (within 0x3c0 0x3ff bits) (fault_at kinds.BadMark 1) (fault_at kinds.BadMark lead) in
    subst (λ (b : Bool). NotOpen (cond b (fault_at kinds.OpenTag n) f).kind) (sym d)
    (not_open_by (within 0x3c0 0x3ff bits) (fault_at kinds.BadMark 1) (fault_at kinds.BadMark lead) tt tt)

abbrev NoneOpen : Option TextFault → Type 0
NoneOpen None = ⊥
NoneOpen (Some f) = NotOpen f.kind

-- what nothing makes whole doesn't end too early
dead_not_open : (s : State) (n : ℕ) (m : Mode) (c : Option Partial) → s.partial ≡ c → Stands (is_inside s) s.rooted m → IsDead s m c → NoneOpen (end_fault_by s n m)
dead_not_open s n (modes.Failed f) c e h d = h
dead_not_open s n (modes.Doctype less word_at matched) c e h d = tt
dead_not_open s n modes.Start None e h d = absurd d
dead_not_open s n modes.Start (Some p) e h d = subst (λ (c : Option Partial). NoneOpen (automaton.ended_by s modes.Start n c)) (sym e) (mark_not_open p.lead n p.rest d)
dead_not_open s n m None e h d = absurd d
dead_not_open s n m (Some p) e h d =
    subst (λ (c : Option Partial). NoneOpen (automaton.ended_by s m n c)) (sym e)
    (subst (λ (b : Bool). NotOpen (cond b (fault_at kinds.OpenTag n) (fault_at kinds.BadMark p.lead)).kind) (sym d) tt)

pub same_kind : (f : TextFault) (k : TextKind) (n : ℕ) → Some f ≡ Some (fault_at k n) → (f.kind ≡ k) × (f.at ≡ n)
same_kind f k n e = let same : f ≡ fault_at k n = cc in (ap (λ (g : TextFault). g.kind) same, ap (λ (g : TextFault). g.at) same)

open_end : (bytes : List ℕ) (f : TextFault) → end_fault_of bytes ≡ Some f → f.kind ≡ kinds.OpenTag → f.at ≡ length bytes
unfolding end_fault_of
open_end bytes f e k =
    let s : State = state_of bytes in
    let sound = sound_of bytes in
    elim (open_or_dead s s.mode s.partial (length bytes) refl sound.cut) [
      | inl o ↦ elim o [
        | inl x ↦ absurd (some_fault f (sym e ∙ x))
        | inr x ↦ (same_kind f kinds.OpenTag (length bytes) (sym e ∙ x)).1
      ]
      | inr d ↦ absurd (subst NotOpen k (subst NoneOpen e (dead_not_open s (length bytes) s.mode s.partial refl sound.stands d)))
    ]

pub open_tag : (bytes : List ℕ) (f : TextFault) → end_fault_of bytes ≡ Some f → f.kind ≡ kinds.OpenTag → IsOpenTag bytes f.at
open_tag bytes f e k =
    let last : f.at ≡ length bytes = open_end bytes f e k in
    record {
      end = last;
      begun = goes_on_begins bytes (subst MayGoOn (take_all f.at bytes (omega (arith, last))) (before_fault bytes f e));
      none = λ tree m. some_fault f (sym e ∙ (markup_spelled bytes tree m).whole);
    }

-- ---- bad marks

-- a fault of another kind than that of a text's end stands at a byte
pub at_byte : (bytes : List ℕ) (f : TextFault) → end_fault_of bytes ≡ Some f → NotOpen f.kind → f.at < length bytes
at_byte bytes f e k = elim (cases_lt f.at (length bytes)) [
  | inl l ↦ l
  | inr g ↦ absurd (elim (subst MayGoOn (take_all f.at bytes g) (before_fault bytes f e)) [
    | inl x ↦ some_fault f (sym e ∙ x)
    | inr x ↦ subst NotOpen (same_kind f kinds.OpenTag (length bytes) (sym e ∙ x)).0 k
  ])
]

pub bad_mark : (bytes : List ℕ) (f : TextFault) → end_fault_of bytes ≡ Some f → f.kind ≡ kinds.BadMark → IsBadMark bytes f.at
bad_mark bytes f e k = record {
  within = at_byte bytes f e (subst NotOpen (sym k) tt);
  before = subst Begins (sym (append-nil (take f.at bytes))) (goes_on_begins (take f.at bytes) (before_fault bytes f e));
  through = λ b. through_mark bytes f e k (begins_goes_on (take (f.at + 1) bytes) (subst Begins (append-nil (take (f.at + 1) bytes)) b));
}

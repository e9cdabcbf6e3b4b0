-- What follows a text that has no fault so far may break it: a byte that never stands in UTF-8, one that no end tag's name has,
-- or the rest of a document type's word.
use Rattle.std.proofs.Common.{◌≡◌, ℕ, ◌≤◌, ◌<◌, Bool, true, false, cond, List, [], ◌∷◌, ◌++◌, length, refl, sym, ◌∙◌, ap, subst, arith, Option, Some, None, zero, suc, codes}
use Rattle.std.proofs.Math.Seq.{take-length}
use Rattle.std.proofs.lemmas.Bool.{and_from, cond-true, or_right, lt-ltb}
use Rattle.std.specs.Prelude.{nat_lt, ◌==◌, ◌||◌}
use Rattle.xmi_text.specs.ByteClass.{within}
use Rattle.xmi_text.specs.AttrNames.{has_name}
use Rattle.xmi_text.specs.UtfEight as utf
use Rattle.xmi_text.specs.References as refs
use Rattle.xmi_text.specs.States.{fail, complete, cleared}
use Rattle.xmi_text.specs.Automaton as automaton
use Rattle.xmi_text.specs.Automaton.{step_by, wanted, end_fault, fault_at}
use Rattle.xmi_text.specs.Fixing.{are_bytes}
use Rattle.xmi_text.specs.Reading.{state_from, marks_from, state_of}
use Rattle.xmi_text.specs.declared.error.TextFault.{TextFault}
use Rattle.xmi_text.specs.declared.error.TextKind.{TextKind}
use Rattle.xmi_text.specs.declared.error.TextKind.TheVariants as kinds
use Rattle.xmi_text.specs.declared.reference.Reference.{Reference}
use Rattle.xmi_text.specs.declared.reference.Reference.TheVariants as ref
use Rattle.xmi_text.specs.declared.utf_eight.Partial.{Partial}
use Rattle.xmi_text.specs.declared.utf_eight.Rest.{Rest}
use Rattle.xmi_text.specs.declared.utf_eight.Rest.TheVariants as rests
use Rattle.xmi_text.specs.declared.utf_eight.Growth.TheVariants as growths
use Rattle.xmi_text.specs.declared.state.State.{State}
use Rattle.xmi_text.specs.declared.state.Mode.{Mode}
use Rattle.xmi_text.specs.declared.state.Mode.TheVariants as modes
use Rattle.xmi_text.proofs.completion.Sound.{Bits, Cut, NotOpen, sound_of}
use Rattle.xmi_text.proofs.reading.Staying.{idle_of}
use Rattle.xmi_text.proofs.faults.Lettered.{is_letter, lettered_wanted}
use Rattle.xmi_text.proofs.faults.Probes.{here, other_name}
use Rattle.xmi_text.proofs.faults.Told.{here_same}
use Rattle.xmi_text.proofs.faults.Reasons.{Goes}
use Rattle.xmi_text.proofs.faults.History.{Held, IsHeld, held_at}
use Rattle.xmi_text.proofs.faults.Probing.{past_by}

-- bytes behind a state that complete no mark, and lead to another fault than that of the text that ends there
pub record Breaks (s : State) (at : ℕ) : Type 0 where
  pub more : List ℕ
  pub bytes : are_bytes more ≡ true
  pub fault : TextFault
  pub failed : (state_from at s more).mode ≡ modes.Failed fault
  pub silent : marks_from at s more ≡ []
  pub differs : end_fault s at ≡ Some fault → ⊥

-- the kinds of faults at the end of a text that has none so far
abbrev Last : TextKind → Type 0
Last kinds.OpenTag = Unit {0}
Last kinds.BadMark = Unit {0}
Last _ = ⊥

abbrev AllLast : Option TextFault → Type 0
AllLast None = Unit {0}
AllLast (Some f) = Last f.kind

apart : (o : Option TextFault) (f : TextFault) → AllLast o → (Last f.kind → ⊥) → o ≡ Some f → ⊥
apart o f h n e = n (subst AllLast e h)

last_by : (b : Bool) (f g : TextFault) → Last f.kind → Last g.kind → Last (cond b f g).kind
last_by true f g x y = x
last_by false f g x y = y

start_last : (lead n : ℕ) (rest : Rest) → Last (automaton.cut_start_by lead n rest).kind
start_last lead n (rests.Three bits) = tt
start_last lead n (rests.Two bits) = last_by (bits == 15) (fault_at kinds.OpenTag n) (fault_at kinds.BadMark lead) tt tt
start_last lead n (rests.One bits) =
    last_by (bits == 0x3fb) (fault_at kinds.OpenTag n) (cond (within 0x3c0 0x3ff bits) (fault_at kinds.BadMark 1) (fault_at kinds.BadMark lead)) tt
    (last_by (within 0x3c0 0x3ff bits) (fault_at kinds.BadMark 1) (fault_at kinds.BadMark lead) tt tt)

cut_last : (s : State) (m : Mode) (p : Partial) (n : ℕ) → Last (automaton.cut_fault s m p n).kind
cut_last s modes.Start p n = start_last p.lead n p.rest
cut_last s m p n = last_by (automaton.admits s m) (fault_at kinds.OpenTag n) (fault_at kinds.BadMark p.lead) tt tt

-- ---- one byte

one_byte : (s : State) (m : Mode) (c : Option Partial) (at b : ℕ) (f : TextFault) → nat_lt b 256 ≡ true
    → step_by (here s m c) at b m ≡ fail (here s m c) f.kind f.at → (end_fault (here s m c) at ≡ Some f → ⊥) → Breaks (here s m c) at
one_byte s m c at b f h e d = record {
  more = b ∷ [];
  bytes = and_from (nat_lt b 256) true h refl;
  fault = f;
  failed = ap (λ (t : State). (cleared t).mode) e;
  silent = ap (λ (t : State). complete t ++ []) e;
  differs = d;
}

-- behind whole characters
no_utf8 : (s : State) (m : Mode) (at : ℕ) → AllLast (end_fault (here s m None) at)
    → step_by (here s m None) at 255 m ≡ fail (here s m None) kinds.BadUtf8 at → Breaks (here s m None) at
no_utf8 s m at h e = one_byte s m None at 255 (fault_at kinds.BadUtf8 at) refl e (apart (end_fault (here s m None) at) (fault_at kinds.BadUtf8 at) h (λ x. x))

rooted_last : (b : Bool) (f : TextFault) → Last f.kind → AllLast (cond b None (Some f))
rooted_last true f h = tt
rooted_last false f h = h

-- in a character
above : (rest : Rest) (low high : ℕ) → Bits rest low high → high < 255
above (rests.One bits) low high z = let e = z.4 in omega (arith, e)
above (rests.Two bits) low high z = let e = z.3 in omega (arith, e)
above (rests.Three bits) low high z = let e = z.3 in omega (arith, e)

no_part : (p : Partial) → Bits p.rest p.low p.high → utf.extended p 255 ≡ growths.Broken
no_part p z = cond-true (nat_lt 255 p.low || nat_lt p.high 255) _ _ (or_right (nat_lt 255 p.low) _ (lt-ltb p.high 255 (above p.rest p.low p.high z)))

in_character : (s : State) (m : Mode) (p : Partial) (at : ℕ) → Bits p.rest p.low p.high
    → step_by (here s m (Some p)) at 255 m ≡ automaton.partial (here s m (Some p)) m p at 255
    → end_fault (here s m (Some p)) at ≡ Some (automaton.cut_fault (here s m (Some p)) m p at) → Breaks (here s m (Some p)) at
in_character s m p at z e last =
    let u : State = here s m (Some p) in
    let f : TextFault = fault_at kinds.BadUtf8 p.lead in
    one_byte s m (Some p) at 255 f refl (e ∙ ap (automaton.partial_by u m p.lead at) (no_part p z))
    (λ x. apart (Some (automaton.cut_fault u m p at)) f (cut_last u m p at) (λ y. y) (sym last ∙ x))

-- in a reference
no_reference : (part : Reference) → refs.extended part 255 ≡ None
no_reference ref.Hash = refl
no_reference _ = refl

-- in an attribute's name
twins : (b : Bool) (f g : TextFault) (o : Option TextFault) (s : State) → AllLast o → (Last f.kind → ⊥) → (Last g.kind → ⊥)
    → (h : TextFault) × (cond b (fail s f.kind f.at) (fail s g.kind g.at) ≡ fail s h.kind h.at) × (o ≡ Some h → ⊥)
twins true f g o s l x y = (f, refl, apart o f l x)
twins false f g o s l x y = (g, refl, apart o g l y)

-- in an end tag's name, which has no `<`
end_name : (s : State) (less matched at : ℕ) (w : Option ℕ) → ((x : ℕ) → w ≡ Some x → is_letter x ≡ true)
    → (h : TextFault) × (automaton.end_name_by (here s (modes.EndName less matched) None) less matched at 60 w ≡ fail (here s (modes.EndName less matched) None) h.kind h.at) × NotOpen h.kind
end_name s less matched at None f = (fault_at kinds.BadMark at, refl, tt)
end_name s less matched at (Some w) f =
    (fault_at kinds.WrongEnd less, other_name s less matched at 60 w (f w refl) refl, tt)

in_end_name : (s : State) (less matched at : ℕ) → ((x : ℕ) → wanted s matched ≡ Some x → is_letter x ≡ true) → Breaks (here s (modes.EndName less matched) None) at
in_end_name s less matched at l =
    let r = end_name s less matched at (wanted s matched) l in
    one_byte s (modes.EndName less matched) None at 60 r.0 refl r.1
    (λ e. let same : fault_at kinds.OpenTag at ≡ r.0 = cc in subst (λ (f : TextFault). NotOpen f.kind) (sym same) r.2)

-- the rest of `DOCTYPE`
in_word : (s : State) (less word_at matched at : ℕ) (c : Option Partial) (more : List ℕ) → are_bytes more ≡ true
    → (state_from at (here s (modes.Doctype less word_at matched) c) more).mode ≡ modes.Failed (fault_at kinds.Doctype less)
    → marks_from at (here s (modes.Doctype less word_at matched) c) more ≡ [] → Breaks (here s (modes.Doctype less word_at matched) c) at
in_word s less word_at matched at c more b e n = record {
  more = more;
  bytes = b;
  fault = fault_at kinds.Doctype less;
  failed = e;
  silent = n;
  differs = apart (Some (fault_at kinds.BadMark word_at)) (fault_at kinds.Doctype less) tt (λ x. x);
}

word_breaks : (s : State) (less word_at matched at : ℕ) (c : Option Partial) → 1 ≤ matched → matched ≤ 6 → Breaks (here s (modes.Doctype less word_at matched) c) at
word_breaks s less word_at zero at c l h = absurd (omega arith)
word_breaks s less word_at (suc zero) at c l h = in_word s less word_at 1 at c (codes "OCTYPE") refl refl refl
word_breaks s less word_at (suc (suc zero)) at c l h = in_word s less word_at 2 at c (codes "CTYPE") refl refl refl
word_breaks s less word_at (suc (suc (suc zero))) at c l h = in_word s less word_at 3 at c (codes "TYPE") refl refl refl
word_breaks s less word_at (suc (suc (suc (suc zero)))) at c l h = in_word s less word_at 4 at c (codes "YPE") refl refl refl
word_breaks s less word_at (suc (suc (suc (suc (suc zero))))) at c l h = in_word s less word_at 5 at c (codes "PE") refl refl refl
word_breaks s less word_at (suc (suc (suc (suc (suc (suc zero)))))) at c l h = in_word s less word_at 6 at c (codes "E") refl refl refl
word_breaks s less word_at (suc (suc (suc (suc (suc (suc (suc n))))))) at c l h = absurd (omega arith)

-- ---- every place

abbrev Word : Mode → Type 0
Word (modes.Doctype less word_at matched) = (1 ≤ matched) × (matched ≤ 6)
Word _ = Unit {0}

breaks : (s : State) (m : Mode) (c : Option Partial) (at : ℕ) → Goes m → Word m → Cut c m → ((matched x : ℕ) → wanted s matched ≡ Some x → is_letter x ≡ true) → Breaks (here s m c) at
breaks s (modes.Failed f) c at g w z l = absurd g
breaks s (modes.Doctype less word_at matched) c at g w z l = word_breaks s less word_at matched at c w.0 w.1
breaks s (modes.EndName less matched) None at g w z l = in_end_name s less matched at (l matched)
breaks s (modes.EndName less matched) (Some p) at g w z l = absurd z.0
breaks s (modes.Reference amp place part) None at g w z l =
    let u : State = here s (modes.Reference amp place part) None in
    let f : TextFault = fault_at kinds.BadEntity amp in
    one_byte s (modes.Reference amp place part) None at 255 f refl (ap (automaton.reference_on u amp place) (no_reference part))
    (apart (end_fault u at) f tt (λ x. x))
breaks s (modes.Reference amp place part) (Some p) at g w z l = absurd z.0
breaks s (modes.AttrName colon) None at g w z l =
    let u : State = here s (modes.AttrName colon) None in
    let r = twins (has_name s.attrs s.attr.name) (fault_at kinds.DuplicateAttribute s.attr.at) (fault_at kinds.BadUtf8 at) (end_fault u at) u tt (λ x. x) (λ x. x) in
    one_byte s (modes.AttrName colon) None at 255 r.0 refl r.1 r.2
breaks s modes.Outside None at g w z l = no_utf8 s modes.Outside at (rooted_last s.rooted (fault_at kinds.OpenTag at) tt) refl
breaks s m None at g w z l = no_utf8 s m at tt refl
breaks s m (Some p) at g w z l = in_character s m p at z.1 refl refl

word_of : (xs : List ℕ) (s : State) (m : Mode) (c : Option Partial) → Held xs s m c → Cut c m → Word m
word_of xs s (modes.Doctype less word_at matched) c h z = let past = past_by xs s (modes.Doctype less word_at matched) c h z (λ x. x) tt in (past.0, past.1)
word_of xs s _ c h z = tt

-- all bytes that have no fault so far may be broken
pub broken : (bytes : List ℕ) → Goes (state_of bytes).mode → Breaks (state_of bytes) (length bytes)
broken bytes g =
    let s : State = state_of bytes in
    let held : IsHeld bytes s = subst (λ (xs : List ℕ). IsHeld xs (state_of xs)) (take-length bytes) (held_at bytes (length bytes) (omega arith)) in
    let z = sound_of bytes in
    subst (λ (t : State). Breaks t (length bytes)) (here_same s (idle_of bytes))
    (breaks s s.mode s.partial (length bytes) g (word_of bytes s s.mode s.partial held z.cut) z.cut (lettered_wanted bytes))

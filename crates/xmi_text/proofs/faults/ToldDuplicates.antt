-- A second attribute of one name is told.
use Rattle.std.proofs.Common.{◌≡◌, ℕ, ◌+◌, ◌≤◌, ◌<◌, Bool, true, false, cond, List, [], ◌∷◌, ◌++◌, length, take, drop, refl, sym, ◌∙◌, ap, subst, arith, Option, None, inl, inr}
use Rattle.std.proofs.Math.Seq.{take-add}
use Rattle.std.proofs.lemmas.Bool.{or_parts, and_from, lt-ltb, le-ltb, cond-true, cond-false, cases_lt, true_from_ne_false, not_from_false}
use Rattle.std.proofs.lemmas.List.{length-take-le}
use Rattle.std.specs.Prelude.{nat_lt, ◌==◌, ◌||◌, not}
use lib.Utf8.{encodes, scalars}
use Rattle.xmi_text.specs.ByteClass.{within, continues_name, holds_in_name}
use Rattle.xmi_text.specs.Names.{is_name}
use Rattle.xmi_text.specs.AttrNames.{has_name}
use Rattle.xmi_text.specs.States.{go, fail, cleared}
use Rattle.xmi_text.specs.Automaton as automaton
use Rattle.xmi_text.specs.Automaton.{step, step_by, fault_at}
use Rattle.xmi_text.specs.Reading.{state_from, state_of}
use Rattle.xmi_text.specs.Faults.{Stands, IsDuplicate}
use Rattle.xmi_text.specs.declared.error.TextKind.TheVariants as kinds
use Rattle.xmi_text.specs.declared.utf_eight.Partial.{Partial}
use Rattle.xmi_text.specs.declared.state.State.{State}
use Rattle.xmi_text.specs.declared.state.Mode.{Mode}
use Rattle.xmi_text.specs.declared.state.Mode.TheVariants as modes
use Rattle.xmi_text.specs.declared.state.Ready.{Ready}
use Rattle.xmi_text.specs.declared.state.Ready.TheVariants as ready
use Rattle.xmi_text.proofs.completion.Sound.{IsSound, sound_of}
use Rattle.xmi_text.proofs.reading.Reached.{state_from-append, state_of-append}
use Rattle.xmi_text.proofs.reading.Staying.{idle_of}
use Rattle.xmi_text.proofs.completion.Ending.{Dead, IsDead}
use Rattle.xmi_text.proofs.forward.Encoded.{at_mode}
use Rattle.xmi_text.proofs.forward.TagSteps.{begun, attr_name_walk}
use Rattle.xmi_text.proofs.faults.Lettered.{lettered_wanted}
use Rattle.xmi_text.proofs.faults.Probes.{here, Ends, ends_on}
use Rattle.xmi_text.proofs.faults.Blanks.{BlankBy, Blanked, after_blank, text_alive, closed_ends}
use Rattle.xmi_text.proofs.faults.Told.{state_at, begins_split, stands_within, may_go, may_not, told, told_here, here_same, IsTold}

-- ---- behind a blank

take_one : (b : ℕ) (rest : List ℕ) → take 1 (b ∷ rest) ≡ b ∷ []
take_one b [] = refl
take_one b (x ∷ rest) = refl

blank_there : (bytes : List ℕ) (place b : ℕ) → Stands bytes place (b ∷ []) → Rattle.mof_metamodel.specs.Characters.is_blank b ≡ true → Blanked (state_at bytes (place + 1))
blank_there bytes place b e k =
    let first : List ℕ = take place bytes in
    let t : State = state_of first in
    let inside = stands_within bytes place b [] e in
    let split = begins_split (b ∷ []) (drop place bytes) e in
    let last : take 1 (drop place bytes) ≡ b ∷ [] = ap (take 1) split.1 ∙ take_one b split.0 in
    let is : state_at bytes (place + 1) ≡ cleared (step t place b) =
    ap state_of (take-add place 1 bytes ∙ ap (λ (xs : List ℕ). first ++ xs) last) ∙ state_of-append first (b ∷ []) ∙ ap (λ (n : ℕ). cleared (step t n b)) (length-take-le place bytes (omega (arith, inside))) in
    let same = here_same t (idle_of first) in
    let after = after_blank t t.mode t.partial place b k (subst IsSound (sym same) (sound_of first)) (lettered_wanted first) in
    subst Blanked (sym is) (subst (λ (u : State). Blanked (cleared (step u place b))) same after)

-- ---- where an attribute may stand

record InTag (s : State) (m : Mode) (c : Option Partial) : Type 0 where
  tag : m ≡ modes.Tag
  uncut : c ≡ None
  returned : s.returned ≡ false

in_tag : (s : State) (m : Mode) (c : Option Partial) (n : ℕ) (name other : List ℕ) → BlankBy m c s.returned → IsSound (here s m c) → (IsDead s m c → ⊥)
    → (Ends (here s m c) n (encodes other ++ 61 ∷ []) → ⊥) → Ends (here s m c) n (encodes name ++ 61 ∷ []) → is_name other ≡ true → scalars name ≡ true → is_name name ≡ true → InTag s m c
in_tag s (modes.Failed f) c n name other b z alive free taken o ok named = absurd (alive tt)
in_tag s (modes.Doctype less word_at matched) c n name other b z alive free taken o ok named = absurd (alive tt)
in_tag s modes.Outside None n name other b z alive free taken o ok named = absurd (free (closed_ends other s modes.Outside n (61 ∷ []) tt z o))
in_tag s modes.AfterName None n name other b z alive free taken o ok named = absurd (free (closed_ends other s modes.AfterName n (61 ∷ []) tt z o))
in_tag s modes.BeforeValue None n name other b z alive free taken o ok named = absurd (free (closed_ends other s modes.BeforeValue n (61 ∷ []) tt z o))
in_tag s (modes.EndTail less) None n name other b z alive free taken o ok named = absurd (free (closed_ends other s (modes.EndTail less) n (61 ∷ []) tt z o))
in_tag s modes.Inside None n name other b z alive free taken o ok named = absurd (text_alive name (here s modes.Inside None) n (record { mode = tt; uncut = refl; idle = refl }) ok named taken)
in_tag s modes.Comment None n name other b z alive free taken o ok named = absurd (text_alive name (here s modes.Comment None) n (record { mode = tt; uncut = refl; idle = refl }) ok named taken)
in_tag s (modes.Cdata held) None n name other b z alive free taken o ok named = absurd (text_alive name (here s (modes.Cdata held) None) n (record { mode = tt; uncut = refl; idle = refl }) ok named taken)
in_tag s modes.Instruction None n name other b z alive free taken o ok named = absurd (text_alive name (here s modes.Instruction None) n (record { mode = tt; uncut = refl; idle = refl }) ok named taken)
in_tag s (modes.Value q) None n name other b z alive free taken o ok named = absurd (text_alive name (here s (modes.Value q) None) n (record { mode = tt; uncut = refl; idle = refl }) ok named taken)
in_tag s modes.Tag None n name other b z alive free taken o ok named = record { tag = refl; uncut = refl; returned = b }
in_tag s m c n name other b z alive free taken o ok named = absurd b

tag_same : (s : State) → InTag s s.mode s.partial → s.ready ≡ ready.Nothing → s ≡ at_mode s modes.Tag false
tag_same s t i =
    ap (λ (m : Mode). record s { mode = m }) t.tag
    ∙ ap (λ (c : Option Partial). record s { mode = modes.Tag; partial = c }) t.uncut
    ∙ ap (λ (r : Bool). record s { mode = modes.Tag; partial = None; returned = r }) t.returned
    ∙ ap (λ (q : Ready). record s { mode = modes.Tag; partial = None; returned = false; ready = q }) i

-- ---- behind an attribute's name

abbrev named_there : State → ℕ → List ℕ → Bool → State
named_there s n name k = at_mode (begun s n name) (modes.AttrName k) false

new_goes : (s : State) (n at : ℕ) (name : List ℕ) (k : Bool) → has_name s.attrs name ≡ false → Dead (cleared (step (named_there s n name k) at 61)) → ⊥
new_goes s n at name k e d = subst (λ (q : Bool). Dead (cleared (cond q (fail (named_there s n name k) kinds.DuplicateAttribute n) (go (named_there s n name k) modes.BeforeValue)))) e d

twin_fails : (s : State) (n at b : ℕ) (name : List ℕ) (k : Bool) → has_name s.attrs name ≡ true → holds_in_name b ≡ false → (cleared (step (named_there s n name k) at b)).mode ≡ modes.Failed (fault_at kinds.DuplicateAttribute n)
twin_fails s n at b name k e h =
    let u : State = named_there s n name k in
    let f : State = fail u kinds.DuplicateAttribute n in
    let p = or_parts (continues_name b || (b == 58) || within 0x80 0xbf b) (within 0xc2 0xf4 b) h in
    let q = or_parts (continues_name b || (b == 58)) (within 0x80 0xbf b) p.0 in
    let r = or_parts (continues_name b) (b == 58) q.0 in
    let low : b < 128 → step u at b ≡ f = λ l. cond-true (nat_lt b 128) _ _ (lt-ltb b 128 l) ∙ cond-false (b == 58) _ _ r.1 ∙ cond-false (continues_name b) _ _ r.0 ∙ cond-true (has_name s.attrs name) _ _ e in
    let high : 128 ≤ b → step u at b ≡ f =
    λ l. cond-false (nat_lt b 128) _ _ (le-ltb b 128 l) ∙ cond-true (automaton.ends_twin u (modes.AttrName k) b) _ _ (and_from (not (holds_in_name b)) (has_name s.attrs name) (not_from_false (holds_in_name b) h) e) in
    let stepped : step u at b ≡ f = elim (cases_lt b 128) [ inl l ↦ low l | inr l ↦ high l ] in
    ap (λ (t : State). (cleared t).mode) stepped

pub duplicate_told : (bytes : List ℕ) (n : ℕ) → IsDuplicate bytes n → IsTold bytes kinds.DuplicateAttribute n
duplicate_told bytes n f =
    let s : State = state_at bytes n in
    let behind = f.behind in
    let last = stands_within bytes f.place f.blank [] behind.1 in
    let here' : n ≡ f.place + 1 = behind.0 in
    let h : n ≤ length bytes = omega (arith, last, here') in
    let blanked : Blanked s = subst (λ (k : ℕ). Blanked (state_at bytes k)) (sym here') (blank_there bytes f.place f.blank behind.1 behind.2) in
    let sound = sound_of (take n bytes) in
    let idle = idle_of (take n bytes) in
    let same = here_same s idle in
    let free : Ends s n (encodes f.other ++ 61 ∷ []) → ⊥ = λ d. may_go bytes n (encodes f.other ++ 61 ∷ []) h f.free d in
    let taken : Ends s n (encodes f.name ++ 61 ∷ []) = may_not bytes n (encodes f.name ++ 61 ∷ []) h f.taken in
    let tag = in_tag s s.mode s.partial n f.name f.other blanked (subst IsSound (sym same) sound) (λ d. free (ends_on n s (encodes f.other ++ 61 ∷ []) sound d))
    (λ d. free (subst (λ (t : State). Ends t n (encodes f.other ++ 61 ∷ [])) same d)) (subst (λ (t : State). Ends t n (encodes f.name ++ 61 ∷ [])) (sym same) taken) f.other_named f.scalars f.named in
    let w = attr_name_walk n s f.name f.scalars f.named in
    let end : ℕ = n + length (encodes f.name) in
    let reach : (x : ℕ) → state_from n s (encodes f.name ++ x ∷ []) ≡ cleared (step (named_there s n f.name w.0) end x) =
    λ x. ap (λ (t : State). state_from n t (encodes f.name ++ x ∷ [])) (tag_same s tag idle) ∙ state_from-append (encodes f.name) (x ∷ []) n (at_mode s modes.Tag false) ∙ ap (λ (t : State). state_from end t (x ∷ [])) w.1.state in
    let has : has_name s.attrs f.name ≡ true = true_from_ne_false (has_name s.attrs f.name) (λ e. new_goes s n end f.name w.0 e (subst Dead (reach 61) taken)) in
    told_here bytes kinds.DuplicateAttribute n n refl
    (told bytes n (encodes f.name ++ f.byte ∷ []) (fault_at kinds.DuplicateAttribute n) h f.there (ap (λ (t : State). t.mode) (reach f.byte) ∙ twin_fails s n end f.byte f.name w.0 has f.ends))

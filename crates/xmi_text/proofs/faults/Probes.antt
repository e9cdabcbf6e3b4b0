-- What bytes that may follow tell of the state: where markup begins, where a reference does, and where a name has a colon.
use Rattle.std.proofs.Common.{◌≡◌, ℕ, ◌+◌, ◌≤◌, ◌<◌, Bool, true, false, cond, List, [], ◌∷◌, refl, sym, ◌∙◌, ap, subst, arith, Option, Some, None, inl, inr, true≢false}
use Rattle.std.proofs.lemmas.Bool.{or_left, lt-ltb, cond-true, cond-false, eqb-true, cases_Bool, false_from_ne_true}
use Rattle.std.specs.Prelude.{nat_lt, ◌==◌, ◌||◌, not}
use Rattle.xmi_text.specs.AttrNames.{has_name}
use Rattle.xmi_text.specs.UtfEight as utf
use Rattle.xmi_text.specs.References as refs
use Rattle.xmi_text.specs.States as states
use Rattle.xmi_text.specs.States.{go, fail, is_inside, cleared, cleared_by}
use Rattle.xmi_text.specs.Steps as steps
use Rattle.xmi_text.specs.Automaton as automaton
use Rattle.xmi_text.specs.Automaton.{step, step_by, wanted}
use Rattle.xmi_text.specs.Reading.{state_from}
use Rattle.xmi_text.specs.declared.error.TextKind.TheVariants as kinds
use Rattle.xmi_text.specs.declared.reference.Reference.{Reference}
use Rattle.xmi_text.specs.declared.reference.Reference.TheVariants as ref
use Rattle.xmi_text.specs.declared.utf_eight.Partial.{Partial}
use Rattle.xmi_text.specs.declared.utf_eight.Rest.{Rest}
use Rattle.xmi_text.specs.declared.utf_eight.Rest.TheVariants as rests
use Rattle.xmi_text.specs.declared.utf_eight.Growth.{Growth}
use Rattle.xmi_text.specs.declared.utf_eight.Growth.TheVariants as growths
use Rattle.xmi_text.specs.declared.state.State.{State}
use Rattle.xmi_text.specs.declared.state.Mode.{Mode}
use Rattle.xmi_text.specs.declared.state.Mode.TheVariants as modes
use Rattle.xmi_text.specs.declared.state.Quote.TheVariants as quotes
use Rattle.xmi_text.specs.declared.state.Ready.TheVariants as ready
use Rattle.xmi_text.proofs.completion.Sound.{Bits, IsSound, next_sound}
use Rattle.xmi_text.proofs.completion.Ending.{Dead, dead_step, dead_cleared}
use Rattle.xmi_text.proofs.faults.Lettered.{is_letter}

-- a state in which no mark waits
abbrev pub here : State → Mode → Option Partial → State
here s m c = record s { mode = m; partial = c; ready = ready.Nothing }

-- nothing makes whole what stands behind these bytes
abbrev pub Ends : State → ℕ → List ℕ → Type 0
Ends s at bytes = Dead (state_from at s bytes)

-- and behind a byte that leads to this state
abbrev pub EndsIn : ℕ → List ℕ → State → Type 0
EndsIn at bytes t = Dead (state_from at (cleared t) bytes)

pub ends_on : (at : ℕ) (s : State) (bytes : List ℕ) → IsSound s → Dead s → Ends s at bytes
ends_on at s [] z d = d
ends_on at s (b ∷ bytes) z d =
    let t : State = step s at b in
    ends_on (at + 1) (cleared t) bytes (next_sound s at b z) (dead_cleared t t.ready t.mode t.partial refl refl (dead_step s at b s.mode s.partial refl refl z.cut d))

pub both_end : (at : ℕ) (bytes : List ℕ) (b : Bool) (x y : State) → EndsIn at bytes x → EndsIn at bytes y → EndsIn at bytes (cond b x y)
both_end at bytes true x y p q = p
both_end at bytes false x y p q = q

low_bound : (rest : Rest) (low high : ℕ) → Bits rest low high → 128 ≤ low
low_bound (rests.One bits) low high z = let e = z.3 in omega (arith, e)
low_bound (rests.Two bits) low high z = z.1
low_bound (rests.Three bits) low high z = z.1

-- an ASCII byte in a character
pub broken : (p : Partial) (b : ℕ) → b < 128 → Bits p.rest p.low p.high → utf.extended p b ≡ growths.Broken
broken p b h z = cond-true (nat_lt b p.low || nat_lt p.high b) _ _ (or_left (nat_lt b p.low) _ (lt-ltb b p.low (omega (arith, low_bound p.rest p.low p.high z))))

pub cut_ends : (s : State) (m : Mode) (p : Partial) (at b : ℕ) (bytes : List ℕ) → b < 128 → Bits p.rest p.low p.high → EndsIn (at + 1) bytes (automaton.partial_by (here s m (Some p)) m p.lead at growths.Broken) → EndsIn (at + 1) bytes (automaton.partial (here s m (Some p)) m p at b)
cut_ends s m p at b bytes h z d = subst (λ (g : Growth). EndsIn (at + 1) bytes (automaton.partial_by (here s m (Some p)) m p.lead at g)) (sym (broken p b h z)) d

wanted_by : (b : Bool) (x y : Option ℕ) (c : ℕ) → steps.is_wanted x c ≡ false → steps.is_wanted y c ≡ false → steps.is_wanted (cond b x y) c ≡ false
wanted_by true x y c p q = p
wanted_by false x y c p q = q

-- a byte of no `[CDATA[`
pub cdata_other : (matched b : ℕ) → (67 == b) ≡ false → (68 == b) ≡ false → (65 == b) ≡ false → (84 == b) ≡ false → (91 == b) ≡ false → steps.is_wanted (steps.cdata_byte matched) b ≡ false
cdata_other matched b c d a t k =
    wanted_by (matched == 1) _ _ b c (wanted_by (matched == 2) _ _ b d (wanted_by (matched == 3) _ _ b a (wanted_by (matched == 4) _ _ b t (wanted_by (matched == 5) _ _ b a (wanted_by (matched == 6) _ _ b k refl)))))

-- ---- markup

no_letter : (w b : ℕ) → is_letter w ≡ true → is_letter b ≡ false → (w == b) ≡ true → ⊥
no_letter w b h n e = true≢false (sym h ∙ ap is_letter (eqb-true w b e) ∙ n)

-- a byte of no name in an end tag's
pub other_name : (s : State) (less matched at b w : ℕ) → is_letter w ≡ true → is_letter b ≡ false
    → automaton.end_name_by (here s (modes.EndName less matched) None) less matched at b (Some w) ≡ fail (here s (modes.EndName less matched) None) kinds.WrongEnd less
other_name s less matched at b w h n = cond-false (w == b) _ _ (false_from_ne_true (w == b) (no_letter w b h n))

pub record Marks (s : State) (m : Mode) (c : Option Partial) (at : ℕ) : Type 0 where
  pub uncut : c ≡ None
  pub step : step_by (here s m c) at 60 m ≡ go (here s m c) (modes.Less at)

less_no_reference : (part : Reference) → refs.extended part 60 ≡ None
less_no_reference ref.Hash = refl
less_no_reference _ = refl

less_no_name : (s : State) (less matched at : ℕ) (w : Option ℕ) → ((x : ℕ) → w ≡ Some x → is_letter x ≡ true) → EndsIn (at + 1) (33 ∷ 45 ∷ 45 ∷ []) (automaton.end_name_by (here s (modes.EndName less matched) None) less matched at 60 w)
less_no_name s less matched at None f = tt
less_no_name s less matched at (Some w) f = subst (EndsIn (at + 1) (33 ∷ 45 ∷ 45 ∷ [])) (sym (other_name s less matched at 60 w (f w refl) refl)) tt

pub markup_here : (s : State) (m : Mode) (c : Option Partial) (at : ℕ) → IsSound (here s m c) → ((matched x : ℕ) → wanted s matched ≡ Some x → is_letter x ≡ true)
    → (Ends (here s m c) at (60 ∷ 33 ∷ 45 ∷ 45 ∷ []) → ⊥) → Ends (here s m c) at (60 ∷ 32 ∷ []) → Marks s m c at
markup_here s (modes.Failed f) c at z l a d = absurd (a tt)
markup_here s (modes.Doctype less word_at matched) c at z l a d = absurd (a (ends_on at (here s (modes.Doctype less word_at matched) c) (60 ∷ 33 ∷ 45 ∷ 45 ∷ []) z tt))
markup_here s (modes.EndName less matched) (Some p) at z l a d = let k = z.cut in absurd k.0
markup_here s (modes.Reference amp place part) (Some p) at z l a d = let k = z.cut in absurd k.0
markup_here s modes.Start None at z l a d = record { uncut = refl; step = refl }
markup_here s modes.Outside None at z l a d = record { uncut = refl; step = refl }
markup_here s modes.Inside None at z l a d = record { uncut = refl; step = refl }
markup_here s modes.Comment None at z l a d = absurd d
markup_here s modes.CommentDash None at z l a d = absurd d
markup_here s modes.CommentDashes None at z l a d = absurd d
markup_here s (modes.CdataStart matched) None at z l a d =
    let t : State = here s (modes.CdataStart matched) None in
    absurd (a (subst (λ (q : Bool). EndsIn (at + 1) (33 ∷ 45 ∷ 45 ∷ []) (cond (not q) (fail t kinds.BadMark at) (cond (nat_lt matched 6) (go t (modes.CdataStart (matched + 1))) (go t states.cdata)))) (sym (cdata_other matched 60 refl refl refl refl refl)) tt))
markup_here s (modes.Cdata held) None at z l a d = absurd d
markup_here s (modes.Target colon) None at z l a d = absurd d
markup_here s modes.Instruction None at z l a d = absurd d
markup_here s modes.InstructionQuestion None at z l a d = absurd d
markup_here s (modes.AttrName colon) None at z l a d =
    let t : State = here s (modes.AttrName colon) None in
    absurd (a (both_end (at + 1) (33 ∷ 45 ∷ 45 ∷ []) (has_name s.attrs s.attr.name) (fail t kinds.DuplicateAttribute s.attr.at) (fail t kinds.BadMark at) tt tt))
markup_here s (modes.Value quotes.Double) None at z l a d = absurd (a tt)
markup_here s (modes.Value quotes.Single) None at z l a d = absurd (a tt)
markup_here s (modes.EndName less matched) None at z l a d = absurd (a (less_no_name s less matched at (wanted s matched) (l matched)))
markup_here s (modes.Reference amp place part) None at z l a d =
    let t : State = here s (modes.Reference amp place part) None in
    absurd (a (subst (λ (o : Option Reference). EndsIn (at + 1) (33 ∷ 45 ∷ 45 ∷ []) (automaton.reference_on t amp place o)) (sym (less_no_reference part)) tt))
markup_here s m None at z l a d = absurd (a tt)
markup_here s m (Some p) at z l a d = let k = z.cut in absurd (a (cut_ends s m p at 60 (33 ∷ 45 ∷ 45 ∷ []) (omega arith) k.1 tt))

-- ---- a second colon

abbrev Colons : State → Mode → Option Partial → ℕ → Type 0
Colons s m c at = step_by (here s m c) at 58 m ≡ fail (here s m c) kinds.BadName at

dot_no_reference : (part : Reference) → refs.extended part 46 ≡ None
dot_no_reference ref.Hash = refl
dot_no_reference _ = refl

-- a name goes on with one byte
one_byte : (s : State) (less matched at : ℕ) (w : Option ℕ)
    → (EndsIn (at + 1) [] (automaton.end_name_by (here s (modes.EndName less matched) None) less matched at 46 w) → ⊥)
    → (EndsIn (at + 1) [] (automaton.end_name_by (here s (modes.EndName less matched) None) less matched at 45 w) → ⊥) → ⊥
one_byte s less matched at None dot dash = dot tt
one_byte s less matched at (Some w) dot dash =
    let t : State = here s (modes.EndName less matched) None in
    let other : (b : ℕ) → (w == b) ≡ false → EndsIn (at + 1) [] (cond (w == b) (go t (modes.EndName less (matched + 1))) (fail t kinds.WrongEnd less)) =
    λ b e. subst (λ (q : Bool). EndsIn (at + 1) [] (cond q (go t (modes.EndName less (matched + 1))) (fail t kinds.WrongEnd less))) (sym e) tt in
    elim (cases_Bool (w == 46)) [
      | inl e ↦ dash (other 45 (ap (λ (x : ℕ). x == 45) (eqb-true w 46 e)))
      | inr e ↦ dot (other 46 e)
    ]

pub colon_here : (s : State) (m : Mode) (c : Option Partial) (at : ℕ) → IsSound (here s m c)
    → (Ends (here s m c) at (46 ∷ []) → ⊥) → (Ends (here s m c) at (45 ∷ []) → ⊥) → Ends (here s m c) at (58 ∷ []) → Colons s m c at
colon_here s (modes.Failed f) c at z a e d = absurd (a tt)
colon_here s (modes.Doctype less word_at matched) c at z a e d = absurd (a (ends_on at (here s (modes.Doctype less word_at matched) c) (46 ∷ []) z tt))
colon_here s (modes.EndName less matched) (Some p) at z a e d = let k = z.cut in absurd k.0
colon_here s (modes.Reference amp place part) (Some p) at z a e d = let k = z.cut in absurd k.0
colon_here s modes.Inside None at z a e d = absurd d
colon_here s modes.Comment None at z a e d = absurd d
colon_here s modes.CommentDash None at z a e d = absurd d
colon_here s modes.CommentDashes None at z a e d = absurd d
colon_here s (modes.CdataStart matched) None at z a e d =
    let t : State = here s (modes.CdataStart matched) None in
    absurd (a (subst (λ (q : Bool). EndsIn (at + 1) [] (cond (not q) (fail t kinds.BadMark at) (cond (nat_lt matched 6) (go t (modes.CdataStart (matched + 1))) (go t states.cdata)))) (sym (cdata_other matched 46 refl refl refl refl refl)) tt))
colon_here s (modes.Cdata held) None at z a e d = absurd d
colon_here s (modes.Target true) None at z a e d = refl
colon_here s (modes.Target false) None at z a e d = absurd d
colon_here s modes.Instruction None at z a e d = absurd d
colon_here s modes.InstructionQuestion None at z a e d = absurd d
colon_here s (modes.TagName true) None at z a e d = refl
colon_here s (modes.TagName false) None at z a e d = absurd d
colon_here s (modes.AttrName true) None at z a e d = refl
colon_here s (modes.AttrName false) None at z a e d = absurd d
colon_here s (modes.Value quotes.Double) None at z a e d = absurd d
colon_here s (modes.Value quotes.Single) None at z a e d = absurd d
colon_here s (modes.EndName less matched) None at z a e d = absurd (one_byte s less matched at (wanted s matched) a e)
colon_here s (modes.Reference amp place part) None at z a e d =
    let t : State = here s (modes.Reference amp place part) None in
    absurd (a (subst (λ (o : Option Reference). EndsIn (at + 1) [] (automaton.reference_on t amp place o)) (sym (dot_no_reference part)) tt))
colon_here s m None at z a e d = absurd (a tt)
colon_here s m (Some p) at z a e d = let k = z.cut in absurd (a (cut_ends s m p at 46 [] (omega arith) k.1 tt))

-- That no bytes make whole what may not go on.
use Rattle.std.proofs.Common.{◌≡◌, ℕ, ◌+◌, ◌*◌, ◌%◌, ◌≤◌, ◌⊎◌, Bool, true, false, cond, List, [], ◌∷◌, ◌++◌, length, refl, sym, ◌∙◌, ap, subst, arith, Option, Some, None, inl, inr, true≢false}
use Rattle.std.proofs.lemmas.Bool.{or_parts, ltb-false, ne_eqb, eqb-false, cases_Bool}
use Rattle.std.specs.Prelude.{nat_lt, ◌==◌, ◌||◌, not}
use Rattle.xmi_text.specs.declared.limits.TheConstants.{MAX_XMI_NESTING}
use Rattle.xmi_text.specs.ByteClass.{within}
use Rattle.xmi_text.specs.UtfEight as utf
use Rattle.xmi_text.specs.States.{is_inside, cleared, cleared_by}
use Rattle.xmi_text.specs.Steps as steps
use Rattle.xmi_text.specs.Automaton as automaton
use Rattle.xmi_text.specs.Automaton.{step, step_by, end_fault, end_fault_by, fault_at}
use Rattle.xmi_text.specs.Reading.{state_from, state_of, end_fault_of}
use Rattle.xmi_text.specs.Completion.{MayGoOn}
use Rattle.xmi_text.specs.declared.error.TextKind.TheVariants as kinds
use Rattle.xmi_text.specs.declared.utf_eight.Partial.{Partial}
use Rattle.xmi_text.specs.declared.utf_eight.Rest.{Rest}
use Rattle.xmi_text.specs.declared.utf_eight.Rest.TheVariants as rests
use Rattle.xmi_text.specs.declared.utf_eight.Growth.{Growth}
use Rattle.xmi_text.specs.declared.utf_eight.Growth.TheVariants as growths
use Rattle.xmi_text.specs.declared.state.State.{State}
use Rattle.xmi_text.specs.declared.state.Mode.{Mode}
use Rattle.xmi_text.specs.declared.state.Mode.TheVariants as modes
use Rattle.xmi_text.specs.declared.state.Ready.{Ready}
use Rattle.xmi_text.specs.declared.state.Ready.TheVariants as ready
use Rattle.xmi_text.proofs.completion.Sound.{Bits, Cut, IsSound, sound_of, next_sound}
use Rattle.xmi_text.proofs.completion.Completing.{Open, some_fault}
use Rattle.xmi_text.proofs.reading.Reached.{state_of-append}

-- a character that isn't a byte order mark so far
abbrev pub IsNoMark : Rest → Type 0
IsNoMark (rests.Three bits) = Unit {0}
IsNoMark (rests.Two bits) = (bits == 15) ≡ false
IsNoMark (rests.One bits) = (bits == 0x3fb) ≡ false

-- a state that no byte leads out of to a whole text: a fault, a part of `<!DOCTYPE`, or a character that may not stand
-- there
abbrev pub IsDead : State → Mode → Option Partial → Type 0
IsDead s (modes.Failed f) c = Unit {0}
IsDead s (modes.Doctype less word_at matched) c = Unit {0}
IsDead s m None = ⊥
IsDead s modes.Start (Some p) = IsNoMark p.rest
IsDead s m (Some p) = automaton.admits s m ≡ false

-- the state itself is one
abbrev pub Dead : State → Type 0
Dead s = IsDead s s.mode s.partial

dead : (b : Bool) (x y : State) → (b ≡ true → Dead x) → (b ≡ false → Dead y) → Dead (cond b x y)
dead true x y f g = f refl
dead false x y f g = g refl

doctype_dead : (s : State) (less word_at matched b : ℕ) → Dead (steps.doctype s less word_at matched b)
doctype_dead s less word_at matched b =
    dead (not (steps.is_wanted (steps.doctype_byte matched) b)) _ _ (λ _. tt) (λ _. dead (nat_lt matched 6) _ _ (λ _. tt) (λ _. tt))

-- behind a whole character
abbrev Ended : State → Type 0
Ended s = Dead (record s { partial = None })

ended : (b : Bool) (x y : State) → (b ≡ true → Ended x) → (b ≡ false → Ended y) → Ended (cond b x y)
ended true x y f g = f refl
ended false x y f g = g refl

element_ended : (s : State) (inside few rooted : Bool) (x y z w : State) → cond inside few (not rooted) ≡ false → Ended y → Ended z → Ended (cond inside (cond few x y) (cond rooted z w))
element_ended s true true rooted x y z w e p q = absurd (true≢false e)
element_ended s true false rooted x y z w e p q = p
element_ended s false few true x y z w e p q = q
element_ended s false few false x y z w e p q = absurd (true≢false e)

-- a place behind the first byte
abbrev pub IsLater : Mode → Type 0
IsLater modes.Start = ⊥
IsLater _ = Unit {0}

abbrev pub NotLess : Mode → Type 0
NotLess (modes.Less less) = ⊥
NotLess _ = Unit {0}

pub later_dead : (s : State) (m : Mode) (p : Partial) → automaton.admits s m ≡ false → IsLater m → IsDead s m (Some p)
later_dead s (modes.Failed f) p a l = tt
later_dead s (modes.Doctype less word_at matched) p a l = tt
later_dead s modes.Start p a l = absurd l
later_dead s _ p a l = a

admitted_ended : (s : State) (m : Mode) (lead c : ℕ) → automaton.admits s m ≡ false → NotLess m → Ended (automaton.admitted s m lead c)
admitted_ended s modes.Inside lead c a l = absurd (true≢false a)
admitted_ended s (modes.Cdata held) lead c a l = absurd (true≢false a)
admitted_ended s (modes.TagName colon) lead c a l = absurd (true≢false a)
admitted_ended s modes.Tag lead c a l = absurd (true≢false a)
admitted_ended s (modes.AttrName colon) lead c a l = absurd (true≢false a)
admitted_ended s (modes.Value q) lead c a l = absurd (true≢false a)
admitted_ended s modes.Comment lead c a l = absurd (true≢false a)
admitted_ended s modes.CommentDash lead c a l = absurd (true≢false a)
admitted_ended s modes.CommentDashes lead c a l = absurd (true≢false a)
admitted_ended s modes.Question lead c a l = absurd (true≢false a)
admitted_ended s (modes.Target colon) lead c a l = absurd (true≢false a)
admitted_ended s modes.Instruction lead c a l = absurd (true≢false a)
admitted_ended s modes.InstructionQuestion lead c a l = absurd (true≢false a)
admitted_ended s (modes.Less less) lead c a l = absurd l
admitted_ended s _ lead c a l = tt

whole_ended : (s : State) (m : Mode) (lead at c : ℕ) → automaton.admits s m ≡ false → IsLater m → Ended (automaton.whole s m lead at c)
whole_ended s modes.Start lead at c a l = absurd l
whole_ended s (modes.Less less) lead at c a l =
    ended (automaton.is_unstorable c) _ _ (λ _. tt) (λ _. element_ended s (is_inside s) (nat_lt (length s.elements) MAX_XMI_NESTING) s.rooted _ _ _ _ a tt tt)
whole_ended s m lead at c a l = ended (automaton.is_unstorable c) _ _ (λ _. tt) (λ _. admitted_ended s m lead c a tt)

-- a character in a place where none may stand
partial_dead : (s : State) (m : Mode) (lead at : ℕ) (g : Growth) → s.mode ≡ m → automaton.admits s m ≡ false → IsLater m → Dead (automaton.partial_by s m lead at g)
partial_dead s m lead at growths.Broken e a l = tt
partial_dead s m lead at (growths.Partial q) e a l = subst (λ (k : Mode). IsDead s k (Some q)) (sym e) (later_dead s m q a l)
partial_dead s m lead at (growths.Whole c) e a l = whole_ended s m lead at c a l

-- ---- at the start

abbrev Unmarked : Growth → Type 0
Unmarked growths.Broken = Unit {0}
Unmarked (growths.Partial q) = IsNoMark q.rest
Unmarked (growths.Whole c) = (c == 0xfeff) ≡ false

unmarked : (b : Bool) (x y : Growth) → (b ≡ true → Unmarked x) → (b ≡ false → Unmarked y) → Unmarked (cond b x y)
unmarked true x y f g = f refl
unmarked false x y f g = g refl

scalar_unmarked : (b : Bool) (n : ℕ) → (n == 0xfeff) ≡ false → Unmarked (utf.found (cond b (Some n) None))
scalar_unmarked true n e = e
scalar_unmarked false n e = tt

pub not_fifteen : (bits low b : ℕ) → 128 ≤ low → b ≤ 191 → low ≤ b → (bits ≡ 0 → 144 ≤ low) → bits * 64 + b % 64 ≡ 15 → ⊥
not_fifteen bits low b h u l z e = let none : bits ≡ 0 = omega arith in let high = z none in omega arith

added_unmarked : (p : Partial) (rest : Rest) (b : ℕ) → Bits rest p.low p.high → IsNoMark rest → p.low ≤ b → b ≤ p.high → Unmarked (utf.added p rest b)
added_unmarked p (rests.Three bits) b h k l u =
    let low = h.4 in
    ne_eqb (bits * 64 + b % 64) 15 (λ e. not_fifteen bits p.low b (omega (arith, h.1)) (omega (arith, h.3, u)) l low e)
added_unmarked p (rests.Two bits) b h k l u =
    let n = eqb-false bits 15 k in
    ne_eqb (bits * 64 + b % 64) 0x3fb (λ e. n (omega arith))
added_unmarked p (rests.One bits) b h k l u =
    let n = eqb-false bits 0x3fb k in
    let c : ℕ = bits * 64 + b % 64 in
    unmarked (nat_lt 0x4fff bits) _ _ (λ _. tt) (λ _. scalar_unmarked _ c (ne_eqb c 0xfeff (λ e. n (omega arith))))

extended_unmarked : (p : Partial) (b : ℕ) → Bits p.rest p.low p.high → IsNoMark p.rest → Unmarked (utf.extended p b)
extended_unmarked p b h k =
    unmarked (nat_lt b p.low || nat_lt p.high b) _ _ (λ _. tt)
    (λ e. let q = or_parts (nat_lt b p.low) (nat_lt p.high b) e in added_unmarked p p.rest b h k (ltb-false b p.low q.0) (ltb-false p.high b q.1))

start_dead : (s : State) (lead at : ℕ) (g : Growth) → s.mode ≡ modes.Start → Unmarked g → Dead (automaton.partial_by s modes.Start lead at g)
start_dead s lead at growths.Broken e k = tt
start_dead s lead at (growths.Partial q) e k = subst (λ (m : Mode). IsDead s m (Some q)) (sym e) k
start_dead s lead at (growths.Whole c) e k =
    ended (c == 0xfeff) _ _ (λ e. absurd (true≢false (sym e ∙ k)))
    (λ _. ended (within 0xfec0 0xfefe c) _ _ (λ _. tt) (λ _. ended (within 0xf000 0xffff c) _ _ (λ _. tt) (λ _. tt)))

-- ---- one more byte

pub dead_step : (s : State) (at b : ℕ) (m : Mode) (c : Option Partial) → s.mode ≡ m → s.partial ≡ c → Cut c m → IsDead s m c → Dead (step_by s at b m)
dead_step s at b (modes.Failed f) c e n k d = subst (λ (m : Mode). IsDead s m s.partial) (sym e) tt
dead_step s at b (modes.Doctype less word_at matched) c e n k d = doctype_dead s less word_at matched b
dead_step s at b modes.Start None e n k d = absurd d
dead_step s at b modes.Start (Some p) e n k d =
    subst (λ (c : Option Partial). Dead (automaton.character_by s modes.Start at b c)) (sym n)
    (start_dead s p.lead at (utf.extended p b) e (extended_unmarked p b k.1 d))
dead_step s at b (modes.EndName less matched) (Some p) e n k d = absurd k.0
dead_step s at b (modes.Reference amp place part) (Some p) e n k d = absurd k.0
dead_step s at b m None e n k d = absurd d
dead_step s at b m (Some p) e n k d =
    subst (λ (c : Option Partial). Dead (automaton.character_by s m at b c)) (sym n)
    (partial_dead s m p.lead at (utf.extended p b) e d tt)

same_dead : (s t : State) (m : Mode) (c : Option Partial) → s.elements ≡ t.elements → s.rooted ≡ t.rooted → IsDead s m c → IsDead t m c
same_dead s t (modes.Less less) (Some p) q r d =
    subst (λ (names : List (List ℕ)). cond (nat_lt 0 (length names)) (nat_lt (length names) MAX_XMI_NESTING) (not t.rooted) ≡ false) q
    (subst (λ (b : Bool). cond (is_inside s) (nat_lt (length s.elements) MAX_XMI_NESTING) (not b) ≡ false) r d)
same_dead s t (modes.Failed f) c q r d = d
same_dead s t (modes.Doctype less word_at matched) c q r d = d
same_dead s t m None q r d = d
same_dead s t m (Some p) q r d = d

as_dead : (s t : State) (m : Mode) (c : Option Partial) → t.mode ≡ m → t.partial ≡ c → s.elements ≡ t.elements → s.rooted ≡ t.rooted → IsDead s m c → Dead t
as_dead s t m c e n q r d = subst (λ (k : Mode). IsDead t k t.partial) (sym e) (subst (IsDead t m) (sym n) (same_dead s t m c q r d))

pub dead_cleared : (s : State) (r : Ready) (m : Mode) (c : Option Partial) → s.mode ≡ m → s.partial ≡ c → IsDead s m c → Dead (cleared_by s r)
dead_cleared s ready.Nothing m c e n d = subst (λ (k : Mode). IsDead s k s.partial) (sym e) (subst (IsDead s m) (sym n) d)
dead_cleared s ready.Data m c e n d = as_dead s (record s { run = []; ready = ready.Nothing }) m c e n refl refl d
dead_cleared s ready.Open m c e n d = as_dead s (record s { tag = []; attrs = []; ready = ready.Nothing }) m c e n refl refl d
dead_cleared s ready.Empty m c e n d = as_dead s (record s { tag = []; attrs = []; ready = ready.Nothing }) m c e n refl refl d
dead_cleared s (ready.Close at) m c e n d = as_dead s (record s { ready = ready.Nothing }) m c e n refl refl d

-- ---- all bytes

pub dead_fault : (s : State) (n : ℕ) (m : Mode) (c : Option Partial) → s.partial ≡ c → IsDead s m c → end_fault_by s n m ≡ None → ⊥
dead_fault s n (modes.Failed f) c e d x = some_fault f x
dead_fault s n (modes.Doctype less word_at matched) c e d x = some_fault _ x
dead_fault s n m None e d x = d
dead_fault s n m (Some p) e d x = some_fault _ (ap (automaton.ended_by s m n) (sym e) ∙ x)

pub dead_from : (at : ℕ) (s : State) (bytes : List ℕ) (n : ℕ) → IsSound s → Dead s → end_fault (state_from at s bytes) n ≡ None → ⊥
dead_from at s [] n p d x = dead_fault s n s.mode s.partial refl d x
dead_from at s (b ∷ bytes) n p d x =
    let t : State = step s at b in
    dead_from (at + 1) (cleared t) bytes n (next_sound s at b p) (dead_cleared t t.ready t.mode t.partial refl refl (dead_step s at b s.mode s.partial refl refl p.cut d)) x

-- the bytes are whole or end too early, or nothing makes them whole
cut_or_dead : (s : State) (m : Mode) (p : Partial) (n : ℕ) → IsLater m → Open (Some (cond (automaton.admits s m) (fault_at kinds.OpenTag n) (fault_at kinds.BadMark p.lead))) n ⊎ IsDead s m (Some p)
cut_or_dead s m p n l =
    elim (cases_Bool (automaton.admits s m)) [
      | inl e ↦ inl (inr (ap (λ (b : Bool). Some (cond b (fault_at kinds.OpenTag n) (fault_at kinds.BadMark p.lead))) e))
      | inr e ↦ inr (later_dead s m p e l)
    ]

mark_or_dead : (s : State) (lead : ℕ) (rest : Rest) (n : ℕ) → Open (Some (automaton.cut_start_by lead n rest)) n ⊎ IsNoMark rest
mark_or_dead s lead (rests.Three bits) n = inr tt
mark_or_dead s lead (rests.Two bits) n =
    elim (cases_Bool (bits == 15)) [
      | inl e ↦ inl (inr (ap (λ (b : Bool). Some (cond b (fault_at kinds.OpenTag n) (fault_at kinds.BadMark lead))) e))
      | inr e ↦ inr e
    ]
mark_or_dead s lead (rests.One bits) n =
    elim (cases_Bool (bits == 0x3fb)) [
      | inl e ↦ inl (inr (ap (λ (b : Bool). Some (cond b (fault_at kinds.OpenTag n) (cond (within 0x3c0 0x3ff bits) (fault_at kinds.BadMark 1) (fault_at kinds.BadMark lead)))) e))
      | inr e ↦ inr e
    ]

pub open_or_dead : (s : State) (m : Mode) (c : Option Partial) (n : ℕ) → s.partial ≡ c → Cut c m → Open (end_fault_by s n m) n ⊎ IsDead s m c
open_or_dead s (modes.Failed f) c n e k = inr tt
open_or_dead s (modes.Doctype less word_at matched) c n e k = inr tt
open_or_dead s modes.Start (Some p) n e k = subst (λ (c : Option Partial). Open (automaton.ended_by s modes.Start n c) n ⊎ IsNoMark p.rest) (sym e) (mark_or_dead s p.lead p.rest n)
open_or_dead s modes.Outside None n e k =
    subst (λ (c : Option Partial). Open (automaton.ended_by s modes.Outside n c) n ⊎ ⊥) (sym e)
    (elim (cases_Bool s.rooted) [
      | inl r ↦ inl (inl (ap (λ (b : Bool). cond b None (Some (fault_at kinds.OpenTag n))) r))
      | inr r ↦ inl (inr (ap (λ (b : Bool). cond b None (Some (fault_at kinds.OpenTag n))) r))
    ])
open_or_dead s m None n e k = subst (λ (c : Option Partial). Open (automaton.ended_by s m n c) n ⊎ ⊥) (sym e) (inl (inr refl))
open_or_dead s m (Some p) n e k = subst (λ (c : Option Partial). Open (automaton.ended_by s m n c) n ⊎ IsDead s m (Some p)) (sym e) (cut_or_dead s m p n tt)

pub only_open : (bytes more : List ℕ) → end_fault_of (bytes ++ more) ≡ None → MayGoOn bytes
unfolding end_fault_of
only_open bytes more e =
    let s : State = state_of bytes in
    let n : ℕ = length (bytes ++ more) in
    let sound = sound_of bytes in
    let ends : end_fault (state_from (length bytes) s more) n ≡ None = ap (λ (t : State). end_fault t n) (sym (state_of-append bytes more)) ∙ e in
    elim (open_or_dead s s.mode s.partial (length bytes) refl sound.cut) [
      | inl o ↦ o
      | inr d ↦ absurd (dead_from (length bytes) s more n sound d ends)
    ]

-- Characters are stepped over in the places of the grammar.
use Rattle.std.proofs.Common.{◌≡◌, ℕ, ◌+◌, ◌≤◌, ◌<◌, ◌⊎◌, Bool, true, false, List, [], ◌∷◌, ◌++◌, length, refl, sym, ◌∙◌, ap, subst, arith, None, inl, inr, append_assoc, append-nil}
use Rattle.std.specs.Prelude.{◌==◌, ◌||◌, ◌&&◌, not, nat_lt, nat_le}
use Rattle.std.specs.List.{list_all}
use Rattle.std.proofs.lemmas.Bool.{cases_lt, cases_eq, cases_Bool, or_from, or_cases, or_left, or_right, and_parts, and_from, not-true, lt-ltb, leb-true, eqb-true, ne_eqb}
use Rattle.std.proofs.lemmas.Str.{encode_ascii, encodes-append}
use lib.Utf8.{encode, encodes, scalars}
use lib.Utf8 as utf8
use Rattle.mof_metamodel.specs.Characters.{is_storable_character, is_blank}
use Rattle.xmi_text.specs.ByteClass.{within, is_storable_byte}
use Rattle.xmi_text.specs.States.{complete, cleared}
use Rattle.xmi_text.specs.Automaton.{ascii, lead, admitted, unstorable, is_unstorable}
use Rattle.xmi_text.specs.Places.{Timed}
use Rattle.xmi_text.specs.Markup.{is_content_character, line_ends}
use Rattle.xmi_text.specs.declared.utf_eight.Partial.{Partial}
use Rattle.xmi_text.specs.declared.state.State.{State}
use Rattle.xmi_text.specs.declared.state.Mode.{Mode}
use Rattle.xmi_text.specs.declared.state.Mode.TheVariants as modes
use Rattle.xmi_text.proofs.forward.Walks.{all_by, Walk, Walk-none, Walk-last, Walk-append, Walk-to}
use Rattle.xmi_text.proofs.forward.Encoded.{at_mode, within_character, IsPlain, plain_step, behind_whole, far, if_true, if_false, Walk-over, over_character, within_from}

-- ## tests

abbrev is_control : ℕ → Bool
is_control c = (c == 9) || (c == 10) || (c == 13)

abbrev is_printable : ℕ → Bool
is_printable c = nat_le 32 c && not (c == 0xfffe) && not (c == 0xffff)

pub control_cases : (c : ℕ) → is_control c ≡ true → c < 32
control_cases c e = elim (or_cases ((c == 9) || (c == 10)) (c == 13) e) [
  | inl l ↦ elim (or_cases (c == 9) (c == 10) l) [ inl x ↦ omega (arith, eqb-true c 9 x) | inr x ↦ omega (arith, eqb-true c 10 x) ]
  | inr k ↦ omega (arith, eqb-true c 13 k)
]

pub storable_byte : (c : ℕ) → c < 128 → is_storable_character c ≡ true → is_storable_byte c ≡ true
storable_byte c h e = elim (or_cases (is_control c) (is_printable c) e) [
  | inl l ↦ or_left (is_control c) (within 32 127 c) l
  | inr r ↦
      let p = and_parts (nat_le 32 c && not (c == 0xfffe)) (not (c == 0xffff)) r in
      let q = and_parts (nat_le 32 c) (not (c == 0xfffe)) p.0 in
      or_right (is_control c) (within 32 127 c) (within_from 32 127 c (leb-true 32 c q.0) (omega arith))
]

pub storable_far : (c : ℕ) → 128 ≤ c → is_storable_character c ≡ true → is_unstorable c ≡ false
storable_far c h e = elim (or_cases (is_control c) (is_printable c) e) [
  | inl l ↦ absurd (omega (arith, control_cases c l))
  | inr r ↦
      let p = and_parts (nat_le 32 c && not (c == 0xfffe)) (not (c == 0xffff)) r in
      let q = and_parts (nat_le 32 c) (not (c == 0xfffe)) p.0 in
      or_from (c == 0xfffe) (c == 0xffff) (not-true (c == 0xfffe) q.1) (not-true (c == 0xffff) p.1)
]

pub other : (c d : ℕ) → (c ≡ d → ⊥) → (c == d) ≡ false
other c d n = ne_eqb c d n

pub blank_cases : (c : ℕ) → is_blank c ≡ true → (c ≡ 32) ⊎ ((c ≡ 9) ⊎ ((c ≡ 10) ⊎ (c ≡ 13)))
blank_cases c e = elim (or_cases ((c == 32) || (c == 9) || (c == 10)) (c == 13) e) [
  | inl l ↦ elim (or_cases ((c == 32) || (c == 9)) (c == 10) l) [
    | inl k ↦ elim (or_cases (c == 32) (c == 9) k) [ inl x ↦ inl (eqb-true c 32 x) | inr x ↦ inr (inl (eqb-true c 9 x)) ]
    | inr k ↦ inr (inr (inl (eqb-true c 10 k)))
  ]
  | inr r ↦ inr (inr (inr (eqb-true c 13 r)))
]

-- ## one character

pub one_character : (at : ℕ) (s : State) (m : Mode) (r : Bool) (c : ℕ) (t : State) → IsPlain m → utf8.scalar c ≡ true → (c < 128 → ascii (at_mode s m r) m at c ≡ t) → (128 ≤ c → (p : Partial) (last : ℕ) → p.lead ≡ at → behind_whole s m r p last c ≡ t) → Walk at (at_mode s m r) (encode c) (all_by (at + length (encode c)) (complete t)) (cleared t)
one_character at s m r c t plain ok low high = elim (cases_lt c 128) [
  | inl h ↦ over_character at _ _ t c _ (encode_ascii c h) (omega arith)
      (Walk-last at (at_mode s m r) t c
      (plain_step (at_mode s m r) at c m plain
      ∙ if_true (nat_lt c 128) (ascii (at_mode s m r) m at c) (lead (at_mode s m r) m at c) (lt-ltb c 128 h)
      ∙ low h))
  | inr h ↦
      let f = far at s m r c plain ok h in
      let e : behind_whole s m r f.p f.place c ≡ t = high h f.p f.place f.begins in
      Walk-to at _ _ _ _ _ _ (ap cleared e) (ap (λ q. all_by (at + length (encode c)) (complete q)) e) f.walk
]

-- a character is stepped over with no mark
pub quiet : (at : ℕ) (s : State) (m : Mode) (r : Bool) (c : ℕ) (t : State) (n : Mode) (k : Bool) → IsPlain m → utf8.scalar c ≡ true → (c < 128 → ascii (at_mode s m r) m at c ≡ at_mode t n k) → (128 ≤ c → (p : Partial) (last : ℕ) → p.lead ≡ at → behind_whole s m r p last c ≡ at_mode t n k) → Walk at (at_mode s m r) (encode c) [] (at_mode t n k)
quiet at s m r c t n k plain ok low high = one_character at s m r c (at_mode t n k) plain ok low high

-- one walk over characters after another
pub Walk-characters : (at : ℕ) (s t u : State) (cs ds : List ℕ) (ms ns : List Timed) → Walk at s (encodes cs) ms t → ((place : ℕ) → Walk place t (encodes ds) ns u) → Walk at s (encodes (cs ++ ds)) (ms ++ ns) u
Walk-characters at s t u cs ds ms ns v w = Walk-over at s u _ _ (ms ++ ns) (encodes-append cs ds) (Walk-append at s t u (encodes cs) (encodes ds) ms ns v (w (at + length (encodes cs))))

pub scalars-parts : (cs ds : List ℕ) → scalars (cs ++ ds) ≡ true → (scalars cs ≡ true) × (scalars ds ≡ true)
scalars-parts [] ds e = (refl, e)
scalars-parts (c ∷ cs) ds e =
    let p = and_parts (utf8.scalar c) (scalars (cs ++ ds)) e in
    let q = scalars-parts cs ds p.1 in
    (and_from _ _ p.0 q.0, q.1)

abbrev whole_of : State → State
whole_of s = record s { partial = None }

-- ## character data

pub content_parts : (c : ℕ) → is_content_character c ≡ true → (is_storable_character c ≡ true) × ((c == 60) ≡ false) × ((c == 38) ≡ false)
content_parts c e =
    let p = and_parts (is_storable_character c) (not (c == 60) && not (c == 38)) e in
    let q = and_parts (not (c == 60)) (not (c == 38)) p.1 in
    (p.0, not-true (c == 60) q.0, not-true (c == 38) q.1)

content_low : (s : State) (r : Bool) (at c : ℕ) → is_content_character c ≡ true → (c ≡ 13 → ⊥) → ((c == 10) && r) ≡ false → c < 128 → ascii (at_mode s modes.Inside r) modes.Inside at c ≡ at_mode (record s { run = s.run ++ c ∷ [] }) modes.Inside false
content_low s r at c e n f h =
    let p = content_parts c e in
    if_false (c == 60) _ _ p.1
    ∙ if_false (c == 38) _ _ p.2
    ∙ if_false (c == 13) _ _ (other c 13 n)
    ∙ if_false ((c == 10) && r) _ _ f
    ∙ if_true (is_storable_byte c) _ _ (storable_byte c h p.0)

content_high : (s : State) (r : Bool) (p : Partial) (last c : ℕ) → is_content_character c ≡ true → 128 ≤ c → behind_whole s modes.Inside r p last c ≡ at_mode (record s { run = s.run ++ c ∷ [] }) modes.Inside false
content_high s r p last c e h =
    let t : State = within_character s modes.Inside r p in
    ap whole_of (if_false (is_unstorable c) (unstorable t modes.Inside p.lead last) (admitted t modes.Inside p.lead c) (storable_far c h (content_parts c e).0))

-- a character of a run, read as these
pub record Reads (at : ℕ) (s : State) (r : Bool) (c : ℕ) : Type 0 where
  pub read : List ℕ
  pub returned : Bool
  pub ends : (cs : List ℕ) → line_ends r (c ∷ cs) ≡ read ++ line_ends returned cs
  pub walk : Walk at (at_mode s modes.Inside r) (encode c) [] (at_mode (record s { run = s.run ++ read }) modes.Inside returned)

-- what is no line end is read as it is
pub line_ends-other : (r : Bool) (c : ℕ) (cs : List ℕ) → (c ≡ 13 → ⊥) → ((c == 10) && r) ≡ false → line_ends r (c ∷ cs) ≡ c ∷ line_ends false cs
line_ends-other r c cs n f = if_false (c == 13) _ _ (other c 13 n) ∙ if_false ((c == 10) && r) _ _ f

content_read : (at : ℕ) (s : State) (r : Bool) (c : ℕ) → utf8.scalar c ≡ true → is_content_character c ≡ true → (c ≡ 13 → ⊥) → ((c == 10) && r) ≡ false → Reads at s r c
content_read at s r c ok e n f = record {
  read = c ∷ [];
  returned = false;
  ends = λ cs. line_ends-other r c cs n f;
  walk = quiet at s modes.Inside r c (record s { run = s.run ++ c ∷ [] }) modes.Inside false tt ok (content_low s r at c e n f) (λ h p last b. content_high s r p last c e h);
}

return_read : (at : ℕ) (s : State) (r : Bool) → Reads at s r 13
return_read at s r = record {
  read = 10 ∷ [];
  returned = true;
  ends = λ cs. refl;
  walk = quiet at s modes.Inside r 13 (record s { run = s.run ++ 10 ∷ [] }) modes.Inside true tt refl (λ h. refl) (λ h p last b. absurd (omega arith));
}

feed_read : (at : ℕ) (s : State) → Reads at s true 10
feed_read at s = record {
  read = [];
  returned = false;
  ends = λ cs. refl;
  walk = Walk-to at _ _ _ _ _ _ (ap (λ x. at_mode (record s { run = x }) modes.Inside false) (sym (append-nil s.run))) refl
      (quiet at s modes.Inside true 10 s modes.Inside false tt refl (λ h. refl) (λ h p last b. absurd (omega arith)));
}

-- a character is a carriage return, a line feed behind one, or no line end
pub ends_cases : (r : Bool) (c : ℕ) → (c ≡ 13) ⊎ (((r ≡ true) × (c ≡ 10)) ⊎ ((c ≡ 13 → ⊥) × (((c == 10) && r) ≡ false)))
ends_cases r c = elim (cases_eq c 13) [
  | inl x ↦ inl x
  | inr n ↦ elim (cases_Bool ((c == 10) && r)) [
    | inl t ↦ let p = and_parts (c == 10) r t in inr (inl (p.1, eqb-true c 10 p.0))
    | inr f ↦ inr (inr (n, f))
  ]
]

content_one : (at : ℕ) (s : State) (r : Bool) (c : ℕ) → utf8.scalar c ≡ true → is_content_character c ≡ true → Reads at s r c
content_one at s r c ok e = elim (ends_cases r c) [
  | inl x ↦ subst (Reads at s r) (sym x) (return_read at s r)
  | inr k ↦ elim k [
    | inl y ↦ subst (λ q. Reads at s q c) (sym y.0) (subst (Reads at s true) (sym y.1) (feed_read at s))
    | inr z ↦ content_read at s r c ok e z.0 z.1
  ]
]

pub content_run : (at : ℕ) (s : State) (r : Bool) (cs : List ℕ) → scalars cs ≡ true → list_all is_content_character cs ≡ true → (k : Bool) × Walk at (at_mode s modes.Inside r) (encodes cs) [] (at_mode (record s { run = s.run ++ line_ends r cs }) modes.Inside k)
content_run at s r [] ok e = (r, Walk-to at _ _ _ _ _ _ (ap (λ x. at_mode (record s { run = x }) modes.Inside r) (sym (append-nil s.run))) refl (Walk-none at (at_mode s modes.Inside r)))
content_run at s r (c ∷ cs) ok e =
    let o = and_parts (utf8.scalar c) (scalars cs) ok in
    let p = and_parts (is_content_character c) (list_all is_content_character cs) e in
    let one = content_one at s r c o.0 p.0 in
    let s1 : State = record s { run = s.run ++ one.read } in
    let more = content_run (at + length (encode c)) s1 one.returned cs o.1 p.1 in (
      more.0,
      Walk-to at _ _ _ _ _ _ (ap (λ x. at_mode (record s { run = x }) modes.Inside more.0) (append_assoc s.run one.read (line_ends one.returned cs) ∙ ap (λ x. s.run ++ x) (sym (one.ends cs)))) refl
          (Walk-append at _ _ _ (encode c) (encodes cs) [] [] one.walk more.1),
    )

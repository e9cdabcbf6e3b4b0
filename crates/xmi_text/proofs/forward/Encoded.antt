-- The bytes of a character from U+0080 on are stepped over as one character.
use Rattle.std.proofs.Common.{◌≡◌, ℕ, ◌+◌, ◌*◌, ◌/◌, ◌%◌, ◌≤◌, ◌<◌, Bool, true, false, List, [], ◌∷◌, length, refl, sym, ◌∙◌, ap, arith, cond, None, Some, inl, inr, ⊎_elim}
use Rattle.std.specs.Prelude.{◌==◌, ◌||◌, ◌&&◌, not, nat_lt, nat_le, if◌then◌else◌}
use Rattle.std.proofs.lemmas.Bool.{cases_lt, cases_eq, or_from, lt-ltb, le-ltb, le-leb, lt-leb, ne_eqb, or_right}
use lib.Utf8.{encode, scalar_cases}
use lib.Utf8 as utf8
use Rattle.xmi_text.specs.ByteClass.{within, holds_in_name}
use Rattle.xmi_text.specs.AttrNames.{has_name}
use Rattle.xmi_text.specs.UtfEight.{begun, extended, added, opened, scalar, found}
use Rattle.xmi_text.specs.States.{complete, cleared}
use Rattle.xmi_text.specs.Automaton.{step, step_by, character_step, character_by, ascii, lead, lead_on, ends_twin, whole, partial_by}
use Rattle.xmi_text.specs.Reading.{state_from}
use Rattle.xmi_text.specs.Places.{Timed}
use Rattle.xmi_text.specs.declared.utf_eight.Partial.{Partial}
use Rattle.xmi_text.specs.declared.utf_eight.Rest.{Rest}
use Rattle.xmi_text.specs.declared.utf_eight.Rest.TheVariants as rest
use Rattle.xmi_text.specs.declared.utf_eight.Growth.TheVariants as growths
use Rattle.xmi_text.specs.declared.state.State.{State}
use Rattle.xmi_text.specs.declared.state.Mode.{Mode}
use Rattle.xmi_text.specs.declared.state.Mode.TheVariants.{Failed, Reference, Doctype, EndName, AttrName, Start}
use Rattle.xmi_text.specs.declared.state.Ready.TheVariants.{Nothing}
use Rattle.xmi_text.proofs.forward.Walks.{all_by, timed_from, Walk, Walk-step, Walk-last, Walk-to}

-- a state between two characters, with no mark that waits
abbrev pub at_mode : State → Mode → Bool → State
at_mode s m returned = record s { mode = m; returned = returned; partial = None; ready = Nothing }

-- the same in a character
abbrev pub within_character : State → Mode → Bool → Partial → State
within_character s m returned p = record s { mode = m; returned = returned; partial = Some p; ready = Nothing }

-- a place where bytes are read as characters
abbrev pub IsPlain : Mode → Type 0
IsPlain (Failed f) = ⊥
IsPlain (Reference a w r) = ⊥
IsPlain (Doctype l w n) = ⊥
IsPlain (EndName l n) = ⊥
IsPlain _ = Unit {0}

pub plain_step : (s : State) (at b : ℕ) (m : Mode) → IsPlain m → step_by s at b m ≡ character_step s m at b
plain_step s at b (Failed f) p = absurd p
plain_step s at b (Reference a w r) p = absurd p
plain_step s at b (Doctype l w n) p = absurd p
plain_step s at b (EndName l n) p = absurd p
plain_step s at b Start p = refl
plain_step s at b _ p = refl

pub if_true : {A : Type 0} (b : Bool) (x y : A) → b ≡ true → (if b then x else y) ≡ x
if_true b x y e = ap (λ t. if t then x else y) e

pub if_false : {A : Type 0} (b : Bool) (x y : A) → b ≡ false → (if b then x else y) ≡ y
if_false b x y e = ap (λ t. if t then x else y) e

pub within_from : (low high b : ℕ) → low ≤ b → b ≤ high → within low high b ≡ true
within_from low high b l h = ap (λ t. t && nat_le b high) (le-leb low b l) ∙ le-leb b high h

pub within_above : (low high b : ℕ) → high < b → within low high b ≡ false
within_above low high b h = ap (λ t. nat_le low b && t) (lt-leb b high h) ∙ and_false (nat_le low b)
  where
    and_false : (x : Bool) → (x && false) ≡ false
    and_false true = refl
    and_false false = refl

-- a first byte doesn't end an attribute's name
no_twin : (s : State) (m : Mode) (b : ℕ) → holds_in_name b ≡ true → ends_twin s m b ≡ false
no_twin s (AttrName colon) b h = ap (λ t. not t && has_name s.attrs s.attr.name) h
no_twin s Start b h = refl
no_twin s _ b h = refl

-- a first byte
lead_step : (s : State) (m : Mode) (at b : ℕ) (p : Partial) → 194 ≤ b → b ≤ 244 → begun at b ≡ Some p → character_by s m at b None ≡ record s { partial = Some p }
lead_step s m at b p low high e =
    if_false (nat_lt b 128) (ascii s m at b) (lead s m at b) (le-ltb b 128 (omega arith))
    ∙ if_false (ends_twin s m b) _ (lead_on s at (begun at b)) (no_twin s m b (or_right _ _ (within_from 194 244 b low high)))
    ∙ ap (lead_on s at) e

first : (s : State) (m : Mode) (r : Bool) (at b : ℕ) (p : Partial) → IsPlain m → 194 ≤ b → b ≤ 244 → begun at b ≡ Some p → step (at_mode s m r) at b ≡ within_character s m r p
first s m r at b p plain low high e = plain_step (at_mode s m r) at b m plain ∙ lead_step (at_mode s m r) m at b p low high e

next : (s : State) (m : Mode) (r : Bool) (at b : ℕ) (p q : Partial) → IsPlain m → extended p b ≡ growths.Partial q → step (within_character s m r p) at b ≡ within_character s m r q
next s m r at b p q plain e = plain_step (within_character s m r p) at b m plain ∙ ap (partial_by (within_character s m r p) m p.lead at) e

-- the state behind a whole character
abbrev pub behind_whole : State → Mode → Bool → Partial → ℕ → ℕ → State
behind_whole s m r p last c = record (whole (within_character s m r p) m p.lead last c) { partial = None }

last : (s : State) (m : Mode) (r : Bool) (at b c : ℕ) (p : Partial) → IsPlain m → extended p b ≡ growths.Whole c → step (within_character s m r p) at b ≡ behind_whole s m r p at c
last s m r at b c p plain e = plain_step (within_character s m r p) at b m plain ∙ ap (partial_by (within_character s m r p) m p.lead at) e

-- ## the bytes of one character

digits_low : (q : ℕ) → q < 32 → (192 + q) % 32 ≡ q
digits_low q h = omega arith

from_two : (lead c : ℕ) → 128 ≤ c → c < 2048 → begun lead (192 + c / 64) ≡ opened lead 0x80 0xbf (rest.One (c / 64))
from_two lead c l h =
    if_true (within 0xc2 0xdf (192 + c / 64)) _ _ (within_from 0xc2 0xdf (192 + c / 64) (omega arith) (omega arith))
    ∙ ap (λ n. opened lead 0x80 0xbf (rest.One n)) (digits_low (c / 64) (omega arith))

pub is_scalar : (c : ℕ) → utf8.scalar c ≡ true → scalar c ≡ Some c
is_scalar c e = if_true _ (Some c) None (or_cond (nat_lt c 0xd800) (nat_le 0xe000 c && nat_lt c 0x110000) ∙ e)
  where
    or_cond : (x y : Bool) → (x || y) ≡ cond x true y
    or_cond true y = refl
    or_cond false y = refl

in_range : (p : Partial) (b : ℕ) → p.low ≤ b → b ≤ p.high → extended p b ≡ added p p.rest b
in_range p b l h = if_false (nat_lt b p.low || nat_lt p.high b) growths.Broken (added p p.rest b) (or_from _ _ (le-ltb b p.low l) (le-ltb p.high b h))

last_bits : (c : ℕ) → c / 64 * 64 + (128 + c % 64) % 64 ≡ c
last_bits c = omega arith

-- the last byte
last_byte : (p : Partial) (c : ℕ) → p.low ≡ 0x80 → p.high ≡ 0xbf → p.rest ≡ rest.One (c / 64) → c < 1114112 → utf8.scalar c ≡ true → extended p (128 + c % 64) ≡ growths.Whole c
last_byte p c l h r small ok =
    let b : ℕ = 128 + c % 64 in
    in_range p b (omega arith) (omega arith)
    ∙ ap (λ q. added p q b) r
    ∙ if_false (nat_lt 0x4fff (c / 64)) growths.Broken (found (scalar (c / 64 * 64 + b % 64))) (le-ltb 0x4fff (c / 64) (omega arith))
    ∙ ap (λ n. found (scalar n)) (last_bits c)
    ∙ ap found (is_scalar c ok)

record Lead (at b second : ℕ) (r : Rest) : Type 0 where
  pub p : Partial
  pub begun : begun at b ≡ Some p
  pub lead : p.lead ≡ at
  pub low : p.low ≤ second
  pub high : second ≤ p.high
  pub rest : p.rest ≡ r

abbrev partial_of : ℕ → ℕ → ℕ → Rest → Partial
partial_of at low high r = record { lead = at; low = low; high = high; rest = r }

not_two : (at b : ℕ) → 224 ≤ b → begun at b ≡ (if b == 0xe0 then opened at 0xa0 0xbf (rest.Two 0) else if b == 0xed then opened at 0x80 0x9f (rest.Two 13) else if within 0xe1 0xef b then opened at 0x80 0xbf (rest.Two (b % 16)) else if b == 0xf0 then opened at 0x90 0xbf (rest.Three 0) else if within 0xf1 0xf3 b then opened at 0x80 0xbf (rest.Three (b % 8)) else if b == 0xf4 then opened at 0x80 0x8f (rest.Three 4) else None)
not_two at b h = if_false (within 0xc2 0xdf b) _ _ (within_above 0xc2 0xdf b (omega arith))

from_three : (at c : ℕ) → 2048 ≤ c → c < 65536 → utf8.scalar c ≡ true → Lead at (224 + c / 4096) (128 + c / 64 % 64) (rest.Two (c / 4096))
from_three at c l h ok =
    let q : ℕ = c / 4096 in
    elim (cases_eq q 0) [
      | inl e ↦ record {
        p = partial_of at 0xa0 0xbf (rest.Two 0);
        begun = ap (λ n. begun at (224 + n)) e;
        lead = refl;
        low = omega arith;
        high = omega arith;
        rest = ap rest.Two (sym e);
      }
      | inr n ↦ elim (cases_eq q 13) [
        | inl e ↦ record {
          p = partial_of at 0x80 0x9f (rest.Two 13);
          begun = ap (λ n. begun at (224 + n)) e;
          lead = refl;
          low = omega arith;
          high = ⊎_elim (λ k. omega arith) (λ k. omega arith) (scalar_cases c ok);
          rest = ap rest.Two (sym e);
        }
        | inr k ↦ record {
          p = partial_of at 0x80 0xbf (rest.Two q);
          begun = not_two at (224 + q) (omega arith)
              ∙ if_false ((224 + q) == 0xe0) _ _ (ne_eqb _ _ (λ x. n (omega arith)))
              ∙ if_false ((224 + q) == 0xed) _ _ (ne_eqb _ _ (λ x. k (omega arith)))
              ∙ if_true (within 0xe1 0xef (224 + q)) _ _ (within_from 0xe1 0xef (224 + q) (positive n) (omega arith))
              ∙ ap (λ x. opened at 0x80 0xbf (rest.Two x)) (low_four q (omega arith));
          lead = refl;
          low = omega arith;
          high = omega arith;
          rest = refl;
        }
      ]
    ]
  where
    low_four : (q : ℕ) → q < 16 → (224 + q) % 16 ≡ q
    low_four q h = omega arith

    positive : {q : ℕ} → (q ≡ 0 → ⊥) → 225 ≤ 224 + q
    positive {q} n = elim (cases_lt 0 q) [ inl x ↦ omega arith | inr x ↦ absurd (n (omega arith)) ]

from_four : (at c : ℕ) → 65536 ≤ c → c < 1114112 → Lead at (240 + c / 262144) (128 + c / 4096 % 64) (rest.Three (c / 262144))
from_four at c l h =
    let q : ℕ = c / 262144 in
    elim (cases_eq q 0) [
      | inl e ↦ record {
        p = partial_of at 0x90 0xbf (rest.Three 0);
        begun = ap (λ n. begun at (240 + n)) e;
        lead = refl;
        low = omega arith;
        high = omega arith;
        rest = ap rest.Three (sym e);
      }
      | inr n ↦ elim (cases_eq q 4) [
        | inl e ↦ record {
          p = partial_of at 0x80 0x8f (rest.Three 4);
          begun = ap (λ n. begun at (240 + n)) e;
          lead = refl;
          low = omega arith;
          high = omega arith;
          rest = ap rest.Three (sym e);
        }
        | inr k ↦ record {
          p = partial_of at 0x80 0xbf (rest.Three q);
          begun = not_two at (240 + q) (omega arith)
              ∙ if_false ((240 + q) == 0xe0) _ _ (ne_eqb _ _ (λ x. omega arith))
              ∙ if_false ((240 + q) == 0xed) _ _ (ne_eqb _ _ (λ x. omega arith))
              ∙ if_false (within 0xe1 0xef (240 + q)) _ _ (within_above 0xe1 0xef (240 + q) (omega arith))
              ∙ if_false ((240 + q) == 0xf0) _ _ (ne_eqb _ _ (λ x. n (omega arith)))
              ∙ if_true (within 0xf1 0xf3 (240 + q)) _ _ (within_from 0xf1 0xf3 (240 + q) (positive q n) (fewer q k (omega arith)))
              ∙ ap (λ x. opened at 0x80 0xbf (rest.Three x)) (low_three q (omega arith));
          lead = refl;
          low = omega arith;
          high = omega arith;
          rest = refl;
        }
      ]
    ]
  where
    low_three : (q : ℕ) → q < 5 → (240 + q) % 8 ≡ q
    low_three q h = omega arith

    positive : (q : ℕ) → (q ≡ 0 → ⊥) → 241 ≤ 240 + q
    positive q n = elim (cases_lt 0 q) [ inl x ↦ omega arith | inr x ↦ absurd (n (omega arith)) ]

    fewer : (q : ℕ) → (q ≡ 4 → ⊥) → q < 5 → 240 + q ≤ 243
    fewer q n h = elim (cases_lt q 4) [ inl x ↦ omega arith | inr x ↦ absurd (n (omega arith)) ]

-- a byte between the first and the last
two_of : (p : Partial) (q n b : ℕ) → p.rest ≡ rest.Two q → p.low ≤ b → b ≤ p.high → q * 64 + b % 64 ≡ n → extended p b ≡ growths.Partial (partial_of p.lead 0x80 0xbf (rest.One n))
two_of p q n b r l h e = in_range p b l h ∙ ap (λ x. added p x b) r ∙ ap (λ x. growths.Partial (partial_of p.lead 0x80 0xbf (rest.One x))) e

three_of : (p : Partial) (q n b : ℕ) → p.rest ≡ rest.Three q → p.low ≤ b → b ≤ p.high → q * 64 + b % 64 ≡ n → extended p b ≡ growths.Partial (partial_of p.lead 0x80 0xbf (rest.Two n))
three_of p q n b r l h e = in_range p b l h ∙ ap (λ x. added p x b) r ∙ ap (λ x. growths.Partial (partial_of p.lead 0x80 0xbf (rest.Two x))) e

-- a whole character was stepped over
pub record Far (at : ℕ) (s : State) (m : Mode) (r : Bool) (c : ℕ) : Type 0 where
  pub p : Partial
  pub place : ℕ
  pub begins : p.lead ≡ at
  pub walk : Walk at (at_mode s m r) (encode c) (all_by (at + length (encode c)) (complete (behind_whole s m r p place c))) (cleared (behind_whole s m r p place c))

far_two : (at : ℕ) (s : State) (m : Mode) (r : Bool) (c : ℕ) → IsPlain m → utf8.scalar c ≡ true → 128 ≤ c → c < 2048 → Walk at (at_mode s m r) ((192 + c / 64) ∷ (128 + c % 64) ∷ []) (all_by (at + 1 + 1) (complete (behind_whole s m r (partial_of at 0x80 0xbf (rest.One (c / 64))) (at + 1) c))) (cleared (behind_whole s m r (partial_of at 0x80 0xbf (rest.One (c / 64))) (at + 1) c))
far_two at s m r c plain ok l h =
    let p : Partial = partial_of at 0x80 0xbf (rest.One (c / 64)) in
    Walk-step at (at_mode s m r) (within_character s m r p) _ (192 + c / 64) _ _ (first s m r at (192 + c / 64) p plain (omega arith) (omega arith) (from_two at c l h))
    (Walk-last (at + 1) (within_character s m r p) (behind_whole s m r p (at + 1) c) (128 + c % 64)
    (last s m r (at + 1) (128 + c % 64) c p plain (last_byte p c refl refl refl (omega arith) ok)))

far_three : (at : ℕ) (s : State) (m : Mode) (r : Bool) (c : ℕ) (f : Lead at (224 + c / 4096) (128 + c / 64 % 64) (rest.Two (c / 4096))) → IsPlain m → utf8.scalar c ≡ true → 2048 ≤ c → c < 65536 → Walk at (at_mode s m r) ((224 + c / 4096) ∷ (128 + c / 64 % 64) ∷ (128 + c % 64) ∷ []) (all_by (at + 1 + 1 + 1) (complete (behind_whole s m r (partial_of f.p.lead 0x80 0xbf (rest.One (c / 64))) (at + 1 + 1) c))) (cleared (behind_whole s m r (partial_of f.p.lead 0x80 0xbf (rest.One (c / 64))) (at + 1 + 1) c))
far_three at s m r c f plain ok l h =
    let q : Partial = partial_of f.p.lead 0x80 0xbf (rest.One (c / 64)) in
    Walk-step at (at_mode s m r) (within_character s m r f.p) _ (224 + c / 4096) _ _ (first s m r at (224 + c / 4096) f.p plain (omega arith) (omega arith) f.begun)
    (Walk-step (at + 1) (within_character s m r f.p) (within_character s m r q) _ (128 + c / 64 % 64) _ _
    (next s m r (at + 1) (128 + c / 64 % 64) f.p q plain (two_of f.p (c / 4096) (c / 64) (128 + c / 64 % 64) f.rest f.low f.high (omega arith)))
    (Walk-last (at + 1 + 1) (within_character s m r q) (behind_whole s m r q (at + 1 + 1) c) (128 + c % 64)
    (last s m r (at + 1 + 1) (128 + c % 64) c q plain (last_byte q c refl refl refl (omega arith) ok))))

far_four : (at : ℕ) (s : State) (m : Mode) (r : Bool) (c : ℕ) (f : Lead at (240 + c / 262144) (128 + c / 4096 % 64) (rest.Three (c / 262144))) → IsPlain m → utf8.scalar c ≡ true → 65536 ≤ c → c < 1114112 → Walk at (at_mode s m r) ((240 + c / 262144) ∷ (128 + c / 4096 % 64) ∷ (128 + c / 64 % 64) ∷ (128 + c % 64) ∷ []) (all_by (at + 1 + 1 + 1 + 1) (complete (behind_whole s m r (partial_of f.p.lead 0x80 0xbf (rest.One (c / 64))) (at + 1 + 1 + 1) c))) (cleared (behind_whole s m r (partial_of f.p.lead 0x80 0xbf (rest.One (c / 64))) (at + 1 + 1 + 1) c))
far_four at s m r c f plain ok l h =
    let p : Partial = partial_of f.p.lead 0x80 0xbf (rest.Two (c / 4096)) in
    let q : Partial = partial_of f.p.lead 0x80 0xbf (rest.One (c / 64)) in
    Walk-step at (at_mode s m r) (within_character s m r f.p) _ (240 + c / 262144) _ _ (first s m r at (240 + c / 262144) f.p plain (omega arith) (omega arith) f.begun)
    (Walk-step (at + 1) (within_character s m r f.p) (within_character s m r p) _ (128 + c / 4096 % 64) _ _
    (next s m r (at + 1) (128 + c / 4096 % 64) f.p p plain (three_of f.p (c / 262144) (c / 4096) (128 + c / 4096 % 64) f.rest f.low f.high (omega arith)))
    (Walk-step (at + 1 + 1) (within_character s m r p) (within_character s m r q) _ (128 + c / 64 % 64) _ _
    (next s m r (at + 1 + 1) (128 + c / 64 % 64) p q plain (two_of p (c / 4096) (c / 64) (128 + c / 64 % 64) refl (omega arith) (omega arith) (omega arith)))
    (Walk-last (at + 1 + 1 + 1) (within_character s m r q) (behind_whole s m r q (at + 1 + 1 + 1) c) (128 + c % 64)
    (last s m r (at + 1 + 1 + 1) (128 + c % 64) c q plain (last_byte q c refl refl refl (omega arith) ok)))))

-- how a character from U+0080 on is written
pub encode_two : (c : ℕ) → 128 ≤ c → c < 2048 → encode c ≡ (192 + c / 64) ∷ (128 + c % 64) ∷ []
unfolding encode
encode_two c l h = rw (le-ltb c 128 l, lt-ltb c 2048 h) refl

pub encode_three : (c : ℕ) → 2048 ≤ c → c < 65536 → encode c ≡ (224 + c / 4096) ∷ (128 + c / 64 % 64) ∷ (128 + c % 64) ∷ []
unfolding encode
encode_three c l h = rw (le-ltb c 128 (omega arith), le-ltb c 2048 l, lt-ltb c 65536 h) refl

pub encode_four : (c : ℕ) → 65536 ≤ c → encode c ≡ (240 + c / 262144) ∷ (128 + c / 4096 % 64) ∷ (128 + c / 64 % 64) ∷ (128 + c % 64) ∷ []
unfolding encode
encode_four c l = rw (le-ltb c 128 (omega arith), le-ltb c 2048 (omega arith), le-ltb c 65536 l) refl

pub Walk-over : (at : ℕ) (s t : State) (xs ys : List ℕ) (ms : List Timed) → ys ≡ xs → Walk at s xs ms t → Walk at s ys ms t
Walk-over at s t xs ys ms e w = record { state = ap (state_from at s) e ∙ w.state; marks = ap (timed_from at s) e ∙ w.marks }

-- the same character, so written
pub over_character : (at n : ℕ) (s t : State) (c : ℕ) (bytes : List ℕ) → encode c ≡ bytes → n ≡ at + length bytes → Walk at s bytes (all_by n (complete t)) (cleared t) → Walk at s (encode c) (all_by (at + length (encode c)) (complete t)) (cleared t)
over_character at n s t c bytes e f w =
    Walk-to at _ _ _ _ _ _ refl (ap (λ (k : ℕ). all_by k (complete t)) (f ∙ ap (λ (xs : List ℕ). at + length xs) (sym e))) (Walk-over at _ _ _ _ _ e w)

-- a character from U+0080 on
pub far : (at : ℕ) (s : State) (m : Mode) (r : Bool) (c : ℕ) → IsPlain m → utf8.scalar c ≡ true → 128 ≤ c → Far at s m r c
far at s m r c plain ok l =
    let small : c < 1114112 = ⊎_elim (λ k. omega arith) (λ k. omega arith) (scalar_cases c ok) in
    elim (cases_lt c 2048) [
      | inl h ↦ record {
        p = partial_of at 0x80 0xbf (rest.One (c / 64));
        place = at + 1;
        begins = refl;
        walk = over_character at _ _ _ c _ (encode_two c l h) (omega arith) (far_two at s m r c plain ok l h);
      }
      | inr h ↦ elim (cases_lt c 65536) [
        | inl k ↦
            let f = from_three at c h k ok in
            record {
              p = partial_of f.p.lead 0x80 0xbf (rest.One (c / 64));
              place = at + 1 + 1;
              begins = f.lead;
              walk = over_character at _ _ _ c _ (encode_three c h k) (omega arith) (far_three at s m r c f plain ok h k);
            }
        | inr k ↦
            let f = from_four at c k small in
            record {
              p = partial_of f.p.lead 0x80 0xbf (rest.One (c / 64));
              place = at + 1 + 1 + 1;
              begins = f.lead;
              walk = over_character at _ _ _ c _ (encode_four c k) (omega arith) (far_four at s m r c f plain ok k small);
            }
      ]
    ]

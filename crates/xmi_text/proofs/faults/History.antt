-- Where what is open began: the bytes before the `<` of markup, the `&` of a reference and the first byte of a character, and
-- the byte that is the first fault.
use Rattle.std.proofs.Common.{◌≡◌, ℕ, ◌+◌, ◌≤◌, ◌<◌, ◌⊎◌, Bool, true, false, cond, List, [], ◌∷◌, ◌++◌, length, take, drop, get_or, zero, suc, refl, sym, ◌∙◌, ap, subst, arith, Option, Some, None, inl, inr, append_assoc, codes, encode_utf8_all, ◌*◌, ◌%◌}
use Rattle.std.proofs.Math.Seq.{take-length}
use Rattle.std.proofs.lemmas.List.{take_more, take-append-drop}
use Rattle.std.proofs.lemmas.Bool.{eqb-true, and_from, and_parts, or_parts, ltb-false}
use Rattle.std.specs.Prelude.{◌==◌, not, slice_get, ◌||◌, ◌&&◌, nat_lt, nat_le}
use Rattle.std.specs.List.{list_all}
use Rattle.xmi_text.specs.ByteClass.{within}
use Rattle.xmi_text.specs.States.{cleared, cleared_by}
use Rattle.xmi_text.specs.Steps as steps
use Rattle.xmi_text.specs.Automaton as automaton
use Rattle.xmi_text.specs.Automaton.{step, step_by, innermost, fault, end_fault, end_fault_by, fault_at}
use Rattle.xmi_text.specs.Reading.{state_of, fault_of, end_fault_of}
use Rattle.xmi_text.specs.Writing.{named}
use Rattle.xmi_text.specs.declared.error.TextFault.{TextFault}
use Rattle.xmi_text.specs.declared.error.TextKind.{TextKind}
use Rattle.xmi_text.specs.declared.error.TextKind.TheVariants as kinds
use Rattle.xmi_text.specs.declared.utf_eight.Partial.{Partial}
use Rattle.xmi_text.specs.UtfEight as utf
use Rattle.xmi_text.specs.declared.utf_eight.Growth.{Growth}
use Rattle.xmi_text.specs.declared.utf_eight.Growth.TheVariants as growths
use lib.Utf8.{encode, scalar}
use Rattle.xmi_text.specs.declared.utf_eight.Rest.{Rest}
use Rattle.xmi_text.specs.declared.utf_eight.Rest.TheVariants as rests
use Rattle.xmi_text.specs.declared.state.State.{State}
use Rattle.xmi_text.specs.declared.state.Mode.{Mode}
use Rattle.xmi_text.specs.declared.state.Mode.TheVariants as modes
use Rattle.xmi_text.specs.declared.state.Within.{Within}
use Rattle.xmi_text.specs.declared.state.Ready.{Ready}
use Rattle.xmi_text.specs.declared.state.Ready.TheVariants as ready
use Rattle.xmi_text.proofs.completion.Sound.{Bits, Cut, Takes, sound_of}
use Rattle.xmi_text.proofs.backward.Backward.{Fills, fills_one, fills_two, fills_three, Leads, begun_leads}
use Rattle.xmi_text.proofs.backward.Whole.{or_cond}
use Rattle.xmi_text.proofs.reading.Reached.{state_of-append}
use Rattle.xmi_text.proofs.reading.Staying.{idle_of, fault_stays, failed_mode}
use Rattle.xmi_text.proofs.faults.Reasons.{Goes, IsRound, InPlace, Reason, From, Grew, Came, step_led}

-- markup began behind these bytes
pub record Begun (xs : List ℕ) (l : ℕ) (part : List ℕ) (names : List (List ℕ)) (r : Bool) : Type 0 where
  pub before : List ℕ
  pub is : xs ≡ before ++ part
  pub place : length before ≡ l
  pub round : IsRound (state_of before).mode
  pub none : (state_of before).partial ≡ None
  pub elements : (state_of before).elements ≡ names
  pub rooted : (state_of before).rooted ≡ r

abbrev pub is_no_end : ℕ → Bool
is_no_end c = not (c == 59)

-- a reference began behind these
pub record Referred (xs : List ℕ) (a : ℕ) (w : Within) : Type 0 where
  pub before : List ℕ
  pub text : List ℕ
  pub is : xs ≡ before ++ 38 ∷ text
  pub place : length before ≡ a
  pub within : InPlace w (state_of before).mode
  pub none : (state_of before).partial ≡ None
  pub unended : list_all is_no_end text ≡ true

-- a character began behind these, and isn't whole
pub record Cutting (xs : List ℕ) (s : State) (p : Partial) : Type 0 where
  pub before : List ℕ
  pub part : List ℕ
  pub is : xs ≡ before ++ part
  pub place : length before ≡ p.lead
  pub same : record (state_of before) { partial = Some p } ≡ s
  pub none : (state_of before).partial ≡ None
  pub some : part ≡ [] → ⊥
  pub first : (x : ℕ) (d : List ℕ) → part ≡ x ∷ d → 128 ≤ x
  pub fills : (more : List ℕ) (c : ℕ) → Fills p.rest p.low more c → c < 0x110000 → (part ++ more ≡ encode c) × (128 ≤ c)
  pub cut : (a c : List ℕ) → part ≡ a ++ c → (a ≡ [] → ⊥) → (state_of (before ++ a)).partial ≡ None → ⊥

abbrev pub innermost_bytes : List (List ℕ) → List ℕ
innermost_bytes names = encode_utf8_all (named (innermost names))

abbrev pub Since : List ℕ → List (List ℕ) → Bool → Mode → Type 0
Since xs names r (modes.Less l) = Begun xs l (60 ∷ []) names r
Since xs names r (modes.Bang l) = Begun xs l (60 ∷ 33 ∷ []) names r
Since xs names r modes.Question = (l : ℕ) × Begun xs l (60 ∷ 63 ∷ []) names r
Since xs names r (modes.Doctype l w k) = (1 ≤ k) × (k ≤ 6) × Begun xs l (take (k + 2) (codes "<!DOCTYPE")) names r
Since xs names r (modes.EndName l k) = Begun xs l (60 ∷ 47 ∷ take k (innermost_bytes names)) names r
Since xs names r (modes.Reference a w part) = Referred xs a w
Since xs names r _ = Unit {0}

abbrev pub Held : List ℕ → State → Mode → Option Partial → Type 0
Held xs s (modes.Failed f) c = Unit {0}
Held xs s m None = Since xs s.elements s.rooted m
Held xs s m (Some p) = Cutting xs s p

-- ---- one more byte

longer : (xs part part' : List ℕ) (b l : ℕ) (names names' : List (List ℕ)) (r r' : Bool) → part ++ b ∷ [] ≡ part' → names' ≡ names → r' ≡ r → Begun xs l part names r → Begun (xs ++ b ∷ []) l part' names' r'
longer xs part part' b l names names' r r' e x y h = record {
  before = h.before;
  is = ap (λ q. q ++ b ∷ []) h.is ∙ append_assoc h.before part (b ∷ []) ∙ ap (λ q. h.before ++ q) e;
  place = h.place;
  round = h.round;
  none = h.none;
  elements = h.elements ∙ sym x;
  rooted = h.rooted ∙ sym y;
}

-- one more byte of `<!DOCTYPE`
word_more : (j b : ℕ) → 1 ≤ j → j < 6 → steps.is_wanted (steps.doctype_byte j) b ≡ true → take (j + 2) (codes "<!DOCTYPE") ++ b ∷ [] ≡ take (j + 1 + 2) (codes "<!DOCTYPE")
word_more zero b l h e = absurd (omega arith)
word_more (suc zero) b l h e = ap (λ x. codes "<!D" ++ x ∷ []) (sym (eqb-true 79 b e))
word_more (suc (suc zero)) b l h e = ap (λ x. codes "<!DO" ++ x ∷ []) (sym (eqb-true 67 b e))
word_more (suc (suc (suc zero))) b l h e = ap (λ x. codes "<!DOC" ++ x ∷ []) (sym (eqb-true 84 b e))
word_more (suc (suc (suc (suc zero)))) b l h e = ap (λ x. codes "<!DOCT" ++ x ∷ []) (sym (eqb-true 89 b e))
word_more (suc (suc (suc (suc (suc zero))))) b l h e = ap (λ x. codes "<!DOCTY" ++ x ∷ []) (sym (eqb-true 80 b e))
word_more (suc (suc (suc (suc (suc (suc j)))))) b l h e = absurd (omega arith)

-- and of a name
take_get : (bytes : List ℕ) (j b : ℕ) → slice_get bytes j ≡ Some b → take j bytes ++ b ∷ [] ≡ take (j + 1) bytes
take_get [] j b e = cc
take_get (x ∷ bytes) zero b e = let same : x ≡ b = cc in ap (λ y. y ∷ []) (sym same)
take_get (x ∷ bytes) (suc j) b e =
    let more : suc j + 1 ≡ suc (j + 1) = omega arith in
    ap (λ ys. x ∷ ys) (take_get bytes j b e) ∙ ap (λ n. take n (x ∷ bytes)) (sym more)

name_more : (o : Option (List ℕ)) (j b : ℕ) → automaton.byte_of o j ≡ Some b → take j (encode_utf8_all (named o)) ++ b ∷ [] ≡ take (j + 1) (encode_utf8_all (named o))
name_more None j b e = cc
name_more (Some name) j b e = take_get (encode_utf8_all name) j b e

all_more : (xs : List ℕ) (b : ℕ) → list_all is_no_end xs ≡ true → (b == 59) ≡ false → list_all is_no_end (xs ++ b ∷ []) ≡ true
all_more [] b e f = rw f refl
all_more (x ∷ xs) b e f = let p = and_parts (is_no_end x) (list_all is_no_end xs) e in and_from (is_no_end x) (list_all is_no_end (xs ++ b ∷ [])) p.0 (all_more xs b p.1 f)

-- ---- characters

abbrev NoPart : Growth → Type 0
NoPart (growths.Partial q) = ⊥
NoPart _ = Unit {0}

no_part : (x : Bool) (g : Growth) → NoPart g → NoPart (cond x growths.Broken g)
no_part true g h = tt
no_part false g h = h

found_no_part : (o : Option ℕ) → NoPart (utf.found o)
found_no_part None = tt
found_no_part (Some c) = tt

in_range : (x : Bool) (g h : Growth) → (h ≡ growths.Broken → ⊥) → cond x growths.Broken g ≡ h → (x ≡ false) × (g ≡ h)
in_range true g h n e = absurd (n (sym e))
in_range false g h n e = (refl, e)

same_part : (p q : Partial) → growths.Partial p ≡ growths.Partial q → p ≡ q
same_part p q e = cc

fills_added : (p q : Partial) (rest : Rest) (b : ℕ) (more : List ℕ) (c : ℕ) → Bits rest p.low p.high → p.low ≤ b → b ≤ p.high → utf.added p rest b ≡ growths.Partial q → Fills q.rest q.low more c → Fills rest p.low (b ∷ more) c
fills_added p q (rests.Three bits) b more c z l u e f =
    fills_three bits p.low b more c (omega (arith, z.1)) (omega (arith, z.3)) l (subst (λ (k : Partial). Fills k.rest k.low more c) (sym (same_part _ q e)) f)
fills_added p q (rests.Two bits) b more c z l u e f =
    fills_two bits p.low b more c (omega (arith, z.1)) (omega (arith, z.3)) l (subst (λ (k : Partial). Fills k.rest k.low more c) (sym (same_part _ q e)) f)
fills_added p q (rests.One bits) b more c z l u e f = absurd (subst NoPart e (no_part (nat_lt 0x4fff bits) _ (found_no_part (utf.scalar (bits * 64 + b % 64)))))

-- one more byte of a character
fills_more : (p q : Partial) (b : ℕ) (more : List ℕ) (c : ℕ) → Bits p.rest p.low p.high → utf.extended p b ≡ growths.Partial q → Fills q.rest q.low more c → Fills p.rest p.low (b ∷ more) c
fills_more p q b more c z e f =
    let r = in_range (nat_lt b p.low || nat_lt p.high b) (utf.added p p.rest b) (growths.Partial q) (λ x. cc) e in
    let o = or_parts (nat_lt b p.low) (nat_lt p.high b) r.0 in
    fills_added p q p.rest b more c z (ltb-false b p.low o.0) (ltb-false p.high b o.1) r.1 f

scalar_whole : (x : Bool) (n c : ℕ) → utf.found (cond x (Some n) None) ≡ growths.Whole c → (x ≡ true) × (n ≡ c)
scalar_whole true n c e = (refl, cc)
scalar_whole false n c e = cc

whole_added : (p : Partial) (rest : Rest) (b c : ℕ) → Bits rest p.low p.high → p.low ≤ b → b ≤ p.high → utf.added p rest b ≡ growths.Whole c → Fills rest p.low (b ∷ []) c × (scalar c ≡ true) × (128 ≤ c)
whole_added p (rests.Three bits) b c z l u e = cc
whole_added p (rests.Two bits) b c z l u e = cc
whole_added p (rests.One bits) b c z l u e =
    let n : ℕ = bits * 64 + b % 64 in
    let r = in_range (nat_lt 0x4fff bits) (utf.found (utf.scalar n)) (growths.Whole c) (λ x. cc) e in
    let w = scalar_whole (nat_lt n 0xd800 || (nat_le 0xe000 n && nat_lt n 0x110000)) n c r.1 in
    let ok : scalar n ≡ true = sym (or_cond (nat_lt n 0xd800) (nat_le 0xe000 n && nat_lt n 0x110000)) ∙ w.0 in
    (fills_one bits p.low b c (omega (arith, z.3)) (omega (arith, z.4)) (sym w.1), ap scalar (sym w.1) ∙ ok, omega (arith, z.0, w.1))

-- its last byte
pub fills_whole : (p : Partial) (b c : ℕ) → Bits p.rest p.low p.high → utf.extended p b ≡ growths.Whole c → Fills p.rest p.low (b ∷ []) c × (scalar c ≡ true) × (128 ≤ c)
fills_whole p b c z e =
    let r = in_range (nat_lt b p.low || nat_lt p.high b) (utf.added p p.rest b) (growths.Whole c) (λ x. cc) e in
    let o = or_parts (nat_lt b p.low) (nat_lt p.high b) r.0 in
    whole_added p p.rest b c z (ltb-false b p.low o.0) (ltb-false p.high b o.1) r.1

none_part : (p : Partial) → None ≡ Some p → ⊥
none_part p e = cc

some_part : (q p : Partial) → Some q ≡ Some p → q ≡ p
some_part q p e = cc

-- the bits of a character that is cut
pub bits_for : (m : Mode) (c : Option Partial) (p : Partial) → Cut c m → Goes m → c ≡ Some p → Takes m × Bits p.rest p.low p.high
bits_for (modes.Failed f) c p z g e = absurd g
bits_for m None p z g e = absurd (none_part p e)
bits_for m (Some q) p z g e = (z.0, subst (λ (k : Partial). Bits k.rest k.low k.high) (some_part q p e) z.1)

first_more : (part : List ℕ) (b x : ℕ) (d : List ℕ) → (part ≡ [] → ⊥) → ((y : ℕ) (e : List ℕ) → part ≡ y ∷ e → 128 ≤ y) → part ++ b ∷ [] ≡ x ∷ d → 128 ≤ x
first_more [] b x d n f e = absurd (n refl)
first_more (y ∷ part) b x d n f e = let same : y ≡ x = cc in subst (λ z. 128 ≤ z) same (f y part refl)

some_more : (part : List ℕ) (b : ℕ) → part ++ b ∷ [] ≡ [] → ⊥
some_more [] b e = cc
some_more (x ∷ part) b e = cc

module _ (xs : List ℕ) (b : ℕ) where
  abbrev here : State
  here = state_of xs

  abbrev all : List ℕ
  all = xs ++ b ∷ []

  -- the history of the place before
  abbrev Past : Mode → Type 0
  Past m = Since xs here.elements here.rooted m

  since_next : (m : Mode) (t : State) (n : Mode) → here.mode ≡ m → (here.partial ≡ None → Past m) → From here (length xs) b m t n → Since all t.elements t.rooted n
  since_next m t (modes.Less l) e k h = record {
    before = xs;
    is = ap (λ x. xs ++ x ∷ []) h.3;
    place = sym h.1;
    round = subst IsRound (sym e) h.2;
    none = h.0.2;
    elements = sym h.0.0;
    rooted = sym h.0.1;
  }
  since_next m t (modes.Bang l) e k h = longer xs (60 ∷ []) (60 ∷ 33 ∷ []) b l _ _ _ _ (ap (λ x. 60 ∷ x ∷ []) h.2) h.0.0 h.0.1 (subst Past h.1 (k h.0.2))
  since_next m t modes.Question e k h = (h.1.0, longer xs (60 ∷ []) (60 ∷ 63 ∷ []) b h.1.0 _ _ _ _ (ap (λ x. 60 ∷ x ∷ []) h.2) h.0.0 h.0.1 (subst Past h.1.1 (k h.0.2)))
  since_next m t (modes.Doctype l w n) e k h = elim h.1 [
    | inl x ↦ (
      omega (arith, x.2),
      omega (arith, x.2),
      longer xs (60 ∷ 33 ∷ []) (take (n + 2) (codes "<!DOCTYPE")) b l _ _ _ _ (ap (λ y. 60 ∷ 33 ∷ y ∷ []) x.1 ∙ ap (λ y. take (y + 2) (codes "<!DOCTYPE")) (sym x.2)) h.0.0 h.0.1 (subst Past x.0 (k h.0.2)),
    )
    | inr x ↦
        let past = subst Past x.1 (k h.0.2) in (
          omega (arith, x.2),
          omega (arith, x.2, x.4),
          longer xs (take (x.0 + 2) (codes "<!DOCTYPE")) (take (n + 2) (codes "<!DOCTYPE")) b l _ _ _ _ (word_more x.0 b past.0 x.4 x.3 ∙ ap (λ y. take (y + 2) (codes "<!DOCTYPE")) (sym x.2)) h.0.0 h.0.1 past.2,
        )
  ]
  since_next m t (modes.EndName l n) e k h = elim h.1 [
    | inl x ↦ longer xs (60 ∷ []) (60 ∷ 47 ∷ take n (innermost_bytes t.elements)) b l _ _ _ _ (ap (λ y. 60 ∷ y ∷ []) x.1 ∙ ap (λ y. 60 ∷ 47 ∷ take y (innermost_bytes t.elements)) (sym x.2)) h.0.0 h.0.1 (subst Past x.0 (k h.0.2))
    | inr x ↦
        let grown : take x.0 (innermost_bytes here.elements) ++ b ∷ [] ≡ take n (innermost_bytes t.elements) =
        name_more (innermost here.elements) x.0 b x.3 ∙ ap (λ y. take y (innermost_bytes here.elements)) (sym x.2) ∙ ap (λ (y : List (List ℕ)). take n (innermost_bytes y)) (sym h.0.0) in
        longer xs (60 ∷ 47 ∷ take x.0 (innermost_bytes here.elements)) (60 ∷ 47 ∷ take n (innermost_bytes t.elements)) b l _ _ _ _ (ap (λ y. 60 ∷ 47 ∷ y) grown) h.0.0 h.0.1 (subst Past x.1 (k h.0.2))
  ]
  since_next m t (modes.Reference a w part) e k h = elim h.1 [
    | inl x ↦ record {
      before = xs;
      text = [];
      is = ap (λ y. xs ++ y ∷ []) x.2;
      place = sym x.0;
      within = subst (InPlace w) (sym e) x.1;
      none = h.0;
      unended = refl;
    }
    | inr x ↦
        let past = subst Past x.1 (k h.0) in
        record {
          before = past.before;
          text = past.text ++ b ∷ [];
          is = ap (λ q. q ++ b ∷ []) past.is ∙ append_assoc past.before (38 ∷ past.text) (b ∷ []);
          place = past.place;
          within = past.within;
          none = past.none;
          unended = all_more past.text b past.unended x.2;
        }
  ]
  since_next m t _ e k h = tt

  -- a part of `part` and one byte more is a part of it, or all
  parts : (a c part : List ℕ) → part ++ b ∷ [] ≡ a ++ c → ((d : List ℕ) × (part ≡ a ++ d)) ⊎ (a ≡ part ++ b ∷ [])
  parts [] c part e = inl (part, refl)
  parts (x ∷ a) c [] e =
      let first : b ≡ x = cc in
      let rest : [] ≡ a ++ c = cc in
      inr (ap (λ y. y ∷ a) (sym first) ∙ ap (λ y. b ∷ y) (none_of a c rest))
    where
      none_of : (a c : List ℕ) → [] ≡ a ++ c → a ≡ []
      none_of [] c e = refl
      none_of (x ∷ a) c e = cc
  parts (x ∷ a) c (y ∷ part) e =
      let first : y ≡ x = cc in
      let rest : part ++ b ∷ [] ≡ a ++ c = cc in
      elim (parts a c part rest) [
        | inl d ↦ inl (d.0, ap (λ z. z ∷ part) first ∙ ap (λ z. x ∷ z) d.1)
        | inr d ↦ inr (ap (λ z. x ∷ z) d ∙ ap (λ z. z ∷ (part ++ b ∷ [])) (sym first))
      ]

  cut_next : (t : State) (q : Partial) → (state_of all).partial ≡ Some q → Grew here (length xs) b t q → ((p : Partial) → here.partial ≡ Some p → Bits p.rest p.low p.high × Cutting xs here p) → Cutting all t q
  cut_next t q now g past = elim g.lead [
    | inl x ↦ record {
      before = xs;
      part = b ∷ [];
      is = refl;
      place = sym x.1;
      same = sym g.same;
      none = x.0;
      some = λ e. some_more [] b e;
      first = λ y d e. let one : b ≡ y = cc in subst (λ z. 128 ≤ z) one x.3;
      fills = subst (Leads b) x.2 (begun_leads (length xs) b);
      cut = λ a c e n. whole_one a c (parts a c [] e) n;
    }
    | inr x ↦
        let h = (past x.0 x.1).1 in
        record {
          before = h.before;
          part = h.part ++ b ∷ [];
          is = ap (λ y. y ++ b ∷ []) h.is ∙ append_assoc h.before h.part (b ∷ []);
          place = h.place ∙ sym x.2;
          same = ap (λ (z : State). record z { partial = Some q }) h.same ∙ sym g.same;
          none = h.none;
          some = some_more h.part b;
          first = λ y d e. first_more h.part b y d h.some h.first e;
          fills = λ more c f k.
              let w = h.fills (b ∷ more) c (fills_more x.0 q b more c (past x.0 x.1).0 x.3 f) k in
              (append_assoc h.part (b ∷ []) more ∙ w.0, w.1);
          cut = λ a c e n y. elim (parts a c h.part e) [
            | inl d ↦ h.cut a d.0 d.1 n y
            | inr d ↦ not_none q (sym now ∙ ap (λ z. (state_of z).partial) (ap (λ z. z ++ b ∷ []) h.is ∙ append_assoc h.before h.part (b ∷ []) ∙ ap (λ z. h.before ++ z) (sym d)) ∙ y)
          ];
        }
  ]
    where
      not_none : (q : Partial) → Some q ≡ None → ⊥
      not_none q e = cc

      empty : (a d : List ℕ) → [] ≡ a ++ d → a ≡ []
      empty [] d e = refl
      empty (x ∷ a) d e = cc

      whole_one : (a c : List ℕ) → ((d : List ℕ) × ([] ≡ a ++ d)) ⊎ (a ≡ b ∷ []) → (a ≡ [] → ⊥) → (state_of (xs ++ a)).partial ≡ None → ⊥
      whole_one a c (inl d) n y = n (empty a d.0 d.1)
      whole_one a c (inr d) n y = not_none q (sym now ∙ ap (λ z. (state_of (xs ++ z)).partial) (sym d) ∙ y)

  held_next : (t : State) (c : Option Partial) (n : Mode) → t.partial ≡ c → (state_of all).partial ≡ t.partial → (here.partial ≡ None → Past here.mode) → ((p : Partial) → here.partial ≡ Some p → Bits p.rest p.low p.high × Cutting xs here p) → Came here (length xs) b here.mode t c n → Held all t n c
  held_next t c (modes.Failed f) e now k l h = tt
  held_next t None n e now k l h = since_next here.mode t n refl k h
  held_next t (Some q) n e now k l h = cut_next t q (now ∙ e) h l

-- ---- behind the marks

-- a mark is complete
abbrev Marks : Ready → Type 0
Marks ready.Nothing = ⊥
Marks _ = Unit {0}

cleared_held : (ys : List ℕ) (t : State) (r : Ready) (n : Mode) (c : Option Partial) → (Goes n → (q : Partial) → c ≡ Some q → r ≡ ready.Nothing) → Held ys t n c → Held ys (cleared_by t r) n c
cleared_held ys t ready.Nothing n c k h = h
cleared_held ys t ready.Data (modes.Failed f) c k h = tt
cleared_held ys t ready.Data n None k h = h
cleared_held ys t ready.Data n (Some q) k h = absurd (subst Marks (k tt q refl) tt)
cleared_held ys t ready.Open (modes.Failed f) c k h = tt
cleared_held ys t ready.Open n None k h = h
cleared_held ys t ready.Open n (Some q) k h = absurd (subst Marks (k tt q refl) tt)
cleared_held ys t ready.Empty (modes.Failed f) c k h = tt
cleared_held ys t ready.Empty n None k h = h
cleared_held ys t ready.Empty n (Some q) k h = absurd (subst Marks (k tt q refl) tt)
cleared_held ys t (ready.Close at) (modes.Failed f) c k h = tt
cleared_held ys t (ready.Close at) n None k h = h
cleared_held ys t (ready.Close at) n (Some q) k h = absurd (subst Marks (k tt q refl) tt)

pub cleared_mode : (t : State) (r : Ready) → (cleared_by t r).mode ≡ t.mode
cleared_mode t ready.Nothing = refl
cleared_mode t ready.Data = refl
cleared_mode t ready.Open = refl
cleared_mode t ready.Empty = refl
cleared_mode t (ready.Close at) = refl

pub cleared_partial : (t : State) (r : Ready) → (cleared_by t r).partial ≡ t.partial
cleared_partial t ready.Nothing = refl
cleared_partial t ready.Data = refl
cleared_partial t ready.Open = refl
cleared_partial t ready.Empty = refl
cleared_partial t (ready.Close at) = refl

-- ---- all bytes

abbrev pub IsHeld : List ℕ → State → Type 0
IsHeld xs s = Held xs s s.mode s.partial

pub goes_or_failed : (m : Mode) → Goes m ⊎ ((f : TextFault) × (m ≡ modes.Failed f))
goes_or_failed (modes.Failed f) = inr (f, refl)
goes_or_failed _ = inl tt

past_of : (xs : List ℕ) (s : State) (m : Mode) (c : Option Partial) → Held xs s m c → Goes m → c ≡ None → Since xs s.elements s.rooted m
past_of xs s (modes.Failed f) c h g e = absurd g
past_of xs s m None h g e = h
past_of xs s m (Some p) h g e = absurd (none_part p (sym e))

pub cut_of : (xs : List ℕ) (s : State) (m : Mode) (c : Option Partial) (p : Partial) → Held xs s m c → Goes m → c ≡ Some p → Cutting xs s p
cut_of xs s (modes.Failed f) c p h g e = absurd g
cut_of xs s m None p h g e = absurd (none_part p e)
cut_of xs s m (Some q) p h g e = subst (Cutting xs s) (some_part q p e) h

grew_of : (s : State) (at b : ℕ) (m : Mode) (t : State) (c : Option Partial) (n : Mode) (q : Partial) → Came s at b m t c n → Goes n → c ≡ Some q → Grew s at b t q
grew_of s at b m t c (modes.Failed f) q h g e = absurd g
grew_of s at b m t None n q h g e = absurd (none_part q e)
grew_of s at b m t (Some p) n q h g e = subst (Grew s at b t) (some_part p q e) h

one_more : (xs : List ℕ) (b : ℕ) → Goes (state_of xs).mode → IsHeld xs (state_of xs) → IsHeld (xs ++ b ∷ []) (state_of (xs ++ b ∷ []))
one_more xs b g h =
    let s : State = state_of xs in
    let at : ℕ = length xs in
    let t : State = step s at b in
    let ys : List ℕ = xs ++ b ∷ [] in
    let is : state_of ys ≡ cleared t = state_of-append xs (b ∷ []) in
    let came : Came s at b s.mode t t.partial t.mode = (step_led s at b s.mode s.partial refl refl (sound_of xs).cut g).came in
    let now : (state_of ys).partial ≡ t.partial = ap (λ (q : State). q.partial) is ∙ cleared_partial t t.ready in
    let held : Held ys t t.mode t.partial =
    held_next xs b t t.partial t.mode refl now (past_of xs s s.mode s.partial h g) (λ p e. ((bits_for s.mode s.partial p (sound_of xs).cut g e).1, cut_of xs s s.mode s.partial p h g e)) came in
    let idle : Goes t.mode → (q : Partial) → t.partial ≡ Some q → t.ready ≡ ready.Nothing = λ k q e. ap (λ (z : State). z.ready) (grew_of s at b s.mode t t.partial t.mode q came k e).same ∙ idle_of xs in
    let kept : Held ys (cleared t) t.mode t.partial = cleared_held ys t t.ready t.mode t.partial idle held in
    subst (IsHeld ys) (sym is)
    (subst (λ (m : Mode). Held ys (cleared t) m (cleared t).partial) (sym (cleared_mode t t.ready)) (subst (λ (c : Option Partial). Held ys (cleared t) t.mode c) (sym (cleared_partial t t.ready)) kept))

failed_held : (xs : List ℕ) (b : ℕ) (f : TextFault) → (state_of xs).mode ≡ modes.Failed f → IsHeld (xs ++ b ∷ []) (state_of (xs ++ b ∷ []))
unfolding fault_of
failed_held xs b f e =
    let ys : List ℕ = xs ++ b ∷ [] in
    let s : State = state_of ys in
    let stays : s.mode ≡ modes.Failed f = failed_mode s.mode f (fault_stays xs (b ∷ []) f (ap automaton.fault_by e)) in
    subst (λ (m : Mode). Held ys s m s.partial) (sym stays) tt

-- the bytes before any place are held
pub held_at : (bytes : List ℕ) (n : ℕ) → n ≤ length bytes → IsHeld (take n bytes) (state_of (take n bytes))
unfolding state_of
held_at bytes zero h = tt
held_at bytes (suc n) h =
    let xs : List ℕ = take n bytes in
    let b : ℕ = get_or bytes n 0 in
    let split : take (n + 1) bytes ≡ xs ++ b ∷ [] = take_more bytes n 0 (omega arith) in
    let more : suc n ≡ n + 1 = omega arith in
    let next : IsHeld (xs ++ b ∷ []) (state_of (xs ++ b ∷ [])) = elim (goes_or_failed (state_of xs).mode) [
      | inl g ↦ one_more xs b g (held_at bytes n (omega arith))
      | inr f ↦ failed_held xs b f.0 f.1
    ] in
    subst (λ (ys : List ℕ). IsHeld ys (state_of ys)) (sym (ap (λ k. take k bytes) more ∙ split)) next

-- ---- the byte that is the first fault

pub record Failing (bytes : List ℕ) (f : TextFault) : Type 0 where
  pub xs : List ℕ
  pub b : ℕ
  pub rest : List ℕ
  pub is : bytes ≡ xs ++ b ∷ rest
  pub goes : Goes (state_of xs).mode
  pub held : IsHeld xs (state_of xs)
  pub reason : Reason (state_of xs) (length xs) b (state_of xs).mode f.kind f.at
  pub fault : fault_of (xs ++ b ∷ []) ≡ Some f

none_failed : (f : TextFault) → None ≡ Some f → ⊥
none_failed f e = cc

reason_of : (s : State) (at b : ℕ) (m : Mode) (t : State) (c : Option Partial) (n : Mode) (f : TextFault) → Came s at b m t c n → n ≡ modes.Failed f → Reason s at b m f.kind f.at
reason_of s at b m t c (modes.Failed g) f h e = let same : g ≡ f = cc in subst (λ (k : TextFault). Reason s at b m k.kind k.at) same h
reason_of s at b m t None n f h e = absurd (subst Goes e tt)
reason_of s at b m t (Some q) n f h e = absurd (subst Goes e tt)

first_here : (bytes : List ℕ) (f : TextFault) (n : ℕ) → n < length bytes → Goes (state_of (take n bytes)).mode → fault_of (take (n + 1) bytes) ≡ Some f → Failing bytes f
unfolding fault_of
first_here bytes f n l g e =
    let xs : List ℕ = take n bytes in
    let b : ℕ = get_or bytes n 0 in
    let s : State = state_of xs in
    let at : ℕ = length xs in
    let t : State = step s at b in
    let split : take (n + 1) bytes ≡ xs ++ b ∷ [] = take_more bytes n 0 l in
    let now : fault_of (xs ++ b ∷ []) ≡ Some f = ap fault_of (sym split) ∙ e in
    let is : state_of (xs ++ b ∷ []) ≡ cleared t = state_of-append xs (b ∷ []) in
    let mode : t.mode ≡ modes.Failed f = sym (cleared_mode t t.ready) ∙ failed_mode (cleared t).mode f (ap fault (sym is) ∙ now) in
    record {
      xs = xs;
      b = b;
      rest = drop (n + 1) bytes;
      is = sym (take-append-drop (n + 1) bytes) ∙ ap (λ q. q ++ drop (n + 1) bytes) split ∙ append_assoc xs (b ∷ []) (drop (n + 1) bytes);
      goes = g;
      held = held_at bytes n (omega arith);
      reason = reason_of s at b s.mode t t.partial t.mode f (step_led s at b s.mode s.partial refl refl (sound_of xs).cut g).came mode;
      fault = now;
    }

fails_by : (bytes : List ℕ) (f : TextFault) (n : ℕ) → n ≤ length bytes → fault_of (take n bytes) ≡ Some f → Failing bytes f
unfolding fault_of state_of
fails_by bytes f zero h e = absurd (none_failed f e)
fails_by bytes f (suc n) h e =
    let xs : List ℕ = take n bytes in
    let more : suc n ≡ n + 1 = omega arith in
    let now : fault_of (take (n + 1) bytes) ≡ Some f = ap (λ k. fault_of (take k bytes)) (sym more) ∙ e in
    elim (goes_or_failed (state_of xs).mode) [
      | inl g ↦ first_here bytes f n (omega arith) g now
      | inr g ↦
          let before : fault_of xs ≡ Some g.0 = ap automaton.fault_by g.1 in
          let stays : fault_of (take (n + 1) bytes) ≡ Some g.0 = ap fault_of (take_more bytes n 0 (omega arith)) ∙ fault_stays xs (get_or bytes n 0 ∷ []) g.0 before in
          fails_by bytes f n (omega arith) (before ∙ sym stays ∙ now)
    ]

-- a fault that isn't a bad mark or the end stands as soon as its bytes have come
abbrev pub Early : TextKind → Type 0
Early kinds.BadMark = ⊥
Early kinds.OpenTag = ⊥
Early _ = Unit {0}

abbrev MarkOrOpen : Option TextFault → Type 0
MarkOrOpen None = Unit {0}
MarkOrOpen (Some f) = Early f.kind → ⊥

early_by : (b : Bool) (f g : TextFault) → (Early f.kind → ⊥) → (Early g.kind → ⊥) → Early (cond b f g).kind → ⊥
early_by true f g x y = x
early_by false f g x y = y

start_mark : (lead n : ℕ) (r : Rest) → Early (automaton.cut_start_by lead n r).kind → ⊥
start_mark lead n (rests.Three bits) h = h
start_mark lead n (rests.Two bits) h = early_by (bits == 15) (fault_at kinds.OpenTag n) (fault_at kinds.BadMark lead) (λ x. x) (λ x. x) h
start_mark lead n (rests.One bits) h =
    early_by (bits == 0x3fb) (fault_at kinds.OpenTag n) (cond (within 0x3c0 0x3ff bits) (fault_at kinds.BadMark 1) (fault_at kinds.BadMark lead)) (λ x. x)
    (early_by (within 0x3c0 0x3ff bits) (fault_at kinds.BadMark 1) (fault_at kinds.BadMark lead) (λ x. x) (λ x. x)) h

root_end : (b : Bool) (n : ℕ) → MarkOrOpen (cond b None (Some (fault_at kinds.OpenTag n)))
root_end true n = tt
root_end false n = λ x. x

ended_mark : (s : State) (m : Mode) (n : ℕ) (c : Option Partial) → MarkOrOpen (automaton.ended_by s m n c)
ended_mark s modes.Start n (Some p) = start_mark p.lead n p.rest
ended_mark s m n (Some p) = early_by (automaton.admits s m) (fault_at kinds.OpenTag n) (fault_at kinds.BadMark p.lead) (λ x. x) (λ x. x)
ended_mark s modes.Outside n None = root_end s.rooted n
ended_mark s m n None = λ x. x

early_fault : (s : State) (n : ℕ) (m : Mode) (f : TextFault) → Early f.kind → end_fault_by s n m ≡ Some f → automaton.fault_by m ≡ Some f
early_fault s n (modes.Failed g) f h e = e
early_fault s n (modes.Doctype l w k) f h e = absurd (subst MarkOrOpen e (λ x. x) h)
early_fault s n m f h e = absurd (subst MarkOrOpen e (ended_mark s m n s.partial) h)

pub told_early : (bytes : List ℕ) (f : TextFault) → Early f.kind → end_fault_of bytes ≡ Some f → fault_of bytes ≡ Some f
unfolding fault_of end_fault_of
told_early bytes f h e = early_fault (state_of bytes) (length bytes) (state_of bytes).mode f h e

pub fails : (bytes : List ℕ) (f : TextFault) → Early f.kind → end_fault_of bytes ≡ Some f → Failing bytes f
fails bytes f h e = fails_by bytes f (length bytes) (omega arith) (ap fault_of (take-length bytes) ∙ told_early bytes f h e)

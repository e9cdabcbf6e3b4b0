-- Faults of end tags: the name is neither a part of the open element's, nor that name and a byte behind it.
use Rattle.std.proofs.Common.{◌≡◌, ℕ, ◌+◌, ◌-◌, ◌/◌, ◌%◌, ◌≤◌, ◌<◌, ◌⊎◌, Bool, true, false, cond, List, [], ◌∷◌, ◌++◌, length, take, drop, zero, suc, refl, sym, ◌∙◌, ap, subst, arith, Option, Some, None, inl, inr, append_assoc, length-append, codes, encode_utf8_all, true≢false}
use Rattle.std.proofs.lemmas.Bool.{eqb-true, and_parts, and_from, cases_lt, cases_Bool, cond-true, cond-false, both_ways, or_left, or_right, or_cases, eq-eqb}
use Rattle.std.proofs.lemmas.Str.{encode_ascii}
use Rattle.std.specs.Prelude.{◌==◌, ◌&&◌, ◌||◌, not, nat_lt, slice_get}
use Rattle.std.specs.List.{list_all}
use Rattle.std.specs.Str.{all_scalars}
use lib.Utf8.{encode, encodes, scalar, scalars}
use Rattle.xmi_text.specs.ByteClass.{within, begins_name, continues_name, holds_in_name}
use Rattle.xmi_text.specs.Names.{is_far, is_name, goes_on}
use Rattle.xmi_text.specs.States as states
use Rattle.xmi_text.specs.States.{go, fail, is_inside, cleared}
use Rattle.xmi_text.specs.Automaton as automaton
use Rattle.xmi_text.specs.Automaton.{innermost, end_fault, fault_at}
use Rattle.xmi_text.specs.Reading.{state_from, state_of, end_fault_of}
use Rattle.xmi_text.specs.Writing.{named}
use Rattle.xmi_text.specs.Completion.{MayGoOn}
use Rattle.xmi_text.specs.Markup.{begins, Begins}
use Rattle.xmi_text.specs.Faults.{MayEnd, IsWrongEnd}
use Rattle.xmi_text.specs.declared.error.TextFault.{TextFault}
use Rattle.xmi_text.specs.declared.error.TextKind.TheVariants as kinds
use Rattle.xmi_text.specs.declared.utf_eight.Partial.{Partial}
use Rattle.xmi_text.specs.declared.state.State.{State}
use Rattle.xmi_text.specs.declared.state.Mode.{Mode}
use Rattle.xmi_text.specs.declared.state.Mode.TheVariants as modes
use Rattle.xmi_text.specs.declared.state.Ready.TheVariants as ready
use Rattle.xmi_text.proofs.completion.Sound.{NotOpen, Cut, Stands as Inside, sound_of}
use Rattle.xmi_text.proofs.completion.Completing.{some_fault}
use Rattle.xmi_text.proofs.reading.Reached.{state_of-append}
use Rattle.xmi_text.proofs.reading.Staying.{stuck_state}
use Rattle.xmi_text.proofs.forward.Encoded.{encode_two, encode_three, encode_four, within_from}
use Rattle.xmi_text.proofs.backward.Backfar.{small_scalar}
use Rattle.xmi_text.proofs.forward.NameSteps.{far_parts}
use Rattle.xmi_text.proofs.faults.Prefixes.{begins_goes_on}
use Rattle.xmi_text.proofs.faults.Standing.{same_kind}
use Rattle.xmi_text.proofs.faults.Reasons.{Goes, IsRound, NoEnd, Reason}
use Rattle.xmi_text.proofs.faults.History.{Begun, Held, fails, Early, goes_or_failed, innermost_bytes}
use Rattle.xmi_text.proofs.backward.Backward.{in_mode}
use Rattle.xmi_text.proofs.faults.Probing.{shape, may, take_front, drop_front, stands, is_markup, whole_of, past_by}
use Rattle.xmi_text.proofs.faults.Depths.{opened, end_may}
use Rattle.xmi_text.proofs.faults.Cuts.{name_end}
use Rattle.xmi_text.proofs.faults.OpenNames.{is_plain, are_plain, far_plain, plain_of}

-- ---- the bytes of names

-- bytes that a name holds
abbrev hold : List ℕ → Bool
hold bytes = list_all holds_in_name bytes

tail_holds : (b : ℕ) → 128 ≤ b → b ≤ 191 → holds_in_name b ≡ true
tail_holds b l h = or_left (continues_name b || (b == 58) || within 0x80 0xbf b) (within 0xc2 0xf4 b) (or_right (continues_name b || (b == 58)) (within 0x80 0xbf b) (within_from 0x80 0xbf b l h))

lead_holds : (b : ℕ) → 194 ≤ b → b ≤ 244 → holds_in_name b ≡ true
lead_holds b l h = or_right (continues_name b || (b == 58) || within 0x80 0xbf b) (within 0xc2 0xf4 b) (within_from 0xc2 0xf4 b l h)

two_hold : (a b : ℕ) → holds_in_name a ≡ true → holds_in_name b ≡ true → hold (a ∷ b ∷ []) ≡ true
two_hold a b e f = rw (e, f) refl

three_hold : (a b c : ℕ) → holds_in_name a ≡ true → holds_in_name b ≡ true → holds_in_name c ≡ true → hold (a ∷ b ∷ c ∷ []) ≡ true
three_hold a b c e f g = rw (e, f, g) refl

four_hold : (a b c d : ℕ) → holds_in_name a ≡ true → holds_in_name b ≡ true → holds_in_name c ≡ true → holds_in_name d ≡ true → hold (a ∷ b ∷ c ∷ d ∷ []) ≡ true
four_hold a b c d e f g h = rw (e, f, g, h) refl

far_holds : (c : ℕ) → 128 ≤ c → scalar c ≡ true → hold (encode c) ≡ true
far_holds c l ok =
    let small : c < 1114112 = small_scalar c ok in
    elim (cases_lt c 2048) [
      | inl h ↦ ap hold (encode_two c l h) ∙ two_hold (192 + c / 64) (128 + c % 64) (lead_holds (192 + c / 64) (omega arith) (omega arith)) (tail_holds (128 + c % 64) (omega arith) (omega arith))
      | inr h ↦ elim (cases_lt c 65536) [
        | inl k ↦
            ap hold (encode_three c h k)
            ∙ three_hold (224 + c / 4096) (128 + c / 64 % 64) (128 + c % 64) (lead_holds (224 + c / 4096) (omega arith) (omega arith)) (tail_holds (128 + c / 64 % 64) (omega arith) (omega arith)) (tail_holds (128 + c % 64) (omega arith) (omega arith))
        | inr k ↦
            ap hold (encode_four c k)
            ∙ four_hold (240 + c / 262144) (128 + c / 4096 % 64) (128 + c / 64 % 64) (128 + c % 64) (lead_holds (240 + c / 262144) (omega arith) (omega arith)) (tail_holds (128 + c / 4096 % 64) (omega arith) (omega arith)) (tail_holds (128 + c / 64 % 64) (omega arith) (omega arith)) (tail_holds (128 + c % 64) (omega arith) (omega arith))
      ]
    ]

-- a character of a name
abbrev is_in_name : ℕ → Bool
is_in_name c = continues_name c || ((c == 58) || is_far c)

low_holds : (c : ℕ) → c < 128 → is_in_name c ≡ true → holds_in_name c ≡ true
low_holds c l e = elim (or_cases (continues_name c) ((c == 58) || is_far c) e) [
  | inl x ↦ or_left (continues_name c || (c == 58) || within 0x80 0xbf c) (within 0xc2 0xf4 c) (or_left (continues_name c || (c == 58)) (within 0x80 0xbf c) (or_left (continues_name c) (c == 58) x))
  | inr x ↦ elim (or_cases (c == 58) (is_far c) x) [
    | inl y ↦ or_left (continues_name c || (c == 58) || within 0x80 0xbf c) (within 0xc2 0xf4 c) (or_left (continues_name c || (c == 58)) (within 0x80 0xbf c) (or_right (continues_name c) (c == 58) y))
    | inr y ↦ absurd (omega (arith, (far_parts c y).0))
  ]
]

one_holds : (c : ℕ) → scalar c ≡ true → is_in_name c ≡ true → hold (encode c) ≡ true
one_holds c ok e = elim (cases_lt c 128) [
  | inl l ↦ ap hold (encode_ascii c l) ∙ ap (λ b. b && true) (low_holds c l e)
  | inr l ↦ far_holds c l ok
]

hold_append : (xs ys : List ℕ) → hold xs ≡ true → hold ys ≡ true → hold (xs ++ ys) ≡ true
hold_append [] ys e f = f
hold_append (x ∷ xs) ys e f = let p = and_parts (holds_in_name x) (hold xs) e in and_from (holds_in_name x) (hold (xs ++ ys)) p.0 (hold_append xs ys p.1 f)

rest_holds : (colon : Bool) (cs : List ℕ) → scalars cs ≡ true → goes_on colon cs ≡ true → hold (encodes cs) ≡ true
rest_holds colon [] ok e = refl
rest_holds colon (c ∷ cs) ok e =
    let o = and_parts (scalar c) (scalars cs) ok in
    elim (cases_Bool (c == 58)) [
      | inl x ↦
          let f = and_parts (not colon) (goes_on true cs) (ap (λ b. cond b (not colon && goes_on true cs) ((continues_name c || is_far c) && goes_on colon cs)) (sym x) ∙ e) in
          hold_append (encode c) (encodes cs) (one_holds c o.0 (or_right (continues_name c) ((c == 58) || is_far c) (or_left (c == 58) (is_far c) x))) (rest_holds true cs o.1 f.1)
      | inr x ↦
          let f = and_parts (continues_name c || is_far c) (goes_on colon cs) (ap (λ b. cond b (not colon && goes_on true cs) ((continues_name c || is_far c) && goes_on colon cs)) (sym x) ∙ e) in
          let one : is_in_name c ≡ true = elim (or_cases (continues_name c) (is_far c) f.0) [
            | inl y ↦ or_left (continues_name c) ((c == 58) || is_far c) y
            | inr y ↦ or_right (continues_name c) ((c == 58) || is_far c) (or_right (c == 58) (is_far c) y)
          ] in
          hold_append (encode c) (encodes cs) (one_holds c o.0 one) (rest_holds colon cs o.1 f.1)
    ]

name_holds : (name : List ℕ) → is_name name ≡ true → all_scalars name ≡ true → hold (encodes name) ≡ true
name_holds [] e ok = absurd (true≢false (sym e))
name_holds (c ∷ cs) e ok =
    let o = and_parts (scalar c) (scalars cs) ok in
    let p = and_parts (begins_name c || is_far c) (goes_on false cs) e in
    let one : is_in_name c ≡ true = elim (or_cases (begins_name c) (is_far c) p.0) [
      | inl y ↦ or_left (continues_name c) ((c == 58) || is_far c) (or_left (begins_name c || within 48 57 c || (c == 45)) (c == 46) (or_left (begins_name c || within 48 57 c) (c == 45) (or_left (begins_name c) (within 48 57 c) y)))
      | inr y ↦ or_right (continues_name c) ((c == 58) || is_far c) (or_right (c == 58) (is_far c) y)
    ] in
    hold_append (encode c) (encodes cs) (one_holds c o.0 one) (rest_holds false cs o.1 p.1)

-- no `>` is among an open element's
plain_append : (xs ys : List ℕ) → are_plain xs ≡ true → are_plain ys ≡ true → are_plain (xs ++ ys) ≡ true
plain_append [] ys e f = f
plain_append (x ∷ xs) ys e f = let p = and_parts (is_plain x) (are_plain xs) e in and_from (is_plain x) (are_plain (xs ++ ys)) p.0 (plain_append xs ys p.1 f)

encode_plain : (c : ℕ) → is_plain c ≡ true → are_plain (encode c) ≡ true
encode_plain c e = elim (cases_lt c 128) [
  | inl l ↦ ap are_plain (encode_ascii c l) ∙ ap (λ b. b && true) e
  | inr l ↦ elim (cases_lt c 2048) [
    | inl h ↦ ap are_plain (encode_two c l h) ∙ rw (far_plain (192 + c / 64) (omega arith), far_plain (128 + c % 64) (omega arith)) refl
    | inr h ↦ elim (cases_lt c 65536) [
      | inl k ↦ ap are_plain (encode_three c h k) ∙ rw (far_plain (224 + c / 4096) (omega arith), far_plain (128 + c / 64 % 64) (omega arith), far_plain (128 + c % 64) (omega arith)) refl
      | inr k ↦
          ap are_plain (encode_four c k)
          ∙ rw (far_plain (240 + c / 262144) (omega arith), far_plain (128 + c / 4096 % 64) (omega arith), far_plain (128 + c / 64 % 64) (omega arith), far_plain (128 + c % 64) (omega arith)) refl
    ]
  ]
]

encodes_plain : (name : List ℕ) → are_plain name ≡ true → are_plain (encodes name) ≡ true
encodes_plain [] e = refl
encodes_plain (c ∷ cs) e = let p = and_parts (is_plain c) (are_plain cs) e in plain_append (encode c) (encodes cs) (encode_plain c p.0) (encodes_plain cs p.1)

got_plain : (names : List (List ℕ)) (k : ℕ) → list_all are_plain names ≡ true → are_plain (encodes (named (slice_get names k))) ≡ true
got_plain [] zero e = refl
got_plain [] (suc k) e = refl
got_plain (name ∷ names) zero e = encodes_plain name (and_parts (are_plain name) (list_all are_plain names) e).0
got_plain (name ∷ names) (suc k) e = got_plain names k (and_parts (are_plain name) (list_all are_plain names) e).1

not_got : (bytes : List ℕ) (k : ℕ) → are_plain bytes ≡ true → slice_get bytes k ≡ Some 62 → ⊥
not_got [] zero e f = cc
not_got [] (suc k) e f = cc
not_got (b ∷ bytes) zero e f = let same : b ≡ 62 = cc in both_ways (is_plain b) (ap is_plain same) (and_parts (is_plain b) (are_plain bytes) e).0
not_got (b ∷ bytes) (suc k) e f = not_got bytes k (and_parts (is_plain b) (are_plain bytes) e).1 f

-- ---- an end tag that may stand has the name

-- in an end tag's name
abbrev pub in_end : State → ℕ → ℕ → State
in_end s l k = record s { mode = modes.EndName l k; partial = None; ready = ready.Nothing }

byte_same : (o : Option (List ℕ)) (k : ℕ) → automaton.byte_of o k ≡ slice_get (encode_utf8_all (named o)) k
byte_same None zero = refl
byte_same None (suc k) = refl
byte_same (Some name) k = refl

drop_got : (bytes : List ℕ) (k b : ℕ) → slice_get bytes k ≡ Some b → drop k bytes ≡ b ∷ drop (k + 1) bytes
drop_got [] k b e = cc
drop_got (x ∷ bytes) zero b e = let same : x ≡ b = cc in ap (λ y. y ∷ bytes) same
drop_got (x ∷ bytes) (suc k) b e =
    let more : suc k + 1 ≡ suc (k + 1) = omega arith in
    drop_got bytes k b e ∙ ap (λ n. b ∷ drop n (x ∷ bytes)) (sym more)

-- a failed state goes nowhere
not_gone : (at : ℕ) (s : State) (f : TextFault) (bytes : List ℕ) → s.mode ≡ modes.Failed f → s.ready ≡ ready.Nothing → Goes (state_from at s bytes).mode → ⊥
not_gone at s f bytes e i g = subst Goes (ap (λ (t : State). t.mode) (stuck_state at s f bytes e i) ∙ e) g

-- the bytes of a name and `>` match the open element's name and nothing more
end_run : (ys : List ℕ) (s : State) (l k at : ℕ) → hold ys ≡ true → are_plain (innermost_bytes s.elements) ≡ true → Goes (state_from at (in_end s l k) (ys ++ 62 ∷ [])).mode → drop k (innermost_bytes s.elements) ≡ ys
end_run [] s l k at e p g = last (automaton.wanted s k) refl g
  where
    last : (o : Option ℕ) → automaton.wanted s k ≡ o → Goes (state_from at (in_end s l k) (62 ∷ [])).mode → drop k (innermost_bytes s.elements) ≡ []
    last None f g = name_end (innermost s.elements) k f
    last (Some w) f g = elim (cases_Bool (w == 62)) [
      | inl x ↦ absurd (not_got (innermost_bytes s.elements) k p (sym (byte_same (innermost s.elements) k) ∙ f ∙ ap Some (eqb-true w 62 x)))
      | inr x ↦
          let t : State = in_end s l k in
          let failed : automaton.end_name_by t l k at 62 (automaton.wanted s k) ≡ fail t kinds.WrongEnd l = ap (automaton.end_name_by t l k at 62) f ∙ cond-false (w == 62) (go t (modes.EndName l (k + 1))) (fail t kinds.WrongEnd l) x in
          absurd (subst (λ (q : State). Goes (cleared q).mode) failed g)
    ]
end_run (y ∷ ys) s l k at e p g = more (automaton.wanted s k) refl (λ q. end_run ys (record s { returned = false }) l (k + 1) (at + 1) (and_parts (holds_in_name y) (hold ys) e).1 p q)
  where
    parts : (holds_in_name y ≡ true) × (hold ys ≡ true)
    parts = and_parts (holds_in_name y) (hold ys) e

    more : (o : Option ℕ) → automaton.wanted s k ≡ o → (Goes (state_from (at + 1) (in_end (record s { returned = false }) l (k + 1)) (ys ++ 62 ∷ [])).mode → drop (k + 1) (innermost_bytes s.elements) ≡ ys) → drop k (innermost_bytes s.elements) ≡ y ∷ ys
    more None f again =
        let t : State = in_end s l k in
        let failed : automaton.end_name_by t l k at y (automaton.wanted s k) ≡ fail t kinds.WrongEnd l = ap (automaton.end_name_by t l k at y) f ∙ cond-true (holds_in_name y) _ _ parts.0 in
        absurd (not_gone (at + 1) (cleared (fail t kinds.WrongEnd l)) (fault_at kinds.WrongEnd l) (ys ++ 62 ∷ []) refl refl (subst (λ (q : State). Goes (state_from (at + 1) (cleared q) (ys ++ 62 ∷ [])).mode) failed g))
    more (Some w) f again = elim (cases_Bool (w == y)) [
      | inl x ↦
          let t : State = in_end s l k in
          let gone : automaton.end_name_by t l k at y (automaton.wanted s k) ≡ go t (modes.EndName l (k + 1)) = ap (automaton.end_name_by t l k at y) f ∙ cond-true (w == y) (go t (modes.EndName l (k + 1))) (fail t kinds.WrongEnd l) x in
          let rest = again (subst (λ (q : State). Goes (state_from (at + 1) (cleared q) (ys ++ 62 ∷ [])).mode) gone g) in
          drop_got (innermost_bytes s.elements) k y (sym (byte_same (innermost s.elements) k) ∙ f ∙ ap Some (eqb-true w y x)) ∙ ap (λ zs. y ∷ zs) rest
      | inr x ↦
          let t : State = in_end s l k in
          let failed : automaton.end_name_by t l k at y (automaton.wanted s k) ≡ fail t kinds.WrongEnd l = ap (automaton.end_name_by t l k at y) f ∙ cond-false (w == y) (go t (modes.EndName l (k + 1))) (fail t kinds.WrongEnd l) x in
          absurd (not_gone (at + 1) (cleared (fail t kinds.WrongEnd l)) (fault_at kinds.WrongEnd l) (ys ++ 62 ∷ []) refl refl (subst (λ (q : State). Goes (state_from (at + 1) (cleared q) (ys ++ 62 ∷ [])).mode) failed g))
    ]

-- the state behind `</`
record Ended (s : State) (m : Mode) (at : ℕ) (more : List ℕ) : Type 0 where
  state : State
  is : state_from at (in_mode s m) (60 ∷ 47 ∷ more) ≡ state_from (at + 1 + 1) (in_end state at 0) more
  elements : state.elements ≡ s.elements

ended_run : (s : State) (at : ℕ) (more run : List ℕ) → (t : State) × (state_from (at + 1 + 1) (cleared (record s { mode = modes.EndName at 0; partial = None; returned = false; run = run; ready = states.due run })) more ≡ state_from (at + 1 + 1) (in_end t at 0) more) × (t.elements ≡ s.elements)
ended_run s at more [] = (record s { returned = false; run = [] }, refl, refl)
ended_run s at more (c ∷ run) = (record s { returned = false; run = [] }, refl, refl)

round_end : (s : State) (m : Mode) (at : ℕ) (more : List ℕ) → IsRound m → state_from at (in_mode s m) (60 ∷ 47 ∷ more) ≡ state_from (at + 1) (opened s at) (47 ∷ more)
round_end s modes.Start at more r = refl
round_end s modes.Outside at more r = refl
round_end s modes.Inside at more r = refl
round_end s _ at more r = absurd r

ended : (s : State) (m : Mode) (at : ℕ) (more : List ℕ) → IsRound m → is_inside s ≡ true → Ended s m at more
ended s m at more r i =
    let t : State = opened s at in
    let e = ended_run s at more s.run in
    record {
      state = e.0;
      is = round_end s m at more r ∙ ap (λ (q : State). state_from (at + 1 + 1) (cleared q) more) (cond-true (is_inside t) (states.begin_end t at) (fail t kinds.BadMark (at + 1)) i) ∙ e.1;
      elements = e.2;
    }

-- bytes that may go on have no fault
open_goes : (bytes : List ℕ) → MayGoOn bytes → Goes (state_of bytes).mode
unfolding end_fault_of
open_goes bytes o = elim (goes_or_failed (state_of bytes).mode) [
  | inl g ↦ g
  | inr f ↦
      let s : State = state_of bytes in
      let told : end_fault_of bytes ≡ Some f.0 = ap (automaton.end_fault_by s (length bytes)) f.1 in
      let other : NotOpen f.0.kind = subst (Inside (is_inside s) s.rooted) f.1 (sound_of bytes).stands in
      absurd (elim o [ inl x ↦ some_fault f.0 (sym told ∙ x) | inr x ↦ subst NotOpen (same_kind f.0 kinds.OpenTag (length bytes) (sym told ∙ x)).0 other ])
]

-- the name is the open element's
end_name_is : (bytes before : List ℕ) (n : ℕ) (name : List ℕ) → take n bytes ≡ before → IsRound (state_of before).mode → (state_of before).partial ≡ None → is_inside (state_of before) ≡ true → MayEnd bytes n name → encodes name ≡ innermost_bytes (state_of before).elements
end_name_is bytes before n name t r c i h =
    let s : State = state_of before in
    let at : ℕ = length before in
    let more : List ℕ = encodes name ++ 62 ∷ [] in
    let e = ended s s.mode at more r i in
    let goes : Goes (state_of (before ++ 60 ∷ 47 ∷ more)).mode = open_goes (before ++ 60 ∷ 47 ∷ more) (begins_goes_on (before ++ 60 ∷ 47 ∷ more) (subst (λ xs. Begins (xs ++ 60 ∷ 47 ∷ more)) t h.2)) in
    let is : state_of (before ++ 60 ∷ 47 ∷ more) ≡ state_from (at + 1 + 1) (in_end e.state at 0) more =
    state_of-append before (60 ∷ 47 ∷ more) ∙ ap (λ (q : State). state_from at q (60 ∷ 47 ∷ more)) (shape before s.mode refl c) ∙ e.is in
    let plain : are_plain (innermost_bytes e.state.elements) ≡ true =
    ap (λ (xs : List (List ℕ)). are_plain (innermost_bytes xs)) e.elements ∙ got_plain s.elements (length s.elements - 1) (plain_of before) in
    let run = end_run (encodes name) e.state at 0 (at + 1 + 1) (name_holds name h.0 h.1) plain (subst (λ (q : State). Goes q.mode) is goes) in
    sym run ∙ ap innermost_bytes e.elements

-- ---- the fault

-- bytes that go on as a name do
goes_with : (name : List ℕ) (k b : ℕ) (rest : List ℕ) → begins (take k name ++ b ∷ rest) name ≡ true → slice_get name k ≡ Some b
goes_with [] zero b rest e = absurd (true≢false (sym e))
goes_with [] (suc k) b rest e = absurd (true≢false (sym e))
goes_with (x ∷ name) zero b rest e = ap Some (sym (eqb-true b x (and_parts (b == x) (begins rest name) e).0))
goes_with (x ∷ name) (suc k) b rest e = goes_with name k b rest (and_parts (x == x) (begins (take k name ++ b ∷ rest) name) e).1

ends_with : (name : List ℕ) (c k b : ℕ) (rest : List ℕ) → begins (name ++ c ∷ []) (take k name ++ b ∷ rest) ≡ true → (slice_get name k ≡ Some b) ⊎ ((slice_get name k ≡ None) × (c ≡ b))
ends_with [] c zero b rest e = inr (refl, eqb-true c b (and_parts (c == b) (begins [] rest) e).0)
ends_with [] c (suc k) b rest e = inr (refl, eqb-true c b (and_parts (c == b) (begins [] rest) e).0)
ends_with (x ∷ name) c zero b rest e = inl (ap Some (eqb-true x b (and_parts (x == b) (begins (name ++ c ∷ []) rest) e).0))
ends_with (x ∷ name) c (suc k) b rest e = ends_with name c k b rest (and_parts (x == x) (begins (name ++ c ∷ []) (take k name ++ b ∷ rest)) e).1

-- why the name is wrong
abbrev Wrong : List ℕ → ℕ → ℕ → Type 0
Wrong name k b = ((w : ℕ) × (slice_get name k ≡ Some w) × ((w == b) ≡ false)) ⊎ ((slice_get name k ≡ None) × (holds_in_name b ≡ true))

not_same : (name : List ℕ) (k b : ℕ) → Wrong name k b → slice_get name k ≡ Some b → ⊥
not_same name k b (inl w) e = let same : Some w.0 ≡ Some b = sym w.1 ∙ e in let one : w.0 ≡ b = cc in both_ways (w.0 == b) w.2 (eq-eqb w.0 b one)
not_same name k b (inr w) e = let same : None ≡ Some b = sym w.0 ∙ e in cc

not_ended : (name : List ℕ) (c k b : ℕ) → Wrong name k b → holds_in_name c ≡ false → slice_get name k ≡ None → c ≡ b → ⊥
not_ended name c k b (inl w) h e f = let same : Some w.0 ≡ None = sym w.1 ∙ e in cc
not_ended name c k b (inr w) h e f = both_ways (holds_in_name c) h (ap holds_in_name f ∙ w.1)

wrong_end_at : (bytes xs : List ℕ) (b : ℕ) (rest : List ℕ) (l k : ℕ) (names : List (List ℕ)) (r : Bool) → bytes ≡ xs ++ b ∷ rest → Begun xs l (60 ∷ 47 ∷ take k (innermost_bytes names)) names r → nat_lt 0 (length names) ≡ true → Wrong (innermost_bytes names) k b → IsWrongEnd bytes l
wrong_end_at bytes xs b rest l k names r e h i w =
    let name : List ℕ = innermost_bytes names in
    let s : State = state_of h.before in
    let tail : List ℕ = take k name ++ b ∷ rest in
    let all : bytes ≡ h.before ++ (60 ∷ 47 ∷ tail) = whole_of bytes xs h.before (60 ∷ 47 ∷ take k name) b rest e h.is in
    let front : take l bytes ≡ h.before = take_front bytes h.before (60 ∷ 47 ∷ tail) l all h.place in
    let inside : is_inside s ≡ true = ap (λ (ns : List (List ℕ)). nat_lt 0 (length ns)) h.elements ∙ i in
    let behind : drop (l + 2) bytes ≡ tail = drop_front bytes (h.before ++ 60 ∷ 47 ∷ []) tail (l + 2) (all ∙ sym (append_assoc h.before (60 ∷ 47 ∷ []) tail)) (length-append h.before (60 ∷ 47 ∷ []) ∙ ap (λ j. j + 2) h.place) in
    let is : (other : List ℕ) → MayEnd bytes l other → encodes other ≡ name = λ other m. end_name_is bytes h.before l other front h.round h.none inside m ∙ ap innermost_bytes h.elements in
    record {
      markup = is_markup bytes h.before l front h.round h.none;
      end = stands bytes h.before (60 ∷ 47 ∷ []) tail l all h.place;
      inside = may bytes h.before (codes "</") l s.mode front refl h.none (λ at j. end_may s s.mode at j h.round inside);
      part = λ other m a. not_same name k b w (goes_with name k b rest (ap (λ ys. begins ys name) (sym behind) ∙ ap (begins (drop (l + 2) bytes)) (sym (is other m)) ∙ a));
      other = λ other c m f a. elim (ends_with name c k b rest (ap (begins (name ++ c ∷ [])) (sym behind) ∙ ap (λ ys. begins (ys ++ c ∷ []) (drop (l + 2) bytes)) (sym (is other m)) ∙ a)) [
        | inl x ↦ not_same name k b w x
        | inr x ↦ not_ended name c k b w f x.0 x.1
      ];
    }

wrong_end_by : (bytes xs : List ℕ) (b : ℕ) (rest : List ℕ) (n : ℕ) (m : Mode) (c : Option Partial) → bytes ≡ xs ++ b ∷ rest → Held xs (state_of xs) m c → Cut c m → Inside (is_inside (state_of xs)) (state_of xs).rooted m → NoEnd (state_of xs) (length xs) b m n → IsWrongEnd bytes n
wrong_end_by bytes xs b rest n (modes.EndName l k) c e h z i w =
    let s : State = state_of xs in
    let past = past_by xs s (modes.EndName l k) c h z (λ x. x) tt in
    let same : automaton.wanted s k ≡ slice_get (innermost_bytes s.elements) k = byte_same (innermost s.elements) k in
    let wrong : Wrong (innermost_bytes s.elements) k b = elim w.1 [ inl x ↦ inl (x.0, sym same ∙ x.1, x.2) | inr x ↦ inr (sym same ∙ x.0, x.1) ] in
    subst (IsWrongEnd bytes) (sym w.0) (wrong_end_at bytes xs b rest l k s.elements s.rooted e past i wrong)
wrong_end_by bytes xs b rest n _ c e h z i w = absurd w

pub wrong_end : (bytes : List ℕ) (f : TextFault) → end_fault_of bytes ≡ Some f → f.kind ≡ kinds.WrongEnd → IsWrongEnd bytes f.at
wrong_end bytes f e k =
    let h = fails bytes f (subst Early (sym k) tt) e in
    let s : State = state_of h.xs in
    let w = subst (λ kind. Reason s (length h.xs) h.b s.mode kind f.at) k h.reason in
    wrong_end_by bytes h.xs h.b h.rest f.at s.mode s.partial h.is h.held (sound_of h.xs).cut (sound_of h.xs).stands w

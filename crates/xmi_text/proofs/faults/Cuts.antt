-- Faults of UTF-8: bytes at which no whole character stands.
use Rattle.std.proofs.Common.{◌≡◌, ℕ, ◌+◌, ◌/◌, ◌%◌, ◌≤◌, ◌<◌, Bool, true, false, cond, List, [], ◌∷◌, ◌++◌, length, take, drop, replicate, zero, suc, refl, sym, ◌∙◌, ap, subst, arith, Option, Some, None, inl, inr, append_assoc, append-nil, length-append, codes, encode_utf8_all}
use Rattle.std.proofs.lemmas.Bool.{eqb-true, and_parts, cases_lt, both_ways, or_right}
use Rattle.std.proofs.lemmas.Str.{encode_ascii, IsUtf8-take, length-le-encodes}
use Rattle.std.proofs.Math.Seq.{take-append_seam}
use Rattle.std.specs.Prelude.{◌==◌, ◌||◌, nat_lt, slice_get, slice_index}
use Rattle.std.specs.Str.{IsUtf8}
use lib.Utf8.{encode, encodes, scalar}
use Rattle.xmi_text.specs.declared.limits.TheConstants.{MAX_XMI_NESTING}
use Rattle.xmi_text.specs.ByteClass.{within, continues_name, holds_in_name}
use Rattle.xmi_text.specs.AttrNames.{has_name}
use Rattle.xmi_text.specs.States as states
use Rattle.xmi_text.specs.States.{is_inside, cleared, cleared_by, front}
use Rattle.xmi_text.specs.Automaton as automaton
use Rattle.xmi_text.specs.Automaton.{innermost}
use Rattle.xmi_text.specs.Reading.{state_from, state_of, fault_of, end_fault_of}
use Rattle.xmi_text.specs.Writing.{named}
use Rattle.xmi_text.specs.Completion.{MayGoOn, completion, completion_in, completion_by, end_tags, end_tag, elements_end, tag_end, attr_end, longer, size}
use Rattle.xmi_text.specs.Markup.{begins, document_text}
use Rattle.xmi_text.specs.Faults.{Agree, IsBadUtf8}
use Rattle.xmi_text.specs.declared.error.TextFault.{TextFault}
use Rattle.xmi_text.specs.declared.error.TextKind.{TextKind}
use Rattle.xmi_text.specs.declared.error.TextKind.TheVariants as kinds
use Rattle.xmi_text.specs.declared.utf_eight.Partial.{Partial}
use Rattle.xmi_text.specs.declared.state.State.{State}
use Rattle.xmi_text.specs.declared.state.Mode.{Mode}
use Rattle.xmi_text.specs.declared.state.Mode.TheVariants as modes
use Rattle.xmi_text.specs.declared.state.Quote.TheVariants as quotes
use Rattle.xmi_text.specs.declared.state.Brackets.TheVariants as brackets
use Rattle.xmi_text.proofs.completion.Sound.{NotOpen, Takes, Cut, sound_of}
use Rattle.xmi_text.proofs.backward.Backfar.{small_scalar}
use Rattle.xmi_text.proofs.reading.Reached.{state_of-append}
use Rattle.xmi_text.proofs.completion.Completing.{completed}
use Rattle.xmi_text.proofs.forward.Encoded.{IsPlain, behind_whole, within_character, far, encode_two, encode_three, encode_four, within_from}
use Rattle.xmi_text.proofs.completion.Places.{before_fault}
use Rattle.xmi_text.proofs.backward.Whole.{whole_markup}
use Rattle.xmi_text.proofs.faults.Standing.{at_byte}
use Rattle.xmi_text.proofs.faults.Reasons.{Goes, NoCharacter, Reason}
use Rattle.xmi_text.proofs.faults.History.{Cutting, Held, fails, Early, cleared_mode, cleared_partial}
use Rattle.xmi_text.proofs.faults.Probing.{shape, take_front, drop_front}
use Rattle.xmi_text.proofs.faults.Entities.{agree_parts, still_faulty}

-- ---- a whole character breaks none

abbrev Other : TextKind → Type 0
Other kinds.BadUtf8 = ⊥
Other _ = Unit {0}

abbrev Unbroken : Mode → Type 0
Unbroken (modes.Failed f) = Other f.kind
Unbroken _ = Unit {0}

record Fine (s : State) : Type 0 where
  fine : Unbroken s.mode

either : {x y : State} (b : Bool) → Fine x → Fine y → Fine (cond b x y)
either true f g = f
either false f g = g

admitted_fine : (s : State) (m : Mode) (lead c : ℕ) → Fine (automaton.admitted s m lead c)
admitted_fine s modes.Inside lead c = record { fine = tt }
admitted_fine s (modes.Cdata held) lead c = record { fine = tt }
admitted_fine s (modes.TagName colon) lead c = record { fine = tt }
admitted_fine s modes.Tag lead c = record { fine = tt }
admitted_fine s (modes.AttrName colon) lead c = record { fine = tt }
admitted_fine s (modes.Value q) lead c = record { fine = tt }
admitted_fine s modes.Comment lead c = record { fine = tt }
admitted_fine s modes.CommentDash lead c = record { fine = tt }
admitted_fine s modes.CommentDashes lead c = record { fine = tt }
admitted_fine s modes.Question lead c = record { fine = tt }
admitted_fine s (modes.Target colon) lead c = record { fine = tt }
admitted_fine s modes.Instruction lead c = record { fine = tt }
admitted_fine s modes.InstructionQuestion lead c = record { fine = tt }
admitted_fine s _ lead c = record { fine = tt }

whole_fine : (s : State) (m : Mode) (lead at c : ℕ) → Fine (automaton.whole s m lead at c)
whole_fine s modes.Start lead at c =
    either (c == 0xfeff) (record { fine = tt }) (either (within 0xfec0 0xfefe c) (record { fine = tt }) (either (within 0xf000 0xffff c) (record { fine = tt }) (record { fine = tt })))
whole_fine s (modes.Less l) lead at c =
    either (automaton.is_unstorable c) (record { fine = tt })
    (either (is_inside s) (either (nat_lt (length s.elements) MAX_XMI_NESTING) (record { fine = tt }) (record { fine = tt })) (either s.rooted (record { fine = tt }) (record { fine = tt })))
whole_fine s m lead at c = either (automaton.is_unstorable c) (record { fine = tt }) (admitted_fine s m lead c)

abbrev FaultOther : Option TextFault → Type 0
FaultOther None = Unit {0}
FaultOther (Some f) = Other f.kind

fault_other : (m : Mode) → Unbroken m → FaultOther (automaton.fault_by m)
fault_other (modes.Failed f) h = h
fault_other _ h = tt

-- ---- no character goes on where one breaks

-- bytes that break one
record Broken (before part : List ℕ) (b : ℕ) (rest : List ℕ) (m : Mode) (f : TextFault) : Type 0 where
  mode : (state_of before).mode ≡ m
  none : (state_of before).partial ≡ None
  plain : IsPlain m
  fault : fault_of ((before ++ part) ++ b ∷ []) ≡ Some f
  kind : f.kind ≡ kinds.BadUtf8
  first : (x : ℕ) (d : List ℕ) → part ++ b ∷ rest ≡ x ∷ d → 128 ≤ x
  cut : (a d : List ℕ) → part ≡ a ++ d → (a ≡ [] → ⊥) → (state_of (before ++ a)).partial ≡ None → ⊥

low_agrees : (ys : List ℕ) (c : ℕ) → ((x : ℕ) (d : List ℕ) → ys ≡ x ∷ d → 128 ≤ x) → (ys ≡ [] → ⊥) → c < 128 → Agree (c ∷ []) ys → ⊥
low_agrees [] c f n h a = n refl
low_agrees (y ∷ ys) c f n h (inl a) = let p = and_parts (c == y) (begins [] ys) a in omega (arith, f y ys refl, eqb-true c y p.0)
low_agrees (y ∷ ys) c f n h (inr a) = let p = and_parts (y == c) (begins ys []) a in omega (arith, f y ys refl, eqb-true y c p.0)

not_empty : (part : List ℕ) (b : ℕ) (rest : List ℕ) → part ++ b ∷ rest ≡ [] → ⊥
not_empty [] b rest e = cc
not_empty (x ∷ part) b rest e = cc

encode_some : (c : ℕ) → encode c ≡ [] → ⊥
encode_some c e =
    let some : 1 ≤ length (encodes (c ∷ [])) = length-le-encodes (c ∷ []) in
    let none : length (encodes (c ∷ [])) ≡ 0 = ap (length {A = ℕ}) (append-nil (encode c) ∙ e) in
    omega (arith, some, none)

far_agrees : (before part : List ℕ) (b : ℕ) (rest : List ℕ) (m : Mode) (f : TextFault) (c : ℕ) → Broken before part b rest m f → 128 ≤ c → scalar c ≡ true → Agree (encode c) (part ++ b ∷ rest) → ⊥
unfolding fault_of
far_agrees before part b rest m f c h l ok a =
    let s : State = state_of before in
    let w = far (length before) s m s.returned c h.plain ok l in
    let t : State = behind_whole s m s.returned w.p w.place c in
    let is : state_of (before ++ encode c) ≡ cleared t = state_of-append before (encode c) ∙ ap (λ (q : State). state_from (length before) q (encode c)) (shape before m h.mode h.none) ∙ w.walk.state in
    elim (agree_parts (encode c) part b rest a) [
      | inl d ↦
          let still : fault_of (before ++ encode c) ≡ Some f = still_faulty before part b d.0 (before ++ part) (encode c) f refl h.fault d.1 in
          let same : automaton.fault_by t.mode ≡ Some f = sym (ap automaton.fault is ∙ ap automaton.fault_by (cleared_mode t t.ready)) ∙ still in
          subst Other h.kind (subst FaultOther same (fault_other t.mode (whole_fine (within_character s m s.returned w.p) m w.p.lead w.place c).fine))
      | inr d ↦ h.cut (encode c) d.0 d.1 (encode_some c) (ap (λ (q : State). q.partial) is ∙ cleared_partial t t.ready)
    ]

no_character : (before part : List ℕ) (b : ℕ) (rest : List ℕ) (m : Mode) (f : TextFault) (c : ℕ) → Broken before part b rest m f → scalar c ≡ true → Agree (encode c) (part ++ b ∷ rest) → ⊥
no_character before part b rest m f c h ok a = elim (cases_lt c 128) [
  | inl l ↦ low_agrees (part ++ b ∷ rest) c h.first (not_empty part b rest) l (subst (λ xs. Agree xs (part ++ b ∷ rest)) (encode_ascii c l) a)
  | inr l ↦ far_agrees before part b rest m f c h l ok a
]

-- ---- the bytes before are whole characters

abbrev IsLow : List ℕ → Type 0
IsLow [] = Unit {0}
IsLow (x ∷ xs) = x < 128

low_after : (xs ys : List ℕ) → IsLow xs → IsLow ys → IsLow (xs ++ ys)
low_after [] ys h k = k
low_after (x ∷ xs) ys h k = h

low_by : (b : Bool) (xs ys : List ℕ) → IsLow xs → IsLow ys → IsLow (cond b xs ys)
low_by true xs ys h k = h
low_by false xs ys h k = k

tags_low : (names : List (List ℕ)) → IsLow (end_tags names)
tags_low [] = tt
tags_low (name ∷ names) = low_after (end_tags names) (end_tag name) (tags_low names) (omega arith)

elements_low : (s : State) → IsLow (elements_end s)
elements_low s = low_by s.rooted (end_tags s.elements) (codes "<a/>") (tags_low s.elements) (omega arith)

letters_low : (n : ℕ) → IsLow (replicate n 97)
letters_low zero = tt
letters_low (suc n) = omega arith

attr_low : (s : State) (name : List ℕ) → IsLow (attr_end s name)
attr_low s name = low_after (longer s.attrs name) (codes "=\"\"" ++ tag_end s) (low_by (has_name s.attrs name) (replicate (size s.attrs) 97) [] (letters_low (size s.attrs)) tt) (omega arith)

section_low : (k : ℕ) → IsLow (drop k (codes "[CDATA["))
section_low zero = omega arith
section_low (suc zero) = omega arith
section_low (suc (suc zero)) = omega arith
section_low (suc (suc (suc zero))) = omega arith
section_low (suc (suc (suc (suc zero)))) = omega arith
section_low (suc (suc (suc (suc (suc zero))))) = omega arith
section_low (suc (suc (suc (suc (suc (suc zero)))))) = omega arith
section_low (suc (suc (suc (suc (suc (suc (suc k))))))) = drop_none k
  where
    drop_none : (k : ℕ) → IsLow (drop k [])
    drop_none zero = tt
    drop_none (suc k) = tt

completion_low : (s : State) (m : Mode) → IsPlain m → IsLow (completion_in s m)
completion_low s (modes.Failed f) p = absurd p
completion_low s (modes.Reference a w part) p = absurd p
completion_low s (modes.Doctype l w k) p = absurd p
completion_low s (modes.EndName l k) p = absurd p
completion_low s (modes.Less at) p = low_by (is_inside s) _ _ (omega arith) (low_by s.rooted (codes "!---->") (codes "a/>") (omega arith) (omega arith))
completion_low s (modes.Bang at) p = omega arith
completion_low s modes.Dash p = omega arith
completion_low s modes.Comment p = omega arith
completion_low s modes.CommentDash p = omega arith
completion_low s modes.CommentDashes p = omega arith
completion_low s (modes.CdataStart k) p = low_after (drop k (codes "[CDATA[")) (codes "]]>" ++ elements_end s) (section_low k) (omega arith)
completion_low s (modes.Cdata brackets.None) p = omega arith
completion_low s (modes.Cdata brackets.One) p = omega arith
completion_low s (modes.Cdata brackets.Two) p = omega arith
completion_low s modes.Question p = omega arith
completion_low s (modes.Target colon) p = omega arith
completion_low s modes.Instruction p = omega arith
completion_low s modes.InstructionQuestion p = omega arith
completion_low s (modes.TagName colon) p = omega arith
completion_low s modes.Tag p = omega arith
completion_low s (modes.AttrName colon) p = attr_low s s.attr.name
completion_low s modes.AfterName p = omega arith
completion_low s modes.BeforeValue p = omega arith
completion_low s (modes.Value quotes.Double) p = omega arith
completion_low s (modes.Value quotes.Single) p = omega arith
completion_low s modes.AfterValue p = omega arith
completion_low s modes.Slash p = omega arith
completion_low s (modes.EndTail at) p = omega arith
completion_low s _ p = elements_low s

index_seam : (xs : List ℕ) (y : ℕ) (ys : List ℕ) → slice_index (xs ++ y ∷ ys) (length xs) ≡ y
index_seam [] y ys = refl
index_seam (x ∷ xs) y ys =
    let more : length (x ∷ xs) ≡ suc (length xs) = omega arith in
    ap (λ k. slice_index (x ∷ xs ++ y ∷ ys) k) more ∙ index_seam xs y ys

utf8_front : (xs more : List ℕ) → IsUtf8 (xs ++ more) → IsLow more → IsUtf8 xs
utf8_front xs [] u h = subst IsUtf8 (append-nil xs) u
utf8_front xs (y ∷ more) u h =
    let many : length xs ≤ length (xs ++ y ∷ more) = omega (arith, length-append xs (y ∷ more)) in
    subst IsUtf8 (take-append_seam xs (y ∷ more)) (IsUtf8-take (xs ++ y ∷ more) (length xs) u (many, λ _ k. absurd (omega (arith, h, k, index_seam xs y more))))

utf8_by : (bytes : List ℕ) (more : List ℕ) → MayGoOn bytes → completion (state_of bytes) ≡ more → IsLow more → IsUtf8 bytes
utf8_by bytes more o e h =
    let m = whole_markup (bytes ++ completion (state_of bytes)) (completed bytes o) in
    utf8_front bytes more (subst (λ xs. IsUtf8 (bytes ++ xs)) e (document_text m.1.document, (m.1.scalars, sym m.1.written))) h

utf8_plain : (bytes : List ℕ) (m : Mode) → MayGoOn bytes → (state_of bytes).mode ≡ m → (state_of bytes).partial ≡ None → IsPlain m → IsUtf8 bytes
unfolding completion
utf8_plain bytes m o e n p =
    let s : State = state_of bytes in
    utf8_by bytes (completion_in s m) o (ap (completion_by s s.mode) n ∙ ap (completion_in s) e) (completion_low s m p)

-- ---- the fault

front_first : (part : List ℕ) (b : ℕ) (rest : List ℕ) (x : ℕ) (d : List ℕ) → (part ≡ [] → ⊥) → ((y : ℕ) (e : List ℕ) → part ≡ y ∷ e → 128 ≤ y) → part ++ b ∷ rest ≡ x ∷ d → 128 ≤ x
front_first [] b rest x d n f e = absurd (n refl)
front_first (y ∷ part) b rest x d n f e = let same : y ≡ x = cc in subst (λ z. 128 ≤ z) same (f y part refl)

no_part : (a d : List ℕ) → [] ≡ a ++ d → a ≡ []
no_part [] d e = refl
no_part (x ∷ a) d e = cc

-- behind these bytes no character stands
stands_broken : (bytes before part : List ℕ) (b : ℕ) (rest : List ℕ) (n : ℕ) (m : Mode) (f : TextFault) → bytes ≡ before ++ (part ++ b ∷ rest) → length before ≡ n → n < length bytes → MayGoOn (take n bytes) → Broken before part b rest m f → IsBadUtf8 bytes n
stands_broken bytes before part b rest n m f e l i o h =
    let front : take n bytes ≡ before = take_front bytes before (part ++ b ∷ rest) n e l in
    record {
      within = i;
      before = subst IsUtf8 (sym front) (utf8_plain before m (subst MayGoOn front o) h.mode h.none h.plain);
      none = λ c s a. no_character before part b rest m f c h (and_parts (scalar c) true s).0 (subst (Agree (encode c)) (drop_front bytes before (part ++ b ∷ rest) n e l) a);
    }

first_broken : (bytes xs : List ℕ) (b : ℕ) (rest : List ℕ) (n : ℕ) (m : Mode) (f : TextFault) → bytes ≡ xs ++ b ∷ rest → n < length bytes → MayGoOn (take n bytes) → fault_of (xs ++ b ∷ []) ≡ Some f → f.kind ≡ kinds.BadUtf8 → (state_of xs).mode ≡ m → (state_of xs).partial ≡ None → IsPlain m → n ≡ length xs → 128 ≤ b → IsBadUtf8 bytes n
first_broken bytes xs b rest n m f e i o x k mode none plain p h =
    stands_broken bytes xs [] b rest n m f e (sym p) i o
    (record {
      mode = mode;
      none = none;
      plain = plain;
      fault = ap (λ ys. fault_of (ys ++ b ∷ [])) (append-nil xs) ∙ x;
      kind = k;
      first = λ y d q. let same : b ≡ y = cc in subst (λ z. 128 ≤ z) same h;
      cut = λ a d q z w. z (no_part a d q);
    })

later_broken : (bytes xs : List ℕ) (b : ℕ) (rest : List ℕ) (n : ℕ) (m : Mode) (p : Partial) (f : TextFault) → bytes ≡ xs ++ b ∷ rest → n < length bytes → MayGoOn (take n bytes) → fault_of (xs ++ b ∷ []) ≡ Some f → f.kind ≡ kinds.BadUtf8 → (state_of xs).mode ≡ m → IsPlain m → n ≡ p.lead → Cutting xs (state_of xs) p → IsBadUtf8 bytes n
later_broken bytes xs b rest n m p f e i o x k mode plain q h =
    stands_broken bytes h.before h.part b rest n m f (e ∙ ap (λ y. y ++ b ∷ rest) h.is ∙ append_assoc h.before h.part (b ∷ rest)) (h.place ∙ sym q) i o
    (record {
      mode = ap (λ (s : State). s.mode) h.same ∙ mode;
      none = h.none;
      plain = plain;
      fault = ap (λ ys. fault_of (ys ++ b ∷ [])) (sym h.is) ∙ x;
      kind = k;
      first = λ y d z. front_first h.part b rest y d h.some h.first z;
      cut = h.cut;
    })

-- behind the name of an end tag
lead_between : (c b : ℕ) (d : List ℕ) → 128 ≤ c → scalar c ≡ true → encode c ≡ b ∷ d → (194 ≤ b) × (b ≤ 244)
lead_between c b d l ok e =
    let small : c < 1114112 = small_scalar c ok in
    elim (cases_lt c 2048) [
      | inl h ↦
          let all : (192 + c / 64) ∷ (128 + c % 64) ∷ [] ≡ b ∷ d = sym (encode_two c l h) ∙ e in
          let same : 192 + c / 64 ≡ b = cc in
          (omega (arith, same), omega (arith, same))
      | inr h ↦ elim (cases_lt c 65536) [
        | inl k ↦
            let all : (224 + c / 4096) ∷ (128 + c / 64 % 64) ∷ (128 + c % 64) ∷ [] ≡ b ∷ d = sym (encode_three c h k) ∙ e in
            let same : 224 + c / 4096 ≡ b = cc in
            (omega (arith, same), omega (arith, same))
        | inr k ↦
            let all : (240 + c / 262144) ∷ (128 + c / 4096 % 64) ∷ (128 + c / 64 % 64) ∷ (128 + c % 64) ∷ [] ≡ b ∷ d = sym (encode_four c k) ∙ e in
            let same : 240 + c / 262144 ≡ b = cc in
            (omega (arith, same), omega (arith, same))
      ]
    ]

end_agrees : (b : ℕ) (rest : List ℕ) (c : ℕ) → holds_in_name b ≡ false → 128 ≤ b → scalar c ≡ true → Agree (encode c) (b ∷ rest) → ⊥
end_agrees b rest c h l ok a = elim (cases_lt c 128) [
  | inl k ↦ low_agrees (b ∷ rest) c (λ x d e. let same : b ≡ x = cc in subst (λ z. 128 ≤ z) same l) (λ e. not_empty [] b rest e) k (subst (λ xs. Agree xs (b ∷ rest)) (encode_ascii c k) a)
  | inr k ↦ elim (agree_parts (encode c) [] b rest a) [
    | inl d ↦
        let r = lead_between c b d.0 k ok d.1 in
        both_ways (holds_in_name b) h (or_right (continues_name b || (b == 58) || within 0x80 0xbf b) (within 0xc2 0xf4 b) (within_from 0xc2 0xf4 b r.0 r.1))
    | inr d ↦ encode_some c (no_part (encode c) d.0 d.1)
  ]
]

drop_end : (bytes : List ℕ) (k : ℕ) → slice_get bytes k ≡ None → drop k bytes ≡ []
drop_end [] zero e = refl
drop_end [] (suc k) e = refl
drop_end (x ∷ bytes) zero e = cc
drop_end (x ∷ bytes) (suc k) e = drop_end bytes k e

nothing : (k : ℕ) → drop k (encode_utf8_all (named None)) ≡ []
nothing zero = refl
nothing (suc k) = refl

pub name_end : (o : Option (List ℕ)) (k : ℕ) → automaton.byte_of o k ≡ None → drop k (encode_utf8_all (named o)) ≡ []
name_end None k e = nothing k
name_end (Some name) k e = drop_end (encode_utf8_all name) k e

end_broken : (bytes xs : List ℕ) (b : ℕ) (rest : List ℕ) (n l k : ℕ) → bytes ≡ xs ++ b ∷ rest → n < length bytes → MayGoOn (take n bytes) → (state_of xs).mode ≡ modes.EndName l k → (state_of xs).partial ≡ None → n ≡ length xs → automaton.wanted (state_of xs) k ≡ None → holds_in_name b ≡ false → 128 ≤ b → IsBadUtf8 bytes n
unfolding completion
end_broken bytes xs b rest n l k e i o mode none p w h low =
    let s : State = state_of xs in
    let front : take n bytes ≡ xs = take_front bytes xs (b ∷ rest) n e (sym p) in
    let more : List ℕ = 62 ∷ end_tags (states.front s.elements) in
    let ends : completion s ≡ more = ap (completion_by s s.mode) none ∙ ap (completion_in s) mode ∙ ap (λ ys. ys ++ more) (name_end (innermost s.elements) k w) in
    record {
      within = i;
      before = subst IsUtf8 (sym front) (utf8_by xs more (subst MayGoOn front o) ends (omega arith));
      none = λ c x a. end_agrees b rest c h low (and_parts (scalar c) true x).0 (subst (Agree (encode c)) (drop_front bytes xs (b ∷ rest) n e (sym p)) a);
    }

none_by : (m : Mode) (c : Option Partial) → Cut c m → (Takes m → ⊥) → Goes m → c ≡ None
none_by (modes.Failed f) c z t g = absurd g
none_by m None z t g = refl
none_by m (Some p) z t g = absurd (t z.0)

bad_utf8_by : (bytes xs : List ℕ) (b : ℕ) (rest : List ℕ) (n : ℕ) (m : Mode) (c : Option Partial) (f : TextFault) → bytes ≡ xs ++ b ∷ rest → n < length bytes → MayGoOn (take n bytes) → fault_of (xs ++ b ∷ []) ≡ Some f → f.kind ≡ kinds.BadUtf8 → (state_of xs).mode ≡ m → (state_of xs).partial ≡ c → Cut c m → Held xs (state_of xs) m c → NoCharacter (state_of xs) (length xs) b c m n → IsBadUtf8 bytes n
bad_utf8_by bytes xs b rest n (modes.Failed g) c f e i o x k mode cut z h w = absurd w
bad_utf8_by bytes xs b rest n (modes.Reference a v part) c f e i o x k mode cut z h w = absurd w
bad_utf8_by bytes xs b rest n (modes.Doctype l v j) c f e i o x k mode cut z h w = absurd w
bad_utf8_by bytes xs b rest n (modes.EndName l j) c f e i o x k mode cut z h w = end_broken bytes xs b rest n l j e i o mode (cut ∙ none_by (modes.EndName l j) c z (λ y. y) tt) w.0 w.1 w.2 w.3
bad_utf8_by bytes xs b rest n m None f e i o x k mode cut z h w = first_broken bytes xs b rest n m f e i o x k mode cut tt w.0 w.1
bad_utf8_by bytes xs b rest n m (Some p) f e i o x k mode cut z h w = later_broken bytes xs b rest n m p f e i o x k mode tt w h

pub bad_utf8 : (bytes : List ℕ) (f : TextFault) → end_fault_of bytes ≡ Some f → f.kind ≡ kinds.BadUtf8 → IsBadUtf8 bytes f.at
bad_utf8 bytes f e k =
    let h = fails bytes f (subst Early (sym k) tt) e in
    let s : State = state_of h.xs in
    let w = subst (λ kind. Reason s (length h.xs) h.b s.mode kind f.at) k h.reason in
    bad_utf8_by bytes h.xs h.b h.rest f.at s.mode s.partial f h.is (at_byte bytes f e (subst NotOpen (sym k) tt)) (before_fault bytes f e) h.fault k refl refl (sound_of h.xs).cut h.held w

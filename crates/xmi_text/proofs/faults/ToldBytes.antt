-- Where no character stands, that is told, or a fault before it.
use Rattle.std.proofs.Common.{◌≡◌, ℕ, zero, suc, ◌+◌, ◌*◌, ◌/◌, ◌%◌, ◌≤◌, ◌<◌, ◌⊎◌, Bool, true, false, cond, List, [], ◌∷◌, ◌++◌, length, take, drop, get_or, refl, sym, ◌∙◌, ap, subst, arith, Option, Some, None, inl, inr, append_assoc}
use Rattle.std.proofs.lemmas.Bool.{and_parts, and_from, or_left, or_right, or_parts, ltb-false, le-ltb, lt-ltb, le-leb, leb-true, ne_eqb, eqb-true, cond-true, cond-false, cases_Bool, cases_lt}
use Rattle.std.proofs.lemmas.List.{length-take-le, take_more}
use Rattle.std.proofs.lemmas.Str.{encode_ascii, cons_from_encodes}
use Rattle.std.specs.Prelude.{nat_lt, nat_le, ◌==◌, ◌&&◌, ◌||◌, slice_get}
use lib.Utf8.{encode, encodes, scalar, scalars, low_scalar}
use Rattle.xmi_text.specs.ByteClass.{holds_in_name}
use Rattle.xmi_text.specs.UtfEight as utf
use Rattle.xmi_text.specs.References as refs
use Rattle.xmi_text.specs.States.{go, fail, cleared, front}
use Rattle.xmi_text.specs.Automaton as automaton
use Rattle.xmi_text.specs.Automaton.{step, step_by, fault_at, wanted}
use Rattle.xmi_text.specs.Reading.{state_from, state_of}
use Rattle.xmi_text.specs.Completion.{MayGoOn, completion, completion_by, completion_in, least_rest, least, mark_rest, behind_character, elements_end, end_tags}
use Rattle.xmi_text.specs.Markup.{begins, Begins, document_text}
use Rattle.xmi_text.specs.Faults.{Stands, Agree, IsBadUtf8, IsBefore}
use Rattle.xmi_text.specs.declared.error.TextFault.{TextFault}
use Rattle.xmi_text.specs.declared.error.TextKind.TheVariants as kinds
use Rattle.xmi_text.specs.declared.reference.Reference.{Reference}
use Rattle.xmi_text.specs.declared.utf_eight.Partial.{Partial}
use Rattle.xmi_text.specs.declared.utf_eight.Rest.{Rest}
use Rattle.xmi_text.specs.declared.utf_eight.Rest.TheVariants as rests
use Rattle.xmi_text.specs.declared.utf_eight.Growth.{Growth}
use Rattle.xmi_text.specs.declared.utf_eight.Growth.TheVariants as growths
use Rattle.xmi_text.specs.declared.state.State.{State}
use Rattle.xmi_text.specs.declared.state.Mode.{Mode}
use Rattle.xmi_text.specs.declared.state.Mode.TheVariants as modes
use Rattle.xmi_text.proofs.completion.Sound.{Bits, Cut, sound_of, Grown, extended_grown, Started, begun_started}
use Rattle.xmi_text.proofs.forward.Encoded.{IsPlain, plain_step, encode_two, encode_three, encode_four}
use Rattle.xmi_text.proofs.backward.Backward.{Fills, fills_one, fills_two, fills_three, begun_leads}
use Rattle.xmi_text.proofs.backward.Backfar.{small_scalar}
use Rattle.xmi_text.proofs.backward.Backrefs.{extended_low}
use Rattle.xmi_text.proofs.completion.Completing.{completed, least_extended, byte_named, get_drop, drop_more}
use Rattle.xmi_text.proofs.completion.Places.{Fresh, begun_fresh, Kept, IsKept, next_kept, cleared_kept, twin_kept, no_more}
use Rattle.xmi_text.proofs.reading.Reached.{state_of-append}
use Rattle.xmi_text.proofs.completion.Ending.{IsDead}
use Rattle.xmi_text.proofs.reading.Staying.{idle_of}
use Rattle.xmi_text.proofs.forward.Stepping.{scalars-parts}
use Rattle.xmi_text.proofs.backward.Whole.{whole_markup}
use Rattle.xmi_text.proofs.faults.Prefixes.{IsNeverMissed, IsOutsideDocuments, begins_goes_on, begins_before, document_begins}
use Rattle.xmi_text.proofs.faults.Told.{IsTold, state_at, told, here_same, told_first, none_told}
use Rattle.xmi_text.proofs.faults.Probes.{here}
use Rattle.xmi_text.specs.Writing.{named}
use Rattle.xmi_text.specs.declared.state.Within.{Within}
use Rattle.xmi_text.proofs.faults.ToldReferences.{more_agree, more_read, one_read}

-- ---- characters and bytes

-- behind whole characters the bytes of a text are those of characters
rest_encoded : (first all : List ℕ) (rest : List ℕ) → encodes all ≡ encodes first ++ rest → (last : List ℕ) × (all ≡ first ++ last) × (encodes last ≡ rest)
rest_encoded [] all rest e = (all, refl, e)
rest_encoded (c ∷ first) all rest e =
    let r = cons_from_encodes all (encodes first ++ rest) c (e ∙ append_assoc (encode c) (encodes first) rest) in
    let q = rest_encoded first r.0 rest r.2 in
    (q.0, r.1 ∙ ap (λ cs. c ∷ cs) q.1, q.2)

-- a byte that begins a character
abbrev Leads : List ℕ → Type 0
Leads [] = ⊥
Leads (b ∷ bytes) = (b < 128) ⊎ (192 ≤ b)

encode_leads : (c : ℕ) → Leads (encode c)
encode_leads c = elim (cases_lt c 128) [
  | inl h ↦ subst Leads (sym (encode_ascii c h)) (inl h)
  | inr l ↦ elim (cases_lt c 2048) [
    | inl h ↦ subst Leads (sym (encode_two c l h)) (inr (omega arith))
    | inr h ↦ elim (cases_lt c 65536) [ inl k ↦ subst Leads (sym (encode_three c h k)) (inr (omega arith)) | inr k ↦ subst Leads (sym (encode_four c k)) (inr (omega arith)) ]
  ]
]

leads_on : (xs ys : List ℕ) → Leads xs → Leads (xs ++ ys)
leads_on [] ys h = absurd h
leads_on (x ∷ xs) ys h = h

-- no text begins with a byte that goes on with a character
no_lead : (cs : List ℕ) (b : ℕ) (bytes : List ℕ) → encodes cs ≡ b ∷ bytes → 128 ≤ b → b ≤ 191 → ⊥
no_lead [] b bytes e l u = cc
no_lead (c ∷ cs) b bytes e l u = elim (subst Leads e (leads_on (encode c) (encodes cs) (encode_leads c))) [ inl h ↦ omega arith | inr h ↦ omega arith ]

-- ---- a character that is cut is none

abbrev Low : List ℕ → Type 0
Low [] = ⊥
Low (b ∷ bytes) = (128 ≤ b) × (b ≤ 191)

low_on : (xs ys : List ℕ) → Low xs → Low (xs ++ ys)
low_on [] ys h = absurd h
low_on (x ∷ xs) ys h = h

low_none : (cs bytes : List ℕ) → encodes cs ≡ bytes → Low bytes → ⊥
low_none cs [] e h = h
low_none cs (b ∷ bytes) e h = no_lead cs b bytes e h.0 h.1

rest_low : (rest : Rest) (low high : ℕ) → Bits rest low high → Low (least_rest rest low)
rest_low (rests.One bits) low high z = let e = z.3 in (omega (arith, e), omega (arith, e))
rest_low (rests.Two bits) low high z = (z.1, let l = z.2 in let u = z.3 in omega (arith, l, u))
rest_low (rests.Three bits) low high z = (z.1, let l = z.2 in let u = z.3 in omega (arith, l, u))

mark_low : (rest : Rest) → Low (mark_rest rest)
mark_low (rests.Two bits) = (omega arith, omega arith)
mark_low (rests.One bits) = (omega arith, omega arith)
mark_low (rests.Three bits) = (omega arith, omega arith)

or_cond : (x y : Bool) → (x || y) ≡ cond x true y
or_cond true y = refl
or_cond false y = refl

is_scalar : (c : ℕ) → (c < 0xd800) ⊎ (0xe000 ≤ c) → c < 0x110000 → scalar c ≡ true
is_scalar c h u = sym (or_cond (nat_lt c 0xd800) (nat_le 0xe000 c && nat_lt c 0x110000)) ∙ either h
  where
    either : (c < 0xd800) ⊎ (0xe000 ≤ c) → (nat_lt c 0xd800 || (nat_le 0xe000 c && nat_lt c 0x110000)) ≡ true
    either (inl l) = or_left (nat_lt c 0xd800) _ (lt-ltb c 0xd800 l)
    either (inr l) = or_right (nat_lt c 0xd800) _ (and_from (nat_le 0xe000 c) _ (le-leb 0xe000 c l) (lt-ltb c 0x110000 u))

beside : (bits n : ℕ) → n ≡ bits * 64 → (bits < 864) ⊎ (896 ≤ bits) → (n < 0xd800) ⊎ (0xe000 ≤ n)
beside bits n e (inl l) = inl (omega arith)
beside bits n e (inr l) = inr (omega arith)

-- bytes that end a character
record Filled (rest : Rest) (low : ℕ) : Type 0 where
  more : List ℕ
  c : ℕ
  fills : Fills rest low more c
  scalar : scalar c ≡ true

one_filled : (bits low high : ℕ) → Bits (rests.One bits) low high → Filled (rests.One bits) low
one_filled bits low high z =
    let c : ℕ = bits * 64 + low % 64 in
    let l = z.3 in
    let round : c ≡ bits * 64 = omega (arith, l) in
    record { more = low ∷ []; c = c; fills = fills_one bits low low c (omega (arith, l)) (omega (arith, l)) refl; scalar = is_scalar c (beside bits c round z.2) (omega (arith, round, z.1)) }

two_filled : (bits low high : ℕ) → Bits (rests.Two bits) low high → Filled (rests.Two bits) low
two_filled bits low high z =
    let p : Partial = record { lead = 0; low = low; high = high; rest = rests.Two bits } in
    let l = z.1 in let h = z.2 in let u = z.3 in
    let kept : Bits (rests.One (bits * 64 + low % 64)) 0x80 0xbf = subst Grown (least_extended 0 low high (rests.Two bits) (omega (arith, h))) (extended_grown p low z) in
    let r = one_filled (bits * 64 + low % 64) 0x80 0xbf kept in
    record { more = low ∷ r.more; c = r.c; fills = fills_two bits low low r.more r.c l (omega (arith, h, u)) (omega arith) r.fills; scalar = r.scalar }

three_filled : (bits low high : ℕ) → Bits (rests.Three bits) low high → Filled (rests.Three bits) low
three_filled bits low high z =
    let p : Partial = record { lead = 0; low = low; high = high; rest = rests.Three bits } in
    let l = z.1 in let h = z.2 in let u = z.3 in
    let kept : Bits (rests.Two (bits * 64 + low % 64)) 0x80 0xbf = subst Grown (least_extended 0 low high (rests.Three bits) (omega (arith, h))) (extended_grown p low z) in
    let r = two_filled (bits * 64 + low % 64) 0x80 0xbf kept in
    record { more = low ∷ r.more; c = r.c; fills = fills_three bits low low r.more r.c l (omega (arith, h, u)) (omega arith) r.fills; scalar = r.scalar }

filled : (rest : Rest) (low high : ℕ) → Bits rest low high → Filled rest low
filled (rests.One bits) low high z = one_filled bits low high z
filled (rests.Two bits) low high z = two_filled bits low high z
filled (rests.Three bits) low high z = three_filled bits low high z

-- what one more byte of a character gives
abbrev Gives : Partial → ℕ → Growth → Type 0
Gives p b growths.Broken = Unit {0}
Gives p b (growths.Partial q) = (q.lead ≡ p.lead) × ((more : List ℕ) (c : ℕ) → Fills q.rest q.low more c → Fills p.rest p.low (b ∷ more) c)
Gives p b (growths.Whole c) = Fills p.rest p.low (b ∷ []) c × (scalar c ≡ true)

gives : (p : Partial) (b : ℕ) (t : Bool) (x y : Growth) → (t ≡ true → Gives p b x) → (t ≡ false → Gives p b y) → Gives p b (cond t x y)
gives p b true x y f g = f refl
gives p b false x y f g = g refl

found_gives : (p : Partial) (b c : ℕ) (t : Bool) → (t ≡ true → Fills p.rest p.low (b ∷ []) c × (scalar c ≡ true)) → Gives p b (utf.found (cond t (Some c) None))
found_gives p b c true f = f refl
found_gives p b c false f = tt

added_gives : (lead low high : ℕ) (rest : Rest) (b : ℕ) → Bits rest low high → low ≤ b → b ≤ high → Gives (record { lead = lead; low = low; high = high; rest = rest }) b (utf.added (record { lead = lead; low = low; high = high; rest = rest }) rest b)
added_gives lead low high (rests.Three bits) b z l u = let k = z.1 in let h = z.3 in (refl, λ more c f. fills_three bits low b more c (omega (arith, k)) (omega (arith, h)) l f)
added_gives lead low high (rests.Two bits) b z l u = let k = z.1 in let h = z.3 in (refl, λ more c f. fills_two bits low b more c (omega (arith, k)) (omega (arith, h)) l f)
added_gives lead low high (rests.One bits) b z l u =
    let p : Partial = record { lead = lead; low = low; high = high; rest = rests.One bits } in
    let k = z.3 in let h = z.4 in
    let c : ℕ = bits * 64 + b % 64 in
    gives p b (nat_lt 0x4fff bits) _ _ (λ _. tt)
    (λ _. found_gives p b c (nat_lt c 0xd800 || (nat_le 0xe000 c && nat_lt c 0x110000)) (λ v. (fills_one bits low b c (omega (arith, k)) (omega (arith, h)) refl, sym (or_cond (nat_lt c 0xd800) (nat_le 0xe000 c && nat_lt c 0x110000)) ∙ v)))

extended_gives : (p : Partial) (b : ℕ) → Bits p.rest p.low p.high → Gives p b (utf.extended p b)
extended_gives p b z =
    gives p b (nat_lt b p.low || nat_lt p.high b) _ _ (λ _. tt)
    (λ e. let q = or_parts (nat_lt b p.low) (nat_lt p.high b) e in added_gives p.lead p.low p.high p.rest b z (ltb-false b p.low q.0) (ltb-false p.high b q.1))

-- ---- the bytes of what is no character

-- some of the bytes lead to a fault before a place, or to this one there
record Found (s : State) (n at : ℕ) (xs : List ℕ) : Type 0 where
  fault : TextFault
  read : List ℕ
  are : begins read xs ≡ true
  fails : (state_from at s read).mode ≡ modes.Failed fault
  before : IsBefore fault.at fault.kind n kinds.BadUtf8

-- one more byte, which fails
found_now : (s t : State) (n at b : ℕ) (xs : List ℕ) (fault : TextFault) → step s at b ≡ t → (cleared t).mode ≡ modes.Failed fault → IsBefore fault.at fault.kind n kinds.BadUtf8 → Found s n at (b ∷ xs)
found_now s t n at b xs fault e f h = record { fault = fault; read = b ∷ []; are = one_read b xs; fails = ap (λ (q : State). (cleared q).mode) e ∙ f; before = h }

-- or leads on
found_then : (s t : State) (n at b : ℕ) (xs : List ℕ) → step s at b ≡ t → Found (cleared t) n (at + 1) xs → Found s n at (b ∷ xs)
found_then s t n at b xs e f = record { fault = f.fault; read = b ∷ f.read; are = more_read b f.read xs f.are; fails = ap (λ (q : State). (state_from (at + 1) (cleared q) f.read).mode) e ∙ f.fails; before = f.before }

abbrev NoCharacter : Partial → List ℕ → Type 0
NoCharacter p xs = (more : List ℕ) (c : ℕ) → Fills p.rest p.low more c → scalar c ≡ true → Agree more xs → ⊥

here_now : (n place : ℕ) → place ≡ n → IsBefore place kinds.BadUtf8 n kinds.BadUtf8
here_now n place e = inr (e, omega arith)

cut_by : (s : State) (m : Mode) (p : Partial) (n at b : ℕ) (xs : List ℕ) (g : Growth) → IsPlain m → p.lead ≡ n → utf.extended p b ≡ g → Gives p b g → Grown g → NoCharacter p (b ∷ xs)
    → ((q : Partial) → q.lead ≡ n → Bits q.rest q.low q.high → NoCharacter q xs → Found (here s m (Some q)) n (at + 1) xs) → Found (here s m (Some p)) n at (b ∷ xs)
cut_by s m p n at b xs growths.Broken i e x v w f rest =
    let t : State = here s m (Some p) in
    found_now t (fail t kinds.BadUtf8 p.lead) n at b xs (fault_at kinds.BadUtf8 p.lead) (plain_step t at b m i ∙ ap (automaton.partial_by t m p.lead at) x) refl (here_now n p.lead e)
cut_by s m p n at b xs (growths.Partial q) i e x v w f rest =
    let t : State = here s m (Some p) in
    found_then t (here s m (Some q)) n at b xs (plain_step t at b m i ∙ ap (automaton.partial_by t m p.lead at) x)
    (rest q (v.0 ∙ e) w (λ more c fills ok agrees. f (b ∷ more) c (v.1 more c fills) ok (more_agree b more xs agrees)))
cut_by s m p n at b xs (growths.Whole c) i e x v w f rest = absurd (f (b ∷ []) c v.0 v.1 (inl (one_read b xs)))

cut_found : (xs : List ℕ) (s : State) (m : Mode) (p : Partial) (n at : ℕ) → IsPlain m → p.lead ≡ n → Bits p.rest p.low p.high → NoCharacter p xs → Found (here s m (Some p)) n at xs
cut_found [] s m p n at i e z f = let r = filled p.rest p.low p.high z in absurd (f r.more r.c r.fills r.scalar (inr refl))
cut_found (b ∷ xs) s m p n at i e z f =
    cut_by s m p n at b xs (utf.extended p b) i e refl (extended_gives p b z) (extended_grown p b z) f (λ q h k g. cut_found xs s m q n (at + 1) i h k g)

abbrev NoneStands : List ℕ → Type 0
NoneStands xs = (c : ℕ) → scalar c ≡ true → Agree (encode c) xs → ⊥

lead_by : (s : State) (m : Mode) (n b : ℕ) (xs : List ℕ) (o : Option Partial) → IsPlain m → step (here s m None) n b ≡ automaton.lead_on (here s m None) n o → Fresh n o → Started o → Rattle.xmi_text.proofs.backward.Backward.Leads b o → NoneStands (b ∷ xs) → Found (here s m None) n n (b ∷ xs)
lead_by s m n b xs None i e f z l none = found_now (here s m None) (fail (here s m None) kinds.BadUtf8 n) n n b xs (fault_at kinds.BadUtf8 n) e refl (here_now n n refl)
lead_by s m n b xs (Some p) i e f z l none =
    found_then (here s m None) (here s m (Some p)) n n b xs e
    (cut_found xs s m p n (n + 1) i f.0 z
    (λ more c fills ok agrees. none c ok (subst (λ (ys : List ℕ). Agree ys (b ∷ xs)) (l more c fills (small_scalar c ok)).0 (more_agree b more xs agrees))))

-- where characters are read
plain_found : (s : State) (m : Mode) (n b : ℕ) (xs : List ℕ) → IsPlain m → 128 ≤ b → (automaton.ends_twin (here s m None) m b ≡ true → s.attr.at < n) → NoneStands (b ∷ xs) → Found (here s m None) n n (b ∷ xs)
plain_found s m n b xs i h twin none =
    let t : State = here s m None in
    let e : step t n b ≡ automaton.lead t m n b = plain_step t n b m i ∙ cond-false (nat_lt b 128) _ _ (le-ltb b 128 h) in
    elim (cases_Bool (automaton.ends_twin t m b)) [
      | inl y ↦ found_now t (fail t kinds.DuplicateAttribute s.attr.at) n n b xs (fault_at kinds.DuplicateAttribute s.attr.at) (e ∙ cond-true (automaton.ends_twin t m b) _ _ y) refl (inl (twin y))
      | inr y ↦ lead_by s m n b xs (utf.begun n b) i (e ∙ cond-false (automaton.ends_twin t m b) _ _ y) (begun_fresh n b) (begun_started n b) (begun_leads n b) none
    ]

-- in a reference
reference_found : (s : State) (amp n b : ℕ) (place : Within) (part : Reference) (xs : List ℕ) (o : Option Reference) → refs.extended part b ≡ o → 128 ≤ b → amp < n → Found (here s (modes.Reference amp place part) None) n n (b ∷ xs)
reference_found s amp n b place part xs (Some next) e h below = absurd (not_low (extended_low part b next e))
  where
    not_low : b < 128 → ⊥
    not_low l = omega arith
reference_found s amp n b place part xs None e h below =
    let t : State = here s (modes.Reference amp place part) None in
    found_now t (fail t kinds.BadEntity amp) n n b xs (fault_at kinds.BadEntity amp) (cond-false (b == 59) _ _ (ne_eqb b 59 (λ z. omega arith)) ∙ ap (automaton.reference_on t amp place) e) refl (inl below)

-- ---- in the name of an end tag

pub all_high : List ℕ → Bool
all_high [] = true
all_high (b ∷ bytes) = nat_le 128 b && all_high bytes

high_four : (a b c d : ℕ) → 128 ≤ a → 128 ≤ b → 128 ≤ c → 128 ≤ d → all_high (a ∷ b ∷ c ∷ d ∷ []) ≡ true
unfolding all_high
high_four a b c d h i j k = and_from (nat_le 128 a) _ (le-leb 128 a h) (and_from (nat_le 128 b) _ (le-leb 128 b i) (and_from (nat_le 128 c) _ (le-leb 128 c j) (and_from (nat_le 128 d) true (le-leb 128 d k) refl)))

high_rest : (a : ℕ) (bytes : List ℕ) → all_high (a ∷ bytes) ≡ true → all_high bytes ≡ true
unfolding all_high
high_rest a bytes e = (and_parts (nat_le 128 a) (all_high bytes) e).1

pub high_first : (a : ℕ) (bytes : List ℕ) → all_high (a ∷ bytes) ≡ true → 128 ≤ a
unfolding all_high
high_first a bytes e = leb-true 128 a (and_parts (nat_le 128 a) (all_high bytes) e).0

pub high_bytes : (c : ℕ) → 128 ≤ c → all_high (encode c) ≡ true
high_bytes c l = elim (cases_lt c 2048) [
  | inl h ↦ subst (λ (bs : List ℕ). all_high bs ≡ true) (sym (encode_two c l h)) (high_rest 128 _ (high_rest 128 _ (high_four 128 128 (192 + c / 64) (128 + c % 64) (omega arith) (omega arith) (omega arith) (omega arith))))
  | inr h ↦ elim (cases_lt c 65536) [
    | inl k ↦ subst (λ (bs : List ℕ). all_high bs ≡ true) (sym (encode_three c h k)) (high_rest 128 _ (high_four 128 (224 + c / 4096) (128 + c / 64 % 64) (128 + c % 64) (omega arith) (omega arith) (omega arith) (omega arith)))
    | inr k ↦ subst (λ (bs : List ℕ). all_high bs ≡ true) (sym (encode_four c k)) (high_four (240 + c / 262144) (128 + c / 4096 % 64) (128 + c / 64 % 64) (128 + c % 64) (omega arith) (omega arith) (omega arith) (omega arith))
  ]
]

-- the name's bytes that are left
abbrev pub left_of : State → ℕ → List ℕ
left_of s matched = drop matched (encodes (named (automaton.innermost s.elements)))

pub wanted_none : (s : State) (matched : ℕ) → left_of s matched ≡ [] → wanted s matched ≡ None
wanted_none s matched e = byte_named (automaton.innermost s.elements) matched ∙ get_drop (encodes (named (automaton.innermost s.elements))) matched ∙ ap (λ (xs : List ℕ). slice_get xs 0) e

pub wanted_some : (s : State) (matched d : ℕ) (more : List ℕ) → left_of s matched ≡ d ∷ more → wanted s matched ≡ Some d
wanted_some s matched d more e = byte_named (automaton.innermost s.elements) matched ∙ get_drop (encodes (named (automaton.innermost s.elements))) matched ∙ ap (λ (xs : List ℕ). slice_get xs 0) e

abbrev pub in_name : State → ℕ → ℕ → State
in_name s less matched = here s (modes.EndName less matched) None

-- a byte that differs
name_differs : (s : State) (less matched n at d b : ℕ) (more xs : List ℕ) → less < n → left_of s matched ≡ d ∷ more → (d == b) ≡ false → Found (in_name s less matched) n at (b ∷ xs)
name_differs s less matched n at d b more xs below e f =
    let t : State = in_name s less matched in
    found_now t (fail t kinds.WrongEnd less) n at b xs (fault_at kinds.WrongEnd less) (ap (automaton.end_name_by t less matched at b) (wanted_some s matched d more e) ∙ cond-false (d == b) _ _ f) refl (inl below)

same_heads : (x y : ℕ) (xs ys : List ℕ) → x ∷ xs ≡ y ∷ ys → (x ≡ y) × (xs ≡ ys)
same_heads x y xs ys e = (cc, cc)

name_walk : (es ds xs ys zs : List ℕ) (s : State) (less matched n at : ℕ) → less < n → left_of s matched ≡ ds → es ++ ys ≡ ds ++ 62 ∷ zs → all_high es ≡ true → (Agree es xs → ⊥) → Found (in_name s less matched) n at xs
name_walk [] ds xs ys zs s less matched n at below e same high f = absurd (f (inl refl))
name_walk (e0 ∷ es) ds [] ys zs s less matched n at below e same high f = absurd (f (inr refl))
name_walk (e0 ∷ es) [] (x ∷ xs) ys zs s less matched n at below e same high f = absurd (not_end (high_first e0 es high) (same_heads e0 62 (es ++ ys) zs same).0)
  where
    not_end : 128 ≤ e0 → e0 ≡ 62 → ⊥
    not_end l q = omega arith
name_walk (e0 ∷ es) (d ∷ ds) (x ∷ xs) ys zs s less matched n at below e same high f =
    let q = same_heads e0 d (es ++ ys) (ds ++ 62 ∷ zs) same in
    let t : State = in_name s less matched in
    elim (cases_Bool (d == x)) [
      | inl k ↦
          let x' : e0 ≡ x = q.0 ∙ eqb-true d x k in
          found_then t (go t (modes.EndName less (matched + 1))) n at x xs (ap (automaton.end_name_by t less matched at x) (wanted_some s matched d ds e) ∙ cond-true (d == x) _ _ k)
          (name_walk es ds xs ys zs (record s { returned = false }) less (matched + 1) n (at + 1) below (drop_more (encodes (named (automaton.innermost s.elements))) matched ∙ ap (drop 1) e) q.1 (high_rest e0 es high)
          (λ agrees. f (subst (λ (y : ℕ). Agree (y ∷ es) (x ∷ xs)) (sym x') (more_agree x es xs agrees))))
      | inr k ↦ name_differs s less matched n at d x ds xs below e k
    ]

name_found : (s : State) (less matched n b : ℕ) (ds zs last xs : List ℕ) → less < n → 128 ≤ b → left_of s matched ≡ ds → encodes last ≡ ds ++ 62 ∷ zs → scalars last ≡ true → NoneStands (b ∷ xs) → Found (in_name s less matched) n n (b ∷ xs)
name_found s less matched n b [] zs last xs below h e text ok none =
    let t : State = in_name s less matched in
    let w = ap (automaton.end_name_by t less matched n b) (wanted_none s matched e) in
    elim (cases_Bool (holds_in_name b)) [
      | inl k ↦ found_now t (fail t kinds.WrongEnd less) n n b xs (fault_at kinds.WrongEnd less) (w ∙ cond-true (holds_in_name b) _ _ k) refl (inl below)
      | inr k ↦ found_now t (fail t kinds.BadUtf8 n) n n b xs (fault_at kinds.BadUtf8 n) (w ∙ cond-false (holds_in_name b) _ _ k ∙ cond-false (nat_lt b 128) _ _ (le-ltb b 128 h)) refl (here_now n n refl)
    ]
name_found s less matched n b (d ∷ ds) zs [] xs below h e text ok none = cc
name_found s less matched n b (d ∷ ds) zs (c ∷ last) xs below h e text ok none = elim (cases_lt c 128) [
  | inl low ↦
      let first : c ≡ d = (same_heads c d (encodes last) (ds ++ 62 ∷ zs) (sym (ap (λ (bs : List ℕ). bs ++ encodes last) (encode_ascii c low)) ∙ text)).0 in
      name_differs s less matched n n d b ds xs below e (ne_eqb d b (λ q. omega arith))
  | inr high ↦ name_walk (encode c) (d ∷ ds) (b ∷ xs) (encodes last) zs s less matched n n below e text (high_bytes c high) (none c (and_parts (scalar c) (scalars last) ok).0)
]

-- ---- every place

-- a state's places are those of bytes before it
abbrev Below : ℕ → ℕ → Type 0
Below limit place = place < limit

abbrev Any : ℕ → Type 0
Any place = Unit {0}

none_below : (limit : ℕ) → IsKept (Below limit) Any (state_of []) 0
unfolding state_of
none_below limit = record { mode = tt; cut = refl }

kept_below : (bytes : List ℕ) (limit n : ℕ) → n ≤ limit → n ≤ length bytes → IsKept (Below limit) Any (state_of (take n bytes)) n
kept_below bytes limit zero l h = none_below limit
kept_below bytes limit (suc n) l h =
    let front : List ℕ = take n bytes in
    let s : State = state_of front in
    let b : ℕ = get_or bytes n 0 in
    let t : State = step s n b in
    let many : length front ≡ n = length-take-le n bytes (omega arith) in
    let more : suc n ≡ n + 1 = omega arith in
    let is : state_of (take (n + 1) bytes) ≡ cleared t = ap state_of (take_more bytes n 0 (omega arith)) ∙ state_of-append front (b ∷ []) ∙ ap (λ (k : ℕ). cleared (step s k b)) many in
    let before = kept_below bytes limit n (omega arith) (omega arith) in
    let next = next_kept (Below limit) Any s s.mode s.partial n b (sound_of front).cut before.mode before.cut (λ _. omega arith) in
    let kept : IsKept (Below limit) Any (cleared t) (n + 1) = cleared_kept (Below limit) Any t t.ready (n + 1) (next.kept (λ _. tt)) in
    subst (λ (k : ℕ). IsKept (Below limit) Any (state_of (take k bytes)) k) (sym more) (subst (λ (q : State). IsKept (Below limit) Any q (n + 1)) (sym is) kept)

found_at : (s : State) (m : Mode) (n b : ℕ) (xs last : List ℕ) → (IsDead s m None → ⊥) → Kept (Below n) Any s.attr.at m → 128 ≤ b → encodes last ≡ completion_in s m → scalars last ≡ true → NoneStands (b ∷ xs) → Found (here s m None) n n (b ∷ xs)
found_at s (modes.Failed f) n b xs last alive k h text ok none = absurd (alive tt)
found_at s (modes.Doctype less word_at matched) n b xs last alive k h text ok none = absurd (alive tt)
found_at s (modes.Reference amp place part) n b xs last alive k h text ok none = reference_found s amp n b place part xs (refs.extended part b) refl h k
found_at s (modes.EndName less matched) n b xs last alive k h text ok none = name_found s less matched n b (left_of s matched) (end_tags (front s.elements)) last xs k h refl text ok none
found_at s m n b xs last alive k h text ok none = plain_found s m n b xs tt h (λ e. twin_kept (Below n) Any (here s m None) m b e k) none

-- what completes a cut character begins with no character
cut_low : (s : State) (m : Mode) (c : Option Partial) → Cut c m → (IsDead s m c → ⊥) → Low (completion_by s m c) ⊎ (c ≡ None)
cut_low s m None k alive = inr refl
cut_low s (modes.Failed f) (Some p) k alive = absurd (alive tt)
cut_low s modes.Start (Some p) k alive = inl (low_on (mark_rest p.rest) (elements_end s) (mark_low p.rest))
cut_low s m (Some p) k alive = inl (low_on (least_rest p.rest p.low) (behind_character s m (least p.rest p.low)) (rest_low p.rest p.low p.high k.1))

uncut : (bytes last : List ℕ) → MayGoOn bytes → encodes last ≡ completion (state_of bytes) → (state_of bytes).partial ≡ None
unfolding completion
uncut bytes last o text =
    let s : State = state_of bytes in
    elim (cut_low s s.mode s.partial (sound_of bytes).cut (λ d. no_more bytes d o)) [ inl low ↦ absurd (low_none last (completion_by s s.mode s.partial) text low) | inr e ↦ e ]

completion_uncut : (s : State) → s.partial ≡ None → completion s ≡ completion_in s s.mode
unfolding completion
completion_uncut s e = ap (completion_by s s.mode) e

head_of : (bytes : List ℕ) (n : ℕ) → n < length bytes → (b : ℕ) × (xs : List ℕ) × (drop n bytes ≡ b ∷ xs)
head_of [] n h = absurd (none n h)
  where
    none : (n : ℕ) → n < 0 → ⊥
    none n h = omega arith
head_of (x ∷ bytes) zero h = (x, bytes, refl)
head_of (x ∷ bytes) (suc n) h = head_of bytes n (omega arith)

utf_told : (bytes : List ℕ) (n : ℕ) → IsBadUtf8 bytes n → Begins (take n bytes) → IsTold bytes kinds.BadUtf8 n
utf_told bytes n f begun =
    let s : State = state_at bytes n in
    let inside = f.within in
    let h : n ≤ length bytes = omega (arith, inside) in
    let o = begins_goes_on (take n bytes) begun in
    let more : List ℕ = completion s in
    let w = (whole_markup (take n bytes ++ more) (completed (take n bytes) o)).1 in
    let first = f.before in
    let r = rest_encoded first.0 (document_text w.document) more (sym w.written ∙ ap (λ xs. xs ++ more) (sym first.1.1)) in
    let ok : scalars r.0 ≡ true = (scalars-parts first.0 r.0 (subst (λ (cs : List ℕ). scalars cs ≡ true) r.1 w.scalars)).1 in
    let plain : s.partial ≡ None = uncut (take n bytes) r.0 o r.2 in
    let split = head_of bytes n inside in
    let b : ℕ = split.0 in
    let xs : List ℕ = split.1 in
    let none : NoneStands (b ∷ xs) = λ c scalar' agrees. f.none c (and_from (scalar c) true scalar' refl) (subst (Agree (encode c)) (sym split.2) agrees) in
    let high : 128 ≤ b = elim (cases_lt b 128) [
      | inl low ↦ absurd (none b (low_scalar b (omega arith)) (subst (λ (ys : List ℕ). Agree ys (b ∷ xs)) (sym (encode_ascii b low)) (inl (one_read b xs))))
      | inr l ↦ l
    ] in
    let same : here s s.mode None ≡ s = ap (here s s.mode) (sym plain) ∙ here_same s (idle_of (take n bytes)) in
    let alive : IsDead s s.mode None → ⊥ = λ d. no_more (take n bytes) (subst (IsDead s s.mode) (sym plain) d) o in
    let kept = kept_below bytes n n (omega arith) h in
    let found = found_at s s.mode n b xs r.0 alive kept.mode high (r.2 ∙ completion_uncut s plain) ok none in
    let stands : Stands bytes n found.read = subst (λ (ys : List ℕ). begins found.read ys ≡ true) (sym split.2) found.are in
    record {
      fault = found.fault;
      is = told bytes n found.read found.fault h stands (ap (λ (t : State). (state_from n t found.read).mode) (sym same) ∙ found.fails);
      first = found.before;
    }

pub utf_never_missed : IsNeverMissed kinds.BadUtf8
utf_never_missed bytes f n e b = elim (cases_lt f.at n) [
  | inl early ↦ inl early
  | inr late ↦ told_first bytes kinds.BadUtf8 f n e (utf_told bytes n b (begins_before bytes f n e late))
]

pub utf_outside : IsOutsideDocuments kinds.BadUtf8
utf_outside bytes tree n m b = let inside = b.within in none_told bytes kinds.BadUtf8 tree n m (utf_told bytes n b (document_begins bytes tree n m (omega (arith, inside))))

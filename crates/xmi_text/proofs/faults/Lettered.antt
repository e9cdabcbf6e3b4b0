-- Names hold no byte but those of names.
use Rattle.std.proofs.Common.{◌≡◌, ℕ, zero, suc, ◌+◌, ◌/◌, ◌%◌, ◌-◌, ◌≤◌, ◌⊎◌, Bool, true, false, List, [], ◌∷◌, ◌++◌, length, refl, sym, ◌∙◌, subst, arith, Option, Some, None, inl, inr, true≢false}
use Rattle.std.proofs.lemmas.Bool.{and_parts, and_from, or_cases, or_left, or_right, le-leb, eq-eqb, eqb-true, cond-true, cond-false, cases_lt, cases_Bool}
use Rattle.std.proofs.lemmas.Str.{encode_ascii}
use Rattle.std.specs.List.{list_all}
use Rattle.std.specs.Prelude.{nat_le, ◌==◌, ◌&&◌, ◌||◌, not, slice_get}
use lib.Utf8.{encode, encodes}
use Rattle.xmi_text.specs.ByteClass.{begins_name, continues_name}
use Rattle.xmi_text.specs.Names.{is_far, is_name, goes_on}
use Rattle.xmi_text.specs.Automaton.{innermost, byte_of, wanted}
use Rattle.xmi_text.specs.Reading.{state_of}
use Rattle.xmi_text.proofs.forward.NameSteps.{begins_continues, far_parts}
use Rattle.xmi_text.proofs.forward.Encoded.{encode_two, encode_three, encode_four}
use Rattle.xmi_text.proofs.faults.Named.{Good, AllGood, names_of}

-- a byte of a name, or a character of one
abbrev pub is_letter : ℕ → Bool
is_letter c = continues_name c || ((c == 58) || nat_le 128 c)

all_at : {A : Type 0} (p : A → Bool) (xs : List A) (n : ℕ) (x : A) → list_all p xs ≡ true → slice_get xs n ≡ Some x → p x ≡ true
all_at p [] zero x a e = cc
all_at p [] (suc n) x a e = cc
all_at p (y ∷ xs) zero x a e = let same : y ≡ x = cc in subst (λ z. p z ≡ true) same (and_parts (p y) (list_all p xs) a).0
all_at p (y ∷ xs) (suc n) x a e = all_at p xs n x (and_parts (p y) (list_all p xs) a).1 e

colon_letter : (c : ℕ) → (c == 58) ≡ true → is_letter c ≡ true
colon_letter c e = or_right (continues_name c) _ (or_left (c == 58) (nat_le 128 c) e)

low_letter : (c : ℕ) → continues_name c ≡ true → is_letter c ≡ true
low_letter c e = or_left (continues_name c) _ e

far_letter : (c : ℕ) → 128 ≤ c → is_letter c ≡ true
far_letter c h = or_right (continues_name c) _ (or_right (c == 58) (nat_le 128 c) (le-leb 128 c h))

-- ---- the bytes of names

all_append : (xs ys : List ℕ) → list_all is_letter xs ≡ true → list_all is_letter ys ≡ true → list_all is_letter (xs ++ ys) ≡ true
all_append [] ys a b = b
all_append (x ∷ xs) ys a b = let q = and_parts (is_letter x) (list_all is_letter xs) a in and_from (is_letter x) (list_all is_letter (xs ++ ys)) q.0 (all_append xs ys q.1 b)

two_letters : (b c : ℕ) → 128 ≤ b → 128 ≤ c → list_all is_letter (b ∷ c ∷ []) ≡ true
two_letters b c h k = and_from (is_letter b) _ (far_letter b h) (and_from (is_letter c) true (far_letter c k) refl)

far_bytes : (c : ℕ) → 128 ≤ c → list_all is_letter (encode c) ≡ true
far_bytes c l = elim (cases_lt c 2048) [
  | inl h ↦ subst (λ (bs : List ℕ). list_all is_letter bs ≡ true) (sym (encode_two c l h)) (two_letters (192 + c / 64) (128 + c % 64) (omega arith) (omega arith))
  | inr h ↦ elim (cases_lt c 65536) [
    | inl k ↦ subst (λ (bs : List ℕ). list_all is_letter bs ≡ true) (sym (encode_three c h k)) (and_from (is_letter (224 + c / 4096)) _ (far_letter (224 + c / 4096) (omega arith)) (two_letters (128 + c / 64 % 64) (128 + c % 64) (omega arith) (omega arith)))
    | inr k ↦
        subst (λ (bs : List ℕ). list_all is_letter bs ≡ true) (sym (encode_four c k))
        (all_append ((240 + c / 262144) ∷ (128 + c / 4096 % 64) ∷ []) ((128 + c / 64 % 64) ∷ (128 + c % 64) ∷ []) (two_letters (240 + c / 262144) (128 + c / 4096 % 64) (omega arith) (omega arith)) (two_letters (128 + c / 64 % 64) (128 + c % 64) (omega arith) (omega arith)))
  ]
]

bytes_letters : (cs : List ℕ) → list_all is_letter cs ≡ true → list_all is_letter (encodes cs) ≡ true
bytes_letters [] a = refl
bytes_letters (c ∷ cs) a =
    let q = and_parts (is_letter c) (list_all is_letter cs) a in
    all_append (encode c) (encodes cs)
    (elim (cases_lt c 128) [
      | inl h ↦ subst (λ (bs : List ℕ). list_all is_letter bs ≡ true) (sym (encode_ascii c h)) (and_from (is_letter c) true q.0 refl)
      | inr h ↦ far_bytes c h
    ])
    (bytes_letters cs q.1)

-- a character of a name
abbrev pub NameCharacter : ℕ → Type 0
NameCharacter c = (c ≡ 58) ⊎ ((continues_name c || is_far c) ≡ true)

pub goes_parts : (k : Bool) (c : ℕ) (cs : List ℕ) → goes_on k (c ∷ cs) ≡ true → NameCharacter c × (had : Bool) × (goes_on had cs ≡ true)
goes_parts k c cs e = elim (cases_Bool (c == 58)) [
  | inl q ↦ (inl (eqb-true c 58 q), true, (and_parts (not k) (goes_on true cs) (sym (cond-true (c == 58) (not k && goes_on true cs) ((continues_name c || is_far c) && goes_on k cs) q) ∙ e)).1)
  | inr q ↦
      let r = and_parts (continues_name c || is_far c) (goes_on k cs) (sym (cond-false (c == 58) (not k && goes_on true cs) ((continues_name c || is_far c) && goes_on k cs) q) ∙ e) in
      (inr r.0, k, r.1)
]

pub starts_name : (c : ℕ) → (begins_name c || is_far c) ≡ true → NameCharacter c
starts_name c e = inr (elim (or_cases (begins_name c) (is_far c) e) [
  | inl b ↦ or_left (continues_name c) (is_far c) (begins_continues c b)
  | inr f ↦ or_right (continues_name c) (is_far c) f
])

one_letter : (c : ℕ) → NameCharacter c → is_letter c ≡ true
one_letter c (inl e) = colon_letter c (eq-eqb c 58 e)
one_letter c (inr e) = elim (or_cases (continues_name c) (is_far c) e) [ inl b ↦ low_letter c b | inr f ↦ far_letter c (far_parts c f).0 ]

goes_letters : (k : Bool) (cs : List ℕ) → goes_on k cs ≡ true → list_all is_letter cs ≡ true
goes_letters k [] e = refl
goes_letters k (c ∷ cs) e = let g = goes_parts k c cs e in and_from (is_letter c) (list_all is_letter cs) (one_letter c g.0) (goes_letters g.1 cs g.2)

pub name_letters : (name : List ℕ) → is_name name ≡ true → list_all is_letter name ≡ true
name_letters [] e = absurd (true≢false (sym e))
name_letters (c ∷ cs) e =
    let n = and_parts (begins_name c || is_far c) (goes_on false cs) e in
    and_from (is_letter c) (list_all is_letter cs) (one_letter c (starts_name c n.0)) (goes_letters false cs n.1)

good_at : (names : List (List ℕ)) (n : ℕ) (name : List ℕ) → AllGood names → slice_get names n ≡ Some name → Good name
good_at [] zero name p e = cc
good_at [] (suc n) name p e = cc
good_at (x ∷ names) zero name p e = let same : x ≡ name = cc in subst Good same p.0
good_at (x ∷ names) (suc n) name p e = good_at names n name p.1 e

-- a byte of an element's name is one of names
pub lettered_wanted : (bytes : List ℕ) (matched w : ℕ) → wanted (state_of bytes) matched ≡ Some w → is_letter w ≡ true
lettered_wanted bytes matched w e =
    let names : List (List ℕ) = (state_of bytes).elements in
    named_by (innermost names) (λ name f. name_letters name (good_at names (length names - 1) name (names_of bytes) f).0) e
  where
    named_by : (o : Option (List ℕ)) → ((name : List ℕ) → o ≡ Some name → list_all is_letter name ≡ true) → byte_of o matched ≡ Some w → is_letter w ≡ true
    named_by None f e = cc
    named_by (Some name) f e = all_at is_letter (encodes name) matched w (bytes_letters name (f name refl)) e

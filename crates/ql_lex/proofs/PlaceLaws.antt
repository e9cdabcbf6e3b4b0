-- No character lies over the end of a form, so its malformed bytes are those of the whole text.
use Rattle.std.proofs.Common.{◌≡◌, ◌⊎◌, ℕ, zero, suc, ◌+◌, ◌-◌, ◌<◌, ◌≤◌, Bool, true, false, if◌then◌else◌, ◌&&◌, ◌||◌, List, [], ◌∷◌, ◌++◌, length, take, drop, get_or, Option, Some, None, Result, Ok, Err, codes, refl, sym, ◌∙◌, ap, subst, arith, ⊎_elim, inl, inr, length-drop, append_assoc, take-append-drop, take_at, length-take}
use Rattle.std.specs.Prelude.{◌==◌, not, nat_lt, nat_eq, encode_utf8, encode_utf8_all, slice_index}
use Rattle.std.proofs.lemmas.Bool.{cases_lt, or_cases, and_parts, false≢true}
use Rattle.std.proofs.lemmas.Bool.Decides.{nat_tests}
use Rattle.std.proofs.lemmas.List.{get_or-take, get_or-drop, take_all, take-take, length-take-le, drop-take}
use Rattle.std.proofs.lemmas.List.Sums.{prefix_len-le-length, prefix_len_passes, prefix_len_stops}
use Rattle.std.proofs.lemmas.Str.{IsUtf8-nil, IsUtf8-take, IsUtf8-drop, IsUtf8-encode, IsCharBoundary-after_ascii, IsCharBoundary-from_take, utf8_valid_len-IsUtf8}
use Rattle.std.specs.Str.{IsUtf8, IsValidUpTo, IsCharBoundary, all_scalars}
use Rattle.std.specs.Str.Lossy.{utf8_valid_len}
use Rattle.std.specs.List.{prefix_len, starts_with, list_any, list_all}
use Rattle.std.specs.Option.{option_map_or}
use Rattle.std.specs.Char.{is_ascii_digit}
use Rattle.std.specs.Cmp.Lexicographic.{bytes_decides}
use Rattle.unicode_ident.specs.Ident.{is_xid_continue}
use Rattle.bstr.specs.Utf8.{Decoded, decoded}
use Rattle.bstr.proofs.lemmas.SoundLemmas.{SpellsChar-decoded}
use Rattle.bstr.proofs.lemmas.EncodeLemmas.{decoded-encode}
use Rattle.bstr.proofs.lemmas.PieceLemmas.{by-shape}
use Rattle.bstr.proofs.lemmas.LossyLemmas.{utf8_valid_len-cases}
use Rattle.mof_metamodel.specs.Characters.{is_blank}
use Rattle.ql_lex.specs.declared.token.TokenKind.{TokenKind}
use Rattle.ql_lex.specs.declared.token.TokenKind.TheVariants.{Str, Quoted, Number}
use Rattle.ql_lex.specs.declared.limits.TheConstants.{MAX_INTEGER}
use Rattle.ql_lex.specs.declared.fault.LexFault.{LexFault}
use Rattle.ql_lex.specs.declared.fault.LexKind.TheVariants.{BadUtf8, BadChar, OpenString, OpenComment, BigNumber}
use Rattle.ql_lex.specs.declared.piece.Piece.{Piece}
use Rattle.ql_lex.specs.Forms.{form, fault, token, nothing, front_character, front_width, line_len, block_comment, comment_end, string_end, misfit_from, begins_misfit, closes, escapes, closed, text, number, decimal, digits_len, name_len, step_len, sign, begins_long_sign, begins_short_sign, begins_line_comment, begins_block_comment, begins_quoted, begins_name}
use Rattle.ql_lex.specs.Places.{IsCut, IsUtf8Place, EndsClean}
use Rattle.ql_lex.proofs.Laws.{whole_front, whole_more, name_len-step, name_len-end, width-within}

-- ---- places over which no character lies

cut_none : (bs : List ℕ) → IsCut bs 0
cut_none bs = λ m above u. IsUtf8-nil

cut_whole : (bs : List ℕ) (n : ℕ) → IsUtf8 (take n bs) → IsCut bs n
cut_whole bs n whole = λ m above u. whole

cut_all : (bs : List ℕ) (n : ℕ) → length bs ≤ n → IsCut bs n
cut_all bs n end = λ m above u. let P : List ℕ → Type 0 = λ xs. IsUtf8 xs in
    let same : take m bs ≡ take n bs = take_all m bs (omega arith) ∙ sym (take_all n bs end) in subst P same u

-- a byte that continues no character stands behind it
cut_before : (bs : List ℕ) (n : ℕ) → n ≤ length bs → (128 ≤ get_or bs n 0 → 192 ≤ get_or bs n 0) → IsCut bs n
cut_before bs n within start = λ m above u.
    let same : get_or (take m bs) n 0 ≡ get_or bs n 0 = get_or-take m bs n 0 above in
    let long : n ≤ length (take m bs) = omega (arith, length-take m bs) in
    let edge : IsCharBoundary (take m bs) n = (long, λ l h. let big : 192 ≤ get_or bs n 0 = start (omega (arith, same, h)) in omega (arith, same, big)) in
    whole_front bs n m (omega arith) (IsUtf8-take (take m bs) n u edge)

-- an ASCII character stands before it
cut_after : (bs : List ℕ) (n : ℕ) → 0 < n → n ≤ length bs → get_or bs (n - 1) 0 < 128 → IsCut bs n
cut_after bs n some within low = λ m above u.
    let same : get_or (take m bs) (n - 1) 0 ≡ get_or bs (n - 1) 0 = get_or-take m bs (n - 1) 0 (omega arith) in
    let edge : IsCharBoundary (take m bs) (n - 1 + 1) =
    IsCharBoundary-after_ascii (take m bs) (n - 1) u (omega (arith, length-take m bs)) (omega (arith, same)) in
    let e : n - 1 + 1 ≡ n = omega arith in
    let P : ℕ → Type 0 = λ k. IsCharBoundary (take m bs) k in
    whole_front bs n m (omega arith) (IsUtf8-take (take m bs) n u (subst P e edge))

-- ---- runs

cut_run : (p : ℕ → Bool) (bs : List ℕ) → ((b : ℕ) → p b ≡ true → b < 128) → IsCut bs (prefix_len p bs)
cut_run p bs low = ⊎_elim
    (λ (some : 0 < prefix_len p bs).
    cut_after bs (prefix_len p bs) some (prefix_len-le-length p bs)
    (low (get_or bs (prefix_len p bs - 1) 0) (prefix_len_passes p bs (prefix_len p bs - 1) 0 (omega arith))))
    (λ (none : prefix_len p bs ≤ 0).
    let e : 0 ≡ prefix_len p bs = omega arith in
    let P : ℕ → Type 0 = λ n. IsCut bs n in subst P e (cut_none bs))
    (cases_lt 0 (prefix_len p bs))

blank_ascii : (b : ℕ) → is_blank b ≡ true → b < 128
blank_ascii b e = grind (arith, nat_tests)

digit_ascii : (b : ℕ) → is_ascii_digit b ≡ true → b < 128
digit_ascii b e = grind (arith, nat_tests)

line_feed : (b : ℕ) → not (b == 10) ≡ false → b ≡ 10
line_feed b e = grind (arith, nat_tests)

-- a line comment ends before a line feed, or at the end
cut_line : (bs : List ℕ) → IsCut bs (2 + line_len (drop 2 bs))
cut_line bs = ⊎_elim
    (λ (more : line_len (drop 2 bs) < length (drop 2 bs)).
    let stop : get_or (drop 2 bs) (line_len (drop 2 bs)) 0 ≡ 10 = line_feed _ (prefix_len_stops (λ b. not (b == 10)) (drop 2 bs) 0 more) in
    let there : get_or (drop 2 bs) (line_len (drop 2 bs)) 0 ≡ get_or bs (2 + line_len (drop 2 bs)) 0 = get_or-drop 2 bs (line_len (drop 2 bs)) 0 in
    cut_before bs (2 + line_len (drop 2 bs)) (omega (arith, more, length-drop 2 bs)) (λ h. absurd (omega (arith, h, stop, there))))
    (λ (end : length (drop 2 bs) ≤ line_len (drop 2 bs)). cut_all bs (2 + line_len (drop 2 bs)) (omega (arith, end, length-drop 2 bs)))
    (cases_lt (line_len (drop 2 bs)) (length (drop 2 bs)))

-- ---- strings and comments

-- this many bytes up to a closing sign and with it, behind i others
abbrev IsClosed : List ℕ → ℕ → ℕ → ℕ → Type 0
IsClosed bs i n byte = (k : ℕ) × (n ≡ i + 1 + k) × (k < length bs) × (get_or bs k 0 ≡ byte)

closed_later : (b : ℕ) (bs : List ℕ) (i n byte : ℕ) → IsClosed bs (i + 1) n byte → IsClosed (b ∷ bs) i n byte
closed_later b bs i n byte later =
    let within : later.0 < length bs = later.2 in
    let at : n ≡ i + 1 + 1 + later.0 = later.1 in
    (suc later.0, omega (arith, at), omega (arith, within), later.3)

some_same : (a b : ℕ) → Some a ≡ Some b → a ≡ b
some_same a b e = cc

closed_by : (b : ℕ) (bs : List ℕ) (i n byte : ℕ) (t : Bool) (later : Option ℕ) → (if t then Some (i + 1) else later) ≡ Some n
    → (t ≡ true → b ≡ byte) → (later ≡ Some n → IsClosed bs (i + 1) n byte) → IsClosed (b ∷ bs) i n byte
closed_by b bs i n byte true later e here behind = let ends : i + 1 ≡ n = some_same (i + 1) n e in (0, omega (arith, ends), omega arith, here refl)
closed_by b bs i n byte false later e here behind = closed_later b bs i n byte (behind e)

comment_closed : (bs : List ℕ) (i : ℕ) (star : Bool) (n : ℕ) → comment_end i star bs ≡ Some n → IsClosed bs i n 47
unfolding comment_end
comment_closed [] i star n e = absurd cc
comment_closed (b ∷ bs) i star n e = closed_by b bs i n 47 (star && (b == 47)) (comment_end (i + 1) (b == 42) bs) e
    (λ is. let slash : b == 47 ≡ true = (and_parts star (b == 47) is).1 in grind (arith, nat_tests))
    (comment_closed bs (i + 1) (b == 42) n)

string_closed : (bs : List ℕ) (i : ℕ) (escaped : Bool) (n : ℕ) → string_end i escaped bs ≡ Some n → IsClosed bs i n 39
unfolding string_end
string_closed [] i escaped n e = absurd cc
string_closed (b ∷ bs) i escaped n e = closed_by b bs i n 39 (closes escaped b) (string_end (i + 1) (escapes escaped b) bs) e
    (λ is. let quote : b == 39 ≡ true = (and_parts (not escaped) (b == 39) is).1 in grind (arith, nat_tests))
    (string_closed bs (i + 1) (escapes escaped b) n)

-- a form that ends with the closing sign
cut_closed : (bs : List ℕ) (opening n byte : ℕ) → byte < 128 → IsClosed (drop opening bs) 0 n byte → IsCut bs (opening + n)
cut_closed bs opening n byte low closed_at =
    let at : n ≡ 0 + 1 + closed_at.0 = closed_at.1 in
    let within : closed_at.0 < length (drop opening bs) = closed_at.2 in
    let is : get_or (drop opening bs) closed_at.0 0 ≡ byte = closed_at.3 in
    let there : get_or (drop opening bs) closed_at.0 0 ≡ get_or bs (opening + closed_at.0) 0 = get_or-drop opening bs closed_at.0 0 in
    let place : opening + closed_at.0 ≡ opening + n - 1 = omega (arith, at) in
    let last : get_or bs (opening + closed_at.0) 0 ≡ get_or bs (opening + n - 1) 0 = ap (λ k. get_or bs k 0) place in
    cut_after bs (opening + n) (omega (arith, at)) (omega (arith, at, within, length-drop opening bs)) (omega (arith, is, there, last))

-- ---- misfits

-- a byte that begins a character, or an ASCII one
abbrev pub IsStart : ℕ → Type 0
IsStart b = 128 ≤ b → 192 ≤ b

pub start_of : (b : ℕ) (bs : List ℕ) (c : ℕ) → front_character (b ∷ bs) ≡ Some c → IsStart b
unfolding front_character
start_of b bs c e =
    let char = λ (p : Decoded) (is : decoded (b ∷ bs) ≡ p). sym (ap (λ (q : Decoded). q.char) is) ∙ e in
    by-shape (length (b ∷ bs)) (slice_index (b ∷ bs) 0) (slice_index (b ∷ bs) 1) (slice_index (b ∷ bs) 2) (slice_index (b ∷ bs) 3)
    (λ h big. let k = char _ h.1 in absurd cc)
    (λ h big. absurd (omega (arith, h.1, big)))
    (λ h big. let k = char _ h.3 in absurd cc)
    (λ h big. let k = char _ h.2 in absurd cc)
    (λ h big. let k = char _ h.4 in absurd cc)
    (λ h big. let k = char _ h.4 in absurd cc)
    (λ h big. omega (arith, h.1))
    (λ h big. let k = char _ h.5 in absurd cc)
    (λ h big. let k = char _ h.5 in absurd cc)
    (λ h big. omega (arith, h.1))
    (λ h big. let k = char _ h.6 in absurd cc)
    (λ h big. let k = char _ h.6 in absurd cc)
    (λ h big. omega (arith, h.1))

pub character_of : (f : ℕ → Bool) (o : Option ℕ) → option_map_or f o false ≡ true → (c : ℕ) × (o ≡ Some c)
character_of f None e = absurd (false≢true e)
character_of f (Some c) e = (c, refl)

-- a misfit stands at a `\` before, or at a byte that begins a character
abbrev IsMisfit : List ℕ → ℕ → Bool → ℕ → Type 0
IsMisfit bs i escaped k = ((escaped ≡ true) × (k ≡ i - 1)) ⊎ ((j : ℕ) × (k ≡ i + j) × (j < length bs) × IsStart (get_or bs j 0))

misfit_later : (b : ℕ) (bs : List ℕ) (i : ℕ) (escaped : Bool) (k : ℕ) → IsMisfit bs (i + 1) (escapes escaped b) k → IsMisfit (b ∷ bs) i escaped k
misfit_later b bs i escaped k (inl h) =
    let slash : b == 92 ≡ true = (and_parts (not escaped) (b == 92) h.0).1 in
    let at : k ≡ i + 1 - 1 = h.1 in
    inr (0, omega (arith, at), omega arith, λ big. absurd (grind (arith, nat_tests)))
misfit_later b bs i escaped k (inr h) =
    let at : k ≡ i + 1 + h.0 = h.1 in
    let within : h.0 < length bs = h.2 in
    inr (suc h.0, omega (arith, at), omega (arith, within), h.3)

misfit_here : (b : ℕ) (bs : List ℕ) (i : ℕ) (escaped : Bool) (k : ℕ) → begins_misfit escaped (b ∷ bs) ≡ true
    → (if escaped then i - 1 else i) ≡ k → IsMisfit (b ∷ bs) i escaped k
misfit_here b bs i true k is at = inl (refl, sym at)
misfit_here b bs i false k is at =
    let c = character_of _ (front_character (b ∷ bs)) is in
    inr (0, omega (arith, at), omega arith, start_of b bs c.0 c.1)

misfit_by : (b : ℕ) (bs : List ℕ) (i : ℕ) (escaped : Bool) (k : ℕ) (t : Bool) (later : Option ℕ) → begins_misfit escaped (b ∷ bs) ≡ t
    → (if t then Some (if escaped then i - 1 else i) else later) ≡ Some k → (later ≡ Some k → IsMisfit bs (i + 1) (escapes escaped b) k) → IsMisfit (b ∷ bs) i escaped k
misfit_by b bs i escaped k true later is e behind = misfit_here b bs i escaped k is (some_same (if escaped then i - 1 else i) k e)
misfit_by b bs i escaped k false later is e behind = misfit_later b bs i escaped k (behind e)

misfit_place : (bs : List ℕ) (i : ℕ) (escaped : Bool) (k : ℕ) → misfit_from i escaped bs ≡ Some k → IsMisfit bs i escaped k
unfolding misfit_from
misfit_place [] i escaped k e = absurd cc
misfit_place (b ∷ bs) i escaped k e =
    misfit_by b bs i escaped k (begins_misfit escaped (b ∷ bs)) (misfit_from (i + 1) (escapes escaped b) bs) refl e (misfit_place bs (i + 1) (escapes escaped b) k)

cut_misfit : (bs : List ℕ) (opening n k : ℕ) → n ≤ length (drop opening bs) → misfit_from 0 false (take n (drop opening bs)) ≡ Some k → IsCut bs (opening + k)
cut_misfit bs opening n k within e = ⊎_elim
    (λ h. absurd (false≢true h.0))
    (λ h.
    let at : k ≡ 0 + h.0 = h.1 in
    let inside : h.0 < length (take n (drop opening bs)) = h.2 in
    let taken : get_or (take n (drop opening bs)) h.0 0 ≡ get_or (drop opening bs) h.0 0 = get_or-take n (drop opening bs) h.0 0 (omega (arith, inside, length-take n (drop opening bs))) in
    let there : get_or (drop opening bs) h.0 0 ≡ get_or bs (opening + h.0) 0 = get_or-drop opening bs h.0 0 in
    let place : opening + h.0 ≡ opening + k = omega (arith, at) in
    let byte : get_or bs (opening + h.0) 0 ≡ get_or bs (opening + k) 0 = ap (λ m. get_or bs m 0) place in
    cut_before bs (opening + k) (omega (arith, at, inside, length-take n (drop opening bs), length-drop opening bs))
    (λ big. let start : 192 ≤ get_or (take n (drop opening bs)) h.0 0 = h.3 (omega (arith, big, taken, there, byte)) in omega (arith, start, taken, there, byte)))
    (misfit_place (take n (drop opening bs)) 0 false k e)

-- ---- characters and names

whole_character : (bs : List ℕ) (c : ℕ) → front_character bs ≡ Some c → IsUtf8 (take (front_width bs) bs)
unfolding front_character front_width
whole_character bs c e =
    let spelled = SpellsChar-decoded bs c e in
    let is : take (decoded bs).size bs ≡ encode_utf8 c = ap (take (decoded bs).size) spelled.bytes ∙ take_at (encode_utf8 c) (drop (decoded bs).size bs) (decoded bs).size spelled.width in
    let P : List ℕ → Type 0 = λ xs. IsUtf8 xs in
    subst P (sym is) (IsUtf8-encode c spelled.scalar)

-- a step of a name takes a whole character
whole_step : (bs : List ℕ) → 0 < step_len bs → IsUtf8 (take (step_len bs) bs)
unfolding step_len
whole_step bs some = go (option_map_or is_xid_continue (front_character bs) false) refl
  where
    go : (t : Bool) → option_map_or is_xid_continue (front_character bs) false ≡ t → IsUtf8 (take (step_len bs) bs)
    go true is =
        let c = character_of _ (front_character bs) is in
        let same : front_width bs ≡ step_len bs = sym (ap (λ t. if t then front_width bs else 0) is) in
        let P : ℕ → Type 0 = λ n. IsUtf8 (take n bs) in subst P same (whole_character bs c.0 c.1)
    go false is =
        let none : step_len bs ≡ 0 = ap (λ t. if t then front_width bs else 0) is in absurd (omega (arith, none, some))

step_within : (b : ℕ) (bs : List ℕ) → step_len (b ∷ bs) ≤ length (b ∷ bs)
unfolding step_len
step_within b bs = go (option_map_or is_xid_continue (front_character (b ∷ bs)) false) refl
  where
    go : (t : Bool) → option_map_or is_xid_continue (front_character (b ∷ bs)) false ≡ t → step_len (b ∷ bs) ≤ length (b ∷ bs)
    go true is =
        let same : step_len (b ∷ bs) ≡ front_width (b ∷ bs) = ap (λ t. if t then front_width (b ∷ bs) else 0) is in
        let within = width-within (b ∷ bs) (omega arith) in omega (arith, same, within)
    go false is = let none : step_len (b ∷ bs) ≡ 0 = ap (λ t. if t then front_width (b ∷ bs) else 0) is in omega (arith, none)

-- all that goes on with a name is whole
whole_names : (fuel : ℕ) (bs : List ℕ) → length bs ≤ fuel → IsUtf8 (take (name_len bs 0) bs)
unfolding name_len
whole_names fuel [] within = IsUtf8-nil
whole_names zero (b ∷ bs) within = absurd (omega arith)
whole_names (suc fuel) (b ∷ bs) within = ⊎_elim
    (λ (some : 0 < step_len (b ∷ bs)).
    let fits = step_within b bs in
    let n : ℕ = step_len (b ∷ bs) in
    let rest = whole_names fuel (drop n (b ∷ bs)) (omega (arith, some, fits, within, length-drop n (b ∷ bs))) in
    let whole = whole_more (b ∷ bs) (drop n (b ∷ bs)) n (name_len (drop n (b ∷ bs)) 0) refl (whole_step (b ∷ bs) some) rest in
    let P : ℕ → Type 0 = λ k. IsUtf8 (take k (b ∷ bs)) in
    subst P (sym (name_len-step (b ∷ bs) n refl some fits)) whole)
    (λ (none : step_len (b ∷ bs) ≤ 0).
    let P : ℕ → Type 0 = λ k. IsUtf8 (take k (b ∷ bs)) in
    subst P (sym (name_len-end (b ∷ bs) (omega (arith, none)))) IsUtf8-nil)
    (cases_lt 0 (step_len (b ∷ bs)))

cut_name : (bs : List ℕ) → begins_name bs ≡ true → IsCut bs (front_width bs + name_len (drop (front_width bs) bs) 0)
cut_name bs is =
    let c = character_of _ (front_character bs) is in
    cut_whole bs _ (whole_more bs (drop (front_width bs) bs) (front_width bs) (name_len (drop (front_width bs) bs) 0) refl (whole_character bs c.0 c.1)
    (whole_names (length (drop (front_width bs) bs)) (drop (front_width bs) bs) (omega arith)))

-- ---- signs

cut_long : (bs sign : List ℕ) → IsUtf8 sign → length sign ≡ 2 → starts_with nat_eq bs sign ≡ true → IsCut bs 2
cut_long bs sign whole len starts =
    let P : List ℕ → Type 0 = λ xs. IsUtf8 xs in
    let is : sign ≡ take (length sign) bs = (bytes_decides sign (take (length sign) bs)).0 starts in
    cut_whole bs 2 (subst P (is ∙ ap (λ n. take n bs) len) whole)

pub one_of_five : {P : Type 0} (a b c d e : Bool) → (a || b || c || d || e) ≡ true → (a ≡ true → P) → (b ≡ true → P) → (c ≡ true → P) → (d ≡ true → P)
    → (e ≡ true → P) → P
one_of_five true b c d e is fa fb fc fd fe = fa refl
one_of_five false true c d e is fa fb fc fd fe = fb refl
one_of_five false false true d e is fa fb fc fd fe = fc refl
one_of_five false false false true e is fa fb fc fd fe = fd refl
one_of_five false false false false e is fa fb fc fd fe = fe is

cut_long_sign : (bs : List ℕ) → begins_long_sign bs ≡ true → IsCut bs 2
unfolding begins_long_sign lib.Utf8.encode
cut_long_sign bs is =
    let colons : IsUtf8 (codes "::") = (58 ∷ 58 ∷ [], (refl, refl)) in
    let other : IsUtf8 (codes "<>") = (60 ∷ 62 ∷ [], (refl, refl)) in
    let most : IsUtf8 (codes "<=") = (60 ∷ 61 ∷ [], (refl, refl)) in
    let least : IsUtf8 (codes ">=") = (62 ∷ 61 ∷ [], (refl, refl)) in
    let arrow : IsUtf8 (codes "->") = (45 ∷ 62 ∷ [], (refl, refl)) in
    one_of_five _ _ _ _ _ is (cut_long bs (codes "::") colons refl) (cut_long bs (codes "<>") other refl) (cut_long bs (codes "<=") most refl)
    (cut_long bs (codes ">=") least refl) (cut_long bs (codes "->") arrow refl)

-- one of ASCII characters is one
one_low : (signs : List ℕ) (b : ℕ) → list_all (λ s. nat_lt s 128) signs ≡ true → list_any (λ s. s == b) signs ≡ true → b < 128
one_low [] b all any = absurd (false≢true any)
one_low (s ∷ signs) b all any =
    let both = and_parts (nat_lt s 128) (list_all (λ s. nat_lt s 128) signs) all in
    let first = both.0 in
    ⊎_elim (λ (same : s == b ≡ true). grind (arith, nat_tests)) (λ later. one_low signs b both.1 later) (or_cases _ _ any)

cut_short_sign : (bs : List ℕ) → 0 < length bs → begins_short_sign bs ≡ true → IsCut bs 1
unfolding begins_short_sign
cut_short_sign bs some is = cut_after bs 1 (omega arith) some (one_low (codes "(){},;:=<>+-*.|") (slice_index bs 0) refl is)

-- where no character begins, the longest whole front is empty
malformed_front : (bs : List ℕ) → 0 < length bs → front_character bs ≡ None → IsValidUpTo bs 0
unfolding front_character
malformed_front bs some none = record {
  short = some;
  front = IsUtf8-nil;
  longest = λ m above u. read u.0 m above u.1.0 u.1.1;
}
  where
    read : (cs : List ℕ) (m : ℕ) → 0 < m → all_scalars cs ≡ true → encode_utf8_all cs ≡ take m bs → ⊥
    read [] m above scalars e = omega (arith, ap length e, length-take m bs)
    read (c ∷ cs) m above scalars e =
        let split : bs ≡ encode_utf8 c ++ (encode_utf8_all cs ++ drop m bs) =
        sym (take-append-drop m bs) ∙ ap (λ xs. xs ++ drop m bs) (sym e) ∙ append_assoc (encode_utf8 c) (encode_utf8_all cs) (drop m bs) in
        let found : (decoded bs).char ≡ Some c = ap (λ xs. (decoded xs).char) split
        ∙ ap (λ (p : Decoded). p.char) (decoded-encode c (encode_utf8_all cs ++ drop m bs) (and_parts _ _ scalars).0) in
        absurd cc

-- ---- all forms

clean_if : (bs : List ℕ) (t : Bool) (x y : Result Piece LexFault) → (t ≡ true → EndsClean bs x) → (t ≡ false → EndsClean bs y)
    → EndsClean bs (if t then x else y)
clean_if bs true x y one other = one refl
clean_if bs false x y one other = other refl

clean_comment : (bs : List ℕ) → EndsClean bs (block_comment bs)
clean_comment bs = go (comment_end 0 false (drop 2 bs)) refl
  where
    go : (o : Option ℕ) → comment_end 0 false (drop 2 bs) ≡ o → EndsClean bs (option_map_or (λ n. nothing (2 + n)) o (fault OpenComment 0))
    go None is = (cut_none bs, λ e. absurd cc)
    go (Some n) is = cut_closed bs 2 n 47 (omega arith) (comment_closed (drop 2 bs) 0 false n is)

clean_closed : (kind : TokenKind) (opening : ℕ) (bs : List ℕ) (n : ℕ) → IsClosed (drop opening bs) 0 n 39 → EndsClean bs (closed kind opening (drop opening bs) n)
clean_closed kind opening bs n closed_at = go (misfit_from 0 false (take (n - 1) (drop opening bs))) refl
  where
    go : (o : Option ℕ) → misfit_from 0 false (take (n - 1) (drop opening bs)) ≡ o
        → EndsClean bs (option_map_or (λ k. fault BadChar (opening + k)) o (token kind (opening + n)))
    go None is = cut_closed bs opening n 39 (omega arith) closed_at
    go (Some k) is =
        let at : n ≡ 0 + 1 + closed_at.0 = closed_at.1 in
        let within : closed_at.0 < length (drop opening bs) = closed_at.2 in
        (cut_misfit bs opening (n - 1) k (omega (arith, at, within)) is, λ e. absurd cc)

clean_text : (kind : TokenKind) (opening : ℕ) (bs : List ℕ) → EndsClean bs (text kind opening bs)
clean_text kind opening bs = go (string_end 0 false (drop opening bs)) refl
  where
    go : (o : Option ℕ) → string_end 0 false (drop opening bs) ≡ o → EndsClean bs (option_map_or (closed kind opening (drop opening bs)) o (fault OpenString 0))
    go None is = (cut_none bs, λ e. absurd cc)
    go (Some n) is = clean_closed kind opening bs n (string_closed (drop opening bs) 0 false n is)

clean_number : (bs : List ℕ) → EndsClean bs (number bs)
clean_number bs =
    clean_if bs (nat_lt MAX_INTEGER (decimal 0 (take (digits_len bs) bs))) (fault BigNumber 0) (token Number (digits_len bs))
    (λ e. (cut_none bs, λ k. absurd cc)) (λ e. cut_run is_ascii_digit bs digit_ascii)

clean_sign : (bs : List ℕ) → 0 < length bs → EndsClean bs (sign bs)
clean_sign bs some =
    clean_if bs (begins_long_sign bs) _ _ (cut_long_sign bs) (λ e. clean_if bs (begins_short_sign bs) _ _ (cut_short_sign bs some) (λ e. go (front_character bs) refl))
  where
    go : (o : Option ℕ) → front_character bs ≡ o → EndsClean bs (option_map_or (λ c. fault BadChar 0) o (fault BadUtf8 0))
    go None is = (cut_none bs, λ e. malformed_front bs some is)
    go (Some c) is = (cut_none bs, λ e. absurd cc)

pub clean_form : (bs : List ℕ) → 0 < length bs → EndsClean bs (form bs)
unfolding form
clean_form bs some =
    clean_if bs (is_blank (slice_index bs 0)) _ _ (λ e. cut_run is_blank bs blank_ascii)
    (λ e. clean_if bs (begins_line_comment bs) _ _ (λ e. cut_line bs)
    (λ e. clean_if bs (begins_block_comment bs) _ _ (λ e. clean_comment bs)
    (λ e. clean_if bs (begins_quoted bs) _ _ (λ e. clean_text Quoted 2 bs)
    (λ e. clean_if bs (slice_index bs 0 == 39) _ _ (λ e. clean_text Str 1 bs)
    (λ e. clean_if bs (is_ascii_digit (slice_index bs 0)) _ _ (λ e. clean_number bs)
    (λ e. clean_if bs (begins_name bs) _ _ (cut_name bs) (λ e. clean_sign bs some)))))))

-- ---- the whole text

-- what isn't whole before such a place is malformed in the whole text at the same byte
pub malformed_before : (bs : List ℕ) (n : ℕ) → IsCut bs n → n ≤ length bs → (utf8_valid_len (take n bs) ≡ n → ⊥) → IsValidUpTo bs (utf8_valid_len (take n bs))
malformed_before bs n cut within not_whole = ⊎_elim
    (λ u. absurd (not_whole (utf8_valid_len-IsUtf8 (take n bs) u ∙ length-take-le n bs within)))
    (λ valid.
    let v : ℕ = utf8_valid_len (take n bs) in
    let short : v < n = omega (arith, valid.short, length-take n bs) in
    let P : List ℕ → Type 0 = λ xs. IsUtf8 xs in
    record {
      short = omega (arith, short, within);
      front = whole_front bs v n (omega (arith, short)) valid.front;
      longest = λ m above u. ⊎_elim
          (λ (behind : n < m). valid.longest n short (subst P (sym (take-take n n bs (omega arith))) (cut m behind u)))
          (λ (before : m ≤ n). valid.longest m above (subst P (sym (take-take m n bs before)) u))
          (cases_lt n m);
    })
    (utf8_valid_len-cases (take n bs))

-- a malformed byte behind whole characters
pub malformed_behind : (bs rest : List ℕ) (at n : ℕ) → rest ≡ drop at bs → at ≤ length bs → IsUtf8 (take at bs) → IsValidUpTo rest n → IsValidUpTo bs (at + n)
malformed_behind bs rest at n is within front valid =
    let P : List ℕ → Type 0 = λ xs. IsUtf8 xs in
    record {
      short = omega (arith, valid.short, ap length is, length-drop at bs);
      front = whole_more bs rest at n is front valid.front;
      longest = λ m above u.
          let same : take at (take m bs) ≡ take at bs = take-take at m bs (omega (arith, above)) in
          let long : at ≤ length (take m bs) = omega (arith, above, within, length-take m bs) in
          let edge = IsCharBoundary-from_take (take m bs) at u long (subst P (sym same) front) in
          let sum : at + (m - at) ≡ m = omega (arith, above) in
          let behind : drop at (take m bs) ≡ take (m - at) rest =
          ap (λ k. drop at (take k bs)) (sym sum) ∙ drop-take at (m - at) bs ∙ ap (take (m - at)) (sym is) in
          valid.longest (m - at) (omega (arith, above)) (subst P behind (IsUtf8-drop (take m bs) at u edge));
    }

-- ---- the answer at a front

pub place_cut : (bs : List ℕ) (p : Piece) (f : LexFault) → form bs ≡ Ok p → 0 < length bs → p.len ≤ length bs → (utf8_valid_len (take p.len bs) ≡ p.len → ⊥)
    → f ≡ record { kind = BadUtf8; at = utf8_valid_len (take p.len bs) } → IsUtf8Place bs f
place_cut bs p f is some within not_whole told =
    let P : Result Piece LexFault → Type 0 = λ r. EndsClean bs r in
    let Q : LexFault → Type 0 = λ g. IsUtf8Place bs g in
    subst Q (sym told) (λ e. malformed_before bs p.len (subst P is (clean_form bs some)) within not_whole)

pub place_fault_cut : (bs : List ℕ) (g f : LexFault) → form bs ≡ Err g → 0 < length bs → g.at ≤ length bs → (utf8_valid_len (take g.at bs) ≡ g.at → ⊥)
    → f ≡ record { kind = BadUtf8; at = utf8_valid_len (take g.at bs) } → IsUtf8Place bs f
place_fault_cut bs g f is some within not_whole told =
    let P : Result Piece LexFault → Type 0 = λ r. EndsClean bs r in
    let Q : LexFault → Type 0 = λ h. IsUtf8Place bs h in
    let clean : EndsClean bs (Err g) = subst P is (clean_form bs some) in
    subst Q (sym told) (λ e. malformed_before bs g.at clean.0 within not_whole)

pub place_fault : (bs : List ℕ) (g : LexFault) → form bs ≡ Err g → 0 < length bs → IsUtf8Place bs g
place_fault bs g is some =
    let P : Result Piece LexFault → Type 0 = λ r. EndsClean bs r in
    let clean : EndsClean bs (Err g) = subst P is (clean_form bs some) in clean.1

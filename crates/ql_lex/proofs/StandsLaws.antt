-- A piece of the grammar is what the forms take from the front.
use Rattle.std.proofs.Common.{◌≡◌, ℕ, zero, suc, ◌+◌, ◌-◌, ◌<◌, ◌≤◌, ⊎_elim, Bool, true, false, if◌then◌else◌, ◌&&◌, ◌||◌, nat_lt, nat_eq, List, [], ◌∷◌, ◌++◌, length, take, drop, get_or, Option, Some, None, Result, Ok, codes, refl, sym, ◌∙◌, ap, subst, arith, append_assoc, take_at, length-append}
use Rattle.std.specs.Prelude.{◌==◌, not, encode_utf8, encode_utf8_all, slice_index}
use Rattle.std.specs.List.{Contains, list_all, list_any, starts_with}
use Rattle.std.specs.Option.{option_map_or}
use Rattle.std.specs.Char.{is_ascii_digit, is_ascii_alphabetic}
use Rattle.std.specs.Str.{all_scalars}
use Rattle.std.specs.Cmp.Lexicographic.{pointwise}
use Rattle.std.proofs.lemmas.Bool.{cases_lt, and_parts, false≢true, not-true, or_from}
use Rattle.std.proofs.lemmas.Bool.Decides.{nat_tests}
use Rattle.std.proofs.lemmas.List.{drop_at}
use Rattle.unicode_ident.specs.Ident.{is_xid_start, is_xid_continue}
use Rattle.unicode_ident.proofs.IdentLemmas.{is_xid_start-ascii}
use Rattle.bstr.specs.Utf8.{Decoded, decoded}
use Rattle.bstr.proofs.lemmas.EncodeLemmas.{decoded-encode}
use Rattle.mof_metamodel.specs.Characters.{is_blank}
use Rattle.ql_lex.specs.declared.limits.TheConstants.{MAX_INTEGER}
use Rattle.ql_lex.specs.declared.token.TokenKind.{TokenKind}
use Rattle.ql_lex.specs.declared.token.TokenKind.TheVariants as kinds
use Rattle.ql_lex.specs.declared.fault.LexFault.{LexFault}
use Rattle.ql_lex.specs.declared.fault.LexKind.TheVariants.{OpenString, OpenComment, BadChar, BigNumber}
use Rattle.ql_lex.specs.declared.piece.Piece.{Piece}
use Rattle.ql_lex.specs.Forms.{form, fault, token, nothing, front_character, front_width, blank_len, begins_line_comment, line_comment, line_len, begins_block_comment, block_comment, comment_end, string_end, misfit_from, closed, text, begins_quoted, number, decimal, digits_len, name, name_len, step_len, begins_name, continues_name, sign, begins_long_sign, begins_short_sign}
use Rattle.ql_lex.specs.Tokens.{AreBlanks, IsLineComment, IsBlockComment, IsQuotation, IsNumber, IsWord, IsShortSign, Stands, Blanks, LineComment, BlockComment, QuotedName, String, Digits, Word, LongSign, ShortSign, word_kind, long_signs, short_signs}
use Rattle.ql_lex.proofs.Laws.{name_len-step, name_len-end, width-some}
use Rattle.ql_lex.proofs.PlaceLaws.{start_of}
use Rattle.ql_lex.proofs.RunLaws.{run_counted, comment_counted, string_counted, quotable_unclosed, quotable_fits, ascii_front}

-- the piece of this kind and of so many bytes
abbrev pub taken : Option TokenKind → List ℕ → Result Piece LexFault
taken kind front = Ok (record { kind = kind; len = length front })

skipped : {A : Type 0} (t : Bool) (x y : A) → t ≡ false → (if t then x else y) ≡ y
skipped true x y e = absurd (false≢true (sym e))
skipped false x y e = refl

found : {A : Type 0} (t : Bool) (x y : A) → t ≡ true → (if t then x else y) ≡ x
found true x y e = refl
found false x y e = absurd (false≢true e)

-- ---- which forms do not begin with a byte

starts_not : (s : ℕ) (more : List ℕ) (b : ℕ) (xs : List ℕ) → nat_eq s b ≡ false → starts_with nat_eq (b ∷ xs) (s ∷ more) ≡ false
starts_not s more b xs e = ap (λ t. t && pointwise nat_eq more (take (length more) xs)) e

no_line_comment : (b : ℕ) (xs : List ℕ) → nat_eq 45 b ≡ false → nat_eq 47 b ≡ false → begins_line_comment (b ∷ xs) ≡ false
no_line_comment b xs dash slash =
    or_from _ _ (starts_not 45 (45 ∷ []) b xs dash) (starts_not 47 (47 ∷ []) b xs slash)

-- the forms behind blanks, comments, quoted names and strings
abbrev others : List ℕ → Result Piece LexFault
others bs = if is_ascii_digit (slice_index bs 0) then number bs else if begins_name bs then name bs else sign bs

form_of_others : (bs : List ℕ) → is_blank (slice_index bs 0) ≡ false → begins_line_comment bs ≡ false → begins_block_comment bs ≡ false → begins_quoted bs ≡ false
    → (slice_index bs 0 == 39) ≡ false → form bs ≡ others bs
unfolding form
form_of_others bs blank line block quoted quote =
    skipped (is_blank (slice_index bs 0)) (nothing (blank_len bs)) _ blank
    ∙ skipped (begins_line_comment bs) (line_comment bs) _ line
    ∙ skipped (begins_block_comment bs) (block_comment bs) _ block
    ∙ skipped (begins_quoted bs) (text kinds.Quoted 2 bs) _ quoted
    ∙ skipped (slice_index bs 0 == 39) (text kinds.Str 1 bs) _ quote

-- ---- blanks and comments

first_passes : (p : ℕ → Bool) (front rest : List ℕ) → 0 < length front → list_all p front ≡ true → p (slice_index (front ++ rest) 0) ≡ true
first_passes p [] rest some all = absurd (omega arith)
first_passes p (x ∷ xs) rest some all = (and_parts (p x) (list_all p xs) all).0

form_blanks : (front rest : List ℕ) → AreBlanks front rest → form (front ++ rest) ≡ taken None front
unfolding form
form_blanks front rest r =
    found (is_blank (slice_index (front ++ rest) 0)) (nothing (blank_len (front ++ rest))) _ (first_passes is_blank front rest r.some r.run.all)
    ∙ ap nothing (run_counted is_blank front rest r.run)

dashed : (xs : List ℕ) → form (45 ∷ 45 ∷ xs) ≡ nothing (2 + line_len xs)
unfolding form
dashed xs = refl

slashed : (xs : List ℕ) → form (47 ∷ 47 ∷ xs) ≡ nothing (2 + line_len xs)
unfolding form
slashed xs = refl

form_line : (front rest : List ℕ) → IsLineComment front rest → form (front ++ rest) ≡ taken None front
form_line front rest r =
    ⊎_elim
    (λ (e : r.opening ≡ codes "--"). by (codes "--") e dashed)
    (λ (e : r.opening ≡ codes "//"). by (codes "//") e slashed)
    r.opens
  where
    by : (opening : List ℕ) → r.opening ≡ opening → ((xs : List ℕ) → form (opening ++ xs) ≡ nothing (length opening + line_len xs)) → form (front ++ rest) ≡ taken None front
    by opening e counts =
        let is : front ≡ opening ++ r.line = r.front_is ∙ ap (λ xs. xs ++ r.line) e in
        let len : length front ≡ length opening + length r.line = ap length is ∙ length-append opening r.line in
        ap form (ap (λ xs. xs ++ rest) is ∙ append_assoc opening r.line rest)
        ∙ counts (r.line ++ rest)
        ∙ ap nothing (ap (λ n. length opening + n) (run_counted (λ b. not (b == 10)) r.line rest r.run) ∙ sym len)

starred : (xs : List ℕ) → form (47 ∷ 42 ∷ xs) ≡ option_map_or (λ n. nothing (2 + n)) (comment_end 0 false xs) (fault OpenComment 0)
unfolding form
starred xs = refl

form_block : (front rest : List ℕ) → IsBlockComment front → form (front ++ rest) ≡ taken None front
form_block front rest r =
    let body : List ℕ = r.inside ++ codes "*/" in
    let is : front ++ rest ≡ 47 ∷ 42 ∷ (r.inside ++ 42 ∷ (47 ∷ rest)) =
    ap (λ xs. xs ++ rest) r.front_is ∙ append_assoc (codes "/*") body rest ∙ ap (λ xs. codes "/*" ++ xs) (append_assoc r.inside (codes "*/") rest) in
    let len : length front ≡ 2 + (0 + length r.inside + 2) =
    ap length r.front_is ∙ length-append (codes "/*") body ∙ ap (λ n. 2 + n) (length-append r.inside (codes "*/")) ∙ omega arith in
    ap form is ∙ starred (r.inside ++ 42 ∷ (47 ∷ rest))
    ∙ ap (λ (o : Option ℕ). option_map_or (λ n. nothing (2 + n)) o (fault OpenComment 0)) (comment_counted r.inside rest 0 false refl r.first)
    ∙ ap nothing (sym len)

-- ---- strings and quoted names

closed_counted : (kind : TokenKind) (opening inside rest : List ℕ) → misfit_from 0 false inside ≡ None
    → closed kind (length opening) (inside ++ 39 ∷ rest) (0 + length inside + 1) ≡ token kind (length opening + (0 + length inside + 1))
closed_counted kind opening inside rest fits =
    let there : take (0 + length inside + 1 - 1) (inside ++ 39 ∷ rest) ≡ inside = take_at inside (39 ∷ rest) (0 + length inside + 1 - 1) (omega arith) in
    ap (λ (o : Option ℕ). option_map_or (λ k. fault BadChar (length opening + k)) o (token kind (length opening + (0 + length inside + 1))))
    (ap (misfit_from 0 false) there ∙ fits)

text_counted : (kind : TokenKind) (opening front rest : List ℕ) → (r : IsQuotation opening front)
    → option_map_or (closed kind (length opening) (r.inside ++ 39 ∷ rest)) (string_end 0 false (r.inside ++ 39 ∷ rest)) (fault OpenString 0) ≡ taken (Some kind) front
text_counted kind opening front rest r =
    let len : length front ≡ length opening + (0 + length r.inside + 1) =
    ap length r.front_is ∙ length-append opening (r.inside ++ codes "'") ∙ ap (λ n. length opening + n) (length-append r.inside (codes "'") ∙ omega arith) in
    ap (λ (o : Option ℕ). option_map_or (closed kind (length opening) (r.inside ++ 39 ∷ rest)) o (fault OpenString 0))
    (string_counted r.inside rest 0 false (quotable_unclosed r.inside r.quotable))
    ∙ closed_counted kind opening r.inside rest (quotable_fits r.inside r.quotable 0)
    ∙ ap (token kind) (sym len)

quotation_is : (opening front rest : List ℕ) (r : IsQuotation opening front) → front ++ rest ≡ opening ++ (r.inside ++ 39 ∷ rest)
quotation_is opening front rest r =
    ap (λ xs. xs ++ rest) r.front_is ∙ append_assoc opening (r.inside ++ codes "'") rest ∙ ap (λ xs. opening ++ xs) (append_assoc r.inside (codes "'") rest)

quoted : (xs : List ℕ) → form (95 ∷ 39 ∷ xs) ≡ option_map_or (closed kinds.Quoted 2 xs) (string_end 0 false xs) (fault OpenString 0)
unfolding form
quoted xs = refl

quote : (xs : List ℕ) → form (39 ∷ xs) ≡ option_map_or (closed kinds.Str 1 xs) (string_end 0 false xs) (fault OpenString 0)
unfolding form
quote xs = refl

form_quoted : (front rest : List ℕ) → IsQuotation (codes "_'") front → form (front ++ rest) ≡ taken (Some kinds.Quoted) front
form_quoted front rest r = ap form (quotation_is (codes "_'") front rest r) ∙ quoted (r.inside ++ 39 ∷ rest) ∙ text_counted kinds.Quoted (codes "_'") front rest r

form_string : (front rest : List ℕ) → IsQuotation (codes "'") front → form (front ++ rest) ≡ taken (Some kinds.Str) front
form_string front rest r = ap form (quotation_is (codes "'") front rest r) ∙ quote (r.inside ++ 39 ∷ rest) ∙ text_counted kinds.Str (codes "'") front rest r

-- ---- numbers

digits_others : (b : ℕ) (xs : List ℕ) → is_ascii_digit b ≡ true → form (b ∷ xs) ≡ number (b ∷ xs)
digits_others b xs digit =
    let blank : is_blank b ≡ false = grind (arith, nat_tests) in
    let dash : nat_eq 45 b ≡ false = grind (arith, nat_tests) in
    let slash : nat_eq 47 b ≡ false = grind (arith, nat_tests) in
    let bar : nat_eq 95 b ≡ false = grind (arith, nat_tests) in
    let quote : (b == 39) ≡ false = grind (arith, nat_tests) in
    form_of_others (b ∷ xs) blank (no_line_comment b xs dash slash) (starts_not 47 (42 ∷ []) b xs slash) (starts_not 95 (39 ∷ []) b xs bar) quote
    ∙ found (is_ascii_digit b) (number (b ∷ xs)) _ digit

form_number : (front rest : List ℕ) → IsNumber front rest → form (front ++ rest) ≡ taken (Some kinds.Number) front
form_number [] rest r = let some : 0 < 0 = r.some in absurd (omega (arith, some))
form_number (b ∷ bs) rest r =
    let n : digits_len (b ∷ (bs ++ rest)) ≡ length (b ∷ bs) = run_counted is_ascii_digit (b ∷ bs) rest r.run in
    let there : take (digits_len (b ∷ (bs ++ rest))) (b ∷ (bs ++ rest)) ≡ b ∷ bs = take_at (b ∷ bs) rest (digits_len (b ∷ (bs ++ rest))) (sym n) in
    let small : nat_lt MAX_INTEGER (decimal 0 (take (digits_len (b ∷ (bs ++ rest))) (b ∷ (bs ++ rest)))) ≡ false =
    ap (λ xs. nat_lt MAX_INTEGER (decimal 0 xs)) there ∙ no_less MAX_INTEGER (decimal 0 (b ∷ bs)) r.within in
    digits_others b (bs ++ rest) (and_parts _ _ r.run.all).0
    ∙ skipped (nat_lt MAX_INTEGER (decimal 0 (take (digits_len (b ∷ (bs ++ rest))) (b ∷ (bs ++ rest))))) (fault BigNumber 0) _ small
    ∙ ap (token kinds.Number) n
  where
    no_less : (a b : ℕ) → b ≤ a → nat_lt a b ≡ false
    no_less a b h = grind (arith, nat_tests)

-- ---- names

decoded_some : (bs : List ℕ) (c n : ℕ) → decoded bs ≡ record { char = Some c; size = n } → 0 < length bs
decoded_some [] c n e = let no : None ≡ Some c = ap (λ (p : Decoded). p.char) e in cc
decoded_some (b ∷ bs) c n e = omega arith

names_counted : (cs rest : List ℕ) → all_scalars cs ≡ true → list_all is_xid_continue cs ≡ true → continues_name rest ≡ false
    → name_len (encode_utf8_all cs ++ rest) 0 ≡ length (encode_utf8_all cs)
unfolding step_len front_character front_width
names_counted [] rest scalars all ends = name_len-end rest (ap (λ t. if t then front_width rest else 0) ends)
names_counted (c ∷ cs) rest scalars all ends =
    let both = and_parts _ (all_scalars cs) scalars in
    let goes = and_parts (is_xid_continue c) (list_all is_xid_continue cs) all in
    let k : ℕ = length (encode_utf8 c) in
    let bs : List ℕ = encode_utf8 c ++ (encode_utf8_all cs ++ rest) in
    let is : encode_utf8_all (c ∷ cs) ++ rest ≡ bs = append_assoc (encode_utf8 c) (encode_utf8_all cs) rest in
    let read : decoded bs ≡ record { char = Some c; size = k } = decoded-encode c (encode_utf8_all cs ++ rest) both.0 in
    let continuing : continues_name bs ≡ true = ap (λ (p : Decoded). option_map_or is_xid_continue p.char false) read ∙ goes.0 in
    let step : step_len bs ≡ k = ap (λ t. if t then front_width bs else 0) continuing ∙ ap (λ (p : Decoded). p.size) read in
    let long : length bs ≡ k + length (encode_utf8_all cs ++ rest) = length-append (encode_utf8 c) (encode_utf8_all cs ++ rest) in
    let more : 0 < length bs = decoded_some bs c k read in
    let wide : 0 < front_width bs = width-some bs more in
    let width : front_width bs ≡ k = ap (λ (p : Decoded). p.size) read in
    let some : 0 < k = omega (arith, wide, width) in
    ap (λ xs. name_len xs 0) is
    ∙ name_len-step bs k step some (omega (arith, long))
    ∙ ap (λ xs. k + name_len xs 0) (drop_at (encode_utf8 c) (encode_utf8_all cs ++ rest) k refl)
    ∙ ap (λ n. k + n) (names_counted cs rest both.1 goes.1 ends)
    ∙ sym (length-append (encode_utf8 c) (encode_utf8_all cs))

-- a byte with which a name begins
record IsNameByte (b : ℕ) : Type 0 where
  blank : is_blank b ≡ false
  dash : nat_eq 45 b ≡ false
  slash : nat_eq 47 b ≡ false
  quote : (b == 39) ≡ false
  digit : is_ascii_digit b ≡ false

name_byte : (b : ℕ) (bs : List ℕ) (c : ℕ) → front_character (b ∷ bs) ≡ Some c → (is_xid_start c || (c == 95)) ≡ true → IsNameByte b
name_byte b bs c read begins = ⊎_elim
    (λ (low : b < 128).
    let same : b ≡ c = some_is b c (sym (ascii_front b bs low) ∙ read) in
    let letter : (is_ascii_alphabetic b || (b == 95)) ≡ true =
    ap (λ t. t || (b == 95)) (sym (is_xid_start-ascii b low)) ∙ ap (λ x. is_xid_start x || (x == 95)) same ∙ begins in
    record {
      blank = grind (arith, nat_tests);
      dash = grind (arith, nat_tests);
      slash = grind (arith, nat_tests);
      quote = grind (arith, nat_tests);
      digit = grind (arith, nat_tests);
    })
    (λ (high : 128 ≤ b).
    let big : 192 ≤ b = start_of b bs c read high in
    record {
      blank = grind (arith, nat_tests);
      dash = grind (arith, nat_tests);
      slash = grind (arith, nat_tests);
      quote = grind (arith, nat_tests);
      digit = grind (arith, nat_tests);
    })
    (cases_lt b 128)
  where
    some_is : (a b : ℕ) → Some a ≡ Some b → a ≡ b
    some_is a b e = cc

name_others : (bs : List ℕ) (c : ℕ) → front_character bs ≡ Some c → (is_xid_start c || (c == 95)) ≡ true → begins_quoted bs ≡ false → form bs ≡ name bs
unfolding front_character
name_others [] c read begins unquoted = cc
name_others (b ∷ bs) c read begins unquoted =
    let first = name_byte b bs c read begins in
    let starts : begins_name (b ∷ bs) ≡ true = ap (λ (o : Option ℕ). option_map_or (λ c. is_xid_start c || (c == 95)) o false) read ∙ begins in
    form_of_others (b ∷ bs) first.blank (no_line_comment b bs first.dash first.slash) (starts_not 47 (42 ∷ []) b bs first.slash) unquoted first.quote
    ∙ skipped (is_ascii_digit b) (number (b ∷ bs)) _ first.digit
    ∙ found (begins_name (b ∷ bs)) (name (b ∷ bs)) (sign (b ∷ bs)) starts

form_word : (front rest : List ℕ) → IsWord front rest → form (front ++ rest) ≡ taken (Some (word_kind front)) front
unfolding front_character front_width
form_word front rest r =
    let both = and_parts _ (all_scalars r.others) r.scalars in
    let k : ℕ = length (encode_utf8 r.first) in
    let more : List ℕ = encode_utf8_all r.others ++ rest in
    let bs : List ℕ = front ++ rest in
    let is : bs ≡ encode_utf8 r.first ++ more = ap (λ xs. xs ++ rest) r.front_is ∙ append_assoc (encode_utf8 r.first) (encode_utf8_all r.others) rest in
    let read : decoded bs ≡ record { char = Some r.first; size = k } = ap decoded is ∙ decoded-encode r.first more both.0 in
    let width : front_width bs ≡ k = ap (λ (p : Decoded). p.size) read in
    let behind : drop k bs ≡ more = ap (drop k) is ∙ drop_at (encode_utf8 r.first) more k refl in
    let len : front_width bs + name_len (drop (front_width bs) bs) 0 ≡ length front =
    ap (λ n. n + name_len (drop n bs) 0) width ∙ ap (λ xs. k + name_len xs 0) behind
    ∙ ap (λ n. k + n) (names_counted r.others rest both.1 r.goes_on r.ends)
    ∙ sym (length-append (encode_utf8 r.first) (encode_utf8_all r.others)) ∙ ap length (sym r.front_is) in
    name_others bs r.first (ap (λ (p : Decoded). p.char) read) r.begins r.unquoted
    ∙ ap (λ n. token (word_kind (take n bs)) n) len
    ∙ ap (λ xs. token (word_kind xs) (length front)) (take_at front rest (length front) refl)

-- ---- signs

-- what begins no name, as it is ASCII and no letter
no_name : (b : ℕ) (xs : List ℕ) → b < 128 → (is_ascii_alphabetic b || (b == 95)) ≡ false → begins_name (b ∷ xs) ≡ false
no_name b xs low other =
    ap (λ (o : Option ℕ). option_map_or (λ c. is_xid_start c || (c == 95)) o false) (ascii_front b xs low)
    ∙ ap (λ t. t || (b == 95)) (is_xid_start-ascii b low) ∙ other

-- a byte with which a sign begins
abbrev is_sign_byte : ℕ → Bool
is_sign_byte b = not (is_blank b) && (not (nat_eq 47 b) && (not (nat_eq 95 b) && (not (b == 39) && (not (is_ascii_digit b)
    && (nat_lt b 128 && not (is_ascii_alphabetic b || (b == 95)))))))

sign_others : (b : ℕ) (xs : List ℕ) → is_sign_byte b ≡ true → begins_line_comment (b ∷ xs) ≡ false → form (b ∷ xs) ≡ sign (b ∷ xs)
sign_others b xs byte plain =
    let a = and_parts _ _ byte in
    let c = and_parts _ _ a.1 in
    let d = and_parts _ _ c.1 in
    let e = and_parts _ _ d.1 in
    let f = and_parts _ _ e.1 in
    let g = and_parts _ _ f.1 in
    let low : b < 128 = low_by (g.0) in
    form_of_others (b ∷ xs) (not-true _ a.0) plain (starts_not 47 (42 ∷ []) b xs (not-true _ c.0)) (starts_not 95 (39 ∷ []) b xs (not-true _ d.0)) (not-true _ e.0)
    ∙ skipped (is_ascii_digit b) (number (b ∷ xs)) _ (not-true _ f.0)
    ∙ skipped (begins_name (b ∷ xs)) (name (b ∷ xs)) (sign (b ∷ xs)) (no_name b xs low (not-true _ g.1))
  where
    low_by : nat_lt b 128 ≡ true → b < 128
    low_by h = grind (arith, nat_tests)

long_counted : (sign_bytes xs : List ℕ) (b : ℕ) (more : List ℕ) → sign_bytes ≡ b ∷ more → is_sign_byte b ≡ true → begins_line_comment (b ∷ (more ++ xs)) ≡ false
    → begins_long_sign (b ∷ (more ++ xs)) ≡ true → length more ≡ 1 → form (sign_bytes ++ xs) ≡ taken (Some kinds.Sign) sign_bytes
long_counted sign_bytes xs b more is byte plain long one =
    ap (λ ys. form (ys ++ xs)) is ∙ sign_others b (more ++ xs) byte plain
    ∙ found (begins_long_sign (b ∷ (more ++ xs))) (token kinds.Sign 2) _ long
    ∙ ap (token kinds.Sign) (sym (ap length is ∙ ap suc one))

form_long : (front rest : List ℕ) → Contains long_signs front → form (front ++ rest) ≡ taken (Some kinds.Sign) front
unfolding begins_long_sign
form_long front rest c = at c.0 c.1 c.2
  where
    at : (k : ℕ) → k < length long_signs → get_or long_signs k front ≡ front → form (front ++ rest) ≡ taken (Some kinds.Sign) front
    at zero below is = long_counted front rest 58 (58 ∷ []) (sym is) refl refl refl refl
    at (suc zero) below is = long_counted front rest 60 (62 ∷ []) (sym is) refl refl refl refl
    at (suc (suc zero)) below is = long_counted front rest 60 (61 ∷ []) (sym is) refl refl refl refl
    at (suc (suc (suc zero))) below is = long_counted front rest 62 (61 ∷ []) (sym is) refl refl refl refl
    at (suc (suc (suc (suc zero)))) below is = long_counted front rest 45 (62 ∷ []) (sym is) refl refl refl refl
    at (suc (suc (suc (suc (suc k))))) below is = absurd (omega (arith, below))

listed_passes : (p : ℕ → Bool) (xs : List ℕ) (x k : ℕ) → list_all p xs ≡ true → k < length xs → get_or xs k x ≡ x → p x ≡ true
listed_passes p [] x k all below is = absurd (omega arith)
listed_passes p (s ∷ xs) x zero all below is = subst (λ (y : ℕ). p y ≡ true) is (and_parts _ _ all).0
listed_passes p (s ∷ xs) x (suc k) all below is = listed_passes p xs x k (and_parts _ _ all).1 (omega (arith, below)) is

listed_found : (xs : List ℕ) (x k : ℕ) → k < length xs → get_or xs k x ≡ x → list_any (λ s. s == x) xs ≡ true
listed_found [] x k below is = absurd (omega arith)
listed_found (s ∷ xs) x zero below is = let same : (s == x) ≡ true = grind (arith, nat_tests) in ap (λ t. t || list_any (λ s. s == x) xs) same
listed_found (s ∷ xs) x (suc k) below is = later (s == x) (listed_found xs x k (omega (arith, below)) is)
  where
    later : (t : Bool) {u : Bool} → u ≡ true → (t || u) ≡ true
    later true e = refl
    later false e = e

form_short : (front rest : List ℕ) → IsShortSign front rest → form (front ++ rest) ≡ taken (Some kinds.Sign) front
unfolding begins_short_sign
form_short front rest r =
    let is : front ++ rest ≡ r.sign ∷ rest = ap (λ xs. xs ++ rest) r.front_is in
    let c : Contains short_signs r.sign = r.listed in
    let byte : is_sign_byte r.sign ≡ true = listed_passes is_sign_byte short_signs r.sign c.0 refl c.1 c.2 in
    let short : begins_short_sign (r.sign ∷ rest) ≡ true = listed_found short_signs r.sign c.0 c.1 c.2 in
    ap form is ∙ sign_others r.sign rest byte (ap begins_line_comment (sym is) ∙ r.no_comment)
    ∙ skipped (begins_long_sign (r.sign ∷ rest)) (token kinds.Sign 2) _ (ap begins_long_sign (sym is) ∙ r.longest)
    ∙ found (begins_short_sign (r.sign ∷ rest)) (token kinds.Sign 1) _ short
    ∙ ap (token kinds.Sign) (sym (ap length r.front_is))

-- ---- all pieces

pub form_stands : (kind : Option TokenKind) (front rest : List ℕ) → Stands kind front rest → form (front ++ rest) ≡ taken kind front
form_stands _ _ _ (Blanks front rest r) = form_blanks front rest r
form_stands _ _ _ (LineComment front rest r) = form_line front rest r
form_stands _ _ _ (BlockComment front rest r) = form_block front rest r
form_stands _ _ _ (QuotedName front rest r) = form_quoted front rest r
form_stands _ _ _ (String front rest r) = form_string front rest r
form_stands _ _ _ (Digits front rest r) = form_number front rest r
form_stands _ _ _ (Word front rest r) = form_word front rest r
form_stands _ _ _ (LongSign front rest r) = form_long front rest r
form_stands _ _ _ (ShortSign front rest r) = form_short front rest r

word_some : (front rest : List ℕ) → IsWord front rest → 0 < length front
word_some front rest w =
    let both = and_parts _ (all_scalars w.others) w.scalars in
    decoded_some front w.first (length (encode_utf8 w.first)) (ap decoded w.front_is ∙ decoded-encode w.first (encode_utf8_all w.others) both.0)

-- a piece takes at least one byte
pub stands_some : (kind : Option TokenKind) (front rest : List ℕ) → Stands kind front rest → 0 < length front
stands_some _ _ _ (Blanks front rest r) = r.some
stands_some _ _ _ (LineComment front rest r) = ⊎_elim
    (λ (e : r.opening ≡ codes "--"). let long : length r.opening ≡ 2 = ap length e in omega (arith, ap length r.front_is, length-append r.opening r.line, long))
    (λ (e : r.opening ≡ codes "//"). let long : length r.opening ≡ 2 = ap length e in omega (arith, ap length r.front_is, length-append r.opening r.line, long))
    r.opens
stands_some _ _ _ (BlockComment front rest r) = omega (arith, ap length r.front_is, length-append (codes "/*") (r.inside ++ codes "*/"))
stands_some _ _ _ (QuotedName front rest r) = omega (arith, ap length r.front_is, length-append (codes "_'") (r.inside ++ codes "'"))
stands_some _ _ _ (String front rest r) = omega (arith, ap length r.front_is, length-append (codes "'") (r.inside ++ codes "'"))
stands_some _ _ _ (Digits front rest r) = r.some
stands_some _ _ _ (Word front rest r) = word_some front rest r
stands_some _ _ _ (LongSign front rest r) = long_some front r
  where
    long_some : (front : List ℕ) → Contains long_signs front → 0 < length front
    long_some front c = at c.0 c.1 c.2
      where
        at : (k : ℕ) → k < length long_signs → get_or long_signs k front ≡ front → 0 < length front
        at zero below is = omega (arith, ap length is)
        at (suc zero) below is = omega (arith, ap length is)
        at (suc (suc zero)) below is = omega (arith, ap length is)
        at (suc (suc (suc zero))) below is = omega (arith, ap length is)
        at (suc (suc (suc (suc zero)))) below is = omega (arith, ap length is)
        at (suc (suc (suc (suc (suc k))))) below is = absurd (omega (arith, below))
stands_some _ _ _ (ShortSign front rest r) = omega (arith, ap length r.front_is)

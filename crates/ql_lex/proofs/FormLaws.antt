-- What the forms take from the front of bytes is a piece of the grammar.
use Rattle.std.proofs.Common.{◌≡◌, ℕ, zero, suc, ◌+◌, ◌-◌, ◌<◌, ◌≤◌, ◌⊎◌, inl, inr, ⊎_elim, Bool, true, false, if◌then◌else◌, ◌&&◌, ◌||◌, nat_lt, nat_eq, List, [], ◌∷◌, ◌++◌, length, take, drop, get_or, Option, Some, None, Result, Ok, Err, codes, refl, sym, ◌∙◌, ap, subst, arith, append_assoc, take-append-drop, take_at, length-take, length-drop, length-append}
use Rattle.std.specs.Prelude.{◌==◌, not, encode_utf8, encode_utf8_all, slice_index}
use Rattle.std.specs.List.{Contains, list_all, list_any, prefix_len, starts_with}
use Rattle.std.specs.Option.{option_map_or}
use Rattle.std.specs.Char.{is_ascii_digit}
use Rattle.std.specs.Str.{all_scalars}
use Rattle.std.specs.Cmp.Lexicographic.{bytes_decides}
use Rattle.std.proofs.lemmas.Bool.{or_cases, false≢true, ltb-false, and_from}
use Rattle.std.proofs.lemmas.Bool.Decides.{nat_tests}
use Rattle.std.proofs.lemmas.List.{drop_at, length-take-le}
use Rattle.std.proofs.lemmas.List.Sums.{prefix_len-le-length}
use Rattle.unicode_ident.specs.Ident.{is_xid_start, is_xid_continue}
use Rattle.bstr.specs.Utf8.{decoded}
use Rattle.bstr.proofs.lemmas.SoundLemmas.{SpellsChar, SpellsChar-decoded}
use Rattle.mof_metamodel.specs.Characters.{is_blank}
use Rattle.ql_lex.specs.declared.limits.TheConstants.{MAX_INTEGER}
use Rattle.ql_lex.specs.declared.token.TokenKind.{TokenKind}
use Rattle.ql_lex.specs.declared.token.TokenKind.TheVariants as kinds
use Rattle.ql_lex.specs.declared.fault.LexFault.{LexFault}
use Rattle.ql_lex.specs.declared.fault.LexKind.TheVariants.{BadUtf8, BadChar, OpenString, OpenComment, BigNumber}
use Rattle.ql_lex.specs.declared.piece.Piece.{Piece}
use Rattle.ql_lex.specs.Forms.{form, fault, token, nothing, front_character, front_width, blank_len, begins_line_comment, line_comment, begins_block_comment, block_comment, comment_end, string_end, misfit_from, closed, text, begins_quoted, number, decimal, digits_len, name, name_len, step_len, begins_name, continues_name, sign, begins_long_sign, begins_short_sign}
use Rattle.ql_lex.specs.Tokens.{IsRun, IsQuotation, IsWord, Stands, Blanks, LineComment, BlockComment, QuotedName, String, Digits, Word, LongSign, ShortSign, long_signs, short_signs}
use Rattle.ql_lex.proofs.Laws.{width-some, name_len-step, name_len-end, prefix_len-some}
use Rattle.ql_lex.proofs.PlaceLaws.{character_of, one_of_five}
use Rattle.ql_lex.proofs.RunLaws.{IsEnded, IsClosedAt, run_of, comment_ended, string_closed_at, quotable_of}

-- the piece that a form takes, and what is behind it
pub record IsSplit (bs : List ℕ) (p : Piece) : Type 0 where
  pub front : List ℕ
  pub rest : List ℕ
  pub is : bs ≡ front ++ rest
  pub len : length front ≡ p.len
  pub some : 0 < length front
  pub stands : Stands p.kind front rest

abbrev pub Splits : List ℕ → Result Piece LexFault → Type 0
Splits bs (Ok p) = IsSplit bs p
Splits bs (Err f) = Unit {0}

splits_if : (bs : List ℕ) (t : Bool) (x y : Result Piece LexFault) → (t ≡ true → Splits bs x) → (t ≡ false → Splits bs y) → Splits bs (if t then x else y)
splits_if bs true x y one other = one refl
splits_if bs false x y one other = other refl

-- what begins with two bytes
opened : (bs opening : List ℕ) → starts_with nat_eq bs opening ≡ true → take (length opening) bs ≡ opening
opened bs opening e = sym ((bytes_decides opening (take (length opening) bs)).0 e)

two_long : (bs opening : List ℕ) → take 2 bs ≡ opening → length opening ≡ 2 → 2 ≤ length bs
two_long bs opening e two = let long : length (take 2 bs) ≡ 2 = ap length e ∙ two in omega (arith, long, length-take 2 bs)

-- ---- runs

splits_run : (p : ℕ → Bool) (bs : List ℕ) (kind : Option TokenKind) → 0 < length bs → p (get_or bs 0 0) ≡ true
    → (0 < length (take (prefix_len p bs) bs) → IsRun p (take (prefix_len p bs) bs) (drop (prefix_len p bs) bs)
    → Stands kind (take (prefix_len p bs) bs) (drop (prefix_len p bs) bs))
    → Splits bs (Ok (record { kind = kind; len = prefix_len p bs }))
splits_run p bs kind some e make =
    let within : prefix_len p bs ≤ length bs = prefix_len-le-length p bs in
    let len : length (take (prefix_len p bs) bs) ≡ prefix_len p bs = length-take-le (prefix_len p bs) bs within in
    let more : 0 < prefix_len p bs = prefix_len-some p bs some e in
    let first : 0 < length (take (prefix_len p bs) bs) = omega (arith, len, more) in
    record {
      front = take (prefix_len p bs) bs;
      rest = drop (prefix_len p bs) bs;
      is = sym (take-append-drop (prefix_len p bs) bs);
      len = len;
      some = first;
      stands = make first (run_of p bs);
    }

splits_blanks : (bs : List ℕ) → 0 < length bs → is_blank (slice_index bs 0) ≡ true → Splits bs (nothing (blank_len bs))
splits_blanks bs some e = splits_run is_blank bs None some e (λ first run. Blanks _ _ (record { some = first; run = run }))

splits_number : (bs : List ℕ) → 0 < length bs → is_ascii_digit (slice_index bs 0) ≡ true → Splits bs (number bs)
splits_number bs some e =
    splits_if bs (nat_lt MAX_INTEGER (decimal 0 (take (digits_len bs) bs))) (fault BigNumber 0) (token kinds.Number (digits_len bs)) (λ big. tt)
    (λ small. splits_run is_ascii_digit bs (Some kinds.Number) some e
    (λ first run. Digits _ _ (record { some = first; run = run; within = ltb-false MAX_INTEGER _ small })))

-- ---- comments

splits_line : (bs : List ℕ) → begins_line_comment bs ≡ true → Splits bs (line_comment bs)
splits_line bs e =
    let opens : (take 2 bs ≡ codes "--") ⊎ (take 2 bs ≡ codes "//") =
    ⊎_elim (λ (one : starts_with nat_eq bs (codes "--") ≡ true). inl (opened bs (codes "--") one))
    (λ (other : starts_with nat_eq bs (codes "//") ≡ true). inr (opened bs (codes "//") other)) (or_cases _ _ e) in
    let two : 2 ≤ length bs =
    ⊎_elim (λ (one : take 2 bs ≡ codes "--"). two_long bs (codes "--") one refl) (λ (other : take 2 bs ≡ codes "//"). two_long bs (codes "//") other refl) opens in
    let n : ℕ = prefix_len (λ b. not (b == 10)) (drop 2 bs) in
    let within : n ≤ length (drop 2 bs) = prefix_len-le-length (λ b. not (b == 10)) (drop 2 bs) in
    let line : List ℕ = take n (drop 2 bs) in
    let len : length (take 2 bs ++ line) ≡ 2 + n = omega (arith, length-append (take 2 bs) line, length-take-le 2 bs two, length-take-le n (drop 2 bs) within) in
    record {
      front = take 2 bs ++ line;
      rest = drop n (drop 2 bs);
      is = sym (append_assoc (take 2 bs) line (drop n (drop 2 bs)) ∙ ap (λ xs. take 2 bs ++ xs) (take-append-drop n (drop 2 bs)) ∙ take-append-drop 2 bs);
      len = len;
      some = omega (arith, len);
      stands = LineComment _ _ (record { opening = take 2 bs; line = line; front_is = refl; opens = opens; run = run_of (λ b. not (b == 10)) (drop 2 bs) });
    }

splits_block : (bs : List ℕ) → begins_block_comment bs ≡ true → Splits bs (block_comment bs)
splits_block bs e = go (comment_end 0 false (drop 2 bs)) refl
  where
    go : (o : Option ℕ) → comment_end 0 false (drop 2 bs) ≡ o → Splits bs (option_map_or (λ n. nothing (2 + n)) o (fault OpenComment 0))
    go None is = tt
    go (Some n) is =
        let opens : take 2 bs ≡ codes "/*" = opened bs (codes "/*") e in
        let end : IsEnded (drop 2 bs) 0 false n = comment_ended (drop 2 bs) 0 false n is in
        let body : List ℕ = end.inside ++ codes "*/" in
        let cut : drop 2 bs ≡ body ++ end.rest = end.is ∙ sym (append_assoc end.inside (codes "*/") end.rest) in
        let long : length body ≡ length end.inside + 2 = length-append end.inside (codes "*/") in
        let len : length (codes "/*" ++ body) ≡ 2 + n = omega (arith, length-append (codes "/*") body, long, end.count) in
        record {
          front = codes "/*" ++ body;
          rest = end.rest;
          is = sym (take-append-drop 2 bs) ∙ ap (λ xs. xs ++ drop 2 bs) opens ∙ ap (λ xs. codes "/*" ++ xs) cut ∙ sym (append_assoc (codes "/*") body end.rest);
          len = len;
          some = omega (arith, len);
          stands = BlockComment _ _ (record { inside = end.inside; front_is = refl; first = end.first });
        }

-- ---- strings and quoted names

splits_closed : (kind : TokenKind) (opening bs : List ℕ) (n : ℕ) → take (length opening) bs ≡ opening
    → ((front rest : List ℕ) → IsQuotation opening front → Stands (Some kind) front rest)
    → IsClosedAt (drop (length opening) bs) 0 false n → Splits bs (closed kind (length opening) (drop (length opening) bs) n)
splits_closed kind opening bs n opens make end = go (misfit_from 0 false (take (n - 1) (drop (length opening) bs))) refl
  where
    go : (o : Option ℕ) → misfit_from 0 false (take (n - 1) (drop (length opening) bs)) ≡ o
        → Splits bs (option_map_or (λ k. fault BadChar (length opening + k)) o (token kind (length opening + n)))
    go (Some k) is = tt
    go None is =
        let inside : List ℕ = end.inside in
        let there : take (n - 1) (drop (length opening) bs) ≡ inside =
        ap (take (n - 1)) end.is ∙ take_at inside (39 ∷ end.rest) (n - 1) (omega (arith, end.count)) in
        let fits : misfit_from 0 false inside ≡ None = ap (misfit_from 0 false) (sym there) ∙ is in
        let body : List ℕ = inside ++ codes "'" in
        let cut : drop (length opening) bs ≡ body ++ end.rest = end.is ∙ sym (append_assoc inside (codes "'") end.rest) in
        let long : length body ≡ length inside + 1 = length-append inside (codes "'") in
        let len : length (opening ++ body) ≡ length opening + n = omega (arith, length-append opening body, long, end.count) in
        record {
          front = opening ++ body;
          rest = end.rest;
          is = sym (take-append-drop (length opening) bs) ∙ ap (λ xs. xs ++ drop (length opening) bs) opens ∙ ap (λ xs. opening ++ xs) cut
              ∙ sym (append_assoc opening body end.rest);
          len = len;
          some = omega (arith, length-append opening body, long);
          stands = make _ _ (record { inside = inside; front_is = refl; quotable = quotable_of inside end.unclosed fits });
        }

splits_text : (kind : TokenKind) (opening bs : List ℕ) → take (length opening) bs ≡ opening
    → ((front rest : List ℕ) → IsQuotation opening front → Stands (Some kind) front rest) → Splits bs (text kind (length opening) bs)
splits_text kind opening bs opens make = go (string_end 0 false (drop (length opening) bs)) refl
  where
    go : (o : Option ℕ) → string_end 0 false (drop (length opening) bs) ≡ o
        → Splits bs (option_map_or (closed kind (length opening) (drop (length opening) bs)) o (fault OpenString 0))
    go None is = tt
    go (Some n) is = splits_closed kind opening bs n opens make (string_closed_at (drop (length opening) bs) 0 false n is)

splits_quoted : (bs : List ℕ) → begins_quoted bs ≡ true → Splits bs (text kinds.Quoted 2 bs)
splits_quoted bs e = splits_text kinds.Quoted (codes "_'") bs (opened bs (codes "_'") e) QuotedName

splits_string : (bs : List ℕ) → 0 < length bs → (slice_index bs 0 == 39) ≡ true → Splits bs (text kinds.Str 1 bs)
splits_string [] some e = absurd (omega arith)
splits_string (b ∷ bs) some e =
    let quote : b ≡ 39 = grind (arith, nat_tests) in splits_text kinds.Str (codes "'") (b ∷ bs) (ap (λ x. x ∷ []) quote) String

-- ---- names

-- characters that go on with a name, as many as there are
record IsGoingOn (bs : List ℕ) : Type 0 where
  others : List ℕ
  rest : List ℕ
  is : bs ≡ encode_utf8_all others ++ rest
  len : length (encode_utf8_all others) ≡ name_len bs 0
  scalars : all_scalars others ≡ true
  all : list_all is_xid_continue others ≡ true
  ends : continues_name rest ≡ false

no_more : (bs : List ℕ) → continues_name bs ≡ false → IsGoingOn bs
unfolding step_len
no_more bs none =
    let still : step_len bs ≡ 0 = ap (λ t. if t then front_width bs else 0) none in
    record { others = []; rest = bs; is = refl; len = sym (name_len-end bs still); scalars = refl; all = refl; ends = none }

one_more : (bs : List ℕ) (c : ℕ) → front_character bs ≡ Some c → continues_name bs ≡ true → 0 < length bs
    → ((n : ℕ) → n ≡ front_width bs → IsGoingOn (drop n bs)) → IsGoingOn bs
unfolding front_character front_width step_len
one_more bs c found goes some later =
    let s : SpellsChar bs c (decoded bs).size = SpellsChar-decoded bs c found in
    let n : ℕ = (decoded bs).size in
    let r : IsGoingOn (drop n bs) = later n refl in
    let step : step_len bs ≡ n = ap (λ t. if t then front_width bs else 0) goes in
    let first : 0 < n = width-some bs some in
    let within : n ≤ length bs = omega (arith, ap length s.bytes, length-append (encode_utf8 c) (drop n bs), s.width) in
    let continuing : is_xid_continue c ≡ true = ap (λ (o : Option ℕ). option_map_or is_xid_continue o false) (sym found) ∙ goes in
    record {
      others = c ∷ r.others;
      rest = r.rest;
      is = s.bytes ∙ ap (λ xs. encode_utf8 c ++ xs) r.is ∙ sym (append_assoc (encode_utf8 c) (encode_utf8_all r.others) r.rest);
      len = length-append (encode_utf8 c) (encode_utf8_all r.others) ∙ ap (λ k. k + length (encode_utf8_all r.others)) s.width
          ∙ ap (λ k. n + k) r.len ∙ sym (name_len-step bs n step first within);
      scalars = and_from _ _ s.scalar r.scalars;
      all = and_from _ _ continuing r.all;
      ends = r.ends;
    }

going_on : (fuel : ℕ) (bs : List ℕ) → length bs ≤ fuel → IsGoingOn bs
unfolding front_character
going_on fuel [] within = no_more [] refl
going_on zero (b ∷ bs) within = absurd (omega arith)
going_on (suc fuel) (b ∷ bs) within = by (continues_name (b ∷ bs)) refl (λ n some. going_on fuel (drop n (b ∷ bs)) (omega (arith, some, within, length-drop n (b ∷ bs))))
  where
    by : (t : Bool) → continues_name (b ∷ bs) ≡ t → ((n : ℕ) → 0 < n → IsGoingOn (drop n (b ∷ bs))) → IsGoingOn (b ∷ bs)
    by false none later = no_more (b ∷ bs) none
    by true goes later =
        let c = character_of is_xid_continue (front_character (b ∷ bs)) goes in
        one_more (b ∷ bs) c.0 c.1 goes (omega arith)
        (λ n is. let wide : 0 < front_width (b ∷ bs) = width-some (b ∷ bs) (omega arith) in later n (omega (arith, is, wide)))

splits_name : (bs : List ℕ) → 0 < length bs → begins_quoted bs ≡ false → begins_name bs ≡ true → Splits bs (name bs)
unfolding front_character front_width
splits_name bs some unquoted begins =
    let c = character_of (λ c. is_xid_start c || (c == 95)) (front_character bs) begins in splits_by c.0 c.1
  where
    splits_by : (c : ℕ) → front_character bs ≡ Some c → Splits bs (name bs)
    splits_by c found =
        let s : SpellsChar bs c (decoded bs).size = SpellsChar-decoded bs c found in
        let k : ℕ = (decoded bs).size in
        let r : IsGoingOn (drop k bs) = going_on (length (drop k bs)) (drop k bs) (omega arith) in
        let n : ℕ = k + name_len (drop k bs) 0 in
        let word : List ℕ = encode_utf8_all (c ∷ r.others) in
        let len : length word ≡ n =
        length-append (encode_utf8 c) (encode_utf8_all r.others) ∙ ap (λ j. j + length (encode_utf8_all r.others)) s.width ∙ ap (λ j. k + j) r.len in
        let cut : bs ≡ word ++ r.rest = s.bytes ∙ ap (λ xs. encode_utf8 c ++ xs) r.is ∙ sym (append_assoc (encode_utf8 c) (encode_utf8_all r.others) r.rest) in
        let front_is : take n bs ≡ word = ap (take n) cut ∙ take_at word r.rest n len in
        let rest_is : drop n bs ≡ r.rest = ap (drop n) cut ∙ drop_at word r.rest n len in
        let wide : 0 < k = width-some bs some in
        let starts : (is_xid_start c || (c == 95)) ≡ true = ap (λ (o : Option ℕ). option_map_or (λ c. is_xid_start c || (c == 95)) o false) (sym found) ∙ begins in
        let long : length (take n bs) ≡ n = ap length front_is ∙ len in
        let is_word : IsWord (take n bs) (drop n bs) = record {
          first = c;
          others = r.others;
          scalars = and_from _ _ s.scalar r.scalars;
          front_is = front_is;
          begins = starts;
          goes_on = r.all;
          ends = ap continues_name rest_is ∙ r.ends;
          unquoted = ap begins_quoted (take-append-drop n bs) ∙ unquoted;
        } in
        record {
          front = take n bs;
          rest = drop n bs;
          is = sym (take-append-drop n bs);
          len = long;
          some = omega (arith, long, wide);
          stands = Word (take n bs) (drop n bs) is_word;
        }

-- ---- signs

split_at : (bs : List ℕ) (n : ℕ) (kind : TokenKind) → 0 < n → n ≤ length bs → Stands (Some kind) (take n bs) (drop n bs) → Splits bs (token kind n)
split_at bs n kind some within stands =
    let len : length (take n bs) ≡ n = length-take-le n bs within in
    record { front = take n bs; rest = drop n bs; is = sym (take-append-drop n bs); len = len; some = omega (arith, len, some); stands = stands }

splits_long : (bs : List ℕ) → begins_long_sign bs ≡ true → Splits bs (token kinds.Sign 2)
unfolding begins_long_sign
splits_long bs e = one_of_five _ _ _ _ _ e (of 0 (codes "::") (omega arith) refl refl) (of 1 (codes "<>") (omega arith) refl refl)
    (of 2 (codes "<=") (omega arith) refl refl) (of 3 (codes ">=") (omega arith) refl refl) (of 4 (codes "->") (omega arith) refl refl)
  where
    of : (k : ℕ) (sign : List ℕ) → k < length long_signs → get_or long_signs k sign ≡ sign → length sign ≡ 2 → starts_with nat_eq bs sign ≡ true
        → Splits bs (token kinds.Sign 2)
    of k sign below is two starts =
        let there : take (length sign) bs ≡ sign = opened bs sign starts in
        let here : take 2 bs ≡ sign = ap (λ n. take n bs) (sym two) ∙ there in
        split_at bs 2 kinds.Sign (omega arith) (two_long bs sign here two)
        (LongSign (take 2 bs) (drop 2 bs) (subst (λ (xs : List ℕ). Contains long_signs xs) (sym here) (k, below, is)))

-- what a test of equality finds is listed
listed_by : (xs : List ℕ) (x : ℕ) → list_any (λ s. s == x) xs ≡ true → Contains xs x
listed_by [] x e = absurd (false≢true e)
listed_by (s ∷ xs) x e = ⊎_elim
    (λ (same : s == x ≡ true). let is : s ≡ x = grind (arith, nat_tests) in (0, omega arith, is))
    (λ (later : list_any (λ s. s == x) xs ≡ true). further (listed_by xs x later))
    (or_cases (s == x) (list_any (λ s. s == x) xs) e)
  where
    further : Contains xs x → Contains (s ∷ xs) x
    further c = let below : c.0 < length xs = c.1 in (suc c.0, omega (arith, below), c.2)

splits_short : (bs : List ℕ) → 0 < length bs → begins_line_comment bs ≡ false → begins_long_sign bs ≡ false → begins_short_sign bs ≡ true → Splits bs (token kinds.Sign 1)
unfolding begins_short_sign
splits_short [] some plain short e = absurd (omega arith)
splits_short (b ∷ bs) some plain short e =
    split_at (b ∷ bs) 1 kinds.Sign (omega arith) some
    (ShortSign (b ∷ []) bs (record { sign = b; front_is = refl; listed = listed_by short_signs b e; longest = short; no_comment = plain }))

splits_sign : (bs : List ℕ) → 0 < length bs → begins_line_comment bs ≡ false → Splits bs (sign bs)
splits_sign bs some plain =
    splits_if bs (begins_long_sign bs) (token kinds.Sign 2) _ (splits_long bs)
    (λ short. splits_if bs (begins_short_sign bs) (token kinds.Sign 1) _ (splits_short bs some plain short) (λ none. go (front_character bs)))
  where
    go : (o : Option ℕ) → Splits bs (option_map_or (λ c. fault BadChar 0) o (fault BadUtf8 0))
    go None = tt
    go (Some c) = tt

-- ---- all forms

pub splits_form : (bs : List ℕ) → 0 < length bs → Splits bs (form bs)
unfolding form
splits_form bs some =
    splits_if bs (is_blank (slice_index bs 0)) _ _ (splits_blanks bs some)
    (λ a. splits_if bs (begins_line_comment bs) _ _ (splits_line bs)
    (λ plain. splits_if bs (begins_block_comment bs) _ _ (splits_block bs)
    (λ b. splits_if bs (begins_quoted bs) _ _ (splits_quoted bs)
    (λ unquoted. splits_if bs (slice_index bs 0 == 39) _ _ (splits_string bs some)
    (λ d. splits_if bs (is_ascii_digit (slice_index bs 0)) _ _ (splits_number bs some)
    (λ f. splits_if bs (begins_name bs) _ _ (splits_name bs some unquoted) (λ g. splits_sign bs some plain)))))))

-- Runs of bytes, comments and quotations, counted and cut.
use Rattle.std.proofs.Common.{◌≡◌, ℕ, suc, ◌+◌, ◌-◌, ◌<◌, ◌≤◌, ⊎_elim, Bool, true, false, if◌then◌else◌, ◌&&◌, nat_eq, List, [], ◌∷◌, ◌++◌, length, take, drop, Option, Some, None, codes, refl, sym, ◌∙◌, ap, subst, arith}
use Rattle.std.specs.Prelude.{◌==◌, not, slice_index}
use Rattle.std.specs.List.{list_all, prefix_len, starts_with}
use Rattle.std.proofs.lemmas.Bool.{cases_lt, and_parts, false≢true, not-true}
use Rattle.std.proofs.lemmas.Bool.Decides.{nat_tests}
use Rattle.std.proofs.lemmas.List.Sums.{prefix_len-drop_no, prefix_len-drop_all, prefix_len_stops}
use Rattle.ql_lex.specs.Forms.{comment_end, string_end, misfit_from, closes, escapes, begins_misfit, begins_unstorable, is_escape, front_character}
use Rattle.ql_lex.specs.Tokens.{IsRun, IsNowhere, IsQuotable, Nothing, Escape, Character}
use Rattle.mof_metamodel.specs.Characters.{is_storable_character}
use Rattle.std.specs.Option.{option_map_or}
use Rattle.ql_lex.proofs.Laws.{comment_end-cons, string_end-cons, misfit_from-cons}
use Rattle.bstr.specs.Utf8.{Decoded}
use Rattle.bstr.proofs.lemmas.PieceLemmas.{by-shape}
use Rattle.std.specs.Cmp.Lexicographic.{pointwise}

-- ---- runs

pub run_all : (p : ℕ → Bool) (xs : List ℕ) → list_all p (take (prefix_len p xs) xs) ≡ true
run_all p [] = refl
run_all p (x ∷ xs) = go (p x) refl (run_all p xs)
  where
    go : (t : Bool) → p x ≡ t → list_all p (take (prefix_len p xs) xs) ≡ true → list_all p (take (prefix_len p (x ∷ xs)) (x ∷ xs)) ≡ true
    go true is more =
        let n : prefix_len p (x ∷ xs) ≡ 1 + prefix_len p xs = ap (λ t. if t then 1 + prefix_len p xs else 0) is in
        let one : prefix_len p (x ∷ xs) ≡ suc (prefix_len p xs) = n ∙ omega arith in
        let all : list_all p (take (suc (prefix_len p xs)) (x ∷ xs)) ≡ true = ap (λ t. t && list_all p (take (prefix_len p xs) xs)) is ∙ more in
        subst (λ (k : ℕ). list_all p (take k (x ∷ xs)) ≡ true) (sym one) all
    go false is more =
        let none : prefix_len p (x ∷ xs) ≡ 0 = ap (λ t. if t then 1 + prefix_len p xs else 0) is in
        subst (λ (k : ℕ). list_all p (take k (x ∷ xs)) ≡ true) (sym none) refl

pub run_ends : (p : ℕ → Bool) (xs : List ℕ) → prefix_len p (drop (prefix_len p xs) xs) ≡ 0
run_ends p xs = ⊎_elim
    (λ (less : prefix_len p xs < length xs). prefix_len-drop_no p xs (prefix_len p xs) 0 less (prefix_len_stops p xs 0 less))
    (λ (all : length xs ≤ prefix_len p xs). prefix_len-drop_all p xs (prefix_len p xs) all)
    (cases_lt (prefix_len p xs) (length xs))

pub run_of : (p : ℕ → Bool) (xs : List ℕ) → IsRun p (take (prefix_len p xs) xs) (drop (prefix_len p xs) xs)
run_of p xs = record { all = run_all p xs; ends = run_ends p xs }

counted : (p : ℕ → Bool) (front rest : List ℕ) → list_all p front ≡ true → prefix_len p rest ≡ 0 → prefix_len p (front ++ rest) ≡ length front
counted p [] rest all none = none
counted p (x ∷ xs) rest all none =
    let both = and_parts (p x) (list_all p xs) all in
    let more : prefix_len p (xs ++ rest) ≡ length xs = counted p xs rest both.1 none in
    let one : prefix_len p (x ∷ (xs ++ rest)) ≡ 1 + prefix_len p (xs ++ rest) = ap (λ t. if t then 1 + prefix_len p (xs ++ rest) else 0) both.0 in
    omega (arith, one, more)

pub run_counted : (p : ℕ → Bool) (front rest : List ℕ) → IsRun p front rest → prefix_len p (front ++ rest) ≡ length front
run_counted p front rest r = counted p front rest r.all r.ends

-- ---- the ends of comments

-- the bytes up to the end of a comment, of which the one before these may be a `*`
pub record IsEnded (bs : List ℕ) (i : ℕ) (star : Bool) (n : ℕ) : Type 0 where
  pub inside : List ℕ
  pub rest : List ℕ
  pub is : (if star then 42 ∷ bs else bs) ≡ inside ++ 42 ∷ (47 ∷ rest)
  pub count : n + (if star then 1 else 0) ≡ i + length inside + 2
  pub first : IsNowhere (codes "*/") (inside ++ 42 ∷ [])

same_some : (a b : ℕ) → Some a ≡ Some b → a ≡ b
same_some a b e = cc

pub byte_is : (b s : ℕ) → (b == s) ≡ true → b ≡ s
byte_is b s e = grind (arith, nat_tests)

-- a byte, and what may follow it in `*/`
apart : (b c : ℕ) (xs : List ℕ) → (nat_eq 42 b && nat_eq 47 c) ≡ false → starts_with nat_eq (b ∷ c ∷ xs) (codes "*/") ≡ false
apart b c xs e = both (nat_eq 42 b) (nat_eq 47 c) e
  where
    both : (s t : Bool) → (s && t) ≡ false → (s && (t && true)) ≡ false
    both true true e = e
    both true false e = refl
    both false t e = refl

not_star : (b : ℕ) (xs : List ℕ) → (b == 42) ≡ false → starts_with nat_eq (b ∷ xs) (codes "*/") ≡ false
not_star b xs e =
    let other : nat_eq 42 b ≡ false = grind (arith, nat_tests) in ap (λ t. t && pointwise nat_eq (47 ∷ []) (take 1 xs)) other

not_slash : (b : ℕ) (xs : List ℕ) → (b == 47) ≡ false → starts_with nat_eq (42 ∷ b ∷ xs) (codes "*/") ≡ false
not_slash b xs e =
    let other : nat_eq 47 b ≡ false = grind (arith, nat_tests) in apart 42 b xs other

ended_step : (b : ℕ) (bs : List ℕ) (i : ℕ) (star : Bool) (n : ℕ) (slash next : Bool) → (b == 47) ≡ slash → (b == 42) ≡ next
    → (if star && slash then Some (i + 1) else comment_end (i + 1) next bs) ≡ Some n
    → (comment_end (i + 1) next bs ≡ Some n → IsEnded bs (i + 1) next n) → IsEnded (b ∷ bs) i star n
ended_step b bs i true n true next is_slash is_star e later =
    let here : i + 1 ≡ n = same_some (i + 1) n e in
    record { inside = []; rest = bs; is = ap (λ x. 42 ∷ x ∷ bs) (byte_is b 47 is_slash); count = omega (arith, here); first = (refl, tt) }
ended_step b bs i false n slash true is_slash is_star e later =
    let r = later e in
    record {
      inside = r.inside;
      rest = r.rest;
      is = ap (λ x. x ∷ bs) (byte_is b 42 is_star) ∙ r.is;
      count = omega (arith, r.count);
      first = r.first;
    }
ended_step b bs i false n slash false is_slash is_star e later =
    let r = later e in
    record {
      inside = b ∷ r.inside;
      rest = r.rest;
      is = ap (λ xs. b ∷ xs) r.is;
      count = omega (arith, r.count);
      first = (not_star b (r.inside ++ 42 ∷ []) is_star, r.first);
    }
ended_step b bs i true n false true is_slash is_star e later =
    let r = later e in
    record {
      inside = 42 ∷ r.inside;
      rest = r.rest;
      is = ap (λ x. 42 ∷ x ∷ bs) (byte_is b 42 is_star) ∙ ap (λ xs. 42 ∷ xs) r.is;
      count = omega (arith, r.count);
      first = (star_first r.inside bs r.rest r.is, r.first);
    }
  where
    star_first : (inside bs rest : List ℕ) → 42 ∷ bs ≡ inside ++ 42 ∷ (47 ∷ rest) → starts_with nat_eq (42 ∷ (inside ++ 42 ∷ [])) (codes "*/") ≡ false
    star_first [] bs rest e = refl
    star_first (x ∷ xs) bs rest e =
        let same : 42 ≡ x = cc in
        subst (λ (y : ℕ). starts_with nat_eq (42 ∷ y ∷ (xs ++ 42 ∷ [])) (codes "*/") ≡ false) same (apart 42 42 (xs ++ 42 ∷ []) refl)
ended_step b bs i true n false false is_slash is_star e later =
    let r = later e in
    record {
      inside = 42 ∷ b ∷ r.inside;
      rest = r.rest;
      is = ap (λ xs. 42 ∷ b ∷ xs) r.is;
      count = omega (arith, r.count);
      first = (not_slash b (r.inside ++ 42 ∷ []) is_slash, (not_star b (r.inside ++ 42 ∷ []) is_star, r.first));
    }

pub comment_ended : (bs : List ℕ) (i : ℕ) (star : Bool) (n : ℕ) → comment_end i star bs ≡ Some n → IsEnded bs i star n
unfolding comment_end
comment_ended [] i star n e = absurd cc
comment_ended (b ∷ bs) i star n e = ended_step b bs i star n (b == 47) (b == 42) refl refl e (comment_ended bs (i + 1) (b == 42) n)

-- a `/` does not stand first where a `*` stood before
abbrev MayFollow : Bool → List ℕ → Type 0
MayFollow star inside = starts_with nat_eq (if star then 42 ∷ (inside ++ 42 ∷ []) else 0 ∷ []) (codes "*/") ≡ false

pub comment_counted : (inside rest : List ℕ) (i : ℕ) (star : Bool) → MayFollow star inside → IsNowhere (codes "*/") (inside ++ 42 ∷ [])
    → comment_end i star (inside ++ 42 ∷ (47 ∷ rest)) ≡ Some (i + length inside + 2)
comment_counted [] rest i star follows first =
    let shown : (star && (42 == 47)) ≡ false = and_false star in
    comment_end-cons 42 (47 ∷ rest) i star
    ∙ ap (λ t. if t then Some (i + 1) else comment_end (i + 1) true (47 ∷ rest)) shown
    ∙ comment_end-cons 47 rest (i + 1) true
    ∙ ap Some (omega arith)
  where
    and_false : (s : Bool) → (s && false) ≡ false
    and_false true = refl
    and_false false = refl
comment_counted (b ∷ bs) rest i star follows first =
    let goes : (star && (b == 47)) ≡ false = going star follows in
    comment_end-cons b (bs ++ 42 ∷ (47 ∷ rest)) i star
    ∙ ap (λ t. if t then Some (i + 1) else comment_end (i + 1) (b == 42) (bs ++ 42 ∷ (47 ∷ rest))) goes
    ∙ comment_counted bs rest (i + 1) (b == 42) (next (b == 42) refl) first.1
    ∙ ap Some (omega arith)
  where
    going : (s : Bool) → MayFollow s (b ∷ bs) → (s && (b == 47)) ≡ false
    going false f = refl
    going true f = by (b == 47) refl
      where
        by : (t : Bool) → (b == 47) ≡ t → t ≡ false
        by false e = refl
        by true e =
            let slash : b ≡ 47 = byte_is b 47 e in
            let no : starts_with nat_eq (42 ∷ 47 ∷ (bs ++ 42 ∷ [])) (codes "*/") ≡ false =
            subst (λ (y : ℕ). starts_with nat_eq (42 ∷ y ∷ (bs ++ 42 ∷ [])) (codes "*/") ≡ false) slash f in
            absurd (false≢true (sym no))

    next : (t : Bool) → (b == 42) ≡ t → MayFollow t bs
    next false e = refl
    next true e = subst (λ (y : ℕ). starts_with nat_eq (y ∷ (bs ++ 42 ∷ [])) (codes "*/") ≡ false) (byte_is b 42 e) first.0

-- ---- the ends of strings

-- no quote closes these bytes, the first of which may be escaped
abbrev pub IsUnclosed : Bool → List ℕ → Type 0
IsUnclosed escaped [] = escaped ≡ false
IsUnclosed escaped (b ∷ bs) = (closes escaped b ≡ false) × IsUnclosed (escapes escaped b) bs

pub record IsClosedAt (bs : List ℕ) (i : ℕ) (escaped : Bool) (n : ℕ) : Type 0 where
  pub inside : List ℕ
  pub rest : List ℕ
  pub is : bs ≡ inside ++ 39 ∷ rest
  pub count : n ≡ i + length inside + 1
  pub unclosed : IsUnclosed escaped inside

closed_step : (b : ℕ) (bs : List ℕ) (i : ℕ) (escaped : Bool) (n : ℕ) (t : Bool) → closes escaped b ≡ t
    → (if t then Some (i + 1) else string_end (i + 1) (escapes escaped b) bs) ≡ Some n
    → (string_end (i + 1) (escapes escaped b) bs ≡ Some n → IsClosedAt bs (i + 1) (escapes escaped b) n) → IsClosedAt (b ∷ bs) i escaped n
closed_step b bs i escaped n true is e later =
    let both = and_parts (not escaped) (b == 39) is in
    let here : i + 1 ≡ n = same_some (i + 1) n e in
    record { inside = []; rest = bs; is = ap (λ x. x ∷ bs) (byte_is b 39 both.1); count = omega (arith, here); unclosed = not-true escaped both.0 }
closed_step b bs i escaped n false is e later =
    let r = later e in
    record { inside = b ∷ r.inside; rest = r.rest; is = ap (λ xs. b ∷ xs) r.is; count = omega (arith, r.count); unclosed = (is, r.unclosed) }

pub string_closed_at : (bs : List ℕ) (i : ℕ) (escaped : Bool) (n : ℕ) → string_end i escaped bs ≡ Some n → IsClosedAt bs i escaped n
unfolding string_end
string_closed_at [] i escaped n e = absurd cc
string_closed_at (b ∷ bs) i escaped n e = closed_step b bs i escaped n (closes escaped b) refl e (string_closed_at bs (i + 1) (escapes escaped b) n)

pub string_counted : (inside rest : List ℕ) (i : ℕ) (escaped : Bool) → IsUnclosed escaped inside
    → string_end i escaped (inside ++ 39 ∷ rest) ≡ Some (i + length inside + 1)
string_counted [] rest i escaped unclosed =
    let shut : closes escaped 39 ≡ true = ap (λ t. not t && (39 == 39)) unclosed in
    string_end-cons 39 rest i escaped ∙ ap (λ t. if t then Some (i + 1) else string_end (i + 1) (escapes escaped 39) rest) shut ∙ ap Some (omega arith)
string_counted (b ∷ bs) rest i escaped unclosed =
    string_end-cons b (bs ++ 39 ∷ rest) i escaped
    ∙ ap (λ t. if t then Some (i + 1) else string_end (i + 1) (escapes escaped b) (bs ++ 39 ∷ rest)) unclosed.0
    ∙ string_counted bs rest (i + 1) (escapes escaped b) unclosed.1
    ∙ ap Some (omega arith)

-- ---- what strings may hold

abbrev IsQuotableFrom : Bool → List ℕ → Type 0
IsQuotableFrom false bs = IsQuotable bs
IsQuotableFrom true bs = IsQuotable (92 ∷ bs)

none_here : (t : Bool) (k : ℕ) (later : Option ℕ) → (if t then Some k else later) ≡ None → (t ≡ false) × (later ≡ None)
none_here true k later e = absurd cc
none_here false k later e = (refl, e)

quotable_escaped : (b : ℕ) (bs : List ℕ) → begins_misfit true (b ∷ bs) ≡ false → IsQuotableFrom false bs → IsQuotableFrom true (b ∷ bs)
quotable_escaped b bs fits more = Escape b bs (not_no (is_escape b) fits) more
  where
    not_no : (t : Bool) → not t ≡ false → t ≡ true
    not_no true e = refl
    not_no false e = sym e

quotable_plain : (b : ℕ) (bs : List ℕ) (t : Bool) → (b == 92) ≡ t → (b == 39) ≡ false → begins_misfit false (b ∷ bs) ≡ false → IsQuotableFrom t bs
    → IsQuotableFrom false (b ∷ bs)
quotable_plain b bs true is unclosed fits more = subst (λ (y : ℕ). IsQuotable (y ∷ bs)) (sym (byte_is b 92 is)) more
quotable_plain b bs false is unclosed fits more = Character b bs unclosed is fits more

quotable_step : (b : ℕ) (bs : List ℕ) (i : ℕ) (escaped : Bool) → closes escaped b ≡ false → begins_misfit escaped (b ∷ bs) ≡ false
    → IsQuotableFrom (escapes escaped b) bs → IsQuotableFrom escaped (b ∷ bs)
quotable_step b bs i true unclosed fits more = quotable_escaped b bs fits more
quotable_step b bs i false unclosed fits more = quotable_plain b bs (b == 92) refl unclosed fits more

quotable_from : (bs : List ℕ) (i : ℕ) (escaped : Bool) → IsUnclosed escaped bs → misfit_from i escaped bs ≡ None → IsQuotableFrom escaped bs
unfolding misfit_from
quotable_from [] i false unclosed fits = Nothing
quotable_from [] i true unclosed fits = absurd (false≢true (sym unclosed))
quotable_from (b ∷ bs) i escaped unclosed fits =
    let here = none_here (begins_misfit escaped (b ∷ bs)) (if escaped then i - 1 else i) (misfit_from (i + 1) (escapes escaped b) bs) fits in
    quotable_step b bs i escaped unclosed.0 here.0 (quotable_from bs (i + 1) (escapes escaped b) unclosed.1 here.1)

pub quotable_of : (bs : List ℕ) → IsUnclosed false bs → misfit_from 0 false bs ≡ None → IsQuotable bs
quotable_of bs unclosed fits = quotable_from bs 0 false unclosed fits

-- a character of one byte
pub ascii_front : (b : ℕ) (xs : List ℕ) → b < 128 → front_character (b ∷ xs) ≡ Some b
unfolding front_character
ascii_front b xs low =
    by-shape (length (b ∷ xs)) (slice_index (b ∷ xs) 0) (slice_index (b ∷ xs) 1) (slice_index (b ∷ xs) 2) (slice_index (b ∷ xs) 3)
    (λ h. let none : length (b ∷ xs) ≡ 0 = h.0 in absurd (omega (arith, none)))
    (λ h. ap (λ (p : Decoded). p.char) h.2)
    (λ h. absurd (omega (arith, low, h.1)))
    (λ h. absurd (omega (arith, low, h.1)))
    (λ h. absurd (omega (arith, low, h.1)))
    (λ h. absurd (omega (arith, low, h.1)))
    (λ h. absurd (omega (arith, low, h.1)))
    (λ h. absurd (omega (arith, low, h.1)))
    (λ h. absurd (omega (arith, low, h.1)))
    (λ h. absurd (omega (arith, low, h.1)))
    (λ h. absurd (omega (arith, low, h.1)))
    (λ h. absurd (omega (arith, low, h.1)))
    (λ h. absurd (omega (arith, low, h.1)))

pub quotable_unclosed : (bs : List ℕ) → IsQuotable bs → IsUnclosed false bs
quotable_unclosed _ Nothing = refl
quotable_unclosed _ (Escape e bytes is more) = (refl, (refl, quotable_unclosed bytes more))
quotable_unclosed _ (Character b bytes quote slash fits more) =
    (quote, subst (λ (t : Bool). IsUnclosed t bytes) (sym slash) (quotable_unclosed bytes more))

slash_fits : (xs : List ℕ) → begins_unstorable (92 ∷ xs) ≡ false
slash_fits xs = ap (λ (o : Option ℕ). option_map_or (λ c. not (is_storable_character c)) o false) (ascii_front 92 xs (omega arith))

misfit_goes : (b : ℕ) (bs : List ℕ) (i : ℕ) (escaped next : Bool) → begins_misfit escaped (b ∷ bs) ≡ false → escapes escaped b ≡ next
    → misfit_from (i + 1) next bs ≡ None → misfit_from i escaped (b ∷ bs) ≡ None
misfit_goes b bs i escaped next fits is more =
    misfit_from-cons b bs i escaped
    ∙ ap (λ t. if t then Some (if escaped then i - 1 else i) else misfit_from (i + 1) (escapes escaped b) bs) fits
    ∙ ap (λ t. misfit_from (i + 1) t bs) is ∙ more

pub quotable_fits : (bs : List ℕ) → IsQuotable bs → (i : ℕ) → misfit_from i false bs ≡ None
unfolding misfit_from
quotable_fits _ Nothing i = refl
quotable_fits _ (Escape e bytes is more) i =
    misfit_goes 92 (e ∷ bytes) i false true (slash_fits (e ∷ bytes)) refl
    (misfit_goes e bytes (i + 1) true false (ap not is) refl (quotable_fits bytes more (i + 1 + 1)))
quotable_fits _ (Character b bytes quote slash fits more) i = misfit_goes b bytes i false false fits slash (quotable_fits bytes more (i + 1))

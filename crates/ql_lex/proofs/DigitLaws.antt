-- Laws about decimal digits.
use Rattle.std.proofs.Common.{◌≡◌, ℕ, ◌+◌, ◌-◌, ◌*◌, ◌<◌, ◌≤◌, Bool, true, ◌&&◌, false, nat_le, nat_lt, if◌then◌else◌, List, length, drop, get_or, Some, None, pos, ap, sym, ◌∙◌, refl, arith}
use Rattle.std.specs.List.{list_all}
use Rattle.std.specs.Char.{is_ascii_digit}
use Rattle.std.proofs.lemmas.Bool.Decides.{nat_tests}
use Rattle.std.proofs.lemmas.List.{drop_more, drop_all}
use Rattle.ql_lex.specs.declared.limits.TheConstants.{MAX_INTEGER}
use Rattle.ql_lex.specs.Forms.{decimal}
use Rattle.ql_lex.proofs.Laws.{decimal-step}
use Rattle.ql_lex.specs.Lexemes.{integer_of}

pub integer : (text : List ℕ) (v : ℕ) → list_all is_ascii_digit text ≡ true → decimal 0 text ≡ v → v ≤ MAX_INTEGER → integer_of text ≡ Some (pos v)
unfolding integer_of
integer text v all is within =
    let small : nat_le v MAX_INTEGER ≡ true = grind (arith, nat_tests) in
    rw (all, is, small) refl

-- one digit further
pub digits-step : (ds : List ℕ) (i : ℕ) → i < length ds → is_ascii_digit (get_or ds i 0) ≡ true → list_all is_ascii_digit (drop (i + 1) ds) ≡ list_all is_ascii_digit (drop i ds)
digits-step ds i h e = sym (ap (list_all is_ascii_digit) (drop_more ds i 0 h) ∙ ap (λ (b : Bool). b && list_all is_ascii_digit (drop (i + 1) ds)) e)

pub value-step : (ds : List ℕ) (i before d : ℕ) → i < length ds → d ≡ get_or ds i 0 - 48 → decimal (10 * before + d) (drop (i + 1) ds) ≡ decimal before (drop i ds)
value-step ds i before d h e = ap (λ (x : ℕ). decimal (10 * before + x) (drop (i + 1) ds)) e ∙ sym (decimal-step ds i before h)

-- none left
pub digits-none : (ds : List ℕ) (i : ℕ) → length ds ≤ i → list_all is_ascii_digit (drop i ds) ≡ true
digits-none ds i h = ap (list_all is_ascii_digit) (drop_all i ds h)

pub value-none : (ds : List ℕ) (i before : ℕ) → length ds ≤ i → decimal before (drop i ds) ≡ before
unfolding decimal
value-none ds i before h = ap (decimal before) (drop_all i ds h)

-- what is no Integer
pub no_digits : (text : List ℕ) → list_all is_ascii_digit text ≡ false → integer_of text ≡ None
unfolding integer_of
no_digits text e = rw e refl

pub too_great : (text : List ℕ) → nat_lt MAX_INTEGER (decimal 0 text) ≡ true → integer_of text ≡ None
unfolding integer_of
too_great text e =
    let over : nat_le (decimal 0 text) MAX_INTEGER ≡ false = grind (arith, nat_tests) in
    rw over (by (list_all is_ascii_digit text))
  where
    by : (b : Bool) → (if b && false then Some (pos (decimal 0 text)) else None) ≡ None
    by true = refl
    by false = refl

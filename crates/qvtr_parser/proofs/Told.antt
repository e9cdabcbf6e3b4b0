-- What a reading answers is told by the tokens up to and with the one at which it ends or stops: how that follows for readings
-- that are put together.
use Rattle.std.proofs.Common.{◌≡◌, ℕ, zero, suc, ◌+◌, ◌-◌, ◌<◌, ◌≤◌, ◌⊎◌, inl, inr, Bool, true, false, List, [], ◌∷◌, length, take, slice_get, Option, Some, None, Result, Ok, Err, ap, sym, ◌∙◌, refl, subst, arith}
use Rattle.std.specs.Prelude.{if◌then◌else◌, ◌==◌}
use Rattle.std.specs.Option.{option_map_or}
use Rattle.std.proofs.lemmas.Bool.Decides.{nat_tests}
use Rattle.std.proofs.lemmas.List.{take-take}
use Rattle.std.proofs.lemmas.Option.{slice_get_within}
use Rattle.qv_syntax.specs.declared.name.Name.{Name}
use Rattle.ql_lex.specs.Lexed.{Lexeme}
use Rattle.ql_lex.specs.Lexemes.{end_of, is_sign, name_text, span_at, stands, start_of}
use Rattle.ocl_parser.specs.Beginnings.{opens}
use Rattle.ocl_parser.specs.Readings.{Read, and_then, name_at, name_by, name_read, opening_read, token_read}
use Rattle.ocl_parser.specs.declared.halt.Stop.{Stop}
use Rattle.ocl_parser.specs.declared.halt.Stop.TheVariants as stops
use Rattle.qvtr_parser.specs.ScriptReadings.{behind_if}
use Rattle.qvtr_parser.proofs.CompleteLists.{stands_before}
use Rattle.qvtr_parser.proofs.ApartLaws.{passes_too}

-- ---- texts that begin alike

-- the tokens before number k are the same
abbrev pub Same : List Lexeme → List Lexeme → ℕ → Type 0
Same ts us k = take k us ≡ take k ts

pub same_less : (ts us : List Lexeme) (j k : ℕ) → j ≤ k → Same ts us k → Same ts us j
same_less ts us j k less same = sym (take-take j k us less) ∙ ap (take j) same ∙ take-take j k ts less

get_of_take : (k m : ℕ) (ls : List Lexeme) → m < k → slice_get (take k ls) m ≡ slice_get ls m
get_of_take zero m ls less = absurd (omega (arith, less))
get_of_take (suc k) m [] less = refl
get_of_take (suc k) zero (l ∷ ls) less = refl
get_of_take (suc k) (suc m) (l ∷ ls) less = get_of_take k m ls (omega (arith, less))

pub same_get : (ts us : List Lexeme) (k m : ℕ) → m < k → Same ts us k → slice_get us m ≡ slice_get ts m
same_get ts us k m less same = sym (get_of_take k m us less) ∙ ap (λ (ls : List Lexeme). slice_get ls m) same ∙ get_of_take k m ts less

pub same_stands : (passes : Lexeme → Bool) (ts us : List Lexeme) (k m : ℕ) → m < k → Same ts us k → stands passes us m ≡ stands passes ts m
unfolding stands
same_stands passes ts us k m less same = ap (λ (o : Option Lexeme). option_map_or passes o false) (same_get ts us k m less same)

pub same_span : (ts us : List Lexeme) (i j : ℕ) → i < j → Same ts us j → span_at us i j ≡ span_at ts i j
unfolding span_at
same_span ts us i j less same =
    let starts : start_of us i ≡ start_of ts i = ap (λ (o : Option Lexeme). option_map_or (λ l. l.token.span.start) o 0) (same_get ts us j i less same) in
    let ends : end_of us (j - 1) ≡ end_of ts (j - 1) = ap (λ (o : Option Lexeme). option_map_or (λ l. l.token.span.end) o 0) (same_get ts us j (j - 1) (omega (arith, less)) same) in
    ap (λ (x : ℕ). record { start = x; end = end_of us (j - 1) }) starts ∙ ap (λ (x : ℕ). record { start = start_of ts i; end = x }) ends

-- ---- readings

-- a reading of tokens within so many levels
abbrev pub Reading : Type 0 → Type 0
Reading Y = List Lexeme → ℕ → Result Y Stop

abbrev pub stop_at : Stop → ℕ
stop_at (stops.Stuck k) = k
stop_at (stops.Deep k) = k

-- the number of the token at which it ends or stops
abbrev pub number_of : {Y : Type 0} → (Y → ℕ) → Result Y Stop → ℕ
number_of at (Ok y) = at y
number_of at (Err s) = stop_at s

-- with how many levels the answer is the same: with more, unless one was missing
abbrev pub Levels : {Y : Type 0} → ℕ → ℕ → Result Y Stop → Type 0
Levels n w (Ok y) = n ≤ w
Levels n w (Err (stops.Stuck k)) = n ≤ w
Levels n w (Err (stops.Deep k)) = n ≡ w

pub levels_le : {Y : Type 0} (n w : ℕ) (r : Result Y Stop) → Levels n w r → n ≤ w
levels_le n w (Ok y) h = h
levels_le n w (Err (stops.Stuck k)) h = h
levels_le n w (Err (stops.Deep k)) h = omega arith

-- What is known of a reading from number i on, for such levels: it takes `step` tokens at least, stays within them, and its answer is
-- told by the tokens up to and with the one at which it ends or stops.
pub record Told {Y : Type 0} (Is : ℕ → Type 0) (at : Y → ℕ) (step i : ℕ) (m : Reading Y) : Type 0 where
  pub on : (ts : List Lexeme) (n : ℕ) → Is n → i ≤ number_of at (m ts n)
  pub further : (ts : List Lexeme) (n : ℕ) → Is n → (y : Y) → m ts n ≡ Ok y → i + step ≤ at y
  pub within : (ts : List Lexeme) (n : ℕ) → Is n → i ≤ length ts → number_of at (m ts n) ≤ length ts
  pub alike : (ts us : List Lexeme) (n w : ℕ) → Is n → Same ts us (number_of at (m ts n) + 1) → Levels n w (m ts n) → m us w ≡ m ts n
  pub opens : (ts : List Lexeme) (n : ℕ) → Is n → (k : ℕ) → m ts n ≡ Err (stops.Deep k) → stands opens ts k ≡ true

-- ---- put together

abbrev pub followed : {X Y : Type 0} → Reading X → (X → Reading Y) → Reading Y
followed m k ts n = and_then (m ts n) (λ x. k x ts n)

pub sequence : {X Y : Type 0} {Is : ℕ → Type 0} {atX : X → ℕ} {atY : Y → ℕ} {a b i : ℕ} {m : Reading X} {k : X → Reading Y} → Told Is atX a i m
    → ((x : X) → i + a ≤ atX x → Told Is atY b (atX x) (k x)) → Told Is atY (a + b) i (followed m k)
sequence {X} {Y} {Is} {atX} {atY} {a} {b} {i} {m} {k} first then_ = record {
  on = λ ts n is. on_by ts n is (m ts n) refl;
  further = λ ts n is y e. further_by ts n is (m ts n) refl y e;
  within = λ ts n is start. within_by ts n is start (m ts n) refl;
  alike = λ ts us n w is same levels. alike_by ts us n w is (m ts n) refl same levels;
  opens = λ ts n is j e. opens_by ts n is (m ts n) refl j e;
}
  where
    on_by : (ts : List Lexeme) (n : ℕ) → Is n → (q : Result X Stop) → m ts n ≡ q → i ≤ number_of atY (and_then q (λ x. k x ts n))
    on_by ts n is (Ok x) e =
        let far = first.further ts n is x e in
        omega (arith, far, (then_ x far).on ts n is)
    on_by ts n is (Err s) e = subst (λ (q : Result X Stop). i ≤ number_of atX q) e (first.on ts n is)

    further_by : (ts : List Lexeme) (n : ℕ) → Is n → (q : Result X Stop) → m ts n ≡ q → (y : Y) → and_then q (λ x. k x ts n) ≡ Ok y → i + (a + b) ≤ atY y
    further_by ts n is (Ok x) e y h =
        let far = first.further ts n is x e in
        omega (arith, far, (then_ x far).further ts n is y h)
    further_by ts n is (Err s) e y h = cc

    within_by : (ts : List Lexeme) (n : ℕ) → Is n → i ≤ length ts → (q : Result X Stop) → m ts n ≡ q → number_of atY (and_then q (λ x. k x ts n)) ≤ length ts
    within_by ts n is start (Ok x) e =
        let far = first.further ts n is x e in
        let there : atX x ≤ length ts = subst (λ (q : Result X Stop). number_of atX q ≤ length ts) e (first.within ts n is start) in
        (then_ x far).within ts n is there
    within_by ts n is start (Err s) e = subst (λ (q : Result X Stop). number_of atX q ≤ length ts) e (first.within ts n is start)

    alike_by : (ts us : List Lexeme) (n w : ℕ) → Is n → (q : Result X Stop) → m ts n ≡ q → Same ts us (number_of atY (and_then q (λ x. k x ts n)) + 1) → Levels n w (and_then q (λ x. k x ts n))
        → and_then (m us w) (λ x. k x us w) ≡ and_then q (λ x. k x ts n)
    alike_by ts us n w is (Ok x) e same levels =
        let far = first.further ts n is x e in
        let next = then_ x far in
        let here : number_of atX (m ts n) ≡ atX x = ap (number_of atX) e in
        let less = next.on ts n is in
        let before : Same ts us (number_of atX (m ts n) + 1) = same_less ts us (number_of atX (m ts n) + 1) (number_of atY (k x ts n) + 1) (omega (arith, here, less)) same in
        let enough : Levels n w (m ts n) = subst (Levels n w) (sym e) (levels_le n w (k x ts n) levels) in
        rw (first.alike ts us n w is before enough ∙ e) (next.alike ts us n w is same levels)
    alike_by ts us n w is (Err s) e same levels =
        let here : number_of atX (m ts n) ≡ stop_at s = ap (number_of atX) e in
        let before : Same ts us (number_of atX (m ts n) + 1) = subst (λ (j : ℕ). Same ts us (j + 1)) (sym here) same in
        let enough : Levels n w (m ts n) = subst (Levels n w) (sym e) (stopped n w s levels) in
        rw (first.alike ts us n w is before enough ∙ e) refl
      where
        stopped : (n w : ℕ) (s : Stop) → Levels {Y = Y} n w (Err s) → Levels {Y = X} n w (Err s)
        stopped n w (stops.Stuck j) h = h
        stopped n w (stops.Deep j) h = h

    opens_by : (ts : List Lexeme) (n : ℕ) → Is n → (q : Result X Stop) → m ts n ≡ q → (j : ℕ) → and_then q (λ x. k x ts n) ≡ Err (stops.Deep j) → stands opens ts j ≡ true
    opens_by ts n is (Ok x) e j h = (then_ x (first.further ts n is x e)).opens ts n is j h
    opens_by ts n is (Err s) e j h = first.opens ts n is j (e ∙ (let same : s ≡ stops.Deep j = cc in ap (λ (x : Stop). Err x) same))

-- the end of a production: its tree may hold the place from a token before
pub whole : {A : Type 0} {Is : ℕ → Type 0} (end : ℕ) (f : List Lexeme → A) → ((ts us : List Lexeme) → Same ts us (end + 1) → f us ≡ f ts) → Told Is (λ (y : A × ℕ). y.1) 0 end (λ ts n. Ok (f ts, end))
whole {A} {Is} end f same = record {
  on = λ ts n is. omega arith;
  further = λ ts n is y e. (let here : end ≡ y.1 = cc in omega arith);
  within = λ ts n is start. start;
  alike = λ ts us n w is s levels. ap (λ (x : A). Ok (x, end)) (same ts us s);
  opens = λ ts n is k e. cc;
}

-- a choice by a test that is told by the tokens up to and with the one at which the reading ends or stops
pub choice_by : {Y : Type 0} {Is : ℕ → Type 0} {at : Y → ℕ} {step i : ℕ} (test : List Lexeme → Bool) {m o : Reading Y}
    → ((ts us : List Lexeme) (n : ℕ) → Is n → Same ts us (number_of at (if test ts then m ts n else o ts n) + 1) → test us ≡ test ts) → Told Is at step i m → Told Is at step i o
    → Told Is at step i (λ ts n. if test ts then m ts n else o ts n)
choice_by {Y} {Is} {at} {step} {i} test {m} {o} seen one other = record {
  on = λ ts n is. on_by ts n is (test ts);
  further = λ ts n is y e. further_by ts n is (test ts) y e;
  within = λ ts n is start. within_by ts n is start (test ts);
  alike = λ ts us n w is same levels. ap (λ (b : Bool). if b then m us w else o us w) (seen ts us n is same) ∙ alike_by ts us n w is (test ts) same levels;
  opens = λ ts n is k e. opens_by ts n is (test ts) k e;
}
  where
    on_by : (ts : List Lexeme) (n : ℕ) → Is n → (b : Bool) → i ≤ number_of at (if b then m ts n else o ts n)
    on_by ts n is true = one.on ts n is
    on_by ts n is false = other.on ts n is

    further_by : (ts : List Lexeme) (n : ℕ) → Is n → (b : Bool) (y : Y) → (if b then m ts n else o ts n) ≡ Ok y → i + step ≤ at y
    further_by ts n is true y e = one.further ts n is y e
    further_by ts n is false y e = other.further ts n is y e

    within_by : (ts : List Lexeme) (n : ℕ) → Is n → i ≤ length ts → (b : Bool) → number_of at (if b then m ts n else o ts n) ≤ length ts
    within_by ts n is start true = one.within ts n is start
    within_by ts n is start false = other.within ts n is start

    alike_by : (ts us : List Lexeme) (n w : ℕ) → Is n → (b : Bool) → Same ts us (number_of at (if b then m ts n else o ts n) + 1) → Levels n w (if b then m ts n else o ts n)
        → (if b then m us w else o us w) ≡ (if b then m ts n else o ts n)
    alike_by ts us n w is true same levels = one.alike ts us n w is same levels
    alike_by ts us n w is false same levels = other.alike ts us n w is same levels

    opens_by : (ts : List Lexeme) (n : ℕ) → Is n → (b : Bool) (k : ℕ) → (if b then m ts n else o ts n) ≡ Err (stops.Deep k) → stands opens ts k ≡ true
    opens_by ts n is true k e = one.opens ts n is k e
    opens_by ts n is false k e = other.opens ts n is k e

-- a choice by a test of the next token
pub choice : {Y : Type 0} {Is : ℕ → Type 0} {at : Y → ℕ} {step i : ℕ} (test : List Lexeme → Bool) → ((ts us : List Lexeme) → Same ts us (i + 1) → test us ≡ test ts) → {m o : Reading Y} → Told Is at step i m → Told Is at step i o
    → Told Is at step i (λ ts n. if test ts then m ts n else o ts n)
choice {Y} {Is} {at} {step} {i} test seen {m} {o} one other =
    choice_by test (λ ts us n is same. seen ts us (same_less ts us (i + 1) (number_of at (if test ts then m ts n else o ts n) + 1) (omega (arith, on_by ts n is (test ts))) same)) one other
  where
    on_by : (ts : List Lexeme) (n : ℕ) → Is n → (b : Bool) → i ≤ number_of at (if b then m ts n else o ts n)
    on_by ts n is true = one.on ts n is
    on_by ts n is false = other.on ts n is

-- a reading of fewer tokens at least
pub loosen : {Y : Type 0} {Is : ℕ → Type 0} {at : Y → ℕ} {step i : ℕ} (less : ℕ) → less ≤ step → {m : Reading Y} → Told Is at step i m → Told Is at less i m
loosen less few t = record {
  on = t.on;
  further = λ ts n is y e. omega (arith, few, t.further ts n is y e);
  within = t.within;
  alike = t.alike;
  opens = t.opens;
}

-- a reading where fewer numbers of levels count
pub restricted : {Y : Type 0} {Is So : ℕ → Type 0} {at : Y → ℕ} {step i : ℕ} {m : Reading Y} → ((n : ℕ) → So n → Is n) → Told Is at step i m → Told So at step i m
restricted in_ t = record {
  on = λ ts n so. t.on ts n (in_ n so);
  further = λ ts n so. t.further ts n (in_ n so);
  within = λ ts n so. t.within ts n (in_ n so);
  alike = λ ts us n w so. t.alike ts us n w (in_ n so);
  opens = λ ts n so. t.opens ts n (in_ n so);
}

-- two readings that are the same
pub told_by : {Y : Type 0} {Is : ℕ → Type 0} {at : Y → ℕ} {step i : ℕ} {m o : Reading Y} → ((ts : List Lexeme) (n : ℕ) → m ts n ≡ o ts n) → Told Is at step i m → Told Is at step i o
told_by {Y} {Is} {at} {step} {i} {m} {o} equal t = record {
  on = λ ts n is. subst (λ (q : Result Y Stop). i ≤ number_of at q) (equal ts n) (t.on ts n is);
  further = λ ts n is y e. t.further ts n is y (equal ts n ∙ e);
  within = λ ts n is start. subst (λ (q : Result Y Stop). number_of at q ≤ length ts) (equal ts n) (t.within ts n is start);
  alike = λ ts us n w is same levels. (
      let before : Same ts us (number_of at (m ts n) + 1) = subst (λ (q : Result Y Stop). Same ts us (number_of at q + 1)) (sym (equal ts n)) same in
      let enough : Levels n w (m ts n) = subst (Levels n w) (sym (equal ts n)) levels in
      sym (equal us w) ∙ t.alike ts us n w is before enough ∙ equal ts n);
  opens = λ ts n is k e. t.opens ts n is k (equal ts n ∙ e);
}

-- a reading where a level less is left
pub lower_all : {Y : Type 0} {Is : ℕ → Type 0} {at : Y → ℕ} {step i : ℕ} {m : Reading Y} → Told Is at step i m → Told (λ n. Is (n - 1)) at step i (λ ts n. m ts (n - 1))
lower_all {Y} {Is} {at} {step} {i} {m} t = record {
  on = λ ts n is. t.on ts (n - 1) is;
  further = λ ts n is. t.further ts (n - 1) is;
  within = λ ts n is. t.within ts (n - 1) is;
  alike = λ ts us n w is same levels. t.alike ts us (n - 1) (w - 1) is same (less n w (m ts (n - 1)) levels);
  opens = λ ts n is. t.opens ts (n - 1) is;
}
  where
    less : (n w : ℕ) (r : Result Y Stop) → Levels n w r → Levels (n - 1) (w - 1) r
    less n w (Ok y) h = omega arith
    less n w (Err (stops.Stuck k)) h = omega arith
    less n w (Err (stops.Deep k)) h = ap (λ (x : ℕ). x - 1) h

-- where one is left
pub lower : {Y : Type 0} {Is : ℕ → Type 0} {at : Y → ℕ} {step i : ℕ} {m : Reading Y} → Told Is at step i m → Told (λ n. (1 ≤ n) × Is (n - 1)) at step i (λ ts n. m ts (n - 1))
lower t = restricted (λ n is. is.1) (lower_all t)

-- ---- single tokens

abbrev pub itself : ℕ → ℕ
itself i = i

abbrev token_by : ℕ → Bool → Result ℕ Stop
token_by i b = if b then Ok (i + 1) else Err (stops.Stuck i)

pub token_told : {Is : ℕ → Type 0} (passes : Lexeme → Bool) (i : ℕ) → Told Is itself 1 i (λ ts n. token_read passes ts i)
token_told {Is} passes i = record {
  on = λ ts n is. on_by (stands passes ts i);
  further = λ ts n is y e. further_by (stands passes ts i) y e;
  within = λ ts n is start. within_by ts start (stands passes ts i) refl;
  alike = λ ts us n w is same levels. alike_by ts us (stands passes ts i) refl same;
  opens = λ ts n is k e. opens_by ts (stands passes ts i) k e;
}
  where
    on_by : (b : Bool) → i ≤ number_of itself (token_by i b)
    on_by true = omega arith
    on_by false = omega arith

    further_by : (b : Bool) (y : ℕ) → token_by i b ≡ Ok y → i + 1 ≤ y
    further_by true y e = let same : i + 1 ≡ y = cc in omega arith
    further_by false y e = cc

    within_by : (ts : List Lexeme) → i ≤ length ts → (b : Bool) → stands passes ts i ≡ b → number_of itself (token_by i b) ≤ length ts
    within_by ts start true s = omega (arith, stands_before passes ts i s)
    within_by ts start false s = start

    alike_by : (ts us : List Lexeme) (b : Bool) → stands passes ts i ≡ b → Same ts us (number_of itself (token_by i b) + 1) → token_by i (stands passes us i) ≡ token_by i b
    alike_by ts us true s same = ap (token_by i) (same_stands passes ts us (i + 1 + 1) i (omega arith) same ∙ s)
    alike_by ts us false s same = ap (token_by i) (same_stands passes ts us (i + 1) i (omega arith) same ∙ s)

    opens_by : (ts : List Lexeme) (b : Bool) (k : ℕ) → token_by i b ≡ Err (stops.Deep k) → stands opens ts k ≡ true
    opens_by ts true k e = cc
    opens_by ts false k e = cc

abbrev opened_by : ℕ → Bool → Bool → Result ℕ Stop
opened_by i b c = if b then (if c then Err (stops.Deep i) else Ok (i + 1)) else Err (stops.Stuck i)

abbrev behind_opening : {Y : Type 0} → (ℕ → Reading Y) → ℕ → List Lexeme → ℕ → Bool → Bool → Result Y Stop
behind_opening k i ts n b c = and_then (opened_by i b c) (λ x. k x ts n)

-- a sign that opens a level, and behind it what is read a level further in
pub braced_told : {Y : Type 0} {Is : ℕ → Type 0} {at : Y → ℕ} {step : ℕ} (text : List ℕ) → ((l : Lexeme) → is_sign text l ≡ true → opens l ≡ true) → (i : ℕ) {k : ℕ → Reading Y}
    → ((x : ℕ) → i + 1 ≤ x → Told (λ n. (1 ≤ n) × Is n) at step x (k x)) → Told Is at (1 + step) i (followed (λ ts n. opening_read ts text n i) k)
braced_told {Y} {Is} {at} {step} text opener i {k} inner = record {
  on = λ ts n is. on_by ts n is (stands (is_sign text) ts i) (n == 0) refl;
  further = λ ts n is y e. further_by ts n is (stands (is_sign text) ts i) (n == 0) refl y e;
  within = λ ts n is start. within_by ts n is start (stands (is_sign text) ts i) refl (n == 0) refl;
  alike = λ ts us n w is same levels. alike_by ts us n w is (stands (is_sign text) ts i) refl (n == 0) refl same levels;
  opens = λ ts n is j e. opens_by ts n is (stands (is_sign text) ts i) refl (n == 0) refl j e;
}
  where
    in_ : Told (λ n. (1 ≤ n) × Is n) at step (i + 1) (k (i + 1))
    in_ = inner (i + 1) (omega arith)

    some : (n : ℕ) → (n == 0) ≡ false → 1 ≤ n
    some n e = grind (arith, nat_tests)

    on_by : (ts : List Lexeme) (n : ℕ) → Is n → (b c : Bool) → (n == 0) ≡ c → i ≤ number_of at (behind_opening k i ts n b c)
    on_by ts n is true true z = omega arith
    on_by ts n is true false z = omega (arith, in_.on ts n (some n z, is))
    on_by ts n is false c z = omega arith

    further_by : (ts : List Lexeme) (n : ℕ) → Is n → (b c : Bool) → (n == 0) ≡ c → (y : Y) → behind_opening k i ts n b c ≡ Ok y → i + (1 + step) ≤ at y
    further_by ts n is true true z y e = cc
    further_by ts n is true false z y e = omega (arith, in_.further ts n (some n z, is) y e)
    further_by ts n is false c z y e = cc

    within_by : (ts : List Lexeme) (n : ℕ) → Is n → i ≤ length ts → (b : Bool) → stands (is_sign text) ts i ≡ b → (c : Bool) → (n == 0) ≡ c → number_of at (behind_opening k i ts n b c) ≤ length ts
    within_by ts n is start true s true z = start
    within_by ts n is start true s false z = in_.within ts n (some n z, is) (omega (arith, stands_before (is_sign text) ts i s))
    within_by ts n is start false s c z = start

    alike_by : (ts us : List Lexeme) (n w : ℕ) → Is n → (b : Bool) → stands (is_sign text) ts i ≡ b → (c : Bool) → (n == 0) ≡ c → Same ts us (number_of at (behind_opening k i ts n b c) + 1) → Levels n w (behind_opening k i ts n b c)
        → behind_opening k i us w (stands (is_sign text) us i) (w == 0) ≡ behind_opening k i ts n b c
    alike_by ts us n w is true s true z same levels =
        let t : stands (is_sign text) us i ≡ true = same_stands (is_sign text) ts us (i + 1) i (omega arith) same ∙ s in
        let none : (w == 0) ≡ true = ap (λ (x : ℕ). x == 0) (sym levels) ∙ z in
        rw (t, none) refl
    alike_by ts us n w is true s false z same levels =
        let far = in_.on ts n (some n z, is) in
        let t : stands (is_sign text) us i ≡ true = same_stands (is_sign text) ts us (number_of at (k (i + 1) ts n) + 1) i (omega (arith, far)) same ∙ s in
        let more : n ≤ w = levels_le n w (k (i + 1) ts n) levels in
        let left : (w == 0) ≡ false = grind (arith, nat_tests, some n z, more) in
        rw (t, left) (in_.alike ts us n w (some n z, is) same levels)
    alike_by ts us n w is false s c z same levels =
        let t : stands (is_sign text) us i ≡ false = same_stands (is_sign text) ts us (i + 1) i (omega arith) same ∙ s in
        rw t refl

    opens_by : (ts : List Lexeme) (n : ℕ) → Is n → (b : Bool) → stands (is_sign text) ts i ≡ b → (c : Bool) → (n == 0) ≡ c → (j : ℕ) → behind_opening k i ts n b c ≡ Err (stops.Deep j) → stands opens ts j ≡ true
    opens_by ts n is true s true z j e =
        let here : i ≡ j = cc in
        subst (λ (x : ℕ). stands opens ts x ≡ true) here (passes_too (is_sign text) opens opener ts i s)
    opens_by ts n is true s false z j e = in_.opens ts n (some n z, is) j e
    opens_by ts n is false s c z j e = cc

abbrev name_number : Read Name → ℕ
name_number r = number_of (λ (x : Name × ℕ). x.1) r

pub name_told : {Is : ℕ → Type 0} (i : ℕ) → Told Is (λ (x : Name × ℕ). x.1) 1 i (λ ts n. name_read ts i)
unfolding name_read
name_told {Is} i = record {
  on = λ ts n is. on_by (slice_get ts i);
  further = λ ts n is y e. further_by (slice_get ts i) y e;
  within = λ ts n is start. within_by ts start (slice_get ts i) refl;
  alike = λ ts us n w is same levels. ap (name_at i) (same_get ts us (number_of (λ (x : Name × ℕ). x.1) (name_at i (slice_get ts i)) + 1) i (omega (arith, on_by (slice_get ts i))) same);
  opens = λ ts n is k e. opens_by ts (slice_get ts i) k e;
}
  where
    on_name : (l : Lexeme) (o : Option (List ℕ)) → i ≤ name_number (name_by l i o)
    on_name l (Some text) = omega arith
    on_name l None = omega arith

    on_by : (o : Option Lexeme) → i ≤ name_number (name_at i o)
    on_by (Some l) = on_name l (name_text l.token.kind l.text)
    on_by None = omega arith

    further_name : (l : Lexeme) (o : Option (List ℕ)) (y : Name × ℕ) → name_by l i o ≡ Ok y → i + 1 ≤ y.1
    further_name l (Some text) y e = let here : i + 1 ≡ y.1 = cc in omega arith
    further_name l None y e = cc

    further_by : (o : Option Lexeme) (y : Name × ℕ) → name_at i o ≡ Ok y → i + 1 ≤ y.1
    further_by (Some l) y e = further_name l (name_text l.token.kind l.text) y e
    further_by None y e = cc

    within_name : (ts : List Lexeme) (l : Lexeme) (o : Option (List ℕ)) → i < length ts → name_number (name_by l i o) ≤ length ts
    within_name ts l (Some text) less = omega arith
    within_name ts l None less = omega arith

    within_by : (ts : List Lexeme) → i ≤ length ts → (o : Option Lexeme) → slice_get ts i ≡ o → name_number (name_at i o) ≤ length ts
    within_by ts start (Some l) g = within_name ts l (name_text l.token.kind l.text) (slice_get_within ts i l g)
    within_by ts start None g = start

    opens_name : (ts : List Lexeme) (l : Lexeme) (o : Option (List ℕ)) (k : ℕ) → name_by l i o ≡ Err (stops.Deep k) → stands opens ts k ≡ true
    opens_name ts l (Some text) k e = cc
    opens_name ts l None k e = cc

    opens_by : (ts : List Lexeme) (o : Option Lexeme) (k : ℕ) → name_at i o ≡ Err (stops.Deep k) → stands opens ts k ≡ true
    opens_by ts (Some l) k e = opens_name ts l (name_text l.token.kind l.text) k e
    opens_by ts None k e = cc

-- a token that may be passed
pub skip_told : {Is : ℕ → Type 0} (i : ℕ) (test : List Lexeme → Bool) → ((ts us : List Lexeme) → Same ts us (i + 1) → test us ≡ test ts) → ((ts : List Lexeme) → test ts ≡ true → i < length ts)
    → Told Is itself 0 i (λ ts n. Ok (behind_if (test ts) i))
skip_told {Is} i test seen there = record {
  on = λ ts n is. on_by (test ts);
  further = λ ts n is y e. (let same : behind_if (test ts) i ≡ y = cc in omega (arith, same, on_by (test ts)));
  within = λ ts n is start. within_by ts start (test ts) refl;
  alike = λ ts us n w is same levels. ap (λ (b : Bool). Ok (behind_if b i)) (seen ts us (same_less ts us (i + 1) (behind_if (test ts) i + 1) (omega (arith, on_by (test ts))) same));
  opens = λ ts n is k e. cc;
}
  where
    on_by : (b : Bool) → i ≤ behind_if b i
    on_by true = omega arith
    on_by false = omega arith

    within_by : (ts : List Lexeme) → i ≤ length ts → (b : Bool) → test ts ≡ b → behind_if b i ≤ length ts
    within_by ts start true e = omega (arith, there ts e)
    within_by ts start false e = start

-- a reading behind a token, if that stands there, or another
pub optional_told : {Y : Type 0} {Is : ℕ → Type 0} {at : Y → ℕ} {a b : ℕ} (passes : Lexeme → Bool) (i : ℕ) {m o : Reading Y} → Told Is at a (i + 1) m → Told Is at b i o
    → Told Is at 0 i (λ ts n. if stands passes ts i then m ts n else o ts n)
optional_told {Y} {Is} {at} {a} {b} passes i {m} {o} one other = record {
  on = λ ts n is. on_by ts n is (stands passes ts i);
  further = λ ts n is y e. further_by ts n is (stands passes ts i) y e;
  within = λ ts n is start. within_by ts n is start (stands passes ts i) refl;
  alike = λ ts us n w is same levels. alike_by ts us n w is (stands passes ts i) refl same levels;
  opens = λ ts n is k e. opens_by ts n is (stands passes ts i) k e;
}
  where
    on_by : (ts : List Lexeme) (n : ℕ) → Is n → (c : Bool) → i ≤ number_of at (if c then m ts n else o ts n)
    on_by ts n is true = omega (arith, one.on ts n is)
    on_by ts n is false = other.on ts n is

    further_by : (ts : List Lexeme) (n : ℕ) → Is n → (c : Bool) (y : Y) → (if c then m ts n else o ts n) ≡ Ok y → i + 0 ≤ at y
    further_by ts n is true y e = omega (arith, one.further ts n is y e)
    further_by ts n is false y e = omega (arith, other.further ts n is y e)

    within_by : (ts : List Lexeme) (n : ℕ) → Is n → i ≤ length ts → (c : Bool) → stands passes ts i ≡ c → number_of at (if c then m ts n else o ts n) ≤ length ts
    within_by ts n is start true s = one.within ts n is (omega (arith, stands_before passes ts i s))
    within_by ts n is start false s = other.within ts n is start

    alike_by : (ts us : List Lexeme) (n w : ℕ) → Is n → (c : Bool) → stands passes ts i ≡ c → Same ts us (number_of at (if c then m ts n else o ts n) + 1) → Levels n w (if c then m ts n else o ts n)
        → (if stands passes us i then m us w else o us w) ≡ (if c then m ts n else o ts n)
    alike_by ts us n w is true s same levels =
        let t : stands passes us i ≡ true = same_stands passes ts us (number_of at (m ts n) + 1) i (omega (arith, one.on ts n is)) same ∙ s in
        rw t (one.alike ts us n w is same levels)
    alike_by ts us n w is false s same levels =
        let t : stands passes us i ≡ false = same_stands passes ts us (number_of at (o ts n) + 1) i (omega (arith, other.on ts n is)) same ∙ s in
        rw t (other.alike ts us n w is same levels)

    opens_by : (ts : List Lexeme) (n : ℕ) → Is n → (c : Bool) (k : ℕ) → (if c then m ts n else o ts n) ≡ Err (stops.Deep k) → stands opens ts k ≡ true
    opens_by ts n is true k e = one.opens ts n is k e
    opens_by ts n is false k e = other.opens ts n is k e

-- a reading where no numbers of levels count
pub none_told : {Y : Type 0} {Is : ℕ → Type 0} {at : Y → ℕ} {step i : ℕ} {m : Reading Y} → ((n : ℕ) → Is n → ⊥) → Told Is at step i m
none_told none = record {
  on = λ ts n is. absurd (none n is);
  further = λ ts n is y e. absurd (none n is);
  within = λ ts n is start. absurd (none n is);
  alike = λ ts us n w is same levels. absurd (none n is);
  opens = λ ts n is k e. absurd (none n is);
}

-- a reading where the numbers below each count
pub unbounded : {Y : Type 0} {Is : ℕ → Type 0} {at : Y → ℕ} {step i : ℕ} {m : Reading Y} → ((below : ℕ) → Told (λ n. n < below) at step i m) → Told Is at step i m
unbounded t = record {
  on = λ ts n is. (t (n + 1)).on ts n (omega arith);
  further = λ ts n is y e. (t (n + 1)).further ts n (omega arith) y e;
  within = λ ts n is start. (t (n + 1)).within ts n (omega arith) start;
  alike = λ ts us n w is same levels. (t (n + 1)).alike ts us n w (omega arith) same levels;
  opens = λ ts n is k e. (t (n + 1)).opens ts n (omega arith) k e;
}

-- nothing is read
pub stuck_told : {Y : Type 0} {Is : ℕ → Type 0} {at : Y → ℕ} {step : ℕ} (i : ℕ) → Told Is at step i (λ ts n. Err (stops.Stuck i))
stuck_told i = record {
  on = λ ts n is. omega arith;
  further = λ ts n is y e. cc;
  within = λ ts n is start. start;
  alike = λ ts us n w is same levels. refl;
  opens = λ ts n is k e. cc;
}

-- a reading by the next token, from that on or from behind it
abbrev pub Starts : {Y : Type 0} → (ℕ → Type 0) → (Y → ℕ) → ℕ → Reading Y → Type 0
Starts Is at i m = Told Is at 1 i m ⊎ Told Is at 0 (i + 1) m

abbrev pub by_next : {Y : Type 0} → (Lexeme → Reading Y) → ℕ → Option Lexeme → Reading Y
by_next f i (Some l) ts n = f l ts n
by_next f i None ts n = Err (stops.Stuck i)

pub next_told : {Y : Type 0} {Is : ℕ → Type 0} {at : Y → ℕ} (f : Lexeme → Reading Y) (i : ℕ) → ((l : Lexeme) → Starts Is at i (f l)) → Told Is at 1 i (λ ts n. by_next f i (slice_get ts i) ts n)
next_told {Y} {Is} {at} f i starts = record {
  on = λ ts n is. on_by ts n is (slice_get ts i);
  further = λ ts n is y e. further_by ts n is (slice_get ts i) y e;
  within = λ ts n is start. within_by ts n is start (slice_get ts i) refl;
  alike = λ ts us n w is same levels.
      ap (λ (o : Option Lexeme). by_next f i o us w) (same_get ts us (number_of at (by_next f i (slice_get ts i) ts n) + 1) i (omega (arith, on_by ts n is (slice_get ts i))) same) ∙ alike_by ts us n w is (slice_get ts i) same levels;
  opens = λ ts n is k e. opens_by ts n is (slice_get ts i) k e;
}
  where
    on_by : (ts : List Lexeme) (n : ℕ) → Is n → (o : Option Lexeme) → i ≤ number_of at (by_next f i o ts n)
    on_by ts n is None = omega arith
    on_by ts n is (Some l) = by (starts l)
      where
        by : Starts Is at i (f l) → i ≤ number_of at (f l ts n)
        by (inl t) = t.on ts n is
        by (inr t) = omega (arith, t.on ts n is)

    further_by : (ts : List Lexeme) (n : ℕ) → Is n → (o : Option Lexeme) (y : Y) → by_next f i o ts n ≡ Ok y → i + 1 ≤ at y
    further_by ts n is None y e = cc
    further_by ts n is (Some l) y e = by (starts l)
      where
        by : Starts Is at i (f l) → i + 1 ≤ at y
        by (inl t) = t.further ts n is y e
        by (inr t) = omega (arith, t.further ts n is y e)

    within_by : (ts : List Lexeme) (n : ℕ) → Is n → i ≤ length ts → (o : Option Lexeme) → slice_get ts i ≡ o → number_of at (by_next f i o ts n) ≤ length ts
    within_by ts n is start None g = start
    within_by ts n is start (Some l) g = by (starts l)
      where
        by : Starts Is at i (f l) → number_of at (f l ts n) ≤ length ts
        by (inl t) = t.within ts n is start
        by (inr t) = t.within ts n is (omega (arith, slice_get_within ts i l g))

    alike_by : (ts us : List Lexeme) (n w : ℕ) → Is n → (o : Option Lexeme) → Same ts us (number_of at (by_next f i o ts n) + 1) → Levels n w (by_next f i o ts n) → by_next f i o us w ≡ by_next f i o ts n
    alike_by ts us n w is None same levels = refl
    alike_by ts us n w is (Some l) same levels = by (starts l)
      where
        by : Starts Is at i (f l) → f l us w ≡ f l ts n
        by (inl t) = t.alike ts us n w is same levels
        by (inr t) = t.alike ts us n w is same levels

    opens_by : (ts : List Lexeme) (n : ℕ) → Is n → (o : Option Lexeme) (k : ℕ) → by_next f i o ts n ≡ Err (stops.Deep k) → stands opens ts k ≡ true
    opens_by ts n is None k e = cc
    opens_by ts n is (Some l) k e = by (starts l)
      where
        by : Starts Is at i (f l) → stands opens ts k ≡ true
        by (inl t) = t.opens ts n is k e
        by (inr t) = t.opens ts n is k e

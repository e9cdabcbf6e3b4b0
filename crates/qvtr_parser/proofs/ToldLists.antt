-- What readings of several values one behind the other, of expressions, paths and types answer is told by the tokens up to and
-- with the one at which they end or stop.
use Rattle.std.proofs.Common.{◌≡◌, ℕ, zero, suc, ◌+◌, ◌<◌, ◌≤◌, Bool, true, false, nat_le, List, [], ◌∷◌, ◌++◌, length, take, Ok, Err, ap, sym, ◌∙◌, refl, subst, arith}
use Rattle.std.specs.Prelude.{codes, if◌then◌else◌}
use Rattle.std.proofs.lemmas.Bool.Decides.{nat_tests}
use Rattle.std.proofs.lemmas.List.{length-take}
use Rattle.qv_syntax.specs.declared.expr.Expr.{Expr}
use Rattle.ql_lex.specs.Lexed.{Lexeme}
use Rattle.ql_lex.specs.Lexemes.{is_sign, stands}
use Rattle.ocl_parser.specs.Beginnings.{opens}
use Rattle.ocl_parser.specs.Moves.{extended, path_of}
use Rattle.ocl_parser.specs.Runs.{Answer, Tree, Stuck, Deep, answer}
use Rattle.ocl_parser.specs.Readings.{Read, and_then, expr_read, path_read, read_by}
use Rattle.ocl_parser.specs.declared.halt.Stop.{Stop}
use Rattle.ocl_parser.specs.declared.halt.Stop.TheVariants as stops
use Rattle.ocl_parser.proofs.CompletionAnswers.{deep_is, stuck_is, tree_is}
use Rattle.ocl_parser.proofs.CompletionExact.{answer_wider, number_of as token_of}
use Rattle.ocl_parser.proofs.FollowLaws.{answer_alike}
use Rattle.ocl_parser.proofs.Local.{spelled_end}
use Rattle.qvtr_parser.specs.Lists.{any_read, comma_at, each_read, left, more_read, some_read}
use Rattle.qvtr_parser.proofs.CompleteLists.{stands_before}
use Rattle.qvtr_parser.proofs.LoopLaws.{each_ends}
use Rattle.qvtr_parser.proofs.PastLaws.{expr_past}
use Rattle.qvtr_parser.proofs.Told.{Levels, Same, Told, choice, levels_le, loosen, name_told, number_of, optional_told, same_get, same_less, same_stands, sequence, stop_at, told_by, whole}

-- ---- values one behind the other

abbrev pub ends_at : {A : Type 0} → A × ℕ → ℕ
ends_at x = x.1

-- a test of a token, which none passes behind the last
pub record Test (go : List Lexeme → ℕ → Bool) : Type 0 where
  pub there : (ts : List Lexeme) (j : ℕ) → go ts j ≡ true → j < length ts
  pub seen : (ts us : List Lexeme) (j : ℕ) → Same ts us (j + 1) → go us j ≡ go ts j

pub test_of_token : (passes : Lexeme → Bool) → Test (λ ts j. stands passes ts j)
test_of_token passes = record { there = stands_before passes; seen = λ ts us j same. same_stands passes ts us (j + 1) j (omega arith) same }

-- a text of which so many tokens are the same as those of another is no longer where that ends
as_long : (ts us : List Lexeme) (i : ℕ) → length ts ≤ i → Same ts us (i + 1) → length us ≤ i
as_long ts us i past same =
    let long : length (take (i + 1) us) ≡ length (take (i + 1) ts) = ap length same in
    omega (arith, long, length-take (i + 1) us, length-take (i + 1) ts)

-- Where values are read one behind the other: how many tokens behind the one that is tested a value begins, and where the list ends
-- behind the last.
pub record Listed {A : Type 0} (Is : ℕ → Type 0) (go : List Lexeme → ℕ → Bool) (d : ℕ) (end : List Lexeme → ℕ → ℕ) (read : List Lexeme → ℕ → ℕ → Read A) : Type 0 where
  pub one : (j : ℕ) → Told Is ends_at 1 (j + d) (λ ts n. read ts n j)
  pub there : (ts : List Lexeme) (j : ℕ) → go ts j ≡ true → j + d ≤ length ts
  pub before : (ts : List Lexeme) (j : ℕ) → go ts j ≡ true → j < length ts
  pub goes : (ts us : List Lexeme) (j : ℕ) → go ts j ≡ true → Same ts us (j + d + 1) → go us j ≡ true
  pub stays : (ts us : List Lexeme) (j : ℕ) → go ts j ≡ false → Same ts us (end ts j + 1) → (go us j ≡ false) × (end us j ≡ end ts j)
  pub on : (ts : List Lexeme) (j : ℕ) → j ≤ end ts j
  pub within : (ts : List Lexeme) (j : ℕ) → j ≤ length ts → end ts j ≤ length ts

abbrev finished : {A : Type 0} → (List Lexeme → ℕ → ℕ) → List Lexeme → Read (List A) → Read (List A)
finished end ts r = and_then r (λ xs. Ok (xs.0, end ts xs.1))

abbrev listed : {A : Type 0} → (List Lexeme → ℕ → Bool) → (List Lexeme → ℕ → ℕ) → (List Lexeme → ℕ → ℕ → Read A) → List Lexeme → ℕ → ℕ → List A → ℕ → Read (List A)
listed go end read ts n count before at = finished end ts (each_read (go ts) (read ts n) count before at)

-- behind one value
abbrev behind_one : {A : Type 0} → (List Lexeme → ℕ → Bool) → (List Lexeme → ℕ → ℕ) → (List Lexeme → ℕ → ℕ → Read A) → List Lexeme → ℕ → ℕ → List A → Read A → Read (List A)
behind_one go end read ts n count before q = finished end ts (and_then q (λ x. each_read (go ts) (read ts n) count (before ++ x.0 ∷ []) x.1))

abbrev one_step : {A : Type 0} → (List Lexeme → ℕ → Bool) → (List Lexeme → ℕ → ℕ) → (List Lexeme → ℕ → ℕ → Read A) → List Lexeme → ℕ → ℕ → List A → ℕ → Bool → Read (List A)
one_step go end read ts n count before at b =
    finished end ts (if b then and_then (read ts n at) (λ x. each_read (go ts) (read ts n) count (before ++ x.0 ∷ []) x.1) else Ok (before, at))

abbrev Bounds : {A : Type 0} → List Lexeme → ℕ → Read (List A) → Type 0
Bounds ts at r = (at ≤ number_of ends_at r) × (at ≤ length ts → number_of ends_at r ≤ length ts)

bounds_by : {A : Type 0} {Is : ℕ → Type 0} (go : List Lexeme → ℕ → Bool) (d : ℕ) (end : List Lexeme → ℕ → ℕ) (read : List Lexeme → ℕ → ℕ → Read A) → Listed Is go d end read → (ts : List Lexeme) (n : ℕ) → Is n
    → (count : ℕ) (before : List A) (at : ℕ) → ((xs : List A) (j : ℕ) → Bounds ts j (listed go end read ts n count xs j)) → (b : Bool) → go ts at ≡ b → Bounds ts at (one_step go end read ts n count before at b)
bounds_by {A} {Is} go d end read l ts n is count before at rest false g = (l.on ts at, l.within ts at)
bounds_by {A} {Is} go d end read l ts n is count before at rest true g = by (read ts n at) refl
  where
    by : (q : Read A) → read ts n at ≡ q → Bounds ts at (behind_one go end read ts n count before q)
    by (Ok x) e =
        let far = (l.one at).further ts n is x e in
        let more = rest (before ++ x.0 ∷ []) x.1 in
        (omega (arith, far, more.0), λ start. more.1 (subst (λ (q : Read A). number_of ends_at q ≤ length ts) e ((l.one at).within ts n is (l.there ts at g))))
    by (Err s) e =
        let far : at + d ≤ stop_at s = subst (λ (q : Read A). at + d ≤ number_of ends_at q) e ((l.one at).on ts n is) in
        (omega (arith, far), λ start. subst (λ (q : Read A). number_of ends_at q ≤ length ts) e ((l.one at).within ts n is (l.there ts at g)))

bounds : {A : Type 0} {Is : ℕ → Type 0} (go : List Lexeme → ℕ → Bool) (d : ℕ) (end : List Lexeme → ℕ → ℕ) (read : List Lexeme → ℕ → ℕ → Read A) → Listed Is go d end read → (ts : List Lexeme) (n : ℕ) → Is n
    → (count : ℕ) (before : List A) (at : ℕ) → Bounds ts at (listed go end read ts n count before at)
unfolding each_read
bounds go d end read l ts n is zero before at = (l.on ts at, l.within ts at)
bounds go d end read l ts n is (suc count) before at = bounds_by go d end read l ts n is count before at (λ xs j. bounds go d end read l ts n is count xs j) (go ts at) refl

none_there : {A : Type 0} {Is : ℕ → Type 0} (go : List Lexeme → ℕ → Bool) (d : ℕ) (end : List Lexeme → ℕ → ℕ) (read : List Lexeme → ℕ → ℕ → Read A) → Listed Is go d end read → (us : List Lexeme) (at : ℕ) → length us ≤ at → go us at ≡ false
none_there go d end read l us at past = by (go us at) refl
  where
    by : (b : Bool) → go us at ≡ b → b ≡ false
    by true e = absurd (omega (arith, past, l.before us at e))
    by false e = refl

stopped : (X Y : Type 0) (n w : ℕ) (s : Stop) → Levels {Y = X} n w (Err s) → Levels {Y = Y} n w (Err s)
stopped X Y n w (stops.Stuck k) h = h
stopped X Y n w (stops.Deep k) h = h

ended : {A : Type 0} {Is : ℕ → Type 0} (go : List Lexeme → ℕ → Bool) (d : ℕ) (end : List Lexeme → ℕ → ℕ) (read : List Lexeme → ℕ → ℕ → Read A) → Listed Is go d end read → (ts us : List Lexeme) (w other : ℕ) (before : List A) (at : ℕ)
    → go ts at ≡ false → Same ts us (end ts at + 1) → listed go end read us w other before at ≡ Ok (before, end ts at)
ended {A} go d end read l ts us w other before at g same =
    let s = l.stays ts us at g same in
    ap (finished end us) (each_ends (go us) (read us w) other before at s.0) ∙ ap (λ (k : ℕ). Ok (before, k)) s.1

alike_by : {A : Type 0} {Is : ℕ → Type 0} (go : List Lexeme → ℕ → Bool) (d : ℕ) (end : List Lexeme → ℕ → ℕ) (read : List Lexeme → ℕ → ℕ → Read A) → Listed Is go d end read → (ts us : List Lexeme) (n w : ℕ) → Is n
    → (count other : ℕ) (before : List A) (at : ℕ) → length ts ≤ at + suc count → length us ≤ at + other
    → ((more : ℕ) (xs : List A) (j : ℕ) → length ts ≤ j + count → length us ≤ j + more → Same ts us (number_of ends_at (listed go end read ts n count xs j) + 1) → Levels n w (listed go end read ts n count xs j)
    → listed go end read us w more xs j ≡ listed go end read ts n count xs j)
    → (b : Bool) → go ts at ≡ b → Same ts us (number_of ends_at (one_step go end read ts n count before at b) + 1) → Levels n w (one_step go end read ts n count before at b)
    → listed go end read us w other before at ≡ one_step go end read ts n count before at b
unfolding each_read
alike_by {A} {Is} go d end read l ts us n w is count other before at enough also rest false g same levels = ended go d end read l ts us w other before at g same
alike_by {A} {Is} go d end read l ts us n w is count other before at enough also rest true g same levels =
    let far = first_on (read ts n at) refl in
    let seen : go us at ≡ true = l.goes ts us at g (same_less ts us (at + d + 1) (number_of ends_at (one_step go end read ts n count before at true) + 1) (omega (arith, far)) same) in
    by_other other also (l.before us at seen) seen
  where
    first_on : (q : Read A) → read ts n at ≡ q → at + d ≤ number_of ends_at (behind_one go end read ts n count before q)
    first_on (Ok x) e = omega (arith, (l.one at).further ts n is x e, (bounds go d end read l ts n is count (before ++ x.0 ∷ []) x.1).0)
    first_on (Err s) e = subst (λ (q : Read A). at + d ≤ number_of ends_at q) e ((l.one at).on ts n is)

    by : (more : ℕ) → length us ≤ at + suc more → (q : Read A) → read ts n at ≡ q → Same ts us (number_of ends_at (behind_one go end read ts n count before q) + 1) → Levels n w (behind_one go end read ts n count before q)
        → behind_one go end read us w more before (read us w at) ≡ behind_one go end read ts n count before q
    by more enough_us (Ok x) e same levels =
        let far = (l.one at).further ts n is x e in
        let on = (bounds go d end read l ts n is count (before ++ x.0 ∷ []) x.1).0 in
        let here : number_of ends_at (read ts n at) ≡ x.1 = ap (number_of ends_at) e in
        let same_here : Same ts us (number_of ends_at (read ts n at) + 1) = same_less ts us (number_of ends_at (read ts n at) + 1) (number_of ends_at (listed go end read ts n count (before ++ x.0 ∷ []) x.1) + 1) (omega (arith, here, on)) same in
        let levels_here : Levels n w (read ts n at) = subst (Levels n w) (sym e) (levels_le n w (listed go end read ts n count (before ++ x.0 ∷ []) x.1) levels) in
        ap (behind_one go end read us w more before) ((l.one at).alike ts us n w is same_here levels_here ∙ e) ∙ rest more (before ++ x.0 ∷ []) x.1 (omega (arith, enough, far)) (omega (arith, enough_us, far)) same levels
    by more enough_us (Err s) e same levels =
        let here : number_of ends_at (read ts n at) ≡ stop_at s = ap (number_of ends_at) e in
        let same_here : Same ts us (number_of ends_at (read ts n at) + 1) = subst (λ (k : ℕ). Same ts us (k + 1)) (sym here) same in
        let levels_here : Levels n w (read ts n at) = subst (Levels n w) (sym e) (stopped (List A × ℕ) (A × ℕ) n w s levels) in
        ap (behind_one go end read us w more before) ((l.one at).alike ts us n w is same_here levels_here ∙ e)

    by_other : (o : ℕ) → length us ≤ at + o → at < length us → go us at ≡ true → listed go end read us w o before at ≡ behind_one go end read ts n count before (read ts n at)
    by_other zero few less seen = absurd (omega (arith, few, less))
    by_other (suc more) few less seen = rw seen (by more few (read ts n at) refl same levels)

pub alike_listed : {A : Type 0} {Is : ℕ → Type 0} (go : List Lexeme → ℕ → Bool) (d : ℕ) (end : List Lexeme → ℕ → ℕ) (read : List Lexeme → ℕ → ℕ → Read A) → Listed Is go d end read → (ts us : List Lexeme) (n w : ℕ) → Is n
    → (count other : ℕ) (before : List A) (at : ℕ) → length ts ≤ at + count → length us ≤ at + other → Same ts us (number_of ends_at (listed go end read ts n count before at) + 1) → Levels n w (listed go end read ts n count before at)
    → listed go end read us w other before at ≡ listed go end read ts n count before at
unfolding each_read
alike_listed go d end read l ts us n w is zero other before at enough also same levels =
    ended go d end read l ts us w other before at (none_there go d end read l ts at (omega (arith, enough))) same
alike_listed go d end read l ts us n w is (suc count) other before at enough also same levels =
    alike_by go d end read l ts us n w is count other before at enough also (λ more xs j. alike_listed go d end read l ts us n w is count more xs j) (go ts at) refl same levels

opens_by : {A : Type 0} {Is : ℕ → Type 0} (go : List Lexeme → ℕ → Bool) (d : ℕ) (end : List Lexeme → ℕ → ℕ) (read : List Lexeme → ℕ → ℕ → Read A) → Listed Is go d end read → (ts : List Lexeme) (n : ℕ) → Is n
    → (count : ℕ) (before : List A) (at k : ℕ) → ((xs : List A) (j : ℕ) → listed go end read ts n count xs j ≡ Err (stops.Deep k) → stands opens ts k ≡ true)
    → (b : Bool) → one_step go end read ts n count before at b ≡ Err (stops.Deep k) → stands opens ts k ≡ true
opens_by {A} {Is} go d end read l ts n is count before at k rest false h = cc
opens_by {A} {Is} go d end read l ts n is count before at k rest true h = by (read ts n at) refl h
  where
    by : (q : Read A) → read ts n at ≡ q → behind_one go end read ts n count before q ≡ Err (stops.Deep k) → stands opens ts k ≡ true
    by (Ok x) e h = rest (before ++ x.0 ∷ []) x.1 h
    by (Err s) e h = (l.one at).opens ts n is k (e ∙ (let same : s ≡ stops.Deep k = cc in ap (λ (x : Stop). Err x) same))

opens_listed : {A : Type 0} {Is : ℕ → Type 0} (go : List Lexeme → ℕ → Bool) (d : ℕ) (end : List Lexeme → ℕ → ℕ) (read : List Lexeme → ℕ → ℕ → Read A) → Listed Is go d end read → (ts : List Lexeme) (n : ℕ) → Is n
    → (count : ℕ) (before : List A) (at k : ℕ) → listed go end read ts n count before at ≡ Err (stops.Deep k) → stands opens ts k ≡ true
unfolding each_read
opens_listed go d end read l ts n is zero before at k h = cc
opens_listed go d end read l ts n is (suc count) before at k h = opens_by go d end read l ts n is count before at k (λ xs j. opens_listed go d end read l ts n is count xs j k) (go ts at) h

pub listed_told : {A : Type 0} {Is : ℕ → Type 0} (go : List Lexeme → ℕ → Bool) (d : ℕ) (end : List Lexeme → ℕ → ℕ) (read : List Lexeme → ℕ → ℕ → Read A) → Listed Is go d end read → (before : List A) (i : ℕ)
    → Told Is ends_at 0 i (λ ts n. and_then (each_read (go ts) (read ts n) (left ts i) before i) (λ xs. Ok (xs.0, end ts xs.1)))
listed_told {A} {Is} go d end read l before i = record {
  on = λ ts n is. (bounds go d end read l ts n is (left ts i) before i).0;
  further = λ ts n is y e. (
      let far = (bounds go d end read l ts n is (left ts i) before i).0 in
      let here : number_of ends_at (listed go end read ts n (left ts i) before i) ≡ y.1 = ap (number_of ends_at) e in
      omega (arith, far, here));
  within = λ ts n is start. (bounds go d end read l ts n is (left ts i) before i).1 start;
  alike = λ ts us n w is same levels. alike_listed go d end read l ts us n w is (left ts i) (left us i) before i (omega arith) (omega arith) same levels;
  opens = λ ts n is k e. opens_listed go d end read l ts n is (left ts i) before i k e;
}

-- the list ends where no value follows
pub unfinished : {A : Type 0} (r : Read (List A)) → and_then r (λ xs. Ok (xs.0, xs.1)) ≡ r
unfinished (Ok xs) = refl
unfinished (Err s) = refl

pub each_told : {A : Type 0} {Is : ℕ → Type 0} (go : List Lexeme → ℕ → Bool) → Test go → (d : ℕ) → d ≤ 1 → (read : List Lexeme → ℕ → ℕ → Read A) → ((j : ℕ) → Told Is ends_at 1 (j + d) (λ ts n. read ts n j))
    → (before : List A) (i : ℕ) → Told Is ends_at 0 i (λ ts n. each_read (go ts) (read ts n) (left ts i) before i)
each_told {A} {Is} go test d small read one before i = told_by (λ ts n. unfinished (each_read (go ts) (read ts n) (left ts i) before i)) (listed_told go d (λ ts j. j) read (record {
  one = one;
  there = λ ts j g. omega (arith, small, test.there ts j g);
  before = test.there;
  goes = λ ts us j g same. test.seen ts us j (same_less ts us (j + 1) (j + d + 1) (omega arith) same) ∙ g;
  stays = λ ts us j g same. (test.seen ts us j same ∙ g, refl);
  on = λ ts j. omega arith;
  within = λ ts j start. start;
}) before i)

-- values with commas between them, and behind those before
pub more_told : {A : Type 0} {Is : ℕ → Type 0} (read : List Lexeme → ℕ → ℕ → Read A) → ((j : ℕ) → Told Is ends_at 1 j (λ ts n. read ts n j)) → (before : List A) (i : ℕ) → Told Is ends_at 0 i (λ ts n. more_read ts (read ts n) before i)
more_told {A} {Is} read one before i = each_told comma_at (test_of_token (is_sign (codes ","))) 1 (omega arith) (λ ts n j. read ts n (j + 1)) (λ j. one (j + 1)) before i

pub some_told : {A : Type 0} {Is : ℕ → Type 0} (read : List Lexeme → ℕ → ℕ → Read A) → ((j : ℕ) → Told Is ends_at 1 j (λ ts n. read ts n j)) → (i : ℕ) → Told Is ends_at 1 i (λ ts n. some_read ts (read ts n) i)
some_told {A} {Is} read one i = sequence (one i) (λ x far. more_told read one (x.0 ∷ []) x.1)

pub any_told : {A : Type 0} {Is : ℕ → Type 0} (close : List ℕ) (read : List Lexeme → ℕ → ℕ → Read A) → ((j : ℕ) → Told Is ends_at 1 j (λ ts n. read ts n j)) → (i : ℕ) → Told Is ends_at 0 i (λ ts n. any_read ts close (read ts n) i)
any_told {A} {Is} close read one i = choice (λ ts. stands (is_sign close) ts i) (λ ts us same. same_stands (is_sign close) ts us (i + 1) i (omega arith) same) (whole i (λ ts. []) (λ ts us same. refl)) (loosen 0 (omega arith) (some_told read one i))

-- ---- expressions

abbrev answer_number : Answer → ℕ
answer_number a = number_of ends_at (read_by a)

pub expr_told : {Is : ℕ → Type 0} (i : ℕ) → Told Is ends_at 1 i (λ ts n. expr_read ts n i)
unfolding expr_read
expr_told {Is} i = record {
  on = λ ts n is. on_by ts n (answer ts n i) refl (nat_le i (length ts)) refl;
  further = λ ts n is y e. further_by ts n (answer ts n i) refl (nat_le i (length ts)) refl y e;
  within = λ ts n is start. within_by ts n start (answer ts n i) refl;
  alike = λ ts us n w is same levels. ap read_by (alike_by ts us n w (answer ts n i) refl (nat_le i (length ts)) refl same levels);
  opens = λ ts n is k e. opens_by ts n (answer ts n i) refl (nat_le i (length ts)) refl k e;
}
  where
    start_of_it : (ts : List Lexeme) → nat_le i (length ts) ≡ true → i ≤ length ts
    start_of_it ts c = grind (arith, nat_tests)

    behind : (ts : List Lexeme) → nat_le i (length ts) ≡ false → length ts ≤ i
    behind ts c = grind (arith, nat_tests)

    stuck_is_at : (ts : List Lexeme) (n : ℕ) (a : Answer) → answer ts n i ≡ a → nat_le i (length ts) ≡ false → a ≡ Stuck i
    stuck_is_at ts n a e c = sym e ∙ expr_past ts n i (behind ts c)

    on_by : (ts : List Lexeme) (n : ℕ) (a : Answer) → answer ts n i ≡ a → (c : Bool) → nat_le i (length ts) ≡ c → i ≤ answer_number a
    on_by ts n (Tree tree k) e true c = ((tree_is ts n i tree k (start_of_it ts c)).0 e).longest.from_on
    on_by ts n (Stuck k) e true c = ((stuck_is ts n i k (start_of_it ts c)).0 e).longest.from_on
    on_by ts n (Deep k) e true c = ((deep_is ts n i k (start_of_it ts c)).0 e).from_on
    on_by ts n a e false c = let same : answer_number a ≡ i = ap answer_number (stuck_is_at ts n a e c) in omega (arith, same)

    further_by : (ts : List Lexeme) (n : ℕ) (a : Answer) → answer ts n i ≡ a → (c : Bool) → nat_le i (length ts) ≡ c → (y : Expr × ℕ) → read_by a ≡ Ok y → i + 1 ≤ y.1
    further_by ts n (Tree tree k) e true c y h =
        let same : k ≡ y.1 = cc in
        let t = (tree_is ts n i tree k (start_of_it ts c)).0 e in
        omega (arith, same, (spelled_end ts n tree i k t.spelled).0)
    further_by ts n (Tree tree k) e false c y h = let no : Stuck i ≡ Tree tree k = sym (stuck_is_at ts n (Tree tree k) e c) in cc
    further_by ts n (Stuck k) e c d y h = cc
    further_by ts n (Deep k) e c d y h = cc

    within_by : (ts : List Lexeme) (n : ℕ) → i ≤ length ts → (a : Answer) → answer ts n i ≡ a → answer_number a ≤ length ts
    within_by ts n start (Tree tree k) e = ((tree_is ts n i tree k start).0 e).longest.within
    within_by ts n start (Stuck k) e = ((stuck_is ts n i k start).0 e).longest.within
    within_by ts n start (Deep k) e = let d = (deep_is ts n i k start).0 e in omega (arith, stands_before opens ts k d.opens)

    opens_by : (ts : List Lexeme) (n : ℕ) (a : Answer) → answer ts n i ≡ a → (c : Bool) → nat_le i (length ts) ≡ c → (k : ℕ) → read_by a ≡ Err (stops.Deep k) → stands opens ts k ≡ true
    opens_by ts n (Tree tree j) e c d k h = cc
    opens_by ts n (Stuck j) e c d k h = cc
    opens_by ts n (Deep j) e true d k h = let same : j ≡ k = cc in subst (λ (x : ℕ). stands opens ts x ≡ true) same ((deep_is ts n i j (start_of_it ts d)).0 e).opens
    opens_by ts n (Deep j) e false d k h = let no : Stuck i ≡ Deep j = sym (stuck_is_at ts n (Deep j) e d) in cc

    wider : (ts : List Lexeme) (n w : ℕ) (a : Answer) → answer ts n i ≡ a → Levels n w (read_by a) → answer ts w i ≡ a
    wider ts n w (Tree tree k) e levels = answer_wider n w levels ts i (Tree tree k) refl e
    wider ts n w (Stuck k) e levels = answer_wider n w levels ts i (Stuck k) refl e
    wider ts n w (Deep k) e levels = ap (λ (x : ℕ). answer ts x i) (sym levels) ∙ e

    told_number : (a : Answer) → answer_number a ≡ token_of a
    told_number (Tree tree k) = refl
    told_number (Stuck k) = refl
    told_number (Deep k) = refl

    alike_by : (ts us : List Lexeme) (n w : ℕ) (a : Answer) → answer ts n i ≡ a → (c : Bool) → nat_le i (length ts) ≡ c → Same ts us (answer_number a + 1) → Levels n w (read_by a) → answer us w i ≡ a
    alike_by ts us n w a e true c same levels =
        let k : answer_number a ≡ token_of a = told_number a in
        let here : Same ts us (token_of a) = same_less ts us (token_of a) (answer_number a + 1) (omega (arith, k)) same in
        answer_alike ts us w i a (start_of_it ts c) (wider ts n w a e levels) here (same_get ts us (answer_number a + 1) (token_of a) (omega (arith, k)) same)
    alike_by ts us n w a e false c same levels =
        let stuck : a ≡ Stuck i = stuck_is_at ts n a e c in
        let k : answer_number a ≡ i = ap answer_number stuck in
        let here : Same ts us (i + 1) = subst (λ (x : ℕ). Same ts us (x + 1)) k same in
        expr_past us w i (as_long ts us i (behind ts c) here) ∙ sym stuck

-- ---- paths and types

pub path_told : {Is : ℕ → Type 0} (i : ℕ) → Told Is ends_at 1 i (λ ts n. path_read ts i)
unfolding path_read
path_told {Is} i = sequence (name_told i) (λ f far. optional_told (is_sign (codes "::")) f.1
    (sequence (name_told (f.1 + 1)) (λ s more. whole s.1 (λ ts. extended (path_of f.0) s.0) (λ ts us same. refl)))
    (whole f.1 (λ ts. path_of f.0) (λ ts us same. refl)))

-- Values that are read one behind the other.
use Rattle.std.proofs.Common.{◌≡◌, ℕ, zero, suc, ◌+◌, ◌<◌, Bool, true, false, List, [], ◌∷◌, ◌++◌, map, length, Some, Ok, sym, ◌∙◌, refl, subst, arith, nat_lt}
use Rattle.std.specs.Prelude.{codes, if◌then◌else◌}
use Rattle.std.proofs.lemmas.Bool.Decides.{nat_tests}
use Rattle.std.proofs.lemmas.List.{append-nil, append_assoc, length-map}
use Rattle.std.proofs.lemmas.Simd.{map-map}
use Rattle.ql_lex.specs.Lexed.{Lexeme}
use Rattle.ql_lex.specs.Lexemes.{is_sign, stands}
use Rattle.ocl_parser.specs.Pieces.{Piece, ◌▸◌, sign, each, separated}
use Rattle.ocl_parser.specs.Readings.{Read, and_then}
use Rattle.qvtr_parser.proofs.FoundLaws.{inverted, same_ok}
use Rattle.ocl_parser.proofs.PieceLaws.{both, each_none, token_taken}
use Rattle.qvtr_parser.specs.Lists.{each_read, more_read, some_read, any_read, comma_at, behind_sign, left}
use Rattle.qvtr_parser.specs.Grammar.{some_with_commas}

-- ---- what is read is spelled

-- each value that is read where its test holds is spelled
abbrev pub IsFound : {A : Type 0} → (ℕ → Bool) → (ℕ → Read A) → (A → Piece) → ℕ → Type 0
IsFound {A = A} goes_on read p n = (i : ℕ) (x : A × ℕ) → goes_on i ≡ true → read i ≡ Ok x → p x.0 n i ≡ Some x.1

-- the values that were read, and what spells them
pub record Found {A : Type 0} (p : A → Piece) (n : ℕ) (before : List A) (at : ℕ) (z : List A × ℕ) : Type 0 where
  pub more : List A
  pub all : z.0 ≡ before ++ more
  pub spelled : each (map p more) n at ≡ Some z.1

none_found : {A : Type 0} (p : A → Piece) (n : ℕ) (before : List A) (at : ℕ) (z : List A × ℕ) → (before, at) ≡ z → Found p n before at z
none_found p n before at z e = subst (Found p n before at) e (record { more = []; all = sym (append-nil before); spelled = each_none n at })

one_found : {A : Type 0} (p : A → Piece) (n : ℕ) (before : List A) (at : ℕ) (x : A × ℕ) (z : List A × ℕ) → p x.0 n at ≡ Some x.1 → Found p n (before ++ x.0 ∷ []) x.1 z → Found p n before at z
unfolding each
one_found p n before at x z first f = record {
  more = x.0 ∷ f.more;
  all = f.all ∙ append_assoc before (x.0 ∷ []) f.more;
  spelled = both (p x.0) (each (map p f.more)) n at x.1 z.1 first f.spelled;
}

pub each_found : {A : Type 0} (goes_on : ℕ → Bool) (read : ℕ → Read A) (p : A → Piece) (n : ℕ) → IsFound goes_on read p n
    → (count : ℕ) (before : List A) (at : ℕ) (z : List A × ℕ) → each_read goes_on read count before at ≡ Ok z → Found p n before at z
unfolding each_read
each_found goes_on read p n found zero before at z e = none_found p n before at z (same_ok _ z e)
each_found {A = A} goes_on read p n found (suc count) before at z e =
    by (goes_on at) refl e (λ x a. each_found goes_on read p n found count (before ++ x.0 ∷ []) x.1 z a)
  where
    by : (b : Bool) → goes_on at ≡ b → (if b then and_then (read at) (λ x. each_read goes_on read count (before ++ x.0 ∷ []) x.1) else Ok (before, at)) ≡ Ok z
        → ((x : A × ℕ) → each_read goes_on read count (before ++ x.0 ∷ []) x.1 ≡ Ok z → Found p n (before ++ x.0 ∷ []) x.1 z) → Found p n before at z
    by true g a more =
        let b = inverted (read at) (λ (x : A × ℕ). each_read goes_on read count (before ++ x.0 ∷ []) x.1) z a in
        one_found p n before at b.0 z (found at b.0 g b.1) (more b.0 b.2)
    by false g a more = none_found p n before at z (same_ok _ z a)

-- values with commas between them
pub some_found : {A : Type 0} (ts : List Lexeme) (read : ℕ → Read A) (p : A → Piece) (n : ℕ) → ((i : ℕ) (x : A × ℕ) → read i ≡ Ok x → p x.0 n i ≡ Some x.1)
    → (i : ℕ) (z : List A × ℕ) → some_read ts read i ≡ Ok z → (0 < length z.0) × (separated ts (codes ",") (map p z.0) n i ≡ Some z.1)
unfolding separated
some_found {A = A} ts read p n found i z e =
    let a = inverted (read i) (λ (x : A × ℕ). more_read ts read (x.0 ∷ []) x.1) z e in
    let comma : A → Piece = λ x. sign ts (codes ",") ▸ p x in
    let f = each_found (comma_at ts) (behind_sign read) comma n
    (λ j y g r. both (sign ts (codes ",")) (p y.0) n j (j + 1) y.1 (token_taken (is_sign (codes ",")) ts n j g) (found (j + 1) y r))
    (left ts a.0.1) (a.0.0 ∷ []) a.0.1 z a.2 in
    let behind : map (λ q. sign ts (codes ",") ▸ q) (map p f.more) ≡ map comma f.more = map-map (λ (q : Piece). sign ts (codes ",") ▸ q) p f.more in
    rw (f.all) (omega arith, both (p a.0.0) (each (map (λ q. sign ts (codes ",") ▸ q) (map p f.more))) n i a.0.1 z.1 (found i a.0 a.1) (rw behind f.spelled))

pub commas_found : {A : Type 0} (ts : List Lexeme) (read : ℕ → Read A) (p : A → Piece) (n : ℕ) → ((i : ℕ) (x : A × ℕ) → read i ≡ Ok x → p x.0 n i ≡ Some x.1)
    → (i : ℕ) (z : List A × ℕ) → some_read ts read i ≡ Ok z → some_with_commas ts (map p z.0) n i ≡ Some z.1
unfolding some_with_commas
commas_found ts read p n found i z e =
    let a = some_found ts read p n found i z e in
    let some : nat_lt 0 (length (map p z.0)) ≡ true = grind (arith, nat_tests, length-map z.0 p, a.0) in
    rw some a.1

pub any_found : {A : Type 0} (ts : List Lexeme) (close : List ℕ) (read : ℕ → Read A) (p : A → Piece) (n : ℕ) → ((i : ℕ) (x : A × ℕ) → read i ≡ Ok x → p x.0 n i ≡ Some x.1)
    → (i : ℕ) (z : List A × ℕ) → any_read ts close read i ≡ Ok z → separated ts (codes ",") (map p z.0) n i ≡ Some z.1
unfolding separated
any_found {A = A} ts close read p n found i z e = by (stands (is_sign close) ts i) e
  where
    by : (b : Bool) → (if b then Ok ([], i) else some_read ts read i) ≡ Ok z → separated ts (codes ",") (map p z.0) n i ≡ Some z.1
    by true a = subst (λ (y : List A × ℕ). separated ts (codes ",") (map p y.0) n i ≡ Some y.1) (same_ok _ z a) refl
    by false a = (some_found ts read p n found i z a).1

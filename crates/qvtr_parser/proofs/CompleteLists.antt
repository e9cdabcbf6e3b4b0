-- What is spelled is read: values one behind the other.
use Rattle.std.proofs.Common.{◌≡◌, ℕ, zero, suc, ◌+◌, ◌<◌, ◌≤◌, Bool, true, false, List, [], ◌∷◌, ◌++◌, map, length, Some, Ok, ap, sym, ◌∙◌, subst, arith}
use Rattle.std.specs.Prelude.{codes}
use Rattle.std.proofs.lemmas.List.{append-nil, append_assoc}
use Rattle.std.proofs.lemmas.Simd.{map-map}
use Rattle.std.proofs.lemmas.Option.{slice_get_within}
use Rattle.ql_lex.specs.Lexed.{Lexeme}
use Rattle.ql_lex.specs.Lexemes.{is_sign, stands}
use Rattle.ocl_parser.specs.Pieces.{Piece, ◌▸◌, each, separated, sign}
use Rattle.ocl_parser.specs.Readings.{Read}
use Rattle.ocl_parser.proofs.CompletePieces.{parts, taken}
use Rattle.ocl_parser.proofs.CompleteLists.{AllOf}
use Rattle.ocl_parser.proofs.CompleteRuns.{there}
use Rattle.qvtr_parser.specs.Lists.{any_read, behind_sign, comma_at, each_read, left, some_read}
use Rattle.ocl_parser.proofs.ReadingComplete.{Reads}
use Rattle.qvtr_parser.proofs.LoopLaws.{each_ends}

-- a test that a token passes
pub stands_before : (passes : Lexeme → Bool) (ts : List Lexeme) (i : ℕ) → stands passes ts i ≡ true → i < length ts
stands_before passes ts i e = let t = there passes ts i e in slice_get_within ts i t.0 t.1

-- the value is read where its piece stands and what follows it may
abbrev pub IsReadFrom : {A : Type 0} → (ℕ → Type 0) → (ℕ → Read A) → (A → Piece) → ℕ → A → Type 0
IsReadFrom Before read p n x = (i j : ℕ) → p x n i ≡ Some j → Before j → Reads read x i j

pub each_of : {A : Type 0} (P : A → Type 0) → ((x : A) → P x) → (xs : List A) → AllOf P xs
each_of P all [] = tt
each_of P all (x ∷ xs) = (all x, each_of P all xs)

-- what is known of a loop: its test is passed by tokens, where a piece begins, and behind each value that another follows
pub record Loop {A : Type 0} (ts : List Lexeme) (goes : ℕ → Bool) (Before : ℕ → Type 0) (p : A → Piece) (n : ℕ) : Type 0 where
  pub within : (j : ℕ) → goes j ≡ true → j < length ts
  pub begins : (x : A) (i j : ℕ) → p x n i ≡ Some j → Before j → goes i ≡ true
  pub between : (j : ℕ) → goes j ≡ true → Before j

pub before_each : {A : Type 0} (ts : List Lexeme) (goes : ℕ → Bool) (Before : ℕ → Type 0) (p : A → Piece) (n : ℕ) → Loop ts goes Before p n → (xs : List A) (k j : ℕ) → each (map p xs) n k ≡ Some j → Before j → Before k
unfolding each
before_each ts goes Before p n l [] k j e last = let same : j ≡ k = cc in subst Before same last
before_each ts goes Before p n l (x ∷ xs) k j e last =
    let a = parts (p x) (each (map p xs)) n k j e in
    l.between k (l.begins x k a.0 a.1 (before_each ts goes Before p n l xs a.0 j a.2 last))

pub each_reads : {A : Type 0} (ts : List Lexeme) (goes : ℕ → Bool) (Before : ℕ → Type 0) (read : ℕ → Read A) (p : A → Piece) (n : ℕ) → Loop ts goes Before p n
    → (xs : List A) → AllOf (IsReadFrom Before read p n) xs → (i j : ℕ) → each (map p xs) n i ≡ Some j → goes j ≡ false → Before j
    → (count : ℕ) (before : List A) → length ts ≤ i + count → (each_read goes read count before i ≡ Ok (before ++ xs, j)) × (i ≤ j)
unfolding each each_read
each_reads {A = A} ts goes Before read p n l [] all i j e ends last count before enough =
    let same : i ≡ j = cc in
    let here : goes i ≡ false = ap goes same ∙ ends in (
      each_ends goes read count before i here ∙ ap (λ (xs : List A). Ok (xs, i)) (sym (append-nil before)) ∙ ap (λ (k : ℕ). Ok (before ++ [], k)) same,
      omega arith,
    )
each_reads ts goes Before read p n l (x ∷ xs) all i j e ends last zero before enough =
    let a = parts (p x) (each (map p xs)) n i j e in
    absurd (omega (arith, enough, l.within i (l.begins x i a.0 a.1 (before_each ts goes Before p n l xs a.0 j a.2 last))))
each_reads {A = A} ts goes Before read p n l (x ∷ xs) all i j e ends last (suc count) before enough =
    let a = parts (p x) (each (map p xs)) n i j e in
    let follows : Before a.0 = before_each ts goes Before p n l xs a.0 j a.2 last in
    let go : goes i ≡ true = l.begins x i a.0 a.1 follows in
    let r : Reads read x i a.0 = all.0 i a.0 a.1 follows in
    let more = each_reads ts goes Before read p n l xs all.1 a.0 j a.2 ends last count (before ++ x ∷ []) (omega (arith, enough, r.further)) in (
      rw (go, r.read) (more.0 ∙ ap (λ (ys : List A). Ok (ys, j)) (append_assoc before (x ∷ []) xs)),
      omega (arith, r.further, more.1),
    )

pub from_here : (ts : List Lexeme) (i : ℕ) → length ts ≤ i + left ts i
from_here ts i = omega arith

-- values with commas between them
commas : {A : Type 0} (ts : List Lexeme) (Before : ℕ → Type 0) (p : A → Piece) (n : ℕ) → ((j : ℕ) → comma_at ts j ≡ true → Before j) → Loop ts (comma_at ts) Before (λ (x : A). sign ts (codes ",") ▸ p x) n
commas ts Before p n between = record {
  within = λ j e. stands_before (is_sign (codes ",")) ts j e;
  begins = λ x i j e last. (let a = parts (sign ts (codes ",")) (p x) n i j e in (taken (is_sign (codes ",")) ts n i a.0 a.1).0);
  between = between;
}

behind_commas : {A : Type 0} (ts : List Lexeme) (Before : ℕ → Type 0) (read : ℕ → Read A) (p : A → Piece) (n : ℕ) (xs : List A) → AllOf (IsReadFrom Before read p n) xs
    → AllOf (IsReadFrom Before (behind_sign read) (λ (x : A). sign ts (codes ",") ▸ p x) n) xs
behind_commas ts Before read p n [] all = tt
behind_commas ts Before read p n (x ∷ xs) all = (
  λ i j e last. (
      let a = parts (sign ts (codes ",")) (p x) n i j e in
      let b = taken (is_sign (codes ",")) ts n i a.0 a.1 in
      let r : Reads read x (i + 1) j = subst (λ (k : ℕ). Reads read x k j) b.1 (all.0 a.0 j a.2 last) in
      record { read = r.read; further = omega (arith, r.further) }),
  behind_commas ts Before read p n xs all.1,
)

pub some_reads : {A : Type 0} (ts : List Lexeme) (Before : ℕ → Type 0) (read : ℕ → Read A) (p : A → Piece) (n : ℕ) → ((j : ℕ) → comma_at ts j ≡ true → Before j)
    → (x : A) (xs : List A) → AllOf (IsReadFrom Before read p n) (x ∷ xs) → (i j : ℕ) → separated ts (codes ",") (map p (x ∷ xs)) n i ≡ Some j → comma_at ts j ≡ false → Before j
    → Reads (some_read ts read) (x ∷ xs) i j
unfolding separated
some_reads {A = A} ts Before read p n between x xs all i j e ends last =
    let comma : A → Piece = λ y. sign ts (codes ",") ▸ p y in
    let a = parts (p x) (each (map (λ q. sign ts (codes ",") ▸ q) (map p xs))) n i j e in
    let same : map (λ q. sign ts (codes ",") ▸ q) (map p xs) ≡ map comma xs = map-map (λ (q : Piece). sign ts (codes ",") ▸ q) p xs in
    let more : each (map comma xs) n a.0 ≡ Some j = ap (λ (ps : List Piece). each ps n a.0) (sym same) ∙ a.2 in
    let l = commas ts Before p n between in
    let r : Reads read x i a.0 = all.0 i a.0 a.1 (before_each ts (comma_at ts) Before comma n l xs a.0 j more last) in
    let rest = each_reads ts (comma_at ts) Before (behind_sign read) comma n l xs (behind_commas ts Before read p n xs all.1) a.0 j more ends last (left ts a.0) (x ∷ []) (from_here ts a.0) in
    record { read = rw r.read rest.0; further = omega (arith, r.further, rest.1) }

-- values with commas between them, or none before a sign with which none begins
pub any_reads : {A : Type 0} (ts : List Lexeme) (Before : ℕ → Type 0) (close : List ℕ) (read : ℕ → Read A) (p : A → Piece) (n : ℕ) → ((j : ℕ) → comma_at ts j ≡ true → Before j)
    → ((x : A) (i j : ℕ) → p x n i ≡ Some j → stands (is_sign close) ts i ≡ false)
    → (xs : List A) → AllOf (IsReadFrom Before read p n) xs → (i j : ℕ) → separated ts (codes ",") (map p xs) n i ≡ Some j → stands (is_sign close) ts j ≡ true → comma_at ts j ≡ false → Before j
    → (any_read ts close read i ≡ Ok (xs, j)) × (i ≤ j)
unfolding separated
any_reads {A = A} ts Before close read p n between begins [] all i j e closes ends last =
    let same : i ≡ j = cc in
    let here : stands (is_sign close) ts i ≡ true = ap (stands (is_sign close) ts) same ∙ closes in
    let none : List A = [] in
    (rw here (ap (λ (k : ℕ). Ok (none, k)) same), omega arith)
any_reads ts Before close read p n between begins (x ∷ xs) all i j e closes ends last =
    let a = parts (p x) (each (map (λ q. sign ts (codes ",") ▸ q) (map p xs))) n i j e in
    let none : stands (is_sign close) ts i ≡ false = begins x i a.0 a.1 in
    let r = some_reads ts Before read p n between x xs all i j e ends last in
    (rw none r.read, omega (arith, r.further))

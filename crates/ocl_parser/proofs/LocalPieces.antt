-- What spells an expression is told by its own tokens: those behind its end do not matter.
use Rattle.std.proofs.Common.{◌≡◌, ℕ, ◌-◌, ◌<◌, ◌≤◌, ◌⊎◌, inl, inr, Bool, true, false, nat_lt, List}
use Rattle.std.proofs.Common.{[], ◌∷◌, length, map, take, slice_get, get_or, Some, None, ap, sym, ◌∙◌, refl, arith}
use Rattle.std.proofs.lemmas.Bool.Decides.{nat_tests}
use Rattle.std.proofs.lemmas.Option.{slice_get_within, slice_get_cases, slice_get-get_or, get_or_from_slice_get}
use Rattle.std.proofs.lemmas.List.{length-take, get_or-take}
use Rattle.mof_metamodel.specs.declared.span.Span.{Span}
use Rattle.ql_lex.specs.Lexed.{Lexeme}
use Rattle.ocl_parser.specs.Pieces.{Piece, ◌▸◌, empty, token, sign, nested, only, spanned, each, separated}
use Rattle.ql_lex.specs.Lexemes.{stands, is_sign, span_at, start_of, end_of}
use Rattle.ql_lex.proofs.TokenLaws.{stands_some}
use Rattle.ocl_parser.proofs.PieceLaws.{token_taken, both, inside, with_span}
use Rattle.ocl_parser.proofs.CompleteRuns.{there}
use Rattle.ocl_parser.proofs.CompletePieces.{parts, taken, within, held, at_span}

-- Where the first piece stands among the tokens it is no shorter than nothing, ends where they do or before, and if it ends
-- before number k, the second stands there too.
abbrev pub Keeps : List Lexeme → ℕ → Piece → Piece → Type 0
Keeps ts k p q = (n i j : ℕ) → p n i ≡ Some j → (i ≤ j) × (i < j → j ≤ length ts) × (j ≤ k → q n i ≡ Some j)

-- the same of pieces that have a token
abbrev pub Holds : List Lexeme → ℕ → Piece → Piece → Type 0
Holds ts k p q = (n i j : ℕ) → p n i ≡ Some j → (i < j) × (j ≤ length ts) × (j ≤ k → q n i ≡ Some j)

pub keeps : (ts : List Lexeme) (k : ℕ) (p q : Piece) → Holds ts k p q → Keeps ts k p q
keeps ts k p q h n i j e = (let a = h n i j e in (omega (arith, a.0), λ less. a.1, a.2))

cut_get : (ts : List Lexeme) (k i : ℕ) (l : Lexeme) → slice_get ts i ≡ Some l → i < k → slice_get (take k ts) i ≡ Some l
cut_get ts k i l e less =
    let short : i < length (take k ts) = omega (arith, length-take k ts, slice_get_within ts i l e) in
    slice_get-get_or (take k ts) i l short ∙ ap Some (get_or-take k ts i l less ∙ get_or_from_slice_get ts i l l e)

pub holds_token : (ts : List Lexeme) (k : ℕ) (passes : Lexeme → Bool) → Holds ts k (token passes ts) (token passes (take k ts))
holds_token ts k passes n i j e =
    let a = taken passes ts n i j e in
    let l = there passes ts i a.0 in (
      omega (arith, a.1),
      omega (arith, a.1, slice_get_within ts i l.0 l.1),
      λ few. (let less : i < k = omega (arith, a.1) in
          let same : stands passes (take k ts) i ≡ true = stands_some passes (take k ts) i l.0 (cut_get ts k i l.0 l.1 less) ∙ l.2 in
          token_taken passes (take k ts) n i same ∙ ap (λ (x : ℕ). Some x) (sym a.1)),
    )

pub holds_both : (ts : List Lexeme) (k : ℕ) (p p' q q' : Piece) → Holds ts k p p' → Keeps ts k q q' → Holds ts k (p ▸ q) (p' ▸ q')
holds_both ts k p p' q q' h g n i j e =
    let a = parts p q n i j e in
    let m : ℕ = a.0 in
    let b = h n i m a.1 in
    let c = g n m j a.2 in (
      omega (arith, b.0, c.0),
      by m (nat_lt m j) refl b.1 c.0 c.1,
      λ few. both p' q' n i m j (b.2 (omega (arith, c.0))) (c.2 few),
    )
  where
    by : (m : ℕ) (t : Bool) → nat_lt m j ≡ t → m ≤ length ts → m ≤ j → (m < j → j ≤ length ts) → j ≤ length ts
    by m true t x y z = z (grind (arith, nat_tests))
    by m false t x y z = let same : j ≤ m = grind (arith, nat_tests) in omega arith

pub keeps_both : (ts : List Lexeme) (k : ℕ) (p p' q q' : Piece) → Keeps ts k p p' → Keeps ts k q q' → Keeps ts k (p ▸ q) (p' ▸ q')
keeps_both ts k p p' q q' h g n i j e =
    let a = parts p q n i j e in
    let m : ℕ = a.0 in
    let b = h n i m a.1 in
    let c = g n m j a.2 in (
      omega (arith, b.0, c.0),
      λ less. by m (nat_lt m j) refl less b.1 c.0 c.1,
      λ few. both p' q' n i m j (b.2 (omega (arith, c.0))) (c.2 few),
    )
  where
    by : (m : ℕ) (t : Bool) → nat_lt m j ≡ t → i < j → (i < m → m ≤ length ts) → m ≤ j → (m < j → j ≤ length ts) → j ≤ length ts
    by m true t less x y z = z (grind (arith, nat_tests))
    by m false t less x y z = let same : j ≤ m = grind (arith, nat_tests) in let h : m ≤ length ts = x (omega arith) in omega arith

pub holds_nested : (ts : List Lexeme) (k : ℕ) (p q : Piece) → Holds ts k p q → Holds ts k (nested p) (nested q)
holds_nested ts k p q h n i j e =
    let a = within p n i j e in
    let b = h a.0 i j a.2 in
    (b.0, b.1, λ few. inside q n a.0 i j a.1 (b.2 few))

pub holds_only : (ts : List Lexeme) (k : ℕ) (b c : Bool) (p q : Piece) → b ≡ c → Holds ts k p q → Holds ts k (only b p) (only c q)
holds_only ts k b c p q same h n i j e =
    let a = held b p n i j e in
    let d = h n i j a.1 in
    let true_too : c ≡ true = sym same ∙ a.0 in
    (d.0, d.1, λ few. rw true_too (d.2 few))

cut_start : (ts : List Lexeme) (k i : ℕ) (l : Lexeme) → slice_get ts i ≡ Some l → i < k → start_of (take k ts) i ≡ start_of ts i
cut_start ts k i l e less = rw (e, cut_get ts k i l e less) refl

cut_end : (ts : List Lexeme) (k i : ℕ) (l : Lexeme) → slice_get ts i ≡ Some l → i < k → end_of (take k ts) i ≡ end_of ts i
cut_end ts k i l e less = rw (e, cut_get ts k i l e less) refl

-- there is a token before the end
token_before : (ts : List Lexeme) (i : ℕ) → i < length ts → (l : Lexeme) × (slice_get ts i ≡ Some l)
token_before ts i less = by (slice_get_cases ts i).1
  where
    by : ((x : Lexeme) × (i < length ts) × (slice_get ts i ≡ Some x) × (get_or ts i x ≡ x)) ⊎ ((length ts ≤ i) × (slice_get ts i ≡ None))
        → (l : Lexeme) × (slice_get ts i ≡ Some l)
    by (inl c) = (c.0, c.2)
    by (inr c) = absurd (omega (arith, less, c.0))

cut_span : (ts : List Lexeme) (k i j : ℕ) → i < j → j ≤ length ts → j ≤ k → span_at (take k ts) i j ≡ span_at ts i j
unfolding span_at
cut_span ts k i j less short few =
    let a = token_before ts i (omega arith) in
    let b = token_before ts (j - 1) (omega arith) in
    ap (λ (x : ℕ). record { start = x; end = end_of (take k ts) (j - 1) }) (cut_start ts k i a.0 a.1 (omega arith))
    ∙ ap (λ (x : ℕ). record { start = start_of ts i; end = x }) (cut_end ts k (j - 1) b.0 b.1 (omega arith))

pub holds_spanned : (ts : List Lexeme) (k : ℕ) (span : Span) (p q : Piece) → Holds ts k p q → Holds ts k (spanned ts span p) (spanned (take k ts) span q)
holds_spanned ts k span p q h n i j e =
    let a = at_span ts span p n i j e in
    let b = h n i j a.0 in (
      b.0,
      b.1,
      λ few. (let at : span ≡ span_at (take k ts) i j = a.1 ∙ sym (cut_span ts k i j b.0 b.1 few) in
          rw at (with_span (take k ts) q n i j (b.2 few))),
    )

-- ---- lists of pieces

-- two lists of pieces, each with its own
abbrev pub AllKeep : List Lexeme → ℕ → List Piece → List Piece → Type 0
AllKeep ts k [] [] = Unit {0}
AllKeep ts k [] (q ∷ qs) = ⊥
AllKeep ts k (p ∷ ps) [] = ⊥
AllKeep ts k (p ∷ ps) (q ∷ qs) = Keeps ts k p q × AllKeep ts k ps qs

pub keeps_empty : (ts : List Lexeme) (k : ℕ) → Keeps ts k empty empty
keeps_empty ts k n i j e = (let same : i ≡ j = cc in (omega arith, λ less. absurd (omega arith), λ few. e))

pub keeps_each : (ts : List Lexeme) (k : ℕ) (ps qs : List Piece) → AllKeep ts k ps qs → Keeps ts k (each ps) (each qs)
unfolding each
keeps_each ts k [] [] h = keeps_empty ts k
keeps_each ts k [] (q ∷ qs) h = absurd h
keeps_each ts k (p ∷ ps) [] h = absurd h
keeps_each ts k (p ∷ ps) (q ∷ qs) h = keeps_both ts k p q (each ps) (each qs) h.0 (keeps_each ts k ps qs h.1)

pub behind_signs : (ts : List Lexeme) (k : ℕ) (text : List ℕ) (ps qs : List Piece) → AllKeep ts k ps qs
    → AllKeep ts k (map (λ p. sign ts text ▸ p) ps) (map (λ q. sign (take k ts) text ▸ q) qs)
behind_signs ts k text [] [] h = tt
behind_signs ts k text [] (q ∷ qs) h = absurd h
behind_signs ts k text (p ∷ ps) [] h = absurd h
behind_signs ts k text (p ∷ ps) (q ∷ qs) h = (
  keeps ts k (sign ts text ▸ p) (sign (take k ts) text ▸ q) (holds_both ts k (sign ts text) (sign (take k ts) text) p q (holds_token ts k (is_sign text)) h.0),
  behind_signs ts k text ps qs h.1,
)

pub keeps_separated : (ts : List Lexeme) (k : ℕ) (text : List ℕ) (ps qs : List Piece) → AllKeep ts k ps qs
    → Keeps ts k (separated ts text ps) (separated (take k ts) text qs)
unfolding separated
keeps_separated ts k text [] [] h = keeps_empty ts k
keeps_separated ts k text [] (q ∷ qs) h = absurd h
keeps_separated ts k text (p ∷ ps) [] h = absurd h
keeps_separated ts k text (p ∷ ps) (q ∷ qs) h =
    let ps' : List Piece = map (λ p. sign ts text ▸ p) ps in
    let qs' : List Piece = map (λ q. sign (take k ts) text ▸ q) qs in
    keeps_both ts k p q (each ps') (each qs') h.0 (keeps_each ts k ps' qs' (behind_signs ts k text ps qs h.1))

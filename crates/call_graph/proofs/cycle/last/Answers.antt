use Rattle.std.proofs.Common.{◌≡◌, ℕ, suc, ◌-◌, ◌<◌, List, [], ◌∷◌, ◌++◌, length, get_or, refl, sym, ap, ◌∙◌, arith}
use Rattle.call_graph.proofs.cycle.last.Goals as goal

ends : (path : List ℕ) → 0 < length path → (before : List ℕ) × (path ≡ before ++ get_or path (length path - 1) 0 ∷ [])
ends [] more = absurd (omega (arith, more))
ends (u ∷ []) more = ([], refl)
ends (u ∷ v ∷ path) more =
    let rest : (before : List ℕ) × (v ∷ path ≡ before ++ get_or (v ∷ path) (length (v ∷ path) - 1) 0 ∷ []) = ends (v ∷ path) (omega arith) in
    let step : length (u ∷ v ∷ path) - 1 ≡ suc (length (v ∷ path) - 1) = omega arith in
    let at : get_or (u ∷ v ∷ path) (length (u ∷ v ∷ path) - 1) 0 ≡ get_or (v ∷ path) (length (v ∷ path) - 1) 0 = ap (λ k. get_or (u ∷ v ∷ path) k 0) step in
    (u ∷ rest.0, ap (λ p. u ∷ p) rest.1 ∙ ap (λ x. (u ∷ rest.0) ++ x ∷ []) (sym at))

pub returns-in-len1-up : goal.returns-in-len1-up
returns-in-len1-up c = ends c.args.path.now (omega arith)

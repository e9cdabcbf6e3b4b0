use Rattle.std.proofs.Common.{◌≡◌, ◌<◌, ◌+◌, ◌++◌, ◌∷◌, [], ℕ, List, ap, ◌∙◌, sym, arith, length, get_or, take}
use Rattle.std.specs.List.{flat_map}
use Rattle.std.proofs.lemmas.List.{take_more, append-nil}
use Rattle.std.proofs.lemmas.Grind.{flat_map-append}
use Rattle.mof_metamodel.specs.Metamodels.{own_props}
use Rattle.mof_metamodel.proofs.ordered.props_in.Goals as goal

-- what one more item adds
flat_more : (f : ℕ → List ℕ) (xs : List ℕ) (i : ℕ) → i < length xs → flat_map f (take (i + 1) xs) ≡ flat_map f (take i xs) ++ f (get_or xs i 0)
flat_more f xs i l =
    ap (flat_map f) (take_more xs i 0 l) ∙ flat_map-append f (take i xs) (get_or xs i 0 ∷ [])
    ∙ ap (λ ys. flat_map f (take i xs) ++ ys) (append-nil (f (get_or xs i 0)))

pub loop-c-preserved : goal.loop-c-preserved
loop-c-preserved c =
    c.in_ok-add_own.ensures
    ∙ ap (λ ns. ns ++ own_props c.args.named.now (get_or c.args.classes.now c.loop-c.c-index 0)) c.loop-c.invariant
    ∙ sym (flat_more (own_props c.args.named.now) c.args.classes.now c.loop-c.c-index (omega arith))

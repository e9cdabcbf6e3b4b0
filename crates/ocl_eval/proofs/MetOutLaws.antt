-- Values of expressions as the keys of a set.
use Rattle.std.proofs.Common.{◌≡◌, Bool, true, false, cond, List, [], ◌∷◌, refl, sym, ◌∙◌, ap}
use Rattle.std.specs.Prelude.{◌||◌, ◌&&◌, not}
use Rattle.std.specs.List.{list_any}
use Rattle.std.specs.BTreeMap.{is_at}
use Rattle.qvtr_semantics.specs.declared.out.Out.{Out}
use Rattle.ocl_eval.specs.Order.{out_order, same_out}
use Rattle.ocl_eval.specs.OutOrderLaws.{outs_tie, same_out_equiv}
use Rattle.ocl_eval.specs.Progress.{all_new}

pub found_out : (x : Out) (xs : List Out) → list_any (is_at (out_order x)) xs ≡ list_any (same_out x) xs
found_out x xs = λ i. list_any (λ y. sym (outs_tie x y) i) xs

put_or_there : (a b c : Bool) → a ≡ b → cond a true c ≡ b || c
put_or_there true b c e = ap (λ x. x || c) e
put_or_there false b c e = ap (λ x. x || c) e

-- the keys after a search for q among them, where x was put
pub outs_met_with : (x q : Out) (xs ys : List Out) → list_any (is_at (out_order q)) ys ≡ cond (is_at (out_order x) q) true (list_any (is_at (out_order q)) xs)
    → list_any (same_out q) ys ≡ same_out q x || list_any (same_out q) xs
outs_met_with x q xs ys h =
    sym (found_out q ys) ∙ h ∙ put_or_there (is_at (out_order x) q) (same_out q x) (list_any (is_at (out_order q)) xs) (sym (outs_tie x q) ∙ same_out_equiv.symm x q)
    ∙ ap (λ b. same_out q x || b) (found_out q xs)

alike : (x y : Out) (met keys : List Out) → list_any (same_out y) keys ≡ list_any (same_out y) met → list_any (same_out y) (x ∷ keys) ≡ list_any (same_out y) (x ∷ met)
alike x y met keys h = ap (λ b. same_out y x || b) h

-- what is new depends on who was met alone
pub new_by_outs : (met keys xs : List Out) → ((x : Out) → list_any (same_out x) keys ≡ list_any (same_out x) met) → all_new keys xs ≡ all_new met xs
new_by_outs met keys [] h = refl
new_by_outs met keys (x ∷ xs) h = λ i. not (h x i) && new_by_outs (x ∷ met) (x ∷ keys) xs (λ y. alike x y met keys (h y)) i

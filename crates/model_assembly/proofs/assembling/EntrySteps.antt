-- Entries that are made one by one.
use Rattle.std.proofs.Common.{◌≡◌, ℕ, zero, suc, ◌+◌, ◌<◌, List, [], ◌∷◌, ◌++◌, length, drop, get_or, sym, ◌∙◌, ap, arith, append_assoc}
use Rattle.mof_metamodel.specs.declared.desc.MetaDesc.{MetaDesc}
use Rattle.mof_metamodel.specs.declared.desc.ClassId.{ClassId}
use Rattle.model_assembly.specs.declared.filed.WrittenReference.{WrittenReference}
use Rattle.model_assembly.specs.declared.assembly.entry.Entry.{Entry}
use Rattle.model_assembly.specs.AssemblyEntries.{entry_of, entries_from}

pub drop_here : {X : Type 0} (xs : List X) (i : ℕ) (x : X) → i < length xs → x ≡ get_or xs i x → drop i xs ≡ x ∷ drop (i + 1) xs
drop_here [] i x l e = absurd (omega (arith, l))
drop_here (y ∷ ys) zero x l e = ap (λ z. z ∷ ys) (sym e)
drop_here (y ∷ ys) (suc i) x l e = drop_here ys i x (omega (arith, l)) e ∙ (let q : suc (i + 1) ≡ suc i + 1 = omega arith in ap (λ n. x ∷ drop n (y ∷ ys)) q)

pub entries_step : (meta : MetaDesc) (classes : List ClassId) (rs : List WrittenReference) (i : ℕ) (r : WrittenReference) (done : List Entry) (e : Entry) (all : List Entry) → i < length rs → r ≡ get_or rs i r
    → e ≡ entry_of meta classes i r → done ++ entries_from meta classes i (drop i rs) ≡ all → (done ++ e ∷ []) ++ entries_from meta classes (i + 1) (drop (i + 1) rs) ≡ all
entries_step meta classes rs i r done e all l is same h =
    append_assoc done (e ∷ []) (entries_from meta classes (i + 1) (drop (i + 1) rs))
    ∙ ap (λ x. done ++ x ∷ entries_from meta classes (i + 1) (drop (i + 1) rs)) same
    ∙ (let q : i + 1 ≡ suc i = omega arith in ap (λ n. done ++ entry_of meta classes i r ∷ entries_from meta classes n (drop (i + 1) rs)) q)
    ∙ sym (ap (λ xs. done ++ entries_from meta classes i xs) (drop_here rs i r l is))
    ∙ h

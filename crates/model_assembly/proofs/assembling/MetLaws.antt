-- What was met of a list, and values each once.
use Rattle.std.proofs.Common.{◌≡◌, ℕ, ◌+◌, ◌<◌, Bool, true, false, cond, List, [], ◌∷◌, ◌++◌, length, take, drop, get_or, refl, sym, ◌∙◌, ap, append_assoc}
use Rattle.std.specs.Prelude.{◌||◌}
use Rattle.std.proofs.lemmas.Bool.{cond-true, cond-false}
use Rattle.std.specs.List.{list_any}
use Rattle.std.specs.Cmp.{IsEquivalence}
use Rattle.std.proofs.lemmas.List.Folds.{list_any_more}
use Rattle.object_tables.specs.declared.value.Value.{Value}
use Rattle.model_assembly.specs.declared.filed.WrittenValue.{WrittenValue}
use Rattle.model_assembly.specs.AssemblyValueLaws.{values_equiv}
use Rattle.model_assembly.specs.AssemblyValues.{run}
use Rattle.model_assembly.specs.Source.{is_at}
use Rattle.model_assembly.specs.Values.{same_value, unmet}
use Rattle.model_assembly.proofs.assembling.EntrySteps.{drop_here}

last_of : (a b : Bool) → cond a true b ≡ (b || a)
last_of true true = refl
last_of true false = refl
last_of false true = refl
last_of false false = refl

pub met_more : {K : Type 0} (E : K → K → Bool) → IsEquivalence E → (keys : List K) (i : ℕ) (key other : K) (old : List K) → i < length keys → key ≡ get_or keys i key
    → list_any (E other) old ≡ list_any (E other) (take i keys) → cond (E key other) true (list_any (E other) old) ≡ list_any (E other) (take (i + 1) keys)
met_more E laws keys i key other old l k h =
    let s : E key other ≡ E other (get_or keys i key) = laws.symm key other ∙ ap (E other) k in
    ap (λ b. cond b true (list_any (E other) old)) s
    ∙ ap (cond (E other (get_or keys i key)) true) h
    ∙ last_of (E other (get_or keys i key)) (list_any (E other) (take i keys))
    ∙ sym (list_any_more (E other) keys i key l)

-- what is new depends on what was met alone
pub unmet_alike : (met keys vs : List Value) → ((w : Value) → list_any (same_value w) keys ≡ list_any (same_value w) met) → unmet keys vs ≡ unmet met vs
unmet_alike met keys [] h = refl
unmet_alike met keys (v ∷ vs) h =
    λ i. cond (h v i) (unmet_alike met keys vs h i) (v ∷ unmet_alike (v ∷ met) (v ∷ keys) vs (λ w. ap (λ b. same_value w v || b) (h w)) i)

-- ---- a run of values, one by one

run_here : (o p : ℕ) (vs : List WrittenValue) (i : ℕ) (v : WrittenValue) → i < length vs → v ≡ get_or vs i v → is_at o p v.object v.property.0 ≡ true
    → run o p (drop i vs) ≡ v.value ∷ run o p (drop (i + 1) vs)
run_here o p vs i v l is at = ap (run o p) (drop_here vs i v l is) ∙ cond-true (is_at o p v.object v.property.0) (v.value ∷ run o p (drop (i + 1) vs)) [] at

pub run_met : (o p : ℕ) (vs : List WrittenValue) (i : ℕ) (v : WrittenValue) (keys slot all : List Value) → i < length vs → v ≡ get_or vs i v → is_at o p v.object v.property.0 ≡ true
    → list_any (same_value v.value) keys ≡ true → slot ++ unmet keys (run o p (drop i vs)) ≡ all → slot ++ unmet keys (run o p (drop (i + 1) vs)) ≡ all
run_met o p vs i v keys slot all l is at met h =
    sym (ap (λ xs. slot ++ xs) (
    ap (unmet keys) (run_here o p vs i v l is at)
    ∙ cond-true (list_any (same_value v.value) keys) (unmet keys (run o p (drop (i + 1) vs))) (v.value ∷ unmet (v.value ∷ keys) (run o p (drop (i + 1) vs))) met))
    ∙ h

pub run_new : (o p : ℕ) (vs : List WrittenValue) (i : ℕ) (v : WrittenValue) (keys new slot all : List Value) → i < length vs → v ≡ get_or vs i v → is_at o p v.object v.property.0 ≡ true
    → list_any (same_value v.value) keys ≡ false → ((w : Value) → list_any (same_value w) new ≡ cond (same_value v.value w) true (list_any (same_value w) keys))
    → slot ++ unmet keys (run o p (drop i vs)) ≡ all → (slot ++ v.value ∷ []) ++ unmet new (run o p (drop (i + 1) vs)) ≡ all
run_new o p vs i v keys new slot all l is at fresh members h =
    append_assoc slot (v.value ∷ []) (unmet new (run o p (drop (i + 1) vs)))
    ∙ ap (λ xs. slot ++ v.value ∷ xs) (unmet_alike (v.value ∷ keys) new (run o p (drop (i + 1) vs)) alike)
    ∙ sym (ap (λ xs. slot ++ xs) (
    ap (unmet keys) (run_here o p vs i v l is at)
    ∙ cond-false (list_any (same_value v.value) keys) (unmet keys (run o p (drop (i + 1) vs))) (v.value ∷ unmet (v.value ∷ keys) (run o p (drop (i + 1) vs))) fresh))
    ∙ h
  where
    either : (a b : Bool) → cond a true b ≡ (a || b)
    either true b = refl
    either false b = refl

    alike : (w : Value) → list_any (same_value w) new ≡ (same_value w v.value || list_any (same_value w) keys)
    alike w = members w ∙ either (same_value v.value w) (list_any (same_value w) keys) ∙ ap (λ b. b || list_any (same_value w) keys) (values_equiv.symm v.value w)

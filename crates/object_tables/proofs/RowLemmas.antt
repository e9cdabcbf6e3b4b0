-- How rows are read from flat tables, and what a change of one flat place does to them.
use Rattle.std.proofs.Common.{◌≡◌, ◌≢◌, ℕ, ◌+◌, ◌<◌, zero, suc, List, [], ◌∷◌, length, get_or, map, replicate, refl, ap, sym, ◌∙◌, arith}
use Rattle.object_tables.specs.Lists.{update_at}
use Rattle.object_tables.specs.Rows.{Place, with_place, with_places}
use Rattle.object_tables.specs.Flat.{block, row_of, entry_at}
use Rattle.object_tables.specs.declared.tables.Entry.{Entry}

pub length-block : (p : ℕ → Place) (f n : ℕ) → length (block p f n) ≡ n
length-block p f zero = refl
length-block p f (suc n) = ap suc (length-block p (suc f) n)

pub get_or-block : (p : ℕ → Place) (f n k : ℕ) (d : Place) → k < n → get_or (block p f n) k d ≡ p (f + k)
get_or-block p f zero k d l = absurd (omega arith)
get_or-block p f (suc n) zero d l = let e : f ≡ f + 0 = omega arith in ap p e
get_or-block p f (suc n) (suc k) d l = let e : suc f + k ≡ f + suc k = omega arith in get_or-block p (suc f) n k d (omega arith) ∙ ap p e

pub block_same : (p q : ℕ → Place) (f n : ℕ) → ((k : ℕ) → k < n → q (f + k) ≡ p (f + k)) → block q f n ≡ block p f n
block_same p q f zero same = refl
block_same p q f (suc n) same =
    let first : q f ≡ p f = (let e : f ≡ f + 0 = omega arith in ap q e ∙ same 0 (omega arith) ∙ ap p (sym e)) in
    let rest : block q (suc f) n ≡ block p (suc f) n = block_same p q (suc f) n (λ k l. let e : suc f + k ≡ f + suc k = omega arith in ap q e ∙ same (suc k) (omega arith) ∙ ap p (sym e)) in
    cc

pub block_update : (p q : ℕ → Place) (f n k : ℕ) (g : Place → Place) → k < n → q (f + k) ≡ g (p (f + k)) → ((j : ℕ) → j < n → j ≢ k → q (f + j) ≡ p (f + j))
    → block q f n ≡ update_at (block p f n) k g
block_update p q f zero k g l hit miss = absurd (omega arith)
block_update p q f (suc n) zero g l hit miss =
    let e : f ≡ f + 0 = omega arith in
    let first : q f ≡ g (p f) = ap q e ∙ hit ∙ ap (λ x. g (p x)) (sym e) in
    let rest : block q (suc f) n ≡ block p (suc f) n = block_same p q (suc f) n (λ k l. let e : suc f + k ≡ f + suc k = omega arith in ap q e ∙ miss (suc k) (omega arith) (λ z. absurd (omega arith)) ∙ ap p (sym e)) in
    cc
block_update p q f (suc n) (suc k) g l hit miss =
    let e0 : f ≡ f + 0 = omega arith in
    let ek : suc f + k ≡ f + suc k = omega arith in
    let first : q f ≡ p f = ap q e0 ∙ miss 0 (omega arith) (λ z. absurd (omega arith)) ∙ ap p (sym e0) in
    let rest : block q (suc f) n ≡ update_at (block p (suc f) n) k g =
    block_update p q (suc f) n k g (omega arith) (ap q ek ∙ hit ∙ ap (λ x. g (p x)) (sym ek))
    (λ j m ne. let e : suc f + j ≡ f + suc j = omega arith in ap q e ∙ miss (suc j) (omega arith) (λ z. ne (omega arith)) ∙ ap p (sym e)) in
    cc

pub rows_same : (p q : ℕ → Place) (entries : List Entry)
    → ((o k : ℕ) → o < length entries → k < (entry_at entries o).count → q ((entry_at entries o).first + k) ≡ p ((entry_at entries o).first + k))
    → map (row_of q) entries ≡ map (row_of p) entries
rows_same p q [] same = refl
rows_same p q (x ∷ xs) same =
    let here : block q x.first x.count ≡ block p x.first x.count = block_same p q x.first x.count (λ k l. same 0 k (omega arith) l) in
    let rest : map (row_of q) xs ≡ map (row_of p) xs = rows_same p q xs (λ o k l m. same (suc o) k (omega arith) m) in
    ap (λ ps. record { named = x.named; places = ps } ∷ map (row_of q) xs) here ∙ ap (λ rs. row_of p x ∷ rs) rest

-- one place changed
pub rows_update : (p q : ℕ → Place) (entries : List Entry) (o k : ℕ) (g : Place → Place)
    → o < length entries → k < (entry_at entries o).count
    → q ((entry_at entries o).first + k) ≡ g (p ((entry_at entries o).first + k))
    → ((i j : ℕ) → i < length entries → j < (entry_at entries i).count → (i ≡ o → j ≢ k) → q ((entry_at entries i).first + j) ≡ p ((entry_at entries i).first + j))
    → map (row_of q) entries ≡ with_place (map (row_of p) entries) o k g
rows_update p q [] o k g l m hit miss = absurd (omega arith)
rows_update p q (x ∷ xs) zero k g l m hit miss =
    let here : block q x.first x.count ≡ update_at (block p x.first x.count) k g = block_update p q x.first x.count k g m hit (λ j lj ne. miss 0 j (omega arith) lj (λ _. ne)) in
    let rest : map (row_of q) xs ≡ map (row_of p) xs = rows_same p q xs (λ i j li lj. miss (suc i) j (omega arith) lj (λ z. absurd (omega arith))) in
    ap (λ ps. record { named = x.named; places = ps } ∷ map (row_of q) xs) here ∙ ap (λ rs. record { named = x.named; places = update_at (block p x.first x.count) k g } ∷ rs) rest
rows_update p q (x ∷ xs) (suc o) k g l m hit miss =
    let here : block q x.first x.count ≡ block p x.first x.count = block_same p q x.first x.count (λ j lj. miss 0 j (omega arith) lj (λ z. absurd (omega arith))) in
    let rest : map (row_of q) xs ≡ with_place (map (row_of p) xs) o k g = rows_update p q xs o k g (omega arith) m hit (λ i j li lj ne. miss (suc i) j (omega arith) lj (λ z. ne (omega arith))) in
    ap (λ ps. record { named = x.named; places = ps } ∷ map (row_of q) xs) here ∙ ap (λ rs. row_of p x ∷ rs) rest

pub block_const : (p : ℕ → Place) (f n : ℕ) (d : Place) → ((k : ℕ) → k < n → p (f + k) ≡ d) → block p f n ≡ replicate n d
block_const p f zero d h = refl
block_const p f (suc n) d h =
    let first : p f ≡ d = (let e : f ≡ f + 0 = omega arith in ap p e ∙ h 0 (omega arith)) in
    let rest : block p (suc f) n ≡ replicate n d = block_const p (suc f) n d (λ k l. let e : suc f + k ≡ f + suc k = omega arith in ap p e ∙ h (suc k) (omega arith)) in
    cc

pub block_map : (p q : ℕ → Place) (f n : ℕ) (g : Place → Place) → ((k : ℕ) → k < n → q (f + k) ≡ g (p (f + k))) → block q f n ≡ map g (block p f n)
block_map p q f zero g h = refl
block_map p q f (suc n) g h =
    let e0 : f ≡ f + 0 = omega arith in
    let first : q f ≡ g (p f) = ap q e0 ∙ h 0 (omega arith) ∙ ap (λ x. g (p x)) (sym e0) in
    let rest : block q (suc f) n ≡ map g (block p (suc f) n) = block_map p q (suc f) n g (λ k l. let e : suc f + k ≡ f + suc k = omega arith in ap q e ∙ h (suc k) (omega arith) ∙ ap (λ x. g (p x)) (sym e)) in
    cc

-- all places changed alike
pub rows_map : (p q : ℕ → Place) (entries : List Entry) (g : Place → Place)
    → ((o k : ℕ) → o < length entries → k < (entry_at entries o).count → q ((entry_at entries o).first + k) ≡ g (p ((entry_at entries o).first + k)))
    → map (row_of q) entries ≡ map (with_places g) (map (row_of p) entries)
rows_map p q [] g h = refl
rows_map p q (x ∷ xs) g h =
    let here : block q x.first x.count ≡ map g (block p x.first x.count) = block_map p q x.first x.count g (λ k l. h 0 k (omega arith) l) in
    let rest : map (row_of q) xs ≡ map (with_places g) (map (row_of p) xs) = rows_map p q xs g (λ o k l m. h (suc o) k (omega arith) m) in
    ap (λ ps. record { named = x.named; places = ps } ∷ map (row_of q) xs) here ∙ ap (λ rs. record { named = x.named; places = map g (block p x.first x.count) } ∷ rs) rest

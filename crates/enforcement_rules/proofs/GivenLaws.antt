-- The arguments that roots get are the last ones for them.
use Rattle.std.proofs.Common.{◌≡◌, ◌<◌, ◌⊎◌, ◌||◌, ℕ, zero, suc, List, [], ◌∷◌, ◌++◌, Bool, true, false, Some, refl, sym, ap, ◌∙◌, subst, inl, inr, ⊎_elim, true≢false, if◌then◌else◌, length, get_or, ◌-◌, drop, map, arith}
use Rattle.std.specs.Prelude.{Contains, nat_eq, slice_get, ◌≢◌}
use Rattle.std.specs.Borrow.{Bor}
use Rattle.std.specs.List.{list_any}
use Rattle.std.proofs.lemmas.Bool.{eqb-true, eq-eqb}
use Rattle.std.proofs.lemmas.List.Elements.{Contains-append_cases, Contains-append_left, Contains-append_right}
use Rattle.std.proofs.lemmas.List.{drop-map}
use Rattle.std.proofs.Math.Seq.{drop-cons}
use Rattle.qv_syntax.specs.declared.typed.Typed.{Typed}
use Rattle.qv_syntax.specs.declared.program.Dom.{Dom}
use Rattle.enforcement_rules.specs.CallTests.{Pair, shown_pair, argument_pairs, is_for_root, given_pairs}
use Rattle.enforcement_rules.proofs.ListLaws.{first_in, later_in, nothing_in, in_either, only_in, false_unless, any_there, any_here}

pair_at : (doms : List Dom) (args : List Typed) (p : Pair) → Contains (argument_pairs doms args) p → (place : ℕ) × (slice_get doms place ≡ Some p.0) × (slice_get args place ≡ Some p.1)
pair_at [] args p among = absurd (nothing_in p among)
pair_at (d ∷ ds) [] p among = absurd (nothing_in p among)
pair_at (d ∷ ds) (e ∷ es) p among = ⊎_elim
    (λ (same : ◌≡◌ {A = Pair} (d, e) p). (0, ap (λ (x : Pair). Some x.0) same, ap (λ (x : Pair). Some x.1) same))
    (λ (there : Contains (argument_pairs ds es) p). let r = pair_at ds es p there in (suc r.0, r.1, r.2))
    (in_either {X = Pair} (d, e) p (argument_pairs ds es) among)

at_pair : (doms : List Dom) (args : List Typed) (place : ℕ) (d : Dom) (e : Typed) → slice_get doms place ≡ Some d → slice_get args place ≡ Some e → Contains (argument_pairs doms args) (d, e)
at_pair [] args place d e dom arg = absurd (cc)
at_pair (x ∷ ds) [] place d e dom arg = absurd (cc)
at_pair (x ∷ ds) (y ∷ es) zero d e dom arg =
    let one : x ≡ d = cc in
    let two : y ≡ e = cc in
    first_in {X = Pair} (x, y) (d, e) (argument_pairs ds es) (ap (λ (z : Dom). let p : Pair = (z, y) in p) one ∙ ap (λ (z : Typed). let p : Pair = (d, z) in p) two)
at_pair (x ∷ ds) (y ∷ es) (suc place) d e dom arg = later_in {X = Pair} (x, y) (d, e) (argument_pairs ds es) (at_pair ds es place d e dom arg)

-- ---- the last for their roots

-- where an argument stands that no later one for its root follows
pub record IsLastAt (doms : List Dom) (args : List Typed) (p : Pair) : Type 0 where
  pub place : ℕ
  pub of : slice_get doms place ≡ Some p.0
  pub argument : slice_get args place ≡ Some p.1
  pub last : (later : ℕ) (other : Dom) (more : Typed) → place < later → slice_get doms later ≡ Some other → slice_get args later ≡ Some more → other.root ≢ p.0.root

-- it is the first of a longer list, if it isn't one of the rest
given_cases : (p : Pair) (ps : List Pair) (q : Pair) → Contains (given_pairs (p ∷ ps)) q → Contains (given_pairs ps) q ⊎ ((p ≡ q) × (list_any (is_for_root p.0.root) ps ≡ false))
given_cases p ps q among = by (list_any (is_for_root p.0.root) ps) refl among
  where
    by : (b : Bool) → list_any (is_for_root p.0.root) ps ≡ b → Contains (if b then given_pairs ps else given_pairs ps ++ (p ∷ [])) q
        → Contains (given_pairs ps) q ⊎ ((p ≡ q) × (list_any (is_for_root p.0.root) ps ≡ false))
    by true is c = inl c
    by false is c = elim (Contains-append_cases (given_pairs ps) (p ∷ []) q c) [
      | inl there ↦ inl there
      | inr here ↦ inr (only_in p q here, is)
    ]

rest_given : (p : Pair) (ps : List Pair) (q : Pair) → Contains (given_pairs ps) q → Contains (given_pairs (p ∷ ps)) q
rest_given p ps q among = by (list_any (is_for_root p.0.root) ps)
  where
    by : (b : Bool) → Contains (if b then given_pairs ps else given_pairs ps ++ (p ∷ [])) q
    by true = among
    by false = Contains-append_left (given_pairs ps) (p ∷ []) q among

first_given : (p : Pair) (ps : List Pair) → list_any (is_for_root p.0.root) ps ≡ false → Contains (given_pairs (p ∷ ps)) p
first_given p ps none =
    subst (λ (b : Bool). Contains (if b then given_pairs ps else given_pairs ps ++ (p ∷ [])) p) (sym none) (Contains-append_right (given_pairs ps) (p ∷ []) p (first_in p p [] refl))

-- an argument that a root gets is the last one for it
pub given_last : (doms : List Dom) (args : List Typed) (p : Pair) → Contains (given_pairs (argument_pairs doms args)) p → IsLastAt doms args p
given_last [] args p among = absurd (nothing_in p among)
given_last (d ∷ ds) [] p among = absurd (nothing_in p among)
given_last (d ∷ ds) (e ∷ es) p among = elim (given_cases (d, e) (argument_pairs ds es) p among) [
  | inl there ↦ (let r = given_last ds es p there in record {
    place = suc r.place;
    of = r.of;
    argument = r.argument;
    last = λ later other more above dom arg. behind r later other more above dom arg;
  })
  | inr here ↦ record {
    place = 0;
    of = ap (λ (x : Pair). Some x.0) here.0;
    argument = ap (λ (x : Pair). Some x.1) here.0;
    last = λ later other more above dom arg. first here.0 here.1 later other more above dom arg;
  }
]
  where
    behind : (r : IsLastAt ds es p) (later : ℕ) (other : Dom) (more : Typed) → suc r.place < later → slice_get (d ∷ ds) later ≡ Some other → slice_get (e ∷ es) later ≡ Some more → other.root ≢ p.0.root
    behind r zero other more above dom arg = absurd (omega (arith, above))
    behind r (suc later) other more above dom arg = r.last later other more (omega (arith, above)) dom arg

    first : ◌≡◌ {A = Pair} (d, e) p → list_any (is_for_root d.root) (argument_pairs ds es) ≡ false → (later : ℕ) (other : Dom) (more : Typed) → 0 < later → slice_get (d ∷ ds) later ≡ Some other
        → slice_get (e ∷ es) later ≡ Some more → other.root ≢ p.0.root
    first same none zero other more above dom arg = absurd (omega (arith, above))
    first same none (suc later) other more above dom arg = λ root.
        let there : Contains (argument_pairs ds es) (other, more) = at_pair ds es later other more dom arg in
        let one : d.root ≡ other.root = ap (λ (x : Pair). x.0.root) same ∙ sym root in
        true≢false (sym (any_here (is_for_root d.root) (argument_pairs ds es) (other, more) there (eq-eqb d.root other.root one)) ∙ none)

-- the last one for a root is what it gets
pub last_given : (doms : List Dom) (args : List Typed) (p : Pair) → IsLastAt doms args p → Contains (given_pairs (argument_pairs doms args)) p
last_given doms args p i = by doms args i.place i.of i.argument i.last
  where
    none_later : (ds : List Dom) (es : List Typed) (root : ℕ) → ((later : ℕ) (other : Dom) (more : Typed) → slice_get ds later ≡ Some other → slice_get es later ≡ Some more → other.root ≢ root)
        → list_any (is_for_root root) (argument_pairs ds es) ≡ false
    none_later ds es root last = false_unless (list_any (is_for_root root) (argument_pairs ds es)) (λ h.
        let x = any_there (is_for_root root) (argument_pairs ds es) h in
        let at = pair_at ds es x.0 x.1 in
        last at.0 x.0.0 x.0.1 at.1 at.2 (sym (eqb-true root x.0.0.root x.2)))

    by : (ds : List Dom) (es : List Typed) (place : ℕ) → slice_get ds place ≡ Some p.0 → slice_get es place ≡ Some p.1
        → ((later : ℕ) (other : Dom) (more : Typed) → place < later → slice_get ds later ≡ Some other → slice_get es later ≡ Some more → other.root ≢ p.0.root)
        → Contains (given_pairs (argument_pairs ds es)) p
    by [] es place dom arg last = absurd (cc)
    by (d ∷ ds) [] place dom arg last = absurd (cc)
    by (d ∷ ds) (e ∷ es) zero dom arg last =
        let one : d ≡ p.0 = cc in
        let two : e ≡ p.1 = cc in
        let same : ◌≡◌ {A = Pair} (d, e) p = ap (λ (z : Dom). let q : Pair = (z, e) in q) one ∙ ap (λ (z : Typed). let q : Pair = (p.0, z) in q) two in
        subst (λ (q : Pair). Contains (given_pairs ((d, e) ∷ argument_pairs ds es)) q) same
        (first_given (d, e) (argument_pairs ds es) (ap (λ (z : Dom). list_any (is_for_root z.root) (argument_pairs ds es)) one
        ∙ none_later ds es p.0.root (λ later other more there argument. last (suc later) other more (omega arith) there argument)))
    by (d ∷ ds) (e ∷ es) (suc place) dom arg last =
        rest_given (d, e) (argument_pairs ds es) p (by ds es place dom arg (λ later other more above there argument. last (suc later) other more (omega (arith, above)) there argument))

-- ---- from the end of a list

-- the rest of a list from a place on
pub rest_at : {X : Type 0} (xs : List X) (k : ℕ) (x : X) → k < length xs → x ≡ get_or xs (length xs - 1 - k) x → drop (length xs - suc k) xs ≡ x ∷ drop (length xs - k) xs
rest_at {X} xs k x within is =
    let place : length xs - suc k ≡ length xs - 1 - k = omega (arith, within) in
    let next : suc (length xs - suc k) ≡ length xs - k = omega (arith, within) in
    drop-cons xs (length xs - suc k) x (omega (arith, within))
    ∙ ap (λ (y : X). y ∷ drop (suc (length xs - suc k)) xs) (ap (λ (n : ℕ). get_or xs n x) place ∙ sym is)
    ∙ ap (λ (n : ℕ). x ∷ drop n xs) next

pub rest_of : (xs : List (Bor Dom × Bor Typed)) (k : ℕ) (x : Bor Dom × Bor Typed) → k < length xs → x ≡ get_or xs (length xs - 1 - k) x
    → drop (length xs - suc k) (map shown_pair xs) ≡ shown_pair x ∷ drop (length xs - k) (map shown_pair xs)
rest_of xs k x within is =
    drop-map shown_pair (length xs - suc k) xs ∙ ap (map shown_pair) (rest_at xs k x within is) ∙ ap (λ (ps : List Pair). shown_pair x ∷ ps) (sym (drop-map shown_pair (length xs - k) xs))

-- one argument more from the end
pub given_more : (p : Pair) (ps rest old new : List Pair) (had has : ℕ → Bool) → rest ≡ p ∷ ps → old ≡ given_pairs ps → ((q : ℕ) → had q ≡ list_any (is_for_root q) ps)
    → new ≡ (if had p.0.root then old else old ++ p ∷ []) → ((q : ℕ) → has q ≡ (nat_eq q p.0.root || had q))
    → (new ≡ given_pairs rest) × ((q : ℕ) → has q ≡ list_any (is_for_root q) rest)
given_more p ps rest old new had has is given met more_given more_met = (
  more_given ∙ ap (λ (b : Bool). if b then old else old ++ p ∷ []) (met p.0.root) ∙ ap (λ (xs : List Pair). if list_any (is_for_root p.0.root) ps then xs else xs ++ p ∷ []) given ∙ ap given_pairs (sym is),
  λ q. more_met q ∙ ap (λ (b : Bool). nat_eq q p.0.root || b) (met q) ∙ ap (list_any (is_for_root q)) (sym is),
)

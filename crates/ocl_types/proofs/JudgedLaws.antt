-- A rule that is computed decides what is judged: it answers what that is, and a fault only where it stands, and where one stands.
use Rattle.std.proofs.Common.{◌≡◌, Bool, true, false, Option, None, Some, Ok, Err, refl, sym, ap, ◌∙◌, subst, ◌⊎◌, ⊎_elim, inl, inr, true≢false}
use Rattle.std.specs.Prelude.{IsTrue, ◌↔◌}
use Rattle.ocl_environments.specs.declared.fault.TypeFault.{TypeFault}
use Rattle.ocl_environments.specs.Outcomes.{RuleResult, and_then, asking}
use Rattle.ocl_types.specs.Judged.{Judged, gives, refuses, tells, says, asks, finds, taking, both}

pub record Decides {X : Type 0} (r : RuleResult X) (j : Judged X) : Type 0 where
  pub told : (x : X) → r ≡ Ok x → j.has x
  pub only : (x : X) → j.has x → r ≡ Ok x
  pub fault : (f : TypeFault) → r ≡ Err f → j.stands f
  pub refused : (f : TypeFault) → j.stands f → (x : X) → r ≡ Ok x → ⊥

pub ok_err : {X : Type 0} (r : RuleResult X) (x : X) (f : TypeFault) → r ≡ Ok x → r ≡ Err f → ⊥
ok_err r x f is isnt = cc

pub ok_ok : {X : Type 0} (r : RuleResult X) (x y : X) → r ≡ Ok x → r ≡ Ok y → x ≡ y
ok_ok r x y one other = cc

pub err_err : {X : Type 0} (r : RuleResult X) (f g : TypeFault) → r ≡ Err f → r ≡ Err g → f ≡ g
err_err r f g one other = cc

pub gives_decides : {X : Type 0} (x : X) → Decides (Ok x) (gives x)
gives_decides x = record {
  told = λ y h. ok_ok (Ok x) y x h refl;
  only = λ y h. ap (λ z. Ok z) (sym h);
  fault = λ f h. ok_err (Ok x) x f refl h;
  refused = λ f h y e. h;
}

pub refuses_decides : {X : Type 0} (f : TypeFault) → Decides {X = X} (Err f) (refuses f)
refuses_decides f = record {
  told = λ x h. ok_err (Err f) x f h refl;
  only = λ x h. absurd h;
  fault = λ g h. err_err (Err f) g f h refl;
  refused = λ g h x e. ok_err (Err f) x f e refl;
}

pub tells_decides : {X : Type 0} (r : RuleResult X) → Decides r (tells r)
tells_decides r = record { told = λ x h. h; only = λ x h. h; fault = λ f h. h; refused = λ f h x e. ok_err r x f e h }

pub asks_decides : {X : Type 0} (b : Bool) (P : Type 0) (f : TypeFault) (r : RuleResult X) (j : Judged X) → (IsTrue b ↔ P) → Decides r j → Decides (asking b f r) (asks P f j)
asks_decides true P f r j is d = record {
  told = λ x h. (is.0 refl, d.told x h);
  only = λ x h. d.only x h.1;
  fault = λ g h. inr (d.fault g h);
  refused = λ g h x e. ⊎_elim (λ n. n.0 (is.0 refl)) (λ s. d.refused g s x e) h;
}
asks_decides false P f r j is d = record {
  told = λ x h. absurd (ok_err (Err f) x f h refl);
  only = λ x h. absurd (true≢false (sym (is.1 h.0)));
  fault = λ g h. inl ((λ p. true≢false (sym (is.1 p))), err_err (Err f) g f h refl);
  refused = λ g h x e. ok_err (Err f) x f e refl;
}

pub finds_decides : {X Y : Type 0} (o : Option X) (f : TypeFault) (r : Option X → RuleResult Y) (rest : X → Judged Y) → r None ≡ Err f → ((x : X) → Decides (r (Some x)) (rest x))
    → Decides (r o) (finds o f rest)
finds_decides None f r rest none some = subst (λ q. Decides q (refuses f)) (sym none) (refuses_decides f)
finds_decides (Some x) f r rest none some = some x

pub then_ok : {X Y : Type 0} (r : RuleResult X) (k : X → RuleResult Y) (y : Y) → and_then r k ≡ Ok y → (x : X) × (r ≡ Ok x) × (k x ≡ Ok y)
then_ok (Ok x) k y h = (x, refl, h)
then_ok (Err f) k y h = absurd (ok_err (Err f) y f h refl)

pub then_err : {X Y : Type 0} (r : RuleResult X) (k : X → RuleResult Y) (f : TypeFault) → and_then r k ≡ Err f → (r ≡ Err f) ⊎ ((x : X) × (r ≡ Ok x) × (k x ≡ Err f))
then_err (Ok x) k f h = inr (x, refl, h)
then_err (Err g) k f h = inl (ap (λ e. Err e) (err_err (Err g) g f refl h))

pub taking_decides : {X Y : Type 0} (r : RuleResult X) (k : X → RuleResult Y) (j : Judged X) (rest : X → Judged Y)
    → Decides r j → ((x : X) → j.has x → Decides (k x) (rest x)) → Decides (and_then r k) (taking j rest)
taking_decides {X = X} {Y = Y} r k j rest d dk = record { told = told; only = only; fault = fault; refused = refused }
  where
    told : (y : Y) → and_then r k ≡ Ok y → (taking j rest).has y
    told y h = let o = then_ok r k y h in let x = d.told o.0 o.1 in (o.0, x, (dk o.0 x).told y o.2)

    only : (y : Y) → (taking j rest).has y → and_then r k ≡ Ok y
    only y h = ap (λ o. and_then o k) (d.only h.0 h.1) ∙ (dk h.0 h.1).only y h.2

    fault : (f : TypeFault) → and_then r k ≡ Err f → (taking j rest).stands f
    fault f h = ⊎_elim (λ e. inl (d.fault f e)) (λ o. let x = d.told o.0 o.1 in inr (o.0, x, (dk o.0 x).fault f o.2)) (then_err r k f h)

    refused : (f : TypeFault) → (taking j rest).stands f → (y : Y) → and_then r k ≡ Ok y → ⊥
    refused f h y e = ⊎_elim (λ s. let o = then_ok r k y e in d.refused f s o.0 o.1)
        (λ s. (dk s.0 s.1).refused f s.2 y (ap (λ o. and_then o k) (sym (d.only s.0 s.1)) ∙ e)) h

-- what is computed decides what a relation says
pub says_decides : {X : Type 0} (r : RuleResult X) (R : X → Type 0) (S : TypeFault → Type 0) → ((x : X) → r ≡ Ok x → R x) → ((x : X) → R x → r ≡ Ok x) → ((f : TypeFault) → r ≡ Err f → S f)
    → Decides r (says R S)
says_decides r R S told only fault = record {
  told = told;
  only = only;
  fault = λ f is. ((λ x has. ok_err r x f (only x has) is), fault f is);
  refused = λ f stands x is. stands.0 x (told x is);
}

-- a demand that isn't met leaves open what comes behind it
pub asks_where : {X : Type 0} (b : Bool) (P : Type 0) (f : TypeFault) (r : RuleResult X) (j : Judged X) → (IsTrue b ↔ P) → (P → Decides r j) → Decides (asking b f r) (asks P f j)
asks_where true P f r j is d = asks_decides true P f r j is (d (is.0 refl))
asks_where false P f r j is d = record {
  told = λ x h. absurd (ok_err (Err f) x f h refl);
  only = λ x h. absurd (true≢false (sym (is.1 h.0)));
  fault = λ g h. inl ((λ p. true≢false (sym (is.1 p))), err_err (Err f) g f h refl);
  refused = λ g h x e. ok_err (Err f) x f e refl;
}

-- one after the other
abbrev pub pair : {X Y : Type 0} → RuleResult X → RuleResult Y → RuleResult (X × Y)
pair r s = and_then r (λ x. and_then s (λ y. Ok (x, y)))

pair_ok : {X Y : Type 0} (r : RuleResult X) (s : RuleResult Y) (x : X) (y : Y) → r ≡ Ok x → s ≡ Ok y → pair r s ≡ Ok (x, y)
pair_ok r s x y one other = ap (λ o. and_then o (λ a. and_then s (λ b. Ok (a, b)))) one ∙ ap (λ o. and_then o (λ b. Ok (x, b))) other

pub both_decides : {X Y : Type 0} (r : RuleResult X) (s : RuleResult Y) (i : Judged X) (j : Judged Y) → Decides r i → Decides s j → Decides (pair r s) (both i j)
both_decides {X = X} {Y = Y} r s i j d e = record { told = told; only = only; fault = fault; refused = refused }
  where
    parts : (p : X × Y) → pair r s ≡ Ok p → (r ≡ Ok p.0) × (s ≡ Ok p.1)
    parts p h =
        let one = then_ok r (λ x. and_then s (λ y. Ok (x, y))) p h in
        let other = then_ok s (λ y. Ok (one.0, y)) p one.2 in
        let same : (one.0, other.0) ≡ p = ok_ok (Ok (one.0, other.0)) (one.0, other.0) p refl other.2 in
        (one.1 ∙ ap (λ (q : X × Y). Ok q.0) same, other.1 ∙ ap (λ (q : X × Y). Ok q.1) same)

    told : (p : X × Y) → pair r s ≡ Ok p → (both i j).has p
    told p h = let o = parts p h in (d.told p.0 o.0, e.told p.1 o.1)

    only : (p : X × Y) → (both i j).has p → pair r s ≡ Ok p
    only p h = pair_ok r s p.0 p.1 (d.only p.0 h.0) (e.only p.1 h.1)

    fault : (f : TypeFault) → pair r s ≡ Err f → (both i j).stands f
    fault f h = ⊎_elim (λ a. inl (d.fault f a))
        (λ o. ⊎_elim (λ b. inr (e.fault f b)) (λ q. absurd (ok_err (Ok (o.0, q.0)) (o.0, q.0) f refl q.2)) (then_err s (λ y. Ok (o.0, y)) f o.2))
        (then_err r (λ x. and_then s (λ y. Ok (x, y))) f h)

    refused : (f : TypeFault) → (both i j).stands f → (p : X × Y) → pair r s ≡ Ok p → ⊥
    refused f h p is = let o = parts p is in ⊎_elim (λ a. d.refused f a p.0 o.0) (λ b. e.refused f b p.1 o.1) h

-- ---- one after another, in other brackets

pub regrouped : {X Y Z : Type 0} (r : RuleResult X) (k : X → RuleResult Y) (l : Y → RuleResult Z) → and_then (and_then r k) l ≡ and_then r (λ x. and_then (k x) l)
regrouped (Ok x) k l = refl
regrouped (Err f) k l = refl

pub paired : {X Y Z : Type 0} (r : RuleResult X) (s : RuleResult Y) (k : X → Y → RuleResult Z) → and_then (pair r s) (λ p. k p.0 p.1) ≡ and_then r (λ x. and_then s (k x))
paired (Ok x) (Ok y) k = refl
paired (Ok x) (Err f) k = refl
paired (Err f) s k = refl

pub asked : {X : Type 0} (b : Bool) (f : TypeFault) (r : RuleResult X) → and_then (asking b f (Ok tt)) (λ (u : Unit {0}). r) ≡ asking b f r
asked true f r = refl
asked false f r = refl

pub two_decide : {X Y Z : Type 0} (r : RuleResult X) (s : RuleResult Y) (k : X → Y → RuleResult Z) (i : Judged X) (j : Judged Y) (rest : X × Y → Judged Z)
    → Decides r i → Decides s j → ((x : X) (y : Y) → i.has x → j.has y → Decides (k x y) (rest (x, y))) → Decides (and_then r (λ x. and_then s (k x))) (taking (both i j) rest)
two_decide r s k i j rest d e dk = subst (λ q. Decides q (taking (both i j) rest)) (paired r s k)
    (taking_decides (pair r s) (λ p. k p.0 p.1) (both i j) rest (both_decides r s i j d e) (λ p h. dk p.0 p.1 h.0 h.1))

pub asked_decides : {X : Type 0} (b : Bool) (P : Type 0) (f : TypeFault) (r : RuleResult X) (j : Judged X) → (IsTrue b ↔ P) → Decides r j
    → Decides (and_then (asking b f (Ok tt)) (λ (u : Unit {0}). r)) (asks P f j)
asked_decides b P f r j is d = subst (λ q. Decides q (asks P f j)) (sym (asked b f r)) (asks_decides b P f r j is d)

pub asked_where : {X : Type 0} (b : Bool) (P : Type 0) (f : TypeFault) (r : RuleResult X) (j : Judged X) → (IsTrue b ↔ P) → (P → Decides r j)
    → Decides (and_then (asking b f (Ok tt)) (λ (u : Unit {0}). r)) (asks P f j)
asked_where b P f r j is d = subst (λ q. Decides q (asks P f j)) (sym (asked b f r)) (asks_where b P f r j is d)
